-- The law of runs from its parts.
use Rattle.std.proofs.Common.{Bool, List, ap, arith, false, length, refl, subst, suc, sym, take, take_all, true, zero, ℕ, ◌+◌, ◌<◌, ◌==◌, ◌∙◌, ◌∷◌, ◌≡◌, ◌≤◌}
use Rattle.std.specs.Prelude.{filter, if◌then◌else◌}
use Rattle.std.specs.List.{range_with_len}
use Rattle.std.proofs.lemmas.Bool.Decides.{nat_tests}
use Rattle.std.proofs.lemmas.List.FromFn.{get_or-map-range_with_len, length-map-range_with_len}
use Rattle.law_all.specs.inv.model.Locals.{Group}
use Rattle.law_all.specs.inv.model.defs.Pairs.{pairs_after}
use Rattle.law_all.specs.inv.model.defs.declared.fold.Change.{Change}
use Rattle.law_all.specs.inv.model.words.Place.{row_count}
use Rattle.law_all.specs.inv.model.words.declared.layout.Layout.{Layout}
use Rattle.law_all.specs.laws.StateAt.{clock_of, is_among, one, taken_at}
use Rattle.law_all.specs.laws.StructuresAt.{Filling, changes_of, filling_at, queued_of, taken_of}
use Rattle.law_all.specs.inv.history.History.{record_of}
use Rattle.law_all.specs.inv.history.Record.{Past}
use Rattle.law_all.proofs.Runs.Agrees.{runs_agree}
use Rattle.law_all.proofs.Runs.Keeping.{runs_keep}
use Rattle.law_all.proofs.Runs.Bounds.{bounds}
use Rattle.law_all.proofs.Runs.Lists.{runs_list}
use Rattle.law_all.proofs.Runs.Sums.{runs_add_up}
use Rattle.law_all.proofs.Runs.Ticks.{runs_tick}
use Rattle.law_all.specs.RunLaw.{backs_in, bucket_in, gives, no_bucket, total, unuseds}
use Rattle.law_all.specs.Runs.{AddsUp, Agrees, RunsAddUp, RunsAgree, RunsAreLawful, RunsKeep, RunsList, RunsTick, Ticks, at_close, logs_of}

-- a bucket of the closed table is that of the record
pub bucket_closed : (layout : Layout) (p : Past) (b : ℕ) → b < layout.config.buckets → bucket_in b (at_close layout p) ≡ filling_at p b
bucket_closed layout p b low = get_or-map-range_with_len (filling_at p) 0 layout.config.buckets b b no_bucket low (omega arith)

-- all changes of a bucket are those up to its last version
pub all_changes : (cs : List Change) → pairs_after (take (length cs) cs) ≡ pairs_after cs
all_changes cs = ap pairs_after (take_all (length cs) cs (omega arith))

-- a number of a range passes a test exactly where it is among those that do
off_front : (first slot : ℕ) (passes : Bool) (rest : List ℕ) → (first == slot) ≡ false → is_among slot (if passes then first ∷ rest else rest) ≡ is_among slot rest
off_front first slot true rest e = rw e refl
off_front first slot false rest e = refl

among_below : (test : ℕ → Bool) (first count slot : ℕ) → slot < first → is_among slot (filter test (range_with_len first count)) ≡ false
among_below test first zero slot low = refl
among_below test first (suc count) slot low =
    off_front first slot (test first) (filter test (range_with_len (first + 1) count)) (grind (arith, nat_tests))
    ∙ among_below test (first + 1) count slot (omega arith)

at_front : (first : ℕ) (passes : Bool) (rest : List ℕ) → is_among first rest ≡ false → is_among first (if passes then first ∷ rest else rest) ≡ passes
at_front first true rest e = grind (arith, nat_tests)
at_front first false rest e = e

among_by : (test : ℕ → Bool) (first slot : ℕ) (rest : List ℕ) (same : Bool) → (first == slot) ≡ same → is_among first rest ≡ false → (same ≡ false → is_among slot rest ≡ test slot)
    → is_among slot (if test first then first ∷ rest else rest) ≡ test slot
among_by test first slot rest true e none some =
    let at : first ≡ slot = grind (arith, nat_tests) in
    subst (λ (n : ℕ). is_among n (if test first then first ∷ rest else rest) ≡ test n) at (at_front first (test first) rest none)
among_by test first slot rest false e none some = off_front first slot (test first) rest e ∙ some refl

among_range : (test : ℕ → Bool) (first count slot : ℕ) → first ≤ slot → slot < first + count → is_among slot (filter test (range_with_len first count)) ≡ test slot
among_range test first zero slot low high = absurd (omega arith)
among_range test first (suc count) slot low high =
    among_by test first slot (filter test (range_with_len (first + 1) count)) (first == slot) refl
    (among_below test (first + 1) count first (omega arith))
    (λ (off : (first == slot) ≡ false). among_range test (first + 1) count slot (grind (arith, nat_tests)) (omega arith))

-- a range's numbers that pass a test are those that pass one which is the same there
same_filter : (test other : ℕ → Bool) (first count : ℕ) → ((slot : ℕ) → first ≤ slot → slot < first + count → test slot ≡ other slot)
    → filter test (range_with_len first count) ≡ filter other (range_with_len first count)
same_filter test other first zero h = refl
same_filter test other first (suc count) h =
    ap (λ (b : Bool). if b then first ∷ filter test (range_with_len (first + 1) count) else filter test (range_with_len (first + 1) count))
    (h first (omega arith) (omega arith))
    ∙ ap (λ (rest : List ℕ). if other first then first ∷ rest else rest)
    (same_filter test other (first + 1) count (λ slot low high. h slot (omega arith) (omega arith)))

-- the whole law, by its parts
by_parts : RunsAddUp → RunsAgree → RunsKeep → RunsTick → RunsList → RunsAreLawful
by_parts add agree keep tick list layout items rest =
    let p : Past = record_of layout items in
    let logs : List (List Group) = logs_of layout items in
    let sums : AddsUp layout p logs = add layout items rest in
    let says : Agrees layout.config p logs = agree layout items rest in
    let ticks : Ticks layout.config (clock_of p) logs = tick layout items rest in
    let close : (b : ℕ) → b < layout.config.buckets → bucket_in b (at_close layout p) ≡ filling_at p b = bucket_closed layout p in
    record {
      made = λ b. changes_of b p;
      queued = queued_of p;
      taken = taken_of p;
      answered = says.answered;
      versions = record {
        buckets = length-map-range_with_len (filling_at p) 0 layout.config.buckets;
        version = λ b low. ap (λ (bucket : Filling). bucket.version) (close b low);
        once = sums.changes;
        pairs = λ b low. ap (λ (bucket : Filling). bucket.pairs) (close b low) ∙ all_changes (changes_of b p);
        reads = says.reads;
      };
      rises = says.rises;
      keeps = keep layout items rest;
      queue = record {
        most = (bounds layout items rest.valid).taken;
        once_queued = sums.queued;
        once_taken = sums.taken;
        right = says.queue;
        queued_rise = says.queued_rise;
        taken_rise = says.taken_rise;
        taken_first = says.taken_first;
        left = refl;
        empty = says.empty;
      };
      rows = record {
        used =
            same_filter (λ (s : ℕ). taken_at layout.config.slots s p) (λ (s : ℕ). is_among s (at_close layout p).used) 0 (row_count layout)
            (λ slot low high. sym (among_range (λ (s : ℕ). taken_at layout.config.slots s p) 0 (row_count layout) slot low high));
        balance = λ slot low.
            let used : is_among slot (at_close layout p).used ≡ taken_at layout.config.slots slot p =
            among_range (λ (s : ℕ). taken_at layout.config.slots s p) 0 (row_count layout) slot (omega arith) (omega arith) in
            subst
            (λ (taken : Bool). total (gives slot) logs + one (slot == layout.config.slots) ≡ total (unuseds slot) logs + total (backs_in slot) logs + one taken)
            (sym used) (sums.rows slot low);
      };
      lists = list layout items rest;
      eras = record { most = ticks.most; once = sums.eras; later = ticks.later; seen = ticks.seen; rise = ticks.rise; spent = ticks.spent; final = ticks.final };
    }

pub runs_are_lawful : RunsAreLawful
runs_are_lawful = by_parts runs_add_up runs_agree runs_keep runs_tick runs_list
