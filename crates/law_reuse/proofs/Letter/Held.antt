-- The laws on what stands, from those of histories, in which one row stands at an index at most.
use Rattle.std.proofs.Common.{ℕ, ◌≡◌, Bool, true, false, refl, sym, arith, None, Some, Option, subst, ◌∙◌, ◌+◌}
use Rattle.std.proofs.lemmas.Bool.Decides.{nat_tests}
use Rattle.std.specs.Prelude.{◌==◌, if◌then◌else◌, ◌&&◌, ◌||◌, not, is_none, nat_le, nat_lt, suc, zero, ◌<◌}
use Rattle.laws.proofs.records.Entries.{each_before, each_of_entries, entries_of_each}
use Rattle.laws.proofs.records.defs.Facts.{both, or_along}
use Rattle.laws.proofs.Along.{row_of}
use Rattle.laws.specs.HistoryHolds as strong
use Rattle.laws.specs.HistoryHolds.{HistoryHolds, HistoryStands, clears_ok, protects_at, clears_at}
use Rattle.laws.specs.HoldLaw as weak
use Rattle.laws.specs.HoldLaw.{HoldLaw, has_had}
use Rattle.laws.specs.HistoryHolds.{LoneLaw, lone_ok}
use Rattle.laws.specs.Once.{is_slot}
use Rattle.laws.specs.NoReuse.{NoReuse, reuse_ok}
use Rattle.laws.specs.Standing.{Standing, may_hold, may_miss, may_clear}
use Rattle.laws.specs.Standing as standing
use Rattle.laws.specs.StateAt.{stood_at, is_row, began_of, null_of, null_by, seen, has_told, published_at, value_of, bucket_at, head_at, tail_at, next_at}
use Rattle.laws.specs.StructuresAt.{row_at}
use Rattle.laws.specs.defs.Events.{is_null}
use Rattle.laws.specs.defs.declared.shown.Shown.{Shown}
use Rattle.laws.specs.defs.declared.shown.Shown.TheVariants.{Eras, Nothing, Row}
use Rattle.laws.specs.defs.Shown.{shown}
use Rattle.laws.specs.defs.declared.call.Call.{Call}
use Rattle.laws.specs.defs.declared.call.Call.TheVariants as calls
use Rattle.laws.specs.defs.declared.event.Event.{Event}
use Rattle.laws.specs.defs.declared.event.Event.TheVariants as events
use Rattle.laws.specs.defs.declared.event.Guard.TheVariants.{Helper, Index, Whole}
use Rattle.laws.specs.defs.declared.event.Root.TheVariants as roots
use Rattle.laws.specs.records.Record.{Past, Each, held_since, begins}
use Rattle.laws.specs.records.Record.Past.{Start, Then}
use Rattle.laws.specs.words.declared.config.Config.{Config}
use Rattle.laws.specs.words.declared.config.SchemeKind.{SchemeKind}
use Rattle.laws.specs.words.Schemes.{has_one_interval}
use Rattle.law_reuse.proofs.Letter.Each.{follows, follow_both, each_weaker, counted_by, times_seen, related}
use Rattle.law_reuse.proofs.Letter.Stands.{stands_one, bare_one, one_stands, one_row}

-- no row is used again while it stands
reuse_part : (k j s : ℕ) (p : Past) (i : ℕ) (event : Event) → Each lone_ok p → Each clears_ok p → strong.reuse_ok k j s p i event ≡ true → reuse_ok k j s p i event ≡ true
reuse_part k j s p i event l c h = rw (stands_one k j s p l c) h

pub no_reuse : (r : Past) → LoneLaw r → HistoryStands r → NoReuse r
no_reuse r l h =
    record {
      reuse = λ k j s. entries_of_each (reuse_ok k j s) r (follows (strong.reuse_ok k j s) (reuse_ok k j s) (λ p i event a b e g. reuse_part k j s p i event a b g) r (each_of_entries lone_ok r l) (each_of_entries clears_ok r h.clears) (each_of_entries (strong.reuse_ok k j s) r (h.reuse k j s)));
    }

-- what seats clear, and at which indexes
clear_part : (p : Past) (i : ℕ) (event : Event) → Each lone_ok p → Each clears_ok p → clears_ok p i event ≡ true → standing.clears_ok p i event ≡ true
clear_part p i (events.Clear index slot) l c h = rw (stands_one i index slot p l c) h
clear_part p i event l c h = refl

holds_by : (call : Option Call) (index : ℕ) → protects_at call index ≡ true → may_hold call index ≡ true
holds_by (Some (calls.Get key)) index h = grind (arith, nat_tests)
holds_by (Some (calls.Put key value)) index h = grind (arith, nat_tests)
holds_by (Some (calls.Remove key)) index h = grind (arith, nat_tests)
holds_by (Some (calls.Enqueue value)) index h = grind (arith, nat_tests)
holds_by (Some calls.Dequeue) index h = grind (arith, nat_tests)
holds_by (Some (calls.Hold key)) index h = grind (arith, nat_tests)
holds_by (Some calls.Release) index h = absurd (cc)
holds_by (Some calls.Advance) index h = absurd (cc)
holds_by (Some calls.Scan) index h = absurd (cc)
holds_by (Some (calls.PutIf key value version)) index h = grind (arith, nat_tests)
holds_by (Some (calls.Copy from to)) index h = absurd (cc)
holds_by (Some (calls.DropIndex dropped)) index h = absurd (cc)
holds_by (Some (calls.Look at key)) index h = absurd (cc)
holds_by (Some calls.Leave) index h = absurd (cc)
holds_by (Some (calls.Adopt place)) index h = absurd (cc)
holds_by None index h = absurd (cc)

misses_by : (call : Option Call) (index : ℕ) → protects_at call index ≡ true → may_miss call index ≡ true
misses_by (Some (calls.Get key)) index h = grind (arith, nat_tests)
misses_by (Some (calls.Put key value)) index h = grind (arith, nat_tests)
misses_by (Some (calls.Remove key)) index h = grind (arith, nat_tests)
misses_by (Some (calls.Enqueue value)) index h = grind (arith, nat_tests)
misses_by (Some calls.Dequeue) index h = grind (arith, nat_tests)
misses_by (Some (calls.Hold key)) index h = grind (arith, nat_tests)
misses_by (Some calls.Release) index h = absurd (cc)
misses_by (Some calls.Advance) index h = absurd (cc)
misses_by (Some calls.Scan) index h = absurd (cc)
misses_by (Some (calls.PutIf key value version)) index h = grind (arith, nat_tests)
misses_by (Some (calls.Copy from to)) index h = absurd (cc)
misses_by (Some (calls.DropIndex dropped)) index h = absurd (cc)
misses_by (Some (calls.Look at key)) index h = absurd (cc)
misses_by (Some calls.Leave) index h = absurd (cc)
misses_by (Some (calls.Adopt place)) index h = absurd (cc)
misses_by None index h = absurd (cc)

clears_by : (call : Option Call) (index : ℕ) → clears_at call index ≡ true → may_clear call index ≡ true
clears_by (Some (calls.Get key)) index h = grind (arith, nat_tests)
clears_by (Some (calls.Put key value)) index h = grind (arith, nat_tests)
clears_by (Some (calls.Remove key)) index h = grind (arith, nat_tests)
clears_by (Some (calls.Enqueue value)) index h = grind (arith, nat_tests)
clears_by (Some calls.Dequeue) index h = grind (arith, nat_tests)
clears_by (Some (calls.Hold key)) index h = grind (arith, nat_tests)
clears_by (Some calls.Release) index h = grind (arith, nat_tests)
clears_by (Some calls.Advance) index h = absurd (cc)
clears_by (Some calls.Scan) index h = absurd (cc)
clears_by (Some (calls.PutIf key value version)) index h = grind (arith, nat_tests)
clears_by (Some (calls.Copy from to)) index h = grind (arith, nat_tests)
clears_by (Some (calls.DropIndex dropped)) index h = grind (arith, nat_tests)
clears_by (Some (calls.Look at key)) index h = absurd (cc)
clears_by (Some calls.Leave) index h = grind (arith, nat_tests)
clears_by (Some (calls.Adopt place)) index h = absurd (cc)
clears_by None index h = absurd (cc)

index_part : (p : Past) (i : ℕ) (event : Event) → strong.indexes_ok p i event ≡ true → standing.indexes_ok p i event ≡ true
index_part p i (events.Held index slot steps) h = holds_by (began_of i p) index h
index_part p i (events.Null index steps) h = misses_by (began_of i p) index h
index_part p i (events.Clear index slot) h = clears_by (began_of i p) index h
index_part p i event h = refl

-- what is copied stands where it is copied from, and nothing where it is copied to
copied_by : (call stood bare low up : Bool) → (call && (stood && (low && up))) ≡ true → bare ≡ true → (call && (stood && (bare && (low && up)))) ≡ true
copied_by true true bare low up h b = both bare (low && up) b h
copied_by true false bare low up h b = absurd (cc)
copied_by false stood bare low up h b = absurd (cc)

copies_by : (r : Past) → Each lone_ok r → Each clears_ok r → Each strong.copies_ok r → Each standing.copies_ok r
copies_by Start l c h = tt
copies_by (Then p i event) l c h = (entry event l.0 l.1 c.1 h.0, copies_by p l.1 c.1 h.1)
  where
    entry : (event : Event) → lone_ok p i event ≡ true → Each lone_ok p → Each clears_ok p → strong.copies_ok p i event ≡ true → standing.copies_ok p i event ≡ true
    entry (events.Copied from index slot) alone l c h =
        rw (stands_one i from slot p l c, bare_one i index p l c) (copied_by (standing.is_copy from index (began_of i p)) (is_row slot (stood_at i from p)) (is_none (stood_at i index p)) (nat_le 2 from) (nat_lt from index) h alone)
    entry event alone l c h = refl

pub standing_kept : (r : Past) → LoneLaw r → HistoryStands r → Standing r
standing_kept r l h =
    record {
      clears = entries_of_each standing.clears_ok r (follows clears_ok standing.clears_ok (λ p i event a b e g. clear_part p i event a b g) r (each_of_entries lone_ok r l) (each_of_entries clears_ok r h.clears) (each_of_entries clears_ok r h.clears));
      indexes = entries_of_each standing.indexes_ok r (each_weaker strong.indexes_ok standing.indexes_ok index_part r (each_of_entries strong.indexes_ok r h.indexes));
      copies = entries_of_each standing.copies_ok r (copies_by r (each_of_entries lone_ok r l) (each_of_entries clears_ok r h.clears) (each_of_entries strong.copies_ok r h.copies));
    }

-- a row that stands is the one
throughout_part : (config : Config) (r : Past) → LoneLaw r → HistoryStands r → strong.StoodThroughout config r → weak.HeldThroughout config r
throughout_part config r l h t before later k j s cut g =
    let a : Each lone_ok before = each_before lone_ok before later (subst (Each lone_ok) cut (each_of_entries lone_ok r l)) in
    let b : Each clears_ok before = each_before clears_ok before later (subst (Each clears_ok) cut (each_of_entries clears_ok r h.clears)) in
    t before later k j s cut (row_of s (stood_at k j before) (sym (stands_one k j s before a b) ∙ g))

source_by : (index : ℕ) (had : Bool) → (index == 1 || had) ≡ true → (not (weak.is_of_root index) || had) ≡ true
source_by index had h = grind (arith, nat_tests)

source_part : (config : Config) (p : Past) (i : ℕ) (event : Event) → strong.sources_ok config p i event ≡ true → weak.sources_ok config p i event ≡ true
source_part config p i (events.Held index slot steps) h = source_by index (has_had config i p (began_of i p) (Some slot)) h
source_part config p i (events.Null index steps) h = source_by index (has_had config i p (began_of i p) None) h
source_part config p i event h = refl

-- a call that found none last has told so
abbrev NullTold : Bool → ℕ → Type 0
NullTold null count = null ≡ true → nat_lt 0 count ≡ true

null_held : (index : ℕ) (null : Bool) (count : ℕ) → NullTold null count → (if index == 0 then false else null) ≡ true → nat_lt 0 count ≡ true
null_held index true count n h = n refl
null_held index false count n h = absurd (by (index == 0) h)
  where
    by : (b : Bool) → (if b then false else false) ≡ true → ⊥
    by true e = cc
    by false e = cc

null_null : (here null : Bool) (count : ℕ) → NullTold null count → (if here then true else null) ≡ true → nat_lt 0 (if here then count + 1 else count) ≡ true
null_null true null count n h = grind (arith, nat_tests)
null_null false null count n h = n h

null_keeps : (event : Event) (x : Bool) (y : ℕ) → NullTold x y → NullTold (null_by event x) (counted_by (is_null 0) event y)
null_keeps (events.Begin call) x y n = λ e. absurd (cc)
null_keeps (events.Held index slot steps) x y n = λ e. null_held index x y n e
null_keeps (events.Null index steps) x y n = λ e. null_null (index == 0) x y n e
null_keeps event x y n = n

pub all_right : (p : Past) → Each (λ q k event. true) p
all_right Start = tt
all_right (Then p i event) = (refl, all_right p)

null_told : (i : ℕ) (p : Past) → null_of i p ≡ true → has_told i (is_null 0) p ≡ true
null_told i p h =
    let n : NullTold (seen null_by false i p) (seen (counted_by (is_null 0)) 0 i p) = related NullTold null_by false (counted_by (is_null 0)) 0 (λ event x. true) i (λ e. absurd (cc)) (λ event x y g n. null_keeps event x y n) p (all_right p) in
    rw (times_seen (is_null 0) i p) (n h)

got_by : (version i : ℕ) (p : Past) (row : Option ℕ) (first : Bool) → Each lone_ok p → Each clears_ok p → (if first then null_of i p else strong.stands_as row (stood_at i 0 p)) ≡ true → (if first then has_told i (is_null 0) p else weak.stands_as i 0 p row) ≡ true
got_by version i p row true l c h = null_told i p h
got_by version i p None false l c h = absurd (cc)
got_by version i p (Some slot) false l c h = rw (stands_one i 0 slot p l c) h

got_part : (p : Past) (i : ℕ) (event : Event) → Each lone_ok p → Each clears_ok p → strong.gots_ok p i event ≡ true → weak.gots_ok p i event ≡ true
got_part p i (events.Got bucket version key value) l c h = got_by version i p (row_at bucket version p) (version == 0) l c h
got_part p i event l c h = refl

-- what a root had stands
stands_by_root : (i : ℕ) (p : Past) (had : Option ℕ) → Each lone_ok p → Each clears_ok p → strong.stands_for had (stood_at i 0 p) ≡ true → weak.stands_for i p had ≡ true
stands_by_root i p None l c h = refl
stands_by_root i p (Some slot) l c h = rw (stands_one i 0 slot p l c) h

link_part : (slots : ℕ) (p : Past) (i : ℕ) (event : Event) → Each lone_ok p → Each clears_ok p → strong.links_ok slots p i event ≡ true → weak.links_ok slots p i event ≡ true
link_part slots p i (events.Link (roots.Bucket bucket) slot) l c h = stands_by_root i p (bucket_at bucket p) l c h
link_part slots p i (events.Link (roots.Next parent) slot) l c h = rw (stands_one i 0 parent p l c) h
link_part slots p i (events.Link roots.Head slot) l c h = rw (stands_one i 0 (head_at slots p) p l c, stands_one i 1 slot p l c) h
link_part slots p i (events.Link roots.Tail slot) l c h = rw (stands_one i 0 (tail_at slots p) p l c, stands_one i 1 slot p l c) h
link_part slots p i event l c h = refl

both_or : (a b c : Bool) → (a || b) ≡ true → (a || c) ≡ true → (a || (b && c)) ≡ true
both_or true b c h k = refl
both_or false b c h k = both b c h k

last_by : (slots i : ℕ) (p : Past) (x : Option ℕ) → strong.was_last slots i p x ≡ true → weak.was_last slots i p (one_row x) ≡ true
last_by slots i p None h = h
last_by slots i p (Some row) h = or_true (held_since (begins i) (weak.is_last slots row) p) h
  where
    or_true : (b : Bool) → b ≡ true → (b || false) ≡ true
    or_true true e = refl
    or_true false e = e

behind_part : (slots : ℕ) (p : Past) (i : ℕ) (event : Event) → Each lone_ok p → Each clears_ok p → strong.follows_ok slots p i event ≡ true → strong.behind_ok slots p i event ≡ true → weak.behind_ok slots p i event ≡ true
behind_part slots p i (events.Held index slot steps) l c f h =
    rw (stands_one i 0 (head_at slots p) p l c) (both_or (not (index == 1)) (is_row (head_at slots p) (stood_at i 0 p)) (is_slot slot (next_at (head_at slots p) p)) f h)
behind_part slots p i (events.Null index steps) l c f h =
    rw (one_stands i 0 p l c) (or_along (not (index == 1)) (strong.was_last slots i p (stood_at i 0 p)) (weak.was_last slots i p (one_row (stood_at i 0 p))) (last_by slots i p (stood_at i 0 p)) h)
behind_part slots p i event l c f h = refl

bare_by : (zero one : Bool) → (zero || false) ≡ true → (one || false) ≡ true → (zero && one) ≡ true
bare_by true true h k = refl
bare_by true false h k = k
bare_by false one h k = h

bare_part : (p : Past) (i : ℕ) (event : Event) → Each lone_ok p → Each clears_ok p → strong.bare_ok 0 p i event ≡ true → strong.bare_ok 1 p i event ≡ true → weak.bare_ok p i event ≡ true
bare_part p i (events.End steps answer) l c h k = rw (bare_one i 0 p l c, bare_one i 1 p l c) (bare_by (is_none (stood_at i 0 p)) (is_none (stood_at i 1 p)) h k)
bare_part p i event l c h k = refl

alike_by : (x : Shown) (y : Option ℕ) → strong.is_alike x y ≡ weak.is_alike x (is_none y)
alike_by Nothing None = refl
alike_by Nothing (Some slot) = refl
alike_by (Eras span) None = refl
alike_by (Eras span) (Some slot) = refl
alike_by (Row row) None = refl
alike_by (Row row) (Some slot) = refl

-- what a seat keeps at indexes from 2 on
keeps_by : (i : ℕ) (p : Past) (below : ℕ) → Each lone_ok p → Each clears_ok p → weak.keeps_none i p below ≡ is_none (strong.kept_below i p below)
keeps_by i p zero l c = refl
keeps_by i p (suc j) l c = rw (keeps_by i p j l c, bare_one i j p l c) (one_more (nat_lt j 2) (stood_at i j p) (strong.kept_below i p j))
  where
    one_more : (low : Bool) (x kept : Option ℕ) → ((low || is_none x) && is_none kept) ≡ is_none (strong.first_of kept (if low then None else x))
    one_more true x None = refl
    one_more true x (Some slot) = refl
    one_more false None None = refl
    one_more false None (Some slot) = refl
    one_more false (Some other) None = refl
    one_more false (Some other) (Some slot) = refl

span_part : (config : Config) → has_one_interval config.scheme ≡ true → (p : Past) (i : ℕ) (event : Event) → Each lone_ok p → Each clears_ok p → strong.spans_ok config p i event ≡ true → weak.rests_ok config p i event ≡ true
span_part config one p i (events.End steps answer) l c h = rw (one, keeps_by i p config.indexes l c, ← alike_by (shown (value_of (Whole i) p)) (strong.kept_below i p config.indexes)) h
span_part config one p i event l c h = refl

-- each index word below a number
index_by : (scheme : SchemeKind) (i j : ℕ) (p : Past) → Each lone_ok p → Each clears_ok p → strong.index_rests scheme i p j ≡ true → weak.index_rests scheme i p j ≡ true
index_by scheme i j p l c h = rw (bare_one i j p l c, ← alike_by (published_at scheme (Index i j) p) (stood_at i j p)) h

indexes_by : (scheme : SchemeKind) (i : ℕ) (p : Past) (below : ℕ) → Each lone_ok p → Each clears_ok p → ((j : ℕ) → j < below → strong.index_rests scheme i p j ≡ true) → weak.indexes_rest scheme i p below ≡ true
indexes_by scheme i p zero l c h = refl
indexes_by scheme i p (suc j) l c h =
    both (weak.index_rests scheme i p j) (weak.indexes_rest scheme i p j) (index_by scheme i j p l c (h j (omega arith))) (indexes_by scheme i p j l c (λ k low. h k (omega (arith, low))))

words_by : (config : Config) → has_one_interval config.scheme ≡ false → (r : Past) → Each lone_ok r → Each clears_ok r → Each strong.helpers_ok r → ((j : ℕ) → j < config.indexes → Each (strong.words_ok config.scheme j) r) → Each (weak.rests_ok config) r
words_by config one Start l c h w = tt
words_by config one (Then p i event) l c h w = (entry event l.1 c.1 h.0 (λ j low. (w j low).0), words_by config one p l.1 c.1 h.1 (λ j low. (w j low).1))
  where
    entry : (event : Event) → Each lone_ok p → Each clears_ok p → strong.helpers_ok p i event ≡ true → ((j : ℕ) → j < config.indexes → strong.words_ok config.scheme j p i event ≡ true) → weak.rests_ok config p i event ≡ true
    entry (events.End steps answer) l c h w = rw one (both (is_none (value_of (Helper i) p)) (weak.indexes_rest config.scheme i p config.indexes) h (indexes_by config.scheme i p config.indexes l c w))
    entry event l c h w = refl

rests_by : (config : Config) (r : Past) → Each lone_ok r → Each clears_ok r → strong.RestLaw config r → (one : Bool) → has_one_interval config.scheme ≡ one → Each (weak.rests_ok config) r
rests_by config r l c h true e = follows (strong.spans_ok config) (weak.rests_ok config) (λ p i event a b x g. span_part config e p i event a b g) r l c (each_of_entries (strong.spans_ok config) r (h.spans e))
rests_by config r l c h false e = words_by config e r l c (each_of_entries strong.helpers_ok r (h.helpers e)) (λ j low. each_of_entries (strong.words_ok config.scheme j) r (h.words e j low))

pub holding : (config : Config) (r : Past) → LoneLaw r → HistoryStands r → HistoryHolds config r → HoldLaw config r
holding config r lone s h =
    let l : Each lone_ok r = each_of_entries lone_ok r lone in
    let c : Each clears_ok r = each_of_entries clears_ok r s.clears in
    record {
      throughout = throughout_part config r lone s h.throughout;
      sources = entries_of_each (weak.sources_ok config) r (each_weaker (strong.sources_ok config) (weak.sources_ok config) (source_part config) r (each_of_entries (strong.sources_ok config) r h.sources));
      finds = h.finds;
      gots = entries_of_each weak.gots_ok r (follows strong.gots_ok weak.gots_ok (λ p i event a b e g. got_part p i event a b g) r l c (each_of_entries strong.gots_ok r h.gots));
      links = entries_of_each (weak.links_ok config.slots) r (follows (strong.links_ok config.slots) (weak.links_ok config.slots) (λ p i event a b e g. link_part config.slots p i event a b g) r l c (each_of_entries (strong.links_ok config.slots) r h.links));
      behind = entries_of_each (weak.behind_ok config.slots) r (follow_both (strong.follows_ok config.slots) (strong.behind_ok config.slots) (weak.behind_ok config.slots) (behind_part config.slots) r l c (each_of_entries (strong.follows_ok config.slots) r h.follows) (each_of_entries (strong.behind_ok config.slots) r h.behind));
      bare = entries_of_each weak.bare_ok r (follow_both (strong.bare_ok 0) (strong.bare_ok 1) weak.bare_ok bare_part r l c (each_of_entries (strong.bare_ok 0) r (h.bare 0)) (each_of_entries (strong.bare_ok 1) r (h.bare 1)));
      rests = entries_of_each (weak.rests_ok config) r (rests_by config r l c h.rests (has_one_interval config.scheme) refl);
    }
