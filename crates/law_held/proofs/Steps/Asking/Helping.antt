-- A helper word publishes only once the tries of a protection under way have failed.
use Rattle.std.proofs.Common.{ℕ, ◌≡◌, ◌+◌, Bool, true, false, List, [], ◌∷◌, ◌++◌, Option, Some, None, refl, ap, subst, arith}
use Rattle.std.proofs.lemmas.Bool.Decides.{nat_tests}
use Rattle.std.specs.Prelude.{◌==◌, ◌&&◌, nat_le, if◌then◌else◌}
use Rattle.law_scans.specs.inv.model.words.declared.config.Config.{Config}
use Rattle.law_scans.specs.inv.model.words.declared.layout.Layout.{Layout}
use Rattle.law_scans.specs.inv.model.defs.declared.event.Event.{Event}
use Rattle.law_scans.specs.inv.model.defs.declared.event.Event.TheVariants as events
use Rattle.law_scans.specs.inv.model.defs.declared.event.Guard.TheVariants.{Helper}
use Rattle.law_scans.specs.inv.model.defs.declared.event.Root.{Root}
use Rattle.law_scans.specs.inv.model.defs.declared.lifetime.Interval.{Interval}
use Rattle.law_scans.specs.inv.model.declared.post.Post.{Post}
use Rattle.law_scans.specs.inv.model.Guards.{guard_at, one_era}
use Rattle.law_scans.specs.inv.model.Machine as machine
use Rattle.law_scans.specs.inv.model.Posts.{counted, reserves_helper}
use Rattle.law_scans.specs.inv.model.Rounds.{scheme_of, clear_told}
use Rattle.law_scans.specs.inv.model.World.{World, finds, offered, told_in}
use Rattle.law_scans.specs.inv.model.Phases.{Base}
use Rattle.law_scans.specs.inv.model.Phases.ProtectAt.{PublishHelper}
use Rattle.law_scans.specs.inv.model.Phases.MoveAt.{ShowEra}
use Rattle.law_scans.specs.inv.model.Phases.Base.{Protect, Clear, Move}
use Rattle.law_scans.specs.inv.model.Calls.{Work, Why, Opens, FollowsHead, Fills, ClearsNext, Clears, Finishes, GivesUp, Retires, Tidies, Advances, Releases, ReadGuard, GiveBack, Phase, Idle, Runs, Scans, Works}
use Rattle.law_scans.proofs.inv.model.Facts.{same_number, both, first_of, rest_of}
use Rattle.law_scans.specs.inv.model.words.Schemes.{is_wfe, publishes_rows}
use Rattle.law_scans.specs.inv.shapes.Seats.{PhaseFits, kind_of, suits}
use Rattle.law_scans.specs.laws.records.Record.{Past, Each, tells_of}
use Rattle.law_scans.specs.laws.records.Record.Past.{Then}
use Rattle.law_scans.proofs.laws.records.Entries.{entries_of_each}
use Rattle.law_scans.specs.laws.records.Turns as schedule
use Rattle.law_scans.specs.laws.records.Turns.{record_of}
use Rattle.law_scans.specs.inv.history.History.{Made}
use Rattle.law_scans.specs.inv.history.History as histories
use Rattle.law_scans.specs.reuse.Heard.{IsCounted}
use Rattle.law_scans.proofs.reuse.Turns.Counted.{histories_count}
use Rattle.law_scans.proofs.reuse.history.Passes.{Closed, First, step_goes, work_told}
use Rattle.law_scans.proofs.reuse.history.MayTell.{work_all}
use Rattle.law_scans.proofs.reuse.ReadGuards.{reads_are}
use Rattle.law_scans.proofs.reuse.OneStep.Along.{Around, Kept, history_keeps}
use Rattle.law_scans.specs.laws.HistoryTurns.{turns_since}
use Rattle.law_scans.specs.laws.StateAt.{tried_by, tried_of, last_of}
use Rattle.law_scans.specs.laws.HistorySteps.{tried_enough, helper_ok}
use Rattle.law_held.specs.Steps.Records.{RecordsKeepHelpers}
use Rattle.law_scans.proofs.Turns.Withdrawals.Withdrawing.{is_mute, all_mute, quiet_mute, clear_mute, is_plain, all_plain, base_plain}
use Rattle.law_scans.proofs.Turns.TurnCounts.Trying.{base_tried}
use Rattle.law_scans.proofs.Turns.TurnCounts.Tried.{why_tried, phase_tried}
use Rattle.law_scans.proofs.Turns.TurnCounts.Underway as underway
use Rattle.law_scans.proofs.Turns.TurnCounts.Underway.{Lasts}

-- an event of the seat, where a protection at the index has published so often
abbrev event_helps : (tries : ℕ) → Event → ℕ → Bool
event_helps tries (events.Reserve (Helper k) (Some span)) n = tried_enough tries n
event_helps tries event n = true

abbrev helps_along : (i j tries : ℕ) → List Event → ℕ → Bool
helps_along i j tries [] n = true
helps_along i j tries (event ∷ told) n = event_helps tries event n && helps_along i j tries told (tried_by i j event n)

plain_one : (tries : ℕ) (event : Event) (n : ℕ) → is_plain event ≡ true → event_helps tries event n ≡ true
plain_one tries (events.Reserve (Helper k) None) n h = refl
plain_one tries (events.Reserve (Helper k) (Some span)) n h = absurd (cc)
plain_one tries event n h = refl

plain_helps : (i j tries : ℕ) (told : List Event) (n : ℕ) → all_plain told ≡ true → helps_along i j tries told n ≡ true
plain_helps i j tries [] n h = refl
plain_helps i j tries (event ∷ told) n h =
    both (event_helps tries event n) (helps_along i j tries told (tried_by i j event n)) (plain_one tries event n (first_of (is_plain event) (all_plain told) h)) (plain_helps i j tries told (tried_by i j event n) (rest_of (is_plain event) (all_plain told) h))

mute_one : (event : Event) → is_mute event ≡ true → is_plain event ≡ true
mute_one (events.Reserve guard span) h = absurd (cc)
mute_one event h = refl

pub mute_plain : (told : List Event) → all_mute told ≡ true → all_plain told ≡ true
mute_plain [] h = refl
mute_plain (event ∷ told) h = both (is_plain event) (all_plain told) (mute_one event (first_of (is_mute event) (all_mute told) h)) (mute_plain told (rest_of (is_mute event) (all_mute told) h))

helps_both : (i j tries : ℕ) (xs ys : List Event) (n : ℕ) → helps_along i j tries xs n ≡ true → all_plain ys ≡ true → helps_along i j tries (xs ++ ys) n ≡ true
helps_both i j tries [] ys n h k = plain_helps i j tries ys n k
helps_both i j tries (x ∷ xs) ys n h k =
    both (event_helps tries x n) (helps_along i j tries (xs ++ ys) (tried_by i j x n)) (first_of (event_helps tries x n) (helps_along i j tries xs (tried_by i j x n)) h) (helps_both i j tries xs ys (tried_by i j x n) (rest_of (event_helps tries x n) (helps_along i j tries xs (tried_by i j x n)) h) k)

helps_closed : (i j tries n : ℕ) → Closed (λ post told. helps_along i j tries told n ≡ true)
helps_closed i j tries n = record {
  calm = λ post told more q h. helps_both i j tries told more n h (mute_plain more (quiet_mute more q));
  clears = λ post told index h. helps_both i j tries told (clear_told (scheme_of post) post index) n h (mute_plain (clear_told (scheme_of post) post index) (clear_mute (scheme_of post) post index));
}

abbrev pub is_clearing : Base → Bool
is_clearing (Clear rows index) = true
is_clearing base = false

-- and a call's own step publishes no helper word
pub work_plain : (work : Work) (post : Post) → all_plain (work_told work post) ≡ true
work_plain work post = work_all is_plain (λ index slot. refl) (λ from index slot. refl) (λ seat index era. refl) (λ seat. refl) (λ seat index link. refl) work post

helper_helps : (i j tries n : ℕ) (post : Post) (era : ℕ) → tried_enough tries n ≡ true → helps_along i j tries (reserves_helper post era) n ≡ true
helper_helps i j tries n post era h = by (one_era era)
  where
    by : (span : Option Interval) → helps_along i j tries (events.Reserve (Helper post.seat) span ∷ []) n ≡ true
    by None = refl
    by (Some span) = both (tried_enough tries n) true h refl

-- a protection that publishes in the helper word has tried enough
enough_own : (tries times : ℕ) → nat_le (tries + 1) times ≡ true → tried_enough tries times ≡ true
enough_own tries times h = grind (arith, nat_tests)

enough_other : (tries times : ℕ) → (times == 0) ≡ true → tried_enough tries times ≡ true
enough_other tries times h = rw h refl

asks_enough : (c : Config) (index : ℕ) (root : Root) (j times : ℕ) → (if index == j then nat_le (c.tries + 1) times else times == 0) ≡ true → tried_enough c.tries times ≡ true
asks_enough c index root j times h = by (index == j) h
  where
    by : (own : Bool) → (if own then nat_le (c.tries + 1) times else times == 0) ≡ true → tried_enough c.tries times ≡ true
    by true h = enough_own c.tries times h
    by false h = enough_other c.tries times h

pub other_why : (c : Config) (u : ℕ) (why : Why) (base : Base) (j times last : ℕ) → suits base (kind_of why) ≡ true → is_clearing base ≡ false → why_tried c u why base j times last ≡ true → base_tried c base j times last ≡ true
other_why c u (ClearsNext next) (Clear rows index) j times last s b h = absurd (cc)
other_why c u (ClearsNext next) base j times last s b h = absurd (cc)
other_why c u (Opens task) base j times last s b h = h
other_why c u (FollowsHead head tail) base j times last s b h = h
other_why c u (Fills task) base j times last s b h = h
other_why c u (Clears task next) base j times last s b h = h
other_why c u (Finishes task next) base j times last s b h = h
other_why c u (GivesUp answer) base j times last s b h = h
other_why c u (Retires answer) base j times last s b h = h
other_why c u (Tidies later) base j times last s b h = h
other_why c u Advances base j times last s b h = h
other_why c u (Releases key) base j times last s b h = h

helping_base : (c : Config) (i j times last u : ℕ) (why : Why) (base : Base) (post : Post) (found : ℕ) → suits base (kind_of why) ≡ true → why_tried c u why base j times last ≡ true → helps_along i j c.tries (machine.after base post found).told times ≡ true
helping_base c i j times last u why (Protect aim index root made (PublishHelper first era final)) post found s h =
    helper_helps i j c.tries times post era (asks_enough c index root j times (other_why c u why (Protect aim index root made (PublishHelper first era final)) j times last s refl h))
helping_base c i j times last u why (Move (ShowEra era seat tag index root)) post found s h =
    helper_helps i j c.tries times post era (enough_other c.tries times (other_why c u why (Move (ShowEra era seat tag index root)) j times last s refl h))
helping_base c i j times last u why (Protect aim index root made at) post found s h = plain_helps i j c.tries (machine.after (Protect aim index root made at) post found).told times (base_plain (Protect aim index root made at) post found refl)
helping_base c i j times last u why (Move at) post found s h = plain_helps i j c.tries (machine.after (Move at) post found).told times (base_plain (Move at) post found refl)
helping_base c i j times last u why base post found s h = plain_helps i j c.tries (machine.after base post found).told times (base_plain base post found refl)

phase_helps : (w : World) (i j times last u : ℕ) (phase : Phase) → PhaseFits w.layout (w.seat i).post phase → phase_tried w.layout.config u phase j times last ≡ true → First (λ post told. helps_along i j w.layout.config.tries told times ≡ true) phase (counted (w.seat i).post) (finds w i)
phase_helps w i j times last u Idle f h = refl
phase_helps w i j times last u (Runs why base) f h = helping_base w.layout.config i j times last u why base (counted (w.seat i).post) (finds w i) f.suited h
phase_helps w i j times last u (Scans later (ReadGuard number)) f h =
    reads_are (λ (event : Event). helps_along i j w.layout.config.tries (event ∷ []) times ≡ true) (publishes_rows (w.seat i).post.layout.config.scheme) (guard_at (w.seat i).post.layout.config number) (finds w i) (λ span. refl) (λ slot. refl)
phase_helps w i j times last u (Scans later (GiveBack place slot)) f h = refl
phase_helps w i j times last u (Works work) f h = plain_helps i j w.layout.config.tries (work_told work (counted (w.seat i).post)) times (work_plain work (counted (w.seat i).post))

step_helps : (layout : Layout) (made : Made) (h : schedule.History) (i j : ℕ) → Around made h → Lasts layout made h → helps_along i j made.world.layout.config.tries (told_in made.world i) (tried_of i j (record_of h)) ≡ true
step_helps layout made h i j a g =
    let w : World = made.world in
    let k = a.known.known in
    let f = k.seats.fits i in
    let t : ℕ = tried_of i j (record_of h) in
    step_goes (λ post told. helps_along i j w.layout.config.tries told t ≡ true) (helps_closed i j w.layout.config.tries t) (w.seat i).phase (counted (w.seat i).post) (offered w i).desk (finds w i)
    (phase_helps w i j t (last_of i (record_of h)) (turns_since i j h) (w.seat i).phase f.phase (g.tried i j))

-- the entries that a turn tells
told_each : (tries i j : ℕ) (told : List Event) (p : Past) → helps_along i j tries told (tried_of i j p) ≡ true → Each (helper_ok tries j) p → Each (helper_ok tries j) (tells_of p i told)
told_each tries i j [] p h e = e
told_each tries i j (event ∷ told) p h e =
    let n : tried_of i j (Then p i event) ≡ tried_by i j event (tried_of i j p) = rw (same_number i) refl in
    told_each tries i j told (Then p i event) (rw n (rest_of (event_helps tries event (tried_of i j p)) (helps_along i j tries told (tried_by i j event (tried_of i j p))) h))
    (one event (first_of (event_helps tries event (tried_of i j p)) (helps_along i j tries told (tried_by i j event (tried_of i j p))) h), e)
  where
    one : (event : Event) → event_helps tries event (tried_of i j p) ≡ true → helper_ok tries j p i event ≡ true
    one (events.Reserve (Helper k) (Some span)) h = h
    one event h = refl

-- along a history
record Helps (layout : Layout) (made : Made) (h : schedule.History) : Type 0 where
  lasts : Lasts layout made h
  law : (j : ℕ) → Each (helper_ok layout.config.tries j) (record_of h)

step_law : (layout : Layout) (made : Made) (h : schedule.History) (i j : ℕ) → Around made h → Lasts layout made h → Each (helper_ok layout.config.tries j) (record_of h) → Each (helper_ok layout.config.tries j) (tells_of (record_of h) i (told_in made.world i))
step_law layout made h i j a g e =
    let c : made.world.layout.config.tries ≡ layout.config.tries = ap (λ (table : Layout). table.config.tries) g.counts.table in
    told_each layout.config.tries i j (told_in made.world i) (record_of h) (subst (λ (tries : ℕ). helps_along i j tries (told_in made.world i) (tried_of i j (record_of h)) ≡ true) c (step_helps layout made h i j a g)) e

kept : (layout : Layout) → is_wfe layout.config.scheme ≡ true → Kept (Helps layout)
kept layout f = record {
  begins = λ made h i call a b y m g. record { lasts = underway.begin_kept layout made h i call a y g.lasts; law = λ j. (refl, g.law j) };
  steps = λ made h i a b y g. record { lasts = underway.step_kept layout made h i f a b y g.lasts; law = λ j. step_law layout made h i j a g.lasts (g.law j) };
}

pub records_keep_helpers : RecordsKeepHelpers
records_keep_helpers layout items d f j =
    let g = history_keeps layout (Helps layout) (kept layout f) d items (record { lasts = underway.first_kept layout f; law = λ j. tt }) in
    let c : IsCounted layout items = histories_count layout items d in
    entries_of_each (helper_ok layout.config.tries j) (histories.record_of layout items) (subst (λ (p : Past). Each (helper_ok layout.config.tries j) p) c.tells (g.law j))
