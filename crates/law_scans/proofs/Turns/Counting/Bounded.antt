-- A protection of Wait-Free Eras takes few turns, since its number is small and counts them.
use Rattle.std.proofs.Common.{ℕ, ◌≡◌, ◌+◌, ◌*◌, Bool, true, false, List, [], ◌∷◌, refl, sym, subst, arith}
use Rattle.std.proofs.lemmas.Bool.Decides.{nat_tests}
use Rattle.std.specs.Prelude.{◌==◌, nat_le, if◌then◌else◌}
use Rattle.law_reuse.specs.laws.defs.declared.event.Event.{Event}
use Rattle.law_reuse.specs.laws.defs.declared.event.Event.TheVariants as events
use Rattle.law_reuse.proofs.laws.records.defs.Facts.{both, first_of, rest_of}
use Rattle.law_reuse.specs.laws.records.Record.{Past, Each, tells_of}
use Rattle.law_reuse.specs.laws.records.Record.Past.{Then}
use Rattle.law_reuse.proofs.laws.records.Entries.{each_of_entries}
use Rattle.law_reuse.specs.laws.records.Turns.{History, record_of, turns_of, EachTurn}
use Rattle.law_reuse.specs.laws.records.Turns.History.{Blank, Starts, Turns}
use Rattle.law_reuse.specs.history.History as histories
use Rattle.law_reuse.specs.laws.HistorySteps.{steps_ok, event_bounded, events_bounded, turns_bounded}
use Rattle.law_reuse.specs.laws.StepLaw.{few_steps}
use Rattle.law_reuse.proofs.Lawful.Counts.{records_keep_steps}
use Rattle.law_reuse.proofs.history.AllOf.{all_of}
use Rattle.law_reuse.specs.history.Heard.{heard_of}
use Rattle.law_reuse.specs.Heard.{IsCounted}
use Rattle.law_reuse.proofs.Turns.Counted.{histories_count}
use Rattle.law_reuse.specs.laws.StateAt.{reserves_of}
use Rattle.law_reuse.specs.laws.HistoryTurns.{turns_since, number_right, event_right, events_right, numbers_right}
use Rattle.law_scans.specs.Turns.Records.{ProtectionsEnd}
use Rattle.law_scans.proofs.Turns.Counting.Counting.{protections_count}
use Rattle.law_reuse.proofs.inv.model.words.Schemes.{helps_eras}

-- the entries of a turn
few_told : (tries i : ℕ) (told : List Event) (p : Past) → Each (steps_ok tries) (tells_of p i told) → (all_of (few_steps tries) told ≡ true) × Each (steps_ok tries) p
few_told tries i [] p h = (refl, h)
few_told tries i (event ∷ told) p h =
    let later = few_told tries i told (Then p i event) h in
    (both (few_steps tries event) (all_of (few_steps tries) told) later.1.0 later.0, later.1.1)

small_turns : (published turns call n most : ℕ) → number_right published turns call n ≡ true → nat_le n most ≡ true → nat_le (turns + 1) most ≡ true
small_turns published turns call n most h k = grind (arith, nat_tests)

held_small : (published turns call n tries : ℕ) (next : Bool) → number_right published turns call n ≡ true → (if next then nat_le n (3 * tries + 15) else nat_le n (3 * tries + 12)) ≡ true → (if next then nat_le (turns + 1) (3 * tries + 15) else nat_le (turns + 1) (3 * tries + 12)) ≡ true
held_small published turns call n tries true h k = small_turns published turns call n (3 * tries + 15) h k
held_small published turns call n tries false h k = small_turns published turns call n (3 * tries + 12) h k

event_small : (tries : ℕ) (x u : ℕ → ℕ) (call : ℕ) (event : Event) → event_right x u call event ≡ true → few_steps tries event ≡ true → event_bounded tries u event ≡ true
event_small tries x u call (events.Held index slot n) h k = held_small (x index) (u index) call n tries (index == 1) h k
event_small tries x u call (events.Null index n) h k = small_turns (x index) (u index) call n (3 * tries + 12) h k
event_small tries x u call event h k = refl

events_small : (tries : ℕ) (x u : ℕ → ℕ) (call : ℕ) (told : List Event) → events_right x u call told ≡ true → all_of (few_steps tries) told ≡ true → events_bounded tries u told ≡ true
events_small tries x u call [] h k = refl
events_small tries x u call (event ∷ told) h k =
    both (event_bounded tries u event) (events_bounded tries u told)
    (event_small tries x u call event (first_of (event_right x u call event) (events_right x u call told) h) (first_of (few_steps tries event) (all_of (few_steps tries) told) k))
    (events_small tries x u call told (rest_of (event_right x u call event) (events_right x u call told) h) (rest_of (few_steps tries event) (all_of (few_steps tries) told) k))

each_bounded : (tries : ℕ) (h : History) → EachTurn numbers_right h → Each (steps_ok tries) (record_of h) → EachTurn (turns_bounded tries) h
each_bounded tries Blank n k = tt
each_bounded tries (Starts h i call) n k = each_bounded tries h n k.1
each_bounded tries (Turns h i told) n k =
    let split = few_told tries i told (record_of h) k in
    (events_small tries (λ j. reserves_of i j (tells_of (record_of h) i told)) (λ j. turns_since i j (Turns h i told)) (turns_of i (Turns h i told)) told n.0 split.0, each_bounded tries h n.1 split.1)

pub protections_end : ProtectionsEnd
protections_end layout items d f =
    let c : IsCounted layout items = histories_count layout items d in
    let few : Each (steps_ok layout.config.tries) (histories.record_of layout items) = each_of_entries (steps_ok layout.config.tries) (histories.record_of layout items) (records_keep_steps layout items d f) in
    each_bounded layout.config.tries (heard_of layout items) (protections_count layout items d (helps_eras layout.config.scheme f)) (subst (λ (p : Past). Each (steps_ok layout.config.tries) p) (sym c.tells) few)
