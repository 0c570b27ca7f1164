-- The way of a row from free to free, from what histories keep: a call tells unused only the row in its hand.
use Rattle.std.proofs.Common.{ℕ, ◌≡◌, true, false, refl, Some}
use Rattle.std.specs.Prelude.{◌==◌, is_none}
use Rattle.laws.proofs.records.Entries.{each_of_entries, entries_of_each}
use Rattle.laws.proofs.records.defs.Facts.{first_of, rest_of, number_is, same_number}
use Rattle.laws.specs.HistoryRows as strong
use Rattle.laws.specs.HistoryRows.{HistoryRows, once_ok, is_in_hand}
use Rattle.laws.specs.Once.{Once, Grant, no_grant, granted_by, linked_to, may_link, is_placed, places_right, placing_ok, free_ok, backs_ok, nexts_ok}
use Rattle.laws.specs.Lists.{has_slot, list_of}
use Rattle.laws.specs.StateAt.{Given, given_by, taken_at, was_given, next_at}
use Rattle.laws.specs.StateAt.Given.{Without, InHand, Placed}
use Rattle.laws.specs.defs.declared.event.Event.{Event}
use Rattle.laws.specs.defs.declared.event.Event.TheVariants as events
use Rattle.laws.specs.defs.declared.event.Root.TheVariants as roots
use Rattle.laws.specs.records.Record.{Past, Each}
use Rattle.law_reuse.proofs.Letter.Each.{each_weaker, related_each}

free_part : (slots : ℕ) (p : Past) (i : ℕ) (event : Event) → once_ok slots p i event ≡ true → free_ok slots p i event ≡ true
free_part slots p i (events.Back slot) h = first_of (taken_at slots slot p) (has_slot slot (list_of i p)) h
free_part slots p i (events.Give slot birth) h = h
free_part slots p i (events.Unused slot) h = h
free_part slots p i event h = refl

back_part : (slots : ℕ) (p : Past) (i : ℕ) (event : Event) → once_ok slots p i event ≡ true → backs_ok p i event ≡ true
back_part slots p i (events.Back slot) h = rest_of (taken_at slots slot p) (has_slot slot (list_of i p)) h
back_part slots p i event h = refl

next_part : (slots : ℕ) (p : Past) (i : ℕ) (event : Event) → strong.nexts_ok slots p i event ≡ true → nexts_ok slots p i event ≡ true
next_part slots p i (events.Link (roots.Next parent) slot) h = rest_of (was_given slots parent p) (is_none (next_at parent p)) h
next_part slots p i (events.Link roots.Head slot) h = h
next_part slots p i (events.Link roots.Tail slot) h = h
next_part slots p i event h = refl

-- a row in hand is given and neither linked nor told unused; a placed one is one of both
abbrev Agrees : Given → Grant → Type 0
Agrees Without grant = grant ≡ no_grant
Agrees (InHand slot) grant = grant ≡ record { row = Some slot; linked = false; unused = false }
Agrees Placed grant = is_placed grant ≡ true

hand_links : (slot : ℕ) (given : Given) (grant : Grant) → is_in_hand slot given ≡ true → Agrees given grant → (may_link slot grant ≡ true) × (is_placed (linked_to slot grant) ≡ true)
hand_links slot Without grant h a = absurd (cc)
hand_links slot Placed grant h a = absurd (cc)
hand_links slot (InHand other) grant h a =
    let same : other ≡ slot = number_is other slot h in
    let e : (slot == slot) ≡ true = same_number slot in
    rw (a, same, e) (refl, refl)

hand_unused : (slot : ℕ) (given : Given) (grant : Grant) → is_in_hand slot given ≡ true → Agrees given grant → is_placed (granted_by (events.Unused slot) grant) ≡ true
hand_unused slot Without grant h a = absurd (cc)
hand_unused slot Placed grant h a = absurd (cc)
hand_unused slot (InHand other) grant h a =
    let same : other ≡ slot = number_is other slot h in
    let e : (slot == slot) ≡ true = same_number slot in
    rw (a, same, e) refl

agrees_on : (event : Event) (given : Given) (grant : Grant) → strong.places_right event given ≡ true → Agrees given grant → Agrees (given_by event given) (granted_by event grant)
agrees_on (events.Begin call) given grant h a = refl
agrees_on (events.Give slot birth) given grant h a = refl
agrees_on (events.Unused slot) given grant h a = hand_unused slot given grant h a
agrees_on (events.Link (roots.Bucket bucket) slot) given grant h a = (hand_links slot given grant h a).1
agrees_on (events.Link (roots.Next parent) slot) given grant h a = (hand_links slot given grant h a).1
agrees_on event given grant h a = a

given_none : (given : Given) (grant : Grant) → strong.is_without given ≡ true → Agrees given grant → is_none grant.row ≡ true
given_none Without grant h a = rw a refl
given_none (InHand slot) grant h a = absurd (cc)
given_none Placed grant h a = absurd (cc)

ends_placed : (given : Given) (grant : Grant) → strong.has_none given ≡ true → Agrees given grant → is_placed grant ≡ true
ends_placed Without grant h a = rw a refl
ends_placed (InHand slot) grant h a = absurd (cc)
ends_placed Placed grant h a = a

right_on : (event : Event) (given : Given) (grant : Grant) → strong.places_right event given ≡ true → Agrees given grant → places_right event grant ≡ true
right_on (events.Give slot birth) given grant h a = given_none given grant h a
right_on (events.Link (roots.Bucket bucket) slot) given grant h a = (hand_links slot given grant h a).0
right_on (events.Link (roots.Next parent) slot) given grant h a = (hand_links slot given grant h a).0
right_on (events.End steps answer) given grant h a = ends_placed given grant h a
right_on event given grant h a = refl

pub once : (slots : ℕ) (r : Past) → HistoryRows slots r → Once slots r
once slots r h =
    let f : Each (once_ok slots) r = each_of_entries (once_ok slots) r h.free in
    record {
      free = entries_of_each (free_ok slots) r (each_weaker (once_ok slots) (free_ok slots) (free_part slots) r f);
      placing = entries_of_each placing_ok r (related_each Agrees given_by Without granted_by no_grant strong.places_right places_right refl agrees_on right_on r (each_of_entries strong.placing_ok r h.placing));
      order = h.order.each;
      nexts = entries_of_each (nexts_ok slots) r (each_weaker (strong.nexts_ok slots) (nexts_ok slots) (next_part slots) r (each_of_entries (strong.nexts_ok slots) r h.nexts));
      retiring = h.retiring;
      backs = entries_of_each backs_ok r (each_weaker (once_ok slots) backs_ok (back_part slots) r f);
      lists = h.lists;
    }
