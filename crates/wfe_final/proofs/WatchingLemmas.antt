-- A watcher after one more entry stands where the record leaves it.
use Rattle.std.proofs.Common.{ℕ, ◌≡◌, ◌⊎◌, inl, inr, ◌≤◌, ◌<◌, ◌+◌, ◌-◌, Bool, true, false, List, [], ◌++◌, length, take, map, refl, sym, ap, ◌∙◌, subst, arith}
use Rattle.std.proofs.lemmas.Bool.{cases_eq, cases_lt, leb-true}
use Rattle.std.proofs.lemmas.Bool.Decides.{nat_tests}
use Rattle.std.proofs.lemmas.List.{get_or-replicate, get_or-set_other, get_or-set_same, get_or-take, get_or_past, length-replicate, length-set, length-take, map-append, set_past, take-take, take_all}
use Rattle.std.specs.Prelude.{◌==◌, ◌&&◌, not, nat_le, nat_lt, is_none, is_some, if◌then◌else◌, Option, None, Some, replicate, slice_index, slice_set}
use Rattle.std.specs.Option.{option_map}
use Rattle.laws.specs.StateAt.{retired_at}
use Rattle.laws.specs.records.Record.{Past, tells}
use Rattle.laws.specs.records.Record.Past.{Start, Then}
use Rattle.laws.proofs.records.defs.Facts.{first_of}
use Rattle.wfe_outside.specs.Watched.{Grows}
use Rattle.wfe_final.specs.defs.Entry.{entry}
use Rattle.wfe_final.specs.defs.declared.event.Event.{Event}
use Rattle.wfe_final.specs.defs.declared.event.Event.TheVariants as events
use Rattle.wfe_final.specs.Calls.{attached, attached_to, attaches, called, calls_of, id_taken}
use Rattle.wfe_final.specs.Slots.{Ids, call_of, id_at}
use Rattle.wfe_final.specs.Watching.{IsAfter, StandsFor, Watching, watched, with_attached, with_settled}
use Rattle.wfe_final.proofs.CallsLemmas.{attaches_few, retired_has, tells-snoc}

-- what the watcher asks is what the record says
open_slot : (id : ℕ → ℕ) (number : Option ℕ) → is_none (option_map id number) ≡ not (is_some number)
open_slot id None = refl
open_slot id (Some number) = refl

left_is : (given left : List ℕ) (many : ℕ) → left ≡ take (length given - many) given → length left ≡ length given - many
left_is given left many e = omega (arith, ap length e, length-take (length given - many) given)

stored_is : (given left : List ℕ) (many : ℕ) → left ≡ take (length given - many) given → nat_lt 0 (length left) ≡ nat_lt many (length given)
stored_is given left many e = let n = left_is given left many e in grind (arith, nat_tests, n)

same_test : (w : Watching) (p : Past) (slot birth retire : ℕ) → IsAfter w p
    → (nat_le slot w.slots && (is_none (id_at w.finals slot) && nat_lt 0 (length w.left))) ≡ attaches w.slots (length w.given) p (attached w.slots (length w.given) p) (events.Retire slot birth retire)
same_test w p slot birth retire a =
    ap (λ (b : Bool). nat_le slot w.slots && (is_none (id_at w.finals slot) && b)) (stored_is w.given w.left many a.left)
    ∙ by (nat_le slot w.slots) refl (nat_lt many (length w.given)) refl
  where
    many : ℕ
    many = attached w.slots (length w.given) p

    opened : slot ≤ w.slots → many < length w.given → is_none (id_at w.finals slot) ≡ not (retired_at slot p)
    opened within less =
        ap is_none (a.each slot)
        ∙ open_slot (id_taken w.given) (attached_to w.slots (length w.given) slot p)
        ∙ ap not (sym (retired_has w.slots (length w.given) slot p within less))

    by : (within : Bool) → nat_le slot w.slots ≡ within → (few : Bool) → nat_lt many (length w.given) ≡ few → (within && (is_none (id_at w.finals slot) && few)) ≡ (within && (not (retired_at slot p) && few))
    by false e few f = refl
    by true e true f = ap (λ (b : Bool). b && true) (opened (leb-true slot w.slots e) (grind (arith, nat_tests)))
    by true e false f = none (is_none (id_at w.finals slot)) ∙ sym (none (not (retired_at slot p)))
      where
        none : (b : Bool) → (b && false) ≡ false
        none true = refl
        none false = refl

-- one deleter fewer is left
left_more : (given left : List ℕ) (many : ℕ) → many < length given → left ≡ take (length given - many) given → take (length left - 1) left ≡ take (length given - (many + 1)) given
left_more given left many less e =
    let n : length left ≡ length given - many = left_is given left many e in
    let fewer : length left - 1 ≡ length given - (many + 1) = omega arith in
    ap (λ (k : ℕ). take k left) fewer
    ∙ ap (λ (xs : List ℕ). take (length given - (many + 1)) xs) e
    ∙ take-take (length given - (many + 1)) (length given - many) given (omega arith)

last_left : (given left : List ℕ) (many : ℕ) → many < length given → left ≡ take (length given - many) given → slice_index left (length left - 1) ≡ id_taken given many
last_left given left many less e =
    let n : length left ≡ length given - many = left_is given left many e in
    let fewer : length left - 1 ≡ length given - (many + 1) = omega arith in
    ap (λ (k : ℕ). slice_index left k) fewer
    ∙ ap (λ (xs : List ℕ). slice_index xs (length given - (many + 1))) e
    ∙ get_or-take (length given - many) given (length given - (many + 1)) 0 (omega arith)

-- a slot after a retirement, and after a slot went back
set_each : (finals : Ids) (slot s : ℕ) (id : Option ℕ) (f : ℕ → ℕ) (before now : Option ℕ) → slot < length finals → id ≡ option_map f now → id_at finals s ≡ option_map f before → id_at (slice_set finals slot id) s ≡ option_map f (if s == slot then now else before)
set_each finals slot s id f before now within e h = by (cases_eq s slot)
  where
    by : (s ≡ slot) ⊎ (s ≡ slot → ⊥) → id_at (slice_set finals slot id) s ≡ option_map f (if s == slot then now else before)
    by (inl one) =
        let here : (s == slot) ≡ true = grind (arith, nat_tests) in
        rw here (ap (λ (n : ℕ). id_at (slice_set finals slot id) n) one ∙ get_or-set_same finals slot id None within ∙ e)
    by (inr other) =
        let there : (s == slot) ≡ false = grind (arith, nat_tests) in
        rw there (get_or-set_other finals slot s id None other ∙ h)

told_retire : (w : Watching) (p : Past) (i slot birth retire : ℕ) → IsAfter w p → IsAfter (with_attached slot w) (Then p i (events.Retire slot birth retire))
told_retire w p i slot birth retire a =
    by (nat_le slot w.slots && (is_none (id_at w.finals slot) && nat_lt 0 (length w.left))) refl
  where
    many : ℕ
    many = attached w.slots (length w.given) p

    event : Event
    event = events.Retire slot birth retire

    taken : Watching
    taken = record w { left = take (length w.left - 1) w.left; finals = slice_set w.finals slot (Some (slice_index w.left (length w.left - 1))) }

    by : (test : Bool) → (nat_le slot w.slots && (is_none (id_at w.finals slot) && nat_lt 0 (length w.left))) ≡ test → IsAfter (if test then taken else w) (Then p i event)
    by true e =
        let t : attaches w.slots (length w.given) p many event ≡ true = sym (same_test w p slot birth retire a) ∙ e in
        let less : many < length w.given = attaches_few w.slots (length w.given) many p event t in
        let within : slot ≤ w.slots = leb-true slot w.slots (first_of (nat_le slot w.slots) (is_none (id_at w.finals slot) && nat_lt 0 (length w.left)) e) in
        record {
          calls = a.calls;
          left = rw t (left_more w.given w.left many less a.left);
          each = λ s. rw t (set_each w.finals slot s (Some (slice_index w.left (length w.left - 1))) (id_taken w.given) (attached_to w.slots (length w.given) s p) (Some many) (omega (arith, a.places)) (ap Some (last_left w.given w.left many less a.left)) (a.each s));
          places = length-set w.finals slot (Some (slice_index w.left (length w.left - 1))) ∙ a.places;
        }
    by false e =
        let t : attaches w.slots (length w.given) p many event ≡ false = sym (same_test w p slot birth retire a) ∙ e in
        record { calls = a.calls; left = rw t a.left; each = λ s. rw t (a.each s); places = a.places }

-- the call of a slot's deleter
map-call_of : (f : ℕ → ℕ) (number : Option ℕ) (slot : ℕ) → map (λ (call : ℕ × ℕ). (f call.0, call.1)) (call_of number slot) ≡ call_of (option_map f number) slot
map-call_of f None slot = refl
map-call_of f (Some number) slot = refl

calls_back : (slots : ℕ) (given : List ℕ) (p : Past) (i slot : ℕ) → calls_of slots given (Then p i (events.Back slot)) ≡ calls_of slots given p ++ call_of (option_map (id_taken given) (attached_to slots (length given) slot p)) slot
calls_back slots given p i slot =
    map-append (λ (call : ℕ × ℕ). (id_taken given call.0, call.1)) (called slots (length given) p) (call_of (attached_to slots (length given) slot p) slot)
    ∙ ap (λ (cs : List (ℕ × ℕ)). calls_of slots given p ++ cs) (map-call_of (id_taken given) (attached_to slots (length given) slot p) slot)

told_back : (w : Watching) (p : Past) (i slot : ℕ) → IsAfter w p → IsAfter (with_settled slot w) (Then p i (events.Back slot))
told_back w p i slot a = record {
  calls = ap (λ (cs : List (ℕ × ℕ)). cs ++ call_of (id_at w.finals slot) slot) a.calls
      ∙ ap (λ (id : Option ℕ). calls_of w.slots w.given p ++ call_of id slot) (a.each slot)
      ∙ sym (calls_back w.slots w.given p i slot);
  left = a.left;
  each = λ s. each s (cases_lt slot (length w.finals));
  places = length-set w.finals slot None ∙ a.places;
}
  where
    past : (s : ℕ) → length w.finals ≤ slot → (s ≡ slot) ⊎ (s ≡ slot → ⊥) → id_at w.finals s ≡ option_map (id_taken w.given) (if s == slot then None else attached_to w.slots (length w.given) s p)
    past s h (inl one) =
        let here : (s == slot) ≡ true = grind (arith, nat_tests) in
        rw here (get_or_past w.finals s None (omega (arith, one)))
    past s h (inr other) =
        let there : (s == slot) ≡ false = grind (arith, nat_tests) in
        rw there (a.each s)

    each : (s : ℕ) → (slot < length w.finals) ⊎ (length w.finals ≤ slot) → id_at (slice_set w.finals slot None) s ≡ option_map (id_taken w.given) (if s == slot then None else attached_to w.slots (length w.given) s p)
    each s (inl within) = set_each w.finals slot s None (id_taken w.given) (attached_to w.slots (length w.given) s p) None within refl (a.each s)
    each s (inr h) = ap (λ (ids : Ids). id_at ids s) (set_past w.finals slot None h) ∙ past s h (cases_eq s slot)

told_event : (w : Watching) (p : Past) (i : ℕ) (event : Event) → IsAfter w p → IsAfter (watched event w) (Then p i event)
told_event w p i (events.Retire slot birth retire) a = told_retire w p i slot birth retire a
told_event w p i (events.Back slot) a = told_back w p i slot a
told_event w p i event a = record { calls = a.calls; left = a.left; each = a.each; places = a.places }

-- one more entry
pub stands_more : (w : Watching) (seat : ℕ) (event : Event) → Grows StandsFor w (watched event w) (entry seat event)
stands_more w seat event told h = subst (IsAfter (watched event w)) (sym (tells-snoc Start told (entry seat event))) (told_event w (tells Start told) seat event h)

-- before the first entry
pub stands_none : (slots : ℕ) (given : List ℕ) (spare : ℕ) → StandsFor (record { slots = slots; given = given; left = given; finals = replicate (slots + 1) None; calls = []; spare = spare }) []
stands_none slots given spare = record {
  calls = refl;
  left = sym (take_all (length given - 0) given (omega arith));
  each = λ s. none s (cases_lt s (slots + 1));
  places = length-replicate {A = Option ℕ} (slots + 1) None;
}
  where
    none : (s : ℕ) → (s < slots + 1) ⊎ (slots + 1 ≤ s) → id_at (replicate (slots + 1) None) s ≡ None
    none s (inl within) = get_or-replicate (slots + 1) s None None within
    none s (inr past) = get_or_past (replicate (slots + 1) None) s None (omega (arith, length-replicate {A = Option ℕ} (slots + 1) None))

-- an event that is neither a Retire nor a Back changes nothing
pub watched_none : (w : Watching) (event : Event) → ((slot birth retire : ℕ) → event ≡ events.Retire slot birth retire → ⊥) → ((slot : ℕ) → event ≡ events.Back slot → ⊥) → watched event w ≡ w
watched_none w (events.Retire slot birth retire) no_retire no_back = absurd (no_retire slot birth retire refl)
watched_none w (events.Back slot) no_retire no_back = absurd (no_back slot refl)
watched_none w _ no_retire no_back = refl
