-- How many deleters a record attaches, and to which slots.
use Rattle.std.proofs.Common.{ℕ, ◌≡◌, ◌≤◌, ◌<◌, ◌+◌, Bool, true, false, List, [], ◌∷◌, ◌++◌, refl, sym, ap, ◌∙◌, arith}
use Rattle.std.proofs.lemmas.Bool.{le-leb, lt-ltb, ltb-true}
use Rattle.std.specs.Prelude.{◌==◌, ◌&&◌, not, nat_le, nat_lt, if◌then◌else◌, None, Some, is_some}
use Rattle.laws.specs.StateAt.{retired_at}
use Rattle.laws.specs.records.Record.{Past, tells}
use Rattle.laws.specs.records.Record.Past.{Start, Then}
use Rattle.laws.proofs.records.defs.Facts.{number_is, rest_of}
use Rattle.wfe_final.specs.defs.Entry.{Entry}
use Rattle.wfe_final.specs.defs.declared.event.Event.{Event}
use Rattle.wfe_final.specs.defs.declared.event.Event.TheVariants as events
use Rattle.wfe_final.specs.Calls.{attached, attached_to, attaches}

-- one entry more comes last
pub tells-snoc : (p : Past) (xs : List Entry) (x : Entry) → tells p (xs ++ x ∷ []) ≡ Then (tells p xs) x.seat x.event
tells-snoc p [] x = refl
tells-snoc p (y ∷ xs) x = tells-snoc (Then p y.seat y.event) xs x

pub attaches_few : (slots stored many : ℕ) (p : Past) (event : Event) → attaches slots stored p many event ≡ true → many < stored
attaches_few slots stored many p (events.Retire slot birth retire) h =
    ltb-true many stored (rest_of (not (retired_at slot p)) (nat_lt many stored) (rest_of (nat_le slot slots) (not (retired_at slot p) && nat_lt many stored) h))
attaches_few slots stored many p event h = absurd (cc)

-- no more than the store had
pub attached_most : (slots stored : ℕ) (p : Past) → attached slots stored p ≤ stored
attached_most slots stored Start = omega arith
attached_most slots stored (Then p i event) = by (attaches slots stored p (attached slots stored p) event) refl (attached_most slots stored p)
  where
    by : (attaching : Bool) → attaches slots stored p (attached slots stored p) event ≡ attaching → attached slots stored p ≤ stored → (if attaching then attached slots stored p + 1 else attached slots stored p) ≤ stored
    by true e h = omega (arith, attaches_few slots stored (attached slots stored p) p event e)
    by false e h = h

-- a Retire that could be attaching and is not found the slot retired
retired_if_not : (within few retired : Bool) → within ≡ true → few ≡ true → (within && (not retired && few)) ≡ false → retired ≡ true
retired_if_not within few true w f h = refl
retired_if_not true true false w f h = absurd (cc)
retired_if_not true false false w f h = absurd (cc)
retired_if_not false few false w f h = absurd (cc)

-- while the store has deleters, a retired slot has one
pub retired_has : (slots stored s : ℕ) (p : Past) → s ≤ slots → attached slots stored p < stored → retired_at s p ≡ is_some (attached_to slots stored s p)
retired_has slots stored s Start within few = refl
retired_has slots stored s (Then p i (events.Retire slot birth retire)) within few =
    by (s == slot) refl (attaches slots stored p many (events.Retire slot birth retire)) refl (retired_has slots stored s p within) few
  where
    many : ℕ
    many = attached slots stored p

    was : attaches slots stored p many (events.Retire slot birth retire) ≡ false → s ≡ slot → many < stored → retired_at s p ≡ true
    was t one less =
        ap (λ (n : ℕ). retired_at n p) one
        ∙ retired_if_not (nat_le slot slots) (nat_lt many stored) (retired_at slot p) (le-leb slot slots (omega (arith, one))) (lt-ltb many stored less) t

    by : (same : Bool) → (s == slot) ≡ same → (attaching : Bool) → attaches slots stored p many (events.Retire slot birth retire) ≡ attaching → (many < stored → retired_at s p ≡ is_some (attached_to slots stored s p)) → (if attaching then many + 1 else many) < stored
        → (if same then true else retired_at s p) ≡ is_some (if attaching && same then Some many else attached_to slots stored s p)
    by true e true t h less = refl
    by true e false t h less = sym (was t (number_is s slot e) less) ∙ h less
    by false e true t h less = h (omega arith)
    by false e false t h less = h less
retired_has slots stored s (Then p i (events.Back slot)) within few = by (s == slot) (retired_has slots stored s p within few)
  where
    by : (same : Bool) → retired_at s p ≡ is_some (attached_to slots stored s p) → (if same then false else retired_at s p) ≡ is_some (if same then None else attached_to slots stored s p)
    by true h = refl
    by false h = h
retired_has slots stored s (Then p i event) within few = retired_has slots stored s p within few
