-- What an entry that takes a list over asks of the seat that left it.
use Rattle.std.proofs.Common.{Bool, ℕ, ◌≡◌, refl, sym, subst}
use Rattle.laws.specs.Lists.{has_left, is_adopted}
use Rattle.laws.specs.records.Record.{Past}
use Rattle.wfe_defs.specs.declared.event.Event.{Event}
use Rattle.wfe_defs.specs.declared.event.Event.TheVariants as events
use Rattle.wfe_check_map.specs.ListStanding.{AdoptedIs, LeftIs}

pub left_is : (left : Bool) (event : Event) (place count : ℕ) (p : Past) → event ≡ events.Adopted place count → left ≡ has_left place p → LeftIs left event p
left_is left event place count p e same = subst (λ x. LeftIs left x p) (sym e) same

pub adopted_is : (adopted : Bool) (event : Event) (place count : ℕ) (p : Past) → event ≡ events.Adopted place count → adopted ≡ is_adopted place p → AdoptedIs adopted event p
adopted_is adopted event place count p e same = subst (λ x. AdoptedIs adopted x p) (sym e) same

pub other_left : (left : Bool) (event : Event) (p : Past) → ((place count : ℕ) → event ≡ events.Adopted place count → ⊥) → LeftIs left event p
other_left left (events.Adopted place count) p never = absurd (never place count refl)
other_left left event p never = tt

pub other_adopted : (adopted : Bool) (event : Event) (p : Past) → ((place count : ℕ) → event ≡ events.Adopted place count → ⊥) → AdoptedIs adopted event p
other_adopted adopted (events.Adopted place count) p never = absurd (never place count refl)
other_adopted adopted event p never = tt
