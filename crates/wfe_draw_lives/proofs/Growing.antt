-- The lives of rows after one entry more.
use Rattle.std.proofs.Common.{ℕ, ◌≡◌, ◌∙◌, ◌+◌, ◌==◌, ◌||◌, ◌⊎◌, Bool, true, false, cond, nat_eq, List, Option, None, Some, unwrap_or, All, refl, sym, ap, subst, inl, inr, arith}
use Rattle.std.proofs.lemmas.List.Elements.{All-weaker}
use Rattle.std.proofs.lemmas.Bool.Decides.{nat_tests}
use Rattle.model_record.specs.Record.{Past}
use Rattle.model_record.specs.Record.Past.{Start, Then}
use Rattle.wfe_defs.specs.declared.event.Event.{Event}
use Rattle.wfe_defs.specs.declared.event.Event.TheVariants as events
use Rattle.wfe_draw_lives.specs.Lives.{Ended, EndsAt, Frees, IsLife, IsOpen, IsOver, Lives, OverIn, count_in, frees, given_in, gives, number_of}
use Rattle.wfe_draw_lives.specs.declared.bar.Moment.{Moment}
use Rattle.wfe_draw_lives.specs.declared.life.Life.{Life}

self_eq : (n : ℕ) → (n == n) ≡ true
self_eq n = grind (arith, nat_tests)

-- lives that ended go on to have ended

over-more : (p : Past) (seat : ℕ) (event : Event) (slot : ℕ) (given : Option Moment) (back : Option Moment) → IsOver p slot given back → IsOver (Then p seat event) slot given back
over-more p seat event slot given None is = is
over-more p seat event slot given (Some back) is = inr is

pub all-over : (p : Past) (seat : ℕ) (event : Event) (lives : List Life) → All (OverIn p) lives → All (OverIn (Then p seat event)) lives
all-over p seat event lives is = All-weaker (OverIn p) (OverIn (Then p seat event)) (λ life h. over-more p seat event life.slot life.given life.back h) lives is

over-life : (p : Past) (slot : ℕ) (given : Option Moment) (back : Option Moment) → IsOver p slot given back → Lives p slot given back
over-life p slot given None is = absurd is
over-life p slot given (Some back) is = is

-- and are lives
pub all-lives : (p : Past) (lives : List Life) → All (OverIn p) lives → All (IsLife p) lives
all-lives p lives is = All-weaker (OverIn p) (IsLife p) (λ life h. over-life p life.slot life.given life.back h) lives is

-- so is one that lasts
pub open-life : (p : Past) (slot : ℕ) (life : Life) (o : Option Life) → o ≡ Some life → IsOpen p slot o → IsLife p life
open-life p slot life o e is =
    let (same, lasts, given) : IsOpen p slot (Some life) = subst (IsOpen p slot) e is in
    subst (λ back. Lives p life.slot life.given back) (sym lasts) (given ∙ ap (λ s. given_in s p) (sym same))

-- a row whose last gift stays as it is
open-kept : (p q : Past) (slot : ℕ) (o : Option Life) → given_in slot q ≡ given_in slot p → IsOpen p slot o → IsOpen q slot o
open-kept p q slot None e is = e ∙ is
open-kept p q slot (Some life) e (same, lasts, given) = (same, lasts, given ∙ sym e)

-- An entry gives a row.

given-at : (p : Past) (slot seat birth : ℕ) (life : Life) (o : Option Life) (other : ℕ) (b : Bool) → (slot == other) ≡ b → life.slot ≡ slot → life.back ≡ None → number_of life.given ≡ Some (count_in p + 1)
    → IsOpen p other o → IsOpen (Then p seat (events.Give slot birth)) other (cond b (Some life) o)
given-at p slot seat birth life o other true e same lasts given is =
    let eq : slot ≡ other = grind (arith, nat_tests) in
    (same ∙ eq, lasts, given ∙ sym (ap (λ (t : Bool). cond t (Some (count_in p + 1)) (given_in other p)) e))
given-at p slot seat birth life o other false e same lasts given is =
    open-kept p (Then p seat (events.Give slot birth)) other o (ap (λ (t : Bool). cond t (Some (count_in p + 1)) (given_in other p)) e) is

pub given-now : (p : Past) (slot seat birth : ℕ) (life : Life) (f g : ℕ → Option Life) → ((other : ℕ) → g other ≡ cond (slot == other) (Some life) (f other)) → life.slot ≡ slot → life.back ≡ None
    → number_of life.given ≡ Some (count_in p + 1) → ((other : ℕ) → IsOpen p other (f other)) → (other : ℕ) → IsOpen (Then p seat (events.Give slot birth)) other (g other)
given-now p slot seat birth life f g updates same lasts given is other =
    subst (IsOpen (Then p seat (events.Give slot birth)) other) (sym (updates other)) (given-at p slot seat birth life (f other) other (slot == other) refl same lasts given (is other))

-- the life before ends there
pub given-ends : (p : Past) (slot seat birth : ℕ) (at : Moment) (life : Life) (o : Option Life) → at.number ≡ count_in p + 1 → o ≡ Some life → IsOpen p slot o → Ended life.slot life.given at (Then p seat (events.Give slot birth))
given-ends p slot seat birth at life o number e is =
    let (same, lasts, given) : IsOpen p slot (Some life) = subst (IsOpen p slot) e is in
    inl (record { ends = ap (λ s. slot == s) same ∙ self_eq slot; number = number; begun = given ∙ ap (λ s. given_in s p) (sym same) })

-- An entry frees a row.

freed-at : (p : Past) (slot seat : ℕ) (event : Event) (o : Option Life) (other : ℕ) (b : Bool) → (slot == other) ≡ b → given_in other (Then p seat event) ≡ cond (slot == other) None (given_in other p)
    → IsOpen p other o → IsOpen (Then p seat event) other (cond b None o)
freed-at p slot seat event o other true e told is = told ∙ ap (λ (t : Bool). cond t None (given_in other p)) e
freed-at p slot seat event o other false e told is = open-kept p (Then p seat event) other o (told ∙ ap (λ (t : Bool). cond t None (given_in other p)) e) is

freed-told : (p : Past) (slot seat : ℕ) (event : Event) (other : ℕ) → Frees slot event → given_in other (Then p seat event) ≡ cond (slot == other) None (given_in other p)
freed-told p slot seat event other (inl e) = ap (λ (x : Event). given_in other (Then p seat x)) e
freed-told p slot seat event other (inr e) = ap (λ (x : Event). given_in other (Then p seat x)) e

pub freed-now : (p : Past) (slot seat : ℕ) (event : Event) (f g : ℕ → Option Life) → ((other : ℕ) → g other ≡ cond (slot == other) None (f other)) → Frees slot event
    → ((other : ℕ) → IsOpen p other (f other)) → (other : ℕ) → IsOpen (Then p seat event) other (g other)
freed-now p slot seat event f g updates frees is other =
    subst (IsOpen (Then p seat event) other) (sym (updates other)) (freed-at p slot seat event (f other) other (slot == other) refl (freed-told p slot seat event other frees) (is other))

freed-test : (slot : ℕ) (event : Event) → Frees slot event → (frees slot event || gives slot event) ≡ true
freed-test slot event (inl e) = ap (λ (x : Event). frees slot x || gives slot x) e ∙ ap (λ (t : Bool). t || false) (self_eq slot)
freed-test slot event (inr e) = ap (λ (x : Event). frees slot x || gives slot x) e ∙ ap (λ (t : Bool). t || false) (self_eq slot)

-- its life ends there
pub freed-ends : (p : Past) (slot seat : ℕ) (event : Event) (at : Moment) (life : Life) → at.number ≡ count_in p + 1 → Frees slot event → life.slot ≡ slot → number_of life.given ≡ given_in slot p → Ended life.slot life.given at (Then p seat event)
freed-ends p slot seat event at life number freed same given =
    inl (record { ends = ap (λ s. frees s event || gives s event) same ∙ freed-test slot event freed; number = number; begun = given ∙ ap (λ s. given_in s p) (sym same) })

-- the life that is kept of a row, or that of one of which none is kept
pub here-or : (p : Past) (slot : ℕ) (o : Option Life) (old : Life) → old.slot ≡ slot → old.given ≡ None → IsOpen p slot o → ((unwrap_or o old).slot ≡ slot) × (number_of (unwrap_or o old).given ≡ given_in slot p)
here-or p slot None old same given none = (same, ap number_of given ∙ sym none)
here-or p slot (Some life) old same given (own, lasts, told) = (own, told)

-- An entry does neither.

pub plain : (p : Past) (seat : ℕ) (event : Event) → ((slot birth : ℕ) → event ≡ events.Give slot birth → ⊥) → ((slot : ℕ) → event ≡ events.Unused slot → ⊥) → ((slot : ℕ) → event ≡ events.Back slot → ⊥)
    → (slot : ℕ) → given_in slot (Then p seat event) ≡ given_in slot p
plain p seat (events.Give slot birth) gives unused back other = absurd (gives slot birth refl)
plain p seat (events.Unused slot) gives unused back other = absurd (unused slot refl)
plain p seat (events.Back slot) gives unused back other = absurd (back slot refl)
plain p seat _ gives unused back other = refl

pub open-more : (p q : Past) (f : ℕ → Option Life) → ((slot : ℕ) → given_in slot q ≡ given_in slot p) → ((slot : ℕ) → IsOpen p slot (f slot)) → (slot : ℕ) → IsOpen q slot (f slot)
open-more p q f same is slot = open-kept p q slot (f slot) (same slot) (is slot)

-- A row that lasts is told more of, and still lasts.
kept-at : (p : Past) (slot : ℕ) (life : Life) (o : Option Life) (other : ℕ) (b : Bool) → (slot == other) ≡ b → IsOpen p slot (Some life) → IsOpen p other o → IsOpen p other (cond b (Some life) o)
kept-at p slot life o other true e here is = let eq : slot ≡ other = grind (arith, nat_tests) in subst (λ s. IsOpen p s (Some life)) eq here
kept-at p slot life o other false e here is = is

pub kept-now : (p : Past) (slot : ℕ) (life : Life) (f g : ℕ → Option Life) → ((other : ℕ) → g other ≡ cond (slot == other) (Some life) (f other)) → IsOpen p slot (Some life)
    → ((other : ℕ) → IsOpen p other (f other)) → (other : ℕ) → IsOpen p other (g other)
kept-now p slot life f g updates here is other = subst (IsOpen p other) (sym (updates other)) (kept-at p slot life (f other) other (slot == other) refl here (is other))
