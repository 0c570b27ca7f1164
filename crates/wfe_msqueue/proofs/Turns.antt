-- The ends of a dequeue's rounds as turns of the model.
use Rattle.std.proofs.Common.{◌≡◌, List, ◌++◌, Option, Some, None, refl, sym, ap, ◌∙◌}
use Rattle.std.proofs.lemmas.List.{append-nil}
use Rattle.wfe_slots.specs.words.declared.config.SchemeKind.{SchemeKind}
use Rattle.wfe_slots.specs.words.declared.config.SchemeKind.TheVariants.{He, Hp, Ibr, Wfe}
use Rattle.wfe_core.specs.defs.declared.event.Event.{Event}
use Rattle.wfe_core.specs.declared.post.Post.{Post}
use Rattle.wfe_core.specs.Calls.{Dequeues, ClearsNext, Next, Runs, goes_on}
use Rattle.wfe_core.specs.Desks.{Desk}
use Rattle.wfe_core.specs.Phases.{Base}
use Rattle.wfe_core.specs.Rounds.{scheme_of, clear_base, clear_post, clear_told, clearing, clearing_next, clearing_next_by}

-- a clear that takes a step leaves all else to it
post_stays : (kind : SchemeKind) (base : Base) (post : Post) → Some base ≡ clear_base kind 1 → clear_post kind post 1 ≡ post
post_stays He base post o = refl
post_stays Ibr base post o = absurd (cc)
post_stays Wfe base post o = refl
post_stays Hp base post o = refl

told_stays : (kind : SchemeKind) (base : Base) (post : Post) (told : List Event) → Some base ≡ clear_base kind 1 → told ++ clear_told kind post 1 ≡ told
told_stays He base post told o = append-nil told
told_stays Ibr base post told o = absurd (cc)
told_stays Wfe base post told o = append-nil told
told_stays Hp base post told o = append-nil told

clearing_next_along : (next : Next) (kind : SchemeKind) (post : Post) (desk : Desk) (told : List Event) (base : Option Base) → scheme_of post ≡ kind → base ≡ clear_base kind 1 → clearing_next next post desk told ≡ clearing_next_by next post desk told base
clearing_next_along next kind post desk told base s o =
    ap (λ (k : SchemeKind). clearing_next_by next post desk told (clear_base k 1)) s ∙ ap (λ (x : Option Base). clearing_next_by next post desk told x) (sym o)

-- index 1 is cleared by a step
pub next_goes : (next : Next) (kind : SchemeKind) (base : Base) (post last : Post) (desk : Desk) (told early : List Event) → scheme_of post ≡ kind → Some base ≡ clear_base kind 1 → last ≡ clear_post kind post 1 → early ≡ told ++ clear_told kind post 1 → clearing_next next post desk told ≡ goes_on last desk early (Runs (ClearsNext next) base)
next_goes next kind base post last desk told early s o p t =
    clearing_next_along next kind post desk told (Some base) s o
    ∙ (
    ap (λ (x : Post). goes_on x desk told (Runs (ClearsNext next) base)) (sym (p ∙ post_stays kind base post o))
    ∙ ap (λ (events : List Event). goes_on last desk events (Runs (ClearsNext next) base)) (sym (t ∙ told_stays kind base post told o))
    )

-- or at once, and index 0 comes next
pub next_clears : (next : Next) (kind : SchemeKind) (post last : Post) (desk : Desk) (told early : List Event) → scheme_of post ≡ kind → None ≡ clear_base kind 1 → last ≡ clear_post kind post 1 → early ≡ told ++ clear_told kind post 1 → clearing_next next post desk told ≡ clearing Dequeues next last desk early
next_clears next kind post last desk told early s o p t =
    clearing_next_along next kind post desk told None s o
    ∙ (
    ap (λ (k : SchemeKind). clearing Dequeues next (clear_post k post 1) desk (told ++ clear_told k post 1)) s
    ∙ (
    ap (λ (x : Post). clearing Dequeues next x desk (told ++ clear_told kind post 1)) (sym p)
    ∙ ap (λ (events : List Event). clearing Dequeues next last desk events) (sym t)
    )
    )
