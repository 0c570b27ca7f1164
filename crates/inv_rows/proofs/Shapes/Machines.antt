-- Steps inside machines, for any property of one seat.
use Rattle.std.proofs.Common.{ℕ, ◌≡◌, ◌-◌, Bool, true, false, List, refl}
use Rattle.std.specs.Prelude.{◌==◌, if◌then◌else◌}
use Rattle.wfe_core.specs.defs.declared.event.Event.{Event}
use Rattle.wfe_core.specs.defs.declared.event.Root.{Root}
use Rattle.wfe_core.specs.defs.declared.event.Root.TheVariants as roots
use Rattle.wfe_core.specs.declared.post.Post.{Post}
use Rattle.wfe_core.specs.Links.{parent_of}
use Rattle.wfe_core.specs.Posts.{with_row}
use Rattle.wfe_core.specs.Phases.{Aim, Alone, Follows, Turn}
use Rattle.wfe_core.specs.Phases.Base.{Reload}
use Rattle.wfe_core.specs.Protect.{concluded, held_post}
use Rattle.wfe_core.specs.Calls.{Why, Phase, Runs}
use Rattle.inv_rows.specs.Shapes.Frame.{Resumes, Moves, StepsOn}

-- one of two turns
pub moves_if : {Q : Post → Type 0} {P : Post → Phase → Type 0} (why : Why) (c : Bool) (t u : Turn) → (c ≡ true → Moves Q P why t) → (c ≡ false → Moves Q P why u) → Moves Q P why (if c then t else u)
moves_if why true t u h g = h refl
moves_if why false t u h g = g refl

pub post_if : (Q : Post → Type 0) (c : Bool) (p q : Post) → Q p → Q q → Q (if c then p else q)
post_if Q true p q h g = h
post_if Q false p q h g = g

-- what stands after a protection
pub held_post_keeps : (Q : Post → Type 0) (post : Post) (index : ℕ) (root : Root) (link : ℕ) → Q post → ((slot : ℕ) → Q (with_row post index slot)) → Q (held_post post index root link)
held_post_keeps Q post index (roots.Bucket bucket) link q h = post_if Q (link == 0) post (with_row post index (link - 1)) q (h (link - 1))
held_post_keeps Q post index (roots.Next parent) link q h = q
held_post_keeps Q post index roots.Head link q h = post_if Q (link == 0) post (with_row post index (link - 1)) q (h (link - 1))
held_post_keeps Q post index roots.Tail link q h = post_if Q (link == 0) post (with_row post index (link - 1)) q (h (link - 1))

-- a protection is over
pub concluded_moves : {Q : Post → Type 0} {P : Post → Phase → Type 0} (why : Why) (aim : Aim) (index : ℕ) (root : Root) (n link era : ℕ) (post : Post) (told : List Event)
    → Q post → Resumes why post → (aim ≡ Follows → (link == 0) ≡ false → P post (Runs why (Reload (parent_of root) index (link - 1) era n)))
    → Moves Q P why (concluded aim index root n link era post told)
concluded_moves why Alone index root n link era post told q r h = record { post = q; phase = r }
concluded_moves why Follows index root n link era post told q r h = moves_if why (link == 0) _ _ (λ e. record { post = q; phase = r }) (λ e. record { post = q; phase = h refl e })

-- the same for a property that leaves the ends to another
pub steps_if : {Q : Post → Type 0} {P : Post → Phase → Type 0} (why : Why) (c : Bool) (t u : Turn) → (c ≡ true → StepsOn Q P why t) → (c ≡ false → StepsOn Q P why u) → StepsOn Q P why (if c then t else u)
steps_if why true t u h g = h refl
steps_if why false t u h g = g refl

pub concluded_steps : {Q : Post → Type 0} {P : Post → Phase → Type 0} (why : Why) (aim : Aim) (index : ℕ) (root : Root) (n link era : ℕ) (post : Post) (told : List Event)
    → Q post → ((link == 0) ≡ false → P post (Runs why (Reload (parent_of root) index (link - 1) era n))) → StepsOn Q P why (concluded aim index root n link era post told)
concluded_steps why Alone index root n link era post told q h = record { post = q; phase = tt }
concluded_steps why Follows index root n link era post told q h = steps_if why (link == 0) _ _ (λ e. record { post = q; phase = tt }) (λ e. record { post = q; phase = h e })
