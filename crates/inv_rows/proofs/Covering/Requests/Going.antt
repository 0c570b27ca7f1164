-- The turns of a seat that is at a step, by the role that it comes to.
use Rattle.std.proofs.Common.{ℕ, ◌≡◌, ◌<◌, ◌^◌, true, List, arith, refl, sym, ap, subst, ◌∙◌}
use Rattle.inv_rows.specs.words.Place.{Place, has}
use Rattle.inv_rows.specs.words.Schemes.{publishes_rows}
use Rattle.inv_rows.proofs.words.Numbers.{number_below, words_few}
use Rattle.inv_rows.specs.words.declared.config.Config.{Config}
use Rattle.inv_rows.specs.defs.declared.event.Event.{Event}
use Rattle.inv_rows.specs.defs.declared.event.Root.{Root}
use Rattle.inv_rows.proofs.model.Ranges.{bounds_of}
use Rattle.inv_rows.specs.model.Links.{link_place, link_number}
use Rattle.inv_rows.specs.model.Memory.{Move, upd, written}
use Rattle.inv_rows.specs.model.Posts.{counted}
use Rattle.inv_rows.specs.model.Phases.{Base, Turn, goes}
use Rattle.inv_rows.specs.model.Calls.{Why, Phase}
use Rattle.inv_rows.specs.model.Steps.{run_turn}
use Rattle.inv_rows.specs.model.Locals.{Local}
use Rattle.inv_rows.specs.Shapes.Frame.{Moves}
use Rattle.inv_rows.proofs.Shapes.Frame.{run_left}
use Rattle.inv_rows.specs.Covering.Requests.Views.{View, Role}
use Rattle.inv_rows.specs.Covering.Requests.Views.Role.{Away}
use Rattle.inv_rows.specs.Covering.Requests.Parts.{Parts}
use Rattle.inv_rows.specs.Covering.Requests.Standing.{base_role, base_there, role_of, Words, Locals}
use Rattle.inv_rows.specs.Covering.Requests.Turns.{PostOf, RoleOf, Made}
use Rattle.inv_rows.specs.Covering.Requests.Context.{At}
use Rattle.inv_rows.proofs.Covering.Requests.Turns.{guards_some, away, made, upd_all}

-- the parts of a seat that stays in its role
pub same_role : (c : Config) (v : View) (x : ℕ) (r : Role) → Parts c v → v.role x ≡ r → Parts c (record v { role = upd v.role x r })
same_role c v x r d q = subst (λ (f : ℕ → Role). Parts c (record v { role = f })) (λ n k. sym (stays k) n) d
  where
    stays : (k : ℕ) → upd v.role x r k ≡ v.role k
    stays k = upd_all v.role x r (λ (n : ℕ) (a : Role). a ≡ v.role n) (sym q) (λ n h. refl) k

-- the role of the seat that steps
pub stands_in : (mem : Place → ℕ) (seat : ℕ → Local) (i : ℕ) (v : View) (phase : Phase) → At mem seat i v → (seat i).phase ≡ phase → v.role i ≡ role_of (seat i).post.layout phase
stands_in mem seat i v phase a q = sym (a.facts.locals.roles i) ∙ ap (role_of (seat i).post.layout) q

-- its post, also when the step is counted
pub own_post : (mem : Place → ℕ) (seat : ℕ → Local) (i : ℕ) (v : View) → At mem seat i v → PostOf (seat i).post.layout (seat i).post.tags (counted (seat i).post)
own_post mem seat i v a = record { table = refl; guarded = guards_some (seat i).post.layout.config (bounds_of (seat i).post.layout a.valid); kept = refl }

-- a link word's number has 26 bits
pub link_few : (mem : Place → ℕ) (seat : ℕ → Local) (i : ℕ) (v : View) (root : Root) → At mem seat i v → has (seat i).post.layout (link_place root) ≡ true → link_number (seat i).post.layout root < 2 ^ 26
link_few mem seat i v root a h = omega (arith, number_below (seat i).post.layout (link_place root) h, words_few (seat i).post.layout a.valid)

-- a machine goes on
pub go : (mem : Place → ℕ) (seat : ℕ → Local) (i : ℕ) (v : View) (m : Move) (why : Why) (told : List Event) (base : Base) (r : Role) (v' : View)
    → At mem seat i v
    → base_role (seat i).post.layout base ≡ r
    → base_there (seat i).post.layout base ≡ true
    → v.tag ≡ v'.tag
    → v'.role ≡ upd v.role i r
    → Words (publishes_rows (seat i).post.layout.config.scheme) (written mem m) v'.clock v'.helper v'.era v'.mark v'.deal
    → Parts (seat i).post.layout.config v'
    → Made mem seat i m (run_turn why (seat i).desk (goes (counted (seat i).post) told base)) v'.deal
go mem seat i v m why told base r v' a p t g e u d =
    made mem seat v.role i m (run_turn why (seat i).desk (goes (counted (seat i).post) told base)) r v'
    (subst (λ (f : ℕ → ℕ → ℕ). Locals (seat i).post.layout seat f v.role) g a.facts.locals)
    (record { post = own_post mem seat i v a; phase = record { is = p; there = t } })
    e u d

-- a machine ends or goes on, and neither asks nor helps from here on
pub rest : (mem : Place → ℕ) (seat : ℕ → Local) (i : ℕ) (v : View) (m : Move) (why : Why) (t : Turn) (v' : View)
    → At mem seat i v
    → Moves (PostOf (seat i).post.layout (seat i).post.tags) (RoleOf (seat i).post.layout Away) why t
    → v.tag ≡ v'.tag
    → v'.role ≡ upd v.role i Away
    → Words (publishes_rows (seat i).post.layout.config.scheme) (written mem m) v'.clock v'.helper v'.era v'.mark v'.deal
    → Parts (seat i).post.layout.config v'
    → Made mem seat i m (run_turn why (seat i).desk t) v'.deal
rest mem seat i v m why t v' a h g e u d =
    made mem seat v.role i m (run_turn why (seat i).desk t) Away v'
    (subst (λ (f : ℕ → ℕ → ℕ). Locals (seat i).post.layout seat f v.role) g a.facts.locals)
    (run_left (away (seat i).post.layout (seat i).post.tags) why (seat i).desk t h)
    e u d
