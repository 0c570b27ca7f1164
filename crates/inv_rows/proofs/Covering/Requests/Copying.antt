-- The steps of a copy, and the own steps of calls in general.
use Rattle.std.proofs.Common.{ℕ, ◌≡◌, Bool, true, false, List, [], refl, ap, ◌∙◌}
use Rattle.std.specs.Prelude.{if◌then◌else◌, Option, Some, None}
use Rattle.inv_rows.specs.words.Place.{Place}
use Rattle.inv_rows.specs.words.Place.Place.{Index}
use Rattle.inv_rows.specs.words.Packed.{read_reservation}
use Rattle.inv_rows.specs.words.Schemes.{has_one_interval, publishes_rows}
use Rattle.inv_rows.specs.words.declared.layout.Layout.{Layout}
use Rattle.inv_rows.specs.words.declared.packed.Reservation.{Reservation}
use Rattle.inv_rows.specs.defs.declared.event.Event.{Event}
use Rattle.inv_rows.specs.defs.declared.event.Guard.TheVariants as guards
use Rattle.inv_rows.specs.model.declared.post.Post.{Post}
use Rattle.inv_rows.specs.model.Desks.{Desk}
use Rattle.inv_rows.specs.model.Guards.{guard_place}
use Rattle.inv_rows.specs.model.Memory.{upd, Move, place_in, found}
use Rattle.inv_rows.specs.model.Memory as memory
use Rattle.inv_rows.specs.model.Posts.{counted, stands}
use Rattle.inv_rows.specs.model.Rounds.{scheme_of}
use Rattle.inv_rows.specs.model.Keep.{held_number, keep_move, keep_turn, copied, load_held}
use Rattle.inv_rows.specs.model.Calls.{Getting, Changing, Enqueuing, Dequeuing, KeepAt, Loosens, LoadHeld, StoreHeld, Looks, Misses, HideSpan, MarkLeft, TakeList, MarkTaken, Work, Keeping, Works}
use Rattle.inv_rows.specs.model.Steps.{work_move, work_turn}
use Rattle.inv_rows.specs.model.Locals.{Local}
use Rattle.inv_rows.specs.Shapes.Frame.{KeepFits, WorkFits, Left}
use Rattle.inv_rows.specs.Covering.Requests.Views.{View, upd2, Role as roles}
use Rattle.inv_rows.specs.Covering.Requests.Turns.{PostOf, RoleOf, Made}
use Rattle.inv_rows.specs.Covering.Requests.Context.{At}
use Rattle.inv_rows.proofs.Covering.Requests.Requester as own
use Rattle.inv_rows.proofs.Covering.Requests.Turns.{made}
use Rattle.inv_rows.proofs.Covering.Requests.Going.{same_role, stands_in, own_post}
use Rattle.inv_rows.proofs.Covering.Requests.Asking.{words_shown}
use Rattle.inv_rows.proofs.Covering.Requests.Words.{words_row}
use Rattle.inv_rows.specs.Covering.Requests.Standing.{copy_role}
use Rattle.inv_rows.proofs.Covering.Requests.Handing.{read_index}
use Rattle.inv_rows.proofs.Covering.Requests.Resting.{call_made, get_leaves, change_leaves, enqueue_leaves, dequeue_leaves, work_made}

-- what the operation of a seat finds
abbrev pub found_by : (Place → ℕ) → Move → ℕ
found_by mem m = found m (mem (place_in m))

-- a copy that ends leaves table and tags
copied_left : (layout : Layout) (tags : List ℕ) (from index : ℕ) (post : Post) (desk : Desk) (reserved : List Event) (o : Option ℕ) → PostOf layout tags post → Left (PostOf layout tags) (RoleOf layout roles.Away) (copied from index post desk reserved o)
copied_left layout tags from index post desk reserved None p = record { post = p; phase = record { is = refl; there = refl } }
copied_left layout tags from index post desk reserved (Some slot) p = record { post = record { table = p.table; guarded = p.guarded; kept = p.kept }; phase = record { is = refl; there = refl } }

-- 1. The index word that is copied is loaded; under 2GE the copy ends.
load_copied : (mem : Place → ℕ) (seat : ℕ → Local) (i : ℕ) (v : View) (from index : ℕ) → At mem seat i v → (seat i).phase ≡ Works (Keeping (LoadHeld from index))
    → Made mem seat i (keep_move (LoadHeld from index) (seat i).post) (keep_turn (LoadHeld from index) (counted (seat i).post) (seat i).desk (found_by mem (keep_move (LoadHeld from index) (seat i).post))) v.deal
load_copied mem seat i v from index a q = loaded (has_one_interval (scheme_of (seat i).post))
  where
    word : Bool → Place
    word one = guard_place (if one then guards.Whole (seat i).post.seat else guards.Index (seat i).post.seat from)

    loaded : (one : Bool) → Made mem seat i (memory.Load (word one)) (load_held from index (counted (seat i).post) (seat i).desk (mem (word one)) one) v.deal
    loaded true =
        call_made mem seat i v (Works (Keeping (LoadHeld from index))) (memory.Load (word true)) (load_held from index (counted (seat i).post) (seat i).desk (mem (word true)) true) a q refl refl
        (copied_left (seat i).post.layout (seat i).post.tags from index (counted (seat i).post) (seat i).desk [] (stands (counted (seat i).post) from) (own_post mem seat i v a))
    loaded false = held (publishes_rows (scheme_of (seat i).post)) refl
      where
        held : (rows : Bool) → publishes_rows (scheme_of (seat i).post) ≡ rows → Made mem seat i (memory.Load (word false)) (load_held from index (counted (seat i).post) (seat i).desk (mem (word false)) false) v.deal
        held true p =
            call_made mem seat i v (Works (Keeping (LoadHeld from index))) (memory.Load (word false)) (load_held from index (counted (seat i).post) (seat i).desk (mem (word false)) false) a q refl refl
            (record { post = own_post mem seat i v a; phase = record { is = ap (λ (b : Bool). copy_role b from (held_number b (mem (word false)))) p; there = refl } })
        held false p =
            let e = ap (λ (n : ℕ). (read_reservation (mem (Index n from))).era) a.number ∙ ap (λ (r : Reservation). r.era) (read_index mem seat i v i from a p) in
            made mem seat v.role i (memory.Load (word false)) (load_held from index (counted (seat i).post) (seat i).desk (mem (word false)) false) (roles.Copies from (v.era i from))
            (record v { role = upd v.role i (roles.Copies from (v.era i from)) }) a.facts.locals
            (record { post = own_post mem seat i v a; phase = record { is = ap (λ (b : Bool). copy_role b from (held_number b (mem (word false)))) p ∙ ap (roles.Copies from) e; there = refl } })
            refl a.facts.words
            (own.copies-keeps (seat i).post.layout.config v i from a.below a.facts.parts (stands_in mem seat i v (Works (Keeping (LoadHeld from index))) a q))

-- 2. The era is stored at the other index, whose tag is the seat's own; or the link as it is.
store_copied : (mem : Place → ℕ) (seat : ℕ → Local) (i : ℕ) (v : View) (from index era found : ℕ) → At mem seat i v → (seat i).phase ≡ Works (Keeping (StoreHeld from index era))
    → Made mem seat i (keep_move (StoreHeld from index era) (seat i).post) (keep_turn (StoreHeld from index era) (counted (seat i).post) (seat i).desk found) v.deal
store_copied mem seat i v from index era found a q = stored (publishes_rows (seat i).post.layout.config.scheme) refl
  where
    stored : (rows : Bool) → publishes_rows (seat i).post.layout.config.scheme ≡ rows → Made mem seat i (keep_move (StoreHeld from index era) (seat i).post) (keep_turn (StoreHeld from index era) (counted (seat i).post) (seat i).desk found) v.deal
    stored true p =
        let r = stands_in mem seat i v (Works (Keeping (StoreHeld from index era))) a q ∙ ap (λ (b : Bool). copy_role b from era) p in
        made mem seat v.role i (keep_move (StoreHeld from index era) (seat i).post) (keep_turn (StoreHeld from index era) (counted (seat i).post) (seat i).desk found) roles.Away
        (record v { role = upd v.role i roles.Away }) a.facts.locals
        (copied_left (seat i).post.layout (seat i).post.tags from index (counted (seat i).post) (seat i).desk _ (stands (counted (seat i).post) from) (own_post mem seat i v a))
        refl (words_row mem v.clock v.helper v.era v.mark v.deal (seat i).post.seat index _ p a.facts.words)
        (same_role (seat i).post.layout.config v i roles.Away a.facts.parts r)
    stored false p =
        let r = stands_in mem seat i v (Works (Keeping (StoreHeld from index era))) a q ∙ ap (λ (b : Bool). copy_role b from era) p in
        made mem seat v.role i (keep_move (StoreHeld from index era) (seat i).post) (keep_turn (StoreHeld from index era) (counted (seat i).post) (seat i).desk found) roles.Away
        (record v { era = upd2 v.era i index era; role = upd v.role i roles.Away }) a.facts.locals
        (copied_left (seat i).post.layout (seat i).post.tags from index (counted (seat i).post) (seat i).desk _ (stands (counted (seat i).post) from) (own_post mem seat i v a))
        refl (words_shown mem seat i v (publishes_rows (scheme_of (seat i).post)) index era a refl (rw r at (a.facts.parts.fit i)))
        (own.stores-keeps (seat i).post.layout.config v i from index era a.below a.facts.parts r)

keep_made : (mem : Place → ℕ) (seat : ℕ → Local) (i : ℕ) (v : View) (at : KeepAt) → At mem seat i v → (seat i).phase ≡ Works (Keeping at) → KeepFits (counted (seat i).post) at
    → Made mem seat i (keep_move at (seat i).post) (keep_turn at (counted (seat i).post) (seat i).desk (found_by mem (keep_move at (seat i).post))) v.deal
keep_made mem seat i v (Loosens let_go) a q f = work_made mem seat i v (Keeping (Loosens let_go)) (found_by mem (keep_move (Loosens let_go) (seat i).post)) a q refl refl f tt
keep_made mem seat i v (LoadHeld from index) a q f = load_copied mem seat i v from index a q
keep_made mem seat i v (StoreHeld from index era) a q f = store_copied mem seat i v from index era (found_by mem (keep_move (StoreHeld from index era) (seat i).post)) a q
keep_made mem seat i v (Looks index key at) a q f = work_made mem seat i v (Keeping (Looks index key at)) (found_by mem (keep_move (Looks index key at) (seat i).post)) a q (get_leaves at) refl f tt
keep_made mem seat i v (Misses index) a q f = work_made mem seat i v (Keeping (Misses index)) (found_by mem (keep_move (Misses index) (seat i).post)) a q refl refl f tt
keep_made mem seat i v HideSpan a q f = work_made mem seat i v (Keeping HideSpan) (found_by mem (keep_move HideSpan (seat i).post)) a q refl refl f tt
keep_made mem seat i v MarkLeft a q f = work_made mem seat i v (Keeping MarkLeft) (found_by mem (keep_move MarkLeft (seat i).post)) a q refl refl f tt
keep_made mem seat i v (TakeList place) a q f = work_made mem seat i v (Keeping (TakeList place)) (found_by mem (keep_move (TakeList place) (seat i).post)) a q refl refl f tt
keep_made mem seat i v (MarkTaken place count) a q f = work_made mem seat i v (Keeping (MarkTaken place count)) (found_by mem (keep_move (MarkTaken place count) (seat i).post)) a q refl refl f tt

-- a call's own steps
pub own_made : (mem : Place → ℕ) (seat : ℕ → Local) (i : ℕ) (v : View) (work : Work) → At mem seat i v → (seat i).phase ≡ Works work → WorkFits (counted (seat i).post) work
    → Made mem seat i (work_move work (seat i).post) (work_turn work (counted (seat i).post) (seat i).desk (found_by mem (work_move work (seat i).post))) v.deal
own_made mem seat i v (Getting key at) a q f = work_made mem seat i v (Getting key at) (found_by mem (work_move (Getting key at) (seat i).post)) a q (get_leaves at) refl f tt
own_made mem seat i v (Changing kept at) a q f = work_made mem seat i v (Changing kept at) (found_by mem (work_move (Changing kept at) (seat i).post)) a q (change_leaves kept at (seat i).post) refl f tt
own_made mem seat i v (Enqueuing kept at) a q f = work_made mem seat i v (Enqueuing kept at) (found_by mem (work_move (Enqueuing kept at) (seat i).post)) a q (enqueue_leaves kept at) refl f tt
own_made mem seat i v (Dequeuing at) a q f = work_made mem seat i v (Dequeuing at) (found_by mem (work_move (Dequeuing at) (seat i).post)) a q (dequeue_leaves at) refl f tt
own_made mem seat i v (Keeping at) a q f = keep_made mem seat i v at a q f
