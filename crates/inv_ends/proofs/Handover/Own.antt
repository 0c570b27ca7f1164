-- What the index words of the seat that steps hold after its step.
use Rattle.inv_rows.specs.defs.Shown as values
use Rattle.inv_rows.specs.Covering.Requests.Standing.{copy_role}
use Rattle.std.proofs.Common.{ℕ, ◌≡◌, ◌<◌, ◌+◌, ◌∙◌, Bool, true, false, length, Option, Some, None, refl, ap, sym, subst, arith, ◌⊎◌, inl, inr, ◌&&◌}
use Rattle.std.proofs.lemmas.Bool.Decides.{nat_tests}
use Rattle.std.specs.Prelude.{◌==◌}
use Rattle.inv_rows.specs.words.Place.{Place}
use Rattle.inv_rows.specs.words.Place.Place.{Clock, Head}
use Rattle.inv_rows.specs.words.declared.layout.Layout.{Layout}
use Rattle.inv_rows.specs.defs.declared.event.Guard.{Guard}
use Rattle.inv_rows.specs.defs.declared.event.Guard.TheVariants.{Index}
use Rattle.inv_rows.specs.defs.declared.event.Root.{Root}
use Rattle.inv_rows.specs.defs.declared.event.Root.TheVariants as roots
use Rattle.inv_rows.specs.model.declared.post.Post.{Post}
use Rattle.inv_rows.specs.model.Guards.{from_to, one_era, own_guard}
use Rattle.inv_rows.specs.model.Links.{link_place, link_number, parent_of}
use Rattle.inv_rows.specs.model.Memory.{place_in, found, bump}
use Rattle.inv_rows.specs.model.Posts.{stands, counted, tag_of}
use Rattle.inv_rows.specs.model.Phases.{Aim, Follows, ProtectAt, Base}
use Rattle.inv_rows.specs.model.Phases.ProtectAt.{PublishEra, LoadLink, TakeAnswer, ByHazard}
use Rattle.inv_rows.specs.model.Phases.HazardAt.{PublishLink}
use Rattle.inv_rows.specs.model.Phases.MoveAt.{HandOver}
use Rattle.inv_rows.specs.model.Phases.Base.{Begin, Protect, Reload, Clear, Finish, Release, Allocate, Write, GiveUp, Retire, Move}
use Rattle.inv_rows.specs.model.Machine.{protect_move, after}
use Rattle.inv_rows.specs.model.Scan.{scan_turn}
use Rattle.inv_rows.specs.model.Steps.{phase_turn}
use Rattle.inv_rows.specs.model.Calls.{Why, Opens, FollowsHead, Fills, ClearsNext, Clears, Finishes, GivesUp, Retires, Tidies, Advances, Releases, Loosens, LoadHeld, StoreHeld, Looks, Misses, HideSpan, MarkLeft, TakeList, MarkTaken, Work, Getting, Changing, Enqueuing, Dequeuing, Keeping, Phase, Idle, Runs, Scans, Works}
use Rattle.inv_rows.specs.model.World.{World, step, finds, offered}
use Rattle.inv_rows.proofs.model.Ranges.{bounds_of}
use Rattle.inv_rows.specs.Shapes.Frame.{phase_left}
use Rattle.inv_rows.specs.words.Schemes.{helps, publishes_rows}
use Rattle.inv_rows.specs.Shapes.Seats.{Run}
use Rattle.inv_rows.specs.Covering.Requests.Views.{View as Asked, Role as role}
use Rattle.inv_rows.specs.Rows.{Status, View}
use Rattle.inv_rows.specs.Agree.{rows_after}
use Rattle.inv_rows.specs.Queue.{in_queue}
use Rattle.inv_rows.specs.Covering.Covers.{eras_shown, shown, number_shown}
use Rattle.inv_rows.specs.Covering.Held.{under, tries_protect, tries_base, index_base, Holds, Held, rests_protect}
use Rattle.inv_rows.specs.Covering.Rests.{vacant_why, vacant, Vacant}
use Rattle.inv_ends.specs.Helped.{Helped}
use Rattle.inv_ends.specs.Handover.{HandoverNeeds}
use Rattle.inv_rows.proofs.Covering.Held.{stepped_post, stepped_phase, KeepFrom, WorkFrom, PhaseHas, From, turn_from, head_queued, finds_at, Comes, turn_out, other_comes, protect_stays, protect_rows, tries_counted, loads_cover, out_start, eras_reaches}
use Rattle.inv_rows.proofs.Covering.Tried.{is_protect}
use Rattle.inv_rows.specs.model.WriteRow.{last_written}
use Rattle.inv_rows.proofs.Covering.Stood.{reload_stood, begin_stood, allocate_stood, write_stood, retire_stood, move_stood}
use Rattle.inv_rows.proofs.Covering.Stands.{withdrawn_shrinks, withdrawn_apart}
use Rattle.inv_rows.proofs.Covering.Resting.{base_rests}
use Rattle.inv_rows.proofs.Covering.Copying.{copy_covers}
use Rattle.inv_rows.proofs.Covering.Fresh.{works_start}
use Rattle.inv_rows.proofs.Covering.Words.{work_stores, eras_are_shown}
use Rattle.inv_rows.specs.Shapes.Seats.{PhaseFits}
use Rattle.inv_rows.specs.Shapes.Slots.{PhaseIn}
use Rattle.inv_rows.specs.words.Schemes.{has_one_interval}
use Rattle.inv_rows.proofs.words.Schemes.{helps_not_interval, helps_not_rows}
use Rattle.inv_rows.proofs.Covering.Scans.{scan_starts}
use Rattle.inv_ends.proofs.Handover.Tries.{try_loads, takes_row, Rose, protect_rose, protect_next}
use Rattle.inv_ends.proofs.Handover.Asks.{Asker, asker, run_of, asker_rests, asker_untried}
use Rattle.inv_ends.proofs.Handover.Back.{inside_of}
use Rattle.inv_ends.proofs.Handover.Deals.{handed_deal}
use Rattle.inv_ends.proofs.Handover.Words.{stores_protect, own_index, Handed, index_stays}
use Rattle.inv_ends.proofs.Handover.Shown.{index_shows, one_from, helped_guard, index_fits, holds_stay, no_store, taken_holds}
use Rattle.inv_rows.proofs.Covering.Requests.Known.{stands_as}
use Rattle.inv_rows.proofs.model.Facts.{no_truth}

no_row : (x : Option ℕ) (s : ℕ) → x ≡ None → x ≡ Some s → false ≡ true
no_row x s a b = absurd (cc)

-- the seat of an index word to which an answer is handed over asks there
handed_asker : (w : World) (i : ℕ) (v : View) (z : Asked) (k j : ℕ) → HandoverNeeds w i v z → (h : Handed w i k j) → Asker w k j (link_number w.layout h.root)
handed_asker w i v z k j n h = asker w z k j (link_number w.layout h.root) n.requests (rw (handed_deal w i v z k j n h) (grind (arith, nat_tests)))

helped_holds : (w : World) (v : View) (k j s : ℕ) → helps w.layout.config.scheme ≡ true → Holds w v (own_guard w.layout.config.scheme k j) s → Holds w v (Index k j) s
helped_holds w v k j s f h = subst (λ (g : Guard). Holds w v g s) (helped_guard w.layout.config.scheme k j f) h

-- a row that stands at an index whose word its own seat leaves
pub stood_stays : (w : World) (i : ℕ) (v : View) (z : Asked) (k j s : ℕ) (phase : Phase) → helps w.layout.config.scheme ≡ true → HandoverNeeds w i v z → Held w v → (w.seat i).phase ≡ phase → own_index i phase k j ≡ false → stands (w.seat k).post j ≡ Some s → Holds (step w i) (rows_after w i v) (Index k j) s
stood_stays w i v z k j s phase f n d e o y = by (index_stays w i k j phase (n.seats.fits i).post.seat e o) where
  by : (eras_shown (step w i) (Index k j) ≡ eras_shown w (Index k j)) ⊎ Handed w i k j → Holds (step w i) (rows_after w i v) (Index k j) s
  by (inl q) = holds_stay w i v (Index k j) s f n.covers n.scans q (helped_holds w v k j s f (d.stood k j s y))
  by (inr h) = absurd (no_truth (no_row (stands (w.seat k).post j) s (asker_rests w k j (link_number w.layout h.root) n.seats n.rests (handed_asker w i v z k j n h)) y))

-- a row that is tried
pub tried_stays : (w : World) (i : ℕ) (v : View) (z : Asked) (k : ℕ) (why : Why) (base : Base) (s : ℕ) (phase : Phase) → helps w.layout.config.scheme ≡ true → HandoverNeeds w i v z → Held w v → (w.seat i).phase ≡ phase → own_index i phase k (index_base base) ≡ false
    → (w.seat k).phase ≡ Runs why base → tries_base (w.mem Clock) v.status (w.seat k).post base s ≡ true → Holds (step w i) (rows_after w i v) (Index k (index_base base)) s
tried_stays w i v z k why base s phase f n d e o q y = by (index_stays w i k (index_base base) phase (n.seats.fits i).post.seat e o) where
  by : (eras_shown (step w i) (Index k (index_base base)) ≡ eras_shown w (Index k (index_base base))) ⊎ Handed w i k (index_base base) → Holds (step w i) (rows_after w i v) (Index k (index_base base)) s
  by (inl x) = holds_stay w i v (Index k (index_base base)) s f n.covers n.scans x (helped_holds w v k (index_base base) s f (d.tried k why base s q y))
  by (inr h) = absurd (no_truth (sym (asker_untried w v k (index_base base) (link_number w.layout h.root) why base s (handed_asker w i v z k (index_base base) n h) q) ∙ y))

-- the own index word, by what the step stores
pub own_stores : (i : ℕ) (b : Bool) → b ≡ false → (i == i && b) ≡ false
own_stores i b h = rw h (grind (arith, nat_tests))

-- where an era is published or an answer taken nothing stood
protect_left : (w : World) (i : ℕ) (v : View) (z : Asked) (why : Why) (aim : Aim) (index : ℕ) (root : Root) (steps : ℕ) (at : ProtectAt) (j s : ℕ) (own : Bool) → helps w.layout.config.scheme ≡ true → HandoverNeeds w i v z → Held w v → (w.seat i).phase ≡ Runs why (Protect aim index root steps at) → stores_protect index at j ≡ own → stands (w.seat i).post j ≡ Some s → Holds (step w i) (rows_after w i v) (Index i j) s
protect_left w i v z why aim index root steps at j s false f n d e o y = stood_stays w i v z i j s (Runs why (Protect aim index root steps at)) f n d e (own_stores i (stores_protect index at j) o) y
protect_left w i v z why aim index root steps at j s true f n d e o y =
    let x : Vacant (vacant_why why (Protect aim index root steps at)) (w.seat i).post = subst (λ (p : Phase). Vacant (vacant p) (w.seat i).post) e (n.rests.vacant i) in
    absurd (no_truth (no_row (stands (w.seat i).post j) s (base_rests w.layout why (Protect aim index root steps at) (w.seat i).post j (run_of w i why (Protect aim index root steps at) n.seats e) x (rests_stored index at j o)) y))
  where
    rests_stored : (index : ℕ) (at : ProtectAt) (j : ℕ) → stores_protect index at j ≡ true → rests_protect index at j ≡ true
    rests_stored index (PublishEra era tries) j h = h
    rests_stored index (TakeAnswer link era) j h = h
    rests_stored index (ByHazard (PublishLink link)) j h = h
    rests_stored index at j h = absurd (cc)

-- a try that had its link stores nothing
tried_apart : (clock : ℕ) (status : ℕ → Status) (post : Post) (index : ℕ) (root : Root) (at : ProtectAt) (s : ℕ) → tries_protect clock status post root at s ≡ true → stores_protect index at index ≡ false
tried_apart clock status post index root (PublishEra era tries) s h = absurd (cc)
tried_apart clock status post index root (TakeAnswer link era) s h = absurd (cc)
tried_apart clock status post index root (ByHazard (PublishLink link)) s h = absurd (cc)
tried_apart clock status post index root at s h = refl

loads_apart : (clock : ℕ) (status : ℕ → Status) (mem : Place → ℕ) (index : ℕ) (root : Root) (at : ProtectAt) (s : ℕ) → try_loads clock status mem root at s ≡ true → stores_protect index at index ≡ false
loads_apart clock status mem index root (PublishEra era tries) s h = absurd (cc)
loads_apart clock status mem index root (TakeAnswer link era) s h = absurd (cc)
loads_apart clock status mem index root (ByHazard (PublishLink link)) s h = absurd (cc)
loads_apart clock status mem index root at s h = refl

-- an answer is taken
takes_holds : (w : World) (i : ℕ) (v : View) (z : Asked) (why : Why) (aim : Aim) (index : ℕ) (root : Root) (steps : ℕ) (at : ProtectAt) (s : ℕ) → helps w.layout.config.scheme ≡ true → HandoverNeeds w i v z → Helped w v z.deal → (w.seat i).phase ≡ Runs why (Protect aim index root steps at) → takes_row v.status root at s ≡ true → Holds (step w i) (rows_after w i v) (Index i index) s
takes_holds w i v z why aim index root steps (TakeAnswer link era) s f n d e h = taken_holds w i v z why aim index root steps link era s f n d e (grind (arith, nat_tests)) (grind (arith, nat_tests))
takes_holds w i v z why aim index root steps at s f n d e h = absurd (cc)

-- a link is loaded in a try
load_holds : (w : World) (i : ℕ) (v : View) (z : Asked) (why : Why) (aim : Aim) (index : ℕ) (root : Root) (steps : ℕ) (at : ProtectAt) (s : ℕ) → helps w.layout.config.scheme ≡ true → HandoverNeeds w i v z → (w.seat i).phase ≡ Runs why (Protect aim index root steps at) → try_loads (w.mem Clock) v.status w.mem root at s ≡ true → Holds w v (Index i index) s
load_holds w i v z why aim index root steps (LoadLink era tries) s f n e h =
    let r = stands_as w z i (Runs why (Protect aim index root steps (LoadLink era tries))) n.requests e in
    let p : (z.era i index == era) ≡ true = rw r at (n.requests.parts.published i) in
    let q : z.era i index ≡ era = grind (arith, nat_tests) in
    let l : w.mem (link_place root) ≡ s + 1 = grind (arith, nat_tests) in
    let u : under v.status root ≡ true = grind (arith, nat_tests) in
    let c : w.mem Clock ≡ era = grind (arith, nat_tests) in
    let m = n.eras.some in
    let o = inside_of w i v z i why aim index root steps (LoadLink era tries) n e in
    let x : eras_shown w (Index i index) ≡ from_to era era = index_shows w i v z i index n (helps_not_rows w.layout.config.scheme f) ∙ ap one_era q ∙ one_from era (omega (arith, c, m)) in
    record { fits = index_fits w.layout.config i index f n.below (grind (arith, nat_tests)); covers = loads_cover w v (Index i index) root s n.roots (eras_reaches w (Index i index) era era s (helps_not_rows w.layout.config.scheme f) x (omega (arith, c))) l u }
load_holds w i v z why aim index root steps at s f n e h = absurd (cc)

-- the phase of a protection is no hand-over
no_phase : (a b : Why) (era k tag j : ℕ) (root : Root) (link old : ℕ) (aim : Aim) (index : ℕ) (other : Root) (steps : ℕ) (at : ProtectAt) → Runs a (Move (HandOver era k tag j root link old)) ≡ Runs b (Protect aim index other steps at) → ⊥
no_phase a b era k tag j root link old aim index other steps at q = cc

still_index : (w : World) (i : ℕ) (v : View) (z : Asked) (why : Why) (aim : Aim) (index : ℕ) (root : Root) (steps : ℕ) (at : ProtectAt) (j : ℕ) → HandoverNeeds w i v z → (w.seat i).phase ≡ Runs why (Protect aim index root steps at) → stores_protect index at j ≡ false → eras_shown (step w i) (Index i j) ≡ eras_shown w (Index i j)
still_index w i v z why aim index root steps at j n e o = by (index_stays w i i j (Runs why (Protect aim index root steps at)) (n.seats.fits i).post.seat e (own_stores i (stores_protect index at j) o)) where
  by : (eras_shown (step w i) (Index i j) ≡ eras_shown w (Index i j)) ⊎ Handed w i i j → eras_shown (step w i) (Index i j) ≡ eras_shown w (Index i j)
  by (inl q) = q
  by (inr h) = absurd (no_phase h.why why h.era i h.tag j h.root h.link h.old aim index root steps at (sym h.is ∙ e))

load_stays : (w : World) (i : ℕ) (v : View) (z : Asked) (why : Why) (aim : Aim) (index : ℕ) (root : Root) (steps : ℕ) (at : ProtectAt) (s : ℕ) → helps w.layout.config.scheme ≡ true → HandoverNeeds w i v z → (w.seat i).phase ≡ Runs why (Protect aim index root steps at) → try_loads (w.mem Clock) v.status w.mem root at s ≡ true → Holds (step w i) (rows_after w i v) (Index i index) s
load_stays w i v z why aim index root steps at s f n e h =
    holds_stay w i v (Index i index) s f n.covers n.scans (still_index w i v z why aim index root steps at index n e (loads_apart (w.mem Clock) v.status w.mem index root at s h)) (load_holds w i v z why aim index root steps at s f n e h)

-- the index of a machine has a place in the post
index_small : (w : World) (i : ℕ) (v : View) (z : Asked) (why : Why) (aim : Aim) (index : ℕ) (root : Root) (steps : ℕ) (at : ProtectAt) → HandoverNeeds w i v z → (w.seat i).phase ≡ Runs why (Protect aim index root steps at) → index < length (w.seat i).post.standing
index_small w i v z why aim index root steps at n e =
    let o = inside_of w i v z i why aim index root steps at n e in
    let b = bounds_of w.layout n.valid in
    let c = b.indexes in
    let l = (n.seats.fits i).post.standing in
    let x : index < w.layout.config.indexes = grind (arith, nat_tests) in omega (arith, x, c, l)

reload_index : (layout : Layout) (why : Why) (parent index slot era steps : ℕ) (post : Post) → Run layout why (Reload parent index slot era steps) post → index ≡ 1
reload_index layout (FollowsHead head tail) parent index slot era steps post r = r.shape.at
reload_index layout (Opens task) parent index slot era steps post r = absurd (no_truth r.suited)
reload_index layout (Fills task) parent index slot era steps post r = absurd (no_truth r.suited)
reload_index layout (ClearsNext next) parent index slot era steps post r = absurd (no_truth r.suited)
reload_index layout (Clears task next) parent index slot era steps post r = absurd (no_truth r.suited)
reload_index layout (Finishes task next) parent index slot era steps post r = absurd (no_truth r.suited)
reload_index layout (GivesUp answer) parent index slot era steps post r = absurd (no_truth r.suited)
reload_index layout (Retires answer) parent index slot era steps post r = absurd (no_truth r.suited)
reload_index layout (Tidies later) parent index slot era steps post r = absurd (no_truth r.suited)
reload_index layout Advances parent index slot era steps post r = absurd (no_truth r.suited)
reload_index layout (Releases key) parent index slot era steps post r = absurd (no_truth r.suited)

-- what stands after a protection's step
rose_holds : (w : World) (i : ℕ) (v : View) (z : Asked) (why : Why) (aim : Aim) (index : ℕ) (root : Root) (steps : ℕ) (at : ProtectAt) (j s : ℕ) → helps w.layout.config.scheme ≡ true → HandoverNeeds w i v z → Held w v → Helped w v z.deal → (w.seat i).phase ≡ Runs why (Protect aim index root steps at)
    → Rose (w.mem Clock) v.status (counted (w.seat i).post) index root at j s → Holds (step w i) (rows_after w i v) (Index i j) s
rose_holds w i v z why aim index root steps at j s f n d g e (inl y) = protect_left w i v z why aim index root steps at j s (stores_protect index at j) f n d e refl y
rose_holds w i v z why aim index root steps at j s f n d g e (inr y) = rw y.0 (by y.1) where
  by : (tries_protect (w.mem Clock) v.status (counted (w.seat i).post) root at s ≡ true) ⊎ (takes_row v.status root at s ≡ true) → Holds (step w i) (rows_after w i v) (Index i index) s
  by (inl x) =
      let t = sym (tries_counted (w.mem Clock) v.status (w.seat i).post (Protect aim index root steps at) s) ∙ x in
      tried_stays w i v z i why (Protect aim index root steps at) s (Runs why (Protect aim index root steps at)) f n d e (own_stores i (stores_protect index at index) (tried_apart (w.mem Clock) v.status (w.seat i).post index root at s t)) e t
  by (inr x) = takes_holds w i v z why aim index root steps at s f n g e x

protect_holds : (w : World) (i : ℕ) (v : View) (z : Asked) (why : Why) (aim : Aim) (index : ℕ) (root : Root) (steps : ℕ) (at : ProtectAt) (j s : ℕ) → helps w.layout.config.scheme ≡ true → HandoverNeeds w i v z → Held w v → Helped w v z.deal → (w.seat i).phase ≡ Runs why (Protect aim index root steps at)
    → stands (after (Protect aim index root steps at) (counted (w.seat i).post) (finds w i)).post j ≡ Some s → Holds (step w i) (rows_after w i v) (Index i j) s
protect_holds w i v z why aim index root steps at j s f n d g e y =
    let x = finds_at w i (Runs why (Protect aim index root steps at)) e in
    let t : stands (after (Protect aim index root steps at) (counted (w.seat i).post) (found (protect_move index root at (w.seat i).post) (w.mem (place_in (protect_move index root at (w.seat i).post))))).post j ≡ Some s = subst (λ (k : ℕ). stands (after (Protect aim index root steps at) (counted (w.seat i).post) k).post j ≡ Some s) x y in
    rose_holds w i v z why aim index root steps at j s f n d g e
    (protect_rose (w.mem Clock) v.status w.layout.config.scheme w.layout.config.tries w.mem aim index root (bump steps) at (counted (w.seat i).post) (w.seat i).post j s refl f (run_of w i why (Protect aim index root steps at) n.seats e).fits (index_small w i v z why aim index root steps at n e) t)

-- a followed row is held from the reload on
reload_holds : (w : World) (i : ℕ) (v : View) (z : Asked) (why : Why) (parent index slot era steps : ℕ) (j s : ℕ) → helps w.layout.config.scheme ≡ true → HandoverNeeds w i v z → Held w v → (w.seat i).phase ≡ Runs why (Reload parent index slot era steps)
    → (stands (counted (w.seat i).post) j ≡ Some s) ⊎ ((j ≡ index) × ((slot == s && in_queue (v.status parent)) ≡ true)) → Holds (step w i) (rows_after w i v) (Index i j) s
reload_holds w i v z why parent index slot era steps j s f n d e (inl y) = stood_stays w i v z i j s (Runs why (Reload parent index slot era steps)) f n d e (no_store i i) y
reload_holds w i v z why parent index slot era steps j s f n d e (inr y) = rw y.0 (tried_stays w i v z i why (Reload parent index slot era steps) s (Runs why (Reload parent index slot era steps)) f n d e (no_store i i) e y.1)

reload_from : (w : World) (i : ℕ) (v : View) (z : Asked) (why : Why) (parent index slot era steps : ℕ) (j s : ℕ) → HandoverNeeds w i v z → (w.seat i).phase ≡ Runs why (Reload parent index slot era steps) → stands (after (Reload parent index slot era steps) (counted (w.seat i).post) (finds w i)).post j ≡ Some s
    → (stands (counted (w.seat i).post) j ≡ Some s) ⊎ ((j ≡ index) × ((slot == s && in_queue (v.status parent)) ≡ true))
reload_from w i v z why parent index slot era steps j s n e y =
    let x = finds_at w i (Runs why (Reload parent index slot era steps)) e in
    let t : stands (after (Reload parent index slot era steps) (counted (w.seat i).post) (w.mem Head)).post j ≡ Some s = subst (λ (k : ℕ). stands (after (Reload parent index slot era steps) (counted (w.seat i).post) k).post j ≡ Some s) x y in
    let o = reload_index w.layout why parent index slot era steps (w.seat i).post (run_of w i why (Reload parent index slot era steps) n.seats e) in
    let l = (n.seats.fits i).post.standing in
    reload_stood v.status parent index slot (w.mem Head) (bump steps) (counted (w.seat i).post) j s (w.mem Head == parent + 1) refl (omega (arith, o, l)) (λ q. head_queued w v parent n.covers.rows q) t

-- a machine of the seat that steps
base_holds : (w : World) (i : ℕ) (v : View) (z : Asked) (why : Why) (base : Base) (j s : ℕ) → helps w.layout.config.scheme ≡ true → HandoverNeeds w i v z → Held w v → Helped w v z.deal → (w.seat i).phase ≡ Runs why base
    → stands (after base (counted (w.seat i).post) (finds w i)).post j ≡ Some s → Holds (step w i) (rows_after w i v) (Index i j) s
base_holds w i v z why (Begin at) j s f n d g e y = stood_stays w i v z i j s (Runs why (Begin at)) f n d e (no_store i i) (begin_stood at (finds w i) (counted (w.seat i).post) j s y)
base_holds w i v z why (Protect aim index root steps at) j s f n d g e y = protect_holds w i v z why aim index root steps at j s f n d g e y
base_holds w i v z why (Reload parent index slot era steps) j s f n d g e y = reload_holds w i v z why parent index slot era steps j s f n d e (reload_from w i v z why parent index slot era steps j s n e y)
base_holds w i v z why (Clear rows index) j s f n d g e y =
    stood_stays w i v z i j s (Runs why (Clear rows index)) f n d e (own_stores i (j == index) (withdrawn_apart (counted (w.seat i).post) index j s y)) (withdrawn_shrinks (counted (w.seat i).post) index j s y)
base_holds w i v z why Finish j s f n d g e y = stood_stays w i v z i j s (Runs why Finish) f n d e (no_store i i) y
base_holds w i v z why (Release index) j s f n d g e y = stood_stays w i v z i j s (Runs why (Release index)) f n d e (no_store i i) (withdrawn_shrinks (counted (w.seat i).post) index j s y)
base_holds w i v z why (Allocate at) j s f n d g e y = stood_stays w i v z i j s (Runs why (Allocate at)) f n d e (no_store i i) (allocate_stood at (finds w i) (counted (w.seat i).post) j s y)
base_holds w i v z why (Write slot row place) j s f n d g e y = stood_stays w i v z i j s (Runs why (Write slot row place)) f n d e (no_store i i) (write_stood slot row place (counted (w.seat i).post) j s (place == last_written row) refl y)
base_holds w i v z why (GiveUp slot) j s f n d g e y = stood_stays w i v z i j s (Runs why (GiveUp slot)) f n d e (no_store i i) y
base_holds w i v z why (Retire at) j s f n d g e y = stood_stays w i v z i j s (Runs why (Retire at)) f n d e (no_store i i) (retire_stood at (finds w i) (counted (w.seat i).post) j s y)
base_holds w i v z why (Move at) j s f n d g e y = stood_stays w i v z i j s (Runs why (Move at)) f n d e (no_store i i) (move_stood at (finds w i) (counted (w.seat i).post) j s y)

-- a copy: it goes upwards, a row stands where it comes from, and each index publishes by itself
work_same : (w : World) (i : ℕ) (v : View) (z : Asked) (work : Work) (j s : ℕ) → helps w.layout.config.scheme ≡ true → HandoverNeeds w i v z → Held w v → (w.seat i).phase ≡ Works work → work_stores work j ≡ false → stands (w.seat i).post j ≡ Some s → Holds (step w i) (rows_after w i v) (Index i j) s
work_same w i v z work j s f n d e o y = stood_stays w i v z i j s (Works work) f n d e (own_stores i (work_stores work j) o) y

copy_load_holds : (w : World) (i : ℕ) (v : View) (z : Asked) (from index j s : ℕ) → helps w.layout.config.scheme ≡ true → HandoverNeeds w i v z → Held w v → (w.seat i).phase ≡ Works (Keeping (LoadHeld from index)) → KeepFrom (LoadHeld from index) (w.seat i).post j s → Holds (step w i) (rows_after w i v) (Index i j) s
copy_load_holds w i v z from index j s f n d e (inl y) = work_same w i v z (Keeping (LoadHeld from index)) j s f n d e refl y
copy_load_holds w i v z from index j s f n d e (inr y) =
    let x : has_one_interval w.layout.config.scheme ≡ true = subst (λ (l : Layout). has_one_interval l.config.scheme ≡ true) (n.seats.fits i).post.layout y.0 in
    absurd (no_truth (sym (helps_not_interval w.layout.config.scheme f) ∙ x))

tag_few : (w : World) (i : ℕ) (v : View) (z : Asked) (index : ℕ) → HandoverNeeds w i v z → tag_of (w.seat i).post index < 4294967295
tag_few w i v z index n = let b = bounds_of w.layout n.valid in omega (arith, n.requests.locals.tags i index, n.requests.parts.low i index, n.requests.parts.clock, b.eras)

-- the era of a copy is the one that the first index publishes
copied_shows : (w : World) (i : ℕ) (v : View) (z : Asked) (from index era : ℕ) → helps w.layout.config.scheme ≡ true → HandoverNeeds w i v z → (w.seat i).phase ≡ Works (Keeping (StoreHeld from index era)) → shown w (Index i from) ≡ number_shown (publishes_rows w.layout.config.scheme) era
copied_shows w i v z from index era f n e =
    let p = helps_not_rows w.layout.config.scheme f in
    let r : z.role i ≡ role.Copies from era = stands_as w z i (Works (Keeping (StoreHeld from index era))) n.requests e ∙ ap (λ (rows : Bool). copy_role rows from era) p in
    let x : (z.era i from == era) ≡ true = rw r at (n.requests.parts.published i) in
    let y : z.era i from ≡ era = grind (arith, nat_tests) in
    eras_are_shown w (Index i from) p ∙ ap values.shown (index_shows w i v z i from n p ∙ ap one_era y) ∙ ap (λ (rows : Bool). number_shown rows era) (sym p)

copy_store_holds : (w : World) (i : ℕ) (v : View) (z : Asked) (from index era s : ℕ) → helps w.layout.config.scheme ≡ true → HandoverNeeds w i v z → Held w v → (w.seat i).phase ≡ Works (Keeping (StoreHeld from index era)) → stands (w.seat i).post from ≡ Some s → Holds (step w i) (rows_after w i v) (Index i index) s
copy_store_holds w i v z from index era s f n d e y =
    let c : PhaseIn w.layout (w.seat i).desk (Works (Keeping (StoreHeld from index era))) = subst (λ (p : Phase). PhaseIn w.layout (w.seat i).desk p) e (n.slots.seats i).phase in
    let o = helped_holds w v i from s f (d.stood i from s y) in
    record { fits = index_fits w.layout.config i index f n.below c.below; covers = copy_covers w i v from index era s n.covers n.scans (n.seats.fits i).post.seat c.rises (λ p. tag_few w i v z index n) (copied_shows w i v z from index era f n e) e o.fits o.covers }

work_holds : (w : World) (i : ℕ) (v : View) (z : Asked) (work : Work) (j s : ℕ) → helps w.layout.config.scheme ≡ true → HandoverNeeds w i v z → Held w v → (w.seat i).phase ≡ Works work → WorkFrom work (w.seat i).post j s → Holds (step w i) (rows_after w i v) (Index i j) s
work_holds w i v z (Keeping (LoadHeld from index)) j s f n d e y = copy_load_holds w i v z from index j s f n d e y
work_holds w i v z (Keeping (StoreHeld from index era)) j s f n d e (inl y) = work_same w i v z (Keeping (StoreHeld from index era)) j s f n d e y.0 y.1
work_holds w i v z (Keeping (StoreHeld from index era)) j s f n d e (inr y) = rw y.0 (copy_store_holds w i v z from index era s f n d e y.1)
work_holds w i v z (Keeping (Loosens let_go)) j s f n d e y = work_same w i v z (Keeping (Loosens let_go)) j s f n d e refl y
work_holds w i v z (Keeping (Looks index key at)) j s f n d e y = work_same w i v z (Keeping (Looks index key at)) j s f n d e refl y
work_holds w i v z (Keeping (Misses index)) j s f n d e y = work_same w i v z (Keeping (Misses index)) j s f n d e refl y
work_holds w i v z (Keeping HideSpan) j s f n d e y = absurd y
work_holds w i v z (Keeping MarkLeft) j s f n d e y = work_same w i v z (Keeping MarkLeft) j s f n d e refl y
work_holds w i v z (Keeping (TakeList place)) j s f n d e y = work_same w i v z (Keeping (TakeList place)) j s f n d e refl y
work_holds w i v z (Keeping (MarkTaken place count)) j s f n d e y = work_same w i v z (Keeping (MarkTaken place count)) j s f n d e refl y
work_holds w i v z (Getting key at) j s f n d e y = work_same w i v z (Getting key at) j s f n d e refl y
work_holds w i v z (Changing kept at) j s f n d e y = work_same w i v z (Changing kept at) j s f n d e refl y
work_holds w i v z (Enqueuing kept at) j s f n d e y = work_same w i v z (Enqueuing kept at) j s f n d e refl y
work_holds w i v z (Dequeuing at) j s f n d e y = work_same w i v z (Dequeuing at) j s f n d e refl y

copy_room : (w : World) (i : ℕ) (v : View) (z : Asked) (index : ℕ) → HandoverNeeds w i v z → index < w.layout.config.indexes → index < length (w.seat i).post.standing
copy_room w i v z index n b = let m = (bounds_of w.layout n.valid).indexes in let l = (n.seats.fits i).post.standing in omega (arith, b, m, l)

phase_has : (w : World) (i : ℕ) (v : View) (z : Asked) (phase : Phase) → HandoverNeeds w i v z → (w.seat i).phase ≡ phase → PhaseHas phase (counted (w.seat i).post)
phase_has w i v z (Works (Keeping (LoadHeld from index))) n e =
    let q : PhaseFits w.layout (w.seat i).post (Works (Keeping (LoadHeld from index))) = subst (λ (p : Phase). PhaseFits w.layout (w.seat i).post p) e (n.seats.fits i).phase in
    let c : PhaseIn w.layout (w.seat i).desk (Works (Keeping (LoadHeld from index))) = subst (λ (p : Phase). PhaseIn w.layout (w.seat i).desk p) e (n.slots.seats i).phase in
    record { stood = q; room = copy_room w i v z index n c.below }
phase_has w i v z (Works (Keeping (StoreHeld from index era))) n e =
    let q : PhaseFits w.layout (w.seat i).post (Works (Keeping (StoreHeld from index era))) = subst (λ (p : Phase). PhaseFits w.layout (w.seat i).post p) e (n.seats.fits i).phase in
    let c : PhaseIn w.layout (w.seat i).desk (Works (Keeping (StoreHeld from index era))) = subst (λ (p : Phase). PhaseIn w.layout (w.seat i).desk p) e (n.slots.seats i).phase in
    record { stood = q.kept; room = copy_room w i v z index n c.below }
phase_has w i v z (Works (Keeping at)) n e = tt
phase_has w i v z (Works work) n e = tt
phase_has w i v z phase n e = tt

from_holds : (w : World) (i : ℕ) (v : View) (z : Asked) (phase : Phase) (j s : ℕ) → helps w.layout.config.scheme ≡ true → HandoverNeeds w i v z → Held w v → Helped w v z.deal → (w.seat i).phase ≡ phase → From phase (w.seat i).post (finds w i) j s → Holds (step w i) (rows_after w i v) (Index i j) s
from_holds w i v z Idle j s f n d g e y = stood_stays w i v z i j s Idle f n d e refl y
from_holds w i v z (Runs why base) j s f n d g e y = base_holds w i v z why base j s f n d g e y
from_holds w i v z (Scans later at) j s f n d g e y = stood_stays w i v z i j s (Scans later at) f n d e refl y
from_holds w i v z (Works work) j s f n d g e y = work_holds w i v z work j s f n d e y

-- what stands at an index of the seat that steps
pub own_stands : (w : World) (i : ℕ) (v : View) (z : Asked) (j s : ℕ) → helps w.layout.config.scheme ≡ true → HandoverNeeds w i v z → Held w v → Helped w v z.deal → stands ((step w i).seat i).post j ≡ Some s → Holds (step w i) (rows_after w i v) (Index i j) s
own_stands w i v z j s f n d g y =
    from_holds w i v z (w.seat i).phase j s f n d g refl (turn_from (w.seat i).phase (w.seat i).post (offered w i).desk (finds w i) j s (phase_has w i v z (w.seat i).phase n refl) (subst (λ (p : Post). stands p j ≡ Some s) (stepped_post w i) y))

-- a try of the seat that steps
next_holds : (w : World) (i : ℕ) (v : View) (z : Asked) (why : Why) (aim : Aim) (index : ℕ) (root : Root) (steps : ℕ) (at : ProtectAt) (s : ℕ) → helps w.layout.config.scheme ≡ true → HandoverNeeds w i v z → Held w v → Helped w v z.deal → (w.seat i).phase ≡ Runs why (Protect aim index root steps at)
    → (tries_protect (w.mem Clock) v.status (counted (w.seat i).post) root at s ≡ true) ⊎ ((try_loads (w.mem Clock) v.status w.mem root at s ≡ true) ⊎ (takes_row v.status root at s ≡ true)) → Holds (step w i) (rows_after w i v) (Index i index) s
next_holds w i v z why aim index root steps at s f n d g e (inl x) =
    let t = sym (tries_counted (w.mem Clock) v.status (w.seat i).post (Protect aim index root steps at) s) ∙ x in
    tried_stays w i v z i why (Protect aim index root steps at) s (Runs why (Protect aim index root steps at)) f n d e (own_stores i (stores_protect index at index) (tried_apart (w.mem Clock) v.status (w.seat i).post index root at s t)) e t
next_holds w i v z why aim index root steps at s f n d g e (inr (inl x)) = load_stays w i v z why aim index root steps at s f n e x
next_holds w i v z why aim index root steps at s f n d g e (inr (inr x)) = takes_holds w i v z why aim index root steps at s f n g e x

-- a protection that is followed is of a next link
followed_root : (layout : Layout) (why : Why) (aim : Aim) (index : ℕ) (root : Root) (steps : ℕ) (at : ProtectAt) (post : Post) → Run layout why (Protect aim index root steps at) post → aim ≡ Follows → root ≡ roots.Next (parent_of root)
followed_root layout (FollowsHead head tail) aim index root steps at post r e = let q = r.shape.of in rw q refl
followed_root layout (Opens task) aim index root steps at post r e = absurd (let q = r.shape.aimed in cc)
followed_root layout (Fills task) aim index root steps at post r e = absurd (no_truth r.suited)
followed_root layout (ClearsNext next) aim index root steps at post r e = absurd (no_truth r.suited)
followed_root layout (Clears task next) aim index root steps at post r e = absurd (no_truth r.suited)
followed_root layout (Finishes task next) aim index root steps at post r e = absurd (no_truth r.suited)
followed_root layout (GivesUp answer) aim index root steps at post r e = absurd (no_truth r.suited)
followed_root layout (Retires answer) aim index root steps at post r e = absurd (no_truth r.suited)
followed_root layout (Tidies later) aim index root steps at post r e = absurd (no_truth r.suited)
followed_root layout Advances aim index root steps at post r e = absurd (no_truth r.suited)
followed_root layout (Releases key) aim index root steps at post r e = absurd (no_truth r.suited)

protect_comes : (w : World) (i : ℕ) (v : View) (z : Asked) (why : Why) (aim : Aim) (index : ℕ) (root : Root) (steps : ℕ) (at : ProtectAt) (base : Base) (s : ℕ) → helps w.layout.config.scheme ≡ true → HandoverNeeds w i v z → Held w v → Helped w v z.deal → (w.seat i).phase ≡ Runs why (Protect aim index root steps at)
    → Comes (w.mem Clock) v.status ((step w i).seat i).post (after (Protect aim index root steps at) (counted (w.seat i).post) (finds w i)).outcome base s
    → Holds (step w i) (rows_after w i v) (Index i (index_base base)) s
protect_comes w i v z why aim index root steps at base s f n d g e c =
    let r = run_of w i why (Protect aim index root steps at) n.seats e in
    let x = finds_at w i (Runs why (Protect aim index root steps at)) e in
    let y : Comes (w.mem Clock) v.status ((step w i).seat i).post (after (Protect aim index root steps at) (counted (w.seat i).post) (found (protect_move index root at (w.seat i).post) (w.mem (place_in (protect_move index root at (w.seat i).post))))).outcome base s = subst (λ (k : ℕ). Comes (w.mem Clock) v.status ((step w i).seat i).post (after (Protect aim index root steps at) (counted (w.seat i).post) k).outcome base s) x c in
    let q = protect_next (w.mem Clock) v.status w.layout.config.scheme w.layout.config.tries w.mem aim index root (bump steps) at (counted (w.seat i).post) (w.seat i).post ((step w i).seat i).post s refl f r.fits (followed_root w.layout why aim index root steps at (w.seat i).post r) y.tried in
    rw (sym y.at ∙ q.0) (next_holds w i v z why aim index root steps at s f n d g e q.1)

run_comes : (w : World) (i : ℕ) (v : View) (z : Asked) (reason : Why) (one : Base) (why : Why) (base : Base) (s : ℕ) (own : Bool) → is_protect one ≡ own → helps w.layout.config.scheme ≡ true → HandoverNeeds w i v z → Held w v → Helped w v z.deal → (w.seat i).phase ≡ Runs reason one
    → phase_left (phase_turn (Runs reason one) (counted (w.seat i).post) (offered w i).desk (finds w i)).outcome ≡ Runs why base
    → tries_base ((step w i).mem Clock) (rows_after w i v).status ((step w i).seat i).post base s ≡ true
    → Holds (step w i) (rows_after w i v) (Index i (index_base base)) s
run_comes w i v z reason (Protect aim index root steps at) why base s own p f n d g e o t =
    let c = protect_stays w i reason aim index root steps at e in
    let r = protect_rows w i v reason aim index root steps at e in
    let t1 : tries_base (w.mem Clock) (rows_after w i v).status ((step w i).seat i).post base s ≡ true = subst (λ (k : ℕ). tries_base k (rows_after w i v).status ((step w i).seat i).post base s ≡ true) c t in
    let t2 : tries_base (w.mem Clock) v.status ((step w i).seat i).post base s ≡ true = subst (λ (y : View). tries_base (w.mem Clock) y.status ((step w i).seat i).post base s ≡ true) r t1 in
    protect_comes w i v z reason aim index root steps at base s f n d g e (turn_out w i reason (Protect aim index root steps at) why base (w.mem Clock) v.status s o t2)
run_comes w i v z reason one why base s true p f n d g e o t = absurd (cc)
run_comes w i v z reason one why base s false p f n d g e o t =
    absurd (no_truth (other_comes ((step w i).mem Clock) (rows_after w i v).status ((step w i).seat i).post (counted (w.seat i).post) one base (finds w i) s p (turn_out w i reason one why base ((step w i).mem Clock) (rows_after w i v).status s o t)))

turn_comes : (w : World) (i : ℕ) (v : View) (z : Asked) (phase : Phase) (why : Why) (base : Base) (s : ℕ) → helps w.layout.config.scheme ≡ true → HandoverNeeds w i v z → Held w v → Helped w v z.deal → (w.seat i).phase ≡ phase
    → phase_left (phase_turn phase (counted (w.seat i).post) (offered w i).desk (finds w i)).outcome ≡ Runs why base
    → tries_base ((step w i).mem Clock) (rows_after w i v).status ((step w i).seat i).post base s ≡ true
    → Holds (step w i) (rows_after w i v) (Index i (index_base base)) s
turn_comes w i v z Idle why base s f n d g e o t = absurd (cc)
turn_comes w i v z (Scans later at) why base s f n d g e o t =
    absurd (no_truth (out_start ((step w i).mem Clock) (rows_after w i v).status ((step w i).seat i).post (phase_left (scan_turn later at (counted (w.seat i).post) (offered w i).desk (finds w i)).outcome) why base s (scan_starts later at (counted (w.seat i).post) (offered w i).desk (finds w i)) o t))
turn_comes w i v z (Works work) why base s f n d g e o t =
    absurd (no_truth (out_start ((step w i).mem Clock) (rows_after w i v).status ((step w i).seat i).post (Runs why base) why base s (works_start work (counted (w.seat i).post) (offered w i).desk (finds w i) why base o) refl t))
turn_comes w i v z (Runs reason one) why base s f n d g e o t = run_comes w i v z reason one why base s (is_protect one) refl f n d g e o t

pub own_tries : (w : World) (i : ℕ) (v : View) (z : Asked) (why : Why) (base : Base) (s : ℕ) → helps w.layout.config.scheme ≡ true → HandoverNeeds w i v z → Held w v → Helped w v z.deal → ((step w i).seat i).phase ≡ Runs why base → tries_base ((step w i).mem Clock) (rows_after w i v).status ((step w i).seat i).post base s ≡ true
    → Holds (step w i) (rows_after w i v) (Index i (index_base base)) s
own_tries w i v z why base s f n d g e t = turn_comes w i v z (w.seat i).phase why base s f n d g refl (sym (stepped_phase w i) ∙ e) t
