-- What a helper word holds after a step of another seat it held before: rows whose next link is followed stay in the queue
-- once they stand, and a request that has no answer yet is the one that it was.
use Rattle.std.proofs.Common.{ℕ, ◌≡◌, ◌∙◌, true, false, Some, refl, ap, sym, subst, ◌&&◌}
use Rattle.std.specs.Prelude.{◌==◌, nat_lt}
use Rattle.inv_rows.specs.words.Place.{has}
use Rattle.inv_rows.specs.words.declared.layout.Layout.{Layout}
use Rattle.inv_rows.specs.defs.declared.event.Root.{Root}
use Rattle.inv_rows.specs.model.declared.post.Post.{Post}
use Rattle.inv_rows.specs.model.Links.{link_place, root_at}
use Rattle.inv_rows.specs.model.Posts.{stands}
use Rattle.inv_rows.specs.model.Phases.{Aim, ProtectAt, Base}
use Rattle.inv_rows.specs.model.Phases.Base.{Protect, Reload}
use Rattle.inv_rows.specs.model.Calls.{Task, Gets, Changes, Holds as ToHold, Enqueues, Dequeues, Why, Opens, FollowsHead, Fills, ClearsNext, Clears, Finishes, GivesUp, Retires, Tidies, Advances, Releases, Phase, Runs}
use Rattle.inv_rows.specs.model.World.{World, finds}
use Rattle.inv_rows.proofs.model.Roots.{root_at_link}
use Rattle.inv_rows.specs.Shapes.Seats.{task_root, Run}
use Rattle.inv_rows.specs.Covering.Requests.Context.{phase_there, guards_there}
use Rattle.inv_rows.specs.Covering.Requests.Deals.{asked_at}
use Rattle.inv_rows.specs.Covering.Requests.Parents.{phase_stands, why_stands}
use Rattle.inv_rows.specs.Covering.Requests.Views.{View as Asked}
use Rattle.inv_rows.proofs.Covering.Requests.Falling.{needs_of}
use Rattle.inv_rows.proofs.Covering.Requests.Kept.{at_of}
use Rattle.inv_rows.specs.Rows.{View}
use Rattle.inv_rows.specs.Hands.{row_move}
use Rattle.inv_rows.specs.Agree.{rows_after}
use Rattle.inv_rows.specs.Queue.{in_queue}
use Rattle.inv_rows.specs.Covering.Covers.{CoversNeeds}
use Rattle.inv_rows.specs.Covering.Held.{under, follows_root, follows_row, Held}
use Rattle.inv_ends.specs.Handover.{HandoverNeeds, FollowedRowsStand}
use Rattle.inv_rows.proofs.Covering.Kept.{before_at}
use Rattle.inv_rows.proofs.Covering.Tried.{under_back, queued_back}
use Rattle.inv_ends.proofs.Handover.Asks.{Asker, asker, run_of}
use Rattle.inv_rows.proofs.Covering.Parents.{same_row}
use Rattle.inv_rows.proofs.model.Facts.{rest_of, no_truth}

-- the row whose next link is followed stands at index 0
task_follows : (buckets : ℕ) (task : Task) (row : ℕ) → follows_root (task_root buckets task) row ≡ false
task_follows buckets (Gets key) row = refl
task_follows buckets (Changes kept) row = refl
task_follows buckets (ToHold key) row = refl
task_follows buckets (Enqueues kept) row = refl
task_follows buckets Dequeues row = refl

protect_follows : (layout : Layout) (why : Why) (aim : Aim) (index : ℕ) (root : Root) (steps : ℕ) (at : ProtectAt) (post : Post) (row : ℕ) → Run layout why (Protect aim index root steps at) post → why_stands why (Protect aim index root steps at) post → follows_root root row ≡ true → stands post 0 ≡ Some row
protect_follows layout (Opens task) aim index root steps at post row r s f = absurd (no_truth (sym (task_follows layout.config.buckets task row) ∙ subst (λ (x : Root). follows_root x row ≡ true) r.shape.of f))
protect_follows layout (FollowsHead head tail) aim index root steps at post row r s f = same_row post head row s (subst (λ (x : Root). follows_root x row ≡ true) r.shape.of f)
protect_follows layout (Fills task) aim index root steps at post row r s f = absurd (no_truth r.suited)
protect_follows layout (ClearsNext next) aim index root steps at post row r s f = absurd (no_truth r.suited)
protect_follows layout (Clears task next) aim index root steps at post row r s f = absurd (no_truth r.suited)
protect_follows layout (Finishes task next) aim index root steps at post row r s f = absurd (no_truth r.suited)
protect_follows layout (GivesUp answer) aim index root steps at post row r s f = absurd (no_truth r.suited)
protect_follows layout (Retires answer) aim index root steps at post row r s f = absurd (no_truth r.suited)
protect_follows layout (Tidies later) aim index root steps at post row r s f = absurd (no_truth r.suited)
protect_follows layout Advances aim index root steps at post row r s f = absurd (no_truth r.suited)
protect_follows layout (Releases key) aim index root steps at post row r s f = absurd (no_truth r.suited)

reload_follows : (layout : Layout) (why : Why) (parent index slot era steps : ℕ) (post : Post) (row : ℕ) → Run layout why (Reload parent index slot era steps) post → why_stands why (Reload parent index slot era steps) post → (parent == row) ≡ true → stands post 0 ≡ Some row
reload_follows layout (FollowsHead head tail) parent index slot era steps post row r s f = same_row post head row s (subst (λ (n : ℕ). (n == row) ≡ true) r.shape.of f)
reload_follows layout (Opens task) parent index slot era steps post row r s f = absurd (no_truth r.suited)
reload_follows layout (Fills task) parent index slot era steps post row r s f = absurd (no_truth r.suited)
reload_follows layout (ClearsNext next) parent index slot era steps post row r s f = absurd (no_truth r.suited)
reload_follows layout (Clears task next) parent index slot era steps post row r s f = absurd (no_truth r.suited)
reload_follows layout (Finishes task next) parent index slot era steps post row r s f = absurd (no_truth r.suited)
reload_follows layout (GivesUp answer) parent index slot era steps post row r s f = absurd (no_truth r.suited)
reload_follows layout (Retires answer) parent index slot era steps post row r s f = absurd (no_truth r.suited)
reload_follows layout (Tidies later) parent index slot era steps post row r s f = absurd (no_truth r.suited)
reload_follows layout Advances parent index slot era steps post row r s f = absurd (no_truth r.suited)
reload_follows layout (Releases key) parent index slot era steps post row r s f = absurd (no_truth r.suited)

run_follows : (layout : Layout) (why : Why) (base : Base) (post : Post) (row : ℕ) → Run layout why base post → why_stands why base post → follows_row base row ≡ true → stands post 0 ≡ Some row
run_follows layout why (Protect aim index root steps at) post row r s f = protect_follows layout why aim index root steps at post row r s f
run_follows layout why (Reload parent index slot era steps) post row r s f = reload_follows layout why parent index slot era steps post row r s f
run_follows layout why base post row r s f = absurd (cc)

pub followed_rows_stand : FollowedRowsStand
followed_rows_stand w k why base row s p e f =
    run_follows w.layout why base (w.seat k).post row (run_of w k why base s e) (subst (λ (x : Phase). phase_stands x (w.seat k).post) e (p.stand k)) f

-- a row that stands and is in the queue was in it before
pub stood_back : (w : World) (i : ℕ) (v : View) (k p : ℕ) → CoversNeeds w i v → Held w v → stands (w.seat k).post 0 ≡ Some p → in_queue ((rows_after w i v).status p) ≡ true → in_queue (v.status p) ≡ true
stood_back w i v k p n h e q =
    let c = (h.stood k 0 p e).covers in
    queued_back i v (row_move (w.seat i).phase (w.seat i).post (finds w i)) p (before_at w i v n) c.settled q

pub under_stays : (w : World) (i : ℕ) (v : View) (k : ℕ) (root : Root) → CoversNeeds w i v → Held w v → ((p : ℕ) → follows_root root p ≡ true → stands (w.seat k).post 0 ≡ Some p) → under (rows_after w i v).status root ≡ true → under v.status root ≡ true
under_stays w i v k root n h f u = under_back v.status (rows_after w i v).status root (λ p r q. stood_back w i v k p n h (f p r) q) u

-- index and root of a protection are of the table
pub inside_of : (w : World) (i : ℕ) (v : View) (z : Asked) (k : ℕ) (why : Why) (aim : Aim) (index : ℕ) (root : Root) (steps : ℕ) (at : ProtectAt) → HandoverNeeds w i v z → (w.seat k).phase ≡ Runs why (Protect aim index root steps at) → (nat_lt index w.layout.config.indexes && has w.layout (link_place root)) ≡ true
inside_of w i v z k why aim index root steps at n e =
    let a = at_of w i z n.valid n.below n.seats (needs_of w n.slots) n.requests in
    subst (λ (l : Layout). guards_there l (Protect aim index root steps at) ≡ true) (n.seats.fits i).post.layout (subst (λ (p : Phase). phase_there (w.seat i).post.layout p ≡ true) e (a.inside k))

-- the root of a request's word is that of the seat that asks
pub asked_root : (w : World) (i : ℕ) (v : View) (z : Asked) (k j word : ℕ) → HandoverNeeds w i v z → (a : Asker w k j word) → root_at w.layout word ≡ a.root
asked_root w i v z k j word n a =
    let h = rest_of (nat_lt j w.layout.config.indexes) (has w.layout (link_place a.root)) (inside_of w i v z k a.why a.aim j a.root a.steps a.at n a.is) in
    ap (root_at w.layout) a.number ∙ root_at_link w.layout a.root h

pub asked_under : (w : World) (i : ℕ) (v : View) (z : Asked) (k j word : ℕ) → HandoverNeeds w i v z → Held w v → asked_at j word (z.deal k) ≡ true → under (rows_after w i v).status (root_at w.layout word) ≡ true → under v.status (root_at w.layout word) ≡ true
asked_under w i v z k j word n h a u =
    let s = asker w z k j word n.requests a in
    let r = asked_root w i v z k j word n s in
    under_stays w i v k (root_at w.layout word) n.covers h (λ p f. followed_rows_stand w k s.why (Protect s.aim j s.root s.steps s.at) p n.seats n.parents s.is (subst (λ (x : Root). follows_root x p ≡ true) r f)) u

pub own_under : (w : World) (i : ℕ) (v : View) (z : Asked) (k : ℕ) (why : Why) (aim : Aim) (index : ℕ) (root : Root) (steps : ℕ) (at : ProtectAt) → HandoverNeeds w i v z → Held w v → (w.seat k).phase ≡ Runs why (Protect aim index root steps at) → under (rows_after w i v).status root ≡ true → under v.status root ≡ true
own_under w i v z k why aim index root steps at n h e u =
    under_stays w i v k root n.covers h (λ p f. followed_rows_stand w k why (Protect aim index root steps at) p n.seats n.parents e f) u
