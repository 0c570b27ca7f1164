-- What a root has is a link that may be taken for one of it, and a link that may be taken stays so.
use Rattle.std.proofs.Common.{ℕ, ◌≡◌, ◌<◌, ◌+◌, ◌-◌, Bool, true, false, arith, refl, sym, ap, subst, ◌∙◌}
use Rattle.std.proofs.lemmas.Bool.Decides.{nat_tests}
use Rattle.std.specs.Prelude.{◌==◌, ◌&&◌, ◌||◌, not}
use Rattle.inv_rows.specs.words.Place.{Place}
use Rattle.inv_rows.specs.words.Place.Place.{Bucket, Head, Tail, Row}
use Rattle.inv_rows.specs.words.declared.layout.Layout.{Layout}
use Rattle.inv_rows.specs.defs.declared.event.Root.{Root}
use Rattle.inv_rows.specs.defs.declared.event.Root.TheVariants as roots
use Rattle.inv_rows.specs.model.declared.post.Post.{Post}
use Rattle.inv_rows.specs.model.Book.{Book}
use Rattle.inv_rows.specs.model.Links.{link_place}
use Rattle.inv_rows.specs.model.Phases.{Base}
use Rattle.inv_rows.specs.model.Phases.Base.{Begin, Protect, Reload}
use Rattle.inv_rows.specs.model.Calls.{Task, Gets, Changes, Holds, Enqueues, Dequeues, Why, Opens, FollowsHead, AfterScan, GiveBack, Phase, Idle, Runs, Scans, Works}
use Rattle.inv_rows.specs.model.World.{World, step, finds}
use Rattle.inv_rows.proofs.model.Facts.{same_number, first_of, rest_of, one_less_one_more, number_is, same_test}
use Rattle.inv_rows.specs.Shapes.Seats.{Reloads, PhaseFits, task_root, root_by, kind_of, suits}
use Rattle.inv_rows.specs.Covering.Covers.{takes_or_frees}
use Rattle.inv_rows.specs.Covering.Held.{under}
use Rattle.inv_rows.specs.Covering.Requests.Views.{View as Asking}
use Rattle.inv_rows.specs.Rows.{View}
use Rattle.inv_rows.specs.Rows.Status.{Linked}
use Rattle.inv_rows.specs.Agree.{rows_after}
use Rattle.inv_rows.specs.Chain.{Both, queue_of, line_after}
use Rattle.inv_rows.specs.Facts.{RowStays}
use Rattle.inv_rows.specs.Hands.{row_move}
use Rattle.inv_rows.specs.Queue.{Line, stands_on}
use Rattle.inv_rows.proofs.Facts.{lined_stays, queue_ends}
use Rattle.inv_ends.specs.Tracked.{root_base, root_for, root_in, Tracked}
use Rattle.inv_ends.specs.Origins.{Stays}
use Rattle.inv_ends.specs.Links.{is_bucket, links_to, LinksNeeds}
use Rattle.inv_ends.proofs.Links.Booked.{root_stays}
use Rattle.inv_ends.proofs.Links.Still.{Still, still}
use Rattle.inv_rows.proofs.Lists.{apart_by}

or_else : (x : ℕ) (b : Bool) (null : Bool) → (x == 0) ≡ null → ((x == 0) ≡ false → b ≡ true) → (null || b) ≡ true
or_else x b true e g = refl
or_else x b false e g = g e

pub or_next : (x : ℕ) (b c : Bool) (null : Bool) → (x == 0) ≡ null → (null || b) ≡ true → ((x == 0) ≡ false → b ≡ true → c ≡ true) → (null || c) ≡ true
or_next x b c true e h g = refl
or_next x b c false e h g = g e h

-- what a root has
pub fresh_link : (w : World) (v : View) (l : Line) (root : Root) → Both w v l → ((s b : ℕ) → v.status s ≡ Linked b → (w.book.row s).root ≡ roots.Bucket b) → links_to w.book w.mem v l root (w.mem (link_place root)) ≡ true
fresh_link w v l (roots.Bucket b) f g =
    or_else (w.mem (Bucket b)) (is_bucket b (w.book.row (w.mem (Bucket b) - 1)).root) (w.mem (Bucket b) == 0) refl (λ e.
    let s : v.root b ≡ w.mem (Bucket b) - 1 + 1 = sym (f.rows.words.roots b) ∙ one_less_one_more (w.mem (Bucket b)) e in
    ap (is_bucket b) (g (w.mem (Bucket b) - 1) b (f.rows.good.roots b (w.mem (Bucket b) - 1) s)) ∙ same_number b)
fresh_link w v l roots.Head f g =
    or_else (w.mem Head) (l.lined (w.mem Head - 1) && (not (queue_of v (w.mem Head - 1)) || v.head == w.mem Head)) (w.mem Head == 0) refl (λ e.
    let s = one_less_one_more (w.mem Head) e in
    let x = queue_ends w v l (w.mem Head - 1) f in
    let h : v.head ≡ w.mem Head = x.first s ∙ sym s in
    both_true (l.lined (w.mem Head - 1)) (not (queue_of v (w.mem Head - 1)) || v.head == w.mem Head) (x.head s) (last_true (not (queue_of v (w.mem Head - 1))) (v.head == w.mem Head) (same_test v.head (w.mem Head) h)))
  where
    both_true : (a b : Bool) → a ≡ true → b ≡ true → (a && b) ≡ true
    both_true a b p q = grind (arith, nat_tests)

    last_true : (a b : Bool) → b ≡ true → (a || b) ≡ true
    last_true a b p = grind (arith, nat_tests)
fresh_link w v l roots.Tail f g =
    or_else (w.mem Tail) (l.lined (w.mem Tail - 1)) (w.mem Tail == 0) refl (λ e. (queue_ends w v l (w.mem Tail - 1) f).tail (one_less_one_more (w.mem Tail) e))
fresh_link w v l (roots.Next parent) f g =
    or_else (w.mem (Row parent 0)) (w.mem (Row parent 0) == w.mem (Row parent 0)) (w.mem (Row parent 0) == 0) refl (λ e. same_number (w.mem (Row parent 0)))

-- the row whose next link is followed is the head's that the seat found
next_root : (buckets : ℕ) (task : Task) (p : ℕ) → task_root buckets task ≡ roots.Next p → false ≡ true
next_root buckets (Gets key) p e = absurd (cc)
next_root buckets (Changes kept) p e = absurd (cc)
next_root buckets (Holds key) p e = absurd (cc)
next_root buckets (Enqueues kept) p e = absurd (cc)
next_root buckets Dequeues p e = absurd (cc)

next_why : (buckets : ℕ) (why : Why) (base : Base) (p : ℕ) → root_by buckets why ≡ roots.Next p → stands_on (Runs why base) p ≡ true
next_why buckets (Opens task) base p e = next_root buckets task p e
next_why buckets (FollowsHead head tail) base p e = let q : head ≡ p = cc in same_test head p q
next_why buckets why base p e = absurd (cc)

reload_why : (buckets : ℕ) (why : Why) (base : Base) (parent index slot era steps p : ℕ) → suits (Reload parent index slot era steps) (kind_of why) ≡ true → Reloads buckets why parent index → parent ≡ p → stands_on (Runs why base) p ≡ true
reload_why buckets (Opens task) base parent index slot era steps p u s e = absurd (cc)
reload_why buckets (FollowsHead head tail) base parent index slot era steps p u s e = same_test head p (sym s.of ∙ e)
reload_why buckets why base parent index slot era steps p u s e = absurd (cc)

next_base : (layout : Layout) (post : Post) (why : Why) (base : Base) (p : ℕ) → PhaseFits layout post (Runs why base) → root_base base ≡ roots.Next p → stands_on (Runs why base) p ≡ true
next_base layout post why (Begin at) p f e = absurd (cc)
next_base layout post why (Protect aim index root steps at) p f e = next_why layout.config.buckets why (Protect aim index root steps at) p (sym f.shape.of ∙ e)
next_base layout post why (Reload parent index slot era steps) p f e = reload_why layout.config.buckets why (Reload parent index slot era steps) parent index slot era steps p f.suited f.shape (cc)
next_base layout post why base p f e = absurd (cc)

pub next_stands : (layout : Layout) (post : Post) (phase : Phase) (p : ℕ) → PhaseFits layout post phase → root_for phase ≡ roots.Next p → stands_on phase p ≡ true
next_stands layout post Idle p f e = absurd (cc)
next_stands layout post (Runs why base) p f e = next_base layout post why base p f e
next_stands layout post (Scans later at) p f e = absurd (cc)
next_stands layout post (Works work) p f e = absurd (cc)

-- a row that a step does not free is not given back
far_back : (w : World) (i s : ℕ) (v : View) → takes_or_frees (row_move (w.seat i).phase (w.seat i).post (finds w i)) s ≡ false → (later : AfterScan) (place slot : ℕ) → (w.seat i).phase ≡ Scans later (GiveBack place slot) → (s == slot) ≡ false
far_back w i s v h later place slot q = subst (λ (p : Phase). takes_or_frees (row_move p (w.seat i).post (finds w i)) s ≡ false) q h

-- nor is one on which a seat works
-- a tracked link stays good
stays_here : (w : World) (i : ℕ) (v : View) (l : Line) (z : Asking) (k x : ℕ) → LinksNeeds w i v l z → Tracked w z k x → under v.status (root_in w k) ≡ true → (x == 0) ≡ false → takes_or_frees (row_move (w.seat i).phase (w.seat i).post (finds w i)) (x - 1) ≡ false
stays_here w i v l z k x n t u e = n.stays k (x - 1) (subst (λ (y : ℕ). Tracked w z k y) (one_less_one_more x e) t) u

lined_here : (w : World) (i : ℕ) (v : View) (l : Line) (z : Asking) (k x : ℕ) → LinksNeeds w i v l z → Tracked w z k x → under v.status (root_in w k) ≡ true → (x == 0) ≡ false → l.lined (x - 1) ≡ true → RowStays w i v l (x - 1)
lined_here w i v l z k x n t u e h = lined_stays w i v l (x - 1) n.queue n.both (far_back w i (x - 1) v (stays_here w i v l z k x n t u e)) h

-- whether a row, while it is in the queue, is the head
leads_is : (q : Bool) (head x : ℕ) → (x == 0) ≡ false → (not q || head == x) ≡ true → q ≡ true → head ≡ x - 1 + 1
leads_is q head x e h p = grind (arith, nat_tests)

is_leads : (q : Bool) (head x : ℕ) → (x == 0) ≡ false → (q ≡ true → head ≡ x - 1 + 1) → (not q || head == x) ≡ true
is_leads true head x e g = let h = g refl in grind (arith, nat_tests)
is_leads false head x e g = refl

pub stays_link : (w : World) (i : ℕ) (v : View) (l : Line) (z : Asking) (k x : ℕ) (root : Root) → root_in w k ≡ root → LinksNeeds w i v l z → Tracked w z k x → links_to w.book w.mem v l root x ≡ true
    → links_to (step w i).book (step w i).mem (rows_after w i v) (line_after w i l) root x ≡ true
stays_link w i v l z k x (roots.Bucket b) q n t h =
    or_next x (is_bucket b (w.book.row (x - 1)).root) (is_bucket b ((step w i).book.row (x - 1)).root) (x == 0) refl h (λ e g.
    let u : under v.status (root_in w k) ≡ true = ap (under v.status) q in
    ap (is_bucket b) (root_stays w i (x - 1) (stays_here w i v l z k x n t u e)) ∙ g)
stays_link w i v l z k x roots.Head q n t h =
    or_next x (l.lined (x - 1) && (not (queue_of v (x - 1)) || v.head == x)) ((line_after w i l).lined (x - 1) && (not (queue_of (rows_after w i v) (x - 1)) || (rows_after w i v).head == x)) (x == 0) refl h (λ e g.
    let u : under v.status (root_in w k) ≡ true = ap (under v.status) q in
    let r = lined_here w i v l z k x n t u e (first_of (l.lined (x - 1)) (not (queue_of v (x - 1)) || v.head == x) g) in
    let a = leads_is (queue_of v (x - 1)) v.head x e (rest_of (l.lined (x - 1)) (not (queue_of v (x - 1)) || v.head == x) g) in
    let b = is_leads (queue_of (rows_after w i v) (x - 1)) (rows_after w i v).head x e (r.heads a) in
    both_true ((line_after w i l).lined (x - 1)) (not (queue_of (rows_after w i v) (x - 1)) || (rows_after w i v).head == x) r.lined b)
  where
    both_true : (a b : Bool) → a ≡ true → b ≡ true → (a && b) ≡ true
    both_true a b p c = grind (arith, nat_tests)
stays_link w i v l z k x roots.Tail q n t h =
    or_next x (l.lined (x - 1)) ((line_after w i l).lined (x - 1)) (x == 0) refl h (λ e g.
    let u : under v.status (root_in w k) ≡ true = ap (under v.status) q in
    (lined_here w i v l z k x n t u e g).lined)
stays_link w i v l z k x (roots.Next p) q n t h =
    or_next x (w.mem (Row p 0) == x) ((step w i).mem (Row p 0) == x) (x == 0) refl h (λ e g.
    let s = next_stands w.layout (w.seat k).post (w.seat k).phase p (n.origins.seats.fits k).phase q in
    let r = lined_stays w i v l p n.queue n.both (λ later place slot c. apart_by (stands_on (w.seat k).phase) p slot (p == slot) refl s (n.queue.backs later place slot k c)) ((n.both.queue.walks k).stood p s) in
    let some : 0 < x = grind (arith, nat_tests) in
    same_test ((step w i).mem (Row p 0)) x (r.next x (number_is (w.mem (Row p 0)) x g) some))

-- a link that the step loads
fresh_after : (w : World) (i : ℕ) (v : View) (l : Line) (root : Root) → Still w i v l → Both w v l → ((s b : ℕ) → v.status s ≡ Linked b → (w.book.row s).root ≡ roots.Bucket b)
    → links_to (step w i).book (step w i).mem (rows_after w i v) (line_after w i l) root (w.mem (link_place root)) ≡ true
fresh_after w i v l root s f g =
    ap (λ (b : Book). links_to b (step w i).mem (rows_after w i v) (line_after w i l) root (w.mem (link_place root))) s.book
    ∙ ap (λ (m : Place → ℕ). links_to w.book m (rows_after w i v) (line_after w i l) root (w.mem (link_place root))) s.mem
    ∙ ap (λ (u : View). links_to w.book w.mem u (line_after w i l) root (w.mem (link_place root))) s.rows
    ∙ ap (λ (y : Line). links_to w.book w.mem v y root (w.mem (link_place root))) s.line
    ∙ fresh_link w v l root f g

pub links_stay : (w : World) (i : ℕ) (v : View) (l : Line) (z : Asking) → LinksNeeds w i v l z → Stays (λ k. links_to w.book w.mem v l) (λ k. links_to (step w i).book (step w i).mem (rows_after w i v) (line_after w i l)) w i z
links_stay w i v l z n = record {
  fresh = λ k h t. fresh_after w i v l (root_in w k) (still w i v l h t) n.both n.linked;
  stays = λ k x t h. stays_link w i v l z k x (root_in w k) refl n t h;
}
