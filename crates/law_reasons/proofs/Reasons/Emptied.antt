-- A dequeue that finds the head's next link null found all taken: so it was where the link was loaded, by the call or for it.
use Rattle.std.proofs.Common.{ℕ, ◌≡◌, ◌<◌, Bool, true, false, length, refl, sym, ap, ◌∙◌, subst, arith}
use Rattle.std.proofs.lemmas.Bool.Decides.{nat_tests}
use Rattle.std.specs.Prelude.{◌==◌, if◌then◌else◌}
use Rattle.law_scans.specs.inv.model.words.Place.Place.{Row}
use Rattle.law_scans.specs.inv.model.words.declared.layout.Layout.{Layout}
use Rattle.law_scans.specs.inv.model.defs.declared.call.Call.{Call}
use Rattle.law_scans.specs.inv.model.defs.declared.event.Root.{Root}
use Rattle.law_scans.specs.inv.model.defs.declared.event.Root.TheVariants as roots
use Rattle.law_scans.specs.inv.model.declared.ends.FollowEnd.TheVariants as follow_ends
use Rattle.law_scans.specs.inv.model.declared.post.Post.{Post}
use Rattle.law_scans.specs.inv.model.Links.{link_place, parent_of}
use Rattle.law_scans.specs.inv.model.Machine as machine
use Rattle.law_scans.specs.inv.model.Posts.{counted}
use Rattle.law_scans.specs.inv.model.Phases.{Base, Ends}
use Rattle.law_scans.specs.inv.model.Phases.Ending.{Followed}
use Rattle.law_scans.specs.inv.model.Phases.Base.{Protect, Reload}
use Rattle.law_scans.specs.inv.model.Calls.{Gets, Why, Opens, FollowsHead, Phase, Idle, Runs, Scans, Works}
use Rattle.law_scans.specs.inv.model.World.{World, start, begin, step, is_busy, finds}
use Rattle.law_scans.proofs.inv.model.Facts.{same_number}
use Rattle.law_scans.specs.inv.shapes.Seats.{Seats, Run, root_by}
use Rattle.law_scans.proofs.inv.Inv.Whole.{origins_need}
use Rattle.law_scans.specs.inv.Known.{Known}
use Rattle.law_scans.proofs.inv.Contents.Items.Gives.{empty_right}
use Rattle.law_scans.proofs.reuse.Lawful.Current.{idle_untracked}
use Rattle.law_scans.proofs.inv.ends.Origins.Kept.{origins_kept, origins_start, origins_begin}
use Rattle.law_scans.specs.inv.ends.Origins.{Origins}
use Rattle.law_scans.specs.inv.ends.Tracked.{root_for, root_in, Tracked}
use Rattle.law_scans.specs.inv.requests.NextDeals.{next_deals}
use Rattle.law_scans.specs.inv.requests.Standing.{Requests}
use Rattle.law_scans.specs.inv.requests.Views.{View as Asked}
use Rattle.law_scans.specs.inv.requests.Views.Deal.{Quiet}
use Rattle.law_scans.specs.inv.rows.Chain.{queue_of}
use Rattle.law_scans.specs.inv.rows.Queue.{Line, heads_on, stands_on}
use Rattle.law_scans.specs.inv.rows.Rows.{View}
use Rattle.law_scans.proofs.inv.ends.Origins.Ends.{end_good, end_root}
use Rattle.law_scans.proofs.inv.ends.Handover.Asks.{run_of}

-- a null next link shows a queue of which all was taken
abbrev null_seen : Bool → Root → ℕ → Bool
null_seen seen (roots.Next parent) x = if x == 0 then seen else true
null_seen seen (roots.Bucket b) x = true
null_seen seen roots.Head x = true
null_seen seen roots.Tail x = true

-- each null next link that is tracked for a seat was seen so, by seat
pub record Emptied (seen : ℕ → Bool) (w : World) (z : Asked) : Type 0 where
  pub links : Origins (λ k. null_seen (seen k)) w z

-- the row whose next link is followed was found at the head
record Heads (phase : Phase) (parent : ℕ) : Type 0 where
  pub stands : stands_on phase parent ≡ true
  pub heads : heads_on phase parent ≡ true

why_follows : (buckets : ℕ) (why : Why) (base : Base) (parent : ℕ) → root_by buckets why ≡ roots.Next parent → Heads (Runs why base) parent
why_follows buckets (FollowsHead head tail) base parent e = let h : head ≡ parent = ap parent_of e in record { stands = rw h (same_number parent); heads = rw h (same_number parent) }
why_follows buckets (Opens (Gets key)) base parent e = absurd (cc)
why_follows buckets why base parent e = absurd (cc)

reload_follows : (layout : Layout) (why : Why) (row index slot era steps parent : ℕ) (post : Post) → Run layout why (Reload row index slot era steps) post → row ≡ parent → Heads (Runs why (Reload row index slot era steps)) parent
reload_follows layout (FollowsHead head tail) row index slot era steps parent post r e = let h : head ≡ parent = sym r.shape.of ∙ e in record { stands = rw h (same_number parent); heads = rw h (same_number parent) }
reload_follows layout why row index slot era steps parent post r e = let x = r.suited in absurd (cc)

base_follows : (layout : Layout) (why : Why) (base : Base) (parent : ℕ) (post : Post) → Run layout why base post → root_for (Runs why base) ≡ roots.Next parent → Heads (Runs why base) parent
base_follows layout why (Protect aim index root steps at) parent post r e = why_follows layout.config.buckets why (Protect aim index root steps at) parent (sym r.shape.of ∙ e)
base_follows layout why (Reload row index slot era steps) parent post r e = reload_follows layout why row index slot era steps parent post r (ap parent_of e)
base_follows layout why base parent post r e = absurd (cc)

phase_follows : (w : World) (k : ℕ) (phase : Phase) (parent : ℕ) → Seats w → (w.seat k).phase ≡ phase → root_for phase ≡ roots.Next parent → Heads phase parent
phase_follows w k Idle parent s e h = absurd (cc)
phase_follows w k (Runs why base) parent s e h = base_follows w.layout why base parent (w.seat k).post (run_of w k why base s e) h
phase_follows w k (Scans later at) parent s e h = absurd (cc)
phase_follows w k (Works work) parent s e h = absurd (cc)

-- while the head's row has no next link all was taken
all_gone : (w : World) (v : View) (l : Line) (z : Asked) (k parent : ℕ) → Known w v l z → root_in w k ≡ roots.Next parent → w.mem (Row parent 0) ≡ 0 → w.book.taken ≡ length w.book.queued
all_gone w v l z k parent a r null =
    let h : Heads (w.seat k).phase parent = phase_follows w k (w.seat k).phase parent a.seats refl r in
    let walks = a.whole.both.queue.walks k in
    let there : queue_of v parent ≡ true = a.whole.both.queue.line.last parent (walks.stood parent h.stands) null in
    empty_right w v l parent a.whole.both a.items (a.whole.both.rows.words.head ∙ walks.heads parent h.heads there) null

-- a link that is loaded now
fresh_by : (w : World) (v : View) (l : Line) (z : Asked) (k : ℕ) (seen : Bool) (root : Root) → Known w v l z → root_in w k ≡ root → (w.book.taken ≡ length w.book.queued → seen ≡ true) → null_seen seen root (w.mem (link_place root)) ≡ true
fresh_by w v l z k seen (roots.Next parent) a r f = by_null (w.mem (Row parent 0) == 0) refl
  where
    by_null : (null : Bool) → (w.mem (Row parent 0) == 0) ≡ null → (if null then seen else true) ≡ true
    by_null true e = f (all_gone w v l z k parent a r (grind (arith, nat_tests)))
    by_null false e = refl
fresh_by w v l z k seen (roots.Bucket b) a r f = refl
fresh_by w v l z k seen roots.Head a r f = refl
fresh_by w v l z k seen roots.Tail a r f = refl

stays_by : (old new : Bool) (root : Root) (x : ℕ) → (old ≡ true → new ≡ true) → null_seen old root x ≡ true → null_seen new root x ≡ true
stays_by old new (roots.Next parent) x f h = by_null (x == 0) h
  where
    by_null : (null : Bool) → (if null then old else true) ≡ true → (if null then new else true) ≡ true
    by_null true g = f g
    by_null false g = refl
stays_by old new (roots.Bucket b) x f h = refl
stays_by old new roots.Head x f h = refl
stays_by old new roots.Tail x f h = refl

pub emptied_kept : (w : World) (i : ℕ) (v : View) (l : Line) (z next : Asked) (old new : ℕ → Bool) → i < w.layout.config.seats → Known w v l z → next.deal ≡ next_deals w i z.deal
    → ((k : ℕ) → old k ≡ true → new k ≡ true) → ((k : ℕ) → w.book.taken ≡ length w.book.queued → new k ≡ true) → Emptied old w z → Emptied new (step w i) next
emptied_kept w i v l z next old new b a d stays fresh e = record {
  links = origins_kept (λ k. null_seen (old k)) (λ k. null_seen (new k)) w i z next (origins_need w i v l z b a) d
      (record {
        fresh = λ k h t. fresh_by w v l z k (new k) (root_in w k) a refl (fresh k);
        stays = λ k x t g. stays_by (old k) (new k) (root_in w k) x (stays k) g;
      })
      e.links;
}

begun_by : (w : World) (i k x : ℕ) (z : Asked) (old new : ℕ → Bool) (own : Bool) → (k == i) ≡ own → is_busy w i ≡ false → Requests w z → ((m : ℕ) → (m == i) ≡ false → old m ≡ true → new m ≡ true) → Emptied old w z → Tracked w z k x → null_seen (new k) (root_in w k) x ≡ true
begun_by w i k x z old new true e b q f h t = let one : k ≡ i = grind (arith, nat_tests) in absurd (idle_untracked w i z x b q (subst (λ (m : ℕ). Tracked w z m x) one t))
begun_by w i k x z old new false e b q f h t = stays_by (old k) (new k) (root_in w k) x (f k e) (h.links.tracked k x t)

pub emptied_begin : (w : World) (i : ℕ) (call : Call) (z next : Asked) (old new : ℕ → Bool) → is_busy w i ≡ false → Requests w z → next.deal ≡ z.deal → ((m : ℕ) → (m == i) ≡ false → old m ≡ true → new m ≡ true) → Emptied old w z → Emptied new (begin w i call) next
emptied_begin w i call z next old new b q d f e = record {
  links = origins_begin (λ k. null_seen (new k)) w i call z next b q d (record { tracked = λ k x t. begun_by w i k x z old new (k == i) refl b q f e t });
}

pub emptied_start : (layout : Layout) (z : Asked) (seen : ℕ → Bool) → ((k : ℕ) → z.deal k ≡ Quiet) → Emptied seen (start layout) z
emptied_start layout z seen q = record { links = origins_start (λ k. null_seen (seen k)) layout z q }

-- a dequeue that finds no next row
pub no_next_seen : (w : World) (i : ℕ) (v : View) (l : Line) (z : Asked) (seen : ℕ → Bool) (head tail : ℕ) (base : Base) → Known w v l z → Emptied seen w z → (w.book.taken ≡ length w.book.queued → seen i ≡ true) → (w.seat i).phase ≡ Runs (FollowsHead head tail) base → (machine.after base (counted (w.seat i).post) (finds w i)).outcome ≡ Ends (Followed follow_ends.NoNext) → seen i ≡ true
no_next_seen w i v l z seen head tail base a e f q o =
    let r : root_in w i ≡ roots.Next head = end_root w i (FollowsHead head tail) base (Followed follow_ends.NoNext) 0 a.seats q o refl in
    let g : null_seen (seen i) (root_in w i) 0 ≡ true = end_good (λ k. null_seen (seen k)) w i z (FollowsHead head tail) base (Followed follow_ends.NoNext) 0 e.links (fresh_by w v l z i (seen i) (root_in w i) a refl f) q o refl in
    subst (λ (x : Root). null_seen (seen i) x 0 ≡ true) r g
