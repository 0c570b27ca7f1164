-- A row that is given back is none that a call reads of, works on, or tries to protect.
use Rattle.std.proofs.Common.{ℕ, ◌≡◌, ◌+◌, true, refl, sym, subst, Some}
use Rattle.inv_ends.specs.model.words.declared.layout.Layout.{Layout}
use Rattle.inv_ends.specs.model.defs.declared.event.Root.{Root}
use Rattle.inv_ends.specs.model.declared.post.Post.{Post}
use Rattle.inv_ends.specs.model.Posts.{stands}
use Rattle.inv_ends.specs.model.Phases.{ProtectAt, Base}
use Rattle.inv_ends.specs.model.Phases.ProtectAt.{LoadClock}
use Rattle.inv_ends.specs.model.Phases.Base.{Protect}
use Rattle.inv_ends.specs.model.Calls.{Task, Gets, Changes, Holds, Enqueues, Dequeues, Opens, AfterScan, GiveBack, Phase, Scans}
use Rattle.inv_ends.specs.model.World.{World, finds}
use Rattle.inv_ends.specs.shapes.Seats.{task_root, Run}
use Rattle.inv_ends.specs.rows.Hands.{row_move}
use Rattle.inv_ends.specs.rows.Rows.{Status, View, is_settled}
use Rattle.inv_ends.specs.rows.Tries.{at_tries, base_tries}
use Rattle.inv_ends.specs.covers.Covers.{takes_or_frees, CoversNeeds, Scanning}
use Rattle.inv_ends.specs.covers.Held.{under, Held}
use Rattle.inv_ends.proofs.covers.Begun.{standing_stays}
use Rattle.inv_ends.specs.Tracked.{carries_at, carries_base, root_base}
use Rattle.inv_ends.proofs.model.Facts.{true_not_false, same_number}

-- the row that a scan gives back is made free
pub back_frees : (w : World) (i : ℕ) (later : AfterScan) (place slot : ℕ) → (w.seat i).phase ≡ Scans later (GiveBack place slot) → takes_or_frees (row_move (w.seat i).phase (w.seat i).post (finds w i)) slot ≡ true
back_frees w i later place slot e = let P : Phase → Type 0 = λ y. takes_or_frees (row_move y (w.seat i).post (finds w i)) slot ≡ true in subst P (sym e) (same_number slot)

-- so it does not stand
pub back_apart : (w : World) (i k j : ℕ) (v : View) (later : AfterScan) (place slot : ℕ) → CoversNeeds w i v → Scanning w → Held w v → (w.seat i).phase ≡ Scans later (GiveBack place slot) → stands (w.seat k).post j ≡ Some slot → ⊥
back_apart w i k j v later place slot n c h e s = true_not_false (takes_or_frees (row_move (w.seat i).phase (w.seat i).post (finds w i)) slot) (back_frees w i later place slot e) (standing_stays w i k j slot v n c h s)

-- what stands was linked
pub stands_settled : (w : World) (k j s : ℕ) (v : View) → Held w v → stands (w.seat k).post j ≡ Some s → is_settled (v.status s) ≡ true
stands_settled w k j s v h e = (h.stood k j s e).covers.settled

-- the root of a task leads to rows that are linked
task_under : (status : ℕ → Status) (buckets : ℕ) (task : Task) → under status (task_root buckets task) ≡ true
task_under status buckets (Gets key) = refl
task_under status buckets (Changes kept) = refl
task_under status buckets (Holds key) = refl
task_under status buckets (Enqueues kept) = refl
task_under status buckets Dequeues = refl

under_by : (status : ℕ → Status) (buckets : ℕ) (task : Task) (root : Root) → root ≡ task_root buckets task → under status root ≡ true
under_by status buckets task root e = subst (λ (r : Root). under status r ≡ true) (sym e) (task_under status buckets task)

pub tried_under : (clock upto : ℕ) (status : ℕ → Status) (layout : Layout) (task : Task) (base : Base) (post : Post) (s : ℕ) → Run layout (Opens task) base post → base_tries clock upto base s ≡ true → under status (root_base base) ≡ true
tried_under clock upto status layout task (Protect aim index root steps at) post s r t = under_by status layout.config.buckets task root r.shape.of
tried_under clock upto status layout task base post s r t = absurd (cc)

-- a protection that tries a link carries it
tried_at : (clock upto : ℕ) (at : ProtectAt) (s : ℕ) → at_tries clock upto at s ≡ true → carries_at clock upto at (s + 1) ≡ true
tried_at clock upto (LoadClock tries) s h = h
tried_at clock upto at s h = h

pub tried_carried : (clock upto : ℕ) (base : Base) (s : ℕ) → base_tries clock upto base s ≡ true → carries_base clock upto base (s + 1) ≡ true
tried_carried clock upto (Protect aim index root steps at) s h = tried_at clock upto at s h
tried_carried clock upto base s h = absurd (cc)
