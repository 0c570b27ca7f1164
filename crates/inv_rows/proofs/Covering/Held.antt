-- What guards hold stays held over each step, under Hazard Eras and 2GE.
use Rattle.std.proofs.Common.{ℕ, ◌≤◌, ◌+◌, ◌≡◌, ◌∙◌, sym, subst, ap, true, false, arith, refl, Bool, Option, Some, None, ◌⊎◌, inl, inr, List, [], ◌<◌}
use Rattle.std.proofs.lemmas.Bool.Decides.{nat_tests}
use Rattle.std.specs.Prelude.{◌==◌, if◌then◌else◌, ◌-◌, is_some, length}
use Rattle.inv_rows.specs.words.Place.{Place}
use Rattle.inv_rows.specs.words.Place.Place.{Clock, Head, Index as IndexOf, Interval as IntervalOf}
use Rattle.inv_rows.specs.words.declared.layout.Layout.{Layout}
use Rattle.inv_rows.specs.words.declared.config.SchemeKind.{SchemeKind}
use Rattle.inv_rows.specs.defs.declared.event.Event.{Event}
use Rattle.inv_rows.specs.defs.declared.event.Guard.{Guard}
use Rattle.inv_rows.specs.defs.declared.event.Guard.TheVariants.{Index, Whole}
use Rattle.inv_rows.specs.defs.declared.event.Root.{Root}
use Rattle.inv_rows.specs.defs.declared.event.Root.TheVariants as roots
use Rattle.inv_rows.specs.defs.declared.lifetime.Interval.{Interval}
use Rattle.inv_rows.specs.defs.declared.shown.Shown.{Shown}
use Rattle.inv_rows.specs.defs.declared.shown.Shown.TheVariants.{Nothing, Eras, Row}
use Rattle.inv_rows.specs.defs.Shown as values
use Rattle.inv_rows.specs.model.declared.post.Post.{Post}
use Rattle.inv_rows.specs.model.Desks.{Desk, noting}
use Rattle.inv_rows.specs.model.Guards.{guard_place, from_to, linked_row, own_guard}
use Rattle.inv_rows.specs.model.Links.{link_place, parent_of}
use Rattle.inv_rows.specs.model.Memory.{found, place_in, written, bump}
use Rattle.inv_rows.specs.model.Memory as memory
use Rattle.inv_rows.specs.model.Posts.{index_word, shown_word, stands, upper, lower, counted, publishes_index}
use Rattle.inv_rows.specs.model.Phases.{Aim, Alone, Follows, Tries, HazardAt, ProtectAt, Base, Outcome, Goes, Ends, Turn}
use Rattle.inv_rows.specs.model.Phases.BeginAt.{LoadLower, PublishSpan}
use Rattle.inv_rows.specs.model.Phases.ProtectAt.{LoadClock, PublishEra, LoadLink, CheckClock, PublishRequest, LoadOwnClock, PublishHelper, LoadOwnLink, CheckOwnClock, AnswerOwn, LoadAnswer, TakeAnswer, WithdrawRequest, WithdrawHelper, LoadWithin, CheckUpper, RaiseUpper, ByHazard}
use Rattle.inv_rows.specs.model.Phases.HazardAt.{FirstLink, PublishLink, CheckLink}
use Rattle.inv_rows.specs.model.Phases.Base.{Begin, Protect, Reload, Clear, Finish, Release, Allocate, Write, GiveUp, Retire, Move}
use Rattle.inv_rows.specs.model.Machine.{protect_move, base_move}
use Rattle.inv_rows.specs.model.Machine as machine
use Rattle.inv_rows.specs.model.Steps.{phase_turn, phase_move, resumed, work_turn}
use Rattle.inv_rows.specs.model.Scan.{scan_turn}
use Rattle.inv_rows.specs.model.Keep.{copied, load_held}
use Rattle.inv_rows.specs.model.Rounds.{scheme_of}
use Rattle.inv_rows.specs.model.Calls.{KeepAt, Loosens, LoadHeld, StoreHeld, Looks, Misses, HideSpan, MarkLeft, TakeList, MarkTaken, Work, Getting, Changing, Enqueuing, Dequeuing, Keeping, Why, Phase, Idle, Runs, Scans, Works, CallTurn, CallOutcome, GoesOn, Answers}
use Rattle.inv_rows.specs.model.Locals.{Local, move, turn, settled_by, told_by, rounds_told}
use Rattle.inv_rows.specs.model.World.{World, step, finds, offered}
use Rattle.inv_rows.specs.Rows.{Status, View, made, is_settled}
use Rattle.inv_rows.specs.Rows.Status.{Free, Claimed, Born, Linked, InQueue, Cut, Sealed, Listed}
use Rattle.inv_rows.specs.Hands.{row_move}
use Rattle.inv_rows.specs.Agree.{Agree, rows_after}
use Rattle.inv_rows.specs.Shapes.Frame.{phase_left}
use Rattle.inv_rows.specs.words.Schemes.{has_one_interval, helps, publishes_rows}
use Rattle.inv_rows.specs.Shapes.Seats.{base_fits}
use Rattle.inv_rows.proofs.Shapes.Frame.{seat_stays, seat_steps}
use Rattle.inv_rows.specs.Covering.Covers.{retired_at, life_of, eras_shown, shown, Covers, Widens}
use Rattle.inv_rows.specs.Covering.Tries.{is_start, starts_base}
use Rattle.inv_rows.specs.Covering.Held.{reaches, under, tries_protect, tries_base, index_base, Holds, Held, Followed, follows_row, rests_base, BaseNeeds, RootsNeeds, LoadsCover, HeldNeeds, HeldKept}
use Rattle.inv_rows.specs.Queue.{in_queue}
use Rattle.inv_rows.proofs.Covering.Copying.{copy_covers, same_guard}
use Rattle.inv_rows.proofs.Covering.Fresh.{work_fresh, works_start, resume_fresh}
use Rattle.inv_rows.proofs.Covering.Kept.{covers_kept, before_at}
use Rattle.inv_rows.proofs.Covering.Scans.{scan_shrinks, scan_starts}
use Rattle.inv_rows.proofs.Covering.Stands.{withdrawn_apart, with_row_apart, with_row_is, bare_none}
use Rattle.inv_rows.proofs.Covering.Stood.{Was, loads_again, again_base, base_stood}
use Rattle.inv_rows.proofs.Covering.Tried.{out_tries, out_index, loads_link, protect_tries, other_tries, is_protect, tried_quiet, loaded_quiet, protect_clock, start_untried, queued_back, tries_back}
use Rattle.inv_rows.proofs.Covering.Words.{keeps, eras_are_shown, rows_are_shown, shown_kept, widens_same, stores_guard, base_other, base_quiet, scan_quiet, work_span, work_stores, work_quiet}
use Rattle.inv_rows.proofs.Queued.{queue_is}
use Rattle.inv_rows.proofs.model.Facts.{no_truth}
use Rattle.inv_rows.proofs.model.Schemes.{each_guard, index_guard, interval_guard}
use Rattle.inv_rows.proofs.words.Schemes.{eras_not_interval, eras_not_rows, interval_not_rows, rows_not_interval}
use Rattle.inv_rows.proofs.Shapes.Tries.{try_eras}
pub use Rattle.inv_rows.proofs.Shapes.Frame.{finds_at, settled_phase}
pub use Rattle.inv_rows.proofs.Covering.Words.{move_is, keeps_at}

-- a row that a root leads to is linked, and its life goes on
abbrev pub is_live : Status → Bool
is_live Free = false
is_live (Claimed by) = false
is_live (Born by) = false
is_live (Linked bucket) = true
is_live InQueue = true
is_live (Cut by) = false
is_live (Sealed by retire) = false
is_live (Listed by retire) = false

live_meets : (slot birth lo hi : ℕ) (status : Status) → is_live status ≡ true → birth ≤ hi → values.keeps (life_of slot birth (retired_at status)) (Eras (record { lo = lo; hi = hi })) ≡ true
live_meets slot birth lo hi (Linked bucket) h b = grind (arith, nat_tests)
live_meets slot birth lo hi InQueue h b = grind (arith, nat_tests)
live_meets slot birth lo hi status h b = absurd (cc)

live_kept : (clock slot birth : ℕ) (status : Status) (value : Shown) → is_live status ≡ true → birth ≤ clock → reaches clock slot value ≡ true → values.keeps (life_of slot birth (retired_at status)) value ≡ true
live_kept clock slot birth status Nothing h b r = absurd (cc)
live_kept clock slot birth status (Eras span) h b r = live_meets slot birth span.lo span.hi status h (grind (arith, nat_tests))
live_kept clock slot birth status (Row row) h b r = r

live_past : (status : Status) → is_live status ≡ true → is_settled status ≡ true
live_past (Linked bucket) h = refl
live_past InQueue h = refl
live_past status h = absurd (cc)

-- the row of a link that was loaded
pub root_live : (w : World) (v : View) (root : Root) (s : ℕ) → RootsNeeds w v → w.mem (link_place root) ≡ s + 1 → under v.status root ≡ true → is_live (v.status s) ≡ true
root_live w v (roots.Bucket bucket) s n l u = let e : v.status s ≡ Linked bucket = n.rows.good.roots bucket s (sym (n.rows.words.roots bucket) ∙ l) in rw e refl
root_live w v roots.Head s n l u = let e : v.status s ≡ InQueue = n.rows.good.queue s (sym n.rows.words.head ∙ l) in rw e refl
root_live w v roots.Tail s n l u = let e : v.status s ≡ InQueue = n.tail s l in rw e refl
root_live w v (roots.Next parent) s n l u = let e : v.status s ≡ InQueue = n.nexts parent s (queue_is (v.status parent) u) l in rw e refl

not_listed : (status : Status) (k r : ℕ) → is_live status ≡ true → status ≡ Listed k r → false ≡ true
not_listed status k r h e = absurd (cc)

-- a guard that publishes an interval up to the clock, or the row, covers the row of a link that is loaded
pub live_covers : (w : World) (v : View) (guard : Guard) (s : ℕ) → RootsNeeds w v → reaches (w.mem Clock) s (shown w guard) ≡ true → is_live (v.status s) ≡ true → Covers w v guard s
live_covers w v guard s n r l = record {
  settled = live_past (v.status s) l;
  kept = live_kept (w.mem Clock) s (v.birth s) (v.status s) (shown w guard) l (n.births s (live_past (v.status s) l)) r;
  scans = λ k r h. absurd (no_truth (not_listed (v.status s) k r l h));
}

pub loads_cover : LoadsCover
loads_cover w v guard root slot n r l u = live_covers w v guard slot n r (root_live w v root slot n l u)

-- an interval up to the clock, and the row of a link
eras_reach : (clock slot lo hi : ℕ) → clock ≤ hi → reaches clock slot (values.shown (from_to lo hi)) ≡ true
eras_reach clock slot lo hi c = grind (arith, nat_tests)

pub eras_reaches : (w : World) (guard : Guard) (lo hi slot : ℕ) → publishes_rows w.layout.config.scheme ≡ false → eras_shown w guard ≡ from_to lo hi → w.mem Clock ≤ hi → reaches (w.mem Clock) slot (shown w guard) ≡ true
eras_reaches w guard lo hi slot f e c = ap (reaches (w.mem Clock) slot) (eras_are_shown w guard f ∙ ap values.shown e) ∙ eras_reach (w.mem Clock) slot lo hi c

link_reach : (clock slot link : ℕ) (null : Bool) → (link == 0) ≡ null → link ≡ slot + 1 → reaches clock slot (values.shown_row (if null then None else Some (link - 1))) ≡ true
link_reach clock slot link true e h = absurd (grind (arith, nat_tests))
link_reach clock slot link false e h = grind (arith, nat_tests)

pub link_reaches : (w : World) (guard : Guard) (link slot : ℕ) → publishes_rows w.layout.config.scheme ≡ true → w.mem (guard_place guard) ≡ link → link ≡ slot + 1 → reaches (w.mem Clock) slot (shown w guard) ≡ true
link_reaches w guard link slot f m h = ap (reaches (w.mem Clock) slot) (rows_are_shown w guard f ∙ ap (λ (x : ℕ). values.shown_row (linked_row x)) m) ∙ link_reach (w.mem Clock) slot link (link == 0) refl h

-- what is held stays held
pub holds_kept : (w : World) (i : ℕ) (v : View) (guard : Guard) (s : ℕ) → HeldNeeds w i v → Widens (shown w guard) (shown (step w i) guard) → Holds w v guard s → Holds (step w i) (rows_after w i v) guard s
holds_kept w i v guard s n d h = record { fits = h.fits; covers = covers_kept w i v guard s n.covers n.scans h.fits d h.covers }

-- the seat that steps
pub settled_post : (l : Local) (post : Post) (desk : Desk) (rounds : ℕ) (outcome : CallOutcome) → (settled_by l post desk rounds outcome).post ≡ post
settled_post l post desk rounds (GoesOn phase) = refl
settled_post l post desk rounds (Answers answer) = refl

pub stepped_post : (w : World) (i : ℕ) → ((step w i).seat i).post ≡ (turn (offered w i) (finds w i)).post
stepped_post w i = let l : Local = offered w i in let t : CallTurn = turn l (finds w i) in ap (λ (x : Local). x.post) (seat_steps w i) ∙ settled_post l t.post (noting t.desk (told_by t)) (rounds_told (publishes_rows (scheme_of t.post)) l.rounds (told_by t)) t.outcome

pub stepped_phase : (w : World) (i : ℕ) → ((step w i).seat i).phase ≡ phase_left (turn (offered w i) (finds w i)).outcome
stepped_phase w i = let l : Local = offered w i in let t : CallTurn = turn l (finds w i) in ap (λ (x : Local). x.phase) (seat_steps w i) ∙ settled_phase l t.post (noting t.desk (told_by t)) (rounds_told (publishes_rows (scheme_of t.post)) l.rounds (told_by t)) t.outcome

-- where a row stood that stands after a step of a call's own: where it stands, at an index whose word stays; or at the index
-- from which a copy comes
abbrev pub KeepFrom : KeepAt → Post → ℕ → ℕ → Type 0
KeepFrom (LoadHeld from index) post j s = (stands post j ≡ Some s) ⊎ ((has_one_interval (scheme_of post) ≡ true) × (stands post from ≡ Some s))
KeepFrom (StoreHeld from index era) post j s = (((j == index) ≡ false) × (stands post j ≡ Some s)) ⊎ ((j ≡ index) × (stands post from ≡ Some s))
KeepFrom HideSpan post j s = ⊥
KeepFrom at post j s = stands post j ≡ Some s

abbrev pub WorkFrom : Work → Post → ℕ → ℕ → Type 0
WorkFrom (Keeping at) post j s = KeepFrom at post j s
WorkFrom work post j s = stands post j ≡ Some s

-- what a copy needs of the post
pub record CopyHas (post : Post) (from index : ℕ) : Type 0 where
  pub stood : is_some (stands post from) ≡ true
  pub room : index < length post.standing

abbrev pub WorkHas : Work → Post → Type 0
WorkHas (Keeping (LoadHeld from index)) post = CopyHas post from index
WorkHas (Keeping (StoreHeld from index era)) post = CopyHas post from index
WorkHas work post = Unit {0}

abbrev pub PhaseHas : Phase → Post → Type 0
PhaseHas (Works work) post = WorkHas work post
PhaseHas phase post = Unit {0}

copied_from : (from index : ℕ) (post : Post) (desk : Desk) (told : List Event) (x : Option ℕ) (j s : ℕ) (own : Bool) → (j == index) ≡ own → index < length post.standing → stands post from ≡ x → is_some x ≡ true → stands (copied from index post desk told x).post j ≡ Some s
    → (((j == index) ≡ false) × (stands post j ≡ Some s)) ⊎ ((j ≡ index) × (stands post from ≡ Some s))
copied_from from index post desk told None j s own o b q k h = absurd (no_truth k)
copied_from from index post desk told (Some slot) j s true o b q k h = let z = with_row_is post index slot j s b o h in inr (grind (arith, nat_tests), rw z q)
copied_from from index post desk told (Some slot) j s false o b q k h = inl (o, with_row_apart post index slot j s o h)

load_held_from : (from index : ℕ) (post : Post) (desk : Desk) (found j s : ℕ) (one : Bool) → has_one_interval (scheme_of post) ≡ one → CopyHas post from index → stands (load_held from index post desk found one).post j ≡ Some s → KeepFrom (LoadHeld from index) post j s
load_held_from from index post desk found j s true e k h = by_copied (copied_from from index post desk [] (stands post from) j s (j == index) refl k.room refl k.stood h) where
  by_copied : (((j == index) ≡ false) × (stands post j ≡ Some s)) ⊎ ((j ≡ index) × (stands post from ≡ Some s)) → KeepFrom (LoadHeld from index) post j s
  by_copied (inl x) = inl (x.1)
  by_copied (inr x) = inr (e, x.1)
load_held_from from index post desk found j s false e k h = inl h

pub work_from : (work : Work) (post : Post) (desk : Desk) (found j s : ℕ) → WorkHas work post → stands (work_turn work post desk found).post j ≡ Some s → WorkFrom work post j s
work_from (Keeping (LoadHeld from index)) post desk found j s k h = load_held_from from index post desk found j s (has_one_interval (scheme_of post)) refl k h
work_from (Keeping (StoreHeld from index era)) post desk found j s k h = copied_from from index post desk (publishes_index (publishes_rows (scheme_of post)) post index era) (stands post from) j s (j == index) refl k.room refl k.stood h
work_from (Keeping (Loosens let_go)) post desk found j s k h = (work_fresh (Keeping (Loosens let_go)) post desk found refl).shrinks j s h
work_from (Keeping (Looks index key at)) post desk found j s k h = (work_fresh (Keeping (Looks index key at)) post desk found refl).shrinks j s h
work_from (Keeping (Misses index)) post desk found j s k h = h
work_from (Keeping HideSpan) post desk found j s k h = bare_none post j s h
work_from (Keeping MarkLeft) post desk found j s k h = h
work_from (Keeping (TakeList place)) post desk found j s k h = (work_fresh (Keeping (TakeList place)) post desk found refl).shrinks j s h
work_from (Keeping (MarkTaken place count)) post desk found j s k h = h
work_from (Getting key at) post desk found j s k h = (work_fresh (Getting key at) post desk found refl).shrinks j s h
work_from (Changing kept at) post desk found j s k h = (work_fresh (Changing kept at) post desk found refl).shrinks j s h
work_from (Enqueuing kept at) post desk found j s k h = (work_fresh (Enqueuing kept at) post desk found refl).shrinks j s h
work_from (Dequeuing at) post desk found j s k h = (work_fresh (Dequeuing at) post desk found refl).shrinks j s h

-- where a row stood that stands after a turn
abbrev pub From : Phase → Post → ℕ → ℕ → ℕ → Type 0
From Idle post x j s = stands post j ≡ Some s
From (Runs why base) post x j s = stands (machine.after base (counted post) x).post j ≡ Some s
From (Scans later at) post x j s = stands post j ≡ Some s
From (Works work) post x j s = WorkFrom work post j s

pub resumed_from : (why : Why) (desk : Desk) (post : Post) (told : List Event) (outcome : Outcome) (j s : ℕ) → stands (resumed why desk post told outcome).post j ≡ Some s → stands post j ≡ Some s
resumed_from why desk post told (Goes base) j s h = h
resumed_from why desk post told (Ends ending) j s h = (resume_fresh why ending post desk told).shrinks j s h

from_counted : (work : Work) (post : Post) (j s : ℕ) → WorkFrom work (counted post) j s → WorkFrom work post j s
from_counted (Keeping (LoadHeld from index)) post j s h = h
from_counted (Keeping (StoreHeld from index era)) post j s h = h
from_counted (Keeping (Loosens let_go)) post j s h = h
from_counted (Keeping HideSpan) post j s h = h
from_counted work post j s h = h

pub turn_from : (phase : Phase) (post : Post) (desk : Desk) (x j s : ℕ) → PhaseHas phase (counted post) → stands (phase_turn phase (counted post) desk x).post j ≡ Some s → From phase post x j s
turn_from Idle post desk x j s k h = h
turn_from (Runs why base) post desk x j s k h = let t : Turn = machine.after base (counted post) x in resumed_from why desk t.post t.told t.outcome j s h
turn_from (Scans later at) post desk x j s k h = scan_shrinks later at (counted post) desk x j s h
turn_from (Works work) post desk x j s k h = from_counted work post j s (work_from work (counted post) desk x j s k h)

-- what an own guard publishes
pub kept_widens : (w : World) (i : ℕ) (guard : Guard) → keeps (move (w.seat i)) (guard_place guard) ≡ true → Widens (shown w guard) (shown (step w i) guard)
kept_widens w i guard h = widens_same (shown w guard) (shown (step w i) guard) (shown_kept w i guard h)

index_keeps : (scheme : SchemeKind) (i j seat index value : ℕ) → (j == index) ≡ false → keeps (memory.Store (IndexOf seat index) value) (guard_place (own_guard scheme i j)) ≡ true
index_keeps scheme i j seat index value e = each_guard scheme i j (λ (g : Guard). keeps (memory.Store (IndexOf seat index) value) (guard_place g) ≡ true) (grind (arith, nat_tests)) refl

none_widens : (x : Option Interval) (y : Shown) → x ≡ None → Widens (values.shown x) y
none_widens x y e life h = absurd (let k = rw e at h in cc)

-- where no rows are published the eras are what is published
eras_widens : (w : World) (i : ℕ) (guard : Guard) → publishes_rows w.layout.config.scheme ≡ false → Widens (values.shown (eras_shown w guard)) (values.shown (eras_shown (step w i) guard)) → Widens (shown w guard) (shown (step w i) guard)
eras_widens w i guard f h =
    subst (λ (x : Shown). Widens x (shown (step w i) guard)) (sym (eras_are_shown w guard f)) (subst (λ (y : Shown). Widens (values.shown (eras_shown w guard)) y) (sym (eras_are_shown (step w i) guard f)) h)

raise_widens : (x : Option Interval) (era : ℕ) → upper x ≤ era → Widens (values.shown x) (Eras (record { lo = lower x; hi = era }))
raise_widens None era h life k = absurd (cc)
raise_widens (Some span) era h life k = grind (arith, nat_tests)

nothing_stands : (post : Post) (j s : ℕ) → stands post j ≡ None → stands post j ≡ Some s → false ≡ true
nothing_stands post j s a b = absurd (cc)

neither : (a b : Bool) → a ≡ false → b ≡ false → (a ≡ true) ⊎ (b ≡ true) → ⊥
neither a b x y (inl z) = absurd (cc)
neither a b x y (inr z) = absurd (cc)

-- nothing stands where the own guard is taken from
rest_widens : (w : World) (i : ℕ) (v : View) (base : Base) (j s : ℕ) (old new : Shown) → rests_base base j ≡ true → BaseNeeds w i base → tries_base (w.mem Clock) v.status (w.seat i).post base s ≡ false → again_base v.status w.mem base s ≡ false → Was (w.mem Clock) v.status w.mem (w.seat i).post base j s → Widens old new
rest_widens w i v base j s old new r b t u (inl x) = absurd (no_truth (nothing_stands (w.seat i).post j s (b.rests j r) x))
rest_widens w i v base j s old new r b t u (inr x) = absurd (neither (tries_base (w.mem Clock) v.status (w.seat i).post base s) (again_base v.status w.mem base s) t u x.1)

era_widens : (w : World) (i : ℕ) (v : View) (why : Why) (aim : Aim) (index : ℕ) (root : Root) (steps era : ℕ) (tries : Tries) (j s : ℕ) (own : Bool) → (j == index) ≡ own → (w.seat i).phase ≡ Runs why (Protect aim index root steps (PublishEra era tries)) → BaseNeeds w i (Protect aim index root steps (PublishEra era tries)) → Was (w.mem Clock) v.status w.mem (w.seat i).post (Protect aim index root steps (PublishEra era tries)) j s
    → Widens (shown w (own_guard w.layout.config.scheme i j)) (shown (step w i) (own_guard w.layout.config.scheme i j))
era_widens w i v why aim index root steps era tries j s true o e b h =
    rest_widens w i v (Protect aim index root steps (PublishEra era tries)) j s (shown w (own_guard w.layout.config.scheme i j)) (shown (step w i) (own_guard w.layout.config.scheme i j)) o b refl refl h
era_widens w i v why aim index root steps era tries j s false o e b h =
    kept_widens w i (own_guard w.layout.config.scheme i j) (keeps_at w i (Runs why (Protect aim index root steps (PublishEra era tries))) (guard_place (own_guard w.layout.config.scheme i j)) e (index_keeps w.layout.config.scheme i j (w.seat i).post.seat index (index_word (w.seat i).post index era) o))

-- so does a link
link_widens : (w : World) (i : ℕ) (v : View) (why : Why) (aim : Aim) (index : ℕ) (root : Root) (steps link : ℕ) (j s : ℕ) (own : Bool) → (j == index) ≡ own → (w.seat i).phase ≡ Runs why (Protect aim index root steps (ByHazard (PublishLink link))) → BaseNeeds w i (Protect aim index root steps (ByHazard (PublishLink link)))
    → Was (w.mem Clock) v.status w.mem (w.seat i).post (Protect aim index root steps (ByHazard (PublishLink link))) j s
    → Widens (shown w (own_guard w.layout.config.scheme i j)) (shown (step w i) (own_guard w.layout.config.scheme i j))
link_widens w i v why aim index root steps link j s true o e b h =
    rest_widens w i v (Protect aim index root steps (ByHazard (PublishLink link))) j s (shown w (own_guard w.layout.config.scheme i j)) (shown (step w i) (own_guard w.layout.config.scheme i j)) o b refl refl h
link_widens w i v why aim index root steps link j s false o e b h =
    kept_widens w i (own_guard w.layout.config.scheme i j) (keeps_at w i (Runs why (Protect aim index root steps (ByHazard (PublishLink link)))) (guard_place (own_guard w.layout.config.scheme i j)) e (index_keeps w.layout.config.scheme i j (w.seat i).post.seat index link o))

quiet_widens : (w : World) (i : ℕ) (why : Why) (base : Base) (j : ℕ) → helps w.layout.config.scheme ≡ false → (w.seat i).phase ≡ Runs why base → base_fits w.layout.config base ≡ true → stores_guard base ≡ false → Widens (shown w (own_guard w.layout.config.scheme i j)) (shown (step w i) (own_guard w.layout.config.scheme i j))
quiet_widens w i why base j f e b q =
    kept_widens w i (own_guard w.layout.config.scheme i j) (keeps_at w i (Runs why base) (guard_place (own_guard w.layout.config.scheme i j)) e (base_quiet w.layout.config.scheme i j w.layout.config base (w.seat i).post f b q))

-- under 2GE an interval begins where none stands, or rises
whole_widens : (w : World) (i j : ℕ) → has_one_interval w.layout.config.scheme ≡ true → Widens (shown w (Whole i)) (shown (step w i) (Whole i)) → Widens (shown w (own_guard w.layout.config.scheme i j)) (shown (step w i) (own_guard w.layout.config.scheme i j))
whole_widens w i j f h = subst (λ (g : Guard). Widens (shown w g) (shown (step w i) g)) (sym (interval_guard w.layout.config.scheme i j f)) h

pub turned_post : (w : World) (i : ℕ) (phase : Phase) → (w.seat i).phase ≡ phase → ((step w i).seat i).post ≡ (phase_turn phase (counted (w.seat i).post) (offered w i).desk (finds w i)).post
turned_post w i phase e = stepped_post w i ∙ ap (λ (p : Phase). (phase_turn p (counted (w.seat i).post) (offered w i).desk (finds w i)).post) e

span_raised : (w : World) (i : ℕ) (v : View) (why : Why) (aim : Aim) (index : ℕ) (root : Root) (steps era : ℕ) → (w.seat i).phase ≡ Runs why (Protect aim index root steps (RaiseUpper era)) → has_one_interval w.layout.config.scheme ≡ true → HeldNeeds w i v → upper (w.seat i).post.span ≤ era → Widens (shown w (Whole i)) (shown (step w i) (Whole i))
span_raised w i v why aim index root steps era e f n u =
    let old : eras_shown w (Whole i) ≡ (w.seat i).post.span = n.spans f in
    let new : eras_shown (step w i) (Whole i) ≡ from_to (lower (w.seat i).post.span) era = n.spans_next f ∙ ap (λ (p : Post). p.span) (turned_post w i (Runs why (Protect aim index root steps (RaiseUpper era))) e) in
    let k : Widens (values.shown (w.seat i).post.span) (Eras (record { lo = lower (w.seat i).post.span; hi = era })) = raise_widens (w.seat i).post.span era u in
    eras_widens w i (Whole i) (interval_not_rows w.layout.config.scheme f)
    (subst (λ (x : Option Interval). Widens (values.shown x) (values.shown (eras_shown (step w i) (Whole i)))) (sym old) (subst (λ (y : Option Interval). Widens (values.shown (w.seat i).post.span) (values.shown y)) (sym new) k))

-- the own guard of an index at which a row stands after a machine's step
own_widens : (w : World) (i : ℕ) (v : View) (why : Why) (base : Base) (j s : ℕ) → helps w.layout.config.scheme ≡ false → HeldNeeds w i v → (w.seat i).phase ≡ Runs why base → stands (machine.after base (counted (w.seat i).post) (finds w i)).post j ≡ Some s → Was (w.mem Clock) v.status w.mem (w.seat i).post base j s
    → Widens (shown w (own_guard w.layout.config.scheme i j)) (shown (step w i) (own_guard w.layout.config.scheme i j))
own_widens w i v why (Begin LoadLower) j s f n e h y = quiet_widens w i why (Begin LoadLower) j f e (n.base why (Begin LoadLower) e).fits refl
own_widens w i v why (Begin (PublishSpan era)) j s f n e h y =
    let b = n.base why (Begin (PublishSpan era)) e in
    whole_widens w i j b.fits (eras_widens w i (Whole i) (interval_not_rows w.layout.config.scheme b.fits) (none_widens (eras_shown w (Whole i)) (values.shown (eras_shown (step w i) (Whole i))) (n.spans b.fits ∙ b.grows)))
own_widens w i v why (Protect aim index root steps (PublishEra era tries)) j s f n e h y =
    era_widens w i v why aim index root steps era tries j s (j == index) refl e (n.base why (Protect aim index root steps (PublishEra era tries)) e) y
own_widens w i v why (Protect aim index root steps (RaiseUpper era)) j s f n e h y =
    let b = n.base why (Protect aim index root steps (RaiseUpper era)) e in
    whole_widens w i j b.fits (span_raised w i v why aim index root steps era e b.fits n b.grows)
own_widens w i v why (Protect aim index root steps (TakeAnswer link era)) j s f n e h y =
    let b = (n.base why (Protect aim index root steps (TakeAnswer link era)) e).fits in absurd (cc)
own_widens w i v why (Protect aim index root steps (ByHazard FirstLink)) j s f n e h y = quiet_widens w i why (Protect aim index root steps (ByHazard FirstLink)) j f e (n.base why (Protect aim index root steps (ByHazard FirstLink)) e).fits refl
own_widens w i v why (Protect aim index root steps (ByHazard (PublishLink link))) j s f n e h y =
    link_widens w i v why aim index root steps link j s (j == index) refl e (n.base why (Protect aim index root steps (ByHazard (PublishLink link))) e) y
own_widens w i v why (Protect aim index root steps (ByHazard (CheckLink link))) j s f n e h y = quiet_widens w i why (Protect aim index root steps (ByHazard (CheckLink link))) j f e (n.base why (Protect aim index root steps (ByHazard (CheckLink link))) e).fits refl
own_widens w i v why (Protect aim index root steps (LoadClock tries)) j s f n e h y = quiet_widens w i why (Protect aim index root steps (LoadClock tries)) j f e (n.base why (Protect aim index root steps (LoadClock tries)) e).fits refl
own_widens w i v why (Protect aim index root steps (LoadLink era tries)) j s f n e h y = quiet_widens w i why (Protect aim index root steps (LoadLink era tries)) j f e (n.base why (Protect aim index root steps (LoadLink era tries)) e).fits refl
own_widens w i v why (Protect aim index root steps (CheckClock era tries link)) j s f n e h y = quiet_widens w i why (Protect aim index root steps (CheckClock era tries link)) j f e (n.base why (Protect aim index root steps (CheckClock era tries link)) e).fits refl
own_widens w i v why (Protect aim index root steps PublishRequest) j s f n e h y = quiet_widens w i why (Protect aim index root steps PublishRequest) j f e (n.base why (Protect aim index root steps PublishRequest) e).fits refl
own_widens w i v why (Protect aim index root steps LoadOwnClock) j s f n e h y = quiet_widens w i why (Protect aim index root steps LoadOwnClock) j f e (n.base why (Protect aim index root steps LoadOwnClock) e).fits refl
own_widens w i v why (Protect aim index root steps (PublishHelper first era last)) j s f n e h y = quiet_widens w i why (Protect aim index root steps (PublishHelper first era last)) j f e (n.base why (Protect aim index root steps (PublishHelper first era last)) e).fits refl
own_widens w i v why (Protect aim index root steps (LoadOwnLink first era last)) j s f n e h y = quiet_widens w i why (Protect aim index root steps (LoadOwnLink first era last)) j f e (n.base why (Protect aim index root steps (LoadOwnLink first era last)) e).fits refl
own_widens w i v why (Protect aim index root steps (CheckOwnClock first era last link)) j s f n e h y = quiet_widens w i why (Protect aim index root steps (CheckOwnClock first era last link)) j f e (n.base why (Protect aim index root steps (CheckOwnClock first era last link)) e).fits refl
own_widens w i v why (Protect aim index root steps (AnswerOwn first era link)) j s f n e h y = quiet_widens w i why (Protect aim index root steps (AnswerOwn first era link)) j f e (n.base why (Protect aim index root steps (AnswerOwn first era link)) e).fits refl
own_widens w i v why (Protect aim index root steps (LoadAnswer first)) j s f n e h y = quiet_widens w i why (Protect aim index root steps (LoadAnswer first)) j f e (n.base why (Protect aim index root steps (LoadAnswer first)) e).fits refl
own_widens w i v why (Protect aim index root steps (WithdrawRequest link era)) j s f n e h y = quiet_widens w i why (Protect aim index root steps (WithdrawRequest link era)) j f e (n.base why (Protect aim index root steps (WithdrawRequest link era)) e).fits refl
own_widens w i v why (Protect aim index root steps (WithdrawHelper link era)) j s f n e h y = quiet_widens w i why (Protect aim index root steps (WithdrawHelper link era)) j f e (n.base why (Protect aim index root steps (WithdrawHelper link era)) e).fits refl
own_widens w i v why (Protect aim index root steps LoadWithin) j s f n e h y = quiet_widens w i why (Protect aim index root steps LoadWithin) j f e (n.base why (Protect aim index root steps LoadWithin) e).fits refl
own_widens w i v why (Protect aim index root steps (CheckUpper link)) j s f n e h y = quiet_widens w i why (Protect aim index root steps (CheckUpper link)) j f e (n.base why (Protect aim index root steps (CheckUpper link)) e).fits refl
own_widens w i v why (Clear rows index) j s f n e h y =
    kept_widens w i (own_guard w.layout.config.scheme i j) (keeps_at w i (Runs why (Clear rows index)) (guard_place (own_guard w.layout.config.scheme i j)) e (index_keeps w.layout.config.scheme i j (w.seat i).post.seat index (shown_word rows (w.seat i).post index 0) (withdrawn_apart (counted (w.seat i).post) index j s h)))
own_widens w i v why Finish j s f n e h y =
    rest_widens w i v Finish j s (shown w (own_guard w.layout.config.scheme i j)) (shown (step w i) (own_guard w.layout.config.scheme i j)) refl (n.base why Finish e) refl refl y
own_widens w i v why (Release index) j s f n e h y =
    let o : (j == index) ≡ false = withdrawn_apart (counted (w.seat i).post) index j s h in
    rest_widens w i v (Release index) j s (shown w (own_guard w.layout.config.scheme i j)) (shown (step w i) (own_guard w.layout.config.scheme i j)) (rw o refl) (n.base why (Release index) e) refl refl y
own_widens w i v why (Reload parent index slot era steps) j s f n e h y = quiet_widens w i why (Reload parent index slot era steps) j f e (n.base why (Reload parent index slot era steps) e).fits refl
own_widens w i v why (Allocate at) j s f n e h y = quiet_widens w i why (Allocate at) j f e (n.base why (Allocate at) e).fits refl
own_widens w i v why (Write slot row place) j s f n e h y = quiet_widens w i why (Write slot row place) j f e (n.base why (Write slot row place) e).fits refl
own_widens w i v why (GiveUp slot) j s f n e h y = quiet_widens w i why (GiveUp slot) j f e (n.base why (GiveUp slot) e).fits refl
own_widens w i v why (Retire at) j s f n e h y = quiet_widens w i why (Retire at) j f e (n.base why (Retire at) e).fits refl
own_widens w i v why (Move at) j s f n e h y = quiet_widens w i why (Move at) j f e (n.base why (Move at) e).fits refl

-- counting a step changes nothing that is tried
pub tries_counted : (clock : ℕ) (status : ℕ → Status) (post : Post) (base : Base) (s : ℕ) → tries_base clock status (counted post) base s ≡ tries_base clock status post base s
tries_counted clock status post (Begin at) s = refl
tries_counted clock status post (Protect aim index root steps (LoadClock tries)) s = refl
tries_counted clock status post (Protect aim index root steps at) s = refl
tries_counted clock status post base s = refl

tried_counted : (clock : ℕ) (status : ℕ → Status) (mem : Place → ℕ) (post : Post) (base : Base) (s : ℕ) → (tries_base clock status (counted post) base s ≡ true) ⊎ (again_base status mem base s ≡ true) → (tries_base clock status post base s ≡ true) ⊎ (again_base status mem base s ≡ true)
tried_counted clock status mem post base s (inl x) = inl (sym (tries_counted clock status post base s) ∙ x)
tried_counted clock status mem post base s (inr x) = inr x

was_counted : (clock : ℕ) (status : ℕ → Status) (mem : Place → ℕ) (post : Post) (base : Base) (j s : ℕ) → Was clock status mem (counted post) base j s → Was clock status mem post base j s
was_counted clock status mem post base j s (inl x) = inl x
was_counted clock status mem post base j s (inr x) = inr (x.0, tried_counted clock status mem post base s x.1)

-- a link that is loaded again leads to a row that the index word publishes
again_covers : (w : World) (i : ℕ) (v : View) (aim : Aim) (index : ℕ) (root : Root) (steps : ℕ) (at : HazardAt) (s : ℕ) → HeldNeeds w i v → BaseNeeds w i (Protect aim index root steps (ByHazard at)) → loads_again v.status w.mem root at s ≡ true
    → Covers w v (own_guard w.layout.config.scheme i index) s
again_covers w i v aim index root steps FirstLink s n b h = absurd (cc)
again_covers w i v aim index root steps (PublishLink link) s n b h = absurd (cc)
again_covers w i v aim index root steps (CheckLink link) s n b h =
    let l : w.mem (link_place root) ≡ s + 1 = grind (arith, nat_tests) in
    let u : under v.status root ≡ true = grind (arith, nat_tests) in
    let c : link ≡ s + 1 = grind (arith, nat_tests) in
    let g = index_guard w.layout.config.scheme i index (rows_not_interval w.layout.config.scheme b.fits) in
    rw g (live_covers w v (Index i index) s n.roots (link_reaches w (Index i index) link s b.fits (b.links aim index root steps link refl) c) (root_live w v root s n.roots l u))

again_holds : (w : World) (i : ℕ) (v : View) (base : Base) (s : ℕ) → HeldNeeds w i v → BaseNeeds w i base → again_base v.status w.mem base s ≡ true → Holds w v (own_guard w.layout.config.scheme i (index_base base)) s
again_holds w i v (Protect aim index root steps (ByHazard at)) s n b h = record { fits = b.guard; covers = again_covers w i v aim index root steps at s n b h }
again_holds w i v (Protect aim index root steps at) s n b h = absurd (cc)
again_holds w i v base s n b h = absurd (cc)

-- a row that stood, or that the try had loaded, was held; one whose link is loaded again is so
was_held : (w : World) (i : ℕ) (v : View) (why : Why) (base : Base) (j s : ℕ) → HeldNeeds w i v → Held w v → (w.seat i).phase ≡ Runs why base → Was (w.mem Clock) v.status w.mem (w.seat i).post base j s → Holds w v (own_guard w.layout.config.scheme i j) s
was_held w i v why base j s n h e (inl x) = h.stood i j s x
was_held w i v why base j s n h e (inr x) = rw x.0 (by_try x.1)
  where
    by_try : (tries_base (w.mem Clock) v.status (w.seat i).post base s ≡ true) ⊎ (again_base v.status w.mem base s ≡ true) → Holds w v (own_guard w.layout.config.scheme i (index_base base)) s
    by_try (inl y) = h.tried i why base s e y
    by_try (inr y) = again_holds w i v base s n (n.base why base e) y

-- the head's row is in the queue
pub head_queued : (w : World) (v : View) (p : ℕ) → Agree w v → w.mem Head ≡ p + 1 → in_queue (v.status p) ≡ true
head_queued w v p a e = let q : v.status p ≡ InQueue = a.good.queue p (sym a.words.head ∙ e) in rw q refl

-- a step of a call's own that stores no word of the index
same_holds : (w : World) (i : ℕ) (v : View) (work : Work) (j s : ℕ) → HeldNeeds w i v → (w.seat i).phase ≡ Works work → work_stores work j ≡ false → Holds w v (own_guard w.layout.config.scheme i j) s → Holds (step w i) (rows_after w i v) (own_guard w.layout.config.scheme i j) s
same_holds w i v work j s n e o h =
    holds_kept w i v (own_guard w.layout.config.scheme i j) s n (kept_widens w i (own_guard w.layout.config.scheme i j) (keeps_at w i (Works work) (guard_place (own_guard w.layout.config.scheme i j)) e (work_quiet w.layout.config.scheme i j work (w.seat i).post (rw o (grind (arith, nat_tests)))))) h

-- what a copy lets stand: under 2GE by the interval that stands, else by the word that it stores
load_holds : (w : World) (i : ℕ) (v : View) (from index j s : ℕ) → HeldNeeds w i v → Held w v → (w.seat i).phase ≡ Works (Keeping (LoadHeld from index)) → KeepFrom (LoadHeld from index) (w.seat i).post j s → Holds (step w i) (rows_after w i v) (own_guard w.layout.config.scheme i j) s
load_holds w i v from index j s n h e (inl y) = same_holds w i v (Keeping (LoadHeld from index)) j s n e refl (h.stood i j s y)
load_holds w i v from index j s n h e (inr y) =
    let f : has_one_interval w.layout.config.scheme ≡ true = subst (λ (l : Layout). has_one_interval l.config.scheme ≡ true) (n.covers.layouts i) y.0 in
    same_holds w i v (Keeping (LoadHeld from index)) j s n e refl (subst (λ (g : Guard). Holds w v g s) (same_guard w.layout.config.scheme i from j f) (h.stood i from s y.1))

store_holds : (w : World) (i : ℕ) (v : View) (from index era s : ℕ) (one : Bool) → has_one_interval w.layout.config.scheme ≡ one → HeldNeeds w i v → Held w v → (w.seat i).phase ≡ Works (Keeping (StoreHeld from index era)) → stands (w.seat i).post from ≡ Some s → Holds (step w i) (rows_after w i v) (own_guard w.layout.config.scheme i index) s
store_holds w i v from index era s true f n h e y =
    let g = interval_guard w.layout.config.scheme i index f in
    let o : Holds w v (Whole i) s = subst (λ (g : Guard). Holds w v g s) (interval_guard w.layout.config.scheme i from f) (h.stood i from s y) in
    rw g (holds_kept w i v (Whole i) s n (kept_widens w i (Whole i) (keeps_at w i (Works (Keeping (StoreHeld from index era))) (IntervalOf i) e (work_span i (Keeping (StoreHeld from index era)) (w.seat i).post (grind (arith, nat_tests))))) o)
store_holds w i v from index era s false f n h e y =
    let c = n.stores from index era e in
    let o : Holds w v (Index i from) s = subst (λ (g : Guard). Holds w v g s) (index_guard w.layout.config.scheme i from f) (h.stood i from s y) in
    let g = index_guard w.layout.config.scheme i index f in
    record { fits = c.copy.guard; covers = rw g (copy_covers w i v from index era s n.covers n.scans n.seat c.copy.rises c.tag c.shows e o.fits o.covers) }

work_holds : (w : World) (i : ℕ) (v : View) (work : Work) (j s : ℕ) → HeldNeeds w i v → Held w v → (w.seat i).phase ≡ Works work → WorkFrom work (w.seat i).post j s → Holds (step w i) (rows_after w i v) (own_guard w.layout.config.scheme i j) s
work_holds w i v (Keeping (LoadHeld from index)) j s n h e y = load_holds w i v from index j s n h e y
work_holds w i v (Keeping (StoreHeld from index era)) j s n h e (inl y) = same_holds w i v (Keeping (StoreHeld from index era)) j s n e y.0 (h.stood i j s y.1)
work_holds w i v (Keeping (StoreHeld from index era)) j s n h e (inr y) = rw y.0 (store_holds w i v from index era s (has_one_interval w.layout.config.scheme) refl n h e y.1)
work_holds w i v (Keeping (Loosens let_go)) j s n h e y = same_holds w i v (Keeping (Loosens let_go)) j s n e refl (h.stood i j s y)
work_holds w i v (Keeping (Looks index key at)) j s n h e y = same_holds w i v (Keeping (Looks index key at)) j s n e refl (h.stood i j s y)
work_holds w i v (Keeping (Misses index)) j s n h e y = same_holds w i v (Keeping (Misses index)) j s n e refl (h.stood i j s y)
work_holds w i v (Keeping HideSpan) j s n h e y = absurd y
work_holds w i v (Keeping MarkLeft) j s n h e y = same_holds w i v (Keeping MarkLeft) j s n e refl (h.stood i j s y)
work_holds w i v (Keeping (TakeList place)) j s n h e y = same_holds w i v (Keeping (TakeList place)) j s n e refl (h.stood i j s y)
work_holds w i v (Keeping (MarkTaken place count)) j s n h e y = same_holds w i v (Keeping (MarkTaken place count)) j s n e refl (h.stood i j s y)
work_holds w i v (Getting key at) j s n h e y = same_holds w i v (Getting key at) j s n e refl (h.stood i j s y)
work_holds w i v (Changing kept at) j s n h e y = same_holds w i v (Changing kept at) j s n e refl (h.stood i j s y)
work_holds w i v (Enqueuing kept at) j s n h e y = same_holds w i v (Enqueuing kept at) j s n e refl (h.stood i j s y)
work_holds w i v (Dequeuing at) j s n h e y = same_holds w i v (Dequeuing at) j s n e refl (h.stood i j s y)

-- what the post has where the seat copies
phase_has : (w : World) (i : ℕ) (v : View) (phase : Phase) → HeldNeeds w i v → (w.seat i).phase ≡ phase → PhaseHas phase (counted (w.seat i).post)
phase_has w i v (Works (Keeping (LoadHeld from index))) n e = let c = n.loads from index e in record { stood = c.stood; room = c.room }
phase_has w i v (Works (Keeping (StoreHeld from index era))) n e = let c = n.stores from index era e in record { stood = c.copy.stood; room = c.copy.room }
phase_has w i v (Works (Keeping at)) n e = tt
phase_has w i v (Works work) n e = tt
phase_has w i v phase n e = tt

-- what stands at an index of the seat that steps
own_from : (w : World) (i : ℕ) (v : View) (phase : Phase) (j s : ℕ) → helps w.layout.config.scheme ≡ false → HeldNeeds w i v → Held w v → (w.seat i).phase ≡ phase → From phase (w.seat i).post (finds w i) j s → Holds (step w i) (rows_after w i v) (own_guard w.layout.config.scheme i j) s
own_from w i v Idle j s f n h e y =
    holds_kept w i v (own_guard w.layout.config.scheme i j) s n (kept_widens w i (own_guard w.layout.config.scheme i j) (keeps_at w i Idle (guard_place (own_guard w.layout.config.scheme i j)) e refl)) (h.stood i j s y)
own_from w i v (Runs why base) j s f n h e y =
    let b = n.base why base e in
    let x = finds_at w i (Runs why base) e in
    let z : stands (machine.after base (counted (w.seat i).post) (found (base_move base (w.seat i).post) (w.mem (place_in (base_move base (w.seat i).post))))).post j ≡ Some s = subst (λ (k : ℕ). stands (machine.after base (counted (w.seat i).post) k).post j ≡ Some s) x y in
    let q = base_stood v.status w.layout.config w.mem base (counted (w.seat i).post) (w.seat i).post j s f b.fits b.index (λ p. head_queued w v p n.covers.rows) z in
    holds_kept w i v (own_guard w.layout.config.scheme i j) s n (own_widens w i v why base j s f n e y (was_counted (w.mem Clock) v.status w.mem (w.seat i).post base j s q)) (was_held w i v why base j s n h e (was_counted (w.mem Clock) v.status w.mem (w.seat i).post base j s q))
own_from w i v (Scans later at) j s f n h e y =
    holds_kept w i v (own_guard w.layout.config.scheme i j) s n (kept_widens w i (own_guard w.layout.config.scheme i j) (keeps_at w i (Scans later at) (guard_place (own_guard w.layout.config.scheme i j)) e (scan_quiet w.layout.config.scheme i j at (w.seat i).post))) (h.stood i j s y)
own_from w i v (Works work) j s f n h e y = work_holds w i v work j s n h e y

own_stood : (w : World) (i : ℕ) (v : View) (j s : ℕ) → helps w.layout.config.scheme ≡ false → HeldNeeds w i v → Held w v → stands ((step w i).seat i).post j ≡ Some s → Holds (step w i) (rows_after w i v) (own_guard w.layout.config.scheme i j) s
own_stood w i v j s f n h y =
    own_from w i v (w.seat i).phase j s f n h refl (turn_from (w.seat i).phase (w.seat i).post (offered w i).desk (finds w i) j s (phase_has w i v (w.seat i).phase n refl) (subst (λ (p : Post). stands p j ≡ Some s) (stepped_post w i) y))

-- the machine of the seat that steps: what it comes to
pub out_start : (clock : ℕ) (status : ℕ → Status) (post : Post) (phase : Phase) (why : Why) (base : Base) (s : ℕ) → is_start phase ≡ true → phase ≡ Runs why base → tries_base clock status post base s ≡ true → false ≡ true
out_start clock status post phase why base s st e h =
    let b : starts_base base ≡ true = subst (λ (p : Phase). is_start p ≡ true) e st in
    sym (start_untried clock status post base s b) ∙ h

-- what an outcome leaves
pub record Comes (clock : ℕ) (status : ℕ → Status) (post : Post) (outcome : Outcome) (base : Base) (s : ℕ) : Type 0 where
  pub tried : out_tries clock status post outcome s ≡ true
  pub at : out_index outcome ≡ index_base base

pub same_run : (why other : Why) (one two : Base) → Runs why one ≡ Runs other two → one ≡ two
same_run why other one two e = cc

pub resumed_comes : (clock : ℕ) (status : ℕ → Status) (next : Post) (why : Why) (desk : Desk) (post : Post) (told : List Event) (outcome : Outcome) (other : Why) (base : Base) (s : ℕ) → phase_left (resumed why desk post told outcome).outcome ≡ Runs other base → tries_base clock status next base s ≡ true → Comes clock status next outcome base s
resumed_comes clock status next why desk post told (Goes one) other base s e h =
    let q = same_run why other one base e in record { tried = rw q h; at = ap index_base q }
resumed_comes clock status next why desk post told (Ends ending) other base s e h =
    absurd (no_truth (out_start clock status next (phase_left (resumed why desk post told (Ends ending)).outcome) other base s (resume_fresh why ending post desk told).starts e h))

-- the interval reaches up to the clock
whole_covers : (w : World) (i : ℕ) (v : View) (s : ℕ) → HeldNeeds w i v → publishes_rows w.layout.config.scheme ≡ false → (x : Option Interval) → eras_shown w (Whole i) ≡ x → 1 ≤ w.mem Clock → w.mem Clock ≡ upper x → is_live (v.status s) ≡ true → Covers w v (Whole i) s
whole_covers w i v s n f None e o c l = absurd (omega (arith, o, c))
whole_covers w i v s n f (Some span) e o c l = live_covers w v (Whole i) s n.roots (eras_reaches w (Whole i) span.lo span.hi s f e (omega (arith, c))) l

-- the link that a try loads is covered by the own guard
loaded_covers : (w : World) (i : ℕ) (v : View) (why : Why) (aim : Aim) (index : ℕ) (root : Root) (steps : ℕ) (at : ProtectAt) (s : ℕ) → HeldNeeds w i v → (w.seat i).phase ≡ Runs why (Protect aim index root steps at) → helps w.layout.config.scheme ≡ false → loads_link (w.mem Clock) v.status w.mem (w.seat i).post root at s ≡ true
    → Covers w v (own_guard w.layout.config.scheme i index) s
loaded_covers w i v why aim index root steps (LoadLink era tries) s n e f h =
    let b = n.base why (Protect aim index root steps (LoadLink era tries)) e in
    let l : w.mem (link_place root) ≡ s + 1 = grind (arith, nat_tests) in
    let u : under v.status root ≡ true = grind (arith, nat_tests) in
    let c : w.mem Clock ≤ era = grind (arith, nat_tests) in
    let t = try_eras w.layout.config.scheme w.layout.config.tries tries b.fits in
    let g = index_guard w.layout.config.scheme i index (eras_not_interval w.layout.config.scheme t) in
    rw g (live_covers w v (Index i index) s n.roots (eras_reaches w (Index i index) era era s (eras_not_rows w.layout.config.scheme t) (b.published aim index root steps era tries refl) c) (root_live w v root s n.roots l u))
loaded_covers w i v why aim index root steps LoadWithin s n e f h =
    let b = n.base why (Protect aim index root steps LoadWithin) e in
    let l : w.mem (link_place root) ≡ s + 1 = grind (arith, nat_tests) in
    let u : under v.status root ≡ true = grind (arith, nat_tests) in
    let c : w.mem Clock ≡ upper (w.seat i).post.span = grind (arith, nat_tests) in
    let g = interval_guard w.layout.config.scheme i index b.fits in
    rw g (whole_covers w i v s n (interval_not_rows w.layout.config.scheme b.fits) (w.seat i).post.span (n.spans b.fits) n.some c (root_live w v root s n.roots l u))
loaded_covers w i v why aim index root steps (LoadClock tries) s n e f h = absurd (cc)
loaded_covers w i v why aim index root steps (PublishEra era tries) s n e f h = absurd (cc)
loaded_covers w i v why aim index root steps (CheckClock era tries link) s n e f h = absurd (cc)
loaded_covers w i v why aim index root steps PublishRequest s n e f h = absurd (cc)
loaded_covers w i v why aim index root steps LoadOwnClock s n e f h = absurd (cc)
loaded_covers w i v why aim index root steps (PublishHelper first era last) s n e f h = absurd (cc)
loaded_covers w i v why aim index root steps (LoadOwnLink first era last) s n e f h = absurd (cc)
loaded_covers w i v why aim index root steps (CheckOwnClock first era last link) s n e f h = absurd (cc)
loaded_covers w i v why aim index root steps (AnswerOwn first era link) s n e f h = absurd (cc)
loaded_covers w i v why aim index root steps (LoadAnswer first) s n e f h = absurd (cc)
loaded_covers w i v why aim index root steps (TakeAnswer link era) s n e f h = absurd (cc)
loaded_covers w i v why aim index root steps (WithdrawRequest link era) s n e f h = absurd (cc)
loaded_covers w i v why aim index root steps (WithdrawHelper link era) s n e f h = absurd (cc)
loaded_covers w i v why aim index root steps (CheckUpper link) s n e f h = absurd (cc)
loaded_covers w i v why aim index root steps (RaiseUpper era) s n e f h = absurd (cc)
loaded_covers w i v why aim index root steps (ByHazard at) s n e f h = again_covers w i v aim index root steps at s n (n.base why (Protect aim index root steps (ByHazard at)) e) h

-- a try of the seat that steps
tried_holds : (w : World) (i : ℕ) (v : View) (why : Why) (aim : Aim) (index : ℕ) (root : Root) (steps : ℕ) (at : ProtectAt) (s : ℕ) → HeldNeeds w i v → Held w v → (w.seat i).phase ≡ Runs why (Protect aim index root steps at) → helps w.layout.config.scheme ≡ false → (tries_protect (w.mem Clock) v.status (w.seat i).post root at s ≡ true) ⊎ (loads_link (w.mem Clock) v.status w.mem (w.seat i).post root at s ≡ true)
    → Holds (step w i) (rows_after w i v) (own_guard w.layout.config.scheme i index) s
tried_holds w i v why aim index root steps at s n h e f (inl x) =
    let b = n.base why (Protect aim index root steps at) e in
    holds_kept w i v (own_guard w.layout.config.scheme i index) s n (quiet_widens w i why (Protect aim index root steps at) index f e b.fits (tried_quiet (w.mem Clock) v.status (w.seat i).post root at s x)) (h.tried i why (Protect aim index root steps at) s e x)
tried_holds w i v why aim index root steps at s n h e f (inr x) =
    let b = n.base why (Protect aim index root steps at) e in
    holds_kept w i v (own_guard w.layout.config.scheme i index) s n (quiet_widens w i why (Protect aim index root steps at) index f e b.fits (loaded_quiet (w.mem Clock) v.status w.mem (w.seat i).post root at s x)) (record { fits = b.guard; covers = loaded_covers w i v why aim index root steps at s n e f x })

-- a protection comes to a try
pub follows_next : (aim : Aim) (index : ℕ) (root : Root) (steps : ℕ) (at : ProtectAt) → Followed (Protect aim index root steps at) → aim ≡ Follows → root ≡ roots.Next (parent_of root)
follows_next Alone index root steps at f e = absurd (cc)
follows_next Follows index root steps at f e = f

pub counted_tries : (clock : ℕ) (status : ℕ → Status) (mem : Place → ℕ) (post : Post) (root : Root) (at : ProtectAt) (s : ℕ) → (tries_protect clock status (counted post) root at s ≡ true) ⊎ (loads_link clock status mem (counted post) root at s ≡ true) → (tries_protect clock status post root at s ≡ true) ⊎ (loads_link clock status mem post root at s ≡ true)
counted_tries clock status mem post root (LoadClock tries) s h = h
counted_tries clock status mem post root (PublishEra era tries) s h = h
counted_tries clock status mem post root (LoadLink era tries) s h = h
counted_tries clock status mem post root (CheckClock era tries link) s h = h
counted_tries clock status mem post root PublishRequest s h = h
counted_tries clock status mem post root LoadOwnClock s h = h
counted_tries clock status mem post root (PublishHelper first era last) s h = h
counted_tries clock status mem post root (LoadOwnLink first era last) s h = h
counted_tries clock status mem post root (CheckOwnClock first era last link) s h = h
counted_tries clock status mem post root (AnswerOwn first era link) s h = h
counted_tries clock status mem post root (LoadAnswer first) s h = h
counted_tries clock status mem post root (TakeAnswer link era) s h = h
counted_tries clock status mem post root (WithdrawRequest link era) s h = h
counted_tries clock status mem post root (WithdrawHelper link era) s h = h
counted_tries clock status mem post root LoadWithin s h = h
counted_tries clock status mem post root (CheckUpper link) s h = h
counted_tries clock status mem post root (RaiseUpper era) s h = h
counted_tries clock status mem post root (ByHazard at) s h = h

-- what comes of a machine's step
pub turn_out : (w : World) (i : ℕ) (reason : Why) (one : Base) (why : Why) (base : Base) (clock : ℕ) (status : ℕ → Status) (s : ℕ)
    → phase_left (phase_turn (Runs reason one) (counted (w.seat i).post) (offered w i).desk (finds w i)).outcome ≡ Runs why base
    → tries_base clock status ((step w i).seat i).post base s ≡ true
    → Comes clock status ((step w i).seat i).post (machine.after one (counted (w.seat i).post) (finds w i)).outcome base s
turn_out w i reason one why base clock status s o t =
    let u : Turn = machine.after one (counted (w.seat i).post) (finds w i) in
    resumed_comes clock status ((step w i).seat i).post reason (offered w i).desk u.post u.told u.outcome why base s o t

pub other_comes : (clock : ℕ) (status : ℕ → Status) (next post : Post) (one base : Base) (x s : ℕ) → is_protect one ≡ false → Comes clock status next (machine.after one post x).outcome base s → false ≡ true
other_comes clock status next post one base x s p c = sym (other_tries clock status one post next x s p) ∙ c.tried

-- a protection that loads or checks leaves the clock and the rows
pub protect_stays : (w : World) (i : ℕ) (why : Why) (aim : Aim) (index : ℕ) (root : Root) (steps : ℕ) (at : ProtectAt) → (w.seat i).phase ≡ Runs why (Protect aim index root steps at) → (step w i).mem Clock ≡ w.mem Clock
protect_stays w i why aim index root steps at e =
    ap (λ (m : memory.Move). written w.mem m Clock) (move_is w i (Runs why (Protect aim index root steps at)) e) ∙ protect_clock w.mem index root at (w.seat i).post

pub protect_rows : (w : World) (i : ℕ) (v : View) (why : Why) (aim : Aim) (index : ℕ) (root : Root) (steps : ℕ) (at : ProtectAt) → (w.seat i).phase ≡ Runs why (Protect aim index root steps at) → rows_after w i v ≡ v
protect_rows w i v why aim index root steps at e = ap (λ (p : Phase). made i v (row_move p (w.seat i).post (finds w i))) e

-- under 2GE a link is loaded with the interval that stands
load_span : (w : World) (i : ℕ) (why : Why) (aim : Aim) (index : ℕ) (root : Root) (steps : ℕ) (at : ProtectAt) → (w.seat i).phase ≡ Runs why (Protect aim index root steps at) → at ≡ LoadWithin → ((step w i).seat i).post.span ≡ (w.seat i).post.span
load_span w i why aim index root steps at e q =
    let z : (w.seat i).phase ≡ Runs why (Protect aim index root steps LoadWithin) = subst (λ (a : ProtectAt). (w.seat i).phase ≡ Runs why (Protect aim index root steps a)) q e in
    ap (λ (p : Post). p.span) (turned_post w i (Runs why (Protect aim index root steps LoadWithin)) z)

protect_comes : (w : World) (i : ℕ) (v : View) (why : Why) (aim : Aim) (index : ℕ) (root : Root) (steps : ℕ) (at : ProtectAt) (base : Base) (s : ℕ) → HeldNeeds w i v → Held w v → (w.seat i).phase ≡ Runs why (Protect aim index root steps at) → helps w.layout.config.scheme ≡ false
    → Comes (w.mem Clock) v.status ((step w i).seat i).post (machine.after (Protect aim index root steps at) (counted (w.seat i).post) (finds w i)).outcome base s
    → Holds (step w i) (rows_after w i v) (own_guard w.layout.config.scheme i (index_base base)) s
protect_comes w i v why aim index root steps at base s n h e f c =
    let b = n.base why (Protect aim index root steps at) e in
    let x = finds_at w i (Runs why (Protect aim index root steps at)) e in
    let z : Comes (w.mem Clock) v.status ((step w i).seat i).post (machine.after (Protect aim index root steps at) (counted (w.seat i).post) (found (protect_move index root at (w.seat i).post) (w.mem (place_in (protect_move index root at (w.seat i).post))))).outcome base s = subst (λ (k : ℕ). Comes (w.mem Clock) v.status ((step w i).seat i).post (machine.after (Protect aim index root steps at) (counted (w.seat i).post) k).outcome base s) x c in
    let g = protect_tries (w.mem Clock) v.status w.layout.config.scheme w.layout.config.tries w.mem aim index root (bump steps) at (counted (w.seat i).post) (w.seat i).post ((step w i).seat i).post s refl f b.fits (follows_next aim index root steps at b.followed) (load_span w i why aim index root steps at e) z.tried in
    rw (sym z.at ∙ g.0) (tried_holds w i v why aim index root steps at s n h e f (counted_tries (w.mem Clock) v.status w.mem (w.seat i).post root at s g.1))

run_comes : (w : World) (i : ℕ) (v : View) (reason : Why) (one : Base) (why : Why) (base : Base) (s : ℕ) → HeldNeeds w i v → Held w v → helps w.layout.config.scheme ≡ false → (w.seat i).phase ≡ Runs reason one
    → phase_left (phase_turn (Runs reason one) (counted (w.seat i).post) (offered w i).desk (finds w i)).outcome ≡ Runs why base
    → tries_base ((step w i).mem Clock) (rows_after w i v).status ((step w i).seat i).post base s ≡ true
    → Holds (step w i) (rows_after w i v) (own_guard w.layout.config.scheme i (index_base base)) s
run_comes w i v reason (Protect aim index root steps at) why base s n h f e o t =
    let c = protect_stays w i reason aim index root steps at e in
    let r = protect_rows w i v reason aim index root steps at e in
    let t1 : tries_base (w.mem Clock) (rows_after w i v).status ((step w i).seat i).post base s ≡ true = subst (λ (k : ℕ). tries_base k (rows_after w i v).status ((step w i).seat i).post base s ≡ true) c t in
    let t2 : tries_base (w.mem Clock) v.status ((step w i).seat i).post base s ≡ true = subst (λ (y : View). tries_base (w.mem Clock) y.status ((step w i).seat i).post base s ≡ true) r t1 in
    protect_comes w i v reason aim index root steps at base s n h e f (turn_out w i reason (Protect aim index root steps at) why base (w.mem Clock) v.status s o t2)
run_comes w i v reason (Begin at) why base s n h f e o t =
    absurd (no_truth (other_comes ((step w i).mem Clock) (rows_after w i v).status ((step w i).seat i).post (counted (w.seat i).post) (Begin at) base (finds w i) s refl (turn_out w i reason (Begin at) why base ((step w i).mem Clock) (rows_after w i v).status s o t)))
run_comes w i v reason (Reload parent index slot era steps) why base s n h f e o t =
    absurd (no_truth (other_comes ((step w i).mem Clock) (rows_after w i v).status ((step w i).seat i).post (counted (w.seat i).post) (Reload parent index slot era steps) base (finds w i) s refl (turn_out w i reason (Reload parent index slot era steps) why base ((step w i).mem Clock) (rows_after w i v).status s o t)))
run_comes w i v reason (Clear rows index) why base s n h f e o t =
    absurd (no_truth (other_comes ((step w i).mem Clock) (rows_after w i v).status ((step w i).seat i).post (counted (w.seat i).post) (Clear rows index) base (finds w i) s refl (turn_out w i reason (Clear rows index) why base ((step w i).mem Clock) (rows_after w i v).status s o t)))
run_comes w i v reason Finish why base s n h f e o t =
    absurd (no_truth (other_comes ((step w i).mem Clock) (rows_after w i v).status ((step w i).seat i).post (counted (w.seat i).post) Finish base (finds w i) s refl (turn_out w i reason Finish why base ((step w i).mem Clock) (rows_after w i v).status s o t)))
run_comes w i v reason (Release index) why base s n h f e o t =
    absurd (no_truth (other_comes ((step w i).mem Clock) (rows_after w i v).status ((step w i).seat i).post (counted (w.seat i).post) (Release index) base (finds w i) s refl (turn_out w i reason (Release index) why base ((step w i).mem Clock) (rows_after w i v).status s o t)))
run_comes w i v reason (Allocate at) why base s n h f e o t =
    absurd (no_truth (other_comes ((step w i).mem Clock) (rows_after w i v).status ((step w i).seat i).post (counted (w.seat i).post) (Allocate at) base (finds w i) s refl (turn_out w i reason (Allocate at) why base ((step w i).mem Clock) (rows_after w i v).status s o t)))
run_comes w i v reason (Write slot row place) why base s n h f e o t =
    absurd (no_truth (other_comes ((step w i).mem Clock) (rows_after w i v).status ((step w i).seat i).post (counted (w.seat i).post) (Write slot row place) base (finds w i) s refl (turn_out w i reason (Write slot row place) why base ((step w i).mem Clock) (rows_after w i v).status s o t)))
run_comes w i v reason (GiveUp slot) why base s n h f e o t =
    absurd (no_truth (other_comes ((step w i).mem Clock) (rows_after w i v).status ((step w i).seat i).post (counted (w.seat i).post) (GiveUp slot) base (finds w i) s refl (turn_out w i reason (GiveUp slot) why base ((step w i).mem Clock) (rows_after w i v).status s o t)))
run_comes w i v reason (Retire at) why base s n h f e o t =
    absurd (no_truth (other_comes ((step w i).mem Clock) (rows_after w i v).status ((step w i).seat i).post (counted (w.seat i).post) (Retire at) base (finds w i) s refl (turn_out w i reason (Retire at) why base ((step w i).mem Clock) (rows_after w i v).status s o t)))
run_comes w i v reason (Move at) why base s n h f e o t =
    absurd (no_truth (other_comes ((step w i).mem Clock) (rows_after w i v).status ((step w i).seat i).post (counted (w.seat i).post) (Move at) base (finds w i) s refl (turn_out w i reason (Move at) why base ((step w i).mem Clock) (rows_after w i v).status s o t)))

-- the turn of the seat that steps comes to a try
turn_comes : (w : World) (i : ℕ) (v : View) (phase : Phase) (why : Why) (base : Base) (s : ℕ) → HeldNeeds w i v → Held w v → helps w.layout.config.scheme ≡ false → (w.seat i).phase ≡ phase
    → phase_left (phase_turn phase (counted (w.seat i).post) (offered w i).desk (finds w i)).outcome ≡ Runs why base
    → tries_base ((step w i).mem Clock) (rows_after w i v).status ((step w i).seat i).post base s ≡ true
    → Holds (step w i) (rows_after w i v) (own_guard w.layout.config.scheme i (index_base base)) s
turn_comes w i v Idle why base s n h f e o t = absurd (cc)
turn_comes w i v (Scans later at) why base s n h f e o t =
    absurd (no_truth (out_start ((step w i).mem Clock) (rows_after w i v).status ((step w i).seat i).post (phase_left (scan_turn later at (counted (w.seat i).post) (offered w i).desk (finds w i)).outcome) why base s (scan_starts later at (counted (w.seat i).post) (offered w i).desk (finds w i)) o t))
turn_comes w i v (Works work) why base s n h f e o t =
    absurd (no_truth (sym (start_untried ((step w i).mem Clock) (rows_after w i v).status ((step w i).seat i).post base s (works_start work (counted (w.seat i).post) (offered w i).desk (finds w i) why base o)) ∙ t))
turn_comes w i v (Runs reason one) why base s n h f e o t = run_comes w i v reason one why base s n h f e o t

own_tried : (w : World) (i : ℕ) (v : View) (why : Why) (base : Base) (s : ℕ) → helps w.layout.config.scheme ≡ false → HeldNeeds w i v → Held w v → ((step w i).seat i).phase ≡ Runs why base → tries_base ((step w i).mem Clock) (rows_after w i v).status ((step w i).seat i).post base s ≡ true
    → Holds (step w i) (rows_after w i v) (own_guard w.layout.config.scheme i (index_base base)) s
own_tried w i v why base s f n h e t = turn_comes w i v (w.seat i).phase why base s n h f refl (sym (stepped_phase w i) ∙ e) t

-- the other seats
other_keeps : (w : World) (i k j : ℕ) (v : View) (phase : Phase) → (k == i) ≡ false → helps w.layout.config.scheme ≡ false → HeldNeeds w i v → (w.seat i).phase ≡ phase → keeps (phase_move phase (w.seat i).post) (guard_place (own_guard w.layout.config.scheme k j)) ≡ true
other_keeps w i k j v Idle o f n e = refl
other_keeps w i k j v (Runs why base) o f n e = base_other w.layout.config.scheme k j w.layout.config base (w.seat i).post f (n.base why base e).fits (rw n.seat o)
other_keeps w i k j v (Scans later at) o f n e = scan_quiet w.layout.config.scheme k j at (w.seat i).post
other_keeps w i k j v (Works work) o f n e = let a : (k == (w.seat i).post.seat) ≡ false = rw n.seat o in work_quiet w.layout.config.scheme k j work (w.seat i).post (rw a refl)

other_holds : (w : World) (i k j : ℕ) (v : View) (s : ℕ) → (k == i) ≡ false → helps w.layout.config.scheme ≡ false → HeldNeeds w i v → Holds w v (own_guard w.layout.config.scheme k j) s → Holds (step w i) (rows_after w i v) (own_guard w.layout.config.scheme k j) s
other_holds w i k j v s o f n h = holds_kept w i v (own_guard w.layout.config.scheme k j) s n (kept_widens w i (own_guard w.layout.config.scheme k j) (other_keeps w i k j v (w.seat i).phase o f n refl)) h

parent_back : (w : World) (i k : ℕ) (v : View) (why : Why) (base : Base) (p : ℕ) → HeldNeeds w i v → Held w v → (w.seat k).phase ≡ Runs why base → follows_row base p ≡ true → in_queue ((rows_after w i v).status p) ≡ true → in_queue (v.status p) ≡ true
parent_back w i k v why base p n h e r q =
    let c = (h.stood k 0 p (n.parents k why base p e r)).covers in
    queued_back i v (row_move (w.seat i).phase (w.seat i).post (finds w i)) p (before_at w i v n.covers) c.settled q

other_tried : (w : World) (i k : ℕ) (v : View) (why : Why) (base : Base) (s : ℕ) → (k == i) ≡ false → helps w.layout.config.scheme ≡ false → HeldNeeds w i v → Held w v → (w.seat k).phase ≡ Runs why base → tries_base ((step w i).mem Clock) (rows_after w i v).status (w.seat k).post base s ≡ true
    → Holds (step w i) (rows_after w i v) (own_guard w.layout.config.scheme k (index_base base)) s
other_tried w i k v why base s o f n h e t =
    other_holds w i k (index_base base) v s o f n (h.tried k why base s e (tries_back (w.mem Clock) ((step w i).mem Clock) v.status (rows_after w i v).status (w.seat k).post base s n.clock (n.eras k why base e) (λ p r q. parent_back w i k v why base p n h e r q) t))

-- each seat, by whether it is the one that steps
stood_at : (w : World) (i k j s : ℕ) (v : View) (own : Bool) → (k == i) ≡ own → helps w.layout.config.scheme ≡ false → HeldNeeds w i v → Held w v → stands ((step w i).seat k).post j ≡ Some s → Holds (step w i) (rows_after w i v) (own_guard w.layout.config.scheme k j) s
stood_at w i k j s v true o f n h y =
    let q : k ≡ i = grind (arith, nat_tests) in
    subst (λ (m : ℕ). stands ((step w i).seat m).post j ≡ Some s → Holds (step w i) (rows_after w i v) (own_guard w.layout.config.scheme m j) s) (sym q) (own_stood w i v j s f n h) y
stood_at w i k j s v false o f n h y =
    other_holds w i k j v s o f n (h.stood k j s (subst (λ (l : Local). stands l.post j ≡ Some s) (seat_stays w i k o) y))

tried_at : (w : World) (i k : ℕ) (v : View) (why : Why) (base : Base) (s : ℕ) (own : Bool) → (k == i) ≡ own → helps w.layout.config.scheme ≡ false → HeldNeeds w i v → Held w v → ((step w i).seat k).phase ≡ Runs why base → tries_base ((step w i).mem Clock) (rows_after w i v).status ((step w i).seat k).post base s ≡ true
    → Holds (step w i) (rows_after w i v) (own_guard w.layout.config.scheme k (index_base base)) s
tried_at w i k v why base s true o f n h e t =
    let q : k ≡ i = grind (arith, nat_tests) in
    subst (λ (m : ℕ). ((step w i).seat m).phase ≡ Runs why base → tries_base ((step w i).mem Clock) (rows_after w i v).status ((step w i).seat m).post base s ≡ true → Holds (step w i) (rows_after w i v) (own_guard w.layout.config.scheme m (index_base base)) s) (sym q) (own_tried w i v why base s f n h) e t
tried_at w i k v why base s false o f n h e t =
    other_tried w i k v why base s o f n h (sym (ap (λ (l : Local). l.phase) (seat_stays w i k o)) ∙ e) (subst (λ (l : Local). tries_base ((step w i).mem Clock) (rows_after w i v).status l.post base s ≡ true) (seat_stays w i k o) t)

pub held_kept : HeldKept
held_kept w i v f n h = record {
  stood = λ k j s y. stood_at w i k j s v (k == i) refl f n h y;
  tried = λ k why base s e t. tried_at w i k v why base s (k == i) refl f n h e t;
}
