-- A covered row stays covered, and no scan gives it back.
use Rattle.std.proofs.Common.{ℕ, zero, suc, ◌+◌, ◌-◌, ◌<◌, ◌≡◌, ◌∙◌, sym, subst, ap, true, false, arith, refl, Bool, List, [], ◌∷◌, nat_lt}
use Rattle.std.proofs.lemmas.Bool.Decides.{nat_tests}
use Rattle.std.specs.Prelude.{◌==◌, if◌then◌else◌}
use Rattle.inv_rows.specs.words.declared.layout.Layout.{Layout}
use Rattle.inv_rows.specs.words.Place.{Place, claim_word}
use Rattle.inv_rows.specs.words.Place.Place.{Clock, Bucket, Head, Claim, Row}
use Rattle.inv_rows.specs.words.declared.config.Config.{Config}
use Rattle.inv_rows.specs.defs.declared.event.Guard.{Guard}
use Rattle.inv_rows.specs.defs.declared.lifetime.Lifetime.{Lifetime}
use Rattle.inv_rows.specs.defs.declared.shown.Shown.{Shown}
use Rattle.inv_rows.specs.defs.Shown.{Seen, keeps, keeps_any}
use Rattle.inv_rows.specs.model.declared.post.Post.{Post}
use Rattle.inv_rows.specs.model.Desks.{Desk, Report, noting}
use Rattle.inv_rows.specs.model.Guards.{guards, guard_at, guard_place, published}
use Rattle.inv_rows.specs.model.Memory.{found, place_in}
use Rattle.inv_rows.specs.model.Posts.{counted}
use Rattle.inv_rows.specs.model.Phases.{Base, Turn, Outcome, Goes, Ends}
use Rattle.inv_rows.specs.model.Phases.AllocateAt.{LoadBirth, ClaimSlot, StoreLife}
use Rattle.inv_rows.specs.model.Phases.RetireAt.{LoadLife, LoadRetire, StoreRetired}
use Rattle.inv_rows.specs.model.Phases.Base.{Begin, Protect, Reload, Clear, Finish, Release, Allocate, Write, GiveUp, Retire, Move}
use Rattle.inv_rows.specs.model.Allocate.{is_claimed}
use Rattle.inv_rows.specs.model.Change.{changed_bucket}
use Rattle.inv_rows.specs.defs.declared.event.Event.{Event}
use Rattle.inv_rows.specs.model.Machine as machine
use Rattle.inv_rows.specs.model.Steps.{phase_turn, phase_move, resumed, run_turn, work_turn, first_phase}
use Rattle.inv_rows.specs.defs.declared.call.Call.{Call}
use Rattle.inv_rows.specs.model.Calls.{AfterScan, ScanAt, ReadGuard, GiveBack, Why, LoadVersion, LoadCount, LoadKey, LoadValue, ExchangeRoot, LoadNumber, LoadNext, PassTail, ExchangeNext, ExchangeTail, LoadTail, SwingTail, TakeNumber, TakeValue, ExchangeHead, Work, Getting, Changing, Enqueuing, Dequeuing, Keeping, Phase, Idle, Runs, Scans, Works, CallTurn, CallOutcome, GoesOn, Answers, KeepAt, Loosens, TakeList, LoadHeld, StoreHeld, Looks, Misses, HideSpan, MarkLeft, MarkTaken}
use Rattle.inv_rows.specs.model.Locals.{begun, begun_post, Local, turn, after, settled, settled_by, told_by, rounds_told, busy_in}
use Rattle.inv_rows.specs.model.World.{World, step, finds, list_in, offered}
use Rattle.inv_rows.specs.Rows.{View, Good, RowMove, made, is_settled, Adopts}
use Rattle.inv_rows.specs.Rows.Status.{Listed}
use Rattle.inv_rows.specs.Rows.RowMove.{Stays, Claims, Bears, Drops, Links, Replaces, Appends, Pops, Reads, Seals, Lists, Returns}
use Rattle.inv_rows.specs.Hands.{in_list, stands_at, base_row, work_row, scan_row, row_move, keep_row}
use Rattle.inv_rows.specs.Agree.{Plays, rows_after, Agree}
use Rattle.inv_rows.specs.Shapes.Frame.{phase_left}
use Rattle.inv_rows.proofs.Shapes.Frame.{seat_stays, seat_steps}
use Rattle.inv_rows.proofs.Fits.{MoveFits, phase_fits}
use Rattle.inv_rows.specs.Covering.Covers.{NotBefore, Late, frees, takes_or_frees, has_met, life_of, life_in, number_of, shown, Covers, unmet_at, is_unmet, is_fresh, GuardFits, CoversNeeds, NotReused, CoversKept, ScansStart, ScansBegin, ScansKept}
use Rattle.inv_rows.proofs.Covering.Fresh.{works_fresh, resume_fresh, first_begins}
use Rattle.inv_rows.proofs.Covering.Rows.{past_kept, life_kept, birth_kept, listed_other}
use Rattle.inv_rows.proofs.Covering.Scans.{fresh_met, fresh_unmet, scan_met, scan_unmet_kept}
use Rattle.inv_rows.proofs.model.Facts.{no_truth}
use Rattle.inv_rows.specs.model.Keep.{keep_move}
use Rattle.inv_rows.specs.words.Schemes.{publishes_rows}
use Rattle.inv_rows.specs.model.Rounds.{scheme_of}

-- an entry that goes back: its life meets nothing that was read
record Goes_back (read : List Seen) (list : List Lifetime) (slot : ℕ) : Type 0 where
  birth : ℕ
  retire : ℕ
  listed : in_list list slot birth retire ≡ true
  unmet : keeps_any (life_of slot birth retire) read ≡ false

same_life : (life : Lifetime) (slot : ℕ) → (life.slot == slot) ≡ true → life ≡ life_of slot life.birth life.retire
same_life life slot h = let e : life.slot ≡ slot = grind (arith, nat_tests) in subst (λ (s : ℕ). life ≡ life_of s life.birth life.retire) e refl

entry_unmet : (read : List Seen) (list : List Lifetime) (place slot : ℕ) → stands_at list place slot ≡ true → unmet_at read list place ≡ true → Goes_back read list slot
entry_unmet read [] zero slot h u = absurd (cc)
entry_unmet read [] (suc place) slot h u = absurd (cc)
entry_unmet read (life ∷ lives) zero slot h u = record {
  birth = life.birth;
  retire = life.retire;
  listed = grind (arith, nat_tests);
  unmet = subst (λ (l : Lifetime). keeps_any l read ≡ false) (same_life life slot h) (grind (arith, nat_tests));
}
entry_unmet read (life ∷ lives) (suc place) slot h u =
    let e = entry_unmet read lives place slot h u in
    record { birth = e.birth; retire = e.retire; listed = grind (arith, nat_tests, e.listed); unmet = e.unmet }

-- the row that a scan gives back is not covered
back_other : (slots i : ℕ) (v : View) (all number : ℕ) (later : AfterScan) (place slot s : ℕ) (desk : Desk) → Good slots v → Plays i (Scans later (GiveBack place slot)) desk.list v → unmet_at desk.report.read desk.list place ≡ true → number < all
    → ((k r : ℕ) → v.status s ≡ Listed k r → k ≡ i → has_met all (Scans later (GiveBack place slot)) desk.report number (life_of s (v.birth s) r) ≡ true) → (s == slot) ≡ false
back_other slots i v all number later place slot s desk g p u b c = by_same (s == slot) refl where
  by_same : (same : Bool) → (s == slot) ≡ same → same ≡ false
  by_same false e = refl
  by_same true e =
      let is : s ≡ slot = grind (arith, nat_tests) in
      let x = entry_unmet desk.report.read desk.list place slot p.right u in
      let l : v.lists i slot x.birth x.retire ≡ true = p.lists slot x.birth x.retire ∙ x.listed in
      let st : v.status slot ≡ Listed i x.retire = g.listed i slot x.birth x.retire l in
      let bi : x.birth ≡ v.birth slot = g.dated i slot x.birth x.retire l in
      let st2 : v.status s ≡ Listed i x.retire = rw is st in
      let m = c i x.retire st2 refl in
      let un : keeps_any (life_of s (v.birth s) x.retire) desk.report.read ≡ false = rw (is, sym bi) x.unmet in
      grind (arith, nat_tests, m, un)

-- a move that neither takes nor frees the row, by where its row is before
moved_other : (i : ℕ) (v : View) (m : RowMove) (s : ℕ) → MoveFits i v m → is_settled (v.status s) ≡ true → ((slot : ℕ) → m ≡ Returns slot → (s == slot) ≡ false) → takes_or_frees m s ≡ false
moved_other i v Stays s b p r = refl
moved_other i v (Claims slot) s b p r = grind (arith, nat_tests)
moved_other i v (Bears slot birth) s b p r = grind (arith, nat_tests)
moved_other i v (Drops slot) s b p r = grind (arith, nat_tests)
moved_other i v (Links bucket slot) s b p r = grind (arith, nat_tests)
moved_other i v (Replaces bucket slot old) s b p r = grind (arith, nat_tests)
moved_other i v (Appends slot) s b p r = grind (arith, nat_tests)
moved_other i v (Pops slot next) s b p r = refl
moved_other i v (Reads slot birth) s b p r = refl
moved_other i v (Seals slot birth retire) s b p r = refl
moved_other i v (Lists slot birth retire) s b p r = refl
moved_other i v (Returns slot) s b p r = r slot refl
moved_other i v (Adopts from) s b p r = refl

takes_frees : (m : RowMove) (s : ℕ) → takes_or_frees m s ≡ false → frees m s ≡ false
takes_frees Stays s h = refl
takes_frees (Claims slot) s h = refl
takes_frees (Bears slot birth) s h = refl
takes_frees (Drops slot) s h = h
takes_frees (Links bucket slot) s h = refl
takes_frees (Replaces bucket slot old) s h = refl
takes_frees (Appends slot) s h = refl
takes_frees (Pops slot next) s h = refl
takes_frees (Reads slot birth) s h = refl
takes_frees (Seals slot birth retire) s h = refl
takes_frees (Lists slot birth retire) s h = refl
takes_frees (Returns slot) s h = h
takes_frees (Adopts from) s h = refl

-- only a scan gives back
claim_returns : (shown : Bool) (s slot : ℕ) → (if shown then Stays else Claims s) ≡ Returns slot → false ≡ true
claim_returns true s slot e = absurd (cc)
claim_returns false s slot e = absurd (cc)

base_returns : (base : Base) (x slot : ℕ) → base_row base x ≡ Returns slot → false ≡ true
base_returns (Begin at) x slot e = absurd (cc)
base_returns (Protect aim index root steps at) x slot e = absurd (cc)
base_returns (Reload parent index s era steps) x slot e = absurd (cc)
base_returns (Clear rows index) x slot e = absurd (cc)
base_returns Finish x slot e = absurd (cc)
base_returns (Release index) x slot e = absurd (cc)
base_returns (Allocate LoadBirth) x slot e = absurd (cc)
base_returns (Allocate (ClaimSlot birth walk)) x slot e = claim_returns (is_claimed x walk.slot) walk.slot slot e
base_returns (Allocate (StoreLife birth s)) x slot e = absurd (cc)
base_returns (Write s row place) x slot e = absurd (cc)
base_returns (GiveUp s) x slot e = absurd (cc)
base_returns (Retire (LoadLife s)) x slot e = absurd (cc)
base_returns (Retire (LoadRetire s birth)) x slot e = absurd (cc)
base_returns (Retire (StoreRetired s birth retire)) x slot e = absurd (cc)
base_returns (Move at) x slot e = absurd (cc)

change_returns : (bucket s link slot : ℕ) (same null : Bool) → (if same then (if null then Links bucket s else Replaces bucket s (link - 1)) else Stays) ≡ Returns slot → false ≡ true
change_returns bucket s link slot true true e = absurd (cc)
change_returns bucket s link slot true false e = absurd (cc)
change_returns bucket s link slot false null e = absurd (cc)

append_returns : (s slot : ℕ) (same : Bool) → (if same then Appends s else Stays) ≡ Returns slot → false ≡ true
append_returns s slot true e = absurd (cc)
append_returns s slot false e = absurd (cc)

pop_returns : (s next slot : ℕ) (same : Bool) → (if same then Pops s next else Stays) ≡ Returns slot → false ≡ true
pop_returns s next slot true e = absurd (cc)
pop_returns s next slot false e = absurd (cc)

take_returns : (place slot : ℕ) (left : Bool) → (if left then Adopts place else Stays) ≡ Returns slot → false ≡ true
take_returns place slot true e = absurd (cc)
take_returns place slot false e = absurd (cc)

keep_returns : (at : KeepAt) (x slot : ℕ) → keep_row at x ≡ Returns slot → false ≡ true
keep_returns (Loosens let_go) x slot e = absurd (cc)
keep_returns (LoadHeld from index) x slot e = absurd (cc)
keep_returns (StoreHeld from index era) x slot e = absurd (cc)
keep_returns (Looks index key at) x slot e = absurd (cc)
keep_returns (Misses index) x slot e = absurd (cc)
keep_returns HideSpan x slot e = absurd (cc)
keep_returns MarkLeft x slot e = absurd (cc)
keep_returns (MarkTaken place count) x slot e = absurd (cc)
keep_returns (TakeList place) x slot e = take_returns place slot (x == 1) e

work_returns : (work : Work) (post : Post) (x slot : ℕ) → work_row work post x ≡ Returns slot → false ≡ true
work_returns (Getting key at) post x slot e = absurd (cc)
work_returns (Changing kept (LoadVersion s)) post x slot e = absurd (cc)
work_returns (Changing kept (LoadCount s)) post x slot e = absurd (cc)
work_returns (Changing kept (LoadKey s count)) post x slot e = absurd (cc)
work_returns (Changing kept (LoadValue s count key)) post x slot e = absurd (cc)
work_returns (Changing kept (ExchangeRoot s)) post x slot e = change_returns (changed_bucket kept post) s kept.link slot (x == kept.link) (kept.link == 0) e
work_returns (Enqueuing kept LoadNumber) post x slot e = absurd (cc)
work_returns (Enqueuing kept LoadNext) post x slot e = absurd (cc)
work_returns (Enqueuing kept (PassTail next)) post x slot e = absurd (cc)
work_returns (Enqueuing kept (ExchangeNext s)) post x slot e = append_returns s slot (x == 0) e
work_returns (Enqueuing kept (ExchangeTail s)) post x slot e = absurd (cc)
work_returns (Dequeuing (LoadTail head)) post x slot e = absurd (cc)
work_returns (Dequeuing (SwingTail head next)) post x slot e = absurd (cc)
work_returns (Dequeuing (TakeNumber head next)) post x slot e = absurd (cc)
work_returns (Dequeuing (TakeValue head next number)) post x slot e = absurd (cc)
work_returns (Dequeuing (ExchangeHead head next number value)) post x slot e = pop_returns head next slot (x == head + 1) e
work_returns (Keeping at) post x slot e = keep_returns at x slot e

-- a row that is covered is not given back
returns_other : (slots i : ℕ) (v : View) (all number : ℕ) (phase : Phase) (post : Post) (x s slot : ℕ) (desk : Desk) → Good slots v → (busy_in phase ≡ true → Plays i phase desk.list v) → is_unmet phase desk ≡ true → number < all
    → ((k r : ℕ) → v.status s ≡ Listed k r → k ≡ i → has_met all phase desk.report number (life_of s (v.birth s) r) ≡ true) → row_move phase post x ≡ Returns slot → (s == slot) ≡ false
returns_other slots i v all number Idle post x s slot desk g p u b c e = absurd (cc)
returns_other slots i v all number (Runs why base) post x s slot desk g p u b c e = absurd (no_truth (base_returns base x slot e))
returns_other slots i v all number (Scans later (ReadGuard n)) post x s slot desk g p u b c e = absurd (cc)
returns_other slots i v all number (Scans later (GiveBack place t)) post x s slot desk g p u b c e =
    let o = back_other slots i v all number later place t s desk g (p refl) u b c in
    let q : t ≡ slot = cc in subst (λ (y : ℕ). (s == y) ≡ false) q o
returns_other slots i v all number (Works work) post x s slot desk g p u b c e = absurd (no_truth (work_returns work post x slot e))

-- what a World gives of a covered row
own_met : (w : World) (i : ℕ) (v : View) (guard : Guard) (s : ℕ) → Covers w v guard s → (k r : ℕ) → v.status s ≡ Listed k r → k ≡ i → has_met (guards w.layout.config) (w.seat i).phase (w.seat i).desk.report (number_of w.layout.config guard) (life_of s (v.birth s) r) ≡ true
own_met w i v guard s c k r h e = subst (λ (j : ℕ). has_met (guards w.layout.config) (w.seat j).phase (w.seat j).desk.report (number_of w.layout.config guard) (life_of s (v.birth s) r) ≡ true) e (c.scans k r h)

-- the list of a seat that is busy is its own
plays_own : (w : World) (i : ℕ) (v : View) → Agree w v → busy_in (w.seat i).phase ≡ true → Plays i (w.seat i).phase (w.seat i).desk.list v
plays_own w i v a b =
    let e : list_in w i ≡ (w.seat i).desk.list = ap (λ (n : ℕ). if nat_lt 1 n then [] else (w.seat i).desk.list) ((a.present i).here b) in
    subst (λ (list : List Lifetime). Plays i (w.seat i).phase list v) e (a.plays i)

pub before_at : (w : World) (i : ℕ) (v : View) → CoversNeeds w i v → MoveFits i v (row_move (w.seat i).phase (w.seat i).post (finds w i))
before_at w i v n = phase_fits w.layout.config.slots i w.mem v (w.seat i).phase (w.seat i).post (list_in w i) n.needs n.rows.good n.rows.words (n.rows.plays i)

pub not_reused : NotReused
not_reused w i v guard s n u f c =
    moved_other
    i
    v
    (row_move (w.seat i).phase (w.seat i).post (finds w i))
    s
    (before_at w i v n)
    c.settled
    (λ slot e. returns_other w.layout.config.slots i v (guards w.layout.config) (number_of w.layout.config guard) (w.seat i).phase (w.seat i).post (finds w i) s slot (w.seat i).desk n.rows.good (plays_own w i v n.rows) (u.unmet i) f.below (own_met w i v guard s c) e)

-- the retire era that is loaded is the clock
late_claims : (shows : Shown) (s : ℕ) (shown : Bool) → Late shows (if shown then Stays else Claims s)
late_claims shows s true = tt
late_claims shows s false = tt

late_change : (shows : Shown) (bucket s link : ℕ) (same null : Bool) → Late shows (if same then (if null then Links bucket s else Replaces bucket s (link - 1)) else Stays)
late_change shows bucket s link true true = tt
late_change shows bucket s link true false = tt
late_change shows bucket s link false null = tt

late_append : (shows : Shown) (s : ℕ) (same : Bool) → Late shows (if same then Appends s else Stays)
late_append shows s true = tt
late_append shows s false = tt

late_pop : (shows : Shown) (s next : ℕ) (same : Bool) → Late shows (if same then Pops s next else Stays)
late_pop shows s next true = tt
late_pop shows s next false = tt

late_take : (shows : Shown) (place : ℕ) (left : Bool) → Late shows (if left then Adopts place else Stays)
late_take shows place true = tt
late_take shows place false = tt

late_keep : (shows : Shown) (at : KeepAt) (x : ℕ) → Late shows (keep_row at x)
late_keep shows (TakeList place) x = late_take shows place (x == 1)
late_keep shows (Loosens let_go) x = tt
late_keep shows (LoadHeld from index) x = tt
late_keep shows (StoreHeld from index era) x = tt
late_keep shows (Looks index key at) x = tt
late_keep shows (Misses index) x = tt
late_keep shows HideSpan x = tt
late_keep shows MarkLeft x = tt
late_keep shows (MarkTaken place count) x = tt

seals_late : (shows : Shown) (mem : Place → ℕ) (phase : Phase) (post : Post) → NotBefore shows (mem Clock) → Late shows (row_move phase post (found (phase_move phase post) (mem (place_in (phase_move phase post)))))
seals_late shows mem Idle post h = tt
seals_late shows mem (Runs why (Begin at)) post h = tt
seals_late shows mem (Runs why (Protect aim index root steps at)) post h = tt
seals_late shows mem (Runs why (Reload parent index slot era steps)) post h = tt
seals_late shows mem (Runs why (Clear rows index)) post h = tt
seals_late shows mem (Runs why Finish) post h = tt
seals_late shows mem (Runs why (Release index)) post h = tt
seals_late shows mem (Runs why (Allocate LoadBirth)) post h = tt
seals_late shows mem (Runs why (Allocate (ClaimSlot birth walk))) post h = late_claims shows walk.slot (is_claimed (mem (Claim (claim_word walk.slot))) walk.slot)
seals_late shows mem (Runs why (Allocate (StoreLife birth slot))) post h = tt
seals_late shows mem (Runs why (Write slot row place)) post h = tt
seals_late shows mem (Runs why (GiveUp slot)) post h = tt
seals_late shows mem (Runs why (Retire (LoadLife slot))) post h = tt
seals_late shows mem (Runs why (Retire (LoadRetire slot birth))) post h = h
seals_late shows mem (Runs why (Retire (StoreRetired slot birth retire))) post h = tt
seals_late shows mem (Runs why (Move at)) post h = tt
seals_late shows mem (Scans later (ReadGuard n)) post h = tt
seals_late shows mem (Scans later (GiveBack place slot)) post h = tt
seals_late shows mem (Works (Getting key at)) post h = tt
seals_late shows mem (Works (Changing kept (LoadVersion s))) post h = tt
seals_late shows mem (Works (Changing kept (LoadCount s))) post h = tt
seals_late shows mem (Works (Changing kept (LoadKey s count))) post h = tt
seals_late shows mem (Works (Changing kept (LoadValue s count key))) post h = tt
seals_late shows mem (Works (Changing kept (ExchangeRoot s))) post h = late_change shows (changed_bucket kept post) s kept.link (mem (Bucket (changed_bucket kept post)) == kept.link) (kept.link == 0)
seals_late shows mem (Works (Enqueuing kept LoadNumber)) post h = tt
seals_late shows mem (Works (Enqueuing kept LoadNext)) post h = tt
seals_late shows mem (Works (Enqueuing kept (PassTail next))) post h = tt
seals_late shows mem (Works (Enqueuing kept (ExchangeNext s))) post h = late_append shows s (mem (Row kept.tail 0) == 0)
seals_late shows mem (Works (Enqueuing kept (ExchangeTail s))) post h = tt
seals_late shows mem (Works (Dequeuing (LoadTail head))) post h = tt
seals_late shows mem (Works (Dequeuing (SwingTail head next))) post h = tt
seals_late shows mem (Works (Dequeuing (TakeNumber head next))) post h = tt
seals_late shows mem (Works (Dequeuing (TakeValue head next number))) post h = tt
seals_late shows mem (Works (Dequeuing (ExchangeHead head next number value))) post h = late_pop shows head next (mem Head == head + 1)
seals_late shows mem (Works (Keeping at)) post h = late_keep shows at (found (keep_move at post) (mem (place_in (keep_move at post))))

pub resumed_fresh : (why : Why) (desk : Desk) (post : Post) (told : List Event) (outcome : Outcome) → is_fresh (phase_left (resumed why desk post told outcome).outcome) ≡ true
resumed_fresh why desk post told (Goes base) = refl
resumed_fresh why desk post told (Ends ending) = (resume_fresh why ending post desk told).fresh

run_fresh : (why : Why) (desk : Desk) (t : Turn) → is_fresh (phase_left (run_turn why desk t).outcome) ≡ true
run_fresh why desk t = resumed_fresh why desk t.post t.told t.outcome

-- what a scan knows of the life of a row that is on its list, and of the guard that it reads
record Knows (phase : Phase) (post : Post) (report : Report) (mem : Place → ℕ) (guard : Guard) (life : Lifetime) : Type 0 where
  met : has_met (guards post.layout.config) phase report (number_of post.layout.config guard) life ≡ true
  meets : keeps life (published (publishes_rows post.layout.config.scheme) guard (mem (guard_place guard))) ≡ true

read_meets : (mem : Place → ℕ) (config : Config) (guard : Guard) (n : ℕ) (life : Lifetime) → GuardFits config guard → number_of config guard ≡ n → keeps life (published (publishes_rows config.scheme) guard (mem (guard_place guard))) ≡ true → keeps life (published (publishes_rows config.scheme) (guard_at config n) (mem (guard_place (guard_at config n)))) ≡ true
read_meets mem config guard n life f e h =
    subst (λ (g : Guard). keeps life (published (publishes_rows config.scheme) g (mem (guard_place g))) ≡ true) (sym f.is ∙ ap (guard_at config) e) h

read_meets_at : (mem : Place → ℕ) (config : Config) (guard : Guard) (n m : ℕ) (life : Lifetime) → GuardFits config guard → n ≡ m → number_of config guard ≡ m → keeps life (published (publishes_rows config.scheme) guard (mem (guard_place guard))) ≡ true → keeps life (published (publishes_rows config.scheme) (guard_at config m) (mem (guard_place (guard_at config n)))) ≡ true
read_meets_at mem config guard n m life f s e h = subst (λ (k : ℕ). keeps life (published (publishes_rows config.scheme) (guard_at config m) (mem (guard_place (guard_at config k)))) ≡ true) (sym s) (read_meets mem config guard m life f e h)

-- a step of the seat whose list has the row
turn_met : (phase : Phase) (post : Post) (desk : Desk) (mem : Place → ℕ) (guard : Guard) (life : Lifetime) → GuardFits post.layout.config guard → ((later : AfterScan) (at : ScanAt) → phase ≡ Scans later at → Knows phase post desk.report mem guard life)
    → has_met (guards post.layout.config) (phase_left (phase_turn phase (counted post) desk (found (phase_move phase post) (mem (place_in (phase_move phase post))))).outcome) (phase_turn phase (counted post) desk (found (phase_move phase post) (mem (place_in (phase_move phase post))))).desk.report (number_of post.layout.config guard) life ≡ true
turn_met Idle post desk mem guard life f k = fresh_met (guards post.layout.config) Idle desk.report (number_of post.layout.config guard) life refl
turn_met (Runs why base) post desk mem guard life f k =
    let x : ℕ = found (phase_move (Runs why base) post) (mem (place_in (phase_move (Runs why base) post))) in
    let t : CallTurn = run_turn why desk (machine.after base (counted post) x) in
    fresh_met (guards post.layout.config) (phase_left t.outcome) t.desk.report (number_of post.layout.config guard) life (run_fresh why desk (machine.after base (counted post) x))
turn_met (Scans later (ReadGuard n)) post desk mem guard life f k =
    let y = k later (ReadGuard n) refl in
    scan_met later (ReadGuard n) (counted post) desk (mem (guard_place (guard_at post.layout.config n))) (number_of post.layout.config guard) life (λ m q e. let s : n ≡ m = cc in read_meets_at mem post.layout.config guard n m life f s e y.meets) y.met
turn_met (Scans later (GiveBack place slot)) post desk mem guard life f k =
    let y = k later (GiveBack place slot) refl in
    scan_met later (GiveBack place slot) (counted post) desk (found (phase_move (Scans later (GiveBack place slot)) post) (mem (place_in (phase_move (Scans later (GiveBack place slot)) post)))) (number_of post.layout.config guard) life (λ m q e. absurd (cc)) y.met
turn_met (Works work) post desk mem guard life f k =
    let x : ℕ = found (phase_move (Works work) post) (mem (place_in (phase_move (Works work) post))) in
    let t : CallTurn = work_turn work (counted post) desk x in
    fresh_met (guards post.layout.config) (phase_left t.outcome) t.desk.report (number_of post.layout.config guard) life (works_fresh work (counted post) desk x)

-- the same of the seat's state
settled_by_met : (all : ℕ) (l : Local) (post : Post) (desk : Desk) (told : List Event) (rounds number : ℕ) (life : Lifetime) (outcome : CallOutcome) → has_met all (phase_left outcome) desk.report number life ≡ true → has_met all (settled_by l post (noting desk told) rounds outcome).phase (settled_by l post (noting desk told) rounds outcome).desk.report number life ≡ true
settled_by_met all l post desk told rounds number life (GoesOn phase) h = h
settled_by_met all l post desk told rounds number life (Answers answer) h = h

settled_met : (all : ℕ) (l : Local) (t : CallTurn) (number : ℕ) (life : Lifetime) → has_met all (phase_left t.outcome) t.desk.report number life ≡ true → has_met all (settled l t).phase (settled l t).desk.report number life ≡ true
settled_met all l t number life h = settled_by_met all l t.post t.desk (told_by t) (rounds_told (publishes_rows (scheme_of t.post)) l.rounds (told_by t)) number life t.outcome h

-- a row that is on the list after a step of the scan was on it before
listed_scan : (i k r : ℕ) (v : View) (at : ScanAt) (s : ℕ) → (made i v (scan_row at)).status s ≡ Listed k r → v.status s ≡ Listed k r
listed_scan i k r v (ReadGuard n) s h = h
listed_scan i k r v (GiveBack place slot) s h = grind (arith, nat_tests)

listed_phase : (i k r : ℕ) (v : View) (phase : Phase) (post : Post) (x s : ℕ) (later : AfterScan) (at : ScanAt) → phase ≡ Scans later at → (made i v (row_move phase post x)).status s ≡ Listed k r → v.status s ≡ Listed k r
listed_phase i k r v phase post x s later at e h = listed_scan i k r v at s (rw e at h)

met_own : (w : World) (i : ℕ) (v : View) (guard : Guard) (s r : ℕ) → CoversNeeds w i v → GuardFits w.layout.config guard → Covers w v guard s → (rows_after w i v).status s ≡ Listed i r
    → has_met (guards w.layout.config) ((step w i).seat i).phase ((step w i).seat i).desk.report (number_of w.layout.config guard) (life_of s (v.birth s) r) ≡ true
met_own w i v guard s r n f c h =
    let l : Local = offered w i in
    let life : Lifetime = life_of s (v.birth s) r in
    let e : l.post.layout ≡ w.layout = n.layouts i in
    let g : GuardFits l.post.layout.config guard = subst (λ (layout : Layout). GuardFits layout.config guard) (sym e) f in
    let m = turn_met l.phase l.post l.desk w.mem guard life g (λ later at q. let st : v.status s ≡ Listed i r = listed_phase i i r v l.phase l.post (finds w i) s later at q h in record {
      met = subst (λ (layout : Layout). has_met (guards layout.config) l.phase l.desk.report (number_of layout.config guard) life ≡ true) (sym e) (c.scans i r st);
      meets = subst (λ (layout : Layout). keeps life (published (publishes_rows layout.config.scheme) guard (w.mem (guard_place guard))) ≡ true) (sym e) (rw st at c.kept);
    }) in
    let b = settled_met (guards l.post.layout.config) l (turn l (finds w i)) (number_of l.post.layout.config guard) life m in
    rw (seat_steps w i) (subst (λ (layout : Layout). has_met (guards layout.config) (after l (finds w i)).phase (after l (finds w i)).desk.report (number_of layout.config guard) life ≡ true) e b)

met_other : (w : World) (i k : ℕ) (v : View) (guard : Guard) (s r : ℕ) → (k == i) ≡ false → Covers w v guard s → (rows_after w i v).status s ≡ Listed k r
    → has_met (guards w.layout.config) ((step w i).seat k).phase ((step w i).seat k).desk.report (number_of w.layout.config guard) (life_of s (v.birth s) r) ≡ true
met_other w i k v guard s r e c h =
    rw (seat_stays w i k e) (c.scans k r (listed_other i k r v (row_move (w.seat i).phase (w.seat i).post (finds w i)) s e h))

met_at : (w : World) (i k : ℕ) (v : View) (guard : Guard) (s r : ℕ) (same : Bool) → (k == i) ≡ same → CoversNeeds w i v → GuardFits w.layout.config guard → Covers w v guard s → (rows_after w i v).status s ≡ Listed k r
    → has_met (guards w.layout.config) ((step w i).seat k).phase ((step w i).seat k).desk.report (number_of w.layout.config guard) (life_of s (v.birth s) r) ≡ true
met_at w i k v guard s r true e n f c h =
    let q : i ≡ k = grind (arith, nat_tests) in
    subst (λ (j : ℕ). (rows_after w i v).status s ≡ Listed j r → has_met (guards w.layout.config) ((step w i).seat j).phase ((step w i).seat j).desk.report (number_of w.layout.config guard) (life_of s (v.birth s) r) ≡ true) q (met_own w i v guard s r n f c) h
met_at w i k v guard s r false e n f c h = met_other w i k v guard s r e c h

pub covers_kept : CoversKept
covers_kept w i v guard s n u f wide c =
    let m : RowMove = row_move (w.seat i).phase (w.seat i).post (finds w i) in
    let b : MoveFits i v m = before_at w i v n in
    let y : (rows_after w i v).birth s ≡ v.birth s = birth_kept i v m s b c.settled in
    let late : Late (shown w guard) m = seals_late (shown w guard) w.mem (w.seat i).phase (w.seat i).post (n.eras guard) in
    let free : frees m s ≡ false = takes_frees m s (not_reused w i v guard s n u f c) in
    record {
      settled = past_kept i v m s b free c.settled;
      kept = wide (life_in (rows_after w i v) s) (life_kept i v m s (shown w guard) b late free c.settled c.kept);
      scans = λ k r h. rw y (met_at w i k v guard s r (k == i) refl n f c h);
    }

-- what a scan gives back, over a step
turn_unmet : (phase : Phase) (post : Post) (desk : Desk) (x : ℕ) → is_unmet (phase_left (phase_turn phase post desk x).outcome) (phase_turn phase post desk x).desk ≡ true
turn_unmet Idle post desk x = refl
turn_unmet (Runs why base) post desk x = fresh_unmet (phase_left (run_turn why desk (machine.after base post x)).outcome) (run_turn why desk (machine.after base post x)).desk (run_fresh why desk (machine.after base post x))
turn_unmet (Scans later at) post desk x = scan_unmet_kept later at post desk x
turn_unmet (Works work) post desk x = fresh_unmet (phase_left (work_turn work post desk x).outcome) (work_turn work post desk x).desk (works_fresh work post desk x)

noted_unmet : (phase : Phase) (desk : Desk) (told : List Event) → is_unmet phase desk ≡ true → is_unmet phase (noting desk told) ≡ true
noted_unmet Idle desk told h = refl
noted_unmet (Runs why base) desk told h = refl
noted_unmet (Scans later (ReadGuard n)) desk told h = refl
noted_unmet (Scans later (GiveBack place slot)) desk told h = h
noted_unmet (Works work) desk told h = refl

settled_by_unmet : (l : Local) (post : Post) (desk : Desk) (rounds : ℕ) (outcome : CallOutcome) → is_unmet (phase_left outcome) desk ≡ true → is_unmet (settled_by l post desk rounds outcome).phase (settled_by l post desk rounds outcome).desk ≡ true
settled_by_unmet l post desk rounds (GoesOn phase) h = h
settled_by_unmet l post desk rounds (Answers answer) h = h

settled_unmet : (l : Local) (t : CallTurn) → is_unmet (phase_left t.outcome) t.desk ≡ true → is_unmet (settled l t).phase (settled l t).desk ≡ true
settled_unmet l t h = settled_by_unmet l t.post (noting t.desk (told_by t)) (rounds_told (publishes_rows (scheme_of t.post)) l.rounds (told_by t)) t.outcome (noted_unmet (phase_left t.outcome) t.desk (told_by t) h)

abbrev UnmetOf : Local → Type 0
UnmetOf l = is_unmet l.phase l.desk ≡ true

unmet_pick : (old new : Local) (same : Bool) → UnmetOf old → UnmetOf new → UnmetOf (if same then new else old)
unmet_pick old new true a b = b
unmet_pick old new false a b = a

pub scans_kept : ScansKept
scans_kept w i u = record {
  unmet = λ k. unmet_pick (w.seat k) (after (offered w i) (finds w i)) (k == i) (u.unmet k) (settled_unmet (offered w i) (turn (offered w i) (finds w i)) (turn_unmet (w.seat i).phase (counted (w.seat i).post) (offered w i).desk (finds w i)));
}

pub scans_start : ScansStart
scans_start layout = record { unmet = λ k. refl }

first_unmet : (call : Call) (post : Post) (desk : Desk) → is_unmet (first_phase call post) desk ≡ true
first_unmet call post desk = fresh_unmet (first_phase call post) desk (first_begins call post).fresh

pub scans_begin : ScansBegin
scans_begin w i call u = record {
  unmet = λ k. unmet_pick (w.seat k) (begun (w.seat i) call) (k == i) (u.unmet k) (first_unmet call (begun_post (w.seat i).post) (begun (w.seat i) call).desk);
}
