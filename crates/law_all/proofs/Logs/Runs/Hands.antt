-- A seat leaves its list once at most, and on a list with which another was taken over each slot is once.
use Rattle.std.proofs.Common.{ℕ, ◌≡◌, ◌<◌, Bool, true, false, List, [], ◌∷◌, length, refl, sym, ap, ◌∙◌, subst}
use Rattle.std.specs.Prelude.{◌==◌, not, nat_lt}
use Rattle.law_all.specs.inv.model.words.Place.{is_valid}
use Rattle.law_all.specs.inv.model.words.Place.Place.{PlaceOf}
use Rattle.law_all.specs.inv.model.words.declared.layout.Layout.{Layout}
use Rattle.law_all.specs.inv.model.defs.declared.call.Call.{Call}
use Rattle.law_all.specs.inv.model.defs.declared.event.Event.{Event}
use Rattle.law_all.specs.inv.model.defs.declared.event.Event.TheVariants as events
use Rattle.law_all.specs.inv.model.declared.post.Post.{Post}
use Rattle.law_all.specs.inv.model.Calls.{KeepAt, Loosens, LoadHeld, StoreHeld, Looks, Misses, HideSpan, MarkLeft, TakeList, MarkTaken, Phase, Idle, Runs, Scans, Works, Getting, Changing, Enqueuing, Dequeuing, Keeping}
use Rattle.law_all.specs.inv.model.Desks.{Desk}
use Rattle.law_all.specs.inv.model.Keep.{taking}
use Rattle.law_all.specs.inv.model.Locals.{told_by}
use Rattle.law_all.specs.inv.model.Posts.{counted}
use Rattle.law_all.specs.inv.model.Steps.{phase_turn}
use Rattle.law_all.specs.inv.model.World.{World, finds, is_busy, list_in, may_start, offered, step, told_in}
use Rattle.law_all.proofs.inv.model.Facts.{first_of, rest_of}
use Rattle.law_all.specs.inv.rows.Agree.{Agree}
use Rattle.law_all.specs.inv.rows.Hands.{each_once}
use Rattle.law_all.specs.inv.rows.Rows.{View}
use Rattle.law_all.specs.inv.history.History.{Begins, Item, Made, Steps, done, first_made, record_of}
use Rattle.law_all.specs.inv.history.Record.{Each, Past, Test, tells_of}
use Rattle.law_all.specs.inv.history.Record.Past.{Then}
use Rattle.law_all.proofs.inv.history.AllOf.{all_of}
use Rattle.law_all.proofs.inv.history.Along.{Steady, items_keep}
use Rattle.law_all.specs.laws.Lists.{has_left, list_of}
use Rattle.law_scans.proofs.reuse.Leaving.Told.{is_kept, phase_keeps_lists, told_kept}
use Rattle.law_scans.proofs.reuse.Once.Keeps as once
use Rattle.law_scans.proofs.reuse.Once.Lists.{told_taken}

-- a seat that tells that it leaves has not told so before; and where one tells that it takes a list over, each slot is on its list once
abbrev pub hands_ok : Test
hands_ok p i (events.Left count) = not (has_left i p)
hands_ok p i (events.Adopted place count) = each_once (list_of i (Then p i (events.Adopted place count)))
hands_ok p i event = true

kept_ok : (p : Past) (i : ℕ) (event : Event) → is_kept event ≡ true → hands_ok p i event ≡ true
kept_ok p i (events.Left count) h = absurd (cc)
kept_ok p i (events.Adopted place count) h = absurd (cc)
kept_ok p i event h = refl

kept_each : (i : ℕ) (told : List Event) (p : Past) → all_of is_kept told ≡ true → Each hands_ok p → Each hands_ok (tells_of p i told)
kept_each i [] p h g = g
kept_each i (event ∷ told) p h g =
    kept_each i told (Then p i event) (rest_of (is_kept event) (all_of is_kept told) h)
    (kept_ok p i event (first_of (is_kept event) (all_of is_kept told) h), g)

-- where a seat makes its step
record Moves (w : World) (i : ℕ) (v next : View) (p : Past) : Type 0 where
  busy : is_busy w i ≡ true
  agree : Agree w v
  left : has_left i p ≡ nat_lt 0 (w.mem (PlaceOf i))
  after : Agree (step w i) next
  shown : list_of i (tells_of p i (told_in w i)) ≡ list_in (step w i) i

-- a step by its phase
told_as : (w : World) (i : ℕ) (p : Past) (phase : Phase) → (w.seat i).phase ≡ phase
    → Each hands_ok (tells_of p i (told_by (phase_turn phase (counted (w.seat i).post) (offered w i).desk (finds w i)))) → Each hands_ok (tells_of p i (told_in w i))
told_as w i p phase e g =
    subst (λ (f : Phase). Each hands_ok (tells_of p i (told_by (phase_turn f (counted (w.seat i).post) (offered w i).desk (finds w i))))) (sym e) g

calm_each : (w : World) (i : ℕ) (p : Past) (phase : Phase) → (w.seat i).phase ≡ phase → phase_keeps_lists phase ≡ true → Each hands_ok p
    → Each hands_ok (tells_of p i (told_in w i))
calm_each w i p phase e q g =
    told_as w i p phase e
    (kept_each i (told_by (phase_turn phase (counted (w.seat i).post) (offered w i).desk (finds w i))) p
    (told_kept phase (counted (w.seat i).post) (offered w i).desk (finds w i) q) g)

-- a seat leaves
stayed : (left : Bool) (word : ℕ) → left ≡ nat_lt 0 word → word ≡ 0 → not left ≡ true
stayed left word e z = ap not (e ∙ ap (nat_lt 0) z)

left_each : (w : World) (i : ℕ) (v next : View) (p : Past) → Moves w i v next p → (w.seat i).phase ≡ Works (Keeping MarkLeft) → Each hands_ok p
    → Each hands_ok (tells_of p i (told_in w i))
left_each w i v next p m e g =
    told_as w i p (Works (Keeping MarkLeft)) e
    (refl, (stayed (has_left i p) (w.mem (PlaceOf i)) m.left ((m.agree.present i).here m.busy), g))

-- a list is taken over
untaken_each : (i place : ℕ) (p : Past) (post : Post) (desk : Desk) (left : Bool) (found : ℕ) → left ≡ false → Each hands_ok p
    → Each hands_ok (tells_of p i (told_by (taking place post desk left found)))
untaken_each i place p post desk true found n g = absurd (cc)
untaken_each i place p post desk false found n g = (refl, g)

taken_each : (w : World) (i place : ℕ) (v next : View) (p : Past) (one : Bool) → (finds w i == 1) ≡ one → Moves w i v next p
    → (w.seat i).phase ≡ Works (Keeping (TakeList place)) → Each hands_ok p → Each hands_ok (tells_of p i (told_in w i))
taken_each w i place v next p true h m e g =
    let told : told_in w i ≡ events.Adopted place (length (offered w i).desk.gift) ∷ [] = told_taken w i place e h in
    let list : list_of i (Then p i (events.Adopted place (length (offered w i).desk.gift))) ≡ list_in (step w i) i =
    ap (λ (es : List Event). list_of i (tells_of p i es)) (sym told) ∙ m.shown in
    subst (λ (es : List Event). Each hands_ok (tells_of p i es)) (sym told) (ap each_once list ∙ (m.after.plays i).once, g)
taken_each w i place v next p false h m e g =
    told_as w i p (Works (Keeping (TakeList place))) e (untaken_each i place p (counted (w.seat i).post) (offered w i).desk (finds w i == 1) (finds w i) h g)

keep_each : (w : World) (i : ℕ) (v next : View) (p : Past) (at : KeepAt) → Moves w i v next p → (w.seat i).phase ≡ Works (Keeping at) → Each hands_ok p
    → Each hands_ok (tells_of p i (told_in w i))
keep_each w i v next p MarkLeft m e g = left_each w i v next p m e g
keep_each w i v next p (TakeList place) m e g = taken_each w i place v next p (finds w i == 1) refl m e g
keep_each w i v next p (Loosens let_go) m e g = calm_each w i p (Works (Keeping (Loosens let_go))) e refl g
keep_each w i v next p (LoadHeld from index) m e g = calm_each w i p (Works (Keeping (LoadHeld from index))) e refl g
keep_each w i v next p (StoreHeld from index era) m e g = calm_each w i p (Works (Keeping (StoreHeld from index era))) e refl g
keep_each w i v next p (Looks index key at) m e g = calm_each w i p (Works (Keeping (Looks index key at))) e refl g
keep_each w i v next p (Misses index) m e g = calm_each w i p (Works (Keeping (Misses index))) e refl g
keep_each w i v next p HideSpan m e g = calm_each w i p (Works (Keeping HideSpan)) e refl g
keep_each w i v next p (MarkTaken place count) m e g = calm_each w i p (Works (Keeping (MarkTaken place count))) e refl g

phase_each : (w : World) (i : ℕ) (v next : View) (p : Past) (phase : Phase) → Moves w i v next p → (w.seat i).phase ≡ phase → Each hands_ok p
    → Each hands_ok (tells_of p i (told_in w i))
phase_each w i v next p Idle m e g = calm_each w i p Idle e refl g
phase_each w i v next p (Runs why base) m e g = calm_each w i p (Runs why base) e refl g
phase_each w i v next p (Scans later at) m e g = calm_each w i p (Scans later at) e refl g
phase_each w i v next p (Works (Getting key at)) m e g = calm_each w i p (Works (Getting key at)) e refl g
phase_each w i v next p (Works (Changing kept at)) m e g = calm_each w i p (Works (Changing kept at)) e refl g
phase_each w i v next p (Works (Enqueuing kept at)) m e g = calm_each w i p (Works (Enqueuing kept at)) e refl g
phase_each w i v next p (Works (Dequeuing at)) m e g = calm_each w i p (Works (Dequeuing at)) e refl g
phase_each w i v next p (Works (Keeping at)) m e g = keep_each w i v next p at m e g

-- what a history keeps
record Keeps (layout : Layout) (made : Made) : Type 0 where
  rows : once.Keeps layout made
  law : Each hands_ok made.past

begin_keeps : (layout : Layout) (made : Made) (i : ℕ) (call : Call) → is_busy made.world i ≡ false → may_start made.world i call ≡ true → Keeps layout made
    → Keeps layout (done made (Begins i call))
begin_keeps layout made i call f m g = record { rows = once.begin_keeps layout made i call f m g.rows; law = (refl, g.law) }

step_keeps : (layout : Layout) (made : Made) (i : ℕ) → i < made.world.layout.config.seats → is_busy made.world i ≡ true → Keeps layout made
    → Keeps layout (done made (Steps i))
step_keeps layout made i b y g =
    let next : once.Keeps layout (done made (Steps i)) = once.step_keeps layout made i b y g.rows in
    record {
      rows = next;
      law = phase_each made.world i g.rows.rows next.rows made.past (made.world.seat i).phase
          (record { busy = y; agree = g.rows.known.whole.both.rows; left = g.rows.shows.places.left i; after = next.known.whole.both.rows; shown = next.shows.lists i })
          refl g.law;
    }

steady : (layout : Layout) → Steady (Keeps layout)
steady layout = record { begins = λ made i call b y m g. begin_keeps layout made i call y m g; steps = λ made i b y g. step_keeps layout made i b y g }

pub records_keep_hands : (layout : Layout) (items : List Item) → is_valid layout ≡ true → Each hands_ok (record_of layout items)
records_keep_hands layout items d =
    (items_keep (Keeps layout) (steady layout) items (first_made layout) (record { rows = once.first_keeps layout d; law = tt })).law
