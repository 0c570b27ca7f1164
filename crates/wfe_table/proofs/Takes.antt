-- What an adoption comes to: the seat as its code has it after the steps.
use Rattle.std.proofs.Common.{List, [], ap, false, length, refl, subst, sym, true, ℕ, ◌++◌, ◌∙◌, ◌∷◌, ◌≡◌, ◌≢◌}
use Rattle.std.proofs.lemmas.List.{append_assoc}
use Rattle.std.specs.Prelude.{None, Option, ◌==◌}
use Rattle.wfe_core.specs.defs.declared.call.Answer.TheVariants as answers
use Rattle.wfe_core.specs.defs.declared.call.Call.{Call}
use Rattle.wfe_core.specs.defs.declared.call.Call.TheVariants as names
use Rattle.wfe_core.specs.defs.declared.lifetime.Lifetime.{Lifetime}
use Rattle.wfe_core.specs.declared.op.Op.{Op}
use Rattle.wfe_core.specs.declared.op.Op.TheVariants.{Cas, Store}
use Rattle.wfe_core.specs.words.Place.{number}
use Rattle.wfe_core.specs.words.Place.Place.{PlaceOf}
use Rattle.wfe_core.specs.words.declared.layout.Layout.{Layout}
use Rattle.wfe_core.specs.Calls.{Answers, Idle, Keeping, MarkTaken, TakeList, Works}
use Rattle.wfe_core.specs.Keep.{not_taken}
use Rattle.wfe_core.specs.Locals.{Local, after, asks, begun, busy_in, turn}
use Rattle.wfe_core.specs.Posts.{counted}
use Rattle.wfe_core.specs.World.{World, offered}
use Rattle.wfe_drive_call.specs.drive_words.Comes.{Given, lent}
use Rattle.wfe_drive_call.specs.drive_words.Ran.{Ran}
use Rattle.wfe_drive_rule.specs.drive_cells.Unit.{SeatView, shown}
use Rattle.wfe_drive_rule.specs.history.History.{Item, world_of}
use Rattle.wfe_drive_rule.specs.inv.rows.Facts.{Listing}
use Rattle.wfe_drive_rule.specs.Handles.{IsAdopting, IsHeld, IsResting, IsSeated}
use Rattle.wfe_drive_rule.specs.Moves.{Told}
use Rattle.wfe_drive_rule.specs.Views.{Handle, Track, View, call_in, entered, own, seat_of, standing}
use Rattle.wfe_drive_rule.proofs.Acting.{held_of}
use Rattle.wfe_drive_rule.proofs.Adopting.{marks_held, marks_standing}
use Rattle.wfe_drive_rule.proofs.Seated.{resting_slot}
use Rattle.wfe_drive_rule.proofs.Taken.{missed_test}
use Rattle.wfe_drive_rule.proofs.inv.Inv.Places.{inv_places}
use Rattle.wfe_drive_rule.proofs.inv.Inv.Reached.{inv_reached}
use Rattle.wfe_drive_rule.proofs.history.Snoc.{layout_is}
use Rattle.wfe_table.specs.Places.{Missed, Took}
use Rattle.wfe_table.proofs.Made.{stands_at}
use Rattle.wfe_table.proofs.TableWords.{StepMade, step_held, step_lent}
use Rattle.wfe_table.proofs.Walked.{ends_by, ran_more}

-- what the step that ends a call leaves, as the code has it
abbrev ended : Local → SeatView
ended l =
    record {
      phase = Idle;
      post = counted l.post;
      desk = record { list = l.desk.list; report = l.desk.report; notes = record l.desk.notes { steps = (counted l.post).steps }; gift = [] };
    }

marks_ends : (o : Local) (place count : ℕ) → o.phase ≡ Works (Keeping (MarkTaken place count)) → shown (after o 0) ≡ ended o
marks_ends o place count e = rw e refl

marks_answers : (o : Local) (place count : ℕ) → o.phase ≡ Works (Keeping (MarkTaken place count)) → (turn o 0).outcome ≡ Answers (answers.Adopted count)
marks_answers o place count e = rw e refl

misses_ends : (o : Local) (place found : ℕ) → o.phase ≡ Works (Keeping (TakeList place)) → (found == 1) ≡ false → shown (after o found) ≡ ended o
misses_ends o place found e f = rw (e, f) refl

misses_answers : (o : Local) (place found : ℕ) → o.phase ≡ Works (Keeping (TakeList place)) → (found == 1) ≡ false → (turn o found).outcome ≡ Answers (not_taken found)
misses_answers o place found e f = rw (e, f) refl

-- the exchange that finds a list
abbrev gained : Local → List Lifetime → SeatView
gained l list =
    record {
      phase = Idle;
      post = counted (counted l.post);
      desk = record { list = list; report = l.desk.report; notes = record l.desk.notes { steps = (counted (counted l.post)).steps }; gift = [] };
    }

takes_gains : (o : Local) (place : ℕ) → o.phase ≡ Works (Keeping (TakeList place)) → ended (after o 1) ≡ gained o (o.desk.list ++ o.desk.gift)
takes_gains o place e = rw e refl

takes_marks : (o : Local) (place : ℕ) → o.phase ≡ Works (Keeping (TakeList place)) → (after o 1).phase ≡ Works (Keeping (MarkTaken place (length o.desk.gift)))
takes_marks o place e = rw e refl

-- the list that a seat has once it has taken over another
pub list_fits : (l : Local) (g : Given l 1) (place : ℕ) → busy_in l.phase ≡ true → l.phase ≡ Works (Keeping (TakeList place)) → Listing l.post.layout.config.slots (l.desk.list ++ (lent g).desk.gift)
list_fits l g place busy at =
    let w : World = world_of l.post.layout g.comes.items in
    let shows = (inv_places w l.post.seat (inv_reached l.post.layout g.comes.items g.comes.valid)).lists in
    let phase = ap (λ (k : Local). k.phase) g.comes.stands ∙ at in
    subst (λ (d : Layout). Listing d.config.slots (l.desk.list ++ (lent g).desk.gift)) (layout_is l.post.layout g.comes.items)
    (subst (λ (k : Local). Listing w.layout.config.slots (k.desk.list ++ (lent g).desk.gift)) g.comes.stands (shows.gains place phase (sym g.found)))

-- a list was taken over, by two steps
pub took : (place : ℕ) (old : Track) (one two three : Handle) (exchange store : Op) (list : List Lifetime) → standing one ≡ begun old.local (names.Adopt place) → (own one.0).past ≡ old.past → exchange ≡ asks (standing one) → store ≡ asks (standing two) → (s : StepMade one two 1) → (t : StepMade two three 0)
    → list ≡ (lent s.given).desk.gift → standing three ≡ (own three.0).local → Took place old list three
took place old one two three exchange store list begins past asked stored s t gift rests =
    let l : Local = old.local in
    let b : Local = begun l (names.Adopt place) in
    let at : (standing one).phase ≡ Works (Keeping (TakeList place)) = ap (λ (k : Local). k.phase) begins in
    let o : Local = lent s.given in
    let o_at : o.phase ≡ Works (Keeping (TakeList place)) = ap (λ (k : Local). k.phase) s.given.comes.stands ∙ at in
    let marks : (standing two).phase ≡ Works (Keeping (MarkTaken place (length o.desk.gift))) = ap (λ (k : Local). k.phase) s.next ∙ takes_marks o place o_at in
    let p : Local = lent t.given in
    let p_at : p.phase ≡ Works (Keeping (MarkTaken place (length o.desk.gift))) = ap (λ (k : Local). k.phase) t.given.comes.stands ∙ marks in
    let first : Ran b ((exchange, 1) ∷ []) (standing two) = ran_more b [] one two exchange 1 (sym begins) (ap busy_in at) asked s in
    let answer : (turn p 0).outcome ≡ Answers (answers.Adopted (length list)) = marks_answers p place (length o.desk.gift) p_at ∙ ap (λ (g : List Lifetime). Answers (answers.Adopted (length g))) (sym gift) in
    record {
      ops = ((exchange, 1) ∷ []) ++ (store, 0) ∷ [];
      ends = ends_by l (names.Adopt place) (answers.Adopted (length list)) ((exchange, 1) ∷ []) two three store 0 first (ap busy_in marks) stored t answer rests;
      here = ap shown (sym rests ∙ t.next) ∙ marks_ends p place (length o.desk.gift) p_at ∙ ap ended (t.given.comes.stands ∙ s.next) ∙ takes_gains o place o_at
          ∙ ap (λ (g : List Lifetime). gained o (o.desk.list ++ g)) (sym gift) ∙ ap (λ (k : Local). gained k (k.desk.list ++ list)) (s.given.comes.stands ∙ begins);
      more = s.more ++ t.more;
      grows = t.grows ∙ ap (λ (p : List Item). p ++ t.more) (s.grows ∙ ap (λ (p : List Item). p ++ s.more) past) ∙ append_assoc old.past s.more t.more;
      listing = subst (λ (k : Local). Listing k.post.layout.config.slots (k.desk.list ++ list)) begins
          (subst (λ (g : List Lifetime). Listing (standing one).post.layout.config.slots ((standing one).desk.list ++ g)) (sym gift) (list_fits (standing one) s.given place (ap busy_in at) at));
    }

-- none was left, by one step
pub missed : (place found : ℕ) (old : Track) (one two : Handle) (exchange : Op) → standing one ≡ begun old.local (names.Adopt place) → (own one.0).past ≡ old.past → exchange ≡ asks (standing one) → (s : StepMade one two found) → (found == 1) ≡ false → standing two ≡ (own two.0).local → Missed place found old two
missed place found old one two exchange begins past asked s apart rests =
    let l : Local = old.local in
    let b : Local = begun l (names.Adopt place) in
    let at : (standing one).phase ≡ Works (Keeping (TakeList place)) = ap (λ (k : Local). k.phase) begins in
    let o : Local = lent s.given in
    let o_at : o.phase ≡ Works (Keeping (TakeList place)) = ap (λ (k : Local). k.phase) s.given.comes.stands ∙ at in
    record {
      ops = (exchange, found) ∷ [];
      exchange = exchange;
      word = refl;
      ends = ends_by l (names.Adopt place) (not_taken found) [] one two exchange found (sym begins) (ap busy_in at) asked s (misses_answers o place found o_at apart) rests;
      here = ap shown (sym rests ∙ s.next) ∙ misses_ends o place found o_at apart ∙ ap ended (s.given.comes.stands ∙ begins);
      more = s.more;
      grows = s.grows ∙ ap (λ (p : List Item). p ++ s.more) past;
    }

-- the operations on a place word
pub asks_take : (l : Local) (layout : Layout) (place word : ℕ) → l.phase ≡ Works (Keeping (TakeList place)) → l.post.layout ≡ layout → word ≡ number layout (PlaceOf place) → Cas word 1 2 ≡ asks l
asks_take l layout place word at table is = rw at (ap (λ (n : ℕ). Cas n 1 2) (is ∙ ap (λ (d : Layout). number d (PlaceOf place)) (sym table)))

pub asks_mark : (l : Local) (layout : Layout) (place count word : ℕ) → l.phase ≡ Works (Keeping (MarkTaken place count)) → l.post.layout ≡ layout → word ≡ number layout (PlaceOf place) → Store word 3 ≡ asks l
asks_mark l layout place count word at table is = rw at (ap (λ (n : ℕ). Store n 3) (is ∙ ap (λ (d : Layout). number d (PlaceOf place)) (sym table)))

-- the call has begun
record Began (layout : Layout) (place : ℕ) (old : Track) (one : Handle) : Type 0 where
  begins : standing one ≡ begun old.local (names.Adopt place)
  takes : (standing one).phase ≡ Works (Keeping (TakeList place))
  table : (standing one).post.layout ≡ layout
  past : (own one.0).past ≡ old.past

began : (layout : Layout) (slot place : ℕ) (me one : Handle) → IsSeated layout slot me → IsResting me → one.0 ≡ me.0 → standing one ≡ begun (standing me) (names.Adopt place) → Began layout place (own me.0) one
began layout slot place me one s rest view begins =
    let from : standing one ≡ begun (own me.0).local (names.Adopt place) = begins ∙ ap (λ (l : Local). begun l (names.Adopt place)) (stands_at me rest) in
    record {
      begins = from;
      takes = ap (λ (l : Local). l.phase) from;
      table = ap (λ (l : Local). l.post.layout) from ∙ s.tracked.layout_is;
      past = ap (λ (v : View). (own v).past) view;
    }

-- the exchange is the next operation, and after it the store
pub next_take : (layout : Layout) (slot place word : ℕ) (me one : Handle) → IsSeated layout slot me → IsResting me → word ≡ number layout (PlaceOf place) → one.0 ≡ me.0 → standing one ≡ begun (standing me) (names.Adopt place)
    → ((standing one).phase ≡ Works (Keeping (TakeList place))) × (Cas word 1 2 ≡ asks (standing one))
next_take layout slot place word me one s rest is view begins =
    let b = began layout slot place me one s rest view begins in
    (b.takes, asks_take (standing one) layout place word b.takes b.table is)

pub next_mark : (layout : Layout) (slot place word : ℕ) (two : Handle) → IsAdopting layout slot place two → word ≡ number layout (PlaceOf place) → Store word 3 ≡ asks (standing two)
next_mark layout slot place word two a is =
    let stands : standing two ≡ (own two.0).local = marks_standing layout slot place two a in
    asks_mark (standing two) layout place a.marks.0 word (ap (λ (l : Local). l.phase) stands ∙ a.marks.1) (ap (λ (l : Local). l.post.layout) stands ∙ a.tracked.layout_is) is

-- a list was left there, by what the handle tells of its steps
pub took_by : (layout : Layout) (slot place word : ℕ) (me one two three : Handle) (list : List Lifetime) → IsSeated layout slot me → IsResting me → word ≡ number layout (PlaceOf place) → one.0 ≡ me.0 → standing one ≡ begun (standing me) (names.Adopt place) → IsSeated layout slot one
    → IsAdopting layout slot place two → (told : Told layout one 1 two.0) → list ≡ (offered (world_of layout told.items) (seat_of (own one.0))).desk.gift → IsResting three → Told layout two 0 three.0 → Took place (own me.0) list three
took_by layout slot place word me one two three list s rest is view begins seated a told gift rests marks =
    let b = began layout slot place me one s rest view begins in
    let held : IsHeld layout one = held_of layout slot one seated in
    let empty : call_in two.1 ≡ None = ap call_in a.slots in
    let first = step_lent layout 1 one two held (ap busy_in b.takes) told empty in
    let stands : standing two ≡ (own two.0).local = marks_standing layout slot place two a in
    let busy : busy_in (standing two).phase ≡ true = ap busy_in (ap (λ (l : Local). l.phase) stands ∙ a.marks.1) in
    let last = step_held layout 0 two three (marks_held layout slot place two a) busy marks (resting_slot (own three.0).local (call_in three.1) rests) in
    took place (own me.0) one two three (Cas word 1 2) (Store word 3) list b.begins b.past (asks_take (standing one) layout place word b.takes b.table is) (next_mark layout slot place word two a is)
    first.0 last (gift ∙ ap (λ (l : Local). l.desk.gift) (sym first.1)) (stands_at three rests)

-- none was left there
pub missed_by : (layout : Layout) (slot place word found : ℕ) (me one two : Handle) → IsSeated layout slot me → IsResting me → word ≡ number layout (PlaceOf place) → one.0 ≡ me.0 → standing one ≡ begun (standing me) (names.Adopt place) → IsSeated layout slot one
    → found ≢ 1 → call_in two.1 ≡ None → Told layout one found two.0 → Missed place found (own me.0) two
missed_by layout slot place word found me one two s rest is view begins seated apart empty told =
    let b = began layout slot place me one s rest view begins in
    let step = step_held layout found one two (held_of layout slot one seated) (ap busy_in b.takes) told empty in
    missed place found (own me.0) one two (Cas word 1 2) b.begins b.past (asks_take (standing one) layout place word b.takes b.table is) step (missed_test found apart) (ap (entered (own two.0).local) empty)

pub missed_rests : (place found : ℕ) (old : Track) (two : Handle) → call_in two.1 ≡ None → Missed place found old two → IsResting two
missed_rests place found old two empty m = ap (λ (call : Option Call). busy_in (entered (own two.0).local call).phase) empty ∙ ap (λ (v : SeatView). busy_in v.phase) m.here
