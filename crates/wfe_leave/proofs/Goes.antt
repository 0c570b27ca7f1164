-- A unit of a seat: what the rig and the seat's part make of it is a unit of the table that is laid over the rig.
use Rattle.std.proofs.Common.{Bool, List, [], ap, ap₂, arith, false, get_or, get_or-set_other, get_or-set_same, length, refl, slice_set, subst, sym, true, ℕ, zero, suc, ◌++◌, ◌+◌, ◌<◌, ◌∙◌, ◌≡◌, ◌≢◌, ◌∷◌}
use Rattle.std.proofs.lemmas.Bool.Decides.{nat_tests}
use Rattle.std.proofs.lemmas.List.{length-set}
use Rattle.std.specs.Prelude.{None, Option, Some, ◌==◌}
use Rattle.wfe_core.specs.words.Place.{number}
use Rattle.wfe_core.specs.words.Place.Place.{PlaceOf}
use Rattle.wfe_core.specs.words.declared.layout.Layout.{Layout}
use Rattle.wfe_core.specs.defs.declared.call.Answer.{Answer}
use Rattle.wfe_core.specs.defs.declared.call.Answer.TheVariants as answers
use Rattle.wfe_core.specs.defs.declared.event.Event.{Event}
use Rattle.wfe_core.specs.defs.declared.event.Event.TheVariants as events
use Rattle.wfe_core.specs.defs.declared.lifetime.Lifetime.{Lifetime}
use Rattle.wfe_core.specs.declared.op.Op.{Op}
use Rattle.wfe_core.specs.declared.op.Op.TheVariants as ops
use Rattle.wfe_core.specs.declared.post.Post.{Post}
use Rattle.wfe_core.specs.Calls.{CallTurn, Idle, Keeping, MarkLeft, MarkTaken, Phase, TakeList, Works}
use Rattle.wfe_core.specs.Desks.{Desk, no_notes}
use Rattle.wfe_core.specs.Keep.{not_taken, parting, taking}
use Rattle.wfe_core.specs.Locals.{busy_in, told_by}
use Rattle.wfe_core.specs.Memory.{bump}
use Rattle.wfe_core.specs.Posts.{counted}
use Rattle.wfe_core.proofs.Facts.{number_is}
use Rattle.wfe_drive_cells.specs.Operations.{answered, performed}
use Rattle.wfe_drive_cells.specs.Unit.{IsUnit, SeatView, TableView, answer_in, asked, bare_seat, fresh_seat, handed_by, handed, lent_seat, may_adopt, seat_after, seat_at, turned, unit_turn, with_seat}
use Rattle.wfe_drive_cells.proofs.Units.{own_turn, own_unit}
use Rattle.wfe_drive.specs.inv.Places.{is_leaving}
use Rattle.wfe_drive_seat.specs.Leaving.{gaining_seat, given_seat, leaving, let_seat, let_turn}
use Rattle.wfe_leave.specs.declared.part.Part.{Part}
use Rattle.wfe_leave.specs.declared.part.Part.TheVariants.{Marks, Over, Parts, Stays, Takes}
use Rattle.wfe_leave.specs.Parts.{AdoptUnit, CallUnit, ClearUnit, LeaveUnit, MarkUnit, MissUnit, at_steps, is_left, is_stays, laid, laid_seat, leaving_words, list_count, marking_words, overlay, part_at, quiet_desk, taking_found, taking_words, with_words}
use Rattle.wfe_leave.proofs.Laid.{laid_bare, laid_both, laid_get, laid_list, laid_part, laid_view, parting_adopts}
use Rattle.wfe_leave.proofs.Turns.{Lets, marking_is, marking_not, parts_let, seat_is}

-- a seat as it is laid over the rig's
pub view_at : (rig : TableView) (parts : List Part) (seat : ℕ) → length parts ≡ length rig.seats → seat_at (overlay rig parts) seat ≡ laid_seat (part_at parts seat) (seat_at rig seat)
view_at rig parts seat e = laid_get parts rig.seats seat (fresh_seat rig.layout seat) e

-- a unit whose step takes over no list
abbrev unit_by : (T : TableView) (seat : ℕ) (list : List ℕ) (w : SeatView) (told : List Event) (answer : Option Answer) (V : SeatView) → Type 0
unit_by T seat list w told answer V =
    may_adopt V.phase ≡ false → list ≡ performed T.words (asked V) → w ≡ seat_after (turned V (answered T.words (asked V)))
    → told ≡ told_by (turned V (answered T.words (asked V))) → answer ≡ answer_in (turned V (answered T.words (asked V))).outcome → IsUnit T (with_seat T list seat w) seat told answer

own_by : (T : TableView) (seat : ℕ) (list : List ℕ) (w : SeatView) (told : List Event) (answer : Option Answer) → unit_by T seat list w told answer (seat_at T seat)
own_by T seat list w told answer a words view events said = record {
  table_is = ap₂ (λ (l : List ℕ) (x : SeatView). with_seat T l seat x) words view ∙ sym (own_unit T seat a);
  told_is = events ∙ ap told_by (sym (own_turn T seat a));
  answer_is = said ∙ ap (λ (t : CallTurn). answer_in t.outcome) (sym (own_turn T seat a));
}

plain_unit : (T : TableView) (seat : ℕ) (list : List ℕ) (w : SeatView) (told : List Event) (answer : Option Answer) (V : SeatView) → seat_at T seat ≡ V → unit_by T seat list w told answer V
plain_unit T seat list w told answer V e = subst (unit_by T seat list w told answer) e (own_by T seat list w told answer)

-- one that is to take over a list
abbrev taken_table : (T : TableView) (seat place : ℕ) (post : Post) (desk : Desk) (list : List ℕ) (left : Bool) (found : ℕ) → TableView
taken_table T seat place post desk list left found =
    record {
      layout = T.layout;
      words = list;
      seats = slice_set (handed_by T place left) seat (seat_after (taking place (counted post) (record desk { gift = (seat_at T place).desk.list }) left found));
    }

abbrev taking_seat : (place : ℕ) → Post → Desk → SeatView
taking_seat place post desk = record { phase = Works (Keeping (TakeList place)); post = post; desk = desk }

take_by : (T : TableView) (seat place : ℕ) (post : Post) (desk : Desk) (left : Bool) → seat_at T seat ≡ taking_seat place post desk → (answered T.words (asked (taking_seat place post desk)) == 1) ≡ left
    → (t : CallTurn) → t ≡ taking place (counted post) (record desk { gift = (seat_at T place).desk.list }) left (answered T.words (asked (taking_seat place post desk)))
    → IsUnit T (taken_table T seat place post desk (performed T.words (asked (taking_seat place post desk))) left (answered T.words (asked (taking_seat place post desk)))) seat (told_by t) (answer_in t.outcome)
take_by T seat place post desk left e b t is =
    let V : SeatView = taking_seat place post desk in
    let found : ℕ = answered T.words (asked V) in
    let made : SeatView → TableView = λ v. record { layout = T.layout; words = performed T.words (asked v); seats = slice_set (handed T v.phase (answered T.words (asked v))) seat (seat_after (turned (lent_seat T v) (answered T.words (asked v)))) } in
    let turn : turned (lent_seat T V) found ≡ t = ap (λ (x : Bool). taking place (counted post) (record desk { gift = (seat_at T place).desk.list }) x found) b ∙ sym is in
    let same : unit_turn T seat ≡ t = ap (λ (v : SeatView). turned (lent_seat T v) (answered T.words (asked v))) e ∙ turn in
    record {
      table_is =
          sym (ap (λ (x : Bool). taken_table T seat place post desk (performed T.words (asked V)) x found) b)
          ∙ sym (ap made e);
      told_is = ap told_by (sym same);
      answer_is = ap (λ (x : CallTurn). answer_in x.outcome) (sym same);
    }

-- what a unit leaves, as the table that is laid over the rig has it
pub record Goes (old new : TableView) (parts : List Part) (seat : ℕ) (next : Part) (told : List Event) (answer : Option Answer) : Type 0 where
  pub unit : IsUnit (overlay old parts) (overlay new (slice_set parts seat next)) seat told answer
  pub seats : length new.seats ≡ length old.seats
  -- the rig has no other seat under way than before, and this one only where its call is one of the rig's
  pub others : (i : ℕ) → (i == seat) ≡ false → (seat_at new i).phase ≡ (seat_at old i).phase
  pub own : is_stays next ≡ false → busy_in (seat_at old seat).phase ≡ false → busy_in (seat_at new seat).phase ≡ false
  pub kind : is_stays next ≡ is_stays (part_at parts seat)
  pub left : is_left next ≡ is_leaving (seat_at (overlay old parts) seat).phase

-- where a seat of the rig changes, or only words do
seat_same : (old : TableView) (list : List ℕ) (seat : ℕ) (v : SeatView) → seat < length old.seats → seat_at (with_seat old list seat v) seat ≡ v
seat_same old list seat v h = get_or-set_same old.seats seat v (fresh_seat old.layout seat) h

pub seat_other : (old : TableView) (list : List ℕ) (seat i : ℕ) (v : SeatView) → (i == seat) ≡ false → seat_at (with_seat old list seat v) i ≡ seat_at old i
seat_other old list seat i v e = let apart : i ≢ seat = grind (arith, nat_tests) in get_or-set_other old.seats seat i v (fresh_seat old.layout i) apart

pub over_seat : (old : TableView) (parts : List Part) (list : List ℕ) (seat : ℕ) (next : Part) (v : SeatView) → length parts ≡ length old.seats → seat < length parts → overlay (with_seat old list seat v) (slice_set parts seat next) ≡ with_seat (overlay old parts) list seat (laid_seat next v)
over_seat old parts list seat next v e h = ap (λ (l : List SeatView). let t : TableView = record { layout = old.layout; words = list; seats = l } in t) (laid_both parts old.seats seat next v e h)

pub over_words : (old : TableView) (parts : List Part) (list : List ℕ) (seat : ℕ) (next : Part) → length parts ≡ length old.seats → seat < length parts → overlay (with_words old list) (slice_set parts seat next) ≡ with_seat (overlay old parts) list seat (laid_seat next (seat_at old seat))
over_words old parts list seat next e h = ap (λ (l : List SeatView). let t : TableView = record { layout = old.layout; words = list; seats = l } in t) (laid_part parts old.seats seat next (fresh_seat old.layout seat) e h)

-- a call of the rig's
pub call_goes : (old new : TableView) (parts : List Part) (seat : ℕ) (told : List Event) (answer : Option Answer) → length parts ≡ length old.seats → seat < length parts → part_at parts seat ≡ Stays → is_leaving (seat_at old seat).phase ≡ false → CallUnit old new seat Stays told answer → Goes old new parts seat Stays told answer
call_goes old new parts seat told answer e h p f u =
    let T : TableView = overlay old parts in
    let s : SeatView = seat_at old seat in
    let V : seat_at T seat ≡ s = view_at old parts seat e ∙ ap (λ (x : Part). laid_seat x s) p in
    let list : List ℕ = performed old.words (asked s) in
    let w : SeatView = seat_after (turned s (answered old.words (asked s))) in
    let is : new ≡ with_seat old list seat w = u.unit.table_is ∙ own_unit old seat u.adopts in
    let made : IsUnit T (with_seat T list seat w) seat told answer = plain_unit T seat list w told answer s V u.adopts refl refl (u.unit.told_is ∙ ap told_by (own_turn old seat u.adopts)) (u.unit.answer_is ∙ ap (λ (t : CallTurn). answer_in t.outcome) (own_turn old seat u.adopts)) in
    record {
      unit = subst (λ (t : TableView). IsUnit T t seat told answer) (sym (ap (λ (t : TableView). overlay t (slice_set parts seat Stays)) is ∙ over_seat old parts list seat Stays w e h)) made;
      seats = ap (λ (t : TableView). length t.seats) is ∙ length-set old.seats seat w;
      others = λ i n. ap (λ (t : TableView). (seat_at t i).phase) is ∙ ap (λ (v : SeatView). v.phase) (seat_other old list seat i w n);
      own = λ n. absurd (cc);
      kind = sym (ap is_stays p);
      left = sym (ap (λ (v : SeatView). is_leaving v.phase) V ∙ f);
    }

-- a seat that leaves lets go of the next that stands
pub clear_goes : (old new : TableView) (parts : List Part) (seat steps : ℕ) (next : Part) (told : List Event) (answer : Option Answer) → length parts ≡ length old.seats → seat < length parts → part_at parts seat ≡ Parts steps → bump steps ≡ steps + 1 → (seat_at old seat).desk.gift ≡ []
    → ClearUnit old new seat steps next told answer → Goes old new parts seat next told answer
clear_goes old new parts seat steps next told answer e h p b gift u =
    let T : TableView = overlay old parts in
    let s : SeatView = seat_at old seat in
    let P : SeatView = laid_seat (Parts steps) s in
    let V : seat_at T seat ≡ P = view_at old parts seat e ∙ ap (λ (x : Part). laid_seat x s) p in
    let t : Lets (parting s.post) s steps (answered T.words (asked P)) (answered old.words (asked (leaving s))) = parts_let s steps (answered T.words (asked P)) (answered old.words (asked (leaving s))) b gift (marking_not (parting s.post) u.more) in
    let list : List ℕ = performed old.words (asked (leaving s)) in
    let w : SeatView = let_seat (let_turn s old.words) in
    let more : Part = Parts (steps + 1) in
    let is : new ≡ with_seat old list seat w = u.table_is in
    let k = u.units in
    let made : IsUnit T (with_seat T list seat (laid_seat more w)) seat told answer = plain_unit T seat list (laid_seat more w) told answer P V (parting_adopts s.post) (ap (λ (op : Op). performed old.words op) (sym t.asks)) (sym t.seat) (k.told_is ∙ sym t.told) (k.answer_is ∙ sym t.answer) in
    record {
      unit = subst (λ (x : TableView). IsUnit T x seat told answer) (sym (ap₂ (λ (x : TableView) (n : Part). overlay x (slice_set parts seat n)) is k.next_is ∙ over_seat old parts list seat more w e h)) made;
      seats = ap (λ (x : TableView). length x.seats) is ∙ length-set old.seats seat w;
      others = λ i n. ap (λ (x : TableView). (seat_at x i).phase) is ∙ ap (λ (v : SeatView). v.phase) (seat_other old list seat i w n);
      own = λ n f. ap (λ (x : TableView). busy_in (seat_at x seat).phase) is ∙ ap (λ (v : SeatView). busy_in v.phase) (seat_same old list seat w (subst (λ (x : ℕ). seat < x) e h));
      kind = ap is_stays k.next_is ∙ sym (ap is_stays p);
      left = ap is_left k.next_is ∙ sym (ap (λ (v : SeatView). is_leaving v.phase) V ∙ t.leaves);
    }

-- only words change
words_go : (old new : TableView) (parts : List Part) (seat : ℕ) (next : Part) (list : List ℕ) (told : List Event) (answer : Option Answer) (V : SeatView) → length parts ≡ length old.seats → seat < length parts → new ≡ with_words old list → seat_at (overlay old parts) seat ≡ V → is_stays next ≡ is_stays (part_at parts seat) → is_left next ≡ is_leaving V.phase
    → IsUnit (overlay old parts) (with_seat (overlay old parts) list seat (laid_seat next (seat_at old seat))) seat told answer → Goes old new parts seat next told answer
words_go old new parts seat next list told answer V e h is view kind left made = record {
  unit = subst (λ (x : TableView). IsUnit (overlay old parts) x seat told answer) (sym (ap (λ (x : TableView). overlay x (slice_set parts seat next)) is ∙ over_words old parts list seat next e h)) made;
  seats = ap (λ (x : TableView). length x.seats) is;
  others = λ i n. ap (λ (x : TableView). (seat_at x i).phase) is;
  own = λ n f. ap (λ (x : TableView). busy_in (seat_at x seat).phase) is ∙ f;
  kind = kind;
  left = left ∙ sym (ap (λ (v : SeatView). is_leaving v.phase) view);
}

-- a seat that is over keeps its list
over_is : (s : SeatView) (steps count : ℕ) (left : Bool) → count ≡ steps → s.desk.gift ≡ []
    → laid_seat (Over steps left) s ≡ record { phase = Idle; post = at_steps count s.post; desk = record s.desk { notes = record no_notes { steps = count }; gift = [] } }
over_is s steps count left e g =
    seat_is Idle Idle (at_steps steps s.post) (at_steps count s.post) (record s.desk { notes = record no_notes { steps = steps } }) (record s.desk { notes = record no_notes { steps = count }; gift = [] }) refl
    (ap (λ (n : ℕ). at_steps n s.post) (sym e))
    (ap₂ (λ (n : ℕ) (l : List Lifetime). record s.desk { notes = record no_notes { steps = n }; gift = l }) (sym e) g)

-- the word of a place by the rig's number and by the seat's
place_op : (layout own : Layout) (seat number_of : ℕ) → own ≡ layout → number_of ≡ seat → number own (PlaceOf number_of) ≡ number layout (PlaceOf seat)
place_op layout own seat number_of e f = ap₂ (λ (l : Layout) (n : ℕ). number l (PlaceOf n)) e f

-- it leaves its list
pub leave_goes : (old new : TableView) (parts : List Part) (seat steps : ℕ) (next : Part) (told : List Event) (answer : Option Answer) → length parts ≡ length old.seats → seat < length parts → part_at parts seat ≡ Parts steps → bump steps ≡ steps + 1
    → (seat_at old seat).post.layout ≡ old.layout → (seat_at old seat).post.seat ≡ seat → (seat_at old seat).desk.gift ≡ []
    → LeaveUnit old new seat steps next told answer → Goes old new parts seat next told answer
leave_goes old new parts seat steps next told answer e h p b layout own gift u =
    let T : TableView = overlay old parts in
    let s : SeatView = seat_at old seat in
    let P : SeatView = record { phase = Works (Keeping MarkLeft); post = at_steps steps s.post; desk = quiet_desk s.desk } in
    let V : seat_at T seat ≡ P = view_at old parts seat e ∙ ap (λ (x : Part). laid_seat x s) p ∙ ap (λ (x : Phase). let v : SeatView = record { phase = x; post = at_steps steps s.post; desk = quiet_desk s.desk } in v) (marking_is (parting s.post) u.none) in
    let n : ℕ = list_count old seat in
    let word : number s.post.layout (PlaceOf s.post.seat) ≡ number old.layout (PlaceOf seat) = place_op old.layout s.post.layout seat s.post.seat layout own in
    let list : List ℕ = leaving_words old seat in
    let made : IsUnit T (with_seat T list seat (laid_seat (Over (steps + 1) true) s)) seat (events.Left n ∷ events.End (steps + 1) (answers.Left n) ∷ []) (Some (answers.Left n))
    = plain_unit T seat list (laid_seat (Over (steps + 1) true) s) (events.Left n ∷ events.End (steps + 1) (answers.Left n) ∷ []) (Some (answers.Left n)) P V refl
    (ap (λ (x : ℕ). performed old.words (ops.Store x 1)) (sym word))
    (over_is s (steps + 1) (bump steps) true b gift)
    (ap (λ (x : ℕ). events.Left n ∷ events.End x (answers.Left n) ∷ []) (sym b))
    refl in
    let k = u.units in
    subst (λ (x : Part). Goes old new parts seat x told answer) (sym k.next_is)
    (subst (λ (x : List Event). Goes old new parts seat (Over (steps + 1) true) x answer) (sym k.told_is)
    (subst (λ (x : Option Answer). Goes old new parts seat (Over (steps + 1) true) (events.Left n ∷ events.End (steps + 1) (answers.Left n) ∷ []) x) (sym k.answer_is)
    (words_go old new parts seat (Over (steps + 1) true) list (events.Left n ∷ events.End (steps + 1) (answers.Left n) ∷ []) (Some (answers.Left n)) P e h u.table_is V (sym (ap is_stays p)) refl made)))

-- a list is marked as taken over
pub mark_goes : (old new : TableView) (parts : List Part) (seat place count : ℕ) (next : Part) (told : List Event) (answer : Option Answer) → length parts ≡ length old.seats → seat < length parts → part_at parts seat ≡ Marks place count
    → (seat_at old seat).post.layout ≡ old.layout → (seat_at old seat).desk.gift ≡ []
    → MarkUnit old new place count next told answer → Goes old new parts seat next told answer
mark_goes old new parts seat place count next told answer e h p layout gift u =
    let T : TableView = overlay old parts in
    let s : SeatView = seat_at old seat in
    let P : SeatView = laid_seat (Marks place count) s in
    let V : seat_at T seat ≡ P = view_at old parts seat e ∙ ap (λ (x : Part). laid_seat x s) p in
    let list : List ℕ = marking_words old place in
    let made : IsUnit T (with_seat T list seat (laid_seat (Over 2 false) s)) seat (events.End 2 (answers.Adopted count) ∷ []) (Some (answers.Adopted count))
    = plain_unit T seat list (laid_seat (Over 2 false) s) (events.End 2 (answers.Adopted count) ∷ []) (Some (answers.Adopted count)) P V refl
    (ap (λ (x : Layout). performed old.words (ops.Store (number x (PlaceOf place)) 3)) (sym layout))
    (over_is s 2 2 false refl gift)
    refl
    refl in
    let k = u.units in
    subst (λ (x : Part). Goes old new parts seat x told answer) (sym k.next_is)
    (subst (λ (x : List Event). Goes old new parts seat (Over 2 false) x answer) (sym k.told_is)
    (subst (λ (x : Option Answer). Goes old new parts seat (Over 2 false) (events.End 2 (answers.Adopted count) ∷ []) x) (sym k.answer_is)
    (words_go old new parts seat (Over 2 false) list (events.End 2 (answers.Adopted count) ∷ []) (Some (answers.Adopted count)) P e h u.table_is V (sym (ap is_stays p)) refl made)))

-- what an adoption asks for
take_op : (layout own : Layout) (place : ℕ) → own ≡ layout → ops.Cas (number own (PlaceOf place)) 1 2 ≡ ops.Cas (number layout (PlaceOf place)) 1 2
take_op layout own place e = ap (λ (l : Layout). ops.Cas (number l (PlaceOf place)) 1 2) e

pub miss_goes : (old new : TableView) (parts : List Part) (seat place : ℕ) (next : Part) (told : List Event) (answer : Option Answer) → length parts ≡ length old.seats → seat < length parts → part_at parts seat ≡ Takes place
    → (seat_at old seat).post.layout ≡ old.layout → (seat_at old seat).desk.gift ≡ []
    → MissUnit old new place next told answer → Goes old new parts seat next told answer
miss_goes old new parts seat place next told answer e h p layout gift u =
    let T : TableView = overlay old parts in
    let s : SeatView = seat_at old seat in
    let P : SeatView = laid_seat (Takes place) s in
    let V : seat_at T seat ≡ P = view_at old parts seat e ∙ ap (λ (x : Part). laid_seat x s) p in
    let op : asked P ≡ ops.Cas (number old.layout (PlaceOf place)) 1 2 = take_op old.layout s.post.layout place layout in
    let found : answered old.words (asked P) ≡ taking_found old place = ap (λ (x : Op). answered old.words x) op in
    let list : performed old.words (asked P) ≡ taking_words old place = ap (λ (x : Op). performed old.words x) op in
    let f : ℕ = answered old.words (asked P) in
    let miss : (f == 1) ≡ false = ap (λ (x : ℕ). x == 1) found ∙ u.found in
    let t : CallTurn = taking place (counted (at_steps 0 s.post)) (record (quiet_desk s.desk) { gift = (seat_at T place).desk.list }) false f in
    let unit : IsUnit T (taken_table T seat place (at_steps 0 s.post) (quiet_desk s.desk) (performed old.words (asked P)) false f) seat (told_by t) (answer_in t.outcome) = take_by T seat place (at_steps 0 s.post) (quiet_desk s.desk) false V miss t refl in
    let view : seat_after t ≡ laid_seat (Over 1 false) s = sym (over_is s 1 1 false refl gift) in
    let made : IsUnit T (with_seat T (taking_words old place) seat (laid_seat (Over 1 false) s)) seat (events.End 1 (not_taken f) ∷ []) (Some (not_taken f))
    = subst (λ (x : List ℕ). IsUnit T (with_seat T x seat (laid_seat (Over 1 false) s)) seat (events.End 1 (not_taken f) ∷ []) (Some (not_taken f))) list
    (subst (λ (v : SeatView). IsUnit T (with_seat T (performed old.words (asked P)) seat v) seat (events.End 1 (not_taken f) ∷ []) (Some (not_taken f))) view unit) in
    let k = u.units in
    subst (λ (x : Part). Goes old new parts seat x told answer) (sym k.next_is)
    (subst (λ (x : List Event). Goes old new parts seat (Over 1 false) x answer) (ap (λ (n : ℕ). events.End 1 (not_taken n) ∷ []) found ∙ sym k.told_is)
    (subst (λ (x : Option Answer). Goes old new parts seat (Over 1 false) (events.End 1 (not_taken f) ∷ []) x) (ap (λ (n : ℕ). Some (not_taken n)) found ∙ sym k.answer_is)
    (words_go old new parts seat (Over 1 false) (taking_words old place) (events.End 1 (not_taken f) ∷ []) (Some (not_taken f)) P e h u.table_is V (sym (ap is_stays p)) refl made)))

-- two seats change, in either order
set_swap : (views : List SeatView) (i j : ℕ) (v w : SeatView) → (i == j) ≡ false → slice_set (slice_set views i v) j w ≡ slice_set (slice_set views j w) i v
set_swap [] i j v w e = refl
set_swap (x ∷ views) zero zero v w e = cc
set_swap (x ∷ views) zero (suc j) v w e = refl
set_swap (x ∷ views) (suc i) zero v w e = refl
set_swap (x ∷ views) (suc i) (suc j) v w e = ap (λ (l : List SeatView). x ∷ l) (set_swap views i j v w (grind (arith, nat_tests, e)))

-- a list is taken over
gained_is : (s from : SeatView) (place : ℕ) (list : List Lifetime) → list ≡ from.desk.list → s.desk.gift ≡ []
    → seat_after (taking place (counted (at_steps 0 s.post)) (record (quiet_desk s.desk) { gift = list }) true 1) ≡ laid_seat (Marks place (length from.desk.list)) (gaining_seat from.desk.list s)
gained_is s from place list e g =
    ap (λ (l : List Lifetime). seat_after (taking place (counted (at_steps 0 s.post)) (record (quiet_desk s.desk) { gift = l }) true 1)) e
    ∙ ap (λ (l : List Lifetime). let v : SeatView = record { phase = Works (Keeping (MarkTaken place (length from.desk.list))); post = at_steps 1 s.post; desk = record s.desk { list = s.desk.list ++ from.desk.list; notes = no_notes; gift = l } } in v) (sym g)

pub adopt_goes : (old new : TableView) (parts : List Part) (seat place : ℕ) (next : Part) (told : List Event) (answer : Option Answer) → length parts ≡ length old.seats → seat < length parts → place < length parts → (place == seat) ≡ false → part_at parts seat ≡ Takes place
    → (seat_at old seat).post.layout ≡ old.layout → (seat_at old seat).desk.gift ≡ []
    → AdoptUnit old new seat place next told answer → Goes old new parts seat next told answer
adopt_goes old new parts seat place next told answer e h l apart p layout gift u =
    let T : TableView = overlay old parts in
    let s : SeatView = seat_at old seat in
    let from : SeatView = seat_at old place in
    let n : ℕ = list_count old place in
    let P : SeatView = laid_seat (Takes place) s in
    let V : seat_at T seat ≡ P = view_at old parts seat e ∙ ap (λ (x : Part). laid_seat x s) p in
    let op : asked P ≡ ops.Cas (number old.layout (PlaceOf place)) 1 2 = take_op old.layout s.post.layout place layout in
    let found : answered old.words (asked P) ≡ 1 = ap (λ (x : Op). answered old.words x) op ∙ u.found in
    let list : performed old.words (asked P) ≡ taking_words old place = ap (λ (x : Op). performed old.words x) op in
    let f : ℕ = answered old.words (asked P) in
    let left : (f == 1) ≡ true = ap (λ (x : ℕ). x == 1) found in
    let lent : (seat_at T place).desk.list ≡ from.desk.list = ap (λ (v : SeatView). v.desk.list) (view_at old parts place e) ∙ laid_list (part_at parts place) from in
    let t : CallTurn = taking place (counted (at_steps 0 s.post)) (record (quiet_desk s.desk) { gift = (seat_at T place).desk.list }) true f in
    let unit : IsUnit T (taken_table T seat place (at_steps 0 s.post) (quiet_desk s.desk) (performed old.words (asked P)) true f) seat (told_by t) (answer_in t.outcome) = take_by T seat place (at_steps 0 s.post) (quiet_desk s.desk) true V left t refl in
    let mark : Part = Marks place n in
    let view : seat_after t ≡ laid_seat mark (gaining_seat from.desk.list s) = gained_is s from place (seat_at T place).desk.list lent gift in
    let bared : bare_seat (seat_at T place) ≡ laid_seat (part_at parts place) (given_seat from) = ap bare_seat (view_at old parts place e) ∙ sym (laid_bare (part_at parts place) from) in
    let handed_is : handed_by T place true ≡ laid parts (slice_set old.seats place (given_seat from)) = ap (λ (v : SeatView). slice_set (laid parts old.seats) place v) bared ∙ sym (laid_view parts old.seats place (given_seat from)) in
    let both : slice_set (handed_by T place true) seat (seat_after t) ≡ laid (slice_set parts seat mark) (slice_set (slice_set old.seats place (given_seat from)) seat (gaining_seat from.desk.list s))
    = ap₂ (λ (views : List SeatView) (v : SeatView). slice_set views seat v) handed_is view
    ∙ sym (laid_both parts (slice_set old.seats place (given_seat from)) seat mark (gaining_seat from.desk.list s) (e ∙ sym (length-set old.seats place (given_seat from))) h) in
    let is : new ≡ record { layout = old.layout; words = taking_words old place; seats = slice_set (slice_set old.seats place (given_seat from)) seat (gaining_seat from.desk.list s) }
    = u.table_is ∙ ap (λ (views : List SeatView). let x : TableView = record { layout = old.layout; words = taking_words old place; seats = views } in x) (sym (set_swap old.seats place seat (given_seat from) (gaining_seat from.desk.list s) apart)) in
    let table : taken_table T seat place (at_steps 0 s.post) (quiet_desk s.desk) (performed old.words (asked P)) true f ≡ overlay new (slice_set parts seat mark)
    = ap₂ (λ (ws : List ℕ) (views : List SeatView). let x : TableView = record { layout = old.layout; words = ws; seats = views } in x) list both
    ∙ sym (ap (λ (x : TableView). overlay x (slice_set parts seat mark)) is) in
    let events_are : told_by t ≡ events.Adopted place n ∷ [] = ap (λ (g : List Lifetime). events.Adopted place (length g) ∷ []) lent in
    let k = u.units in
    let made : IsUnit T (overlay new (slice_set parts seat next)) seat told answer
    = subst (λ (x : Part). IsUnit T (overlay new (slice_set parts seat x)) seat told answer) (sym k.next_is)
    (subst (λ (x : List Event). IsUnit T (overlay new (slice_set parts seat mark)) seat x answer) (events_are ∙ sym k.told_is)
    (subst (λ (x : Option Answer). IsUnit T (overlay new (slice_set parts seat mark)) seat (told_by t) x) (sym k.answer_is)
    (subst (λ (x : TableView). IsUnit T x seat (told_by t) None) table unit))) in
    record {
      unit = made;
      seats = ap (λ (x : TableView). length x.seats) is ∙ length-set (slice_set old.seats place (given_seat from)) seat (gaining_seat from.desk.list s) ∙ length-set old.seats place (given_seat from);
      others = λ i m. ap (λ (x : TableView). (seat_at x i).phase) is ∙ ap (λ (v : SeatView). v.phase) (get_or-set_other (slice_set old.seats place (given_seat from)) seat i (gaining_seat from.desk.list s) (fresh_seat old.layout i) (let a : i ≢ seat = grind (arith, nat_tests) in a)) ∙ left_phase old place i (i == place) refl (subst (λ (x : ℕ). place < x) e l);
      own = λ m b. ap (λ (x : TableView). busy_in (seat_at x seat).phase) is ∙ ap (λ (v : SeatView). busy_in v.phase) (get_or-set_same (slice_set old.seats place (given_seat from)) seat (gaining_seat from.desk.list s) (fresh_seat old.layout seat) (subst (λ (x : ℕ). seat < x) (e ∙ sym (length-set old.seats place (given_seat from))) h)) ∙ b;
      kind = ap is_stays k.next_is ∙ sym (ap is_stays p);
      left = ap is_left k.next_is ∙ sym (ap (λ (v : SeatView). is_leaving v.phase) V);
    }
  where
    left_phase : (old : TableView) (place i : ℕ) (one : Bool) → (i == place) ≡ one → place < length old.seats → (get_or (slice_set old.seats place (given_seat (seat_at old place))) i (fresh_seat old.layout i)).phase ≡ (seat_at old i).phase
    left_phase old place i true e h =
        let is : i ≡ place = number_is i place e in
        ap (λ (n : ℕ). (get_or (slice_set old.seats place (given_seat (seat_at old place))) n (fresh_seat old.layout n)).phase) is
        ∙ ap (λ (v : SeatView). v.phase) (get_or-set_same old.seats place (given_seat (seat_at old place)) (fresh_seat old.layout place) h)
        ∙ ap (λ (n : ℕ). (seat_at old n).phase) (sym is)
    left_phase old place i false e h = let apart : i ≢ place = grind (arith, nat_tests) in ap (λ (v : SeatView). v.phase) (get_or-set_other old.seats place i (given_seat (seat_at old place)) (fresh_seat old.layout i) apart)
