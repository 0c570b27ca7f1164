-- A call that a seat has made on the shared table: the seat after it is sound, and what its record says.
use Rattle.std.proofs.Common.{List, None, Some, [], ap, false, refl, subst, sym, true, ℕ, ◌++◌, ◌∙◌, ◌∷◌, ◌≡◌}
use Rattle.wfe_core.specs.Locals.{Group, Local, busy_in}
use Rattle.wfe_core.specs.declared.op.Op.{Op}
use Rattle.wfe_core.specs.declared.post.Post.{Post}
use Rattle.wfe_core.specs.defs.declared.call.Answer.{Answer}
use Rattle.wfe_core.specs.defs.declared.call.Call.{Call}
use Rattle.wfe_core.specs.words.Place.{is_valid}
use Rattle.wfe_core.specs.words.declared.layout.Layout.{Layout}
use Rattle.wfe_drive_rule.specs.drive_cells.Unit.{SeatView, shown}
use Rattle.law_bounds.specs.all.Logs.Reports.{IsReported}
use Rattle.law_bounds.specs.all.Logs.Answered.{Says}
use Rattle.law_bounds.specs.all.Logs.Versions.{Counts, counts_of, met_by, met_in}
use Rattle.law_bounds.proofs.all.Logs.Reports.{records_report}
use Rattle.law_bounds.proofs.all.Logs.Meets.{logs_extend}
use Rattle.law_bounds.proofs.all.Records.{calls_answer, logs_answer}
use Rattle.law_bounds.proofs.all.Whole.{histories_are_lawful}
use Rattle.law_bounds.specs.Waits.{WaitsFew, came_in, last_call}
use Rattle.law_bounds.proofs.Waits.Came.{came_more, last_more}
use Rattle.law_bounds.proofs.Waits.Seats.{seats_wait_few}
use Rattle.law_bounds.proofs.Whole.{histories_are_bounded}
use Rattle.laws.specs.Standing.{is_leave}
use Rattle.wfe_drive_call.specs.drive_words.Called.{Called, Ends, Here, LeadsTo}
use Rattle.wfe_drive_call.specs.drive_words.Comes.{departs}
use Rattle.wfe_drive_rule.specs.Handles.{IsResting, IsSeated, IsTracked}
use Rattle.wfe_drive_rule.specs.Views.{Handle, Track, call_in, entered, own, seat_of, standing}
use Rattle.wfe_drive_rule.specs.history.History.{Item, record_of, world_of}
use Rattle.wfe_drive_rule.proofs.Seated.{resting_slot}
use Rattle.law_bounds.proofs.Paces.{histories_are_paced}
use Rattle.wfe_table.specs.Calls.{IsBoundedPast, IsLawfulPast, IsMade, IsPacedPast, group_of}
use Rattle.wfe_table.specs.Public.{SeatNow}
use Rattle.wfe_table.specs.Sound.{IsMet}

-- a resting handle's seat stands where its track says
pub stands_at : (handle : Handle) → IsResting handle → standing handle ≡ (own handle.0).local
stands_at handle r = ap (entered (own handle.0).local) (resting_slot (own handle.0).local (call_in handle.1) r)

-- its code may begin a call there
pub rests_here : (handle : Handle) (seat : SeatView) → IsResting handle → shown (own handle.0).local ≡ seat → departs (own handle.0).local.call ≡ false → Here (λ l. standing handle ≡ l) seat
rests_here handle seat r e d =
    let at : standing handle ≡ (own handle.0).local = stands_at handle r in
    let idle : busy_in (own handle.0).local.phase ≡ false = ap (λ (l : Local). busy_in l.phase) (sym at) ∙ r in
    record { local = (own handle.0).local; there = at; is = e; staying = λ b. absurd (cc); here = d }

-- and is there after it
pub still_there : (handle : Handle) (seat : SeatView) → IsResting handle → Here (λ l. standing handle ≡ l) seat → departs (own handle.0).local.call ≡ false
still_there handle seat r h = ap (λ (l : Local). departs l.call) (sym (stands_at handle r) ∙ h.there) ∙ h.here

-- what the call came to: where its seat stands now, and by which operations
pub record Over (call : Call) (answer : Answer) (old new : Handle) (seat : SeatView) : Type 0 where
  pub resting : IsResting new
  pub here : shown (own new.0).local ≡ seat
  pub ops : List (Op × ℕ)
  pub ends : Ends call answer ops (own old.0).local (own new.0).local

pub over : (call : Call) (answer : Answer) (old new : Handle) (stands_old stands_new : List (Op × ℕ) → Type 0) (before after : SeatView) → IsResting old → shown (own old.0).local ≡ before
    → Called call answer (λ l. standing old ≡ l) (λ l. standing new ≡ l) stands_old stands_new before after → Over call answer old new after
over call answer old new stands_old stands_new before after rest e made =
    let at : standing old ≡ (own old.0).local = stands_at old rest in
    let led : LeadsTo (Ends call answer) (λ l. standing new ≡ l) after made.ops (own old.0).local = made.each (own old.0).local at e in
    let r : IsResting new = ap (λ (l : Local). busy_in l.phase) led.there ∙ ap busy_in led.by.left.idle in
    let now : (own new.0).local ≡ led.left = sym (stands_at new r) ∙ led.there in
    record {
      resting = r;
      here = ap shown now ∙ led.is;
      ops = made.ops;
      ends = subst (Ends call answer made.ops (own old.0).local) (sym now) led.by;
    }

-- the versions seen, with the answer's
pub met_more : (buckets : ℕ) (call : Call) (answer : Answer) (before after : Local) (ops : List (Op × ℕ)) (list more : List ℕ) → Ends call answer ops before after → IsMet buckets (met_in buckets before.log) list
    → ((met : Counts) → IsMet buckets met list → IsMet buckets (met_by buckets call answer met) more) → IsMet buckets (met_in buckets after.log) more
met_more buckets call answer before after ops list more ends m f =
    let group : Group = record { call = call; answer = answer; notes = after.desk.notes } in
    let e : met_in buckets after.log ≡ met_by buckets call answer (met_in buckets before.log) = ap (met_in buckets) ends.left.log ∙ logs_extend buckets before.log group in
    subst (λ (met : Counts). IsMet buckets met more) (sym e) (f (met_in buckets before.log) m)

is_lawful : (layout : Layout) (past : List Item) → is_valid layout ≡ true → IsLawfulPast layout past
unfolding IsLawfulPast
is_lawful layout past valid = histories_are_lawful layout past valid

is_bounded : (layout : Layout) (past : List Item) → is_valid layout ≡ true → IsBoundedPast layout past
unfolding IsBoundedPast
is_bounded layout past valid = histories_are_bounded layout past valid

is_paced : (layout : Layout) (past : List Item) → is_valid layout ≡ true → IsPacedPast layout past
unfolding IsPacedPast
is_paced layout past valid = histories_are_paced layout past valid

-- what waits for the seat, by its past
waits_few : (layout : Layout) (old new : SeatNow) (call : Call) (answer : Answer) (ops : List (Op × ℕ)) → IsTracked layout new.track → Ends call answer ops old.track.local new.track.local → is_leave (Some call) ≡ false
    → WaitsFew layout.config (seat_of new.track) (record_of layout new.track.past) new.track.local.log new.track.local.desk.list
waits_few layout old new call answer ops t ends stays =
    let group : Group = group_of call answer new in
    let last : is_leave (last_call new.track.local.log) ≡ false = ap (λ (log : List Group). is_leave (last_call log)) ends.left.log ∙ ap is_leave (last_more None old.track.local.log group) ∙ stays in
    subst (λ (l : Local). WaitsFew layout.config (seat_of new.track) (record_of layout new.track.past) l.log l.desk.list) t.stood
    (seats_wait_few layout new.track.past (seat_of new.track) t.valid (ap (λ (l : Local). busy_in l.phase) t.stood ∙ ap busy_in ends.left.idle)
    (ap (λ (l : Local). is_leave (last_call l.log)) t.stood ∙ last))

-- the seat before its call: it stands where its past leaves it, and no call is under way
pub record Rests (layout : Layout) (track : Track) : Type 0 where
  pub tracked : IsTracked layout track
  pub idle : busy_in track.local.phase ≡ false

pub rests_as : (layout key : Layout) (slot : ℕ) (handle : Handle) → IsSeated layout slot handle → IsResting handle → layout ≡ key → Rests key (own handle.0)
rests_as layout key slot handle s r e = record { tracked = subst (λ (d : Layout). IsTracked d (own handle.0)) e s.tracked; idle = ap (λ (l : Local). busy_in l.phase) (sym (stands_at handle r)) ∙ r }

-- what the answer says by what the seat's past had before the call
says_known : (layout : Layout) (old new : SeatNow) (call : Call) (answer : Answer) (ops : List (Op × ℕ)) (more : List Item) → Rests layout old.track → IsTracked layout new.track → Ends call answer ops old.track.local new.track.local
    → new.track.past ≡ old.track.past ++ more → Says layout.config (counts_of (record_of layout old.track.past)) (record_of layout new.track.past) call answer
says_known layout old new call answer ops more r t ends grows =
    let i : ℕ = seat_of old.track in
    let group : Group = group_of call answer new in
    let now : (world_of layout (old.track.past ++ more)).seat i ≡ new.track.local =
    ap (λ (z : List Item). (world_of layout z).seat i) (sym grows) ∙ ap (world_of layout new.track.past).seat (sym ends.left.place.seat) ∙ t.stood in
    subst (λ (z : List Item). Says layout.config (counts_of (record_of layout old.track.past)) (record_of layout z) call answer) (sym grows)
    (calls_answer layout old.track.past more i [] group r.tracked.valid (ap (λ (l : Local). busy_in l.phase) r.tracked.stood ∙ r.idle)
    (ap (λ (l : Local). l.log) now ∙ ends.left.log ∙ ap (λ (l : Local). l.log ++ group ∷ []) (sym r.tracked.stood)))

-- what the record of the seat's history says of the call
pub made_by : (layout : Layout) (old new : SeatNow) (call : Call) (answer : Answer) (ops : List (Op × ℕ)) (more : List Item) → Rests layout old.track → IsTracked layout new.track → Ends call answer ops old.track.local new.track.local
    → new.track.past ≡ old.track.past ++ more → IsMade layout old new call answer
made_by layout old new call answer ops more r t ends grows = record {
  ops = ops;
  ends = ends;
  more = more;
  grows = grows;
  tracked = t;
  answered = logs_answer layout new.track.past (seat_of new.track) old.track.local.log [] (group_of call answer new) t.valid (ap (λ (l : Local). l.log) t.stood ∙ ends.left.log);
  known = says_known layout old new call answer ops more r t ends grows;
  lawful = is_lawful layout new.track.past t.valid;
  reported = subst (λ (l : Local). IsReported layout (seat_of new.track) (record_of layout new.track.past) l.desk.report) t.stood
      (records_report layout new.track.past (seat_of new.track) t.valid (ap (λ (l : Local). busy_in l.phase) t.stood ∙ ap busy_in ends.left.idle));
  bounded = is_bounded layout new.track.past t.valid;
  paced = is_paced layout new.track.past t.valid;
  waits = λ stays. waits_few layout old new call answer ops t ends stays;
  came = ap came_in ends.left.log ∙ came_more 0 old.track.local.log (group_of call answer new);
}

-- its operations are these
pub made_over : (layout : Layout) (old new : SeatNow) (call : Call) (answer : Answer) (ops : List (Op × ℕ)) (more : List Item) (r : Rests layout old.track) (t : IsTracked layout new.track) (ends : Ends call answer ops old.track.local new.track.local)
    (grows : new.track.past ≡ old.track.past ++ more) → (made_by layout old new call answer ops more r t ends grows).ops ≡ ops
unfolding made_by
made_over layout old new call answer ops more r t ends grows = refl

-- the handle's slot is that of its seat's number, on a table of this layout
pub seated_as : (layout : Layout) (slot : ℕ) (post : Post) (handle : Handle) → IsSeated layout slot handle → post.layout ≡ layout → slot ≡ post.seat → IsSeated post.layout post.seat handle
seated_as layout slot post handle s table number = subst (λ (d : Layout). IsSeated d post.seat handle) (sym table) (subst (λ (k : ℕ). IsSeated layout k handle) number s)
