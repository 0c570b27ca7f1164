-- What rows that are kept show of buckets, in each history.
use Rattle.std.proofs.Common.{ℕ, ◌≡◌, ◌<◌, ◌++◌, Bool, true, false, List, [], ◌∷◌, Option, Some, None, refl, sym, ap, ◌∙◌, subst}
use Rattle.std.specs.Prelude.{◌==◌, ◌&&◌, is_none, nat_lt}
use Rattle.law_held.proofs.inv.model.Facts.{and_false, first_of, not_of_false, number_is, rest_of}
use Rattle.law_held.specs.inv.model.Calls.{CallTurn, CallOutcome, GoesOn, Answers}
use Rattle.law_held.specs.inv.model.Desks.{Desk, noting}
use Rattle.law_held.specs.inv.model.Locals.{Local, begun, begun_post, rounds_told, settled_by, told_by, told_end, turn}
use Rattle.law_held.specs.inv.model.Posts.{counted, stands}
use Rattle.law_held.specs.inv.model.Rounds.{scheme_of}
use Rattle.law_held.specs.inv.model.words.Schemes.{publishes_rows}
use Rattle.law_held.specs.inv.model.World.{World, begin, finds, is_busy, offered, step, told_in}
use Rattle.law_held.specs.inv.model.declared.post.Post.{Post}
use Rattle.law_held.specs.inv.model.defs.declared.call.Answer.TheVariants as the_answers
use Rattle.law_held.specs.inv.model.defs.declared.call.Answer.{Answer}
use Rattle.law_held.specs.inv.model.defs.declared.call.Call.TheVariants as calls
use Rattle.law_held.specs.inv.model.defs.declared.call.Call.{Call}
use Rattle.law_held.specs.inv.model.defs.declared.event.Event.TheVariants as events
use Rattle.law_held.specs.inv.model.defs.declared.event.Event.{Event}
use Rattle.law_held.specs.inv.model.words.Place.{is_valid}
use Rattle.law_held.specs.inv.model.words.declared.layout.Layout.{Layout}
use Rattle.law_held.proofs.laws.Tells.{tells_both}
use Rattle.law_held.specs.laws.StateAt.{began_of, is_row, stood_at}
use Rattle.law_held.specs.inv.Inv.{Inv}
use Rattle.law_held.specs.inv.history.History.{Begins, Item, Made, Steps, done, done_if, first_made, fits, made_of, record_of, world_of}
use Rattle.law_held.specs.inv.history.Record.Past.{Then}
use Rattle.law_held.specs.inv.history.Record.{Each, Past, tells_of}
use Rattle.law_held.specs.inv.shapes.Frame.{phase_left}
use Rattle.law_held.proofs.inv.Inv.Reached.{inv_reached}
use Rattle.law_held.proofs.inv.Inv.Tells.{inv_tells}
use Rattle.law_held.proofs.inv.Machines.{is_within, within_of}
use Rattle.law_held.proofs.inv.covers.Held.{stepped_post}
use Rattle.law_reasons.proofs.inv.ends.Handover.Asks.{run_of}
use Rattle.law_held.proofs.inv.history.Along.{low_seat, made_snoc, paths_keep}
use Rattle.law_held.proofs.inv.history.AllOf.{all_of}
use Rattle.law_held.proofs.reuse.shapes.Frame.{begin_begins, begin_stays, seat_stays, seat_steps}
use Rattle.law_held.proofs.Roots.Ways.{answers_of}
use Rattle.law_reasons.proofs.reuse.BareEnds.{end_stood}
use Rattle.law_reasons.proofs.reuse.AnswersTold.Answering.{began_along, first_all, owes_of}
use Rattle.law_reasons.proofs.reuse.AnswersTold.Owed.{Owes, is_open, owed}
use Rattle.law_reasons.proofs.reuse.Reuse.Keeps.{record_stands}
use Rattle.law_reasons.proofs.Reasons.Shows.{Shows, begin_shows, first_book_shows, step_shows}
use Rattle.law_all.proofs.HeldRows.{held_step}
use Rattle.law_all.proofs.Logs.HoldPhases.{Missed, hold_begins, hold_goes, hold_phase, phase_missed}
use Rattle.law_all.proofs.Logs.Links.{links_step, records_start_right}
use Rattle.law_all.specs.Logs.Shown.{RecordsKeepShown, links_ok, misses_for, misses_ok, shows_ok}

links_item : (layout : Layout) (k j s : ℕ) → is_valid layout ≡ true → (path : List Item) (item : Item) (fit : Bool) → fits (world_of layout path) item ≡ fit
    → Each (links_ok k j s) (record_of layout path) → Each (links_ok k j s) (done_if (made_of layout path) item fit).past
links_item layout k j s d path item false f g = g
links_item layout k j s d path (Begins i call) true f g =
    (not_of_false (is_row s (stood_at k j (record_of layout path)) && false) (and_false (is_row s (stood_at k j (record_of layout path)))), g)
links_item layout k j s d path (Steps i) true f g =
    links_step (world_of layout path) i k j s (record_of layout path) (inv_reached layout path d) (record_stands layout path k j d) g

records_link_apart : (layout : Layout) (items : List Item) (k j s : ℕ) → is_valid layout ≡ true → Each (links_ok k j s) (record_of layout items)
records_link_apart layout items k j s d =
    paths_keep layout (λ (made : Made). Each (links_ok k j s) made.past) (λ path item fit f g. links_item layout k j s d path item fit f g) tt items

-- what holds tell as held
record Seen (layout : Layout) (made : Made) : Type 0 where
  shows : Shows made.world.book made.past
  each : Each (shows_ok layout.config.buckets) made.past

seen_item : (layout : Layout) → is_valid layout ≡ true → (path : List Item) (item : Item) (fit : Bool) → fits (world_of layout path) item ≡ fit → Seen layout (made_of layout path) → Seen layout (done_if (made_of layout path) item fit)
seen_item layout d path item false f g = g
seen_item layout d path (Begins i call) true f g = record { shows = begin_shows (world_of layout path).book (record_of layout path) i call g.shows; each = (refl, g.each) }
seen_item layout d path (Steps i) true f g =
    let w : World = world_of layout path in
    let p : Past = record_of layout path in
    let a : Inv w = inv_reached layout path d in
    let b : i < w.layout.config.seats = low_seat i w.layout.config.seats (is_busy w i) f in
    let y : is_busy w i ≡ true = rest_of (nat_lt i w.layout.config.seats) (is_busy w i) f in
    let k = answers_of layout path d in
    let right = k.seats i in
    record {
      shows = step_shows w i p (inv_tells w i b a).map g.shows;
      each = subst (λ (n : ℕ). Each (shows_ok n) (tells_of p i (told_in w i))) k.table
          (held_step w i p b a (right.began y) (right.serves y) g.shows (subst (λ (n : ℕ). Each (shows_ok n) p) (sym k.table) g.each));
    }

records_show : (layout : Layout) (items : List Item) → is_valid layout ≡ true → Each (shows_ok layout.config.buckets) (record_of layout items)
records_show layout items d = (paths_keep layout (Seen layout) (seen_item layout d) (record { shows = first_book_shows; each = tt }) items).each

-- a call that is a hold stands at the phases of holds
abbrev is_holding : Call → Bool
is_holding (calls.Hold key) = true
is_holding call = false

abbrev HoldsAt : Local → Type 0
HoldsAt l = is_holding l.call ≡ true → hold_phase l.phase ≡ true

begun_holds : (l : Local) (call : Call) → HoldsAt (begun l call)
begun_holds l (calls.Hold key) = λ c. hold_begins key (begun_post l.post) (stands l.post 2)
begun_holds l call = λ c. absurd (cc)

begin_holds : (w : World) (i k : ℕ) (call : Call) (same : Bool) → (k == i) ≡ same → ((m : ℕ) → HoldsAt (w.seat m)) → HoldsAt ((begin w i call).seat k)
begin_holds w i k call true e h =
    subst (λ (m : ℕ). HoldsAt ((begin w i call).seat m)) (sym (number_is k i e)) (subst HoldsAt (sym (begin_begins w i call)) (begun_holds (w.seat i) call))
begin_holds w i k call false e h = subst HoldsAt (sym (begin_stays w i k call e)) (h k)

settled_holds : (l : Local) (post : Post) (desk : Desk) (rounds : ℕ) (outcome : CallOutcome) → (is_holding l.call ≡ true → hold_phase (phase_left outcome) ≡ true) → HoldsAt (settled_by l post desk rounds outcome)
settled_holds l post desk rounds (GoesOn phase) h = h
settled_holds l post desk rounds (Answers answer) h = λ c. refl

step_holds : (w : World) (i k : ℕ) (same : Bool) → (k == i) ≡ same → ((m : ℕ) → HoldsAt (w.seat m)) → HoldsAt ((step w i).seat k)
step_holds w i k true e h =
    let t : CallTurn = turn (offered w i) (finds w i) in
    subst (λ (m : ℕ). HoldsAt ((step w i).seat m)) (sym (number_is k i e)) (subst HoldsAt (sym (seat_steps w i))
    (settled_holds (offered w i) t.post (noting t.desk (told_by t)) (rounds_told (publishes_rows (scheme_of t.post)) (w.seat i).rounds (told_by t)) t.outcome
    (λ c. hold_goes (w.seat i).phase (counted (w.seat i).post) (offered w i).desk (finds w i) (h i c))))
step_holds w i k false e h = subst HoldsAt (sym (seat_stays w i k e)) (h k)

-- what a step tells before its End is no end
open_misses : (p : Past) (i : ℕ) (event : Event) → is_open event ≡ true → misses_ok p i event ≡ true
open_misses p i (events.End steps answer) h = absurd (cc)
open_misses p i event h = refl

open_each : (i : ℕ) (told : List Event) (p : Past) → all_of is_open told ≡ true → Each misses_ok p → Each misses_ok (tells_of p i told)
open_each i [] p h g = g
open_each i (event ∷ told) p h g =
    open_each i told (Then p i event) (rest_of (is_open event) (all_of is_open told) h) (open_misses p i event (first_of (is_open event) (all_of is_open told) h), g)

-- its End
found_none : (call : Call) (stood : Option ℕ) → (is_holding call ≡ true → stood ≡ None) → misses_for (Some call) stood ≡ true
found_none (calls.Hold key) stood h = subst (λ (x : Option ℕ). is_none x ≡ true) (sym (h refl)) refl
found_none call stood h = refl

answer_misses : (i : ℕ) (call : Call) (q : Past) (post : Post) (answer : Answer) → began_of i q ≡ Some call → stood_at i 2 q ≡ stands post 2 → (is_holding call ≡ true → Missed post (Answers answer)) → misses_ok q i (events.End post.steps answer) ≡ true
answer_misses i call q post the_answers.Nothing b s h = subst (λ (x : Option Call). misses_for x (stood_at i 2 q) ≡ true) (sym b) (found_none call (stood_at i 2 q) (λ c. s ∙ h c))
answer_misses i call q post answer b s h = refl

end_misses : (i : ℕ) (call : Call) (q : Past) (post : Post) (outcome : CallOutcome) → began_of i q ≡ Some call → stood_at i 2 q ≡ stands post 2 → (is_holding call ≡ true → Missed post outcome) → Each misses_ok q
    → Each misses_ok (tells_of q i (told_end post outcome))
end_misses i call q post (GoesOn phase) b s h g = g
end_misses i call q post (Answers answer) b s h g = (answer_misses i call q post answer b s h, g)

before_stood : (i j : ℕ) (post : Post) (outcome : CallOutcome) (q : Past) → stood_at i j (tells_of q i (told_end post outcome)) ≡ stood_at i j q
before_stood i j post (GoesOn phase) q = refl
before_stood i j post (Answers answer) q = end_stood i j post.steps answer q

step_misses : (w : World) (i : ℕ) (p : Past) → Inv w → began_of i p ≡ Some (w.seat i).call → all_of is_open (turn (offered w i) (finds w i)).told ≡ true → HoldsAt (w.seat i)
    → stood_at i 2 (tells_of p i (told_in w i)) ≡ stands ((step w i).seat i).post 2 → Each misses_ok p → Each misses_ok (tells_of p i (told_in w i))
step_misses w i p a b o h s g =
    let t : CallTurn = turn (offered w i) (finds w i) in
    let q : Past = tells_of p i t.told in
    let within : all_of is_within t.told ≡ true = first_all is_within t.told (told_end t.post t.outcome) (within_of w i) in
    let along : tells_of p i (told_in w i) ≡ tells_of q i (told_end t.post t.outcome) = tells_both i t.told (told_end t.post t.outcome) p in
    let stood : stood_at i 2 q ≡ stands t.post 2 = sym (before_stood i 2 t.post t.outcome q) ∙ sym (ap (stood_at i 2) along) ∙ s ∙ ap (λ (x : Post). stands x 2) (stepped_post w i) in
    subst (Each misses_ok) (sym along)
    (end_misses i (w.seat i).call q t.post t.outcome (began_along i t.told p within ∙ b) stood
    (λ c. phase_missed w.layout (w.seat i).phase (w.seat i).post (counted (w.seat i).post) (offered w i).desk (finds w i) (h c) (λ why base e. run_of w i why base a.known.seats e) (a.known.rests.vacant i))
    (open_each i t.told p o g))

-- what holds tell that find nothing
record Missing (made : Made) : Type 0 where
  holds : (k : ℕ) → HoldsAt (made.world.seat k)
  each : Each misses_ok made.past

misses_item : (layout : Layout) → is_valid layout ≡ true → (path : List Item) (item : Item) (fit : Bool) → fits (world_of layout path) item ≡ fit → Missing (made_of layout path) → Missing (done_if (made_of layout path) item fit)
misses_item layout d path item false f g = g
misses_item layout d path (Begins i call) true f g = record { holds = λ k. begin_holds (world_of layout path) i k call (k == i) refl g.holds; each = (refl, g.each) }
misses_item layout d path (Steps i) true f g =
    let w : World = world_of layout path in
    let p : Past = record_of layout path in
    let a : Inv w = inv_reached layout path d in
    let y : is_busy w i ≡ true = rest_of (nat_lt i w.layout.config.seats) (is_busy w i) f in
    let k = answers_of layout path d in
    let right = k.seats i in
    let o : Owes layout.config.buckets (w.seat i).call (owed layout.config.buckets (w.seat i).call (w.seat i).phase) (turn (offered w i) (finds w i)) = owes_of layout.config.buckets w i k.table a (right.serves y) in
    let e : done (made_of layout path) (Steps i) ≡ made_of layout (path ++ Steps i ∷ []) = ap (done_if (made_of layout path) (Steps i)) (sym f) ∙ sym (made_snoc (first_made layout) path (Steps i)) in
    let stood : stood_at i 2 (tells_of p i (told_in w i)) ≡ stands ((step w i).seat i).post 2 =
    subst (λ (made : Made). stood_at i 2 made.past ≡ stands (made.world.seat i).post 2) (sym e) (record_stands layout (path ++ Steps i ∷ []) i 2 d) in
    record { holds = λ k. step_holds w i k (k == i) refl g.holds; each = step_misses w i p a (right.began y) o.told.goes (g.holds i) stood g.each }

records_miss : (layout : Layout) (items : List Item) → is_valid layout ≡ true → Each misses_ok (record_of layout items)
records_miss layout items d = (paths_keep layout Missing (misses_item layout d) (record { holds = λ k c. refl; each = tt }) items).each

pub records_keep_shown : RecordsKeepShown
records_keep_shown layout items d =
    record { links = λ k j s. records_link_apart layout items k j s d; shows = records_show layout items d; misses = records_miss layout items d; starts = records_start_right layout items }
