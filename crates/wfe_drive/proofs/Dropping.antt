-- A call by which a seat lets go of what stands at one index, as one step of its World.
use Rattle.std.proofs.Common.{Bool, List, [], ap, arith, false, refl, subst, sym, true, ℕ, ◌++◌, ◌<◌, ◌∙◌, ◌∷◌, ◌≡◌, ◌≤◌}
use Rattle.std.proofs.lemmas.Bool.Decides.{nat_tests}
use Rattle.std.specs.Prelude.{None, Option, Some, nat_le, nat_lt, ◌&&◌, ◌==◌}
use Rattle.wfe_core.specs.words.Place.{Place}
use Rattle.wfe_core.specs.words.declared.layout.Layout.{Layout}
use Rattle.wfe_core.specs.defs.declared.call.Answer.TheVariants as answers
use Rattle.wfe_core.specs.defs.declared.call.Call.{Call}
use Rattle.wfe_core.specs.defs.declared.call.Call.TheVariants as names
use Rattle.wfe_core.specs.defs.declared.event.Event.{Event}
use Rattle.wfe_core.specs.defs.declared.event.Event.TheVariants as events
use Rattle.wfe_core.specs.defs.declared.event.Guard.{Guard}
use Rattle.wfe_core.specs.defs.declared.lifetime.Interval.{Interval}
use Rattle.wfe_core.specs.defs.declared.lifetime.Lifetime.{Lifetime}
use Rattle.wfe_core.specs.Calls.{Answers, CallOutcome, CallTurn, Dropped, Idle, Keeping, Loosens, Phase, Releases, Runs, Works}
use Rattle.wfe_core.specs.Desks.{Desk, Notes, no_notes, noted_all, noting}
use Rattle.wfe_core.specs.Locals.{Local, after, begun, begun_post, busy_in, rounds_told, settled, settled_by, told_by, turn}
use Rattle.wfe_core.specs.Memory.{Move, written}
use Rattle.wfe_core.specs.Phases.Base.{Clear, Release}
use Rattle.wfe_core.specs.Posts.{cleared, counted, publishes_index, stands, with_span, withdrawn}
use Rattle.wfe_core.specs.Rounds.{letting, scheme_of}
use Rattle.wfe_core.specs.Steps.{phase_move, phase_turn}
use Rattle.wfe_core.specs.World.{World, begin, finds, is_busy, is_here, may_start, offered, step}
use Rattle.wfe_core.specs.declared.post.Post.{Post}
use Rattle.wfe_core.proofs.Facts.{both}
use Rattle.wfe_drive_cells.specs.Unit.{kept_desk}
use Rattle.law_reuse.specs.inv.Inv.{Inv}
use Rattle.law_reuse.proofs.inv.Inv.Begun.{inv_begin}
use Rattle.law_reuse.proofs.inv.Inv.Kept.{inv_kept}
use Rattle.law_reuse.proofs.shapes.Frame.{begin_begins, begin_stays, seat_stays, seat_steps}
use Rattle.wfe_drive.specs.Reached.{StaysIn}
use Rattle.wfe_drive.proofs.Staying.{begin_right, first_busy, step_right}
use Rattle.wfe_core.specs.words.Schemes.{publishes_rows}

-- the notes of a call of one step that gave no row back
abbrev pub one_step : Notes
one_step = record no_notes { steps = 1 }

-- a turn that ends such a call, and leaves this post
record DropTurn (t : CallTurn) (desk : Desk) (left : Post) : Type 0 where
  outcome : t.outcome ≡ Answers answers.Dropped
  post : t.post ≡ left
  noted : noting t.desk (told_by t) ≡ record desk { notes = one_step }

-- an index word publishes nothing any more
cleared_notes : (rows : Bool) (index : ℕ) (post : Post) (steps : ℕ) (row : Option ℕ) → noted_all no_notes ((cleared index row ++ publishes_index rows post index 0) ++ events.End steps answers.Dropped ∷ []) ≡ record no_notes { steps = steps }
cleared_notes false index post steps None = refl
cleared_notes false index post steps (Some slot) = refl
cleared_notes true index post steps None = refl
cleared_notes true index post steps (Some slot) = refl

-- nor does the interval's
released_notes : (index steps : ℕ) (row : Option ℕ) (guard : Guard) (span : Option Interval) → noted_all no_notes ((cleared index row ++ events.Reserve guard span ∷ []) ++ events.End steps answers.Dropped ∷ []) ≡ record no_notes { steps = steps }
released_notes index steps None guard span = refl
released_notes index steps (Some slot) guard span = refl

loosened_notes : (index steps : ℕ) (row : Option ℕ) → noted_all no_notes (cleared index row ++ events.End steps answers.Dropped ∷ []) ≡ record no_notes { steps = steps }
loosened_notes index steps None = refl
loosened_notes index steps (Some slot) = refl

clear_turn : (rows : Bool) (index : ℕ) (post : Post) (desk : Desk) (found : ℕ) → DropTurn (phase_turn (Runs (Releases (Dropped index)) (Clear rows index)) (counted (begun_post post)) (record desk { notes = no_notes }) found) desk (withdrawn (counted (begun_post post)) index)
clear_turn rows index post desk found = record { outcome = refl; post = refl; noted = ap (λ (notes : Notes). let d : Desk = record desk { notes = notes } in d) (cleared_notes rows index (counted (begun_post post)) 1 (stands post index)) }

release_turn : (index : ℕ) (post : Post) (desk : Desk) (found : ℕ) → DropTurn (phase_turn (Runs (Releases (Dropped index)) (Release index)) (counted (begun_post post)) (record desk { notes = no_notes }) found) desk (with_span (withdrawn (counted (begun_post post)) index) None)
release_turn index post desk found = record { outcome = refl; post = refl; noted = ap (λ (notes : Notes). let d : Desk = record desk { notes = notes } in d) (released_notes index 1 (stands post index) _ _) }

loosen_turn : (index : ℕ) (post : Post) (desk : Desk) (found : ℕ) → DropTurn (phase_turn (Works (Keeping (Loosens (Dropped index)))) (counted (begun_post post)) (record desk { notes = no_notes }) found) desk (withdrawn (counted (begun_post post)) index)
loosen_turn index post desk found = record { outcome = refl; post = refl; noted = ap (λ (notes : Notes). let d : Desk = record desk { notes = notes } in d) (loosened_notes index 1 (stands post index)) }

-- a seat whose call has ended so
record Ended (l : Local) (old : Desk) (left : Post) : Type 0 where
  idle : l.phase ≡ Idle
  post : l.post ≡ left
  desk : l.desk ≡ record old { notes = one_step }

ended : (l : Local) (t : CallTurn) (desk : Desk) (post : Post) → DropTurn t desk post → Ended (settled l t) desk post
ended l t desk post d =
    let rounds : ℕ = rounds_told (publishes_rows (scheme_of t.post)) l.rounds (told_by t) in
    let is : settled l t ≡ settled_by l t.post (noting t.desk (told_by t)) rounds (Answers answers.Dropped) = ap (settled_by l t.post (noting t.desk (told_by t)) rounds) d.outcome in
    record {
      idle = ap (λ (x : Local). x.phase) is;
      post = ap (λ (x : Local). x.post) is ∙ d.post;
      desk = ap (λ (x : Local). x.desk) is ∙ d.noted;
    }

-- the World after the call
abbrev pub dropped : World → (i index : ℕ) → World
dropped w i index = step (begin w i (names.DropIndex index)) i

pub record Drops (w : World) (i index : ℕ) (phase : Phase) (left : Post) : Type 0 where
  pub known : Inv (dropped w i index)
  pub right : (k : ℕ) → StaysIn (dropped w i index) k
  pub others : (k : ℕ) → (k == i) ≡ false → (dropped w i index).seat k ≡ w.seat k
  pub mem : (dropped w i index).mem ≡ written w.mem (phase_move phase (begun_post (w.seat i).post))
  pub idle : ((dropped w i index).seat i).phase ≡ Idle
  pub post : ((dropped w i index).seat i).post ≡ left
  pub desk : kept_desk ((dropped w i index).seat i).desk ≡ record (kept_desk (w.seat i).desk) { notes = one_step }

-- what is known of the World and the index
pub record MayDrop (w : World) (i index : ℕ) : Type 0 where
  pub known : Inv w
  pub right : (k : ℕ) → StaysIn w k
  pub below : i < w.layout.config.seats
  pub free : is_busy w i ≡ false
  pub low : 2 ≤ index
  pub high : index < w.layout.config.indexes

drop_by : (w : World) (i index : ℕ) (phase : Phase) (post : Post) → MayDrop w i index → letting (Dropped index) (begun_post (w.seat i).post) ≡ phase
    → ((desk : Desk) (found : ℕ) → DropTurn (phase_turn phase (counted (begun_post (w.seat i).post)) (record desk { notes = no_notes }) found) desk post) → Drops w i index phase post
drop_by w i index phase post m e made =
    let call : Call = names.DropIndex index in
    let b : World = begin w i call in
    let stay : StaysIn w i = m.right i in
    let may : may_start w i call ≡ true = both (is_here w i) (nat_le 2 index && nat_lt index w.layout.config.indexes) (ap (λ (word : ℕ). word == 0) stay.here)
    (both (nat_le 2 index) (nat_lt index w.layout.config.indexes) (let l = m.low in grind (arith, nat_tests)) (let h = m.high in grind (arith, nat_tests))) in
    let known : Inv b = inv_begin w i call m.free may m.known in
    let right : (k : ℕ) → StaysIn b k = λ k. begin_right w i k call (k == i) refl m.below known refl m.right in
    let is : b.seat i ≡ begun (w.seat i) call = begin_begins w i call in
    let busy : is_busy b i ≡ true = ap (λ (x : Local). busy_in x.phase) is ∙ first_busy call (begun_post (w.seat i).post) in
    let gift : List Lifetime = (offered b i).desk.gift in
    let found : ℕ = finds b i in
    let given : Local → Local = λ x. record x { desk = record x.desk { gift = gift } } in
    let l : Local = given (begun (w.seat i) call) in
    let desk : Desk = record (w.seat i).desk { gift = gift } in
    let t : DropTurn (turn l found) desk post = subst (λ (p : Phase). DropTurn (phase_turn p (counted (begun_post (w.seat i).post)) (record desk { notes = no_notes }) found) desk post) (sym e) (made desk found) in
    let end : Ended (settled l (turn l found)) desk post = ended l (turn l found) desk post t in
    let now : (step b i).seat i ≡ settled l (turn l found) = seat_steps b i ∙ ap (λ (x : Local). after (given x) found) is in
    record {
      known = inv_kept b i m.below known;
      right = λ k. step_right b i k (k == i) refl m.below busy known right;
      others = λ k o. seat_stays b i k o ∙ begin_stays w i k call o;
      mem = ap (λ (x : Local). written w.mem (phase_move x.phase x.post)) is ∙ ap (λ (p : Phase). written w.mem (phase_move p (begun_post (w.seat i).post))) e;
      idle = ap (λ (x : Local). x.phase) now ∙ end.idle;
      post = ap (λ (x : Local). x.post) now ∙ end.post;
      desk = ap (λ (x : Local). kept_desk x.desk) now ∙ ap kept_desk end.desk;
    }

pub drop_clear : (rows : Bool) (w : World) (i index : ℕ) → MayDrop w i index → letting (Dropped index) (begun_post (w.seat i).post) ≡ Runs (Releases (Dropped index)) (Clear rows index)
    → Drops w i index (Runs (Releases (Dropped index)) (Clear rows index)) (withdrawn (counted (begun_post (w.seat i).post)) index)
drop_clear rows w i index m e = drop_by w i index (Runs (Releases (Dropped index)) (Clear rows index)) (withdrawn (counted (begun_post (w.seat i).post)) index) m e (clear_turn rows index (w.seat i).post)

pub drop_release : (w : World) (i index : ℕ) → MayDrop w i index → letting (Dropped index) (begun_post (w.seat i).post) ≡ Runs (Releases (Dropped index)) (Release index)
    → Drops w i index (Runs (Releases (Dropped index)) (Release index)) (with_span (withdrawn (counted (begun_post (w.seat i).post)) index) None)
drop_release w i index m e = drop_by w i index (Runs (Releases (Dropped index)) (Release index)) (with_span (withdrawn (counted (begun_post (w.seat i).post)) index) None) m e (release_turn index (w.seat i).post)

pub drop_loosen : (w : World) (i index : ℕ) → MayDrop w i index → letting (Dropped index) (begun_post (w.seat i).post) ≡ Works (Keeping (Loosens (Dropped index)))
    → Drops w i index (Works (Keeping (Loosens (Dropped index)))) (withdrawn (counted (begun_post (w.seat i).post)) index)
drop_loosen w i index m e = drop_by w i index (Works (Keeping (Loosens (Dropped index)))) (withdrawn (counted (begun_post (w.seat i).post)) index) m e (loosen_turn index (w.seat i).post)
