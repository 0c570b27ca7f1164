-- The turns of a seat that leaves, and of one that adopts, beside what the rig makes of them.
use Rattle.std.proofs.Common.{Bool, List, [], ap, ap₂, arith, drop, false, refl, slice_set, subst, sym, true, ℕ, zero, suc, ◌++◌, ◌+◌, ◌∙◌, ◌≡◌, ◌∷◌}
use Rattle.std.proofs.lemmas.List.{append-nil}
use Rattle.std.specs.Prelude.{None, Option, Some, if◌then◌else◌, not}
use Rattle.wfe_core.specs.words.Schemes.{has_one_interval, publishes_rows}
use Rattle.wfe_core.specs.defs.declared.event.Event.{Event}
use Rattle.wfe_core.specs.defs.declared.lifetime.Interval.{Interval}
use Rattle.wfe_core.specs.defs.declared.lifetime.Lifetime.{Lifetime}
use Rattle.wfe_core.specs.Calls.{HideSpan, Keeping, MarkLeft, Parting, Phase, Releases, Runs, Works}
use Rattle.wfe_core.specs.Desks.{Desk, Notes, no_notes, noted_all}
use Rattle.wfe_core.specs.Keep.{parting, parting_from, parting_index, parting_span}
use Rattle.wfe_core.specs.Locals.{told_by}
use Rattle.wfe_core.specs.Memory.{bump}
use Rattle.wfe_core.specs.Phases.Base.{Clear}
use Rattle.wfe_core.specs.Posts.{cleared, cleared_from, counted, publishes_index, reserves_span, standing_from, stands, withdrawn, withdrawn_all}
use Rattle.wfe_core.specs.Rounds.{scheme_of}
use Rattle.wfe_core.specs.Steps.{call_op, phase_turn}
use Rattle.wfe_core.specs.declared.post.Post.{Post}
use Rattle.wfe_drive_cells.specs.Unit.{SeatView, answer_in, seat_after}
use Rattle.wfe_drive_seat.specs.Leaving.{is_marking, let_seat}
use Rattle.wfe_drive.specs.inv.Places.{is_leaving}
use Rattle.wfe_leave.specs.declared.part.Part.TheVariants.{Parts}
use Rattle.wfe_leave.specs.Parts.{at_steps, laid_seat, quiet_desk}

-- what a seat that leaves does next
pub data Clearing (post : Post) : Type 0 where
  Bare : parting post ≡ Works (Keeping MarkLeft) → Clearing post
  Hides : has_one_interval (scheme_of post) ≡ true → parting post ≡ Works (Keeping HideSpan) → Clearing post
  Frees : (index : ℕ) → has_one_interval (scheme_of post) ≡ false → standing_from 2 (drop 2 post.standing) ≡ Some index → parting post ≡ Runs (Releases (Parting index)) (Clear (publishes_rows (scheme_of post)) index) → Clearing post

scheme_is : (post : Post) (one : Bool) → has_one_interval (scheme_of post) ≡ one → parting post ≡ (if one then parting_span post.span else parting_from 2 post)
scheme_is post one e = ap (λ (x : Bool). if x then parting_span post.span else parting_from 2 post) e

pub clearing : (post : Post) → Clearing post
clearing post = by_scheme (has_one_interval (scheme_of post)) refl
  where
    by_span : (x : Option Interval) → has_one_interval (scheme_of post) ≡ true → parting post ≡ parting_span x → Clearing post
    by_span None h e = Bare e
    by_span (Some span) h e = Hides h e

    by_index : (x : Option ℕ) → has_one_interval (scheme_of post) ≡ false → standing_from 2 (drop 2 post.standing) ≡ x → parting post ≡ parting_index (publishes_rows (scheme_of post)) x → Clearing post
    by_index None h s e = Bare e
    by_index (Some index) h s e = Frees index h s e

    by_scheme : (one : Bool) → has_one_interval (scheme_of post) ≡ one → Clearing post
    by_scheme true e = by_span post.span e (scheme_is post true e)
    by_scheme false e = by_index (standing_from 2 (drop 2 post.standing)) e refl (scheme_is post false e)

-- once the first that stands is let go, the next is the first after it
record Next (base : ℕ) (rows : List (Option ℕ)) (index : ℕ) : Type 0 where
  place : ℕ
  is : index ≡ base + place
  same : standing_from base (slice_set rows place None) ≡ standing_from (index + 1) (drop (suc place) (slice_set rows place None))

next_from : (base : ℕ) (rows : List (Option ℕ)) (index : ℕ) → standing_from base rows ≡ Some index → Next base rows index
next_from base [] index h = absurd (cc)
next_from base (None ∷ rows) index h =
    let n : Next (base + 1) rows index = next_from (base + 1) rows index h in
    record { place = suc n.place; is = (let e = n.is in omega (arith, e)); same = n.same }
next_from base (Some slot ∷ rows) index h =
    let e : base ≡ index = cc in
    record { place = zero; is = omega (arith, e); same = ap (λ (n : ℕ). standing_from (n + 1) rows) e }

pub next_stands : (standing : List (Option ℕ)) (index : ℕ) → standing_from 2 (drop 2 standing) ≡ Some index
    → standing_from 2 (drop 2 (slice_set standing index None)) ≡ standing_from (index + 1) (drop (index + 1) (slice_set standing index None))
next_stands [] index h = absurd (cc)
next_stands (a ∷ []) index h = absurd (cc)
next_stands (a ∷ b ∷ rows) index h =
    let n : Next 2 rows index = next_from 2 rows index h in
    let e : index ≡ suc (suc n.place) = (let i = n.is in omega (arith, i)) in
    let f : index + 1 ≡ suc (suc (suc n.place)) = omega (arith, e) in
    ap (λ (j : ℕ). standing_from 2 (drop 2 (slice_set (a ∷ b ∷ rows) j None))) e
    ∙ n.same
    ∙ ap₂ (λ (j k : ℕ). standing_from (index + 1) (drop k (slice_set (a ∷ b ∷ rows) j None))) (sym e) (sym f)

-- what is let go is not noted
noted_append : (notes : Notes) (xs ys : List Event) → noted_all notes (xs ++ ys) ≡ noted_all (noted_all notes xs) ys
noted_append notes [] ys = refl
noted_append notes (x ∷ xs) ys = noted_append _ xs ys

cleared_quiet : (notes : Notes) (index : ℕ) (row : Option ℕ) → noted_all notes (cleared index row) ≡ notes
cleared_quiet notes index None = refl
cleared_quiet notes index (Some slot) = refl

all_quiet : (notes : Notes) (index : ℕ) (rows : List (Option ℕ)) → noted_all notes (cleared_from index rows) ≡ notes
all_quiet notes index [] = refl
all_quiet notes index (row ∷ rows) =
    noted_append notes (cleared index row) (cleared_from (index + 1) rows) ∙ ap (λ (n : Notes). noted_all n (cleared_from (index + 1) rows)) (cleared_quiet notes index row) ∙ all_quiet notes (index + 1) rows

hide_quiet : (notes : Notes) (index : ℕ) (rows : List (Option ℕ)) (post : Post) → noted_all notes ((cleared_from index rows ++ reserves_span post None) ++ []) ≡ notes
hide_quiet notes index rows post =
    ap (noted_all notes) (append-nil (cleared_from index rows ++ reserves_span post None)) ∙ noted_append notes (cleared_from index rows) (reserves_span post None) ∙ all_quiet notes index rows

publish_quiet : (rows : Bool) (notes : Notes) (index : ℕ) (post : Post) → noted_all notes (publishes_index rows post index 0) ≡ notes
publish_quiet true notes index post = refl
publish_quiet false notes index post = refl

clear_quiet : (rows : Bool) (notes : Notes) (index : ℕ) (row : Option ℕ) (post : Post) → noted_all notes ((cleared index row ++ publishes_index rows post index 0) ++ []) ≡ notes
clear_quiet rows notes index row post =
    ap (noted_all notes) (append-nil (cleared index row ++ publishes_index rows post index 0))
    ∙ noted_append notes (cleared index row) (publishes_index rows post index 0)
    ∙ publish_quiet rows (noted_all notes (cleared index row)) index post
    ∙ cleared_quiet notes index row

-- a seat by its parts
pub seat_is : (p q : Phase) (a b : Post) (d e : Desk) → p ≡ q → a ≡ b → d ≡ e → record { phase = p; post = a; desk = d } ≡ (let v : SeatView = record { phase = q; post = b; desk = e } in v)
seat_is p q a b d e f g h =
    ap (λ (x : Phase). let v : SeatView = record { phase = x; post = a; desk = d } in v) f
    ∙ ap₂ (λ (x : Post) (y : Desk). let v : SeatView = record { phase = q; post = x; desk = y } in v) g h

-- the next that stands is let go: what the rig leaves, laid over by the part, is what the model's turn leaves
pub record Lets (phase : Phase) (v : SeatView) (steps found other : ℕ) : Type 0 where
  pub seat : seat_after (phase_turn phase (counted (at_steps steps v.post)) (quiet_desk v.desk) found) ≡ laid_seat (Parts (steps + 1)) (let_seat (phase_turn phase (counted (at_steps 0 v.post)) (quiet_desk v.desk) other))
  pub told : told_by (phase_turn phase (counted (at_steps steps v.post)) (quiet_desk v.desk) found) ≡ (phase_turn phase (counted (at_steps 0 v.post)) (quiet_desk v.desk) other).told
  pub answer : answer_in (phase_turn phase (counted (at_steps steps v.post)) (quiet_desk v.desk) found).outcome ≡ None
  pub asks : call_op phase (at_steps steps v.post) ≡ call_op phase (at_steps 0 v.post)
  pub leaves : is_leaving phase ≡ false

hide_lets : (v : SeatView) (steps found other : ℕ) → bump steps ≡ steps + 1 → v.desk.gift ≡ [] → has_one_interval (scheme_of v.post) ≡ true → Lets (Works (Keeping HideSpan)) v steps found other
hide_lets v steps found other b g h = record {
  seat = seat_is (Works (Keeping MarkLeft)) (parting (withdrawn_all (counted (at_steps 0 v.post)))) _ _ _ _
      (sym (scheme_is (withdrawn_all (counted (at_steps 0 v.post))) true h))
      (ap (λ (n : ℕ). at_steps n (withdrawn_all v.post)) b)
      (ap₂ (λ (n : Notes) (l : List Lifetime). record v.desk { notes = n; gift = l }) (hide_quiet no_notes 2 (drop 2 v.post.standing) v.post) (sym g));
  told = append-nil (cleared_from 2 (drop 2 v.post.standing) ++ reserves_span v.post None);
  answer = refl;
  asks = refl;
  leaves = refl;
}

clear_lets : (rows : Bool) (v : SeatView) (index steps found other : ℕ) → bump steps ≡ steps + 1 → v.desk.gift ≡ [] → has_one_interval (scheme_of v.post) ≡ false → standing_from 2 (drop 2 v.post.standing) ≡ Some index → Lets (Runs (Releases (Parting index)) (Clear rows index)) v steps found other
clear_lets true v index steps found other b g h s = record {
  seat = seat_is (parting_from (index + 1) (withdrawn (counted (at_steps steps v.post)) index)) (parting (withdrawn (counted (at_steps 0 v.post)) index)) _ _ _ _
      (sym (scheme_is (withdrawn (counted (at_steps 0 v.post)) index) false h ∙ ap (parting_index (publishes_rows (scheme_of v.post))) (next_stands v.post.standing index s)))
      (ap (λ (n : ℕ). at_steps n (withdrawn v.post index)) b)
      (ap₂ (λ (n : Notes) (l : List Lifetime). record v.desk { notes = n; gift = l }) (clear_quiet true no_notes index (stands v.post index) v.post) (sym g));
  told = append-nil (cleared index (stands v.post index) ++ publishes_index true v.post index 0);
  answer = refl;
  asks = refl;
  leaves = refl;
}
clear_lets false v index steps found other b g h s = record {
  seat = seat_is (parting_from (index + 1) (withdrawn (counted (at_steps steps v.post)) index)) (parting (withdrawn (counted (at_steps 0 v.post)) index)) _ _ _ _
      (sym (scheme_is (withdrawn (counted (at_steps 0 v.post)) index) false h ∙ ap (parting_index (publishes_rows (scheme_of v.post))) (next_stands v.post.standing index s)))
      (ap (λ (n : ℕ). at_steps n (withdrawn v.post index)) b)
      (ap₂ (λ (n : Notes) (l : List Lifetime). record v.desk { notes = n; gift = l }) (clear_quiet false no_notes index (stands v.post index) v.post) (sym g));
  told = append-nil (cleared index (stands v.post index) ++ publishes_index false v.post index 0);
  answer = refl;
  asks = refl;
  leaves = refl;
}

pub parts_let : (v : SeatView) (steps found other : ℕ) → bump steps ≡ steps + 1 → v.desk.gift ≡ [] → (parting v.post ≡ Works (Keeping MarkLeft) → ⊥) → Lets (parting v.post) v steps found other
parts_let v steps found other b g n = by_clearing (clearing v.post)
  where
    by_clearing : Clearing v.post → Lets (parting v.post) v steps found other
    by_clearing (Bare e) = absurd (n e)
    by_clearing (Hides h e) = subst (λ (p : Phase). Lets p v steps found other) (sym e) (hide_lets v steps found other b g h)
    by_clearing (Frees index h s e) = subst (λ (p : Phase). Lets p v steps found other) (sym e) (clear_lets (publishes_rows (scheme_of v.post)) v index steps found other b g h s)

-- nothing is left to let go
pub marking_is : (phase : Phase) → not (is_marking phase) ≡ false → phase ≡ Works (Keeping MarkLeft)
marking_is (Works (Keeping MarkLeft)) e = refl
marking_is phase e = absurd (cc)

pub marking_not : (phase : Phase) → not (is_marking phase) ≡ true → phase ≡ Works (Keeping MarkLeft) → ⊥
marking_not phase e m = let no : not (is_marking phase) ≡ false = ap (λ (p : Phase). not (is_marking p)) m in absurd (cc)
