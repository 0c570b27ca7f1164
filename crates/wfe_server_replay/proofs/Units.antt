-- Units of a seat one after the other: what was made so far, and what is left.
use Rattle.std.proofs.Common.{Bool, List, [], ap, append-nil, append_assoc, arith, false, refl, suc, sym, true, zero, ℕ, ◌++◌, ◌<◌, ◌≤◌, ◌∙◌, ◌≡◌}
use Rattle.std.specs.Prelude.{if◌then◌else◌}
use Rattle.wfe_drive.specs.Reached.{units_left}
use Rattle.wfe_server_out.specs.Pieces.{Piece}
use Rattle.wfe_server_replay.specs.Playing.{Played, call_most, is_playing, unit_made, unit_out, units_made, units_out}
use Rattle.wfe_core.proofs.Facts.{if_false, if_true}

-- of so many units so many are left, and the others put this out
pub record Running (most left seat : ℕ) (s t : Played) (out : List Piece) : Type 0 where
  pub made : units_made most seat s ≡ units_made left seat t
  pub all : units_out most seat s ≡ out ++ units_out left seat t
  pub table : t.table.layout ≡ s.table.layout

pub running_none : (most left seat : ℕ) (s : Played) → most ≡ left → Running most left seat s s []
running_none most left seat s e = record { made = ap (λ (n : ℕ). units_made n seat s) e; all = ap (λ (n : ℕ). units_out n seat s) e; table = refl }

next_made : (n left seat : ℕ) (t u : Played) → n ≡ suc left → u ≡ unit_made t seat → is_playing seat t ≡ true → units_made n seat t ≡ units_made left seat u
next_made n left seat t u e f b =
    ap (λ (m : ℕ). units_made m seat t) e ∙ if_true (is_playing seat t) (units_made left seat (unit_made t seat)) t b ∙ ap (units_made left seat) (sym f)

next_out : (n left seat : ℕ) (t u : Played) → n ≡ suc left → u ≡ unit_made t seat → is_playing seat t ≡ true → units_out n seat t ≡ unit_out t seat ++ units_out left seat u
next_out n left seat t u e f b =
    ap (λ (m : ℕ). units_out m seat t) e ∙ if_true (is_playing seat t) (unit_out t seat ++ units_out left seat (unit_made t seat)) [] b
    ∙ ap (λ (v : Played). unit_out t seat ++ units_out left seat v) (sym f)

pub running_more : {most n seat : ℕ} {s t u : Played} {out : List Piece} (left : ℕ) → n ≡ suc left → u ≡ unit_made t seat → is_playing seat t ≡ true
    → Running most n seat s t out → Running most left seat s u (out ++ unit_out t seat)
running_more {most} {n} {seat} {s} {t} {u} {out} left e f b r = record {
  made = r.made ∙ next_made n left seat t u e f b;
  all = r.all ∙ ap (λ (rest : List Piece). out ++ rest) (next_out n left seat t u e f b) ∙ sym (append_assoc out (unit_out t seat) (units_out left seat u));
  table = ap (λ (v : Played). v.table.layout) f ∙ r.table;
}

-- nothing is left: its call has ended, or all units are made
pub record Over (most seat : ℕ) (s t : Played) (out : List Piece) : Type 0 where
  pub made : t ≡ units_made most seat s
  pub all : out ≡ units_out most seat s

pub ended_made : (left seat : ℕ) (t : Played) → is_playing seat t ≡ false → units_made left seat t ≡ t
ended_made zero seat t b = refl
ended_made (suc left) seat t b = if_false (is_playing seat t) (units_made left seat (unit_made t seat)) t b

pub ended_out : (left seat : ℕ) (t : Played) → is_playing seat t ≡ false → units_out left seat t ≡ []
ended_out zero seat t b = refl
ended_out (suc left) seat t b = if_false (is_playing seat t) (unit_out t seat ++ units_out left seat (unit_made t seat)) [] b

over_of : {most left seat : ℕ} {s t : Played} {out : List Piece} → units_made left seat t ≡ t → units_out left seat t ≡ [] → Running most left seat s t out → Over most seat s t out
over_of {most} {left} {seat} {s} {t} {out} m o r = record { made = sym (r.made ∙ m); all = sym (r.all ∙ ap (λ (rest : List Piece). out ++ rest) o ∙ append-nil out) }

pub running_ended : {most left seat : ℕ} {s t : Played} {out : List Piece} → is_playing seat t ≡ false → Running most left seat s t out → Over most seat s t out
running_ended {most} {left} {seat} {s} {t} {out} b r = over_of (ended_made left seat t b) (ended_out left seat t b) r

pub running_all : {most left seat : ℕ} {s t : Played} {out : List Piece} → left ≡ 0 → Running most left seat s t out → Over most seat s t out
running_all {most} {left} {seat} {s} {t} {out} e r = over_of (ap (λ (n : ℕ). units_made n seat t) e) (ap (λ (n : ℕ). units_out n seat t) e) r

-- a run: more units are left than the seat's call may make
pub record RunsOn (most seat : ℕ) (s t : Played) (out : List Piece) : Type 0 where
  pub left : ℕ
  pub runs : Running most left seat s t out
  pub enough : units_left t.table seat ≤ left

pub runs_more : {most seat : ℕ} {s t u : Played} {out : List Piece} → u ≡ unit_made t seat → is_playing seat t ≡ true → units_left u.table seat < units_left t.table seat
    → RunsOn most seat s t out → RunsOn most seat s u (out ++ unit_out t seat)
runs_more {most} {seat} {s} {t} {u} {out} f b less r = by r.left r.runs r.enough
  where
    by : (left : ℕ) → Running most left seat s t out → units_left t.table seat ≤ left → RunsOn most seat s u (out ++ unit_out t seat)
    by zero q e = absurd (omega (less, e, arith))
    by (suc left) q e = record { left = left; runs = running_more left refl f b q; enough = omega (less, e, arith) }

pub few : (seat : ℕ) (s : Played) → units_left s.table seat ≤ call_most
unfolding call_most
few seat s = omega arith

pub run_begins : (seat : ℕ) (s : Played) → RunsOn call_most seat s s []
run_begins seat s = record { left = call_most; runs = running_none call_most call_most seat s refl; enough = few seat s }

-- no unit changes the table's setting
pub layout_made : (most seat : ℕ) (s : Played) → (units_made most seat s).table.layout ≡ s.table.layout
layout_made zero seat s = refl
layout_made (suc most) seat s = by (is_playing seat s) (layout_made most seat (unit_made s seat))
  where
    by : (b : Bool) → (units_made most seat (unit_made s seat)).table.layout ≡ s.table.layout → (if b then units_made most seat (unit_made s seat) else s).table.layout ≡ s.table.layout
    by true e = e
    by false e = refl
