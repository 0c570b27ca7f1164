-- Two looks at a row that is kept answer the same, once the table is closed.
use Rattle.std.proofs.Common.{List, Option, Some, [], ap, arith, get_or, length, refl, subst, sym, ℕ, ◌++◌, ◌<◌, ◌∙◌, ◌∷◌, ◌≡◌}
use Rattle.std.proofs.lemmas.List.{append_assoc, get_or-map, get_or_push, length-map, length_push}
use Rattle.std.proofs.lemmas.List.Elements.{All-get_or}
use Rattle.std.proofs.lemmas.List.FromFn.{get_or-map-range_with_len, length-map-range_with_len}
use Rattle.std.proofs.lemmas.Option.{slice_get-get_or}
use Rattle.std.specs.Prelude.{map, slice_get}
use Rattle.law_all.specs.Kept.{Keeping, kept_in}
use Rattle.wfe_core.specs.Locals.{Group}
use Rattle.wfe_core.specs.defs.declared.call.Answer.TheVariants as answers
use Rattle.wfe_core.specs.defs.declared.call.Call.TheVariants as calls
use Rattle.wfe_core.specs.words.declared.config.Config.{Config}
use Rattle.wfe_core.specs.words.declared.layout.Layout.{Layout}
use Rattle.wfe_core.specs.defs.Pairs.{value_in}
use Rattle.wfe_table.specs.Calls.{IsMade}
use Rattle.wfe_table.specs.Closing.{IsLeft, closing_of, track_of}
use Rattle.wfe_table.specs.Public.{SeatNow}
use Rattle.wfe_table.specs.all.RunLaw.{AtClose, InOrder, IsCall, IsLook, RunLaw, bucket_kept, pairs_by}
use Rattle.wfe_table.specs.all.Runs.{logs_of}
use Rattle.wfe_table.specs.closed.declared.closed.Closed.{Closed}
use Rattle.wfe_table.specs.history.History.{world_of}
use Rattle.wfe_table.specs.rule.Rule.{Follows}
use Rattle.wfe_table.specs.rule.Views.{seat_of}
use Rattle.wfe_table_end.specs.declared.answers.Looked.{Looked}
use Rattle.wfe_uses.specs.Keeping.{Keeps, KeepsRow, ReadsTheSame, group_by, looking}
use Rattle.wfe_uses.specs.declared.snapshot.Views.{Views}

-- what is kept at index 3 by the hold and the copy
abbrev kept_first : (key held : ℕ) → Keeping
kept_first key held = record { key = key; slot = held; before = [] }

module _ (c : Config) (logs : List (List Group)) (closed : AtClose) (law : RunLaw c logs closed) (seat key : ℕ) (log : List Group) (views : Views) (at : slice_get logs seat ≡ Some log) (k : Keeps key log views) where
  abbrev hold : Group
  hold = group_by (calls.Hold key) (answers.Holding k.kept.held) k.kept.a

  abbrev copy : Group
  copy = group_by (calls.Copy 2 3) (answers.Copied k.kept.copied) k.kept.b

  abbrev first : Group
  first = looking 3 key views.first k.kept.c

  abbrev next : Group
  next = group_by (calls.Hold key) (answers.Holding k.next) k.d

  abbrev moved : Group
  moved = looking 2 key views.moved k.e

  abbrev again : Group
  again = looking 3 key views.again k.f

  there : slice_get logs seat ≡ Some (hold ∷ (copy ∷ (first ∷ (next ∷ (moved ∷ (again ∷ []))))))
  there = at ∙ ap (λ (l : List Group). Some l) (k.log_is ∙ ap (λ (l : List Group). l ++ next ∷ (moved ∷ (again ∷ []))) k.kept.log_is)

  first_call : IsCall logs (hold ∷ (copy ∷ [])) first
  first_call = record { later = next ∷ (moved ∷ (again ∷ [])); log = record { seat = seat; at = there } }

  again_call : IsCall logs (hold ∷ (copy ∷ (first ∷ (next ∷ (moved ∷ []))))) again
  again_call = record { later = []; log = record { seat = seat; at = there } }

  both : InOrder logs first again
  both = record { before = hold ∷ (copy ∷ []); between = next ∷ (moved ∷ []); later = []; log = record { seat = seat; at = there } }

  same_version : views.first.version ≡ views.again.version
  unfolding both
  same_version = law.keeps.same first again (kept_first key k.kept.held) (3, views.first.version) (3, views.again.version) both refl refl refl refl

  shown_at : (before : List Group) (version slot : ℕ) (value : Option ℕ) → kept_in 3 before ≡ Some (kept_first key k.kept.held) → IsLook c law.made before 3 key slot version value
      → value ≡ value_in (pairs_by (law.made (bucket_kept c (kept_first key k.kept.held))) version) key
  shown_at before version slot value here look =
      let same : look.row.kept ≡ kept_first key k.kept.held = let e : Some look.row.kept ≡ Some (kept_first key k.kept.held) = sym look.row.at ∙ here in cc in
      look.value_is ∙ ap (λ (kept : Keeping). value_in (pairs_by (law.made (bucket_kept c kept)) version) key) same

  pub reads_the_same : ReadsTheSame views
  reads_the_same = record {
    version = sym same_version;
    value =
        shown_at (hold ∷ (copy ∷ (first ∷ (next ∷ (moved ∷ []))))) views.again.version views.again.slot views.again.value refl (law.keeps.right (hold ∷ (copy ∷ (first ∷ (next ∷ (moved ∷ []))))) again again_call)
        ∙ ap (λ (version : ℕ). value_in (pairs_by (law.made (bucket_kept c (kept_first key k.kept.held))) version) key) (sym same_version)
        ∙ sym (shown_at (hold ∷ (copy ∷ [])) views.first.version views.first.slot views.first.value refl (law.keeps.right (hold ∷ (copy ∷ [])) first first_call));
  }

-- the log of the last of these seats is there
pub reads_same_of : (layout : Layout) (before : List SeatNow) (reader : SeatNow) (seats : List SeatNow) (key : ℕ) (views : Views) (closed : Closed) → seats ≡ before ++ reader ∷ [] → seat_of reader.track < layout.config.seats → Keeps key reader.track.local.log views
    → IsLeft layout (map track_of seats) closed → ReadsTheSame views
reads_same_of layout before reader seats key views closed e number k left =
    let n : ℕ = seat_of reader.track in
    let place : ℕ = length before in
    let within : place < length seats = omega (arith, ap length e, length_push before reader) in
    let last : get_or seats place reader ≡ reader = ap (λ (xs : List SeatNow). get_or xs place reader) e ∙ get_or_push before reader reader place refl in
    let follows : Follows layout left.items reader.track =
    subst (Follows layout left.items) (get_or-map track_of seats place reader reader.track within ∙ ap track_of last)
    (All-get_or (Follows layout left.items) (map track_of seats) place reader.track (omega (arith, within, length-map seats track_of)) left.follow) in
    let log_at : ℕ → List Group = λ seat. ((world_of layout left.items).seat seat).log in
    let at : slice_get (logs_of layout left.items) n ≡ Some reader.track.local.log =
    slice_get-get_or (logs_of layout left.items) n [] (omega (arith, number, length-map-range_with_len log_at 0 layout.config.seats))
    ∙ ap (λ (l : List Group). Some l) (get_or-map-range_with_len log_at 0 layout.config.seats n n [] number (omega arith) ∙ ap (λ l. l.log) follows.stands) in
    reads_the_same layout.config (logs_of layout left.items) (closing_of closed) left.run n key reader.track.local.log views at k

-- What a reader's calls make of its log.

pub keeps_row : (layout : Layout) (key held copied : ℕ) (first : Looked) (s0 s1 s2 s3 : SeatNow) → s0.track.local.log ≡ [] → IsMade layout s0 s1 (calls.Hold key) (answers.Holding held) → IsMade layout s1 s2 (calls.Copy 2 3) (answers.Copied copied)
    → IsMade layout s2 s3 (calls.Look 3 key) (answers.Looked first.slot first.version first.value) → KeepsRow key s3.track.local.log first
keeps_row layout key held copied first s0 s1 s2 s3 none held_by copied_by first_by =
    let hold : Group = group_by (calls.Hold key) (answers.Holding held) s1.track.local.desk.notes in
    let copy : Group = group_by (calls.Copy 2 3) (answers.Copied copied) s2.track.local.desk.notes in
    let look : Group = looking 3 key first s3.track.local.desk.notes in
    let one : s1.track.local.log ≡ hold ∷ [] = held_by.ends.left.log ∙ ap (λ (l : List Group). l ++ hold ∷ []) none in
    let two : s2.track.local.log ≡ hold ∷ (copy ∷ []) = copied_by.ends.left.log ∙ ap (λ (l : List Group). l ++ copy ∷ []) one in
    record {
      held = held;
      copied = copied;
      a = s1.track.local.desk.notes;
      b = s2.track.local.desk.notes;
      c = s3.track.local.desk.notes;
      log_is = first_by.ends.left.log ∙ ap (λ (l : List Group). l ++ look ∷ []) two;
    }

pub keeps_both : (layout : Layout) (key next : ℕ) (views : Views) (s0 s1 s2 s3 : SeatNow) → KeepsRow key s0.track.local.log views.first → IsMade layout s0 s1 (calls.Hold key) (answers.Holding next)
    → IsMade layout s1 s2 (calls.Look 2 key) (answers.Looked views.moved.slot views.moved.version views.moved.value) → IsMade layout s2 s3 (calls.Look 3 key) (answers.Looked views.again.slot views.again.version views.again.value) → Keeps key s3.track.local.log views
keeps_both layout key next views s0 s1 s2 s3 kept next_by moved_by again_by =
    let hold : Group = group_by (calls.Hold key) (answers.Holding next) s1.track.local.desk.notes in
    let moved : Group = looking 2 key views.moved s2.track.local.desk.notes in
    let again : Group = looking 3 key views.again s3.track.local.desk.notes in
    let log : List Group = s0.track.local.log in
    let two : s2.track.local.log ≡ log ++ hold ∷ (moved ∷ []) = moved_by.ends.left.log ∙ ap (λ (l : List Group). l ++ moved ∷ []) next_by.ends.left.log ∙ append_assoc log (hold ∷ []) (moved ∷ []) in
    record {
      before = log;
      kept = kept;
      next = next;
      d = s1.track.local.desk.notes;
      e = s2.track.local.desk.notes;
      f = s3.track.local.desk.notes;
      log_is = again_by.ends.left.log ∙ ap (λ (l : List Group). l ++ again ∷ []) two ∙ append_assoc log (hold ∷ (moved ∷ [])) (again ∷ []);
    }
