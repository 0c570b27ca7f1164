-- The bullet that refuses each changed run computes, and that all others take it.
use Rattle.std.proofs.Common.{Bool, List, Some, [], ap, false, refl, sym, true, ℕ, ◌==◌, ◌∙◌, ◌∷◌, ◌≡◌, ◌≤◌}
use Rattle.std.proofs.lemmas.Bool.Decides.{Decides-eqb}
use Rattle.std.specs.List.{AllByRecursion, list_all, slice_get}
use Rattle.std.specs.Prelude.{if◌then◌else◌, nat_le, not}
use Rattle.law_all.proofs.inv.model.Facts.{false_by, false_of_not, first_of, number_is, rest_of}
use Rattle.law_worked.specs.RunRecords.Readers.{Bullet, bullets, takes}
use Rattle.law_worked.specs.RunRecords.Refusals.{IsRefused, Wrong, code, judged, judged_by}
use Rattle.law_worked.specs.RunRecords.WrongAnswers.{WrongAnswersRefused, wrong_answers}
use Rattle.law_worked.specs.RunRecords.WrongEras.{WrongErasRefused, wrong_eras}
use Rattle.law_worked.specs.RunRecords.WrongLists.{WrongListsRefused, wrong_lists}
use Rattle.law_worked.specs.RunRecords.WrongLooks.{WrongLooksRefused, wrong_looks}
use Rattle.law_worked.specs.RunRecords.WrongQueues.{WrongQueuesRefused, wrong_queues}
use Rattle.law_worked.specs.RunRecords.WrongRises.{WrongRisesRefused, wrong_rises}
use Rattle.law_worked.specs.RunRecords.WrongRows.{WrongRowsRefused, wrong_rows}
use Rattle.law_worked.specs.RunRecords.WrongVersions.{WrongVersionsRefused, wrong_versions}
use Rattle.law_worked.proofs.RunRecords.Judges.{readers_judge}
use Rattle.law_worked.proofs.RunRecords.Splits.{get_read}
use Rattle.law_worked.proofs.RunRecords.Tests.{decides_most}

-- A bullet and its place.

place_of : (bullet : Bullet) → slice_get bullets (code bullet) ≡ Some bullet
place_of Bullet.Answers = refl
place_of Bullet.Versions = refl
place_of Bullet.Rises = refl
place_of Bullet.Keeps = refl
place_of Bullet.Queue = refl
place_of Bullet.Rows = refl
place_of Bullet.Lists = refl
place_of Bullet.Eras = refl

same_bullet : (one two : Bullet) → code one ≡ code two → one ≡ two
same_bullet one two e = let same : Some one ≡ Some two = sym (place_of one) ∙ ap (λ (place : ℕ). slice_get bullets place) e ∙ place_of two in cc

-- What the reader judges, is so.

turned_down : (same taken : Bool) → same ≡ true → (if same then not taken else taken) ≡ true → taken ≡ false
turned_down true taken e h = false_of_not taken h
turned_down false taken e h = absurd (cc)

let_pass : (same taken : Bool) → same ≡ false → (if same then not taken else taken) ≡ true → taken ≡ true
let_pass true taken e h = absurd (cc)
let_pass false taken e h = h

refused : (it : Wrong) → judged it ≡ true → IsRefused it
refused it e =
    let some : 1 ≤ it.run.config.buckets =
    (decides_most 1 it.run.config.buckets).0 (first_of (nat_le 1 it.run.config.buckets) (list_all (judged_by it) bullets) e) in
    let all : list_all (judged_by it) bullets ≡ true = rest_of (nat_le 1 it.run.config.buckets) (list_all (judged_by it) bullets) e in
    record {
      refused = λ holds.
          let none : takes it.run it.bullet ≡ false =
          turned_down (code it.bullet == code it.bullet) (takes it.run it.bullet) ((Decides-eqb (code it.bullet) (code it.bullet)).1 refl)
          (get_read (judged_by it) bullets (code it.bullet) it.bullet all (place_of it.bullet)) in
          let one : takes it.run it.bullet ≡ true = (readers_judge.bullet it.run it.bullet some).1 holds in
          cc;
      others = λ other differs.
          (readers_judge.bullet it.run other some).0
          (let_pass (code other == code it.bullet) (takes it.run other)
          (false_by (code other == code it.bullet) (λ t. differs (same_bullet other it.bullet (number_is (code other) (code it.bullet) t))))
          (get_read (judged_by it) bullets (code other) other all (place_of other)));
    }

all_refused : (list : List Wrong) → list_all judged list ≡ true → AllByRecursion IsRefused list
all_refused [] e = tt
all_refused (it ∷ list) e = (refused it (first_of (judged it) (list_all judged list) e), all_refused list (rest_of (judged it) (list_all judged list) e))

pub wrong_answers_refused : WrongAnswersRefused
wrong_answers_refused = record { alone = all_refused wrong_answers refl; sentences = refl }

pub wrong_versions_refused : WrongVersionsRefused
wrong_versions_refused = record { alone = all_refused wrong_versions refl; sentences = refl }

pub wrong_rises_refused : WrongRisesRefused
wrong_rises_refused = record { alone = all_refused wrong_rises refl; sentences = refl }

pub wrong_looks_refused : WrongLooksRefused
wrong_looks_refused = record { alone = all_refused wrong_looks refl; sentences = refl }

pub wrong_queues_refused : WrongQueuesRefused
wrong_queues_refused = record { alone = all_refused wrong_queues refl; sentences = refl }

pub wrong_rows_refused : WrongRowsRefused
wrong_rows_refused = record { alone = all_refused wrong_rows refl; sentences = refl }

pub wrong_lists_refused : WrongListsRefused
wrong_lists_refused = record { alone = all_refused wrong_lists refl; sentences = refl }

pub wrong_eras_refused : WrongErasRefused
wrong_eras_refused = record { alone = all_refused wrong_eras refl; sentences = refl }
