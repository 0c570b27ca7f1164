-- The steps of the calls in a log are those that the law on the steps of calls allows, and a scan answers how many rows its notes tell
-- back.
use Rattle.std.proofs.Common.{ℕ, ◌≡◌, Bool, true, false, List, [], ◌∷◌, length, Option, Some, refl, sym, ap, ◌∙◌, subst, length-append}
use Rattle.std.specs.Prelude.{◌==◌, if◌then◌else◌}
use Rattle.law_held.proofs.inv.model.Facts.{number_is, rest_of}
use Rattle.law_held.specs.inv.model.Desks.{Notes}
use Rattle.law_held.specs.inv.model.Locals.{Group}
use Rattle.law_held.specs.inv.model.defs.declared.call.Answer.{Answer}
use Rattle.law_held.specs.inv.model.defs.declared.call.Answer.TheVariants as answers
use Rattle.law_held.specs.inv.model.defs.declared.call.Call.{Call}
use Rattle.law_held.specs.inv.model.defs.declared.call.Call.TheVariants as calls
use Rattle.law_held.specs.inv.model.defs.declared.event.Event.{Event}
use Rattle.law_held.specs.inv.model.defs.declared.event.Event.TheVariants as events
use Rattle.law_held.specs.inv.model.words.declared.config.Config.{Config}
use Rattle.law_held.specs.laws.AnswerLaw as letter
use Rattle.law_held.specs.laws.HistoryAnswers as reasons
use Rattle.law_held.specs.laws.HistoryHolds.{clears_ok, lone_ok}
use Rattle.law_held.specs.laws.HistoryScans.{count_ok}
use Rattle.law_held.specs.laws.HistorySteps as strong
use Rattle.law_held.specs.laws.Standing.{open_ok}
use Rattle.law_held.specs.laws.Lists.{list_of}
use Rattle.law_held.specs.laws.StateAt.{backs_by, backs_of, began_of, is_back, seen, times}
use Rattle.law_held.specs.laws.StepLaw.{began_steps, end_ok, steps_right}
use Rattle.law_all.proofs.letter.Answers.{reasons_kept}
use Rattle.law_all.proofs.letter.Each.{counted_by, times_seen}
use Rattle.law_all.proofs.letter.Steps.{ends_kept}
use Rattle.law_held.proofs.Indexes.Alone.{records_hold_alone}
use Rattle.law_held.proofs.Indexes.Clears.{records_clear_rows}
use Rattle.law_reasons.proofs.reuse.OpenCalls.{records_open_calls}
use Rattle.law_reasons.proofs.reuse.Blocks.Counts.{records_count_scans}
use Rattle.law_reasons.proofs.Reasons.Keeps.{records_keep_reasons}
use Rattle.law_held.proofs.Steps.CallCounts.Ends.{records_keep_ends}
use Rattle.law_held.proofs.inv.history.Entries.{each_of_entries, entries_of_each}
use Rattle.law_held.specs.inv.history.History.{record_of}
use Rattle.law_held.specs.inv.history.Record.{EachEntry, Past}
use Rattle.law_held.specs.inv.history.Record.Past.{Start, Then}
use Rattle.law_all.specs.Logs.Ledgers.{Ledger, ledger_by, ledger_of, notes_of}
use Rattle.law_all.specs.Logs.Records.{IsEnded}
use Rattle.law_all.proofs.Logs.Cuts.{logs_are_cut}
use Rattle.law_all.proofs.Logs.Ledgers.{records_keep_logs}
use Rattle.law_all.specs.Answers.{LogsTakeFewSteps, ScansTellBacks}

-- as many rows went back as the notes tell
back_by : (event : Event) (x : Ledger) → length (ledger_by event x).notes.back ≡ backs_by event (length x.notes.back)
back_by (events.Back slot) x = length-append x.notes.back (slot ∷ [])
back_by event x = refl

back_entry : (same : Bool) (event : Event) (x : Ledger) (backs : ℕ) → length x.notes.back ≡ backs
    → length (if same then ledger_by event x else x).notes.back ≡ (if same then backs_by event backs else backs)
back_entry true event x backs h = back_by event x ∙ ap (backs_by event) h
back_entry false event x backs h = h

backs_noted : (k : ℕ) (p : Past) → length (notes_of k p).back ≡ backs_of k p
backs_noted k Start = refl
backs_noted k (Then p i event) = back_entry (k == i) event (ledger_of k p) (backs_of k p) (backs_noted k p)

-- the law where a group's call ended
group_right : (c : Config) (k : ℕ) (r : Past) (before : List Group) (group : Group) → EachEntry (end_ok c) r → IsEnded k r before group
    → steps_right c group.call (length group.notes.back) group.answer group.notes.steps ≡ true
group_right c k r before group law e =
    let steps : ℕ = group.notes.steps in
    let backs : backs_of k e.at ≡ length group.notes.back = sym (backs_noted k e.at) ∙ ap (λ (x : Notes). length x.back) (sym e.notes) in
    let right : began_steps c (began_of k e.at) (backs_of k e.at) group.answer steps ≡ true = law e.at k (events.End steps group.answer) e.later e.cut in
    let called : steps_right c group.call (backs_of k e.at) group.answer steps ≡ true =
    subst (λ (x : Option Call). began_steps c x (backs_of k e.at) group.answer steps ≡ true) e.call right in
    subst (λ (x : ℕ). steps_right c group.call x group.answer steps ≡ true) backs called

pub logs_take_few_steps : LogsTakeFewSteps
logs_take_few_steps layout items k before later group d h =
    let c : Config = layout.config in
    let r : Past = record_of layout items in
    let kept = ends_kept c r (each_of_entries (strong.end_ok c) r (records_keep_ends layout items d)) in
    let e : IsEnded k r before group = logs_are_cut k r before later group ((records_keep_logs layout items k d).log ∙ h) in
    group_right c k r before group (entries_of_each (end_ok c) r kept) e

-- the same number, as the record counts a call's entries of a kind
count_by : (event : Event) (x : Ledger) → length (ledger_by event x).notes.back ≡ counted_by is_back event (length x.notes.back)
count_by (events.Back slot) x = length-append x.notes.back (slot ∷ [])
count_by event x = refl

count_entry : (same : Bool) (event : Event) (x : Ledger) (count : ℕ) → length x.notes.back ≡ count
    → length (if same then ledger_by event x else x).notes.back ≡ (if same then counted_by is_back event count else count)
count_entry true event x count h = count_by event x ∙ ap (counted_by is_back event) h
count_entry false event x count h = h

counts_noted : (k : ℕ) (p : Past) → length (notes_of k p).back ≡ seen (counted_by is_back) 0 k p
counts_noted k Start = refl
counts_noted k (Then p i event) = count_entry (k == i) event (ledger_of k p) (seen (counted_by is_back) 0 k p) (counts_noted k p)

-- the reason of a scan's answer
scan_tells : (c : Config) (k : ℕ) (r : Past) (before : List Group) (kept back : ℕ) (notes : Notes) → EachEntry (letter.reasons_ok c) r
    → IsEnded k r before (record { call = calls.Scan; answer = answers.Scanned kept back; notes = notes }) → length notes.back ≡ back
scan_tells c k r before kept back notes law e =
    let answer : Answer = answers.Scanned kept back in
    let right : letter.reason c k e.at (began_of k e.at) answer ≡ true = law e.at k (events.End notes.steps answer) e.later e.cut in
    let told : letter.reason c k e.at (Some calls.Scan) answer ≡ true = subst (λ (x : Option Call). letter.reason c k e.at x answer ≡ true) e.call right in
    let backs : ℕ = times k is_back e.at in
    let counted : back ≡ backs = number_is back backs (rest_of (kept == length (list_of k e.at)) (back == backs) told) in
    ap (λ (x : Notes). length x.back) e.notes ∙ counts_noted k e.at ∙ sym (times_seen is_back k e.at) ∙ sym counted

pub scans_tell_backs : ScansTellBacks
scans_tell_backs layout items k before later kept back notes d h =
    let c : Config = layout.config in
    let r : Past = record_of layout items in
    let alone = each_of_entries lone_ok r (records_hold_alone layout items d) in
    let clears = each_of_entries clears_ok r (records_clear_rows layout items d) in
    let opens = each_of_entries open_ok r (records_open_calls layout items d) in
    let counts = each_of_entries (count_ok c) r (records_count_scans layout items d) in
    let each = reasons_kept c r alone clears opens counts (each_of_entries (reasons.reasons_ok c) r (records_keep_reasons layout items d)) in
    let group : Group = record { call = calls.Scan; answer = answers.Scanned kept back; notes = notes } in
    let e : IsEnded k r before group = logs_are_cut k r before later group ((records_keep_logs layout items k d).log ∙ h) in
    scan_tells c k r before kept back notes (entries_of_each (letter.reasons_ok c) r each) e
