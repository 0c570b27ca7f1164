-- Plain readers judge as the laws do.
use Rattle.std.proofs.Common.{◌≡◌, true, List, [], ◌∷◌, refl}
use Rattle.wfe_core.specs.defs.Entry.{Entry}
use Rattle.wfe_core.proofs.Facts.{both, first_of, rest_of}
use Rattle.model_history.specs.Record.{Past, Test, Each, tells}
use Rattle.model_history.specs.Record.Past.{Start, Then}
use Rattle.laws.proofs.records.Entries.{entries_of_each, each_of_entries, each_before}
use Rattle.law_worked.specs.Changed.{reads_on}
use Rattle.law_worked.specs.Refusals.{ReadersJudge}

each_read : (ok : Test) (p : Past) (lines : List Entry) → Each ok p → reads_on ok p lines ≡ true → Each ok (tells p lines)
each_read ok p [] h e = h
each_read ok p (x ∷ xs) h e =
    each_read ok (Then p x.seat x.event) xs (first_of (ok p x.seat x.event) (reads_on ok (Then p x.seat x.event) xs) e, h) (rest_of (ok p x.seat x.event) (reads_on ok (Then p x.seat x.event) xs) e)

read_each : (ok : Test) (p : Past) (lines : List Entry) → Each ok (tells p lines) → reads_on ok p lines ≡ true
read_each ok p [] h = refl
read_each ok p (x ∷ xs) h =
    both (ok p x.seat x.event) (reads_on ok (Then p x.seat x.event) xs) (each_before ok (Then p x.seat x.event) xs h).0 (read_each ok (Then p x.seat x.event) xs h)

pub readers_judge : ReadersJudge
readers_judge = record {
  kept = λ ok lines e. entries_of_each ok (tells Start lines) (each_read ok Start lines tt e);
  takes = λ ok lines h. read_each ok Start lines (each_of_entries ok (tells Start lines) h);
}
