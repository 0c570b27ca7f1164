-- What a check finds of a text that was read to its end and is good.
use Rattle.std.proofs.Common.{◌≡◌, ◌++◌, ◌∙◌, List, [], ◌∷◌, ℕ, Option, None, Some, ap, append-nil, append_assoc, inl, inr, refl, subst, sym}
use Rattle.std.specs.Io.KnownBytes.{Consumes, IsAtEnd}
use Rattle.std.specs.Prelude.{◌⊎◌}
use Rattle.law_printed.proofs.ReadBack.Verdicts.{lawful_only}
use Rattle.law_printed.specs.lines.Verdicts.{IsCut, IsEnd, IsJudged, IsLawful, IsNext, IsSpent, IsStopped, IsVerdict, Prints}
use Rattle.law_printed.specs.lines.Reading.{Reading}
use Rattle.law_printed.specs.lines.declared.stops.Stop.{Stop}
use Rattle.law_printed.specs.lines.declared.stops.Stop.TheVariants as stops
use Rattle.law_printed.specs.lines.declared.verdict.Verdict.{Verdict}
use Rattle.law_printed.specs.lines.declared.verdict.Verdict.TheVariants as verdicts
use Rattle.wfe_trace.specs.declared.reason.Status.{Status}
use Rattle.wfe_trace.specs.declared.reason.Status.TheVariants as statuses
use Rattle.law_printed.specs.Printed.{IsFoundLawful}

-- nothing is left
whole_of : (text taken rest : List ℕ) → text ≡ taken ++ rest → rest ≡ [] → taken ≡ text
whole_of text taken rest e none = sym (e ∙ ap (λ (t : List ℕ). taken ++ t) none ∙ append-nil taken)

stops_in : (text taken rest closed : List ℕ) (before : Reading) (stop : Stop) → text ≡ taken ++ rest → IsNext taken closed before stop ⊎ IsEnd taken closed (Some rest) before stop → IsNext text closed before stop ⊎ IsEnd text closed (Some []) before stop
stops_in text taken rest closed before stop e (inl next) =
    inl (record { byte = next.byte; rest = next.rest ++ rest; are = e ∙ ap (λ (t : List ℕ). t ++ rest) next.are ∙ append_assoc closed (next.byte ∷ next.rest) rest; why = next.why })
stops_in text taken rest closed before stop e (inr end_) = inr (record { all = sym (whole_of text taken rest e end_.at_end) ∙ end_.all; at_end = refl; why = end_.why })

-- where a part of a text is why no more is taken, so is the text
stopped_in : (text taken rest : List ℕ) (stop : Stop) → text ≡ taken ++ rest → IsStopped taken (Some rest) stop → IsStopped text (Some []) stop
stopped_in text taken rest stop e s = record { closed = s.closed; before = s.before; good_text = s.good_text; good = s.good; stopped = stops_in text taken rest s.closed s.before stop e s.stopped }

only_of : (text : List ℕ) (count : ℕ) → ((left : Option (List ℕ)) → IsAtEnd left → IsLawful text left count)
    → (taken rest : List ℕ) (verdict : Verdict) → text ≡ taken ++ rest → IsVerdict taken (Some rest) verdict → verdict ≡ verdicts.Lawful count
only_of text count lawful taken rest (verdicts.Lawful n) e found =
    let is : IsLawful text (Some rest) n = subst (λ (t : List ℕ). IsLawful t (Some rest) n) (whole_of text taken rest e found.at_end) found in
    lawful_only text (Some rest) count (verdicts.Lawful n) (lawful (Some rest) found.at_end) is
only_of text count lawful taken rest (verdicts.Bad bad) e found = lawful_only text (Some []) count (verdicts.Bad bad) (lawful (Some []) refl) (stopped_in text taken rest (stops.Bad bad) e found)
only_of text count lawful taken rest (verdicts.Unlawful line) e found = lawful_only text (Some []) count (verdicts.Unlawful line) (lawful (Some []) refl) (stopped_in text taken rest (stops.Unlawful line) e found)

only_left : (text : List ℕ) (count : ℕ) → ((left : Option (List ℕ)) → IsAtEnd left → IsLawful text left count)
    → (taken : List ℕ) (left : Option (List ℕ)) (verdict : Verdict) → Consumes (Some text) left taken → IsVerdict taken left verdict → verdict ≡ verdicts.Lawful count
only_left text count lawful taken None verdict consumed found = absurd consumed
only_left text count lawful taken (Some rest) verdict consumed found = only_of text count lawful taken rest verdict consumed found

prints_by : (text : List ℕ) (count : ℕ) → ((left : Option (List ℕ)) → IsAtEnd left → IsLawful text left count)
    → (status : Status) (taken : List ℕ) (left old new : Option (List ℕ)) → Consumes (Some text) left taken → IsJudged status taken left old new ⊎ IsCut status taken old new ⊎ IsSpent status old new
    → Prints status (verdicts.Lawful count) old new ⊎ (status ≡ statuses.ReadFault) ⊎ (status ≡ statuses.NoMemory)
prints_by text count lawful status taken left old new consumed (inl judged) = inl (subst (λ v. Prints status v old new) (only_left text count lawful taken left judged.verdict consumed judged.is) judged.prints)
prints_by text count lawful status taken left old new consumed (inr (inl cut)) = inr (inl cut.reported)
prints_by text count lawful status taken left old new consumed (inr (inr spent)) = inr (inr spent.0)

pub found_of : (text : List ℕ) (count : ℕ) → ((left : Option (List ℕ)) → IsAtEnd left → IsLawful text left count) → IsFoundLawful text count
found_of text count lawful = record {
  is = lawful;
  only = only_left text count lawful;
  prints = λ status left old new checks. prints_by text count lawful status checks.0 left old new checks.1 checks.2;
}
