-- A record that was read to its end and is good comes to no other verdict, and the text of pieces is such a record.
use Rattle.std.proofs.Common.{ℕ, ◌≡◌, ◌++◌, ◌∙◌, inl, inr, List, ◌∷◌, Option, Ok, Err, sym, ap, subst}
use Rattle.wfe_check_lines.specs.Reading.{GoodAt, IsGood, Reading, Told, after_byte, after_bytes, came, finished, reading_start}
use Rattle.wfe_check_lines.specs.Verdicts.{IsLawful, IsStopped}
use Rattle.wfe_check_lines.specs.declared.stops.BadLine.{BadLine}
use Rattle.wfe_check_lines.specs.declared.stops.Stop.TheVariants as stops
use Rattle.wfe_check_lines.specs.declared.verdict.Verdict.TheVariants as verdicts
use Rattle.wfe_check_lines.proofs.Bytes.{after_both, after_bytes-bad}
use Rattle.law_printed.specs.ReadBack.Printed.{IsRead, LawfulIsOnly, LawfulIsRead}
use Rattle.law_printed.proofs.ReadBack.Before.{good_before_bytes, good_before_end}
use Rattle.law_printed.proofs.ReadBack.Pieces.{printed_read}

-- what came before the next byte, with that byte and what is left
came_then : (taken closed rest : List ℕ) (byte : ℕ) (before : Reading) → taken ≡ closed ++ byte ∷ rest → came closed ≡ Ok before → came taken ≡ after_bytes (after_byte before byte) rest
came_then taken closed rest byte before are text = ap came are ∙ after_both reading_start before closed (byte ∷ rest) text

-- what came to the input's end
same_end : (taken closed : List ℕ) (before last : Reading) → taken ≡ closed → came closed ≡ Ok before → came taken ≡ Ok last → before ≡ last
same_end taken closed before last all text whole =
    let both : Ok before ≡ Ok last = sym text ∙ ap came (sym all) ∙ whole in
    cc

never_bad : (taken : List ℕ) (left : Option (List ℕ)) (count : ℕ) (bad : BadLine) → IsLawful taken left count → IsStopped taken left (stops.Bad bad) → ⊥
never_bad taken left count bad is stopped = elim stopped.stopped [
  | inl next ↦ (
      let e : came taken ≡ Err bad = came_then taken stopped.closed next.rest next.byte stopped.before next.are stopped.good_text ∙ ap (λ x. after_bytes x next.rest) next.why ∙ after_bytes-bad bad next.rest in
      let both : Err bad ≡ Ok is.last = sym e ∙ is.good_text in
      cc
      )
  | inr ended ↦ (
      let same : stopped.before ≡ is.last = same_end taken stopped.closed stopped.before is.last ended.all stopped.good_text is.good_text in
      let both : Err bad ≡ Ok is.whole = sym ended.why ∙ ap finished same ∙ is.ends in
      cc
      )
]

never_unlawful : (taken : List ℕ) (left : Option (List ℕ)) (count line : ℕ) → IsLawful taken left count → IsStopped taken left (stops.Unlawful line) → ⊥
never_unlawful taken left count line is stopped = elim stopped.stopped [
  | inl next ↦ (
      let (after, e, refused, same) = next.why in
      let later : after_bytes (Ok after) next.rest ≡ Ok is.last =
      sym (came_then taken stopped.closed next.rest next.byte stopped.before next.are stopped.good_text ∙ ap (λ x. after_bytes x next.rest) e) ∙ is.good_text in
      refused (good_before_bytes after is.last next.rest later (good_before_end is.last is.whole is.ends is.good))
      )
  | inr ended ↦ (
      let (after, e, refused, line_is) = ended.why in
      let same : stopped.before ≡ is.last = same_end taken stopped.closed stopped.before is.last ended.all stopped.good_text is.good_text in
      let both : Ok after ≡ Ok is.whole = sym e ∙ ap finished same ∙ is.ends in
      let whole : is.whole ≡ after = cc in
      refused (subst IsGood whole is.good)
      )
]

same_count : (taken : List ℕ) (left : Option (List ℕ)) (m n : ℕ) → IsLawful taken left m → IsLawful taken left n → m ≡ n
same_count taken left m n is other =
    let both : Ok is.last ≡ Ok other.last = sym is.good_text ∙ other.good_text in
    let same : is.last ≡ other.last = cc in
    let ends : Ok is.whole ≡ Ok other.whole = sym is.ends ∙ ap finished same ∙ other.ends in
    let whole : is.whole ≡ other.whole = cc in
    is.counted ∙ ap (λ (r : Reading). r.told.count) whole ∙ sym other.counted

pub lawful_only : LawfulIsOnly
lawful_only taken left count (verdicts.Lawful n) is other = ap verdicts.Lawful (same_count taken left n count other is)
lawful_only taken left count (verdicts.Bad bad) is other = absurd (never_bad taken left count bad is other)
lawful_only taken left count (verdicts.Unlawful line) is other = absurd (never_unlawful taken left count line is other)

pub lawful_read : LawfulIsRead
lawful_read version config body text left is good at_end =
    let r : IsRead version config body text = printed_read version config body text is in
    record {
      last = r.last;
      whole = r.last;
      good_text = r.good_text;
      ends = r.ends;
      good = subst (λ (t : Told). GoodAt t.stage t.entries) (sym r.told) good;
      counted = sym (ap (λ (t : Told). t.count) r.told);
      at_end = at_end;
    }
