-- Entries that were told before more of a record was taken are good where those after it are.
use Rattle.std.proofs.Common.{ℕ, ◌≡◌, ◌++◌, ◌∙◌, ◌+◌, ◌==◌, Bool, true, false, List, [], ◌∷◌, length, Option, Some, None, Result, Ok, Err, refl, sym, subst, if◌then◌else◌}
use Rattle.laws.specs.words.declared.config.Config.{Config}
use Rattle.laws.specs.records.Record.Past.{Then}
use Rattle.laws.specs.Good.{Good}
use Rattle.laws.proofs.Cuts.{cuts_good}
use Rattle.wfe_trace.specs.Words.{words}
use Rattle.wfe_trace.specs.declared.reason.RecordReason.{RecordReason}
use Rattle.wfe_check_lines.specs.Kinds.{kind_in}
use Rattle.wfe_check_lines.specs.Reading.{GoodAt, IsGood, Reading, Stage, Told, after_byte, after_bytes, after_good_byte, after_last, after_line, at_stage, byte_refused, counted, finished, told_after, told_at, with_kind, with_line, ◌then◌}
use Rattle.wfe_check_lines.specs.Reading.Stage.{First, Body, Over}
use Rattle.wfe_check_lines.specs.declared.kind.Kind.{Kind}
use Rattle.wfe_check_lines.specs.declared.kind.Kind.TheVariants as kinds
use Rattle.wfe_check_lines.specs.declared.stops.BadLine.{BadLine}
use Rattle.wfe_check_lines.proofs.Bytes.{after_bytes-bad}

good_before_kind : (version : ℕ) (config : Config) (told now : Told) (kind : Option Kind) → told.stage ≡ Body version config → with_kind version config told kind ≡ Ok now → GoodAt now.stage now.entries → Good version config told.entries
good_before_kind version config told now None body h good = absurd (cc)
good_before_kind version config told now (Some (kinds.Entry seat event)) body h good =
    let is : record told { entries = Then told.entries seat event; count = told.count + 1 } ≡ now = cc in
    let after : GoodAt told.stage (Then told.entries seat event) = subst (λ (t : Told). GoodAt t.stage t.entries) (sym is) good in
    let grown : Good version config (Then told.entries seat event) = subst (λ s. GoodAt s (Then told.entries seat event)) body after in
    cuts_good version config told.entries (record { seat = seat; event = event } ∷ []) grown
good_before_kind version config told now (Some kinds.Shown) body h good =
    let is : told ≡ now = cc in
    let after : GoodAt told.stage told.entries = subst (λ (t : Told). GoodAt t.stage t.entries) (sym is) good in
    subst (λ s. GoodAt s told.entries) body after
good_before_kind version config told now (Some kinds.Last) body h good =
    let is : record told { stage = Over version config } ≡ now = cc in
    subst (λ (t : Told). GoodAt t.stage t.entries) (sym is) good

good_before_at : (stage : Stage) (told now : Told) (line : List ℕ) → told.stage ≡ stage → told_at stage told line ≡ Ok now → GoodAt now.stage now.entries → GoodAt stage told.entries
good_before_at First told now line is h good = tt
good_before_at (Body version config) told now line is h good = good_before_kind version config told now (kind_in version config (words line)) is h good
good_before_at (Over version config) told now line is h good = absurd (cc)

good_before_told : (r q : Reading) (next : Result Told RecordReason) → told_after r.told r.line ≡ next → with_line r next ≡ Ok q → IsGood q → IsGood r
good_before_told r q (Err reason) e h good = absurd (cc)
good_before_told r q (Ok now) e h good =
    let is : record r { line = []; lines = r.lines + 1; told = now } ≡ q = cc in
    good_before_at r.told.stage r.told now r.line refl e (subst IsGood (sym is) good)

good_before_line : (r q : Reading) → after_line r ≡ Ok q → IsGood q → IsGood r
good_before_line r q h good = good_before_told r q (told_after r.told r.line) refl h good

good_before_feed : (r q : Reading) (b : ℕ) (feed : Bool) → (b == 10) ≡ feed → after_good_byte r b None ≡ Ok q → IsGood q → IsGood r
good_before_feed r q b true e h good = good_before_line (counted r) q (rw e at h) good
good_before_feed r q b false e h good =
    let here = rw e at h in
    let is : record (counted r) { line = r.line ++ b ∷ [] } ≡ q = cc in
    subst IsGood (sym is) good

good_before_good : (r q : Reading) (b : ℕ) (o : Option RecordReason) → after_good_byte r b o ≡ Ok q → IsGood q → IsGood r
good_before_good r q b (Some reason) h good = absurd (cc)
good_before_good r q b None h good = good_before_feed r q b (b == 10) refl h good

good_before_byte : (r q : Reading) (b : ℕ) → after_byte r b ≡ Ok q → IsGood q → IsGood r
good_before_byte r q b h good = good_before_good r q b (byte_refused r b) h good

good_before_next : (r q : Reading) (b : ℕ) (bs : List ℕ) (next : Result Reading BadLine) → after_byte r b ≡ next → after_bytes next bs ≡ Ok q → IsGood q → ((m : Reading) → after_bytes (Ok m) bs ≡ Ok q → IsGood m) → IsGood r
good_before_next r q b bs (Err bad) e h good later = let never : Err bad ≡ Ok q = sym (after_bytes-bad bad bs) ∙ h in absurd (cc)
good_before_next r q b bs (Ok m) e h good later = good_before_byte r m b e (later m h)

-- so it is with bytes
pub good_before_bytes : (r q : Reading) (bs : List ℕ) → after_bytes (Ok r) bs ≡ Ok q → IsGood q → IsGood r
good_before_bytes r q [] h good = let is : r ≡ q = cc in subst IsGood (sym is) good
good_before_bytes r q (b ∷ bs) h good = good_before_next r q b bs (after_byte r b) refl h good (λ m g. good_before_bytes m q bs g good)

-- and with the input's end
good_before_stage : (stage : Stage) (r q : Reading) → at_stage stage r ≡ Ok q → IsGood q → IsGood r
good_before_stage First r q h good = absurd (cc)
good_before_stage (Body version config) r q h good = let is : r ≡ q = cc in subst IsGood (sym is) good
good_before_stage (Over version config) r q h good = let is : r ≡ q = cc in subst IsGood (sym is) good

good_before_last : (r m : Reading) (none : Bool) → (length r.line == 0) ≡ none → after_last r ≡ Ok m → IsGood m → IsGood r
good_before_last r m true e h good =
    let here = rw e at h in
    let is : r ≡ m = cc in
    subst IsGood (sym is) good
good_before_last r m false e h good = good_before_line r m (rw e at h) good

good_before_finished : (r q : Reading) (last : Result Reading BadLine) → after_last r ≡ last → (last then (λ m. at_stage m.told.stage m)) ≡ Ok q → IsGood q → IsGood r
good_before_finished r q (Err bad) e h good = absurd (cc)
good_before_finished r q (Ok m) e h good = good_before_last r m (length r.line == 0) refl e (good_before_stage m.told.stage m q h good)

pub good_before_end : (r q : Reading) → finished r ≡ Ok q → IsGood q → IsGood r
good_before_end r q h good = good_before_finished r q (after_last r) refl h good
