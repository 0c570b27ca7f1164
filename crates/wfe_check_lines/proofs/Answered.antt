-- Where no fault comes in between, the verdict on a record is written.
use Rattle.std.proofs.Common.{ℕ, List, Option, ◌≡◌, inl, inr}
use Rattle.wfe_trace.specs.declared.reason.Status.{Status}
use Rattle.wfe_trace.specs.declared.reason.Status.TheVariants as statuses
use Rattle.wfe_check_lines.specs.Verdicts.{Checks, IsAnswered}

pub answered : {R F : Type 0} (status : Status) (before left old new : Option (List ℕ)) → Checks status before left old new → (status ≡ statuses.ReadFault → R) → (status ≡ statuses.WriteFault → F) → IsAnswered status R F
answered status before left old new (taken, consumed, why) reads writes no_read no_write = elim why [
  | inl judged ↦ elim judged.prints [
    | inl written ↦ inl (judged.verdict, written.0)
    | inr stopped ↦ absurd (no_write (writes stopped.0))
  ]
  | inr rest ↦ elim rest [
    | inl cut ↦ absurd (no_read (reads cut.reported))
    | inr spent ↦ inr spent.0
  ]
]
