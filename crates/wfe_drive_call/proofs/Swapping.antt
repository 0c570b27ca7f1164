-- The exchange of the root, and what it leads to.
use Rattle.std.proofs.Common.{Bool, List, None, [], ap, false, if◌then◌else◌, refl, true, ℕ, ◌+◌, ◌++◌, ◌-◌, ◌==◌, ◌∙◌, ◌∷◌, ◌≡◌}
use Rattle.std.proofs.lemmas.Bool.{eq-eqb, ne_eqb}
use Rattle.wfe_core.specs.defs.declared.call.Answer.TheVariants as answers
use Rattle.wfe_core.specs.defs.declared.call.ClockMove.TheVariants as moves
use Rattle.wfe_core.specs.defs.declared.event.Event.TheVariants as events
use Rattle.wfe_core.specs.defs.declared.event.Root.TheVariants as roots
use Rattle.wfe_core.specs.defs.declared.fold.Change.{Change}
use Rattle.wfe_core.specs.defs.declared.fold.Change.TheVariants as changes
use Rattle.wfe_core.specs.Calls.{Again, Answering, ChangeKept, Changes, ExchangeRoot, Retiring}
use Rattle.wfe_core.specs.Change.{changed_bucket, exchanged, told_change, told_linked}
use Rattle.wfe_core.specs.Desks.{Desk, Notes, noted_all}
use Rattle.wfe_core.specs.Locals.{Local}
use Rattle.wfe_core.specs.declared.op.Op.{Op}
use Rattle.wfe_core.specs.declared.post.Post.{Post}
use Rattle.wfe_drive_runs.specs.drive_words.drive_cells.Unit.{SeatView, kept_desk, seat_after}
use Rattle.wfe_drive_runs.specs.drive_words.Path.{Leads, StepsOn}
use Rattle.wfe_drive_runs.proofs.Closing.{clearing_noted}
use Rattle.wfe_drive_runs.proofs.drive_words.Leading.{leads_as}
use Rattle.wfe_drive_call.specs.Changing.{clears_at, step_post, works_at}

-- what an exchange tells is not noted
linked-noted : (notes : Notes) (bucket slot cut version : ℕ) (change : Change) (null : Bool)
    → noted_all notes (events.Link (roots.Bucket bucket) slot ∷ (if null then [] else events.Cut cut ∷ []) ++ told_change bucket version change ∷ []) ≡ notes
linked-noted notes bucket slot cut version (changes.Put key value) true = refl
linked-noted notes bucket slot cut version (changes.Put key value) false = refl
linked-noted notes bucket slot cut version (changes.Removed key) true = refl
linked-noted notes bucket slot cut version (changes.Removed key) false = refl

-- the root has moved
pub lost : {at0 at1 : Local → Type 0} {stands0 stands1 : List (Op × ℕ) → Type 0} (kept : ChangeKept) (slot : ℕ) (post : Post) (desk : Desk) (found : ℕ) → (found ≡ kept.link → ⊥)
    → StepsOn at0 at1 stands0 stands1 (works_at kept (ExchangeRoot slot) post desk) found
    → Leads at0 at1 stands0 stands1 (works_at kept (ExchangeRoot slot) post desk) (clears_at kept Again (step_post post (post.steps + 1)) desk)
lost kept slot post desk found other s =
    leads_as _ _ (ap (λ (b : Bool). seat_after (exchanged kept slot (step_post post (post.steps + 1)) (kept_desk desk) b)) (ne_eqb found kept.link other)) s.leads

-- it leads to the new row
abbrev pub unlinked : ChangeKept → ChangeKept
unlinked kept = record kept { taken = None }

abbrev done_by : ChangeKept → Post → Desk → (null : Bool) → SeatView
done_by kept post desk null = clears_at (unlinked kept) (if null then Answering (answers.Done (kept.version + 1) moves.Still) else Retiring (kept.link - 1) (answers.Done (kept.version + 1) moves.Still)) post desk

linked : {at0 at1 : Local → Type 0} {stands0 stands1 : List (Op × ℕ) → Type 0} (kept : ChangeKept) (slot : ℕ) (post : Post) (desk : Desk) (found : ℕ) → found ≡ kept.link
    → StepsOn at0 at1 stands0 stands1 (works_at kept (ExchangeRoot slot) post desk) found
    → Leads at0 at1 stands0 stands1 (works_at kept (ExchangeRoot slot) post desk) (done_by kept (step_post post (post.steps + 1)) desk (kept.link == 0))
linked kept slot post desk found same s =
    let p : Post = step_post post (post.steps + 1) in
    leads_as _ _ (ap (λ (b : Bool). seat_after (exchanged kept slot p (kept_desk desk) b)) (eq-eqb found kept.link same)
    ∙ clearing_noted (Changes (unlinked kept)) (if kept.link == 0 then Answering (answers.Done (kept.version + 1) moves.Still) else Retiring (kept.link - 1) (answers.Done (kept.version + 1) moves.Still)) p desk (told_linked kept slot p)
    ∙ ap (λ (notes : Notes). done_by kept p (record desk { notes = notes }) (kept.link == 0)) (linked-noted desk.notes (changed_bucket kept p) slot (kept.link - 1) (kept.version + 1) kept.change (kept.link == 0))) s.leads

-- which is the bucket's first
pub first_linked : {at0 at1 : Local → Type 0} {stands0 stands1 : List (Op × ℕ) → Type 0} (kept : ChangeKept) (slot : ℕ) (post : Post) (desk : Desk) (found : ℕ) → found ≡ kept.link → kept.link ≡ 0
    → StepsOn at0 at1 stands0 stands1 (works_at kept (ExchangeRoot slot) post desk) found
    → Leads at0 at1 stands0 stands1 (works_at kept (ExchangeRoot slot) post desk) (clears_at (unlinked kept) (Answering (answers.Done (kept.version + 1) moves.Still)) (step_post post (post.steps + 1)) desk)
first_linked kept slot post desk found same null s =
    leads_as _ _ (ap (done_by kept (step_post post (post.steps + 1)) desk) (eq-eqb kept.link 0 null)) (linked kept slot post desk found same s)

-- or comes in place of another
pub next_linked : {at0 at1 : Local → Type 0} {stands0 stands1 : List (Op × ℕ) → Type 0} (kept : ChangeKept) (slot : ℕ) (post : Post) (desk : Desk) (found : ℕ) → found ≡ kept.link → (kept.link ≡ 0 → ⊥)
    → StepsOn at0 at1 stands0 stands1 (works_at kept (ExchangeRoot slot) post desk) found
    → Leads at0 at1 stands0 stands1 (works_at kept (ExchangeRoot slot) post desk) (clears_at (unlinked kept) (Retiring (kept.link - 1) (answers.Done (kept.version + 1) moves.Still)) (step_post post (post.steps + 1)) desk)
next_linked kept slot post desk found same other s =
    leads_as _ _ (ap (done_by kept (step_post post (post.steps + 1)) desk) (ne_eqb kept.link 0 other)) (linked kept slot post desk found same s)
