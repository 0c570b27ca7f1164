-- The steps of an enqueue, as its turns in the model.
use Rattle.wfe_core.specs.declared.desk.Desk.{Desk as HeldDesk}
use Rattle.wfe_core.specs.declared.ends.AllocateEnd.TheVariants as allocate_ends
use Rattle.wfe_drive_runs.proofs.Turning.{went_on}
use Rattle.wfe_drive_words.proofs.Leading.{leads_as}
use Rattle.wfe_drive_words.specs.Path.{Leads}
use Rattle.wfe_drive_words.specs.Called.{at_phase}
use Rattle.wfe_core.specs.declared.op.Op.{Op}
use Rattle.wfe_core.specs.WriteRow.{writing}
use Rattle.wfe_core.specs.Phases.Ending.{Allocated, Protected}
use Rattle.wfe_core.specs.Locals.{Local}
use Rattle.wfe_core.specs.DeskHeld.{desk_of}
use Rattle.wfe_core.specs.Change.{no_room}
use Rattle.std.proofs.Common.{Bool, List, None, ap, arith, false, refl, true, ℕ, ◌+◌, ◌==◌, ◌∙◌, ◌≡◌, Some}
use Rattle.std.proofs.lemmas.Bool.{eq-eqb, ne_eqb}
use Rattle.wfe_core.specs.defs.declared.call.Answer.TheVariants as answers
use Rattle.wfe_core.specs.defs.declared.event.Root.{Root}
use Rattle.wfe_core.specs.defs.declared.event.Root.TheVariants as roots
use Rattle.wfe_core.specs.Calls.{Again, Answering, EnqueueKept, Enqueues, Enqueuing, ExchangeTail, Fills, LoadNumber, Opens, PassTail, Runs, Works}
use Rattle.wfe_core.specs.Desks.{Desk, noting}
use Rattle.wfe_core.specs.Enqueue.{appended, appending, at_next, filling, told_link, new_item}
use Rattle.wfe_core.specs.Rounds.{clearing}
use Rattle.wfe_core.specs.declared.post.Post.{Post}
use Rattle.wfe_drive_words.specs.drive_cells.Unit.{SeatView, kept_desk, seat_after}
use Rattle.wfe_drive_runs.specs.Pieces.{clearing_at, seat_of, LeadsSo, end_of}
use Rattle.wfe_drive_runs.proofs.Closing.{clearing_noted}
use Rattle.wfe_drive_runs.proofs.Noted.{ends_noted}

-- the next link was read
pub at_passes : (kept : EnqueueKept) (next : ℕ) (post : Post) (desk : Desk) → (next ≡ 0 → ⊥) → seat_after (at_next kept next post (kept_desk desk) (next == 0)) ≡ seat_of (Works (Enqueuing kept (PassTail next))) post desk
at_passes kept next post desk h = ap (λ (none : Bool). seat_after (at_next kept next post (kept_desk desk) none)) (ne_eqb next 0 h)

pub at_last : (kept : EnqueueKept) (next : ℕ) (post : Post) (desk : Desk) → next ≡ 0 → seat_after (at_next kept next post (kept_desk desk) (next == 0)) ≡ seat_after (appending kept post (kept_desk desk) (kept.number == post.layout.config.last_version))
at_last kept next post desk h = ap (λ (none : Bool). seat_after (at_next kept next post (kept_desk desk) none)) (eq-eqb next 0 h)

pub is_spent : (kept : EnqueueKept) (post : Post) (desk : Desk) → kept.number ≡ post.layout.config.last_version → seat_after (appending kept post (kept_desk desk) (kept.number == post.layout.config.last_version)) ≡ clearing_at (Enqueues kept) (Answering (answers.Spent kept.number)) post desk
is_spent kept post desk h = ap (λ (spent : Bool). seat_after (appending kept post (kept_desk desk) spent)) (eq-eqb kept.number post.layout.config.last_version h)

pub is_left : (kept : EnqueueKept) (post : Post) (desk : Desk) → (kept.number ≡ post.layout.config.last_version → ⊥) → seat_after (appending kept post (kept_desk desk) (kept.number == post.layout.config.last_version)) ≡ seat_of (Runs (Fills (Enqueues kept)) (filling kept)) post desk
is_left kept post desk h = ap (λ (spent : Bool). seat_after (appending kept post (kept_desk desk) spent)) (ne_eqb kept.number post.layout.config.last_version h)

-- an exchange of a root is not noted
pub link_quiet : (desk : Desk) (root : Root) (slot : ℕ) (same : Bool) → noting desk (told_link root slot same) ≡ desk
link_quiet desk root slot true = refl
link_quiet desk root slot false = refl

-- the tail was moved, by this call or another
pub passed : (kept : EnqueueKept) (slot : ℕ) (same : Bool) (post : Post) (desk : Desk) → seat_after (clearing (Enqueues kept) Again post (kept_desk desk) (told_link roots.Tail slot same)) ≡ clearing_at (Enqueues kept) Again post desk
passed kept slot same post desk = clearing_noted (Enqueues kept) Again post desk (told_link roots.Tail slot same) ∙ ap (clearing_at (Enqueues kept) Again post) (link_quiet desk roots.Tail slot same)

pub queued : (kept : EnqueueKept) (slot : ℕ) (same : Bool) (post : Post) (desk : Desk)
    → seat_after (clearing (Enqueues kept) (Answering (answers.Queued (kept.number + 1))) post (kept_desk desk) (told_link roots.Tail slot same)) ≡ clearing_at (Enqueues kept) (Answering (answers.Queued (kept.number + 1))) post desk
queued kept slot same post desk = clearing_noted (Enqueues kept) (Answering (answers.Queued (kept.number + 1))) post desk (told_link roots.Tail slot same) ∙ ap (clearing_at (Enqueues kept) (Answering (answers.Queued (kept.number + 1))) post) (link_quiet desk roots.Tail slot same)

-- the item was linked, or another was before it
pub is_linked : (kept : EnqueueKept) (slot found : ℕ) (post : Post) (desk : Desk) → found ≡ 0 → seat_after (appended kept slot post (kept_desk desk) (found == 0)) ≡ seat_of (Works (Enqueuing (record kept { taken = None }) (ExchangeTail slot))) post desk
is_linked kept slot found post desk h = ap (λ (same : Bool). seat_after (appended kept slot post (kept_desk desk) same)) (eq-eqb found 0 h)

pub is_lost : (kept : EnqueueKept) (slot found : ℕ) (post : Post) (desk : Desk) → (found ≡ 0 → ⊥) → seat_after (appended kept slot post (kept_desk desk) (found == 0)) ≡ clearing_at (Enqueues kept) Again post desk
is_lost kept slot found post desk h = ap (λ (same : Bool). seat_after (appended kept slot post (kept_desk desk) same)) (ne_eqb found 0 h)

-- so many steps
pub two : (steps : ℕ) → steps + 1 + 1 ≡ steps + 2
two steps = omega arith

pub three : (steps : ℕ) → steps + 1 + 1 + 1 ≡ steps + 3
three steps = omega arith

pub at_steps : (post : Post) (n m : ℕ) → n ≡ m → record post { steps = n } ≡ record post { steps = m }
at_steps post n m e = ap (λ (k : ℕ). let p : Post = record post { steps = k } in p) e

-- the tail's row is held, or the tail was null
module _ {at0 at1 : Local → Type 0} {stands0 stands1 : List (Op × ℕ) → Type 0} {first : SeatView} where
  pub tail_held : (kept : EnqueueKept) (tail era : ℕ) (post : Post) (held : HeldDesk) → LeadsSo at0 at1 stands0 stands1 first (Opens (Enqueues kept)) (Protected (end_of (Some tail) era)) post held
      → Leads at0 at1 stands0 stands1 first (at_phase (Works (Enqueuing (record kept { tail = tail }) LoadNumber)) post held)
  tail_held kept tail era post held x = leads_as _ _ (went_on (Works (Enqueuing (record kept { tail = tail }) LoadNumber)) post x.before x.told held x.noted) x.leads

  pub tail_null : (kept : EnqueueKept) (era : ℕ) (post : Post) (held : HeldDesk) → LeadsSo at0 at1 stands0 stands1 first (Opens (Enqueues kept)) (Protected (end_of None era)) post held
      → Leads at0 at1 stands0 stands1 first (clearing_at (Enqueues kept) Again post (desk_of held))
  tail_null kept era post held x = leads_as _ _ (ends_noted (Enqueues kept) Again post held x.before x.told x.noted) x.leads

  -- a row was given, or none was free
  pub row_given : (kept : EnqueueKept) (slot birth : ℕ) (post : Post) (held : HeldDesk) → LeadsSo at0 at1 stands0 stands1 first (Fills (Enqueues kept)) (Allocated (allocate_ends.Given slot birth)) post held
      → Leads at0 at1 stands0 stands1 first (at_phase (Runs (Fills (Enqueues (record kept { taken = Some slot }))) (writing slot (new_item kept))) post held)
  row_given kept slot birth post held x = leads_as _ _ (went_on (Runs (Fills (Enqueues (record kept { taken = Some slot }))) (writing slot (new_item kept))) post x.before x.told held x.noted) x.leads

  pub none_free : (kept : EnqueueKept) (post : Post) (held : HeldDesk) → LeadsSo at0 at1 stands0 stands1 first (Fills (Enqueues kept)) (Allocated allocate_ends.Full) post held
      → Leads at0 at1 stands0 stands1 first (clearing_at (Enqueues (record kept { walked = true })) (no_room kept.walked) post (desk_of held))
  none_free kept post held x = leads_as _ _ (ends_noted (Enqueues (record kept { walked = true })) (no_room kept.walked) post held x.before x.told x.noted) x.leads
