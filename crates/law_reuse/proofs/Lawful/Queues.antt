-- The record of each history keeps the law of the queue.
use Rattle.std.proofs.Common.{ℕ, ◌≡◌, ◌≤◌, ◌<◌, ◌+◌, ◌-◌, Bool, true, false, List, [], ◌∷◌, ◌++◌, length, refl, sym, ap, ◌∙◌, subst, arith}
use Rattle.std.proofs.lemmas.Bool.Decides.{nat_tests}
use Rattle.std.specs.Prelude.{◌==◌, ◌&&◌, nat_le, slice_index_or, if◌then◌else◌}
use Rattle.inv_all.specs.model.defs.declared.call.Call.{Call}
use Rattle.inv_all.specs.model.defs.declared.event.Event.{Event}
use Rattle.inv_all.specs.model.defs.declared.event.Event.TheVariants as events
use Rattle.inv_all.specs.model.defs.declared.event.Root.TheVariants as roots
use Rattle.inv_all.specs.model.Book.{Book, booked, booked_all}
use Rattle.inv_all.specs.model.Posts.{counted}
use Rattle.inv_all.specs.model.World.{finds, is_busy, told_in, may_start, offered}
use Rattle.inv_all.proofs.model.Facts.{both, first_of, rest_of}
use Rattle.inv_all.specs.Contents.Gives.{QueueRight, AllQueueRight}
use Rattle.inv_all.specs.history.Record.{Past, Each, tells_of}
use Rattle.inv_all.specs.history.Record.Past.{Then}
use Rattle.inv_all.proofs.history.Entries.{entries_of_each}
use Rattle.inv_all.specs.history.History.{Begins, Steps, Made, done, first_made, record_of}
use Rattle.inv_all.proofs.history.Along.{Steady, items_keep}
use Rattle.inv_all.specs.Inv.{Inv, TellsRight}
use Rattle.inv_all.proofs.Inv.Begun.{inv_start, inv_begin}
use Rattle.inv_all.proofs.Inv.Kept.{inv_kept}
use Rattle.inv_all.proofs.Inv.Tells.{inv_tells}
use Rattle.laws.specs.StructuresAt.{queued_of, taken_of}
use Rattle.laws.specs.QueueLaw.{queue_ok}
use Rattle.law_reuse.specs.Answers.{RecordsKeepQueue}
use Rattle.inv_all.proofs.history.AllOf.{all_of}
use Rattle.inv_all.proofs.Machines.{is_still, one_loud, told_loud}

-- what was queued and taken by the record is what the book says
pub record Agrees (a : Book) (p : Past) : Type 0 where
  pub queued : queued_of p ≡ a.queued
  pub taken : taken_of p ≡ a.taken

one_agrees : (a : Book) (i : ℕ) (p : Past) (event : Event) → Agrees a p → Agrees (booked a event) (Then p i event)
one_agrees a i p (events.Queued number value) g = record { queued = ap (λ (all : List ℕ). all ++ value ∷ []) g.queued; taken = g.taken }
one_agrees a i p (events.Taken number value) g = record { queued = g.queued; taken = ap (λ (n : ℕ). n + 1) g.taken }
one_agrees a i p (events.Link (roots.Bucket bucket) slot) g = record { queued = g.queued; taken = g.taken }
one_agrees a i p (events.Link (roots.Next parent) slot) g = record { queued = g.queued; taken = g.taken }
one_agrees a i p (events.Link roots.Head slot) g = record { queued = g.queued; taken = g.taken }
one_agrees a i p (events.Link roots.Tail slot) g = record { queued = g.queued; taken = g.taken }
one_agrees a i p (events.Begin call) g = record { queued = g.queued; taken = g.taken }
one_agrees a i p (events.End steps answer) g = record { queued = g.queued; taken = g.taken }
one_agrees a i p (events.Era era) g = record { queued = g.queued; taken = g.taken }
one_agrees a i p (events.Reserve guard span) g = record { queued = g.queued; taken = g.taken }
one_agrees a i p (events.Read guard span) g = record { queued = g.queued; taken = g.taken }
one_agrees a i p (events.Hazard guard slot) g = record { queued = g.queued; taken = g.taken }
one_agrees a i p (events.Saw guard slot) g = record { queued = g.queued; taken = g.taken }
one_agrees a i p (events.Give slot birth) g = record { queued = g.queued; taken = g.taken }
one_agrees a i p (events.Unused slot) g = record { queued = g.queued; taken = g.taken }
one_agrees a i p (events.Cut slot) g = record { queued = g.queued; taken = g.taken }
one_agrees a i p (events.Retire slot birth retire) g = record { queued = g.queued; taken = g.taken }
one_agrees a i p (events.Back slot) g = record { queued = g.queued; taken = g.taken }
one_agrees a i p (events.Held index slot steps) g = record { queued = g.queued; taken = g.taken }
one_agrees a i p (events.Null index steps) g = record { queued = g.queued; taken = g.taken }
one_agrees a i p (events.Clear index slot) g = record { queued = g.queued; taken = g.taken }
one_agrees a i p (events.Copied from index slot) g = record { queued = g.queued; taken = g.taken }
one_agrees a i p (events.Left count) g = record { queued = g.queued; taken = g.taken }
one_agrees a i p (events.Adopted place count) g = record { queued = g.queued; taken = g.taken }
one_agrees a i p (events.Got bucket version key value) g = record { queued = g.queued; taken = g.taken }
one_agrees a i p (events.Put bucket version key value) g = record { queued = g.queued; taken = g.taken }
one_agrees a i p (events.Removed bucket version key) g = record { queued = g.queued; taken = g.taken }

pub told_agrees : (i : ℕ) (told : List Event) (p : Past) (a : Book) → Agrees a p → Agrees (booked_all a told) (tells_of p i told)
told_agrees i [] p a g = g
told_agrees i (event ∷ told) p a g = told_agrees i told (Then p i event) (booked a event) (one_agrees a i p event g)

-- an entry
one_ok : (i : ℕ) (a : Book) (p : Past) (event : Event) → Agrees a p → QueueRight a event → queue_ok p i event ≡ true
one_ok i a p (events.Queued number value) g r = let n : number ≡ length (queued_of p) + 1 = r ∙ ap (λ (all : List ℕ). length all + 1) (sym g.queued) in grind (arith, nat_tests)
one_ok i a p (events.Taken number value) g r =
    let next : number ≡ taken_of p + 1 = r.next ∙ ap (λ (n : ℕ). n + 1) (sym g.taken) in
    let same : (number == taken_of p + 1) ≡ true = grind (arith, nat_tests) in
    let within : number ≤ length (queued_of p) = subst (λ (all : List ℕ). number ≤ length all) (sym g.queued) r.within in
    let low : nat_le number (length (queued_of p)) ≡ true = grind (arith, nat_tests) in
    let shown : value ≡ slice_index_or (queued_of p) (number - 1) 0 = r.right ∙ ap (λ (all : List ℕ). slice_index_or all (number - 1) 0) (sym g.queued) in
    let right : (value == slice_index_or (queued_of p) (number - 1) 0) ≡ true = grind (arith, nat_tests) in
    both (number == taken_of p + 1) (nat_le number (length (queued_of p)) && value == slice_index_or (queued_of p) (number - 1) 0) same (both (nat_le number (length (queued_of p))) (value == slice_index_or (queued_of p) (number - 1) 0) low right)
one_ok i a p event g r = refl

-- one that tells nothing of the queue
still_ok : (i : ℕ) (p : Past) (event : Event) → is_still event ≡ true → queue_ok p i event ≡ true
still_ok i p (events.Queued number value) h = absurd (cc)
still_ok i p (events.Taken number value) h = absurd (cc)
still_ok i p event h = refl

still_queued : (i : ℕ) (p : Past) (event : Event) → is_still event ≡ true → queued_of (Then p i event) ≡ queued_of p
still_queued i p (events.Queued number value) h = absurd (cc)
still_queued i p event h = refl

still_taken : (i : ℕ) (p : Past) (event : Event) → is_still event ≡ true → taken_of (Then p i event) ≡ taken_of p
still_taken i p (events.Taken number value) h = absurd (cc)
still_taken i p event h = refl

still_each : (i : ℕ) (told : List Event) (p : Past) → all_of is_still told ≡ true → Each queue_ok p → Each queue_ok (tells_of p i told)
still_each i [] p h g = g
still_each i (event ∷ told) p h g = still_each i told (Then p i event) (rest_of (is_still event) (all_of is_still told) h) (still_ok i p event (first_of (is_still event) (all_of is_still told) h), g)

-- what a step tells: at most one event of the queue
event_each : (i : ℕ) (a : Book) (event : Event) (told : List Event) (p : Past) (still : Bool) → is_still event ≡ still → Agrees a p → (if still then one_loud told else all_of is_still told) ≡ true → QueueRight a event
    → (Agrees a (Then p i event) → one_loud told ≡ true → Each queue_ok (Then p i event) → Each queue_ok (tells_of (Then p i event) i told))
    → Each queue_ok p → Each queue_ok (tells_of (Then p i event) i told)
event_each i a event told p true e g h r later t =
    later (record { queued = still_queued i p event e ∙ g.queued; taken = still_taken i p event e ∙ g.taken }) h (still_ok i p event e, t)
event_each i a event told p false e g h r later t = still_each i told (Then p i event) h (one_ok i a p event g r, t)

told_each : (i : ℕ) (a : Book) (told : List Event) (p : Past) → Agrees a p → one_loud told ≡ true → AllQueueRight a told → Each queue_ok p → Each queue_ok (tells_of p i told)
told_each i a [] p g h r t = t
told_each i a (event ∷ told) p g h r t = event_each i a event told p (is_still event) refl g h r.0 (λ g1 h1 t1. told_each i a told (Then p i event) g1 h1 r.1 t1) t

-- what a history keeps
record Keeps (made : Made) : Type 0 where
  known : Inv made.world
  agrees : Agrees made.world.book made.past
  law : Each queue_ok made.past

begin_keeps : (made : Made) (i : ℕ) (call : Call) → is_busy made.world i ≡ false → may_start made.world i call ≡ true → Keeps made → Keeps (done made (Begins i call))
begin_keeps made i call f m g =
    let o = g.agrees in
    record { known = inv_begin made.world i call f m g.known; agrees = record { queued = o.queued; taken = o.taken }; law = (refl, g.law) }

step_keeps : (made : Made) (i : ℕ) → i < made.world.layout.config.seats → Keeps made → Keeps (done made (Steps i))
step_keeps made i b g =
    let m : TellsRight made.world i = inv_tells made.world i b g.known in
    record {
      known = inv_kept made.world i b g.known;
      agrees = told_agrees i (told_in made.world i) made.past made.world.book g.agrees;
      law = told_each i made.world.book (told_in made.world i) made.past g.agrees (told_loud (made.world.seat i).phase (counted (made.world.seat i).post) (offered made.world i).desk (finds made.world i)) m.queue g.law;
    }

steady : Steady Keeps
steady = record { begins = λ made i call b y m g. begin_keeps made i call y m g; steps = λ made i b y g. step_keeps made i b g }

pub records_keep_queue : RecordsKeepQueue
records_keep_queue layout items d =
    let g = items_keep Keeps steady items (first_made layout) (record { known = inv_start layout d; agrees = record { queued = refl; taken = refl }; law = tt }) in
    entries_of_each queue_ok (record_of layout items) g.law
