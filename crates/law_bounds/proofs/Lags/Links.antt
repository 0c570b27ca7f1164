-- A row that a protection of the head or of the tail may end with is not past the tail.
use Rattle.std.proofs.Common.{ℕ, ◌≡◌, ◌≤◌, ◌<◌, ◌+◌, ◌-◌, Bool, true, false, refl, sym, ◌∙◌, subst, ap, arith}
use Rattle.std.proofs.lemmas.Bool.Decides.{nat_tests}
use Rattle.std.specs.Prelude.{◌==◌, ◌&&◌, ◌||◌, not, nat_le}
use Rattle.law_held.specs.inv.Known.{Known}
use Rattle.law_held.specs.inv.ends.Links.{links_to}
use Rattle.law_held.specs.inv.ends.Origins.{Origins}
use Rattle.law_held.specs.inv.ends.Tracked.{root_in}
use Rattle.law_held.specs.inv.history.Record.{Past}
use Rattle.law_held.specs.inv.model.Calls.{EnqueueKept, LoadNumber, LoadNext, PassTail, ExchangeNext, ExchangeTail, ReadGuard, GiveBack, Getting, Changing, Enqueuing, Dequeuing, Keeping, Phase, Idle, Runs, Scans, Works}
use Rattle.law_held.specs.inv.model.Links.{link_place}
use Rattle.law_held.specs.inv.model.World.{World, finds, list_in, step, told_in}
use Rattle.law_held.specs.inv.model.defs.declared.event.Root.{Root}
use Rattle.law_held.specs.inv.model.defs.declared.event.Root.TheVariants as roots
use Rattle.law_held.specs.inv.model.words.Place.Place.{Head, Tail}
use Rattle.law_held.specs.inv.requests.NextDeals.{next_deals}
use Rattle.law_held.specs.inv.requests.Views.{View as Asked}
use Rattle.law_held.specs.inv.rows.Chain.{line_after, queue_of}
use Rattle.law_held.specs.inv.rows.Hands.{hand_in, is_right}
use Rattle.law_held.specs.inv.rows.Queue.{Line, line_move, moved_line}
use Rattle.law_held.specs.inv.rows.Rows.{View}
use Rattle.law_held.specs.laws.StateAt.{tails_of}
use Rattle.law_held.proofs.inv.Inv.Whole.{origins_need}
use Rattle.law_held.proofs.inv.Rounds.Worlds.{other_number}
use Rattle.law_held.proofs.inv.ends.Links.Fits.{fresh_link}
use Rattle.law_held.proofs.inv.ends.Origins.Kept.{origins_kept}
use Rattle.law_held.proofs.inv.model.Facts.{first_of, le_test}
use Rattle.law_held.proofs.inv.rows.Runs.{taken_slot}
use Rattle.law_held.proofs.inv.rows.Steps.{of_taken}
use Rattle.law_held.proofs.inv.rows.Went.{born_unlined}
use Rattle.law_reasons.proofs.Repeats.Records.{tails_grow}
use Rattle.law_reasons.proofs.Repeats.Tails.{tails_step}

-- a link of the queue's ends is null, or leads to a row that is not past the tail
abbrev pub link_low : Line → (tail : ℕ) → Root → ℕ → Bool
link_low l tail (roots.Bucket b) x = true
link_low l tail roots.Head x = x == 0 || nat_le (l.number (x - 1)) (l.number (tail - 1))
link_low l tail roots.Tail x = x == 0 || nat_le (l.number (x - 1)) (l.number (tail - 1))
link_low l tail (roots.Next parent) x = true

-- so it is with all links that are tracked
abbrev pub LowLinks : World → Line → Asked → Type 0
LowLinks w l z = Origins (λ k. link_low l (w.mem Tail)) w z

or_by : (x : ℕ) (b : Bool) (null : Bool) → (x == 0) ≡ null → ((x == 0) ≡ false → b ≡ true) → (null || b) ≡ true
or_by x b true e f = refl
or_by x b false e f = f e

or_next : (x : ℕ) (a b c : Bool) (null : Bool) → (x == 0) ≡ null → (null || a) ≡ true → (null || b) ≡ true → (a ≡ true → b ≡ true → c ≡ true) → (null || c) ≡ true
or_next x a b c true e g h f = refl
or_next x a b c false e g h f = f g h

-- where head and tail lead now
pub root_low : (w : World) (v : View) (l : Line) (z : Asked) (root : Root) → Known w v l z → link_low l (w.mem Tail) root (w.mem (link_place root)) ≡ true
root_low w v l z (roots.Bucket b) a = refl
root_low w v l z roots.Head a =
    or_by (w.mem Head) (nat_le (l.number (w.mem Head - 1)) (l.number (w.mem Tail - 1))) (w.mem Head == 0) refl (λ e.
    let line = a.whole.both.queue.line in
    let some = line.some in
    let last : queue_of v (w.mem Tail - 1) ≡ true = line.reached (w.mem Tail - 1) (omega (arith, some)) in
    let is : v.head ≡ w.mem Head - 1 + 1 = sym a.whole.both.rows.words.head ∙ grind (arith, nat_tests, e) in
    le_test (l.number (w.mem Head - 1)) (l.number (w.mem Tail - 1)) (line.least (w.mem Tail - 1) (w.mem Head - 1) is last))
root_low w v l z roots.Tail a =
    or_by (w.mem Tail) (nat_le (l.number (w.mem Tail - 1)) (l.number (w.mem Tail - 1))) (w.mem Tail == 0) refl (λ e. le_test (l.number (w.mem Tail - 1)) (l.number (w.mem Tail - 1)) (omega arith))
root_low w v l z (roots.Next parent) a = refl

-- no row of the queue gets another number
apart_lined : (l : Line) (s slot : ℕ) (same : Bool) → (s == slot) ≡ same → l.lined s ≡ true → l.lined slot ≡ false → same ≡ false
apart_lined l s slot true e h u = let one : s ≡ slot = grind (arith, nat_tests) in let d : l.lined slot ≡ true = subst (λ (n : ℕ). l.lined n ≡ true) one h in absurd (cc)
apart_lined l s slot false e h u = refl

unlined : (w : World) (i : ℕ) (v : View) (l : Line) (z : Asked) → Known w v l z → (kept : EnqueueKept) (slot : ℕ) → (w.seat i).phase ≡ Works (Enqueuing kept (ExchangeNext slot)) → l.lined slot ≡ false
unlined w i v l z k kept slot e =
    let b = k.whole.both in
    let p = b.rows.plays i in
    let r : is_right (Works (Enqueuing kept (ExchangeNext slot))) (list_in w i) ≡ true = subst (λ (f : Phase). is_right f (list_in w i) ≡ true) e p.right in
    let h : v.hand i ≡ hand_in (Works (Enqueuing kept (ExchangeNext slot))) = p.hand ∙ ap (λ (f : Phase). hand_in f) e in
    born_unlined i v l w.mem slot b.queue.line (of_taken w.layout.config.slots v i slot b.rows.good (h ∙ taken_slot kept.taken slot r))

moved_number : (l : Line) (phase : Phase) (found s : ℕ) → ((kept : EnqueueKept) (slot : ℕ) → phase ≡ Works (Enqueuing kept (ExchangeNext slot)) → (s == slot) ≡ false) → (moved_line l (line_move phase found)).number s ≡ l.number s
moved_number l Idle found s f = refl
moved_number l (Runs why base) found s f = refl
moved_number l (Scans later (ReadGuard number)) found s f = refl
moved_number l (Scans later (GiveBack place slot)) found s f = refl
moved_number l (Works (Getting key at)) found s f = refl
moved_number l (Works (Changing kept at)) found s f = refl
moved_number l (Works (Enqueuing kept LoadNumber)) found s f = refl
moved_number l (Works (Enqueuing kept LoadNext)) found s f = refl
moved_number l (Works (Enqueuing kept (PassTail next))) found s f = refl
moved_number l (Works (Enqueuing kept (ExchangeNext slot))) found s f = other_number l kept.tail slot s (found == 0) (f kept slot refl)
moved_number l (Works (Enqueuing kept (ExchangeTail slot))) found s f = refl
moved_number l (Works (Dequeuing at)) found s f = refl
moved_number l (Works (Keeping at)) found s f = refl

-- what a step makes of numbers and of the tail
pub record Steady (l m : Line) (tail next : ℕ) : Type 0 where
  pub number : (s : ℕ) → l.lined s ≡ true → m.number s ≡ l.number s
  pub rises : l.number (tail - 1) ≤ m.number (next - 1)

pub steady_step : (w : World) (i : ℕ) (v : View) (l : Line) (z : Asked) (p : Past) → Known w v l z → tails_of p ≡ l.number (w.mem Tail - 1) → Steady l (line_after w i l) (w.mem Tail) ((step w i).mem Tail)
steady_step w i v l z p a t = record {
  number = λ s h. moved_number l (w.seat i).phase (finds w i) s (λ kept slot e. apart_lined l s slot (s == slot) refl h (unlined w i v l z a kept slot e));
  rises = let x = tails_step w i v l z p a t in let y = tails_grow i (told_in w i) p in omega (arith, t, x, y);
}

-- a row that is not past the tail stays so
pub still_low : (l m : Line) (tail next s : ℕ) → Steady l m tail next → l.lined s ≡ true → l.number s ≤ l.number (tail - 1) → m.number s ≤ m.number (next - 1)
still_low l m tail next s g h e = let a = g.number s h in let b = g.rises in omega (arith, a, b, e)

low_of : (a b : ℕ) → nat_le a b ≡ true → a ≤ b
low_of a b h = grind (arith, nat_tests, h)

stays_low : (l m : Line) (tail next s : ℕ) → Steady l m tail next → l.lined s ≡ true → nat_le (l.number s) (l.number (tail - 1)) ≡ true → nat_le (m.number s) (m.number (next - 1)) ≡ true
stays_low l m tail next s g h e = le_test (m.number s) (m.number (next - 1)) (still_low l m tail next s g h (low_of (l.number s) (l.number (tail - 1)) e))

link_step : (w : World) (v : View) (l m : Line) (next : ℕ) (root : Root) (x : ℕ) → Steady l m (w.mem Tail) next → links_to w.book w.mem v l root x ≡ true → link_low l (w.mem Tail) root x ≡ true → link_low m next root x ≡ true
link_step w v l m next (roots.Bucket b) x g k h = refl
link_step w v l m next roots.Head x g k h =
    or_next x (l.lined (x - 1) && (not (queue_of v (x - 1)) || v.head == x)) (nat_le (l.number (x - 1)) (l.number (w.mem Tail - 1))) (nat_le (m.number (x - 1)) (m.number (next - 1))) (x == 0) refl k h
    (λ a b. stays_low l m (w.mem Tail) next (x - 1) g (first_of (l.lined (x - 1)) (not (queue_of v (x - 1)) || v.head == x) a) b)
link_step w v l m next roots.Tail x g k h =
    or_next x (l.lined (x - 1)) (nat_le (l.number (x - 1)) (l.number (w.mem Tail - 1))) (nat_le (m.number (x - 1)) (m.number (next - 1))) (x == 0) refl k h (λ a b. stays_low l m (w.mem Tail) next (x - 1) g a b)
link_step w v l m next (roots.Next parent) x g k h = refl

pub links_step : (w : World) (i : ℕ) (v : View) (l : Line) (z next : Asked) → i < w.layout.config.seats → Known w v l z → next.deal ≡ next_deals w i z.deal → Steady l (line_after w i l) (w.mem Tail) ((step w i).mem Tail) → LowLinks w l z → LowLinks (step w i) (line_after w i l) next
links_step w i v l z next b a d g h =
    origins_kept (λ k. link_low l (w.mem Tail)) (λ k. link_low (line_after w i l) ((step w i).mem Tail)) w i z next (origins_need w i v l z b a) d
    (record {
      fresh = λ k o t. link_step w v l (line_after w i l) ((step w i).mem Tail) (root_in w k) (w.mem (link_place (root_in w k))) g (fresh_link w v l (root_in w k) a.whole.both (λ s bucket e. a.contents.rows.root s bucket e)) (root_low w v l z (root_in w k) a);
      stays = λ k x t o. link_step w v l (line_after w i l) ((step w i).mem Tail) (root_in w k) x g (a.links.tracked k x t) o;
    })
    h
