-- One step of a seat, and the queue.
use Rattle.std.proofs.Common.{ℕ, ◌+◌, ◌<◌, ◌≡◌, Bool, true, false, arith, refl, ◌&&◌, ◌∙◌, sym, [], ◌∷◌}
use Rattle.std.proofs.lemmas.Bool.Decides.{nat_tests}
use Rattle.std.specs.Prelude.{◌==◌, if◌then◌else◌}
use Rattle.wfe_core.specs.defs.declared.call.Answer.TheVariants as the_answers
use Rattle.wfe_core.specs.defs.declared.event.Event.TheVariants as events
use Rattle.wfe_core.specs.declared.post.Post.{Post}
use Rattle.wfe_core.specs.Desks.{Desk}
use Rattle.wfe_core.specs.Enqueue as enqueues
use Rattle.wfe_core.specs.Dequeue as dequeues
use Rattle.wfe_core.specs.Calls.{EnqueueKept, Enqueues, Again, Retiring, ExchangeNext, ExchangeHead, Enqueuing, Dequeuing, Phase, Works, CallTurn}
use Rattle.wfe_core.specs.words.Place.{Place, claim_word, claim_others}
use Rattle.wfe_core.specs.words.Place.Place.{Head, Tail, Claim, Row}
use Rattle.wfe_core.specs.Memory as memory
use Rattle.wfe_core.specs.Memory.{written, upd, Store, Cas, And}
use Rattle.inv_rows.specs.Rows.{Status, View, made}
use Rattle.inv_rows.specs.Rows.Status.{Born, Listed}
use Rattle.inv_rows.specs.Rows.RowMove.{Stays, Appends, Pops, Returns}
use Rattle.wfe_core.specs.defs.declared.event.Root.TheVariants as roots
use Rattle.wfe_core.proofs.Facts.{same_number, same_both, number_is, no_truth}
use Rattle.wfe_core.specs.defs.declared.call.ClockMove.TheVariants as clock_moves
use Rattle.inv_rows.specs.Queue.{Line, InLine, Walks, in_queue, is_past, stands_on, blanks_in, LineMove, moved_line}
use Rattle.inv_rows.specs.Queue.LineMove.{Keeps, Joins, Leaves}
use Rattle.inv_rows.specs.Chain.{queue_of, past_of, next_of}
use Rattle.inv_rows.proofs.Words.{missed}
use Rattle.inv_rows.proofs.Fits.{MoveFits, Calm}
use Rattle.inv_rows.proofs.Line.{free_line, write_line, join_line, pop_line, swing_line, same_line, free_walks, write_walks, join_walks, pop_walks, swing_walks, same_walks}
use Rattle.inv_rows.proofs.Quiet.{phase_of, is_quiet, quiet_walks, clearing_quiet, clearing_next_quiet}
use Rattle.inv_rows.proofs.Own.{is_linking, unlinked_row, unlinked_tail, Left}

-- what holds of the other seats: none works on a row that is given back, and none has stored the link of a row of this
-- seat, or of one that was in the queue
abbrev pub Far : LineMove → Phase → Type 0
Far Keeps phase = Unit {0}
Far (Joins last slot) phase = Unit {0}
Far (Leaves slot) phase = stands_on phase slot ≡ false

pub record Others (i : ℕ) (v : View) (l : Line) (phase : Phase) : Type 0 where
  pub unlined : (s : ℕ) → blanks_in phase s ≡ true → l.lined s ≡ false
  pub apart : (s : ℕ) → v.status s ≡ Born i → blanks_in phase s ≡ false

-- the queue after a step
pub record Went (i : ℕ) (v u : View) (l : Line) (m : LineMove) (mem after : Place → ℕ) (t : CallTurn) : Type 0 where
  pub line : InLine (queue_of u) (past_of u) (moved_line l m) (next_of after) u.head (after Tail)
  pub own : Left t (queue_of u) (moved_line l m) (next_of after) u.head (after Tail)
  pub others : (phase : Phase) → Walks phase (queue_of v) l (next_of mem) v.head (mem Tail) → Far m phase → Others i v l phase → Walks phase (queue_of u) (moved_line l m) (next_of after) u.head (after Tail)

abbrev pub LineIn : View → Line → (Place → ℕ) → Type 0
LineIn v l mem = InLine (queue_of v) (past_of v) l (next_of mem) v.head (mem Tail)

abbrev pub WalksIn : Phase → View → Line → (Place → ℕ) → Type 0
WalksIn phase v l mem = Walks phase (queue_of v) l (next_of mem) v.head (mem Tail)

past_born : (x : Status) (i : ℕ) → x ≡ Born i → is_past x ≡ true → false ≡ true
past_born x i e h = rw e at h

returned_queue : (i : ℕ) (v : View) (slot s : ℕ) → in_queue (v.status slot) ≡ false → queue_of (made i v (Returns slot)) s ≡ queue_of v s
returned_queue i v slot s h = grind (arith, nat_tests, h)

returned_past : (i : ℕ) (v : View) (slot s : ℕ) → (s == slot) ≡ false → past_of v s ≡ true → past_of (made i v (Returns slot)) s ≡ true
returned_past i v slot s e h = grind (arith, nat_tests, h)

appended_queue : (i : ℕ) (v : View) (slot s : ℕ) → queue_of (made i v (Appends slot)) s ≡ upd (queue_of v) slot true s
appended_queue i v slot s = grind (arith, nat_tests)

appended_past : (i : ℕ) (v : View) (slot s : ℕ) → (s == slot) ≡ false → past_of v s ≡ true → past_of (made i v (Appends slot)) s ≡ true
appended_past i v slot s e h = grind (arith, nat_tests, h)

appended_own : (i : ℕ) (v : View) (slot : ℕ) → past_of (made i v (Appends slot)) slot ≡ true
appended_own i v slot = grind (arith, nat_tests)

joined_past : (i : ℕ) (v : View) (l : Line) (slot s : ℕ) (lined : ℕ → Bool) → ((z : ℕ) → lined z ≡ upd l.lined slot true z) → (l.lined s ≡ true → past_of v s ≡ true) → lined s ≡ true → past_of (made i v (Appends slot)) s ≡ true
joined_past i v l slot s lined f g h = grind (arith, nat_tests, f s, g, h)

joined_lined : (l : Line) (last slot h : ℕ) → l.lined last ≡ true → (last == h) ≡ true → (moved_line l (Joins last slot)).lined h ≡ true
joined_lined l last slot h e u = grind (arith, nat_tests, e)

popped_queue : (i : ℕ) (v : View) (head next s : ℕ) → queue_of (made i v (Pops head next)) s ≡ upd (queue_of v) head false s
popped_queue i v head next s = grind (arith, nat_tests)

popped_past : (i : ℕ) (v : View) (head next s : ℕ) → past_of v s ≡ true → past_of (made i v (Pops head next)) s ≡ true
popped_past i v head next s h = grind (arith, nat_tests, h)

written_first : (mem : Place → ℕ) (slot place word s : ℕ) → (place == 0) ≡ true → next_of (written mem (memory.Store (Row slot place) word)) s ≡ upd (next_of mem) slot word s
written_first mem slot place word s e = grind (arith, nat_tests)

written_later : (mem : Place → ℕ) (slot place word s : ℕ) → (place == 0) ≡ false → next_of (written mem (memory.Store (Row slot place) word)) s ≡ next_of mem s
written_later mem slot place word s e = grind (arith, nat_tests)

exchanged_next : (mem : Place → ℕ) (last link s : ℕ) → (mem (Row last 0) == 0) ≡ true → next_of (written mem (memory.Cas (Row last 0) 0 link)) s ≡ upd (next_of mem) last link s
exchanged_next mem last link s e = grind (arith, nat_tests)

joined_follows : (mem : Place → ℕ) (last slot h link : ℕ) → ((s : ℕ) → next_of (written mem (memory.Cas (Row last 0) 0 (slot + 1))) s ≡ upd (next_of mem) last (slot + 1) s) → (last == h && (slot + 1 == link)) ≡ true → next_of (written mem (memory.Cas (Row last 0) 0 (slot + 1))) h ≡ link
joined_follows mem last slot h link n u = n h ∙ joined_at mem last slot h link u
  where
    joined_at : (mem : Place → ℕ) (last slot h link : ℕ) → (last == h && (slot + 1 == link)) ≡ true → upd (next_of mem) last (slot + 1) h ≡ link
    joined_at mem last slot h link u = grind (arith, nat_tests)

pub calm_self : (v : View) → Calm v v
calm_self v = record { queue = λ s. refl; past = λ s e. e; head = refl }

-- no link and no row of the queue changes
pub went_same : (i : ℕ) (v u : View) (l : Line) (mem after : Place → ℕ) (t : CallTurn) → Calm v u → ((s : ℕ) → after (Row s 0) ≡ mem (Row s 0)) → after Tail ≡ mem Tail → LineIn v l mem → Left t (queue_of v) l (next_of mem) v.head (mem Tail) → Went i v u l Keeps mem after t
went_same i v u l mem after t c n a g w = record {
  line = same_line (queue_of v) (past_of v) (queue_of u) (past_of u) l (next_of mem) (next_of after) v.head u.head (mem Tail) (after Tail) g c.queue (λ s e. c.past s (g.passed s e)) n c.head a;
  own = same_walks (phase_of t.outcome) (queue_of v) (queue_of u) l (next_of mem) (next_of after) v.head u.head (mem Tail) (after Tail) w c.queue n c.head a;
  others = λ phase o f x. same_walks phase (queue_of v) (queue_of u) l (next_of mem) (next_of after) v.head u.head (mem Tail) (after Tail) o c.queue n c.head a;
}

pub went_calm : (i : ℕ) (v u : View) (l : Line) (mem : Place → ℕ) (m : memory.Move) (t : CallTurn) → Calm v u → is_linking m ≡ false → LineIn v l mem → Left t (queue_of v) l (next_of mem) v.head (mem Tail) → Went i v u l Keeps mem (written mem m) t
went_calm i v u l mem m t c h g w = went_same i v u l mem (written mem m) t c (λ s. unlinked_row mem m s h) (unlinked_tail mem m h) g w

-- an exchange of the tail, or of a next link, or of the head, that fails
pub went_missed : (i : ℕ) (v : View) (l : Line) (mem : Place → ℕ) (p : Place) (old new : ℕ) (t : CallTurn) → (mem p == old) ≡ false → LineIn v l mem → Left t (queue_of v) l (next_of mem) v.head (mem Tail) → Went i v v l Keeps mem (written mem (memory.Cas p old new)) t
went_missed i v l mem p old new t h g w = went_same i v v l mem (written mem (memory.Cas p old new)) t (calm_self v) (λ s. missed mem p (Row s 0) old new h) (missed mem p Tail old new h) g w

-- a row goes back
listed_out : (x : Status) (i : ℕ) → (retire : ℕ) × (x ≡ Listed i retire) → in_queue x ≡ false
listed_out x i h = rw h.1 refl

pub went_returns : (i : ℕ) (v : View) (l : Line) (mem : Place → ℕ) (slot : ℕ) (t : CallTurn) → MoveFits i v (Returns slot) → LineIn v l mem → is_quiet (phase_of t.outcome) ≡ true → Went i v (made i v (Returns slot)) l (Leaves slot) mem (written mem (memory.And (Claim (claim_word slot)) (claim_others slot))) t
went_returns i v l mem slot t f g y =
    let out : in_queue (v.status slot) ≡ false = listed_out (v.status slot) i f in
    let queue : (s : ℕ) → queue_of (made i v (Returns slot)) s ≡ queue_of v s = λ s. returned_queue i v slot s out in
    record {
      line = free_line (queue_of v) (past_of v) (past_of (made i v (Returns slot))) (queue_of (made i v (Returns slot))) l (next_of mem) v.head (mem Tail) slot g queue (λ s e o. returned_past i v slot s e (g.passed s o)) out;
      own = quiet_walks (phase_of t.outcome) (queue_of (made i v (Returns slot))) (moved_line l (Leaves slot)) (next_of mem) v.head (mem Tail) y;
      others = λ phase w far x. free_walks phase (queue_of v) (queue_of (made i v (Returns slot))) l (next_of mem) v.head (mem Tail) slot w queue far;
    }

-- a row in the hand of the seat was not in the queue since it was claimed
unlined : (lined : Bool) (x : Status) (i : ℕ) → (lined ≡ true → is_past x ≡ true) → x ≡ Born i → lined ≡ false
unlined true x i f e = absurd (no_truth (past_born x i e (f refl)))
unlined false x i f e = refl

pub born_unlined : (i : ℕ) (v : View) (l : Line) (mem : Place → ℕ) (slot : ℕ) → LineIn v l mem → v.status slot ≡ Born i → l.lined slot ≡ false
born_unlined i v l mem slot g e = unlined (l.lined slot) (v.status slot) i (g.passed slot) e

-- a word of an own row is written
pub went_writes_by : (i : ℕ) (v : View) (l : Line) (mem : Place → ℕ) (slot place word : ℕ) (t : CallTurn) (first : Bool) → (place == 0) ≡ first → v.status slot ≡ Born i → LineIn v l mem → Left t (queue_of v) l (next_of (written mem (memory.Store (Row slot place) word))) v.head (mem Tail) → Went i v v l Keeps mem (written mem (memory.Store (Row slot place) word)) t
went_writes_by i v l mem slot place word t true e b g w =
    let after : Place → ℕ = written mem (memory.Store (Row slot place) word) in
    let n : (s : ℕ) → next_of (written mem (memory.Store (Row slot place) word)) s ≡ upd (next_of mem) slot word s = λ s. written_first mem slot place word s e in
    let o : l.lined slot ≡ false = born_unlined i v l mem slot g b in
    record {
      line = same_line (queue_of v) (past_of v) (queue_of v) (past_of v) l (upd (next_of mem) slot word) (next_of (written mem (memory.Store (Row slot place) word))) v.head v.head (mem Tail) (mem Tail) (write_line (queue_of v) (past_of v) l (next_of mem) v.head (mem Tail) slot word g o) (λ s. refl) (λ s u. g.passed s u) n refl refl;
      own = w;
      others = λ phase k far x. same_walks phase (queue_of v) (queue_of v) l (upd (next_of mem) slot word) (next_of (written mem (memory.Store (Row slot place) word))) v.head v.head (mem Tail) (mem Tail) (write_walks phase (queue_of v) l (next_of mem) v.head (mem Tail) slot word k o (x.apart slot b)) (λ s. refl) n refl refl;
    }
went_writes_by i v l mem slot place word t false e b g w =
    let n : (s : ℕ) → next_of (written mem (memory.Store (Row slot place) word)) s ≡ next_of mem s = λ s. written_later mem slot place word s e in
    record {
      line = same_line (queue_of v) (past_of v) (queue_of v) (past_of v) l (next_of mem) (next_of (written mem (memory.Store (Row slot place) word))) v.head v.head (mem Tail) (mem Tail) g (λ s. refl) (λ s u. g.passed s u) n refl refl;
      own = w;
      others = λ phase k far x. same_walks phase (queue_of v) (queue_of v) l (next_of mem) (next_of (written mem (memory.Store (Row slot place) word))) v.head v.head (mem Tail) (mem Tail) k (λ s. refl) n refl refl;
    }

-- the tail is moved on
pub went_swings : (i : ℕ) (v : View) (l : Line) (mem : Place → ℕ) (slot link : ℕ) (t : CallTurn) (same : Bool) → (mem Tail == slot + 1) ≡ same → mem (Row slot 0) ≡ link → 0 < link → LineIn v l mem → is_quiet (phase_of t.outcome) ≡ true → Went i v v l Keeps mem (written mem (memory.Cas Tail (slot + 1) link)) t
went_swings i v l mem slot link t true e n o g y =
    let at : mem Tail ≡ slot + 1 = number_is (mem Tail) (slot + 1) e in
    let a : written mem (memory.Cas Tail (slot + 1) link) Tail ≡ link = rw e refl in
    record {
      line = same_line (queue_of v) (past_of v) (queue_of v) (past_of v) l (next_of mem) (next_of mem) v.head v.head link (written mem (memory.Cas Tail (slot + 1) link) Tail) (swing_line (queue_of v) (past_of v) l (next_of mem) v.head (mem Tail) slot link g at n o) (λ s. refl) (λ s u. g.passed s u) (λ s. refl) refl a;
      own = quiet_walks (phase_of t.outcome) (queue_of v) l (next_of mem) v.head (written mem (memory.Cas Tail (slot + 1) link) Tail) y;
      others = λ phase k far x. same_walks phase (queue_of v) (queue_of v) l (next_of mem) (next_of mem) v.head v.head link (written mem (memory.Cas Tail (slot + 1) link) Tail) (swing_walks phase (queue_of v) (past_of v) l (next_of mem) v.head (mem Tail) slot link g k at n) (λ s. refl) (λ s. refl) refl a;
    }
went_swings i v l mem slot link t false e n o g y =
    went_missed i v l mem Tail (slot + 1) link t e g (quiet_walks (phase_of t.outcome) (queue_of v) l (next_of mem) v.head (mem Tail) y)

-- a row joins the queue
pub went_joins : (i : ℕ) (v : View) (l : Line) (mem : Place → ℕ) (kept : EnqueueKept) (slot : ℕ) (post : Post) (desk : Desk) (same : Bool) → (mem (Row kept.tail 0) == 0) ≡ same → v.status slot ≡ Born i → LineIn v l mem → WalksIn (Works (Enqueuing kept (ExchangeNext slot))) v l mem → Went i v (made i v (if same then Appends slot else Stays)) l (if same then Joins kept.tail slot else Keeps) mem (written mem (memory.Cas (Row kept.tail 0) 0 (slot + 1))) (enqueues.appended kept slot post desk same)
went_joins i v l mem kept slot post desk true e b g w =
    let null : mem (Row kept.tail 0) ≡ 0 = number_is (mem (Row kept.tail 0)) 0 e in
    let blank : mem (Row slot 0) ≡ 0 = w.blank slot (same_number slot) in
    let lined : l.lined kept.tail ≡ true = w.stood kept.tail (same_number kept.tail) in
    let out : l.lined slot ≡ false = born_unlined i v l mem slot g b in
    let n : (s : ℕ) → next_of (written mem (memory.Cas (Row kept.tail 0) 0 (slot + 1))) s ≡ upd (next_of mem) kept.tail (slot + 1) s = λ s. exchanged_next mem kept.tail (slot + 1) s e in
    let q : (s : ℕ) → queue_of (made i v (Appends slot)) s ≡ upd (queue_of v) slot true s = λ s. appended_queue i v slot s in
    record {
      line = same_line (queue_of (made i v (Appends slot))) (past_of (made i v (Appends slot))) (queue_of (made i v (Appends slot))) (past_of (made i v (Appends slot))) (moved_line l (Joins kept.tail slot)) (upd (next_of mem) kept.tail (slot + 1)) (next_of (written mem (memory.Cas (Row kept.tail 0) 0 (slot + 1)))) v.head v.head (mem Tail) (mem Tail) (join_line (queue_of v) (past_of v) (past_of (made i v (Appends slot))) (queue_of (made i v (Appends slot))) l (next_of mem) v.head (mem Tail) kept.tail slot g null lined out blank q (λ s d u. appended_past i v slot s d (g.passed s u)) (appended_own i v slot)) (λ s. refl) (λ s u. joined_past i v l slot s (moved_line l (Joins kept.tail slot)).lined (λ z. refl) (λ y. g.passed s y) u) n refl refl;
      own = record {
        stood = λ h u. joined_lined l kept.tail slot h lined u;
        heads = λ h u k. cc;
        follows = λ h link u. joined_follows mem kept.tail slot h link n u;
        some = λ h link u. grind (arith, nat_tests);
        leads = λ h u k. cc;
        blank = λ s u. cc;
        items = refl;
        loads = tt;
      };
      others = λ phase k far x. same_walks phase (queue_of (made i v (Appends slot))) (queue_of (made i v (Appends slot))) (moved_line l (Joins kept.tail slot)) (upd (next_of mem) kept.tail (slot + 1)) (next_of (written mem (memory.Cas (Row kept.tail 0) 0 (slot + 1)))) v.head v.head (mem Tail) (mem Tail) (join_walks phase (queue_of v) (queue_of (made i v (Appends slot))) l (next_of mem) v.head (mem Tail) kept.tail slot k null lined out q x.unlined) (λ s. refl) n refl refl;
    }
went_joins i v l mem kept slot post desk false e b g w =
    went_missed i v l mem (Row kept.tail 0) 0 (slot + 1) (enqueues.appended kept slot post desk false) e g (quiet_walks (phase_of (enqueues.appended kept slot post desk false).outcome) (queue_of v) l (next_of mem) v.head (mem Tail) (clearing_quiet (Enqueues kept) Again post desk []))

-- the head is cut
pub went_pops : (i : ℕ) (v : View) (l : Line) (mem : Place → ℕ) (head next number value : ℕ) (post : Post) (desk : Desk) (same : Bool) → (mem Head == head + 1) ≡ same → mem Head ≡ v.head → LineIn v l mem → WalksIn (Works (Dequeuing (ExchangeHead head next number value))) v l mem → Went i v (made i v (if same then Pops head next else Stays)) l Keeps mem (written mem (memory.Cas Head (head + 1) (next + 1))) (dequeues.taken head next number value post desk same)
went_pops i v l mem head next number value post desk true e c g w =
    let at : v.head ≡ head + 1 = sym c ∙ number_is (mem Head) (head + 1) e in
    let link : mem (Row head 0) ≡ next + 1 = w.follows head (next + 1) (same_both head (next + 1)) in
    let past_tail : (mem Tail == head + 1) ≡ false = w.leads head (same_number head) at in
    let q : (s : ℕ) → queue_of (made i v (Pops head next)) s ≡ upd (queue_of v) head false s = λ s. popped_queue i v head next s in
    record {
      line = pop_line (queue_of v) (past_of v) (past_of (made i v (Pops head next))) (queue_of (made i v (Pops head next))) l (next_of mem) v.head (mem Tail) head next g at link past_tail q (λ s u. popped_past i v head next s (g.passed s u));
      own = quiet_walks (phase_of (dequeues.taken head next number value post desk true).outcome) (queue_of (made i v (Pops head next))) l (next_of mem) (next + 1) (mem Tail) (clearing_next_quiet (Retiring head (the_answers.Taken number value clock_moves.Still)) post desk (events.Link roots.Head next ∷ events.Cut head ∷ events.Taken number value ∷ []));
      others = λ phase k far x. pop_walks phase (queue_of v) (past_of v) (queue_of (made i v (Pops head next))) l (next_of mem) v.head (mem Tail) head next g k at link q;
    }
went_pops i v l mem head next number value post desk false e c g w =
    went_missed i v l mem Head (head + 1) (next + 1) (dequeues.taken head next number value post desk false) e g (quiet_walks (phase_of (dequeues.taken head next number value post desk false).outcome) (queue_of v) l (next_of mem) v.head (mem Tail) (clearing_next_quiet Again post desk []))
