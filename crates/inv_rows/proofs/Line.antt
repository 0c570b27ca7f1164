-- What is known of the queue is kept by each change of it.
use Rattle.std.proofs.Common.{ℕ, ◌+◌, ◌<◌, ◌≡◌, Bool, true, false, arith}
use Rattle.std.proofs.lemmas.Bool.Decides.{nat_tests}
use Rattle.std.specs.Prelude.{◌==◌}
use Rattle.wfe_core.specs.Memory.{upd}
use Rattle.wfe_core.specs.Calls.{Opens, FollowsHead, Fills, ClearsNext, Clears, Finishes, GivesUp, Retires, Tidies, Advances, Releases, LoadNumber, LoadNext, PassTail, ExchangeNext, ExchangeTail, LoadTail, SwingTail, TakeNumber, TakeValue, ExchangeHead, Getting, Changing, Enqueuing, Dequeuing, Phase, Idle, Runs, Scans, Works, Keeping}
use Rattle.inv_rows.proofs.Follow.{loads_stay}
use Rattle.inv_rows.specs.Queue.{Line, InLine, Walks, stands_on, heads_on, follows_in, leads_in, blanks_in, moved_line}
use Rattle.inv_rows.specs.Queue.LineMove.{Joins, Leaves}

-- a row that was in the queue is free
pub free_line : (q past p q2 : ℕ → Bool) (l : Line) (next : ℕ → ℕ) (head tail slot : ℕ) → InLine q past l next head tail → ((s : ℕ) → q2 s ≡ q s) → ((s : ℕ) → (s == slot) ≡ false → l.lined s ≡ true → p s ≡ true) → q slot ≡ false → InLine q2 p (moved_line l (Leaves slot)) next head tail
free_line q past p q2 l next head tail slot g e f n = record {
  lined = λ s h. grind (arith, nat_tests, g.lined s, e s);
  passed = λ s h. grind (arith, nat_tests, g.passed s, e s, f s);
  last = λ s h k. grind (arith, nat_tests, g.last s, e s);
  links = λ s t h k. grind (arith, nat_tests, g.links s t, e s, e t);
  rises = λ s t h k. grind (arith, nat_tests, g.rises s t, e s, e t);
  one = λ s t u1 u2 u3. grind (arith, nat_tests, g.one s t, e s, e t);
  first = λ s h. grind (arith, nat_tests, g.first s, e s);
  least = λ s x h k. grind (arith, nat_tests, g.least s x, e s);
  most = λ s t u1 u2 u3. grind (arith, nat_tests, g.most s t, e s, e t);
  reached = λ s h. grind (arith, nat_tests, g.reached s, e s);
  some = grind (arith, nat_tests, g.some);
}

-- the next link of a row is stored that was not in the queue
pub write_line : (q past : ℕ → Bool) (l : Line) (next : ℕ → ℕ) (head tail slot word : ℕ) → InLine q past l next head tail → l.lined slot ≡ false → InLine q past l (upd next slot word) head tail
write_line q past l next head tail slot word g n = record {
  lined = λ s h. grind (arith, nat_tests, g.lined s, g.lined s);
  passed = λ s h. grind (arith, nat_tests, g.passed s, g.lined s);
  last = λ s h k. grind (arith, nat_tests, g.last s, g.lined s);
  links = λ s t h k. grind (arith, nat_tests, g.links s t, g.lined s, g.lined t);
  rises = λ s t h k. grind (arith, nat_tests, g.rises s t, g.lined s, g.lined t);
  one = λ s t u1 u2 u3. grind (arith, nat_tests, g.one s t, g.lined s, g.lined t);
  first = λ s h. grind (arith, nat_tests, g.first s, g.lined s);
  least = λ s x h k. grind (arith, nat_tests, g.least s x, g.lined s);
  most = λ s t u1 u2 u3. grind (arith, nat_tests, g.most s t, g.lined s, g.lined t);
  reached = λ s h. grind (arith, nat_tests, g.reached s, g.lined s);
  some = grind (arith, nat_tests, g.some);
}

-- a row joins the queue after its last row
pub join_line : (q past p q2 : ℕ → Bool) (l : Line) (next : ℕ → ℕ) (head tail last slot : ℕ) → InLine q past l next head tail → next last ≡ 0 → l.lined last ≡ true → l.lined slot ≡ false → next slot ≡ 0 → ((s : ℕ) → q2 s ≡ upd q slot true s) → ((s : ℕ) → (s == slot) ≡ false → l.lined s ≡ true → p s ≡ true) → p slot ≡ true → InLine q2 p (moved_line l (Joins last slot)) (upd next last (slot + 1)) head tail
join_line q past p q2 l next head tail last slot g n d o b e f y = record {
  lined = λ s h. grind (arith, nat_tests, g.lined s, e s, g.lined s, g.most last s, g.last last);
  passed = λ s h. grind (arith, nat_tests, g.passed s, e s, g.lined s, g.most last s, g.last last, f s);
  last = λ s h k. grind (arith, nat_tests, g.last s, e s, g.lined s, g.most last s, g.last last);
  links = λ s t h k. grind (arith, nat_tests, g.links s t, e s, g.lined s, g.most last s, e t, g.lined t, g.most last t, g.last last);
  rises = λ s t h k. grind (arith, nat_tests, g.rises s t, e s, g.lined s, g.most last s, e t, g.lined t, g.most last t, g.last last);
  one = λ s t u1 u2 u3. grind (arith, nat_tests, g.one s t, e s, g.lined s, g.most last s, e t, g.lined t, g.most last t, g.last last, g.most last s, g.most last t);
  first = λ s h. grind (arith, nat_tests, g.first s, e s, g.lined s, g.most last s, g.last last);
  least = λ s x h k. grind (arith, nat_tests, g.least s x, e s, g.lined s, g.most last s, e x, g.lined x, g.most last x, g.last last, g.first x, g.least last x, e x, g.lined x);
  most = λ s t u1 u2 u3. grind (arith, nat_tests, g.most s t, e s, g.lined s, g.most last s, e t, g.lined t, g.most last t, g.last last, g.one s last);
  reached = λ s h. grind (arith, nat_tests, g.reached s, e s, g.lined s, g.most last s, g.last last);
  some = grind (arith, nat_tests, g.some, g.last last);
}

-- the head is cut, and the row after it is the head
pub pop_line : (q past p q2 : ℕ → Bool) (l : Line) (next : ℕ → ℕ) (head tail slot row : ℕ) → InLine q past l next head tail → head ≡ slot + 1 → next slot ≡ row + 1 → (tail == slot + 1) ≡ false → ((s : ℕ) → q2 s ≡ upd q slot false s) → ((s : ℕ) → l.lined s ≡ true → p s ≡ true) → InLine q2 p l next (row + 1) tail
pop_line q past p q2 l next head tail slot row g n d o e f = record {
  lined = λ s h. grind (arith, nat_tests, g.lined s, e s, g.first slot, g.links slot row, g.rises slot row);
  passed = λ s h. grind (arith, nat_tests, g.passed s, e s, g.first slot, g.links slot row, g.rises slot row, f s);
  last = λ s h k. grind (arith, nat_tests, g.last s, e s, g.first slot, g.links slot row, g.rises slot row);
  links = λ s t h k. grind (arith, nat_tests, g.links s t, e s, e t, g.first slot, g.links slot row, g.rises slot row, g.rises s t, g.least s slot);
  rises = λ s t h k. grind (arith, nat_tests, g.rises s t, e s, e t, g.first slot, g.links slot row, g.rises slot row);
  one = λ s t u1 u2 u3. grind (arith, nat_tests, g.one s t, e s, e t, g.first slot, g.links slot row, g.rises slot row);
  first = λ s h. grind (arith, nat_tests, g.first s, e s, g.first slot, g.links slot row, g.rises slot row, e row);
  least = λ s x h k. grind (arith, nat_tests, g.least s x, e s, e x, g.first slot, g.links slot row, g.rises slot row, g.least s slot, g.one s slot);
  most = λ s t u1 u2 u3. grind (arith, nat_tests, g.most s t, e s, e t, g.first slot, g.links slot row, g.rises slot row);
  reached = λ s h. grind (arith, nat_tests, g.reached s, e s, g.first slot, g.links slot row, g.rises slot row);
  some = grind (arith, nat_tests, g.some, g.first slot, g.links slot row, g.rises slot row);
}

-- the tail is moved to the row after it
pub swing_line : (q past : ℕ → Bool) (l : Line) (next : ℕ → ℕ) (head tail slot link : ℕ) → InLine q past l next head tail → tail ≡ slot + 1 → next slot ≡ link → 0 < link → InLine q past l next head link
swing_line q past l next head tail slot link g n d o = record {
  lined = λ s h. grind (arith, nat_tests, g.lined s);
  passed = λ s h. grind (arith, nat_tests, g.passed s);
  last = λ s h k. grind (arith, nat_tests, g.last s);
  links = λ s t h k. grind (arith, nat_tests, g.links s t);
  rises = λ s t h k. grind (arith, nat_tests, g.rises s t);
  one = λ s t u1 u2 u3. grind (arith, nat_tests, g.one s t);
  first = λ s h. grind (arith, nat_tests, g.first s);
  least = λ s x h k. grind (arith, nat_tests, g.least s x);
  most = λ s t u1 u2 u3. grind (arith, nat_tests, g.most s t);
  reached = λ s h. grind (arith, nat_tests, g.reached s, g.reached slot, g.links slot s);
  some = grind (arith, nat_tests, g.some);
}

-- what a seat has found is of the row on which it works
follow_stands : (phase : Phase) (h link : ℕ) → follows_in phase h link ≡ true → stands_on phase h ≡ true
follow_stands Idle h link e = cc
follow_stands (Runs why base) h link e = cc
follow_stands (Scans later at) h link e = cc
follow_stands (Works (Getting key at)) h link e = cc
follow_stands (Works (Changing kept at)) h link e = cc
follow_stands (Works (Enqueuing kept LoadNumber)) h link e = cc
follow_stands (Works (Enqueuing kept LoadNext)) h link e = cc
follow_stands (Works (Enqueuing kept (ExchangeNext slot))) h link e = cc
follow_stands (Works (Enqueuing kept (PassTail next))) h link e = grind (arith, nat_tests)
follow_stands (Works (Enqueuing kept (ExchangeTail slot))) h link e = grind (arith, nat_tests)
follow_stands (Works (Keeping at)) h link e = cc
follow_stands (Works (Dequeuing (LoadTail head))) h link e = cc
follow_stands (Works (Dequeuing (SwingTail head next))) h link e = grind (arith, nat_tests)
follow_stands (Works (Dequeuing (TakeNumber head next))) h link e = grind (arith, nat_tests)
follow_stands (Works (Dequeuing (TakeValue head next number))) h link e = grind (arith, nat_tests)
follow_stands (Works (Dequeuing (ExchangeHead head next number value))) h link e = grind (arith, nat_tests)

head_stands : (phase : Phase) (h : ℕ) → heads_on phase h ≡ true → stands_on phase h ≡ true
head_stands Idle h e = cc
head_stands (Runs (Opens task) base) h e = cc
head_stands (Runs (FollowsHead head tail) base) h e = e
head_stands (Runs (Fills task) base) h e = cc
head_stands (Runs (ClearsNext next) base) h e = cc
head_stands (Runs (Clears task next) base) h e = cc
head_stands (Runs (Finishes task next) base) h e = cc
head_stands (Runs (GivesUp answer) base) h e = cc
head_stands (Runs (Retires answer) base) h e = cc
head_stands (Runs (Tidies later) base) h e = cc
head_stands (Runs Advances base) h e = cc
head_stands (Runs (Releases let_go) base) h e = cc
head_stands (Scans later at) h e = cc
head_stands (Works (Getting key at)) h e = cc
head_stands (Works (Changing kept at)) h e = cc
head_stands (Works (Enqueuing kept at)) h e = cc
head_stands (Works (Dequeuing at)) h e = e
head_stands (Works (Keeping at)) h e = cc

lead_heads : (phase : Phase) (h : ℕ) → leads_in phase h ≡ true → heads_on phase h ≡ true
lead_heads Idle h e = cc
lead_heads (Runs (Opens task) base) h e = cc
lead_heads (Runs (FollowsHead head tail) base) h e = grind (arith, nat_tests)
lead_heads (Runs (Fills task) base) h e = cc
lead_heads (Runs (ClearsNext next) base) h e = cc
lead_heads (Runs (Clears task next) base) h e = cc
lead_heads (Runs (Finishes task next) base) h e = cc
lead_heads (Runs (GivesUp answer) base) h e = cc
lead_heads (Runs (Retires answer) base) h e = cc
lead_heads (Runs (Tidies later) base) h e = cc
lead_heads (Runs Advances base) h e = cc
lead_heads (Runs (Releases let_go) base) h e = cc
lead_heads (Scans later at) h e = cc
lead_heads (Works (Getting key at)) h e = cc
lead_heads (Works (Changing kept at)) h e = cc
lead_heads (Works (Enqueuing kept at)) h e = cc
lead_heads (Works (Keeping at)) h e = cc
lead_heads (Works (Dequeuing (LoadTail head))) h e = cc
lead_heads (Works (Dequeuing (SwingTail head next))) h e = cc
lead_heads (Works (Dequeuing (TakeNumber head next))) h e = e
lead_heads (Works (Dequeuing (TakeValue head next number))) h e = e
lead_heads (Works (Dequeuing (ExchangeHead head next number value))) h e = e

upd_lined : (next : ℕ → ℕ) (lined : ℕ → Bool) (slot word h : ℕ) → lined slot ≡ false → lined h ≡ true → upd next slot word h ≡ next h
upd_lined next lined slot word h n e = grind (arith, nat_tests, n, e)

upd_other : (next : ℕ → ℕ) (last word h : ℕ) → next last ≡ 0 → (next h == 0) ≡ false → upd next last word h ≡ next h
upd_other next last word h n e = grind (arith, nat_tests, n, e)

pub free_walks : (phase : Phase) (q q2 : ℕ → Bool) (l : Line) (next : ℕ → ℕ) (head tail slot : ℕ) → Walks phase q l next head tail → ((s : ℕ) → q2 s ≡ q s) → stands_on phase slot ≡ false → Walks phase q2 (moved_line l (Leaves slot)) next head tail
free_walks phase q q2 l next head tail slot w f n = record {
  stood = λ h u1. grind (arith, nat_tests, w.stood h);
  heads = λ h u1 u2. grind (arith, nat_tests, w.heads h, f h);
  follows = λ h link u1. grind (arith, nat_tests, w.follows h link);
  some = λ h link u1. grind (arith, nat_tests, w.some h link);
  leads = λ h u1 u2. grind (arith, nat_tests, w.leads h);
  blank = λ s u1. grind (arith, nat_tests, w.blank s);
  items = w.items;
  loads = w.loads;
}

pub write_walks : (phase : Phase) (q : ℕ → Bool) (l : Line) (next : ℕ → ℕ) (head tail slot word : ℕ) → Walks phase q l next head tail → l.lined slot ≡ false → blanks_in phase slot ≡ false → Walks phase q l (upd next slot word) head tail
write_walks phase q l next head tail slot word w n b = record {
  stood = λ h u1. grind (arith, nat_tests, w.stood h);
  heads = λ h u1 u2. grind (arith, nat_tests, w.heads h);
  follows = λ h link u1. grind (arith, nat_tests, w.follows h link, w.stood h, follow_stands phase h link);
  some = λ h link u1. grind (arith, nat_tests, w.some h link);
  leads = λ h u1 u2. grind (arith, nat_tests, w.leads h);
  blank = λ s u1. grind (arith, nat_tests, w.blank s);
  items = w.items;
  loads = loads_stay phase next (upd next slot word) (λ h u o. upd_lined next l.lined slot word h n (w.stood h u)) w.loads;
}

pub join_walks : (phase : Phase) (q q2 : ℕ → Bool) (l : Line) (next : ℕ → ℕ) (head tail last slot : ℕ) → Walks phase q l next head tail → next last ≡ 0 → l.lined last ≡ true → l.lined slot ≡ false → ((s : ℕ) → q2 s ≡ upd q slot true s) → ((s : ℕ) → blanks_in phase s ≡ true → l.lined s ≡ false) → Walks phase q2 (moved_line l (Joins last slot)) (upd next last (slot + 1)) head tail
join_walks phase q q2 l next head tail last slot w n d o f b = record {
  stood = λ h u1. grind (arith, nat_tests, w.stood h);
  heads = λ h u1 u2. grind (arith, nat_tests, w.heads h, f h, w.stood h, head_stands phase h);
  follows = λ h link u1. grind (arith, nat_tests, w.follows h link, w.some h link);
  some = λ h link u1. grind (arith, nat_tests, w.some h link);
  leads = λ h u1 u2. grind (arith, nat_tests, w.leads h);
  blank = λ s u1. grind (arith, nat_tests, w.blank s, b s);
  items = w.items;
  loads = loads_stay phase next (upd next last (slot + 1)) (λ h u z. upd_other next last (slot + 1) h n z) w.loads;
}

pub pop_walks : (phase : Phase) (q past q2 : ℕ → Bool) (l : Line) (next : ℕ → ℕ) (head tail slot row : ℕ) → InLine q past l next head tail → Walks phase q l next head tail → head ≡ slot + 1 → next slot ≡ row + 1 → ((s : ℕ) → q2 s ≡ upd q slot false s) → Walks phase q2 l next (row + 1) tail
pop_walks phase q past q2 l next head tail slot row g w n d f = record {
  stood = λ h u1. grind (arith, nat_tests, w.stood h);
  heads = λ h u1 u2. grind (arith, nat_tests, w.heads h, f h);
  follows = λ h link u1. grind (arith, nat_tests, w.follows h link);
  some = λ h link u1. grind (arith, nat_tests, w.some h link);
  leads = λ h u1 u2. grind (arith, nat_tests, w.leads h, w.heads h, lead_heads phase h, g.first slot, g.links slot row, g.rises slot row);
  blank = λ s u1. grind (arith, nat_tests, w.blank s);
  items = w.items;
  loads = w.loads;
}

pub swing_walks : (phase : Phase) (q past : ℕ → Bool) (l : Line) (next : ℕ → ℕ) (head tail slot link : ℕ) → InLine q past l next head tail → Walks phase q l next head tail → tail ≡ slot + 1 → next slot ≡ link → Walks phase q l next head link
swing_walks phase q past l next head tail slot link g w n d = record {
  stood = λ h u1. grind (arith, nat_tests, w.stood h);
  heads = λ h u1 u2. grind (arith, nat_tests, w.heads h);
  follows = λ h link u1. grind (arith, nat_tests, w.follows h link);
  some = λ h link u1. grind (arith, nat_tests, w.some h link);
  leads = λ h u1 u2. grind (arith, nat_tests, w.leads h, g.rises slot h, g.least slot h, g.reached slot);
  blank = λ s u1. grind (arith, nat_tests, w.blank s);
  items = w.items;
  loads = w.loads;
}

-- the same of functions that agree
pub same_line : (q past q2 p : ℕ → Bool) (l : Line) (next n2 : ℕ → ℕ) (head h2 tail t2 : ℕ) → InLine q past l next head tail → ((s : ℕ) → q2 s ≡ q s) → ((s : ℕ) → l.lined s ≡ true → p s ≡ true) → ((s : ℕ) → n2 s ≡ next s) → h2 ≡ head → t2 ≡ tail → InLine q2 p l n2 h2 t2
same_line q past q2 p l next n2 head h2 tail t2 g e f n a b = record {
  lined = λ s u1. grind (arith, nat_tests, g.lined s, e s);
  passed = λ s u1. f s u1;
  last = λ s u1 u2. grind (arith, nat_tests, g.last s, e s, n s);
  links = λ s t u1 u2. grind (arith, nat_tests, g.links s t, e s, e t, n s);
  rises = λ s t u1 u2. grind (arith, nat_tests, g.rises s t, e s, n s);
  one = λ s t u1 u2 u3. grind (arith, nat_tests, g.one s t, e s, e t);
  first = λ s u1. grind (arith, nat_tests, g.first s, e s);
  least = λ s x u1 u2. grind (arith, nat_tests, g.least s x, e s);
  most = λ s t u1 u2 u3. grind (arith, nat_tests, g.most s t, e s, e t, n s);
  reached = λ s u1. grind (arith, nat_tests, g.reached s, e s);
  some = omega (arith, g.some);
}

pub same_walks : (phase : Phase) (q q2 : ℕ → Bool) (l : Line) (next n2 : ℕ → ℕ) (head h2 tail t2 : ℕ) → Walks phase q l next head tail → ((s : ℕ) → q2 s ≡ q s) → ((s : ℕ) → n2 s ≡ next s) → h2 ≡ head → t2 ≡ tail → Walks phase q2 l n2 h2 t2
same_walks phase q q2 l next n2 head h2 tail t2 w e n a b = record {
  stood = w.stood;
  heads = λ h u1 u2. grind (arith, nat_tests, w.heads h, e h);
  follows = λ h link u1. grind (arith, nat_tests, w.follows h link, n h);
  some = w.some;
  leads = λ h u1 u2. grind (arith, nat_tests, w.leads h);
  blank = λ s u1. grind (arith, nat_tests, w.blank s, n s);
  items = w.items;
  loads = loads_stay phase next n2 (λ h u z. n h) w.loads;
}
