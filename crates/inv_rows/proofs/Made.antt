-- Each move of rows keeps what is known of them.
use Rattle.std.proofs.Common.{ℕ, ◌≤◌, ◌+◌, ◌<◌, ◌≡◌, true, false, arith, refl, ap, sym, ◌∙◌}
use Rattle.std.proofs.lemmas.Bool.Decides.{nat_tests}
use Rattle.std.specs.Prelude.{◌==◌}
use Rattle.inv_rows.specs.Rows.{Hand, Status, View, Good, made, in_hand, is_taken, is_settled, has_life, retire_in, status_in, passed}
use Rattle.inv_rows.specs.Rows.Status.{Free, Claimed, Born, Linked, InQueue, Cut, Sealed, Listed}
use Rattle.inv_rows.specs.Rows.Hand.{Empty, New, Taken, Old, Known, Dated}
use Rattle.inv_rows.specs.Rows.RowMove.{Claims, Bears, Drops, Links, Replaces, Appends, Pops, Reads, Seals, Lists, Returns, Adopts}

pub claims_good : (slots : ℕ) (v : View) (i slot : ℕ) → Good slots v → (v.hand i) ≡ Empty → v.status slot ≡ Free → slot ≤ slots → Good slots (made i v (Claims slot))
claims_good slots v i slot g p0 p1 p2 = record {
  hands = λ k s h. grind (arith, nat_tests, g.hands k s);
  held = λ k s h. grind (arith, nat_tests, g.held k s);
  known = λ k s h. grind (arith, nat_tests, g.known k s);
  listed = λ k s b r h. grind (arith, nat_tests, g.listed k s b r);
  dated = λ k s b r h. grind (arith, nat_tests, g.dated k s b r);
  lists = λ k s r h. grind (arith, nat_tests, g.lists k s r);
  roots = λ b s h. grind (arith, nat_tests, g.roots b s);
  linked = λ b s h. grind (arith, nat_tests, g.linked b s);
  some = grind (arith, nat_tests, g.some);
  queue = λ s h. grind (arith, nat_tests, g.queue s);
  inside = λ s h. grind (arith, nat_tests, g.inside s);
  births = λ s h. grind (arith, nat_tests, g.births s);
}

pub bears_good : (slots : ℕ) (v : View) (i slot birth : ℕ) → Good slots v → v.hand i ≡ New slot → 0 < birth → Good slots (made i v (Bears slot birth))
bears_good slots v i slot birth g p0 p1 = record {
  hands = λ k s h. grind (arith, nat_tests, g.hands k s, g.hands i slot);
  held = λ k s h. grind (arith, nat_tests, g.held k s, g.hands i slot);
  known = λ k s h. grind (arith, nat_tests, g.known k s, g.hands i slot);
  listed = λ k s b r h. grind (arith, nat_tests, g.listed k s b r, g.hands i slot);
  dated = λ k s b r h. grind (arith, nat_tests, g.dated k s b r, g.hands i slot);
  lists = λ k s r h. grind (arith, nat_tests, g.lists k s r, g.hands i slot);
  roots = λ b s h. grind (arith, nat_tests, g.roots b s, g.hands i slot);
  linked = λ b s h. grind (arith, nat_tests, g.linked b s, g.hands i slot);
  some = grind (arith, nat_tests, g.some, g.hands i slot);
  queue = λ s h. grind (arith, nat_tests, g.queue s, g.hands i slot);
  inside = λ s h. grind (arith, nat_tests, g.inside s, g.hands i slot);
  births = λ s h. grind (arith, nat_tests, g.births s, g.hands i slot);
}

pub drops_good : (slots : ℕ) (v : View) (i slot : ℕ) → Good slots v → v.hand i ≡ Taken slot → Good slots (made i v (Drops slot))
drops_good slots v i slot g p0 = record {
  hands = λ k s h. grind (arith, nat_tests, g.hands k s, g.hands i slot);
  held = λ k s h. grind (arith, nat_tests, g.held k s, g.hands i slot);
  known = λ k s h. grind (arith, nat_tests, g.known k s, g.hands i slot);
  listed = λ k s b r h. grind (arith, nat_tests, g.listed k s b r, g.hands i slot);
  dated = λ k s b r h. grind (arith, nat_tests, g.dated k s b r, g.hands i slot);
  lists = λ k s r h. grind (arith, nat_tests, g.lists k s r, g.hands i slot);
  roots = λ b s h. grind (arith, nat_tests, g.roots b s, g.hands i slot);
  linked = λ b s h. grind (arith, nat_tests, g.linked b s, g.hands i slot);
  some = grind (arith, nat_tests, g.some, g.hands i slot);
  queue = λ s h. grind (arith, nat_tests, g.queue s, g.hands i slot);
  inside = λ s h. grind (arith, nat_tests, g.inside s, g.hands i slot);
  births = λ s h. grind (arith, nat_tests, g.births s, g.hands i slot);
}

pub links_good : (slots : ℕ) (v : View) (i bucket slot : ℕ) → Good slots v → v.hand i ≡ Taken slot → v.root bucket ≡ 0 → Good slots (made i v (Links bucket slot))
links_good slots v i bucket slot g p0 p1 = record {
  hands = λ k s h. grind (arith, nat_tests, g.hands k s, g.hands i slot);
  held = λ k s h. grind (arith, nat_tests, g.held k s, g.hands i slot);
  known = λ k s h. grind (arith, nat_tests, g.known k s, g.hands i slot);
  listed = λ k s b r h. grind (arith, nat_tests, g.listed k s b r, g.hands i slot);
  dated = λ k s b r h. grind (arith, nat_tests, g.dated k s b r, g.hands i slot);
  lists = λ k s r h. grind (arith, nat_tests, g.lists k s r, g.hands i slot);
  roots = λ b s h. grind (arith, nat_tests, g.roots b s, g.hands i slot);
  linked = λ b s h. grind (arith, nat_tests, g.linked b s, g.hands i slot);
  some = grind (arith, nat_tests, g.some, g.hands i slot);
  queue = λ s h. grind (arith, nat_tests, g.queue s, g.hands i slot);
  inside = λ s h. grind (arith, nat_tests, g.inside s, g.hands i slot);
  births = λ s h. grind (arith, nat_tests, g.births s, g.hands i slot);
}

pub replaces_good : (slots : ℕ) (v : View) (i bucket slot old : ℕ) → Good slots v → v.hand i ≡ Taken slot → v.root bucket ≡ old + 1 → Good slots (made i v (Replaces bucket slot old))
replaces_good slots v i bucket slot old g p0 p1 = record {
  hands = λ k s h. grind (arith, nat_tests, g.hands k s, g.hands i slot, g.roots bucket old);
  held = λ k s h. grind (arith, nat_tests, g.held k s, g.hands i slot, g.roots bucket old);
  known = λ k s h. grind (arith, nat_tests, g.known k s, g.hands i slot, g.roots bucket old);
  listed = λ k s b r h. grind (arith, nat_tests, g.listed k s b r, g.hands i slot, g.roots bucket old);
  dated = λ k s b r h. grind (arith, nat_tests, g.dated k s b r, g.hands i slot, g.roots bucket old);
  lists = λ k s r h. grind (arith, nat_tests, g.lists k s r, g.hands i slot, g.roots bucket old);
  roots = λ b s h. grind (arith, nat_tests, g.roots b s, g.hands i slot, g.roots bucket old);
  linked = λ b s h. grind (arith, nat_tests, g.linked b s, g.hands i slot, g.roots bucket old);
  some = grind (arith, nat_tests, g.some, g.hands i slot, g.roots bucket old);
  queue = λ s h. grind (arith, nat_tests, g.queue s, g.hands i slot, g.roots bucket old);
  inside = λ s h. grind (arith, nat_tests, g.inside s, g.hands i slot, g.roots bucket old);
  births = λ s h. grind (arith, nat_tests, g.births s, g.hands i slot, g.roots bucket old);
}

pub appends_good : (slots : ℕ) (v : View) (i slot : ℕ) → Good slots v → v.hand i ≡ Taken slot → Good slots (made i v (Appends slot))
appends_good slots v i slot g p0 = record {
  hands = λ k s h. grind (arith, nat_tests, g.hands k s, g.hands i slot);
  held = λ k s h. grind (arith, nat_tests, g.held k s, g.hands i slot);
  known = λ k s h. grind (arith, nat_tests, g.known k s, g.hands i slot);
  listed = λ k s b r h. grind (arith, nat_tests, g.listed k s b r, g.hands i slot);
  dated = λ k s b r h. grind (arith, nat_tests, g.dated k s b r, g.hands i slot);
  lists = λ k s r h. grind (arith, nat_tests, g.lists k s r, g.hands i slot);
  roots = λ b s h. grind (arith, nat_tests, g.roots b s, g.hands i slot);
  linked = λ b s h. grind (arith, nat_tests, g.linked b s, g.hands i slot);
  some = grind (arith, nat_tests, g.some, g.hands i slot);
  queue = λ s h. grind (arith, nat_tests, g.queue s, g.hands i slot);
  inside = λ s h. grind (arith, nat_tests, g.inside s, g.hands i slot);
  births = λ s h. grind (arith, nat_tests, g.births s, g.hands i slot);
}

pub pops_good : (slots : ℕ) (v : View) (i slot next : ℕ) → Good slots v → v.hand i ≡ Empty → v.head ≡ slot + 1 → v.status next ≡ InQueue → (next == slot) ≡ false → Good slots (made i v (Pops slot next))
pops_good slots v i slot next g p0 p1 p2 p3 = record {
  hands = λ k s h. grind (arith, nat_tests, g.hands k s, g.queue slot);
  held = λ k s h. grind (arith, nat_tests, g.held k s, g.queue slot);
  known = λ k s h. grind (arith, nat_tests, g.known k s, g.queue slot);
  listed = λ k s b r h. grind (arith, nat_tests, g.listed k s b r, g.queue slot);
  dated = λ k s b r h. grind (arith, nat_tests, g.dated k s b r, g.queue slot);
  lists = λ k s r h. grind (arith, nat_tests, g.lists k s r, g.queue slot);
  roots = λ b s h. grind (arith, nat_tests, g.roots b s, g.queue slot);
  linked = λ b s h. grind (arith, nat_tests, g.linked b s, g.queue slot);
  some = grind (arith, nat_tests, g.some, g.queue slot);
  queue = λ s h. grind (arith, nat_tests, g.queue s, g.queue slot);
  inside = λ s h. grind (arith, nat_tests, g.inside s, g.queue slot);
  births = λ s h. grind (arith, nat_tests, g.births s, g.queue slot);
}

pub reads_good : (slots : ℕ) (v : View) (i slot birth : ℕ) → Good slots v → v.hand i ≡ Old slot → birth ≡ v.birth slot → Good slots (made i v (Reads slot birth))
reads_good slots v i slot birth g p0 p1 = record {
  hands = λ k s h. grind (arith, nat_tests, g.hands k s, g.hands i slot);
  held = λ k s h. grind (arith, nat_tests, g.held k s, g.hands i slot);
  known = λ k s h. grind (arith, nat_tests, g.known k s, g.hands i slot);
  listed = λ k s b r h. grind (arith, nat_tests, g.listed k s b r, g.hands i slot);
  dated = λ k s b r h. grind (arith, nat_tests, g.dated k s b r, g.hands i slot);
  lists = λ k s r h. grind (arith, nat_tests, g.lists k s r, g.hands i slot);
  roots = λ b s h. grind (arith, nat_tests, g.roots b s, g.hands i slot);
  linked = λ b s h. grind (arith, nat_tests, g.linked b s, g.hands i slot);
  some = grind (arith, nat_tests, g.some, g.hands i slot);
  queue = λ s h. grind (arith, nat_tests, g.queue s, g.hands i slot);
  inside = λ s h. grind (arith, nat_tests, g.inside s, g.hands i slot);
  births = λ s h. grind (arith, nat_tests, g.births s, g.hands i slot);
}

pub seals_good : (slots : ℕ) (v : View) (i slot birth retire : ℕ) → Good slots v → v.hand i ≡ Known slot birth → Good slots (made i v (Seals slot birth retire))
seals_good slots v i slot birth retire g p0 = record {
  hands = λ k s h. grind (arith, nat_tests, g.hands k s, g.hands i slot, g.known i slot);
  held = λ k s h. grind (arith, nat_tests, g.held k s, g.hands i slot, g.known i slot);
  known = λ k s h. grind (arith, nat_tests, g.known k s, g.hands i slot, g.known i slot);
  listed = λ k s b r h. grind (arith, nat_tests, g.listed k s b r, g.hands i slot, g.known i slot);
  dated = λ k s b r h. grind (arith, nat_tests, g.dated k s b r, g.hands i slot, g.known i slot);
  lists = λ k s r h. grind (arith, nat_tests, g.lists k s r, g.hands i slot, g.known i slot);
  roots = λ b s h. grind (arith, nat_tests, g.roots b s, g.hands i slot, g.known i slot);
  linked = λ b s h. grind (arith, nat_tests, g.linked b s, g.hands i slot, g.known i slot);
  some = grind (arith, nat_tests, g.some, g.hands i slot, g.known i slot);
  queue = λ s h. grind (arith, nat_tests, g.queue s, g.hands i slot, g.known i slot);
  inside = λ s h. grind (arith, nat_tests, g.inside s, g.hands i slot, g.known i slot);
  births = λ s h. grind (arith, nat_tests, g.births s, g.hands i slot, g.known i slot);
}

pub lists_good : (slots : ℕ) (v : View) (i slot birth retire : ℕ) → Good slots v → v.hand i ≡ Dated slot birth retire → Good slots (made i v (Lists slot birth retire))
lists_good slots v i slot birth retire g p0 = record {
  hands = λ k s h. grind (arith, nat_tests, g.hands k s, g.hands i slot, g.known i slot);
  held = λ k s h. grind (arith, nat_tests, g.held k s, g.hands i slot, g.known i slot);
  known = λ k s h. grind (arith, nat_tests, g.known k s, g.hands i slot, g.known i slot);
  listed = λ k s b r h. grind (arith, nat_tests, g.listed k s b r, g.hands i slot, g.known i slot);
  dated = λ k s b r h. grind (arith, nat_tests, g.dated k s b r, g.hands i slot, g.known i slot);
  lists = λ k s r h. grind (arith, nat_tests, g.lists k s r, g.hands i slot, g.known i slot);
  roots = λ b s h. grind (arith, nat_tests, g.roots b s, g.hands i slot, g.known i slot);
  linked = λ b s h. grind (arith, nat_tests, g.linked b s, g.hands i slot, g.known i slot);
  some = grind (arith, nat_tests, g.some, g.hands i slot, g.known i slot);
  queue = λ s h. grind (arith, nat_tests, g.queue s, g.hands i slot, g.known i slot);
  inside = λ s h. grind (arith, nat_tests, g.inside s, g.hands i slot, g.known i slot);
  births = λ s h. grind (arith, nat_tests, g.births s, g.hands i slot, g.known i slot);
}

pub returns_good : (slots : ℕ) (v : View) (i slot birth retire : ℕ) → Good slots v → v.lists i slot birth retire ≡ true → Good slots (made i v (Returns slot))
returns_good slots v i slot birth retire g p0 = record {
  hands = λ k s h. grind (arith, nat_tests, g.hands k s, g.listed i slot birth retire, g.dated i slot birth retire);
  held = λ k s h. grind (arith, nat_tests, g.held k s, g.listed i slot birth retire, g.dated i slot birth retire);
  known = λ k s h. grind (arith, nat_tests, g.known k s, g.listed i slot birth retire, g.dated i slot birth retire);
  listed = λ k s b r h. grind (arith, nat_tests, g.listed k s b r, g.listed i slot birth retire, g.dated i slot birth retire);
  dated = λ k s b r h. grind (arith, nat_tests, g.dated k s b r, g.listed i slot birth retire, g.dated i slot birth retire);
  lists = λ k s r h. grind (arith, nat_tests, g.lists k s r, g.listed i slot birth retire, g.dated i slot birth retire);
  roots = λ b s h. grind (arith, nat_tests, g.roots b s, g.listed i slot birth retire, g.dated i slot birth retire);
  linked = λ b s h. grind (arith, nat_tests, g.linked b s, g.listed i slot birth retire, g.dated i slot birth retire);
  some = grind (arith, nat_tests, g.some, g.listed i slot birth retire, g.dated i slot birth retire);
  queue = λ s h. grind (arith, nat_tests, g.queue s, g.listed i slot birth retire, g.dated i slot birth retire);
  inside = λ s h. grind (arith, nat_tests, g.inside s, g.listed i slot birth retire, g.dated i slot birth retire);
  births = λ s h. grind (arith, nat_tests, g.births s, g.listed i slot birth retire, g.dated i slot birth retire);
}

-- a list changes hands: what seat i and the other seat have listed is told apart by the rows
passed_in : (from to : ℕ) (x : Status) (k : ℕ) → in_hand k (passed from to x) ≡ in_hand k x
passed_in from to Free k = refl
passed_in from to (Claimed by) k = refl
passed_in from to (Born by) k = refl
passed_in from to (Linked bucket) k = refl
passed_in from to InQueue k = refl
passed_in from to (Cut by) k = refl
passed_in from to (Sealed by retire) k = refl
passed_in from to (Listed by retire) k = refl

pub passed_taken : (from to : ℕ) (x : Status) → is_taken (passed from to x) ≡ is_taken x
passed_taken from to Free = refl
passed_taken from to (Claimed by) = refl
passed_taken from to (Born by) = refl
passed_taken from to (Linked bucket) = refl
passed_taken from to InQueue = refl
passed_taken from to (Cut by) = refl
passed_taken from to (Sealed by retire) = refl
passed_taken from to (Listed by retire) = refl

pub passed_life : (from to : ℕ) (x : Status) → has_life (passed from to x) ≡ has_life x
passed_life from to Free = refl
passed_life from to (Claimed by) = refl
passed_life from to (Born by) = refl
passed_life from to (Linked bucket) = refl
passed_life from to InQueue = refl
passed_life from to (Cut by) = refl
passed_life from to (Sealed by retire) = refl
passed_life from to (Listed by retire) = refl

pub passed_settled : (from to : ℕ) (x : Status) → is_settled (passed from to x) ≡ is_settled x
passed_settled from to Free = refl
passed_settled from to (Claimed by) = refl
passed_settled from to (Born by) = refl
passed_settled from to (Linked bucket) = refl
passed_settled from to InQueue = refl
passed_settled from to (Cut by) = refl
passed_settled from to (Sealed by retire) = refl
passed_settled from to (Listed by retire) = refl

pub passed_retire : (from to : ℕ) (x : Status) → retire_in (passed from to x) ≡ retire_in x
passed_retire from to Free = refl
passed_retire from to (Claimed by) = refl
passed_retire from to (Born by) = refl
passed_retire from to (Linked bucket) = refl
passed_retire from to InQueue = refl
passed_retire from to (Cut by) = refl
passed_retire from to (Sealed by retire) = refl
passed_retire from to (Listed by retire) = refl

passed_hand : (from to k : ℕ) (h : Hand) → passed from to (status_in k h) ≡ status_in k h
passed_hand from to k Empty = refl
passed_hand from to k (New slot) = refl
passed_hand from to k (Taken slot) = refl
passed_hand from to k (Old slot) = refl
passed_hand from to k (Known slot birth) = refl
passed_hand from to k (Dated slot birth retire) = refl

-- a row that is linked afterwards was so before
pub passed_linked : (from to b : ℕ) (x : Status) → passed from to x ≡ Linked b → x ≡ Linked b
passed_linked from to b Free e = cc
passed_linked from to b (Claimed by) e = cc
passed_linked from to b (Born by) e = cc
passed_linked from to b (Linked bucket) e = e
passed_linked from to b InQueue e = cc
passed_linked from to b (Cut by) e = cc
passed_linked from to b (Sealed by retire) e = cc
passed_linked from to b (Listed by retire) e = cc

pub adopts_good : (slots : ℕ) (v : View) (i from : ℕ) → Good slots v → (from == i) ≡ false → Good slots (made i v (Adopts from))
adopts_good slots v i from g o = record {
  hands = λ k s h. ap (passed from i) (g.hands k s h) ∙ passed_hand from i k (v.hand k);
  held = λ k s h. g.held k s (sym (passed_in from i (v.status s) k) ∙ h);
  known = g.known;
  listed = λ k s b r h. grind (arith, nat_tests, o, g.listed k s b r, g.listed i s b r, g.listed from s b r);
  dated = λ k s b r h. grind (arith, nat_tests, o, g.dated k s b r, g.dated i s b r, g.dated from s b r);
  lists = λ k s r h. grind (arith, nat_tests, o, g.lists k s r, g.lists i s r, g.lists from s r);
  roots = λ b s h. ap (passed from i) (g.roots b s h);
  linked = λ b s h. g.linked b s (passed_linked from i b (v.status s) h);
  some = g.some;
  queue = λ s h. ap (passed from i) (g.queue s h);
  inside = λ s h. g.inside s (sym (passed_taken from i (v.status s)) ∙ h);
  births = λ s h. g.births s (sym (passed_life from i (v.status s)) ∙ h);
}
