-- What one operation leaves of the words that requests and helping are about.
use Rattle.std.proofs.Common.{ℕ, ◌≡◌, Bool, true, false, arith, refl, sym, ap, ◌∙◌}
use Rattle.std.proofs.lemmas.Bool.Decides.{nat_tests}
use Rattle.std.specs.Prelude.{◌==◌, if◌then◌else◌}
use Rattle.inv_rows.specs.words.Place.{Place, same}
use Rattle.inv_rows.specs.words.Place.Place.{Clock, Helper, Index, Request}
use Rattle.inv_rows.specs.words.Packed.{halves}
use Rattle.inv_rows.proofs.words.Places.{same_one}
use Rattle.inv_rows.specs.model.Memory.{upd, put}
use Rattle.inv_rows.specs.Covering.Requests.Views.{Deal, upd2}
use Rattle.inv_rows.proofs.Covering.Requests.Turns.{upd_all}
use Rattle.inv_rows.specs.Covering.Requests.Standing.{Words, request_of}

-- two zero halves are 0
pub no_halves : halves 0 0 ≡ 0
unfolding halves
no_halves = refl

pub words_helper : {rows : Bool} (mem : Place → ℕ) (clock : ℕ) (helper : ℕ → ℕ) (era mark : ℕ → ℕ → ℕ) (deal : ℕ → Deal) (i s x y : ℕ) → Words rows mem clock helper era mark deal → s ≡ i → y ≡ halves x 0 → Words rows (put mem (Helper s) y) clock (upd helper i x) era mark deal
words_helper mem clock helper era mark deal i s x y u e g = record {
  clocks = u.clocks;
  helpers = λ k. grind (arith, nat_tests, u.helpers k);
  indexes = u.indexes;
  requests = λ k. u.requests k;
}

pub words_index : {rows : Bool} (mem : Place → ℕ) (clock : ℕ) (helper : ℕ → ℕ) (era mark : ℕ → ℕ → ℕ) (deal : ℕ → Deal) (i s j x y z : ℕ) → Words rows mem clock helper era mark deal → s ≡ i → z ≡ halves x y → Words rows (put mem (Index s j) z) clock helper (upd2 era i j x) (upd2 mark i j y) deal
words_index mem clock helper era mark deal i s j x y z u e g = record {
  clocks = u.clocks;
  helpers = λ k. u.helpers k;
  indexes = λ p k l. grind (arith, nat_tests, u.indexes p k l);
  requests = λ k. u.requests k;
}

-- the era alone changes
pub words_era : {rows : Bool} (mem : Place → ℕ) (clock : ℕ) (helper : ℕ → ℕ) (era mark : ℕ → ℕ → ℕ) (deal : ℕ → Deal) (i s j x z : ℕ) → Words rows mem clock helper era mark deal → s ≡ i → z ≡ halves x (mark i j) → Words rows (put mem (Index s j) z) clock helper (upd2 era i j x) mark deal
words_era mem clock helper era mark deal i s j x z u e g = record {
  clocks = u.clocks;
  helpers = λ k. u.helpers k;
  indexes = λ p k l. grind (arith, nat_tests, u.indexes p k l);
  requests = λ k. u.requests k;
}

-- where rows are published an index word is none of these
pub words_row : {rows : Bool} (mem : Place → ℕ) (clock : ℕ) (helper : ℕ → ℕ) (era mark : ℕ → ℕ → ℕ) (deal : ℕ → Deal) (s j x : ℕ) → rows ≡ true → Words rows mem clock helper era mark deal → Words rows (put mem (Index s j) x) clock helper era mark deal
words_row mem clock helper era mark deal s j x e u = record {
  clocks = u.clocks;
  helpers = λ k. u.helpers k;
  indexes = λ p. absurd (cc);
  requests = λ k. u.requests k;
}

request_at : (mem : Place → ℕ) (deal : ℕ → Deal) (i s x k : ℕ) (d : Deal) (b : Bool) → (k == i) ≡ b → mem (Request k) ≡ request_of (deal k) → s ≡ i → x ≡ request_of d → put mem (Request s) x (Request k) ≡ request_of (upd deal i d k)
request_at mem deal i s x k d true h u e g = let r : (k == s) ≡ true = grind (arith, nat_tests) in rw (h, r) g
request_at mem deal i s x k d false h u e g = let r : (k == s) ≡ false = grind (arith, nat_tests) in rw (h, r) u

pub words_request : {rows : Bool} (mem : Place → ℕ) (clock : ℕ) (helper : ℕ → ℕ) (era mark : ℕ → ℕ → ℕ) (deal : ℕ → Deal) (i s x : ℕ) (d : Deal) → Words rows mem clock helper era mark deal → s ≡ i → x ≡ request_of d → Words rows (put mem (Request s) x) clock helper era mark (upd deal i d)
words_request mem clock helper era mark deal i s x d u e g = record {
  clocks = u.clocks;
  helpers = λ k. u.helpers k;
  indexes = u.indexes;
  requests = λ k. request_at mem deal i s x k d (k == i) refl (u.requests k) e g;
}

pub words_clock : {rows : Bool} (mem : Place → ℕ) (clock : ℕ) (helper : ℕ → ℕ) (era mark : ℕ → ℕ → ℕ) (deal : ℕ → Deal) (x : ℕ) → Words rows mem clock helper era mark deal → Words rows (put mem Clock x) x helper era mark deal
words_clock mem clock helper era mark deal x u = record { clocks = refl; helpers = λ k. u.helpers k; indexes = u.indexes; requests = λ k. u.requests k }

-- an operation that leaves its word
put_same : (mem : Place → ℕ) (p q : Place) (x : ℕ) → x ≡ mem p → put mem p x q ≡ mem q
put_same mem p q x e = put_by (same q p) refl
  where
    put_by : (b : Bool) → same q p ≡ b → (if b then x else mem q) ≡ mem q
    put_by true h = e ∙ ap mem (sym (same_one q p h))
    put_by false h = refl

pub words_same : {rows : Bool} (mem : Place → ℕ) (clock : ℕ) (helper : ℕ → ℕ) (era mark : ℕ → ℕ → ℕ) (deal : ℕ → Deal) (p : Place) (x : ℕ) → Words rows mem clock helper era mark deal → x ≡ mem p → Words rows (put mem p x) clock helper era mark deal
words_same mem clock helper era mark deal p x u e = record {
  clocks = put_same mem p Clock x e ∙ u.clocks;
  helpers = λ k. put_same mem p (Helper k) x e ∙ u.helpers k;
  indexes = λ r k j. put_same mem p (Index k j) x e ∙ u.indexes r k j;
  requests = λ k. put_same mem p (Request k) x e ∙ u.requests k;
}

-- a deal that changes and keeps its word
pub words_deal : {rows : Bool} (mem : Place → ℕ) (clock : ℕ) (helper : ℕ → ℕ) (era mark : ℕ → ℕ → ℕ) (deal : ℕ → Deal) (i : ℕ) (d : Deal) → Words rows mem clock helper era mark deal → request_of (deal i) ≡ request_of d → Words rows mem clock helper era mark (upd deal i d)
words_deal mem clock helper era mark deal i d u e = record { clocks = u.clocks; helpers = λ k. u.helpers k; indexes = u.indexes; requests = λ k. upd_all deal i d (λ (n : ℕ) (a : Deal). mem (Request n) ≡ request_of a) (u.requests i ∙ e) (λ n h. u.requests n) k }

-- the word of an exchange that succeeds, and of one that fails
pub exchanged : (word old new : ℕ) → (word == old) ≡ true → (if word == old then new else word) ≡ new
exchanged word old new h = rw h refl

pub not_exchanged : (word old new : ℕ) → (word == old) ≡ false → (if word == old then new else word) ≡ word
not_exchanged word old new h = rw h refl
