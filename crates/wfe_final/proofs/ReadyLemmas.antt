-- The ledger has room for each deleter that was not called yet.
use Rattle.std.proofs.Common.{ℕ, ◌≡◌, ◌≤◌, ◌<◌, ◌+◌, cond, length, refl, ap, ◌∙◌, arith}
use Rattle.std.proofs.lemmas.List.{length-set}
use Rattle.std.proofs.lemmas.List.Sums.{sum_by-set}
use Rattle.std.specs.Prelude.{Option, None, Some, is_some, slice_set, count_by}
use Rattle.wfe_final.specs.Slots.{Ids, call_of, id_at}
use Rattle.wfe_final.specs.Watching.{IsReady}

one_of : Option ℕ → ℕ
one_of id = cond (is_some id) 1 0

one_call : (id : Option ℕ) (slot : ℕ) → length (call_of id slot) ≡ one_of id
unfolding one_of
one_call None slot = refl
one_call (Some id) slot = refl

one_none : one_of None ≡ 0
unfolding one_of
one_none = refl

one_some : (id : ℕ) → one_of (Some id) ≡ 1
unfolding one_of
one_some id = refl

count_set : (finals : Ids) (slot : ℕ) (id : Option ℕ) → slot < length finals → count_by is_some (slice_set finals slot id) + one_of (id_at finals slot) ≡ count_by is_some finals + one_of id
unfolding one_of
count_set finals slot id within = sum_by-set (λ (o : Option ℕ). cond (is_some o) 1 0) finals slot id None within

-- a deleter of the store was attached
pub ready_attached : (slots left fewer slot id spare : ℕ) (finals : Ids) → IsReady slots left finals spare → fewer + 1 ≡ left → slot < length finals → id_at finals slot ≡ None → IsReady slots fewer (slice_set finals slot (Some id)) spare
ready_attached slots left fewer slot id spare finals r less within free = record {
  places = length-set finals slot (Some id) ∙ r.places;
  room = omega (arith, r.room, count_set finals slot (Some id) within, one_some id, ap one_of free, one_none);
}

-- there is room for a slot's call
pub room_in : (slots left slot spare : ℕ) (finals : Ids) → IsReady slots left finals spare → slot < length finals → length (call_of (id_at finals slot) slot) ≤ spare
room_in slots left slot spare finals r within = omega (arith, r.room, one_call (id_at finals slot) slot, count_set finals slot None within, one_none)

-- and after it for the rest
pub ready_settled : (slots left slot spare less : ℕ) (finals : Ids) → IsReady slots left finals spare → slot < length finals → less + length (call_of (id_at finals slot) slot) ≡ spare → IsReady slots left (slice_set finals slot None) less
ready_settled slots left slot spare less finals r within e = record {
  places = length-set finals slot None ∙ r.places;
  room = omega (arith, r.room, e, one_call (id_at finals slot) slot, count_set finals slot None within, one_none);
}
