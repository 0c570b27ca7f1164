-- The numbers that pass a test, where the end is one later.
use Rattle.std.proofs.Common.{Bool, [], append-nil, arith, false, map-id, true, ℕ, ◌+◌, ◌++◌, ◌∷◌, ◌≡◌}
use Rattle.std.proofs.lemmas.List.FromFn.{filter_of_map_range_with_len_more}
use Rattle.std.specs.Prelude.{cond}
use Rattle.wfe_table_end.specs.Contents.{numbers_where}

numbers_more : (test : ℕ → Bool) (end : ℕ) → numbers_where test (end + 1) ≡ numbers_where test end ++ cond (test end) (end ∷ []) []
numbers_more test end = simp map-id at (filter_of_map_range_with_len_more test (λ (n : ℕ). n) 0 end end (omega arith))

pub numbers_with : (test : ℕ → Bool) (end : ℕ) → test end ≡ true → numbers_where test (end + 1) ≡ numbers_where test end ++ end ∷ []
numbers_with test end h = rw h at (numbers_more test end)

pub numbers_without : (test : ℕ → Bool) (end : ℕ) → test end ≡ false → numbers_where test (end + 1) ≡ numbers_where test end
numbers_without test end h = rw (h, append-nil) at (numbers_more test end)
