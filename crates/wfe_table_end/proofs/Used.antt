-- The claim words show just the rows that are taken by the record.
use Rattle.std.proofs.Common.{Bool, arith, refl, suc, sym, true, false, zero, ℕ, ◌+◌, ◌/◌, ◌%◌, ◌<◌, ◌≤◌, ◌∙◌, ◌≡◌}
use Rattle.std.specs.Int.{bit_at}
use Rattle.std.specs.List.{range_with_len}
use Rattle.std.specs.Prelude.{filter, ◌==◌}
use Rattle.laws.specs.StateAt.{taken_at}
use Rattle.laws.specs.records.Record.{Past}
use Rattle.law_reasons.specs.inv.rows.Agree.{bit_of, claim_of}
use Rattle.law_reasons.specs.inv.rows.Rows.{Status, is_taken}
use Rattle.law_reasons.specs.reuse.Rows.{Shown}
use Rattle.wfe_core.proofs.Facts.{le_test, words_below}
use Rattle.wfe_core.specs.World.{World}
use Rattle.wfe_core.specs.words.Place.Place.{Claim}
use Rattle.wfe_core.specs.words.Place.{row_count}
use Rattle.wfe_table_end.specs.Contents.{is_used, numbers_where}

filter_same : (f g : ℕ → Bool) (first count : ℕ) → ((n : ℕ) → n < first + count → f n ≡ g n) → filter f (range_with_len first count) ≡ filter g (range_with_len first count)
filter_same f g first zero h = refl
filter_same f g first (suc count) h = rw (h first (omega arith), filter_same f g (first + 1) count (λ n low. h n (omega arith))) refl

bit_back : (b : Bool) → (bit_of b == 1) ≡ b
bit_back true = refl
bit_back false = refl

claimed : (slots : ℕ) (status : Status) (slot bit : ℕ) → slot ≤ slots → bit ≡ claim_of slots status slot → (bit == 1) ≡ is_taken status
claimed slots status slot bit low h = rw (h, le_test slot slots low) (bit_back (is_taken status))

slot_used : (w : World) (p : Past) (slot : ℕ) → Shown w p → slot < row_count w.layout → is_used w.mem slot ≡ taken_at w.layout.config.slots slot p
slot_used w p slot s low =
    let below : slot ≤ w.layout.config.slots = omega arith in
    claimed w.layout.config.slots (s.rows.status slot) slot (bit_at (w.mem (Claim (slot / 64))) (slot % 64)) below (s.agree.words.claims slot (words_below slot w.layout.config.slots below))
    ∙ sym (s.shows.taken slot)

pub used_shown : (w : World) (p : Past) → Shown w p → numbers_where (is_used w.mem) (row_count w.layout) ≡ numbers_where (λ slot. taken_at w.layout.config.slots slot p) (row_count w.layout)
used_shown w p s = filter_same (is_used w.mem) (λ slot. taken_at w.layout.config.slots slot p) 0 (row_count w.layout) (λ slot low. slot_used w p slot s (omega arith))
