-- The numbers of a summary after more entries.
use Rattle.std.proofs.Common.{List, [], ap, arith, cond, refl, subst, sym, take, Bool, false, true, ℕ, ◌+◌, ◌++◌, ◌∙◌, ◌≡◌, ◌∷◌}
use Rattle.std.proofs.lemmas.List.Sums.{sum_by_push}
use Rattle.std.specs.Prelude.{Some, length, slice_get}
use Rattle.wfe_outside.specs.defs.Entry.{Entry, entry}
use Rattle.wfe_outside.specs.defs.declared.event.Event.{Event}
use Rattle.wfe_outside.specs.Watched.{Grows}
use Rattle.wfe_server_out.specs.Heard.{Gains}
use Rattle.wfe_server_out.specs.Pieces.{Told, heard_of, told_pieces}
use Rattle.wfe_server_out.proofs.Hearing.{gains_along, gains_none}
use Rattle.wfe_server_out.proofs.Texts.{heard_of-append, told_pieces-more}
use Rattle.std.proofs.Math.Seq.{take-length}
use Rattle.wfe_watch.specs.Counts.{capped, raised}
use Rattle.wfe_watch.specs.Garbage.{is_back, is_retire}
use Rattle.wfe_watch.proofs.CountsLemmas.{capped-count_by_push}
use Rattle.wfe_server_gen.specs.declared.summary.Summary.{Summary}
use Rattle.wfe_server_gen.specs.Summary.{Counts, count_of, is_begin, is_era, is_got, is_put, is_queued, is_removed, is_taken, steps_in, summary_after, summary_of, units_of}

-- a sum that has reached the end of its type stays there
capped_sum : (n m : ℕ) → capped (n + m) ≡ capped (capped n + m)
capped_sum n m = omega arith

units_more : (told : List Entry) (seat : ℕ) (event : Event) → capped (units_of (told ++ entry seat event ∷ [])) ≡ capped (capped (units_of told) + steps_in event)
units_more told seat event = ap capped (sum_by_push (λ x. steps_in x.event) told (entry seat event)) ∙ capped_sum (units_of told) (steps_in event)

kind_more : (kind : Event → Bool) (told : List Entry) (seat : ℕ) (event : Event) → capped (count_of kind (told ++ entry seat event ∷ [])) ≡ raised (kind event) (capped (count_of kind told))
kind_more kind told seat event = capped-count_by_push (λ x. kind x.event) told (entry seat event)

one_before : (more : Bool) (n : ℕ) → capped (1 + (n + cond more 1 0)) ≡ raised more (capped (1 + n))
one_before true n = omega arith
one_before false n = omega arith

clock_more : (told : List Entry) (seat : ℕ) (event : Event) → capped (1 + count_of is_era (told ++ entry seat event ∷ [])) ≡ raised (is_era event) (capped (1 + count_of is_era told))
clock_more told seat event = ap (λ (n : ℕ). capped (1 + n)) (sum_by_push (λ x. cond (is_era x.event) 1 0) told (entry seat event)) ∙ one_before (is_era event) (count_of is_era told)

abbrev numbers : ℕ → ℕ → ℕ → ℕ → ℕ → ℕ → ℕ → ℕ → ℕ → ℕ → Summary
numbers a b c d e f g h i j = record { units = a; calls = b; puts = c; removed = d; gots = e; queued = f; taken = g; retired = h; back = i; clock = j }

all_same : (a b c d e f g h i j k l m n o p q r s t : ℕ) → a ≡ k → b ≡ l → c ≡ m → d ≡ n → e ≡ o → f ≡ p → g ≡ q → h ≡ r → i ≡ s → j ≡ t → numbers a b c d e f g h i j ≡ numbers k l m n o p q r s t
all_same a b c d e f g h i j k l m n o p q r s t u v w x y z aa bb cc' dd = rw (u, v, w, x, y, z, aa, bb, cc', dd) refl

summary_more : (told : List Entry) (seat : ℕ) (event : Event) → summary_of (told ++ entry seat event ∷ []) ≡ summary_after (summary_of told) event
summary_more told seat event = all_same _ _ _ _ _ _ _ _ _ _ _ _ _ _ _ _ _ _ _ _
    (units_more told seat event) (kind_more is_begin told seat event) (kind_more is_put told seat event) (kind_more is_removed told seat event) (kind_more is_got told seat event)
    (kind_more is_queued told seat event) (kind_more is_taken told seat event) (kind_more is_retire told seat event) (kind_more is_back told seat event) (clock_more told seat event)

-- one event more is counted
pub counts_grow : (old new : Summary) (seat : ℕ) (event : Event) → new ≡ summary_after old event → Grows Counts old new (entry seat event)
counts_grow old new seat event e told c = e ∙ ap (λ (s : Summary). summary_after s event) c ∙ sym (summary_more told seat event)

pub gains_start : (s : Summary) (seat : ℕ) (told : List Event) → Gains Counts s s (heard_of (told_pieces seat (take 0 told)))
gains_start s seat told = gains_none Counts s s refl

pub gains_more : (old mid new : Summary) (seat : ℕ) (told : List Event) (place : ℕ) (event : Event) → slice_get told place ≡ Some event → Gains Counts old mid (heard_of (told_pieces seat (take place told))) → Grows Counts mid new (entry seat event)
    → Gains Counts old new (heard_of (told_pieces seat (take (place + 1) told)))
gains_more old mid new seat told place event at g one =
    subst (Gains Counts old new) (sym (ap heard_of (told_pieces-more seat told place event at) ∙ heard_of-append (told_pieces seat (take place told)) (Told (entry seat event) ∷ [])))
    (gains_along Counts old mid new (heard_of (told_pieces seat (take place told))) (entry seat event ∷ []) g one)

pub gains_all : (old new : Summary) (seat : ℕ) (told : List Event) (place : ℕ) → place ≡ length told → Gains Counts old new (heard_of (told_pieces seat (take place told))) → Gains Counts old new (heard_of (told_pieces seat told))
gains_all old new seat told place e g = subst (λ (events : List Event). Gains Counts old new (heard_of (told_pieces seat events))) (ap (λ (n : ℕ). take n told) e ∙ take-length told) g
