-- What is packed is read back, and what is read packs to the word it was read from.
use Rattle.std.proofs.Common.{ℕ, ◌≡◌, ◌<◌, ◌^◌, true, arith, refl}
use Rattle.std.specs.Prelude.{Option, Some, None}
use Rattle.std.proofs.lemmas.Bool.Decides.{nat_tests}
use Rattle.wfe_words.specs.Packed.{halves, pending_word, answered_word, link_word, life_word, reservation_word, span_word, request_word, link_fits, life_fits, reservation_fits, span_fits, request_fits, read_link, read_life, read_reservation, read_span, read_request}
use Rattle.wfe_words.specs.declared.packed.Link.{Link}
use Rattle.wfe_words.specs.declared.packed.Link.TheVariants as links
use Rattle.wfe_words.specs.declared.packed.Life.{Life}
use Rattle.wfe_words.specs.declared.packed.Reservation.{Reservation}
use Rattle.wfe_words.specs.declared.packed.Span.{Span}
use Rattle.wfe_words.specs.declared.packed.Request.{Request}
use Rattle.wfe_words.specs.declared.packed.Request.TheVariants as requests

pub pending_value : request_word (requests.Pending 5 2 100) ≡ 4611686023930314852
unfolding pending_word
pending_value = refl

pub answered_value : request_word (requests.Answered 4 9) ≡ 9223372054034645001
unfolding answered_word
answered_value = refl

pub life_value : life_word (record { birth = 3; retire = 5 }) ≡ 12884901893
unfolding halves
life_value = refl

-- null and each row of the table
pub read_link_word : (slots : ℕ) (link : Link) → link_fits slots link ≡ true → read_link (link_word link) slots ≡ Some link
unfolding read_link
read_link_word slots links.Null h = refl
read_link_word slots (links.Slot slot) h = grind (arith, nat_tests)

pub link_word_read : (slots word : ℕ) (link : Link) → read_link word slots ≡ Some link → (link_word link ≡ word) × (link_fits slots link ≡ true)
unfolding read_link
link_word_read slots word link h = grind (arith, nat_tests)

pub read_life_word : (life : Life) → life_fits life ≡ true → read_life (life_word life) ≡ Some life
unfolding read_life halves
read_life_word life h = grind (arith, nat_tests)

pub life_word_read : (word : ℕ) (life : Life) → word < 2 ^ 64 → read_life word ≡ Some life → (life_word life ≡ word) × (life_fits life ≡ true)
unfolding read_life halves
life_word_read word life b h = grind (arith, nat_tests)

pub read_reservation_word : (reservation : Reservation) → reservation_fits reservation ≡ true → read_reservation (reservation_word reservation) ≡ reservation
unfolding read_reservation halves
read_reservation_word r h = grind (arith, nat_tests)

pub reservation_word_read : (word : ℕ) → word < 2 ^ 64 → (reservation_word (read_reservation word) ≡ word) × (reservation_fits (read_reservation word) ≡ true)
unfolding read_reservation halves
reservation_word_read word b = grind (arith, nat_tests)

pub read_span_word : (span : Option Span) → span_fits span ≡ true → read_span (span_word span) ≡ Some span
unfolding read_span halves
read_span_word None h = refl
read_span_word (Some span) h = grind (arith, nat_tests)

pub span_word_read : (word : ℕ) (span : Option Span) → word < 2 ^ 64 → read_span word ≡ Some span → (span_word span ≡ word) × (span_fits span ≡ true)
unfolding read_span halves
span_word_read word span b h = grind (arith, nat_tests)

pub read_request_word : (request : Request) → request_fits request ≡ true → read_request (request_word request) ≡ Some request
unfolding read_request pending_word answered_word
read_request_word requests.Idle h = refl
read_request_word (requests.Pending tag index word) h = grind (arith, nat_tests)
read_request_word (requests.Answered link era) h = grind (arith, nat_tests)

pub request_word_read : (word : ℕ) (request : Request) → word < 2 ^ 64 → read_request word ≡ Some request → (request_word request ≡ word) × (request_fits request ≡ true)
unfolding read_request pending_word answered_word
request_word_read word request b h = grind (arith, nat_tests)
