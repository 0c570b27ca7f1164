-- Each kind of packed word is a codec.
use Rattle.std.proofs.Common.{ℕ, ◌≡◌, ◌<◌, ◌^◌, Bool, true, arith, refl, sym, ap, ◌∙◌}
use Rattle.std.specs.Prelude.{Option, Some, None, IsTrue}
use Rattle.std.proofs.lemmas.Bool.Decides.{nat_tests}
use Rattle.wfe_words.specs.Laws.{IsCodec}
use Rattle.wfe_words.specs.Packed.{link_word, life_word, reservation_word, span_word, request_word, link_fits, life_fits, reservation_fits, span_fits, request_fits, read_link, read_life, read_reservation, read_span, read_request}
use Rattle.wfe_words.specs.declared.packed.Link.{Link}
use Rattle.wfe_words.specs.declared.packed.Link.TheVariants as links
use Rattle.wfe_words.specs.declared.packed.Reservation.{Reservation}
use Rattle.wfe_words.specs.declared.packed.Span.{Span}
use Rattle.wfe_words.specs.declared.packed.Request.{Request}
use Rattle.wfe_words.specs.declared.packed.Request.TheVariants as requests
use Rattle.wfe_words.proofs.Trips.{read_link_word, link_word_read, read_life_word, life_word_read, read_reservation_word, reservation_word_read, read_span_word, span_word_read, read_request_word, request_word_read}
use Rattle.wfe_words.proofs.Parts.{halves_below, pending_below, answered_below}

some_one : {A : Type 0} → (a b : A) → Some a ≡ Some b → a ≡ b
some_one a b e = cc

none_some : {A : Type 0} → (found : Option A) (a : A) → found ≡ None → found ≡ Some a → ⊥
none_some found a e g = cc

-- nothing is read where no value can be read
nothing_read : {A : Type 0} → (found : Option A) → ((a : A) → found ≡ Some a → ⊥) → found ≡ None
nothing_read None h = refl
nothing_read (Some a) h = absurd (h a refl)

-- the round trips make a codec
codec : {A : Type 0} → (fits : A → Bool) (word_of : A → ℕ) (read : ℕ → Option A)
    → ((value : A) → IsTrue (fits value) → word_of value < 2 ^ 64)
    → ((value : A) → IsTrue (fits value) → read (word_of value) ≡ Some value)
    → ((word : ℕ) (value : A) → word < 2 ^ 64 → read word ≡ Some value → (word_of value ≡ word) × (fits value ≡ true))
    → IsCodec fits word_of read
codec fits word_of read within back whole = record {
  within = within;
  read_back = back;
  refused = λ word b. ((λ none value h e. none_some (read word) value none (ap read (sym e) ∙ back value h)), (λ free. nothing_read (read word) (λ value e. free value (whole word value b e).1 (whole word value b e).0)));
  fitting = λ word value b e. (whole word value b e).1;
  packed_back = λ word value b e. (whole word value b e).0;
  one = λ value other h g e. some_one value other (sym (back value h) ∙ ap read e ∙ back other g);
}

link_below : (slots : ℕ) → slots < 2 ^ 32 → (link : Link) → IsTrue (link_fits slots link) → link_word link < 2 ^ 64
link_below slots b links.Null h = omega arith
link_below slots b (links.Slot slot) h = grind (arith, nat_tests)

span_below : (span : Option Span) → IsTrue (span_fits span) → span_word span < 2 ^ 64
span_below None h = omega arith
span_below (Some span) h = halves_below span.lo span.hi (grind (arith, nat_tests)) (grind (arith, nat_tests))

request_below : (request : Request) → IsTrue (request_fits request) → request_word request < 2 ^ 64
request_below requests.Idle h = omega arith
request_below (requests.Pending tag index word) h = let b = pending_below tag index word (grind (arith, nat_tests)) (grind (arith, nat_tests)) (grind (arith, nat_tests)) in omega arith
request_below (requests.Answered link era) h = answered_below link era (grind (arith, nat_tests)) (grind (arith, nat_tests))

pub link_codec : (slots : ℕ) → slots < 2 ^ 32 → IsCodec (link_fits slots) link_word (λ word. read_link word slots)
link_codec slots b = codec (link_fits slots) link_word (λ word. read_link word slots) (link_below slots b) (read_link_word slots) (λ word link _ e. link_word_read slots word link e)

pub life_codec : IsCodec life_fits life_word read_life
life_codec = codec life_fits life_word read_life (λ life h. halves_below life.birth life.retire (grind (arith, nat_tests)) (grind (arith, nat_tests))) read_life_word life_word_read

pub reservation_codec : IsCodec reservation_fits reservation_word (λ word. Some (read_reservation word))
reservation_codec = codec reservation_fits reservation_word (λ word. Some (read_reservation word)) (λ r h. halves_below r.era r.tag (grind (arith, nat_tests)) (grind (arith, nat_tests))) (λ r h. ap Some (read_reservation_word r h)) reservation_read
  where
    reservation_read : (word : ℕ) (r : Reservation) → word < 2 ^ 64 → Some (read_reservation word) ≡ Some r → (reservation_word r ≡ word) × (reservation_fits r ≡ true)
    reservation_read word r b e = let k : read_reservation word ≡ r = some_one (read_reservation word) r e in
        let t = reservation_word_read word b in (ap reservation_word (sym k) ∙ t.0, ap reservation_fits (sym k) ∙ t.1)

pub span_codec : IsCodec span_fits span_word read_span
span_codec = codec span_fits span_word read_span span_below read_span_word span_word_read

pub request_codec : IsCodec request_fits request_word read_request
request_codec = codec request_fits request_word read_request request_below read_request_word request_word_read
