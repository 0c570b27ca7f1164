-- What is read as a line of a kind, and which lines are read so.
use Rattle.std.proofs.Common.{◌≡◌, ◌<◌, ◌^◌, ◌++◌, ◌∙◌, inl, inr, ℕ, Bool, true, false, List, [], ◌∷◌, Option, Some, None, codes, refl, sym, ap, subst, arith, rules, if◌then◌else◌}
use Rattle.std.specs.Fmt.{decimal}
use Rattle.std.specs.Str.{bytes_eq}
use Rattle.std.proofs.lemmas.List.{append_cancel_right}
use Rattle.std.proofs.lemmas.Slice.Eq.{bytes_eq-Decides}
use Rattle.wfe_words.specs.declared.config.Config.{Config}
use Rattle.wfe_defs.specs.declared.event.Event.{Event}
use Rattle.wfe_trace.specs.declared.reason.Reason.{Reason}
use Rattle.wfe_trace.specs.declared.reason.Reason.TheVariants as reasons
use Rattle.wfe_trace.specs.Fits.{NumberFits}
use Rattle.wfe_trace.specs.Record.{reason_word, seat_word, spaced}
use Rattle.wfe_trace.specs.Words.{number_in, words}
use Rattle.wfe_trace.proofs.Decimals.{lacks, number_in-decimal}
use Rattle.wfe_trace.proofs.EventWords.{Plain}
use Rattle.wfe_record_words.specs.Within.{Small}
use Rattle.wfe_record_words.specs.Reader.{any_number, first, given, number_below, whole, word}
use Rattle.wfe_record_words.proofs.Joined.{given-some, same_found, then_sound}
use Rattle.wfe_record_words.proofs.Lines.{line_by_words, words_by_line}
use Rattle.wfe_record_words.proofs.Parts.{any-word, below-word, chosen, long_reads, same_some}
use Rattle.wfe_record_words.proofs.Plain.{long_plain}
use Rattle.wfe_record_words.specs.HeaderReader.{exactly}
use Rattle.wfe_record.specs.Entry.{IsEntry}
use Rattle.wfe_record.specs.Reader.{entry_in}
use Rattle.wfe_record.proofs.Entries.{entry_known, entry_read}
use Rattle.wfe_check_lines.specs.Kinds.{counted_in, counts, end_reason_in, ending, entry_kind, kind_by, kind_in, named_by, reason_in, refusal, row, seat_reason_in}
use Rattle.wfe_check_lines.specs.Texts.{IsCounted, IsCounts, IsKind, IsRefusal, IsRow, KindsAreTexts}
use Rattle.wfe_check_lines.specs.declared.kind.Kind.{Kind}
use Rattle.wfe_check_lines.specs.declared.kind.Kind.TheVariants as kinds

-- The words of a line, and its text.

-- a text by its words
text_by : (bytes w : List ℕ) (ws : List (List ℕ)) → words bytes ≡ w ∷ ws → w ++ spaced ws ++ codes "\n" ≡ bytes ++ codes "\n"
text_by bytes w ws e = ap (λ t. t ++ codes "\n") (sym (line_by_words bytes w ws e))

-- the words of a text
words_of : (bytes w : List ℕ) (ws : List (List ℕ)) → lacks 32 w ≡ true → Plain ws → w ++ spaced ws ++ codes "\n" ≡ bytes ++ codes "\n" → words bytes ≡ w ∷ ws
words_of bytes w ws plain others text =
    ap words (sym (append_cancel_right (w ++ spaced ws) bytes (codes "\n") text)) ∙ words_by_line w ws plain others

-- What single words say.

some_is : {A : Type 0} (x y : A) → Some x ≡ Some y → x ≡ y
some_is x y e = cc

-- what is said of a word that was read, and of the words after it, is said of all
word_then : {A C : Type 0} (read : List ℕ → Option A) (ws : List (List ℕ)) (f : A × List (List ℕ) → Option C) (y : C) (P : List (List ℕ) → Type 0)
    → given (word read ws) f ≡ Some y → ((w : List ℕ) (x : A) (vs : List (List ℕ)) → read w ≡ Some x → f (x, vs) ≡ Some y → P (w ∷ vs)) → P ws
word_then read [] f y P h later = absurd (cc)
word_then read (w ∷ ws) f y P h later =
    let (p, e, h1) = given-some (word read (w ∷ ws)) f y h in
    let (x, found, same) = given-some (read w) (λ x. Some (x, ws)) p e in
    later w x ws found (ap f (some_is (x, ws) p same) ∙ h1)

-- a value that all words say is said by them, and none is left
whole_is : {A : Type 0} (o : Option (A × List (List ℕ))) (x : A) → whole o ≡ Some x → o ≡ Some (x, [])
whole_is None x h = absurd (cc)
whole_is (Some (y, [])) x h = ap (λ z. Some (z, [])) (some_is y x h)
whole_is (Some (y, w ∷ ws)) x h = absurd (cc)

first_is : (ws : List (List ℕ)) (p : List ℕ × List (List ℕ)) → first ws ≡ Some p → ws ≡ p.0 ∷ p.1
first_is [] p h = absurd (cc)
first_is (w ∷ ws) p h = let same : (w, ws) ≡ p = some_is (w, ws) p h in rw (sym same) refl

exactly-sound : (name w : List ℕ) (u : Unit {0}) → exactly name w ≡ Some u → w ≡ name
unfolding exactly
exactly-sound name w u h = chosen {A = Unit {0}} (λ v. w ≡ name) (bytes_eq w name) (Some tt) None (λ t v f. (bytes_eq-Decides w name).0 t) (λ v f. absurd (cc)) u h

any-read : (n : ℕ) → NumberFits n → any_number (decimal n) ≡ Some n
unfolding any_number
any-read n fits = number_in-decimal n fits

not-by : (w name : List ℕ) (n : ℕ) (same : Bool) → bytes_eq w name ≡ same → w ≡ decimal n → n < 2 ^ 64 → number_in name ≡ None → same ≡ false
not-by w name n false e is fits none = refl
not-by w name n true e is fits none =
    let text : decimal n ≡ name = sym is ∙ (bytes_eq-Decides w name).0 e in
    let read : Some n ≡ None = sym (number_in-decimal n fits) ∙ ap number_in text ∙ none in
    absurd (cc)

-- a number is written as no name is
not_name : (w name : List ℕ) (n : ℕ) → w ≡ decimal n → n < 2 ^ 64 → number_in name ≡ None → bytes_eq w name ≡ false
not_name w name n is fits none = not-by w name n (bytes_eq w name) refl is fits none

-- Lines of counts.

counted-sound : (w : List ℕ) (u : Unit {0}) → counted_in w ≡ Some u → (seat : Option ℕ) × (w ≡ seat_word seat) × IsCounted seat
unfolding counted_in
counted-sound w u h =
    chosen {A = Unit {0}} (λ v. (seat : Option ℕ) × (w ≡ seat_word seat) × IsCounted seat) (bytes_eq w (codes "all")) (Some tt) (given (any_number w) (λ s. Some tt))
    (λ t v f. (None, (bytes_eq-Decides w (codes "all")).0 t, tt))
    (λ v f.
    let (s, e, f1) = given-some (any_number w) (λ s. Some tt) v f in
    let (text, fits) = any-word w s e in
    (Some s, text, fits)) u h

counted-read : (seat : Option ℕ) → IsCounted seat → counted_in (seat_word seat) ≡ Some tt
unfolding counted_in
counted-read None is = refl
counted-read (Some s) is = rw (not_name (decimal s) (codes "all") s refl is refl, any-read s is) refl

abbrev table_words : Option ℕ → ℕ → ℕ → ℕ → List (List ℕ)
table_words seat retired back waiting = seat_word seat ∷ codes "retired" ∷ decimal retired ∷ codes "back" ∷ decimal back ∷ codes "waiting" ∷ decimal waiting ∷ []

table-words : (seat : Option ℕ) (retired back waiting : ℕ) (w0 w1 w3 w5 : List ℕ) (rest : List (List ℕ)) → w0 ≡ seat_word seat → w1 ≡ codes "retired" → w3 ≡ codes "back" → w5 ≡ codes "waiting" → rest ≡ []
    → w0 ∷ w1 ∷ decimal retired ∷ w3 ∷ decimal back ∷ w5 ∷ decimal waiting ∷ rest ≡ table_words seat retired back waiting
table-words seat retired back waiting w0 w1 w3 w5 rest e0 e1 e3 e5 none = rw (e0, e1, e3, e5, none) refl

record CountsAt (ws : List (List ℕ)) (kind : Kind) : Type 0 where
  seat : Option ℕ
  retired : ℕ
  back : ℕ
  waiting : ℕ
  are : ws ≡ table_words seat retired back waiting
  seated : IsCounted seat
  retired_fits : NumberFits retired
  back_fits : NumberFits back
  waiting_fits : NumberFits waiting
  is : kinds.Shown ≡ kind

counts-sound : (ws : List (List ℕ)) (kind : Kind) → counts ws ≡ Some (kind, []) → CountsAt ws kind
counts-sound ws kind h =
    word_then counted_in ws _ (kind, []) (λ v. CountsAt v kind) h (λ w0 u0 v0 e0 h0.
    word_then (exactly (codes "retired")) v0 _ (kind, []) (λ v. CountsAt (w0 ∷ v) kind) h0 (λ w1 u1 v1 e1 h1.
    then_sound long_reads v1 _ (kind, []) (λ v. CountsAt (w0 ∷ w1 ∷ v) kind) h1 (λ retired v2 i2 h2.
    word_then (exactly (codes "back")) v2 _ (kind, []) (λ v. CountsAt (w0 ∷ w1 ∷ decimal retired ∷ v) kind) h2 (λ w3 u3 v3 e3 h3.
    then_sound long_reads v3 _ (kind, []) (λ v. CountsAt (w0 ∷ w1 ∷ decimal retired ∷ w3 ∷ v) kind) h3 (λ back v4 i4 h4.
    word_then (exactly (codes "waiting")) v4 _ (kind, []) (λ v. CountsAt (w0 ∷ w1 ∷ decimal retired ∷ w3 ∷ decimal back ∷ v) kind) h4 (λ w5 u5 v5 e5 h5.
    then_sound long_reads v5 _ (kind, []) (λ v. CountsAt (w0 ∷ w1 ∷ decimal retired ∷ w3 ∷ decimal back ∷ w5 ∷ v) kind) h5 (λ waiting v6 i6 h6.
    let (seat, is, seated) = counted-sound w0 u0 e0 in
    let (same, none) = same_found h6 in
    record {
      seat = seat;
      retired = retired;
      back = back;
      waiting = waiting;
      are = table-words seat retired back waiting w0 w1 w3 w5 v6 is (exactly-sound (codes "retired") w1 u1 e1) (exactly-sound (codes "back") w3 u3 e3) (exactly-sound (codes "waiting") w5 u5 e5) none;
      seated = seated;
      retired_fits = i2;
      back_fits = i4;
      waiting_fits = i6;
      is = same;
    })))))))

table-sound : (version : ℕ) (config : Config) (bytes name : List ℕ) (rest : List (List ℕ)) → words bytes ≡ name ∷ rest → name ≡ codes "table" → (kind : Kind) → whole (counts rest) ≡ Some kind → IsKind version config bytes kind
table-sound version config bytes name rest e is kind h =
    let found = counts-sound rest kind (whole_is (counts rest) kind h) in
    subst (IsKind version config bytes) found.is (inl (record {
      seat = found.seat;
      retired = found.retired;
      back = found.back;
      waiting = found.waiting;
      text = text_by bytes (codes "table") (table_words found.seat found.retired found.back found.waiting) (e ∙ ap (λ v. v ∷ rest) is ∙ ap (λ vs. codes "table" ∷ vs) found.are);
      seated = found.seated;
      retired_fits = found.retired_fits;
      back_fits = found.back_fits;
      waiting_fits = found.waiting_fits;
    }))

counted-plain : (seat : Option ℕ) → IsCounted seat → lacks 32 (seat_word seat) ≡ true
counted-plain None is = refl
counted-plain (Some s) is = long_plain s is

table-words-known : (version : ℕ) (config : Config) (seat : Option ℕ) (retired back waiting : ℕ) → IsCounted seat → NumberFits retired → NumberFits back → NumberFits waiting
    → kind_in version config (codes "table" ∷ table_words seat retired back waiting) ≡ Some kinds.Shown
unfolding kind_by exactly
table-words-known version config seat retired back waiting seated fits1 fits2 fits3 =
    rw (counted-read seat seated, any-read retired fits1, any-read back fits2, any-read waiting fits3) refl

table-known : (version : ℕ) (config : Config) (bytes : List ℕ) → IsCounts bytes → kind_in version config (words bytes) ≡ Some kinds.Shown
table-known version config bytes is =
    let e = words_of bytes (codes "table") (table_words is.seat is.retired is.back is.waiting) refl
    (counted-plain is.seat is.seated, (refl, (long_plain is.retired is.retired_fits, (refl, (long_plain is.back is.back_fits, (refl, (long_plain is.waiting is.waiting_fits, tt))))))) is.text in
    ap (kind_in version config) e ∙ table-words-known version config is.seat is.retired is.back is.waiting is.seated is.retired_fits is.back_fits is.waiting_fits

-- Lines of a watcher's row.

abbrev row_words : ℕ → ℕ → ℕ → ℕ → List (List ℕ)
row_words place a b c = decimal place ∷ decimal a ∷ decimal b ∷ decimal c ∷ []

record RowAt (ws : List (List ℕ)) (kind : Kind) : Type 0 where
  place : ℕ
  a : ℕ
  b : ℕ
  c : ℕ
  are : ws ≡ row_words place a b c
  place_fits : NumberFits place
  a_fits : NumberFits a
  b_fits : NumberFits b
  c_fits : NumberFits c
  is : kinds.Shown ≡ kind

row-sound : (ws : List (List ℕ)) (kind : Kind) → row ws ≡ Some (kind, []) → RowAt ws kind
row-sound ws kind h =
    then_sound long_reads ws _ (kind, []) (λ v. RowAt v kind) h (λ place v0 i0 h0.
    then_sound long_reads v0 _ (kind, []) (λ v. RowAt (decimal place ∷ v) kind) h0 (λ a v1 i1 h1.
    then_sound long_reads v1 _ (kind, []) (λ v. RowAt (decimal place ∷ decimal a ∷ v) kind) h1 (λ b v2 i2 h2.
    then_sound long_reads v2 _ (kind, []) (λ v. RowAt (decimal place ∷ decimal a ∷ decimal b ∷ v) kind) h2 (λ c v3 i3 h3.
    let (same, none) = same_found h3 in
    record {
      place = place;
      a = a;
      b = b;
      c = c;
      are = rw none refl;
      place_fits = i0;
      a_fits = i1;
      b_fits = i2;
      c_fits = i3;
      is = same;
    }))))

watch-sound : (version : ℕ) (config : Config) (bytes name : List ℕ) (rest : List (List ℕ)) → words bytes ≡ name ∷ rest → name ≡ codes "watch" → (kind : Kind) → whole (row rest) ≡ Some kind → IsKind version config bytes kind
watch-sound version config bytes name rest e is kind h =
    let found = row-sound rest kind (whole_is (row rest) kind h) in
    subst (IsKind version config bytes) found.is (inr (record {
      place = found.place;
      a = found.a;
      b = found.b;
      c = found.c;
      text = text_by bytes (codes "watch") (row_words found.place found.a found.b found.c) (e ∙ ap (λ v. v ∷ rest) is ∙ ap (λ vs. codes "watch" ∷ vs) found.are);
      place_fits = found.place_fits;
      a_fits = found.a_fits;
      b_fits = found.b_fits;
      c_fits = found.c_fits;
    }))

row-words-known : (version : ℕ) (config : Config) (place a b c : ℕ) → NumberFits place → NumberFits a → NumberFits b → NumberFits c → kind_in version config (codes "watch" ∷ row_words place a b c) ≡ Some kinds.Shown
unfolding kind_by
row-words-known version config place a b c fits0 fits1 fits2 fits3 = rw (any-read place fits0, any-read a fits1, any-read b fits2, any-read c fits3) refl

watch-known : (version : ℕ) (config : Config) (bytes : List ℕ) → IsRow bytes → kind_in version config (words bytes) ≡ Some kinds.Shown
watch-known version config bytes is =
    let e = words_of bytes (codes "watch") (row_words is.place is.a is.b is.c) refl
    (long_plain is.place is.place_fits, (long_plain is.a is.a_fits, (long_plain is.b is.b_fits, (long_plain is.c is.c_fits, tt)))) is.text in
    ap (kind_in version config) e ∙ row-words-known version config is.place is.a is.b is.c is.place_fits is.a_fits is.b_fits is.c_fits

-- Last lines.

done-sound : (version : ℕ) (config : Config) (bytes name : List ℕ) (rest : List (List ℕ)) → words bytes ≡ name ∷ rest → name ≡ codes "done" → (kind : Kind) → whole (ending rest) ≡ Some kind → IsKind version config bytes kind
done-sound version config bytes name rest e is kind h =
    let (same, none) = same_found (whole_is (ending rest) kind h) in
    subst (IsKind version config bytes) same (inl (line_by_words bytes (codes "done") [] (e ∙ ap (λ v. v ∷ rest) is ∙ ap (λ vs. codes "done" ∷ vs) none)))

done-known : (version : ℕ) (config : Config) (bytes : List ℕ) → bytes ≡ codes "done" → kind_in version config (words bytes) ≡ Some kinds.Last
unfolding kind_by
done-known version config bytes is = rw is refl

abbrev Reasoned : List ℕ → Unit {0} → Type 0
Reasoned w u = (reason : Reason) × (w ≡ reason_word reason)

reason-or : (w : List ℕ) (reason : Reason) (other : Option (Unit {0})) → ((u : Unit {0}) → other ≡ Some u → Reasoned w u) → (u : Unit {0}) → (if bytes_eq w (reason_word reason) then Some tt else other) ≡ Some u → Reasoned w u
reason-or w reason other later u h = chosen {A = Unit {0}} (Reasoned w) (bytes_eq w (reason_word reason)) (Some tt) other (λ t v f. (reason, (bytes_eq-Decides w (reason_word reason)).0 t)) later u h

reason-sound : (w : List ℕ) (u : Unit {0}) → reason_in w ≡ Some u → Reasoned w u
unfolding reason_in seat_reason_in end_reason_in
reason-sound w u h =
    reason-or w reasons.First _ (reason-or w reasons.Config _ (reason-or w reasons.Form _ (reason-or w reasons.Number _ (reason-or w reasons.RunLine _
    (reason-or w reasons.Seat _ (reason-or w reasons.Range _ (reason-or w reasons.Busy _ (reason-or w reasons.LongLine _ (reason-or w reasons.LongTrace _
    (reason-or w reasons.NoEnd _ (reason-or w reasons.AfterEnd _ (reason-or w reasons.NotYet _ (reason-or w reasons.Gone None (λ v f. absurd (cc))))))))))))))) u h

reason-read : (reason : Reason) → reason_in (reason_word reason) ≡ Some tt
unfolding reason_in seat_reason_in end_reason_in
reason-read reason = search rules

reason-plain : (reason : Reason) → lacks 32 (reason_word reason) ≡ true
reason-plain reason = search rules

abbrev refusal_words : ℕ → Reason → List (List ℕ)
refusal_words line reason = decimal line ∷ reason_word reason ∷ []

refusal-words : (line : ℕ) (reason : Reason) (w : List ℕ) (rest : List (List ℕ)) → w ≡ reason_word reason → rest ≡ [] → decimal line ∷ w ∷ rest ≡ refusal_words line reason
refusal-words line reason w rest is none = rw (is, none) refl

record RefusalAt (ws : List (List ℕ)) (kind : Kind) : Type 0 where
  line : ℕ
  reason : Reason
  are : ws ≡ refusal_words line reason
  fits : NumberFits line
  is : kinds.Last ≡ kind

refusal-sound : (ws : List (List ℕ)) (kind : Kind) → refusal ws ≡ Some (kind, []) → RefusalAt ws kind
refusal-sound ws kind h =
    then_sound long_reads ws _ (kind, []) (λ v. RefusalAt v kind) h (λ line v0 i0 h0.
    word_then reason_in v0 _ (kind, []) (λ v. RefusalAt (decimal line ∷ v) kind) h0 (λ w u v1 e1 h1.
    let (reason, is) = reason-sound w u e1 in
    let (same, none) = same_found h1 in
    record { line = line; reason = reason; are = refusal-words line reason w v1 is none; fits = i0; is = same }))

bad-sound : (version : ℕ) (config : Config) (bytes name : List ℕ) (rest : List (List ℕ)) → words bytes ≡ name ∷ rest → name ≡ codes "bad" → (kind : Kind) → whole (refusal rest) ≡ Some kind → IsKind version config bytes kind
bad-sound version config bytes name rest e is kind h =
    let found = refusal-sound rest kind (whole_is (refusal rest) kind h) in
    subst (IsKind version config bytes) found.is (inr (record {
      line = found.line;
      reason = found.reason;
      text = text_by bytes (codes "bad") (refusal_words found.line found.reason) (e ∙ ap (λ v. v ∷ rest) is ∙ ap (λ vs. codes "bad" ∷ vs) found.are);
      fits = found.fits;
    }))

refusal-words-known : (version : ℕ) (config : Config) (line : ℕ) (reason : Reason) → NumberFits line → kind_in version config (codes "bad" ∷ refusal_words line reason) ≡ Some kinds.Last
unfolding kind_by
refusal-words-known version config line reason fits = rw (any-read line fits, reason-read reason) refl

bad-known : (version : ℕ) (config : Config) (bytes : List ℕ) → IsRefusal bytes → kind_in version config (words bytes) ≡ Some kinds.Last
bad-known version config bytes is =
    let e = words_of bytes (codes "bad") (refusal_words is.line is.reason) refl (long_plain is.line is.fits, (reason-plain is.reason, tt)) is.text in
    ap (kind_in version config) e ∙ refusal-words-known version config is.line is.reason is.fits

-- Lines of events.

event-sound : (version : ℕ) (config : Config) → Small config → (bytes : List ℕ) (o : Option (ℕ × Event)) → o ≡ entry_in version config (words bytes) → (kind : Kind) → entry_kind o ≡ Some kind → IsKind version config bytes kind
event-sound version config small bytes None e kind h = absurd (cc)
event-sound version config small bytes (Some x) e kind h = same_some (IsKind version config bytes) (kinds.Entry x.0 x.1) kind h (entry_read version config small bytes x (sym e))

-- a line that begins with a number is no other
numbered : (version : ℕ) (config : Config) (w : List ℕ) (n : ℕ) (rest all : List (List ℕ)) → w ≡ decimal n → n < 2 ^ 64 → kind_by version config w rest all ≡ entry_kind (entry_in version config all)
unfolding kind_by
numbered version config w n rest all is fits =
    rw (not_name w (codes "table") n is fits refl, not_name w (codes "watch") n is fits refl, not_name w (codes "done") n is fits refl, not_name w (codes "bad") n is fits refl) refl

pub seated_first : (version : ℕ) (config : Config) → Small config → (ws : List (List ℕ)) (x : ℕ × Event) → entry_in version config ws ≡ Some x → kind_in version config ws ≡ Some (kinds.Entry x.0 x.1)
seated_first version config small ws x h =
    word_then (number_below config.seats) ws _ (x, []) (λ v. entry_in version config v ≡ Some x → kind_in version config v ≡ Some (kinds.Entry x.0 x.1)) (whole_is _ x h)
    (λ w n vs e h1 g.
    let (text, less) = below-word config.seats w n e in
    let l = small.seats in
    numbered version config w n vs (w ∷ vs) text (omega arith) ∙ ap entry_kind g) h

event-known : (version : ℕ) (config : Config) → Small config → (bytes : List ℕ) (seat : ℕ) (event : Event) → IsEntry version config bytes seat event → kind_in version config (words bytes) ≡ Some (kinds.Entry seat event)
event-known version config small bytes seat event is = seated_first version config small (words bytes) (seat, event) (entry_known version config small bytes seat event is)

-- Lines of each kind.

-- a line that tells no event has the kind of its first word
pub named_kind : (version : ℕ) (config : Config) (name : List ℕ) (rest all : List (List ℕ)) → entry_in version config all ≡ None → named_by name rest ≡ kind_by version config name rest all
unfolding kind_by named_by
named_kind version config name rest all e = rw e refl

kind-by-sound : (version : ℕ) (config : Config) → Small config → (bytes name : List ℕ) (rest : List (List ℕ)) → words bytes ≡ name ∷ rest → (kind : Kind) → kind_by version config name rest (words bytes) ≡ Some kind → IsKind version config bytes kind
unfolding kind_by
kind-by-sound version config small bytes name rest e kind h =
    let P : Kind → Type 0 = IsKind version config bytes in
    chosen P (bytes_eq name (codes "table")) (whole (counts rest)) _ (λ t. table-sound version config bytes name rest e ((bytes_eq-Decides name (codes "table")).0 t))
    (chosen P (bytes_eq name (codes "watch")) (whole (row rest)) _ (λ t. watch-sound version config bytes name rest e ((bytes_eq-Decides name (codes "watch")).0 t))
    (chosen P (bytes_eq name (codes "done")) (whole (ending rest)) _ (λ t. done-sound version config bytes name rest e ((bytes_eq-Decides name (codes "done")).0 t))
    (chosen P (bytes_eq name (codes "bad")) (whole (refusal rest)) _ (λ t. bad-sound version config bytes name rest e ((bytes_eq-Decides name (codes "bad")).0 t))
    (event-sound version config small bytes (entry_in version config (words bytes)) refl)))) kind h

kind-sound : (version : ℕ) (config : Config) (bytes : List ℕ) (kind : Kind) → Small config → kind_in version config (words bytes) ≡ Some kind → IsKind version config bytes kind
kind-sound version config bytes kind small h =
    let (p, e, h1) = given-some (first (words bytes)) (λ p. kind_by version config p.0 p.1 (words bytes)) kind h in
    kind-by-sound version config small bytes p.0 p.1 (first_is (words bytes) p e) kind h1

kind-known : (version : ℕ) (config : Config) (bytes : List ℕ) (kind : Kind) → Small config → IsKind version config bytes kind → kind_in version config (words bytes) ≡ Some kind
kind-known version config bytes (kinds.Entry seat event) small is = event-known version config small bytes seat event is
kind-known version config bytes kinds.Shown small is = elim is [
  | inl counts ↦ table-known version config bytes counts
  | inr row ↦ watch-known version config bytes row
]
kind-known version config bytes kinds.Last small is = elim is [
  | inl same ↦ done-known version config bytes same
  | inr refused ↦ bad-known version config bytes refused
]

pub kinds_are_texts : KindsAreTexts
kinds_are_texts version config bytes kind small = (kind-sound version config bytes kind small, kind-known version config bytes kind small)
