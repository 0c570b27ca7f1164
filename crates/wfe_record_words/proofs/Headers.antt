-- What is read as the first line of a record, and which first lines are read.
use Rattle.std.proofs.Common.{◌≡◌, ◌<◌, ◌≤◌, ◌^◌, ◌++◌, ◌∙◌, ◌&&◌, ℕ, List, [], ◌∷◌, Bool, true, false, Option, Some, None, codes, refl, sym, ap, arith, if◌then◌else◌, nat_le}
use Rattle.std.specs.Prelude.{IfSome}
use Rattle.std.specs.Fmt.{decimal}
use Rattle.std.specs.Str.{bytes_eq}
use Rattle.std.proofs.lemmas.Bool.Decides.{nat_tests}
use Rattle.std.proofs.lemmas.List.{append_cancel_right}
use Rattle.std.proofs.lemmas.Slice.Eq.{bytes_eq-Decides}
use Rattle.wfe_words.specs.declared.config.Config.{Config}
use Rattle.wfe_words.specs.declared.config.Field.{Field}
use Rattle.wfe_words.specs.declared.config.Field.TheVariants as fields
use Rattle.wfe_words.specs.declared.config.SchemeKind.{SchemeKind}
use Rattle.wfe_words.specs.declared.config.SchemeKind.TheVariants as schemes
use Rattle.wfe_words.specs.Config.{allows, number_of, or_bad, bad_field}
use Rattle.wfe_trace.specs.Record.{spaced, scheme_word, setting_words}
use Rattle.wfe_trace.specs.Setting.{pairs_in, scheme_version}
use Rattle.wfe_trace.specs.Words.{words, number_in}
use Rattle.wfe_trace.proofs.Decimals.{number_in-decimal, lacks}
use Rattle.wfe_trace.proofs.EventWords.{Plain}
use Rattle.wfe_trace.proofs.Settings.{allows-pairs_in}
use Rattle.wfe_record_words.specs.declared.header.TheConstants.{LAST_VERSION}
use Rattle.wfe_record_words.specs.Header.{IsHeader}
use Rattle.wfe_record_words.specs.Reader.{given, done, word}
use Rattle.wfe_record_words.specs.HeaderReader.{scheme_in, scheme, setting_in, setting, version_in, version, config, exactly, header, header_in}
use Rattle.wfe_record_words.proofs.Joined.{Reads, given-some, word_reads, then_sound, by_value, since_found, since_known}
use Rattle.wfe_record_words.proofs.Parts.{chosen, same_some, number-word}
use Rattle.wfe_record_words.proofs.Plain.{long_plain}
use Rattle.wfe_record_words.proofs.Lines.{line_by_words, words_by_line, whole_sound, whole_found}

exactly-sound : (name w : List ℕ) (u : Unit {0}) → exactly name w ≡ Some u → (w ≡ name) × (Unit {0})
unfolding exactly
exactly-sound name w u h = chosen {A = Unit {0}} (λ v. (w ≡ name) × (Unit {0})) (bytes_eq w name) (Some tt) None (λ t v f. ((bytes_eq-Decides w name).0 t, tt)) (λ v f. absurd (cc)) u h

exactly-read : (u : Unit {0}) → Unit {0} → exactly (codes "record") (codes "record") ≡ Some u
unfolding exactly
exactly-read u i = refl

name_reads : Reads (word (exactly (codes "record"))) (λ u. codes "record" ∷ []) (λ u. Unit {0})
name_reads = word_reads (exactly (codes "record")) (λ u. codes "record") (λ u. Unit {0}) (exactly-sound (codes "record")) exactly-read

scheme-sound : (w : List ℕ) (x : SchemeKind) → scheme_in w ≡ Some x → (w ≡ scheme_word x) × (Unit {0})
unfolding scheme_in
scheme-sound w x h =
    let P : SchemeKind → Type 0 = λ s. (w ≡ scheme_word s) × (Unit {0}) in
    chosen P (bytes_eq w (codes "he")) (Some schemes.He) _ (λ t y f. same_some P schemes.He y f ((bytes_eq-Decides w (codes "he")).0 t, tt))
    (chosen P (bytes_eq w (codes "ibr")) (Some schemes.Ibr) _ (λ t y f. same_some P schemes.Ibr y f ((bytes_eq-Decides w (codes "ibr")).0 t, tt))
    (chosen P (bytes_eq w (codes "wfe")) (Some schemes.Wfe) _ (λ t y f. same_some P schemes.Wfe y f ((bytes_eq-Decides w (codes "wfe")).0 t, tt))
    (chosen P (bytes_eq w (codes "hp")) (Some schemes.Hp) None (λ t y f. same_some P schemes.Hp y f ((bytes_eq-Decides w (codes "hp")).0 t, tt)) (λ y f. absurd (cc))))) x h

scheme-read : (x : SchemeKind) → scheme_in (scheme_word x) ≡ Some x
unfolding scheme_in
scheme-read schemes.He = refl
scheme-read schemes.Ibr = refl
scheme-read schemes.Wfe = refl
scheme-read schemes.Hp = refl

scheme_reads : Reads scheme (λ s. scheme_word s ∷ []) (λ s. Unit {0})
scheme_reads = word_reads scheme_in scheme_word (λ s. Unit {0}) scheme-sound (λ x i. scheme-read x)

-- a number that a test lets through
tested-sound : (test : ℕ → Bool) (w : List ℕ) (n : ℕ) → given (number_in w) (λ n. if test n then Some n else None) ≡ Some n → (w ≡ decimal n) × (test n ≡ true)
tested-sound test w n h =
    let P : ℕ → Type 0 = λ k. (w ≡ decimal k) × (test k ≡ true) in
    let (m, e, h1) = given-some (number_in w) (λ n. if test n then Some n else None) n h in
    chosen P (test m) (Some m) None (λ t k f. same_some P m k f ((number-word w m e).0, t)) (λ k f. absurd (cc)) n h1

-- each number in its range has 64 bits
allowed_small : (field : Field) (n : ℕ) → allows field n ≡ true → n < 2 ^ 64
allowed_small fields.Seats n a = grind (arith, nat_tests)
allowed_small fields.Indexes n a = grind (arith, nat_tests)
allowed_small fields.Slots n a = grind (arith, nat_tests)
allowed_small fields.Buckets n a = grind (arith, nat_tests)
allowed_small fields.Tries n a = grind (arith, nat_tests)
allowed_small fields.Every n a = grind (arith, nat_tests)
allowed_small fields.LastEra n a = grind (arith, nat_tests)
allowed_small fields.LastVersion n a = grind (arith, nat_tests)
allowed_small fields.Pairs n a = grind (arith, nat_tests)

setting-read : (field : Field) (n : ℕ) → allows field n ≡ true → setting_in field (decimal n) ≡ Some n
unfolding setting_in
setting-read field n a = rw (number_in-decimal n (allowed_small field n a), a) refl

setting-sound : (field : Field) (w : List ℕ) (n : ℕ) → setting_in field w ≡ Some n → (w ≡ decimal n) × (allows field n ≡ true)
unfolding setting_in
setting-sound field w n h = tested-sound (allows field) w n h

setting_reads : (field : Field) → Reads (setting field) (λ n. decimal n ∷ []) (λ n. allows field n ≡ true)
setting_reads field = word_reads (setting_in field) decimal (λ n. allows field n ≡ true) (setting-sound field) (setting-read field)

abbrev is_version : ℕ → Bool
is_version n = nat_le 1 n && nat_le n LAST_VERSION

version-sound : (w : List ℕ) (n : ℕ) → version_in w ≡ Some n → (w ≡ decimal n) × ((1 ≤ n) × (n ≤ LAST_VERSION))
unfolding version_in
version-sound w n h = let (text, is) = tested-sound is_version w n h in (text, (grind (arith, nat_tests), grind (arith, nat_tests)))

version-read : (n : ℕ) → (1 ≤ n) × (n ≤ LAST_VERSION) → version_in (decimal n) ≡ Some n
unfolding version_in
version-read n is =
    let least : nat_le 1 n ≡ true = let l = is.0 in grind (arith, nat_tests) in
    let most : nat_le n LAST_VERSION ≡ true = let l = is.1 in grind (arith, nat_tests) in
    let fits : n < 2 ^ 64 = let l = is.1 in omega arith in
    rw (number_in-decimal n fits, least, most) refl

version_reads : Reads version (λ n. decimal n ∷ []) (λ n. (1 ≤ n) × (n ≤ LAST_VERSION))
version_reads = word_reads version_in decimal (λ n. (1 ≤ n) × (n ≤ LAST_VERSION)) version-sound version-read

good-by : (c : Config) (field : Field) (later : Option Field) (good : Bool) → allows field (number_of c field) ≡ good → (if good then later else Some field) ≡ None → (allows field (number_of c field) ≡ true) × (later ≡ None)
good-by c field later true e h = (e, h)
good-by c field later false e h = absurd (cc)

good : (c : Config) (field : Field) (later : Option Field) → or_bad c field later ≡ None → (allows field (number_of c field) ≡ true) × (later ≡ None)
good c field later h = good-by c field later (allows field (number_of c field)) refl h

pub record Ranges (c : Config) : Type 0 where
  pub seats : allows fields.Seats c.seats ≡ true
  pub indexes : allows fields.Indexes c.indexes ≡ true
  pub slots : allows fields.Slots c.slots ≡ true
  pub buckets : allows fields.Buckets c.buckets ≡ true
  pub tries : allows fields.Tries c.tries ≡ true
  pub every : allows fields.Every c.every ≡ true
  pub last_era : allows fields.LastEra c.last_era ≡ true
  pub last_version : allows fields.LastVersion c.last_version ≡ true

ranges : (c : Config) → bad_field c ≡ None → Ranges c
ranges c h =
    let (a1, h1) = good c fields.Seats _ h in
    let (a2, h2) = good c fields.Indexes _ h1 in
    let (a3, h3) = good c fields.Slots _ h2 in
    let (a4, h4) = good c fields.Buckets _ h3 in
    let (a5, h5) = good c fields.Tries _ h4 in
    let (a6, h6) = good c fields.Every _ h5 in
    let (a7, h7) = good c fields.LastEra _ h6 in
    let (a8, h8) = good c fields.LastVersion _ h7 in
    record { seats = a1; indexes = a2; slots = a3; buckets = a4; tries = a5; every = a6; last_era = a7; last_version = a8 }

abbrev IsSetting : ℕ → Config → Type 0
IsSetting pairs c = (bad_field c ≡ None) × (c.pairs ≡ pairs)

config-read : (pairs : ℕ) (c : Config) (rest : List (List ℕ)) → IsSetting pairs c → config pairs (setting_words c ++ rest) ≡ Some (c, rest)
config-read pairs c rest is =
    let r = ranges c is.0 in
    rw (
      scheme-read c.scheme,
      setting-read fields.Seats c.seats r.seats,
      setting-read fields.Indexes c.indexes r.indexes,
      setting-read fields.Slots c.slots r.slots,
      setting-read fields.Buckets c.buckets r.buckets,
      setting-read fields.Tries c.tries r.tries,
      setting-read fields.Every c.every r.every,
      setting-read fields.LastEra c.last_era r.last_era,
      setting-read fields.LastVersion c.last_version r.last_version,
      sym is.1,
    ) refl

ranged : (c : Config) → Ranges c → allows fields.Pairs c.pairs ≡ true → bad_field c ≡ None
ranged c r pairs = rw (r.seats, r.indexes, r.slots, r.buckets, r.tries, r.every, r.last_era, r.last_version, pairs) refl

-- so the words that are left belong to the setting
abbrev Left : ℕ → Config × List (List ℕ) → (List (List ℕ) → List (List ℕ)) → List (List ℕ) → Type 0
Left pairs found before ws = (before ws ≡ setting_words found.0 ++ found.1) × IsSetting pairs found.0

config-sound : (pairs : ℕ) → allows fields.Pairs pairs ≡ true → (ws : List (List ℕ)) (c : Config) (rest : List (List ℕ)) → config pairs ws ≡ Some (c, rest) → (ws ≡ setting_words c ++ rest) × IsSetting pairs c
config-sound pairs allowed ws c rest h =
    then_sound scheme_reads ws _ (c, rest) (Left pairs (c, rest) (λ v. v)) h (λ kind v0 i0 h0.
    then_sound (setting_reads fields.Seats) v0 _ (c, rest) (Left pairs (c, rest) (λ v. scheme_word kind ∷ v)) h0 (λ seats v1 i1 h1.
    then_sound (setting_reads fields.Indexes) v1 _ (c, rest) (Left pairs (c, rest) (λ v. scheme_word kind ∷ decimal seats ∷ v)) h1 (λ indexes v2 i2 h2.
    then_sound (setting_reads fields.Slots) v2 _ (c, rest) (Left pairs (c, rest) (λ v. scheme_word kind ∷ decimal seats ∷ decimal indexes ∷ v)) h2 (λ slots v3 i3 h3.
    then_sound (setting_reads fields.Buckets) v3 _ (c, rest) (Left pairs (c, rest) (λ v. scheme_word kind ∷ decimal seats ∷ decimal indexes ∷ decimal slots ∷ v)) h3 (λ buckets v4 i4 h4.
    then_sound (setting_reads fields.Tries) v4 _ (c, rest) (Left pairs (c, rest) (λ v. scheme_word kind ∷ decimal seats ∷ decimal indexes ∷ decimal slots ∷ decimal buckets ∷ v)) h4 (λ tries v5 i5 h5.
    then_sound (setting_reads fields.Every) v5 _ (c, rest) (Left pairs (c, rest) (λ v. scheme_word kind ∷ decimal seats ∷ decimal indexes ∷ decimal slots ∷ decimal buckets ∷ decimal tries ∷ v)) h5 (λ every v6 i6 h6.
    then_sound (setting_reads fields.LastEra) v6 _ (c, rest) (Left pairs (c, rest) (λ v. scheme_word kind ∷ decimal seats ∷ decimal indexes ∷ decimal slots ∷ decimal buckets ∷ decimal tries ∷ decimal every ∷ v)) h6 (λ last_era v7 i7 h7.
    then_sound (setting_reads fields.LastVersion) v7 _ (c, rest) (Left pairs (c, rest) (λ v. scheme_word kind ∷ decimal seats ∷ decimal indexes ∷ decimal slots ∷ decimal buckets ∷ decimal tries ∷ decimal every ∷ decimal last_era ∷ v)) h7 (λ last_version v8 i8 h8.
    let made : Config = record { scheme = kind; seats = seats; indexes = indexes; slots = slots; buckets = buckets; tries = tries; every = every; last_era = last_era; last_version = last_version; pairs = pairs } in
    by_value setting_words (IsSetting pairs) made c (scheme_word kind ∷ decimal seats ∷ decimal indexes ∷ decimal slots ∷ decimal buckets ∷ decimal tries ∷ decimal every ∷ decimal last_era ∷ decimal last_version ∷ v8) v8 rest h8 (refl, (ranged made (record { seats = i1; indexes = i2; slots = i3; buckets = i4; tries = i5; every = i6; last_era = i7; last_version = i8 }) allowed, refl)))))))))))

config_reads : (pairs : ℕ) → allows fields.Pairs pairs ≡ true → Reads (config pairs) setting_words (IsSetting pairs)
config_reads pairs allowed = record { sound = config-sound pairs allowed; complete = config-read pairs }

abbrev header_words : ℕ × Config → List (List ℕ)
header_words x = codes "record" ∷ decimal x.0 ∷ setting_words x.1

abbrev IsIn : ℕ × Config → Type 0
IsIn x = ((1 ≤ x.0) × (x.0 ≤ LAST_VERSION)) × IsSetting (pairs_in x.0) x.1 × (scheme_version x.1.scheme ≤ x.0)

header-sound : (ws : List (List ℕ)) (x : ℕ × Config) (rest : List (List ℕ)) → header ws ≡ Some (x, rest) → (ws ≡ header_words x ++ rest) × IsIn x
header-sound ws x rest h =
    then_sound name_reads ws _ (x, rest) (λ v. (v ≡ header_words x ++ rest) × IsIn x) h
    (λ u v0 i0 h0. then_sound version_reads v0 _ (x, rest) (λ v. (codes "record" ∷ v ≡ header_words x ++ rest) × IsIn x) h0
    (λ n v1 i1 h1. then_sound (config_reads (pairs_in n) (allows-pairs_in n)) v1 _ (x, rest) (λ v. (codes "record" ∷ decimal n ∷ v ≡ header_words x ++ rest) × IsIn x) h1
    (λ c v2 i2 h2.
    let (l, h3) = since_known (scheme_version c.scheme) n (done (n, c)) v2 (x, rest) h2 in
    by_value header_words IsIn (n, c) x (codes "record" ∷ decimal n ∷ (setting_words c ++ v2)) v2 rest h3 (refl, (i1, i2, l)))))

header-complete : (x : ℕ × Config) (rest : List (List ℕ)) → IsIn x → header (header_words x ++ rest) ≡ Some (x, rest)
header-complete x rest is = rw (exactly-read tt tt, version-read x.0 is.0, config-read (pairs_in x.0) x.1 rest is.1, since_found (scheme_version x.1.scheme) x.0 (done x) rest is.2) refl

header_reads : Reads header header_words IsIn
header_reads = record { sound = header-sound; complete = header-complete }

-- what is read is the first line
pub header_read : (bytes : List ℕ) (x : ℕ × Config) → header_in (words bytes) ≡ Some x → IsHeader bytes x.0 x.1
header_read bytes x h =
    let (same, is) = whole_sound header_reads (words bytes) x h in
    record {
      text = ap (λ t. t ++ codes "\n") (sym (line_by_words bytes (codes "record") (decimal x.0 ∷ setting_words x.1) same));
      first = is.0.0;
      last = is.0.1;
      within = is.1.0;
      pairs = is.1.1;
      known = is.2;
    }

scheme-plain : (s : SchemeKind) → lacks 32 (scheme_word s) ≡ true
scheme-plain schemes.He = refl
scheme-plain schemes.Ibr = refl
scheme-plain schemes.Wfe = refl
scheme-plain schemes.Hp = refl

setting-plain : (c : Config) → bad_field c ≡ None → Plain (setting_words c)
setting-plain c h =
    let r = ranges c h in
    let plain = λ (field : Field) (n : ℕ) (a : allows field n ≡ true). long_plain n (allowed_small field n a) in (
      scheme-plain c.scheme,
      (
        plain fields.Seats c.seats r.seats,
        (
          plain fields.Indexes c.indexes r.indexes,
          (
            plain fields.Slots c.slots r.slots,
            (
              plain fields.Buckets c.buckets r.buckets,
              (plain fields.Tries c.tries r.tries, (plain fields.Every c.every r.every, (plain fields.LastEra c.last_era r.last_era, (plain fields.LastVersion c.last_version r.last_version, tt)))),
            ),
          ),
        ),
      ),
    )

-- and a first line is read
pub header_known : (bytes : List ℕ) (number : ℕ) (c : Config) → IsHeader bytes number c → header_in (words bytes) ≡ Some (number, c)
header_known bytes number c is =
    let most = is.last in
    let fits : number < 2 ^ 64 = omega arith in
    let text : codes "record" ++ spaced (decimal number ∷ setting_words c) ≡ bytes = append_cancel_right (codes "record" ++ spaced (decimal number ∷ setting_words c)) bytes (codes "\n") is.text in
    let found : words bytes ≡ header_words (number, c) =
    ap words (sym text) ∙ words_by_line (codes "record") (decimal number ∷ setting_words c) refl (long_plain number fits, setting-plain c is.within) in
    ap header_in found ∙ whole_found header_reads (number, c) ((is.first, is.last), (is.within, is.pairs), is.known)

pub read_if : (bytes : List ℕ) (o : Option (ℕ × Config)) → o ≡ header_in (words bytes) → IfSome o (λ x. IsHeader bytes x.0 x.1)
read_if bytes None e = tt
read_if bytes (Some x) e = header_read bytes x (sym e)
