-- What single words say, and which words say it.
use Rattle.std.proofs.Common.{◌≡◌, ◌<◌, ◌≤◌, ◌+◌, ◌^◌, ◌==◌, ◌++◌, ◌∙◌, ◌&&◌, ℕ, Bool, true, false, List, [], ◌∷◌, Option, Some, None, codes, length, get_or, refl, sym, ap, arith, rules, append_assoc, if◌then◌else◌, nat_lt}
use Rattle.std.specs.Fmt.{decimal}
use Rattle.std.specs.List.{list_all}
use Rattle.std.specs.Str.{bytes_eq}
use Rattle.std.proofs.lemmas.Bool.Decides.{nat_tests}
use Rattle.std.proofs.lemmas.Slice.Eq.{bytes_eq-Decides}
use Rattle.std.proofs.lemmas.Fmt.{decimal-digits_value}
use Rattle.std.proofs.lemmas.Str.Parse.{IsNumeralModel, numerals_by_fold}
use Rattle.wfe_words.specs.declared.config.Config.{Config}
use Rattle.wfe_defs.specs.declared.lifetime.Interval.{Interval}
use Rattle.wfe_defs.specs.declared.event.Guard.{Guard}
use Rattle.wfe_defs.specs.declared.event.Guard.TheVariants as guards
use Rattle.wfe_defs.specs.declared.event.Root.{Root}
use Rattle.wfe_defs.specs.declared.event.Root.TheVariants as roots
use Rattle.wfe_trace.specs.Fits.{NumberFits, ValueFits}
use Rattle.wfe_trace.specs.Record.{guard_word, root_word, span_words, value_words}
use Rattle.wfe_trace.specs.Words.{is_digit, value_of, is_shortest, digits_in, number_in}
use Rattle.wfe_trace.proofs.Decimals.{number_in-decimal, lacks, lacks-decimal}
use Rattle.wfe_trace.proofs.Numerals.{value_from}
use Rattle.wfe_record_words.specs.Within.{IsShort, Small, IsSeat, IsIndex, IsSlot, IsBucket, IsGuard, IsShown, IsSpan, IsRoot}
use Rattle.wfe_record_words.specs.Reader.{given, any_number, number_below, long, two, done, below, short, seat, index, slot, bucket, value_in, value, shown_in, shown, span_from, span, cut, index_guard, guard_in, guard, numbered_root, root_in, root}
use Rattle.wfe_record_words.proofs.Cuts.{cut_parts, cut-apart}
use Rattle.wfe_record_words.proofs.Joined.{Reads, given-some, word_reads, reads_as, then_sound}

model : IsNumeralModel (λ ds. list_all is_digit ds ≡ true) (value_from 0)
model = numerals_by_fold _ (search rules) value_from (search rules)

first_zero : (w : List ℕ) → is_shortest w ≡ true → get_or w 0 0 ≡ 48 → length w ≡ 1
first_zero [] s z = absurd (cc)
first_zero (c ∷ []) s z = refl
first_zero (c ∷ d ∷ w) s z = grind (arith, nat_tests)

some_byte : (w : List ℕ) → is_shortest w ≡ true → 0 < length w
some_byte [] s = absurd (cc)
some_byte (c ∷ w) s = omega arith

digits-number : (w : List ℕ) (n : ℕ) (digits fits : Bool) → list_all is_digit w ≡ digits → nat_lt (value_of w) 18446744073709551616 ≡ fits → is_shortest w ≡ true
    → (if digits && fits then Some (value_of w) else None) ≡ Some n → (w ≡ decimal n) × (n < 2 ^ 64)
digits-number w n true true d f s h =
    let same : value_of w ≡ n = cc in
    let small : value_of w < 2 ^ 64 = grind (arith, nat_tests) in
    let text : decimal (value_of w) ≡ w = decimal-digits_value model w d (some_byte w s) (first_zero w s) small in
    (sym text ∙ ap decimal same, rw (sym same) small)
digits-number w n true false d f s h = absurd (cc)
digits-number w n false fits d f s h = absurd (cc)

shortest-number : (w : List ℕ) (n : ℕ) (short : Bool) → is_shortest w ≡ short → (if short then digits_in w else None) ≡ Some n → (w ≡ decimal n) × (n < 2 ^ 64)
shortest-number w n true s h = digits-number w n (list_all is_digit w) (nat_lt (value_of w) 18446744073709551616) refl refl s h
shortest-number w n false s h = absurd (cc)

-- a word that writes a number is its decimal text
pub number-word : (w : List ℕ) (n : ℕ) → number_in w ≡ Some n → (w ≡ decimal n) × NumberFits n
number-word w n h = shortest-number w n (is_shortest w) refl h

-- what is found by a test
pub chosen : {A : Type 0} (P : A → Type 0) (t : Bool) (a b : Option A) → (t ≡ true → (x : A) → a ≡ Some x → P x) → ((x : A) → b ≡ Some x → P x) → (x : A) → (if t then a else b) ≡ Some x → P x
chosen P true a b f g x h = f refl x h
chosen P false a b f g x h = g x h

pub same_some : {A : Type 0} (P : A → Type 0) (x y : A) → Some x ≡ Some y → P x → P y
same_some P x y e p = let same : x ≡ y = cc in rw (sym same) p

pub below-word : (limit : ℕ) (w : List ℕ) (n : ℕ) → number_below limit w ≡ Some n → (w ≡ decimal n) × (n < limit)
unfolding number_below
below-word limit w n h =
    let (m, e, h1) = given-some (number_in w) (λ n. if nat_lt n limit then Some n else None) n h in
    let (text, fits) = number-word w m e in
    chosen (λ k. (w ≡ decimal k) × (k < limit)) (nat_lt m limit) (Some m) None (λ t k f. same_some (λ k. (w ≡ decimal k) × (k < limit)) m k f (text, grind (arith, nat_tests))) (λ k f. absurd (cc)) n h1

pub below-read : (limit n : ℕ) → limit ≤ 2 ^ 64 → n < limit → number_below limit (decimal n) ≡ Some n
unfolding number_below
below-read limit n most less =
    let fits : n < 2 ^ 64 = omega arith in
    let small : nat_lt n limit ≡ true = grind (arith, nat_tests) in
    rw (number_in-decimal n fits, small) refl

-- the text of a number
abbrev pub digits : ℕ → List (List ℕ)
digits n = decimal n ∷ []

pub any-word : (w : List ℕ) (n : ℕ) → any_number w ≡ Some n → (w ≡ decimal n) × NumberFits n
unfolding any_number
any-word w n h = number-word w n h

any-read : (n : ℕ) → NumberFits n → any_number (decimal n) ≡ Some n
unfolding any_number
any-read n fits = number_in-decimal n fits

pub long_reads : Reads long digits NumberFits
long_reads = word_reads any_number decimal NumberFits any-word any-read

pub below_reads : (limit : ℕ) → limit ≤ 2 ^ 64 → Reads (below limit) digits (λ n. n < limit)
below_reads limit most = word_reads (number_below limit) decimal (λ n. n < limit) (below-word limit) (λ n. below-read limit n most)

pub short_reads : Reads short digits IsShort
short_reads = below_reads 4294967296 (omega arith)

pub seat_reads : (config : Config) → Small config → Reads (seat config) digits (IsSeat config)
seat_reads config small = let s = small.seats in below_reads config.seats (omega arith)

pub index_reads : (config : Config) → Small config → Reads (index config) digits (IsIndex config)
index_reads config small = let s = small.indexes in below_reads config.indexes (omega arith)

pub bucket_reads : (config : Config) → Small config → Reads (bucket config) digits (IsBucket config)
bucket_reads config small = let s = small.buckets in below_reads config.buckets (omega arith)

pub slot_reads : (config : Config) → Small config → Reads (slot config) digits (IsSlot config)
slot_reads config small =
    let s = small.slots in
    reads_as (below_reads (config.slots + 1) (omega arith)) digits (IsSlot config) (λ n. refl) (λ n l. omega arith) (λ n l. omega arith)

not_none-by : (n : ℕ) (same : Bool) → bytes_eq (decimal n) (codes "none") ≡ same → n < 2 ^ 64 → same ≡ false
not_none-by n false e fits = refl
not_none-by n true e fits =
    let text : decimal n ≡ codes "none" = (bytes_eq-Decides (decimal n) (codes "none")).0 e in
    let read : Some n ≡ None = sym (number_in-decimal n fits) ∙ ap number_in text in
    absurd (cc)

-- no number is written so
not_none : (n : ℕ) → n < 2 ^ 64 → bytes_eq (decimal n) (codes "none") ≡ false
not_none n fits = not_none-by n (bytes_eq (decimal n) (codes "none")) refl fits

abbrev value_word : Option ℕ → List ℕ
value_word None = codes "none"
value_word (Some n) = decimal n

value-word : (w : List ℕ) (v : Option ℕ) → value_in w ≡ Some v → (w ≡ value_word v) × ValueFits v
unfolding value_in
value-word w v h =
    let P : Option ℕ → Type 0 = λ v. (w ≡ value_word v) × ValueFits v in
    chosen P (bytes_eq w (codes "none")) (Some None) (given (number_in w) (λ n. Some (Some n)))
    (λ t x f. same_some P None x f ((bytes_eq-Decides w (codes "none")).0 t, tt))
    (λ x f. let (n, e, f1) = given-some (number_in w) (λ n. Some (Some n)) x f in same_some P (Some n) x f1 (number-word w n e)) v h

value-read : (v : Option ℕ) → ValueFits v → value_in (value_word v) ≡ Some v
unfolding value_in
value-read None fits = refl
value-read (Some n) fits = rw (not_none n fits, number_in-decimal n fits) refl

value-text : (v : Option ℕ) → value_word v ∷ [] ≡ value_words v
value-text None = refl
value-text (Some n) = refl

pub value_reads : Reads value value_words ValueFits
value_reads = reads_as (word_reads value_in value_word ValueFits value-word value-read) value_words ValueFits value-text (λ v f. f) (λ v f. f)

shown-word : (config : Config) (w : List ℕ) (v : Option ℕ) → shown_in config w ≡ Some v → (w ≡ value_word v) × IsShown config v
unfolding shown_in
shown-word config w v h =
    let P : Option ℕ → Type 0 = λ v. (w ≡ value_word v) × IsShown config v in
    chosen P (bytes_eq w (codes "none")) (Some None) (given (number_below (config.slots + 1) w) (λ n. Some (Some n)))
    (λ t x f. same_some P None x f ((bytes_eq-Decides w (codes "none")).0 t, tt))
    (λ x f.
    let (n, e, f1) = given-some (number_below (config.slots + 1) w) (λ n. Some (Some n)) x f in
    let (text, less) = below-word (config.slots + 1) w n e in
    same_some P (Some n) x f1 (text, omega arith)) v h

shown-read : (config : Config) → Small config → (v : Option ℕ) → IsShown config v → shown_in config (value_word v) ≡ Some v
unfolding shown_in
shown-read config small None is = refl
shown-read config small (Some n) is =
    let s = small.slots in
    let fits : n < 2 ^ 64 = omega arith in
    rw (not_none n fits, below-read (config.slots + 1) n (omega arith) (omega arith)) refl

pub shown_reads : (config : Config) → Small config → Reads (shown config) value_words (IsShown config)
shown_reads config small = reads_as (word_reads (shown_in config) value_word (IsShown config) (shown-word config) (shown-read config small)) value_words (IsShown config) value-text (λ v f. f) (λ v f. f)

interval-sound : (ws : List (List ℕ)) (q : Option Interval × List (List ℕ)) → two short short (λ lo hi. Some (record { lo = lo; hi = hi })) ws ≡ Some q → (ws ≡ span_words q.0 ++ q.1) × IsSpan q.0
interval-sound ws q h =
    then_sound short_reads ws _ q (λ v. (v ≡ span_words q.0 ++ q.1) × IsSpan q.0) h
    (λ lo v1 i1 h1. then_sound short_reads v1 _ q (λ v. (decimal lo ∷ v ≡ span_words q.0 ++ q.1) × IsSpan q.0) h1
    (λ hi v2 i2 h2. same_some (λ r. (decimal lo ∷ decimal hi ∷ v2 ≡ span_words r.0 ++ r.1) × IsSpan r.0) (Some (record { lo = lo; hi = hi }), v2) q h2 (refl, (i1, i2))))

span-by : (w : List ℕ) (ws : List (List ℕ)) (q : Option Interval × List (List ℕ)) (none : Bool) → bytes_eq w (codes "none") ≡ none
    → (if none then done {A = Option Interval} None else span_from w) ws ≡ Some q → (w ∷ ws ≡ span_words q.0 ++ q.1) × IsSpan q.0
span-by w ws q true e h = same_some (λ q. (w ∷ ws ≡ span_words q.0 ++ q.1) × IsSpan q.0) (None, ws) q h (ap (λ v. v ∷ ws) ((bytes_eq-Decides w (codes "none")).0 e), tt)
span-by w ws q false e h = interval-sound (w ∷ ws) q h

span-sound : (ws : List (List ℕ)) (x : Option Interval) (rest : List (List ℕ)) → span ws ≡ Some (x, rest) → (ws ≡ span_words x ++ rest) × IsSpan x
span-sound [] x rest h = absurd (cc)
span-sound (w ∷ ws) x rest h = span-by w ws (x, rest) (bytes_eq w (codes "none")) refl h

span-complete : (x : Option Interval) (rest : List (List ℕ)) → IsSpan x → span (span_words x ++ rest) ≡ Some (x, rest)
span-complete None rest is = refl
span-complete (Some s) rest is =
    let fits : s.lo < 2 ^ 64 = let l = is.0 in omega arith in
    rw (not_none s.lo fits, below-read 4294967296 s.lo (omega arith) is.0, below-read 4294967296 s.hi (omega arith) is.1) refl

pub span_reads : Reads span span_words IsSpan
span_reads = record { sound = span-sound; complete = span-complete }

-- a number that a word writes
below_then : {A : Type 0} (limit : ℕ) (w : List ℕ) (f : ℕ → Option A) (x : A) (R : Type 0) → given (number_below limit w) f ≡ Some x → ((n : ℕ) → w ≡ decimal n → n < limit → f n ≡ Some x → R) → R
below_then limit w f x R h later =
    let (n, e, h1) = given-some (number_below limit w) f x h in
    let (text, less) = below-word limit w n e in
    later n text less h1

with-letter : (c b : ℕ) (cs text : List ℕ) → c == b ≡ true → cs ≡ text → c ∷ cs ≡ b ∷ text
with-letter c b cs text t e = let letter : c ≡ b = grind (arith, nat_tests) in cc

-- a letter before a number
lettered : {A : Type 0} (P : A → Type 0) (c b limit : ℕ) (cs : List ℕ) (f : ℕ → A) → c == b ≡ true → ((n : ℕ) → (c ∷ cs ≡ b ∷ decimal n) → n < limit → P (f n)) → (x : A) → given (number_below limit cs) (λ n. Some (f n)) ≡ Some x → P x
lettered P c b limit cs f t is x h = below_then limit cs _ x (P x) h (λ n text less h1. same_some P (f n) x h1 (is n (with-letter c b cs (decimal n) t text) less))

indexed : (c : ℕ) (cs before after s j : List ℕ) → c == 105 ≡ true → cs ≡ before ++ 46 ∷ after → before ≡ s → after ≡ j → c ∷ cs ≡ 105 ∷ ((s ++ codes ".") ++ j)
indexed c cs before after s j t e b a =
    let text : cs ≡ (s ++ codes ".") ++ j = e ∙ ap (λ w. w ++ 46 ∷ after) b ∙ ap (λ w. s ++ 46 ∷ w) a ∙ sym (append_assoc s (codes ".") j) in
    with-letter c 105 cs ((s ++ codes ".") ++ j) t text

index-guard : (config : Config) (c : ℕ) (cs : List ℕ) → c == 105 ≡ true → (x : Guard) → index_guard config (cut 46 cs) ≡ Some x → (c ∷ cs ≡ guard_word x) × IsGuard config x
index-guard config c cs t x h =
    let P : Guard → Type 0 = λ g. (c ∷ cs ≡ guard_word g) × IsGuard config g in
    let (after, e, h1) = given-some (cut 46 cs).1 _ x h in
    below_then config.seats (cut 46 cs).0 _ x (P x) h1 (λ s is_seat seated h2.
    below_then config.indexes after _ x (P x) h2 (λ j is_index within h3.
    same_some P (guards.Index s j) x h3 (indexed c cs (cut 46 cs).0 after (decimal s) (decimal j) t (cut_parts 46 cs after e) is_seat is_index, (seated, within))))

guard-sound : (config : Config) (w : List ℕ) (x : Guard) → guard_in config w ≡ Some x → (w ≡ guard_word x) × IsGuard config x
unfolding guard_in
guard-sound config [] x h = absurd (cc)
guard-sound config (c ∷ cs) x h =
    let P : Guard → Type 0 = λ g. (c ∷ cs ≡ guard_word g) × IsGuard config g in
    chosen P (c == 104) _ _ (λ t. lettered P c 104 config.seats cs (λ s. guards.Helper s) t (λ n e l. (e, l)))
    (chosen P (c == 118) _ _ (λ t. lettered P c 118 config.seats cs (λ s. guards.Whole s) t (λ n e l. (e, l)))
    (chosen P (c == 105) (index_guard config (cut 46 cs)) None (λ t. index-guard config c cs t) (λ y f. absurd (cc)))) x h

guard-read : (config : Config) → Small config → (x : Guard) → IsGuard config x → guard_in config (guard_word x) ≡ Some x
unfolding guard_in
guard-read config small (guards.Helper s) is = let b = small.seats in rw (below-read config.seats s (omega arith) is) refl
guard-read config small (guards.Whole s) is = let b = small.seats in rw (below-read config.seats s (omega arith) is) refl
guard-read config small (guards.Index s j) is =
    let b = small.seats in let d = small.indexes in let l = is.0 in
    let apart : lacks 46 (decimal s) ≡ true = lacks-decimal 46 s (omega arith) (omega arith) in
    rw (append_assoc (decimal s) (codes ".") (decimal j), cut-apart 46 (decimal s) (decimal j) apart, below-read config.seats s (omega arith) is.0, below-read config.indexes j (omega arith) is.1) refl

pub guard_reads : (config : Config) → Small config → Reads (guard config) (λ g. guard_word g ∷ []) (IsGuard config)
guard_reads config small = word_reads (guard_in config) guard_word (IsGuard config) (guard-sound config) (guard-read config small)

numbered-root : (config : Config) (w : List ℕ) (x : Root) → numbered_root config w ≡ Some x → (w ≡ root_word x) × IsRoot config x
numbered-root config [] x h = absurd (cc)
numbered-root config (c ∷ cs) x h =
    let P : Root → Type 0 = λ r. (c ∷ cs ≡ root_word r) × IsRoot config r in
    chosen P (c == 98) _ _ (λ t. lettered P c 98 config.buckets cs (λ b. roots.Bucket b) t (λ n e l. (e, l)))
    (chosen P (c == 110) (given (number_below (config.slots + 1) cs) (λ s. Some (roots.Next s))) None (λ t. lettered P c 110 (config.slots + 1) cs (λ s. roots.Next s) t (λ n e l. (e, omega arith))) (λ y f. absurd (cc))) x h

root-sound : (config : Config) (w : List ℕ) (x : Root) → root_in config w ≡ Some x → (w ≡ root_word x) × IsRoot config x
unfolding root_in
root-sound config w x h =
    let P : Root → Type 0 = λ r. (w ≡ root_word r) × IsRoot config r in
    chosen P (bytes_eq w (codes "head")) (Some roots.Head) _ (λ t y f. same_some P roots.Head y f ((bytes_eq-Decides w (codes "head")).0 t, tt))
    (chosen P (bytes_eq w (codes "tail")) (Some roots.Tail) (numbered_root config w) (λ t y f. same_some P roots.Tail y f ((bytes_eq-Decides w (codes "tail")).0 t, tt))
    (numbered-root config w)) x h

root-read : (config : Config) → Small config → (x : Root) → IsRoot config x → root_in config (root_word x) ≡ Some x
unfolding root_in
root-read config small (roots.Bucket b) is = let m = small.buckets in rw (below-read config.buckets b (omega arith) is) refl
root-read config small roots.Head is = refl
root-read config small roots.Tail is = refl
root-read config small (roots.Next s) is = let m = small.slots in rw (below-read (config.slots + 1) s (omega arith) (omega arith)) refl

pub root_reads : (config : Config) → Small config → Reads (root config) (λ r. root_word r ∷ []) (IsRoot config)
root_reads config small = word_reads (root_in config) root_word (IsRoot config) (root-sound config) (root-read config small)
