-- Rows that are apart, each of them shown by something that was read, are at most as many as what was read.
use Rattle.std.proofs.Common.{ℕ, suc, ◌≡◌, ◌≤◌, ◌+◌, Bool, true, false, List, [], ◌∷◌, ◌++◌, length, Option, Some, None, refl, sym, ap, subst, arith}
use Rattle.std.proofs.lemmas.Bool.Decides.{nat_tests}
use Rattle.std.specs.Prelude.{◌==◌, ◌&&◌, ◌||◌, not, if◌then◌else◌}
use Rattle.law_all.proofs.inv.model.Facts.{both, false_of_not, first_of, no_truth, number_is, rest_of, same_number}
use Rattle.law_all.specs.inv.history.Record.{Each, Past}
use Rattle.law_all.specs.inv.history.Record.Past.{Start, Then}
use Rattle.law_all.specs.inv.model.CallReady.{slots_of}
use Rattle.law_all.specs.inv.model.defs.Shown.{Seen, keeps_any, shown_row}
use Rattle.law_all.specs.inv.model.defs.declared.event.Event.{Event}
use Rattle.law_all.specs.inv.model.defs.declared.event.Event.TheVariants as events
use Rattle.law_all.specs.inv.model.defs.declared.event.Guard.{Guard}
use Rattle.law_all.specs.inv.model.defs.declared.lifetime.Lifetime.{Lifetime}
use Rattle.law_all.specs.inv.model.defs.declared.shown.Shown.{Shown}
use Rattle.law_all.specs.inv.model.defs.declared.shown.Shown.TheVariants.{Eras, Nothing, Row}
use Rattle.law_all.specs.inv.model.words.Schemes.{publishes_rows}
use Rattle.law_all.specs.inv.model.words.declared.config.Config.{Config}
use Rattle.law_all.specs.laws.EraLaw.{kind_ok}
use Rattle.law_all.specs.laws.Lists.{handed_by, list_of, without}
use Rattle.law_all.specs.laws.ScanLaw.{guards, next_back}
use Rattle.law_all.specs.laws.StateAt.{is_one_of, read_by, read_of}
use Rattle.law_bounds.specs.Rows.{are_apart}
use Rattle.law_bounds.specs.Scans.{apart_ok, judged_by, judged_of}

-- no eras
abbrev is_row_shown : Shown → Bool
is_row_shown Nothing = true
is_row_shown (Eras span) = false
is_row_shown (Row slot) = true

abbrev pub all_rows : List Seen → Bool
all_rows [] = true
all_rows (seen ∷ read) = is_row_shown seen.1 && all_rows read

rows_more : (read : List Seen) (seen : Seen) → all_rows read ≡ true → is_row_shown seen.1 ≡ true → all_rows (read ++ seen ∷ []) ≡ true
rows_more [] seen h b = both (is_row_shown seen.1) true b refl
rows_more (first ∷ read) seen h b =
    both (is_row_shown first.1) (all_rows (read ++ seen ∷ [])) (first_of (is_row_shown first.1) (all_rows read) h) (rows_more read seen (rest_of (is_row_shown first.1) (all_rows read) h) b)

-- without the lives of a row
other_slot : (life : Lifetime) (lives : List Lifetime) (slot : ℕ) → (life.slot == slot) ≡ true → is_one_of life.slot (slots_of lives) ≡ false → without slot lives ≡ lives
other_slot life [] slot e h = refl
other_slot life (next ∷ lives) slot e h =
    let here : (next.slot == slot) ≡ false = grind (arith, nat_tests, e, h) in
    let more : is_one_of life.slot (slots_of lives) ≡ false = grind (arith, nat_tests, h) in
    rw here (ap (λ (xs : List Lifetime). next ∷ xs) (other_slot life lives slot e more))

one_fewer : (slot : ℕ) (lives : List Lifetime) → are_apart (slots_of lives) ≡ true → length lives ≤ length (without slot lives) + 1
one_fewer slot [] h = omega arith
one_fewer slot (life ∷ lives) h = by (life.slot == slot) refl (one_fewer slot lives)
  where
    new : is_one_of life.slot (slots_of lives) ≡ false
    new = false_of_not (is_one_of life.slot (slots_of lives)) (first_of (not (is_one_of life.slot (slots_of lives))) (are_apart (slots_of lives)) h)

    rest : are_apart (slots_of lives) ≡ true
    rest = rest_of (not (is_one_of life.slot (slots_of lives))) (are_apart (slots_of lives)) h

    by : (same : Bool) → (life.slot == slot) ≡ same → (are_apart (slots_of lives) ≡ true → length lives ≤ length (without slot lives) + 1) → length (life ∷ lives) ≤ length (if same then without slot lives else life ∷ without slot lives) + 1
    by true e f = let all : length (without slot lives) ≡ length lives = ap length (other_slot life lives slot e new) in omega (arith, all)
    by false e f = let more = f rest in omega (arith, more)

still_none : (s slot : ℕ) (lives : List Lifetime) → is_one_of s (slots_of lives) ≡ false → is_one_of s (slots_of (without slot lives)) ≡ false
still_none s slot [] h = refl
still_none s slot (life ∷ lives) h = by (life.slot == slot) (still_none s slot lives (grind (arith, nat_tests, h)))
  where
    by : (same : Bool) → is_one_of s (slots_of (without slot lives)) ≡ false → is_one_of s (slots_of (if same then without slot lives else life ∷ without slot lives)) ≡ false
    by true f = f
    by false f = let here : (s == life.slot) ≡ false = grind (arith, nat_tests, h) in rw here f

pub apart_without : (slot : ℕ) (lives : List Lifetime) → are_apart (slots_of lives) ≡ true → are_apart (slots_of (without slot lives)) ≡ true
apart_without slot [] h = refl
apart_without slot (life ∷ lives) h = by (life.slot == slot) (apart_without slot lives (rest_of (not (is_one_of life.slot (slots_of lives))) (are_apart (slots_of lives)) h))
  where
    new : is_one_of life.slot (slots_of lives) ≡ false
    new = false_of_not (is_one_of life.slot (slots_of lives)) (first_of (not (is_one_of life.slot (slots_of lives))) (are_apart (slots_of lives)) h)

    by : (same : Bool) → are_apart (slots_of (without slot lives)) ≡ true → are_apart (slots_of (if same then without slot lives else life ∷ without slot lives)) ≡ true
    by true rest = rest
    by false rest = let none = still_none life.slot slot lives new in rw none rest

-- what something else than this row keeps
others_kept : (guard : Guard) (slot : ℕ) (read : List Seen) (lives : List Lifetime) → next_back ((guard, Row slot) ∷ read) lives ≡ None → next_back read (without slot lives) ≡ None
others_kept guard slot read [] h = refl
others_kept guard slot read (life ∷ lives) h = by (life.slot == slot) (keeps_any life read) refl (others_kept guard slot read lives) h
  where
    by : (same kept : Bool) → keeps_any life read ≡ kept → (next_back ((guard, Row slot) ∷ read) lives ≡ None → next_back read (without slot lives) ≡ None) → (if (same || kept) then next_back ((guard, Row slot) ∷ read) lives else Some life) ≡ None → next_back read (if same then without slot lives else life ∷ without slot lives) ≡ None
    by true kept e f h = f h
    by false true e f h = rw e (f h)
    by false false e f h = absurd (cc)

nothing_kept : (guard : Guard) (read : List Seen) (lives : List Lifetime) → next_back ((guard, Nothing) ∷ read) lives ≡ None → next_back read lives ≡ None
nothing_kept guard read [] h = refl
nothing_kept guard read (life ∷ lives) h = by (keeps_any life read) (nothing_kept guard read lives) h
  where
    by : (kept : Bool) → (next_back ((guard, Nothing) ∷ read) lives ≡ None → next_back read lives ≡ None) → (if (false || kept) then next_back ((guard, Nothing) ∷ read) lives else Some life) ≡ None → (if kept then next_back read lives else Some life) ≡ None
    by true f h = f h
    by false f h = h

pub fits : (read : List Seen) (lives : List Lifetime) → all_rows read ≡ true → are_apart (slots_of lives) ≡ true → next_back read lives ≡ None → length lives ≤ length read
fits [] [] r a h = omega arith
fits [] (life ∷ lives) r a h = absurd (cc)
fits (seen ∷ read) lives r a h = by seen.0 seen.1 (first_of (is_row_shown seen.1) (all_rows read) r) (λ xs. fits read xs (rest_of (is_row_shown seen.1) (all_rows read) r)) h
  where
    by : (guard : Guard) (x : Shown) → is_row_shown x ≡ true → ((xs : List Lifetime) → are_apart (slots_of xs) ≡ true → next_back read xs ≡ None → length xs ≤ length read) → next_back ((guard, x) ∷ read) lives ≡ None → length lives ≤ suc (length read)
    by guard Nothing s f h = let more = f lives a (nothing_kept guard read lives h) in omega (arith, more)
    by guard (Eras span) s f h = absurd (cc)
    by guard (Row slot) s f h =
        let more = f (without slot lives) (apart_without slot lives a) (others_kept guard slot read lives h) in
        let one = one_fewer slot lives a in
        omega (arith, more, one)

-- What a seat has read, and what it judged.
with_rows : (seen : Seen) (read : List Seen) (whole : Bool) → is_row_shown seen.1 ≡ true → all_rows read ≡ true → all_rows ((if whole then [] else read) ++ seen ∷ []) ≡ true
with_rows seen read true s r = rows_more [] seen refl s
with_rows seen read false s r = rows_more read seen r s

row_is : (slot : Option ℕ) → is_row_shown (shown_row slot) ≡ true
row_is None = refl
row_is (Some slot) = refl

no_eras : (scheme : Bool) → scheme ≡ true → not scheme ≡ true → false ≡ true
no_eras true e h = h
no_eras false e h = e

pub own_rows : (config : Config) (p : Past) (i : ℕ) (event : Event) (read : List Seen) → publishes_rows config.scheme ≡ true → kind_ok config.scheme p i event ≡ true → all_rows read ≡ true → all_rows (read_by (guards config) event read) ≡ true
own_rows config p i (events.Read guard span) read s k r = absurd (no_truth (no_eras (publishes_rows config.scheme) s k))
own_rows config p i (events.Saw guard slot) read s k r = with_rows (guard, shown_row slot) read (length read == guards config) (row_is slot) r
own_rows config p i event read s k r = r

pub own_apart : (event : Event) (list judged : List Lifetime) → are_apart (slots_of list) ≡ true → are_apart (slots_of judged) ≡ true → are_apart (slots_of (judged_by event list judged)) ≡ true
own_apart (events.Read guard span) list judged l j = l
own_apart (events.Saw guard slot) list judged l j = l
own_apart (events.Back slot) list judged l j = apart_without slot judged j
own_apart event list judged l j = j

pub other_apart : (i : ℕ) (event : Event) (judged : List Lifetime) → are_apart (slots_of judged) ≡ true → are_apart (slots_of (handed_by i event judged)) ≡ true
other_apart i (events.Adopted place count) judged j = by (i == place)
  where
    by : (same : Bool) → are_apart (slots_of (if same then [] else judged)) ≡ true
    by true = refl
    by false = j
other_apart i event judged j = j

-- at each position
pub record Rows (config : Config) (i : ℕ) (p : Past) : Type 0 where
  pub rows : all_rows (read_of (guards config) i p) ≡ true
  pub apart : are_apart (slots_of (judged_of i p)) ≡ true

own_entry : (config : Config) (i : ℕ) (p : Past) (event : Event) → publishes_rows config.scheme ≡ true → kind_ok config.scheme p i event ≡ true → apart_ok p i event ≡ true → Rows config i p → Rows config i (Then p i event)
own_entry config i p event s k a g =
    let same : (i == i) ≡ true = same_number i in
    record { rows = rw same (own_rows config p i event (read_of (guards config) i p) s k g.rows); apart = rw same (own_apart event (list_of i p) (judged_of i p) a g.apart) }

entry : (config : Config) (i k : ℕ) (p : Past) (event : Event) (same : Bool) → (i == k) ≡ same → publishes_rows config.scheme ≡ true → kind_ok config.scheme p k event ≡ true → apart_ok p k event ≡ true → Rows config i p → Rows config i (Then p k event)
entry config i k p event true e s t a g =
    let here : i ≡ k = number_is i k e in
    subst (λ (n : ℕ). Rows config i (Then p n event)) here
    (own_entry config i p event s (subst (λ (n : ℕ). kind_ok config.scheme p n event ≡ true) (sym here) t) (subst (λ (n : ℕ). apart_ok p n event ≡ true) (sym here) a) g)
entry config i k p event false e s t a g = record { rows = rw e g.rows; apart = rw e (other_apart i event (judged_of i p) g.apart) }

pub rows_at : (config : Config) (i : ℕ) (p : Past) → publishes_rows config.scheme ≡ true → Each (kind_ok config.scheme) p → Each apart_ok p → Rows config i p
rows_at config i Start s k a = record { rows = refl; apart = refl }
rows_at config i (Then p j event) s k a = entry config i j p event (i == j) refl s k.0 a.0 (rows_at config i p s k.1 a.1)
