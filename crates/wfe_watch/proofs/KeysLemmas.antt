-- The rows of a counter of keys, after one more entry.
use Rattle.std.proofs.Common.{◌≡◌, ◌≢◌, ℕ, ◌+◌, ◌==◌, ◌||◌, not, cond, if◌then◌else◌, Bool, true, false, List, [], ◌∷◌, ◌++◌, map, Option, Some, None, refl, sym, ap, subst, ◌∙◌, arith}
use Rattle.std.specs.List.{list_any, count_by}
use Rattle.std.proofs.lemmas.Bool.Decides.{nat_tests}
use Rattle.std.proofs.lemmas.List.Sums.{sum_by-cons}
use Rattle.wfe_defs.specs.Entry.{Entry, entry}
use Rattle.wfe_defs.specs.declared.event.Event.{Event}
use Rattle.wfe_defs.specs.declared.event.Event.TheVariants as events
use Rattle.wfe_outside.specs.Watched.{Grows}
use Rattle.wfe_outside.specs.declared.watcher.WatchRow.{WatchRow}
use Rattle.wfe_watch.specs.Counts.{capped, raised, row_of}
use Rattle.wfe_watch.specs.Keys.{put_key, removed_key, names, puts, removes, without, led_by, keys_put, put_count, removal_count, key_row, key_rows, KeyCounts, CountsKeys, has_row, early_count, with_put, with_removal, with_early, put_counted, removal_counted}
use Rattle.wfe_watch.proofs.CountsLemmas.{capped-count_by_push}

-- the keys with one more: a key that is there keeps its place, and a new one goes last
abbrev pub with_key : ℕ → List ℕ → List ℕ
with_key key [] = key ∷ []
with_key key (k ∷ keys) = if k == key then k ∷ keys else k ∷ with_key key keys

-- the same of a key that may be named
abbrev pub with_named : Option ℕ → List ℕ → List ℕ
with_named None keys = keys
with_named (Some key) keys = with_key key keys

without-with_key : (j key : ℕ) (keys : List ℕ) → without j (with_key key keys) ≡ (if j == key then without j keys else with_key key (without j keys))
without-with_key j key [] = grind (arith, nat_tests)
without-with_key j key (k ∷ keys) = grind (arith, nat_tests, without-with_key j key keys)

led_by-with_named : (first last : Option ℕ) (keys : List ℕ) → led_by first (with_named last keys) ≡ with_named last (led_by first keys)
led_by-with_named None last keys = refl
led_by-with_named (Some j) None keys = refl
led_by-with_named (Some j) (Some key) keys = ap (λ ks. j ∷ ks) (without-with_key j key keys) ∙ grind (arith, nat_tests)

-- one more entry may name one more key
pub keys_put_push : (told : List Entry) (x : Entry) → keys_put (told ++ x ∷ []) ≡ with_named (put_key x.event) (keys_put told)
keys_put_push [] x = led_alone (put_key x.event)
  where
    led_alone : (named : Option ℕ) → led_by named [] ≡ with_named named []
    led_alone None = refl
    led_alone (Some key) = refl
keys_put_push (y ∷ told) x =
    ap (led_by (put_key y.event)) (keys_put_push told x) ∙ led_by-with_named (put_key y.event) (put_key x.event) (keys_put told)

list_any-without : (key j : ℕ) (keys : List ℕ) → list_any (λ k. k == key) (j ∷ without j keys) ≡ (j == key || list_any (λ k. k == key) keys)
list_any-without key j [] = refl
list_any-without key j (k ∷ keys) = grind (arith, nat_tests, list_any-without key j keys)

list_any-led_by : (key : ℕ) (named : Option ℕ) (keys : List ℕ) → list_any (λ k. k == key) (led_by named keys) ≡ (names key named || list_any (λ k. k == key) keys)
list_any-led_by key None keys = refl
list_any-led_by key (Some j) keys = list_any-without key j keys

-- a key is among those that are put where an entry puts it
pub put_before : (key : ℕ) (told : List Entry) → list_any (λ k. k == key) (keys_put told) ≡ list_any (puts key) told
put_before key [] = refl
put_before key (x ∷ told) = list_any-led_by key (put_key x.event) (keys_put told) ∙ ap (λ b. puts key x || b) (put_before key told)

-- the row of a key, after one more entry
key_row_push : (told : List Entry) (x : Entry) (key : ℕ) →
    key_row (told ++ x ∷ []) key ≡ row_of key (raised (puts key x) (put_count told key)) (raised (removes key x) (removal_count told key))
key_row_push told x key =
    ap (λ n. row_of key n (removal_count (told ++ x ∷ []) key)) (capped-count_by_push (puts key) told x)
    ∙ ap (row_of key (raised (puts key x) (put_count told key))) (capped-count_by_push (removes key) told x)

-- a key that was never put has no puts
no_puts : (key : ℕ) (told : List Entry) → list_any (puts key) told ≡ false → count_by (puts key) told ≡ 0
no_puts key [] none = refl
no_puts key (x ∷ told) none = by (puts key x) refl none (no_puts key told)
  where
    by : (b : Bool) → puts key x ≡ b → (b || list_any (puts key) told) ≡ false → (list_any (puts key) told ≡ false → count_by (puts key) told ≡ 0) → count_by (puts key) (x ∷ told) ≡ 0
    by true e none rest = absurd (cc)
    by false e none rest =
        sum_by-cons (λ z. cond (puts key z) 1 0) x told ∙ ap (λ b. cond b 1 0 + count_by (puts key) told) e ∙ omega (arith, rest none)

-- a key has a row where an entry puts it
has_row-key_rows : (key : ℕ) (told : List Entry) → has_row key (key_rows told) ≡ list_any (puts key) told
has_row-key_rows key told = has_row-map (keys_put told) ∙ put_before key told
  where
    has_row-map : (keys : List ℕ) → has_row key (map (key_row told) keys) ≡ list_any (λ k. k == key) keys
    has_row-map [] = refl
    has_row-map (k ∷ keys) = ap (λ b. k == key || b) (has_row-map keys)

-- a key that has no row after an entry had none before
no_row_before : (key : ℕ) (told : List Entry) (x : Entry) → has_row key (key_rows (told ++ x ∷ [])) ≡ false → has_row key (key_rows told) ≡ false
no_row_before key told x none = has_row-key_rows key told ∙ front told (sym (has_row-key_rows key (told ++ x ∷ [])) ∙ none)
  where
    front : (told : List Entry) → list_any (puts key) (told ++ x ∷ []) ≡ false → list_any (puts key) told ≡ false
    front [] none = refl
    front (y ∷ told) none = by (puts key y) none (front told)
      where
        by : (b : Bool) → (b || list_any (puts key) (told ++ x ∷ [])) ≡ false → (list_any (puts key) (told ++ x ∷ []) ≡ false → list_any (puts key) told ≡ false) → (b || list_any (puts key) told) ≡ false
        by true none rest = none
        by false none rest = rest none

-- none of the keys comes again
abbrev pub AreOnce : List ℕ → Type 0
AreOnce [] = Unit {0}
AreOnce (key ∷ keys) = (list_any (λ k. k == key) keys ≡ false) × AreOnce keys

none_without : (key j : ℕ) (keys : List ℕ) → list_any (λ k. k == key) keys ≡ false → list_any (λ k. k == key) (without j keys) ≡ false
none_without key j [] none = refl
none_without key j (k ∷ keys) none = grind (arith, nat_tests, none_without key j keys)

left_out : (key : ℕ) (keys : List ℕ) → list_any (λ k. k == key) (without key keys) ≡ false
left_out key [] = refl
left_out key (k ∷ keys) = grind (arith, nat_tests, left_out key keys)

AreOnce-without : (j : ℕ) (keys : List ℕ) → AreOnce keys → AreOnce (without j keys)
AreOnce-without j [] once = tt
AreOnce-without j (k ∷ keys) once = by (k == j) (AreOnce-without j keys once.1)
  where
    by : (b : Bool) → AreOnce (without j keys) → AreOnce (cond (not b) (k ∷ without j keys) (without j keys))
    by true rest = rest
    by false rest = (none_without k j keys once.0, rest)

-- each key that is put is there once
pub put_once : (told : List Entry) → AreOnce (keys_put told)
put_once [] = tt
put_once (x ∷ told) = led_once (put_key x.event) (keys_put told) (put_once told)
  where
    led_once : (named : Option ℕ) (keys : List ℕ) → AreOnce keys → AreOnce (led_by named keys)
    led_once None keys once = once
    led_once (Some key) keys once = (left_out key keys, AreOnce-without key keys once)

-- two ways to a row agree at all keys but one, which is not there
map_apart : (f g : ℕ → WatchRow) (key : ℕ) (keys : List ℕ) → ((k : ℕ) → k ≢ key → f k ≡ g k) → list_any (λ k. k == key) keys ≡ false → map f keys ≡ map g keys
map_apart f g key [] apart none = refl
map_apart f g key (k ∷ keys) apart none =
    let other : k ≢ key = λ e. grind (arith, nat_tests) in
    let rest : list_any (λ q. q == key) keys ≡ false = grind (arith, nat_tests) in
    ap (λ row. row ∷ map f keys) (apart k other) ∙ ap (λ rows. g k ∷ rows) (map_apart f g key keys apart rest)

-- a put of a key that is there changes its row, and that of another adds one
rows_with_put : (f g : ℕ → WatchRow) (key removals : ℕ) (keys : List ℕ) → ((k : ℕ) → (f k).a ≡ k) → ((k : ℕ) → k ≢ key → f k ≡ g k) →
    g key ≡ row_of key (raised true (f key).b) (f key).c → (list_any (λ k. k == key) keys ≡ false → g key ≡ row_of key 1 removals) → AreOnce keys →
    map g (with_key key keys) ≡ with_put key removals (map f keys)
rows_with_put f g key removals [] keyed apart more first once = ap (λ row. row ∷ []) (first refl)
rows_with_put f g key removals (k ∷ keys) keyed apart more first once =
    elim (k == key) as (λ b. (k == key) ≡ b → map g (with_key key (k ∷ keys)) ≡ with_put key removals (map f (k ∷ keys))) [
      | true ↦ λ t.
          let here : k ≡ key = grind (arith, nat_tests) in
          ap (λ b. map g (if b then k ∷ keys else k ∷ with_key key keys)) t
          ∙ ap (λ row. row ∷ map g keys) (ap g here ∙ more ∙ ap (λ q. row_of key (raised true (f q).b) (f q).c) (sym here))
          ∙ ap (λ rows. row_of key (raised true (f k).b) (f k).c ∷ rows) (sym (map_apart f g key keys apart (subst (λ q. list_any (λ j. j == q) keys ≡ false) here once.0)))
          ∙ sym (ap (λ b. if b then row_of key (raised true (f k).b) (f k).c ∷ map f keys else f k ∷ with_put key removals (map f keys)) (ap (λ n. n == key) (keyed k) ∙ t))
      | false ↦ λ t.
          let other : k ≢ key = λ e. grind (arith, nat_tests) in
          let rest = rows_with_put f g key removals keys keyed apart more (λ none. first (ap (λ b. b || list_any (λ q. q == key) keys) t ∙ none)) once.1 in
          ap (λ b. map g (if b then k ∷ keys else k ∷ with_key key keys)) t
          ∙ ap (λ row. row ∷ map g (with_key key keys)) (sym (apart k other))
          ∙ ap (λ rows. f k ∷ rows) rest
          ∙ sym (ap (λ b. if b then row_of key (raised true (f k).b) (f k).c ∷ map f keys else f k ∷ with_put key removals (map f keys)) (ap (λ n. n == key) (keyed k) ∙ t))
    ] refl

-- a removal of a key that is there changes its row
rows_with_removal : (f g : ℕ → WatchRow) (key : ℕ) (keys : List ℕ) → ((k : ℕ) → (f k).a ≡ k) → ((k : ℕ) → k ≢ key → f k ≡ g k) →
    g key ≡ row_of key (f key).b (raised true (f key).c) → AreOnce keys →
    map g keys ≡ with_removal key (map f keys)
rows_with_removal f g key [] keyed apart more once = refl
rows_with_removal f g key (k ∷ keys) keyed apart more once =
    elim (k == key) as (λ b. (k == key) ≡ b → map g (k ∷ keys) ≡ with_removal key (map f (k ∷ keys))) [
      | true ↦ λ t.
          let here : k ≡ key = grind (arith, nat_tests) in
          ap (λ row. row ∷ map g keys) (ap g here ∙ more ∙ ap (λ q. row_of key (f q).b (raised true (f q).c)) (sym here))
          ∙ ap (λ rows. row_of key (f k).b (raised true (f k).c) ∷ rows) (sym (map_apart f g key keys apart (subst (λ q. list_any (λ j. j == q) keys ≡ false) here once.0)))
          ∙ sym (ap (λ b. if b then row_of key (f k).b (raised true (f k).c) ∷ map f keys else f k ∷ with_removal key (map f keys)) (ap (λ n. n == key) (keyed k) ∙ t))
      | false ↦ λ t.
          let other : k ≢ key = λ e. grind (arith, nat_tests) in
          ap (λ row. row ∷ map g keys) (sym (apart k other))
          ∙ ap (λ rows. f k ∷ rows) (rows_with_removal f g key keys keyed apart more once.1)
          ∙ sym (ap (λ b. if b then row_of key (f k).b (raised true (f k).c) ∷ map f keys else f k ∷ with_removal key (map f keys)) (ap (λ n. n == key) (keyed k) ∙ t))
    ] refl

-- a number is itself
same_number : (n : ℕ) → (n == n) ≡ true
same_number n = grind (arith, nat_tests)

-- another number is not
other_number : (n m : ℕ) → m ≢ n → (n == m) ≡ false
other_number n m other = grind (arith, nat_tests)

-- the row of a key that an entry does not name stays
row_unnamed : (told : List Entry) (x : Entry) (key : ℕ) → puts key x ≡ false → removes key x ≡ false → key_row told key ≡ key_row (told ++ x ∷ []) key
row_unnamed told x key kept left =
    sym (key_row_push told x key
    ∙ ap (λ b. row_of key (raised b (put_count told key)) (raised (removes key x) (removal_count told key))) kept
    ∙ ap (λ b. row_of key (put_count told key) (raised b (removal_count told key))) left)

-- the row of a key that is put
row_put : (told : List Entry) (x : Entry) (key : ℕ) → puts key x ≡ true → removes key x ≡ false →
    key_row (told ++ x ∷ []) key ≡ row_of key (raised true (put_count told key)) (removal_count told key)
row_put told x key put left =
    key_row_push told x key
    ∙ ap (λ b. row_of key (raised b (put_count told key)) (raised (removes key x) (removal_count told key))) put
    ∙ ap (λ b. row_of key (raised true (put_count told key)) (raised b (removal_count told key))) left

-- the row of a key that is removed
row_removed : (told : List Entry) (x : Entry) (key : ℕ) → puts key x ≡ false → removes key x ≡ true →
    key_row (told ++ x ∷ []) key ≡ row_of key (put_count told key) (raised true (removal_count told key))
row_removed told x key kept removed =
    key_row_push told x key
    ∙ ap (λ b. row_of key (raised b (put_count told key)) (raised (removes key x) (removal_count told key))) kept
    ∙ ap (λ b. row_of key (put_count told key) (raised b (removal_count told key))) removed

-- one more removal of a key without a row, for each key
early_count-with_early : (key q : ℕ) (early : List (ℕ × ℕ)) → early_count (with_early key early) q ≡ raised (key == q) (early_count early q)
early_count-with_early key q [] = grind (arith, nat_tests)
early_count-with_early key q (e ∷ early) = grind (arith, nat_tests, early_count-with_early key q early)

-- the row of a key at its first put
row_first_put : (told : List Entry) (x : Entry) (key : ℕ) → puts key x ≡ true → removes key x ≡ false → list_any (λ k. k == key) (keys_put told) ≡ false →
    key_row (told ++ x ∷ []) key ≡ row_of key 1 (removal_count told key)
row_first_put told x key put left none =
    row_put told x key put left
    ∙ ap (λ n. row_of key (raised true (capped n)) (removal_count told key)) (no_puts key told (sym (put_before key told) ∙ none))

-- what is noted of the removals of a key without a row stays right at an entry that does not remove it
early_stays : (old : KeyCounts) (told : List Entry) (x : Entry) (key : ℕ) → CountsKeys old told → removes key x ≡ false → has_row key (key_rows (told ++ x ∷ [])) ≡ false →
    early_count old.early key ≡ removal_count (told ++ x ∷ []) key
early_stays old told x key counts left none =
    counts.early key (ap (has_row key) counts.rows ∙ no_row_before key told x none)
    ∙ sym (capped-count_by_push (removes key) told x ∙ ap (λ b. raised b (removal_count told key)) left)

-- a put is counted
pub grows_put : (old : KeyCounts) (seat bucket version key value : ℕ) → Grows CountsKeys old (put_counted key old) (entry seat (events.Put bucket version key value))
grows_put old seat bucket version key value told counts =
    let x = entry seat (events.Put bucket version key value) in
    let removals = early_count old.early key in
    let first : list_any (λ k. k == key) (keys_put told) ≡ false → key_row (told ++ x ∷ []) key ≡ row_of key 1 removals =
    λ none. row_first_put told x key (same_number key) refl none
    ∙ ap (row_of key 1) (sym (counts.early key (ap (has_row key) counts.rows ∙ has_row-key_rows key told ∙ sym (put_before key told) ∙ none))) in
    let rows : with_put key removals old.rows ≡ key_rows (told ++ x ∷ []) =
    ap (with_put key removals) counts.rows
    ∙ sym (rows_with_put (key_row told) (key_row (told ++ x ∷ [])) key removals (keys_put told) (λ k. refl)
    (λ k other. row_unnamed told x k (other_number key k other) refl)
    (row_put told x key (same_number key) refl) first (put_once told))
    ∙ sym (ap (map (key_row (told ++ x ∷ []))) (keys_put_push told x)) in
    record {
      rows = rows;
      early = λ q none. early_stays old told x q counts refl (ap (has_row q) (sym rows) ∙ none);
    }

-- a removal is counted in the key's row
grows_removal_shown : (old : KeyCounts) (seat bucket version key : ℕ) (told : List Entry) → CountsKeys old told → has_row key old.rows ≡ true →
    CountsKeys (record { rows = with_removal key old.rows; early = old.early }) (told ++ entry seat (events.Removed bucket version key) ∷ [])
grows_removal_shown old seat bucket version key told counts there =
    let x = entry seat (events.Removed bucket version key) in
    let rows : with_removal key old.rows ≡ key_rows (told ++ x ∷ []) =
    ap (with_removal key) counts.rows
    ∙ sym (rows_with_removal (key_row told) (key_row (told ++ x ∷ [])) key (keys_put told) (λ k. refl)
    (λ k other. row_unnamed told x k refl (other_number key k other))
    (row_removed told x key refl (same_number key)) (put_once told))
    ∙ sym (ap (map (key_row (told ++ x ∷ []))) (keys_put_push told x)) in
    let apart : (q : ℕ) → has_row q (key_rows (told ++ x ∷ [])) ≡ false → q ≢ key =
    λ q none same. both (sym there ∙ ap (λ k. has_row k old.rows) (sym same) ∙ ap (has_row q) counts.rows ∙ no_row_before q told x none) in
    record {
      rows = rows;
      early = λ q none.
          let missing = ap (has_row q) (sym rows) ∙ none in
          early_stays old told x q counts (other_number key q (apart q missing)) missing;
    }
  where
    both : true ≡ false → ⊥
    both e = cc

-- a removal of a key without a row is noted
grows_removal_early : (old : KeyCounts) (seat bucket version key : ℕ) (told : List Entry) → CountsKeys old told → has_row key old.rows ≡ false →
    CountsKeys (record { rows = old.rows; early = with_early key old.early }) (told ++ entry seat (events.Removed bucket version key) ∷ [])
grows_removal_early old seat bucket version key told counts missing =
    let x = entry seat (events.Removed bucket version key) in
    let unput : list_any (λ k. k == key) (keys_put told) ≡ false =
    put_before key told ∙ sym (has_row-key_rows key told) ∙ ap (has_row key) (sym counts.rows) ∙ missing in
    record {
      rows =
          counts.rows
          ∙ map_apart (key_row told) (key_row (told ++ x ∷ [])) key (keys_put told) (λ k other. row_unnamed told x k refl (other_number key k other)) unput
          ∙ sym (ap (map (key_row (told ++ x ∷ []))) (keys_put_push told x));
      early = λ q none.
          early_count-with_early key q old.early
          ∙ ap (raised (key == q)) (counts.early q none)
          ∙ sym (capped-count_by_push (removes q) told x);
    }

-- a removal is counted
pub grows_removal : (old : KeyCounts) (seat bucket version key : ℕ) → Grows CountsKeys old (removal_counted key old) (entry seat (events.Removed bucket version key))
grows_removal old seat bucket version key told counts = by (has_row key old.rows) refl
  where
    by : (b : Bool) → has_row key old.rows ≡ b →
        CountsKeys (if b then record { rows = with_removal key old.rows; early = old.early } else record { rows = old.rows; early = with_early key old.early })
        (told ++ entry seat (events.Removed bucket version key) ∷ [])
    by true there = grows_removal_shown old seat bucket version key told counts there
    by false missing = grows_removal_early old seat bucket version key told counts missing

-- an entry that names no key changes nothing
pub grows_same : (old : KeyCounts) (seat : ℕ) (event : Event) → put_key event ≡ None → removed_key event ≡ None → Grows CountsKeys old old (entry seat event)
grows_same old seat event kept left told counts =
    let x = entry seat event in
    record {
      rows =
          counts.rows
          ∙ map_same (key_row told) (key_row (told ++ x ∷ [])) (keys_put told) (λ k. row_unnamed told x k (ap (names k) kept) (ap (names k) left))
          ∙ sym (ap (map (key_row (told ++ x ∷ []))) (keys_put_push told x ∙ ap (λ named. with_named named (keys_put told)) kept));
      early = λ q none. counts.early q none ∙ sym (capped-count_by_push (removes q) told x ∙ ap (λ named. raised (names q named) (removal_count told q)) left);
    }
  where
    map_same : (f g : ℕ → WatchRow) (keys : List ℕ) → ((k : ℕ) → f k ≡ g k) → map f keys ≡ map g keys
    map_same f g [] same = refl
    map_same f g (k ∷ keys) same = ap (λ row. row ∷ map f keys) (same k) ∙ ap (λ rows. g k ∷ rows) (map_same f g keys same)

-- an event that is neither names no key
pub names_none : (event : Event) → ((bucket version key value : ℕ) → event ≡ events.Put bucket version key value → ⊥) → ((bucket version key : ℕ) → event ≡ events.Removed bucket version key → ⊥) →
    (put_key event ≡ None) × (removed_key event ≡ None)
names_none (events.Put bucket version key value) no_put no_removal = absurd (no_put bucket version key value refl)
names_none (events.Removed bucket version key) no_put no_removal = absurd (no_removal bucket version key refl)
names_none _ no_put no_removal = (refl, refl)
