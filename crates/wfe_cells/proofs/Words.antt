-- What a past shows of cells and of their objects' words stays so as the past grows, and is the same for all.
use Rattle.std.proofs.Common.{Bool, List, None, Some, ap, arith, false, length, refl, subst, sym, true, zero, ℕ, ◌*◌, ◌++◌, ◌+◌, ◌-◌, ◌<◌, ◌∙◌, ◌≡◌, ◌≢◌, ◌≤◌}
use Rattle.std.proofs.Math.Nat.{add-mul-mod_self_left, mod-eq_of_lt, mul-div_cancel_left}
use Rattle.std.proofs.lemmas.Bool.Decides.{nat_tests}
use Rattle.std.proofs.lemmas.List.{append_assoc, ext_get_or, get_or-set_other, get_or-set_same}
use Rattle.std.proofs.lemmas.Nat.{div-mul-add, mod-mul-add}
use Rattle.std.specs.Option.{unwrap_or}
use Rattle.std.specs.Prelude.{Option, slice_index_or, slice_set, ◌%◌, ◌/◌, ◌==◌}
use Rattle.wfe_table.proofs.all.Logs.Grows.{Grows, grows_tells, more_count, records_grow, same_changes}
use Rattle.wfe_table.proofs.all.laws.records.defs.Facts.{false_by, false_not_true, number_is, same_number, same_test}
use Rattle.wfe_table.proofs.all.laws.records.defs.Values.{value_in-changed}
use Rattle.wfe_core.specs.defs.Pairs.{Pair, pairs_after, value_in, with_pair}
use Rattle.wfe_core.specs.defs.declared.call.Answer.TheVariants as answers
use Rattle.wfe_core.specs.defs.declared.call.Call.TheVariants as calls
use Rattle.wfe_core.specs.defs.declared.call.ClockMove.{ClockMove}
use Rattle.wfe_core.specs.defs.declared.fold.Change.{Change}
use Rattle.wfe_core.specs.defs.declared.fold.Change.TheVariants as changes
use Rattle.wfe_core.specs.words.declared.layout.Layout.{Layout}
use Rattle.wfe_table.specs.Calls.{IsMade}
use Rattle.wfe_table.specs.Public.{SeatNow}
use Rattle.wfe_table.specs.all.Logs.Answered.{IsMet}
use Rattle.wfe_table.specs.all.Logs.Versions.{counts_of}
use Rattle.wfe_table.specs.all.laws.StructuresAt.{bucket_of, count_of, pairs_at, value_at}
use Rattle.wfe_table.specs.history.History.{Item, record_of}
use Rattle.wfe_table.specs.history.Record.{Past}
use Rattle.wfe_cells.specs.Wide.{HasWord, HasWords, IsIn, IsName, IsNamed, IsNext, IsPlaced, IsShown, IsWritten, VersionsAgree, block_of, key_of, made_at, named}
use Rattle.wfe_cells.specs.declared.wide.Seen.{Seen}

-- what an option names
pub named_is : (value : Option ℕ) → unwrap_or value 0 ≡ named value
named_is None = refl
named_is (Some object) = refl

-- the record of a history that goes on
pub goes_on : (layout : Layout) (past more : List Item) → Grows (record_of layout past) (record_of layout (past ++ more))
goes_on layout past more = let g = records_grow layout past more in subst (Grows (record_of layout past)) (sym g.cut) (grows_tells g.later (record_of layout past))

pub grown : (layout : Layout) (old new more : List Item) → new ≡ old ++ more → Grows (record_of layout old) (record_of layout new)
grown layout old new more e = subst (λ (items : List Item). Grows (record_of layout old) (record_of layout items)) (sym e) (goes_on layout old more)

same_value : (bucket version key : ℕ) (p q : Past) → Grows p q → version ≤ count_of bucket p → value_at bucket version key q ≡ value_at bucket version key p
same_value bucket version key p q g h = ap (λ (all : List Change). value_in (pairs_after all) key) (same_changes bucket version p q g h)

word_stays : (p q : Past) (bucket version key value : ℕ) → Grows p q → HasWord p bucket version key value → HasWord q bucket version key value
word_stays p q bucket version key value g h = record {
  had = let m : count_of bucket p ≤ count_of bucket q = more_count bucket p q g in omega (arith, h.had, m);
  value_is = same_value bucket version key p q g h.had ∙ h.value_is;
}

pub words_stay : (p q : Past) (buckets block version : ℕ) (words : List ℕ) (first : ℕ) → Grows p q → HasWords buckets block version words first p → HasWords buckets block version words first q
words_stay p q buckets block version words first g h = λ word l. word_stays p q block version (key_of buckets block word) (slice_index_or words word 0) g (h word l)

pub cell_stays : (p q : Past) (cell : ℕ) (seen : Seen) → Grows p q → IsIn p cell seen → IsIn q cell seen
cell_stays p q cell seen g h = record {
  of = h.of;
  had = let m : count_of cell p ≤ count_of cell q = more_count cell p q g in omega (arith, h.had, m);
  names = ap named (same_value cell seen.version cell p q g h.had) ∙ h.names;
}

-- the keys of a bucket's words lie in it
pub in_block : (buckets block word : ℕ) → block < buckets → bucket_of buckets (key_of buckets block word) ≡ block
in_block buckets block word h = add-mul-mod_self_left block buckets word ∙ mod-eq_of_lt h

pub in_cell : (buckets cell : ℕ) → cell < buckets → bucket_of buckets cell ≡ cell
in_cell buckets cell h = mod-eq_of_lt h

-- a word that was read at the bucket's version
pub got_word : (layout : Layout) (old new : SeatNow) (block key version value word : ℕ) → block < layout.config.buckets → key ≡ key_of layout.config.buckets block word → IsMade layout old new (calls.Get key) (answers.Got version (Some value))
    → HasWord (record_of layout new.track.past) block version (key_of layout.config.buckets block word) value
got_word layout old new block key version value word h e made =
    let b : bucket_of layout.config.buckets key ≡ block = ap (bucket_of layout.config.buckets) e ∙ in_block layout.config.buckets block word h in
    let p : Past = record_of layout new.track.past in
    let w : HasWord p (bucket_of layout.config.buckets key) version key value = record { had = made.known.met.until; value_is = sym made.known.value_is } in
    subst (λ (k : ℕ). HasWord p block version k value) e (subst (λ (n : ℕ). HasWord p n version key value) b w)

-- with the words read before
pub more_words : (p : Past) (buckets block version : ℕ) (words : List ℕ) (word value : ℕ) → word < length words → HasWords buckets block version words word p → HasWord p block version (key_of buckets block word) value
    → HasWords buckets block version (slice_set words word value) (word + 1) p
more_words p buckets block version words word value l h w other m = by (other == word) refl
  where
    by : (same : Bool) → (other == word) ≡ same → HasWord p block version (key_of buckets block other) (slice_index_or (slice_set words word value) other 0)
    by true e =
        let same : other ≡ word = grind (arith, nat_tests) in
        let v : slice_index_or (slice_set words word value) other 0 ≡ value = ap (λ (n : ℕ). slice_index_or (slice_set words word value) n 0) same ∙ get_or-set_same words word value 0 l in
        subst (λ (x : ℕ). HasWord p block version (key_of buckets block other) x) (sym v) (subst (λ (n : ℕ). HasWord p block version (key_of buckets block n) value) (sym same) w)
    by false e =
        let apart : other ≢ word = λ s. false_not_true (other == word) e (same_test other word s) in
        let v : slice_index_or (slice_set words word value) other 0 ≡ slice_index_or words other 0 = get_or-set_other words word other value 0 apart in
        subst (λ (x : ℕ). HasWord p block version (key_of buckets block other) x) (sym v) (h other (grind (arith, nat_tests)))

-- a cell that was read
pub got_cell : (layout : Layout) (old new : SeatNow) (cell version object : ℕ) (value : Option ℕ) → cell < layout.config.buckets → object ≡ named value → IsMade layout old new (calls.Get cell) (answers.Got version value)
    → IsIn (record_of layout new.track.past) cell (record { cell = cell; version = version; object = object })
got_cell layout old new cell version object value h e made =
    let b = in_cell layout.config.buckets cell h in
    let p : Past = record_of layout new.track.past in
    subst (λ (n : ℕ). IsIn p cell (record { cell = cell; version = version; object = n })) (sym e)
    (record {
      of = refl;
      had = subst (λ (n : ℕ). version ≤ count_of n p) b made.known.met.until;
      names = ap named (sym (made.known.value_is ∙ ap (λ (n : ℕ). value_at n version cell p) b));
    })

-- at the version that was seen
pub got_now : (layout : Layout) (old new : SeatNow) (seen : Seen) (version object : ℕ) (value : Option ℕ) → seen.cell < layout.config.buckets → object ≡ named value → version ≡ seen.version → IsMade layout old new (calls.Get seen.cell) (answers.Got version value)
    → IsNamed layout new.track.past seen object
got_now layout old new seen version object value h e same made =
    subst (λ (n : ℕ). IsIn (record_of layout new.track.past) seen.cell (record { cell = seen.cell; version = n; object = object })) same (got_cell layout old new seen.cell version object value h e made)

pub met_cell : (layout : Layout) (old new : SeatNow) (cell version : ℕ) (value : Option ℕ) → cell < layout.config.buckets → IsMade layout old new (calls.Get cell) (answers.Got version value)
    → IsMet (counts_of (record_of layout old.track.past)) (record_of layout new.track.past) cell version
met_cell layout old new cell version value h made = subst (λ (n : ℕ). IsMet (counts_of (record_of layout old.track.past)) (record_of layout new.track.past) n version) (in_cell layout.config.buckets cell h) made.known.met

-- a version of a call in between
pub met_later : (p q r : Past) (cell version : ℕ) → Grows p q → IsMet (counts_of q) r cell version → IsMet (counts_of p) r cell version
met_later p q r cell version g h = record { since = let m : count_of cell p ≤ count_of cell q = more_count cell p q g in omega (arith, m, h.since); until = h.until }

pub met_still : (p q r : Past) (cell version : ℕ) → Grows q r → IsMet (counts_of p) q cell version → IsMet (counts_of p) r cell version
met_still p q r cell version g h = record { since = h.since; until = let m : count_of cell q ≤ count_of cell r = more_count cell q r g in omega (arith, m, h.until) }

-- a word that was put at the version that the words before made
key_apart : (buckets block a b : ℕ) → zero < buckets → (a == b) ≡ false → (key_of buckets block a == key_of buckets block b) ≡ false
key_apart buckets block a b h e =
    false_by (key_of buckets block a == key_of buckets block b)
    (λ t.
    let keys : key_of buckets block a ≡ key_of buckets block b = number_is (key_of buckets block a) (key_of buckets block b) t in
    let steps : buckets * a ≡ buckets * b = omega (arith, keys) in
    let same : a ≡ b = sym (mul-div_cancel_left a h) ∙ ap (λ (n : ℕ). n / buckets) steps ∙ mul-div_cancel_left b h in
    false_not_true (a == b) e (same_test a b same))

put_value : (layout : Layout) (p q : Past) (block key version made_version word value other : ℕ) (words : List ℕ) (same : Bool) → (other == word) ≡ same → block < layout.config.buckets → key ≡ key_of layout.config.buckets block word
    → pairs_at block made_version q ≡ with_pair (pairs_at block (made_version - 1) q) key value → made_version ≡ version + 1 → Grows p q → HasWords layout.config.buckets block version words word p → other < word + 1 → value ≡ slice_index_or words word 0
    → value_at block made_version (key_of layout.config.buckets block other) q ≡ Some (slice_index_or words other 0)
put_value layout p q block key version made_version word value other words true s l e pairs next g h m v =
    let o : other ≡ word = grind (arith, nat_tests) in
    let k : key_of layout.config.buckets block other ≡ key = ap (key_of layout.config.buckets block) o ∙ sym e in
    ap (value_in (pairs_at block made_version q)) k ∙ ap (λ (ps : List Pair). value_in ps key) pairs
    ∙ value_in-changed (pairs_at block (made_version - 1) q) (changes.Put key value) key
    ∙ rw (same_number key) (ap Some (v ∙ ap (λ (n : ℕ). slice_index_or words n 0) (sym o)))
put_value layout p q block key version made_version word value other words false s l e pairs next g h m v =
    let b : ℕ = layout.config.buckets in
    let before : other < word = grind (arith, nat_tests) in
    let apart : (key == key_of b block other) ≡ false = ap (λ (n : ℕ). n == key_of b block other) e ∙ key_apart b block word other (omega (arith, l)) (grind (arith, nat_tests)) in
    let w = word_stays p q block version (key_of b block other) (slice_index_or words other 0) g (h other before) in
    let same_version : made_version - 1 ≡ version = omega (arith, next) in
    ap (λ (ps : List Pair). value_in ps (key_of b block other)) pairs
    ∙ value_in-changed (pairs_at block (made_version - 1) q) (changes.Put key value) (key_of b block other)
    ∙ rw apart (ap (λ (n : ℕ). value_at block n (key_of b block other) q) same_version ∙ w.value_is)

pub put_word : (layout : Layout) (old new : SeatNow) (block key version made_version word : ℕ) (clock : ClockMove) (words : List ℕ) → block < layout.config.buckets → key ≡ key_of layout.config.buckets block word
    → IsMade layout old new (calls.PutIf key (slice_index_or words word 0) version) (answers.Done made_version clock) → HasWords layout.config.buckets block version words word (record_of layout old.track.past)
    → HasWords layout.config.buckets block made_version words (word + 1) (record_of layout new.track.past)
put_word layout old new block key version made_version word clock words l e made h other m = by (other == word) refl
  where
    by : (same : Bool) → (other == word) ≡ same → HasWord (record_of layout new.track.past) block made_version (key_of layout.config.buckets block other) (slice_index_or words other 0)
    by same s =
        let b : ℕ = layout.config.buckets in
        let p : Past = record_of layout old.track.past in
        let q : Past = record_of layout new.track.past in
        let value : ℕ = slice_index_or words word 0 in
        let done = made.known in
        let here : bucket_of b key ≡ block = ap (bucket_of b) e ∙ in_block b block word l in
        let until : made_version ≤ count_of block q = subst (λ (n : ℕ). made_version ≤ count_of n q) here done.done.met.until in
        record {
          had = until;
          value_is = put_value layout p q block key version made_version word value other words same s l e (subst (λ (n : ℕ). pairs_at n made_version q ≡ with_pair (pairs_at n (made_version - 1) q) key value) here done.done.pairs) done.next (grown layout old.track.past new.track.past made.more made.grows) h m refl;
        }

-- names
pub name_is : (block version object : ℕ) → block < 1024 → object ≡ version * 1024 + block → (object == 0) ≡ false → IsName block version object
name_is block version object l e s = record {
  block_is = ap (λ (n : ℕ). n % 1024) e ∙ mod-mul-add version 1024 block l;
  version_is = ap made_at e ∙ div-mul-add version 1024 block l;
  some = λ z. false_not_true (object == 0) s (same_test object 0 z);
}

-- all agree
pub versions_agree : VersionsAgree
versions_agree layout past more cell a b xs ys g h v some same =
    let p : Past = record_of layout past in
    let q : Past = record_of layout (past ++ more) in
    let grows : Grows p q = goes_on layout past more in
    let e : a.object ≡ b.object =
    sym g.within.names
    ∙ sym (ap named (same_value cell a.version cell p q grows g.within.had))
    ∙ ap (λ (n : ℕ). named (value_at cell n cell q)) v
    ∙ h.within.names in
    let n : ℕ = layout.config.buckets in
    let there : HasWords n (block_of a.object) (made_at a.object) ys (length ys) q = subst (λ (x : ℕ). HasWords n (block_of x) (made_at x) ys (length ys) q) (sym e) (h.object (λ z. some (e ∙ z))) in
    let first : HasWords n (block_of a.object) (made_at a.object) xs (length xs) q = words_stay p q n (block_of a.object) (made_at a.object) xs (length xs) grows (g.object some) in
    (e, ext_get_or 0 xs ys same (λ (i : ℕ) (l : i < length xs). ap named (sym (first i l).value_is ∙ (there i (subst (λ (m : ℕ). i < m) same l)).value_is)))

-- a past that goes on twice
pub onward : (a b c : List Item) → ((more : List Item) × (b ≡ a ++ more)) → ((more : List Item) × (c ≡ b ++ more)) → (more : List Item) × (c ≡ a ++ more)
onward a b c g h = (g.0 ++ h.0, h.1 ∙ ap (λ (items : List Item). items ++ h.0) g.1 ∙ append_assoc a g.0 h.0)

-- a word more of an object that is read
pub read_word : (layout : Layout) (old mid new : SeatNow) (block key version got word value : ℕ) (found : Option ℕ) (words : List ℕ) → block < layout.config.buckets → key ≡ key_of layout.config.buckets block word → got ≡ version → found ≡ Some value
    → IsMade layout mid new (calls.Get key) (answers.Got got found) → word < length words → HasWords layout.config.buckets block version words word (record_of layout mid.track.past)
    → HasWords layout.config.buckets block version (slice_set words word value) (word + 1) (record_of layout new.track.past)
read_word layout old mid new block key version got word value found words l k v f made w h =
    let b : ℕ = layout.config.buckets in
    let p : Past = record_of layout mid.track.past in
    let q : Past = record_of layout new.track.past in
    let m : IsMade layout mid new (calls.Get key) (answers.Got version (Some value)) = subst (λ (x : Option ℕ). IsMade layout mid new (calls.Get key) (answers.Got version x)) f (subst (λ (n : ℕ). IsMade layout mid new (calls.Get key) (answers.Got n found)) v made) in
    more_words q b block version words word value w (words_stay p q b block version words word (grown layout mid.track.past new.track.past made.more made.grows) h) (got_word layout mid new block key version value word l k m)

-- what a cell shows that was read: none, or an object whose words were read then
pub shows_none : (layout : Layout) (old new : SeatNow) (cell version object : ℕ) (value : Option ℕ) (words : List ℕ) → cell < layout.config.buckets → object ≡ named value → object ≡ 0 → IsMade layout old new (calls.Get cell) (answers.Got version value)
    → IsShown layout new.track.past cell (record { cell = cell; version = version; object = object }) words
shows_none layout old new cell version object value words l e z made = record { within = got_cell layout old new cell version object value l e made; object = λ some. absurd (some z) }

pub shows_words : (layout : Layout) (old mid new : SeatNow) (more : List Item) (cell version object : ℕ) (value : Option ℕ) (words : List ℕ) → cell < layout.config.buckets → object ≡ named value → IsMade layout old mid (calls.Get cell) (answers.Got version value) → new.track.past ≡ mid.track.past ++ more
    → HasWords layout.config.buckets (block_of object) (made_at object) words (length words) (record_of layout new.track.past) → IsShown layout new.track.past cell (record { cell = cell; version = version; object = object }) words
shows_words layout old mid new more cell version object value words l e made grows h = record {
  within = cell_stays (record_of layout mid.track.past) (record_of layout new.track.past) cell (record { cell = cell; version = version; object = object }) (grown layout mid.track.past new.track.past more grows) (got_cell layout old mid cell version object value l e made);
  object = λ some. h;
}

-- a cell that was changed
pub done_cell : (layout : Layout) (old new : SeatNow) (cell wanted version object : ℕ) (clock : ClockMove) → cell < layout.config.buckets → IsMade layout old new (calls.PutIf cell object wanted) (answers.Done version clock)
    → IsIn (record_of layout new.track.past) cell (record { cell = cell; version = version; object = object })
done_cell layout old new cell wanted version object clock l made =
    let b = in_cell layout.config.buckets cell l in
    let p : Past = record_of layout new.track.past in
    record {
      of = refl;
      had = subst (λ (n : ℕ). version ≤ count_of n p) b made.known.done.met.until;
      names = ap named (subst (λ (n : ℕ). value_at n version cell p ≡ Some object) b made.known.done.value_is);
    }

-- from the version that was seen
pub done_next : (layout : Layout) (old new : SeatNow) (seen : Seen) (version object : ℕ) (clock : ClockMove) → seen.cell < layout.config.buckets → IsMade layout old new (calls.PutIf seen.cell object seen.version) (answers.Done version clock)
    → IsNext layout new.track.past seen object (record { cell = seen.cell; version = version; object = object })
done_next layout old new seen version object clock l made = record { within = done_cell layout old new seen.cell seen.version version object clock l made; object_is = refl; next = made.known.next }

-- and shows the words that were put before
pub shows_put : (layout : Layout) (old mid new : SeatNow) (more : List Item) (cell : ℕ) (seen : Seen) (object : ℕ) (words : List ℕ) → seen.object ≡ object → new.track.past ≡ mid.track.past ++ more → IsIn (record_of layout new.track.past) cell seen
    → HasWords layout.config.buckets (block_of object) (made_at object) words (length words) (record_of layout mid.track.past) → IsShown layout new.track.past cell seen words
shows_put layout old mid new more cell seen object words e grows within h =
    let p : Past = record_of layout mid.track.past in
    let q : Past = record_of layout new.track.past in
    record {
      within = within;
      object = λ some. subst (λ (x : ℕ). HasWords layout.config.buckets (block_of x) (made_at x) words (length words) q) (sym e) (words_stay p q layout.config.buckets (block_of object) (made_at object) words (length words) (grown layout mid.track.past new.track.past more grows) h);
    }

-- the object's number
pub named_words : (p : Past) (buckets block version object : ℕ) (words : List ℕ) → IsName block version object → HasWords buckets block version words (length words) p → HasWords buckets (block_of object) (made_at object) words (length words) p
named_words p buckets block version object words n h =
    subst (λ (b : ℕ). HasWords buckets b (made_at object) words (length words) p) (sym n.block_is) (subst (λ (v : ℕ). HasWords buckets block v words (length words) p) (sym n.version_is) h)

-- the cell that names them
pub placed : (layout : Layout) (old mid new : SeatNow) (more : List Item) (seen : Seen) (block object : ℕ) (words : List ℕ) (now : Seen) → IsWritten layout mid.track.past block words object → new.track.past ≡ mid.track.past ++ more → IsNext layout new.track.past seen object now
    → IsPlaced layout new.track.past seen block words now
placed layout old mid new more seen block object words now w grows n = record {
  shown = shows_put layout old mid new more seen.cell now object words n.object_is grows n.within w.words_are;
  some = λ z. w.some (sym n.object_is ∙ z);
  block_is = ap block_of n.object_is ∙ w.block_is;
  next = n.next;
}
