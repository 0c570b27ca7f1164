-- What each step of a call tells, and what the phase that it leaves knows.
use Rattle.std.proofs.Common.{ℕ, ◌+◌, ◌%◌, ◌<◌, ◌≤◌, ◌≡◌, Bool, true, false, arith, refl, ap, ◌∙◌, sym, subst, List, [], ◌∷◌, ◌++◌, length}
use Rattle.std.proofs.lemmas.Bool.Decides.{nat_tests}
use Rattle.std.proofs.lemmas.List.{length-append, take_all, drop_all}
use Rattle.std.specs.Prelude.{◌==◌, nat_lt, take, drop, Option, Some, None}
use Rattle.inv_ends.specs.model.words.Place.{Place}
use Rattle.inv_ends.specs.model.words.Place.Place.{Row}
use Rattle.inv_ends.specs.model.defs.Pairs.{Pair, changed, value_in}
use Rattle.inv_ends.specs.model.defs.declared.call.Answer.{Answer}
use Rattle.inv_ends.specs.model.defs.declared.call.Answer.TheVariants as the_answers
use Rattle.inv_ends.specs.model.defs.declared.event.Event.{Event}
use Rattle.inv_ends.specs.model.defs.declared.event.Root.TheVariants as roots
use Rattle.inv_ends.specs.model.declared.post.Post.{Post}
use Rattle.inv_ends.specs.model.Desks.{Desk}
use Rattle.inv_ends.specs.model.Memory.{place_in, found}
use Rattle.inv_ends.specs.model.Rounds.{bucket_of, clearing}
use Rattle.inv_ends.specs.model.Get as gets
use Rattle.inv_ends.specs.model.Change as alters
use Rattle.inv_ends.specs.model.Keep as keeps
use Rattle.inv_ends.specs.model.Calls.{ChangeKept, Task, Changes, Next, Again, Answering, GetAt, FindVersion, FindCount, FindKey, FindValue, ChangeAt, LoadVersion, LoadCount, LoadKey, LoadValue, ExchangeRoot, CallTurn, CallOutcome, GoesOn, Answers, answers}
use Rattle.inv_ends.proofs.model.Facts.{same_number, same_test}
use Rattle.inv_ends.specs.shapes.Frame.{read_slot}
use Rattle.inv_all.specs.Contents.Shelf.{Shelf, Shows}
use Rattle.inv_all.specs.Contents.Knows.{Ground, pair_at, FoundRow, FoundKeys, GetKnows, AtCount, AtValue, Decided, ChangeKnows, FillKnows, changes_in, get_reads}
use Rattle.inv_all.proofs.Contents.Contents.Told.{all_calm, calm_claimed, FromRow}
use Rattle.inv_all.proofs.Contents.Contents.Lasts.{on}
use Rattle.inv_all.proofs.Contents.Contents.Lists.{take_next, value_next, value_here}
use Rattle.inv_all.proofs.Contents.Contents.Reading.{version_shown, count_shown, key_shown, value_shown}
use Rattle.inv_all.proofs.Contents.Contents.Rounds.{Turns, turns_adds, clearing_adds, got_turns}

-- rows that a call reads show what they should
abbrev pub Shown : (ℕ → Bool) → Shelf → (Place → ℕ) → Type 0
Shown reads a mem = (s b : ℕ) → reads s ≡ true → a.root s ≡ roots.Bucket b → Shows mem s (a.version s) (a.pairs s)

-- what a get's step owes for what it tells: its buckets are the table's, and a row that it reads has a version that there was
pub record GetOwes (n : ℕ) (a : Shelf) (post : Post) (reads : ℕ → Bool) : Type 0 where
  pub buckets : post.layout.config.buckets ≡ n
  pub lows : (s b : ℕ) → reads s ≡ true → a.root s ≡ roots.Bucket b → a.version s ≤ a.count b

got_row : (n : ℕ) (a : Shelf) (mem : Place → ℕ) (key slot version : ℕ) (value : Option ℕ) (post : Post) (desk : Desk) → post.layout.config.buckets ≡ n → a.version slot ≤ a.count (key % n) → FoundRow (on n a mem) (key % n) slot version → value ≡ value_in (a.pairs slot) key → Turns (on n a mem) (gets.got key version value post desk [])
got_row n a mem key slot version value post desk p low row v =
    let same : key % n ≡ bucket_of post key = ap (λ (k : ℕ). key % k) (sym p) in
    got_turns (on n a mem) key version value post desk [] refl (FromRow slot (row.root ∙ ap (λ (k : ℕ). roots.Bucket k) same) (subst (λ (k : ℕ). a.version slot ≤ a.count k) same low) row.shown v)

none_left : (ps : List Pair) (pair key : ℕ) → length ps ≤ pair → value_in (drop pair ps) key ≡ None
none_left ps pair key h = ap (λ (l : List Pair). value_in l key) (drop_all pair ps h)

pub clearing_turns : (g : Ground) (task : Task) (next : Next) (post : Post) (desk : Desk) (told : List Event) → all_calm told ≡ true → Turns g (clearing task next post desk told)
clearing_turns g task next post desk told h = turns_adds g told (clearing task next post desk told) h (clearing_adds task next post desk told)

-- a get
finding_turns : (n : ℕ) (a : Shelf) (mem : Place → ℕ) (key slot version count : ℕ) (post : Post) (desk : Desk) (more : Bool) (pair : ℕ) → nat_lt pair count ≡ more → FoundRow (on n a mem) (key % n) slot version → count ≡ length (a.pairs slot) → value_in (a.pairs slot) key ≡ value_in (drop pair (a.pairs slot)) key → post.layout.config.buckets ≡ n → a.version slot ≤ a.count (key % n) → Turns (on n a mem) (gets.finding key slot version count post desk more pair)
finding_turns n a mem key slot version count post desk true pair e row counted value p low =
    record { calm = tt; knows = record { row = row; counted = counted; more = grind (arith, nat_tests); value = value } }
finding_turns n a mem key slot version count post desk false pair e row counted value p low =
    let over : length (a.pairs slot) ≤ pair = grind (arith, nat_tests) in
    got_row n a mem key slot version None post desk p low row (sym (value ∙ none_left (a.pairs slot) pair key over))

found_key_turns : (n : ℕ) (a : Shelf) (mem : Place → ℕ) (key slot version count pair found : ℕ) (post : Post) (desk : Desk) (own : Bool) → (found == key) ≡ own → found ≡ (pair_at (a.pairs slot) pair).0 → FoundKeys (on n a mem) (key % n) key slot version count pair → post.layout.config.buckets ≡ n → a.version slot ≤ a.count (key % n) → Turns (on n a mem) (gets.found_key key slot version count pair post desk own)
found_key_turns n a mem key slot version count pair found post desk true e f h p low =
    let lt : pair < length (a.pairs slot) = subst (λ (c : ℕ). pair < c) h.counted h.more in
    let own : ((pair_at (a.pairs slot) pair).0 == key) ≡ true = subst (λ (x : ℕ). (x == key) ≡ true) f e in
    record { calm = tt; knows = record { row = h.row; more = lt; value = h.value ∙ value_here (a.pairs slot) pair key lt own } }
found_key_turns n a mem key slot version count pair found post desk false e f h p low =
    let lt : pair < length (a.pairs slot) = subst (λ (c : ℕ). pair < c) h.counted h.more in
    let other : ((pair_at (a.pairs slot) pair).0 == key) ≡ false = subst (λ (x : ℕ). (x == key) ≡ false) f e in
    finding_turns n a mem key slot version count post desk (nat_lt (pair + 1) count) (pair + 1) refl h.row h.counted (h.value ∙ value_next (a.pairs slot) pair key lt other) p low

pub get_turns : (n : ℕ) (a : Shelf) (mem : Place → ℕ) (key : ℕ) (at : GetAt) (post : Post) (desk : Desk) → GetOwes n a post (get_reads at) → Shown (get_reads at) a mem → GetKnows (on n a mem) (key % n) key at
    → Turns (on n a mem) (gets.get_turn key at post desk (found (gets.get_move at) (mem (place_in (gets.get_move at)))))
get_turns n a mem key (FindVersion slot) post desk o r h =
    record { calm = tt; knows = record { root = h; shown = version_shown mem slot (a.version slot) (a.pairs slot) (r slot (key % n) (same_number slot) h) } }
get_turns n a mem key (FindCount slot version) post desk o r h =
    finding_turns n a mem key slot version (mem (Row slot 2)) post desk (nat_lt 0 (mem (Row slot 2))) 0 refl h (count_shown mem slot (a.version slot) (a.pairs slot) (r slot (key % n) (same_number slot) h.root)) refl o.buckets (o.lows slot (key % n) (same_number slot) h.root)
get_turns n a mem key (FindKey slot version count pair) post desk o r h =
    let lt : pair < length (a.pairs slot) = subst (λ (c : ℕ). pair < c) h.counted h.more in
    let word : mem (Row slot (gets.key_place pair)) ≡ (pair_at (a.pairs slot) pair).0 = key_shown mem slot (a.version slot) (a.pairs slot) pair lt (r slot (key % n) (same_number slot) h.row.root) in
    found_key_turns n a mem key slot version count pair (mem (Row slot (gets.key_place pair))) post desk (mem (Row slot (gets.key_place pair)) == key) refl word h o.buckets (o.lows slot (key % n) (same_number slot) h.row.root)
get_turns n a mem key (FindValue slot version pair) post desk o r h =
    let word : mem (Row slot (gets.value_place pair)) ≡ (pair_at (a.pairs slot) pair).1 = value_shown mem slot (a.version slot) (a.pairs slot) pair h.more (r slot (key % n) (same_number slot) h.row.root) in
    got_row n a mem key slot version (Some (mem (Row slot (gets.value_place pair)))) post desk o.buckets (o.lows slot (key % n) (same_number slot) h.row.root) h.row (ap (λ (x : ℕ). Some x) word ∙ sym h.value)

-- what a look of row s answers, which is one of some bucket
pub record Looked (g : Ground) (key s slot version : ℕ) (value : Option ℕ) : Type 0 where
  pub same : slot ≡ s
  pub bucket : ℕ
  pub row : FoundRow g bucket slot version
  pub right : value ≡ value_in (g.shelf.pairs slot) key

abbrev pub LookAnswer : Ground → (key s : ℕ) → Answer → Type 0
LookAnswer g key s (the_answers.Looked slot version value) = Looked g key s slot version value
LookAnswer g key s answer = Unit {0}

abbrev pub LookOutcome : Ground → (key s : ℕ) → CallOutcome → Type 0
LookOutcome g key s (GoesOn phase) = Unit {0}
LookOutcome g key s (Answers answer) = LookAnswer g key s answer

pub record LookTurns (g : Ground) (key s : ℕ) (t : CallTurn) : Type 0 where
  pub turns : Turns g t
  pub looked : LookOutcome g key s t.outcome

looked_row : (g : Ground) (bucket key slot version : ℕ) (value : Option ℕ) (post : Post) (desk : Desk) → FoundRow g bucket slot version → value ≡ value_in (g.shelf.pairs slot) key → LookTurns g key slot (answers post desk [] (the_answers.Looked slot version value))
looked_row g bucket key slot version value post desk row v = record { turns = record { calm = tt; knows = tt }; looked = record { same = refl; bucket = bucket; row = row; right = v } }

looking_turns : (n : ℕ) (a : Shelf) (mem : Place → ℕ) (bucket index key slot version count : ℕ) (post : Post) (desk : Desk) (more : Bool) (pair : ℕ) → nat_lt pair count ≡ more → FoundRow (on n a mem) bucket slot version → count ≡ length (a.pairs slot) → value_in (a.pairs slot) key ≡ value_in (drop pair (a.pairs slot)) key → LookTurns (on n a mem) key slot (keeps.looking index key slot version count post desk more pair)
looking_turns n a mem bucket index key slot version count post desk true pair e row counted value =
    record { turns = record { calm = tt; knows = record { bucket = bucket; reads = record { row = row; counted = counted; more = grind (arith, nat_tests); value = value } } }; looked = tt }
looking_turns n a mem bucket index key slot version count post desk false pair e row counted value =
    let over : length (a.pairs slot) ≤ pair = grind (arith, nat_tests) in
    looked_row (on n a mem) bucket key slot version None post desk row (sym (value ∙ none_left (a.pairs slot) pair key over))

looked_key_turns : (n : ℕ) (a : Shelf) (mem : Place → ℕ) (bucket index key slot version count pair found : ℕ) (post : Post) (desk : Desk) (own : Bool) → (found == key) ≡ own → found ≡ (pair_at (a.pairs slot) pair).0 → FoundKeys (on n a mem) bucket key slot version count pair → LookTurns (on n a mem) key slot (keeps.looked_key index key slot version count pair post desk own)
looked_key_turns n a mem bucket index key slot version count pair found post desk true e f h =
    let lt : pair < length (a.pairs slot) = subst (λ (c : ℕ). pair < c) h.counted h.more in
    let own : ((pair_at (a.pairs slot) pair).0 == key) ≡ true = subst (λ (x : ℕ). (x == key) ≡ true) f e in
    record { turns = record { calm = tt; knows = record { bucket = bucket; reads = record { row = h.row; more = lt; value = h.value ∙ value_here (a.pairs slot) pair key lt own } } }; looked = tt }
looked_key_turns n a mem bucket index key slot version count pair found post desk false e f h =
    let lt : pair < length (a.pairs slot) = subst (λ (c : ℕ). pair < c) h.counted h.more in
    let other : ((pair_at (a.pairs slot) pair).0 == key) ≡ false = subst (λ (x : ℕ). (x == key) ≡ false) f e in
    looking_turns n a mem bucket index key slot version count post desk (nat_lt (pair + 1) count) (pair + 1) refl h.row h.counted (h.value ∙ value_next (a.pairs slot) pair key lt other)

pub look_turns : (n : ℕ) (a : Shelf) (mem : Place → ℕ) (bucket index key : ℕ) (at : GetAt) (post : Post) (desk : Desk) → Shown (get_reads at) a mem → GetKnows (on n a mem) bucket key at
    → LookTurns (on n a mem) key (read_slot at) (keeps.look_turn index key at post desk (found (gets.get_move at) (mem (place_in (gets.get_move at)))))
look_turns n a mem bucket index key (FindVersion slot) post desk r h =
    record { turns = record { calm = tt; knows = record { bucket = bucket; reads = record { root = h; shown = version_shown mem slot (a.version slot) (a.pairs slot) (r slot bucket (same_number slot) h) } } }; looked = tt }
look_turns n a mem bucket index key (FindCount slot version) post desk r h =
    looking_turns n a mem bucket index key slot version (mem (Row slot 2)) post desk (nat_lt 0 (mem (Row slot 2))) 0 refl h (count_shown mem slot (a.version slot) (a.pairs slot) (r slot bucket (same_number slot) h.root)) refl
look_turns n a mem bucket index key (FindKey slot version count pair) post desk r h =
    let lt : pair < length (a.pairs slot) = subst (λ (c : ℕ). pair < c) h.counted h.more in
    let word : mem (Row slot (gets.key_place pair)) ≡ (pair_at (a.pairs slot) pair).0 = key_shown mem slot (a.version slot) (a.pairs slot) pair lt (r slot bucket (same_number slot) h.row.root) in
    looked_key_turns n a mem bucket index key slot version count pair (mem (Row slot (gets.key_place pair))) post desk (mem (Row slot (gets.key_place pair)) == key) refl word h
look_turns n a mem bucket index key (FindValue slot version pair) post desk r h =
    let word : mem (Row slot (gets.value_place pair)) ≡ (pair_at (a.pairs slot) pair).1 = value_shown mem slot (a.version slot) (a.pairs slot) pair h.more (r slot bucket (same_number slot) h.row.root) in
    looked_row (on n a mem) bucket key slot version (Some (mem (Row slot (gets.value_place pair)))) post desk h.row (ap (λ (x : ℕ). Some x) word ∙ sym h.value)

-- a put or a remove

filling_knows : (g : Ground) (kept : ChangeKept) (x : Option ℕ) → Decided g kept → FillKnows g kept (alters.filling_by kept x)
filling_knows g kept None h = h
filling_knows g kept (Some slot) h = record { decided = h; same = refl; words = λ q low high. absurd (omega arith) }

deciding_by_turns : (g : Ground) (kept : ChangeKept) (post : Post) (desk : Desk) (told : List Event) (x : Option Answer) → all_calm told ≡ true → Decided g (alters.with_change kept) → Turns g (alters.deciding_by kept post desk told x)
deciding_by_turns g kept post desk told (Some answer) c h = clearing_turns g (Changes kept) (Answering answer) post desk told c
deciding_by_turns g kept post desk told None c h = record { calm = calm_claimed g.shelf told c; knows = filling_knows g (alters.with_change kept) kept.taken h }

pub deciding_turns : (g : Ground) (kept : ChangeKept) (post : Post) (desk : Desk) (told : List Event) → all_calm told ≡ true → Decided g (alters.with_change kept) → Turns g (alters.deciding kept post desk told)
deciding_turns g kept post desk told c h = deciding_by_turns g kept post desk told (alters.refused post.layout.config kept) c h

same_slot : (link slot s : ℕ) → link ≡ slot + 1 → link ≡ s + 1 → slot ≡ s
same_slot link slot s h k = omega arith

-- all pairs of the row are read
read_decided : (g : Ground) (kept : ChangeKept) (slot : ℕ) → kept.link ≡ slot + 1 → g.shelf.root slot ≡ roots.Bucket (changes_in g kept) → kept.version ≡ g.shelf.version slot → kept.pairs ≡ g.shelf.pairs slot → Decided g (alters.with_change kept)
read_decided g kept slot link root version pairs = record {
  fresh = λ e. absurd (omega arith);
  none = λ e. absurd (omega arith);
  root = λ s l. subst (λ (x : ℕ). g.shelf.root x ≡ roots.Bucket (changes_in g kept)) (same_slot kept.link slot s link l) root;
  version = λ s l. subst (λ (x : ℕ). kept.version ≡ g.shelf.version x) (same_slot kept.link slot s link l) version;
  pairs = λ s l. subst (λ (x : ℕ). changed kept.pairs kept.change ≡ changed (g.shelf.pairs x) kept.change) (same_slot kept.link slot s link l) (ap (λ (ps : List Pair). changed ps kept.change) pairs);
}

-- there is no row
pub null_decided : (g : Ground) (kept : ChangeKept) → Decided g (alters.with_change (alters.at_link kept 0))
null_decided g kept = record {
  fresh = λ e. refl;
  none = λ e. refl;
  root = λ s l. absurd (omega arith);
  version = λ s l. absurd (omega arith);
  pairs = λ s l. absurd (omega arith);
}

pub empty_list : (ps : List Pair) → length ps ≡ 0 → ps ≡ []
empty_list [] h = refl
empty_list (p ∷ ps) h = absurd (omega arith)

counting_turns : (n : ℕ) (a : Shelf) (mem : Place → ℕ) (kept : ChangeKept) (slot count : ℕ) (post : Post) (desk : Desk) (more : Bool) → nat_lt 0 count ≡ more → count ≡ length (a.pairs slot) → AtCount (on n a mem) kept slot → Turns (on n a mem) (alters.reading kept slot count post desk more)
counting_turns n a mem kept slot count post desk true e c h =
    let zero_read : length kept.pairs ≡ 0 = ap (λ (ps : List Pair). length ps) h.row.none in
    let positive : 0 < count = grind (arith, nat_tests) in
    record { calm = tt; knows = record { link = h.row.link; root = h.row.root; version = h.version; counted = c; more = omega arith; pairs = h.row.none ∙ sym (ap (λ (k : ℕ). take k (a.pairs slot)) zero_read) } }
counting_turns n a mem kept slot count post desk false e c h =
    let none : length (a.pairs slot) ≡ 0 = grind (arith, nat_tests) in
    deciding_turns (on n a mem) kept post desk [] refl (read_decided (on n a mem) kept slot h.row.link h.row.root h.version (h.row.none ∙ sym (empty_list (a.pairs slot) none)))

read_length : (kept : ChangeKept) (key value : ℕ) → length (alters.with_read kept key value).pairs ≡ length kept.pairs + 1
read_length kept key value = length-append kept.pairs ((key, value) ∷ [])

-- one pair more is read
read_pairs : (kept : ChangeKept) (ps : List Pair) (key value : ℕ) → length kept.pairs < length ps → kept.pairs ≡ take (length kept.pairs) ps → key ≡ (pair_at ps (length kept.pairs)).0 → value ≡ (pair_at ps (length kept.pairs)).1 → kept.pairs ++ (key, value) ∷ [] ≡ take (length kept.pairs + 1) ps
read_pairs kept ps key value lt e k v =
    rw (k, v) (ap (λ (l : List Pair). l ++ pair_at ps (length kept.pairs) ∷ []) e ∙ take_next ps (length kept.pairs) lt)

reading_turns : (n : ℕ) (a : Shelf) (mem : Place → ℕ) (kept : ChangeKept) (slot count key value : ℕ) (post : Post) (desk : Desk) (more : Bool) → nat_lt (length kept.pairs + 1) count ≡ more → value ≡ (pair_at (a.pairs slot) (length kept.pairs)).1 → AtValue (on n a mem) kept slot count key → Turns (on n a mem) (alters.reading (alters.with_read kept key value) slot count post desk more)
reading_turns n a mem kept slot count key value post desk true e v h =
    let lt : length kept.pairs < length (a.pairs slot) = subst (λ (c : ℕ). length kept.pairs < c) h.row.counted h.row.more in
    let long : length (kept.pairs ++ (key, value) ∷ []) ≡ length kept.pairs + 1 = read_length kept key value in
    let under : length kept.pairs + 1 < count = grind (arith, nat_tests) in
    record {
      calm = tt;
      knows = record {
        link = h.row.link;
        root = h.row.root;
        version = h.row.version;
        counted = h.row.counted;
        more = subst (λ (c : ℕ). c < count) (sym long) under;
        pairs = read_pairs kept (a.pairs slot) key value lt h.row.pairs h.own v ∙ sym (ap (λ (c : ℕ). take c (a.pairs slot)) long);
      };
    }
reading_turns n a mem kept slot count key value post desk false e v h =
    let lt : length kept.pairs < length (a.pairs slot) = subst (λ (c : ℕ). length kept.pairs < c) h.row.counted h.row.more in
    let counted : count ≡ length (a.pairs slot) = h.row.counted in
    let whole : length (a.pairs slot) ≤ length kept.pairs + 1 = grind (arith, nat_tests) in
    deciding_turns (on n a mem) (alters.with_read kept key value) post desk [] refl (read_decided (on n a mem) (alters.with_read kept key value) slot h.row.link h.row.root h.row.version (read_pairs kept (a.pairs slot) key value lt h.row.pairs h.own v ∙ take_all (length kept.pairs + 1) (a.pairs slot) whole))

pub missed_turns : (g : Ground) (kept : ChangeKept) (slot : ℕ) (post : Post) (desk : Desk) → Turns g (alters.exchanged kept slot post desk false)
missed_turns g kept slot post desk = clearing_turns g (Changes kept) Again post desk [] refl

-- the exchange of the root is left to another lemma
abbrev pub is_reading : ChangeAt → Bool
is_reading (LoadVersion slot) = true
is_reading (LoadCount slot) = true
is_reading (LoadKey slot count) = true
is_reading (LoadValue slot count key) = true
is_reading (ExchangeRoot slot) = false

pub change_turns : (n : ℕ) (a : Shelf) (mem : Place → ℕ) (kept : ChangeKept) (at : ChangeAt) (post next : Post) (desk : Desk) → is_reading at ≡ true → Shown (λ s. kept.link == s + 1) a mem → ChangeKnows (on n a mem) kept at
    → Turns (on n a mem) (alters.change_turn kept at next desk (found (alters.change_move kept at post) (mem (place_in (alters.change_move kept at post)))))
change_turns n a mem kept (LoadVersion slot) post next desk y r h =
    record { calm = tt; knows = record { row = record { link = h.link; root = h.root; none = h.none }; version = version_shown mem slot (a.version slot) (a.pairs slot) (r slot (changes_in (on n a mem) kept) (same_test kept.link (slot + 1) h.link) h.root) } }
change_turns n a mem kept (LoadCount slot) post next desk y r h =
    counting_turns n a mem kept slot (mem (Row slot 2)) next desk (nat_lt 0 (mem (Row slot 2))) refl (count_shown mem slot (a.version slot) (a.pairs slot) (r slot (changes_in (on n a mem) kept) (same_test kept.link (slot + 1) h.row.link) h.row.root)) h
change_turns n a mem kept (LoadKey slot count) post next desk y r h =
    let lt : length kept.pairs < length (a.pairs slot) = subst (λ (c : ℕ). length kept.pairs < c) h.counted h.more in
    record { calm = tt; knows = record { row = h; own = key_shown mem slot (a.version slot) (a.pairs slot) (length kept.pairs) lt (r slot (changes_in (on n a mem) kept) (same_test kept.link (slot + 1) h.link) h.root) } }
change_turns n a mem kept (LoadValue slot count key) post next desk y r h =
    let lt : length kept.pairs < length (a.pairs slot) = subst (λ (c : ℕ). length kept.pairs < c) h.row.counted h.row.more in
    reading_turns n a mem kept slot count key (mem (Row slot (gets.value_place (length kept.pairs)))) next desk (nat_lt (length kept.pairs + 1) count) refl (value_shown mem slot (a.version slot) (a.pairs slot) (length kept.pairs) lt (r slot (changes_in (on n a mem) kept) (same_test kept.link (slot + 1) h.row.link) h.row.root)) h
change_turns n a mem kept (ExchangeRoot slot) post next desk y r h = absurd (cc)
