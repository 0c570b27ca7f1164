-- Why a load shows nothing, and why a cell is not changed.
use Rattle.std.proofs.Common.{List, None, Option, Some, [], ap, arith, length, refl, subst, sym, true, ℕ, ◌*◌, ◌+◌, ◌<◌, ◌∙◌, ◌∷◌, ◌≡◌, ◌≢◌, ◌≤◌, ◌⊎◌, inl, inr, mul_comm}
use Rattle.std.proofs.lemmas.Nat.{mul-add-lt}
use Rattle.std.specs.Prelude.{IfSome, slice_index_or, ◌==◌, ◌^◌}
use Rattle.wfe_table.proofs.all.laws.records.defs.Facts.{false_by, number_is}
use Rattle.wfe_core.proofs.Ranges.{bounds_of}
use Rattle.wfe_core.specs.defs.declared.call.Answer.TheVariants as answers
use Rattle.wfe_core.specs.defs.declared.call.Call.TheVariants as calls
use Rattle.wfe_core.specs.defs.declared.call.ClockMove.{ClockMove}
use Rattle.wfe_core.specs.words.Place.{is_valid}
use Rattle.wfe_core.specs.words.declared.layout.Layout.{Layout}
use Rattle.wfe_table.specs.Calls.{IsMade, enqueue_answer, put_if_answer}
use Rattle.wfe_table.specs.Public.{SeatNow}
use Rattle.wfe_table.specs.all.Logs.Answered.{IsMet, IsStale}
use Rattle.wfe_table.specs.all.Logs.Versions.{counts_of}
use Rattle.wfe_table.specs.all.laws.StructuresAt.{bucket_of}
use Rattle.wfe_table.specs.history.History.{Item, record_of}
use Rattle.wfe_table_end.specs.declared.refusals.EnqueueRefusal.{EnqueueRefusal}
use Rattle.wfe_table_end.specs.declared.refusals.EnqueueRefusal.TheVariants as enqueues
use Rattle.wfe_table_end.specs.declared.refusals.PutIfRefusal.{PutIfRefusal}
use Rattle.wfe_table_end.specs.declared.refusals.PutIfRefusal.TheVariants as put_ifs
use Rattle.wfe_cells.proofs.Among.{among_last, among_within, later_by, later_grows, later_on, later_self}
use Rattle.wfe_cells.proofs.Words.{in_block, in_cell, met_cell, met_later, met_still}
use Rattle.wfe_cells.specs.Reasons.{HasNoBlock, HasNone, IsCellRefused, IsDisturbed, IsLater, IsLost, IsMeant, IsNotGiven, IsNotQueued, IsRefused, IsRefusedAt, IsStaleAt, IsWordRefused, item_queued}
use Rattle.wfe_cells.specs.Wide.{IsWritten, block_of, key_of, made_at, named}
use Rattle.wfe_cells.specs.declared.wide.Seen.{Seen}
use Rattle.wfe_cells.specs.declared.wide.SwapRefusal.{SwapRefusal}
use Rattle.wfe_cells.specs.declared.wide.SwapRefusal.TheVariants as refusals
use Rattle.wfe_cells.specs.declared.wide.WideUser.{WideUser}

-- the key of a word fits
pub few_steps : (layout : Layout) (block word : ℕ) → is_valid layout ≡ true → block < layout.config.buckets → word < 14 → block + layout.config.buckets * word < 2 ^ 64
few_steps layout block word valid l w =
    let below : word * layout.config.buckets + block < layout.config.buckets * 14 = mul-add-lt word layout.config.buckets block 14 w l in
    let same : word * layout.config.buckets ≡ layout.config.buckets * word = mul_comm word layout.config.buckets in
    let most : layout.config.buckets ≤ 1024 = (bounds_of layout valid).buckets.1 in
    omega arith

-- a get of a word that told another version, or no word
pub moved : (layout : Layout) (a b c : SeatNow) (object key word width version : ℕ) (value : Option ℕ) → key ≡ key_of layout.config.buckets (block_of object) word → word < width → IsLater a b → IsMade layout b c (calls.Get key) (answers.Got version value)
    → (value ≡ None) ⊎ (version ≢ made_at object) → IsLost layout a c object width
moved layout a b c object key word width version value e within since made other =
    inr
    (record {
      word = word;
      within = within;
      version = version;
      value = value;
      told = among_last layout a b c (calls.Get (key_of layout.config.buckets (block_of object) word)) (answers.Got version value) since (subst (λ (k : ℕ). IsMade layout b c (calls.Get k) (answers.Got version value)) e made);
      other = other;
    })

named_some : (value : Option ℕ) (object : ℕ) → object ≡ named value → object ≢ 0 → value ≡ Some object
named_some None object e some = absurd (some e)
named_some (Some other) object e some = ap Some (sym e)

-- so the attempt was disturbed
pub disturbed : (layout : Layout) (old mid new : SeatNow) (cell version object width : ℕ) (value : Option ℕ) → object ≡ named value → object ≢ 0 → IsMade layout old mid (calls.Get cell) (answers.Got version value) → IsLost layout mid new object width
    → IsDisturbed layout cell width old new
disturbed layout old mid new cell version object width value e some made lost = record {
  version = version;
  object = object;
  mid = mid;
  named = subst (λ (v : Option ℕ). IsMade layout old mid (calls.Get cell) (answers.Got version v)) (named_some value object e some) made;
  some = some;
  lost = lost;
}

-- the cell had another version than the one that was seen
pub stale_got : (layout : Layout) (old new : SeatNow) (cell wanted version : ℕ) (value : Option ℕ) → cell < layout.config.buckets → IsMade layout old new (calls.Get cell) (answers.Got version value) → version ≢ wanted
    → IsStale (counts_of (record_of layout old.track.past)) (record_of layout new.track.past) cell wanted version
stale_got layout old new cell wanted version value l made apart = record {
  met = met_cell layout old new cell version value l made;
  other = false_by (version == wanted) (λ t. apart (number_is version wanted t));
}

pub stale_put : (layout : Layout) (old new : SeatNow) (cell object wanted version : ℕ) (refusal : PutIfRefusal) → cell < layout.config.buckets → refusal ≡ put_ifs.Stale version → IsMade layout old new (calls.PutIf cell object wanted) (put_if_answer refusal)
    → IsStale (counts_of (record_of layout old.track.past)) (record_of layout new.track.past) cell wanted version
stale_put layout old new cell object wanted version refusal l e made =
    let m : IsMade layout old new (calls.PutIf cell object wanted) (answers.Stale version) = subst (λ (r : PutIfRefusal). IsMade layout old new (calls.PutIf cell object wanted) (put_if_answer r)) e made in
    subst (λ (n : ℕ). IsStale (counts_of (record_of layout old.track.past)) (record_of layout new.track.past) n wanted version) (in_cell layout.config.buckets cell l) m.known

met_within : (layout : Layout) (a b c d : SeatNow) (cell version : ℕ) → IsLater a b → IsMet (counts_of (record_of layout b.track.past)) (record_of layout c.track.past) cell version → IsLater c d
    → IsMet (counts_of (record_of layout a.track.past)) (record_of layout d.track.past) cell version
met_within layout a b c d cell version since met until =
    met_later (record_of layout a.track.past) (record_of layout b.track.past) (record_of layout d.track.past) cell version (later_grows layout a b since)
    (met_still (record_of layout b.track.past) (record_of layout c.track.past) (record_of layout d.track.past) cell version (later_grows layout c d until) met)

stale_within : (layout : Layout) (a b c d : SeatNow) (cell wanted version : ℕ) → IsLater a b → IsStale (counts_of (record_of layout b.track.past)) (record_of layout c.track.past) cell wanted version → IsLater c d
    → IsStale (counts_of (record_of layout a.track.past)) (record_of layout d.track.past) cell wanted version
stale_within layout a b c d cell wanted version since stale until = record { met = met_within layout a b c d cell version since stale.met until; other = stale.other }

-- the object that a cell was to have, of words that stand in a bucket
meant_words : (layout : Layout) (past : List Item) (block object : ℕ) (words : List ℕ) → 1 ≤ length words → IsWritten layout past block words object → IsMeant layout past (Some block) words object
meant_words layout past block object [] some w = let none : 1 ≤ 0 = some in absurd (omega arith)
meant_words layout past block object (word ∷ words) some w = (ap Some (sym w.block_is), record { some = w.some; block_is = refl; words_are = w.words_are })

pub some_words : (words : List ℕ) → 1 ≤ length words → words ≢ []
some_words words some e = let none : 1 ≤ 0 = subst (λ (ws : List ℕ). 1 ≤ length ws) e some in omega arith

-- a put of the cell's object was refused, once its words stood, or of none
pub not_given : (layout : Layout) (old mid new : SeatNow) (seen : Seen) (block object : ℕ) (words : List ℕ) (refusal : SwapRefusal) → 1 ≤ length words → IsLater old mid → IsWritten layout mid.track.past block words object → IsNotGiven layout mid new seen object refusal
    → IsRefusedAt layout old new seen (Some block) words refusal
not_given layout old mid new seen block object words (refusals.Stale version) some since w r = stale_within layout old mid new new seen.cell seen.version version since r (later_self new)
not_given layout old mid new seen block object words (refusals.Refused refusal) some since w r =
    inr (record { object = object; told = record { before = mid; after = new; since = since; made = r; until = later_self new }; meant = meant_words layout mid.track.past block object words some w })
not_given layout old mid new seen block object words refusals.NoBlock some since w r = absurd r
not_given layout old mid new seen block object words (refusals.NotQueued refusal) some since w r = absurd r

pub none_given : (layout : Layout) (old mid new : SeatNow) (seen : Seen) (kept : Option ℕ) (refusal : SwapRefusal) → IsLater old mid → IsNotGiven layout mid new seen 0 refusal → IsRefusedAt layout old new seen kept [] refusal
none_given layout old mid new seen kept (refusals.Stale version) since r = stale_within layout old mid new new seen.cell seen.version version since r (later_self new)
none_given layout old mid new seen kept (refusals.Refused refusal) since r = inr (record { object = 0; told = record { before = mid; after = new; since = since; made = r; until = later_self new }; meant = refl })
none_given layout old mid new seen kept refusals.NoBlock since r = absurd r
none_given layout old mid new seen kept (refusals.NotQueued refusal) since r = absurd r

-- a put of a word was
pub word_refused : (layout : Layout) (a b c : SeatNow) (block key word version : ℕ) (words : List ℕ) (refusal : PutIfRefusal) → block < layout.config.buckets → key ≡ key_of layout.config.buckets block word → word < length words → IsLater a b
    → IsMet (counts_of (record_of layout a.track.past)) (record_of layout b.track.past) block version → IsMade layout b c (calls.PutIf key (slice_index_or words word 0) version) (put_if_answer refusal)
    → IsWordRefused layout a c (Some block) words refusal
word_refused layout a b c block key word version words refusal bucket e within since met made = record {
  block = block;
  keeps = refl;
  bucket = bucket;
  word = word;
  within = within;
  version = version;
  met = met_within layout a a b c block version (later_self a) met (later_by layout b c (calls.PutIf key (slice_index_or words word 0) version) (put_if_answer refusal) made);
  told =
      among_last layout a b c (calls.PutIf (key_of layout.config.buckets block word) (slice_index_or words word 0) version) (put_if_answer refusal) since
      (subst (λ (k : ℕ). IsMade layout b c (calls.PutIf k (slice_index_or words word 0) version) (put_if_answer refusal)) e made);
}

-- the version that a get has told of a bucket, and the one that a put has made, are versions that it had since
pub got_met : (layout : Layout) (old new : SeatNow) (block version : ℕ) (value : Option ℕ) → block < layout.config.buckets → IsMade layout old new (calls.Get block) (answers.Got version value)
    → IsMet (counts_of (record_of layout old.track.past)) (record_of layout new.track.past) block version
got_met layout old new block version value l made = met_cell layout old new block version value l made

pub put_met : (layout : Layout) (a b c : SeatNow) (block key value word wanted version : ℕ) (clock : ClockMove) → key ≡ key_of layout.config.buckets block word → block < layout.config.buckets → IsLater a b
    → IsMade layout b c (calls.PutIf key value wanted) (answers.Done version clock) → IsMet (counts_of (record_of layout a.track.past)) (record_of layout c.track.past) block version
put_met layout a b c block key value word wanted version clock e l since made =
    let here = in_block layout.config.buckets block word l in
    let there : IsMet (counts_of (record_of layout b.track.past)) (record_of layout c.track.past) block version =
    subst (λ (n : ℕ). IsMet (counts_of (record_of layout b.track.past)) (record_of layout c.track.past) n version) here
    (subst (λ (k : ℕ). IsMet (counts_of (record_of layout b.track.past)) (record_of layout c.track.past) (bucket_of layout.config.buckets k) version) e made.known.done.met) in
    met_within layout a b c c block version since there (later_self c)

pub put_range : (layout : Layout) (old new : SeatNow) (key value wanted version : ℕ) (clock : ClockMove) → IsMade layout old new (calls.PutIf key value wanted) (answers.Done version clock) → (1 ≤ version) × (version ≤ layout.config.last_version)
put_range layout old new key value wanted version clock made = (omega (arith, made.known.next), made.known.done.most)

-- none was in the queue, after other calls
none_within : (layout : Layout) (a b c : SeatNow) → IsLater a b → HasNone layout b c → HasNone layout a c
none_within layout a b c since (inl empty) = inl (among_within layout a b c c calls.Dequeue answers.Empty since empty (later_self c))
none_within layout a b c since (inr r) =
    inr
    (record {
      number = r.number;
      value = r.value;
      clock = r.clock;
      told = among_within layout a b c c calls.Dequeue (answers.Taken r.number r.value r.clock) since r.told (later_self c);
      foreign = r.foreign;
    })

-- a refusal of calls before, or among others
word_within : (layout : Layout) (a b c d : SeatNow) (kept : Option ℕ) (words : List ℕ) (refusal : PutIfRefusal) → IsLater a b → IsWordRefused layout b c kept words refusal → IsLater c d → IsWordRefused layout a d kept words refusal
word_within layout a b c d kept words refusal since r until = record {
  block = r.block;
  keeps = r.keeps;
  bucket = r.bucket;
  word = r.word;
  within = r.within;
  version = r.version;
  met = met_within layout a b c d r.block r.version since r.met until;
  told = among_within layout a b c d (calls.PutIf (key_of layout.config.buckets r.block r.word) (slice_index_or words r.word 0) r.version) (put_if_answer refusal) since r.told until;
}

cell_within : (layout : Layout) (a b c d : SeatNow) (seen : Seen) (kept : Option ℕ) (words : List ℕ) (refusal : PutIfRefusal) → IsLater a b → IsCellRefused layout b c seen kept words refusal → IsLater c d → IsCellRefused layout a d seen kept words refusal
cell_within layout a b c d seen kept words refusal since r until = record {
  object = r.object;
  told = record { before = r.told.before; after = r.told.after; since = later_on a b r.told.before since r.told.since; made = r.told.made; until = later_on r.told.after c d r.told.until until };
  meant = r.meant;
}

refused_within : (layout : Layout) (a b c d : SeatNow) (seen : Seen) (kept : Option ℕ) (words : List ℕ) (refusal : SwapRefusal) → IsLater a b → IsRefusedAt layout b c seen kept words refusal → IsLater c d → IsRefusedAt layout a d seen kept words refusal
refused_within layout a b c d seen kept words (refusals.Stale version) since r until = stale_within layout a b c d seen.cell seen.version version since r until
refused_within layout a b c d seen kept words (refusals.Refused refusal) since (inl r) until = inl (word_within layout a b c d kept words refusal since r until)
refused_within layout a b c d seen kept words (refusals.Refused refusal) since (inr r) until = inr (cell_within layout a b c d seen kept words refusal since r until)
refused_within layout a b c d seen kept words refusals.NoBlock since r until = absurd r
refused_within layout a b c d seen kept words (refusals.NotQueued refusal) since r until = absurd r

-- of a cell that had another version, whatever it was to have
pub refused_stale : (layout : Layout) (old new : SeatNow) (seen : Seen) (kept : Option ℕ) (words : List ℕ) (refusal : SwapRefusal) → IsStaleAt layout old new seen refusal → IsRefusedAt layout old new seen kept words refusal
refused_stale layout old new seen kept words (refusals.Stale version) r = r
refused_stale layout old new seen kept words (refusals.Refused refusal) r = absurd r
refused_stale layout old new seen kept words refusals.NoBlock r = absurd r
refused_stale layout old new seen kept words (refusals.NotQueued refusal) r = absurd r

-- and so of a thread
pub refused_user : (layout : Layout) (old new : WideUser) (b c : SeatNow) (seen : Seen) (words : List ℕ) (refusal : SwapRefusal) → IsLater old.seat b → IsRefusedAt layout b c seen new.spare words refusal → IsLater c new.seat → IsRefused layout old new seen words refusal
refused_user layout old new b c seen words (refusals.Stale version) since r until = refused_within layout old.seat b c new.seat seen new.spare words (refusals.Stale version) since r until
refused_user layout old new b c seen words (refusals.Refused refusal) since r until = refused_within layout old.seat b c new.seat seen new.spare words (refusals.Refused refusal) since r until
refused_user layout old new b c seen words refusals.NoBlock since r until = absurd r
refused_user layout old new b c seen words (refusals.NotQueued refusal) since r until = absurd r

-- an enqueue that is refused has queued nothing
pub unqueued : (block : ℕ) (refusal : EnqueueRefusal) → item_queued block (enqueue_answer refusal) ≡ None
unqueued block (enqueues.Spent number) = refl
unqueued block enqueues.Full = refl

-- no bucket was there, after calls that kept the one that the thread had
pub has_no_block : (layout : Layout) (old mid new : WideUser) → mid.spare ≡ old.spare → IsLater old.seat mid.seat → HasNoBlock layout mid new → HasNoBlock layout old new
has_no_block layout old mid new same since h = record { spare = subst (λ (spare : Option ℕ). IfSome spare (λ block. layout.config.buckets ≤ block)) same h.spare; none = none_within layout old.seat mid.seat new.seat since h.none }

-- nor could that be queued
pub not_queued_since : (layout : Layout) (old mid new : WideUser) (refusal : EnqueueRefusal) → mid.spare ≡ old.spare → IsLater old.seat mid.seat → IsNotQueued layout mid new refusal → IsNotQueued layout old new refusal
not_queued_since layout old mid new refusal same since h = record {
  block = h.block;
  spare = sym same ∙ h.spare;
  told = among_within layout old.seat mid.seat new.seat new.seat (calls.Enqueue h.block) (enqueue_answer refusal) since h.told (later_self new.seat);
}
