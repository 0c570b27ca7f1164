-- What answers say of the map is so by the changes that the record has.
use Rattle.std.proofs.Common.{[], ◌∷◌, Bool, List, Some, ap, arith, false, get_or, length, length-append, refl, sym, true, ℕ, ◌+◌, ◌-◌, ◌<◌, ◌∙◌, ◌≡◌, ◌≤◌}
use Rattle.std.proofs.lemmas.List.{get_or_append_left}
use Rattle.std.proofs.lemmas.Option.{slice_get_read}
use Rattle.std.specs.Prelude.{if◌then◌else◌, is_some, nat_le, nat_lt, slice_get, ◌&&◌, ◌==◌, ◌||◌}
use Rattle.law_all.proofs.inv.model.Facts.{rest_of}
use Rattle.law_all.specs.inv.model.Locals.{Group}
use Rattle.law_all.specs.inv.model.defs.Pairs.{Pair, value_in}
use Rattle.law_all.specs.inv.model.defs.declared.call.Answer.TheVariants as answers
use Rattle.law_all.specs.inv.model.defs.declared.call.Answer.{Answer}
use Rattle.law_all.specs.inv.model.defs.declared.call.Call.TheVariants as calls
use Rattle.law_all.specs.inv.model.defs.declared.call.Call.{Call}
use Rattle.law_all.specs.inv.model.defs.declared.call.ClockMove.TheVariants as moves
use Rattle.law_all.specs.inv.model.defs.declared.call.ClockMove.{ClockMove}
use Rattle.law_all.specs.inv.model.defs.declared.event.Event.TheVariants as events
use Rattle.law_all.specs.inv.model.defs.declared.fold.Change.TheVariants as changes
use Rattle.law_all.specs.inv.model.defs.declared.fold.Change.{Change}
use Rattle.law_all.specs.inv.model.words.declared.config.Config.{Config}
use Rattle.law_all.specs.inv.model.words.declared.layout.Layout.{Layout}
use Rattle.law_all.specs.inv.history.History.{Item, record_of}
use Rattle.law_all.specs.inv.history.Record.{Past}
use Rattle.law_all.specs.Logs.Answered.{Says}
use Rattle.law_all.specs.Logs.Versions.{Counts, counts_of}
use Rattle.law_all.proofs.Logs.Answered.{pairs_on}
use Rattle.law_all.proofs.Logs.Counts.{begun_counts}
use Rattle.law_all.proofs.Logs.Grows.{Grows}
use Rattle.law_all.specs.laws.HistoryAnswers.{put_reason, same_told}
use Rattle.law_all.proofs.Logs.Heard.{AllHeard, ChangeHeard, heard_one, same_put, same_removed}
use Rattle.law_all.specs.laws.StateAt.{told_of}
use Rattle.law_all.specs.laws.StructuresAt.{bucket_of, changes_of, count_of, had_version, is_there, pairs_at}
use Rattle.law_all.specs.RunLaw.{IsCall, IsMade, ReadsRight, could_put}
use Rattle.law_all.specs.Runs.{AtRest, logs_of}
use Rattle.law_all.proofs.Runs.Bounds.{Bounds, bounds}
use Rattle.law_all.proofs.Runs.Calls.{Called, called}
use Rattle.law_all.proofs.Runs.Closes.{Closes, closes}

-- a change that is done is that of its version, and it could be made from the pairs of the version before
change_there : (b version : ℕ) (p r : Past) (change : Change) → version ≤ count_of b p → 0 < version → get_or (changes_of b p) (version - 1) change ≡ change
    → Grows p r → slice_get (changes_of b r) (version - 1) ≡ Some change
change_there b version p r change most low here g =
    let m = g.changes b in
    let within : version - 1 < length (changes_of b p) = omega (arith, low, most) in
    let more : length (changes_of b r) ≡ length (changes_of b p) + length m.0 =
    ap (λ (all : List Change). length all) m.1 ∙ length-append (changes_of b p) m.0 in
    let in_all : version - 1 < length (changes_of b r) = omega (arith, within, more) in
    let same : get_or (changes_of b r) (version - 1) change ≡ change =
    ap (λ (all : List Change). get_or all (version - 1) change) m.1 ∙ get_or_append_left (changes_of b p) m.0 change (version - 1) within ∙ here in
    slice_get_read (changes_of b r) (length (changes_of b r)) (version - 1) change refl in_all (sym same)

made : (n : ℕ) (from : Counts) (p r : Past) (b key version : ℕ) (change : Change) (could : List Pair → Bool) → ChangeHeard n from p b key version change
    → Grows p r → could (pairs_at b (version - 1) p) ≡ true
    → IsMade (changes_of b r) change version (could (pairs_at b (version - 1) r))
made n from p r b key version change could h g possible =
    let low : 0 < version = omega (arith, h.later) in
    let before : version - 1 ≤ count_of b p = omega (arith, h.met.until) in
    record {
      some = omega (arith, low);
      is = change_there b version p r change h.met.until low h.here g;
      could_be = ap could (pairs_on b (version - 1) p r g before) ∙ possible;
    }

either_is : (a b : Bool) → (a || b) ≡ true → (if a then true else b) ≡ true
either_is true b h = refl
either_is false b h = h

record PutHeard (c : Config) (k : ℕ) (p : Past) (key value version : ℕ) : Type 0 where
  told : same_told (told_of k p) (events.Put (bucket_of c.buckets key) version key value ∷ []) ≡ true
  heard : AllHeard c.buckets (begun_counts k p) p (told_of k p)
  reason : put_reason c k (bucket_of c.buckets key) key p (answers.Done version moves.Still) ≡ true

put_made : (c : Config) (k : ℕ) (p r : Past) (key value version : ℕ) → PutHeard c k p key value version → Grows p r
    → IsMade (changes_of (bucket_of c.buckets key) r) (changes.Put key value) version
    (could_put c.pairs (pairs_at (bucket_of c.buckets key) (version - 1) r) key)
put_made c k p r key value version h g =
    let b : ℕ = bucket_of c.buckets key in
    let room : Bool = nat_lt (length (pairs_at b (version - 1) p)) c.pairs in
    let could : Bool = is_there b (version - 1) key p || room in
    let heard = heard_one c.buckets (begun_counts k p) p (events.Put b version key value) (told_of k p) (same_put b version key value) h.told h.heard in
    let possible : could ≡ true =
    rest_of (had_version b (version - 1) p) could (rest_of (nat_le version c.last_version) (had_version b (version - 1) p && could) h.reason) in
    made c.buckets (begun_counts k p) p r b key version (changes.Put key value) (λ (ps : List Pair). could_put c.pairs ps key) heard g
    (either_is (is_there b (version - 1) key p) room possible)

remove_made : (c : Config) (k : ℕ) (p r : Past) (key version : ℕ) (clock : ClockMove) → Closes c k p r (calls.Remove key) (answers.Done version clock)
    → ReadsRight c (λ b. changes_of b r) (calls.Remove key) (answers.Done version clock)
remove_made c k p r key version clock h =
    let b : ℕ = bucket_of c.buckets key in
    let could : Bool = is_there b (version - 1) key p in
    let heard = heard_one c.buckets (begun_counts k p) p (events.Removed b version key) (told_of k p) (same_removed b version key) h.told h.heard in
    let possible : could ≡ true =
    rest_of (had_version b (version - 1) p) could (rest_of (nat_le version c.last_version) (had_version b (version - 1) p && could) h.reason) in
    made c.buckets (begun_counts k p) p r b key version (changes.Removed key) (λ (ps : List Pair). is_some (value_in ps key)) heard h.grows possible

-- the last version that is allowed is the last that there is
last_there : (version count last : ℕ) → version ≤ count → version ≡ last → count ≤ last → version ≡ count
last_there version count last h e k = omega (arith, h, e, k)

reads_by : (c : Config) (from : Counts) (k : ℕ) (p r : Past) (call : Call) (answer : Answer) → Bounds c.last_version r → Closes c k p r call answer
    → Says c from r call answer → ReadsRight c (λ b. changes_of b r) call answer
reads_by c from k p r (calls.Get key) (answers.Got version value) m h s = (s.met.until, s.value_is)
reads_by c from k p r (calls.Put key value) (answers.Done version clock) m h s =
    put_made c k p r key value version (record { told = h.told; heard = h.heard; reason = h.reason }) h.grows
reads_by c from k p r (calls.Put key value) (answers.BucketFull version) m h s = (record { had = s.met.until; away = s.value_is }, s.room)
reads_by c from k p r (calls.Put key value) (answers.Spent version) m h s =
    let b : ℕ = bucket_of c.buckets key in last_there version (count_of b r) c.last_version s.met.until s.final (m.versions b)
reads_by c from k p r (calls.PutIf key value wanted) (answers.Done version clock) m h s =
    let b : ℕ = bucket_of c.buckets key in
    let could : Bool = had_version b (version - 1) p && (is_there b (version - 1) key p || nat_lt (length (pairs_at b (version - 1) p)) c.pairs) in
    let reason = rest_of (version == wanted + 1) (nat_le version c.last_version && could) h.reason in
    (put_made c k p r key value version (record { told = h.told; heard = h.heard; reason = reason }) h.grows, s.next)
reads_by c from k p r (calls.PutIf key value wanted) (answers.BucketFull version) m h s =
    ((record { had = s.full.met.until; away = s.full.value_is }, s.full.room), s.same)
reads_by c from k p r (calls.PutIf key value wanted) (answers.Spent version) m h s =
    let b : ℕ = bucket_of c.buckets key in (last_there version (count_of b r) c.last_version s.spent.met.until s.spent.final (m.versions b), s.same)
reads_by c from k p r (calls.PutIf key value wanted) (answers.Stale version) m h s = (s.met.until, s.other)
reads_by c from k p r (calls.Remove key) (answers.Done version clock) m h s = remove_made c k p r key version clock h
reads_by c from k p r (calls.Remove key) (answers.Absent version) m h s = record { had = s.met.until; away = s.value_is }
reads_by c from k p r (calls.Remove key) (answers.Spent version) m h s =
    let b : ℕ = bucket_of c.buckets key in
    (record { had = s.spent.met.until; there = s.there }, last_there version (count_of b r) c.last_version s.spent.met.until s.spent.final (m.versions b))
reads_by c from k p r call answer m h s = tt

pub reads : (layout : Layout) (items : List Item) → AtRest layout items → (before : List Group) (group : Group) → IsCall (logs_of layout items) before group
    → ReadsRight layout.config (λ b. changes_of b (record_of layout items)) group.call group.answer
reads layout items rest before group h =
    let r : Past = record_of layout items in
    let a : Called layout items before group = called layout items before group rest.valid h in
    reads_by layout.config (counts_of a.is.begun.from) a.seat a.is.end.at r group.call group.answer (bounds layout items rest.valid)
    (closes layout items a.seat before group rest.valid a.is.end) a.is.says
