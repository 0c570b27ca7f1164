-- What the logs of each history say of its record.
use Rattle.std.proofs.Common.{ℕ, ◌≡◌, ◌≤◌, ◌-◌, true, List, [], ◌∷◌, ◌++◌, Option, Some, sym, ap, ◌∙◌, subst, arith}
use Rattle.law_held.specs.inv.model.Desks.{Notes, noted}
use Rattle.law_held.specs.inv.model.Locals.{Group}
use Rattle.law_held.specs.inv.model.defs.declared.call.Call.{Call}
use Rattle.law_held.specs.inv.model.defs.Pairs.{Pair, value_after, value_in}
use Rattle.law_held.specs.inv.model.defs.declared.call.Answer.TheVariants as answers
use Rattle.law_held.specs.inv.model.defs.declared.call.Call.TheVariants as calls
use Rattle.law_held.specs.inv.model.defs.declared.event.Event.{Event}
use Rattle.law_held.specs.inv.model.defs.declared.fold.Change.{Change}
use Rattle.law_held.specs.inv.model.defs.declared.fold.Change.TheVariants as changes
use Rattle.law_held.proofs.laws.records.defs.Values.{value_in-changed}
use Rattle.law_held.specs.inv.model.defs.declared.event.Event.TheVariants as events
use Rattle.law_held.specs.inv.model.words.Place.{is_valid}
use Rattle.law_held.specs.inv.model.words.declared.config.Config.{Config}
use Rattle.law_held.specs.inv.model.words.declared.layout.Layout.{Layout}
use Rattle.law_held.specs.laws.HistoryAnswers.{full_ok}
use Rattle.law_held.specs.laws.HistoryHolds.{sources_ok}
use Rattle.law_held.specs.laws.Once.{lists_ok, order_ok}
use Rattle.law_held.specs.laws.StateAt.{began_of}
use Rattle.law_held.specs.laws.StructuresAt.{bucket_of, count_of, pairs_at, value_at}
use Rattle.law_all.proofs.letter.Clocks.{full_kept}
use Rattle.law_reasons.proofs.Full.Keeps.{records_keep_full}
use Rattle.law_reasons.proofs.Reasons.Keeps.{records_keep_reasons}
use Rattle.law_held.proofs.Roots.Sources.{records_find_sources}
use Rattle.law_held.proofs.scans.Ordering.Ordered.{records_keep_order}
use Rattle.law_reasons.proofs.reuse.AnswersTold.Answering.{records_keep_answers}
use Rattle.law_reasons.proofs.reuse.Lawful.Maps.{records_keep_map}
use Rattle.law_reasons.proofs.reuse.Lawful.Queues.{records_keep_queue}
use Rattle.law_reasons.proofs.reuse.OpenCalls.{records_open_calls}
use Rattle.law_reasons.proofs.reuse.Once.Handed.{records_keep_lists}
use Rattle.law_held.proofs.inv.history.Entries.{each_of_entries}
use Rattle.law_held.specs.inv.history.History.{Item, record_of, world_of}
use Rattle.law_held.specs.inv.history.Record.{Past, tells}
use Rattle.law_held.specs.inv.history.Record.Past.{Then}
use Rattle.law_all.specs.Logs.Answered.{IsDone, IsGot, Says, SaysOfRows}
use Rattle.law_all.specs.Logs.Ledgers.{log_of, notes_of}
use Rattle.law_all.specs.Logs.Records.{IsAnswered, IsEnded}
use Rattle.law_all.proofs.Logs.Begins.{Began, began_at}
use Rattle.law_all.specs.Logs.Versions.{AtMost, Counts, counts_of, met_in, seen_in}
use Rattle.law_all.proofs.Logs.Along.{first_answers, lawful_tells, met_rises}
use Rattle.law_all.proofs.Logs.Answered.{says_on}
use Rattle.law_all.proofs.Logs.Counts.{begun_counts, most_same}
use Rattle.law_all.proofs.Logs.Cuts.{log_more, logs_are_cut}
use Rattle.law_all.proofs.Logs.Grows.{Grows, grows_along, grows_entry, grows_tells, records_grow}
use Rattle.law_all.proofs.Logs.Knows.{Answers, Knows, Lawful, answers_of, end_log, end_rises, knows, lawful_before}
use Rattle.law_all.proofs.Logs.Ledgers.{records_keep_logs}
use Rattle.law_all.proofs.Logs.Meets.{Rises}
use Rattle.law_all.specs.Answers.{CallsAnswer, ChangesAreRead, GetsAgree, HoldsSeeNothing, LogsAnswer, LogsGrow, LogsMeet, LogsRise}

-- the laws that the record of each history keeps
pub lawful : (layout : Layout) (items : List Item) → is_valid layout ≡ true → Lawful layout.config (record_of layout items)
lawful layout items d = record {
  open_calls = each_of_entries _ (record_of layout items) (records_open_calls layout items d);
  told = each_of_entries _ (record_of layout items) (records_keep_answers layout items d);
  map = each_of_entries _ (record_of layout items) (records_keep_map layout items d);
  reasons = each_of_entries _ (record_of layout items) (records_keep_reasons layout items d);
  queue = each_of_entries _ (record_of layout items) (records_keep_queue layout items d);
  order = each_of_entries (order_ok layout.config.slots) (record_of layout items) (records_keep_order layout items d).each;
  sources = each_of_entries (sources_ok layout.config) (record_of layout items) (records_find_sources layout items d);
  lists = each_of_entries lists_ok (record_of layout items) (records_keep_lists layout items d);
  full = λ s low. full_kept layout.config s (record_of layout items) (each_of_entries (full_ok layout.config s) (record_of layout items) (records_keep_full layout items d s low));
}

-- a call that a record has ended
call_is : (x : Option Call) (a b : Call) → x ≡ Some a → x ≡ Some b → a ≡ b
call_is x a b h k = cc

ended_log : (c : Config) (k : ℕ) (r : Past) (before : List Group) (group : Group) (e : IsEnded k r before group) (a : Answers c k group.notes.steps e.at group.answer)
    → log_of k (Then e.at k (events.End group.notes.steps group.answer)) ≡ before ++ group ∷ []
ended_log c k r before group e a =
    let one : a.call ≡ group.call = call_is (began_of k e.at) a.call group.call a.began e.call in
    let event : Event = events.End group.notes.steps group.answer in
    let same : record { call = a.call; answer = group.answer; notes = noted (notes_of k e.at) event } ≡ group =
    ap (λ (x : Call). record { call = x; answer = group.answer; notes = noted (notes_of k e.at) event }) one ∙ ap (λ (x : Notes). record { call = group.call; answer = group.answer; notes = x }) (sym e.notes) in
    end_log c k group.notes.steps e.at group.answer a ∙ ap (λ (x : List Group). x ++ record { call = a.call; answer = group.answer; notes = noted (notes_of k e.at) event } ∷ []) e.log ∙ ap (λ (g : Group). before ++ g ∷ []) same

answered : (c : Config) (k : ℕ) (r : Past) (before : List Group) (group : Group) → Lawful c r → IsEnded k r before group → IsAnswered c k r before group
answered c k r before group l e =
    let n : ℕ = c.buckets in
    let steps : ℕ = group.notes.steps in
    let event : Event = events.End steps group.answer in
    let there : Past = Then e.at k event in
    let m : Lawful c there = lawful_tells c there e.later (subst (Lawful c) e.cut l) in
    let g : Knows n k e.at = knows c k e.at (lawful_before c e.at k event m) in
    let a : Answers c k steps e.at group.answer = answers_of c k steps e.at group.answer m g in
    let b : Began k e.at group.call = began_at k e.at group.call m.open_calls.1 m.open_calls.0 e.call in
    let one : a.call ≡ group.call = call_is (began_of k e.at) a.call group.call a.began e.call in
    let said : Says c (counts_of b.is.from) e.at group.call group.answer = subst (λ (x : Counts). Says c x e.at group.call group.answer) b.counts (subst (λ (x : Call). Says c (begun_counts k e.at) e.at x group.answer) one a.says) in
    let rows : SaysOfRows c k e.at group.call group.answer = subst (λ (x : Call). SaysOfRows c k e.at x group.answer) one a.rows in
    let grows : Grows e.at r = subst (λ (x : Past). Grows e.at x) (sym e.cut) (grows_along e.at there (tells there e.later) (grows_entry e.at k event) (grows_tells e.later there)) in
    let rises : Rises (met_in n (log_of k e.at)) (met_in n (log_of k there)) (counts_of e.at) = end_rises c k steps e.at group.answer m g a in
    let both : Rises (met_in n before) (met_in n (before ++ group ∷ [])) (counts_of e.at) =
    subst (λ (x : List Group). Rises (met_in n x) (met_in n (before ++ group ∷ [])) (counts_of e.at)) e.log (subst (λ (x : List Group). Rises (met_in n (log_of k e.at)) (met_in n x) (counts_of e.at)) (ended_log c k r before group e a) rises) in
    record {
      end = e;
      begun = b.is;
      said = said;
      says = says_on c (counts_of b.is.from) (counts_of b.is.from) e.at r group.call group.answer (most_same (counts_of b.is.from)) grows said;
      rows = rows;
      before_it = subst (λ (x : List Group). AtMost (met_in n x) (counts_of b.is.from)) e.log (subst (λ (x : Counts). AtMost (met_in n (log_of k e.at)) x) b.counts (g.before m.open_calls.0));
      after_it = both.high;
      rises = both.low;
    }

pub logs_answer : LogsAnswer
logs_answer layout items k before later group d h =
    let r : Past = record_of layout items in
    answered layout.config k r before group (lawful layout items d) (logs_are_cut k r before later group ((records_keep_logs layout items k d).log ∙ h))

pub calls_answer : CallsAnswer
calls_answer layout items more k later group d b h =
    let first : Past = record_of layout items in
    let g = records_grow layout items more in
    let old = records_keep_logs layout items k d in
    let new = records_keep_logs layout (items ++ more) k d in
    let l : Lawful layout.config (tells first g.later) = subst (Lawful layout.config) g.cut (lawful layout (items ++ more) d) in
    let e : log_of k (tells first g.later) ≡ log_of k first ++ group ∷ later =
    ap (log_of k) (sym g.cut) ∙ new.log ∙ h ∙ ap (λ (x : List Group). x ++ group ∷ later) (sym old.log) in
    subst (λ (r : Past). Says layout.config (counts_of first) r group.call group.answer) (sym g.cut) (first_answers layout.config k first g.later later group l (old.busy ∙ b) e)

pub logs_meet : LogsMeet
logs_meet layout items k d =
    let r : Past = record_of layout items in
    let g : Knows layout.config.buckets k r = knows layout.config k r (lawful layout items d) in
    subst (λ (x : List Group). AtMost (met_in layout.config.buckets x) (counts_of r)) (records_keep_logs layout items k d).log g.met

pub logs_rise : LogsRise
logs_rise layout items more k d =
    let n : ℕ = layout.config.buckets in
    let first : Past = record_of layout items in
    let g = records_grow layout items more in
    let old = records_keep_logs layout items k d in
    let new = records_keep_logs layout (items ++ more) k d in
    let rises = met_rises layout.config k first g.later (subst (Lawful layout.config) g.cut (lawful layout (items ++ more) d)) in
    subst (λ (x : List Group). AtMost (met_in n x) (met_in n ((world_of layout (items ++ more)).seat k).log)) old.log
    (subst (λ (x : List Group). AtMost (met_in n (log_of k first)) (met_in n x)) (ap (log_of k) (sym g.cut) ∙ new.log) rises)

none_seen : (seen count : ℕ) → seen ≤ count → count ≡ 0 → seen ≡ 0
none_seen seen count h e = omega (arith, h, e)

pub holds_see_nothing : HoldsSeeNothing
holds_see_nothing layout items k before later key notes d h =
    let b : ℕ = bucket_of layout.config.buckets key in
    let a = logs_answer layout items k before later (record { call = calls.Hold key; answer = answers.Nothing; notes = notes }) d h in
    none_seen (seen_in layout.config.buckets b before) (count_of b a.begun.from) (a.before_it.versions b) a.said

-- a get at the version of a change
read_after : (c : Config) (from since : Counts) (r : Past) (b place key other version : ℕ) (change : Change) (found : Option ℕ) → place ≡ b → IsDone c from r b key change version → IsGot since r place other version found → found ≡ value_after (value_at b (version - 1) other r) change other
read_after c from since r b place key other version change found same done got =
    got.value_is
    ∙ ap (λ (x : ℕ). value_at x version other r) same
    ∙ ap (λ (ps : List Pair). value_in ps other) done.pairs
    ∙ value_in-changed (pairs_at b (version - 1) r) change other

pub changes_are_read : ChangesAreRead
changes_are_read = record {
  puts = λ layout items k m key value other version clock found put get d same p g.
      let n : ℕ = layout.config.buckets in
      let done = logs_answer layout items k p.before p.later (record { call = calls.Put key value; answer = answers.Done version clock; notes = put }) d p.cut in
      let got = logs_answer layout items m g.before g.later (record { call = calls.Get other; answer = answers.Got version found; notes = get }) d g.cut in
      read_after layout.config (counts_of done.begun.from) (counts_of got.begun.from) (record_of layout items) (bucket_of n key) (bucket_of n other) key other version (changes.Put key value) found same done.says got.says;
  puts_at = λ layout items k m key value wanted other version clock found put get d same p g.
      let n : ℕ = layout.config.buckets in
      let done = logs_answer layout items k p.before p.later (record { call = calls.PutIf key value wanted; answer = answers.Done version clock; notes = put }) d p.cut in
      let got = logs_answer layout items m g.before g.later (record { call = calls.Get other; answer = answers.Got version found; notes = get }) d g.cut in
      let says = done.says in
      read_after layout.config (counts_of done.begun.from) (counts_of got.begun.from) (record_of layout items) (bucket_of n key) (bucket_of n other) key other version (changes.Put key value) found same says.done got.says;
  removes = λ layout items k m key other version clock found removal get d same p g.
      let n : ℕ = layout.config.buckets in
      let done = logs_answer layout items k p.before p.later (record { call = calls.Remove key; answer = answers.Done version clock; notes = removal }) d p.cut in
      let got = logs_answer layout items m g.before g.later (record { call = calls.Get other; answer = answers.Got version found; notes = get }) d g.cut in
      read_after layout.config (counts_of done.begun.from) (counts_of got.begun.from) (record_of layout items) (bucket_of n key) (bucket_of n other) key other version (changes.Removed key) found same done.says got.says;
}

pub gets_agree : GetsAgree
gets_agree layout items k m key version found again one two d p q =
    let a = logs_answer layout items k p.before p.later (record { call = calls.Get key; answer = answers.Got version found; notes = one }) d p.cut in
    let b = logs_answer layout items m q.before q.later (record { call = calls.Get key; answer = answers.Got version again; notes = two }) d q.cut in
    a.says.value_is ∙ sym b.says.value_is

pub logs_grow : LogsGrow
logs_grow layout items more k d =
    let first : Past = record_of layout items in
    let g = records_grow layout items more in
    let old = records_keep_logs layout items k d in
    let new = records_keep_logs layout (items ++ more) k d in
    let e = log_more k first g.later in
    record { more = e.more; cut = sym new.log ∙ ap (log_of k) g.cut ∙ e.cut ∙ ap (λ (x : List Group). x ++ e.more) old.log }
