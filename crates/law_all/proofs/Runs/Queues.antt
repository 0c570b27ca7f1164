-- What answers say of the queue is so by the values that the record has.
use Rattle.std.proofs.Common.{List, Some, [], refl, ap, arith, length, subst, sym, true, ℕ, ◌++◌, ◌-◌, ◌<◌, ◌∙◌, ◌∷◌, ◌≡◌, ◌≤◌}
use Rattle.std.proofs.lemmas.Bool.Decides.{nat_tests}
use Rattle.std.proofs.lemmas.List.{length-append}
use Rattle.std.proofs.lemmas.Option.{slice_get-get_or}
use Rattle.std.specs.Prelude.{nat_le, slice_get, slice_index_or, ◌&&◌, ◌+◌, ◌==◌}
use Rattle.law_all.proofs.inv.model.Facts.{first_of, number_is, rest_of}
use Rattle.law_all.specs.inv.model.Locals.{Group}
use Rattle.law_all.specs.inv.model.defs.Entry.{Entry}
use Rattle.law_all.specs.inv.model.defs.declared.call.Answer.TheVariants as answers
use Rattle.law_all.specs.inv.model.defs.declared.call.Answer.{Answer}
use Rattle.law_all.specs.inv.model.defs.declared.call.Call.TheVariants as calls
use Rattle.law_all.specs.inv.model.defs.declared.call.Call.{Call}
use Rattle.law_all.specs.inv.model.defs.declared.event.Event.{Event}
use Rattle.law_all.specs.inv.model.defs.declared.event.Event.TheVariants as events
use Rattle.law_all.specs.inv.model.words.declared.config.Config.{Config}
use Rattle.law_all.specs.inv.model.words.declared.layout.Layout.{Layout}
use Rattle.law_all.specs.inv.history.History.{Item, record_of}
use Rattle.law_all.specs.inv.history.Record.{Each, Past, tells}
use Rattle.law_all.specs.inv.history.Record.Past.{Start, Then}
use Rattle.law_all.specs.Logs.Records.{IsAnswered}
use Rattle.law_all.specs.Logs.Answered.{IsEmpty, Says}
use Rattle.law_all.specs.Logs.Versions.{Counts, counts_of, met_in}
use Rattle.law_all.proofs.Logs.Grows.{Grows, grows_tells}
use Rattle.law_all.specs.laws.AnswerLaw.{suits}
use Rattle.law_all.specs.laws.QueueLaw.{queue_ok}
use Rattle.law_all.specs.laws.StructuresAt.{queued_of, taken_of}
use Rattle.law_all.specs.RunLaw.{InOrder, IsCall, QueuesRight, is_queued_as, is_taken_as}
use Rattle.law_all.specs.Runs.{AtRest, logs_of}
use Rattle.law_all.proofs.Runs.Bounds.{bounds}
use Rattle.law_all.proofs.Runs.Calls.{Called, Follow, called, follow}
use Rattle.law_all.proofs.Runs.Closes.{closes}
use Rattle.law_all.proofs.Runs.Kept.{Kept, histories_keep, kept_before}
use Rattle.law_all.proofs.Runs.Rises.{met_queued, met_taken, queued_later}

-- the value under a number
value_there : (values : List ℕ) (low number value : ℕ) → low < number → number ≤ length values → value ≡ slice_index_or values (number - 1) 0
    → slice_get values (number - 1) ≡ Some value
value_there values low number value since until e =
    let within : number - 1 < length values = omega (arith, since, until) in
    slice_get-get_or values (number - 1) 0 within ∙ ap (λ (x : ℕ). Some x) (sym e)

all_numbers : (queued number last : ℕ) → number ≤ queued → number ≡ last → queued ≤ last → queued ≡ last
all_numbers queued number last h e k = omega (arith, h, e, k)

right_by : (c : Config) (from : Counts) (r : Past) (call : Call) (answer : Answer) → length (queued_of r) ≤ c.last_version → Says c from r call answer
    → QueuesRight c (queued_of r) call answer
right_by c from r (calls.Enqueue value) (answers.Queued number) most s = value_there (queued_of r) from.queued number value s.since s.until s.value_is
right_by c from r (calls.Enqueue value) (answers.Spent number) most s = all_numbers (length (queued_of r)) number c.last_version s.until s.final most
right_by c from r calls.Dequeue (answers.Taken number value clock) most s = value_there (queued_of r) from.taken number value s.since s.queued s.value_is
right_by c from r call answer most s = tt

pub queue : (layout : Layout) (items : List Item) → AtRest layout items → (before : List Group) (group : Group) → IsCall (logs_of layout items) before group
    → QueuesRight layout.config (queued_of (record_of layout items)) group.call group.answer
queue layout items rest before group h =
    let a : Called layout items before group = called layout items before group rest.valid h in
    right_by layout.config (counts_of a.is.begun.from) (record_of layout items) group.call group.answer (bounds layout items rest.valid).queued a.is.says

-- where a call finds the queue empty, what its seat has queued was taken
empty_said : (c : Config) (from : Counts) (r : Past) (call : Call) (answer : Answer) → answer ≡ answers.Empty → suits call answer ≡ true
    → Says c from r call answer → IsEmpty from r
empty_said c from r calls.Dequeue answers.Empty e u s = s
empty_said c from r call answer e u s = absurd (cc)

taken_by_then : (number met from queued taken last : ℕ) → met ≡ number → met ≤ from → from ≤ queued → taken ≡ queued → taken ≤ last → number ≤ last
taken_by_then number met from queued taken last e h k same g = omega (arith, e, h, k, same, g)

pub empty : (layout : Layout) (items : List Item) → AtRest layout items → (one two : Group) (number : ℕ) → InOrder (logs_of layout items) one two
    → is_queued_as number one ≡ true → two.answer ≡ answers.Empty → number ≤ taken_of (record_of layout items)
empty layout items rest one two number h l e =
    let n : ℕ = layout.config.buckets in
    let r : Past = record_of layout items in
    let f : Follow layout items one two = follow layout items one two rest.valid h in
    let from : Counts = counts_of f.second.begun.from in
    let u : suits two.call two.answer ≡ true = (closes layout items f.seat (f.before ++ one ∷ f.between) two rest.valid f.second.end).suits in
    let s : IsEmpty from r = empty_said layout.config from r two.call two.answer e u f.second.says in
    let g : Grows s.at r = subst (Grows s.at) (sym s.cut) (grows_tells s.later s.at) in
    taken_by_then number (met_in n (f.before ++ one ∷ [])).queued from.queued (length (queued_of s.at)) (taken_of s.at) (taken_of r)
    (met_queued n number f.before one l) f.met.queued s.since.queued s.all g.taken

-- at each position no more values were taken than were queued
few_entry : (i : ℕ) (p : Past) (event : Event) → queue_ok p i event ≡ true → taken_of p ≤ length (queued_of p) → taken_of (Then p i event) ≤ length (queued_of (Then p i event))
few_entry i p (events.Queued number value) h g = let more : length (queued_of p ++ value ∷ []) ≡ length (queued_of p) + 1 = length-append (queued_of p) (value ∷ []) in omega (arith, g, more)
few_entry i p (events.Taken number value) h g =
    let right : (nat_le number (length (queued_of p)) && value == slice_index_or (queued_of p) (number - 1) 0) ≡ true =
    rest_of (number == taken_of p + 1) (nat_le number (length (queued_of p)) && value == slice_index_or (queued_of p) (number - 1) 0) h in
    let next : number ≡ taken_of p + 1 =
    number_is number (taken_of p + 1) (first_of (number == taken_of p + 1) (nat_le number (length (queued_of p)) && value == slice_index_or (queued_of p) (number - 1) 0) h) in
    let low : nat_le number (length (queued_of p)) ≡ true = first_of (nat_le number (length (queued_of p))) (value == slice_index_or (queued_of p) (number - 1) 0) right in
    grind (arith, nat_tests)
few_entry i p event h g = g

few_taken : (p : Past) → Each queue_ok p → taken_of p ≤ length (queued_of p)
few_taken Start h = omega arith
few_taken (Then p i event) h = few_entry i p event h.0 (few_taken p h.1)

kept_first : (c : Config) (p : Past) (entries : List Entry) → Kept c (tells p entries) → Kept c p
kept_first c p [] k = k
kept_first c p (x ∷ entries) k = kept_before c p x.seat x.event (kept_first c (Then p x.seat x.event) entries k)

-- so where a call begins
few_begun : (c : Config) (seat : ℕ) (r : Past) (before : List Group) (group : Group) (a : IsAnswered c seat r before group) → Kept c r → taken_of a.begun.from ≤ length (queued_of a.begun.from)
few_begun c seat r before group a k =
    let ended : Kept c (tells (Then a.end.at seat (events.End group.notes.steps group.answer)) a.end.later) = subst (Kept c) a.end.cut k in
    let at : Kept c a.end.at = kept_before c a.end.at seat (events.End group.notes.steps group.answer) (kept_first c (Then a.end.at seat (events.End group.notes.steps group.answer)) a.end.later ended) in
    let begun : Kept c (tells (Then a.begun.from seat (events.Begin group.call)) a.begun.until) = subst (Kept c) a.begun.cut at in
    few_taken a.begun.from (kept_before c a.begun.from seat (events.Begin group.call) (kept_first c (Then a.begun.from seat (events.Begin group.call)) a.begun.until begun)).queue

later_number : (low met taken queued high : ℕ) → met ≡ low → met ≤ taken → taken ≤ queued → queued < high → low < high
later_number low met taken queued high e h k m = omega (arith, e, h, k, m)

pub taken_first : (layout : Layout) (items : List Item) → AtRest layout items → (one two : Group) (low high : ℕ) → InOrder (logs_of layout items) one two
    → is_taken_as low one ≡ true → is_queued_as high two ≡ true → low < high
taken_first layout items rest one two low high h l k =
    let n : ℕ = layout.config.buckets in
    let f : Follow layout items one two = follow layout items one two rest.valid h in
    let from : Counts = counts_of f.second.begun.from in
    let few : from.taken ≤ from.queued = few_begun layout.config f.seat (record_of layout items) (f.before ++ one ∷ f.between) two f.second (histories_keep layout items rest.valid) in
    later_number low (met_in n (f.before ++ one ∷ [])).taken from.taken from.queued high (met_taken n low f.before one l) f.met.taken few
    (queued_later layout.config from (record_of layout items) two.call two.answer high f.second.says k)
