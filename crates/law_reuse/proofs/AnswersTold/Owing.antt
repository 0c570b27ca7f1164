-- A step of a call tells what it comes to owe, and leaves a phase that serves the call.
use Rattle.std.proofs.Common.{ℕ, ◌≡◌, ◌+◌, ◌-◌, ◌%◌, Bool, true, false, List, [], ◌∷◌, ◌++◌, length, Option, Some, None, refl, sym, ap, ◌∙◌, subst}
use Rattle.std.specs.Prelude.{◌==◌, ◌&&◌, not, nat_lt, if◌then◌else◌, drop}
use Rattle.inv_all.specs.model.words.declared.config.Config.{Config}
use Rattle.inv_all.specs.model.words.declared.layout.Layout.{Layout}
use Rattle.inv_all.specs.model.defs.Pairs.{Pair}
use Rattle.inv_all.specs.model.defs.declared.call.Answer.{Answer}
use Rattle.inv_all.specs.model.defs.declared.call.Answer.TheVariants as the_answers
use Rattle.inv_all.specs.model.defs.declared.call.Call.{Call}
use Rattle.inv_all.specs.model.defs.declared.call.Call.TheVariants as names
use Rattle.inv_all.specs.model.defs.declared.call.ClockMove.{ClockMove}
use Rattle.inv_all.specs.model.defs.declared.call.ClockMove.TheVariants as moves
use Rattle.inv_all.specs.model.defs.declared.event.Event.{Event}
use Rattle.inv_all.specs.model.defs.declared.event.Event.TheVariants as events
use Rattle.inv_all.specs.model.defs.declared.event.Root.{Root}
use Rattle.inv_all.specs.model.defs.declared.event.Root.TheVariants as roots
use Rattle.inv_all.specs.model.defs.declared.fold.Change.{Change}
use Rattle.inv_all.specs.model.defs.declared.fold.Change.TheVariants as changes
use Rattle.inv_all.specs.model.declared.ends.AllocateEnd.{AllocateEnd}
use Rattle.inv_all.specs.model.declared.ends.AllocateEnd.TheVariants as allocate_ends
use Rattle.inv_all.specs.model.declared.ends.FollowEnd.{FollowEnd}
use Rattle.inv_all.specs.model.declared.ends.FollowEnd.TheVariants as follow_ends
use Rattle.inv_all.specs.model.declared.ends.ProtectEnd.TheVariants as protect_ends
use Rattle.inv_all.specs.model.declared.post.Post.{Post}
use Rattle.inv_all.specs.model.Change as alters
use Rattle.inv_all.specs.model.Desks.{Desk, with_life}
use Rattle.inv_all.specs.model.Dequeue as dequeues
use Rattle.inv_all.specs.model.Enqueue as enqueues
use Rattle.inv_all.specs.model.Get as gets
use Rattle.inv_all.specs.model.Guards.{guards, guard_at, published}
use Rattle.inv_all.specs.model.Machine as machine
use Rattle.inv_all.specs.model.Keep as keeps
use Rattle.inv_all.specs.model.Posts.{cleared, publishes_index, stands, withdrawn, standing_from, cleared_from, reserves_span}
use Rattle.inv_all.specs.model.Scan as scan
use Rattle.inv_all.specs.model.Steps as steps
use Rattle.inv_all.specs.model.Rounds.{scheme_of, bucket_of, index_of, key_of, taken_of, begin_base, round, round_by, finish_base, clear_base, clear_post, clear_told, given_up, closed, finishing_by, finishing, clearing_by, clearing, clearing_next_by, clearing_next, let_index, letting_by, release_base, tidy_by}
use Rattle.inv_all.specs.model.words.Schemes.{has_one_interval, publishes_rows, moves as moves_clock}
use Rattle.inv_all.specs.model.defs.declared.event.Guard.{Guard}
use Rattle.law_reuse.proofs.ReadGuards.{reads_are}
use Rattle.inv_all.specs.model.Phases.{Base, Ending, Outcome, Goes, Ends}
use Rattle.inv_all.specs.model.Phases.Ending.{Done, Protected, Followed, Allocated, Retired, Clocked}
use Rattle.inv_all.specs.model.Calls.{Task, Gets, Changes, Holds, Enqueues, Dequeues, Next, Again, MakeRoom, Answering, Retiring, AfterScan, Answered, Repeated, Counted, ChangeKept, EnqueueKept, GetAt, FindVersion, FindCount, FindKey, FindValue, ChangeAt, LoadVersion, LoadCount, LoadKey, LoadValue, ExchangeRoot, EnqueueAt, LoadNumber, LoadNext, PassTail, ExchangeNext, ExchangeTail, DequeueAt, SwingTail, ExchangeHead, Work, Getting, Changing, Enqueuing, Dequeuing, Keeping, KeepAt, Loosens, LoadHeld, StoreHeld, Looks, Misses, HideSpan, MarkLeft, TakeList, MarkTaken, LetGo, Released, Rehold, Dropped, Parting, ScanAt, ReadGuard, GiveBack, Why, Opens, FollowsHead, Fills, ClearsNext, Clears, Finishes, GivesUp, Retires, Tidies, Advances, Releases, Phase, Idle, Runs, Scans, Works, answers, goes_on}
use Rattle.inv_all.proofs.model.Frames.{after_same}
use Rattle.inv_all.proofs.model.Facts.{both}
use Rattle.laws.specs.AnswerLaw.{suits}
use Rattle.laws.specs.HistoryAnswers.{owes}
use Rattle.inv_all.proofs.history.AllOf.{all_of, of_along}
use Rattle.inv_all.proofs.history.MayTell.{cleared_all, cleared_from_all}
use Rattle.inv_all.proofs.Machines.{is_machine, base_machine, clear_machine}
use Rattle.law_reuse.proofs.AnswersTold.Owed.{call_for, may_want, ChangeServes, MissServes, KeepServes, is_mute, TaskServes, NextServes, LaterServes, FreeServes, WhyServes, WorkServes, Serves, next_owed, later_owed, why_owed, enqueue_owed, work_owed, owed, Told, Owes, ends_clocked, EndsFor, told_machine, told_more, told_none, clock_owes, clock_suits, is_open, loud, loud_along, append_none, keep_owed}
use Rattle.inv_all.specs.model.defs.declared.lifetime.Interval.{Interval}

-- a round begins
record Round (n : ℕ) (call : Call) (phase : Phase) : Type 0 where
  none : owed n call phase ≡ []
  serves : Serves call phase

round_begins : (n : ℕ) (call : Call) (task : Task) (post : Post) (x : Option Base) → TaskServes call task → Round n call (round_by task post x)
round_begins n call task post None s = record { none = refl; serves = s }
round_begins n call task post (Some base) s = record { none = refl; serves = s }

round_of : (n : ℕ) (call : Call) (task : Task) (post : Post) → TaskServes call task → Round n call (round task post)
round_of n call task post s = round_begins n call task post (begin_base (scheme_of post) post) s

given_up_owes : (n : ℕ) (call : Call) (before : List Event) (answer : Answer) (post : Post) (desk : Desk) (told : List Event) (x : Option ℕ) → suits call answer ≡ true → Told before told (owes n call answer) → Owes n call before (given_up answer post desk told x)
given_up_owes n call before answer post desk told None s t = record { told = t; serves = s }
given_up_owes n call before answer post desk told (Some slot) s t = record { told = t; serves = s }

again_owes : (n : ℕ) (call : Call) (before : List Event) (task : Task) (post : Post) (told : List Event) → TaskServes call task → Told before told [] → Told before told (owed n call (round task post))
again_owes n call before task post told s t = let r = round_of n call task post s in subst (λ (all : List Event). Told before told all) (sym r.none) t

round_serves : (n : ℕ) (call : Call) (task : Task) (post : Post) → TaskServes call task → Serves call (round task post)
round_serves n call task post s = let r = round_of n call task post s in r.serves

-- retirements that move the clock do so before they scan
tidy_owes : (n : ℕ) (call : Call) (before : List Event) (later : AfterScan) (moving : Bool) (post : Post) (desk : Desk) (told : List Event) → LaterServes call later → Told before told (later_owed n call later) → Owes n call before (goes_on post desk told (tidy_by moving later post))
tidy_owes n call before later true post desk told s t = record { told = t; serves = s }
tidy_owes n call before later false post desk told s t = record { told = t; serves = s }

closed_owes : (n : ℕ) (call : Call) (before : List Event) (task : Task) (next : Next) (post : Post) (desk : Desk) (told : List Event) → TaskServes call task → NextServes call next → Told before told (next_owed n call next) → Owes n call before (closed task next post desk told)
closed_owes n call before task Again post desk told s k t = record { told = again_owes n call before task post told s t; serves = round_serves n call task post s }
closed_owes n call before task MakeRoom post desk told s k t = tidy_owes n call before (Repeated task) (moves_clock (scheme_of post)) post desk told s t
closed_owes n call before task (Answering answer) post desk told s k t = given_up_owes n call before answer post desk told (taken_of task) k t
closed_owes n call before task (Retiring slot answer) post desk told s k t = record { told = t; serves = k }

finishing_by_owes : (n : ℕ) (call : Call) (before : List Event) (task : Task) (next : Next) (post : Post) (desk : Desk) (told : List Event) (x : Option Base) → TaskServes call task → NextServes call next → Told before told (next_owed n call next) → Owes n call before (finishing_by task next post desk told x)
finishing_by_owes n call before task next post desk told None s k t = closed_owes n call before task next post desk told s k t
finishing_by_owes n call before task next post desk told (Some base) s k t = record { told = t; serves = (s, k) }

finishing_owes : (n : ℕ) (call : Call) (before : List Event) (task : Task) (next : Next) (post : Post) (desk : Desk) (told : List Event) → TaskServes call task → NextServes call next → Told before told (next_owed n call next) → Owes n call before (finishing task next post desk told)
finishing_owes n call before task Again post desk told s k t = closed_owes n call before task Again post desk told s k t
finishing_owes n call before task MakeRoom post desk told s k t = finishing_by_owes n call before task MakeRoom post desk told (finish_base (scheme_of post) post) s k t
finishing_owes n call before task (Answering answer) post desk told s k t = finishing_by_owes n call before task (Answering answer) post desk told (finish_base (scheme_of post) post) s k t
finishing_owes n call before task (Retiring slot answer) post desk told s k t = finishing_by_owes n call before task (Retiring slot answer) post desk told (finish_base (scheme_of post) post) s k t

clearing_by_owes : (n : ℕ) (call : Call) (before : List Event) (task : Task) (next : Next) (post : Post) (desk : Desk) (told : List Event) (x : Option Base) → TaskServes call task → NextServes call next → Told before told (next_owed n call next) → Owes n call before (clearing_by task next post desk told x)
clearing_by_owes n call before task next post desk told None s k t =
    finishing_owes n call before task next (clear_post (scheme_of post) post (index_of task)) desk (told ++ clear_told (scheme_of post) post (index_of task)) s k
    (told_more before told (clear_told (scheme_of post) post (index_of task)) (next_owed n call next) (clear_machine (scheme_of post) post (index_of task)) t)
clearing_by_owes n call before task next post desk told (Some base) s k t = record { told = t; serves = (s, k) }

clearing_owes : (n : ℕ) (call : Call) (before : List Event) (task : Task) (next : Next) (post : Post) (desk : Desk) (told : List Event) → TaskServes call task → NextServes call next → Told before told (next_owed n call next) → Owes n call before (clearing task next post desk told)
clearing_owes n call before task next post desk told s k t = clearing_by_owes n call before task next post desk told (clear_base (scheme_of post) (index_of task)) s k t

next_by_owes : (n : ℕ) (call : Call) (before : List Event) (next : Next) (post : Post) (desk : Desk) (told : List Event) (x : Option Base) → call ≡ names.Dequeue → NextServes call next → Told before told (next_owed n call next) → Owes n call before (clearing_next_by next post desk told x)
next_by_owes n call before next post desk told None s k t =
    clearing_owes n call before Dequeues next (clear_post (scheme_of post) post 1) desk (told ++ clear_told (scheme_of post) post 1) s k
    (told_more before told (clear_told (scheme_of post) post 1) (next_owed n call next) (clear_machine (scheme_of post) post 1) t)
next_by_owes n call before next post desk told (Some base) s k t = record { told = t; serves = (s, k) }

clearing_next_owes : (n : ℕ) (call : Call) (before : List Event) (next : Next) (post : Post) (desk : Desk) (told : List Event) → call ≡ names.Dequeue → NextServes call next → Told before told (next_owed n call next) → Owes n call before (clearing_next next post desk told)
clearing_next_owes n call before next post desk told s k t = next_by_owes n call before next post desk told (clear_base (scheme_of post) 1) s k t

-- an event of the map or of the queue comes after events of machines
told_one : (told all : List Event) (event : Event) → is_mute event ≡ false → is_open event ≡ true → Told [] told [] → event ∷ [] ≡ all → Told [] (told ++ event ∷ []) all
told_one told all event s o t e = record {
  sum = loud_along told (event ∷ []) ∙ ap (λ (rest : List Event). rest ++ loud (event ∷ [])) t.sum ∙ loud_alone (is_mute event) event s ∙ e;
  goes = of_along is_open told (event ∷ []) t.goes (both (is_open event) true o refl);
}
  where
    loud_alone : (still : Bool) (event : Event) → still ≡ false → (if still then [] else event ∷ []) ≡ event ∷ []
    loud_alone true event h = absurd (cc)
    loud_alone false event h = refl

-- a get
got_event : (n : ℕ) (call : Call) (key version : ℕ) (value : Option ℕ) (m : ℕ) → call ≡ names.Get key → m ≡ n → events.Got (key % m) version key value ∷ [] ≡ owes n call (the_answers.Got version value)
got_event n call key version value m c e = rw c (ap (λ (x : ℕ). events.Got (key % x) version key value ∷ []) e)

got_suits : (call : Call) (key version : ℕ) (value : Option ℕ) → call ≡ names.Get key → suits call (the_answers.Got version value) ≡ true
got_suits call key version value c = rw c refl

got_owes : (n : ℕ) (call : Call) (key version : ℕ) (value : Option ℕ) (post : Post) (desk : Desk) (told : List Event) → post.layout.config.buckets ≡ n → call ≡ names.Get key → Told [] told [] → Owes n call [] (gets.got key version value post desk told)
got_owes n call key version value post desk told e c t =
    clearing_owes n call [] (Gets key) (Answering (the_answers.Got version value)) post desk (told ++ events.Got (bucket_of post key) version key value ∷ []) c (got_suits call key version value c)
    (told_one told (owes n call (the_answers.Got version value)) (events.Got (bucket_of post key) version key value) refl refl t (got_event n call key version value post.layout.config.buckets c e))

finding_owes : (n : ℕ) (call : Call) (key slot version count : ℕ) (post : Post) (desk : Desk) (on : Bool) (pair : ℕ) → post.layout.config.buckets ≡ n → call ≡ names.Get key → Owes n call [] (gets.finding key slot version count post desk on pair)
finding_owes n call key slot version count post desk true pair e c = record { told = told_none; serves = c }
finding_owes n call key slot version count post desk false pair e c = got_owes n call key version None post desk [] e c told_none

found_key_owes : (n : ℕ) (call : Call) (key slot version count pair : ℕ) (post : Post) (desk : Desk) (own : Bool) → post.layout.config.buckets ≡ n → call ≡ names.Get key → Owes n call [] (gets.found_key key slot version count pair post desk own)
found_key_owes n call key slot version count pair post desk true e c = record { told = told_none; serves = c }
found_key_owes n call key slot version count pair post desk false e c = finding_owes n call key slot version count post desk (nat_lt (pair + 1) count) (pair + 1) e c

get_owes : (n : ℕ) (call : Call) (key : ℕ) (at : GetAt) (post : Post) (desk : Desk) (found : ℕ) → post.layout.config.buckets ≡ n → call ≡ names.Get key → Owes n call [] (gets.get_turn key at post desk found)
get_owes n call key (FindVersion slot) post desk found e c = record { told = told_none; serves = c }
get_owes n call key (FindCount slot version) post desk found e c = finding_owes n call key slot version found post desk (nat_lt 0 found) 0 e c
get_owes n call key (FindKey slot version count pair) post desk found e c = found_key_owes n call key slot version count pair post desk (found == key) e c
get_owes n call key (FindValue slot version pair) post desk found e c = got_owes n call key version (Some found) post desk [] e c told_none

-- a refusal suits its change, and is owed nothing
record Refused (n : ℕ) (call : Call) (answer : Answer) : Type 0 where
  suited : suits call answer ≡ true
  none : owes n call answer ≡ []

refused_one : (n : ℕ) (call : Call) (first answer : Answer) → Refused n call first → Some first ≡ Some answer → Refused n call answer
refused_one n call first answer r h = refused_by (some_same h)
  where
    some_same : Some first ≡ Some answer → first ≡ answer
    some_same h = cc

    refused_by : first ≡ answer → Refused n call answer
    refused_by e = subst (λ (a : Answer). Refused n call a) e r

either_refused : (n : ℕ) (call : Call) (first second answer : Answer) (one two : Bool) → Refused n call first → Refused n call second → (if one then Some first else if two then Some second else None) ≡ Some answer → Refused n call answer
either_refused n call first second answer true two r q h = refused_one n call first answer r h
either_refused n call first second answer false true r q h = refused_one n call second answer q h
either_refused n call first second answer false false r q h = absurd (cc)

stale_refused : (n : ℕ) (call : Call) (version : ℕ) (other : Option Answer) (answer : Answer) (same : Bool) → Refused n call (the_answers.Stale version) → (other ≡ Some answer → Refused n call answer) → (if same then other else Some (the_answers.Stale version)) ≡ Some answer → Refused n call answer
stale_refused n call version other answer true r q h = q h
stale_refused n call version other answer false r q h = refused_one n call (the_answers.Stale version) answer r h

refused : (n : ℕ) (config : Config) (version : ℕ) (pairs : List Pair) (change : Change) (wanted : Option ℕ) (answer : Answer) → may_want change wanted ≡ true → alters.stale_or wanted version (alters.refusal config version pairs change) ≡ Some answer → Refused n (call_for change wanted) answer
refused n config version pairs (changes.Put key value) None answer m h =
    either_refused n (names.Put key value) (the_answers.Spent version) (the_answers.BucketFull version) answer (version == config.last_version) (not (alters.has_key pairs key) && length pairs == config.pairs) (record { suited = refl; none = refl }) (record { suited = refl; none = refl }) h
refused n config version pairs (changes.Put key value) (Some wanted) answer m h =
    stale_refused n (names.PutIf key value wanted) version (alters.refusal config version pairs (changes.Put key value)) answer (version == wanted) (record { suited = refl; none = refl })
    (λ f. either_refused n (names.PutIf key value wanted) (the_answers.Spent version) (the_answers.BucketFull version) answer (version == config.last_version) (not (alters.has_key pairs key) && length pairs == config.pairs) (record { suited = refl; none = refl }) (record { suited = refl; none = refl }) f)
    h
refused n config version pairs (changes.Removed key) None answer m h =
    either_refused n (names.Remove key) (the_answers.Absent version) (the_answers.Spent version) answer (not (alters.has_key pairs key)) (version == config.last_version) (record { suited = refl; none = refl }) (record { suited = refl; none = refl }) h
refused n config version pairs (changes.Removed key) (Some wanted) answer m h = absurd (cc)

-- a change
refused_of : (n : ℕ) (call : Call) (change : Change) (wanted : Option ℕ) (answer : Answer) → call ≡ call_for change wanted → Refused n (call_for change wanted) answer → Refused n call answer
refused_of n call change wanted answer c r = subst (λ (x : Call). Refused n x answer) (sym c) r

deciding_by_owes : (n : ℕ) (call : Call) (kept : ChangeKept) (post : Post) (desk : Desk) (told : List Event) (x : Option Answer) → alters.refused post.layout.config kept ≡ x → ChangeServes call kept.change kept.wanted → Told [] told [] → Owes n call [] (alters.deciding_by kept post desk told x)
deciding_by_owes n call kept post desk told (Some answer) r c t =
    let f = refused_of n call kept.change kept.wanted answer c.is (refused n post.layout.config kept.version kept.pairs kept.change kept.wanted answer c.may r) in
    clearing_owes n call [] (Changes kept) (Answering answer) post desk told c f.suited (subst (λ (all : List Event). Told [] told all) (sym f.none) t)
deciding_by_owes n call kept post desk told None r c t = record { told = t; serves = c }

deciding_owes : (n : ℕ) (call : Call) (kept : ChangeKept) (post : Post) (desk : Desk) (told : List Event) → ChangeServes call kept.change kept.wanted → Told [] told [] → Owes n call [] (alters.deciding kept post desk told)
deciding_owes n call kept post desk told c t = deciding_by_owes n call kept post desk told (alters.refused post.layout.config kept) refl c t

reading_owes : (n : ℕ) (call : Call) (kept : ChangeKept) (slot count : ℕ) (post : Post) (desk : Desk) (on : Bool) → ChangeServes call kept.change kept.wanted → Owes n call [] (alters.reading kept slot count post desk on)
reading_owes n call kept slot count post desk true c = record { told = told_none; serves = c }
reading_owes n call kept slot count post desk false c = deciding_owes n call kept post desk [] c told_none

change_event : (n : ℕ) (change : Change) (wanted : Option ℕ) (version m : ℕ) → m ≡ n → alters.told_change (key_of change % m) version change ∷ [] ≡ owes n (call_for change wanted) (the_answers.Done version moves.Still)
change_event n (changes.Put key value) None version m e = ap (λ (x : ℕ). events.Put (key % x) version key value ∷ []) e
change_event n (changes.Put key value) (Some wanted) version m e = ap (λ (x : ℕ). events.Put (key % x) version key value ∷ []) e
change_event n (changes.Removed key) wanted version m e = ap (λ (x : ℕ). events.Removed (key % x) version key ∷ []) e

change_loud : (bucket version : ℕ) (change : Change) → is_mute (alters.told_change bucket version change) ≡ false
change_loud bucket version (changes.Put key value) = refl
change_loud bucket version (changes.Removed key) = refl

change_open : (bucket version : ℕ) (change : Change) → is_open (alters.told_change bucket version change) ≡ true
change_open bucket version (changes.Put key value) = refl
change_open bucket version (changes.Removed key) = refl

change_suits : (change : Change) (wanted : Option ℕ) (version : ℕ) → suits (call_for change wanted) (the_answers.Done version moves.Still) ≡ true
change_suits (changes.Put key value) None version = refl
change_suits (changes.Put key value) (Some wanted) version = refl
change_suits (changes.Removed key) wanted version = refl

link_told : (root : Root) (slot link : ℕ) (none : Bool) → Told [] (events.Link root slot ∷ (if none then [] else events.Cut (link - 1) ∷ [])) []
link_told root slot link true = record { sum = refl; goes = refl }
link_told root slot link false = record { sum = refl; goes = refl }

done_next : (n : ℕ) (call : Call) (version link : ℕ) (none : Bool) (told : List Event) → suits call (the_answers.Done version moves.Still) ≡ true → Told [] told (owes n call (the_answers.Done version moves.Still))
    → NextServes call (if none then Answering (the_answers.Done version moves.Still) else Retiring (link - 1) (the_answers.Done version moves.Still)) × Told [] told (next_owed n call (if none then Answering (the_answers.Done version moves.Still) else Retiring (link - 1) (the_answers.Done version moves.Still)))
done_next n call version link true told s t = (s, t)
done_next n call version link false told s t = (s, t)

exchanged_owes : (n : ℕ) (call : Call) (kept : ChangeKept) (slot : ℕ) (post : Post) (desk : Desk) (same : Bool) → post.layout.config.buckets ≡ n → ChangeServes call kept.change kept.wanted → Owes n call [] (alters.exchanged kept slot post desk same)
exchanged_owes n call kept slot post desk true e c =
    let event : Event = alters.told_change (alters.changed_bucket kept post) (kept.version + 1) kept.change in
    let owed_is : event ∷ [] ≡ owes n call (the_answers.Done (kept.version + 1) moves.Still) = rw c.is (change_event n kept.change kept.wanted (kept.version + 1) post.layout.config.buckets e) in
    let s : suits call (the_answers.Done (kept.version + 1) moves.Still) ≡ true = rw c.is (change_suits kept.change kept.wanted (kept.version + 1)) in
    let t = told_one (events.Link (roots.Bucket (alters.changed_bucket kept post)) slot ∷ alters.told_cut kept.link) (owes n call (the_answers.Done (kept.version + 1) moves.Still)) event (change_loud (alters.changed_bucket kept post) (kept.version + 1) kept.change) (change_open (alters.changed_bucket kept post) (kept.version + 1) kept.change) (link_told (roots.Bucket (alters.changed_bucket kept post)) slot kept.link (kept.link == 0)) owed_is in
    let d = done_next n call (kept.version + 1) kept.link (kept.link == 0) (alters.told_linked kept slot post) s t in
    clearing_owes n call [] (Changes (record kept { taken = None })) (alters.answer_done (kept.version + 1) kept.link) post desk (alters.told_linked kept slot post) c d.0 d.1
exchanged_owes n call kept slot post desk false e c = clearing_owes n call [] (Changes kept) Again post desk [] c tt told_none

change_owes : (n : ℕ) (call : Call) (kept : ChangeKept) (at : ChangeAt) (post : Post) (desk : Desk) (found : ℕ) → post.layout.config.buckets ≡ n → ChangeServes call kept.change kept.wanted → Owes n call [] (alters.change_turn kept at post desk found)
change_owes n call kept (LoadVersion slot) post desk found e c = record { told = told_none; serves = c }
change_owes n call kept (LoadCount slot) post desk found e c = reading_owes n call kept slot found post desk (nat_lt 0 found) c
change_owes n call kept (LoadKey slot count) post desk found e c = record { told = told_none; serves = c }
change_owes n call kept (LoadValue slot count key) post desk found e c = reading_owes n call (alters.with_read kept key found) slot count post desk (nat_lt (length kept.pairs + 1) count) c
change_owes n call kept (ExchangeRoot slot) post desk found e c = exchanged_owes n call kept slot post desk (found == kept.link) e c

-- an enqueue
no_room_next : (n : ℕ) (call : Call) (told : List Event) (walked : Bool) → suits call the_answers.Full ≡ true → owes n call the_answers.Full ≡ [] → Told [] told [] → NextServes call (alters.no_room walked) × Told [] told (next_owed n call (alters.no_room walked))
no_room_next n call told false s e t = (tt, t)
no_room_next n call told true s e t = (s, subst (λ (all : List Event). Told [] told all) (sym e) t)

link_only : (root : Root) (slot : ℕ) (same : Bool) → Told [] (enqueues.told_link root slot same) []
link_only root slot true = record { sum = refl; goes = refl }
link_only root slot false = record { sum = refl; goes = refl }

appending_owes : (n : ℕ) (call : Call) (kept : EnqueueKept) (post : Post) (desk : Desk) (spent : Bool) → call ≡ names.Enqueue kept.value → Owes n call [] (enqueues.appending kept post desk spent)
appending_owes n call kept post desk true c = clearing_owes n call [] (Enqueues kept) (Answering (the_answers.Spent kept.number)) post desk [] c (rw c refl) (rw c told_none)
appending_owes n call kept post desk false c = record { told = told_none; serves = c }

at_next_owes : (n : ℕ) (call : Call) (kept : EnqueueKept) (next : ℕ) (post : Post) (desk : Desk) (none : Bool) → call ≡ names.Enqueue kept.value → Owes n call [] (enqueues.at_next kept next post desk none)
at_next_owes n call kept next post desk true c = appending_owes n call kept post desk (kept.number == post.layout.config.last_version) c
at_next_owes n call kept next post desk false c = record { told = told_none; serves = c }

queued_event : (n : ℕ) (call : Call) (number value : ℕ) → call ≡ names.Enqueue value → events.Queued number value ∷ [] ≡ owes n call (the_answers.Queued number)
queued_event n call number value c = rw c refl

queued_suits : (call : Call) (number value : ℕ) → call ≡ names.Enqueue value → suits call (the_answers.Queued number) ≡ true
queued_suits call number value c = rw c refl

appended_owes : (n : ℕ) (call : Call) (kept : EnqueueKept) (slot : ℕ) (post : Post) (desk : Desk) (same : Bool) → call ≡ names.Enqueue kept.value → Owes n call [] (enqueues.appended kept slot post desk same)
appended_owes n call kept slot post desk true c = record { told = record { sum = queued_event n call (kept.number + 1) kept.value c; goes = refl }; serves = c }
appended_owes n call kept slot post desk false c = clearing_owes n call [] (Enqueues kept) Again post desk [] c tt told_none

link_after : (before : List Event) (root : Root) (slot : ℕ) (same : Bool) → Told before (enqueues.told_link root slot same) before
link_after before root slot true = record { sum = append_none before; goes = refl }
link_after before root slot false = record { sum = append_none before; goes = refl }

enqueue_owes : (n : ℕ) (call : Call) (kept : EnqueueKept) (at : EnqueueAt) (post : Post) (desk : Desk) (found : ℕ) → call ≡ names.Enqueue kept.value → Owes n call (enqueue_owed n call kept at) (enqueues.enqueue_turn kept at post desk found)
enqueue_owes n call kept LoadNumber post desk found c = record { told = told_none; serves = c }
enqueue_owes n call kept LoadNext post desk found c = at_next_owes n call kept found post desk (found == 0) c
enqueue_owes n call kept (PassTail next) post desk found c = clearing_owes n call [] (Enqueues kept) Again post desk (enqueues.told_link roots.Tail (next - 1) (found == kept.tail + 1)) c tt (link_only roots.Tail (next - 1) (found == kept.tail + 1))
enqueue_owes n call kept (ExchangeNext slot) post desk found c = appended_owes n call kept slot post desk (found == 0) c
enqueue_owes n call kept (ExchangeTail slot) post desk found c =
    clearing_owes n call (owes n call (the_answers.Queued (kept.number + 1))) (Enqueues kept) (Answering (the_answers.Queued (kept.number + 1))) post desk (enqueues.told_link roots.Tail slot (found == kept.tail + 1)) c (queued_suits call (kept.number + 1) kept.value c)
    (link_after (owes n call (the_answers.Queued (kept.number + 1))) roots.Tail slot (found == kept.tail + 1))

-- a dequeue
followed_row_owes : (n : ℕ) (call : Call) (head next : ℕ) (post : Post) (desk : Desk) (told : List Event) (lags : Bool) → call ≡ names.Dequeue → Told [] told [] → Owes n call [] (dequeues.followed_row head next post desk told lags)
followed_row_owes n call head next post desk told true c t = record { told = t; serves = c }
followed_row_owes n call head next post desk told false c t = record { told = t; serves = c }

followed_owes : (n : ℕ) (call : Call) (head tail : ℕ) (ending : FollowEnd) (post : Post) (desk : Desk) (told : List Event) → call ≡ names.Dequeue → Told [] told [] → Owes n call [] (dequeues.followed head tail ending post desk told)
followed_owes n call head tail (follow_ends.Followed slot) post desk told c t = followed_row_owes n call head slot post desk told (tail == head + 1) c t
followed_owes n call head tail follow_ends.NoNext post desk told c t = clearing_next_owes n call [] (Answering the_answers.Empty) post desk told c (rw c refl) (rw c t)
followed_owes n call head tail (follow_ends.RootMoved seen) post desk told c t = clearing_next_owes n call [] Again post desk told c tt t

taken_event : (n : ℕ) (call : Call) (number value : ℕ) → call ≡ names.Dequeue → events.Taken number value ∷ [] ≡ owes n call (the_answers.Taken number value moves.Still)
taken_event n call number value c = rw c refl

taken_owes : (n : ℕ) (call : Call) (head next number value : ℕ) (post : Post) (desk : Desk) (same : Bool) → call ≡ names.Dequeue → Owes n call [] (dequeues.taken head next number value post desk same)
taken_owes n call head next number value post desk true c =
    clearing_next_owes n call [] (Retiring head (the_answers.Taken number value moves.Still)) post desk (events.Link roots.Head next ∷ events.Cut head ∷ events.Taken number value ∷ []) c (rw c refl)
    (record { sum = taken_event n call number value c; goes = refl })
taken_owes n call head next number value post desk false c = clearing_next_owes n call [] Again post desk [] c tt told_none

dequeue_owes : (n : ℕ) (call : Call) (at : DequeueAt) (post : Post) (desk : Desk) (found : ℕ) → call ≡ names.Dequeue → Owes n call [] (dequeues.dequeue_turn at post desk found)
dequeue_owes n call (SwingTail head next) post desk found c = clearing_next_owes n call [] Again post desk (enqueues.told_link roots.Tail next (found == head + 1)) c tt (link_only roots.Tail next (found == head + 1))
dequeue_owes n call (ExchangeHead head next number value) post desk found c = taken_owes n call head next number value post desk (found == head + 1) c
dequeue_owes n call at post desk found c = record { told = told_none; serves = c }

-- a seat that leaves
parting_owes : (n : ℕ) (call : Call) (post : Post) (desk : Desk) (told : List Event) (rows : Bool) (x : Option ℕ) → call ≡ names.Leave → Told [] told [] → Owes n call [] (goes_on post desk told (keeps.parting_index rows x))
parting_owes n call post desk told rows None c t = record { told = t; serves = c }
parting_owes n call post desk told rows (Some index) c t = record { told = t; serves = c }

-- what stands at indexes from 2 on
released_owes : (n : ℕ) (call : Call) (let_go : LetGo) (post : Post) (desk : Desk) (told : List Event) → FreeServes call let_go → Told [] told [] → Owes n call [] (keeps.released let_go post desk told)
released_owes n call Released post desk told c t = record { told = rw c t; serves = rw c refl }
released_owes n call (Rehold key) post desk told c t = record { told = again_owes n call [] (Holds key) post told c t; serves = round_serves n call (Holds key) post c }
released_owes n call (Dropped index) post desk told c t = record { told = rw c t; serves = rw c refl }
released_owes n call (Parting index) post desk told c t = parting_owes n call post desk told (publishes_rows (scheme_of post)) (standing_from (index + 1) (drop (index + 1) post.standing)) c t

copied_owes : (n : ℕ) (call : Call) (from index : ℕ) (post : Post) (desk : Desk) (reserved : List Event) (o : Option ℕ) → call ≡ names.Copy from index → all_of is_machine reserved ≡ true → Owes n call [] (keeps.copied from index post desk reserved o)
copied_owes n call from index post desk reserved None c m = record { told = rw c told_none; serves = rw c refl }
copied_owes n call from index post desk reserved (Some slot) c m =
    let before : List Event = cleared index (stands post index) ++ reserved in
    let b : all_of is_machine before ≡ true = of_along is_machine (cleared index (stands post index)) reserved (cleared_all is_machine index (stands post index) (λ index slot. refl)) m in
    record {
      told = told_one before (owes n call (the_answers.Copied slot)) (events.Copied from index slot) refl refl (told_machine [] before b) (rw c refl);
      serves = rw c refl;
    }

load_owes : (n : ℕ) (call : Call) (from index : ℕ) (post : Post) (desk : Desk) (found : ℕ) (one : Bool) → call ≡ names.Copy from index → Owes n call [] (keeps.load_held from index post desk found one)
load_owes n call from index post desk found true c = copied_owes n call from index post desk [] (stands post from) c refl
load_owes n call from index post desk found false c = record { told = told_none; serves = c }

looking_owes : (n : ℕ) (call : Call) (index key slot version count : ℕ) (post : Post) (desk : Desk) (on : Bool) (pair : ℕ) → call ≡ names.Look index key → Owes n call [] (keeps.looking index key slot version count post desk on pair)
looking_owes n call index key slot version count post desk true pair c = record { told = told_none; serves = c }
looking_owes n call index key slot version count post desk false pair c = record { told = rw c told_none; serves = rw c refl }

looked_key_owes : (n : ℕ) (call : Call) (index key slot version count pair : ℕ) (post : Post) (desk : Desk) (own : Bool) → call ≡ names.Look index key → Owes n call [] (keeps.looked_key index key slot version count pair post desk own)
looked_key_owes n call index key slot version count pair post desk true c = record { told = told_none; serves = c }
looked_key_owes n call index key slot version count pair post desk false c = looking_owes n call index key slot version count post desk (nat_lt (pair + 1) count) (pair + 1) c

look_owes : (n : ℕ) (call : Call) (index key : ℕ) (at : GetAt) (post : Post) (desk : Desk) (found : ℕ) → call ≡ names.Look index key → Owes n call [] (keeps.look_turn index key at post desk found)
look_owes n call index key (FindVersion slot) post desk found c = record { told = told_none; serves = c }
look_owes n call index key (FindCount slot version) post desk found c = looking_owes n call index key slot version found post desk (nat_lt 0 found) 0 c
look_owes n call index key (FindKey slot version count pair) post desk found c = looked_key_owes n call index key slot version count pair post desk (found == key) c
look_owes n call index key (FindValue slot version pair) post desk found c = record { told = rw c told_none; serves = rw c refl }

miss_owes : (n : ℕ) (call : Call) (index : ℕ) (post : Post) (desk : Desk) → MissServes call index → Owes n call [] (answers post desk [] the_answers.Nothing)
miss_owes n (names.Copy from other) index post desk c = record { told = told_none; serves = refl }
miss_owes n (names.Look own key) index post desk c = record { told = told_none; serves = refl }
miss_owes n call index post desk c = absurd c

left_event : (n : ℕ) (call : Call) (count : ℕ) → call ≡ names.Leave → events.Left count ∷ [] ≡ owes n call (the_answers.Left count)
left_event n call count c = rw c refl

adopted_event : (n : ℕ) (call : Call) (place count : ℕ) → call ≡ names.Adopt place → events.Adopted place count ∷ [] ≡ owes n call (the_answers.Adopted count)
adopted_event n call place count c = rw c refl

adopted_suits : (call : Call) (place count : ℕ) → call ≡ names.Adopt place → suits call (the_answers.Adopted count) ≡ true
adopted_suits call place count c = rw c refl

-- no list was taken over
untaken : (n : ℕ) (call : Call) (place : ℕ) (post : Post) (desk : Desk) (none : Bool) → call ≡ names.Adopt place → Owes n call [] (answers post desk [] (if none then the_answers.NotLeft else the_answers.AdoptedBefore))
untaken n call place post desk true c = record { told = rw c told_none; serves = rw c refl }
untaken n call place post desk false c = record { told = rw c told_none; serves = rw c refl }

taking_owes : (n : ℕ) (call : Call) (place : ℕ) (post : Post) (desk : Desk) (left : Bool) (found : ℕ) → call ≡ names.Adopt place → Owes n call [] (keeps.taking place post desk left found)
taking_owes n call place post desk true found c = record { told = record { sum = adopted_event n call place (length desk.gift) c; goes = refl }; serves = c }
taking_owes n call place post desk false found c = untaken n call place post desk (found == 0) c

keep_owes : (n : ℕ) (call : Call) (at : KeepAt) (post : Post) (desk : Desk) (found : ℕ) → KeepServes call at → Owes n call (keep_owed n call at) (keeps.keep_turn at post desk found)
keep_owes n call (Loosens let_go) post desk found c =
    let told : List Event = cleared (let_index let_go) (stands post (let_index let_go)) in
    released_owes n call let_go (withdrawn post (let_index let_go)) desk told c (told_machine [] told (cleared_all is_machine (let_index let_go) (stands post (let_index let_go)) (λ index slot. refl)))
keep_owes n call (LoadHeld from index) post desk found c = load_owes n call from index post desk found (has_one_interval (scheme_of post)) c
keep_owes n call (StoreHeld from index number) post desk found c = copied_owes n call from index post desk (publishes_index (publishes_rows (scheme_of post)) post index number) (stands post from) c (by (publishes_rows (scheme_of post)))
  where
    by : (rows : Bool) → all_of is_machine (publishes_index rows post index number) ≡ true
    by true = refl
    by false = refl
keep_owes n call (Looks index key at) post desk found c = look_owes n call index key at post desk found c
keep_owes n call (Misses index) post desk found c = miss_owes n call index post desk c
keep_owes n call HideSpan post desk found c =
    let rows : List Event = cleared_from 2 (drop 2 post.standing) in
    let told : List Event = rows ++ reserves_span post None in
    record { told = told_machine [] told (of_along is_machine rows (reserves_span post None) (cleared_from_all is_machine 2 (drop 2 post.standing) (λ index slot. refl)) refl); serves = c }
keep_owes n call MarkLeft post desk found c = record { told = record { sum = left_event n call (length desk.list) c; goes = refl }; serves = rw c refl }
keep_owes n call (TakeList place) post desk found c = taking_owes n call place post desk (found == 1) found c
keep_owes n call (MarkTaken place count) post desk found c =
    record { told = record { sum = append_none (owes n call (the_answers.Adopted count)); goes = refl }; serves = adopted_suits call place count c }

work_owes : (n : ℕ) (call : Call) (work : Work) (post : Post) (desk : Desk) (found : ℕ) → post.layout.config.buckets ≡ n → WorkServes call work → Owes n call (work_owed n call work) (steps.work_turn work post desk found)
work_owes n call (Getting key at) post desk found e c = get_owes n call key at post desk found e c
work_owes n call (Changing kept at) post desk found e c = change_owes n call kept at post desk found e c
work_owes n call (Enqueuing kept at) post desk found e c = enqueue_owes n call kept at post desk found c
work_owes n call (Dequeuing at) post desk found e c = dequeue_owes n call at post desk found c
work_owes n call (Keeping at) post desk found e c = keep_owes n call at post desk found c

-- a scan
scanned_owes : (n : ℕ) (call : Call) (later : AfterScan) (post : Post) (desk : Desk) (told : List Event) → LaterServes call later → Told (later_owed n call later) told (later_owed n call later) → Owes n call (later_owed n call later) (scan.scanned later post desk told)
scanned_owes n call (Answered answer) post desk told s t = record { told = t; serves = s }
scanned_owes n call (Repeated task) post desk told s t = record { told = again_owes n call [] task post told s t; serves = round_serves n call task post s }
scanned_owes n call Counted post desk told s t = record { told = rw s t; serves = rw s refl }

giving_owes : (n : ℕ) (call : Call) (later : AfterScan) (post : Post) (desk : Desk) (told : List Event) (x : Option scan.Entry) → LaterServes call later → Told (later_owed n call later) told (later_owed n call later) → Owes n call (later_owed n call later) (scan.giving_back later post desk told x)
giving_owes n call later post desk told None s t = scanned_owes n call later post (scan.with_kept desk) told s t
giving_owes n call later post desk told (Some entry) s t = record { told = t; serves = s }

guard_owes : (n : ℕ) (call : Call) (later : AfterScan) (number : ℕ) (post : Post) (desk : Desk) (told : List Event) (on : Bool) → LaterServes call later → Told (later_owed n call later) told (later_owed n call later) → Owes n call (later_owed n call later) (scan.reading later number post desk told on)
guard_owes n call later number post desk told true s t = record { told = t; serves = s }
guard_owes n call later number post desk told false s t = giving_owes n call later post desk told (scan.unmet_from desk 0) s t

scan_owes : (n : ℕ) (call : Call) (later : AfterScan) (at : ScanAt) (post : Post) (desk : Desk) (found : ℕ) → LaterServes call later → Owes n call (later_owed n call later) (scan.scan_turn later at post desk found)
scan_owes n call later (ReadGuard number) post desk found s =
    let rows : Bool = publishes_rows post.layout.config.scheme in
    let guard : Guard = guard_at post.layout.config number in
    guard_owes n call later number post (scan.with_read desk number (guard, published rows guard found)) (scan.reads_guard rows guard found ∷ []) (nat_lt (number + 1) (guards post.layout.config)) s
    (reads_are (λ (event : Event). Told (later_owed n call later) (event ∷ []) (later_owed n call later)) rows guard found (λ span. record { sum = append_none (later_owed n call later); goes = refl }) (λ slot. record { sum = append_none (later_owed n call later); goes = refl }))
scan_owes n call later (GiveBack place slot) post desk found s =
    giving_owes n call later post (scan.with_back desk place) (events.Back slot ∷ []) (scan.unmet_from (scan.with_back desk place) place) s (record { sum = append_none (later_owed n call later); goes = refl })

-- a machine has ended
opened_row_owes : (n : ℕ) (call : Call) (task : Task) (slot : ℕ) (post : Post) (desk : Desk) (told : List Event) → TaskServes call task → Told [] told [] → Owes n call [] (steps.opened_row task slot post desk told)
opened_row_owes n call (Gets key) slot post desk told c t = record { told = t; serves = c }
opened_row_owes n call (Changes kept) slot post desk told c t = record { told = t; serves = c }
opened_row_owes n call (Holds key) slot post desk told c t = record { told = rw c t; serves = rw c refl }
opened_row_owes n call (Enqueues kept) slot post desk told c t = record { told = t; serves = c }
opened_row_owes n call Dequeues slot post desk told c t = record { told = t; serves = c }

opened_null_owes : (n : ℕ) (call : Call) (task : Task) (post : Post) (desk : Desk) (told : List Event) → post.layout.config.buckets ≡ n → TaskServes call task → Told [] told [] → Owes n call [] (steps.opened_null task post desk told)
opened_null_owes n call (Gets key) post desk told e c t = got_owes n call key 0 None post desk told e c t
opened_null_owes n call (Changes kept) post desk told e c t = deciding_owes n call (alters.at_link kept 0) post desk told c t
opened_null_owes n call (Holds key) post desk told e c t = clearing_owes n call [] (Holds key) (Answering the_answers.Nothing) post desk told c (rw c refl) (rw c t)
opened_null_owes n call (Enqueues kept) post desk told e c t = clearing_owes n call [] (Enqueues kept) Again post desk told c tt t
opened_null_owes n call Dequeues post desk told e c t = clearing_owes n call [] Dequeues Again post desk told c tt t

opened_owes : (n : ℕ) (call : Call) (task : Task) (ending : Ending) (post : Post) (desk : Desk) (told : List Event) → post.layout.config.buckets ≡ n → TaskServes call task → Told [] told [] → Owes n call [] (steps.opened task ending post desk told)
opened_owes n call task (Protected (protect_ends.Held slot era)) post desk told e c t = opened_row_owes n call task slot post desk told c t
opened_owes n call task (Protected protect_ends.Null) post desk told e c t = opened_null_owes n call task post desk told e c t
opened_owes n call task Done post desk told e c t = record { told = t; serves = c }
opened_owes n call task (Followed end) post desk told e c t = record { told = t; serves = c }
opened_owes n call task (Allocated end) post desk told e c t = record { told = t; serves = c }
opened_owes n call task (Retired life) post desk told e c t = record { told = t; serves = c }
opened_owes n call task (Clocked clock) post desk told e c t = record { told = t; serves = c }

full_change : (n : ℕ) (change : Change) (wanted : Option ℕ) → (suits (call_for change wanted) the_answers.Full ≡ true) × (owes n (call_for change wanted) the_answers.Full ≡ [])
full_change n (changes.Put key value) None = (refl, refl)
full_change n (changes.Put key value) (Some wanted) = (refl, refl)
full_change n (changes.Removed key) wanted = (refl, refl)

filled_by_owes : (n : ℕ) (call : Call) (task : Task) (ending : AllocateEnd) (post : Post) (desk : Desk) (told : List Event) → TaskServes call task → Told [] told [] → Owes n call [] (steps.filled_by task ending post desk told)
filled_by_owes n call (Changes kept) (allocate_ends.Given slot birth) post desk told c t = record { told = t; serves = c }
filled_by_owes n call (Changes kept) allocate_ends.Full post desk told c t =
    let f = full_change n kept.change kept.wanted in
    let r = no_room_next n call told kept.walked (rw c.is f.0) (rw c.is f.1) t in
    clearing_owes n call [] (Changes (alters.with_walked kept)) (alters.no_room kept.walked) post desk told c r.0 r.1
filled_by_owes n call (Enqueues kept) (allocate_ends.Given slot birth) post desk told c t = record { told = t; serves = c }
filled_by_owes n call (Enqueues kept) allocate_ends.Full post desk told c t =
    let r = no_room_next n call told kept.walked (rw c refl) (rw c refl) t in
    clearing_owes n call [] (Enqueues (enqueues.item_walked kept)) (alters.no_room kept.walked) post desk told c r.0 r.1
filled_by_owes n call (Gets key) ending post desk told c t = closed_owes n call [] (Gets key) Again post desk told c tt t
filled_by_owes n call (Holds key) ending post desk told c t = closed_owes n call [] (Holds key) Again post desk told c tt t
filled_by_owes n call Dequeues ending post desk told c t = closed_owes n call [] Dequeues Again post desk told c tt t

written_owes : (n : ℕ) (call : Call) (task : Task) (post : Post) (desk : Desk) (told : List Event) → TaskServes call task → Told [] told [] → Owes n call [] (steps.written_row task post desk told)
written_owes n call (Changes kept) post desk told c t = record { told = t; serves = c }
written_owes n call (Enqueues kept) post desk told c t = record { told = t; serves = c }
written_owes n call (Gets key) post desk told c t = closed_owes n call [] (Gets key) Again post desk told c tt t
written_owes n call (Holds key) post desk told c t = closed_owes n call [] (Holds key) Again post desk told c tt t
written_owes n call Dequeues post desk told c t = closed_owes n call [] Dequeues Again post desk told c tt t

filled_owes : (n : ℕ) (call : Call) (task : Task) (ending : Ending) (post : Post) (desk : Desk) (told : List Event) → TaskServes call task → Told [] told [] → Owes n call [] (steps.filled task ending post desk told)
filled_owes n call task (Allocated ending) post desk told c t = filled_by_owes n call task ending post desk told c t
filled_owes n call task Done post desk told c t = written_owes n call task post desk told c t
filled_owes n call task (Protected end) post desk told c t = written_owes n call task post desk told c t
filled_owes n call task (Followed end) post desk told c t = written_owes n call task post desk told c t
filled_owes n call task (Retired life) post desk told c t = written_owes n call task post desk told c t
filled_owes n call task (Clocked clock) post desk told c t = written_owes n call task post desk told c t

followed_by_owes : (n : ℕ) (call : Call) (head tail : ℕ) (ending : Ending) (post : Post) (desk : Desk) (told : List Event) → call ≡ names.Dequeue → Told [] told [] → Owes n call [] (steps.followed_by head tail ending post desk told)
followed_by_owes n call head tail (Followed ending) post desk told c t = followed_owes n call head tail ending post desk told c t
followed_by_owes n call head tail Done post desk told c t = closed_owes n call [] Dequeues Again post desk told c tt t
followed_by_owes n call head tail (Protected end) post desk told c t = closed_owes n call [] Dequeues Again post desk told c tt t
followed_by_owes n call head tail (Allocated end) post desk told c t = closed_owes n call [] Dequeues Again post desk told c tt t
followed_by_owes n call head tail (Retired life) post desk told c t = closed_owes n call [] Dequeues Again post desk told c tt t
followed_by_owes n call head tail (Clocked clock) post desk told c t = closed_owes n call [] Dequeues Again post desk told c tt t

tidying_owes : (n : ℕ) (call : Call) (answer : Answer) (post : Post) (desk : Desk) (told : List Event) (due : Bool) → suits call answer ≡ true → Told (owes n call answer) told (owes n call answer) → Owes n call (owes n call answer) (steps.tidying answer post desk told due)
tidying_owes n call answer post desk told true s t = tidy_owes n call (owes n call answer) (Answered answer) (moves_clock (scheme_of post)) post desk told s t
tidying_owes n call answer post desk told false s t = record { told = t; serves = s }

retired_owes : (n : ℕ) (call : Call) (answer : Answer) (ending : Ending) (post : Post) (desk : Desk) (told : List Event) → suits call answer ≡ true → Told (owes n call answer) told (owes n call answer) → Owes n call (owes n call answer) (steps.retired_by answer ending post desk told)
retired_owes n call answer (Retired life) post desk told s t = tidying_owes n call answer post (with_life desk life) told (post.retired % post.layout.config.every == 0) s t
retired_owes n call answer Done post desk told s t = record { told = t; serves = s }
retired_owes n call answer (Protected end) post desk told s t = record { told = t; serves = s }
retired_owes n call answer (Followed end) post desk told s t = record { told = t; serves = s }
retired_owes n call answer (Allocated end) post desk told s t = record { told = t; serves = s }
retired_owes n call answer (Clocked clock) post desk told s t = record { told = t; serves = s }

clocked_owes : (n : ℕ) (call : Call) (later : AfterScan) (clock : ClockMove) (post : Post) (desk : Desk) (told : List Event) → LaterServes call later → Told (later_owed n call later) told (later_owed n call later) → Owes n call (later_owed n call later) (steps.tidied later (Clocked clock) post desk told)
clocked_owes n call (Answered answer) clock post desk told s t = record { told = subst (λ (all : List Event). Told (owes n call answer) told all) (sym (clock_owes n call answer clock)) t; serves = clock_suits call answer clock ∙ s }
clocked_owes n call (Repeated task) clock post desk told s t = record { told = t; serves = s }
clocked_owes n call Counted clock post desk told s t = record { told = t; serves = s }

tidied_owes : (n : ℕ) (call : Call) (later : AfterScan) (ending : Ending) (post : Post) (desk : Desk) (told : List Event) → LaterServes call later → Told (later_owed n call later) told (later_owed n call later) → Owes n call (later_owed n call later) (steps.tidied later ending post desk told)
tidied_owes n call later (Clocked clock) post desk told s t = clocked_owes n call later clock post desk told s t
tidied_owes n call later Done post desk told s t = record { told = t; serves = s }
tidied_owes n call later (Protected end) post desk told s t = record { told = t; serves = s }
tidied_owes n call later (Followed end) post desk told s t = record { told = t; serves = s }
tidied_owes n call later (Allocated end) post desk told s t = record { told = t; serves = s }
tidied_owes n call later (Retired life) post desk told s t = record { told = t; serves = s }

advanced_owes : (n : ℕ) (call : Call) (ending : Ending) (post : Post) (desk : Desk) (told : List Event) → ends_clocked ending ≡ true → call ≡ names.Advance → Told [] told [] → Owes n call [] (steps.advanced ending post desk told)
advanced_owes n call (Clocked clock) post desk told m c t = record { told = rw c t; serves = rw c refl }
advanced_owes n call Done post desk told m c t = absurd (cc)
advanced_owes n call (Protected end) post desk told m c t = absurd (cc)
advanced_owes n call (Followed end) post desk told m c t = absurd (cc)
advanced_owes n call (Allocated end) post desk told m c t = absurd (cc)
advanced_owes n call (Retired life) post desk told m c t = absurd (cc)

resume_owes : (n : ℕ) (call : Call) (why : Why) (ending : Ending) (post : Post) (desk : Desk) (told : List Event) → EndsFor why (Ends ending) → post.layout.config.buckets ≡ n → WhyServes call why → Told (why_owed n call why) told (why_owed n call why) → Owes n call (why_owed n call why) (steps.resume why ending post desk told)
resume_owes n call (Opens task) ending post desk told m e s t = opened_owes n call task ending post desk told e s t
resume_owes n call (FollowsHead head tail) ending post desk told m e s t = followed_by_owes n call head tail ending post desk told s t
resume_owes n call (Fills task) ending post desk told m e s t = filled_owes n call task ending post desk told s t
resume_owes n call (ClearsNext next) ending post desk told m e s t = clearing_owes n call (next_owed n call next) Dequeues next post desk told s.0 s.1 t
resume_owes n call (Clears task next) ending post desk told m e s t = finishing_owes n call (next_owed n call next) task next post desk told s.0 s.1 t
resume_owes n call (Finishes task next) ending post desk told m e s t = closed_owes n call (next_owed n call next) task next post desk told s.0 s.1 t
resume_owes n call (GivesUp answer) ending post desk told m e s t = record { told = t; serves = s }
resume_owes n call (Retires answer) ending post desk told m e s t = retired_owes n call answer ending post desk told s t
resume_owes n call (Tidies later) ending post desk told m e s t = tidied_owes n call later ending post desk told s t
resume_owes n call Advances ending post desk told m e s t = advanced_owes n call ending post desk told m s t
resume_owes n call (Releases let_go) ending post desk told m e s t = released_owes n call let_go post desk told s t

resumed_owes : (n : ℕ) (call : Call) (why : Why) (desk : Desk) (post : Post) (told : List Event) (outcome : Outcome) → EndsFor why outcome → post.layout.config.buckets ≡ n → WhyServes call why → Told (why_owed n call why) told (why_owed n call why) → Owes n call (why_owed n call why) (steps.resumed why desk post told outcome)
resumed_owes n call why desk post told (Goes base) m e s t = record { told = t; serves = s }
resumed_owes n call why desk post told (Ends ending) m e s t = resume_owes n call why ending post desk told m e s t

-- of a phase's machine
abbrev pub PhaseEnds : Phase → Post → ℕ → Type 0
PhaseEnds Idle post found = Unit {0}
PhaseEnds (Runs why base) post found = EndsFor why (machine.after base post found).outcome
PhaseEnds (Scans later at) post found = Unit {0}
PhaseEnds (Works work) post found = Unit {0}

pub turn_owes : (n : ℕ) (call : Call) (phase : Phase) (post : Post) (desk : Desk) (found : ℕ) → PhaseEnds phase post found → post.layout.config.buckets ≡ n → Serves call phase → Owes n call (owed n call phase) (steps.phase_turn phase post desk found)
turn_owes n call Idle post desk found m e s = absurd s
turn_owes n call (Runs why base) post desk found m e s =
    resumed_owes n call why desk (machine.after base post found).post (machine.after base post found).told (machine.after base post found).outcome m
    (ap (λ (table : Layout). table.config.buckets) (after_same base post found).layout ∙ e) s (told_machine (why_owed n call why) (machine.after base post found).told (base_machine base post found))
turn_owes n call (Scans later at) post desk found m e s = scan_owes n call later at post desk found s
turn_owes n call (Works work) post desk found m e s = work_owes n call work post desk found e s

-- what is let go first
letting_serves : (call : Call) (let_go : LetGo) (x : Option Base) → FreeServes call let_go → Serves call (letting_by let_go x)
letting_serves call let_go None s = s
letting_serves call let_go (Some base) s = s

letting_none : (n : ℕ) (call : Call) (let_go : LetGo) (x : Option Base) → owed n call (letting_by let_go x) ≡ []
letting_none n call let_go None = refl
letting_none n call let_go (Some base) = refl

-- the first phase of a call owes nothing
pub first_serves : (call : Call) (post : Post) → Serves call (steps.first_phase call post)
first_serves (names.Get key) post = round_serves 0 (names.Get key) (Gets key) post refl
first_serves (names.Put key value) post = round_serves 0 (names.Put key value) (steps.changing (changes.Put key value) None) post (record { is = refl; may = refl })
first_serves (names.Remove key) post = round_serves 0 (names.Remove key) (steps.changing (changes.Removed key) None) post (record { is = refl; may = refl })
first_serves (names.PutIf key value version) post = round_serves 0 (names.PutIf key value version) (steps.changing (changes.Put key value) (Some version)) post (record { is = refl; may = refl })
first_serves (names.Enqueue value) post = round_serves 0 (names.Enqueue value) _ post refl
first_serves names.Dequeue post = round_serves 0 names.Dequeue Dequeues post refl
first_serves (names.Hold key) post = held_serves (stands post 2)
  where
    held_serves : (x : Option ℕ) → Serves (names.Hold key) (steps.holding key post x)
    held_serves None = round_serves 0 (names.Hold key) (Holds key) post refl
    held_serves (Some slot) = letting_serves (names.Hold key) (Rehold key) (release_base (scheme_of post) post 2) refl
first_serves names.Release post = letting_serves names.Release Released (release_base (scheme_of post) post 2) refl
first_serves (names.DropIndex index) post = letting_serves (names.DropIndex index) (Dropped index) (release_base (scheme_of post) post index) refl
first_serves (names.Copy from index) post = copy_serves (stands post from)
  where
    copy_serves : (x : Option ℕ) → Serves (names.Copy from index) (steps.copying from index x)
    copy_serves None = refl
    copy_serves (Some slot) = refl
first_serves (names.Look index key) post = look_serves (stands post index)
  where
    look_serves : (x : Option ℕ) → Serves (names.Look index key) (steps.looking_at index key x)
    look_serves None = refl
    look_serves (Some slot) = refl
first_serves names.Leave post = leave_serves (has_one_interval (scheme_of post))
  where
    span_serves : (x : Option Interval) → Serves names.Leave (keeps.parting_span x)
    span_serves None = refl
    span_serves (Some span) = refl

    index_serves : (rows : Bool) (x : Option ℕ) → Serves names.Leave (keeps.parting_index rows x)
    index_serves rows None = refl
    index_serves rows (Some index) = refl

    leave_serves : (one : Bool) → Serves names.Leave (if one then keeps.parting_span post.span else keeps.parting_from 2 post)
    leave_serves true = span_serves post.span
    leave_serves false = index_serves (publishes_rows (scheme_of post)) (standing_from 2 (drop 2 post.standing))
first_serves (names.Adopt place) post = refl
first_serves names.Advance post = refl
first_serves names.Scan post = refl

round_none : (n : ℕ) (call : Call) (task : Task) (post : Post) → TaskServes call task → owed n call (round task post) ≡ []
round_none n call task post s = let r = round_of n call task post s in r.none

pub first_owes : (n : ℕ) (call : Call) (post : Post) → owed n call (steps.first_phase call post) ≡ []
first_owes n (names.Get key) post = round_none n (names.Get key) (Gets key) post refl
first_owes n (names.Put key value) post = round_none n (names.Put key value) (steps.changing (changes.Put key value) None) post (record { is = refl; may = refl })
first_owes n (names.Remove key) post = round_none n (names.Remove key) (steps.changing (changes.Removed key) None) post (record { is = refl; may = refl })
first_owes n (names.PutIf key value version) post = round_none n (names.PutIf key value version) (steps.changing (changes.Put key value) (Some version)) post (record { is = refl; may = refl })
first_owes n (names.Enqueue value) post = round_none n (names.Enqueue value) _ post refl
first_owes n names.Dequeue post = round_none n names.Dequeue Dequeues post refl
first_owes n (names.Hold key) post = held_none (stands post 2)
  where
    held_none : (x : Option ℕ) → owed n (names.Hold key) (steps.holding key post x) ≡ []
    held_none None = round_none n (names.Hold key) (Holds key) post refl
    held_none (Some slot) = letting_none n (names.Hold key) (Rehold key) (release_base (scheme_of post) post 2)
first_owes n names.Release post = letting_none n names.Release Released (release_base (scheme_of post) post 2)
first_owes n (names.DropIndex index) post = letting_none n (names.DropIndex index) (Dropped index) (release_base (scheme_of post) post index)
first_owes n (names.Copy from index) post = copy_none (stands post from)
  where
    copy_none : (x : Option ℕ) → owed n (names.Copy from index) (steps.copying from index x) ≡ []
    copy_none None = refl
    copy_none (Some slot) = refl
first_owes n (names.Look index key) post = look_none (stands post index)
  where
    look_none : (x : Option ℕ) → owed n (names.Look index key) (steps.looking_at index key x) ≡ []
    look_none None = refl
    look_none (Some slot) = refl
first_owes n names.Leave post = leave_none (has_one_interval (scheme_of post))
  where
    span_none : (x : Option Interval) → owed n names.Leave (keeps.parting_span x) ≡ []
    span_none None = refl
    span_none (Some span) = refl

    index_none : (rows : Bool) (x : Option ℕ) → owed n names.Leave (keeps.parting_index rows x) ≡ []
    index_none rows None = refl
    index_none rows (Some index) = refl

    leave_none : (one : Bool) → owed n names.Leave (if one then keeps.parting_span post.span else keeps.parting_from 2 post) ≡ []
    leave_none true = span_none post.span
    leave_none false = index_none (publishes_rows (scheme_of post)) (standing_from 2 (drop 2 post.standing))
first_owes n (names.Adopt place) post = refl
first_owes n names.Advance post = refl
first_owes n names.Scan post = refl
