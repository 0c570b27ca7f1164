-- What a step of a call decides has its reason in the record.
use Rattle.std.proofs.Common.{ℕ, ◌≡◌, ◌≢◌, ◌≤◌, ◌<◌, ◌+◌, ◌%◌, Bool, true, false, List, [], take, length, Option, Some, None, refl, sym, ap, ◌∙◌, subst, arith}
use Rattle.std.proofs.lemmas.Bool.Decides.{nat_tests}
use Rattle.std.specs.Prelude.{◌==◌, ◌&&◌, is_none, is_some, nat_le, nat_lt, not, if◌then◌else◌}
use Rattle.law_scans.specs.inv.model.words.declared.config.Config.{Config}
use Rattle.law_scans.specs.inv.model.words.declared.layout.Layout.{Layout}
use Rattle.law_scans.specs.inv.model.defs.Pairs.{Pair}
use Rattle.law_scans.specs.inv.model.defs.declared.fold.Change.{Change}
use Rattle.law_scans.specs.inv.model.defs.declared.fold.Change.TheVariants as changes
use Rattle.law_scans.specs.inv.model.defs.declared.call.Answer.{Answer}
use Rattle.law_scans.specs.inv.model.defs.declared.call.Answer.TheVariants as the_answers
use Rattle.law_scans.specs.inv.model.defs.declared.call.Call.{Call}
use Rattle.law_scans.specs.inv.model.defs.declared.call.Call.TheVariants as names
use Rattle.law_scans.specs.inv.model.defs.declared.call.ClockMove.{ClockMove}
use Rattle.law_scans.specs.inv.model.defs.declared.call.ClockMove.TheVariants as moves
use Rattle.law_scans.specs.inv.model.declared.ends.FollowEnd.TheVariants as follow_ends
use Rattle.law_scans.specs.inv.model.declared.ends.ProtectEnd.TheVariants as protect_ends
use Rattle.law_scans.specs.inv.model.declared.post.Post.{Post}
use Rattle.law_scans.proofs.inv.model.Frames.{after_same}
use Rattle.law_scans.proofs.inv.model.Ranges.{bounds_of}
use Rattle.law_scans.proofs.inv.model.Standing.{stands-withdrawn_same, stands-with_row_same, stands-with_row_other}
use Rattle.law_scans.specs.inv.model.Change as alters
use Rattle.law_scans.specs.inv.model.Locals.{turn}
use Rattle.law_scans.specs.inv.model.Machine as machine
use Rattle.law_scans.specs.inv.model.Keep as keeps
use Rattle.law_scans.specs.inv.model.Desks.{Desk}
use Rattle.law_scans.specs.inv.model.words.Schemes.{has_one_interval, publishes_rows}
use Rattle.law_scans.specs.inv.model.defs.declared.event.Event.{Event}
use Rattle.law_scans.specs.inv.model.defs.Pairs.{pairs_after, value_in}
use Rattle.law_scans.specs.inv.model.Posts.{cleared, counted, publishes_index, stands, with_row, withdrawn}
use Rattle.law_scans.specs.inv.model.Rounds.{key_of, let_index, scheme_of, with_clock}
use Rattle.law_scans.specs.inv.model.Steps as steps
use Rattle.law_scans.specs.inv.model.Phases.{Base, Ending, Outcome, Goes, Ends, Turn}
use Rattle.law_scans.specs.inv.model.Phases.Ending.{Protected, Followed}
use Rattle.law_scans.specs.inv.model.Phases.Base.{Clear, Release}
use Rattle.law_scans.specs.inv.model.Calls.{Keeping, KeepAt, Loosens, LoadHeld, StoreHeld, Looks, Misses, HideSpan, MarkLeft, TakeList, MarkTaken, LetGo, Released, Rehold, Dropped, Parting, GetAt, FindVersion, FindCount, FindKey, FindValue, CallOutcome, Answers, Task, Changes, Holds, ChangeKept, EnqueueKept, ChangeAt, LoadCount, LoadValue, EnqueueAt, LoadNext, Work, Changing, Enqueuing, Why, Opens, FollowsHead, Releases, Phase, Idle, Runs, Scans, Works}
use Rattle.law_scans.specs.inv.model.World.{World, finds, offered}
use Rattle.law_scans.proofs.inv.model.Facts.{both, none_by, same_number}
use Rattle.law_scans.proofs.reuse.AnswersTold.Owed.{owed, ChangeServes, FreeServes, KeepServes, MissServes, Serves, WhyServes, WorkServes}
use Rattle.law_scans.specs.inv.model.defs.Events.{is_null, is_held}
use Rattle.law_scans.proofs.reuse.shapes.Kept.{counted_fits, run_counted}
use Rattle.law_scans.specs.inv.shapes.Seats.{PhaseFits, Run, Seats}
use Rattle.law_scans.specs.inv.history.Record.{Past, tells_of}
use Rattle.law_scans.proofs.inv.history.Passes.{keep_post}
use Rattle.law_scans.proofs.inv.ends.Told.Turns.{keep_just}
use Rattle.law_scans.specs.inv.Contents.Told.{LookRight}
use Rattle.law_scans.proofs.inv.Contents.Contents.Kept.{contents_looked}
use Rattle.law_scans.proofs.inv.Inv.Whole.{contents_need}
use Rattle.law_scans.specs.inv.shapes.Frame.{KeepFits, read_slot}
use Rattle.law_scans.specs.inv.shapes.Slots.{CopyIn, KeepIn, PhaseIn, Slots}
use Rattle.law_scans.specs.laws.StateAt.{stood_at, told_of, is_row, has_told}
use Rattle.law_scans.specs.laws.StructuresAt.{queued_of, begun_at, was_empty, RowShows, same_value, shows_of, value_at}
use Rattle.law_scans.proofs.inv.requests.Standings.{machine_stands}
use Rattle.law_scans.specs.inv.requests.Parents.{OutcomeStands, base_stands, phase_stands}
use Rattle.law_scans.specs.inv.requests.Views.{View as Asked}
use Rattle.law_scans.specs.inv.rows.Queue.{Line}
use Rattle.law_scans.specs.inv.rows.Rows.{View}
use Rattle.law_scans.specs.laws.AnswerLaw.{adopt_reason, enqueue_reason, shows_value, tells_none}
use Rattle.law_scans.specs.laws.StateAt.{times}
use Rattle.law_scans.specs.laws.StructuresAt.RowShows.{ShowsVersion}
use Rattle.law_reasons.proofs.Reasons.Missing.{MissesAt, is_any, is_copying, missed_none}
use Rattle.law_reasons.proofs.Reasons.Shows.{Shows}
use Rattle.law_scans.specs.laws.HistoryAnswers.{put_reason, put_if_reason, remove_reason, dequeue_reason, hold_reason, release_reason, copy_reason, drop_reason, leave_reason, look_reason, reason}
use Rattle.law_reasons.proofs.Reasons.Later.{Later, Bounds, is_last, reason_lasts}
use Rattle.law_reasons.proofs.Reasons.Deciding.{Sound, is_plain, ChangeDecides, EnqueueDecides, TaskDecides, FollowDecides, FreeDecides, WhyDecides, OutcomeDecides, AlterDecides, AppendDecides, KeepDecides, WorkDecides, PhaseDecides, PhaseKeeps, OutKeeps, keeps_on, turn_keeps}
use Rattle.law_reasons.proofs.Reasons.Emptied.{Emptied, no_next_seen}
use Rattle.law_reasons.proofs.Reasons.Reading.{Shown, NumberAt, count_read, value_read, null_base, null_read, number_read}
use Rattle.law_reasons.proofs.Reasons.Refusing.{ReadAt, some_is, change_refused, change_fits}
use Rattle.law_reasons.proofs.Reasons.Saying.{RunSays}
use Rattle.law_scans.proofs.inv.requests.Parents.{base_counted}
use Rattle.law_scans.specs.reuse.Answers.{PlacesSay}
use Rattle.law_scans.specs.inv.covers.Rests.{Vacant, vacant}
use Rattle.law_scans.specs.inv.model.words.Place.Place.{PlaceOf}
use Rattle.law_scans.proofs.inv.covers.Held.{finds_at}
use Rattle.law_reasons.proofs.Reasons.Parting.{bare_all, untaken_reason, untaken_told}
use Rattle.law_scans.proofs.inv.ends.Handover.Asks.{run_of}

-- an answer that is decided has its reason, which lasts
pub record Kept (c : Config) (i : ℕ) (p : Past) (call : Call) (answer : Answer) : Type 0 where
  pub lasts : is_last call answer ≡ false
  pub right : reason c i p (Some call) answer ≡ true

abbrev pub Right : Config → ℕ → Past → Call → Answer → Type 0
Right c i p call answer = reason c i p (Some call) answer ≡ true

pub kept_lasts : (c : Config) (i : ℕ) (p q : Past) (call : Call) (answer : Answer) → Later i p q → Bounds c q → Kept c i p call answer → Kept c i q call answer
kept_lasts c i p q call answer l n h = record { lasts = h.lasts; right = reason_lasts c i p q call answer l n h.lasts h.right }

-- the outcome of a move of the clock changes no reason
put_clock : (c : Config) (i b key : ℕ) (p : Past) (answer : Answer) (clock : ClockMove) → put_reason c i b key p answer ≡ true → put_reason c i b key p (with_clock answer clock) ≡ true
put_clock c i b key p (the_answers.Done version old) clock h = h
put_clock c i b key p (the_answers.Taken number value old) clock h = refl
put_clock c i b key p answer clock h = h

remove_clock : (c : Config) (i b key : ℕ) (p : Past) (answer : Answer) (clock : ClockMove) → remove_reason c i b key p answer ≡ true → remove_reason c i b key p (with_clock answer clock) ≡ true
remove_clock c i b key p (the_answers.Done version old) clock h = h
remove_clock c i b key p (the_answers.Taken number value old) clock h = refl
remove_clock c i b key p answer clock h = h

enqueue_clock : (c : Config) (p : Past) (answer : Answer) (clock : ClockMove) → enqueue_reason c p answer ≡ true → enqueue_reason c p (with_clock answer clock) ≡ true
enqueue_clock c p (the_answers.Done version old) clock h = refl
enqueue_clock c p (the_answers.Taken number value old) clock h = refl
enqueue_clock c p answer clock h = h

dequeue_clock : (i : ℕ) (p : Past) (answer : Answer) (clock : ClockMove) → dequeue_reason i p answer ≡ true → dequeue_reason i p (with_clock answer clock) ≡ true
dequeue_clock i p (the_answers.Done version old) clock h = refl
dequeue_clock i p (the_answers.Taken number value old) clock h = refl
dequeue_clock i p answer clock h = h

hold_clock : (i b : ℕ) (p : Past) (answer : Answer) (clock : ClockMove) → hold_reason i b p answer ≡ true → hold_reason i b p (with_clock answer clock) ≡ true
hold_clock i b p (the_answers.Done version old) clock h = refl
hold_clock i b p (the_answers.Taken number value old) clock h = refl
hold_clock i b p answer clock h = h

release_clock : (i : ℕ) (p : Past) (answer : Answer) (clock : ClockMove) → release_reason i p answer ≡ true → release_reason i p (with_clock answer clock) ≡ true
release_clock i p (the_answers.Done version old) clock h = refl
release_clock i p (the_answers.Taken number value old) clock h = refl
release_clock i p answer clock h = h

copy_clock : (i from index : ℕ) (p : Past) (answer : Answer) (clock : ClockMove) → copy_reason i from index p answer ≡ true → copy_reason i from index p (with_clock answer clock) ≡ true
copy_clock i from index p (the_answers.Done version old) clock h = refl
copy_clock i from index p (the_answers.Taken number value old) clock h = refl
copy_clock i from index p answer clock h = h

drop_clock : (i index : ℕ) (p : Past) (answer : Answer) (clock : ClockMove) → drop_reason i index p answer ≡ true → drop_reason i index p (with_clock answer clock) ≡ true
drop_clock i index p (the_answers.Done version old) clock h = refl
drop_clock i index p (the_answers.Taken number value old) clock h = refl
drop_clock i index p answer clock h = h

look_clock : (i index key : ℕ) (p : Past) (answer : Answer) (clock : ClockMove) → look_reason i index key p answer ≡ true → look_reason i index key p (with_clock answer clock) ≡ true
look_clock i index key p (the_answers.Done version old) clock h = refl
look_clock i index key p (the_answers.Taken number value old) clock h = refl
look_clock i index key p answer clock h = h

leave_clock : (n i : ℕ) (p : Past) (answer : Answer) (clock : ClockMove) → leave_reason n i p answer ≡ true → leave_reason n i p (with_clock answer clock) ≡ true
leave_clock n i p (the_answers.Done version old) clock h = refl
leave_clock n i p (the_answers.Taken number value old) clock h = refl
leave_clock n i p answer clock h = h

adopt_clock : (i place : ℕ) (p : Past) (answer : Answer) (clock : ClockMove) → adopt_reason i place p answer ≡ true → adopt_reason i place p (with_clock answer clock) ≡ true
adopt_clock i place p (the_answers.Done version old) clock h = refl
adopt_clock i place p (the_answers.Taken number value old) clock h = refl
adopt_clock i place p answer clock h = h

put_if_clock : (c : Config) (i b key wanted : ℕ) (p : Past) (answer : Answer) (clock : ClockMove) → put_if_reason c i b key wanted p answer ≡ true → put_if_reason c i b key wanted p (with_clock answer clock) ≡ true
put_if_clock c i b key wanted p (the_answers.Done version old) clock h = h
put_if_clock c i b key wanted p (the_answers.Taken number value old) clock h = refl
put_if_clock c i b key wanted p answer clock h = h

clock_right : (c : Config) (i : ℕ) (p : Past) (call : Call) (answer : Answer) (clock : ClockMove) → Right c i p call answer → Right c i p call (with_clock answer clock)
clock_right c i p (names.Put key value) answer clock h = put_clock c i (key % c.buckets) key p answer clock h
clock_right c i p (names.Remove key) answer clock h = remove_clock c i (key % c.buckets) key p answer clock h
clock_right c i p (names.Enqueue value) answer clock h = enqueue_clock c p answer clock h
clock_right c i p names.Dequeue answer clock h = dequeue_clock i p answer clock h
clock_right c i p (names.Hold key) answer clock h = hold_clock i (key % c.buckets) p answer clock h
clock_right c i p names.Release answer clock h = release_clock i p answer clock h
clock_right c i p (names.Copy from index) answer clock h = copy_clock i from index p answer clock h
clock_right c i p (names.DropIndex index) answer clock h = drop_clock i index p answer clock h
clock_right c i p (names.Look index key) answer clock h = look_clock i index key p answer clock h
clock_right c i p names.Leave answer clock h = leave_clock c.indexes i p answer clock h
clock_right c i p (names.Adopt place) answer clock h = adopt_clock i place p answer clock h
clock_right c i p (names.PutIf key value wanted) answer clock h = put_if_clock c i (key % c.buckets) key wanted p answer clock h
clock_right c i p call answer clock h = refl

clock_last : (call : Call) (answer : Answer) (clock : ClockMove) → is_last call answer ≡ false → is_last call (with_clock answer clock) ≡ false
clock_last call (the_answers.Done version old) clock h = refl
clock_last call (the_answers.Taken number value old) clock h = refl
clock_last call answer clock h = h

-- answers of which the law says nothing
put_plain : (c : Config) (i b key : ℕ) (p : Past) (answer : Answer) → is_plain answer ≡ true → put_reason c i b key p answer ≡ true
put_plain c i b key p (the_answers.Done version clock) h = absurd (cc)
put_plain c i b key p (the_answers.Spent version) h = absurd (cc)
put_plain c i b key p (the_answers.BucketFull version) h = absurd (cc)
put_plain c i b key p answer h = refl

remove_plain : (c : Config) (i b key : ℕ) (p : Past) (answer : Answer) → is_plain answer ≡ true → remove_reason c i b key p answer ≡ true
remove_plain c i b key p (the_answers.Done version clock) h = absurd (cc)
remove_plain c i b key p (the_answers.Absent version) h = absurd (cc)
remove_plain c i b key p (the_answers.Spent version) h = absurd (cc)
remove_plain c i b key p answer h = refl

enqueue_plain : (c : Config) (p : Past) (answer : Answer) → is_plain answer ≡ true → enqueue_reason c p answer ≡ true
enqueue_plain c p (the_answers.Queued number) h = absurd (cc)
enqueue_plain c p (the_answers.Spent number) h = absurd (cc)
enqueue_plain c p answer h = refl

dequeue_plain : (i : ℕ) (p : Past) (answer : Answer) → is_plain answer ≡ true → dequeue_reason i p answer ≡ true
dequeue_plain i p the_answers.Empty h = absurd (cc)
dequeue_plain i p answer h = refl

hold_plain : (i b : ℕ) (p : Past) (answer : Answer) → is_plain answer ≡ true → hold_reason i b p answer ≡ true
hold_plain i b p (the_answers.Holding slot) h = absurd (cc)
hold_plain i b p the_answers.Nothing h = absurd (cc)
hold_plain i b p answer h = refl

release_plain : (i : ℕ) (p : Past) (answer : Answer) → is_plain answer ≡ true → release_reason i p answer ≡ true
release_plain i p the_answers.Released h = absurd (cc)
release_plain i p answer h = refl

copy_plain : (i from index : ℕ) (p : Past) (answer : Answer) → is_plain answer ≡ true → copy_reason i from index p answer ≡ true
copy_plain i from index p (the_answers.Copied slot) h = absurd (cc)
copy_plain i from index p the_answers.Nothing h = absurd (cc)
copy_plain i from index p answer h = refl

drop_plain : (i index : ℕ) (p : Past) (answer : Answer) → is_plain answer ≡ true → drop_reason i index p answer ≡ true
drop_plain i index p the_answers.Dropped h = absurd (cc)
drop_plain i index p answer h = refl

look_plain : (i index key : ℕ) (p : Past) (answer : Answer) → is_plain answer ≡ true → look_reason i index key p answer ≡ true
look_plain i index key p (the_answers.Looked slot version value) h = absurd (cc)
look_plain i index key p the_answers.Nothing h = absurd (cc)
look_plain i index key p answer h = refl

leave_plain : (n i : ℕ) (p : Past) (answer : Answer) → is_plain answer ≡ true → leave_reason n i p answer ≡ true
leave_plain n i p (the_answers.Left count) h = absurd (cc)
leave_plain n i p answer h = refl

adopt_plain : (i place : ℕ) (p : Past) (answer : Answer) → is_plain answer ≡ true → adopt_reason i place p answer ≡ true
adopt_plain i place p the_answers.NotLeft h = absurd (cc)
adopt_plain i place p the_answers.AdoptedBefore h = absurd (cc)
adopt_plain i place p answer h = refl

put_if_plain : (c : Config) (i b key wanted : ℕ) (p : Past) (answer : Answer) → is_plain answer ≡ true → put_if_reason c i b key wanted p answer ≡ true
put_if_plain c i b key wanted p (the_answers.Done version clock) h = absurd (cc)
put_if_plain c i b key wanted p (the_answers.Stale version) h = absurd (cc)
put_if_plain c i b key wanted p (the_answers.Spent version) h = absurd (cc)
put_if_plain c i b key wanted p (the_answers.BucketFull version) h = absurd (cc)
put_if_plain c i b key wanted p answer h = refl

plain_right : (c : Config) (i : ℕ) (p : Past) (call : Call) (answer : Answer) → is_plain answer ≡ true → Right c i p call answer
plain_right c i p (names.Put key value) answer h = put_plain c i (key % c.buckets) key p answer h
plain_right c i p (names.Remove key) answer h = remove_plain c i (key % c.buckets) key p answer h
plain_right c i p (names.Enqueue value) answer h = enqueue_plain c p answer h
plain_right c i p names.Dequeue answer h = dequeue_plain i p answer h
plain_right c i p (names.Hold key) answer h = hold_plain i (key % c.buckets) p answer h
plain_right c i p names.Release answer h = release_plain i p answer h
plain_right c i p (names.Copy from index) answer h = copy_plain i from index p answer h
plain_right c i p (names.DropIndex index) answer h = drop_plain i index p answer h
plain_right c i p (names.Look index key) answer h = look_plain i index key p answer h
plain_right c i p names.Leave answer h = leave_plain c.indexes i p answer h
plain_right c i p (names.Adopt place) answer h = adopt_plain i place p answer h
plain_right c i p (names.PutIf key value wanted) answer h = put_if_plain c i (key % c.buckets) key wanted p answer h
plain_right c i p call answer h = refl

plain_last : (call : Call) (answer : Answer) → is_plain answer ≡ true → is_last call answer ≡ false
plain_last call (the_answers.Holding slot) h = absurd (cc)
plain_last call the_answers.Released h = absurd (cc)
plain_last call (the_answers.Copied slot) h = absurd (cc)
plain_last call the_answers.Dropped h = absurd (cc)
plain_last call (the_answers.Looked slot version value) h = absurd (cc)
plain_last call the_answers.Nothing h = absurd (cc)
plain_last call (the_answers.Left count) h = absurd (cc)
plain_last call the_answers.NotLeft h = absurd (cc)
plain_last call the_answers.AdoptedBefore h = absurd (cc)
plain_last call answer h = refl

pub kept_sound : (c : Config) (i : ℕ) (p : Past) (call : Call) → Sound (Kept c i p call) (Right c i p call)
kept_sound c i p call = record {
  ends = λ answer h. h.right;
  clock = λ answer clock h. record { lasts = clock_last call answer clock h.lasts; right = clock_right c i p call answer clock h.right };
  plain = λ answer h. record { lasts = plain_last call answer h; right = plain_right c i p call answer h };
}

-- a change: the answer that refuses it
refusal_last : (c : Config) (call : Call) (version : ℕ) (pairs : List Pair) (change : Change) (answer : Answer) → alters.refusal c version pairs change ≡ Some answer → is_last call answer ≡ false
refusal_last c call version pairs (changes.Put key value) answer h = put_by (version == c.last_version) (not (alters.has_key pairs key) && length pairs == c.pairs) h
  where
    put_by : (spent full : Bool) → (if spent then Some (the_answers.Spent version) else if full then Some (the_answers.BucketFull version) else None) ≡ Some answer → is_last call answer ≡ false
    put_by true full e = subst (λ (x : Answer). is_last call x ≡ false) (some_is (the_answers.Spent version) answer e) refl
    put_by false true e = subst (λ (x : Answer). is_last call x ≡ false) (some_is (the_answers.BucketFull version) answer e) refl
    put_by false false e = absurd (cc)
refusal_last c call version pairs (changes.Removed key) answer h = removed_by (not (alters.has_key pairs key)) (version == c.last_version) h
  where
    removed_by : (none spent : Bool) → (if none then Some (the_answers.Absent version) else if spent then Some (the_answers.Spent version) else None) ≡ Some answer → is_last call answer ≡ false
    removed_by true spent e = subst (λ (x : Answer). is_last call x ≡ false) (some_is (the_answers.Absent version) answer e) refl
    removed_by false true e = subst (λ (x : Answer). is_last call x ≡ false) (some_is (the_answers.Spent version) answer e) refl
    removed_by false false e = absurd (cc)

stale_last : (c : Config) (call : Call) (wanted : Option ℕ) (version : ℕ) (pairs : List Pair) (change : Change) (answer : Answer) → alters.stale_or wanted version (alters.refusal c version pairs change) ≡ Some answer → is_last call answer ≡ false
stale_last c call None version pairs change answer h = refusal_last c call version pairs change answer h
stale_last c call (Some wanted) version pairs change answer h = by (version == wanted) h
  where
    by : (same : Bool) → (if same then alters.refusal c version pairs change else Some (the_answers.Stale version)) ≡ Some answer → is_last call answer ≡ false
    by true e = refusal_last c call version pairs change answer e
    by false e = subst (λ (x : Answer). is_last call x ≡ false) (some_is (the_answers.Stale version) answer e) refl

read_decides : (table : Layout) (i : ℕ) (p q : Past) (call : Call) (kept : ChangeKept) (post : Post) → post.layout ≡ table → ChangeServes call kept.change kept.wanted → Later i p q → Bounds table.config q
    → ReadAt table.config i (key_of kept.change % table.config.buckets) kept.version kept.pairs p → ChangeDecides (Kept table.config i q call) kept post
read_decides table i p q call kept post e s l n r = record {
  refused = λ answer h.
      let g : alters.refused table.config kept ≡ Some answer = subst (λ (x : Layout). alters.refused x.config kept ≡ Some answer) e h in
      kept_lasts table.config i p q call answer l n (record {
        lasts = stale_last table.config call kept.wanted kept.version kept.pairs kept.change answer g;
        right = subst (λ (x : Call). Right table.config i p x answer) (sym s.is) (change_refused table.config i kept.version kept.pairs kept.change kept.wanted p answer r s.may g);
      });
  fits = λ h.
      let g : alters.refused table.config kept ≡ None = subst (λ (x : Layout). alters.refused x.config kept ≡ None) e h in
      kept_lasts table.config i p q call (the_answers.Done (kept.version + 1) moves.Still) l n (record {
        lasts = refl;
        right = subst (λ (x : Call). Right table.config i p x (the_answers.Done (kept.version + 1) moves.Still)) (sym s.is) (change_fits table.config i kept.version kept.pairs kept.change kept.wanted p r s.may g);
      });
}

-- an enqueue
spent_right : (number last many : ℕ) → number ≤ many → many ≤ last → (number == last) ≡ true → (number == last && number == many) ≡ true
spent_right number last many a b e = grind (arith, nat_tests)

queued_right : (number last many : ℕ) → number ≤ many → many ≤ last → (number == last) ≡ false → nat_le (number + 1) last ≡ true
queued_right number last many a b e = grind (arith, nat_tests)

number_decides : (table : Layout) (i : ℕ) (p q : Past) (call : Call) (kept : EnqueueKept) (post : Post) → post.layout ≡ table → call ≡ names.Enqueue kept.value → Later i p q → Bounds table.config q
    → NumberAt table.config.last_version kept.number p → EnqueueDecides (Kept table.config i q call) kept post
number_decides table i p q call kept post e s l n r = record {
  spent = λ h.
      let g : (kept.number == table.config.last_version) ≡ true = subst (λ (x : Layout). (kept.number == x.config.last_version) ≡ true) e h in
      kept_lasts table.config i p q call (the_answers.Spent kept.number) l n (record {
        lasts = refl;
        right = subst (λ (x : Call). Right table.config i p x (the_answers.Spent kept.number)) (sym s) (spent_right kept.number table.config.last_version (length (queued_of p)) r.within r.most g);
      });
  fits = λ h.
      let g : (kept.number == table.config.last_version) ≡ false = subst (λ (x : Layout). (kept.number == x.config.last_version) ≡ false) e h in
      kept_lasts table.config i p q call (the_answers.Queued (kept.number + 1)) l n (record {
        lasts = refl;
        right = subst (λ (x : Call). Right table.config i p x (the_answers.Queued (kept.number + 1))) (sym s) (queued_right kept.number table.config.last_version (length (queued_of p)) r.within r.most g);
      });
}

-- a step of seat i, from the position p to q
pub record Stepping (w : World) (i : ℕ) (v : View) (l : Line) (z : Asked) (p q : Past) : Type 0 where
  pub below : i < w.layout.config.seats
  pub shown : Shown w v l z p
  pub later : Later i p q
  pub is : q ≡ tells_of p i (turn (offered w i) (finds w i)).told
  pub bounds : Bounds w.layout.config q
  pub serves : Serves (w.seat i).call (w.seat i).phase
  pub emptied : Emptied (λ k. was_empty k p) w z
  pub empties : w.book.taken ≡ length w.book.queued → was_empty i p ≡ true
  pub says : (why : Why) (base : Base) → (w.seat i).phase ≡ Runs why base → RunSays i why (machine.after base (counted (w.seat i).post) (finds w i)).outcome q
  pub stood : (j : ℕ) → stood_at i j q ≡ stands (turn (offered w i) (finds w i)).post j
  pub shows : Shows w.book p
  pub missed : MissesAt (w.seat i) (times i is_any p)
  pub placed : PlacesSay w.mem p
  pub told : told_of i p ≡ owed w.layout.config.buckets (w.seat i).call (w.seat i).phase

abbrev IsKept : World → ℕ → Past → Answer → Type 0
IsKept w i q answer = Kept w.layout.config i q (w.seat i).call answer

abbrev IsRight : World → ℕ → Past → Answer → Type 0
IsRight w i q answer = Right w.layout.config i q (w.seat i).call answer

-- what the phase knows of the call
why_call : (w : World) (i : ℕ) (why : Why) (base : Base) → Serves (w.seat i).call (w.seat i).phase → (w.seat i).phase ≡ Runs why base → WhyServes (w.seat i).call why
why_call w i why base s e = subst (λ (x : Phase). Serves (w.seat i).call x) e s

work_call : (w : World) (i : ℕ) (work : Work) → Serves (w.seat i).call (w.seat i).phase → (w.seat i).phase ≡ Works work → WorkServes (w.seat i).call work
work_call w i work s e = subst (λ (x : Phase). Serves (w.seat i).call x) e s

-- what the machine's end says
end_says : (w : World) (i : ℕ) (v : View) (l : Line) (z : Asked) (p q : Past) (why : Why) (base : Base) (ending : Ending) → Stepping w i v l z p q → (w.seat i).phase ≡ Runs why base → (machine.after base (counted (w.seat i).post) (finds w i)).outcome ≡ Ends ending → RunSays i why (Ends ending) q
end_says w i v l z p q why base ending g e o = subst (λ (x : Outcome). RunSays i why x q) o (g.says why base e)

machine_table : (w : World) (i : ℕ) (base : Base) → Seats w → (machine.after base (counted (w.seat i).post) (finds w i)).post.layout ≡ w.layout
machine_table w i base s = (after_same base (counted (w.seat i).post) (finds w i)).layout ∙ (s.fits i).post.layout

-- where the machine ends, what comes after it leaves this post
ended_post : (w : World) (i : ℕ) (why : Why) (base : Base) (ending : Ending) → (w.seat i).phase ≡ Runs why base → (machine.after base (counted (w.seat i).post) (finds w i)).outcome ≡ Ends ending
    → (turn (offered w i) (finds w i)).post ≡ (steps.resume why ending (machine.after base (counted (w.seat i).post) (finds w i)).post (offered w i).desk (machine.after base (counted (w.seat i).post) (finds w i)).told).post
ended_post w i why base ending e o =
    let t : Turn = machine.after base (counted (w.seat i).post) (finds w i) in
    ap (λ (x : Phase). (steps.phase_turn x (counted (w.seat i).post) (offered w i).desk (finds w i)).post) e ∙ ap (λ (x : Outcome). (steps.resumed why (offered w i).desk t.post t.told x).post) o

-- the row that a hold has protected stands at index 2
held_stands : (w : World) (i : ℕ) (v : View) (l : Line) (z : Asked) (p q : Past) (key slot era : ℕ) (base : Base) → Stepping w i v l z p q → (w.seat i).phase ≡ Runs (Opens (Holds key)) base
    → (machine.after base (counted (w.seat i).post) (finds w i)).outcome ≡ Ends (Protected (protect_ends.Held slot era)) → stood_at i 2 q ≡ Some slot
held_stands w i v l z p q key slot era base g e o =
    let a = g.shown.known in
    let t : Turn = machine.after base (counted (w.seat i).post) (finds w i) in
    let s : base_stands base (w.seat i).post = subst (λ (x : Phase). phase_stands x (w.seat i).post) e (a.parents.stand i) in
    let m : OutcomeStands (Opens (Holds key)) t.outcome t.post =
    machine_stands w.layout i (Opens (Holds key)) base (counted (w.seat i).post) (finds w i) (counted_fits w.layout i (w.seat i).post (a.seats.fits i).post) (run_counted w.layout (Opens (Holds key)) base (w.seat i).post (run_of w i (Opens (Holds key)) base a.seats e)) (base_counted base (w.seat i).post s) in
    let there : stands t.post 2 ≡ Some slot = subst (λ (x : Outcome). OutcomeStands (Opens (Holds key)) x t.post) o m in
    g.stood 2 ∙ ap (λ (x : Post). stands x 2) (ended_post w i (Opens (Holds key)) base (Protected (protect_ends.Held slot era)) e o) ∙ there

is_own : (slot : ℕ) (x : Option ℕ) → x ≡ Some slot → is_row slot x ≡ true
is_own slot x h = let same : (slot == slot) ≡ true = grind (arith, nat_tests) in rw h same

holding_right : (w : World) (i : ℕ) (v : View) (l : Line) (z : Asked) (p q : Past) (key slot era : ℕ) (base : Base) → Stepping w i v l z p q → (w.seat i).phase ≡ Runs (Opens (Holds key)) base
    → (machine.after base (counted (w.seat i).post) (finds w i)).outcome ≡ Ends (Protected (protect_ends.Held slot era)) → IsRight w i q (the_answers.Holding slot)
holding_right w i v l z p q key slot era base g e o =
    let call : (w.seat i).call ≡ names.Hold key = why_call w i (Opens (Holds key)) base g.serves e in
    let told : has_told i (is_held 2 slot) q ≡ true = end_says w i v l z p q (Opens (Holds key)) base (Protected (protect_ends.Held slot era)) g e o in
    subst (λ (x : Call). Right w.layout.config i q x (the_answers.Holding slot)) (sym call)
    (both (has_told i (is_held 2 slot) q) (is_row slot (stood_at i 2 q)) told (is_own slot (stood_at i 2 q) (held_stands w i v l z p q key slot era base g e o)))

nothing_right : (w : World) (i : ℕ) (v : View) (l : Line) (z : Asked) (p q : Past) (key : ℕ) (base : Base) → Stepping w i v l z p q → (w.seat i).phase ≡ Runs (Opens (Holds key)) base
    → (machine.after base (counted (w.seat i).post) (finds w i)).outcome ≡ Ends (Protected protect_ends.Null) → IsKept w i q the_answers.Nothing
nothing_right w i v l z p q key base g e o =
    let b : ℕ = key % w.layout.config.buckets in
    let call : (w.seat i).call ≡ names.Hold key = why_call w i (Opens (Holds key)) base g.serves e in
    let told : has_told i (is_null 2) q ≡ true = end_says w i v l z p q (Opens (Holds key)) base (Protected protect_ends.Null) g e o in
    let first : begun_at i b p ≤ 0 = null_base w i v l z p (Holds key) base b g.shown e refl o in
    let none : (begun_at i b p == 0) ≡ true = grind (arith, nat_tests) in
    let still : (begun_at i b q == 0) ≡ true = subst (λ (n : ℕ). (n == 0) ≡ true) (sym (g.later.begun b)) none in
    record { lasts = subst (λ (x : Call). is_last x the_answers.Nothing ≡ false) (sym call) refl; right = subst (λ (x : Call). Right w.layout.config i q x the_answers.Nothing) (sym call) (both (has_told i (is_null 2) q) (begun_at i b q == 0) told still) }

fresh_right : (w : World) (i : ℕ) (v : View) (l : Line) (z : Asked) (p q : Past) (kept : ChangeKept) (base : Base) → Stepping w i v l z p q → (w.seat i).phase ≡ Runs (Opens (Changes kept)) base
    → (machine.after base (counted (w.seat i).post) (finds w i)).outcome ≡ Ends (Protected protect_ends.Null) → ChangeDecides (IsKept w i q) (alters.at_link kept 0) (machine.after base (counted (w.seat i).post) (finds w i)).post
fresh_right w i v l z p q kept base g e o =
    read_decides w.layout i p q (w.seat i).call (alters.at_link kept 0) (machine.after base (counted (w.seat i).post) (finds w i)).post (machine_table w i base g.shown.known.seats) (why_call w i (Opens (Changes kept)) base g.serves e) g.later g.bounds
    (null_read w i v l z p kept base g.shown e o)

empty_right : (w : World) (i : ℕ) (v : View) (l : Line) (z : Asked) (p q : Past) (head tail : ℕ) (base : Base) → Stepping w i v l z p q → (w.seat i).phase ≡ Runs (FollowsHead head tail) base
    → (machine.after base (counted (w.seat i).post) (finds w i)).outcome ≡ Ends (Followed follow_ends.NoNext) → IsKept w i q the_answers.Empty
empty_right w i v l z p q head tail base g e o =
    let call : (w.seat i).call ≡ names.Dequeue = why_call w i (FollowsHead head tail) base g.serves e in
    let told : has_told i (is_null 1) q ≡ true = end_says w i v l z p q (FollowsHead head tail) base (Followed follow_ends.NoNext) g e o in
    let seen : was_empty i p ≡ true = no_next_seen w i v l z (λ k. was_empty k p) head tail base g.shown.known g.emptied g.empties e o in
    record { lasts = refl; right = subst (λ (x : Call). Right w.layout.config i q x the_answers.Empty) (sym call) (both (was_empty i q) (has_told i (is_null 1) q) (g.later.empty seen) told) }

-- what is let go stands no more
release_stands : (layout : Layout) (let_go : LetGo) (base : Base) (post : Post) (found : ℕ) → Run layout (Releases let_go) base post → stands (machine.after base post found).post (let_index let_go) ≡ None
release_stands layout let_go (Clear rows index) post found r = subst (λ (j : ℕ). stands (withdrawn post j) (let_index let_go) ≡ None) (sym r.shape) (stands-withdrawn_same post (let_index let_go))
release_stands layout let_go (Release index) post found r = subst (λ (j : ℕ). stands (withdrawn post j) (let_index let_go) ≡ None) (sym r.shape) (stands-withdrawn_same post (let_index let_go))
release_stands layout let_go base post found r = let x = r.suited in absurd (cc)

released_post : (let_go : LetGo) (post : Post) (desk : Desk) (told : List Event) → (keeps.released let_go post desk told).post ≡ post
released_post Released post desk told = refl
released_post (Rehold key) post desk told = refl
released_post (Dropped index) post desk told = refl
released_post (Parting index) post desk told = refl

-- nothing stands there any more
gone_stood : (w : World) (i : ℕ) (v : View) (l : Line) (z : Asked) (p q : Past) (let_go : LetGo) (base : Base) (ending : Ending) → Stepping w i v l z p q → (w.seat i).phase ≡ Runs (Releases let_go) base
    → (machine.after base (counted (w.seat i).post) (finds w i)).outcome ≡ Ends ending → stood_at i (let_index let_go) q ≡ None
gone_stood w i v l z p q let_go base ending g e o =
    let a = g.shown.known in
    let t : Turn = machine.after base (counted (w.seat i).post) (finds w i) in
    let gone = release_stands w.layout let_go base (counted (w.seat i).post) (finds w i) (run_counted w.layout (Releases let_go) base (w.seat i).post (run_of w i (Releases let_go) base a.seats e)) in
    g.stood (let_index let_go) ∙ ap (λ (x : Post). stands x (let_index let_go)) (ended_post w i (Releases let_go) base ending e o ∙ released_post let_go t.post (offered w i).desk t.told) ∙ gone

-- the answer of what is let go
let_go_right : (c : Config) (i : ℕ) (q : Past) (call : Call) (let_go : LetGo) → FreeServes call let_go → stood_at i (let_index let_go) q ≡ None → FreeDecides (Right c i q call) let_go
let_go_right c i q call Released s n = subst (λ (x : Call). Right c i q x the_answers.Released) (sym s) (none_by (stood_at i 2 q) n)
let_go_right c i q call (Rehold key) s n = tt
let_go_right c i q call (Dropped index) s n = subst (λ (x : Call). Right c i q x the_answers.Dropped) (sym s) (none_by (stood_at i index q) n)
let_go_right c i q call (Parting index) s n = tt

-- by what comes after the machine
task_decides : (w : World) (i : ℕ) (v : View) (l : Line) (z : Asked) (p q : Past) (task : Task) (base : Base) (ending : Ending) → Stepping w i v l z p q → (w.seat i).phase ≡ Runs (Opens task) base
    → (machine.after base (counted (w.seat i).post) (finds w i)).outcome ≡ Ends ending → TaskDecides (IsKept w i q) (IsRight w i q) task ending (machine.after base (counted (w.seat i).post) (finds w i)).post
task_decides w i v l z p q (Changes kept) base (Protected protect_ends.Null) g e o = fresh_right w i v l z p q kept base g e o
task_decides w i v l z p q (Holds key) base (Protected protect_ends.Null) g e o = nothing_right w i v l z p q key base g e o
task_decides w i v l z p q (Holds key) base (Protected (protect_ends.Held slot era)) g e o = holding_right w i v l z p q key slot era base g e o
task_decides w i v l z p q task base ending g e o = tt

follow_decides : (w : World) (i : ℕ) (v : View) (l : Line) (z : Asked) (p q : Past) (head tail : ℕ) (base : Base) (ending : Ending) → Stepping w i v l z p q → (w.seat i).phase ≡ Runs (FollowsHead head tail) base
    → (machine.after base (counted (w.seat i).post) (finds w i)).outcome ≡ Ends ending → FollowDecides (IsKept w i q) ending
follow_decides w i v l z p q head tail base (Followed follow_ends.NoNext) g e o = empty_right w i v l z p q head tail base g e o
follow_decides w i v l z p q head tail base ending g e o = tt

free_decides : (w : World) (i : ℕ) (v : View) (l : Line) (z : Asked) (p q : Past) (let_go : LetGo) (base : Base) (ending : Ending) → Stepping w i v l z p q → (w.seat i).phase ≡ Runs (Releases let_go) base
    → (machine.after base (counted (w.seat i).post) (finds w i)).outcome ≡ Ends ending → FreeDecides (IsRight w i q) let_go
free_decides w i v l z p q let_go base ending g e o = let_go_right w.layout.config i q (w.seat i).call let_go (why_call w i (Releases let_go) base g.serves e) (gone_stood w i v l z p q let_go base ending g e o)

why_decides : (w : World) (i : ℕ) (v : View) (l : Line) (z : Asked) (p q : Past) (why : Why) (base : Base) (ending : Ending) → Stepping w i v l z p q → (w.seat i).phase ≡ Runs why base
    → (machine.after base (counted (w.seat i).post) (finds w i)).outcome ≡ Ends ending → WhyDecides (IsKept w i q) (IsRight w i q) why ending (machine.after base (counted (w.seat i).post) (finds w i)).post
why_decides w i v l z p q (Opens task) base ending g e o = task_decides w i v l z p q task base ending g e o
why_decides w i v l z p q (FollowsHead head tail) base ending g e o = follow_decides w i v l z p q head tail base ending g e o
why_decides w i v l z p q (Releases let_go) base ending g e o = free_decides w i v l z p q let_go base ending g e o
why_decides w i v l z p q why base ending g e o = tt

outcome_decides : (w : World) (i : ℕ) (v : View) (l : Line) (z : Asked) (p q : Past) (why : Why) (base : Base) (outcome : Outcome) → Stepping w i v l z p q → (w.seat i).phase ≡ Runs why base
    → (machine.after base (counted (w.seat i).post) (finds w i)).outcome ≡ outcome → OutcomeDecides (IsKept w i q) (IsRight w i q) why outcome (machine.after base (counted (w.seat i).post) (finds w i)).post
outcome_decides w i v l z p q why base (Goes next) g e o = tt
outcome_decides w i v l z p q why base (Ends ending) g e o = why_decides w i v l z p q why base ending g e o

-- a step of a call's own
alter_decides : (w : World) (i : ℕ) (v : View) (l : Line) (z : Asked) (p q : Past) (kept : ChangeKept) (at : ChangeAt) → Stepping w i v l z p q → (w.seat i).phase ≡ Works (Changing kept at) → AlterDecides (IsKept w i q) kept at (counted (w.seat i).post) (finds w i)
alter_decides w i v l z p q kept (LoadCount slot) g e = λ none.
    read_decides w.layout i p q (w.seat i).call kept (counted (w.seat i).post) (g.shown.known.seats.fits i).post.layout (work_call w i (Changing kept (LoadCount slot)) g.serves e) g.later g.bounds (count_read w i v l z p kept slot g.below g.shown e none)
alter_decides w i v l z p q kept (LoadValue slot count key) g e = λ none.
    read_decides w.layout i p q (w.seat i).call (alters.with_read kept key (finds w i)) (counted (w.seat i).post) (g.shown.known.seats.fits i).post.layout (work_call w i (Changing kept (LoadValue slot count key)) g.serves e) g.later g.bounds
    (value_read w i v l z p kept slot count key g.below g.shown e none)
alter_decides w i v l z p q kept at g e = tt

append_decides : (w : World) (i : ℕ) (v : View) (l : Line) (z : Asked) (p q : Past) (kept : EnqueueKept) (at : EnqueueAt) → Stepping w i v l z p q → (w.seat i).phase ≡ Works (Enqueuing kept at) → AppendDecides (IsKept w i q) kept at (counted (w.seat i).post)
append_decides w i v l z p q kept LoadNext g e =
    number_decides w.layout i p q (w.seat i).call kept (counted (w.seat i).post) (g.shown.known.seats.fits i).post.layout (work_call w i (Enqueuing kept LoadNext) g.serves e) g.later g.bounds (number_read w i v l z p kept g.shown e)
append_decides w i v l z p q kept at g e = tt

-- a step on what is kept leaves this post, and tells this
keep_post_left : (w : World) (i : ℕ) (at : KeepAt) → (w.seat i).phase ≡ Works (Keeping at) → (turn (offered w i) (finds w i)).post ≡ keep_post at (counted (w.seat i).post)
keep_post_left w i at e = ap (λ (x : Phase). (steps.phase_turn x (counted (w.seat i).post) (offered w i).desk (finds w i)).post) e ∙ (keep_just at (counted (w.seat i).post) (offered w i).desk (finds w i)).post

answer_is : (x y : Answer) → ◌≡◌ {A = CallOutcome} (Answers x) (Answers y) → x ≡ y
answer_is x y h = cc

keep_call : (w : World) (i : ℕ) (at : KeepAt) → Serves (w.seat i).call (w.seat i).phase → (w.seat i).phase ≡ Works (Keeping at) → KeepServes (w.seat i).call at
keep_call w i at s e = subst (λ (x : Phase). Serves (w.seat i).call x) e s

loosen_by : (R : Answer → Type 0) (let_go : LetGo) (post : Post) (desk : Desk) (told : List Event) → FreeDecides R let_go → (answer : Answer) → (keeps.released let_go post desk told).outcome ≡ Answers answer → R answer
loosen_by R Released post desk told d answer o = subst R (answer_is the_answers.Released answer o) d
loosen_by R (Rehold key) post desk told d answer o = absurd (cc)
loosen_by R (Dropped index) post desk told d answer o = subst R (answer_is the_answers.Dropped answer o) d
loosen_by R (Parting index) post desk told d answer o = absurd (cc)

-- a copy
copied_by : (R : Answer → Type 0) (from index : ℕ) (post : Post) (desk : Desk) (reserved : List Event) (x : Option ℕ) → is_some x ≡ true → ((slot : ℕ) → x ≡ Some slot → R (the_answers.Copied slot)) → (answer : Answer) → (keeps.copied from index post desk reserved x).outcome ≡ Answers answer → R answer
copied_by R from index post desk reserved None s d answer o = absurd (cc)
copied_by R from index post desk reserved (Some slot) s d answer o = subst R (answer_is (the_answers.Copied slot) answer o) (d slot refl)

load_by : (R : Answer → Type 0) (from index : ℕ) (post : Post) (desk : Desk) (found : ℕ) (one : Bool) → is_some (stands post from) ≡ true → (one ≡ true → (slot : ℕ) → stands post from ≡ Some slot → R (the_answers.Copied slot)) → (answer : Answer) → (keeps.load_held from index post desk found one).outcome ≡ Answers answer → R answer
load_by R from index post desk found true s d answer o = copied_by R from index post desk [] (stands post from) s (d refl) answer o
load_by R from index post desk found false s d answer o = absurd (cc)

-- the row stands at both indexes
copied_right : (w : World) (i : ℕ) (v : View) (l : Line) (z : Asked) (p q : Past) (from index slot : ℕ) → Stepping w i v l z p q → (w.seat i).call ≡ names.Copy from index → CopyIn w.layout.config from index → stands (w.seat i).post from ≡ Some slot
    → (turn (offered w i) (finds w i)).post ≡ with_row (counted (w.seat i).post) index slot → IsRight w i q (the_answers.Copied slot)
copied_right w i v l z p q from index slot g s k r e =
    let a = g.shown.known in
    let m = (bounds_of w.layout a.valid).indexes in
    let long = (a.seats.fits i).post.standing in
    let apart : from ≢ index = (let up = k.rises in omega (up, arith)) in
    let few : index < length (w.seat i).post.standing = omega (k.below, m.1, long, arith) in
    let one : stood_at i from q ≡ Some slot = g.stood from ∙ ap (λ (x : Post). stands x from) e ∙ stands-with_row_other (counted (w.seat i).post) index slot from apart ∙ r in
    let two : stood_at i index q ≡ Some slot = g.stood index ∙ ap (λ (x : Post). stands x index) e ∙ stands-with_row_same (counted (w.seat i).post) index slot few in
    subst (λ (x : Call). Right w.layout.config i q x (the_answers.Copied slot)) (sym s)
    (both (is_row slot (stood_at i from q)) (is_row slot (stood_at i index q)) (is_own slot (stood_at i from q) one) (is_own slot (stood_at i index q) two))

-- a look
record Looked (at : GetAt) (answer : Answer) : Type 0 where
  version : ℕ
  value : Option ℕ
  is : answer ≡ the_answers.Looked (read_slot at) version value

looking_by : (index key slot version count : ℕ) (post : Post) (desk : Desk) (more : Bool) (pair : ℕ) (answer : Answer) → (keeps.looking index key slot version count post desk more pair).outcome ≡ Answers answer → answer ≡ the_answers.Looked slot version None
looking_by index key slot version count post desk true pair answer o = absurd (cc)
looking_by index key slot version count post desk false pair answer o = sym (answer_is (the_answers.Looked slot version None) answer o)

looked_key_by : (index key slot version count pair : ℕ) (post : Post) (desk : Desk) (own : Bool) (answer : Answer) → (keeps.looked_key index key slot version count pair post desk own).outcome ≡ Answers answer → answer ≡ the_answers.Looked slot version None
looked_key_by index key slot version count pair post desk true answer o = absurd (cc)
looked_key_by index key slot version count pair post desk false answer o = looking_by index key slot version count post desk (nat_lt (pair + 1) count) (pair + 1) answer o

look_by : (index key : ℕ) (at : GetAt) (post : Post) (desk : Desk) (found : ℕ) (answer : Answer) → (keeps.look_turn index key at post desk found).outcome ≡ Answers answer → Looked at answer
look_by index key (FindVersion slot) post desk found answer o = absurd (cc)
look_by index key (FindCount slot version) post desk found answer o = record { version = version; value = None; is = looking_by index key slot version found post desk (nat_lt 0 found) 0 answer o }
look_by index key (FindKey slot version count pair) post desk found answer o = record { version = version; value = None; is = looked_key_by index key slot version count pair post desk (found == key) answer o }
look_by index key (FindValue slot version pair) post desk found answer o = record { version = version; value = Some found; is = sym (answer_is (the_answers.Looked slot version (Some found)) answer o) }

-- it tells nothing
looking_told : (index key slot version count : ℕ) (post : Post) (desk : Desk) (more : Bool) (pair : ℕ) → (keeps.looking index key slot version count post desk more pair).told ≡ []
looking_told index key slot version count post desk true pair = refl
looking_told index key slot version count post desk false pair = refl

looked_key_told : (index key slot version count pair : ℕ) (post : Post) (desk : Desk) (own : Bool) → (keeps.looked_key index key slot version count pair post desk own).told ≡ []
looked_key_told index key slot version count pair post desk true = refl
looked_key_told index key slot version count pair post desk false = looking_told index key slot version count post desk (nat_lt (pair + 1) count) (pair + 1)

look_told : (index key : ℕ) (at : GetAt) (post : Post) (desk : Desk) (found : ℕ) → (keeps.look_turn index key at post desk found).told ≡ []
look_told index key (FindVersion slot) post desk found = refl
look_told index key (FindCount slot version) post desk found = looking_told index key slot version found post desk (nat_lt 0 found) 0
look_told index key (FindKey slot version count pair) post desk found = looked_key_told index key slot version count pair post desk (found == key)
look_told index key (FindValue slot version pair) post desk found = refl

same_self : (x : Option ℕ) → same_value x x ≡ true
same_self None = refl
same_self (Some n) = same_number n

shows_right : (w : World) (v : View) (l : Line) (z : Asked) (p : Past) (slot version key : ℕ) (value : Option ℕ) → Shown w v l z p → Shows w.book p → LookRight w.book slot version key value → shows_value version key value p (shows_of slot p) ≡ true
shows_right w v l z p slot version key value h s r =
    let n : ℕ = (w.book.row slot).version in
    let is : shows_of slot p ≡ ShowsVersion r.bucket n = s.shows slot r.bucket r.root in
    let same : value ≡ value_at r.bucket n key p = r.right ∙ ap (λ (m : ℕ). value_in (pairs_after (take m (w.book.changes r.bucket))) key) r.shown ∙ sym (ap (λ (cs : List Change). value_in (pairs_after (take n cs)) key) (h.changes r.bucket)) in
    let both_same : (version == n && same_value value (value_at r.bucket n key p)) ≡ true =
    both (version == n) (same_value value (value_at r.bucket n key p)) (subst (λ (m : ℕ). (version == m) ≡ true) r.shown (same_number version)) (subst (λ (x : Option ℕ). same_value value x ≡ true) same (same_self value)) in
    subst (λ (x : RowShows). shows_value version key value p x ≡ true) (sym is) both_same

looked_right : (w : World) (i : ℕ) (v : View) (l : Line) (z : Asked) (p q : Past) (index key : ℕ) (at : GetAt) (answer : Answer) → Stepping w i v l z p q → (w.seat i).phase ≡ Works (Keeping (Looks index key at)) → stands (w.seat i).post index ≡ Some (read_slot at)
    → (turn (offered w i) (finds w i)).outcome ≡ Answers answer → Looked at answer → IsRight w i q answer
looked_right w i v l z p q index key at answer g e r o x =
    let a = g.shown.known in
    let slot : ℕ = read_slot at in
    let call : (w.seat i).call ≡ names.Look index key = keep_call w i (Looks index key at) g.serves e in
    let right : LookRight w.book slot x.version key x.value = contents_looked w i v index key at slot x.version x.value (contents_need w i v l z g.below a) a.contents e (o ∙ ap Answers x.is) in
    let none : (turn (offered w i) (finds w i)).told ≡ [] = ap (λ (y : Phase). (steps.phase_turn y (counted (w.seat i).post) (offered w i).desk (finds w i)).told) e ∙ look_told index key at (counted (w.seat i).post) (offered w i).desk (finds w i) in
    let still : stood_at i index q ≡ Some slot = g.stood index ∙ ap (λ (y : Post). stands y index) (keep_post_left w i (Looks index key at) e) ∙ r in
    let shows : shows_value x.version key x.value q (shows_of slot q) ≡ true = subst (λ (y : Past). shows_value x.version key x.value y (shows_of slot y) ≡ true) (sym (g.is ∙ ap (tells_of p i) none)) (shows_right w v l z p slot x.version key x.value g.shown g.shows right) in
    subst (λ (y : Answer). IsRight w i q y) (sym x.is) (subst (λ (y : Call). Right w.layout.config i q y (the_answers.Looked slot x.version x.value)) (sym call)
    (both (is_row slot (stood_at i index q)) (shows_value x.version key x.value q (shows_of slot q)) (is_own slot (stood_at i index q) still) shows))

-- nothing stands there
miss_right : (c : Config) (i index : ℕ) (q : Past) (call : Call) → MissServes call index → stood_at i index q ≡ None → (is_copying call ≡ true → tells_none i q ≡ true) → Right c i q call the_answers.Nothing
miss_right c i index q (names.Copy from other) s n t =
    let none : stood_at i from q ≡ None = subst (λ (j : ℕ). stood_at i j q ≡ None) (sym s) n in
    both (is_none (stood_at i from q)) (tells_none i q) (none_by (stood_at i from q) none) (t refl)
miss_right c i index q (names.Look own key) s n t =
    let none : stood_at i own q ≡ None = subst (λ (j : ℕ). stood_at i j q ≡ None) (sym s) n in none_by (stood_at i own q) none
miss_right c i index q call s n t = absurd (s)

missed_right : (w : World) (i : ℕ) (v : View) (l : Line) (z : Asked) (p q : Past) (index : ℕ) (answer : Answer) → Stepping w i v l z p q → (w.seat i).phase ≡ Works (Keeping (Misses index)) → stands (w.seat i).post index ≡ None → IsRight w i q the_answers.Nothing
missed_right w i v l z p q index answer g e r =
    let none : (turn (offered w i) (finds w i)).told ≡ [] = ap (λ (y : Phase). (steps.phase_turn y (counted (w.seat i).post) (offered w i).desk (finds w i)).told) e in
    let still : stood_at i index q ≡ None = g.stood index ∙ ap (λ (y : Post). stands y index) (keep_post_left w i (Misses index) e) ∙ r in
    miss_right w.layout.config i index q (w.seat i).call (keep_call w i (Misses index) g.serves e) still
    (λ c. subst (λ (y : Past). tells_none i y ≡ true) (sym (g.is ∙ ap (tells_of p i) none)) (missed_none (w.seat i) i p index c e g.missed))

keep_fits_of : (w : World) (i : ℕ) (at : KeepAt) → Seats w → (w.seat i).phase ≡ Works (Keeping at) → KeepFits (w.seat i).post at
keep_fits_of w i at s e = subst (PhaseFits w.layout (w.seat i).post) e (s.fits i).phase

keep_in_of : (w : World) (i : ℕ) (at : KeepAt) → Slots w → (w.seat i).phase ≡ Works (Keeping at) → KeepIn w.layout.config at
keep_in_of w i at s e = subst (PhaseIn w.layout (w.seat i).desk) e (s.seats i).phase

-- nothing stands at a seat that leaves
left_right : (w : World) (i : ℕ) (v : View) (l : Line) (z : Asked) (p q : Past) (count : ℕ) → Stepping w i v l z p q → (w.seat i).phase ≡ Works (Keeping MarkLeft) → IsRight w i q (the_answers.Left count)
left_right w i v l z p q count g e =
    let call : (w.seat i).call ≡ names.Leave = keep_call w i MarkLeft g.serves e in
    let none : Vacant (vacant (Works (Keeping MarkLeft))) (w.seat i).post = subst (λ (x : Phase). Vacant (vacant x) (w.seat i).post) e (g.shown.known.rests.vacant i) in
    let bare : (j : ℕ) → stood_at i j q ≡ None = λ j. g.stood j ∙ ap (λ (y : Post). stands y j) (keep_post_left w i MarkLeft e) ∙ none j refl in
    subst (λ (x : Call). Right w.layout.config i q x (the_answers.Left count)) (sym call) (bare_all w.layout.config.indexes i q bare)

-- a list that is not taken over was not left, or another call has taken it over: by its place's word, as it is found
untaken_by : (R : Answer → Type 0) (place : ℕ) (post : Post) (desk : Desk) (found : ℕ) → ((found == 1) ≡ false → R (keeps.not_taken found)) → (answer : Answer) → (keeps.taking place post desk (found == 1) found).outcome ≡ Answers answer → R answer
untaken_by R place post desk found d answer o = by (found == 1) d o
  where
    by : (left : Bool) → (left ≡ false → R (keeps.not_taken found)) → (keeps.taking place post desk left found).outcome ≡ Answers answer → R answer
    by true d o = absurd (cc)
    by false d o = subst R (answer_is (keeps.not_taken found) answer o) (d refl)

found_right : (w : World) (i : ℕ) (v : View) (l : Line) (z : Asked) (p q : Past) (place : ℕ) → Stepping w i v l z p q → (w.seat i).phase ≡ Works (Keeping (TakeList place)) → (finds w i == 1) ≡ false → IsRight w i q (keeps.not_taken (finds w i))
found_right w i v l z p q place g e n =
    let call : (w.seat i).call ≡ names.Adopt place = keep_call w i (TakeList place) g.serves e in
    let found : finds w i ≡ w.mem (PlaceOf place) = finds_at w i (Works (Keeping (TakeList place))) e in
    let word : (w.mem (PlaceOf place) == 1) ≡ false = subst (λ (x : ℕ). (x == 1) ≡ false) found n in
    let none : (turn (offered w i) (finds w i)).told ≡ [] = ap (λ (y : Phase). (steps.phase_turn y (counted (w.seat i).post) (offered w i).desk (finds w i)).told) e ∙ untaken_told place (counted (w.seat i).post) (offered w i).desk (finds w i) n in
    let silent : told_of i p ≡ [] = g.told ∙ ap (owed w.layout.config.buckets (w.seat i).call) e in
    subst (λ (x : Call). Right w.layout.config i q x (keeps.not_taken (finds w i))) (sym call)
    (subst (λ (y : Past). adopt_reason i place y (keeps.not_taken (finds w i)) ≡ true) (sym (g.is ∙ ap (tells_of p i) none))
    (subst (λ (x : ℕ). adopt_reason i place p (keeps.not_taken x) ≡ true) (sym found) (untaken_reason i place (w.mem (PlaceOf place)) p word (g.placed.left place) (g.placed.adopted place) silent)))

keep_decides : (w : World) (i : ℕ) (v : View) (l : Line) (z : Asked) (p q : Past) (at : KeepAt) → Stepping w i v l z p q → (w.seat i).phase ≡ Works (Keeping at) → KeepDecides (IsRight w i q) at (counted (w.seat i).post) (offered w i).desk (finds w i)
keep_decides w i v l z p q (Loosens let_go) g e =
    let post : Post = counted (w.seat i).post in
    let gone : stood_at i (let_index let_go) q ≡ None = g.stood (let_index let_go) ∙ ap (λ (y : Post). stands y (let_index let_go)) (keep_post_left w i (Loosens let_go) e) ∙ stands-withdrawn_same post (let_index let_go) in
    loosen_by (IsRight w i q) let_go (withdrawn post (let_index let_go)) (offered w i).desk (cleared (let_index let_go) (stands post (let_index let_go))) (let_go_right w.layout.config i q (w.seat i).call let_go (keep_call w i (Loosens let_go) g.serves e) gone)
keep_decides w i v l z p q (LoadHeld from index) g e =
    let a = g.shown.known in
    let post : Post = counted (w.seat i).post in
    load_by (IsRight w i q) from index post (offered w i).desk (finds w i) (has_one_interval (scheme_of post)) (keep_fits_of w i (LoadHeld from index) a.seats e)
    (λ one slot r. copied_right w i v l z p q from index slot g (keep_call w i (LoadHeld from index) g.serves e) (keep_in_of w i (LoadHeld from index) a.slots e) r
    (keep_post_left w i (LoadHeld from index) e ∙ rw (one, r) refl))
keep_decides w i v l z p q (StoreHeld from index era) g e =
    let a = g.shown.known in
    let post : Post = counted (w.seat i).post in
    let f = keep_fits_of w i (StoreHeld from index era) a.seats e in
    copied_by (IsRight w i q) from index post (offered w i).desk (publishes_index (publishes_rows (scheme_of post)) post index era) (stands post from) f.kept
    (λ slot r. copied_right w i v l z p q from index slot g (keep_call w i (StoreHeld from index era) g.serves e) (keep_in_of w i (StoreHeld from index era) a.slots e) r
    (keep_post_left w i (StoreHeld from index era) e ∙ rw r refl))
keep_decides w i v l z p q (Looks index key at) g e = λ answer o.
    let a = g.shown.known in
    let out : (turn (offered w i) (finds w i)).outcome ≡ Answers answer = ap (λ (x : Phase). (steps.phase_turn x (counted (w.seat i).post) (offered w i).desk (finds w i)).outcome) e ∙ o in
    looked_right w i v l z p q index key at answer g e (keep_fits_of w i (Looks index key at) a.seats e) out (look_by index key at (counted (w.seat i).post) (offered w i).desk (finds w i) answer o)
keep_decides w i v l z p q (Misses index) g e = λ answer o.
    let a = g.shown.known in
    subst (λ (x : Answer). IsRight w i q x) (answer_is the_answers.Nothing answer o) (missed_right w i v l z p q index answer g e (keep_fits_of w i (Misses index) a.seats e))
keep_decides w i v l z p q HideSpan g e = λ answer o. absurd (cc)
keep_decides w i v l z p q MarkLeft g e = λ answer o. subst (λ (x : Answer). IsRight w i q x) (answer_is (the_answers.Left (length (offered w i).desk.list)) answer o) (left_right w i v l z p q (length (offered w i).desk.list) g e)
keep_decides w i v l z p q (TakeList place) g e = untaken_by (IsRight w i q) place (counted (w.seat i).post) (offered w i).desk (finds w i) (found_right w i v l z p q place g e)
keep_decides w i v l z p q (MarkTaken place count) g e = λ answer o.
    let call : (w.seat i).call ≡ names.Adopt place = keep_call w i (MarkTaken place count) g.serves e in
    subst (λ (x : Answer). IsRight w i q x) (answer_is (the_answers.Adopted count) answer o) (subst (λ (x : Call). Right w.layout.config i q x (the_answers.Adopted count)) (sym call) refl)

work_decides : (w : World) (i : ℕ) (v : View) (l : Line) (z : Asked) (p q : Past) (work : Work) → Stepping w i v l z p q → (w.seat i).phase ≡ Works work → WorkDecides (IsKept w i q) (IsRight w i q) work (counted (w.seat i).post) (offered w i).desk (finds w i)
work_decides w i v l z p q (Changing kept at) g e = alter_decides w i v l z p q kept at g e
work_decides w i v l z p q (Enqueuing kept at) g e = append_decides w i v l z p q kept at g e
work_decides w i v l z p q (Keeping at) g e = keep_decides w i v l z p q at g e
work_decides w i v l z p q work g e = tt

phase_decides : (w : World) (i : ℕ) (v : View) (l : Line) (z : Asked) (p q : Past) (phase : Phase) → Stepping w i v l z p q → (w.seat i).phase ≡ phase → PhaseDecides (IsKept w i q) (IsRight w i q) phase (counted (w.seat i).post) (offered w i).desk (finds w i)
phase_decides w i v l z p q Idle g e = tt
phase_decides w i v l z p q (Runs why base) g e = outcome_decides w i v l z p q why base (machine.after base (counted (w.seat i).post) (finds w i)).outcome g e refl
phase_decides w i v l z p q (Scans later at) g e = tt
phase_decides w i v l z p q (Works work) g e = work_decides w i v l z p q work g e

-- so what a step leaves decided has its reason, and so has its answer
pub step_decides : (w : World) (i : ℕ) (v : View) (l : Line) (z : Asked) (p q : Past) → Stepping w i v l z p q → PhaseKeeps (Kept w.layout.config i p (w.seat i).call) (w.seat i).phase
    → OutKeeps (Kept w.layout.config i q (w.seat i).call) (Right w.layout.config i q (w.seat i).call) (turn (offered w i) (finds w i)).outcome
step_decides w i v l z p q g h =
    turn_keeps (IsKept w i q) (IsRight w i q) (kept_sound w.layout.config i q (w.seat i).call) (w.seat i).phase (counted (w.seat i).post) (offered w i).desk (finds w i)
    (keeps_on (Kept w.layout.config i p (w.seat i).call) (IsKept w i q) (w.seat i).phase (λ answer k. kept_lasts w.layout.config i p q (w.seat i).call answer g.later g.bounds k) h)
    (phase_decides w i v l z p q (w.seat i).phase g refl)
