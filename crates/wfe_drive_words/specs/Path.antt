-- Steps that code makes without a machine: how they lead from one state of a seat to another, and what a protection and the reads of
-- a row leave. What only the model has, as what comes after a protection, code need not know: it holds of each.
use Rattle.std.specs.Prelude.{List, [], None, nat_lt, slice_set, true, ℕ, ◌*◌, ◌+◌, ◌<◌, ◌^◌, ◌≡◌}
use Rattle.wfe_core.specs.defs.declared.call.Answer.{Answer}
use Rattle.wfe_core.specs.defs.declared.call.Answer.TheVariants as answers
use Rattle.wfe_core.specs.defs.declared.event.Root.{Root}
use Rattle.wfe_core.specs.defs.declared.event.Root.TheVariants as roots
use Rattle.wfe_core.specs.Calls.{Answering, Answers, CallTurn, Clears, Finishes, GetAt, Gets, Getting, Opens, Runs, Task, Why, Works}
use Rattle.wfe_core.specs.Desks.{Desk}
use Rattle.wfe_core.specs.Get.{finding, got}
use Rattle.wfe_core.specs.Guards.{from_to}
use Rattle.wfe_core.specs.Hazards.{after_check_link}
use Rattle.wfe_core.specs.Locals.{Local, busy_in}
use Rattle.wfe_core.specs.Memory.{bump}
use Rattle.wfe_core.specs.Phases.{Aim, Alone, BeginAt, Endless, Failed, ProtectAt, Tries}
use Rattle.wfe_core.specs.Phases.Base.{Begin, Clear, Finish, Protect}
use Rattle.wfe_core.specs.Phases.HazardAt.{PublishLink}
use Rattle.wfe_core.specs.Phases.ProtectAt.{ByHazard, LoadLink, LoadWithin, PublishEra, PublishRequest}
use Rattle.wfe_core.specs.Protect.{failed_once, held_post, protected, trying}
use Rattle.wfe_core.specs.Ready.{LinkFits}
use Rattle.wfe_core.specs.Rounds.{opening, protect_at, scheme_of}
use Rattle.wfe_core.specs.Steps.{phase_turn, run_turn}
use Rattle.wfe_core.specs.words.Schemes.{publishes_rows}
use Rattle.wfe_core.specs.words.declared.config.SchemeKind.{SchemeKind}
use Rattle.wfe_core.specs.words.declared.config.SchemeKind.TheVariants.{Wfe}
use Rattle.wfe_core.specs.declared.op.Op.{Op}
use Rattle.wfe_core.specs.declared.post.Post.{Post}
use Rattle.wfe_drive_cells.specs.Spots.{located}
use Rattle.wfe_drive_cells.specs.declared.located.Located.{Located}
use Rattle.wfe_drive_cells.specs.Unit.{SeatView, asked, kept_desk, seat_after}
use Rattle.wfe_drive_words.specs.Called.{Here, Makes}
use Rattle.wfe_drive_words.specs.Ran.{Answered, Ran}
use Rattle.wfe_drive_words.specs.Readiness.{MayAsk, MayTake}
use Rattle.wfe_drive_words.specs.declared.found.Found.{Found}
use Rattle.wfe_drive_words.specs.declared.asking.Bounded.{Bounded}
use Rattle.wfe_drive_words.specs.declared.asking.Bounded.TheVariants.{Used, Within}
use Rattle.wfe_drive_words.specs.declared.protect.Guarded.{Guarded}
use Rattle.wfe_drive_words.specs.declared.protect.Tried.{Tried}
use Rattle.wfe_drive_words.specs.declared.protect.Tried.TheVariants.{Held, Moved}
use Rattle.wfe_drive_words.specs.declared.within.Looked.{Looked}
use Rattle.wfe_drive_words.specs.declared.within.Looked.TheVariants as looks

-- the operation that the seat asks for, with the spot of its word
abbrev pub placed : SeatView → Located
placed seat = located seat.post.layout (asked seat)

-- the seat, whose call is under way, asks for this operation
pub record AsksFor (at : Local → Type 0) (seat : SeatView) (op : Located) : Type 0 where
  pub here : Here at seat
  pub busy : busy_in seat.phase ≡ true
  pub is : op ≡ placed seat

-- what a step that found this makes of the seat
abbrev pub stepped : Post → Post
stepped post = record post { steps = post.steps + 1 }

abbrev pub taken : SeatView → ℕ → CallTurn
taken seat found = phase_turn seat.phase (stepped seat.post) seat.desk found

abbrev pub left_by : SeatView → ℕ → SeatView
left_by seat found = seat_after (taken seat found)

-- steps that lead on in a call, and those that end it
abbrev pub Leads : (at_old at_new : Local → Type 0) (stands_old stands_new : List (Op × ℕ) → Type 0) (old new : SeatView) → Type 0
Leads at_old at_new stands_old stands_new old new = Makes (λ ops l m. Ran l ops m) at_old at_new stands_old stands_new old new

abbrev pub Closes : (answer : Answer) (at_old at_new : Local → Type 0) (stands_old stands_new : List (Op × ℕ) → Type 0) (old new : SeatView) → Type 0
Closes answer at_old at_new stands_old stands_new old new = Makes (λ ops l m. Answered l ops answer m) at_old at_new stands_old stands_new old new

-- the seat made its step, which found this
pub record StepsOn (at_old at_new : Local → Type 0) (stands_old stands_new : List (Op × ℕ) → Type 0) (seat : SeatView) (found : ℕ) : Type 0 where
  -- it might, and its call had few steps
  pub ask : MayAsk seat
  pub take : MayTake seat found
  pub few : seat.post.steps < 2 ^ 62
  -- whether it goes on or answers
  pub leads : Leads at_old at_new stands_old stands_new seat (left_by seat found)
  pub closes : (answer : Answer) → (taken seat found).outcome ≡ Answers answer → Closes answer at_old at_new stands_old stands_new seat (left_by seat found)

-- the step of this operation, from each state that asks for it
abbrev pub StepFrom : (at_old at_new : Local → Type 0) (stands_old stands_new : List (Op × ℕ) → Type 0) (op : Located) (found : ℕ) → Type 0
StepFrom at_old at_new stands_old stands_new op found = (seat : SeatView) → AsksFor at_old seat op → StepsOn at_old at_new stands_old stands_new seat found

-- a protection: what comes after it, the seat's desk, the steps that it has made, the tries that have failed, and the call's steps
pub record Trial : Type 0 where
  pub aim : Aim
  pub why : Why
  pub desk : Desk
  pub made : ℕ
  pub tries : Tries
  pub steps : ℕ

abbrev pub protecting : Trial → ℕ → Root → ProtectAt → Post → SeatView
protecting t index root at post = record { phase = Runs t.why (Protect t.aim index root t.made at); post = record post { steps = t.steps }; desk = kept_desk t.desk }

-- where it publishes an era
abbrev pub publishing : Trial → ℕ → Root → ℕ → Post → SeatView
publishing t index root era post = protecting t index root (PublishEra era t.tries) post

-- and then tries
pub record Publishes (at : Local → Type 0) (t : Trial) (index : ℕ) (root : Root) (era : ℕ) (post : Post) : Type 0 where
  pub here : Here at (publishing t index root era post)
  pub tries : trying post.layout.config era t.tries ≡ LoadLink era t.tries

-- one try more has failed
abbrev pub failed : Trial → Trial
failed t = record t { made = bump (bump (bump t.made)); tries = failed_once t.tries; steps = t.steps + 3 }

-- the link was found at an era that was still the clock, in this step of the protection
abbrev pub held_at : Trial → ℕ → Root → ℕ → ℕ → ℕ → ℕ → Post → SeatView
held_at t index root n link era steps post = seat_after (run_turn t.why (kept_desk t.desk) (protected t.aim index root n link era (record post { steps = steps })))

-- what a try leaves
abbrev pub tried_at : Trial → ℕ → Root → ℕ → Post → Tried → SeatView
tried_at t index root era post (Held link) = held_at t index root (bump (bump (bump t.made))) link era (t.steps + 3) post
tried_at t index root era post (Moved seen) = publishing (failed t) index root seen post

abbrev pub TriedFits : Post → Tried → Type 0
TriedFits post (Held link) = LinkFits post link
TriedFits post (Moved seen) = Unit {0}

-- tries without end, and what they leave after so many steps
abbrev pub endless : Trial → Trial
endless t = record t { tries = Endless }

abbrev pub endless_after : Trial → (made steps : ℕ) → Trial
endless_after t made steps = record t { made = made; tries = Endless; steps = t.steps + steps }

abbrev pub guarded_at : Trial → ℕ → Root → Post → ℕ → Guarded → SeatView
guarded_at t index root post n guarded = held_at t index root n guarded.link guarded.era (t.steps + guarded.steps) post

-- a protection by a hazard pointer, where it publishes a link
abbrev pub hazarding : Trial → ℕ → Root → ℕ → Post → SeatView
hazarding t index root link post = protecting t index root (ByHazard (PublishLink link)) post

-- this link is published, and this one found after it
abbrev pub checked_at : Trial → ℕ → Root → (link found : ℕ) → Post → SeatView
checked_at t index root link found post = seat_after (run_turn t.why (kept_desk t.desk) (after_check_link t.aim index root (bump (bump t.made)) link (record post { steps = t.steps + 2 }) found))

-- checks that have made so many steps
abbrev pub checked_after : Trial → (made steps : ℕ) → Trial
checked_after t made steps = record t { made = made; steps = t.steps + steps }

-- a get that reads a row: its post, of which code has the layout alone, and its desk
pub record Reader : Type 0 where
  pub post : Post
  pub desk : Desk

-- the post after so many steps of its reads
abbrev pub read_post : Reader → ℕ → Post
read_post r steps = record r.post { steps = r.post.steps + steps }

abbrev pub reading : ℕ → Reader → ℕ → GetAt → SeatView
reading key r steps at = record { phase = Works (Getting key at); post = read_post r steps; desk = kept_desk r.desk }

-- it comes to a pair, if there is one of this number
abbrev pub next_pair : ℕ → Reader → (steps : ℕ) → (slot version count pair : ℕ) → SeatView
next_pair key r steps slot version count pair = seat_after (finding key slot version count (read_post r steps) (kept_desk r.desk) (nat_lt pair count) pair)

-- the value was found, and the round ends
abbrev pub found_at : ℕ → Reader → Found → SeatView
found_at key r found = seat_after (got key found.version found.value (read_post r found.steps) (kept_desk r.desk) [])

-- a get that protects the root of a bucket, after so many steps of the protection and of the call
abbrev pub asking_trial : ℕ → Desk → (made steps : ℕ) → Trial
asking_trial key desk made steps = record { aim = Alone; why = Opens (Gets key); desk = desk; made = made; tries = Endless; steps = steps }

abbrev pub get_trial : ℕ → Desk → ℕ → Trial
get_trial key desk steps = asking_trial key desk 0 steps

-- it has protected it, so many steps later
abbrev pub held_reader : Post → (bucket link : ℕ) → Desk → (steps : ℕ) → Reader
held_reader post bucket link desk steps = record { post = record (held_post post 0 (roots.Bucket bucket) link) { steps = steps }; desk = desk }

-- the index is to be cleared, and then comes the answer
abbrev pub closing_at : ℕ → Reader → Found → SeatView
closing_at key r found = record { phase = Runs (Clears (Gets key) (Answering (answers.Got found.version found.value))) (Clear (publishes_rows (scheme_of r.post)) 0); post = read_post r found.steps; desk = kept_desk r.desk }

-- tries until so many have failed, of a protection that made a step before them
abbrev pub asked_after : Trial → (failed : ℕ) → Trial
asked_after t failed = record t { made = 1 + 3 * failed; tries = Failed failed; steps = t.steps + 3 * failed }

-- what they leave: the link, or a protection that is to ask for help, after so many steps
abbrev pub bounded_at : Trial → ℕ → Root → Post → ℕ → Bounded → SeatView
bounded_at t index root post n (Within guarded) = guarded_at t index root post n guarded
bounded_at t index root post n (Used steps) = protecting (record t { made = 1 + steps; steps = t.steps + steps }) index root PublishRequest post

-- with few steps
abbrev pub BoundedFits : Post → (most : ℕ) → Bounded → Type 0
BoundedFits post most (Within guarded) = (LinkFits post guarded.link) × (guarded.steps < most)
BoundedFits post most (Used steps) = steps < most

-- the same with the load of the clock before them
abbrev pub asks_from : Trial → Trial
asks_from t = record t { made = 0 }

abbrev pub asked_at : Trial → ℕ → Root → Post → ℕ → Bounded → SeatView
asked_at t index root post n (Within guarded) = guarded_at t index root post n guarded
asked_at t index root post n (Used steps) = protecting (record t { made = steps; steps = t.steps + steps }) index root PublishRequest post

-- a protection before its first step, which is the scheme's
abbrev pub protects_from : Trial → ℕ → Root → Post → SeatView
protects_from t index root post = protecting (asks_from t) index root (protect_at (scheme_of post)) post

-- only Wait-Free Eras use tries up
abbrev pub UsedUnder : SchemeKind → Bounded → Type 0
UsedUnder kind (Within guarded) = Unit {0}
UsedUnder kind (Used steps) = kind ≡ Wfe

-- the post of a seat whose interval is this one
abbrev pub spanned : Post → (lo hi : ℕ) → Post
spanned post lo hi = record post { span = from_to lo hi }

-- under 2GE, what a look at the link leaves: it stands within the interval, or the upper end was raised
abbrev pub looked_at : Trial → ℕ → Root → (lo hi : ℕ) → Post → Looked → SeatView
looked_at t index root lo hi post (looks.Stands link) = held_at t index root (bump (bump t.made)) link hi (t.steps + 2) (spanned post lo hi)
looked_at t index root lo hi post (looks.Raised era) = protecting (record t { made = bump (bump (bump t.made)); steps = t.steps + 3 }) index root LoadWithin (spanned post lo era)

abbrev pub LookedFits : Post → (lo : ℕ) → Looked → Type 0
LookedFits post lo (looks.Stands link) = LinkFits post link
LookedFits post lo (looks.Raised era) = Unit {0}

-- what looks leave after so many steps
abbrev pub within_at : Trial → ℕ → Root → (lo : ℕ) → Post → ℕ → Guarded → SeatView
within_at t index root lo post n guarded = held_at t index root n guarded.link guarded.era (t.steps + guarded.steps) (spanned post lo guarded.era)

-- an interval begins, and then a protection
abbrev pub beginning_at : Task → Desk → Post → (steps : ℕ) → BeginAt → SeatView
beginning_at task desk post steps at = record { phase = Runs (Opens task) (Begin at); post = record post { steps = steps }; desk = kept_desk desk }

abbrev pub begun_at : Task → Desk → Post → (steps era : ℕ) → SeatView
begun_at task desk post steps era = record { phase = opening task (record (spanned post era era) { steps = steps }); post = record (spanned post era era) { steps = steps }; desk = kept_desk desk }

-- the interval is to end, nothing stands at index 0, and then comes the answer
abbrev pub ending_at : ℕ → Post → Desk → (steps : ℕ) → Found → SeatView
ending_at key post desk steps found = record {
  phase = Runs (Finishes (Gets key) (Answering (answers.Got found.version found.value))) Finish;
  post = record post { standing = slice_set post.standing 0 None; steps = steps + found.steps };
  desk = kept_desk desk;
}
