-- A seat's local state, and what a step and the start of a call make of it.
use Rattle.std.specs.Prelude.{ℕ, ◌==◌, ◌+◌, ◌&&◌, ◌||◌, Option, None, Some, nat_le, nat_lt, Bool, true, false, if◌then◌else◌, List, [], ◌∷◌, ◌++◌}
use Rattle.wfe_words.specs.Schemes.{publishes_rows}
use Rattle.wfe_words.specs.declared.config.Config.{Config}
use Rattle.wfe_words.specs.declared.layout.Layout.{Layout}
use Rattle.wfe_defs.specs.declared.call.Answer.{Answer}
use Rattle.wfe_defs.specs.declared.call.Call.{Call}
use Rattle.wfe_defs.specs.declared.call.Call.TheVariants as names
use Rattle.wfe_defs.specs.declared.event.Event.{Event}
use Rattle.wfe_defs.specs.declared.event.Event.TheVariants as events
use Rattle.wfe_defs.specs.declared.event.Guard.{Guard}
use Rattle.wfe_defs.specs.declared.event.Guard.TheVariants.{Index}
use Rattle.wfe_core.specs.declared.op.Op.{Op}
use Rattle.wfe_core.specs.declared.post.Post.{Post}
use Rattle.wfe_core.specs.Desks.{Desk, Notes, new_desk, no_notes, noting}
use Rattle.wfe_core.specs.Memory.{Move}
use Rattle.wfe_core.specs.Posts.{new_post, counted}
use Rattle.wfe_core.specs.Calls.{Phase, Idle, Runs, Scans, Works, CallTurn, CallOutcome, GoesOn, Answers}
use Rattle.wfe_core.specs.Rounds.{scheme_of}
use Rattle.wfe_core.specs.Steps.{call_op, phase_move, phase_turn, first_phase}

-- a call that has ended
pub record Group : Type 0 where
  pub call : Call
  pub answer : Answer
  pub notes : Notes

-- a seat: where it stands, what it knows and keeps, its present or last call, how often that call has found its root,
-- and the calls that have ended
pub record Local : Type 0 where
  pub phase : Phase
  pub post : Post
  pub desk : Desk
  pub call : Call
  pub rounds : ℕ
  pub log : List Group

-- a call is under way
abbrev pub busy_in : Phase → Bool
busy_in Idle = false
busy_in (Runs why base) = true
busy_in (Scans later at) = true
busy_in (Works work) = true

-- a seat that has made no call
abbrev pub fresh : Layout → ℕ → Local
fresh layout seat = record { phase = Idle; post = new_post seat layout; desk = new_desk; call = names.Scan; rounds = 0; log = [] }

-- the operation that the seat asks for
abbrev pub move : Local → Move
move l = phase_move l.phase l.post

-- the same on the word of the place's number
abbrev pub asks : Local → Op
asks l = call_op l.phase l.post

-- one step of the seat that found this
abbrev pub turn : Local → ℕ → CallTurn
turn l found = phase_turn l.phase (counted l.post) l.desk found

-- a step that ends a call tells End last
abbrev pub told_end : Post → CallOutcome → List Event
told_end post (GoesOn phase) = []
told_end post (Answers answer) = events.End post.steps answer ∷ []

-- what a step tells
abbrev pub told_by : CallTurn → List Event
told_by t = t.told ++ told_end t.post t.outcome

abbrev pub told : Local → ℕ → List Event
told l found = told_by (turn l found)

-- the indexes at which a round finds its root; where rows are published a hold finds it too
abbrev pub counts_at : (rows : Bool) → ℕ → Bool
counts_at false index = index == 0
counts_at true index = index == 0 || index == 2

-- it has found its root once that is held or null; where rows are published once its row is published, so that each attempt of a
-- protection counts, or null
abbrev pub held_told : (rows : Bool) → (rounds index : ℕ) → ℕ
held_told false rounds index = if index == 0 then rounds + 1 else rounds
held_told true rounds index = rounds

abbrev pub row_told : (rows : Bool) → ℕ → Guard → Option ℕ → ℕ
row_told rows rounds guard None = rounds
row_told true rounds (Index seat index) (Some slot) = if counts_at true index then rounds + 1 else rounds
row_told rows rounds guard (Some slot) = rounds

abbrev pub found_by : (rows : Bool) → ℕ → Event → ℕ
found_by rows rounds (events.Held index slot steps) = held_told rows rounds index
found_by rows rounds (events.Null index steps) = if counts_at rows index then rounds + 1 else rounds
found_by rows rounds (events.Hazard guard slot) = row_told rows rounds guard slot
found_by rows rounds event = rounds

abbrev pub rounds_told : (rows : Bool) → ℕ → List Event → ℕ
rounds_told rows rounds [] = rounds
rounds_told rows rounds (event ∷ told) = rounds_told rows (found_by rows rounds event) told

-- the seat stands at the next phase, or its call has ended
abbrev pub settled_by : Local → Post → Desk → ℕ → CallOutcome → Local
settled_by l post desk rounds (GoesOn phase) =
    record { phase = phase; post = post; desk = desk; call = l.call; rounds = rounds; log = l.log }
settled_by l post desk rounds (Answers answer) =
    record {
      phase = Idle;
      post = post;
      desk = desk;
      call = l.call;
      rounds = rounds;
      log = l.log ++ record { call = l.call; answer = answer; notes = desk.notes } ∷ [];
    }

abbrev pub settled : Local → CallTurn → Local
settled l t = settled_by l t.post (noting t.desk (told_by t)) (rounds_told (publishes_rows (scheme_of t.post)) l.rounds (told_by t)) t.outcome

-- the seat after a step that found this
abbrev pub after : Local → ℕ → Local
after l found = settled l (turn l found)

-- the indexes that a call names are some at which a row may stand between calls, and a copy goes upwards; a place is a
-- seat's
abbrev pub may_begin : Config → Call → Bool
may_begin config (names.Copy from index) = nat_le 2 from && (nat_lt from index && nat_lt index config.indexes)
may_begin config (names.DropIndex index) = nat_le 2 index && nat_lt index config.indexes
may_begin config (names.Look index key) = nat_le 2 index && nat_lt index config.indexes
may_begin config (names.Adopt place) = nat_lt place config.seats
may_begin config call = true

-- the seat neither leaves by the call nor takes over what another has left
abbrev pub stays : Call → Bool
stays names.Leave = false
stays (names.Adopt place) = false
stays call = true

-- steps are counted from a call's start
abbrev pub begun_post : Post → Post
begun_post post = record post { steps = 0 }

-- the seat whose call begins
abbrev pub begun : Local → Call → Local
begun l call =
    record {
      phase = first_phase call (begun_post l.post);
      post = begun_post l.post;
      desk = record l.desk { notes = no_notes };
      call = call;
      rounds = 0;
      log = l.log;
    }
