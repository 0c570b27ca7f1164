-- Runs: the calls of each seat and the table that they left; and what is other in a changed one.
use Rattle.std.specs.Prelude.{Bool, List, Option, Some, [], false, map, suc, zero, ℕ, ◌++◌, ◌∷◌, ◌≡◌}
use Rattle.std.specs.List.{range_with_len}
use Rattle.law_all.specs.inv.model.Desks.{Notes}
use Rattle.law_all.specs.inv.model.Locals.{Group}
use Rattle.law_all.specs.inv.model.World.{is_busy}
use Rattle.law_all.specs.inv.model.defs.Pairs.{Pair}
use Rattle.law_all.specs.inv.model.defs.declared.call.Answer.{Answer}
use Rattle.law_all.specs.inv.model.defs.declared.call.Call.{Call}
use Rattle.law_all.specs.inv.model.defs.declared.event.Event.{Event}
use Rattle.law_all.specs.inv.model.defs.declared.lifetime.Lifetime.{Lifetime}
use Rattle.law_all.specs.inv.model.words.declared.config.Config.{Config}
use Rattle.law_all.specs.inv.model.words.declared.config.SchemeKind.TheVariants.{He}
use Rattle.law_all.specs.inv.model.words.declared.layout.Layout.{Layout}
use Rattle.law_all.specs.inv.history.History.{Item, record_of, world_of}
use Rattle.law_all.specs.RunLaw.{AtClose, IsRun, RunLaw}
use Rattle.law_all.specs.Runs.{at_close, logs_of}

pub record Run : Type 0 where
  pub config : Config
  pub logs : List (List Group)
  pub closed : AtClose

-- a table under Hazard Eras with three indexes, one try, and six pairs in a row
abbrev pub setting : (seats slots buckets every last_era last_version : ℕ) → Config
setting seats slots buckets every last_era last_version =
    record {
      scheme = He;
      seats = seats;
      indexes = 3;
      slots = slots;
      buckets = buckets;
      tries = 1;
      every = every;
      last_era = last_era;
      last_version = last_version;
      pairs = 6;
    }

-- the row that a call retired
abbrev pub life : (slot birth retire : ℕ) → Option Lifetime
life slot birth retire = Some (record { slot = slot; birth = birth; retire = retire })

abbrev pub notes : (steps : ℕ) → (given : Option (ℕ × ℕ)) → (unused : Bool) → (retired : Option Lifetime) → (back : List ℕ) → (early : ℕ)
    → Notes
notes steps given unused retired back early =
    record { steps = steps; given = given; unused = unused; retired = retired; back = back; early = early }

-- a call, its answer and its notes
abbrev pub group : Call → Answer → Notes → Group
group call answer notes = record { call = call; answer = answer; notes = notes }

abbrev pub layout_of : Run → Layout
layout_of run = record { config = run.config }

-- a worked run
pub record IsWorked (items : List Item) (run : Run) (scripts : List (List Call)) (lines : List (List Event)) : Type 0 where
  -- a history leaves it, with each seat between two calls
  pub logs : logs_of (layout_of run) items ≡ run.logs
  pub closed : at_close (layout_of run) (record_of (layout_of run) items) ≡ run.closed
  pub idle : map (is_busy (world_of (layout_of run) items)) (range_with_len 0 run.config.seats) ≡ map (λ seat. false) (range_with_len 0 run.config.seats)
  -- the law of runs takes it
  pub lawful : RunLaw run.config run.logs run.closed
  -- it is the run of these scripts in which the seats print these lines
  pub is_run : IsRun run.config scripts lines run.closed

-- Changes of a run. Seats, and the calls of a seat, count from 0.

-- what stands at a place becomes these
abbrev pub at_place : {X : Type 0} → ℕ → (X → List X) → List X → List X
at_place place change [] = []
at_place zero change (x ∷ xs) = change x ++ xs
at_place (suc place) change (x ∷ xs) = x ∷ at_place place change xs

abbrev pub in_log : (seat : ℕ) → (List Group → List Group) → Run → Run
in_log seat change run = record run { logs = at_place seat (λ log. change log ∷ []) run.logs }

-- a call of a seat is another one
abbrev pub in_call : (seat place : ℕ) → (Group → Group) → Run → Run
in_call seat place change run = in_log seat (at_place place (λ group. change group ∷ [])) run

-- it has another answer
abbrev pub answering : (seat place : ℕ) → Answer → Run → Run
answering seat place answer run = in_call seat place (λ group. record group { answer = answer }) run

-- it has other notes
abbrev pub noting : (seat place : ℕ) → (Notes → Notes) → Run → Run
noting seat place change run = in_call seat place (λ group. record group { notes = change group.notes }) run

-- it is not made
abbrev pub without_call : (seat place : ℕ) → Run → Run
without_call seat place run = in_log seat (at_place place (λ group. [])) run

-- another one is made before it
abbrev pub before_call : (seat place : ℕ) → Group → Run → Run
before_call seat place other run = in_log seat (at_place place (λ group. other ∷ group ∷ [])) run

-- the table is left as another one
abbrev pub closing : (AtClose → AtClose) → Run → Run
closing change run = record run { closed = change run.closed }

-- another setting
abbrev pub setting_as : (Config → Config) → Run → Run
setting_as change run = record run { config = change run.config }

-- one call more of a seat
abbrev pub then_call : (seat : ℕ) → Group → Run → Run
then_call seat group run = in_log seat (λ log. log ++ group ∷ []) run

-- one seat more, without a call
abbrev pub with_seat : Run → Run
with_seat run = record run { logs = run.logs ++ [] ∷ [] }

-- a bucket is left at another version, with other pairs
abbrev pub bucket_as : (b version : ℕ) → List Pair → Run → Run
bucket_as b version pairs run =
    closing (λ closed. record closed { buckets = at_place b (λ bucket. record { version = version; pairs = pairs } ∷ []) closed.buckets }) run
