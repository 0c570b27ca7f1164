-- What the logs of seats say of the record of their history: the answers of calls, what they met, and how many steps they took.
use Rattle.std.specs.Prelude.{List, None, Option, Some, [], false, if◌then◌else◌, length, true, ℕ, ◌++◌, ◌-◌, ◌==◌, ◌∷◌, ◌≡◌}
use Rattle.law_all.specs.inv.model.Desks.{Notes}
use Rattle.law_all.specs.inv.model.Locals.{Group}
use Rattle.law_all.specs.inv.model.World.{is_busy}
use Rattle.law_all.specs.inv.model.defs.declared.call.Answer.TheVariants as answers
use Rattle.law_all.specs.inv.model.defs.declared.call.Call.TheVariants as calls
use Rattle.law_all.specs.inv.model.defs.declared.call.ClockMove.{ClockMove}
use Rattle.law_all.specs.inv.model.words.Place.{is_valid}
use Rattle.law_all.specs.inv.model.words.declared.layout.Layout.{Layout}
use Rattle.law_all.specs.laws.StructuresAt.{bucket_of, value_at}
use Rattle.law_all.specs.laws.StepLaw.{steps_right}
use Rattle.law_all.specs.inv.history.History.{Item, record_of, world_of}
use Rattle.law_all.specs.Logs.Answered.{Says}
use Rattle.law_all.specs.Logs.Records.{Extends, IsAnswered}
use Rattle.law_all.specs.Logs.Versions.{AtMost, counts_of, met_in, seen_in}

-- each call in the log of a seat is answered by its record
abbrev pub LogsAnswer : Type 0
LogsAnswer =
    (layout : Layout) (items : List Item) (k : ℕ) (before later : List Group) (group : Group)
    → is_valid layout ≡ true
    → ((world_of layout items).seat k).log ≡ before ++ group ∷ later
    → IsAnswered layout.config k (record_of layout items) before group

-- each call in the log of a seat has taken the steps that the law allows it with its answer, where so many rows went back in it as its
-- notes tell
abbrev pub LogsTakeFewSteps : Type 0
LogsTakeFewSteps =
    (layout : Layout) (items : List Item) (k : ℕ) (before later : List Group) (group : Group)
    → is_valid layout ≡ true
    → ((world_of layout items).seat k).log ≡ before ++ group ∷ later
    → steps_right layout.config group.call (length group.notes.back) group.answer group.notes.steps ≡ true

-- a scan answers how many rows went back in it: as many as its notes tell
abbrev pub ScansTellBacks : Type 0
ScansTellBacks =
    (layout : Layout) (items : List Item) (k : ℕ) (before later : List Group) (kept back : ℕ) (notes : Notes)
    → is_valid layout ≡ true
    → ((world_of layout items).seat k).log ≡ before ++ record { call = calls.Scan; answer = answers.Scanned kept back; notes = notes } ∷ later
    → length notes.back ≡ back

-- the first call that a seat ends after a World in which it is in none, by the counts in that World's record
abbrev pub CallsAnswer : Type 0
CallsAnswer =
    (layout : Layout) (items more : List Item) (k : ℕ) (later : List Group) (group : Group)
    → is_valid layout ≡ true
    → is_busy (world_of layout items) k ≡ false
    → ((world_of layout (items ++ more)).seat k).log ≡ ((world_of layout items).seat k).log ++ group ∷ later
    → Says layout.config (counts_of (record_of layout items)) (record_of layout (items ++ more)) group.call group.answer

-- a hold that finds nothing: its seat had seen no version of that bucket
abbrev pub HoldsSeeNothing : Type 0
HoldsSeeNothing =
    (layout : Layout) (items : List Item) (k : ℕ) (before later : List Group) (key : ℕ) (notes : Notes)
    → is_valid layout ≡ true
    → ((world_of layout items).seat k).log ≡ before ++ record { call = calls.Hold key; answer = answers.Nothing; notes = notes } ∷ later
    → seen_in layout.config.buckets (bucket_of layout.config.buckets key) before ≡ 0

-- the group stands in the log
pub record IsIn (log : List Group) (group : Group) : Type 0 where
  pub before : List Group
  pub later : List Group
  pub cut : log ≡ before ++ group ∷ later

-- A get at the version of a change that is done, of the same seat or of another, tells what the change left: its own key's value, or
-- none where it was removed, and for another key what the version before had.
pub record ChangesAreRead : Type 0 where
  pub puts :
      (layout : Layout) (items : List Item) (k m : ℕ) (key value other version : ℕ) (clock : ClockMove) (found : Option ℕ) (put get : Notes)
      → is_valid layout ≡ true
      → bucket_of layout.config.buckets other ≡ bucket_of layout.config.buckets key
      → IsIn ((world_of layout items).seat k).log (record { call = calls.Put key value; answer = answers.Done version clock; notes = put })
      → IsIn ((world_of layout items).seat m).log (record { call = calls.Get other; answer = answers.Got version found; notes = get })
      → found ≡ (if key == other then Some value else value_at (bucket_of layout.config.buckets key) (version - 1) other (record_of layout items))
  pub puts_at :
      (layout : Layout) (items : List Item) (k m : ℕ) (key value wanted other version : ℕ) (clock : ClockMove) (found : Option ℕ) (put get : Notes)
      → is_valid layout ≡ true
      → bucket_of layout.config.buckets other ≡ bucket_of layout.config.buckets key
      → IsIn ((world_of layout items).seat k).log (record { call = calls.PutIf key value wanted; answer = answers.Done version clock; notes = put })
      → IsIn ((world_of layout items).seat m).log (record { call = calls.Get other; answer = answers.Got version found; notes = get })
      → found ≡ (if key == other then Some value else value_at (bucket_of layout.config.buckets key) (version - 1) other (record_of layout items))
  pub removes :
      (layout : Layout) (items : List Item) (k m : ℕ) (key other version : ℕ) (clock : ClockMove) (found : Option ℕ) (removal get : Notes)
      → is_valid layout ≡ true
      → bucket_of layout.config.buckets other ≡ bucket_of layout.config.buckets key
      → IsIn ((world_of layout items).seat k).log (record { call = calls.Remove key; answer = answers.Done version clock; notes = removal })
      → IsIn ((world_of layout items).seat m).log (record { call = calls.Get other; answer = answers.Got version found; notes = get })
      → found ≡ (if key == other then None else value_at (bucket_of layout.config.buckets key) (version - 1) other (record_of layout items))

-- two gets of a key at one version, of one seat or of two, tell the same
abbrev pub GetsAgree : Type 0
GetsAgree =
    (layout : Layout) (items : List Item) (k m : ℕ) (key version : ℕ) (found again : Option ℕ) (one two : Notes)
    → is_valid layout ≡ true
    → IsIn ((world_of layout items).seat k).log (record { call = calls.Get key; answer = answers.Got version found; notes = one })
    → IsIn ((world_of layout items).seat m).log (record { call = calls.Get key; answer = answers.Got version again; notes = two })
    → found ≡ again

-- the log of a seat begins with what it was after the first items
abbrev pub LogsGrow : Type 0
LogsGrow =
    (layout : Layout) (items more : List Item) (k : ℕ)
    → is_valid layout ≡ true
    → Extends ((world_of layout items).seat k).log ((world_of layout (items ++ more)).seat k).log

-- what a seat has met is no more than the record counts
abbrev pub LogsMeet : Type 0
LogsMeet =
    (layout : Layout) (items : List Item) (k : ℕ)
    → is_valid layout ≡ true
    → AtMost (met_in layout.config.buckets ((world_of layout items).seat k).log) (counts_of (record_of layout items))

-- and it never falls
abbrev pub LogsRise : Type 0
LogsRise =
    (layout : Layout) (items more : List Item) (k : ℕ)
    → is_valid layout ≡ true
    → AtMost (met_in layout.config.buckets ((world_of layout items).seat k).log) (met_in layout.config.buckets ((world_of layout (items ++ more)).seat k).log)
