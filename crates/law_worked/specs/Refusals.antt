-- Worked records: that a history tells them, that each law takes them, and where it refuses what a change makes of them.
use Rattle.std.specs.Prelude.{ℕ, ◌≡◌, ◌&&◌, Bool, true, List, [], ◌∷◌}
use Rattle.wfe_core.specs.words.declared.config.Config.{Config}
use Rattle.wfe_core.specs.words.declared.layout.Layout.{Layout}
use Rattle.wfe_core.specs.defs.Entry.{Entry}
use Rattle.model_history.specs.Record.{Test, EachEntry, tells}
use Rattle.model_history.specs.Record.Past.{Start}
use Rattle.model_history.specs.History.{Item, record_of}
use Rattle.model_history.specs.Among.{entries}
use Rattle.law_worked.specs.Altered.{altered, slowed}
use Rattle.law_worked.specs.Changed.{doubled, dropped, reads, refused, swapped}
use Rattle.law_worked.specs.Judges.{Law, test_of}
use Rattle.law_worked.specs.Judges.Law.{Calls, Clears, Indexes, Copies, Reuse, Free, Placing, Order, Nexts, Retiring, Backs, Lists, Blocks, Reads, Due, Room, Eras, Moves, Advances, Births, Retires, Current, Single, Rising, Guards, Kinds, Throughout, Sources, Finds, Gots, Links, Behind, Bare, Rests, Map, Values, Emptied, Steps, Withdrawals, Tries, Raises, Hazards, Asks, CallSteps, Told, Reasons, Full, Lacks, Counted, Refusals, Clock, Repeats, Alone, Named, Ranges}

-- all laws on records
abbrev pub laws : List Law
laws = Calls ∷ Clears ∷ Indexes ∷ Copies ∷ Reuse ∷ Free ∷ Placing ∷ Order ∷ Nexts ∷ Retiring ∷ Backs ∷ Lists ∷ Blocks ∷ Reads ∷ Due ∷ Room ∷ Eras ∷ Moves ∷ Advances ∷ Births ∷ Retires ∷ Current ∷ Single ∷ Rising ∷ Guards ∷ Kinds ∷ Throughout ∷ Sources ∷ Finds ∷ Gots ∷ Links ∷ Behind ∷ Bare ∷ Rests ∷ Map ∷ Values ∷ Emptied ∷ Steps ∷ Withdrawals ∷ Tries ∷ Raises ∷ Hazards ∷ Asks ∷ CallSteps ∷ Told ∷ Reasons ∷ Full ∷ Lacks ∷ Counted ∷ Refusals ∷ Clock ∷ Repeats ∷ Alone ∷ Named ∷ Ranges ∷ []

-- of a law the places of a record, counted from 0, at which it refuses the record once the line there is changed
pub record Row : Type 0 where
  pub law : Law
  pub dropped : List ℕ
  pub doubled : List ℕ
  pub swapped : List ℕ
  pub altered : List ℕ
  pub slowed : List ℕ

abbrev pub row : Law → (dropped doubled swapped altered slowed : List ℕ) → Row
row law d t s a n = record { law = law; dropped = d; doubled = t; swapped = s; altered = a; slowed = n }

abbrev pub row_of : Config → List Entry → Law → Row
row_of c lines law = row law (refused (test_of c law) dropped lines) (refused (test_of c law) doubled lines) (refused (test_of c law) swapped lines) (refused (test_of c law) altered lines) (refused (test_of c law) slowed lines)

abbrev pub rows_of : Config → List Entry → List Law → List Row
rows_of c lines [] = []
rows_of c lines (law ∷ others) = row_of c lines law ∷ rows_of c lines others

abbrev pub all_read : Config → List Entry → List Law → Bool
all_read c lines [] = true
all_read c lines (law ∷ others) = reads (test_of c law) lines && all_read c lines others

pub record IsWorked (layout : Layout) (items : List Item) (lines : List Entry) (table : List Row) : Type 0 where
  -- a history tells just these lines
  pub tells : entries (record_of layout items) [] ≡ lines
  -- each law takes the record
  pub lawful : all_read layout.config lines laws ≡ true
  -- each law refuses what a change makes of it at just these places
  pub refuses : rows_of layout.config lines laws ≡ table

-- a plain reader takes a record exactly where the law holds of it
pub record ReadersJudge : Type 0 where
  pub kept : (ok : Test) (lines : List Entry) → reads ok lines ≡ true → EachEntry ok (tells Start lines)
  pub takes : (ok : Test) (lines : List Entry) → EachEntry ok (tells Start lines) → reads ok lines ≡ true
