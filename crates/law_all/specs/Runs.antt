-- What the logs of seats are that are all between calls, by the history that comes there: the law of runs, and its parts.
use Rattle.std.specs.Prelude.{List, None, Some, drop, false, filter, length, map, true, ℕ, ◌+◌, ◌<◌, ◌==◌, ◌≡◌, ◌≤◌}
use Rattle.std.specs.List.{range_with_len}
use Rattle.law_all.specs.inv.model.Locals.{Group}
use Rattle.law_all.specs.inv.model.World.{is_busy}
use Rattle.law_all.specs.inv.model.defs.declared.call.Answer.TheVariants as answers
use Rattle.law_all.specs.inv.model.words.Place.{is_valid, row_count}
use Rattle.law_all.specs.inv.model.words.declared.config.Config.{Config}
use Rattle.law_all.specs.inv.model.words.declared.layout.Layout.{Layout}
use Rattle.law_all.specs.laws.StateAt.{clock_of, one, taken_at}
use Rattle.law_all.specs.laws.StructuresAt.{changes_of, count_of, filling_at, numbered_from, queued_of, taken_of}
use Rattle.law_all.specs.inv.history.History.{Item, record_of, world_of}
use Rattle.law_all.specs.inv.history.Record.{Past}
use Rattle.law_all.specs.RunLaw.{AnswersLaw, AtClose, InOrder, IsCall, KeepsLaw, ListsLaw, QueuesRight, ReadsRight, RisesLaw, RunLaw, backs_in, clock_told, era_spent, era_told, gives, is_change_of, is_moved_to, is_queued_as, is_taken_as, once_up_to, total, total_of, unuseds}
use Rattle.law_all.specs.RunOrder.{RunOrder}

-- a history whose seats are all between calls at its end
pub record AtRest (layout : Layout) (items : List Item) : Type 0 where
  pub valid : is_valid layout ≡ true
  pub idle : (seat : ℕ) → is_busy (world_of layout items) seat ≡ false

-- the logs of the seats there, in number order
abbrev pub logs_of : Layout → List Item → List (List Group)
logs_of layout items = map (λ seat. ((world_of layout items).seat seat).log) (range_with_len 0 layout.config.seats)

-- the table there, by the record
abbrev pub at_close : Layout → Past → AtClose
at_close layout p =
    record {
      clock = clock_of p;
      buckets = map (filling_at p) (range_with_len 0 layout.config.buckets);
      queue = numbered_from (taken_of p) (drop (taken_of p) (queued_of p));
      used = filter (λ slot. taken_at layout.config.slots slot p) (range_with_len 0 (row_count layout));
    }

-- What calls of all seats tell is what the record has: each change, each value queued and each value taken is told by one call, and each
-- era moved to by one at most; and rows are given, given up and given back as often as the record says.
pub record AddsUp (layout : Layout) (p : Past) (logs : List (List Group)) : Type 0 where
  pub changes : (b version : ℕ) → b < layout.config.buckets → total_of (is_change_of layout.config.buckets b version) logs ≡ once_up_to (count_of b p) version
  pub queued : (number : ℕ) → total_of (is_queued_as number) logs ≡ once_up_to (length (queued_of p)) number
  pub taken : (number : ℕ) → total_of (is_taken_as number) logs ≡ once_up_to (taken_of p) number
  pub eras : (era : ℕ) → total_of (is_moved_to era) logs ≤ 1
  pub rows :
      (slot : ℕ)
      → slot ≤ layout.config.slots
      → total (gives slot) logs + one (slot == layout.config.slots)
      ≡ total (unuseds slot) logs + total (backs_in slot) logs + one (taken_at layout.config.slots slot p)

abbrev pub RunsAddUp : Type 0
RunsAddUp = (layout : Layout) (items : List Item) → AtRest layout items → AddsUp layout (record_of layout items) (logs_of layout items)

-- What answers say of the map and of the queue is so by the changes and values of the record, and within a seat it rises.
pub record Agrees (c : Config) (p : Past) (logs : List (List Group)) : Type 0 where
  pub answered : AnswersLaw c logs
  pub reads : (before : List Group) (group : Group) → IsCall logs before group → ReadsRight c (λ b. changes_of b p) group.call group.answer
  pub rises : RisesLaw c logs
  pub queue : (before : List Group) (group : Group) → IsCall logs before group → QueuesRight c (queued_of p) group.call group.answer
  pub queued_rise : (one two : Group) (low high : ℕ) → InOrder logs one two → is_queued_as low one ≡ true → is_queued_as high two ≡ true → low < high
  pub taken_rise : (one two : Group) (low high : ℕ) → InOrder logs one two → is_taken_as low one ≡ true → is_taken_as high two ≡ true → low < high
  pub taken_first : (one two : Group) (low high : ℕ) → InOrder logs one two → is_taken_as low one ≡ true → is_queued_as high two ≡ true → low < high
  pub empty : (one two : Group) (number : ℕ) → InOrder logs one two → is_queued_as number one ≡ true → two.answer ≡ answers.Empty → number ≤ taken_of p

abbrev pub RunsAgree : Type 0
RunsAgree = (layout : Layout) (items : List Item) → AtRest layout items → Agrees layout.config (record_of layout items) (logs_of layout items)

-- What answers say of the clock is so by the record's clock, and within a seat eras rise.
pub record Ticks (c : Config) (clock : ℕ) (logs : List (List Group)) : Type 0 where
  pub most : clock ≤ c.last_era
  pub later : (before : List Group) (group : Group) (era : ℕ) → IsCall logs before group → era_told (clock_told group.answer) ≡ Some era → 2 ≤ era
  pub seen : (before : List Group) (group : Group) (era : ℕ) → IsCall logs before group → era_told (clock_told group.answer) ≡ Some era → era ≤ clock
  pub rise :
      (one two : Group) (low high : ℕ)
      → InOrder logs one two
      → era_told (clock_told one.answer) ≡ Some low
      → era_told (clock_told two.answer) ≡ Some high
      → low < high
  pub spent :
      (before : List Group) (group : Group) (era : ℕ)
      → IsCall logs before group
      → era_spent (clock_told group.answer) ≡ Some era
      → (era ≡ c.last_era) × (clock ≡ c.last_era)
  pub final :
      (one two : Group) (era : ℕ)
      → InOrder logs one two
      → era_spent (clock_told one.answer) ≡ Some era
      → era_told (clock_told two.answer) ≡ None

abbrev pub RunsTick : Type 0
RunsTick = (layout : Layout) (items : List Item) → AtRest layout items → Ticks layout.config (clock_of (record_of layout items)) (logs_of layout items)

-- What goes back is on the seat's list, which has the lists that it took over; and these were left, and taken over once.
abbrev pub RunsList : Type 0
RunsList = (layout : Layout) (items : List Item) → AtRest layout items → ListsLaw (logs_of layout items)

-- Copies and looks are right by what their seat keeps.
abbrev pub RunsKeep : Type 0
RunsKeep = (layout : Layout) (items : List Item) → AtRest layout items → KeepsLaw layout.config (logs_of layout items) (λ b. changes_of b (record_of layout items))

-- the calls have one order, as of an object used by one call after another
abbrev pub RunsHaveOrder : Type 0
RunsHaveOrder = (layout : Layout) (items : List Item) → AtRest layout items → RunOrder layout.config (logs_of layout items) (at_close layout (record_of layout items))

-- the law of runs
abbrev pub RunsAreLawful : Type 0
RunsAreLawful = (layout : Layout) (items : List Item) → AtRest layout items → RunLaw layout.config (logs_of layout items) (at_close layout (record_of layout items))
