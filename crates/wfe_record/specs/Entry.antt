-- Which texts are lines of events of a record, without their line feed.
use Rattle.std.specs.Prelude.{◌≡◌, ◌++◌, ℕ, List, codes}
use Rattle.wfe_words.specs.declared.config.Config.{Config}
use Rattle.wfe_defs.specs.declared.event.Event.{Event}
use Rattle.wfe_defs.specs.declared.event.Event.TheVariants as events
use Rattle.wfe_trace.specs.Fits.{NumberFits, ValueFits}
use Rattle.wfe_trace.specs.Record.{event_line}
use Rattle.wfe_record_words.specs.Within.{IsShort, IsSeat, IsIndex, IsSlot, IsBucket, Since, IsGuard, IsShown, IsSpan, IsRoot}
use Rattle.wfe_record_calls.specs.Answers.{IsAnswer}
use Rattle.wfe_record_calls.specs.Calls.{IsCall}

-- an event that records of the version have, with each number in its range in a record of the setting
abbrev pub IsEvent : ℕ → Config → Event → Type 0
IsEvent version config (events.Begin call) = IsCall version config call
IsEvent version config (events.End steps answer) = NumberFits steps × IsAnswer version config answer
IsEvent version config (events.Era era) = IsShort era
IsEvent version config (events.Reserve guard span) = IsGuard config guard × IsSpan span
IsEvent version config (events.Read guard span) = IsGuard config guard × IsSpan span
IsEvent version config (events.Hazard guard slot) = Since 5 version × IsGuard config guard × IsShown config slot
IsEvent version config (events.Saw guard slot) = Since 5 version × IsGuard config guard × IsShown config slot
IsEvent version config (events.Give slot birth) = IsSlot config slot × IsShort birth
IsEvent version config (events.Unused slot) = IsSlot config slot
IsEvent version config (events.Link root slot) = IsRoot config root × IsSlot config slot
IsEvent version config (events.Cut slot) = IsSlot config slot
IsEvent version config (events.Retire slot birth retire) = IsSlot config slot × IsShort birth × IsShort retire
IsEvent version config (events.Back slot) = IsSlot config slot
IsEvent version config (events.Held index slot steps) = IsIndex config index × IsSlot config slot × NumberFits steps
IsEvent version config (events.Null index steps) = IsIndex config index × NumberFits steps
IsEvent version config (events.Clear index slot) = IsIndex config index × IsSlot config slot
IsEvent version config (events.Copied from index slot) = Since 2 version × IsIndex config from × IsIndex config index × IsSlot config slot
IsEvent version config (events.Put bucket number key value) = IsBucket config bucket × NumberFits number × NumberFits key × NumberFits value
IsEvent version config (events.Removed bucket number key) = IsBucket config bucket × NumberFits number × NumberFits key
IsEvent version config (events.Got bucket number key value) = IsBucket config bucket × NumberFits number × NumberFits key × ValueFits value
IsEvent version config (events.Queued number value) = NumberFits number × NumberFits value
IsEvent version config (events.Taken number value) = NumberFits number × NumberFits value
IsEvent version config (events.Left count) = Since 4 version × IsShort count
IsEvent version config (events.Adopted place count) = Since 4 version × IsSeat config place × IsShort count

-- the bytes are the line of this event of this seat, in a record of the version and the setting
pub record IsEntry (version : ℕ) (config : Config) (bytes : List ℕ) (seat : ℕ) (event : Event) : Type 0 where
  pub text : event_line seat event ≡ bytes ++ codes "\n"
  pub seated : IsSeat config seat
  pub within : IsEvent version config event
