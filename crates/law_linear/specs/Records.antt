-- Which records are linearizable.
use Rattle.std.specs.Prelude.{List, None, false, ℕ, ◌≡◌}
use Rattle.laws.specs.AnswerLaw.{lacks_ok}
use Rattle.laws.specs.HistoryAnswers.{answers_ok, reasons_ok}
use Rattle.laws.specs.MapLaw.{map_ok}
use Rattle.laws.specs.QueueLaw.{empty_ok, queue_ok}
use Rattle.laws.specs.Standing.{open_ok}
use Rattle.laws.specs.StateAt.{is_open}
use Rattle.laws.specs.defs.Entry.{Entry}
use Rattle.laws.specs.defs.declared.call.Answer.TheVariants as answers
use Rattle.laws.specs.defs.declared.call.Call.TheVariants as calls
use Rattle.laws.specs.defs.declared.event.Event.TheVariants as events
use Rattle.laws.specs.records.Record.Past.{Start, Then}
use Rattle.laws.specs.records.Record.{EachEntry, Past, tells}
use Rattle.laws.specs.words.declared.config.Config.{Config}
use Rattle.law_linear.specs.Hands.{hands_ok}
use Rattle.law_linear.specs.LinearLaw.{LinearLaw, tells_ok}
use Rattle.law_linear.specs.Order.{HasOrder}
use Rattle.law_linear.specs.Points.{IsLinearizable}

-- what it rests on: calls in turn, map and queue, the answers of calls with their reasons, and what seats keep
pub record Reasons (c : Config) (r : Past) : Type 0 where
  pub calls : EachEntry open_ok r
  pub map : EachEntry (map_ok c.buckets) r
  pub values : EachEntry queue_ok r
  pub empty : EachEntry empty_ok r
  pub told : EachEntry (answers_ok c.buckets) r
  pub reasons : EachEntry (reasons_ok c) r
  pub lacks : EachEntry (lacks_ok c) r
  pub hands : EachEntry (hands_ok c) r

-- a record that goes on to one with this at whose end no seat is in a call
abbrev pub ReasonsLinearize : Type 0
ReasonsLinearize =
    (config : Config) (r : Past) (p : Past) (later : List Entry)
    → Reasons config r
    → ((i : ℕ) → is_open i r ≡ false)
    → r ≡ tells p later
    → LinearLaw config p

-- points give an order
abbrev pub PointsOrder : Type 0
PointsOrder = (config : Config) (r : Past) → IsLinearizable config r → HasOrder config r

-- Not each record is: a get of a bucket that was never changed does not answer version 1.
abbrev pub get_begun : Past
get_begun = Then Start 0 (events.Begin (calls.Get 5))

abbrev pub stale_get : Past
stale_get = Then get_begun 0 (events.End 1 (answers.Got 1 None))

abbrev pub StaleGetRefused : Type 0
StaleGetRefused = (config : Config) → IsLinearizable config stale_get → ⊥

-- nor may a get tell a put
abbrev pub get_puts : Past
get_puts = Then get_begun 0 (events.Put 0 1 7 70)

abbrev pub GetThatPutsRefused : Type 0
GetThatPutsRefused = (config : Config) → EachEntry (tells_ok config.buckets) get_puts → ⊥
