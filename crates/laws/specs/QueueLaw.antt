-- The law of the queue, over records: values are taken in the order in which they were queued, each once.
use Rattle.std.specs.Prelude.{length, nat_le, slice_index_or, true, not, ◌==◌, ◌&&◌, ◌||◌, ◌+◌, ◌-◌}
use Rattle.model_record.specs.Record.{Test, EachEntry, Past}
use Rattle.model_record.specs.defs.declared.call.Answer.TheVariants as answers
use Rattle.model_record.specs.defs.declared.event.Event.TheVariants as events
use Rattle.laws.specs.StateAt.{is_dequeue, began_of}
use Rattle.laws.specs.StructuresAt.{queued_of, taken_of, was_empty}

-- the n-th value is queued under number n; values are taken by their numbers, each after it was queued
abbrev pub queue_ok : Test
queue_ok p i (events.Queued number value) = number == length (queued_of p) + 1
queue_ok p i (events.Taken number value) =
    number == taken_of p + 1 && (nat_le number (length (queued_of p)) && value == slice_index_or (queued_of p) (number - 1) 0)
queue_ok p i event = true

-- a dequeue answers Empty only where at a position of the call all that was queued was taken
abbrev pub empty_ok : Test
empty_ok p i (events.End steps answers.Empty) = not (is_dequeue (began_of i p)) || was_empty i p
empty_ok p i event = true

pub record QueueLaw (r : Past) : Type 0 where
  -- the n-th value queued has number n, and so has the n-th taken, which is that value and was queued before
  pub values : EachEntry queue_ok r
  -- a dequeue finds the queue empty only where it was, at a position of the call
  pub empty : EachEntry empty_ok r
