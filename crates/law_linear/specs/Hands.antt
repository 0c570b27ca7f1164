-- What seats keep, by the Ends of their calls; and what a hold, a copy and a look may answer by it.
use Rattle.std.specs.Prelude.{Bool, None, Option, Some, [], if◌then◌else◌, not, true, ℕ, ◌%◌, ◌&&◌, ◌==◌}
use Rattle.laws.specs.StructuresAt.RowShows.{ShowsVersion}
use Rattle.laws.specs.StateAt.{began_of}
use Rattle.laws.specs.StructuresAt.{RowShows, pairs_at, shows_of, was_current}
use Rattle.laws.specs.defs.declared.call.Answer.TheVariants as answers
use Rattle.laws.specs.defs.declared.call.Answer.{Answer}
use Rattle.laws.specs.defs.declared.call.Call.TheVariants as calls
use Rattle.laws.specs.defs.declared.call.Call.{Call}
use Rattle.laws.specs.defs.declared.event.Event.TheVariants as events
use Rattle.laws.specs.records.Record.Past.{Start, Then}
use Rattle.laws.specs.records.Record.{Past, Test}
use Rattle.laws.specs.words.declared.config.Config.{Config}
use Rattle.law_linear.specs.Object.{Hand, Object, empty_hand, keeps, may_copy, may_look}

-- the version that a row shows, and 0 where it shows none
abbrev pub version_of : RowShows → ℕ
version_of (ShowsVersion bucket version) = version
version_of shows = 0

-- the version that the row of a hold shows
abbrev pub version_held : Answer → Past → ℕ
version_held (answers.Holding slot) p = version_of (shows_of slot p)
version_held answer p = 0

-- map and queue, with each bucket as it was at that version
abbrev pub object_held : Answer → Past → Object
object_held answer p =
    record { bucket = λ b. record { version = version_held answer p; pairs = pairs_at b (version_held answer p) p }; waiting = []; queued = 0; taken = 0 }

-- what a seat keeps after the End of its call
abbrev pub hand_by : Config → Past → Option Call → Answer → Hand → Hand
hand_by c p None answer hand = hand
hand_by c p (Some call) answer hand = keeps c (object_held answer p) hand call answer

abbrev pub hand_of : Config → ℕ → Past → Hand
hand_of c k Start = empty_hand
hand_of c k (Then p i (events.End steps answer)) = if k == i then hand_by c p (began_of k p) answer (hand_of c k p) else hand_of c k p
hand_of c k (Then p i event) = hand_of c k p

-- what a hold takes is of a version of its key's bucket that was current in the call; copies and looks answer what is kept
abbrev pub hand_right : Config → ℕ → Past → Option Call → Answer → Bool
hand_right c i p (Some (calls.Hold key)) (answers.Holding slot) =
    was_current i (key % c.buckets) (version_of (shows_of slot p)) p && not (version_of (shows_of slot p) == 0)
hand_right c i p (Some (calls.Copy from index)) answer = may_copy (hand_of c i p from) answer
hand_right c i p (Some (calls.Look index key)) answer = may_look key (hand_of c i p index) answer
hand_right c i p call answer = true

abbrev pub hands_ok : Config → Test
hands_ok c p i (events.End steps answer) = hand_right c i p (began_of i p) answer
hands_ok c p i event = true
