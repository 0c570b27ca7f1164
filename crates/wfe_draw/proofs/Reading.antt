-- How the reading of a record goes and ends.
use Rattle.std.proofs.Common.{ℕ, ◌≡◌, ◌∙◌, ◌≤◌, ◌<◌, ◌+◌, ◌++◌, [], List, length, Option, Some, Result, Ok, Err, refl, sym, ap, subst, inl, inr, arith, append-nil}
use Rattle.std.proofs.KnownBytes.{Consumes-trans}
use Rattle.std.specs.Io.KnownBytes.{Consumes, IsAtEnd}
use Rattle.wfe_check_lines.specs.Reading.{reading_start}
use Rattle.wfe_check_lines.proofs.Bytes.{count_bytes}
use Rattle.wfe_draw_lives.specs.declared.scene.Picture.{Picture}
use Rattle.wfe_draw_lives.specs.declared.scene.Scene.{Scene}
use Rattle.wfe_draw.specs.Readers.{Holds, IsUnended}
use Rattle.wfe_draw.specs.Records.{Closes, Goes, IsStopped, Names, Pictures, Reads, Turns}
use Rattle.wfe_draw.specs.declared.reader.Reader.{Reader}
use Rattle.wfe_draw.specs.declared.record.Ending.{Ending}
use Rattle.wfe_draw.specs.declared.record.Ending.TheVariants as endings
use Rattle.wfe_draw.specs.declared.stop.Stop.{Stop}
use Rattle.wfe_draw.specs.declared.stop.Stop.TheVariants as stops
use Rattle.wfe_draw.specs.declared.stop.Unread.{Unread}
use Rattle.wfe_draw.specs.declared.stop.Unread.TheVariants as unreads

-- no more bytes came than a record may have
pub few : (last : ℕ) (taken : List ℕ) (reader : Reader) (scene : Scene) → Holds last taken reader scene → length taken ≤ 1073741824
few last taken reader scene h = omega (arith, count_bytes reading_start h.r taken h.text, h.reading.few)

pub reads_then : (last : ℕ) (ending : Ending) (a b c : Option (List ℕ)) (taken : List ℕ) (reader : Reader) (scene : Scene) → Consumes a b taken → Turns last taken (Some ending) b c reader scene → Reads last ending a c reader scene
reads_then last endings.AtEnd a b c taken reader scene before (none, at_end, holds) = (taken, subst (Consumes a c) (append-nil taken) (Consumes-trans a b c taken [] before none), at_end, holds)
reads_then last (endings.Unread (unreads.Stopped stop)) a b c taken reader scene before stopped =
    record { more = taken ++ stopped.more; consumed = Consumes-trans a b c taken stopped.more before stopped.consumed; bad = stopped.bad }
reads_then last (endings.Unread unreads.Fault) a b c taken reader scene before stopped = tt

pub names : (before left : Option (List ℕ)) (stop : Stop) → IsStopped [] before left stop → Names before left stop
names before left stops.NoMemory stopped = tt
names before left (stops.BadRecord line reason) stopped = stopped
names before left stops.TooLarge stopped = tt

pub unread : (last : ℕ) (why : Unread) (before left : Option (List ℕ)) (reader : Reader) (scene : Scene) → Reads last (endings.Unread why) before left reader scene → Pictures last (Err why) before left
unread last (unreads.Stopped stop) before left reader scene stopped = names before left stop stopped
unread last unreads.Fault before left reader scene stopped = tt

-- the input's end was taken
pub closed : (last : ℕ) (picture : Picture) (before left : Option (List ℕ)) (taken : List ℕ) → Consumes before left taken → IsAtEnd left → Closes last taken (Ok picture) → Pictures last (Ok picture) before left
closed last picture before left taken consumed at_end (p, whole, draws) = record { taken = taken; consumed = consumed; at_end = at_end; p = p; whole = whole; draws = draws }

pub unclosed : (last : ℕ) (stop : Stop) (before left : Option (List ℕ)) (taken : List ℕ) → Consumes before left taken → IsAtEnd left → Closes last taken (Err stop) → Pictures last (Err (unreads.Stopped stop)) before left
unclosed last stop before left taken consumed at_end ended = names before left stop (record { more = taken; consumed = consumed; bad = inr (ended, at_end) })
