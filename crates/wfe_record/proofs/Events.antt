-- The words of events say what was told.
use Rattle.std.proofs.Common.{◌≡◌, ◌++◌, ℕ, List, Some, codes, refl}
use Rattle.wfe_words.specs.declared.config.Config.{Config}
use Rattle.wfe_defs.specs.declared.event.Event.{Event}
use Rattle.wfe_defs.specs.declared.event.Event.TheVariants as events
use Rattle.wfe_trace.specs.Record.{event_words}
use Rattle.wfe_record_words.specs.Within.{Small}
use Rattle.wfe_record.specs.Entry.{IsEvent}
use Rattle.wfe_record_words.specs.Reader.{unknown}
use Rattle.wfe_record_words.specs.ContentsReader.{contents_event_table, leaving_event_table, contents_event_by, leaving_event_by}
use Rattle.wfe_record.specs.Reader.{event_table, hazard_event_table, row_event_table, standing_event_table, hazard_event_by, row_event_by, standing_event_by, event_by, event}
use Rattle.wfe_record_words.proofs.Joined.{Reads, Rows, SoundBy, row_one, row_two, row_three, row_four, row_since, by_sound, unknown_sound, named_sound}
use Rattle.wfe_record_words.proofs.Found.{one_found, two_found, three_found, four_found, one_since, two_since, three_since}
use Rattle.wfe_record_words.proofs.Parts.{long_reads, short_reads, seat_reads, index_reads, slot_reads, bucket_reads, value_reads, shown_reads, span_reads, guard_reads, root_reads}
use Rattle.wfe_record_calls.proofs.Answers.{answer_reads}
use Rattle.wfe_record_calls.proofs.Calls.{call_reads}

event_rows : (version : ℕ) (config : Config) → Small config → Rows (event_table version config) event_words (IsEvent version config)
event_rows version config small =
    let words = event_words in
    let is = IsEvent version config in
    let guard = guard_reads config small in (
      row_one (call_reads version config small) events.Begin (codes "begin") words is (λ x v i. (refl, i)),
      (
        row_two long_reads (answer_reads version config small) events.End (codes "end") words is (λ x y v i j. (refl, (i, j))),
        (
          row_one short_reads events.Era (codes "era") words is (λ x v i. (refl, i)),
          (
            row_two guard span_reads events.Reserve (codes "reserve") words is (λ x y v i j. (refl, (i, j))),
            (row_two guard span_reads events.Read (codes "read") words is (λ x y v i j. (refl, (i, j))), tt),
          ),
        ),
      ),
    )

hazard_event_rows : (version : ℕ) (config : Config) → Small config → Rows (hazard_event_table version config) event_words (IsEvent version config)
hazard_event_rows version config small =
    let words = event_words in
    let is = IsEvent version config in
    let guard = guard_reads config small in
    let shown = shown_reads config small in (
      row_since 5 version (codes "hazard") _ words is (λ l. row_two guard shown events.Hazard (codes "hazard") words is (λ x y v i j. (refl, (l, i, j)))),
      (row_since 5 version (codes "saw") _ words is (λ l. row_two guard shown events.Saw (codes "saw") words is (λ x y v i j. (refl, (l, i, j)))), tt),
    )

row_event_rows : (version : ℕ) (config : Config) → Small config → Rows (row_event_table config) event_words (IsEvent version config)
row_event_rows version config small =
    let words = event_words in
    let is = IsEvent version config in
    let slot = slot_reads config small in (
      row_two slot short_reads events.Give (codes "give") words is (λ x y v i j. (refl, (i, j))),
      (
        row_one slot events.Unused (codes "unused") words is (λ x v i. (refl, i)),
        (
          row_two (root_reads config small) slot events.Link (codes "link") words is (λ x y v i j. (refl, (i, j))),
          (
            row_one slot events.Cut (codes "cut") words is (λ x v i. (refl, i)),
            (
              row_three slot short_reads short_reads events.Retire (codes "retire") words is (λ x y z v i j k. (refl, (i, j, k))),
              (row_one slot events.Back (codes "back") words is (λ x v i. (refl, i)), tt),
            ),
          ),
        ),
      ),
    )

standing_event_rows : (version : ℕ) (config : Config) → Small config → Rows (standing_event_table version config) event_words (IsEvent version config)
standing_event_rows version config small =
    let words = event_words in
    let is = IsEvent version config in
    let slot = slot_reads config small in
    let index = index_reads config small in (
      row_three index slot long_reads events.Held (codes "held") words is (λ x y z v i j k. (refl, (i, j, k))),
      (
        row_two index long_reads events.Null (codes "null") words is (λ x y v i j. (refl, (i, j))),
        (
          row_two index slot events.Clear (codes "clear") words is (λ x y v i j. (refl, (i, j))),
          (row_since 2 version (codes "copied") _ words is (λ l. row_three index index slot events.Copied (codes "copied") words is (λ x y z v i j k. (refl, (l, i, j, k)))), tt),
        ),
      ),
    )

contents_event_rows : (version : ℕ) (config : Config) → Small config → Rows (contents_event_table config) event_words (IsEvent version config)
contents_event_rows version config small =
    let words = event_words in
    let is = IsEvent version config in
    let bucket = bucket_reads config small in (
      row_four bucket long_reads long_reads long_reads events.Put (codes "put") words is (λ x y z w v i j k l. (refl, (i, j, k, l))),
      (
        row_three bucket long_reads long_reads events.Removed (codes "removed") words is (λ x y z v i j k. (refl, (i, j, k))),
        (
          row_four bucket long_reads long_reads value_reads events.Got (codes "got") words is (λ x y z w v i j k l. (refl, (i, j, k, l))),
          (
            row_two long_reads long_reads events.Queued (codes "queued") words is (λ x y v i j. (refl, (i, j))),
            (row_two long_reads long_reads events.Taken (codes "taken") words is (λ x y v i j. (refl, (i, j))), tt),
          ),
        ),
      ),
    )

leaving_event_rows : (version : ℕ) (config : Config) → Small config → Rows (leaving_event_table version config) event_words (IsEvent version config)
leaving_event_rows version config small =
    let words = event_words in
    let is = IsEvent version config in (
      row_since 4 version (codes "left") _ words is (λ l. row_one short_reads events.Left (codes "left") words is (λ x v i. (refl, (l, i)))),
      (row_since 4 version (codes "adopted") _ words is (λ l. row_two (seat_reads config small) short_reads events.Adopted (codes "adopted") words is (λ x y v i j. (refl, (l, i, j)))), tt),
    )

event_sound : (version : ℕ) (config : Config) → Small config → SoundBy (event_by version config) event_words (IsEvent version config)
unfolding event_by hazard_event_by row_event_by standing_event_by contents_event_by leaving_event_by
event_sound version config small =
    let words = event_words in
    let is = IsEvent version config in
    by_sound (event_table version config) (hazard_event_by version config) words is (event_rows version config small)
    (by_sound (hazard_event_table version config) (row_event_by version config) words is (hazard_event_rows version config small)
    (by_sound (row_event_table config) (standing_event_by version config) words is (row_event_rows version config small)
    (by_sound (standing_event_table version config) (contents_event_by version config) words is (standing_event_rows version config small)
    (by_sound (contents_event_table config) (leaving_event_by version config) words is (contents_event_rows version config small)
    (by_sound (leaving_event_table version config) unknown words is (leaving_event_rows version config small) (unknown_sound words is))))))

event-complete : (version : ℕ) (config : Config) → Small config → (x : Event) (rest : List (List ℕ)) → IsEvent version config x → event version config (event_words x ++ rest) ≡ Some (x, rest)
unfolding event_by hazard_event_by row_event_by standing_event_by contents_event_by leaving_event_by
event-complete version config small (events.Begin call) rest is = one_found (call_reads version config small) events.Begin call rest is
event-complete version config small (events.End steps answer) rest is = two_found long_reads (answer_reads version config small) events.End steps answer rest is.0 is.1
event-complete version config small (events.Era era) rest is = one_found short_reads events.Era era rest is
event-complete version config small (events.Reserve guard span) rest is = two_found (guard_reads config small) span_reads events.Reserve guard span rest is.0 is.1
event-complete version config small (events.Read guard span) rest is = two_found (guard_reads config small) span_reads events.Read guard span rest is.0 is.1
event-complete version config small (events.Hazard guard slot) rest is = two_since 5 version is.0 (guard_reads config small) (shown_reads config small) events.Hazard guard slot rest is.1 is.2
event-complete version config small (events.Saw guard slot) rest is = two_since 5 version is.0 (guard_reads config small) (shown_reads config small) events.Saw guard slot rest is.1 is.2
event-complete version config small (events.Give slot birth) rest is = two_found (slot_reads config small) short_reads events.Give slot birth rest is.0 is.1
event-complete version config small (events.Unused slot) rest is = one_found (slot_reads config small) events.Unused slot rest is
event-complete version config small (events.Link root slot) rest is = two_found (root_reads config small) (slot_reads config small) events.Link root slot rest is.0 is.1
event-complete version config small (events.Cut slot) rest is = one_found (slot_reads config small) events.Cut slot rest is
event-complete version config small (events.Retire slot birth retire) rest is = three_found (slot_reads config small) short_reads short_reads events.Retire slot birth retire rest is.0 is.1 is.2
event-complete version config small (events.Back slot) rest is = one_found (slot_reads config small) events.Back slot rest is
event-complete version config small (events.Held index slot steps) rest is = three_found (index_reads config small) (slot_reads config small) long_reads events.Held index slot steps rest is.0 is.1 is.2
event-complete version config small (events.Null index steps) rest is = two_found (index_reads config small) long_reads events.Null index steps rest is.0 is.1
event-complete version config small (events.Clear index slot) rest is = two_found (index_reads config small) (slot_reads config small) events.Clear index slot rest is.0 is.1
event-complete version config small (events.Copied from index slot) rest is =
    three_since 2 version is.0 (index_reads config small) (index_reads config small) (slot_reads config small) events.Copied from index slot rest is.1 is.2 is.3
event-complete version config small (events.Put bucket number key value) rest is = four_found (bucket_reads config small) long_reads long_reads long_reads events.Put bucket number key value rest is.0 is.1 is.2 is.3
event-complete version config small (events.Removed bucket number key) rest is = three_found (bucket_reads config small) long_reads long_reads events.Removed bucket number key rest is.0 is.1 is.2
event-complete version config small (events.Got bucket number key value) rest is = four_found (bucket_reads config small) long_reads long_reads value_reads events.Got bucket number key value rest is.0 is.1 is.2 is.3
event-complete version config small (events.Queued number value) rest is = two_found long_reads long_reads events.Queued number value rest is.0 is.1
event-complete version config small (events.Taken number value) rest is = two_found long_reads long_reads events.Taken number value rest is.0 is.1
event-complete version config small (events.Left count) rest is = one_since 4 version is.0 short_reads events.Left count rest is.1
event-complete version config small (events.Adopted place count) rest is = two_since 4 version is.0 (seat_reads config small) short_reads events.Adopted place count rest is.1 is.2

pub event_reads : (version : ℕ) (config : Config) → Small config → Reads (event version config) event_words (IsEvent version config)
event_reads version config small = record {
  sound = named_sound (event_by version config) event_words (IsEvent version config) (event_sound version config small);
  complete = event-complete version config small;
}
