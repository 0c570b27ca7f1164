-- What an entry names is in the table: its seat, and the guards, indexes, rows and buckets that its event tells of.
use Rattle.std.specs.Prelude.{Bool, None, Option, Some, not, true, ℕ, ◌&&◌, ◌+◌, nat_le, nat_lt}
use Rattle.model_record.specs.Record.{Test, EachEntry, Past}
use Rattle.model_record.specs.defs.declared.call.Answer.{Answer}
use Rattle.model_record.specs.defs.declared.call.Answer.TheVariants as answers
use Rattle.model_record.specs.defs.declared.event.Event.{Event}
use Rattle.model_record.specs.defs.declared.event.Event.TheVariants as events
use Rattle.model_record.specs.defs.declared.event.Guard.{Guard}
use Rattle.model_record.specs.defs.declared.event.Guard.TheVariants.{Helper, Index, Whole}
use Rattle.model_record.specs.defs.declared.event.Root.{Root}
use Rattle.model_record.specs.defs.declared.event.Root.TheVariants as roots
use Rattle.wfe_words.specs.Schemes.{is_wfe, has_one_interval}
use Rattle.wfe_words.specs.declared.config.Config.{Config}

-- the table has this guard: its scheme has guards of this kind, and its seat and index are there
abbrev pub is_guard : Config → Guard → Bool
is_guard config (Helper seat) = is_wfe config.scheme && nat_lt seat config.seats
is_guard config (Index seat index) = not (has_one_interval config.scheme) && (nat_lt seat config.seats && nat_lt index config.indexes)
is_guard config (Whole seat) = has_one_interval config.scheme && nat_lt seat config.seats

-- a guard that is told to publish, or that is read, is one of the table
abbrev pub is_guarded : Config → Event → Bool
is_guarded config (events.Reserve guard span) = is_guard config guard
is_guarded config (events.Read guard span) = is_guard config guard
is_guarded config (events.Hazard guard slot) = is_guard config guard
is_guarded config (events.Saw guard slot) = is_guard config guard
is_guarded config event = true

abbrev pub guards_ok : Config → Test
guards_ok config p i event = is_guarded config event

abbrev pub GuardsOfTable : Config → Past → Type 0
GuardsOfTable config r = EachEntry (guards_ok config) r

-- a bucket of the table, or the next link of one of its rows, of which the dummy of the queue has the number of slots
abbrev pub is_root : Config → Root → Bool
is_root config (roots.Bucket bucket) = nat_lt bucket config.buckets
is_root config (roots.Next parent) = nat_le parent config.slots
is_root config root = true

abbrev pub is_answer : Config → Answer → Bool
is_answer config (answers.Holding slot) = nat_le slot config.slots
is_answer config (answers.Copied slot) = nat_le slot config.slots
is_answer config (answers.Looked slot version value) = nat_le slot config.slots
is_answer config (answers.Left count) = nat_le count (config.slots + 1)
is_answer config (answers.Adopted count) = nat_le count (config.slots + 1)
is_answer config answer = true

-- a row of the table, or none
abbrev pub is_row_or_none : Config → Option ℕ → Bool
is_row_or_none config None = true
is_row_or_none config (Some slot) = nat_le slot config.slots

-- the indexes, rows and buckets of an event are those of the table
abbrev pub is_in_range : Config → Event → Bool
is_in_range config (events.End steps answer) = is_answer config answer
is_in_range config (events.Hazard guard slot) = is_row_or_none config slot
is_in_range config (events.Saw guard slot) = is_row_or_none config slot
is_in_range config (events.Give slot birth) = nat_le slot config.slots
is_in_range config (events.Unused slot) = nat_le slot config.slots
is_in_range config (events.Link root slot) = is_root config root && nat_le slot config.slots
is_in_range config (events.Cut slot) = nat_le slot config.slots
is_in_range config (events.Retire slot birth retire) = nat_le slot config.slots
is_in_range config (events.Back slot) = nat_le slot config.slots
is_in_range config (events.Held index slot steps) = nat_lt index config.indexes && nat_le slot config.slots
is_in_range config (events.Null index steps) = nat_lt index config.indexes
is_in_range config (events.Clear index slot) = nat_lt index config.indexes && nat_le slot config.slots
is_in_range config (events.Copied from index slot) = nat_lt from config.indexes && (nat_lt index config.indexes && nat_le slot config.slots)
is_in_range config (events.Put bucket version key value) = nat_lt bucket config.buckets
is_in_range config (events.Removed bucket version key) = nat_lt bucket config.buckets
is_in_range config (events.Got bucket version key value) = nat_lt bucket config.buckets
is_in_range config (events.Left count) = nat_le count (config.slots + 1)
is_in_range config (events.Adopted place count) = nat_lt place config.seats && nat_le count (config.slots + 1)
is_in_range config event = true

-- and its seat is there
abbrev pub ranges_ok : Config → Test
ranges_ok config p i event = nat_lt i config.seats && is_in_range config event

abbrev pub RangeLaw : Config → Past → Type 0
RangeLaw config r = EachEntry (ranges_ok config) r
