-- How often each kind of event came.
use Rattle.std.specs.Prelude.{Bool, List, count_by, false, sum_by, true, ℕ, ◌+◌, ◌≡◌}
use Rattle.wfe_outside.specs.defs.Entry.{Entry}
use Rattle.wfe_outside.specs.defs.declared.event.Event.{Event}
use Rattle.wfe_outside.specs.defs.declared.event.Event.TheVariants as events
use Rattle.wfe_watch.specs.Counts.{capped, raised}
use Rattle.wfe_watch.specs.Garbage.{is_back, is_retire}
use Rattle.wfe_server_gen.specs.declared.summary.Summary.{Summary}

abbrev pub is_begin : Event → Bool
is_begin (events.Begin call) = true
is_begin _ = false

abbrev pub is_put : Event → Bool
is_put (events.Put bucket version key value) = true
is_put _ = false

abbrev pub is_removed : Event → Bool
is_removed (events.Removed bucket version key) = true
is_removed _ = false

abbrev pub is_got : Event → Bool
is_got (events.Got bucket version key value) = true
is_got _ = false

abbrev pub is_queued : Event → Bool
is_queued (events.Queued number value) = true
is_queued _ = false

abbrev pub is_taken : Event → Bool
is_taken (events.Taken number value) = true
is_taken _ = false

abbrev pub is_era : Event → Bool
is_era (events.Era era) = true
is_era _ = false

-- the steps of the call that ends
abbrev pub steps_in : Event → ℕ
steps_in (events.End steps answer) = steps
steps_in _ = 0

-- how many entries are of a kind
abbrev pub count_of : (Event → Bool) → List Entry → ℕ
count_of kind told = count_by (λ x. kind x.event) told

-- the steps of all calls that ended
abbrev pub units_of : List Entry → ℕ
units_of told = sum_by (λ x. steps_in x.event) told

-- the numbers of the entries; each stands still at the greatest number of 64 bits
abbrev pub summary_of : List Entry → Summary
summary_of told = record {
  units = capped (units_of told);
  calls = capped (count_of is_begin told);
  puts = capped (count_of is_put told);
  removed = capped (count_of is_removed told);
  gots = capped (count_of is_got told);
  queued = capped (count_of is_queued told);
  taken = capped (count_of is_taken told);
  retired = capped (count_of is_retire told);
  back = capped (count_of is_back told);
  clock = capped (1 + count_of is_era told);
}

-- the numbers after one more event
abbrev pub summary_after : Summary → Event → Summary
summary_after s event = record {
  units = capped (s.units + steps_in event);
  calls = raised (is_begin event) s.calls;
  puts = raised (is_put event) s.puts;
  removed = raised (is_removed event) s.removed;
  gots = raised (is_got event) s.gots;
  queued = raised (is_queued event) s.queued;
  taken = raised (is_taken event) s.taken;
  retired = raised (is_retire event) s.retired;
  back = raised (is_back event) s.back;
  clock = raised (is_era event) s.clock;
}

-- the numbers are those of the entries
abbrev pub Counts : Summary → List Entry → Type 0
Counts s told = s ≡ summary_of told
