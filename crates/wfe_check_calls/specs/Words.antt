-- What a record says of an index word.
use Rattle.std.specs.Prelude.{ℕ, Bool, true, false, Option, None, is_none, is_some, if◌then◌else◌, ◌&&◌, ◌||◌}
use Rattle.laws.specs.defs.declared.event.Event.{Event}
use Rattle.laws.specs.defs.declared.event.Event.TheVariants as events
use Rattle.laws.specs.defs.declared.lifetime.Interval.{Interval}
use Rattle.laws.specs.records.Record.{Past}
use Rattle.laws.specs.StateAt.{hazards_of, one_hazard, one_more, own_hazard_of, own_last_of, own_rising_of, reserves_of, rises_on, rising_of, tried_of}
use Rattle.laws.specs.StepLaw.{is_under_way}
use Rattle.wfe_check_calls.specs.declared.word.Word.{Word}

-- index word j of seat i
abbrev pub word_of : (i j : ℕ) → Past → Word
word_of i j p = record {
  reserves = reserves_of i j p;
  rising = rising_of i j p;
  tried = tried_of i j p;
  own_last = own_last_of i j p;
  own_rising = own_rising_of i j p;
  under_way = is_under_way i j p;
  hazards = hazards_of i j p;
  own_hazard = own_hazard_of i j p;
}

-- of which nothing was told
abbrev pub new_word : Word
new_word = record { reserves = 0; rising = true; tried = 0; own_last = None; own_rising = true; under_way = false; hazards = 0; own_hazard = None }

-- it is published, by its seat or by another one, where it has published `last`
abbrev pub published : (own : Bool) → (last span : Option Interval) → Word → Word
published own last span before = record {
  reserves = if own then one_more span before.reserves else before.reserves;
  rising = rises_on last span before.rising;
  tried = if own then one_more span before.tried else before.tried;
  own_last = if own then span else before.own_last;
  own_rising = if own then rises_on before.own_last span before.own_rising else before.own_rising;
  under_way = if own then is_some span && (before.under_way || is_none last) else before.under_way;
  hazards = before.hazards;
  own_hazard = before.own_hazard;
}

-- it publishes a row, or none, which its seat tells or another one
abbrev pub hazarded : (own : Bool) → (slot : Option ℕ) → Word → Word
hazarded own slot before = record before { hazards = if own then one_hazard slot before.hazards else before.hazards; own_hazard = if own then slot else before.own_hazard }

-- a protection there is over, or a copy was made
abbrev pub begun_anew : Word → Word
begun_anew before = record before { tried = 0; own_last = None; own_rising = true; under_way = false; own_hazard = None }

-- after an event that speaks of it
abbrev pub word_by : (own : Bool) → (last : Option Interval) → Event → Word → Word
word_by own last (events.Reserve guard span) before = published own last span before
word_by own last (events.Hazard guard slot) before = hazarded own slot before
word_by own last (events.Held index slot steps) before = begun_anew before
word_by own last (events.Null index steps) before = begun_anew before
word_by own last (events.Copied from index slot) before = begun_anew before
word_by own last event before = before
