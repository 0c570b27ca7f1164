-- The record of lines begins the calls of these lines and no others, since no step tells the beginning of a call.
use Rattle.std.proofs.Common.{ℕ, ◌≡◌, ◌++◌, Bool, true, false, zero, suc, List, [], ◌∷◌}
use Rattle.law_printed.specs.OfVersion.{BeginsAll, HasCall}
use Rattle.law_printed.specs.laws.defs.declared.call.Call.{Call}
use Rattle.law_printed.specs.laws.defs.declared.call.Call.TheVariants as calls
use Rattle.wfe_trace.specs.Body.{IsCommandWithin, fits_indexes, fits_seats}
use Rattle.wfe_trace.specs.words.declared.config.Config.{Config}
use Rattle.std.proofs.Common.{arith}
use Rattle.std.proofs.lemmas.Bool.Decides.{nat_tests}
use Rattle.law_printed.specs.laws.defs.declared.command.Command.{Command}
use Rattle.law_printed.specs.laws.defs.declared.command.Command.TheVariants as commands
use Rattle.law_printed.specs.laws.defs.declared.event.Event.{Event}
use Rattle.law_printed.specs.laws.defs.declared.event.Event.TheVariants as events
use Rattle.law_printed.specs.laws.records.Record.{Past, tells_of}
use Rattle.law_printed.specs.laws.records.Record.Past.{Then}
use Rattle.wfe_server_replay.proofs.drive.history.AllOf.{all_of}
use Rattle.wfe_server_replay.proofs.drive.inv.Machines.{is_within, within_of}
use Rattle.wfe_server_replay.proofs.drive.inv.model.Facts.{first_of, rest_of}
use Rattle.wfe_server_replay.specs.Given.{AreTaken, Given, all_items, all_run, given_record, items, items_of, layout_of, no_lines, with_line}
use Rattle.wfe_server_replay.specs.Playing.{call_most}
use Rattle.wfe_server_replay.specs.history.model.World.{told_in}
use Rattle.wfe_server_replay.specs.history.History.{Begins, Item, Made, Steps, did, done_if, first_made, fits, made_from, times}
use Rattle.law_printed.specs.Versions.{CallAll, CallNames, CallsSuch, RecordsBegin}

within_then : (such : Call → Type 0) (i : ℕ) (event : Event) (p : Past) → is_within event ≡ true → BeginsAll such p → BeginsAll such (Then p i event)
within_then such i (events.Begin call) p w h = absurd (cc)
within_then such i event p w h = h

within_tells : (such : Call → Type 0) (i : ℕ) (told : List Event) (p : Past) → all_of is_within told ≡ true → BeginsAll such p → BeginsAll such (tells_of p i told)
within_tells such i [] p w h = h
within_tells such i (event ∷ told) p w h =
    within_tells such i told (Then p i event) (rest_of (is_within event) (all_of is_within told) w) (within_then such i event p (first_of (is_within event) (all_of is_within told) w) h)

-- the call of an item is such, if it begins one
abbrev HasItem : (Call → Type 0) → Item → Type 0
HasItem such (Begins seat call) = such call
HasItem such (Steps seat) = Unit {0}

abbrev HasItems : (Call → Type 0) → List Item → Type 0
HasItems such [] = Unit {0}
HasItems such (item ∷ items) = HasItem such item × HasItems such items

done_begins : (such : Call → Type 0) (made : Made) (item : Item) (fit : Bool) → HasItem such item → BeginsAll such made.past → BeginsAll such (done_if made item fit).past
done_begins such made (Begins seat call) true has h = (h, has)
done_begins such made (Steps seat) true has h = within_tells such seat (told_in made.world seat) made.past (within_of made.world seat) h
done_begins such made item false has h = h

made_begins : (such : Call → Type 0) (items : List Item) (made : Made) → HasItems such items → BeginsAll such made.past → BeginsAll such (made_from made items).past
made_begins such [] made has h = h
made_begins such (item ∷ items) made has h = made_begins such items (did made item) has.1 (done_begins such made item (fits made.world item) has.0 h)

-- the items of lines
both_have : (such : Call → Type 0) (items more : List Item) → HasItems such items → HasItems such more → HasItems such (items ++ more)
both_have such [] more h g = g
both_have such (item ∷ items) more h g = (h.0, both_have such items more h.1 g)

times_have : (such : Call → Type 0) (n seat : ℕ) → HasItems such (times n seat)
times_have such zero seat = tt
times_have such (suc n) seat = (tt, times_have such n seat)

run_has : (such : Call → Type 0) (seats : ℕ) → HasItems such (all_run seats)
run_has such zero = tt
run_has such (suc n) = both_have such (all_run n) (times call_most n) (run_has such n) (times_have such call_most n)

line_has : (such : Call → Type 0) (seats : ℕ) (line : Command) → CallsSuch such line → HasItems such (items_of seats line)
line_has such seats (commands.Call seat call) h = (h, tt)
line_has such seats (commands.Step seat units) h = times_have such units seat
line_has such seats (commands.Run seat) h = times_have such call_most seat
line_has such seats commands.Table h = tt
line_has such seats commands.End h = run_has such seats

lines_have : (such : Call → Type 0) (seats : ℕ) (lines : List Command) → CallAll such lines → HasItems such (all_items seats lines)
lines_have such seats [] h = tt
lines_have such seats (line ∷ lines) h = both_have such (items_of seats line) (all_items seats lines) (line_has such seats line h.0) (lines_have such seats lines h.1)

record_begins : (such : Call → Type 0) (given : Given) → CallAll such given.lines → BeginsAll such (given_record given)
record_begins such given h = made_begins such (items given) (first_made (layout_of given)) (lines_have such given.config.seats given.lines h) tt

-- what is taken names only what the setting has
call_names : (config : Config) (call : Call) → fits_indexes config.indexes call ≡ true → fits_seats config.seats call ≡ true → CallNames config call
call_names config (calls.Copy from index) indexes seats = (grind (arith, nat_tests), grind (arith, nat_tests))
call_names config (calls.DropIndex index) indexes seats = grind (arith, nat_tests)
call_names config (calls.Look index key) indexes seats = grind (arith, nat_tests)
call_names config (calls.Adopt place) indexes seats = grind (arith, nat_tests)
call_names config call indexes seats = tt

line_names : (config : Config) (line : Command) → IsCommandWithin config line → CallsSuch (CallNames config) line
line_names config (commands.Call seat call) within = call_names config call within.1 within.2
line_names config line within = tt

lines_name : (makes : Call → Bool) (given : Given) (lines : List Command) → AreTaken makes given lines → CallAll (CallNames given.config) lines
lines_name makes given [] taken = tt
lines_name makes given (line ∷ lines) taken = (line_names given.config line taken.0, lines_name makes (with_line line given) lines taken.2)

pub records_begin : RecordsBegin
records_begin makes given taken of = record {
  versions = record_begins (HasCall given.version) given of.calls;
  names = record_begins (CallNames given.config) given (lines_name makes (no_lines given.version given.config) given.lines taken.lines);
}
