-- A generated trace is taken, and what its lines tell is the record of its one history.
use Rattle.std.proofs.Common.{Bool, List, [], ap, ap₂, append-nil, append_assoc, arith, false, refl, subst, sym, true, ℕ, ◌*◌, ◌++◌, ◌<◌, ◌≤◌, ◌∙◌, ◌≡◌, ◌∷◌}
use Rattle.std.specs.Prelude.{None, is_none, not}
use Rattle.rand_core.specs.Steps.{first_words}
use Rattle.rand_pcg.specs.Pcg.{pcg32}
use Rattle.wfe_trace.specs.words.Config.{bad_field}
use Rattle.wfe_trace.specs.words.Place.{is_valid}
use Rattle.wfe_trace.specs.words.declared.config.Config.{Config}
use Rattle.wfe_trace.specs.words.declared.layout.Layout.{Layout}
use Rattle.wfe_outside.specs.defs.Entry.{Entry}
use Rattle.wfe_outside.specs.defs.declared.call.Call.{Call}
use Rattle.wfe_outside.specs.defs.declared.command.Command.{Command}
use Rattle.wfe_outside.specs.defs.declared.command.Command.TheVariants as commands
use Rattle.wfe_core.specs.World.{is_busy, is_here}
use Rattle.wfe_server_replay.specs.history.History.{Item, world_of}
use Rattle.wfe_server_out.specs.Pieces.{Piece, heard_of}
use Rattle.wfe_server_out.proofs.Texts.{heard_of-append}
use Rattle.wfe_server_replay.specs.Given.{AreTaken, Given, IsTaken, given_made, given_out, given_record, given_world, items, keeper, layout_of, line_pieces, no_lines, past_entries, with_line}
use Rattle.wfe_server_replay.specs.Playing.{Played, call_most, is_playing, opened, played, played_out}
use Rattle.wfe_server_replay.proofs.Lines.{Good, Taken, good-opened, played_of, takes_line, with_lines, with_lines-first, with_no_lines, all_items-more}
use Rattle.wfe_server_replay.proofs.Plays.{gone_left, playing_busy}
use Rattle.wfe_server_replay.proofs.Runs.{runs_end}
use Rattle.wfe_server_replay.proofs.Units.{layout_made}
use Rattle.wfe_server_replay.specs.drive.Reached.{IsReached}
use Rattle.wfe_server_replay.specs.Trace.{why_refused}
use Rattle.wfe_server_gen.proofs.Staying.{opened_reached, reached_here, started_reached, units_reached}
use Rattle.wfe_core.specs.Locals.{stays}
use Rattle.wfe_trace.specs.Body.{IsCommandWithin}
use Rattle.wfe_server_gen.specs.Generated.{entries_of}
use Rattle.wfe_server_gen.specs.Tally.{Tells, lines_told}
use Rattle.wfe_server_gen.specs.Summary.{Counts, summary_of}
use Rattle.wfe_server_gen.specs.declared.summary.Summary.{Summary}
use Rattle.wfe_server_out.specs.Heard.{Hears, HearsSome, Seen}
use Rattle.wfe_server_gen.proofs.Calls.{call_may, call_stays, turn_fits}
use Rattle.wfe_server_gen.specs.Turns.{commands_of, generated, seeded, setting, trace_of, turn_call, turn_seat, turn_units}
use Rattle.wfe_server_gen.proofs.Bare.{strip_heard, strip_played, stripped}

setting_good : bad_field setting ≡ None
setting_good = refl

setting_valid : (layout : Layout) → layout.config ≡ setting → is_valid layout ≡ true
unfolding is_valid
setting_valid layout e = ap (λ (config : Config). is_none (bad_field config)) e

run_free : (given : Given) (seat : ℕ) → given.config ≡ setting → seat < 4 → is_busy (given_world (with_line (commands.Run seat) given)) seat ≡ false
run_free given seat e h =
    ap (λ (all : List Item). is_busy (world_of (layout_of given) all) seat) (all_items-more given.config.seats given.lines (commands.Run seat))
    ∙ runs_end (layout_of given) (items given) seat (setting_valid (layout_of given) e) (subst (λ (config : Config). seat < config.seats) (sym e) h)

seat_low : (a : ℕ) → turn_seat a < 4
seat_low a = omega arith

units_low : (b : ℕ) → turn_units b ≤ 100000
units_low b = omega arith

units_some : (b : ℕ) → 1 ≤ turn_units b
units_some b = omega arith

-- the lines so far are taken, and the table that plays them is one of seats that stay
record Stays (given : Given) : Type 0 where
  config : given.config ≡ setting
  good : Good stays given
  reached : IsReached (played_of given).table
  table : (played_of given).table.layout ≡ layout_of given

seats_there : (given : Given) (seat : ℕ) → Stays given → seat < 4 → seat < (played_of given).table.layout.config.seats
seats_there given seat s h = subst (λ (layout : Layout). seat < layout.config.seats) (sym s.table) (subst (λ (config : Config). seat < config.seats) (sym s.config) h)

-- one line more, which makes such a table of such a one
stays_more : (line : Command) (given : Given) → Stays given → IsCommandWithin given.config line → (keeper stays).refuses line given ≡ None → IsReached (played line (played_of given)).table → (played line (played_of given)).table.layout ≡ (played_of given).table.layout → Stays (with_line line given)
stays_more line given s within free r same =
    let k : Taken stays line given = takes_line stays line given within free s.good in
    record {
      config = s.config;
      good = k.good;
      reached = subst (λ (p : Played). IsReached p.table) k.after r;
      table = ap (λ (p : Played). p.table.layout) (sym k.after) ∙ same ∙ s.table;
    }

-- a seat whose call was run to its end may begin another that is one of a seat that stays
call_free : (given : Given) (seat : ℕ) (call : Call) → Stays given → seat < 4 → is_busy (given_world given) seat ≡ false → stays call ≡ true → (keeper stays).refuses (commands.Call seat call) given ≡ None
call_free given seat call s h free stay =
    let good : Good stays given = s.good in
    let here : not (is_here (given_world given) seat) ≡ false = sym (gone_left (layout_of given) (given_made given) (played_of given) seat good.plays) ∙ reached_here (played_of given).table seat s.reached (seats_there given seat s h) in
    ap (λ (made : Bool). why_refused made (is_busy (given_world given) seat) (not (is_here (given_world given) seat))) stay ∙ ap₂ (why_refused true) free here

-- all lines for these words are taken
words_taken : (words : List ℕ) (given : Given) → Stays given → AreTaken stays given (commands_of words)
words_taken [] given s = (tt, refl, tt)
words_taken (a ∷ []) given s = (tt, refl, tt)
words_taken (a ∷ b ∷ words) given s =
    let seat : ℕ = turn_seat a in
    let call : Call = turn_call a b in
    let low : seat < given.config.seats = subst (λ (config : Config). seat < config.seats) (sym s.config) (seat_low a) in
    let fits = turn_fits given.config a b in
    let g1 : Given = with_line (commands.Run seat) given in
    let g2 : Given = with_line (commands.Call seat call) g1 in
    let g3 : Given = with_line (commands.Step seat (turn_units b)) g2 in
    let s1 : Stays g1 = stays_more (commands.Run seat) given s low refl (units_reached call_most seat (played_of given) s.reached (seats_there given seat s (seat_low a))) (layout_made call_most seat (played_of given)) in
    let idle : is_busy (given_world g1) seat ≡ false = run_free given seat s.config (seat_low a) in
    let free : (keeper stays).refuses (commands.Call seat call) g1 ≡ None = call_free g1 seat call s1 (seat_low a) idle (call_stays a b) in
    let good : Good stays g1 = s1.good in
    let playing : is_playing seat (played_of g1) ≡ false = playing_busy (layout_of g1) (given_made g1) (played_of g1) seat good.plays ∙ idle in
    let s2 : Stays g2 = stays_more (commands.Call seat call) g1 s1 (low, fits.0, fits.1) free
    (started_reached seat call (played_of g1) s1.reached (seats_there g1 seat s1 (seat_low a)) playing (call_may (played_of g1).table.layout.config a b) (call_stays a b)) refl in
    let s3 : Stays g3 = stays_more (commands.Step seat (turn_units b)) g2 s2 (low, units_some b, units_low b) refl
    (units_reached (turn_units b) seat (played_of g2) s2.reached (seats_there g2 seat s2 (seat_low a))) (layout_made (turn_units b) seat (played_of g2)) in
    (low, refl, ((low, fits.0, fits.1), free, ((low, units_some b, units_low b), refl, words_taken words g3 s3)))

none_taken : Stays (no_lines 1 setting)
none_taken = record { config = refl; good = good-opened stays 1 setting setting_good; reached = opened_reached setting setting_good; table = refl }

pub generated_taken : (seed turns : ℕ) → IsTaken stays (trace_of (generated seed turns))
generated_taken seed turns = record { config = setting_good; lines = words_taken (first_words pcg32 (2 * turns) (seeded seed)) (no_lines 1 setting) none_taken }

-- what a line tells comes last in the record
line_told : (given : Given) (line : Command) → Good stays given → Taken stays line given → past_entries (given_record (with_line line given)) ≡ past_entries (given_record given) ++ heard_of (played_out line (stripped (played_of given)))
line_told given line g t =
    let next : Good stays (with_line line given) = t.good in
    sym next.heard
    ∙ ap heard_of t.text
    ∙ heard_of-append (given_out given) (line_pieces line given)
    ∙ ap (λ (xs : List Entry). xs ++ heard_of (line_pieces line given)) g.heard
    ∙ ap (λ (ps : List Piece). past_entries (given_record given) ++ heard_of ps) (sym t.tells)
    ∙ ap (λ (xs : List Entry). past_entries (given_record given) ++ xs) (sym (strip_heard line (played_of given)))

lines_told_last : (lines : List Command) (given : Given) → AreTaken stays given lines → Good stays given
    → past_entries (given_record (with_lines lines given)) ≡ past_entries (given_record given) ++ heard_of (lines_told lines (stripped (played_of given)))
lines_told_last [] given t g = ap (λ (all : Given). past_entries (given_record all)) (with_no_lines given) ∙ sym (append-nil (past_entries (given_record given)))
lines_told_last (line ∷ lines) given t g =
    let k : Taken stays line given = takes_line stays line given t.0 t.1 g in
    let here : List Entry = heard_of (played_out line (stripped (played_of given))) in
    ap (λ (all : Given). past_entries (given_record all)) (sym (with_lines-first given line lines))
    ∙ lines_told_last lines (with_line line given) t.2 k.good
    ∙ ap (λ (xs : List Entry). xs ++ heard_of (lines_told lines (stripped (played_of (with_line line given))))) (line_told given line g k)
    ∙ append_assoc (past_entries (given_record given)) here (heard_of (lines_told lines (stripped (played_of (with_line line given)))))
    ∙ ap (λ (s : Played). past_entries (given_record given) ++ (here ++ heard_of (lines_told lines s))) (ap stripped (sym k.after) ∙ sym (strip_played line (played_of given)))
    ∙ ap (λ (xs : List Entry). past_entries (given_record given) ++ xs) (sym (heard_of-append (played_out line (stripped (played_of given))) (lines_told lines (played line (stripped (played_of given))))))

-- a whole trace
pub trace_told : (lines : List Command) → IsTaken stays (trace_of lines) → heard_of (lines_told lines (stripped (opened setting))) ≡ entries_of lines
trace_told lines t = sym (lines_told_last lines (no_lines 1 setting) t.lines (good-opened stays 1 setting t.config))

heard_is : (seed turns : ℕ) (s : Played) → s ≡ stripped (opened setting) → heard_of (lines_told (generated seed turns) s) ≡ entries_of (generated seed turns)
heard_is seed turns s e = ap (λ (t : Played). heard_of (lines_told (generated seed turns) t)) e ∙ trace_told (generated seed turns) (generated_taken seed turns)

-- what the watchers heard in a whole run, what was counted, and what they heard where one had no memory
pub generated_heard : {W : Type 0} (seen : Seen W) (a b : List W) (x y : Summary) (seed turns : ℕ) (s : Played) → s ≡ stripped (opened setting) → Tells seen a b x y (lines_told (generated seed turns) s) → Hears seen a b (entries_of (generated seed turns))
generated_heard seen a b x y seed turns s e t = subst (Hears seen a b) (heard_is seed turns s e) t.heard

pub generated_counted : {W : Type 0} (seen : Seen W) (a b : List W) (x y : Summary) (seed turns : ℕ) (s : Played) → s ≡ stripped (opened setting) → Counts x [] → Tells seen a b x y (lines_told (generated seed turns) s) → y ≡ summary_of (entries_of (generated seed turns))
generated_counted seen a b x y seed turns s e c t = t.counted [] c ∙ ap summary_of (heard_is seed turns s e)

pub generated_some : {W : Type 0} (seen : Seen W) (a b : List W) (seed turns : ℕ) (s : Played) → s ≡ stripped (opened setting) → HearsSome seen a b (heard_of (lines_told (generated seed turns) s)) → HearsSome seen a b (entries_of (generated seed turns))
generated_some seen a b seed turns s e h = subst (HearsSome seen a b) (heard_is seed turns s e) h
