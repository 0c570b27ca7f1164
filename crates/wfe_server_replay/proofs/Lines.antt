-- The lines of a trace, played on a table, are their one history of the model.
use Rattle.std.proofs.Common.{Bool, List, [], ap, ap₂, append-nil, append_assoc, arith, false, refl, subst, sym, true, ℕ, ◌++◌, ◌∙◌, ◌≡◌, ◌∷◌}
use Rattle.std.specs.Prelude.{None, not}
use Rattle.wfe_trace.specs.words.Config.{bad_field}
use Rattle.wfe_trace.specs.words.declared.config.Config.{Config}
use Rattle.wfe_trace.specs.words.declared.layout.Layout.{Layout}
use Rattle.wfe_outside.specs.defs.Entry.{Entry}
use Rattle.wfe_outside.specs.defs.declared.call.Call.{Call}
use Rattle.wfe_outside.specs.defs.declared.command.Command.{Command}
use Rattle.wfe_outside.specs.defs.declared.command.Command.TheVariants as commands
use Rattle.wfe_core.proofs.Facts.{true_of_not}
use Rattle.wfe_core.specs.Locals.{may_begin}
use Rattle.wfe_core.specs.World.{World, is_busy, is_here}
use Rattle.wfe_drive.specs.drive_cells.Unit.{Shows, is_gone}
use Rattle.wfe_drive.specs.history.History.{Begins, Item, Made, first_made, made_from, made_of}
use Rattle.wfe_server_out.specs.Pieces.{Piece, Text, heard_of}
use Rattle.wfe_server_out.proofs.Texts.{heard_of-append}
use Rattle.wfe_trace.specs.Body.{IsCommandWithin}
use Rattle.wfe_trace.specs.Record.{header_line}
use Rattle.wfe_server_replay.specs.Counts.{table_pieces}
use Rattle.wfe_server_replay.specs.Given.{AreTaken, Given, IsTaken, all_items, all_run, given_garbage, given_made, given_out, given_record, given_waiting, given_world, items_of, keeper, layout_of, line_pieces, lines_out, made_pieces, no_lines, past_entries, with_line}
use Rattle.wfe_server_replay.specs.Playing.{Played, call_most, is_playing, opened, played, played_out, player, seats_out, seats_run}
use Rattle.wfe_server_replay.specs.Trace.{why_refused}
use Rattle.wfe_server_replay.proofs.Entries.{heard_of-table_pieces, made_entries}
use Rattle.wfe_server_replay.proofs.Items.{may_fits, pieces_fit}
use Rattle.wfe_server_replay.proofs.Plays.{Agrees, MayFit, Plays, begin_fit, begin_plays, gone_left, opened_plays, playing_busy, seats_play, units_play}
use Rattle.wfe_drive.proofs.inv.Finish.{Goes, made_along}

-- the table after lines, in order
abbrev pub played_all : List Command → Played → Played
played_all [] s = s
played_all (line ∷ lines) s = played_all lines (played line s)

abbrev pub played_of : Given → Played
played_of given = played_all given.lines (opened given.config)

-- more lines
abbrev pub with_lines : List Command → Given → Given
with_lines lines given = record { version = given.version; config = given.config; lines = given.lines ++ lines }

given_lines : (given : Given) (lines : List Command) → lines ≡ given.lines → record { version = given.version; config = given.config; lines = lines } ≡ given
given_lines given lines e = ap (λ (ls : List Command). let g : Given = record { version = given.version; config = given.config; lines = ls } in g) e

pub with_no_lines : (given : Given) → with_lines [] given ≡ given
with_no_lines given = given_lines given (given.lines ++ []) (append-nil given.lines)

pub with_lines-first : (given : Given) (line : Command) (lines : List Command) → with_lines lines (with_line line given) ≡ with_lines (line ∷ lines) given
with_lines-first given line lines = ap (λ (ls : List Command). let g : Given = record { version = given.version; config = given.config; lines = ls } in g) (append_assoc given.lines (line ∷ []) lines)

-- one line more comes last
played_all-more : (lines : List Command) (line : Command) (s : Played) → played_all (lines ++ line ∷ []) s ≡ played line (played_all lines s)
played_all-more [] line s = refl
played_all-more (first ∷ lines) line s = played_all-more lines line (played first s)

pub all_items-more : (seats : ℕ) (lines : List Command) (line : Command) → all_items seats (lines ++ line ∷ []) ≡ all_items seats lines ++ items_of seats line
all_items-more seats [] line = append-nil (items_of seats line)
all_items-more seats (first ∷ lines) line =
    ap (λ (items : List Item). items_of seats first ++ items) (all_items-more seats lines line) ∙ sym (append_assoc (items_of seats first) (all_items seats lines) (items_of seats line))

made_more : (given : Given) (line : Command) → given_made (with_line line given) ≡ made_from (given_made given) (items_of given.config.seats line)
made_more given line =
    ap (made_of (layout_of given)) (all_items-more given.config.seats given.lines line) ∙ made_along (all_items given.config.seats given.lines) (items_of given.config.seats line) (first_made (layout_of given))

lines_out-more : (given : Given) (lines : List Command) (line : Command) → lines_out given (lines ++ line ∷ []) ≡ lines_out given lines ++ line_pieces line (with_lines lines given)
lines_out-more given [] line = append-nil (line_pieces line given) ∙ ap (line_pieces line) (sym (with_no_lines given))
lines_out-more given (first ∷ lines) line =
    ap (λ (ps : List Piece). line_pieces first given ++ ps) (lines_out-more (with_line first given) lines line)
    ∙ sym (append_assoc (line_pieces first given) (lines_out (with_line first given) lines) (line_pieces line (with_lines lines (with_line first given))))
    ∙ ap (λ (g : Given). (line_pieces first given ++ lines_out (with_line first given) lines) ++ line_pieces line g) (with_lines-first given first lines)

given_out-more : (given : Given) (line : Command) → given_out (with_line line given) ≡ given_out given ++ line_pieces line given
given_out-more given line = ap (λ (ps : List Piece). Text (header_line given.version given.config) ∷ ps) (lines_out-more (no_lines given.version given.config) given.lines line)

taken-more : (makes : Call → Bool) (given : Given) (lines : List Command) (line : Command) → AreTaken makes given lines → IsCommandWithin given.config line → (keeper makes).refuses line (with_lines lines given) ≡ None → AreTaken makes given (lines ++ line ∷ [])
taken-more makes given [] line taken within free = (within, subst (λ (g : Given). (keeper makes).refuses line g ≡ None) (with_no_lines given) free, tt)
taken-more makes given (first ∷ lines) line taken within free =
    (taken.0, taken.1, taken-more makes (with_line first given) lines line taken.2 within (subst (λ (g : Given). (keeper makes).refuses line g ≡ None) (sym (with_lines-first given first lines)) free))

-- a call that is not refused is made, and its seat is neither busy nor gone
pub record IsFree (made busy gone : Bool) : Type 0 where
  pub made_is : made ≡ true
  pub free : busy ≡ false
  pub here : gone ≡ false

pub is_free : (made busy gone : Bool) → why_refused made busy gone ≡ None → IsFree made busy gone
is_free true false false e = record { made_is = refl; free = refl; here = refl }
is_free true false true e = absurd (cc)
is_free true true gone e = absurd (cc)
is_free false busy gone e = absurd (cc)

-- what a line does to a table that plays the history so far
record LineKept (given : Given) (line : Command) (s after : Played) (out : List Piece) : Type 0 where
  plays : Plays (layout_of given) (made_from (given_made given) (items_of given.config.seats line)) after
  out_is : out ≡ line_pieces line given
  heard : heard_of (line_pieces line given) ≡ heard_of (made_pieces (given_made given) (items_of given.config.seats line))

-- a line of units
units_kept : (given : Given) (line : Command) (s after : Played) (out : List Piece) → line_pieces line given ≡ made_pieces (given_made given) (items_of given.config.seats line) → Agrees (layout_of given) (given_made given) (items_of given.config.seats line) after out → LineKept given line s after out
units_kept given line s after out is a = record { plays = a.plays; out_is = a.out_is ∙ sym is; heard = ap heard_of is }

seats_of : (given : Given) (s : Played) → Plays (layout_of given) (given_made given) s → s.table.layout.config.seats ≡ given.config.seats
seats_of given s p = ap (λ (layout : Layout). layout.config.seats) (sym p.shows.layout ∙ p.goes.table)

-- a call that is not refused may begin
may_fit : (makes : Call → Bool) (given : Given) (seat : ℕ) (call : Call) → Goes (layout_of given) (given_world given) → IsCommandWithin given.config (commands.Call seat call) → (keeper makes).refuses (commands.Call seat call) given ≡ None → MayFit (given_made given) seat call
may_fit makes given seat call goes within free =
    let w : World = given_world given in
    let r : IsFree (makes call) (is_busy w seat) (not (is_here w seat)) = is_free (makes call) (is_busy w seat) (not (is_here w seat)) free in
    record {
      free = r.free;
      here = true_of_not (is_here w seat) r.here;
      may = subst (λ (l : Layout). may_begin l.config call ≡ true) (sym goes.table) (may_fits given.config call within.1 within.2);
    }

line_kept : (makes : Call → Bool) (given : Given) (line : Command) (s : Played) → Plays (layout_of given) (given_made given) s → IsCommandWithin given.config line → (keeper makes).refuses line given ≡ None → LineKept given line s (played line s) (played_out line s)
line_kept makes given (commands.Call seat call) s p within free =
    let may : MayFit (given_made given) seat call = may_fit makes given seat call p.goes within free in
    record {
      plays = begin_plays (layout_of given) (given_made given) s seat call p within.0 may;
      out_is = refl;
      heard = ap (λ (ps : List Piece). heard_of (ps ++ [])) (sym (pieces_fit (given_made given) (Begins seat call) _ (begin_fit (layout_of given) (given_made given) seat call p.goes within.0 may)));
    }
line_kept makes given (commands.Step seat units) s p within free = units_kept given (commands.Step seat units) s _ _ refl (units_play units seat (layout_of given) (given_made given) s within.0 p)
line_kept makes given (commands.Run seat) s p within free = units_kept given (commands.Run seat) s _ _ refl (units_play call_most seat (layout_of given) (given_made given) s within p)
line_kept makes given commands.Table s p within free = record {
  plays = p;
  out_is = ap₂ table_pieces p.garbage p.waiting;
  heard = heard_of-table_pieces (given_garbage given) (given_waiting given);
}
line_kept makes given commands.End s p within free =
    units_kept given commands.End s _ _ refl
    (subst (λ (n : ℕ). Agrees (layout_of given) (given_made given) (all_run given.config.seats) (seats_run n s) (seats_out n s)) (sym (seats_of given s p))
    (seats_play given.config.seats (layout_of given) (given_made given) s (omega arith) p))

-- the lines so far were taken, the table plays their history, and what was put out told its record
pub record Good (makes : Call → Bool) (given : Given) : Type 0 where
  pub taken : IsTaken makes given
  pub plays : Plays (layout_of given) (given_made given) (played_of given)
  pub heard : heard_of (given_out given) ≡ past_entries (given_record given)

pub good-opened : (makes : Call → Bool) (version : ℕ) (config : Config) → bad_field config ≡ None → Good makes (no_lines version config)
good-opened makes version config h = record { taken = record { config = h; lines = tt }; plays = opened_plays config h; heard = refl }

-- one line more is taken, and played as it is kept
pub record Taken (makes : Call → Bool) (line : Command) (given : Given) : Type 0 where
  pub good : Good makes (with_line line given)
  pub after : played line (played_of given) ≡ played_of (with_line line given)
  pub tells : played_out line (played_of given) ≡ line_pieces line given
  pub text : given_out (with_line line given) ≡ given_out given ++ line_pieces line given

heard_more : (given : Given) (line : Command) → heard_of (line_pieces line given) ≡ heard_of (made_pieces (given_made given) (items_of given.config.seats line)) → heard_of (given_out given) ≡ past_entries (given_record given)
    → heard_of (given_out (with_line line given)) ≡ past_entries (given_record (with_line line given))
heard_more given line here before =
    ap heard_of (given_out-more given line)
    ∙ heard_of-append (given_out given) (line_pieces line given)
    ∙ ap (λ (xs : List Entry). xs ++ heard_of (line_pieces line given)) before
    ∙ ap (λ (xs : List Entry). past_entries (given_record given) ++ xs) here
    ∙ sym (made_entries (items_of given.config.seats line) (given_made given))
    ∙ ap (λ (m : Made). past_entries m.past) (sym (made_more given line))

pub takes_line : (makes : Call → Bool) (line : Command) (given : Given) → IsCommandWithin given.config line → (keeper makes).refuses line given ≡ None → Good makes given → Taken makes line given
takes_line makes line given within free g =
    let k : LineKept given line (played_of given) (played line (played_of given)) (played_out line (played_of given)) = line_kept makes given line (played_of given) g.plays within free in
    let t : IsTaken makes given = g.taken in
    let after : played line (played_of given) ≡ played_of (with_line line given) = sym (played_all-more given.lines line (opened given.config)) in
    record {
      good = record {
        taken = record { config = t.config; lines = taken-more makes (no_lines given.version given.config) given.lines line t.lines within free };
        plays = subst (λ (s : Played). Plays (layout_of given) (given_made (with_line line given)) s) after (subst (λ (m : Made). Plays (layout_of given) m (played line (played_of given))) (sym (made_more given line)) k.plays);
        heard = heard_more given line k.heard g.heard;
      };
      after = after;
      tells = k.out_is;
      text = given_out-more given line;
    }

-- both refuse the same lines
pub refused_same : (makes : Call → Bool) (line : Command) (given : Given) → Good makes given → (player makes).refuses line (played_of given) ≡ (keeper makes).refuses line given
refused_same makes (commands.Call seat call) given g =
    ap₂ (why_refused (makes call)) (playing_busy (layout_of given) (given_made given) (played_of given) seat g.plays) (gone_left (layout_of given) (given_made given) (played_of given) seat g.plays)
refused_same makes (commands.Step seat units) given g = refl
refused_same makes (commands.Run seat) given g = refl
refused_same makes commands.Table given g = refl
refused_same makes commands.End given g = refl

-- lines that are taken, one after another
good_along : (makes : Call → Bool) (lines : List Command) (given : Given) → AreTaken makes given lines → Good makes given → Good makes (with_lines lines given)
good_along makes [] given t g = subst (Good makes) (sym (with_no_lines given)) g
good_along makes (line ∷ lines) given t g = let k : Taken makes line given = takes_line makes line given t.0 t.1 g in subst (Good makes) (with_lines-first given line lines) (good_along makes lines (with_line line given) t.2 k.good)

pub good_taken : (makes : Call → Bool) (given : Given) → IsTaken makes given → Good makes given
good_taken makes given t = good_along makes given.lines (no_lines given.version given.config) t.lines (good-opened makes given.version given.config t.config)

-- what the table does with the lines is what the history does
pub record Kept (makes : Call → Bool) (given : Given) : Type 0 where
  pub shows : Shows (played_of given).table (given_world given)
  pub garbage : (played_of given).garbage ≡ given_garbage given
  pub waiting : (played_of given).waiting ≡ given_waiting given
  pub busy : (seat : ℕ) → is_playing seat (played_of given) ≡ is_busy (given_world given) seat
  pub gone : (seat : ℕ) → is_gone (played_of given).table seat ≡ not (is_here (given_world given) seat)
  pub out : (line : Command) → IsCommandWithin given.config line → (keeper makes).refuses line given ≡ None → played_out line (played_of given) ≡ line_pieces line given
  pub heard : heard_of (given_out given) ≡ past_entries (given_record given)

pub good-kept : (makes : Call → Bool) (given : Given) → Good makes given → Kept makes given
good-kept makes given g = record {
  shows = g.plays.shows;
  garbage = g.plays.garbage;
  waiting = g.plays.waiting;
  busy = λ seat. playing_busy (layout_of given) (given_made given) (played_of given) seat g.plays;
  gone = λ seat. gone_left (layout_of given) (given_made given) (played_of given) seat g.plays;
  out = λ line within free. let k : Taken makes line given = takes_line makes line given within free g in k.tells;
  heard = g.heard;
}

pub kept : (makes : Call → Bool) (given : Given) → IsTaken makes given → Kept makes given
kept makes given t = good-kept makes given (good_taken makes given t)
