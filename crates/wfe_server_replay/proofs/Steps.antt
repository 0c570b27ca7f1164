-- A trace under the table and under the keeper of its lines: a line does the same to both.
use Rattle.std.proofs.Common.{Bool, Err, List, None, Ok, Option, Result, Some, [], ap, append-nil, false, is_some, refl, subst, sym, true, true≢false, ℕ, ◌++◌, ◌∙◌, ◌≡◌, ◌∷◌}
use Rattle.wfe_trace.specs.words.Config.{bad_field}
use Rattle.wfe_trace.specs.words.declared.config.Config.{Config}
use Rattle.wfe_trace.specs.words.declared.config.Field.{Field}
use Rattle.wfe_trace.specs.words.declared.config.Field.TheVariants as fields
use Rattle.wfe_outside.specs.defs.declared.command.Command.{Command}
use Rattle.wfe_server_out.specs.Pieces.{Piece, Text}
use Rattle.wfe_trace.specs.declared.item.Item.{Item}
use Rattle.wfe_trace.specs.declared.item.Item.TheVariants as items
use Rattle.wfe_trace.specs.declared.item.Stage.{Stage}
use Rattle.wfe_trace.specs.declared.item.Stage.TheVariants as stages
use Rattle.wfe_trace.specs.declared.reason.BadLine.{BadLine}
use Rattle.wfe_trace.specs.declared.reason.Reason.{Reason}
use Rattle.wfe_trace.specs.Body.{IsCommandWithin}
use Rattle.wfe_trace.specs.Good.{IsRead, is_body}
use Rattle.wfe_trace.specs.Reading.{Reading, after_field, config_after, judged, reading_after, stage_after}
use Rattle.wfe_trace.specs.Record.{header_line}
use Rattle.wfe_trace.proofs.Judged.{judged-read}
use Rattle.wfe_server_replay.specs.Given.{Given, keeper, partial_out}
use Rattle.wfe_server_replay.specs.Playing.{Played, player}
use Rattle.wfe_server_replay.specs.Trace.{Progress, bad_line, is_end, judged_item, line_item, line_out, line_taken, unless_refused}
use Rattle.wfe_server_replay.proofs.Lines.{Good, Taken, good-opened, played_of, refused_same, takes_line}
use Rattle.wfe_outside.specs.defs.declared.call.Call.{Call}

-- the table in place of the keeper
abbrev pub mapped_engine : Option Given → Option Played
mapped_engine None = None
mapped_engine (Some given) = Some (played_of given)

abbrev pub mapped : Progress Given → Progress Played
mapped p = record { reading = p.reading; line = p.line; count = p.count; ended = p.ended; engine = mapped_engine p.engine }

abbrev pub mapped_result : Result (Progress Given) BadLine → Result (Progress Played) BadLine
mapped_result (Ok p) = Ok (mapped p)
mapped_result (Err bad) = Err bad

-- the keeper is good, and has this setting
abbrev pub GoodIn : (makes : Call → Bool) → Config → Option Given → Type 0
GoodIn makes config None = Unit {0}
GoodIn makes config (Some given) = Good makes given × (given.config ≡ config)

-- the setting is in its ranges, and the keeper is there from the line `begin` on, and good
pub record Sound (makes : Call → Bool) (p : Progress Given) : Type 0 where
  pub held : bad_field p.reading.config ≡ None
  pub opened : is_some p.engine ≡ is_body p.reading.stage
  pub ended : p.ended ≡ true → is_some p.engine ≡ true
  pub good : GoodIn makes p.reading.config p.engine

-- after a line that is not bad the keeper is good still, and its text has what the line put out
abbrev pub Follows : (makes : Call → Bool) → Progress Given → List Piece → Result (Progress Given) BadLine → Type 0
Follows makes p out (Err bad) = Unit {0}
Follows makes p out (Ok q) = Sound makes q × (partial_out q.engine ≡ partial_out p.engine ++ out)

-- what a line says to each, and that both do the same
pub record OneLine (makes : Call → Bool) (p : Progress Given) (to_table to_keeper : Result Item BadLine) : Type 0 where
  pub after : line_taken (player makes) (mapped p) to_table ≡ mapped_result (line_taken (keeper makes) p to_keeper)
  pub output : line_out (player makes) (mapped p) to_table ≡ line_out (keeper makes) p to_keeper
  pub follows : Follows makes p (line_out (keeper makes) p to_keeper) (line_taken (keeper makes) p to_keeper)

bad-line : (makes : Call → Bool) (p : Progress Given) (bad : BadLine) → OneLine makes p (Err bad) (Err bad)
bad-line makes p bad = record { after = refl; output = refl; follows = tt }

-- only the lines before `begin` change the setting
field-not_begin : (field : Field) → is_body (after_field field) ≡ true → ⊥
field-not_begin fields.Seats h = true≢false (sym h)
field-not_begin fields.Indexes h = true≢false (sym h)
field-not_begin fields.Slots h = true≢false (sym h)
field-not_begin fields.Buckets h = true≢false (sym h)
field-not_begin fields.Tries h = true≢false (sym h)
field-not_begin fields.Every h = true≢false (sym h)
field-not_begin fields.LastEra h = true≢false (sym h)
field-not_begin fields.LastVersion h = true≢false (sym h)
field-not_begin fields.Pairs h = true≢false (sym h)

config-body : (stage : Stage) (config : Config) (bytes : List ℕ) → is_body (stage_after stage) ≡ true → config ≡ config_after stage config bytes
config-body stages.First config bytes h = absurd (true≢false (sym h))
config-body stages.Scheme config bytes h = absurd (true≢false (sym h))
config-body (stages.Number field) config bytes h = absurd (field-not_begin field h)
config-body stages.Begin config bytes h = refl
config-body stages.Body config bytes h = refl

-- a line of the setting
none_good : (makes : Call → Bool) (before after : Config) (engine : Option Given) → is_some engine ≡ false → GoodIn makes before engine → GoodIn makes after engine
none_good makes before after None none g = tt
none_good makes before after (Some given) none g = absurd (true≢false none)

setting-line : (makes : Call → Bool) (p : Progress Given) → Sound makes p → IsRead p.reading p.reading.stage p.line items.Setting → OneLine makes p (Ok items.Setting) (Ok items.Setting)
setting-line makes p s r = record {
  after = refl;
  output = refl;
  follows = (
    record {
      held = r.within s.held;
      opened = s.opened ∙ r.placed.0 ∙ sym r.placed.1;
      ended = s.ended;
      good = none_good makes p.reading.config (config_after p.reading.stage p.reading.config p.line) p.engine (s.opened ∙ r.placed.0) s.good;
    },
    sym (append-nil (partial_out p.engine)),
  );
}

-- the line `begin`
opened_out : (header : List ℕ) (engine : Option Given) → is_some engine ≡ false → Text header ∷ [] ≡ partial_out engine ++ Text header ∷ []
opened_out header None none = refl
opened_out header (Some given) none = absurd (true≢false none)

ready-line : (makes : Call → Bool) (p : Progress Given) (version : ℕ) (config : Config) → Sound makes p → IsRead p.reading p.reading.stage p.line (items.Ready version config) →
    OneLine makes p (Ok (items.Ready version config)) (Ok (items.Ready version config))
ready-line makes p version config s r =
    let held : bad_field config ≡ None = subst (λ (c : Config). bad_field c ≡ None) (sym r.placed.2) s.held in
    record {
      after = refl;
      output = refl;
      follows = (
        record {
          held = r.within s.held;
          opened = sym r.placed.1;
          ended = λ ended. refl;
          good = (good-opened makes version config held, r.placed.2 ∙ config-body p.reading.stage p.reading.config p.line r.placed.1);
        },
        opened_out (header_line version config) p.engine (s.opened ∙ r.placed.0),
      );
    }

-- a line of the body
command_done : (makes : Call → Bool) (r : Reading) (line : List ℕ) (n : ℕ) (ended : Bool) (given : Given) (c : Command) → IsRead r r.stage line (items.Command c) → bad_field r.config ≡ None → given.config ≡ r.config → Taken makes c given →
    OneLine makes (record { reading = r; line = line; count = n; ended = ended; engine = Some given }) (Ok (items.Command c)) (Ok (items.Command c))
command_done makes r line n ended given c read held same t = record {
  after = ap (λ (s : Played). let q : Progress Played = record { reading = reading_after r line; line = []; count = n; ended = is_end c; engine = Some s } in
      let good : Result (Progress Played) BadLine = Ok q in good) t.after;
  output = t.tells;
  follows = (
    record { held = read.within held; opened = sym read.placed.1; ended = λ ended. refl; good = (t.good, same ∙ config-body r.stage r.config line read.placed.1) },
    t.text,
  );
}

-- both refuse a line, or neither does
refused-line : (makes : Call → Bool) (p : Progress Given) (item : Item) (why : Option Reason) → (why ≡ None → OneLine makes p (Ok item) (Ok item)) → OneLine makes p (unless_refused (mapped p) item why) (unless_refused p item why)
refused-line makes p item (Some reason) good = bad-line makes p (bad_line p reason)
refused-line makes p item None good = good refl

-- a trace at a line, with this keeper
abbrev at_line : Reading → List ℕ → ℕ → Bool → Option Given → Progress Given
at_line r line n ended engine = record { reading = r; line = line; count = n; ended = ended; engine = engine }

command-line : (makes : Call → Bool) (r : Reading) (line : List ℕ) (n : ℕ) (ended : Bool) (engine : Option Given) (c : Command) → IsRead r r.stage line (items.Command c) → Sound makes (at_line r line n ended engine) →
    OneLine makes (at_line r line n ended engine) (judged_item (player makes) (mapped (at_line r line n ended engine)) (Ok (items.Command c))) (judged_item (keeper makes) (at_line r line n ended engine) (Ok (items.Command c)))
command-line makes r line n ended None c read sound = absurd (true≢false (sym (sound.opened ∙ read.placed.0)))
command-line makes r line n ended (Some given) c read sound =
    let same : given.config ≡ r.config = sound.good.1 in
    let within : IsCommandWithin given.config c = subst (λ (config : Config). IsCommandWithin config c) (sym same) read.placed.2 in
    subst (λ (why : Option Reason). OneLine makes (at_line r line n ended (Some given)) (unless_refused (mapped (at_line r line n ended (Some given))) (items.Command c) why) (unless_refused (at_line r line n ended (Some given)) (items.Command c) ((keeper makes).refuses c given))) (sym (refused_same makes c given sound.good.0))
    (refused-line makes (at_line r line n ended (Some given)) (items.Command c) ((keeper makes).refuses c given)
    (λ free. command_done makes r line n ended given c read sound.held same (takes_line makes c given within free sound.good.0)))

-- the line under way
found-line : (makes : Call → Bool) (p : Progress Given) (item : Item) → Sound makes p → IsRead p.reading p.reading.stage p.line item → OneLine makes p (judged_item (player makes) (mapped p) (Ok item)) (judged_item (keeper makes) p (Ok item))
found-line makes p items.Setting s read = setting-line makes p s read
found-line makes p (items.Ready version config) s read = ready-line makes p version config s read
found-line makes p (items.Command c) s read = command-line makes p.reading p.line p.count p.ended p.engine c read s

judged-line : (makes : Call → Bool) (p : Progress Given) (found : Result Item Reason) → judged p.reading p.line ≡ found → Sound makes p → OneLine makes p (judged_item (player makes) (mapped p) found) (judged_item (keeper makes) p found)
judged-line makes p (Ok item) is s = found-line makes p item s (judged-read p.reading p.line item is)
judged-line makes p (Err reason) is s = bad-line makes p (bad_line p reason)

pub one-line : (makes : Call → Bool) (p : Progress Given) → Sound makes p → OneLine makes p (line_item (player makes) (mapped p)) (line_item (keeper makes) p)
one-line makes p s = judged-line makes p (judged p.reading p.line) refl s
