-- The lines of a trace before its first bad one: they are taken, and what was put out is their record.
use Rattle.std.proofs.Common.{ℕ, ◌≡◌, ◌==◌, Bool, true, false, List, [], ◌∷◌, ◌++◌, length, Option, Some, None, Result, Ok, Err, if◌then◌else◌, refl, sym, ap, ◌∙◌, subst, append_assoc, append-nil}
use Rattle.wfe_server_out.specs.Pieces.{Piece}
use Rattle.wfe_trace.specs.declared.item.Item.{Item}
use Rattle.wfe_trace.specs.declared.item.Mode.TheVariants as modes
use Rattle.wfe_trace.specs.declared.reason.BadLine.{BadLine}
use Rattle.wfe_trace.specs.declared.reason.Reason.{Reason}
use Rattle.wfe_trace.specs.words.declared.config.Config.{Config}
use Rattle.wfe_server_replay.specs.Given.{Given, IsTakenIn, keeper, partial_out}
use Rattle.wfe_server_replay.specs.Replay.{all_lines, came, closed_lines}
use Rattle.wfe_server_replay.specs.Trace.{Engine, Progress, after_byte, after_bytes, after_good_byte, after_last, after_line, byte_output, byte_refused, bytes_output, counted, go_on, good_byte_output, good_bytes, good_trace, last_output, line_item, line_out, line_output, line_taken, lines_output, output_of, progress_start}
use Rattle.wfe_server_replay.proofs.Bytes.{after_bytes-bad, bytes_output-bad}
use Rattle.wfe_server_replay.proofs.Steps.{Follows, GoodIn, Sound}
use Rattle.wfe_server_replay.proofs.Streams.{last-line, one-byte, start-sound}
use Rattle.wfe_outside.specs.defs.declared.call.Call.{Call}

-- a bad line puts nothing out
line_quiet : {S : Type 0} (E : Engine S) (p : Progress S) (bad : BadLine) (r : Result Item BadLine) → line_taken E p r ≡ Err bad → line_out E p r ≡ []
line_quiet E p bad (Err e) h = refl
line_quiet E p bad (Ok item) h = absurd (cc)

feed_quiet : {S : Type 0} (E : Engine S) (p q : Progress S) (bad : BadLine) (feed : Bool) → (if feed then after_line E (counted p) else Ok q) ≡ Err bad → (if feed then line_output E (counted p) else []) ≡ []
feed_quiet E p q bad true h = line_quiet E (counted p) bad (line_item E (counted p)) h
feed_quiet E p q bad false h = refl

byte_quiet_in : {S : Type 0} (E : Engine S) (p : Progress S) (b : ℕ) (bad : BadLine) (o : Option Reason) → after_good_byte E p b o ≡ Err bad → good_byte_output E p b o ≡ []
byte_quiet_in E p b bad (Some reason) h = refl
byte_quiet_in E p b bad None h = feed_quiet E p (record (counted p) { line = p.line ++ b ∷ [] }) bad (b == 10) h

byte_quiet : {S : Type 0} (E : Engine S) (p : Progress S) (b : ℕ) (bad : BadLine) → after_byte E p b ≡ Err bad → byte_output E p b ≡ []
byte_quiet E p b bad h = byte_quiet_in E p b bad (byte_refused p b) h

last_quiet_in : {S : Type 0} (E : Engine S) (p : Progress S) (bad : BadLine) (none : Bool) → (if none then Ok p else after_line E p) ≡ Err bad → (if none then [] else line_output E p) ≡ []
last_quiet_in E p bad true h = refl
last_quiet_in E p bad false h = line_quiet E p bad (line_item E p) h

last_quiet : {S : Type 0} (E : Engine S) (p : Progress S) (bad : BadLine) → after_last E p ≡ Err bad → last_output E p ≡ []
last_quiet E p bad h = last_quiet_in E p bad (length p.line == 0) h

-- a part of a trace, and the record of its lines
record Part (makes : Call → Bool) (q : Progress Given) (text : List Piece) : Type 0 where
  sound : Sound makes q
  shown : partial_out q.engine ≡ text

-- nothing more was put out
part_still : (makes : Call → Bool) (p : Progress Given) (text out : List Piece) → Sound makes p → partial_out p.engine ≡ text → out ≡ [] → Part makes p (text ++ out)
part_still makes p text out s is none = record { sound = s; shown = is ∙ sym (append-nil text) ∙ ap (λ (t : List Piece). text ++ t) (sym none) }

-- one byte more, or the first that is bad
byte_part : (makes : Call → Bool) (p : Progress Given) (b : ℕ) (bs : List ℕ) (text : List Piece) (r : Result (Progress Given) BadLine) → after_byte (keeper makes) p b ≡ r → Sound makes p → partial_out p.engine ≡ text → Follows makes p (byte_output (keeper makes) p b) r →
    ((q : Progress Given) → Sound makes q → partial_out q.engine ≡ text ++ byte_output (keeper makes) p b → Part makes (good_bytes (keeper makes) q bs) ((text ++ byte_output (keeper makes) p b) ++ bytes_output (keeper makes) (Ok q) bs)) →
    Part makes (go_on (λ q. good_bytes (keeper makes) q bs) p r) (text ++ (byte_output (keeper makes) p b ++ bytes_output (keeper makes) r bs))
byte_part makes p b bs text (Ok q) e s is f next =
    subst (Part makes (good_bytes (keeper makes) q bs)) (append_assoc text (byte_output (keeper makes) p b) (bytes_output (keeper makes) (Ok q) bs)) (next q f.0 (f.1 ∙ ap (λ (t : List Piece). t ++ byte_output (keeper makes) p b) is))
byte_part makes p b bs text (Err bad) e s is f next =
    part_still makes p text (byte_output (keeper makes) p b ++ bytes_output (keeper makes) (Err bad) bs) s is (ap (λ (t : List Piece). t ++ bytes_output (keeper makes) (Err bad) bs) (byte_quiet (keeper makes) p b bad e) ∙ bytes_output-bad (keeper makes) bad bs)

bytes_part : (makes : Call → Bool) (p : Progress Given) (bs : List ℕ) (text : List Piece) → Sound makes p → partial_out p.engine ≡ text → Part makes (good_bytes (keeper makes) p bs) (text ++ bytes_output (keeper makes) (Ok p) bs)
bytes_part makes p [] text s is = part_still makes p text [] s is refl
bytes_part makes p (b ∷ bs) text s is = byte_part makes p b bs text (after_byte (keeper makes) p b) refl s is (one-byte makes p b s).follows (λ q t e. bytes_part makes q bs (text ++ byte_output (keeper makes) p b) t e)

came_part : (makes : Call → Bool) (taken : List ℕ) → Part makes (good_bytes (keeper makes) (progress_start modes.Replay) taken) (bytes_output (keeper makes) (Ok (progress_start modes.Replay)) taken)
came_part makes taken = bytes_part makes (progress_start modes.Replay) taken [] (start-sound makes modes.Replay) refl

-- where no byte is bad, all of them are the good ones
good_from : {S : Type 0} (E : Engine S) (p q : Progress S) (bs : List ℕ) (r : Result (Progress S) BadLine) → ((m : Progress S) → after_bytes E (Ok m) bs ≡ Ok q → good_bytes E m bs ≡ q) → after_bytes E r bs ≡ Ok q → go_on (λ m. good_bytes E m bs) p r ≡ q
good_from E p q bs (Ok m) next h = next m h
good_from E p q bs (Err bad) next h = let never : Err bad ≡ Ok q = sym (after_bytes-bad E bad bs) ∙ h in absurd (cc)

good_all : {S : Type 0} (E : Engine S) (p q : Progress S) (bs : List ℕ) → after_bytes E (Ok p) bs ≡ Ok q → good_bytes E p bs ≡ q
good_all E p q [] h = cc
good_all E p q (b ∷ bs) h = good_from E p q bs (after_byte E p b) (λ m g. good_all E m q bs g) h

-- the last line, which the end closes
last_part_in : (makes : Call → Bool) (p : Progress Given) (text : List Piece) (r : Result (Progress Given) BadLine) → after_last (keeper makes) p ≡ r → Sound makes p → partial_out p.engine ≡ text → Follows makes p (last_output (keeper makes) p) r → Part makes (go_on (λ q. q) p r) (text ++ last_output (keeper makes) p)
last_part_in makes p text (Ok q) e s is f = record { sound = f.0; shown = f.1 ∙ ap (λ (t : List Piece). t ++ last_output (keeper makes) p) is }
last_part_in makes p text (Err bad) e s is f = part_still makes p text (last_output (keeper makes) p) s is (last_quiet (keeper makes) p bad e)

last_part : (makes : Call → Bool) (p : Progress Given) (text : List Piece) → Part makes p text → Part makes (go_on (λ q. q) p (after_last (keeper makes) p)) (text ++ last_output (keeper makes) p)
last_part makes p text part = last_part_in makes p text (after_last (keeper makes) p) refl part.sound part.shown (last-line makes p part.sound).follows

trace_part_in : (makes : Call → Bool) (taken : List ℕ) (r : Result (Progress Given) BadLine) → came makes taken ≡ r →
    Part makes (go_on (λ p. go_on (λ q. q) p (after_last (keeper makes) p)) (good_bytes (keeper makes) (progress_start modes.Replay) taken) r) (bytes_output (keeper makes) (Ok (progress_start modes.Replay)) taken ++ output_of (last_output (keeper makes)) r)
trace_part_in makes taken (Ok p) e =
    last_part makes p (bytes_output (keeper makes) (Ok (progress_start modes.Replay)) taken)
    (subst (λ (q : Progress Given). Part makes q (bytes_output (keeper makes) (Ok (progress_start modes.Replay)) taken)) (good_all (keeper makes) (progress_start modes.Replay) p taken e) (came_part makes taken))
trace_part_in makes taken (Err bad) e =
    let part = came_part makes taken in
    part_still makes (good_bytes (keeper makes) (progress_start modes.Replay) taken) (bytes_output (keeper makes) (Ok (progress_start modes.Replay)) taken) [] part.sound part.shown refl

trace_part : (makes : Call → Bool) (taken : List ℕ) → Part makes (good_trace (keeper makes) modes.Replay taken) (lines_output (keeper makes) modes.Replay taken)
trace_part makes taken = trace_part_in makes taken (came makes taken) refl

taken_of : (makes : Call → Bool) (config : Config) (engine : Option Given) → GoodIn makes config engine → IsTakenIn makes engine
taken_of makes config None g = tt
taken_of makes config (Some given) g = g.0.taken

sound_taken : (makes : Call → Bool) (p : Progress Given) → Sound makes p → IsTakenIn makes p.engine
sound_taken makes p s = taken_of makes p.reading.config p.engine s.good

pub closed_taken : (makes : Call → Bool) (taken : List ℕ) → IsTakenIn makes (closed_lines makes taken)
closed_taken makes taken = sound_taken makes (good_bytes (keeper makes) (progress_start modes.Replay) taken) (came_part makes taken).sound

pub all_taken : (makes : Call → Bool) (taken : List ℕ) → IsTakenIn makes (all_lines makes taken)
all_taken makes taken = sound_taken makes (good_trace (keeper makes) modes.Replay taken) (trace_part makes taken).sound

-- what was put out is the record of the lines that were closed, and of all
pub closed_output : (makes : Call → Bool) (taken : List ℕ) → bytes_output (keeper makes) (Ok (progress_start modes.Replay)) taken ≡ partial_out (closed_lines makes taken)
closed_output makes taken = sym (came_part makes taken).shown

pub all_output : (makes : Call → Bool) (taken : List ℕ) → lines_output (keeper makes) modes.Replay taken ≡ partial_out (all_lines makes taken)
all_output makes taken = sym (trace_part makes taken).shown
