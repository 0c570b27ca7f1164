-- Units of a seat, lines of a turn and turns, one after the other.
use Rattle.std.proofs.Common.{List, [], ap, append-nil, append_assoc, arith, false, refl, subst, suc, sym, true, ℕ, ◌*◌, ◌+◌, ◌++◌, ◌-◌, ◌<◌, ◌≤◌, ◌∙◌, ◌≡◌, ◌∷◌}
use Rattle.std.specs.Prelude.{Err, Ok, OnErr, OnOk, Result}
use Rattle.rand_core.specs.Steps.{first_words}
use Rattle.rand_pcg.specs.Lcg.{Lcg}
use Rattle.rand_pcg.specs.Pcg.{pcg32}
use Rattle.wfe_trace.specs.words.declared.layout.Layout.{Layout}
use Rattle.wfe_outside.specs.defs.Entry.{entry}
use Rattle.wfe_outside.specs.defs.declared.command.Command.{Command}
use Rattle.wfe_outside.specs.defs.declared.command.Command.TheVariants as commands
use Rattle.wfe_outside.specs.defs.declared.event.Event.TheVariants as events
use Rattle.wfe_outside.specs.defs.declared.call.Call.{Call}
use Rattle.wfe_server_replay.specs.drive.Reached.{units_left}
use Rattle.wfe_server_out.specs.Heard.{HearsSome, Seen}
use Rattle.wfe_server_out.specs.Pieces.{Piece, Told, heard_of}
use Rattle.wfe_server_out.proofs.Hearing.{hears_some_more, hears_then_some}
use Rattle.wfe_server_out.proofs.Texts.{heard_of-append}
use Rattle.wfe_server_replay.specs.Playing.{Played, call_most, is_playing, played, played_out, seats_out, seats_run, started, unit_made, unit_out, units_made, units_out}
use Rattle.wfe_server_replay.proofs.Units.{layout_made, few, ended_made, ended_out}
use Rattle.wfe_server_gen.specs.declared.summary.Summary.{Summary}
use Rattle.wfe_server_gen.specs.declared.turn.Turn.{Turn}
use Rattle.wfe_server_gen.specs.Tally.{Tells, lines_made, lines_told}
use Rattle.wfe_server_gen.specs.Turns.{commands_of, generated, seeded, turn_call, turn_commands, turn_seat, turn_units}
use Rattle.wfe_server_gen.proofs.Going.{Going, going_all, going_fails, going_more, going_none, tells_along}
use Rattle.wfe_core.proofs.Facts.{one_is_suc, if_true}
use Rattle.wfe_server_replay.proofs.Seats.{rest_after}

-- of so many units so many are left, and what the others tell was told
pub record Running {W : Type 0} (seen : Seen W) (a b : List W) (x y : Summary) (most left seat : ℕ) (s t : Played) : Type 0 where
  pub made : units_made most seat s ≡ units_made left seat t
  pub table : t.table.layout ≡ s.table.layout
  pub goes : Going seen a b x y (units_out most seat s) (units_out left seat t)

pub running_none : {W : Type 0} (seen : Seen W) (ws : List W) (x : Summary) (most left seat : ℕ) (s : Played) → most ≡ left → Running seen ws ws x x most left seat s s
running_none seen ws x most left seat s e = record {
  made = ap (λ (n : ℕ). units_made n seat s) e;
  table = refl;
  goes = subst (λ (n : ℕ). Going seen ws ws x x (units_out most seat s) (units_out n seat s)) e (going_none seen ws x (units_out most seat s));
}

next_out : (left more seat : ℕ) (t : Played) → left ≡ suc more → is_playing seat t ≡ true → units_out left seat t ≡ unit_out t seat ++ units_out more seat (unit_made t seat)
next_out left more seat t e b = ap (λ (n : ℕ). units_out n seat t) e ∙ if_true (is_playing seat t) (unit_out t seat ++ units_out more seat (unit_made t seat)) [] b

next_made : (left more seat : ℕ) (t : Played) → left ≡ suc more → is_playing seat t ≡ true → units_made left seat t ≡ units_made more seat (unit_made t seat)
next_made left more seat t e b = ap (λ (n : ℕ). units_made n seat t) e ∙ if_true (is_playing seat t) (units_made more seat (unit_made t seat)) t b

-- a unit more
pub running_more : {W : Type 0} (seen : Seen W) (a b c : List W) (x y z : Summary) (most left more seat : ℕ) (s t u : Played) → left ≡ suc more → is_playing seat t ≡ true → u ≡ unit_made t seat
    → Running seen a b x y most left seat s t → Tells seen b c y z (unit_out t seat) → Running seen a c x z most more seat s u
running_more seen a b c x y z most left more seat s t u e busy m r h =
    subst (Running seen a c x z most more seat s) (sym m)
    (record {
      made = r.made ∙ next_made left more seat t e busy;
      table = r.table;
      goes = going_more seen a b c x y z (units_out most seat s) (units_out left seat t) (unit_out t seat) (units_out more seat (unit_made t seat)) (next_out left more seat t e busy) r.goes h;
    })

-- a watcher has no memory for it
pub running_fails : {W : Type 0} (seen : Seen W) (a b c : List W) (x y : Summary) (most left more seat : ℕ) (s t : Played) → left ≡ suc more → is_playing seat t ≡ true
    → Running seen a b x y most left seat s t → HearsSome seen b c (heard_of (unit_out t seat)) → HearsSome seen a c (heard_of (units_out most seat s))
running_fails seen a b c x y most left more seat s t e busy r h =
    going_fails seen a b c x y (units_out most seat s) (units_out left seat t) (unit_out t seat) (units_out more seat (unit_made t seat)) (next_out left more seat t e busy) r.goes h

-- nothing is left: its call has ended, or all units are made
pub record Over {W : Type 0} (seen : Seen W) (a b : List W) (x y : Summary) (most seat : ℕ) (s t : Played) : Type 0 where
  pub made : t ≡ units_made most seat s
  pub told : Tells seen a b x y (units_out most seat s)

pub running_ended : {W : Type 0} (seen : Seen W) (a b : List W) (x y : Summary) (most left seat : ℕ) (s t : Played) → is_playing seat t ≡ false → Running seen a b x y most left seat s t → Over seen a b x y most seat s t
running_ended seen a b x y most left seat s t free r = record {
  made = sym (r.made ∙ ended_made left seat t free);
  told = going_all seen a b x y (units_out most seat s) (units_out left seat t) (ended_out left seat t free) r.goes;
}

pub running_all : {W : Type 0} (seen : Seen W) (a b : List W) (x y : Summary) (most left seat : ℕ) (s t : Played) → left ≡ 0 → Running seen a b x y most left seat s t → Over seen a b x y most seat s t
running_all seen a b x y most left seat s t e r = record {
  made = sym (r.made ∙ ap (λ (n : ℕ). units_made n seat t) e);
  told = going_all seen a b x y (units_out most seat s) (units_out left seat t) (ap (λ (n : ℕ). units_out n seat t) e) r.goes;
}

-- a run: more units are left than the seat's call may make
pub record Runs {W : Type 0} (seen : Seen W) (a b : List W) (x y : Summary) (seat : ℕ) (s t : Played) : Type 0 where
  pub left : ℕ
  pub runs : Running seen a b x y call_most left seat s t
  pub enough : units_left t.table seat ≤ left

pub runs_none : {W : Type 0} (seen : Seen W) (ws : List W) (x : Summary) (seat : ℕ) (s : Played) → Runs seen ws ws x x seat s s
runs_none seen ws x seat s = record { left = call_most; runs = running_none seen ws x call_most call_most seat s refl; enough = few seat s }

one_left : (left now next : ℕ) → now ≤ left → next < now → left ≡ suc (left - 1)
one_left left now next e f = omega (e, f, arith)

pub runs_more : {W : Type 0} (seen : Seen W) (a b c : List W) (x y z : Summary) (seat : ℕ) (s t u : Played) → is_playing seat t ≡ true → u ≡ unit_made t seat → units_left u.table seat < units_left t.table seat
    → Runs seen a b x y seat s t → Tells seen b c y z (unit_out t seat) → Runs seen a c x z seat s u
runs_more seen a b c x y z seat s t u busy m f r h = record {
  left = r.left - 1;
  runs = running_more seen a b c x y z call_most r.left (r.left - 1) seat s t u (one_left r.left (units_left t.table seat) (units_left u.table seat) r.enough f) busy m r.runs h;
  enough = fewer r.left (units_left t.table seat) (units_left u.table seat) r.enough f;
}
  where
    fewer : (left now next : ℕ) → now ≤ left → next < now → next ≤ left - 1
    fewer left now next e f = omega (e, f, arith)

pub runs_fail : {W : Type 0} (seen : Seen W) (a b c : List W) (x y : Summary) (seat : ℕ) (s t u : Played) → is_playing seat t ≡ true → units_left u.table seat < units_left t.table seat
    → Runs seen a b x y seat s t → HearsSome seen b c (heard_of (unit_out t seat)) → HearsSome seen a c (heard_of (units_out call_most seat s))
runs_fail seen a b c x y seat s t u busy f r h =
    running_fails seen a b c x y call_most r.left (r.left - 1) seat s t (one_left r.left (units_left t.table seat) (units_left u.table seat) r.enough f) busy r.runs h

-- the three lines of a turn
abbrev pub turn_lines : Turn → List Command
turn_lines t = commands.Run t.seat ∷ commands.Call t.seat t.call ∷ commands.Step t.seat t.units ∷ []

-- the table once its call began
abbrev pub began_turn : Turn → Played → Played
began_turn t s = started (units_made call_most t.seat s) t.seat t.call

abbrev pub begin_out : Turn → List Piece
begin_out t = Told (entry t.seat (events.Begin t.call)) ∷ []

-- all of a turn is told
pub turn_told : {W : Type 0} (seen : Seen W) (a b c d : List W) (x y z w : Summary) (t : Turn) (s : Played) → Tells seen a b x y (units_out call_most t.seat s) → Tells seen b c y z (begin_out t) → Tells seen c d z w (units_out t.units t.seat (began_turn t s))
    → Tells seen a d x w (lines_told (turn_lines t) s)
turn_told seen a b c d x y z w t s one two three =
    subst (λ (last : List Piece). Tells seen a d x w (units_out call_most t.seat s ++ (begin_out t ++ last))) (sym (append-nil (units_out t.units t.seat (began_turn t s))))
    (tells_along seen a b d x y w (units_out call_most t.seat s) (begin_out t ++ units_out t.units t.seat (began_turn t s)) one
    (tells_along seen b c d y z w (begin_out t) (units_out t.units t.seat (began_turn t s)) two three))

-- some of the first, or all of it and some of the second
pub some_first : {W : Type 0} (seen : Seen W) (a b : List W) (ps qs : List Piece) → HearsSome seen a b (heard_of ps) → HearsSome seen a b (heard_of (ps ++ qs))
some_first seen a b ps qs h = subst (HearsSome seen a b) (sym (heard_of-append ps qs)) (hears_some_more seen a b (heard_of ps) (heard_of qs) h)

pub some_then : {W : Type 0} (seen : Seen W) (a b c : List W) (x y : Summary) (ps qs : List Piece) → Tells seen a b x y ps → HearsSome seen b c (heard_of qs) → HearsSome seen a c (heard_of (ps ++ qs))
some_then seen a b c x y ps qs t h = subst (HearsSome seen a c) (sym (heard_of-append ps qs)) (hears_then_some seen a b c (heard_of ps) (heard_of qs) t.heard h)

-- a watcher has no memory in its first line, in its second, or in its third
pub turn_first : {W : Type 0} (seen : Seen W) (a b : List W) (t : Turn) (s : Played) → HearsSome seen a b (heard_of (units_out call_most t.seat s)) → HearsSome seen a b (heard_of (lines_told (turn_lines t) s))
turn_first seen a b t s h = some_first seen a b (units_out call_most t.seat s) (begin_out t ++ (units_out t.units t.seat (began_turn t s) ++ [])) h

pub turn_second : {W : Type 0} (seen : Seen W) (a b c : List W) (x y : Summary) (t : Turn) (s : Played) → Tells seen a b x y (units_out call_most t.seat s) → HearsSome seen b c (heard_of (begin_out t)) → HearsSome seen a c (heard_of (lines_told (turn_lines t) s))
turn_second seen a b c x y t s one h =
    let last : List Piece = units_out t.units t.seat (began_turn t s) ++ [] in
    some_then seen a b c x y (units_out call_most t.seat s) (begin_out t ++ last) one (some_first seen b c (begin_out t) last h)

pub turn_third : {W : Type 0} (seen : Seen W) (a b c d : List W) (x y z : Summary) (t : Turn) (s : Played) → Tells seen a b x y (units_out call_most t.seat s) → Tells seen b c y z (begin_out t) → HearsSome seen c d (heard_of (units_out t.units t.seat (began_turn t s)))
    → HearsSome seen a d (heard_of (lines_told (turn_lines t) s))
turn_third seen a b c d x y z t s one two h =
    let last : List Piece = units_out t.units t.seat (began_turn t s) in
    some_then seen a b d x y (units_out call_most t.seat s) (begin_out t ++ (last ++ [])) one (some_then seen b c d y z (begin_out t) (last ++ []) two (some_first seen c d last [] h))

pub seats_more : {W : Type 0} (seen : Seen W) (a b c : List W) (x y z : Summary) (n : ℕ) (s t : Played) → t ≡ seats_run n s → Tells seen a b x y (seats_out n s) → Tells seen b c y z (units_out call_most n t) → Tells seen a c x z (seats_out (n + 1) s)
seats_more seen a b c x y z n s t e one two =
    subst (λ (m : ℕ). Tells seen a c x z (seats_out m s)) (sym (one_is_suc n))
    (tells_along seen a b c x y z (seats_out n s) (units_out call_most n (seats_run n s)) one (subst (λ (u : Played). Tells seen b c y z (units_out call_most n u)) e two))

pub seats_fail : {W : Type 0} (seen : Seen W) (a b c : List W) (x y : Summary) (n most : ℕ) (s t : Played) → n < most → t ≡ seats_run n s → Tells seen a b x y (seats_out n s) → HearsSome seen b c (heard_of (units_out call_most n t)) → HearsSome seen a c (heard_of (seats_out most s))
seats_fail seen a b c x y n most s t h e one part =
    let (rest, f) = rest_after (most - suc n) (suc n) s in
    let all : most - suc n + suc n ≡ most = omega (h, arith) in
    subst (λ (out : List Piece). HearsSome seen a c (heard_of out)) (sym (ap (λ (m : ℕ). seats_out m s) (sym all) ∙ f))
    (some_first seen a c (seats_out (suc n) s) rest
    (some_then seen a b c x y (seats_out n s) (units_out call_most n (seats_run n s)) one (subst (λ (u : Played). HearsSome seen b c (heard_of (units_out call_most n u))) e part)))

-- lines after lines
lines_along : (first second : List Command) (s : Played) → lines_told (first ++ second) s ≡ lines_told first s ++ lines_told second (lines_made first s)
lines_along [] second s = refl
lines_along (line ∷ first) second s = ap (λ (out : List Piece). played_out line s ++ out) (lines_along first second (played line s)) ∙ sym (append_assoc (played_out line s) (lines_told first (played line s)) (lines_told second (lines_made first (played line s))))

-- the words of the next turn, and those after it
words_more : (n : ℕ) (g : Lcg) → first_words pcg32 (2 * suc n) g ≡ (pcg32 g).0 ∷ (pcg32 (pcg32 g).1).0 ∷ first_words pcg32 (2 * n) (pcg32 (pcg32 g).1).1
unfolding first_words
words_more n g = ap (λ (k : ℕ). first_words pcg32 k g) (let twice : 2 * suc n ≡ suc (suc (2 * n)) = omega arith in twice)

-- the lines of so many turns that are left
abbrev pub turns_left : ℕ → Lcg → List Command
turns_left n g = commands_of (first_words pcg32 (2 * n) g)

pub turns_more : (left more a b : ℕ) (g h k : Lcg) (s u : Played) → left ≡ suc more → (a, h) ≡ pcg32 g → (b, k) ≡ pcg32 h → u ≡ lines_made (turn_commands a b) s
    → lines_told (turns_left left g) s ≡ lines_told (turn_commands a b) s ++ lines_told (turns_left more k) u
turns_more left more a b g h k s u e f f2 m =
    ap (λ (n : ℕ). lines_told (turns_left n g) s) e
    ∙ ap (λ (words : List ℕ). lines_told (commands_of words) s) (words_more more g ∙ words_are)
    ∙ lines_along (turn_commands a b) (turns_left more k) s
    ∙ ap (λ (t : Played). lines_told (turn_commands a b) s ++ lines_told (turns_left more k) t) (sym m)
  where
    words_are : (pcg32 g).0 ∷ (pcg32 (pcg32 g).1).0 ∷ first_words pcg32 (2 * more) (pcg32 (pcg32 g).1).1 ≡ a ∷ b ∷ first_words pcg32 (2 * more) k
    words_are =
        ap (λ (p : ℕ × Lcg). p.0 ∷ (pcg32 p.1).0 ∷ first_words pcg32 (2 * more) (pcg32 p.1).1) (sym f)
        ∙ ap (λ (p : ℕ × Lcg). a ∷ p.0 ∷ first_words pcg32 (2 * more) p.1) (sym f2)

-- no turn is left
pub turns_over : (left : ℕ) (g : Lcg) (s : Played) → left ≡ 0 → s.table.layout.config.seats ≡ 4 → lines_told (turns_left left g) s ≡ seats_out 4 s
unfolding first_words
turns_over left g s e four =
    ap (λ (n : ℕ). lines_told (turns_left n g) s) e
    ∙ append-nil (seats_out s.table.layout.config.seats s)
    ∙ ap (λ (n : ℕ). seats_out n s) four

-- no line of a turn changes the table's setting
pub turn_layout : (t : Turn) (s : Played) → (lines_made (turn_lines t) s).table.layout ≡ s.table.layout
turn_layout t s = layout_made t.units t.seat (began_turn t s) ∙ layout_made call_most t.seat s

-- a turn by its two words
abbrev pub turn_of : ℕ → ℕ → Turn
turn_of a b = record { seat = turn_seat a; call = turn_call a b; units = turn_units b }

pub began : (t : Turn) (s p q : Played) → p ≡ units_made call_most t.seat s → q ≡ started p t.seat t.call → q ≡ began_turn t s
began t s p q e f = f ∙ ap (λ (r : Played). started r t.seat t.call) e

pub turn_ok : {T E W : Type 0} (seen : Seen W) (a b c d : List W) (x y z w : Summary) (r : Result T E) (t : Turn) (m n : ℕ) (s p : Played) → t ≡ turn_of m n → p ≡ began_turn t s
    → Tells seen a b x y (units_out call_most t.seat s) → Tells seen b c y z (begin_out t) → OnOk r (Tells seen c d z w (units_out t.units t.seat p)) → OnOk r (Tells seen a d x w (lines_told (turn_commands m n) s))
turn_ok seen a b c d x y z w (Ok v) t m n s p e f one two three =
    subst (λ (u : Turn). Tells seen a d x w (lines_told (turn_lines u) s)) e
    (turn_told seen a b c d x y z w t s one two (subst (λ (q : Played). Tells seen c d z w (units_out t.units t.seat q)) f three))
turn_ok seen a b c d x y z w (Err v) t m n s p e f one two three = tt

pub turn_err : {T E W : Type 0} (seen : Seen W) (a b c d : List W) (x y z : Summary) (r : Result T E) (t : Turn) (m n : ℕ) (s p : Played) → t ≡ turn_of m n → p ≡ began_turn t s
    → Tells seen a b x y (units_out call_most t.seat s) → Tells seen b c y z (begin_out t) → OnErr r (HearsSome seen c d (heard_of (units_out t.units t.seat p))) → OnErr r (HearsSome seen a d (heard_of (lines_told (turn_commands m n) s)))
turn_err seen a b c d x y z (Ok v) t m n s p e f one two three = tt
turn_err seen a b c d x y z (Err v) t m n s p e f one two three =
    subst (λ (u : Turn). HearsSome seen a d (heard_of (lines_told (turn_lines u) s))) e
    (turn_third seen a b c d x y z t s one two (subst (λ (q : Played). HearsSome seen c d (heard_of (units_out t.units t.seat q))) f three))

pub turn_made : {T E : Type 0} (r : Result T E) (t : Turn) (m n : ℕ) (s p q : Played) → t ≡ turn_of m n → p ≡ began_turn t s → OnOk r (q ≡ units_made t.units t.seat p) → OnOk r (q ≡ lines_made (turn_commands m n) s)
turn_made (Ok v) t m n s p q e f g = g ∙ ap (units_made t.units t.seat) f ∙ ap (λ (u : Turn). lines_made (turn_lines u) s) e
turn_made (Err v) t m n s p q e f g = tt

-- the lines of a turn, by its words
pub turn_is : {W : Type 0} (seen : Seen W) (a b : List W) (t : Turn) (m n : ℕ) (s : Played) → t ≡ turn_of m n → HearsSome seen a b (heard_of (lines_told (turn_lines t) s)) → HearsSome seen a b (heard_of (lines_told (turn_commands m n) s))
turn_is seen a b t m n s e h = subst (λ (u : Turn). HearsSome seen a b (heard_of (lines_told (turn_lines u) s))) e h

pub words_layout : (m n : ℕ) (s u : Played) → u ≡ lines_made (turn_commands m n) s → u.table.layout ≡ s.table.layout
words_layout m n s u e = ap (λ (p : Played). p.table.layout) e ∙ turn_layout (turn_of m n) s

-- what tells of the end of all turns
pub end_ok : {T E W : Type 0} (seen : Seen W) (a b c : List W) (x y z : Summary) (r : Result T E) (all rest last : List Piece) → rest ≡ last → Going seen a b x y all rest → OnOk r (Tells seen b c y z last) → OnOk r (Tells seen a c x z all)
end_ok seen a b c x y z (Ok v) all rest last e g t = going_all seen a c x z all [] refl (going_more seen a b c x y z all rest last [] (e ∙ sym (append-nil last)) g t)
end_ok seen a b c x y z (Err v) all rest last e g t = tt

pub end_err : {T E W : Type 0} (seen : Seen W) (a b c : List W) (x y : Summary) (r : Result T E) (all rest last : List Piece) → rest ≡ last → Going seen a b x y all rest → OnErr r (HearsSome seen b c (heard_of last)) → OnErr r (HearsSome seen a c (heard_of all))
end_err seen a b c x y (Ok v) all rest last e g t = tt
end_err seen a b c x y (Err v) all rest last e g t = going_fails seen a b c x y all rest last [] (e ∙ sym (append-nil last)) g t

-- no turn was played
pub play_start : {W : Type 0} (seen : Seen W) (ws : List W) (x : Summary) (s : Played) (seed turns n : ℕ) (g : Lcg) → n ≡ turns → g ≡ seeded seed → Going seen ws ws x x (lines_told (generated seed turns) s) (lines_told (turns_left n g) s)
play_start seen ws x s seed turns n g e f =
    subst (λ (rest : List Piece). Going seen ws ws x x (lines_told (generated seed turns) s) rest) (sym (ap (λ (m : ℕ). lines_told (turns_left m g) s) e ∙ ap (λ (h : Lcg). lines_told (turns_left turns h) s) f))
    (going_none seen ws x (lines_told (generated seed turns) s))

-- the seat of a turn is one of the table's
pub seat_within : (t : Turn) (m n : ℕ) (layout after : Layout) → t ≡ turn_of m n → layout.config.seats ≡ 4 → after ≡ layout → t.seat < after.config.seats
seat_within t m n layout after e four f =
    let low : turn_seat m < 4 = omega arith in
    let is : t.seat ≡ turn_seat m = ap (λ (u : Turn). u.seat) e in
    let same : after.config.seats ≡ 4 = ap (λ (l : Layout). l.config.seats) f ∙ four in
    omega (low, is, same, arith)

pub ran_layout : (seat : ℕ) (s p : Played) → p ≡ units_made call_most seat s → p.table.layout ≡ s.table.layout
ran_layout seat s p e = ap (λ (q : Played). q.table.layout) e ∙ layout_made call_most seat s

pub began_layout : (seat : ℕ) (call : Call) (p q : Played) → q ≡ started p seat call → q.table.layout ≡ p.table.layout
began_layout seat call p q e = ap (λ (r : Played). r.table.layout) e
