-- A move of the clock, and what comes first where the clock is moved and the list scanned.
use Rattle.std.proofs.Common.{Bool, [], ap, false, refl, sym, true, ℕ, ◌+◌, ◌∙◌, ◌∷◌, ◌≡◌, if◌then◌else◌}
use Rattle.std.proofs.lemmas.Bool.{eq-eqb, ne_eqb}
use Rattle.wfe_core.specs.defs.declared.call.ClockMove.{ClockMove}
use Rattle.wfe_core.specs.defs.declared.call.ClockMove.TheVariants as moves
use Rattle.wfe_core.specs.defs.declared.event.Event.TheVariants as events
use Rattle.wfe_core.specs.words.Schemes.{helps}
use Rattle.wfe_core.specs.words.Schemes as schemes
use Rattle.wfe_core.specs.words.declared.config.Config.{Config}
use Rattle.wfe_core.specs.words.declared.config.SchemeKind.{SchemeKind}
use Rattle.wfe_core.specs.words.declared.config.SchemeKind.TheVariants.{He, Hp, Ibr, Wfe}
use Rattle.wfe_core.specs.Calls.{AfterScan, ReadGuard, Runs, Scans, Tidies}
use Rattle.wfe_core.specs.Desks.{Desk}
use Rattle.wfe_core.specs.Phases.{ends, goes}
use Rattle.wfe_core.specs.Phases.Base.{Move}
use Rattle.wfe_core.specs.Phases.Ending.{Clocked}
use Rattle.wfe_core.specs.Phases.MoveAt.{ExchangeClock, LoadEra}
use Rattle.wfe_core.specs.Rounds.{first_tidy, scheme_of, tidy_by}
use Rattle.wfe_core.specs.Steps.{after_move, run_turn}
use Rattle.wfe_core.specs.declared.post.Post.{Post}
use Rattle.wfe_drive_words.specs.drive_cells.Unit.{SeatView, kept_desk, seat_after}
use Rattle.wfe_drive_words.specs.Path.{left_by, stepped}
use Rattle.wfe_drive_runs.specs.Pieces.{seat_of}

-- before its first step, before its second, and when it is over
module _ (later : AfterScan) (post : Post) (desk : Desk) where
  abbrev pub loads_at : SeatView
  loads_at = seat_of (Runs (Tidies later) (Move (LoadEra false))) post desk

  abbrev pub raises_at : (era : ℕ) → SeatView
  raises_at era = seat_of (Runs (Tidies later) (Move (ExchangeClock era))) post desk

  abbrev pub moved_at : (clock : ClockMove) → SeatView
  moved_at clock = seat_of (Scans (after_move later clock) (ReadGuard 0)) post desk

-- the clock is at its last era
pub era_spent : (later : AfterScan) (post : Post) (desk : Desk) (found : ℕ) → found ≡ post.layout.config.last_era → left_by (loads_at later post desk) found ≡ moved_at later (stepped post) desk (moves.EraSpent found)
era_spent later post desk found e =
    let p : Post = stepped post in
    ap (λ (b : Bool). seat_after (run_turn (Tidies later) (kept_desk desk) (if b then ends p [] (Clocked (moves.EraSpent found)) else goes p [] (Move (ExchangeClock found))))) (eq-eqb found post.layout.config.last_era e)

-- or it is not
pub era_left : (later : AfterScan) (post : Post) (desk : Desk) (found : ℕ) → (found ≡ post.layout.config.last_era → ⊥) → left_by (loads_at later post desk) found ≡ raises_at later (stepped post) desk found
era_left later post desk found e =
    let p : Post = stepped post in
    ap (λ (b : Bool). seat_after (run_turn (Tidies later) (kept_desk desk) (if b then ends p [] (Clocked (moves.EraSpent found)) else goes p [] (Move (ExchangeClock found))))) (ne_eqb found post.layout.config.last_era e)

-- the exchange moved it
pub clock_raised : (later : AfterScan) (post : Post) (desk : Desk) (era found : ℕ) → found ≡ era → left_by (raises_at later post desk era) found ≡ moved_at later (stepped post) desk (moves.Moved (era + 1))
clock_raised later post desk era found e =
    let p : Post = stepped post in
    ap (λ (b : Bool). seat_after (run_turn (Tidies later) (kept_desk desk) (if b then ends p (events.Era (era + 1) ∷ []) (Clocked (moves.Moved (era + 1))) else ends p [] (Clocked (moves.Other found))))) (eq-eqb found era e)

-- or another did
pub clock_passed : (later : AfterScan) (post : Post) (desk : Desk) (era found : ℕ) → (found ≡ era → ⊥) → left_by (raises_at later post desk era) found ≡ moved_at later (stepped post) desk (moves.Other found)
clock_passed later post desk era found e =
    let p : Post = stepped post in
    ap (λ (b : Bool). seat_after (run_turn (Tidies later) (kept_desk desk) (if b then ends p (events.Era (era + 1) ∷ []) (Clocked (moves.Moved (era + 1))) else ends p [] (Clocked (moves.Other found))))) (ne_eqb found era e)

-- a scheme whose movers help has retirements move the clock
helpers-move : (kind : SchemeKind) → helps kind ≡ true → schemes.moves kind ≡ true
helpers-move He e = refl
helpers-move Ibr e = refl
helpers-move Wfe e = refl
helpers-move Hp e = e

first-by : (moving does : Bool) (later : AfterScan) (post : Post) → schemes.moves (scheme_of post) ≡ moving → helps (scheme_of post) ≡ does
    → first_tidy later post ≡ (if moving then Runs (Tidies later) (Move (LoadEra does)) else Scans later (ReadGuard 0))
first-by true does later post e f = ap (λ (b : Bool). tidy_by b later post) e ∙ ap (λ (b : Bool). Runs (Tidies later) (Move (LoadEra b))) f
first-by false does later post e f = ap (λ (b : Bool). tidy_by b later post) e

-- first comes a move that helps, one that does not, or the scan
pub helps_first : (later : AfterScan) (post : Post) (config : Config) (does : Bool) → config ≡ post.layout.config → does ≡ helps config.scheme → does ≡ true → first_tidy later post ≡ Runs (Tidies later) (Move (LoadEra true))
helps_first later post config does c d e =
    let f : helps (scheme_of post) ≡ true = ap (λ (k : Config). helps k.scheme) (sym c) ∙ sym d ∙ e in
    first-by true true later post (helpers-move (scheme_of post) f) f

pub moves_first : (later : AfterScan) (post : Post) (config : Config) (does moving : Bool) → config ≡ post.layout.config → does ≡ helps config.scheme → does ≡ false → moving ≡ schemes.moves config.scheme → moving ≡ true → first_tidy later post ≡ Runs (Tidies later) (Move (LoadEra false))
moves_first later post config does moving c d e m f =
    first-by true false later post (ap (λ (k : Config). schemes.moves k.scheme) (sym c) ∙ sym m ∙ f) (ap (λ (k : Config). helps k.scheme) (sym c) ∙ sym d ∙ e)

pub scans_first : (later : AfterScan) (post : Post) (config : Config) (moving : Bool) → config ≡ post.layout.config → moving ≡ schemes.moves config.scheme → moving ≡ false → first_tidy later post ≡ Scans later (ReadGuard 0)
scans_first later post config moving c m f = ap (λ (b : Bool). tidy_by b later post) (ap (λ (k : Config). schemes.moves k.scheme) (sym c) ∙ sym m ∙ f)
