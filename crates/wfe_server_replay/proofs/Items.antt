-- Items after items, and steps of a seat that has no call under way.
use Rattle.std.proofs.Common.{Bool, List, [], ap, append_assoc, false, refl, suc, sym, true, zero, ℕ, ◌++◌, ◌<◌, ◌∙◌, ◌≡◌, ◌∷◌}
use Rattle.std.specs.Prelude.{nat_lt}
use Rattle.wfe_core.specs.Locals.{may_begin}
use Rattle.wfe_core.specs.World.{World, is_busy, is_here, may_start}
use Rattle.wfe_trace.specs.Body.{fits_indexes, fits_seats}
use Rattle.wfe_trace.specs.words.declared.config.Config.{Config}
use Rattle.wfe_outside.specs.defs.declared.call.Call.{Call}
use Rattle.wfe_outside.specs.defs.declared.call.Call.TheVariants as calls
use Rattle.wfe_drive.specs.history.History.{Begins, Item, Made, Steps, did, done_if, fits, made_from, times}
use Rattle.wfe_server_out.specs.Pieces.{Piece}
use Rattle.wfe_server_replay.specs.Given.{fit_pieces, made_pieces}
use Rattle.wfe_core.proofs.Facts.{and_right_false, both, fits_free, fits_busy}

pub made_pieces-append : (xs ys : List Item) (made : Made) → made_pieces made (xs ++ ys) ≡ made_pieces made xs ++ made_pieces (made_from made xs) ys
made_pieces-append [] ys made = refl
made_pieces-append (x ∷ xs) ys made =
    ap (λ (ps : List Piece). fit_pieces made.world x (fits made.world x) ++ ps) (made_pieces-append xs ys (did made x))
    ∙ sym (append_assoc (fit_pieces made.world x (fits made.world x)) (made_pieces (did made x) xs) (made_pieces (made_from (did made x) xs) ys))

-- an item that fits is done, and tells; one that does not is nothing
pub did_fit : (made : Made) (item : Item) (fit : Bool) → fits made.world item ≡ fit → did made item ≡ done_if made item fit
did_fit made item fit f = ap (done_if made item) f

pub pieces_fit : (made : Made) (item : Item) (fit : Bool) → fits made.world item ≡ fit → fit_pieces made.world item (fits made.world item) ≡ fit_pieces made.world item fit
pieces_fit made item fit f = ap (fit_pieces made.world item) f

pub step_fits : (w : World) (seat : ℕ) → seat < w.layout.config.seats → is_busy w seat ≡ true → fits w (Steps seat) ≡ true
step_fits w seat h b = fits_busy seat w.layout.config.seats (is_busy w seat) h b

-- a call whose indexes and place the reader of a line has let pass is one that may begin
pub may_fits : (config : Config) (call : Call) → fits_indexes config.indexes call ≡ true → fits_seats config.seats call ≡ true → may_begin config call ≡ true
may_fits config (calls.Adopt place) h k = k
may_fits config (calls.Copy from index) h k = h
may_fits config (calls.DropIndex index) h k = h
may_fits config (calls.Look index key) h k = h
may_fits config call h k = refl

pub begin_fits : (w : World) (seat : ℕ) (call : Call) → seat < w.layout.config.seats → is_busy w seat ≡ false → is_here w seat ≡ true → may_begin w.layout.config call ≡ true → fits w (Begins seat call) ≡ true
begin_fits w seat call h b here may = fits_free seat w.layout.config.seats (is_busy w seat) (may_start w seat call) h b (both (is_here w seat) (may_begin w.layout.config call) here may)

pub step_idle : (w : World) (seat : ℕ) → is_busy w seat ≡ false → fits w (Steps seat) ≡ false
step_idle w seat b = and_right_false (nat_lt seat w.layout.config.seats) (is_busy w seat) b

-- steps of a seat without a call do nothing, and tell nothing
pub times_idle : (n seat : ℕ) (made : Made) → is_busy made.world seat ≡ false → made_from made (times n seat) ≡ made
times_idle zero seat made b = refl
times_idle (suc n) seat made b = ap (λ (m : Made). made_from m (times n seat)) (did_fit made (Steps seat) false (step_idle made.world seat b)) ∙ times_idle n seat made b

pub pieces_idle : (n seat : ℕ) (made : Made) → is_busy made.world seat ≡ false → made_pieces made (times n seat) ≡ []
pieces_idle zero seat made b = refl
pieces_idle (suc n) seat made b =
    let f = step_idle made.world seat b in
    ap (λ (ps : List Piece). ps ++ made_pieces (did made (Steps seat)) (times n seat)) (pieces_fit made (Steps seat) false f)
    ∙ ap (λ (m : Made). made_pieces m (times n seat)) (did_fit made (Steps seat) false f)
    ∙ pieces_idle n seat made b
