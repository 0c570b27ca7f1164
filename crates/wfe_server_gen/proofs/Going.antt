-- Pieces of work one after the other: what watchers heard and what was counted so far, and what is left.
use Rattle.std.proofs.Common.{List, [], ap, append-nil, append_assoc, refl, subst, sym, ◌++◌, ◌∙◌, ◌≡◌}
use Rattle.std.specs.Prelude.{Err, Ok, OnErr, OnOk, Option, Result, ℕ}
use Rattle.wfe_server_out.specs.PutOut.{PutsOut, PutsSome}
use Rattle.wfe_outside.specs.defs.Entry.{Entry}
use Rattle.wfe_server_out.specs.Heard.{Gains, Hears, HearsSome, Seen}
use Rattle.wfe_server_out.specs.Pieces.{Piece, heard_of}
use Rattle.wfe_server_out.proofs.Hearing.{gains_along, gains_none, hears_along, hears_none, hears_some_more, hears_then_some}
use Rattle.wfe_server_out.proofs.Texts.{heard_of-append}
use Rattle.wfe_server_gen.specs.declared.summary.Summary.{Summary}
use Rattle.wfe_server_gen.specs.Summary.{Counts}
use Rattle.wfe_server_gen.specs.Tally.{Tells}

-- of all pieces these are left, and the others were told and counted
pub record Going {W : Type 0} (seen : Seen W) (before after : List W) (old new : Summary) (all rest : List Piece) : Type 0 where
  pub out : List Piece
  pub split : all ≡ out ++ rest
  pub tells : Tells seen before after old new out

pub tells_none : {W : Type 0} (seen : Seen W) (ws : List W) (s : Summary) → Tells seen ws ws s s []
tells_none seen ws s = record { heard = hears_none seen ws; counted = gains_none Counts s s refl }

pub tells_along : {W : Type 0} (seen : Seen W) (a b c : List W) (x y z : Summary) (ps qs : List Piece) → Tells seen a b x y ps → Tells seen b c y z qs → Tells seen a c x z (ps ++ qs)
tells_along seen a b c x y z ps qs one two = record {
  heard = subst (Hears seen a c) (sym (heard_of-append ps qs)) (hears_along seen a b c (heard_of ps) (heard_of qs) one.heard two.heard);
  counted = subst (Gains Counts x z) (sym (heard_of-append ps qs)) (gains_along Counts x y z (heard_of ps) (heard_of qs) one.counted two.counted);
}

pub going_none : {W : Type 0} (seen : Seen W) (ws : List W) (s : Summary) (all : List Piece) → Going seen ws ws s s all all
going_none seen ws s all = record { out = []; split = refl; tells = tells_none seen ws s }

-- the next of them is told
pub going_more : {W : Type 0} (seen : Seen W) (a b c : List W) (x y z : Summary) (all rest here more : List Piece) → rest ≡ here ++ more → Going seen a b x y all rest → Tells seen b c y z here → Going seen a c x z all more
going_more seen a b c x y z all rest here more e g t = record {
  out = g.out ++ here;
  split = g.split ∙ ap (λ (ps : List Piece). g.out ++ ps) e ∙ sym (append_assoc g.out here more);
  tells = tells_along seen a b c x y z g.out here g.tells t;
}

-- a watcher has no memory for the next of them
pub going_fails : {W : Type 0} (seen : Seen W) (a b c : List W) (x y : Summary) (all rest here more : List Piece) → rest ≡ here ++ more → Going seen a b x y all rest → HearsSome seen b c (heard_of here) → HearsSome seen a c (heard_of all)
going_fails seen a b c x y all rest here more e g h =
    subst (HearsSome seen a c) (sym (ap heard_of (g.split ∙ ap (λ (ps : List Piece). g.out ++ ps) e) ∙ heard_of-append g.out (here ++ more) ∙ ap (λ (xs : List Entry). heard_of g.out ++ xs) (heard_of-append here more)))
    (hears_then_some seen a b c (heard_of g.out) (heard_of here ++ heard_of more) g.tells.heard (hears_some_more seen b c (heard_of here) (heard_of more) h))

-- nothing is left
pub going_all : {W : Type 0} (seen : Seen W) (a b : List W) (x y : Summary) (all rest : List Piece) → rest ≡ [] → Going seen a b x y all rest → Tells seen a b x y all
going_all seen a b x y all rest e g = subst (Tells seen a b x y) (sym (g.split ∙ ap (λ (ps : List Piece). g.out ++ ps) e ∙ append-nil g.out)) g.tells

-- what a call of the layer below put out, by another name
pub told_ok : {T E W : Type 0} (seen : Seen W) (m n : Option (List ℕ)) (a b : List W) (x y : Summary) (r : Result T E) (ps qs : List Piece) → ps ≡ qs → Gains Counts x y (heard_of ps) → OnOk r (PutsOut seen m n a b ps) → OnOk r (Tells seen a b x y qs)
told_ok seen m n a b x y (Ok v) ps qs e c h = subst (Tells seen a b x y) e (record { heard = h.heard; counted = c })
told_ok seen m n a b x y (Err v) ps qs e c h = tt

pub told_err : {T E W : Type 0} (seen : Seen W) (m n : Option (List ℕ)) (a b : List W) (r : Result T E) (ps qs : List Piece) → ps ≡ qs → OnErr r (PutsSome seen m n a b ps) → OnErr r (HearsSome seen a b (heard_of qs))
told_err seen m n a b (Ok v) ps qs e h = tt
told_err seen m n a b (Err v) ps qs e h = subst (λ (out : List Piece). HearsSome seen a b (heard_of out)) e h.heard
