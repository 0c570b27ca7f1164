-- Work that ends in a piece, after other work and before more.
use Rattle.std.proofs.Common.{◌≡◌, ℕ, List, [], ◌∷◌, ◌++◌, Option, sym, ap, ◌∙◌, subst, append_assoc}
use Rattle.std.specs.Io.KnownBytes.{Keeps}
use Rattle.std.proofs.KnownBytes.{Appends-kept}
use Rattle.wfe_server_out.specs.Pieces.{Piece, text_of, heard_of}
use Rattle.wfe_server_out.specs.Heard.{Hears, Seen}
use Rattle.wfe_server_out.specs.PutOut.{PutsOut, PutsSome, FailsToWrite, FailsToTell}
use Rattle.wfe_server_out.proofs.Texts.{heard_of-append}
use Rattle.wfe_server_out.proofs.Hearing.{hears_along}

-- a longer front of the pieces
front_along : (xs whole rest ys : List Piece) (piece : Piece) → ys ≡ whole ++ piece ∷ rest → xs ++ ys ≡ (xs ++ whole) ++ piece ∷ rest
front_along xs whole rest ys piece split = ap (λ (t : List Piece). xs ++ t) split ∙ sym (append_assoc xs whole (piece ∷ rest))

-- more pieces at the end
rest_along : (xs whole rest ys : List Piece) (piece : Piece) → xs ≡ whole ++ piece ∷ rest → xs ++ ys ≡ whole ++ piece ∷ (rest ++ ys)
rest_along xs whole rest ys piece split = ap (λ (t : List Piece). t ++ ys) split ∙ append_assoc whole (piece ∷ rest) ys

-- the pieces up to the one in which the work ends, and the rest
pub split_after : (xs whole rest : List Piece) (piece : Piece) → xs ≡ whole ++ piece ∷ rest → xs ≡ (whole ++ piece ∷ []) ++ rest
split_after xs whole rest piece split = split ∙ sym (append_assoc whole (piece ∷ []) rest)

-- pieces are put out, and then a write fails in one of which each watcher has heard
pub fails_to_write : {W : Type 0} (seen : Seen W) (old mid new : Option (List ℕ)) (a b c : List W) (whole rest out : List Piece) (piece : Piece) → out ≡ whole ++ piece ∷ rest →
    PutsOut seen old mid a b whole → PutsSome seen mid new b c (piece ∷ []) → Hears seen b c (heard_of (piece ∷ [])) → FailsToWrite seen old new a c out
fails_to_write seen old mid new a b c whole rest out piece split one part heard = record {
  whole = whole;
  piece = piece;
  rest = rest;
  split = split;
  mid = mid;
  wrote = one.wrote;
  part = part.wrote;
  heard = subst (Hears seen a c) (sym (heard_of-append whole (piece ∷ []))) (hears_along seen a b c (heard_of whole) (heard_of (piece ∷ [])) one.heard heard);
}

-- pieces are put out, and then a watcher has no memory for one of which nothing is written
pub fails_to_tell : {W : Type 0} (seen : Seen W) (old mid new : Option (List ℕ)) (a b c : List W) (whole rest out : List Piece) (piece : Piece) → out ≡ whole ++ piece ∷ rest →
    PutsOut seen old mid a b whole → PutsSome seen mid new b c (piece ∷ []) → Keeps mid new → FailsToTell seen old new a c out
fails_to_tell seen old mid new a b c whole rest out piece split one part kept = record {
  whole = whole;
  piece = piece;
  rest = rest;
  split = split;
  wrote = Appends-kept old mid new (text_of whole) one.wrote kept;
  mid = b;
  heard = one.heard;
  part = part.heard;
}
