-- What pieces of work put out one after the other, between two states of the outside.
use Rattle.wfe_server_out.specs.Heard.{Seen}
use Rattle.std.proofs.Common.{Bool, List, [], ap, false, if◌then◌else◌, length, refl, subst, sym, ◌++◌, ◌==◌, ◌∙◌, ◌≡◌, ◌∷◌}
use Rattle.std.specs.Prelude.{Ok, Option, Result, ℕ}
use Rattle.wfe_trace.specs.declared.item.Item.{Item}
use Rattle.wfe_trace.specs.declared.item.Item.TheVariants as items
use Rattle.wfe_trace.specs.declared.reason.BadLine.{BadLine}
use Rattle.wfe_server_replay.specs.declared.stop.Stop.{Stop}
use Rattle.wfe_server_out.specs.PutOut.{PutsOut, PutsSome}
use Rattle.wfe_server_replay.specs.Playing.{Played, player}
use Rattle.wfe_server_replay.specs.Trace.{Progress, after_last, after_line, item_taken, last_output, line_item, line_out, line_output, line_read, line_taken, out_by}
use Rattle.std.specs.Io.KnownBytes.{Appends}
use Rattle.wfe_server_out.specs.Pieces.{Piece, Text}
use Rattle.wfe_server_out.specs.Some.{AppendsSome}
use Rattle.wfe_server_out.proofs.Puts.{puts_along, puts_none, puts_some_more, puts_text, puts_text_some, puts_then_some}
use Rattle.wfe_server_replay.specs.Sunk.{Outside, Puts, PutsPart, Took, outside}
use Rattle.wfe_outside.specs.defs.declared.call.Call.{Call}

pub puts_nil : {W : Type 0} (seen : Seen W) (a : Outside W) → Puts seen a a []
puts_nil seen a = puts_none seen a.written a.watchers

-- the same by another name of nothing
pub puts_same : {W : Type 0} (seen : Seen W) (a : Outside W) (xs : List Piece) → xs ≡ [] → Puts seen a a xs
puts_same seen a xs e = subst (Puts seen a a) (sym e) (puts_nil seen a)

pub puts_trans : {W : Type 0} (seen : Seen W) (a b c : Outside W) (xs ys : List Piece) → Puts seen a b xs → Puts seen b c ys → Puts seen a c (xs ++ ys)
puts_trans seen a b c xs ys p q = puts_along seen a.written b.written c.written a.watchers b.watchers c.watchers xs ys p q

pub part_then : {W : Type 0} (seen : Seen W) (a b c : Outside W) (xs ys : List Piece) → Puts seen a b xs → PutsPart seen b c ys → PutsPart seen a c (xs ++ ys)
part_then seen a b c xs ys p q = puts_then_some seen a.written b.written c.written a.watchers b.watchers c.watchers xs ys p q

pub part_first : {W : Type 0} (seen : Seen W) (a b : Outside W) (xs ys : List Piece) → PutsPart seen a b xs → PutsPart seen a b (xs ++ ys)
part_first seen a b xs ys p = puts_some_more seen a.written b.written a.watchers b.watchers xs ys p

-- a line that tells of no event
pub puts_line : {W : Type 0} (seen : Seen W) (old new : Option (List ℕ)) (ws : List W) (bytes : List ℕ) → Appends old new bytes → Puts seen (outside old ws) (outside new ws) (Text bytes ∷ [])
puts_line seen old new ws bytes wrote = puts_text seen old new ws bytes wrote

pub part_line : {W : Type 0} (seen : Seen W) (old new : Option (List ℕ)) (ws : List W) (bytes : List ℕ) → AppendsSome old new bytes → PutsPart seen (outside old ws) (outside new ws) (Text bytes ∷ [])
part_line seen old new ws bytes some = puts_text_some seen old new ws bytes some

pub part_of : {W : Type 0} (seen : Seen W) (old new : Option (List ℕ)) (before after : List W) (xs ys : List Piece) → xs ≡ ys → PutsSome seen old new before after xs → PutsSome seen old new before after ys
part_of seen old new before after xs ys e p = subst (PutsSome seen old new before after) e p

-- what a line that was read puts out
pub line_is : (makes : Call → Bool) (p q : Progress Played) (item : Item) (r : Result Item BadLine) → r ≡ line_item (player makes) p → r ≡ Ok item → q ≡ line_read p → out_by (player makes) q item ≡ line_output (player makes) p
line_is makes p q item r e f h = ap (λ (x : Progress Played). out_by (player makes) x item) h ∙ read p item ∙ ap (line_out (player makes) p) (sym f ∙ e)
  where
    read : (p : Progress Played) (item : Item) → out_by (player makes) (line_read p) item ≡ out_by (player makes) p item
    read p items.Setting = refl
    read p (items.Ready version config) = refl
    read p (items.Command c) = refl

pub puts_of : {W : Type 0} (seen : Seen W) (old new : Option (List ℕ)) (before after : List W) (xs ys : List Piece) → xs ≡ ys → PutsOut seen old new before after xs → PutsOut seen old new before after ys
puts_of seen old new before after xs ys e p = subst (PutsOut seen old new before after) e p

-- bytes after the last line feed are a line
pub last_took : (makes : Call → Bool) {T W : Type 0} (seen : Seen W) (r : Result T Stop) (p now : Progress Played) (old new : Outside W) (none : Bool) → (length p.line == 0) ≡ none → none ≡ false →
    Took seen r (after_line (player makes) p) now old new (line_output (player makes) p) → Took seen r (after_last (player makes) p) now old new (last_output (player makes) p)
last_took makes seen r p now old new none is filled took =
    subst (λ (x : Bool). Took seen r (if x then Ok p else after_line (player makes) p) now old new (if x then [] else line_output (player makes) p)) (sym (is ∙ filled)) took

-- a line that was read is taken
pub line_done : (makes : Call → Bool) (p q s : Progress Played) (item : Item) (r : Result Item BadLine) → r ≡ line_item (player makes) p → r ≡ Ok item → q ≡ line_read p → s ≡ item_taken (player makes) q item → after_line (player makes) p ≡ Ok s
line_done makes p q s item r e f h g =
    let whole : Result (Progress Played) BadLine = Ok (item_taken (player makes) (line_read p) item) in
    let read : after_line (player makes) p ≡ whole = ap (line_taken (player makes) p) (sym e ∙ f) in
    let same : item_taken (player makes) (line_read p) item ≡ s = ap (λ (x : Progress Played). item_taken (player makes) x item) (sym h) ∙ sym g in
    read ∙ ap Ok same
