-- What is put out in one piece of work after another.
use Rattle.std.proofs.Common.{ℕ, ◌≡◌, ◌≤◌, List, [], ◌∷◌, ◌++◌, Option, inl, inr, length, refl, sym, ap, ◌∙◌, subst, append-nil, append_assoc, arith}
use Rattle.std.specs.Io.KnownBytes.{Appends}
use Rattle.std.proofs.KnownBytes.{Appends-kept, Appends-nil, Appends-trans, Keeps-refl}
use Rattle.wfe_outside.specs.defs.Entry.{Entry}
use Rattle.wfe_server_out.specs.Some.{AppendsSome}
use Rattle.wfe_server_out.specs.Pieces.{Piece, Text, Told, text_of, heard_of}
use Rattle.wfe_server_out.specs.Heard.{Hears, HearsSome, Seen}
use Rattle.wfe_server_out.specs.PutOut.{PutsInOrder, PutsOut, PutsSome, StopsIn}
use Rattle.wfe_server_out.proofs.Sizes.{sized_along}
use Rattle.wfe_server_out.proofs.Texts.{text_of-append, heard_of-append, AppendsSome-all, AppendsSome-then, AppendsSome-first}
use Rattle.wfe_server_out.proofs.Hearing.{hears_none, hears_along, hears_out_some, hears_some_none, hears_then_some, hears_some_more}

-- no piece, and nothing changed
pub puts_none : {W : Type 0} (seen : Seen W) (old : Option (List ℕ)) (ws : List W) → PutsOut seen old old ws ws []
puts_none seen old ws = record { wrote = Appends-nil old; heard = hears_none seen ws; sized = tt }

-- a text is written, and no watcher hears of it
pub puts_text : {W : Type 0} (seen : Seen W) (old new : Option (List ℕ)) (ws : List W) (bytes : List ℕ) → Appends old new bytes → PutsOut seen old new ws ws (Text bytes ∷ [])
puts_text seen old new ws bytes wrote = record { wrote = subst (Appends old new) (sym (append-nil bytes)) wrote; heard = hears_none seen ws; sized = tt }

-- one after the other
pub puts_along : {W : Type 0} (seen : Seen W) (old mid new : Option (List ℕ)) (a b c : List W) (xs ys : List Piece) →
    PutsOut seen old mid a b xs → PutsOut seen mid new b c ys → PutsOut seen old new a c (xs ++ ys)
puts_along seen old mid new a b c xs ys one two = record {
  wrote = subst (Appends old new) (sym (text_of-append xs ys)) (Appends-trans old mid new (text_of xs) (text_of ys) one.wrote two.wrote);
  heard = subst (Hears seen a c) (sym (heard_of-append xs ys)) (hears_along seen a b c (heard_of xs) (heard_of ys) one.heard two.heard);
  sized = sized_along xs ys one.sized two.sized;
}

-- what is put out in order is put out in part
pub puts_some_of : {W : Type 0} (seen : Seen W) (old new : Option (List ℕ)) (a b : List W) (out : List Piece) → PutsInOrder seen old new a b out → PutsSome seen old new a b out
puts_some_of seen old new a b out o = record { wrote = wrote o.stop; heard = heard o.stop; order = o }
  where
    text : text_of out ≡ (text_of o.whole ++ text_of o.next) ++ text_of o.rest
    text =
        ap text_of o.split ∙ text_of-append o.whole (o.next ++ o.rest) ∙ ap (λ (t : List ℕ). text_of o.whole ++ t) (text_of-append o.next o.rest)
        ∙ sym (append_assoc (text_of o.whole) (text_of o.next) (text_of o.rest))

    told : heard_of out ≡ (heard_of o.whole ++ heard_of o.next) ++ heard_of o.rest
    told =
        ap heard_of o.split ∙ heard_of-append o.whole (o.next ++ o.rest) ∙ ap (λ (t : List Entry). heard_of o.whole ++ t) (heard_of-append o.next o.rest)
        ∙ sym (append_assoc (heard_of o.whole) (heard_of o.next) (heard_of o.rest))

    wrote : StopsIn seen o.mid new o.between b o.next → AppendsSome old new (text_of out)
    wrote (inl (kept, some)) =
        subst (AppendsSome old new) (sym text) (AppendsSome-first old new (text_of o.whole ++ text_of o.next) (text_of o.rest)
        (AppendsSome-first old new (text_of o.whole) (text_of o.next) (AppendsSome-all old new (text_of o.whole) (Appends-kept old o.mid new (text_of o.whole) o.put.wrote kept))))
    wrote (inr (part, all)) =
        subst (AppendsSome old new) (sym text) (AppendsSome-first old new (text_of o.whole ++ text_of o.next) (text_of o.rest)
        (AppendsSome-then old o.mid new (text_of o.whole) (text_of o.next) o.put.wrote part))

    heard_next : StopsIn seen o.mid new o.between b o.next → HearsSome seen o.between b (heard_of o.next)
    heard_next (inl (kept, some)) = some
    heard_next (inr (part, all)) = hears_out_some seen o.between b (heard_of o.next) all

    heard : StopsIn seen o.mid new o.between b o.next → HearsSome seen a b (heard_of out)
    heard stop =
        subst (HearsSome seen a b) (sym told) (hears_some_more seen a b (heard_of o.whole ++ heard_of o.next) (heard_of o.rest)
        (hears_then_some seen a o.between b (heard_of o.whole) (heard_of o.next) o.put.heard (heard_next stop)))

-- a part of some text is written, which tells of no event
pub puts_lines_some : {W : Type 0} (seen : Seen W) (old new : Option (List ℕ)) (ws : List W) (out : List Piece) → heard_of out ≡ [] → AppendsSome old new (text_of out) → PutsSome seen old new ws ws out
puts_lines_some seen old new ws out none part =
    puts_some_of seen old new ws ws out (record {
      whole = [];
      next = out;
      rest = [];
      split = sym (append-nil out);
      one = few (heard_of out) none;
      mid = old;
      between = ws;
      put = puts_none seen old ws;
      stop = inr (part, subst (Hears seen ws ws) (sym none) (hears_none seen ws));
    })
  where
    few : (xs : List Entry) → xs ≡ [] → length xs ≤ 1
    few xs e = omega (arith, ap length e)

-- a part of a text is written
pub puts_text_some : {W : Type 0} (seen : Seen W) (old new : Option (List ℕ)) (ws : List W) (bytes : List ℕ) → AppendsSome old new bytes → PutsSome seen old new ws ws (Text bytes ∷ [])
puts_text_some seen old new ws bytes part = puts_lines_some seen old new ws (Text bytes ∷ []) refl (subst (AppendsSome old new) (sym (append-nil bytes)) part)

-- all of the first, and then some of the second
pub puts_then_some : {W : Type 0} (seen : Seen W) (old mid new : Option (List ℕ)) (a b c : List W) (xs ys : List Piece) →
    PutsOut seen old mid a b xs → PutsSome seen mid new b c ys → PutsSome seen old new a c (xs ++ ys)
puts_then_some seen old mid new a b c xs ys one two =
    let o = two.order in
    puts_some_of seen old new a c (xs ++ ys) (record {
      whole = xs ++ o.whole;
      next = o.next;
      rest = o.rest;
      split = ap (λ (t : List Piece). xs ++ t) o.split ∙ sym (append_assoc xs o.whole (o.next ++ o.rest));
      one = o.one;
      mid = o.mid;
      between = o.between;
      put = puts_along seen old mid o.mid a b o.between xs o.whole one o.put;
      stop = o.stop;
    })

-- some of the first is some of both
pub puts_some_more : {W : Type 0} (seen : Seen W) (old new : Option (List ℕ)) (a b : List W) (xs ys : List Piece) →
    PutsSome seen old new a b xs → PutsSome seen old new a b (xs ++ ys)
puts_some_more seen old new a b xs ys part =
    let o = part.order in
    puts_some_of seen old new a b (xs ++ ys) (record {
      whole = o.whole;
      next = o.next;
      rest = o.rest ++ ys;
      split = ap (λ (t : List Piece). t ++ ys) o.split ∙ append_assoc o.whole (o.next ++ o.rest) ys ∙ ap (λ (t : List Piece). o.whole ++ t) (append_assoc o.next o.rest ys);
      one = o.one;
      mid = o.mid;
      between = o.between;
      put = o.put;
      stop = o.stop;
    })

-- where nothing was put out, some of it was
pub puts_some_none : {W : Type 0} (seen : Seen W) (old : Option (List ℕ)) (ws : List W) (xs : List Piece) → PutsSome seen old old ws ws xs
puts_some_none seen old ws xs =
    puts_some_of seen old old ws ws xs (record {
      whole = [];
      next = [];
      rest = xs;
      split = refl;
      one = omega arith;
      mid = old;
      between = ws;
      put = puts_none seen old ws;
      stop = inl (Keeps-refl old, hears_some_none seen ws []);
    })

-- an event and its line: nothing of the line is written, or each watcher has heard the event
pub puts_told_some : {W : Type 0} (seen : Seen W) (old new : Option (List ℕ)) (a b : List W) (x : Entry) → StopsIn seen old new a b (Told x ∷ []) → PutsSome seen old new a b (Told x ∷ [])
puts_told_some seen old new a b x stop =
    puts_some_of seen old new a b (Told x ∷ []) (record {
      whole = [];
      next = Told x ∷ [];
      rest = [];
      split = refl;
      one = omega arith;
      mid = old;
      between = a;
      put = puts_none seen old a;
      stop = stop;
    })
