-- What work puts out: bytes to a sink, and events to each watcher.
use Rattle.std.specs.Prelude.{◌≡◌, ◌≤◌, ◌⊎◌, ℕ, List, [], ◌∷◌, ◌++◌, Option, length}
use Rattle.std.specs.Io.KnownBytes.{Appends, Keeps}
use Rattle.wfe_server_out.specs.Some.{AppendsSome}
use Rattle.wfe_server_out.specs.Pieces.{Piece, text_of, heard_of}
use Rattle.wfe_server_out.specs.Heard.{Hears, HearsSome, Seen}
use Rattle.wfe_server_out.specs.Sizes.{AreSized}

-- the pieces were put out, and nothing else; each number of an event has the bits of its type
pub record PutsOut {W : Type 0} (seen : Seen W) (old new : Option (List ℕ)) (before after : List W) (out : List Piece) : Type 0 where
  pub wrote : Appends old new (text_of out)
  pub heard : Hears seen before after (heard_of out)
  pub sized : AreSized out

-- Nothing more was written of the next piece, though some watchers may have heard of it; or each watcher has heard of it, and a part of it was written.
abbrev pub StopsIn : {W : Type 0} → Seen W → (old new : Option (List ℕ)) → (before after : List W) → List Piece → Type 0
StopsIn seen old new before after next =
    (Keeps old new × HearsSome seen before after (heard_of next)) ⊎ (AppendsSome old new (text_of next) × Hears seen before after (heard_of next))

-- One piece after another was put out, up to the next ones, which tell of one event at most.
pub record PutsInOrder {W : Type 0} (seen : Seen W) (old new : Option (List ℕ)) (before after : List W) (out : List Piece) : Type 0 where
  pub whole : List Piece
  pub next : List Piece
  pub rest : List Piece
  pub split : out ≡ whole ++ (next ++ rest)
  pub one : length (heard_of next) ≤ 1
  pub mid : Option (List ℕ)
  pub between : List W
  pub put : PutsOut seen old mid before between whole
  pub stop : StopsIn seen mid new between after next

-- Some first bytes of the pieces were written, each watcher has heard some first entries of them, and of each event before its line.
pub record PutsSome {W : Type 0} (seen : Seen W) (old new : Option (List ℕ)) (before after : List W) (out : List Piece) : Type 0 where
  pub wrote : AppendsSome old new (text_of out)
  pub heard : HearsSome seen before after (heard_of out)
  pub order : PutsInOrder seen old new before after out

-- a write failed in a piece: those before it are whole, a part of it is written, and each watcher has heard of it
pub record FailsToWrite {W : Type 0} (seen : Seen W) (old new : Option (List ℕ)) (before after : List W) (out : List Piece) : Type 0 where
  pub whole : List Piece
  pub piece : Piece
  pub rest : List Piece
  pub split : out ≡ whole ++ piece ∷ rest
  pub mid : Option (List ℕ)
  pub wrote : Appends old mid (text_of whole)
  pub part : AppendsSome mid new (text_of (piece ∷ []))
  pub heard : Hears seen before after (heard_of (whole ++ piece ∷ []))

-- a watcher had no memory for a piece: those before it are whole, nothing of it is written, and some watchers may have heard of it
pub record FailsToTell {W : Type 0} (seen : Seen W) (old new : Option (List ℕ)) (before after : List W) (out : List Piece) : Type 0 where
  pub whole : List Piece
  pub piece : Piece
  pub rest : List Piece
  pub split : out ≡ whole ++ piece ∷ rest
  pub wrote : Appends old new (text_of whole)
  pub mid : List W
  pub heard : Hears seen before mid (heard_of whole)
  pub part : HearsSome seen mid after (heard_of (piece ∷ []))
