-- What is drawn of the record that a source has.
use Rattle.std.specs.Prelude.{◌≡◌, ◌⊎◌, ◌<◌, ◌++◌, [], ℕ, List, Option, None, Some, Result, Ok, Err, length}
use Rattle.std.specs.Io.KnownBytes.{Consumes, IsAtEnd}
use Rattle.model_record.specs.Record.{Past}
use Rattle.wfe_draw_lives.specs.Scenes.{Draws}
use Rattle.wfe_draw_lives.specs.declared.scene.Picture.{Picture}
use Rattle.wfe_draw_lives.specs.declared.scene.Scene.{Scene}
use Rattle.wfe_draw.specs.Readers.{Holds, IsBadIn, IsUnended, IsWhole}
use Rattle.wfe_draw.specs.declared.reader.Reader.{Reader}
use Rattle.wfe_draw.specs.declared.record.Ending.{Ending}
use Rattle.wfe_draw.specs.declared.record.Ending.TheVariants as endings
use Rattle.wfe_draw.specs.declared.stop.Stop.{Stop}
use Rattle.wfe_draw.specs.declared.stop.Stop.TheVariants as stops
use Rattle.wfe_draw.specs.declared.stop.Unread.{Unread}
use Rattle.wfe_draw.specs.declared.stop.Unread.TheVariants as unreads

-- more bytes came, none of them bad
pub record Goes (last : ℕ) (taken : List ℕ) (before left : Option (List ℕ)) (reader : Reader) (scene : Scene) : Type 0 where
  pub more : List ℕ
  pub some : 0 < length more
  pub consumed : Consumes before left more
  pub holds : Holds last (taken ++ more) reader scene

-- bytes came, of which one is bad, or the last is where the record can't end
pub record IsStopped (taken : List ℕ) (before left : Option (List ℕ)) (stop : Stop) : Type 0 where
  pub more : List ℕ
  pub consumed : Consumes before left more
  pub bad : IsBadIn (taken ++ more) stop ⊎ (IsUnended (taken ++ more) stop × IsAtEnd left)

abbrev pub Turns : ℕ → List ℕ → Option Ending → Option (List ℕ) → Option (List ℕ) → Reader → Scene → Type 0
Turns last taken None before left reader scene = Goes last taken before left reader scene
Turns last taken (Some endings.AtEnd) before left reader scene = Consumes before left [] × IsAtEnd left × Holds last taken reader scene
Turns last taken (Some (endings.Unread (unreads.Stopped stop))) before left reader scene = IsStopped taken before left stop
Turns last taken (Some (endings.Unread unreads.Fault)) before left reader scene = Unit {0}

abbrev pub Reads : ℕ → Ending → Option (List ℕ) → Option (List ℕ) → Reader → Scene → Type 0
Reads last endings.AtEnd before left reader scene = (taken : List ℕ) × Consumes before left taken × IsAtEnd left × Holds last taken reader scene
Reads last (endings.Unread (unreads.Stopped stop)) before left reader scene = IsStopped [] before left stop
Reads last (endings.Unread unreads.Fault) before left reader scene = Unit {0}

abbrev pub Closes : ℕ → List ℕ → Result Picture Stop → Type 0
Closes last taken (Ok picture) = (p : Past) × IsWhole last taken p × Draws p picture.bars.items
Closes last taken (Err stop) = IsUnended taken stop

-- The source was read to its end, and the picture's bars are those of the entries of its lines up to the last of the part.
pub record IsPicture (last : ℕ) (before left : Option (List ℕ)) (picture : Picture) : Type 0 where
  pub taken : List ℕ
  pub consumed : Consumes before left taken
  pub at_end : IsAtEnd left
  pub p : Past
  pub whole : IsWhole last taken p
  pub draws : Draws p picture.bars.items

-- where a line is bad it is named
abbrev pub Names : (before left : Option (List ℕ)) → Stop → Type 0
Names before left (stops.BadRecord line reason) = IsStopped [] before left (stops.BadRecord line reason)
Names before left stop = Unit {0}

abbrev pub Pictures : ℕ → Result Picture Unread → Option (List ℕ) → Option (List ℕ) → Type 0
Pictures last (Ok picture) before left = IsPicture last before left picture
Pictures last (Err (unreads.Stopped stop)) before left = Names before left stop
Pictures last (Err unreads.Fault) before left = Unit {0}
