-- A reader and what it has noted, as they stand for the bytes that came.
use Rattle.std.specs.Prelude.{◌≡◌, ◌⊎◌, ◌≤◌, ◌<◌, ◌+◌, ◌++◌, ◌∷◌, [], ℕ, nat_le, List, Result, Ok, Err, length, if◌then◌else◌}
use Rattle.model_record.specs.Record.{Past}
use Rattle.model_record.specs.Record.Past.{Then}
use Rattle.wfe_defs.specs.declared.event.Event.{Event}
use Rattle.wfe_check_lines.specs.Reading.{Reading, after_byte, after_last, after_line, came, finished}
use Rattle.wfe_check_lines.specs.declared.stops.BadLine.{BadLine}
use Rattle.wfe_draw_lives.specs.Lives.{count_in}
use Rattle.wfe_draw_lives.specs.Scenes.{Shows}
use Rattle.wfe_draw_lives.specs.declared.scene.Scene.{Scene}
use Rattle.wfe_draw.specs.Lines.{IsAt}
use Rattle.wfe_draw.specs.declared.reader.Reader.{Reader}
use Rattle.wfe_draw.specs.declared.stop.Stop.{Stop}
use Rattle.wfe_draw.specs.declared.stop.Stop.TheVariants as stops

-- why no more is taken, where a line is bad: it is the one that is named. Where memory ran out, or there is too much to draw, nothing is said.
abbrev pub IsWhy : Stop → Result Reading BadLine → Type 0
IsWhy (stops.BadRecord line reason) next = next ≡ Err (record { line = line; reason = reason })
IsWhy stop next = Unit {0}

-- it names no line
abbrev pub NamesNone : Stop → Type 0
NamesNone (stops.BadRecord line reason) = ⊥
NamesNone stop = Unit {0}

-- the reader is the record's reading, and draws no line after the last
pub record IsReading (last : ℕ) (reader : Reader) (r : Reading) : Type 0 where
  pub line : reader.line.items ≡ r.line
  pub bytes : reader.bytes ≡ r.count
  pub few : r.count ≤ 1073741824
  pub lines : reader.lines ≡ r.lines
  pub within : r.lines + length r.line ≤ r.count
  pub entries : reader.entries ≡ count_in r.told.entries
  pub fewer : count_in r.told.entries ≤ r.lines
  pub place : IsAt reader.place r.told.stage
  pub end : reader.part.last ≡ last

-- the entries with one more, if its line is not after the last
abbrev pub noted : (last line : ℕ) → Past → ℕ → Event → Past
noted last line p seat event = if nat_le line last then Then p seat event else p

-- the scene shows the entries p, all of the reading's, unless lines after the last were read
pub record Stands (last : ℕ) (reader : Reader) (scene : Scene) (r : Reading) (p : Past) : Type 0 where
  pub reading : IsReading last reader r
  pub shows : Shows scene p
  pub all : r.lines ≤ last → p ≡ r.told.entries

-- the line under way was taken
pub record TakenLine (last : ℕ) (r : Reading) (p : Past) (reader : Reader) (scene : Scene) : Type 0 where
  pub after : Reading
  pub is : after_line r ≡ Ok after
  pub lines : after.lines ≡ r.lines + 1
  pub now : Past
  pub stands : Stands last reader scene after now
  pub kept : last ≤ r.lines → now ≡ p

abbrev pub TakesLine : {T : Type 0} → ℕ → Result T Stop → Reading → Past → Reader → Scene → Type 0
TakesLine last (Ok x) r p reader scene = TakenLine last r p reader scene
TakesLine last (Err stop) r p reader scene = IsWhy stop (after_line r)

-- p are the entries of the lines up to the last of the part, and more lines were read
pub record IsCut (last : ℕ) (taken : List ℕ) (r : Reading) (p : Past) : Type 0 where
  pub first : List ℕ
  pub rest : List ℕ
  pub are : taken ≡ first ++ rest
  pub before : Reading
  pub text : came first ≡ Ok before
  pub lines : before.lines ≡ last
  pub entries : p ≡ before.told.entries
  pub past : last < r.lines

-- p are the entries of the lines that were read, up to the last of the part
abbrev pub IsUpTo : (last : ℕ) → List ℕ → Reading → Past → Type 0
IsUpTo last taken r p = ((r.lines ≤ last) × (p ≡ r.told.entries)) ⊎ IsCut last taken r p

-- the bytes were taken, none of them bad
pub record Holds (last : ℕ) (taken : List ℕ) (reader : Reader) (scene : Scene) : Type 0 where
  pub r : Reading
  pub text : came taken ≡ Ok r
  pub reading : IsReading last reader r
  pub p : Past
  pub up_to : IsUpTo last taken r p
  pub shows : Shows scene p

-- the next byte was taken, or is bad
pub record IsRefused (taken : List ℕ) (byte : ℕ) (stop : Stop) : Type 0 where
  pub before : Reading
  pub text : came taken ≡ Ok before
  pub why : IsWhy stop (after_byte before byte)

abbrev pub TakesByte : {T : Type 0} → ℕ → Result T Stop → List ℕ → ℕ → Reader → Scene → Type 0
TakesByte last (Ok x) taken byte reader scene = Holds last (taken ++ byte ∷ []) reader scene
TakesByte last (Err stop) taken byte reader scene = IsRefused taken byte stop

-- of bytes one is bad, and none before it
pub record IsBadIn (taken : List ℕ) (stop : Stop) : Type 0 where
  pub first : List ℕ
  pub byte : ℕ
  pub rest : List ℕ
  pub are : taken ≡ first ++ byte ∷ rest
  pub refused : IsRefused first byte stop

abbrev pub TakesBytes : {T : Type 0} → ℕ → Result T Stop → List ℕ → List ℕ → Reader → Scene → Type 0
TakesBytes last (Ok x) taken bytes reader scene = Holds last (taken ++ bytes) reader scene
TakesBytes last (Err stop) taken bytes reader scene = IsBadIn (taken ++ bytes) stop

-- the record ends after these bytes, and its last line was taken
pub record HasLast (last : ℕ) (taken : List ℕ) (reader : Reader) (scene : Scene) : Type 0 where
  pub r : Reading
  pub text : came taken ≡ Ok r
  pub whole : Reading
  pub ends : after_last r ≡ Ok whole
  pub reading : IsReading last reader whole
  pub p : Past
  pub up_to : IsUpTo last taken whole p
  pub shows : Shows scene p

-- or is bad
pub record LastIsBad (taken : List ℕ) (stop : Stop) : Type 0 where
  pub r : Reading
  pub text : came taken ≡ Ok r
  pub why : IsWhy stop (after_last r)

abbrev pub TakesLast : {T : Type 0} → ℕ → Result T Stop → List ℕ → Reader → Scene → Type 0
TakesLast last (Ok x) taken reader scene = HasLast last taken reader scene
TakesLast last (Err stop) taken reader scene = LastIsBad taken stop

-- the record ends there, and p are its entries up to the last line of the part
pub record IsWhole (last : ℕ) (taken : List ℕ) (p : Past) : Type 0 where
  pub r : Reading
  pub text : came taken ≡ Ok r
  pub whole : Reading
  pub ends : finished r ≡ Ok whole
  pub up_to : IsUpTo last taken whole p

-- or can't end there
pub record IsUnended (taken : List ℕ) (stop : Stop) : Type 0 where
  pub r : Reading
  pub text : came taken ≡ Ok r
  pub why : IsWhy stop (finished r)

abbrev pub Finishes : {T : Type 0} → ℕ → Result T Stop → List ℕ → Reader → Scene → Type 0
Finishes last (Ok x) taken reader scene = (p : Past) × IsWhole last taken p × Shows scene p
Finishes last (Err stop) taken reader scene = IsUnended taken stop
