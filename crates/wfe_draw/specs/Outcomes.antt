-- What the program writes, by what came of it.
use Rattle.std.specs.Prelude.{ℕ, ◌≡◌, List, [], Option}
use Rattle.std.specs.Io.KnownBytes.{Appends}
use Rattle.wfe_server_out.specs.Some.{AppendsSome}
use Rattle.wfe_draw_lives.specs.declared.scene.Picture.{Picture}
use Rattle.wfe_draw_page.specs.Pages.{IsPage}
use Rattle.wfe_draw.specs.Records.{IsPicture, IsStopped}
use Rattle.wfe_draw.specs.declared.command.Outcome.{Outcome}
use Rattle.wfe_draw.specs.declared.command.Outcome.TheVariants as outcomes
use Rattle.wfe_draw.specs.declared.stop.Stop.{Stop}
use Rattle.wfe_draw.specs.declared.stop.Stop.TheVariants as stops

-- the page of a picture of the source's record, up to the last line of the part
pub record Shows (last : ℕ) (before left : Option (List ℕ)) (page : List ℕ) : Type 0 where
  pub picture : Picture
  pub is : IsPicture last before left picture
  pub columns : ℕ
  pub shown : IsPage picture.bars.items picture.before columns page

-- A picture was written, or its first bytes up to a fault of the sink; or nothing, and where the record is bad its first bad line is named.
abbrev pub Does : ℕ → Outcome → (before left : Option (List ℕ)) → (old new : Option (List ℕ)) → Type 0
Does last outcomes.Drawn before left old new = (page : List ℕ) × Shows last before left page × Appends old new page
Does last outcomes.WriteFault before left old new = (page : List ℕ) × Shows last before left page × AppendsSome old new page
Does last (outcomes.BadRecord line reason) before left old new = IsStopped [] before left (stops.BadRecord line reason) × (new ≡ old)
Does last outcome before left old new = new ≡ old

abbrev pub outcome_of : Stop → Outcome
outcome_of stops.NoMemory = outcomes.NoMemory
outcome_of (stops.BadRecord line reason) = outcomes.BadRecord line reason
outcome_of stops.TooLarge = outcomes.TooLarge

-- without words the part goes to the end of any record
pub record DoesBy {W : Type 0} (words : List W) (outcome : Outcome) (before left old new : Option (List ℕ)) : Type 0 where
  pub last : ℕ
  pub whole : words ≡ [] → last ≡ 18446744073709551615
  pub does : Does last outcome before left old new
