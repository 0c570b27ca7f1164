-- What C is told of a seat and its table.
use Rattle.std.specs.Prelude.{MatchOption, Some, if◌then◌else◌, length, nat_lt, ℕ, ◌≡◌}
use Rattle.wfe_table.specs.logs.Versions.{seen_in}
use Rattle.wfe_table.specs.rule.Views.{seat_of}
use Rattle.wfe_c.specs.Called.{Lacks}
use Rattle.wfe_c.specs.Handle.{lack}
use Rattle.wfe_c.specs.Joined.{table_of}
use Rattle.wfe_c.specs.Place.{seat_in}
use Rattle.wfe_c.specs.Setting.{setting_of, zeros}
use Rattle.wfe_c.specs.Told.{says, says_at}
use Rattle.wfe_c.specs.declared.about.CAbout.{CAbout}
use Rattle.wfe_c.specs.declared.answer.CAnswer.{CAnswer}
use Rattle.wfe_c.specs.declared.handle.SeatHandle.{SeatHandle}
use Rattle.wfe_c.specs.declared.joined.Joined.{Joined}

abbrev pub about_of : Joined → CAbout
about_of joined =
    record {
      code = 0;
      number = seat_of joined.seat.track;
      listed = length joined.seat.track.local.desk.list;
      setting = setting_of (table_of joined).layout.config;
    }

abbrev pub lacking : ℕ → CAbout
lacking code = record { code = code; number = 0; listed = 0; setting = zeros }

-- the version that the seat has seen of a bucket that the table has
abbrev pub seen_of : Joined → ℕ → CAnswer
seen_of joined bucket = let buckets = (table_of joined).layout.config.buckets in if nat_lt bucket buckets then says_at 0 (seen_in buckets bucket joined.seat.track.local.log) else says 4

pub record LacksAbout (before after : SeatHandle) (told : CAbout) : Type 0 where
  pub same : after ≡ before
  pub tells : told ≡ lacking (lack before.state)

-- the seat stays there, and is told of
pub record HasAbout (old : Joined) (after : SeatHandle) (told : CAbout) : Type 0 where
  pub is : seat_in after.place.inside ≡ Some old
  pub tells : told ≡ about_of old

abbrev pub IsAbout : SeatHandle → SeatHandle → CAbout → Type 0
IsAbout before after told = MatchOption (seat_in before.place.inside) (LacksAbout before after told) (λ old. HasAbout old after told)

pub record HasSeen (old : Joined) (after : SeatHandle) (bucket : ℕ) (told : CAnswer) : Type 0 where
  pub is : seat_in after.place.inside ≡ Some old
  pub tells : told ≡ seen_of old bucket

abbrev pub IsSeen : SeatHandle → SeatHandle → ℕ → CAnswer → Type 0
IsSeen before after bucket told = MatchOption (seat_in before.place.inside) (Lacks before after told) (λ old. HasSeen old after bucket told)
