-- What a step of one seat needs to know, besides where it stands.
use Rattle.std.specs.Prelude.{ℕ, ◌≡◌, ◌≤◌, ◌<◌, ◌+◌, ◌&&◌, Bool, true, false, nat_lt, length}
use Rattle.inv_rows.specs.words.Place.{Place, has, is_valid}
use Rattle.inv_rows.specs.words.declared.layout.Layout.{Layout}
use Rattle.inv_rows.specs.defs.declared.event.Root.{Root}
use Rattle.inv_rows.specs.model.Links.{link_place}
use Rattle.inv_rows.specs.model.Phases.{Base}
use Rattle.inv_rows.specs.model.Phases.Base.{Begin, Protect}
use Rattle.inv_rows.specs.model.Calls.{Phase, Idle, Runs, Scans, Works}
use Rattle.inv_rows.specs.model.Locals.{Local}
use Rattle.inv_rows.specs.words.Schemes.{helps}
use Rattle.inv_rows.specs.Covering.Requests.Views.{View}
use Rattle.inv_rows.specs.Covering.Requests.Roles.{is_turn}
use Rattle.inv_rows.specs.Covering.Requests.Standing.{Facts}

-- index and root of a protection are of the table, and so is the index that is cleared
abbrev pub guards_there : Layout → Base → Bool
guards_there layout (Begin at) = true
guards_there layout (Protect aim index root steps at) = nat_lt index layout.config.indexes && has layout (link_place root)
guards_there layout base = true

abbrev pub phase_there : Layout → Phase → Bool
phase_there layout Idle = true
phase_there layout (Runs why base) = guards_there layout base
phase_there layout (Scans later at) = true
phase_there layout (Works work) = true

-- seat i, which is to step
pub record At (mem : Place → ℕ) (seat : ℕ → Local) (i : ℕ) (v : View) : Type 0 where
  pub facts : Facts (seat i).post.layout mem seat v
  pub below : i < (seat i).post.layout.config.seats
  pub number : (seat i).post.seat ≡ i
  pub eight : length (seat i).post.tags ≡ 8
  pub valid : is_valid (seat i).post.layout ≡ true
  -- a protection's index and root are of the table
  pub inside : (k : ℕ) → phase_there (seat i).post.layout (seat k).phase ≡ true
  -- a word that holds links holds one in range
  pub links : (root : Root) → has (seat i).post.layout (link_place root) ≡ true → mem (link_place root) ≤ (seat i).post.layout.config.slots + 1
  -- requests are made under Wait-Free Eras alone
  pub alone : (k : ℕ) → helps (seat i).post.layout.config.scheme ≡ false → is_turn (v.role k) ≡ false
