-- What the code of a step takes of other parts besides.
use Rattle.std.specs.Prelude.{ℕ, ◌≡◌, ◌<◌, ◌+◌, slice_get, Some}
use Rattle.wfe_core.specs.declared.post.Post.{Post}
use Rattle.wfe_core.specs.CallReady.{RetireFits, slots_of}
use Rattle.wfe_core.specs.Desks.{Desk}
use Rattle.wfe_core.specs.Posts.{tag_of}
use Rattle.wfe_core.specs.Phases.{ProtectAt, Base}
use Rattle.wfe_core.specs.Phases.ProtectAt.{TakeAnswer}
use Rattle.wfe_core.specs.Phases.Base.{Protect}
use Rattle.wfe_core.specs.Calls.{Why, Retires, ScanAt, ReadGuard, GiveBack, Phase, Idle, Runs, Scans, Works}
use Rattle.wfe_core.specs.World.{World}
use Rattle.inv_rows.specs.Shapes.Slots.{SlotsNeeds}

-- a tag that is about to rise may rise once more
abbrev pub protect_rises : ProtectAt → ℕ → Post → Type 0
protect_rises (TakeAnswer link era) index post = tag_of post index + 1 < 4294967295
protect_rises at index post = Unit {0}

abbrev pub base_rises : Base → Post → Type 0
base_rises (Protect aim index root steps at) post = protect_rises at index post
base_rises base post = Unit {0}

abbrev pub phase_rises : Phase → Post → Type 0
phase_rises (Runs why base) post = base_rises base post
phase_rises phase post = Unit {0}

-- a row that is being retired is not on the list
abbrev pub why_lists : Why → Base → Desk → Type 0
why_lists (Retires answer) base desk = RetireFits base desk
why_lists why base desk = Unit {0}

-- a scan gives back an entry of the list
abbrev pub scan_entry : ScanAt → Desk → Type 0
scan_entry (ReadGuard number) desk = Unit {0}
scan_entry (GiveBack place slot) desk = slice_get (slots_of desk.list) place ≡ Some slot

abbrev pub phase_lists : Phase → Desk → Type 0
phase_lists Idle desk = Unit {0}
phase_lists (Runs why base) desk = why_lists why base desk
phase_lists (Scans later at) desk = scan_entry at desk
phase_lists (Works work) desk = Unit {0}

-- what the other parts give besides
pub record CodeNeeds (w : World) (i : ℕ) : Type 0 where
  -- tags have 32 bits, and may rise
  pub tags : (index : ℕ) → tag_of (w.seat i).post index < 4294967295
  pub rises : phase_rises (w.seat i).phase (w.seat i).post
  -- a row that is retired is not on the list, one that goes back is
  pub lists : phase_lists (w.seat i).phase (w.seat i).desk
  -- what a call reads of a row is in range
  pub reads : SlotsNeeds w i
