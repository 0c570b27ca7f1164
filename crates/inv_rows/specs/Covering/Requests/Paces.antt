-- How many steps a protection of Wait-Free Eras has made, by where it stands.
use Rattle.std.specs.Prelude.{ℕ, ◌≡◌, Bool, true, false, not, nat_le, nat_lt, ◌&&◌, ◌||◌, ◌+◌, ◌*◌, ◌≤◌, ◌==◌}
use Rattle.inv_rows.specs.words.declared.config.Config.{Config}
use Rattle.inv_rows.specs.model.Phases.{Aim, Tries, Endless, Failed, ProtectAt, MoveAt, Base, Outcome, Goes, Ends}
use Rattle.inv_rows.specs.model.Phases.ProtectAt.{LoadClock, PublishEra, LoadLink, CheckClock, PublishRequest, LoadOwnClock, PublishHelper, LoadOwnLink, CheckOwnClock, AnswerOwn, LoadAnswer, TakeAnswer, WithdrawRequest, WithdrawHelper}
use Rattle.inv_rows.specs.model.Phases.Base.{Begin, Protect, Reload, Clear, Finish, Release, Allocate, Write, GiveUp, Retire, Move}
use Rattle.inv_rows.specs.model.Phases.MoveAt.{LoadEra}
use Rattle.inv_rows.specs.model.Machine.{move_turn}
use Rattle.inv_rows.specs.model.Posts.{counted}
use Rattle.inv_rows.specs.model.Calls.{Why, Phase, Idle, Runs, Scans, Works}
use Rattle.inv_rows.specs.defs.declared.event.Root.{Root}
use Rattle.inv_rows.specs.model.Rest.{protect_left, protect_most, move_left}
use Rattle.inv_rows.specs.model.World.{World, finds}
use Rattle.inv_rows.specs.words.Schemes.{counts_tries}

-- the steps made and those that are left are no more than a protection takes, while at most so many tries have failed
abbrev pub try_paced : Config → ℕ → ProtectAt → Bool → Tries → Bool
try_paced c steps at more Endless = true
try_paced c steps at more (Failed count) = (nat_lt count c.tries || (not more && count == c.tries)) && nat_le (steps + protect_left c at) (protect_most c)

abbrev pub first_paced : ℕ → Tries → Bool
first_paced steps Endless = true
first_paced steps (Failed count) = count == 0 && steps == 0

abbrev pub paced : Config → ℕ → ProtectAt → Bool
paced c steps (LoadClock tries) = first_paced steps tries
paced c steps (PublishEra era tries) = try_paced c steps (PublishEra era tries) false tries
paced c steps (LoadLink era tries) = try_paced c steps (LoadLink era tries) true tries
paced c steps (CheckClock era tries link) = try_paced c steps (CheckClock era tries link) true tries
paced c steps PublishRequest = nat_le (steps + protect_left c PublishRequest) (protect_most c)
paced c steps LoadOwnClock = nat_le (steps + protect_left c LoadOwnClock) (protect_most c)
paced c steps (PublishHelper first era last) = nat_le (steps + protect_left c (PublishHelper first era last)) (protect_most c)
paced c steps (LoadOwnLink first era last) = nat_le (steps + protect_left c (LoadOwnLink first era last)) (protect_most c)
paced c steps (CheckOwnClock first era last link) = nat_le (steps + protect_left c (CheckOwnClock first era last link)) (protect_most c)
paced c steps (AnswerOwn first era link) = nat_le (steps + protect_left c (AnswerOwn first era link)) (protect_most c)
paced c steps (LoadAnswer first) = nat_le (steps + protect_left c (LoadAnswer first)) (protect_most c)
paced c steps (TakeAnswer link era) = nat_le (steps + protect_left c (TakeAnswer link era)) (protect_most c)
paced c steps (WithdrawRequest link era) = nat_le (steps + protect_left c (WithdrawRequest link era)) (protect_most c)
paced c steps (WithdrawHelper link era) = nat_le (steps + protect_left c (WithdrawHelper link era)) (protect_most c)
paced c steps at = true

-- a reload is one step more
abbrev pub reload_paced : Config → ℕ → Bool → Bool
reload_paced c steps true = nat_le steps (protect_most c)
reload_paced c steps false = true

abbrev pub base_paced : Config → Base → Bool
base_paced c (Begin at) = true
base_paced c (Protect aim index root steps at) = paced c steps at
base_paced c (Reload parent index slot era steps) = reload_paced c steps (counts_tries c.scheme)
base_paced c base = true

abbrev pub phase_paced : Config → Phase → Bool
phase_paced c Idle = true
phase_paced c (Runs why base) = base_paced c base
phase_paced c (Scans later at) = true
phase_paced c (Works work) = true

pub record Paces (w : World) : Type 0 where
  pub paced : (k : ℕ) → phase_paced w.layout.config (w.seat k).phase ≡ true

-- under Wait-Free Eras the next step of a protection, or of its reload, is no later than its last
pub record InTime (w : World) (k : ℕ) : Type 0 where
  pub protects : (why : Why) (aim : Aim) (index : ℕ) (root : Root) (steps : ℕ) (at : ProtectAt) → counts_tries w.layout.config.scheme ≡ true
      → (w.seat k).phase ≡ Runs why (Protect aim index root steps at) → steps + 1 ≤ 3 * w.layout.config.tries + 14
  -- where Held or Null is told with the last try, and with the taking of an answer
  pub tries : (why : Why) (aim : Aim) (index : ℕ) (root : Root) (steps era : ℕ) (tries : Tries) (link : ℕ) → counts_tries w.layout.config.scheme ≡ true
      → (w.seat k).phase ≡ Runs why (Protect aim index root steps (CheckClock era tries link)) → steps + 1 ≤ 3 * w.layout.config.tries + 1
  pub takes : (why : Why) (aim : Aim) (index : ℕ) (root : Root) (steps link era : ℕ)
      → (w.seat k).phase ≡ Runs why (Protect aim index root steps (TakeAnswer link era)) → steps + 1 ≤ 3 * w.layout.config.tries + 12
  pub reloads : (why : Why) (parent index slot era steps : ℕ) → counts_tries w.layout.config.scheme ≡ true
      → (w.seat k).phase ≡ Runs why (Reload parent index slot era steps) → steps + 1 ≤ 3 * w.layout.config.tries + 15

-- the machine is still the move, with fewer steps left
abbrev pub base_falls : Config → ℕ → Base → Type 0
base_falls c left (Begin at) = ⊥
base_falls c left (Protect aim index root steps at) = ⊥
base_falls c left (Reload parent index slot era steps) = ⊥
base_falls c left (Clear rows index) = ⊥
base_falls c left Finish = ⊥
base_falls c left (Release index) = ⊥
base_falls c left (Allocate at) = ⊥
base_falls c left (Write slot row place) = ⊥
base_falls c left (GiveUp slot) = ⊥
base_falls c left (Retire at) = ⊥
base_falls c left (Move at) = move_left at c + 1 ≤ left

-- a move of the clock ends, or goes on with fewer steps left
abbrev pub Falls : Config → ℕ → Outcome → Type 0
Falls c left (Goes base) = base_falls c left base
Falls c left (Ends ending) = 1 ≤ left

-- each step of a mover leaves fewer steps; at the first of them `7 * seats + 3` are left
pub record MovesOn (w : World) (k : ℕ) : Type 0 where
  pub falls : (why : Why) (at : MoveAt) → (w.seat k).phase ≡ Runs why (Move at) → Falls w.layout.config (move_left at w.layout.config) (move_turn at (counted (w.seat k).post) (finds w k)).outcome
  pub first : (helps : Bool) → move_left (LoadEra helps) w.layout.config ≡ 7 * w.layout.config.seats + 3
