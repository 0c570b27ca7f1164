-- What the parts take of others, from facts that are said phase by phase.
use Rattle.std.proofs.Common.{ℕ, ◌≡◌, ◌≤◌, ◌<◌, ◌+◌, true, Some, ap, refl, arith}
use Rattle.std.proofs.lemmas.Option.{slice_get_within}
use Rattle.std.specs.Prelude.{◌==◌, length, slice_get, List}
use Rattle.std.specs.List.{IsDistinct, list_any}
use Rattle.wfe_core.specs.words.Place.{Place}
use Rattle.wfe_core.specs.words.Place.Place.{Life}
use Rattle.wfe_core.specs.words.declared.config.Config.{Config}
use Rattle.wfe_core.specs.defs.declared.call.Answer.{Answer}
use Rattle.wfe_core.specs.defs.declared.lifetime.Lifetime.{Lifetime}
use Rattle.wfe_core.specs.CallReady.{slots_of, RetireFits}
use Rattle.wfe_core.specs.Desks.{Desk}
use Rattle.wfe_core.specs.Locals.{busy_in}
use Rattle.wfe_core.specs.Phases.{RetireAt, Base}
use Rattle.wfe_core.specs.Phases.RetireAt.{LoadLife}
use Rattle.wfe_core.specs.Phases.Base.{Retire}
use Rattle.wfe_core.specs.Calls.{Why, Retires, AfterScan, Work, KeepAt, TakeList, Keeping, ScanAt, ReadGuard, GiveBack, Phase, Idle, Runs, Scans, Works}
use Rattle.inv_rows.specs.Shapes.Eras.{retire_needs, base_life, life_needs}
use Rattle.inv_rows.specs.Shapes.Slots.{scan_lists, work_finds, gift_finds, phase_finds}
use Rattle.inv_rows.specs.Shapes.Code.{why_lists, scan_entry, phase_lists}
use Rattle.wfe_core.proofs.Lists.{fits_length, slots_length}

-- a lifetime word that is loaded was stored
takes_retire : (mem : Place → ℕ) (at : RetireAt) → ((slot : ℕ) → at ≡ LoadLife slot → 0 < mem (Life slot)) → retire_needs at mem
takes_retire mem (LoadLife slot) h = h slot refl
takes_retire mem at h = tt

takes_base : (mem : Place → ℕ) (base : Base) → ((slot : ℕ) → base ≡ Retire (LoadLife slot) → 0 < mem (Life slot)) → base_life base mem
takes_base mem (Retire at) h = takes_retire mem at (λ slot e. h slot (ap Retire e))
takes_base mem base h = tt

pub takes_life : (mem : Place → ℕ) (phase : Phase) → ((why : Why) (slot : ℕ) → phase ≡ Runs why (Retire (LoadLife slot)) → 0 < mem (Life slot)) → life_needs phase mem
takes_life mem (Runs why base) h = takes_base mem base (λ slot e. h why slot (ap (λ (b : Base). Runs why b) e))
takes_life mem phase h = tt

-- rows that are retired, and rows that go back
takes_why : (why : Why) (base : Base) (desk : Desk) → ((answer : Answer) → why ≡ Retires answer → RetireFits base desk) → why_lists why base desk
takes_why (Retires answer) base desk h = h answer refl
takes_why why base desk h = tt

takes_scan : (at : ScanAt) (desk : Desk) → ((place slot : ℕ) → at ≡ GiveBack place slot → slice_get (slots_of desk.list) place ≡ Some slot) → scan_entry at desk
takes_scan (ReadGuard number) desk h = tt
takes_scan (GiveBack place slot) desk h = h place slot refl

pub takes_lists : (phase : Phase) (desk : Desk) → ((answer : Answer) (base : Base) → phase ≡ Runs (Retires answer) base → RetireFits base desk)
    → ((later : AfterScan) (place slot : ℕ) → phase ≡ Scans later (GiveBack place slot) → slice_get (slots_of desk.list) place ≡ Some slot)
    → phase_lists phase desk
takes_lists Idle desk h g = tt
takes_lists (Runs why base) desk h g = takes_why why base desk (λ answer e. h answer base (ap (λ (y : Why). Runs y base) e))
takes_lists (Scans later at) desk h g = takes_scan at desk (λ place slot e. g later place slot (ap (λ (x : ScanAt). Scans later x) e))
takes_lists (Works work) desk h g = tt

-- what a step reads, and how long the list is
takes_listed : (config : Config) (at : ScanAt) (desk : Desk) → length desk.list ≤ config.slots + 1 → ((place slot : ℕ) → at ≡ GiveBack place slot → slice_get (slots_of desk.list) place ≡ Some slot) → scan_lists config desk at
takes_listed config (ReadGuard number) desk l h = l
takes_listed config (GiveBack place slot) desk l h = let a = slice_get_within (slots_of desk.list) place slot (h place slot refl) in let b = slots_length desk.list in omega arith

takes_keep : (config : Config) (at : KeepAt) (desk : Desk) (found : ℕ) → ((place : ℕ) → at ≡ TakeList place → found ≡ 1 → length desk.list + length desk.gift ≤ config.slots + 1) → gift_finds config desk (Keeping at) found
takes_keep config (TakeList place) desk found m = m place refl
takes_keep config at desk found m = tt

takes_work : (config : Config) (work : Work) (desk : Desk) (found : ℕ) → ((place : ℕ) → work ≡ Keeping (TakeList place) → found ≡ 1 → length desk.list + length desk.gift ≤ config.slots + 1) → gift_finds config desk work found
takes_work config (Keeping at) desk found m = takes_keep config at desk found (λ place e. m place (ap Keeping e))
takes_work config work desk found m = tt

pub takes_reads : (config : Config) (desk : Desk) (phase : Phase) (found : ℕ) → (busy_in phase ≡ true → length desk.list ≤ config.slots + 1)
    → ((later : AfterScan) (place slot : ℕ) → phase ≡ Scans later (GiveBack place slot) → slice_get (slots_of desk.list) place ≡ Some slot)
    → ((work : Work) → phase ≡ Works work → work_finds config work found)
    → ((place : ℕ) → phase ≡ Works (Keeping (TakeList place)) → found ≡ 1 → length desk.list + length desk.gift ≤ config.slots + 1)
    → phase_finds config desk phase found
takes_reads config desk Idle found l g f m = tt
takes_reads config desk (Runs why base) found l g f m = tt
takes_reads config desk (Scans later at) found l g f m = takes_listed config at desk (l refl) (λ place slot e. g later place slot (ap (λ (x : ScanAt). Scans later x) e))
takes_reads config desk (Works work) found l g f m = (f work refl, takes_work config work desk found (λ place e. m place (ap Works e)))

-- a list of rows of the table, none of which is on it twice, is no longer than the rows
pub few_listed : (lives : List Lifetime) (slots : ℕ) → IsDistinct ◌==◌ (slots_of lives) → ((slot : ℕ) → list_any (◌==◌ slot) (slots_of lives) ≡ true → slot < slots + 1) → length lives ≤ slots + 1
few_listed lives slots a b = fits_length lives slots (slots + 1) (record { apart = a; below = b; room = omega arith })
