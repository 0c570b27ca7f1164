-- One slot of the walk: passed over where it was shown taken, and the next to try where it was not.
use Rattle.std.proofs.Common.{◌≡◌, ℕ, suc, true, false, Some, refl}
use Rattle.wfe_core.specs.Allocate.{is_claimed, next_slot, shown_of, walk_on}
use Rattle.wfe_core.specs.Phases.{Walk}

pub passed : (slots left rest slot next shown : ℕ) (walk : Walk) → left ≡ suc rest → next ≡ next_slot slots slot → shown ≡ shown_of walk next → is_claimed shown next ≡ true → walk_on slots walk rest next ≡ walk_on slots walk left slot
passed slots left rest slot next shown walk more at sees taken = rw more (rw (← at, walk_on) (rw (← sees) (rw taken (rw at refl))))

pub found_free : (slots left rest slot next shown : ℕ) (walk : Walk) → left ≡ suc rest → next ≡ next_slot slots slot → shown ≡ shown_of walk next → is_claimed shown next ≡ false → Some (record walk { slot = next; left = rest; shown = shown }) ≡ walk_on slots walk left slot
found_free slots left rest slot next shown walk more at sees free =
    rw more (rw (← at, walk_on) (rw (← sees) (rw free (rw sees (rw at refl)))))
