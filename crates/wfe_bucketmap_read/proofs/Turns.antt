-- What a get's reads lead to, as turns of the model.
use Rattle.std.proofs.Common.{ℕ, ◌≡◌, ◌+◌, Bool, true, false, [], Option, Some, None, refl, sym}
use Rattle.std.specs.Prelude.{◌==◌, nat_lt}
use Rattle.wfe_core.specs.declared.post.Post.{Post}
use Rattle.wfe_core.specs.Calls.{Gets, GetAt, FindVersion, FindCount, FindKey, FindValue}
use Rattle.wfe_core.specs.Desks.{Desk}
use Rattle.wfe_core.specs.Posts.{counted}
use Rattle.wfe_core.specs.Get.{got, finding, found_key, get_turn}
use Rattle.wfe_call_rounds.specs.iface.Schemes.{RoundPhases}
use Rattle.wfe_call_rounds.proofs.Taken.{round_counted}
use Rattle.wfe_bucketmap_read.specs.declared.get_at.GetAt.{GetAt as Where}
use Rattle.wfe_bucketmap_read.specs.declared.get_at.GetAt.TheVariants as ats
use Rattle.wfe_bucketmap_read.specs.Gets.{get_phase}
use Rattle.wfe_bucketmap_read.specs.Finds.{Gives, pair_more, key_by, found_by}

finding_gives : (key slot version count pair last : ℕ) (value : Option ℕ) (post : Post) (desk : Desk) (more : Bool) → pair_more slot version count pair more ≡ Gives last value → finding key slot version count post desk more pair ≡ got key last value post desk []
finding_gives key slot version count pair last value post desk true e = absurd (cc)
finding_gives key slot version count pair last value post desk false e =
    let same : version ≡ last = cc in
    let none : None ≡ value = cc in
    rw (← same, ← none) refl

key_gives : (key slot version count pair last : ℕ) (value : Option ℕ) (post : Post) (desk : Desk) (own : Bool) → key_by slot version count pair own ≡ Gives last value → found_key key slot version count pair post desk own ≡ got key last value post desk []
key_gives key slot version count pair last value post desk true e = absurd (cc)
key_gives key slot version count pair last value post desk false e =
    finding_gives key slot version count (pair + 1) last value post desk (nat_lt (pair + 1) count) e

gives_by : (key : ℕ) (at : GetAt) (post : Post) (desk : Desk) (found last : ℕ) (value : Option ℕ) → found_by key at found ≡ Gives last value → get_turn key at post desk found ≡ got key last value post desk []
gives_by key (FindVersion slot) post desk found last value e = absurd (cc)
gives_by key (FindCount slot version) post desk found last value e = finding_gives key slot version found 0 last value post desk (nat_lt 0 found) e
gives_by key (FindKey slot version count pair) post desk found last value e = key_gives key slot version count pair last value post desk (found == key) e
gives_by key (FindValue slot version pair) post desk found last value e =
    let same : version ≡ last = cc in
    let some : Some found ≡ value = cc in
    rw (← same, ← some) refl

-- a read that gives the value tells it
pub get_gives : (key : ℕ) (at : GetAt) (post : Post) (desk : Desk) (found last : ℕ) (value : Option ℕ) → Gives last value ≡ found_by key at found → get_turn key at post desk found ≡ got key last value post desk []
get_gives key at post desk found last value e = gives_by key at post desk found last value (sym e)

-- where a get stands does not depend on how many steps it has made
pub get_phase_counted : {B P C F : Type 0} (phases : RoundPhases B P C F) (key : ℕ) (at : Where B P C F) (post : Post) → get_phase phases key at post ≡ get_phase phases key at (counted post)
get_phase_counted phases key ats.Starts post = round_counted (Gets key) post
get_phase_counted phases key (ats.Opens opening) post = refl
get_phase_counted phases key (ats.Finds find) post = refl
get_phase_counted phases key (ats.Closes closing version value) post = refl
