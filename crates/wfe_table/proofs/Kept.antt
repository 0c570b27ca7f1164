-- Calls on the rows that a seat keeps at its indexes from 2 on: when they may begin, and that a copy and a look answer the row that stood
-- at their index when they began.
use Rattle.std.proofs.Common.{Bool, List, None, Option, Some, [], ap, false, refl, subst, sym, true, ℕ, ◌+◌, ◌<◌, ◌==◌, ◌∙◌, ◌∷◌, ◌≡◌, ◌≤◌}
use Rattle.std.specs.Prelude.{nat_le, nat_lt, ◌&&◌}
use Rattle.wfe_core.proofs.Facts.{both, le_test, lt_test}
use Rattle.wfe_core.specs.Calls.{Answers, CallOutcome, CallTurn, FindCount, FindKey, FindValue, FindVersion, GetAt, GoesOn, Keeping, LoadHeld, Looks, Misses, Phase, StoreHeld, Works}
use Rattle.wfe_core.specs.Desks.{Desk, noting}
use Rattle.wfe_core.specs.Keep.{copied, load_held, look_turn, looked_key, looking}
use Rattle.wfe_core.specs.Locals.{Local, after, begun, begun_post, busy_in, may_begin, rounds_told, settled_by, told_by, turn}
use Rattle.wfe_core.specs.Posts.{counted, publishes_index, stands}
use Rattle.wfe_core.specs.Rounds.{scheme_of}
use Rattle.wfe_core.specs.Steps.{copying, looking_at, phase_turn}
use Rattle.wfe_core.specs.declared.op.Op.{Op}
use Rattle.wfe_core.specs.declared.post.Post.{Post}
use Rattle.wfe_core.specs.defs.declared.call.Answer.TheVariants as answers
use Rattle.wfe_core.specs.defs.declared.call.Answer.{Answer}
use Rattle.wfe_core.specs.defs.declared.call.Call.TheVariants as calls
use Rattle.wfe_core.specs.defs.declared.call.Call.{Call}
use Rattle.wfe_core.specs.defs.declared.event.Event.{Event}
use Rattle.wfe_core.specs.words.Schemes.{has_one_interval, publishes_rows}
use Rattle.wfe_core.specs.words.declared.config.Config.{Config}
use Rattle.wfe_core.specs.words.declared.layout.Layout.{Layout}
use Rattle.wfe_drive_call.specs.drive_words.Comes.{Given, lent}
use Rattle.wfe_drive_call.specs.drive_words.Ran.{Performs, Ran}
use Rattle.wfe_table.specs.Calls.{IsMade}
use Rattle.wfe_table.specs.Public.{SeatNow, stands_at}

-- the indexes are in their ranges
pub copy_may : (config : Config) (from index : ℕ) → 2 ≤ from → from < index → index < config.indexes → may_begin config (calls.Copy from index) ≡ true
copy_may config from index kept upwards range =
    both (nat_le 2 from) (nat_lt from index && nat_lt index config.indexes) (le_test 2 from kept)
    (both (nat_lt from index) (nat_lt index config.indexes) (lt_test from index upwards) (lt_test index config.indexes range))

index_may : (indexes index : ℕ) → 2 ≤ index → index < indexes → (nat_le 2 index && nat_lt index indexes) ≡ true
index_may indexes index kept range = both (nat_le 2 index) (nat_lt index indexes) (le_test 2 index kept) (lt_test index indexes range)

pub drop_may : (config : Config) (index : ℕ) → 2 ≤ index → index < config.indexes → may_begin config (calls.DropIndex index) ≡ true
drop_may config index kept range = index_may config.indexes index kept range

pub look_may : (config : Config) (index key : ℕ) → 2 ≤ index → index < config.indexes → may_begin config (calls.Look index key) ≡ true
look_may config index key kept range = index_may config.indexes index kept range

-- the row that a look reads
abbrev slot_in : GetAt → ℕ
slot_in (FindVersion slot) = slot
slot_in (FindCount slot version) = slot
slot_in (FindKey slot version count pair) = slot
slot_in (FindValue slot version pair) = slot

-- a copy or a look of what stands there is under way
abbrev IsFor : Option ℕ → Post → Phase → Type 0
IsFor stood post (Works (Keeping (LoadHeld from index))) = stands post from ≡ stood
IsFor stood post (Works (Keeping (StoreHeld from index era))) = stands post from ≡ stood
IsFor stood post (Works (Keeping (Looks index key at))) = stood ≡ Some (slot_in at)
IsFor stood post (Works (Keeping (Misses index))) = stood ≡ None
IsFor stood post phase = ⊥

-- the answer tells it
abbrev Tells : Option ℕ → Answer → Type 0
Tells stood (answers.Copied slot) = stood ≡ Some slot
Tells stood (answers.Looked slot version value) = stood ≡ Some slot
Tells stood answers.Nothing = stood ≡ None
Tells stood answer = ⊥

-- so it goes on, or ends
abbrev Keeps : Option ℕ → Post → CallOutcome → Type 0
Keeps stood post (GoesOn phase) = IsFor stood post phase
Keeps stood post (Answers answer) = Tells stood answer

abbrev TurnKeeps : Option ℕ → CallTurn → Type 0
TurnKeeps stood t = Keeps stood t.post t.outcome

copied_keeps : (stood : Option ℕ) (from index : ℕ) (post : Post) (desk : Desk) (reserved : List Event) (x : Option ℕ) → x ≡ stood → TurnKeeps stood (copied from index post desk reserved x)
copied_keeps stood from index post desk reserved (Some slot) e = sym e
copied_keeps stood from index post desk reserved None e = sym e

load_keeps : (stood : Option ℕ) (from index : ℕ) (post : Post) (desk : Desk) (found : ℕ) (one : Bool) → stands post from ≡ stood → TurnKeeps stood (load_held from index post desk found one)
load_keeps stood from index post desk found true e = copied_keeps stood from index post desk [] (stands post from) e
load_keeps stood from index post desk found false e = e

looking_keeps : (stood : Option ℕ) (index key slot version count : ℕ) (post : Post) (desk : Desk) (more : Bool) (pair : ℕ) → stood ≡ Some slot → TurnKeeps stood (looking index key slot version count post desk more pair)
looking_keeps stood index key slot version count post desk true pair e = e
looking_keeps stood index key slot version count post desk false pair e = e

key_keeps : (stood : Option ℕ) (index key slot version count pair : ℕ) (post : Post) (desk : Desk) (own : Bool) → stood ≡ Some slot → TurnKeeps stood (looked_key index key slot version count pair post desk own)
key_keeps stood index key slot version count pair post desk true e = e
key_keeps stood index key slot version count pair post desk false e = looking_keeps stood index key slot version count post desk (nat_lt (pair + 1) count) (pair + 1) e

look_keeps : (stood : Option ℕ) (index key : ℕ) (at : GetAt) (post : Post) (desk : Desk) (found : ℕ) → stood ≡ Some (slot_in at) → TurnKeeps stood (look_turn index key at post desk found)
look_keeps stood index key (FindVersion slot) post desk found e = e
look_keeps stood index key (FindCount slot version) post desk found e = looking_keeps stood index key slot version found post desk (nat_lt 0 found) 0 e
look_keeps stood index key (FindKey slot version count pair) post desk found e = key_keeps stood index key slot version count pair post desk (found == key) e
look_keeps stood index key (FindValue slot version pair) post desk found e = e

turn_keeps : (stood : Option ℕ) (phase : Phase) (post : Post) (desk : Desk) (found : ℕ) → IsFor stood post phase → TurnKeeps stood (phase_turn phase (counted post) desk found)
turn_keeps stood (Works (Keeping (LoadHeld from index))) post desk found h = load_keeps stood from index (counted post) desk found (has_one_interval (scheme_of (counted post))) h
turn_keeps stood (Works (Keeping (StoreHeld from index era))) post desk found h = copied_keeps stood from index (counted post) desk (publishes_index (publishes_rows (scheme_of (counted post))) (counted post) index era) (stands (counted post) from) h
turn_keeps stood (Works (Keeping (Looks index key at))) post desk found h = look_keeps stood index key at (counted post) desk found h
turn_keeps stood (Works (Keeping (Misses index))) post desk found h = h
turn_keeps stood phase post desk found h = absurd h

settled_for : (stood : Option ℕ) (l : Local) (post : Post) (desk : Desk) (rounds : ℕ) (o : CallOutcome) → Keeps stood post o → busy_in (settled_by l post desk rounds o).phase ≡ true → IsFor stood (settled_by l post desk rounds o).post (settled_by l post desk rounds o).phase
settled_for stood l post desk rounds (GoesOn phase) k b = k
settled_for stood l post desk rounds (Answers answer) k b = absurd (cc)

after_for : (stood : Option ℕ) (l : Local) (found : ℕ) → IsFor stood l.post l.phase → busy_in (after l found).phase ≡ true → IsFor stood (after l found).post (after l found).phase
after_for stood l found h b =
    let t : CallTurn = turn l found in
    settled_for stood l t.post (noting t.desk (told_by t)) (rounds_told (publishes_rows (scheme_of t.post)) l.rounds (told_by t)) t.outcome (turn_keeps stood l.phase l.post l.desk found h) b

-- a seat that has an operation to make is in its call
busy_at : (l last : Local) (xs : List (Op × ℕ)) (operation : Op × ℕ) → Ran l xs last → Performs last operation → busy_in l.phase ≡ true
busy_at l last [] operation same p = ap (λ (m : Local). busy_in m.phase) same ∙ p.busy
busy_at l last (x ∷ xs) operation ran p = let first : Performs l x = ran.0 in first.busy

-- what is lent to the step changes nothing of it
lent_for : (stood : Option ℕ) (l : Local) (found : ℕ) (g : Given l found) → IsFor stood l.post l.phase → IsFor stood (lent g).post (lent g).phase
lent_for stood l found g h = subst (λ (k : Local). IsFor stood k.post k.phase) (sym g.comes.stands) h

told_at : (stood : Option ℕ) (l last : Local) (before : List (Op × ℕ)) (operation : Op × ℕ) (answer : Answer) → Ran l before last → (p : Performs last operation) → (turn (lent p.given) operation.1).outcome ≡ Answers answer → IsFor stood l.post l.phase → Tells stood answer
told_at stood l last [] operation answer same p o h =
    let from : Local = lent p.given in
    let here : IsFor stood from.post from.phase = lent_for stood last operation.1 p.given (subst (λ (m : Local). IsFor stood m.post m.phase) same h) in
    subst (Keeps stood (turn from operation.1).post) o (turn_keeps stood from.phase from.post from.desk operation.1 here)
told_at stood l last (x ∷ xs) operation answer ran p o h =
    let first : Performs l x = ran.0 in
    let from : Local = lent first.given in
    told_at stood (after from x.1) last xs operation answer ran.1 p o (after_for stood from x.1 (lent_for stood l x.1 first.given h) (busy_at (after from x.1) last xs operation ran.1 p))

tells : (stood : Option ℕ) (layout : Layout) (old new : SeatNow) (call : Call) (answer : Answer) → IsMade layout old new call answer → IsFor stood (begun old.track.local call).post (begun old.track.local call).phase → Tells stood answer
tells stood layout old new call answer m h =
    let a = m.ends.answered in
    told_at stood (begun old.track.local call) a.last a.before a.operation answer a.ran a.performs a.answers h

copying_for : (stood : Option ℕ) (from index : ℕ) (post : Post) → stands post from ≡ stood → IsFor stood post (copying from index stood)
copying_for None from index post e = refl
copying_for (Some slot) from index post e = e

looking_for : (stood : Option ℕ) (index key : ℕ) (post : Post) → IsFor stood post (looking_at index key stood)
looking_for None index key post = refl
looking_for (Some slot) index key post = refl

copy_tells : (layout : Layout) (old new : SeatNow) (from index : ℕ) (answer : Answer) → IsMade layout old new (calls.Copy from index) answer → Tells (stands_at old from) answer
copy_tells layout old new from index answer m =
    let stood : Option ℕ = stands_at old from in
    tells stood layout old new (calls.Copy from index) answer m (copying_for stood from index (begun_post old.track.local.post) refl)

look_tells : (layout : Layout) (old new : SeatNow) (index key : ℕ) (answer : Answer) → IsMade layout old new (calls.Look index key) answer → Tells (stands_at old index) answer
look_tells layout old new index key answer m =
    let stood : Option ℕ = stands_at old index in
    tells stood layout old new (calls.Look index key) answer m (looking_for stood index key (begun_post old.track.local.post))

-- a copy and a look answer what stood
pub copied_stood : (layout : Layout) (old new : SeatNow) (from index slot : ℕ) → IsMade layout old new (calls.Copy from index) (answers.Copied slot) → Some slot ≡ stands_at old from
copied_stood layout old new from index slot m = sym (copy_tells layout old new from index (answers.Copied slot) m)

pub uncopied_stood : (layout : Layout) (old new : SeatNow) (from index : ℕ) → IsMade layout old new (calls.Copy from index) answers.Nothing → None ≡ stands_at old from
uncopied_stood layout old new from index m = sym (copy_tells layout old new from index answers.Nothing m)

pub looked_stood : (layout : Layout) (old new : SeatNow) (index key slot version : ℕ) (value : Option ℕ) → IsMade layout old new (calls.Look index key) (answers.Looked slot version value) → Some slot ≡ stands_at old index
looked_stood layout old new index key slot version value m = sym (look_tells layout old new index key (answers.Looked slot version value) m)

pub unlooked_stood : (layout : Layout) (old new : SeatNow) (index key : ℕ) → IsMade layout old new (calls.Look index key) answers.Nothing → None ≡ stands_at old index
unlooked_stood layout old new index key m = sym (look_tells layout old new index key answers.Nothing m)
