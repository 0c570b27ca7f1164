-- The reads of a row, whatever post and desk the model has.
use Rattle.std.proofs.Common.{Bool, List, None, Option, Some, [], ap, arith, nat_lt, refl, sym, ℕ, ◌+◌, ◌<◌, ◌≤◌, ◌∙◌, ◌≡◌}
use Rattle.std.proofs.lemmas.Bool.{eq-eqb, le-ltb, lt-ltb, ne_eqb}
use Rattle.wfe_core.specs.words.declared.layout.Layout.{Layout}
use Rattle.wfe_core.specs.Calls.{FindCount, FindKey, FindValue, FindVersion, GetAt, Getting, Works}
use Rattle.wfe_core.specs.Get.{finding, found_key, get_move, got}
use Rattle.wfe_core.specs.Locals.{Local}
use Rattle.wfe_core.specs.declared.op.Op.{Op}
use Rattle.wfe_drive_cells.specs.Unit.{SeatView, kept_desk, seat_after}
use Rattle.wfe_drive_words.specs.Called.{Here}
use Rattle.wfe_drive_words.specs.Path.{AsksFor, Leads, Reader, StepsOn, found_at, next_pair, reading}
use Rattle.wfe_drive_words.proofs.Leading.{leads_as}
use Rattle.wfe_drive_cells.specs.Spots.{spotted}
use Rattle.wfe_drive_cells.specs.declared.located.Located.{Located}

-- a read asks for its word
pub read_asks : {at : Local → Type 0} (key : ℕ) (r : Reader) (steps : ℕ) (find : GetAt) (layout : Layout) (op : Located) → r.post.layout ≡ layout → Here at (reading key r steps find) → op ≡ spotted layout (get_move find) → AsksFor at (reading key r steps find) op
read_asks key r steps find layout op e h o = record { here = h; busy = refl; is = o ∙ ap (λ (d : Layout). spotted d (get_move find)) (sym e) }

-- the same with the steps of the call in one number
abbrev read_at : ℕ → Reader → GetAt → ℕ → SeatView
read_at key r find n = record { phase = Works (Getting key find); post = record r.post { steps = n }; desk = kept_desk r.desk }

abbrev pair_at : ℕ → Reader → (slot version count : ℕ) → (more : Bool) → (pair n : ℕ) → SeatView
pair_at key r slot version count more pair n = seat_after (finding key slot version count (record r.post { steps = n }) (kept_desk r.desk) more pair)

abbrev key_at : ℕ → Reader → (slot version count pair : ℕ) → (own : Bool) → (n : ℕ) → SeatView
key_at key r slot version count pair own n = seat_after (found_key key slot version count pair (record r.post { steps = n }) (kept_desk r.desk) own)

abbrev value_at : ℕ → Reader → (version : ℕ) → Option ℕ → (n : ℕ) → SeatView
value_at key r version value n = seat_after (got key version value (record r.post { steps = n }) (kept_desk r.desk) [])

-- the version, and the count
pub version_read : {at0 at1 : Local → Type 0} {stands0 stands1 : List (Op × ℕ) → Type 0} (key : ℕ) (r : Reader) (slot : ℕ) (found : ℕ) → StepsOn at0 at1 stands0 stands1 (reading key r 0 (FindVersion slot)) found
    → Leads at0 at1 stands0 stands1 (reading key r 0 (FindVersion slot)) (reading key r 1 (FindCount slot found))
version_read key r slot found s =
    let e : r.post.steps + 0 + 1 ≡ r.post.steps + 1 = omega arith in
    leads_as _ _ (ap (read_at key r (FindCount slot found)) e) s.leads

pub count_read : {at0 at1 : Local → Type 0} {stands0 stands1 : List (Op × ℕ) → Type 0} (key : ℕ) (r : Reader) (slot version : ℕ) (found : ℕ) → StepsOn at0 at1 stands0 stands1 (reading key r 1 (FindCount slot version)) found
    → Leads at0 at1 stands0 stands1 (reading key r 1 (FindCount slot version)) (next_pair key r 2 slot version found 0)
count_read key r slot version found s =
    let e : r.post.steps + 1 + 1 ≡ r.post.steps + 2 = omega arith in
    leads_as _ _ (ap (pair_at key r slot version found (nat_lt 0 found) 0) e) s.leads

-- a pair that there is
pub pair_is : (key : ℕ) (r : Reader) (steps slot version count pair : ℕ) → pair < count → next_pair key r steps slot version count pair ≡ reading key r steps (FindKey slot version count pair)
pair_is key r steps slot version count pair h = ap (λ (more : Bool). pair_at key r slot version count more pair (r.post.steps + steps)) (lt-ltb pair count h)

-- its key is the own one, and its value is read
pub key_read : {at0 at1 : Local → Type 0} {stands0 stands1 : List (Op × ℕ) → Type 0} (key : ℕ) (r : Reader) (slot version count pair : ℕ) (found : ℕ) → found ≡ key → StepsOn at0 at1 stands0 stands1 (reading key r (2 + pair) (FindKey slot version count pair)) found
    → Leads at0 at1 stands0 stands1 (reading key r (2 + pair) (FindKey slot version count pair)) (reading key r (3 + pair) (FindValue slot version pair))
key_read key r slot version count pair found own s =
    let e : r.post.steps + (2 + pair) + 1 ≡ r.post.steps + (3 + pair) = omega arith in
    leads_as _ _ (ap (λ (b : Bool). key_at key r slot version count pair b (r.post.steps + (2 + pair) + 1)) (eq-eqb found key own) ∙ ap (read_at key r (FindValue slot version pair)) e) s.leads

pub value_read : {at0 at1 : Local → Type 0} {stands0 stands1 : List (Op × ℕ) → Type 0} (key : ℕ) (r : Reader) (slot version pair : ℕ) (found : ℕ) → StepsOn at0 at1 stands0 stands1 (reading key r (3 + pair) (FindValue slot version pair)) found
    → Leads at0 at1 stands0 stands1 (reading key r (3 + pair) (FindValue slot version pair)) (found_at key r (record { version = version; value = Some found; steps = 4 + pair }))
value_read key r slot version pair found s =
    let e : r.post.steps + (3 + pair) + 1 ≡ r.post.steps + (4 + pair) = omega arith in
    leads_as _ _ (ap (value_at key r version (Some found)) e) s.leads

-- its key is another
pub key_passed : {at0 at1 : Local → Type 0} {stands0 stands1 : List (Op × ℕ) → Type 0} (key : ℕ) (r : Reader) (slot version count pair : ℕ) (found : ℕ) → (found ≡ key → ⊥) → StepsOn at0 at1 stands0 stands1 (reading key r (2 + pair) (FindKey slot version count pair)) found
    → Leads at0 at1 stands0 stands1 (reading key r (2 + pair) (FindKey slot version count pair)) (next_pair key r (2 + (pair + 1)) slot version count (pair + 1))
key_passed key r slot version count pair found other s =
    let e : r.post.steps + (2 + pair) + 1 ≡ r.post.steps + (2 + (pair + 1)) = omega arith in
    leads_as _ _ (ap (λ (b : Bool). key_at key r slot version count pair b (r.post.steps + (2 + pair) + 1)) (ne_eqb found key other) ∙ ap (pair_at key r slot version count (nat_lt (pair + 1) count) (pair + 1)) e) s.leads

-- there is none
pub pair_none : (key : ℕ) (r : Reader) (slot version count pair : ℕ) → count ≤ pair → next_pair key r (2 + pair) slot version count pair ≡ found_at key r (record { version = version; value = None; steps = 2 + pair })
pair_none key r slot version count pair h = ap (λ (more : Bool). pair_at key r slot version count more pair (r.post.steps + (2 + pair))) (le-ltb pair count h)
