-- The reads of the bucket's row.
use Rattle.std.proofs.Common.{Bool, List, [], ap, arith, length, length-append, nat_lt, refl, sym, ℕ, ◌+◌, ◌++◌, ◌<◌, ◌∙◌, ◌∷◌, ◌≡◌, ◌≤◌}
use Rattle.std.proofs.lemmas.Bool.{le-ltb, lt-ltb}
use Rattle.wfe_core.specs.defs.Pairs.{Pair}
use Rattle.wfe_core.specs.Calls.{ChangeAt, ChangeKept, LoadCount, LoadKey, LoadValue, LoadVersion}
use Rattle.wfe_core.specs.Change.{change_move, reading}
use Rattle.wfe_core.specs.Desks.{Desk}
use Rattle.wfe_core.specs.Locals.{Local}
use Rattle.wfe_core.specs.declared.op.Op.{Op}
use Rattle.wfe_core.specs.declared.post.Post.{Post}
use Rattle.wfe_drive_runs.specs.drive_words.drive_cells.Unit.{SeatView, kept_desk, seat_after}
use Rattle.wfe_drive_runs.specs.drive_words.Called.{Here}
use Rattle.wfe_drive_runs.specs.drive_words.Path.{AsksFor, Leads, StepsOn}
use Rattle.wfe_drive_runs.proofs.drive_words.Leading.{leads_as}
use Rattle.wfe_drive_call.specs.Changing.{pairs_at, read_at, step_post, works_at}
use Rattle.wfe_drive_runs.specs.drive_words.drive_cells.Spots.{spotted}
use Rattle.wfe_drive_runs.specs.drive_words.drive_cells.declared.located.Located.{Located}

-- a step of the change's own asks for its word
pub work_asks : {at : Local → Type 0} (kept : ChangeKept) (find : ChangeAt) (post : Post) (desk : Desk) (op : Located) → Here at (works_at kept find post desk) → op ≡ spotted post.layout (change_move kept find post) → AsksFor at (works_at kept find post desk) op
work_asks kept find post desk op h o = record { here = h; busy = refl; is = o }

-- the version, and the count
pub version_read : {at0 at1 : Local → Type 0} {stands0 stands1 : List (Op × ℕ) → Type 0} (kept : ChangeKept) (slot : ℕ) (post : Post) (desk : Desk) (before found : ℕ) → StepsOn at0 at1 stands0 stands1 (works_at kept (LoadVersion slot) (step_post post before) desk) found
    → Leads at0 at1 stands0 stands1 (works_at kept (LoadVersion slot) (step_post post before) desk) (works_at (record kept { version = found }) (LoadCount slot) (step_post post (before + 1)) desk)
version_read kept slot post desk before found s = s.leads

abbrev pairs_by : ChangeKept → (slot count : ℕ) → Post → Desk → (pairs steps : ℕ) → SeatView
pairs_by kept slot count post desk pairs steps = seat_after (reading kept slot count (step_post post steps) (kept_desk desk) (nat_lt pairs count))

pub count_read : {at0 at1 : Local → Type 0} {stands0 stands1 : List (Op × ℕ) → Type 0} (kept : ChangeKept) (slot : ℕ) (post : Post) (desk : Desk) (before found : ℕ) → kept.pairs ≡ [] → StepsOn at0 at1 stands0 stands1 (works_at kept (LoadCount slot) (step_post post (before + 1)) desk) found
    → Leads at0 at1 stands0 stands1 (works_at kept (LoadCount slot) (step_post post (before + 1)) desk) (pairs_at kept slot found (step_post post (before + 2)) desk)
count_read kept slot post desk before found none s =
    let e : before + 1 + 1 ≡ before + 2 = omega arith in
    let many : 0 ≡ length kept.pairs = sym (ap length none) in
    leads_as _ _ (ap (λ (n : ℕ). pairs_by kept slot found post desk n (before + 1 + 1)) many ∙ ap (pairs_by kept slot found post desk (length kept.pairs)) e) s.leads

-- a pair that there is
pub pair_is : (kept : ChangeKept) (slot count : ℕ) (post : Post) (desk : Desk) → length kept.pairs < count → pairs_at kept slot count post desk ≡ works_at kept (LoadKey slot count) post desk
pair_is kept slot count post desk h = ap (λ (more : Bool). seat_after (reading kept slot count post (kept_desk desk) more)) (lt-ltb (length kept.pairs) count h)

-- its key, and its value
pub key_read : {at0 at1 : Local → Type 0} {stands0 stands1 : List (Op × ℕ) → Type 0} (kept : ChangeKept) (slot count : ℕ) (post : Post) (desk : Desk) (before found : ℕ) → StepsOn at0 at1 stands0 stands1 (works_at kept (LoadKey slot count) (step_post post before) desk) found
    → Leads at0 at1 stands0 stands1 (works_at kept (LoadKey slot count) (step_post post before) desk) (works_at kept (LoadValue slot count found) (step_post post (before + 1)) desk)
key_read kept slot count post desk before found s = s.leads

abbrev more_by : ChangeKept → (slot count : ℕ) → Post → Desk → List Pair → (pairs steps : ℕ) → SeatView
more_by kept slot count post desk ps pairs steps = seat_after (reading (record kept { pairs = ps }) slot count (step_post post steps) (kept_desk desk) (nat_lt pairs count))

pub value_read : {at0 at1 : Local → Type 0} {stands0 stands1 : List (Op × ℕ) → Type 0} (kept : ChangeKept) (slot count : ℕ) (post : Post) (desk : Desk) (before key found : ℕ) (ps : List Pair) → ps ≡ kept.pairs ++ (key, found) ∷ []
    → StepsOn at0 at1 stands0 stands1 (works_at kept (LoadValue slot count key) (step_post post (before + 1)) desk) found
    → Leads at0 at1 stands0 stands1 (works_at kept (LoadValue slot count key) (step_post post (before + 1)) desk) (pairs_at (record kept { pairs = ps }) slot count (step_post post (before + 2)) desk)
value_read kept slot count post desk before key found ps more s =
    let e : before + 1 + 1 ≡ before + 2 = omega arith in
    let one : length kept.pairs + 1 ≡ length ps = sym (ap length more ∙ length-append kept.pairs ((key, found) ∷ [])) in
    leads_as _ _ (ap (λ (qs : List Pair). more_by kept slot count post desk qs (length kept.pairs + 1) (before + 1 + 1)) (sym more)
    ∙ ap (λ (n : ℕ). more_by kept slot count post desk ps n (before + 1 + 1)) one
    ∙ ap (more_by kept slot count post desk ps (length ps)) e) s.leads

-- there is none
pub pairs_none : (kept : ChangeKept) (slot count : ℕ) (post : Post) (desk : Desk) → count ≤ length kept.pairs → pairs_at kept slot count post desk ≡ read_at kept post desk
pairs_none kept slot count post desk h = ap (λ (more : Bool). seat_after (reading kept slot count post (kept_desk desk) more)) (le-ltb (length kept.pairs) count h)

-- one pair more is counted
pub more_counted : {ps : List Pair} (qs : List Pair) (p : Pair) (n : ℕ) → length qs ≡ n → ps ≡ qs ++ p ∷ [] → length ps ≡ n + 1
more_counted qs p n many more = ap length more ∙ length-append qs (p ∷ []) ∙ ap (λ (m : ℕ). m + 1) many
