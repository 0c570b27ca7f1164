-- The stores of a new row.
use Rattle.std.proofs.Common.{Bool, List, [], ap, arith, false, if◌then◌else◌, length, refl, slice_index_or, sym, ℕ, ◌%◌, ◌*◌, ◌+◌, ◌-◌, ◌/◌, ◌<◌, ◌==◌, ◌∙◌, ◌≡◌}
use Rattle.std.proofs.lemmas.Bool.{eq-eqb, ne_eqb}
use Rattle.wfe_core.specs.words.Place.Place.{Row}
use Rattle.wfe_core.specs.defs.Pairs.{Pair}
use Rattle.wfe_core.specs.Calls.{ChangeKept, Changes, ExchangeRoot, Fills}
use Rattle.wfe_core.specs.Change.{new_row}
use Rattle.wfe_core.specs.Desks.{Desk}
use Rattle.wfe_core.specs.Locals.{Local}
use Rattle.wfe_core.specs.Memory.{Store}
use Rattle.wfe_core.specs.Phases.{MapRow, ends, goes}
use Rattle.wfe_core.specs.Phases.Base.{Write}
use Rattle.wfe_core.specs.Phases.Ending.{Done}
use Rattle.wfe_core.specs.Steps.{run_turn, slot_in}
use Rattle.wfe_core.specs.WriteRow.{pair_word, row_word, side_of}
use Rattle.wfe_core.specs.declared.op.Op.{Op}
use Rattle.wfe_core.specs.declared.post.Post.{Post}
use Rattle.wfe_drive_runs.specs.drive_words.drive_cells.Unit.{SeatView, kept_desk, seat_after}
use Rattle.wfe_drive_runs.specs.drive_words.Called.{Here}
use Rattle.wfe_drive_runs.specs.drive_words.Path.{AsksFor, Leads, StepsOn}
use Rattle.wfe_drive_runs.proofs.drive_words.Leading.{here_as, leads_as, leads_from, then_leads}
use Rattle.wfe_drive_call.specs.Changing.{step_post, works_at, writes_at, wrote_at}
use Rattle.wfe_drive_runs.specs.drive_words.drive_cells.Spots.{spotted}
use Rattle.wfe_drive_runs.specs.drive_words.drive_cells.declared.located.Located.{Located}

-- a store asks for its word
pub write_asks : {at : Local → Type 0} (kept : ChangeKept) (slot place value : ℕ) (post : Post) (desk : Desk) (op : Located) → Here at (writes_at kept slot place post desk) → value ≡ row_word (new_row kept) place → op ≡ spotted post.layout (Store (Row slot place) value)
    → AsksFor at (writes_at kept slot place post desk) op
write_asks kept slot place value post desk op h v o = record { here = h; busy = refl; is = o ∙ ap (λ (n : ℕ). spotted post.layout (Store (Row slot place) n)) v }

pub word_written : {at0 at1 : Local → Type 0} {stands0 stands1 : List (Op × ℕ) → Type 0} (kept : ChangeKept) (slot place : ℕ) (post : Post) (desk : Desk) (before n : ℕ) → StepsOn at0 at1 stands0 stands1 (writes_at kept slot place (step_post post before) desk) n
    → Leads at0 at1 stands0 stands1 (writes_at kept slot place (step_post post before) desk) (wrote_at kept slot place (step_post post (before + 1)) desk)
word_written kept slot place post desk before n s = s.leads

-- another place comes, or the row is written
abbrev wrote_by : ChangeKept → (slot place : ℕ) → Post → Desk → (last : Bool) → SeatView
wrote_by kept slot place post desk last = seat_after (run_turn (Fills (Changes kept)) (kept_desk desk) (if last then ends post [] Done else goes post [] (Write slot (new_row kept) (place + 1))))

pub writes_on : (kept : ChangeKept) (slot place next : ℕ) (post : Post) (desk : Desk) → place < 2 + 2 * length kept.pairs → place + 1 ≡ next → wrote_at kept slot place post desk ≡ writes_at kept slot next post desk
writes_on kept slot place next post desk h e =
    let test : (place == 2 + 2 * length kept.pairs) ≡ false = ne_eqb place (2 + 2 * length kept.pairs) (λ s. absurd (omega (arith, h, s))) in
    ap (wrote_by kept slot place post desk) test ∙ ap (λ (n : ℕ). writes_at kept slot n post desk) e

pub writes_end : (kept : ChangeKept) (slot place : ℕ) (post : Post) (desk : Desk) → place ≡ 2 + 2 * length kept.pairs → wrote_at kept slot place post desk ≡ works_at kept (ExchangeRoot (slot_in kept.taken)) post desk
writes_end kept slot place post desk h = ap (wrote_by kept slot place post desk) (eq-eqb place (2 + 2 * length kept.pairs) h)

-- the words of a pair
sides : (version : ℕ) (ps : List Pair) (place pair side : ℕ) → 2 < place → (place - 3) / 2 ≡ pair → (place - 3) % 2 ≡ side → row_word (MapRow version ps) place ≡ side_of (slice_index_or ps pair (0, 0)) side
sides version ps place pair side h p s =
    let one : (place == 1) ≡ false = ne_eqb place 1 (λ e. absurd (omega (arith, h, e))) in
    let two : (place == 2) ≡ false = ne_eqb place 2 (λ e. absurd (omega (arith, h, e))) in
    ap (λ (b : Bool). if b then version else (if place == 2 then length ps else pair_word ps place)) one
    ∙ ap (λ (b : Bool). if b then length ps else pair_word ps place) two
    ∙ ap (λ (n : ℕ). side_of (slice_index_or ps n (0, 0)) ((place - 3) % 2)) p
    ∙ ap (side_of (slice_index_or ps pair (0, 0))) s

pub key_word : (version : ℕ) (ps : List Pair) (pair : ℕ) → row_word (MapRow version ps) (3 + 2 * pair) ≡ (slice_index_or ps pair (0, 0)).0
key_word version ps pair = sides version ps (3 + 2 * pair) pair 0 (omega arith) (omega arith) (omega arith)

pub value_word : (version : ℕ) (ps : List Pair) (pair : ℕ) → row_word (MapRow version ps) (4 + 2 * pair) ≡ (slice_index_or ps pair (0, 0)).1
value_word version ps pair = sides version ps (4 + 2 * pair) pair 1 (omega arith) (omega arith) (omega arith)

pub key_next : (kept : ChangeKept) (slot pair : ℕ) (post : Post) (desk : Desk) → pair < length kept.pairs → wrote_at kept slot (2 + 2 * pair) post desk ≡ writes_at kept slot (3 + 2 * pair) post desk
key_next kept slot pair post desk left = writes_on kept slot (2 + 2 * pair) (3 + 2 * pair) post desk (omega (arith, left)) (omega arith)

pub value_next : (kept : ChangeKept) (slot pair : ℕ) (post : Post) (desk : Desk) → pair < length kept.pairs → wrote_at kept slot (3 + 2 * pair) post desk ≡ writes_at kept slot (4 + 2 * pair) post desk
value_next kept slot pair post desk left = writes_on kept slot (3 + 2 * pair) (4 + 2 * pair) post desk (omega (arith, left)) (omega arith)

-- the pair of a place: its key is to be stored, then its value
pub key_asks : {at : Local → Type 0} (kept : ChangeKept) (slot pair : ℕ) (p : Pair) (post : Post) (desk : Desk) (op : Located) → pair < length kept.pairs → p ≡ slice_index_or kept.pairs pair (0, 0) → Here at (wrote_at kept slot (2 + 2 * pair) post desk)
    → op ≡ spotted post.layout (Store (Row slot (3 + 2 * pair)) p.0) → AsksFor at (writes_at kept slot (3 + 2 * pair) post desk) op
key_asks kept slot pair p post desk op left is h o =
    write_asks kept slot (3 + 2 * pair) p.0 post desk op (here_as _ _ (key_next kept slot pair post desk left) h) (ap (λ (q : Pair). q.0) is ∙ sym (key_word (kept.version + 1) kept.pairs pair)) o

pub value_asks : {at : Local → Type 0} (kept : ChangeKept) (slot pair : ℕ) (p : Pair) (post : Post) (desk : Desk) (op : Located) → pair < length kept.pairs → p ≡ slice_index_or kept.pairs pair (0, 0) → Here at (wrote_at kept slot (3 + 2 * pair) post desk)
    → op ≡ spotted post.layout (Store (Row slot (4 + 2 * pair)) p.1) → AsksFor at (writes_at kept slot (4 + 2 * pair) post desk) op
value_asks kept slot pair p post desk op left is h o =
    write_asks kept slot (4 + 2 * pair) p.1 post desk op (here_as _ _ (value_next kept slot pair post desk left) h) (ap (λ (q : Pair). q.1) is ∙ sym (value_word (kept.version + 1) kept.pairs pair)) o

-- and both are
pub pair_written : {at0 at1 at2 : Local → Type 0} {stands0 stands1 stands2 : List (Op × ℕ) → Type 0} (kept : ChangeKept) (slot pair : ℕ) (post : Post) (desk : Desk) (before n m : ℕ) → pair < length kept.pairs
    → StepsOn at0 at1 stands0 stands1 (writes_at kept slot (3 + 2 * pair) (step_post post before) desk) n
    → StepsOn at1 at2 stands1 stands2 (writes_at kept slot (4 + 2 * pair) (step_post post (before + 1)) desk) m
    → Leads at0 at2 stands0 stands2 (wrote_at kept slot (2 + 2 * pair) (step_post post before) desk) (wrote_at kept slot (2 + 2 * (pair + 1)) (step_post post (before + 2)) desk)
pair_written kept slot pair post desk before n m left s t =
    let e : before + 1 + 1 ≡ before + 2 = omega arith in
    let place : 4 + 2 * pair ≡ 2 + 2 * (pair + 1) = omega arith in
    leads_from _ _ (sym (key_next kept slot pair (step_post post before) desk left))
    (then_leads (leads_as _ _ (value_next kept slot pair (step_post post (before + 1)) desk left) s.leads)
    (leads_as _ _ (ap (λ (k : ℕ). wrote_at kept slot (4 + 2 * pair) (step_post post k) desk) e ∙ ap (λ (k : ℕ). wrote_at kept slot k (step_post post (before + 2)) desk) place) t.leads))
