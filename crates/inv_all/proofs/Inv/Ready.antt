-- What the code of a step, links, and eras take of other parts.
use Rattle.std.proofs.Common.{ℕ, ◌≡◌, ◌≤◌, ◌<◌, ◌+◌, true, refl, ap, subst, arith}
use Rattle.std.specs.Prelude.{List, ◌++◌, length}
use Rattle.std.proofs.lemmas.List.{length-append}
use Rattle.inv_ends.specs.model.words.Place.{is_valid}
use Rattle.inv_ends.specs.model.words.Place.Place.{PlaceOf}
use Rattle.inv_ends.specs.model.defs.declared.lifetime.Lifetime.{Lifetime}
use Rattle.inv_ends.proofs.model.Facts.{number_is}
use Rattle.inv_ends.specs.model.defs.declared.event.Root.{Root}
use Rattle.inv_ends.specs.model.declared.post.Post.{Post}
use Rattle.inv_ends.specs.model.Posts.{tag_of}
use Rattle.inv_ends.specs.model.Phases.{Aim, ProtectAt, Base}
use Rattle.inv_ends.specs.model.Phases.ProtectAt.{TakeAnswer}
use Rattle.inv_ends.specs.model.Phases.Base.{Protect}
use Rattle.inv_ends.specs.model.Calls.{Why, Work, Phase, Runs, Works}
use Rattle.inv_ends.specs.model.World.{World, finds, is_busy, is_here, list_in, offered}
use Rattle.inv_ends.specs.shapes.Code.{protect_rises, base_rises, phase_rises, CodeNeeds}
use Rattle.inv_ends.specs.shapes.Eras.{ErasNeeds}
use Rattle.inv_ends.specs.shapes.Seats.{Seats}
use Rattle.inv_ends.specs.shapes.Slots.{work_finds, SlotsNeeds}
use Rattle.inv_ends.proofs.shapes.Takes.{takes_life, takes_lists, takes_reads, few_listed}
use Rattle.inv_ends.specs.requests.Standing.{Requests}
use Rattle.inv_ends.specs.requests.Views.{View as Asked}
use Rattle.inv_ends.proofs.requests.Known.{known}
use Rattle.inv_ends.specs.rows.Agree.{Agree}
use Rattle.inv_ends.specs.rows.Rows.{View}
use Rattle.inv_ends.proofs.rows.Facts.{rows_show}

-- the list of a seat that is busy, or has not left, is no longer than the rows
pub listed_few : (w : World) (k : ℕ) (v : View) → Agree w v → is_busy w k ≡ true → length (w.seat k).desk.list ≤ w.layout.config.slots + 1
listed_few w k v a b = ((rows_show w v k a).kept b).short

here_list : (w : World) (k : ℕ) → w.mem (PlaceOf k) ≡ 0 → list_in w k ≡ (w.seat k).desk.list
here_list w k e = rw e refl

pub here_few : (w : World) (k : ℕ) (v : View) → Agree w v → is_here w k ≡ true → length (w.seat k).desk.list ≤ w.layout.config.slots + 1
here_few w k v a h =
    let s = rows_show w v k a in
    subst (λ (list : List Lifetime). length list ≤ w.layout.config.slots + 1) (here_list w k (number_is (w.mem (PlaceOf k)) 0 h)) (few_listed (list_in w k) w.layout.config.slots s.apart s.below)

-- so is its list together with one that it takes over
gained_few : (list gift : List Lifetime) (most : ℕ) → length (list ++ gift) ≤ most → length list + length gift ≤ most
gained_few list gift most h = let e = length-append list gift in omega (arith, e, h)

pub slots_need : (w : World) (i : ℕ) (v : View) → Agree w v → ((work : Work) → (w.seat i).phase ≡ Works work → work_finds w.layout.config work (finds w i)) → SlotsNeeds w i
slots_need w i v a f = takes_reads w.layout.config (offered w i).desk (w.seat i).phase (finds w i) (λ b. listed_few w i v a b) (rows_show w v i a).backs f (λ place e o. gained_few (w.seat i).desk.list (offered w i).desk.gift (w.layout.config.slots + 1) ((rows_show w v i a).gains place e o).short)

pub eras_need : (w : World) (i : ℕ) (v : View) (z : Asked) → is_valid w.layout ≡ true → Seats w → Agree w v → Requests w z → ErasNeeds w i
eras_need w i v z d s a q = record { tags = (known w z i d s q).tags; life = takes_life w.mem (w.seat i).phase (rows_show w v i a).lives }

-- a tag that is about to rise may rise once more
rises_at : (at : ProtectAt) (index : ℕ) (post : Post) → ((link era : ℕ) → at ≡ TakeAnswer link era → tag_of post index + 1 < 4294967295) → protect_rises at index post
rises_at (TakeAnswer link era) index post h = h link era refl
rises_at at index post h = tt

rises_base : (base : Base) (post : Post) → ((aim : Aim) (index : ℕ) (root : Root) (steps link era : ℕ) → base ≡ Protect aim index root steps (TakeAnswer link era) → tag_of post index + 1 < 4294967295) → base_rises base post
rises_base (Protect aim index root steps at) post h = rises_at at index post (λ link era e. h aim index root steps link era (ap (Protect aim index root steps) e))
rises_base base post h = tt

rises_phase : (phase : Phase) (post : Post) → ((why : Why) (aim : Aim) (index : ℕ) (root : Root) (steps link era : ℕ) → phase ≡ Runs why (Protect aim index root steps (TakeAnswer link era)) → tag_of post index + 1 < 4294967295) → phase_rises phase post
rises_phase (Runs why base) post h = rises_base base post (λ aim index root steps link era e. h why aim index root steps link era (ap (Runs why) e))
rises_phase phase post h = tt

pub code_need : (w : World) (i : ℕ) (v : View) (z : Asked) → is_valid w.layout ≡ true → Seats w → Agree w v → Requests w z → SlotsNeeds w i → CodeNeeds w i
code_need w i v z d s a q n =
    let k = known w z i d s q in
    let r = rows_show w v i a in
    record { tags = k.tags; rises = rises_phase (w.seat i).phase (w.seat i).post k.rises; lists = takes_lists (w.seat i).phase (w.seat i).desk r.retires r.backs; reads = n }
