-- What stands after a step of a machine stood before, or was loaded by the try that the step concludes.
use Rattle.std.proofs.Common.{ℕ, ◌<◌, ◌+◌, ◌-◌, ◌≡◌, subst, true, false, arith, refl, Bool, Option, Some, None, ◌&&◌, ◌⊎◌, inl, inr, length, List, [], ◌∷◌}
use Rattle.std.proofs.lemmas.Bool.Decides.{nat_tests}
use Rattle.std.specs.Prelude.{◌==◌, ◌||◌, if◌then◌else◌}
use Rattle.inv_rows.specs.words.Place.{Place}
use Rattle.inv_rows.specs.words.Place.Place.{Clock, Head}
use Rattle.inv_rows.specs.words.declared.config.Config.{Config}
use Rattle.inv_rows.specs.defs.declared.event.Event.{Event}
use Rattle.inv_rows.specs.defs.declared.event.Root.{Root}
use Rattle.inv_rows.specs.defs.declared.event.Root.TheVariants as roots
use Rattle.inv_rows.specs.model.declared.post.Post.{Post}
use Rattle.inv_rows.specs.model.Memory.{found, place_in, bump}
use Rattle.inv_rows.specs.model.Posts.{stands, upper, with_row}
use Rattle.inv_rows.specs.model.Allocate.{walking, walk_past, is_claimed, after_claim_slot}
use Rattle.inv_rows.specs.model.Phases.{Aim, Walk, Tries, BeginAt, ProtectAt, AllocateAt, RetireAt, MoveAt, Base, RowOf, goes, ends, HazardAt}
use Rattle.inv_rows.specs.model.Phases.BeginAt.{LoadLower, PublishSpan}
use Rattle.inv_rows.specs.model.Phases.ProtectAt.{LoadClock, PublishEra, LoadLink, CheckClock, PublishRequest, LoadOwnClock, PublishHelper, LoadOwnLink, CheckOwnClock, AnswerOwn, LoadAnswer, TakeAnswer, WithdrawRequest, WithdrawHelper, LoadWithin, CheckUpper, RaiseUpper, ByHazard}
use Rattle.inv_rows.specs.model.Phases.HazardAt.{FirstLink, PublishLink, CheckLink}
use Rattle.inv_rows.specs.model.Phases.AllocateAt.{LoadBirth, ClaimSlot, StoreLife}
use Rattle.inv_rows.specs.model.Phases.RetireAt.{LoadLife, LoadRetire, StoreRetired}
use Rattle.inv_rows.specs.model.Phases.MoveAt.{LoadEra, LoadRequest, ShowEra, LoadAsked, CheckEra, AnswerAsked, LoadReserved, HandOver, HideEra, HideLate, ExchangeClock}
use Rattle.inv_rows.specs.model.Phases.Base.{Begin, Protect, Reload, Clear, Finish, Release, Allocate, Write, GiveUp, Retire, Move}
use Rattle.inv_rows.specs.model.Protect.{held_post, told_held, failed_once, concluded, protected}
use Rattle.inv_rows.specs.model.Phases.Ending.{Followed}
use Rattle.inv_rows.specs.model.declared.ends.FollowEnd.TheVariants as follow_ends
use Rattle.inv_rows.specs.defs.declared.event.Event.TheVariants as events
use Rattle.inv_rows.specs.words.declared.config.SchemeKind.{SchemeKind}
use Rattle.inv_rows.specs.model.Machine.{protect_move, base_move, begin_turn, protect_turn, allocate_turn, retire_turn, move_turn, after}
use Rattle.inv_rows.specs.words.Packed.{read_reservation, reservation_word}
use Rattle.inv_rows.specs.model.SlowPath.{asking, own_request, after_check_own_clock, after_answer_own}
use Rattle.inv_rows.specs.model.MoveClock.{after_load_era, after_check_era, after_answer_asked, after_load_reserved, after_hand_over, after_exchange_clock}
use Rattle.inv_rows.specs.model.WriteRow.{last_written, after_write}
use Rattle.inv_rows.specs.Rows.{Status}
use Rattle.inv_rows.specs.words.Schemes.{helps}
use Rattle.inv_rows.specs.Shapes.Seats.{protect_fits, base_fits}
use Rattle.inv_rows.specs.Covering.Held.{leads, under, tries_protect, tries_base, index_base}
use Rattle.inv_rows.specs.Queue.{in_queue}
use Rattle.inv_rows.proofs.Covering.Stands.{withdrawn_shrinks, with_row_apart, with_row_is}
use Rattle.inv_rows.specs.model.Links.{link_place}
pub use Rattle.inv_rows.proofs.Shapes.Frame.{concluded_post}

-- a link that is loaded again is still the one that was published
abbrev pub loads_again : (ℕ → Status) → (Place → ℕ) → Root → HazardAt → ℕ → Bool
loads_again status mem root (CheckLink link) s = leads (mem (link_place root)) s && (mem (link_place root) == link && under status root)
loads_again status mem root at s = false

abbrev pub again_protect : (ℕ → Status) → (Place → ℕ) → Root → ProtectAt → ℕ → Bool
again_protect status mem root (ByHazard at) s = loads_again status mem root at s
again_protect status mem root at s = false

abbrev pub again_base : (ℕ → Status) → (Place → ℕ) → Base → ℕ → Bool
again_base status mem (Protect aim index root steps at) s = again_protect status mem root at s
again_base status mem base s = false

-- how a row comes to stand: it stood, or the try had loaded it, or its link is loaded again now
abbrev pub Was : ℕ → (ℕ → Status) → (Place → ℕ) → Post → Base → ℕ → ℕ → Type 0
Was clock status mem post base j s = (stands post j ≡ Some s) ⊎ ((j ≡ index_base base) × ((tries_base clock status post base s ≡ true) ⊎ (again_base status mem base s ≡ true)))

abbrev pub Rises : (ℕ → Status) → Post → ℕ → Root → ℕ → ℕ → ℕ → Type 0
Rises status post index root link j s = (stands post j ≡ Some s) ⊎ ((j ≡ index) × (leads link s ≡ true) × (under status root ≡ true))

row_rises : (status : ℕ → Status) (post : Post) (index : ℕ) (root : Root) (link j s : ℕ) (same : Bool) → (j == index) ≡ same → index < length post.standing → (link == 0) ≡ false → under status root ≡ true → stands (with_row post index (link - 1)) j ≡ Some s → Rises status post index root link j s
row_rises status post index root link j s true e b l u h =
    let q = with_row_is post index (link - 1) j s b e h in inr (grind (arith, nat_tests), grind (arith, nat_tests), u)
row_rises status post index root link j s false e b l u h = inl (with_row_apart post index (link - 1) j s e h)

link_rises : (status : ℕ → Status) (post : Post) (index : ℕ) (root : Root) (link j s : ℕ) (null : Bool) → (link == 0) ≡ null → index < length post.standing → under status root ≡ true → stands (if null then post else with_row post index (link - 1)) j ≡ Some s → Rises status post index root link j s
link_rises status post index root link j s true e b u h = inl h
link_rises status post index root link j s false e b u h = row_rises status post index root link j s (j == index) refl b e u h

pub held_rises : (status : ℕ → Status) (post : Post) (index : ℕ) (root : Root) (link j s : ℕ) → index < length post.standing → stands (held_post post index root link) j ≡ Some s → Rises status post index root link j s
held_rises status post index (roots.Bucket bucket) link j s b h = link_rises status post index (roots.Bucket bucket) link j s (link == 0) refl b refl h
held_rises status post index roots.Head link j s b h = link_rises status post index roots.Head link j s (link == 0) refl b refl h
held_rises status post index roots.Tail link j s b h = link_rises status post index roots.Tail link j s (link == 0) refl b refl h
held_rises status post index (roots.Next parent) link j s b h = inl h

pub protected_post : (aim : Aim) (index : ℕ) (root : Root) (n link era : ℕ) (post : Post) → (protected aim index root n link era post).post ≡ held_post post index root link
protected_post aim index root n link era post = concluded_post aim index root n link era (held_post post index root link) (told_held index root link n)

-- a try is concluded
check_rises : (clock : ℕ) (status : ℕ → Status) (index : ℕ) (root : Root) (era link : ℕ) (post : Post) (j s : ℕ) → (clock == era) ≡ true → Rises status post index root link j s → (stands post j ≡ Some s) ⊎ ((j ≡ index) × ((leads link s && (clock == era && under status root)) ≡ true))
check_rises clock status index root era link post j s e (inl x) = inl x
check_rises clock status index root era link post j s e (inr x) = inr (x.0, grind (arith, nat_tests, x.1, x.2))

pub same_stands : (p q : Post) (j s : ℕ) → p ≡ q → stands p j ≡ Some s → stands q j ≡ Some s
same_stands p q j s e h = subst (λ (x : Post). stands x j ≡ Some s) e h

pub check_stood : (clock : ℕ) (status : ℕ → Status) (aim : Aim) (index : ℕ) (root : Root) (n era : ℕ) (tries : Tries) (link : ℕ) (post : Post) (j s : ℕ) (same : Bool) → (clock == era) ≡ same → index < length post.standing
    → stands (if same then protected aim index root n link era post else goes post [] (Protect aim index root n (PublishEra clock (failed_once tries)))).post j ≡ Some s → (stands post j ≡ Some s) ⊎ ((j ≡ index) × ((leads link s && (clock == era && under status root)) ≡ true))
check_stood clock status aim index root n era tries link post j s true e b h =
    check_rises clock status index root era link post j s e (held_rises status post index root link j s b (same_stands (protected aim index root n link era post).post (held_post post index root link) j s (protected_post aim index root n link era post) h))
check_stood clock status aim index root n era tries link post j s false e b h = inl h

upper_stood : (clock : ℕ) (status : ℕ → Status) (aim : Aim) (index : ℕ) (root : Root) (n link : ℕ) (post : Post) (j s : ℕ) (same : Bool) → (clock == upper post.span) ≡ same → index < length post.standing
    → stands (if same then protected aim index root n link clock post else goes post [] (Protect aim index root n (RaiseUpper clock))).post j ≡ Some s → (stands post j ≡ Some s) ⊎ ((j ≡ index) × ((leads link s && (clock == upper post.span && under status root)) ≡ true))
upper_stood clock status aim index root n link post j s true e b h =
    check_rises clock status index root (upper post.span) link post j s e (held_rises status post index root link j s b (same_stands (protected aim index root n link clock post).post (held_post post index root link) j s (protected_post aim index root n link clock post) h))
upper_stood clock status aim index root n link post j s false e b h = inl h

pub own_stood : (first era link found : ℕ) (last : Bool) (aim : Aim) (index : ℕ) (root : Root) (n : ℕ) (post : Post) (j s : ℕ) (same : Bool) → (found == era) ≡ same → stands (after_check_own_clock aim index root n first era last link post found).post j ≡ Some s → stands post j ≡ Some s
own_stood first era link found last aim index root n post j s true e h = rw e at h
own_stood first era link found last aim index root n post j s false e h = rw e at h

pub answer_stood : (first era link found : ℕ) (aim : Aim) (index : ℕ) (root : Root) (n : ℕ) (post : Post) (j s : ℕ) (same : Bool) → (found == own_request post index root) ≡ same → stands (after_answer_own aim index root n first era link post found).post j ≡ Some s → stands post j ≡ Some s
answer_stood first era link found aim index root n post j s true e h = rw e at h
answer_stood first era link found aim index root n post j s false e h = rw e at h

pub concluded_stood : (aim : Aim) (index : ℕ) (root : Root) (n link era : ℕ) (post : Post) (told : List Event) (j s : ℕ) → stands (concluded aim index root n link era post told).post j ≡ Some s → stands post j ≡ Some s
concluded_stood aim index root n link era post told j s h = same_stands (concluded aim index root n link era post told).post post j s (concluded_post aim index root n link era post told) h

-- hazard pointers: a link that ends the protection is loaded in that step, and a first one that ends it is null
pub first_stood : (status : ℕ → Status) (aim : Aim) (index : ℕ) (root : Root) (n link : ℕ) (post : Post) (j s : ℕ) (null : Bool) → (link == 0) ≡ null → index < length post.standing
    → stands (if null then protected aim index root n link 0 post else goes post [] (Protect aim index root n (ByHazard (PublishLink link)))).post j ≡ Some s → stands post j ≡ Some s
first_stood status aim index root n link post j s true e b h =
    by_rises (held_rises status post index root link j s b (same_stands (protected aim index root n link 0 post).post (held_post post index root link) j s (protected_post aim index root n link 0 post) h))
  where
    by_rises : Rises status post index root link j s → stands post j ≡ Some s
    by_rises (inl x) = x
    by_rises (inr x) = absurd (let y = x.1 in grind (arith, nat_tests))
first_stood status aim index root n link post j s false e b h = h

pub again_stood : (status : ℕ → Status) (aim : Aim) (index : ℕ) (root : Root) (n link found : ℕ) (post : Post) (j s : ℕ) (same : Bool) → (found == link || found == 0) ≡ same → index < length post.standing
    → stands (if same then protected aim index root n found 0 post else goes post [] (Protect aim index root n (ByHazard (PublishLink found)))).post j ≡ Some s → (stands post j ≡ Some s) ⊎ ((j ≡ index) × ((leads found s && (found == link && under status root)) ≡ true))
again_stood status aim index root n link found post j s true e b h =
    by_rises (held_rises status post index root found j s b (same_stands (protected aim index root n found 0 post).post (held_post post index root found) j s (protected_post aim index root n found 0 post) h))
  where
    by_rises : Rises status post index root found j s → (stands post j ≡ Some s) ⊎ ((j ≡ index) × ((leads found s && (found == link && under status root)) ≡ true))
    by_rises (inl x) = inl x
    by_rises (inr x) = inr (x.0, (let y = x.1 in let z = x.2 in grind (arith, nat_tests)))
again_stood status aim index root n link found post j s false e b h = inl h

abbrev Rose : ℕ → (ℕ → Status) → (Place → ℕ) → Post → ℕ → Root → ProtectAt → ℕ → ℕ → Type 0
Rose clock status mem post index root at j s = (stands post j ≡ Some s) ⊎ ((j ≡ index) × ((tries_protect clock status post root at s ≡ true) ⊎ (again_protect status mem root at s ≡ true)))

tried_rose : (clock : ℕ) (status : ℕ → Status) (mem : Place → ℕ) (post : Post) (index : ℕ) (root : Root) (at : ProtectAt) (j s : ℕ) → (stands post j ≡ Some s) ⊎ ((j ≡ index) × (tries_protect clock status post root at s ≡ true)) → Rose clock status mem post index root at j s
tried_rose clock status mem post index root at j s (inl x) = inl x
tried_rose clock status mem post index root at j s (inr x) = inr (x.0, inl x.1)

again_rose : (clock : ℕ) (status : ℕ → Status) (mem : Place → ℕ) (post : Post) (index : ℕ) (root : Root) (at : ProtectAt) (j s : ℕ) → (stands post j ≡ Some s) ⊎ ((j ≡ index) × (again_protect status mem root at s ≡ true)) → Rose clock status mem post index root at j s
again_rose clock status mem post index root at j s (inl x) = inl x
again_rose clock status mem post index root at j s (inr x) = inr (x.0, inr x.1)

protect_stood : (clock : ℕ) (status : ℕ → Status) (scheme : SchemeKind) (most : ℕ) (mem : Place → ℕ) (aim : Aim) (index : ℕ) (root : Root) (n : ℕ) (at : ProtectAt) (post last : Post) (j s : ℕ) → clock ≡ mem Clock → helps scheme ≡ false → protect_fits scheme most at ≡ true → index < length post.standing
    → stands (protect_turn aim index root n at post (found (protect_move index root at last) (mem (place_in (protect_move index root at last))))).post j ≡ Some s → Rose clock status mem post index root at j s
protect_stood clock status scheme most mem aim index root n (LoadClock tries) post last j s c w f b h = inl h
protect_stood clock status scheme most mem aim index root n (PublishEra era tries) post last j s c w f b h = inl h
protect_stood clock status scheme most mem aim index root n (LoadLink era tries) post last j s c w f b h = inl h
protect_stood clock status scheme most mem aim index root n (CheckClock era tries link) post last j s c w f b h =
    tried_rose clock status mem post index root (CheckClock era tries link) j s (rw c (check_stood (mem Clock) status aim index root n era tries link post j s (mem Clock == era) refl b h))
protect_stood clock status scheme most mem aim index root n PublishRequest post last j s c w f b h = inl h
protect_stood clock status scheme most mem aim index root n LoadOwnClock post last j s c w f b h = inl h
protect_stood clock status scheme most mem aim index root n (PublishHelper first era end) post last j s c w f b h = inl h
protect_stood clock status scheme most mem aim index root n (LoadOwnLink first era end) post last j s c w f b h = inl h
protect_stood clock status scheme most mem aim index root n (CheckOwnClock first era end link) post last j s c w f b h = inl (own_stood first era link (mem Clock) end aim index root n post j s (mem Clock == era) refl h)
protect_stood clock status scheme most mem aim index root n (AnswerOwn first era link) post last j s c w f b h = absurd (grind (arith, nat_tests))
protect_stood clock status scheme most mem aim index root n (LoadAnswer first) post last j s c w f b h = inl h
protect_stood clock status scheme most mem aim index root n (TakeAnswer link era) post last j s c w f b h = absurd (grind (arith, nat_tests))
protect_stood clock status scheme most mem aim index root n (WithdrawRequest link era) post last j s c w f b h = inl h
protect_stood clock status scheme most mem aim index root n (WithdrawHelper link era) post last j s c w f b h = absurd (grind (arith, nat_tests))
protect_stood clock status scheme most mem aim index root n LoadWithin post last j s c w f b h = inl h
protect_stood clock status scheme most mem aim index root n (CheckUpper link) post last j s c w f b h =
    tried_rose clock status mem post index root (CheckUpper link) j s (rw c (upper_stood (mem Clock) status aim index root n link post j s (mem Clock == upper post.span) refl b h))
protect_stood clock status scheme most mem aim index root n (RaiseUpper era) post last j s c w f b h = inl h
protect_stood clock status scheme most mem aim index root n (ByHazard FirstLink) post last j s c w f b h = inl (first_stood status aim index root n (mem (link_place root)) post j s (mem (link_place root) == 0) refl b h)
protect_stood clock status scheme most mem aim index root n (ByHazard (PublishLink link)) post last j s c w f b h = inl h
protect_stood clock status scheme most mem aim index root n (ByHazard (CheckLink link)) post last j s c w f b h =
    again_rose clock status mem post index root (ByHazard (CheckLink link)) j s (again_stood status aim index root n link (mem (link_place root)) post j s (mem (link_place root) == link || mem (link_place root) == 0) refl b h)

-- a followed row is held once the head is still its parent
pub reload_stood : (status : ℕ → Status) (parent index slot found n : ℕ) (post : Post) (j s : ℕ) (same : Bool) → (found == parent + 1) ≡ same → index < length post.standing → (found ≡ parent + 1 → in_queue (status parent) ≡ true)
    → stands (if same then ends (with_row post index slot) (events.Held index slot n ∷ []) (Followed (follow_ends.Followed slot)) else ends post [] (Followed (follow_ends.RootMoved found))).post j ≡ Some s → (stands post j ≡ Some s) ⊎ ((j ≡ index) × ((slot == s && in_queue (status parent)) ≡ true))
reload_stood status parent index slot found n post j s true e b q h = by_same (j == index) refl where
  by_same : (own : Bool) → (j == index) ≡ own → (stands post j ≡ Some s) ⊎ ((j ≡ index) × ((slot == s && in_queue (status parent)) ≡ true))
  by_same true k = let y = with_row_is post index slot j s b k h in let p = q (grind (arith, nat_tests)) in inr (grind (arith, nat_tests), grind (arith, nat_tests))
  by_same false k = inl (with_row_apart post index slot j s k h)
reload_stood status parent index slot found n post j s false e b q h = inl h

walk_stood : (birth : ℕ) (post : Post) (x : Option Walk) (j s : ℕ) → stands (walking birth post x).post j ≡ Some s → stands post j ≡ Some s
walk_stood birth post None j s h = h
walk_stood birth post (Some walk) j s h = h

claim_stood : (birth : ℕ) (walk : Walk) (found : ℕ) (post : Post) (j s : ℕ) (shown : Bool) → is_claimed found walk.slot ≡ shown → stands (after_claim_slot birth walk post found).post j ≡ Some s → stands post j ≡ Some s
claim_stood birth walk found post j s true e h = walk_stood birth post (walk_past post.layout.config.slots walk found) j s (rw e at h)
claim_stood birth walk found post j s false e h = rw e at h

pub allocate_stood : (at : AllocateAt) (found : ℕ) (post : Post) (j s : ℕ) → stands (allocate_turn at post found).post j ≡ Some s → stands post j ≡ Some s
allocate_stood LoadBirth found post j s h = h
allocate_stood (ClaimSlot birth walk) found post j s h = claim_stood birth walk found post j s (is_claimed found walk.slot) refl h
allocate_stood (StoreLife birth slot) found post j s h = h

pub write_stood : (slot : ℕ) (row : RowOf) (place : ℕ) (post : Post) (j s : ℕ) (last : Bool) → (place == last_written row) ≡ last → stands (after_write slot row place post).post j ≡ Some s → stands post j ≡ Some s
write_stood slot row place post j s true e h = rw e at h
write_stood slot row place post j s false e h = rw e at h

pub retire_stood : (at : RetireAt) (found : ℕ) (post : Post) (j s : ℕ) → stands (retire_turn at post found).post j ≡ Some s → stands post j ≡ Some s
retire_stood (LoadLife slot) found post j s h = h
retire_stood (LoadRetire slot birth) found post j s h = h
retire_stood (StoreRetired slot birth retire) found post j s h = h

-- a mover's step leaves its post
load_era_stood : (helps : Bool) (found : ℕ) (post : Post) (j s : ℕ) (last : Bool) → (found == post.layout.config.last_era) ≡ last → stands (after_load_era helps post found).post j ≡ Some s → stands post j ≡ Some s
load_era_stood helps found post j s true e h = rw e at h
load_era_stood helps found post j s false e h = rw e at h

check_era_stood : (era seat tag index link found : ℕ) (root : Root) (post : Post) (j s : ℕ) (same : Bool) → (found == era) ≡ same → stands (after_check_era era seat tag index root link post found).post j ≡ Some s → stands post j ≡ Some s
check_era_stood era seat tag index link found root post j s true e h = rw e at h
check_era_stood era seat tag index link found root post j s false e h = rw e at h

exchange_stood : (era found : ℕ) (post : Post) (j s : ℕ) (same : Bool) → (found == era) ≡ same → stands (after_exchange_clock era post found).post j ≡ Some s → stands post j ≡ Some s
exchange_stood era found post j s true e h = rw e at h
exchange_stood era found post j s false e h = rw e at h

answer_asked_stood : (era seat tag index link found : ℕ) (root : Root) (post : Post) (j s : ℕ) (same : Bool) → (found == asking post.layout tag index root) ≡ same → stands (after_answer_asked era seat tag index root link post found).post j ≡ Some s → stands post j ≡ Some s
answer_asked_stood era seat tag index link found root post j s true e h = rw e at h
answer_asked_stood era seat tag index link found root post j s false e h = rw e at h

reserved_stood : (era seat tag index link found : ℕ) (root : Root) (post : Post) (j s : ℕ) (same : Bool) → ((read_reservation found).tag == tag) ≡ same → stands (after_load_reserved era seat tag index root link post found).post j ≡ Some s → stands post j ≡ Some s
reserved_stood era seat tag index link found root post j s true e h = rw e at h
reserved_stood era seat tag index link found root post j s false e h = rw e at h

handed_stood : (era seat tag index old : ℕ) (post : Post) (j s : ℕ) (same : Bool) → stands (after_hand_over era seat tag index old post same).post j ≡ Some s → stands post j ≡ Some s
handed_stood era seat tag index old post j s true h = h
handed_stood era seat tag index old post j s false h = h

pub move_stood : (at : MoveAt) (found : ℕ) (post : Post) (j s : ℕ) → stands (move_turn at post found).post j ≡ Some s → stands post j ≡ Some s
move_stood (LoadEra helps) found post j s h = load_era_stood helps found post j s (found == post.layout.config.last_era) refl h
move_stood (LoadRequest era seat shows) found post j s h = h
move_stood (ShowEra era seat tag index root) found post j s h = h
move_stood (LoadAsked era seat tag index root) found post j s h = h
move_stood (CheckEra era seat tag index root link) found post j s h = check_era_stood era seat tag index link found root post j s (found == era) refl h
move_stood (AnswerAsked era seat tag index root link) found post j s h = answer_asked_stood era seat tag index link found root post j s (found == asking post.layout tag index root) refl h
move_stood (LoadReserved era seat tag index root link) found post j s h = reserved_stood era seat tag index link found root post j s ((read_reservation found).tag == tag) refl h
move_stood (HandOver era seat tag index root link old) found post j s h = handed_stood era seat tag index old post j s (found == reservation_word (record { era = old; tag = tag })) h
move_stood (HideEra era) found post j s h = h
move_stood (HideLate seen) found post j s h = h
move_stood (ExchangeClock era) found post j s h = exchange_stood era found post j s (found == era) refl h

pub begin_stood : (at : BeginAt) (found : ℕ) (post : Post) (j s : ℕ) → stands (begin_turn at post found).post j ≡ Some s → stands post j ≡ Some s
begin_stood LoadLower found post j s h = h
begin_stood (PublishSpan era) found post j s h = h

reload_rose : (status : ℕ → Status) (parent index slot j s : ℕ) (post : Post) → (stands post j ≡ Some s) ⊎ ((j ≡ index) × ((slot == s && in_queue (status parent)) ≡ true)) → (stands post j ≡ Some s) ⊎ ((j ≡ index) × (((slot == s && in_queue (status parent)) ≡ true) ⊎ (false ≡ true)))
reload_rose status parent index slot j s post (inl x) = inl x
reload_rose status parent index slot j s post (inr x) = inr (x.0, inl x.1)

-- what stands after a machine's step
pub base_stood : (status : ℕ → Status) (config : Config) (mem : Place → ℕ) (base : Base) (post last : Post) (j s : ℕ) → helps config.scheme ≡ false → base_fits config base ≡ true → index_base base < length post.standing → ((p : ℕ) → mem Head ≡ p + 1 → in_queue (status p) ≡ true)
    → stands (after base post (found (base_move base last) (mem (place_in (base_move base last))))).post j ≡ Some s → Was (mem Clock) status mem post base j s
base_stood status config mem (Begin at) post last j s w f b q h = inl (begin_stood at (found (base_move (Begin at) last) (mem (place_in (base_move (Begin at) last)))) post j s h)
base_stood status config mem (Protect aim index root steps at) post last j s w f b q h = protect_stood (mem Clock) status config.scheme config.tries mem aim index root (bump steps) at post last j s refl w f b h
base_stood status config mem (Reload parent index slot era steps) post last j s w f b q h = reload_rose status parent index slot j s post (reload_stood status parent index slot (mem Head) (bump steps) post j s (mem Head == parent + 1) refl b (q parent) h)
base_stood status config mem (Clear rows index) post last j s w f b q h = inl (withdrawn_shrinks post index j s h)
base_stood status config mem Finish post last j s w f b q h = inl h
base_stood status config mem (Release index) post last j s w f b q h = inl (withdrawn_shrinks post index j s h)
base_stood status config mem (Allocate at) post last j s w f b q h = inl (allocate_stood at (found (base_move (Allocate at) last) (mem (place_in (base_move (Allocate at) last)))) post j s h)
base_stood status config mem (Write slot row place) post last j s w f b q h = inl (write_stood slot row place post j s (place == last_written row) refl h)
base_stood status config mem (GiveUp slot) post last j s w f b q h = inl h
base_stood status config mem (Retire at) post last j s w f b q h = inl (retire_stood at (found (base_move (Retire at) last) (mem (place_in (base_move (Retire at) last)))) post j s h)
base_stood status config mem (Move at) post last j s w f b q h = inl (move_stood at (found (base_move (Move at) last) (mem (place_in (base_move (Move at) last)))) post j s h)
