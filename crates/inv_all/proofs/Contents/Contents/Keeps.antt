-- What stands at an index from 2 on is a row of a bucket: it stood there before a step, or at the index that is copied, or the step takes
-- it from the bucket's root.
use Rattle.std.proofs.Common.{ℕ, ◌≡◌, ◌≤◌, ◌<◌, ◌+◌, Bool, true, false, ◌&&◌, ◌⊎◌, inl, inr, arith, refl, sym, subst, ◌∙◌, List, [], length}
use Rattle.std.specs.Prelude.{◌==◌, ◌||◌, if◌then◌else◌, Option, Some, None}
use Rattle.inv_ends.specs.model.words.Schemes.{has_one_interval, publishes_rows}
use Rattle.inv_ends.specs.model.words.declared.config.Config.{Config}
use Rattle.inv_ends.specs.model.words.declared.layout.Layout.{Layout}
use Rattle.inv_ends.specs.model.defs.declared.event.Event.{Event}
use Rattle.inv_ends.specs.model.defs.declared.event.Root.{Root}
use Rattle.inv_ends.specs.model.declared.post.Post.{Post}
use Rattle.inv_ends.specs.model.Desks.{Desk}
use Rattle.inv_ends.specs.model.Keep as keeps
use Rattle.inv_ends.specs.model.Machine as machine
use Rattle.inv_ends.specs.model.Memory.{bump}
use Rattle.inv_ends.specs.model.Phases.{Aim, ProtectAt, Base, Outcome, Goes, Ends, Turn}
use Rattle.inv_ends.specs.model.Phases.ProtectAt.{LoadClock, PublishEra, LoadLink, CheckClock, PublishRequest, LoadOwnClock, PublishHelper, LoadOwnLink, CheckOwnClock, AnswerOwn, LoadAnswer, TakeAnswer, WithdrawRequest, WithdrawHelper, LoadWithin, CheckUpper, RaiseUpper, ByHazard}
use Rattle.inv_ends.specs.model.Phases.HazardAt.{FirstLink, PublishLink, CheckLink}
use Rattle.inv_ends.specs.model.Phases.Base.{Begin, Protect, Reload, Clear, Finish, Release, Allocate, Write, GiveUp, Retire, Move}
use Rattle.inv_ends.specs.model.Posts.{counted, stands, with_row, with_tag, tag_of, upper, reserves_helper, publishes_index}
use Rattle.inv_ends.specs.model.Protect.{held_post, protected}
use Rattle.inv_ends.specs.model.Rounds.{scheme_of}
use Rattle.inv_ends.specs.model.SlowPath.{own_request}
use Rattle.inv_ends.specs.model.Steps.{phase_turn, resumed, work_turn}
use Rattle.inv_ends.specs.model.WriteRow.{last_written}
use Rattle.inv_ends.specs.model.Calls.{Gets, Changes, Holds, Enqueues, Dequeues, Why, Opens, FollowsHead, LoadHeld, StoreHeld, Work, Keeping, Phase, Idle, Runs, Scans, Works}
use Rattle.inv_ends.specs.requests.Parents.{rises_at}
use Rattle.inv_ends.specs.shapes.Seats.{PostFits, Run, PhaseFits, kind_of, reloads, index_by}
use Rattle.inv_ends.specs.shapes.Slots.{WorkIn, PhaseIn}
use Rattle.inv_ends.proofs.shapes.Written.{index_few, reloads_protect}
use Rattle.inv_ends.specs.rows.Rows.{Status}
use Rattle.inv_ends.specs.rows.Rows.Status.{InQueue}
use Rattle.inv_ends.proofs.covers.Stands.{withdrawn_shrinks, with_row_apart, with_row_is}
use Rattle.inv_ends.proofs.covers.Stood.{held_rises, first_stood, again_stood, protected_post, same_stands, own_stood, answer_stood, concluded_stood, reload_stood, allocate_stood, write_stood, retire_stood, move_stood, begin_stood}
use Rattle.inv_ends.proofs.covers.Scans.{scan_shrinks}
use Rattle.inv_ends.proofs.covers.Fresh.{work_fresh, resume_fresh}
use Rattle.inv_all.specs.Contents.Shelf.{Shelf, OfBucket}
use Rattle.inv_all.specs.Contents.Contents.{KeptRows}
use Rattle.std.proofs.lemmas.Bool.Decides.{nat_tests}
use Rattle.inv_ends.specs.covers.Held.{under}

-- a row that stands after a protection's step stood before, or is the one to which its link leads

abbrev Rose : Post → ℕ → ProtectAt → (found j s : ℕ) → Type 0
Rose post index at found j s = (stands post j ≡ Some s) ⊎ ((j ≡ index) × (rises_at post at found s ≡ true))

-- of any status
abbrev any : ℕ → Status
any s = InQueue

held_rose : (post : Post) (index : ℕ) (root : Root) (link j s : ℕ) → index < length post.standing → stands (held_post post index root link) j ≡ Some s → (stands post j ≡ Some s) ⊎ ((j ≡ index) × ((link == s + 1) ≡ true))
held_rose post index root link j s b h = leads (held_rises any post index root link j s b h)
  where
    leads : {A : Type 0} → (stands post j ≡ Some s) ⊎ ((j ≡ index) × ((link == s + 1) ≡ true) × A) → (stands post j ≡ Some s) ⊎ ((j ≡ index) × ((link == s + 1) ≡ true))
    leads (inl x) = inl x
    leads (inr x) = inr (x.0, x.1)

-- a try is concluded where what is known is found
tried_rose : (aim : Aim) (index : ℕ) (root : Root) (n link era : ℕ) (post : Post) (t : Turn) (found known j s : ℕ) (same : Bool) → (found == known) ≡ same → t.post ≡ post → index < length post.standing
    → stands (if same then protected aim index root n link era post else t).post j ≡ Some s
    → (stands post j ≡ Some s) ⊎ ((j ≡ index) × (((found == known) && (link == s + 1)) ≡ true))
tried_rose aim index root n link era post t found known j s true e q b h = found_by (held_rose post index root link j s b (same_stands (protected aim index root n link era post).post (held_post post index root link) j s (protected_post aim index root n link era post) h))
  where
    found_by : (stands post j ≡ Some s) ⊎ ((j ≡ index) × ((link == s + 1) ≡ true)) → (stands post j ≡ Some s) ⊎ ((j ≡ index) × (((found == known) && (link == s + 1)) ≡ true))
    found_by (inl x) = inl x
    found_by (inr x) = inr (x.0, rw (e, x.1) refl)
tried_rose aim index root n link era post t found known j s false e q b h = inl (same_stands t.post post j s q h)

-- a link is loaded again
again_rose : (post : Post) (index : ℕ) (root : Root) (link found j s : ℕ) → (stands post j ≡ Some s) ⊎ ((j ≡ index) × (((found == s + 1) && (found == link && under any root)) ≡ true)) → (stands post j ≡ Some s) ⊎ ((j ≡ index) × (((found == link) && (link == s + 1)) ≡ true))
again_rose post index root link found j s (inl x) = inl x
again_rose post index root link found j s (inr x) = inr (x.0, (let y = x.1 in grind (arith, nat_tests)))

protect_rose : (aim : Aim) (index : ℕ) (root : Root) (n : ℕ) (at : ProtectAt) (post : Post) (found j s : ℕ) → index < length post.standing → stands (machine.protect_turn aim index root n at post found).post j ≡ Some s → Rose post index at found j s
protect_rose aim index root n (LoadClock tries) post found j s b h = inl h
protect_rose aim index root n (PublishEra era tries) post found j s b h = inl h
protect_rose aim index root n (LoadLink era tries) post found j s b h = inl h
protect_rose aim index root n (CheckClock era tries link) post found j s b h = tried_rose aim index root n link era post _ found era j s (found == era) refl refl b h
protect_rose aim index root n PublishRequest post found j s b h = inl h
protect_rose aim index root n LoadOwnClock post found j s b h = inl h
protect_rose aim index root n (PublishHelper first era last) post found j s b h = inl h
protect_rose aim index root n (LoadOwnLink first era last) post found j s b h = inl h
protect_rose aim index root n (CheckOwnClock first era last link) post found j s b h = inl (own_stood first era link found last aim index root n post j s (found == era) refl h)
protect_rose aim index root n (AnswerOwn first era link) post found j s b h = inl (answer_stood first era link found aim index root n post j s (found == own_request post index root) refl h)
protect_rose aim index root n (LoadAnswer first) post found j s b h = inl h
protect_rose aim index root n (TakeAnswer link era) post found j s b h = held_rose (with_tag post index (tag_of post index + 1)) index root link j s b h
protect_rose aim index root n (WithdrawRequest link era) post found j s b h = inl h
protect_rose aim index root n (WithdrawHelper link era) post found j s b h = inl (concluded_stood aim index root n link era post (reserves_helper post 0) j s h)
protect_rose aim index root n LoadWithin post found j s b h = inl h
protect_rose aim index root n (CheckUpper link) post found j s b h = tried_rose aim index root n link found post _ found (upper post.span) j s (found == upper post.span) refl refl b h
protect_rose aim index root n (RaiseUpper era) post found j s b h = inl h
protect_rose aim index root n (ByHazard FirstLink) post found j s b h = inl (first_stood any aim index root n found post j s (found == 0) refl b h)
protect_rose aim index root n (ByHazard (PublishLink link)) post found j s b h = inl h
protect_rose aim index root n (ByHazard (CheckLink link)) post found j s b h = again_rose post index root link found j s (again_stood any aim index root n link found post j s (found == link || found == 0) refl b h)

pub rises_counted : (post : Post) (at : ProtectAt) (found s : ℕ) → rises_at (counted post) at found s ≡ rises_at post at found s
rises_counted post (CheckUpper link) found s = refl
rises_counted post at found s = refl

-- machines that protect nothing

abbrev takes : Base → Bool
takes (Protect aim index root steps at) = true
takes (Reload parent index slot era steps) = true
takes base = false

base_stood : (base : Base) (post : Post) (found j s : ℕ) → takes base ≡ false → stands (machine.after base post found).post j ≡ Some s → stands post j ≡ Some s
base_stood (Begin at) post found j s n h = begin_stood at found post j s h
base_stood (Protect aim index root steps at) post found j s n h = absurd (cc)
base_stood (Reload parent index slot era steps) post found j s n h = absurd (cc)
base_stood (Clear rows index) post found j s n h = withdrawn_shrinks post index j s h
base_stood Finish post found j s n h = h
base_stood (Release index) post found j s n h = withdrawn_shrinks post index j s h
base_stood (Allocate at) post found j s n h = allocate_stood at found post j s h
base_stood (Write slot row place) post found j s n h = write_stood slot row place post j s (place == last_written row) refl h
base_stood (GiveUp slot) post found j s n h = h
base_stood (Retire at) post found j s n h = retire_stood at found post j s h
base_stood (Move at) post found j s n h = move_stood at found post j s h

-- a hold takes rows of a bucket
abbrev pub Takes : Shelf → Phase → Post → ℕ → Type 0
Takes a phase post found =
    (key : ℕ) (aim : Aim) (index : ℕ) (root : Root) (steps : ℕ) (at : ProtectAt) (s : ℕ) → phase ≡ Runs (Opens (Holds key)) (Protect aim index root steps at) → rises_at post at found s ≡ true → OfBucket a s

-- only a hold protects at an index from 2 on
taken_by : (a : Shelf) (layout : Layout) (why : Why) (aim : Aim) (index : ℕ) (root : Root) (steps : ℕ) (at : ProtectAt) (post : Post) (found j s : ℕ) → Run layout why (Protect aim index root steps at) post
    → Takes a (Runs why (Protect aim index root steps at)) post found → 2 ≤ j → j ≡ index_by why → rises_at post at found s ≡ true → OfBucket a s
taken_by a layout (Opens (Holds key)) aim index root steps at post found j s r n low p u = n key aim index root steps at s refl u
taken_by a layout (Opens (Gets key)) aim index root steps at post found j s r n low p u = absurd (omega arith)
taken_by a layout (Opens (Changes kept)) aim index root steps at post found j s r n low p u = absurd (omega arith)
taken_by a layout (Opens (Enqueues kept)) aim index root steps at post found j s r n low p u = absurd (omega arith)
taken_by a layout (Opens Dequeues) aim index root steps at post found j s r n low p u = absurd (omega arith)
taken_by a layout (FollowsHead head tail) aim index root steps at post found j s r n low p u = absurd (omega arith)
taken_by a layout why aim index root steps at post found j s r n low p u = absurd (let x = r.suited in cc)

-- and no head is loaded again for one
not_reloaded : (why : Why) (j : ℕ) → reloads (kind_of why) ≡ true → 2 ≤ j → j ≡ index_by why → ⊥
not_reloaded (FollowsHead head tail) j x low p = omega arith
not_reloaded why j x low p = cc

run_kept : (a : Shelf) (layout : Layout) (k : ℕ) (why : Why) (base : Base) (post : Post) (found : ℕ) → PostFits layout k post → Run layout why base post → Takes a (Runs why base) post found → KeptRows a post → KeptRows a (machine.after base post found).post
run_kept a layout k why (Protect aim index root steps at) post found q r n h = λ j s low e. rose j s low (protect_rose aim index root (bump steps) at post found j s small e)
  where
    small : index < length post.standing
    small = omega (arith, index_few why r.suited, r.shape.at, q.standing)

    rose : (j s : ℕ) → 2 ≤ j → Rose post index at found j s → OfBucket a s
    rose j s low (inl x) = h j s low x
    rose j s low (inr x) = taken_by a layout why aim index root steps at post found j s r n low (x.0 ∙ r.shape.at) x.1
run_kept a layout k why (Reload parent index slot era steps) post found q r n h = λ j s low e. rose j s low (reload_stood any parent index slot found (bump steps) post j s (found == parent + 1) refl small (λ x. refl) e)
  where
    small : index < length post.standing
    small = omega (arith, index_few why (reloads_protect (kind_of why) r.suited), r.shape.at, q.standing)

    rose : {A : Type 0} → (j s : ℕ) → 2 ≤ j → (stands post j ≡ Some s) ⊎ ((j ≡ index) × A) → OfBucket a s
    rose j s low (inl x) = h j s low x
    rose j s low (inr x) = absurd (not_reloaded why j r.suited low (x.0 ∙ r.shape.at))
run_kept a layout k why base post found q r n h = λ j s low e. h j s low (base_stood base post found j s refl e)

resumed_kept : (a : Shelf) (why : Why) (desk : Desk) (post : Post) (told : List Event) (outcome : Outcome) → KeptRows a post → KeptRows a (resumed why desk post told outcome).post
resumed_kept a why desk post told (Goes base) h = h
resumed_kept a why desk post told (Ends ending) h = λ j s low e. h j s low ((resume_fresh why ending post desk told).shrinks j s e)

-- a copy makes stand what stood at an index from 2 on
copied_kept : (a : Shelf) (from index : ℕ) (post : Post) (desk : Desk) (reserved : List Event) (kept : Option ℕ) → stands post from ≡ kept → 2 ≤ from → index < length post.standing → KeptRows a post → KeptRows a (keeps.copied from index post desk reserved kept).post
copied_kept a from index post desk reserved None e f b h = h
copied_kept a from index post desk reserved (Some slot) e f b h = λ j s low y. by_index j s low (j == index) refl y
  where
    by_index : (j s : ℕ) → 2 ≤ j → (same : Bool) → (j == index) ≡ same → stands (with_row post index slot) j ≡ Some s → OfBucket a s
    by_index j s low true k y = let is = with_row_is post index slot j s b k y in subst (λ (n : ℕ). OfBucket a n) (sym is) (h from slot f e)
    by_index j s low false k y = h j s low (with_row_apart post index slot j s k y)

load_held_kept : (a : Shelf) (from index : ℕ) (post : Post) (desk : Desk) (found : ℕ) (one : Bool) → 2 ≤ from → index < length post.standing → KeptRows a post → KeptRows a (keeps.load_held from index post desk found one).post
load_held_kept a from index post desk found true f b h = copied_kept a from index post desk [] (stands post from) refl f b h
load_held_kept a from index post desk found false f b h = h

work_kept : (a : Shelf) (config : Config) (work : Work) (post : Post) (desk : Desk) (found : ℕ) → config.indexes ≤ length post.standing → WorkIn config work → KeptRows a post → KeptRows a (work_turn work post desk found).post
work_kept a config (Keeping (LoadHeld from index)) post desk found b y h = load_held_kept a from index post desk found (has_one_interval (scheme_of post)) y.kept (omega (arith, y.below)) h
work_kept a config (Keeping (StoreHeld from index era)) post desk found b y h = copied_kept a from index post desk (publishes_index (publishes_rows (scheme_of post)) post index era) (stands post from) refl y.kept (omega (arith, y.below)) h
work_kept a config work post desk found b y h = λ j s low e. h j s low ((work_fresh work post desk found refl).shrinks j s e)

pub turn_kept : (a : Shelf) (layout : Layout) (k : ℕ) (phase : Phase) (post : Post) (desk list : Desk) (found : ℕ) → layout.config.indexes ≤ 8 → PostFits layout k post → PhaseFits layout post phase → PhaseIn layout list phase
    → Takes a phase post found → KeptRows a post → KeptRows a (phase_turn phase post desk found).post
turn_kept a layout k Idle post desk list found b q f y n h = h
turn_kept a layout k (Runs why base) post desk list found b q f y n h =
    let t : Turn = machine.after base post found in
    resumed_kept a why desk t.post t.told t.outcome (run_kept a layout k why base post found q f n h)
turn_kept a layout k (Scans later at) post desk list found b q f y n h = λ j s low e. h j s low (scan_shrinks later at post desk found j s e)
turn_kept a layout k (Works work) post desk list found b q f y n h = work_kept a layout.config work post desk found (omega (arith, q.standing)) y h
