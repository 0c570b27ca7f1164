-- A seat's tags after its step: one rises where an answer is taken, and else they stay.
use Rattle.inv_rows.specs.model.Calls.Work.{Keeping}
use Rattle.inv_rows.specs.model.Calls.KeepAt.{HideSpan}
use Rattle.std.proofs.Common.{ℕ, ◌+◌, ◌≤◌, ◌<◌, ◌-◌, Bool, true, false, ◌≡◌, ◌≢◌, ◌∙◌, sym, refl, ap, subst, arith}
use Rattle.std.proofs.lemmas.Bool.Decides.{nat_tests}
use Rattle.std.proofs.lemmas.Grind.{common_steps}
use Rattle.std.specs.Prelude.{slice_index, slice_set, List, [], ◌∷◌, length, Option, Some, None, if◌then◌else◌, ◌==◌, ◌||◌}
use Rattle.inv_rows.specs.model.Machine as machine
use Rattle.inv_rows.specs.model.Phases.Ending.{Followed, Clocked}
use Rattle.inv_rows.specs.model.declared.ends.FollowEnd.TheVariants as follow_ends
use Rattle.inv_rows.specs.defs.declared.event.Event.TheVariants as events
use Rattle.inv_rows.specs.defs.declared.event.Root.TheVariants as roots
use Rattle.inv_rows.specs.defs.declared.call.ClockMove.TheVariants as moves
use Rattle.inv_rows.specs.model.Allocate.{after_claim_slot, is_claimed, walk_past, walking}
use Rattle.inv_rows.specs.model.Calls.{KeepAt, Phase, Why, Work}
use Rattle.inv_rows.specs.model.Calls.Phase.{Idle, Runs, Scans, Works}
use Rattle.inv_rows.specs.model.Links.{parent_of}
use Rattle.inv_rows.specs.model.Locals.{Local, after, settled}
use Rattle.inv_rows.specs.model.Machine.{move_turn}
use Rattle.inv_rows.specs.model.Memory.{bump}
use Rattle.inv_rows.specs.model.MoveClock.{after_hand_over}
use Rattle.inv_rows.specs.model.Phases.{Aim, Base, Ending, MoveAt, Outcome, ProtectAt, Walk, ends, goes}
use Rattle.inv_rows.specs.model.Phases.Aim.{Alone, Follows}
use Rattle.inv_rows.specs.model.Phases.AllocateAt.{ClaimSlot, LoadBirth, StoreLife}
use Rattle.inv_rows.specs.model.Phases.Base.{Allocate, Begin, Clear, Finish, GiveUp, Move, Protect, Release, Reload, Retire, Write}
use Rattle.inv_rows.specs.model.Phases.BeginAt.{LoadLower, PublishSpan}
use Rattle.inv_rows.specs.model.Phases.MoveAt.{AnswerAsked, CheckEra, ExchangeClock, HandOver, HideEra, HideLate, LoadAsked, LoadEra, LoadRequest, LoadReserved, ShowEra}
use Rattle.inv_rows.specs.model.Phases.Outcome.{Ends, Goes}
use Rattle.inv_rows.specs.model.Phases.ProtectAt.{AnswerOwn, CheckClock, CheckOwnClock, CheckUpper, LoadAnswer, LoadClock, LoadLink, LoadOwnClock, LoadOwnLink, LoadWithin, PublishEra, PublishHelper, PublishRequest, RaiseUpper, TakeAnswer, WithdrawHelper, WithdrawRequest, ByHazard}
use Rattle.inv_rows.specs.model.Phases.HazardAt.{FirstLink, PublishLink, CheckLink}
use Rattle.inv_rows.specs.model.Phases.RetireAt.{LoadLife, LoadRetire, StoreRetired}
use Rattle.inv_rows.specs.model.Posts.{counted, reserves_helper, tag_of, upper, with_row, with_tag}
use Rattle.inv_rows.specs.model.Protect.{concluded, held_post, protected, told_held}
use Rattle.inv_rows.specs.model.SlowPath.{asking, own_request}
use Rattle.inv_rows.specs.model.Steps.{phase_turn}
use Rattle.inv_rows.specs.model.World.{World, finds, offered, step}
use Rattle.inv_rows.specs.model.WriteRow.{last_written}
use Rattle.inv_rows.specs.model.declared.post.Post.{Post}
use Rattle.inv_rows.specs.defs.declared.event.Event.{Event}
use Rattle.inv_rows.specs.defs.declared.event.Root.{Root}
use Rattle.inv_rows.proofs.Shapes.Frame.{after_seated, moves_with, seat_stays, seat_steps}
use Rattle.inv_rows.proofs.Shapes.Inside.{shape_moves}
use Rattle.inv_rows.proofs.Shapes.Kept.{bared_fits, counted_fits, run_counted, work_counted}
use Rattle.inv_rows.proofs.Shapes.Shapes.{shape_grows}
use Rattle.inv_rows.specs.Shapes.Frame.{Grows, Moves, Onward, Owes, Seated, bared}
use Rattle.inv_rows.specs.Shapes.Seats.{PhaseFits, PostFits, Run, Seats}
use Rattle.inv_rows.specs.words.Packed.{read_reservation}
use Rattle.inv_rows.specs.words.Place.{is_valid}
use Rattle.inv_rows.specs.words.declared.layout.Layout.{Layout}
use Rattle.inv_ends.proofs.Ends.Stood.{at_below}
use Rattle.inv_ends.proofs.Told.Births.{each_stores}
use Rattle.inv_rows.proofs.model.Facts.{set_there, no_truth_2}

-- the step takes an answer
abbrev pub takes_at : ProtectAt → Bool
takes_at (TakeAnswer link era) = true
takes_at at = false

abbrev pub takes_base : Base → Bool
takes_base (Protect aim index root steps at) = takes_at at
takes_base base = false

abbrev pub takes_in : Phase → Bool
takes_in (Runs why base) = takes_base base
takes_in phase = false

goes_tags : (post : Post) (a b : Base) (same : Bool) → (if same then goes post [] a else goes post [] b).post.tags ≡ post.tags
goes_tags post a b true = refl
goes_tags post a b false = refl

ends_tags : (post : Post) (a : Ending) (b : Base) (same : Bool) → (if same then ends post [] a else goes post [] b).post.tags ≡ post.tags
ends_tags post a b true = refl
ends_tags post a b false = refl

held_by : (post : Post) (index link : ℕ) (null : Bool) → (if null then post else with_row post index (link - 1)).tags ≡ post.tags
held_by post index link true = refl
held_by post index link false = refl

held_tags : (post : Post) (index : ℕ) (root : Root) (link : ℕ) → (held_post post index root link).tags ≡ post.tags
held_tags post index (roots.Bucket bucket) link = held_by post index link (link == 0)
held_tags post index roots.Head link = held_by post index link (link == 0)
held_tags post index roots.Tail link = held_by post index link (link == 0)
held_tags post index (roots.Next parent) link = refl

over_tags : (index : ℕ) (root : Root) (n link era : ℕ) (post : Post) (told : List Event) (null : Bool) → (if null then ends post told (Followed follow_ends.NoNext) else goes post told (Reload (parent_of root) index (link - 1) era n)).post.tags ≡ post.tags
over_tags index root n link era post told true = refl
over_tags index root n link era post told false = refl

concluded_tags : (aim : Aim) (index : ℕ) (root : Root) (n link era : ℕ) (post : Post) (told : List Event) → (concluded aim index root n link era post told).post.tags ≡ post.tags
concluded_tags Alone index root n link era post told = refl
concluded_tags Follows index root n link era post told = over_tags index root n link era post told (link == 0)

check_tags : (aim : Aim) (index : ℕ) (root : Root) (n link era : ℕ) (post : Post) (next : Base) (same : Bool) → (if same then protected aim index root n link era post else goes post [] next).post.tags ≡ post.tags
check_tags aim index root n link era post next true = concluded_tags aim index root n link era (held_post post index root link) (told_held index root link n) ∙ held_tags post index root link
check_tags aim index root n link era post next false = refl

reload_tags : (post : Post) (index slot n found : ℕ) (same : Bool) → (if same then ends (with_row post index slot) (events.Held index slot n ∷ []) (Followed (follow_ends.Followed slot)) else ends post [] (Followed (follow_ends.RootMoved found))).post.tags ≡ post.tags
reload_tags post index slot n found true = refl
reload_tags post index slot n found false = refl

walking_tags : (birth : ℕ) (post : Post) (x : Option Walk) → (walking birth post x).post.tags ≡ post.tags
walking_tags birth post None = refl
walking_tags birth post (Some walk) = refl

claim_tags : (birth : ℕ) (walk : Walk) (post : Post) (found : ℕ) (taken : Bool) → is_claimed found walk.slot ≡ taken → (after_claim_slot birth walk post found).post.tags ≡ post.tags
claim_tags birth walk post found true e = rw e (walking_tags birth post (walk_past post.layout.config.slots walk found))
claim_tags birth walk post found false e = rw e refl

clock_tags : (era found : ℕ) (post : Post) (same : Bool) → (if same then ends post (events.Era (era + 1) ∷ []) (Clocked (moves.Moved (era + 1))) else ends post [] (Clocked (moves.Other found))).post.tags ≡ post.tags
clock_tags era found post true = refl
clock_tags era found post false = refl

hand_tags : (era seat tag index old : ℕ) (post : Post) (same : Bool) → (after_hand_over era seat tag index old post same).post.tags ≡ post.tags
hand_tags era seat tag index old post true = refl
hand_tags era seat tag index old post false = refl

move_tags : (at : MoveAt) (post : Post) (found : ℕ) → (move_turn at post found).post.tags ≡ post.tags
move_tags (LoadEra helps) post found = ends_tags post _ _ (found == post.layout.config.last_era)
move_tags (LoadRequest era seat shows) post found = refl
move_tags (ShowEra era seat tag index root) post found = refl
move_tags (LoadAsked era seat tag index root) post found = refl
move_tags (CheckEra era seat tag index root link) post found = goes_tags post _ _ (found == era)
move_tags (AnswerAsked era seat tag index root link) post found = goes_tags post _ _ (found == asking post.layout tag index root)
move_tags (LoadReserved era seat tag index root link) post found = goes_tags post _ _ ((read_reservation found).tag == tag)
move_tags (HandOver era seat tag index root link old) post found = hand_tags era seat tag index old post _
move_tags (HideEra era) post found = refl
move_tags (HideLate seen) post found = refl
move_tags (ExchangeClock era) post found = clock_tags era found post (found == era)

base_tags : (base : Base) (post : Post) (found : ℕ) → takes_base base ≡ false → (machine.after base post found).post.tags ≡ post.tags
base_tags (Protect aim index root steps (LoadClock tries)) post found k = refl
base_tags (Protect aim index root steps (PublishEra era tries)) post found k = refl
base_tags (Protect aim index root steps (LoadLink era tries)) post found k = refl
base_tags (Protect aim index root steps (CheckClock era tries link)) post found k = check_tags aim index root (bump steps) link era post _ (found == era)
base_tags (Protect aim index root steps PublishRequest) post found k = refl
base_tags (Protect aim index root steps LoadOwnClock) post found k = refl
base_tags (Protect aim index root steps (PublishHelper first era last)) post found k = refl
base_tags (Protect aim index root steps (LoadOwnLink first era last)) post found k = refl
base_tags (Protect aim index root steps (CheckOwnClock first era last link)) post found k = goes_tags post _ _ (found == era)
base_tags (Protect aim index root steps (AnswerOwn first era link)) post found k = goes_tags post _ _ (found == own_request post index root)
base_tags (Protect aim index root steps (LoadAnswer first)) post found k = refl
base_tags (Protect aim index root steps (TakeAnswer link era)) post found k = no_truth_2 (sym k)
base_tags (Protect aim index root steps (WithdrawRequest link era)) post found k = refl
base_tags (Protect aim index root steps (WithdrawHelper link era)) post found k = concluded_tags aim index root (bump steps) link era post (reserves_helper post 0)
base_tags (Protect aim index root steps LoadWithin) post found k = refl
base_tags (Protect aim index root steps (CheckUpper link)) post found k = check_tags aim index root (bump steps) link found post _ (found == upper post.span)
base_tags (Protect aim index root steps (RaiseUpper era)) post found k = refl
base_tags (Protect aim index root steps (ByHazard FirstLink)) post found k = check_tags aim index root (bump steps) found 0 post _ (found == 0)
base_tags (Protect aim index root steps (ByHazard (PublishLink link))) post found k = refl
base_tags (Protect aim index root steps (ByHazard (CheckLink link))) post found k = check_tags aim index root (bump steps) found 0 post _ (found == link || found == 0)
base_tags (Begin LoadLower) post found k = refl
base_tags (Begin (PublishSpan era)) post found k = refl
base_tags (Reload parent index slot era steps) post found k = reload_tags post index slot (bump steps) found (found == parent + 1)
base_tags (Clear rows index) post found k = refl
base_tags Finish post found k = refl
base_tags (Release index) post found k = refl
base_tags (Allocate LoadBirth) post found k = refl
base_tags (Allocate (ClaimSlot birth walk)) post found k = claim_tags birth walk post found (is_claimed found walk.slot) refl
base_tags (Allocate (StoreLife birth slot)) post found k = refl
base_tags (Write slot row place) post found k = ends_tags post _ _ (place == last_written row)
base_tags (GiveUp slot) post found k = refl
base_tags (Retire (LoadLife slot)) post found k = refl
base_tags (Retire (LoadRetire slot birth)) post found k = refl
base_tags (Retire (StoreRetired slot birth retire)) post found k = refl
base_tags (Move at) post found k = move_tags at post found

-- a post of the table with these tags
pub record Tagged (layout : Layout) (i : ℕ) (tags : List ℕ) (post : Post) : Type 0 where
  pub fits : PostFits layout i post
  pub kept : post.tags ≡ tags

abbrev pub Any : Post → Phase → Type 0
Any post phase = Unit {0}

any_on : (why : Why) (post : Post) (outcome : Outcome) → Onward Any why post outcome
any_on why post (Goes base) = tt
any_on why post (Ends ending) = tt

tags_grow : (layout : Layout) (i : ℕ) (tags : List ℕ) → is_valid layout ≡ true → Grows (Tagged layout i tags) Any
tags_grow layout i tags v = let g = shape_grows layout i v in record {
  guarded = λ post q. g.guarded post q.fits;
  withdraws = λ post index s q. record { fits = g.withdraws post index s q.fits; kept = q.kept };
  copies = λ post index slot q. record { fits = g.copies post index slot q.fits; kept = q.kept };
  idle = λ post q. tt;
  begins = λ post task s e q. tt;
  opens = λ post task s q. tt;
  follows = λ post head tail s q. tt;
  allocates = λ post task s q. tt;
  writes = λ post task slot row s q. tt;
  clears = λ post task next s q. tt;
  clears_next = λ post next s q. tt;
  finishes = λ post task next s e q. tt;
  gives_up = λ post answer slot q. tt;
  retires = λ post answer slot q. tt;
  tidies = λ post later m q. tt;
  advances = λ post q. tt;
  clears_kept = λ post let_go s q. tt;
  releases = λ post let_go s e q. tt;
  scans = λ post later number b q. tt;
  gives_back = λ post later place slot q. tt;
  works = λ post work n s q. tt;
}

-- what a step of a call's own lets go of has no tag
keep_tagged : (layout : Layout) (i : ℕ) (tags : List ℕ) (at : KeepAt) (post : Post) → Tagged layout i tags post → Tagged layout i tags (bared (Keeping at) post)
keep_tagged layout i tags HideSpan post p = record { fits = bared_fits layout i (Keeping HideSpan) post p.fits; kept = p.kept }
keep_tagged layout i tags at post p = p

work_tagged : (layout : Layout) (i : ℕ) (tags : List ℕ) (work : Work) (post : Post) → Tagged layout i tags post → Tagged layout i tags (bared work post)
work_tagged layout i tags (Keeping at) post p = keep_tagged layout i tags at post p
work_tagged layout i tags work post p = p

tags_owed : (layout : Layout) (i : ℕ) → is_valid layout ≡ true → (phase : Phase) (post : Post) (found : ℕ) → takes_in phase ≡ false → PostFits layout i post → PhaseFits layout post phase → Owes (Tagged layout i post.tags) Any (counted post) found phase
tags_owed layout i v Idle post found k q p = record { fits = counted_fits layout i post q; kept = refl }
tags_owed layout i v (Runs why base) post found k q p =
    let m : Moves (PostFits layout i) (PhaseFits layout) why (machine.after base (counted post) found) = shape_moves layout i v why base (counted post) found (counted_fits layout i post q) (run_counted layout why base post p) in
    moves_with why (machine.after base (counted post) found) m (record { post = record { fits = m.post; kept = base_tags base (counted post) found k }; phase = any_on why (machine.after base (counted post) found).post (machine.after base (counted post) found).outcome })
tags_owed layout i v (Scans later at) post found k q p = record { fits = counted_fits layout i post q; kept = refl }
tags_owed layout i v (Works work) post found k q p =
    record { post = work_tagged layout i post.tags work (counted post) (record { fits = counted_fits layout i post q; kept = refl }); fits = work_counted work post p; stores = each_stores Any (λ p from index era. tt) (counted post) found work }

pub tags_kept : (w : World) (i : ℕ) → is_valid w.layout ≡ true → Seats w → takes_in (w.seat i).phase ≡ false → ((step w i).seat i).post.tags ≡ (w.seat i).post.tags
tags_kept w i v s k =
    let l : Local = w.seat i in
    let g : Seated (Tagged w.layout i l.post.tags) Any (after (offered w i) (finds w i)) = after_seated (tags_grow w.layout i l.post.tags v) (offered w i) (finds w i) (tags_owed w.layout i v l.phase l.post (finds w i) k (s.fits i).post (s.fits i).phase) in
    ap (λ (m : Local). m.post.tags) (seat_steps w i) ∙ g.post.kept

-- an answer is taken
take_tags : (l : Local) (why : Why) (aim : Aim) (index : ℕ) (root : Root) (steps link era found : ℕ) → (settled l (phase_turn (Runs why (Protect aim index root steps (TakeAnswer link era))) (counted l.post) l.desk found)).post.tags ≡ slice_set l.post.tags index (tag_of l.post index + 1)
take_tags l why aim index root steps link era found = held_tags (with_tag (counted l.post) index (tag_of l.post index + 1)) index root link

pub tags_taken : (w : World) (i : ℕ) (why : Why) (aim : Aim) (index : ℕ) (root : Root) (steps link era : ℕ) → (w.seat i).phase ≡ Runs why (Protect aim index root steps (TakeAnswer link era)) → ((step w i).seat i).post.tags ≡ slice_set (w.seat i).post.tags index (tag_of (w.seat i).post index + 1)
tags_taken w i why aim index root steps link era e =
    let l : Local = offered w i in
    ap (λ (m : Local). m.post.tags) (seat_steps w i) ∙ subst (λ (p : Phase). (settled l (phase_turn p (counted l.post) l.desk (finds w i))).post.tags ≡ slice_set l.post.tags index (tag_of l.post index + 1)) (sym e) (take_tags l why aim index root steps link era (finds w i))

tag_other : (tags : List ℕ) (index x j : ℕ) → j ≢ index → slice_index (slice_set tags index x) j ≡ slice_index tags j
tag_other tags index x j b = grind (arith, common_steps)

of_tags : (post : Post) (tags : List ℕ) (j : ℕ) → post.tags ≡ tags → tag_of post j ≡ slice_index tags j
of_tags post tags j e = ap (λ (xs : List ℕ). slice_index xs j) e

pub tag_taken : (w : World) (i : ℕ) (why : Why) (aim : Aim) (index : ℕ) (root : Root) (steps link era : ℕ) → index < length (w.seat i).post.tags → (w.seat i).phase ≡ Runs why (Protect aim index root steps (TakeAnswer link era)) → tag_of ((step w i).seat i).post index ≡ tag_of (w.seat i).post index + 1
tag_taken w i why aim index root steps link era b e = of_tags ((step w i).seat i).post _ index (tags_taken w i why aim index root steps link era e) ∙ set_there (w.seat i).post.tags index (tag_of (w.seat i).post index + 1) b

tag_not : (w : World) (i j : ℕ) (why : Why) (aim : Aim) (index : ℕ) (root : Root) (steps link era : ℕ) → j ≢ index → (w.seat i).phase ≡ Runs why (Protect aim index root steps (TakeAnswer link era)) → tag_of ((step w i).seat i).post j ≡ tag_of (w.seat i).post j
tag_not w i j why aim index root steps link era b e = of_tags ((step w i).seat i).post _ j (tags_taken w i why aim index root steps link era e) ∙ tag_other (w.seat i).post.tags index (tag_of (w.seat i).post index + 1) j b

-- tags never fall
taken_rises : (w : World) (i j : ℕ) (why : Why) (aim : Aim) (index : ℕ) (root : Root) (steps link era : ℕ) (same : Bool) → (j == index) ≡ same → index < length (w.seat i).post.tags → (w.seat i).phase ≡ Runs why (Protect aim index root steps (TakeAnswer link era)) → tag_of (w.seat i).post j ≤ tag_of ((step w i).seat i).post j
taken_rises w i j why aim index root steps link era true q b e =
    let s : index ≡ j = grind (arith, nat_tests) in
    let t : tag_of ((step w i).seat i).post index ≡ tag_of (w.seat i).post index + 1 = tag_taken w i why aim index root steps link era b e in
    subst (λ (n : ℕ). tag_of (w.seat i).post n ≤ tag_of ((step w i).seat i).post n) s (omega (arith, t))
taken_rises w i j why aim index root steps link era false q b e =
    let s : j ≢ index = grind (arith, nat_tests) in
    let t : tag_of ((step w i).seat i).post j ≡ tag_of (w.seat i).post j = tag_not w i j why aim index root steps link era s e in
    omega (arith, t)

kept_rises : (w : World) (i j : ℕ) → is_valid w.layout ≡ true → Seats w → takes_in (w.seat i).phase ≡ false → tag_of (w.seat i).post j ≤ tag_of ((step w i).seat i).post j
kept_rises w i j v s k = let t : tag_of ((step w i).seat i).post j ≡ tag_of (w.seat i).post j = of_tags ((step w i).seat i).post (w.seat i).post.tags j (tags_kept w i v s k) in omega (arith, t)

pub take_below : (w : World) (i : ℕ) (why : Why) (aim : Aim) (index : ℕ) (root : Root) (steps link era : ℕ) → Seats w → (w.seat i).phase ≡ Runs why (Protect aim index root steps (TakeAnswer link era)) → index < length (w.seat i).post.tags
take_below w i why aim index root steps link era s e =
    let r : Run w.layout why (Protect aim index root steps (TakeAnswer link era)) (w.seat i).post = subst (PhaseFits w.layout (w.seat i).post) e (s.fits i).phase in
    at_below why index (length (w.seat i).post.tags) r.suited r.shape.at (s.fits i).post.tags

phase_rises : (w : World) (i j : ℕ) (phase : Phase) → is_valid w.layout ≡ true → Seats w → (w.seat i).phase ≡ phase → tag_of (w.seat i).post j ≤ tag_of ((step w i).seat i).post j
phase_rises w i j Idle v s e = kept_rises w i j v s (ap takes_in e)
phase_rises w i j (Runs why (Protect aim index root steps (LoadClock tries))) v s e = kept_rises w i j v s (ap takes_in e)
phase_rises w i j (Runs why (Protect aim index root steps (PublishEra era tries))) v s e = kept_rises w i j v s (ap takes_in e)
phase_rises w i j (Runs why (Protect aim index root steps (LoadLink era tries))) v s e = kept_rises w i j v s (ap takes_in e)
phase_rises w i j (Runs why (Protect aim index root steps (CheckClock era tries link))) v s e = kept_rises w i j v s (ap takes_in e)
phase_rises w i j (Runs why (Protect aim index root steps PublishRequest)) v s e = kept_rises w i j v s (ap takes_in e)
phase_rises w i j (Runs why (Protect aim index root steps LoadOwnClock)) v s e = kept_rises w i j v s (ap takes_in e)
phase_rises w i j (Runs why (Protect aim index root steps (PublishHelper first era last))) v s e = kept_rises w i j v s (ap takes_in e)
phase_rises w i j (Runs why (Protect aim index root steps (LoadOwnLink first era last))) v s e = kept_rises w i j v s (ap takes_in e)
phase_rises w i j (Runs why (Protect aim index root steps (CheckOwnClock first era last link))) v s e = kept_rises w i j v s (ap takes_in e)
phase_rises w i j (Runs why (Protect aim index root steps (AnswerOwn first era link))) v s e = kept_rises w i j v s (ap takes_in e)
phase_rises w i j (Runs why (Protect aim index root steps (LoadAnswer first))) v s e = kept_rises w i j v s (ap takes_in e)
phase_rises w i j (Runs why (Protect aim index root steps (TakeAnswer link era))) v s e = taken_rises w i j why aim index root steps link era (j == index) refl (take_below w i why aim index root steps link era s e) e
phase_rises w i j (Runs why (Protect aim index root steps (WithdrawRequest link era))) v s e = kept_rises w i j v s (ap takes_in e)
phase_rises w i j (Runs why (Protect aim index root steps (WithdrawHelper link era))) v s e = kept_rises w i j v s (ap takes_in e)
phase_rises w i j (Runs why (Protect aim index root steps LoadWithin)) v s e = kept_rises w i j v s (ap takes_in e)
phase_rises w i j (Runs why (Protect aim index root steps (CheckUpper link))) v s e = kept_rises w i j v s (ap takes_in e)
phase_rises w i j (Runs why (Protect aim index root steps (RaiseUpper era))) v s e = kept_rises w i j v s (ap takes_in e)
phase_rises w i j (Runs why (Protect aim index root steps (ByHazard at))) v s e = kept_rises w i j v s (ap takes_in e)
phase_rises w i j (Runs why (Begin at)) v s e = kept_rises w i j v s (ap takes_in e)
phase_rises w i j (Runs why (Reload parent index slot era steps)) v s e = kept_rises w i j v s (ap takes_in e)
phase_rises w i j (Runs why (Clear rows index)) v s e = kept_rises w i j v s (ap takes_in e)
phase_rises w i j (Runs why Finish) v s e = kept_rises w i j v s (ap takes_in e)
phase_rises w i j (Runs why (Release index)) v s e = kept_rises w i j v s (ap takes_in e)
phase_rises w i j (Runs why (Allocate at)) v s e = kept_rises w i j v s (ap takes_in e)
phase_rises w i j (Runs why (Write slot row place)) v s e = kept_rises w i j v s (ap takes_in e)
phase_rises w i j (Runs why (GiveUp slot)) v s e = kept_rises w i j v s (ap takes_in e)
phase_rises w i j (Runs why (Retire at)) v s e = kept_rises w i j v s (ap takes_in e)
phase_rises w i j (Runs why (Move at)) v s e = kept_rises w i j v s (ap takes_in e)
phase_rises w i j (Scans later at) v s e = kept_rises w i j v s (ap takes_in e)
phase_rises w i j (Works work) v s e = kept_rises w i j v s (ap takes_in e)

seat_rises : (w : World) (i k j : ℕ) (same : Bool) → (k == i) ≡ same → is_valid w.layout ≡ true → Seats w → tag_of (w.seat k).post j ≤ tag_of ((step w i).seat k).post j
seat_rises w i k j true e v s =
    let q : i ≡ k = grind (arith, nat_tests) in
    subst (λ (n : ℕ). tag_of (w.seat n).post j ≤ tag_of ((step w i).seat n).post j) q (phase_rises w i j (w.seat i).phase v s refl)
seat_rises w i k j false e v s =
    let t : tag_of ((step w i).seat k).post j ≡ tag_of (w.seat k).post j = ap (λ (l : Local). tag_of l.post j) (seat_stays w i k e) in
    omega (arith, t)

pub tags_rise : (w : World) (i k j : ℕ) → is_valid w.layout ≡ true → Seats w → tag_of (w.seat k).post j ≤ tag_of ((step w i).seat k).post j
tags_rise w i k j v s = seat_rises w i k j (k == i) refl v s
