-- What a try has loaded after a step it had loaded before, or loads in this step.
use Rattle.std.proofs.Common.{ℕ, ◌≤◌, ◌+◌, ◌≡◌, sym, subst, true, false, arith, refl, Bool, Option, Some, None, ◌&&◌, ◌⊎◌, inl, inr, List, [], ◌∷◌}
use Rattle.std.proofs.lemmas.Bool.Decides.{nat_tests}
use Rattle.std.specs.Prelude.{◌==◌, ◌||◌, if◌then◌else◌, nat_le}
use Rattle.inv_rows.specs.words.Place.{Place}
use Rattle.inv_rows.specs.words.Place.Place.{Clock}
use Rattle.inv_rows.specs.words.declared.config.SchemeKind.{SchemeKind}
use Rattle.inv_rows.specs.defs.declared.event.Event.{Event}
use Rattle.inv_rows.specs.defs.declared.event.Root.{Root}
use Rattle.inv_rows.specs.defs.declared.event.Root.TheVariants as roots
use Rattle.inv_rows.specs.model.declared.post.Post.{Post}
use Rattle.inv_rows.specs.model.Links.{link_place, parent_of}
use Rattle.inv_rows.specs.model.Memory.{found, place_in, written}
use Rattle.inv_rows.specs.model.Posts.{upper}
use Rattle.inv_rows.specs.model.Phases.{Aim, Alone, Follows, Tries, Endless, Failed, ProtectAt, Base, Outcome, Goes, Ends, goes, Walk, BeginAt, AllocateAt, RetireAt, MoveAt, Turn}
use Rattle.inv_rows.specs.model.Phases.ProtectAt.{LoadClock, PublishEra, LoadLink, CheckClock, PublishRequest, LoadOwnClock, PublishHelper, LoadOwnLink, CheckOwnClock, AnswerOwn, LoadAnswer, TakeAnswer, WithdrawRequest, WithdrawHelper, LoadWithin, CheckUpper, RaiseUpper, ByHazard}
use Rattle.inv_rows.specs.model.Phases.HazardAt.{FirstLink, PublishLink, CheckLink}
use Rattle.inv_rows.specs.model.Phases.Base.{Begin, Protect, Reload, Clear, Finish, Release, Allocate, Write, GiveUp, Retire, Move}
use Rattle.inv_rows.specs.model.Protect.{held_post, told_held, failed_once, trying, concluded, protected}
use Rattle.inv_rows.specs.model.Machine.{protect_move, begin_turn, protect_turn, allocate_turn, retire_turn, move_turn, after}
use Rattle.inv_rows.specs.model.Phases.BeginAt.{LoadLower, PublishSpan}
use Rattle.inv_rows.specs.model.Phases.AllocateAt.{LoadBirth, ClaimSlot, StoreLife}
use Rattle.inv_rows.specs.model.Phases.RetireAt.{LoadLife, LoadRetire, StoreRetired}
use Rattle.inv_rows.specs.model.Phases.MoveAt.{LoadEra, LoadRequest, ShowEra, LoadAsked, CheckEra, AnswerAsked, LoadReserved, HandOver, HideEra, HideLate, ExchangeClock}
use Rattle.inv_rows.specs.model.Allocate.{walking, walk_past, is_claimed, next_slot}
use Rattle.inv_rows.specs.model.MoveClock.{after_hand_over}
use Rattle.inv_rows.specs.model.SlowPath.{asking}
use Rattle.inv_rows.specs.model.WriteRow.{last_written}
use Rattle.inv_rows.specs.words.Packed.{reservation_word, read_reservation}
use Rattle.inv_rows.specs.defs.declared.event.Event.TheVariants as events
use Rattle.inv_rows.proofs.Covering.Words.{stores_protect}
use Rattle.inv_rows.specs.Rows.{Status, View, RowMove, made, is_settled, passed, Adopts, Claimed, Born, Linked, Cut, Sealed, Listed, Free, InQueue}
use Rattle.inv_rows.specs.Rows.RowMove.{Stays, Claims, Bears, Drops, Links, Replaces, Appends, Pops, Reads, Seals, Lists, Returns}
use Rattle.inv_rows.specs.words.Schemes.{helps}
use Rattle.inv_rows.specs.Shapes.Seats.{protect_fits}
use Rattle.inv_rows.proofs.Fits.{MoveFits}
use Rattle.inv_rows.specs.Covering.Held.{leads, under, tries_protect, tries_base, index_base, follows_root, follows_row, era_protect, era_base}
use Rattle.inv_rows.specs.Queue.{in_queue}
use Rattle.inv_rows.specs.Covering.Tries.{starts_protect, starts_base}
use Rattle.inv_rows.specs.words.declared.config.Config.{Config}
use Rattle.inv_rows.proofs.Covering.Stood.{loads_again}
use Rattle.inv_rows.proofs.model.Facts.{same_number}

-- what an outcome has tried
abbrev pub out_tries : ℕ → (ℕ → Status) → Post → Outcome → ℕ → Bool
out_tries clock status post (Goes base) s = tries_base clock status post base s
out_tries clock status post (Ends ending) s = false

abbrev pub out_index : Outcome → ℕ
out_index (Goes base) = index_base base
out_index (Ends ending) = 0

-- the link that a step loads in a try, at an era that is the clock; or that it loads again, as it was published
abbrev pub loads_link : ℕ → (ℕ → Status) → (Place → ℕ) → Post → Root → ProtectAt → ℕ → Bool
loads_link clock status mem post root (LoadLink era tries) s = leads (mem (link_place root)) s && (clock == era && under status root)
loads_link clock status mem post root LoadWithin s = leads (mem (link_place root)) s && (clock == upper post.span && under status root)
loads_link clock status mem post root (ByHazard at) s = loads_again status mem root at s
loads_link clock status mem post root at s = false

-- a try of the next outcome
abbrev pub Goes_on : ℕ → (ℕ → Status) → (Place → ℕ) → Post → ℕ → Root → ProtectAt → Outcome → ℕ → Type 0
Goes_on clock status mem post index root at outcome s =
    (out_index outcome ≡ index) × ((tries_protect clock status post root at s ≡ true) ⊎ (loads_link clock status mem post root at s ≡ true))

pub queued_under : (status : ℕ → Status) (root : Root) → root ≡ roots.Next (parent_of root) → in_queue (status (parent_of root)) ≡ true → under status root ≡ true
queued_under status root e h = subst (λ (r : Root). under status r ≡ true) (sym e) h

pub concluded_tries : (clock : ℕ) (status : ℕ → Status) (mem : Place → ℕ) (own : ℕ) (aim : Aim) (index : ℕ) (root : Root) (n link era : ℕ) (post next : Post) (told : List Event) (s : ℕ) (null : Bool) → (link == 0) ≡ null → (aim ≡ Follows → root ≡ roots.Next (parent_of root)) → (clock == own) ≡ true
    → out_tries clock status next (concluded aim index root n link era post told).outcome s ≡ true → (out_index (concluded aim index root n link era post told).outcome ≡ index) × ((leads link s && (clock == own && under status root)) ≡ true)
concluded_tries clock status mem own Alone index root n link era post next told s null e f c h = absurd (cc)
concluded_tries clock status mem own Follows index root n link era post next told s true e f c h = absurd (grind (arith, nat_tests))
concluded_tries clock status mem own Follows index root n link era post next told s false e f c h =
    rw e (refl, (let q : in_queue (status (parent_of root)) ≡ true = grind (arith, nat_tests) in let u = queued_under status root (f refl) q in grind (arith, nat_tests)))

-- a step of a protection: a try that it comes to had loaded the link before, or loads it
pub check_tries : (clock : ℕ) (status : ℕ → Status) (mem : Place → ℕ) (aim : Aim) (index : ℕ) (root : Root) (n era : ℕ) (tries : Tries) (link : ℕ) (post next : Post) (s : ℕ) (same : Bool) → (clock == era) ≡ same → (aim ≡ Follows → root ≡ roots.Next (parent_of root))
    → out_tries clock status next (if same then protected aim index root n link era post else goes post [] (Protect aim index root n (PublishEra clock (failed_once tries)))).outcome s ≡ true
    → (out_index (if same then protected aim index root n link era post else goes post [] (Protect aim index root n (PublishEra clock (failed_once tries)))).outcome ≡ index) × ((leads link s && (clock == era && under status root)) ≡ true)
check_tries clock status mem aim index root n era tries link post next s true e f h = concluded_tries clock status mem era aim index root n link era (held_post post index root link) next (told_held index root link n) s (link == 0) refl f e h
check_tries clock status mem aim index root n era tries link post next s false e f h = absurd (cc)

upper_tries : (clock : ℕ) (status : ℕ → Status) (mem : Place → ℕ) (aim : Aim) (index : ℕ) (root : Root) (n link : ℕ) (post next : Post) (s : ℕ) (same : Bool) → (clock == upper post.span) ≡ same → (aim ≡ Follows → root ≡ roots.Next (parent_of root))
    → out_tries clock status next (if same then protected aim index root n link clock post else goes post [] (Protect aim index root n (RaiseUpper clock))).outcome s ≡ true
    → (out_index (if same then protected aim index root n link clock post else goes post [] (Protect aim index root n (RaiseUpper clock))).outcome ≡ index) × ((leads link s && (clock == upper post.span && under status root)) ≡ true)
upper_tries clock status mem aim index root n link post next s true e f h = concluded_tries clock status mem (upper post.span) aim index root n link clock (held_post post index root link) next (told_held index root link n) s (link == 0) refl f e h
upper_tries clock status mem aim index root n link post next s false e f h = absurd (cc)

first_tries : (clock : ℕ) (status : ℕ → Status) (mem : Place → ℕ) (aim : Aim) (index : ℕ) (root : Root) (n link : ℕ) (post next : Post) (s : ℕ) (null : Bool) → (link == 0) ≡ null → (aim ≡ Follows → root ≡ roots.Next (parent_of root))
    → out_tries clock status next (if null then protected aim index root n link 0 post else goes post [] (Protect aim index root n (ByHazard (PublishLink link)))).outcome s ≡ true → ⊥
first_tries clock status mem aim index root n link post next s true e f h =
    let q = concluded_tries clock status mem clock aim index root n link 0 (held_post post index root link) next (told_held index root link n) s (link == 0) refl f (same_number clock) h in
    let y = q.1 in absurd (grind (arith, nat_tests))
first_tries clock status mem aim index root n link post next s false e f h = absurd (cc)

again_tries : (clock : ℕ) (status : ℕ → Status) (mem : Place → ℕ) (aim : Aim) (index : ℕ) (root : Root) (n link found : ℕ) (post next : Post) (s : ℕ) (same : Bool) → (found == link || found == 0) ≡ same → (aim ≡ Follows → root ≡ roots.Next (parent_of root))
    → out_tries clock status next (if same then protected aim index root n found 0 post else goes post [] (Protect aim index root n (ByHazard (PublishLink found)))).outcome s ≡ true
    → (out_index (if same then protected aim index root n found 0 post else goes post [] (Protect aim index root n (ByHazard (PublishLink found)))).outcome ≡ index) × ((leads found s && (found == link && under status root)) ≡ true)
again_tries clock status mem aim index root n link found post next s true e f h =
    let q = concluded_tries clock status mem clock aim index root n found 0 (held_post post index root found) next (told_held index root found n) s (found == 0) refl f (same_number clock) h in
    (q.0, (let y = q.1 in grind (arith, nat_tests)))
again_tries clock status mem aim index root n link found post next s false e f h = absurd (cc)

pub trying_none : (clock : ℕ) (status : ℕ → Status) (config : Config) (post : Post) (root : Root) (era : ℕ) (tries : Tries) (s : ℕ) → tries_protect clock status post root (trying config era tries) s ≡ false
trying_none clock status config post root era Endless s = refl
trying_none clock status config post root era (Failed count) s = by_more (nat_le config.tries count) where
  by_more : (over : Bool) → tries_protect clock status post root (if over then PublishRequest else LoadLink era (Failed count)) s ≡ false
  by_more true = refl
  by_more false = refl

pub protect_tries : (clock : ℕ) (status : ℕ → Status) (scheme : SchemeKind) (most : ℕ) (mem : Place → ℕ) (aim : Aim) (index : ℕ) (root : Root) (n : ℕ) (at : ProtectAt) (post last next : Post) (s : ℕ) → clock ≡ mem Clock → helps scheme ≡ false → protect_fits scheme most at ≡ true → (aim ≡ Follows → root ≡ roots.Next (parent_of root)) → (at ≡ LoadWithin → next.span ≡ post.span)
    → out_tries clock status next (protect_turn aim index root n at post (found (protect_move index root at last) (mem (place_in (protect_move index root at last))))).outcome s ≡ true
    → Goes_on clock status mem post index root at (protect_turn aim index root n at post (found (protect_move index root at last) (mem (place_in (protect_move index root at last))))).outcome s
protect_tries clock status scheme most mem aim index root n (LoadClock tries) post last next s c w f g e h = absurd (cc)
protect_tries clock status scheme most mem aim index root n (PublishEra era tries) post last next s c w f g e h = let z = trying_none clock status post.layout.config next root era tries s in absurd (cc)
protect_tries clock status scheme most mem aim index root n (LoadLink era tries) post last next s c w f g e h = (refl, inr h)
protect_tries clock status scheme most mem aim index root n (CheckClock era tries link) post last next s c w f g e h =
    let q = check_tries (mem Clock) status mem aim index root n era tries link post next s (mem Clock == era) refl g (rw c at h) in (q.0, inl (rw c (q.1)))
protect_tries clock status scheme most mem aim index root n PublishRequest post last next s c w f g e h = absurd (cc)
protect_tries clock status scheme most mem aim index root n LoadOwnClock post last next s c w f g e h = absurd (cc)
protect_tries clock status scheme most mem aim index root n (PublishHelper first era end) post last next s c w f g e h = absurd (cc)
protect_tries clock status scheme most mem aim index root n (LoadOwnLink first era end) post last next s c w f g e h = absurd (cc)
protect_tries clock status scheme most mem aim index root n (CheckOwnClock first era end link) post last next s c w f g e h = absurd (grind (arith, nat_tests))
protect_tries clock status scheme most mem aim index root n (AnswerOwn first era link) post last next s c w f g e h = absurd (grind (arith, nat_tests))
protect_tries clock status scheme most mem aim index root n (LoadAnswer first) post last next s c w f g e h = absurd (grind (arith, nat_tests))
protect_tries clock status scheme most mem aim index root n (TakeAnswer link era) post last next s c w f g e h = absurd (grind (arith, nat_tests))
protect_tries clock status scheme most mem aim index root n (WithdrawRequest link era) post last next s c w f g e h = absurd (grind (arith, nat_tests))
protect_tries clock status scheme most mem aim index root n (WithdrawHelper link era) post last next s c w f g e h = absurd (grind (arith, nat_tests))
protect_tries clock status scheme most mem aim index root n LoadWithin post last next s c w f g e h = (refl, inr (rw (sym (e refl)) h))
protect_tries clock status scheme most mem aim index root n (CheckUpper link) post last next s c w f g e h =
    let q = upper_tries (mem Clock) status mem aim index root n link post next s (mem Clock == upper post.span) refl g (rw c at h) in (q.0, inl (rw c (q.1)))
protect_tries clock status scheme most mem aim index root n (RaiseUpper era) post last next s c w f g e h = absurd (cc)
protect_tries clock status scheme most mem aim index root n (ByHazard FirstLink) post last next s c w f g e h =
    absurd (first_tries clock status mem aim index root n (mem (link_place root)) post next s (mem (link_place root) == 0) refl g h)
protect_tries clock status scheme most mem aim index root n (ByHazard (PublishLink link)) post last next s c w f g e h = absurd (cc)
protect_tries clock status scheme most mem aim index root n (ByHazard (CheckLink link)) post last next s c w f g e h =
    let q = again_tries clock status mem aim index root n link (mem (link_place root)) post next s (mem (link_place root) == link || mem (link_place root) == 0) refl g h in (q.0, inr q.1)

-- no try is under way at a start
pub start_protect : (clock : ℕ) (status : ℕ → Status) (post : Post) (root : Root) (at : ProtectAt) (s : ℕ) → starts_protect at ≡ true → tries_protect clock status post root at s ≡ false
start_protect clock status post root (LoadClock tries) s h = refl
start_protect clock status post root (PublishEra era tries) s h = refl
start_protect clock status post root (LoadLink era tries) s h = refl
start_protect clock status post root (CheckClock era tries link) s h = absurd (cc)
start_protect clock status post root PublishRequest s h = refl
start_protect clock status post root LoadOwnClock s h = refl
start_protect clock status post root (PublishHelper first era last) s h = refl
start_protect clock status post root (LoadOwnLink first era last) s h = refl
start_protect clock status post root (CheckOwnClock first era last link) s h = refl
start_protect clock status post root (AnswerOwn first era link) s h = refl
start_protect clock status post root (LoadAnswer first) s h = refl
start_protect clock status post root (TakeAnswer link era) s h = refl
start_protect clock status post root (WithdrawRequest link era) s h = absurd (cc)
start_protect clock status post root (WithdrawHelper link era) s h = absurd (cc)
start_protect clock status post root LoadWithin s h = refl
start_protect clock status post root (CheckUpper link) s h = absurd (cc)
start_protect clock status post root (RaiseUpper era) s h = refl
start_protect clock status post root (ByHazard at) s h = refl

pub start_untried : (clock : ℕ) (status : ℕ → Status) (post : Post) (base : Base) (s : ℕ) → starts_base base ≡ true → tries_base clock status post base s ≡ false
start_untried clock status post (Begin at) s h = refl
start_untried clock status post (Protect aim index root steps at) s h = start_protect clock status post root at s h
start_untried clock status post (Reload parent index slot era steps) s h = absurd (cc)
start_untried clock status post base s h = refl

passed_queued : (from to : ℕ) (status : Status) → in_queue (passed from to status) ≡ true → in_queue status ≡ true
passed_queued from to Free h = h
passed_queued from to (Claimed by) h = h
passed_queued from to (Born by) h = h
passed_queued from to (Linked bucket) h = h
passed_queued from to InQueue h = h
passed_queued from to (Cut by) h = h
passed_queued from to (Sealed by retire) h = h
passed_queued from to (Listed by retire) h = h

-- a row that was linked and is in the queue was in it before
pub queued_back : (i : ℕ) (v : View) (m : RowMove) (p : ℕ) → MoveFits i v m → is_settled (v.status p) ≡ true → in_queue ((made i v m).status p) ≡ true → in_queue (v.status p) ≡ true
queued_back i v Stays p b l h = h
queued_back i v (Claims slot) p b l h = grind (arith, nat_tests)
queued_back i v (Bears slot birth) p b l h = grind (arith, nat_tests)
queued_back i v (Drops slot) p b l h = grind (arith, nat_tests)
queued_back i v (Links bucket slot) p b l h = grind (arith, nat_tests)
queued_back i v (Replaces bucket slot old) p b l h = grind (arith, nat_tests)
queued_back i v (Appends slot) p b l h = grind (arith, nat_tests)
queued_back i v (Pops slot next) p b l h = grind (arith, nat_tests)
queued_back i v (Reads slot birth) p b l h = h
queued_back i v (Seals slot birth retire) p b l h = grind (arith, nat_tests)
queued_back i v (Lists slot birth retire) p b l h = grind (arith, nat_tests)
queued_back i v (Returns slot) p b l h = grind (arith, nat_tests)
queued_back i v (Adopts from) p b l h = passed_queued from i (v.status p) h

-- a try of a seat that does not step
pub under_back : (old new : ℕ → Status) (root : Root) → ((p : ℕ) → follows_root root p ≡ true → in_queue (new p) ≡ true → in_queue (old p) ≡ true) → under new root ≡ true → under old root ≡ true
under_back old new (roots.Bucket bucket) f h = refl
under_back old new roots.Head f h = refl
under_back old new roots.Tail f h = refl
under_back old new (roots.Next parent) f h = f parent (grind (arith, nat_tests)) h

protect_back : (clock later : ℕ) (old new : ℕ → Status) (post : Post) (root : Root) (at : ProtectAt) (s : ℕ) → clock ≤ later → era_protect post at ≤ clock → ((p : ℕ) → follows_root root p ≡ true → in_queue (new p) ≡ true → in_queue (old p) ≡ true) → tries_protect later new post root at s ≡ true → tries_protect clock old post root at s ≡ true
protect_back clock later old new post root (LoadClock tries) s l m f h = absurd (cc)
protect_back clock later old new post root (PublishEra era tries) s l m f h = absurd (cc)
protect_back clock later old new post root (LoadLink era tries) s l m f h = absurd (cc)
protect_back clock later old new post root (CheckClock era tries link) s l m f h = let u : under new root ≡ true = grind (arith, nat_tests) in let k = under_back old new root f u in grind (arith, nat_tests)
protect_back clock later old new post root PublishRequest s l m f h = absurd (cc)
protect_back clock later old new post root LoadOwnClock s l m f h = absurd (cc)
protect_back clock later old new post root (PublishHelper first era last) s l m f h = absurd (cc)
protect_back clock later old new post root (LoadOwnLink first era last) s l m f h = absurd (cc)
protect_back clock later old new post root (CheckOwnClock first era last link) s l m f h = absurd (cc)
protect_back clock later old new post root (AnswerOwn first era link) s l m f h = absurd (cc)
protect_back clock later old new post root (LoadAnswer first) s l m f h = absurd (cc)
protect_back clock later old new post root (TakeAnswer link era) s l m f h = absurd (cc)
protect_back clock later old new post root (WithdrawRequest link era) s l m f h = let u : under new root ≡ true = grind (arith, nat_tests) in let k = under_back old new root f u in grind (arith, nat_tests)
protect_back clock later old new post root (WithdrawHelper link era) s l m f h = let u : under new root ≡ true = grind (arith, nat_tests) in let k = under_back old new root f u in grind (arith, nat_tests)
protect_back clock later old new post root LoadWithin s l m f h = absurd (cc)
protect_back clock later old new post root (CheckUpper link) s l m f h = let u : under new root ≡ true = grind (arith, nat_tests) in let k = under_back old new root f u in grind (arith, nat_tests)
protect_back clock later old new post root (RaiseUpper era) s l m f h = absurd (cc)
protect_back clock later old new post root (ByHazard at) s l m f h = absurd (cc)

pub tries_back : (clock later : ℕ) (old new : ℕ → Status) (post : Post) (base : Base) (s : ℕ) → clock ≤ later → era_base post base ≤ clock → ((p : ℕ) → follows_row base p ≡ true → in_queue (new p) ≡ true → in_queue (old p) ≡ true) → tries_base later new post base s ≡ true → tries_base clock old post base s ≡ true
tries_back clock later old new post (Begin at) s l m f h = absurd (cc)
tries_back clock later old new post (Protect aim index root steps at) s l m f h = protect_back clock later old new post root at s l m f h
tries_back clock later old new post (Reload parent index slot era steps) s l m f h = let q : in_queue (new parent) ≡ true = grind (arith, nat_tests) in let k = f parent (grind (arith, nat_tests)) q in grind (arith, nat_tests)
tries_back clock later old new post base s l m f h = absurd (cc)

-- other machines come to no try
tries_if : (clock : ℕ) (status : ℕ → Status) (post : Post) (one two : Turn) (s : ℕ) (same : Bool) → out_tries clock status post one.outcome s ≡ false → out_tries clock status post two.outcome s ≡ false → out_tries clock status post (if same then one else two).outcome s ≡ false
tries_if clock status post one two s true a b = a
tries_if clock status post one two s false a b = b

walk_tries : (clock : ℕ) (status : ℕ → Status) (birth : ℕ) (post next : Post) (x : Option Walk) (s : ℕ) → out_tries clock status next (walking birth post x).outcome s ≡ false
walk_tries clock status birth post next None s = refl
walk_tries clock status birth post next (Some walk) s = refl

allocate_tries : (clock : ℕ) (status : ℕ → Status) (at : AllocateAt) (post next : Post) (found s : ℕ) → out_tries clock status next (allocate_turn at post found).outcome s ≡ false
allocate_tries clock status LoadBirth post next found s = refl
allocate_tries clock status (ClaimSlot birth walk) post next found s = by_shown (is_claimed found walk.slot) where
  by_shown : (shown : Bool) → out_tries clock status next (if shown then walking birth post (walk_past post.layout.config.slots walk found) else goes (record post { cursor = next_slot post.layout.config.slots walk.slot }) (events.Give walk.slot birth ∷ []) (Allocate (StoreLife birth walk.slot))).outcome s ≡ false
  by_shown true = walk_tries clock status birth post next (walk_past post.layout.config.slots walk found) s
  by_shown false = refl
allocate_tries clock status (StoreLife birth slot) post next found s = refl

retire_tries : (clock : ℕ) (status : ℕ → Status) (at : RetireAt) (post next : Post) (found s : ℕ) → out_tries clock status next (retire_turn at post found).outcome s ≡ false
retire_tries clock status (LoadLife slot) post next found s = refl
retire_tries clock status (LoadRetire slot birth) post next found s = refl
retire_tries clock status (StoreRetired slot birth retire) post next found s = refl

begin_tries : (clock : ℕ) (status : ℕ → Status) (at : BeginAt) (post next : Post) (found s : ℕ) → out_tries clock status next (begin_turn at post found).outcome s ≡ false
begin_tries clock status LoadLower post next found s = refl
begin_tries clock status (PublishSpan era) post next found s = refl

handed_tries : (clock : ℕ) (status : ℕ → Status) (era seat tag index old : ℕ) (post next : Post) (s : ℕ) (same : Bool) → out_tries clock status next (after_hand_over era seat tag index old post same).outcome s ≡ false
handed_tries clock status era seat tag index old post next s true = refl
handed_tries clock status era seat tag index old post next s false = refl

move_tries : (clock : ℕ) (status : ℕ → Status) (at : MoveAt) (post next : Post) (found s : ℕ) → out_tries clock status next (move_turn at post found).outcome s ≡ false
move_tries clock status (LoadEra helps) post next found s = tries_if clock status next _ _ s (found == post.layout.config.last_era) refl refl
move_tries clock status (LoadRequest era seat shows) post next found s = refl
move_tries clock status (ShowEra era seat tag index root) post next found s = refl
move_tries clock status (LoadAsked era seat tag index root) post next found s = refl
move_tries clock status (CheckEra era seat tag index root link) post next found s = tries_if clock status next _ _ s (found == era) refl refl
move_tries clock status (AnswerAsked era seat tag index root link) post next found s = tries_if clock status next _ _ s (found == asking post.layout tag index root) refl refl
move_tries clock status (LoadReserved era seat tag index root link) post next found s = tries_if clock status next _ _ s ((read_reservation found).tag == tag) refl refl
move_tries clock status (HandOver era seat tag index root link old) post next found s = handed_tries clock status era seat tag index old post next s (found == reservation_word (record { era = old; tag = tag }))
move_tries clock status (HideEra era) post next found s = refl
move_tries clock status (HideLate seen) post next found s = refl
move_tries clock status (ExchangeClock era) post next found s = tries_if clock status next _ _ s (found == era) refl refl

abbrev pub is_protect : Base → Bool
is_protect (Protect aim index root steps at) = true
is_protect base = false

pub other_tries : (clock : ℕ) (status : ℕ → Status) (base : Base) (post next : Post) (found s : ℕ) → is_protect base ≡ false → out_tries clock status next (after base post found).outcome s ≡ false
other_tries clock status (Begin at) post next found s p = begin_tries clock status at post next found s
other_tries clock status (Protect aim index root steps at) post next found s p = absurd (cc)
other_tries clock status (Reload parent index slot era steps) post next found s p = tries_if clock status next _ _ s (found == parent + 1) refl refl
other_tries clock status (Clear rows index) post next found s p = refl
other_tries clock status Finish post next found s p = refl
other_tries clock status (Release index) post next found s p = refl
other_tries clock status (Allocate at) post next found s p = allocate_tries clock status at post next found s
other_tries clock status (Write slot row place) post next found s p = tries_if clock status next _ _ s (place == last_written row) refl refl
other_tries clock status (GiveUp slot) post next found s p = refl
other_tries clock status (Retire at) post next found s p = retire_tries clock status at post next found s
other_tries clock status (Move at) post next found s p = move_tries clock status at post next found s

-- a try that had loaded its link, or loads it, takes from no guard, and leaves the clock
pub tried_quiet : (clock : ℕ) (status : ℕ → Status) (post : Post) (root : Root) (at : ProtectAt) (s : ℕ) → tries_protect clock status post root at s ≡ true → stores_protect at ≡ false
tried_quiet clock status post root (PublishEra era tries) s h = absurd (cc)
tried_quiet clock status post root (TakeAnswer link era) s h = absurd (cc)
tried_quiet clock status post root (RaiseUpper era) s h = absurd (cc)
tried_quiet clock status post root (ByHazard at) s h = absurd (cc)
tried_quiet clock status post root at s h = refl

pub loaded_quiet : (clock : ℕ) (status : ℕ → Status) (mem : Place → ℕ) (post : Post) (root : Root) (at : ProtectAt) (s : ℕ) → loads_link clock status mem post root at s ≡ true → stores_protect at ≡ false
loaded_quiet clock status mem post root (PublishEra era tries) s h = absurd (cc)
loaded_quiet clock status mem post root (TakeAnswer link era) s h = absurd (cc)
loaded_quiet clock status mem post root (RaiseUpper era) s h = absurd (cc)
loaded_quiet clock status mem post root (ByHazard FirstLink) s h = refl
loaded_quiet clock status mem post root (ByHazard (PublishLink link)) s h = absurd (cc)
loaded_quiet clock status mem post root (ByHazard (CheckLink link)) s h = refl
loaded_quiet clock status mem post root at s h = refl

pub protect_clock : (mem : Place → ℕ) (index : ℕ) (root : Root) (at : ProtectAt) (post : Post) → written mem (protect_move index root at post) Clock ≡ mem Clock
protect_clock mem index root (LoadClock tries) post = refl
protect_clock mem index root (ByHazard FirstLink) post = refl
protect_clock mem index root (ByHazard at) post = refl
protect_clock mem index root at post = refl
