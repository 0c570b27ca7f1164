-- Where index words publish rows, the link that a protection loads again is in its index word, and the link of a copy in the word that is
-- copied: no other seat writes these words.
use Rattle.std.proofs.Common.{ℕ, ◌≡◌, Bool, true, false, refl, sym, subst, ap, ◌∙◌, arith}
use Rattle.std.proofs.lemmas.Bool.Decides.{nat_tests}
use Rattle.std.specs.Prelude.{◌==◌, ◌||◌, ◌+◌, nat_lt, if◌then◌else◌}
use Rattle.inv_rows.specs.words.Place.{Place, is_valid}
use Rattle.inv_rows.specs.words.Place.Place.{Index}
use Rattle.inv_rows.specs.words.Schemes.{has_one_interval, helps, publishes_rows}
use Rattle.inv_rows.proofs.words.Schemes.{helps_not_rows, interval_not_rows}
use Rattle.inv_rows.specs.words.declared.config.Config.{Config}
use Rattle.inv_rows.specs.words.declared.config.SchemeKind.{SchemeKind}
use Rattle.inv_rows.specs.words.declared.config.SchemeKind.TheVariants.{He, Hp, Ibr, Wfe}
use Rattle.inv_rows.specs.words.declared.layout.Layout.{Layout}
use Rattle.inv_rows.specs.defs.declared.call.Call.{Call}
use Rattle.inv_rows.specs.defs.declared.event.Guard.TheVariants as guards
use Rattle.inv_rows.specs.defs.declared.event.Root.{Root}
use Rattle.inv_rows.specs.model.declared.post.Post.{Post}
use Rattle.inv_rows.specs.model.Change.{change_move}
use Rattle.inv_rows.specs.model.Dequeue.{dequeue_move}
use Rattle.inv_rows.specs.model.Enqueue.{enqueue_move}
use Rattle.inv_rows.specs.model.Get.{get_move}
use Rattle.inv_rows.specs.model.Guards.{guard_place}
use Rattle.inv_rows.specs.model.Keep.{held_number, keep_move}
use Rattle.inv_rows.specs.model.Locals.{Local, after}
use Rattle.inv_rows.specs.model.Machine.{allocate_move, base_move, begin_move, hazard_move, hazard_turn, move_move, protect_move, protect_turn, retire_move}
use Rattle.inv_rows.specs.model.Machine as machine
use Rattle.inv_rows.specs.model.Memory.{Move, bump, found, place_in, put, written}
use Rattle.inv_rows.specs.model.Phases.{Aim, AllocateAt, Base, BeginAt, HazardAt, MoveAt, Outcome, Goes, Ends, ProtectAt, RetireAt}
use Rattle.inv_rows.specs.model.Phases.AllocateAt.{LoadBirth}
use Rattle.inv_rows.specs.model.Phases.Base.{Begin, Protect, Reload, Clear, Finish, Release, Allocate, Write, GiveUp, Retire, Move as Moves}
use Rattle.inv_rows.specs.model.Phases.BeginAt.{LoadLower}
use Rattle.inv_rows.specs.model.Phases.HazardAt.{FirstLink, PublishLink, CheckLink}
use Rattle.inv_rows.specs.model.Phases.MoveAt.{LoadEra, HandOver}
use Rattle.inv_rows.specs.model.Phases.ProtectAt.{LoadClock, PublishEra, LoadLink, CheckClock, TakeAnswer, LoadWithin, CheckUpper, RaiseUpper, ByHazard}
use Rattle.inv_rows.specs.model.Phases.RetireAt.{LoadLife}
use Rattle.inv_rows.specs.model.Posts.{counted}
use Rattle.inv_rows.specs.model.Protect.{held_post, told_held}
use Rattle.inv_rows.specs.model.Rounds.{protect_at, scheme_of}
use Rattle.inv_rows.specs.model.Scan.{scan_move}
use Rattle.inv_rows.specs.model.Steps.{phase_move, work_move}
use Rattle.inv_rows.specs.model.Calls.{ChangeKept, ChangeAt, LoadVersion, DequeueAt, LoadTail, EnqueueKept, EnqueueAt, LoadNumber, GetAt, FindVersion, KeepAt, Loosens, LoadHeld, StoreHeld, Looks, Misses, HideSpan, MarkLeft, TakeList, MarkTaken, ScanAt, ReadGuard, GiveBack, Getting, Changing, Enqueuing, Dequeuing, Keeping, Work, Why, Phase, Idle, Runs, Scans, Works}
use Rattle.inv_rows.specs.model.World.{World, start, begin, step, offered}
use Rattle.inv_rows.specs.Shapes.Frame.{Grows, Seated, Owes, Stores, Passed, Onward, StepsOn, stores_held}
use Rattle.inv_rows.specs.Shapes.Seats.{Kind, ToOpen, ToFollow, kind_of, fills, moves, protects, retires, protect_fits, move_fits, PhaseFits, PostFits, Run, Seats}
use Rattle.inv_rows.proofs.Shapes.Frame.{after_seated, begin_begins, begin_stays, begun_seated, finds_counted, move_counted, moves_with, seat_stays, seat_steps}
use Rattle.inv_rows.proofs.Shapes.Inside.{shape_moves}
use Rattle.inv_rows.proofs.Shapes.Kept.{bared_fits, begun_fits, counted_fits, run_counted, seats_begin, seats_step, work_counted}
use Rattle.inv_rows.proofs.Shapes.Machines.{concluded_steps, steps_if}
use Rattle.inv_rows.proofs.Shapes.Shapes.{shape_grows}
use Rattle.inv_rows.proofs.Shapes.Tries.{helps_plain, tries_plain, try_plain}
use Rattle.inv_rows.proofs.Covering.Requests.Paces.{Any}
use Rattle.inv_rows.specs.Covering.Requests.Hazards.{protect_shows, base_shows, copy_shows, work_shows, phase_shows, Hazards}

-- where no rows are published no phase says anything
hazard_plain : (mem : Place → ℕ) (k index : ℕ) (rows : Bool) (at : HazardAt) → rows ≡ true → rows ≡ false → protect_shows mem k index (ByHazard at)
hazard_plain mem k index rows FirstLink h p = tt
hazard_plain mem k index rows (PublishLink link) h p = tt
hazard_plain mem k index rows (CheckLink link) h p = absurd (cc)

protect_plain : (c : Config) (mem : Place → ℕ) (k index : ℕ) (at : ProtectAt) → protect_fits c.scheme c.tries at ≡ true → publishes_rows c.scheme ≡ false → protect_shows mem k index at
protect_plain c mem k index (LoadClock tries) f p = tt
protect_plain c mem k index (ByHazard at) f p = hazard_plain mem k index (publishes_rows c.scheme) at f p
protect_plain c mem k index at f p = tt

base_plain : (layout : Layout) (mem : Place → ℕ) (k : ℕ) (why : Why) (base : Base) (post : Post) → Run layout why base post → publishes_rows layout.config.scheme ≡ false → base_shows mem k base
base_plain layout mem k why (Begin at) post r p = tt
base_plain layout mem k why (Protect aim index root steps at) post r p = protect_plain layout.config mem k index at r.fits p
base_plain layout mem k why base post r p = tt

copy_plain : (rows : Bool) (mem : Place → ℕ) (k from number : ℕ) → rows ≡ false → copy_shows rows mem k from number
copy_plain true mem k from number p = absurd (cc)
copy_plain false mem k from number p = tt

work_plain : (rows : Bool) (mem : Place → ℕ) (k : ℕ) (work : Work) → rows ≡ false → work_shows rows mem k work
work_plain rows mem k (Keeping (StoreHeld from index number)) p = copy_plain rows mem k from number p
work_plain rows mem k work p = tt

phase_plain : (layout : Layout) (mem : Place → ℕ) (k : ℕ) (phase : Phase) (post : Post) → PhaseFits layout post phase → publishes_rows layout.config.scheme ≡ false → phase_shows (publishes_rows layout.config.scheme) mem k phase
phase_plain layout mem k Idle post r p = tt
phase_plain layout mem k (Runs why base) post r p = base_plain layout mem k why base post r p
phase_plain layout mem k (Scans later at) post r p = tt
phase_plain layout mem k (Works work) post r p = work_plain (publishes_rows layout.config.scheme) mem k work p

-- a protection of a scheme that publishes rows
pub only_hazards : (scheme : SchemeKind) (most : ℕ) (at : ProtectAt) (P : ProtectAt → Type 0) → publishes_rows scheme ≡ true → protect_fits scheme most at ≡ true → ((x : HazardAt) → P (ByHazard x)) → P at
only_hazards scheme most (LoadClock tries) P p f h = absurd (let e = tries_plain scheme most tries f in cc)
only_hazards scheme most (PublishEra era tries) P p f h = absurd (let e = tries_plain scheme most tries f in cc)
only_hazards scheme most (LoadLink era tries) P p f h = absurd (let e = try_plain scheme most tries f in cc)
only_hazards scheme most (CheckClock era tries link) P p f h = absurd (let e = try_plain scheme most tries f in cc)
only_hazards scheme most LoadWithin P p f h = absurd (let e = interval_not_rows scheme f in cc)
only_hazards scheme most (CheckUpper link) P p f h = absurd (let e = interval_not_rows scheme f in cc)
only_hazards scheme most (RaiseUpper era) P p f h = absurd (let e = interval_not_rows scheme f in cc)
only_hazards scheme most (ByHazard at) P p f h = h at
only_hazards scheme most at P p f h = absurd (let e = helps_not_rows scheme f in cc)

-- index words of another seat
other_index : (mem : Place → ℕ) (seat k index j value : ℕ) → (k == seat) ≡ false → put mem (Index seat index) value (Index k j) ≡ mem (Index k j)
other_index mem seat k index j value e = rw e refl

protect_stays : (mem : Place → ℕ) (k j index : ℕ) (root : Root) (at : ProtectAt) (post : Post) → (k == post.seat) ≡ false → written mem (protect_move index root at post) (Index k j) ≡ mem (Index k j)
protect_stays mem k j index root (PublishEra era tries) post e = other_index mem post.seat k index j _ e
protect_stays mem k j index root (TakeAnswer link era) post e = other_index mem post.seat k index j _ e
protect_stays mem k j index root (ByHazard FirstLink) post e = refl
protect_stays mem k j index root (ByHazard (PublishLink link)) post e = other_index mem post.seat k index j _ e
protect_stays mem k j index root (ByHazard (CheckLink link)) post e = refl
protect_stays mem k j index root at post e = refl

begin_stays_at : (mem : Place → ℕ) (k j : ℕ) (at : BeginAt) (post : Post) → written mem (begin_move at post) (Index k j) ≡ mem (Index k j)
begin_stays_at mem k j LoadLower post = refl
begin_stays_at mem k j at post = refl

allocate_stays : (mem : Place → ℕ) (k j : ℕ) (at : AllocateAt) → written mem (allocate_move at) (Index k j) ≡ mem (Index k j)
allocate_stays mem k j LoadBirth = refl
allocate_stays mem k j at = refl

retire_stays : (mem : Place → ℕ) (k j : ℕ) (at : RetireAt) → written mem (retire_move at) (Index k j) ≡ mem (Index k j)
retire_stays mem k j (LoadLife slot) = refl
retire_stays mem k j at = refl

move_stays : (mem : Place → ℕ) (k j : ℕ) (config : Config) (at : MoveAt) (post : Post) → publishes_rows config.scheme ≡ true → move_fits config.scheme config.seats at ≡ true → written mem (move_move at post) (Index k j) ≡ mem (Index k j)
move_stays mem k j config (LoadEra helps) post p f = refl
move_stays mem k j config (HandOver era seat tag index root link old) post p f = absurd (let e = helps_plain config.scheme (nat_lt seat config.seats) f in cc)
move_stays mem k j config at post p f = refl

base_stays : (layout : Layout) (mem : Place → ℕ) (k j : ℕ) (why : Why) (base : Base) (post : Post) → publishes_rows layout.config.scheme ≡ true → Run layout why base post → (k == post.seat) ≡ false → written mem (base_move base post) (Index k j) ≡ mem (Index k j)
base_stays layout mem k j why (Begin at) post p r e = begin_stays_at mem k j at post
base_stays layout mem k j why (Protect aim index root steps at) post p r e = protect_stays mem k j index root at post e
base_stays layout mem k j why (Reload parent index slot era steps) post p r e = refl
base_stays layout mem k j why (Clear rows index) post p r e = other_index mem post.seat k index j _ e
base_stays layout mem k j why Finish post p r e = refl
base_stays layout mem k j why (Release index) post p r e = refl
base_stays layout mem k j why (Allocate at) post p r e = allocate_stays mem k j at
base_stays layout mem k j why (Write slot row place) post p r e = refl
base_stays layout mem k j why (GiveUp slot) post p r e = refl
base_stays layout mem k j why (Retire at) post p r e = retire_stays mem k j at
base_stays layout mem k j why (Moves at) post p r e = move_stays mem k j layout.config at post p r.fits

get_stays : (mem : Place → ℕ) (k j : ℕ) (at : GetAt) → written mem (get_move at) (Index k j) ≡ mem (Index k j)
get_stays mem k j (FindVersion slot) = refl
get_stays mem k j at = refl

change_stays : (mem : Place → ℕ) (k j : ℕ) (kept : ChangeKept) (at : ChangeAt) (post : Post) → written mem (change_move kept at post) (Index k j) ≡ mem (Index k j)
change_stays mem k j kept (LoadVersion slot) post = refl
change_stays mem k j kept at post = refl

enqueue_stays : (mem : Place → ℕ) (k j : ℕ) (kept : EnqueueKept) (at : EnqueueAt) → written mem (enqueue_move kept at) (Index k j) ≡ mem (Index k j)
enqueue_stays mem k j kept LoadNumber = refl
enqueue_stays mem k j kept at = refl

dequeue_stays : (mem : Place → ℕ) (k j : ℕ) (at : DequeueAt) → written mem (dequeue_move at) (Index k j) ≡ mem (Index k j)
dequeue_stays mem k j (LoadTail head) = refl
dequeue_stays mem k j at = refl

keep_stays : (mem : Place → ℕ) (k j : ℕ) (at : KeepAt) (post : Post) → (k == post.seat) ≡ false → written mem (keep_move at post) (Index k j) ≡ mem (Index k j)
keep_stays mem k j (Loosens let_go) post e = refl
keep_stays mem k j (LoadHeld from index) post e = refl
keep_stays mem k j (StoreHeld from index number) post e = other_index mem post.seat k index j _ e
keep_stays mem k j (Looks index key at) post e = get_stays mem k j at
keep_stays mem k j (Misses index) post e = refl
keep_stays mem k j HideSpan post e = refl
keep_stays mem k j MarkLeft post e = refl
keep_stays mem k j (TakeList place) post e = refl
keep_stays mem k j (MarkTaken place count) post e = refl

work_stays : (mem : Place → ℕ) (k j : ℕ) (work : Work) (post : Post) → (k == post.seat) ≡ false → written mem (work_move work post) (Index k j) ≡ mem (Index k j)
work_stays mem k j (Getting key at) post e = get_stays mem k j at
work_stays mem k j (Changing kept at) post e = change_stays mem k j kept at post
work_stays mem k j (Enqueuing kept at) post e = enqueue_stays mem k j kept at
work_stays mem k j (Dequeuing at) post e = dequeue_stays mem k j at
work_stays mem k j (Keeping at) post e = keep_stays mem k j at post e

scan_stays : (mem : Place → ℕ) (k j : ℕ) (at : ScanAt) (post : Post) → written mem (scan_move at post) (Index k j) ≡ mem (Index k j)
scan_stays mem k j (ReadGuard number) post = refl
scan_stays mem k j (GiveBack place slot) post = refl

-- where rows are published no seat writes another's index words
pub index_stays : (layout : Layout) (mem : Place → ℕ) (k j : ℕ) (phase : Phase) (post : Post) → publishes_rows layout.config.scheme ≡ true → PhaseFits layout post phase → (k == post.seat) ≡ false → written mem (phase_move phase post) (Index k j) ≡ mem (Index k j)
index_stays layout mem k j Idle post p r e = refl
index_stays layout mem k j (Runs why base) post p r e = base_stays layout mem k j why base post p r e
index_stays layout mem k j (Scans later at) post p r e = scan_stays mem k j at post
index_stays layout mem k j (Works work) post p r e = work_stays mem k j work post e

-- what a phase says stays with its words
protect_same : (mem next : Place → ℕ) (k index : ℕ) (at : ProtectAt) → ((j : ℕ) → next (Index k j) ≡ mem (Index k j)) → protect_shows mem k index at → protect_shows next k index at
protect_same mem next k index (LoadClock tries) e h = tt
protect_same mem next k index (ByHazard FirstLink) e h = tt
protect_same mem next k index (ByHazard (PublishLink link)) e h = tt
protect_same mem next k index (ByHazard (CheckLink link)) e h = e index ∙ h
protect_same mem next k index at e h = tt

base_same : (mem next : Place → ℕ) (k : ℕ) (base : Base) → ((j : ℕ) → next (Index k j) ≡ mem (Index k j)) → base_shows mem k base → base_shows next k base
base_same mem next k (Begin at) e h = tt
base_same mem next k (Protect aim index root steps at) e h = protect_same mem next k index at e h
base_same mem next k base e h = tt

copy_same : (rows : Bool) (mem next : Place → ℕ) (k from number : ℕ) → ((j : ℕ) → next (Index k j) ≡ mem (Index k j)) → copy_shows rows mem k from number → copy_shows rows next k from number
copy_same true mem next k from number e h = e from ∙ h
copy_same false mem next k from number e h = tt

work_same : (rows : Bool) (mem next : Place → ℕ) (k : ℕ) (work : Work) → ((j : ℕ) → next (Index k j) ≡ mem (Index k j)) → work_shows rows mem k work → work_shows rows next k work
work_same rows mem next k (Keeping (StoreHeld from index number)) e h = copy_same rows mem next k from number e h
work_same rows mem next k work e h = tt

phase_same : (rows : Bool) (mem next : Place → ℕ) (k : ℕ) (phase : Phase) → ((j : ℕ) → next (Index k j) ≡ mem (Index k j)) → phase_shows rows mem k phase → phase_shows rows next k phase
phase_same rows mem next k Idle e h = tt
phase_same rows mem next k (Runs why base) e h = base_same mem next k base e h
phase_same rows mem next k (Scans later at) e h = tt
phase_same rows mem next k (Works work) e h = work_same rows mem next k work e h

-- the phases that a seat comes to
protect_starts : (mem : Place → ℕ) (k index : ℕ) (scheme : SchemeKind) → protect_shows mem k index (protect_at scheme)
protect_starts mem k index He = tt
protect_starts mem k index Ibr = tt
protect_starts mem k index Wfe = tt
protect_starts mem k index Hp = tt

no_copy : (mem : Place → ℕ) (k : ℕ) (work : Work) → stores_held work ≡ false → work_shows true mem k work
no_copy mem k (Keeping (StoreHeld from index number)) n = absurd (cc)
no_copy mem k work n = tt

hazard_grows : (layout : Layout) (k : ℕ) (mem : Place → ℕ) → is_valid layout ≡ true → Grows (PostFits layout k) (λ post phase. phase_shows true mem k phase)
hazard_grows layout k mem v =
    let g = shape_grows layout k v in
    record {
      guarded = g.guarded;
      withdraws = g.withdraws;
      copies = g.copies;
      idle = λ post q. tt;
      begins = λ post task i e q. tt;
      opens = λ post task s q. protect_starts mem k _ (scheme_of post);
      follows = λ post head tail s q. protect_starts mem k 1 (scheme_of post);
      allocates = λ post task s q. tt;
      writes = λ post task slot row s q. tt;
      clears = λ post task next i q. tt;
      clears_next = λ post next i q. tt;
      finishes = λ post task next i e q. tt;
      gives_up = λ post answer slot q. tt;
      retires = λ post answer slot q. tt;
      tidies = λ post later m q. tt;
      advances = λ post q. tt;
      clears_kept = λ post let_go i q. tt;
      releases = λ post let_go i e q. tt;
      scans = λ post later number b q. tt;
      gives_back = λ post later place slot q. tt;
      works = λ post work n f q. no_copy mem k work n;
    }

-- a machine that is run for something else comes to no protection
fills_kind : (kind : Kind) → fills kind ≡ true → protects kind ≡ false
fills_kind ToOpen h = cc
fills_kind ToFollow h = cc
fills_kind kind h = refl

retires_kind : (kind : Kind) → retires kind ≡ true → protects kind ≡ false
retires_kind ToOpen h = cc
retires_kind ToFollow h = cc
retires_kind kind h = refl

moves_kind : (kind : Kind) → moves kind ≡ true → protects kind ≡ false
moves_kind ToOpen h = cc
moves_kind ToFollow h = cc
moves_kind kind h = refl

abbrev Shows : (Place → ℕ) → ℕ → Post → Phase → Type 0
Shows mem k post phase = phase_shows true mem k phase

unprotected : (layout : Layout) (mem : Place → ℕ) (k : ℕ) (why : Why) (base : Base) (post : Post) → protects (kind_of why) ≡ false → Run layout why base post → base_shows mem k base
unprotected layout mem k why (Begin at) post n r = tt
unprotected layout mem k why (Protect aim index root steps at) post n r = absurd (let s = r.suited in cc)
unprotected layout mem k why base post n r = tt

passed_on : (layout : Layout) (mem : Place → ℕ) (k : ℕ) (why : Why) (post : Post) (outcome : Outcome) → protects (kind_of why) ≡ false → Passed (PhaseFits layout) why post outcome → Onward (Shows mem k) why post outcome
passed_on layout mem k why post (Goes base) n r = unprotected layout mem k why base post n r
passed_on layout mem k why post (Ends ending) n r = tt

-- a protection that loads, publishes, and loads again
hazard_on : (next : Place → ℕ) (k : ℕ) (why : Why) (aim : Aim) (index : ℕ) (root : Root) (n : ℕ) (at : HazardAt) (post : Post) (found : ℕ) → ((link : ℕ) → at ≡ PublishLink link → next (Index k index) ≡ link) → StepsOn Any (Shows next k) why (hazard_turn aim index root n at post found)
hazard_on next k why aim index root n FirstLink post found h =
    steps_if why (found == 0) _ _
    (λ e. concluded_steps why aim index root n found 0 (held_post post index root found) (told_held index root found n) tt (λ u. tt))
    (λ e. record { post = tt; phase = tt })
hazard_on next k why aim index root n (PublishLink link) post found h = record { post = tt; phase = h link refl }
hazard_on next k why aim index root n (CheckLink link) post found h =
    steps_if why (found == link || found == 0) _ _
    (λ e. concluded_steps why aim index root n found 0 (held_post post index root found) (told_held index root found n) tt (λ u. tt))
    (λ e. record { post = tt; phase = tt })

own_index : (mem : Place → ℕ) (seat k index value : ℕ) → seat ≡ k → put mem (Index seat index) value (Index k index) ≡ value
own_index mem seat k index value e = let a : (k == seat) ≡ true = grind (arith, nat_tests) in let b : (index == index) ≡ true = grind (arith, nat_tests) in rw (a, b) refl

published_own : (mem : Place → ℕ) (k index : ℕ) (root : Root) (at : HazardAt) (post : Post) (link : ℕ) → post.seat ≡ k → at ≡ PublishLink link → written mem (hazard_move index root at post) (Index k index) ≡ link
published_own mem k index root FirstLink post link s e = absurd (cc)
published_own mem k index root (PublishLink link) post other s e = own_index mem post.seat k index link s ∙ cc
published_own mem k index root (CheckLink old) post link s e = absurd (cc)

-- a step inside a machine
base_on : (layout : Layout) (k : ℕ) (mem : Place → ℕ) → is_valid layout ≡ true → publishes_rows layout.config.scheme ≡ true → (why : Why) (base : Base) (post : Post) (found : ℕ) → PostFits layout k post → Run layout why base post
    → Onward (Shows (written mem (base_move base post)) k) why (machine.after base post found).post (machine.after base post found).outcome
base_on layout k mem v p why (Begin at) post found q r = absurd (let e = interval_not_rows layout.config.scheme r.fits in cc)
base_on layout k mem v p why (Protect aim index root steps at) post found q r =
    only_hazards layout.config.scheme layout.config.tries at
    (λ (x : ProtectAt). Onward (Shows (written mem (protect_move index root x post)) k) why (protect_turn aim index root (bump steps) x post found).post (protect_turn aim index root (bump steps) x post found).outcome) p r.fits
    (λ x. (hazard_on (written mem (hazard_move index root x post)) k why aim index root (bump steps) x post found (λ link e. published_own mem k index root x post link q.seat e)).phase)
base_on layout k mem v p why (Reload parent index slot era steps) post found q r =
    let s : StepsOn Any (Shows mem k) why (machine.after (Reload parent index slot era steps) post found) = steps_if why (found == parent + 1) _ _ (λ e. record { post = tt; phase = tt }) (λ e. record { post = tt; phase = tt }) in s.phase
base_on layout k mem v p why (Clear rows index) post found q r = tt
base_on layout k mem v p why Finish post found q r = tt
base_on layout k mem v p why (Release index) post found q r = tt
base_on layout k mem v p why (Allocate at) post found q r =
    passed_on layout (written mem (base_move (Allocate at) post)) k why _ _ (fills_kind (kind_of why) r.suited) (shape_moves layout k v why (Allocate at) post found q r).phase
base_on layout k mem v p why (Write slot row place) post found q r =
    passed_on layout (written mem (base_move (Write slot row place) post)) k why _ _ (fills_kind (kind_of why) r.suited) (shape_moves layout k v why (Write slot row place) post found q r).phase
base_on layout k mem v p why (GiveUp slot) post found q r = tt
base_on layout k mem v p why (Retire at) post found q r =
    passed_on layout (written mem (base_move (Retire at) post)) k why _ _ (retires_kind (kind_of why) r.suited) (shape_moves layout k v why (Retire at) post found q r).phase
base_on layout k mem v p why (Moves at) post found q r =
    passed_on layout (written mem (base_move (Moves at) post)) k why _ _ (moves_kind (kind_of why) r.suited) (shape_moves layout k v why (Moves at) post found q r).phase

-- the link of a copy that was found
held_at : (rows : Bool) (mem : Place → ℕ) (seat k from : ℕ) (one : Bool) → rows ≡ true → one ≡ false → seat ≡ k → mem (Index k from) ≡ held_number rows (mem (guard_place (if one then guards.Whole seat else guards.Index seat from)))
held_at rows mem seat k from true p i e = absurd (cc)
held_at true mem seat k from false p i e = ap (λ (s : ℕ). mem (Index s from)) (sym e)
held_at false mem seat k from false p i e = absurd (cc)

keep_stores : (mem : Place → ℕ) (k : ℕ) (at : KeepAt) (post : Post) → publishes_rows (scheme_of post) ≡ true → post.seat ≡ k
    → Stores (Shows (written mem (keep_move at post)) k) post (found (keep_move at post) (mem (place_in (keep_move at post)))) (Keeping at)
keep_stores mem k (LoadHeld from index) post p s = λ i. held_at (publishes_rows (scheme_of post)) mem post.seat k from (has_one_interval (scheme_of post)) p i s
keep_stores mem k at post p s = tt

work_stores : (mem : Place → ℕ) (k : ℕ) (work : Work) (post : Post) → publishes_rows (scheme_of post) ≡ true → post.seat ≡ k
    → Stores (Shows (written mem (work_move work post)) k) post (found (work_move work post) (mem (place_in (work_move work post)))) work
work_stores mem k (Keeping at) post p s = keep_stores mem k at post p s
work_stores mem k work post p s = tt

owed : (layout : Layout) (k : ℕ) (mem : Place → ℕ) → is_valid layout ≡ true → publishes_rows layout.config.scheme ≡ true → (phase : Phase) (post : Post) → PostFits layout k post → PhaseFits layout post phase
    → Owes (PostFits layout k) (Shows (written mem (phase_move phase (counted post))) k) (counted post) (found (phase_move phase (counted post)) (mem (place_in (phase_move phase (counted post))))) phase
owed layout k mem v p Idle post q r = counted_fits layout k post q
owed layout k mem v p (Runs why base) post q r =
    let c = counted_fits layout k post q in
    let s = run_counted layout why base post r in
    let m = shape_moves layout k v why base (counted post) (found (base_move base (counted post)) (mem (place_in (base_move base (counted post))))) c s in
    moves_with why _ m (record { post = m.post; phase = base_on layout k mem v p why base (counted post) _ c s })
owed layout k mem v p (Scans later at) post q r = counted_fits layout k post q
owed layout k mem v p (Works work) post q r =
    record {
      post = bared_fits layout k work (counted post) (counted_fits layout k post q);
      fits = work_counted work post r;
      stores = work_stores mem k work (counted post) (subst (λ (l : Layout). publishes_rows l.config.scheme ≡ true) (sym q.layout) p) q.seat;
    }

-- the seat that steps
own_shows : (w : World) (i : ℕ) → is_valid w.layout ≡ true → publishes_rows w.layout.config.scheme ≡ true → Seats w → phase_shows true (step w i).mem i ((step w i).seat i).phase
own_shows w i v p s =
    let l = offered w i in
    let m = phase_move l.phase (counted l.post) in
    let h : Seated (PostFits w.layout i) (Shows (step w i).mem i) ((step w i).seat i) =
    subst (Seated (PostFits w.layout i) (Shows (step w i).mem i)) (sym (seat_steps w i))
    (subst (λ (f : ℕ). Seated (PostFits w.layout i) (Shows (step w i).mem i) (after l f)) (finds_counted w i)
    (subst (λ (x : Move). Seated (PostFits w.layout i) (Shows (written w.mem x) i) (after l (found m (w.mem (place_in m))))) (move_counted l.phase l.post)
    (after_seated (hazard_grows w.layout i (written w.mem m) v) l (found m (w.mem (place_in m))) (owed w.layout i w.mem v p l.phase l.post (s.fits i).post (s.fits i).phase)))) in h.phase

other_shows : (w : World) (i k : ℕ) → publishes_rows w.layout.config.scheme ≡ true → Seats w → Hazards w → (k == i) ≡ false → phase_shows (publishes_rows w.layout.config.scheme) (step w i).mem k ((step w i).seat k).phase
other_shows w i k p s h e =
    let a = (s.fits i).post.seat in
    let t : (k == (w.seat i).post.seat) ≡ false = subst (λ (j : ℕ). (k == j) ≡ false) (sym a) e in
    subst (λ (l : Local). phase_shows (publishes_rows w.layout.config.scheme) (step w i).mem k l.phase) (sym (seat_stays w i k e))
    (phase_same (publishes_rows w.layout.config.scheme) w.mem (step w i).mem k (w.seat k).phase (λ j. index_stays w.layout w.mem k j (w.seat i).phase (w.seat i).post p (s.fits i).phase t) (h.shows k))

pub hazards_step : (w : World) (i : ℕ) → is_valid w.layout ≡ true → Seats w → Hazards w → Hazards (step w i)
hazards_step w i v s h = record { shows = λ k. at k (publishes_rows w.layout.config.scheme) refl }
  where
    seat_at : (k : ℕ) (same : Bool) → (k == i) ≡ same → publishes_rows w.layout.config.scheme ≡ true → phase_shows (publishes_rows w.layout.config.scheme) (step w i).mem k ((step w i).seat k).phase
    seat_at k true e p = let same : i ≡ k = grind (arith, nat_tests) in
        subst (λ (j : ℕ). phase_shows (publishes_rows w.layout.config.scheme) (step w i).mem j ((step w i).seat j).phase) same
        (subst (λ (rows : Bool). phase_shows rows (step w i).mem i ((step w i).seat i).phase) (sym p) (own_shows w i v p s))
    seat_at k false e p = other_shows w i k p s h e

    at : (k : ℕ) (rows : Bool) → publishes_rows w.layout.config.scheme ≡ rows → phase_shows (publishes_rows w.layout.config.scheme) (step w i).mem k ((step w i).seat k).phase
    at k true p = seat_at k (k == i) refl p
    at k false p = phase_plain w.layout (step w i).mem k ((step w i).seat k).phase ((step w i).seat k).post ((seats_step w i v s).fits k).phase p

pub hazards_begin : (w : World) (i : ℕ) (call : Call) → is_valid w.layout ≡ true → Seats w → Hazards w → Hazards (begin w i call)
hazards_begin w i call v s h = record { shows = λ k. at k (publishes_rows w.layout.config.scheme) refl }
  where
    begun_at : (k : ℕ) (same : Bool) → (k == i) ≡ same → publishes_rows w.layout.config.scheme ≡ true → phase_shows (publishes_rows w.layout.config.scheme) w.mem k ((begin w i call).seat k).phase
    begun_at k true e p = let same : i ≡ k = grind (arith, nat_tests) in
        let b : Seated (PostFits w.layout i) (Shows w.mem i) ((begin w i call).seat i) =
        subst (Seated (PostFits w.layout i) (Shows w.mem i)) (sym (begin_begins w i call)) (begun_seated (hazard_grows w.layout i w.mem v) (w.seat i) call (begun_fits w.layout i (w.seat i).post (s.fits i).post)) in
        subst (λ (j : ℕ). phase_shows (publishes_rows w.layout.config.scheme) w.mem j ((begin w i call).seat j).phase) same
        (subst (λ (rows : Bool). phase_shows rows w.mem i ((begin w i call).seat i).phase) (sym p) b.phase)
    begun_at k false e p = subst (λ (l : Local). phase_shows (publishes_rows w.layout.config.scheme) w.mem k l.phase) (sym (begin_stays w i k call e)) (h.shows k)

    at : (k : ℕ) (rows : Bool) → publishes_rows w.layout.config.scheme ≡ rows → phase_shows (publishes_rows w.layout.config.scheme) w.mem k ((begin w i call).seat k).phase
    at k true p = begun_at k (k == i) refl p
    at k false p = phase_plain w.layout w.mem k ((begin w i call).seat k).phase ((begin w i call).seat k).post ((seats_begin w i call v s).fits k).phase p

pub hazards_start : (layout : Layout) → Hazards (start layout)
hazards_start layout = record { shows = λ k. tt }
