-- The steps of machines and calls that neither ask nor help.
use Rattle.std.proofs.Common.{ℕ, ◌≡◌, ◌+◌, Bool, true, false, List, [], refl, ◌∙◌}
use Rattle.std.specs.Prelude.{◌==◌, ◌||◌, if◌then◌else◌, Option, Some, None, ◌-◌, ◌∷◌}
use Rattle.inv_rows.specs.words.Place.{Place, Place as places}
use Rattle.inv_rows.specs.words.Place.Place.{Clock}
use Rattle.inv_rows.specs.words.Schemes.{publishes_rows}
use Rattle.inv_rows.specs.Shapes.Seats.{base_fits}
use Rattle.inv_rows.proofs.Shapes.Tries.{clear_rows}
use Rattle.inv_rows.specs.defs.declared.event.Event.{Event}
use Rattle.inv_rows.specs.defs.declared.event.Root.{Root}
use Rattle.inv_rows.specs.model.declared.post.Post.{Post}
use Rattle.inv_rows.specs.model.Links.{link_place, parent_of}
use Rattle.inv_rows.specs.model.Memory.{upd, written, put, bump, Move}
use Rattle.inv_rows.specs.model.Memory as memory
use Rattle.inv_rows.specs.model.Posts.{counted, upper, with_row}
use Rattle.inv_rows.specs.model.Phases.{Aim, Base, Turn, goes, ends, BeginAt, HazardAt, AllocateAt, RetireAt, RowOf, Walk, Alone, Follows, Base as bases}
use Rattle.inv_rows.specs.model.Calls.{Why, Phase, Idle, Runs, CallTurn, Scans, Works, Work, AfterScan, ScanAt, ReadGuard, GiveBack, GetAt, ChangeAt, EnqueueAt, DequeueAt, ChangeKept, EnqueueKept, FindVersion, FindCount, FindKey, FindValue, LoadVersion, LoadCount, LoadKey, LoadValue, ExchangeRoot, LoadNumber, LoadNext, PassTail, ExchangeNext, ExchangeTail, LoadTail, SwingTail, TakeNumber, TakeValue, ExchangeHead, KeepAt, Keeping, HideSpan}
use Rattle.inv_rows.specs.model.Steps.{run_turn, work_move, work_turn}
use Rattle.inv_rows.specs.model.Locals.{Local}
use Rattle.inv_rows.specs.model.Machine.{hazard_move, hazard_turn, protect_move, protect_turn, base_move, after}
use Rattle.inv_rows.specs.Shapes.Frame.{WorkFits, Stores, Moves, StepsOn, Left, bared}
use Rattle.inv_rows.specs.words.declared.layout.Layout.{Layout}
use Rattle.inv_rows.specs.defs.declared.event.Event.TheVariants as events
use Rattle.inv_rows.specs.model.declared.ends.FollowEnd.TheVariants as follow_ends
use Rattle.inv_rows.specs.model.Phases.Ending.{Done, Followed}
use Rattle.inv_rows.specs.model.Phases.BeginAt.{LoadLower, PublishSpan}
use Rattle.inv_rows.specs.model.Phases.ProtectAt.{LoadWithin, CheckUpper, RaiseUpper, ByHazard}
use Rattle.inv_rows.specs.model.Phases.HazardAt.{FirstLink, PublishLink, CheckLink}
use Rattle.inv_rows.specs.model.Phases.AllocateAt.{LoadBirth, ClaimSlot, StoreLife}
use Rattle.inv_rows.specs.model.Phases.RetireAt.{LoadLife, LoadRetire, StoreRetired}
use Rattle.inv_rows.specs.model.Protect.{protected, concluded, held_post, told_held}
use Rattle.inv_rows.specs.model.Allocate.{is_claimed, walking, walk_past, next_slot}
use Rattle.inv_rows.specs.model.WriteRow.{last_written}
use Rattle.inv_rows.specs.model.Get.{get_move}
use Rattle.inv_rows.specs.model.Change.{change_move}
use Rattle.inv_rows.specs.model.Enqueue.{enqueue_move}
use Rattle.inv_rows.specs.model.Dequeue.{dequeue_move}
use Rattle.inv_rows.specs.model.Scan.{scan_move, scan_turn}
use Rattle.inv_rows.proofs.Shapes.Frame.{moves_with}
use Rattle.inv_rows.proofs.Shapes.Works.{work_left, scan_left}
use Rattle.inv_rows.specs.Covering.Requests.Views.{View, upd2, Role as roles}
use Rattle.inv_rows.specs.Covering.Requests.Standing.{work_role, role_of, Words}
use Rattle.inv_rows.specs.Covering.Requests.Turns.{PostOf, RoleOf, Made}
use Rattle.inv_rows.specs.Covering.Requests.Context.{At}
use Rattle.inv_rows.proofs.Covering.Requests.Words.{words_row}
use Rattle.inv_rows.proofs.Covering.Requests.Requester as own
use Rattle.inv_rows.proofs.Covering.Requests.Turns.{away, made}
use Rattle.inv_rows.proofs.Covering.Requests.Going.{same_role, stands_in, own_post, rest}
use Rattle.inv_rows.proofs.Covering.Requests.Asking.{post_held, words_shown}

-- a word of another kind than those that requests and helping are about
abbrev pub is_other : Place → Bool
is_other places.Clock = false
is_other (places.Helper seat) = false
is_other (places.Index seat index) = false
is_other (places.Interval seat) = true
is_other (places.Request seat) = false
is_other (places.Bucket bucket) = true
is_other places.Head = true
is_other places.Tail = true
is_other (places.Claim word) = true
is_other (places.Life slot) = true
is_other (places.Row slot place) = true
is_other (places.PlaceOf seat) = true

-- an operation that changes no word of theirs
abbrev pub leaves : memory.Move → Bool
leaves (memory.Load place) = true
leaves (memory.Store place value) = is_other place
leaves (memory.Cas place old new) = is_other place
leaves (memory.Or place bits) = is_other place
leaves (memory.And place bits) = is_other place

words_other : {rows : Bool} (mem : Place → ℕ) (v : View) (p : Place) (x : ℕ) → is_other p ≡ true → Words rows mem v.clock v.helper v.era v.mark v.deal → Words rows (put mem p x) v.clock v.helper v.era v.mark v.deal
words_other mem v places.Clock x h u = absurd (cc)
words_other mem v (places.Helper k) x h u = absurd (cc)
words_other mem v (places.Index k j) x h u = absurd (cc)
words_other mem v (places.Interval k) x h u = record { clocks = u.clocks; helpers = λ n. u.helpers n; indexes = u.indexes; requests = λ n. u.requests n }
words_other mem v (places.Request k) x h u = absurd (cc)
words_other mem v (places.Bucket b) x h u = record { clocks = u.clocks; helpers = λ n. u.helpers n; indexes = u.indexes; requests = λ n. u.requests n }
words_other mem v places.Head x h u = record { clocks = u.clocks; helpers = λ n. u.helpers n; indexes = u.indexes; requests = λ n. u.requests n }
words_other mem v places.Tail x h u = record { clocks = u.clocks; helpers = λ n. u.helpers n; indexes = u.indexes; requests = λ n. u.requests n }
words_other mem v (places.Claim w) x h u = record { clocks = u.clocks; helpers = λ n. u.helpers n; indexes = u.indexes; requests = λ n. u.requests n }
words_other mem v (places.Life s) x h u = record { clocks = u.clocks; helpers = λ n. u.helpers n; indexes = u.indexes; requests = λ n. u.requests n }
words_other mem v (places.Row s n) x h u = record { clocks = u.clocks; helpers = λ n. u.helpers n; indexes = u.indexes; requests = λ n. u.requests n }
words_other mem v (places.PlaceOf k) x h u = record { clocks = u.clocks; helpers = λ n. u.helpers n; indexes = u.indexes; requests = λ n. u.requests n }

words_left : {rows : Bool} (mem : Place → ℕ) (v : View) (m : memory.Move) → leaves m ≡ true → Words rows mem v.clock v.helper v.era v.mark v.deal → Words rows (written mem m) v.clock v.helper v.era v.mark v.deal
words_left mem v (memory.Load place) h u = u
words_left mem v (memory.Store place value) h u = words_other mem v place value h u
words_left mem v (memory.Cas place old new) h u = words_other mem v place (memory.change (memory.Cas place old new) (mem place)) h u
words_left mem v (memory.Or place bits) h u = words_other mem v place (memory.change (memory.Or place bits) (mem place)) h u
words_left mem v (memory.And place bits) h u = words_other mem v place (memory.change (memory.And place bits) (mem place)) h u

-- a step of a machine that goes on or ends outside requests and helping
stay : {Q : Post → Type 0} {P : Post → Phase → Type 0} (mem : Place → ℕ) (seat : ℕ → Local) (i : ℕ) (v : View) (m : memory.Move) (why : Why) (base : Base) (t : Turn) → At mem seat i v → (seat i).phase ≡ Runs why base → role_of (seat i).post.layout (Runs why base) ≡ roles.Away → leaves m ≡ true
    → Moves Q P why t → StepsOn (PostOf (seat i).post.layout (seat i).post.tags) (RoleOf (seat i).post.layout roles.Away) why t
    → Made mem seat i m (run_turn why (seat i).desk t) v.deal
stay mem seat i v m why base t a q r h g s =
    rest mem seat i v m why t (record v { role = upd v.role i roles.Away }) a (moves_with why t g s) refl refl (words_left mem v m h a.facts.words)
    (same_role (seat i).post.layout.config v i roles.Away a.facts.parts (stands_in mem seat i v (Runs why base) a q ∙ r))

-- either of two turns
pub steps_if : (layout : Layout) (tags : List ℕ) (why : Why) (b : Bool) (x y : Turn) → StepsOn (PostOf layout tags) (RoleOf layout roles.Away) why x → StepsOn (PostOf layout tags) (RoleOf layout roles.Away) why y → StepsOn (PostOf layout tags) (RoleOf layout roles.Away) why (if b then x else y)
steps_if layout tags why true x y f g = f
steps_if layout tags why false x y f g = g

pub begin_made : {Q : Post → Type 0} {P : Post → Phase → Type 0} (mem : Place → ℕ) (seat : ℕ → Local) (i : ℕ) (v : View) (why : Why) (at : BeginAt) (found : ℕ) → At mem seat i v → (seat i).phase ≡ Runs why (bases.Begin at)
    → Moves Q P why (after (bases.Begin at) (counted (seat i).post) found)
    → Made mem seat i (base_move (bases.Begin at) (seat i).post) (run_turn why (seat i).desk (after (bases.Begin at) (counted (seat i).post) found)) v.deal
begin_made mem seat i v why LoadLower found a q m = stay mem seat i v (memory.Load Clock) why (bases.Begin LoadLower) (after (bases.Begin LoadLower) (counted (seat i).post) found) a q refl refl m (record { post = own_post mem seat i v a; phase = record { is = refl; there = refl } })
begin_made mem seat i v why (PublishSpan era) found a q m =
    let p = own_post mem seat i v a in
    stay mem seat i v (base_move (bases.Begin (PublishSpan era)) (seat i).post) why (bases.Begin (PublishSpan era)) (after (bases.Begin (PublishSpan era)) (counted (seat i).post) found) a q refl refl m
    (record { post = record { table = p.table; guarded = p.guarded; kept = p.kept }; phase = tt })

concluded_on : (layout : Layout) (tags : List ℕ) (why : Why) (aim : Aim) (index : ℕ) (root : Root) (n link era : ℕ) (post : Post) (told : List Event) → PostOf layout tags post → StepsOn (PostOf layout tags) (RoleOf layout roles.Away) why (concluded aim index root n link era post told)
concluded_on layout tags why Alone index root n link era post told p = record { post = p; phase = tt }
concluded_on layout tags why Follows index root n link era post told p =
    steps_if layout tags why (link == 0) (ends post told (Followed follow_ends.NoNext)) (goes post told (bases.Reload (parent_of root) index (link - 1) era n))
    (record { post = p; phase = tt }) (record { post = p; phase = record { is = refl; there = refl } })

-- 2GE
pub within_made : {Q : Post → Type 0} {P : Post → Phase → Type 0} (mem : Place → ℕ) (seat : ℕ → Local) (i : ℕ) (v : View) (why : Why) (aim : Aim) (index : ℕ) (root : Root) (steps n found : ℕ) → At mem seat i v → (seat i).phase ≡ Runs why (bases.Protect aim index root steps LoadWithin)
    → Moves Q P why (protect_turn aim index root n LoadWithin (counted (seat i).post) found)
    → Made mem seat i (memory.Load (link_place root)) (run_turn why (seat i).desk (protect_turn aim index root n LoadWithin (counted (seat i).post) found)) v.deal
within_made mem seat i v why aim index root steps n found a q m =
    stay mem seat i v (memory.Load (link_place root)) why (bases.Protect aim index root steps LoadWithin) (protect_turn aim index root n LoadWithin (counted (seat i).post) found) a q refl refl m (record { post = own_post mem seat i v a; phase = record { is = refl; there = refl } })

pub upper_made : {Q : Post → Type 0} {P : Post → Phase → Type 0} (mem : Place → ℕ) (seat : ℕ → Local) (i : ℕ) (v : View) (why : Why) (aim : Aim) (index : ℕ) (root : Root) (steps n link found : ℕ) → At mem seat i v → (seat i).phase ≡ Runs why (bases.Protect aim index root steps (CheckUpper link))
    → Moves Q P why (protect_turn aim index root n (CheckUpper link) (counted (seat i).post) found)
    → Made mem seat i (memory.Load Clock) (run_turn why (seat i).desk (protect_turn aim index root n (CheckUpper link) (counted (seat i).post) found)) v.deal
upper_made mem seat i v why aim index root steps n link found a q m =
    stay mem seat i v (memory.Load Clock) why (bases.Protect aim index root steps (CheckUpper link)) (protect_turn aim index root n (CheckUpper link) (counted (seat i).post) found) a q refl refl m
    (steps_if (seat i).post.layout (seat i).post.tags why (found == upper (counted (seat i).post).span) (protected aim index root n link found (counted (seat i).post)) (goes (counted (seat i).post) [] (bases.Protect aim index root n (RaiseUpper found)))
    (concluded_on (seat i).post.layout (seat i).post.tags why aim index root n link found (held_post (counted (seat i).post) index root link) (told_held index root link n) (post_held (seat i).post.layout (seat i).post.tags (counted (seat i).post) index root link (own_post mem seat i v a)))
    (record { post = own_post mem seat i v a; phase = record { is = refl; there = refl } }))

pub raise_made : {Q : Post → Type 0} {P : Post → Phase → Type 0} (mem : Place → ℕ) (seat : ℕ → Local) (i : ℕ) (v : View) (why : Why) (aim : Aim) (index : ℕ) (root : Root) (steps n era found : ℕ) → At mem seat i v → (seat i).phase ≡ Runs why (bases.Protect aim index root steps (RaiseUpper era))
    → Moves Q P why (protect_turn aim index root n (RaiseUpper era) (counted (seat i).post) found)
    → Made mem seat i (protect_move index root (RaiseUpper era) (seat i).post) (run_turn why (seat i).desk (protect_turn aim index root n (RaiseUpper era) (counted (seat i).post) found)) v.deal
raise_made mem seat i v why aim index root steps n era found a q m =
    let p = own_post mem seat i v a in
    stay mem seat i v (protect_move index root (RaiseUpper era) (seat i).post) why (bases.Protect aim index root steps (RaiseUpper era)) (protect_turn aim index root n (RaiseUpper era) (counted (seat i).post) found) a q refl refl m
    (record { post = record { table = p.table; guarded = p.guarded; kept = p.kept }; phase = record { is = refl; there = refl } })

-- hazard pointers
pub hazard_made : {Q : Post → Type 0} {P : Post → Phase → Type 0} (mem : Place → ℕ) (seat : ℕ → Local) (i : ℕ) (v : View) (why : Why) (aim : Aim) (index : ℕ) (root : Root) (steps n : ℕ) (at : HazardAt) (found : ℕ) → At mem seat i v → (seat i).phase ≡ Runs why (bases.Protect aim index root steps (ByHazard at)) → publishes_rows (seat i).post.layout.config.scheme ≡ true
    → Moves Q P why (hazard_turn aim index root n at (counted (seat i).post) found)
    → Made mem seat i (hazard_move index root at (seat i).post) (run_turn why (seat i).desk (hazard_turn aim index root n at (counted (seat i).post) found)) v.deal
hazard_made mem seat i v why aim index root steps n FirstLink found a q f m =
    stay mem seat i v (memory.Load (link_place root)) why (bases.Protect aim index root steps (ByHazard FirstLink)) (hazard_turn aim index root n FirstLink (counted (seat i).post) found) a q refl refl m
    (steps_if (seat i).post.layout (seat i).post.tags why (found == 0) (protected aim index root n found 0 (counted (seat i).post)) (goes (counted (seat i).post) [] (bases.Protect aim index root n (ByHazard (PublishLink found))))
    (concluded_on (seat i).post.layout (seat i).post.tags why aim index root n found 0 (held_post (counted (seat i).post) index root found) (told_held index root found n) (post_held (seat i).post.layout (seat i).post.tags (counted (seat i).post) index root found (own_post mem seat i v a)))
    (record { post = own_post mem seat i v a; phase = record { is = refl; there = refl } }))
hazard_made mem seat i v why aim index root steps n (PublishLink link) found a q f m =
    rest mem seat i v (hazard_move index root (PublishLink link) (seat i).post) why (hazard_turn aim index root n (PublishLink link) (counted (seat i).post) found) (record v { role = upd v.role i roles.Away }) a
    (record { post = own_post mem seat i v a; phase = record { is = refl; there = refl } }) refl refl
    (words_row mem v.clock v.helper v.era v.mark v.deal (seat i).post.seat index link f a.facts.words)
    (same_role (seat i).post.layout.config v i roles.Away a.facts.parts (stands_in mem seat i v (Runs why (bases.Protect aim index root steps (ByHazard (PublishLink link)))) a q))
hazard_made mem seat i v why aim index root steps n (CheckLink link) found a q f m =
    stay mem seat i v (memory.Load (link_place root)) why (bases.Protect aim index root steps (ByHazard (CheckLink link))) (hazard_turn aim index root n (CheckLink link) (counted (seat i).post) found) a q refl refl m
    (steps_if (seat i).post.layout (seat i).post.tags why (found == link || found == 0) (protected aim index root n found 0 (counted (seat i).post)) (goes (counted (seat i).post) [] (bases.Protect aim index root n (ByHazard (PublishLink found))))
    (concluded_on (seat i).post.layout (seat i).post.tags why aim index root n found 0 (held_post (counted (seat i).post) index root found) (told_held index root found n) (post_held (seat i).post.layout (seat i).post.tags (counted (seat i).post) index root found (own_post mem seat i v a)))
    (record { post = own_post mem seat i v a; phase = record { is = refl; there = refl } }))

pub reload_made : {Q : Post → Type 0} {P : Post → Phase → Type 0} (mem : Place → ℕ) (seat : ℕ → Local) (i : ℕ) (v : View) (why : Why) (parent index slot era steps found : ℕ) → At mem seat i v → (seat i).phase ≡ Runs why (bases.Reload parent index slot era steps)
    → Moves Q P why (after (bases.Reload parent index slot era steps) (counted (seat i).post) found)
    → Made mem seat i (memory.Load places.Head) (run_turn why (seat i).desk (after (bases.Reload parent index slot era steps) (counted (seat i).post) found)) v.deal
reload_made mem seat i v why parent index slot era steps found a q m =
    let p = own_post mem seat i v a in
    stay mem seat i v (memory.Load places.Head) why (bases.Reload parent index slot era steps) (after (bases.Reload parent index slot era steps) (counted (seat i).post) found) a q refl refl m
    (steps_if (seat i).post.layout (seat i).post.tags why (found == parent + 1) (ends (with_row (counted (seat i).post) index slot) (events.Held index slot (bump steps) ∷ []) (Followed (follow_ends.Followed slot))) (ends (counted (seat i).post) [] (Followed (follow_ends.RootMoved found)))
    (record { post = record { table = p.table; guarded = p.guarded; kept = p.kept }; phase = tt }) (record { post = p; phase = tt }))

-- an index word is cleared
pub clear_made : {Q : Post → Type 0} {P : Post → Phase → Type 0} (mem : Place → ℕ) (seat : ℕ → Local) (i : ℕ) (v : View) (why : Why) (rows : Bool) (index found : ℕ) → At mem seat i v → (seat i).phase ≡ Runs why (bases.Clear rows index) → base_fits (seat i).post.layout.config (bases.Clear rows index) ≡ true
    → Moves Q P why (after (bases.Clear rows index) (counted (seat i).post) found)
    → Made mem seat i (base_move (bases.Clear rows index) (seat i).post) (run_turn why (seat i).desk (after (bases.Clear rows index) (counted (seat i).post) found)) v.deal
clear_made mem seat i v why rows index found a q f m =
    let p = own_post mem seat i v a in
    let r = stands_in mem seat i v (Runs why (bases.Clear rows index)) a q in
    rest mem seat i v (base_move (bases.Clear rows index) (seat i).post) why (after (bases.Clear rows index) (counted (seat i).post) found) (record v { era = upd2 v.era i index 0; role = upd v.role i roles.Away }) a
    (moves_with why (after (bases.Clear rows index) (counted (seat i).post) found) m (record { post = record { table = p.table; guarded = p.guarded; kept = p.kept }; phase = tt }))
    refl refl
    (words_shown mem seat i v rows index 0 a (clear_rows (seat i).post.layout.config.scheme rows f) (rw r at (a.facts.parts.fit i)))
    (own.clears-keeps (seat i).post.layout.config v i index a.below a.facts.parts r)

pub finish_made : {Q : Post → Type 0} {P : Post → Phase → Type 0} (mem : Place → ℕ) (seat : ℕ → Local) (i : ℕ) (v : View) (why : Why) (found : ℕ) → At mem seat i v → (seat i).phase ≡ Runs why bases.Finish
    → Moves Q P why (after bases.Finish (counted (seat i).post) found)
    → Made mem seat i (base_move bases.Finish (seat i).post) (run_turn why (seat i).desk (after bases.Finish (counted (seat i).post) found)) v.deal
finish_made mem seat i v why found a q m =
    let p = own_post mem seat i v a in
    stay mem seat i v (base_move bases.Finish (seat i).post) why bases.Finish (after bases.Finish (counted (seat i).post) found) a q refl refl m (record { post = record { table = p.table; guarded = p.guarded; kept = p.kept }; phase = tt })

pub release_made : {Q : Post → Type 0} {P : Post → Phase → Type 0} (mem : Place → ℕ) (seat : ℕ → Local) (i : ℕ) (v : View) (why : Why) (index found : ℕ) → At mem seat i v → (seat i).phase ≡ Runs why (bases.Release index)
    → Moves Q P why (after (bases.Release index) (counted (seat i).post) found)
    → Made mem seat i (base_move (bases.Release index) (seat i).post) (run_turn why (seat i).desk (after (bases.Release index) (counted (seat i).post) found)) v.deal
release_made mem seat i v why index found a q m =
    let p = own_post mem seat i v a in
    stay mem seat i v (base_move (bases.Release index) (seat i).post) why (bases.Release index) (after (bases.Release index) (counted (seat i).post) found) a q refl refl m (record { post = record { table = p.table; guarded = p.guarded; kept = p.kept }; phase = tt })

walking_on : (layout : Layout) (tags : List ℕ) (why : Why) (birth : ℕ) (post : Post) (walk : Option Walk) → PostOf layout tags post → StepsOn (PostOf layout tags) (RoleOf layout roles.Away) why (walking birth post walk)
walking_on layout tags why birth post None p = record { post = p; phase = tt }
walking_on layout tags why birth post (Some walk) p = record { post = p; phase = record { is = refl; there = refl } }

pub allocate_made : {Q : Post → Type 0} {P : Post → Phase → Type 0} (mem : Place → ℕ) (seat : ℕ → Local) (i : ℕ) (v : View) (why : Why) (at : AllocateAt) (found : ℕ) → At mem seat i v → (seat i).phase ≡ Runs why (bases.Allocate at)
    → Moves Q P why (after (bases.Allocate at) (counted (seat i).post) found)
    → Made mem seat i (base_move (bases.Allocate at) (seat i).post) (run_turn why (seat i).desk (after (bases.Allocate at) (counted (seat i).post) found)) v.deal
allocate_made mem seat i v why LoadBirth found a q m = stay mem seat i v (memory.Load Clock) why (bases.Allocate LoadBirth) (after (bases.Allocate LoadBirth) (counted (seat i).post) found) a q refl refl m (record { post = own_post mem seat i v a; phase = record { is = refl; there = refl } })
allocate_made mem seat i v why (ClaimSlot birth walk) found a q m =
    let p = own_post mem seat i v a in
    stay mem seat i v (base_move (bases.Allocate (ClaimSlot birth walk)) (seat i).post) why (bases.Allocate (ClaimSlot birth walk)) (after (bases.Allocate (ClaimSlot birth walk)) (counted (seat i).post) found) a q refl refl m
    (steps_if (seat i).post.layout (seat i).post.tags why (is_claimed found walk.slot) (walking birth (counted (seat i).post) (walk_past (seat i).post.layout.config.slots walk found))
    (goes (record (counted (seat i).post) { cursor = next_slot (seat i).post.layout.config.slots walk.slot }) (events.Give walk.slot birth ∷ []) (bases.Allocate (StoreLife birth walk.slot)))
    (walking_on (seat i).post.layout (seat i).post.tags why birth (counted (seat i).post) (walk_past (seat i).post.layout.config.slots walk found) p)
    (record { post = record { table = p.table; guarded = p.guarded; kept = p.kept }; phase = record { is = refl; there = refl } }))
allocate_made mem seat i v why (StoreLife birth slot) found a q m = stay mem seat i v (base_move (bases.Allocate (StoreLife birth slot)) (seat i).post) why (bases.Allocate (StoreLife birth slot)) (after (bases.Allocate (StoreLife birth slot)) (counted (seat i).post) found) a q refl refl m (record { post = own_post mem seat i v a; phase = tt })

pub write_made : {Q : Post → Type 0} {P : Post → Phase → Type 0} (mem : Place → ℕ) (seat : ℕ → Local) (i : ℕ) (v : View) (why : Why) (slot : ℕ) (row : RowOf) (place found : ℕ) → At mem seat i v → (seat i).phase ≡ Runs why (bases.Write slot row place)
    → Moves Q P why (after (bases.Write slot row place) (counted (seat i).post) found)
    → Made mem seat i (base_move (bases.Write slot row place) (seat i).post) (run_turn why (seat i).desk (after (bases.Write slot row place) (counted (seat i).post) found)) v.deal
write_made mem seat i v why slot row place found a q m =
    stay mem seat i v (base_move (bases.Write slot row place) (seat i).post) why (bases.Write slot row place) (after (bases.Write slot row place) (counted (seat i).post) found) a q refl refl m
    (steps_if (seat i).post.layout (seat i).post.tags why (place == last_written row) (ends (counted (seat i).post) [] Done) (goes (counted (seat i).post) [] (bases.Write slot row (place + 1)))
    (record { post = own_post mem seat i v a; phase = tt }) (record { post = own_post mem seat i v a; phase = record { is = refl; there = refl } }))

pub give_up_made : {Q : Post → Type 0} {P : Post → Phase → Type 0} (mem : Place → ℕ) (seat : ℕ → Local) (i : ℕ) (v : View) (why : Why) (slot found : ℕ) → At mem seat i v → (seat i).phase ≡ Runs why (bases.GiveUp slot)
    → Moves Q P why (after (bases.GiveUp slot) (counted (seat i).post) found)
    → Made mem seat i (base_move (bases.GiveUp slot) (seat i).post) (run_turn why (seat i).desk (after (bases.GiveUp slot) (counted (seat i).post) found)) v.deal
give_up_made mem seat i v why slot found a q m = stay mem seat i v (base_move (bases.GiveUp slot) (seat i).post) why (bases.GiveUp slot) (after (bases.GiveUp slot) (counted (seat i).post) found) a q refl refl m (record { post = own_post mem seat i v a; phase = tt })

pub retire_made : {Q : Post → Type 0} {P : Post → Phase → Type 0} (mem : Place → ℕ) (seat : ℕ → Local) (i : ℕ) (v : View) (why : Why) (at : RetireAt) (found : ℕ) → At mem seat i v → (seat i).phase ≡ Runs why (bases.Retire at)
    → Moves Q P why (after (bases.Retire at) (counted (seat i).post) found)
    → Made mem seat i (base_move (bases.Retire at) (seat i).post) (run_turn why (seat i).desk (after (bases.Retire at) (counted (seat i).post) found)) v.deal
retire_made mem seat i v why (LoadLife slot) found a q m = stay mem seat i v (base_move (bases.Retire (LoadLife slot)) (seat i).post) why (bases.Retire (LoadLife slot)) (after (bases.Retire (LoadLife slot)) (counted (seat i).post) found) a q refl refl m (record { post = own_post mem seat i v a; phase = record { is = refl; there = refl } })
retire_made mem seat i v why (LoadRetire slot birth) found a q m = stay mem seat i v (memory.Load Clock) why (bases.Retire (LoadRetire slot birth)) (after (bases.Retire (LoadRetire slot birth)) (counted (seat i).post) found) a q refl refl m (record { post = own_post mem seat i v a; phase = record { is = refl; there = refl } })
retire_made mem seat i v why (StoreRetired slot birth retire) found a q m =
    let p = own_post mem seat i v a in
    stay mem seat i v (base_move (bases.Retire (StoreRetired slot birth retire)) (seat i).post) why (bases.Retire (StoreRetired slot birth retire)) (after (bases.Retire (StoreRetired slot birth retire)) (counted (seat i).post) found) a q refl refl m (record { post = record { table = p.table; guarded = p.guarded; kept = p.kept }; phase = tt })

-- a call's own steps and those of a scan
pub call_made : (mem : Place → ℕ) (seat : ℕ → Local) (i : ℕ) (v : View) (phase : Phase) (m : memory.Move) (t : CallTurn) → At mem seat i v → (seat i).phase ≡ phase → role_of (seat i).post.layout phase ≡ roles.Away → leaves m ≡ true → Left (PostOf (seat i).post.layout (seat i).post.tags) (RoleOf (seat i).post.layout roles.Away) t → Made mem seat i m t v.deal
call_made mem seat i v phase m t a q r h l =
    made mem seat v.role i m t roles.Away (record v { role = upd v.role i roles.Away }) a.facts.locals l refl (words_left mem v m h a.facts.words)
    (same_role (seat i).post.layout.config v i roles.Away a.facts.parts (stands_in mem seat i v phase a q ∙ r))

pub get_leaves : (at : GetAt) → leaves (get_move at) ≡ true
get_leaves (FindVersion slot) = refl
get_leaves (FindCount slot version) = refl
get_leaves (FindKey slot version count pair) = refl
get_leaves (FindValue slot version pair) = refl

pub change_leaves : (kept : ChangeKept) (at : ChangeAt) (post : Post) → leaves (change_move kept at post) ≡ true
change_leaves kept (LoadVersion slot) post = refl
change_leaves kept (LoadCount slot) post = refl
change_leaves kept (LoadKey slot count) post = refl
change_leaves kept (LoadValue slot count key) post = refl
change_leaves kept (ExchangeRoot slot) post = refl

pub enqueue_leaves : (kept : EnqueueKept) (at : EnqueueAt) → leaves (enqueue_move kept at) ≡ true
enqueue_leaves kept LoadNumber = refl
enqueue_leaves kept LoadNext = refl
enqueue_leaves kept (PassTail next) = refl
enqueue_leaves kept (ExchangeNext slot) = refl
enqueue_leaves kept (ExchangeTail slot) = refl

pub dequeue_leaves : (at : DequeueAt) → leaves (dequeue_move at) ≡ true
dequeue_leaves (LoadTail head) = refl
dequeue_leaves (SwingTail head next) = refl
dequeue_leaves (TakeNumber head next) = refl
dequeue_leaves (TakeValue head next number) = refl
dequeue_leaves (ExchangeHead head next number value) = refl

-- what is let go with the interval leaves table and tags
keep_bared : (layout : Layout) (tags : List ℕ) (at : KeepAt) (post : Post) → PostOf layout tags post → PostOf layout tags (bared (Keeping at) post)
keep_bared layout tags HideSpan post p = record { table = p.table; guarded = p.guarded; kept = p.kept }
keep_bared layout tags at post p = p

work_bared : (layout : Layout) (tags : List ℕ) (work : Work) (post : Post) → PostOf layout tags post → PostOf layout tags (bared work post)
work_bared layout tags (Keeping at) post p = keep_bared layout tags at post p
work_bared layout tags work post p = p

-- a call's own step that is none of a copy
pub work_made : (mem : Place → ℕ) (seat : ℕ → Local) (i : ℕ) (v : View) (work : Work) (found : ℕ) → At mem seat i v → (seat i).phase ≡ Works work → leaves (work_move work (seat i).post) ≡ true → work_role (seat i).post.layout work ≡ roles.Away
    → WorkFits (counted (seat i).post) work
    → Stores (RoleOf (seat i).post.layout roles.Away) (counted (seat i).post) found work
    → Made mem seat i (work_move work (seat i).post) (work_turn work (counted (seat i).post) (seat i).desk found) v.deal
work_made mem seat i v work found a q h r f n = call_made mem seat i v (Works work) (work_move work (seat i).post) (work_turn work (counted (seat i).post) (seat i).desk found) a q r h
    (work_left (away (seat i).post.layout (seat i).post.tags) work (counted (seat i).post) (seat i).desk found f n (work_bared (seat i).post.layout (seat i).post.tags work (counted (seat i).post) (own_post mem seat i v a)))

scan_leaves : (at : ScanAt) (post : Post) → leaves (scan_move at post) ≡ true
scan_leaves (ReadGuard number) post = refl
scan_leaves (GiveBack place slot) post = refl

pub scan_made : (mem : Place → ℕ) (seat : ℕ → Local) (i : ℕ) (v : View) (later : AfterScan) (at : ScanAt) (found : ℕ) → At mem seat i v → (seat i).phase ≡ Scans later at → Made mem seat i (scan_move at (seat i).post) (scan_turn later at (counted (seat i).post) (seat i).desk found) v.deal
scan_made mem seat i v later at found a q = call_made mem seat i v (Scans later at) (scan_move at (seat i).post) (scan_turn later at (counted (seat i).post) (seat i).desk found) a q refl (scan_leaves at (seat i).post)
    (scan_left (away (seat i).post.layout (seat i).post.tags) later at (counted (seat i).post) (seat i).desk found (own_post mem seat i v a))

pub idle_made : (mem : Place → ℕ) (seat : ℕ → Local) (i : ℕ) (v : View) (t : CallTurn) → At mem seat i v → (seat i).phase ≡ Idle → Left (PostOf (seat i).post.layout (seat i).post.tags) (RoleOf (seat i).post.layout roles.Away) t → Made mem seat i (memory.Load Clock) t v.deal
idle_made mem seat i v t a q l = call_made mem seat i v Idle (memory.Load Clock) t a q refl refl l
