-- The steps of a protection: its tries, and its request.
use Rattle.std.proofs.Common.{ℕ, ◌≡◌, ◌≤◌, ◌<◌, ◌+◌, Bool, true, false, List, [], arith, refl, sym, ap, subst, ◌∙◌}
use Rattle.std.proofs.lemmas.Bool.Decides.{nat_tests}
use Rattle.std.specs.Prelude.{◌==◌, ◌&&◌, nat_lt, nat_le, ◌-◌}
use Rattle.inv_rows.specs.words.Place.{Place, has}
use Rattle.inv_rows.specs.words.Place.Place.{Clock, Index}
use Rattle.inv_rows.specs.words.Packed.{halves, pending_word}
use Rattle.inv_rows.specs.words.Schemes.{publishes_rows}
use Rattle.inv_rows.specs.defs.declared.event.Event.{Event}
use Rattle.inv_rows.specs.defs.declared.event.Root.{Root}
use Rattle.inv_rows.specs.model.declared.post.Post.{Post}
use Rattle.inv_rows.specs.model.Links.{link_place, link_number, parent_of}
use Rattle.inv_rows.specs.model.Memory.{upd, written, put}
use Rattle.inv_rows.specs.model.Memory as memory
use Rattle.inv_rows.specs.model.Posts.{counted, tag_of, with_row, index_word, shown_word, helper_word, reserves_index, reserves_helper}
use Rattle.inv_rows.specs.model.Phases.{Aim, Tries, Endless, Failed, ProtectAt, Turn, goes, ends, Alone, Follows}
use Rattle.inv_rows.specs.model.Calls.{Why, Phase, Runs}
use Rattle.inv_rows.specs.model.Steps.{run_turn}
use Rattle.inv_rows.specs.model.Locals.{Local}
use Rattle.inv_rows.specs.model.Machine.{protect_move, protect_turn}
use Rattle.inv_rows.specs.Shapes.Frame.{Moves}
use Rattle.inv_rows.proofs.model.Ranges.{bounds_of}
use Rattle.inv_rows.specs.model.Phases.ProtectAt.{LoadClock, PublishEra, LoadLink, CheckClock, PublishRequest, LoadOwnClock, PublishHelper, LoadOwnLink, CheckOwnClock, AnswerOwn, LoadAnswer}
use Rattle.inv_rows.specs.model.Phases.Base.{Protect, Reload}
use Rattle.inv_rows.specs.model.Phases.Ending.{Followed}
use Rattle.inv_rows.specs.model.declared.ends.FollowEnd.TheVariants as follow_ends
use Rattle.inv_rows.specs.defs.declared.event.Root.TheVariants as root_names
use Rattle.inv_rows.specs.words.declared.config.Config.{Config}
use Rattle.inv_rows.specs.words.declared.layout.Layout.{Layout}
use Rattle.inv_rows.specs.model.Protect.{concluded, told_held, failed_once, protected, held_post}
use Rattle.inv_rows.specs.model.SlowPath.{own_request, lost_turn}
use Rattle.inv_rows.specs.Covering.Requests.Views.{View, upd2, Role as roles}
use Rattle.inv_rows.specs.Covering.Requests.Views.Deal.{Open}
use Rattle.inv_rows.specs.Covering.Requests.Deals.{is_quiet}
use Rattle.inv_rows.specs.Covering.Requests.Parts.{Parts}
use Rattle.inv_rows.specs.Covering.Requests.Standing.{has_failed, Words}
use Rattle.inv_rows.specs.Covering.Requests.NextDeals.{protect_deals}
use Rattle.inv_rows.specs.Covering.Requests.Turns.{PostOf, RoleOf, Made}
use Rattle.inv_rows.specs.Covering.Requests.Context.{At, phase_there}
use Rattle.inv_rows.proofs.Covering.Requests.Words.{words_helper, words_era, words_row, words_request}
use Rattle.inv_rows.proofs.Covering.Requests.Requester as own
use Rattle.inv_rows.proofs.Covering.Requests.Turns.{same_deals}
use Rattle.inv_rows.proofs.Covering.Requests.Going.{same_role, stands_in, own_post, go, rest}
use Rattle.inv_rows.proofs.model.Facts.{if_by}

-- the tag in an index word of a seat that asks nothing is its own
pub quiet_mark : (mem : Place → ℕ) (seat : ℕ → Local) (i : ℕ) (v : View) (j : ℕ) → At mem seat i v → is_quiet (v.deal i) ≡ true → v.mark i j ≡ tag_of (seat i).post j
quiet_mark mem seat i v j a q = grind (arith, nat_tests, a.facts.parts.marks i j, a.facts.locals.tags i j)

-- 1. The clock is loaded.
pub load_clock : (mem : Place → ℕ) (seat : ℕ → Local) (i : ℕ) (v : View) (why : Why) (aim : Aim) (index : ℕ) (root : Root) (steps n : ℕ) (tries : Tries) → At mem seat i v → (seat i).phase ≡ Runs why (Protect aim index root steps (LoadClock tries)) → has_failed tries ≡ false
    → Made mem seat i (memory.Load Clock) (run_turn why (seat i).desk (protect_turn aim index root n (LoadClock tries) (counted (seat i).post) (mem Clock))) v.deal
load_clock mem seat i v why aim index root steps n tries a q f =
    go mem seat i v (memory.Load Clock) why [] (Protect aim index root n (PublishEra (mem Clock) tries)) (roles.Publishes index v.clock false)
    (record v { role = upd v.role i (roles.Publishes index v.clock false) }) a
    (let e : mem Clock ≡ v.clock = a.facts.words.clocks in cc) refl refl refl a.facts.words
    (own.loads-keeps (seat i).post.layout.config v i index a.below a.facts.parts (stands_in mem seat i v (Runs why (Protect aim index root steps (LoadClock tries))) a q))

-- 2. The era is published: a try, or the slow path.
publish_try : (c : Config) (v : View) (x j e : ℕ) (lost : Bool) → x < c.seats → Parts c v → v.role x ≡ roles.Publishes j e lost → Parts c (record v { era = upd2 v.era x j e; role = upd v.role x (roles.Attempts j e lost) })
publish_try c v x j e false b d q = own.publishes_first-keeps c v x j e b d q
publish_try c v x j e true b d q = own.publishes_again-keeps c v x j e b d q

pub index_words : (mem : Place → ℕ) (seat : ℕ → Local) (i : ℕ) (v : View) (index era : ℕ) → At mem seat i v → is_quiet (v.deal i) ≡ true → Words (publishes_rows (seat i).post.layout.config.scheme) (put mem (Index (seat i).post.seat index) (index_word (seat i).post index era)) v.clock v.helper (upd2 v.era i index era) v.mark v.deal
index_words mem seat i v index era a q =
    words_era mem v.clock v.helper v.era v.mark v.deal i (seat i).post.seat index era (index_word (seat i).post index era) a.facts.words a.number
    (ap (λ (n : ℕ). halves era n) (sym (quiet_mark mem seat i v index a q)))

-- what an index word publishes next: an era, or where rows are published a link
pub words_shown : (mem : Place → ℕ) (seat : ℕ → Local) (i : ℕ) (v : View) (rows : Bool) (index number : ℕ) → At mem seat i v → rows ≡ publishes_rows (seat i).post.layout.config.scheme → is_quiet (v.deal i) ≡ true
    → Words (publishes_rows (seat i).post.layout.config.scheme) (put mem (Index (seat i).post.seat index) (shown_word rows (seat i).post index number)) v.clock v.helper (upd2 v.era i index number) v.mark v.deal
words_shown mem seat i v false index number a e q = index_words mem seat i v index number a q
words_shown mem seat i v true index number a e q =
    let u = words_row mem v.clock v.helper v.era v.mark v.deal (seat i).post.seat index number (sym e) a.facts.words in record { clocks = u.clocks; helpers = u.helpers; indexes = λ p. absurd (cc); requests = u.requests }

publish_link : (mem : Place → ℕ) (seat : ℕ → Local) (i : ℕ) (v : View) (why : Why) (aim : Aim) (index : ℕ) (root : Root) (steps n era : ℕ) (tries : Tries) → At mem seat i v → (seat i).phase ≡ Runs why (Protect aim index root steps (PublishEra era tries))
    → Made mem seat i (protect_move index root (PublishEra era tries) (seat i).post) (run_turn why (seat i).desk (goes (counted (seat i).post) (reserves_index (counted (seat i).post) index era) (Protect aim index root n (LoadLink era tries)))) v.deal
publish_link mem seat i v why aim index root steps n era tries a q =
    let r = stands_in mem seat i v (Runs why (Protect aim index root steps (PublishEra era tries))) a q in
    go mem seat i v (protect_move index root (PublishEra era tries) (seat i).post) why (reserves_index (counted (seat i).post) index era) (Protect aim index root n (LoadLink era tries)) (roles.Attempts index era (has_failed tries))
    (record v { era = upd2 v.era i index era; role = upd v.role i (roles.Attempts index era (has_failed tries)) }) a
    refl refl refl refl
    (index_words mem seat i v index era a (rw r at (a.facts.parts.fit i)))
    (publish_try (seat i).post.layout.config v i index era (has_failed tries) a.below a.facts.parts r)

publish_request : (mem : Place → ℕ) (seat : ℕ → Local) (i : ℕ) (v : View) (why : Why) (aim : Aim) (index : ℕ) (root : Root) (steps n era count : ℕ) → At mem seat i v → (seat i).phase ≡ Runs why (Protect aim index root steps (PublishEra era (Failed count))) → nat_lt 0 count ≡ true
    → Made mem seat i (protect_move index root (PublishEra era (Failed count)) (seat i).post) (run_turn why (seat i).desk (goes (counted (seat i).post) (reserves_index (counted (seat i).post) index era) (Protect aim index root n PublishRequest))) v.deal
publish_request mem seat i v why aim index root steps n era count a q f =
    let r = stands_in mem seat i v (Runs why (Protect aim index root steps (PublishEra era (Failed count)))) a q in
    go mem seat i v (protect_move index root (PublishEra era (Failed count)) (seat i).post) why (reserves_index (counted (seat i).post) index era) (Protect aim index root n PublishRequest) (roles.Asks index (link_number (seat i).post.layout root))
    (record v { era = upd2 v.era i index era; role = upd v.role i (roles.Asks index (link_number (seat i).post.layout root)) }) a
    refl refl refl refl
    (index_words mem seat i v index era a (rw r at (a.facts.parts.fit i)))
    (own.publishes_last-keeps (seat i).post.layout.config v i index (link_number (seat i).post.layout root) era a.below a.facts.parts (r ∙ ap (roles.Publishes index era) f))

pub publish_era : (mem : Place → ℕ) (seat : ℕ → Local) (i : ℕ) (v : View) (why : Why) (aim : Aim) (index : ℕ) (root : Root) (steps n era : ℕ) (tries : Tries) → At mem seat i v → (seat i).phase ≡ Runs why (Protect aim index root steps (PublishEra era tries))
    → Made mem seat i (protect_move index root (PublishEra era tries) (seat i).post) (run_turn why (seat i).desk (protect_turn aim index root n (PublishEra era tries) (counted (seat i).post) 0)) v.deal
publish_era mem seat i v why aim index root steps n era Endless a q = publish_link mem seat i v why aim index root steps n era Endless a q
publish_era mem seat i v why aim index root steps n era (Failed count) a q =
    if_by (nat_le (seat i).post.layout.config.tries count) PublishRequest (LoadLink era (Failed count))
    (λ (at : ProtectAt). Made mem seat i (protect_move index root (PublishEra era (Failed count)) (seat i).post) (run_turn why (seat i).desk (goes (counted (seat i).post) (reserves_index (counted (seat i).post) index era) (Protect aim index root n at))) v.deal)
    (λ h. publish_request mem seat i v why aim index root steps n era count a q (let b = bounds_of (seat i).post.layout a.valid in grind (arith, nat_tests, b.tries)))
    (λ h. publish_link mem seat i v why aim index root steps n era (Failed count) a q)

-- 3. The link is loaded.
pub load_link : (mem : Place → ℕ) (seat : ℕ → Local) (i : ℕ) (v : View) (why : Why) (aim : Aim) (index : ℕ) (root : Root) (steps n era : ℕ) (tries : Tries) → At mem seat i v → (seat i).phase ≡ Runs why (Protect aim index root steps (LoadLink era tries))
    → Made mem seat i (memory.Load (link_place root)) (run_turn why (seat i).desk (protect_turn aim index root n (LoadLink era tries) (counted (seat i).post) (mem (link_place root)))) v.deal
load_link mem seat i v why aim index root steps n era tries a q =
    go mem seat i v (memory.Load (link_place root)) why [] (Protect aim index root n (CheckClock era tries (mem (link_place root)))) (roles.Attempts index era (has_failed tries))
    (record v { role = upd v.role i (roles.Attempts index era (has_failed tries)) }) a refl refl refl refl a.facts.words
    (same_role (seat i).post.layout.config v i (roles.Attempts index era (has_failed tries)) a.facts.parts (stands_in mem seat i v (Runs why (Protect aim index root steps (LoadLink era tries))) a q))

-- a protection that has ended asks nothing; where it is followed the head is to be loaded
pub concluded_rests : {Q : Post → Type 0} {P : Post → Phase → Type 0} (layout : Layout) (tags : List ℕ) (why : Why) (aim : Aim) (index : ℕ) (root : Root) (n link era : ℕ) (post : Post) (told : List Event) → PostOf layout tags post → Moves Q P why (concluded aim index root n link era post told)
    → Moves (PostOf layout tags) (RoleOf layout roles.Away) why (concluded aim index root n link era post told)
concluded_rests layout tags why Alone index root n link era post told p h = record { post = p; phase = h.phase }
concluded_rests {Q} {P} layout tags why Follows index root n link era post told p h =
    if_by (link == 0) (ends post told (Followed follow_ends.NoNext)) (goes post told (Reload (parent_of root) index (link - 1) era n))
    (λ (t : Turn). Moves Q P why t → Moves (PostOf layout tags) (RoleOf layout roles.Away) why t)
    (λ e g. record { post = p; phase = g.phase })
    (λ e g. record { post = p; phase = record { is = refl; there = refl } })
    h

-- that a row stands changes neither table nor tags
pub post_held : (layout : Layout) (tags : List ℕ) (post : Post) (index : ℕ) (root : Root) (link : ℕ) → PostOf layout tags post → PostOf layout tags (held_post post index root link)
post_held layout tags post index (root_names.Next parent) link p = p
post_held layout tags post index (root_names.Bucket bucket) link p = if_by (link == 0) post (with_row post index (link - 1)) (PostOf layout tags) (λ e. p) (λ e. record { table = p.table; guarded = p.guarded; kept = p.kept })
post_held layout tags post index root_names.Head link p = if_by (link == 0) post (with_row post index (link - 1)) (PostOf layout tags) (λ e. p) (λ e. record { table = p.table; guarded = p.guarded; kept = p.kept })
post_held layout tags post index root_names.Tail link p = if_by (link == 0) post (with_row post index (link - 1)) (PostOf layout tags) (λ e. p) (λ e. record { table = p.table; guarded = p.guarded; kept = p.kept })

-- 4. The clock is loaded again.
fails_any : (c : Config) (v : View) (x j e : ℕ) (lost : Bool) → x < c.seats → Parts c v → v.role x ≡ roles.Attempts j e lost → (v.clock == e) ≡ false → Parts c (record v { role = upd v.role x (roles.Publishes j v.clock true) })
fails_any c v x j e false b d q h = own.fails_first-keeps c v x j e b d q h
fails_any c v x j e true b d q h = own.fails_again-keeps c v x j e b d q h

fails : (c : Config) (v : View) (x j e : ℕ) (tries : Tries) → x < c.seats → Parts c v → v.role x ≡ roles.Attempts j e (has_failed tries) → (v.clock == e) ≡ false → Parts c (record v { role = upd v.role x (roles.Publishes j v.clock (has_failed (failed_once tries))) })
fails c v x j e Endless b d q h = own.fails_endless-keeps c v x j e b d q h
fails c v x j e (Failed count) b d q h =
    let t : true ≡ nat_lt 0 (count + 1) = grind (arith, nat_tests) in
    subst (λ (lost : Bool). Parts c (record v { role = upd v.role x (roles.Publishes j v.clock lost) })) t (fails_any c v x j e (nat_lt 0 count) b d q h)

pub check_clock : {Q : Post → Type 0} {P : Post → Phase → Type 0} (mem : Place → ℕ) (seat : ℕ → Local) (i : ℕ) (v : View) (why : Why) (aim : Aim) (index : ℕ) (root : Root) (steps n era link : ℕ) (tries : Tries) → At mem seat i v → (seat i).phase ≡ Runs why (Protect aim index root steps (CheckClock era tries link))
    → Moves Q P why (protect_turn aim index root n (CheckClock era tries link) (counted (seat i).post) (mem Clock))
    → Made mem seat i (memory.Load Clock) (run_turn why (seat i).desk (protect_turn aim index root n (CheckClock era tries link) (counted (seat i).post) (mem Clock))) v.deal
check_clock {Q} {P} mem seat i v why aim index root steps n era link tries a q m =
    let r = stands_in mem seat i v (Runs why (Protect aim index root steps (CheckClock era tries link))) a q in
    if_by (mem Clock == era) (protected aim index root n link era (counted (seat i).post)) (goes (counted (seat i).post) [] (Protect aim index root n (PublishEra (mem Clock) (failed_once tries))))
    (λ (t : Turn). Moves Q P why t → Made mem seat i (memory.Load Clock) (run_turn why (seat i).desk t) v.deal)
    (λ h g. rest mem seat i v (memory.Load Clock) why (protected aim index root n link era (counted (seat i).post)) (record v { role = upd v.role i roles.Away }) a
    (concluded_rests (seat i).post.layout (seat i).post.tags why aim index root n link era (held_post (counted (seat i).post) index root link) (told_held index root link n) (post_held (seat i).post.layout (seat i).post.tags (counted (seat i).post) index root link (own_post mem seat i v a)) g)
    refl refl a.facts.words
    (own.holds-keeps (seat i).post.layout.config v i index era (has_failed tries) a.below a.facts.parts r))
    (λ h g. go mem seat i v (memory.Load Clock) why [] (Protect aim index root n (PublishEra (mem Clock) (failed_once tries))) (roles.Publishes index v.clock (has_failed (failed_once tries)))
    (record v { role = upd v.role i (roles.Publishes index v.clock (has_failed (failed_once tries))) }) a
    (ap (λ (x : ℕ). roles.Publishes index x (has_failed (failed_once tries))) a.facts.words.clocks) refl refl refl a.facts.words
    (fails (seat i).post.layout.config v i index era tries a.below a.facts.parts r (rw a.facts.words.clocks at h)))
    m

-- The slow path. 1. The request is published.
pub publish_ask : (mem : Place → ℕ) (seat : ℕ → Local) (i : ℕ) (v : View) (why : Why) (aim : Aim) (index : ℕ) (root : Root) (steps n : ℕ) → At mem seat i v → (seat i).phase ≡ Runs why (Protect aim index root steps PublishRequest)
    → Made mem seat i (protect_move index root PublishRequest (seat i).post) (run_turn why (seat i).desk (protect_turn aim index root n PublishRequest (counted (seat i).post) 0)) (protect_deals mem i (seat i).post index root PublishRequest v.deal)
publish_ask mem seat i v why aim index root steps n a q =
    same_deals mem seat i (protect_move index root PublishRequest (seat i).post) (run_turn why (seat i).desk (protect_turn aim index root n PublishRequest (counted (seat i).post) 0)) (upd v.deal i (Open (v.tag i index) index (link_number (seat i).post.layout root))) (protect_deals mem i (seat i).post index root PublishRequest v.deal)
    (ap (λ (t : ℕ). upd v.deal i (Open t index (link_number (seat i).post.layout root))) (sym (a.facts.locals.tags i index)))
    (go mem seat i v (protect_move index root PublishRequest (seat i).post) why [] (Protect aim index root n LoadOwnClock) (roles.Asked index (link_number (seat i).post.layout root))
    (record v { deal = upd v.deal i (Open (v.tag i index) index (link_number (seat i).post.layout root)); role = upd v.role i (roles.Asked index (link_number (seat i).post.layout root)) }) a
    refl refl refl refl
    (words_request mem v.clock v.helper v.era v.mark v.deal i (seat i).post.seat (own_request (seat i).post index root) (Open (v.tag i index) index (link_number (seat i).post.layout root)) a.facts.words a.number
    (ap (λ (t : ℕ). pending_word t index (link_number (seat i).post.layout root)) (a.facts.locals.tags i index)))
    (own.asks-keeps (seat i).post.layout.config v i index (link_number (seat i).post.layout root) a.below a.facts.parts (stands_in mem seat i v (Runs why (Protect aim index root steps PublishRequest)) a q)))

-- 2. The clock is loaded.
pub load_own_clock : (mem : Place → ℕ) (seat : ℕ → Local) (i : ℕ) (v : View) (why : Why) (aim : Aim) (index : ℕ) (root : Root) (steps n : ℕ) → At mem seat i v → (seat i).phase ≡ Runs why (Protect aim index root steps LoadOwnClock)
    → Made mem seat i (memory.Load Clock) (run_turn why (seat i).desk (protect_turn aim index root n LoadOwnClock (counted (seat i).post) (mem Clock))) v.deal
load_own_clock mem seat i v why aim index root steps n a q =
    go mem seat i v (memory.Load Clock) why [] (Protect aim index root n (PublishHelper (mem Clock) (mem Clock) false)) (roles.Turns index (link_number (seat i).post.layout root) v.clock v.clock false)
    (record v { role = upd v.role i (roles.Turns index (link_number (seat i).post.layout root) v.clock v.clock false) }) a
    (ap (λ (x : ℕ). roles.Turns index (link_number (seat i).post.layout root) x x false) a.facts.words.clocks) refl refl refl a.facts.words
    (own.counts-keeps (seat i).post.layout.config v i index (link_number (seat i).post.layout root) a.below a.facts.parts (stands_in mem seat i v (Runs why (Protect aim index root steps LoadOwnClock)) a q))

-- 3. The helper word is stored.
shows_any : (c : Config) (v : View) (x j w f e : ℕ) (last : Bool) → x < c.seats → Parts c v → v.role x ≡ roles.Turns j w f e last → Parts c (record v { helper = upd v.helper x e; role = upd v.role x (roles.Looks j w f e last 0) })
shows_any c v x j w f e false b d q = own.shows_first-keeps c v x j w f e b d q
shows_any c v x j w f e true b d q = own.shows_last-keeps c v x j w f e b d q

pub publish_helper : (mem : Place → ℕ) (seat : ℕ → Local) (i : ℕ) (v : View) (why : Why) (aim : Aim) (index : ℕ) (root : Root) (steps n first era : ℕ) (last : Bool) → At mem seat i v → (seat i).phase ≡ Runs why (Protect aim index root steps (PublishHelper first era last))
    → Made mem seat i (protect_move index root (PublishHelper first era last) (seat i).post) (run_turn why (seat i).desk (protect_turn aim index root n (PublishHelper first era last) (counted (seat i).post) 0)) v.deal
publish_helper mem seat i v why aim index root steps n first era last a q =
    go mem seat i v (protect_move index root (PublishHelper first era last) (seat i).post) why (reserves_helper (counted (seat i).post) era) (Protect aim index root n (LoadOwnLink first era last)) (roles.Looks index (link_number (seat i).post.layout root) first era last 0)
    (record v { helper = upd v.helper i era; role = upd v.role i (roles.Looks index (link_number (seat i).post.layout root) first era last 0) }) a
    refl refl refl refl
    (words_helper mem v.clock v.helper v.era v.mark v.deal i (seat i).post.seat era (helper_word era) a.facts.words a.number refl)
    (shows_any (seat i).post.layout.config v i index (link_number (seat i).post.layout root) first era last a.below a.facts.parts (stands_in mem seat i v (Runs why (Protect aim index root steps (PublishHelper first era last))) a q))

-- 4. The link is loaded.
looks_any : (c : Config) (v : View) (x j w f e l s : ℕ) (last : Bool) → x < c.seats → Parts c v → v.role x ≡ roles.Looks j w f e last l → s ≤ c.slots + 1 → Parts c (record v { role = upd v.role x (roles.Looks j w f e last s) })
looks_any c v x j w f e l s false b d q h = own.looks_first-keeps c v x j w f e l s b d q h
looks_any c v x j w f e l s true b d q h = own.looks_last-keeps c v x j w f e l s b d q h

-- index and root of the protection are of the table
pub inside : (mem : Place → ℕ) (seat : ℕ → Local) (i : ℕ) (v : View) (why : Why) (aim : Aim) (index : ℕ) (root : Root) (steps : ℕ) (at : ProtectAt) → At mem seat i v → (seat i).phase ≡ Runs why (Protect aim index root steps at) → (nat_lt index (seat i).post.layout.config.indexes && has (seat i).post.layout (link_place root)) ≡ true
inside mem seat i v why aim index root steps at a q = sym (ap (phase_there (seat i).post.layout) q) ∙ a.inside i

pub root_there : (mem : Place → ℕ) (seat : ℕ → Local) (i : ℕ) (v : View) (why : Why) (aim : Aim) (index : ℕ) (root : Root) (steps : ℕ) (at : ProtectAt) → At mem seat i v → (seat i).phase ≡ Runs why (Protect aim index root steps at) → has (seat i).post.layout (link_place root) ≡ true
root_there mem seat i v why aim index root steps at a q = let h = inside mem seat i v why aim index root steps at a q in both_last (nat_lt index (seat i).post.layout.config.indexes) (has (seat i).post.layout (link_place root)) h
  where
    both_last : (x y : Bool) → (x && y) ≡ true → y ≡ true
    both_last true y h = h
    both_last false y h = cc

pub load_own_link : (mem : Place → ℕ) (seat : ℕ → Local) (i : ℕ) (v : View) (why : Why) (aim : Aim) (index : ℕ) (root : Root) (steps n first era : ℕ) (last : Bool) → At mem seat i v → (seat i).phase ≡ Runs why (Protect aim index root steps (LoadOwnLink first era last))
    → Made mem seat i (memory.Load (link_place root)) (run_turn why (seat i).desk (protect_turn aim index root n (LoadOwnLink first era last) (counted (seat i).post) (mem (link_place root)))) v.deal
load_own_link mem seat i v why aim index root steps n first era last a q =
    go mem seat i v (memory.Load (link_place root)) why [] (Protect aim index root n (CheckOwnClock first era last (mem (link_place root)))) (roles.Looks index (link_number (seat i).post.layout root) first era last (mem (link_place root)))
    (record v { role = upd v.role i (roles.Looks index (link_number (seat i).post.layout root) first era last (mem (link_place root))) }) a
    refl refl refl refl a.facts.words
    (looks_any (seat i).post.layout.config v i index (link_number (seat i).post.layout root) first era 0 (mem (link_place root)) last a.below a.facts.parts (stands_in mem seat i v (Runs why (Protect aim index root steps (LoadOwnLink first era last))) a q)
    (a.links root (root_there mem seat i v why aim index root steps (LoadOwnLink first era last) a q)))

-- 5. The clock is loaded again.
sees_any : (c : Config) (v : View) (x j w f e l : ℕ) (last : Bool) → x < c.seats → Parts c v → v.role x ≡ roles.Looks j w f e last l → (v.clock == e) ≡ true → Parts c (record v { role = upd v.role x (roles.Answers j w f e l) })
sees_any c v x j w f e l false b d q h = own.sees_first-keeps c v x j w f e l b d q h
sees_any c v x j w f e l true b d q h = own.sees_last-keeps c v x j w f e l b d q h

lost : (mem : Place → ℕ) (seat : ℕ → Local) (i : ℕ) (v : View) (why : Why) (aim : Aim) (index : ℕ) (root : Root) (steps n first era link : ℕ) (last : Bool) → At mem seat i v → (seat i).phase ≡ Runs why (Protect aim index root steps (CheckOwnClock first era last link)) → (mem Clock == era) ≡ false
    → Made mem seat i (memory.Load Clock) (run_turn why (seat i).desk (goes (counted (seat i).post) [] (Protect aim index root n (lost_turn first last (mem Clock))))) v.deal
lost mem seat i v why aim index root steps n first era link false a q h =
    go mem seat i v (memory.Load Clock) why [] (Protect aim index root n (PublishHelper first (mem Clock) true)) (roles.Turns index (link_number (seat i).post.layout root) first v.clock true)
    (record v { role = upd v.role i (roles.Turns index (link_number (seat i).post.layout root) first v.clock true) }) a
    (ap (λ (x : ℕ). roles.Turns index (link_number (seat i).post.layout root) first x true) a.facts.words.clocks) refl refl refl a.facts.words
    (own.turns_again-keeps (seat i).post.layout.config v i index (link_number (seat i).post.layout root) first era link a.below a.facts.parts (stands_in mem seat i v (Runs why (Protect aim index root steps (CheckOwnClock first era false link))) a q) (rw a.facts.words.clocks at h))
lost mem seat i v why aim index root steps n first era link true a q h =
    go mem seat i v (memory.Load Clock) why [] (Protect aim index root n (LoadAnswer first)) (roles.Waits index (link_number (seat i).post.layout root))
    (record v { role = upd v.role i (roles.Waits index (link_number (seat i).post.layout root)) }) a
    refl refl refl refl a.facts.words
    (own.loses-keeps (seat i).post.layout.config v i index (link_number (seat i).post.layout root) first era link a.below a.facts.parts (stands_in mem seat i v (Runs why (Protect aim index root steps (CheckOwnClock first era true link))) a q) (rw a.facts.words.clocks at h))

pub check_own_clock : (mem : Place → ℕ) (seat : ℕ → Local) (i : ℕ) (v : View) (why : Why) (aim : Aim) (index : ℕ) (root : Root) (steps n first era link : ℕ) (last : Bool) → At mem seat i v → (seat i).phase ≡ Runs why (Protect aim index root steps (CheckOwnClock first era last link))
    → Made mem seat i (memory.Load Clock) (run_turn why (seat i).desk (protect_turn aim index root n (CheckOwnClock first era last link) (counted (seat i).post) (mem Clock))) v.deal
check_own_clock mem seat i v why aim index root steps n first era link last a q =
    if_by (mem Clock == era) (goes (counted (seat i).post) [] (Protect aim index root n (AnswerOwn first era link))) (goes (counted (seat i).post) [] (Protect aim index root n (lost_turn first last (mem Clock))))
    (λ (t : Turn). Made mem seat i (memory.Load Clock) (run_turn why (seat i).desk t) v.deal)
    (λ h. go mem seat i v (memory.Load Clock) why [] (Protect aim index root n (AnswerOwn first era link)) (roles.Answers index (link_number (seat i).post.layout root) first era link)
    (record v { role = upd v.role i (roles.Answers index (link_number (seat i).post.layout root) first era link) }) a
    refl refl refl refl a.facts.words
    (sees_any (seat i).post.layout.config v i index (link_number (seat i).post.layout root) first era link last a.below a.facts.parts (stands_in mem seat i v (Runs why (Protect aim index root steps (CheckOwnClock first era last link))) a q) (rw a.facts.words.clocks at h)))
    (λ h. lost mem seat i v why aim index root steps n first era link last a q h)
