-- The steps of a machine that follows the head's next link.
use Rattle.std.proofs.Common.{ℕ, ◌+◌, ◌-◌, ◌<◌, ◌≡◌, Bool, true, false, arith, refl, sym, subst, ◌∙◌, ◌&&◌, List, []}
use Rattle.std.proofs.lemmas.Bool.Decides.{nat_tests}
use Rattle.std.specs.Prelude.{◌==◌, ◌||◌, not, if◌then◌else◌, Option, Some, None}
use Rattle.wfe_core.specs.words.Packed.{read_request}
use Rattle.wfe_core.specs.words.declared.packed.Request.{Request}
use Rattle.wfe_core.specs.words.declared.packed.Request.TheVariants as requests
use Rattle.wfe_core.specs.words.declared.config.Config.{Config}
use Rattle.wfe_core.specs.words.declared.config.SchemeKind.{SchemeKind}
use Rattle.wfe_core.specs.words.declared.config.SchemeKind.TheVariants.{He, Hp, Ibr, Wfe}
use Rattle.wfe_core.specs.defs.declared.event.Event.{Event}
use Rattle.wfe_core.specs.defs.declared.event.Root.{Root}
use Rattle.wfe_core.specs.defs.declared.event.Root.TheVariants as roots
use Rattle.wfe_core.specs.declared.post.Post.{Post}
use Rattle.wfe_core.specs.declared.ends.FollowEnd.TheVariants as follow_ends
use Rattle.wfe_core.specs.Phases.{Aim, Alone, Follows, Tries, Endless, Failed, ProtectAt, Base, Outcome, Goes, Ends, goes, Ending as endings}
use Rattle.wfe_core.specs.Phases.ProtectAt.{LoadClock, PublishEra, LoadLink, CheckClock, PublishRequest, LoadOwnClock, PublishHelper, LoadOwnLink, CheckOwnClock, AnswerOwn, LoadAnswer, TakeAnswer, WithdrawRequest, WithdrawHelper, LoadWithin, CheckUpper, RaiseUpper, ByHazard}
use Rattle.wfe_core.specs.Phases.HazardAt.{FirstLink, PublishLink, CheckLink}
use Rattle.wfe_core.specs.Phases.Base.{Begin, Protect, Reload, Clear, Finish, Release, Allocate, Write, GiveUp, Retire, Move}
use Rattle.wfe_core.specs.Machine as machine
use Rattle.wfe_core.specs.Memory as memory
use Rattle.wfe_core.specs.Memory.{bump, place_in}
use Rattle.wfe_core.specs.Machine.{base_move}
use Rattle.wfe_core.specs.words.Place.{Place}
use Rattle.wfe_core.specs.words.Place.Place.{Head, Row}
use Rattle.wfe_core.specs.Protect as protects
use Rattle.wfe_core.specs.SlowPath as slow
use Rattle.wfe_core.specs.Posts.{upper, reserves_helper}
use Rattle.inv_rows.specs.Follow.{at_loaded, base_loaded, is_follows, is_next, LoadsBase, Loads, AnswersFit}
use Rattle.inv_rows.specs.Queue.{stands_on}
use Rattle.wfe_core.specs.Dequeue.{follow_base}
use Rattle.wfe_core.specs.Calls.{Opens, FollowsHead, Fills, ClearsNext, Clears, Finishes, GivesUp, Retires, Tidies, Advances, Releases, Phase, Idle, Runs, Scans, Works}
use Rattle.wfe_core.proofs.Facts.{same_number, false_is_true, no_truth}
use Rattle.inv_rows.proofs.Tries.{finds_base, at_reads}

-- where the machine goes on
abbrev pub OutLoads : ℕ → ℕ → Outcome → Type 0
OutLoads h next (Goes base) = LoadsBase h base next
OutLoads h next (Ends ending) = Unit {0}

-- a protection that goes on with no link loaded, or with this one
none_loaded : (h next index n : ℕ) (at : ProtectAt) → ((link : ℕ) → at_loaded at link ≡ true → next ≡ link) → LoadsBase h (Protect Follows index (roots.Next h) n at) next
none_loaded h next index n at f = record { loaded = f; right = same_number h }

concluded_loads : (h next index n link era : ℕ) (post : Post) (told : List Event) (null : Bool) → (link == 0) ≡ null → ((x : ℕ) → (link == x && not (x == 0)) ≡ true → next ≡ x) → OutLoads h next (protects.concluded Follows index (roots.Next h) n link era post told).outcome
concluded_loads h next index n link era post told true e f = rw e tt
concluded_loads h next index n link era post told false e f = rw e (record { loaded = λ x u. f x (reload_link link x e u); right = same_number h })
  where
    reload_link : (link x : ℕ) → (link == 0) ≡ false → (link - 1 + 1 == x) ≡ true → (link == x && not (x == 0)) ≡ true
    reload_link link x e u = grind (arith, nat_tests)

trying_loaded : (config : Config) (era : ℕ) (tries : Tries) (x : ℕ) → at_loaded (protects.trying config era tries) x ≡ false
trying_loaded config era Endless x = refl
trying_loaded config era (Failed count) x = grind (arith, nat_tests)

lost_loaded : (first : ℕ) (last : Bool) (found x : ℕ) → at_loaded (slow.lost_turn first last found) x ≡ false
lost_loaded first true found x = refl
lost_loaded first false found x = refl

answer_loaded : (request : Option Request) (next x : ℕ) → ((link era : ℕ) → request ≡ Some (requests.Answered link era) → 0 < link → next ≡ link) → at_loaded (slow.answer_in request) x ≡ true → next ≡ x
answer_loaded None next x f e = absurd (grind (arith, nat_tests))
answer_loaded (Some requests.Idle) next x f e = absurd (grind (arith, nat_tests))
answer_loaded (Some (requests.Pending tag index word)) next x f e = absurd (grind (arith, nat_tests))
answer_loaded (Some (requests.Answered link era)) next x f e = let some : 0 < link = grind (arith, nat_tests) in let same : link ≡ x = grind (arith, nat_tests) in f link era refl some ∙ same

-- a protection that finds its era again, or another
checked_loads : (h next index n link era found : ℕ) (tries : Tries) (post : Post) (same : Bool) → ((x : ℕ) → (link == x && not (x == 0)) ≡ true → next ≡ x) → OutLoads h next (if same then protects.protected Follows index (roots.Next h) n link era post else (goes post [] (Protect Follows index (roots.Next h) n (PublishEra found tries)))).outcome
checked_loads h next index n link era found tries post true f = concluded_loads h next index n link era (protects.held_post post index (roots.Next h) link) (protects.told_held index (roots.Next h) link n) (link == 0) refl f
checked_loads h next index n link era found tries post false f = none_loaded h next index n (PublishEra found tries) (λ x u. absurd (no_truth u))

raised_loads : (h next index n link found : ℕ) (post : Post) (same : Bool) → ((x : ℕ) → (link == x && not (x == 0)) ≡ true → next ≡ x) → OutLoads h next (if same then protects.protected Follows index (roots.Next h) n link found post else (goes post [] (Protect Follows index (roots.Next h) n (RaiseUpper found)))).outcome
raised_loads h next index n link found post true f = concluded_loads h next index n link found (protects.held_post post index (roots.Next h) link) (protects.told_held index (roots.Next h) link n) (link == 0) refl f
raised_loads h next index n link found post false f = none_loaded h next index n (RaiseUpper found) (λ x u. absurd (no_truth u))

hazard_loads : (h next index n found : ℕ) (post : Post) (same : Bool) → ((x : ℕ) → (found == x && not (x == 0)) ≡ true → next ≡ x) → OutLoads h next (if same then protects.protected Follows index (roots.Next h) n found 0 post else (goes post [] (Protect Follows index (roots.Next h) n (ByHazard (PublishLink found))))).outcome
hazard_loads h next index n found post true f = concluded_loads h next index n found 0 (protects.held_post post index (roots.Next h) found) (protects.told_held index (roots.Next h) found n) (found == 0) refl f
hazard_loads h next index n found post false f = none_loaded h next index n (ByHazard (PublishLink found)) f

own_loads : (h next index n first era link found : ℕ) (last : Bool) (post : Post) (same : Bool) → ((x : ℕ) → (link == x && not (x == 0)) ≡ true → next ≡ x) → OutLoads h next (if same then (goes post [] (Protect Follows index (roots.Next h) n (AnswerOwn first era link))) else (goes post [] (Protect Follows index (roots.Next h) n (slow.lost_turn first last found)))).outcome
own_loads h next index n first era link found last post true f = none_loaded h next index n (AnswerOwn first era link) f
own_loads h next index n first era link found last post false f = none_loaded h next index n (slow.lost_turn first last found) (λ x u. absurd (no_truth (false_is_true (at_loaded (slow.lost_turn first last found) x) (lost_loaded first last found x) u)))

answered_loads : (h next index n link era : ℕ) (request : Option Request) (post : Post) (same : Bool) → ((x : ℕ) → (link == x && not (x == 0)) ≡ true → next ≡ x) → ((l e : ℕ) → request ≡ Some (requests.Answered l e) → 0 < l → next ≡ l) → OutLoads h next (if same then (goes post [] (Protect Follows index (roots.Next h) n (TakeAnswer link era))) else (goes post [] (Protect Follows index (roots.Next h) n (slow.answer_in request)))).outcome
answered_loads h next index n link era request post true f g = none_loaded h next index n (TakeAnswer link era) f
answered_loads h next index n link era request post false f g = none_loaded h next index n (slow.answer_in request) (λ x u. answer_loaded request next x g u)

found_is : (found next x : ℕ) → found ≡ next → (found == x && not (x == 0)) ≡ true → next ≡ x
found_is found next x e u = grind (arith, nat_tests, e)

protect_loads : (h next index n : ℕ) (at : ProtectAt) (post : Post) (found : ℕ) → ((x : ℕ) → at_loaded at x ≡ true → next ≡ x) → (at_reads at ≡ true → found ≡ next) → AnswersFit at found next → OutLoads h next (machine.protect_turn Follows index (roots.Next h) n at post found).outcome
protect_loads h next index n (LoadClock tries) post found f r a = none_loaded h next index n (PublishEra found tries) (λ x u. absurd (no_truth u))
protect_loads h next index n (PublishEra era tries) post found f r a = none_loaded h next index n (protects.trying post.layout.config era tries) (λ x u. absurd (no_truth (false_is_true (at_loaded (protects.trying post.layout.config era tries) x) (trying_loaded post.layout.config era tries x) u)))
protect_loads h next index n (LoadLink era tries) post found f r a = none_loaded h next index n (CheckClock era tries found) (λ x u. found_is found next x (r refl) u)
protect_loads h next index n (CheckClock era tries link) post found f r a = checked_loads h next index n link era found (protects.failed_once tries) post (found == era) f
protect_loads h next index n PublishRequest post found f r a = none_loaded h next index n LoadOwnClock (λ x u. absurd (no_truth u))
protect_loads h next index n LoadOwnClock post found f r a = none_loaded h next index n (PublishHelper found found false) (λ x u. absurd (no_truth u))
protect_loads h next index n (PublishHelper first era last) post found f r a = none_loaded h next index n (LoadOwnLink first era last) (λ x u. absurd (no_truth u))
protect_loads h next index n (LoadOwnLink first era last) post found f r a = none_loaded h next index n (CheckOwnClock first era last found) (λ x u. found_is found next x (r refl) u)
protect_loads h next index n (CheckOwnClock first era last link) post found f r a = own_loads h next index n first era link found last post (found == era) f
protect_loads h next index n (AnswerOwn first era link) post found f r a = answered_loads h next index n link era (read_request found) post (found == slow.own_request post index (roots.Next h)) f (λ l e o s. a l e refl o s)
protect_loads h next index n (LoadAnswer first) post found f r a = none_loaded h next index n (slow.answer_in (read_request found)) (λ x u. answer_loaded (read_request found) next x (λ l e o s. a l e refl o s) u)
protect_loads h next index n (TakeAnswer link era) post found f r a = none_loaded h next index n (WithdrawRequest link era) f
protect_loads h next index n (WithdrawRequest link era) post found f r a = none_loaded h next index n (WithdrawHelper link era) f
protect_loads h next index n (WithdrawHelper link era) post found f r a = concluded_loads h next index n link era post (reserves_helper post 0) (link == 0) refl f
protect_loads h next index n LoadWithin post found f r a = none_loaded h next index n (CheckUpper found) (λ x u. found_is found next x (r refl) u)
protect_loads h next index n (CheckUpper link) post found f r a = raised_loads h next index n link found post (found == upper post.span) f
protect_loads h next index n (RaiseUpper era) post found f r a = none_loaded h next index n LoadWithin (λ x u. absurd (no_truth u))
protect_loads h next index n (ByHazard FirstLink) post found f r a = hazard_loads h next index n found post (found == 0) (λ x u. found_is found next x (r refl) u)
protect_loads h next index n (ByHazard (PublishLink link)) post found f r a = none_loaded h next index n (ByHazard (CheckLink link)) f
protect_loads h next index n (ByHazard (CheckLink link)) post found f r a = hazard_loads h next index n found post (found == link || found == 0) (λ x u. found_is found next x (r refl) u)

-- what it loads is the next link
reads_next : (mem : Place → ℕ) (h index : ℕ) (at : ProtectAt) (post : Post) → at_reads at ≡ true → memory.found (machine.protect_move index (roots.Next h) at post) (mem (place_in (machine.protect_move index (roots.Next h) at post))) ≡ mem (Row h 0)
reads_next mem h index (LoadClock tries) post u = absurd (no_truth u)
reads_next mem h index (PublishEra era tries) post u = absurd (no_truth u)
reads_next mem h index (LoadLink era tries) post u = refl
reads_next mem h index (CheckClock era tries link) post u = absurd (no_truth u)
reads_next mem h index PublishRequest post u = absurd (no_truth u)
reads_next mem h index LoadOwnClock post u = absurd (no_truth u)
reads_next mem h index (PublishHelper first era last) post u = absurd (no_truth u)
reads_next mem h index (LoadOwnLink first era last) post u = refl
reads_next mem h index (CheckOwnClock first era last link) post u = absurd (no_truth u)
reads_next mem h index (AnswerOwn first era link) post u = absurd (no_truth u)
reads_next mem h index (LoadAnswer first) post u = absurd (no_truth u)
reads_next mem h index (TakeAnswer link era) post u = absurd (no_truth u)
reads_next mem h index (WithdrawRequest link era) post u = absurd (no_truth u)
reads_next mem h index (WithdrawHelper link era) post u = absurd (no_truth u)
reads_next mem h index LoadWithin post u = refl
reads_next mem h index (CheckUpper link) post u = absurd (no_truth u)
reads_next mem h index (RaiseUpper era) post u = absurd (no_truth u)
reads_next mem h index (ByHazard FirstLink) post u = refl
reads_next mem h index (ByHazard (PublishLink link)) post u = absurd (no_truth u)
reads_next mem h index (ByHazard (CheckLink link)) post u = refl

reload_ends : (h next parent index slot n : ℕ) (post : Post) (found : ℕ) (same : Bool) → (found == parent + 1) ≡ same → OutLoads h next (machine.after (Reload parent index slot 0 n) post found).outcome
reload_ends h next parent index slot n post found true e = rw e tt
reload_ends h next parent index slot n post found false e = rw e tt

by_root : (mem : Place → ℕ) (h index n : ℕ) (root : Root) (at : ProtectAt) (post other : Post) → is_next root h ≡ true → ((x : ℕ) → at_loaded at x ≡ true → mem (Row h 0) ≡ x) → AnswersFit at (memory.found (machine.protect_move index root at post) (mem (place_in (machine.protect_move index root at post)))) (mem (Row h 0)) → OutLoads h (mem (Row h 0)) (machine.protect_turn Follows index root n at other (memory.found (machine.protect_move index root at post) (mem (place_in (machine.protect_move index root at post))))).outcome
by_root mem h index n (roots.Bucket bucket) at post other u f a = absurd (no_truth u)
by_root mem h index n roots.Head at post other u f a = absurd (no_truth u)
by_root mem h index n roots.Tail at post other u f a = absurd (no_truth u)
by_root mem h index n (roots.Next parent) at post other u f a =
    let same : h ≡ parent = grind (arith, nat_tests) in
    let P : ℕ → Type 0 = λ x. (((y : ℕ) → at_loaded at y ≡ true → mem (Row x 0) ≡ y) → AnswersFit at (memory.found (machine.protect_move index (roots.Next parent) at post) (mem (place_in (machine.protect_move index (roots.Next parent) at post)))) (mem (Row x 0)) → OutLoads x (mem (Row x 0)) (machine.protect_turn Follows index (roots.Next parent) n at other (memory.found (machine.protect_move index (roots.Next parent) at post) (mem (place_in (machine.protect_move index (roots.Next parent) at post))))).outcome) in
    let at_parent : P parent = λ k b. protect_loads parent (mem (Row parent 0)) index n at other (memory.found (machine.protect_move index (roots.Next parent) at post) (mem (place_in (machine.protect_move index (roots.Next parent) at post)))) k (λ z. reads_next mem parent index at post z) b in
    let here : P h = subst P (sym same) at_parent in here f a

by_aim : (mem : Place → ℕ) (h index n : ℕ) (aim : Aim) (root : Root) (at : ProtectAt) (post other : Post) → (is_follows aim && is_next root h) ≡ true → ((x : ℕ) → at_loaded at x ≡ true → mem (Row h 0) ≡ x) → AnswersFit at (memory.found (machine.protect_move index root at post) (mem (place_in (machine.protect_move index root at post)))) (mem (Row h 0)) → OutLoads h (mem (Row h 0)) (machine.protect_turn aim index root n at other (memory.found (machine.protect_move index root at post) (mem (place_in (machine.protect_move index root at post))))).outcome
by_aim mem h index n Alone root at post other u f a = absurd (no_truth u)
by_aim mem h index n Follows root at post other u f a = by_root mem h index n root at post other u f a

-- what the seat's request answers, where it follows
abbrev pub BaseAnswers : Base → ℕ → ℕ → Type 0
BaseAnswers base found next = (aim : Aim) (index : ℕ) (root : Root) (steps : ℕ) (at : ProtectAt) → base ≡ Protect aim index root steps at → AnswersFit at found next

-- a step of the machine that follows
pub base_loads : (mem : Place → ℕ) (h : ℕ) (base : Base) (post other : Post) → BaseAnswers base (finds_base mem base post) (mem (Row h 0)) → LoadsBase h base (mem (Row h 0)) → OutLoads h (mem (Row h 0)) (machine.after base other (finds_base mem base post)).outcome
base_loads mem h (Protect aim index root steps at) post other a l = by_aim mem h index (bump steps) aim root at post other l.right l.loaded (a aim index root steps at refl)
base_loads mem h (Reload parent index slot era steps) post other a l = reload_ends h (mem (Row h 0)) parent index slot steps other (mem Head) (mem Head == parent + 1) refl
base_loads mem h (Begin at) post other a l = absurd (no_truth l.right)
base_loads mem h (Clear rows index) post other a l = absurd (no_truth l.right)
base_loads mem h Finish post other a l = absurd (no_truth l.right)
base_loads mem h (Release index) post other a l = absurd (no_truth l.right)
base_loads mem h (Allocate at) post other a l = absurd (no_truth l.right)
base_loads mem h (Write slot row place) post other a l = absurd (no_truth l.right)
base_loads mem h (GiveUp slot) post other a l = absurd (no_truth l.right)
base_loads mem h (Retire at) post other a l = absurd (no_truth l.right)
base_loads mem h (Move at) post other a l = absurd (no_truth l.right)

-- only the last load ends as followed
abbrev is_followed : Outcome → Bool
is_followed (Goes base) = false
is_followed (Ends endings.Done) = false
is_followed (Ends (endings.Protected end)) = false
is_followed (Ends (endings.Followed (follow_ends.Followed slot))) = true
is_followed (Ends (endings.Followed follow_ends.NoNext)) = false
is_followed (Ends (endings.Followed (follow_ends.RootMoved seen))) = false
is_followed (Ends (endings.Allocated end)) = false
is_followed (Ends (endings.Retired life)) = false
is_followed (Ends (endings.Clocked clock)) = false

concluded_not : (aim : Aim) (index : ℕ) (root : Root) (n link era : ℕ) (post : Post) (told : List Event) → is_followed (protects.concluded aim index root n link era post told).outcome ≡ false
concluded_not Alone index root n link era post told = refl
concluded_not Follows index root n link era post told = grind arith

protected_not : (aim : Aim) (index : ℕ) (root : Root) (n link era : ℕ) (post : Post) → is_followed (protects.protected aim index root n link era post).outcome ≡ false
protected_not aim index root n link era post = concluded_not aim index root n link era (protects.held_post post index root link) (protects.told_held index root link n)

protect_not : (aim : Aim) (index : ℕ) (root : Root) (n : ℕ) (at : ProtectAt) (post : Post) (found : ℕ) → is_followed (machine.protect_turn aim index root n at post found).outcome ≡ false
protect_not aim index root n (LoadClock tries) post found = refl
protect_not aim index root n (PublishEra era tries) post found = refl
protect_not aim index root n (LoadLink era tries) post found = refl
protect_not aim index root n (CheckClock era tries link) post found = grind (arith, protected_not aim index root n link era post)
protect_not aim index root n PublishRequest post found = refl
protect_not aim index root n LoadOwnClock post found = refl
protect_not aim index root n (PublishHelper first era last) post found = refl
protect_not aim index root n (LoadOwnLink first era last) post found = refl
protect_not aim index root n (CheckOwnClock first era last link) post found = grind arith
protect_not aim index root n (AnswerOwn first era link) post found = grind arith
protect_not aim index root n (LoadAnswer first) post found = refl
protect_not aim index root n (TakeAnswer link era) post found = refl
protect_not aim index root n (WithdrawRequest link era) post found = refl
protect_not aim index root n (WithdrawHelper link era) post found = concluded_not aim index root n link era post (reserves_helper post 0)
protect_not aim index root n LoadWithin post found = refl
protect_not aim index root n (CheckUpper link) post found = grind (arith, protected_not aim index root n link found post)
protect_not aim index root n (RaiseUpper era) post found = refl
protect_not aim index root n (ByHazard FirstLink) post found = grind (arith, protected_not aim index root n found 0 post)
protect_not aim index root n (ByHazard (PublishLink link)) post found = refl
protect_not aim index root n (ByHazard (CheckLink link)) post found = grind (arith, protected_not aim index root n found 0 post)

followed_is : (outcome : Outcome) (slot : ℕ) → outcome ≡ Ends (endings.Followed (follow_ends.Followed slot)) → is_followed outcome ≡ true
followed_is outcome slot e = rw e refl

reload_slot : (parent index slot n other next : ℕ) (post : Post) (found : ℕ) (same : Bool) → (found == parent + 1) ≡ same → next ≡ slot + 1 → (machine.after (Reload parent index slot 0 n) post found).outcome ≡ Ends (endings.Followed (follow_ends.Followed other)) → next ≡ other + 1
reload_slot parent index slot n other next post found true e h k =
    let f : Ends (endings.Followed (follow_ends.Followed slot)) ≡ Ends (endings.Followed (follow_ends.Followed other)) = rw e at k in
    let same : slot ≡ other = cc in omega (arith, same, h)
reload_slot parent index slot n other next post found false e h k =
    let f : Ends (endings.Followed (follow_ends.RootMoved found)) ≡ Ends (endings.Followed (follow_ends.Followed other)) = rw e at k in absurd (cc)

pub base_follows : (mem : Place → ℕ) (h : ℕ) (base : Base) (other : Post) (found slot : ℕ) → LoadsBase h base (mem (Row h 0)) → (machine.after base other found).outcome ≡ Ends (endings.Followed (follow_ends.Followed slot)) → mem (Row h 0) ≡ slot + 1
base_follows mem h (Protect aim index root steps at) other found slot l e =
    absurd (no_truth (sym (protect_not aim index root (bump steps) at other found) ∙ followed_is (machine.protect_turn aim index root (bump steps) at other found).outcome slot e))
base_follows mem h (Reload parent index row era steps) other found slot l e = reload_slot parent index row steps slot (mem (Row h 0)) other found (found == parent + 1) refl (l.loaded (row + 1) (same_number (row + 1))) e
base_follows mem h (Begin at) other found slot l e = absurd (no_truth l.right)
base_follows mem h (Clear rows index) other found slot l e = absurd (no_truth l.right)
base_follows mem h Finish other found slot l e = absurd (no_truth l.right)
base_follows mem h (Release index) other found slot l e = absurd (no_truth l.right)
base_follows mem h (Allocate at) other found slot l e = absurd (no_truth l.right)
base_follows mem h (Write line row place) other found slot l e = absurd (no_truth l.right)
base_follows mem h (GiveUp line) other found slot l e = absurd (no_truth l.right)
base_follows mem h (Retire at) other found slot l e = absurd (no_truth l.right)
base_follows mem h (Move at) other found slot l e = absurd (no_truth l.right)

-- a link that is loaded is not null
loaded_at : (at : ProtectAt) (x : ℕ) → at_loaded at x ≡ true → (x == 0) ≡ false
loaded_at (LoadClock tries) x e = absurd (no_truth e)
loaded_at (PublishEra era tries) x e = absurd (no_truth e)
loaded_at (LoadLink era tries) x e = absurd (no_truth e)
loaded_at (CheckClock era tries link) x e = grind (arith, nat_tests)
loaded_at PublishRequest x e = absurd (no_truth e)
loaded_at LoadOwnClock x e = absurd (no_truth e)
loaded_at (PublishHelper first era last) x e = absurd (no_truth e)
loaded_at (LoadOwnLink first era last) x e = absurd (no_truth e)
loaded_at (CheckOwnClock first era last link) x e = grind (arith, nat_tests)
loaded_at (AnswerOwn first era link) x e = grind (arith, nat_tests)
loaded_at (LoadAnswer first) x e = absurd (no_truth e)
loaded_at (TakeAnswer link era) x e = grind (arith, nat_tests)
loaded_at (WithdrawRequest link era) x e = grind (arith, nat_tests)
loaded_at (WithdrawHelper link era) x e = grind (arith, nat_tests)
loaded_at LoadWithin x e = absurd (no_truth e)
loaded_at (CheckUpper link) x e = grind (arith, nat_tests)
loaded_at (RaiseUpper era) x e = absurd (no_truth e)
loaded_at (ByHazard FirstLink) x e = absurd (no_truth e)
loaded_at (ByHazard (PublishLink link)) x e = grind (arith, nat_tests)
loaded_at (ByHazard (CheckLink link)) x e = grind (arith, nat_tests)

loaded_some : (base : Base) (x : ℕ) → base_loaded base x ≡ true → (x == 0) ≡ false
loaded_some (Protect aim index root steps at) x e = loaded_at at x e
loaded_some (Reload parent index slot era steps) x e = grind (arith, nat_tests)
loaded_some (Begin at) x e = absurd (no_truth e)
loaded_some (Clear rows index) x e = absurd (no_truth e)
loaded_some Finish x e = absurd (no_truth e)
loaded_some (Release index) x e = absurd (no_truth e)
loaded_some (Allocate at) x e = absurd (no_truth e)
loaded_some (Write slot row place) x e = absurd (no_truth e)
loaded_some (GiveUp slot) x e = absurd (no_truth e)
loaded_some (Retire at) x e = absurd (no_truth e)
loaded_some (Move at) x e = absurd (no_truth e)

loaded_still : (next n2 x : ℕ) → next ≡ x → (x == 0) ≡ false → ((next == 0) ≡ false → n2 ≡ next) → n2 ≡ x
loaded_still next n2 x e o f = let some : (next == 0) ≡ false = grind (arith, nat_tests) in f some ∙ e

-- a link that is loaded stays while next links that are not null do
pub loads_stay : (phase : Phase) (next n2 : ℕ → ℕ) → ((h : ℕ) → stands_on phase h ≡ true → (next h == 0) ≡ false → n2 h ≡ next h) → Loads phase next → Loads phase n2
loads_stay Idle next n2 f l = tt
loads_stay (Scans later at) next n2 f l = tt
loads_stay (Works work) next n2 f l = tt
loads_stay (Runs (FollowsHead head tail) base) next n2 f l =
    record { loaded = λ x u. loaded_still (next head) (n2 head) x (l.loaded x u) (loaded_some base x u) (λ o. f head (same_number head) o); right = l.right }
loads_stay (Runs (Opens task) base) next n2 f l = tt
loads_stay (Runs (Fills task) base) next n2 f l = tt
loads_stay (Runs (ClearsNext after) base) next n2 f l = tt
loads_stay (Runs (Clears task after) base) next n2 f l = tt
loads_stay (Runs (Finishes task after) base) next n2 f l = tt
loads_stay (Runs (GivesUp answer) base) next n2 f l = tt
loads_stay (Runs (Retires answer) base) next n2 f l = tt
loads_stay (Runs (Tidies later) base) next n2 f l = tt
loads_stay (Runs Advances base) next n2 f l = tt
loads_stay (Runs (Releases let_go) base) next n2 f l = tt

-- the protection begins with no link loaded
pub follow_begins : (scheme : SchemeKind) (h next : ℕ) → LoadsBase h (follow_base scheme h) next
follow_begins He h next = none_loaded h next 1 0 (LoadClock Endless) (λ x u. absurd (no_truth u))
follow_begins Hp h next = none_loaded h next 1 0 (ByHazard FirstLink) (λ x u. absurd (no_truth u))
follow_begins Ibr h next = none_loaded h next 1 0 LoadWithin (λ x u. absurd (no_truth u))
follow_begins Wfe h next = none_loaded h next 1 0 (LoadClock (Failed 0)) (λ x u. absurd (no_truth u))
