-- A protection ends with a link that was tracked, and so is the answer that a seat finds in its request.
use Rattle.std.proofs.Common.{ℕ, ◌≡◌, ◌+◌, ◌-◌, Bool, true, false, List, arith, refl, sym, subst, ◌∙◌, ap}
use Rattle.std.proofs.lemmas.Bool.Decides.{nat_tests}
use Rattle.std.specs.Prelude.{◌==◌, ◌&&◌, ◌||◌, if◌then◌else◌, is_none, [], Option, Some}
use Rattle.inv_rows.specs.words.Place.Place.{Clock}
use Rattle.inv_rows.specs.defs.declared.event.Event.{Event}
use Rattle.inv_rows.specs.defs.declared.event.Root.{Root}
use Rattle.inv_rows.specs.model.declared.ends.FollowEnd.TheVariants as follow_ends
use Rattle.inv_rows.specs.model.declared.ends.ProtectEnd.TheVariants as protect_ends
use Rattle.inv_rows.specs.model.declared.post.Post.{Post}
use Rattle.inv_rows.specs.model.Machine.{protect_turn, after}
use Rattle.inv_rows.specs.model.Memory.{bump}
use Rattle.inv_rows.specs.model.Posts.{counted, upper, reserves_helper}
use Rattle.inv_rows.specs.model.Protect.{held_post, told_held, concluded, protected, failed_once}
use Rattle.inv_rows.specs.model.SlowPath.{own_request}
use Rattle.inv_rows.specs.model.Phases.{Aim, Alone, Follows, HazardAt, ProtectAt, Base, Outcome, Ends, Ending, goes, ends}
use Rattle.inv_rows.specs.model.Phases.Ending.{Followed, Protected}
use Rattle.inv_rows.specs.model.Phases.ProtectAt.{PublishEra, CheckClock, CheckOwnClock, AnswerOwn, WithdrawHelper, CheckUpper, RaiseUpper, ByHazard}
use Rattle.inv_rows.specs.model.Phases.HazardAt.{FirstLink, PublishLink, CheckLink}
use Rattle.inv_rows.specs.model.Phases.Base.{Protect, Move}
use Rattle.inv_rows.specs.model.Calls.{Why, Phase, Runs}
use Rattle.inv_rows.specs.model.World.{World, finds}
use Rattle.inv_rows.specs.Covering.Requests.Views.{View}
use Rattle.inv_ends.specs.Tracked.{carries_at, carries_in, root_for, root_in, Tracked, Carried, Given}
use Rattle.inv_ends.specs.Origins.{link_of, ends_at, ends_base, EndsWith, Ended, HadBefore, LoadedNow, Origins, EndComes, EndGood, EndRoot, AnswerTracked}
use Rattle.inv_rows.specs.Shapes.Seats.{Seats, root_by}
use Rattle.inv_ends.proofs.Origins.Came.{aimed_at}
use Rattle.inv_ends.proofs.Origins.Heard.{answer_heard}
use Rattle.inv_ends.proofs.Origins.Plain.{out_plain, plain_after, out_moves, moves_on}
use Rattle.inv_rows.proofs.Covering.Held.{finds_at}
use Rattle.inv_rows.proofs.model.Facts.{both, first_of, rest_of}
use Rattle.inv_rows.specs.model.Links.{link_place}

-- the link with which a protection ends
alone_link : (link era : ℕ) (ending : Ending) (x : ℕ) (null : Bool) → (link == 0) ≡ null → ◌≡◌ {A = Outcome} (Ends (Protected (if null then protect_ends.Null else protect_ends.Held (link - 1) era))) (Ends ending) → link_of ending ≡ Some x → (link == x) ≡ true
alone_link link era ending x true e h k = let s : Protected protect_ends.Null ≡ ending = cc in let z : ◌≡◌ {A = Option ℕ} (Some 0) (Some x) = ap link_of s ∙ k in let y : 0 ≡ x = cc in subst (λ (n : ℕ). (link == n) ≡ true) y e
alone_link link era ending x false e h k = let s : Protected (protect_ends.Held (link - 1) era) ≡ ending = cc in let z : ◌≡◌ {A = Option ℕ} (Some (link - 1 + 1)) (Some x) = ap link_of s ∙ k in let y : link - 1 + 1 ≡ x = cc in grind (arith, nat_tests)

follows_link : (post : Post) (told : List Event) (next : Base) (link : ℕ) (ending : Ending) (x : ℕ) (null : Bool) → (link == 0) ≡ null → (if null then ends post told (Followed follow_ends.NoNext) else goes post told next).outcome ≡ Ends ending → link_of ending ≡ Some x → (link == x) ≡ true
follows_link post told next link ending x true e h k = let s : Followed follow_ends.NoNext ≡ ending = cc in let z : ◌≡◌ {A = Option ℕ} (Some 0) (Some x) = ap link_of s ∙ k in let y : 0 ≡ x = cc in subst (λ (n : ℕ). (link == n) ≡ true) y e
follows_link post told next link ending x false e h k = absurd (cc)

concluded_link : (aim : Aim) (index : ℕ) (root : Root) (n link era : ℕ) (post : Post) (told : List Event) (ending : Ending) (x : ℕ) → (concluded aim index root n link era post told).outcome ≡ Ends ending → link_of ending ≡ Some x → (link == x) ≡ true
concluded_link Alone index root n link era post told ending x h k = alone_link link era ending x (link == 0) refl h k
concluded_link Follows index root n link era post told ending x h k = follows_link post told _ link ending x (link == 0) refl h k

check_link : (found own : ℕ) (aim : Aim) (index : ℕ) (root : Root) (n link era : ℕ) (post next : Post) (told : List Event) (base : Base) (ending : Ending) (x : ℕ) (same : Bool) → (found == own) ≡ same
    → (if same then concluded aim index root n link era next told else goes post [] base).outcome ≡ Ends ending → link_of ending ≡ Some x → (found == own && link == x) ≡ true
check_link found own aim index root n link era post next told base ending x true e h k = both (found == own) (link == x) e (concluded_link aim index root n link era next told ending x h k)
check_link found own aim index root n link era post next told base ending x false e h k = absurd (cc)

first_link : (aim : Aim) (index : ℕ) (root : Root) (n found : ℕ) (post : Post) (ending : Ending) (x : ℕ) (null : Bool) → (found == 0) ≡ null
    → (if null then protected aim index root n found 0 post else goes post [] (Protect aim index root n (ByHazard (PublishLink found)))).outcome ≡ Ends ending → link_of ending ≡ Some x → (found == 0 && found == x) ≡ true
first_link aim index root n found post ending x true e h k = both (found == 0) (found == x) e (concluded_link aim index root n found 0 (held_post post index root found) (told_held index root found n) ending x h k)
first_link aim index root n found post ending x false e h k = absurd (cc)

again_link : (aim : Aim) (index : ℕ) (root : Root) (n link found : ℕ) (post : Post) (ending : Ending) (x : ℕ) (same : Bool) → (found == link || found == 0) ≡ same
    → (if same then protected aim index root n found 0 post else goes post [] (Protect aim index root n (ByHazard (PublishLink found)))).outcome ≡ Ends ending → link_of ending ≡ Some x → ((found == link || found == 0) && found == x) ≡ true
again_link aim index root n link found post ending x true e h k = both (found == link || found == 0) (found == x) e (concluded_link aim index root n found 0 (held_post post index root found) (told_held index root found n) ending x h k)
again_link aim index root n link found post ending x false e h k = absurd (cc)

no_end : (post : Post) (one two : Base) (ending : Ending) (same : Bool) → (if same then goes post [] one else goes post [] two).outcome ≡ Ends ending → ⊥
no_end post one two ending true h = cc
no_end post one two ending false h = cc

protect_ends_at : (aim : Aim) (index : ℕ) (root : Root) (n : ℕ) (at : ProtectAt) (post : Post) (found : ℕ) (ending : Ending) (x : ℕ) → (protect_turn aim index root n at post found).outcome ≡ Ends ending → link_of ending ≡ Some x → ends_at post at found x ≡ true
protect_ends_at aim index root n (CheckClock era tries link) post found ending x h k =
    check_link found era aim index root n link era post (held_post post index root link) (told_held index root link n) (Protect aim index root n (PublishEra found (failed_once tries))) ending x (found == era) refl h k
protect_ends_at aim index root n (CheckOwnClock first era last link) post found ending x h k = absurd (no_end post _ _ ending (found == era) h)
protect_ends_at aim index root n (AnswerOwn first era link) post found ending x h k = absurd (no_end post _ _ ending (found == own_request post index root) h)
protect_ends_at aim index root n (WithdrawHelper link era) post found ending x h k = concluded_link aim index root n link era post (reserves_helper post 0) ending x h k
protect_ends_at aim index root n (CheckUpper link) post found ending x h k =
    check_link found (upper post.span) aim index root n link found post (held_post post index root link) (told_held index root link n) (Protect aim index root n (RaiseUpper found)) ending x (found == upper post.span) refl h k
protect_ends_at aim index root n (ByHazard FirstLink) post found ending x h k = first_link aim index root n found post ending x (found == 0) refl h k
protect_ends_at aim index root n (ByHazard (CheckLink link)) post found ending x h k = again_link aim index root n link found post ending x (found == link || found == 0) refl h k
protect_ends_at aim index root n at post found ending x h k = absurd (cc)

-- other machines do not end so
not_plain : (outcome : Outcome) (ending : Ending) (x : ℕ) → out_plain outcome ≡ true → outcome ≡ Ends ending → link_of ending ≡ Some x → ⊥
not_plain outcome ending x p h k = let q : is_none (link_of ending) ≡ true = subst (λ (y : Outcome). out_plain y ≡ true) h p in let z = rw k at q in cc

not_moves : (outcome : Outcome) (ending : Ending) (x : ℕ) → out_moves outcome ≡ true → outcome ≡ Ends ending → link_of ending ≡ Some x → ⊥
not_moves outcome ending x p h k = let q : is_none (link_of ending) ≡ true = subst (λ (y : Outcome). out_moves y ≡ true) h p in let z = rw k at q in cc

pub ends_with : EndsWith
ends_with (Protect aim index root steps at) post found ending link h k = protect_ends_at aim index root (bump steps) at post found ending link h k
ends_with (Move at) post found ending link h k = absurd (not_moves (after (Move at) post found).outcome ending link (moves_on at post found) h k)
ends_with base post found ending link h k = absurd (not_plain (after base post found).outcome ending link (plain_after base post found refl) h k)

-- so it carries the link: what it finds is the clock, or nothing is asked of it
pub found_clock : (w : World) (i : ℕ) (why : Why) (aim : Aim) (index : ℕ) (root : Root) (steps : ℕ) (at : ProtectAt) (x : ℕ) → (w.seat i).phase ≡ Runs why (Protect aim index root steps at) → carries_at (finds w i) (upper (w.seat i).post.span) at x ≡ true → carries_at (w.mem Clock) (upper (w.seat i).post.span) at x ≡ true
found_clock w i why aim index root steps (CheckClock era tries link) x q h = subst (λ (y : ℕ). (link == x && y == era) ≡ true) (finds_at w i (Runs why (Protect aim index root steps (CheckClock era tries link))) q) h
found_clock w i why aim index root steps (CheckOwnClock first era last link) x q h = subst (λ (y : ℕ). (link == x && y == era) ≡ true) (finds_at w i (Runs why (Protect aim index root steps (CheckOwnClock first era last link))) q) h
found_clock w i why aim index root steps (CheckUpper link) x q h = subst (λ (y : ℕ). (link == x && y == upper (w.seat i).post.span) ≡ true) (finds_at w i (Runs why (Protect aim index root steps (CheckUpper link))) q) h
found_clock w i why aim index root steps at x q h = h

-- where the link is not loaded in this step
abbrev pub by_try : ProtectAt → Bool
by_try (ByHazard at) = false
by_try at = true

ends_carries : (post : Post) (at : ProtectAt) (found x : ℕ) → by_try at ≡ true → ends_at post at found x ≡ true → carries_at found (upper post.span) at x ≡ true
ends_carries post (CheckClock era tries link) found x b h = both (link == x) (found == era) (rest_of (found == era) (link == x) h) (first_of (found == era) (link == x) h)
ends_carries post (WithdrawHelper link era) found x b h = h
ends_carries post (CheckUpper link) found x b h = both (link == x) (found == upper post.span) (rest_of (found == upper post.span) (link == x) h) (first_of (found == upper post.span) (link == x) h)
ends_carries post at found x b h = absurd (cc)

-- it was tracked, or is loaded now
protect_tracked : (w : World) (i : ℕ) (z : View) (why : Why) (aim : Aim) (index : ℕ) (root : Root) (steps : ℕ) (at : ProtectAt) (x : ℕ) → (w.seat i).phase ≡ Runs why (Protect aim index root steps at) → by_try at ≡ true → ends_at (counted (w.seat i).post) at (finds w i) x ≡ true → Tracked w z i x
protect_tracked w i z why aim index root steps at x q b h =
    Carried (subst (λ (f : Phase). carries_in (w.mem Clock) (upper (w.seat i).post.span) f x ≡ true) (sym q) (found_clock w i why aim index root steps at x q (ends_carries (counted (w.seat i).post) at (finds w i) x b h)))

-- what a hazard's protection ends with is what it finds, and that is its root's
root_found : (w : World) (i : ℕ) (why : Why) (aim : Aim) (index : ℕ) (root : Root) (steps : ℕ) (at : ProtectAt) (x : ℕ) → (w.seat i).phase ≡ Runs why (Protect aim index root steps at) → finds w i ≡ w.mem (link_place root) → (finds w i == x) ≡ true → w.mem (link_place (root_in w i)) ≡ x
root_found w i why aim index root steps at x q e h =
    let same : finds w i ≡ x = grind (arith, nat_tests) in
    ap (λ (p : Phase). w.mem (link_place (root_for p))) q ∙ sym e ∙ same

hazard_ends : (w : World) (i : ℕ) (why : Why) (aim : Aim) (index : ℕ) (root : Root) (steps : ℕ) (at : HazardAt) (x : ℕ) → (w.seat i).phase ≡ Runs why (Protect aim index root steps (ByHazard at)) → ends_at (counted (w.seat i).post) (ByHazard at) (finds w i) x ≡ true → w.mem (link_place (root_in w i)) ≡ x
hazard_ends w i why aim index root steps FirstLink x q h = root_found w i why aim index root steps (ByHazard FirstLink) x q (finds_at w i (Runs why (Protect aim index root steps (ByHazard FirstLink))) q) (rest_of (finds w i == 0) (finds w i == x) h)
hazard_ends w i why aim index root steps (PublishLink link) x q h = absurd (cc)
hazard_ends w i why aim index root steps (CheckLink link) x q h =
    root_found w i why aim index root steps (ByHazard (CheckLink link)) x q (finds_at w i (Runs why (Protect aim index root steps (ByHazard (CheckLink link)))) q) (rest_of (finds w i == link || finds w i == 0) (finds w i == x) h)

base_comes : (w : World) (i : ℕ) (z : View) (why : Why) (base : Base) (x : ℕ) → (w.seat i).phase ≡ Runs why base → ends_base (counted (w.seat i).post) base (finds w i) x ≡ true → Ended w i z x
base_comes w i z why (Protect aim index root steps (ByHazard at)) x q h = LoadedNow (hazard_ends w i why aim index root steps at x q h)
base_comes w i z why (Protect aim index root steps at) x q h = HadBefore (protect_tracked w i z why aim index root steps at x q refl h)
base_comes w i z why base x q h = absurd (cc)

pub end_comes : EndComes
end_comes w i z why base ending link q h k = base_comes w i z why base link q (ends_with base (counted (w.seat i).post) (finds w i) ending link h k)

ended_good : (good : ℕ → Root → ℕ → Bool) (w : World) (i : ℕ) (z : View) (link : ℕ) → Origins good w z → good i (root_in w i) (w.mem (link_place (root_in w i))) ≡ true → Ended w i z link → good i (root_in w i) link ≡ true
ended_good good w i z link o f (HadBefore t) = o.tracked i link t
ended_good good w i z link o f (LoadedNow e) = subst (λ (x : ℕ). good i (root_in w i) x ≡ true) e f

pub end_good : EndGood
end_good good w i z why base ending link o f q h k = ended_good good w i z link o f (end_comes w i z why base ending link q h k)

base_root : (w : World) (i : ℕ) (why : Why) (base : Base) (x : ℕ) → Seats w → (w.seat i).phase ≡ Runs why base → ends_base (counted (w.seat i).post) base (finds w i) x ≡ true → root_in w i ≡ root_by w.layout.config.buckets why
base_root w i why (Protect aim index root steps at) x s q h = ap root_for q ∙ (aimed_at w i why aim index root steps at s q).of
base_root w i why base x s q h = absurd (cc)

pub end_root : EndRoot
end_root w i why base ending link s q h k = base_root w i why base link s q (ends_with base (counted (w.seat i).post) (finds w i) ending link h k)

pub answer_tracked : AnswerTracked
answer_tracked w i z why aim index root steps at link era n q s r = Given (answer_heard w i z why aim index root steps at link era n q s r)
