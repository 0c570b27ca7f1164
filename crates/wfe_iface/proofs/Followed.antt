-- A protection that is followed stays the protection of the same link.
use Rattle.std.proofs.Common.{ℕ, ◌+◌, ◌<◌, arith, ◌≡◌, Bool, true, false, [], refl}
use Rattle.std.proofs.lemmas.Bool.Decides.{nat_tests}
use Rattle.std.specs.Prelude.{min, ◌==◌, ◌||◌, if◌then◌else◌}
use Rattle.wfe_core.specs.defs.declared.event.Root.{Root}
use Rattle.wfe_core.specs.declared.post.Post.{Post}
use Rattle.wfe_core.specs.Machine.{after, protect_turn}
use Rattle.wfe_core.specs.Memory.{bump}
use Rattle.wfe_core.specs.Phases.{Aim, Alone, ProtectAt, Base, Outcome, Goes, Ends, Turn, goes}
use Rattle.wfe_core.specs.Phases.Base.{Begin, Protect, Reload, Clear, Finish, Release, Allocate, Write, GiveUp, Retire, Move}
use Rattle.wfe_core.specs.Phases.ProtectAt.{LoadClock, PublishEra, LoadLink, CheckClock, PublishRequest, LoadOwnClock, PublishHelper, LoadOwnLink, CheckOwnClock, AnswerOwn, LoadAnswer, TakeAnswer, WithdrawRequest, WithdrawHelper, LoadWithin, CheckUpper, RaiseUpper, ByHazard}
use Rattle.wfe_core.specs.Phases.HazardAt.{FirstLink, PublishLink, CheckLink}
use Rattle.wfe_core.specs.Posts.{upper}
use Rattle.wfe_core.specs.Protect.{concluded, held_post, told_held}
use Rattle.wfe_core.specs.SlowPath.{own_request}
use Rattle.wfe_iface.specs.Follows.{alone}

-- a protection that goes on is of the same link, and has made one step more
abbrev pub Kept : ℕ → Root → ℕ → Outcome → Type 0
Kept index root n (Goes base) = base ≡ alone index root n base
Kept index root n (Ends ending) = Unit {0}

kept_if : (b : Bool) (index : ℕ) (root : Root) (n : ℕ) (u v : Turn) → Kept index root n u.outcome → Kept index root n v.outcome → Kept index root n (if b then u else v).outcome
kept_if true index root n u v h k = h
kept_if false index root n u v h k = k

kept_turn : (index : ℕ) (root : Root) (n : ℕ) (at : ProtectAt) (post : Post) (found : ℕ) → Kept index root n (protect_turn Alone index root n at post found).outcome
kept_turn index root n (LoadClock tries) post found = refl
kept_turn index root n (PublishEra era tries) post found = refl
kept_turn index root n (LoadLink era tries) post found = refl
kept_turn index root n (CheckClock era tries link) post found = kept_if (found == era) index root n _ _ tt refl
kept_turn index root n PublishRequest post found = refl
kept_turn index root n LoadOwnClock post found = refl
kept_turn index root n (PublishHelper first era last) post found = refl
kept_turn index root n (LoadOwnLink first era last) post found = refl
kept_turn index root n (CheckOwnClock first era last link) post found = kept_if (found == era) index root n _ _ refl refl
kept_turn index root n (AnswerOwn first era link) post found = kept_if (found == own_request post index root) index root n _ _ refl refl
kept_turn index root n (LoadAnswer first) post found = refl
kept_turn index root n (TakeAnswer link era) post found = refl
kept_turn index root n (WithdrawRequest link era) post found = refl
kept_turn index root n (WithdrawHelper link era) post found = tt
kept_turn index root n LoadWithin post found = refl
kept_turn index root n (CheckUpper link) post found =
    kept_if (found == upper post.span) index root n (concluded Alone index root n link found (held_post post index root link) (told_held index root link n)) (goes post [] (Protect Alone index root n (RaiseUpper found))) tt refl
kept_turn index root n (RaiseUpper era) post found = refl
kept_turn index root n (ByHazard FirstLink) post found =
    kept_if (found == 0) index root n (concluded Alone index root n found 0 (held_post post index root found) (told_held index root found n)) (goes post [] (Protect Alone index root n (ByHazard (PublishLink found)))) tt refl
kept_turn index root n (ByHazard (PublishLink link)) post found = refl
kept_turn index root n (ByHazard (CheckLink link)) post found =
    kept_if (found == link || found == 0) index root n (concluded Alone index root n found 0 (held_post post index root found) (told_held index root found n)) (goes post [] (Protect Alone index root n (ByHazard (PublishLink found)))) tt refl

kept_by : (aim : Aim) (i index : ℕ) (r root : Root) (s steps : ℕ) (at : ProtectAt) (post : Post) (found : ℕ) → aim ≡ Alone → i ≡ index → r ≡ root → s ≡ steps → Kept index root (bump steps) (protect_turn aim i r (bump s) at post found).outcome
kept_by aim i index r root s steps at post found a b c d = rw (a, b, c, d) (kept_turn index root (bump steps) at post found)

kept_after : (index : ℕ) (root : Root) (steps : ℕ) (base : Base) (post : Post) (found : ℕ) → base ≡ alone index root steps base → Kept index root (bump steps) (after base post found).outcome
kept_after index root steps (Protect aim i r s at) post found e = kept_by aim i index r root s steps at post found (cc) (cc) (cc) (cc)
kept_after index root steps (Begin at) post found e = absurd (cc)
kept_after index root steps (Reload parent i slot era s) post found e = absurd (cc)
kept_after index root steps (Clear rows i) post found e = absurd (cc)
kept_after index root steps Finish post found e = absurd (cc)
kept_after index root steps (Release i) post found e = absurd (cc)
kept_after index root steps (Allocate at) post found e = absurd (cc)
kept_after index root steps (Write slot row place) post found e = absurd (cc)
kept_after index root steps (GiveUp slot) post found e = absurd (cc)
kept_after index root steps (Retire at) post found e = absurd (cc)
kept_after index root steps (Move at) post found e = absurd (cc)

kept_goes : (index : ℕ) (root : Root) (n : ℕ) (outcome : Outcome) (next : Base) → outcome ≡ Goes next → Kept index root n outcome → next ≡ alone index root n next
kept_goes index root n (Goes base) next e h =
    let same : base ≡ next = cc in
    rw (← same) h
kept_goes index root n (Ends ending) next e h = absurd (cc)

pub goes_alone : (index : ℕ) (root : Root) (steps : ℕ) (base next : Base) (post : Post) (found : ℕ) → base ≡ alone index root steps base → (after base post found).outcome ≡ Goes next → next ≡ alone index root (bump steps) next
goes_alone index root steps base next post found e h =
    kept_goes index root (bump steps) (after base post found).outcome next h (kept_after index root steps base post found e)

-- a count that was raised where it can be
pub bumped : (more steps : ℕ) → steps < 18446744073709551616 → more ≡ min (steps + 1) 18446744073709551615 → more ≡ bump steps
bumped more steps h e = grind (arith, nat_tests)
