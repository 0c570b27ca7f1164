-- Each step of a machine keeps how often a protection under way has published.
use Rattle.law_scans.proofs.Turns.Withdrawals.Leaving.{tries_none}
use Rattle.std.proofs.Common.{ℕ, ◌≡◌, ◌≤◌, ◌+◌, Bool, true, false, List, refl, sym, ◌∙◌, subst, arith, Option, Some, None}
use Rattle.std.proofs.lemmas.Bool.Decides.{nat_tests}
use Rattle.std.specs.Prelude.{◌==◌, ◌&&◌, ◌||◌, not, nat_le, if◌then◌else◌}
use Rattle.law_reuse.specs.laws.words.Packed.{read_request}
use Rattle.law_reuse.specs.laws.words.declared.packed.Request.{Request}
use Rattle.law_reuse.specs.laws.words.declared.packed.Request.TheVariants as requests
use Rattle.law_reuse.specs.laws.words.declared.config.Config.{Config}
use Rattle.law_reuse.specs.laws.defs.declared.event.Event.{Event}
use Rattle.law_reuse.specs.laws.defs.declared.event.Event.TheVariants as events
use Rattle.law_reuse.specs.laws.defs.declared.event.Guard.TheVariants.{Index}
use Rattle.law_reuse.specs.laws.defs.declared.event.Root.{Root}
use Rattle.law_reuse.specs.inv.model.declared.post.Post.{Post}
use Rattle.law_reuse.specs.inv.model.Guards.{one_era}
use Rattle.law_reuse.specs.inv.model.Machine as machine
use Rattle.law_reuse.specs.inv.model.Posts.{reserves_helper}
use Rattle.law_reuse.specs.inv.model.Protect as protects
use Rattle.law_reuse.specs.inv.model.Rounds.{scheme_of}
use Rattle.law_reuse.specs.inv.model.SlowPath as slow
use Rattle.law_reuse.specs.inv.model.Phases.{Aim, Alone, Follows, Tries, Endless, Failed, ProtectAt, Base}
use Rattle.law_reuse.specs.inv.model.Phases.ProtectAt.{LoadClock, PublishEra, LoadLink, CheckClock, PublishRequest, LoadOwnClock, PublishHelper, LoadOwnLink, CheckOwnClock, AnswerOwn, LoadAnswer, TakeAnswer, WithdrawRequest, WithdrawHelper, ByHazard}
use Rattle.law_reuse.specs.inv.model.Phases.Base.{Protect}
use Rattle.law_reuse.proofs.laws.records.defs.Facts.{both, false_not_true, zero_of_test, zero_test}
use Rattle.law_reuse.specs.laws.words.Schemes.{is_ibr, publishes_rows}
use Rattle.law_reuse.specs.inv.shapes.Seats.{protect_fits}
use Rattle.law_scans.proofs.Turns.Counting.Told.{index_more}
use Rattle.law_reuse.specs.laws.StateAt.{tried_by}
use Rattle.law_scans.proofs.Turns.Withdrawals.Withdrawing.{tells_link}
use Rattle.law_scans.proofs.Turns.TurnCounts.Trying.{tried_along, last_along, so_many, at_tried, at_last, base_tried, Made, made_if, on, own_of, other_of, told_last, told_other, told_own, conclude}

-- the era that a try publishes is one
abbrev pub TriedEra : Base → Type 0
TriedEra (Protect aim index root steps (PublishEra era tries)) = 1 ≤ era
TriedEra base = Unit {0}

-- what is known of a protection that makes a step
pub record Site (c : Config) (i j x last : ℕ) (aim : Aim) (index : ℕ) (root : Root) (at : ProtectAt) (post : Post) : Type 0 where
  pub seat : post.seat ≡ i
  pub config : post.layout.config ≡ c
  pub plain : is_ibr (scheme_of post) ≡ false
  pub eras : publishes_rows (scheme_of post) ≡ false
  pub fits : protect_fits (scheme_of post) post.layout.config.tries at ≡ true
  pub alone : aim ≡ Alone → (link : ℕ) → tells_link root link ≡ true
  pub follows : aim ≡ Follows → index ≡ 1
  pub right : at_last index root at last ≡ true
  pub times : (if index == j then at_tried c root at x else x == 0) ≡ true

-- it goes on and tells nothing
onward : (c : Config) (i j x last : ℕ) (aim : Aim) (index : ℕ) (root : Root) (n : ℕ) (at next : ProtectAt) (post : Post) → Site c i j x last aim index root at post → (at_last index root at last ≡ true → at_last index root next last ≡ true) → (at_tried c root at x ≡ true → at_tried c root next x ≡ true) → base_tried c (Protect aim index root n next) j x last ≡ true
onward c i j x last aim index root n at next post s f g =
    both (at_last index root next last) (if index == j then at_tried c root next x else x == 0) (f s.right)
    (on (index == j) (at_tried c root at x) (at_tried c root next x) x x (λ e h. g h) (λ e z. z) s.times)

first_published : (x : ℕ) (tries : Tries) → (x == 0 && tries_none tries) ≡ true → so_many tries 0 x ≡ true
first_published x Endless h = refl
first_published x (Failed count) h = grind (arith, nat_tests)

-- an era is published
trying_right : (c : Config) (root : Root) (era x : ℕ) (tries : Tries) → so_many tries 0 x ≡ true → at_tried c root (protects.trying c era tries) (x + 1) ≡ true
trying_right c root era x Endless h = refl
trying_right c root era x (Failed count) h = by (nat_le c.tries count) refl
  where
    by : (b : Bool) → nat_le c.tries count ≡ b → at_tried c root (if b then PublishRequest else LoadLink era (Failed count)) (x + 1) ≡ true
    by true e = grind (arith, nat_tests)
    by false e = grind (arith, nat_tests)

trying_last : (c : Config) (index : ℕ) (root : Root) (era last : ℕ) (tries : Tries) → at_last index root (protects.trying c era tries) last ≡ true
trying_last c index root era last Endless = refl
trying_last c index root era last (Failed count) = by (nat_le c.tries count)
  where
    by : (b : Bool) → at_last index root (if b then PublishRequest else LoadLink era (Failed count)) last ≡ true
    by true = refl
    by false = refl

publish_made : (moved : Bool) (c : Config) (i j x last : ℕ) (aim : Aim) (index : ℕ) (root : Root) (n era : ℕ) (tries : Tries) (post : Post) (found : ℕ) → 1 ≤ era → Site c i j x last aim index root (PublishEra era tries) post → Made moved c i j x last (machine.protect_turn aim index root n (PublishEra era tries) post found)
publish_made moved c i j x last aim index root n era tries post found e s =
    let next : ProtectAt = protects.trying post.layout.config era tries in
    let y : tried_by i j (events.Reserve (Index post.seat index) (one_era era)) x ≡ (if index == j then x + 1 else x) = index_more i j post.seat index era x s.seat e in
    let r : at_tried c root (protects.trying c era tries) (x + 1) ≡ true → at_tried c root next (x + 1) ≡ true = λ h. subst (λ (d : Config). at_tried c root (protects.trying d era tries) (x + 1) ≡ true) (sym s.config) h in
    let l : at_last index root next last ≡ true = trying_last post.layout.config index root era last tries in
    both (at_last index root next last) (if index == j then at_tried c root next (tried_by i j (events.Reserve (Index post.seat index) (one_era era)) x) else tried_by i j (events.Reserve (Index post.seat index) (one_era era)) x == 0) l
    (rw y (by (index == j) s.times))
  where
    by : (own : Bool) → (if own then so_many tries 0 x else x == 0) ≡ true → (if own then at_tried c root (protects.trying post.layout.config era tries) (if own then x + 1 else x) else (if own then x + 1 else x) == 0) ≡ true
    by true h = subst (λ (d : Config). at_tried c root (protects.trying d era tries) (x + 1) ≡ true) (sym s.config) (trying_right c root era x tries h)
    by false h = h

failed_right : (x : ℕ) (tries : Tries) → so_many tries 1 x ≡ true → so_many (protects.failed_once tries) 0 x ≡ true
failed_right x Endless h = refl
failed_right x (Failed count) h = grind (arith, nat_tests)

check_made : (moved : Bool) (c : Config) (i j x last : ℕ) (aim : Aim) (index : ℕ) (root : Root) (n era : ℕ) (tries : Tries) (link : ℕ) (post : Post) (found : ℕ) → Site c i j x last aim index root (CheckClock era tries link) post → Made moved c i j x last (machine.protect_turn aim index root n (CheckClock era tries link) post found)
check_made moved c i j x last aim index root n era tries link post found s =
    let told : List Event = protects.told_held index root link n in
    made_if moved c i j x last (found == era) _ _
    (λ e. conclude moved c i j x last aim index root n link era (protects.held_post post index root link) told
    (record {
      alone = λ a. s.alone a link;
      follows = s.follows;
      told = λ t. by_own (index == j) refl t;
      other = λ o. told_other i j index root link n x o (zero_of_test x (other_of (index == j) (so_many tries 1 x) (x == 0) o s.times));
    }))
    (λ e. onward c i j x last aim index root n (CheckClock era tries link) (PublishEra found (protects.failed_once tries)) post s (λ h. refl) (failed_right x tries))
  where
    by_own : (own : Bool) → (index == j) ≡ own → tells_link root link ≡ true → tried_along i j (protects.told_held index root link n) x ≡ 0
    by_own true o t = told_own i j index root link n x o t
    by_own false o t = told_other i j index root link n x o (zero_of_test x (other_of (index == j) (so_many tries 1 x) (x == 0) o s.times))

-- an answer is taken
take_tells : (c : Config) (i j x last : ℕ) (index : ℕ) (root : Root) (n link era : ℕ) (seat : ℕ) (tells : Bool) → tells_link root link ≡ tells → (if index == j then nat_le (c.tries + 1) x else x == 0) ≡ true
    → ((index == j) ≡ false → tried_by i j (events.Reserve (Index seat index) (one_era era)) x ≡ x)
    → ((not tells || last_along (protects.told_held index root link n) last == index) && (if index == j then (not tells || tried_along i j (protects.told_held index root link n) (tried_by i j (events.Reserve (Index seat index) (one_era era)) x) == 0) else tried_along i j (protects.told_held index root link n) (tried_by i j (events.Reserve (Index seat index) (one_era era)) x) == 0)) ≡ true
take_tells c i j x last index root n link era seat true t h k =
    let z : ℕ = tried_by i j (events.Reserve (Index seat index) (one_era era)) x in
    let l : (last_along (protects.told_held index root link n) last == index) ≡ true = rw (told_last index root link n last t) (same index) in
    both (last_along (protects.told_held index root link n) last == index) (if index == j then tried_along i j (protects.told_held index root link n) z == 0 else tried_along i j (protects.told_held index root link n) z == 0) l (by (index == j) refl)
  where
    same : (m : ℕ) → (m == m) ≡ true
    same m = grind (arith, nat_tests)

    by : (own : Bool) → (index == j) ≡ own → (if own then tried_along i j (protects.told_held index root link n) (tried_by i j (events.Reserve (Index seat index) (one_era era)) x) == 0 else tried_along i j (protects.told_held index root link n) (tried_by i j (events.Reserve (Index seat index) (one_era era)) x) == 0) ≡ true
    by true o = zero_test _ (told_own i j index root link n _ o t)
    by false o = zero_test _ (told_other i j index root link n _ o (k o ∙ zero_of_test x (other_of (index == j) (nat_le (c.tries + 1) x) (x == 0) o h)))
take_tells c i j x last index root n link era seat false t h k = by (index == j) refl
  where
    by : (own : Bool) → (index == j) ≡ own → (if own then true else tried_along i j (protects.told_held index root link n) (tried_by i j (events.Reserve (Index seat index) (one_era era)) x) == 0) ≡ true
    by true o = refl
    by false o = zero_test _ (told_other i j index root link n _ o (k o ∙ zero_of_test x (other_of (index == j) (nat_le (c.tries + 1) x) (x == 0) o h)))

apart_index : (i j seat index : ℕ) (era x : ℕ) → (index == j) ≡ false → tried_by i j (events.Reserve (Index seat index) (one_era era)) x ≡ x
apart_index i j seat index era x o = by (seat == i)
  where
    by : (own : Bool) → tried_by i j (events.Reserve (Index seat index) (one_era era)) x ≡ x
    by own = rw o (grind arith)

no_tells : (tells : Bool) (x : ℕ) → (not tells || x == 0) ≡ true → tells ≡ true → x ≡ 0
no_tells true x h t = zero_of_test x h
no_tells false x h t = absurd (cc)

answer_last : (index : ℕ) (root : Root) (last : ℕ) (r : Option Request) → at_last index root (slow.answer_in r) last ≡ true
answer_last index root last (Some (requests.Answered link era)) = refl
answer_last index root last (Some (requests.Pending tag at word)) = refl
answer_last index root last (Some requests.Idle) = refl
answer_last index root last None = refl

answer_tried : (c : Config) (root : Root) (x : ℕ) (r : Option Request) → nat_le (c.tries + 1) x ≡ true → at_tried c root (slow.answer_in r) x ≡ true
answer_tried c root x (Some (requests.Answered link era)) h = h
answer_tried c root x (Some (requests.Pending tag at word)) h = h
answer_tried c root x (Some requests.Idle) h = h
answer_tried c root x None h = h

lost_last : (index : ℕ) (root : Root) (last first : ℕ) (final : Bool) (found : ℕ) → at_last index root (slow.lost_turn first final found) last ≡ true
lost_last index root last first true found = refl
lost_last index root last first false found = refl

lost_tried : (c : Config) (root : Root) (x first : ℕ) (final : Bool) (found : ℕ) → nat_le (c.tries + 1) x ≡ true → at_tried c root (slow.lost_turn first final found) x ≡ true
lost_tried c root x first true found h = h
lost_tried c root x first false found h = h

pub protect_made : (moved : Bool) (c : Config) (i j x last : ℕ) (aim : Aim) (index : ℕ) (root : Root) (made n : ℕ) (at : ProtectAt) (post : Post) (found : ℕ) → TriedEra (Protect aim index root made at) → Site c i j x last aim index root at post → Made moved c i j x last (machine.protect_turn aim index root n at post found)
protect_made moved c i j x last aim index root made n (LoadClock tries) post found e s = onward c i j x last aim index root n (LoadClock tries) (PublishEra found tries) post s (λ h. refl) (first_published x tries)
protect_made moved c i j x last aim index root made n (PublishEra era tries) post found e s = publish_made moved c i j x last aim index root n era tries post found e s
protect_made moved c i j x last aim index root made n (LoadLink era tries) post found e s = onward c i j x last aim index root n (LoadLink era tries) (CheckClock era tries found) post s (λ h. refl) (λ h. h)
protect_made moved c i j x last aim index root made n (CheckClock era tries link) post found e s = check_made moved c i j x last aim index root n era tries link post found s
protect_made moved c i j x last aim index root made n PublishRequest post found e s = onward c i j x last aim index root n PublishRequest LoadOwnClock post s (λ h. refl) (λ h. h)
protect_made moved c i j x last aim index root made n LoadOwnClock post found e s = onward c i j x last aim index root n LoadOwnClock (PublishHelper found found false) post s (λ h. refl) (λ h. h)
protect_made moved c i j x last aim index root made n (PublishHelper first era final) post found e s = onward c i j x last aim index root n (PublishHelper first era final) (LoadOwnLink first era final) post s (λ h. refl) (λ h. h)
protect_made moved c i j x last aim index root made n (LoadOwnLink first era final) post found e s = onward c i j x last aim index root n (LoadOwnLink first era final) (CheckOwnClock first era final found) post s (λ h. refl) (λ h. h)
protect_made moved c i j x last aim index root made n (CheckOwnClock first era final link) post found e s =
    made_if moved c i j x last (found == era) _ _
    (λ h. onward c i j x last aim index root n (CheckOwnClock first era final link) (AnswerOwn first era link) post s (λ h. refl) (λ h. h))
    (λ h. onward c i j x last aim index root n (CheckOwnClock first era final link) (slow.lost_turn first final found) post s (λ h. lost_last index root last first final found) (λ h. lost_tried c root x first final found h))
protect_made moved c i j x last aim index root made n (AnswerOwn first era link) post found e s =
    made_if moved c i j x last (found == slow.own_request post index root) _ _
    (λ h. onward c i j x last aim index root n (AnswerOwn first era link) (TakeAnswer link era) post s (λ h. refl) (λ h. h))
    (λ h. onward c i j x last aim index root n (AnswerOwn first era link) (slow.answer_in (read_request found)) post s (λ h. answer_last index root last (read_request found)) (λ h. answer_tried c root x (read_request found) h))
protect_made moved c i j x last aim index root made n (LoadAnswer first) post found e s =
    onward c i j x last aim index root n (LoadAnswer first) (slow.answer_in (read_request found)) post s (λ h. answer_last index root last (read_request found)) (λ h. answer_tried c root x (read_request found) h)
protect_made moved c i j x last aim index root made n (TakeAnswer link era) post found e s =
    take_tells c i j x last index root n link era post.seat (tells_link root link) refl s.times (λ o. apart_index i j post.seat index era x o)
protect_made moved c i j x last aim index root made n (WithdrawRequest link era) post found e s = onward c i j x last aim index root n (WithdrawRequest link era) (WithdrawHelper link era) post s (λ h. h) (λ h. h)
protect_made moved c i j x last aim index root made n (WithdrawHelper link era) post found e s =
    conclude moved c i j x last aim index root n link era post (reserves_helper post 0)
    (record {
      alone = λ a. s.alone a link;
      follows = s.follows;
      told = λ t. by_own (index == j) refl t;
      other = λ o. zero_of_test x (other_of (index == j) (not (tells_link root link) || x == 0) (x == 0) o s.times);
    })
  where
    by_own : (own : Bool) → (index == j) ≡ own → tells_link root link ≡ true → x ≡ 0
    by_own true o t = no_tells (tells_link root link) x (own_of (index == j) (not (tells_link root link) || x == 0) (x == 0) o s.times) t
    by_own false o t = zero_of_test x (other_of (index == j) (not (tells_link root link) || x == 0) (x == 0) o s.times)
protect_made moved c i j x last aim index root made n (ByHazard at) post found e s = absurd (false_not_true (publishes_rows (scheme_of post)) s.eras s.fits)
protect_made moved c i j x last aim index root made n at post found e s = absurd (false_not_true (is_ibr (scheme_of post)) s.plain s.fits)
