-- As many tries as the setting says: what so many of them have made.
use Rattle.std.proofs.Common.{List, ap, arith, refl, ℕ, ◌*◌, ◌+◌, ◌<◌, ◌^◌, ◌∙◌, ◌≡◌, ◌≤◌}
use Rattle.std.proofs.lemmas.Bool.{le-leb, lt-leb}
use Rattle.std.proofs.lemmas.Bool.Decides.{nat_tests}
use Rattle.wfe_core.specs.words.Place.Place.{Clock, Index}
use Rattle.wfe_core.specs.defs.declared.event.Root.{Root}
use Rattle.wfe_core.specs.Locals.{Local}
use Rattle.wfe_core.specs.Memory.{Load, Store, bump}
use Rattle.wfe_core.specs.Phases.{Failed, ProtectAt}
use Rattle.wfe_core.specs.Phases.ProtectAt.{LoadClock, PublishRequest}
use Rattle.wfe_core.specs.Posts.{index_word}
use Rattle.wfe_core.specs.Protect.{trying}
use Rattle.wfe_core.specs.declared.op.Op.{Op}
use Rattle.wfe_core.specs.declared.post.Post.{Post}
use Rattle.wfe_drive_words.specs.Called.{Here}
use Rattle.wfe_drive_words.specs.declared.asking.Bounded.TheVariants.{Used, Within}
use Rattle.wfe_drive_words.specs.declared.protect.Guarded.{Guarded}
use Rattle.wfe_drive_words.specs.declared.protect.Tried.TheVariants.{Held, Moved}
use Rattle.wfe_drive_words.specs.Path.{AsksFor, Leads, Publishes, StepFrom, StepsOn, Trial, asked_after, asked_at, asks_from, bounded_at, held_at, protecting, publishing, tried_at}
use Rattle.wfe_drive_words.proofs.Leading.{here_on, leads_as, leads_none, then_leads}
use Rattle.wfe_drive_words.proofs.Tries.{load_asks}
use Rattle.wfe_drive_words.proofs.Trying.{once}
use Rattle.wfe_drive_cells.specs.Spots.{spotted}
use Rattle.wfe_drive_cells.specs.declared.located.Located.{Located}

-- few steps are counted one by one
bump-few : (n : ℕ) → n < 2 ^ 32 → bump n ≡ n + 1
bump-few n h = grind (arith, nat_tests)

three-more : (k : ℕ) → k < 64 → bump (bump (bump (1 + 3 * k))) ≡ 1 + 3 * (k + 1)
three-more k h =
    let a : bump (1 + 3 * k) ≡ 1 + 3 * k + 1 = bump-few (1 + 3 * k) (omega arith) in
    let b : bump (1 + 3 * k + 1) ≡ 1 + 3 * k + 1 + 1 = bump-few (1 + 3 * k + 1) (omega arith) in
    let c : bump (1 + 3 * k + 1 + 1) ≡ 1 + 3 * k + 1 + 1 + 1 = bump-few (1 + 3 * k + 1 + 1) (omega arith) in
    let d : 1 + 3 * k + 1 + 1 + 1 ≡ 1 + 3 * (k + 1) = omega arith in
    ap (λ (n : ℕ). bump (bump n)) a ∙ ap bump b ∙ c ∙ d

-- none yet
pub asked_none : (at : Local → Type 0) (stands : List (Op × ℕ) → Type 0) (t : Trial) (index : ℕ) (root : Root) (era : ℕ) (post : Post) → Leads at at stands stands (publishing (asked_after t 0) index root era post) (publishing (asked_after t 0) index root era post)
asked_none at stands t index root era post = leads_none at stands (publishing (asked_after t 0) index root era post)

-- the next one may begin, where one is left
pub may_ask_try : {at0 at1 : Local → Type 0} {stands0 stands1 : List (Op × ℕ) → Type 0} (t : Trial) (index : ℕ) (root : Root) (first era : ℕ) (post : Post) (failed : ℕ) → failed < post.layout.config.tries → Here at0 (publishing (asked_after t 0) index root first post)
    → Leads at0 at1 stands0 stands1 (publishing (asked_after t 0) index root first post) (publishing (asked_after t failed) index root era post) → Publishes at1 (asked_after t failed) index root era post
may_ask_try t index root first era post failed left h x = record {
  here = here_on h x;
  tries = rw (lt-leb post.layout.config.tries failed left) refl;
}

-- and has failed
pub asked_more : {at0 at1 at2 : Local → Type 0} {stands0 stands1 stands2 : List (Op × ℕ) → Type 0} (t : Trial) (index : ℕ) (root : Root) (first era seen : ℕ) (post : Post) (failed : ℕ) → failed < 64
    → Leads at0 at1 stands0 stands1 (publishing (asked_after t 0) index root first post) (publishing (asked_after t failed) index root era post)
    → Leads at1 at2 stands1 stands2 (publishing (asked_after t failed) index root era post) (tried_at (asked_after t failed) index root era post (Moved seen))
    → Leads at0 at2 stands0 stands2 (publishing (asked_after t 0) index root first post) (publishing (asked_after t (failed + 1)) index root seen post)
asked_more t index root first era seen post failed few x y =
    let e : t.steps + 3 * failed + 3 ≡ t.steps + 3 * (failed + 1) = omega arith in
    let made : bump (bump (bump (1 + 3 * failed))) ≡ 1 + 3 * (failed + 1) = three-more failed few in
    leads_as _ _ (ap (λ (s : ℕ). publishing (record t { made = bump (bump (bump (1 + 3 * failed))); tries = Failed (failed + 1); steps = s }) index root seen post) e
    ∙ ap (λ (m : ℕ). publishing (record t { made = m; tries = Failed (failed + 1); steps = t.steps + 3 * (failed + 1) }) index root seen post) made) (then_leads x y)

-- or has held
pub asked_held : {at0 at1 at2 : Local → Type 0} {stands0 stands1 stands2 : List (Op × ℕ) → Type 0} (t : Trial) (index : ℕ) (root : Root) (first era link : ℕ) (post : Post) (failed : ℕ)
    → Leads at0 at1 stands0 stands1 (publishing (asked_after t 0) index root first post) (publishing (asked_after t failed) index root era post)
    → Leads at1 at2 stands1 stands2 (publishing (asked_after t failed) index root era post) (tried_at (asked_after t failed) index root era post (Held link))
    → (m : ℕ) × Leads at0 at2 stands0 stands2 (publishing (asked_after t 0) index root first post) (bounded_at t index root post m (Within (record { link = link; era = era; steps = 3 * failed + 3 })))
asked_held t index root first era link post failed x y =
    let m : ℕ = bump (bump (bump (1 + 3 * failed))) in
    let e : t.steps + 3 * failed + 3 ≡ t.steps + (3 * failed + 3) = omega arith in
    (m, leads_as _ _ (ap (λ (s : ℕ). held_at t index root m link era s post) e) (then_leads x y))

-- they are used up, and the era is published once more
pub last_asks : {at0 at1 : Local → Type 0} {stands0 stands1 : List (Op × ℕ) → Type 0} (t : Trial) (index : ℕ) (root : Root) (first era : ℕ) (post : Post) (failed : ℕ) (op : Located) → Here at0 (publishing (asked_after t 0) index root first post)
    → Leads at0 at1 stands0 stands1 (publishing (asked_after t 0) index root first post) (publishing (asked_after t failed) index root era post) → op ≡ spotted post.layout (Store (Index post.seat index) (index_word post index era))
    → AsksFor at1 (publishing (asked_after t failed) index root era post) op
last_asks t index root first era post failed op h x o = record { here = here_on h x; busy = refl; is = o }

pub asked_used : {at0 at1 at2 : Local → Type 0} {stands0 stands1 stands2 : List (Op × ℕ) → Type 0} (t : Trial) (index : ℕ) (root : Root) (first era : ℕ) (post : Post) (failed n : ℕ) → failed ≤ 64 → post.layout.config.tries ≤ failed
    → Leads at0 at1 stands0 stands1 (publishing (asked_after t 0) index root first post) (publishing (asked_after t failed) index root era post)
    → StepsOn at1 at2 stands1 stands2 (publishing (asked_after t failed) index root era post) n
    → (m : ℕ) × Leads at0 at2 stands0 stands2 (publishing (asked_after t 0) index root first post) (bounded_at t index root post m (Used (3 * failed + 1)))
asked_used t index root first era post failed n few used x s =
    let e : t.steps + 3 * failed + 1 ≡ t.steps + (3 * failed + 1) = omega arith in
    let made : bump (1 + 3 * failed) ≡ 1 + (3 * failed + 1) =
    bump-few (1 + 3 * failed) (omega arith) ∙ sums failed in
    let asks : trying post.layout.config era (Failed failed) ≡ PublishRequest = rw (le-leb post.layout.config.tries failed used) refl in (
      0,
      leads_as _ _ (ap (λ (at : ProtectAt). protecting (record t { made = bump (1 + 3 * failed); steps = t.steps + 3 * failed + 1 }) index root at post) asks
          ∙ ap (λ (k : ℕ). protecting (record t { made = bump (1 + 3 * failed); steps = k }) index root PublishRequest post) e
          ∙ ap (λ (m : ℕ). protecting (record t { made = m; steps = t.steps + (3 * failed + 1) }) index root PublishRequest post) made) (then_leads x s.leads),
    )
  where
    sums : (k : ℕ) → 1 + 3 * k + 1 ≡ 1 + (3 * k + 1)
    sums k = omega arith

-- they come after a load of the clock
pub asks_first : {at0 at1 : Local → Type 0} {stands0 stands1 : List (Op × ℕ) → Type 0} (t : Trial) (index : ℕ) (root : Root) (post : Post) (op : Located) (era : ℕ) → Here at0 (protecting (asks_from t) index root (LoadClock (Failed 0)) post) → op ≡ spotted post.layout (Load Clock)
    → StepFrom at0 at1 stands0 stands1 op era → Leads at0 at1 stands0 stands1 (protecting (asks_from t) index root (LoadClock (Failed 0)) post) (publishing (asked_after (once t) 0) index root era post)
asks_first t index root post op era h o s =
    let e : t.steps + 1 ≡ t.steps + 1 + 3 * 0 = omega arith in
    leads_as _ _ (ap (λ (k : ℕ). publishing (record t { made = 1; tries = Failed 0; steps = k }) index root era post) e) (s _ (load_asks (asks_from t) index root (Failed 0) post op h o)).leads

pub asked_within : {at0 at1 at2 : Local → Type 0} {stands0 stands1 stands2 : List (Op × ℕ) → Type 0} (t : Trial) (index : ℕ) (root : Root) (post : Post) (era : ℕ) (guarded : Guarded)
    → Leads at0 at1 stands0 stands1 (protecting (asks_from t) index root (LoadClock (Failed 0)) post) (publishing (asked_after (once t) 0) index root era post)
    → ((n : ℕ) × Leads at1 at2 stands1 stands2 (publishing (asked_after (once t) 0) index root era post) (bounded_at (once t) index root post n (Within guarded)))
    → (n : ℕ) × Leads at0 at2 stands0 stands2 (protecting (asks_from t) index root (LoadClock (Failed 0)) post) (asked_at t index root post n (Within (record guarded { steps = guarded.steps + 1 })))
asked_within t index root post era guarded x y =
    let (n, z) = y in
    let e : t.steps + 1 + guarded.steps ≡ t.steps + (guarded.steps + 1) = omega arith in
    (n, leads_as _ _ (ap (λ (steps : ℕ). held_at t index root n guarded.link guarded.era steps post) e) (then_leads x z))

pub asked_without : {at0 at1 at2 : Local → Type 0} {stands0 stands1 stands2 : List (Op × ℕ) → Type 0} (t : Trial) (index : ℕ) (root : Root) (post : Post) (era steps : ℕ)
    → Leads at0 at1 stands0 stands1 (protecting (asks_from t) index root (LoadClock (Failed 0)) post) (publishing (asked_after (once t) 0) index root era post)
    → ((n : ℕ) × Leads at1 at2 stands1 stands2 (publishing (asked_after (once t) 0) index root era post) (bounded_at (once t) index root post n (Used steps)))
    → (n : ℕ) × Leads at0 at2 stands0 stands2 (protecting (asks_from t) index root (LoadClock (Failed 0)) post) (asked_at t index root post n (Used (steps + 1)))
asked_without t index root post era steps x y =
    let (n, z) = y in
    let e : t.steps + 1 + steps ≡ t.steps + (steps + 1) = omega arith in
    let made : 1 + steps ≡ steps + 1 = omega arith in (
      n,
      leads_as _ _ (ap (λ (k : ℕ). protecting (record t { made = 1 + steps; steps = k }) index root PublishRequest post) e
          ∙ ap (λ (m : ℕ). protecting (record t { made = m; steps = t.steps + (steps + 1) }) index root PublishRequest post) made) (then_leads x z),
    )
