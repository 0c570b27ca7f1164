-- Tries without end: what so many of them have made.
use Rattle.std.proofs.Common.{List, ap, arith, refl, ℕ, ◌+◌, ◌≡◌}
use Rattle.wfe_core.specs.defs.declared.event.Root.{Root}
use Rattle.wfe_core.specs.words.Place.Place.{Clock}
use Rattle.wfe_core.specs.Locals.{Local}
use Rattle.wfe_core.specs.Memory.{Load, bump}
use Rattle.wfe_core.specs.Phases.{Endless}
use Rattle.wfe_core.specs.Phases as phases
use Rattle.wfe_core.specs.Phases.ProtectAt.{LoadClock}
use Rattle.wfe_core.specs.declared.op.Op.{Op}
use Rattle.wfe_core.specs.declared.post.Post.{Post}
use Rattle.wfe_drive_words.specs.declared.protect.Guarded.{Guarded}
use Rattle.wfe_drive_words.specs.declared.protect.Tried.TheVariants.{Held, Moved}
use Rattle.wfe_drive_words.specs.Called.{Here}
use Rattle.wfe_drive_words.specs.Path.{AsksFor, Leads, Publishes, StepFrom, Trial, endless, endless_after, guarded_at, held_at, protecting, publishing, tried_at}
use Rattle.wfe_drive_words.proofs.Leading.{here_on, leads_as, leads_none, then_leads}
use Rattle.wfe_drive_words.proofs.Trying.{once}
use Rattle.wfe_drive_cells.specs.Spots.{spotted}
use Rattle.wfe_drive_cells.specs.declared.located.Located.{Located}

-- none yet
pub tries_none : (at : Local → Type 0) (stands : List (Op × ℕ) → Type 0) (t : Trial) (index : ℕ) (root : Root) (era : ℕ) (post : Post)
    → (n : ℕ) × Leads at at stands stands (publishing (endless t) index root era post) (publishing (endless_after t n 0) index root era post)
tries_none at stands t index root era post =
    let e : t.steps ≡ t.steps + 0 = omega arith in
    (t.made, leads_as _ _ (ap (λ (steps : ℕ). publishing (record (endless t) { steps = steps }) index root era post) e) (leads_none at stands (publishing (endless t) index root era post)))

-- the next one may begin
pub may_try : {at0 at1 : Local → Type 0} {stands0 stands1 : List (Op × ℕ) → Type 0} (t : Trial) (index : ℕ) (root : Root) (first era : ℕ) (post : Post) (n steps : ℕ) → Publishes at0 (endless t) index root first post
    → Leads at0 at1 stands0 stands1 (publishing (endless t) index root first post) (publishing (endless_after t n steps) index root era post) → Publishes at1 (endless_after t n steps) index root era post
may_try t index root first era post n steps p x = record { here = here_on p.here x; tries = refl }

-- and has failed
pub tries_more : {at0 at1 at2 : Local → Type 0} {stands0 stands1 stands2 : List (Op × ℕ) → Type 0} (t : Trial) (index : ℕ) (root : Root) (first era seen : ℕ) (post : Post) (n steps : ℕ)
    → Leads at0 at1 stands0 stands1 (publishing (endless t) index root first post) (publishing (endless_after t n steps) index root era post)
    → Leads at1 at2 stands1 stands2 (publishing (endless_after t n steps) index root era post) (tried_at (endless_after t n steps) index root era post (Moved seen))
    → (m : ℕ) × Leads at0 at2 stands0 stands2 (publishing (endless t) index root first post) (publishing (endless_after t m (steps + 3)) index root seen post)
tries_more t index root first era seen post n steps x y =
    let m : ℕ = bump (bump (bump n)) in
    let e : t.steps + steps + 3 ≡ t.steps + (steps + 3) = omega arith in
    (m, leads_as _ _ (ap (λ (s : ℕ). publishing (record t { made = m; tries = Endless; steps = s }) index root seen post) e) (then_leads x y))

-- or has held
pub tries_held : {at0 at1 at2 : Local → Type 0} {stands0 stands1 stands2 : List (Op × ℕ) → Type 0} (t : Trial) (index : ℕ) (root : Root) (first era link : ℕ) (post : Post) (n steps : ℕ)
    → Leads at0 at1 stands0 stands1 (publishing (endless t) index root first post) (publishing (endless_after t n steps) index root era post)
    → Leads at1 at2 stands1 stands2 (publishing (endless_after t n steps) index root era post) (tried_at (endless_after t n steps) index root era post (Held link))
    → (m : ℕ) × Leads at0 at2 stands0 stands2 (publishing (endless t) index root first post) (guarded_at t index root post m (record { link = link; era = era; steps = steps + 3 }))
tries_held t index root first era link post n steps x y =
    let m : ℕ = bump (bump (bump n)) in
    let e : t.steps + steps + 3 ≡ t.steps + (steps + 3) = omega arith in
    (m, leads_as _ _ (ap (λ (s : ℕ). held_at t index root m link era s post) e) (then_leads x y))

-- they begin with a load of the clock
pub load_asks : {at : Local → Type 0} (t : Trial) (index : ℕ) (root : Root) (tries : phases.Tries) (post : Post) (op : Located) → Here at (protecting t index root (LoadClock tries) post) → op ≡ spotted post.layout (Load Clock) → AsksFor at (protecting t index root (LoadClock tries) post) op
load_asks t index root tries post op h o = record { here = h; busy = refl; is = o }

pub first_try : {at0 at1 : Local → Type 0} {stands0 stands1 : List (Op × ℕ) → Type 0} (t : Trial) (index : ℕ) (root : Root) (post : Post) (op : Located) (era : ℕ) → Here at0 (protecting t index root (LoadClock Endless) post) → op ≡ spotted post.layout (Load Clock)
    → StepFrom at0 at1 stands0 stands1 op era → Publishes at1 (endless (once t)) index root era post
first_try t index root post op era h o s = record { here = here_on h (s _ (load_asks t index root Endless post op h o)).leads; tries = refl }

pub guarded_on : {at0 at1 at2 : Local → Type 0} {stands0 stands1 stands2 : List (Op × ℕ) → Type 0} (t : Trial) (index : ℕ) (root : Root) (post : Post) (op : Located) (era : ℕ) (guarded : Guarded) → Here at0 (protecting t index root (LoadClock Endless) post) → op ≡ spotted post.layout (Load Clock)
    → StepFrom at0 at1 stands0 stands1 op era → ((n : ℕ) × Leads at1 at2 stands1 stands2 (publishing (endless (once t)) index root era post) (guarded_at (once t) index root post n guarded))
    → (n : ℕ) × Leads at0 at2 stands0 stands2 (protecting t index root (LoadClock Endless) post) (guarded_at t index root post n (record guarded { steps = guarded.steps + 1 }))
guarded_on t index root post op era guarded h o s x =
    let (n, y) = x in
    let e : t.steps + 1 + guarded.steps ≡ t.steps + (guarded.steps + 1) = omega arith in
    (n, leads_as _ _ (ap (λ (steps : ℕ). held_at t index root n guarded.link guarded.era steps post) e) (then_leads (s _ (load_asks t index root Endless post op h o)).leads y))
