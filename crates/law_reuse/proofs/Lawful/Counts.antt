-- What a protection tells, it tells within its steps.
use Rattle.std.proofs.Common.{ℕ, ◌≡◌, ◌≤◌, ◌<◌, ◌+◌, ◌*◌, Bool, true, false, List, [], ◌∷◌, refl, sym, subst, arith}
use Rattle.std.proofs.lemmas.Bool.Decides.{nat_tests}
use Rattle.std.specs.Prelude.{◌==◌, nat_le, if◌then◌else◌}
use Rattle.inv_all.specs.model.words.declared.layout.Layout.{Layout}
use Rattle.inv_all.specs.model.defs.declared.event.Event.{Event}
use Rattle.inv_all.specs.model.defs.declared.event.Event.TheVariants as events
use Rattle.inv_all.specs.model.defs.declared.event.Root.{Root}
use Rattle.inv_all.specs.model.declared.post.Post.{Post}
use Rattle.inv_all.specs.model.Memory.{bump}
use Rattle.inv_all.specs.model.Posts.{counted}
use Rattle.inv_all.specs.model.Phases.{Aim, ProtectAt, Base}
use Rattle.inv_all.specs.model.Phases.ProtectAt.{CheckClock, TakeAnswer, CheckUpper, ByHazard}
use Rattle.inv_all.specs.model.words.declared.config.SchemeKind.{SchemeKind}
use Rattle.inv_all.specs.model.words.declared.config.SchemeKind.TheVariants.{He, Hp, Ibr, Wfe}
use Rattle.inv_all.specs.model.Guards.{guard_at}
use Rattle.law_reuse.proofs.ReadGuards.{reads_are}
use Rattle.inv_all.specs.model.Phases.Base.{Protect, Reload}
use Rattle.inv_all.specs.model.Calls.{Why, FollowsHead, ScanAt, ReadGuard, GiveBack, Phase, Idle, Runs, Scans, Works}
use Rattle.inv_all.specs.model.World.{World, finds, offered, told_in}
use Rattle.inv_all.proofs.model.Facts.{first_of, rest_of, number_is}
use Rattle.inv_all.specs.model.words.Schemes.{is_wfe, publishes_rows}
use Rattle.inv_all.specs.shapes.Seats.{protect_fits, kind_of, reloads, index_by, Run}
use Rattle.inv_all.specs.requests.Paces.{InTime}
use Rattle.inv_all.specs.Inv.{Inv}
use Rattle.inv_all.proofs.Inv.Tells.{inv_times}
use Rattle.inv_all.proofs.history.Passes.{is_quiet, First, scan_told}
use Rattle.laws.specs.StepLaw.{few_steps}
use Rattle.law_reuse.specs.Answers.{RecordsKeepSteps}
use Rattle.inv_all.proofs.history.MayTell as may
use Rattle.inv_all.proofs.history.AllOf.{all_of}
use Rattle.inv_all.proofs.Each.{Tells, record_each}
use Rattle.inv_all.proofs.ends.Handover.Asks.{run_of}
use Rattle.inv_all.proofs.requests.Paced.{wfe_not_ibr}
use Rattle.inv_all.proofs.requests.Paces.{bump_near}

abbrev Few : ℕ → List Event → Type 0
Few tries told = all_of (few_steps tries) told ≡ true

quiet_one : (tries : ℕ) (event : Event) → is_quiet event ≡ true → few_steps tries event ≡ true
quiet_one tries (events.Held index slot steps) h = absurd (cc)
quiet_one tries (events.Null index steps) h = absurd (cc)
quiet_one tries event h = refl

abbrev LeavesFew : ℕ → Post → List Event → Type 0
LeavesFew tries post told = Few tries told

-- a protection
small : (tries n : ℕ) → n ≤ 3 * tries + 12 → nat_le n (3 * tries + 12) ≡ true
small tries n h = grind (arith, nat_tests)

wider : (tries n : ℕ) → n ≤ 3 * tries + 15 → nat_le n (3 * tries + 15) ≡ true
wider tries n h = grind (arith, nat_tests)

held_one : (tries n : ℕ) (next : Bool) → n ≤ 3 * tries + 12 → (if next then nat_le n (3 * tries + 15) else nat_le n (3 * tries + 12)) ≡ true
held_one tries n true h = wider tries n (omega arith)
held_one tries n false h = small tries n h

-- the index of a reload is 1
pub reload_index : (why : Why) (index : ℕ) → reloads (kind_of why) ≡ true → index ≡ index_by why → index ≡ 1
reload_index (FollowsHead head tail) index h e = e
reload_index why index h e = absurd (cc)

-- so many steps a protection has made where it finds its row
wfe_not_rows : (scheme : SchemeKind) → is_wfe scheme ≡ true → publishes_rows scheme ≡ true → ⊥
wfe_not_rows He f r = cc
wfe_not_rows Ibr f r = cc
wfe_not_rows Wfe f r = cc
wfe_not_rows Hp f r = cc

counts_at : (w : World) (i : ℕ) (why : Why) (aim : Aim) (index : ℕ) (root : Root) (steps : ℕ) (at : ProtectAt) → is_wfe w.layout.config.scheme ≡ true → InTime w i → (w.seat i).phase ≡ Runs why (Protect aim index root steps at) → protect_fits w.layout.config.scheme w.layout.config.tries at ≡ true → may.at_finds at ≡ true
    → bump steps ≤ 3 * w.layout.config.tries + 12
counts_at w i why aim index root steps (CheckClock era failed link) f t e r h = let a = t.tries why aim index root steps era failed link f e in let b = bump_near steps in omega arith
counts_at w i why aim index root steps (TakeAnswer link era) f t e r h = let a = t.takes why aim index root steps link era e in let b = bump_near steps in omega arith
counts_at w i why aim index root steps (CheckUpper link) f t e r h = absurd (wfe_not_ibr w.layout.config.scheme f r)
counts_at w i why aim index root steps (ByHazard at) f t e r h = absurd (wfe_not_rows w.layout.config.scheme f r)
counts_at w i why aim index root steps at f t e r h = absurd (cc)

one_few : (w : World) (i : ℕ) (why : Why) (base : Base) (found : ℕ) (event : Event) → is_wfe w.layout.config.scheme ≡ true → InTime w i → (w.seat i).phase ≡ Runs why base → Run w.layout why base (w.seat i).post → may.Tells base (counted (w.seat i).post) found event → few_steps w.layout.config.tries event ≡ true
one_few w i why (Protect aim own root made at) found (events.Held index slot n) f t e r h =
    let c = counts_at w i why aim own root made at f t e r.fits (first_of (may.at_finds at) _ h) in
    let m : n ≡ bump made = number_is n (bump made) (rest_of (index == own) _ (rest_of (may.at_finds at) _ h)) in
    held_one w.layout.config.tries n (index == 1) (omega arith)
one_few w i why (Reload parent own slot era made) found (events.Held index row n) f t e r h =
    let a = t.reloads why parent own slot era made f e in
    let b = bump_near made in
    let m : n ≡ bump made = number_is n (bump made) (rest_of (index == own) _ h) in
    let one : (index == 1) ≡ true = rw (← reload_index why own r.suited r.shape.at) (first_of (index == own) _ h) in
    rw one (wider w.layout.config.tries n (omega arith))
one_few w i why (Protect aim own root made at) found (events.Null index n) f t e r h =
    let c = counts_at w i why aim own root made at f t e r.fits (first_of (may.at_finds at) _ h) in
    let m : n ≡ bump made = number_is n (bump made) (rest_of (index == own) _ (rest_of (may.at_finds at) _ h)) in
    small w.layout.config.tries n (omega arith)
one_few w i why base found (events.Held index slot n) f t e r h = absurd (cc)
one_few w i why base found (events.Null index n) f t e r h = absurd (cc)
one_few w i why base found event f t e r h = refl

scan_few : (tries : ℕ) (at : ScanAt) (post : Post) (found : ℕ) → Few tries (scan_told at post found)
scan_few tries (ReadGuard number) post found = reads_are (λ (event : Event). Few tries (event ∷ [])) (publishes_rows post.layout.config.scheme) (guard_at post.layout.config number) found (λ span. refl) (λ slot. refl)
scan_few tries (GiveBack place slot) post found = refl

first_few : (w : World) (i : ℕ) (phase : Phase) (found : ℕ) → is_wfe w.layout.config.scheme ≡ true → InTime w i → Inv w → (w.seat i).phase ≡ phase → First (LeavesFew w.layout.config.tries) phase (counted (w.seat i).post) found
first_few w i Idle found f t a e = refl
first_few w i (Runs why base) found f t a e = let k = a.known in may.base_all (few_steps w.layout.config.tries) base (counted (w.seat i).post) found (λ event. one_few w i why base found event f t e (run_of w i why base k.seats e))
first_few w i (Scans later at) found f t a e = scan_few w.layout.config.tries at (counted (w.seat i).post) found
first_few w i (Works work) found f t a e = may.work_all (few_steps w.layout.config.tries) (λ index slot. refl) (λ from index slot. refl) (λ seat index era. refl) (λ seat. refl) (λ seat index link. refl) work (counted (w.seat i).post)

told_few : (w : World) (i : ℕ) → is_wfe w.layout.config.scheme ≡ true → i < w.layout.config.seats → Inv w → Few w.layout.config.tries (told_in w i)
told_few w i f b a =
    let t = (inv_times w i b a).protects in
    may.step_all (few_steps w.layout.config.tries) (record { quiet = quiet_one w.layout.config.tries; clears = λ index slot. refl }) (w.seat i).phase (counted (w.seat i).post) (offered w i).desk (finds w i) (first_few w i (w.seat i).phase (finds w i) f t a refl)

table_few : (layout : Layout) → is_wfe layout.config.scheme ≡ true → Tells layout (few_steps layout.config.tries)
table_few layout f = record {
  begins = λ call. refl;
  steps = λ w i e b a.
      let g : is_wfe w.layout.config.scheme ≡ true = subst (λ (table : Layout). is_wfe table.config.scheme ≡ true) (sym e) f in
      subst (λ (table : Layout). all_of (few_steps table.config.tries) (told_in w i) ≡ true) e (told_few w i g b a);
}

pub records_keep_steps : RecordsKeepSteps
records_keep_steps layout items d f = record_each layout (few_steps layout.config.tries) (table_few layout f) items d
