-- The steps of a protection by a hazard pointer, whatever it is for, and what so many checks have made.
use Rattle.std.proofs.Common.{Bool, List, [], ap, arith, false, refl, true, ℕ, ◌+◌, ◌∙◌, ◌≡◌, ◌==◌, ◌||◌, if◌then◌else◌}
use Rattle.std.proofs.lemmas.Bool.{eq-eqb, ne_eqb}
use Rattle.wfe_core.specs.words.Place.Place.{Index}
use Rattle.wfe_core.specs.defs.declared.event.Root.{Root}
use Rattle.wfe_core.specs.Hazards.{after_check_link}
use Rattle.wfe_core.specs.Links.{link_place}
use Rattle.wfe_core.specs.Locals.{Local}
use Rattle.wfe_core.specs.Memory.{Load, Store, bump}
use Rattle.wfe_core.specs.Phases.{goes}
use Rattle.wfe_core.specs.Phases.Base.{Protect}
use Rattle.wfe_core.specs.Phases.HazardAt.{CheckLink, FirstLink, PublishLink}
use Rattle.wfe_core.specs.Phases.ProtectAt.{ByHazard}
use Rattle.wfe_core.specs.Protect.{protected}
use Rattle.wfe_core.specs.Steps.{run_turn}
use Rattle.wfe_core.specs.declared.op.Op.{Op}
use Rattle.wfe_core.specs.declared.post.Post.{Post}
use Rattle.wfe_drive_cells.specs.Unit.{SeatView, kept_desk, seat_after}
use Rattle.wfe_drive_words.specs.Called.{Here}
use Rattle.wfe_drive_words.specs.declared.protect.Guarded.{Guarded}
use Rattle.wfe_drive_words.specs.Path.{AsksFor, Leads, StepFrom, StepsOn, Trial, checked_after, checked_at, guarded_at, hazarding, held_at, protecting}
use Rattle.wfe_drive_words.proofs.Leading.{here_on, leads_as, leads_none, then_leads}
use Rattle.wfe_drive_words.proofs.Trying.{once}
use Rattle.wfe_drive_cells.specs.Spots.{spotted}
use Rattle.wfe_drive_cells.specs.declared.located.Located.{Located}

-- the link is published, and the word is loaded again
abbrev pub checking : Trial → ℕ → Root → ℕ → Post → SeatView
checking t index root link post = protecting (once t) index root (ByHazard (CheckLink link)) post

pub publish_asks : {at : Local → Type 0} (t : Trial) (index : ℕ) (root : Root) (link : ℕ) (post : Post) (op : Located) → Here at (hazarding t index root link post) → op ≡ spotted post.layout (Store (Index post.seat index) link) → AsksFor at (hazarding t index root link post) op
publish_asks t index root link post op h o = record { here = h; busy = refl; is = o }

pub check_asks : {at0 at1 : Local → Type 0} {stands0 stands1 : List (Op × ℕ) → Type 0} (t : Trial) (index : ℕ) (root : Root) (link : ℕ) (post : Post) (op0 op1 : Located) (n : ℕ) → Here at0 (hazarding t index root link post)
    → op0 ≡ spotted post.layout (Store (Index post.seat index) link) → StepFrom at0 at1 stands0 stands1 op0 n → op1 ≡ spotted post.layout (Load (link_place root)) → AsksFor at1 (checking t index root link post) op1
check_asks t index root link post op0 op1 n h o0 s0 o1 = record { here = here_on h (s0 _ (publish_asks t index root link post op0 h o0)).leads; busy = refl; is = o1 }

-- both steps
pub record Checks (at0 at1 at2 : Local → Type 0) (stands0 stands1 stands2 : List (Op × ℕ) → Type 0) (t : Trial) (index : ℕ) (root : Root) (link : ℕ) (post : Post) (n found : ℕ) : Type 0 where
  pub first : StepsOn at0 at1 stands0 stands1 (hazarding t index root link post) n
  pub second : StepsOn at1 at2 stands1 stands2 (checking t index root link post) found

pub checks_by : {at0 at1 at2 : Local → Type 0} {stands0 stands1 stands2 : List (Op × ℕ) → Type 0} (t : Trial) (index : ℕ) (root : Root) (link : ℕ) (post : Post) (op0 op1 : Located) (n found : ℕ) → Here at0 (hazarding t index root link post)
    → op0 ≡ spotted post.layout (Store (Index post.seat index) link) → StepFrom at0 at1 stands0 stands1 op0 n → op1 ≡ spotted post.layout (Load (link_place root)) → StepFrom at1 at2 stands1 stands2 op1 found
    → Checks at0 at1 at2 stands0 stands1 stands2 t index root link post n found
checks_by t index root link post op0 op1 n found h o0 s0 o1 s1 = record {
  first = s0 _ (publish_asks t index root link post op0 h o0);
  second = s1 _ (check_asks t index root link post op0 op1 n h o0 s0 o1);
}

pub checked : {at0 at1 at2 : Local → Type 0} {stands0 stands1 stands2 : List (Op × ℕ) → Type 0} (t : Trial) (index : ℕ) (root : Root) (link : ℕ) (post : Post) (n found : ℕ) → Checks at0 at1 at2 stands0 stands1 stands2 t index root link post n found
    → Leads at0 at2 stands0 stands2 (hazarding t index root link post) (checked_at t index root link found post)
checked t index root link post n found s =
    let two : t.steps + 1 + 1 ≡ t.steps + 2 = omega arith in
    let left : ℕ → SeatView = λ steps. seat_after (run_turn t.why (kept_desk t.desk) (after_check_link t.aim index root (bump (bump t.made)) link (record post { steps = steps }) found)) in
    leads_as _ _ (ap left two) (then_leads s.first.leads s.second.leads)

-- none yet
pub checks_none : (at : Local → Type 0) (stands : List (Op × ℕ) → Type 0) (t : Trial) (index : ℕ) (root : Root) (link : ℕ) (post : Post)
    → (n : ℕ) × Leads at at stands stands (hazarding t index root link post) (hazarding (checked_after t n 0) index root link post)
checks_none at stands t index root link post =
    let e : t.steps ≡ t.steps + 0 = omega arith in
    (t.made, leads_as _ _ (ap (λ (steps : ℕ). hazarding (record t { steps = steps }) index root link post) e) (leads_none at stands (hazarding t index root link post)))

-- one more, by which it is over or goes on
abbrev left_by : Trial → ℕ → Root → (m found steps : ℕ) → Post → (over : Bool) → SeatView
left_by t index root m found steps post over =
    let counted : Post = record post { steps = steps } in
    seat_after (run_turn t.why (kept_desk t.desk) (if over then protected t.aim index root m found 0 counted else goes counted [] (Protect t.aim index root m (ByHazard (PublishLink found)))))

module _ {at0 at1 at2 : Local → Type 0} {stands0 stands1 stands2 : List (Op × ℕ) → Type 0} (t : Trial) (index : ℕ) (root : Root) (first link found : ℕ) (post : Post) (n steps : ℕ) where
  pub checks_more : (found == link || found == 0) ≡ false → Leads at0 at1 stands0 stands1 (hazarding t index root first post) (hazarding (checked_after t n steps) index root link post)
      → Leads at1 at2 stands1 stands2 (hazarding (checked_after t n steps) index root link post) (checked_at (checked_after t n steps) index root link found post)
      → (m : ℕ) × Leads at0 at2 stands0 stands2 (hazarding t index root first post) (hazarding (checked_after t m (steps + 2)) index root found post)
  checks_more test x y =
      let m : ℕ = bump (bump n) in
      let e : t.steps + steps + 2 ≡ t.steps + (steps + 2) = omega arith in
      (m, leads_as _ _ (ap (left_by t index root m found (t.steps + steps + 2) post) test ∙ ap (λ (s : ℕ). hazarding (record t { made = m; steps = s }) index root found post) e) (then_leads x y))

  pub checks_over : (found == link || found == 0) ≡ true → Leads at0 at1 stands0 stands1 (hazarding t index root first post) (hazarding (checked_after t n steps) index root link post)
      → Leads at1 at2 stands1 stands2 (hazarding (checked_after t n steps) index root link post) (checked_at (checked_after t n steps) index root link found post)
      → (m : ℕ) × Leads at0 at2 stands0 stands2 (hazarding t index root first post) (guarded_at t index root post m (record { link = found; era = 0; steps = steps + 2 }))
  checks_over test x y =
      let m : ℕ = bump (bump n) in
      let e : t.steps + steps + 2 ≡ t.steps + (steps + 2) = omega arith in
      (m, leads_as _ _ (ap (left_by t index root m found (t.steps + steps + 2) post) test ∙ ap (λ (s : ℕ). held_at t index root m found 0 s post) e) (then_leads x y))

-- they come after a load of the link
pub first_asks : {at : Local → Type 0} (t : Trial) (index : ℕ) (root : Root) (post : Post) (op : Located) → Here at (protecting t index root (ByHazard FirstLink) post) → op ≡ spotted post.layout (Load (link_place root)) → AsksFor at (protecting t index root (ByHazard FirstLink) post) op
first_asks t index root post op h o = record { here = h; busy = refl; is = o }

module _ {at0 at1 : Local → Type 0} {stands0 stands1 : List (Op × ℕ) → Type 0} (t : Trial) (index : ℕ) (root : Root) (post : Post) (op : Located) (link : ℕ) (h : Here at0 (protecting t index root (ByHazard FirstLink) post)) (o : op ≡ spotted post.layout (Load (link_place root))) (s : StepFrom at0 at1 stands0 stands1 op link) where
  pub first_loads : StepsOn at0 at1 stands0 stands1 (protecting t index root (ByHazard FirstLink) post) link
  first_loads = s _ (first_asks t index root post op h o)

  -- it was null
  pub first_null : link ≡ 0 → (n : ℕ) × Leads at0 at1 stands0 stands1 (protecting t index root (ByHazard FirstLink) post) (guarded_at t index root post n (record { link = link; era = 0; steps = 1 }))
  first_null e = (bump t.made, leads_as _ _ (ap (left_by t index root (bump t.made) link (t.steps + 1) post) (eq-eqb link 0 e)) first_loads.leads)

  -- or it is published
  pub first_published : (link ≡ 0 → ⊥) → Leads at0 at1 stands0 stands1 (protecting t index root (ByHazard FirstLink) post) (hazarding (once t) index root link post)
  first_published e = leads_as _ _ (ap (left_by t index root (bump t.made) link (t.steps + 1) post) (ne_eqb link 0 e)) first_loads.leads

pub checked_on : {at0 at1 at2 : Local → Type 0} {stands0 stands1 stands2 : List (Op × ℕ) → Type 0} (t : Trial) (index : ℕ) (root : Root) (post : Post) (link : ℕ) (guarded : Guarded)
    → Leads at0 at1 stands0 stands1 (protecting t index root (ByHazard FirstLink) post) (hazarding (once t) index root link post)
    → ((n : ℕ) × Leads at1 at2 stands1 stands2 (hazarding (once t) index root link post) (guarded_at (once t) index root post n guarded))
    → (n : ℕ) × Leads at0 at2 stands0 stands2 (protecting t index root (ByHazard FirstLink) post) (guarded_at t index root post n (record guarded { steps = guarded.steps + 1 }))
checked_on t index root post link guarded x y =
    let (n, z) = y in
    let e : t.steps + 1 + guarded.steps ≡ t.steps + (guarded.steps + 1) = omega arith in
    (n, leads_as _ _ (ap (λ (steps : ℕ). held_at t index root n guarded.link guarded.era steps post) e) (then_leads x z))
