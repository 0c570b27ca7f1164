-- Looks at a link under 2GE, whatever the protection is for.
use Rattle.std.proofs.Common.{List, [], ap, arith, false, refl, true, ℕ, ◌+◌, ◌==◌, ◌∙◌, ◌≡◌, if◌then◌else◌}
use Rattle.std.proofs.lemmas.Bool.{eq-eqb, ne_eqb}
use Rattle.wfe_core.specs.words.Place.Place.{Clock, Interval}
use Rattle.wfe_core.specs.defs.declared.event.Root.{Root}
use Rattle.wfe_core.specs.Links.{link_place}
use Rattle.wfe_core.specs.Locals.{Local}
use Rattle.wfe_core.specs.Memory.{Load, Store, bump}
use Rattle.wfe_core.specs.Phases.{goes}
use Rattle.wfe_core.specs.Phases.Base.{Protect}
use Rattle.wfe_core.specs.Phases.ProtectAt.{CheckUpper, LoadWithin, RaiseUpper}
use Rattle.wfe_core.specs.Protect.{protected}
use Rattle.wfe_core.specs.Spans.{eras_word}
use Rattle.wfe_core.specs.Steps.{run_turn}
use Rattle.wfe_core.specs.Valid.{IsValid}
use Rattle.wfe_core.specs.declared.op.Op.{Op}
use Rattle.wfe_core.specs.declared.post.Post.{Post}
use Rattle.wfe_drive_cells.specs.Unit.{SeatView, kept_desk, seat_after}
use Rattle.wfe_drive_words.specs.Called.{Here}
use Rattle.wfe_drive_words.specs.declared.within.Looked.TheVariants.{Raised, Stands}
use Rattle.wfe_drive_words.specs.Path.{AsksFor, Leads, StepFrom, StepsOn, Trial, held_at, looked_at, protecting, spanned, within_at}
use Rattle.wfe_drive_words.proofs.Leading.{here_on, leads_as, leads_none, then_leads}
use Rattle.wfe_drive_words.proofs.Trying.{once, three}
use Rattle.wfe_drive_cells.specs.Spots.{spotted}
use Rattle.wfe_drive_cells.specs.declared.located.Located.{Located}

-- a step of the protection asks for its word
pub look_asks : {at : Local → Type 0} (t : Trial) (index : ℕ) (root : Root) (lo hi : ℕ) (post : Post) (op : Located) → Here at (protecting t index root LoadWithin (spanned post lo hi)) → op ≡ spotted post.layout (Load (link_place root)) → AsksFor at (protecting t index root LoadWithin (spanned post lo hi)) op
look_asks t index root lo hi post op h o = record { here = h; busy = refl; is = o }

pub upper_asks : {at0 at1 : Local → Type 0} {stands0 stands1 : List (Op × ℕ) → Type 0} (t : Trial) (index : ℕ) (root : Root) (lo hi : ℕ) (post : Post) (op0 op1 : Located) (link : ℕ) → Here at0 (protecting t index root LoadWithin (spanned post lo hi))
    → op0 ≡ spotted post.layout (Load (link_place root)) → StepFrom at0 at1 stands0 stands1 op0 link → op1 ≡ spotted post.layout (Load Clock)
    → AsksFor at1 (protecting (once t) index root (CheckUpper link) (spanned post lo hi)) op1
upper_asks t index root lo hi post op0 op1 link h o0 s0 o1 = record { here = here_on h (s0 _ (look_asks t index root lo hi post op0 h o0)).leads; busy = refl; is = o1 }

-- the first two steps
pub record Looks (at0 at1 at2 : Local → Type 0) (stands0 stands1 stands2 : List (Op × ℕ) → Type 0) (t : Trial) (index : ℕ) (root : Root) (lo hi : ℕ) (post : Post) (link seen : ℕ) : Type 0 where
  pub first : StepsOn at0 at1 stands0 stands1 (protecting t index root LoadWithin (spanned post lo hi)) link
  pub second : StepsOn at1 at2 stands1 stands2 (protecting (once t) index root (CheckUpper link) (spanned post lo hi)) seen
  pub leads : Leads at0 at1 stands0 stands1 (protecting t index root LoadWithin (spanned post lo hi)) (protecting (once t) index root (CheckUpper link) (spanned post lo hi))

pub looks_by : {at0 at1 at2 : Local → Type 0} {stands0 stands1 stands2 : List (Op × ℕ) → Type 0} (t : Trial) (index : ℕ) (root : Root) (lo hi : ℕ) (post : Post) (op0 op1 : Located) (link seen : ℕ) → Here at0 (protecting t index root LoadWithin (spanned post lo hi))
    → op0 ≡ spotted post.layout (Load (link_place root)) → StepFrom at0 at1 stands0 stands1 op0 link → op1 ≡ spotted post.layout (Load Clock) → StepFrom at1 at2 stands1 stands2 op1 seen
    → Looks at0 at1 at2 stands0 stands1 stands2 t index root lo hi post link seen
looks_by t index root lo hi post op0 op1 link seen h o0 s0 o1 s1 =
    let first = s0 _ (look_asks t index root lo hi post op0 h o0) in
    record { first = first; second = s1 _ (upper_asks t index root lo hi post op0 op1 link h o0 s0 o1); leads = first.leads }

-- and what the second leaves
abbrev upper_checked : Trial → ℕ → Root → (lo hi : ℕ) → Post → (link seen steps : ℕ) → SeatView
upper_checked t index root lo hi post link seen steps =
    let n : ℕ = bump (bump t.made) in
    let counted : Post = record (spanned post lo hi) { steps = steps } in
    seat_after (run_turn t.why (kept_desk t.desk) (if seen == hi then protected t.aim index root n link seen counted else goes counted [] (Protect t.aim index root n (RaiseUpper seen))))

two : (steps : ℕ) → steps + 1 + 1 ≡ steps + 2
two steps = omega arith

pub stands_within : {at0 at1 at2 : Local → Type 0} {stands0 stands1 stands2 : List (Op × ℕ) → Type 0} (t : Trial) (index : ℕ) (root : Root) (lo hi : ℕ) (post : Post) (link seen : ℕ) → seen ≡ hi → Looks at0 at1 at2 stands0 stands1 stands2 t index root lo hi post link seen
    → Leads at0 at2 stands0 stands2 (protecting t index root LoadWithin (spanned post lo hi)) (looked_at t index root lo hi post (Stands link))
stands_within t index root lo hi post link seen e s =
    let test : (seen == hi) ≡ true = eq-eqb seen hi e in
    let counted : upper_checked t index root lo hi post link seen (t.steps + 1 + 1) ≡ upper_checked t index root lo hi post link seen (t.steps + 2) = ap (upper_checked t index root lo hi post link seen) (two t.steps) in
    let is : upper_checked t index root lo hi post link seen (t.steps + 2) ≡ held_at t index root (bump (bump t.made)) link seen (t.steps + 2) (spanned post lo hi) = rw test refl in
    leads_as _ _ (counted ∙ is ∙ ap (λ (era : ℕ). held_at t index root (bump (bump t.made)) link era (t.steps + 2) (spanned post lo hi)) e) (then_leads s.leads s.second.leads)

pub passes_upper : {at0 at1 at2 : Local → Type 0} {stands0 stands1 stands2 : List (Op × ℕ) → Type 0} (t : Trial) (index : ℕ) (root : Root) (lo hi : ℕ) (post : Post) (link seen : ℕ) → (seen ≡ hi → ⊥) → Looks at0 at1 at2 stands0 stands1 stands2 t index root lo hi post link seen
    → Leads at0 at2 stands0 stands2 (protecting t index root LoadWithin (spanned post lo hi)) (protecting (once (once t)) index root (RaiseUpper seen) (spanned post lo hi))
passes_upper t index root lo hi post link seen e s =
    let test : (seen == hi) ≡ false = ne_eqb seen hi e in
    let is : upper_checked t index root lo hi post link seen (t.steps + 1 + 1) ≡ protecting (once (once t)) index root (RaiseUpper seen) (spanned post lo hi) = rw test refl in
    leads_as _ _ is (then_leads s.leads s.second.leads)

pub raise_asks : {at0 at1 : Local → Type 0} {stands0 stands1 : List (Op × ℕ) → Type 0} (t : Trial) (index : ℕ) (root : Root) (lo hi seen : ℕ) (post : Post) (op : Located) → Here at0 (protecting t index root LoadWithin (spanned post lo hi))
    → Leads at0 at1 stands0 stands1 (protecting t index root LoadWithin (spanned post lo hi)) (protecting (once (once t)) index root (RaiseUpper seen) (spanned post lo hi)) → op ≡ spotted post.layout (Store (Interval post.seat) (eras_word lo seen))
    → AsksFor at1 (protecting (once (once t)) index root (RaiseUpper seen) (spanned post lo hi)) op
raise_asks t index root lo hi seen post op h x o = record { here = here_on h x; busy = refl; is = o }

pub raised : {at0 at1 at2 : Local → Type 0} {stands0 stands1 stands2 : List (Op × ℕ) → Type 0} (t : Trial) (index : ℕ) (root : Root) (lo hi seen : ℕ) (post : Post) (n : ℕ)
    → Leads at0 at1 stands0 stands1 (protecting t index root LoadWithin (spanned post lo hi)) (protecting (once (once t)) index root (RaiseUpper seen) (spanned post lo hi))
    → StepsOn at1 at2 stands1 stands2 (protecting (once (once t)) index root (RaiseUpper seen) (spanned post lo hi)) n
    → Leads at0 at2 stands0 stands2 (protecting t index root LoadWithin (spanned post lo hi)) (looked_at t index root lo hi post (Raised seen))
raised t index root lo hi seen post n x s =
    leads_as _ _ (ap (λ (steps : ℕ). protecting (record t { made = bump (bump (bump t.made)); steps = steps }) index root LoadWithin (spanned post lo seen)) (three t.steps)) (then_leads x s.leads)

-- looks without end
abbrev pub looking : Trial → (made steps : ℕ) → Trial
looking t made steps = record t { made = made; steps = t.steps + steps }

pub looks_none : (at : Local → Type 0) (stands : List (Op × ℕ) → Type 0) (t : Trial) (index : ℕ) (root : Root) (lo hi : ℕ) (post : Post)
    → (n : ℕ) × Leads at at stands stands (protecting t index root LoadWithin (spanned post lo hi)) (protecting (looking t n 0) index root LoadWithin (spanned post lo hi))
looks_none at stands t index root lo hi post =
    let e : t.steps ≡ t.steps + 0 = omega arith in
    (t.made, leads_as _ _ (ap (λ (steps : ℕ). protecting (record t { steps = steps }) index root LoadWithin (spanned post lo hi)) e) (leads_none at stands (protecting t index root LoadWithin (spanned post lo hi))))

pub looks_more : {at0 at1 at2 : Local → Type 0} {stands0 stands1 stands2 : List (Op × ℕ) → Type 0} (t : Trial) (index : ℕ) (root : Root) (lo first hi seen : ℕ) (post : Post) (n steps : ℕ)
    → Leads at0 at1 stands0 stands1 (protecting t index root LoadWithin (spanned post lo first)) (protecting (looking t n steps) index root LoadWithin (spanned post lo hi))
    → Leads at1 at2 stands1 stands2 (protecting (looking t n steps) index root LoadWithin (spanned post lo hi)) (looked_at (looking t n steps) index root lo hi post (Raised seen))
    → (m : ℕ) × Leads at0 at2 stands0 stands2 (protecting t index root LoadWithin (spanned post lo first)) (protecting (looking t m (steps + 3)) index root LoadWithin (spanned post lo seen))
looks_more t index root lo first hi seen post n steps x y =
    let m : ℕ = bump (bump (bump n)) in
    let e : t.steps + steps + 3 ≡ t.steps + (steps + 3) = omega arith in
    (m, leads_as _ _ (ap (λ (s : ℕ). protecting (record t { made = m; steps = s }) index root LoadWithin (spanned post lo seen)) e) (then_leads x y))

pub looks_held : {at0 at1 at2 : Local → Type 0} {stands0 stands1 stands2 : List (Op × ℕ) → Type 0} (t : Trial) (index : ℕ) (root : Root) (lo first hi link : ℕ) (post : Post) (n steps : ℕ)
    → Leads at0 at1 stands0 stands1 (protecting t index root LoadWithin (spanned post lo first)) (protecting (looking t n steps) index root LoadWithin (spanned post lo hi))
    → Leads at1 at2 stands1 stands2 (protecting (looking t n steps) index root LoadWithin (spanned post lo hi)) (looked_at (looking t n steps) index root lo hi post (Stands link))
    → (m : ℕ) × Leads at0 at2 stands0 stands2 (protecting t index root LoadWithin (spanned post lo first)) (within_at t index root lo post m (record { link = link; era = hi; steps = steps + 2 }))
looks_held t index root lo first hi link post n steps x y =
    let m : ℕ = bump (bump n) in
    let e : t.steps + steps + 2 ≡ t.steps + (steps + 2) = omega arith in
    (m, leads_as _ _ (ap (λ (s : ℕ). held_at t index root m link hi s (spanned post lo hi)) e) (then_leads x y))

-- steps do not make a post less valid
pub valid_steps : (post : Post) (steps : ℕ) → IsValid post → IsValid (record post { steps = steps })
valid_steps post steps v = record { layout = v.layout; bounds = v.bounds; seat = v.seat; cursor = v.cursor; tags = v.tags; standing = v.standing; span = v.span; all_tags = v.all_tags; all_standing = v.all_standing }
