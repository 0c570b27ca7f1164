-- The three steps of a try, whatever the protection is for.
use Rattle.std.proofs.Common.{List, [], ap, arith, refl, ℕ, ◌+◌, ◌∙◌, ◌≡◌, true, false, if◌then◌else◌, ◌==◌}
use Rattle.std.proofs.lemmas.Bool.{eq-eqb, ne_eqb}
use Rattle.wfe_core.specs.words.Place.Place.{Clock, Index}
use Rattle.wfe_core.specs.defs.declared.event.Root.{Root}
use Rattle.wfe_core.specs.Links.{link_place}
use Rattle.wfe_core.specs.Locals.{Local}
use Rattle.wfe_core.specs.Memory.{Load, Store, bump}
use Rattle.wfe_core.specs.Phases.{ProtectAt, goes}
use Rattle.wfe_core.specs.Phases.Base.{Protect}
use Rattle.wfe_core.specs.Phases.ProtectAt.{CheckClock, LoadLink, PublishEra}
use Rattle.wfe_core.specs.Posts.{index_word}
use Rattle.wfe_core.specs.Protect.{failed_once, protected}
use Rattle.wfe_core.specs.Ready.{LinkFits}
use Rattle.wfe_core.specs.Steps.{run_turn}
use Rattle.wfe_core.specs.declared.op.Op.{Op}
use Rattle.wfe_core.specs.declared.post.Post.{Post}
use Rattle.wfe_drive_cells.specs.Unit.{SeatView, kept_desk, seat_after}
use Rattle.wfe_drive_words.specs.Path.{AsksFor, Leads, Publishes, StepFrom, StepsOn, Trial, failed, held_at, protecting, publishing}
use Rattle.wfe_drive_words.proofs.Leading.{here_on, leads_as, then_leads}
use Rattle.wfe_drive_cells.specs.Spots.{spotted}
use Rattle.wfe_drive_cells.specs.declared.located.Located.{Located}

-- one step more of the protection and of the call
abbrev pub once : Trial → Trial
once t = record t { made = bump t.made; steps = t.steps + 1 }

-- the steps that were made, from one trial
pub record Tries (at0 at1 at2 at3 : Local → Type 0) (stands0 stands1 stands2 stands3 : List (Op × ℕ) → Type 0) (t : Trial) (index : ℕ) (root : Root) (era : ℕ) (post : Post) (n link seen : ℕ) : Type 0 where
  pub first : StepsOn at0 at1 stands0 stands1 (publishing t index root era post) n
  pub second : StepsOn at1 at2 stands1 stands2 (protecting (once t) index root (LoadLink era t.tries) post) link
  pub third : StepsOn at2 at3 stands2 stands3 (protecting (once (once t)) index root (CheckClock era t.tries link) post) seen
  pub leads : Leads at0 at2 stands0 stands2 (publishing t index root era post) (protecting (once (once t)) index root (CheckClock era t.tries link) post)

-- the first of them
publish-asks : {at : Local → Type 0} (t : Trial) (index : ℕ) (root : Root) (era : ℕ) (post : Post) (op : Located) → Publishes at t index root era post → op ≡ spotted post.layout (Store (Index post.seat index) (index_word post index era)) → AsksFor at (publishing t index root era post) op
publish-asks t index root era post op p o = record { here = p.here; busy = refl; is = o }

published : {at0 at1 : Local → Type 0} {stands0 stands1 : List (Op × ℕ) → Type 0} (t : Trial) (index : ℕ) (root : Root) (era : ℕ) (post : Post) (n : ℕ) → Publishes at0 t index root era post → StepsOn at0 at1 stands0 stands1 (publishing t index root era post) n
    → Leads at0 at1 stands0 stands1 (publishing t index root era post) (protecting (once t) index root (LoadLink era t.tries) post)
published t index root era post n p s = leads_as _ _ (ap (λ (at : ProtectAt). protecting (once t) index root at post) p.tries) s.leads

-- what its second and third step ask for
pub link_asks : {at0 at1 : Local → Type 0} {stands0 stands1 : List (Op × ℕ) → Type 0} (t : Trial) (index : ℕ) (root : Root) (era : ℕ) (post : Post) (op0 op1 : Located) (n : ℕ) → Publishes at0 t index root era post
    → op0 ≡ spotted post.layout (Store (Index post.seat index) (index_word post index era)) → StepFrom at0 at1 stands0 stands1 op0 n → op1 ≡ spotted post.layout (Load (link_place root)) → AsksFor at1 (protecting (once t) index root (LoadLink era t.tries) post) op1
link_asks t index root era post op0 op1 n p o0 s0 o1 = record { here = here_on p.here (published t index root era post n p (s0 (publishing t index root era post) (publish-asks t index root era post op0 p o0))); busy = refl; is = o1 }

pub clock_asks : {at0 at1 at2 : Local → Type 0} {stands0 stands1 stands2 : List (Op × ℕ) → Type 0} (t : Trial) (index : ℕ) (root : Root) (era : ℕ) (post : Post) (op0 op1 op2 : Located) (n link : ℕ) → Publishes at0 t index root era post
    → op0 ≡ spotted post.layout (Store (Index post.seat index) (index_word post index era)) → StepFrom at0 at1 stands0 stands1 op0 n
    → op1 ≡ spotted post.layout (Load (link_place root)) → StepFrom at1 at2 stands1 stands2 op1 link
    → op2 ≡ spotted post.layout (Load Clock) → AsksFor at2 (protecting (once (once t)) index root (CheckClock era t.tries link) post) op2
clock_asks t index root era post op0 op1 op2 n link p o0 s0 o1 s1 o2 =
    let asks = link_asks t index root era post op0 op1 n p o0 s0 o1 in
    record { here = here_on asks.here (s1 (protecting (once t) index root (LoadLink era t.tries) post) asks).leads; busy = refl; is = o2 }

-- all three
pub tries_by : {at0 at1 at2 at3 : Local → Type 0} {stands0 stands1 stands2 stands3 : List (Op × ℕ) → Type 0} (t : Trial) (index : ℕ) (root : Root) (era : ℕ) (post : Post) (op0 op1 op2 : Located) (n link seen : ℕ) → Publishes at0 t index root era post
    → op0 ≡ spotted post.layout (Store (Index post.seat index) (index_word post index era)) → StepFrom at0 at1 stands0 stands1 op0 n
    → op1 ≡ spotted post.layout (Load (link_place root)) → StepFrom at1 at2 stands1 stands2 op1 link
    → op2 ≡ spotted post.layout (Load Clock) → StepFrom at2 at3 stands2 stands3 op2 seen
    → Tries at0 at1 at2 at3 stands0 stands1 stands2 stands3 t index root era post n link seen
tries_by t index root era post op0 op1 op2 n link seen p o0 s0 o1 s1 o2 s2 =
    let first = s0 (publishing t index root era post) (publish-asks t index root era post op0 p o0) in
    let second = s1 (protecting (once t) index root (LoadLink era t.tries) post) (link_asks t index root era post op0 op1 n p o0 s0 o1) in
    record {
      first = first;
      second = second;
      third = s2 (protecting (once (once t)) index root (CheckClock era t.tries link) post) (clock_asks t index root era post op0 op1 op2 n link p o0 s0 o1 s1 o2);
      leads = then_leads (published t index root era post n p first) second.leads;
    }

-- three steps more are counted
pub three : (steps : ℕ) → steps + 1 + 1 + 1 ≡ steps + 3
three steps = omega arith

-- and what they come to
abbrev checked : Trial → ℕ → Root → ℕ → ℕ → ℕ → Post → ℕ → SeatView
checked t index root era link seen post steps =
    let n : ℕ = bump (bump (bump t.made)) in
    let counted : Post = record post { steps = steps } in
    seat_after (run_turn t.why (kept_desk t.desk) (if seen == era then protected t.aim index root n link era counted else goes counted [] (Protect t.aim index root n (PublishEra seen (failed_once t.tries)))))

pub held : {at0 at1 at2 at3 : Local → Type 0} {stands0 stands1 stands2 stands3 : List (Op × ℕ) → Type 0} (t : Trial) (index : ℕ) (root : Root) (era : ℕ) (post : Post) (n link seen : ℕ) → seen ≡ era → Tries at0 at1 at2 at3 stands0 stands1 stands2 stands3 t index root era post n link seen
    → Leads at0 at3 stands0 stands3 (publishing t index root era post) (held_at t index root (bump (bump (bump t.made))) link era (t.steps + 3) post)
held t index root era post n link seen e s =
    let test : (seen == era) ≡ true = eq-eqb seen era e in
    let counted : checked t index root era link seen post (t.steps + 1 + 1 + 1) ≡ checked t index root era link seen post (t.steps + 3) = ap (checked t index root era link seen post) (three t.steps) in
    let is : checked t index root era link seen post (t.steps + 3) ≡ held_at t index root (bump (bump (bump t.made))) link era (t.steps + 3) post = rw test refl in
    leads_as _ _ (counted ∙ is) (then_leads s.leads s.third.leads)

pub moved : {at0 at1 at2 at3 : Local → Type 0} {stands0 stands1 stands2 stands3 : List (Op × ℕ) → Type 0} (t : Trial) (index : ℕ) (root : Root) (era : ℕ) (post : Post) (n link seen : ℕ) → (seen ≡ era → ⊥) → Tries at0 at1 at2 at3 stands0 stands1 stands2 stands3 t index root era post n link seen
    → Leads at0 at3 stands0 stands3 (publishing t index root era post) (publishing (failed t) index root seen post)
moved t index root era post n link seen e s =
    let test : (seen == era) ≡ false = ne_eqb seen era e in
    let counted : checked t index root era link seen post (t.steps + 1 + 1 + 1) ≡ checked t index root era link seen post (t.steps + 3) = ap (checked t index root era link seen post) (three t.steps) in
    let is : checked t index root era link seen post (t.steps + 3) ≡ publishing (failed t) index root seen post = rw test refl in
    leads_as _ _ (counted ∙ is) (then_leads s.leads s.third.leads)

-- what they found is in range
pub link_fits : {at0 at1 at2 : Local → Type 0} {stands0 stands1 stands2 : List (Op × ℕ) → Type 0} (t : Trial) (index : ℕ) (root : Root) (era : ℕ) (post : Post) (op0 op1 : Located) (n link : ℕ) → Publishes at0 t index root era post
    → op0 ≡ spotted post.layout (Store (Index post.seat index) (index_word post index era)) → StepFrom at0 at1 stands0 stands1 op0 n
    → op1 ≡ spotted post.layout (Load (link_place root)) → StepFrom at1 at2 stands1 stands2 op1 link → LinkFits post link
link_fits t index root era post op0 op1 n link p o0 s0 o1 s1 =
    let s = s1 (protecting (once t) index root (LoadLink era t.tries) post) (link_asks t index root era post op0 op1 n p o0 s0 o1) in
    s.take.plausible
