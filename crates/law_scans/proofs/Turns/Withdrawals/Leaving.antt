-- Where a seat stands after a step: at what its machine goes on to, or at the first phase of something else.
use Rattle.law_reuse.specs.inv.model.declared.ends.FollowEnd.TheVariants as follow_ends
use Rattle.law_reuse.specs.inv.model.Phases.Ending.{Followed}
use Rattle.std.proofs.Common.{ℕ, ◌≡◌, Bool, true, false, List, refl, sym, subst, ap, ◌∙◌}
use Rattle.std.specs.Prelude.{◌==◌, ◌&&◌}
use Rattle.law_reuse.specs.laws.words.Place.{is_valid}
use Rattle.law_reuse.specs.laws.words.declared.config.SchemeKind.{SchemeKind}
use Rattle.law_reuse.specs.laws.words.declared.config.SchemeKind.TheVariants.{He, Hp, Ibr, Wfe}
use Rattle.law_reuse.specs.laws.words.declared.layout.Layout.{Layout}
use Rattle.law_reuse.specs.laws.defs.declared.call.Call.{Call}
use Rattle.law_reuse.specs.laws.defs.declared.event.Event.{Event}
use Rattle.law_reuse.specs.inv.model.declared.post.Post.{Post}
use Rattle.law_reuse.specs.inv.model.Desks.{Desk}
use Rattle.law_reuse.specs.inv.model.Machine as machine
use Rattle.law_reuse.specs.inv.model.Phases.{Tries, Endless, Failed, ProtectAt, AllocateAt, RetireAt, MoveAt, BeginAt, Base, Outcome, Goes, Ends, Ending}
use Rattle.law_reuse.specs.inv.model.Phases.BeginAt.{LoadLower}
use Rattle.law_reuse.specs.inv.model.Phases.ProtectAt.{LoadClock, LoadWithin, ByHazard}
use Rattle.law_reuse.specs.inv.model.Phases.HazardAt.{FirstLink}
use Rattle.law_reuse.specs.inv.model.Phases.AllocateAt.{LoadBirth}
use Rattle.law_reuse.specs.inv.model.Phases.RetireAt.{LoadLife}
use Rattle.law_reuse.specs.inv.model.Phases.MoveAt.{LoadEra}
use Rattle.law_reuse.specs.inv.model.Phases.Base.{Begin, Protect, Reload, Clear, Finish, Release, Allocate, Write, GiveUp, Retire, Move}
use Rattle.law_reuse.specs.inv.model.Posts.{counted}
use Rattle.law_reuse.specs.inv.model.Rounds.{scheme_of, protect_at, clear_base, clearing_next_by}
use Rattle.law_reuse.specs.inv.model.Steps as steps
use Rattle.law_reuse.specs.inv.model.World.{World, finds, offered, step}
use Rattle.law_reuse.specs.inv.model.Calls.{Why, LoadHeld, Work, Keeping, Phase, Idle, Runs, Scans, Works, FollowsHead, ClearsNext, Again}
use Rattle.law_reuse.specs.inv.shapes.Frame.{Grows, Passed, Stores, phase_left}
use Rattle.law_reuse.specs.laws.words.Schemes.{is_ibr}
use Rattle.law_reuse.specs.inv.shapes.Seats.{PostFits, PhaseFits, Seats}
use Rattle.law_reuse.proofs.shapes.Inside.{shape_moves}
use Rattle.law_reuse.proofs.shapes.Kept.{bared_fits, counted_fits, run_counted, work_counted}
use Rattle.law_reuse.proofs.shapes.Shapes.{shape_grows}
use Rattle.law_reuse.proofs.shapes.Works.{resume_left, work_left, scan_left, first_grows}
use Rattle.law_reuse.proofs.inv.covers.Held.{stepped_phase}

-- the first step of a machine
abbrev pub begins_at : BeginAt → Bool
begins_at LoadLower = true
begins_at at = false

abbrev pub tries_none : Tries → Bool
tries_none Endless = true
tries_none (Failed count) = count == 0

abbrev pub protects_at : ProtectAt → Bool
protects_at (LoadClock tries) = tries_none tries
protects_at LoadWithin = true
protects_at (ByHazard FirstLink) = true
protects_at at = false

abbrev pub allocates_at : AllocateAt → Bool
allocates_at LoadBirth = true
allocates_at at = false

abbrev pub retires_at : RetireAt → Bool
retires_at (LoadLife slot) = true
retires_at at = false

abbrev pub moves_at : MoveAt → Bool
moves_at (LoadEra helps) = true
moves_at at = false

abbrev pub is_first : Base → Bool
is_first (Begin at) = begins_at at
is_first (Protect aim index root steps at) = protects_at at && steps == 0
is_first (Reload parent index slot era steps) = false
is_first (Clear rows index) = true
is_first Finish = true
is_first (Release index) = true
is_first (Allocate at) = allocates_at at
is_first (Write slot row place) = true
is_first (GiveUp slot) = true
is_first (Retire at) = retires_at at
is_first (Move at) = moves_at at

-- a phase that no step inside a machine comes to, but for the writing of a row
abbrev pub is_new : Phase → Bool
is_new Idle = true
is_new (Runs why base) = is_first base
is_new (Scans later at) = true
is_new (Works work) = true

abbrev pub New : Post → Phase → Type 0
New post phase = is_new phase ≡ true

protect_new : (scheme : SchemeKind) → (protects_at (protect_at scheme) && true) ≡ true
protect_new He = refl
protect_new Ibr = refl
protect_new Hp = refl
protect_new Wfe = refl

new_grows : (layout : Layout) (k : ℕ) → is_valid layout ≡ true → Grows (PostFits layout k) New
new_grows layout k v =
    let g = shape_grows layout k v in
    record {
      guarded = g.guarded;
      withdraws = g.withdraws;
      copies = g.copies;
      idle = λ post q. refl;
      begins = λ post task ibr none q. refl;
      opens = λ post task s q. protect_new (scheme_of post);
      follows = λ post head tail s q. protect_new (scheme_of post);
      allocates = λ post task s q. refl;
      writes = λ post task slot row s q. refl;
      clears = λ post task next n q. refl;
      clears_next = λ post next n q. refl;
      finishes = λ post task next a b q. refl;
      gives_up = λ post answer slot q. refl;
      retires = λ post answer slot q. refl;
      tidies = λ post later m q. refl;
      advances = λ post q. refl;
      clears_kept = λ post let_go n q. refl;
      releases = λ post let_go i n q. refl;
      scans = λ post later number b q. refl;
      gives_back = λ post later place slot q. refl;
      works = λ post work n s q. refl;
    }

stores_new : (work : Work) (post : Post) (found : ℕ) → Stores New post found work
stores_new (Keeping (LoadHeld from index)) post found = λ n. refl
stores_new work post found = tt

-- where the head has moved, index 1 is cleared
abbrev pub Moved : (interval : Bool) → Why → Ending → Phase → Type 0
Moved interval (FollowsHead head tail) (Followed (follow_ends.RootMoved seen)) phase = interval ≡ false → (rows : Bool) × (phase ≡ Runs (ClearsNext Again) (Clear rows 1))
Moved interval why ending phase = Unit {0}

-- the machine goes on to this phase, or it has ended and the phase is new
abbrev pub Leads : (interval : Bool) → Why → Outcome → Phase → Type 0
Leads interval why (Goes base) phase = phase ≡ Runs why base
Leads interval why (Ends ending) phase = (is_new phase ≡ true) × Moved interval why ending phase

abbrev pub Left : (interval : Bool) → Phase → Post → ℕ → Phase → Type 0
Left interval Idle post found next = is_new next ≡ true
Left interval (Runs why base) post found next = Leads interval why (machine.after base post found).outcome next
Left interval (Scans later at) post found next = is_new next ≡ true
Left interval (Works work) post found next = is_new next ≡ true

cleared_next : (scheme : SchemeKind) (post : Post) (desk : Desk) (told : List Event) → is_ibr scheme ≡ false → (rows : Bool) × (phase_left (clearing_next_by Again post desk told (clear_base scheme 1)).outcome ≡ Runs (ClearsNext Again) (Clear rows 1))
cleared_next He post desk told n = (false, refl)
cleared_next Ibr post desk told n = absurd (cc)
cleared_next Wfe post desk told n = (false, refl)
cleared_next Hp post desk told n = (true, refl)

moved_next : (layout : Layout) (why : Why) (ending : Ending) (post : Post) (desk : Desk) (told : List Event) → post.layout ≡ layout → Moved (is_ibr layout.config.scheme) why ending (phase_left (steps.resume why ending post desk told).outcome)
moved_next layout (FollowsHead head tail) (Followed (follow_ends.RootMoved seen)) post desk told e = λ n. cleared_next (scheme_of post) post desk told (ap (λ (table : Layout). is_ibr table.config.scheme) e ∙ n)
moved_next layout why ending post desk told e = tt

resumed_leads : (layout : Layout) (k : ℕ) → is_valid layout ≡ true → (why : Why) (desk : Desk) (post : Post) (told : List Event) (outcome : Outcome) → PostFits layout k post → Passed (PhaseFits layout) why post outcome → Leads (is_ibr layout.config.scheme) why outcome (phase_left (steps.resumed why desk post told outcome).outcome)
resumed_leads layout k v why desk post told (Goes base) q p = refl
resumed_leads layout k v why desk post told (Ends ending) q p =
    let l = resume_left (new_grows layout k v) why ending post desk told p q in (l.phase, moved_next layout why ending post desk told q.layout)

turn_leads : (layout : Layout) (k : ℕ) → is_valid layout ≡ true → (phase : Phase) (post : Post) (desk : Desk) (found : ℕ) → PostFits layout k post → PhaseFits layout post phase → Left (is_ibr layout.config.scheme) phase (counted post) found (phase_left (steps.phase_turn phase (counted post) desk found).outcome)
turn_leads layout k v Idle post desk found q f = refl
turn_leads layout k v (Runs why base) post desk found q f =
    let t = machine.after base (counted post) found in
    let m = shape_moves layout k v why base (counted post) found (counted_fits layout k post q) (run_counted layout why base post f) in
    resumed_leads layout k v why desk t.post t.told t.outcome m.post m.phase
turn_leads layout k v (Scans later at) post desk found q f = let l = scan_left (new_grows layout k v) later at (counted post) desk found (counted_fits layout k post q) in l.phase
turn_leads layout k v (Works work) post desk found q f = let l = work_left (new_grows layout k v) work (counted post) desk found (work_counted work post f) (stores_new work (counted post) found) (bared_fits layout k work (counted post) (counted_fits layout k post q)) in l.phase

-- a step of a seat
pub stepped_leads : (w : World) (i : ℕ) → is_valid w.layout ≡ true → Seats w → Left (is_ibr w.layout.config.scheme) (w.seat i).phase (counted (w.seat i).post) (finds w i) ((step w i).seat i).phase
stepped_leads w i v s =
    let a = s.fits i in
    subst (λ (next : Phase). Left (is_ibr w.layout.config.scheme) (w.seat i).phase (counted (w.seat i).post) (finds w i) next) (sym (stepped_phase w i)) (turn_leads w.layout i v (w.seat i).phase (w.seat i).post (offered w i).desk (finds w i) a.post a.phase)

-- a call begins
pub first_new : (layout : Layout) (k : ℕ) → is_valid layout ≡ true → (call : Call) (post : Post) → PostFits layout k post → is_new (steps.first_phase call post) ≡ true
first_new layout k v call post q = first_grows (new_grows layout k v) call post q
