-- A walk's facts hold from the start on, and over each step and each call that begins.
use Rattle.std.proofs.Common.{ℕ, ◌+◌, ◌≤◌, Bool, true, false, ◌≡◌, ◌∙◌, sym, refl, ap, subst, arith}
use Rattle.std.proofs.lemmas.Bool.Decides.{nat_tests}
use Rattle.inv_rows.specs.model.declared.ends.AllocateEnd.TheVariants as allocate_ends
use Rattle.inv_rows.specs.model.Machine as machine
use Rattle.inv_rows.specs.model.Allocate.{after_claim_slot, is_claimed, walk_past, walking}
use Rattle.inv_rows.specs.model.Calls.{Phase, Why}
use Rattle.inv_rows.specs.model.Calls.Phase.{Idle, Runs, Scans, Works}
use Rattle.inv_rows.specs.model.Locals.{Local, after, begun}
use Rattle.inv_rows.specs.model.Memory.{upd}
use Rattle.inv_rows.specs.model.Phases.{Base, Outcome, RowOf, Walk, ends, goes}
use Rattle.inv_rows.specs.model.Phases.AllocateAt.{ClaimSlot, LoadBirth, StoreLife}
use Rattle.inv_rows.specs.model.Phases.Base.{Allocate, Begin, Clear, Finish, GiveUp, Move, Protect, Release, Reload, Retire, Write}
use Rattle.inv_rows.specs.model.Phases.Ending.{Allocated, Done}
use Rattle.inv_rows.specs.model.Phases.Outcome.{Ends, Goes}
use Rattle.inv_rows.specs.model.Posts.{counted}
use Rattle.inv_rows.specs.model.World.{begin, finds, offered, step}
use Rattle.inv_rows.specs.model.WriteRow.{last_written}
use Rattle.inv_rows.specs.model.declared.post.Post.{Post}
use Rattle.inv_rows.proofs.Shapes.Frame.{after_seated, begin_begins, begin_stays, begun_seated, moves_with, seat_stays, seat_steps}
use Rattle.inv_rows.proofs.Shapes.Inside.{shape_moves}
use Rattle.inv_rows.proofs.Shapes.Kept.{bared_fits, begun_fits, counted_fits, one_moves, run_counted, work_counted}
use Rattle.inv_rows.proofs.Shapes.Shapes.{shape_grows}
use Rattle.inv_rows.specs.Shapes.Frame.{Grows, Moves, Onward, Owes, Passed, Seated}
use Rattle.inv_rows.specs.Shapes.Seats.{PhaseFits, PostFits, Run, fills, kind_of}
use Rattle.inv_ends.proofs.Walks.Seen.{OnSeen, begins_seen, more_seen, past_seen}
use Rattle.inv_ends.specs.Walks.{FullSeen, WalkBase, WalkPhase, WalkSeen, WalkingBegin, WalkingKept, WalkingStart, seen_after, seen_base, seen_in}
use Rattle.inv_rows.specs.words.Place.{is_valid}
use Rattle.inv_rows.specs.words.declared.layout.Layout.{Layout}
use Rattle.std.specs.Prelude.{[], Option, Some, None, if◌then◌else◌, ◌==◌}
use Rattle.inv_ends.proofs.Told.Births.{apart, each_stores}
use Rattle.inv_rows.proofs.model.Facts.{no_truth_2}

-- where a call comes to by no step of a machine there is no walk that has begun
walk_grows : (layout : Layout) (k : ℕ) (seen : ℕ → Bool) → is_valid layout ≡ true → Grows (PostFits layout k) (λ post phase. WalkPhase layout.config.slots seen phase)
walk_grows layout k seen v = let g = shape_grows layout k v in record {
  guarded = g.guarded;
  withdraws = g.withdraws;
  copies = g.copies;
  idle = λ post q. tt;
  begins = λ post task s e q. tt;
  opens = λ post task s q. tt;
  follows = λ post head tail s q. tt;
  allocates = λ post task s q. tt;
  writes = λ post task slot row s q. tt;
  clears = λ post task next s q. tt;
  clears_next = λ post next s q. tt;
  finishes = λ post task next s e q. tt;
  gives_up = λ post answer slot q. tt;
  retires = λ post answer slot q. tt;
  tidies = λ post later m q. tt;
  advances = λ post q. tt;
  clears_kept = λ post let_go s q. tt;
  releases = λ post let_go s e q. tt;
  scans = λ post later number b q. tt;
  gives_back = λ post later place slot q. tt;
  works = λ post work n s q. tt;
}

-- a machine that fills no row goes on to none that does
other_base : (layout : Layout) (why : Why) (base : Base) (post : Post) (seen : ℕ → Bool) → fills (kind_of why) ≡ false → Run layout why base post → WalkBase layout.config.slots seen base
other_base layout why (Begin at) post seen f r = tt
other_base layout why (Protect aim index root steps at) post seen f r = tt
other_base layout why (Reload parent index slot era steps) post seen f r = tt
other_base layout why (Clear rows index) post seen f r = tt
other_base layout why Finish post seen f r = tt
other_base layout why (Release index) post seen f r = tt
other_base layout why (Allocate at) post seen f r = no_truth_2 (sym f ∙ r.suited)
other_base layout why base post seen f r = tt

other_on : (layout : Layout) (why : Why) (post : Post) (outcome : Outcome) (seen : ℕ → Bool) → fills (kind_of why) ≡ false → Passed (PhaseFits layout) why post outcome → Onward (λ p phase. WalkPhase layout.config.slots seen phase) why post outcome
other_on layout why post (Goes base) seen f r = other_base layout why base post seen f r
other_on layout why post (Ends ending) seen f r = tt

write_on : (slots : ℕ) (why : Why) (post left : Post) (slot : ℕ) (row : RowOf) (place : ℕ) (seen : ℕ → Bool) (last : Bool) → Onward (λ p phase. WalkPhase slots seen phase) why left (if last then ends post [] Done else goes post [] (Write slot row (place + 1))).outcome
write_on slots why post left slot row place seen true = tt
write_on slots why post left slot row place seen false = tt

walking_on : (slots : ℕ) (why : Why) (birth : ℕ) (post left : Post) (x : Option Walk) (seen : ℕ → Bool) → OnSeen slots seen x → Onward (λ p phase. WalkPhase slots seen phase) why left (walking birth post x).outcome
walking_on slots why birth post left None seen h = tt
walking_on slots why birth post left (Some walk) seen h = h

claim_on : (why : Why) (birth : ℕ) (walk : Walk) (post left : Post) (found : ℕ) (seen : ℕ → Bool) (taken : Bool) → is_claimed found walk.slot ≡ taken → WalkSeen post.layout.config.slots walk seen
    → Onward (λ p phase. WalkPhase post.layout.config.slots (more_seen walk found seen) phase) why left (after_claim_slot birth walk post found).outcome
claim_on why birth walk post left found seen true e x =
    rw e (walking_on post.layout.config.slots why birth post left (walk_past post.layout.config.slots walk found) (more_seen walk found seen) (past_seen post.layout.config.slots walk found seen x e))
claim_on why birth walk post left found seen false e x = rw e tt

slots_of : (layout : Layout) (post : Post) → post.layout ≡ layout → post.layout.config.slots ≡ layout.config.slots
slots_of layout post e = ap (λ (t : Layout). t.config.slots) e

claim_in : (layout : Layout) (why : Why) (birth : ℕ) (walk : Walk) (post left : Post) (found : ℕ) (seen : ℕ → Bool) → post.layout ≡ layout → WalkSeen layout.config.slots walk seen
    → Onward (λ p phase. WalkPhase layout.config.slots (more_seen walk found seen) phase) why left (after_claim_slot birth walk post found).outcome
claim_in layout why birth walk post left found seen l x =
    subst
    (λ (n : ℕ). Onward (λ p phase. WalkPhase n (more_seen walk found seen) phase) why left (after_claim_slot birth walk post found).outcome)
    (slots_of layout post l)
    (claim_on why birth walk post left found seen (is_claimed found walk.slot) refl (subst (λ (n : ℕ). WalkSeen n walk seen) (sym (slots_of layout post l)) x))

base_on : (layout : Layout) (k : ℕ) (why : Why) (base : Base) (post : Post) (found : ℕ) (seen : ℕ → Bool) → PostFits layout k post → Run layout why base post → WalkBase layout.config.slots seen base → Passed (PhaseFits layout) why (machine.after base post found).post (machine.after base post found).outcome
    → Onward (λ p phase. WalkPhase layout.config.slots (seen_base base found seen) phase) why (machine.after base post found).post (machine.after base post found).outcome
base_on layout k why (Begin at) post found seen q r x h = other_on layout why _ (machine.after (Begin at) post found).outcome seen (apart (Begin at) (kind_of why) refl r.suited) h
base_on layout k why (Protect aim index root steps at) post found seen q r x h = other_on layout why _ (machine.after (Protect aim index root steps at) post found).outcome seen (apart (Protect aim index root steps at) (kind_of why) refl r.suited) h
base_on layout k why (Reload parent index slot era steps) post found seen q r x h = other_on layout why _ (machine.after (Reload parent index slot era steps) post found).outcome seen (apart (Reload parent index slot era steps) (kind_of why) refl r.suited) h
base_on layout k why (Clear rows index) post found seen q r x h = tt
base_on layout k why Finish post found seen q r x h = tt
base_on layout k why (Release index) post found seen q r x h = tt
base_on layout k why (Allocate LoadBirth) post found seen q r x h = rw q.layout (begins_seen layout.config.slots post.cursor (λ s. false) q.cursor)
base_on layout k why (Allocate (ClaimSlot birth walk)) post found seen q r x h = claim_in layout why birth walk post post found seen q.layout x
base_on layout k why (Allocate (StoreLife birth slot)) post found seen q r x h = tt
base_on layout k why (Write slot row place) post found seen q r x h = write_on layout.config.slots why post post slot row place seen (place == last_written row)
base_on layout k why (GiveUp slot) post found seen q r x h = tt
base_on layout k why (Retire at) post found seen q r x h = other_on layout why _ (machine.after (Retire at) post found).outcome seen (apart (Retire at) (kind_of why) refl r.suited) h
base_on layout k why (Move at) post found seen q r x h = other_on layout why _ (machine.after (Move at) post found).outcome seen (apart (Move at) (kind_of why) refl r.suited) h

owed : (layout : Layout) (k : ℕ) → is_valid layout ≡ true → (phase : Phase) (post : Post) (found : ℕ) (seen : ℕ → Bool) → PostFits layout k post → PhaseFits layout post phase → WalkPhase layout.config.slots seen phase
    → Owes (PostFits layout k) (λ p q. WalkPhase layout.config.slots (seen_in phase found seen) q) (counted post) found phase
owed layout k v Idle post found seen q p x = counted_fits layout k post q
owed layout k v (Runs why base) post found seen q p x =
    let m : Moves (PostFits layout k) (PhaseFits layout) why (machine.after base (counted post) found) = shape_moves layout k v why base (counted post) found (counted_fits layout k post q) (run_counted layout why base post p) in
    moves_with why (machine.after base (counted post) found) m (record { post = m.post; phase = base_on layout k why base (counted post) found seen (counted_fits layout k post q) (run_counted layout why base post p) x m.phase })
owed layout k v (Scans later at) post found seen q p x = counted_fits layout k post q
owed layout k v (Works work) post found seen q p x =
    record { post = bared_fits layout k work (counted post) (counted_fits layout k post q); fits = work_counted work post p; stores = each_stores (λ p q. WalkPhase layout.config.slots seen q) (λ p from index era. tt) (counted post) found work }

-- the seat that steps, and the others
abbrev SeatWalks : ℕ → (ℕ → ℕ → Bool) → ℕ → Local → Type 0
SeatWalks slots seen k l = WalkPhase slots (seen k) l.phase

upd_own : (f : ℕ → ℕ → Bool) (i : ℕ) (x : ℕ → Bool) → upd f i x i ≡ x
upd_own f i x = let e : (i == i) ≡ true = grind (arith, nat_tests) in rw e refl

upd_other : (f : ℕ → ℕ → Bool) (i k : ℕ) (x : ℕ → Bool) → (k == i) ≡ false → upd f i x k ≡ f k
upd_other f i k x e = rw e refl

pub walking_kept : WalkingKept
walking_kept w i seen v s x =
    let l : Local = w.seat i in
    let n : ℕ → Bool = seen_in l.phase (finds w i) (seen i) in
    let g : Seated (PostFits w.layout i) (λ p q. WalkPhase w.layout.config.slots n q) (after (offered w i) (finds w i)) = after_seated (walk_grows w.layout i n v) (offered w i) (finds w i) (owed w.layout i v l.phase l.post (finds w i) (seen i) (s.fits i).post (s.fits i).phase (x.walks i)) in
    record { walks = λ k. by k (k == i) refl (subst (λ (m : Local). WalkPhase w.layout.config.slots n m.phase) (sym (seat_steps w i)) g.phase) }
  where
    by : (k : ℕ) (same : Bool) → (k == i) ≡ same → WalkPhase w.layout.config.slots (seen_in (w.seat i).phase (finds w i) (seen i)) ((step w i).seat i).phase → WalkPhase w.layout.config.slots (seen_after w i seen k) ((step w i).seat k).phase
    by k true e h =
        let q : i ≡ k = grind (arith, nat_tests) in
        subst (λ (j : ℕ). WalkPhase w.layout.config.slots (seen_after w i seen j) ((step w i).seat j).phase) q (subst (λ (f : ℕ → Bool). WalkPhase w.layout.config.slots f ((step w i).seat i).phase) (sym (upd_own seen i (seen_in (w.seat i).phase (finds w i) (seen i)))) h)
    by k false e h =
        subst (λ (m : Local). WalkPhase w.layout.config.slots (seen_after w i seen k) m.phase) (sym (seat_stays w i k e)) (subst (λ (f : ℕ → Bool). WalkPhase w.layout.config.slots f (w.seat k).phase) (sym (upd_other seen i k (seen_in (w.seat i).phase (finds w i) (seen i)) e)) (x.walks k))

pub walking_begin : WalkingBegin
walking_begin w i call seen v s x =
    let g : Seated (PostFits w.layout i) (λ p q. WalkPhase w.layout.config.slots (seen i) q) (begun (w.seat i) call) = begun_seated (walk_grows w.layout i (seen i) v) (w.seat i) call (begun_fits w.layout i (w.seat i).post (s.fits i).post) in
    record { walks = one_moves (SeatWalks w.layout.config.slots seen) w.seat (begin w i call).seat i x.walks (λ k. begin_stays w i k call) (subst (SeatWalks w.layout.config.slots seen i) (sym (begin_begins w i call)) g.phase) }

pub walking_start : WalkingStart
walking_start layout seen = record { walks = λ k. tt }

-- a walk that ends with Full
walk_full : (slots : ℕ) (birth : ℕ) (post : Post) (x : Option Walk) (seen : ℕ → Bool) → OnSeen slots seen x → (walking birth post x).outcome ≡ Ends (Allocated allocate_ends.Full) → (s : ℕ) → s ≤ slots → seen s ≡ true
walk_full slots birth post None seen h e = h
walk_full slots birth post (Some walk) seen h e = absurd (cc)

claim_full : (birth : ℕ) (walk : Walk) (post : Post) (found : ℕ) (seen : ℕ → Bool) (taken : Bool) → is_claimed found walk.slot ≡ taken → WalkSeen post.layout.config.slots walk seen → (after_claim_slot birth walk post found).outcome ≡ Ends (Allocated allocate_ends.Full) → (s : ℕ) → s ≤ post.layout.config.slots → more_seen walk found seen s ≡ true
claim_full birth walk post found seen true e x h =
    walk_full post.layout.config.slots birth post (walk_past post.layout.config.slots walk found) (more_seen walk found seen) (past_seen post.layout.config.slots walk found seen x e) (rw e at h)
claim_full birth walk post found seen false e x h = let k = rw e at h in absurd (cc)

pub full_seen : FullSeen
full_seen w i why birth walk seen s n x e h b =
    let y : WalkPhase w.layout.config.slots (seen i) (Runs why (Allocate (ClaimSlot birth walk))) = subst (WalkPhase w.layout.config.slots (seen i)) e (x.walks i) in
    let o : w.layout.config.slots ≡ (w.seat i).post.layout.config.slots = sym (slots_of w.layout (w.seat i).post (n.fits i).post.layout) in
    let z : WalkSeen (w.seat i).post.layout.config.slots walk (seen i) = subst (λ (m : ℕ). WalkSeen m walk (seen i)) o y in
    let d : s ≤ (w.seat i).post.layout.config.slots = subst (λ (m : ℕ). s ≤ m) o b in
    let c : more_seen walk (finds w i) (seen i) s ≡ true = claim_full birth walk (counted (w.seat i).post) (finds w i) (seen i) (is_claimed (finds w i) walk.slot) refl z h s d in
    ap (λ (f : ℕ → Bool). f s) (upd_own seen i (seen_in (w.seat i).phase (finds w i) (seen i))) ∙ ap (λ (p : Phase). seen_in p (finds w i) (seen i) s) e ∙ c
