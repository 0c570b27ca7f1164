-- A request that is over stays over: its answer stands until it is taken, and then the tag of its index has risen.
use Rattle.inv_rows.specs.words.declared.layout.Layout.{Layout}
use Rattle.inv_rows.specs.words.Schemes.{publishes_rows}
use Rattle.inv_rows.proofs.Shapes.Tries.{helps_plain}
use Rattle.std.proofs.Common.{ℕ, ◌+◌, ◌<◌, Bool, true, false, ◌≡◌, ◌∙◌, sym, refl, ap, subst, arith}
use Rattle.std.proofs.lemmas.Bool.Decides.{nat_tests}
use Rattle.inv_rows.specs.model.Calls.{Phase, Why}
use Rattle.inv_rows.specs.model.Calls.Phase.{Idle, Runs, Scans, Works}
use Rattle.inv_rows.specs.model.Links.{link_number}
use Rattle.inv_rows.specs.model.Memory.{upd}
use Rattle.inv_rows.specs.model.Phases.{Aim}
use Rattle.inv_rows.specs.model.Phases.Base.{Allocate, Begin, Clear, Finish, GiveUp, Move, Protect, Release, Reload, Retire, Write}
use Rattle.inv_rows.specs.model.Phases.MoveAt.{AnswerAsked, CheckEra, ExchangeClock, HandOver, HideEra, HideLate, LoadAsked, LoadEra, LoadRequest, LoadReserved, ShowEra}
use Rattle.inv_rows.specs.model.Phases.ProtectAt.{AnswerOwn, CheckClock, CheckOwnClock, CheckUpper, LoadAnswer, LoadClock, LoadLink, LoadOwnClock, LoadOwnLink, LoadWithin, PublishEra, PublishHelper, PublishRequest, RaiseUpper, TakeAnswer, WithdrawHelper, WithdrawRequest, ByHazard}
use Rattle.inv_rows.specs.model.Posts.{tag_of}
use Rattle.inv_rows.specs.model.SlowPath.{asking, own_request}
use Rattle.inv_rows.specs.model.World.{World, step}
use Rattle.inv_rows.specs.defs.declared.event.Root.{Root}
use Rattle.inv_rows.specs.Shapes.Seats.{Seats, Run, PhaseFits}
use Rattle.inv_rows.proofs.Covering.Requests.Answering.{Bits, own_bits}
use Rattle.inv_rows.proofs.Covering.Requests.Going.{stands_in}
use Rattle.inv_rows.proofs.Covering.Requests.Kept.{at_of}
use Rattle.inv_rows.specs.Covering.Requests.Context.{At}
use Rattle.inv_rows.specs.Covering.Requests.Deals.{answered_with, asked_by, gave_by, has_tag, is_quiet, taken_with}
use Rattle.inv_rows.specs.Covering.Requests.NextDeals.{move_deals, next_deals, phase_deals, protect_deals}
use Rattle.inv_rows.specs.Covering.Requests.Standing.{request_of}
use Rattle.inv_rows.specs.Covering.Requests.Views.{Deal, View}
use Rattle.inv_rows.specs.Covering.Requests.Views.Deal.{Answered, Open, Passed, Quiet, Taken}
use Rattle.inv_ends.proofs.Walks.Tags.{tag_taken, tags_rise, take_below}
use Rattle.inv_ends.specs.Moves.{MeetingNeeds, done_at, open_at, over_in}
use Rattle.inv_rows.proofs.words.Parts.{halves_one, pending≢answered}
use Rattle.inv_rows.specs.words.Packed.{halves, pending_word}
use Rattle.inv_rows.specs.words.Place.{is_valid}
use Rattle.inv_rows.specs.words.Place.Place.{Index, Request}
use Rattle.std.specs.Prelude.{length, nat_lt, if◌then◌else◌, ◌==◌, ◌&&◌, ◌||◌}
use Rattle.inv_rows.proofs.Covering.Requests.Handing.{mark_few, asked_bits}
use Rattle.inv_rows.proofs.model.Facts.{first_of, number_is, same_test, no_truth_2, or_along}

-- a deal that is not pending, and which this tag is no answer of
pub quiet_done : (t j : ℕ) (d : Deal) → is_quiet d ≡ true → done_at t j d ≡ false
quiet_done t j Quiet h = refl
quiet_done t j (Open t' j' w) h = refl
quiet_done t j (Answered t' j' w l e m) h = no_truth_2 h
quiet_done t j (Passed t' j' w l e) h = no_truth_2 h
quiet_done t j (Taken t' j' w l e) h = refl

taken_done : (t j index word link era : ℕ) (d : Deal) → taken_with index word link era d ≡ true → done_at t j d ≡ false
taken_done t j index word link era Quiet h = refl
taken_done t j index word link era (Open t' j' w) h = refl
taken_done t j index word link era (Answered t' j' w l e m) h = no_truth_2 h
taken_done t j index word link era (Passed t' j' w l e) h = no_truth_2 h
taken_done t j index word link era (Taken t' j' w l e) h = refl

-- a request whose word is that of a pending one has no answer
word_done : (t j tag index word : ℕ) (d : Deal) → Bits tag index word → request_of d ≡ pending_word tag index word → done_at t j d ≡ false
word_done t j tag index word Quiet b h = refl
word_done t j tag index word (Open t' j' w) b h = refl
word_done t j tag index word (Answered t' j' w l e m) b h = absurd (pending≢answered tag index word l e b.tag_in b.index_in b.word_in (sym h))
word_done t j tag index word (Passed t' j' w l e) b h = absurd (pending≢answered tag index word l e b.tag_in b.index_in b.word_in (sym h))
word_done t j tag index word (Taken t' j' w l e) b h = refl

tag_by : (t j index t' j' : ℕ) (tags : ℕ → ℕ) → j' ≡ index → tags j' ≡ t' → t' ≡ t → j' ≡ j → (j ≡ index) × (t ≡ tags index)
tag_by t j index t' j' tags a b c d = (sym d ∙ a, sym c ∙ sym b ∙ ap tags a)

-- an answer that is taken now: it has the tag of the index
taken_tag : (t j index word link era : ℕ) (d : Deal) (tags : ℕ → ℕ) → answered_with index word link era d ≡ true → has_tag d tags ≡ true → done_at t j d ≡ true → (j ≡ index) × (t ≡ tags index)
taken_tag t j index word link era Quiet tags a h d = no_truth_2 d
taken_tag t j index word link era (Open t' j' w) tags a h d = no_truth_2 d
taken_tag t j index word link era (Answered t' j' w l e m) tags a h d = tag_by t j index t' j' tags (grind (arith, nat_tests)) (grind (arith, nat_tests)) (grind (arith, nat_tests)) (grind (arith, nat_tests))
taken_tag t j index word link era (Passed t' j' w l e) tags a h d = tag_by t j index t' j' tags (grind (arith, nat_tests)) (grind (arith, nat_tests)) (grind (arith, nat_tests)) (grind (arith, nat_tests))
taken_tag t j index word link era (Taken t' j' w l e) tags a h d = no_truth_2 d

-- an answer that is handed over now
gave_done : (t j tag index word link era by : ℕ) (d : Deal) → gave_by tag index word link era by d ≡ true → done_at t j d ≡ true → done_at t j (Passed tag index word link era) ≡ true
gave_done t j tag index word link era by Quiet g d = no_truth_2 d
gave_done t j tag index word link era by (Open t' j' w) g d = no_truth_2 d
gave_done t j tag index word link era by (Answered t' j' w l e m) g d =
    let p : t' ≡ tag = grind (arith, nat_tests) in
    let q : j' ≡ index = grind (arith, nat_tests) in
    grind (arith, nat_tests)
gave_done t j tag index word link era by (Passed t' j' w l e) g d = no_truth_2 g
gave_done t j tag index word link era by (Taken t' j' w l e) g d = no_truth_2 g

-- what was given by a mover is done
pub gave_over : (tag index word link era by : ℕ) (d : Deal) → gave_by tag index word link era by d ≡ true → done_at tag index d ≡ true
gave_over tag index word link era by Quiet g = no_truth_2 g
gave_over tag index word link era by (Open t' j' w) g = no_truth_2 g
gave_over tag index word link era by (Answered t' j' w l e m) g = grind (arith, nat_tests)
gave_over tag index word link era by (Passed t' j' w l e) g = no_truth_2 g
gave_over tag index word link era by (Taken t' j' w l e) g = no_truth_2 g

open_word : (tag index word t' j' w : ℕ) → t' ≡ tag → j' ≡ index → w ≡ word → pending_word t' j' w ≡ pending_word tag index word
open_word tag index word t' j' w a b c = cc

-- what was asked and is no more pending is done
pub asked_over : (tag index word : ℕ) (d : Deal) → asked_by tag index word d ≡ true → (request_of d ≡ pending_word tag index word → ⊥) → done_at tag index d ≡ true
asked_over tag index word Quiet g n = no_truth_2 g
asked_over tag index word (Open t' j' w) g n = absurd (n (open_word tag index word t' j' w (grind (arith, nat_tests)) (grind (arith, nat_tests)) (grind (arith, nat_tests))))
asked_over tag index word (Answered t' j' w l e m) g n = grind (arith, nat_tests)
asked_over tag index word (Passed t' j' w l e) g n = grind (arith, nat_tests)
asked_over tag index word (Taken t' j' w l e) g n = no_truth_2 g

-- what is over in the next World, where its tags and this deal stand
abbrev pub Stays : World → ℕ → ℕ → ℕ → Deal → Type 0
Stays u k t j d = (nat_lt t (tag_of (u.seat k).post j) || done_at t j d) ≡ true

by_done : (u : World) (k t j : ℕ) (d : Deal) → done_at t j d ≡ true → Stays u k t j d
by_done u k t j d h = rw h (by (nat_lt t (tag_of (u.seat k).post j))) where
  by : (x : Bool) → (x || true) ≡ true
  by true = refl
  by false = refl

by_tag : (u : World) (k t j : ℕ) (d : Deal) → t < tag_of (u.seat k).post j → Stays u k t j d
by_tag u k t j d h = let e : nat_lt t (tag_of (u.seat k).post j) ≡ true = grind (arith, nat_tests) in rw e refl

-- one deal changes
upd_stays : (u : World) (deals : ℕ → Deal) (i k t j : ℕ) (d : Deal) (same : Bool) → (k == i) ≡ same → done_at t j (deals k) ≡ true → (k ≡ i → done_at t j (deals i) ≡ true → Stays u i t j d) → Stays u k t j (upd deals i d k)
upd_stays u deals i k t j d true e h f =
    let q : k ≡ i = grind (arith, nat_tests) in
    rw e (subst (λ (n : ℕ). Stays u n t j d) (sym q) (f q (subst (λ (n : ℕ). done_at t j (deals n) ≡ true) q h)))
upd_stays u deals i k t j d false e h f = rw e (by_done u k t j (deals k) h)

if_stays : (u : World) (deals : ℕ → Deal) (i k t j : ℕ) (d : Deal) (same test : Bool) → test ≡ same → done_at t j (deals k) ≡ true → (test ≡ true → k ≡ i → done_at t j (deals i) ≡ true → Stays u i t j d) → Stays u k t j ((if test then upd deals i d else deals) k)
if_stays u deals i k t j d true test e h f = rw e (upd_stays u deals i k t j d (k == i) refl h (f e))
if_stays u deals i k t j d false test e h f = rw e (by_done u k t j (deals k) h)

-- the steps that change deals
publish_stays : (w : World) (i k t j : ℕ) (v : View) (why : Why) (aim : Aim) (index : ℕ) (root : Root) (steps : ℕ) → At w.mem w.seat i v → (w.seat i).phase ≡ Runs why (Protect aim index root steps PublishRequest) → done_at t j (v.deal k) ≡ true
    → Stays (step w i) k t j (protect_deals w.mem i (w.seat i).post index root PublishRequest v.deal k)
publish_stays w i k t j v why aim index root steps a q h =
    let r = stands_in w.mem w.seat i v (Runs why (Protect aim index root steps PublishRequest)) a q in
    let f : is_quiet (v.deal i) ≡ true = rw r at (a.facts.parts.fit i) in
    upd_stays (step w i) v.deal i k t j _ (k == i) refl h (λ e d. no_truth_2 (sym (quiet_done t j (v.deal i) f) ∙ d))

withdraw_stays : (w : World) (i k t j : ℕ) (v : View) (why : Why) (aim : Aim) (index : ℕ) (root : Root) (steps link era : ℕ) → At w.mem w.seat i v → (w.seat i).phase ≡ Runs why (Protect aim index root steps (WithdrawRequest link era)) → done_at t j (v.deal k) ≡ true
    → Stays (step w i) k t j (protect_deals w.mem i (w.seat i).post index root (WithdrawRequest link era) v.deal k)
withdraw_stays w i k t j v why aim index root steps link era a q h =
    let r = stands_in w.mem w.seat i v (Runs why (Protect aim index root steps (WithdrawRequest link era))) a q in
    let f : taken_with index (link_number (w.seat i).post.layout root) link era (v.deal i) ≡ true = rw r at (a.facts.parts.fit i) in
    upd_stays (step w i) v.deal i k t j Quiet (k == i) refl h (λ e d. no_truth_2 (sym (taken_done t j index (link_number (w.seat i).post.layout root) link era (v.deal i) f) ∙ d))

own_stays : (w : World) (i k t j : ℕ) (v : View) (why : Why) (aim : Aim) (index : ℕ) (root : Root) (steps first era link : ℕ) → At w.mem w.seat i v → (w.seat i).phase ≡ Runs why (Protect aim index root steps (AnswerOwn first era link)) → done_at t j (v.deal k) ≡ true
    → Stays (step w i) k t j (protect_deals w.mem i (w.seat i).post index root (AnswerOwn first era link) v.deal k)
own_stays w i k t j v why aim index root steps first era link a q h =
    let b = own_bits w.mem w.seat i v why aim index root steps (AnswerOwn first era link) a q in
    if_stays (step w i) v.deal i k t j _ (w.mem (Request (w.seat i).post.seat) == own_request (w.seat i).post index root) (w.mem (Request (w.seat i).post.seat) == own_request (w.seat i).post index root) refl h
    (λ y e d. no_truth_2 (sym (word_done t j (tag_of (w.seat i).post index) index (link_number (w.seat i).post.layout root) (v.deal i) b (sym (a.facts.words.requests i) ∙ ap (λ (n : ℕ). w.mem (Request n)) (sym a.number) ∙ number_is (w.mem (Request (w.seat i).post.seat)) (own_request (w.seat i).post index root) y)) ∙ d))

take_stays : (w : World) (i k t j : ℕ) (v : View) (why : Why) (aim : Aim) (index : ℕ) (root : Root) (steps link era : ℕ) → Seats w → At w.mem w.seat i v → (w.seat i).phase ≡ Runs why (Protect aim index root steps (TakeAnswer link era)) → done_at t j (v.deal k) ≡ true
    → Stays (step w i) k t j (protect_deals w.mem i (w.seat i).post index root (TakeAnswer link era) v.deal k)
take_stays w i k t j v why aim index root steps link era s a q h =
    let r = stands_in w.mem w.seat i v (Runs why (Protect aim index root steps (TakeAnswer link era))) a q in
    let f : answered_with index (link_number (w.seat i).post.layout root) link era (v.deal i) ≡ true = rw r at (a.facts.parts.fit i) in
    let b : index < length (w.seat i).post.tags = take_below w i why aim index root steps link era s q in
    let g : tag_of ((step w i).seat i).post index ≡ tag_of (w.seat i).post index + 1 = tag_taken w i why aim index root steps link era b q in
    upd_stays (step w i) v.deal i k t j (Taken (tag_of (w.seat i).post index) index (link_number (w.seat i).post.layout root) link era) (k == i) refl h (λ e d. by g (taken_tag t j index (link_number (w.seat i).post.layout root) link era (v.deal i) (v.tag i) f (a.facts.parts.tags i) d))
  where
    by : tag_of ((step w i).seat i).post index ≡ tag_of (w.seat i).post index + 1 → (j ≡ index) × (t ≡ v.tag i index) → Stays (step w i) i t j (Taken (tag_of (w.seat i).post index) index (link_number (w.seat i).post.layout root) link era)
    by g x =
        let p : j ≡ index = x.0 in
        let y : t ≡ v.tag i index = x.1 in
        let z : tag_of (w.seat i).post index ≡ v.tag i index = a.facts.locals.tags i index in
        subst (λ (n : ℕ). Stays (step w i) i t n (Taken (tag_of (w.seat i).post index) index (link_number (w.seat i).post.layout root) link era)) (sym p) (by_tag (step w i) i t index (Taken (tag_of (w.seat i).post index) index (link_number (w.seat i).post.layout root) link era) (omega (arith, g, y, z)))

asked_stays : (w : World) (i k t j : ℕ) (v : View) (why : Why) (e k' t' j' : ℕ) (root : Root) (link : ℕ) → At w.mem w.seat i v → (w.seat i).phase ≡ Runs why (Move (AnswerAsked e k' t' j' root link)) → done_at t j (v.deal k) ≡ true
    → Stays (step w i) k t j (move_deals w.mem i (w.seat i).post (AnswerAsked e k' t' j' root link) v.deal k)
asked_stays w i k t j v why e k' t' j' root link a q h =
    let r = stands_in w.mem w.seat i v (Runs why (Move (AnswerAsked e k' t' j' root link))) a q in
    let b = asked_bits w.mem w.seat i v e k' t' j' (link_number (w.seat i).post.layout root) a (rw r at (a.facts.parts.whom i)) (rw r at (a.facts.parts.spare i)) (rw r at (a.facts.parts.eras i)) in
    if_stays (step w i) v.deal k' k t j _ (w.mem (Request k') == asking (w.seat i).post.layout t' j' root) (w.mem (Request k') == asking (w.seat i).post.layout t' j' root) refl h
    (λ y n d. no_truth_2 (sym (word_done t j t' j' (link_number (w.seat i).post.layout root) (v.deal k') b (sym (a.facts.words.requests k') ∙ number_is (w.mem (Request k')) (asking (w.seat i).post.layout t' j' root) y)) ∙ d))

-- a seat that hands an answer over helps, so its scheme publishes no rows
hand_plain : (w : World) (i : ℕ) (why : Why) (e k t j : ℕ) (root : Root) (link old : ℕ) → Seats w → (w.seat i).phase ≡ Runs why (Move (HandOver e k t j root link old)) → publishes_rows (w.seat i).post.layout.config.scheme ≡ false
hand_plain w i why e k t j root link old s q =
    let r : Run w.layout why (Move (HandOver e k t j root link old)) (w.seat i).post = subst (PhaseFits w.layout (w.seat i).post) q (s.fits i).phase in
    subst (λ (l : Layout). publishes_rows l.config.scheme ≡ false) (sym (s.fits i).post.layout) (helps_plain w.layout.config.scheme (nat_lt k w.layout.config.seats) r.fits)

hand_gave : (w : World) (i : ℕ) (v : View) (why : Why) (e k t j : ℕ) (root : Root) (link old : ℕ) → Seats w → At w.mem w.seat i v → (w.seat i).phase ≡ Runs why (Move (HandOver e k t j root link old)) → (w.mem (Index k j) == halves old t) ≡ true → gave_by t j (link_number (w.seat i).post.layout root) link e i (v.deal k) ≡ true
hand_gave w i v why e k t j root link old s a q h =
    let r = stands_in w.mem w.seat i v (Runs why (Move (HandOver e k t j root link old))) a q in
    let b = asked_bits w.mem w.seat i v e k t j (link_number (w.seat i).post.layout root) a (rw r at (a.facts.parts.whom i)) (rw r at (a.facts.parts.spare i)) (rw r at (a.facts.parts.eras i)) in
    let x : halves (v.era k j) (v.mark k j) ≡ halves old t = sym (a.facts.words.indexes (hand_plain w i why e k t j root link old s q) k j) ∙ number_is (w.mem (Index k j)) (halves old t) h in
    let y = halves_one (v.era k j) (v.mark k j) old t (mark_few w.mem w.seat i v k j a) b.tag_in x in
    let z : v.mark k j ≡ t = y.1 in
    let f : (nat_lt t (v.tag k j) || (gave_by t j (link_number (w.seat i).post.layout root) link e i (v.deal k) && v.era k j == old)) ≡ true = rw r at (a.facts.parts.known i) in
    grind (arith, nat_tests, a.facts.parts.marks k j)

hand_stays : (w : World) (i k t j : ℕ) (v : View) (why : Why) (e k' t' j' : ℕ) (root : Root) (link old : ℕ) → Seats w → At w.mem w.seat i v → (w.seat i).phase ≡ Runs why (Move (HandOver e k' t' j' root link old)) → done_at t j (v.deal k) ≡ true
    → Stays (step w i) k t j (move_deals w.mem i (w.seat i).post (HandOver e k' t' j' root link old) v.deal k)
hand_stays w i k t j v why e k' t' j' root link old s a q h =
    if_stays (step w i) v.deal k' k t j _ (w.mem (Index k' j') == halves old t') (w.mem (Index k' j') == halves old t') refl h
    (λ y n d. by_done (step w i) k' t j (Passed t' j' (link_number (w.seat i).post.layout root) link e) (gave_done t j t' j' (link_number (w.seat i).post.layout root) link e i (v.deal k') (hand_gave w i v why e k' t' j' root link old s a q y) d))

phase_stays : (w : World) (i k t j : ℕ) (v : View) (phase : Phase) → Seats w → At w.mem w.seat i v → (w.seat i).phase ≡ phase → done_at t j (v.deal k) ≡ true → Stays (step w i) k t j (phase_deals w.mem i (w.seat i).post phase v.deal k)
phase_stays w i k t j v Idle s a q h = by_done (step w i) k t j (v.deal k) h
phase_stays w i k t j v (Runs why (Protect aim index root steps (LoadClock tries))) s a q h = by_done (step w i) k t j (v.deal k) h
phase_stays w i k t j v (Runs why (Protect aim index root steps (PublishEra era tries))) s a q h = by_done (step w i) k t j (v.deal k) h
phase_stays w i k t j v (Runs why (Protect aim index root steps (LoadLink era tries))) s a q h = by_done (step w i) k t j (v.deal k) h
phase_stays w i k t j v (Runs why (Protect aim index root steps (CheckClock era tries link))) s a q h = by_done (step w i) k t j (v.deal k) h
phase_stays w i k t j v (Runs why (Protect aim index root steps PublishRequest)) s a q h = publish_stays w i k t j v why aim index root steps a q h
phase_stays w i k t j v (Runs why (Protect aim index root steps LoadOwnClock)) s a q h = by_done (step w i) k t j (v.deal k) h
phase_stays w i k t j v (Runs why (Protect aim index root steps (PublishHelper first era last))) s a q h = by_done (step w i) k t j (v.deal k) h
phase_stays w i k t j v (Runs why (Protect aim index root steps (LoadOwnLink first era last))) s a q h = by_done (step w i) k t j (v.deal k) h
phase_stays w i k t j v (Runs why (Protect aim index root steps (CheckOwnClock first era last link))) s a q h = by_done (step w i) k t j (v.deal k) h
phase_stays w i k t j v (Runs why (Protect aim index root steps (AnswerOwn first era link))) s a q h = own_stays w i k t j v why aim index root steps first era link a q h
phase_stays w i k t j v (Runs why (Protect aim index root steps (LoadAnswer first))) s a q h = by_done (step w i) k t j (v.deal k) h
phase_stays w i k t j v (Runs why (Protect aim index root steps (TakeAnswer link era))) s a q h = take_stays w i k t j v why aim index root steps link era s a q h
phase_stays w i k t j v (Runs why (Protect aim index root steps (WithdrawRequest link era))) s a q h = withdraw_stays w i k t j v why aim index root steps link era a q h
phase_stays w i k t j v (Runs why (Protect aim index root steps (WithdrawHelper link era))) s a q h = by_done (step w i) k t j (v.deal k) h
phase_stays w i k t j v (Runs why (Protect aim index root steps LoadWithin)) s a q h = by_done (step w i) k t j (v.deal k) h
phase_stays w i k t j v (Runs why (Protect aim index root steps (CheckUpper link))) s a q h = by_done (step w i) k t j (v.deal k) h
phase_stays w i k t j v (Runs why (Protect aim index root steps (RaiseUpper era))) s a q h = by_done (step w i) k t j (v.deal k) h
phase_stays w i k t j v (Runs why (Protect aim index root steps (ByHazard at))) s a q h = by_done (step w i) k t j (v.deal k) h
phase_stays w i k t j v (Runs why (Begin at)) s a q h = by_done (step w i) k t j (v.deal k) h
phase_stays w i k t j v (Runs why (Reload parent index slot era steps)) s a q h = by_done (step w i) k t j (v.deal k) h
phase_stays w i k t j v (Runs why (Clear rows index)) s a q h = by_done (step w i) k t j (v.deal k) h
phase_stays w i k t j v (Runs why Finish) s a q h = by_done (step w i) k t j (v.deal k) h
phase_stays w i k t j v (Runs why (Release index)) s a q h = by_done (step w i) k t j (v.deal k) h
phase_stays w i k t j v (Runs why (Allocate at)) s a q h = by_done (step w i) k t j (v.deal k) h
phase_stays w i k t j v (Runs why (Write slot row place)) s a q h = by_done (step w i) k t j (v.deal k) h
phase_stays w i k t j v (Runs why (GiveUp slot)) s a q h = by_done (step w i) k t j (v.deal k) h
phase_stays w i k t j v (Runs why (Retire at)) s a q h = by_done (step w i) k t j (v.deal k) h
phase_stays w i k t j v (Runs why (Move (LoadEra helps))) s a q h = by_done (step w i) k t j (v.deal k) h
phase_stays w i k t j v (Runs why (Move (LoadRequest era seat shows))) s a q h = by_done (step w i) k t j (v.deal k) h
phase_stays w i k t j v (Runs why (Move (ShowEra era seat tag index root))) s a q h = by_done (step w i) k t j (v.deal k) h
phase_stays w i k t j v (Runs why (Move (LoadAsked era seat tag index root))) s a q h = by_done (step w i) k t j (v.deal k) h
phase_stays w i k t j v (Runs why (Move (CheckEra era seat tag index root link))) s a q h = by_done (step w i) k t j (v.deal k) h
phase_stays w i k t j v (Runs why (Move (AnswerAsked era seat tag index root link))) s a q h = asked_stays w i k t j v why era seat tag index root link a q h
phase_stays w i k t j v (Runs why (Move (LoadReserved era seat tag index root link))) s a q h = by_done (step w i) k t j (v.deal k) h
phase_stays w i k t j v (Runs why (Move (HandOver era seat tag index root link old))) s a q h = hand_stays w i k t j v why era seat tag index root link old s a q h
phase_stays w i k t j v (Runs why (Move (HideEra era))) s a q h = by_done (step w i) k t j (v.deal k) h
phase_stays w i k t j v (Runs why (Move (HideLate seen))) s a q h = by_done (step w i) k t j (v.deal k) h
phase_stays w i k t j v (Runs why (Move (ExchangeClock era))) s a q h = by_done (step w i) k t j (v.deal k) h
phase_stays w i k t j v (Scans later at) s a q h = by_done (step w i) k t j (v.deal k) h
phase_stays w i k t j v (Works work) s a q h = by_done (step w i) k t j (v.deal k) h

-- the tag has risen, or the answer stands
tag_stays : (w : World) (i k t j : ℕ) (d : Deal) → is_valid w.layout ≡ true → Seats w → nat_lt t (tag_of (w.seat k).post j) ≡ true → Stays (step w i) k t j d
tag_stays w i k t j d v s h = let r = tags_rise w i k j v s in by_tag (step w i) k t j d (grind (arith, nat_tests))

pub over_stays : (w : World) (i k t j : ℕ) (z : View) → MeetingNeeds w i z → over_in w z.deal k t j ≡ true → over_in (step w i) (next_deals w i z.deal) k t j ≡ true
over_stays w i k t j z n h = by (nat_lt t (tag_of (w.seat k).post j)) refl h where
  by : (x : Bool) → nat_lt t (tag_of (w.seat k).post j) ≡ x → (x || done_at t j (z.deal k)) ≡ true → over_in (step w i) (next_deals w i z.deal) k t j ≡ true
  by true e h = tag_stays w i k t j (next_deals w i z.deal k) n.valid n.seats e
  by false e h = phase_stays w i k t j z (w.seat i).phase n.seats (at_of w i z n.valid n.below n.seats n.links n.requests) refl h

-- a request that is over is not pending
pub over_open : (t j : ℕ) (d : Deal) (tags : ℕ → ℕ) → has_tag d tags ≡ true → (nat_lt t (tags j) || done_at t j d) ≡ true → open_at t j d ≡ false
over_open t j Quiet tags g h = refl
over_open t j (Open t' j' w) tags g h = by ((t' == t) && (j' == j)) refl where
  by : (x : Bool) → ((t' == t) && (j' == j)) ≡ x → x ≡ false
  by false e = refl
  by true e =
      let p : t' ≡ t = grind (arith, nat_tests) in
      let q : j' ≡ j = grind (arith, nat_tests) in
      let r : tags j' ≡ t' = grind (arith, nat_tests) in
      let s : tags j ≡ t = sym (ap tags q) ∙ r ∙ p in
      sym (grind (arith, nat_tests))
over_open t j (Answered t' j' w l e m) tags g h = refl
over_open t j (Passed t' j' w l e) tags g h = refl
over_open t j (Taken t' j' w l e) tags g h = refl

-- what a mover that passes a seat knows of the request that it was at
pub read_over : (w : World) (i : ℕ) (v : View) (why : Why) (e k t j : ℕ) (root : Root) (link : ℕ) → At w.mem w.seat i v → (w.seat i).phase ≡ Runs why (Move (LoadReserved e k t j root link)) → over_in w v.deal k t j ≡ true
read_over w i v why e k t j root link a q =
    let r = stands_in w.mem w.seat i v (Runs why (Move (LoadReserved e k t j root link))) a q in
    let f : (nat_lt t (v.tag k j) || gave_by t j (link_number (w.seat i).post.layout root) link e i (v.deal k)) ≡ true = rw r at (a.facts.parts.known i) in
    rw (a.facts.locals.tags k j) (or_along (nat_lt t (v.tag k j)) _ _ (gave_over t j (link_number (w.seat i).post.layout root) link e i (v.deal k)) f)

pub hand_over : (w : World) (i : ℕ) (v : View) (why : Why) (e k t j : ℕ) (root : Root) (link old : ℕ) → At w.mem w.seat i v → (w.seat i).phase ≡ Runs why (Move (HandOver e k t j root link old)) → over_in w v.deal k t j ≡ true
hand_over w i v why e k t j root link old a q =
    let r = stands_in w.mem w.seat i v (Runs why (Move (HandOver e k t j root link old))) a q in
    let f : (nat_lt t (v.tag k j) || (gave_by t j (link_number (w.seat i).post.layout root) link e i (v.deal k) && v.era k j == old)) ≡ true = rw r at (a.facts.parts.known i) in
    rw (a.facts.locals.tags k j) (or_along (nat_lt t (v.tag k j)) _ _ (λ g. gave_over t j (link_number (w.seat i).post.layout root) link e i (v.deal k) (first_of _ _ g)) f)

pub help_over : (w : World) (i : ℕ) (v : View) (why : Why) (e k t j : ℕ) (root : Root) (link : ℕ) → At w.mem w.seat i v → (w.seat i).phase ≡ Runs why (Move (AnswerAsked e k t j root link)) → (w.mem (Request k) == asking (w.seat i).post.layout t j root) ≡ false → over_in w v.deal k t j ≡ true
help_over w i v why e k t j root link a q h =
    let r = stands_in w.mem w.seat i v (Runs why (Move (AnswerAsked e k t j root link))) a q in
    let f : (nat_lt t (v.tag k j) || asked_by t j (link_number (w.seat i).post.layout root) (v.deal k)) ≡ true = rw r at (a.facts.parts.known i) in
    rw (a.facts.locals.tags k j) (or_along (nat_lt t (v.tag k j)) _ _ (λ g. asked_over t j (link_number (w.seat i).post.layout root) (v.deal k) g (λ o. not_same o)) f)
  where
    not_same : request_of (v.deal k) ≡ pending_word t j (link_number (w.seat i).post.layout root) → ⊥
    not_same o = let g : (w.mem (Request k) == asking (w.seat i).post.layout t j root) ≡ true = same_test (w.mem (Request k)) (asking (w.seat i).post.layout t j root) (a.facts.words.requests k ∙ o) in cc
