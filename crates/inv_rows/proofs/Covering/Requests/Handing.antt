-- A mover answers a request, hands its answer over, and exchanges the clock.
use Rattle.std.proofs.Common.{ℕ, ◌≡◌, ◌≤◌, ◌<◌, ◌+◌, ◌^◌, Bool, true, false, [], arith, refl, sym, ap, ◌∙◌}
use Rattle.std.proofs.lemmas.Bool.Decides.{nat_tests}
use Rattle.std.specs.Prelude.{◌==◌, ◌&&◌, nat_lt, if◌then◌else◌, ◌||◌, ◌∷◌}
use Rattle.inv_rows.specs.words.Place.{Place}
use Rattle.inv_rows.specs.words.Place.Place.{Clock, Index, Request}
use Rattle.inv_rows.specs.words.Packed.{halves, read_reservation, pending_word, answered_word}
use Rattle.inv_rows.specs.words.Schemes.{publishes_rows}
use Rattle.inv_rows.specs.defs.declared.event.Root.{Root}
use Rattle.inv_rows.specs.model.declared.post.Post.{Post}
use Rattle.inv_rows.specs.model.Links.{link_number}
use Rattle.inv_rows.specs.model.Memory.{upd, written, put, Move}
use Rattle.inv_rows.specs.model.Memory as memory
use Rattle.inv_rows.specs.model.Posts.{counted, reserves_helper}
use Rattle.inv_rows.specs.model.Phases.{Turn, goes, ends, Base as bases}
use Rattle.inv_rows.specs.model.Calls.{Why, Phase, Runs}
use Rattle.inv_rows.specs.model.Steps.{run_turn}
use Rattle.inv_rows.specs.model.Locals.{Local}
use Rattle.inv_rows.specs.model.Machine.{move_move, move_turn}
use Rattle.inv_rows.specs.Shapes.Frame.{Moves}
use Rattle.inv_rows.specs.words.declared.packed.Reservation.{Reservation}
use Rattle.inv_rows.specs.defs.declared.event.Event.TheVariants as events
use Rattle.inv_rows.specs.defs.declared.event.Guard.TheVariants as guards
use Rattle.inv_rows.specs.model.Guards.{one_era}
use Rattle.inv_rows.proofs.words.Parts.{halves_one, pending_some, pending≢answered, pending_one, read_reservation-halves}
use Rattle.inv_rows.proofs.model.Ranges.{bounds_of}
use Rattle.inv_rows.specs.model.Phases.MoveAt.{AnswerAsked, LoadReserved, HandOver, HideEra, HideLate, ExchangeClock}
use Rattle.inv_rows.specs.model.Phases.Ending.{Clocked}
use Rattle.inv_rows.specs.defs.declared.call.ClockMove.TheVariants as moves
use Rattle.inv_rows.specs.model.SlowPath.{asking}
use Rattle.inv_rows.specs.model.MoveClock.{next_request, after_hand_over}
use Rattle.inv_rows.specs.Covering.Requests.Views.{View, Deal, upd2, Role as roles}
use Rattle.inv_rows.specs.Covering.Requests.Views.Deal.{Quiet, Open, Answered, Passed, Taken}
use Rattle.inv_rows.specs.Covering.Requests.Deals.{ahead, gave_by}
use Rattle.inv_rows.specs.Covering.Requests.Standing.{request_of}
use Rattle.inv_rows.specs.Covering.Requests.NextDeals.{move_deals}
use Rattle.inv_rows.specs.Covering.Requests.Turns.{PostOf, RoleOf, Made}
use Rattle.inv_rows.specs.Covering.Requests.Context.{At}
use Rattle.inv_rows.proofs.Covering.Requests.Words.{no_halves, words_deal, words_helper, words_index, words_request, words_same, words_clock, exchanged, not_exchanged}
use Rattle.inv_rows.proofs.Covering.Requests.Movers as mover
use Rattle.inv_rows.proofs.Covering.Requests.Turns.{same_deals}
use Rattle.inv_rows.proofs.Covering.Requests.Helping.{next_go, asker_of}
use Rattle.inv_rows.proofs.Covering.Requests.Answering.{Bits}
use Rattle.inv_rows.proofs.Covering.Requests.Serving.{there_of}
use Rattle.inv_rows.proofs.Covering.Requests.Going.{stands_in, own_post, link_few, go, rest}
use Rattle.inv_rows.proofs.model.Facts.{by_cases, number_is, same_test, if_by}

-- the numbers of a request that a mover holds fit their bits
pub asked_bits : (mem : Place → ℕ) (seat : ℕ → Local) (i : ℕ) (v : View) (e k t j w : ℕ) → At mem seat i v → (nat_lt k (seat i).post.layout.config.seats && (nat_lt j (seat i).post.layout.config.indexes && nat_lt w (2 ^ 26))) ≡ true → nat_lt (t + 1) e ≡ true → e ≤ v.clock → Bits t j w
asked_bits mem seat i v e k t j w a h s r =
    let b = bounds_of (seat i).post.layout a.valid in
    let x : t + 1 < e = grind (arith, nat_tests) in
    let y : j < (seat i).post.layout.config.indexes = grind (arith, nat_tests) in
    record { tag_in = omega (arith, a.facts.parts.clock, b.eras); index_in = omega (arith, b.indexes); word_in = grind (arith, nat_tests) }

-- the request word of a seat has this pending request exactly where its deal is this
pub open_exact : (mem : Place → ℕ) (seat : ℕ → Local) (i : ℕ) (v : View) (k t j w : ℕ) (d : Deal) → At mem seat i v → Bits t j w → v.deal k ≡ d → request_of d ≡ pending_word t j w → d ≡ Open t j w
open_exact mem seat i v k t j w Quiet a b o e = absurd (omega (arith, pending_some t j w, e))
open_exact mem seat i v k t j w (Open t' j' w') a b o e =
    let s = asker_of mem seat i v k t' j' w' a o in
    let n : w' < 2 ^ 26 = rw (s.is) (link_few mem seat i v s.root a s.there) in
    let g = bounds_of (seat i).post.layout a.valid in
    let p = pending_one t' j' w' t j w (omega (arith, s.below, g.indexes)) n b.index_in b.word_in e in
    open_same t' j' w' t j w p.0 p.1 p.2
  where
    open_same : (t' j' w' t j w : ℕ) → t' ≡ t → j' ≡ j → w' ≡ w → Open t' j' w' ≡ Open t j w
    open_same t' j' w' t j w p q r = cc
open_exact mem seat i v k t j w (Answered t' j' w' l' e' m') a b o e = absurd (pending≢answered t j w l' e' b.tag_in b.index_in b.word_in (sym e))
open_exact mem seat i v k t j w (Passed t' j' w' l' e') a b o e = absurd (pending≢answered t j w l' e' b.tag_in b.index_in b.word_in (sym e))
open_exact mem seat i v k t j w (Taken t' j' w' l' e') a b o e = absurd (pending≢answered t j w l' e' b.tag_in b.index_in b.word_in (sym e))

-- 6. The request is exchanged.
pub answer_asked : (mem : Place → ℕ) (seat : ℕ → Local) (i : ℕ) (v : View) (why : Why) (e k t j : ℕ) (root : Root) (link : ℕ) → At mem seat i v → (seat i).phase ≡ Runs why (bases.Move (AnswerAsked e k t j root link))
    → Made mem seat i (move_move (AnswerAsked e k t j root link) (seat i).post) (run_turn why (seat i).desk (move_turn (AnswerAsked e k t j root link) (counted (seat i).post) (mem (Request k)))) (move_deals mem i (seat i).post (AnswerAsked e k t j root link) v.deal)
answer_asked mem seat i v why e k t j root link a q =
    let r = stands_in mem seat i v (Runs why (bases.Move (AnswerAsked e k t j root link))) a q in
    let b = asked_bits mem seat i v e k t j (link_number (seat i).post.layout root) a (rw r at (a.facts.parts.whom i)) (rw r at (a.facts.parts.spare i)) (rw r at (a.facts.parts.eras i)) in
    if_by (mem (Request k) == asking (seat i).post.layout t j root) (goes (counted (seat i).post) [] (bases.Move (LoadReserved e k t j root link))) (goes (counted (seat i).post) [] (bases.Move (next_request (counted (seat i).post) e k true)))
    (λ (x : Turn). Made mem seat i (move_move (AnswerAsked e k t j root link) (seat i).post) (run_turn why (seat i).desk x) (move_deals mem i (seat i).post (AnswerAsked e k t j root link) v.deal))
    (λ h.
    let o = open_exact mem seat i v k t j (link_number (seat i).post.layout root) (v.deal k) a b refl (sym (a.facts.words.requests k) ∙ number_is (mem (Request k)) (asking (seat i).post.layout t j root) h) in
    same_deals mem seat i (move_move (AnswerAsked e k t j root link) (seat i).post) (run_turn why (seat i).desk (goes (counted (seat i).post) [] (bases.Move (LoadReserved e k t j root link)))) (upd v.deal k (Answered t j (link_number (seat i).post.layout root) link e i)) (move_deals mem i (seat i).post (AnswerAsked e k t j root link) v.deal) (rw h refl) (go mem seat i v (move_move (AnswerAsked e k t j root link) (seat i).post) why [] (bases.Move (LoadReserved e k t j root link)) (roles.Reads e k t j (link_number (seat i).post.layout root) link)
    (record v { deal = upd v.deal k (Answered t j (link_number (seat i).post.layout root) link e i); role = upd v.role i (roles.Reads e k t j (link_number (seat i).post.layout root) link) }) a
    refl (there_of mem seat i v why (AnswerAsked e k t j root link) a q) refl refl
    (words_request mem v.clock v.helper v.era v.mark v.deal k k (if mem (Request k) == asking (seat i).post.layout t j root then answered_word link e else mem (Request k)) (Answered t j (link_number (seat i).post.layout root) link e i) a.facts.words refl
    (exchanged (mem (Request k)) (asking (seat i).post.layout t j root) (answered_word link e) h))
    (mover.helps-keeps (seat i).post.layout.config v i e k t j (link_number (seat i).post.layout root) link a.below a.facts.parts r o)))
    (λ h.
    let n = not_open b h in
    same_deals mem seat i (move_move (AnswerAsked e k t j root link) (seat i).post) (run_turn why (seat i).desk (goes (counted (seat i).post) [] (bases.Move (next_request (counted (seat i).post) e k true)))) v.deal (move_deals mem i (seat i).post (AnswerAsked e k t j root link) v.deal) (rw h refl) (next_go mem seat i v (move_move (AnswerAsked e k t j root link) (seat i).post) why [] e k true (next_request (counted (seat i).post) e k true) v a refl refl
    (words_same mem v.clock v.helper v.era v.mark v.deal (Request k) (if mem (Request k) == asking (seat i).post.layout t j root then answered_word link e else mem (Request k)) a.facts.words
    (not_exchanged (mem (Request k)) (asking (seat i).post.layout t j root) (answered_word link e) h))
    (mover.helps_not_next-keeps (seat i).post.layout.config v i e k t j (link_number (seat i).post.layout root) link a.below a.facts.parts r n)
    (mover.helps_not_last-keeps (seat i).post.layout.config v i e k t j (link_number (seat i).post.layout root) link a.below a.facts.parts r n)))
  where
    not_open : Bits t j (link_number (seat i).post.layout root) → (mem (Request k) == asking (seat i).post.layout t j root) ≡ false → v.deal k ≡ Open t j (link_number (seat i).post.layout root) → ⊥
    not_open b h o = let g : (mem (Request k) == asking (seat i).post.layout t j root) ≡ true = same_test (mem (Request k)) (asking (seat i).post.layout t j root) (a.facts.words.requests k ∙ ap request_of o) in cc

-- the tags in index words have 32 bits
pub mark_few : (mem : Place → ℕ) (seat : ℕ → Local) (i : ℕ) (v : View) (k j : ℕ) → At mem seat i v → v.mark k j < 2 ^ 32
mark_few mem seat i v k j a = let b = bounds_of (seat i).post.layout a.valid in omega (arith, a.facts.parts.marks k j, few (v.deal k), a.facts.parts.low k j, a.facts.parts.clock, b.eras)
  where
    few : (d : Deal) → ahead d j ≤ 1
    few Quiet = omega arith
    few (Open t' j' w') = omega arith
    few (Answered t' j' w' l' e' m') = omega arith
    few (Passed t' j' w' l' e') = by_cases (j == j') ((if j == j' then 1 else 0) ≤ 1) (λ h. rw h (omega arith)) (λ h. rw h (omega arith))
    few (Taken t' j' w' l' e') = omega arith

-- what is read of an index word
pub read_index : (mem : Place → ℕ) (seat : ℕ → Local) (i : ℕ) (v : View) (k j : ℕ) → At mem seat i v → publishes_rows (seat i).post.layout.config.scheme ≡ false → read_reservation (mem (Index k j)) ≡ record { era = v.era k j; tag = v.mark k j }
read_index mem seat i v k j a p = ap read_reservation (a.facts.words.indexes p k j) ∙ read_reservation-halves (v.era k j) (v.mark k j) (mark_few mem seat i v k j a)

-- 7. The index word is loaded.
pub load_reserved : (mem : Place → ℕ) (seat : ℕ → Local) (i : ℕ) (v : View) (why : Why) (e k t j : ℕ) (root : Root) (link : ℕ) → At mem seat i v → (seat i).phase ≡ Runs why (bases.Move (LoadReserved e k t j root link)) → publishes_rows (seat i).post.layout.config.scheme ≡ false
    → Made mem seat i (memory.Load (Index k j)) (run_turn why (seat i).desk (move_turn (LoadReserved e k t j root link) (counted (seat i).post) (mem (Index k j)))) v.deal
load_reserved mem seat i v why e k t j root link a q p =
    let r = stands_in mem seat i v (Runs why (bases.Move (LoadReserved e k t j root link))) a q in
    let x = read_index mem seat i v k j a p in
    let y : (read_reservation (mem (Index k j))).tag ≡ v.mark k j = ap (λ (s : Reservation). s.tag) x in
    let z : (read_reservation (mem (Index k j))).era ≡ v.era k j = ap (λ (s : Reservation). s.era) x in
    if_by ((read_reservation (mem (Index k j))).tag == t) (goes (counted (seat i).post) [] (bases.Move (HandOver e k t j root link (read_reservation (mem (Index k j))).era))) (goes (counted (seat i).post) [] (bases.Move (next_request (counted (seat i).post) e k true)))
    (λ (n : Turn). Made mem seat i (memory.Load (Index k j)) (run_turn why (seat i).desk n) v.deal)
    (λ h. go mem seat i v (memory.Load (Index k j)) why [] (bases.Move (HandOver e k t j root link (read_reservation (mem (Index k j))).era)) (roles.Hands e k t j (link_number (seat i).post.layout root) link (v.era k j))
    (record v { role = upd v.role i (roles.Hands e k t j (link_number (seat i).post.layout root) link (v.era k j)) }) a
    (ap (roles.Hands e k t j (link_number (seat i).post.layout root) link) z) (there_of mem seat i v why (LoadReserved e k t j root link) a q) refl refl a.facts.words
    (mover.reads-keeps (seat i).post.layout.config v i e k t j (link_number (seat i).post.layout root) link a.below a.facts.parts r (rw y at h)))
    (λ h. next_go mem seat i v (memory.Load (Index k j)) why [] e k true (next_request (counted (seat i).post) e k true) v a refl refl a.facts.words
    (mover.reads_not_next-keeps (seat i).post.layout.config v i e k t j (link_number (seat i).post.layout root) link a.below a.facts.parts r (rw y at h))
    (mover.reads_not_last-keeps (seat i).post.layout.config v i e k t j (link_number (seat i).post.layout root) link a.below a.facts.parts r (rw y at h)))

-- who gave an answer, by the test
pub gave_is : (t j w l e m : ℕ) (d : Deal) → gave_by t j w l e m d ≡ true → d ≡ Answered t j w l e m
gave_is t j w l e m Quiet h = cc
gave_is t j w l e m (Open t' j' w') h = cc
gave_is t j w l e m (Answered t' j' w' l' e' m') h =
    answered_same (grind (arith, nat_tests)) (grind (arith, nat_tests)) (grind (arith, nat_tests)) (grind (arith, nat_tests)) (grind (arith, nat_tests)) (grind (arith, nat_tests))
  where
    answered_same : t' ≡ t → j' ≡ j → w' ≡ w → l' ≡ l → e' ≡ e → m' ≡ m → Answered t' j' w' l' e' m' ≡ Answered t j w l e m
    answered_same p q r s u x = cc
gave_is t j w l e m (Passed t' j' w' l' e') h = cc
gave_is t j w l e m (Taken t' j' w' l' e') h = cc

-- 8. The index word is exchanged: the hand-over.
hand_over : (mem : Place → ℕ) (seat : ℕ → Local) (i : ℕ) (v : View) (why : Why) (e k t j : ℕ) (root : Root) (link old : ℕ) → At mem seat i v → (seat i).phase ≡ Runs why (bases.Move (HandOver e k t j root link old)) → publishes_rows (seat i).post.layout.config.scheme ≡ false → (mem (Index k j) == halves old t) ≡ true
    → Made mem seat i (move_move (HandOver e k t j root link old) (seat i).post) (run_turn why (seat i).desk (after_hand_over e k t j old (counted (seat i).post) true)) (upd v.deal k (Passed t j (link_number (seat i).post.layout root) link e))
hand_over mem seat i v why e k t j root link old a q p h =
    let r = stands_in mem seat i v (Runs why (bases.Move (HandOver e k t j root link old))) a q in
    let b = asked_bits mem seat i v e k t j (link_number (seat i).post.layout root) a (rw r at (a.facts.parts.whom i)) (rw r at (a.facts.parts.spare i)) (rw r at (a.facts.parts.eras i)) in
    let x : halves (v.era k j) (v.mark k j) ≡ halves old t = sym (a.facts.words.indexes p k j) ∙ number_is (mem (Index k j)) (halves old t) h in
    let y = halves_one (v.era k j) (v.mark k j) old t (mark_few mem seat i v k j a) b.tag_in x in
    let z = y.1 in
    let f : (nat_lt t (v.tag k j) || (gave_by t j (link_number (seat i).post.layout root) link e i (v.deal k) && v.era k j == old)) ≡ true = rw r at (a.facts.parts.known i) in
    let o = gave_is t j (link_number (seat i).post.layout root) link e i (v.deal k) (grind (arith, nat_tests, a.facts.parts.marks k j)) in
    next_go mem seat i v (move_move (HandOver e k t j root link old) (seat i).post) why (events.Reserve (guards.Index k j) (one_era e) ∷ []) e k true (next_request (counted (seat i).post) e k true)
    (record v { era = upd2 v.era k j e; mark = upd2 v.mark k j (t + 1); deal = upd v.deal k (Passed t j (link_number (seat i).post.layout root) link e) }) a refl refl
    (words_deal (put mem (Index k j) (if mem (Index k j) == halves old t then halves e (t + 1) else mem (Index k j))) v.clock v.helper (upd2 v.era k j e) (upd2 v.mark k j (t + 1)) v.deal k (Passed t j (link_number (seat i).post.layout root) link e)
    (words_index mem v.clock v.helper v.era v.mark v.deal k k j e (t + 1) (if mem (Index k j) == halves old t then halves e (t + 1) else mem (Index k j)) a.facts.words refl (exchanged (mem (Index k j)) (halves old t) (halves e (t + 1)) h))
    (ap request_of o))
    (mover.hands_next-keeps (seat i).post.layout.config v i e k t j (link_number (seat i).post.layout root) link old a.below a.facts.parts r o)
    (mover.hands_last-keeps (seat i).post.layout.config v i e k t j (link_number (seat i).post.layout root) link old a.below a.facts.parts r o)

hand_late : (mem : Place → ℕ) (seat : ℕ → Local) (i : ℕ) (v : View) (why : Why) (e k t j : ℕ) (root : Root) (link old : ℕ) → At mem seat i v → (seat i).phase ≡ Runs why (bases.Move (HandOver e k t j root link old)) → publishes_rows (seat i).post.layout.config.scheme ≡ false → (mem (Index k j) == halves old t) ≡ false
    → Made mem seat i (move_move (HandOver e k t j root link old) (seat i).post) (run_turn why (seat i).desk (after_hand_over e k t j old (counted (seat i).post) false)) v.deal
hand_late mem seat i v why e k t j root link old a q p h =
    let r = stands_in mem seat i v (Runs why (bases.Move (HandOver e k t j root link old))) a q in
    next_go mem seat i v (move_move (HandOver e k t j root link old) (seat i).post) why [] e k true (next_request (counted (seat i).post) e k true) v a refl refl
    (words_same mem v.clock v.helper v.era v.mark v.deal (Index k j) (if mem (Index k j) == halves old t then halves e (t + 1) else mem (Index k j)) a.facts.words (not_exchanged (mem (Index k j)) (halves old t) (halves e (t + 1)) h))
    (mover.hands_not_next-keeps (seat i).post.layout.config v i e k t j (link_number (seat i).post.layout root) link old a.below a.facts.parts r moved_on)
    (mover.hands_not_last-keeps (seat i).post.layout.config v i e k t j (link_number (seat i).post.layout root) link old a.below a.facts.parts r moved_on)
  where
    moved_on : v.mark k j ≡ t → v.era k j ≡ old → ⊥
    moved_on x y = let g : (mem (Index k j) == halves old t) ≡ true = same_test (mem (Index k j)) (halves old t) (a.facts.words.indexes p k j ∙ ap (halves (v.era k j)) x ∙ ap (λ (n : ℕ). halves n t) y) in cc

pub exchange_index : (mem : Place → ℕ) (seat : ℕ → Local) (i : ℕ) (v : View) (why : Why) (e k t j : ℕ) (root : Root) (link old : ℕ) → At mem seat i v → (seat i).phase ≡ Runs why (bases.Move (HandOver e k t j root link old)) → publishes_rows (seat i).post.layout.config.scheme ≡ false
    → Made mem seat i (move_move (HandOver e k t j root link old) (seat i).post) (run_turn why (seat i).desk (move_turn (HandOver e k t j root link old) (counted (seat i).post) (mem (Index k j)))) (move_deals mem i (seat i).post (HandOver e k t j root link old) v.deal)
exchange_index mem seat i v why e k t j root link old a q p = by (mem (Index k j) == halves old t) refl
  where
    by : (b : Bool) → (mem (Index k j) == halves old t) ≡ b → Made mem seat i (move_move (HandOver e k t j root link old) (seat i).post) (run_turn why (seat i).desk (after_hand_over e k t j old (counted (seat i).post) b)) (move_deals mem i (seat i).post (HandOver e k t j root link old) v.deal)
    by true h = same_deals mem seat i (move_move (HandOver e k t j root link old) (seat i).post) (run_turn why (seat i).desk (after_hand_over e k t j old (counted (seat i).post) true)) (upd v.deal k (Passed t j (link_number (seat i).post.layout root) link e)) (move_deals mem i (seat i).post (HandOver e k t j root link old) v.deal) (rw h refl) (hand_over mem seat i v why e k t j root link old a q p h)
    by false h = same_deals mem seat i (move_move (HandOver e k t j root link old) (seat i).post) (run_turn why (seat i).desk (after_hand_over e k t j old (counted (seat i).post) false)) v.deal (move_deals mem i (seat i).post (HandOver e k t j root link old) v.deal) (rw h refl) (hand_late mem seat i v why e k t j root link old a q p h)

-- 9. The helper word is withdrawn.
pub hide_era : (mem : Place → ℕ) (seat : ℕ → Local) (i : ℕ) (v : View) (why : Why) (e : ℕ) → At mem seat i v → (seat i).phase ≡ Runs why (bases.Move (HideEra e))
    → Made mem seat i (move_move (HideEra e) (seat i).post) (run_turn why (seat i).desk (move_turn (HideEra e) (counted (seat i).post) 0)) v.deal
hide_era mem seat i v why e a q =
    go mem seat i v (move_move (HideEra e) (seat i).post) why (reserves_helper (counted (seat i).post) 0) (bases.Move (ExchangeClock e)) (roles.Moves e) (record v { helper = upd v.helper i 0; role = upd v.role i (roles.Moves e) }) a
    refl refl refl refl
    (words_helper mem v.clock v.helper v.era v.mark v.deal i (seat i).post.seat 0 0 a.facts.words a.number (sym no_halves))
    (mover.hides-keeps (seat i).post.layout.config v i e a.below a.facts.parts (stands_in mem seat i v (Runs why (bases.Move (HideEra e))) a q))

pub hide_late : {Q : Post → Type 0} {P : Post → Phase → Type 0} (mem : Place → ℕ) (seat : ℕ → Local) (i : ℕ) (v : View) (why : Why) (seen : ℕ) → At mem seat i v → (seat i).phase ≡ Runs why (bases.Move (HideLate seen))
    → Moves Q P why (move_turn (HideLate seen) (counted (seat i).post) 0)
    → Made mem seat i (move_move (HideLate seen) (seat i).post) (run_turn why (seat i).desk (move_turn (HideLate seen) (counted (seat i).post) 0)) v.deal
hide_late mem seat i v why seen a q m =
    rest mem seat i v (move_move (HideLate seen) (seat i).post) why (move_turn (HideLate seen) (counted (seat i).post) 0) (record v { helper = upd v.helper i 0; role = upd v.role i roles.Away }) a
    (record { post = own_post mem seat i v a; phase = m.phase }) refl refl
    (words_helper mem v.clock v.helper v.era v.mark v.deal i (seat i).post.seat 0 0 a.facts.words a.number (sym no_halves))
    (mover.hides_late-keeps (seat i).post.layout.config v i a.below a.facts.parts (stands_in mem seat i v (Runs why (bases.Move (HideLate seen))) a q))

-- 10. The clock is exchanged.
pub exchange_clock : {Q : Post → Type 0} {P : Post → Phase → Type 0} (mem : Place → ℕ) (seat : ℕ → Local) (i : ℕ) (v : View) (why : Why) (e : ℕ) → At mem seat i v → (seat i).phase ≡ Runs why (bases.Move (ExchangeClock e))
    → Moves Q P why (move_turn (ExchangeClock e) (counted (seat i).post) (mem Clock))
    → Made mem seat i (move_move (ExchangeClock e) (seat i).post) (run_turn why (seat i).desk (move_turn (ExchangeClock e) (counted (seat i).post) (mem Clock))) v.deal
exchange_clock {Q} {P} mem seat i v why e a q m =
    let r = stands_in mem seat i v (Runs why (bases.Move (ExchangeClock e))) a q in
    by_cases (mem Clock == e) (Made mem seat i (move_move (ExchangeClock e) (seat i).post) (run_turn why (seat i).desk (move_turn (ExchangeClock e) (counted (seat i).post) (mem Clock))) v.deal)
    (λ h. let s : v.clock ≡ e = sym a.facts.words.clocks ∙ number_is (mem Clock) e h in
    rest mem seat i v (move_move (ExchangeClock e) (seat i).post) why (move_turn (ExchangeClock e) (counted (seat i).post) (mem Clock)) (record v { clock = v.clock + 1; role = upd v.role i roles.Away }) a
    (ends_move m) refl refl
    (let u = words_clock mem v.clock v.helper v.era v.mark v.deal (if mem Clock == e then e + 1 else mem Clock) a.facts.words in
    let x : (if mem Clock == e then e + 1 else mem Clock) ≡ v.clock + 1 = exchanged (mem Clock) e (e + 1) h ∙ ap (λ (n : ℕ). n + 1) (sym s) in
    record { clocks = x; helpers = u.helpers; indexes = u.indexes; requests = u.requests })
    (mover.moves-keeps (seat i).post.layout.config v i e a.below a.facts.parts r (same_test v.clock e s)))
    (λ h. rest mem seat i v (move_move (ExchangeClock e) (seat i).post) why (move_turn (ExchangeClock e) (counted (seat i).post) (mem Clock)) (record v { role = upd v.role i roles.Away }) a
    (ends_move m) refl refl
    (words_same mem v.clock v.helper v.era v.mark v.deal Clock (if mem Clock == e then e + 1 else mem Clock) a.facts.words (not_exchanged (mem Clock) e (e + 1) h))
    (mover.moves_not-keeps (seat i).post.layout.config v i e a.below a.facts.parts r))
  where
    ends_move : Moves Q P why (move_turn (ExchangeClock e) (counted (seat i).post) (mem Clock)) → Moves (PostOf (seat i).post.layout (seat i).post.tags) (RoleOf (seat i).post.layout roles.Away) why (move_turn (ExchangeClock e) (counted (seat i).post) (mem Clock))
    ends_move g =
        if_by (mem Clock == e) (ends (counted (seat i).post) (events.Era (e + 1) ∷ []) (Clocked (moves.Moved (e + 1)))) (ends (counted (seat i).post) [] (Clocked (moves.Other (mem Clock))))
        (λ (t : Turn). Moves Q P why t → Moves (PostOf (seat i).post.layout (seat i).post.tags) (RoleOf (seat i).post.layout roles.Away) why t)
        (λ h x. record { post = own_post mem seat i v a; phase = x.phase })
        (λ h x. record { post = own_post mem seat i v a; phase = x.phase })
        g
