-- The eras of answers along a history, and what a protection finds of them.
use Rattle.std.proofs.Common.{ℕ, ◌≡◌, ◌≤◌, ◌<◌, ◌+◌, ◌^◌, Bool, true, false, refl, sym, ap, ◌∙◌, subst, arith}
use Rattle.std.proofs.lemmas.Bool.Decides.{nat_tests}
use Rattle.std.specs.Prelude.{◌==◌, ◌&&◌, not}
use Rattle.law_scans.specs.laws.words.Packed.{read_request}
use Rattle.law_scans.specs.laws.words.Place.{is_valid}
use Rattle.law_scans.specs.laws.words.Place.Place.{Clock}
use Rattle.law_scans.specs.laws.words.declared.layout.Layout.{Layout}
use Rattle.law_scans.proofs.inv.model.words.Parts.{read_request-answered}
use Rattle.law_scans.specs.laws.defs.declared.call.Call.{Call}
use Rattle.law_scans.specs.laws.defs.declared.event.Root.{Root}
use Rattle.law_scans.proofs.inv.model.Ranges.{bounds_of}
use Rattle.law_scans.specs.inv.model.Calls.{Why, Phase, Idle, Runs, Scans, Works}
use Rattle.law_scans.specs.inv.model.Links.{link_number}
use Rattle.law_scans.specs.inv.model.Locals.{Local, begun_post}
use Rattle.law_scans.specs.inv.model.Phases.{Aim, ProtectAt, Base}
use Rattle.law_scans.specs.inv.model.Phases.ProtectAt.{AnswerOwn, LoadAnswer, TakeAnswer}
use Rattle.law_scans.specs.inv.model.Phases.MoveAt.{CheckEra, AnswerAsked}
use Rattle.law_scans.specs.inv.model.Phases.Base.{Protect, Move}
use Rattle.law_scans.specs.inv.model.Posts.{counted, tag_of}
use Rattle.law_scans.specs.inv.model.SlowPath.{own_request, asking, answer_in}
use Rattle.law_scans.specs.inv.model.World.{World, begin, finds, is_busy, offered, start, step}
use Rattle.law_scans.proofs.reuse.shapes.Frame.{seat_stays, begin_stays, begin_begins}
use Rattle.law_scans.specs.inv.shapes.Seats.{Seats}
use Rattle.law_scans.proofs.inv.requests.Answering.{heard, word_by_open}
use Rattle.law_scans.specs.inv.requests.Deals.{is_quiet, is_open, asked_at, answered_with}
use Rattle.law_scans.specs.inv.requests.NextDeals.{next_deals}
use Rattle.law_scans.specs.inv.requests.Roles.{knows}
use Rattle.law_scans.specs.inv.requests.Standing.{request_of, Requests}
use Rattle.law_scans.specs.inv.requests.Views.{View, Deal, Role, Role as roles}
use Rattle.law_scans.specs.inv.requests.Views.Deal.{Quiet, Open, Answered, Passed, Taken}
use Rattle.law_scans.proofs.inv.covers.Fresh.{first_begins}
use Rattle.law_scans.proofs.inv.covers.Held.{finds_at}
use Rattle.law_scans.specs.inv.covers.Tries.{starts_base, is_start}
use Rattle.law_scans.specs.inv.ends.Tracked.{opened_by}
use Rattle.law_scans.specs.inv.ends.Origins.{OriginsNeeds}
use Rattle.law_scans.proofs.inv.ends.Origins.Opened.{knows_of, open_back, stepped_by}
use Rattle.law_reasons.proofs.Eras.Current.Ages.{protect_since, PhaseSince, HeardSince}
use Rattle.law_reasons.proofs.Eras.Current.Answers.{DealSince, base_helps, HelpSince, Answers, phase_kept, checks, turn_checked, checked_since}
use Rattle.law_scans.proofs.inv.requests.Known.{stands_as, own_word}
use Rattle.law_scans.proofs.inv.ends.Origins.Kept.{idle_deal}
use Rattle.law_scans.proofs.laws.records.defs.Facts.{not_right, first_of, same_test}

-- what a mover knows of the request that it has loaded
helps_know : (w : World) (m : ℕ) (z : View) (why : Why) (e s t j : ℕ) (r : Root) (link : ℕ) → Requests w z → (w.seat m).phase ≡ Runs why (Move (AnswerAsked e s t j r link)) → knows_of z s t j (link_number w.layout r) ≡ true
helps_know w m z why e s t j r link f q = subst (λ (x : Role). knows x m z.tag z.era z.deal ≡ true) (stands_as w z m (Runs why (Move (AnswerAsked e s t j r link))) f q) (f.parts.known m)

-- a mover that does not step
other_base : (w : World) (i m : ℕ) (z : View) (from : ℕ → ℕ) (why : Why) (base : Base) → OriginsNeeds w i z → (w.seat m).phase ≡ Runs why base → base_helps w.layout from z.deal base → base_helps w.layout from (next_deals w i z.deal) base
other_base w i m z from why (Move (AnswerAsked e s t j r link)) n q h =
    λ o. h (open_back w i z s t j (link_number w.layout r) n (helps_know w m z why e s t j r link n.requests q) o)
other_base w i m z from why (Move at) n q h = tt
other_base w i m z from why base n q h = tt

other_helps : (w : World) (i m : ℕ) (z : View) (from : ℕ → ℕ) (phase : Phase) → OriginsNeeds w i z → (w.seat m).phase ≡ phase → HelpSince w.layout from z.deal phase → HelpSince w.layout from (next_deals w i z.deal) phase
other_helps w i m z from (Runs why base) n q h = other_base w i m z from why base n q h
other_helps w i m z from Idle n q h = tt
other_helps w i m z from (Scans later at) n q h = tt
other_helps w i m z from (Works work) n q h = tt

-- a step finds the clock where it checks it
finds_checked : (w : World) (i : ℕ) (why : Why) (base : Base) → (w.seat i).phase ≡ Runs why base → checks base ≡ true → finds w i ≡ w.mem Clock
finds_checked w i why (Move (CheckEra era seat tag index root link)) q c = finds_at w i (Runs why (Move (CheckEra era seat tag index root link))) q
finds_checked w i why base q c = absurd (cc)

own_helps : (w : World) (i : ℕ) (from : ℕ → ℕ) (deals : ℕ → Deal) → ((k : ℕ) → from k ≤ w.mem Clock) → HelpSince w.layout from deals ((step w i).seat i).phase
own_helps w i from deals l =
    let s = stepped_by w i (w.seat i).phase refl in
    let c = turn_checked (w.mem Clock) (w.seat i).phase (counted (w.seat i).post) (offered w i).desk (finds w i) (λ why base q c. subst (λ (x : ℕ). w.mem Clock ≤ x) (sym (finds_checked w i why base q c)) (omega arith)) in
    subst (HelpSince w.layout from deals) (sym s) (checked_since w.layout from deals (w.mem Clock) _ l c)

step_helps : (w : World) (i m : ℕ) (z : View) (from : ℕ → ℕ) (same : Bool) → (m == i) ≡ same → OriginsNeeds w i z → ((k : ℕ) → from k ≤ w.mem Clock) → Answers w z from → HelpSince w.layout from (next_deals w i z.deal) ((step w i).seat m).phase
step_helps w i m z from true e n l g =
    let q : i ≡ m = grind (arith, nat_tests) in
    subst (λ (k : ℕ). HelpSince w.layout from (next_deals w i z.deal) ((step w i).seat k).phase) q (own_helps w i from (next_deals w i z.deal) l)
step_helps w i m z from false e n l g =
    subst (λ (x : Local). HelpSince w.layout from (next_deals w i z.deal) x.phase) (sym (seat_stays w i m e)) (other_helps w i m z from (w.seat m).phase n refl (g.helps m))

-- after a step
pub answers_step : (w : World) (i : ℕ) (z next : View) (from : ℕ → ℕ) (cut : ℕ → ℕ) → OriginsNeeds w i z → next.deal ≡ next_deals w i z.deal → ((k : ℕ) → from k ≤ w.mem Clock) → PhaseSince (from i) cut (w.seat i).phase → Answers w z from → Answers (step w i) next from
answers_step w i z next from cut n d l f g = record {
  deals = λ k. subst (λ (x : ℕ → Deal). DealSince (from k) (x k)) (sym d) (phase_kept w i z from cut (w.seat i).phase k n refl f g);
  helps = λ m. subst (λ (x : ℕ → Deal). HelpSince w.layout from x ((step w i).seat m).phase) (sym d) (step_helps w i m z from (m == i) refl n l g);
}

-- a call begins: its seat has no request
quiet_since : (from : ℕ) (d : Deal) → is_quiet d ≡ true → DealSince from d
quiet_since from Quiet h = tt
quiet_since from (Open t j u) h = tt
quiet_since from (Answered t j u l e m) h = absurd (cc)
quiet_since from (Passed t j u l e) h = absurd (cc)
quiet_since from (Taken t j u l e) h = tt

quiet_closed : (t j u : ℕ) (d : Deal) → is_quiet d ≡ true → opened_by t j u d ≡ true → false ≡ true
quiet_closed t j u Quiet h o = o
quiet_closed t j u (Open a b c) h o = absurd (cc)
quiet_closed t j u (Answered a b c l e m) h o = o
quiet_closed t j u (Passed a b c l e) h o = o
quiet_closed t j u (Taken a b c l e) h o = o

begin_deal : (i k : ℕ) (z : View) (from later : ℕ → ℕ) (same : Bool) → (k == i) ≡ same → is_quiet (z.deal i) ≡ true → ((m : ℕ) → (m == i) ≡ false → later m ≡ from m) → DealSince (from k) (z.deal k) → DealSince (later k) (z.deal k)
begin_deal i k z from later true e q s g = let r : i ≡ k = grind (arith, nat_tests) in quiet_since (later k) (z.deal k) (subst (λ (m : ℕ). is_quiet (z.deal m) ≡ true) r q)
begin_deal i k z from later false e q s g = subst (λ (x : ℕ). DealSince x (z.deal k)) (sym (s k e)) g

open_era : (i s t j u e : ℕ) (z : View) (from later : ℕ → ℕ) (same : Bool) → (s == i) ≡ same → is_quiet (z.deal i) ≡ true → ((m : ℕ) → (m == i) ≡ false → later m ≡ from m) → (opened_by t j u (z.deal s) ≡ true → from s ≤ e) → opened_by t j u (z.deal s) ≡ true → later s ≤ e
open_era i s t j u e z from later true f q l h o =
    let r : i ≡ s = grind (arith, nat_tests) in
    absurd (no (quiet_closed t j u (z.deal s) (subst (λ (m : ℕ). is_quiet (z.deal m) ≡ true) r q) o))
  where
    no : false ≡ true → ⊥
    no x = cc
open_era i s t j u e z from later false f q l h o = subst (λ (x : ℕ). x ≤ e) (sym (l s f)) (h o)

begin_base : (layout : Layout) (i : ℕ) (z : View) (from later : ℕ → ℕ) (base : Base) → is_quiet (z.deal i) ≡ true → ((m : ℕ) → (m == i) ≡ false → later m ≡ from m) → base_helps layout from z.deal base → base_helps layout later z.deal base
begin_base layout i z from later (Move (AnswerAsked e s t j r link)) q l h = λ o. open_era i s t j (link_number layout r) e z from later (s == i) refl q l h o
begin_base layout i z from later (Move at) q l h = tt
begin_base layout i z from later base q l h = tt

begin_helps : (layout : Layout) (i : ℕ) (z : View) (from later : ℕ → ℕ) (phase : Phase) → is_quiet (z.deal i) ≡ true → ((m : ℕ) → (m == i) ≡ false → later m ≡ from m) → HelpSince layout from z.deal phase → HelpSince layout later z.deal phase
begin_helps layout i z from later (Runs why base) q l h = begin_base layout i z from later base q l h
begin_helps layout i z from later Idle q l h = tt
begin_helps layout i z from later (Scans after at) q l h = tt
begin_helps layout i z from later (Works work) q l h = tt

start_base : (layout : Layout) (from : ℕ → ℕ) (deals : ℕ → Deal) (base : Base) → starts_base base ≡ true → base_helps layout from deals base
start_base layout from deals (Move (AnswerAsked e s t j r link)) h = absurd (cc)
start_base layout from deals (Move at) h = tt
start_base layout from deals base h = tt

start_helps : (layout : Layout) (from : ℕ → ℕ) (deals : ℕ → Deal) (phase : Phase) → is_start phase ≡ true → HelpSince layout from deals phase
start_helps layout from deals (Runs why base) h = start_base layout from deals base h
start_helps layout from deals Idle h = tt
start_helps layout from deals (Scans later at) h = tt
start_helps layout from deals (Works work) h = tt

begun_helps : (w : World) (i m : ℕ) (call : Call) (z : View) (from later : ℕ → ℕ) (same : Bool) → (m == i) ≡ same → is_quiet (z.deal i) ≡ true → ((k : ℕ) → (k == i) ≡ false → later k ≡ from k) → Answers w z from → HelpSince w.layout later z.deal ((begin w i call).seat m).phase
begun_helps w i m call z from later true e q l g =
    let r : i ≡ m = grind (arith, nat_tests) in
    subst (λ (k : ℕ). HelpSince w.layout later z.deal ((begin w i call).seat k).phase) r
    (subst (λ (x : Local). HelpSince w.layout later z.deal x.phase) (sym (begin_begins w i call)) (start_helps w.layout later z.deal _ (first_begins call (begun_post (w.seat i).post)).starts))
begun_helps w i m call z from later false e q l g =
    subst (λ (x : Local). HelpSince w.layout later z.deal x.phase) (sym (begin_stays w i m call e)) (begin_helps w.layout i z from later (w.seat m).phase q l (g.helps m))

pub answers_begin : (w : World) (i : ℕ) (call : Call) (z next : View) (from later : ℕ → ℕ) → is_busy w i ≡ false → Requests w z → next.deal ≡ z.deal → ((k : ℕ) → (k == i) ≡ false → later k ≡ from k) → Answers w z from → Answers (begin w i call) next later
answers_begin w i call z next from later b f d l g =
    let q = idle_deal w i z b f in
    record {
      deals = λ k. subst (λ (x : ℕ → Deal). DealSince (later k) (x k)) (sym d) (begin_deal i k z from later (k == i) refl q l (g.deals k));
      helps = λ m. subst (λ (x : ℕ → Deal). HelpSince w.layout later x ((begin w i call).seat m).phase) (sym d) (begun_helps w i m call z from later (m == i) refl q l g);
    }

pub answers_start : (layout : Layout) (z : View) (from : ℕ → ℕ) → ((k : ℕ) → z.deal k ≡ Quiet) → Answers (start layout) z from
answers_start layout z from d = record { deals = λ k. subst (DealSince (from k)) (sym (d k)) tt; helps = λ m. tt }

-- the answer that a protection finds in its request
answer_since : (from index word link era : ℕ) (d : Deal) → answered_with index word link era d ≡ true → DealSince from d → from ≤ era
answer_since from index word link era Quiet h g = absurd (cc)
answer_since from index word link era (Open t j u) h g = absurd (cc)
answer_since from index word link era (Answered t j u l e m) h g = let q : e ≡ era = grind (arith, nat_tests) in subst (λ (x : ℕ). from ≤ x) q g
answer_since from index word link era (Passed t j u l e) h g = let q : e ≡ era = grind (arith, nat_tests) in subst (λ (x : ℕ). from ≤ x) q g
answer_since from index word link era (Taken t j u l e) h g = absurd (cc)

heard_since : (w : World) (z : View) (k from index word found : ℕ) → is_valid w.layout ≡ true → Requests w z → asked_at index word (z.deal k) ≡ true → is_open (z.deal k) ≡ false → found ≡ request_of (z.deal k) → DealSince from (z.deal k) → protect_since from (answer_in (read_request found))
heard_since w z k from index word found y f a o e g =
    let h = heard index word (z.deal k) a o in
    let b = bounds_of w.layout y in
    let t = f.parts.timely k in
    let l : h.link < 2 ^ 24 = omega (arith, h.small z.clock (w.layout.config.slots + 1) t, b.slots) in
    let s : 0 < h.era = h.some z.clock (w.layout.config.slots + 1) t in
    let r : h.era < 2 ^ 32 = omega (arith, h.early z.clock (w.layout.config.slots + 1) t, f.parts.clock, b.eras) in
    let q : answer_in (read_request found) ≡ TakeAnswer h.link h.era = ap answer_in (ap read_request (e ∙ h.is) ∙ read_request-answered h.link h.era l s r) in
    subst (protect_since from) (sym q) (answer_since from index word h.link h.era (z.deal k) h.with g)

waits_since : (w : World) (z : View) (k from index word found : ℕ) → is_valid w.layout ≡ true → Requests w z → z.role k ≡ roles.Waits index word → found ≡ request_of (z.deal k) → DealSince from (z.deal k) → protect_since from (answer_in (read_request found))
waits_since w z k from index word found y f r e g =
    let h : (asked_at index word (z.deal k) && not (is_open (z.deal k))) ≡ true = rw r at (f.parts.fit k) in
    heard_since w z k from index word found y f (first_of (asked_at index word (z.deal k)) (not (is_open (z.deal k))) h) (not_right (asked_at index word (z.deal k)) (is_open (z.deal k)) h) e g

meets_since : (w : World) (z : View) (k from index : ℕ) (root : Root) (first era link found : ℕ) → is_valid w.layout ≡ true → Seats w → Requests w z → z.role k ≡ roles.Answers index (link_number w.layout root) first era link → found ≡ request_of (z.deal k)
    → (found == own_request (w.seat k).post index root) ≡ false → DealSince from (z.deal k) → protect_since from (answer_in (read_request found))
meets_since w z k from index root first era link found y s f r e n g =
    let h : asked_at index (link_number w.layout root) (z.deal k) ≡ true = rw r at (f.parts.fit k) in
    heard_since w z k from index (link_number w.layout root) found y f h (not_open (is_open (z.deal k)) refl h) e g
  where
    not_open : (b : Bool) → is_open (z.deal k) ≡ b → asked_at index (link_number w.layout root) (z.deal k) ≡ true → b ≡ false
    not_open false o h = refl
    not_open true o h =
        let l = (s.fits k).post.layout in
        let p = word_by_open index (link_number w.layout root) (tag_of (w.seat k).post index) (z.deal k) (z.tag k) h o (f.parts.tags k) (f.locals.tags k index) in
        let t = ap (λ (x : Layout). asking x (tag_of (w.seat k).post index) index root) (sym l) in
        let x : (found == own_request (w.seat k).post index root) ≡ true = same_test found (own_request (w.seat k).post index root) (e ∙ p ∙ t) in cc

pub hears_since : (w : World) (i : ℕ) (z : View) (from : ℕ) (why : Why) (aim : Aim) (index : ℕ) (root : Root) (steps : ℕ) (at : ProtectAt) → OriginsNeeds w i z → (w.seat i).phase ≡ Runs why (Protect aim index root steps at) → DealSince from (z.deal i)
    → HeardSince from at (counted (w.seat i).post) index root (finds w i)
hears_since w i z from why aim index root steps (AnswerOwn first era link) n q g =
    λ e. meets_since w z i from index root first era link (finds w i) n.valid n.seats n.requests (stands_as w z i (Runs why (Protect aim index root steps (AnswerOwn first era link))) n.requests q)
    (finds_at w i (Runs why (Protect aim index root steps (AnswerOwn first era link))) q ∙ own_word w z i n.seats n.requests) e g
hears_since w i z from why aim index root steps (LoadAnswer first) n q g =
    waits_since w z i from index (link_number w.layout root) (finds w i) n.valid n.requests (stands_as w z i (Runs why (Protect aim index root steps (LoadAnswer first))) n.requests q)
    (finds_at w i (Runs why (Protect aim index root steps (LoadAnswer first))) q ∙ own_word w z i n.seats n.requests) g
hears_since w i z from why aim index root steps at n q g = tt

-- the same answers, by other words for the clock where calls began
same_help : (layout : Layout) (from later : ℕ → ℕ) (deals : ℕ → Deal) (base : Base) → ((k : ℕ) → later k ≡ from k) → base_helps layout from deals base → base_helps layout later deals base
same_help layout from later deals (Move (AnswerAsked e s t j r link)) l h = λ o. subst (λ (x : ℕ). x ≤ e) (sym (l s)) (h o)
same_help layout from later deals (Move at) l h = tt
same_help layout from later deals base l h = tt

same_helps : (layout : Layout) (from later : ℕ → ℕ) (deals : ℕ → Deal) (phase : Phase) → ((k : ℕ) → later k ≡ from k) → HelpSince layout from deals phase → HelpSince layout later deals phase
same_helps layout from later deals (Runs why base) l h = same_help layout from later deals base l h
same_helps layout from later deals Idle l h = tt
same_helps layout from later deals (Scans after at) l h = tt
same_helps layout from later deals (Works work) l h = tt

pub same_answers : (w : World) (z : View) (from later : ℕ → ℕ) → ((k : ℕ) → later k ≡ from k) → Answers w z from → Answers w z later
same_answers w z from later l g = record {
  deals = λ k. subst (λ (x : ℕ). DealSince x (z.deal k)) (sym (l k)) (g.deals k);
  helps = λ m. same_helps w.layout from later z.deal (w.seat m).phase l (g.helps m);
}
