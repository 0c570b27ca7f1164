-- The answer that a seat finds in its request is its deal's, and a request that is open is for the root of its seat's
-- protection.
use Rattle.std.proofs.Common.{ℕ, ◌≡◌, ◌<◌, ◌+◌, ◌^◌, Bool, true, false, arith, refl, sym, ap, subst, ◌∙◌}
use Rattle.std.proofs.lemmas.Bool.Decides.{nat_tests}
use Rattle.std.specs.Prelude.{◌==◌, ◌&&◌, not, nat_lt, Some}
use Rattle.inv_rows.specs.words.Place.{Place, has, is_valid}
use Rattle.inv_rows.specs.words.Packed.{read_request}
use Rattle.inv_rows.specs.words.declared.layout.Layout.{Layout}
use Rattle.inv_rows.specs.words.declared.packed.Request.TheVariants as requests
use Rattle.inv_rows.proofs.words.Parts.{read_request-pending, read_request-answered}
use Rattle.inv_rows.specs.defs.declared.event.Root.{Root}
use Rattle.inv_rows.proofs.model.Ranges.{bounds_of}
use Rattle.inv_rows.proofs.model.Roots.{root_at_link}
use Rattle.inv_rows.specs.model.Links.{link_place, link_number, root_at}
use Rattle.inv_rows.specs.model.Memory.{found}
use Rattle.inv_rows.specs.model.Posts.{counted, tag_of}
use Rattle.inv_rows.specs.model.SlowPath.{asking, own_request, answer_in}
use Rattle.inv_rows.specs.model.Phases.{Aim, ProtectAt, MoveAt, Base}
use Rattle.inv_rows.specs.model.Phases.ProtectAt.{LoadClock, PublishEra, LoadLink, CheckClock, PublishRequest, LoadOwnClock, PublishHelper, LoadOwnLink, CheckOwnClock, AnswerOwn, LoadAnswer, TakeAnswer, WithdrawRequest, WithdrawHelper, LoadWithin, CheckUpper, RaiseUpper, ByHazard}
use Rattle.inv_rows.specs.model.Phases.MoveAt.{LoadEra, LoadRequest, ShowEra, LoadAsked, CheckEra, AnswerAsked, LoadReserved, HandOver, HideEra, HideLate, ExchangeClock}
use Rattle.inv_rows.specs.model.Phases.Base.{Begin, Protect, Reload, Clear, Finish, Release, Allocate, Write, GiveUp, Retire, Move}
use Rattle.inv_rows.specs.model.Calls.{Why, Phase, Idle, Runs, Scans, Works}
use Rattle.inv_rows.specs.model.Locals.{Local}
use Rattle.inv_rows.specs.model.World.{World, finds}
use Rattle.inv_rows.specs.Shapes.Seats.{Seats}
use Rattle.inv_rows.specs.Covering.Requests.Context.{At, phase_there}
use Rattle.inv_rows.specs.Covering.Requests.Deals.{is_open, is_quiet, asked_at, answered_with, fits}
use Rattle.inv_rows.specs.Covering.Requests.Standing.{role_of, request_of, Requests}
use Rattle.inv_rows.specs.Covering.Requests.Views.{View, Deal, Role as roles}
use Rattle.inv_rows.specs.Covering.Requests.Views.Deal.{Quiet, Open, Answered, Passed, Taken}
use Rattle.inv_rows.proofs.Covering.Requests.Answering.{heard, word_by_open}
use Rattle.inv_rows.proofs.Covering.Requests.Going.{link_few}
use Rattle.inv_rows.proofs.Covering.Requests.Helping.{asker_of}
use Rattle.inv_rows.proofs.Covering.Requests.Kept.{at_of}
use Rattle.inv_rows.specs.Follow.{at_asks}
use Rattle.inv_ends.specs.Tracked.{has_link, root_base, root_for}
use Rattle.inv_ends.specs.Origins.{OriginsNeeds}
use Rattle.inv_ends.proofs.Origins.Opened.{work_quiet}
use Rattle.inv_ends.proofs.Origins.Own.{HeardIn, HearsAt}
use Rattle.inv_rows.proofs.Covering.Held.{finds_at}
use Rattle.inv_rows.proofs.Covering.Requests.Known.{stands_as, own_word}
use Rattle.inv_rows.proofs.model.Facts.{not_right, first_of, same_test}

answer_link : (index word link era : ℕ) (d : Deal) → answered_with index word link era d ≡ true → has_link d link ≡ true
answer_link index word link era Quiet h = cc
answer_link index word link era (Open t j w) h = cc
answer_link index word link era (Answered t j w l e m) h = grind (arith, nat_tests)
answer_link index word link era (Passed t j w l e) h = grind (arith, nat_tests)
answer_link index word link era (Taken t j w l e) h = cc

-- the deal of a request that is answered and not taken
pub heard_in : (w : World) (z : View) (k index word found : ℕ) → is_valid w.layout ≡ true → Requests w z → asked_at index word (z.deal k) ≡ true → is_open (z.deal k) ≡ false → found ≡ request_of (z.deal k) → HeardIn (z.deal k) found
heard_in w z k index word found y f a o e =
    let h = heard index word (z.deal k) a o in
    let b = bounds_of w.layout y in
    let t = f.parts.timely k in
    let l : h.link < 2 ^ 24 = omega (arith, h.small z.clock (w.layout.config.slots + 1) t, b.slots) in
    let s : 0 < h.era = h.some z.clock (w.layout.config.slots + 1) t in
    let r : h.era < 2 ^ 32 = omega (arith, h.early z.clock (w.layout.config.slots + 1) t, f.parts.clock, b.eras) in
    record {
      link = h.link;
      era = h.era;
      is = ap answer_in (ap read_request (e ∙ h.is) ∙ read_request-answered h.link h.era l s r);
      has = answer_link index word h.link h.era (z.deal k) h.with;
    }

waits_heard : (w : World) (z : View) (k index word found : ℕ) → is_valid w.layout ≡ true → Requests w z → z.role k ≡ roles.Waits index word → found ≡ request_of (z.deal k) → HeardIn (z.deal k) found
waits_heard w z k index word found y f r e =
    let g : (asked_at index word (z.deal k) && not (is_open (z.deal k))) ≡ true = rw r at (f.parts.fit k) in
    heard_in w z k index word found y f (first_of (asked_at index word (z.deal k)) (not (is_open (z.deal k))) g) (not_right (asked_at index word (z.deal k)) (is_open (z.deal k)) g) e

-- where the own exchange fails the request is open no more
meets_heard : (w : World) (z : View) (k index : ℕ) (root : Root) (first era link found : ℕ) → is_valid w.layout ≡ true → Seats w → Requests w z → z.role k ≡ roles.Answers index (link_number w.layout root) first era link → found ≡ request_of (z.deal k)
    → (found == own_request (w.seat k).post index root) ≡ false → HeardIn (z.deal k) found
meets_heard w z k index root first era link found y s f r e n =
    let g : asked_at index (link_number w.layout root) (z.deal k) ≡ true = rw r at (f.parts.fit k) in
    heard_in w z k index (link_number w.layout root) found y f g (not_open (is_open (z.deal k)) refl g) e
  where
    not_open : (b : Bool) → is_open (z.deal k) ≡ b → asked_at index (link_number w.layout root) (z.deal k) ≡ true → b ≡ false
    not_open false o g = refl
    not_open true o g =
        let l = (s.fits k).post.layout in
        let p = word_by_open index (link_number w.layout root) (tag_of (w.seat k).post index) (z.deal k) (z.tag k) g o (f.parts.tags k) (f.locals.tags k index) in
        let t = ap (λ (x : Layout). asking x (tag_of (w.seat k).post index) index root) (sym l) in
        let x : (found == own_request (w.seat k).post index root) ≡ true = same_test found (own_request (w.seat k).post index root) (e ∙ p ∙ t) in cc

-- what a protection finds of its request
pub hears_at : (w : World) (i : ℕ) (z : View) (why : Why) (aim : Aim) (index : ℕ) (root : Root) (steps : ℕ) (at : ProtectAt) → OriginsNeeds w i z → (w.seat i).phase ≡ Runs why (Protect aim index root steps at) → HearsAt at (counted (w.seat i).post) index root (z.deal i) (finds w i)
hears_at w i z why aim index root steps (LoadClock tries) n q = tt
hears_at w i z why aim index root steps (PublishEra era tries) n q = tt
hears_at w i z why aim index root steps (LoadLink era tries) n q = tt
hears_at w i z why aim index root steps (CheckClock era tries link) n q = tt
hears_at w i z why aim index root steps PublishRequest n q = tt
hears_at w i z why aim index root steps LoadOwnClock n q = tt
hears_at w i z why aim index root steps (PublishHelper first era last) n q = tt
hears_at w i z why aim index root steps (LoadOwnLink first era last) n q = tt
hears_at w i z why aim index root steps (CheckOwnClock first era last link) n q = tt
hears_at w i z why aim index root steps (AnswerOwn first era link) n q =
    λ e. meets_heard w z i index root first era link (finds w i) n.valid n.seats n.requests (stands_as w z i (Runs why (Protect aim index root steps (AnswerOwn first era link))) n.requests q)
    (finds_at w i (Runs why (Protect aim index root steps (AnswerOwn first era link))) q ∙ own_word w z i n.seats n.requests) e
hears_at w i z why aim index root steps (LoadAnswer first) n q =
    waits_heard w z i index (link_number w.layout root) (finds w i) n.valid n.requests (stands_as w z i (Runs why (Protect aim index root steps (LoadAnswer first))) n.requests q)
    (finds_at w i (Runs why (Protect aim index root steps (LoadAnswer first))) q ∙ own_word w z i n.seats n.requests)
hears_at w i z why aim index root steps (TakeAnswer link era) n q = tt
hears_at w i z why aim index root steps (WithdrawRequest link era) n q = tt
hears_at w i z why aim index root steps (WithdrawHelper link era) n q = tt
hears_at w i z why aim index root steps LoadWithin n q = tt
hears_at w i z why aim index root steps (CheckUpper link) n q = tt
hears_at w i z why aim index root steps (RaiseUpper era) n q = tt
hears_at w i z why aim index root steps (ByHazard at) n q = tt

-- where an answer is read the request is not open
read_open : (mem : Place → ℕ) (seat : ℕ → Local) (i : ℕ) (z : View) (k link era : ℕ) (d : Deal) → At mem seat i z → z.deal k ≡ d → read_request (request_of d) ≡ Some (requests.Answered link era) → is_open d ≡ false
read_open mem seat i z k link era Quiet a q r = refl
read_open mem seat i z k link era (Open t j u) a q r =
    let b = bounds_of (seat i).post.layout a.valid in
    let s = asker_of mem seat i z k t j u a q in
    let x : u < 2 ^ 26 = rw (s.is) (link_few mem seat i z s.root a s.there) in
    let y : t + 1 < z.clock = grind (arith, nat_tests, rw q at (a.facts.parts.timely k)) in
    let p = read_request-pending t j u (omega (arith, a.facts.parts.clock, b.eras)) (omega (arith, s.below, b.indexes)) x in absurd (cc)
read_open mem seat i z k link era (Answered t j u l e m) a q r = refl
read_open mem seat i z k link era (Passed t j u l e) a q r = refl
read_open mem seat i z k link era (Taken t j u l e) a q r = refl

-- the link that is read is the deal's
heard_link : (d : Deal) (found link era : ℕ) → HeardIn d found → read_request found ≡ Some (requests.Answered link era) → has_link d link ≡ true
heard_link d found link era h r =
    let e = sym h.is ∙ ap answer_in r in
    let l : h.link ≡ link = taken_same h.link h.era link era e in
    subst (λ (y : ℕ). has_link d y ≡ true) l h.has
  where
    taken_same : (one e two f : ℕ) → TakeAnswer one e ≡ TakeAnswer two f → one ≡ two
    taken_same one e two f q = cc

own_heard : (w : World) (i : ℕ) (z : View) (why : Why) (aim : Aim) (index : ℕ) (root : Root) (steps first last own link era : ℕ) → OriginsNeeds w i z → (w.seat i).phase ≡ Runs why (Protect aim index root steps (AnswerOwn first last own))
    → read_request (finds w i) ≡ Some (requests.Answered link era) → has_link (z.deal i) link ≡ true
own_heard w i z why aim index root steps first last own link era n q r =
    let a = at_of w i z n.valid n.below n.seats n.needs n.requests in
    let f = finds_at w i (Runs why (Protect aim index root steps (AnswerOwn first last own))) q ∙ own_word w z i n.seats n.requests in
    let o = read_open w.mem w.seat i z i link era (z.deal i) a refl (sym (ap read_request f) ∙ r) in
    let g : asked_at index (link_number w.layout root) (z.deal i) ≡ true = rw (stands_as w z i (Runs why (Protect aim index root steps (AnswerOwn first last own))) n.requests q) at (n.requests.parts.fit i) in
    heard_link (z.deal i) (finds w i) link era (heard_in w z i index (link_number w.layout root) (finds w i) n.valid n.requests g o f) r

-- an answer that a protection reads of its request
pub answer_heard : (w : World) (i : ℕ) (z : View) (why : Why) (aim : Aim) (index : ℕ) (root : Root) (steps : ℕ) (at : ProtectAt) (link era : ℕ) → OriginsNeeds w i z → (w.seat i).phase ≡ Runs why (Protect aim index root steps at) → at_asks at ≡ true
    → read_request (finds w i) ≡ Some (requests.Answered link era) → has_link (z.deal i) link ≡ true
answer_heard w i z why aim index root steps (LoadClock tries) link era n q s r = absurd (cc)
answer_heard w i z why aim index root steps (PublishEra last tries) link era n q s r = absurd (cc)
answer_heard w i z why aim index root steps (LoadLink last tries) link era n q s r = absurd (cc)
answer_heard w i z why aim index root steps (CheckClock last tries own) link era n q s r = absurd (cc)
answer_heard w i z why aim index root steps PublishRequest link era n q s r = absurd (cc)
answer_heard w i z why aim index root steps LoadOwnClock link era n q s r = absurd (cc)
answer_heard w i z why aim index root steps (PublishHelper first last end) link era n q s r = absurd (cc)
answer_heard w i z why aim index root steps (LoadOwnLink first last end) link era n q s r = absurd (cc)
answer_heard w i z why aim index root steps (CheckOwnClock first last end own) link era n q s r = absurd (cc)
answer_heard w i z why aim index root steps (AnswerOwn first last own) link era n q s r = own_heard w i z why aim index root steps first last own link era n q r
answer_heard w i z why aim index root steps (LoadAnswer first) link era n q s r = heard_link (z.deal i) (finds w i) link era (hears_at w i z why aim index root steps (LoadAnswer first) n q) r
answer_heard w i z why aim index root steps at link era n q s r = absurd (cc)

-- an open request is for the root that its seat protects
pub record AsksFor (layout : Layout) (word : ℕ) (root : Root) : Type 0 where
  pub there : has layout (link_place root) ≡ true
  pub is : word ≡ link_number layout root

asks_here : (layout : Layout) (index : ℕ) (root : Root) (t j w : ℕ) → (nat_lt index layout.config.indexes && has layout (link_place root)) ≡ true → (j == index && w == link_number layout root) ≡ true → AsksFor layout w root
asks_here layout index root t j w h f = record { there = grind (arith, nat_tests); is = grind (arith, nat_tests) }

asks_at : (layout : Layout) (aim : Aim) (index : ℕ) (root : Root) (steps : ℕ) (at : ProtectAt) (why : Why) (t j w : ℕ) → phase_there layout (Runs why (Protect aim index root steps at)) ≡ true → fits (role_of layout (Runs why (Protect aim index root steps at))) (Open t j w) ≡ true → AsksFor layout w root
asks_at layout aim index root steps (LoadClock tries) why t j w h f = absurd (cc)
asks_at layout aim index root steps (PublishEra era tries) why t j w h f = absurd (cc)
asks_at layout aim index root steps (LoadLink era tries) why t j w h f = absurd (cc)
asks_at layout aim index root steps (CheckClock era tries link) why t j w h f = absurd (cc)
asks_at layout aim index root steps PublishRequest why t j w h f = absurd (cc)
asks_at layout aim index root steps LoadOwnClock why t j w h f = asks_here layout index root t j w h f
asks_at layout aim index root steps (PublishHelper first era last) why t j w h f = asks_here layout index root t j w h f
asks_at layout aim index root steps (LoadOwnLink first era last) why t j w h f = asks_here layout index root t j w h f
asks_at layout aim index root steps (CheckOwnClock first era last link) why t j w h f = asks_here layout index root t j w h f
asks_at layout aim index root steps (AnswerOwn first era link) why t j w h f = asks_here layout index root t j w h f
asks_at layout aim index root steps (LoadAnswer first) why t j w h f = absurd (grind (arith, nat_tests))
asks_at layout aim index root steps at why t j w h f = absurd (cc)

asks_move : (layout : Layout) (at : MoveAt) (why : Why) (root : Root) (t j w : ℕ) → fits (role_of layout (Runs why (Move at))) (Open t j w) ≡ true → AsksFor layout w root
asks_move layout (LoadEra helps) why root t j w f = absurd (cc)
asks_move layout (LoadRequest e k shown) why root t j w f = absurd (cc)
asks_move layout (ShowEra e k s l r) why root t j w f = absurd (cc)
asks_move layout (LoadAsked e k s l r) why root t j w f = absurd (cc)
asks_move layout (CheckEra e k s l r link) why root t j w f = absurd (cc)
asks_move layout (AnswerAsked e k s l r link) why root t j w f = absurd (cc)
asks_move layout (LoadReserved e k s l r link) why root t j w f = absurd (cc)
asks_move layout (HandOver e k s l r link old) why root t j w f = absurd (cc)
asks_move layout (HideEra e) why root t j w f = absurd (cc)
asks_move layout (HideLate seen) why root t j w f = absurd (cc)
asks_move layout (ExchangeClock e) why root t j w f = absurd (cc)

asks_base : (layout : Layout) (base : Base) (why : Why) (t j w : ℕ) → phase_there layout (Runs why base) ≡ true → fits (role_of layout (Runs why base)) (Open t j w) ≡ true → AsksFor layout w (root_base base)
asks_base layout (Begin at) why t j w h f = absurd (cc)
asks_base layout (Protect aim index root steps at) why t j w h f = asks_at layout aim index root steps at why t j w h f
asks_base layout (Reload parent index slot era steps) why t j w h f = absurd (cc)
asks_base layout (Clear rows index) why t j w h f = absurd (cc)
asks_base layout Finish why t j w h f = absurd (cc)
asks_base layout (Release index) why t j w h f = absurd (cc)
asks_base layout (Allocate at) why t j w h f = absurd (cc)
asks_base layout (Write slot row place) why t j w h f = absurd (cc)
asks_base layout (GiveUp slot) why t j w h f = absurd (cc)
asks_base layout (Retire at) why t j w h f = absurd (cc)
asks_base layout (Move at) why t j w h f = asks_move layout at why (root_base (Move at)) t j w f

pub asks_for : (layout : Layout) (phase : Phase) (t j w : ℕ) → phase_there layout phase ≡ true → fits (role_of layout phase) (Open t j w) ≡ true → AsksFor layout w (root_for phase)
asks_for layout Idle t j w h f = absurd (cc)
asks_for layout (Runs why base) t j w h f = asks_base layout base why t j w h f
asks_for layout (Scans later at) t j w h f = absurd (cc)
asks_for layout (Works work) t j w h f = let q : is_quiet (Open t j w) ≡ true = work_quiet layout work (Open t j w) f in absurd (cc)

-- two roots of the table with one number are one
pub root_one : (layout : Layout) (one two : Root) → has layout (link_place one) ≡ true → has layout (link_place two) ≡ true → link_number layout one ≡ link_number layout two → one ≡ two
root_one layout one two a b e = sym (root_at_link layout one a) ∙ ap (root_at layout) e ∙ root_at_link layout two b
