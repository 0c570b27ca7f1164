-- A link that a mover has for a request after a step of its own it had before, or it loads it from the root that the seat of
-- the request protects.
use Rattle.std.proofs.Common.{ℕ, ◌≡◌, ◌+◌, Bool, true, false, Option, Some, None, arith, refl, sym, ap, subst, ◌∙◌}
use Rattle.std.proofs.lemmas.Bool.Decides.{nat_tests}
use Rattle.std.specs.Prelude.{◌==◌, if◌then◌else◌, nat_lt, []}
use Rattle.inv_rows.specs.words.Packed.{read_reservation, reservation_word, read_request}
use Rattle.inv_rows.specs.words.Place.{has}
use Rattle.inv_rows.specs.words.Place.Place.{Clock}
use Rattle.inv_rows.specs.words.declared.layout.Layout.{Layout}
use Rattle.inv_rows.specs.words.declared.packed.Request.{Request}
use Rattle.inv_rows.specs.words.declared.packed.Request.TheVariants as requests
use Rattle.inv_rows.specs.defs.declared.event.Root.{Root}
use Rattle.inv_rows.specs.model.declared.post.Post.{Post}
use Rattle.inv_rows.specs.model.Links.{link_place, link_number, root_at}
use Rattle.inv_rows.specs.model.Machine.{move_turn}
use Rattle.inv_rows.specs.model.MoveClock.{next_request, all_met, helping, met, moving, after_hand_over}
use Rattle.inv_rows.specs.model.Posts.{counted}
use Rattle.inv_rows.specs.model.SlowPath.{asking}
use Rattle.inv_rows.specs.model.Phases.{MoveAt, Turn, Outcome, Goes, Ends, goes}
use Rattle.inv_rows.specs.model.Phases.MoveAt.{LoadEra, LoadRequest, ShowEra, LoadAsked, CheckEra, AnswerAsked, LoadReserved, HandOver, HideEra, HideLate, ExchangeClock}
use Rattle.inv_rows.specs.model.Phases.Base.{Move}
use Rattle.inv_rows.specs.model.Calls.{Why, Phase, Runs}
use Rattle.inv_rows.specs.model.World.{World, step, finds, offered}
use Rattle.inv_rows.specs.Covering.Requests.Context.{phase_there}
use Rattle.inv_rows.specs.Covering.Requests.NextDeals.{phase_deals, next_deals}
use Rattle.inv_rows.specs.Covering.Requests.Standing.{is_there}
use Rattle.inv_rows.specs.Covering.Requests.Views.{View, Deal}
use Rattle.inv_rows.specs.Covering.Requests.Views.Deal.{Quiet, Open, Answered, Passed, Taken}
use Rattle.inv_rows.proofs.Covering.Requests.Kept.{at_of}
use Rattle.inv_ends.specs.Tracked.{opened_by, helps_at, helps_base, helps_in, root_in, Helped}
use Rattle.inv_ends.specs.Origins.{loads_link, OriginsNeeds, Came, Before, Now}
use Rattle.inv_ends.proofs.Origins.Backs.{checks_parts, helps_parts, checks_again}
use Rattle.inv_ends.proofs.Origins.Heard.{asks_for, root_one}
use Rattle.inv_ends.proofs.Origins.Opened.{fit_of}
use Rattle.inv_rows.proofs.Covering.Held.{finds_at}
use Rattle.inv_rows.specs.model.Locals.{told_by}
use Rattle.inv_rows.specs.model.Steps.{phase_turn}

-- what an outcome has for a request
abbrev pub out_helps : Layout → ℕ → ℕ → Outcome → Deal → ℕ → Bool
out_helps layout clock k (Goes base) d x = helps_base layout clock k base d x
out_helps layout clock k (Ends ending) d x = false

helps_if : (layout : Layout) (clock k : ℕ) (one two : Turn) (d : Deal) (x : ℕ) (c : Bool) → out_helps layout clock k one.outcome d x ≡ false → out_helps layout clock k two.outcome d x ≡ false → out_helps layout clock k (if c then one else two).outcome d x ≡ false
helps_if layout clock k one two d x true a b = a
helps_if layout clock k one two d x false a b = b

-- other steps have none
all_met_none : (layout : Layout) (clock k era : ℕ) (shows : Bool) (d : Deal) (x : ℕ) → helps_at layout clock k (all_met era shows) d x ≡ false
all_met_none layout clock k era true d x = refl
all_met_none layout clock k era false d x = refl

next_by : (layout : Layout) (clock k era seat : ℕ) (shows : Bool) (d : Deal) (x : ℕ) (c : Bool) → helps_at layout clock k (if c then LoadRequest era (seat + 1) shows else all_met era shows) d x ≡ false
next_by layout clock k era seat shows d x true = refl
next_by layout clock k era seat shows d x false = all_met_none layout clock k era shows d x

next_none : (layout : Layout) (clock k : ℕ) (post : Post) (era seat : ℕ) (shows : Bool) (d : Deal) (x : ℕ) → helps_at layout clock k (next_request post era seat shows) d x ≡ false
next_none layout clock k post era seat shows d x = next_by layout clock k era seat shows d x (nat_lt (seat + 1) post.layout.config.seats)

helping_none : (layout : Layout) (clock k era seat tag index : ℕ) (root : Root) (shows : Bool) (d : Deal) (x : ℕ) → helps_at layout clock k (helping era seat tag index root shows) d x ≡ false
helping_none layout clock k era seat tag index root true d x = refl
helping_none layout clock k era seat tag index root false d x = refl

met_none : (layout : Layout) (clock k : ℕ) (post : Post) (era seat : ℕ) (shows : Bool) (r : Option Request) (d : Deal) (x : ℕ) → helps_at layout clock k (met post era seat shows r) d x ≡ false
met_none layout clock k post era seat shows (Some (requests.Pending tag index word)) d x = helping_none layout clock k era seat tag index (root_at post.layout word) shows d x
met_none layout clock k post era seat shows (Some (requests.Answered link answered)) d x = next_none layout clock k post era seat shows d x
met_none layout clock k post era seat shows (Some requests.Idle) d x = next_none layout clock k post era seat shows d x
met_none layout clock k post era seat shows None d x = next_none layout clock k post era seat shows d x

moving_none : (layout : Layout) (clock k : ℕ) (helps : Bool) (era : ℕ) (d : Deal) (x : ℕ) → helps_at layout clock k (moving helps era) d x ≡ false
moving_none layout clock k true era d x = refl
moving_none layout clock k false era d x = refl

handed_none : (layout : Layout) (clock k era seat tag index old : ℕ) (post : Post) (d : Deal) (x : ℕ) (c : Bool) → out_helps layout clock k (after_hand_over era seat tag index old post c).outcome d x ≡ false
handed_none layout clock k era seat tag index old post d x true = next_none layout clock k post era seat true d x
handed_none layout clock k era seat tag index old post d x false = next_none layout clock k post era seat true d x

-- the request that a mover has loaded is for the root that its seat protects
opened_is : (t j u : ℕ) (d : Deal) → opened_by t j u d ≡ true → d ≡ Open t j u
opened_is t j u Quiet h = cc
opened_is t j u (Open t' j' u') h = open_same (grind (arith, nat_tests)) (grind (arith, nat_tests)) (grind (arith, nat_tests))
  where
    open_same : t' ≡ t → j' ≡ j → u' ≡ u → Open t' j' u' ≡ Open t j u
    open_same p q r = cc
opened_is t j u (Answered t' j' u' l e m) h = cc
opened_is t j u (Passed t' j' u' l e) h = cc
opened_is t j u (Taken t' j' u' l e) h = cc

asked_root : (w : World) (i k : ℕ) (z : View) (t j : ℕ) (r : Root) → OriginsNeeds w i z → has w.layout (link_place r) ≡ true → opened_by t j (link_number w.layout r) (z.deal k) ≡ true → root_in w k ≡ r
asked_root w i k z t j r n there o =
    let a = at_of w i z n.valid n.below n.seats n.needs n.requests in
    let p : phase_there w.layout (w.seat k).phase ≡ true = subst (λ (l : Layout). phase_there l (w.seat k).phase ≡ true) (n.seats.fits i).post.layout (a.inside k) in
    let f = rw (opened_is t j (link_number w.layout r) (z.deal k) o) at (fit_of w z k (w.seat k).phase n.requests refl) in
    let s = asks_for w.layout (w.seat k).phase t j (link_number w.layout r) p f in
    root_one w.layout (root_in w k) r s.there there (sym s.is)

-- a mover loads the link that is asked for
load_came : (w : World) (i k : ℕ) (z : View) (why : Why) (e s t j : ℕ) (r : Root) (x : ℕ) → OriginsNeeds w i z → (w.seat i).phase ≡ Runs why (Move (LoadAsked e s t j r)) → root_in (step w i) k ≡ root_in w k
    → helps_at w.layout ((step w i).mem Clock) k (CheckEra e s t j r (finds w i)) (next_deals w i z.deal k) x ≡ true → Came w i z k x
load_came w i k z why e s t j r x n q same h =
    let p = checks_parts ((step w i).mem Clock) k e s t j (link_number w.layout r) (finds w i) x (next_deals w i z.deal k) h in
    let d : next_deals w i z.deal k ≡ z.deal k = ap (λ (f : Phase). phase_deals w.mem i (w.seat i).post f z.deal k) q in
    let o : opened_by t j (link_number w.layout r) (z.deal k) ≡ true = subst (λ (y : Deal). opened_by t j (link_number w.layout r) y ≡ true) d p.3 in
    let there : has w.layout (link_place r) ≡ true = sym (ap (is_there w.layout) q) ∙ n.requests.locals.there i in
    let root = asked_root w i k z t j r n there o in
    let f : finds w i ≡ w.mem (link_place r) = finds_at w i (Runs why (Move (LoadAsked e s t j r))) q in
    let l : finds w i ≡ x = grind (arith, nat_tests, p.1) in
    Now same (subst (λ (y : Phase). loads_link y ≡ true) (sym q) refl) (ap (λ (p : Phase). told_by (phase_turn p (counted (w.seat i).post) (offered w i).desk (finds w i))) q) (ap (λ (y : Root). w.mem (link_place y)) root ∙ sym f ∙ l)

-- and checks that its era is still the clock
check_came : (w : World) (i k : ℕ) (z : View) (why : Why) (e s t j : ℕ) (r : Root) (link x : ℕ) (c : Bool) → (finds w i == e) ≡ c → OriginsNeeds w i z → (w.seat i).phase ≡ Runs why (Move (CheckEra e s t j r link)) → root_in (step w i) k ≡ root_in w k
    → helps_at w.layout ((step w i).mem Clock) k (if c then AnswerAsked e s t j r link else HideLate (finds w i)) (next_deals w i z.deal k) x ≡ true → Came w i z k x
check_came w i k z why e s t j r link x true y n q same h =
    let p = helps_parts k s t j (link_number w.layout r) link x (next_deals w i z.deal k) h in
    let d : next_deals w i z.deal k ≡ z.deal k = ap (λ (f : Phase). phase_deals w.mem i (w.seat i).post f z.deal k) q in
    let o : opened_by t j (link_number w.layout r) (z.deal k) ≡ true = subst (λ (g : Deal). opened_by t j (link_number w.layout r) g ≡ true) d p.2 in
    let f : finds w i ≡ w.mem Clock = finds_at w i (Runs why (Move (CheckEra e s t j r link))) q in
    let g : w.mem Clock ≡ e = sym f ∙ (grind (arith, nat_tests)) in
    let a = checks_again (w.mem Clock) k e s t j (link_number w.layout r) link x (z.deal k) p.0 p.1 g o in
    Before same (Helped i (subst (λ (u : Phase). helps_in w.layout (w.mem Clock) k u (z.deal k) x ≡ true) (sym q) a))
check_came w i k z why e s t j r link x false y n q same h = absurd (cc)

check_turn : (w : World) (i k : ℕ) (z : View) (why : Why) (e s t j : ℕ) (r : Root) (link x : ℕ) (post : Post) (c : Bool) → (finds w i == e) ≡ c → OriginsNeeds w i z → (w.seat i).phase ≡ Runs why (Move (CheckEra e s t j r link)) → root_in (step w i) k ≡ root_in w k
    → out_helps w.layout ((step w i).mem Clock) k (if c then goes post [] (Move (AnswerAsked e s t j r link)) else goes post [] (Move (HideLate (finds w i)))).outcome (next_deals w i z.deal k) x ≡ true → Came w i z k x
check_turn w i k z why e s t j r link x post true y n q same h = check_came w i k z why e s t j r link x true y n q same h
check_turn w i k z why e s t j r link x post false y n q same h = absurd (cc)

pub no_way : {A : Type 0} → (b : Bool) → b ≡ false → b ≡ true → A
no_way true e h = absurd (cc)
no_way false e h = absurd (cc)

-- a step of a mover
pub move_came : (w : World) (i k : ℕ) (z : View) (why : Why) (at : MoveAt) (x : ℕ) → OriginsNeeds w i z → (w.seat i).phase ≡ Runs why (Move at) → root_in (step w i) k ≡ root_in w k
    → out_helps w.layout ((step w i).mem Clock) k (move_turn at (counted (w.seat i).post) (finds w i)).outcome (next_deals w i z.deal k) x ≡ true → Came w i z k x
move_came w i k z why (LoadEra helps) x n q same h =
    no_way (out_helps w.layout ((step w i).mem Clock) k (move_turn (LoadEra helps) (counted (w.seat i).post) (finds w i)).outcome (next_deals w i z.deal k) x)
    (helps_if w.layout ((step w i).mem Clock) k _ _ (next_deals w i z.deal k) x (finds w i == (w.seat i).post.layout.config.last_era) refl (moving_none w.layout ((step w i).mem Clock) k helps (finds w i) (next_deals w i z.deal k) x)) h
move_came w i k z why (LoadRequest e s shown) x n q same h =
    no_way (out_helps w.layout ((step w i).mem Clock) k (move_turn (LoadRequest e s shown) (counted (w.seat i).post) (finds w i)).outcome (next_deals w i z.deal k) x)
    (met_none w.layout ((step w i).mem Clock) k (counted (w.seat i).post) e s shown (read_request (finds w i)) (next_deals w i z.deal k) x) h
move_came w i k z why (ShowEra e s t j r) x n q same h = absurd (cc)
move_came w i k z why (LoadAsked e s t j r) x n q same h = load_came w i k z why e s t j r x n q same h
move_came w i k z why (CheckEra e s t j r link) x n q same h = check_turn w i k z why e s t j r link x (counted (w.seat i).post) (finds w i == e) refl n q same h
move_came w i k z why (AnswerAsked e s t j r link) x n q same h =
    no_way (out_helps w.layout ((step w i).mem Clock) k (move_turn (AnswerAsked e s t j r link) (counted (w.seat i).post) (finds w i)).outcome (next_deals w i z.deal k) x)
    (helps_if w.layout ((step w i).mem Clock) k _ _ (next_deals w i z.deal k) x (finds w i == asking (w.seat i).post.layout t j r) refl (next_none w.layout ((step w i).mem Clock) k (counted (w.seat i).post) e s true (next_deals w i z.deal k) x)) h
move_came w i k z why (LoadReserved e s t j r link) x n q same h =
    no_way (out_helps w.layout ((step w i).mem Clock) k (move_turn (LoadReserved e s t j r link) (counted (w.seat i).post) (finds w i)).outcome (next_deals w i z.deal k) x)
    (helps_if w.layout ((step w i).mem Clock) k _ _ (next_deals w i z.deal k) x ((read_reservation (finds w i)).tag == t) refl (next_none w.layout ((step w i).mem Clock) k (counted (w.seat i).post) e s true (next_deals w i z.deal k) x)) h
move_came w i k z why (HandOver e s t j r link old) x n q same h =
    no_way (out_helps w.layout ((step w i).mem Clock) k (move_turn (HandOver e s t j r link old) (counted (w.seat i).post) (finds w i)).outcome (next_deals w i z.deal k) x)
    (handed_none w.layout ((step w i).mem Clock) k e s t j old (counted (w.seat i).post) (next_deals w i z.deal k) x (finds w i == reservation_word (record { era = old; tag = t }))) h
move_came w i k z why (HideEra e) x n q same h = absurd (cc)
move_came w i k z why (HideLate seen) x n q same h = absurd (cc)
move_came w i k z why (ExchangeClock e) x n q same h =
    no_way (out_helps w.layout ((step w i).mem Clock) k (move_turn (ExchangeClock e) (counted (w.seat i).post) (finds w i)).outcome (next_deals w i z.deal k) x)
    (helps_if w.layout ((step w i).mem Clock) k _ _ (next_deals w i z.deal k) x (finds w i == e) refl refl) h
