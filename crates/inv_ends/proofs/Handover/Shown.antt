-- What words publish, and what is held where an answer is handed over and where it is taken.
use Rattle.std.proofs.Common.{ℕ, ◌≡◌, ◌≤◌, ◌<◌, ◌+◌, ◌^◌, ◌∙◌, Bool, true, false, refl, ap, sym, subst, arith, ◌&&◌}
use Rattle.std.proofs.lemmas.Bool.Decides.{nat_tests}
use Rattle.std.specs.Prelude.{◌==◌, if◌then◌else◌, nat_le, nat_lt}
use Rattle.inv_rows.specs.words.Place.{has, Place as places}
use Rattle.inv_rows.specs.words.Packed.{halves, read_reservation}
use Rattle.inv_rows.specs.words.declared.packed.Reservation.{Reservation}
use Rattle.inv_rows.specs.words.declared.config.Config.{Config}
use Rattle.inv_rows.specs.words.declared.config.SchemeKind.{SchemeKind}
use Rattle.inv_rows.proofs.words.Parts.{read_reservation-halves}
use Rattle.inv_rows.specs.defs.declared.event.Guard.{Guard}
use Rattle.inv_rows.specs.defs.declared.event.Guard.TheVariants.{Helper, Index}
use Rattle.inv_rows.specs.defs.declared.event.Root.{Root}
use Rattle.inv_rows.specs.defs.Shown as values
use Rattle.inv_rows.specs.model.Guards.{from_to, one_era, own_guard}
use Rattle.inv_rows.specs.model.Links.{link_place, link_number, root_at}
use Rattle.inv_rows.specs.model.Memory.{Move as Act, place_in, change}
use Rattle.inv_rows.specs.model.Posts.{tag_of}
use Rattle.inv_rows.specs.model.Phases.{Aim}
use Rattle.inv_rows.specs.model.Phases.ProtectAt.{TakeAnswer}
use Rattle.inv_rows.specs.model.Phases.MoveAt.{HandOver}
use Rattle.inv_rows.specs.model.Phases.Base.{Protect, Move}
use Rattle.inv_rows.specs.model.Steps.{phase_move}
use Rattle.inv_rows.specs.model.Calls.{Why, Phase, Runs}
use Rattle.inv_rows.specs.model.World.{World, step}
use Rattle.inv_rows.proofs.model.Ranges.{bounds_of}
use Rattle.inv_rows.proofs.model.Roots.{root_at_link}
use Rattle.inv_rows.specs.words.Schemes.{helps, publishes_rows}
use Rattle.inv_rows.proofs.Shapes.Frame.{word_steps}
use Rattle.inv_rows.specs.Covering.Requests.Deals.{answered_with, stays}
use Rattle.inv_rows.specs.Covering.Requests.Roles.{is_away}
use Rattle.inv_rows.specs.Covering.Requests.Standing.{Requests}
use Rattle.inv_rows.specs.Covering.Requests.Views.{Deal, Role, View as Asked, Role as role}
use Rattle.inv_rows.specs.Covering.Requests.Views.Deal.{Quiet, Open, Answered, Passed, Taken}
use Rattle.inv_rows.specs.Rows.{View}
use Rattle.inv_rows.specs.Agree.{rows_after}
use Rattle.inv_rows.specs.Covering.Covers.{eras_shown, shown, CoversNeeds, GuardFits, Scanning}
use Rattle.inv_rows.specs.Covering.Held.{leads, under, Holds}
use Rattle.inv_rows.proofs.Covering.Words.{eras_are_shown, widens_same}
use Rattle.inv_ends.specs.Helped.{answered_from, passed_to, Helped}
use Rattle.inv_ends.specs.Handover.{HandoverNeeds}
use Rattle.inv_rows.proofs.Covering.Held.{move_is}
use Rattle.inv_rows.proofs.Covering.Kept.{covers_kept}
use Rattle.inv_rows.proofs.Covering.Guards.{guards_fit, helpers_first, handed_kept}
use Rattle.inv_ends.proofs.Handover.Asks.{fits_at}
use Rattle.inv_ends.proofs.Handover.Back.{inside_of}
use Rattle.inv_ends.proofs.Handover.Deals.{mark_few, handed_deal}
use Rattle.inv_ends.proofs.Handover.Words.{Handed, helper_stays}
use Rattle.inv_rows.proofs.Covering.Requests.Known.{stands_as}
use Rattle.inv_rows.proofs.model.Facts.{rest_of}
use Rattle.inv_rows.proofs.model.Schemes.{index_guard}
use Rattle.inv_rows.proofs.words.Schemes.{helps_not_interval, helps_not_rows}

pub helper_shows : (w : World) (z : Asked) (k : ℕ) → Requests w z → eras_shown w (Helper k) ≡ one_era (z.helper k)
helper_shows w z k q =
    let e = ap read_reservation (q.words.helpers k) ∙ read_reservation-halves (z.helper k) 0 (omega arith) in
    ap (λ (r : Reservation). one_era r.era) e

pub index_shows : (w : World) (i : ℕ) (v : View) (z : Asked) (k j : ℕ) → HandoverNeeds w i v z → publishes_rows w.layout.config.scheme ≡ false → eras_shown w (Index k j) ≡ one_era (z.era k j)
index_shows w i v z k j n p =
    let e = ap read_reservation (n.requests.words.indexes p k j) ∙ read_reservation-halves (z.era k j) (z.mark k j) (mark_few w i v z k j n) in
    ap (λ (r : Reservation). one_era r.era) e

pub one_from : (era : ℕ) → 1 ≤ era → one_era era ≡ from_to era era
one_from era h = let e : (era == 0) ≡ false = grind (arith, nat_tests) in rw e refl

pub helped_guard : (scheme : SchemeKind) (k j : ℕ) → helps scheme ≡ true → own_guard scheme k j ≡ Index k j
helped_guard scheme k j h = index_guard scheme k j (helps_not_interval scheme h)

pub index_fits : (config : Config) (k j : ℕ) → helps config.scheme ≡ true → k < config.seats → j < config.indexes → GuardFits config (Index k j)
index_fits config k j f a b = subst (λ (g : Guard). GuardFits config g) (helped_guard config.scheme k j f) (guards_fit config k j a b)

-- what is held stays held while the word is the same
shown_same : (w : World) (i : ℕ) (guard : Guard) → helps w.layout.config.scheme ≡ true → eras_shown (step w i) guard ≡ eras_shown w guard → shown (step w i) guard ≡ shown w guard
shown_same w i guard f e = let p = helps_not_rows w.layout.config.scheme f in eras_are_shown (step w i) guard p ∙ ap values.shown e ∙ sym (eras_are_shown w guard p)

pub holds_stay : (w : World) (i : ℕ) (v : View) (guard : Guard) (s : ℕ) → helps w.layout.config.scheme ≡ true → CoversNeeds w i v → Scanning w → eras_shown (step w i) guard ≡ eras_shown w guard → Holds w v guard s → Holds (step w i) (rows_after w i v) guard s
holds_stay w i v guard s f n u e h = record { fits = h.fits; covers = covers_kept w i v guard s n u h.fits (widens_same (shown w guard) (shown (step w i) guard) (shown_same w i guard f e)) h.covers }

-- the word that the step leaves at its place
moved_word : (w : World) (i : ℕ) (phase : Phase) → (w.seat i).phase ≡ phase → (step w i).mem (place_in (phase_move phase (w.seat i).post)) ≡ change (phase_move phase (w.seat i).post) (w.mem (place_in (phase_move phase (w.seat i).post)))
moved_word w i phase e = subst (λ (m : Act). (step w i).mem (place_in m) ≡ change m (w.mem (place_in m))) (move_is w i phase e) (word_steps w i)

read_era : (word era tag : ℕ) → word ≡ halves era tag → tag < 2 ^ 32 → one_era (read_reservation word).era ≡ one_era era
read_era word era tag e f = ap (λ (r : Reservation). one_era r.era) (ap read_reservation e ∙ read_reservation-halves era tag f)

-- after the hand-over
hand_shown : (w : World) (i : ℕ) (v : View) (z : Asked) (k j : ℕ) → HandoverNeeds w i v z → (h : Handed w i k j) → h.tag + 1 < 2 ^ 32 → eras_shown (step w i) (Index k j) ≡ one_era h.era
hand_shown w i v z k j n h f =
    let e : (step w i).mem (places.Index k j) ≡ (if w.mem (places.Index k j) == halves h.old h.tag then halves h.era (h.tag + 1) else w.mem (places.Index k j)) = moved_word w i (Runs h.why (Move (HandOver h.era k h.tag j h.root h.link h.old))) h.is in
    read_era ((step w i).mem (places.Index k j)) h.era (h.tag + 1) (rw h.same at e) f

pub no_store : (i k : ℕ) → (k == i && false) ≡ false
no_store i k = grind (arith, nat_tests)

-- what a helper's word covered, the index word covers
pub over_holds : (w : World) (i : ℕ) (v : View) (z : Asked) (m k j s era : ℕ) → helps w.layout.config.scheme ≡ true → HandoverNeeds w i v z → m < w.layout.config.seats → k < w.layout.config.seats → j < w.layout.config.indexes
    → eras_shown (step w i) (Helper m) ≡ eras_shown w (Helper m) → z.helper m ≡ era → eras_shown (step w i) (Index k j) ≡ one_era era → Holds w v (Helper m) s → Holds (step w i) (rows_after w i v) (Index k j) s
over_holds w i v z m k j s era f n b c d e q r h = record {
  fits = index_fits w.layout.config k j f c d;
  covers = handed_kept w i v (Helper m) (Index k j) s n.covers n.scans h.fits (helpers_first w.layout.config m k j f b) (widens_same (shown w (Helper m)) (shown (step w i) (Helper m)) (shown_same w i (Helper m) f e))
      (let p = helps_not_rows w.layout.config.scheme f in eras_are_shown (step w i) (Index k j) p ∙ ap values.shown (r ∙ sym (e ∙ helper_shows w z m n.requests ∙ ap one_era q)) ∙ sym (eras_are_shown (step w i) (Helper m) p)) h.covers;
}

pub handed_holds : (w : World) (i : ℕ) (v : View) (z : Asked) (k j s : ℕ) → helps w.layout.config.scheme ≡ true → HandoverNeeds w i v z → Helped w v z.deal → (h : Handed w i k j) → leads h.link s ≡ true → under v.status (root_at w.layout (link_number w.layout h.root)) ≡ true
    → Holds (step w i) (rows_after w i v) (Index k j) s
handed_holds w i v z k j s f n d h l u =
    let phase : Phase = Runs h.why (Move (HandOver h.era k h.tag j h.root h.link h.old)) in
    let r : z.role i ≡ role.Hands h.era k h.tag j (link_number w.layout h.root) h.link h.old = stands_as w z i (Runs h.why (Move (HandOver h.era k h.tag j h.root h.link h.old))) n.requests h.is in
    let o : (nat_lt k w.layout.config.seats && (nat_lt j w.layout.config.indexes && nat_lt (link_number w.layout h.root) (2 ^ 26))) ≡ true = rw r at (n.requests.parts.whom i) in
    let p : nat_lt (h.tag + 1) h.era ≡ true = rw r at (n.requests.parts.spare i) in
    let c : h.era ≤ z.clock = rw r at (n.requests.parts.eras i) in
    let x : (z.helper i == h.era) ≡ true = rw r at (n.requests.parts.shown i) in
    let b = bounds_of w.layout n.valid in
    let m = n.requests.parts.clock in
    let g : h.tag + 1 < 2 ^ 32 = grind (arith, nat_tests, b.eras) in
    let a : answered_from w.layout v.status i (z.deal k) s ≡ true = rw (handed_deal w i v z k j n h) (grind (arith, nat_tests, l, u)) in
    over_holds w i v z i k j s h.era f n n.below (grind (arith, nat_tests)) (grind (arith, nat_tests))
    (helper_stays w i i (Runs h.why (Move (HandOver h.era k h.tag j h.root h.link h.old))) (n.seats.fits i).post.seat h.is (no_store i i))
    (grind (arith, nat_tests)) (hand_shown w i v z k j n h g) (d.answered k i s a)

-- after the taking
take_shown : (w : World) (i : ℕ) (v : View) (z : Asked) (why : Why) (aim : Aim) (index : ℕ) (root : Root) (steps link era : ℕ) → HandoverNeeds w i v z → (w.seat i).phase ≡ Runs why (Protect aim index root steps (TakeAnswer link era)) → eras_shown (step w i) (Index i index) ≡ one_era era
take_shown w i v z why aim index root steps link era n e =
    let r = stands_as w z i (Runs why (Protect aim index root steps (TakeAnswer link era))) n.requests e in
    let p : nat_lt (z.tag i index + 1) era ≡ true = rw r at (n.requests.parts.spare i) in
    let c : era ≤ z.clock = rw r at (n.requests.parts.eras i) in
    let b = bounds_of w.layout n.valid in
    let m = n.requests.parts.clock in
    let t = n.requests.locals.tags i index in
    let g : tag_of (w.seat i).post index + 1 < 2 ^ 32 = grind (arith, nat_tests, b.eras) in
    let x : (step w i).mem (places.Index (w.seat i).post.seat index) ≡ halves era (tag_of (w.seat i).post index + 1) = moved_word w i (Runs why (Protect aim index root steps (TakeAnswer link era))) e in
    read_era ((step w i).mem (places.Index i index)) era (tag_of (w.seat i).post index + 1) (ap (λ (k : ℕ). (step w i).mem (places.Index k index)) (sym (n.seats.fits i).post.seat) ∙ x) g

stays_there : (r : Role) (m i t j word l e : ℕ) → stays r m i t j word l e ≡ true → is_away r ≡ false
stays_there role.Away m i t j word l e h = sym h
stays_there r m i t j word l e h = refl

-- who gave an answer is a seat of the table
pub giver_below : (w : World) (i : ℕ) (v : View) (z : Asked) (k t j word l e m : ℕ) → HandoverNeeds w i v z → z.deal k ≡ Answered t j word l e m → (stays (z.role m) m k t j word l e ≡ true) × ((z.helper m ≡ e) × (m < w.layout.config.seats))
giver_below w i v z k t j word l e m n q =
    let a : (stays (z.role m) m k t j word l e && z.helper m == e) ≡ true = rw q at (n.requests.parts.answer k) in
    let b : stays (z.role m) m k t j word l e ≡ true = grind (arith, nat_tests) in
    (b, (grind (arith, nat_tests), below (nat_le w.layout.config.seats m) refl (stays_there (z.role m) m k t j word l e b)))
  where
    below : (out : Bool) → nat_le w.layout.config.seats m ≡ out → is_away (z.role m) ≡ false → m < w.layout.config.seats
    below true o h = let x = n.requests.parts.outside m (grind (arith, nat_tests)) in absurd (cc)
    below false o h = grind (arith, nat_tests)

taken_by : (w : World) (i : ℕ) (v : View) (z : Asked) (why : Why) (aim : Aim) (index : ℕ) (root : Root) (steps link era s : ℕ) (d : Deal) → helps w.layout.config.scheme ≡ true → HandoverNeeds w i v z → Helped w v z.deal → (w.seat i).phase ≡ Runs why (Protect aim index root steps (TakeAnswer link era)) → z.deal i ≡ d
    → answered_with index (link_number w.layout root) link era d ≡ true → leads link s ≡ true → under v.status (root_at w.layout (link_number w.layout root)) ≡ true → index < w.layout.config.indexes → Holds (step w i) (rows_after w i v) (Index i index) s
taken_by w i v z why aim index root steps link era s Quiet f n d e q a l u b = absurd (cc)
taken_by w i v z why aim index root steps link era s (Open t j' w') f n d e q a l u b = absurd (cc)
taken_by w i v z why aim index root steps link era s (Taken t j' w' l' e') f n d e q a l u b = absurd (cc)
taken_by w i v z why aim index root steps link era s (Answered t j' w' l' e' m) f n d e q a l u b =
    let x : w' ≡ link_number w.layout root = grind (arith, nat_tests) in
    let y : l' ≡ link = grind (arith, nat_tests) in
    let c : e' ≡ era = grind (arith, nat_tests) in
    let o : answered_from w.layout v.status m (z.deal i) s ≡ true = rw (q, x, y) (grind (arith, nat_tests, l, u)) in
    let g = giver_below w i v z i t j' w' l' e' m n q in
    over_holds w i v z m i index s era f n (g.1.1) n.below b
    (helper_stays w i m (Runs why (Protect aim index root steps (TakeAnswer link era))) (n.seats.fits i).post.seat e (no_store i m))
    (g.1.0 ∙ c) (take_shown w i v z why aim index root steps link era n e) (d.answered i m s o)
taken_by w i v z why aim index root steps link era s (Passed t j' w' l' e') f n d e q a l u b =
    let p : j' ≡ index = grind (arith, nat_tests) in
    let x : w' ≡ link_number w.layout root = grind (arith, nat_tests) in
    let y : l' ≡ link = grind (arith, nat_tests) in
    let c : e' ≡ era = grind (arith, nat_tests) in
    let o : passed_to w.layout v.status index (z.deal i) s ≡ true = rw (q, p, x, y) (grind (arith, nat_tests, l, u)) in
    let g : (z.era i j' == e') ≡ true = rw q at (n.requests.parts.taken i) in
    let r : z.era i index ≡ era = grind (arith, nat_tests) in
    holds_stay w i v (Index i index) s f n.covers n.scans (take_shown w i v z why aim index root steps link era n e ∙ ap one_era (sym r) ∙ sym (index_shows w i v z i index n (helps_not_rows w.layout.config.scheme f))) (d.passed i index s o)

pub taken_holds : (w : World) (i : ℕ) (v : View) (z : Asked) (why : Why) (aim : Aim) (index : ℕ) (root : Root) (steps link era s : ℕ) → helps w.layout.config.scheme ≡ true → HandoverNeeds w i v z → Helped w v z.deal → (w.seat i).phase ≡ Runs why (Protect aim index root steps (TakeAnswer link era))
    → leads link s ≡ true → under v.status root ≡ true → Holds (step w i) (rows_after w i v) (Index i index) s
taken_holds w i v z why aim index root steps link era s f n d e l u =
    let o = inside_of w i v z i why aim index root steps (TakeAnswer link era) n e in
    let b : index < w.layout.config.indexes = grind (arith, nat_tests) in
    let t : root_at w.layout (link_number w.layout root) ≡ root = root_at_link w.layout root (rest_of (nat_lt index w.layout.config.indexes) (has w.layout (link_place root)) o) in
    taken_by w i v z why aim index root steps link era s (z.deal i) f n d e refl (fits_at w z i (Runs why (Protect aim index root steps (TakeAnswer link era))) n.requests e) l (rw t u) b
