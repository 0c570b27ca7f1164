-- Each step of a mover leaves fewer steps; and what the part on requests needs, from links in range.
use Rattle.std.proofs.Common.{ℕ, ◌≡◌, ◌≤◌, ◌<◌, ◌+◌, Bool, true, false, [], ◌∷◌, arith, refl, sym, ap, subst}
use Rattle.std.proofs.lemmas.Bool.Decides.{nat_tests}
use Rattle.std.specs.Prelude.{◌==◌, ◌&&◌, if◌then◌else◌, nat_lt, Option, Some, None}
use Rattle.inv_rows.specs.words.Place.{is_valid}
use Rattle.inv_rows.specs.words.Place.Place.{Bucket, Head, Tail, Row}
use Rattle.inv_rows.specs.words.Packed.{read_request, read_reservation, reservation_word}
use Rattle.inv_rows.specs.words.declared.config.Config.{Config}
use Rattle.inv_rows.specs.words.declared.config.SchemeKind.{SchemeKind}
use Rattle.inv_rows.specs.words.declared.layout.Layout.{Layout}
use Rattle.inv_rows.specs.words.declared.packed.Request.{Request}
use Rattle.inv_rows.specs.words.declared.packed.Request.TheVariants as requests
use Rattle.inv_rows.specs.defs.declared.call.ClockMove.TheVariants as moves
use Rattle.inv_rows.specs.defs.declared.event.Event.TheVariants as events
use Rattle.inv_rows.specs.defs.declared.event.Root.{Root}
use Rattle.inv_rows.specs.defs.declared.event.Root.TheVariants as root_names
use Rattle.inv_rows.specs.model.Desks.{Desk}
use Rattle.inv_rows.specs.model.declared.post.Post.{Post}
use Rattle.inv_rows.proofs.model.Ranges.{bounds_of}
use Rattle.inv_rows.specs.model.Links.{link_place, root_at}
use Rattle.inv_rows.specs.model.MoveClock.{moving, met, helping, next_request, all_met, after_hand_over}
use Rattle.inv_rows.specs.model.Posts.{counted}
use Rattle.inv_rows.specs.model.SlowPath.{asking}
use Rattle.inv_rows.specs.model.Phases.{MoveAt, Turn, goes, ends}
use Rattle.inv_rows.specs.model.Phases.MoveAt.{LoadEra, LoadRequest, ShowEra, LoadAsked, CheckEra, AnswerAsked, LoadReserved, HandOver, HideEra, HideLate, ExchangeClock}
use Rattle.inv_rows.specs.model.Phases.Base.{Move}
use Rattle.inv_rows.specs.model.Phases.Ending.{Clocked}
use Rattle.inv_rows.specs.model.Machine.{move_turn}
use Rattle.inv_rows.specs.model.Rest.{move_left, move_most, requests_left}
use Rattle.inv_rows.specs.model.Calls.{Why, Opens, FollowsHead, Phase, Idle, Runs, Scans, Works}
use Rattle.inv_rows.specs.model.World.{World, finds}
use Rattle.inv_rows.specs.Shapes.Seats.{Seats, PhaseFits, move_fits}
use Rattle.inv_rows.specs.words.Schemes.{helps}
use Rattle.inv_rows.specs.Shapes.Slots.{Slots, WhyIn, PhaseIn}
use Rattle.inv_rows.specs.Covering.Requests.Needs.{Needs, head_fits, heads_fit}
use Rattle.inv_rows.specs.Covering.Requests.Paces.{Falls, MovesOn}
use Rattle.inv_rows.proofs.model.Facts.{rest_of, if_by}

all_met_left : (c : Config) (e n : ℕ) (shown : Bool) → 3 ≤ n → move_left (all_met e shown) c + 1 ≤ n
all_met_left c e n true h = omega arith
all_met_left c e n false h = omega arith

next_left : (c : Config) (post : Post) (e k n : ℕ) (shown : Bool) → post.layout.config ≡ c → k < c.seats → requests_left c k 1 ≤ n → move_left (next_request post e k shown) c + 1 ≤ n
next_left c post e k n shown t b h =
    subst (λ (d : Config). move_left (if nat_lt (k + 1) d.seats then LoadRequest e (k + 1) shown else all_met e shown) c + 1 ≤ n) (sym t)
    (if_by (nat_lt (k + 1) c.seats) (LoadRequest e (k + 1) shown) (all_met e shown) (λ (at : MoveAt). move_left at c + 1 ≤ n)
    (λ g. grind (arith, nat_tests)) (λ g. all_met_left c e n shown (grind (arith, nat_tests))))

helping_left : (c : Config) (e k t j : ℕ) (r : Root) (shown : Bool) → move_left (helping e k t j r shown) c + 1 ≤ requests_left c k 7
helping_left c e k t j r true = omega arith
helping_left c e k t j r false = omega arith

met_left : (c : Config) (post : Post) (e k : ℕ) (shown : Bool) (r : Option Request) → post.layout.config ≡ c → k < c.seats → move_left (met post e k shown r) c + 1 ≤ requests_left c k 7
met_left c post e k shown (Some (requests.Pending t j w)) h b = helping_left c e k t j (root_at post.layout w) shown
met_left c post e k shown (Some (requests.Answered l a)) h b = next_left c post e k (requests_left c k 7) shown h b (omega arith)
met_left c post e k shown (Some requests.Idle) h b = next_left c post e k (requests_left c k 7) shown h b (omega arith)
met_left c post e k shown None h b = next_left c post e k (requests_left c k 7) shown h b (omega arith)

moving_left : (c : Config) (e : ℕ) (helps : Bool) → 1 ≤ c.seats → move_left (moving helps e) c + 1 ≤ move_most c
moving_left c e true h = omega arith
moving_left c e false h = omega arith

hand_left : (c : Config) (e k t j old : ℕ) (post : Post) (same : Bool) → post.layout.config ≡ c → k < c.seats → Falls c (requests_left c k 1) (after_hand_over e k t j old post same).outcome
hand_left c e k t j old post true h b = next_left c post e k (requests_left c k 1) true h b (omega arith)
hand_left c e k t j old post false h b = next_left c post e k (requests_left c k 1) true h b (omega arith)

move_falls : (c : Config) (at : MoveAt) (post : Post) (found : ℕ) → post.layout.config ≡ c → 1 ≤ c.seats → move_fits c.scheme c.seats at ≡ true → Falls c (move_left at c) (move_turn at post found).outcome
move_falls c (LoadEra helps) post found h s f =
    if_by (found == post.layout.config.last_era) (ends post [] (Clocked (moves.EraSpent found))) (goes post [] (Move (moving helps found)))
    (λ (t : Turn). Falls c (move_most c) t.outcome) (λ g. omega arith) (λ g. moving_left c found helps s)
move_falls c (LoadRequest e k shown) post found h s f = met_left c post e k shown (read_request found) h (below c.scheme c.seats k f)
  where
    below : (scheme : SchemeKind) (seats k : ℕ) → (helps scheme && nat_lt k seats) ≡ true → k < seats
    below scheme seats k g = let x : nat_lt k seats ≡ true = rest_of (helps scheme) (nat_lt k seats) g in grind (arith, nat_tests)
move_falls c (ShowEra e k t j r) post found h s f = omega arith
move_falls c (LoadAsked e k t j r) post found h s f = omega arith
move_falls c (CheckEra e k t j r link) post found h s f =
    if_by (found == e) (goes post [] (Move (AnswerAsked e k t j r link))) (goes post [] (Move (HideLate found)))
    (λ (x : Turn). Falls c (requests_left c k 4) x.outcome) (λ g. omega arith) (λ g. omega arith)
move_falls c (AnswerAsked e k t j r link) post found h s f =
    let b : k < c.seats = (let x : nat_lt k c.seats ≡ true = rest_of (helps c.scheme) (nat_lt k c.seats) f in grind (arith, nat_tests)) in
    if_by (found == asking post.layout t j r) (goes post [] (Move (LoadReserved e k t j r link))) (goes post [] (Move (next_request post e k true)))
    (λ (x : Turn). Falls c (requests_left c k 3) x.outcome) (λ g. omega arith) (λ g. next_left c post e k (requests_left c k 3) true h b (omega arith))
move_falls c (LoadReserved e k t j r link) post found h s f =
    let b : k < c.seats = (let x : nat_lt k c.seats ≡ true = rest_of (helps c.scheme) (nat_lt k c.seats) f in grind (arith, nat_tests)) in
    if_by ((read_reservation found).tag == t) (goes post [] (Move (HandOver e k t j r link (read_reservation found).era))) (goes post [] (Move (next_request post e k true)))
    (λ (x : Turn). Falls c (requests_left c k 2) x.outcome) (λ g. omega arith) (λ g. next_left c post e k (requests_left c k 2) true h b (omega arith))
move_falls c (HandOver e k t j r link old) post found h s f =
    let b : k < c.seats = (let x : nat_lt k c.seats ≡ true = rest_of (helps c.scheme) (nat_lt k c.seats) f in grind (arith, nat_tests)) in
    hand_left c e k t j old post (found == reservation_word (record { era = old; tag = t })) h b
move_falls c (HideEra e) post found h s f = omega arith
move_falls c (HideLate seen) post found h s f = omega arith
move_falls c (ExchangeClock e) post found h s f =
    if_by (found == e) (ends post (events.Era (e + 1) ∷ []) (Clocked (moves.Moved (e + 1)))) (ends post [] (Clocked (moves.Other found)))
    (λ (x : Turn). Falls c 1 x.outcome) (λ g. omega arith) (λ g. omega arith)

pub moves_on : (w : World) (k : ℕ) → is_valid w.layout ≡ true → Seats w → MovesOn w k
moves_on w k y s = record {
  falls = λ why at q.
      let f = subst (PhaseFits w.layout (w.seat k).post) q (s.fits k).phase in
      let b = bounds_of w.layout y in
      move_falls w.layout.config at (counted (w.seat k).post) (finds w k) (ap (λ (l : Layout). l.config) (s.fits k).post.layout) (b.seats.0) f.fits;
  first = λ helps. refl;
}

head_of : (c : Config) (why : Why) → WhyIn c why → head_fits c why ≡ true
head_of c (Opens task) h = refl
head_of c (FollowsHead head tail) h = grind (arith, nat_tests)
head_of c why h = refl

heads_of : (layout : Layout) (desk : Desk) (phase : Phase) → PhaseIn layout desk phase → heads_fit layout.config phase ≡ true
heads_of layout desk Idle h = refl
heads_of layout desk (Runs why base) h = head_of layout.config why h.0
heads_of layout desk (Scans later at) h = refl
heads_of layout desk (Works work) h = refl

links_of : (w : World) (root : Root) → Slots w → w.mem (link_place root) ≤ w.layout.config.slots + 1
links_of w (root_names.Bucket bucket) s = s.words (Bucket bucket)
links_of w root_names.Head s = s.words Head
links_of w root_names.Tail s = s.words Tail
links_of w (root_names.Next slot) s = s.words (Row slot 0) refl

-- links and slots that stay within the table are all that is needed
pub needs_of : (w : World) → Slots w → Needs w
needs_of w s = record { links = λ root h. links_of w root s; heads = λ k. heads_of w.layout (w.seat k).desk (w.seat k).phase (s.seats k).phase }
