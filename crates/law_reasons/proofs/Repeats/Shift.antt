-- A World in which each seat has found its root so many times more: what holds of the World holds of it, but for the rounds.
use Rattle.std.proofs.Common.{ℕ, ◌≡◌, ◌+◌, Bool, true, false, List, [], ◌∷◌, Option, Some, None, refl, sym, ap, ◌∙◌, subst, arith}
use Rattle.std.proofs.lemmas.Bool.Decides.{nat_tests}
use Rattle.std.specs.Prelude.{◌==◌, if◌then◌else◌}
use Rattle.law_scans.specs.inv.model.defs.declared.event.Event.{Event}
use Rattle.law_scans.specs.inv.model.defs.declared.event.Event.TheVariants as events
use Rattle.law_scans.specs.inv.model.Calls.{Phase, CallOutcome, GoesOn, Answers}
use Rattle.law_scans.specs.inv.model.Desks.{Desk, noting}
use Rattle.law_scans.specs.inv.model.Posts.{upper}
use Rattle.law_scans.specs.inv.model.words.Place.Place.{Clock}
use Rattle.law_scans.specs.inv.model.Locals.{Local, counts_at, found_by, held_told, row_told, rounds_told, settled, settled_by, told_by, turn}
use Rattle.law_scans.specs.inv.model.Rounds.{scheme_of}
use Rattle.law_scans.specs.inv.model.words.Schemes.{publishes_rows}
use Rattle.law_scans.specs.inv.model.defs.declared.event.Guard.{Guard}
use Rattle.law_scans.specs.inv.model.defs.declared.event.Guard.TheVariants.{Helper, Index, Whole}
use Rattle.law_scans.specs.inv.shapes.Slots.{Slots}
use Rattle.law_scans.specs.inv.model.declared.post.Post.{Post}
use Rattle.law_scans.specs.inv.model.World.{World, finds, offered, step}
use Rattle.law_scans.specs.inv.shapes.Eras.{Eras}
use Rattle.law_scans.specs.inv.shapes.Seats.{Seats}
use Rattle.law_scans.proofs.reuse.shapes.Frame.{seat_stays, seat_steps}
use Rattle.law_scans.specs.inv.requests.Standing.{Requests}
use Rattle.law_scans.specs.inv.requests.Views.{View as Asked}
use Rattle.law_scans.specs.inv.rows.Chain.{Both, line_after}
use Rattle.law_scans.specs.inv.rows.Queue.{Line}
use Rattle.law_scans.specs.inv.rows.Rows.{View}
use Rattle.law_scans.specs.inv.ends.Tracked.{Tracked, carries_in, helps_in, root_for}
use Rattle.law_scans.specs.inv.ends.Tracked.Tracked.{Carried, Given, Helped}
use Rattle.law_scans.specs.inv.ends.Losses.{Losses}
use Rattle.law_scans.specs.inv.Rounds.{Rounds, RoundsNeeds}
use Rattle.law_scans.specs.inv.Tallies.{Tally, tally, phase_paced, phase_good}
use Rattle.law_scans.proofs.inv.Rounds.Ending.{rounds_kept}
use Rattle.law_scans.specs.inv.requests.NextDeals.{next_deals}

-- a seat that has found its root n times more
abbrev pub more_rounds : Local → ℕ → Local
more_rounds l n = record { phase = l.phase; post = l.post; desk = l.desk; call = l.call; rounds = l.rounds + n; log = l.log }

abbrev pub shifted : World → (ℕ → ℕ) → World
shifted w n = record { layout = w.layout; mem = w.mem; seat = λ k. more_rounds (w.seat k) (n k); book = w.book }

pub shifted_seats : (w : World) (n : ℕ → ℕ) → Seats w → Seats (shifted w n)
shifted_seats w n s = record { fits = λ k. record { post = (s.fits k).post; phase = (s.fits k).phase } }

pub shifted_eras : (w : World) (n : ℕ → ℕ) → Eras w → Eras (shifted w n)
shifted_eras w n e = record { some = e.some; most = e.most; words = e.words; seats = λ k. record { post = (e.seats k).post; phase = (e.seats k).phase } }

pub shifted_requests : (w : World) (n : ℕ → ℕ) (z : Asked) → Requests w z → Requests (shifted w n) z
shifted_requests w n z r = record { words = r.words; locals = record { tags = r.locals.tags; roles = r.locals.roles; there = r.locals.there }; parts = r.parts }

shifted_both : (w : World) (n : ℕ → ℕ) (v : View) (l : Line) → Both w v l → Both (shifted w n) v l
shifted_both w n v l b = record {
  rows = record { good = b.rows.good; words = b.rows.words; numbers = b.rows.numbers; plays = b.rows.plays; present = b.rows.present };
  queue = record { line = b.queue.line; walks = b.queue.walks };
}

pub shifted_slots : (w : World) (n : ℕ → ℕ) → Slots w → Slots (shifted w n)
shifted_slots w n s = record { words = s.words; seats = λ k. record { post = (s.seats k).post; list = (s.seats k).list; phase = (s.seats k).phase } }

pub shifted_needs : (w : World) (i : ℕ) (v : View) (l : Line) (z : Asked) (n : ℕ → ℕ) → RoundsNeeds w i v l z → Losses (shifted w n) → RoundsNeeds (shifted w n) i v l z
shifted_needs w i v l z n h f = record {
  origins = record {
    valid = h.origins.valid;
    below = h.origins.below;
    seats = shifted_seats w n h.origins.seats;
    eras = shifted_eras w n h.origins.eras;
    needs = record { links = h.origins.needs.links; heads = h.origins.needs.heads };
    requests = shifted_requests w n z h.origins.requests;
  };
  both = shifted_both w n v l h.both;
  items = record { rows = h.items.rows; seats = h.items.seats };
  bounded = record { versions = h.bounded.versions; pairs = h.bounded.pairs };
  losses = f;
  slots = shifted_slots w n h.slots;
}

-- a step finds the root as often, wherever the count begins
more_if : (x : Bool) (rounds n : ℕ) → (if x then rounds + n + 1 else rounds + n) ≡ (if x then rounds + 1 else rounds) + n
more_if true rounds n = omega arith
more_if false rounds n = refl

held_more : (rows : Bool) (index rounds n : ℕ) → held_told rows (rounds + n) index ≡ held_told rows rounds index + n
held_more true index rounds n = refl
held_more false index rounds n = more_if (index == 0) rounds n

row_more : (rows : Bool) (guard : Guard) (slot : Option ℕ) (rounds n : ℕ) → row_told rows (rounds + n) guard slot ≡ row_told rows rounds guard slot + n
row_more rows guard None rounds n = refl
row_more true (Index seat index) (Some slot) rounds n = more_if (counts_at true index) rounds n
row_more true (Helper seat) (Some slot) rounds n = refl
row_more true (Whole seat) (Some slot) rounds n = refl
row_more false (Index seat index) (Some slot) rounds n = refl
row_more false (Helper seat) (Some slot) rounds n = refl
row_more false (Whole seat) (Some slot) rounds n = refl

one_told : (rows : Bool) (event : Event) (rounds n : ℕ) → found_by rows (rounds + n) event ≡ found_by rows rounds event + n
one_told rows (events.Held index slot steps) rounds n = held_more rows index rounds n
one_told rows (events.Null index steps) rounds n = more_if (counts_at rows index) rounds n
one_told rows (events.Hazard guard slot) rounds n = row_more rows guard slot rounds n
one_told rows event rounds n = refl

pub more_told : (rows : Bool) (told : List Event) (rounds n : ℕ) → rounds_told rows (rounds + n) told ≡ rounds_told rows rounds told + n
more_told rows [] rounds n = refl
more_told rows (event ∷ told) rounds n = ap (λ (k : ℕ). rounds_told rows k told) (one_told rows event rounds n) ∙ more_told rows told (found_by rows rounds event) n

-- the seats after a step
pub record Alike (one two : Local) : Type 0 where
  pub phase : one.phase ≡ two.phase
  pub post : one.post ≡ two.post
  pub desk : one.desk ≡ two.desk
  pub rounds : one.rounds ≡ two.rounds

settled_alike : (rows : Bool) (l : Local) (n : ℕ) (post : Post) (desk : Desk) (told : List Event) (outcome : CallOutcome) → Alike (settled_by (more_rounds l n) post desk (rounds_told rows (l.rounds + n) told) outcome) (more_rounds (settled_by l post desk (rounds_told rows l.rounds told) outcome) n)
settled_alike rows l n post desk told (GoesOn phase) = record { phase = refl; post = refl; desk = refl; rounds = more_told rows told l.rounds n }
settled_alike rows l n post desk told (Answers answer) = record { phase = refl; post = refl; desk = refl; rounds = more_told rows told l.rounds n }

alike_by : (w : World) (i k : ℕ) (n : ℕ → ℕ) (same : Bool) → (k == i) ≡ same → Alike ((step (shifted w n) i).seat k) (more_rounds ((step w i).seat k) (n k))
alike_by w i k n true e =
    let q : i ≡ k = grind (arith, nat_tests) in
    let t = turn (offered w i) (finds w i) in
    subst (λ (j : ℕ). Alike ((step (shifted w n) i).seat j) (more_rounds ((step w i).seat j) (n j))) q
    (subst (λ (l : Local). Alike l (more_rounds ((step w i).seat i) (n i))) (sym (seat_steps (shifted w n) i))
    (subst (λ (l : Local). Alike (settled (more_rounds (w.seat i) (n i)) t) (more_rounds l (n i))) (sym (seat_steps w i)) (settled_alike (publishes_rows (scheme_of t.post)) (w.seat i) (n i) t.post (noting t.desk (told_by t)) (told_by t) t.outcome)))
alike_by w i k n false e =
    subst (λ (l : Local). Alike l (more_rounds ((step w i).seat k) (n k))) (sym (seat_stays (shifted w n) i k e))
    (subst (λ (l : Local). Alike (more_rounds (w.seat k) (n k)) (more_rounds l (n k))) (sym (seat_stays w i k e)) (record { phase = refl; post = refl; desk = refl; rounds = refl }))

pub step_alike : (w : World) (i k : ℕ) (n : ℕ → ℕ) → Alike ((step (shifted w n) i).seat k) ((shifted (step w i) n).seat k)
step_alike w i k n = alike_by w i k n (k == i) refl

-- seats that are alike but for what rounds do not ask
abbrev pub with_seats : World → (ℕ → Local) → World
with_seats w seat = record { layout = w.layout; mem = w.mem; seat = seat; book = w.book }

pub tracked_alike : (w : World) (one two : ℕ → Local) (z : Asked) (k x : ℕ) → ((m : ℕ) → (one m).phase ≡ (two m).phase) → ((m : ℕ) → (one m).post ≡ (two m).post) → Tracked (with_seats w two) z k x → Tracked (with_seats w one) z k x
tracked_alike w one two z k x a b (Carried h) =
    Carried
    (subst (λ (post : Post). carries_in (w.mem Clock) (upper post.span) (one k).phase x ≡ true) (sym (b k))
    (subst (λ (phase : Phase). carries_in (w.mem Clock) (upper (two k).post.span) phase x ≡ true) (sym (a k)) h))
tracked_alike w one two z k x a b (Given h) = Given h
tracked_alike w one two z k x a b (Helped m h) = Helped m (subst (λ (phase : Phase). helps_in w.layout (w.mem Clock) k phase (z.deal k) x ≡ true) (sym (a m)) h)

good_alike : (t : Tally) (one two : Local) (x : ℕ) → Alike one two → phase_good t one.rounds one.phase (root_for one.phase) x ≡ true → phase_good t two.rounds two.phase (root_for two.phase) x ≡ true
good_alike t one two x a h =
    subst (λ (phase : Phase). phase_good t two.rounds phase (root_for phase) x ≡ true) a.phase (subst (λ (n : ℕ). phase_good t n one.phase (root_for one.phase) x ≡ true) a.rounds h)

pub rounds_alike : (w : World) (one two : ℕ → Local) (l : Line) (z : Asked) → ((m : ℕ) → Alike (one m) (two m)) → Rounds (with_seats w one) l z → Rounds (with_seats w two) l z
rounds_alike w one two l z a h = record {
  paced = λ k. subst (λ (phase : Phase). phase_paced (tally w l) (two k).rounds phase) (a k).phase (subst (λ (n : ℕ). phase_paced (tally w l) n (one k).phase) (a k).rounds (h.paced k));
  links = record { tracked = λ k x t. good_alike (tally w l) (one k) (two k) x (a k) (h.links.tracked k x (tracked_alike w one two z k x (λ m. (a m).phase) (λ m. (a m).post) t)) };
}

-- a step keeps the rounds of such a World
pub shifted_step : (w : World) (i : ℕ) (v : View) (l : Line) (z next : Asked) (n : ℕ → ℕ) → RoundsNeeds w i v l z → Losses (shifted w n) → next.deal ≡ next_deals w i z.deal → Rounds (shifted w n) l z → Rounds (shifted (step w i) n) (line_after w i l) next
shifted_step w i v l z next n h f d r =
    rounds_alike (step w i) (step (shifted w n) i).seat (shifted (step w i) n).seat (line_after w i l) next (λ m. step_alike w i m n) (rounds_kept (shifted w n) i v l z next (shifted_needs w i v l z n h f) d r)
