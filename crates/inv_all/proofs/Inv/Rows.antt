-- What the rows, and the load of a link, take of other parts.
use Rattle.std.proofs.Common.{ℕ, ◌≡◌, ◌≤◌, ◌<◌, true, refl, sym, ap, ◌∙◌, arith, Some}
use Rattle.inv_ends.specs.model.words.Packed.{halves}
use Rattle.inv_ends.specs.model.words.Place.{is_valid}
use Rattle.inv_ends.specs.model.words.Place.Place.{Clock, Life, Row}
use Rattle.inv_ends.specs.model.words.declared.packed.Request.TheVariants as requests
use Rattle.inv_ends.proofs.model.words.Parts.{halves_some}
use Rattle.inv_ends.specs.model.declared.ends.ProtectEnd.TheVariants as protect_ends
use Rattle.inv_ends.specs.model.Phases.{ProtectAt, Base, Goes, Ends, Protected}
use Rattle.inv_ends.specs.model.World.{World}
use Rattle.inv_ends.specs.shapes.Eras.{LifeIn, NoLife, Lives, Eras}
use Rattle.inv_ends.specs.shapes.Seats.{Seats}
use Rattle.inv_ends.proofs.shapes.Gives.{gives_walks, gives_births}
use Rattle.inv_ends.specs.rows.Agree.{RowsNeeds}
use Rattle.inv_ends.specs.rows.Chain.{Both, PhaseNeeds}
use Rattle.inv_ends.specs.rows.Follow.{AnswersFit}
use Rattle.inv_ends.specs.rows.Queue.{Line, in_queue}
use Rattle.inv_ends.specs.rows.Rows.{Status, View, is_settled, has_life, retire_in}
use Rattle.inv_ends.specs.rows.Rows.Status.{Free, Claimed, Born, Linked, InQueue, Cut, Sealed, Listed}
use Rattle.inv_ends.proofs.rows.Queued.{queue_needs, queue_is}
use Rattle.inv_ends.specs.covers.Covers.{CoversNeeds}
use Rattle.inv_ends.specs.covers.Held.{RootsNeeds}
use Rattle.inv_all.proofs.Inv.Shown.{clock_small, none_after}
use Rattle.inv_ends.proofs.requests.Serving.{read_idle}

idle_apart : (link era : ℕ) → Some requests.Idle ≡ Some (requests.Answered link era) → ⊥
idle_apart link era e = cc

no_answer : (at : ProtectAt) (next : ℕ) → AnswersFit at 0 next
no_answer at next link era a r p = absurd (idle_apart link era (sym read_idle ∙ r))

goes_apart : (base : Base) (slot era : ℕ) → Goes base ≡ Ends (Protected (protect_ends.Held slot era)) → ⊥
goes_apart base slot era e = cc

phase_need : (w : World) (i : ℕ) (v : View) (l : Line) → Seats w → Eras w → PhaseNeeds w.layout.config.slots w.mem v l (w.seat i).phase Goes 0
phase_need w i v l s a = record {
  walks = λ why birth walk e. gives_walks w s i why birth walk e;
  births = λ why birth slot e. let b = (gives_births w a i why birth slot e).0 in omega arith;
  tails = λ kept base slot era e o. absurd (goes_apart base slot era o);
  heads = λ base slot era e o. absurd (goes_apart base slot era o);
  leads = λ base slot era e o. absurd (goes_apart base slot era o);
  answers = λ head tail aim index root steps at e. no_answer at (w.mem (Row head 0));
}

pub rows_need : (w : World) (i : ℕ) (v : View) (l : Line) → Seats w → Eras w → Both w v l → RowsNeeds w i v
rows_need w i v l s a b = queue_needs w.layout.config.slots w.mem v l (w.seat i).phase Goes 0 (phase_need w i v l s a) b.rows.words.head b.queue.line (b.queue.walks i)

pub covers_need : (w : World) (i : ℕ) (v : View) (l : Line) → is_valid w.layout ≡ true → Seats w → Eras w → Both w v l → CoversNeeds w i v
covers_need w i v l d s a b = record {
  rows = b.rows;
  needs = rows_need w i v l s a b;
  layouts = λ k. (s.fits k).post.layout;
  eras = λ guard. none_after w guard d a;
}

-- the birth era of a row that was linked is at most the clock
pub settled_life : (x : Status) → is_settled x ≡ true → has_life x ≡ true
settled_life Free h = absurd (cc)
settled_life (Claimed by) h = absurd (cc)
settled_life (Born by) h = refl
settled_life (Linked bucket) h = refl
settled_life InQueue h = refl
settled_life (Cut by) h = refl
settled_life (Sealed by retire) h = refl
settled_life (Listed by retire) h = refl

half_most : (birth retire b r clock : ℕ) → halves birth retire ≡ halves b r → b ≤ clock → r ≤ clock → clock < 4294967296 → birth ≤ clock
unfolding halves
half_most birth retire b r clock e m n c = omega arith

birth_most : (clock birth retire word : ℕ) → LifeIn clock word → word ≡ halves birth retire → 0 < birth → clock < 4294967296 → birth ≤ clock
birth_most clock birth retire word (NoLife e) h p c = let s = halves_some birth retire p in absurd (omega (arith, e, h, s))
birth_most clock birth retire word (Lives b r e f) h p c = half_most birth retire b r clock (sym h ∙ e) f.born.most f.over c

pub births_most : (w : World) (v : View) (l : Line) (s : ℕ) → is_valid w.layout ≡ true → Eras w → Both w v l → is_settled (v.status s) ≡ true → v.birth s ≤ w.mem Clock
births_most w v l s d a b h =
    let f = settled_life (v.status s) h in
    birth_most (w.mem Clock) (v.birth s) (retire_in (v.status s)) (w.mem (Life s)) (a.words (Life s)) (b.rows.words.lives s f) (b.rows.good.births s f) (clock_small w d a)

pub roots_need : (w : World) (v : View) (l : Line) → is_valid w.layout ≡ true → Eras w → Both w v l → RootsNeeds w v
roots_need w v l d a b = record {
  rows = b.rows;
  births = λ s h. births_most w v l s d a b h;
  tail = λ s e. queue_is (v.status s) (b.queue.line.reached s e);
  nexts = λ p s q e. queue_is (v.status s) (b.queue.line.links p s (ap in_queue q) e);
}
