-- Where the clock is moved alone, its machine goes on as a move, or ends with an outcome of the move.
use Rattle.std.proofs.Common.{ℕ, ◌≡◌, Bool, true, false, refl}
use Rattle.std.specs.Prelude.{◌==◌, if◌then◌else◌}
use Rattle.inv_all.specs.model.words.Packed.{reservation_word, read_reservation}
use Rattle.inv_all.specs.model.declared.post.Post.{Post}
use Rattle.inv_all.specs.model.Machine as machine
use Rattle.inv_all.specs.model.MoveClock as movers
use Rattle.inv_all.specs.model.SlowPath.{asking}
use Rattle.inv_all.specs.model.Posts.{counted}
use Rattle.inv_all.specs.model.Phases.{MoveAt, Turn, Base}
use Rattle.inv_all.specs.model.Phases.MoveAt.{LoadEra, CheckEra, AnswerAsked, LoadReserved, HandOver, ExchangeClock}
use Rattle.inv_all.specs.model.Phases.Base.{Move}
use Rattle.inv_all.specs.model.Calls.{Why, Advances, Phase, Idle, Runs, Scans, Works}
use Rattle.inv_all.specs.model.World.{World, finds}
use Rattle.inv_all.specs.shapes.Seats.{ToMove, suits, Seats, Run}
use Rattle.law_reuse.proofs.AnswersTold.Owed.{out_clocked, EndsFor}
use Rattle.law_reuse.proofs.AnswersTold.Owing.{PhaseEnds}
use Rattle.inv_all.proofs.ends.Handover.Asks.{run_of}

clocked_if : (one two : Turn) (c : Bool) → out_clocked one.outcome ≡ true → out_clocked two.outcome ≡ true → out_clocked (if c then one else two).outcome ≡ true
clocked_if one two true a b = a
clocked_if one two false a b = b

clocked_handed : (era seat tag index old : ℕ) (post : Post) (c : Bool) → out_clocked (movers.after_hand_over era seat tag index old post c).outcome ≡ true
clocked_handed era seat tag index old post true = refl
clocked_handed era seat tag index old post false = refl

move_clocked : (at : MoveAt) (post : Post) (found : ℕ) → out_clocked (machine.move_turn at post found).outcome ≡ true
move_clocked (LoadEra helps) post found = clocked_if _ _ (found == post.layout.config.last_era) refl refl
move_clocked (CheckEra era seat tag index root link) post found = clocked_if _ _ (found == era) refl refl
move_clocked (AnswerAsked era seat tag index root link) post found = clocked_if _ _ (found == asking post.layout tag index root) refl refl
move_clocked (LoadReserved era seat tag index root link) post found = clocked_if _ _ ((read_reservation found).tag == tag) refl refl
move_clocked (HandOver era seat tag index root link old) post found = clocked_handed era seat tag index old post (found == reservation_word (record { era = old; tag = tag }))
move_clocked (ExchangeClock era) post found = clocked_if _ _ (found == era) refl refl
move_clocked at post found = refl

base_clocked : (base : Base) (post : Post) (found : ℕ) → suits base ToMove ≡ true → out_clocked (machine.after base post found).outcome ≡ true
base_clocked (Move at) post found s = move_clocked at post found
base_clocked base post found s = absurd (cc)

run_ends : (w : World) (i : ℕ) (why : Why) (base : Base) → Run w.layout why base (w.seat i).post → EndsFor why (machine.after base (counted (w.seat i).post) (finds w i)).outcome
run_ends w i Advances base r = base_clocked base (counted (w.seat i).post) (finds w i) r.suited
run_ends w i why base r = tt

ends_by : (w : World) (i : ℕ) (phase : Phase) → Seats w → (w.seat i).phase ≡ phase → PhaseEnds phase (counted (w.seat i).post) (finds w i)
ends_by w i Idle s e = tt
ends_by w i (Runs why base) s e = run_ends w i why base (run_of w i why base s e)
ends_by w i (Scans later at) s e = tt
ends_by w i (Works work) s e = tt

pub phase_ends : (w : World) (i : ℕ) → Seats w → PhaseEnds (w.seat i).phase (counted (w.seat i).post) (finds w i)
phase_ends w i s = ends_by w i (w.seat i).phase s refl
