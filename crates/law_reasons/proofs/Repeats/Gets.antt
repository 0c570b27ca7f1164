-- A get finds its root once: where it is counted once more from the beginning on, it still loses no more rounds than it may.
use Rattle.std.proofs.Common.{ℕ, ◌≡◌, ◌≤◌, ◌<◌, ◌+◌, Bool, true, false, Option, Some, None, refl, sym, ap, ◌∙◌, subst, arith}
use Rattle.std.proofs.lemmas.Bool.Decides.{nat_tests}
use Rattle.std.specs.Prelude.{◌==◌}
use Rattle.law_scans.specs.inv.model.words.declared.config.Config.{Config}
use Rattle.law_scans.specs.inv.model.words.declared.layout.Layout.{Layout}
use Rattle.law_scans.specs.inv.model.defs.declared.call.Call.{Call}
use Rattle.law_scans.specs.inv.model.defs.declared.call.Call.TheVariants as calls
use Rattle.law_scans.specs.inv.model.defs.declared.fold.Change.{Change}
use Rattle.law_scans.specs.inv.model.defs.declared.fold.Change.TheVariants as changes
use Rattle.law_scans.specs.inv.model.declared.post.Post.{Post}
use Rattle.law_scans.specs.inv.model.Calls.{Task, Gets, Changes, Holds, Enqueues, Dequeues, Opens, Phase}
use Rattle.law_scans.specs.inv.model.Phases.Base.{Protect}
use Rattle.law_scans.specs.inv.model.Phases.HazardAt.{CheckLink}
use Rattle.law_scans.specs.inv.model.Phases.ProtectAt.{ByHazard}
use Rattle.law_scans.specs.inv.model.Rest.{gets_most}
use Rattle.law_scans.specs.inv.model.words.Schemes.{publishes_rows}
use Rattle.law_scans.proofs.inv.ends.Handover.Asks.{run_of}
use Rattle.law_scans.specs.inv.model.Locals.{Local, begun_post}
use Rattle.law_scans.specs.inv.model.Steps as steps
use Rattle.law_scans.specs.inv.model.World.{World, start, begin, step}
use Rattle.law_scans.proofs.reuse.shapes.Frame.{begin_stays, begin_begins}
use Rattle.law_scans.specs.inv.shapes.Eras.{Eras}
use Rattle.law_scans.specs.inv.shapes.Slots.{Slots}
use Rattle.law_scans.proofs.inv.Inv.Kept.{rest_need, rounds_need}
use Rattle.law_scans.specs.inv.Known.{Known}
use Rattle.law_scans.proofs.reuse.AnswersTold.Owed.{ChangeServes, Serves, TaskServes}
use Rattle.law_scans.specs.inv.requests.Views.{View as Asked}
use Rattle.law_scans.proofs.inv.ends.Rest.Fits.{round_fit}
use Rattle.law_scans.proofs.inv.ends.Rest.Lasting.{losses_begin, losses_kept}
use Rattle.law_scans.specs.inv.ends.Falls.{RestNeeds}
use Rattle.law_scans.specs.inv.ends.Losses.{Losses, LossNeeds, fills_fit, phase_fit}
use Rattle.law_scans.proofs.inv.Rounds.Ending.{rounds_give}
use Rattle.law_scans.specs.inv.rows.Queue.{Line}
use Rattle.law_scans.specs.inv.rows.Rows.{View}
use Rattle.law_reasons.proofs.Repeats.Shift.{Alike, shifted, shifted_seats, shifted_eras, shifted_slots, step_alike, with_seats}

-- a get is counted once more
abbrev pub once_more : Option Call → ℕ
once_more (Some (calls.Get key)) = 1
once_more call = 0

changed_once : (call : Call) (change : Change) (wanted : Option ℕ) → ChangeServes call change wanted → once_more (Some call) ≡ 0
changed_once call (changes.Put key value) None s = ap (λ (x : Call). once_more (Some x)) s.is
changed_once call (changes.Put key value) (Some version) s = ap (λ (x : Call). once_more (Some x)) s.is
changed_once call (changes.Removed key) None s = ap (λ (x : Call). once_more (Some x)) s.is
changed_once call (changes.Removed key) (Some version) s = let m = s.may in absurd (cc)

-- what a step needs in such a World
next_eras : (w : World) (i : ℕ) (n : ℕ → ℕ) → Eras (step w i) → Eras (step (shifted w n) i)
next_eras w i n e = record {
  some = e.some;
  most = e.most;
  words = e.words;
  seats = λ k.
      let a = step_alike w i k n in
      record { post = rw a.post (e.seats k).post; phase = rw (a.post, a.phase) (e.seats k).phase };
}

next_slots : (w : World) (i : ℕ) (n : ℕ → ℕ) → Slots (step w i) → Slots (step (shifted w n) i)
next_slots w i n s = record {
  words = s.words;
  seats = λ k.
      let a = step_alike w i k n in
      record { post = rw a.post (s.seats k).post; list = rw a.desk (s.seats k).list; phase = rw (a.desk, a.phase) (s.seats k).phase };
}

shifted_rest : (w : World) (i : ℕ) (v : View) (l : Line) (z : Asked) (n : ℕ → ℕ) → Known w v l z → Losses (shifted w n) → RestNeeds (shifted w n) i
shifted_rest w i v l z n k f =
    let r = rest_need w i v l z k in
    record { seats = shifted_seats w n r.seats; eras = shifted_eras w n r.eras; slots = shifted_slots w n r.slots; lists = r.lists; eras_next = next_eras w i n r.eras_next; slots_next = next_slots w i n r.slots_next; losses = f; follows = r.follows }

-- only a get is counted once more
no_more : (rounds most n : ℕ) → n ≡ 0 → rounds ≤ most → rounds + n ≤ most
no_more rounds most n e h = omega (arith, e, h)

-- what is known of the seat's call: how much more is counted of it
abbrev pub CallOnce : Call → ℕ → Type 0
CallOnce call n = n ≡ once_more (Some call)

task_once : (c : Config) (call : Call) (n rounds : ℕ) (task : Task) → CallOnce call n → TaskServes call task → fills_fit c rounds task → n ≡ 0
task_once c call n rounds (Changes kept) o s f = o ∙ changed_once call kept.change kept.wanted s
task_once c call n rounds (Enqueues kept) o s f = o ∙ ap (λ (x : Call). once_more (Some x)) s
task_once c call n rounds (Gets key) o s f = absurd (cc)
task_once c call n rounds (Holds key) o s f = absurd (cc)
task_once c call n rounds Dequeues o s f = absurd (cc)

-- where no row is published no link is loaded again
no_again : (config : Config) (rows : Bool) → publishes_rows config.scheme ≡ rows → rows ≡ false → publishes_rows config.scheme ≡ true → ⊥
no_again config true q r f = cc
no_again config false q r f = cc

shifted_give : (w : World) (i : ℕ) (v : View) (l : Line) (z : Asked) (n : ℕ → ℕ) → i < w.layout.config.seats → publishes_rows w.layout.config.scheme ≡ false → Known w v l z → Serves (w.seat i).call (w.seat i).phase → CallOnce (w.seat i).call (n i) → LossNeeds (shifted w n) i
shifted_give w i v l z n b r k s o =
    let h : LossNeeds w i = rounds_give w i v l z (rounds_need w i v l z b k) k.rounds in
    let at : (phase : Phase) → (w.seat i).phase ≡ phase → Serves (w.seat i).call phase = λ phase e. subst (λ (x : Phase). Serves (w.seat i).call x) e s in
    let once : Call → ℕ = λ x. once_more (Some x) in
    record {
      changes = λ kept slot e d. no_more (w.seat i).rounds _ (n i) (o ∙ changed_once (w.seat i).call kept.change kept.wanted (at _ e)) (h.changes kept slot e d);
      passes = λ kept next e. no_more (w.seat i).rounds _ (n i) (o ∙ ap once (at _ e)) (h.passes kept next e);
      enqueues = λ kept slot e d. no_more (w.seat i).rounds _ (n i) (o ∙ ap once (at _ e)) (h.enqueues kept slot e d);
      reloads = λ head tail parent index slot era x e d. no_more (w.seat i).rounds _ (n i) (o ∙ ap once (at _ e)) (h.reloads head tail parent index slot era x e d);
      swings = λ head next e. no_more (w.seat i).rounds _ (n i) (o ∙ ap once (at _ e)) (h.swings head next e);
      dequeues = λ head next number value e d. no_more (w.seat i).rounds _ (n i) (o ∙ ap once (at _ e)) (h.dequeues head next number value e d);
      walks = λ task birth walk e d. no_more (w.seat i).rounds _ (n i) (task_once w.layout.config (w.seat i).call (n i) (w.seat i).rounds task o (at _ e) (subst (λ (x : Phase). phase_fit w.layout.config (w.seat i).rounds x) e (k.losses.few i))) (h.walks task birth walk e d);
      hazards = λ task aim index root made link e d. absurd (no_again w.layout.config (publishes_rows w.layout.config.scheme) refl r (run_of w i (Opens task) (Protect aim index root made (ByHazard (CheckLink link))) k.seats e).fits);
      roots = h.roots;
    }

losses_alike : (w : World) (one two : ℕ → Local) → ((m : ℕ) → Alike (one m) (two m)) → Losses (with_seats w one) → Losses (with_seats w two)
losses_alike w one two a h = record {
  few = λ k. subst (λ (phase : Phase). phase_fit w.layout.config (two k).rounds phase) (a k).phase (subst (λ (n : ℕ). phase_fit w.layout.config n (one k).phase) (a k).rounds (h.few k));
  spans = λ k b. subst (λ (post : Post). post.span ≡ None) (a k).post (h.spans k b);
}

-- a step of such a World loses no more rounds than it may, whatever is counted
pub losses_step : (w : World) (i : ℕ) (v : View) (l : Line) (z : Asked) (n m : ℕ → ℕ) → Known w v l z → ((k : ℕ) → m k ≡ n k) → LossNeeds (shifted w n) i → Losses (shifted w n) → Losses (shifted (step w i) m)
losses_step w i v l z n m k e h f =
    let g : Losses (step (shifted w n) i) = losses_kept (shifted w n) i k.valid (shifted_rest w i v l z n k f) h in
    losses_alike (step w i) (shifted (step w i) n).seat (shifted (step w i) m).seat (λ j. record { phase = refl; post = refl; desk = refl; rounds = ap (λ (x : ℕ). ((step w i).seat j).rounds + x) (sym (e j)) })
    (losses_alike (step w i) (step (shifted w n) i).seat (shifted (step w i) n).seat (λ j. step_alike w i j n) g)

pub gets_step : (w : World) (i : ℕ) (v : View) (l : Line) (z : Asked) (n m : ℕ → ℕ) → i < w.layout.config.seats → publishes_rows w.layout.config.scheme ≡ false → Known w v l z → Serves (w.seat i).call (w.seat i).phase → CallOnce (w.seat i).call (n i) → ((k : ℕ) → m k ≡ n k) → Losses (shifted w n) → Losses (shifted (step w i) m)
gets_step w i v l z n m b r k s o e f = losses_step w i v l z n m k e (shifted_give w i v l z n b r k s o) f

-- a call begins
one_get : (config : Config) (rows : Bool) → 1 ≤ gets_most config rows
one_get config true = omega arith
one_get config false = omega arith

-- a call of which nothing is counted
pub first_none : (w : World) (i : ℕ) (call : Call) → Losses w → phase_fit w.layout.config 0 (steps.first_phase call (begun_post (w.seat i).post))
first_none w i call f = subst (λ (s : Local). phase_fit w.layout.config s.rounds s.phase) (begin_begins w i call) ((losses_begin w i call f).few i)

first_once : (w : World) (i : ℕ) (call : Call) → Losses w → phase_fit w.layout.config (once_more (Some call)) (steps.first_phase call (begun_post (w.seat i).post))
first_once w i (calls.Get key) f = round_fit w.layout.config 1 (Gets key) (begun_post (w.seat i).post) (one_get w.layout.config (publishes_rows w.layout.config.scheme))
first_once w i call f = first_none w i call f

begun_few : (w : World) (i k : ℕ) (call : Call) (n m : ℕ → ℕ) (same : Bool) → (k == i) ≡ same → ((j : ℕ) → (j == i) ≡ false → m j ≡ n j) → phase_fit w.layout.config (m i) (steps.first_phase call (begun_post (w.seat i).post)) → Losses (shifted w n) → phase_fit w.layout.config (((begin w i call).seat k).rounds + m k) ((begin w i call).seat k).phase
begun_few w i k call n m true e o f g =
    let q : i ≡ k = grind (arith, nat_tests) in
    subst (λ (j : ℕ). phase_fit w.layout.config (((begin w i call).seat j).rounds + m j) ((begin w i call).seat j).phase) q
    (subst (λ (s : Local). phase_fit w.layout.config (s.rounds + m i) s.phase) (sym (begin_begins w i call))
    (subst (λ (x : ℕ). phase_fit w.layout.config x (steps.first_phase call (begun_post (w.seat i).post))) (none_first (m i)) f))
  where
    none_first : (x : ℕ) → x ≡ 0 + x
    none_first x = omega arith
begun_few w i k call n m false e o f g =
    subst (λ (s : Local). phase_fit w.layout.config (s.rounds + m k) s.phase) (sym (begin_stays w i k call e)) (subst (λ (x : ℕ). phase_fit w.layout.config ((w.seat k).rounds + x) (w.seat k).phase) (sym (o k e)) (g.few k))

-- where a call begins with no more than it may lose
pub begun_losses : (w : World) (i : ℕ) (call : Call) (n m : ℕ → ℕ) → ((j : ℕ) → (j == i) ≡ false → m j ≡ n j) → phase_fit w.layout.config (m i) (steps.first_phase call (begun_post (w.seat i).post)) → Losses w → Losses (shifted w n) → Losses (shifted (begin w i call) m)
begun_losses w i call n m o f h g = record { few = λ k. begun_few w i k call n m (k == i) refl o f g; spans = (losses_begin w i call h).spans }

pub gets_begin : (w : World) (i : ℕ) (call : Call) (n m : ℕ → ℕ) → ((j : ℕ) → (j == i) ≡ false → m j ≡ n j) → CallOnce call (m i) → Losses w → Losses (shifted w n) → Losses (shifted (begin w i call) m)
gets_begin w i call n m o c f g =
    begun_losses w i call n m o (subst (λ (x : ℕ). phase_fit w.layout.config x (steps.first_phase call (begun_post (w.seat i).post))) (sym c) (first_once w i call f)) f g

-- at the beginning no call is under way
pub losses_start : (layout : Layout) (n : ℕ → ℕ) → Losses (shifted (start layout) n)
losses_start layout n = record { few = λ k. tt; spans = λ k b. refl }
