-- What is known of a call that has ended, at its end.
use Rattle.std.proofs.Common.{List, Option, Some, ap, subst, sym, true, ℕ, ◌∙◌, ◌≡◌}
use Rattle.law_all.proofs.inv.model.Facts.{first_of, rest_of}
use Rattle.law_all.specs.inv.model.Locals.{Group}
use Rattle.law_all.specs.inv.model.defs.declared.call.Answer.{Answer}
use Rattle.law_all.specs.inv.model.defs.declared.call.Call.{Call}
use Rattle.law_all.specs.inv.model.defs.declared.event.Event.TheVariants as events
use Rattle.law_all.specs.inv.model.defs.declared.event.Event.{Event}
use Rattle.law_all.specs.inv.model.words.Place.{is_valid}
use Rattle.law_all.specs.inv.model.words.declared.config.Config.{Config}
use Rattle.law_all.specs.inv.model.words.declared.layout.Layout.{Layout}
use Rattle.law_all.specs.inv.history.History.{Item, record_of}
use Rattle.law_all.specs.inv.history.Record.Past.{Then}
use Rattle.law_all.specs.inv.history.Record.{Each, Past, tells}
use Rattle.law_all.specs.Logs.Records.{IsEnded}
use Rattle.law_all.proofs.Logs.Along.{lawful_tells}
use Rattle.law_all.proofs.Logs.Counts.{begun_counts}
use Rattle.law_all.proofs.Logs.Grows.{Grows, grows_along, grows_entry, grows_tells}
use Rattle.law_all.proofs.Logs.Heard.{AllHeard}
use Rattle.law_all.proofs.Logs.Knows.{Lawful, knows, lawful_before}
use Rattle.law_all.proofs.Records.{lawful}
use Rattle.law_all.specs.laws.AnswerLaw.{suits}
use Rattle.law_all.specs.laws.HistoryAnswers.{answer_right, answers_ok, owes, reason, same_told}
use Rattle.law_all.specs.laws.Standing.{open_ok}
use Rattle.law_all.specs.laws.StateAt.{is_open, told_of}

-- What is known where a call ends, in a later record: the call has told just what it owes, each of that is so, and its answer has its
-- reason; its seat is in it; and calls were begun and answered as they have to be till then.
pub record Closes (c : Config) (k : ℕ) (p r : Past) (call : Call) (answer : Answer) : Type 0 where
  pub told : same_told (told_of k p) (owes c.buckets call answer) ≡ true
  pub suits : suits call answer ≡ true
  pub reason : reason c k p (Some call) answer ≡ true
  pub heard : AllHeard c.buckets (begun_counts k p) p (told_of k p)
  pub grows : Grows p r
  pub opened : is_open k p ≡ true
  pub calls : Each open_ok p
  pub answers : Each (answers_ok c.buckets) p

pub closes : (layout : Layout) (items : List Item) (k : ℕ) (before : List Group) (group : Group) → is_valid layout ≡ true
    → (e : IsEnded k (record_of layout items) before group) → Closes layout.config k e.at (record_of layout items) group.call group.answer
closes layout items k before group d e =
    let c : Config = layout.config in
    let p : Past = e.at in
    let r : Past = record_of layout items in
    let event : Event = events.End group.notes.steps group.answer in
    let there : Past = Then p k event in
    let m : Lawful c there = lawful_tells c there e.later (subst (Lawful c) e.cut (lawful layout items d)) in
    let right : answer_right c.buckets (Some group.call) (told_of k p) group.answer ≡ true =
    ap (λ (call : Option Call). answer_right c.buckets call (told_of k p) group.answer) (sym e.call) ∙ m.told.0 in
    record {
      told = rest_of (suits group.call group.answer) (same_told (told_of k p) (owes c.buckets group.call group.answer)) right;
      suits = first_of (suits group.call group.answer) (same_told (told_of k p) (owes c.buckets group.call group.answer)) right;
      reason = ap (λ (call : Option Call). reason c k p call group.answer) (sym e.call) ∙ m.reasons.0;
      heard = (knows c k p (lawful_before c p k event m)).heard;
      grows = subst (λ (x : Past). Grows p x) (sym e.cut) (grows_along p there (tells there e.later) (grows_entry p k event) (grows_tells e.later there));
      opened = m.open_calls.0;
      calls = m.open_calls.1;
      answers = m.told.1;
    }
