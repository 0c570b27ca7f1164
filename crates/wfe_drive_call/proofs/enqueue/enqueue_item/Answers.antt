-- A round was made and ended, and what comes after it is the answer or another round.
use Rattle.std.proofs.Common.{refl}
use Rattle.wfe_core.specs.Calls.{Enqueues}
use Rattle.wfe_drive_runs.specs.Items.{kept_of}
use Rattle.wfe_drive_runs.proofs.drive_words.Leading.{here_on, leads_none, then_closes, then_leads}
use Rattle.wfe_drive_call.proofs.enqueue.enqueue_item.Goals as goal

pub loop-answer-init : goal.loop-answer-init
loop-answer-init g c = record {
  valid = c.requires.valid;
  same = g.W.Words.same_self c.args.words.now;
  room = c.requires.room;
  free = c.requires.free;
  leads = leads_none (g.W.Words.at c.args.words.now) (g.W.Words.stands c.args.words.now) _;
}

pub link_item-ending-requires-clause-here : goal.link_item-ending-requires-clause-here
link_item-ending-requires-clause-here g c = here_on c.requires.here c.loop-answer.invariant.leads

pub end_round-requires-clause-here : goal.end_round-requires-clause-here
end_round-requires-clause-here g c =
    (Enqueues (kept_of c.link_item-ending.new.item), refl, refl, here_on c.requires.here (then_leads c.loop-answer.invariant.leads c.link_item-ending.ensures.leads))

pub returns-in-Some-clause-same : goal.returns-in-Some-clause-same
returns-in-Some-clause-same g c = g.W.Words.same_on _ _ _ (g.W.Words.same_on _ _ _ c.loop-answer.invariant.same c.link_item-ending.ensures.same) c.in-Some.ensures.same

pub returns-in-Some-clause-made : goal.returns-in-Some-clause-made
returns-in-Some-clause-made g c =
    let x = then_leads c.loop-answer.invariant.leads c.link_item-ending.ensures.leads in
    then_closes x (c.in-Some.ensures.ends (Enqueues (kept_of c.link_item-ending.new.item)) refl refl (here_on c.requires.here x))

pub loop-answer-preserved : goal.loop-answer-preserved
loop-answer-preserved g c =
    let x = then_leads c.loop-answer.invariant.leads c.link_item-ending.ensures.leads in
    record {
      valid = c.end_round.ensures.valid;
      same = g.W.Words.same_on _ _ _ (g.W.Words.same_on _ _ _ c.loop-answer.invariant.same c.link_item-ending.ensures.same) c.end_round.ensures.same;
      room = c.end_round.ensures.room;
      free = c.in-None.ensures.goes_on.2;
      leads = then_leads x (c.in-None.ensures.ends (Enqueues (kept_of c.link_item-ending.new.item)) refl refl (here_on c.requires.here x));
    }
