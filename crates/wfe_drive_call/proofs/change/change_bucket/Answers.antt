-- What the round has made, and what its end makes.
use Rattle.std.proofs.Common.{ap, refl, sym}
use Rattle.wfe_core.specs.Calls.{ChangeKept, Changes}
use Rattle.wfe_core.specs.Rounds.{round}
use Rattle.wfe_drive_runs.specs.drive_words.Called.{at_phase}
use Rattle.wfe_drive_call.specs.Changing.{kept_of}
use Rattle.wfe_drive_runs.proofs.drive_words.Leading.{here_on, leads_as, leads_none, then_closes, then_leads}
use Rattle.wfe_drive_call.proofs.change.change_bucket.Goals as goal

pub loop-answer-init : goal.loop-answer-init
loop-answer-init g c = record {
  valid = c.requires.valid;
  same = g.W.Words.same_self c.args.words.now;
  free = c.requires.free;
  room = c.requires.room;
  leads = leads_as _ _ (ap (λ (kept : ChangeKept). at_phase (round (Changes kept) c.args.post.now) c.args.post.now c.args.desk.now) (sym c.new-kept.ensures)) (leads_none (g.W.Words.at c.args.words.now) (g.W.Words.stands c.args.words.now) _);
}

pub make_round-ending-requires-clause-here : goal.make_round-ending-requires-clause-here
make_round-ending-requires-clause-here g c = here_on c.requires.here c.loop-answer.invariant.leads

pub end_round-requires-clause-here : goal.end_round-requires-clause-here
end_round-requires-clause-here g c =
    (Changes (kept_of c.make_round-ending.new.kept), refl, refl, here_on c.requires.here (then_leads c.loop-answer.invariant.leads c.make_round-ending.ensures.leads))

pub returns-in-Some-clause-same : goal.returns-in-Some-clause-same
returns-in-Some-clause-same g c = g.W.Words.same_on _ _ _ (g.W.Words.same_on _ _ _ c.loop-answer.invariant.same c.make_round-ending.ensures.same) c.in-Some.ensures.same

pub returns-in-Some-clause-made : goal.returns-in-Some-clause-made
returns-in-Some-clause-made g c =
    let x = then_leads c.loop-answer.invariant.leads c.make_round-ending.ensures.leads in
    then_closes x (c.in-Some.ensures.ends (Changes (kept_of c.make_round-ending.new.kept)) refl refl (here_on c.requires.here x))

pub loop-answer-preserved : goal.loop-answer-preserved
loop-answer-preserved g c =
    let x = then_leads c.loop-answer.invariant.leads c.make_round-ending.ensures.leads in
    record {
      valid = c.end_round.ensures.valid;
      same = g.W.Words.same_on _ _ _ (g.W.Words.same_on _ _ _ c.loop-answer.invariant.same c.make_round-ending.ensures.same) c.end_round.ensures.same;
      free = c.in-None.ensures.goes_on.2;
      room = c.end_round.ensures.room;
      leads = then_leads x (c.in-None.ensures.ends (Changes (kept_of c.make_round-ending.new.kept)) refl refl (here_on c.requires.here x));
    }
