-- A row that is taken stays; else the walk gives one, or none was free.
use Rattle.std.proofs.Common.{refl, sym}
use Rattle.wfe_core.specs.Calls.{Changes, Fills, Runs}
use Rattle.wfe_core.specs.Change.{no_room, with_taken, with_walked, new_row}
use Rattle.wfe_core.specs.DeskHeld.{desk_of}
use Rattle.wfe_core.specs.WriteRow.{writing}
use Rattle.wfe_drive_runs.proofs.drive_words.Leading.{here_as, leads_as, leads_from, leads_none}
use Rattle.wfe_drive_runs.proofs.Spanning.{free_stays}
use Rattle.wfe_drive_runs.proofs.Turning.{went_on}
use Rattle.wfe_drive_call.specs.Changing.{kept_of}
use Rattle.wfe_drive_call.proofs.RowFilling.{clears_noted, fills_taken, fills_walk}
use Rattle.wfe_drive_call.proofs.fill.row_for.Goals as goal

pub returns-in-Some-clause-taken : goal.returns-in-Some-clause-taken
returns-in-Some-clause-taken g c =
    let kept = kept_of c.args.kept.now in
    (c.in-Some.is, leads_as _ _ (fills_taken kept c.in-Some.slot c.args.post.now (desk_of c.args.desk.now) c.in-Some.is) (leads_none (g.W.Words.at c.args.words.now) (g.W.Words.stands c.args.words.now) _))

pub take_row-requires-clause-here : goal.take_row-requires-clause-here
take_row-requires-clause-here g c =
    let kept = kept_of c.args.kept.now in
    (Fills (Changes kept), here_as _ _ (fills_walk kept c.args.post.now (desk_of c.args.desk.now) c.in-None.is) c.requires.here)

pub returns-in-Given-clause-taken : goal.returns-in-Given-clause-taken
returns-in-Given-clause-taken g c =
    let kept = kept_of c.args.kept.now in
    let walks = fills_walk kept c.args.post.now (desk_of c.args.desk.now) c.in-None.is in
    let ended = c.in-Given.ensures.ends (Fills (Changes kept)) (here_as _ _ walks c.requires.here) in
    (refl, leads_from _ _ (sym walks) (leads_as _ _ (went_on (Runs (Fills (Changes (with_taken kept c.in-Given.slot))) (writing c.in-Given.slot (new_row kept))) c.take_row.new.post ended.before ended.told c.take_row.new.desk ended.noted) ended.turns.leads))

pub returns-in-Full-clause-taken : goal.returns-in-Full-clause-taken
returns-in-Full-clause-taken g c =
    let kept = kept_of c.args.kept.now in
    let walks = fills_walk kept c.args.post.now (desk_of c.args.desk.now) c.in-None.is in
    let ended = c.in-Full.ensures.ends (Fills (Changes kept)) (here_as _ _ walks c.requires.here) in
    leads_from _ _ (sym walks) (leads_as _ _ (clears_noted (with_walked kept) (no_room kept.walked) c.take_row.new.post ended.before ended.told c.take_row.new.desk ended.noted) ended.turns.leads)

pub returns-in-Given-clause-free : goal.returns-in-Given-clause-free
returns-in-Given-clause-free g c = free_stays c.args.post.now c.take_row.new.post c.in-Given.ensures.layout c.in-Given.ensures.standing c.requires.free

pub returns-in-Full-clause-free : goal.returns-in-Full-clause-free
returns-in-Full-clause-free g c = free_stays c.args.post.now c.take_row.new.post c.in-Full.ensures.layout c.in-Full.ensures.standing c.requires.free
