-- The row was taken before, or is taken now, and is written.
use Rattle.std.proofs.Common.{Option, ap, sym, ℕ}
use Rattle.wfe_core.specs.Calls.{Enqueues, Fills, Runs}
use Rattle.wfe_core.specs.Enqueue.{filling_by}
use Rattle.wfe_drive_runs.specs.Items.{kept_of}
use Rattle.wfe_drive_words.specs.Called.{at_phase}
use Rattle.wfe_drive_words.proofs.Leading.{here_as, here_on, leads_from, then_leads}
use Rattle.wfe_drive_runs.proofs.Turning.{leads_so}
use Rattle.wfe_drive_runs.proofs.Appending.{none_free, row_given}
use Rattle.wfe_drive_runs.proofs.item_row.fill_item.Goals as goal

pub write-requires-in-Given-clause-here : goal.write-requires-in-Given-clause-here
write-requires-in-Given-clause-here g c =
    let kept = kept_of c.args.item.now in
    let is = ap (λ (taken : Option ℕ). at_phase (Runs (Fills (Enqueues kept)) (filling_by kept taken)) c.args.post.now c.args.desk.now) c.in-None.is in
    let h = here_as _ _ is c.requires.here in
    here_on h (row_given kept c.in-Given.slot c.in-Given.birth c.take_row.new.post c.take_row.new.desk (leads_so (c.in-Given.ensures.ends (Fills (Enqueues kept)) h)))

pub returns-in-Given-clause-leads : goal.returns-in-Given-clause-leads
returns-in-Given-clause-leads g c =
    let kept = kept_of c.args.item.now in
    let is = ap (λ (taken : Option ℕ). at_phase (Runs (Fills (Enqueues kept)) (filling_by kept taken)) c.args.post.now c.args.desk.now) c.in-None.is in
    let x = c.in-Given.ensures.ends (Fills (Enqueues kept)) (here_as _ _ is c.requires.here) in
    leads_from _ _ (sym is) (then_leads (row_given kept c.in-Given.slot c.in-Given.birth c.take_row.new.post c.take_row.new.desk (leads_so x)) c.write-in-Given.ensures.leads)

pub returns-in-Full-clause-leads : goal.returns-in-Full-clause-leads
returns-in-Full-clause-leads g c =
    let kept = kept_of c.args.item.now in
    let is = ap (λ (taken : Option ℕ). at_phase (Runs (Fills (Enqueues kept)) (filling_by kept taken)) c.args.post.now c.args.desk.now) c.in-None.is in
    let x = c.in-Full.ensures.ends (Fills (Enqueues kept)) (here_as _ _ is c.requires.here) in
    leads_from _ _ (sym is) (none_free kept c.take_row.new.post c.take_row.new.desk (leads_so x))
