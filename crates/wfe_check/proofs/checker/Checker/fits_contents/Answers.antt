use Rattle.std.proofs.Common.{◌∙◌, sym}
use Rattle.wfe_check.proofs.Tests.{both, two}
use Rattle.wfe_check.proofs.checker.Checker.fits_contents.Goals as goal

pub returns-clause-there : goal.returns-clause-there
returns-clause-there c config p shows holds =
    let (one, other) = two _ _ (sym c.both-3.ensures ∙ holds) in
    let (map, queue) = two _ _ (sym c.both.ensures ∙ one) in
    let (scan, lists) = two _ _ (sym c.both-2.ensures ∙ other) in
    let (values, empty) = two _ _ (sym (c.fits_queue-queue.ensures config p shows.contents (c.began-began.ensures config p shows.calls)) ∙ queue) in
    let (blocks, backs) = two _ _ (sym (c.fits_scan-scan.ensures config p shows.lists) ∙ scan) in
    record {
      map = sym (c.fits_map-map.ensures config p shows.contents) ∙ map;
      values = values;
      empty = empty;
      blocks = blocks;
      backs = backs;
      lists = sym (c.lists_right-lists.ensures config p shows) ∙ lists;
    }

pub returns-clause-back : goal.returns-clause-back
returns-clause-back c config p shows fits =
    c.both-3.ensures
    ∙ both _ _
    (c.both.ensures ∙ both _ _ (c.fits_map-map.ensures config p shows.contents ∙ fits.map)
    (c.fits_queue-queue.ensures config p shows.contents (c.began-began.ensures config p shows.calls) ∙ both _ _ fits.values fits.empty))
    (c.both-2.ensures ∙ both _ _ (c.fits_scan-scan.ensures config p shows.lists ∙ both _ _ fits.blocks fits.backs) (c.lists_right-lists.ensures config p shows ∙ fits.lists))
