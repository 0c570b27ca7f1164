use Rattle.std.proofs.Common.{◌≡◌, arith}
use Rattle.std.proofs.lemmas.Grind.{common_steps}
use Rattle.wfe_check_map.specs.Seats.{seat_in}
use Rattle.wfe_check_map.proofs.SeatsLemmas.{fits_is}
use Rattle.wfe_check_map.proofs.lists.Lists.fits_scan.Goals as goal

pub returns-in-Some : goal.returns-in-Some
returns-in-Some c config p h =
    let seat = h.seats c.args.seat (rw (← h.setting) c.requires.range.seated) in
    let is : c.in-Some.own.now ≡ seat_in c.args.self.now.seats.items c.args.seat = grind (arith, common_steps) in
    rw (c.fits_own.ensures, is, h.all, h.setting) (fits_is config c.args.seat _ p c.args.event.now seat)
