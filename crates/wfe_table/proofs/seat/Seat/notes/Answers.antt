-- A seat stands where its past leaves it, and by the record of that past its notes say so.
use Rattle.std.proofs.Common.{ap, subst, sym, ◌≡◌}
use Rattle.wfe_core.specs.Held.{notes_of}
use Rattle.wfe_drive_rule.specs.Views.{own}
use Rattle.wfe_drive_rule.specs.drive_cells.Unit.{SeatView}
use Rattle.wfe_table.specs.Public.{SeatNow}
use Rattle.wfe_table.proofs.Backs.{AllBack, AllWithin, RetiredWithin, noted_backs, noted_retired, noted_within}
use Rattle.wfe_table.proofs.seat.Seat.notes.Goals as goal

pub returns-clause-slots : goal.returns-clause-slots
returns-clause-slots c =
    let s = c.self.inside in
    let track = own s.handle.me.0 in
    let notes : notes_of s.desk.notes ≡ track.local.desk.notes = sym (ap (λ (v : SeatView). v.desk.notes) c.self.invariant.here) in
    subst (λ (seat : SeatNow). AllWithin seat.track s.desk.notes.back) c.self.view_is (noted_within s.post.layout track (notes_of s.desk.notes) c.self.invariant.seated.tracked notes)

pub returns-clause-back : goal.returns-clause-back
returns-clause-back c =
    let s = c.self.inside in
    let track = own s.handle.me.0 in
    let notes : notes_of s.desk.notes ≡ track.local.desk.notes = sym (ap (λ (v : SeatView). v.desk.notes) c.self.invariant.here) in
    subst (λ (seat : SeatNow). AllBack seat.track s.desk.notes.back) c.self.view_is (noted_backs s.post.layout track (notes_of s.desk.notes) c.self.invariant.seated.tracked notes)

pub returns-clause-retired : goal.returns-clause-retired
returns-clause-retired c =
    let s = c.self.inside in
    let track = own s.handle.me.0 in
    let notes : notes_of s.desk.notes ≡ track.local.desk.notes = sym (ap (λ (v : SeatView). v.desk.notes) c.self.invariant.here) in
    subst (λ (seat : SeatNow). RetiredWithin seat.track s.desk.notes.retired) c.self.view_is (noted_retired s.post.layout track (notes_of s.desk.notes) c.self.invariant.seated.tracked notes)
