-- How machines end, from what a history keeps.
use Rattle.std.proofs.Common.{rules, ◌<◌, sym, subst}
use Rattle.inv_ends.specs.model.words.declared.layout.Layout.{Layout}
use Rattle.inv_ends.specs.rows.Agree.{rows_after}
use Rattle.inv_ends.specs.history.History.{made_of, world_of}
use Rattle.inv_all.proofs.Inv.Kept.{known_kept, asked_next}
use Rattle.inv_all.proofs.Inv.Rows.{rows_need}
use Rattle.inv_ends.proofs.Ends.Copied.{copied_covered}
use Rattle.inv_ends.proofs.Ends.Held.{held_covered}
use Rattle.inv_ends.proofs.Told.Births.{retires_given}
use Rattle.inv_ends.proofs.Told.Rows.{rows_were}
use Rattle.inv_ends.specs.Walks.{SeenTaken}
use Rattle.inv_ends.proofs.Walks.Kept.{full_seen}
use Rattle.inv_ends.proofs.Walks.Movers.{met_open, met_answered}
use Rattle.inv_all.specs.Outcomes.{MachinesEnd}
use Rattle.inv_all.specs.Sights.{sights_of}
use Rattle.inv_all.proofs.Outcomes.Goes.{meeting_need, given_need, history_goes}

pub seen_taken : SeenTaken
seen_taken w i s v seen a b f t = search rules

pub machines_end : MachinesEnd
machines_end layout items i d b =
    let g = history_goes layout items d in
    let made = made_of layout items in
    let w = world_of layout items in
    let s = sights_of layout items in
    let k = g.known in
    let c : i < w.layout.config.seats = subst (λ (table : Layout). i < table.config.seats) (sym g.table) b in
    let n = meeting_need made i g.rows g.line g.asked c k in
    let q = asked_next w i g.rows g.line g.asked c k in
    let after = known_kept w i g.rows g.line g.asked q.0 c k q.1.facts q.1.deal in
    record {
      inv = record { rows = g.rows; line = g.line; asked = g.asked; known = k };
      agree = k.whole.both.rows;
      outcomes = record {
        seen = λ slot few was now. seen_taken w i slot g.rows s.rows k.whole.both.rows few was now;
        full = λ why birth walk slot e full few. full_seen w i why birth walk s.rows slot k.seats g.walking e full few;
        met = λ m tag index was now. met_open w i m tag index g.asked s.requests n was now;
        answered = λ why era m tag index e few was. met_answered w i m tag index era why g.asked s.requests k.requests g.meeting e few was;
        held = λ j slot told. held_covered w i j slot (rows_after w i g.rows) k.seats after.held told;
        copied = λ f j slot told. copied_covered w i f j slot (rows_after w i g.rows) k.valid k.seats k.slots after.held told;
        rows = rows_were w i g.rows (rows_need w i g.rows g.line k.seats k.eras k.whole.both) k.eras k.whole.both.rows;
        births = λ slot birth retire lists. retires_given w i slot birth retire g.rows s.births (given_need made i g.rows g.line g.asked k) k.eras g.births lists;
      };
    }
