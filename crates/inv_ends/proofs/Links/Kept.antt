-- All links that are tracked may be taken: from the start on, and over every step and every call that begins.
use Rattle.inv_ends.specs.Links.{links_to, LinksKept, LinksBegin, LinksStart}
use Rattle.inv_rows.specs.model.World.{start, step}
use Rattle.inv_rows.specs.Agree.{rows_after, first_rows}
use Rattle.inv_rows.specs.Chain.{line_after, first_line}
use Rattle.inv_ends.proofs.Origins.Kept.{origins_kept, origins_begin, origins_start}
use Rattle.inv_ends.proofs.Links.Fits.{links_stay}

pub links_kept : LinksKept
links_kept w i v l z next n d h = origins_kept (λ k. links_to w.book w.mem v l) (λ k. links_to (step w i).book (step w i).mem (rows_after w i v) (line_after w i l)) w i z next n.origins d (links_stay w i v l z n) h

pub links_begin : LinksBegin
links_begin w i call v l z next b f d h = origins_begin (λ k. links_to w.book w.mem v l) w i call z next b f d h

pub links_start : LinksStart
links_start layout z d = origins_start (λ k. links_to (start layout).book (start layout).mem (first_rows layout) (first_line layout)) layout z d
