-- What the parts give to others, phase by phase.
use Rattle.std.proofs.Common.{ℕ, ◌≡◌, ◌≤◌, true, subst, arith}
use Rattle.std.proofs.lemmas.Bool.Decides.{nat_tests}
use Rattle.std.specs.Prelude.{◌&&◌, nat_le}
use Rattle.wfe_core.specs.words.Place.{is_valid}
use Rattle.wfe_core.specs.words.Place.Place.{Clock}
use Rattle.wfe_core.specs.Links.{link_place}
use Rattle.wfe_core.specs.Phases.{Walk}
use Rattle.wfe_core.proofs.Ranges.{bounds_of}
use Rattle.wfe_core.specs.World.{World}
use Rattle.inv_rows.specs.Shapes.Seats.{PhaseFits, Seats}
use Rattle.inv_rows.specs.Shapes.Eras.{PhaseEras, Eras}
use Rattle.inv_rows.specs.Shapes.Slots.{PhaseIn, Slots}
use Rattle.inv_rows.specs.Shapes.Gives.{GivesGuards, GivesClears, GivesWalks, GivesBirths, GivesLinks}
use Rattle.inv_rows.proofs.Shapes.There.{index_below}
use Rattle.inv_rows.proofs.Shapes.Written.{root_there}
use Rattle.inv_rows.proofs.Shapes.SlotSteps.{link_found}

pub gives_guards : (w : World) → is_valid w.layout ≡ true → Seats w → Slots w → GivesGuards w
gives_guards w v s h k why aim index root steps at e =
    let r = subst (PhaseFits w.layout (w.seat k).post) e (s.fits k).phase in
    let p = subst (PhaseIn w.layout (w.seat k).desk) e (h.seats k).phase in
    let b = bounds_of w.layout v in
    record { below = index_below w.layout why index v p.0 r.shape.at; there = root_there w.layout why root b.buckets.0 r.shape.of p.1.root_in }

pub gives_clears : (w : World) → is_valid w.layout ≡ true → Seats w → Slots w → GivesClears w
gives_clears w v s h k why rows index e = let r = subst (PhaseFits w.layout (w.seat k).post) e (s.fits k).phase in
    let p = subst (PhaseIn w.layout (w.seat k).desk) e (h.seats k).phase in index_below w.layout why index v p.0 r.shape

walk_slot : (walk : Walk) (slots : ℕ) → (nat_le walk.start slots && nat_le walk.slot slots && nat_le walk.left slots) ≡ true → walk.slot ≤ slots
walk_slot walk slots h = grind (arith, nat_tests)

pub gives_walks : (w : World) → Seats w → GivesWalks w
gives_walks w s k why birth walk e = let r = subst (PhaseFits w.layout (w.seat k).post) e (s.fits k).phase in walk_slot walk w.layout.config.slots r.fits

pub gives_births : (w : World) → Eras w → GivesBirths w
gives_births w a k why birth slot e = let r = subst (PhaseEras w.layout (w.mem Clock) (w.seat k).post) e (a.seats k).phase in (r.some, r.most)

pub gives_links : (w : World) → Slots w → GivesLinks w
gives_links w h root = link_found w.layout.config.slots (w.mem (link_place root)) root (h.words (link_place root))
