-- That no call loses more rounds than was changed since its root was loaded, and that it loses few.
use Rattle.std.specs.Prelude.{ℕ, ◌≡◌, true, false}
use Rattle.inv_ends.specs.model.words.Place.{is_valid}
use Rattle.inv_ends.specs.model.words.declared.layout.Layout.{Layout}
use Rattle.inv_ends.specs.model.defs.declared.call.Call.{Call}
use Rattle.inv_ends.specs.model.World.{World, start, begin, step, is_busy}
use Rattle.inv_ends.specs.rows.Rows.{View}
use Rattle.inv_ends.specs.rows.Queue.{Line}
use Rattle.inv_ends.specs.rows.Chain.{Both, first_line, line_after}
use Rattle.inv_ends.specs.requests.Views.{View as Asking}
use Rattle.inv_ends.specs.requests.Views.Deal.{Quiet}
use Rattle.inv_ends.specs.shapes.Slots.{Slots}
use Rattle.inv_ends.specs.requests.NextDeals.{next_deals}
use Rattle.inv_ends.specs.requests.Standing.{Requests}
use Rattle.inv_ends.specs.Origins.{Origins, OriginsNeeds}
use Rattle.inv_all.specs.Contents.Items.{Items}
use Rattle.inv_all.specs.Contents.Bounded.{Bounded}
use Rattle.inv_ends.specs.Losses.{Losses, LossNeeds}
use Rattle.inv_all.specs.Tallies.{tally, phase_paced, good_link}

-- each seat's call, and each link that is tracked for it
pub record Rounds (w : World) (l : Line) (z : Asking) : Type 0 where
  pub paced : (k : ℕ) → phase_paced (tally w l) (w.seat k).rounds (w.seat k).phase
  pub links : Origins (good_link w l) w z

-- what a step needs of the other parts: the shape of seats, eras and requests; the rows, the queue and what it holds; that
-- buckets have few versions; that only tasks which lose few rounds have lost some; and that links are in range
pub record RoundsNeeds (w : World) (i : ℕ) (v : View) (l : Line) (z : Asking) : Type 0 where
  pub origins : OriginsNeeds w i z
  pub both : Both w v l
  pub items : Items w v l
  pub bounded : Bounded w
  pub losses : Losses w
  pub slots : Slots w

abbrev pub RoundsStart : Type 0
RoundsStart = (layout : Layout) (z : Asking) → is_valid layout ≡ true → ((k : ℕ) → z.deal k ≡ Quiet) → Rounds (start layout) (first_line layout) z

abbrev pub RoundsBegin : Type 0
RoundsBegin =
    (w : World) (i : ℕ) (call : Call) (l : Line) (z next : Asking) → is_busy w i ≡ false → Requests w z → next.deal ≡ z.deal
    → Rounds w l z → Rounds (begin w i call) l next

abbrev pub RoundsKept : Type 0
RoundsKept =
    (w : World) (i : ℕ) (v : View) (l : Line) (z next : Asking) → RoundsNeeds w i v l z → next.deal ≡ next_deals w i z.deal
    → Rounds w l z → Rounds (step w i) (line_after w i l) next

-- so a call loses no more rounds than its task may
abbrev pub RoundsGive : Type 0
RoundsGive = (w : World) (i : ℕ) (v : View) (l : Line) (z : Asking) → RoundsNeeds w i v l z → Rounds w l z → LossNeeds w i
