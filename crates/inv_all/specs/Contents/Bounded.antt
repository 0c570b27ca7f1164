-- No bucket has more versions than the setting allows, nor had at any version more pairs.
use Rattle.std.specs.Prelude.{ℕ, ◌≤◌, length, take}
use Rattle.inv_ends.specs.model.words.declared.layout.Layout.{Layout}
use Rattle.inv_ends.specs.model.defs.Pairs.{pairs_after}
use Rattle.inv_ends.specs.model.defs.declared.call.Call.{Call}
use Rattle.inv_ends.specs.model.World.{World, start, begin, step}
use Rattle.inv_ends.specs.shapes.Slots.{Slots}
use Rattle.inv_ends.specs.rows.Rows.{View}
use Rattle.inv_ends.specs.rows.Queue.{Line}
use Rattle.inv_ends.specs.rows.Chain.{Both}
use Rattle.inv_all.specs.Contents.Contents.{Contents}
use Rattle.inv_all.specs.Contents.Items.{Items}

pub record Bounded (w : World) : Type 0 where
  pub versions : (b : ℕ) → length (w.book.changes b) ≤ w.layout.config.last_version
  pub pairs : (b version : ℕ) → length (pairs_after (take version (w.book.changes b))) ≤ w.layout.config.pairs

abbrev pub BoundedStart : Type 0
BoundedStart = (layout : Layout) → Bounded (start layout)

abbrev pub BoundedBegin : Type 0
BoundedBegin = (w : World) (i : ℕ) (call : Call) → Bounded w → Bounded (begin w i call)

-- a step needs that a change which exchanges its root has decided upon a version and pairs in range, and that they are the
-- bucket's next; and what the queue holds, so that nothing else tells of a bucket
abbrev pub BoundedKept : Type 0
BoundedKept = (w : World) (i : ℕ) (v : View) (l : Line) → Slots w → Contents w v → Both w v l → Items w v l → Bounded w → Bounded (step w i)
