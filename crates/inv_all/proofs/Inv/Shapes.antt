-- What the shape of seats and their eras give of the machine that a seat runs.
use Rattle.std.proofs.Common.{ℕ, ◌≡◌, ◌≤◌, ◌<◌, true, sym, subst, ap, ◌∙◌, arith}
use Rattle.inv_ends.specs.model.words.Place.{is_valid}
use Rattle.inv_ends.specs.model.words.Place.Place.{Clock}
use Rattle.inv_ends.specs.model.words.declared.layout.Layout.{Layout}
use Rattle.inv_ends.specs.model.defs.declared.event.Root.{Root}
use Rattle.inv_ends.specs.model.defs.declared.event.Root.TheVariants as roots
use Rattle.inv_ends.specs.model.declared.post.Post.{Post}
use Rattle.inv_ends.specs.model.Links.{parent_of}
use Rattle.inv_ends.specs.model.Posts.{upper}
use Rattle.inv_ends.specs.model.Phases.{Aim, Follows, ProtectAt, Base}
use Rattle.inv_ends.specs.model.Phases.ProtectAt.{CheckClock, CheckOwnClock, CheckUpper, RaiseUpper}
use Rattle.inv_ends.specs.model.Phases.Base.{Begin, Protect, Reload, Clear}
use Rattle.inv_ends.specs.model.Calls.{KeepAt, Keeping, Why, FollowsHead, Phase, Idle, Runs, Scans, Works}
use Rattle.inv_ends.proofs.model.Ranges.{bounds_of}
use Rattle.inv_ends.specs.model.World.{World}
use Rattle.inv_ends.specs.shapes.Eras.{SpanIn, protect_eras, base_eras, PhaseEras, Eras}
use Rattle.inv_ends.specs.shapes.Frame.{KeepFits}
use Rattle.inv_ends.specs.shapes.Seats.{aim_by, root_by, PhaseFits, Run, Seats}
use Rattle.inv_ends.specs.shapes.Slots.{KeepIn, PhaseIn, Slots, WhyIn}
use Rattle.inv_ends.proofs.shapes.There.{index_below}
use Rattle.inv_ends.specs.rows.Tries as tries
use Rattle.inv_ends.specs.covers.Held.{index_base, Followed, SpanGrows, era_protect, era_base}
use Rattle.inv_ends.proofs.shapes.Steps.{upper_in}

pub eras_of : (w : World) (k : ℕ) (why : Why) (base : Base) → Eras w → (w.seat k).phase ≡ Runs why base → base_eras w.layout (w.mem Clock) (w.seat k).post base
eras_of w k why base a e = subst (PhaseEras w.layout (w.mem Clock) (w.seat k).post) e (a.seats k).phase

pub why_in : (w : World) (k : ℕ) (why : Why) (base : Base) → Slots w → (w.seat k).phase ≡ Runs why base → WhyIn w.layout.config why
why_in w k why base t e = let x : PhaseIn w.layout (w.seat k).desk (Runs why base) = subst (PhaseIn w.layout (w.seat k).desk) e (t.seats k).phase in x.0

-- what a seat's step on what is kept names
pub keep_in : (w : World) (k : ℕ) (at : KeepAt) → Slots w → (w.seat k).phase ≡ Works (Keeping at) → KeepIn w.layout.config at
keep_in w k at t e = subst (PhaseIn w.layout (w.seat k).desk) e (t.seats k).phase

pub keep_fits : (w : World) (k : ℕ) (at : KeepAt) → Seats w → (w.seat k).phase ≡ Works (Keeping at) → KeepFits (w.seat k).post at
keep_fits w k at s e = subst (PhaseFits w.layout (w.seat k).post) e (s.fits k).phase

-- the index of a machine is one of a seat's
some_index : (layout : Layout) → is_valid layout ≡ true → 0 < layout.config.indexes
some_index layout v = let b = (bounds_of layout v).indexes in omega (arith, b.0)

pub index_in : (layout : Layout) (why : Why) (base : Base) (post : Post) → is_valid layout ≡ true → WhyIn layout.config why → Run layout why base post → index_base base < layout.config.indexes
index_in layout why (Protect aim index root steps at) post v y r = index_below layout why index v y r.shape.at
index_in layout why (Reload parent index slot era steps) post v y r = index_below layout why index v y r.shape.at
index_in layout why (Clear rows index) post v y r = index_below layout why index v y r.shape
index_in layout why base post v y r = some_index layout v

-- a protection that is followed is of a next link
next_by : (buckets : ℕ) (why : Why) (root : Root) → Follows ≡ aim_by why → root ≡ root_by buckets why → root ≡ roots.Next (parent_of root)
next_by buckets (FollowsHead head tail) root a e = e ∙ sym (ap (λ (r : Root). roots.Next (parent_of r)) e)
next_by buckets why root a e = absurd (cc)

pub followed_of : (layout : Layout) (why : Why) (base : Base) (post : Post) → Run layout why base post → Followed base
followed_of layout why (Protect Follows index root steps at) post r = next_by layout.config.buckets why root r.shape.aimed r.shape.of
followed_of layout why base post r = tt

-- an interval begins where none stands, and rises
protect_grows : (clock : ℕ) (aim : Aim) (index : ℕ) (root : Root) (steps : ℕ) (at : ProtectAt) (post : Post) → protect_eras clock post at → SpanGrows (Protect aim index root steps at) post
protect_grows clock aim index root steps (RaiseUpper era) post e = e.rises
protect_grows clock aim index root steps at post e = tt

pub grows_of : (layout : Layout) (clock : ℕ) (why : Why) (base : Base) (post : Post) → Run layout why base post → base_eras layout clock post base → SpanGrows base post
grows_of layout clock why (Begin at) post r e = r.posted
grows_of layout clock why (Protect aim index root steps at) post r e = protect_grows clock aim index root steps at post e
grows_of layout clock why base post r e = tt

-- the era that a try compares with the clock is at most the clock
zero_most : (clock : ℕ) → 0 ≤ clock
zero_most clock = omega arith

protect_most : (clock : ℕ) (post : Post) (at : ProtectAt) → SpanIn clock post.span → protect_eras clock post at → era_protect post at ≤ clock
protect_most clock post (CheckClock era tries link) s e = e.most
protect_most clock post at s e = upper_in clock post.span s

pub era_most : (layout : Layout) (clock : ℕ) (post : Post) (base : Base) → SpanIn clock post.span → base_eras layout clock post base → era_base post base ≤ clock
era_most layout clock post (Protect aim index root steps at) s e = protect_most clock post at s e
era_most layout clock post base s e = zero_most clock

-- and so is that of a protection of the queue's ends
tried_most : (clock : ℕ) (post : Post) (at : ProtectAt) → SpanIn clock post.span → protect_eras clock post at → tries.at_era (upper post.span) at ≤ clock
tried_most clock post (CheckClock era tries link) s e = e.most
tried_most clock post (CheckOwnClock first era last link) s e = e.most
tried_most clock post (CheckUpper link) s e = upper_in clock post.span s
tried_most clock post at s e = zero_most clock

run_tried : (layout : Layout) (clock : ℕ) (post : Post) (base : Base) → SpanIn clock post.span → base_eras layout clock post base → tries.base_era (upper post.span) base ≤ clock
run_tried layout clock post (Protect aim index root steps at) s e = tried_most clock post at s e
run_tried layout clock post base s e = zero_most clock

pub phase_tried : (layout : Layout) (clock : ℕ) (post : Post) (phase : Phase) → SpanIn clock post.span → PhaseEras layout clock post phase → tries.EraIn phase clock (upper post.span)
phase_tried layout clock post Idle s e = tt
phase_tried layout clock post (Runs why base) s e = run_tried layout clock post base s e
phase_tried layout clock post (Scans later at) s e = tt
phase_tried layout clock post (Works work) s e = tt
