-- What others tell costs a protection no more than it counts: three steps for each move of the clock, or two for each change of the root.
use Rattle.std.proofs.Common.{ℕ, ◌≡◌, ◌≤◌, ◌+◌, ◌*◌, Bool, true, false, List, [], ◌∷◌, Option, Some, refl, arith}
use Rattle.std.specs.Prelude.{◌==◌, if◌then◌else◌}
use Rattle.law_held.specs.inv.history.Record.{Past, begins, tells_of, told_since}
use Rattle.law_held.specs.inv.history.Record.Past.{Then}
use Rattle.law_held.specs.inv.model.defs.declared.call.Call.{Call}
use Rattle.law_held.specs.inv.model.defs.declared.event.Event.{Event}
use Rattle.law_held.specs.inv.model.defs.declared.event.Event.TheVariants as events
use Rattle.law_held.specs.inv.model.defs.declared.event.Root.TheVariants as roots
use Rattle.law_held.specs.inv.model.defs.declared.lifetime.Interval.{Interval}
use Rattle.law_held.specs.inv.model.Phases.{ProtectAt, Base}
use Rattle.law_held.specs.inv.model.Phases.BeginAt.{LoadLower, PublishSpan}
use Rattle.law_held.specs.inv.model.Phases.HazardAt.{FirstLink, PublishLink, CheckLink}
use Rattle.law_held.specs.inv.model.Phases.ProtectAt.{PublishEra, LoadLink, CheckClock, LoadWithin, CheckUpper, RaiseUpper, ByHazard}
use Rattle.law_held.specs.inv.model.Phases.Base.{Begin, Protect}
use Rattle.law_held.specs.inv.model.Posts.{upper}
use Rattle.law_held.specs.laws.StateAt.{bucket_at, bucket_by, clock_of, ticked_by}
use Rattle.law_held.proofs.inv.history.AllOf.{all_of}
use Rattle.law_held.proofs.inv.Machines.{is_within, within_begins}
use Rattle.law_held.proofs.inv.model.Facts.{first_of, rest_of}
use Rattle.law_scans.proofs.Ordering.Ordered.{word_of}
use Rattle.law_bounds.specs.Gets.{is_move, links_root, moves_since, roots_since}
use Rattle.law_bounds.proofs.Gets.Ahead.{Costs, base_ahead, costs_of, late, protect_ahead}

-- what a try that has to fail costs by what the record says of the clock and of the root of bucket b
abbrev pub costs_at : (rows : Bool) → (b : ℕ) → Past → Costs
costs_at rows b p = costs_of rows (clock_of p) (word_of (bucket_at b p))

-- what was told since the call began costs so much
abbrev pub since_at : (rows : Bool) → ℕ → (b : ℕ) → Past → ℕ
since_at true i b p = 2 * roots_since i b p
since_at false i b p = 3 * moves_since i p

-- what is told leaves a try no dearer than it counts
pub record Dearer (x y : Costs) (before after : ℕ) : Type 0 where
  pub most : before ≤ after
  pub era : (seen : ℕ) → y.era seen + before ≤ x.era seen + after
  pub link : (seen : ℕ) → y.link seen + before ≤ x.link seen + after

pub not_dearer : (x : Costs) (n : ℕ) → Dearer x x n n
not_dearer x n = record { most = omega arith; era = λ seen. omega arith; link = λ seen. omega arith }

then_dearer : (x y z : Costs) (a b c : ℕ) → Dearer x y a b → Dearer y z b c → Dearer x z a c
then_dearer x y z a b c f g = record {
  most = let p = f.most in let q = g.most in omega (arith, p, q);
  era = λ seen. let p = f.era seen in let q = g.era seen in omega (arith, p, q);
  link = λ seen. let p = f.link seen in let q = g.link seen in omega (arith, p, q);
}

late_most : (more seen now : ℕ) → late more seen now ≤ more
late_most more seen now = by (seen == now)
  where
    by : (same : Bool) → (if same then 0 else more) ≤ more
    by true = omega arith
    by false = omega arith

-- one entry
since_event : (k i : ℕ) (kind : Event → Bool) (p : Past) (event : Event) → begins k p i event ≡ false → told_since (begins k) (λ q j e. kind e) (Then p i event) ≡ (if kind event then told_since (begins k) (λ q j e. kind e) p + 1 else told_since (begins k) (λ q j e. kind e) p)
since_event k i kind p event e = rw e refl

move_kind : (event : Event) (clock since : ℕ) (seen : ℕ) → late 3 seen (ticked_by event clock) + 3 * since ≤ late 3 seen clock + 3 * (if is_move event then since + 1 else since)
move_kind (events.Era era) clock since seen = let a = late_most 3 seen (clock + 1) in omega (arith, a)
move_kind event clock since seen = omega arith

moves_more : (event : Event) (since : ℕ) → since ≤ (if is_move event then since + 1 else since)
moves_more event since = by (is_move event)
  where
    by : (b : Bool) → since ≤ (if b then since + 1 else since)
    by true = omega arith
    by false = omega arith

roots_more : (b : ℕ) (event : Event) (since : ℕ) → since ≤ (if links_root b event then since + 1 else since)
roots_more b event since = by (links_root b event)
  where
    by : (x : Bool) → since ≤ (if x then since + 1 else since)
    by true = omega arith
    by false = omega arith

root_kind : (b : ℕ) (event : Event) (x : Option ℕ) (since seen : ℕ) → late 2 seen (word_of (bucket_by b event x)) + 2 * since ≤ late 2 seen (word_of x) + 2 * (if links_root b event then since + 1 else since)
root_kind b (events.Link (roots.Bucket bucket) slot) x since seen = by (b == bucket)
  where
    by : (same : Bool) → late 2 seen (word_of (if same then Some slot else x)) + 2 * since ≤ late 2 seen (word_of x) + 2 * (if same then since + 1 else since)
    by true = let a = late_most 2 seen (slot + 1) in omega (arith, a)
    by false = omega arith
root_kind b event x since seen = omega arith

event_dearer : (rows : Bool) (k b i : ℕ) (p : Past) (event : Event) → begins k p i event ≡ false → Dearer (costs_at rows b p) (costs_at rows b (Then p i event)) (since_at rows k b p) (since_at rows k b (Then p i event))
event_dearer true k b i p event e =
    let s = since_event k i (links_root b) p event e in
    record {
      most = let a = roots_more b event (roots_since k b p) in omega (arith, a, s);
      era = λ seen. let a = roots_more b event (roots_since k b p) in omega (arith, a, s);
      link = λ seen. let a = root_kind b event (bucket_at b p) (roots_since k b p) seen in omega (arith, a, s);
    }
event_dearer false k b i p event e =
    let s = since_event k i is_move p event e in
    record {
      most = let a = moves_more event (moves_since k p) in omega (arith, a, s);
      era = λ seen. let a = move_kind event (clock_of p) (moves_since k p) seen in omega (arith, a, s);
      link = λ seen. let a = moves_more event (moves_since k p) in omega (arith, a, s);
    }

-- the entries of a step
pub step_dearer : (rows : Bool) (k b i : ℕ) (told : List Event) (p : Past) → all_of is_within told ≡ true → Dearer (costs_at rows b p) (costs_at rows b (tells_of p i told)) (since_at rows k b p) (since_at rows k b (tells_of p i told))
step_dearer rows k b i [] p w = not_dearer (costs_at rows b p) (since_at rows k b p)
step_dearer rows k b i (event ∷ told) p w =
    then_dearer (costs_at rows b p) (costs_at rows b (Then p i event)) (costs_at rows b (tells_of (Then p i event) i told)) (since_at rows k b p) (since_at rows k b (Then p i event)) (since_at rows k b (tells_of (Then p i event) i told))
    (event_dearer rows k b i p event (within_begins k i p event (first_of (is_within event) (all_of is_within told) w)))
    (step_dearer rows k b i told (Then p i event) (rest_of (is_within event) (all_of is_within told) w))

-- another seat begins a call
pub begin_dearer : (rows : Bool) (k b i : ℕ) (call : Call) (p : Past) → (k == i) ≡ false → Dearer (costs_at rows b p) (costs_at rows b (Then p i (events.Begin call))) (since_at rows k b p) (since_at rows k b (Then p i (events.Begin call)))
begin_dearer rows k b i call p e = event_dearer rows k b i p (events.Begin call) e

-- so a phase is no dearer than it counts
protect_dearer : (x y : Costs) (before after : ℕ) (span : Option Interval) (at : ProtectAt) → Dearer x y before after → protect_ahead y span at + before ≤ protect_ahead x span at + after
protect_dearer x y before after span (PublishEra era tries) d = let a = d.era era in omega (arith, a)
protect_dearer x y before after span (LoadLink era tries) d = let a = d.era era in omega (arith, a)
protect_dearer x y before after span (CheckClock era tries link) d = let a = d.era era in omega (arith, a)
protect_dearer x y before after span LoadWithin d = let a = d.era (upper span) in omega (arith, a)
protect_dearer x y before after span (CheckUpper link) d = let a = d.era (upper span) in omega (arith, a)
protect_dearer x y before after span (RaiseUpper era) d = let a = d.era era in omega (arith, a)
protect_dearer x y before after span (ByHazard FirstLink) d = let a = d.most in omega (arith, a)
protect_dearer x y before after span (ByHazard (PublishLink link)) d = let a = d.link link in omega (arith, a)
protect_dearer x y before after span (ByHazard (CheckLink link)) d = let a = d.link link in omega (arith, a)
protect_dearer x y before after span at d = let a = d.most in omega (arith, a)

pub base_dearer : (x y : Costs) (before after : ℕ) (span : Option Interval) (base : Base) → Dearer x y before after → base_ahead y span base + before ≤ base_ahead x span base + after
base_dearer x y before after span (Begin LoadLower) d = let a = d.most in omega (arith, a)
base_dearer x y before after span (Begin (PublishSpan era)) d = let a = d.era era in omega (arith, a)
base_dearer x y before after span (Protect aim index root made at) d = protect_dearer x y before after span at d
base_dearer x y before after span base d = let a = d.most in omega (arith, a)
