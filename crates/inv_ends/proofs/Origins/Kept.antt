-- What is good when it is loaded stays good while it is tracked: at the start, and over every step and every call.
use Rattle.std.proofs.Common.{ℕ, ◌≡◌, Bool, true, false, arith, refl, sym, ap, subst}
use Rattle.std.proofs.lemmas.Bool.Decides.{nat_tests}
use Rattle.std.specs.Prelude.{◌==◌}
use Rattle.inv_rows.specs.words.Place.Place.{Clock}
use Rattle.inv_rows.specs.words.declared.layout.Layout.{Layout}
use Rattle.inv_rows.specs.defs.declared.call.Call.{Call}
use Rattle.inv_rows.specs.defs.declared.event.Root.{Root}
use Rattle.inv_rows.specs.model.Calls.{Idle}
use Rattle.inv_rows.specs.model.Locals.{Local, begun_post}
use Rattle.inv_rows.specs.model.Posts.{upper}
use Rattle.inv_rows.specs.model.World.{World, start, begin, step, is_busy}
use Rattle.inv_rows.specs.Covering.Tries.{is_start}
use Rattle.inv_rows.proofs.Shapes.Frame.{begin_stays, begin_begins}
use Rattle.inv_rows.proofs.Covering.Requests.Kept.{idle_of}
use Rattle.inv_rows.specs.Covering.Requests.Deals.{is_quiet}
use Rattle.inv_rows.specs.Covering.Requests.Standing.{Requests}
use Rattle.inv_rows.specs.Covering.Requests.Views.{View, Deal}
use Rattle.inv_rows.specs.Covering.Requests.Views.Deal.{Quiet}
use Rattle.inv_ends.specs.Tracked.{carries_in, has_link, helps_in, root_for, root_in, Tracked, Carried, Given, Helped}
use Rattle.inv_ends.specs.Origins.{Came, Before, Now, Origins, Stays, OriginsKept, OriginsBegin, OriginsStart}
use Rattle.inv_ends.proofs.Origins.Came.{link_busy, helps_busy, tracked_came}
use Rattle.inv_ends.proofs.Origins.Movers.{no_way}
use Rattle.inv_ends.proofs.Origins.Opened.{fit_of}
use Rattle.inv_ends.proofs.Origins.Plain.{start_carries, start_helps}
use Rattle.inv_rows.proofs.Covering.Begun.{first_begins}

came_good : (good after : ℕ → Root → ℕ → Bool) (w : World) (i : ℕ) (z : View) (k x : ℕ) → Stays good after w i z → Origins good w z → Came w i z k x → after k (root_in (step w i) k) x ≡ true
came_good good after w i z k x s o (Before e t) = rw e (s.stays k x t (o.tracked k x t))
came_good good after w i z k x s o (Now e l t f) = rw e (subst (λ (y : ℕ). after k (root_in w k) y ≡ true) f (s.fresh k l t))

pub origins_kept : OriginsKept
origins_kept good after w i z next n d s o = record { tracked = λ k x t. came_good good after w i z k x s o (tracked_came w i z next k x n d t) }

-- at the start
start_good : (good : ℕ → Root → ℕ → Bool) (layout : Layout) (z : View) (k x : ℕ) → ((m : ℕ) → z.deal m ≡ Quiet) → Tracked (start layout) z k x → good k (root_in (start layout) k) x ≡ true
start_good good layout z k x d (Carried h) = absurd (cc)
start_good good layout z k x d (Given h) = no_way (has_link (z.deal k) x) (ap (λ (y : Deal). has_link y x) (d k)) h
start_good good layout z k x d (Helped m h) = absurd (cc)

pub origins_start : OriginsStart
origins_start good layout z d = record { tracked = λ k x t. start_good good layout z k x d t }

-- a call begins on a seat that is not busy: it carries nothing, and has no request
pub idle_deal : (w : World) (i : ℕ) (z : View) → is_busy w i ≡ false → Requests w z → is_quiet (z.deal i) ≡ true
idle_deal w i z b f = fit_of w z i Idle f (idle_of (w.seat i).phase b)

-- where what is tracked afterwards was tracked, for the same root
abbrev Kept : World → ℕ → Call → View → ℕ → ℕ → Type 0
Kept w i call z k x = (root_in (begin w i call) k ≡ root_in w k) × Tracked w z k x

begun_root : (w : World) (i k : ℕ) (call : Call) → (k == i) ≡ false → root_in (begin w i call) k ≡ root_in w k
begun_root w i k call o = ap (λ (l : Local). root_for l.phase) (begin_stays w i k call o)

begun_starts : (w : World) (i k : ℕ) (call : Call) → (k == i) ≡ true → is_start ((begin w i call).seat k).phase ≡ true
begun_starts w i k call o =
    let e : k ≡ i = grind (arith, nat_tests) in
    subst (λ (m : ℕ). is_start ((begin w i call).seat m).phase ≡ true) (sym e) (subst (λ (l : Local). is_start l.phase ≡ true) (sym (begin_begins w i call)) (first_begins call (begun_post (w.seat i).post)).starts)

begun_carried : (w : World) (i k : ℕ) (call : Call) (z : View) (x : ℕ) (own : Bool) → (k == i) ≡ own → carries_in (w.mem Clock) (upper ((begin w i call).seat k).post.span) ((begin w i call).seat k).phase x ≡ true → Kept w i call z k x
begun_carried w i k call z x true o h =
    no_way (carries_in (w.mem Clock) (upper ((begin w i call).seat k).post.span) ((begin w i call).seat k).phase x) (start_carries (w.mem Clock) (upper ((begin w i call).seat k).post.span) ((begin w i call).seat k).phase x (begun_starts w i k call o)) h
begun_carried w i k call z x false o h = (begun_root w i k call o, Carried (subst (λ (l : Local). carries_in (w.mem Clock) (upper l.post.span) l.phase x ≡ true) (begin_stays w i k call o) h))

-- no request is the seat's own
begun_other : (w : World) (i k : ℕ) (z : View) (own : Bool) → (k == i) ≡ own → is_busy w i ≡ false → Requests w z → is_quiet (z.deal k) ≡ false → own ≡ false
begun_other w i k z false o b f q = refl
begun_other w i k z true o b f q =
    let e : k ≡ i = grind (arith, nat_tests) in
    let a = idle_deal w i z b f in
    let c : is_quiet (z.deal i) ≡ false = subst (λ (m : ℕ). is_quiet (z.deal m) ≡ false) e q in cc

begun_helped : (w : World) (i k m : ℕ) (call : Call) (z : View) (x : ℕ) (own : Bool) → (m == i) ≡ own → (k == i) ≡ false → helps_in w.layout (w.mem Clock) k ((begin w i call).seat m).phase (z.deal k) x ≡ true → Kept w i call z k x
begun_helped w i k m call z x true o p h =
    no_way (helps_in w.layout (w.mem Clock) k ((begin w i call).seat m).phase (z.deal k) x) (start_helps w.layout (w.mem Clock) k ((begin w i call).seat m).phase (z.deal k) x (begun_starts w i m call o)) h
begun_helped w i k m call z x false o p h = (begun_root w i k call p, Helped m (subst (λ (l : Local). helps_in w.layout (w.mem Clock) k l.phase (z.deal k) x ≡ true) (begin_stays w i m call o) h))

begun_by : (w : World) (i : ℕ) (call : Call) (z next : View) (k x : ℕ) → is_busy w i ≡ false → Requests w z → next.deal ≡ z.deal → Tracked (begin w i call) next k x → Kept w i call z k x
begun_by w i call z next k x b f d (Carried h) = begun_carried w i k call z x (k == i) refl h
begun_by w i call z next k x b f d (Given h) =
    let g : has_link (z.deal k) x ≡ true = subst (λ (y : ℕ → Deal). has_link (y k) x ≡ true) d h in
    (begun_root w i k call (begun_other w i k z (k == i) refl b f (link_busy (z.deal k) x g)), Given g)
begun_by w i call z next k x b f d (Helped m h) =
    let g : helps_in w.layout (w.mem Clock) k ((begin w i call).seat m).phase (z.deal k) x ≡ true = subst (λ (y : ℕ → Deal). helps_in w.layout (w.mem Clock) k ((begin w i call).seat m).phase (y k) x ≡ true) d h in
    begun_helped w i k m call z x (m == i) refl (begun_other w i k z (k == i) refl b f (helps_busy w.layout (w.mem Clock) k ((begin w i call).seat m).phase (z.deal k) x g)) g

begun_good : (good : ℕ → Root → ℕ → Bool) (w : World) (i : ℕ) (call : Call) (z : View) (k x : ℕ) → Origins good w z → Kept w i call z k x → good k (root_in (begin w i call) k) x ≡ true
begun_good good w i call z k x o t = rw (t.0) (o.tracked k x (t.1))

pub origins_begin : OriginsBegin
origins_begin good w i call z next b f d o = record { tracked = λ k x t. begun_good good w i call z k x o (begun_by w i call z next k x b f d t) }
