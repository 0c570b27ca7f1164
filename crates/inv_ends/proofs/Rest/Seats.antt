-- Each step of a seat leaves fewer steps, by what its machine is run for.
use Rattle.inv_rows.specs.model.declared.ends.ProtectEnd.TheVariants as protect_ends
use Rattle.std.proofs.Common.{ℕ, ◌∙◌, ◌≡◌, ◌≤◌, ◌+◌, ◌-◌, Bool, true, false, [], arith, refl, sym, ap, subst}
use Rattle.std.proofs.lemmas.Bool.Decides.{nat_tests}
use Rattle.inv_rows.specs.Shapes.Frame.{phase_left as stands_at}
use Rattle.inv_rows.specs.words.Place.{is_valid}
use Rattle.inv_rows.specs.words.Place.Place.{Clock}
use Rattle.inv_rows.specs.model.Phases.Base.{Move, Begin, Protect, Allocate, Clear, Finish, GiveUp, Release, Reload, Retire, Write}
use Rattle.inv_rows.specs.model.Calls.{Task, Why}
use Rattle.inv_rows.specs.model.Calls.Phase.{Runs}
use Rattle.inv_rows.specs.model.Calls.Task.{Changes, Dequeues, Enqueues, Gets, Holds}
use Rattle.inv_rows.specs.model.Calls.Why.{Opens, Fills, FollowsHead}
use Rattle.inv_rows.specs.model.Guards.{from_to}
use Rattle.inv_rows.specs.model.Machine.{after, protect_turn}
use Rattle.inv_rows.specs.model.Memory.{bump}
use Rattle.inv_rows.specs.model.Phases.{Base, ProtectAt, Turn, Aim, AllocateAt, RowOf, ends, goes, ByHazard, CheckLink}
use Rattle.inv_rows.specs.model.Phases.Aim.{Alone, Follows}
use Rattle.inv_rows.specs.model.Phases.BeginAt.{LoadLower, PublishSpan}
use Rattle.inv_rows.specs.model.Posts.{counted, with_span}
use Rattle.inv_rows.specs.model.Rest.{base_seen, eras_left, is_told, lost_by, rounds_most, span_seen, why_left, task_left, round_worth}
use Rattle.inv_rows.specs.model.Rounds.{scheme_of, index_of}
use Rattle.inv_rows.specs.model.Steps.{run_turn}
use Rattle.inv_rows.specs.model.World.{World, finds, offered, step}
use Rattle.inv_rows.specs.model.declared.post.Post.{Post}
use Rattle.inv_rows.specs.defs.declared.event.Root.{Root}
use Rattle.inv_rows.specs.Shapes.Seats.{task_root}
use Rattle.inv_ends.proofs.Rest.Amounts.{PhaseKnown, task_drops}
use Rattle.inv_ends.proofs.Rest.Closings.{opening_left}
use Rattle.inv_ends.proofs.Rest.Falling.{Seat, seat_after, seat_protects, span_within, fit_rows, plain_agrees}
use Rattle.inv_ends.proofs.Rest.Machines.{Settles, none_seen, protect_settles, start_of, agrees_ends, at_agrees, seen_rises}
use Rattle.inv_ends.proofs.Rest.Runs.{ends_well, none_lost, opens_hold, opens_own, turn_total, After, allocates_on, follows_on, walks_on, writes_on, opens_null}
use Rattle.inv_ends.proofs.Rest.Seen.{protect_same}
use Rattle.inv_ends.proofs.Rest.Told.{protect_steady, protect_tells, base_steady, lost_after, by_rows, Tells, null_tells}
use Rattle.inv_ends.specs.Losses.{tells_fit, rounds_in, InRound, hold_fit}
use Rattle.inv_rows.specs.words.declared.config.Config.{Config}
use Rattle.std.specs.Prelude.{length, ◌==◌, nat_le, if◌then◌else◌, ◌&&◌}
use Rattle.inv_rows.specs.model.Phases.Ending.{Done, Protected}
use Rattle.inv_rows.specs.model.WriteRow.{first_written, last_written}
use Rattle.inv_ends.proofs.Rest.Moves.{base_owes, base_settles}
use Rattle.inv_rows.specs.words.declared.layout.Layout.{Layout}
use Rattle.inv_rows.proofs.Covering.Requests.Standings.{is_root}
use Rattle.inv_rows.proofs.Covering.Held.{finds_at}
use Rattle.inv_rows.specs.words.Schemes.{publishes_rows}
use Rattle.inv_rows.specs.model.Locals.{counts_at, rounds_told}
use Rattle.inv_rows.specs.model.Phases.HazardAt.{FirstLink, PublishLink}
use Rattle.inv_rows.specs.model.Hazards.{after_check_link}
use Rattle.inv_rows.specs.model.Protect.{held_post, told_held}

-- what a machine's step leaves is less than what was left
abbrev pub Lowers : World → ℕ → Why → Base → Type 0
Lowers w i why base =
    turn_total w.layout.config ((step w i).mem Clock) (w.seat i).rounds (run_turn why (offered w i).desk (after base (counted (w.seat i).post) (finds w i))) + 1
    ≤ why_left w.layout.config (length (w.seat i).desk.list) (w.seat i).rounds base why + eras_left w.layout.config (base_seen base (span_seen (w.mem Clock) (w.seat i).post.span))

abbrev pub Knows : World → ℕ → Why → Base → Type 0
Knows w i why base = PhaseKnown w.layout (stands_at (run_turn why (offered w i).desk (after base (counted (w.seat i).post) (finds w i))).outcome)

-- what an own protection is of

pub own_root : (buckets : ℕ) (task : Task) (root : Root) → root ≡ task_root buckets task → is_root root ≡ true
own_root buckets (Gets key) root e = rw e refl
own_root buckets (Changes kept) root e = rw e refl
own_root buckets (Holds key) root e = rw e refl
own_root buckets (Enqueues kept) root e = rw e refl
own_root buckets Dequeues root e = rw e refl

pub lost_few : (most rounds : ℕ) (told : Bool) → tells_fit most rounds told → lost_by rounds told ≤ most
lost_few most rounds true f = let a = f.few in omega (arith, a)
lost_few most rounds false f = f

pub once_told : (most rounds : ℕ) (told : Bool) → tells_fit most rounds told → told ≡ true → 1 ≤ rounds
once_told most rounds true f e = f.told
once_told most rounds false f e = absurd (cc)

-- a protection at an index that counts
abbrev pub counts_task : (rows : Bool) → Task → Bool
counts_task rows (Gets key) = true
counts_task rows (Changes kept) = true
counts_task rows (Holds key) = rows
counts_task rows (Enqueues kept) = true
counts_task rows Dequeues = true

first_counts : (rows : Bool) (index : ℕ) → index ≡ 0 → counts_at rows index ≡ true
first_counts false index e = rw e refl
first_counts true index e = rw e refl

pub task_counts : (rows : Bool) (task : Task) (index : ℕ) → index ≡ index_of task → counts_task rows task ≡ true → counts_at rows index ≡ true
task_counts rows (Gets key) index e h = first_counts rows index e
task_counts rows (Changes kept) index e h = first_counts rows index e
task_counts true (Holds key) index e h = rw e refl
task_counts false (Holds key) index e h = absurd (cc)
task_counts rows (Enqueues kept) index e h = first_counts rows index e
task_counts rows Dequeues index e h = first_counts rows index e

-- where its reload agrees no round is lost
kept_lost : (at : ProtectAt) (found lost : ℕ) → at_agrees at found ≡ true → lost_after at found lost ≡ lost
kept_lost (ByHazard FirstLink) found lost a = refl
kept_lost (ByHazard (PublishLink link)) found lost a = refl
kept_lost (ByHazard (CheckLink link)) found lost a = rw a refl
kept_lost at found lost a = refl

-- what the step of an own protection tells
pub own_tells : (w : World) (i : ℕ) (task : Task) (index : ℕ) (root : Root) (n : ℕ) (at : ProtectAt) → Seat w i (Opens task) (Protect Alone index root n at)
    → counts_task (publishes_rows w.layout.config.scheme) task ≡ true → tells_fit (rounds_most w.layout.config task) (w.seat i).rounds (is_told (Protect Alone index root n at))
    → Tells (lost_after at (finds w i) (lost_by (w.seat i).rounds (is_told (Protect Alone index root n at)))) (rounds_in w.layout.config (w.seat i).rounds (protect_turn Alone index root (bump n) at (counted (w.seat i).post) (finds w i)).told) (protect_turn Alone index root (bump n) at (counted (w.seat i).post) (finds w i)).outcome
own_tells w i task index root n at s z f =
    let c : Config = w.layout.config in
    let r : ℕ = (w.seat i).rounds in
    let base : Base = Protect Alone index root n at in
    let t : Turn = protect_turn Alone index root (bump n) at (counted (w.seat i).post) (finds w i) in
    let e : publishes_rows c.scheme ≡ by_rows at = fit_rows c.scheme c.tries at s.run.fits in
    let k : counts_at (by_rows at) index ≡ true = task_counts (by_rows at) task index s.run.shape.at (subst (λ (rows : Bool). counts_task rows task ≡ true) e z) in
    let h = protect_tells r index root n (bump n) at (counted (w.seat i).post) (finds w i) k (own_root c.buckets task root s.run.shape.of) (once_told (rounds_most c task) r (is_told base) f) s.linked in
    subst (λ (rows : Bool). Tells (lost_after at (finds w i) (lost_by r (is_told base))) (rounds_told rows r t.told) t.outcome) (sym e) h

-- a protection at another index tells no round
pub other_steady : (w : World) (i : ℕ) (why : Why) (aim : Aim) (index : ℕ) (root : Root) (n : ℕ) (at : ProtectAt) → Seat w i why (Protect aim index root n at) → counts_at (publishes_rows w.layout.config.scheme) index ≡ false
    → rounds_in w.layout.config (w.seat i).rounds (protect_turn aim index root (bump n) at (counted (w.seat i).post) (finds w i)).told ≡ (w.seat i).rounds
other_steady w i why aim index root n at s z =
    let c : Config = w.layout.config in
    let r : ℕ = (w.seat i).rounds in
    let t : Turn = protect_turn aim index root (bump n) at (counted (w.seat i).post) (finds w i) in
    let e : publishes_rows c.scheme ≡ by_rows at = fit_rows c.scheme c.tries at s.run.fits in
    subst (λ (rows : Bool). rounds_told rows r t.told ≡ r) (sym e) (protect_steady r aim index root (bump n) at (counted (w.seat i).post) (finds w i) (subst (λ (rows : Bool). counts_at rows index ≡ false) e z))

pub hold_steady : (w : World) (i key index : ℕ) (root : Root) (n : ℕ) (at : ProtectAt) → Seat w i (Opens (Holds key)) (Protect Alone index root n at) → publishes_rows w.layout.config.scheme ≡ false
    → rounds_in w.layout.config (w.seat i).rounds (protect_turn Alone index root (bump n) at (counted (w.seat i).post) (finds w i)).told ≡ (w.seat i).rounds
hold_steady w i key index root n at s b = let e : index ≡ 2 = s.run.shape.at in other_steady w i (Opens (Holds key)) Alone index root n at s (rw (b, e) refl)

pub one_uncounted : (rows : Bool) (index : ℕ) → index ≡ 1 → counts_at rows index ≡ false
one_uncounted false index e = rw e refl
one_uncounted true index e = rw e refl

pub follow_steady : (w : World) (i head tail : ℕ) (aim : Aim) (index : ℕ) (root : Root) (n : ℕ) (at : ProtectAt) → Seat w i (FollowsHead head tail) (Protect aim index root n at)
    → rounds_in w.layout.config (w.seat i).rounds (protect_turn aim index root (bump n) at (counted (w.seat i).post) (finds w i)).told ≡ (w.seat i).rounds
follow_steady w i head tail aim index root n at s = other_steady w i (FollowsHead head tail) aim index root n at s (one_uncounted (publishes_rows w.layout.config.scheme) index s.run.shape.at)

own_protects : (w : World) (i : ℕ) → is_valid w.layout ≡ true → (task : Task) (index : ℕ) (root : Root) (n : ℕ) (at : ProtectAt) → Seat w i (Opens task) (Protect Alone index root n at)
    → counts_task (publishes_rows w.layout.config.scheme) task ≡ true → at_agrees at (finds w i) ≡ true → tells_fit (rounds_most w.layout.config task) (w.seat i).rounds (is_told (Protect Alone index root n at)) → Knows w i (Opens task) (Protect Alone index root n at) → Lowers w i (Opens task) (Protect Alone index root n at)
own_protects w i v task index root n at s z g f p =
    let c : Config = w.layout.config in
    let r : ℕ = (w.seat i).rounds in
    let base : Base = Protect Alone index root n at in
    let t : Turn = after base (counted (w.seat i).post) (finds w i) in
    let old : ℕ = start_of c (w.mem Clock) (w.seat i).post.span base in
    let settled : Settles c old ((step w i).mem Clock) t = protect_settles c (w.mem Clock) ((step w i).mem Clock) Alone index root n (bump n) at (counted (w.seat i).post) (finds w i) (seat_protects w i (Opens task) Alone index root n at s (agrees_ends at (finds w i) g)) in
    let a = seat_after w i (Opens task) base old v s settled p t refl in
    let told : Tells (lost_by r (is_told base)) (rounds_in c r t.told) t.outcome = subst (λ (lost : ℕ). Tells lost (rounds_in c r t.told) t.outcome) (kept_lost at (finds w i) (lost_by r (is_told base)) g) (own_tells w i task index root n at s z f) in
    let h = opens_own c w.layout i ((step w i).mem Clock) r task base (offered w i).desk t.post t.told t.outcome old (lost_by r (is_told base)) (lost_few (rounds_most c task) r (is_told base) f) told (ends_well index root (bump n) at (counted (w.seat i).post) (finds w i)) a in
    omega (arith, h)

-- a reload that finds another link is a lost round, and another attempt comes
link_moves : (w : World) (i : ℕ) (task : Task) (index : ℕ) (root : Root) (n link : ℕ) → Seat w i (Opens task) (Protect Alone index root n (ByHazard (CheckLink link)))
    → (finds w i == link) ≡ false → (finds w i == 0) ≡ false → InRound (rounds_most w.layout.config task) (w.seat i).rounds → Lowers w i (Opens task) (Protect Alone index root n (ByHazard (CheckLink link)))
link_moves w i task index root n link s g e f =
    let c : Config = w.layout.config in
    let r : ℕ = (w.seat i).rounds in
    let told = f.told in
    let few = f.few in
    let lives : ℕ = length (w.seat i).desk.list in
    let d = task_drops c lives lives task (r - 1) (omega arith) (omega (arith, few)) in
    let same : r - 1 + 1 ≡ r = omega (arith, told) in
    let q : task_left c lives task r + round_worth c ≤ task_left c lives task (r - 1) = subst (λ (m : ℕ). task_left c lives task m + round_worth c ≤ task_left c lives task (r - 1)) same d in
    let k = seen_rises (w.mem Clock) ((step w i).mem Clock) (w.seat i).post.span s.rises in
    rw (g, e) (omega (arith, q, k))

-- a reload that finds null is one too, and then the root is found null
null_turn : (index : ℕ) (root : Root) (n link : ℕ) (post : Post) (found : ℕ) → (found == link) ≡ false → (found == 0) ≡ true
    → after_check_link Alone index root n link post found ≡ ends (held_post post index root found) (told_held index root found n) (Protected protect_ends.Null)
null_turn index root n link post found g e = rw (g, e) refl

link_ends : (w : World) (i : ℕ) → is_valid w.layout ≡ true → (task : Task) (index : ℕ) (root : Root) (n link : ℕ) → Seat w i (Opens task) (Protect Alone index root n (ByHazard (CheckLink link)))
    → counts_task (publishes_rows w.layout.config.scheme) task ≡ true → (finds w i == link) ≡ false → (finds w i == 0) ≡ true → InRound (rounds_most w.layout.config task) (w.seat i).rounds → Knows w i (Opens task) (Protect Alone index root n (ByHazard (CheckLink link)))
    → Lowers w i (Opens task) (Protect Alone index root n (ByHazard (CheckLink link)))
link_ends w i v task index root n link s z g e f p =
    let c : Config = w.layout.config in
    let r : ℕ = (w.seat i).rounds in
    let at : ProtectAt = ByHazard (CheckLink link) in
    let base : Base = Protect Alone index root n at in
    let post : Post = counted (w.seat i).post in
    let t : Turn = ends (held_post post index root (finds w i)) (told_held index root (finds w i) (bump n)) (Protected protect_ends.Null) in
    let same : after base post (finds w i) ≡ t = null_turn index root (bump n) link post (finds w i) g e in
    let old : ℕ = start_of c (w.mem Clock) (w.seat i).post.span base in
    let settled : Settles c old ((step w i).mem Clock) (after base post (finds w i)) = protect_settles c (w.mem Clock) ((step w i).mem Clock) Alone index root n (bump n) at post (finds w i) (seat_protects w i (Opens task) Alone index root n at s (rw (g, e) refl)) in
    let a = seat_after w i (Opens task) base old v s settled p t same in
    let told = f.told in
    let few = f.few in
    let rows : publishes_rows c.scheme ≡ true = fit_rows c.scheme c.tries at s.run.fits in
    let k : counts_at true index ≡ true = task_counts true task index s.run.shape.at (subst (λ (x : Bool). counts_task x task ≡ true) rows z) in
    let m : rounds_told true r t.told ≡ r + 1 = null_tells r index root (finds w i) (bump n) k (own_root c.buckets task root s.run.shape.of) e in
    let l : rounds_in c r t.told ≡ r - 1 + 2 = rw rows (omega (arith, m, told)) in
    let h = opens_null c w.layout i ((step w i).mem Clock) r task (offered w i).desk t.post t.told old (r - 1) (omega (arith, few)) l a in
    subst (λ (x : Turn). turn_total c ((step w i).mem Clock) r (run_turn (Opens task) (offered w i).desk x) + 1 ≤ why_left c (length (w.seat i).desk.list) r base (Opens task) + eras_left c (base_seen base (span_seen (w.mem Clock) (w.seat i).post.span))) (sym same) (omega (arith, h))

reload_fails : (w : World) (i : ℕ) → is_valid w.layout ≡ true → (task : Task) (index : ℕ) (root : Root) (n link : ℕ) → Seat w i (Opens task) (Protect Alone index root n (ByHazard (CheckLink link)))
    → counts_task (publishes_rows w.layout.config.scheme) task ≡ true → (finds w i == link) ≡ false → InRound (rounds_most w.layout.config task) (w.seat i).rounds → Knows w i (Opens task) (Protect Alone index root n (ByHazard (CheckLink link)))
    → Lowers w i (Opens task) (Protect Alone index root n (ByHazard (CheckLink link)))
reload_fails w i v task index root n link s z g f p = by_null (finds w i == 0) refl
  where
    by_null : (none : Bool) → (finds w i == 0) ≡ none → Lowers w i (Opens task) (Protect Alone index root n (ByHazard (CheckLink link)))
    by_null true e = link_ends w i v task index root n link s z g e f p
    by_null false e = link_moves w i task index root n link s g e f

-- a reload that fails loses its round
reload_protects : (w : World) (i : ℕ) → is_valid w.layout ≡ true → (task : Task) (index : ℕ) (root : Root) (n : ℕ) (at : ProtectAt) → Seat w i (Opens task) (Protect Alone index root n at)
    → counts_task (publishes_rows w.layout.config.scheme) task ≡ true → at_agrees at (finds w i) ≡ false → tells_fit (rounds_most w.layout.config task) (w.seat i).rounds (is_told (Protect Alone index root n at)) → Knows w i (Opens task) (Protect Alone index root n at) → Lowers w i (Opens task) (Protect Alone index root n at)
reload_protects w i v task index root n (ByHazard (CheckLink link)) s z g f p = reload_fails w i v task index root n link s z g f p
reload_protects w i v task index root n (ByHazard FirstLink) s z g f p = absurd (cc)
reload_protects w i v task index root n (ByHazard (PublishLink link)) s z g f p = absurd (cc)
reload_protects w i v task index root n at s z g f p = absurd (cc)

counted_protects : (w : World) (i : ℕ) → is_valid w.layout ≡ true → (task : Task) (index : ℕ) (root : Root) (n : ℕ) (at : ProtectAt) → Seat w i (Opens task) (Protect Alone index root n at)
    → counts_task (publishes_rows w.layout.config.scheme) task ≡ true → tells_fit (rounds_most w.layout.config task) (w.seat i).rounds (is_told (Protect Alone index root n at)) → Knows w i (Opens task) (Protect Alone index root n at) → Lowers w i (Opens task) (Protect Alone index root n at)
counted_protects w i v task index root n at s z f p = by_reload (at_agrees at (finds w i)) refl
  where
    by_reload : (agrees : Bool) → at_agrees at (finds w i) ≡ agrees → Lowers w i (Opens task) (Protect Alone index root n at)
    by_reload true g = own_protects w i v task index root n at s z g f p
    by_reload false g = reload_protects w i v task index root n at s z g f p

-- a hold, where index 2 does not count
hold_protects : (w : World) (i : ℕ) → is_valid w.layout ≡ true → (key index : ℕ) (root : Root) (n : ℕ) (at : ProtectAt) → Seat w i (Opens (Holds key)) (Protect Alone index root n at)
    → publishes_rows w.layout.config.scheme ≡ false → (w.seat i).rounds ≡ 0 → Knows w i (Opens (Holds key)) (Protect Alone index root n at) → Lowers w i (Opens (Holds key)) (Protect Alone index root n at)
hold_protects w i v key index root n at s b f p =
    let c : Config = w.layout.config in
    let r : ℕ = (w.seat i).rounds in
    let base : Base = Protect Alone index root n at in
    let t : Turn = after base (counted (w.seat i).post) (finds w i) in
    let old : ℕ = start_of c (w.mem Clock) (w.seat i).post.span base in
    let plain : by_rows at ≡ false = sym (fit_rows c.scheme c.tries at s.run.fits) ∙ b in
    let settled : Settles c old ((step w i).mem Clock) t = protect_settles c (w.mem Clock) ((step w i).mem Clock) Alone index root n (bump n) at (counted (w.seat i).post) (finds w i) (seat_protects w i (Opens (Holds key)) Alone index root n at s (agrees_ends at (finds w i) (plain_agrees at (finds w i) plain))) in
    let a = seat_after w i (Opens (Holds key)) base old v s settled p t refl in
    let told = hold_steady w i key index root n at s b in
    let h = opens_hold c w.layout i ((step w i).mem Clock) r key (offered w i).desk t.post t.told t.outcome old (told ∙ f) (ends_well index root (bump n) at (counted (w.seat i).post) (finds w i)) a in
    let k : lost_by r (is_told base) ≡ 0 = rw f (none_lost (is_told base)) in
    rw k (omega (arith, h))

hold_by_rows : (w : World) (i : ℕ) → is_valid w.layout ≡ true → (key index : ℕ) (root : Root) (n : ℕ) (at : ProtectAt) → Seat w i (Opens (Holds key)) (Protect Alone index root n at)
    → (rows : Bool) → publishes_rows w.layout.config.scheme ≡ rows → hold_fit rows (rounds_most w.layout.config (Holds key)) (w.seat i).rounds (is_told (Protect Alone index root n at)) → Knows w i (Opens (Holds key)) (Protect Alone index root n at) → Lowers w i (Opens (Holds key)) (Protect Alone index root n at)
hold_by_rows w i v key index root n at s true b f p = counted_protects w i v (Holds key) index root n at s b f p
hold_by_rows w i v key index root n at s false b f p = hold_protects w i v key index root n at s b f p

-- an interval begins

begin_loads : (w : World) (i : ℕ) (task : Task) → Seat w i (Opens task) (Begin LoadLower) → Lowers w i (Opens task) (Begin LoadLower)
begin_loads w i task s =
    let e : finds w i ≡ w.mem Clock = finds_at w i (Runs (Opens task) (Begin LoadLower)) s.at in
    let n = none_seen (w.mem Clock) (w.seat i).post.span s.run.posted in
    rw n (omega (arith, e))

begin_shows : (w : World) (i : ℕ) (task : Task) (era : ℕ) → Seat w i (Opens task) (Begin (PublishSpan era)) → Lowers w i (Opens task) (Begin (PublishSpan era))
begin_shows w i task era s =
    let post : Post = with_span (counted (w.seat i).post) (from_to era era) in
    let h = opening_left w.layout.config (w.seat i).rounds (w.seat i).desk.list task post in
    let k = protect_same (scheme_of post) era in
    rw k (omega (arith, h))

-- the protection of a task's root
opens_protects : (w : World) (i : ℕ) → is_valid w.layout ≡ true → (task : Task) (index : ℕ) (root : Root) (n : ℕ) (at : ProtectAt) → Seat w i (Opens task) (Protect Alone index root n at) → Knows w i (Opens task) (Protect Alone index root n at) → Lowers w i (Opens task) (Protect Alone index root n at)
opens_protects w i v (Gets key) index root n at s p = counted_protects w i v (Gets key) index root n at s refl s.lost p
opens_protects w i v (Changes kept) index root n at s p = counted_protects w i v (Changes kept) index root n at s refl s.lost p
opens_protects w i v (Holds key) index root n at s p = hold_by_rows w i v key index root n at s (publishes_rows w.layout.config.scheme) refl s.lost p
opens_protects w i v (Enqueues kept) index root n at s p = counted_protects w i v (Enqueues kept) index root n at s refl s.lost p
opens_protects w i v Dequeues index root n at s p = counted_protects w i v Dequeues index root n at s refl s.lost p

pub follows_alone : Follows ≡ Alone → false ≡ true
follows_alone e = ap is_alone e
  where
    is_alone : Aim → Bool
    is_alone Alone = true
    is_alone Follows = false

pub opens_lowers : (w : World) (i : ℕ) → is_valid w.layout ≡ true → (task : Task) (base : Base) → Seat w i (Opens task) base → Knows w i (Opens task) base → Lowers w i (Opens task) base
opens_lowers w i v task (Begin LoadLower) s p = begin_loads w i task s
opens_lowers w i v task (Begin (PublishSpan era)) s p = begin_shows w i task era s
opens_lowers w i v task (Protect Alone index root n at) s p = opens_protects w i v task index root n at s p
opens_lowers w i v task (Protect Follows index root n at) s p = absurd (let e = follows_alone s.run.shape.aimed in cc)
opens_lowers w i v task (Reload parent index slot era n) s p = absurd (let e = s.run.suited in cc)
opens_lowers w i v task (Clear rows index) s p = absurd (let e = s.run.suited in cc)
opens_lowers w i v task Finish s p = absurd (let e = s.run.suited in cc)
opens_lowers w i v task (Release index) s p = absurd (let e = s.run.suited in cc)
opens_lowers w i v task (Allocate at) s p = absurd (let e = s.run.suited in cc)
opens_lowers w i v task (Write slot row place) s p = absurd (let e = s.run.suited in cc)
opens_lowers w i v task (GiveUp slot) s p = absurd (let e = s.run.suited in cc)
opens_lowers w i v task (Retire at) s p = absurd (let e = s.run.suited in cc)
opens_lowers w i v task (Move at) s p = absurd (let e = s.run.suited in cc)

seat_seen : (w : World) (i : ℕ) (why : Why) (base : Base) → Seat w i why base → span_seen (w.mem Clock) (w.seat i).post.span ≤ w.mem Clock
seat_seen w i why base s = span_within (w.mem Clock) (w.seat i).post.span s.span

-- the step of another machine than a protection
pub seat_settles : (w : World) (i : ℕ) (why : Why) (base : Base) → Seat w i why base → base_owes w.layout.config base (counted (w.seat i).post) (finds w i) → Settles w.layout.config (start_of w.layout.config (w.mem Clock) (w.seat i).post.span base) ((step w i).mem Clock) (after base (counted (w.seat i).post) (finds w i))
seat_settles w i why base s o = base_settles w.layout.config (w.mem Clock) ((step w i).mem Clock) base (counted (w.seat i).post) (finds w i) (ap (λ (l : Layout). l.config) s.fits.layout) s.rises (seat_seen w i why base s) o

follow_protects : (w : World) (i : ℕ) → is_valid w.layout ≡ true → (head tail : ℕ) (aim : Aim) (index : ℕ) (root : Root) (n : ℕ) (at : ProtectAt) → Seat w i (FollowsHead head tail) (Protect aim index root n at) → Knows w i (FollowsHead head tail) (Protect aim index root n at) → Lowers w i (FollowsHead head tail) (Protect aim index root n at)
follow_protects w i v head tail aim index root n at s p =
    let c : Config = w.layout.config in
    let r : ℕ = (w.seat i).rounds in
    let base : Base = Protect aim index root n at in
    let t : Turn = after base (counted (w.seat i).post) (finds w i) in
    let old : ℕ = start_of c (w.mem Clock) (w.seat i).post.span base in
    let settled : Settles c old ((step w i).mem Clock) t = protect_settles c (w.mem Clock) ((step w i).mem Clock) aim index root n (bump n) at (counted (w.seat i).post) (finds w i) (seat_protects w i (FollowsHead head tail) aim index root n at s (agrees_ends at (finds w i) s.agrees)) in
    let a = seat_after w i (FollowsHead head tail) base old v s settled p t refl in
    let told = follow_steady w i head tail aim index root n at s in
    let h = follows_on c w.layout i ((step w i).mem Clock) r head tail (offered w i).desk t.post t.told t.outcome old s.lost told a in
    omega (arith, h)

-- a machine that tells no round
pub still_after : (w : World) (i : ℕ) → is_valid w.layout ≡ true → (why : Why) (base : Base) → Seat w i why base → Knows w i why base → base_owes w.layout.config base (counted (w.seat i).post) (finds w i)
    → After w.layout.config w.layout i ((step w i).mem Clock) (w.seat i).rounds (start_of w.layout.config (w.mem Clock) (w.seat i).post.span base) (offered w i).desk (after base (counted (w.seat i).post) (finds w i)).post (after base (counted (w.seat i).post) (finds w i)).told (after base (counted (w.seat i).post) (finds w i)).outcome (run_turn why (offered w i).desk (after base (counted (w.seat i).post) (finds w i)))
still_after w i v why base s p o = seat_after w i why base (start_of w.layout.config (w.mem Clock) (w.seat i).post.span base) v s (seat_settles w i why base s o) p (after base (counted (w.seat i).post) (finds w i)) refl

follow_reloads : (w : World) (i : ℕ) → is_valid w.layout ≡ true → (head tail parent index slot era n : ℕ) → Seat w i (FollowsHead head tail) (Reload parent index slot era n) → Knows w i (FollowsHead head tail) (Reload parent index slot era n) → Lowers w i (FollowsHead head tail) (Reload parent index slot era n)
follow_reloads w i v head tail parent index slot era n s p =
    let base : Base = Reload parent index slot era n in
    let t : Turn = after base (counted (w.seat i).post) (finds w i) in
    let e : index ≡ 1 = s.run.shape.at in
    let told = base_steady (publishes_rows w.layout.config.scheme) (w.seat i).rounds base (counted (w.seat i).post) (finds w i) (rw e refl) in
    let h = follows_on w.layout.config w.layout i ((step w i).mem Clock) (w.seat i).rounds head tail (offered w i).desk t.post t.told t.outcome (start_of w.layout.config (w.mem Clock) (w.seat i).post.span base) s.lost told (still_after w i v (FollowsHead head tail) base s p tt) in
    omega (arith, h)

pub follows_lowers : (w : World) (i : ℕ) → is_valid w.layout ≡ true → (head tail : ℕ) (base : Base) → Seat w i (FollowsHead head tail) base → Knows w i (FollowsHead head tail) base → Lowers w i (FollowsHead head tail) base
follows_lowers w i v head tail (Protect aim index root n at) s p = follow_protects w i v head tail aim index root n at s p
follows_lowers w i v head tail (Reload parent index slot era n) s p = follow_reloads w i v head tail parent index slot era n s p
follows_lowers w i v head tail (Begin at) s p = absurd (let e = s.run.suited in cc)
follows_lowers w i v head tail (Clear rows index) s p = absurd (let e = s.run.suited in cc)
follows_lowers w i v head tail Finish s p = absurd (let e = s.run.suited in cc)
follows_lowers w i v head tail (Release index) s p = absurd (let e = s.run.suited in cc)
follows_lowers w i v head tail (Allocate at) s p = absurd (let e = s.run.suited in cc)
follows_lowers w i v head tail (Write slot row place) s p = absurd (let e = s.run.suited in cc)
follows_lowers w i v head tail (GiveUp slot) s p = absurd (let e = s.run.suited in cc)
follows_lowers w i v head tail (Retire at) s p = absurd (let e = s.run.suited in cc)
follows_lowers w i v head tail (Move at) s p = absurd (let e = s.run.suited in cc)

fill_allocates : (w : World) (i : ℕ) → is_valid w.layout ≡ true → (task : Task) (at : AllocateAt) → Seat w i (Fills task) (Allocate at) → Knows w i (Fills task) (Allocate at) → Lowers w i (Fills task) (Allocate at)
fill_allocates w i v task at s p =
    let base : Base = Allocate at in
    let t : Turn = after base (counted (w.seat i).post) (finds w i) in
    let told = base_steady (publishes_rows w.layout.config.scheme) (w.seat i).rounds base (counted (w.seat i).post) (finds w i) refl in
    let h = allocates_on w.layout.config w.layout i ((step w i).mem Clock) (w.seat i).rounds task (offered w i).desk t.post t.told t.outcome (start_of w.layout.config (w.mem Clock) (w.seat i).post.span base) s.lost told (walks_on at (counted (w.seat i).post) (finds w i)) (still_after w i v (Fills task) base s p tt) in
    omega (arith, h)

place_below : (row : RowOf) (place : ℕ) → (nat_le (first_written row) place && nat_le place (last_written row)) ≡ true → place ≤ last_written row
place_below row place h = both (nat_le (first_written row) place) h
  where
    both : (b : Bool) → (b && nat_le place (last_written row)) ≡ true → place ≤ last_written row
    both true h = grind (arith, nat_tests)
    both false h = absurd (cc)

write_turn : (slot : ℕ) (row : RowOf) (place : ℕ) (post : Post) (last : Bool) → (if last then ends post [] Done else goes post [] (Write slot row (place + 1))) ≡ record { post = post; told = []; outcome = (if last then ends post [] Done else goes post [] (Write slot row (place + 1))).outcome }
write_turn slot row place post true = refl
write_turn slot row place post false = refl

fill_writes : (w : World) (i : ℕ) → is_valid w.layout ≡ true → (task : Task) (slot : ℕ) (row : RowOf) (place : ℕ) → Seat w i (Fills task) (Write slot row place) → Knows w i (Fills task) (Write slot row place) → Lowers w i (Fills task) (Write slot row place)
fill_writes w i v task slot row place s p =
    let base : Base = Write slot row place in
    let post : Post = counted (w.seat i).post in
    let last : Bool = place == last_written row in
    let old : ℕ = start_of w.layout.config (w.mem Clock) (w.seat i).post.span base in
    let e = write_turn slot row place post last in
    let a = seat_after w i (Fills task) base old v s (seat_settles w i (Fills task) base s (place_below row place s.run.fits)) p (record { post = post; told = []; outcome = (if last then ends post [] Done else goes post [] (Write slot row (place + 1))).outcome }) e in
    let h = writes_on w.layout.config w.layout i ((step w i).mem Clock) (w.seat i).rounds task slot row place (offered w i).desk post last old s.lost a in
    let k = subst (λ (x : Turn). turn_total w.layout.config ((step w i).mem Clock) (w.seat i).rounds (run_turn (Fills task) (offered w i).desk x) + 1 ≤ old + 5 + task_left w.layout.config (length (w.seat i).desk.list) task ((w.seat i).rounds - 1)) (sym e) h in
    omega (arith, k)

pub fills_lowers : (w : World) (i : ℕ) → is_valid w.layout ≡ true → (task : Task) (base : Base) → Seat w i (Fills task) base → Knows w i (Fills task) base → Lowers w i (Fills task) base
fills_lowers w i v task (Allocate at) s p = fill_allocates w i v task at s p
fills_lowers w i v task (Write slot row place) s p = fill_writes w i v task slot row place s p
fills_lowers w i v task (Begin at) s p = absurd (let e = s.run.suited in cc)
fills_lowers w i v task (Protect aim index root n at) s p = absurd (let e = s.run.suited in cc)
fills_lowers w i v task (Reload parent index slot era n) s p = absurd (let e = s.run.suited in cc)
fills_lowers w i v task (Clear rows index) s p = absurd (let e = s.run.suited in cc)
fills_lowers w i v task Finish s p = absurd (let e = s.run.suited in cc)
fills_lowers w i v task (Release index) s p = absurd (let e = s.run.suited in cc)
fills_lowers w i v task (GiveUp slot) s p = absurd (let e = s.run.suited in cc)
fills_lowers w i v task (Retire at) s p = absurd (let e = s.run.suited in cc)
fills_lowers w i v task (Move at) s p = absurd (let e = s.run.suited in cc)
