-- Rounds under 2GE: where an interval begins, and how a round ends.
use Rattle.std.proofs.Common.{Bool, List, None, Option, Some, [], ap, arith, refl, sym, true, ℕ, ◌-◌, ◌++◌, ◌<◌, ◌==◌, ◌∙◌, ◌≡◌, ◌≢◌, drop, if◌then◌else◌, ◌⊎◌, inl, inr, false, slice_set}
use Rattle.std.proofs.lemmas.Bool.{false≢true}
use Rattle.std.proofs.lemmas.Bool.Decides.{eqb_tells}
use Rattle.std.proofs.lemmas.List.{drop-set-lt}
use Rattle.wfe_core.specs.words.Schemes.{has_one_interval, publishes_rows}
use Rattle.wfe_core.specs.words.declared.config.SchemeKind.TheVariants.{Ibr}
use Rattle.wfe_core.specs.words.declared.layout.Layout.{Layout}
use Rattle.wfe_core.specs.defs.declared.event.Event.{Event}
use Rattle.wfe_core.specs.defs.declared.lifetime.Interval.{Interval}
use Rattle.wfe_core.specs.Calls.{Again, Answering, Dequeues, Finishes, MakeRoom, Next, Phase, Retiring, Runs, Task, goes_on}
use Rattle.wfe_core.specs.Desks.{Desk, noting}
use Rattle.wfe_core.specs.Phases.Base.{Clear, Finish}
use Rattle.wfe_core.specs.Phases.BeginAt.{LoadLower}
use Rattle.wfe_core.specs.Posts.{cleared, stands, withdrawn}
use Rattle.wfe_core.specs.Rounds.{begin_span, begin_where, clearing, clearing_by, clearing_next_by, finish_span, finishing, finishing_by, first_row, index_of, kept_row, opening, round, round_by, scheme_of}
use Rattle.wfe_core.specs.declared.post.Post.{Post}
use Rattle.wfe_drive_words.specs.drive_cells.Unit.{SeatView, kept_desk, seat_after}
use Rattle.wfe_drive_words.specs.Path.{beginning_at}
use Rattle.wfe_drive_runs.specs.Pieces.{Finishing, IsFree, IsSpanned, IsStood, clearing_at, clearing_next_at, seat_of}
use Rattle.wfe_drive_runs.proofs.Closing.{clearing_noted, goes_noted}

-- an interval stands, or one is to begin
pub span_stands : (task : Task) (post : Post) (desk : Desk) (span : Interval) → scheme_of post ≡ Ibr → post.span ≡ Some span → seat_of (round task post) post desk ≡ seat_of (opening task post) post desk
span_stands task post desk span kind e =
    let opens : Bool → Phase = λ one. round_by task post (begin_where one post) in
    let spans : Option Interval → Phase = λ held. round_by task post (begin_span held) in
    ap (λ (phase : Phase). seat_of phase post desk) (ap opens (ap has_one_interval kind) ∙ ap spans e)

pub span_begins : (task : Task) (post : Post) (desk : Desk) → scheme_of post ≡ Ibr → post.span ≡ None → seat_of (round task post) post desk ≡ beginning_at task desk post post.steps LoadLower
span_begins task post desk kind e =
    let opens : Bool → Phase = λ one. round_by task post (begin_where one post) in
    let spans : Option Interval → Phase = λ held. round_by task post (begin_span held) in
    ap (λ (phase : Phase). seat_of phase post desk) (ap opens (ap has_one_interval kind) ∙ ap spans e)

-- what stands at an index below 2 is not kept
pub kept_set : (post new : Post) (index : ℕ) (held : Option ℕ) → index < 2 → new.standing ≡ slice_set post.standing index held → kept_row new ≡ kept_row post
kept_set post new index held early e =
    ap (λ (rows : List (Option ℕ)). first_row (drop 2 rows)) e ∙ ap first_row (drop-set-lt 2 post.standing index held early)

pub kept_cleared : (post new : Post) → new.standing ≡ slice_set post.standing 0 None → kept_row new ≡ kept_row post
kept_cleared post new e = kept_set post new 0 None (omega arith) e

kept-by : (index link : ℕ) (old new : Post) (held : Option ℕ) → IsStood index link old new held → index < 2 → ((link == 0) ≡ true) × (link ≡ 0) ⊎ ((link == 0) ≡ false) × (link ≢ 0) → kept_row new ≡ kept_row old
kept-by index link old new held s early (inl e) = ap kept_row (s.null e.1).1
kept-by index link old new held s early (inr e) = kept_set old new index (Some (link - 1)) early (ap (λ (p : Post). p.standing) (s.row e.1).1)

pub kept_stood : (index link : ℕ) (old new : Post) (held : Option ℕ) → IsStood index link old new held → index < 2 → kept_row new ≡ kept_row old
kept_stood index link old new held s early = kept-by index link old new held s early (eqb_tells link 0)

-- without an interval a seat is free in this sense
pub free_without : (post new : Post) → new.layout ≡ post.layout → has_one_interval (scheme_of post) ≡ false → IsFree new
free_without post new l none = λ one. absurd (false≢true (sym none ∙ ap (λ (layout : Layout). has_one_interval layout.config.scheme) (sym l) ∙ one))

-- and spanned
pub spanned_without : (post new : Post) → new.layout ≡ post.layout → has_one_interval (scheme_of post) ≡ false → IsSpanned new
spanned_without post new l none = λ one. absurd (false≢true (sym none ∙ ap (λ (layout : Layout). has_one_interval layout.config.scheme) (sym l) ∙ one))

-- what a protection leaves of the interval
span-by : (index link : ℕ) (old new : Post) (held : Option ℕ) → IsStood index link old new held → ((link == 0) ≡ true) × (link ≡ 0) ⊎ ((link == 0) ≡ false) × (link ≢ 0) → new.span ≡ old.span
span-by index link old new held s (inl e) = ap (λ (p : Post). p.span) (s.null e.1).1
span-by index link old new held s (inr e) = ap (λ (p : Post). p.span) (s.row e.1).1

pub span_stood : (index link : ℕ) (old new : Post) (held : Option ℕ) → IsStood index link old new held → new.span ≡ old.span
span_stood index link old new held s = span-by index link old new held s (eqb_tells link 0)

-- a seat stays free where the same rows are kept
pub free_kept : (post new : Post) → new.layout ≡ post.layout → kept_row new ≡ kept_row post → IsFree post → IsFree new
free_kept post new l k free = λ one. k ∙ free (ap (λ (layout : Layout). has_one_interval layout.config.scheme) (sym l) ∙ one)

pub free_stays : (post new : Post) → new.layout ≡ post.layout → new.standing ≡ post.standing → IsFree post → IsFree new
free_stays post new l s free = free_kept post new l (ap (λ (rows : List (Option ℕ)). first_row (drop 2 rows)) s) free

-- a round ends without a step of its index
cleared-quiet : (desk : Desk) (index : ℕ) (stood : Option ℕ) → noting desk (cleared index stood) ≡ desk
cleared-quiet desk index None = refl
cleared-quiet desk index (Some slot) = refl

-- of a dequeue index 1 is cleared first
pub next_clears : (next : Next) (post : Post) (desk : Desk) → scheme_of post ≡ Ibr → clearing_next_at next post desk ≡ clearing_at Dequeues next (withdrawn post 1) desk
next_clears next post desk kind =
    let one : has_one_interval (scheme_of post) ≡ true = ap has_one_interval kind in
    let left : Post = withdrawn post 1 in
    let told : List Event = cleared 1 (stands post 1) in
    let first : Bool → SeatView = λ b. seat_after (clearing_next_by next post (kept_desk desk) [] (if b then None else Some (Clear (publishes_rows (scheme_of post)) 1))) in
    let second : Bool → SeatView = λ b. seat_after (clearing Dequeues next (if b then left else post) (kept_desk desk) ([] ++ (if b then told else []))) in
    ap first one ∙ ap second one ∙ clearing_noted Dequeues next left desk told ∙ ap (clearing_at Dequeues next left) (cleared-quiet desk 1 (stands post 1))

clears-once : (task : Task) (next : Next) (post : Post) (desk : Desk) → index_of task ≡ 0 → scheme_of post ≡ Ibr → clearing_at task next post desk ≡ seat_after (finishing task next (withdrawn post 0) (kept_desk desk) (cleared 0 (stands post 0)))
clears-once task next post desk i kind =
    let one : has_one_interval (scheme_of post) ≡ true = ap has_one_interval kind in
    let first : Bool → SeatView = λ b. seat_after (clearing_by task next post (kept_desk desk) [] (if b then None else Some (Clear (publishes_rows (scheme_of post)) (index_of task)))) in
    let second : Bool → SeatView = λ b. seat_after (finishing task next (if b then withdrawn post (index_of task) else post) (kept_desk desk) ([] ++ (if b then cleared (index_of task) (stands post (index_of task)) else []))) in
    let third : ℕ → SeatView = λ index. seat_after (finishing task next (withdrawn post index) (kept_desk desk) (cleared index (stands post index))) in
    ap first one ∙ ap second one ∙ ap third i

-- and the interval is to end
finishes-by : (task : Task) (next : Next) (post : Post) (desk : Desk) (told : List Event) → Finishing next → scheme_of post ≡ Ibr → kept_row post ≡ None → finishing task next post desk told ≡ goes_on post desk told (Runs (Finishes task next) Finish)
finishes-by task Again post desk told f kind free = absurd f
finishes-by task MakeRoom post desk told f kind free =
    ap (λ (b : Bool). finishing_by task MakeRoom post desk told (if b then finish_span (kept_row post) else None)) (ap has_one_interval kind)
    ∙ ap (λ (held : Option ℕ). finishing_by task MakeRoom post desk told (finish_span held)) free
finishes-by task (Answering answer) post desk told f kind free =
    ap (λ (b : Bool). finishing_by task (Answering answer) post desk told (if b then finish_span (kept_row post) else None)) (ap has_one_interval kind)
    ∙ ap (λ (held : Option ℕ). finishing_by task (Answering answer) post desk told (finish_span held)) free
finishes-by task (Retiring slot answer) post desk told f kind free =
    ap (λ (b : Bool). finishing_by task (Retiring slot answer) post desk told (if b then finish_span (kept_row post) else None)) (ap has_one_interval kind)
    ∙ ap (λ (held : Option ℕ). finishing_by task (Retiring slot answer) post desk told (finish_span held)) free

pub finishes_is : (task : Task) (next : Next) (post : Post) (desk : Desk) → index_of task ≡ 0 → Finishing next → scheme_of post ≡ Ibr → kept_row post ≡ None → clearing_at task next post desk ≡ seat_of (Runs (Finishes task next) Finish) (withdrawn post 0) desk
finishes_is task next post desk i f kind free =
    let left : Post = withdrawn post 0 in
    let told : List Event = cleared 0 (stands post 0) in
    clears-once task next post desk i kind
    ∙ ap seat_after (finishes-by task next left (kept_desk desk) told f kind (kept_cleared post left refl ∙ free))
    ∙ goes_noted left desk told (Runs (Finishes task next) Finish)
    ∙ ap (seat_of (Runs (Finishes task next) Finish) left) (cleared-quiet desk 0 (stands post 0))

-- or another round begins at once
pub again_is : (task : Task) (post : Post) (desk : Desk) → index_of task ≡ 0 → scheme_of post ≡ Ibr → clearing_at task Again post desk ≡ seat_of (round task (withdrawn post 0)) (withdrawn post 0) desk
again_is task post desk i kind =
    let left : Post = withdrawn post 0 in
    clears-once task Again post desk i kind
    ∙ goes_noted left desk (cleared 0 (stands post 0)) (round task left)
    ∙ ap (seat_of (round task left) left) (cleared-quiet desk 0 (stands post 0))
