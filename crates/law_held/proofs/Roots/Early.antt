-- A call that has not found its root yet looks for it, and finds it before it does anything else.
use Rattle.std.proofs.Common.{ℕ, ◌≡◌, ◌-◌, Bool, true, false, [], ◌∷◌, Option, Some, None, refl, sym, ap, ◌∙◌, subst, ◌⊎◌, inl, inr}
use Rattle.std.specs.List.{list_any}
use Rattle.std.specs.Prelude.{◌==◌, ◌&&◌, not, nat_le, if◌then◌else◌, ◌||◌}
use Rattle.law_scans.specs.inv.model.words.declared.config.Config.{Config}
use Rattle.law_scans.specs.inv.model.words.declared.config.SchemeKind.{SchemeKind}
use Rattle.law_scans.specs.inv.model.words.declared.config.SchemeKind.TheVariants.{He, Hp, Ibr, Wfe}
use Rattle.law_scans.specs.inv.model.words.Packed.{read_request}
use Rattle.law_scans.specs.inv.model.words.declared.packed.Request.{Request}
use Rattle.law_scans.specs.inv.model.words.declared.packed.Request.TheVariants as requests
use Rattle.law_scans.specs.inv.model.defs.declared.call.Call.{Call}
use Rattle.law_scans.specs.inv.model.defs.declared.call.Call.TheVariants as names
use Rattle.law_scans.specs.inv.model.defs.declared.event.Event.{Event}
use Rattle.law_scans.specs.inv.model.defs.declared.event.Event.TheVariants as events
use Rattle.law_scans.specs.inv.model.defs.declared.event.Root.{Root}
use Rattle.law_scans.specs.inv.model.defs.declared.event.Root.TheVariants as roots
use Rattle.law_scans.specs.inv.model.defs.declared.lifetime.Interval.{Interval}
use Rattle.law_scans.specs.inv.model.declared.post.Post.{Post}
use Rattle.law_scans.specs.inv.model.Desks.{Desk}
use Rattle.law_scans.specs.inv.model.Calls.{Task, Gets, Changes, Holds, Enqueues, Dequeues, Opens, Phase, Runs, CallTurn}
use Rattle.law_scans.specs.inv.model.Machine as machine
use Rattle.law_scans.specs.inv.model.Memory.{bump}
use Rattle.law_scans.specs.inv.model.Phases.{Aim, Alone, Tries, Endless, Failed, ProtectAt, Base, goes}
use Rattle.law_scans.specs.inv.model.Phases.BeginAt.{LoadLower, PublishSpan}
use Rattle.law_scans.specs.inv.model.Phases.ProtectAt.{PublishEra, LoadLink, CheckClock, PublishRequest, CheckOwnClock, AnswerOwn, LoadAnswer, TakeAnswer, WithdrawRequest, WithdrawHelper, CheckUpper, RaiseUpper, ByHazard}
use Rattle.law_scans.specs.inv.model.Phases.Base.{Begin, Protect}
use Rattle.law_scans.specs.inv.model.Posts.{upper}
use Rattle.law_scans.specs.inv.model.Protect.{told_held, protected, trying, failed_once}
use Rattle.law_scans.specs.inv.model.Rounds.{scheme_of, index_of, root_of, protect_at, begin_base, begin_span, opening, round_by}
use Rattle.law_scans.specs.inv.model.SlowPath.{own_request, answer_in, lost_turn}
use Rattle.law_scans.specs.inv.model.Steps as steps
use Rattle.law_scans.specs.inv.ends.Standing.{is_end}
use Rattle.law_scans.proofs.inv.ends.Ends.Tests.{base_shows, phase_shows}
use Rattle.law_scans.specs.inv.shapes.Frame.{phase_left}
use Rattle.law_scans.specs.inv.shapes.Seats.{ToOpen, suits, kind_of, Shaped}
use Rattle.law_scans.proofs.reuse.AnswersTold.Owed.{TaskServes, Serves}
use Rattle.law_scans.specs.laws.StateAt.{has_root}
use Rattle.law_scans.proofs.inv.model.Facts.{false_of_not}
use Rattle.law_scans.proofs.inv.Inv.Ends.{task_end}
use Rattle.law_scans.specs.inv.model.Phases.HazardAt.{FirstLink, PublishLink, CheckLink}

-- an answer was taken, and with it the root was told
abbrev pub is_told : Base → Bool
is_told (Protect aim index root steps (WithdrawRequest link era)) = true
is_told (Protect aim index root steps (WithdrawHelper link era)) = true
is_told base = false

-- a call looks for its root, and has not told that it found it
abbrev pub is_early : Phase → Bool
is_early (Runs (Opens task) base) = not (is_told base)
is_early phase = false

-- an event that tells so
abbrev pub is_rooting : Event → Bool
is_rooting (events.Held index slot count) = index == 0
is_rooting (events.Null index count) = index == 0
is_rooting event = false

-- after a step the call still looks for it, or it was told
abbrev pub Fate : CallTurn → Bool → Type 0
Fate t shows = (is_early (phase_left t.outcome) ≡ true) ⊎ (shows ≡ true)

link_rooting : (link n : ℕ) (null : Bool) → list_any is_rooting (if null then events.Null 0 n ∷ [] else events.Held 0 (link - 1) n ∷ []) ≡ true
link_rooting link n true = refl
link_rooting link n false = refl

root_rooting : (root : Root) (link n : ℕ) → is_end root ≡ true → list_any is_rooting (told_held 0 root link n) ≡ true
root_rooting (roots.Bucket bucket) link n e = link_rooting link n (link == 0)
root_rooting roots.Head link n e = link_rooting link n (link == 0)
root_rooting roots.Tail link n e = link_rooting link n (link == 0)
root_rooting (roots.Next parent) link n e = absurd (cc)

held_rooting : (index : ℕ) (root : Root) (link n : ℕ) → index ≡ 0 → is_end root ≡ true → list_any is_rooting (told_held index root link n) ≡ true
held_rooting index root link n i e = subst (λ (x : ℕ). list_any is_rooting (told_held x root link n) ≡ true) (sym i) (root_rooting root link n e)

-- phases of a protection that come before it is told
trying_early : (aim : Aim) (index : ℕ) (root : Root) (n : ℕ) (config : Config) (era : ℕ) (tries : Tries) → is_told (Protect aim index root n (trying config era tries)) ≡ false
trying_early aim index root n config era Endless = refl
trying_early aim index root n config era (Failed count) = by (nat_le config.tries count)
  where
    by : (x : Bool) → is_told (Protect aim index root n (if x then PublishRequest else LoadLink era (Failed count))) ≡ false
    by true = refl
    by false = refl

lost_early : (aim : Aim) (index : ℕ) (root : Root) (n first : ℕ) (last : Bool) (found : ℕ) → is_told (Protect aim index root n (lost_turn first last found)) ≡ false
lost_early aim index root n first true found = refl
lost_early aim index root n first false found = refl

answer_early : (aim : Aim) (index : ℕ) (root : Root) (n : ℕ) (r : Option Request) → is_told (Protect aim index root n (answer_in r)) ≡ false
answer_early aim index root n (Some (requests.Answered link era)) = refl
answer_early aim index root n (Some (requests.Pending tag at word)) = refl
answer_early aim index root n (Some requests.Idle) = refl
answer_early aim index root n None = refl

protect_early : (index : ℕ) (root : Root) (scheme : SchemeKind) → is_told (Protect Alone index root 0 (protect_at scheme)) ≡ false
protect_early index root He = refl
protect_early index root Ibr = refl
protect_early index root Hp = refl
protect_early index root Wfe = refl

opening_early : (task : Task) (post : Post) → is_early (opening task post) ≡ true
opening_early task post = ap not (protect_early (index_of task) (root_of task post) (scheme_of post))

check_fate : (task : Task) (desk : Desk) (aim : Aim) (index : ℕ) (root : Root) (n link era : ℕ) (post : Post) (next : Base) (same : Bool) → is_told next ≡ false → list_any is_rooting (told_held index root link n) ≡ true
    → Fate (steps.run_turn (Opens task) desk (if same then protected aim index root n link era post else goes post [] next)) (same && list_any is_rooting (told_held index root link n))
check_fate task desk aim index root n link era post next true e h = inr h
check_fate task desk aim index root n link era post next false e h = inl (ap not e)

either_fate : (task : Task) (desk : Desk) (post : Post) (a b : Base) (shows same : Bool) → is_told a ≡ false → is_told b ≡ false → Fate (steps.run_turn (Opens task) desk (if same then goes post [] a else goes post [] b)) shows
either_fate task desk post a b shows true e f = inl (ap not e)
either_fate task desk post a b shows false e f = inl (ap not f)

protect_fate : (task : Task) (desk : Desk) (aim : Aim) (index : ℕ) (root : Root) (count : ℕ) (at : ProtectAt) (post : Post) (found : ℕ) → is_told (Protect aim index root count at) ≡ false → index ≡ 0 → is_end root ≡ true
    → Fate (steps.run_turn (Opens task) desk (machine.after (Protect aim index root count at) post found)) (base_shows is_rooting post (Protect aim index root count at) found)
protect_fate task desk aim index root count (PublishEra era tries) post found t i e = inl (ap not (trying_early aim index root (bump count) post.layout.config era tries))
protect_fate task desk aim index root count (CheckClock era tries link) post found t i e =
    check_fate task desk aim index root (bump count) link era post (Protect aim index root (bump count) (PublishEra found (failed_once tries))) (found == era) refl (held_rooting index root link (bump count) i e)
protect_fate task desk aim index root count (CheckOwnClock first era last link) post found t i e =
    either_fate task desk post (Protect aim index root (bump count) (AnswerOwn first era link)) (Protect aim index root (bump count) (lost_turn first last found)) false (found == era) refl (lost_early aim index root (bump count) first last found)
protect_fate task desk aim index root count (AnswerOwn first era link) post found t i e =
    either_fate task desk post (Protect aim index root (bump count) (TakeAnswer link era)) (Protect aim index root (bump count) (answer_in (read_request found))) false (found == own_request post index root) refl (answer_early aim index root (bump count) (read_request found))
protect_fate task desk aim index root count (LoadAnswer first) post found t i e = inl (ap not (answer_early aim index root (bump count) (read_request found)))
protect_fate task desk aim index root count (TakeAnswer link era) post found t i e = inr (held_rooting index root link (bump count) i e)
protect_fate task desk aim index root count (WithdrawRequest link era) post found t i e = absurd (cc)
protect_fate task desk aim index root count (WithdrawHelper link era) post found t i e = absurd (cc)
protect_fate task desk aim index root count (CheckUpper link) post found t i e =
    check_fate task desk aim index root (bump count) link found post (Protect aim index root (bump count) (RaiseUpper found)) (found == upper post.span) refl (held_rooting index root link (bump count) i e)
protect_fate task desk aim index root count (ByHazard FirstLink) post found t i e =
    check_fate task desk aim index root (bump count) found 0 post (Protect aim index root (bump count) (ByHazard (PublishLink found))) (found == 0) refl (held_rooting index root found (bump count) i e)
protect_fate task desk aim index root count (ByHazard (CheckLink link)) post found t i e =
    check_fate task desk aim index root (bump count) found 0 post (Protect aim index root (bump count) (ByHazard (PublishLink found))) (found == link || found == 0) refl (held_rooting index root found (bump count) i e)
protect_fate task desk aim index root count at post found t i e = inl refl

opens_fate : (buckets : ℕ) (task : Task) (desk : Desk) (base : Base) (post : Post) (found : ℕ) → suits base ToOpen ≡ true → Shaped buckets (Opens task) base → is_told base ≡ false → index_of task ≡ 0
    → Fate (steps.run_turn (Opens task) desk (machine.after base post found)) (base_shows is_rooting post base found)
opens_fate buckets task desk (Begin LoadLower) post found s h t z = inl refl
opens_fate buckets task desk (Begin (PublishSpan era)) post found s h t z = inl (opening_early task (machine.after (Begin (PublishSpan era)) post found).post)
opens_fate buckets task desk (Protect aim index root count at) post found s h t z =
    protect_fate task desk aim index root count at post found t (h.at ∙ z) (ap is_end h.of ∙ task_end buckets task)
opens_fate buckets task desk base post found s h t z = absurd (cc)

-- the index of a task whose call has a root
hold_none : (call : Call) (key : ℕ) → call ≡ names.Hold key → has_root (Some call) ≡ true → ⊥
hold_none call key c h = let q : has_root (Some (names.Hold key)) ≡ true = subst (λ (x : Call). has_root (Some x) ≡ true) c h in cc

index_zero : (call : Call) (task : Task) → TaskServes call task → has_root (Some call) ≡ true → index_of task ≡ 0
index_zero call (Gets key) s h = refl
index_zero call (Changes kept) s h = refl
index_zero call (Holds key) s h = absurd (hold_none call key s h)
index_zero call (Enqueues kept) s h = refl
index_zero call Dequeues s h = refl

-- the phase's machine is run for what it is run for
abbrev pub RunFits : ℕ → Phase → Type 0
RunFits buckets (Runs why base) = (suits base (kind_of why) ≡ true) × Shaped buckets why base
RunFits buckets phase = Unit {0}

pub phase_fate : (buckets : ℕ) (call : Call) (phase : Phase) (post : Post) (desk : Desk) (found : ℕ) → is_early phase ≡ true → RunFits buckets phase → Serves call phase → has_root (Some call) ≡ true → Fate (steps.phase_turn phase post desk found) (phase_shows is_rooting post phase found)
phase_fate buckets call (Runs (Opens task) base) post desk found e r s h = opens_fate buckets task desk base post found r.0 r.1 (false_of_not (is_told base) e) (index_zero call task s h)
phase_fate buckets call phase post desk found e r s h = absurd (cc)

-- a round begins early
span_early : (task : Task) (post : Post) (x : Option Interval) → is_early (round_by task post (begin_span x)) ≡ true
span_early task post None = refl
span_early task post (Some span) = opening_early task post

begin_early : (task : Task) (post : Post) (scheme : SchemeKind) → is_early (round_by task post (begin_base scheme post)) ≡ true
begin_early task post He = opening_early task post
begin_early task post Hp = opening_early task post
begin_early task post Ibr = span_early task post post.span
begin_early task post Wfe = opening_early task post

pub first_early : (call : Call) (post : Post) → has_root (Some call) ≡ true → is_early (steps.first_phase call post) ≡ true
first_early (names.Get key) post h = begin_early _ post (scheme_of post)
first_early (names.Put key value) post h = begin_early _ post (scheme_of post)
first_early (names.PutIf key value version) post h = begin_early _ post (scheme_of post)
first_early (names.Remove key) post h = begin_early _ post (scheme_of post)
first_early (names.Enqueue value) post h = begin_early _ post (scheme_of post)
first_early names.Dequeue post h = begin_early _ post (scheme_of post)
first_early (names.Hold key) post h = absurd (cc)
first_early names.Release post h = absurd (cc)
first_early names.Advance post h = absurd (cc)
first_early names.Scan post h = absurd (cc)
first_early (names.Copy from index) post h = absurd (cc)
first_early (names.DropIndex index) post h = absurd (cc)
first_early (names.Look index key) post h = absurd (cc)
first_early names.Leave post h = absurd (cc)
first_early (names.Adopt place) post h = absurd (cc)
