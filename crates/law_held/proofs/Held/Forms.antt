-- In which order a step tells what changes guards and lives, and what stands.
use Rattle.std.proofs.Common.{ℕ, ◌≡◌, ◌+◌, ◌%◌, Bool, true, false, List, [], ◌∷◌, ◌++◌, Option, Some, None, refl, sym, ap, ◌∙◌, subst}
use Rattle.std.specs.Prelude.{◌==◌, not, if◌then◌else◌}
use Rattle.law_scans.specs.inv.model.words.declared.config.SchemeKind.{SchemeKind}
use Rattle.law_scans.specs.inv.model.words.declared.config.SchemeKind.TheVariants.{He, Hp, Ibr, Wfe}
use Rattle.law_scans.specs.inv.model.words.declared.layout.Layout.{Layout}
use Rattle.law_scans.specs.inv.model.defs.declared.call.Answer.{Answer}
use Rattle.law_scans.specs.inv.model.defs.declared.event.Event.{Event}
use Rattle.law_scans.specs.inv.model.defs.declared.event.Event.TheVariants as events
use Rattle.law_scans.specs.inv.model.defs.declared.event.Root.{Root}
use Rattle.law_scans.specs.inv.model.declared.post.Post.{Post}
use Rattle.law_scans.specs.inv.model.Allocate as allocates
use Rattle.law_scans.specs.inv.model.Desks.{Desk, with_life}
use Rattle.law_scans.specs.inv.model.Keep as keeps
use Rattle.law_scans.specs.inv.model.Locals.{told_by, told_end}
use Rattle.law_scans.specs.inv.model.Machine as machine
use Rattle.law_scans.specs.inv.model.Memory.{bump}
use Rattle.law_scans.specs.inv.model.Posts.{upper}
use Rattle.law_scans.specs.inv.model.Protect as protects
use Rattle.law_scans.specs.inv.model.Protect.{told_held}
use Rattle.law_scans.specs.inv.model.Rounds.{scheme_of, taken_of, clear_told, given_up, closed}
use Rattle.law_scans.specs.inv.model.Scan as scan
use Rattle.law_scans.specs.inv.model.SlowPath.{own_request}
use Rattle.law_scans.specs.inv.model.Steps as steps
use Rattle.law_scans.specs.inv.model.WriteRow.{last_written}
use Rattle.law_scans.specs.inv.model.Phases.{Aim, BeginAt, ProtectAt, AllocateAt, Walk, Base, Ending, Outcome, Goes, Ends, Turn, goes}
use Rattle.law_scans.specs.inv.model.Phases.BeginAt.{LoadLower, PublishSpan}
use Rattle.law_scans.specs.inv.model.Phases.ProtectAt.{PublishEra, CheckClock, PublishHelper, CheckOwnClock, AnswerOwn, TakeAnswer, WithdrawHelper, CheckUpper, RaiseUpper, ByHazard}
use Rattle.law_scans.specs.inv.model.Phases.AllocateAt.{LoadBirth, ClaimSlot, StoreLife}
use Rattle.law_scans.specs.inv.model.Phases.Base.{Begin, Protect, Reload, Clear, Allocate, Write}
use Rattle.law_scans.specs.inv.model.Phases.Ending.{Done, Protected, Followed, Allocated, Retired, Clocked}
use Rattle.law_scans.specs.inv.model.Calls.{Task, Next, Again, MakeRoom, Answering, Retiring, AfterScan, Answered, Repeated, Counted, Why, Opens, FollowsHead, Fills, ClearsNext, Clears, Finishes, GivesUp, Retires, Tidies, Advances, Releases, LetGo, Released, Rehold, Dropped, Parting, GiveBack, Runs, Scans, CallTurn, CallOutcome, GoesOn, Answers}
use Rattle.law_scans.proofs.inv.model.Facts.{first_of, rest_of, false_not_true}
use Rattle.law_scans.proofs.reuse.history.MayTell as may
use Rattle.law_scans.proofs.reuse.history.MayTell.{concluded_told, Silent, Single, Takes, takes, shape_of, held_any}
use Rattle.law_scans.specs.inv.model.words.Schemes.{is_ibr, publishes_rows}
use Rattle.law_scans.specs.inv.shapes.Seats.{Run, ToClear, suits, protect_fits, agree}
use Rattle.law_scans.proofs.reuse.history.AllOf.{all_of, of_along}
use Rattle.law_scans.proofs.reuse.history.Passes.{is_quiet, all_quiet, Closed, step_goes}
use Rattle.law_held.proofs.Held.Flat.{is_flat, is_settled}
use Rattle.law_scans.proofs.inv.Contents.Stands.Rounds.{is_clear}
use Rattle.law_scans.proofs.reuse.Lawful.Gots.{cleared_table}
use Rattle.law_scans.proofs.inv.requests.Paced.{wfe_not_ibr}
use Rattle.law_scans.proofs.inv.model.words.Schemes.{interval_not_rows}

-- rows are cleared, and last comes one event
pub record Last (own : List Event) : Type 0 where
  pub first : List Event
  pub event : Event
  pub is : own ≡ first ++ event ∷ []
  pub clears : all_of is_clear first ≡ true

-- nothing of guards and lives is told, or so
pub data Form (own : List Event) : Type 0 where
  Flat : all_of is_flat own ≡ true → Form own
  Final : Last own → Form own

single : (event : Event) → Form (event ∷ [])
single event = Final (record { first = []; event = event; is = refl; clears = refl })

held_flat : (index : ℕ) (root : Root) (link n : ℕ) → all_of is_flat (told_held index root link n) ≡ true
held_flat index root link n = held_any (λ told. all_of is_flat told ≡ true) index root link n refl refl (λ slot. refl)

-- only where an answer is taken does more come after what is told of a guard
shape_form : (base : Base) (post : Post) (found : ℕ) (told : List Event) → may.Shape base post found told → takes base ≡ false → Form told
shape_form base post found told (Silent e) t = rw e (Flat refl)
shape_form base post found told (Single event e a) t = rw e (single event)
shape_form base post found told (may.Shape.Clears index slot guard e a b) t = Final (record { first = events.Clear index slot ∷ []; event = events.Reserve guard None; is = e; clears = refl })
shape_form base post found told (may.Shape.Drops index slot guard e a b) t = Final (record { first = events.Clear index slot ∷ []; event = events.Hazard guard None; is = e; clears = refl })
shape_form base post found told (Takes guard span event e k f a b) t = absurd (false_not_true (takes base) t k)

pub base_form : (base : Base) (post : Post) (found : ℕ) → takes base ≡ false → Form (machine.after base post found).told
base_form base post found t = shape_form base post found (machine.after base post found).told (shape_of base post found) t

-- what a step tells after its machine: nothing of guards, lives and what stands
pub record Settled (own told : List Event) : Type 0 where
  pub more : List Event
  pub is : told ≡ own ++ more
  pub calm : all_of is_settled more ≡ true

append_none : (xs : List Event) → xs ≡ xs ++ []
append_none [] = refl
append_none (x ∷ xs) = ap (λ (rest : List Event). x ∷ rest) (append_none xs)

append_assoc : (xs ys zs : List Event) → (xs ++ ys) ++ zs ≡ xs ++ (ys ++ zs)
append_assoc [] ys zs = refl
append_assoc (x ∷ xs) ys zs = ap (λ (rest : List Event). x ∷ rest) (append_assoc xs ys zs)

-- but under 2GE
quiet_settled : (es : List Event) → all_quiet es ≡ true → all_of is_settled es ≡ true
quiet_settled [] h = refl
quiet_settled (event ∷ es) h =
    let a : is_settled event ≡ true = one event (first_of (is_quiet event) (all_quiet es) h) in
    let b : all_of is_settled es ≡ true = quiet_settled es (rest_of (is_quiet event) (all_quiet es) h) in rw (a, b) refl
  where
    one : (event : Event) → is_quiet event ≡ true → is_settled event ≡ true
    one (events.Reserve guard span) q = absurd (cc)
    one (events.Hazard guard slot) q = absurd (cc)
    one (events.Give slot birth) q = absurd (cc)
    one (events.Unused slot) q = absurd (cc)
    one (events.Retire slot birth retire) q = absurd (cc)
    one (events.Back slot) q = absurd (cc)
    one (events.Held index slot steps) q = absurd (cc)
    one (events.Copied from index slot) q = absurd (cc)
    one (events.Clear index slot) q = absurd (cc)
    one event q = refl

abbrev Onto : List Event → Post → List Event → Type 0
Onto own post told = (is_ibr (scheme_of post) ≡ false) × Settled own told

clear_none : (scheme : SchemeKind) (post : Post) (index : ℕ) → is_ibr scheme ≡ false → clear_told scheme post index ≡ []
clear_none He post index h = refl
clear_none Ibr post index h = absurd (cc)
clear_none Wfe post index h = refl
clear_none Hp post index h = refl

onto_closed : (own : List Event) → Closed (Onto own)
onto_closed own = record {
  calm = λ post told more q h.
      let s = h.1 in
      (h.0, record { more = s.more ++ more; is = ap (λ (es : List Event). es ++ more) s.is ∙ append_assoc own s.more more; calm = of_along is_settled s.more more s.calm (quiet_settled more q) });
  clears = λ post told index h.
      let s = h.1 in (
        ap (λ (x : Layout). is_ibr x.config.scheme) (cleared_table (scheme_of post) post index) ∙ h.0,
        record { more = s.more; is = ap (λ (es : List Event). told ++ es) (clear_none (scheme_of post) post index h.0) ∙ sym (append_none told) ∙ s.is; calm = s.calm },
      );
}

none_more : (own : List Event) → Settled own own
none_more own = record { more = []; is = append_none own; calm = refl }

pub plain_settled : (why : Why) (base : Base) (post : Post) (desk : Desk) (found : ℕ) → is_ibr (scheme_of (machine.after base post found).post) ≡ false → Settled (machine.after base post found).told (told_by (steps.phase_turn (Runs why base) post desk found))
plain_settled why base post desk found n =
    let h = step_goes (Onto (machine.after base post found).told) (onto_closed (machine.after base post found).told) (Runs why base) post desk found (n, none_more (machine.after base post found).told) in h.1

-- where nothing is cleared any more
pub end_settled : (post : Post) (outcome : CallOutcome) → all_of is_settled (told_end post outcome) ≡ true
end_settled post (GoesOn phase) = refl
end_settled post (Answers answer) = refl

pub turn_settled : (own : List Event) (t : CallTurn) → t.told ≡ own → Settled own (told_by t)
turn_settled own t e = record { more = told_end t.post t.outcome; is = ap (λ (es : List Event). es ++ told_end t.post t.outcome) e; calm = end_settled t.post t.outcome }

given_up_told : (answer : Answer) (post : Post) (desk : Desk) (told : List Event) (x : Option ℕ) → (given_up answer post desk told x).told ≡ told
given_up_told answer post desk told None = refl
given_up_told answer post desk told (Some slot) = refl

closed_told : (task : Task) (next : Next) (post : Post) (desk : Desk) (told : List Event) → (closed task next post desk told).told ≡ told
closed_told task Again post desk told = refl
closed_told task MakeRoom post desk told = refl
closed_told task (Answering answer) post desk told = given_up_told answer post desk told (taken_of task)
closed_told task (Retiring slot answer) post desk told = refl

tidying_told : (answer : Answer) (post : Post) (desk : Desk) (told : List Event) (due : Bool) → (steps.tidying answer post desk told due).told ≡ told
tidying_told answer post desk told true = refl
tidying_told answer post desk told false = refl

retired_told : (answer : Answer) (ending : Ending) (post : Post) (desk : Desk) (told : List Event) → (steps.retired_by answer ending post desk told).told ≡ told
retired_told answer (Retired life) post desk told = tidying_told answer post (with_life desk life) told (post.retired % post.layout.config.every == 0)
retired_told answer Done post desk told = refl
retired_told answer (Protected end) post desk told = refl
retired_told answer (Followed end) post desk told = refl
retired_told answer (Allocated end) post desk told = refl
retired_told answer (Clocked clock) post desk told = refl

tidied_told : (later : AfterScan) (ending : Ending) (post : Post) (desk : Desk) (told : List Event) → (steps.tidied later ending post desk told).told ≡ told
tidied_told later (Clocked clock) post desk told = refl
tidied_told later Done post desk told = refl
tidied_told later (Protected end) post desk told = refl
tidied_told later (Followed end) post desk told = refl
tidied_told later (Allocated end) post desk told = refl
tidied_told later (Retired life) post desk told = refl

advanced_told : (ending : Ending) (post : Post) (desk : Desk) (told : List Event) → (steps.advanced ending post desk told).told ≡ told
advanced_told (Clocked clock) post desk told = refl
advanced_told Done post desk told = refl
advanced_told (Protected end) post desk told = refl
advanced_told (Followed end) post desk told = refl
advanced_told (Allocated end) post desk told = refl
advanced_told (Retired life) post desk told = refl

released_told : (let_go : LetGo) (post : Post) (desk : Desk) (told : List Event) → (keeps.released let_go post desk told).told ≡ told
released_told Released post desk told = refl
released_told (Rehold key) post desk told = refl
released_told (Dropped index) post desk told = refl
released_told (Parting index) post desk told = refl

abbrev is_shut : Why → Bool
is_shut (Opens task) = false
is_shut (FollowsHead head tail) = false
is_shut (Fills task) = false
is_shut (ClearsNext next) = false
is_shut (Clears task next) = false
is_shut (Finishes task next) = true
is_shut (GivesUp answer) = true
is_shut (Retires answer) = true
is_shut (Tidies later) = true
is_shut Advances = true
is_shut (Releases let_go) = true

shut_resume : (why : Why) (ending : Ending) (post : Post) (desk : Desk) (told : List Event) → is_shut why ≡ true → (steps.resume why ending post desk told).told ≡ told
shut_resume (Finishes task next) ending post desk told h = closed_told task next post desk told
shut_resume (GivesUp answer) ending post desk told h = refl
shut_resume (Retires answer) ending post desk told h = retired_told answer ending post desk told
shut_resume (Tidies later) ending post desk told h = tidied_told later ending post desk told
shut_resume Advances ending post desk told h = advanced_told ending post desk told
shut_resume (Releases let_go) ending post desk told h = released_told let_go post desk told
shut_resume why ending post desk told h = absurd (cc)

shut_told : (why : Why) (desk : Desk) (post : Post) (told : List Event) (outcome : Outcome) → is_shut why ≡ true → (steps.resumed why desk post told outcome).told ≡ told
shut_told why desk post told (Goes base) h = refl
shut_told why desk post told (Ends ending) h = shut_resume why ending post desk told h

shut_settled : (why : Why) (base : Base) (post : Post) (desk : Desk) (found : ℕ) → is_shut why ≡ true → Settled (machine.after base post found).told (told_by (steps.phase_turn (Runs why base) post desk found))
shut_settled why base post desk found h =
    turn_settled (machine.after base post found).told (steps.phase_turn (Runs why base) post desk found) (shut_told why desk (machine.after base post found).post (machine.after base post found).told (machine.after base post found).outcome h)

-- what a step tells: of guards and lives nothing; or rows are cleared, then one event comes, and then nothing of what stands
pub data Shape (own told : List Event) : Type 0 where
  Even : all_of is_flat own ≡ true → Shape own told
  Late : Last own → Settled own told → Shape own told

pub shaped : (own told : List Event) → Form own → Settled own told → Shape own told
shaped own told (Flat f) s = Even f
shaped own told (Final l) s = Late l s

if_shape : (why : Why) (desk : Desk) (c : Bool) (t u : Turn) → Shape t.told (told_by (steps.run_turn why desk t)) → Shape u.told (told_by (steps.run_turn why desk u)) → Shape (if c then t else u).told (told_by (steps.run_turn why desk (if c then t else u)))
if_shape why desk true t u a b = a
if_shape why desk false t u a b = b

abbrev Shapes : Why → Desk → Turn → Type 0
Shapes why desk t = Shape t.told (told_by (steps.run_turn why desk t))

one_shape : (why : Why) (desk : Desk) (event : Event) (t : Turn) → t.told ≡ event ∷ [] → (steps.run_turn why desk t).told ≡ t.told → Shapes why desk t
one_shape why desk event t e h = Late (record { first = []; event = event; is = e; clears = refl }) (turn_settled t.told (steps.run_turn why desk t) h)

held_shape : (why : Why) (desk : Desk) (aim : Aim) (index : ℕ) (root : Root) (n link era : ℕ) (post : Post) → Shapes why desk (protects.protected aim index root n link era post)
held_shape why desk aim index root n link era post = Even (subst (λ (es : List Event). all_of is_flat es ≡ true) (sym (concluded_told aim index root n link era (protects.held_post post index root link) (told_held index root link n))) (held_flat index root link n))

protect_shape : (scheme : SchemeKind) (most : ℕ) (why : Why) (desk : Desk) (aim : Aim) (index : ℕ) (root : Root) (made n : ℕ) (at : ProtectAt) (post : Post) (found : ℕ) → protect_fits scheme most at ≡ true → is_ibr scheme ≡ true → takes (Protect aim index root made at) ≡ false → Shapes why desk (machine.protect_turn aim index root n at post found)
protect_shape scheme most why desk aim index root made n (PublishEra era tries) post found f i t = one_shape why desk _ (machine.protect_turn aim index root n (PublishEra era tries) post found) refl refl
protect_shape scheme most why desk aim index root made n (CheckClock era tries link) post found f i t = if_shape why desk (found == era) _ _ (held_shape why desk aim index root n link era post) (Even refl)
protect_shape scheme most why desk aim index root made n (PublishHelper first era last) post found f i t = one_shape why desk _ (machine.protect_turn aim index root n (PublishHelper first era last) post found) refl refl
protect_shape scheme most why desk aim index root made n (CheckOwnClock first era last link) post found f i t = if_shape why desk (found == era) _ _ (Even refl) (Even refl)
protect_shape scheme most why desk aim index root made n (AnswerOwn first era link) post found f i t = if_shape why desk (found == own_request post index root) _ _ (Even refl) (Even refl)
protect_shape scheme most why desk aim index root made n (TakeAnswer link era) post found f i t = absurd (cc)
protect_shape scheme most why desk aim index root made n (WithdrawHelper link era) post found f i t = absurd (wfe_not_ibr scheme f i)
protect_shape scheme most why desk aim index root made n (CheckUpper link) post found f i t = if_shape why desk (found == upper post.span) _ _ (held_shape why desk aim index root n link found post) (Even refl)
protect_shape scheme most why desk aim index root made n (RaiseUpper era) post found f i t = one_shape why desk _ (machine.protect_turn aim index root n (RaiseUpper era) post found) refl refl
protect_shape scheme most why desk aim index root made n (ByHazard at) post found f i t = absurd (false_not_true (publishes_rows scheme) (interval_not_rows scheme i) f)
protect_shape scheme most why desk aim index root made n at post found f i t = Even refl

walking_shape : (why : Why) (desk : Desk) (birth : ℕ) (post : Post) (x : Option Walk) → Shapes why desk (allocates.walking birth post x)
walking_shape why desk birth post None = Even refl
walking_shape why desk birth post (Some walk) = Even refl

allocate_shape : (why : Why) (desk : Desk) (at : AllocateAt) (post : Post) (found : ℕ) → Shapes why desk (machine.allocate_turn at post found)
allocate_shape why desk LoadBirth post found = Even refl
allocate_shape why desk (ClaimSlot birth walk) post found =
    if_shape why desk (allocates.is_claimed found walk.slot) _ _ (walking_shape why desk birth post (allocates.walk_past post.layout.config.slots walk found)) (one_shape why desk (events.Give walk.slot birth) (goes (record post { cursor = allocates.next_slot post.layout.config.slots walk.slot }) (events.Give walk.slot birth ∷ []) (Allocate (StoreLife birth walk.slot))) refl refl)
allocate_shape why desk (StoreLife birth slot) post found = Even refl

begin_shape : (task : Task) (desk : Desk) (at : BeginAt) (post : Post) (found : ℕ) → Shapes (Opens task) desk (machine.begin_turn at post found)
begin_shape task desk LoadLower post found = Even refl
begin_shape task desk (PublishSpan era) post found = one_shape (Opens task) desk _ (machine.begin_turn (PublishSpan era) post found) refl refl

no_ibr : (b : Bool) → not b ≡ true → b ≡ true → ⊥
no_ibr true h i = cc
no_ibr false h i = cc

open_shape : (layout : Layout) (task : Task) (base : Base) (last post : Post) (desk : Desk) (found : ℕ) → Run layout (Opens task) base last → is_ibr layout.config.scheme ≡ true → takes base ≡ false → Shapes (Opens task) desk (machine.after base post found)
open_shape layout task (Begin at) last post desk found r i t = begin_shape task desk at post found
open_shape layout task (Protect aim index root made at) last post desk found r i t = protect_shape layout.config.scheme layout.config.tries (Opens task) desk aim index root made (bump made) at post found r.fits i t
open_shape layout task base last post desk found r i t = let s = r.suited in absurd (cc)

follow_shape : (layout : Layout) (head tail : ℕ) (base : Base) (last post : Post) (desk : Desk) (found : ℕ) → Run layout (FollowsHead head tail) base last → is_ibr layout.config.scheme ≡ true → takes base ≡ false → Shapes (FollowsHead head tail) desk (machine.after base post found)
follow_shape layout head tail (Protect aim index root made at) last post desk found r i t = protect_shape layout.config.scheme layout.config.tries (FollowsHead head tail) desk aim index root made (bump made) at post found r.fits i t
follow_shape layout head tail (Reload parent index slot era made) last post desk found r i t = if_shape (FollowsHead head tail) desk (found == parent + 1) _ _ (Even refl) (Even refl)
follow_shape layout head tail base last post desk found r i t = let s = r.suited in absurd (cc)

fill_shape : (layout : Layout) (task : Task) (base : Base) (last post : Post) (desk : Desk) (found : ℕ) → Run layout (Fills task) base last → Shapes (Fills task) desk (machine.after base post found)
fill_shape layout task (Allocate at) last post desk found r = allocate_shape (Fills task) desk at post found
fill_shape layout task (Write slot row place) last post desk found r = if_shape (Fills task) desk (place == last_written row) _ _ (Even refl) (Even refl)
fill_shape layout task base last post desk found r = let s = r.suited in absurd (cc)

clear_shape : (layout : Layout) (why : Why) (base : Base) (last post : Post) (desk : Desk) (found : ℕ) → Run layout why base last → suits base ToClear ≡ true → is_ibr layout.config.scheme ≡ true → Shapes why desk (machine.after base post found)
clear_shape layout why (Clear rows index) last post desk found r s i = absurd (no_ibr (is_ibr layout.config.scheme) (first_of (not (is_ibr layout.config.scheme)) (agree rows (publishes_rows layout.config.scheme)) r.fits) i)
clear_shape layout why base last post desk found r s i = absurd (cc)

ibr_shape : (layout : Layout) (why : Why) (base : Base) (last post : Post) (desk : Desk) (found : ℕ) → Run layout why base last → is_ibr layout.config.scheme ≡ true → takes base ≡ false → Shapes why desk (machine.after base post found)
ibr_shape layout (Opens task) base last post desk found r i t = open_shape layout task base last post desk found r i t
ibr_shape layout (FollowsHead head tail) base last post desk found r i t = follow_shape layout head tail base last post desk found r i t
ibr_shape layout (Fills task) base last post desk found r i t = fill_shape layout task base last post desk found r
ibr_shape layout (ClearsNext next) base last post desk found r i t = clear_shape layout (ClearsNext next) base last post desk found r r.suited i
ibr_shape layout (Clears task next) base last post desk found r i t = clear_shape layout (Clears task next) base last post desk found r r.suited i
ibr_shape layout why base last post desk found r i t = shaped _ _ (base_form base post found t) (shut_settled why base post desk found refl)

-- of each machine
run_by : (layout : Layout) (why : Why) (base : Base) (last post : Post) (desk : Desk) (found : ℕ) (ibr : Bool) → is_ibr layout.config.scheme ≡ ibr → (machine.after base post found).post.layout ≡ layout → Run layout why base last → takes base ≡ false → Shapes why desk (machine.after base post found)
run_by layout why base last post desk found true i e r t = ibr_shape layout why base last post desk found r i t
run_by layout why base last post desk found false i e r t =
    shaped _ _ (base_form base post found t) (plain_settled why base post desk found (ap (λ (x : Layout). is_ibr x.config.scheme) e ∙ i))

pub run_shape : (layout : Layout) (why : Why) (base : Base) (last post : Post) (desk : Desk) (found : ℕ) → (machine.after base post found).post.layout ≡ layout → Run layout why base last → takes base ≡ false → Shape (machine.after base post found).told (told_by (steps.phase_turn (Runs why base) post desk found))
run_shape layout why base last post desk found e r t = run_by layout why base last post desk found (is_ibr layout.config.scheme) refl e r t

-- of a scan
scanned_told : (later : AfterScan) (post : Post) (desk : Desk) (told : List Event) → (scan.scanned later post desk told).told ≡ told
scanned_told (Answered answer) post desk told = refl
scanned_told (Repeated task) post desk told = refl
scanned_told Counted post desk told = refl

back_told : (later : AfterScan) (post : Post) (desk : Desk) (told : List Event) (x : Option scan.Entry) → (scan.giving_back later post desk told x).told ≡ told
back_told later post desk told None = scanned_told later post (scan.with_kept desk) told
back_told later post desk told (Some entry) = refl

pub back_shape : (later : AfterScan) (place slot : ℕ) (post : Post) (desk : Desk) (found : ℕ) → Shape (events.Back slot ∷ []) (told_by (steps.phase_turn (Scans later (GiveBack place slot)) post desk found))
back_shape later place slot post desk found =
    Late (record { first = []; event = events.Back slot; is = refl; clears = refl })
    (turn_settled (events.Back slot ∷ []) (scan.giving_back later post (scan.with_back desk place) (events.Back slot ∷ []) (scan.unmet_from (scan.with_back desk place) place)) (back_told later post (scan.with_back desk place) (events.Back slot ∷ []) (scan.unmet_from (scan.with_back desk place) place)))
