-- How a get ends under 2GE, where its seat holds no row.
use Rattle.std.proofs.Common.{Bool, List, None, Option, Some, [], ap, arith, refl, sym, true, ℕ, ◌+◌, ◌-◌, ◌++◌, ◌==◌, ◌∙◌, ◌∷◌, ◌≡◌, drop, if◌then◌else◌, slice_set}
use Rattle.std.proofs.lemmas.Bool.{eq-eqb}
use Rattle.wfe_core.specs.words.Schemes.{has_one_interval, publishes_rows}
use Rattle.wfe_core.specs.words.declared.config.SchemeKind.{SchemeKind}
use Rattle.wfe_core.specs.words.declared.config.SchemeKind.TheVariants.{Ibr}
use Rattle.wfe_core.specs.words.Place.Place.{Clock, Interval as IntervalWord}
use Rattle.wfe_core.specs.defs.declared.call.Answer.{Answer}
use Rattle.wfe_core.specs.defs.declared.call.Answer.TheVariants as answers
use Rattle.wfe_core.specs.defs.declared.call.Call.TheVariants as calls_named
use Rattle.wfe_core.specs.defs.declared.event.Event.{Event}
use Rattle.wfe_core.specs.defs.declared.event.Event.TheVariants as events
use Rattle.wfe_core.specs.defs.declared.event.Root.{Root}
use Rattle.wfe_core.specs.defs.declared.event.Root.TheVariants as roots
use Rattle.wfe_core.specs.defs.declared.lifetime.Interval.{Interval}
use Rattle.wfe_core.specs.Calls.{Answering, Finishes, Gets, Idle, Opens, Phase, Runs, Task}
use Rattle.wfe_core.specs.DeskHeld.{desk_of}
use Rattle.wfe_core.specs.Desks.{Desk, Notes, noted_all}
use Rattle.wfe_core.specs.Get.{got}
use Rattle.wfe_core.specs.Locals.{Local}
use Rattle.wfe_core.specs.Memory.{Load, Store}
use Rattle.wfe_core.specs.Phases.Base.{Clear, Finish}
use Rattle.wfe_core.specs.Phases.BeginAt.{LoadLower, PublishSpan}
use Rattle.wfe_core.specs.Phases.ProtectAt.{LoadWithin}
use Rattle.wfe_core.specs.Spans.{eras_word}
use Rattle.wfe_core.specs.Steps.{first_phase}
use Rattle.wfe_core.specs.declared.desk.Desk.{Desk as HeldDesk}
use Rattle.wfe_core.specs.declared.op.Op.{Op}
use Rattle.wfe_core.specs.Posts.{cleared, stands, withdrawn}
use Rattle.wfe_core.specs.Rounds.{begin_span, begin_where, bucket_of, clearing_by, finish_base, finish_span, finishing_by, first_row, kept_row, protect_base, root_of, round_by, scheme_of}
use Rattle.wfe_core.specs.declared.post.Post.{Post}
use Rattle.wfe_drive_cells.specs.Unit.{SeatView, kept_desk, seat_after}
use Rattle.wfe_drive_words.specs.Called.{Here, at_phase}
use Rattle.wfe_drive_words.specs.declared.found.Found.{Found}
use Rattle.wfe_drive_words.specs.declared.protect.Guarded.{Guarded}
use Rattle.wfe_drive_words.specs.Path.{AsksFor, Closes, Leads, StepFrom, StepsOn, asking_trial, beginning_at, begun_at, ending_at, found_at, get_trial, held_at, held_reader, protecting, read_post, spanned, within_at}
use Rattle.wfe_drive_words.proofs.Getting.{held_by, post-cleared, scheme-stays, standing_by}
use Rattle.wfe_drive_words.proofs.Leading.{closes_as, here_on, leads_as, then_leads}
use Rattle.wfe_drive_cells.specs.Spots.{spotted}
use Rattle.wfe_drive_cells.specs.declared.located.Located.{Located}

-- what was cleared is not noted
cleared-noted : (notes : Notes) (stood : Option ℕ) → noted_all notes (cleared 0 stood ++ []) ≡ notes
cleared-noted notes None = refl
cleared-noted notes (Some slot) = refl

-- the interval is to end
abbrev pub ends_at : ℕ → (version : ℕ) → Option ℕ → Post → Desk → SeatView
ends_at key version value post desk = record { phase = Runs (Finishes (Gets key) (Answering (answers.Got version value))) Finish; post = post; desk = kept_desk desk }

pub got_ends : (key version : ℕ) (value : Option ℕ) (post : Post) (desk : Desk) (told : List Event) → has_one_interval (scheme_of post) ≡ true → kept_row (withdrawn post 0) ≡ None
    → noted_all desk.notes (told ++ events.Got (bucket_of post key) version key value ∷ [] ++ cleared 0 (stands post 0) ++ []) ≡ desk.notes
    → seat_after (got key version value post desk told) ≡ ends_at key version value (withdrawn post 0) desk
got_ends key version value post desk told one free quiet =
    let answer : Answer = answers.Got version value in
    let first : List Event = told ++ events.Got (bucket_of post key) version key value ∷ [] in
    let left : Post = withdrawn post 0 in
    let more : List Event = first ++ cleared 0 (stands post 0) in
    let clears : Bool → SeatView = λ b. seat_after (clearing_by (Gets key) (Answering answer) post desk first (if b then None else Some (Clear (publishes_rows (scheme_of post)) 0))) in
    let closed : Bool → Post = λ b. if b then left else post in
    let closes : Bool → SeatView = λ b. seat_after (finishing_by (Gets key) (Answering answer) (closed b) desk (first ++ (if b then cleared 0 (stands post 0) else [])) (finish_base (scheme_of (closed b)) (closed b))) in
    let finishes : Bool → SeatView = λ b. seat_after (finishing_by (Gets key) (Answering answer) left desk more (if b then finish_span (kept_row left) else None)) in
    let last : Option ℕ → SeatView = λ held. seat_after (finishing_by (Gets key) (Answering answer) left desk more (finish_span held)) in
    ap clears one ∙ ap closes one ∙ ap finishes one ∙ ap last free ∙ ap (λ (notes : Notes). ends_at key version value left (record desk { notes = notes })) quiet

-- of a row that was read, or of none
kept-beside : (rows : List (Option ℕ)) → first_row (drop 2 (slice_set rows 0 None)) ≡ first_row (drop 2 rows)
kept-beside [] = refl
kept-beside (row ∷ rows) = refl

kept-left : (null : Bool) (post : Post) (slot steps : ℕ) → kept_row post ≡ None → kept_row (withdrawn (record (standing_by null post slot) { steps = steps }) 0) ≡ None
kept-left null post slot steps free = ap kept_row (post-cleared null post slot steps) ∙ kept-beside post.standing ∙ free

pub found_ends : (key : ℕ) (post : Post) (bucket link : ℕ) (desk : Desk) (steps : ℕ) (found : Found) → scheme_of post ≡ Ibr → kept_row post ≡ None
    → found_at key (held_reader post bucket link desk steps) found ≡ ending_at key post desk steps found
found_ends key post bucket link desk steps found kind free =
    let p : Post = read_post (held_reader post bucket link desk steps) found.steps in
    let one : has_one_interval (scheme_of p) ≡ true = ap has_one_interval (scheme-stays (link == 0) post (link - 1) ∙ kind) in
    got_ends key found.version found.value p (kept_desk desk) [] one (kept-left (link == 0) post (link - 1) (steps + found.steps) free) (cleared-noted desk.notes (stands p 0))
    ∙ ap (λ (q : Post). ends_at key found.version found.value q desk) (post-cleared (link == 0) post (link - 1) (steps + found.steps))

pub null_ends : (key : ℕ) (post : Post) (bucket link n era : ℕ) (desk : Desk) (steps : ℕ) → scheme_of post ≡ Ibr → kept_row post ≡ None → link ≡ 0
    → held_at (get_trial key desk 0) 0 (roots.Bucket bucket) n link era steps post ≡ ending_at key post desk steps (record { version = 0; value = None; steps = 0 })
null_ends key post bucket link n era desk steps kind free e =
    let p : Post = record post { steps = steps } in
    let test : (link == 0) ≡ true = eq-eqb link 0 e in
    let one : has_one_interval (scheme_of p) ≡ true = ap has_one_interval kind in
    let zero : steps ≡ steps + 0 = omega arith in
    ap (held_by key n (link - 1) era p (kept_desk desk)) test
    ∙ got_ends key 0 None p (kept_desk desk) (events.Null 0 n ∷ []) one (kept-left true post 0 steps free) (cleared-noted desk.notes (stands p 0))
    ∙ ap (λ (k : ℕ). ends_at key 0 None (record post { standing = slice_set post.standing 0 None; steps = k }) desk) zero

-- a get begins with an interval, and then protects its bucket's root
pub begins_span : (key : ℕ) (post : Post) (held : HeldDesk) → scheme_of post ≡ Ibr → post.span ≡ None → at_phase (first_phase (calls_named.Get key) post) post held ≡ beginning_at (Gets key) (desk_of held) post post.steps LoadLower
begins_span key post held kind free =
    let opens : Bool → Phase = λ one. round_by (Gets key) post (begin_where one post) in
    let spans : Option Interval → Phase = λ span. round_by (Gets key) post (begin_span span) in
    ap (λ (phase : Phase). at_phase phase post held) (ap opens (ap has_one_interval kind) ∙ ap spans free)

pub begun_protects : (key : ℕ) (post : Post) (desk : Desk) (steps era : ℕ) (root : Root) → scheme_of post ≡ Ibr → root ≡ root_of (Gets key) post
    → begun_at (Gets key) desk post steps era ≡ protecting (asking_trial key desk 0 steps) 0 root LoadWithin (spanned post era era)
begun_protects key post desk steps era root kind r =
    let protects : SchemeKind → Root → SeatView = λ scheme root. record { phase = Runs (Opens (Gets key)) (protect_base scheme 0 root); post = record (spanned post era era) { steps = steps }; desk = kept_desk desk } in
    ap (λ (scheme : SchemeKind). protects scheme (root_of (Gets key) post)) kind ∙ ap (protects Ibr) (sym r)

-- and where it has ended, its row is read
pub within_reads : (key : ℕ) (post : Post) (desk : Desk) (steps lo : ℕ) (root : Root) (n : ℕ) (guarded : Guarded) → root ≡ root_of (Gets key) post
    → within_at (asking_trial key desk 0 steps) 0 root lo post n guarded ≡ held_at (get_trial key desk 0) 0 (roots.Bucket (bucket_of post key)) n guarded.link guarded.era (steps + guarded.steps) (spanned post lo guarded.era)
within_reads key post desk steps lo root n guarded r = ap (λ (root : Root). held_at (get_trial key desk 0) 0 root n guarded.link guarded.era (steps + guarded.steps) (spanned post lo guarded.era)) r

-- the interval begins
pub lower_asks : {at : Local → Type 0} (task : Task) (desk : Desk) (post : Post) (steps : ℕ) (op : Located) → Here at (beginning_at task desk post steps LoadLower) → op ≡ spotted post.layout (Load Clock) → AsksFor at (beginning_at task desk post steps LoadLower) op
lower_asks task desk post steps op h o = record { here = h; busy = refl; is = o }

pub span_asks : {at0 at1 : Local → Type 0} {stands0 stands1 : List (Op × ℕ) → Type 0} (task : Task) (desk : Desk) (post : Post) (steps era : ℕ) (op0 op1 : Located) → Here at0 (beginning_at task desk post steps LoadLower) → op0 ≡ spotted post.layout (Load Clock)
    → StepFrom at0 at1 stands0 stands1 op0 era → op1 ≡ spotted post.layout (Store (IntervalWord post.seat) (eras_word era era)) → AsksFor at1 (beginning_at task desk post (steps + 1) (PublishSpan era)) op1
span_asks task desk post steps era op0 op1 h o0 s0 o1 = record { here = here_on h (s0 _ (lower_asks task desk post steps op0 h o0)).leads; busy = refl; is = o1 }

pub span_begun : {at0 at1 at2 : Local → Type 0} {stands0 stands1 stands2 : List (Op × ℕ) → Type 0} (task : Task) (desk : Desk) (post : Post) (steps era : ℕ) (op0 op1 : Located) (n : ℕ) → Here at0 (beginning_at task desk post steps LoadLower) → op0 ≡ spotted post.layout (Load Clock)
    → StepFrom at0 at1 stands0 stands1 op0 era → op1 ≡ spotted post.layout (Store (IntervalWord post.seat) (eras_word era era)) → StepFrom at1 at2 stands1 stands2 op1 n
    → Leads at0 at2 stands0 stands2 (beginning_at task desk post steps LoadLower) (begun_at task desk post (steps + 2) era)
span_begun task desk post steps era op0 op1 n h o0 s0 o1 s1 =
    let e : steps + 1 + 1 ≡ steps + 2 = omega arith in
    let first = (s0 _ (lower_asks task desk post steps op0 h o0)).leads in
    let second = (s1 _ (span_asks task desk post steps era op0 op1 h o0 s0 o1)).leads in
    leads_as _ _ (ap (λ (k : ℕ). begun_at task desk post k era) e) (then_leads first second)

-- and ends
pub finish_asks : {at : Local → Type 0} (key : ℕ) (post : Post) (desk : Desk) (steps : ℕ) (found : Found) (op : Located) → Here at (ending_at key post desk steps found) → op ≡ spotted post.layout (Store (IntervalWord post.seat) 0) → AsksFor at (ending_at key post desk steps found) op
finish_asks key post desk steps found op h o = record { here = h; busy = refl; is = o }

pub ended_by : {at0 at1 : Local → Type 0} {stands0 stands1 : List (Op × ℕ) → Type 0} (key : ℕ) (post : Post) (lo hi : ℕ) (held new : HeldDesk) (steps : ℕ) (found : Found) (n : ℕ)
    → desk_of new ≡ record (desk_of held) { notes = record (desk_of held).notes { steps = steps + found.steps + 1 } }
    → StepsOn at0 at1 stands0 stands1 (ending_at key (spanned post lo hi) (desk_of held) steps found) n
    → Closes (answers.Got found.version found.value) at0 at1 stands0 stands1 (ending_at key (spanned post lo hi) (desk_of held) steps found) (at_phase Idle (record post { standing = slice_set post.standing 0 None; span = None; steps = steps + found.steps + 1 }) new)
ended_by key post lo hi held new steps found n d s =
    let left : Post = record post { standing = slice_set post.standing 0 None; span = None; steps = steps + found.steps + 1 } in
    closes_as _ _ (ap (λ (desk : Desk). let v : SeatView = record { phase = Idle; post = left; desk = desk } in v) (sym d)) (s.closes (answers.Got found.version found.value) refl)

-- the steps of the protection and of the interval, in either order
pub steps_moved : (key : ℕ) (post : Post) (desk : Desk) (before steps : ℕ) (found : Found) → ending_at key post desk (before + 2 + steps) found ≡ ending_at key post desk (before + (steps + 2)) found
steps_moved key post desk before steps found =
    let e : before + 2 + steps ≡ before + (steps + 2) = omega arith in
    ap (λ (k : ℕ). ending_at key post desk k found) e
