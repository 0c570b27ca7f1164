-- Along a history it is known which helper words publish, and which have to be withdrawn.
use Rattle.law_reuse.specs.laws.words.Schemes.{is_ibr}
use Rattle.std.proofs.Common.{ℕ, ◌≡◌, ◌+◌, Bool, true, false, List, [], ◌∷◌, ◌++◌, refl, sym, ap, ◌∙◌, subst, arith, Option, Some, None}
use Rattle.std.proofs.lemmas.Bool.Decides.{nat_tests}
use Rattle.std.specs.Prelude.{◌==◌, nat_le, nat_lt, if◌then◌else◌, ◌||◌}
use Rattle.law_reuse.specs.laws.words.Packed.{reservation_word, read_reservation, read_request}
use Rattle.law_reuse.specs.laws.words.declared.packed.Request.{Request}
use Rattle.law_reuse.specs.laws.words.declared.packed.Request.TheVariants as requests
use Rattle.law_reuse.specs.laws.words.declared.config.Config.{Config}
use Rattle.law_reuse.specs.laws.words.declared.layout.Layout.{Layout}
use Rattle.law_reuse.specs.laws.defs.declared.call.Call.{Call}
use Rattle.law_reuse.specs.laws.defs.declared.event.Event.{Event}
use Rattle.law_reuse.specs.laws.defs.declared.event.Root.{Root}
use Rattle.law_reuse.specs.inv.model.declared.post.Post.{Post}
use Rattle.law_reuse.specs.inv.model.Allocate as allocates
use Rattle.law_reuse.specs.inv.model.Desks.{Desk}
use Rattle.law_reuse.specs.inv.model.Locals.{Local, busy_in, begun_post, told_by}
use Rattle.law_reuse.specs.inv.model.Machine as machine
use Rattle.law_reuse.specs.inv.model.Memory.{bump}
use Rattle.law_reuse.specs.inv.model.MoveClock as movers
use Rattle.law_reuse.specs.inv.model.Posts.{counted, upper, reserves_helper}
use Rattle.law_reuse.specs.inv.model.Protect as protects
use Rattle.law_reuse.specs.inv.model.SlowPath as slow
use Rattle.law_reuse.specs.inv.model.Steps as steps
use Rattle.law_reuse.specs.inv.model.WriteRow.{last_written}
use Rattle.law_reuse.specs.inv.model.World.{World, begin, finds, is_busy, offered, step, told_in}
use Rattle.law_reuse.specs.inv.model.Phases.{Aim, Alone, Follows, Tries, Endless, Failed, ProtectAt, MoveAt, Walk, Base, Turn, Outcome, Goes, Ends}
use Rattle.law_reuse.specs.inv.model.Phases.BeginAt.{LoadLower}
use Rattle.law_reuse.specs.inv.model.Phases.ProtectAt.{LoadClock, PublishEra, LoadLink, CheckClock, PublishRequest, PublishHelper, CheckOwnClock, AnswerOwn, LoadAnswer, WithdrawRequest, WithdrawHelper, LoadWithin, CheckUpper, ByHazard}
use Rattle.law_reuse.specs.inv.model.Phases.HazardAt.{FirstLink, CheckLink}
use Rattle.law_reuse.specs.inv.model.Phases.AllocateAt.{ClaimSlot}
use Rattle.law_reuse.specs.inv.model.Phases.RetireAt.{LoadLife}
use Rattle.law_reuse.specs.inv.model.Phases.MoveAt.{LoadEra, LoadRequest, ShowEra, CheckEra, AnswerAsked, LoadReserved, HandOver, ExchangeClock}
use Rattle.law_reuse.specs.inv.model.Phases.Base.{Begin, Protect, Reload, Allocate, Write, Retire, Move}
use Rattle.law_reuse.specs.inv.model.Calls.{Why, Phase, Idle, Runs, Scans, Works}
use Rattle.law_reuse.proofs.laws.records.defs.Facts.{same_number}
use Rattle.law_reuse.specs.inv.shapes.Eras.{Eras}
use Rattle.law_reuse.proofs.shapes.Frame.{seat_stays, begin_stays, begin_begins}
use Rattle.law_reuse.proofs.shapes.Kept.{begun_fits}
use Rattle.law_reuse.specs.laws.records.Record.{Past, tells_of}
use Rattle.law_reuse.specs.laws.records.Record.Past.{Then}
use Rattle.law_reuse.specs.laws.records.Turns as schedule
use Rattle.law_reuse.specs.laws.records.Turns.{record_of, EachTurn}
use Rattle.law_reuse.specs.laws.records.Turns.History.{Blank, Starts, Turns}
use Rattle.law_reuse.specs.history.History.{Begins, Steps, Made, done, first_made}
use Rattle.law_reuse.specs.inv.Inv.{Inv}
use Rattle.law_reuse.proofs.inv.Inv.Shapes.{eras_of}
use Rattle.law_reuse.proofs.history.Passes.{Closed, step_goes}
use Rattle.law_reuse.proofs.OneStep.Along.{Around, Kept, history_keeps}
use Rattle.law_reuse.proofs.history.MayTell.{concluded_told}
use Rattle.law_reuse.specs.laws.StateAt.{shown_by, shown_of}
use Rattle.law_reuse.specs.laws.HistorySteps.{found_shown, one_less, due_of, withdraws_first, withdraws_by, withdrawn_right}
use Rattle.law_scans.specs.Turns.Records.{WithdrawalsFollow}
use Rattle.law_scans.proofs.Turns.Withdrawals.Leaving.{is_first, is_new, Leads, Left, stepped_leads, first_new}
use Rattle.law_scans.proofs.Turns.Withdrawals.Withdrawing.{shown_along, at_shows, move_shows, base_shows, phase_shows, base_leaves, phase_leaves, tells_link, base_finds, phase_finds, Shows, PhaseEra, first_shown, shows_closed}

-- in how many turns the helper word has to be withdrawn, by where its seat stands
abbrev pub at_due : Root → ProtectAt → ℕ
at_due root (WithdrawRequest link era) = if tells_link root link then 2 else 0
at_due root (WithdrawHelper link era) = if tells_link root link then 1 else 0
at_due root at = 0

abbrev pub base_due : Base → ℕ
base_due (Protect aim index root steps at) = at_due root at
base_due base = 0

abbrev pub phase_due : Phase → ℕ
phase_due (Runs why base) = base_due base
phase_due phase = 0

-- and after the step
abbrev next_due : Base → ℕ
next_due base = if base_finds base then 2 else one_less (base_due base)

abbrev Out : (shown : Bool) (due : ℕ) → Outcome → Type 0
Out shown due (Goes base) = (base_shows base ≡ shown) × (base_due base ≡ due)
Out shown due (Ends ending) = (shown ≡ false) × (due ≡ 0)

out_if : (shown : Bool) (due : ℕ) (c : Bool) (t u : Turn) → Out shown due t.outcome → Out shown due u.outcome → Out shown due (if c then t else u).outcome
out_if shown due true t u h k = h
out_if shown due false t u h k = k

concluded_out : (aim : Aim) (index : ℕ) (root : Root) (n link era : ℕ) (post : Post) (told : List Event) → Out false 0 (protects.concluded aim index root n link era post told).outcome
concluded_out Alone index root n link era post told = (refl, refl)
concluded_out Follows index root n link era post told = out_if false 0 (link == 0) _ _ (refl, refl) (refl, refl)

trying_shows : (config : Config) (root : Root) (era : ℕ) (tries : Tries) → (at_shows (protects.trying config era tries) ≡ false) × (at_due root (protects.trying config era tries) ≡ 0)
trying_shows config root era Endless = (refl, refl)
trying_shows config root era (Failed count) = by (nat_le config.tries count)
  where
    by : (b : Bool) → (at_shows (if b then PublishRequest else LoadLink era (Failed count)) ≡ false) × (at_due root (if b then PublishRequest else LoadLink era (Failed count)) ≡ 0)
    by true = (refl, refl)
    by false = (refl, refl)

answer_shows : (root : Root) (r : Option Request) → (at_shows (slow.answer_in r) ≡ true) × (at_due root (slow.answer_in r) ≡ 0)
answer_shows root (Some (requests.Answered link era)) = (refl, refl)
answer_shows root (Some (requests.Pending tag index word)) = (refl, refl)
answer_shows root (Some requests.Idle) = (refl, refl)
answer_shows root None = (refl, refl)

lost_shows : (root : Root) (first : ℕ) (last : Bool) (found : ℕ) → (at_shows (slow.lost_turn first last found) ≡ true) × (at_due root (slow.lost_turn first last found) ≡ 0)
lost_shows root first true found = (refl, refl)
lost_shows root first false found = (refl, refl)

abbrev BaseOut : Base → Post → ℕ → Type 0
BaseOut base post found = Out (base_leaves base) (next_due base) (machine.after base post found).outcome

protect_out : (aim : Aim) (index : ℕ) (root : Root) (made : ℕ) (at : ProtectAt) (post : Post) (found : ℕ) → BaseOut (Protect aim index root made at) post found
protect_out aim index root made (PublishEra era tries) post found = trying_shows post.layout.config root era tries
protect_out aim index root made (CheckClock era tries link) post found = out_if false 0 (found == era) _ _ (concluded_out aim index root (bump made) link era _ _) (refl, refl)
protect_out aim index root made (CheckOwnClock first era last link) post found = out_if true 0 (found == era) _ _ (refl, refl) (lost_shows root first last found)
protect_out aim index root made (AnswerOwn first era link) post found = out_if true 0 (found == slow.own_request post index root) _ _ (refl, refl) (answer_shows root (read_request found))
protect_out aim index root made (LoadAnswer first) post found = answer_shows root (read_request found)
protect_out aim index root made (WithdrawRequest link era) post found = (refl, by (tells_link root link))
  where
    by : (b : Bool) → (if b then 1 else 0) ≡ one_less (if b then 2 else 0)
    by true = refl
    by false = refl
protect_out aim index root made (WithdrawHelper link era) post found = subst (λ (d : ℕ). Out false d (protects.concluded aim index root (bump made) link era post (reserves_helper post 0)).outcome) (by (tells_link root link)) (concluded_out aim index root (bump made) link era post (reserves_helper post 0))
  where
    by : (b : Bool) → 0 ≡ one_less (if b then 1 else 0)
    by true = refl
    by false = refl
protect_out aim index root made (CheckUpper link) post found = out_if false 0 (found == upper post.span) _ _ (concluded_out aim index root (bump made) link found _ _) (refl, refl)
protect_out aim index root made (ByHazard FirstLink) post found = out_if false 0 (found == 0) _ _ (concluded_out aim index root (bump made) found 0 _ _) (refl, refl)
protect_out aim index root made (ByHazard (CheckLink link)) post found = out_if false 0 (found == link || found == 0) _ _ (concluded_out aim index root (bump made) found 0 _ _) (refl, refl)
protect_out aim index root made at post found = (refl, refl)

met_all : (era : ℕ) (shows : Bool) → move_shows (movers.all_met era shows) ≡ shows
met_all era true = refl
met_all era false = refl

next_shows : (post : Post) (era seat : ℕ) (shows : Bool) → move_shows (movers.next_request post era seat shows) ≡ shows
next_shows post era seat shows = by (nat_lt (seat + 1) post.layout.config.seats)
  where
    by : (b : Bool) → move_shows (if b then LoadRequest era (seat + 1) shows else movers.all_met era shows) ≡ shows
    by true = refl
    by false = met_all era shows

helping_shows : (era seat tag index : ℕ) (root : Root) (shows : Bool) → move_shows (movers.helping era seat tag index root shows) ≡ shows
helping_shows era seat tag index root true = refl
helping_shows era seat tag index root false = refl

met_shows : (post : Post) (era seat : ℕ) (shows : Bool) (r : Option Request) → move_shows (movers.met post era seat shows r) ≡ shows
met_shows post era seat shows (Some (requests.Pending tag index word)) = helping_shows era seat tag index _ shows
met_shows post era seat shows (Some (requests.Answered link answered)) = next_shows post era seat shows
met_shows post era seat shows (Some requests.Idle) = next_shows post era seat shows
met_shows post era seat shows None = next_shows post era seat shows

moving_shows : (helps : Bool) (era : ℕ) → move_shows (movers.moving helps era) ≡ false
moving_shows true era = refl
moving_shows false era = refl

handed_out : (era seat tag index old : ℕ) (post : Post) (same : Bool) → Out true 0 (movers.after_hand_over era seat tag index old post same).outcome
handed_out era seat tag index old post true = (next_shows post era seat true, refl)
handed_out era seat tag index old post false = (next_shows post era seat true, refl)

move_out : (at : MoveAt) (post : Post) (found : ℕ) → BaseOut (Move at) post found
move_out (LoadEra helps) post found = out_if false 0 (found == post.layout.config.last_era) _ _ (refl, refl) (moving_shows helps found, refl)
move_out (LoadRequest era seat shows) post found = (met_shows post era seat shows (read_request found), refl)
move_out (CheckEra era seat tag index root link) post found = out_if true 0 (found == era) _ _ (refl, refl) (refl, refl)
move_out (AnswerAsked era seat tag index root link) post found = out_if true 0 (found == slow.asking post.layout tag index root) _ _ (refl, refl) (next_shows post era seat true, refl)
move_out (LoadReserved era seat tag index root link) post found = out_if true 0 ((read_reservation found).tag == tag) _ _ (refl, refl) (next_shows post era seat true, refl)
move_out (HandOver era seat tag index root link old) post found = handed_out era seat tag index old post (found == reservation_word (record { era = old; tag = tag }))
move_out (ExchangeClock era) post found = out_if false 0 (found == era) _ _ (refl, refl) (refl, refl)
move_out at post found = (refl, refl)

walking_out : (birth : ℕ) (post : Post) (x : Option Walk) → Out false 0 (allocates.walking birth post x).outcome
walking_out birth post None = (refl, refl)
walking_out birth post (Some walk) = (refl, refl)

base_out : (base : Base) (post : Post) (found : ℕ) → BaseOut base post found
base_out (Begin LoadLower) post found = (refl, refl)
base_out (Protect aim index root made at) post found = protect_out aim index root made at post found
base_out (Reload parent index slot era made) post found = out_if false 0 (found == parent + 1) _ _ (refl, refl) (refl, refl)
base_out (Allocate (ClaimSlot birth walk)) post found = out_if false 0 (allocates.is_claimed found walk.slot) _ _ (walking_out birth post (allocates.walk_past post.layout.config.slots walk found)) (refl, refl)
base_out (Write slot row place) post found = out_if false 0 (place == last_written row) _ _ (refl, refl) (refl, refl)
base_out (Retire (LoadLife slot)) post found = (refl, refl)
base_out (Move at) post found = move_out at post found
base_out base post found = (refl, refl)

-- a new phase shows nothing, and owes nothing
new_base : (base : Base) → is_first base ≡ true → (base_shows base ≡ false) × (base_due base ≡ 0)
new_base (Protect aim index root steps (LoadClock tries)) h = (refl, refl)
new_base (Protect aim index root steps LoadWithin) h = (refl, refl)
new_base (Protect aim index root steps (ByHazard FirstLink)) h = (refl, refl)
new_base (Protect aim index root steps at) h = absurd (cc)
new_base (Move (LoadEra helps)) h = (refl, refl)
new_base (Move at) h = absurd (cc)
new_base base h = (refl, refl)

-- what is known of a seat
pub record Tied (publishes : Bool) (left : ℕ) (phase : Phase) : Type 0 where
  pub shown : publishes ≡ phase_shows phase
  pub due : left ≡ phase_due phase

new_tied : (phase : Phase) → is_new phase ≡ true → Tied false 0 phase
new_tied Idle h = record { shown = refl; due = refl }
new_tied (Runs why base) h = let n = new_base base h in record { shown = sym n.0; due = sym n.1 }
new_tied (Scans later at) h = record { shown = refl; due = refl }
new_tied (Works work) h = record { shown = refl; due = refl }

abbrev pub after_due : Phase → ℕ
after_due phase = if phase_finds phase then 2 else one_less (phase_due phase)

out_tied : (interval shown : Bool) (due : ℕ) (why : Why) (outcome : Outcome) (next : Phase) → Out shown due outcome → Leads interval why outcome next → Tied shown due next
out_tied interval shown due why (Goes base) next o l = subst (λ (phase : Phase). Tied shown due phase) (sym l) (record { shown = sym o.0; due = sym o.1 })
out_tied interval shown due why (Ends ending) next o l = let t = new_tied next l.0 in record { shown = o.0 ∙ t.shown; due = o.1 ∙ t.due }

left_tied : (interval : Bool) (phase : Phase) (post : Post) (found : ℕ) (next : Phase) → Left interval phase post found next → Tied (phase_leaves phase) (after_due phase) next
left_tied interval Idle post found next l = new_tied next l
left_tied interval (Runs why base) post found next l = out_tied interval (base_leaves base) (next_due base) why (machine.after base post found).outcome next (base_out base post found) l
left_tied interval (Scans later at) post found next l = new_tied next l
left_tied interval (Works work) post found next l = new_tied next l

-- the law at a turn
withdraw_law : (i : ℕ) (why : Why) (at : ProtectAt) (aim : Aim) (index : ℕ) (root : Root) (made : ℕ) (post : Post) (desk : Desk) (found : ℕ) → post.seat ≡ i → withdraws_by i (at_due root at) (told_by (steps.phase_turn (Runs why (Protect aim index root made at)) post desk found)) ≡ true
withdraw_law i why (WithdrawRequest link era) aim index root made post desk found s = by (tells_link root link)
  where
    by : (b : Bool) → withdraws_by i (if b then 2 else 0) [] ≡ true
    by true = refl
    by false = refl
withdraw_law i why (WithdrawHelper link era) aim index root made post desk found s = by (tells_link root link)
  where
    first_closed : Closed (λ (p : Post) (told : List Event). withdraws_first i told ≡ true)
    first_closed = record { calm = λ p told more q h. first_along told more h; clears = λ p told j h. first_along told _ h }
      where
        first_along : (told more : List Event) → withdraws_first i told ≡ true → withdraws_first i (told ++ more) ≡ true
        first_along [] more h = absurd (cc)
        first_along (event ∷ told) more h = grind arith

    own_first : withdraws_first i (reserves_helper post 0) ≡ true
    own_first = let e : (post.seat == i) ≡ true = grind (arith, nat_tests) in rw e refl

    told_first : withdraws_first i (told_by (steps.phase_turn (Runs why (Protect aim index root made (WithdrawHelper link era))) post desk found)) ≡ true
    told_first =
        step_goes (λ (p : Post) (told : List Event). withdraws_first i told ≡ true) first_closed (Runs why (Protect aim index root made (WithdrawHelper link era))) post desk found
        (rw (concluded_told aim index root (bump made) link era post (reserves_helper post 0)) own_first)

    by : (b : Bool) → withdraws_by i (if b then 1 else 0) (told_by (steps.phase_turn (Runs why (Protect aim index root made (WithdrawHelper link era))) post desk found)) ≡ true
    by true = told_first
    by false = refl
withdraw_law i why at aim index root made post desk found s = refl

pub phase_law : (i : ℕ) (phase : Phase) (post : Post) (desk : Desk) (found : ℕ) → post.seat ≡ i → withdraws_by i (phase_due phase) (told_by (steps.phase_turn phase post desk found)) ≡ true
phase_law i (Runs why (Protect aim index root made at)) post desk found s = withdraw_law i why at aim index root made post desk found s
phase_law i phase post desk found s = refl

-- the era that a helper word is about to publish
era_of : (w : World) (i : ℕ) (phase : Phase) → Eras w → (w.seat i).phase ≡ phase → PhaseEra phase
era_of w i (Runs why (Protect aim index root made (PublishHelper first era last))) a e =
    let r = eras_of w i why (Protect aim index root made (PublishHelper first era last)) a e in omega (r.began, r.rises, arith)
era_of w i (Runs why (Move (ShowEra era seat tag index root))) a e =
    let r = eras_of w i why (Move (ShowEra era seat tag index root)) a e in r.mover.era_in.some
era_of w i (Runs why (Protect aim index root made at)) a e = tt
era_of w i (Runs why (Move at)) a e = tt
era_of w i (Runs why base) a e = tt
era_of w i phase a e = tt

-- what seat i tells is told by it alone
shown_tells : (i : ℕ) (told : List Event) (p : Past) → shown_of i (tells_of p i told) ≡ shown_along i told (shown_of i p)
shown_tells i [] p = refl
shown_tells i (event ∷ told) p = shown_tells i told (Then p i event) ∙ ap (shown_along i told) (here (i == i) (same_number i))
  where
    here : (same : Bool) → same ≡ true → (if same then shown_by i event (shown_of i p) else shown_of i p) ≡ shown_by i event (shown_of i p)
    here true e = refl
    here false e = absurd (cc)

shown_stays : (k i : ℕ) (told : List Event) (p : Past) → (k == i) ≡ false → shown_of k (tells_of p i told) ≡ shown_of k p
shown_stays k i [] p e = refl
shown_stays k i (event ∷ told) p e = shown_stays k i told (Then p i event) e ∙ rw e refl

-- along a history
pub record Keeps (made : Made) (h : schedule.History) : Type 0 where
  pub seats : (k : ℕ) → Tied (shown_of k (record_of h)) (due_of k h) (made.world.seat k).phase
  pub law : EachTurn withdrawn_right h

pub own_told : (w : World) (i : ℕ) → Inv w → Shows i (phase_shows (w.seat i).phase) (phase_leaves (w.seat i).phase) (phase_finds (w.seat i).phase) (told_in w i)
own_told w i a =
    let k = a.known in
    let f = k.seats.fits i in
    let s : (w.seat i).post.seat ≡ i = f.post.seat in
    let phase : Phase = (w.seat i).phase in
    step_goes (λ p told. Shows i (phase_shows phase) (phase_leaves phase) (phase_finds phase) told) (shows_closed i (phase_shows phase) (phase_leaves phase) (phase_finds phase)) phase (counted (w.seat i).post) (offered w i).desk (finds w i)
    (first_shown i phase (counted (w.seat i).post) (finds w i) s (era_of w i phase k.eras refl))

pub turned_due : (i : ℕ) (h : schedule.History) (told : List Event) → due_of i (Turns h i told) ≡ (if found_shown i told (shown_of i (record_of h)) then 2 else one_less (due_of i h))
turned_due i h told = rw (same_number i) refl

step_own : (w : World) (h : schedule.History) (i : ℕ) → Inv w → Tied (shown_of i (record_of h)) (due_of i h) (w.seat i).phase → Tied (shown_of i (tells_of (record_of h) i (told_in w i))) (due_of i (Turns h i (told_in w i))) ((step w i).seat i).phase
step_own w h i a t =
    let k = a.known in
    let phase : Phase = (w.seat i).phase in
    let o = own_told w i a in
    let l : Tied (phase_leaves phase) (after_due phase) ((step w i).seat i).phase = left_tied (is_ibr w.layout.config.scheme) phase (counted (w.seat i).post) (finds w i) ((step w i).seat i).phase (stepped_leads w i k.valid k.seats) in
    let s : shown_of i (tells_of (record_of h) i (told_in w i)) ≡ phase_leaves phase = shown_tells i (told_in w i) (record_of h) ∙ ap (shown_along i (told_in w i)) t.shown ∙ o.left in
    let f : found_shown i (told_in w i) (shown_of i (record_of h)) ≡ phase_finds phase = ap (found_shown i (told_in w i)) t.shown ∙ o.found in
    let d : due_of i (Turns h i (told_in w i)) ≡ after_due phase =
    turned_due i h (told_in w i) ∙ ap (λ (b : Bool). if b then 2 else one_less (due_of i h)) f ∙ ap (λ (n : ℕ). if phase_finds phase then 2 else one_less n) t.due in
    record { shown = s ∙ l.shown; due = d ∙ l.due }

step_seats : (w : World) (h : schedule.History) (i k : ℕ) (same : Bool) → (k == i) ≡ same → Inv w → ((m : ℕ) → Tied (shown_of m (record_of h)) (due_of m h) (w.seat m).phase) → Tied (shown_of k (tells_of (record_of h) i (told_in w i))) (due_of k (Turns h i (told_in w i))) ((step w i).seat k).phase
step_seats w h i k true e a t =
    let one : k ≡ i = grind (arith, nat_tests) in
    subst (λ (m : ℕ). Tied (shown_of m (tells_of (record_of h) i (told_in w i))) (due_of m (Turns h i (told_in w i))) ((step w i).seat m).phase) (sym one) (step_own w h i a (t i))
step_seats w h i k false e a t =
    let u = t k in
    let q : (w.seat k).phase ≡ ((step w i).seat k).phase = sym (ap (λ (l : Local). l.phase) (seat_stays w i k e)) in
    record { shown = shown_stays k i (told_in w i) (record_of h) e ∙ u.shown ∙ ap phase_shows q; due = rw e u.due ∙ ap phase_due q }

step_law : (w : World) (h : schedule.History) (i : ℕ) → Inv w → Tied (shown_of i (record_of h)) (due_of i h) (w.seat i).phase → withdrawn_right h i (told_in w i) ≡ true
step_law w h i a t =
    let k = a.known in
    let f = k.seats.fits i in
    ap (λ (n : ℕ). withdraws_by i n (told_in w i)) t.due ∙ phase_law i (w.seat i).phase (counted (w.seat i).post) (offered w i).desk (finds w i) f.post.seat

pub step_kept : (made : Made) (h : schedule.History) (i : ℕ) → Around made h → Keeps made h → Keeps (done made (Steps i)) (Turns h i (told_in made.world i))
step_kept made h i a g = record {
  seats = λ k. step_seats made.world h i k (k == i) refl a.known g.seats;
  law = (step_law made.world h i a.known (g.seats i), g.law);
}

-- a call begins
starts_same : (h : schedule.History) (i k : ℕ) (call : Call) → shown_of k (record_of (Starts h i call)) ≡ shown_of k (record_of h)
starts_same h i k call = by (k == i)
  where
    by : (same : Bool) → (if same then shown_of k (record_of h) else shown_of k (record_of h)) ≡ shown_of k (record_of h)
    by true = refl
    by false = refl

idle_tied : (shown : Bool) (due : ℕ) (phase next : Phase) → busy_in phase ≡ false → Tied shown due phase → is_new next ≡ true → Tied shown due next
idle_tied shown due Idle next b t n = let u = new_tied next n in record { shown = t.shown ∙ u.shown; due = t.due ∙ u.due }
idle_tied shown due (Runs why base) next b t n = absurd (cc)
idle_tied shown due (Scans later at) next b t n = absurd (cc)
idle_tied shown due (Works work) next b t n = absurd (cc)

begin_seats : (w : World) (h : schedule.History) (i k : ℕ) (call : Call) (same : Bool) → (k == i) ≡ same → Inv w → is_busy w i ≡ false → ((m : ℕ) → Tied (shown_of m (record_of h)) (due_of m h) (w.seat m).phase) → Tied (shown_of k (record_of (Starts h i call))) (due_of k h) ((begin w i call).seat k).phase
begin_seats w h i k call true e a y t =
    let one : k ≡ i = grind (arith, nat_tests) in
    let n = a.known in
    let f = n.seats.fits i in
    let u : Tied (shown_of i (record_of h)) (due_of i h) (steps.first_phase call (begun_post (w.seat i).post)) =
    idle_tied (shown_of i (record_of h)) (due_of i h) (w.seat i).phase (steps.first_phase call (begun_post (w.seat i).post)) y (t i) (first_new w.layout i n.valid call (begun_post (w.seat i).post) (begun_fits w.layout i (w.seat i).post f.post)) in
    subst (λ (m : ℕ). Tied (shown_of m (record_of (Starts h i call))) (due_of m h) ((begin w i call).seat m).phase) (sym one)
    (record { shown = starts_same h i i call ∙ u.shown ∙ sym (ap (λ (l : Local). phase_shows l.phase) (begin_begins w i call)); due = u.due ∙ sym (ap (λ (l : Local). phase_due l.phase) (begin_begins w i call)) })
begin_seats w h i k call false e a y t =
    let u = t k in
    let q : (w.seat k).phase ≡ ((begin w i call).seat k).phase = sym (ap (λ (l : Local). l.phase) (begin_stays w i k call e)) in
    record { shown = starts_same h i k call ∙ u.shown ∙ ap phase_shows q; due = u.due ∙ ap phase_due q }

pub begin_kept : (made : Made) (h : schedule.History) (i : ℕ) (call : Call) → Around made h → is_busy made.world i ≡ false → Keeps made h → Keeps (done made (Begins i call)) (Starts h i call)
begin_kept made h i call a y g = record { seats = λ k. begin_seats made.world h i k call (k == i) refl a.known y g.seats; law = g.law }

kept : Kept Keeps
kept = record { begins = λ made h i call a b f m g. begin_kept made h i call a f g; steps = λ made h i a b y g. step_kept made h i a g }

pub first_kept : (layout : Layout) → Keeps (first_made layout) Blank
first_kept layout = record { seats = λ k. record { shown = refl; due = refl }; law = tt }

pub withdrawals_follow : WithdrawalsFollow
withdrawals_follow layout items d = let g = history_keeps layout Keeps kept d items (first_kept layout) in g.law
