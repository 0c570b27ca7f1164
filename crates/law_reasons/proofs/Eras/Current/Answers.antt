-- The era of an answer that a request has was the clock in its owner's call: a mover answers at an era that was the clock when it
-- had loaded the request.
use Rattle.std.proofs.Common.{ℕ, ◌≡◌, ◌≤◌, ◌+◌, Bool, true, false, List, Option, Some, None, refl, ap, ◌∙◌, subst, arith}
use Rattle.std.proofs.lemmas.Bool.Decides.{nat_tests}
use Rattle.std.specs.Prelude.{◌==◌, nat_lt, if◌then◌else◌}
use Rattle.law_scans.specs.laws.words.Packed.{halves, reservation_word, read_request, read_reservation}
use Rattle.law_scans.specs.laws.words.Place.Place.{Index, Request}
use Rattle.law_scans.specs.laws.words.declared.layout.Layout.{Layout}
use Rattle.law_scans.specs.laws.words.declared.packed.Request.{Request as Asking}
use Rattle.law_scans.specs.laws.words.declared.packed.Request.TheVariants as requests
use Rattle.law_scans.specs.laws.defs.declared.event.Event.{Event}
use Rattle.law_scans.specs.laws.defs.declared.event.Root.{Root}
use Rattle.law_scans.specs.inv.model.declared.post.Post.{Post}
use Rattle.law_scans.specs.inv.model.Calls.{Why, Phase, Idle, Runs, Scans, Works}
use Rattle.law_scans.specs.inv.model.Desks.{Desk}
use Rattle.law_scans.specs.inv.model.Links.{link_number}
use Rattle.law_scans.specs.inv.model.Machine as machine
use Rattle.law_scans.specs.inv.model.Memory.{upd}
use Rattle.law_scans.specs.inv.model.MoveClock as movers
use Rattle.law_scans.specs.inv.model.Phases.{ProtectAt, MoveAt, Base, Turn, Outcome, Goes, Ends}
use Rattle.law_scans.specs.inv.model.Phases.ProtectAt.{PublishRequest, AnswerOwn, TakeAnswer, WithdrawRequest}
use Rattle.law_scans.specs.inv.model.Phases.MoveAt.{LoadEra, LoadRequest, CheckEra, AnswerAsked, LoadReserved, HandOver, ExchangeClock}
use Rattle.law_scans.specs.inv.model.Phases.Base.{Begin, Protect, Reload, Allocate, Write, Retire, Move}
use Rattle.law_scans.specs.inv.model.Posts.{tag_of}
use Rattle.law_scans.specs.inv.model.SlowPath.{own_request, asking}
use Rattle.law_scans.specs.inv.model.Steps as steps
use Rattle.law_scans.specs.inv.model.World.{World}
use Rattle.law_scans.specs.inv.shapes.Frame.{phase_left}
use Rattle.law_scans.proofs.inv.requests.Kept.{at_of}
use Rattle.law_scans.specs.inv.requests.NextDeals.{protect_deals, move_deals, base_deals, phase_deals}
use Rattle.law_scans.specs.inv.requests.Views.{View, Deal}
use Rattle.law_scans.specs.inv.requests.Views.Deal.{Quiet, Open, Answered, Passed, Taken}
use Rattle.law_scans.proofs.inv.covers.Fresh.{works_start, resume_fresh}
use Rattle.law_scans.proofs.inv.covers.Scans.{scan_starts}
use Rattle.law_scans.specs.inv.covers.Tries.{starts_base, is_start}
use Rattle.law_scans.specs.inv.ends.Tracked.{opened_by}
use Rattle.law_scans.specs.inv.ends.Origins.{OriginsNeeds}
use Rattle.law_scans.proofs.inv.ends.Origins.Deals.{answered_is, hands_plain, passed_is}
use Rattle.law_scans.proofs.inv.ends.Origins.Plain.{out_plain, plain_after, out_protects, protects_on}
use Rattle.law_reasons.proofs.Eras.Current.Ages.{protect_since, base_since, PhaseSince}

-- an answer's era is no earlier than this
abbrev pub DealSince : (from : ℕ) → Deal → Type 0
DealSince from Quiet = Unit {0}
DealSince from (Open tag index word) = Unit {0}
DealSince from (Answered tag index word link era by) = from ≤ era
DealSince from (Passed tag index word link era) = from ≤ era
DealSince from (Taken tag index word link era) = Unit {0}

-- a mover is about to answer a request that is open, at an era no earlier than the clock where its owner's call began
abbrev pub move_helps : Layout → (from : ℕ → ℕ) → (ℕ → Deal) → MoveAt → Type 0
move_helps layout from deals (AnswerAsked era seat tag index root link) = opened_by tag index (link_number layout root) (deals seat) ≡ true → from seat ≤ era
move_helps layout from deals at = Unit {0}

abbrev pub base_helps : Layout → (from : ℕ → ℕ) → (ℕ → Deal) → Base → Type 0
base_helps layout from deals (Move at) = move_helps layout from deals at
base_helps layout from deals base = Unit {0}

abbrev pub HelpSince : Layout → (from : ℕ → ℕ) → (ℕ → Deal) → Phase → Type 0
HelpSince layout from deals (Runs why base) = base_helps layout from deals base
HelpSince layout from deals phase = Unit {0}

-- by seat, the clock where its call began
pub record Answers (w : World) (z : View) (from : ℕ → ℕ) : Type 0 where
  pub deals : (k : ℕ) → DealSince (from k) (z.deal k)
  pub helps : (m : ℕ) → HelpSince w.layout from z.deal (w.seat m).phase

-- the answers after a step
if_deal : (from : ℕ → ℕ) (deals : ℕ → Deal) (s k : ℕ) (d : Deal) (same : Bool) → (k == s) ≡ same → DealSince (from s) d → DealSince (from k) (deals k) → DealSince (from k) (if same then d else deals k)
if_deal from deals s k d true e h g = let q : s ≡ k = grind (arith, nat_tests) in subst (λ (n : ℕ). DealSince (from n) d) q h
if_deal from deals s k d false e h g = g

made_deal : (from : ℕ → ℕ) (deals : ℕ → Deal) (s k : ℕ) (d : Deal) → DealSince (from s) d → DealSince (from k) (deals k) → DealSince (from k) (upd deals s d k)
made_deal from deals s k d h g = if_deal from deals s k d (k == s) refl h g

made_when : (from : ℕ → ℕ) (deals : ℕ → Deal) (s k : ℕ) (d : Deal) (c : Bool) → (c ≡ true → DealSince (from s) d) → DealSince (from k) (deals k) → DealSince (from k) ((if c then upd deals s d else deals) k)
made_when from deals s k d true h g = made_deal from deals s k d (h refl) g
made_when from deals s k d false h g = g

protect_kept : (w : World) (i : ℕ) (z : View) (from : ℕ → ℕ) (index : ℕ) (root : Root) (at : ProtectAt) (k : ℕ) → protect_since (from i) at → DealSince (from k) (z.deal k) → DealSince (from k) (protect_deals w.mem i (w.seat i).post index root at z.deal k)
protect_kept w i z from index root PublishRequest k f g = made_deal from z.deal i k _ tt g
protect_kept w i z from index root (AnswerOwn first era link) k f g =
    made_when from z.deal i k (Answered (tag_of (w.seat i).post index) index (link_number (w.seat i).post.layout root) link era i) (w.mem (Request (w.seat i).post.seat) == own_request (w.seat i).post index root) (λ c. f) g
protect_kept w i z from index root (TakeAnswer link era) k f g = made_deal from z.deal i k _ tt g
protect_kept w i z from index root (WithdrawRequest link era) k f g = made_deal from z.deal i k _ tt g
protect_kept w i z from index root at k f g = g

-- a mover answers the request that is open
opens_so : (layout : Layout) (t j : ℕ) (root : Root) (d : Deal) → d ≡ Open t j (link_number layout root) → opened_by t j (link_number layout root) d ≡ true
opens_so layout t j root d o = rw o (grind (arith, nat_tests))

helps_era : (w : World) (i : ℕ) (z : View) (from : ℕ → ℕ) (why : Why) (e k t j : ℕ) (root : Root) (link : ℕ) → OriginsNeeds w i z → (w.seat i).phase ≡ Runs why (Move (AnswerAsked e k t j root link)) → HelpSince w.layout from z.deal (w.seat i).phase
    → (w.mem (Request k) == asking (w.seat i).post.layout t j root) ≡ true → from k ≤ e
helps_era w i z from why e k t j root link n q g h =
    let a = at_of w i z n.valid n.below n.seats n.needs n.requests in
    let o = answered_is w.mem w.seat i z why e k t j root link a q h in
    let p : z.deal k ≡ Open t j (link_number w.layout root) = o ∙ ap (λ (l : Layout). Open t j (link_number l root)) (n.seats.fits i).post.layout in
    let f : HelpSince w.layout from z.deal (Runs why (Move (AnswerAsked e k t j root link))) = subst (HelpSince w.layout from z.deal) q g in
    f (opens_so w.layout t j root (z.deal k) p)

-- and hands over the answer that it gave
passes_era : (w : World) (i : ℕ) (z : View) (from : ℕ → ℕ) (why : Why) (e k t j : ℕ) (root : Root) (link old : ℕ) → OriginsNeeds w i z → (w.seat i).phase ≡ Runs why (Move (HandOver e k t j root link old)) → DealSince (from k) (z.deal k) → (w.mem (Index k j) == halves old t) ≡ true → from k ≤ e
passes_era w i z from why e k t j root link old n q g h =
    let a = at_of w i z n.valid n.below n.seats n.needs n.requests in
    let o = passed_is w.mem w.seat i z why e k t j root link old a q (hands_plain w i why e k t j root link old n.seats q) h in
    subst (DealSince (from k)) o g

move_kept : (w : World) (i : ℕ) (z : View) (from : ℕ → ℕ) (why : Why) (at : MoveAt) (k : ℕ) → OriginsNeeds w i z → (w.seat i).phase ≡ Runs why (Move at) → Answers w z from → DealSince (from k) (move_deals w.mem i (w.seat i).post at z.deal k)
move_kept w i z from why (AnswerAsked e s t j r link) k n q g =
    made_when from z.deal s k (Answered t j (link_number (w.seat i).post.layout r) link e i) (w.mem (Request s) == asking (w.seat i).post.layout t j r) (λ c. helps_era w i z from why e s t j r link n q (g.helps i) c) (g.deals k)
move_kept w i z from why (HandOver e s t j r link old) k n q g =
    made_when from z.deal s k (Passed t j (link_number (w.seat i).post.layout r) link e) (w.mem (Index s j) == halves old t) (λ c. passes_era w i z from why e s t j r link old n q (g.deals s) c) (g.deals k)
move_kept w i z from why at k n q g = g.deals k

base_kept : (w : World) (i : ℕ) (z : View) (from : ℕ → ℕ) (cut : ℕ → ℕ) (why : Why) (base : Base) (k : ℕ) → OriginsNeeds w i z → (w.seat i).phase ≡ Runs why base → base_since (from i) cut base → Answers w z from → DealSince (from k) (base_deals w.mem i (w.seat i).post base z.deal k)
base_kept w i z from cut why (Protect aim index root steps at) k n q f g = protect_kept w i z from index root at k f (g.deals k)
base_kept w i z from cut why (Move at) k n q f g = move_kept w i z from why at k n q g
base_kept w i z from cut why base k n q f g = g.deals k

pub phase_kept : (w : World) (i : ℕ) (z : View) (from : ℕ → ℕ) (cut : ℕ → ℕ) (phase : Phase) (k : ℕ) → OriginsNeeds w i z → (w.seat i).phase ≡ phase → PhaseSince (from i) cut phase → Answers w z from → DealSince (from k) (phase_deals w.mem i (w.seat i).post phase z.deal k)
phase_kept w i z from cut Idle k n q f g = g.deals k
phase_kept w i z from cut (Runs why base) k n q f g = base_kept w i z from cut why base k n q f g
phase_kept w i z from cut (Scans later at) k n q f g = g.deals k
phase_kept w i z from cut (Works work) k n q f g = g.deals k

-- a mover that has just checked the clock
abbrev pub checked_base : (now : ℕ) → Base → Type 0
checked_base now (Move (AnswerAsked era seat tag index root link)) = now ≤ era
checked_base now base = Unit {0}

abbrev pub Checked : (now : ℕ) → Phase → Type 0
Checked now (Runs why base) = checked_base now base
Checked now phase = Unit {0}

abbrev pub OutChecked : (now : ℕ) → Outcome → Type 0
OutChecked now (Goes base) = checked_base now base
OutChecked now (Ends ending) = Unit {0}

start_checked_base : (now : ℕ) (base : Base) → starts_base base ≡ true → checked_base now base
start_checked_base now (Move (AnswerAsked era seat tag index root link)) h = absurd (cc)
start_checked_base now base h = tt

pub start_checked : (now : ℕ) (phase : Phase) → is_start phase ≡ true → Checked now phase
start_checked now (Runs why base) h = start_checked_base now base h
start_checked now phase h = tt

runs_checked : (now : ℕ) (phase : Phase) → ((why : Why) (base : Base) → phase ≡ Runs why base → starts_base base ≡ true) → Checked now phase
runs_checked now (Runs why base) h = start_checked_base now base (h why base refl)
runs_checked now phase h = tt

plain_checked : (now : ℕ) (outcome : Outcome) → out_plain outcome ≡ true → OutChecked now outcome
plain_checked now (Goes base) h = start_checked_base now base h
plain_checked now (Ends ending) h = tt

protects_checked : (now : ℕ) (outcome : Outcome) → out_protects outcome ≡ true → OutChecked now outcome
protects_checked now (Goes (Move at)) h = absurd (cc)
protects_checked now (Goes base) h = tt
protects_checked now (Ends ending) h = tt

checked_if : (now : ℕ) (t u : Turn) (same : Bool) → (same ≡ true → OutChecked now t.outcome) → OutChecked now u.outcome → OutChecked now (if same then t else u).outcome
checked_if now t u true h k = h refl
checked_if now t u false h k = k

next_checked : (now : ℕ) (post : Post) (era seat : ℕ) (shows : Bool) → checked_base now (Move (movers.next_request post era seat shows))
next_checked now post era seat shows = by (nat_lt (seat + 1) post.layout.config.seats) shows
  where
    by : (more shows : Bool) → checked_base now (Move (if more then LoadRequest era (seat + 1) shows else movers.all_met era shows))
    by true shows = tt
    by false true = tt
    by false false = tt

met_checked : (now : ℕ) (post : Post) (era seat : ℕ) (shows : Bool) (request : Option Asking) → checked_base now (Move (movers.met post era seat shows request))
met_checked now post era seat true (Some (requests.Pending tag index word)) = tt
met_checked now post era seat false (Some (requests.Pending tag index word)) = tt
met_checked now post era seat shows (Some (requests.Answered link answered)) = next_checked now post era seat shows
met_checked now post era seat shows (Some requests.Idle) = next_checked now post era seat shows
met_checked now post era seat shows None = next_checked now post era seat shows

moving_checked : (now : ℕ) (helps : Bool) (found : ℕ) → checked_base now (Move (movers.moving helps found))
moving_checked now true found = tt
moving_checked now false found = tt

handed_checked : (now era seat tag index old : ℕ) (post : Post) (same : Bool) → OutChecked now (movers.after_hand_over era seat tag index old post same).outcome
handed_checked now era seat tag index old post true = next_checked now post era seat true
handed_checked now era seat tag index old post false = next_checked now post era seat true

same_most : (found era now : ℕ) → now ≤ found → (found == era) ≡ true → now ≤ era
same_most found era now h e = grind (arith, nat_tests)

-- where a mover checks the clock it finds it
abbrev pub checks : Base → Bool
checks (Move (CheckEra era seat tag index root link)) = true
checks base = false

move_checked : (now : ℕ) (at : MoveAt) (post : Post) (found : ℕ) → (checks (Move at) ≡ true → now ≤ found) → OutChecked now (machine.move_turn at post found).outcome
move_checked now (LoadEra helps) post found l = checked_if now _ _ (found == post.layout.config.last_era) (λ e. tt) (moving_checked now helps found)
move_checked now (LoadRequest era seat shows) post found l = met_checked now post era seat shows (read_request found)
move_checked now (CheckEra era seat tag index root link) post found l = checked_if now _ _ (found == era) (λ e. same_most found era now (l refl) e) tt
move_checked now (AnswerAsked era seat tag index root link) post found l = checked_if now _ _ (found == asking post.layout tag index root) (λ e. tt) (next_checked now post era seat true)
move_checked now (LoadReserved era seat tag index root link) post found l = checked_if now _ _ ((read_reservation found).tag == tag) (λ e. tt) (next_checked now post era seat true)
move_checked now (HandOver era seat tag index root link old) post found l = handed_checked now era seat tag index old post (found == reservation_word (record { era = old; tag = tag }))
move_checked now (ExchangeClock era) post found l = checked_if now _ _ (found == era) (λ e. tt) tt
move_checked now at post found l = tt

base_checked : (now : ℕ) (base : Base) (post : Post) (found : ℕ) → (checks base ≡ true → now ≤ found) → OutChecked now (machine.after base post found).outcome
base_checked now (Begin at) post found l = plain_checked now _ (plain_after (Begin at) post found refl)
base_checked now (Protect aim index root made at) post found l = protects_checked now _ (protects_on aim index root _ at post found)
base_checked now (Reload parent index slot era made) post found l = plain_checked now _ (plain_after (Reload parent index slot era made) post found refl)
base_checked now (Allocate at) post found l = plain_checked now _ (plain_after (Allocate at) post found refl)
base_checked now (Write slot row place) post found l = plain_checked now _ (plain_after (Write slot row place) post found refl)
base_checked now (Retire at) post found l = plain_checked now _ (plain_after (Retire at) post found refl)
base_checked now (Move at) post found l = move_checked now at post found l
base_checked now base post found l = tt

resumed_checked : (now : ℕ) (why : Why) (desk : Desk) (post : Post) (told : List Event) (outcome : Outcome) → OutChecked now outcome → Checked now (phase_left (steps.resumed why desk post told outcome).outcome)
resumed_checked now why desk post told (Goes base) h = h
resumed_checked now why desk post told (Ends ending) h = start_checked now _ (resume_fresh why ending post desk told).starts

pub turn_checked : (now : ℕ) (phase : Phase) (post : Post) (desk : Desk) (found : ℕ) → ((why : Why) (base : Base) → phase ≡ Runs why base → checks base ≡ true → now ≤ found) → Checked now (phase_left (steps.phase_turn phase post desk found).outcome)
turn_checked now Idle post desk found l = tt
turn_checked now (Runs why base) post desk found l =
    let t : Turn = machine.after base post found in resumed_checked now why desk t.post t.told t.outcome (base_checked now base post found (l why base refl))
turn_checked now (Scans later at) post desk found l = start_checked now _ (scan_starts later at post desk found)
turn_checked now (Works work) post desk found l = runs_checked now _ (works_start work post desk found)

-- so it answers no request of a call that began later
checked_since_base : (layout : Layout) (from : ℕ → ℕ) (deals : ℕ → Deal) (now : ℕ) (base : Base) → ((k : ℕ) → from k ≤ now) → checked_base now base → base_helps layout from deals base
checked_since_base layout from deals now (Move (AnswerAsked era seat tag index root link)) l h = λ o. omega (l seat, h, arith)
checked_since_base layout from deals now (Move at) l h = tt
checked_since_base layout from deals now base l h = tt

pub checked_since : (layout : Layout) (from : ℕ → ℕ) (deals : ℕ → Deal) (now : ℕ) (phase : Phase) → ((k : ℕ) → from k ≤ now) → Checked now phase → HelpSince layout from deals phase
checked_since layout from deals now (Runs why base) l h = checked_since_base layout from deals now base l h
checked_since layout from deals now Idle l h = tt
checked_since layout from deals now (Scans later at) l h = tt
checked_since layout from deals now (Works work) l h = tt
