-- What a mover of the clock has seen pending and has passed is over: from the start on, and over each step and each call
-- that begins.
use Rattle.std.proofs.Common.{ℕ, ◌+◌, ◌≤◌, ◌<◌, ◌^◌, Bool, true, false, ◌≡◌, ◌∙◌, sym, refl, ap, subst, arith}
use Rattle.std.proofs.lemmas.Bool.Decides.{nat_tests}
use Rattle.inv_rows.specs.model.Machine as machine
use Rattle.inv_rows.specs.model.MoveClock as moving
use Rattle.inv_rows.specs.Shapes.Seats as kinds
use Rattle.inv_rows.specs.words.declared.packed.Request.{Request as Asking}
use Rattle.inv_rows.specs.defs.declared.event.Event.TheVariants as events
use Rattle.inv_rows.specs.defs.declared.call.ClockMove.TheVariants as moves
use Rattle.inv_rows.specs.words.declared.packed.Request.TheVariants as requests
use Rattle.inv_rows.proofs.model.Ranges.{bounds_of}
use Rattle.inv_rows.specs.model.Calls.{Phase, Why}
use Rattle.inv_rows.specs.model.Calls.Phase.{Idle, Runs, Scans, Works}
use Rattle.inv_rows.specs.model.Links.{root_at}
use Rattle.inv_rows.specs.model.Locals.{Local, after, begun}
use Rattle.inv_rows.specs.model.Machine.{base_move, move_move, move_turn}
use Rattle.inv_rows.specs.model.Memory.{found, place_in, upd}
use Rattle.inv_rows.specs.model.MoveClock.{after_hand_over, all_met, helping, next_request}
use Rattle.inv_rows.specs.model.Phases.{Base, MoveAt, Outcome, ends, goes}
use Rattle.inv_rows.specs.model.Phases.Base.{Allocate, Begin, Clear, Finish, GiveUp, Move, Protect, Release, Reload, Retire, Write}
use Rattle.inv_rows.specs.model.Phases.Ending.{Clocked}
use Rattle.inv_rows.specs.model.Phases.MoveAt.{AnswerAsked, CheckEra, ExchangeClock, HandOver, HideEra, HideLate, LoadAsked, LoadEra, LoadRequest, LoadReserved, ShowEra}
use Rattle.inv_rows.specs.model.Phases.Outcome.{Ends, Goes}
use Rattle.inv_rows.specs.model.Posts.{counted, tag_of}
use Rattle.inv_rows.specs.model.SlowPath.{asking}
use Rattle.inv_rows.specs.model.Steps.{phase_move}
use Rattle.inv_rows.specs.model.World.{World, begin, finds, offered, step}
use Rattle.inv_rows.specs.model.declared.post.Post.{Post}
use Rattle.inv_rows.specs.defs.declared.call.Call.{Call}
use Rattle.inv_rows.specs.defs.declared.event.Root.{Root}
use Rattle.inv_rows.proofs.Shapes.Frame.{after_seated, begin_begins, begin_stays, begun_seated, moves_with, seat_stays, seat_steps}
use Rattle.inv_rows.proofs.Shapes.Inside.{shape_moves}
use Rattle.inv_rows.proofs.Shapes.Kept.{bared_fits, begun_fits, counted_fits, one_moves, run_counted, work_counted}
use Rattle.inv_rows.proofs.Shapes.Shapes.{shape_grows}
use Rattle.inv_rows.specs.Shapes.Frame.{Grows, Moves, Onward, Owes, Passed, Seated}
use Rattle.inv_rows.specs.Shapes.Seats.{Kind, PhaseFits, PostFits, Run, kind_of, suits}
use Rattle.inv_rows.specs.Shapes.Seats.Kind.{ToClear, ToFill, ToFinish, ToFollow, ToGiveUp, ToMove, ToOpen, ToRelease, ToRetire}
use Rattle.inv_rows.proofs.Covering.Requests.Going.{link_few}
use Rattle.inv_rows.proofs.Covering.Requests.Helping.{asker_of}
use Rattle.inv_rows.proofs.Covering.Requests.Kept.{at_of}
use Rattle.inv_rows.specs.Covering.Requests.Context.{At}
use Rattle.inv_rows.specs.Covering.Requests.NextDeals.{next_deals}
use Rattle.inv_rows.specs.Covering.Requests.Standing.{request_of}
use Rattle.inv_rows.specs.Covering.Requests.Views.{Deal, View, Deal as dealing}
use Rattle.inv_rows.specs.Covering.Requests.Views.Deal.{Answered, Open, Quiet, Taken}
use Rattle.inv_ends.proofs.Told.Births.{each_stores}
use Rattle.inv_ends.proofs.Walks.Over.{hand_over, help_over, over_open, over_stays, read_over}
use Rattle.inv_ends.specs.Moves.{AtRequest, BaseMet, MeetingBegin, MeetingKept, MeetingNeeds, MeetingStart, MetAnswered, MetOpen, MoveMet, Past, PhaseMet, done_at, met_after, met_at, met_base, met_in, met_of, open_at, over_in}
use Rattle.inv_rows.specs.words.Packed.{answered_word, pending_word, read_request, read_reservation}
use Rattle.inv_rows.proofs.words.Parts.{read_request-pending, read_request-answered}
use Rattle.inv_rows.specs.words.Place.{Place, is_valid}
use Rattle.inv_rows.specs.words.Place.Place.{Clock, Head, Index, Request}
use Rattle.inv_rows.specs.words.declared.layout.Layout.{Layout}
use Rattle.std.specs.Prelude.{[], ◌∷◌, Option, Some, None, nat_lt, nat_le, if◌then◌else◌, ◌==◌, ◌&&◌, ◌||◌}
use Rattle.inv_rows.proofs.Covering.Requests.Serving.{read_idle}
use Rattle.inv_rows.proofs.model.Facts.{no_truth_2}

abbrev pub Known : Type 0
Known = ℕ → ℕ → ℕ → Bool

-- more requests may be over
past_more : (over next met : Known) (upto : ℕ) → ((k t j : ℕ) → over k t j ≡ true → next k t j ≡ true) → Past over met upto → Past next met upto
past_more over next met upto f p = λ k t j b h. f k t j (p k t j b h)

request_more : (over next met : Known) (seat tag index : ℕ) → ((k t j : ℕ) → over k t j ≡ true → next k t j ≡ true) → AtRequest over met seat tag index → AtRequest next met seat tag index
request_more over next met seat tag index f p = record { before = past_more over next met seat f p.before; tags = p.tags; indexes = p.indexes }

move_more : (over next met : Known) (seats : ℕ) (at : MoveAt) → ((k t j : ℕ) → over k t j ≡ true → next k t j ≡ true) → MoveMet over met seats at → MoveMet next met seats at
move_more over next met seats (LoadEra helps) f p = tt
move_more over next met seats (LoadRequest era seat shows) f p = past_more over next met seat f p
move_more over next met seats (ShowEra era seat tag index root) f p = request_more over next met seat tag index f p
move_more over next met seats (LoadAsked era seat tag index root) f p = request_more over next met seat tag index f p
move_more over next met seats (CheckEra era seat tag index root link) f p = request_more over next met seat tag index f p
move_more over next met seats (AnswerAsked era seat tag index root link) f p = request_more over next met seat tag index f p
move_more over next met seats (LoadReserved era seat tag index root link) f p = request_more over next met seat tag index f p
move_more over next met seats (HandOver era seat tag index root link old) f p = request_more over next met seat tag index f p
move_more over next met seats (HideEra era) f p = past_more over next met seats f p
move_more over next met seats (HideLate seen) f p = tt
move_more over next met seats (ExchangeClock era) f p = past_more over next met seats f p

base_more : (over next met : Known) (seats : ℕ) (base : Base) → ((k t j : ℕ) → over k t j ≡ true → next k t j ≡ true) → BaseMet over met seats base → BaseMet next met seats base
base_more over next met seats (Begin at) f p = tt
base_more over next met seats (Protect aim index root steps at) f p = tt
base_more over next met seats (Reload parent index slot era steps) f p = tt
base_more over next met seats (Clear rows index) f p = tt
base_more over next met seats Finish f p = tt
base_more over next met seats (Release index) f p = tt
base_more over next met seats (Allocate at) f p = tt
base_more over next met seats (Write slot row place) f p = tt
base_more over next met seats (GiveUp slot) f p = tt
base_more over next met seats (Retire at) f p = tt
base_more over next met seats (Move at) f p = move_more over next met seats at f p

phase_more : (over next met : Known) (seats : ℕ) (phase : Phase) → ((k t j : ℕ) → over k t j ≡ true → next k t j ≡ true) → PhaseMet over met seats phase → PhaseMet next met seats phase
phase_more over next met seats Idle f p = tt
phase_more over next met seats (Runs why base) f p = base_more over next met seats base f p
phase_more over next met seats (Scans later at) f p = tt
phase_more over next met seats (Works work) f p = tt

-- where a call comes to by no step of a machine no mover has loaded its era
met_grows : (layout : Layout) (i : ℕ) (over met : Known) → is_valid layout ≡ true → Grows (PostFits layout i) (λ post phase. PhaseMet over met layout.config.seats phase)
met_grows layout i over met v = let g = shape_grows layout i v in record {
  guarded = g.guarded;
  withdraws = g.withdraws;
  copies = g.copies;
  idle = λ post q. tt;
  begins = λ post task s e q. tt;
  opens = λ post task s q. tt;
  follows = λ post head tail s q. tt;
  allocates = λ post task s q. tt;
  writes = λ post task slot row s q. tt;
  clears = λ post task next s q. tt;
  clears_next = λ post next s q. tt;
  finishes = λ post task next s e q. tt;
  gives_up = λ post answer slot q. tt;
  retires = λ post answer slot q. tt;
  tidies = λ post later m q. tt;
  advances = λ post q. tt;
  clears_kept = λ post let_go s q. tt;
  releases = λ post let_go s e q. tt;
  scans = λ post later number b q. tt;
  gives_back = λ post later place slot q. tt;
  works = λ post work n s q. tt;
}

-- a machine that does not move the clock goes on to none that does
other_base : (layout : Layout) (over met : Known) (why : Why) (base : Base) (post : Post) → kinds.moves (kind_of why) ≡ false → Run layout why base post → BaseMet over met layout.config.seats base
other_base layout over met why (Begin at) post f r = tt
other_base layout over met why (Protect aim index root steps at) post f r = tt
other_base layout over met why (Reload parent index slot era steps) post f r = tt
other_base layout over met why (Clear rows index) post f r = tt
other_base layout over met why Finish post f r = tt
other_base layout over met why (Release index) post f r = tt
other_base layout over met why (Allocate at) post f r = tt
other_base layout over met why (Write slot row place) post f r = tt
other_base layout over met why (GiveUp slot) post f r = tt
other_base layout over met why (Retire at) post f r = tt
other_base layout over met why (Move at) post f r = no_truth_2 (sym f ∙ r.suited)

abbrev pub Onto : (over met : Known) → ℕ → Why → Post → Outcome → Type 0
Onto over met seats why post outcome = Onward (λ p phase. PhaseMet over met seats phase) why post outcome

other_on : (layout : Layout) (over met : Known) (why : Why) (post : Post) (outcome : Outcome) → kinds.moves (kind_of why) ≡ false → Passed (PhaseFits layout) why post outcome → Onto over met layout.config.seats why post outcome
other_on layout over met why post (Goes base) f r = other_base layout over met why base post f r
other_on layout over met why post (Ends ending) f r = tt

abbrev is_moving : Base → Bool
is_moving (Move at) = true
is_moving base = false

apart : (base : Base) (kind : Kind) → is_moving base ≡ false → suits base kind ≡ true → kinds.moves kind ≡ false
apart base ToOpen n s = refl
apart base ToFollow n s = refl
apart base ToFill n s = refl
apart base ToClear n s = refl
apart base ToFinish n s = refl
apart base ToRelease n s = refl
apart base ToGiveUp n s = refl
apart base ToRetire n s = refl
apart (Begin at) ToMove n s = sym s
apart (Protect aim index root steps at) ToMove n s = sym s
apart (Reload parent index slot era steps) ToMove n s = sym s
apart (Clear rows index) ToMove n s = sym s
apart Finish ToMove n s = sym s
apart (Release index) ToMove n s = sym s
apart (Allocate at) ToMove n s = sym s
apart (Write slot row place) ToMove n s = sym s
apart (GiveUp slot) ToMove n s = sym s
apart (Retire at) ToMove n s = sym s
apart (Move at) ToMove n s = n

-- all seats up to one more
past_next : (over met : Known) (seat : ℕ) → Past over met seat → ((t j : ℕ) → met seat t j ≡ true → over seat t j ≡ true) → Past over met (seat + 1)
past_next over met seat p f k t j b h = by (k == seat) refl where
  by : (same : Bool) → (k == seat) ≡ same → over k t j ≡ true
  by true e =
      let q : seat ≡ k = grind (arith, nat_tests) in
      subst (λ (n : ℕ). over n t j ≡ true) q (f t j (subst (λ (n : ℕ). met n t j ≡ true) (sym q) h))
  by false e = let c : k < seat = grind (arith, nat_tests) in p k t j c h

past_over : (over met : Known) (seat tag index : ℕ) → AtRequest over met seat tag index → over seat tag index ≡ true → Past over met (seat + 1)
past_over over met seat tag index p o = past_next over met seat p.before (λ t j h. by t j (p.tags t j h) (p.indexes t j h)) where
  by : (t j : ℕ) → tag ≡ t → index ≡ j → over seat t j ≡ true
  by t j a b = subst (λ (n : ℕ). over seat t n ≡ true) b (subst (λ (n : ℕ). over seat n index ≡ true) a o)

past_less : (over met : Known) (a b : ℕ) → b ≤ a → Past over met a → Past over met b
past_less over met a b l p = λ k t j c h. p k t j (omega (arith, l, c)) h

-- the next request, or all were met
last_on : (over met : Known) (seats era : ℕ) (shows : Bool) → Past over met seats → MoveMet over met seats (all_met era shows)
last_on over met seats era true p = p
last_on over met seats era false p = p

next_by : (over met : Known) (seats era seat : ℕ) (shows more : Bool) → nat_lt (seat + 1) seats ≡ more → Past over met (seat + 1) → MoveMet over met seats (if more then LoadRequest era (seat + 1) shows else all_met era shows)
next_by over met seats era seat shows true e p = p
next_by over met seats era seat shows false e p = last_on over met seats era shows (past_less over met (seat + 1) seats (grind (arith, nat_tests)) p)

next_on : (over met : Known) (post : Post) (era seat : ℕ) (shows : Bool) → Past over met (seat + 1) → MoveMet over met post.layout.config.seats (next_request post era seat shows)
next_on over met post era seat shows p = next_by over met post.layout.config.seats era seat shows (nat_lt (seat + 1) post.layout.config.seats) refl p

-- at a request word
seen_before : (over met : Known) (found era seat : ℕ) (shows : Bool) → Past over met seat → Past over (met_at (LoadRequest era seat shows) found met) seat
seen_before over met found era seat shows p k t j b h = let e : (k == seat) ≡ false = grind (arith, nat_tests) in p k t j b (rw e at h)

seen_here : (met : Known) (found era seat t j : ℕ) (shows : Bool) → met_at (LoadRequest era seat shows) found met seat t j ≡ true → met_of (read_request found) t j ≡ true
seen_here met found era seat t j shows h = let e : (seat == seat) ≡ true = grind (arith, nat_tests) in rw e at h

helping_on : (over met : Known) (seats era seat tag index : ℕ) (root : Root) (shows : Bool) → AtRequest over met seat tag index → MoveMet over met seats (helping era seat tag index root shows)
helping_on over met seats era seat tag index root true p = p
helping_on over met seats era seat tag index root false p = p

met_tag : (tag index word t j : ℕ) → met_of (Some (requests.Pending tag index word)) t j ≡ true → tag ≡ t
met_tag tag index word t j h = grind (arith, nat_tests)

met_index : (tag index word t j : ℕ) → met_of (Some (requests.Pending tag index word)) t j ≡ true → index ≡ j
met_index tag index word t j h = grind (arith, nat_tests)

read_on : (over met : Known) (post : Post) (era seat : ℕ) (shows : Bool) (x : Option Asking) → Past over met seat → ((t j : ℕ) → met seat t j ≡ true → met_of x t j ≡ true) → MoveMet over met post.layout.config.seats (moving.met post era seat shows x)
read_on over met post era seat shows (Some (requests.Pending tag index word)) p f =
    helping_on over met post.layout.config.seats era seat tag index (root_at post.layout word) shows (record { before = p; tags = λ t j h. met_tag tag index word t j (f t j h); indexes = λ t j h. met_index tag index word t j (f t j h) })
read_on over met post era seat shows (Some (requests.Answered link answered)) p f = next_on over met post era seat shows (past_next over met seat p (λ t j h. no_truth_2 (f t j h)))
read_on over met post era seat shows (Some requests.Idle) p f = next_on over met post era seat shows (past_next over met seat p (λ t j h. no_truth_2 (f t j h)))
read_on over met post era seat shows None p f = next_on over met post era seat shows (past_next over met seat p (λ t j h. no_truth_2 (f t j h)))

-- the clock is loaded
first_on : (over met : Known) (seats found : ℕ) (helps : Bool) → MoveMet over (met_at (LoadEra helps) found met) seats (moving.moving helps found)
first_on over met seats found true = λ k t j b h. no_truth_2 h
first_on over met seats found false = λ k t j b h. no_truth_2 h

load_on : (over met : Known) (seats found : ℕ) (helps : Bool) (why : Why) (post left : Post) (last : Bool) → Onto over (met_at (LoadEra helps) found met) seats why left (if last then ends post [] (Clocked (moves.EraSpent found)) else goes post [] (Move (moving.moving helps found))).outcome
load_on over met seats found helps why post left true = tt
load_on over met seats found helps why post left false = first_on over met seats found helps

check_on : (over met : Known) (seats era seat tag index link found : ℕ) (root : Root) (why : Why) (post left : Post) (same : Bool) → AtRequest over met seat tag index → Onto over met seats why left (if same then goes post [] (Move (AnswerAsked era seat tag index root link)) else goes post [] (Move (HideLate found))).outcome
check_on over met seats era seat tag index link found root why post left true p = p
check_on over met seats era seat tag index link found root why post left false p = tt

answer_on : (over met : Known) (era seat tag index link found : ℕ) (root : Root) (why : Why) (post left : Post) (same test : Bool) → test ≡ same → AtRequest over met seat tag index → (test ≡ false → over seat tag index ≡ true)
    → Onto over met post.layout.config.seats why left (if test then goes post [] (Move (LoadReserved era seat tag index root link)) else goes post [] (Move (next_request post era seat true))).outcome
answer_on over met era seat tag index link found root why post left true test e p f = rw e p
answer_on over met era seat tag index link found root why post left false test e p f = rw e (next_on over met post era seat true (past_over over met seat tag index p (f e)))

reserved_on : (over met : Known) (era seat tag index link old : ℕ) (root : Root) (why : Why) (post left : Post) (same : Bool) → AtRequest over met seat tag index → over seat tag index ≡ true
    → Onto over met post.layout.config.seats why left (if same then goes post [] (Move (HandOver era seat tag index root link old)) else goes post [] (Move (next_request post era seat true))).outcome
reserved_on over met era seat tag index link old root why post left true p o = p
reserved_on over met era seat tag index link old root why post left false p o = next_on over met post era seat true (past_over over met seat tag index p o)

hand_on : (over met : Known) (era seat tag index old : ℕ) (why : Why) (post left : Post) (same : Bool) → Past over met (seat + 1) → Onto over met post.layout.config.seats why left (after_hand_over era seat tag index old post same).outcome
hand_on over met era seat tag index old why post left true p = next_on over met post era seat true p
hand_on over met era seat tag index old why post left false p = next_on over met post era seat true p

clock_on : (over met : Known) (seats era found : ℕ) (why : Why) (post left : Post) (same : Bool) → Onto over met seats why left (if same then ends post (events.Era (era + 1) ∷ []) (Clocked (moves.Moved (era + 1))) else ends post [] (Clocked (moves.Other found))).outcome
clock_on over met seats era found why post left true = tt
clock_on over met seats era found why post left false = tt

-- what a mover needs of the requests where it passes a seat
pub record Passes (over : Known) (mem : Place → ℕ) (layout : Layout) (at : MoveAt) : Type 0 where
  pub helps : (era seat tag index : ℕ) (root : Root) (link : ℕ) → at ≡ AnswerAsked era seat tag index root link → (mem (Request seat) == asking layout tag index root) ≡ false → over seat tag index ≡ true
  pub reads : (era seat tag index : ℕ) (root : Root) (link : ℕ) → at ≡ LoadReserved era seat tag index root link → over seat tag index ≡ true
  pub hands : (era seat tag index : ℕ) (root : Root) (link old : ℕ) → at ≡ HandOver era seat tag index root link old → over seat tag index ≡ true

move_on : (over met : Known) (mem : Place → ℕ) (why : Why) (at : MoveAt) (post left last : Post) → Passes over mem post.layout at → MoveMet over met post.layout.config.seats at
    → Onto over (met_at at (found (move_move at last) (mem (place_in (move_move at last)))) met) post.layout.config.seats why left (move_turn at post (found (move_move at last) (mem (place_in (move_move at last))))).outcome
move_on over met mem why (LoadEra helps) post left last n p = load_on over met post.layout.config.seats (mem Clock) helps why post left (mem Clock == post.layout.config.last_era)
move_on over met mem why (LoadRequest era seat shows) post left last n p =
    read_on over (met_at (LoadRequest era seat shows) (mem (Request seat)) met) post era seat shows (read_request (mem (Request seat))) (seen_before over met (mem (Request seat)) era seat shows p) (λ t j h. seen_here met (mem (Request seat)) era seat t j shows h)
move_on over met mem why (ShowEra era seat tag index root) post left last n p = p
move_on over met mem why (LoadAsked era seat tag index root) post left last n p = p
move_on over met mem why (CheckEra era seat tag index root link) post left last n p = check_on over met post.layout.config.seats era seat tag index link (mem Clock) root why post left (mem Clock == era) p
move_on over met mem why (AnswerAsked era seat tag index root link) post left last n p =
    answer_on over met era seat tag index link (mem (Request seat)) root why post left (mem (Request seat) == asking post.layout tag index root) (mem (Request seat) == asking post.layout tag index root) refl p (n.helps era seat tag index root link refl)
move_on over met mem why (LoadReserved era seat tag index root link) post left last n p =
    reserved_on over met era seat tag index link (read_reservation (mem (Index seat index))).era root why post left ((read_reservation (mem (Index seat index))).tag == tag) p (n.reads era seat tag index root link refl)
move_on over met mem why (HandOver era seat tag index root link old) post left last n p =
    hand_on over met era seat tag index old why post left _ (past_over over met seat tag index p (n.hands era seat tag index root link old refl))
move_on over met mem why (HideEra era) post left last n p = p
move_on over met mem why (HideLate seen) post left last n p = tt
move_on over met mem why (ExchangeClock era) post left last n p = clock_on over met post.layout.config.seats era (mem Clock) why post left (mem Clock == era)

-- a step of any machine
base_on : (layout : Layout) (k : ℕ) (over met : Known) (mem : Place → ℕ) (why : Why) (base : Base) (post last : Post) → post.layout ≡ layout → ((at : MoveAt) → base ≡ Move at → Passes over mem post.layout at) → Run layout why base post → BaseMet over met layout.config.seats base
    → Passed (PhaseFits layout) why (machine.after base post (found (base_move base last) (mem (place_in (base_move base last))))).post (machine.after base post (found (base_move base last) (mem (place_in (base_move base last))))).outcome
    → Onto over (met_base base (found (base_move base last) (mem (place_in (base_move base last)))) met) layout.config.seats why (machine.after base post (found (base_move base last) (mem (place_in (base_move base last))))).post (machine.after base post (found (base_move base last) (mem (place_in (base_move base last))))).outcome
base_on layout k over met mem why (Begin at) post last l n r p h = other_on layout over met why _ (machine.after (Begin at) post (found (base_move (Begin at) last) (mem (place_in (base_move (Begin at) last))))).outcome (apart (Begin at) (kind_of why) refl r.suited) h
base_on layout k over met mem why (Protect aim index root steps at) post last l n r p h =
    other_on layout over met why _ (machine.after (Protect aim index root steps at) post (found (base_move (Protect aim index root steps at) last) (mem (place_in (base_move (Protect aim index root steps at) last))))).outcome (apart (Protect aim index root steps at) (kind_of why) refl r.suited) h
base_on layout k over met mem why (Reload parent index slot era steps) post last l n r p h = other_on layout over met why _ (machine.after (Reload parent index slot era steps) post (mem Head)).outcome (apart (Reload parent index slot era steps) (kind_of why) refl r.suited) h
base_on layout k over met mem why (Clear rows index) post last l n r p h = tt
base_on layout k over met mem why Finish post last l n r p h = tt
base_on layout k over met mem why (Release index) post last l n r p h = tt
base_on layout k over met mem why (Allocate at) post last l n r p h = other_on layout over met why _ (machine.after (Allocate at) post (found (base_move (Allocate at) last) (mem (place_in (base_move (Allocate at) last))))).outcome (apart (Allocate at) (kind_of why) refl r.suited) h
base_on layout k over met mem why (Write slot row place) post last l n r p h = other_on layout over met why _ (machine.after (Write slot row place) post (found (base_move (Write slot row place) last) (mem (place_in (base_move (Write slot row place) last))))).outcome (apart (Write slot row place) (kind_of why) refl r.suited) h
base_on layout k over met mem why (GiveUp slot) post last l n r p h = tt
base_on layout k over met mem why (Retire at) post last l n r p h = other_on layout over met why _ (machine.after (Retire at) post (found (base_move (Retire at) last) (mem (place_in (base_move (Retire at) last))))).outcome (apart (Retire at) (kind_of why) refl r.suited) h
base_on layout k over met mem why (Move at) post last l n r p h =
    let e : post.layout.config.seats ≡ layout.config.seats = ap (λ (t : Layout). t.config.seats) l in
    let x : ℕ = found (move_move at last) (mem (place_in (move_move at last))) in
    subst (λ (s : ℕ). Onto over (met_at at x met) s why (move_turn at post x).post (move_turn at post x).outcome) e (move_on over met mem why at post (move_turn at post x).post last (n at refl) (subst (λ (s : ℕ). MoveMet over met s at) (sym e) p))

phase_owed : (layout : Layout) (k : ℕ) (over met : Known) (mem : Place → ℕ) → is_valid layout ≡ true → (phase : Phase) (post : Post) → ((why : Why) (at : MoveAt) → phase ≡ Runs why (Move at) → Passes over mem post.layout at) → PostFits layout k post → PhaseFits layout post phase → PhaseMet over met layout.config.seats phase
    → Owes (PostFits layout k) (λ p q. PhaseMet over (met_in phase (found (phase_move phase post) (mem (place_in (phase_move phase post)))) met) layout.config.seats q) (counted post) (found (phase_move phase post) (mem (place_in (phase_move phase post)))) phase
phase_owed layout k over met mem v Idle post n q p x = counted_fits layout k post q
phase_owed layout k over met mem v (Runs why base) post n q p x =
    let f : ℕ = found (base_move base post) (mem (place_in (base_move base post))) in
    let m : Moves (PostFits layout k) (PhaseFits layout) why (machine.after base (counted post) f) = shape_moves layout k v why base (counted post) f (counted_fits layout k post q) (run_counted layout why base post p) in
    moves_with why (machine.after base (counted post) f) m (record { post = m.post; phase = base_on layout k over met mem why base (counted post) post q.layout (λ at e. n why at (ap (Runs why) e)) (run_counted layout why base post p) x m.phase })
phase_owed layout k over met mem v (Scans later at) post n q p x = counted_fits layout k post q
phase_owed layout k over met mem v (Works work) post n q p x =
    let f : ℕ = found (phase_move (Works work) post) (mem (place_in (phase_move (Works work) post))) in
    record { post = bared_fits layout k work (counted post) (counted_fits layout k post q); fits = work_counted work post p; stores = each_stores (λ p q. PhaseMet over met layout.config.seats q) (λ p from index era. tt) (counted post) f work }

-- what the part on requests gives a mover that passes a seat
passes_of : (w : World) (i : ℕ) (z : View) → MeetingNeeds w i z → (why : Why) (at : MoveAt) → (w.seat i).phase ≡ Runs why (Move at) → Passes (over_in w z.deal) w.mem (w.seat i).post.layout at
passes_of w i z n why at q =
    let a : At w.mem w.seat i z = at_of w i z n.valid n.below n.seats n.links n.requests in
    record {
      helps = λ era seat tag index root link e h. help_over w i z why era seat tag index root link a (q ∙ ap (λ (x : MoveAt). Runs why (Move x)) e) h;
      reads = λ era seat tag index root link e. read_over w i z why era seat tag index root link a (q ∙ ap (λ (x : MoveAt). Runs why (Move x)) e);
      hands = λ era seat tag index root link old e. hand_over w i z why era seat tag index root link old a (q ∙ ap (λ (x : MoveAt). Runs why (Move x)) e);
    }

met_own : (f : ℕ → Known) (i : ℕ) (x : Known) → upd f i x i ≡ x
met_own f i x = let e : (i == i) ≡ true = grind (arith, nat_tests) in rw e refl

met_other : (f : ℕ → Known) (i k : ℕ) (x : Known) → (k == i) ≡ false → upd f i x k ≡ f k
met_other f i k x e = rw e refl

pub meeting_kept : MeetingKept
meeting_kept w i z met n x =
    let l : Local = w.seat i in
    let m : Known = met_in l.phase (finds w i) (met i) in
    let g : Seated (PostFits w.layout i) (λ p q. PhaseMet (over_in w z.deal) m w.layout.config.seats q) (after (offered w i) (finds w i)) =
    after_seated (met_grows w.layout i (over_in w z.deal) m n.valid) (offered w i) (finds w i) (phase_owed w.layout i (over_in w z.deal) (met i) w.mem n.valid l.phase l.post (passes_of w i z n) (n.seats.fits i).post (n.seats.fits i).phase (x.movers i)) in
    record { movers = λ k. by k (k == i) refl (subst (λ (y : Local). PhaseMet (over_in w z.deal) m w.layout.config.seats y.phase) (sym (seat_steps w i)) g.phase) }
  where
    grows : (met : Known) (phase : Phase) → PhaseMet (over_in w z.deal) met w.layout.config.seats phase → PhaseMet (over_in (step w i) (next_deals w i z.deal)) met w.layout.config.seats phase
    grows met phase p = phase_more (over_in w z.deal) (over_in (step w i) (next_deals w i z.deal)) met w.layout.config.seats phase (λ k t j h. over_stays w i k t j z n h) p

    by : (k : ℕ) (same : Bool) → (k == i) ≡ same → PhaseMet (over_in w z.deal) (met_in (w.seat i).phase (finds w i) (met i)) w.layout.config.seats ((step w i).seat i).phase → PhaseMet (over_in (step w i) (next_deals w i z.deal)) (met_after w i met k) w.layout.config.seats ((step w i).seat k).phase
    by k true e h =
        let q : i ≡ k = grind (arith, nat_tests) in
        subst (λ (j : ℕ). PhaseMet (over_in (step w i) (next_deals w i z.deal)) (met_after w i met j) w.layout.config.seats ((step w i).seat j).phase) q
        (grows (met_after w i met i) ((step w i).seat i).phase (subst (λ (f : Known). PhaseMet (over_in w z.deal) f w.layout.config.seats ((step w i).seat i).phase) (sym (met_own met i (met_in (w.seat i).phase (finds w i) (met i)))) h))
    by k false e h =
        grows (met_after w i met k) ((step w i).seat k).phase
        (subst (λ (y : Local). PhaseMet (over_in w z.deal) (met_after w i met k) w.layout.config.seats y.phase) (sym (seat_stays w i k e)) (subst (λ (f : Known). PhaseMet (over_in w z.deal) f w.layout.config.seats (w.seat k).phase) (sym (met_other met i k (met_in (w.seat i).phase (finds w i) (met i)) e)) (x.movers k)))

-- the tags of posts stay where a call begins
begin_over : (w : World) (i : ℕ) (call : Call) (deals : ℕ → Deal) (k t j : ℕ) (same : Bool) → (k == i) ≡ same → over_in w deals k t j ≡ true → over_in (begin w i call) deals k t j ≡ true
begin_over w i call deals k t j true e h = rw e (let q : k ≡ i = grind (arith, nat_tests) in subst (λ (n : ℕ). (nat_lt t (tag_of (w.seat n).post j) || done_at t j (deals k)) ≡ true) q h)
begin_over w i call deals k t j false e h = rw e h

abbrev SeatMet : Known → (ℕ → Known) → ℕ → ℕ → Local → Type 0
SeatMet over met seats k l = PhaseMet over (met k) seats l.phase

pub meeting_begin : MeetingBegin
meeting_begin w i call deals met v s x =
    let over : Known = over_in (begin w i call) deals in
    let g : Seated (PostFits w.layout i) (λ p q. PhaseMet over (met i) w.layout.config.seats q) (begun (w.seat i) call) = begun_seated (met_grows w.layout i over (met i) v) (w.seat i) call (begun_fits w.layout i (w.seat i).post (s.fits i).post) in
    record {
      movers = one_moves (SeatMet over met w.layout.config.seats) w.seat (begin w i call).seat i (λ k. phase_more (over_in w deals) over (met k) w.layout.config.seats (w.seat k).phase (λ n t j h. begin_over w i call deals n t j (n == i) refl h) (x.movers k)) (λ k. begin_stays w i k call)
          (subst (SeatMet over met w.layout.config.seats i) (sym (begin_begins w i call)) g.phase);
    }

pub meeting_start : MeetingStart
meeting_start layout deals met = record { movers = λ i. tt }

pub met_answered : MetAnswered
met_answered w i k t j era why z met r x e b h =
    let p : Past (over_in w z.deal) (met i) w.layout.config.seats = subst (PhaseMet (over_in w z.deal) (met i) w.layout.config.seats) e (x.movers i) in
    let o : over_in w z.deal k t j ≡ true = p k t j b h in
    over_open t j (z.deal k) (z.tag k) (r.parts.tags k) (subst (λ (n : ℕ). (nat_lt t n || done_at t j (z.deal k)) ≡ true) (r.locals.tags k j) o)

-- an answer in a deal has its bits
pub record Fine (link era : ℕ) : Type 0 where
  pub link_in : link < 2 ^ 24
  pub some : 0 < era
  pub era_in : era < 2 ^ 32

fine_of : (w : World) (i : ℕ) (z : View) (t link era : ℕ) → At w.mem w.seat i z → (nat_lt (t + 1) era && (nat_le era z.clock && nat_le link ((w.seat i).post.layout.config.slots + 1))) ≡ true → Fine link era
fine_of w i z t link era a h =
    let b = bounds_of (w.seat i).post.layout a.valid in
    let x : t + 1 < era = grind (arith, nat_tests) in
    let y : era ≤ z.clock = grind (arith, nat_tests) in
    let s : link ≤ (w.seat i).post.layout.config.slots + 1 = grind (arith, nat_tests) in
    record { link_in = omega (arith, b.slots); some = omega arith; era_in = omega (arith, a.facts.parts.clock, b.eras) }

-- the word of an answer reads as one
no_answer : (link era t j : ℕ) → Fine link era → met_of (read_request (answered_word link era)) t j ≡ false
no_answer link era t j f = ap (λ (x : Option Asking). met_of x t j) (read_request-answered link era f.link_in f.some f.era_in)

met_deal : (w : World) (i : ℕ) (z : View) (k t j : ℕ) (d : Deal) → At w.mem w.seat i z → z.deal k ≡ d → met_of (read_request (request_of d)) t j ≡ true → open_at t j d ≡ true
met_deal w i z k t j Quiet a e h = no_truth_2 (sym (ap (λ (x : Option Asking). met_of x t j) read_idle) ∙ h)
met_deal w i z k t j (Open t' j' w') a e h =
    let s = asker_of w.mem w.seat i z k t' j' w' a e in
    let n : w' < 2 ^ 26 = rw (s.is) (link_few w.mem w.seat i z s.root a s.there) in
    let b = bounds_of (w.seat i).post.layout a.valid in
    let y : t' + 1 < z.clock = grind (arith, nat_tests, rw e at (a.facts.parts.timely k)) in
    let r : read_request (pending_word t' j' w') ≡ Some (requests.Pending t' j' w') = read_request-pending t' j' w' (omega (arith, a.facts.parts.clock, b.eras)) (omega (arith, s.below, b.indexes)) n in
    sym (ap (λ (x : Option Asking). met_of x t j) r) ∙ h
met_deal w i z k t j (Answered t' j' w' l r m) a e h = no_truth_2 (sym (no_answer l r t j (fine_of w i z t' l r a (rw e at (a.facts.parts.timely k)))) ∙ h)
met_deal w i z k t j (dealing.Passed t' j' w' l r) a e h = no_truth_2 (sym (no_answer l r t j (fine_of w i z t' l r a (rw e at (a.facts.parts.timely k)))) ∙ h)
met_deal w i z k t j (Taken t' j' w' l r) a e h = no_truth_2 (sym (no_answer l r t j (fine_of w i z t' l r a (rw e at (a.facts.parts.timely k)))) ∙ h)

seat_met : (w : World) (i : ℕ) (z : View) (met : Known) (k t j seat : ℕ) (same : Bool) → (k == seat) ≡ same → At w.mem w.seat i z → met k t j ≡ false → (if same then met_of (read_request (w.mem (Request seat))) t j else met k t j) ≡ true → open_at t j (z.deal k) ≡ true
seat_met w i z met k t j seat true e a f h =
    let q : seat ≡ k = grind (arith, nat_tests) in
    let y : met_of (read_request (w.mem (Request k))) t j ≡ true = subst (λ (n : ℕ). met_of (read_request (w.mem (Request n))) t j ≡ true) q h in
    met_deal w i z k t j (z.deal k) a refl (subst (λ (n : ℕ). met_of (read_request n) t j ≡ true) (a.facts.words.requests k) y)
seat_met w i z met k t j seat false e a f h = no_truth_2 (sym f ∙ h)

move_met : (w : World) (i : ℕ) (z : View) (met : Known) (k t j : ℕ) (at : MoveAt) (post : Post) → At w.mem w.seat i z → met k t j ≡ false → met_at at (found (move_move at post) (w.mem (place_in (move_move at post)))) met k t j ≡ true → open_at t j (z.deal k) ≡ true
move_met w i z met k t j (LoadEra helps) post a f h = no_truth_2 h
move_met w i z met k t j (LoadRequest era seat shows) post a f h = seat_met w i z met k t j seat (k == seat) refl a f h
move_met w i z met k t j (ShowEra era seat tag index root) post a f h = no_truth_2 (sym f ∙ h)
move_met w i z met k t j (LoadAsked era seat tag index root) post a f h = no_truth_2 (sym f ∙ h)
move_met w i z met k t j (CheckEra era seat tag index root link) post a f h = no_truth_2 (sym f ∙ h)
move_met w i z met k t j (AnswerAsked era seat tag index root link) post a f h = no_truth_2 (sym f ∙ h)
move_met w i z met k t j (LoadReserved era seat tag index root link) post a f h = no_truth_2 (sym f ∙ h)
move_met w i z met k t j (HandOver era seat tag index root link old) post a f h = no_truth_2 (sym f ∙ h)
move_met w i z met k t j (HideEra era) post a f h = no_truth_2 (sym f ∙ h)
move_met w i z met k t j (HideLate seen) post a f h = no_truth_2 (sym f ∙ h)
move_met w i z met k t j (ExchangeClock era) post a f h = no_truth_2 (sym f ∙ h)

base_met : (w : World) (i : ℕ) (z : View) (met : Known) (k t j : ℕ) (base : Base) (post : Post) → At w.mem w.seat i z → met k t j ≡ false → met_base base (found (base_move base post) (w.mem (place_in (base_move base post)))) met k t j ≡ true → open_at t j (z.deal k) ≡ true
base_met w i z met k t j (Begin at) post a f h = no_truth_2 (sym f ∙ h)
base_met w i z met k t j (Protect aim index root steps at) post a f h = no_truth_2 (sym f ∙ h)
base_met w i z met k t j (Reload parent index slot era steps) post a f h = no_truth_2 (sym f ∙ h)
base_met w i z met k t j (Clear rows index) post a f h = no_truth_2 (sym f ∙ h)
base_met w i z met k t j Finish post a f h = no_truth_2 (sym f ∙ h)
base_met w i z met k t j (Release index) post a f h = no_truth_2 (sym f ∙ h)
base_met w i z met k t j (Allocate at) post a f h = no_truth_2 (sym f ∙ h)
base_met w i z met k t j (Write slot row place) post a f h = no_truth_2 (sym f ∙ h)
base_met w i z met k t j (GiveUp slot) post a f h = no_truth_2 (sym f ∙ h)
base_met w i z met k t j (Retire at) post a f h = no_truth_2 (sym f ∙ h)
base_met w i z met k t j (Move at) post a f h = move_met w i z met k t j at post a f h

phase_met : (w : World) (i : ℕ) (z : View) (met : Known) (k t j : ℕ) (phase : Phase) (post : Post) → At w.mem w.seat i z → met k t j ≡ false → met_in phase (found (phase_move phase post) (w.mem (place_in (phase_move phase post)))) met k t j ≡ true → open_at t j (z.deal k) ≡ true
phase_met w i z met k t j Idle post a f h = no_truth_2 (sym f ∙ h)
phase_met w i z met k t j (Runs why base) post a f h = base_met w i z met k t j base post a f h
phase_met w i z met k t j (Scans later at) post a f h = no_truth_2 (sym f ∙ h)
phase_met w i z met k t j (Works work) post a f h = no_truth_2 (sym f ∙ h)

pub met_open : MetOpen
met_open w i k t j z met n f h =
    phase_met w i z (met i) k t j (w.seat i).phase (w.seat i).post (at_of w i z n.valid n.below n.seats n.links n.requests) f (sym (ap (λ (g : Known). g k t j) (met_own met i (met_in (w.seat i).phase (finds w i) (met i)))) ∙ h)
