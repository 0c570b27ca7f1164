-- Each step inside a machine keeps the eras of its seat at most the clock.
use Rattle.std.proofs.Common.{ℕ, ◌≡◌, ◌≤◌, ◌+◌, Bool, true, false, Option, Some, None, ap, sym, subst, arith}
use Rattle.std.proofs.lemmas.Bool.Decides.{nat_tests}
use Rattle.std.specs.Prelude.{◌==◌, ◌||◌, nat_lt, nat_le, if◌then◌else◌, is_some}
use Rattle.wfe_core.specs.words.Place.{Place, has, is_valid, claim_word}
use Rattle.wfe_core.specs.words.Place.Place.{Clock, Head, Claim, Index, Interval, Life, Request as RequestOf}
use Rattle.wfe_core.specs.words.Packed.{read_request, read_reservation, reservation_word}
use Rattle.wfe_core.specs.words.declared.config.Config.{Config}
use Rattle.wfe_core.specs.words.declared.layout.Layout.{Layout}
use Rattle.wfe_core.specs.words.declared.packed.Request.{Request}
use Rattle.wfe_core.specs.words.declared.packed.Reservation.{Reservation}
use Rattle.wfe_core.specs.words.declared.packed.Request.TheVariants as requests
use Rattle.wfe_core.specs.defs.declared.event.Root.{Root}
use Rattle.wfe_core.specs.defs.declared.lifetime.Interval.{Interval as Span}
use Rattle.wfe_core.specs.declared.post.Post.{Post}
use Rattle.wfe_core.specs.Memory.{place_in, found, written, bump}
use Rattle.wfe_core.specs.Guards.{from_to}
use Rattle.wfe_core.specs.Links.{link_place, link_number, root_at}
use Rattle.wfe_core.proofs.Roots.{root_at_link}
use Rattle.wfe_core.specs.Posts.{with_row, with_tag, tag_of, withdrawn, lower, upper}
use Rattle.wfe_core.proofs.Ranges.{bounds_of}
use Rattle.wfe_core.specs.Rounds.{scheme_of}
use Rattle.wfe_core.specs.Phases.{Aim, Tries, Endless, Failed, BeginAt, HazardAt, ProtectAt, Walk, AllocateAt, RetireAt, MoveAt, RowOf, Base}
use Rattle.wfe_core.specs.Phases.BeginAt.{LoadLower, PublishSpan}
use Rattle.wfe_core.specs.Phases.ProtectAt.{LoadClock, PublishEra, LoadLink, CheckClock, PublishRequest, LoadOwnClock, PublishHelper, LoadOwnLink, CheckOwnClock, AnswerOwn, LoadAnswer, TakeAnswer, WithdrawRequest, WithdrawHelper, LoadWithin, CheckUpper, RaiseUpper, ByHazard}
use Rattle.wfe_core.specs.Phases.HazardAt.{FirstLink, PublishLink, CheckLink}
use Rattle.wfe_core.specs.Phases.AllocateAt.{LoadBirth, ClaimSlot, StoreLife}
use Rattle.wfe_core.specs.Phases.RetireAt.{LoadLife, LoadRetire, StoreRetired}
use Rattle.wfe_core.specs.Phases.MoveAt.{LoadEra, LoadRequest, ShowEra, LoadAsked, CheckEra, AnswerAsked, LoadReserved, HandOver, HideEra, HideLate, ExchangeClock}
use Rattle.wfe_core.specs.Phases.Base.{Begin, Protect, Reload, Clear, Finish, Release, Allocate, Write, GiveUp, Retire, Move}
use Rattle.wfe_core.specs.Protect.{trying, held_post, told_held}
use Rattle.wfe_core.specs.SlowPath.{own_request, answer_in, lost_turn, asking}
use Rattle.wfe_core.specs.Spans.{eras_word}
use Rattle.wfe_core.specs.Allocate.{is_claimed, next_slot, walk_past, walking}
use Rattle.wfe_core.specs.WriteRow.{last_written, after_write}
use Rattle.wfe_core.specs.MoveClock.{after_hand_over, all_met, next_request, helping, met, moving}
use Rattle.wfe_core.specs.Machine.{begin_move, hazard_move, protect_move, allocate_move, retire_move, move_move, base_move, after, begin_turn, hazard_turn, protect_turn, allocate_turn, retire_turn, move_turn}
use Rattle.wfe_core.specs.Calls.{Why}
use Rattle.wfe_core.specs.words.Schemes.{has_one_interval, publishes_rows}
use Rattle.inv_rows.specs.Shapes.Frame.{StepsOn}
use Rattle.inv_rows.specs.Shapes.Seats.{Run, move_fits}
use Rattle.inv_rows.specs.Shapes.Eras.{EraIn, SpanIn, AskIn, AskedIn, AskingIn, RequestIn, WordIn, TurnIn, MoverIn, HelpsIn, protect_eras, begin_eras, allocate_eras, retire_eras, retire_needs, move_eras, base_eras, base_needs, PhaseEras, PostEras}
use Rattle.inv_rows.proofs.Shapes.Finds.{request_read, index_read, birth_read}
use Rattle.inv_rows.proofs.Shapes.Inside.{row_fits, tag_fits, span_fits, withdrawn_fits, walks_of, next_in}
use Rattle.inv_rows.proofs.Shapes.Machines.{steps_if, held_post_keeps, concluded_steps}
use Rattle.inv_rows.proofs.Shapes.Spans.{own_span}
use Rattle.inv_rows.proofs.Shapes.Indexes.{shown_eras}
use Rattle.inv_rows.proofs.Shapes.Tries.{helps_plain}

-- the words that a step finds
pub record Told (layout : Layout) (mem : Place → ℕ) : Type 0 where
  pub valid : is_valid layout ≡ true
  pub some : 1 ≤ mem Clock
  pub most : mem Clock ≤ layout.config.last_era
  pub words : (place : Place) → WordIn layout (mem Clock) place (mem place)

now_in : {layout : Layout} {mem : Place → ℕ} → Told layout mem → EraIn (mem Clock) (mem Clock)
now_in w = record { some = w.some; most = omega arith }

-- posts
pub row_keeps : (layout : Layout) (k c word : ℕ) (post : Post) (index slot : ℕ) → PostEras layout k c word post → PostEras layout k c word (with_row post index slot)
row_keeps layout k c word post index slot q = record { fits = row_fits layout k post index slot q.fits; span = q.span; shown = q.shown }

held_keeps : (layout : Layout) (k c word : ℕ) (post : Post) (index : ℕ) (root : Root) (link : ℕ) → PostEras layout k c word post → PostEras layout k c word (held_post post index root link)
held_keeps layout k c word post index root link q = held_post_keeps (PostEras layout k c word) post index root link q (λ slot. row_keeps layout k c word post index slot q)

tag_keeps : (layout : Layout) (k c word : ℕ) (post : Post) (index tag : ℕ) → PostEras layout k c word post → PostEras layout k c word (with_tag post index tag)
tag_keeps layout k c word post index tag q = record { fits = tag_fits layout k post index tag q.fits; span = q.span; shown = q.shown }

pub withdrawn_keeps : (layout : Layout) (k c word : ℕ) (post : Post) (index : ℕ) → PostEras layout k c word post → PostEras layout k c word (withdrawn post index)
withdrawn_keeps layout k c word post index q = record { fits = withdrawn_fits layout k post index q.fits; span = q.span; shown = q.shown }

-- an interval is at most the clock
pub upper_in : (c : ℕ) (span : Option Span) → SpanIn c span → upper span ≤ c
upper_in c None s = omega arith
upper_in c (Some span) s = s.2

raised_in : (c era : ℕ) (span : Option Span) → is_some span ≡ true → SpanIn c span → upper span ≤ era → era ≤ c → (1 ≤ lower span) × (lower span ≤ era) × (era ≤ c)
raised_in c era None i s u m = absurd (cc)
raised_in c era (Some span) i s u m = (s.0, let a = s.1 in omega arith, m)

-- the protection
trying_eras : (c : ℕ) (post : Post) (config : Config) (era : ℕ) (tries : Tries) → EraIn c era → protect_eras c post (trying config era tries)
trying_eras c post config era Endless e = e
trying_eras c post config era (Failed count) e = by (nat_le config.tries count)
  where
    by : (b : Bool) → protect_eras c post (if b then PublishRequest else LoadLink era (Failed count))
    by true = tt
    by false = e

lost_eras : (c : ℕ) (post : Post) (first era : ℕ) (last : Bool) → TurnIn c first era → protect_eras c post (lost_turn first last c)
lost_eras c post first era false t = record { began = t.began; rises = let a = t.rises in let b = t.most in omega arith; most = omega arith }
lost_eras c post first era true t = record { some = t.began; most = let a = t.rises in let b = t.most in omega arith }

answered_eras : (layout : Layout) (c : ℕ) (post : Post) (request : Request) → AskingIn layout c request → protect_eras c post (answer_in (Some request))
answered_eras layout c post requests.Idle a = omega arith
answered_eras layout c post (requests.Pending tag index number) a = omega arith
answered_eras layout c post (requests.Answered link era) a = a.era_in.most

answer_eras : (layout : Layout) (c word : ℕ) (post : Post) → is_valid layout ≡ true → c ≤ layout.config.last_era → RequestIn layout c word → protect_eras c post (answer_in (read_request word))
answer_eras layout c word post v m r = subst (λ (x : Option Request). protect_eras c post (answer_in x)) (sym (request_read layout c word v m r)) (answered_eras layout c post r.request r.fits)

hazard_steps : (layout : Layout) (k : ℕ) (mem : Place → ℕ) (why : Why) (aim : Aim) (index : ℕ) (root : Root) (m : ℕ) (at : HazardAt) (post : Post) → PostEras layout k (mem Clock) (mem (Interval k)) post
    → StepsOn (PostEras layout k (mem Clock) (written mem (hazard_move index root at post) (Interval k))) (PhaseEras layout (mem Clock)) why (hazard_turn aim index root m at post (found (hazard_move index root at post) (mem (place_in (hazard_move index root at post)))))
hazard_steps layout k mem why aim index root m FirstLink post q = let link = mem (link_place root) in
    steps_if why (link == 0) _ _
    (λ t. concluded_steps why aim index root m link 0 (held_post post index root link) (told_held index root link m) (held_keeps layout k (mem Clock) (mem (Interval k)) post index root link q) (λ u. omega arith))
    (λ t. record { post = q; phase = tt })
hazard_steps layout k mem why aim index root m (PublishLink link) post q = record { post = q; phase = tt }
hazard_steps layout k mem why aim index root m (CheckLink old) post q = let link = mem (link_place root) in
    steps_if why (link == old || link == 0) _ _
    (λ t. concluded_steps why aim index root m link 0 (held_post post index root link) (told_held index root link m) (held_keeps layout k (mem Clock) (mem (Interval k)) post index root link q) (λ u. omega arith))
    (λ t. record { post = q; phase = tt })

protect_steps : (layout : Layout) (k : ℕ) (mem : Place → ℕ) → Told layout mem → (why : Why) (aim : Aim) (index : ℕ) (root : Root) (n m : ℕ) (at : ProtectAt) (post : Post)
    → PostEras layout k (mem Clock) (mem (Interval k)) post → Run layout why (Protect aim index root n at) post → protect_eras (mem Clock) post at
    → StepsOn (PostEras layout k (mem Clock) (written mem (protect_move index root at post) (Interval k))) (PhaseEras layout (mem Clock)) why (protect_turn aim index root m at post (found (protect_move index root at post) (mem (place_in (protect_move index root at post)))))
protect_steps layout k mem w why aim index root n m (LoadClock tries) post q r e = record { post = q; phase = now_in w }
protect_steps layout k mem w why aim index root n m (PublishEra era tries) post q r e = record { post = q; phase = trying_eras (mem Clock) post post.layout.config era tries e }
protect_steps layout k mem w why aim index root n m (LoadLink era tries) post q r e = record { post = q; phase = e }
protect_steps layout k mem w why aim index root n m (CheckClock era tries link) post q r e =
    steps_if why (mem Clock == era) _ _
    (λ t. concluded_steps why aim index root m link era (held_post post index root link) (told_held index root link m) (held_keeps layout k (mem Clock) (mem (Interval k)) post index root link q) (λ u. e.most))
    (λ t. record { post = q; phase = now_in w })
protect_steps layout k mem w why aim index root n m PublishRequest post q r e = record { post = q; phase = tt }
protect_steps layout k mem w why aim index root n m LoadOwnClock post q r e = record { post = q; phase = record { began = w.some; rises = omega arith; most = omega arith } }
protect_steps layout k mem w why aim index root n m (PublishHelper first era last) post q r e = record { post = q; phase = e }
protect_steps layout k mem w why aim index root n m (LoadOwnLink first era last) post q r e = record { post = q; phase = e }
protect_steps layout k mem w why aim index root n m (CheckOwnClock first era last link) post q r e =
    steps_if why (mem Clock == era) _ _ (λ t. record { post = q; phase = e }) (λ t. record { post = q; phase = lost_eras (mem Clock) post first era last e })
protect_steps layout k mem w why aim index root n m (AnswerOwn first era link) post q r e =
    steps_if why (mem (RequestOf post.seat) == own_request post index root) _ _
    (λ t. record { post = q; phase = e.most })
    (λ t. record { post = q; phase = answer_eras layout (mem Clock) (mem (RequestOf post.seat)) post w.valid w.most (w.words (RequestOf post.seat)) })
protect_steps layout k mem w why aim index root n m (LoadAnswer first) post q r e =
    record { post = q; phase = answer_eras layout (mem Clock) (mem (RequestOf post.seat)) post w.valid w.most (w.words (RequestOf post.seat)) }
protect_steps layout k mem w why aim index root n m (TakeAnswer link era) post q r e =
    let p = with_tag post index (tag_of post index + 1) in
    record { post = held_keeps layout k (mem Clock) (mem (Interval k)) p index root link (tag_keeps layout k (mem Clock) (mem (Interval k)) post index (tag_of post index + 1) q); phase = e }
protect_steps layout k mem w why aim index root n m (WithdrawRequest link era) post q r e = record { post = q; phase = e }
protect_steps layout k mem w why aim index root n m (WithdrawHelper link era) post q r e = concluded_steps why aim index root m link era post _ q (λ u. e)
protect_steps layout k mem w why aim index root n m LoadWithin post q r e = record { post = q; phase = tt }
protect_steps layout k mem w why aim index root n m (CheckUpper link) post q r e =
    steps_if why (mem Clock == upper post.span) _ _
    (λ t. concluded_steps why aim index root m link (mem Clock) (held_post post index root link) (told_held index root link m) (held_keeps layout k (mem Clock) (mem (Interval k)) post index root link q) (λ u. let a = now_in w in a.most))
    (λ t. record { post = q; phase = record { rises = upper_in (mem Clock) post.span q.span; most = let a = now_in w in a.most } })
protect_steps layout k mem w why aim index root n m (RaiseUpper era) post q r e =
    let i : has_one_interval (scheme_of post) ≡ true = subst (λ (t : Layout). has_one_interval t.config.scheme ≡ true) (sym q.fits.layout) r.fits in
    record {
      post = record {
        fits = span_fits layout k post (from_to (lower post.span) era) q.fits;
        span = raised_in (mem Clock) era post.span (r.posted i) q.span e.rises e.most;
        shown = own_span mem post.seat k (eras_word (lower post.span) era) q.fits.seat;
      };
      phase = tt;
    }
protect_steps layout k mem w why aim index root n m (ByHazard at) post q r e = hazard_steps layout k mem why aim index root m at post q

begin_steps : (layout : Layout) (k : ℕ) (mem : Place → ℕ) → Told layout mem → (why : Why) (at : BeginAt) (post : Post)
    → PostEras layout k (mem Clock) (mem (Interval k)) post → begin_eras (mem Clock) at
    → StepsOn (PostEras layout k (mem Clock) (written mem (begin_move at post) (Interval k))) (PhaseEras layout (mem Clock)) why (begin_turn at post (found (begin_move at post) (mem (place_in (begin_move at post)))))
begin_steps layout k mem w why LoadLower post q e = record { post = q; phase = now_in w }
begin_steps layout k mem w why (PublishSpan era) post q e =
    record { post = record { fits = span_fits layout k post (from_to era era) q.fits; span = (e.some, omega arith, e.most); shown = own_span mem post.seat k (eras_word era era) q.fits.seat }; phase = tt }

walking_steps : (layout : Layout) (k c word : ℕ) (why : Why) (birth : ℕ) (post : Post) (x : Option Walk) → PostEras layout k c word post → EraIn c birth
    → StepsOn (PostEras layout k c word) (PhaseEras layout c) why (walking birth post x)
walking_steps layout k c word why birth post None q e = record { post = q; phase = tt }
walking_steps layout k c word why birth post (Some walk) q e = record { post = q; phase = e }

allocate_steps : (layout : Layout) (k : ℕ) (mem : Place → ℕ) → Told layout mem → (why : Why) (at : AllocateAt) (post : Post)
    → PostEras layout k (mem Clock) (mem (Interval k)) post → Run layout why (Allocate at) post → allocate_eras (mem Clock) at
    → StepsOn (PostEras layout k (mem Clock) (written mem (allocate_move at) (Interval k))) (PhaseEras layout (mem Clock)) why (allocate_turn at post (found (allocate_move at) (mem (place_in (allocate_move at)))))
allocate_steps layout k mem w why LoadBirth post q r e = record { post = q; phase = now_in w }
allocate_steps layout k mem w why (ClaimSlot birth walk) post q r e = let f = mem (Claim (claim_word walk.slot)) in let a = walks_of layout.config.slots walk r.fits in
    steps_if why (is_claimed f walk.slot) _ _
    (λ t. walking_steps layout k (mem Clock) (mem (Interval k)) why birth post (walk_past post.layout.config.slots walk f) q e)
    (λ t. record {
      post = record {
        fits = record { seat = q.fits.seat; layout = q.fits.layout; cursor = subst (λ (t : Layout). next_slot t.config.slots walk.slot ≤ layout.config.slots) (sym q.fits.layout) (next_in layout.config.slots walk.slot a.slot); tags = q.fits.tags; standing = q.fits.standing };
        span = q.span;
        shown = q.shown;
      };
      phase = e;
    })
allocate_steps layout k mem w why (StoreLife birth slot) post q r e = record { post = q; phase = tt }

retire_steps : (layout : Layout) (k : ℕ) (mem : Place → ℕ) → Told layout mem → (why : Why) (at : RetireAt) (post : Post)
    → PostEras layout k (mem Clock) (mem (Interval k)) post → retire_eras (mem Clock) at → retire_needs at mem
    → StepsOn (PostEras layout k (mem Clock) (written mem (retire_move at) (Interval k))) (PhaseEras layout (mem Clock)) why (retire_turn at post (found (retire_move at) (mem (place_in (retire_move at)))))
retire_steps layout k mem w why (LoadLife slot) post q e d = let b = bounds_of layout w.valid in let y = b.eras.1 in let m = w.most in
    record { post = q; phase = birth_read (mem Clock) (mem (Life slot)) (omega arith) (w.words (Life slot)) d }
retire_steps layout k mem w why (LoadRetire slot birth) post q e d = record { post = q; phase = record { born = e.some; later = e.most; most = omega arith } }
retire_steps layout k mem w why (StoreRetired slot birth retire) post q e d =
    record { post = record { fits = record { seat = q.fits.seat; layout = q.fits.layout; cursor = q.fits.cursor; tags = q.fits.tags; standing = q.fits.standing }; span = q.span; shown = q.shown }; phase = tt }

-- a link place is read back from its number
link_read : (layout : Layout) (root : Root) → has layout (link_place root) ≡ true → root_at layout (link_number layout root) ≡ root
link_read layout root h = root_at_link layout root h

-- a mover
all_met_eras : (layout : Layout) (c era : ℕ) (shows : Bool) → MoverIn layout c era → move_eras layout c (all_met era shows)
all_met_eras layout c era true e = e
all_met_eras layout c era false e = e

next_eras : (layout : Layout) (c : ℕ) (post : Post) (era seat : ℕ) (shows : Bool) → MoverIn layout c era → move_eras layout c (next_request post era seat shows)
next_eras layout c post era seat shows e = by (nat_lt (seat + 1) post.layout.config.seats)
  where
    by : (b : Bool) → move_eras layout c (if b then LoadRequest era (seat + 1) shows else all_met era shows)
    by true = e
    by false = all_met_eras layout c era shows e

helping_eras : (layout : Layout) (c era seat tag index : ℕ) (root : Root) (shows : Bool) → HelpsIn layout c era tag index root → move_eras layout c (helping era seat tag index root shows)
helping_eras layout c era seat tag index root true h = h
helping_eras layout c era seat tag index root false h = h

-- the root of a pending request is the one that was asked for
root_read : (layout : Layout) (tag index number : ℕ) → AskedIn layout tag index number → AskIn layout tag index (root_at layout number)
root_read layout tag index number a =
    subst (λ (n : ℕ). AskIn layout tag index (root_at layout n)) (sym a.is) (subst (AskIn layout tag index) (sym (link_read layout a.root a.fits.there)) a.fits)

met_by_eras : (layout : Layout) (c : ℕ) (post : Post) (era seat : ℕ) (shows : Bool) (request : Request) → post.layout ≡ layout → AskingIn layout c request → MoverIn layout c era → move_eras layout c (met post era seat shows (Some request))
met_by_eras layout c post era seat shows requests.Idle l a e = next_eras layout c post era seat shows e
met_by_eras layout c post era seat shows (requests.Pending tag index number) l a e =
    helping_eras layout c era seat tag index (root_at post.layout number) shows
    (record { mover = e; asked = subst (λ (t : Layout). AskIn layout tag index (root_at t number)) (sym l) (root_read layout tag index number a) })
met_by_eras layout c post era seat shows (requests.Answered link answered) l a e = next_eras layout c post era seat shows e

met_eras : (layout : Layout) (c word : ℕ) (post : Post) (era seat : ℕ) (shows : Bool) → is_valid layout ≡ true → c ≤ layout.config.last_era → post.layout ≡ layout → RequestIn layout c word → MoverIn layout c era
    → move_eras layout c (met post era seat shows (read_request word))
met_eras layout c word post era seat shows v m l r e =
    subst (λ (x : Option Request). move_eras layout c (met post era seat shows x)) (sym (request_read layout c word v m r)) (met_by_eras layout c post era seat shows r.request l r.fits e)

moving_eras : (layout : Layout) (c : ℕ) (helps : Bool) → MoverIn layout c c → move_eras layout c (moving helps c)
moving_eras layout c true e = e
moving_eras layout c false e = e

handed_steps : (layout : Layout) (k c word : ℕ) (why : Why) (era seat tag index old : ℕ) (post : Post) (same : Bool) → PostEras layout k c word post → MoverIn layout c era
    → StepsOn (PostEras layout k c word) (PhaseEras layout c) why (after_hand_over era seat tag index old post same)
handed_steps layout k c word why era seat tag index old post true q e = record { post = q; phase = next_eras layout c post era seat true e }
handed_steps layout k c word why era seat tag index old post false q e = record { post = q; phase = next_eras layout c post era seat true e }

move_steps : (layout : Layout) (k : ℕ) (mem : Place → ℕ) → Told layout mem → (why : Why) (at : MoveAt) (post : Post)
    → PostEras layout k (mem Clock) (mem (Interval k)) post → move_fits layout.config.scheme layout.config.seats at ≡ true → move_eras layout (mem Clock) at
    → StepsOn (PostEras layout k (mem Clock) (written mem (move_move at post) (Interval k))) (PhaseEras layout (mem Clock)) why (move_turn at post (found (move_move at post) (mem (place_in (move_move at post)))))
move_steps layout k mem w why (LoadEra helps) post q g e =
    steps_if why (mem Clock == post.layout.config.last_era) _ _
    (λ t. record { post = q; phase = tt })
    (λ t. record {
      post = q;
      phase = moving_eras layout (mem Clock) helps (record {
        era_in = now_in w;
        left =
            let s : (mem Clock == layout.config.last_era) ≡ false = subst (λ (x : Layout). (mem Clock == x.config.last_era) ≡ false) q.fits.layout t in let m = w.most in grind (arith, nat_tests);
      });
    })
move_steps layout k mem w why (LoadRequest era seat shows) post q g e =
    record { post = q; phase = met_eras layout (mem Clock) (mem (RequestOf seat)) post era seat shows w.valid w.most q.fits.layout (w.words (RequestOf seat)) e }
move_steps layout k mem w why (ShowEra era seat tag index root) post q g e = record { post = q; phase = e }
move_steps layout k mem w why (LoadAsked era seat tag index root) post q g e = record { post = q; phase = e }
move_steps layout k mem w why (CheckEra era seat tag index root link) post q g e =
    steps_if why (mem Clock == era) _ _ (λ t. record { post = q; phase = e }) (λ t. record { post = q; phase = now_in w })
move_steps layout k mem w why (AnswerAsked era seat tag index root link) post q g e =
    steps_if why (mem (RequestOf seat) == asking post.layout tag index root) _ _ (λ t. record { post = q; phase = e }) (λ t. record { post = q; phase = next_eras layout (mem Clock) post era seat true e.mover })
move_steps layout k mem w why (LoadReserved era seat tag index root link) post q g e =
    steps_if why ((read_reservation (mem (Index seat index))).tag == tag) _ _
    (λ t. record { post = q; phase = record { helps = e; before = let x = shown_eras (publishes_rows layout.config.scheme) layout (mem Clock) (mem (Index seat index)) (helps_plain layout.config.scheme (nat_lt seat layout.config.seats) g) (w.words (Index seat index)) in subst (λ (y : ℕ). y ≤ mem Clock) (sym (ap (λ (r : Reservation). r.era) (index_read (mem Clock) (mem (Index seat index)) x))) x.most } })
    (λ t. record { post = q; phase = next_eras layout (mem Clock) post era seat true e.mover })
move_steps layout k mem w why (HandOver era seat tag index root link old) post q g e =
    handed_steps layout k (mem Clock) (mem (Interval k)) why era seat tag index old post (mem (Index seat index) == reservation_word (record { era = old; tag = tag })) q e.helps.mover
move_steps layout k mem w why (HideEra era) post q g e = record { post = q; phase = e }
move_steps layout k mem w why (HideLate seen) post q g e = record { post = q; phase = tt }
move_steps layout k mem w why (ExchangeClock era) post q g e =
    steps_if why (mem Clock == era) _ _ (λ t. record { post = q; phase = tt }) (λ t. record { post = q; phase = tt })

write_steps : (layout : Layout) (k c word : ℕ) (why : Why) (slot : ℕ) (row : RowOf) (place : ℕ) (post : Post) → PostEras layout k c word post → StepsOn (PostEras layout k c word) (PhaseEras layout c) why (after_write slot row place post)
write_steps layout k c word why slot row place post q = steps_if why (place == last_written row) _ _ (λ t. record { post = q; phase = tt }) (λ t. record { post = q; phase = tt })

-- a step inside a machine
pub era_steps : (layout : Layout) (k : ℕ) (mem : Place → ℕ) → Told layout mem → (why : Why) (base : Base) (post : Post)
    → PostEras layout k (mem Clock) (mem (Interval k)) post → Run layout why base post → base_eras layout (mem Clock) post base → base_needs base layout mem
    → StepsOn (PostEras layout k (mem Clock) (written mem (base_move base post) (Interval k))) (PhaseEras layout (mem Clock)) why (after base post (found (base_move base post) (mem (place_in (base_move base post)))))
era_steps layout k mem w why (Begin at) post q r e d = begin_steps layout k mem w why at post q e
era_steps layout k mem w why (Protect aim index root steps at) post q r e d = protect_steps layout k mem w why aim index root steps (bump steps) at post q r e
era_steps layout k mem w why (Reload parent index slot era steps) post q r e d =
    steps_if why (mem Head == parent + 1) _ _ (λ t. record { post = row_keeps layout k (mem Clock) (mem (Interval k)) post index slot q; phase = tt }) (λ t. record { post = q; phase = tt })
era_steps layout k mem w why (Clear rows index) post q r e d = record { post = withdrawn_keeps layout k (mem Clock) (mem (Interval k)) post index q; phase = tt }
era_steps layout k mem w why Finish post q r e d = record { post = record { fits = span_fits layout k post None q.fits; span = tt; shown = own_span mem post.seat k 0 q.fits.seat }; phase = tt }
era_steps layout k mem w why (Release index) post q r e d =
    record { post = record { fits = span_fits layout k (withdrawn post index) None (withdrawn_fits layout k post index q.fits); span = tt; shown = own_span mem post.seat k 0 q.fits.seat }; phase = tt }
era_steps layout k mem w why (Allocate at) post q r e d = allocate_steps layout k mem w why at post q r e
era_steps layout k mem w why (Write slot row place) post q r e d = write_steps layout k (mem Clock) (mem (Interval k)) why slot row place post q
era_steps layout k mem w why (GiveUp slot) post q r e d = record { post = q; phase = tt }
era_steps layout k mem w why (Retire at) post q r e d = retire_steps layout k mem w why at post q e d
era_steps layout k mem w why (Move at) post q r e d = move_steps layout k mem w why at post q r.fits e
