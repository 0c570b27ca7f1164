-- Each machine is ready at its step, and what it finds is plausible.
use Rattle.std.proofs.Common.{refl, ℕ, ◌≡◌, ◌≤◌, ◌<◌, Bool, true, false, List, Option, Some, None, ap, sym, subst, ◌∙◌, arith}
use Rattle.std.proofs.lemmas.Bool.Decides.{nat_tests}
use Rattle.std.proofs.lemmas.Option.{slice_get_within}
use Rattle.std.specs.Prelude.{◌&&◌, nat_lt, nat_le, if◌then◌else◌, is_some, slice_get}
use Rattle.wfe_core.specs.words.Place.{Place, is_valid}
use Rattle.wfe_core.specs.words.Place.Place.{Clock, Index, Tail, Row, Request as RequestOf}
use Rattle.wfe_core.specs.words.Packed.{read_request}
use Rattle.wfe_core.specs.words.declared.config.SchemeKind.{SchemeKind}
use Rattle.wfe_core.specs.words.declared.layout.Layout.{Layout}
use Rattle.wfe_core.specs.words.declared.packed.Request.{Request}
use Rattle.wfe_core.specs.words.declared.packed.Request.TheVariants as requests
use Rattle.wfe_core.specs.defs.declared.event.Root.{Root}
use Rattle.wfe_core.specs.defs.declared.lifetime.Interval.{Interval as Span}
use Rattle.wfe_core.specs.defs.declared.lifetime.Lifetime.{Lifetime}
use Rattle.wfe_core.specs.declared.post.Post.{Post}
use Rattle.wfe_core.specs.Memory.{place_in, found}
use Rattle.wfe_core.specs.Links.{link_place, link_number, root_at}
use Rattle.wfe_core.proofs.Roots.{root_at_link}
use Rattle.wfe_core.specs.Posts.{tag_of, stands, lower, upper}
use Rattle.wfe_core.specs.Valid.{SpanValid, StandsValid, IsValid}
use Rattle.wfe_core.proofs.Ranges.{bounds_of}
use Rattle.wfe_core.specs.WriteRow.{first_written, last_written}
use Rattle.wfe_core.specs.Phases.{Tries, Endless, Failed, BeginAt, HazardAt, ProtectAt, AllocateAt, RetireAt, MoveAt, RowOf, MapRow, QueueRow, Base}
use Rattle.wfe_core.specs.Phases.BeginAt.{LoadLower, PublishSpan}
use Rattle.wfe_core.specs.Phases.ProtectAt.{LoadClock, PublishEra, LoadLink, CheckClock, PublishRequest, LoadOwnClock, PublishHelper, LoadOwnLink, CheckOwnClock, AnswerOwn, LoadAnswer, TakeAnswer, WithdrawRequest, WithdrawHelper, LoadWithin, CheckUpper, RaiseUpper, ByHazard}
use Rattle.wfe_core.specs.Phases.HazardAt.{FirstLink, PublishLink, CheckLink}
use Rattle.wfe_core.specs.Phases.AllocateAt.{LoadBirth, ClaimSlot, StoreLife}
use Rattle.wfe_core.specs.Phases.RetireAt.{LoadLife, LoadRetire, StoreRetired}
use Rattle.wfe_core.specs.Phases.MoveAt.{LoadEra, LoadRequest, ShowEra, LoadAsked, CheckEra, AnswerAsked, LoadReserved, HandOver, HideEra, HideLate, ExchangeClock}
use Rattle.wfe_core.specs.Phases.Base.{Begin, Protect, Reload, Clear, Finish, Release, Allocate, Write, GiveUp, Retire, Move}
use Rattle.wfe_core.specs.Machine.{begin_move, protect_move, allocate_move, retire_move, move_move, base_move}
use Rattle.wfe_core.specs.Ready.{EraFits, FailedFits, TryFits, RootFits, AskFits, AskedFits, RowFits, IsReady, Plausible, ShownFits, begin_ready, hazard_ready, protect_ready, allocate_ready, retire_ready, move_ready, begin_plausible, protect_plausible, allocate_plausible, retire_plausible, move_plausible}
use Rattle.wfe_core.specs.Steps.{work_move, phase_move}
use Rattle.wfe_core.specs.Calls.{ChangeKept, EnqueueKept, Task, Gets, Changes, Holds, Enqueues, Dequeues, AfterScan, Answered, Repeated, Counted, GetAt, FindVersion, FindCount, FindKey, FindValue, ChangeAt, LoadVersion, LoadCount, LoadKey, LoadValue, ExchangeRoot, EnqueueAt, LoadNumber, LoadNext, PassTail, ExchangeNext, ExchangeTail, DequeueAt, LoadTail, SwingTail, TakeNumber, TakeValue, ExchangeHead, Work, Getting, Changing, Enqueuing, Dequeuing, KeepAt, Loosens, LoadHeld, StoreHeld, Looks, Misses, HideSpan, MarkLeft, TakeList, MarkTaken, Keeping, ScanAt, ReadGuard, GiveBack, Why, Opens, FollowsHead, Fills, ClearsNext, Clears, Finishes, GivesUp, Retires, Tidies, Advances, Releases, Phase, Idle, Runs, Scans, Works}
use Rattle.wfe_core.specs.CallReady.{TakenFits, TaskFits, FillFits, LaterFits, why_ready, get_ready, change_ready, enqueue_ready, dequeue_ready, keep_ready, work_ready, scan_ready, IsCallReady, get_plausible, change_plausible, enqueue_plausible, dequeue_plausible, keep_plausible, scan_plausible, work_plausible, IsCallPlausible, BackFits, slots_of}
use Rattle.wfe_core.specs.Desks.{Desk}
use Rattle.wfe_core.specs.Enqueue.{enqueue_move}
use Rattle.wfe_core.specs.Dequeue.{dequeue_move}
use Rattle.wfe_core.specs.World.{World, gift_at}
use Rattle.inv_rows.specs.Shapes.Frame.{SpanStands}
use Rattle.wfe_core.specs.words.Schemes.{has_one_interval, helps, publishes_rows}
use Rattle.wfe_core.specs.words.declared.config.SchemeKind.TheVariants.{He, Hp, Ibr, Wfe}
use Rattle.wfe_core.proofs.words.Schemes.{interval_not_rows}
use Rattle.wfe_core.specs.defs.declared.event.Guard.TheVariants.{Whole}
use Rattle.wfe_core.specs.defs.declared.event.Guard.TheVariants as guards
use Rattle.wfe_core.specs.Guards.{guard_by, guard_place, index_at}
use Rattle.wfe_core.specs.Keep.{keep_move, own_place}
use Rattle.wfe_core.specs.Rounds.{scheme_of}
use Rattle.wfe_core.specs.Scan.{scan_move}
use Rattle.inv_rows.proofs.Shapes.Indexes.{shown_link}
use Rattle.inv_rows.specs.Shapes.Seats.{tries_fit, try_fits, protect_fits, allocate_fits, move_fits, Run, PostFits, PhaseFits, Seats, scan_fits}
use Rattle.inv_rows.specs.Shapes.Eras.{SpanIn, ShownIn, HeldIn, work_eras, AskIn, AskingIn, begin_eras, protect_eras, allocate_eras, retire_eras, move_eras, base_eras, PhaseEras, Eras}
use Rattle.inv_rows.specs.Shapes.Slots.{HazardIn, ProtectIn, RetireIn, MovesIn, BaseIn, StandsIn, PostIn, PhaseIn, Slots, RowIn, TakenIn, TaskIn, FillIn, LaterIn, WhyIn, GetIn, ChangeAtIn, EnqueueAtIn, DequeueIn, WorkIn, ScanIn, get_finds, change_finds, enqueue_finds, dequeue_finds, work_finds, phase_finds, BackIn}
use Rattle.inv_rows.specs.Shapes.Code.{protect_rises, base_rises, phase_rises, why_lists, scan_entry, phase_lists, CodeNeeds}
use Rattle.wfe_core.specs.MayStep.{MayStep}
use Rattle.inv_rows.specs.Shapes.Noted.{Noted}
use Rattle.inv_rows.proofs.Shapes.Quiet.{noted_fits}
use Rattle.inv_rows.proofs.Shapes.Finds.{request_read}
use Rattle.inv_rows.proofs.Shapes.Steps.{Told}
use Rattle.inv_rows.proofs.Shapes.SlotSteps.{Linked, link_found}
use Rattle.inv_rows.proofs.Shapes.There.{index_below, asked_seat, place_there}
use Rattle.inv_rows.proofs.Shapes.Decode.{told_of}
use Rattle.inv_rows.proofs.Shapes.Written.{root_there}
use Rattle.wfe_core.proofs.Lists.{slots_length}

begin_is_ready : (post : Post) (clock : ℕ) (at : BeginAt) → begin_eras clock at → begin_ready at post
begin_is_ready post clock LoadLower e = tt
begin_is_ready post clock (PublishSpan era) e = e.some

tries_ready : (s : SchemeKind) (most : ℕ) (tries : Tries) → tries_fit s most tries ≡ true → FailedFits tries most
tries_ready s most Endless h = tt
tries_ready s most (Failed count) h = grind (arith, nat_tests)

try_ready : (s : SchemeKind) (most : ℕ) (tries : Tries) → try_fits s most tries ≡ true → TryFits tries most
try_ready s most Endless h = tt
try_ready s most (Failed count) h = grind (arith, nat_tests)

lower_ready : (clock : ℕ) (span : Option Span) → is_some span ≡ true → SpanIn clock span → (1 ≤ lower span) × (lower span ≤ upper span)
lower_ready clock None i s = absurd (cc)
lower_ready clock (Some span) i s = (s.0, s.1)

hazard_is_ready : (post : Post) (at : HazardAt) → HazardIn post.layout.config.slots at → hazard_ready at post
hazard_is_ready post FirstLink h = tt
hazard_is_ready post (PublishLink link) h = h.1
hazard_is_ready post (CheckLink link) h = h.1

protect_is_ready : (post : Post) (clock index : ℕ) (at : ProtectAt) → protect_fits post.layout.config.scheme post.layout.config.tries at ≡ true → SpanStands post → SpanIn clock post.span → protect_eras clock post at → ProtectIn post.layout.config.slots at → protect_rises at index post
    → protect_ready at index post
protect_is_ready post clock index (LoadClock tries) f s p e h u = tries_ready post.layout.config.scheme post.layout.config.tries tries f
protect_is_ready post clock index (PublishEra era tries) f s p e h u = tries_ready post.layout.config.scheme post.layout.config.tries tries f
protect_is_ready post clock index (LoadLink era tries) f s p e h u = try_ready post.layout.config.scheme post.layout.config.tries tries f
protect_is_ready post clock index (CheckClock era tries link) f s p e h u = (try_ready post.layout.config.scheme post.layout.config.tries tries f, h)
protect_is_ready post clock index PublishRequest f s p e h u = tt
protect_is_ready post clock index LoadOwnClock f s p e h u = tt
protect_is_ready post clock index (PublishHelper first era last) f s p e h u = tt
protect_is_ready post clock index (LoadOwnLink first era last) f s p e h u = tt
protect_is_ready post clock index (CheckOwnClock first era last link) f s p e h u = h
protect_is_ready post clock index (AnswerOwn first era link) f s p e h u = (h, let a = e.began in let b = e.rises in omega arith)
protect_is_ready post clock index (LoadAnswer first) f s p e h u = tt
protect_is_ready post clock index (TakeAnswer link era) f s p e h u = (h, u)
protect_is_ready post clock index (WithdrawRequest link era) f s p e h u = h
protect_is_ready post clock index (WithdrawHelper link era) f s p e h u = h
protect_is_ready post clock index LoadWithin f s p e h u = tt
protect_is_ready post clock index (CheckUpper link) f s p e h u = h
protect_is_ready post clock index (RaiseUpper era) f s p e h u = let a = lower_ready clock post.span (s f) p in (a.0, let b = a.1 in let c = e.rises in omega arith)
protect_is_ready post clock index (ByHazard at) f s p e h u = hazard_is_ready post at h

allocate_is_ready : (post : Post) (clock : ℕ) (at : AllocateAt) → allocate_fits post.layout.config.slots at ≡ true → allocate_eras clock at → allocate_ready at post
allocate_is_ready post clock LoadBirth f e = tt
allocate_is_ready post clock (ClaimSlot birth walk) f e = record { slot = grind (arith, nat_tests); left = grind (arith, nat_tests) }
allocate_is_ready post clock (StoreLife birth slot) f e = (e.some, grind (arith, nat_tests))

retire_is_ready : (post : Post) (clock : ℕ) (at : RetireAt) → RetireIn post.layout.config.slots at → retire_eras clock at → retire_ready at post
retire_is_ready post clock (LoadLife slot) h e = h
retire_is_ready post clock (LoadRetire slot birth) h e = h
retire_is_ready post clock (StoreRetired slot birth retire) h e = (h, e.born, e.later)

ask_ready : (post : Post) (seat tag index : ℕ) (root : Root) → (helps post.layout.config.scheme && nat_lt seat post.layout.config.seats) ≡ true → AskIn post.layout tag index root → AskFits post seat tag index root
ask_ready post seat tag index root f a = record { seat_in = asked_seat post.layout.config.scheme seat post.layout.config.seats f; tag_in = a.few; index_in = a.at; root_in = a.there }

move_is_ready : (post : Post) (clock : ℕ) (at : MoveAt) → move_fits post.layout.config.scheme post.layout.config.seats at ≡ true → move_eras post.layout clock at → MovesIn post.layout.config.slots at → move_ready at post
move_is_ready post clock (LoadEra helps) f e h = tt
move_is_ready post clock (LoadRequest era seat shows) f e h = asked_seat post.layout.config.scheme seat post.layout.config.seats f
move_is_ready post clock (ShowEra era seat tag index root) f e h = ask_ready post seat tag index root f e.asked
move_is_ready post clock (LoadAsked era seat tag index root) f e h = ask_ready post seat tag index root f e.asked
move_is_ready post clock (CheckEra era seat tag index root link) f e h = ask_ready post seat tag index root f e.asked
move_is_ready post clock (AnswerAsked era seat tag index root link) f e h = (ask_ready post seat tag index root f e.asked, h, e.mover.era_in.some)
move_is_ready post clock (LoadReserved era seat tag index root link) f e h = ask_ready post seat tag index root f e.asked
move_is_ready post clock (HandOver era seat tag index root link old) f e h = ask_ready post seat tag index root f e.helps.asked
move_is_ready post clock (HideEra era) f e h = tt
move_is_ready post clock (HideLate seen) f e h = tt
move_is_ready post clock (ExchangeClock era) f e h = e.left

row_ready : (post : Post) (row : RowOf) → RowIn post.layout.config row → RowFits post row
row_ready post (MapRow version pairs) m = m
row_ready post (QueueRow number value) m = m

pub base_is_ready : (post : Post) (clock : ℕ) (why : Why) (base : Base) → is_valid post.layout ≡ true → Run post.layout why base post → SpanIn clock post.span → base_eras post.layout clock post base → WhyIn post.layout.config why → BaseIn post.layout base → base_rises base post
    → IsReady base post
base_is_ready post clock why (Begin at) v r p e y h u = begin_is_ready post clock at e
base_is_ready post clock why (Protect aim index root steps at) v r p e y h u = let b = bounds_of post.layout v in
    (index_below post.layout why index v y r.shape.at, root_there post.layout why root b.buckets.0 r.shape.of h.root_in, protect_is_ready post clock index at r.fits r.posted p e h.at_in u)
base_is_ready post clock why (Reload parent index slot era steps) v r p e y h u = (index_below post.layout why index v y r.shape.at, h.1, h.0)
base_is_ready post clock why (Clear rows index) v r p e y h u = index_below post.layout why index v y r.shape
base_is_ready post clock why Finish v r p e y h u = tt
base_is_ready post clock why (Release index) v r p e y h u = index_below post.layout why index v y r.shape
base_is_ready post clock why (Allocate at) v r p e y h u = allocate_is_ready post clock at r.fits e
base_is_ready post clock why (Write slot row place) v r p e y h u = let f : (nat_le (first_written row) place && nat_le place (last_written row)) ≡ true = r.fits in
    (h.0, row_ready post row h.1, grind (arith, nat_tests), grind (arith, nat_tests))
base_is_ready post clock why (GiveUp slot) v r p e y h u = h
base_is_ready post clock why (Retire at) v r p e y h u = retire_is_ready post clock at h e
base_is_ready post clock why (Move at) v r p e y h u = move_is_ready post clock at r.fits e h

-- what is found
clock_plausible : {layout : Layout} {mem : Place → ℕ} → Told layout mem → EraFits (mem Clock)
clock_plausible {layout = layout} w = let b = bounds_of layout w.valid in let y = b.eras.1 in let m = w.most in (w.some, omega arith)

asked_plausible : (post : Post) (clock : ℕ) (request : Request) → AskingIn post.layout clock request → AskedFits post (Some request)
asked_plausible post clock requests.Idle a = tt
asked_plausible post clock (requests.Answered link era) a = tt
asked_plausible post clock (requests.Pending tag index number) a =
    let k : root_at post.layout number ≡ a.root = ap (root_at post.layout) a.is ∙ root_at_link post.layout a.root a.fits.there in
    (a.fits.few, a.fits.at, subst (RootFits post.layout) (sym k) a.fits.there, ap (link_number post.layout) k ∙ sym a.is)

request_plausible : (post : Post) (mem : Place → ℕ) (seat : ℕ) → Told post.layout mem → AskedFits post (read_request (mem (RequestOf seat)))
request_plausible post mem seat w = let r = w.words (RequestOf seat) in
    subst (AskedFits post) (sym (request_read post.layout (mem Clock) (mem (RequestOf seat)) w.valid w.most r)) (asked_plausible post (mem Clock) r.request r.fits)

protect_is_plausible : (post : Post) (mem : Place → ℕ) (index : ℕ) (root : Root) (at : ProtectAt) → Linked post.layout mem → protect_plausible at post (found (protect_move index root at post) (mem (place_in (protect_move index root at post))))
protect_is_plausible post mem index root (LoadClock tries) w = clock_plausible w.told
protect_is_plausible post mem index root (PublishEra era tries) w = tt
protect_is_plausible post mem index root (LoadLink era tries) w = link_found post.layout.config.slots (mem (link_place root)) root (w.links (link_place root))
protect_is_plausible post mem index root (CheckClock era tries link) w = clock_plausible w.told
protect_is_plausible post mem index root PublishRequest w = tt
protect_is_plausible post mem index root LoadOwnClock w = clock_plausible w.told
protect_is_plausible post mem index root (PublishHelper first era last) w = tt
protect_is_plausible post mem index root (LoadOwnLink first era last) w = link_found post.layout.config.slots (mem (link_place root)) root (w.links (link_place root))
protect_is_plausible post mem index root (CheckOwnClock first era last link) w = clock_plausible w.told
protect_is_plausible post mem index root (AnswerOwn first era link) w = tt
protect_is_plausible post mem index root (LoadAnswer first) w = tt
protect_is_plausible post mem index root (TakeAnswer link era) w = tt
protect_is_plausible post mem index root (WithdrawRequest link era) w = tt
protect_is_plausible post mem index root (WithdrawHelper link era) w = tt
protect_is_plausible post mem index root LoadWithin w = link_found post.layout.config.slots (mem (link_place root)) root (w.links (link_place root))
protect_is_plausible post mem index root (CheckUpper link) w = clock_plausible w.told
protect_is_plausible post mem index root (RaiseUpper era) w = tt
protect_is_plausible post mem index root (ByHazard FirstLink) w = link_found post.layout.config.slots (mem (link_place root)) root (w.links (link_place root))
protect_is_plausible post mem index root (ByHazard (PublishLink link)) w = tt
protect_is_plausible post mem index root (ByHazard (CheckLink link)) w = link_found post.layout.config.slots (mem (link_place root)) root (w.links (link_place root))

begin_is_plausible : (post : Post) (mem : Place → ℕ) (at : BeginAt) → Linked post.layout mem → begin_plausible at (found (begin_move at post) (mem (place_in (begin_move at post))))
begin_is_plausible post mem LoadLower w = clock_plausible w.told
begin_is_plausible post mem (PublishSpan era) w = tt

allocate_is_plausible : (post : Post) (mem : Place → ℕ) (at : AllocateAt) → Linked post.layout mem → allocate_plausible at (found (allocate_move at) (mem (place_in (allocate_move at))))
allocate_is_plausible post mem LoadBirth w = clock_plausible w.told
allocate_is_plausible post mem (ClaimSlot birth walk) w = tt
allocate_is_plausible post mem (StoreLife birth slot) w = tt

retire_is_plausible : (post : Post) (mem : Place → ℕ) (at : RetireAt) → Linked post.layout mem → retire_plausible at (found (retire_move at) (mem (place_in (retire_move at))))
retire_is_plausible post mem (LoadLife slot) w = tt
retire_is_plausible post mem (LoadRetire slot birth) w = clock_plausible w.told
retire_is_plausible post mem (StoreRetired slot birth retire) w = tt

move_is_plausible : (post : Post) (mem : Place → ℕ) (at : MoveAt) → Linked post.layout mem → move_plausible at post (found (move_move at post) (mem (place_in (move_move at post))))
move_is_plausible post mem (LoadEra helps) w = clock_plausible w.told
move_is_plausible post mem (LoadRequest era seat shows) w = request_plausible post mem seat w.told
move_is_plausible post mem (ShowEra era seat tag index root) w = tt
move_is_plausible post mem (LoadAsked era seat tag index root) w = link_found post.layout.config.slots (mem (link_place root)) root (w.links (link_place root))
move_is_plausible post mem (CheckEra era seat tag index root link) w = clock_plausible w.told
move_is_plausible post mem (AnswerAsked era seat tag index root link) w = tt
move_is_plausible post mem (LoadReserved era seat tag index root link) w = tt
move_is_plausible post mem (HandOver era seat tag index root link old) w = tt
move_is_plausible post mem (HideEra era) w = tt
move_is_plausible post mem (HideLate seen) w = tt
move_is_plausible post mem (ExchangeClock era) w = clock_plausible w.told

pub base_is_plausible : (post : Post) (mem : Place → ℕ) (base : Base) → Linked post.layout mem → Plausible base post (found (base_move base post) (mem (place_in (base_move base post))))
base_is_plausible post mem (Begin at) w = begin_is_plausible post mem at w
base_is_plausible post mem (Protect aim index root steps at) w = protect_is_plausible post mem index root at w
base_is_plausible post mem (Reload parent index slot era steps) w = tt
base_is_plausible post mem (Clear rows index) w = tt
base_is_plausible post mem Finish w = tt
base_is_plausible post mem (Release index) w = tt
base_is_plausible post mem (Allocate at) w = allocate_is_plausible post mem at w
base_is_plausible post mem (Write slot row place) w = tt
base_is_plausible post mem (GiveUp slot) w = tt
base_is_plausible post mem (Retire at) w = retire_is_plausible post mem at w
base_is_plausible post mem (Move at) w = move_is_plausible post mem at w

-- posts
span_valid : (clock : ℕ) (span : Option Span) → SpanIn clock span → SpanValid span
span_valid clock None s = tt
span_valid clock (Some span) s = (s.0, s.1)

stands_valid : (post : Post) (x : Option ℕ) (index : ℕ) → StandsIn post.layout x index → StandsValid post index x
stands_valid post None index h = tt
stands_valid post (Some slot) index h = h

post_valid : (post : Post) (seat clock : ℕ) → is_valid post.layout ≡ true → seat < post.layout.config.seats → PostFits post.layout seat post → SpanIn clock post.span → PostIn post.layout post → ((index : ℕ) → tag_of post index < 4294967295) → IsValid post
post_valid post seat clock v b q s h t = record {
  layout = v;
  bounds = bounds_of post.layout v;
  seat = subst (λ (n : ℕ). n < post.layout.config.seats) (sym q.seat) b;
  cursor = q.cursor;
  tags = λ index l. t index;
  standing = λ index l. stands_valid post (stands post index) index (h index);
  span = span_valid clock post.span s;
  all_tags = q.tags;
  all_standing = q.standing;
}

-- what a call keeps
taken_ready : (post : Post) (x : Option ℕ) → TakenIn post.layout.config.slots x → TakenFits post x
taken_ready post None t = tt
taken_ready post (Some slot) t = t

task_ready : (post : Post) (task : Task) → TaskIn post.layout.config task → TaskFits post task
task_ready post (Gets key) t = tt
task_ready post (Changes kept) t = record { taken = taken_ready post kept.taken t.taken; link = t.link; version = t.version; pairs = t.pairs }
task_ready post (Holds key) t = tt
task_ready post (Enqueues kept) t = record { taken = taken_ready post kept.taken t.taken; tail = t.tail; number = t.number }
task_ready post Dequeues t = tt

fill_ready : (post : Post) (task : Task) → FillIn post.layout.config task → FillFits post task
fill_ready post (Gets key) t = tt
fill_ready post (Changes kept) t = t
fill_ready post (Holds key) t = tt
fill_ready post (Enqueues kept) t = t
fill_ready post Dequeues t = tt

later_ready : (post : Post) (later : AfterScan) → LaterIn post.layout.config later → LaterFits post later
later_ready post (Answered answer) t = tt
later_ready post (Repeated task) t = task_ready post task t
later_ready post Counted t = tt

why_is_ready : (post : Post) (why : Why) (base : Base) (desk : Desk) → WhyIn post.layout.config why → why_lists why base desk → why_ready why base post desk
why_is_ready post (Opens task) base desk y n = task_ready post task y
why_is_ready post (FollowsHead head tail) base desk y n = y
why_is_ready post (Fills task) base desk y n = (task_ready post task y.0, fill_ready post task y.1)
why_is_ready post (ClearsNext next) base desk y n = tt
why_is_ready post (Clears task next) base desk y n = task_ready post task y.0
why_is_ready post (Finishes task next) base desk y n = task_ready post task y.0
why_is_ready post (GivesUp answer) base desk y n = tt
why_is_ready post (Retires answer) base desk y n = n
why_is_ready post (Tidies later) base desk y n = later_ready post later y
why_is_ready post Advances base desk y n = tt
why_is_ready post (Releases let_go) base desk y n = tt

get_is_ready : (post : Post) (at : GetAt) → GetIn post.layout.config at → get_ready at post
get_is_ready post (FindVersion slot) h = h
get_is_ready post (FindCount slot version) h = h
get_is_ready post (FindKey slot version count pair) h = h
get_is_ready post (FindValue slot version pair) h = h

change_is_ready : (post : Post) (kept : ChangeKept) (at : ChangeAt) → ChangeAtIn post.layout.config kept at → change_ready kept at post
change_is_ready post kept (LoadVersion slot) h = h
change_is_ready post kept (LoadCount slot) h = h
change_is_ready post kept (LoadKey slot count) h = h
change_is_ready post kept (LoadValue slot count key) h = h
change_is_ready post kept (ExchangeRoot slot) h = h

enqueue_is_ready : (post : Post) (kept : EnqueueKept) (at : EnqueueAt) → EnqueueAtIn post.layout.config kept at → enqueue_ready kept at post
enqueue_is_ready post kept LoadNumber h = tt
enqueue_is_ready post kept LoadNext h = tt
enqueue_is_ready post kept (PassTail next) h = h
enqueue_is_ready post kept (ExchangeNext slot) h = h
enqueue_is_ready post kept (ExchangeTail slot) h = h

dequeue_is_ready : (post : Post) (at : DequeueAt) → DequeueIn post.layout.config.slots at → dequeue_ready at post
dequeue_is_ready post (LoadTail head) h = h
dequeue_is_ready post (SwingTail head next) h = h
dequeue_is_ready post (TakeNumber head next) h = h
dequeue_is_ready post (TakeValue head next number) h = h
dequeue_is_ready post (ExchangeHead head next number value) h = h

shown_ready : (rows : Bool) (post : Post) (clock word : ℕ) → ShownIn rows post.layout clock word → ShownFits rows post word
shown_ready true post clock word h = h
shown_ready false post clock word h = tt

unshown : (rows : Bool) (post : Post) (word : ℕ) → rows ≡ false → ShownFits rows post word
unshown true post word e = absurd (cc)
unshown false post word e = tt

held_ready : (rows : Bool) (post : Post) (clock number : ℕ) → HeldIn rows post.layout clock number → ShownFits rows post number
held_ready true post clock number h = h
held_ready false post clock number h = tt

keep_is_ready : (post : Post) (clock : ℕ) (at : KeepAt) → work_eras post.layout clock (Keeping at) → WorkIn post.layout.config (Keeping at) → keep_ready at post
keep_is_ready post clock (Loosens let_go) e h = h.below
keep_is_ready post clock (LoadHeld from index) e h = (h.kept, h.rises, h.below)
keep_is_ready post clock (StoreHeld from index era) e h = ((h.kept, h.rises, h.below), held_ready (publishes_rows (scheme_of post)) post clock era e)
keep_is_ready post clock (Looks index key at) e h = get_is_ready post at h.1
keep_is_ready post clock (Misses index) e h = h.below
keep_is_ready post clock HideSpan e h = tt
keep_is_ready post clock MarkLeft e h = tt
keep_is_ready post clock (TakeList place) e h = h
keep_is_ready post clock (MarkTaken place count) e h = h

work_is_ready : (post : Post) (clock : ℕ) (work : Work) → work_eras post.layout clock work → WorkIn post.layout.config work → work_ready work post
work_is_ready post clock (Getting key at) e h = get_is_ready post at h
work_is_ready post clock (Changing kept at) e h = (record { taken = taken_ready post kept.taken h.0.taken; link = h.0.link; version = h.0.version; pairs = h.0.pairs }, change_is_ready post kept at h.1)
work_is_ready post clock (Enqueuing kept at) e h = (record { taken = taken_ready post kept.taken h.0.taken; tail = h.0.tail; number = h.0.number }, enqueue_is_ready post kept at h.1)
work_is_ready post clock (Dequeuing at) e h = dequeue_is_ready post at h
work_is_ready post clock (Keeping at) e h = keep_is_ready post clock at e h

back_ready : (post : Post) (desk : Desk) (place slot : ℕ) → BackIn post.layout.config.slots desk slot → slice_get (slots_of desk.list) place ≡ Some slot → BackFits post desk place slot
back_ready post desk place slot h e = let a = slice_get_within (slots_of desk.list) place slot e in let b = slots_length desk.list in let c = h.room in record { entry = e; back = omega arith }

scan_is_ready : (post : Post) (desk : Desk) (at : ScanAt) → scan_fits post.layout.config at ≡ true → ScanIn post.layout.config.slots desk at → scan_entry at desk → scan_ready at post desk
scan_is_ready post desk (ReadGuard number) f h n = (grind (arith, nat_tests), h)
scan_is_ready post desk (GiveBack place slot) f h n = (h.slot_in, back_ready post desk place slot h n)

-- what a call finds
get_is_plausible : (post : Post) (found : ℕ) (at : GetAt) → get_finds post.layout.config at found → get_plausible at post found
get_is_plausible post found (FindVersion slot) f = f
get_is_plausible post found (FindCount slot version) f = f
get_is_plausible post found (FindKey slot version count pair) f = tt
get_is_plausible post found (FindValue slot version pair) f = tt

change_is_plausible : (post : Post) (found : ℕ) (at : ChangeAt) → change_finds post.layout.config at found → change_plausible at post found
change_is_plausible post found (LoadVersion slot) f = f
change_is_plausible post found (LoadCount slot) f = f
change_is_plausible post found (LoadKey slot count) f = tt
change_is_plausible post found (LoadValue slot count key) f = tt
change_is_plausible post found (ExchangeRoot slot) f = tt

enqueue_is_plausible : (post : Post) (mem : Place → ℕ) (kept : EnqueueKept) (at : EnqueueAt) → Linked post.layout mem → enqueue_finds post.layout.config at (found (enqueue_move kept at) (mem (place_in (enqueue_move kept at)))) → enqueue_plausible at post (found (enqueue_move kept at) (mem (place_in (enqueue_move kept at))))
enqueue_is_plausible post mem kept LoadNumber w f = f
enqueue_is_plausible post mem kept LoadNext w f = w.links (Row kept.tail 0) refl
enqueue_is_plausible post mem kept (PassTail next) w f = tt
enqueue_is_plausible post mem kept (ExchangeNext slot) w f = tt
enqueue_is_plausible post mem kept (ExchangeTail slot) w f = tt

dequeue_is_plausible : (post : Post) (mem : Place → ℕ) (at : DequeueAt) → Linked post.layout mem → dequeue_finds post.layout.config at (found (dequeue_move at) (mem (place_in (dequeue_move at)))) → dequeue_plausible at post (found (dequeue_move at) (mem (place_in (dequeue_move at))))
dequeue_is_plausible post mem (LoadTail head) w f = w.links Tail
dequeue_is_plausible post mem (SwingTail head next) w f = tt
dequeue_is_plausible post mem (TakeNumber head next) w f = f
dequeue_is_plausible post mem (TakeValue head next number) w f = tt
dequeue_is_plausible post mem (ExchangeHead head next number value) w f = tt

-- what a guard's word shows
own_plausible : (post : Post) (mem : Place → ℕ) (from : ℕ) → Told post.layout mem → ShownFits (publishes_rows (scheme_of post)) post (mem (own_place post from))
own_plausible post mem from w = by (has_one_interval (scheme_of post)) refl
  where
    by : (one : Bool) → has_one_interval (scheme_of post) ≡ one → ShownFits (publishes_rows (scheme_of post)) post (mem (guard_place (if one then Whole post.seat else guards.Index post.seat from)))
    by true e = unshown (publishes_rows (scheme_of post)) post _ (interval_not_rows (scheme_of post) e)
    by false e = shown_ready (publishes_rows (scheme_of post)) post (mem Clock) (mem (Index post.seat from)) (w.words (Index post.seat from))

guard_plausible : (post : Post) (mem : Place → ℕ) (scheme : SchemeKind) (number : ℕ) → scheme_of post ≡ scheme → Told post.layout mem → ShownFits (publishes_rows scheme) post (mem (guard_place (guard_by scheme post.layout.config number)))
guard_plausible post mem He number e w = tt
guard_plausible post mem Ibr number e w = tt
guard_plausible post mem Wfe number e w = tt
guard_plausible post mem Hp number e w = let index = index_at post.layout.config number in
    shown_link (publishes_rows (scheme_of post)) post.layout (mem Clock) (mem (guard_place index)) (ap publishes_rows e) (w.words (guard_place index))

keep_is_plausible : (post : Post) (mem : Place → ℕ) (at : KeepAt) → Linked post.layout mem → work_finds post.layout.config (Keeping at) (found (keep_move at post) (mem (place_in (keep_move at post)))) → keep_plausible at post (found (keep_move at post) (mem (place_in (keep_move at post))))
keep_is_plausible post mem (Loosens let_go) w f = tt
keep_is_plausible post mem (LoadHeld from index) w f = own_plausible post mem from w.told
keep_is_plausible post mem (StoreHeld from index era) w f = tt
keep_is_plausible post mem (Looks index key at) w f = get_is_plausible post _ at f
keep_is_plausible post mem (Misses index) w f = tt
keep_is_plausible post mem HideSpan w f = tt
keep_is_plausible post mem MarkLeft w f = tt
keep_is_plausible post mem (TakeList place) w f = tt
keep_is_plausible post mem (MarkTaken place count) w f = tt

work_is_plausible : (post : Post) (mem : Place → ℕ) (work : Work) → Linked post.layout mem → work_finds post.layout.config work (found (work_move work post) (mem (place_in (work_move work post)))) → work_plausible work post (found (work_move work post) (mem (place_in (work_move work post))))
work_is_plausible post mem (Getting key at) w f = get_is_plausible post _ at f
work_is_plausible post mem (Changing kept at) w f = change_is_plausible post _ at f
work_is_plausible post mem (Enqueuing kept at) w f = enqueue_is_plausible post mem kept at w f
work_is_plausible post mem (Dequeuing at) w f = dequeue_is_plausible post mem at w f
work_is_plausible post mem (Keeping at) w f = keep_is_plausible post mem at w f

phase_ready : (post : Post) (desk : Desk) (clock : ℕ) (phase : Phase) → is_valid post.layout ≡ true → PhaseFits post.layout post phase → SpanIn clock post.span → PhaseEras post.layout clock post phase → PhaseIn post.layout desk phase → phase_rises phase post → phase_lists phase desk
    → IsCallReady phase post desk
phase_ready post desk clock Idle v r p e h u n = tt
phase_ready post desk clock (Runs why base) v r p e h u n = (base_is_ready post clock why base v r p e h.0 h.1 u, why_is_ready post why base desk h.0 n)
phase_ready post desk clock (Scans later at) v r p e h u n = (later_ready post later h.0, scan_is_ready post desk at r h.1 n)
phase_ready post desk clock (Works work) v r p e h u n = work_is_ready post clock work e h

scan_is_plausible : (post : Post) (mem : Place → ℕ) (at : ScanAt) → Linked post.layout mem → scan_plausible at post (found (scan_move at post) (mem (place_in (scan_move at post))))
scan_is_plausible post mem (ReadGuard number) w = guard_plausible post mem (scheme_of post) number refl w.told
scan_is_plausible post mem (GiveBack place slot) w = tt

phase_plausible : (post : Post) (mem : Place → ℕ) (desk : Desk) (phase : Phase) → Linked post.layout mem → phase_finds post.layout.config desk phase (found (phase_move phase post) (mem (place_in (phase_move phase post)))) → IsCallPlausible phase post (found (phase_move phase post) (mem (place_in (phase_move phase post))))
phase_plausible post mem desk Idle w f = tt
phase_plausible post mem desk (Runs why base) w f = base_is_plausible post mem base w
phase_plausible post mem desk (Scans later at) w f = scan_is_plausible post mem at w
phase_plausible post mem desk (Works work) w f = work_is_plausible post mem work w f.0

-- a seat of a table with these words
record Sits (layout : Layout) (mem : Place → ℕ) (seat : ℕ) (post : Post) (desk : Desk) (gift : List Lifetime) (phase : Phase) : Type 0 where
  linked : Linked layout mem
  below : seat < layout.config.seats
  fits : PostFits layout seat post
  shape : PhaseFits layout post phase
  span : SpanIn (mem Clock) post.span
  eras : PhaseEras layout (mem Clock) post phase
  stand : PostIn layout post
  slots : PhaseIn layout desk phase
  finds : phase_finds layout.config (record desk { gift = gift }) phase (found (phase_move phase post) (mem (place_in (phase_move phase post))))

record CodeAt (post : Post) (desk : Desk) (mem : Place → ℕ) (phase : Phase) : Type 0 where
  valid : IsValid post
  ready : IsCallReady phase post desk
  plausible : IsCallPlausible phase post (found (phase_move phase post) (mem (place_in (phase_move phase post))))

code_at : (post : Post) (desk : Desk) (gift : List Lifetime) (mem : Place → ℕ) (seat : ℕ) (phase : Phase) → Sits post.layout mem seat post desk gift phase → ((index : ℕ) → tag_of post index < 4294967295) → phase_rises phase post → phase_lists phase desk → CodeAt post desk mem phase
code_at post desk gift mem seat phase s t u n = record {
  valid = post_valid post seat (mem Clock) s.linked.told.valid s.below s.fits s.span s.stand t;
  ready = phase_ready post desk (mem Clock) phase s.linked.told.valid s.shape s.span s.eras s.slots u n;
  plausible = phase_plausible post mem (record desk { gift = gift }) phase s.linked s.finds;
}

pub code_ready : (w : World) (i : ℕ) → is_valid w.layout ≡ true → i < w.layout.config.seats → Seats w → Eras w → Slots w → Noted w → CodeNeeds w i → MayStep w i
code_ready w i v b s e h o n =
    let l = w.seat i in let q = (s.fits i).post in
    let gift = gift_at w.seat l.phase in
    let a : Sits w.layout w.mem i l.post l.desk gift l.phase = record {
      linked = record { told = told_of w v e; links = h.words };
      below = b;
      fits = q;
      shape = (s.fits i).phase;
      span = (e.seats i).post.span;
      eras = (e.seats i).phase;
      stand = (h.seats i).post;
      slots = (h.seats i).phase;
      finds = n.reads;
    } in
    let c = code_at l.post l.desk gift w.mem i l.phase (subst (λ (t : Layout). Sits t w.mem i l.post l.desk gift l.phase) (sym q.layout) a) n.tags n.rises n.lists in
    record { there = place_there w i v b s e h; valid = c.valid; ready = c.ready; noted = noted_fits w i q.layout o; plausible = c.plausible }
