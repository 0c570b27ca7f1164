-- A protection that takes an answer with a null link has told so before it is over.
use Rattle.std.proofs.Common.{ℕ, ◌≡◌, ◌-◌, ◌+◌, Bool, true, false, List, [], ◌∷◌, Option, Some, None, refl, sym, ap, ◌∙◌, subst, arith}
use Rattle.std.proofs.lemmas.Bool.Decides.{nat_tests}
use Rattle.std.specs.List.{list_all}
use Rattle.std.specs.Prelude.{◌==◌, ◌||◌, not, nat_le, if◌then◌else◌}
use Rattle.law_scans.specs.inv.model.words.Place.{is_valid}
use Rattle.law_scans.specs.inv.model.words.Packed.{read_request}
use Rattle.law_scans.specs.inv.model.words.declared.config.Config.{Config}
use Rattle.law_scans.specs.inv.model.words.declared.config.SchemeKind.{SchemeKind}
use Rattle.law_scans.specs.inv.model.words.declared.config.SchemeKind.TheVariants.{He, Hp, Ibr, Wfe}
use Rattle.law_scans.specs.inv.model.words.declared.layout.Layout.{Layout}
use Rattle.law_scans.specs.inv.model.words.declared.packed.Request.{Request}
use Rattle.law_scans.specs.inv.model.words.declared.packed.Request.TheVariants as requests
use Rattle.law_scans.specs.inv.model.defs.declared.call.Call.{Call}
use Rattle.law_scans.specs.inv.model.defs.declared.event.Event.{Event}
use Rattle.law_scans.specs.inv.model.defs.declared.event.Event.TheVariants as events
use Rattle.law_scans.specs.inv.model.defs.declared.event.Root.{Root}
use Rattle.law_scans.specs.inv.model.defs.declared.event.Root.TheVariants as roots
use Rattle.law_scans.specs.inv.model.declared.ends.FollowEnd.TheVariants as follow_ends
use Rattle.law_scans.specs.inv.model.declared.post.Post.{Post}
use Rattle.law_scans.specs.inv.model.Links.{parent_of}
use Rattle.law_scans.specs.inv.model.Locals.{Local, turn}
use Rattle.law_scans.specs.inv.model.Machine.{after, protect_turn}
use Rattle.law_scans.specs.inv.model.Memory.{bump}
use Rattle.law_scans.specs.inv.model.Posts.{counted, upper, with_row, reserves_helper}
use Rattle.law_scans.specs.inv.model.Protect.{held_post, told_held, concluded, protected, failed_once, trying}
use Rattle.law_scans.specs.inv.model.Rounds.{scheme_of, index_of, protect_at}
use Rattle.law_scans.specs.inv.model.SlowPath.{own_request, answer_in, lost_turn}
use Rattle.law_scans.specs.inv.model.World.{World, begin, finds, offered, step, told_in}
use Rattle.law_scans.specs.inv.model.Phases.BeginAt.{LoadLower, PublishSpan}
use Rattle.law_scans.specs.inv.model.Phases.{Aim, Alone, Follows, BeginAt, Tries, Endless, Failed, ProtectAt, Base, Outcome, Goes, Ends, Turn, goes, ends}
use Rattle.law_scans.specs.inv.model.Phases.ProtectAt.{PublishEra, LoadLink, CheckClock, PublishRequest, CheckOwnClock, AnswerOwn, LoadAnswer, TakeAnswer, WithdrawRequest, WithdrawHelper, CheckUpper, RaiseUpper, ByHazard}
use Rattle.law_scans.specs.inv.model.Phases.Base.{Begin, Protect, Reload, Allocate, Write, Retire, Move}
use Rattle.law_scans.specs.inv.model.Phases.Ending.{Followed}
use Rattle.law_scans.specs.inv.model.Calls.{Why, Phase, Idle, Runs, Scans, Works}
use Rattle.law_scans.proofs.inv.model.Facts.{first_of, rest_of, then_of, or_more}
use Rattle.law_scans.proofs.reuse.history.MayTell.{concluded_told}
use Rattle.law_scans.specs.inv.ends.Origins.{ends_at}
use Rattle.law_scans.specs.inv.shapes.Frame.{Onward, Grows, Owes, Moves, Passed}
use Rattle.law_scans.specs.inv.shapes.Seats.{PostFits, PhaseFits, Run, Seats, Kind, ToOpen, ToFollow, kind_of, suits, protects, fills, retires, moves}
use Rattle.law_scans.proofs.reuse.shapes.Frame.{seat_stays, seat_steps, begin_stays, begin_begins, after_seated, begun_seated, moves_with}
use Rattle.law_scans.proofs.reuse.shapes.Shapes.{shape_grows}
use Rattle.law_scans.proofs.reuse.shapes.Inside.{shape_moves}
use Rattle.law_scans.proofs.reuse.shapes.Kept.{counted_fits, run_counted, work_counted, begun_fits, bared_fits}
use Rattle.law_scans.specs.laws.records.Record.{Past, tells_of}
use Rattle.law_scans.specs.laws.records.Record.Past.{Then}
use Rattle.law_scans.proofs.laws.Along.{along}
use Rattle.law_scans.proofs.Placing.Sums.{along_both}
use Rattle.law_scans.proofs.laws.Tells.{seen_tells, seen_stays, seen_other}
use Rattle.law_scans.proofs.inv.ends.Told.Rows.{own_told, own_post, step_adds}
use Rattle.law_scans.proofs.inv.ends.Told.Turns.{Adds, is_later}
use Rattle.law_scans.proofs.inv.ends.Told.Births.{each_stores}
use Rattle.law_scans.specs.laws.StateAt.{null_by, null_of}
use Rattle.law_scans.specs.inv.model.Phases.HazardAt.{FirstLink, PublishLink, CheckLink}

-- where an answer was taken whose link is null, index 0 was told null
abbrev pub nulled_at : ProtectAt → Bool → Bool
nulled_at (WithdrawRequest link era) told = not (link == 0) || told
nulled_at (WithdrawHelper link era) told = not (link == 0) || told
nulled_at at told = true

abbrev pub nulled_base : Base → Bool → Bool
nulled_base (Protect aim index root steps at) told = not (index == 0) || nulled_at at told
nulled_base base told = true

abbrev pub nulled : Phase → Bool → Bool
nulled Idle told = true
nulled (Runs why base) told = nulled_base base told
nulled (Scans later at) told = true
nulled (Works work) told = true

abbrev In : Bool → Post → Phase → Type 0
In told post phase = nulled phase told ≡ true

-- no protection begins there
starts_at : (scheme : SchemeKind) (told : Bool) → nulled_at (protect_at scheme) told ≡ true
starts_at He told = refl
starts_at Ibr told = refl
starts_at Hp told = refl
starts_at Wfe told = refl

null_grows : (layout : Layout) (k : ℕ) (told : Bool) → is_valid layout ≡ true → Grows (PostFits layout k) (In told)
null_grows layout k told v =
    let g = shape_grows layout k v in
    record {
      guarded = g.guarded;
      withdraws = g.withdraws;
      copies = g.copies;
      idle = λ post q. refl;
      begins = λ post task ibr none q. refl;
      opens = λ post task s q. or_more (not (index_of task == 0)) (nulled_at (protect_at (scheme_of post)) told) (starts_at (scheme_of post) told);
      follows = λ post head tail s q. refl;
      allocates = λ post task s q. refl;
      writes = λ post task slot row s q. refl;
      clears = λ post task next n q. refl;
      clears_next = λ post next n q. refl;
      finishes = λ post task next a b q. refl;
      gives_up = λ post answer slot q. refl;
      retires = λ post answer slot q. refl;
      tidies = λ post later m q. refl;
      advances = λ post q. refl;
      clears_kept = λ post let_go n q. refl;
      releases = λ post let_go a b q. refl;
      scans = λ post later number b q. refl;
      gives_back = λ post later place slot q. refl;
      works = λ post work stores s q. refl;
    }

-- a step inside a protection
abbrev On : Bool → Why → Turn → Type 0
On told why t = Onward (In told) why t.post t.outcome

if_on : (told : Bool) (why : Why) (c : Bool) (t u : Turn) → On told why t → On told why u → On told why (if c then t else u)
if_on told why true t u a b = a
if_on told why false t u a b = b

concluded_on : (told : Bool) (why : Why) (aim : Aim) (index : ℕ) (root : Root) (n link era : ℕ) (post : Post) (es : List Event) → On told why (concluded aim index root n link era post es)
concluded_on told why Alone index root n link era post es = tt
concluded_on told why Follows index root n link era post es =
    if_on told why (link == 0) (ends post es (Followed follow_ends.NoNext)) (goes post es (Reload (parent_of root) index (link - 1) era n)) tt refl

trying_at : (config : Config) (era : ℕ) (tries : Tries) (told : Bool) → nulled_at (trying config era tries) told ≡ true
trying_at config era Endless told = refl
trying_at config era (Failed count) told = by (nat_le config.tries count)
  where
    by : (b : Bool) → nulled_at (if b then PublishRequest else LoadLink era (Failed count)) told ≡ true
    by true = refl
    by false = refl

lost_at : (first found : ℕ) (last told : Bool) → nulled_at (lost_turn first last found) told ≡ true
lost_at first found true told = refl
lost_at first found false told = refl

answer_at : (o : Option Request) (told : Bool) → nulled_at (answer_in o) told ≡ true
answer_at (Some (requests.Answered link era)) told = refl
answer_at (Some (requests.Pending tag index word)) told = refl
answer_at (Some requests.Idle) told = refl
answer_at None told = refl

-- an answer is taken
two_null : (index slot n : ℕ) (null was : Bool) → (index == 0) ≡ true → (not null || along null_by (if null then events.Null index n ∷ [] else events.Held index slot n ∷ []) was) ≡ true
two_null index slot n true was e = rw e refl
two_null index slot n false was e = refl

one_null : (index n : ℕ) (null was : Bool) → (index == 0) ≡ true → (not null || along null_by (if null then events.Null index n ∷ [] else []) was) ≡ true
one_null index n true was e = rw e refl
one_null index n false was e = refl

held_null : (index : ℕ) (root : Root) (link n : ℕ) (was : Bool) → (index == 0) ≡ true → (not (link == 0) || along null_by (told_held index root link n) was) ≡ true
held_null index (roots.Bucket bucket) link n was e = two_null index (link - 1) n (link == 0) was e
held_null index (roots.Next parent) link n was e = one_null index n (link == 0) was e
held_null index roots.Head link n was e = two_null index (link - 1) n (link == 0) was e
held_null index roots.Tail link n was e = two_null index (link - 1) n (link == 0) was e

taken_null : (index : ℕ) (root : Root) (link n : ℕ) (was : Bool) (zero : Bool) → (index == 0) ≡ zero → (not zero || (not (link == 0) || along null_by (told_held index root link n) was)) ≡ true
taken_null index root link n was true e = held_null index root link n was e
taken_null index root link n was false e = refl

protect_on : (why : Why) (aim : Aim) (index : ℕ) (root : Root) (n : ℕ) (at : ProtectAt) (post : Post) (found : ℕ) (was : Bool) → (not (index == 0) || nulled_at at was) ≡ true → On (along null_by (protect_turn aim index root n at post found).told was) why (protect_turn aim index root n at post found)
protect_on why aim index root n (PublishEra era tries) post found was h = or_more (not (index == 0)) (nulled_at (trying post.layout.config era tries) was) (trying_at post.layout.config era tries was)
protect_on why aim index root n (CheckClock era tries link) post found was h =
    if_on (along null_by (protect_turn aim index root n (CheckClock era tries link) post found).told was) why (found == era) (protected aim index root n link era post) (goes post [] (Protect aim index root n (PublishEra found (failed_once tries))))
    (concluded_on (along null_by (protect_turn aim index root n (CheckClock era tries link) post found).told was) why aim index root n link era (held_post post index root link) (told_held index root link n)) (or_more (not (index == 0)) true refl)
protect_on why aim index root n (CheckOwnClock first era last link) post found was h =
    if_on (along null_by (protect_turn aim index root n (CheckOwnClock first era last link) post found).told was) why (found == era) (goes post [] (Protect aim index root n (AnswerOwn first era link))) (goes post [] (Protect aim index root n (lost_turn first last found)))
    (or_more (not (index == 0)) true refl) (or_more (not (index == 0)) (nulled_at (lost_turn first last found) _) (lost_at first found last _))
protect_on why aim index root n (AnswerOwn first era link) post found was h =
    if_on (along null_by (protect_turn aim index root n (AnswerOwn first era link) post found).told was) why (found == own_request post index root) (goes post [] (Protect aim index root n (TakeAnswer link era))) (goes post [] (Protect aim index root n (answer_in (read_request found))))
    (or_more (not (index == 0)) true refl) (or_more (not (index == 0)) (nulled_at (answer_in (read_request found)) _) (answer_at (read_request found) _))
protect_on why aim index root n (LoadAnswer first) post found was h = or_more (not (index == 0)) (nulled_at (answer_in (read_request found)) was) (answer_at (read_request found) was)
protect_on why aim index root n (TakeAnswer link era) post found was h = taken_null index root link n was (index == 0) refl
protect_on why aim index root n (WithdrawRequest link era) post found was h = h
protect_on why aim index root n (WithdrawHelper link era) post found was h =
    concluded_on (along null_by (protect_turn aim index root n (WithdrawHelper link era) post found).told was) why aim index root n link era post (reserves_helper post 0)
protect_on why aim index root n (CheckUpper link) post found was h =
    if_on (along null_by (protect_turn aim index root n (CheckUpper link) post found).told was) why (found == upper post.span) (protected aim index root n link found post) (goes post [] (Protect aim index root n (RaiseUpper found)))
    (concluded_on (along null_by (protect_turn aim index root n (CheckUpper link) post found).told was) why aim index root n link found (held_post post index root link) (told_held index root link n)) (or_more (not (index == 0)) true refl)
protect_on why aim index root n (ByHazard FirstLink) post found was h =
    if_on (along null_by (protect_turn aim index root n (ByHazard FirstLink) post found).told was) why (found == 0) (protected aim index root n found 0 post) (goes post [] (Protect aim index root n (ByHazard (PublishLink found))))
    (concluded_on (along null_by (protect_turn aim index root n (ByHazard FirstLink) post found).told was) why aim index root n found 0 (held_post post index root found) (told_held index root found n)) (or_more (not (index == 0)) true refl)
protect_on why aim index root n (ByHazard (CheckLink link)) post found was h =
    if_on (along null_by (protect_turn aim index root n (ByHazard (CheckLink link)) post found).told was) why (found == link || found == 0) (protected aim index root n found 0 post) (goes post [] (Protect aim index root n (ByHazard (PublishLink found))))
    (concluded_on (along null_by (protect_turn aim index root n (ByHazard (CheckLink link)) post found).told was) why aim index root n found 0 (held_post post index root found) (told_held index root found n)) (or_more (not (index == 0)) true refl)
protect_on why aim index root n at post found was h = or_more (not (index == 0)) true refl

-- the other machines begin no protection
fills_plain : (kind : Kind) → fills kind ≡ true → protects kind ≡ false
fills_plain ToOpen h = absurd (cc)
fills_plain ToFollow h = absurd (cc)
fills_plain kind h = refl

retires_plain : (kind : Kind) → retires kind ≡ true → protects kind ≡ false
retires_plain ToOpen h = absurd (cc)
retires_plain ToFollow h = absurd (cc)
retires_plain kind h = refl

moves_plain : (kind : Kind) → moves kind ≡ true → protects kind ≡ false
moves_plain ToOpen h = absurd (cc)
moves_plain ToFollow h = absurd (cc)
moves_plain kind h = refl

other_base : (told : Bool) (base : Base) (kind : Kind) → suits base kind ≡ true → protects kind ≡ false → nulled_base base told ≡ true
other_base told (Protect aim index root steps at) kind s e = absurd (cc)
other_base told base kind s e = refl

other_on : (layout : Layout) (told : Bool) (why : Why) (post : Post) (outcome : Outcome) → Passed (PhaseFits layout) why post outcome → protects (kind_of why) ≡ false → Onward (In told) why post outcome
other_on layout told why post (Goes base) p e = other_base told base (kind_of why) p.suited e
other_on layout told why post (Ends ending) p e = tt

begin_on : (told : Bool) (why : Why) (at : BeginAt) (post : Post) (found : ℕ) → On told why (after (Begin at) post found)
begin_on told why LoadLower post found = refl
begin_on told why (PublishSpan era) post found = tt

base_on : (layout : Layout) (why : Why) (base : Base) (post : Post) (found : ℕ) (was : Bool) → Run layout why base post → Passed (PhaseFits layout) why (after base post found).post (after base post found).outcome → nulled_base base was ≡ true → On (along null_by (after base post found).told was) why (after base post found)
base_on layout why (Begin at) post found was r p h = begin_on (along null_by (after (Begin at) post found).told was) why at post found
base_on layout why (Protect aim index root made at) post found was r p h = protect_on why aim index root (bump made) at post found was h
base_on layout why (Reload parent index slot era made) post found was r p h =
    if_on (along null_by (after (Reload parent index slot era made) post found).told was) why (found == parent + 1) (ends (with_row post index slot) (events.Held index slot (bump made) ∷ []) (Followed (follow_ends.Followed slot))) (ends post [] (Followed (follow_ends.RootMoved found))) tt tt
base_on layout why (Allocate at) post found was r p h = other_on layout _ why (after (Allocate at) post found).post (after (Allocate at) post found).outcome p (fills_plain (kind_of why) r.suited)
base_on layout why (Write slot row place) post found was r p h = other_on layout _ why (after (Write slot row place) post found).post (after (Write slot row place) post found).outcome p (fills_plain (kind_of why) r.suited)
base_on layout why (Retire at) post found was r p h = other_on layout _ why (after (Retire at) post found).post (after (Retire at) post found).outcome p (retires_plain (kind_of why) r.suited)
base_on layout why (Move at) post found was r p h = other_on layout _ why (after (Move at) post found).post (after (Move at) post found).outcome p (moves_plain (kind_of why) r.suited)
base_on layout why base post found was r p h = tt

run_nulled : (layout : Layout) (k : ℕ) → is_valid layout ≡ true → (why : Why) (base : Base) (post : Post) (found : ℕ) (was : Bool) → PostFits layout k post → Run layout why base post → nulled_base base was ≡ true → Moves (PostFits layout k) (In (along null_by (after base post found).told was)) why (after base post found)
run_nulled layout k v why base post found was q r h =
    let m = shape_moves layout k v why base post found q r in
    moves_with why (after base post found) m (record { post = m.post; phase = base_on layout why base post found was r m.phase h })

owed : (layout : Layout) (k : ℕ) → is_valid layout ≡ true → (phase : Phase) (post : Post) (found : ℕ) (was : Bool) → PostFits layout k post → PhaseFits layout post phase → nulled phase was ≡ true → Owes (PostFits layout k) (In (along null_by (own_told phase (counted post) found) was)) (counted post) found phase
owed layout k v Idle post found was q f h = counted_fits layout k post q
owed layout k v (Runs why base) post found was q f h = run_nulled layout k v why base (counted post) found was (counted_fits layout k post q) (run_counted layout why base post f) h
owed layout k v (Scans later at) post found was q f h = counted_fits layout k post q
owed layout k v (Works work) post found was q f h = record { post = bared_fits layout k work (counted post) (counted_fits layout k post q); fits = work_counted work post f; stores = each_stores (λ p phase. In (along null_by (own_told (Works work) (counted post) found) was) p phase) (λ p from index era. refl) (counted post) found work }

-- what comes after a machine changes nothing of it
later_one : (event : Event) (x : Bool) → is_later event ≡ true → null_by event x ≡ x
later_one (events.Begin call) x h = absurd (cc)
later_one (events.Held index slot count) x h = absurd (cc)
later_one (events.Null index count) x h = absurd (cc)
later_one (events.Copied from index slot) x h = absurd (cc)
later_one event x h = refl

later_null : (told : List Event) (x : Bool) → list_all is_later told ≡ true → along null_by told x ≡ x
later_null [] x h = refl
later_null (event ∷ told) x h =
    let a : is_later event ≡ true = grind (arith, nat_tests) in
    let b : list_all is_later told ≡ true = grind (arith, nat_tests) in
    ap (along null_by told) (later_one event x a) ∙ later_null told x b

pub null_told : (w : World) (i : ℕ) (p : Past) → null_of i (tells_of p i (told_in w i)) ≡ along null_by (own_told (w.seat i).phase (counted (w.seat i).post) (finds w i)) (null_of i p)
null_told w i p =
    let own : List Event = own_told (w.seat i).phase (counted (w.seat i).post) (finds w i) in
    let x : Adds (own_post (w.seat i).phase (counted (w.seat i).post) (finds w i)) own (turn (offered w i) (finds w i)) = step_adds w i in
    seen_tells null_by false i (told_in w i) p
    ∙ ap (λ (es : List Event). along null_by es (null_of i p)) x.is
    ∙ along_both null_by own x.more (null_of i p)
    ∙ later_null x.more (along null_by own (null_of i p)) x.later

-- of each seat
abbrev pub NulledIn : World → Past → ℕ → Type 0
NulledIn w p k = nulled (w.seat k).phase (null_of k p) ≡ true

step_own : (w : World) (i : ℕ) (p : Past) → is_valid w.layout ≡ true → Seats w → NulledIn w p i → NulledIn (step w i) (tells_of p i (told_in w i)) i
step_own w i p v s h =
    let a = s.fits i in
    let now : Bool = along null_by (own_told (w.seat i).phase (counted (w.seat i).post) (finds w i)) (null_of i p) in
    let q = after_seated (null_grows w.layout i now v) (offered w i) (finds w i) (owed w.layout i v (w.seat i).phase (w.seat i).post (finds w i) (null_of i p) a.post a.phase h) in
    subst (λ (x : Bool). nulled ((step w i).seat i).phase x ≡ true) (sym (null_told w i p))
    (subst (λ (l : Local). nulled l.phase now ≡ true) (sym (seat_steps w i)) q.phase)

pub step_nulled : (w : World) (i k : ℕ) (p : Past) (same : Bool) → (k == i) ≡ same → is_valid w.layout ≡ true → Seats w → ((m : ℕ) → NulledIn w p m) → NulledIn (step w i) (tells_of p i (told_in w i)) k
step_nulled w i k p true e v s h =
    let one : k ≡ i = grind (arith, nat_tests) in
    subst (λ (m : ℕ). NulledIn (step w i) (tells_of p i (told_in w i)) m) (sym one) (step_own w i p v s (h i))
step_nulled w i k p false e v s h =
    subst (λ (l : Local). nulled l.phase (null_of k (tells_of p i (told_in w i))) ≡ true) (sym (seat_stays w i k e))
    (subst (λ (x : Bool). nulled (w.seat k).phase x ≡ true) (sym (seen_stays null_by false k i (told_in w i) p e)) (h k))

pub begin_nulled : (w : World) (i k : ℕ) (call : Call) (p : Past) (same : Bool) → (k == i) ≡ same → is_valid w.layout ≡ true → Seats w → ((m : ℕ) → NulledIn w p m) → NulledIn (begin w i call) (Then p i (events.Begin call)) k
begin_nulled w i k call p true e v s h =
    let one : k ≡ i = grind (arith, nat_tests) in
    let a = s.fits i in
    let q = begun_seated (null_grows w.layout i (null_of i (Then p i (events.Begin call))) v) (w.seat i) call (begun_fits w.layout i (w.seat i).post a.post) in
    subst (λ (m : ℕ). NulledIn (begin w i call) (Then p i (events.Begin call)) m) (sym one)
    (subst (λ (l : Local). nulled l.phase (null_of i (Then p i (events.Begin call))) ≡ true) (sym (begin_begins w i call)) q.phase)
begin_nulled w i k call p false e v s h =
    subst (λ (l : Local). nulled l.phase (null_of k (Then p i (events.Begin call))) ≡ true) (sym (begin_stays w i k call e))
    (subst (λ (x : Bool). nulled (w.seat k).phase x ≡ true) (sym (seen_other null_by false k i p (events.Begin call) e)) (h k))

-- a protection that ends with a null link at index 0 has told so
if_null : (c was : Bool) (t u : Turn) → c ≡ true → along null_by t.told was ≡ true → along null_by (if c then t else u).told was ≡ true
if_null true was t u e h = h
if_null false was t u e h = absurd (cc)

found_null : (aim : Aim) (index : ℕ) (root : Root) (n link era : ℕ) (post : Post) (was : Bool) → (index == 0) ≡ true → (link == 0) ≡ true → along null_by (protected aim index root n link era post).told was ≡ true
found_null aim index root n link era post was e z =
    subst (λ (es : List Event). along null_by es was ≡ true) (sym (concluded_told aim index root n link era (held_post post index root link) (told_held index root link n)))
    (then_of (link == 0) (along null_by (told_held index root link n) was) z (held_null index root link n was e))

pub ended_null : (aim : Aim) (index : ℕ) (root : Root) (n : ℕ) (at : ProtectAt) (post : Post) (found : ℕ) (was : Bool) → ends_at post at found 0 ≡ true → (index == 0) ≡ true → (not (index == 0) || nulled_at at was) ≡ true → along null_by (protect_turn aim index root n at post found).told was ≡ true
ended_null aim index root n (CheckClock era tries link) post found was d e h =
    if_null (found == era) was (protected aim index root n link era post) (goes post [] (Protect aim index root n (PublishEra found (failed_once tries)))) (first_of (found == era) (link == 0) d) (found_null aim index root n link era post was e (rest_of (found == era) (link == 0) d))
ended_null aim index root n (WithdrawHelper link era) post found was d e h =
    subst (λ (es : List Event). along null_by es was ≡ true) (sym (concluded_told aim index root n link era post (reserves_helper post 0)))
    (then_of (link == 0) was d (then_of (index == 0) (not (link == 0) || was) e h))
ended_null aim index root n (CheckUpper link) post found was d e h =
    if_null (found == upper post.span) was (protected aim index root n link found post) (goes post [] (Protect aim index root n (RaiseUpper found))) (first_of (found == upper post.span) (link == 0) d) (found_null aim index root n link found post was e (rest_of (found == upper post.span) (link == 0) d))
ended_null aim index root n (ByHazard FirstLink) post found was d e h =
    if_null (found == 0) was (protected aim index root n found 0 post) (goes post [] (Protect aim index root n (ByHazard (PublishLink found)))) (first_of (found == 0) (found == 0) d) (found_null aim index root n found 0 post was e (rest_of (found == 0) (found == 0) d))
ended_null aim index root n (ByHazard (CheckLink link)) post found was d e h =
    if_null (found == link || found == 0) was (protected aim index root n found 0 post) (goes post [] (Protect aim index root n (ByHazard (PublishLink found)))) (first_of (found == link || found == 0) (found == 0) d) (found_null aim index root n found 0 post was e (rest_of (found == link || found == 0) (found == 0) d))
ended_null aim index root n at post found was d e h = absurd (cc)
