-- The birth era of a row is the one under which it was given last.
use Rattle.inv_rows.specs.model.Rounds.{scheme_of}
use Rattle.inv_rows.specs.words.Schemes.{publishes_rows}
use Rattle.inv_rows.specs.model.Keep.{held_number}
use Rattle.std.proofs.Common.{ℕ, ◌+◌, ◌-◌, Bool, true, false, ◌≡◌, ◌∙◌, sym, refl, ap, subst, arith}
use Rattle.std.proofs.lemmas.Bool.Decides.{nat_tests}
use Rattle.inv_rows.specs.model.Machine as machine
use Rattle.inv_rows.specs.defs.declared.event.Event.TheVariants as events
use Rattle.inv_rows.specs.model.Allocate.{after_claim_slot, is_claimed, walk_past, walking}
use Rattle.inv_rows.specs.model.Calls.{KeepAt, Phase, Why, Work}
use Rattle.inv_rows.specs.model.Calls.ChangeAt.{ExchangeRoot, LoadCount, LoadKey, LoadValue, LoadVersion}
use Rattle.inv_rows.specs.model.Calls.DequeueAt.{ExchangeHead, LoadTail, SwingTail, TakeNumber, TakeValue}
use Rattle.inv_rows.specs.model.Calls.EnqueueAt.{ExchangeNext, ExchangeTail, LoadNext, LoadNumber, PassTail}
use Rattle.inv_rows.specs.model.Calls.KeepAt.{HideSpan, LoadHeld, Loosens, Looks, MarkLeft, MarkTaken, Misses, StoreHeld, TakeList}
use Rattle.inv_rows.specs.model.Calls.Phase.{Idle, Runs, Scans, Works}
use Rattle.inv_rows.specs.model.Calls.ScanAt.{GiveBack, ReadGuard}
use Rattle.inv_rows.specs.model.Calls.Why.{Advances, Clears, ClearsNext, Fills, Finishes, FollowsHead, GivesUp, Opens, Releases, Retires, Tidies}
use Rattle.inv_rows.specs.model.Calls.Work.{Changing, Dequeuing, Enqueuing, Getting, Keeping}
use Rattle.inv_rows.specs.model.Change.{changed_bucket}
use Rattle.inv_rows.specs.model.Locals.{Local, after, begun}
use Rattle.inv_rows.specs.model.Phases.{Base, Outcome, RowOf, Walk, ends, goes}
use Rattle.inv_rows.specs.model.Phases.AllocateAt.{ClaimSlot, LoadBirth, StoreLife}
use Rattle.inv_rows.specs.model.Phases.Base.{Allocate, Begin, Clear, Finish, GiveUp, Move, Protect, Release, Reload, Retire, Write}
use Rattle.inv_rows.specs.model.Phases.Ending.{Done}
use Rattle.inv_rows.specs.model.Phases.Outcome.{Ends, Goes}
use Rattle.inv_rows.specs.model.Phases.RetireAt.{LoadLife, LoadRetire, StoreRetired}
use Rattle.inv_rows.specs.model.Posts.{counted}
use Rattle.inv_rows.specs.model.World.{World, begin, finds, list_in, offered, step, told_in}
use Rattle.inv_rows.specs.model.WriteRow.{last_written}
use Rattle.inv_rows.specs.model.declared.post.Post.{Post}
use Rattle.inv_rows.specs.defs.declared.event.Event.{Event}
use Rattle.inv_rows.specs.defs.declared.lifetime.Lifetime.{Lifetime}
use Rattle.inv_rows.proofs.Shapes.Frame.{after_seated, begin_begins, begin_stays, begun_seated, moves_with, seat_stays, seat_steps}
use Rattle.inv_rows.proofs.Shapes.Inside.{shape_moves}
use Rattle.inv_rows.proofs.Shapes.Kept.{bared_fits, begun_fits, counted_fits, one_moves, run_counted, work_counted}
use Rattle.inv_rows.proofs.Shapes.Shapes.{shape_grows}
use Rattle.inv_rows.specs.Shapes.Frame.{Grows, Moves, Onward, Owes, Passed, Seated, Stores}
use Rattle.inv_rows.specs.Shapes.Seats.{Kind, PhaseFits, PostFits, Run, fills, kind_of, suits}
use Rattle.inv_rows.specs.Shapes.Seats.Kind.{ToClear, ToFill, ToFinish, ToFollow, ToGiveUp, ToMove, ToOpen, ToRelease, ToRetire}
use Rattle.inv_rows.proofs.Fits.{MoveFits, phase_fits}
use Rattle.inv_rows.proofs.Made.{passed_life}
use Rattle.inv_rows.proofs.Steps.{of_new}
use Rattle.inv_rows.specs.Agree.{Plays}
use Rattle.inv_rows.specs.Hands.{base_row, hand_why, keep_row, linked_row, row_move, runs_right, work_row}
use Rattle.inv_rows.specs.Rows.{Good, RowMove, View, has_life, made}
use Rattle.inv_rows.specs.Rows.Hand.{New}
use Rattle.inv_rows.specs.Rows.RowMove.{Adopts, Appends, Bears, Claims, Drops, Links, Lists, Pops, Reads, Replaces, Returns, Seals, Stays}
use Rattle.inv_rows.specs.Rows.Status.{Claimed}
use Rattle.inv_ends.proofs.Told.Rows.{rows_told, rows_were}
use Rattle.inv_ends.specs.Births.{GivenBase, GivenBegin, GivenKept, GivenNeeds, GivenPhase, GivenStart, RetiresGiven, given_after, given_all, given_by}
use Rattle.inv_ends.specs.Told.{RowRetires, RowWas, birth_base, birth_in, move_of, of_rows, row_events}
use Rattle.inv_rows.specs.defs.Events.{is_of_rows}
use Rattle.inv_rows.specs.words.Place.{is_valid}
use Rattle.inv_rows.specs.words.Place.Place.{Clock}
use Rattle.inv_rows.specs.words.declared.layout.Layout.{Layout}
use Rattle.std.specs.Prelude.{List, [], ◌∷◌, Option, Some, None, if◌then◌else◌, ◌==◌}
use Rattle.inv_rows.proofs.model.Facts.{no_truth_2}

-- only events of rows give one
event_given : (e : Event) (given : ℕ → ℕ) → is_of_rows e ≡ false → given_by e given ≡ given
event_given (events.Begin call) given h = refl
event_given (events.End count answer) given h = refl
event_given (events.Era era) given h = refl
event_given (events.Reserve guard span) given h = refl
event_given (events.Read guard span) given h = refl
event_given (events.Hazard guard slot) given h = refl
event_given (events.Saw guard slot) given h = refl
event_given (events.Give slot birth) given h = no_truth_2 (sym h)
event_given (events.Unused slot) given h = no_truth_2 (sym h)
event_given (events.Link root slot) given h = refl
event_given (events.Cut slot) given h = refl
event_given (events.Retire slot birth retire) given h = no_truth_2 (sym h)
event_given (events.Back slot) given h = no_truth_2 (sym h)
event_given (events.Held index slot n) given h = refl
event_given (events.Null index n) given h = refl
event_given (events.Clear index slot) given h = refl
event_given (events.Copied from index slot) given h = refl
event_given (events.Put bucket version key value) given h = refl
event_given (events.Removed bucket version key) given h = refl
event_given (events.Got bucket version key value) given h = refl
event_given (events.Queued number value) given h = refl
event_given (events.Taken number value) given h = refl
event_given (events.Left count) given h = refl
event_given (events.Adopted place count) given h = refl

one_given : (s : ℕ) (given : ℕ → ℕ) (e : Event) (es : List Event) (own : Bool) → is_of_rows e ≡ own → ((f : ℕ → ℕ) → given_all es f s ≡ given_all (of_rows es) f s) → given_all (e ∷ es) given s ≡ given_all (of_rows (e ∷ es)) given s
one_given s given e es true h k = rw h (k (given_by e given))
one_given s given e es false h k = rw (h, event_given e given h) (k given)

of_given : (s : ℕ) (told : List Event) (given : ℕ → ℕ) → given_all told given s ≡ given_all (of_rows told) given s
of_given s [] given = refl
of_given s (e ∷ es) given = one_given s given e es (is_of_rows e) refl (λ f. of_given s es f)

-- so a step gives what its move of rows says
pub step_given : (w : World) (i : ℕ) (given : ℕ → ℕ) (s : ℕ) → given_after w i given s ≡ given_all (row_events (birth_in (w.seat i).phase) (move_of w i)) given s
step_given w i given s = of_given s (told_in w i) given ∙ ap (λ (told : List Event). given_all told given s) (rows_told w i)

-- a birth era that is stored was told
abbrev pub Bearing : (ℕ → ℕ) → RowMove → Type 0
Bearing given (Bears slot birth) = given slot ≡ birth
Bearing given m = Unit {0}

bear_linked : (given : ℕ → ℕ) (bucket slot link : ℕ) (null : Bool) → Bearing given (if null then Links bucket slot else Replaces bucket slot (link - 1))
bear_linked given bucket slot link true = tt
bear_linked given bucket slot link false = tt

bear_exchange : (given : ℕ → ℕ) (bucket slot link : ℕ) (same : Bool) → Bearing given (if same then linked_row bucket slot link else Stays)
bear_exchange given bucket slot link true = bear_linked given bucket slot link (link == 0)
bear_exchange given bucket slot link false = tt

bear_append : (given : ℕ → ℕ) (slot : ℕ) (same : Bool) → Bearing given (if same then Appends slot else Stays)
bear_append given slot true = tt
bear_append given slot false = tt

bear_pop : (given : ℕ → ℕ) (head next : ℕ) (same : Bool) → Bearing given (if same then Pops head next else Stays)
bear_pop given head next true = tt
bear_pop given head next false = tt

bear_claim : (given : ℕ → ℕ) (slot : ℕ) (taken : Bool) → Bearing given (if taken then Stays else Claims slot)
bear_claim given slot true = tt
bear_claim given slot false = tt

bear_adopt : (given : ℕ → ℕ) (place : ℕ) (left : Bool) → Bearing given (if left then Adopts place else Stays)
bear_adopt given place true = tt
bear_adopt given place false = tt

keep_bears : (given : ℕ → ℕ) (at : KeepAt) (found : ℕ) → Bearing given (keep_row at found)
keep_bears given (TakeList place) found = bear_adopt given place (found == 1)
keep_bears given (Loosens let_go) found = tt
keep_bears given (LoadHeld from index) found = tt
keep_bears given (StoreHeld from index era) found = tt
keep_bears given (Looks index key at) found = tt
keep_bears given (Misses index) found = tt
keep_bears given HideSpan found = tt
keep_bears given MarkLeft found = tt
keep_bears given (MarkTaken place count) found = tt

work_bears : (given : ℕ → ℕ) (work : Work) (post : Post) (found : ℕ) → Bearing given (work_row work post found)
work_bears given (Getting key at) post found = tt
work_bears given (Changing kept (LoadVersion slot)) post found = tt
work_bears given (Changing kept (LoadCount slot)) post found = tt
work_bears given (Changing kept (LoadKey slot count)) post found = tt
work_bears given (Changing kept (LoadValue slot count key)) post found = tt
work_bears given (Changing kept (ExchangeRoot slot)) post found = bear_exchange given (changed_bucket kept post) slot kept.link (found == kept.link)
work_bears given (Enqueuing kept LoadNumber) post found = tt
work_bears given (Enqueuing kept LoadNext) post found = tt
work_bears given (Enqueuing kept (PassTail next)) post found = tt
work_bears given (Enqueuing kept (ExchangeNext slot)) post found = bear_append given slot (found == 0)
work_bears given (Enqueuing kept (ExchangeTail slot)) post found = tt
work_bears given (Dequeuing (LoadTail head)) post found = tt
work_bears given (Dequeuing (SwingTail head next)) post found = tt
work_bears given (Dequeuing (TakeNumber head next)) post found = tt
work_bears given (Dequeuing (TakeValue head next number)) post found = tt
work_bears given (Dequeuing (ExchangeHead head next number value)) post found = bear_pop given head next (found == head + 1)
work_bears given (Keeping at) post found = keep_bears given at found

phase_bears : (given : ℕ → ℕ) (phase : Phase) (post : Post) (found : ℕ) → GivenPhase given phase → Bearing given (row_move phase post found)
phase_bears given Idle post found h = tt
phase_bears given (Runs why (Begin at)) post found h = tt
phase_bears given (Runs why (Protect aim index root steps at)) post found h = tt
phase_bears given (Runs why (Reload parent index slot era steps)) post found h = tt
phase_bears given (Runs why (Clear rows index)) post found h = tt
phase_bears given (Runs why Finish) post found h = tt
phase_bears given (Runs why (Release index)) post found h = tt
phase_bears given (Runs why (Allocate LoadBirth)) post found h = tt
phase_bears given (Runs why (Allocate (ClaimSlot birth walk))) post found h = bear_claim given walk.slot (is_claimed found walk.slot)
phase_bears given (Runs why (Allocate (StoreLife birth slot))) post found h = h
phase_bears given (Runs why (Write slot row place)) post found h = tt
phase_bears given (Runs why (GiveUp slot)) post found h = tt
phase_bears given (Runs why (Retire (LoadLife slot))) post found h = tt
phase_bears given (Runs why (Retire (LoadRetire slot birth))) post found h = tt
phase_bears given (Runs why (Retire (StoreRetired slot birth retire))) post found h = tt
phase_bears given (Runs why (Move at)) post found h = tt
phase_bears given (Scans later (ReadGuard number)) post found h = tt
phase_bears given (Scans later (GiveBack place slot)) post found h = tt
phase_bears given (Works work) post found h = work_bears given work post found

-- the births of rows after a move
made_born : (i : ℕ) (v : View) (given : ℕ → ℕ) (birth : ℕ) (m : RowMove) (s : ℕ) → MoveFits i v m → Bearing given m → (has_life (v.status s) ≡ true → v.birth s ≡ given s) → has_life ((made i v m).status s) ≡ true → (made i v m).birth s ≡ given_all (row_events birth m) given s
made_born i v given birth Stays s f b h l = h l
made_born i v given birth (Claims slot) s f b h l = grind (arith, nat_tests)
made_born i v given birth (Bears slot born) s f b h l = grind (arith, nat_tests)
made_born i v given birth (Drops slot) s f b h l = grind (arith, nat_tests)
made_born i v given birth (Links bucket slot) s f b h l = grind (arith, nat_tests)
made_born i v given birth (Replaces bucket slot old) s f b h l = let x = f.0 in let y = f.1 in grind (arith, nat_tests)
made_born i v given birth (Appends slot) s f b h l = grind (arith, nat_tests)
made_born i v given birth (Pops slot next) s f b h l = grind (arith, nat_tests)
made_born i v given birth (Reads slot born) s f b h l = h l
made_born i v given birth (Seals slot born retire) s f b h l = grind (arith, nat_tests)
made_born i v given birth (Lists slot born retire) s f b h l = grind (arith, nat_tests)
made_born i v given birth (Returns slot) s f b h l = grind (arith, nat_tests)
made_born i v given birth (Adopts from) s f b h l = h (sym (passed_life from i (v.status s)) ∙ l)

-- a row that another seat has claimed is not given
other_given : (i k : ℕ) (v : View) (given : ℕ → ℕ) (birth : ℕ) (m : RowMove) (s : ℕ) → MoveFits i v m → v.status s ≡ Claimed k → given_all (row_events birth m) given s ≡ given s
other_given i k v given birth Stays s f h = refl
other_given i k v given birth (Claims slot) s f h = grind (arith, nat_tests)
other_given i k v given birth (Bears slot born) s f h = refl
other_given i k v given birth (Drops slot) s f h = refl
other_given i k v given birth (Links bucket slot) s f h = refl
other_given i k v given birth (Replaces bucket slot old) s f h = refl
other_given i k v given birth (Appends slot) s f h = refl
other_given i k v given birth (Pops slot next) s f h = refl
other_given i k v given birth (Reads slot born) s f h = refl
other_given i k v given birth (Seals slot born retire) s f h = refl
other_given i k v given birth (Lists slot born retire) s f h = refl
other_given i k v given birth (Returns slot) s f h = refl
other_given i k v given birth (Adopts from) s f h = refl

-- a seat whose birth era is to be stored has claimed the row
store_hand : (why : Why) (birth slot : ℕ) → runs_right why (Allocate (StoreLife birth slot)) ≡ true → hand_why why (Allocate (StoreLife birth slot)) ≡ New slot
store_hand (Opens task) birth slot h = no_truth_2 h
store_hand (FollowsHead head tail) birth slot h = no_truth_2 h
store_hand (Fills task) birth slot h = refl
store_hand (ClearsNext next) birth slot h = no_truth_2 h
store_hand (Clears task next) birth slot h = no_truth_2 h
store_hand (Finishes task next) birth slot h = no_truth_2 h
store_hand (GivesUp answer) birth slot h = no_truth_2 h
store_hand (Retires answer) birth slot h = no_truth_2 h
store_hand (Tidies later) birth slot h = no_truth_2 h
store_hand Advances birth slot h = no_truth_2 h
store_hand (Releases let_go) birth slot h = no_truth_2 h

base_given : (slots k : ℕ) (v : View) (given now : ℕ → ℕ) (why : Why) (base : Base) (list : List Lifetime) → Good slots v → Plays k (Runs why base) list v → ((s : ℕ) → v.status s ≡ Claimed k → now s ≡ given s) → GivenBase given base → GivenBase now base
base_given slots k v given now why (Begin at) list g p f h = tt
base_given slots k v given now why (Protect aim index root steps at) list g p f h = tt
base_given slots k v given now why (Reload parent index slot era steps) list g p f h = tt
base_given slots k v given now why (Clear rows index) list g p f h = tt
base_given slots k v given now why Finish list g p f h = tt
base_given slots k v given now why (Release index) list g p f h = tt
base_given slots k v given now why (Allocate LoadBirth) list g p f h = tt
base_given slots k v given now why (Allocate (ClaimSlot birth walk)) list g p f h = tt
base_given slots k v given now why (Allocate (StoreLife birth slot)) list g p f h = f slot (of_new slots v k slot g (p.hand ∙ store_hand why birth slot p.right)) ∙ h
base_given slots k v given now why base list g p f h = tt

phase_given : (slots k : ℕ) (v : View) (given now : ℕ → ℕ) (phase : Phase) (list : List Lifetime) → Good slots v → Plays k phase list v → ((s : ℕ) → v.status s ≡ Claimed k → now s ≡ given s) → GivenPhase given phase → GivenPhase now phase
phase_given slots k v given now Idle list g p f h = tt
phase_given slots k v given now (Runs why base) list g p f h = base_given slots k v given now why base list g p f h
phase_given slots k v given now (Scans later at) list g p f h = tt
phase_given slots k v given now (Works work) list g p f h = tt

-- where a call comes to by no step of a machine no birth era is to be stored
given_grows : (layout : Layout) (k : ℕ) (given : ℕ → ℕ) → is_valid layout ≡ true → Grows (PostFits layout k) (λ post phase. GivenPhase given phase)
given_grows layout k given v = let g = shape_grows layout k v in record {
  guarded = g.guarded;
  withdraws = g.withdraws;
  copies = g.copies;
  idle = λ post q. tt;
  begins = λ post task s e q. tt;
  opens = λ post task s q. tt;
  follows = λ post head tail s q. tt;
  allocates = λ post task s q. tt;
  writes = λ post task slot row s q. tt;
  clears = λ post task next s q. tt;
  clears_next = λ post next s q. tt;
  finishes = λ post task next s e q. tt;
  gives_up = λ post answer slot q. tt;
  retires = λ post answer slot q. tt;
  tidies = λ post later m q. tt;
  advances = λ post q. tt;
  clears_kept = λ post let_go s q. tt;
  releases = λ post let_go s e q. tt;
  scans = λ post later number b q. tt;
  gives_back = λ post later place slot q. tt;
  works = λ post work n s q. tt;
}

-- a machine that fills no row goes on to none that does
other_base : (layout : Layout) (why : Why) (base : Base) (post : Post) (given : ℕ → ℕ) → fills (kind_of why) ≡ false → Run layout why base post → GivenBase given base
other_base layout why (Begin at) post given f r = tt
other_base layout why (Protect aim index root steps at) post given f r = tt
other_base layout why (Reload parent index slot era steps) post given f r = tt
other_base layout why (Clear rows index) post given f r = tt
other_base layout why Finish post given f r = tt
other_base layout why (Release index) post given f r = tt
other_base layout why (Allocate at) post given f r = no_truth_2 (sym f ∙ r.suited)
other_base layout why base post given f r = tt

abbrev pub Onto : (ℕ → ℕ) → Why → Post → Outcome → Type 0
Onto given why post outcome = Onward (λ p phase. GivenPhase given phase) why post outcome

other_on : (layout : Layout) (why : Why) (post : Post) (outcome : Outcome) (given : ℕ → ℕ) → fills (kind_of why) ≡ false → Passed (PhaseFits layout) why post outcome → Onto given why post outcome
other_on layout why post (Goes base) given f r = other_base layout why base post given f r
other_on layout why post (Ends ending) given f r = tt

abbrev pub is_filling : Base → Bool
is_filling (Allocate at) = true
is_filling (Write slot row place) = true
is_filling base = false

pub apart : (base : Base) (kind : Kind) → is_filling base ≡ false → suits base kind ≡ true → fills kind ≡ false
apart base ToOpen n s = refl
apart base ToFollow n s = refl
apart base ToClear n s = refl
apart base ToFinish n s = refl
apart base ToRelease n s = refl
apart base ToGiveUp n s = refl
apart base ToRetire n s = refl
apart base ToMove n s = refl
apart (Begin at) ToFill n s = sym s
apart (Protect aim index root steps at) ToFill n s = sym s
apart (Reload parent index slot era steps) ToFill n s = sym s
apart (Clear rows index) ToFill n s = sym s
apart Finish ToFill n s = sym s
apart (Release index) ToFill n s = sym s
apart (Allocate at) ToFill n s = n
apart (Write slot row place) ToFill n s = n
apart (GiveUp slot) ToFill n s = sym s
apart (Retire at) ToFill n s = sym s
apart (Move at) ToFill n s = sym s

write_on : (why : Why) (post left : Post) (slot : ℕ) (row : RowOf) (place : ℕ) (given : ℕ → ℕ) (last : Bool) → Onto given why left (if last then ends post [] Done else goes post [] (Write slot row (place + 1))).outcome
write_on why post left slot row place given true = tt
write_on why post left slot row place given false = tt

walking_on : (why : Why) (birth : ℕ) (post left : Post) (x : Option Walk) (given : ℕ → ℕ) → Onto given why left (walking birth post x).outcome
walking_on why birth post left None given = tt
walking_on why birth post left (Some walk) given = tt

claim_on : (why : Why) (birth : ℕ) (walk : Walk) (post left : Post) (found : ℕ) (given : ℕ → ℕ) (taken : Bool) → is_claimed found walk.slot ≡ taken → (taken ≡ false → given walk.slot ≡ birth) → Onto given why left (after_claim_slot birth walk post found).outcome
claim_on why birth walk post left found given true e f = rw e (walking_on why birth post left (walk_past post.layout.config.slots walk found) given)
claim_on why birth walk post left found given false e f = rw e (f refl)

-- where a row is claimed its birth era is the one that was told
abbrev pub Claiming : (ℕ → ℕ) → Base → ℕ → Type 0
Claiming given (Allocate (ClaimSlot birth walk)) found = is_claimed found walk.slot ≡ false → given walk.slot ≡ birth
Claiming given base found = Unit {0}

base_on : (layout : Layout) (k : ℕ) (why : Why) (base : Base) (post : Post) (found : ℕ) (given : ℕ → ℕ) → Run layout why base post → Claiming given base found → Passed (PhaseFits layout) why (machine.after base post found).post (machine.after base post found).outcome
    → Onto given why (machine.after base post found).post (machine.after base post found).outcome
base_on layout k why (Begin at) post found given r c h = other_on layout why _ (machine.after (Begin at) post found).outcome given (apart (Begin at) (kind_of why) refl r.suited) h
base_on layout k why (Protect aim index root steps at) post found given r c h = other_on layout why _ (machine.after (Protect aim index root steps at) post found).outcome given (apart (Protect aim index root steps at) (kind_of why) refl r.suited) h
base_on layout k why (Reload parent index slot era steps) post found given r c h = other_on layout why _ (machine.after (Reload parent index slot era steps) post found).outcome given (apart (Reload parent index slot era steps) (kind_of why) refl r.suited) h
base_on layout k why (Clear rows index) post found given r c h = tt
base_on layout k why Finish post found given r c h = tt
base_on layout k why (Release index) post found given r c h = tt
base_on layout k why (Allocate LoadBirth) post found given r c h = tt
base_on layout k why (Allocate (ClaimSlot birth walk)) post found given r c h = claim_on why birth walk post post found given (is_claimed found walk.slot) refl c
base_on layout k why (Allocate (StoreLife birth slot)) post found given r c h = tt
base_on layout k why (Write slot row place) post found given r c h = write_on why post post slot row place given (place == last_written row)
base_on layout k why (GiveUp slot) post found given r c h = tt
base_on layout k why (Retire at) post found given r c h = other_on layout why _ (machine.after (Retire at) post found).outcome given (apart (Retire at) (kind_of why) refl r.suited) h
base_on layout k why (Move at) post found given r c h = other_on layout why _ (machine.after (Move at) post found).outcome given (apart (Move at) (kind_of why) refl r.suited) h

abbrev pub ClaimingIn : (ℕ → ℕ) → Phase → ℕ → Type 0
ClaimingIn given (Runs why base) found = Claiming given base found
ClaimingIn given phase found = Unit {0}

claim_given : (given now : ℕ → ℕ) (birth slot : ℕ) (taken : Bool) → ((s : ℕ) → now s ≡ given_all (row_events birth (if taken then Stays else Claims slot)) given s) → taken ≡ false → now slot ≡ birth
claim_given given now birth slot true f e = no_truth_2 (sym e)
claim_given given now birth slot false f e = f slot ∙ same (slot == slot) (grind (arith, nat_tests)) where
  same : (x : Bool) → x ≡ true → (if x then birth else given slot) ≡ birth
  same true e = refl
  same false e = no_truth_2 e

claims_base : (given now : ℕ → ℕ) (why : Why) (base : Base) (post : Post) (found : ℕ) → ((s : ℕ) → now s ≡ given_all (row_events (birth_base base) (base_row base found)) given s) → Claiming now base found
claims_base given now why (Begin at) post found f = tt
claims_base given now why (Protect aim index root steps at) post found f = tt
claims_base given now why (Reload parent index slot era steps) post found f = tt
claims_base given now why (Clear rows index) post found f = tt
claims_base given now why Finish post found f = tt
claims_base given now why (Release index) post found f = tt
claims_base given now why (Allocate LoadBirth) post found f = tt
claims_base given now why (Allocate (ClaimSlot birth walk)) post found f = claim_given given now birth walk.slot (is_claimed found walk.slot) f
claims_base given now why (Allocate (StoreLife birth slot)) post found f = tt
claims_base given now why base post found f = tt

claims_in : (given now : ℕ → ℕ) (phase : Phase) (post : Post) (found : ℕ) → ((s : ℕ) → now s ≡ given_all (row_events (birth_in phase) (row_move phase post found)) given s) → ClaimingIn now phase found
claims_in given now Idle post found f = tt
claims_in given now (Runs why base) post found f = claims_base given now why base post found f
claims_in given now (Scans later at) post found f = tt
claims_in given now (Works work) post found f = tt

-- a property that the second step of a copy has at each post
pub each_stores : (P : Post → Phase → Type 0) → ((post : Post) (from index era : ℕ) → P post (Works (Keeping (StoreHeld from index era)))) → (post : Post) (found : ℕ) (work : Work) → Stores P post found work
each_stores P h post found (Keeping (LoadHeld from index)) = λ n. h post from index (held_number (publishes_rows (scheme_of post)) found)
each_stores P h post found work = tt

owed : (layout : Layout) (k : ℕ) → is_valid layout ≡ true → (phase : Phase) (post : Post) (found : ℕ) (given : ℕ → ℕ) → PostFits layout k post → PhaseFits layout post phase → ClaimingIn given phase found → Owes (PostFits layout k) (λ p q. GivenPhase given q) (counted post) found phase
owed layout k v Idle post found given q p x = counted_fits layout k post q
owed layout k v (Runs why base) post found given q p x =
    let m : Moves (PostFits layout k) (PhaseFits layout) why (machine.after base (counted post) found) = shape_moves layout k v why base (counted post) found (counted_fits layout k post q) (run_counted layout why base post p) in
    moves_with why (machine.after base (counted post) found) m (record { post = m.post; phase = base_on layout k why base (counted post) found given (run_counted layout why base post p) x m.phase })
owed layout k v (Scans later at) post found given q p x = counted_fits layout k post q
owed layout k v (Works work) post found given q p x = record { post = bared_fits layout k work (counted post) (counted_fits layout k post q); fits = work_counted work post p; stores = each_stores (λ p q. GivenPhase given q) (λ p from index era. tt) (counted post) found work }

fits_of : (w : World) (i : ℕ) (v : View) → GivenNeeds w i v → MoveFits i v (move_of w i)
fits_of w i v n = phase_fits w.layout.config.slots i w.mem v (w.seat i).phase (w.seat i).post (list_in w i) n.needs n.rows.good n.rows.words (n.rows.plays i)

pub given_kept : GivenKept
given_kept w i v given n x =
    let l : Local = w.seat i in
    let now : ℕ → ℕ = given_after w i given in
    let f : MoveFits i v (move_of w i) = fits_of w i v n in
    let g : Seated (PostFits w.layout i) (λ p q. GivenPhase now q) (after (offered w i) (finds w i)) = after_seated (given_grows w.layout i now n.valid) (offered w i) (finds w i) (owed w.layout i n.valid l.phase l.post (finds w i) now (n.seats.fits i).post (n.seats.fits i).phase (claims_in given now l.phase l.post (finds w i) (λ s. step_given w i given s))) in
    record {
      born = λ s h. made_born i v given (birth_in l.phase) (move_of w i) s f (phase_bears given l.phase l.post (finds w i) (x.stores i)) (x.born s) h ∙ sym (step_given w i given s);
      stores = one_moves (λ k m. GivenPhase now m.phase) w.seat (step w i).seat i (λ k. phase_given w.layout.config.slots k v given now (w.seat k).phase (list_in w k) n.rows.good (n.rows.plays k) (λ s e. step_given w i given s ∙ other_given i k v given (birth_in l.phase) (move_of w i) s f e) (x.stores k)) (seat_stays w i)
          (subst (λ (m : Local). GivenPhase now m.phase) (sym (seat_steps w i)) g.phase);
    }

pub given_begin : GivenBegin
given_begin w i call v given y s x =
    let g : Seated (PostFits w.layout i) (λ p q. GivenPhase given q) (begun (w.seat i) call) = begun_seated (given_grows w.layout i given y) (w.seat i) call (begun_fits w.layout i (w.seat i).post (s.fits i).post) in
    record {
      born = x.born;
      stores = one_moves (λ k m. GivenPhase given m.phase) w.seat (begin w i call).seat i x.stores (λ k. begin_stays w i k call) (subst (λ (m : Local). GivenPhase given m.phase) (sym (begin_begins w i call)) g.phase);
    }

pub given_start : GivenStart
given_start layout = record { born = λ s h. refl; stores = λ k. tt }

pub retires_given : RetiresGiven
retires_given w i slot birth retire v given n r x e =
    let y : RowRetires (w.mem Clock) i v slot birth retire = subst (RowWas (w.mem Clock) i v) e (rows_were w i v n.needs r n.rows) in
    let h : has_life (v.status slot) ≡ true = rw y.was refl in
    sym (y.born ∙ x.born slot h)
