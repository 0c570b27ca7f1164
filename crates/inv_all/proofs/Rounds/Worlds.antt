-- What each step makes of the roots, the links and the counts.
use Rattle.std.proofs.Common.{append_assoc, length-append, ℕ, ◌∙◌, ◌≡◌, ◌≤◌, ◌+◌, ◌-◌, Bool, true, false, [], ◌∷◌, arith, refl, ap, subst}
use Rattle.std.proofs.lemmas.Bool.Decides.{nat_tests}
use Rattle.inv_ends.specs.model.words.Place.{Place}
use Rattle.inv_ends.specs.model.words.Place.Place.{Clock, Bucket, Head, Tail, Row}
use Rattle.inv_ends.specs.model.Memory.{Load, written, found, place_in, upd}
use Rattle.inv_ends.specs.model.Phases.Base.{Move as Moves, Allocate, Begin, Clear, Finish, GiveUp, Protect, Release, Reload, Retire, Write}
use Rattle.inv_ends.specs.model.Change as alters
use Rattle.inv_ends.specs.model.Enqueue as enqueues
use Rattle.inv_ends.specs.model.Dequeue as dequeues
use Rattle.inv_ends.specs.model.Get as gets
use Rattle.inv_ends.specs.model.Keep as keeps
use Rattle.inv_ends.specs.model.Machine as machine
use Rattle.inv_ends.specs.model.Steps as steps
use Rattle.inv_ends.specs.model.Scan as scan
use Rattle.inv_ends.specs.model.defs.declared.event.Event.TheVariants as events
use Rattle.inv_ends.specs.model.defs.declared.event.Root.TheVariants as roots
use Rattle.inv_ends.specs.model.defs.declared.call.Answer.TheVariants as answers
use Rattle.inv_ends.specs.model.defs.declared.call.ClockMove.TheVariants as moves
use Rattle.inv_ends.specs.model.Book.{Book, booked_all}
use Rattle.inv_ends.specs.model.Calls.{CallTurn, ChangeAt, ChangeKept, EnqueueAt, EnqueueKept, Phase, Why, DequeueAt, GetAt, ScanAt, KeepAt}
use Rattle.inv_ends.specs.model.Calls.ChangeAt.{ExchangeRoot, LoadCount, LoadKey, LoadValue, LoadVersion}
use Rattle.inv_ends.specs.model.Calls.EnqueueAt.{ExchangeNext, ExchangeTail, LoadNext, LoadNumber, PassTail}
use Rattle.inv_ends.specs.model.Calls.Next.{Retiring}
use Rattle.inv_ends.specs.model.Calls.Phase.{Idle, Runs, Scans, Works}
use Rattle.inv_ends.specs.model.Calls.Task.{Changes}
use Rattle.inv_ends.specs.model.Calls.Work.{Changing, Enqueuing, Dequeuing, Getting, Keeping}
use Rattle.inv_ends.specs.model.Dequeue.{taken}
use Rattle.inv_ends.specs.model.Desks.{Desk}
use Rattle.inv_ends.specs.model.Locals.{told_by, told_end}
use Rattle.inv_ends.specs.model.Phases.{Base, MoveAt, ProtectAt}
use Rattle.inv_ends.specs.model.Phases.AllocateAt.{ClaimSlot, LoadBirth, StoreLife}
use Rattle.inv_ends.specs.model.Phases.BeginAt.{LoadLower, PublishSpan}
use Rattle.inv_ends.specs.model.Phases.MoveAt.{AnswerAsked, CheckEra, ExchangeClock, HandOver, HideEra, HideLate, LoadAsked, LoadEra, LoadRequest, LoadReserved, ShowEra}
use Rattle.inv_ends.specs.model.Phases.ProtectAt.{AnswerOwn, ByHazard, CheckClock, CheckOwnClock, CheckUpper, LoadAnswer, LoadClock, LoadLink, LoadOwnClock, LoadOwnLink, LoadWithin, PublishEra, PublishHelper, PublishRequest, RaiseUpper, TakeAnswer, WithdrawHelper, WithdrawRequest}
use Rattle.inv_ends.specs.model.Phases.HazardAt.{CheckLink, FirstLink, PublishLink}
use Rattle.inv_ends.specs.model.Phases.RetireAt.{LoadLife, LoadRetire, StoreRetired}
use Rattle.inv_ends.specs.model.Posts.{counted}
use Rattle.inv_ends.specs.model.WriteRow.{row_word}
use Rattle.inv_ends.specs.model.declared.post.Post.{Post}
use Rattle.inv_ends.specs.model.defs.declared.event.Event.{Event}
use Rattle.inv_ends.specs.model.defs.declared.event.Root.{Root}
use Rattle.inv_ends.specs.model.defs.declared.fold.Change.{Change}
use Rattle.inv_ends.specs.requests.Roles.{shows}
use Rattle.inv_ends.specs.rows.Rows.{View}
use Rattle.inv_all.proofs.Rounds.Counts.{book_grows, calm_grows, tally_of, touches}
use Rattle.inv_all.proofs.Rounds.Exchanges.{exchange_grows, join_grows, swing_grows, write_grows, pop_grows}
use Rattle.inv_all.proofs.Rounds.Grows.{Grows}
use Rattle.inv_ends.specs.rows.Queue.{Line, follows_in, line_move, moved_line, enqueue_line, head_of, scan_line}
use Rattle.inv_ends.specs.rows.Queue.LineMove.{Joins, Keeps}
use Rattle.inv_ends.specs.model.words.declared.config.Config.{Config}
use Rattle.std.specs.Prelude.{List, ◌++◌, length, None, if◌then◌else◌, ◌==◌}
use Rattle.inv_all.proofs.Contents.Contents.Rounds.{Adds, clearing_adds, clearing_next_adds}
use Rattle.inv_all.proofs.Contents.Contents.Shelves.{exchanged_book, linked_booked}
use Rattle.inv_all.proofs.Contents.Contents.Told.{booked_append}
use Rattle.inv_ends.specs.model.Calls.DequeueAt.{ExchangeHead, LoadTail, SwingTail, TakeNumber, TakeValue}
use Rattle.inv_ends.specs.model.Calls.GetAt.{FindCount, FindKey, FindValue, FindVersion}
use Rattle.inv_ends.specs.model.Calls.KeepAt.{HideSpan, LoadHeld, Looks, Loosens, MarkLeft, MarkTaken, Misses, StoreHeld, TakeList}
use Rattle.inv_ends.specs.model.Calls.ScanAt.{GiveBack, ReadGuard}
use Rattle.inv_ends.proofs.rows.Went.{LineIn, WalksIn}
use Rattle.inv_ends.specs.rows.Chain.{queue_of}
use Rattle.inv_ends.proofs.model.Facts.{same_both}

-- the machines that write no such word

protect_calm : (index : ℕ) (root : Root) (at : ProtectAt) (post : Post) → touches (machine.protect_move index root at post) ≡ false
protect_calm index root (LoadClock tries) post = refl
protect_calm index root (PublishEra era tries) post = refl
protect_calm index root (LoadLink era tries) post = refl
protect_calm index root (CheckClock era tries link) post = refl
protect_calm index root PublishRequest post = refl
protect_calm index root LoadOwnClock post = refl
protect_calm index root (PublishHelper first era last) post = refl
protect_calm index root (LoadOwnLink first era last) post = refl
protect_calm index root (CheckOwnClock first era last link) post = refl
protect_calm index root (AnswerOwn first era link) post = refl
protect_calm index root (LoadAnswer first) post = refl
protect_calm index root (TakeAnswer link era) post = refl
protect_calm index root (WithdrawRequest link era) post = refl
protect_calm index root (WithdrawHelper link era) post = refl
protect_calm index root LoadWithin post = refl
protect_calm index root (CheckUpper link) post = refl
protect_calm index root (RaiseUpper era) post = refl
protect_calm index root (ByHazard FirstLink) post = refl
protect_calm index root (ByHazard (PublishLink link)) post = refl
protect_calm index root (ByHazard (CheckLink link)) post = refl

move_calm : (at : MoveAt) (post : Post) → touches (machine.move_move at post) ≡ false
move_calm (LoadEra helps) post = refl
move_calm (LoadRequest era seat shows) post = refl
move_calm (ShowEra era seat tag index root) post = refl
move_calm (LoadAsked era seat tag index root) post = refl
move_calm (CheckEra era seat tag index root link) post = refl
move_calm (AnswerAsked era seat tag index root link) post = refl
move_calm (LoadReserved era seat tag index root link) post = refl
move_calm (HandOver era seat tag index root link old) post = refl
move_calm (HideEra era) post = refl
move_calm (HideLate seen) post = refl
move_calm (ExchangeClock era) post = refl

-- what a write needs
abbrev pub write_right : Phase → Type 0
write_right Idle = Unit {0}
write_right (Runs why (Write slot row place)) = (place == 0) ≡ true → row_word row place ≡ 0
write_right phase = Unit {0}

run_grows : (c : Config) (mem : Place → ℕ) (book : Book) (told : List Event) (l : Line) (why : Why) (base : Base) (post : Post) → write_right (Runs why base) → Grows (tally_of c mem book l) (tally_of c (written mem (machine.base_move base post)) (booked_all book told) l)
run_grows c mem book told l why (Begin LoadLower) post h = calm_grows c mem (machine.base_move (Begin LoadLower) post) book told l l refl (λ s. refl)
run_grows c mem book told l why (Begin (PublishSpan era)) post h = calm_grows c mem (machine.base_move (Begin (PublishSpan era)) post) book told l l refl (λ s. refl)
run_grows c mem book told l why (Protect aim index root n at) post h = calm_grows c mem (machine.base_move (Protect aim index root n at) post) book told l l (protect_calm index root at post) (λ s. refl)
run_grows c mem book told l why (Reload parent index slot era n) post h = calm_grows c mem (machine.base_move (Reload parent index slot era n) post) book told l l refl (λ s. refl)
run_grows c mem book told l why (Clear rows index) post h = calm_grows c mem (machine.base_move (Clear rows index) post) book told l l refl (λ s. refl)
run_grows c mem book told l why Finish post h = calm_grows c mem (machine.base_move Finish post) book told l l refl (λ s. refl)
run_grows c mem book told l why (Release index) post h = calm_grows c mem (machine.base_move (Release index) post) book told l l refl (λ s. refl)
run_grows c mem book told l why (Allocate LoadBirth) post h = calm_grows c mem (machine.base_move (Allocate LoadBirth) post) book told l l refl (λ s. refl)
run_grows c mem book told l why (Allocate (ClaimSlot birth walk)) post h = calm_grows c mem (machine.base_move (Allocate (ClaimSlot birth walk)) post) book told l l refl (λ s. refl)
run_grows c mem book told l why (Allocate (StoreLife birth slot)) post h = calm_grows c mem (machine.base_move (Allocate (StoreLife birth slot)) post) book told l l refl (λ s. refl)
run_grows c mem book told l why (Write slot row place) post h = write_grows c mem book told l slot place (row_word row place) h
run_grows c mem book told l why (GiveUp slot) post h = calm_grows c mem (machine.base_move (GiveUp slot) post) book told l l refl (λ s. refl)
run_grows c mem book told l why (Retire (LoadLife slot)) post h = calm_grows c mem (machine.base_move (Retire (LoadLife slot)) post) book told l l refl (λ s. refl)
run_grows c mem book told l why (Retire (LoadRetire slot birth)) post h = calm_grows c mem (machine.base_move (Retire (LoadRetire slot birth)) post) book told l l refl (λ s. refl)
run_grows c mem book told l why (Retire (StoreRetired slot birth retire)) post h = calm_grows c mem (machine.base_move (Retire (StoreRetired slot birth retire)) post) book told l l refl (λ s. refl)
run_grows c mem book told l why (Moves at) post h = calm_grows c mem (machine.base_move (Moves at) post) book told l l (move_calm at post) (λ s. refl)

-- the next row has the next number
pub next_number : (v : View) (l : Line) (mem : Place → ℕ) (phase : Phase) (t link : ℕ) → LineIn v l mem → WalksIn phase v l mem → follows_in phase t link ≡ true → mem Tail ≡ t + 1 → l.number (link - 1) ≡ l.number t + 1
next_number v l mem phase t link a b f e =
    let q = a.reached t e in
    let n = b.follows t link f in
    let s = b.some t link f in
    a.rises t (link - 1) q (n ∙ omega (arith, s))

-- what a change tells that exchanges its root
exchange_counts : (book : Book) (kept : ChangeKept) (slot : ℕ) (post : Post) (desk : Desk) (same : Bool) → same ≡ true → length (book.changes (alters.changed_bucket kept post)) + 1 ≤ length ((booked_all book (told_by (alters.exchanged kept slot post desk same))).changes (alters.changed_bucket kept post))
exchange_counts book kept slot post desk false e = absurd (cc)
exchange_counts book kept slot post desk true e =
    let b : ℕ = alters.changed_bucket kept post in
    let t : CallTurn = alters.exchanged kept slot post desk true in
    let told : List Event = alters.told_linked kept slot post in
    let adds : Adds told t = clearing_adds (Changes (record kept { taken = None })) (alters.answer_done (kept.version + 1) kept.link) post desk told in
    let all : told_by t ≡ told ++ (adds.more ++ told_end t.post t.outcome) = ap (λ (l : List Event). l ++ told_end t.post t.outcome) adds.adds ∙ append_assoc told adds.more (told_end t.post t.outcome) in
    let book2 : booked_all book (told_by t) ≡ booked_all (booked_all book told) (adds.more ++ told_end t.post t.outcome) = ap (λ (l : List Event). booked_all book l) all ∙ booked_append told (adds.more ++ told_end t.post t.outcome) book in
    let one : booked_all book told ≡ exchanged_book book b slot kept.change = linked_booked book kept slot post in
    let g = (book_grows (adds.more ++ told_end t.post t.outcome) (booked_all book told)).changes b in
    let n : length ((exchanged_book book b slot kept.change).changes b) ≡ length (book.changes b) + 1 = ap (λ (l : List Change). length l) (upd_same (book.changes) b (book.changes b ++ kept.change ∷ [])) ∙ length-append (book.changes b) (kept.change ∷ []) in
    let m : length ((booked_all book told).changes b) ≡ length (book.changes b) + 1 = ap (λ (x : Book). length (x.changes b)) one ∙ n in
    rw book2 (omega (arith, g, m))
  where
    upd_same : {A : Type 0} (f : ℕ → A) (i : ℕ) (x : A) → upd f i x i ≡ x
    upd_same f i x = let e : (i == i) ≡ true = grind (arith, nat_tests) in rw e refl

join_counts : (book : Book) (kept : EnqueueKept) (slot : ℕ) (post : Post) (desk : Desk) (same : Bool) → same ≡ true → length book.queued + 1 ≤ length (booked_all book (told_by (enqueues.appended kept slot post desk same))).queued
join_counts book kept slot post desk false e = absurd (cc)
join_counts book kept slot post desk true e = let n = length-append book.queued (kept.value ∷ []) in omega (arith, n)

take_counts : (book : Book) (head next number value : ℕ) (post : Post) (desk : Desk) (same : Bool) → same ≡ true → book.taken + 1 ≤ (booked_all book (told_by (dequeues.taken head next number value post desk same))).taken
take_counts book head next number value post desk false e = absurd (cc)
take_counts book head next number value post desk true e =
    let t : CallTurn = dequeues.taken head next number value post desk true in
    let told : List Event = events.Link roots.Head next ∷ events.Cut head ∷ events.Taken number value ∷ [] in
    let adds : Adds told t = clearing_next_adds (Retiring head (answers.Taken number value moves.Still)) post desk told in
    let all : told_by t ≡ told ++ (adds.more ++ told_end t.post t.outcome) = ap (λ (l : List Event). l ++ told_end t.post t.outcome) adds.adds ∙ append_assoc told adds.more (told_end t.post t.outcome) in
    let book2 : booked_all book (told_by t) ≡ booked_all (booked_all book told) (adds.more ++ told_end t.post t.outcome) = ap (λ (l : List Event). booked_all book l) all ∙ booked_append told (adds.more ++ told_end t.post t.outcome) book in
    let g = (book_grows (adds.more ++ told_end t.post t.outcome) (booked_all book told)).taken in
    rw book2 (omega (arith, g))

change_grows : (c : Config) (mem : Place → ℕ) (book : Book) (told : List Event) (l : Line) (kept : ChangeKept) (at : ChangeAt) (post : Post) → ((slot : ℕ) → at ≡ ExchangeRoot slot → (mem (Bucket (alters.changed_bucket kept post)) == kept.link) ≡ true → length (book.changes (alters.changed_bucket kept post)) + 1 ≤ length ((booked_all book told).changes (alters.changed_bucket kept post)))
    → Grows (tally_of c mem book l) (tally_of c (written mem (alters.change_move kept at post)) (booked_all book told) l)
change_grows c mem book told l kept (LoadVersion slot) post k = calm_grows c mem (alters.change_move kept (LoadVersion slot) post) book told l l refl (λ s. refl)
change_grows c mem book told l kept (LoadCount slot) post k = calm_grows c mem (alters.change_move kept (LoadCount slot) post) book told l l refl (λ s. refl)
change_grows c mem book told l kept (LoadKey slot count) post k = calm_grows c mem (alters.change_move kept (LoadKey slot count) post) book told l l refl (λ s. refl)
change_grows c mem book told l kept (LoadValue slot count key) post k = calm_grows c mem (alters.change_move kept (LoadValue slot count key) post) book told l l refl (λ s. refl)
change_grows c mem book told l kept (ExchangeRoot slot) post k = exchange_grows c mem book told l (alters.changed_bucket kept post) kept.link (slot + 1) (k slot refl)

-- a row that is linked is not the tail's
pub other_number : (l : Line) (t slot tail : ℕ) (x : Bool) → (tail == slot) ≡ false → (moved_line l (if x then Joins t slot else Keeps)).number tail ≡ l.number tail
other_number l t slot tail true e = rw e refl
other_number l t slot tail false e = refl

pub tail_apart : (v : View) (l : Line) (mem : Place → ℕ) (slot : ℕ) → LineIn v l mem → l.lined slot ≡ false → (mem Tail - 1 == slot) ≡ false
tail_apart v l mem slot a u = by_slot (mem Tail - 1 == slot) refl
  where
    by_slot : (x : Bool) → (mem Tail - 1 == slot) ≡ x → x ≡ false
    by_slot true e =
        let s = a.some in
        let q : queue_of v (mem Tail - 1) ≡ true = a.reached (mem Tail - 1) (omega (arith, s)) in
        let z : mem Tail - 1 ≡ slot = grind (arith, nat_tests, e) in
        let d : l.lined slot ≡ true = subst (λ (n : ℕ). l.lined n ≡ true) z (a.lined (mem Tail - 1) q) in
        absurd (cc)
    by_slot false e = refl

enqueue_grows : (c : Config) (mem : Place → ℕ) (book : Book) (told : List Event) (v : View) (l : Line) (kept : EnqueueKept) (at : EnqueueAt) → LineIn v l mem → WalksIn (Works (Enqueuing kept at)) v l mem → ((slot : ℕ) → at ≡ ExchangeNext slot → l.lined slot ≡ false)
    → ((slot : ℕ) → at ≡ ExchangeNext slot → (mem (Row kept.tail 0) == 0) ≡ true → length book.queued + 1 ≤ length (booked_all book told).queued)
    → Grows (tally_of c mem book l) (tally_of c (written mem (enqueues.enqueue_move kept at)) (booked_all book told) (moved_line l (enqueue_line kept at (found (enqueues.enqueue_move kept at) (mem (place_in (enqueues.enqueue_move kept at)))))))
enqueue_grows c mem book told v l kept LoadNumber a b u k = calm_grows c mem (enqueues.enqueue_move kept LoadNumber) book told l l refl (λ s. refl)
enqueue_grows c mem book told v l kept LoadNext a b u k = calm_grows c mem (enqueues.enqueue_move kept LoadNext) book told l l refl (λ s. refl)
enqueue_grows c mem book told v l kept (PassTail next) a b u k = swing_grows c mem book told l kept.tail next (next_number v l mem (Works (Enqueuing kept (PassTail next))) kept.tail next a b (same_both kept.tail next))
enqueue_grows c mem book told v l kept (ExchangeNext slot) a b u k =
    join_grows c mem book told l (moved_line l (if mem (Row kept.tail 0) == 0 then Joins kept.tail slot else Keeps)) kept.tail slot (other_number l kept.tail slot (mem Tail - 1) (mem (Row kept.tail 0) == 0) (tail_apart v l mem slot a (u slot refl))) (k slot refl)
enqueue_grows c mem book told v l kept (ExchangeTail slot) a b u k = swing_grows c mem book told l kept.tail (slot + 1) (next_number v l mem (Works (Enqueuing kept (ExchangeTail slot))) kept.tail (slot + 1) a b (same_both kept.tail (slot + 1)))

dequeue_grows : (c : Config) (mem : Place → ℕ) (book : Book) (told : List Event) (v : View) (l : Line) (at : DequeueAt) → LineIn v l mem → WalksIn (Works (Dequeuing at)) v l mem
    → ((head next number value : ℕ) → at ≡ ExchangeHead head next number value → (mem Head == head + 1) ≡ true → book.taken + 1 ≤ (booked_all book told).taken)
    → Grows (tally_of c mem book l) (tally_of c (written mem (dequeues.dequeue_move at)) (booked_all book told) l)
dequeue_grows c mem book told v l (LoadTail head) a b k = calm_grows c mem (dequeues.dequeue_move (LoadTail head)) book told l l refl (λ s. refl)
dequeue_grows c mem book told v l (SwingTail head next) a b k = swing_grows c mem book told l head (next + 1) (next_number v l mem (Works (Dequeuing (SwingTail head next))) head (next + 1) a b (same_both head (next + 1)))
dequeue_grows c mem book told v l (TakeNumber head next) a b k = calm_grows c mem (dequeues.dequeue_move (TakeNumber head next)) book told l l refl (λ s. refl)
dequeue_grows c mem book told v l (TakeValue head next number) a b k = calm_grows c mem (dequeues.dequeue_move (TakeValue head next number)) book told l l refl (λ s. refl)
dequeue_grows c mem book told v l (ExchangeHead head next number value) a b k = pop_grows c mem book told l head (next + 1) (k head next number value refl)

get_grows : (c : Config) (mem : Place → ℕ) (book : Book) (told : List Event) (l : Line) (at : GetAt) → Grows (tally_of c mem book l) (tally_of c (written mem (gets.get_move at)) (booked_all book told) l)
get_grows c mem book told l (FindVersion slot) = calm_grows c mem (gets.get_move (FindVersion slot)) book told l l refl (λ s. refl)
get_grows c mem book told l (FindCount slot version) = calm_grows c mem (gets.get_move (FindCount slot version)) book told l l refl (λ s. refl)
get_grows c mem book told l (FindKey slot version count pair) = calm_grows c mem (gets.get_move (FindKey slot version count pair)) book told l l refl (λ s. refl)
get_grows c mem book told l (FindValue slot version pair) = calm_grows c mem (gets.get_move (FindValue slot version pair)) book told l l refl (λ s. refl)

keep_grows : (c : Config) (mem : Place → ℕ) (book : Book) (told : List Event) (l : Line) (at : KeepAt) (post : Post) → Grows (tally_of c mem book l) (tally_of c (written mem (keeps.keep_move at post)) (booked_all book told) l)
keep_grows c mem book told l (Loosens let_go) post = calm_grows c mem (keeps.keep_move (Loosens let_go) post) book told l l refl (λ s. refl)
keep_grows c mem book told l (LoadHeld from index) post = calm_grows c mem (keeps.keep_move (LoadHeld from index) post) book told l l refl (λ s. refl)
keep_grows c mem book told l (StoreHeld from index era) post = calm_grows c mem (keeps.keep_move (StoreHeld from index era) post) book told l l refl (λ s. refl)
keep_grows c mem book told l (Looks index key at) post = get_grows c mem book told l at
keep_grows c mem book told l (Misses index) post = calm_grows c mem (keeps.keep_move (Misses index) post) book told l l refl (λ s. refl)
keep_grows c mem book told l HideSpan post = calm_grows c mem (keeps.keep_move HideSpan post) book told l l refl (λ s. refl)
keep_grows c mem book told l MarkLeft post = calm_grows c mem (keeps.keep_move MarkLeft post) book told l l refl (λ s. refl)
keep_grows c mem book told l (TakeList place) post = calm_grows c mem (keeps.keep_move (TakeList place) post) book told l l refl (λ s. refl)
keep_grows c mem book told l (MarkTaken place count) post = calm_grows c mem (keeps.keep_move (MarkTaken place count) post) book told l l refl (λ s. refl)

scan_calm : (at : ScanAt) (post : Post) → touches (scan.scan_move at post) ≡ false
scan_calm (ReadGuard number) post = refl
scan_calm (GiveBack place slot) post = refl

scan_number : (l : Line) (at : ScanAt) (s : ℕ) → (moved_line l (scan_line at)).number s ≡ l.number s
scan_number l (ReadGuard number) s = refl
scan_number l (GiveBack place slot) s = refl

-- what a phase's step needs
pub record Known (mem : Place → ℕ) (v : View) (l : Line) (phase : Phase) : Type 0 where
  pub line : LineIn v l mem
  pub walks : WalksIn phase v l mem
  pub writes : write_right phase
  pub joins : (kept : EnqueueKept) (slot : ℕ) → phase ≡ Works (Enqueuing kept (ExchangeNext slot)) → l.lined slot ≡ false

pub phase_counts : (c : Config) (mem : Place → ℕ) (book : Book) (v : View) (l : Line) (phase : Phase) (post : Post) (desk : Desk) → Known mem v l phase
    → Grows (tally_of c mem book l) (tally_of c (written mem (steps.phase_move phase post)) (booked_all book (told_by (steps.phase_turn phase (counted post) desk (found (steps.phase_move phase post) (mem (place_in (steps.phase_move phase post))))))) (moved_line l (line_move phase (found (steps.phase_move phase post) (mem (place_in (steps.phase_move phase post)))))))
phase_counts c mem book v l Idle post desk f = calm_grows c mem (Load Clock) book (told_by (steps.phase_turn Idle (counted post) desk (mem Clock))) l l refl (λ s. refl)
phase_counts c mem book v l (Runs why base) post desk f =
    run_grows c mem book (told_by (steps.phase_turn (Runs why base) (counted post) desk (found (machine.base_move base post) (mem (place_in (machine.base_move base post)))))) l why base post f.writes
phase_counts c mem book v l (Scans later at) post desk f =
    calm_grows c mem (scan.scan_move at post) book (told_by (steps.phase_turn (Scans later at) (counted post) desk (found (scan.scan_move at post) (mem (place_in (scan.scan_move at post)))))) l (moved_line l (scan_line at)) (scan_calm at post) (scan_number l at)
phase_counts c mem book v l (Works (Getting key at)) post desk f =
    get_grows c mem book (told_by (steps.phase_turn (Works (Getting key at)) (counted post) desk (found (gets.get_move at) (mem (place_in (gets.get_move at)))))) l at
phase_counts c mem book v l (Works (Changing kept at)) post desk f =
    change_grows c mem book (told_by (steps.phase_turn (Works (Changing kept at)) (counted post) desk (found (alters.change_move kept at post) (mem (place_in (alters.change_move kept at post)))))) l kept at post (tells at)
  where
    tells : (x : ChangeAt) (slot : ℕ) → x ≡ ExchangeRoot slot → (mem (Bucket (alters.changed_bucket kept post)) == kept.link) ≡ true
        → length (book.changes (alters.changed_bucket kept post)) + 1 ≤ length ((booked_all book (told_by (steps.phase_turn (Works (Changing kept x)) (counted post) desk (found (alters.change_move kept x post) (mem (place_in (alters.change_move kept x post))))))).changes (alters.changed_bucket kept post))
    tells (ExchangeRoot other) slot e h = exchange_counts book kept other (counted post) desk (mem (Bucket (alters.changed_bucket kept post)) == kept.link) h
    tells (LoadVersion other) slot e h = absurd (cc)
    tells (LoadCount other) slot e h = absurd (cc)
    tells (LoadKey other count) slot e h = absurd (cc)
    tells (LoadValue other count key) slot e h = absurd (cc)
phase_counts c mem book v l (Works (Enqueuing kept at)) post desk f =
    enqueue_grows c mem book (told_by (steps.phase_turn (Works (Enqueuing kept at)) (counted post) desk (found (enqueues.enqueue_move kept at) (mem (place_in (enqueues.enqueue_move kept at)))))) v l kept at f.line f.walks (λ slot e. f.joins kept slot (ap (λ (x : EnqueueAt). Works (Enqueuing kept x)) e)) (tells at)
  where
    tells : (x : EnqueueAt) (slot : ℕ) → x ≡ ExchangeNext slot → (mem (Row kept.tail 0) == 0) ≡ true
        → length book.queued + 1 ≤ length (booked_all book (told_by (steps.phase_turn (Works (Enqueuing kept x)) (counted post) desk (found (enqueues.enqueue_move kept x) (mem (place_in (enqueues.enqueue_move kept x))))))).queued
    tells (ExchangeNext other) slot e h = join_counts book kept other (counted post) desk (mem (Row kept.tail 0) == 0) h
    tells LoadNumber slot e h = absurd (cc)
    tells LoadNext slot e h = absurd (cc)
    tells (PassTail next) slot e h = absurd (cc)
    tells (ExchangeTail other) slot e h = absurd (cc)
phase_counts c mem book v l (Works (Dequeuing at)) post desk f =
    dequeue_grows c mem book (told_by (steps.phase_turn (Works (Dequeuing at)) (counted post) desk (found (dequeues.dequeue_move at) (mem (place_in (dequeues.dequeue_move at)))))) v l at f.line f.walks (tells at)
  where
    tells : (x : DequeueAt) (head next number value : ℕ) → x ≡ ExchangeHead head next number value → (mem Head == head + 1) ≡ true
        → book.taken + 1 ≤ (booked_all book (told_by (steps.phase_turn (Works (Dequeuing x)) (counted post) desk (found (dequeues.dequeue_move x) (mem (place_in (dequeues.dequeue_move x))))))).taken
    tells (ExchangeHead a b n m) head next number value e h =
        let z : a ≡ head = ap (λ (y : DequeueAt). head_of y) e in
        take_counts book a b n m (counted post) desk (mem Head == a + 1) (rw z h)
    tells (LoadTail a) head next number value e h = absurd (cc)
    tells (SwingTail a b) head next number value e h = absurd (cc)
    tells (TakeNumber a b) head next number value e h = absurd (cc)
    tells (TakeValue a b n) head next number value e h = absurd (cc)
phase_counts c mem book v l (Works (Keeping at)) post desk f =
    keep_grows c mem book (told_by (steps.phase_turn (Works (Keeping at)) (counted post) desk (found (keeps.keep_move at post) (mem (place_in (keeps.keep_move at post)))))) l at post
