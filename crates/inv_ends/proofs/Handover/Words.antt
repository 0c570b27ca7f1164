-- Which guards' words a step leaves as they are, under Wait-Free Eras.
use Rattle.std.proofs.Common.{ℕ, ◌≡◌, ◌+◌, ◌∙◌, Bool, true, false, refl, ap, arith, ◌⊎◌, inl, inr, ◌&&◌}
use Rattle.std.proofs.lemmas.Bool.Decides.{nat_tests}
use Rattle.std.specs.Prelude.{◌==◌, if◌then◌else◌}
use Rattle.inv_rows.specs.words.Place.{same, Place as places}
use Rattle.inv_rows.specs.words.Packed.{halves}
use Rattle.inv_rows.specs.defs.declared.event.Guard.{Guard}
use Rattle.inv_rows.specs.defs.declared.event.Guard.TheVariants.{Helper, Index}
use Rattle.inv_rows.specs.defs.declared.event.Root.{Root}
use Rattle.inv_rows.specs.model.declared.post.Post.{Post}
use Rattle.inv_rows.specs.model.Guards.{guard_place, eras_in}
use Rattle.inv_rows.specs.model.Memory.{Move as Act, written}
use Rattle.inv_rows.specs.model.Phases.{ProtectAt, MoveAt, Base}
use Rattle.inv_rows.specs.model.Phases.BeginAt.{LoadLower, PublishSpan}
use Rattle.inv_rows.specs.model.Phases.ProtectAt.{PublishEra, PublishHelper, TakeAnswer, WithdrawHelper, ByHazard}
use Rattle.inv_rows.specs.model.Phases.HazardAt.{FirstLink, PublishLink, CheckLink}
use Rattle.inv_rows.specs.model.Phases.AllocateAt.{LoadBirth}
use Rattle.inv_rows.specs.model.Phases.RetireAt.{LoadLife}
use Rattle.inv_rows.specs.model.Phases.MoveAt.{LoadEra, LoadRequest, ShowEra, LoadAsked, CheckEra, AnswerAsked, LoadReserved, HandOver, HideEra, HideLate, ExchangeClock}
use Rattle.inv_rows.specs.model.Phases.Base.{Begin, Protect, Reload, Clear, Finish, Release, Allocate, Write, GiveUp, Retire, Move}
use Rattle.inv_rows.specs.model.Machine.{protect_move, move_move, base_move}
use Rattle.inv_rows.specs.model.Scan.{scan_move}
use Rattle.inv_rows.specs.model.Get.{get_move}
use Rattle.inv_rows.specs.model.Change.{change_move}
use Rattle.inv_rows.specs.model.Enqueue.{enqueue_move}
use Rattle.inv_rows.specs.model.Dequeue.{dequeue_move}
use Rattle.inv_rows.specs.model.Keep.{keep_move}
use Rattle.inv_rows.specs.model.Steps.{work_move}
use Rattle.inv_rows.specs.model.Calls.{ChangeKept, EnqueueKept, ScanAt, ReadGuard, GiveBack, GetAt, FindVersion, ChangeAt, LoadVersion, EnqueueAt, LoadNumber, DequeueAt, LoadTail, KeepAt, Loosens, LoadHeld, StoreHeld, Looks, Misses, HideSpan, MarkLeft, TakeList, MarkTaken, Work, Getting, Changing, Enqueuing, Dequeuing, Keeping, Why, Phase, Idle, Runs, Scans, Works}
use Rattle.inv_rows.specs.model.World.{World, step}
use Rattle.inv_rows.specs.Covering.Requests.Roles.{shows}
use Rattle.inv_rows.specs.Covering.Covers.{eras_shown}
use Rattle.inv_rows.proofs.Covering.Words.{keeps, eras_kept, allocate_index, retire_index, work_stores, work_index, scan_index}
use Rattle.inv_rows.proofs.Covering.Held.{move_is, keeps_at}

-- the own step stores the index word of this index, or the own helper word
abbrev pub stores_protect : ℕ → ProtectAt → ℕ → Bool
stores_protect index (PublishEra era tries) j = j == index
stores_protect index (TakeAnswer link era) j = j == index
stores_protect index (ByHazard (PublishLink link)) j = j == index
stores_protect index at j = false

abbrev pub stores_index : Base → ℕ → Bool
stores_index (Protect aim index root steps at) j = stores_protect index at j
stores_index (Clear rows index) j = j == index
stores_index base j = false

abbrev pub shows_protect : ProtectAt → Bool
shows_protect (PublishHelper first era last) = true
shows_protect (WithdrawHelper link era) = true
shows_protect at = false

abbrev pub shows_move : MoveAt → Bool
shows_move (ShowEra era seat tag index root) = true
shows_move (HideEra era) = true
shows_move (HideLate seen) = true
shows_move at = false

abbrev pub stores_helper : Base → Bool
stores_helper (Protect aim index root steps at) = shows_protect at
stores_helper (Move at) = shows_move at
stores_helper base = false

-- a step of another's, by the phase
abbrev pub own_index : ℕ → Phase → ℕ → ℕ → Bool
own_index seat (Runs why base) k j = k == seat && stores_index base j
own_index seat (Works work) k j = k == seat && work_stores work j
own_index seat phase k j = false

abbrev pub own_helper : ℕ → Phase → ℕ → Bool
own_helper seat (Runs why base) k = k == seat && stores_helper base
own_helper seat phase k = false

-- the exchange of a hand-over
abbrev pub is_hand : Base → Bool
is_hand (Move (HandOver era seat tag index root link old)) = true
is_hand base = false

-- index words
protect_keeps : (k j : ℕ) (index : ℕ) (root : Root) (at : ProtectAt) (post : Post) → (k == post.seat && stores_protect index at j) ≡ false → keeps (protect_move index root at post) (places.Index k j) ≡ true
protect_keeps k j index root (PublishEra era tries) post h = rw h refl
protect_keeps k j index root (TakeAnswer link era) post h = rw h refl
protect_keeps k j index root (ByHazard FirstLink) post h = refl
protect_keeps k j index root (ByHazard (PublishLink link)) post h = rw h refl
protect_keeps k j index root (ByHazard (CheckLink link)) post h = refl
protect_keeps k j index root at post h = refl

base_keeps : (k j : ℕ) (base : Base) (post : Post) → (k == post.seat && stores_index base j) ≡ false → is_hand base ≡ false → keeps (base_move base post) (places.Index k j) ≡ true
base_keeps k j (Begin LoadLower) post h n = refl
base_keeps k j (Begin (PublishSpan era)) post h n = refl
base_keeps k j (Protect aim index root steps at) post h n = protect_keeps k j index root at post h
base_keeps k j (Reload parent index slot era steps) post h n = refl
base_keeps k j (Clear rows index) post h n = rw h refl
base_keeps k j Finish post h n = refl
base_keeps k j (Release index) post h n = refl
base_keeps k j (Allocate at) post h n = allocate_index k j at
base_keeps k j (Write slot row place) post h n = refl
base_keeps k j (GiveUp slot) post h n = refl
base_keeps k j (Retire at) post h n = retire_index k j at
base_keeps k j (Move (LoadEra helps)) post h n = refl
base_keeps k j (Move (LoadRequest e m shows)) post h n = refl
base_keeps k j (Move (ShowEra e m t l root)) post h n = refl
base_keeps k j (Move (LoadAsked e m t l root)) post h n = refl
base_keeps k j (Move (CheckEra e m t l root link)) post h n = refl
base_keeps k j (Move (AnswerAsked e m t l root link)) post h n = refl
base_keeps k j (Move (LoadReserved e m t l root link)) post h n = refl
base_keeps k j (Move (HandOver e m t l root link old)) post h n = absurd (cc)
base_keeps k j (Move (HideEra e)) post h n = refl
base_keeps k j (Move (HideLate seen)) post h n = refl
base_keeps k j (Move (ExchangeClock e)) post h n = refl

-- a seat has handed its answer over to the index word of a seat
pub record Handed (w : World) (i k j : ℕ) : Type 0 where
  pub why : Why
  pub era : ℕ
  pub tag : ℕ
  pub root : Root
  pub link : ℕ
  pub old : ℕ
  pub is : (w.seat i).phase ≡ Runs why (Move (HandOver era k tag j root link old))
  pub same : (w.mem (places.Index k j) == halves old tag) ≡ true

same_shown : (w : World) (i : ℕ) (guard : Guard) → (step w i).mem (guard_place guard) ≡ w.mem (guard_place guard) → eras_shown (step w i) guard ≡ eras_shown w guard
same_shown w i guard h = ap (eras_in guard) h

handed_word : (w : World) (i k j : ℕ) (why : Why) (era m tag l : ℕ) (root : Root) (link old : ℕ) (own same : Bool) → (w.seat i).phase ≡ Runs why (Move (HandOver era m tag l root link old)) → (k == m && j == l) ≡ own → (w.mem (places.Index m l) == halves old tag) ≡ same
    → (eras_shown (step w i) (Index k j) ≡ eras_shown w (Index k j)) ⊎ Handed w i k j
handed_word w i k j why era m tag l root link old false same e o s =
    inl (eras_kept w i (Index k j) (keeps_at w i (Runs why (Move (HandOver era m tag l root link old))) (places.Index k j) e (rw o refl)))
handed_word w i k j why era m tag l root link old true true e o s =
    let p : k ≡ m = grind (arith, nat_tests) in
    let q : j ≡ l = grind (arith, nat_tests) in
    inr (record { why = why; era = era; tag = tag; root = root; link = link; old = old; is = cc; same = rw (p, q) s })
handed_word w i k j why era m tag l root link old true false e o s =
    let p : k ≡ m = grind (arith, nat_tests) in
    let q : j ≡ l = grind (arith, nat_tests) in
    inl (same_shown w i (Index k j) (ap (λ (x : Act). written w.mem x (places.Index k j)) (move_is w i (Runs why (Move (HandOver era m tag l root link old))) e) ∙ stays p q))
  where
    stays : k ≡ m → j ≡ l → (if k == m && j == l then (if w.mem (places.Index m l) == halves old tag then halves era (tag + 1) else w.mem (places.Index m l)) else w.mem (places.Index k j)) ≡ w.mem (places.Index k j)
    stays p q = rw (o, s) (cc)

-- an index word stays unless its own seat stores it, or an answer is handed over to it
pub index_stays : (w : World) (i k j : ℕ) (phase : Phase) → (w.seat i).post.seat ≡ i → (w.seat i).phase ≡ phase → own_index i phase k j ≡ false → (eras_shown (step w i) (Index k j) ≡ eras_shown w (Index k j)) ⊎ Handed w i k j
index_stays w i k j Idle n e h = inl (eras_kept w i (Index k j) (keeps_at w i Idle (places.Index k j) e refl))
index_stays w i k j (Scans later at) n e h = inl (eras_kept w i (Index k j) (keeps_at w i (Scans later at) (places.Index k j) e (scan_index k j at (w.seat i).post)))
index_stays w i k j (Works work) n e h = inl (eras_kept w i (Index k j) (keeps_at w i (Works work) (places.Index k j) e (work_index k j work (w.seat i).post (rw n h))))
index_stays w i k j (Runs why (Move (HandOver era m tag l root link old))) n e h = handed_word w i k j why era m tag l root link old (k == m && j == l) (w.mem (places.Index m l) == halves old tag) e refl refl
index_stays w i k j (Runs why base) n e h = inl (eras_kept w i (Index k j) (keeps_at w i (Runs why base) (places.Index k j) e (base_keeps k j base (w.seat i).post (rw n h) refl)))

-- helper words
protect_shows : (k : ℕ) (index : ℕ) (root : Root) (at : ProtectAt) (post : Post) → (k == post.seat && shows_protect at) ≡ false → keeps (protect_move index root at post) (places.Helper k) ≡ true
protect_shows k index root (PublishHelper first era last) post h = let o : (k == post.seat) ≡ false = grind (arith, nat_tests) in rw o refl
protect_shows k index root (WithdrawHelper link era) post h = let o : (k == post.seat) ≡ false = grind (arith, nat_tests) in rw o refl
protect_shows k index root (ByHazard FirstLink) post h = refl
protect_shows k index root (ByHazard (PublishLink link)) post h = refl
protect_shows k index root (ByHazard (CheckLink link)) post h = refl
protect_shows k index root at post h = refl

move_shows : (k : ℕ) (at : MoveAt) (post : Post) → (k == post.seat && shows_move at) ≡ false → keeps (move_move at post) (places.Helper k) ≡ true
move_shows k (ShowEra e m t l root) post h = let o : (k == post.seat) ≡ false = grind (arith, nat_tests) in rw o refl
move_shows k (HideEra e) post h = let o : (k == post.seat) ≡ false = grind (arith, nat_tests) in rw o refl
move_shows k (HideLate seen) post h = let o : (k == post.seat) ≡ false = grind (arith, nat_tests) in rw o refl
move_shows k at post h = refl

base_shows : (k : ℕ) (base : Base) (post : Post) → (k == post.seat && stores_helper base) ≡ false → keeps (base_move base post) (places.Helper k) ≡ true
base_shows k (Begin LoadLower) post h = refl
base_shows k (Begin (PublishSpan era)) post h = refl
base_shows k (Protect aim index root steps at) post h = protect_shows k index root at post h
base_shows k (Reload parent index slot era steps) post h = refl
base_shows k (Clear rows index) post h = refl
base_shows k Finish post h = refl
base_shows k (Release index) post h = refl
base_shows k (Allocate LoadBirth) post h = refl
base_shows k (Allocate at) post h = refl
base_shows k (Write slot row place) post h = refl
base_shows k (GiveUp slot) post h = refl
base_shows k (Retire (LoadLife slot)) post h = refl
base_shows k (Retire at) post h = refl
base_shows k (Move at) post h = move_shows k at post h

change_shows : (k : ℕ) (kept : ChangeKept) (at : ChangeAt) (post : Post) → keeps (change_move kept at post) (places.Helper k) ≡ true
change_shows k kept (LoadVersion slot) post = refl
change_shows k kept at post = refl

enqueue_shows : (k : ℕ) (kept : EnqueueKept) (at : EnqueueAt) → keeps (enqueue_move kept at) (places.Helper k) ≡ true
enqueue_shows k kept LoadNumber = refl
enqueue_shows k kept at = refl

dequeue_shows : (k : ℕ) (at : DequeueAt) → keeps (dequeue_move at) (places.Helper k) ≡ true
dequeue_shows k (LoadTail head) = refl
dequeue_shows k at = refl

get_shows : (k : ℕ) (at : GetAt) → keeps (get_move at) (places.Helper k) ≡ true
get_shows k (FindVersion slot) = refl
get_shows k at = refl

keep_shows : (k : ℕ) (at : KeepAt) (post : Post) → keeps (keep_move at post) (places.Helper k) ≡ true
keep_shows k (Loosens let_go) post = refl
keep_shows k (LoadHeld from index) post = refl
keep_shows k (StoreHeld from index era) post = refl
keep_shows k (Looks index key at) post = get_shows k at
keep_shows k (Misses index) post = refl
keep_shows k HideSpan post = refl
keep_shows k MarkLeft post = refl
keep_shows k (TakeList place) post = refl
keep_shows k (MarkTaken place count) post = refl

work_shows : (k : ℕ) (work : Work) (post : Post) → keeps (work_move work post) (places.Helper k) ≡ true
work_shows k (Getting key at) post = get_shows k at
work_shows k (Changing kept at) post = change_shows k kept at post
work_shows k (Enqueuing kept at) post = enqueue_shows k kept at
work_shows k (Dequeuing at) post = dequeue_shows k at
work_shows k (Keeping at) post = keep_shows k at post

scan_shows : (k : ℕ) (at : ScanAt) (post : Post) → keeps (scan_move at post) (places.Helper k) ≡ true
scan_shows k (ReadGuard number) post = refl
scan_shows k (GiveBack place slot) post = refl

-- a helper word stays unless its own seat stores it
pub helper_stays : (w : World) (i k : ℕ) (phase : Phase) → (w.seat i).post.seat ≡ i → (w.seat i).phase ≡ phase → own_helper i phase k ≡ false → eras_shown (step w i) (Helper k) ≡ eras_shown w (Helper k)
helper_stays w i k Idle n e h = eras_kept w i (Helper k) (keeps_at w i Idle (places.Helper k) e refl)
helper_stays w i k (Scans later at) n e h = eras_kept w i (Helper k) (keeps_at w i (Scans later at) (places.Helper k) e (scan_shows k at (w.seat i).post))
helper_stays w i k (Works work) n e h = eras_kept w i (Helper k) (keeps_at w i (Works work) (places.Helper k) e (work_shows k work (w.seat i).post))
helper_stays w i k (Runs why base) n e h = eras_kept w i (Helper k) (keeps_at w i (Runs why base) (places.Helper k) e (base_shows k base (w.seat i).post (rw n h)))
