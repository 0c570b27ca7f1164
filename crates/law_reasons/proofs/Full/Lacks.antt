-- That a call lacks nothing but a row, where it decides that one is to be filled; and that this lasts until the call ends.
use Rattle.std.proofs.Common.{ℕ, zero, suc, ◌≡◌, ◌≤◌, ◌<◌, ◌%◌, Bool, true, false, List, [], length, Option, Some, None, refl, sym, ap, ◌∙◌, subst, arith}
use Rattle.std.proofs.lemmas.Bool.Decides.{nat_tests}
use Rattle.std.specs.Prelude.{◌==◌, ◌&&◌, ◌||◌, nat_lt, not, is_some, if◌then◌else◌}
use Rattle.law_scans.specs.inv.model.words.Place.Place.{Row}
use Rattle.law_scans.specs.inv.model.words.declared.config.Config.{Config}
use Rattle.law_scans.specs.inv.model.words.declared.layout.Layout.{Layout}
use Rattle.law_scans.specs.inv.model.defs.Pairs.{Pair, pairs_after, value_in}
use Rattle.law_scans.specs.inv.model.defs.declared.call.Answer.TheVariants as answers
use Rattle.law_scans.specs.inv.model.defs.declared.call.Call.{Call}
use Rattle.law_scans.specs.inv.model.defs.declared.call.Call.TheVariants as calls
use Rattle.law_scans.specs.inv.model.defs.declared.fold.Change.{Change}
use Rattle.law_scans.specs.inv.model.defs.declared.fold.Change.TheVariants as changes
use Rattle.law_scans.specs.inv.model.declared.ends.ProtectEnd.TheVariants as protect_ends
use Rattle.law_scans.proofs.inv.model.Frames.{after_same}
use Rattle.law_scans.specs.inv.model.Change as alters
use Rattle.law_scans.specs.inv.model.Machine as machine
use Rattle.law_scans.specs.inv.model.Posts.{counted}
use Rattle.law_scans.specs.inv.model.Rounds.{key_of}
use Rattle.law_scans.specs.inv.model.Phases.{Base, Outcome, Goes, Ends}
use Rattle.law_scans.specs.inv.model.Phases.Ending.{Done, Protected, Followed, Allocated, Retired, Clocked}
use Rattle.law_scans.specs.inv.model.Calls.{Task, Gets, Changes, Holds, Enqueues, Dequeues, Opens, EnqueueKept, LoadCount, LoadValue, LoadNext, Changing, Enqueuing, Phase, Idle, Runs, Scans, Works}
use Rattle.law_scans.specs.inv.model.World.{World, finds}
use Rattle.law_scans.proofs.inv.model.Facts.{same_number, both, first_of, rest_of, below_unless, true_of_not, or_left_true, same_both, lt_test_2, or_more}
use Rattle.law_scans.proofs.reuse.AnswersTold.Owed.{ChangeServes, Serves, call_for, may_want}
use Rattle.law_scans.proofs.inv.covers.Held.{finds_at}
use Rattle.law_scans.specs.laws.StructuresAt.{was_current, bucket_of, count_of, queued_of, is_there, pairs_at}
use Rattle.law_scans.specs.inv.history.Record.{Past, begins, held_since}
use Rattle.law_scans.specs.inv.Contents.Reads.{numbers_in}
use Rattle.law_scans.specs.inv.requests.Views.{View as Asked}
use Rattle.law_scans.specs.inv.rows.Queue.{Line, stands_on}
use Rattle.law_scans.specs.inv.rows.Rows.{View}
use Rattle.law_reasons.proofs.Reasons.Later.{Later, more_count, current_lasts}
use Rattle.law_reasons.proofs.Reasons.Reading.{Shown, count_read, value_read, null_read}
use Rattle.law_reasons.proofs.Reasons.Refusing.{ReadAt, current_of}
use Rattle.law_scans.specs.laws.AnswerLaw.{any_up_to, put_at, remove_at, has_number, lacks_row}
use Rattle.law_reasons.proofs.Full.Lands.{PhaseSure}
use Rattle.law_reasons.proofs.Full.Since.{held_now}
use Rattle.law_reasons.proofs.Full.Ties.{Now, OutcomeSure}

any_by : (test : ℕ → Bool) (n m : ℕ) (last : Bool) → (n == suc m) ≡ last → n ≤ suc m → test n ≡ true → (n ≤ m → any_up_to test m ≡ true) → any_up_to test (suc m) ≡ true
any_by test n m true e l h f = let q : n ≡ suc m = grind (arith, nat_tests) in or_left_true (test (suc m)) (any_up_to test m) (subst (λ (k : ℕ). test k ≡ true) q h)
any_by test n m false e l h f = or_more (test (suc m)) (any_up_to test m) (f (grind (arith, nat_tests)))

any_at : (test : ℕ → Bool) (n m : ℕ) → n ≤ m → test n ≡ true → any_up_to test m ≡ true
any_at test n zero l h = let q : n ≡ zero = omega arith in subst (λ (k : ℕ). test k ≡ true) q h
any_at test n (suc m) l h = any_by test n m (n == suc m) refl l h (λ k. any_at test n m k h)

either_way : (a b : Bool) → (a || b) ≡ true → (A : Type 0) → (a ≡ true → A) → (b ≡ true → A) → A
either_way true b h A f g = f refl
either_way false b h A f g = g h

any_map : (one two : ℕ → Bool) (n m : ℕ) → n ≤ m → ((k : ℕ) → one k ≡ true → two k ≡ true) → any_up_to one n ≡ true → any_up_to two m ≡ true
any_map one two zero m l f h = any_at two zero m l (f zero h)
any_map one two (suc n) m l f h = either_way (one (suc n)) (any_up_to one n) h (any_up_to two m ≡ true) (λ e. any_at two (suc n) m l (f (suc n) e)) (λ k. any_map one two n m (omega arith) f k)

pub lacks_last : (c : Config) (i : ℕ) (p q : Past) (call : Option Call) → Later i p q → (held_since (begins i) (has_number c) p ≡ true → held_since (begins i) (has_number c) q ≡ true) → lacks_row c i p call ≡ true → lacks_row c i q call ≡ true
lacks_last c i p q (Some (calls.Put key value)) l m h =
    let b : ℕ = bucket_of c.buckets key in
    any_map (put_at c i b key p) (put_at c i b key q) (count_of b p) (count_of b q) (more_count i b p q l)
    (λ version k. current_lasts i b version p q (λ cs. nat_lt version c.last_version && (is_some (value_in (pairs_after cs) key) || nat_lt (length (pairs_after cs)) c.pairs)) l k) h
lacks_last c i p q (Some (calls.Remove key)) l m h =
    let b : ℕ = bucket_of c.buckets key in
    any_map (remove_at c i b key p) (remove_at c i b key q) (count_of b p) (count_of b q) (more_count i b p q l)
    (λ version k. current_lasts i b version p q (λ cs. nat_lt version c.last_version && is_some (value_in (pairs_after cs) key)) l k) h
lacks_last c i p q (Some (calls.Enqueue value)) l m h = m h
lacks_last c i p q (Some (calls.PutIf key value wanted)) l m h =
    let b : ℕ = bucket_of c.buckets key in
    any_map (λ (version : ℕ). version == wanted && put_at c i b key p version) (λ (version : ℕ). version == wanted && put_at c i b key q version) (count_of b p) (count_of b q) (more_count i b p q l)
    (λ version k. both (version == wanted) (put_at c i b key q version) (first_of (version == wanted) (put_at c i b key p version) k)
    (current_lasts i b version p q (λ cs. nat_lt version c.last_version && (is_some (value_in (pairs_after cs) key) || nat_lt (length (pairs_after cs)) c.pairs)) l (rest_of (version == wanted) (put_at c i b key p version) k))) h
lacks_last c i p q call l m h = absurd (cc)

put_fits : (c : Config) (i b key version : ℕ) (pairs : List Pair) (p : Past) (spent full : Bool) → ReadAt c i b version pairs p → (version == c.last_version) ≡ spent → (not (alters.has_key pairs key) && length pairs == c.pairs) ≡ full
    → (if spent then Some (answers.Spent version) else if full then Some (answers.BucketFull version) else None) ≡ None → put_at c i b key p version ≡ true
put_fits c i b key version pairs p true full r e f h = absurd (cc)
put_fits c i b key version pairs p false true r e f h = absurd (cc)
put_fits c i b key version pairs p false false r e f h =
    let g : (not (is_there b version key p) && length (pairs_at b version p) == c.pairs) ≡ false = subst (λ (ps : List Pair). (not (is_some (value_in ps key)) && length ps == c.pairs) ≡ false) r.read f in
    (both (was_current i b version p) (nat_lt version c.last_version && (is_there b version key p || nat_lt (length (pairs_at b version p)) c.pairs)) (current_of c i b version pairs p r)
    (both (nat_lt version c.last_version) (is_there b version key p || nat_lt (length (pairs_at b version p)) c.pairs) (lt_test_2 version (count_of b p) c.last_version r.within r.most e)
    (below_unless (is_there b version key p) (length (pairs_at b version p)) c.pairs r.room g)))

put_lacks : (c : Config) (i b key version : ℕ) (pairs : List Pair) (p : Past) (spent full : Bool) → ReadAt c i b version pairs p → (version == c.last_version) ≡ spent → (not (alters.has_key pairs key) && length pairs == c.pairs) ≡ full
    → (if spent then Some (answers.Spent version) else if full then Some (answers.BucketFull version) else None) ≡ None → any_up_to (put_at c i b key p) (count_of b p) ≡ true
put_lacks c i b key version pairs p spent full r e f h = any_at (put_at c i b key p) version (count_of b p) r.within (put_fits c i b key version pairs p spent full r e f h)

-- a put that names a version
put_if_lacks : (c : Config) (i b key value version wanted : ℕ) (pairs : List Pair) (p : Past) (same : Bool) → ReadAt c i b version pairs p → (version == wanted) ≡ same
    → (if same then alters.refusal c version pairs (changes.Put key value) else Some (answers.Stale version)) ≡ None → any_up_to (λ (n : ℕ). n == wanted && put_at c i b key p n) (count_of b p) ≡ true
put_if_lacks c i b key value version wanted pairs p true r w h =
    any_at (λ (n : ℕ). n == wanted && put_at c i b key p n) version (count_of b p) r.within
    (both (version == wanted) (put_at c i b key p version) w (put_fits c i b key version pairs p (version == c.last_version) (not (alters.has_key pairs key) && length pairs == c.pairs) r refl refl h))
put_if_lacks c i b key value version wanted pairs p false r w h = absurd (cc)

remove_lacks : (c : Config) (i b key version : ℕ) (pairs : List Pair) (p : Past) (none spent : Bool) → ReadAt c i b version pairs p → not (alters.has_key pairs key) ≡ none → (version == c.last_version) ≡ spent
    → (if none then Some (answers.Absent version) else if spent then Some (answers.Spent version) else None) ≡ None → any_up_to (remove_at c i b key p) (count_of b p) ≡ true
remove_lacks c i b key version pairs p true spent r f e h = absurd (cc)
remove_lacks c i b key version pairs p false true r f e h = absurd (cc)
remove_lacks c i b key version pairs p false false r f e h =
    let there : is_there b version key p ≡ true = sym (ap (λ (ps : List Pair). is_some (value_in ps key)) r.read) ∙ true_of_not (alters.has_key pairs key) f in
    any_at (remove_at c i b key p) version (count_of b p) r.within
    (both (was_current i b version p) (nat_lt version c.last_version && is_there b version key p) (current_of c i b version pairs p r)
    (both (nat_lt version c.last_version) (is_there b version key p) (lt_test_2 version (count_of b p) c.last_version r.within r.most e) there))

change_lacks : (c : Config) (i version : ℕ) (pairs : List Pair) (change : Change) (wanted : Option ℕ) (p : Past) → ReadAt c i (key_of change % c.buckets) version pairs p → may_want change wanted ≡ true
    → alters.stale_or wanted version (alters.refusal c version pairs change) ≡ None → lacks_row c i p (Some (call_for change wanted)) ≡ true
change_lacks c i version pairs (changes.Put key value) None p r m h = put_lacks c i (key % c.buckets) key version pairs p (version == c.last_version) (not (alters.has_key pairs key) && length pairs == c.pairs) r refl refl h
change_lacks c i version pairs (changes.Put key value) (Some wanted) p r m h = put_if_lacks c i (key % c.buckets) key value version wanted pairs p (version == wanted) r refl h
change_lacks c i version pairs (changes.Removed key) None p r m h = remove_lacks c i (key % c.buckets) key version pairs p (not (alters.has_key pairs key)) (version == c.last_version) r refl refl h
change_lacks c i version pairs (changes.Removed key) (Some wanted) p r m h = absurd (cc)

number_left : (w : World) (i : ℕ) (v : View) (l : Line) (z : Asked) (p : Past) (kept : EnqueueKept) → Shown w v l z p → (w.seat i).phase ≡ Works (Enqueuing kept LoadNext) → (finds w i == 0) ≡ true → (kept.number == w.layout.config.last_version) ≡ false → has_number w.layout.config p ≡ true
number_left w i v l z p kept h e none apart =
    let number : l.number kept.tail ≡ kept.number = (h.known.items.seats i).numbers kept.tail kept.number (subst (λ (x : Phase). numbers_in x kept.tail kept.number ≡ true) (sym e) (same_both kept.tail kept.number)) in
    let lined : l.lined kept.tail ≡ true = (h.known.whole.both.queue.walks i).stood kept.tail (subst (λ (x : Phase). stands_on x kept.tail ≡ true) (sym e) (same_number kept.tail)) in
    let found : finds w i ≡ w.mem (Row kept.tail 0) = finds_at w i (Works (Enqueuing kept LoadNext)) e in
    let zero : finds w i ≡ 0 = grind (arith, nat_tests) in
    let null : w.mem (Row kept.tail 0) ≡ 0 = sym found ∙ zero in
    let last : l.number kept.tail ≡ length w.book.queued = h.known.items.rows.last kept.tail (h.known.whole.both.queue.line.last kept.tail lined null) null in
    let many : kept.number ≡ length (queued_of p) = sym number ∙ last ∙ ap length (sym h.queued) in
    let most : length (queued_of p) ≤ w.layout.config.last_version = subst (λ (all : List ℕ). length all ≤ w.layout.config.last_version) (sym h.queued) h.known.items.rows.room in
    is_below kept.number (length (queued_of p)) w.layout.config.last_version many most apart
  where
    is_below : (number count last : ℕ) → number ≡ count → count ≤ last → (number == last) ≡ false → nat_lt count last ≡ true
    is_below number count last e m a = grind (arith, nat_tests)

-- so a step that decides is sure that the call lacks nothing but a row
refused_by : (one two : Layout) (wanted : Option ℕ) (version : ℕ) (pairs : List Pair) (change : Change) → one ≡ two
    → alters.stale_or wanted version (alters.refusal one.config version pairs change) ≡ None → alters.stale_or wanted version (alters.refusal two.config version pairs change) ≡ None
refused_by one two wanted version pairs change e h = subst (λ (table : Layout). alters.stale_or wanted version (alters.refusal table.config version pairs change) ≡ None) e h

abbrev Lacks : World → ℕ → Past → Call → Now → Type 0
Lacks w i p call y = lacks_row w.layout.config i p (Some call) ≡ true → y.fits ≡ true

change_sure : (w : World) (i : ℕ) (p : Past) (call : Call) (y : Now) (version : ℕ) (pairs : List Pair) (change : Change) (wanted : Option ℕ) → Lacks w i p call y → ChangeServes call change wanted
    → ReadAt w.layout.config i (key_of change % w.layout.config.buckets) version pairs p → alters.stale_or wanted version (alters.refusal w.layout.config version pairs change) ≡ None → y.fits ≡ true
change_sure w i p call y version pairs change wanted up s r h = up (subst (λ (x : Call). lacks_row w.layout.config i p (Some x) ≡ true) (sym s.is) (change_lacks w.layout.config i version pairs change wanted p r s.may h))

opens_sure : (w : World) (i : ℕ) (v : View) (l : Line) (z : Asked) (p : Past) (call : Call) (y : Now) (task : Task) (base : Base) (outcome : Outcome) → Shown w v l z p → Lacks w i p call y → (w.seat i).phase ≡ Runs (Opens task) base → Serves call (Runs (Opens task) base)
    → (machine.after base (counted (w.seat i).post) (finds w i)).outcome ≡ outcome → OutcomeSure task outcome (machine.after base (counted (w.seat i).post) (finds w i)).post y
opens_sure w i v l z p call y (Changes kept) base (Ends (Protected protect_ends.Null)) h up e s o = λ r.
    let table : (machine.after base (counted (w.seat i).post) (finds w i)).post.layout ≡ w.layout = (after_same base (counted (w.seat i).post) (finds w i)).layout ∙ (h.known.seats.fits i).post.layout in
    change_sure w i p call y 0 [] kept.change kept.wanted up s (null_read w i v l z p kept base h e o) (refused_by (machine.after base (counted (w.seat i).post) (finds w i)).post.layout w.layout kept.wanted 0 [] kept.change table r)
opens_sure w i v l z p call y (Changes kept) base (Ends (Protected (protect_ends.Held slot era))) h up e s o = tt
opens_sure w i v l z p call y (Changes kept) base (Ends Done) h up e s o = tt
opens_sure w i v l z p call y (Changes kept) base (Ends (Followed end)) h up e s o = tt
opens_sure w i v l z p call y (Changes kept) base (Ends (Allocated end)) h up e s o = tt
opens_sure w i v l z p call y (Changes kept) base (Ends (Retired life)) h up e s o = tt
opens_sure w i v l z p call y (Changes kept) base (Ends (Clocked clock)) h up e s o = tt
opens_sure w i v l z p call y (Changes kept) base (Goes next) h up e s o = tt
opens_sure w i v l z p call y (Gets key) base (Ends ending) h up e s o = tt
opens_sure w i v l z p call y (Gets key) base (Goes next) h up e s o = tt
opens_sure w i v l z p call y (Holds key) base (Ends ending) h up e s o = tt
opens_sure w i v l z p call y (Holds key) base (Goes next) h up e s o = tt
opens_sure w i v l z p call y (Enqueues kept) base (Ends ending) h up e s o = tt
opens_sure w i v l z p call y (Enqueues kept) base (Goes next) h up e s o = tt
opens_sure w i v l z p call y Dequeues base (Ends ending) h up e s o = tt
opens_sure w i v l z p call y Dequeues base (Goes next) h up e s o = tt

pub phase_sure : (w : World) (i : ℕ) (v : View) (l : Line) (z : Asked) (p : Past) (call : Call) (y : Now) (phase : Phase) → i < w.layout.config.seats → Shown w v l z p → Lacks w i p call y → (w.seat i).phase ≡ phase → Serves call phase → PhaseSure phase (counted (w.seat i).post) (finds w i) y
phase_sure w i v l z p call y Idle a h up e s = tt
phase_sure w i v l z p call y (Scans later at) a h up e s = tt
phase_sure w i v l z p call y (Runs (Opens task) base) a h up e s = opens_sure w i v l z p call y task base (machine.after base (counted (w.seat i).post) (finds w i)).outcome h up e s refl
phase_sure w i v l z p call y (Works (Changing kept (LoadCount slot))) a h up e s = λ none r.
    change_sure w i p call y kept.version kept.pairs kept.change kept.wanted up s (count_read w i v l z p kept slot a h e none) (refused_by (w.seat i).post.layout w.layout kept.wanted kept.version kept.pairs kept.change (h.known.seats.fits i).post.layout r)
phase_sure w i v l z p call y (Works (Changing kept (LoadValue slot count key))) a h up e s = λ none r.
    let pairs : List Pair = (alters.with_read kept key (finds w i)).pairs in
    change_sure w i p call y kept.version pairs kept.change kept.wanted up s (value_read w i v l z p kept slot count key a h e none) (refused_by (w.seat i).post.layout w.layout kept.wanted kept.version pairs kept.change (h.known.seats.fits i).post.layout r)
phase_sure w i v l z p call y (Works (Enqueuing kept LoadNext)) a h up e s = λ none apart.
    let far : (kept.number == w.layout.config.last_version) ≡ false = subst (λ (table : Layout). (kept.number == table.config.last_version) ≡ false) (h.known.seats.fits i).post.layout apart in
    up (subst (λ (x : Call). lacks_row w.layout.config i p (Some x) ≡ true) (sym s) (held_now (begins i) (has_number w.layout.config) p (number_left w i v l z p kept h e none far)))
phase_sure w i v l z p call y (Works work) a h up e s = tt
phase_sure w i v l z p call y (Runs why base) a h up e s = tt
