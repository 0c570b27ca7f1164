-- A step tells of a seat's list what it makes of it, and a list that is taken over goes to another seat whole.
use Rattle.std.proofs.Common.{ℕ, ◌≡◌, Bool, true, false, List, [], ◌∷◌, ◌++◌, length, refl, sym, ap, ◌∙◌, subst, arith}
use Rattle.inv_all.specs.model.words.Schemes.{publishes_rows}
use Rattle.inv_all.specs.model.Rounds.{scheme_of}
use Rattle.std.proofs.lemmas.Bool.Decides.{nat_tests}
use Rattle.std.specs.Prelude.{◌==◌, ◌||◌, not, nat_lt, if◌then◌else◌}
use Rattle.laws.specs.words.Place.Place.{PlaceOf}
use Rattle.laws.specs.defs.declared.call.Call.{Call}
use Rattle.laws.specs.defs.declared.event.Event.{Event}
use Rattle.laws.specs.defs.declared.event.Event.TheVariants as events
use Rattle.laws.specs.defs.declared.lifetime.Lifetime.{Lifetime}
use Rattle.inv_all.specs.model.declared.post.Post.{Post}
use Rattle.inv_all.specs.model.Calls.{CallOutcome, CallTurn, GoesOn, Answers, KeepAt, Loosens, LoadHeld, StoreHeld, Looks, Misses, HideSpan, MarkLeft, TakeList, MarkTaken, Phase, Idle, Runs, Scans, Works, Getting, Changing, Enqueuing, Dequeuing, Keeping}
use Rattle.inv_all.specs.model.Desks.{Desk, noting}
use Rattle.inv_all.specs.model.Keep.{taking}
use Rattle.inv_all.specs.model.Locals.{Local, after, may_begin, settled_by, rounds_told, told_by, turn}
use Rattle.inv_all.specs.model.Posts.{counted}
use Rattle.inv_all.specs.model.Steps.{phase_turn}
use Rattle.inv_all.specs.model.World.{World, finds, gift_at, is_busy, is_here, list_in, may_start, offered, step, told_in}
use Rattle.inv_all.proofs.model.Facts.{both, first_of, number_is, rest_of, same_number}
use Rattle.inv_all.specs.rows.Agree.{Agree}
use Rattle.inv_all.specs.rows.Rows.{View, RowMove}
use Rattle.inv_all.proofs.rows.Kept.{busy_plays, list_here, list_left}
use Rattle.inv_all.proofs.shapes.Frame.{finds_at, seat_stays, seat_steps}
use Rattle.laws.specs.records.Record.{Past, tells_of}
use Rattle.laws.specs.records.Record.Past.{Then}
use Rattle.inv_all.proofs.history.AllOf.{all_of}
use Rattle.laws.specs.defs.Events.{is_of_rows}
use Rattle.inv_all.specs.ends.Told.{birth_in, move_of}
use Rattle.inv_all.proofs.ends.Told.Rows.{rows_told}
use Rattle.law_reuse.specs.Answers.{PlacesSay}
use Rattle.laws.specs.Lists.{hands_none, is_adopted, is_handed, list_by, list_of}
use Rattle.law_reuse.proofs.Leaving.Told.{is_kept, phase_keeps_lists, told_kept}
use Rattle.law_reuse.proofs.Leaving.Words.{step_placed}
use Rattle.laws.proofs.Along.{along, along_kind, list_quiet, list_stays, list_tells}
use Rattle.law_reuse.specs.Rows.{Shows}
use Rattle.law_reuse.proofs.Once.Desks.{takes_list}
use Rattle.law_reuse.proofs.Once.Moves.{list_moved, moved_list}
use Rattle.law_reuse.proofs.Once.Steps.{phase_list}

-- most steps take no list over
kept_one : (event : Event) → is_kept event ≡ true → not (is_handed event) ≡ true
kept_one (events.Adopted place count) h = absurd (cc)
kept_one event h = refl

kept_hands : (told : List Event) → all_of is_kept told ≡ true → hands_none told ≡ true
kept_hands [] h = refl
kept_hands (event ∷ told) h =
    both (not (is_handed event)) (hands_none told) (kept_one event (first_of (is_kept event) (all_of is_kept told) h)) (kept_hands told (rest_of (is_kept event) (all_of is_kept told) h))

calm_hands : (phase : Phase) (post : Post) (desk : Desk) (found : ℕ) → phase_keeps_lists phase ≡ true → hands_none (told_by (phase_turn phase post desk found)) ≡ true
calm_hands phase post desk found q = kept_hands (told_by (phase_turn phase post desk found)) (told_kept phase post desk found q)

taking_hands : (place : ℕ) (post : Post) (desk : Desk) (left : Bool) (found : ℕ) → left ≡ false → hands_none (told_by (taking place post desk left found)) ≡ true
taking_hands place post desk true found n = absurd (cc)
taking_hands place post desk false found n = refl

keep_hands : (at : KeepAt) (post : Post) (desk : Desk) (found : ℕ) → takes_list (Works (Keeping at)) found ≡ false → hands_none (told_by (phase_turn (Works (Keeping at)) post desk found)) ≡ true
keep_hands (TakeList place) post desk found n = taking_hands place post desk (found == 1) found n
keep_hands MarkLeft post desk found n = refl
keep_hands (Loosens let_go) post desk found n = calm_hands (Works (Keeping (Loosens let_go))) post desk found refl
keep_hands (LoadHeld from index) post desk found n = calm_hands (Works (Keeping (LoadHeld from index))) post desk found refl
keep_hands (StoreHeld from index era) post desk found n = calm_hands (Works (Keeping (StoreHeld from index era))) post desk found refl
keep_hands (Looks index key at) post desk found n = calm_hands (Works (Keeping (Looks index key at))) post desk found refl
keep_hands (Misses index) post desk found n = calm_hands (Works (Keeping (Misses index))) post desk found refl
keep_hands HideSpan post desk found n = calm_hands (Works (Keeping HideSpan)) post desk found refl
keep_hands (MarkTaken place count) post desk found n = calm_hands (Works (Keeping (MarkTaken place count))) post desk found refl

none_hands : (phase : Phase) (post : Post) (desk : Desk) (found : ℕ) → takes_list phase found ≡ false → hands_none (told_by (phase_turn phase post desk found)) ≡ true
none_hands Idle post desk found n = refl
none_hands (Runs why base) post desk found n = calm_hands (Runs why base) post desk found refl
none_hands (Scans later at) post desk found n = calm_hands (Scans later at) post desk found refl
none_hands (Works (Getting key at)) post desk found n = calm_hands (Works (Getting key at)) post desk found refl
none_hands (Works (Changing kept at)) post desk found n = calm_hands (Works (Changing kept at)) post desk found refl
none_hands (Works (Enqueuing kept at)) post desk found n = calm_hands (Works (Enqueuing kept at)) post desk found refl
none_hands (Works (Dequeuing at)) post desk found n = calm_hands (Works (Dequeuing at)) post desk found refl
none_hands (Works (Keeping at)) post desk found n = keep_hands at post desk found n

-- and so leave whose lists are taken over
first_unhanded : (event : Event) (told : List Event) → hands_none (event ∷ told) ≡ true → is_handed event ≡ false
first_unhanded event told h = grind (arith, nat_tests)

rest_unhanded : (event : Event) (told : List Event) → hands_none (event ∷ told) ≡ true → hands_none told ≡ true
rest_unhanded event told h = grind (arith, nat_tests)

one_unhanded : (k i : ℕ) (event : Event) (p : Past) → is_handed event ≡ false → is_adopted k (Then p i event) ≡ is_adopted k p
one_unhanded k i (events.Adopted place count) p h = absurd (cc)
one_unhanded k i event p h = refl

adopted_same : (k i : ℕ) (told : List Event) (p : Past) → hands_none told ≡ true → is_adopted k (tells_of p i told) ≡ is_adopted k p
adopted_same k i [] p h = refl
adopted_same k i (event ∷ told) p h = adopted_same k i told (Then p i event) (rest_unhanded event told h) ∙ one_unhanded k i event p (first_unhanded event told h)

word_same : (w : World) (i k : ℕ) (v : View) (p : Past) → is_busy w i ≡ true → Agree w v → PlacesSay w.mem p → hands_none (told_in w i) ≡ true → nat_lt 1 ((step w i).mem (PlaceOf k)) ≡ nat_lt 1 (w.mem (PlaceOf k))
word_same w i k v p b a g h = let q = step_placed w i v p b a g in sym (q.adopted k) ∙ adopted_same k i (told_in w i) p h ∙ g.adopted k

-- the list of the seat that steps, and another's
pub settled_list : (l : Local) (post : Post) (desk : Desk) (rounds : ℕ) (outcome : CallOutcome) → (settled_by l post desk rounds outcome).desk ≡ desk
settled_list l post desk rounds (GoesOn phase) = refl
settled_list l post desk rounds (Answers answer) = refl

pub after_list : (l : Local) (found : ℕ) → (after l found).desk.list ≡ (turn l found).desk.list
after_list l found = let t : CallTurn = turn l found in ap (λ (d : Desk). d.list) (settled_list l t.post (noting t.desk (told_by t)) (rounds_told (publishes_rows (scheme_of t.post)) l.rounds (told_by t)) t.outcome)

stepped_list : (w : World) (i : ℕ) → ((step w i).seat i).desk.list ≡ (turn (offered w i) (finds w i)).desk.list
stepped_list w i = ap (λ (x : Local). x.desk.list) (seat_steps w i) ∙ after_list (offered w i) (finds w i)

own_shown : (left : Bool) (list : List Lifetime) → left ≡ false → (if left then [] else list) ≡ list
own_shown true list h = absurd (cc)
own_shown false list h = refl

pub busy_list : (w : World) (i : ℕ) (v : View) → is_busy w i ≡ true → Agree w v → list_in w i ≡ (w.seat i).desk.list
busy_list w i v b a = list_here (w.mem (PlaceOf i)) (w.seat i).desk.list ((a.present i).here b)

after_word : (w : World) (i : ℕ) (v : View) (p : Past) → is_busy w i ≡ true → Agree w v → Shows w v p → takes_list (w.seat i).phase (finds w i) ≡ false → nat_lt 1 ((step w i).mem (PlaceOf i)) ≡ false
after_word w i v p b a h n =
    let hands : hands_none (told_in w i) ≡ true = none_hands (w.seat i).phase (counted (w.seat i).post) (offered w i).desk (finds w i) n in
    word_same w i i v p b a h.places hands ∙ ap (nat_lt 1) ((a.present i).here b)

own_after : (w : World) (i : ℕ) (v : View) (p : Past) → is_busy w i ≡ true → Agree w v → Shows w v p → takes_list (w.seat i).phase (finds w i) ≡ false → list_of i (tells_of p i (told_in w i)) ≡ list_in (step w i) i
own_after w i v p b a h n =
    let l : Local = offered w i in
    let m : RowMove = move_of w i in
    let q = busy_plays w i v b a in
    let hands : hands_none (told_in w i) ≡ true = none_hands l.phase (counted l.post) l.desk (finds w i) n in
    let told : along list_by (told_in w i) (list_of i p) ≡ moved_list m (list_of i p) =
    along_kind list_by is_of_rows list_quiet (told_in w i) (list_of i p) ∙ ap (λ (es : List Event). along list_by es (list_of i p)) (rows_told w i) ∙ list_moved (birth_in l.phase) m (list_of i p) in
    let left : (turn l (finds w i)).desk.list ≡ moved_list m l.desk.list = phase_list l.phase l.post (counted l.post) l.desk (finds w i) n q.right q.once in
    let word = after_word w i v p b a h n in
    list_tells i (told_in w i) p hands ∙ told ∙ ap (moved_list m) (h.lists i ∙ busy_list w i v b a) ∙ sym left ∙ sym (stepped_list w i)
    ∙ sym (own_shown (nat_lt 1 ((step w i).mem (PlaceOf i))) ((step w i).seat i).desk.list word)

seat_list : (w : World) (i k : ℕ) → (k == i) ≡ false → (w.seat k).desk.list ≡ ((step w i).seat k).desk.list
seat_list w i k e = sym (ap (λ (x : Local). x.desk.list) (seat_stays w i k e))

other_after : (w : World) (i k : ℕ) (v : View) (p : Past) → (k == i) ≡ false → is_busy w i ≡ true → Agree w v → Shows w v p → takes_list (w.seat i).phase (finds w i) ≡ false → list_of k (tells_of p i (told_in w i)) ≡ list_in (step w i) k
other_after w i k v p e b a h n =
    let hands : hands_none (told_in w i) ≡ true = none_hands (w.seat i).phase (counted (w.seat i).post) (offered w i).desk (finds w i) n in
    list_stays k i (told_in w i) p e hands ∙ h.lists k
    ∙ ap (λ (x : Bool). if x then [] else (w.seat k).desk.list) (sym (word_same w i k v p b a h.places hands))
    ∙ ap (λ (list : List Lifetime). if nat_lt 1 ((step w i).mem (PlaceOf k)) then [] else list) (seat_list w i k e)

-- a step that takes a list over
pub record Taker (phase : Phase) (found : ℕ) : Type 0 where
  pub place : ℕ
  pub is : phase ≡ Works (Keeping (TakeList place))
  pub one : (found == 1) ≡ true

keep_taker : (at : KeepAt) (found : ℕ) → takes_list (Works (Keeping at)) found ≡ true → Taker (Works (Keeping at)) found
keep_taker (TakeList place) found h = record { place = place; is = refl; one = h }
keep_taker at found h = absurd (cc)

taker : (phase : Phase) (found : ℕ) → takes_list phase found ≡ true → Taker phase found
taker (Works (Keeping at)) found h = keep_taker at found h
taker phase found h = absurd (cc)

taking_told : (place : ℕ) (post : Post) (desk : Desk) (left : Bool) (found : ℕ) → left ≡ true → told_by (taking place post desk left found) ≡ events.Adopted place (length desk.gift) ∷ []
taking_told place post desk true found h = refl
taking_told place post desk false found h = absurd (cc)

pub told_taken : (w : World) (i place : ℕ) → (w.seat i).phase ≡ Works (Keeping (TakeList place)) → (finds w i == 1) ≡ true → told_in w i ≡ events.Adopted place (length (offered w i).desk.gift) ∷ []
told_taken w i place e h =
    ap (λ (f : Phase). told_by (phase_turn f (counted (w.seat i).post) (offered w i).desk (finds w i))) e ∙ taking_told place (counted (w.seat i).post) (offered w i).desk (finds w i == 1) (finds w i) h

taking_list : (place : ℕ) (post : Post) (desk : Desk) (left : Bool) (found : ℕ) → left ≡ true → (taking place post desk left found).desk.list ≡ desk.list ++ desk.gift
taking_list place post desk true found h = refl
taking_list place post desk false found h = absurd (cc)

list_taken : (w : World) (i place : ℕ) → (w.seat i).phase ≡ Works (Keeping (TakeList place)) → (finds w i == 1) ≡ true → (turn (offered w i) (finds w i)).desk.list ≡ (w.seat i).desk.list ++ (offered w i).desk.gift
list_taken w i place e h =
    ap (λ (f : Phase). (phase_turn f (counted (w.seat i).post) (offered w i).desk (finds w i)).desk.list) e ∙ taking_list place (counted (w.seat i).post) (offered w i).desk (finds w i == 1) (finds w i) h

pub word_left : (w : World) (i place : ℕ) → (w.seat i).phase ≡ Works (Keeping (TakeList place)) → (finds w i == 1) ≡ true → w.mem (PlaceOf place) ≡ 1
word_left w i place e h = sym (finds_at w i (Works (Keeping (TakeList place))) e) ∙ number_is (finds w i) 1 h

-- the list that is taken over
pub gift_is : (w : World) (i place : ℕ) → (w.seat i).phase ≡ Works (Keeping (TakeList place)) → (finds w i == 1) ≡ true → list_in w place ≡ (offered w i).desk.gift
gift_is w i place e h = list_left (w.mem (PlaceOf place)) (w.seat place).desk.list (word_left w i place e h) ∙ sym (ap (gift_at w.seat) e)

taken_word : (w : World) (i place k : ℕ) (v : View) (p : Past) → is_busy w i ≡ true → Agree w v → PlacesSay w.mem p → (w.seat i).phase ≡ Works (Keeping (TakeList place)) → (finds w i == 1) ≡ true
    → nat_lt 1 ((step w i).mem (PlaceOf k)) ≡ ((k == place) || nat_lt 1 (w.mem (PlaceOf k)))
taken_word w i place k v p b a g e h =
    let q = step_placed w i v p b a g in
    sym (q.adopted k) ∙ ap (λ (es : List Event). is_adopted k (tells_of p i es)) (told_taken w i place e h) ∙ ap (λ (x : Bool). (k == place) || x) (g.adopted k)

apart_place : (mem : ℕ → ℕ) (i place : ℕ) (same : Bool) → (i == place) ≡ same → mem i ≡ 0 → mem place ≡ 1 → same ≡ false
apart_place mem i place true e z o = absurd (let x : 0 ≡ 1 = sym z ∙ ap mem (number_is i place e) ∙ o in omega (arith, x))
apart_place mem i place false e z o = refl

joined_lists : (a b c d : List Lifetime) → a ≡ b → c ≡ d → a ++ c ≡ b ++ d
joined_lists a b c d e f = ap (λ (x : List Lifetime). x ++ c) e ∙ ap (λ (x : List Lifetime). b ++ x) f

own_gains : (i place count : ℕ) (p : Past) → list_of i (Then p i (events.Adopted place count)) ≡ list_of i p ++ list_of place p
own_gains i place count p = rw (same_number i) refl

own_taken_word : (w : World) (i : ℕ) (v : View) (p : Past) → is_busy w i ≡ true → Agree w v → Shows w v p → Taker (w.seat i).phase (finds w i) → nat_lt 1 ((step w i).mem (PlaceOf i)) ≡ false
own_taken_word w i v p b a h t =
    let here : w.mem (PlaceOf i) ≡ 0 = (a.present i).here b in
    let away : (i == t.place) ≡ false = apart_place (λ k. w.mem (PlaceOf k)) i t.place (i == t.place) refl here (word_left w i t.place t.is t.one) in
    taken_word w i t.place i v p b a h.places t.is t.one ∙ ap (λ (x : Bool). x || nat_lt 1 (w.mem (PlaceOf i))) away ∙ ap (nat_lt 1) here

own_taken : (w : World) (i : ℕ) (v : View) (p : Past) → is_busy w i ≡ true → Agree w v → Shows w v p → Taker (w.seat i).phase (finds w i) → list_of i (tells_of p i (told_in w i)) ≡ list_in (step w i) i
own_taken w i v p b a h t =
    let place : ℕ = t.place in
    let gift : List Lifetime = (offered w i).desk.gift in
    let word = own_taken_word w i v p b a h t in
    ap (λ (es : List Event). list_of i (tells_of p i es)) (told_taken w i place t.is t.one) ∙ own_gains i place (length gift) p
    ∙ joined_lists (list_of i p) (w.seat i).desk.list (list_of place p) gift (h.lists i ∙ busy_list w i v b a) (h.lists place ∙ gift_is w i place t.is t.one)
    ∙ sym (list_taken w i place t.is t.one) ∙ sym (stepped_list w i)
    ∙ sym (own_shown (nat_lt 1 ((step w i).mem (PlaceOf i))) ((step w i).seat i).desk.list word)

other_hands : (k i place count : ℕ) (p : Past) → (k == i) ≡ false → list_of k (Then p i (events.Adopted place count)) ≡ (if k == place then [] else list_of k p)
other_hands k i place count p e = rw e refl

handed_shown : (same left : Bool) (told list : List Lifetime) → told ≡ (if left then [] else list) → (if same then [] else told) ≡ (if same || left then [] else list)
handed_shown true left told list h = refl
handed_shown false left told list h = h

other_taken : (w : World) (i k : ℕ) (v : View) (p : Past) → (k == i) ≡ false → is_busy w i ≡ true → Agree w v → Shows w v p → Taker (w.seat i).phase (finds w i) → list_of k (tells_of p i (told_in w i)) ≡ list_in (step w i) k
other_taken w i k v p e b a h t =
    let place : ℕ = t.place in
    ap (λ (es : List Event). list_of k (tells_of p i es)) (told_taken w i place t.is t.one) ∙ other_hands k i place (length (offered w i).desk.gift) p e
    ∙ handed_shown (k == place) (nat_lt 1 (w.mem (PlaceOf k))) (list_of k p) (w.seat k).desk.list (h.lists k)
    ∙ ap (λ (x : Bool). if x then [] else (w.seat k).desk.list) (sym (taken_word w i place k v p b a h.places t.is t.one))
    ∙ ap (λ (list : List Lifetime). if nat_lt 1 ((step w i).mem (PlaceOf k)) then [] else list) (seat_list w i k e)

own_word : (w : World) (i : ℕ) (v : View) (p : Past) (takes : Bool) → takes_list (w.seat i).phase (finds w i) ≡ takes → is_busy w i ≡ true → Agree w v → Shows w v p → nat_lt 1 ((step w i).mem (PlaceOf i)) ≡ false
own_word w i v p true n b a h = own_taken_word w i v p b a h (taker (w.seat i).phase (finds w i) n)
own_word w i v p false n b a h = after_word w i v p b a h n

-- the list of a seat that has made a step is its own
pub stepped_own : (w : World) (i : ℕ) (v : View) (p : Past) → is_busy w i ≡ true → Agree w v → Shows w v p → list_in (step w i) i ≡ ((step w i).seat i).desk.list
stepped_own w i v p b a h = own_shown (nat_lt 1 ((step w i).mem (PlaceOf i))) ((step w i).seat i).desk.list (own_word w i v p (takes_list (w.seat i).phase (finds w i)) refl b a h)

-- and so is that of one that may begin a call
pub begins_own : (w : World) (i : ℕ) (call : Call) → may_start w i call ≡ true → list_in w i ≡ (w.seat i).desk.list
begins_own w i call m = list_here (w.mem (PlaceOf i)) (w.seat i).desk.list (number_is (w.mem (PlaceOf i)) 0 (first_of (is_here w i) (may_begin w.layout.config call) m))

own_step : (w : World) (i : ℕ) (v : View) (p : Past) (takes : Bool) → takes_list (w.seat i).phase (finds w i) ≡ takes → is_busy w i ≡ true → Agree w v → Shows w v p → list_of i (tells_of p i (told_in w i)) ≡ list_in (step w i) i
own_step w i v p true n b a h = own_taken w i v p b a h (taker (w.seat i).phase (finds w i) n)
own_step w i v p false n b a h = own_after w i v p b a h n

other_step : (w : World) (i k : ℕ) (v : View) (p : Past) (takes : Bool) → takes_list (w.seat i).phase (finds w i) ≡ takes → (k == i) ≡ false → is_busy w i ≡ true → Agree w v → Shows w v p → list_of k (tells_of p i (told_in w i)) ≡ list_in (step w i) k
other_step w i k v p true n e b a h = other_taken w i k v p e b a h (taker (w.seat i).phase (finds w i) n)
other_step w i k v p false n e b a h = other_after w i k v p e b a h n

pub step_list : (w : World) (i k : ℕ) (v : View) (p : Past) (same : Bool) → (k == i) ≡ same → is_busy w i ≡ true → Agree w v → Shows w v p → list_of k (tells_of p i (told_in w i)) ≡ list_in (step w i) k
step_list w i k v p true e b a h =
    let q : i ≡ k = grind (arith, nat_tests) in
    subst (λ (j : ℕ). list_of j (tells_of p i (told_in w i)) ≡ list_in (step w i) j) q (own_step w i v p (takes_list (w.seat i).phase (finds w i)) refl b a h)
step_list w i k v p false e b a h = other_step w i k v p (takes_list (w.seat i).phase (finds w i)) refl e b a h
