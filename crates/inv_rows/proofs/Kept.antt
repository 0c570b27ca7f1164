-- What is known of the rows holds at the start, and every step and every beginning of a call keeps it.
use Rattle.std.proofs.Common.{ℕ, ◌*◌, ◌≤◌, ◌+◌, ◌<◌, ◌/◌, ◌%◌, ◌≡◌, Bool, true, false, arith, refl, ap, ◌∙◌, sym, subst, List, []}
use Rattle.std.proofs.lemmas.Bool.Decides.{nat_tests}
use Rattle.std.specs.Prelude.{◌==◌, not, nat_lt, if◌then◌else◌, Option, Some, None}
use Rattle.std.specs.Int.{bit_at}
use Rattle.wfe_core.specs.words.Place.{Place, claim_words}
use Rattle.wfe_core.specs.words.Place.Place.{Bucket, Claim, Life, PlaceOf}
use Rattle.wfe_core.specs.words.Packed.{life_word}
use Rattle.wfe_core.specs.words.declared.layout.Layout.{Layout}
use Rattle.wfe_core.proofs.words.Places.{claim_start_bit}
use Rattle.wfe_core.specs.defs.declared.call.Call.{Call}
use Rattle.wfe_core.specs.defs.declared.call.Call.TheVariants as names
use Rattle.wfe_core.specs.defs.declared.lifetime.Lifetime.{Lifetime}
use Rattle.wfe_core.specs.declared.post.Post.{Post}
use Rattle.wfe_core.specs.Desks.{Desk, noting}
use Rattle.wfe_core.specs.Posts.{counted, stands}
use Rattle.wfe_core.specs.Steps.{copying, first_phase, holding, looking_at, phase_move, phase_turn}
use Rattle.wfe_core.specs.Calls.{Phase, Idle, Runs, Scans, Works, Work, Keeping, TakeList, MarkTaken, CallTurn, CallOutcome, GoesOn, Answers, Gets, Changes, Holds, Enqueues, Dequeues, Released, Rehold, Dropped}
use Rattle.wfe_core.specs.Locals.{Local, busy_in, turn, settled, settled_by, told_by, rounds_told, begun, begun_post}
use Rattle.wfe_core.specs.World.{World, start, step, stepped, finds, is_busy, offered, gift_at, list_in}
use Rattle.wfe_core.proofs.CallFrames.{stays_in_place}
use Rattle.wfe_core.proofs.Facts.{no_truth, rest_of, number_is, same_test}
use Rattle.inv_rows.specs.Rows.{View, Good, RowMove, made, has_life, retire_in}
use Rattle.inv_rows.specs.Rows.Hand.{Empty}
use Rattle.inv_rows.specs.Rows.RowMove.{Stays, Claims, Bears, Drops, Links, Replaces, Appends, Pops, Reads, Seals, Lists, Returns, Adopts}
use Rattle.inv_rows.specs.Hands.{hand_in, hand_left, in_list, each_once, is_right, is_marking, goes_right, right_left, row_move}
use Rattle.inv_rows.specs.Agree.{Plays, Present, Agree, RowsNeeds, rows_after, first_rows, first_status, claim_of, RowsStart, RowsBegin, RowsKept}
use Rattle.inv_rows.proofs.Lists.{apart_by}
use Rattle.inv_rows.proofs.Quiet.{phase_of}
use Rattle.inv_rows.proofs.Places.{adopts, Placed, phase_placed}
use Rattle.inv_rows.proofs.Rounds.{round_hand, round_right, letting_hand, letting_right, parting_hand, parting_right}
use Rattle.inv_rows.proofs.Steps.{Did}
use Rattle.inv_rows.proofs.Phases.{Offers, phase_did}
use Rattle.wfe_core.specs.words.Schemes.{publishes_rows}
use Rattle.wfe_core.specs.Rounds.{scheme_of}

-- a move of one seat leaves the others what they have
pub made_hand : (i k : ℕ) (v : View) (m : RowMove) → (k == i) ≡ false → (made i v m).hand k ≡ v.hand k
made_hand i k v Stays h = refl
made_hand i k v (Claims slot) h = rw h refl
made_hand i k v (Bears slot birth) h = rw h refl
made_hand i k v (Drops slot) h = rw h refl
made_hand i k v (Links bucket slot) h = rw h refl
made_hand i k v (Replaces bucket slot old) h = rw h refl
made_hand i k v (Appends slot) h = rw h refl
made_hand i k v (Pops slot next) h = rw h refl
made_hand i k v (Reads slot birth) h = rw h refl
made_hand i k v (Seals slot birth retire) h = rw h refl
made_hand i k v (Lists slot birth retire) h = rw h refl
made_hand i k v (Returns slot) h = refl
made_hand i k v (Adopts from) h = refl

made_lists : (i k : ℕ) (v : View) (m : RowMove) (s b r : ℕ) → (k == i) ≡ false → adopts m k ≡ false → (made i v m).lists k s b r ≡ v.lists k s b r
made_lists i k v Stays s b r h a = refl
made_lists i k v (Claims slot) s b r h a = refl
made_lists i k v (Bears slot birth) s b r h a = refl
made_lists i k v (Drops slot) s b r h a = refl
made_lists i k v (Links bucket slot) s b r h a = refl
made_lists i k v (Replaces bucket slot old) s b r h a = refl
made_lists i k v (Appends slot) s b r h a = refl
made_lists i k v (Pops slot next) s b r h a = refl
made_lists i k v (Reads slot birth) s b r h a = refl
made_lists i k v (Seals slot birth retire) s b r h a = refl
made_lists i k v (Lists slot birth retire) s b r h a = rw h refl
made_lists i k v (Returns slot) s b r h a = rw h refl
made_lists i k v (Adopts from) s b r h a = rw (a, h) refl

-- but that one whose list it takes over
made_gone : (i k : ℕ) (v : View) (m : RowMove) (s b r : ℕ) → adopts m k ≡ true → (made i v m).lists k s b r ≡ false
made_gone i k v Stays s b r a = absurd (no_truth a)
made_gone i k v (Claims slot) s b r a = absurd (no_truth a)
made_gone i k v (Bears slot birth) s b r a = absurd (no_truth a)
made_gone i k v (Drops slot) s b r a = absurd (no_truth a)
made_gone i k v (Links bucket slot) s b r a = absurd (no_truth a)
made_gone i k v (Replaces bucket slot old) s b r a = absurd (no_truth a)
made_gone i k v (Appends slot) s b r a = absurd (no_truth a)
made_gone i k v (Pops slot next) s b r a = absurd (no_truth a)
made_gone i k v (Reads slot birth) s b r a = absurd (no_truth a)
made_gone i k v (Seals slot birth retire) s b r a = absurd (no_truth a)
made_gone i k v (Lists slot birth retire) s b r a = absurd (no_truth a)
made_gone i k v (Returns slot) s b r a = absurd (no_truth a)
made_gone i k v (Adopts from) s b r a = rw a refl

-- the list that is a seat's own, by its place word
abbrev pub own_list : ℕ → List Lifetime → List Lifetime
own_list word list = if nat_lt 1 word then [] else list

pub list_here : (word : ℕ) (list : List Lifetime) → word ≡ 0 → own_list word list ≡ list
list_here word list e = rw e refl

pub list_left : (word : ℕ) (list : List Lifetime) → word ≡ 1 → own_list word list ≡ list
list_left word list e = rw e refl

-- a seat of a World
abbrev PlaysAs : ℕ → Local → ℕ → View → Type 0
PlaysAs k l word v = Plays k l.phase (own_list word l.desk.list) v

plays_other : (i k : ℕ) (v : View) (m : RowMove) (phase : Phase) (list : List Lifetime) → (k == i) ≡ false → adopts m k ≡ false → Plays k phase list v → Plays k phase list (made i v m)
plays_other i k v m phase list h a p = record {
  hand = made_hand i k v m h ∙ p.hand;
  lists = λ s b r. made_lists i k v m s b r h a ∙ p.lists s b r;
  once = p.once;
  right = p.right;
}

idle_right : (phase : Phase) → busy_in phase ≡ false → is_right phase [] ≡ true
idle_right Idle h = refl
idle_right (Runs why base) h = cc
idle_right (Scans later at) h = cc
idle_right (Works work) h = cc

plays_gone : (i k : ℕ) (v : View) (m : RowMove) (phase : Phase) (list : List Lifetime) → (k == i) ≡ false → adopts m k ≡ true → busy_in phase ≡ false → Plays k phase list v → Plays k phase [] (made i v m)
plays_gone i k v m phase list h a b p = record {
  hand = made_hand i k v m h ∙ p.hand;
  lists = λ s b r. made_gone i k v m s b r a;
  once = refl;
  right = idle_right phase b;
}

left_idle : (word : ℕ) (busy : Bool) → word ≡ 1 → (busy ≡ true → word ≡ 0) → busy ≡ false
left_idle word true e f = absurd (omega (arith, e, f refl))
left_idle word false e f = refl

other_plays : (i k : ℕ) (v : View) (m : RowMove) (mem after : Place → ℕ) (outcome : CallOutcome) (l : Local) → Placed i mem after m outcome → (k == i) ≡ false → Present mem k l.phase → PlaysAs k l (mem (PlaceOf k)) v → PlaysAs k l (after (PlaceOf k)) (made i v m)
other_plays i k v m mem after outcome l q h z p = by_adopts (adopts m k) refl
  where
    by_adopts : (b : Bool) → adopts m k ≡ b → PlaysAs k l (after (PlaceOf k)) (made i v m)
    by_adopts true a =
        let P : Bool → Type 0 = λ x. Plays k l.phase (if x then [] else l.desk.list) (made i v m) in
        subst P (sym (q.gone k a).1) (plays_gone i k v m l.phase (own_list (mem (PlaceOf k)) l.desk.list) h a (left_idle (mem (PlaceOf k)) (busy_in l.phase) (q.gone k a).0 z.here) p)
    by_adopts false a =
        let P : Bool → Type 0 = λ x. Plays k l.phase (if x then [] else l.desk.list) (made i v m) in
        subst P (sym (q.left k a)) (plays_other i k v m l.phase (own_list (mem (PlaceOf k)) l.desk.list) h a p)

-- the seat that steps
settled_plays : (i : ℕ) (v : View) (l : Local) (post : Post) (desk : Desk) (rounds : ℕ) (outcome : CallOutcome) → v.hand i ≡ hand_left outcome → ((s b r : ℕ) → v.lists i s b r ≡ in_list desk.list s b r) → each_once desk.list ≡ true → right_left outcome desk.list ≡ true
    → Plays i (settled_by l post desk rounds outcome).phase (settled_by l post desk rounds outcome).desk.list v
settled_plays i v l post desk rounds (GoesOn phase) h f o r = record { hand = h; lists = f; once = o; right = r }
settled_plays i v l post desk rounds (Answers answer) h f o r = record { hand = h; lists = f; once = o; right = refl }

did_plays : (slots i : ℕ) (mem : Place → ℕ) (v : View) (l : Local) (t : CallTurn) → Did slots i mem v t → Plays i (settled l t).phase (settled l t).desk.list v
did_plays slots i mem v l t d = settled_plays i v l t.post (noting t.desk (told_by t)) (rounds_told (publishes_rows (scheme_of t.post)) l.rounds (told_by t)) t.outcome d.hand d.lists d.once d.right

not_adopted : (word : ℕ) (taken : Bool) → word ≡ 0 → (taken ≡ true → word ≡ 1) → taken ≡ false
not_adopted word true e f = absurd (omega (arith, e, f refl))
not_adopted word false e f = refl

-- a seat that was busy keeps its list
own_plays : (slots i : ℕ) (m : RowMove) (mem after : Place → ℕ) (v : View) (l : Local) (t : CallTurn) → mem (PlaceOf i) ≡ 0 → Placed i mem after m t.outcome → Did slots i after v t → PlaysAs i (settled l t) (after (PlaceOf i)) v
own_plays slots i m mem after v l t z q d =
    let own : adopts m i ≡ false = not_adopted (mem (PlaceOf i)) (adopts m i) z (λ e. (q.gone i e).0) in
    let here : nat_lt 1 (after (PlaceOf i)) ≡ false = q.left i own ∙ ap (nat_lt 1) z in
    let P : Bool → Type 0 = λ x. Plays i (settled l t).phase (if x then [] else (settled l t).desk.list) v in
    subst P (sym here) (did_plays slots i after v l t d)

-- a seat of the next World, by whether it is the one that steps
plays_at : (i k : ℕ) (v : View) (mem : Place → ℕ) (old new : Local) (same : Bool) → (k == i) ≡ same → PlaysAs i new (mem (PlaceOf i)) v → ((k == i) ≡ false → PlaysAs k old (mem (PlaceOf k)) v) → PlaysAs k (if same then new else old) (mem (PlaceOf k)) v
plays_at i k v mem old new true e p q = let same : i ≡ k = grind (arith, nat_tests) in subst (λ (j : ℕ). PlaysAs j new (mem (PlaceOf j)) v) same p
plays_at i k v mem old new false e p q = q e

number_at : (i k : ℕ) (old new : Local) (same : Bool) → (k == i) ≡ same → new.post.seat ≡ i → old.post.seat ≡ k → (if same then new else old).post.seat ≡ k
number_at i k old new true e p q = let same : i ≡ k = grind (arith, nat_tests) in p ∙ same
number_at i k old new false e p q = q

present_at : (i k : ℕ) (mem : Place → ℕ) (old new : Local) (same : Bool) → (k == i) ≡ same → Present mem i new.phase → ((k == i) ≡ false → Present mem k old.phase) → Present mem k (if same then new else old).phase
present_at i k mem old new true e p q = let same : i ≡ k = grind (arith, nat_tests) in subst (λ (j : ℕ). Present mem j new.phase) same p
present_at i k mem old new false e p q = q e

-- where the seat stands after its step
pub settled_phase : (l : Local) (post : Post) (desk : Desk) (count : ℕ) (outcome : CallOutcome) → phase_of outcome ≡ (settled_by l post desk count outcome).phase
settled_phase l post desk count (GoesOn phase) = refl
settled_phase l post desk count (Answers answer) = refl

goes_to : (outcome : CallOutcome) (work : Work) → phase_of outcome ≡ Works work → outcome ≡ GoesOn (Works work)
goes_to (GoesOn phase) work e = ap GoesOn e
goes_to (Answers answer) work e = absurd (cc)

own_present : (slots i : ℕ) (m : RowMove) (mem after : Place → ℕ) (v : View) (l : Local) (t : CallTurn) → Placed i mem after m t.outcome → Did slots i after v t → Present after i (settled l t).phase
own_present slots i m mem after v l t q d =
    let P : Phase → Type 0 = λ y. Present after i y in
    subst P (settled_phase l t.post (noting t.desk (told_by t)) (rounds_told (publishes_rows (scheme_of t.post)) l.rounds (told_by t)) t.outcome) (record {
      here = q.here;
      marks = λ place count e. d.marks place count (goes_to t.outcome (Keeping (MarkTaken place count)) e);
    })

other_present : (i k : ℕ) (m : RowMove) (mem after : Place → ℕ) (phase : Phase) (outcome : CallOutcome) → Placed i mem after m outcome → (k == i) ≡ false → Present mem k phase → Present after k phase
other_present i k m mem after phase outcome q h p = record { here = λ b. q.zero k h (p.here b); marks = λ place count e. q.taken place (p.marks place count e) }

-- the list that is offered to a step is the one that the other seat left
one_not_zero : (word : ℕ) → word ≡ 0 → (word == 1) ≡ false
one_not_zero word e = grind (arith, nat_tests)

pub offers : (w : World) (i : ℕ) (v : View) → is_busy w i ≡ true → Agree w v → Offers i w.mem v (w.seat i).phase (offered w i).desk.gift
offers w i v b a =
    let gift : (place : ℕ) → (w.seat i).phase ≡ Works (Keeping (TakeList place)) → w.mem (PlaceOf place) ≡ 1 → list_in w place ≡ (offered w i).desk.gift = λ place e one. list_left (w.mem (PlaceOf place)) (w.seat place).desk.list one ∙ sym (ap (gift_at w.seat) e) in
    record {
      lists = λ place s b r e one. (a.plays place).lists s b r ∙ ap (λ (l : List Lifetime). in_list l s b r) (gift place e one);
      once = λ place e one. sym (ap each_once (gift place e one)) ∙ (a.plays place).once;
      apart = λ place e one. apart_by (λ x. w.mem (PlaceOf x) == 1) place i (place == i) refl (same_test (w.mem (PlaceOf place)) 1 one) (one_not_zero (w.mem (PlaceOf i)) ((a.present i).here b));
    }

pub busy_plays : (w : World) (i : ℕ) (v : View) → is_busy w i ≡ true → Agree w v → Plays i (w.seat i).phase (w.seat i).desk.list v
busy_plays w i v b a =
    let P : List Lifetime → Type 0 = λ l. Plays i (w.seat i).phase l v in
    subst P (list_here (w.mem (PlaceOf i)) (w.seat i).desk.list ((a.present i).here b)) (a.plays i)

kept_busy : (w : World) (i : ℕ) (v : View) → is_busy w i ≡ true → RowsNeeds w i v → Agree w v → Agree (step w i) (rows_after w i v)
kept_busy w i v b n a =
    let l : Local = offered w i in
    let t : CallTurn = turn l (finds w i) in
    let slots : ℕ = w.layout.config.slots in
    let after : Place → ℕ = (step w i).mem in
    let m : RowMove = row_move l.phase l.post (finds w i) in
    let d : Did slots i after (rows_after w i v) t = phase_did slots i w.mem v l.phase l.post (counted l.post) l.desk n (offers w i v b a) a.good a.words (busy_plays w i v b a) in
    let q : Placed i w.mem after m t.outcome = phase_placed i w.mem l.phase l.post (counted l.post) l.desk b (a.numbers i) (a.present i) in
    record {
      good = d.good;
      words = d.words;
      plays = λ k. plays_at i k (rows_after w i v) after (w.seat k) (settled l t) (k == i) refl (own_plays slots i m w.mem after (rows_after w i v) l t ((a.present i).here b) q d) (λ e. other_plays i k v m w.mem after t.outcome (w.seat k) q e (a.present k) (a.plays k));
      numbers = λ k. number_at i k (w.seat k) (settled l t) (k == i) refl ((stays_in_place.steps l (finds w i)).seat ∙ a.numbers i) (a.numbers k);
      present = λ k. present_at i k after (w.seat k) (settled l t) (k == i) refl (own_present slots i m w.mem after (rows_after w i v) l t q d) (λ e. other_present i k m w.mem after (w.seat k).phase t.outcome q e (a.present k));
    }

-- a step of a seat that is not busy does nothing
abbrev AfterAs : World → ℕ → View → Phase → Type 0
AfterAs w i v phase =
    Agree
    (stepped w i (offered w i) (phase_move phase (w.seat i).post) (phase_turn phase (counted (w.seat i).post) (offered w i).desk (finds w i)))
    (made i v (row_move phase (w.seat i).post (finds w i)))

kept_idle : (w : World) (i : ℕ) (v : View) → (w.seat i).phase ≡ Idle → Agree w v → AfterAs w i v Idle
kept_idle w i v e a =
    let l : Local = offered w i in
    let new : Local = settled l (phase_turn Idle (counted l.post) l.desk (finds w i)) in
    let P : Phase → Type 0 = λ y. Plays i y (list_in w i) v in
    record {
      good = a.good;
      words = a.words;
      plays = λ k. plays_at i k v w.mem (w.seat k) new (k == i) refl (subst P e (a.plays i)) (λ e. a.plays k);
      numbers = λ k. number_at i k (w.seat k) new (k == i) refl (a.numbers i) (a.numbers k);
      present = λ k. present_at i k w.mem (w.seat k) new (k == i) refl (record { here = λ b. absurd (no_truth b); marks = λ place count q. absurd (cc) }) (λ e. a.present k);
    }

idle_phase : (phase : Phase) → busy_in phase ≡ false → phase ≡ Idle
idle_phase Idle h = refl
idle_phase (Runs why base) h = cc
idle_phase (Scans later at) h = cc
idle_phase (Works work) h = cc

pub rows_kept : RowsKept
rows_kept w i v n a = by_busy (is_busy w i) refl
  where
    by_busy : (b : Bool) → is_busy w i ≡ b → Agree (step w i) (rows_after w i v)
    by_busy true b = kept_busy w i v b n a
    by_busy false b = let e : (w.seat i).phase ≡ Idle = idle_phase (w.seat i).phase b in subst (AfterAs w i v) (sym e) (kept_idle w i v e a)

-- a call begins with nothing in hand
holding_hand : (key : ℕ) (post : Post) (x : Option ℕ) → hand_in (holding key post x) ≡ Empty
holding_hand key post None = round_hand (Holds key) post
holding_hand key post (Some slot) = letting_hand (Rehold key) post

copying_hand : (from index : ℕ) (x : Option ℕ) → hand_in (copying from index x) ≡ Empty
copying_hand from index None = refl
copying_hand from index (Some slot) = refl

looking_hand : (index key : ℕ) (x : Option ℕ) → hand_in (looking_at index key x) ≡ Empty
looking_hand index key None = refl
looking_hand index key (Some slot) = refl

first_hand : (call : Call) (post : Post) → hand_in (first_phase call post) ≡ Empty
first_hand (names.Get key) post = round_hand (Gets key) post
first_hand (names.Put key value) post = round_hand (Changes _) post
first_hand (names.Remove key) post = round_hand (Changes _) post
first_hand (names.Enqueue value) post = round_hand (Enqueues _) post
first_hand names.Dequeue post = round_hand Dequeues post
first_hand (names.Hold key) post = holding_hand key post (stands post 2)
first_hand names.Release post = letting_hand Released post
first_hand names.Advance post = refl
first_hand names.Scan post = refl
first_hand (names.Copy from index) post = copying_hand from index (stands post from)
first_hand (names.DropIndex index) post = letting_hand (Dropped index) post
first_hand (names.Look index key) post = looking_hand index key (stands post index)
first_hand (names.PutIf key value version) post = round_hand (Changes _) post
first_hand names.Leave post = parting_hand post
first_hand (names.Adopt place) post = refl

holding_right : (key : ℕ) (post : Post) (x : Option ℕ) (list : List Lifetime) → goes_right (holding key post x) list ≡ true
holding_right key post None list = round_right (Holds key) post list
holding_right key post (Some slot) list = letting_right (Rehold key) post list

copying_right : (from index : ℕ) (x : Option ℕ) (list : List Lifetime) → goes_right (copying from index x) list ≡ true
copying_right from index None list = refl
copying_right from index (Some slot) list = refl

looking_right : (index key : ℕ) (x : Option ℕ) (list : List Lifetime) → goes_right (looking_at index key x) list ≡ true
looking_right index key None list = refl
looking_right index key (Some slot) list = refl

first_right : (call : Call) (post : Post) (list : List Lifetime) → goes_right (first_phase call post) list ≡ true
first_right (names.Get key) post list = round_right (Gets key) post list
first_right (names.Put key value) post list = round_right (Changes _) post list
first_right (names.Remove key) post list = round_right (Changes _) post list
first_right (names.Enqueue value) post list = round_right (Enqueues _) post list
first_right names.Dequeue post list = round_right Dequeues post list
first_right (names.Hold key) post list = holding_right key post (stands post 2) list
first_right names.Release post list = letting_right Released post list
first_right names.Advance post list = refl
first_right names.Scan post list = refl
first_right (names.Copy from index) post list = copying_right from index (stands post from) list
first_right (names.DropIndex index) post list = letting_right (Dropped index) post list
first_right (names.Look index key) post list = looking_right index key (stands post index) list
first_right (names.PutIf key value version) post list = round_right (Changes _) post list
first_right names.Leave post list = parting_right post list
first_right (names.Adopt place) post list = refl

pub idle_hand : (phase : Phase) → busy_in phase ≡ false → hand_in phase ≡ Empty
idle_hand Idle h = refl
idle_hand phase h = cc

begun_plays : (i : ℕ) (v : View) (l : Local) (word : ℕ) (call : Call) → busy_in l.phase ≡ false → PlaysAs i l word v → PlaysAs i (begun l call) word v
begun_plays i v l word call h p = record {
  hand = p.hand ∙ idle_hand l.phase h ∙ sym (first_hand call (begun_post l.post));
  lists = p.lists;
  once = p.once;
  right = let phase : Phase = first_phase call (begun_post l.post) in let list : List Lifetime = own_list word l.desk.list in rest_of (not (is_marking phase)) (is_right phase list) (first_right call (begun_post l.post) list);
}

-- no call begins with a list to mark
first_unmarked : (call : Call) (post : Post) (place count : ℕ) → first_phase call post ≡ Works (Keeping (MarkTaken place count)) → ⊥
first_unmarked call post place count e = let P : Phase → Type 0 = λ y. goes_right y [] ≡ true in no_truth (subst P e (first_right call post []))

pub rows_begin : RowsBegin
rows_begin w i call v h there a = record {
  good = a.good;
  words = record { claims = a.words.claims; lives = a.words.lives; roots = a.words.roots; head = a.words.head };
  plays = λ k. plays_at i k v w.mem (w.seat k) (begun (w.seat i) call) (k == i) refl (begun_plays i v (w.seat i) (w.mem (PlaceOf i)) call h (a.plays i)) (λ e. a.plays k);
  numbers = λ k. number_at i k (w.seat k) (begun (w.seat i) call) (k == i) refl (a.numbers i) (a.numbers k);
  present = λ k. present_at i k w.mem (w.seat k) (begun (w.seat i) call) (k == i) refl (record {
    here = λ b. number_is (w.mem (PlaceOf i)) 0 there;
    marks = λ place count e. absurd (first_unmarked call (begun_post (w.seat i).post) place count e);
  }) (λ e. a.present k);
}

-- the start
first_good : (layout : Layout) → Good layout.config.slots (first_rows layout)
first_good layout = record {
  hands = λ k s h. absurd (grind arith);
  held = λ k s h. grind (arith, nat_tests);
  known = λ k s h. absurd (grind arith);
  listed = λ k s b r h. absurd (grind arith);
  dated = λ k s b r h. absurd (grind arith);
  lists = λ k s r h. grind (arith, nat_tests);
  roots = λ b s h. absurd (grind arith);
  linked = λ b s h. grind (arith, nat_tests);
  some = omega arith;
  queue = λ s h. grind (arith, nat_tests);
  inside = λ s h. grind (arith, nat_tests);
  births = λ s h. omega arith;
}

first_claim : (layout : Layout) (s : ℕ) → s / 64 ≤ layout.config.slots / 64 → bit_at ((start layout).mem (Claim (s / 64))) (s % 64) ≡ claim_of layout.config.slots (first_status layout.config.slots s) s
first_claim layout s h =
    let there : s / 64 < claim_words layout = omega arith in
    let bit : s % 64 < 64 = omega arith in
    let joined : (s / 64) * 64 + s % 64 ≡ s = omega arith in
    let start_bit = claim_start_bit layout (s / 64) (s % 64) there bit in
    let stands_there : nat_lt (s / 64) (claim_words layout) ≡ true = grind (arith, nat_tests) in
    rw stands_there (grind (arith, nat_tests, start_bit))

first_life : (layout : Layout) (s : ℕ) → has_life (first_status layout.config.slots s) ≡ true → (start layout).mem (Life s) ≡ life_word (record { birth = 1; retire = retire_in (first_status layout.config.slots s) })
first_life layout s h = grind (arith, nat_tests)

first_root : (layout : Layout) (b : ℕ) → (start layout).mem (Bucket b) ≡ 0
first_root layout b = grind (arith, nat_tests)

empty_list : (b : Bool) → ◌≡◌ {A = List Lifetime} (if b then [] else []) []
empty_list true = refl
empty_list false = refl

pub rows_start : RowsStart
rows_start layout h = record {
  good = first_good layout;
  words = record {
    claims = λ s e. first_claim layout s e;
    lives = λ s e. first_life layout s e;
    roots = λ b. first_root layout b;
    head = refl;
  };
  plays = λ k. let P : List Lifetime → Type 0 = λ l. Plays k Idle l (first_rows layout) in subst P (sym (empty_list (nat_lt 1 ((start layout).mem (PlaceOf k))))) (record { hand = refl; lists = λ s b r. refl; once = refl; right = refl });
  numbers = λ k. refl;
  present = λ k. record { here = λ b. absurd (no_truth b); marks = λ place count q. absurd (cc) };
}
