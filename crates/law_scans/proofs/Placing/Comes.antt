-- A step of a seat, with what its record says before and after.
use Rattle.std.proofs.Common.{ℕ, ◌≡◌, ◌<◌, ◌+◌, Bool, true, false, List, [], ◌∷◌, ◌++◌, length, refl, sym, ap, ◌∙◌, subst, arith}
use Rattle.std.proofs.lemmas.Bool.Decides.{nat_tests}
use Rattle.std.specs.List.{filter}
use Rattle.std.specs.Prelude.{◌==◌, nat_lt, if◌then◌else◌}
use Rattle.law_reuse.specs.inv.model.words.Place.Place.{Bucket}
use Rattle.law_reuse.specs.inv.model.defs.declared.call.Answer.{Answer}
use Rattle.law_reuse.specs.inv.model.defs.declared.event.Event.{Event}
use Rattle.law_reuse.specs.inv.model.defs.declared.event.Event.TheVariants as events
use Rattle.law_reuse.specs.inv.model.declared.post.Post.{Post}
use Rattle.law_reuse.specs.inv.model.Book.{Book}
use Rattle.law_reuse.specs.inv.model.Calls.{CallTurn, CallOutcome, GoesOn, Answers}
use Rattle.law_reuse.specs.inv.model.Locals.{busy_in, told_end, turn}
use Rattle.law_reuse.specs.inv.model.Memory as memory
use Rattle.law_reuse.specs.inv.model.Posts.{counted}
use Rattle.law_reuse.specs.inv.model.Steps.{phase_move}
use Rattle.law_reuse.specs.inv.model.World.{World, finds, is_busy, offered, step, told_in, list_in}
use Rattle.law_reuse.proofs.inv.covers.Held.{stepped_phase}
use Rattle.law_reuse.specs.inv.shapes.Frame.{phase_left}
use Rattle.law_reuse.specs.inv.requests.Views.{View as Asked}
use Rattle.law_reuse.specs.inv.rows.Agree.{Agree, rows_after}
use Rattle.law_reuse.specs.inv.rows.Queue.{Line}
use Rattle.law_reuse.specs.inv.rows.Rows.{Hand, RowMove, View}
use Rattle.law_reuse.specs.inv.rows.Rows.RowMove.{Stays, Claims, Bears, Drops, Links, Replaces, Appends, Pops, Reads, Seals, Lists, Returns, Adopts}
use Rattle.law_reuse.specs.inv.Contents.Told.{NextChange, TellsRight, AllRight}
use Rattle.law_reuse.specs.inv.history.Record.{Past, tells_of}
use Rattle.law_reuse.specs.inv.Inv.{TellsRight as StepTells}
use Rattle.law_reuse.specs.inv.Known.{Known}
use Rattle.law_reuse.proofs.inv.Inv.Tells.{inv_tells}
use Rattle.law_reuse.specs.inv.ends.Told.{move_of}
use Rattle.law_reuse.proofs.laws.Along.{along, along_kind}
use Rattle.law_reuse.specs.laws.StateAt.{Given, Without, given_of, given_by, cuts_of, cuts_by, retires_of, retires_by, changed_of, changed_by, seen}
use Rattle.law_scans.proofs.Placing.Marks.{is_marked, marks, tells, marks_told}
use Rattle.law_scans.proofs.Placing.Moved.{hand_after, hand_made, loud_by, said_by, Says, Agrees, AgreesAfter, agrees_moved}
use Rattle.law_scans.proofs.Placing.Shapes.{HandFits, hand_fits, is_change_of, FindsAt, Ending, Shape, shape_of}
use Rattle.law_scans.proofs.Placing.Sums.{given_kind, cuts_kind, retires_still, changed_still, loud_still, said_still, along_both}
use Rattle.law_reuse.proofs.laws.Tells.{seen_tells, seen_stays}
use Rattle.law_reuse.proofs.inv.rows.Kept.{made_hand}

-- the record says of a seat what it has in hand
abbrev pub ComesTo : Hand → Bool → ℕ → Past → Type 0
ComesTo h busy k p = Agrees h busy (given_of k p) (changed_of k p) (seen loud_by false k p) (cuts_of k p) (retires_of k p) (seen said_by 0 k p)

pub agrees_as : (h : Hand) (busy : Bool) (g1 g2 : Given) (c1 c2 l1 l2 : Bool) (x1 x2 : List ℕ) (r1 r2 s1 s2 : ℕ) → g2 ≡ g1 → c2 ≡ c1 → l2 ≡ l1 → x2 ≡ x1 → r2 ≡ r1 → s2 ≡ s1 → Agrees h busy g1 c1 l1 x1 r1 s1 → Agrees h busy g2 c2 l2 x2 r2 s2
agrees_as h busy g1 g2 c1 c2 l1 l2 x1 x2 r1 r2 s1 s2 g c l x r s a = rw (g, c, l, x, r, s) a

-- of what a step tells, what is marked
pub told_comes : {X : Type 0} (next : Event → X → X) (first : X) (w : World) (i : ℕ) (p : Past) → ((event : Event) (x : X) → is_marked event ≡ false → next event x ≡ x) → ((post : Post) (outcome : CallOutcome) (x : X) → along next (told_end post outcome) x ≡ x)
    → seen next first i (tells_of p i (told_in w i)) ≡ along next (marks (w.seat i).phase (w.seat i).post (finds w i)) (seen next first i p)
told_comes next first w i p q e =
    let t : CallTurn = turn (offered w i) (finds w i) in
    seen_tells next first i (told_in w i) p
    ∙ along_both next t.told (told_end t.post t.outcome) (seen next first i p)
    ∙ e t.post t.outcome (along next t.told (seen next first i p))
    ∙ along_kind next is_marked q (tells w i) (seen next first i p)
    ∙ ap (λ (es : List Event). along next es (seen next first i p)) (marks_told w i)

pub given_end : (post : Post) (outcome : CallOutcome) (x : Given) → along given_by (told_end post outcome) x ≡ x
given_end post (GoesOn phase) x = refl
given_end post (Answers answer) x = refl

pub changed_end : (post : Post) (outcome : CallOutcome) (x : Bool) → along changed_by (told_end post outcome) x ≡ x
changed_end post (GoesOn phase) x = refl
changed_end post (Answers answer) x = refl

pub loud_end : (post : Post) (outcome : CallOutcome) (x : Bool) → along loud_by (told_end post outcome) x ≡ x
loud_end post (GoesOn phase) x = refl
loud_end post (Answers answer) x = refl

pub cuts_end : (post : Post) (outcome : CallOutcome) (x : List ℕ) → along cuts_by (told_end post outcome) x ≡ x
cuts_end post (GoesOn phase) x = refl
cuts_end post (Answers answer) x = refl

pub retires_end : (post : Post) (outcome : CallOutcome) (x : ℕ) → along retires_by (told_end post outcome) x ≡ x
retires_end post (GoesOn phase) x = refl
retires_end post (Answers answer) x = refl

pub said_end : (post : Post) (outcome : CallOutcome) (x : ℕ) → along said_by (told_end post outcome) x ≡ x
said_end post (GoesOn phase) x = refl
said_end post (Answers answer) x = refl

-- a seat's step in a World of which all is known
pub record Stepping (w : World) (i : ℕ) (v : View) (l : Line) (z : Asked) : Type 0 where
  pub seat : i < w.layout.config.seats
  pub known : Known w v l z

pub agree_of : (w : World) (v : View) (l : Line) (z : Asked) → Known w v l z → Agree w v
agree_of w v l z k = k.whole.both.rows

pub shape_in : (w : World) (i : ℕ) (v : View) → Agree w v → Shape (w.seat i).phase (w.seat i).post (finds w i) (move_of w i) (marks (w.seat i).phase (w.seat i).post (finds w i))
shape_in w i v a = shape_of (w.seat i).phase (w.seat i).post (finds w i) (list_in w i) (a.plays i).right

pub fits_in : (w : World) (i : ℕ) (v : View) → Agree w v → HandFits (move_of w i) (v.hand i)
fits_in w i v a = subst (λ (h : Hand). HandFits (move_of w i) h) (sym (a.plays i).hand) (hand_fits (w.seat i).phase (w.seat i).post (finds w i) (list_in w i) (a.plays i).right)

-- a root's word is found
pub finds_bucket : (w : World) (i bucket : ℕ) (v : View) → Agree w v → FindsAt (phase_move (w.seat i).phase (w.seat i).post) (Bucket bucket) → finds w i ≡ v.root bucket
finds_bucket w i bucket v a f =
    f.word (w.mem (memory.place_in (phase_move (w.seat i).phase (w.seat i).post))) ∙ ap w.mem f.place ∙ a.words.roots bucket

-- the version that a change tells
right_by : (n : ℕ) (a : Book) (event : Event) (some told : List Event) (x : Bool) → TellsRight n a event → AllRight n a some → AllRight n a (if x then event ∷ some else some)
right_by n a event some told true r h = (r, h)
right_by n a event some told false r h = h

right_filter : (n : ℕ) (a : Book) (test : Event → Bool) (told : List Event) → AllRight n a told → AllRight n a (filter test told)
right_filter n a test [] h = tt
right_filter n a test (event ∷ told) h = right_by n a event (filter test told) told (test event) h.0 (right_filter n a test told h.1)

right_first : (n : ℕ) (a : Book) (xs ys : List Event) → AllRight n a (xs ++ ys) → AllRight n a xs
right_first n a [] ys h = tt
right_first n a (event ∷ xs) ys h = (h.0, right_first n a xs ys h.1)

right_marks : (w : World) (i : ℕ) (v : View) (l : Line) (z : Asked) → Stepping w i v l z → AllRight w.layout.config.buckets w.book (marks (w.seat i).phase (w.seat i).post (finds w i))
right_marks w i v l z s =
    let t : CallTurn = turn (offered w i) (finds w i) in
    let m : StepTells w i = inv_tells w i s.seat (record { rows = v; line = l; asked = z; known = s.known }) in
    subst (λ (es : List Event). AllRight w.layout.config.buckets w.book es) (marks_told w i)
    (right_filter w.layout.config.buckets w.book is_marked t.told (right_first w.layout.config.buckets w.book t.told (told_end t.post t.outcome) m.map))

next_lt : (version count : ℕ) → version ≡ count + 1 → nat_lt 1 version ≡ nat_lt 0 count
next_lt version count e = by_count count e
  where
    by_count : (count : ℕ) → version ≡ count + 1 → nat_lt 1 version ≡ nat_lt 0 count
    by_count count e = ap (λ (x : ℕ). nat_lt 1 x) e ∙ below (nat_lt 0 count) refl
      where
        below : (x : Bool) → nat_lt 0 count ≡ x → nat_lt 1 (count + 1) ≡ x
        below true h = grind (arith, nat_tests)
        below false h = grind (arith, nat_tests)

change_next : (a : Book) (n bucket other version key count : ℕ) → (other == bucket) ≡ true → NextChange n a other version key → length (a.changes bucket) ≡ count → version ≡ count + 1
change_next a n bucket other version key count c r e =
    let q : other ≡ bucket = grind (arith, nat_tests) in
    r.next ∙ ap (λ (b : ℕ). length (a.changes b) + 1) q ∙ ap (λ (x : ℕ). x + 1) e

says_by : (version count said : ℕ) → version ≡ count + 1 → (if nat_lt 1 version then said + 1 else said) ≡ (if nat_lt 0 count then said + 1 else said)
says_by version count said e = ap (λ (x : Bool). if x then said + 1 else said) (next_lt version count e)

says_one : (n : ℕ) (a : Book) (bucket : ℕ) (change : Event) (said count : ℕ) → is_change_of bucket change ≡ true → TellsRight n a change → length (a.changes bucket) ≡ count → said_by change said ≡ (if nat_lt 0 count then said + 1 else said)
says_one n a bucket (events.Put other version key value) said count c r e = says_by version count said (change_next a n bucket other version key count c r e)
says_one n a bucket (events.Removed other version key) said count c r e = says_by version count said (change_next a n bucket other version key count c r e)
says_one n a bucket change said count c r e = absurd (cc)

first_count : (root count : ℕ) → root ≡ 0 → (root == 0) ≡ (count == 0) → count ≡ 0
first_count root count r e = let a : (root == 0) ≡ true = grind (arith, nat_tests) in let b : (count == 0) ≡ true = sym e ∙ a in grind (arith, nat_tests)

some_count : (root old count : ℕ) → root ≡ old + 1 → (root == 0) ≡ (count == 0) → nat_lt 0 count ≡ true
some_count root old count r e = let a : (root == 0) ≡ false = grind (arith, nat_tests) in let b : (count == 0) ≡ false = sym e ∙ a in grind (arith, nat_tests)

says_move : (w : World) (i : ℕ) (v : View) (l : Line) (z : Asked) (m : RowMove) (told : List Event) → Stepping w i v l z → Shape (w.seat i).phase (w.seat i).post (finds w i) m told → AllRight w.layout.config.buckets w.book told → Says m told
says_move w i v l z (Links bucket slot) told s h r =
    let t = subst (λ (es : List Event). AllRight w.layout.config.buckets w.book es) h.is r in
    let root : v.root bucket ≡ 0 = sym (finds_bucket w i bucket v (agree_of w v l z s.known) h.finds) ∙ h.null in
    λ n. ap (λ (es : List Event). along said_by es n) h.is
    ∙ says_one w.layout.config.buckets w.book bucket h.change n 0 h.of t.1.0 (first_count (v.root bucket) (length (w.book.changes bucket)) root (s.known.contents.rows.empty bucket))
says_move w i v l z (Replaces bucket slot old) told s h r =
    let t = subst (λ (es : List Event). AllRight w.layout.config.buckets w.book es) h.is r in
    let root : v.root bucket ≡ old + 1 = sym (finds_bucket w i bucket v (agree_of w v l z s.known) h.finds) ∙ h.row in
    λ n. ap (λ (es : List Event). along said_by es n) h.is
    ∙ says_one w.layout.config.buckets w.book bucket h.change n (length (w.book.changes bucket)) h.of t.1.1.0 refl
    ∙ ap (λ (x : Bool). if x then n + 1 else n) (some_count (v.root bucket) old (length (w.book.changes bucket)) root (s.known.contents.rows.empty bucket))
says_move w i v l z Stays told s h r = tt
says_move w i v l z (Claims slot) told s h r = tt
says_move w i v l z (Bears slot birth) told s h r = tt
says_move w i v l z (Drops slot) told s h r = tt
says_move w i v l z (Appends slot) told s h r = tt
says_move w i v l z (Pops slot next) told s h r = tt
says_move w i v l z (Reads slot birth) told s h r = tt
says_move w i v l z (Seals slot birth retire) told s h r = tt
says_move w i v l z (Lists slot birth retire) told s h r = tt
says_move w i v l z (Returns slot) told s h r = tt
says_move w i v l z (Adopts from) told s h r = tt

says_in : (w : World) (i : ℕ) (v : View) (l : Line) (z : Asked) → Stepping w i v l z → Says (move_of w i) (marks (w.seat i).phase (w.seat i).post (finds w i))
says_in w i v l z s = says_move w i v l z (move_of w i) (marks (w.seat i).phase (w.seat i).post (finds w i)) s (shape_in w i v (agree_of w v l z s.known)) (right_marks w i v l z s)

-- where a row is given up the call ends
ended_busy : (outcome : CallOutcome) (answer : Answer) → outcome ≡ Answers answer → busy_in (phase_left outcome) ≡ false
ended_busy outcome answer e = ap (λ (x : CallOutcome). busy_in (phase_left x)) e

drops_end : (w : World) (i : ℕ) (v : View) → Agree w v → (slot : ℕ) → move_of w i ≡ Drops slot → is_busy (step w i) i ≡ false
drops_end w i v a slot e =
    let h : Ending (w.seat i).phase (counted (w.seat i).post) (finds w i) slot (marks (w.seat i).phase (w.seat i).post (finds w i)) =
    subst (λ (m : RowMove). Shape (w.seat i).phase (w.seat i).post (finds w i) m (marks (w.seat i).phase (w.seat i).post (finds w i))) e (shape_in w i v a) in
    let d = h.ends (offered w i).desk in
    ap busy_in (stepped_phase w i) ∙ ended_busy (turn (offered w i) (finds w i)).outcome d.0 d.1

-- a step of the seat
pub comes_own : (w : World) (i : ℕ) (v : View) (l : Line) (z : Asked) (p : Past) → Stepping w i v l z → ComesTo (v.hand i) true i p → ComesTo ((rows_after w i v).hand i) (is_busy (step w i) i) i (tells_of p i (told_in w i))
comes_own w i v l z p s c =
    let a = agree_of w v l z s.known in
    let told : List Event = marks (w.seat i).phase (w.seat i).post (finds w i) in
    let b : AgreesAfter (hand_after (move_of w i) (v.hand i)) (is_busy (step w i) i) told (given_of i p) (changed_of i p) (seen loud_by false i p) (cuts_of i p) (retires_of i p) (seen said_by 0 i p) =
    agrees_moved (w.seat i).phase (w.seat i).post (finds w i) (move_of w i) told (v.hand i) (is_busy (step w i) i) (given_of i p) (changed_of i p) (seen loud_by false i p) (cuts_of i p) (retires_of i p) (seen said_by 0 i p)
    (shape_in w i v a) (fits_in w i v a) (says_in w i v l z s) (drops_end w i v a) c in
    subst (λ (h : Hand). ComesTo h (is_busy (step w i) i) i (tells_of p i (told_in w i))) (sym (hand_made i v (move_of w i)))
    (agrees_as (hand_after (move_of w i) (v.hand i)) (is_busy (step w i) i) _ _ _ _ _ _ _ _ _ _ _ _
    (told_comes given_by Without w i p given_kind.still given_end)
    (told_comes changed_by false w i p changed_still changed_end)
    (told_comes loud_by false w i p loud_still loud_end)
    (told_comes cuts_by [] w i p cuts_kind.still cuts_end)
    (told_comes retires_by 0 w i p retires_still retires_end)
    (told_comes said_by 0 w i p said_still said_end) b)

-- a step of another seat
pub comes_other : (w : World) (i k : ℕ) (v : View) (busy : Bool) (p : Past) → (k == i) ≡ false → ComesTo (v.hand k) busy k p → ComesTo ((rows_after w i v).hand k) busy k (tells_of p i (told_in w i))
comes_other w i k v busy p e c =
    subst (λ (h : Hand). ComesTo h busy k (tells_of p i (told_in w i))) (sym (made_hand i k v (move_of w i) e))
    (agrees_as (v.hand k) busy _ _ _ _ _ _ _ _ _ _ _ _
    (seen_stays given_by Without k i (told_in w i) p e)
    (seen_stays changed_by false k i (told_in w i) p e)
    (seen_stays loud_by false k i (told_in w i) p e)
    (seen_stays cuts_by [] k i (told_in w i) p e)
    (seen_stays retires_by 0 k i (told_in w i) p e)
    (seen_stays said_by 0 k i (told_in w i) p e) c)
