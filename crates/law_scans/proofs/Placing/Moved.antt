-- What a move of rows makes of what a seat has in hand and of what its call has come to.
use Rattle.std.proofs.Common.{ℕ, ◌≡◌, ◌+◌, Bool, true, false, List, [], ◌∷◌, length, Option, Some, None, refl, sym, ap, ◌∙◌, subst, arith}
use Rattle.std.proofs.lemmas.Bool.Decides.{nat_tests}
use Rattle.std.specs.Prelude.{◌==◌, nat_lt, if◌then◌else◌}
use Rattle.law_reuse.specs.inv.model.defs.declared.event.Event.{Event}
use Rattle.law_reuse.specs.inv.model.defs.declared.event.Event.TheVariants as events
use Rattle.law_reuse.specs.inv.model.defs.declared.event.Root.TheVariants as roots
use Rattle.law_reuse.specs.inv.model.declared.post.Post.{Post}
use Rattle.law_reuse.specs.inv.model.Calls.{Phase}
use Rattle.law_reuse.specs.inv.model.Memory.{upd}
use Rattle.law_reuse.proofs.inv.model.Facts.{same_number, first_of, rest_of}
use Rattle.law_reuse.specs.inv.rows.Rows.{Hand, RowMove, View, made}
use Rattle.law_reuse.specs.inv.rows.Rows.Hand.{Empty, New, Taken, Old, Known, Dated}
use Rattle.law_reuse.specs.inv.rows.Rows.RowMove.{Stays, Claims, Bears, Drops, Links, Replaces, Appends, Pops, Reads, Seals, Lists, Returns, Adopts}
use Rattle.law_reuse.proofs.laws.Along.{along}
use Rattle.law_reuse.proofs.inv.history.AllOf.{all_of}
use Rattle.law_reuse.specs.laws.StateAt.{Given, Without, InHand, Placed, given_by, without_one, is_among, cuts_by, retires_by, changed_by}
use Rattle.law_reuse.specs.laws.HistoryRows.{is_without, is_in_hand, places_right}
use Rattle.law_reuse.specs.laws.Once.{retires_right}
use Rattle.law_scans.proofs.Placing.Shapes.{HandFits, is_change_of, is_passing, Shape}
use Rattle.law_reuse.proofs.laws.Tells.{AllRight}

-- the hand after a move
abbrev pub hand_after : RowMove → Hand → Hand
hand_after Stays h = h
hand_after (Claims slot) h = New slot
hand_after (Bears slot birth) h = Taken slot
hand_after (Drops slot) h = Empty
hand_after (Links bucket slot) h = Empty
hand_after (Replaces bucket slot old) h = Old old
hand_after (Appends slot) h = Empty
hand_after (Pops slot next) h = Old slot
hand_after (Reads slot birth) h = Known slot birth
hand_after (Seals slot birth retire) h = Dated slot birth retire
hand_after (Lists slot birth retire) h = Empty
hand_after (Returns slot) h = h
hand_after (Adopts from) h = h

upd_here : (f : ℕ → Hand) (i : ℕ) (x : Hand) → upd f i x i ≡ x
upd_here f i x = let e : (i == i) ≡ true = same_number i in rw e refl

pub hand_made : (i : ℕ) (v : View) (m : RowMove) → (made i v m).hand i ≡ hand_after m (v.hand i)
hand_made i v Stays = refl
hand_made i v (Claims slot) = upd_here v.hand i (New slot)
hand_made i v (Bears slot birth) = upd_here v.hand i (Taken slot)
hand_made i v (Drops slot) = upd_here v.hand i Empty
hand_made i v (Links bucket slot) = upd_here v.hand i Empty
hand_made i v (Replaces bucket slot old) = upd_here v.hand i (Old old)
hand_made i v (Appends slot) = upd_here v.hand i Empty
hand_made i v (Pops slot next) = upd_here v.hand i (Old slot)
hand_made i v (Reads slot birth) = upd_here v.hand i (Known slot birth)
hand_made i v (Seals slot birth retire) = upd_here v.hand i (Dated slot birth retire)
hand_made i v (Lists slot birth retire) = upd_here v.hand i Empty
hand_made i v (Returns slot) = refl
hand_made i v (Adopts from) = refl

-- the row in hand that is not linked, and the row that was cut
abbrev pub new_of : Hand → Option ℕ
new_of Empty = None
new_of (New slot) = Some slot
new_of (Taken slot) = Some slot
new_of (Old slot) = None
new_of (Known slot birth) = None
new_of (Dated slot birth retire) = None

abbrev pub old_of : Hand → List ℕ
old_of Empty = []
old_of (New slot) = []
old_of (Taken slot) = []
old_of (Old slot) = slot ∷ []
old_of (Known slot birth) = slot ∷ []
old_of (Dated slot birth retire) = slot ∷ []

abbrev pub in_hand_of : Given → Option ℕ
in_hand_of Without = None
in_hand_of (InHand slot) = Some slot
in_hand_of Placed = None

abbrev pub is_placed : Given → Bool
is_placed Without = false
is_placed (InHand slot) = false
is_placed Placed = true

-- what a call has told of the map and of the queue: whether anything, and how many rows it says were cut for it
abbrev pub loud_by : Event → Bool → Bool
loud_by (events.Begin call) before = false
loud_by (events.Put bucket version key value) before = true
loud_by (events.Removed bucket version key) before = true
loud_by (events.Queued number value) before = true
loud_by (events.Taken number value) before = true
loud_by event before = before

abbrev pub said_by : Event → ℕ → ℕ
said_by (events.Begin call) before = 0
said_by (events.Put bucket version key value) before = if nat_lt 1 version then before + 1 else before
said_by (events.Removed bucket version key) before = if nat_lt 1 version then before + 1 else before
said_by (events.Taken number value) before = before + 1
said_by event before = before

-- a change of a bucket that had no row says that none was cut, one of a bucket that had a row that one was
abbrev pub Says : RowMove → List Event → Type 0
Says (Links bucket slot) told = (n : ℕ) → along said_by told n ≡ n
Says (Replaces bucket slot old) told = (n : ℕ) → along said_by told n ≡ n + 1
Says m told = Unit {0}

-- what a call has come to agrees with what its seat has in hand
pub record Agrees (h : Hand) (busy : Bool) (given : Given) (changed loud : Bool) (cuts : List ℕ) (retires said : ℕ) : Type 0 where
  pub holds : in_hand_of given ≡ new_of h
  pub placed : busy ≡ true → is_placed given ≡ true → changed ≡ true
  pub heard : changed ≡ true → loud ≡ true
  pub cut : cuts ≡ old_of h
  pub counts : retires + length (old_of h) ≡ said

-- a list of passing events, and a change of a bucket
pub passing : {X : Type 0} (next : Event → X → X) → ((event : Event) (x : X) → is_passing event ≡ true → next event x ≡ x) → (told : List Event) (x : X) → all_of is_passing told ≡ true → along next told x ≡ x
passing next q [] x h = refl
passing next q (event ∷ told) x h = ap (along next told) (q event x (first_of (is_passing event) (all_of is_passing told) h)) ∙ passing next q told x (rest_of (is_passing event) (all_of is_passing told) h)

given_passing : (event : Event) (x : Given) → is_passing event ≡ true → given_by event x ≡ x
given_passing (events.Link roots.Tail slot) x h = refl
given_passing (events.Back slot) x h = refl
given_passing event x h = absurd (cc)

changed_passing : (event : Event) (x : Bool) → is_passing event ≡ true → changed_by event x ≡ x
changed_passing (events.Link roots.Tail slot) x h = refl
changed_passing (events.Back slot) x h = refl
changed_passing event x h = absurd (cc)

loud_passing : (event : Event) (x : Bool) → is_passing event ≡ true → loud_by event x ≡ x
loud_passing (events.Link roots.Tail slot) x h = refl
loud_passing (events.Back slot) x h = refl
loud_passing event x h = absurd (cc)

cuts_passing : (event : Event) (x : List ℕ) → is_passing event ≡ true → cuts_by event x ≡ x
cuts_passing (events.Link roots.Tail slot) x h = refl
cuts_passing (events.Back slot) x h = refl
cuts_passing event x h = absurd (cc)

retires_passing : (event : Event) (x : ℕ) → is_passing event ≡ true → retires_by event x ≡ x
retires_passing (events.Link roots.Tail slot) x h = refl
retires_passing (events.Back slot) x h = refl
retires_passing event x h = absurd (cc)

said_passing : (event : Event) (x : ℕ) → is_passing event ≡ true → said_by event x ≡ x
said_passing (events.Link roots.Tail slot) x h = refl
said_passing (events.Back slot) x h = refl
said_passing event x h = absurd (cc)

given_change : (bucket : ℕ) (event : Event) (x : Given) → is_change_of bucket event ≡ true → given_by event x ≡ x
given_change bucket (events.Put other version key value) x h = refl
given_change bucket (events.Removed other version key) x h = refl
given_change bucket event x h = absurd (cc)

loud_change : (bucket : ℕ) (event : Event) (x : Bool) → is_change_of bucket event ≡ true → loud_by event x ≡ true
loud_change bucket (events.Put other version key value) x h = refl
loud_change bucket (events.Removed other version key) x h = refl
loud_change bucket event x h = absurd (cc)

changed_change : (bucket : ℕ) (event : Event) (x : Bool) → is_change_of bucket event ≡ true → changed_by event x ≡ true
changed_change bucket (events.Put other version key value) x h = refl
changed_change bucket (events.Removed other version key) x h = refl
changed_change bucket event x h = absurd (cc)

cuts_change : (bucket : ℕ) (event : Event) (x : List ℕ) → is_change_of bucket event ≡ true → cuts_by event x ≡ x
cuts_change bucket (events.Put other version key value) x h = refl
cuts_change bucket (events.Removed other version key) x h = refl
cuts_change bucket event x h = absurd (cc)

retires_change : (bucket : ℕ) (event : Event) (x : ℕ) → is_change_of bucket event ≡ true → retires_by event x ≡ x
retires_change bucket (events.Put other version key value) x h = refl
retires_change bucket (events.Removed other version key) x h = refl
retires_change bucket event x h = absurd (cc)

-- all of what a call has come to, after these events
abbrev pub AgreesAfter : Hand → Bool → List Event → Given → (changed loud : Bool) → List ℕ → (retires said : ℕ) → Type 0
AgreesAfter h busy told given changed loud cuts retires said =
    Agrees h busy (along given_by told given) (along changed_by told changed) (along loud_by told loud) (along cuts_by told cuts) (along retires_by told retires) (along said_by told said)

at_list : (h : Hand) (busy : Bool) (told other : List Event) (given : Given) (changed loud : Bool) (cuts : List ℕ) (retires said : ℕ) → told ≡ other → AgreesAfter h busy other given changed loud cuts retires said → AgreesAfter h busy told given changed loud cuts retires said
at_list h busy told other given changed loud cuts retires said e a = subst (λ (x : List Event). AgreesAfter h busy x given changed loud cuts retires said) (sym e) a

-- of the list the sum alone
sum_of : (h x : Hand) (retires said : ℕ) → h ≡ x → retires + length (old_of h) ≡ said → retires + length (old_of x) ≡ said
sum_of h x retires said e s = ap (λ (y : Hand). retires + length (old_of y)) (sym e) ∙ s

cut_sum : (retires more said : ℕ) → retires + 0 ≡ said → more ≡ retires → more + 1 ≡ said + 1
cut_sum retires more said h e = omega (h, e, arith)

retired_sum : (retires said : ℕ) → retires + 1 ≡ said → retires + 1 + 0 ≡ said
retired_sum retires said h = omega (h, arith)

took_sum : (retires said : ℕ) → retires + 0 ≡ said → retires + 1 ≡ said + 1
took_sum retires said h = omega (h, arith)

module _ (h : Hand) (busy : Bool) (given : Given) (changed loud : Bool) (cuts : List ℕ) (retires said : ℕ) (a : Agrees h true given changed loud cuts retires said) where
  -- the hand may change, where it is the same row
  same_row : (x y : Hand) → h ≡ x → new_of x ≡ new_of y → old_of x ≡ old_of y → Agrees y busy given changed loud cuts retires said
  same_row x y e n o = record {
    holds = a.holds ∙ ap new_of e ∙ n;
    placed = λ b q. a.placed refl q;
    heard = a.heard;
    cut = a.cut ∙ ap old_of e ∙ o;
    counts = ap (λ (slots : List ℕ). retires + length slots) (sym o) ∙ sum_of h x retires said e a.counts;
  }

  passing_agrees : (told : List Event) → all_of is_passing told ≡ true → AgreesAfter h busy told given changed loud cuts retires said
  passing_agrees told s = record {
    holds = ap in_hand_of (passing given_by given_passing told given s) ∙ a.holds;
    placed = λ b q. passing changed_by changed_passing told changed s ∙ a.placed refl (sym (ap is_placed (passing given_by given_passing told given s)) ∙ q);
    heard = λ q. passing loud_by loud_passing told loud s ∙ a.heard (sym (passing changed_by changed_passing told changed s) ∙ q);
    cut = passing cuts_by cuts_passing told cuts s ∙ a.cut;
    counts = ap (λ (n : ℕ). n + length (old_of h)) (passing retires_by retires_passing told retires s) ∙ a.counts ∙ sym (passing said_by said_passing told said s);
  }

  claims_agrees : (slot birth : ℕ) → h ≡ Empty → AgreesAfter (New slot) busy (events.Give slot birth ∷ []) given changed loud cuts retires said
  claims_agrees slot birth e = record { holds = refl; placed = λ b q. absurd (cc); heard = a.heard; cut = a.cut ∙ ap old_of e; counts = sum_of h Empty retires said e a.counts }

  drops_agrees : (slot : ℕ) → h ≡ Taken slot → busy ≡ false → AgreesAfter Empty busy (events.Unused slot ∷ []) given changed loud cuts retires said
  drops_agrees slot e d = record { holds = refl; placed = λ b q. absurd (cc); heard = a.heard; cut = a.cut ∙ ap old_of e; counts = sum_of h (Taken slot) retires said e a.counts }

  links_agrees : (bucket slot : ℕ) (change : Event) → h ≡ Taken slot → is_change_of bucket change ≡ true → said_by change said ≡ said → AgreesAfter Empty busy (events.Link (roots.Bucket bucket) slot ∷ change ∷ []) given changed loud cuts retires said
  links_agrees bucket slot change e c y = record {
    holds = ap in_hand_of (given_change bucket change Placed c);
    placed = λ b q. changed_change bucket change true c;
    heard = λ q. loud_change bucket change loud c;
    cut = cuts_change bucket change cuts c ∙ a.cut ∙ ap old_of e;
    counts = ap (λ (n : ℕ). n + 0) (retires_change bucket change retires c) ∙ sum_of h (Taken slot) retires said e a.counts ∙ sym y;
  }

  replaces_agrees : (bucket slot old : ℕ) (change : Event) → h ≡ Taken slot → is_change_of bucket change ≡ true → said_by change said ≡ said + 1 → AgreesAfter (Old old) busy (events.Link (roots.Bucket bucket) slot ∷ events.Cut old ∷ change ∷ []) given changed loud cuts retires said
  replaces_agrees bucket slot old change e c y = record {
    holds = ap in_hand_of (given_change bucket change Placed c);
    placed = λ b q. changed_change bucket change true c;
    heard = λ q. loud_change bucket change loud c;
    cut = cuts_change bucket change (old ∷ cuts) c ∙ ap (λ (slots : List ℕ). old ∷ slots) (a.cut ∙ ap old_of e);
    counts = cut_sum retires (retires_by change retires) said (sum_of h (Taken slot) retires said e a.counts) (retires_change bucket change retires c) ∙ sym y;
  }

  appends_agrees : (slot parent number value : ℕ) → h ≡ Taken slot → AgreesAfter Empty busy (events.Link (roots.Next parent) slot ∷ events.Queued number value ∷ []) given changed loud cuts retires said
  appends_agrees slot parent number value e = record {
    holds = refl;
    placed = λ b q. refl;
    heard = λ q. refl;
    cut = a.cut ∙ ap old_of e;
    counts = sum_of h (Taken slot) retires said e a.counts;
  }

  pops_agrees : (slot next number value : ℕ) → h ≡ Empty → AgreesAfter (Old slot) busy (events.Link roots.Head next ∷ events.Cut slot ∷ events.Taken number value ∷ []) given changed loud cuts retires said
  pops_agrees slot next number value e = record {
    holds = a.holds ∙ ap new_of e;
    placed = λ b q. refl;
    heard = λ q. refl;
    cut = ap (λ (slots : List ℕ). slot ∷ slots) (a.cut ∙ ap old_of e);
    counts = took_sum retires said (sum_of h Empty retires said e a.counts);
  }

  lists_agrees : (slot birth retire : ℕ) → h ≡ Dated slot birth retire → AgreesAfter Empty busy (events.Retire slot birth retire ∷ []) given changed loud cuts retires said
  lists_agrees slot birth retire e = record {
    holds = a.holds ∙ ap new_of e;
    placed = λ b q. a.placed refl q;
    heard = a.heard;
    cut = ap (without_one slot) (a.cut ∙ ap old_of e) ∙ gone (slot == slot) (same_number slot);
    counts = retired_sum retires said (sum_of h (Dated slot birth retire) retires said e a.counts);
  } where
    gone : (same : Bool) → same ≡ true → (if same then [] else slot ∷ []) ≡ []
    gone true x = refl
    gone false x = absurd (cc)

-- a move agrees with what it tells
pub agrees_moved : (phase : Phase) (post : Post) (found : ℕ) (m : RowMove) (told : List Event) (h : Hand) (busy : Bool) (given : Given) (changed loud : Bool) (cuts : List ℕ) (retires said : ℕ)
    → Shape phase post found m told → HandFits m h → Says m told → ((slot : ℕ) → m ≡ Drops slot → busy ≡ false) → Agrees h true given changed loud cuts retires said → AgreesAfter (hand_after m h) busy told given changed loud cuts retires said
agrees_moved phase post found Stays told h busy given changed loud cuts retires said s f y d a = passing_agrees h busy given changed loud cuts retires said a told s
agrees_moved phase post found (Claims slot) told h busy given changed loud cuts retires said s f y d a =
    at_list (New slot) busy told _ given changed loud cuts retires said s.is (claims_agrees h busy given changed loud cuts retires said a slot s.birth f)
agrees_moved phase post found (Bears slot birth) told h busy given changed loud cuts retires said s f y d a =
    at_list (Taken slot) busy told [] given changed loud cuts retires said s (same_row h busy given changed loud cuts retires said a (New slot) (Taken slot) f refl refl)
agrees_moved phase post found (Drops slot) told h busy given changed loud cuts retires said s f y d a =
    at_list Empty busy told _ given changed loud cuts retires said s.is (drops_agrees h busy given changed loud cuts retires said a slot f (d slot refl))
agrees_moved phase post found (Links bucket slot) told h busy given changed loud cuts retires said s f y d a =
    let n : along said_by (events.Link (roots.Bucket bucket) slot ∷ s.change ∷ []) said ≡ said = subst (λ (x : List Event). along said_by x said ≡ said) s.is (y said) in
    at_list Empty busy told _ given changed loud cuts retires said s.is (links_agrees h busy given changed loud cuts retires said a bucket slot s.change f s.of n)
agrees_moved phase post found (Replaces bucket slot old) told h busy given changed loud cuts retires said s f y d a =
    let n : along said_by (events.Link (roots.Bucket bucket) slot ∷ events.Cut old ∷ s.change ∷ []) said ≡ said + 1 = subst (λ (x : List Event). along said_by x said ≡ said + 1) s.is (y said) in
    at_list (Old old) busy told _ given changed loud cuts retires said s.is (replaces_agrees h busy given changed loud cuts retires said a bucket slot old s.change f s.of n)
agrees_moved phase post found (Appends slot) told h busy given changed loud cuts retires said s f y d a =
    at_list Empty busy told _ given changed loud cuts retires said s.is (appends_agrees h busy given changed loud cuts retires said a slot s.parent s.number s.value f)
agrees_moved phase post found (Pops slot next) told h busy given changed loud cuts retires said s f y d a =
    at_list (Old slot) busy told _ given changed loud cuts retires said s.is (pops_agrees h busy given changed loud cuts retires said a slot next s.number s.value f)
agrees_moved phase post found (Reads slot birth) told h busy given changed loud cuts retires said s f y d a =
    at_list (Known slot birth) busy told [] given changed loud cuts retires said s (same_row h busy given changed loud cuts retires said a (Old slot) (Known slot birth) f refl refl)
agrees_moved phase post found (Seals slot birth retire) told h busy given changed loud cuts retires said s f y d a =
    at_list (Dated slot birth retire) busy told [] given changed loud cuts retires said s (same_row h busy given changed loud cuts retires said a (Known slot birth) (Dated slot birth retire) f refl refl)
agrees_moved phase post found (Lists slot birth retire) told h busy given changed loud cuts retires said s f y d a =
    at_list Empty busy told _ given changed loud cuts retires said s (lists_agrees h busy given changed loud cuts retires said a slot birth retire f)
agrees_moved phase post found (Returns slot) told h busy given changed loud cuts retires said s f y d a =
    at_list h busy told _ given changed loud cuts retires said s (same_row h busy given changed loud cuts retires said a h h refl refl refl)
agrees_moved phase post found (Adopts from) told h busy given changed loud cuts retires said s f y d a =
    at_list h busy told [] given changed loud cuts retires said s (same_row h busy given changed loud cuts retires said a h h refl refl refl)

-- what a move tells is right
without_placed : (given : Given) → in_hand_of given ≡ None → is_placed given ≡ false → is_without given ≡ true
without_placed Without a b = refl
without_placed (InHand slot) a b = absurd (cc)
without_placed Placed a b = absurd (cc)

is_held : (given : Given) (slot : ℕ) → in_hand_of given ≡ Some slot → is_in_hand slot given ≡ true
is_held Without slot e = absurd (cc)
is_held (InHand other) slot e = let q : other ≡ slot = cc in grind (arith, nat_tests)
is_held Placed slot e = absurd (cc)

passing_right : {X : Type 0} (next : Event → X → X) (right : Event → X → Bool) → ((event : Event) (x : X) → is_passing event ≡ true → right event x ≡ true) → (told : List Event) (x : X) → all_of is_passing told ≡ true → AllRight next right told x
passing_right next right q [] x h = tt
passing_right next right q (event ∷ told) x h =
    (q event x (first_of (is_passing event) (all_of is_passing told) h), passing_right next right q told (next event x) (rest_of (is_passing event) (all_of is_passing told) h))

places_passing : (event : Event) (x : Given) → is_passing event ≡ true → places_right event x ≡ true
places_passing (events.Link roots.Tail slot) x h = refl
places_passing (events.Back slot) x h = refl
places_passing event x h = absurd (cc)

places_change : (bucket : ℕ) (event : Event) (x : Given) → is_change_of bucket event ≡ true → places_right event x ≡ true
places_change bucket (events.Put other version key value) x h = refl
places_change bucket (events.Removed other version key) x h = refl
places_change bucket event x h = absurd (cc)

pub places_moved : (phase : Phase) (post : Post) (found : ℕ) (m : RowMove) (told : List Event) (h : Hand) (given : Given)
    → Shape phase post found m told → HandFits m h → in_hand_of given ≡ new_of h → ((slot : ℕ) → m ≡ Claims slot → is_placed given ≡ false) → AllRight given_by places_right told given
places_moved phase post found Stays told h given s f a w = passing_right given_by places_right places_passing told given s
places_moved phase post found (Claims slot) told h given s f a w = subst (λ (x : List Event). AllRight given_by places_right x given) (sym s.is) (without_placed given (a ∙ ap new_of f) (w slot refl), tt)
places_moved phase post found (Bears slot birth) told h given s f a w = subst (λ (x : List Event). AllRight given_by places_right x given) (sym s) tt
places_moved phase post found (Drops slot) told h given s f a w = subst (λ (x : List Event). AllRight given_by places_right x given) (sym s.is) (is_held given slot (a ∙ ap new_of f), tt)
places_moved phase post found (Links bucket slot) told h given s f a w =
    subst (λ (x : List Event). AllRight given_by places_right x given) (sym s.is) (is_held given slot (a ∙ ap new_of f), (places_change bucket s.change Placed s.of, tt))
places_moved phase post found (Replaces bucket slot old) told h given s f a w =
    subst (λ (x : List Event). AllRight given_by places_right x given) (sym s.is) (is_held given slot (a ∙ ap new_of f), (refl, (places_change bucket s.change Placed s.of, tt)))
places_moved phase post found (Appends slot) told h given s f a w = subst (λ (x : List Event). AllRight given_by places_right x given) (sym s.is) (is_held given slot (a ∙ ap new_of f), (refl, tt))
places_moved phase post found (Pops slot next) told h given s f a w = subst (λ (x : List Event). AllRight given_by places_right x given) (sym s.is) (refl, (refl, (refl, tt)))
places_moved phase post found (Reads slot birth) told h given s f a w = subst (λ (x : List Event). AllRight given_by places_right x given) (sym s) tt
places_moved phase post found (Seals slot birth retire) told h given s f a w = subst (λ (x : List Event). AllRight given_by places_right x given) (sym s) tt
places_moved phase post found (Lists slot birth retire) told h given s f a w = subst (λ (x : List Event). AllRight given_by places_right x given) (sym s) (refl, tt)
places_moved phase post found (Returns slot) told h given s f a w = subst (λ (x : List Event). AllRight given_by places_right x given) (sym s) (refl, tt)
places_moved phase post found (Adopts from) told h given s f a w = subst (λ (x : List Event). AllRight given_by places_right x given) (sym s) tt

retires_passes : (event : Event) (x : List ℕ) → is_passing event ≡ true → retires_right event x ≡ true
retires_passes (events.Link roots.Tail slot) x h = refl
retires_passes (events.Back slot) x h = refl
retires_passes event x h = absurd (cc)

retires_changes : (bucket : ℕ) (event : Event) (x : List ℕ) → is_change_of bucket event ≡ true → retires_right event x ≡ true
retires_changes bucket (events.Put other version key value) x h = refl
retires_changes bucket (events.Removed other version key) x h = refl
retires_changes bucket event x h = absurd (cc)

has_alone : (slot : ℕ) (slots : List ℕ) → slots ≡ slot ∷ [] → is_among slot slots ≡ true
has_alone slot slots e = subst (λ (x : List ℕ). is_among slot x ≡ true) (sym e) (grind (arith, nat_tests))

pub retires_moved : (phase : Phase) (post : Post) (found : ℕ) (m : RowMove) (told : List Event) (h : Hand) (cuts : List ℕ)
    → Shape phase post found m told → HandFits m h → cuts ≡ old_of h → AllRight cuts_by retires_right told cuts
retires_moved phase post found Stays told h cuts s f a = passing_right cuts_by retires_right retires_passes told cuts s
retires_moved phase post found (Claims slot) told h cuts s f a = subst (λ (x : List Event). AllRight cuts_by retires_right x cuts) (sym s.is) (refl, tt)
retires_moved phase post found (Bears slot birth) told h cuts s f a = subst (λ (x : List Event). AllRight cuts_by retires_right x cuts) (sym s) tt
retires_moved phase post found (Drops slot) told h cuts s f a = subst (λ (x : List Event). AllRight cuts_by retires_right x cuts) (sym s.is) (refl, tt)
retires_moved phase post found (Links bucket slot) told h cuts s f a = subst (λ (x : List Event). AllRight cuts_by retires_right x cuts) (sym s.is) (refl, (retires_changes bucket s.change cuts s.of, tt))
retires_moved phase post found (Replaces bucket slot old) told h cuts s f a =
    subst (λ (x : List Event). AllRight cuts_by retires_right x cuts) (sym s.is) (refl, (refl, (retires_changes bucket s.change (old ∷ cuts) s.of, tt)))
retires_moved phase post found (Appends slot) told h cuts s f a = subst (λ (x : List Event). AllRight cuts_by retires_right x cuts) (sym s.is) (refl, (refl, tt))
retires_moved phase post found (Pops slot next) told h cuts s f a = subst (λ (x : List Event). AllRight cuts_by retires_right x cuts) (sym s.is) (refl, (refl, (refl, tt)))
retires_moved phase post found (Reads slot birth) told h cuts s f a = subst (λ (x : List Event). AllRight cuts_by retires_right x cuts) (sym s) tt
retires_moved phase post found (Seals slot birth retire) told h cuts s f a = subst (λ (x : List Event). AllRight cuts_by retires_right x cuts) (sym s) tt
retires_moved phase post found (Lists slot birth retire) told h cuts s f a = subst (λ (x : List Event). AllRight cuts_by retires_right x cuts) (sym s) (has_alone slot cuts (a ∙ ap old_of f), tt)
retires_moved phase post found (Returns slot) told h cuts s f a = subst (λ (x : List Event). AllRight cuts_by retires_right x cuts) (sym s) (refl, tt)
retires_moved phase post found (Adopts from) told h cuts s f a = subst (λ (x : List Event). AllRight cuts_by retires_right x cuts) (sym s) tt
