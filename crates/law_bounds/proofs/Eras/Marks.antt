-- A position at which the clock had not passed an era, and what is known since: each row that was born by then was taken there, but one for
-- each seat at most, which is given it later; and what was on a list there stays on one.
use Rattle.std.proofs.Common.{ℕ, ◌≡◌, ◌≤◌, ◌<◌, ◌⊎◌, inl, inr, Bool, true, false, List, [], ◌∷◌, ◌++◌, Option, Some, None, refl, sym, ap, ◌∙◌, subst, arith}
use Rattle.std.proofs.lemmas.Bool.Decides.{nat_tests}
use Rattle.std.specs.Prelude.{◌==◌, ◌&&◌, ◌||◌, nat_le, nat_lt, if◌then◌else◌}
use Rattle.law_all.proofs.Runs.Kept.{histories_keep}
use Rattle.law_all.proofs.Whole.{histories_are_lawful}
use Rattle.law_all.proofs.inv.Machines.{is_within, within_of}
use Rattle.law_all.proofs.inv.history.AllOf.{all_of}
use Rattle.law_all.proofs.inv.history.Along.{made_snoc, paths_keep}
use Rattle.law_all.proofs.inv.model.Facts.{first_of, le_of_test, no_truth, number_is, rest_of, same_number}
use Rattle.law_all.proofs.laws.records.Entries.{each_of_entries}
use Rattle.law_all.specs.inv.history.History.{Begins, Item, Made, Steps, done_if, first_made, fits, made_of, record_of, world_of}
use Rattle.law_all.specs.inv.history.Record.{Each, Past, begins, tells, tells_of, value_since}
use Rattle.law_all.specs.inv.history.Record.Past.{Then}
use Rattle.law_all.specs.inv.model.World.{told_in}
use Rattle.law_all.specs.inv.model.defs.Entry.{Entry}
use Rattle.law_all.specs.inv.model.defs.declared.event.Event.{Event}
use Rattle.law_all.specs.inv.model.defs.declared.event.Event.TheVariants as events
use Rattle.law_all.specs.inv.model.defs.declared.event.Root.TheVariants as roots
use Rattle.law_all.specs.inv.model.defs.declared.lifetime.Lifetime.{Lifetime}
use Rattle.law_all.specs.inv.model.words.Place.{is_valid}
use Rattle.law_all.specs.inv.model.words.declared.config.Config.{Config}
use Rattle.law_all.specs.inv.model.words.declared.layout.Layout.{Layout}
use Rattle.law_all.specs.inv.rows.Hands.{in_list}
use Rattle.law_all.specs.laws.EraLaw.{birth_ok}
use Rattle.law_all.specs.laws.HistoryRows.{is_without, placing_ok}
use Rattle.law_all.specs.laws.HistoryTable.{is_in_range, ranges_ok}
use Rattle.law_all.specs.laws.Lists.{gained_by, list_of, without}
use Rattle.law_all.specs.laws.StateAt.{Given, birth_of, born_by, clock_of, given_by, given_of, taken_at, taken_by}
use Rattle.law_reasons.proofs.Eras.Current.Positions.{clock_between}
use Rattle.law_bounds.proofs.Eras.Since.{cut_last}

-- the life is on some list
pub record On (s b r : ℕ) (p : Past) : Type 0 where
  pub seat : ℕ
  pub on : in_list (list_of seat p) s b r ≡ true

in_either : (xs ys : List Lifetime) (s b r : ℕ) → (in_list xs s b r ≡ true) ⊎ (in_list ys s b r ≡ true) → in_list (xs ++ ys) s b r ≡ true
in_either [] ys s b r (inl h) = absurd (no_truth h)
in_either [] ys s b r (inr h) = h
in_either (life ∷ xs) ys s b r h = by ((s == life.slot) && ((b == life.birth) && (r == life.retire))) h (in_either xs ys s b r)
  where
    by : (here : Bool) → ((here || in_list xs s b r) ≡ true) ⊎ (in_list ys s b r ≡ true) → ((in_list xs s b r ≡ true) ⊎ (in_list ys s b r ≡ true) → in_list (xs ++ ys) s b r ≡ true) → (here || in_list (xs ++ ys) s b r) ≡ true
    by true h f = refl
    by false h f = f h

still_in : (slot : ℕ) (xs : List Lifetime) (s b r : ℕ) → (s == slot) ≡ false → in_list xs s b r ≡ true → in_list (without slot xs) s b r ≡ true
still_in slot [] s b r n h = h
still_in slot (life ∷ xs) s b r n h = by (life.slot == slot) refl (still_in slot xs s b r n) h
  where
    gone : (a more : Bool) → (s == life.slot) ≡ false → (((s == life.slot) && a) || more) ≡ true → more ≡ true
    gone a more e h = rw e at h

    by : (same : Bool) → (life.slot == slot) ≡ same → (in_list xs s b r ≡ true → in_list (without slot xs) s b r ≡ true) → (((s == life.slot) && ((b == life.birth) && (r == life.retire))) || in_list xs s b r) ≡ true
        → in_list (if same then without slot xs else life ∷ without slot xs) s b r ≡ true
    by true e f h =
        let other : (s == life.slot) ≡ false = grind (arith, nat_tests, e, n) in
        f (gone ((b == life.birth) && (r == life.retire)) (in_list xs s b r) other h)
    by false e f h = keep ((s == life.slot) && ((b == life.birth) && (r == life.retire))) f h
      where
        keep : (mine : Bool) → (in_list xs s b r ≡ true → in_list (without slot xs) s b r ≡ true) → (mine || in_list xs s b r) ≡ true → (mine || in_list (without slot xs) s b r) ≡ true
        keep true f h = refl
        keep false f h = f h

-- the row does not go back with the event
abbrev goes_back : (s : ℕ) → Event → Bool
goes_back s (events.Back slot) = s == slot
goes_back s event = false

own_on : (s b r : ℕ) (event : Event) (other : ℕ → List Lifetime) (list : List Lifetime) → goes_back s event ≡ false → in_list list s b r ≡ true → in_list (gained_by event other list) s b r ≡ true
own_on s b r (events.Retire slot birth retire) other list n h = in_either list (record { slot = slot; birth = birth; retire = retire } ∷ []) s b r (inl h)
own_on s b r (events.Back slot) other list n h = still_in slot list s b r n h
own_on s b r (events.Adopted place count) other list n h = in_either list (other place) s b r (inl h)
own_on s b r event other list n h = h

own_next : (s b r k : ℕ) (p : Past) (event : Event) → (k == k) ≡ true → goes_back s event ≡ false → in_list (list_of k p) s b r ≡ true → On s b r (Then p k event)
own_next s b r k p event e n h = record { seat = k; on = rw e (own_on s b r event (λ (place : ℕ). list_of place p) (list_of k p) n h) }

-- another seat takes the list over, or leaves it as it is
other_next : (s b r k i : ℕ) (p : Past) (event : Event) → (k == i) ≡ false → in_list (list_of k p) s b r ≡ true → On s b r (Then p i event)
other_next s b r k i p (events.Adopted place count) e h = by (k == place) refl
  where
    by : (same : Bool) → (k == place) ≡ same → On s b r (Then p i (events.Adopted place count))
    by true f =
        let is : k ≡ place = number_is k place f in
        let own : (i == i) ≡ true = same_number i in
        record { seat = i; on = rw own (in_either (list_of i p) (list_of place p) s b r (inr (subst (λ (n : ℕ). in_list (list_of n p) s b r ≡ true) is h))) }
    by false f = record { seat = k; on = rw (e, f) h }
other_next s b r k i p event e h = record { seat = k; on = rw e h }

on_next : (s b r i : ℕ) (p : Past) (event : Event) → goes_back s event ≡ false → On s b r p → On s b r (Then p i event)
on_next s b r i p event n o = by (o.seat == i) refl
  where
    by : (same : Bool) → (o.seat == i) ≡ same → On s b r (Then p i event)
    by true e =
        let here : o.seat ≡ i = number_is o.seat i e in
        own_next s b r i p event (same_number i) n (subst (λ (n : ℕ). in_list (list_of n p) s b r ≡ true) here o.on)
    by false e = other_next s b r o.seat i p event e o.on

-- a row that is taken after an event which is none that gives it was taken before, has the same birth, and does not go back
abbrev gives : (s : ℕ) → Event → Bool
gives s (events.Give slot birth) = s == slot
gives s event = false

record Stays (s : ℕ) (event : Event) (taken : Bool) (birth : ℕ) : Type 0 where
  was : taken ≡ true
  born : born_by s event birth ≡ birth
  on : goes_back s event ≡ false

not_gone : (same x : Bool) → (if same then false else x) ≡ true → (x ≡ true) × (same ≡ false)
not_gone true x h = absurd (no_truth h)
not_gone false x h = (h, refl)

stays : (s : ℕ) (event : Event) (taken : Bool) (birth : ℕ) → gives s event ≡ false → taken_by s event taken ≡ true → Stays s event taken birth
stays s (events.Give slot birth) taken before n h = record { was = rw n at h; born = rw n refl; on = refl }
stays s (events.Unused slot) taken before n h = record { was = (not_gone (s == slot) taken h).0; born = refl; on = refl }
stays s (events.Back slot) taken before n h = record { was = (not_gone (s == slot) taken h).0; born = refl; on = (not_gone (s == slot) taken h).1 }
stays s event taken before n h = record { was = h; born = refl; on = refl }

-- what each entry keeps
pub record Laws (c : Config) (p : Past) : Type 0 where
  pub ranges : Each (ranges_ok c) p
  pub births : Each birth_ok p
  pub placing : Each placing_ok p

laws_first : (c : Config) (i : ℕ) (told : List Event) (p : Past) → Laws c (tells_of p i told) → Laws c p
laws_first c i [] p l = l
laws_first c i (event ∷ told) p l = let m = laws_first c i told (Then p i event) l in record { ranges = m.ranges.1; births = m.births.1; placing = m.placing.1 }

-- What was taken at a position, but for the rows given since, stays on its list.
pub record Kept (slots : ℕ) (at p : Past) (s : ℕ) : Type 0 where
  pub taken : taken_at slots s at ≡ true
  pub on : (k b r : ℕ) → in_list (list_of k at) s b r ≡ true → On s b r p

abbrev pub AllKept : (slots hi : ℕ) (at p : Past) (giver : ℕ → Option ℕ) → Type 0
AllKept slots hi at p giver = (s : ℕ) → taken_at slots s p ≡ true → birth_of s p ≤ hi → ((k : ℕ) → giver k ≡ Some s → ⊥) → Kept slots at p s

-- the rows given since, each by the seat to which it was given: in a call that had begun before the clock passed the era
pub record Givers (c : Config) (hi : ℕ) (at p : Past) (giver : ℕ → Option ℕ) : Type 0 where
  pub within : (k s : ℕ) → giver k ≡ Some s → k < c.seats
  pub once : (k s : ℕ) → giver k ≡ Some s → value_since (begins k) clock_of p ≤ hi → is_without (given_of k p) ≡ false
  pub kept : AllKept c.slots hi at p giver

-- the event begins no call while the clock has not passed the era
abbrev Passes : (hi : ℕ) → Past → Event → Type 0
Passes hi p event = is_within event ≡ false → hi < clock_of p

began_other : (k i : ℕ) (p : Past) (event : Event) → (k == i) ≡ false → value_since (begins k) clock_of (Then p i event) ≡ value_since (begins k) clock_of p
began_other k i p (events.Begin call) e = rw e refl
began_other k i p event e = refl

given_other : (k i : ℕ) (p : Past) (event : Event) → (k == i) ≡ false → given_of k (Then p i event) ≡ given_of k p
given_other k i p event e = rw e refl

began_own : (i : ℕ) (p : Past) (event : Event) → is_within event ≡ true → value_since (begins i) clock_of (Then p i event) ≡ value_since (begins i) clock_of p
began_own i p (events.Begin call) w = absurd (no_truth w)
began_own i p event w = refl

given_own : (i : ℕ) (p : Past) (event : Event) → given_of i (Then p i event) ≡ given_by event (given_of i p)
given_own i p event = let e : (i == i) ≡ true = same_number i in rw e refl

still_given : (event : Event) (given : Given) → is_within event ≡ true → is_without given ≡ false → is_without (given_by event given) ≡ false
still_given (events.Begin call) given w h = absurd (no_truth w)
still_given (events.Give slot birth) given w h = refl
still_given (events.Unused slot) given w h = refl
still_given (events.Link root slot) given w h = linked root slot given h
  where
    linked : (root : _) (slot : ℕ) (given : Given) → is_without given ≡ false → is_without (given_by (events.Link root slot) given) ≡ false
    linked (roots.Bucket bucket) slot given h = refl
    linked (roots.Next parent) slot given h = refl
    linked roots.Head slot given h = h
    linked roots.Tail slot given h = h
still_given event given w h = h

-- an event that gives no row born by then leaves the givers
abbrev is_late : (hi : ℕ) → Event → Bool
is_late hi (events.Give slot birth) = nat_le birth hi
is_late hi event = false

once_more : (c : Config) (hi : ℕ) (at p : Past) (giver : ℕ → Option ℕ) (i : ℕ) (event : Event) → Passes hi p event → Givers c hi at p giver → (k s : ℕ) → giver k ≡ Some s → value_since (begins k) clock_of (Then p i event) ≤ hi → is_without (given_of k (Then p i event)) ≡ false
once_more c hi at p giver i event w g k s e low = by (k == i) refl
  where
    own : (inside : Bool) → is_within event ≡ inside → k ≡ i → is_without (given_of i (Then p i event)) ≡ false
    own true inside here =
        let began : value_since (begins i) clock_of (Then p i event) ≡ value_since (begins i) clock_of p = began_own i p event inside in
        let low_own : value_since (begins i) clock_of (Then p i event) ≤ hi = subst (λ (n : ℕ). value_since (begins n) clock_of (Then p i event) ≤ hi) here low in
        let before = g.once i s (ap giver (sym here) ∙ e) (omega (arith, began, low_own)) in
        ap is_without (given_own i p event) ∙ still_given event (given_of i p) inside before
    own false inside here =
        let past = w inside in
        let low_own : value_since (begins i) clock_of (Then p i event) ≤ hi = subst (λ (n : ℕ). value_since (begins n) clock_of (Then p i event) ≤ hi) here low in
        absurd (begun i event inside past low_own)
      where
        begun : (i : ℕ) (event : Event) → is_within event ≡ false → hi < clock_of p → value_since (begins i) clock_of (Then p i event) ≤ hi → ⊥
        begun i (events.Begin call) inside past low =
            let e : (i == i) ≡ true = same_number i in
            let is : clock_of p ≤ hi = rw e at low in
            omega (arith, past, is)
        begun i event inside past low = absurd (cc)

    by : (same : Bool) → (k == i) ≡ same → is_without (given_of k (Then p i event)) ≡ false
    by true f =
        let here : k ≡ i = number_is k i f in
        subst (λ (n : ℕ). is_without (given_of n (Then p i event)) ≡ false) (sym here) (own (is_within event) refl here)
    by false f =
        let began = began_other k i p event f in
        ap is_without (given_other k i p event f) ∙ g.once k s e (omega (arith, began, low))

kept_more : (c : Config) (hi : ℕ) (at p : Past) (giver : ℕ → Option ℕ) (i : ℕ) (event : Event) (s : ℕ) → gives s event ≡ false → AllKept c.slots hi at p giver
    → taken_at c.slots s (Then p i event) ≡ true → birth_of s (Then p i event) ≤ hi → ((k : ℕ) → giver k ≡ Some s → ⊥) → Kept c.slots at (Then p i event) s
kept_more c hi at p giver i event s n f t low none =
    let x : Stays s event (taken_at c.slots s p) (birth_of s p) = stays s event (taken_at c.slots s p) (birth_of s p) n t in
    let born = x.born in
    let g = f s x.was (omega (arith, born, low)) none in
    record { taken = g.taken; on = λ k b r h. on_next s b r i p event x.on (g.on k b r h) }

-- a row that is given with a later birth
late_birth : (c : Config) (hi s i : ℕ) (p : Past) (event : Event) → gives s event ≡ true → is_late hi event ≡ false → birth_of s (Then p i event) ≤ hi → ⊥
late_birth c hi s i p (events.Give slot birth) g n low =
    let born : (if s == slot then birth else birth_of s p) ≡ birth = rw g refl in
    absurd (grind (arith, nat_tests, n, born, low))
late_birth c hi s i p event g n low = no_truth g

kept_quiet : (c : Config) (hi : ℕ) (at p : Past) (giver : ℕ → Option ℕ) (i : ℕ) (event : Event) (s : ℕ) → is_late hi event ≡ false → AllKept c.slots hi at p giver
    → taken_at c.slots s (Then p i event) ≡ true → birth_of s (Then p i event) ≤ hi → ((k : ℕ) → giver k ≡ Some s → ⊥) → Kept c.slots at (Then p i event) s
kept_quiet c hi at p giver i event s q f t low none = by (gives s event) refl
  where
    by : (mine : Bool) → gives s event ≡ mine → Kept c.slots at (Then p i event) s
    by true e = absurd (late_birth c hi s i p event e q low)
    by false e = kept_more c hi at p giver i event s e f t low none

quiet_entry : (c : Config) (hi : ℕ) (at p : Past) (giver : ℕ → Option ℕ) (i : ℕ) (event : Event) → is_late hi event ≡ false → Passes hi p event → Givers c hi at p giver → Givers c hi at (Then p i event) giver
quiet_entry c hi at p giver i event q w g = record {
  within = g.within;
  once = once_more c hi at p giver i event w g;
  kept = λ s t low none. kept_quiet c hi at p giver i event s q g.kept t low none;
}

-- one that gives such a row: no other was given so to the seat
abbrev with_giver : (i slot : ℕ) → (ℕ → Option ℕ) → ℕ → Option ℕ
with_giver i slot giver k = if k == i then Some slot else giver k

none_before : (c : Config) (hi : ℕ) (at p : Past) (giver : ℕ → Option ℕ) (i slot birth s : ℕ) → nat_le birth hi ≡ true → birth_ok p i (events.Give slot birth) ≡ true → placing_ok p i (events.Give slot birth) ≡ true → Givers c hi at p giver → giver i ≡ Some s → ⊥
none_before c hi at p giver i slot birth s l b o g e =
    let from : (nat_le (value_since (begins i) clock_of p) birth && nat_le birth (clock_of p)) ≡ true = sym (clock_between (begins i) birth p) ∙ b in
    let began : value_since (begins i) clock_of p ≤ birth = le_of_test (value_since (begins i) clock_of p) birth (first_of (nat_le (value_since (begins i) clock_of p) birth) (nat_le birth (clock_of p)) from) in
    let low : birth ≤ hi = le_of_test birth hi l in
    let some : is_without (given_of i p) ≡ false = g.once i s e (omega (arith, began, low)) in
    no_truth (sym some ∙ o)

late_entry : (c : Config) (hi : ℕ) (at p : Past) (giver : ℕ → Option ℕ) (i slot birth : ℕ) → nat_le birth hi ≡ true → birth_ok p i (events.Give slot birth) ≡ true → placing_ok p i (events.Give slot birth) ≡ true → i < c.seats
    → Givers c hi at p giver → Givers c hi at (Then p i (events.Give slot birth)) (with_giver i slot giver)
late_entry c hi at p giver i slot birth l b o low g = record {
  within = λ k s e. within_by k s (k == i) refl e;
  once = λ k s e began. once_by k s (k == i) refl e began;
  kept = λ s t born none. kept_by_row s t born none;
}
  where
    event : Event
    event = events.Give slot birth

    within_by : (k s : ℕ) (same : Bool) → (k == i) ≡ same → (if same then Some slot else giver k) ≡ Some s → k < c.seats
    within_by k s true f e = let here : k ≡ i = number_is k i f in omega (arith, here, low)
    within_by k s false f e = g.within k s e

    once_by : (k s : ℕ) (same : Bool) → (k == i) ≡ same → (if same then Some slot else giver k) ≡ Some s → value_since (begins k) clock_of (Then p i event) ≤ hi → is_without (given_of k (Then p i event)) ≡ false
    once_by k s true f e began = let here : k ≡ i = number_is k i f in subst (λ (n : ℕ). is_without (given_of n (Then p i event)) ≡ false) (sym here) (ap is_without (given_own i p event))
    once_by k s false f e began = ap is_without (given_other k i p event f) ∙ g.once k s e began

    other_giver : (k s : ℕ) (same : Bool) → (k == i) ≡ same → ((if same then Some slot else giver k) ≡ Some s → ⊥) → giver k ≡ Some s → ⊥
    other_giver k s true f none e = none_before c hi at p giver i slot birth s l b o g (ap giver (sym (number_is k i f)) ∙ e)
    other_giver k s false f none e = none e

    own_giver : (s : ℕ) → (s == slot) ≡ true → with_giver i slot giver i ≡ Some s
    own_giver s e = let own : (i == i) ≡ true = same_number i in rw own (ap (λ (n : ℕ). Some n) (sym (number_is s slot e)))

    kept_by_row : (s : ℕ) → taken_at c.slots s (Then p i event) ≡ true → birth_of s (Then p i event) ≤ hi → ((k : ℕ) → with_giver i slot giver k ≡ Some s → ⊥) → Kept c.slots at (Then p i event) s
    kept_by_row s t born none = by (s == slot) refl
      where
        by : (mine : Bool) → (s == slot) ≡ mine → Kept c.slots at (Then p i event) s
        by true e = absurd (none i (own_giver s e))
        by false e = kept_more c hi at p giver i event s e g.kept t born (λ k. other_giver k s (k == i) refl (none k))

-- Since a position: the entries, and the rows given.
pub record Marked (c : Config) (hi : ℕ) (at p : Past) : Type 0 where
  pub later : List Entry
  pub cut : p ≡ tells at later
  pub giver : ℕ → Option ℕ
  pub givers : Givers c hi at p giver

marked_by : (c : Config) (hi : ℕ) (at p : Past) (i : ℕ) (event : Event) (giver : ℕ → Option ℕ) → Marked c hi at p → Givers c hi at (Then p i event) giver → Marked c hi at (Then p i event)
marked_by c hi at p i event giver m g = record {
  later = m.later ++ record { seat = i; event = event } ∷ [];
  cut = cut_last p at m.later i event m.cut;
  giver = giver;
  givers = g;
}

entry_marked : (c : Config) (hi : ℕ) (at p : Past) (i : ℕ) (event : Event) → Laws c (Then p i event) → Passes hi p event → Marked c hi at p → Marked c hi at (Then p i event)
entry_marked c hi at p i (events.Give slot birth) l w m = by (nat_le birth hi) refl
  where
    by : (late : Bool) → nat_le birth hi ≡ late → Marked c hi at (Then p i (events.Give slot birth))
    by true e =
        let low : i < c.seats = let t = first_of (nat_lt i c.seats) (is_in_range c (events.Give slot birth)) l.ranges.0 in grind (arith, nat_tests, t) in
        marked_by c hi at p i (events.Give slot birth) (with_giver i slot m.giver) m (late_entry c hi at p m.giver i slot birth e l.births.0 l.placing.0 low m.givers)
    by false e = marked_by c hi at p i (events.Give slot birth) m.giver m (quiet_entry c hi at p m.giver i (events.Give slot birth) e w m.givers)
entry_marked c hi at p i event l w m = marked_by c hi at p i event m.giver m (quiet_entry c hi at p m.giver i event refl w m.givers)

turn_marked : (c : Config) (hi : ℕ) (at : Past) (i : ℕ) (told : List Event) (p : Past) → all_of is_within told ≡ true → Laws c (tells_of p i told) → Marked c hi at p → Marked c hi at (tells_of p i told)
turn_marked c hi at i [] p w l m = m
turn_marked c hi at i (event ∷ told) p w l m =
    let here : is_within event ≡ true = first_of (is_within event) (all_of is_within told) w in
    turn_marked c hi at i told (Then p i event) (rest_of (is_within event) (all_of is_within told) w) l
    (entry_marked c hi at p i event (laws_first c i told (Then p i event) l) (λ f. absurd (no_truth (sym f ∙ here))) m)

-- Along a history.
pub record Mark (layout : Layout) (hi : ℕ) (p : Past) : Type 0 where
  pub path : List Item
  pub clock : clock_of (record_of layout path) ≤ hi
  pub marked : Marked layout.config hi (record_of layout path) p

fresh_mark : (layout : Layout) (hi : ℕ) (path : List Item) → clock_of (record_of layout path) ≤ hi → Mark layout hi (record_of layout path)
fresh_mark layout hi path low = record {
  path = path;
  clock = low;
  marked = record {
    later = [];
    cut = refl;
    giver = λ k. None;
    givers = record {
      within = λ k s e. absurd (cc);
      once = λ k s e began. absurd (cc);
      kept = λ s t born none. record { taken = t; on = λ k b r h. record { seat = k; on = h } };
    };
  };
}

laws_of : (layout : Layout) (items : List Item) → is_valid layout ≡ true → Laws layout.config (record_of layout items)
laws_of layout items d =
    let k = histories_keep layout items d in
    record { ranges = k.ranges; births = each_of_entries birth_ok (record_of layout items) (histories_are_lawful layout items d).laws.eras.births; placing = k.placing }

item_mark : (layout : Layout) (hi : ℕ) (made : Made) (item : Item) (fit : Bool) → Laws layout.config (done_if made item fit).past → hi < clock_of (done_if made item fit).past → Mark layout hi made.past → Mark layout hi (done_if made item fit).past
item_mark layout hi made item false l past m = m
item_mark layout hi made (Begins i call) true l past m = record { path = m.path; clock = m.clock; marked = entry_marked layout.config hi (record_of layout m.path) made.past i (events.Begin call) l (λ f. past) m.marked }
item_mark layout hi made (Steps i) true l past m = record { path = m.path; clock = m.clock; marked = turn_marked layout.config hi (record_of layout m.path) i (told_in made.world i) made.past (within_of made.world i) l m.marked }

pub mark : (layout : Layout) (hi : ℕ) (items : List Item) → is_valid layout ≡ true → 1 ≤ hi → Mark layout hi (record_of layout items)
mark layout hi items d low = paths_keep layout (λ (made : Made). Mark layout hi made.past) step (fresh_mark layout hi [] low) items
  where
    step : (path : List Item) (item : Item) (fit : Bool) → fits (world_of layout path) item ≡ fit → Mark layout hi (record_of layout path) → Mark layout hi (done_if (made_of layout path) item fit).past
    step path item fit f m = by (nat_le (clock_of next.past) hi) refl
      where
        next : Made
        next = done_if (made_of layout path) item fit

        is : made_of layout (path ++ item ∷ []) ≡ next
        is = made_snoc (first_made layout) path item ∙ ap (done_if (made_of layout path) item) f

        by : (low : Bool) → nat_le (clock_of next.past) hi ≡ low → Mark layout hi next.past
        by true e =
            let there : clock_of (record_of layout (path ++ item ∷ [])) ≤ hi = subst (λ (made : Made). clock_of made.past ≤ hi) (sym is) (le_of_test (clock_of next.past) hi e) in
            subst (λ (made : Made). Mark layout hi made.past) is (fresh_mark layout hi (path ++ item ∷ []) there)
        by false e =
            let past : hi < clock_of next.past = grind (arith, nat_tests, e) in
            item_mark layout hi (made_of layout path) item fit (subst (λ (made : Made). Laws layout.config made.past) is (laws_of layout (path ++ item ∷ []) d)) past m
