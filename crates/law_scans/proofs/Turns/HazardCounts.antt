-- Under hazard pointers each row that a protection publishes is another than the one before it; with the numbers of protections
-- (`HazardNumbers.antt`) that is the law of hazards.
use Rattle.std.proofs.Common.{ℕ, ◌≡◌, ◌≤◌, ◌-◌, ◌+◌, Bool, true, false, List, [], ◌∷◌, ◌++◌, Option, Some, None, refl, sym, ap, ◌∙◌, subst, arith}
use Rattle.std.proofs.lemmas.Bool.Decides.{nat_tests}
use Rattle.std.specs.Prelude.{◌==◌, ◌&&◌, ◌||◌, ◌%◌, not, nat_lt, if◌then◌else◌}
use Rattle.law_reuse.specs.laws.words.Place.{is_valid}
use Rattle.law_reuse.specs.laws.words.Schemes.{has_one_interval, is_ibr, publishes_rows}
use Rattle.law_reuse.proofs.inv.model.words.Schemes.{rows_not_interval}
use Rattle.law_reuse.specs.laws.words.declared.layout.Layout.{Layout}
use Rattle.law_reuse.specs.laws.defs.declared.call.Call.{Call}
use Rattle.law_reuse.specs.laws.defs.declared.event.Event.{Event}
use Rattle.law_reuse.specs.laws.defs.declared.event.Event.TheVariants as events
use Rattle.law_reuse.specs.laws.defs.declared.event.Guard.{Guard}
use Rattle.law_reuse.specs.laws.defs.declared.event.Guard.TheVariants.{Helper, Index, Whole}
use Rattle.law_reuse.specs.laws.defs.declared.event.Root.{Root}
use Rattle.law_reuse.specs.laws.defs.declared.event.Root.TheVariants as roots
use Rattle.law_reuse.specs.inv.model.declared.post.Post.{Post}
use Rattle.law_reuse.specs.inv.model.Guards.{guard_at, linked_row}
use Rattle.law_reuse.specs.inv.model.Locals.{Local, busy_in, begun_post}
use Rattle.law_reuse.specs.inv.model.Machine as machine
use Rattle.law_reuse.specs.inv.model.Memory.{bump}
use Rattle.law_reuse.specs.inv.model.Posts.{cleared, counted, publishes_index, stands}
use Rattle.law_reuse.specs.inv.model.Protect.{held_post, told_held, concluded}
use Rattle.law_reuse.specs.inv.model.Rounds.{scheme_of, clear_told, let_index}
use Rattle.law_reuse.specs.inv.model.Steps as steps
use Rattle.law_reuse.specs.inv.model.World.{World, begin, finds, is_busy, offered, step, told_in}
use Rattle.law_reuse.specs.inv.model.Calls.{Task, Why, Opens, FollowsHead, KeepAt, LoadHeld, StoreHeld, Work, Keeping, ScanAt, ReadGuard, GiveBack, Phase, Idle, Runs, Scans, Works}
use Rattle.law_reuse.specs.inv.model.Phases.{Aim, Alone, Follows, ProtectAt, Base, Turn, Outcome, Goes, Ends}
use Rattle.law_reuse.specs.inv.model.Phases.ProtectAt.{ByHazard}
use Rattle.law_reuse.specs.inv.model.Phases.HazardAt.{FirstLink, PublishLink, CheckLink}
use Rattle.law_reuse.specs.inv.model.Phases.Base.{Begin, Protect, Reload, Clear}
use Rattle.law_reuse.proofs.laws.records.defs.Facts.{both, first_of, rest_of, false_not_true, same_number, number_is}
use Rattle.law_reuse.specs.history.History as histories
use Rattle.law_reuse.specs.history.History.{Item, Made}
use Rattle.law_reuse.specs.history.Heard.{heard_of}
use Rattle.law_reuse.specs.Heard.{IsCounted}
use Rattle.law_reuse.specs.laws.records.Record.{Past, Test, Each, tells_of}
use Rattle.law_reuse.specs.laws.records.Record.Past.{Start, Then}
use Rattle.law_reuse.specs.laws.records.Turns as schedule
use Rattle.law_reuse.specs.laws.records.Turns.{record_of}
use Rattle.law_reuse.specs.laws.records.Turns.History.{Starts, Turns}
use Rattle.law_reuse.specs.inv.shapes.Frame.{Passed}
use Rattle.law_reuse.specs.inv.shapes.Seats.{Kind, PhaseFits, protects as is_protecting, kind_of, index_by, root_by, suits}
use Rattle.law_reuse.proofs.shapes.Frame.{seat_stays, begin_stays, begin_begins}
use Rattle.law_reuse.proofs.shapes.Kept.{begun_fits}
use Rattle.law_reuse.specs.inv.Inv.{Inv}
use Rattle.law_reuse.proofs.inv.ends.Rest.Falling.{fit_rows}
use Rattle.law_reuse.proofs.laws.records.Entries.{entries_of_each}
use Rattle.law_reuse.proofs.history.AllOf.{all_of, of_weaker}
use Rattle.law_reuse.proofs.history.MayTell as may
use Rattle.law_reuse.proofs.history.MayTell.{Tells, at_hazards, base_all, held_any, same_row}
use Rattle.law_reuse.proofs.history.Passes.{Closed, First, copied_told, keep_told, scan_told, step_goes, work_told}
use Rattle.law_reuse.proofs.OneStep.Along.{Around, Kept, history_keeps}
use Rattle.law_reuse.proofs.ReadGuards.{reads_are}
use Rattle.law_reuse.proofs.Turns.Counted.{histories_count}
use Rattle.law_reuse.specs.laws.StateAt.{hazard_by, hazard_of, hazards_by, hazards_of, is_index_word, is_row, one_hazard, own_hazard_by, own_hazard_of}
use Rattle.law_reuse.proofs.laws.Along.{index_guard}
use Rattle.law_reuse.specs.laws.StepLaw.{hazards_ok, number_loaded, shows_another}
use Rattle.law_scans.specs.Turns.Records.{HazardsCount}
use Rattle.law_scans.proofs.Turns.Counting.Counting.{Keeps, published, since_of, seat_of, begin_kept, step_kept, first_kept}
use Rattle.law_scans.proofs.Turns.Counting.Fits.{WorkRight}
use Rattle.law_scans.proofs.Turns.Counting.Protects.{Site}
use Rattle.law_scans.proofs.Turns.Counting.Runs.{PhaseRight, Stage, Seat, site_of, stage_of}
use Rattle.law_scans.proofs.Turns.Counting.Told.{is_dull, all_dull, clear_dull, cleared_dull, hide_dull, quiet_dull}
use Rattle.law_scans.proofs.Turns.Withdrawals.Leaving.{is_new, Leads, Left, stepped_leads, first_new}
use Rattle.law_scans.proofs.Turns.HazardNumbers.{number_ok, step_numbers}

-- each row is another than the one before it
-- the rows that a turn tells, by what its seat told last of each index word
abbrev one_another : (seat : ℕ) → (ℕ → Option ℕ) → Event → Bool
one_another i o (events.Hazard (Index k j) (Some slot)) = k == i && not (is_row slot (o j))
one_another i o event = true

abbrev another_ok : Test
another_ok p i event = one_another i (λ j. own_hazard_of i j p) event

abbrev others : (seat : ℕ) → (ℕ → Option ℕ) → List Event → Bool
others i o [] = true
others i o (event ∷ told) = one_another i o event && others i (λ j. own_hazard_by i j event (o j)) told

abbrev hazard_along : (seat index : ℕ) → List Event → Option ℕ → Option ℕ
hazard_along i j [] o = o
hazard_along i j (event ∷ told) o = hazard_along i j told (own_hazard_by i j event o)

hazard_both : (i j : ℕ) (xs ys : List Event) (o : Option ℕ) → hazard_along i j (xs ++ ys) o ≡ hazard_along i j ys (hazard_along i j xs o)
hazard_both i j [] ys o = refl
hazard_both i j (x ∷ xs) ys o = hazard_both i j xs ys (own_hazard_by i j x o)

own_same : (i j : ℕ) (p : Past) (event : Event) → own_hazard_of i j (Then p i event) ≡ own_hazard_by i j event (own_hazard_of i j p)
own_same i j p event = rw (same_number i) refl

hazard_tells : (i j : ℕ) (told : List Event) (p : Past) → own_hazard_of i j (tells_of p i told) ≡ hazard_along i j told (own_hazard_of i j p)
hazard_tells i j [] p = refl
hazard_tells i j (event ∷ told) p = hazard_tells i j told (Then p i event) ∙ ap (hazard_along i j told) (own_same i j p event)

hazard_stays : (k i j : ℕ) (told : List Event) (p : Past) → (k == i) ≡ false → own_hazard_of k j (tells_of p i told) ≡ own_hazard_of k j p
hazard_stays k i j [] p e = refl
hazard_stays k i j (event ∷ told) p e = hazard_stays k i j told (Then p i event) e ∙ rw e refl

one_shows : (i : ℕ) (p : Past) (event : Event) → one_another i (λ j. own_hazard_of i j p) event ≡ true → shows_another p event ≡ true
one_shows i p (events.Hazard (Index k j) (Some slot)) h =
    let e : k ≡ i = number_is k i (first_of (k == i) (not (is_row slot (own_hazard_of i j p))) h) in
    subst (λ (n : ℕ). not (is_row slot (own_hazard_of n j p)) ≡ true) (sym e) (rest_of (k == i) (not (is_row slot (own_hazard_of i j p))) h)
one_shows i p (events.Hazard (Index k j) None) h = refl
one_shows i p (events.Hazard (Helper k) slot) h = refl
one_shows i p (events.Hazard (Whole k) slot) h = refl
one_shows i p event h = refl

one_like : (i : ℕ) (x y : ℕ → Option ℕ) (event : Event) → ((j : ℕ) → y j ≡ x j) → one_another i x event ≡ true → one_another i y event ≡ true
one_like i x y (events.Hazard (Index k j) (Some slot)) p h = rw (p j) h
one_like i x y (events.Hazard (Index k j) None) p h = refl
one_like i x y (events.Hazard (Helper k) slot) p h = refl
one_like i x y (events.Hazard (Whole k) slot) p h = refl
one_like i x y event p h = refl

others_like : (i : ℕ) (x y : ℕ → Option ℕ) (told : List Event) → ((j : ℕ) → y j ≡ x j) → others i x told ≡ true → others i y told ≡ true
others_like i x y [] p h = refl
others_like i x y (event ∷ told) p h =
    both (one_another i y event) (others i (λ j. own_hazard_by i j event (y j)) told)
    (one_like i x y event p (first_of (one_another i x event) (others i (λ j. own_hazard_by i j event (x j)) told) h))
    (others_like i (λ j. own_hazard_by i j event (x j)) (λ j. own_hazard_by i j event (y j)) told (λ j. ap (own_hazard_by i j event) (p j)) (rest_of (one_another i x event) (others i (λ j. own_hazard_by i j event (x j)) told) h))

others_each : (i : ℕ) (told : List Event) (p : Past) → others i (λ j. own_hazard_of i j p) told ≡ true → Each another_ok p → Each another_ok (tells_of p i told)
others_each i [] p h g = g
others_each i (event ∷ told) p h g =
    let o : ℕ → Option ℕ = λ j. own_hazard_of i j p in
    others_each i told (Then p i event)
    (others_like i (λ j. own_hazard_by i j event (o j)) (λ j. own_hazard_of i j (Then p i event)) told (λ j. own_same i j p event) (rest_of (one_another i o event) (others i (λ j. own_hazard_by i j event (o j)) told) h))
    (first_of (one_another i o event) (others i (λ j. own_hazard_by i j event (o j)) told) h, g)

-- an event that tells no row
abbrev is_bare : Event → Bool
is_bare (events.Hazard guard (Some slot)) = false
is_bare event = true

bare_one : (i : ℕ) (o : ℕ → Option ℕ) (event : Event) → is_bare event ≡ true → one_another i o event ≡ true
bare_one i o (events.Hazard guard (Some slot)) h = absurd (cc)
bare_one i o (events.Hazard (Index k j) None) h = refl
bare_one i o (events.Hazard (Helper k) None) h = refl
bare_one i o (events.Hazard (Whole k) None) h = refl
bare_one i o event h = refl

bare_others : (i : ℕ) (o : ℕ → Option ℕ) (told : List Event) → all_of is_bare told ≡ true → others i o told ≡ true
bare_others i o [] h = refl
bare_others i o (event ∷ told) h =
    both (one_another i o event) (others i (λ j. own_hazard_by i j event (o j)) told) (bare_one i o event (first_of (is_bare event) (all_of is_bare told) h)) (bare_others i (λ j. own_hazard_by i j event (o j)) told (rest_of (is_bare event) (all_of is_bare told) h))

none_if : (b : Bool) (o : Option ℕ) → o ≡ None → (if b then None else o) ≡ None
none_if true o h = refl
none_if false o h = h

bare_none_one : (i j : ℕ) (event : Event) → is_bare event ≡ true → own_hazard_by i j event None ≡ None
bare_none_one i j (events.Hazard guard (Some slot)) h = absurd (cc)
bare_none_one i j (events.Hazard guard None) h = none_if (is_index_word i j guard) None refl
bare_none_one i j (events.Held index slot steps) h = none_if (index == j) None refl
bare_none_one i j (events.Null index steps) h = none_if (index == j) None refl
bare_none_one i j (events.Copied from index slot) h = none_if (index == j) None refl
bare_none_one i j event h = refl

-- where nothing was told last nothing is
bare_none : (i j : ℕ) (told : List Event) (o : Option ℕ) → all_of is_bare told ≡ true → o ≡ None → hazard_along i j told o ≡ None
bare_none i j [] o h z = z
bare_none i j (event ∷ told) o h z = bare_none i j told (own_hazard_by i j event o) (rest_of (is_bare event) (all_of is_bare told) h) (ap (own_hazard_by i j event) z ∙ bare_none_one i j event (first_of (is_bare event) (all_of is_bare told) h))

others_along : (i : ℕ) (o : ℕ → Option ℕ) (xs ys : List Event) → others i o xs ≡ true → ((x : ℕ → Option ℕ) → others i x ys ≡ true) → others i o (xs ++ ys) ≡ true
others_along i o [] ys h k = k o
others_along i o (e ∷ xs) ys h k =
    both (one_another i o e) (others i (λ j. own_hazard_by i j e (o j)) (xs ++ ys)) (first_of (one_another i o e) (others i (λ j. own_hazard_by i j e (o j)) xs) h)
    (others_along i (λ j. own_hazard_by i j e (o j)) xs ys (rest_of (one_another i o e) (others i (λ j. own_hazard_by i j e (o j)) xs) h) k)

dull_bare : (event : Event) → is_dull event ≡ true → is_bare event ≡ true
dull_bare (events.Hazard guard slot) h = absurd (cc)
dull_bare event h = refl

dull_hazard_one : (i j : ℕ) (event : Event) (o : Option ℕ) → is_dull event ≡ true → own_hazard_by i j event o ≡ o
dull_hazard_one i j (events.Hazard guard slot) o h = absurd (cc)
dull_hazard_one i j (events.Held index slot steps) o h = absurd (cc)
dull_hazard_one i j (events.Null index steps) o h = absurd (cc)
dull_hazard_one i j (events.Copied from index slot) o h = absurd (cc)
dull_hazard_one i j event o h = refl

dull_hazard : (i j : ℕ) (told : List Event) (o : Option ℕ) → all_dull told ≡ true → hazard_along i j told o ≡ o
dull_hazard i j [] o h = refl
dull_hazard i j (event ∷ told) o h = ap (hazard_along i j told) (dull_hazard_one i j event o (first_of (is_dull event) (all_dull told) h)) ∙ dull_hazard i j told o (rest_of (is_dull event) (all_dull told) h)

others_dull : (i : ℕ) (told : List Event) → all_dull told ≡ true → (x : ℕ → Option ℕ) → others i x told ≡ true
others_dull i told h x = bare_others i x told (of_weaker is_dull is_bare told dull_bare h)

others_closed : (i : ℕ) (o : ℕ → Option ℕ) → Closed (λ post told. others i o told ≡ true)
others_closed i o = record {
  calm = λ post told more q h. others_along i o told more h (others_dull i more (quiet_dull more q));
  clears = λ post told index h. others_along i o told (clear_told (scheme_of post) post index) h (others_dull i (clear_told (scheme_of post) post index) (clear_dull (scheme_of post) post index));
}

along_closed : (i j : ℕ) (o v : Option ℕ) → Closed (λ post told. hazard_along i j told o ≡ v)
along_closed i j o v = record {
  calm = λ post told more q h. hazard_both i j told more o ∙ dull_hazard i j more (hazard_along i j told o) (quiet_dull more q) ∙ h;
  clears = λ post told index h. hazard_both i j told (clear_told (scheme_of post) post index) o ∙ dull_hazard i j (clear_told (scheme_of post) post index) (hazard_along i j told o) (clear_dull (scheme_of post) post index) ∙ h;
}

-- the steps that tell a row
abbrev tells_row : Base → Bool
tells_row (Protect aim index root made at) = at_hazards at
tells_row base = false

one_bare : (base : Base) (post : Post) (found : ℕ) (event : Event) → tells_row base ≡ false → Tells base post found event → is_bare event ≡ true
one_bare (Protect aim own root made at) post found (events.Hazard (Index seat index) (Some slot)) e t =
    absurd (false_not_true (at_hazards at) e (first_of (at_hazards at) (index == own) (first_of (at_hazards at && index == own) (seat == post.seat && same_row (Some slot) (may.at_row at)) t)))
one_bare (Clear true own) post found (events.Hazard (Index seat index) (Some slot)) e t =
    absurd (let h : (seat == post.seat && false) ≡ true = rest_of (index == own) (seat == post.seat && false) t in let q : false ≡ true = rest_of (seat == post.seat) false h in cc)
one_bare (Clear false own) post found (events.Hazard (Index seat index) (Some slot)) e t = absurd (cc)
one_bare base post found (events.Hazard (Index seat index) (Some slot)) e t = absurd (cc)
one_bare base post found (events.Hazard (Helper seat) (Some slot)) e t = absurd (cc)
one_bare base post found (events.Hazard (Whole seat) (Some slot)) e t = absurd (cc)
one_bare base post found (events.Hazard guard None) e t = refl
one_bare base post found event e t = refl

base_bare : (base : Base) (post : Post) (found : ℕ) → tells_row base ≡ false → all_of is_bare (machine.after base post found).told ≡ true
base_bare base post found e = base_all is_bare base post found (λ event. one_bare base post found event e)

-- what is told last where a protection is under way
abbrev At : (ℕ → Option ℕ) → Phase → Type 0
At o (Runs why (Protect aim index root made (ByHazard (PublishLink link)))) = ((link == 0) ≡ false) × (is_row (link - 1) (o index) ≡ false)
At o (Runs why (Protect aim index root made (ByHazard (CheckLink link)))) = ((link == 0) ≡ false) × (o index ≡ Some (link - 1))
At o phase = Unit {0}

abbrev protecting : Phase → ℕ → Bool
protecting (Runs why (Protect aim index root made at)) j = index == j
protecting phase j = false

record Latest (o : ℕ → Option ℕ) (phase : Phase) : Type 0 where
  at : At o phase
  free : (j : ℕ) → nat_lt j 2 ≡ false → protecting phase j ≡ false → o j ≡ None

-- a call on what is kept
number_others : (i index number : ℕ) (x : ℕ → Option ℕ) (post : Post) (none : Bool) → post.seat ≡ i → x index ≡ None → others i x (events.Hazard (Index post.seat index) (if none then None else Some (number - 1)) ∷ []) ≡ true
number_others i index number x post true s n = refl
number_others i index number x post false s n = let e : (post.seat == i) ≡ true = grind (arith, nat_tests) in rw e (rw n refl)

shown_others : (i index number : ℕ) (x : ℕ → Option ℕ) (post : Post) (rows : Bool) → post.seat ≡ i → x index ≡ None → others i x (publishes_index rows post index number) ≡ true
shown_others i index number x post false s n = refl
shown_others i index number x post true s n = number_others i index number x post (number == 0) s n

clear_others : (i index number : ℕ) (o : ℕ → Option ℕ) (post : Post) (rows : Bool) (stood : Option ℕ) → post.seat ≡ i → o index ≡ None → others i o (cleared index stood ++ publishes_index rows post index number) ≡ true
clear_others i index number o post rows None s z = shown_others i index number o post rows s z
clear_others i index number o post rows (Some row) s z = shown_others i index number (λ j. own_hazard_by i j (events.Clear index row) (o j)) post rows s z

copy_others : (i from index number : ℕ) (o : ℕ → Option ℕ) (post : Post) (rows : Bool) (held : Option ℕ) → post.seat ≡ i → o index ≡ None → others i o (copied_told from index post (publishes_index rows post index number) held) ≡ true
copy_others i from index number o post rows None s z = refl
copy_others i from index number o post rows (Some slot) s z = others_along i o (cleared index (stands post index) ++ publishes_index rows post index number) (events.Copied from index slot ∷ []) (clear_others i index number o post rows (stands post index) s z) (λ x. refl)

plain_others : (i from index : ℕ) (o : ℕ → Option ℕ) (post : Post) (held : Option ℕ) → others i o (copied_told from index post [] held) ≡ true
plain_others i from index o post None = refl
plain_others i from index o post (Some slot) =
    others_along i o (cleared index (stands post index) ++ []) (events.Copied from index slot ∷ []) (others_along i o (cleared index (stands post index)) [] (others_dull i (cleared index (stands post index)) (cleared_dull index (stands post index)) o) (λ x. refl)) (λ x. refl)

copied_zero : (i j from index : ℕ) (post : Post) (reserved : List Event) (held o : Option ℕ) → ((index == j) ≡ false → hazard_along i j reserved o ≡ o) → o ≡ None → hazard_along i j (copied_told from index post reserved held) o ≡ None
copied_zero i j from index post reserved None o r z = z
copied_zero i j from index post reserved (Some slot) o r z = hazard_both i j (cleared index (stands post index) ++ reserved) (events.Copied from index slot ∷ []) o ∙ by (index == j) refl
  where
    by : (own : Bool) → (index == j) ≡ own → (if own then None else hazard_along i j (cleared index (stands post index) ++ reserved) o) ≡ None
    by true e = refl
    by false e =
        hazard_both i j (cleared index (stands post index)) reserved o
        ∙ ap (hazard_along i j reserved) (dull_hazard i j (cleared index (stands post index)) o (cleared_dull index (stands post index)))
        ∙ r e
        ∙ z

other_word : (i j seat index : ℕ) (slot o : Option ℕ) → (index == j) ≡ false → own_hazard_by i j (events.Hazard (Index seat index) slot) o ≡ o
other_word i j seat index slot o e = by (seat == i)
  where
    by : (own : Bool) → (if own && index == j then slot else o) ≡ o
    by true = rw e refl
    by false = refl

own_word : (i seat index : ℕ) (slot o : Option ℕ) → seat ≡ i → own_hazard_by i index (events.Hazard (Index seat index) slot) o ≡ slot
own_word i seat index slot o s = let e : (seat == i) ≡ true = grind (arith, nat_tests) in rw (e, same_number index) refl

keep_others : (i : ℕ) (o : ℕ → Option ℕ) (at : KeepAt) (post : Post) → post.seat ≡ i → WorkRight (Keeping at) → ((j : ℕ) → nat_lt j 2 ≡ false → o j ≡ None) → others i o (keep_told at post) ≡ true
keep_others i o (KeepAt.Loosens let_go) post s w f = others_dull i (keep_told (KeepAt.Loosens let_go) post) (cleared_dull (let_index let_go) (stands post (let_index let_go))) o
keep_others i o (LoadHeld from index) post s w f = by (has_one_interval (scheme_of post))
  where
    by : (one : Bool) → others i o (if one then copied_told from index post [] (stands post from) else []) ≡ true
    by true = plain_others i from index o post (stands post from)
    by false = refl
keep_others i o (StoreHeld from index number) post s w f =
    let low : 2 ≤ index = w.0 in
    copy_others i from index number o post (publishes_rows (scheme_of post)) (stands post from) s (f index (grind (arith, nat_tests)))
keep_others i o KeepAt.HideSpan post s w f = others_dull i (keep_told KeepAt.HideSpan post) (hide_dull post) o
keep_others i o (KeepAt.Looks index key at) post s w f = refl
keep_others i o (KeepAt.Misses index) post s w f = refl
keep_others i o KeepAt.MarkLeft post s w f = refl
keep_others i o (KeepAt.TakeList place) post s w f = refl
keep_others i o (KeepAt.MarkTaken place count) post s w f = refl

keep_none : (i j : ℕ) (at : KeepAt) (post : Post) (o : Option ℕ) → o ≡ None → hazard_along i j (keep_told at post) o ≡ None
keep_none i j (KeepAt.Loosens let_go) post o z = dull_hazard i j (keep_told (KeepAt.Loosens let_go) post) o (cleared_dull (let_index let_go) (stands post (let_index let_go))) ∙ z
keep_none i j (LoadHeld from index) post o z = by (has_one_interval (scheme_of post))
  where
    by : (one : Bool) → hazard_along i j (if one then copied_told from index post [] (stands post from) else []) o ≡ None
    by true = copied_zero i j from index post [] (stands post from) o (λ e. refl) z
    by false = z
keep_none i j (StoreHeld from index number) post o z = copied_zero i j from index post (publishes_index (publishes_rows (scheme_of post)) post index number) (stands post from) o (λ e. by (publishes_rows (scheme_of post)) e) z
  where
    by : (rows : Bool) → (index == j) ≡ false → hazard_along i j (publishes_index rows post index number) o ≡ o
    by false e = refl
    by true e = other_word i j post.seat index (linked_row number) o e
keep_none i j KeepAt.HideSpan post o z = dull_hazard i j (keep_told KeepAt.HideSpan post) o (hide_dull post) ∙ z
keep_none i j (KeepAt.Looks index key at) post o z = z
keep_none i j (KeepAt.Misses index) post o z = z
keep_none i j KeepAt.MarkLeft post o z = z
keep_none i j (KeepAt.TakeList place) post o z = z
keep_none i j (KeepAt.MarkTaken place count) post o z = z

work_others : (i : ℕ) (o : ℕ → Option ℕ) (work : Work) (post : Post) → post.seat ≡ i → WorkRight work → ((j : ℕ) → nat_lt j 2 ≡ false → o j ≡ None) → others i o (work_told work post) ≡ true
work_others i o (Keeping at) post s w f = keep_others i o at post s w f
work_others i o work post s w f = refl

work_none : (i j : ℕ) (work : Work) (post : Post) (o : Option ℕ) → o ≡ None → hazard_along i j (work_told work post) o ≡ None
work_none i j (Keeping at) post o z = keep_none i j at post o z
work_none i j work post o z = z

run_others : (i : ℕ) (o : ℕ → Option ℕ) (why : Why) (base : Base) (post : Post) (found : ℕ) → post.seat ≡ i → At o (Runs why base) → others i o (machine.after base post found).told ≡ true
run_others i o why (Protect aim index root made (ByHazard (PublishLink link))) post found s a = rw a.0 (let e : (post.seat == i) ≡ true = grind (arith, nat_tests) in rw (e, a.1) refl)
run_others i o why (Protect aim index root made (ByHazard FirstLink)) post found s a = bare_others i o (machine.after (Protect aim index root made (ByHazard FirstLink)) post found).told (base_bare (Protect aim index root made (ByHazard FirstLink)) post found refl)
run_others i o why (Protect aim index root made (ByHazard (CheckLink link))) post found s a = bare_others i o (machine.after (Protect aim index root made (ByHazard (CheckLink link))) post found).told (base_bare (Protect aim index root made (ByHazard (CheckLink link))) post found refl)
run_others i o why (Protect aim index root made at) post found s a = bare_others i o (machine.after (Protect aim index root made at) post found).told (base_bare (Protect aim index root made at) post found refl)
run_others i o why base post found s a = bare_others i o (machine.after base post found).told (base_bare base post found refl)

phase_others : (i : ℕ) (o : ℕ → Option ℕ) (phase : Phase) (post : Post) (found : ℕ) → post.seat ≡ i → PhaseRight phase → Latest o phase → First (λ p told. others i o told ≡ true) phase post found
phase_others i o Idle post found s w l = refl
phase_others i o (Runs why base) post found s w l = run_others i o why base post found s l.at
phase_others i o (Scans later (ReadGuard number)) post found s w l = reads_are (λ event. others i o (event ∷ []) ≡ true) (publishes_rows post.layout.config.scheme) (guard_at post.layout.config number) found (λ span. refl) (λ slot. refl)
phase_others i o (Scans later (GiveBack place slot)) post found s w l = refl
phase_others i o (Works work) post found s w l = work_others i o work post s w (λ j low. l.free j low refl)

-- what a turn leaves
abbrev Next : (ℕ → Option ℕ) → Why → Outcome → Type 0
Next o why (Goes base) = Latest o (Runs why base)
Next o why (Ends ending) = (j : ℕ) → nat_lt j 2 ≡ false → o j ≡ None

abbrev MadeLatest : (ℕ → Option ℕ) → (seat : ℕ) → Why → Turn → Type 0
MadeLatest o i why t = Next (λ j. hazard_along i j t.told (o j)) why t.outcome

made_if : (o : ℕ → Option ℕ) (i : ℕ) (why : Why) (c : Bool) (t v : Turn) → (c ≡ true → MadeLatest o i why t) → (c ≡ false → MadeLatest o i why v) → MadeLatest o i why (if c then t else v)
made_if o i why true t v a b = a refl
made_if o i why false t v a b = b refl

conclude_latest : (o : ℕ → Option ℕ) (i : ℕ) (why : Why) (aim : Aim) (index : ℕ) (root : Root) (n link era : ℕ) (post : Post) (told : List Event) → ((j : ℕ) → nat_lt j 2 ≡ false → hazard_along i j told (o j) ≡ None) → MadeLatest o i why (concluded aim index root n link era post told)
conclude_latest o i why Alone index root n link era post told f = f
conclude_latest o i why Follows index root n link era post told f = made_if o i why (link == 0) _ _ (λ e. f) (λ e. record { at = tt; free = λ j low p. f j low })

held_bare : (index : ℕ) (root : Root) (link n : ℕ) → all_of is_bare (told_held index root link n) ≡ true
held_bare index root link n = held_any (λ told. all_of is_bare told ≡ true) index root link n refl refl (λ slot. refl)

bucket_none : (i j index bucket link n : ℕ) (o : Option ℕ) → (index == j) ≡ true → hazard_along i j (told_held index (roots.Bucket bucket) link n) o ≡ None
bucket_none i j index bucket link n o e = by (link == 0)
  where
    by : (none : Bool) → hazard_along i j (if none then events.Null index n ∷ [] else events.Held index (link - 1) n ∷ []) o ≡ None
    by true = rw e refl
    by false = rw e refl

ends_none : (i j buckets : ℕ) (why : Why) (index : ℕ) (root : Root) (link n : ℕ) (o : Option ℕ) → is_protecting (kind_of why) ≡ true → index ≡ index_by why → root ≡ root_by buckets why → nat_lt j 2 ≡ false → (index == j) ≡ true → hazard_along i j (told_held index root link n) o ≡ None
ends_none i j buckets (Opens (Task.Holds key)) index root link n o p q r low e = rw r (bucket_none i j index (key % buckets) link n o e)
ends_none i j buckets (Opens (Task.Gets key)) index root link n o p q r low e = absurd (let h : (0 == j) ≡ true = rw q at e in grind (arith, nat_tests))
ends_none i j buckets (Opens (Task.Changes kept)) index root link n o p q r low e = absurd (let h : (0 == j) ≡ true = rw q at e in grind (arith, nat_tests))
ends_none i j buckets (Opens (Task.Enqueues kept)) index root link n o p q r low e = absurd (let h : (0 == j) ≡ true = rw q at e in grind (arith, nat_tests))
ends_none i j buckets (Opens Task.Dequeues) index root link n o p q r low e = absurd (let h : (0 == j) ≡ true = rw q at e in grind (arith, nat_tests))
ends_none i j buckets (FollowsHead head tail) index root link n o p q r low e = absurd (let h : (1 == j) ≡ true = rw q at e in grind (arith, nat_tests))
ends_none i j buckets why index root link n o p q r low e = absurd (cc)

over_none : (i j buckets : ℕ) (why : Why) (index : ℕ) (root : Root) (link n : ℕ) (o : Option ℕ) → is_protecting (kind_of why) ≡ true → index ≡ index_by why → root ≡ root_by buckets why → nat_lt j 2 ≡ false → ((index == j) ≡ false → o ≡ None) → hazard_along i j (told_held index root link n) o ≡ None
over_none i j buckets why index root link n o p q r low f = by (index == j) refl
  where
    by : (own : Bool) → (index == j) ≡ own → hazard_along i j (told_held index root link n) o ≡ None
    by true e = ends_none i j buckets why index root link n o p q r low e
    by false e = bare_none i j (told_held index root link n) o (held_bare index root link n) (f e)

apart_row : (found link : ℕ) (last : Option ℕ) → (link == 0) ≡ false → last ≡ Some (link - 1) → (found == link || found == 0) ≡ false → is_row (found - 1) last ≡ false
apart_row found link last n e h = rw e (grind (arith, nat_tests))

not_null : (a b : Bool) → (a || b) ≡ false → b ≡ false
not_null true b h = absurd (cc)
not_null false b h = h

protect_latest : (x u : ℕ → ℕ) (o : ℕ → Option ℕ) (i buckets : ℕ) (why : Why) (aim : Aim) (index : ℕ) (root : Root) (steps n count : ℕ) (at : ProtectAt) (post : Post) (found : ℕ) → publishes_rows (scheme_of post) ≡ true → post.seat ≡ i → ((j : ℕ) → x j ≡ 0 → o j ≡ None) → Latest o (Runs why (Protect aim index root steps at)) → Site x u buckets why aim index root steps n count at post → MadeLatest o i why (machine.protect_turn aim index root n at post found)
protect_latest x u o i buckets why aim index root steps n count (ByHazard FirstLink) post found q s z l t =
    made_if o i why (found == 0) (concluded aim index root n found 0 (held_post post index root found) (told_held index root found n)) _
    (λ e. conclude_latest o i why aim index root n found 0 (held_post post index root found) (told_held index root found n) (λ j low. over_none i j buckets why index root found n (o j) t.protects t.place t.of low (λ a. l.free j low a)))
    (λ e. let v : o index ≡ None = z index (number_is (x index) 0 (first_of (x index == 0) (steps == 0) t.paced)) in record { at = (e, rw v refl); free = λ j low p. l.free j low p })
protect_latest x u o i buckets why aim index root steps n count (ByHazard (PublishLink link)) post found q s z l t =
    let a : At o (Runs why (Protect aim index root steps (ByHazard (PublishLink link)))) = l.at in
    record {
      at = (a.0, own_word i post.seat index (linked_row link) (o index) s ∙ rw a.0 refl);
      free = λ j low p. other_word i j post.seat index (linked_row link) (o j) p ∙ l.free j low p;
    }
protect_latest x u o i buckets why aim index root steps n count (ByHazard (CheckLink link)) post found q s z l t =
    let a : At o (Runs why (Protect aim index root steps (ByHazard (CheckLink link)))) = l.at in
    made_if o i why (found == link || found == 0) (concluded aim index root n found 0 (held_post post index root found) (told_held index root found n)) _
    (λ e. conclude_latest o i why aim index root n found 0 (held_post post index root found) (told_held index root found n) (λ j low. over_none i j buckets why index root found n (o j) t.protects t.place t.of low (λ b. l.free j low b)))
    (λ e. record { at = (not_null (found == link) (found == 0) e, apart_row found link (o index) a.0 a.1 e); free = λ j low p. l.free j low p })
protect_latest x u o i buckets why aim index root steps n count at post found q s z l t = absurd (false_not_true (publishes_rows (scheme_of post)) (fit_rows (scheme_of post) post.layout.config.tries at t.fits) q)

-- a machine other than a protection
at_other : (o : ℕ → Option ℕ) (why : Why) (base : Base) → is_protecting (kind_of why) ≡ false → suits base (kind_of why) ≡ true → At o (Runs why base)
at_other o why (Protect aim index root made at) p h = absurd (false_not_true (is_protecting (kind_of why)) p h)
at_other o why base p h = tt

rest_latest : (o : ℕ → Option ℕ) (layout : Layout) (why : Why) (post : Post) (outcome : Outcome) → is_protecting (kind_of why) ≡ false → Passed (PhaseFits layout) why post outcome → ((j : ℕ) → nat_lt j 2 ≡ false → o j ≡ None) → Next o why outcome
rest_latest o layout why post (Goes base) k p f = record { at = at_other o why base k p.suited; free = λ j low q. f j low }
rest_latest o layout why post (Ends ending) k p f = f

other_latest : (x u : ℕ → ℕ) (o : ℕ → Option ℕ) (i : ℕ) (layout : Layout) (why : Why) (base : Base) (post : Post) (found count : ℕ) → is_protecting (kind_of why) ≡ false → tells_row base ≡ false → ((j : ℕ) → protecting (Runs why base) j ≡ false) → Latest o (Runs why base) → Stage x u layout why base post found count → MadeLatest o i why (machine.after base post found)
other_latest x u o i layout why base post found count k b n l s =
    rest_latest (λ j. hazard_along i j (machine.after base post found).told (o j)) layout why (machine.after base post found).post (machine.after base post found).outcome k s.next.phase
    (λ j low. bare_none i j (machine.after base post found).told (o j) (base_bare base post found b) (l.free j low (n j)))

reload_latest : (o : ℕ → Option ℕ) (i : ℕ) (why : Why) (parent index slot era made : ℕ) (post : Post) (found : ℕ) → Latest o (Runs why (Reload parent index slot era made)) → MadeLatest o i why (machine.after (Reload parent index slot era made) post found)
reload_latest o i why parent index slot era made post found l =
    made_if o i why (found == parent + 1) _ _ (λ e. λ j low. bare_none i j (events.Held index slot (bump made) ∷ []) (o j) refl (l.free j low refl)) (λ e. λ j low. l.free j low refl)

-- a machine that begins no protection is run for none
abbrev is_path : Base → Bool
is_path (Begin at) = true
is_path (Protect aim index root made at) = true
is_path (Reload parent index slot era made) = true
is_path base = false

no_open : (base : Base) → is_path base ≡ false → suits base Kind.ToOpen ≡ true → ⊥
no_open (Begin at) p h = cc
no_open (Protect aim index root made at) p h = cc
no_open (Reload parent index slot era made) p h = cc
no_open base p h = cc

no_follow : (base : Base) → is_path base ≡ false → suits base Kind.ToFollow ≡ true → ⊥
no_follow (Begin at) p h = cc
no_follow (Protect aim index root made at) p h = cc
no_follow (Reload parent index slot era made) p h = cc
no_follow base p h = cc

not_protecting : (base : Base) (kind : Kind) → is_path base ≡ false → suits base kind ≡ true → is_protecting kind ≡ false
not_protecting base Kind.ToOpen p h = absurd (no_open base p h)
not_protecting base Kind.ToFollow p h = absurd (no_follow base p h)
not_protecting base kind p h = refl

run_latest : (x u : ℕ → ℕ) (o : ℕ → Option ℕ) (i : ℕ) (layout : Layout) (why : Why) (base : Base) (post : Post) (found count : ℕ) → publishes_rows layout.config.scheme ≡ true → post.seat ≡ i → ((j : ℕ) → x j ≡ 0 → o j ≡ None) → Latest o (Runs why base) → Stage x u layout why base post found count → MadeLatest o i why (machine.after base post found)
run_latest x u o i layout why (Protect aim index root made at) post found count q s z l t =
    protect_latest x u o i layout.config.buckets why aim index root made (bump made) count at post found (ap (λ (table : Layout). publishes_rows table.config.scheme) t.table ∙ q) s z l (site_of layout why aim index root made at post found count t)
run_latest x u o i layout why (Reload parent index slot era made) post found count q s z l t = reload_latest o i why parent index slot era made post found l
run_latest x u o i layout why (Begin at) post found count q s z l t = absurd (false_not_true (is_ibr layout.config.scheme) t.scheme t.run.fits)
run_latest x u o i layout why base post found count q s z l t = other_latest x u o i layout why base post found count (not_protecting base (kind_of why) refl t.run.suited) refl (λ j. refl) l t

-- a new phase
at_new : (o : ℕ → Option ℕ) (phase : Phase) → is_new phase ≡ true → At o phase
at_new o Idle h = tt
at_new o (Runs why (Protect aim index root made (ByHazard (PublishLink link)))) h = absurd (cc)
at_new o (Runs why (Protect aim index root made (ByHazard (CheckLink link)))) h = absurd (cc)
at_new o (Runs why (Protect aim index root made (ByHazard FirstLink))) h = tt
at_new o (Runs why (Protect aim index root made at)) h = tt
at_new o (Runs why base) h = tt
at_new o (Scans later at) h = tt
at_new o (Works work) h = tt

new_latest : (o : ℕ → Option ℕ) (phase : Phase) → is_new phase ≡ true → ((j : ℕ) → nat_lt j 2 ≡ false → o j ≡ None) → Latest o phase
new_latest o phase h f = record { at = at_new o phase h; free = λ j low p. f j low }

out_latest : (o : ℕ → Option ℕ) (interval : Bool) (why : Why) (outcome : Outcome) (next : Phase) → Next o why outcome → Leads interval why outcome next → Latest o next
out_latest o interval why (Goes base) next n l = subst (λ (phase : Phase). Latest o phase) (sym l) n
out_latest o interval why (Ends ending) next n l = new_latest o next l.0 n

-- what a step itself tells
abbrev own_told : Phase → Post → ℕ → List Event
own_told Idle post found = []
own_told (Runs why base) post found = (machine.after base post found).told
own_told (Scans later at) post found = scan_told at post found
own_told (Works work) post found = work_told work post

told_latest : (o : ℕ → Option ℕ) (i : ℕ) (interval : Bool) (x u : ℕ → ℕ) (layout : Layout) (phase : Phase) (post : Post) (found : ℕ) (next : Phase) → publishes_rows layout.config.scheme ≡ true → post.seat ≡ i → ((j : ℕ) → x j ≡ 0 → o j ≡ None) → Latest o phase → Seat x u layout i phase post → Left interval phase (counted post) found next → Latest (λ j. hazard_along i j (own_told phase (counted post) found) (o j)) next
told_latest o i interval x u layout Idle post found next q s z l t d = new_latest o next d (λ j low. l.free j low refl)
told_latest o i interval x u layout (Runs why base) post found next q s z l t d =
    out_latest (λ j. hazard_along i j (machine.after base (counted post) found).told (o j)) interval why (machine.after base (counted post) found).outcome next
    (run_latest x u o i layout why base (counted post) found post.steps q s z l (stage_of x u layout i why base post found t)) d
told_latest o i interval x u layout (Scans later at) post found next q s z l t d = new_latest (λ j. hazard_along i j (scan_told at (counted post) found) (o j)) next d (λ j low. bare_none i j (scan_told at (counted post) found) (o j) (scan_bare at) (l.free j low refl))
  where
    scan_bare : (at : ScanAt) → all_of is_bare (scan_told at (counted post) found) ≡ true
    scan_bare (ReadGuard number) = reads_are (λ event. all_of is_bare (event ∷ []) ≡ true) (publishes_rows post.layout.config.scheme) (guard_at post.layout.config number) found (λ span. refl) (λ slot. refl)
    scan_bare (GiveBack place slot) = refl
told_latest o i interval x u layout (Works work) post found next q s z l t d = new_latest (λ j. hazard_along i j (work_told work (counted post)) (o j)) next d (λ j low. work_none i j work (counted post) (o j) (l.free j low refl))

first_along : (i j : ℕ) (o : Option ℕ) (phase : Phase) (post : Post) (found : ℕ) → First (λ p told. hazard_along i j told o ≡ hazard_along i j (own_told phase post found) o) phase post found
first_along i j o Idle post found = refl
first_along i j o (Runs why base) post found = refl
first_along i j o (Scans later at) post found = refl
first_along i j o (Works work) post found = refl

latest_same : (x y : ℕ → Option ℕ) (phase : Phase) → ((j : ℕ) → y j ≡ x j) → Latest x phase → Latest y phase
latest_same x y phase p l = record { at = at_same phase l.at; free = λ j low q. p j ∙ l.free j low q }
  where
    at_same : (phase : Phase) → At x phase → At y phase
    at_same (Runs why (Protect aim index root made (ByHazard (PublishLink link)))) a = (a.0, ap (is_row (link - 1)) (p index) ∙ a.1)
    at_same (Runs why (Protect aim index root made (ByHazard (CheckLink link)))) a = (a.0, p index ∙ a.1)
    at_same (Runs why (Protect aim index root made (ByHazard FirstLink))) a = tt
    at_same (Runs why (Protect aim index root made at)) a = tt
    at_same (Runs why base) a = tt
    at_same Idle a = tt
    at_same (Scans later at) a = tt
    at_same (Works work) a = tt

-- no row was told last where none is counted
zero_event : (i j : ℕ) (event : Event) (n : ℕ) (o : Option ℕ) → (n ≡ 0 → o ≡ None) → hazards_by i j event n ≡ 0 → own_hazard_by i j event o ≡ None
zero_event i j (events.Hazard guard slot) n o f h = by (is_index_word i j guard) slot h
  where
    by : (own : Bool) (slot : Option ℕ) → (if own then one_hazard slot n else n) ≡ 0 → (if own then slot else o) ≡ None
    by true None h = refl
    by true (Some row) h = absurd (grind (arith, nat_tests))
    by false slot h = f h
zero_event i j (events.Held index slot steps) n o f h = by (index == j)
  where
    by : (own : Bool) → (if own then None else o) ≡ None
    by true = refl
    by false = f h
zero_event i j (events.Null index steps) n o f h = by (index == j)
  where
    by : (own : Bool) → (if own then None else o) ≡ None
    by true = refl
    by false = f h
zero_event i j (events.Copied from index slot) n o f h = by (index == j)
  where
    by : (own : Bool) → (if own then None else o) ≡ None
    by true = refl
    by false = f h
zero_event i j event n o f h = f h

zero_none : (i j : ℕ) (p : Past) → hazards_of i j p ≡ 0 → own_hazard_of i j p ≡ None
zero_none i j Start h = refl
zero_none i j (Then p k event) h = by (i == k) (zero_none i j p) h
  where
    by : (own : Bool) → (hazards_of i j p ≡ 0 → own_hazard_of i j p ≡ None) → (if own then hazards_by i j event (hazards_of i j p) else hazards_of i j p) ≡ 0 → (if own then own_hazard_by i j event (own_hazard_of i j p) else own_hazard_of i j p) ≡ None
    by true before h = zero_event i j event (hazards_of i j p) (own_hazard_of i j p) before h
    by false before h = before h

-- along a history
abbrev last_told : schedule.History → ℕ → ℕ → Option ℕ
last_told h k j = own_hazard_of k j (record_of h)

record Hazards (layout : Layout) (made : Made) (h : schedule.History) : Type 0 where
  keeps : Keeps true layout made h
  latest : (k : ℕ) → Latest (last_told h k) (made.world.seat k).phase
  numbers : Each number_ok (record_of h)
  anothers : Each another_ok (record_of h)

step_own : (layout : Layout) (made : Made) (h : schedule.History) (i : ℕ) → publishes_rows layout.config.scheme ≡ true → Around made h → is_busy made.world i ≡ true → Hazards layout made h → Latest (last_told (Turns h i (told_in made.world i)) i) ((step made.world i).seat i).phase
step_own layout made h i e a y g =
    let w : World = made.world in
    let v = a.known.known in
    let k = g.keeps in
    let o : ℕ → Option ℕ = last_told h i in
    let s = seat_of true layout made h i (rows_not_interval layout.config.scheme e) a y k in
    let p = s.owned in
    let t : Latest (λ j. hazard_along i j (own_told (w.seat i).phase (counted (w.seat i).post) (finds w i)) (o j)) ((step w i).seat i).phase =
    told_latest o i (is_ibr w.layout.config.scheme) (published true h i) (since_of true h i) layout (w.seat i).phase (w.seat i).post (finds w i) ((step w i).seat i).phase e p.seat (λ j z. zero_none i j (record_of h) z) (g.latest i) s (stepped_leads w i v.valid v.seats) in
    latest_same (λ j. hazard_along i j (own_told (w.seat i).phase (counted (w.seat i).post) (finds w i)) (o j)) (last_told (Turns h i (told_in w i)) i) ((step w i).seat i).phase
    (λ j. hazard_tells i j (told_in w i) (record_of h)
    ∙ step_goes (λ q told. hazard_along i j told (o j) ≡ hazard_along i j (own_told (w.seat i).phase (counted (w.seat i).post) (finds w i)) (o j)) (along_closed i j (o j) (hazard_along i j (own_told (w.seat i).phase (counted (w.seat i).post) (finds w i)) (o j))) (w.seat i).phase (counted (w.seat i).post) (offered w i).desk (finds w i) (first_along i j (o j) (w.seat i).phase (counted (w.seat i).post) (finds w i))) t

step_latest : (layout : Layout) (made : Made) (h : schedule.History) (i k : ℕ) (same : Bool) → (k == i) ≡ same → publishes_rows layout.config.scheme ≡ true → Around made h → is_busy made.world i ≡ true → Hazards layout made h → Latest (last_told (Turns h i (told_in made.world i)) k) ((step made.world i).seat k).phase
step_latest layout made h i k true c e a y g =
    let one : k ≡ i = number_is k i c in
    subst (λ (m : ℕ). Latest (last_told (Turns h i (told_in made.world i)) m) ((step made.world i).seat m).phase) (sym one) (step_own layout made h i e a y g)
step_latest layout made h i k false c e a y g =
    let w : World = made.world in
    let q : (w.seat k).phase ≡ ((step w i).seat k).phase = sym (ap (λ (l : Local). l.phase) (seat_stays w i k c)) in
    subst (λ (phase : Phase). Latest (last_told (Turns h i (told_in w i)) k) phase) q (latest_same (last_told h k) (last_told (Turns h i (told_in w i)) k) (w.seat k).phase (λ j. hazard_stays k i j (told_in w i) (record_of h) c) (g.latest k))

step_anothers : (layout : Layout) (made : Made) (h : schedule.History) (i : ℕ) → publishes_rows layout.config.scheme ≡ true → Around made h → is_busy made.world i ≡ true → Hazards layout made h → Each another_ok (tells_of (record_of h) i (told_in made.world i))
step_anothers layout made h i e a y g =
    let w : World = made.world in
    let o : ℕ → Option ℕ = last_told h i in
    let s = seat_of true layout made h i (rows_not_interval layout.config.scheme e) a y g.keeps in
    let p = s.owned in
    others_each i (told_in w i) (record_of h) (step_goes (λ q told. others i o told ≡ true) (others_closed i o) (w.seat i).phase (counted (w.seat i).post) (offered w i).desk (finds w i) (phase_others i o (w.seat i).phase (counted (w.seat i).post) (finds w i) p.seat s.right (g.latest i))) g.anothers

begin_same : (h : schedule.History) (i k j : ℕ) (call : Call) → last_told (Starts h i call) k j ≡ last_told h k j
begin_same h i k j call = by (k == i)
  where
    by : (same : Bool) → (if same then last_told h k j else last_told h k j) ≡ last_told h k j
    by true = refl
    by false = refl

idle_free : (o : ℕ → Option ℕ) (phase : Phase) → busy_in phase ≡ false → Latest o phase → (j : ℕ) → nat_lt j 2 ≡ false → o j ≡ None
idle_free o Idle b l j low = l.free j low refl
idle_free o (Runs why base) b l j low = absurd (cc)
idle_free o (Scans later at) b l j low = absurd (cc)
idle_free o (Works work) b l j low = absurd (cc)

begin_latest : (made : Made) (h : schedule.History) (i k : ℕ) (call : Call) (same : Bool) → (k == i) ≡ same → Inv made.world → is_busy made.world i ≡ false → ((m : ℕ) → Latest (last_told h m) (made.world.seat m).phase) → Latest (last_told (Starts h i call) k) ((begin made.world i call).seat k).phase
begin_latest made h i k call true e a y g =
    let w : World = made.world in
    let one : k ≡ i = number_is k i e in
    let n = a.known in
    let f = n.seats.fits i in
    let t : Latest (last_told h i) (steps.first_phase call (begun_post (w.seat i).post)) = new_latest (last_told h i) (steps.first_phase call (begun_post (w.seat i).post)) (first_new w.layout i n.valid call (begun_post (w.seat i).post) (begun_fits w.layout i (w.seat i).post f.post)) (idle_free (last_told h i) (w.seat i).phase y (g i)) in
    subst (λ (m : ℕ). Latest (last_told (Starts h i call) m) ((begin w i call).seat m).phase) (sym one)
    (subst (λ (l : Local). Latest (last_told (Starts h i call) i) l.phase) (sym (begin_begins w i call)) (latest_same (last_told h i) (last_told (Starts h i call) i) (steps.first_phase call (begun_post (w.seat i).post)) (λ j. begin_same h i i j call) t))
begin_latest made h i k call false e a y g =
    let w : World = made.world in
    subst (λ (l : Local). Latest (last_told (Starts h i call) k) l.phase) (sym (begin_stays w i k call e)) (latest_same (last_told h k) (last_told (Starts h i call) k) (w.seat k).phase (λ j. begin_same h i k j call) (g k))

kept : (layout : Layout) → publishes_rows layout.config.scheme ≡ true → Kept (Hazards layout)
kept layout e = record {
  begins = λ made h i call a b f m g. record {
    keeps = begin_kept true layout made h i call f g.keeps;
    latest = λ k. begin_latest made h i k call (k == i) refl a.known f g.latest;
    numbers = (refl, g.numbers);
    anothers = (refl, g.anothers);
  };
  steps = λ made h i a b y g. record {
    keeps = step_kept true layout made h i (rows_not_interval layout.config.scheme e) a b y g.keeps;
    latest = λ k. step_latest layout made h i k (k == i) refl e a y g;
    numbers = step_numbers layout made h i e a y g.keeps g.numbers;
    anothers = step_anothers layout made h i e a y g;
  };
}

both_each : (p : Past) → Each number_ok p → Each another_ok p → Each hazards_ok p
both_each Start g h = tt
both_each (Then p i event) g h = (both (number_loaded (λ j. hazards_of i j p) event) (shows_another p event) g.0 (one_shows i p event h.0), both_each p g.1 h.1)

-- each row is told of the teller's own index word: what a seat has not told its index word does not publish
own_empty : (k j : ℕ) (guard : Guard) (slot x : Option ℕ) (n : ℕ) (here : Bool) → is_index_word k j guard ≡ here → (n ≡ 0 → x ≡ None) → (if here then one_hazard slot n else n) ≡ 0 → (if here then slot else x) ≡ None
own_empty k j guard None x n true e f h = refl
own_empty k j guard (Some row) x n true e f h = absurd (grind (arith, nat_tests))
own_empty k j guard slot x n false e f h = f h

own_event : (k j : ℕ) (event : Event) (x : Option ℕ) (n : ℕ) → (n ≡ 0 → x ≡ None) → hazards_by k j event n ≡ 0 → hazard_by (Index k j) event x ≡ None
own_event k j (events.Hazard guard slot) x n f h = rw (index_guard k j guard) (own_empty k j guard slot x n (is_index_word k j guard) refl f h)
own_event k j event x n f h = f h

other_row : (k i m : ℕ) (same : Bool) (slot x : Option ℕ) → (k == i) ≡ false → (m == i) ≡ true → x ≡ None → (if k == m && same then slot else x) ≡ None
other_row k i m same slot x e h z = let n : (k == m) ≡ false = grind (arith, nat_tests) in rw n z

none_row : (b : Bool) (x : Option ℕ) → x ≡ None → (if b then None else x) ≡ None
none_row true x z = refl
none_row false x z = z

other_event : (k j i : ℕ) (event : Event) (o : ℕ → Option ℕ) (x : Option ℕ) → (k == i) ≡ false → one_another i o event ≡ true → x ≡ None → hazard_by (Index k j) event x ≡ None
other_event k j i (events.Hazard (Index m n) (Some slot)) o x e h z = other_row k i m (j == n) (Some slot) x e (first_of (m == i) (not (is_row slot (o n))) h) z
other_event k j i (events.Hazard (Index m n) None) o x e h z = none_row (k == m && j == n) x z
other_event k j i (events.Hazard (Helper seat) slot) o x e h z = z
other_event k j i (events.Hazard (Whole seat) slot) o x e h z = z
other_event k j i event o x e h z = z

empty_at : (k j : ℕ) (p : Past) → Each another_ok p → hazards_of k j p ≡ 0 → hazard_of (Index k j) p ≡ None
empty_at k j Start g h = refl
empty_at k j (Then p i event) g h = by (k == i) refl (empty_at k j p g.1) h
  where
    by : (own : Bool) → (k == i) ≡ own → (hazards_of k j p ≡ 0 → hazard_of (Index k j) p ≡ None) → (if own then hazards_by k j event (hazards_of k j p) else hazards_of k j p) ≡ 0 → hazard_by (Index k j) event (hazard_of (Index k j) p) ≡ None
    by true e before h = own_event k j event (hazard_of (Index k j) p) (hazards_of k j p) before h
    by false e before h = other_event k j i event (λ m. own_hazard_of i m p) (hazard_of (Index k j) p) e g.0 (before h)

hazards_of_items : (layout : Layout) (items : List Item) → is_valid layout ≡ true → publishes_rows layout.config.scheme ≡ true → Hazards layout (histories.made_of layout items) (heard_of layout items)
hazards_of_items layout items d e = history_keeps layout (Hazards layout) (kept layout e) d items (record { keeps = first_kept true layout (rows_not_interval layout.config.scheme e) e; latest = λ k. record { at = tt; free = λ j low p. refl }; numbers = tt; anothers = tt })

pub hazard_empty : (layout : Layout) (items : List Item) (k j : ℕ) → is_valid layout ≡ true → publishes_rows layout.config.scheme ≡ true → hazards_of k j (record_of (heard_of layout items)) ≡ 0 → hazard_of (Index k j) (record_of (heard_of layout items)) ≡ None
hazard_empty layout items k j d e z = empty_at k j (record_of (heard_of layout items)) (hazards_of_items layout items d e).anothers z

pub hazards_count : HazardsCount
hazards_count layout items d e =
    let g = hazards_of_items layout items d e in
    let c : IsCounted layout items = histories_count layout items d in
    entries_of_each hazards_ok (histories.record_of layout items) (subst (λ (p : Past). Each hazards_ok p) c.tells (both_each (record_of (heard_of layout items)) g.numbers g.anothers))
