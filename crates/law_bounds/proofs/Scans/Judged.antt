-- What is on a seat's list besides the lives that its last block judged came since, and where no scan is left undone each of these is kept.
use Rattle.std.proofs.Common.{ℕ, ◌≡◌, ◌≤◌, ◌+◌, Bool, true, false, List, [], ◌∷◌, ◌++◌, length, Option, Some, None, refl, sym, ap, ◌∙◌, subst, arith, length-append}
use Rattle.std.specs.Prelude.{◌==◌, ◌&&◌, ◌||◌, not, is_none, if◌then◌else◌}
use Rattle.law_all.proofs.inv.model.Facts.{false_by, first_of, no_truth, number_is, rest_of, same_number}
use Rattle.law_all.proofs.laws.Tells.{seen_own}
use Rattle.law_all.specs.inv.history.Record.{Each, Past}
use Rattle.law_all.specs.inv.history.Record.Past.{Start, Then}
use Rattle.law_all.specs.inv.model.defs.Shown.{Seen}
use Rattle.law_all.specs.inv.model.defs.declared.event.Event.{Event}
use Rattle.law_all.specs.inv.model.defs.declared.event.Event.TheVariants as events
use Rattle.law_all.specs.inv.model.defs.declared.lifetime.Lifetime.{Lifetime}
use Rattle.law_all.specs.inv.model.words.declared.config.Config.{Config}
use Rattle.law_all.specs.laws.Lists.{gained_by, handed_by, has_left, is_adopted, list_of, without}
use Rattle.law_all.specs.laws.Once.{is_adopt, lists_ok}
use Rattle.law_all.specs.laws.ScanLaw.{guards, is_over, next_back, scan_by, scan_ok}
use Rattle.law_all.specs.laws.Standing.{open_ok}
use Rattle.law_all.specs.laws.StateAt.{began_of, is_open, is_scan, opened_by, read_by, read_of, scans_of}
use Rattle.law_bounds.specs.Scans.{came_by, came_of, judged_by, judged_of, late_by, late_of}

-- where no scan is left undone
pub record Settled (list judged : List Lifetime) (read : List Seen) (late came : ℕ) : Type 0 where
  pub kept : next_back read judged ≡ None
  pub size : length list ≤ length judged + (late + came)

-- in a scan the whole list is judged
pub record Judged (list judged : List Lifetime) (read : List Seen) (scans : Bool) (late came : ℕ) : Type 0 where
  pub during : scans ≡ true → judged ≡ list
  pub after : scans ≡ false → Settled list judged read late came

none_is : (x : Option Lifetime) → is_none x ≡ true → x ≡ None
none_is None h = refl
none_is (Some life) h = absurd (cc)

settle : (config : Config) (list judged : List Lifetime) (read : List Seen) (scans : Bool) (late came : ℕ) → (not scans || is_over (guards config) read list) ≡ true → Judged list judged read scans late came → Settled list judged read late came
settle config list judged read false late came h j = j.after refl
settle config list judged read true late came h j =
    let whole : judged ≡ list = j.during refl in
    let none : next_back read list ≡ None = none_is (next_back read list) (rest_of (length read == guards config) (is_none (next_back read list)) h) in
    let size : length list ≡ length judged = ap length (sym whole) in
    record { kept = ap (next_back read) whole ∙ none; size = omega (arith, size) }

-- an event of the seat
calmly : (list judged : List Lifetime) (read : List Seen) (late came : ℕ) → Settled list judged read late came → Judged list judged read false late came
calmly list judged read late came s = record { during = λ e. absurd (cc); after = λ e. s }

-- a life more, and a list more
retired : (list judged : List Lifetime) (read : List Seen) (late came : ℕ) (life : Lifetime) → Settled list judged read late came → Judged (list ++ life ∷ []) judged read false (late + 1) came
retired list judged read late came life s =
    let more : length (list ++ life ∷ []) ≡ length list + 1 = length-append list (life ∷ []) in
    let size = s.size in
    record { during = λ e. absurd (cc); after = λ e. record { kept = s.kept; size = omega (arith, more, size) } }

taken : (list judged gift : List Lifetime) (read : List Seen) (late came count : ℕ) → count ≡ length gift → Settled list judged read late came → Judged (list ++ gift) judged read false late (came + count)
taken list judged gift read late came count e s =
    let more : length (list ++ gift) ≡ length list + length gift = length-append list gift in
    let size = s.size in
    record { during = λ f. absurd (cc); after = λ f. record { kept = s.kept; size = omega (arith, more, size, e) } }

backs : (list judged : List Lifetime) (read : List Seen) (late came slot : ℕ) → judged ≡ list → Judged (without slot list) (without slot judged) read true late came
backs list judged read late came slot e = record { during = λ f. ap (without slot) e; after = λ f. absurd (cc) }

pub own_judged :
    (config : Config) (event : Event) (other : ℕ → List Lifetime) (list judged : List Lifetime) (read : List Seen) (scans : Bool) (late came : ℕ)
    → scan_by config read list scans event ≡ true
    → ((place count : ℕ) → event ≡ events.Adopted place count → count ≡ length (other place))
    → Judged list judged read scans late came
    → Judged (gained_by event other list) (judged_by event list judged) (read_by (guards config) event read) (is_scan event) (late_by event late) (came_by event came)
own_judged config (events.Read guard span) other list judged read scans late came h a j = record { during = λ e. refl; after = λ e. absurd (cc) }
own_judged config (events.Saw guard slot) other list judged read scans late came h a j = record { during = λ e. refl; after = λ e. absurd (cc) }
own_judged config (events.Back slot) other list judged read scans late came h a j =
    backs list judged read late came slot (j.during (first_of scans _ h))
own_judged config (events.Retire slot birth retire) other list judged read scans late came h a j =
    retired list judged read late came (record { slot = slot; birth = birth; retire = retire }) (settle config list judged read scans late came h j)
own_judged config (events.Adopted place count) other list judged read scans late came h a j =
    taken list judged (other place) read late came count (a place count refl) (settle config list judged read scans late came h j)
own_judged config event other list judged read scans late came h a j =
    calmly list judged read late came (settle config list judged read scans late came h j)

-- an event of another seat
none_left : (read : List Seen) (scans : Bool) (late came : ℕ) → Judged [] [] read scans late came
none_left read scans late came = record { during = λ e. refl; after = λ e. record { kept = refl; size = omega arith } }

other_judged : (i : ℕ) (event : Event) (list judged : List Lifetime) (read : List Seen) (scans : Bool) (late came : ℕ) → Judged list judged read scans late came → Judged (handed_by i event list) (handed_by i event judged) read scans late came
other_judged i (events.Adopted place count) list judged read scans late came j = by (i == place)
  where
    by : (same : Bool) → Judged (if same then [] else list) (if same then [] else judged) read scans late came
    by true = none_left read scans late came
    by false = j
other_judged i event list judged read scans late came j = j

-- of a seat at a position
abbrev pub JudgedAt : Config → ℕ → Past → Type 0
JudgedAt config i p = Judged (list_of i p) (judged_of i p) (read_of (guards config) i p) (scans_of i p) (late_of i p) (came_of i p)

count_is : (p : Past) (i place count : ℕ) → lists_ok p i (events.Adopted place count) ≡ true → count ≡ length (list_of place p)
count_is p i place count h =
    number_is count (length (list_of place p))
    (rest_of (not (is_adopted place p)) (count == length (list_of place p))
    (rest_of (has_left place p) (not (is_adopted place p) && count == length (list_of place p))
    (rest_of (is_adopt place (began_of i p)) (has_left place p && (not (is_adopted place p) && count == length (list_of place p))) h)))

told_count : (p : Past) (i : ℕ) (event : Event) → lists_ok p i event ≡ true → (place count : ℕ) → event ≡ events.Adopted place count → count ≡ length (list_of place p)
told_count p i event h place count e = count_is p i place count (ap (lists_ok p i) (sym e) ∙ h)

own_entry : (config : Config) (i : ℕ) (p : Past) (event : Event) → scan_ok config p i event ≡ true → lists_ok p i event ≡ true → JudgedAt config i p → JudgedAt config i (Then p i event)
own_entry config i p event h a j =
    let same : (i == i) ≡ true = same_number i in
    let late : late_of i (Then p i event) ≡ late_by event (late_of i p) = seen_own late_by 0 i p event in
    let came : came_of i (Then p i event) ≡ came_by event (came_of i p) = seen_own came_by 0 i p event in
    let now = own_judged config event (λ (place : ℕ). list_of place p) (list_of i p) (judged_of i p) (read_of (guards config) i p) (scans_of i p) (late_of i p) (came_of i p) h (told_count p i event a) j in
    rw same now

other_entry : (config : Config) (i k : ℕ) (p : Past) (event : Event) → (i == k) ≡ false → JudgedAt config i p → JudgedAt config i (Then p k event)
other_entry config i k p event e j =
    rw e (other_judged i event (list_of i p) (judged_of i p) (read_of (guards config) i p) (scans_of i p) (late_of i p) (came_of i p) j)

entry : (config : Config) (i k : ℕ) (p : Past) (event : Event) (same : Bool) → (i == k) ≡ same → scan_ok config p k event ≡ true → lists_ok p k event ≡ true → JudgedAt config i p → JudgedAt config i (Then p k event)
entry config i k p event true e h a j =
    let here : i ≡ k = number_is i k e in
    subst (λ (n : ℕ). JudgedAt config i (Then p n event)) here
    (own_entry config i p event (subst (λ (n : ℕ). scan_ok config p n event ≡ true) (sym here) h) (subst (λ (n : ℕ). lists_ok p n event ≡ true) (sym here) a) j)
entry config i k p event false e h a j = other_entry config i k p event e j

pub judged_at : (config : Config) (i : ℕ) (p : Past) → Each (scan_ok config) p → Each lists_ok p → JudgedAt config i p
judged_at config i Start h a = record { during = λ e. absurd (cc); after = λ e. record { kept = refl; size = omega arith } }
judged_at config i (Then p k event) h a = entry config i k p event (i == k) refl h.0 a.0 (judged_at config i p h.1 a.1)

-- A scan is of a call that is under way.
scan_open : (event : Event) (p : Past) (i : ℕ) → is_scan event ≡ true → open_ok p i event ≡ true → opened_by event (is_open i p) ≡ true
scan_open (events.Read guard span) p i s h = h
scan_open (events.Saw guard slot) p i s h = h
scan_open (events.Back slot) p i s h = h
scan_open event p i s h = absurd (cc)

pub scans_open : (i : ℕ) (p : Past) → Each open_ok p → scans_of i p ≡ true → is_open i p ≡ true
scans_open i Start h s = absurd (cc)
scans_open i (Then p k event) h s = by (i == k) refl (scans_open i p h.1) s
  where
    by : (same : Bool) → (i == k) ≡ same → (scans_of i p ≡ true → is_open i p ≡ true) → (if same then is_scan event else scans_of i p) ≡ true → (if same then opened_by event (is_open i p) else is_open i p) ≡ true
    by true e f s =
        let here : i ≡ k = number_is i k e in
        scan_open event p i s (subst (λ (n : ℕ). open_ok p n event ≡ true) (sym here) h.0)
    by false e f s = f s

pub closed_settled : (config : Config) (i : ℕ) (p : Past) → Each open_ok p → JudgedAt config i p → is_open i p ≡ false → Settled (list_of i p) (judged_of i p) (read_of (guards config) i p) (late_of i p) (came_of i p)
closed_settled config i p o j c =
    j.after (false_by (scans_of i p) (λ s. let t = scans_open i p o s in no_truth (sym c ∙ t)))
