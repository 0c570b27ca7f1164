-- What follows at each entry from what the record before keeps.
use Rattle.std.proofs.Common.{ℕ, ◌≡◌, Bool, true, false, refl, ◌+◌}
use Rattle.std.specs.Prelude.{◌==◌, if◌then◌else◌, ◌&&◌}
use Rattle.laws.proofs.records.defs.Facts.{number_is}
use Rattle.laws.specs.HistoryHolds.{clears_ok}
use Rattle.laws.specs.HistoryHolds.{lone_ok}
use Rattle.laws.specs.StateAt.{seen}
use Rattle.laws.specs.defs.declared.event.Event.{Event}
use Rattle.laws.specs.defs.declared.event.Event.TheVariants as events
use Rattle.laws.specs.records.Record.{Past, Test, Each, begins, own, told_since}
use Rattle.laws.specs.records.Record.Past.{Start, Then}

-- from what each entry keeps, and what the entries before keep
pub follows : (strong weak : Test) → ((p : Past) (i : ℕ) (event : Event) → Each lone_ok p → Each clears_ok p → Each strong p → strong p i event ≡ true → weak p i event ≡ true) → (r : Past) → Each lone_ok r → Each clears_ok r → Each strong r → Each weak r
follows strong weak f Start l c h = tt
follows strong weak f (Then p i event) l c h = (f p i event l.1 c.1 h.1 h.0, follows strong weak f p l.1 c.1 h.1)

-- from two laws that each entry keeps, and what the entries before keep
pub follow_both : (strong other weak : Test) → ((p : Past) (i : ℕ) (event : Event) → Each lone_ok p → Each clears_ok p → strong p i event ≡ true → other p i event ≡ true → weak p i event ≡ true) → (r : Past) → Each lone_ok r → Each clears_ok r → Each strong r → Each other r → Each weak r
follow_both strong other weak f Start l c h k = tt
follow_both strong other weak f (Then p i event) l c h k = (f p i event l.1 c.1 h.0 k.0, follow_both strong other weak f p l.1 c.1 h.1 k.1)

-- from what each entry keeps alone
pub each_weaker : (strong weak : Test) → ((p : Past) (i : ℕ) (event : Event) → strong p i event ≡ true → weak p i event ≡ true) → (r : Past) → Each strong r → Each weak r
each_weaker strong weak f Start h = tt
each_weaker strong weak f (Then p i event) h = (f p i event h.0, each_weaker strong weak f p h.1)

-- how many events of a kind a call has told, as a fold of its seat's events
abbrev pub counted_by : (Event → Bool) → Event → ℕ → ℕ
counted_by kind (events.Begin call) n = 0
counted_by kind event n = if kind event then n + 1 else n

own_one : (kind : Event → Bool) (event : Event) (n : ℕ) → (if (kind event && true) then n + 1 else n) ≡ (if kind event then n + 1 else n)
own_one kind event n = by (kind event)
  where
    by : (b : Bool) → (if (b && true) then n + 1 else n) ≡ (if b then n + 1 else n)
    by true = refl
    by false = refl

other_one : (kind : Event → Bool) (event : Event) (n : ℕ) → (if (kind event && false) then n + 1 else n) ≡ n
other_one kind event n = by (kind event)
  where
    by : (b : Bool) → (if (b && false) then n + 1 else n) ≡ n
    by true = refl
    by false = refl

times_entry : (kind : Event → Bool) (i k : ℕ) (p : Past) (event : Event) (same : Bool) (n : ℕ) → (i == k) ≡ same → told_since (begins i) (own i kind) p ≡ n → told_since (begins i) (own i kind) (Then p k event) ≡ (if same then counted_by kind event n else n)
times_entry kind i k p (events.Begin call) true n e h = rw e refl
times_entry kind i k p (events.Begin call) false n e h = rw (e, h) (other_one kind (events.Begin call) n)
times_entry kind i k p event true n e h = rw (e, h) (own_one kind event n)
times_entry kind i k p event false n e h = rw (e, h) (other_one kind event n)

pub times_seen : (kind : Event → Bool) (i : ℕ) (p : Past) → told_since (begins i) (own i kind) p ≡ seen (counted_by kind) 0 i p
times_seen kind i Start = refl
times_seen kind i (Then p k event) = times_entry kind i k p event (i == k) (seen (counted_by kind) 0 i p) refl (times_seen kind i p)

-- two folds of a seat's events stay related where an event that is right keeps them so
related_entry : {X Y : Type 0} (R : X → Y → Type 0) (next : Event → X → X) (first : X) (other : Event → Y → Y) (start : Y) (i k : ℕ) (p : Past) (event : Event) (same : Bool)
    → (i == k) ≡ same → ((i == k) ≡ true → R (seen next first i p) (seen other start i p) → R (next event (seen next first i p)) (other event (seen other start i p))) → R (seen next first i p) (seen other start i p)
    → R (seen next first i (Then p k event)) (seen other start i (Then p k event))
related_entry R next first other start i k p event true e f h = rw e (f e h)
related_entry R next first other start i k p event false e f h = rw e h

pub related : {X Y : Type 0} (R : X → Y → Type 0) (next : Event → X → X) (first : X) (other : Event → Y → Y) (start : Y) (right : Event → X → Bool) (i : ℕ)
    → R first start → ((event : Event) (x : X) (y : Y) → right event x ≡ true → R x y → R (next event x) (other event y))
    → (p : Past) → Each (λ q k event. right event (seen next first k q)) p → R (seen next first i p) (seen other start i p)
related R next first other start right i s f Start h = s
related R next first other start right i s f (Then p k event) h =
    related_entry R next first other start i k p event (i == k) refl
    (λ e g. f event (seen next first i p) (seen other start i p) (here e) g)
    (related R next first other start right i s f p h.1)
  where
    here : (i == k) ≡ true → right event (seen next first i p) ≡ true
    here e = let same : i ≡ k = number_is i k e in rw same h.0

-- so a test of the one follows from one of the other
pub related_each : {X Y : Type 0} (R : X → Y → Type 0) (next : Event → X → X) (first : X) (other : Event → Y → Y) (start : Y) (right : Event → X → Bool) (weak : Event → Y → Bool)
    → R first start → ((event : Event) (x : X) (y : Y) → right event x ≡ true → R x y → R (next event x) (other event y)) → ((event : Event) (x : X) (y : Y) → right event x ≡ true → R x y → weak event y ≡ true)
    → (p : Past) → Each (λ q k event. right event (seen next first k q)) p → Each (λ q k event. weak event (seen other start k q)) p
related_each R next first other start right weak s f g Start h = tt
related_each R next first other start right weak s f g (Then p k event) h =
    (g event (seen next first k p) (seen other start k p) h.0 (related R next first other start right k s f p h.1), related_each R next first other start right weak s f g p h.1)

-- from two or three laws that each entry keeps
pub each_both : (strong other weak : Test) → ((p : Past) (i : ℕ) (event : Event) → strong p i event ≡ true → other p i event ≡ true → weak p i event ≡ true) → (r : Past) → Each strong r → Each other r → Each weak r
each_both strong other weak f Start h k = tt
each_both strong other weak f (Then p i event) h k = (f p i event h.0 k.0, each_both strong other weak f p h.1 k.1)

pub each_three : (strong other third weak : Test) → ((p : Past) (i : ℕ) (event : Event) → strong p i event ≡ true → other p i event ≡ true → third p i event ≡ true → weak p i event ≡ true) → (r : Past) → Each strong r → Each other r → Each third r → Each weak r
each_three strong other third weak f Start h k g = tt
each_three strong other third weak f (Then p i event) h k g = (f p i event h.0 k.0 g.0, each_three strong other third weak f p h.1 k.1 g.1)
