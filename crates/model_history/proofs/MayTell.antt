-- What the step of each machine may tell, and in which shape: nothing, one event, a row that stands no more and the guard that
-- covered it, or the guard that a reader takes from an answer and what it holds by it. Whoever needs to know that a step tells
-- no event of some kind weakens this, and goes over no phases again.
use Rattle.std.proofs.Common.{ℕ, ◌≡◌, ◌+◌, ◌-◌, Bool, true, false, List, [], ◌∷◌, ◌++◌, Option, Some, None, refl, ap, ◌∙◌}
use Rattle.std.specs.Prelude.{◌==◌, ◌&&◌, ◌||◌, not, if◌then◌else◌, drop}
use Rattle.wfe_core.specs.words.declared.config.SchemeKind.{SchemeKind}
use Rattle.wfe_core.specs.words.declared.config.SchemeKind.TheVariants.{He, Hp, Ibr, Wfe}
use Rattle.wfe_core.specs.words.Packed.{read_reservation, reservation_word}
use Rattle.wfe_core.specs.defs.declared.event.Event.{Event}
use Rattle.wfe_core.specs.defs.declared.event.Event.TheVariants as events
use Rattle.wfe_core.specs.defs.declared.event.Guard.{Guard}
use Rattle.wfe_core.specs.defs.declared.event.Guard.TheVariants.{Helper, Index, Whole}
use Rattle.wfe_core.specs.defs.declared.event.Root.{Root}
use Rattle.wfe_core.specs.defs.declared.event.Root.TheVariants as roots
use Rattle.wfe_core.specs.defs.declared.lifetime.Interval.{Interval}
use Rattle.wfe_core.specs.declared.post.Post.{Post}
use Rattle.wfe_core.specs.Allocate as allocates
use Rattle.wfe_core.specs.Desks.{Desk}
use Rattle.wfe_core.specs.Guards.{linked_row, one_era, from_to}
use Rattle.wfe_core.specs.Locals.{told_by}
use Rattle.wfe_core.specs.Machine as machine
use Rattle.wfe_core.specs.Memory.{bump}
use Rattle.wfe_core.specs.MoveClock as movers
use Rattle.wfe_core.specs.Posts.{stands, cleared, cleared_from, publishes_index, reserves_helper, reserves_span, lower, upper}
use Rattle.wfe_core.specs.Protect as protects
use Rattle.wfe_core.specs.Rounds.{scheme_of, clear_told, let_index}
use Rattle.wfe_core.specs.words.Schemes.{has_one_interval, publishes_rows}
use Rattle.wfe_core.specs.SlowPath.{asking, own_request}
use Rattle.wfe_core.specs.Steps as steps
use Rattle.wfe_core.specs.WriteRow.{last_written}
use Rattle.wfe_core.specs.Phases.{Aim, Alone, Follows, BeginAt, HazardAt, ProtectAt, AllocateAt, RetireAt, MoveAt, Walk, Base, Turn}
use Rattle.wfe_core.specs.Phases.BeginAt.{LoadLower, PublishSpan}
use Rattle.wfe_core.specs.Phases.ProtectAt.{LoadClock, PublishEra, CheckClock, PublishHelper, CheckOwnClock, AnswerOwn, TakeAnswer, WithdrawHelper, CheckUpper, RaiseUpper, ByHazard}
use Rattle.wfe_core.specs.Phases.HazardAt.{FirstLink, PublishLink, CheckLink}
use Rattle.wfe_core.specs.Phases.AllocateAt.{ClaimSlot}
use Rattle.wfe_core.specs.Phases.RetireAt.{StoreRetired}
use Rattle.wfe_core.specs.Phases.MoveAt.{LoadEra, LoadRequest, ShowEra, LoadAsked, CheckEra, AnswerAsked, LoadReserved, HandOver, HideEra, HideLate, ExchangeClock}
use Rattle.wfe_core.specs.Phases.Base.{Begin, Protect, Reload, Clear, Finish, Release, Allocate, Write, GiveUp, Retire, Move}
use Rattle.wfe_core.specs.Calls.{Phase, KeepAt, Loosens, LoadHeld, StoreHeld, Looks, Misses, HideSpan, MarkLeft, TakeList, MarkTaken, Work, Getting, Changing, Enqueuing, Dequeuing, Keeping}
use Rattle.wfe_core.proofs.Facts.{same_number, number_is, both, first_of, rest_of, and_true, false_not_true}
use Rattle.model_history.proofs.AllOf.{all_of, of_along, of_weaker}
use Rattle.model_history.proofs.Passes.{is_quiet, Closed, First, copied_told, keep_told, step_goes, work_told}

abbrev pub same_span : Option Interval → Option Interval → Bool
same_span None None = true
same_span None (Some other) = false
same_span (Some span) None = false
same_span (Some span) (Some other) = span.lo == other.lo && span.hi == other.hi

pub span_is : (span other : Option Interval) → same_span span other ≡ true → span ≡ other
span_is None None h = refl
span_is None (Some other) h = absurd (cc)
span_is (Some span) None h = absurd (cc)
span_is (Some span) (Some other) h =
    let lo : span.lo ≡ other.lo = number_is span.lo other.lo (first_of (span.lo == other.lo) (span.hi == other.hi) h) in
    let hi : span.hi ≡ other.hi = number_is span.hi other.hi (rest_of (span.lo == other.lo) (span.hi == other.hi) h) in
    ap (λ (n : ℕ). Some (record { lo = n; hi = span.hi })) lo ∙ ap (λ (n : ℕ). Some (record { lo = other.lo; hi = n })) hi

abbrev pub same_row : Option ℕ → Option ℕ → Bool
same_row None None = true
same_row None (Some other) = false
same_row (Some row) None = false
same_row (Some row) (Some other) = row == other

pub row_is : (row other : Option ℕ) → same_row row other ≡ true → row ≡ other
row_is None None h = refl
row_is None (Some other) h = absurd (cc)
row_is (Some row) None h = absurd (cc)
row_is (Some row) (Some other) h = ap (λ (n : ℕ). Some n) (number_is row other h)

-- the steps that store the helper word, an index word and the interval word of their seat
abbrev pub at_helper : ProtectAt → Bool
at_helper (PublishHelper first era last) = true
at_helper (WithdrawHelper link era) = true
at_helper at = false

abbrev pub move_helper : MoveAt → Bool
move_helper (ShowEra era seat tag index root) = true
move_helper (HideEra era) = true
move_helper (HideLate seen) = true
move_helper at = false

abbrev pub base_helper : Base → Bool
base_helper (Protect aim index root made at) = at_helper at
base_helper (Move at) = move_helper at
base_helper base = false

abbrev pub at_index : ProtectAt → Bool
at_index (PublishEra era tries) = true
at_index (TakeAnswer link era) = true
at_index at = false

abbrev pub base_index : Base → (index : ℕ) → Bool
base_index (Protect aim own root made at) index = at_index at && index == own
base_index (Clear false own) index = index == own
base_index base index = false

-- the steps that publish a row in an index word of their seat, or withdraw it, and what it publishes then
abbrev pub hazard_stores : HazardAt → Bool
hazard_stores FirstLink = false
hazard_stores (PublishLink link) = true
hazard_stores (CheckLink link) = false

abbrev pub at_hazards : ProtectAt → Bool
at_hazards (ByHazard at) = hazard_stores at
at_hazards at = false

abbrev pub base_hazards : Base → (index : ℕ) → Bool
base_hazards (Protect aim own root made at) index = at_hazards at && index == own
base_hazards (Clear true own) index = index == own
base_hazards base index = false

abbrev pub hazard_shows : HazardAt → Option ℕ
hazard_shows FirstLink = None
hazard_shows (PublishLink link) = linked_row link
hazard_shows (CheckLink link) = None

abbrev pub at_row : ProtectAt → Option ℕ
at_row (ByHazard at) = hazard_shows at
at_row at = None

abbrev pub base_row : Base → Option ℕ
base_row (Protect aim own root made at) = at_row at
base_row base = None

abbrev pub may_hazard : Base → Post → Guard → Option ℕ → Bool
may_hazard base post (Index seat index) row = base_hazards base index && (seat == post.seat && same_row row (base_row base))
may_hazard base post guard row = false

-- a hand-over stores the index word of the seat that asked, where it found it as it was
abbrev pub move_hands : MoveAt → (found seat index : ℕ) → Bool
move_hands (HandOver era asker tag own root link old) found seat index =
    found == reservation_word (record { era = old; tag = tag }) && (seat == asker && index == own)
move_hands at found seat index = false

abbrev pub hands : Base → (found seat index : ℕ) → Bool
hands (Move at) found seat index = move_hands at found seat index
hands base found seat index = false

abbrev pub at_whole : ProtectAt → Bool
at_whole (RaiseUpper era) = true
at_whole at = false

abbrev pub begin_whole : BeginAt → Bool
begin_whole LoadLower = false
begin_whole (PublishSpan era) = true

abbrev pub base_whole : Base → Bool
base_whole (Begin at) = begin_whole at
base_whole (Protect aim index root made at) = at_whole at
base_whole Finish = true
base_whole (Release index) = true
base_whole base = false

abbrev pub may_store : Base → Post → (found : ℕ) → Guard → Bool
may_store base post found (Helper seat) = base_helper base && seat == post.seat
may_store base post found (Index seat index) = if base_index base index then seat == post.seat else hands base found seat index
may_store base post found (Whole seat) = base_whole base && seat == post.seat

-- what a guard publishes once the step has stored its word
abbrev pub at_shows : ProtectAt → Option Interval → Option Interval
at_shows (PublishEra era tries) last = one_era era
at_shows (PublishHelper first era final) last = one_era era
at_shows (TakeAnswer link era) last = one_era era
at_shows (RaiseUpper era) last = from_to (lower last) era
at_shows at last = None

abbrev pub move_shows : MoveAt → Option Interval
move_shows (ShowEra era seat tag index root) = one_era era
move_shows (HandOver era seat tag index root link old) = one_era era
move_shows at = None

abbrev pub begin_shows : BeginAt → Option Interval
begin_shows LoadLower = None
begin_shows (PublishSpan era) = from_to era era

abbrev pub base_shows : Base → Post → Option Interval
base_shows (Begin at) post = begin_shows at
base_shows (Protect aim index root made at) post = at_shows at post.span
base_shows (Move at) post = move_shows at
base_shows base post = None

abbrev pub may_publish : Base → Post → (found : ℕ) → Guard → Option Interval → Bool
may_publish base post found guard span = may_store base post found guard && same_span span (base_shows base post)

-- the step that moves the clock
abbrev pub move_ticks : MoveAt → (found era : ℕ) → Bool
move_ticks (ExchangeClock last) found era = found == last && era == last + 1
move_ticks at found era = false

abbrev pub ticks : Base → (found era : ℕ) → Bool
ticks (Move at) found era = move_ticks at found era
ticks base found era = false

-- the steps that give a row, give one up and retire one
abbrev pub allocate_gives : AllocateAt → (found slot birth : ℕ) → Bool
allocate_gives (ClaimSlot clock walk) found slot birth = not (allocates.is_claimed found walk.slot) && (slot == walk.slot && birth == clock)
allocate_gives at found slot birth = false

abbrev pub gives : Base → (found slot birth : ℕ) → Bool
gives (Allocate at) found slot birth = allocate_gives at found slot birth
gives base found slot birth = false

abbrev pub gives_up : Base → (slot : ℕ) → Bool
gives_up (GiveUp own) slot = slot == own
gives_up base slot = false

abbrev pub retire_stores : RetireAt → (slot birth retire : ℕ) → Bool
retire_stores (StoreRetired own first clock) slot birth retire = slot == own && (birth == first && retire == clock)
retire_stores at slot birth retire = false

abbrev pub retires : Base → (slot birth retire : ℕ) → Bool
retires (Retire at) slot birth retire = retire_stores at slot birth retire
retires base slot birth retire = false

-- the steps that find what their protection is for; it tells the number of its step
abbrev pub hazard_finds : HazardAt → Bool
hazard_finds FirstLink = true
hazard_finds (PublishLink link) = false
hazard_finds (CheckLink link) = true

abbrev pub at_finds : ProtectAt → Bool
at_finds (CheckClock era tries link) = true
at_finds (TakeAnswer link era) = true
at_finds (CheckUpper link) = true
at_finds (ByHazard at) = hazard_finds at
at_finds at = false

abbrev pub finds_none : Base → (index n : ℕ) → Bool
finds_none (Protect aim own root made at) index n = at_finds at && (index == own && n == bump made)
finds_none base index n = false

abbrev pub finds_row : Base → (index n : ℕ) → Bool
finds_row (Reload parent own slot era made) index n = index == own && n == bump made
finds_row base index n = finds_none base index n

-- the steps after which what stood at an index stands no more
abbrev pub clears : Base → (index : ℕ) → Bool
clears (Clear rows own) index = index == own
clears (Release own) index = index == own
clears base index = false

-- the step that takes an answer
abbrev pub takes : Base → Bool
takes (Protect aim index root made (TakeAnswer link era)) = true
takes base = false

abbrev pub may_tell : Base → Post → (found : ℕ) → Event → Bool
may_tell base post found (events.Era era) = ticks base found era
may_tell base post found (events.Reserve guard span) = may_publish base post found guard span
may_tell base post found (events.Hazard guard row) = may_hazard base post guard row
may_tell base post found (events.Give slot birth) = gives base found slot birth
may_tell base post found (events.Unused slot) = gives_up base slot
may_tell base post found (events.Retire slot birth retire) = retires base slot birth retire
may_tell base post found (events.Held index slot n) = finds_row base index n
may_tell base post found (events.Null index n) = finds_none base index n
may_tell base post found (events.Clear index slot) = clears base index
may_tell base post found event = false

-- a test that a step's machine is known to pass
abbrev pub Tells : Base → Post → ℕ → Event → Type 0
Tells base post found event = may_tell base post found event ≡ true

-- a row that is held, or none
abbrev pub is_find : Event → Bool
is_find (events.Held index slot n) = true
is_find (events.Null index n) = true
is_find event = false

-- the five shapes
pub data Shape (base : Base) (post : Post) (found : ℕ) (told : List Event) : Type 0 where
  Silent : told ≡ [] → Shape base post found told
  Single : (event : Event) → told ≡ event ∷ [] → Tells base post found event → Shape base post found told
  Clears : (index slot : ℕ) (guard : Guard) → told ≡ events.Clear index slot ∷ events.Reserve guard None ∷ [] → Tells base post found (events.Clear index slot) → Tells base post found (events.Reserve guard None) → Shape base post found told
  Drops : (index slot : ℕ) (guard : Guard) → told ≡ events.Clear index slot ∷ events.Hazard guard None ∷ [] → Tells base post found (events.Clear index slot) → Tells base post found (events.Hazard guard None) → Shape base post found told
  Takes : (guard : Guard) (span : Option Interval) (event : Event) → told ≡ events.Reserve guard span ∷ event ∷ [] → takes base ≡ true → is_find event ≡ true → Tells base post found (events.Reserve guard span) → Tells base post found event
      → Shape base post found told

shape_if : (base : Base) (post : Post) (found : ℕ) (b : Bool) (t u : Turn) → Shape base post found t.told → Shape base post found u.told → Shape base post found (if b then t else u).told
shape_if base post found true t u h k = h
shape_if base post found false t u h k = k

pub own_two : (m n : ℕ) → (m == m && n == n) ≡ true
own_two m n = both (m == m) (n == n) (same_number m) (same_number n)

span_self : (span : Option Interval) → same_span span span ≡ true
span_self None = refl
span_self (Some span) = own_two span.lo span.hi

own_span : (seat : ℕ) (span : Option Interval) → (seat == seat && same_span span span) ≡ true
own_span seat span = both (seat == seat) (same_span span span) (same_number seat) (span_self span)

own_index : (seat index : ℕ) (span : Option Interval) (b : Bool) → ((if index == index then seat == seat else b) && same_span span span) ≡ true
own_index seat index span b = let e : (index == index) ≡ true = same_number index in rw e (own_span seat span)

own_row : (index seat : ℕ) (row : Option ℕ) → (index == index && (seat == seat && same_row row row)) ≡ true
own_row index seat row = both (index == index) (seat == seat && same_row row row) (same_number index) (both (seat == seat) (same_row row row) (same_number seat) (row_self row))
  where
    row_self : (row : Option ℕ) → same_row row row ≡ true
    row_self None = refl
    row_self (Some row) = same_number row

-- what is told where a protection ends its search, and where an index is cleared, one case each
pub held_any : (P : List Event → Type 0) (index : ℕ) (root : Root) (link n : ℕ) → P [] → P (events.Null index n ∷ []) → ((slot : ℕ) → P (events.Held index slot n ∷ [])) → P (protects.told_held index root link n)
held_any P index root link n a b c = by root
  where
    two : (none : Bool) → P (if none then events.Null index n ∷ [] else events.Held index (link - 1) n ∷ [])
    two true = b
    two false = c (link - 1)

    one : (none : Bool) → P (if none then events.Null index n ∷ [] else [])
    one true = b
    one false = a

    by : (root : Root) → P (protects.told_held index root link n)
    by (roots.Next parent) = one (link == 0)
    by (roots.Bucket bucket) = two (link == 0)
    by roots.Head = two (link == 0)
    by roots.Tail = two (link == 0)

pub cleared_any : (P : List Event → Type 0) (index : ℕ) (o : Option ℕ) → P [] → ((slot : ℕ) → P (events.Clear index slot ∷ [])) → P (cleared index o)
cleared_any P index None a b = a
cleared_any P index (Some slot) a b = b slot

pub clear_any : (P : List Event → Type 0) (scheme : SchemeKind) (post : Post) (index : ℕ) → P [] → ((slot : ℕ) → P (events.Clear index slot ∷ [])) → P (clear_told scheme post index)
clear_any P He post index a b = a
clear_any P Ibr post index a b = cleared_any P index (stands post index) a b
clear_any P Wfe post index a b = a
clear_any P Hp post index a b = a

held_shape : (base : Base) (post : Post) (found index : ℕ) (root : Root) (link n : ℕ) → finds_none base index n ≡ true → finds_row base index n ≡ true → Shape base post found (protects.told_held index root link n)
held_shape base post found index root link n a b = held_any (Shape base post found) index root link n (Silent refl) (Single (events.Null index n) refl a) (λ slot. Single (events.Held index slot n) refl b)

take_shape : (base : Base) (post : Post) (found index : ℕ) (guard : Guard) (span : Option Interval) (root : Root) (link n : ℕ) → takes base ≡ true → Tells base post found (events.Reserve guard span) → finds_none base index n ≡ true → finds_row base index n ≡ true
    → Shape base post found (events.Reserve guard span ∷ protects.told_held index root link n)
take_shape base post found index guard span root link n t p a b =
    held_any (λ told. Shape base post found (events.Reserve guard span ∷ told)) index root link n (Single (events.Reserve guard span) refl p) (Takes guard span (events.Null index n) refl t refl p a) (λ slot. Takes guard span (events.Held index slot n) refl t refl p b)

pub concluded_told : (aim : Aim) (index : ℕ) (root : Root) (n link era : ℕ) (post : Post) (told : List Event) → (protects.concluded aim index root n link era post told).told ≡ told
concluded_told Alone index root n link era post told = refl
concluded_told Follows index root n link era post told = by (link == 0) _ _ refl refl
  where
    by : (b : Bool) (t u : Turn) → t.told ≡ told → u.told ≡ told → (if b then t else u).told ≡ told
    by true t u h k = h
    by false t u h k = k

concluded_shape : (base : Base) (post : Post) (found : ℕ) (aim : Aim) (index : ℕ) (root : Root) (n link era : ℕ) (next : Post) (told : List Event) → Shape base post found told → Shape base post found (protects.concluded aim index root n link era next told).told
concluded_shape base post found aim index root n link era next told h = rw (concluded_told aim index root n link era next told) h

abbrev Shaped : Base → Post → ℕ → Type 0
Shaped base post found = Shape base post found (machine.after base post found).told

hazard_shape : (aim : Aim) (index : ℕ) (root : Root) (made : ℕ) (at : HazardAt) (post : Post) (found : ℕ) → Shaped (Protect aim index root made (ByHazard at)) post found
hazard_shape aim index root made FirstLink post found =
    let base : Base = Protect aim index root made (ByHazard FirstLink) in
    shape_if base post found (found == 0) _ _
    (concluded_shape base post found aim index root (bump made) found 0 (protects.held_post post index root found) (protects.told_held index root found (bump made)) (held_shape base post found index root found (bump made) (own_two index (bump made)) (own_two index (bump made)))) (Silent refl)
hazard_shape aim index root made (PublishLink link) post found = Single (events.Hazard (Index post.seat index) (linked_row link)) refl (own_row index post.seat (linked_row link))
hazard_shape aim index root made (CheckLink link) post found =
    let base : Base = Protect aim index root made (ByHazard (CheckLink link)) in
    shape_if base post found (found == link || found == 0) _ _
    (concluded_shape base post found aim index root (bump made) found 0 (protects.held_post post index root found) (protects.told_held index root found (bump made)) (held_shape base post found index root found (bump made) (own_two index (bump made)) (own_two index (bump made)))) (Silent refl)

protect_shape : (aim : Aim) (index : ℕ) (root : Root) (made : ℕ) (at : ProtectAt) (post : Post) (found : ℕ) → Shaped (Protect aim index root made at) post found
protect_shape aim index root made (PublishEra era tries) post found = Single (events.Reserve (Index post.seat index) (one_era era)) refl (own_index post.seat index (one_era era) false)
protect_shape aim index root made (CheckClock era tries link) post found =
    let base : Base = Protect aim index root made (CheckClock era tries link) in
    shape_if base post found (found == era) _ _
    (concluded_shape base post found aim index root (bump made) link era (protects.held_post post index root link) (protects.told_held index root link (bump made)) (held_shape base post found index root link (bump made) (own_two index (bump made)) (own_two index (bump made)))) (Silent refl)
protect_shape aim index root made (PublishHelper first era last) post found = Single (events.Reserve (Helper post.seat) (one_era era)) refl (own_span post.seat (one_era era))
protect_shape aim index root made (CheckOwnClock first era last link) post found = shape_if _ post found (found == era) _ _ (Silent refl) (Silent refl)
protect_shape aim index root made (AnswerOwn first era link) post found = shape_if _ post found (found == own_request post index root) _ _ (Silent refl) (Silent refl)
protect_shape aim index root made (TakeAnswer link era) post found =
    take_shape (Protect aim index root made (TakeAnswer link era)) post found index (Index post.seat index) (one_era era) root link (bump made) refl (own_index post.seat index (one_era era) false) (own_two index (bump made)) (own_two index (bump made))
protect_shape aim index root made (WithdrawHelper link era) post found =
    let base : Base = Protect aim index root made (WithdrawHelper link era) in
    concluded_shape base post found aim index root (bump made) link era post (reserves_helper post 0) (Single (events.Reserve (Helper post.seat) None) refl (own_span post.seat None))
protect_shape aim index root made (CheckUpper link) post found =
    let base : Base = Protect aim index root made (CheckUpper link) in
    shape_if base post found (found == upper post.span) _ _
    (concluded_shape base post found aim index root (bump made) link found (protects.held_post post index root link) (protects.told_held index root link (bump made)) (held_shape base post found index root link (bump made) (own_two index (bump made)) (own_two index (bump made)))) (Silent refl)
protect_shape aim index root made (RaiseUpper era) post found = Single (events.Reserve (Whole post.seat) (from_to (lower post.span) era)) refl (own_span post.seat (from_to (lower post.span) era))
protect_shape aim index root made (ByHazard at) post found = hazard_shape aim index root made at post found
protect_shape aim index root made at post found = Silent refl

hand_shape : (era seat tag index : ℕ) (root : Root) (link old : ℕ) (post : Post) (found : ℕ) (same : Bool) → (found == reservation_word (record { era = old; tag = tag })) ≡ same
    → Shape (Move (HandOver era seat tag index root link old)) post found (movers.after_hand_over era seat tag index old post same).told
hand_shape era seat tag index root link old post found true e =
    let own : (seat == seat && index == index) ≡ true = own_two seat index in
    let t : Tells (Move (HandOver era seat tag index root link old)) post found (events.Reserve (Index seat index) (one_era era)) = rw (e, own) (span_self (one_era era)) in
    Single (events.Reserve (Index seat index) (one_era era)) refl t
hand_shape era seat tag index root link old post found false e = Silent refl

tick_shape : (era : ℕ) (post : Post) (found : ℕ) (same : Bool) → (found == era) ≡ same → Shaped (Move (ExchangeClock era)) post found
tick_shape era post found true e = rw e (Single (events.Era (era + 1)) refl (both (found == era) (era + 1 == era + 1) e (same_number (era + 1))))
tick_shape era post found false e = rw e (Silent refl)

move_shape : (at : MoveAt) (post : Post) (found : ℕ) → Shaped (Move at) post found
move_shape (LoadEra helps) post found = shape_if _ post found (found == post.layout.config.last_era) _ _ (Silent refl) (Silent refl)
move_shape (LoadRequest era seat shows) post found = Silent refl
move_shape (ShowEra era seat tag index root) post found = Single (events.Reserve (Helper post.seat) (one_era era)) refl (own_span post.seat (one_era era))
move_shape (LoadAsked era seat tag index root) post found = Silent refl
move_shape (CheckEra era seat tag index root link) post found = shape_if _ post found (found == era) _ _ (Silent refl) (Silent refl)
move_shape (AnswerAsked era seat tag index root link) post found = shape_if _ post found (found == asking post.layout tag index root) _ _ (Silent refl) (Silent refl)
move_shape (LoadReserved era seat tag index root link) post found = shape_if _ post found ((read_reservation found).tag == tag) _ _ (Silent refl) (Silent refl)
move_shape (HandOver era seat tag index root link old) post found = hand_shape era seat tag index root link old post found (found == reservation_word (record { era = old; tag = tag })) refl
move_shape (HideEra era) post found = Single (events.Reserve (Helper post.seat) None) refl (own_span post.seat None)
move_shape (HideLate seen) post found = Single (events.Reserve (Helper post.seat) None) refl (own_span post.seat None)
move_shape (ExchangeClock era) post found = tick_shape era post found (found == era) refl

claim_shape : (birth : ℕ) (walk : Walk) (post : Post) (found : ℕ) (x : Bool) → allocates.is_claimed found walk.slot ≡ x → Shaped (Allocate (ClaimSlot birth walk)) post found
claim_shape birth walk post found true e = rw e (walking (allocates.walk_past post.layout.config.slots walk found))
  where
    walking : (x : Option Walk) → Shape (Allocate (ClaimSlot birth walk)) post found (allocates.walking birth post x).told
    walking None = Silent refl
    walking (Some next) = Silent refl
claim_shape birth walk post found false e = let t : Tells (Allocate (ClaimSlot birth walk)) post found (events.Give walk.slot birth) = rw e (own_two walk.slot birth) in rw e (Single (events.Give walk.slot birth) refl t)

cleared_shape : (base : Base) (post : Post) (found index : ℕ) (guard : Guard) (o : Option ℕ) → clears base index ≡ true → Tells base post found (events.Reserve guard None) → Shape base post found (cleared index o ++ events.Reserve guard None ∷ [])
cleared_shape base post found index guard None c p = Single (events.Reserve guard None) refl p
cleared_shape base post found index guard (Some slot) c p = Clears index slot guard refl c p

dropped_shape : (base : Base) (post : Post) (found index : ℕ) (guard : Guard) (o : Option ℕ) → clears base index ≡ true → Tells base post found (events.Hazard guard None) → Shape base post found (cleared index o ++ events.Hazard guard None ∷ [])
dropped_shape base post found index guard None c p = Single (events.Hazard guard None) refl p
dropped_shape base post found index guard (Some slot) c p = Drops index slot guard refl c p

pub shape_of : (base : Base) (post : Post) (found : ℕ) → Shaped base post found
shape_of (Begin (PublishSpan era)) post found = Single (events.Reserve (Whole post.seat) (from_to era era)) refl (own_span post.seat (from_to era era))
shape_of (Protect aim index root made at) post found = protect_shape aim index root made at post found
shape_of (Reload parent index slot era made) post found = shape_if _ post found (found == parent + 1) _ _ (Single (events.Held index slot (bump made)) refl (own_two index (bump made))) (Silent refl)
shape_of (Clear true index) post found = dropped_shape (Clear true index) post found index (Index post.seat index) (stands post index) (same_number index) (own_row index post.seat None)
shape_of (Clear false index) post found = cleared_shape (Clear false index) post found index (Index post.seat index) (stands post index) (same_number index) (own_index post.seat index None false)
shape_of Finish post found = Single (events.Reserve (Whole post.seat) None) refl (own_span post.seat None)
shape_of (Release index) post found = cleared_shape (Release index) post found index (Whole post.seat) (stands post index) (same_number index) (own_span post.seat None)
shape_of (Allocate (ClaimSlot birth walk)) post found = claim_shape birth walk post found (allocates.is_claimed found walk.slot) refl
shape_of (Write slot row place) post found = shape_if _ post found (place == last_written row) _ _ (Silent refl) (Silent refl)
shape_of (GiveUp slot) post found = Single (events.Unused slot) refl (same_number slot)
shape_of (Retire (StoreRetired slot birth retire)) post found = Single (events.Retire slot birth retire) refl (both (slot == slot) (birth == birth && retire == retire) (same_number slot) (own_two birth retire))
shape_of (Move at) post found = move_shape at post found
shape_of base post found = Silent refl

-- each event passes the test
shape_tells : (base : Base) (post : Post) (found : ℕ) (told : List Event) → Shape base post found told → all_of (may_tell base post found) told ≡ true
shape_tells base post found told (Silent e) = rw e refl
shape_tells base post found told (Single event e a) = rw e (and_true (may_tell base post found event) a)
shape_tells base post found told (Clears index slot guard e a b) =
    rw e (both (may_tell base post found (events.Clear index slot)) (may_tell base post found (events.Reserve guard None) && true) a (and_true (may_tell base post found (events.Reserve guard None)) b))
shape_tells base post found told (Drops index slot guard e a b) =
    rw e (both (may_tell base post found (events.Clear index slot)) (may_tell base post found (events.Hazard guard None) && true) a (and_true (may_tell base post found (events.Hazard guard None)) b))
shape_tells base post found told (Takes guard span event e t f a b) =
    rw e (both (may_tell base post found (events.Reserve guard span)) (may_tell base post found event && true) a (and_true (may_tell base post found event) b))

pub base_tells : (base : Base) (post : Post) (found : ℕ) → all_of (may_tell base post found) (machine.after base post found).told ≡ true
base_tells base post found = shape_tells base post found (machine.after base post found).told (shape_of base post found)

-- so it passes what each event passes that it may tell
pub base_all : (ok : Event → Bool) (base : Base) (post : Post) (found : ℕ) → ((event : Event) → Tells base post found event → ok event ≡ true) → all_of ok (machine.after base post found).told ≡ true
base_all ok base post found w = of_weaker (may_tell base post found) ok (machine.after base post found).told w (base_tells base post found)

-- a guard is told to publish what the step shows, and a step that stores no guard's word tells of none
pub span_of : (base : Base) (post : Post) (found : ℕ) (guard : Guard) (span : Option Interval) → may_publish base post found guard span ≡ true → span ≡ base_shows base post
span_of base post found guard span h = span_is span (base_shows base post) (rest_of (may_store base post found guard) (same_span span (base_shows base post)) h)

abbrev pub at_stores : ProtectAt → Bool
at_stores at = at_helper at || at_index at || at_whole at

abbrev pub move_stores : MoveAt → Bool
move_stores (HandOver era seat tag index root link old) = true
move_stores at = move_helper at

abbrev pub publishes : Base → Bool
publishes (Begin at) = begin_whole at
publishes (Protect aim index root made at) = at_stores at
publishes (Clear rows index) = true
publishes Finish = true
publishes (Release index) = true
publishes (Move at) = move_stores at
publishes base = false

at_bare : (aim : Aim) (own : ℕ) (root : Root) (made : ℕ) (at : ProtectAt) (post : Post) (found : ℕ) (guard : Guard) → at_stores at ≡ false → may_store (Protect aim own root made at) post found guard ≡ false
at_bare aim own root made (LoadClock tries) post found (Helper seat) p = refl
at_bare aim own root made (LoadClock tries) post found (Index seat index) p = refl
at_bare aim own root made (LoadClock tries) post found (Whole seat) p = refl
at_bare aim own root made at post found (Helper seat) p = cc
at_bare aim own root made at post found (Index seat index) p = cc
at_bare aim own root made at post found (Whole seat) p = cc

move_bare : (at : MoveAt) (post : Post) (found : ℕ) (guard : Guard) → move_stores at ≡ false → may_store (Move at) post found guard ≡ false
move_bare (LoadEra helps) post found (Helper seat) p = refl
move_bare (LoadEra helps) post found (Index seat index) p = refl
move_bare (LoadEra helps) post found (Whole seat) p = refl
move_bare at post found (Helper seat) p = cc
move_bare at post found (Index seat index) p = cc
move_bare at post found (Whole seat) p = cc

store_bare : (base : Base) (post : Post) (found : ℕ) (guard : Guard) → publishes base ≡ false → may_store base post found guard ≡ false
store_bare (Protect aim own root made at) post found guard p = at_bare aim own root made at post found guard p
store_bare (Move at) post found guard p = move_bare at post found guard p
store_bare (Begin LoadLower) post found (Helper seat) p = refl
store_bare (Begin LoadLower) post found (Index seat index) p = refl
store_bare (Begin LoadLower) post found (Whole seat) p = refl
store_bare base post found (Helper seat) p = cc
store_bare base post found (Index seat index) p = cc
store_bare base post found (Whole seat) p = cc

pub bare : (base : Base) (post : Post) (found : ℕ) (guard : Guard) (span : Option Interval) → publishes base ≡ false → may_publish base post found guard span ≡ false
bare base post found guard span p = rw (store_bare base post found guard p) refl

abbrev pub is_reserve : Event → Bool
is_reserve (events.Reserve guard span) = true
is_reserve event = false

one_unreserved : (base : Base) (post : Post) (found : ℕ) (event : Event) → publishes base ≡ false → Tells base post found event → not (is_reserve event) ≡ true
one_unreserved base post found (events.Reserve guard span) p t = absurd (false_not_true (may_publish base post found guard span) (bare base post found guard span p) t)
one_unreserved base post found event p t = refl

pub no_reserve : (base : Base) (post : Post) (found : ℕ) → publishes base ≡ false → all_of (λ event. not (is_reserve event)) (machine.after base post found).told ≡ true
no_reserve base post found p = base_all (λ event. not (is_reserve event)) base post found (λ event. one_unreserved base post found event p)

abbrev pub is_hazard : Event → Bool
is_hazard (events.Hazard guard row) = true
is_hazard event = false

-- a step that neither publishes nor withdraws a row tells of none
abbrev pub hazards : Base → Bool
hazards (Protect aim own root made at) = at_hazards at
hazards (Clear rows own) = rows
hazards base = false

hazard_bare : (base : Base) (index : ℕ) → hazards base ≡ false → base_hazards base index ≡ false
hazard_bare (Protect aim own root made at) index p = rw p refl
hazard_bare (Clear true own) index p = absurd (cc)
hazard_bare (Clear false own) index p = refl
hazard_bare base index p = refl

one_unhazarded : (base : Base) (post : Post) (found : ℕ) (event : Event) → hazards base ≡ false → Tells base post found event → not (is_hazard event) ≡ true
one_unhazarded base post found (events.Hazard (Index seat index) row) p t =
    absurd (false_not_true (base_hazards base index) (hazard_bare base index p) (first_of (base_hazards base index) (seat == post.seat && same_row row (base_row base)) t))
one_unhazarded base post found (events.Hazard (Helper seat) row) p t = absurd (cc)
one_unhazarded base post found (events.Hazard (Whole seat) row) p t = absurd (cc)
one_unhazarded base post found event p t = refl

pub no_hazard : (base : Base) (post : Post) (found : ℕ) → hazards base ≡ false → all_of (λ event. not (is_hazard event)) (machine.after base post found).told ≡ true
no_hazard base post found p = base_all (λ event. not (is_hazard event)) base post found (λ event. one_unhazarded base post found event p)

-- a step that finds nothing tells no number of steps
abbrev pub finds : Base → Bool
finds (Protect aim index root made at) = at_finds at
finds (Reload parent index slot era made) = true
finds base = false

one_unfound : (base : Base) (post : Post) (found : ℕ) (event : Event) → finds base ≡ false → Tells base post found event → not (is_find event) ≡ true
one_unfound (Protect aim own root made at) post found (events.Held index slot n) f t = absurd (false_not_true (at_finds at) f (first_of (at_finds at) (index == own && n == bump made) t))
one_unfound (Protect aim own root made at) post found (events.Null index n) f t = absurd (false_not_true (at_finds at) f (first_of (at_finds at) (index == own && n == bump made) t))
one_unfound base post found (events.Held index slot n) f t = absurd (cc)
one_unfound base post found (events.Null index n) f t = absurd (cc)
one_unfound base post found event f t = refl

pub no_find : (base : Base) (post : Post) (found : ℕ) → finds base ≡ false → all_of (λ event. not (is_find event)) (machine.after base post found).told ≡ true
no_find base post found f = base_all (λ event. not (is_find event)) base post found (λ event. one_unfound base post found event f)

-- a step that stores no index word tells of none
abbrev pub is_index : Event → Bool
is_index (events.Reserve (Index seat index) span) = true
is_index (events.Hazard guard row) = true
is_index event = false

abbrev pub stores_index : Base → Bool
stores_index (Protect aim index root made at) = at_hazards at || at_index at
stores_index (Clear rows index) = true
stores_index (Move (HandOver era seat tag index root link old)) = true
stores_index base = false

left_false : (a b : Bool) → (a || b) ≡ false → a ≡ false
left_false true b h = h
left_false false b h = refl

right_false : (a b : Bool) → (a || b) ≡ false → b ≡ false
right_false true b h = absurd (cc)
right_false false b h = h

one_unindexed : (base : Base) (post : Post) (found : ℕ) (event : Event) → stores_index base ≡ false → Tells base post found event → not (is_index event) ≡ true
one_unindexed (Protect aim own root made at) post found (events.Hazard (Index seat index) row) f t = absurd (false_not_true (at_hazards at) (left_false (at_hazards at) (at_index at) f) (first_of (at_hazards at) (index == own) (first_of (at_hazards at && index == own) (seat == post.seat && same_row row (at_row at)) t)))
one_unindexed base post found (events.Hazard (Helper seat) row) f t = absurd (cc)
one_unindexed base post found (events.Hazard (Whole seat) row) f t = absurd (cc)
one_unindexed base post found (events.Hazard (Index seat index) row) f t = absurd (cc)
one_unindexed (Protect aim own root made at) post found (events.Reserve (Index seat index) span) f t = let e : at_index at ≡ false = right_false (at_hazards at) (at_index at) f in let q : false ≡ true = rw e at t in absurd (cc)
one_unindexed (Move (LoadEra helps)) post found (events.Reserve (Index seat index) span) f t = absurd (cc)
one_unindexed (Move at) post found (events.Reserve (Index seat index) span) f t = absurd (cc)
one_unindexed base post found (events.Reserve (Index seat index) span) f t = absurd (cc)
one_unindexed base post found (events.Reserve (Helper seat) span) f t = refl
one_unindexed base post found (events.Reserve (Whole seat) span) f t = refl
one_unindexed base post found event f t = refl

pub no_index : (base : Base) (post : Post) (found : ℕ) → stores_index base ≡ false → all_of (λ event. not (is_index event)) (machine.after base post found).told ≡ true
no_index base post found f = base_all (λ event. not (is_index event)) base post found (λ event. one_unindexed base post found event f)

-- what comes after a machine
pub cleared_all : (ok : Event → Bool) (index : ℕ) (o : Option ℕ) → ((index slot : ℕ) → ok (events.Clear index slot) ≡ true) → all_of ok (cleared index o) ≡ true
cleared_all ok index o c = cleared_any (λ told. all_of ok told ≡ true) index o refl (λ slot. and_true (ok (events.Clear index slot)) (c index slot))

pub clear_all : (ok : Event → Bool) (scheme : SchemeKind) (post : Post) (index : ℕ) → ((index slot : ℕ) → ok (events.Clear index slot) ≡ true) → all_of ok (clear_told scheme post index) ≡ true
clear_all ok scheme post index c = clear_any (λ told. all_of ok told ≡ true) scheme post index refl (λ slot. and_true (ok (events.Clear index slot)) (c index slot))

-- what a step of a call on what is kept tells: a row that is let go, or copied, with the era that is published for it
copied_all : (ok : Event → Bool) (from index : ℕ) (post : Post) (reserved : List Event) (o : Option ℕ) → all_of ok (cleared index (stands post index)) ≡ true → all_of ok reserved ≡ true → ((slot : ℕ) → ok (events.Copied from index slot) ≡ true) → all_of ok (copied_told from index post reserved o) ≡ true
copied_all ok from index post reserved None c r p = refl
copied_all ok from index post reserved (Some slot) c r p =
    of_along ok (cleared index (stands post index) ++ reserved) (events.Copied from index slot ∷ []) (of_along ok (cleared index (stands post index)) reserved c r) (and_true (ok (events.Copied from index slot)) (p slot))

-- what a seat tells that lets go of all that stands
pub cleared_from_all : (ok : Event → Bool) (index : ℕ) (rows : List (Option ℕ)) → ((index slot : ℕ) → ok (events.Clear index slot) ≡ true) → all_of ok (cleared_from index rows) ≡ true
cleared_from_all ok index [] c = refl
cleared_from_all ok index (row ∷ rows) c = of_along ok (cleared index row) (cleared_from (index + 1) rows) (cleared_all ok index row c) (cleared_from_all ok (index + 1) rows c)

pub keep_all : (ok : Event → Bool) → ((index slot : ℕ) → ok (events.Clear index slot) ≡ true) → ((from index slot : ℕ) → ok (events.Copied from index slot) ≡ true) → ((seat index era : ℕ) → ok (events.Reserve (Index seat index) (one_era era)) ≡ true) → ((seat : ℕ) → ok (events.Reserve (Whole seat) None) ≡ true) → ((seat index link : ℕ) → ok (events.Hazard (Index seat index) (linked_row link)) ≡ true)
    → (at : KeepAt) (post : Post) → all_of ok (keep_told at post) ≡ true
keep_all ok c p r w h (Loosens let_go) post = cleared_all ok (let_index let_go) (stands post (let_index let_go)) c
keep_all ok c p r w h (LoadHeld from index) post = by (has_one_interval (scheme_of post))
  where
    by : (one : Bool) → all_of ok (if one then copied_told from index post [] (stands post from) else []) ≡ true
    by true = copied_all ok from index post [] (stands post from) (cleared_all ok index (stands post index) c) refl (p from index)
    by false = refl
keep_all ok c p r w h (StoreHeld from index number) post =
    copied_all ok from index post (publishes_index (publishes_rows (scheme_of post)) post index number) (stands post from) (cleared_all ok index (stands post index) c) (by (publishes_rows (scheme_of post))) (p from index)
  where
    by : (rows : Bool) → all_of ok (publishes_index rows post index number) ≡ true
    by false = and_true (ok (events.Reserve (Index post.seat index) (one_era number))) (r post.seat index number)
    by true = and_true (ok (events.Hazard (Index post.seat index) (linked_row number))) (h post.seat index number)
keep_all ok c p r w h (Looks index key at) post = refl
keep_all ok c p r w h (Misses index) post = refl
keep_all ok c p r w h HideSpan post =
    of_along ok (cleared_from 2 (drop 2 post.standing)) (reserves_span post None) (cleared_from_all ok 2 (drop 2 post.standing) c) (and_true (ok (events.Reserve (Whole post.seat) None)) (w post.seat))
keep_all ok c p r w h MarkLeft post = refl
keep_all ok c p r w h (TakeList place) post = refl
keep_all ok c p r w h (MarkTaken place count) post = refl

-- so of any work
pub work_all : (ok : Event → Bool) → ((index slot : ℕ) → ok (events.Clear index slot) ≡ true) → ((from index slot : ℕ) → ok (events.Copied from index slot) ≡ true) → ((seat index era : ℕ) → ok (events.Reserve (Index seat index) (one_era era)) ≡ true) → ((seat : ℕ) → ok (events.Reserve (Whole seat) None) ≡ true) → ((seat index link : ℕ) → ok (events.Hazard (Index seat index) (linked_row link)) ≡ true)
    → (work : Work) (post : Post) → all_of ok (work_told work post) ≡ true
work_all ok c p r w h (Keeping at) post = keep_all ok c p r w h at post
work_all ok c p r w h (Getting key at) post = refl
work_all ok c p r w h (Changing kept at) post = refl
work_all ok c p r w h (Enqueuing kept at) post = refl
work_all ok c p r w h (Dequeuing at) post = refl

-- a test that all passes which comes after a machine
pub record Passes (ok : Event → Bool) : Type 0 where
  pub quiet : (event : Event) → is_quiet event ≡ true → ok event ≡ true
  pub clears : (index slot : ℕ) → ok (events.Clear index slot) ≡ true

pub all_closed : (ok : Event → Bool) → Passes ok → Closed (λ post told. all_of ok told ≡ true)
all_closed ok p = record {
  calm = λ post told more q h. of_along ok told more h (of_weaker is_quiet ok more p.quiet q);
  clears = λ post told index h. of_along ok told (clear_told (scheme_of post) post index) h (clear_all ok (scheme_of post) post index p.clears);
}

pub step_all : (ok : Event → Bool) → Passes ok → (phase : Phase) (post : Post) (desk : Desk) (found : ℕ) → First (λ post told. all_of ok told ≡ true) phase post found → all_of ok (told_by (steps.phase_turn phase post desk found)) ≡ true
step_all ok p phase post desk found h = step_goes (λ post told. all_of ok told ≡ true) (all_closed ok p) phase post desk found h
