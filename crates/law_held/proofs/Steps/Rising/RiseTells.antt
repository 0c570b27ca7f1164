-- What a step tells of guards grows: what its seat was about to publish is later than what is published.
use Rattle.std.proofs.Common.{ℕ, ◌≡◌, ◌≤◌, ◌<◌, Bool, true, false, List, [], ◌∷◌, ◌++◌, Option, Some, None, refl, sym, ap, ◌∙◌, subst, arith}
use Rattle.std.proofs.lemmas.Bool.Decides.{nat_tests}
use Rattle.std.specs.Prelude.{◌==◌, ◌||◌, drop, is_some, if◌then◌else◌, nat_lt, not}
use Rattle.law_scans.specs.inv.model.words.Packed.{reservation_word}
use Rattle.law_scans.specs.inv.model.defs.declared.event.Event.{Event}
use Rattle.law_scans.specs.inv.model.defs.declared.event.Event.TheVariants as events
use Rattle.law_scans.specs.inv.model.defs.declared.event.Guard.{Guard}
use Rattle.law_scans.specs.inv.model.defs.declared.event.Guard.TheVariants.{Helper, Index, Whole}
use Rattle.law_scans.specs.inv.model.defs.declared.event.Root.{Root}
use Rattle.law_scans.specs.inv.model.defs.declared.lifetime.Interval.{Interval}
use Rattle.law_scans.specs.inv.model.declared.post.Post.{Post}
use Rattle.law_scans.specs.inv.model.Guards.{one_era, from_to}
use Rattle.law_scans.specs.inv.model.Machine as machine
use Rattle.law_scans.specs.inv.model.Memory.{bump}
use Rattle.law_scans.specs.inv.model.MoveClock as movers
use Rattle.law_scans.specs.inv.model.Phases.{Aim, ProtectAt, MoveAt, Base}
use Rattle.law_scans.specs.inv.model.Phases.BeginAt.{LoadLower, PublishSpan}
use Rattle.law_scans.specs.inv.model.Phases.ProtectAt.{PublishEra, PublishHelper, TakeAnswer, WithdrawHelper, RaiseUpper}
use Rattle.law_scans.specs.inv.model.Phases.MoveAt.{ShowEra, HandOver, HideEra, HideLate}
use Rattle.law_scans.specs.inv.model.Phases.Base.{Begin, Protect, Clear, Finish, Release, Move}
use Rattle.law_scans.specs.inv.model.Posts.{stands, cleared, cleared_from, lower, upper, publishes_index, reserves_helper, reserves_span}
use Rattle.law_scans.specs.inv.model.Calls.{Work, Getting, Changing, Enqueuing, Dequeuing, Keeping, Loosens, LoadHeld, StoreHeld, Looks, Misses, HideSpan, MarkLeft, TakeList, MarkTaken}
use Rattle.law_scans.specs.inv.model.words.Schemes.{has_one_interval, publishes_rows}
use Rattle.law_scans.specs.inv.model.words.declared.config.Config.{Config}
use Rattle.law_scans.specs.inv.shapes.Slots.{WorkIn}
use Rattle.law_scans.specs.inv.model.Protect as protects
use Rattle.law_scans.specs.inv.model.Rounds.{scheme_of, clear_told, let_index}
use Rattle.law_scans.proofs.inv.model.Facts.{both, first_of, rest_of}
use Rattle.law_scans.specs.laws.records.Record.{Past, Test, Each, tells_of}
use Rattle.law_scans.specs.laws.records.Record.Past.{Then}
use Rattle.law_scans.proofs.reuse.history.Passes.{is_quiet, Closed, copied_told, work_told}
use Rattle.law_scans.specs.laws.StateAt.{value_of}
use Rattle.law_scans.proofs.reuse.history.AllOf.{all_of, of_along, of_weaker}
use Rattle.law_scans.specs.laws.HistoryEras.{span_grows}
use Rattle.law_scans.specs.laws.StateAt.{era_grows}
use Rattle.law_held.proofs.Steps.Rising.Rises.{era_under, protect_risen}
use Rattle.law_scans.proofs.reuse.history.MayTell.{publishes, is_reserve, no_reserve, held_any, cleared_all, cleared_from_all, clear_all, concluded_told}

-- both laws in one, by what each guard publishes
abbrev pub grows_right : (teller : ℕ) → (value : Guard → Option Interval) → Event → Bool
grows_right i value (events.Reserve (Whole seat) span) = span_grows (value (Whole seat)) span
grows_right i value (events.Reserve (Index seat index) span) = nat_lt 2 index || is_some (value (Helper i)) || era_grows (value (Index seat index)) span
grows_right i value event = true

abbrev pub growth_ok : Test
growth_ok p i event = grows_right i (λ (guard : Guard). value_of guard p) event

-- an event of which they say nothing
abbrev pub is_flat : Event → Bool
is_flat (events.Reserve (Helper seat) span) = true
is_flat (events.Reserve (Index seat index) (Some span)) = nat_lt 2 index
is_flat (events.Reserve guard None) = true
is_flat (events.Reserve guard (Some span)) = false
is_flat event = true

none_spans : (x : Option Interval) → span_grows x None ≡ true
none_spans None = refl
none_spans (Some span) = refl

first_any : (a b c : Bool) → a ≡ true → (a || b || c) ≡ true
first_any a b c h = rw h refl

middle_any : (a b c : Bool) → b ≡ true → (a || b || c) ≡ true
middle_any true b c h = refl
middle_any false b c h = rw h refl

last_any : (a b c : Bool) → c ≡ true → (a || b || c) ≡ true
last_any true b c h = refl
last_any false true c h = refl
last_any false false c h = h

none_grows : (x : Option Interval) → era_grows x None ≡ true
none_grows None = refl
none_grows (Some span) = refl

flat_right : (i : ℕ) (value : Guard → Option Interval) (event : Event) → is_flat event ≡ true → grows_right i value event ≡ true
flat_right i value (events.Reserve (Helper seat) span) h = refl
flat_right i value (events.Reserve (Whole seat) None) h = none_spans (value (Whole seat))
flat_right i value (events.Reserve (Whole seat) (Some span)) h = absurd (cc)
flat_right i value (events.Reserve (Index seat index) None) h = last_any (nat_lt 2 index) (is_some (value (Helper i))) (era_grows (value (Index seat index)) None) (none_grows (value (Index seat index)))
flat_right i value (events.Reserve (Index seat index) (Some span)) h = first_any (nat_lt 2 index) (is_some (value (Helper i))) (era_grows (value (Index seat index)) (Some span)) h
flat_right i value event h = refl

-- what is told begins with an event that is allowed, and has no other of these
abbrev pub Leads : (teller : ℕ) → (value : Guard → Option Interval) → List Event → Type 0
Leads i value [] = Unit {0}
Leads i value (event ∷ told) = (grows_right i value event ≡ true) × (all_of is_flat told ≡ true)

flat_leads : (i : ℕ) (value : Guard → Option Interval) (told : List Event) → all_of is_flat told ≡ true → Leads i value told
flat_leads i value [] h = tt
flat_leads i value (event ∷ told) h = (flat_right i value event (first_of (is_flat event) (all_of is_flat told) h), rest_of (is_flat event) (all_of is_flat told) h)

flat_each : (i : ℕ) (told : List Event) (p : Past) → all_of is_flat told ≡ true → Each growth_ok p → Each growth_ok (tells_of p i told)
flat_each i [] p h g = g
flat_each i (event ∷ told) p h g =
    flat_each i told (Then p i event) (rest_of (is_flat event) (all_of is_flat told) h) (flat_right i (λ (guard : Guard). value_of guard p) event (first_of (is_flat event) (all_of is_flat told) h), g)

pub leads_each : (i : ℕ) (told : List Event) (p : Past) → Leads i (λ (guard : Guard). value_of guard p) told → Each growth_ok p → Each growth_ok (tells_of p i told)
leads_each i [] p h g = g
leads_each i (event ∷ told) p h g = flat_each i told (Then p i event) h.1 (h.0, g)

-- what comes after a machine
quiet_flat : (event : Event) → is_quiet event ≡ true → is_flat event ≡ true
quiet_flat (events.Reserve guard span) h = absurd (cc)
quiet_flat event h = refl

more_leads : (i : ℕ) (value : Guard → Option Interval) (told more : List Event) → Leads i value told → all_of is_flat more ≡ true → Leads i value (told ++ more)
more_leads i value [] more h k = flat_leads i value more k
more_leads i value (event ∷ told) more h k = (h.0, of_along is_flat told more h.1 k)

pub leads_closed : (i : ℕ) (value : Guard → Option Interval) → Closed (λ post told. Leads i value told)
leads_closed i value = record {
  calm = λ post told more q h. more_leads i value told more h (of_weaker is_quiet is_flat more quiet_flat q);
  clears = λ post told index h. more_leads i value told (clear_told (scheme_of post) post index) h (clear_all is_flat (scheme_of post) post index (λ index slot. refl));
}

-- an era that is later
under_grows : (old : Option Interval) (era : ℕ) → era_under old era ≡ true → era_grows old (one_era era) ≡ true
under_grows None era h = refl
under_grows (Some span) era h = by (era == 0)
  where
    by : (none : Bool) → era_grows (Some span) (if none then None else from_to era era) ≡ true
    by true = refl
    by false = h

own_grows : (seat i index era : ℕ) (value : Guard → Option Interval) → seat ≡ i → era_under (value (Index i index)) era ≡ true → grows_right i value (events.Reserve (Index seat index) (one_era era)) ≡ true
own_grows seat i index era value e h =
    last_any (nat_lt 2 index) (is_some (value (Helper i))) (era_grows (value (Index seat index)) (one_era era)) (subst (λ (n : ℕ). era_grows (value (Index n index)) (one_era era) ≡ true) (sym e) (under_grows (value (Index i index)) era h))

asked_grows : (seat i index era : ℕ) (value : Guard → Option Interval) → is_some (value (Helper i)) ≡ true → grows_right i value (events.Reserve (Index seat index) (one_era era)) ≡ true
asked_grows seat i index era value h = middle_any (nat_lt 2 index) (is_some (value (Helper i))) (era_grows (value (Index seat index)) (one_era era)) h

-- an interval begins, or is raised
begun_grows : (old : Option Interval) (era : ℕ) → old ≡ None → span_grows old (from_to era era) ≡ true
begun_grows None era h = grind (arith, nat_tests)
begun_grows (Some span) era h = absurd (cc)

raised_grows : (old : Option Interval) (era : ℕ) → is_some old ≡ true → upper old < era → span_grows old (from_to (lower old) era) ≡ true
raised_grows None era s h = absurd (cc)
raised_grows (Some span) era s h = grind (arith, nat_tests)

-- a machine that publishes nothing
unreserved_flat : (event : Event) → not (is_reserve event) ≡ true → is_flat event ≡ true
unreserved_flat (events.Reserve guard span) h = absurd (cc)
unreserved_flat event h = refl

bare_leads : (i : ℕ) (value : Guard → Option Interval) (base : Base) (post : Post) (found : ℕ) → publishes base ≡ false → Leads i value (machine.after base post found).told
bare_leads i value base post found p =
    flat_leads i value (machine.after base post found).told (of_weaker (λ event. not (is_reserve event)) is_flat (machine.after base post found).told unreserved_flat (no_reserve base post found p))

held_flat : (index : ℕ) (root : Root) (link n : ℕ) → all_of is_flat (protects.told_held index root link n) ≡ true
held_flat index root link n = held_any (λ told. all_of is_flat told ≡ true) index root link n refl refl (λ slot. refl)

-- what is known before a step
pub record Shows (i : ℕ) (value : Guard → Option Interval) (post : Post) : Type 0 where
  pub seat : post.seat ≡ i
  pub span : value (Whole i) ≡ post.span

whole_value : (i : ℕ) (value : Guard → Option Interval) (post : Post) → Shows i value post → value (Whole post.seat) ≡ post.span
whole_value i value post s = ap (λ (n : ℕ). value (Whole n)) s.seat ∙ s.span

-- an interval that is raised stands
abbrev pub protect_stands : ProtectAt → Post → Type 0
protect_stands (RaiseUpper era) post = is_some post.span ≡ true
protect_stands at post = Unit {0}

protect_leads : (i : ℕ) (value : Guard → Option Interval) (aim : Aim) (index : ℕ) (root : Root) (made : ℕ) (at : ProtectAt) (post : Post) (found : ℕ) → Shows i value post → protect_stands at post → protect_risen (λ (j : ℕ). value (Index i j)) (value (Helper i)) post index at → Leads i value (machine.protect_turn aim index root (bump made) at post found).told
protect_leads i value aim index root made (PublishEra era tries) post found s k f = (own_grows post.seat i index era value s.seat f, refl)
protect_leads i value aim index root made (PublishHelper first era end) post found s k f = (refl, refl)
protect_leads i value aim index root made (TakeAnswer link era) post found s k f = (asked_grows post.seat i index era value f, held_flat index root link (bump made))
protect_leads i value aim index root made (WithdrawHelper link era) post found s k f = rw (concluded_told aim index root (bump made) link era post (reserves_helper post 0)) (refl, refl)
protect_leads i value aim index root made (RaiseUpper era) post found s k f = (subst (λ (x : Option Interval). span_grows x (from_to (lower post.span) era) ≡ true) (sym (whole_value i value post s)) (raised_grows post.span era k f), refl)
protect_leads i value aim index root made at post found s k f = bare_leads i value (Protect aim index root made at) post found refl

-- a mover hands over while its helper word publishes
abbrev pub move_shows : (helper : Option Interval) → MoveAt → Type 0
move_shows helper (HandOver era seat tag index root link old) = is_some helper ≡ true
move_shows helper at = Unit {0}

hand_leads : (i : ℕ) (value : Guard → Option Interval) (era seat tag index old : ℕ) (post : Post) (same : Bool) → is_some (value (Helper i)) ≡ true → Leads i value (movers.after_hand_over era seat tag index old post same).told
hand_leads i value era seat tag index old post true h = (asked_grows seat i index era value h, refl)
hand_leads i value era seat tag index old post false h = tt

move_leads : (i : ℕ) (value : Guard → Option Interval) (at : MoveAt) (post : Post) (found : ℕ) → move_shows (value (Helper i)) at → Leads i value (machine.move_turn at post found).told
move_leads i value (ShowEra era seat tag index root) post found a = (refl, refl)
move_leads i value (HandOver era seat tag index root link old) post found a = hand_leads i value era seat tag index old post (found == reservation_word (record { era = old; tag = tag })) a
move_leads i value (HideEra era) post found a = (refl, refl)
move_leads i value (HideLate seen) post found a = (refl, refl)
move_leads i value at post found a = bare_leads i value (Move at) post found refl

cleared_leads : (i : ℕ) (value : Guard → Option Interval) (index : ℕ) (x : Option ℕ) (guard : Guard) → is_flat (events.Reserve guard None) ≡ true → Leads i value (cleared index x ++ events.Reserve guard None ∷ [])
cleared_leads i value index x guard h = flat_leads i value _ (of_along is_flat (cleared index x) (events.Reserve guard None ∷ []) (cleared_all is_flat index x (λ index slot. refl)) (both (is_flat (events.Reserve guard None)) true h refl))

-- an index word is cleared: it publishes no era, or no row
clear_leads : (i : ℕ) (value : Guard → Option Interval) (rows : Bool) (index : ℕ) (post : Post) → Leads i value (cleared index (stands post index) ++ publishes_index rows post index 0)
clear_leads i value false index post = cleared_leads i value index (stands post index) (Index post.seat index) refl
clear_leads i value true index post = flat_leads i value _ (of_along is_flat (cleared index (stands post index)) (publishes_index true post index 0) (cleared_all is_flat index (stands post index) (λ index slot. refl)) refl)

-- what a machine's step needs
abbrev pub base_stands : (helper : Option Interval) → Base → Post → Type 0
base_stands helper (Begin at) post = post.span ≡ None
base_stands helper (Protect aim index root made at) post = protect_stands at post
base_stands helper (Move at) post = move_shows helper at
base_stands helper base post = Unit {0}

pub base_leads : (i : ℕ) (value : Guard → Option Interval) (base : Base) (post : Post) (found : ℕ) → Shows i value post → base_stands (value (Helper i)) base post → (base_rises : (aim : Aim) (index : ℕ) (root : Root) (made : ℕ) (at : ProtectAt) → base ≡ Protect aim index root made at → protect_risen (λ (j : ℕ). value (Index i j)) (value (Helper i)) post index at)
    → Leads i value (machine.after base post found).told
base_leads i value (Begin LoadLower) post found s k f = tt
base_leads i value (Begin (PublishSpan era)) post found s k f = (begun_grows (value (Whole post.seat)) era (whole_value i value post s ∙ k), refl)
base_leads i value (Protect aim index root made at) post found s k f = protect_leads i value aim index root made at post found s k (f aim index root made at refl)
base_leads i value (Clear rows index) post found s k f = clear_leads i value rows index post
base_leads i value Finish post found s k f = flat_leads i value (machine.after Finish post found).told refl
base_leads i value (Release index) post found s k f = cleared_leads i value index (stands post index) (Whole post.seat) refl
base_leads i value (Move at) post found s k f = move_leads i value at post found k
base_leads i value base post found s k f = bare_leads i value base post found refl

-- a step on what is kept publishes an era for a copy alone, which goes to an index above 2
era_flat : (seat index era : ℕ) → nat_lt 2 index ≡ true → is_flat (events.Reserve (Index seat index) (one_era era)) ≡ true
era_flat seat index era h = by (era == 0)
  where
    by : (none : Bool) → is_flat (events.Reserve (Index seat index) (if none then None else from_to era era)) ≡ true
    by true = refl
    by false = h

number_flat : (rows : Bool) (post : Post) (index number : ℕ) → nat_lt 2 index ≡ true → all_of is_flat (publishes_index rows post index number) ≡ true
number_flat false post index number h = both (is_flat (events.Reserve (Index post.seat index) (one_era number))) true (era_flat post.seat index number h) refl
number_flat true post index number h = refl

copied_flat : (from index : ℕ) (post : Post) (reserved : List Event) (x : Option ℕ) → all_of is_flat reserved ≡ true → all_of is_flat (copied_told from index post reserved x) ≡ true
copied_flat from index post reserved None h = refl
copied_flat from index post reserved (Some slot) h =
    of_along is_flat (cleared index (stands post index) ++ reserved) (events.Copied from index slot ∷ [])
    (of_along is_flat (cleared index (stands post index)) reserved (cleared_all is_flat index (stands post index) (λ index slot. refl)) h) refl

load_flat : (from index : ℕ) (post : Post) (one : Bool) → all_of is_flat (if one then copied_told from index post [] (stands post from) else []) ≡ true
load_flat from index post true = copied_flat from index post [] (stands post from) refl
load_flat from index post false = refl

work_flat : (config : Config) (work : Work) (post : Post) → WorkIn config work → all_of is_flat (work_told work post) ≡ true
work_flat config (Getting key at) post k = refl
work_flat config (Changing kept at) post k = refl
work_flat config (Enqueuing kept at) post k = refl
work_flat config (Dequeuing at) post k = refl
work_flat config (Keeping (Loosens let_go)) post k = cleared_all is_flat (let_index let_go) (stands post (let_index let_go)) (λ index slot. refl)
work_flat config (Keeping (LoadHeld from index)) post k = load_flat from index post (has_one_interval (scheme_of post))
work_flat config (Keeping (StoreHeld from index era)) post k =
    let low : 2 ≤ from = k.kept in
    let up : from < index = k.rises in
    let high : nat_lt 2 index ≡ true = grind (arith, nat_tests) in
    copied_flat from index post (publishes_index (publishes_rows (scheme_of post)) post index era) (stands post from) (number_flat (publishes_rows (scheme_of post)) post index era high)
work_flat config (Keeping (Looks index key at)) post k = refl
work_flat config (Keeping (Misses index)) post k = refl
work_flat config (Keeping HideSpan) post k =
    of_along is_flat (cleared_from 2 (drop 2 post.standing)) (reserves_span post None) (cleared_from_all is_flat 2 (drop 2 post.standing) (λ index slot. refl)) refl
work_flat config (Keeping MarkLeft) post k = refl
work_flat config (Keeping (TakeList place)) post k = refl
work_flat config (Keeping (MarkTaken place count)) post k = refl

pub work_leads : (config : Config) (i : ℕ) (value : Guard → Option Interval) (work : Work) (post : Post) → WorkIn config work → Leads i value (work_told work post)
work_leads config i value work post k = flat_leads i value (work_told work post) (work_flat config work post k)
