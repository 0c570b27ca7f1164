-- Whether each row that stands is held, after one more entry.
use Rattle.std.proofs.Common.{ℕ, ◌≡◌, ◌<◌, ◌≤◌, Bool, true, false, Option, Some, None, List, ◌∷◌, refl, ap, sym, ◌∙◌, subst, inl, inr}
use Rattle.std.specs.List.{list_all}
use Rattle.std.specs.Prelude.{◌&&◌, ◌||◌, ◌==◌, ◌↔◌, not, if◌then◌else◌}
use Rattle.wfe_defs.proofs.Facts.{both, by_cases, number_is, first_of, rest_of, same_number}
use Rattle.laws.specs.words.declared.config.Config.{Config}
use Rattle.laws.specs.words.declared.config.SchemeKind.{SchemeKind}
use Rattle.laws.specs.words.Schemes.{has_one_interval, publishes_rows}
use Rattle.laws.specs.defs.Shown.{keeps, shown, shown_row}
use Rattle.laws.specs.defs.declared.event.Event.{Event}
use Rattle.laws.specs.defs.declared.event.Event.TheVariants as events
use Rattle.laws.specs.defs.declared.event.Guard.{Guard}
use Rattle.laws.specs.defs.declared.event.Guard.TheVariants.{Helper, Index, Whole}
use Rattle.laws.specs.defs.declared.lifetime.Interval.{Interval}
use Rattle.laws.specs.defs.declared.lifetime.Lifetime.{Lifetime}
use Rattle.laws.specs.defs.declared.shown.Shown.{Shown}
use Rattle.laws.specs.records.Record.{Past}
use Rattle.laws.specs.records.Record.Past.{Then}
use Rattle.laws.specs.HoldLaw.{is_held, own_guard}
use Rattle.laws.specs.StateAt.{birth_of, is_one_of, life_at, published_at, same_guard, seat_of, stands, standing_of, taken_at}
use Rattle.laws.specs.Ranges.{EntryIn, GuardIn}
use Rattle.wfe_check_rows.specs.declared.rows.Rows.{Rows}
use Rattle.wfe_check_rows.specs.Rows.{IsRows}
use Rattle.wfe_check_rows.specs.Shown.{life_of, row}
use Rattle.wfe_check_held.specs.declared.protections.Protections.{Protections}
use Rattle.wfe_check_held.specs.Protections.{AllHeld, IsProtections, NoneReused}
use Rattle.wfe_check_held.specs.Shown.{guard_kept, held_in, holds, index_kept, life_kept, life_kept_at, life_kept_by, published_in, rows_in, stands_in, told_index, told_row}
use Rattle.wfe_check_held.proofs.Below.{at_below, at_one_of, below_by, one_of_by}
use Rattle.wfe_check_held.proofs.Published.{own_is, reserved_none, reserved_now, told_none, told_now}
use Rattle.wfe_check_held.proofs.Steps.{stands_same, told_or_before}

pub life_is : (config : Config) (rows : Rows) (p : Past) (s : ℕ) → IsRows config rows p → s ≤ config.slots → life_of rows s ≡ life_at s p
life_is config rows p s q l = let each = q.each s l in
    ap (λ (b : ℕ). record { slot = s; birth = b; retire = (row rows s).retire }) each.birth ∙ ap (λ (r : ℕ). record { slot = s; birth = birth_of s p; retire = r }) each.retire

-- a row is held as it is said to be
held_is : (config : Config) (kept : Protections) (rows : Rows) (p : Past) (k j s : ℕ) → IsProtections config kept p → IsRows config rows p → k < config.seats → j < config.indexes → s ≤ config.slots
    → held_in kept rows k j s ≡ is_held config k j s p
held_is config kept rows p k j s r q l m n =
    ap (λ (b : Bool). b && keeps (life_of rows s) (published_in kept (own_guard kept.config.scheme k j))) (q.each s n).taken
    ∙ ap (λ (x : Lifetime). taken_at config.slots s p && keeps x (published_in kept (own_guard kept.config.scheme k j))) (life_is config rows p s q n)
    ∙ ap (λ (c : Config). taken_at config.slots s p && keeps (life_at s p) (published_in kept (own_guard c.scheme k j))) r.setting
    ∙ ap (λ (v : Shown). taken_at config.slots s p && keeps (life_at s p) v) (own_is config kept p r k j l m)

-- what stands stays, and so does what is held
same_held : (config : Config) (p : Past) (i : ℕ) (event : Event) → told_index event ≡ None → ((k j s : ℕ) → is_held config k j s (Then p i event) ≡ is_held config k j s p) → AllHeld config p → AllHeld config (Then p i event)
same_held config p i event e f h k j s t = f k j s ∙ h k j s (sym (stands_same k j s p i event e) ∙ t)

-- a row that is used again does not stand
reused_held : (config : Config) (p : Past) (i slot : ℕ) (event : Event) → told_index event ≡ None → ((k j s : ℕ) → not (stands k j s p && (s == slot)) ≡ true)
    → ((k j s : ℕ) → (s == slot) ≡ false → is_held config k j s (Then p i event) ≡ is_held config k j s p) → AllHeld config p → AllHeld config (Then p i event)
reused_held config p i slot event e u f h k j s t =
    let there : stands k j s p ≡ true = sym (stands_same k j s p i event e) ∙ t in
    let used : not (stands k j s p && (s == slot)) ≡ true = u k j s in
    let other : (s == slot) ≡ false = (let free : not (s == slot) ≡ true = rw there at used in free_of (s == slot) free) in
    f k j s other ∙ h k j s there
  where
    free_of : (b : Bool) → not b ≡ true → b ≡ false
    free_of true g = absurd (cc)
    free_of false g = refl

-- a row that comes to stand
told_held : (config : Config) (kept : Protections) (rows : Rows) (p : Past) (i index slot : ℕ) (event : Event) → IsProtections config kept p → IsRows config rows p
    → i < config.seats → index < config.indexes → slot ≤ config.slots → told_index event ≡ Some index → told_row event ≡ Some slot
    → ((k j s : ℕ) → is_held config k j s (Then p i event) ≡ is_held config k j s p) → stands i index slot (Then p i event) ≡ true
    → AllHeld config p → (held_in kept rows i index slot ≡ true) ↔ AllHeld config (Then p i event)
told_held config kept rows p i index slot event r q l m n e f g there h = (
  (λ ok k j s t. elim (told_or_before k j s p i event t) as (λ _. is_held config k j s (Then p i event) ≡ true) [
    | inl before ↦ g k j s ∙ h k j s before
    | inr told ↦
        let index_is : j ≡ index = (let same : Some index ≡ Some j = sym e ∙ told.index in cc) in
        let row_is : s ≡ slot = (let same : Some slot ≡ Some s = sym f ∙ told.slot in cc) in
        g k j s ∙ ap (λ (a : ℕ). is_held config a j s p) told.seat ∙ ap (λ (a : ℕ). is_held config i a s p) index_is ∙ ap (λ (a : ℕ). is_held config i index a p) row_is
        ∙ sym (held_is config kept rows p i index slot r q l m n) ∙ ok
  ]),
  (λ all. held_is config kept rows p i index slot r q l m n ∙ sym (g i index slot) ∙ all i index slot there),
)

stands_now : (i index slot : ℕ) (rows : List ℕ) → (if i == i then (if index == index then slot ∷ rows else rows) else rows) ≡ slot ∷ rows
stands_now i index slot rows = let e : (i == i) ≡ true = same_number i in let f : (index == index) ≡ true = same_number index in rw (e, f) refl

here : (slot : ℕ) (rows : List ℕ) → is_one_of slot (slot ∷ rows) ≡ true
here slot rows = let e : (slot == slot) ≡ true = same_number slot in rw e refl

-- a guard that publishes something else
seat_same : (scheme : SchemeKind) (k j : ℕ) (guard : Guard) → same_guard (own_guard scheme k j) guard ≡ true → k ≡ seat_of guard
seat_same scheme k j guard h = by_scheme (has_one_interval scheme) guard h
  where
    by_scheme : (one : Bool) (guard : Guard) → same_guard (if one then Whole k else Index k j) guard ≡ true → k ≡ seat_of guard
    by_scheme true (Helper a) h = absurd (let no : false ≡ true = h in (cc))
    by_scheme true (Index a b) h = absurd (let no : false ≡ true = h in (cc))
    by_scheme true (Whole a) h = number_is k a h
    by_scheme false (Helper a) h = absurd (let no : false ≡ true = h in (cc))
    by_scheme false (Index a b) h = number_is k a (first_of (k == a) (j == b) h)
    by_scheme false (Whole a) h = absurd (let no : false ≡ true = h in (cc))

unless : (a b : Bool) → a ≡ true → (not a || b) ≡ true → b ≡ true
unless true b h k = k
unless false b h k = absurd (cc)

unless_by : (a b : Bool) → (a ≡ true → b ≡ true) → (not a || b) ≡ true
unless_by true b h = h refl
unless_by false b h = refl

-- what the guard of an index publishes from here on
abbrev From : Config → Past → Guard → Shown → (k j : ℕ) → Shown
From config p guard value k j = if same_guard (own_guard config.scheme k j) guard then value else published_at config.scheme (own_guard config.scheme k j) p

publish_held : (config : Config) (kept : Protections) (rows : Rows) (p : Past) (i : ℕ) (event : Event) (guard : Guard) (value : Shown) → IsProtections config kept p → IsRows config rows p
    → told_index event ≡ None → ((k j s : ℕ) → is_held config k j s (Then p i event) ≡ (taken_at config.slots s p && keeps (life_at s p) (From config p guard value k j)))
    → GuardIn config guard → AllHeld config p → (guard_kept kept rows guard value ≡ true) ↔ AllHeld config (Then p i event)
publish_held config kept rows p i event guard value r q e g w h = (
  (λ ok k j s t.
      let there : stands k j s p ≡ true = sym (stands_same k j s p i event e) ∙ t in
      let place = r.within k j s there in
      let before : is_held config k j s p ≡ true = h k j s there in
      g k j s ∙ by_cases (same_guard (own_guard config.scheme k j) guard) ((taken_at config.slots s p && keeps (life_at s p) (From config p guard value k j)) ≡ true)
      (λ u.
      let seat_is : k ≡ seat_of guard = seat_same config.scheme k j guard u in
      let index_in : j < kept.config.indexes = subst (λ (c : Config). j < c.indexes) (sym r.setting) place.index_in in
      let kept_at : index_kept kept rows guard value j ≡ true = at_below (index_kept kept rows guard value) kept.config.indexes ok j index_in in
      let mine : same_guard (own_guard kept.config.scheme (seat_of guard) j) guard ≡ true = ap (λ (c : Config). same_guard (own_guard c.scheme (seat_of guard) j) guard) r.setting ∙ ap (λ (a : ℕ). same_guard (own_guard config.scheme a j) guard) (sym seat_is) ∙ u in
      let all : list_all (λ (slot : ℕ). keeps (life_of rows slot) value) (rows_in kept (seat_of guard) j) ≡ true =
      unless (same_guard (own_guard kept.config.scheme (seat_of guard) j) guard) (list_all (λ (slot : ℕ). keeps (life_of rows slot) value) (rows_in kept (seat_of guard) j)) mine kept_at in
      let one : is_one_of s (rows_in kept (seat_of guard) j) ≡ true = ap (λ (a : ℕ). is_one_of s (rows_in kept a j)) (sym seat_is) ∙ r.standing k j s place.seat_in place.index_in ∙ there in
      let life : keeps (life_at s p) value ≡ true = ap (λ (x : Lifetime). keeps x value) (sym (life_is config rows p s q place.slot_in)) ∙ at_one_of (λ (slot : ℕ). keeps (life_of rows slot) value) (rows_in kept (seat_of guard) j) all s one in
      rw u (both (taken_at config.slots s p) (keeps (life_at s p) value) (first_of (taken_at config.slots s p) (keeps (life_at s p) (published_at config.scheme (own_guard config.scheme k j) p)) before) life))
      (λ u. rw u before)),
  (λ all. below_by (index_kept kept rows guard value) kept.config.indexes (λ j l.
      let index_in : j < config.indexes = subst (λ (c : Config). j < c.indexes) r.setting l in
      unless_by (same_guard (own_guard kept.config.scheme (seat_of guard) j) guard) (list_all (λ (slot : ℕ). keeps (life_of rows slot) value) (rows_in kept (seat_of guard) j))
      (λ u. one_of_by (λ (slot : ℕ). keeps (life_of rows slot) value) (rows_in kept (seat_of guard) j) (λ s t.
      let there : stands (seat_of guard) j s p ≡ true = sym (r.standing (seat_of guard) j s (seat_in config guard w) index_in) ∙ t in
      let mine : same_guard (own_guard config.scheme (seat_of guard) j) guard ≡ true = ap (λ (c : Config). same_guard (own_guard c.scheme (seat_of guard) j) guard) (sym r.setting) ∙ u in
      let after : (taken_at config.slots s p && keeps (life_at s p) (From config p guard value (seat_of guard) j)) ≡ true = sym (g (seat_of guard) j s) ∙ all (seat_of guard) j s (stands_same (seat_of guard) j s p i event e ∙ there) in
      let kept_by : (taken_at config.slots s p && keeps (life_at s p) value) ≡ true = rw mine at after in
      ap (λ (x : Lifetime). keeps x value) (life_is config rows p s q (r.within (seat_of guard) j s there).slot_in) ∙ rest_of (taken_at config.slots s p) (keeps (life_at s p) value) kept_by)))),
)
  where
    seat_in : (config : Config) (guard : Guard) → GuardIn config guard → seat_of guard < config.seats
    seat_in config (Helper a) w = w
    seat_in config (Index a b) w = w.0
    seat_in config (Whole a) w = w

-- an event of the kind that the scheme does not have
kind_is : (config : Config) (kept : Protections) (p : Past) → IsProtections config kept p → (rows : Bool) → publishes_rows config.scheme ≡ rows → publishes_rows kept.config.scheme ≡ rows
kind_is config kept p r rows e = ap (λ (c : Config). publishes_rows c.scheme) r.setting ∙ e

reserve_held : (config : Config) (kept : Protections) (rows : Rows) (p : Past) (i : ℕ) (guard : Guard) (span : Option Interval) → IsProtections config kept p → IsRows config rows p
    → GuardIn config guard → AllHeld config p → (holds kept rows i (events.Reserve guard span) ≡ true) ↔ AllHeld config (Then p i (events.Reserve guard span))
reserve_held config kept rows p i guard span r q w h = by_kind (publishes_rows config.scheme) refl
  where
    by_kind : (kind : Bool) → publishes_rows config.scheme ≡ kind → (holds kept rows i (events.Reserve guard span) ≡ true) ↔ AllHeld config (Then p i (events.Reserve guard span))
    by_kind true e = (
      (λ ok. same_held config p i (events.Reserve guard span) refl (λ k j s. ap (λ (v : Shown). taken_at config.slots s p && keeps (life_at s p) v) (reserved_none config.scheme p i (own_guard config.scheme k j) guard span e)) h),
      (λ all. rw (kind_is config kept p r true e) refl),
    )
    by_kind false e =
        let whole = publish_held config kept rows p i (events.Reserve guard span) guard (shown span) r q refl
        (λ k j s. ap (λ (v : Shown). taken_at config.slots s p && keeps (life_at s p) v) (reserved_now config.scheme p i (own_guard config.scheme k j) guard span e)) w h in (
          (λ ok. whole.0 (rw (kind_is config kept p r false e) at ok)),
          (λ all. rw (kind_is config kept p r false e) (whole.1 all)),
        )

hazard_held : (config : Config) (kept : Protections) (rows : Rows) (p : Past) (i : ℕ) (guard : Guard) (slot : Option ℕ) → IsProtections config kept p → IsRows config rows p
    → GuardIn config guard → AllHeld config p → (holds kept rows i (events.Hazard guard slot) ≡ true) ↔ AllHeld config (Then p i (events.Hazard guard slot))
hazard_held config kept rows p i guard slot r q w h = by_kind (publishes_rows config.scheme) refl
  where
    by_kind : (kind : Bool) → publishes_rows config.scheme ≡ kind → (holds kept rows i (events.Hazard guard slot) ≡ true) ↔ AllHeld config (Then p i (events.Hazard guard slot))
    by_kind false e = (
      (λ ok. same_held config p i (events.Hazard guard slot) refl (λ k j s. ap (λ (v : Shown). taken_at config.slots s p && keeps (life_at s p) v) (told_none config.scheme p i (own_guard config.scheme k j) guard slot e)) h),
      (λ all. rw (kind_is config kept p r false e) refl),
    )
    by_kind true e =
        let whole = publish_held config kept rows p i (events.Hazard guard slot) guard (shown_row slot) r q refl
        (λ k j s. ap (λ (v : Shown). taken_at config.slots s p && keeps (life_at s p) v) (told_now config.scheme p i (own_guard config.scheme k j) guard slot e)) w h in (
          (λ ok. whole.0 (rw (kind_is config kept p r true e) at ok)),
          (λ all. rw (kind_is config kept p r true e) (whole.1 all)),
        )

-- a row that is retired
retire_held : (config : Config) (kept : Protections) (rows : Rows) (p : Past) (i slot birth retire : ℕ) → IsProtections config kept p → IsRows config rows p
    → slot ≤ config.slots → AllHeld config p → (life_kept kept (record { slot = slot; birth = (row rows slot).birth; retire = retire }) ≡ true) ↔ AllHeld config (Then p i (events.Retire slot birth retire))
retire_held config kept rows p i slot birth retire r q w h =
    let life : Lifetime = record { slot = slot; birth = (row rows slot).birth; retire = retire } in (
      (λ ok k j s t.
          let there : stands k j s p ≡ true = sym (stands_same k j s p i (events.Retire slot birth retire) refl) ∙ t in
          let place = r.within k j s there in
          let before : is_held config k j s p ≡ true = h k j s there in
          by_cases (s == slot) (is_held config k j s (Then p i (events.Retire slot birth retire)) ≡ true)
          (λ u.
          let same : s ≡ slot = number_is s slot u in
          let seat_in : k < kept.config.seats = subst (λ (c : Config). k < c.seats) (sym r.setting) place.seat_in in
          let index_in : j < kept.config.indexes = subst (λ (c : Config). j < c.indexes) (sym r.setting) place.index_in in
          let one : stands_in kept k j slot ≡ true = r.standing k j slot place.seat_in place.index_in ∙ ap (λ (a : ℕ). stands k j a p) (sym same) ∙ there in
          let kept_at : life_kept_at kept (record { slot = slot; birth = (row rows slot).birth; retire = retire }) k j ≡ true =
          at_below (life_kept_at kept (record { slot = slot; birth = (row rows slot).birth; retire = retire }) k) kept.config.indexes (at_below (life_kept_by kept (record { slot = slot; birth = (row rows slot).birth; retire = retire })) kept.config.seats ok k seat_in) j index_in in
          let stays : keeps (record { slot = slot; birth = (row rows slot).birth; retire = retire }) (published_in kept (own_guard kept.config.scheme k j)) ≡ true =
          unless (stands_in kept k j slot) (keeps (record { slot = slot; birth = (row rows slot).birth; retire = retire }) (published_in kept (own_guard kept.config.scheme k j))) one kept_at in
          let now : keeps (record { slot = s; birth = birth_of s p; retire = retire }) (published_at config.scheme (own_guard config.scheme k j) p) ≡ true =
          sym (life_kept_is config kept rows p k j slot retire r q place.seat_in place.index_in w ∙ ap (λ (a : ℕ). keeps (record { slot = a; birth = birth_of a p; retire = retire }) (published_at config.scheme (own_guard config.scheme k j) p)) (sym same)) ∙ stays in
          rw u (both (taken_at config.slots s p) (keeps (record { slot = s; birth = birth_of s p; retire = retire }) (published_at config.scheme (own_guard config.scheme k j) p))
          (first_of (taken_at config.slots s p) (keeps (life_at s p) (published_at config.scheme (own_guard config.scheme k j) p)) before) now))
          (λ u. rw u before)),
      (λ all. below_by (life_kept_by kept (record { slot = slot; birth = (row rows slot).birth; retire = retire })) kept.config.seats (λ k l. below_by (life_kept_at kept (record { slot = slot; birth = (row rows slot).birth; retire = retire }) k) kept.config.indexes (λ j m.
          let seat_in : k < config.seats = subst (λ (c : Config). k < c.seats) r.setting l in
          let index_in : j < config.indexes = subst (λ (c : Config). j < c.indexes) r.setting m in
          unless_by (stands_in kept k j slot) (keeps (record { slot = slot; birth = (row rows slot).birth; retire = retire }) (published_in kept (own_guard kept.config.scheme k j))) (λ t.
          let there : stands k j slot p ≡ true = sym (r.standing k j slot seat_in index_in) ∙ t in
          let after : is_held config k j slot (Then p i (events.Retire slot birth retire)) ≡ true = all k j slot (stands_same k j slot p i (events.Retire slot birth retire) refl ∙ there) in
          let one : (slot == slot) ≡ true = same_number slot in
          let now : (taken_at config.slots slot p && keeps (record { slot = slot; birth = birth_of slot p; retire = retire }) (published_at config.scheme (own_guard config.scheme k j) p)) ≡ true = rw one at after in
          life_kept_is config kept rows p k j slot retire r q seat_in index_in w ∙ rest_of (taken_at config.slots slot p) (keeps (record { slot = slot; birth = birth_of slot p; retire = retire }) (published_at config.scheme (own_guard config.scheme k j) p)) now)))),
    )
  where
    life_kept_is : (config : Config) (kept : Protections) (rows : Rows) (p : Past) (k j slot retire : ℕ) → IsProtections config kept p → IsRows config rows p → k < config.seats → j < config.indexes → slot ≤ config.slots
        → keeps (record { slot = slot; birth = (row rows slot).birth; retire = retire }) (published_in kept (own_guard kept.config.scheme k j)) ≡ keeps (record { slot = slot; birth = birth_of slot p; retire = retire }) (published_at config.scheme (own_guard config.scheme k j) p)
    life_kept_is config kept rows p k j slot retire r q l m n =
        ap (λ (b : ℕ). keeps (record { slot = slot; birth = b; retire = retire }) (published_in kept (own_guard kept.config.scheme k j))) (q.each slot n).birth
        ∙ ap (λ (c : Config). keeps (record { slot = slot; birth = birth_of slot p; retire = retire }) (published_in kept (own_guard c.scheme k j))) r.setting
        ∙ ap (λ (v : Shown). keeps (record { slot = slot; birth = birth_of slot p; retire = retire }) v) (own_is config kept p r k j l m)

clear_held : (config : Config) (p : Past) (i index slot : ℕ) → AllHeld config p → AllHeld config (Then p i (events.Clear index slot))
clear_held config p i index slot h k j s t = elim (told_or_before k j s p i (events.Clear index slot) t) as (λ _. is_held config k j s p ≡ true) [
  | inl before ↦ h k j s before
  | inr told ↦ absurd (let no : None ≡ Some s = told.slot in (cc))
]

pub holds_is : (config : Config) (kept : Protections) (rows : Rows) (p : Past) (i : ℕ) (event : Event) → IsProtections config kept p → IsRows config rows p → EntryIn config i event → AllHeld config p → NoneReused p i event
    → (holds kept rows i event ≡ true) ↔ AllHeld config (Then p i event)
holds_is config kept rows p i (events.Held index slot steps) r q w h u =
    told_held config kept rows p i index slot (events.Held index slot steps) r q w.seated w.within.0 w.within.1 refl refl (λ k j s. refl)
    (ap (is_one_of slot) (stands_now i index slot (standing_of i index p)) ∙ here slot (standing_of i index p)) h
holds_is config kept rows p i (events.Copied from index slot) r q w h u =
    told_held config kept rows p i index slot (events.Copied from index slot) r q w.seated w.within.1 w.within.2 refl refl (λ k j s. refl)
    (ap (is_one_of slot) (stands_now i index slot (standing_of i index p)) ∙ here slot (standing_of i index p)) h
holds_is config kept rows p i (events.Reserve guard span) r q w h u = reserve_held config kept rows p i guard span r q w.within h
holds_is config kept rows p i (events.Hazard guard slot) r q w h u = hazard_held config kept rows p i guard slot r q w.within.0 h
holds_is config kept rows p i (events.Retire slot birth retire) r q w h u = retire_held config kept rows p i slot birth retire r q w.within h
holds_is config kept rows p i (events.Clear index slot) r q w h u = ((λ ok. clear_held config p i index slot h), (λ all. refl))
holds_is config kept rows p i (events.Give slot birth) r q w h u = ((λ ok. reused_held config p i slot (events.Give slot birth) refl u (λ k j s e. rw e refl) h), (λ all. refl))
holds_is config kept rows p i (events.Unused slot) r q w h u = ((λ ok. reused_held config p i slot (events.Unused slot) refl u (λ k j s e. rw e refl) h), (λ all. refl))
holds_is config kept rows p i (events.Back slot) r q w h u = ((λ ok. reused_held config p i slot (events.Back slot) refl u (λ k j s e. rw e refl) h), (λ all. refl))
holds_is config kept rows p i event r q w h u = ((λ ok. same_held config p i event refl (λ k j s. refl) h), (λ all. refl))
