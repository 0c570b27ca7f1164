-- The tests of an entry, as the laws have them.
use Rattle.std.proofs.Common.{ℕ, zero, suc, ◌≡◌, ◌<◌, ◌≤◌, Bool, true, false, Option, Some, None, refl, ap, sym, ◌∙◌, arith, subst}
use Rattle.std.specs.Prelude.{◌&&◌, ◌||◌, ◌==◌, ◌↔◌, not, is_none, if◌then◌else◌, nat_le, nat_lt}
use Rattle.wfe_defs.proofs.Facts.{by_cases, number_is, false_of_not, first_of, rest_of, same_number}
use Rattle.laws.specs.words.Schemes.{has_one_interval, is_wfe, publishes_rows}
use Rattle.laws.specs.words.declared.config.Config.{Config}
use Rattle.laws.specs.words.declared.config.SchemeKind.{SchemeKind}
use Rattle.laws.specs.defs.declared.call.Call.{Call}
use Rattle.laws.specs.defs.declared.event.Event.{Event}
use Rattle.laws.specs.defs.declared.event.Event.TheVariants as events
use Rattle.laws.specs.defs.declared.event.Guard.{Guard}
use Rattle.laws.specs.defs.declared.event.Guard.TheVariants.{Helper, Index, Whole}
use Rattle.laws.specs.defs.declared.event.Root.TheVariants as roots
use Rattle.laws.specs.defs.Shown.{shown}
use Rattle.laws.specs.defs.declared.lifetime.Interval.{Interval}
use Rattle.laws.specs.defs.declared.shown.Shown.{Shown}
use Rattle.laws.specs.records.Record.{Past}
use Rattle.laws.specs.EraLaw.{guard_ok, is_one_era, kind_ok, rising_ok, same_interval, single_ok, span_rises}
use Rattle.laws.specs.HoldLaw.{bare_ok, behind_ok, guards_rest, index_rests, indexes_rest, is_alike, is_blank, keeps_none, links_ok, stands_for}
use Rattle.laws.specs.Once.{is_slot}
use Rattle.laws.specs.ScanLaw.{read_ok}
use Rattle.laws.specs.StateAt.{began_of, hazard_of, head_at, is_bare, is_dequeue, is_index, next_at, published_at, same_span, seat_of, standing_of, stands, tail_at, value_of}
use Rattle.laws.specs.StructuresAt.{same_value}
use Rattle.laws.specs.Good.{named_indexes, rests_of}
use Rattle.laws.specs.Ranges.{EntryIn, GuardIn}
use Rattle.wfe_check_rows.specs.declared.rows.Rows.{Rows}
use Rattle.wfe_check_rows.specs.Rows.{IsRows}
use Rattle.wfe_check_rows.specs.Shown.{root, row}
use Rattle.wfe_check_held.specs.declared.protections.Protections.{Protections}
use Rattle.wfe_check_held.specs.All.{all_below}
use Rattle.wfe_check_held.specs.Protections.{IsProtections, NoneReused}
use Rattle.wfe_check_held.specs.Shown.{bare_in, ends_right, hazard_in, held_behind, indexes_of, links_right, low_or_bare, misses_at, misses_by, published_in, reserves_right, rests, reuses_none, right, rows_in, stands_for_in, stands_in, stands_nowhere, value_in, word_rests}
use Rattle.wfe_check_held.proofs.Below.{at_below, below_by, below_same}
use Rattle.wfe_check_held.proofs.Published.{index_is}
use Rattle.wfe_check_held.proofs.Sets.{both_empty}

pub bare_is : (config : Config) (kept : Protections) (p : Past) → IsProtections config kept p → (k j : ℕ) → k < config.seats → j < config.indexes → bare_in kept k j ≡ is_bare k j p
bare_is config kept p r k j l m = both_empty (rows_in kept k j) (standing_of k j p) (λ s. r.standing k j s l m)

-- where a call ends
none_below : (k : ℕ) (p : Past) (n : ℕ) → keeps_none k p n ≡ all_below (λ (j : ℕ). nat_lt j 2 || is_bare k j p) n
none_below k p zero = refl
none_below k p (suc n) = ap (λ (b : Bool). (nat_lt n 2 || is_bare k n p) && b) (none_below k p n)

words_below : (scheme : SchemeKind) (k : ℕ) (p : Past) (n : ℕ) → indexes_rest scheme k p n ≡ all_below (index_rests scheme k p) n
words_below scheme k p zero = refl
words_below scheme k p (suc n) = ap (λ (b : Bool). index_rests scheme k p n && b) (words_below scheme k p n)

word_is : (config : Config) (kept : Protections) (p : Past) → IsProtections config kept p → (k j : ℕ) → k < config.seats → j < config.indexes → word_rests kept k j ≡ index_rests config.scheme k p j
word_is config kept p r k j l m = let value : published_in kept (Index k j) ≡ published_at config.scheme (Index k j) p = index_is config kept p r k j l m in
    ap (λ (v : Shown). if nat_lt j 2 then is_blank v else is_alike v (bare_in kept k j)) value
    ∙ ap (λ (b : Bool). if nat_lt j 2 then is_blank (published_at config.scheme (Index k j) p) else is_alike (published_at config.scheme (Index k j) p) b) (bare_is config kept p r k j l m)

rests_below : (config : Config) (kept : Protections) (p : Past) (named : Config) (k : ℕ) → IsProtections config kept p → k < config.seats → named.scheme ≡ config.scheme → named.indexes ≤ config.indexes
    → rests kept named.indexes k ≡ guards_rest named k p
rests_below config kept p named k r l e m =
    let scheme : kept.config.scheme ≡ named.scheme = ap (λ (c : Config). c.scheme) r.setting ∙ sym e in
    let whole : value_in kept (Whole k) ≡ value_of (Whole k) p = r.values (Whole k) l in
    let helper : value_in kept (Helper k) ≡ value_of (Helper k) p = r.values (Helper k) l in
    let bare : all_below (low_or_bare kept k) named.indexes ≡ keeps_none k p named.indexes =
    below_same (low_or_bare kept k) (λ (j : ℕ). nat_lt j 2 || is_bare k j p) named.indexes (λ j n. ap (λ (b : Bool). nat_lt j 2 || b) (bare_is config kept p r k j l (omega arith))) ∙ sym (none_below k p named.indexes) in
    let words : all_below (word_rests kept k) named.indexes ≡ indexes_rest named.scheme k p named.indexes =
    below_same (word_rests kept k) (index_rests named.scheme k p) named.indexes (λ j n. word_is config kept p r k j l (omega arith) ∙ ap (λ (s : SchemeKind). index_rests s k p j) (sym e)) ∙ sym (words_below named.scheme k p named.indexes) in
    ap (λ (s : SchemeKind). if has_one_interval s then is_alike (shown (value_in kept (Whole k))) (all_below (low_or_bare kept k) named.indexes) else is_none (value_in kept (Helper k)) && all_below (word_rests kept k) named.indexes) scheme
    ∙ ap (λ (v : Option Interval). if has_one_interval named.scheme then is_alike (shown v) (all_below (low_or_bare kept k) named.indexes) else is_none (value_in kept (Helper k)) && all_below (word_rests kept k) named.indexes) whole
    ∙ ap (λ (b : Bool). if has_one_interval named.scheme then is_alike (shown (value_of (Whole k) p)) b else is_none (value_in kept (Helper k)) && all_below (word_rests kept k) named.indexes) bare
    ∙ ap (λ (v : Option Interval). if has_one_interval named.scheme then is_alike (shown (value_of (Whole k) p)) (keeps_none k p named.indexes) else is_none v && all_below (word_rests kept k) named.indexes) helper
    ∙ ap (λ (b : Bool). if has_one_interval named.scheme then is_alike (shown (value_of (Whole k) p)) (keeps_none k p named.indexes) else is_none (value_of (Helper k) p) && b) words

rests_named : (later : Bool) (config : Config) (kept : Protections) (p : Past) (k : ℕ) → IsProtections config kept p → k < config.seats
    → rests kept (if later then config.indexes else 3) k ≡ guards_rest (if later then config else record config { indexes = 3 }) k p
rests_named true config kept p k r l = rests_below config kept p config k r l refl (omega arith)
rests_named false config kept p k r l = rests_below config kept p (record config { indexes = 3 }) k r l refl r.indexes

ends_is : (config : Config) (kept : Protections) (p : Past) (version k : ℕ) → IsProtections config kept p → k < config.seats
    → ends_right kept version k ≡ (is_bare k 0 p && is_bare k 1 p && guards_rest (named_indexes version config) k p)
ends_is config kept p version k r l =
    let zero_in : 0 < config.indexes = omega (arith, r.indexes) in
    let one_in : 1 < config.indexes = omega (arith, r.indexes) in
    ap (λ (b : Bool). b && bare_in kept k 1 && rests kept (indexes_of version kept.config.indexes) k) (bare_is config kept p r k 0 l zero_in)
    ∙ ap (λ (b : Bool). is_bare k 0 p && b && rests kept (indexes_of version kept.config.indexes) k) (bare_is config kept p r k 1 l one_in)
    ∙ ap (λ (c : Config). is_bare k 0 p && is_bare k 1 p && rests kept (indexes_of version c.indexes) k) r.setting
    ∙ ap (λ (b : Bool). is_bare k 0 p && is_bare k 1 p && b) (rests_named (nat_le 2 version) config kept p k r l)

three_true : (kind x : Bool) → (kind && x) ≡ (((x && kind) && true) && true)
three_true true true = refl
three_true true false = refl
three_true false true = refl
three_true false false = refl

six_true : (kind x : Bool) → (kind && x) ≡ ((((((x && true) && true) && true) && kind) && true) && true)
six_true true true = refl
six_true true false = refl
six_true false true = refl
six_true false false = refl

of_index : (kind x : Bool) → (kind && x) ≡ ((((((x && true) && true) && true) && (kind && true)) && true) && true)
of_index true true = refl
of_index true false = refl
of_index false true = refl
of_index false false = refl

of_other : (kind x : Bool) → (kind && false) ≡ ((((((x && true) && true) && true) && (kind && false)) && true) && true)
of_other true true = refl
of_other true false = refl
of_other false true = refl
of_other false false = refl

-- a scan sees index words alone
saw_is : (config : Config) (kept : Protections) (p : Past) (slot : Option ℕ) (guard : Guard) → IsProtections config kept p → GuardIn config guard
    → (publishes_rows config.scheme && (is_index guard && same_value slot (hazard_in kept guard)))
    ≡ ((((((same_value slot (hazard_of guard p) && true) && true) && true) && (publishes_rows config.scheme && is_index guard)) && true) && true)
saw_is config kept p slot (Helper seat) r w = of_other (publishes_rows config.scheme) (same_value slot (hazard_of (Helper seat) p))
saw_is config kept p slot (Index seat index) r w =
    ap (λ (v : Option ℕ). publishes_rows config.scheme && same_value slot v) (r.hazards seat index w.0 w.1) ∙ of_index (publishes_rows config.scheme) (same_value slot (hazard_of (Index seat index) p))
saw_is config kept p slot (Whole seat) r w = of_other (publishes_rows config.scheme) (same_value slot (hazard_of (Whole seat) p))

of_kind : (config : Config) (kept : Protections) (p : Past) → IsProtections config kept p → publishes_rows kept.config.scheme ≡ publishes_rows config.scheme
of_kind config kept p r = ap (λ (c : Config). publishes_rows c.scheme) r.setting

reserves_is : (config : Config) (kept : Protections) (p : Past) (i : ℕ) (guard : Guard) (span : Option Interval) → IsProtections config kept p → i < config.seats → GuardIn config guard
    → reserves_right kept i guard span ≡ (single_ok config.scheme p i (events.Reserve guard span) && rising_ok config.scheme p i (events.Reserve guard span) && guard_ok config.scheme p i (events.Reserve guard span))
reserves_is config kept p i guard span r l q =
    let mine : value_in kept guard ≡ value_of guard p = r.values guard q in
    let helper : value_in kept (Helper i) ≡ value_of (Helper i) p = r.values (Helper i) l in
    ap (λ (c : Config). is_one_era c.scheme span && (not (has_one_interval c.scheme) || span_rises (value_in kept guard) span) && (seat_of guard == i || (is_index guard && (is_wfe c.scheme && same_interval span (value_in kept (Helper i)))))) r.setting
    ∙ ap (λ (v : Option Interval). is_one_era config.scheme span && (not (has_one_interval config.scheme) || span_rises v span) && (seat_of guard == i || (is_index guard && (is_wfe config.scheme && same_interval span (value_in kept (Helper i)))))) mine
    ∙ ap (λ (v : Option Interval). is_one_era config.scheme span && (not (has_one_interval config.scheme) || span_rises (value_of guard p) span) && (seat_of guard == i || (is_index guard && (is_wfe config.scheme && same_interval span v)))) helper

pub right_is : (config : Config) (kept : Protections) (p : Past) (version i : ℕ) (event : Event) → IsProtections config kept p → EntryIn config i event
    → right kept version i event ≡ (read_ok p i event && single_ok config.scheme p i event && rising_ok config.scheme p i event && guard_ok config.scheme p i event && kind_ok config.scheme p i event && bare_ok p i event && rests_of version config p i event)
right_is config kept p version i (events.Read guard span) r w =
    ap (λ (b : Bool). not b && same_span span (value_in kept guard)) (of_kind config kept p r)
    ∙ ap (λ (v : Option Interval). not (publishes_rows config.scheme) && same_span span v) (r.values guard w.within) ∙ six_true (not (publishes_rows config.scheme)) (same_span span (value_of guard p))
right_is config kept p version i (events.Saw guard slot) r w =
    ap (λ (b : Bool). b && (is_index guard && same_value slot (hazard_in kept guard))) (of_kind config kept p r)
    ∙ saw_is config kept p slot guard r w.within.0
right_is config kept p version i (events.Hazard guard slot) r w =
    ap (λ (b : Bool). b && (is_index guard && seat_of guard == i)) (of_kind config kept p r) ∙ three_true (publishes_rows config.scheme) (is_index guard && seat_of guard == i)
right_is config kept p version i (events.Reserve guard span) r w =
    ap (λ (b : Bool). not b && reserves_right kept i guard span) (of_kind config kept p r)
    ∙ ap (λ (b : Bool). not (publishes_rows config.scheme) && b) (reserves_is config kept p i guard span r w.seated w.within)
    ∙ three_true (not (publishes_rows config.scheme)) (single_ok config.scheme p i (events.Reserve guard span) && rising_ok config.scheme p i (events.Reserve guard span) && guard_ok config.scheme p i (events.Reserve guard span))
right_is config kept p version i (events.End steps answer) r w = ends_is config kept p version i r w.seated
right_is config kept p version i event r w = refl

-- rows that are used again
apart : (s slot : ℕ) (stands misses : Bool) → misses ≡ not stands → misses ≡ true → not (stands && (s == slot)) ≡ true
apart s slot true misses e h = absurd (let no : false ≡ true = sym e ∙ h in (cc))
apart s slot false misses e h = refl

no_reuse : (stands same : Bool) → stands ≡ false → not (stands && same) ≡ true
no_reuse true same e = absurd (cc)
no_reuse false same e = refl

misses_of : (slot : ℕ) (stands : Bool) → not (stands && (slot == slot)) ≡ true → not stands ≡ true
misses_of slot true h = let e : (slot == slot) ≡ true = same_number slot in absurd (let no : false ≡ true = rw e at h in (cc))
misses_of slot false h = refl

-- where no place has the row, it is used again nowhere, and the other way round
nowhere_none : (config : Config) (kept : Protections) (p : Past) (slot : ℕ) → IsProtections config kept p → stands_nowhere kept slot ≡ true → (k j s : ℕ) → not (stands k j s p && (s == slot)) ≡ true
nowhere_none config kept p slot r h k j s = by_cases (stands k j s p && (s == slot)) (not (stands k j s p && (s == slot)) ≡ true)
    (λ t. let there : stands k j s p ≡ true = first_of (stands k j s p) (s == slot) t in
    let same : s ≡ slot = number_is s slot (rest_of (stands k j s p) (s == slot) t) in
    let place = r.within k j s there in
    let seat_in : k < kept.config.seats = subst (λ (c : Config). k < c.seats) (sym r.setting) place.seat_in in
    let index_in : j < kept.config.indexes = subst (λ (c : Config). j < c.indexes) (sym r.setting) place.index_in in
    let missed : not (stands_in kept k j slot) ≡ true = at_below (misses_at kept slot k) kept.config.indexes (at_below (misses_by kept slot) kept.config.seats h k seat_in) j index_in in
    let bare : stands_in kept k j slot ≡ false = false_of_not (stands_in kept k j slot) missed in
    let no : true ≡ false = sym there ∙ ap (λ (n : ℕ). stands k j n p) same ∙ sym (r.standing k j slot place.seat_in place.index_in) ∙ bare in
    absurd (cc))
    (λ t. rw t refl)

none_nowhere : (config : Config) (kept : Protections) (p : Past) (slot : ℕ) → IsProtections config kept p → ((k j s : ℕ) → not (stands k j s p && (s == slot)) ≡ true) → stands_nowhere kept slot ≡ true
none_nowhere config kept p slot r h = below_by (misses_by kept slot) kept.config.seats (λ k l. below_by (misses_at kept slot k) kept.config.indexes (λ j m.
    let seat_in : k < config.seats = subst (λ (c : Config). k < c.seats) r.setting l in
    let index_in : j < config.indexes = subst (λ (c : Config). j < c.indexes) r.setting m in
    ap not (r.standing k j slot seat_in index_in) ∙ misses_of slot (stands k j slot p) (h k j slot)))

never : (b : Bool) → not (b && false) ≡ true
never true = refl
never false = refl

pub reuses_is : (config : Config) (kept : Protections) (p : Past) (i : ℕ) (event : Event) → IsProtections config kept p → (reuses_none kept event ≡ true) ↔ NoneReused p i event
reuses_is config kept p i (events.Give slot birth) r = (nowhere_none config kept p slot r, none_nowhere config kept p slot r)
reuses_is config kept p i (events.Unused slot) r = (nowhere_none config kept p slot r, none_nowhere config kept p slot r)
reuses_is config kept p i (events.Back slot) r = (nowhere_none config kept p slot r, none_nowhere config kept p slot r)
reuses_is config kept p i event r = ((λ h k j s. never (stands k j s p)), (λ h. refl))

-- links
stands_for_is : (config : Config) (kept : Protections) (p : Past) (k : ℕ) → IsProtections config kept p → k < config.seats → (found : Option ℕ) → stands_for_in kept k found ≡ stands_for k p found
stands_for_is config kept p k r l None = refl
stands_for_is config kept p k r l (Some slot) = r.standing k 0 slot l (omega (arith, r.indexes))

pub links_is : (config : Config) (kept : Protections) (rows : Rows) (p : Past) (call : Option Call) (i : ℕ) (event : Event) → IsProtections config kept p → IsRows config rows p → EntryIn config i event → call ≡ began_of i p
    → links_right kept rows call i event ≡ links_ok config.slots p i event
links_is config kept rows p call i (events.Link (roots.Bucket bucket) slot) r q w e = stands_for_is config kept p i r w.seated (root rows bucket) ∙ ap (stands_for i p) (q.roots bucket w.within.0)
links_is config kept rows p call i (events.Link (roots.Next parent) slot) r q w e = r.standing i 0 parent w.seated (omega (arith, r.indexes))
links_is config kept rows p call i (events.Link roots.Head slot) r q w e =
    ap (λ (b : Bool). b && stands_in kept i 1 slot) (r.standing i 0 rows.head w.seated (omega (arith, r.indexes)) ∙ ap (λ (n : ℕ). stands i 0 n p) q.head)
    ∙ ap (λ (b : Bool). stands i 0 (head_at config.slots p) p && b) (r.standing i 1 slot w.seated (omega (arith, r.indexes)))
links_is config kept rows p call i (events.Link roots.Tail slot) r q w e =
    ap (λ (b : Bool). b && (not (is_dequeue call) || stands_in kept i 1 slot)) (r.standing i 0 rows.tail w.seated (omega (arith, r.indexes)) ∙ ap (λ (n : ℕ). stands i 0 n p) q.tail)
    ∙ ap (λ (c : Option Call). stands i 0 (tail_at config.slots p) p && (not (is_dequeue c) || stands_in kept i 1 slot)) e
    ∙ ap (λ (b : Bool). stands i 0 (tail_at config.slots p) p && (not (is_dequeue (began_of i p)) || b)) (r.standing i 1 slot w.seated (omega (arith, r.indexes)))
links_is config kept rows p call i event r q w e = refl

pub behind_is : (config : Config) (kept : Protections) (rows : Rows) (p : Past) (i index slot steps : ℕ) → IsProtections config kept p → IsRows config rows p → i < config.seats
    → held_behind kept rows i index slot ≡ behind_ok config.slots p i (events.Held index slot steps)
behind_is config kept rows p i index slot steps r q l =
    let stood : stands_in kept i 0 rows.head ≡ stands i 0 (head_at config.slots p) p = r.standing i 0 rows.head l (omega (arith, r.indexes)) ∙ ap (λ (n : ℕ). stands i 0 n p) q.head in
    let next : (row rows rows.head).next ≡ next_at (head_at config.slots p) p = (q.each rows.head q.head_in).next ∙ ap (λ (n : ℕ). next_at n p) q.head in
    ap (λ (b : Bool). not (index == 1) || (b && is_slot slot (row rows rows.head).next)) stood
    ∙ ap (λ (x : Option ℕ). not (index == 1) || (stands i 0 (head_at config.slots p) p && is_slot slot x)) next
