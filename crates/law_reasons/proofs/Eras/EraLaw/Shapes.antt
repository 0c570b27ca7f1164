-- A law on events of which a step tells one at most is kept where each event that a machine's step may tell keeps it, and what the
-- second step of a copy publishes, or the step that withdraws an interval.
use Rattle.std.proofs.Common.{ℕ, ◌≡◌, ◌∙◌, ◌+◌, Bool, true, false, List, [], ◌∷◌, ◌++◌, refl, sym, ap, subst, Option, Some, None}
use Rattle.std.proofs.lemmas.List.Elements.{filter-append}
use Rattle.std.specs.List.{filter}
use Rattle.std.specs.Prelude.{drop, if◌then◌else◌}
use Rattle.law_scans.specs.inv.model.Phases.{Base}
use Rattle.law_scans.specs.inv.model.declared.post.Post.{Post}
use Rattle.law_scans.specs.laws.defs.declared.event.Event.{Event}
use Rattle.law_scans.specs.laws.defs.declared.event.Event.TheVariants as events
use Rattle.law_scans.proofs.reuse.history.MayTell.{Shape, Silent, Clears, Drops, Takes, Tells, is_find, cleared_all, cleared_from_all}
use Rattle.law_scans.proofs.reuse.history.AllOf.{all_of, of_along}
use Rattle.law_scans.proofs.reuse.history.Passes.{copied_told, keep_told, work_told}
use Rattle.law_scans.proofs.laws.records.defs.Facts.{and_true}
use Rattle.law_scans.specs.inv.model.Calls.{KeepAt, Loosens, LoadHeld, StoreHeld, Looks, Misses, HideSpan, MarkLeft, TakeList, MarkTaken, Work, Getting, Changing, Enqueuing, Dequeuing, Keeping}
use Rattle.law_scans.specs.inv.model.Guards.{linked_row, one_era}
use Rattle.law_scans.specs.inv.model.Posts.{cleared, cleared_from, publishes_index, stands, reserves_span}
use Rattle.law_scans.specs.inv.model.Rounds.{scheme_of, let_index}
use Rattle.law_scans.specs.laws.defs.declared.event.Guard.TheVariants.{Index, Whole}
use Rattle.law_scans.specs.laws.words.Schemes.{has_one_interval, publishes_rows}
use Rattle.law_scans.specs.laws.records.Record.{Past, Test}
use Rattle.law_scans.proofs.laws.Along.{Single}

-- of what a machine's step tells one event at most is of such a kind, where neither what stands no more nor what is found is
kept_none : (kind : Event → Bool) (event : Event) (told : List Event) → kind event ≡ false → filter kind (event ∷ told) ≡ filter kind told
kept_none kind event told e = rw e refl

kept_one : (kind : Event → Bool) (ok : Test) (p : Past) (i : ℕ) (event : Event) (loud : Bool) → kind event ≡ loud → ok p i event ≡ true → Single ok p i (filter kind (event ∷ []))
kept_one kind ok p i event true e h = rw e h
kept_one kind ok p i event false e h = rw e tt

pub shape_single : (kind : Event → Bool) (ok : Test) (p : Past) (i : ℕ) → ((index slot : ℕ) → kind (events.Clear index slot) ≡ false) → ((event : Event) → is_find event ≡ true → kind event ≡ false)
    → (base : Base) (post : Post) (found : ℕ) (told : List Event) → Shape base post found told → ((event : Event) → Tells base post found event → ok p i event ≡ true) → Single ok p i (filter kind told)
shape_single kind ok p i c f base post found told (Silent e) h = rw e tt
shape_single kind ok p i c f base post found told (Shape.Single event e t) h = rw e (kept_one kind ok p i event (kind event) refl (h event t))
shape_single kind ok p i c f base post found told (Clears index slot guard e a b) h =
    rw (e, kept_none kind (events.Clear index slot) (events.Reserve guard None ∷ []) (c index slot)) (kept_one kind ok p i (events.Reserve guard None) (kind (events.Reserve guard None)) refl (h (events.Reserve guard None) b))
shape_single kind ok p i c f base post found told (Drops index slot guard e a b) h =
    rw (e, kept_none kind (events.Clear index slot) (events.Hazard guard None ∷ []) (c index slot)) (kept_one kind ok p i (events.Hazard guard None) (kind (events.Hazard guard None)) refl (h (events.Hazard guard None) b))
shape_single kind ok p i c f base post found told (Takes guard span event e t q a b) h =
    rw e (subst (λ (es : List Event). Single ok p i es) (sym (kept_first kind (events.Reserve guard span) event (f event q))) (kept_one kind ok p i (events.Reserve guard span) (kind (events.Reserve guard span)) refl (h (events.Reserve guard span) a)))
  where
    kept_first : (kind : Event → Bool) (event other : Event) → kind other ≡ false → filter kind (event ∷ other ∷ []) ≡ filter kind (event ∷ [])
    kept_first kind event other k = by (kind event)
      where
        by : (b : Bool) → (if b then event ∷ filter kind (other ∷ []) else filter kind (other ∷ [])) ≡ (if b then event ∷ [] else [])
        by true = ap (λ (es : List Event). event ∷ es) (kept_none kind other [] k)
        by false = kept_none kind other [] k

-- what the second step of a copy tells of its index word: an era, or where rows are published a row
abbrev pub published_event : (rows : Bool) → Post → ℕ → ℕ → Event
published_event false post index era = events.Reserve (Index post.seat index) (one_era era)
published_event true post index link = events.Hazard (Index post.seat index) (linked_row link)

published_one : (rows : Bool) (post : Post) (index number : ℕ) → publishes_index rows post index number ≡ published_event rows post index number ∷ []
published_one false post index number = refl
published_one true post index number = refl

-- the same of a call's own step: of such a kind it tells at most what the second step of a copy publishes, or that one interval no more
-- stands
cleared_filter : (kind : Event → Bool) (index : ℕ) (x : Option ℕ) → ((index slot : ℕ) → kind (events.Clear index slot) ≡ false) → filter kind (cleared index x) ≡ []
cleared_filter kind index None c = refl
cleared_filter kind index (Some slot) c = kept_none kind (events.Clear index slot) [] (c index slot)

cleared_from_filter : (kind : Event → Bool) (index : ℕ) (rows : List (Option ℕ)) → ((index slot : ℕ) → kind (events.Clear index slot) ≡ false) → filter kind (cleared_from index rows) ≡ []
cleared_from_filter kind index [] c = refl
cleared_from_filter kind index (row ∷ rows) c =
    filter-append kind (cleared index row) (cleared_from (index + 1) rows)
    ∙ ap (λ (es : List Event). es ++ filter kind (cleared_from (index + 1) rows)) (cleared_filter kind index row c)
    ∙ cleared_from_filter kind (index + 1) rows c

-- where all that stands is let go with the interval, what is published comes last
hidden_filter : (kind : Event → Bool) (rows : List (Option ℕ)) (reserved : List Event) → ((index slot : ℕ) → kind (events.Clear index slot) ≡ false) → filter kind (cleared_from 2 rows ++ reserved) ≡ filter kind reserved
hidden_filter kind rows reserved c =
    filter-append kind (cleared_from 2 rows) reserved ∙ ap (λ (es : List Event). es ++ filter kind reserved) (cleared_from_filter kind 2 rows c)

no_more : (xs : List Event) → xs ++ [] ≡ xs
no_more [] = refl
no_more (x ∷ xs) = ap (λ (rest : List Event). x ∷ rest) (no_more xs)

copied_filter : (kind : Event → Bool) (from index slot : ℕ) (post : Post) (reserved : List Event) → ((index slot : ℕ) → kind (events.Clear index slot) ≡ false) → ((from index slot : ℕ) → kind (events.Copied from index slot) ≡ false)
    → filter kind (copied_told from index post reserved (Some slot)) ≡ filter kind reserved
copied_filter kind from index slot post reserved c d =
    let gone : List Event = cleared index (stands post index) in
    filter-append kind (gone ++ reserved) (events.Copied from index slot ∷ [])
    ∙ ap (λ (es : List Event). filter kind (gone ++ reserved) ++ es) (kept_none kind (events.Copied from index slot) [] (d from index slot))
    ∙ no_more (filter kind (gone ++ reserved))
    ∙ filter-append kind gone reserved
    ∙ ap (λ (es : List Event). es ++ filter kind reserved) (cleared_filter kind index (stands post index) c)

copied_single : (kind : Event → Bool) (ok : Test) (p : Past) (i from index : ℕ) (post : Post) (reserved : List Event) (x : Option ℕ) → ((index slot : ℕ) → kind (events.Clear index slot) ≡ false) → ((from index slot : ℕ) → kind (events.Copied from index slot) ≡ false)
    → Single ok p i (filter kind reserved) → Single ok p i (filter kind (copied_told from index post reserved x))
copied_single kind ok p i from index post reserved None c d h = tt
copied_single kind ok p i from index post reserved (Some slot) c d h = subst (λ (es : List Event). Single ok p i es) (sym (copied_filter kind from index slot post reserved c d)) h

load_single : (kind : Event → Bool) (ok : Test) (p : Past) (i from index : ℕ) (post : Post) (one : Bool) → ((index slot : ℕ) → kind (events.Clear index slot) ≡ false) → ((from index slot : ℕ) → kind (events.Copied from index slot) ≡ false)
    → Single ok p i (filter kind (if one then copied_told from index post [] (stands post from) else []))
load_single kind ok p i from index post true c d = copied_single kind ok p i from index post [] (stands post from) c d tt
load_single kind ok p i from index post false c d = tt

keep_single : (kind : Event → Bool) (ok : Test) (p : Past) (i : ℕ) → ((index slot : ℕ) → kind (events.Clear index slot) ≡ false) → ((from index slot : ℕ) → kind (events.Copied from index slot) ≡ false)
    → (at : KeepAt) (post : Post) → ((from index number : ℕ) → at ≡ StoreHeld from index number → ok p i (published_event (publishes_rows (scheme_of post)) post index number) ≡ true) → (at ≡ HideSpan → ok p i (events.Reserve (Whole post.seat) None) ≡ true) → Single ok p i (filter kind (keep_told at post))
keep_single kind ok p i c d (Loosens let_go) post h w = rw (cleared_filter kind (let_index let_go) (stands post (let_index let_go)) c) tt
keep_single kind ok p i c d (LoadHeld from index) post h w = load_single kind ok p i from index post (has_one_interval (scheme_of post)) c d
keep_single kind ok p i c d (StoreHeld from index number) post h w =
    let rows : Bool = publishes_rows (scheme_of post) in
    let event : Event = published_event rows post index number in
    copied_single kind ok p i from index post (publishes_index rows post index number) (stands post from) c d
    (subst (λ (es : List Event). Single ok p i (filter kind es)) (sym (published_one rows post index number)) (kept_one kind ok p i event (kind event) refl (h from index number refl)))
keep_single kind ok p i c d (Looks index key at) post h w = tt
keep_single kind ok p i c d (Misses index) post h w = tt
keep_single kind ok p i c d HideSpan post h w =
    let event : Event = events.Reserve (Whole post.seat) None in
    subst (λ (es : List Event). Single ok p i es) (sym (hidden_filter kind (drop 2 post.standing) (reserves_span post None) c)) (kept_one kind ok p i event (kind event) refl (w refl))
keep_single kind ok p i c d MarkLeft post h w = tt
keep_single kind ok p i c d (TakeList place) post h w = tt
keep_single kind ok p i c d (MarkTaken place count) post h w = tt

pub work_single : (kind : Event → Bool) (ok : Test) (p : Past) (i : ℕ) → ((index slot : ℕ) → kind (events.Clear index slot) ≡ false) → ((from index slot : ℕ) → kind (events.Copied from index slot) ≡ false)
    → (work : Work) (post : Post) → ((from index number : ℕ) → work ≡ Keeping (StoreHeld from index number) → ok p i (published_event (publishes_rows (scheme_of post)) post index number) ≡ true) → (work ≡ Keeping HideSpan → ok p i (events.Reserve (Whole post.seat) None) ≡ true) → Single ok p i (filter kind (work_told work post))
work_single kind ok p i c d (Getting key at) post h w = tt
work_single kind ok p i c d (Changing kept at) post h w = tt
work_single kind ok p i c d (Enqueuing kept at) post h w = tt
work_single kind ok p i c d (Dequeuing at) post h w = tt
work_single kind ok p i c d (Keeping at) post h w = keep_single kind ok p i c d at post (λ from index era e. h from index era (ap (λ (x : KeepAt). Keeping x) e)) (λ e. w (ap (λ (x : KeepAt). Keeping x) e))

-- a test that passes whatever such a step tells
copied_all : (ok : Event → Bool) (from index : ℕ) (post : Post) (reserved : List Event) (x : Option ℕ) → ((index slot : ℕ) → ok (events.Clear index slot) ≡ true) → ((from index slot : ℕ) → ok (events.Copied from index slot) ≡ true) → all_of ok reserved ≡ true → all_of ok (copied_told from index post reserved x) ≡ true
copied_all ok from index post reserved None c d h = refl
copied_all ok from index post reserved (Some slot) c d h =
    of_along ok (cleared index (stands post index) ++ reserved) (events.Copied from index slot ∷ [])
    (of_along ok (cleared index (stands post index)) reserved (cleared_all ok index (stands post index) c) h) (and_true (ok (events.Copied from index slot)) (d from index slot))

load_all : (ok : Event → Bool) (from index : ℕ) (post : Post) (one : Bool) → ((index slot : ℕ) → ok (events.Clear index slot) ≡ true) → ((from index slot : ℕ) → ok (events.Copied from index slot) ≡ true)
    → all_of ok (if one then copied_told from index post [] (stands post from) else []) ≡ true
load_all ok from index post true c d = copied_all ok from index post [] (stands post from) c d refl
load_all ok from index post false c d = refl

pub work_passes : (ok : Event → Bool) → ((index slot : ℕ) → ok (events.Clear index slot) ≡ true) → ((from index slot : ℕ) → ok (events.Copied from index slot) ≡ true)
    → (work : Work) (post : Post) → ((from index number : ℕ) → work ≡ Keeping (StoreHeld from index number) → ok (published_event (publishes_rows (scheme_of post)) post index number) ≡ true) → (work ≡ Keeping HideSpan → ok (events.Reserve (Whole post.seat) None) ≡ true) → all_of ok (work_told work post) ≡ true
work_passes ok c d (Getting key at) post h w = refl
work_passes ok c d (Changing kept at) post h w = refl
work_passes ok c d (Enqueuing kept at) post h w = refl
work_passes ok c d (Dequeuing at) post h w = refl
work_passes ok c d (Keeping (Loosens let_go)) post h w = cleared_all ok (let_index let_go) (stands post (let_index let_go)) c
work_passes ok c d (Keeping (LoadHeld from index)) post h w = load_all ok from index post (has_one_interval (scheme_of post)) c d
work_passes ok c d (Keeping (StoreHeld from index number)) post h w =
    let rows : Bool = publishes_rows (scheme_of post) in
    copied_all ok from index post (publishes_index rows post index number) (stands post from) c d
    (subst (λ (es : List Event). all_of ok es ≡ true) (sym (published_one rows post index number)) (and_true (ok (published_event rows post index number)) (h from index number refl)))
work_passes ok c d (Keeping (Looks index key at)) post h w = refl
work_passes ok c d (Keeping (Misses index)) post h w = refl
work_passes ok c d (Keeping HideSpan) post h w =
    of_along ok (cleared_from 2 (drop 2 post.standing)) (reserves_span post None) (cleared_from_all ok 2 (drop 2 post.standing) c) (and_true (ok (events.Reserve (Whole post.seat) None)) (w refl))
work_passes ok c d (Keeping MarkLeft) post h w = refl
work_passes ok c d (Keeping (TakeList place)) post h w = refl
work_passes ok c d (Keeping (MarkTaken place count)) post h w = refl
