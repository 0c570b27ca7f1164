-- The rows that guards are told to publish, and those that scans see, are those of the table.
use Rattle.std.proofs.Common.{ℕ, ◌≡◌, ◌≤◌, ◌+◌, ◌-◌, Bool, true, false, List, [], ◌∷◌, ◌++◌, Option, Some, None, refl, sym, ap, ◌∙◌, subst}
use Rattle.std.specs.Prelude.{◌==◌, ◌&&◌, drop, if◌then◌else◌}
use Rattle.law_scans.specs.inv.model.words.Place.Place.{Clock}
use Rattle.law_scans.specs.inv.model.words.Schemes.{has_one_interval, publishes_rows}
use Rattle.law_scans.specs.inv.model.words.declared.config.Config.{Config}
use Rattle.law_scans.specs.inv.model.words.declared.config.SchemeKind.{SchemeKind}
use Rattle.law_scans.specs.inv.model.words.declared.config.SchemeKind.TheVariants.{He, Hp, Ibr, Wfe}
use Rattle.law_scans.specs.inv.model.words.declared.layout.Layout.{Layout}
use Rattle.law_scans.specs.inv.model.defs.declared.event.Event.{Event}
use Rattle.law_scans.specs.inv.model.defs.declared.event.Event.TheVariants as events
use Rattle.law_scans.specs.inv.model.defs.declared.event.Guard.TheVariants.{Helper, Index, Whole}
use Rattle.law_scans.specs.inv.model.declared.post.Post.{Post}
use Rattle.law_scans.specs.inv.model.Calls.{Getting, Changing, Enqueuing, Dequeuing, Keeping, KeepAt, Loosens, LoadHeld, StoreHeld, Looks, Misses, HideSpan, MarkLeft, TakeList, MarkTaken, Work, ReadGuard, GiveBack, Phase, Idle, Runs, Scans, Works}
use Rattle.law_scans.specs.inv.model.Guards.{guard_at, guard_by, guard_place, linked_row}
use Rattle.law_scans.specs.inv.model.Phases.{Base}
use Rattle.law_scans.specs.inv.model.Phases.HazardAt.{FirstLink, PublishLink, CheckLink}
use Rattle.law_scans.specs.inv.model.Phases.ProtectAt.{ByHazard}
use Rattle.law_scans.specs.inv.model.Phases.Base.{Protect}
use Rattle.law_scans.specs.inv.model.Posts.{counted, cleared, cleared_from, publishes_index, reserves_span, stands}
use Rattle.law_scans.specs.inv.model.Rounds.{let_index, scheme_of}
use Rattle.law_scans.specs.inv.model.Scan.{reads_guard}
use Rattle.law_scans.specs.inv.model.World.{World, finds, offered, told_in}
use Rattle.law_scans.proofs.inv.model.Facts.{and_true, rest_of, le_test}
use Rattle.law_scans.specs.inv.shapes.Eras.{Eras, HeldIn, PhaseEras, ShownIn, work_eras}
use Rattle.law_scans.specs.inv.shapes.Seats.{Seats}
use Rattle.law_scans.specs.inv.shapes.Slots.{BaseIn, PhaseIn, Slots}
use Rattle.law_scans.proofs.inv.covers.Held.{finds_at}
use Rattle.law_scans.proofs.inv.history.AllOf.{all_of, of_along}
use Rattle.law_scans.proofs.inv.history.MayTell.{Tells, Passes, base_all, base_hazards, base_row, cleared_all, cleared_from_all, row_is, same_row, step_all}
use Rattle.law_scans.proofs.inv.history.Passes.{is_quiet, First, copied_told, keep_told, work_told}
use Rattle.law_scans.proofs.reuse.shapes.SlotCalls.{link_row}
use Rattle.law_scans.specs.laws.HistoryTable.{is_row_or_none}

abbrev pub hazards_in : Config → Event → Bool
hazards_in c (events.Hazard guard slot) = is_row_or_none c slot
hazards_in c (events.Saw guard slot) = is_row_or_none c slot
hazards_in c event = true

-- the row of a link
link_low : (c : Config) (link : ℕ) → link ≤ c.slots + 1 → is_row_or_none c (linked_row link) ≡ true
link_low c link h = by (link == 0)
  where
    by : (none : Bool) → is_row_or_none c (if none then None else Some (link - 1)) ≡ true
    by true = refl
    by false = le_test (link - 1) c.slots (link_row c.slots link h)

-- a machine
base_low : (layout : Layout) (base : Base) → BaseIn layout base → is_row_or_none layout.config (base_row base) ≡ true
base_low layout (Protect aim index root made (ByHazard (PublishLink link))) h = link_low layout.config link (h.at_in.1)
base_low layout (Protect aim index root made (ByHazard FirstLink)) h = refl
base_low layout (Protect aim index root made (ByHazard (CheckLink link))) h = refl
base_low layout (Protect aim index root made at) h = refl
base_low layout base h = refl

told_low : (layout : Layout) (base : Base) (post : Post) (found : ℕ) (event : Event) → BaseIn layout base → Tells base post found event → hazards_in layout.config event ≡ true
told_low layout base post found (events.Hazard (Index seat index) slot) h t =
    let own : (seat == post.seat && same_row slot (base_row base)) ≡ true = rest_of (base_hazards base index) (seat == post.seat && same_row slot (base_row base)) t in
    let same : slot ≡ base_row base = row_is slot (base_row base) (rest_of (seat == post.seat) (same_row slot (base_row base)) own) in
    subst (λ (x : Option ℕ). is_row_or_none layout.config x ≡ true) (sym same) (base_low layout base h)
told_low layout base post found (events.Hazard (Helper seat) slot) h t = absurd (cc)
told_low layout base post found (events.Hazard (Whole seat) slot) h t = absurd (cc)
told_low layout base post found (events.Saw guard slot) h t = absurd (cc)
told_low layout base post found event h t = refl

-- a step of a call on what is kept
copied_low : (c : Config) (from index : ℕ) (post : Post) (reserved : List Event) (x : Option ℕ) → all_of (hazards_in c) reserved ≡ true → all_of (hazards_in c) (copied_told from index post reserved x) ≡ true
copied_low c from index post reserved None r = refl
copied_low c from index post reserved (Some slot) r =
    of_along (hazards_in c) (cleared index (stands post index) ++ reserved) (events.Copied from index slot ∷ [])
    (of_along (hazards_in c) (cleared index (stands post index)) reserved (cleared_all (hazards_in c) index (stands post index) (λ index slot. refl)) r) refl

load_low : (c : Config) (from index : ℕ) (post : Post) (one : Bool) → all_of (hazards_in c) (if one then copied_told from index post [] (stands post from) else []) ≡ true
load_low c from index post true = copied_low c from index post [] (stands post from) refl
load_low c from index post false = refl

published_low : (c : Config) (post : Post) (index number : ℕ) (rows : Bool) → (rows ≡ true → number ≤ c.slots + 1) → all_of (hazards_in c) (publishes_index rows post index number) ≡ true
published_low c post index number true h = and_true (is_row_or_none c (linked_row number)) (link_low c number (h refl))
published_low c post index number false h = refl

keep_low : (c : Config) (at : KeepAt) (post : Post) → ((from index number : ℕ) → at ≡ StoreHeld from index number → publishes_rows (scheme_of post) ≡ true → number ≤ c.slots + 1) → all_of (hazards_in c) (keep_told at post) ≡ true
keep_low c (Loosens let_go) post h = cleared_all (hazards_in c) (let_index let_go) (stands post (let_index let_go)) (λ index slot. refl)
keep_low c (LoadHeld from index) post h = load_low c from index post (has_one_interval (scheme_of post))
keep_low c (StoreHeld from index number) post h =
    copied_low c from index post (publishes_index (publishes_rows (scheme_of post)) post index number) (stands post from) (published_low c post index number (publishes_rows (scheme_of post)) (h from index number refl))
keep_low c (Looks index key at) post h = refl
keep_low c (Misses index) post h = refl
keep_low c HideSpan post h = of_along (hazards_in c) (cleared_from 2 (drop 2 post.standing)) (reserves_span post None) (cleared_from_all (hazards_in c) 2 (drop 2 post.standing) (λ index slot. refl)) refl
keep_low c MarkLeft post h = refl
keep_low c (TakeList place) post h = refl
keep_low c (MarkTaken place count) post h = refl

held_low : (layout : Layout) (clock number : ℕ) (rows : Bool) → rows ≡ true → HeldIn rows layout clock number → number ≤ layout.config.slots + 1
held_low layout clock number true e h = h
held_low layout clock number false e h = absurd (cc)

work_low : (layout : Layout) (clock : ℕ) (work : Work) (post : Post) → post.layout ≡ layout → work_eras layout clock work → all_of (hazards_in layout.config) (work_told work post) ≡ true
work_low layout clock (Getting key at) post l h = refl
work_low layout clock (Changing kept at) post l h = refl
work_low layout clock (Enqueuing kept at) post l h = refl
work_low layout clock (Dequeuing at) post l h = refl
work_low layout clock (Keeping at) post l h = keep_low layout.config at post stored
  where
    stored : (from index number : ℕ) → at ≡ StoreHeld from index number → publishes_rows (scheme_of post) ≡ true → number ≤ layout.config.slots + 1
    stored from index number e r =
        held_low layout clock number (publishes_rows layout.config.scheme) (ap (λ (table : Layout). publishes_rows table.config.scheme) (sym l) ∙ r) (subst (λ (x : KeepAt). work_eras layout clock (Keeping x)) e h)

-- a scan
read_low : (c : Config) (rows : Bool) (number found : ℕ) (config : Config) → (rows ≡ true → found ≤ c.slots + 1) → all_of (hazards_in c) (reads_guard rows (guard_at config number) found ∷ []) ≡ true
read_low c true number found config h = and_true (is_row_or_none c (linked_row found)) (link_low c found (h refl))
read_low c false number found config h = refl

shown_low : (layout : Layout) (clock word : ℕ) (rows : Bool) → rows ≡ true → ShownIn rows layout clock word → word ≤ layout.config.slots + 1
shown_low layout clock word true e h = h
shown_low layout clock word false e h = absurd (cc)

guard_low : (w : World) (config : Config) (number : ℕ) (scheme : SchemeKind) → Eras w → publishes_rows w.layout.config.scheme ≡ true → publishes_rows scheme ≡ true → w.mem (guard_place (guard_by scheme config number)) ≤ w.layout.config.slots + 1
guard_low w config number He e r s = absurd (cc)
guard_low w config number Ibr e r s = absurd (cc)
guard_low w config number Wfe e r s = absurd (cc)
guard_low w config number Hp e r s = shown_low w.layout (w.mem Clock) (w.mem (guard_place (guard_by Hp config number))) (publishes_rows w.layout.config.scheme) r (e.words (guard_place (guard_by Hp config number)))

-- a step
low_passes : (c : Config) → Passes (hazards_in c)
low_passes c = record { quiet = quiet_one; clears = λ index slot. refl }
  where
    quiet_one : (event : Event) → is_quiet event ≡ true → hazards_in c event ≡ true
    quiet_one (events.Hazard guard slot) q = absurd (cc)
    quiet_one (events.Saw guard slot) q = absurd (cc)
    quiet_one event q = refl

phase_low : (w : World) (i : ℕ) (phase : Phase) → (w.seat i).phase ≡ phase → (w.seat i).post.layout ≡ w.layout → Eras w → PhaseIn w.layout (w.seat i).desk phase → PhaseEras w.layout (w.mem Clock) (w.seat i).post phase
    → First (λ post told. all_of (hazards_in w.layout.config) told ≡ true) phase (counted (w.seat i).post) (finds w i)
phase_low w i Idle q l e h f = refl
phase_low w i (Runs why base) q l e h f = base_all (hazards_in w.layout.config) base (counted (w.seat i).post) (finds w i) (λ event. told_low w.layout base (counted (w.seat i).post) (finds w i) event h.1)
phase_low w i (Scans later (ReadGuard number)) q l e h f =
    let config : Config = (w.seat i).post.layout.config in
    let here = ap (λ (table : Layout). publishes_rows table.config.scheme) l in
    let found : finds w i ≡ w.mem (guard_place (guard_at config number)) = finds_at w i (Scans later (ReadGuard number)) q in
    read_low w.layout.config (publishes_rows config.scheme) number (finds w i) config (λ r. subst (λ (x : ℕ). x ≤ w.layout.config.slots + 1) (sym found) (guard_low w config number config.scheme e (sym here ∙ r) r))
phase_low w i (Scans later (GiveBack place slot)) q l e h f = refl
phase_low w i (Works work) q l e h f = work_low w.layout (w.mem Clock) work (counted (w.seat i).post) l f

pub step_hazards : (w : World) (i : ℕ) → Seats w → Eras w → Slots w → all_of (hazards_in w.layout.config) (told_in w i) ≡ true
step_hazards w i a e s =
    step_all (hazards_in w.layout.config) (low_passes w.layout.config) (w.seat i).phase (counted (w.seat i).post) (offered w i).desk (finds w i)
    (phase_low w i (w.seat i).phase refl (a.fits i).post.layout e (s.seats i).phase (e.seats i).phase)
