-- What a seat's notes say went back did so in its last call.
use Rattle.std.proofs.Common.{ℕ, ◌≡◌, Bool, true, false, List, [], ◌∷◌, ◌++◌, All, refl, sym, ap, ◌∙◌, subst}
use Rattle.std.proofs.lemmas.Bool.{and_parts, leb-true, or_from}
use Rattle.std.proofs.lemmas.List.Elements.{All-nil, All-push, All-same, All-weaker}
use Rattle.std.specs.List.{list_any}
use Rattle.std.specs.Prelude.{◌==◌, ◌&&◌, ◌||◌, ◌≤◌, IfSome, Option, not, nat_le, nat_lt, if◌then◌else◌}
use Rattle.wfe_core.proofs.Facts.{number_is, same_number}
use Rattle.wfe_core.specs.Desks.{Notes}
use Rattle.wfe_core.specs.Locals.{Local}
use Rattle.wfe_core.specs.defs.Entry.{Entry}
use Rattle.wfe_core.specs.defs.declared.event.Event.{Event}
use Rattle.wfe_core.specs.defs.declared.event.Event.TheVariants as events
use Rattle.wfe_core.specs.defs.declared.lifetime.Lifetime.{Lifetime}
use Rattle.wfe_core.specs.words.declared.config.Config.{Config}
use Rattle.wfe_core.specs.words.declared.layout.Layout.{Layout}
use Rattle.laws.specs.HistoryHolds.{reuse_ok}
use Rattle.laws.specs.Lists.{has_slot, list_of}
use Rattle.laws.specs.StateAt.{is_row, stood_at, taken_at}
use Rattle.laws.proofs.records.Entries.{each_of_entries}
use Rattle.law_bounds.proofs.all.Logs.Grows.{snoc_tells}
use Rattle.law_bounds.proofs.all.Logs.Ledgers.{records_keep_logs}
use Rattle.law_bounds.proofs.all.Runs.Kept.{Kept, histories_keep, kept_before}
use Rattle.law_bounds.proofs.all.held.reuse.Reuse.Keeps.{records_keep_reuse}
use Rattle.law_bounds.specs.all.Logs.Ledgers.{Ledger, ledger_by, ledger_of, notes_of}
use Rattle.wfe_drive_rule.specs.Handles.{IsTracked}
use Rattle.wfe_drive_rule.specs.Views.{Track, seat_of}
use Rattle.wfe_drive_rule.specs.history.History.{record_of}
use Rattle.wfe_drive_rule.specs.history.Record.{Each, Past}
use Rattle.wfe_drive_rule.specs.history.Record.Past.{Start, Then}
use Rattle.wfe_table.specs.Backs.{WentBack, begins_call, is_begin}

-- no row is used again while it stands
abbrev Reused : Past → Type 0
Reused p = (k j slot : ℕ) → Each (reuse_ok k j slot) p

any_last : (f : Entry → Bool) (xs : List Entry) (x : Entry) → list_any f xs ≡ false → f x ≡ false → list_any f (xs ++ x ∷ []) ≡ false
any_last f [] x h k = or_from (f x) false k refl
any_last f (y ∷ xs) x h k = by (f y) h (any_last f xs x)
  where
    by : (b : Bool) → (b || list_any f xs) ≡ false → (list_any f xs ≡ false → f x ≡ false → list_any f (xs ++ x ∷ []) ≡ false) → (b || list_any f (xs ++ x ∷ [])) ≡ false
    by true e g = absurd (cc)
    by false e g = g e k

-- one entry later, which begins no call of the seat
went_later : (c : Config) (k i slot : ℕ) (p : Past) (event : Event) → (is_begin event && k == i) ≡ false → WentBack c k p slot → WentBack c k (Then p i event) slot
went_later c k i slot p event quiet w =
    let x : Entry = record { seat = i; event = event } in
    record {
      at = w.at;
      later = w.later ++ x ∷ [];
      cut = ap (λ (q : Past). Then q i event) w.cut ∙ sym (snoc_tells w.later x (Then w.at k (events.Back slot)));
      last = any_last (begins_call k) w.later x w.last quiet;
      within = w.within;
      taken = w.taken;
      listed = w.listed;
      bare = w.bare;
    }

all_later : (c : Config) (k i : ℕ) (p : Past) (event : Event) (slots : List ℕ) → (is_begin event && k == i) ≡ false → All (WentBack c k p) slots → All (WentBack c k (Then p i event)) slots
all_later c k i p event slots quiet a = All-weaker (WentBack c k p) (WentBack c k (Then p i event)) (λ slot w. went_later c k i slot p event quiet w) slots a

-- nothing stands where a row goes back
bare_at : (standing same : Bool) → same ≡ true → not (standing && same) ≡ true → standing ≡ false
bare_at false same e h = refl
bare_at true true e h = absurd (cc)
bare_at true false e h = absurd (cc)

went_now : (c : Config) (k slot : ℕ) (p : Past) → Kept c (Then p k (events.Back slot)) → Reused (Then p k (events.Back slot)) → WentBack c k (Then p k (events.Back slot)) slot
went_now c k slot p l u =
    let t = and_parts (taken_at c.slots slot p) (has_slot slot (list_of k p)) l.once.0 in
    let r = and_parts (nat_lt k c.seats) (nat_le slot c.slots) l.ranges.0 in
    record {
      at = p;
      later = [];
      cut = refl;
      last = refl;
      within = leb-true slot c.slots r.1;
      taken = t.0;
      listed = t.1;
      bare = λ m j. bare_at (is_row slot (stood_at m j p)) (slot == slot) (same_number slot) (u m j slot).0;
    }

-- of an entry of the seat itself
abbrev own_notes : Event → Ledger → List ℕ
own_notes event x = (ledger_by event x).notes.back

own_backs : (c : Config) (k : ℕ) (p : Past) (event : Event) → Kept c (Then p k event) → Reused (Then p k event) → All (WentBack c k p) (notes_of k p).back → All (WentBack c k (Then p k event)) (own_notes event (ledger_of k p))
own_backs c k p (events.Begin call) l u a = All-nil (WentBack c k (Then p k (events.Begin call)))
own_backs c k p (events.Back slot) l u a =
    All-push (WentBack c k (Then p k (events.Back slot))) (notes_of k p).back slot
    (all_later c k k p (events.Back slot) (notes_of k p).back refl a)
    (went_now c k slot p l u)
own_backs c k p event l u a = all_later c k k p event (notes_of k p).back refl a

backs_told : (c : Config) (k : ℕ) (p : Past) → Kept c p → Reused p → All (WentBack c k p) (notes_of k p).back
backs_told c k Start l u = All-nil (WentBack c k Start)
backs_told c k (Then p i event) l u = by (k == i) refl (backs_told c k p (kept_before c p i event l) (λ m j slot. (u m j slot).1))
  where
    quiet : (k == i) ≡ false → (kind : Bool) → (kind && k == i) ≡ false
    quiet e true = e
    quiet e false = refl

    by : (same : Bool) → (k == i) ≡ same → All (WentBack c k p) (notes_of k p).back → All (WentBack c k (Then p i event)) (if same then ledger_by event (ledger_of k p) else ledger_of k p).notes.back
    by true e a =
        let one : k ≡ i = number_is k i e in
        subst (λ (n : ℕ). All (WentBack c k (Then p n event)) (own_notes event (ledger_of k p))) one
        (own_backs c k p event (subst (λ (n : ℕ). Kept c (Then p n event)) (sym one) l) (subst (λ (n : ℕ). Reused (Then p n event)) (sym one) u) a)
    by false e a = all_later c k i p event (notes_of k p).back (quiet e (is_begin event)) a

-- the row that a call has retired is one of the table's
abbrev Within : Config → Option Lifetime → Type 0
Within c retired = IfSome retired (λ life. life.slot ≤ c.slots)

own_retired : (c : Config) (k : ℕ) (p : Past) (event : Event) → Kept c (Then p k event) → Within c (notes_of k p).retired → Within c (ledger_by event (ledger_of k p)).notes.retired
own_retired c k p (events.Begin call) l w = tt
own_retired c k p (events.Retire slot birth retire) l w = leb-true slot c.slots (and_parts (nat_lt k c.seats) (nat_le slot c.slots) l.ranges.0).1
own_retired c k p event l w = w

retired_told : (c : Config) (k : ℕ) (p : Past) → Kept c p → Within c (notes_of k p).retired
retired_told c k Start l = tt
retired_told c k (Then p i event) l = by (k == i) refl (retired_told c k p (kept_before c p i event l))
  where
    by : (same : Bool) → (k == i) ≡ same → Within c (notes_of k p).retired → Within c (if same then ledger_by event (ledger_of k p) else ledger_of k p).notes.retired
    by true e w =
        let one : k ≡ i = number_is k i e in
        own_retired c k p event (subst (λ (n : ℕ). Kept c (Then p n event)) (sym one) l) w
    by false e w = w

-- of a seat that stands where its past leaves it
notes_same : (layout : Layout) (track : Track) → IsTracked layout track → track.local.desk.notes ≡ notes_of (seat_of track) (record_of layout track.past)
notes_same layout track t = sym ((records_keep_logs layout track.past (seat_of track) t.valid).notes ∙ ap (λ (l : Local). l.desk.notes) t.stood)

pub seat_retired : (layout : Layout) (track : Track) → IsTracked layout track → IfSome track.local.desk.notes.retired (λ life. life.slot ≤ layout.config.slots)
seat_retired layout track t =
    subst (λ (n : Notes). Within layout.config n.retired) (sym (notes_same layout track t))
    (retired_told layout.config (seat_of track) (record_of layout track.past) (histories_keep layout track.past t.valid))

pub seat_backs : (layout : Layout) (track : Track) → IsTracked layout track → All (WentBack layout.config (seat_of track) (record_of layout track.past)) track.local.desk.notes.back
seat_backs layout track t =
    let r : Past = record_of layout track.past in
    let k : ℕ = seat_of track in
    let same : track.local.desk.notes ≡ notes_of k r = notes_same layout track t in
    All-same (WentBack layout.config k r) track.local.desk.notes.back (notes_of k r).back (ap (λ (n : Notes). n.back) same)
    (backs_told layout.config k r (histories_keep layout track.past t.valid) (λ m j slot. each_of_entries (reuse_ok m j slot) r (records_keep_reuse layout track.past t.valid m j slot)))

-- by its own layout
tracked_self : (layout : Layout) (track : Track) → IsTracked layout track → IsTracked track.local.post.layout track
tracked_self layout track t = subst (λ (l : Layout). IsTracked l track) (sym t.layout_is) t

abbrev pub AllBack : Track → List ℕ → Type 0
AllBack track backs = All (WentBack track.local.post.layout.config (seat_of track) (record_of track.local.post.layout track.past)) backs

abbrev pub AllWithin : Track → List ℕ → Type 0
AllWithin track backs = All (λ slot. slot ≤ track.local.post.layout.config.slots) backs

abbrev pub RetiredWithin : Track → Option Lifetime → Type 0
RetiredWithin track retired = IfSome retired (λ life. life.slot ≤ track.local.post.layout.config.slots)

-- notes that are those of the seat's state
pub noted_backs : (layout : Layout) (track : Track) (notes : Notes) → IsTracked layout track → notes ≡ track.local.desk.notes → AllBack track notes.back
noted_backs layout track notes t e =
    let own : Layout = track.local.post.layout in
    All-same (WentBack own.config (seat_of track) (record_of own track.past)) notes.back track.local.desk.notes.back (ap (λ (n : Notes). n.back) e) (seat_backs own track (tracked_self layout track t))

pub noted_within : (layout : Layout) (track : Track) (notes : Notes) → IsTracked layout track → notes ≡ track.local.desk.notes → AllWithin track notes.back
noted_within layout track notes t e =
    let own : Layout = track.local.post.layout in
    All-weaker (WentBack own.config (seat_of track) (record_of own track.past)) (λ slot. slot ≤ own.config.slots) (λ slot w. w.within) notes.back (noted_backs layout track notes t e)

pub noted_retired : (layout : Layout) (track : Track) (notes : Notes) → IsTracked layout track → notes ≡ track.local.desk.notes → RetiredWithin track notes.retired
noted_retired layout track notes t e =
    subst (λ (n : Notes). RetiredWithin track n.retired) (sym e) (seat_retired track.local.post.layout track (tracked_self layout track t))
