-- What copies and looks answer is right by what their seat keeps.
use Rattle.std.proofs.Common.{ℕ, ◌≡◌, ◌≤◌, ◌<◌, true, false, List, ◌∷◌, ◌++◌, length, Option, Some, None, refl, sym, ap, ◌∙◌, subst, arith, append_assoc}
use Rattle.std.specs.Prelude.{◌==◌}
use Rattle.law_all.specs.inv.model.Locals.{Group, may_begin}
use Rattle.law_all.specs.inv.model.defs.Entry.{Entry}
use Rattle.law_all.specs.inv.model.defs.declared.call.Answer.TheVariants as answers
use Rattle.law_all.specs.inv.model.defs.declared.call.Answer.{Answer}
use Rattle.law_all.specs.inv.model.defs.declared.call.Call.TheVariants as calls
use Rattle.law_all.specs.inv.model.defs.declared.call.Call.{Call}
use Rattle.law_all.specs.inv.model.defs.declared.event.Event.TheVariants as events
use Rattle.law_all.specs.inv.model.words.declared.config.Config.{Config}
use Rattle.law_all.specs.inv.model.words.declared.layout.Layout.{Layout}
use Rattle.law_all.specs.laws.HistoryHolds.{copies_ok, indexes_ok}
use Rattle.law_all.specs.laws.HistoryTable.{ranges_ok}
use Rattle.law_all.specs.laws.StructuresAt.RowShows.{ShowsVersion}
use Rattle.law_all.specs.laws.StateAt.{began_of, is_open, stood_at}
use Rattle.law_all.specs.laws.StructuresAt.{changes_of, count_of, shows_of, value_at}
use Rattle.law_all.proofs.Whole.{histories_are_lawful}
use Rattle.law_all.proofs.inv.history.Entries.{each_of_entries}
use Rattle.law_all.specs.inv.history.History.{Item, record_of}
use Rattle.law_all.specs.inv.history.Record.Past.{Then}
use Rattle.law_all.specs.inv.history.Record.{Past, tells}
use Rattle.law_all.specs.Logs.Answered.{IsShown, SaysOfRows}
use Rattle.law_all.specs.Kept.{Keeping, kept_in, looked_in}
use Rattle.law_all.specs.Logs.Ledgers.{log_of}
use Rattle.law_all.specs.Logs.Records.{IsAnswered, IsEnded}
use Rattle.law_all.specs.RunLaw.{IsCall, IsLook, KeptRight, bucket_kept, look_made}
use Rattle.law_all.specs.Runs.{AtRest, RunsKeep, logs_of}
use Rattle.law_all.specs.Logs.Shown.{KeepsShown}
use Rattle.law_all.specs.Logs.Versions.{seen_in}
use Rattle.law_all.proofs.Logs.Answered.{value_on}
use Rattle.law_all.proofs.Logs.Grows.{Grows, more_count}
use Rattle.law_all.proofs.Records.{lawful, logs_answer}
use Rattle.law_all.proofs.Runs.Calls.{Called, called, log_at, log_of_seat}
use Rattle.law_all.proofs.Runs.Closes.{closes}
use Rattle.law_all.proofs.Runs.Keeps.{Holds, Laws, apart_of, copy_low, holds, laws_before, laws_tells, look_low, touches}
use Rattle.law_all.proofs.Runs.Shelves.{Keeps, KeepsAt, held_tells, held_version}
use Rattle.law_all.proofs.Shown.{records_keep_shown}
use Rattle.law_all.proofs.Logs.Shows.{IsVersion, shown_version}

record_laws : (layout : Layout) (items : List Item) → AtRest layout items → Laws layout.config (record_of layout items)
record_laws layout items rest =
    let r : Past = record_of layout items in
    let h = (histories_are_lawful layout items rest.valid).beyond in
    let s : KeepsShown layout items = records_keep_shown layout items rest.valid in
    record {
      lawful = lawful layout items rest.valid;
      indexes = each_of_entries indexes_ok r h.stands.indexes;
      copies = each_of_entries copies_ok r h.stands.copies;
      links = s.links;
      shows = s.shows;
      misses = s.misses;
      starts = s.starts;
      ranges = each_of_entries (ranges_ok layout.config) r h.ranges;
    }

-- where a call of the record ends
record Ended (c : Config) (k : ℕ) (r : Past) (before : List Group) (group : Group) : Type 0 where
  at : Past
  laws : Laws c at
  holds : Holds c k at
  log : log_of k at ≡ before
  began : began_of k at ≡ Some group.call
  opened : is_open k at ≡ true
  rows : SaysOfRows c k at group.call group.answer
  grows : Grows at r
  later : List Entry
  cut : r ≡ tells at later

ended : (layout : Layout) (items : List Item) (k : ℕ) (before : List Group) (group : Group) → AtRest layout items
    → IsAnswered layout.config k (record_of layout items) before group → Ended layout.config k (record_of layout items) before group
ended layout items k before group rest a =
    let c : Config = layout.config in
    let r : Past = record_of layout items in
    let e : IsEnded k r before group = a.end in
    let entry : Entry = record { seat = k; event = events.End group.notes.steps group.answer } in
    let l : Laws c e.at = laws_tells c e.at (entry ∷ e.later) (subst (Laws c) e.cut (record_laws layout items rest)) in
    let z = closes layout items k before group rest.valid e in
    record {
      at = e.at;
      laws = l;
      holds = holds c k e.at l;
      log = e.log;
      began = e.call;
      opened = z.opened;
      rows = a.rows;
      grows = z.grows;
      later = entry ∷ e.later;
      cut = e.cut;
    }

-- what stands is what is kept
record Found (c : Config) (k j slot : ℕ) (p : Past) (before : List Group) : Type 0 where
  kept : Keeping
  at : kept_in j before ≡ Some kept
  slot_is : kept.slot ≡ slot
  keeps : Keeps c k j p kept

found_by : (c : Config) (k j slot : ℕ) (p : Past) (before : List Group) (kept : Option Keeping) → kept_in j before ≡ kept → KeepsAt c k j p kept
    → stood_at k j p ≡ Some slot → Found c k j slot p before
found_by c k j slot p before None e g s = absurd (cc)
found_by c k j slot p before (Some kept) e g s = let same : kept.slot ≡ slot = let t = g.stands in cc in record { kept = kept; at = e; slot_is = same; keeps = g }

none_by : (c : Config) (k j : ℕ) (p : Past) (kept : Option Keeping) → KeepsAt c k j p kept → stood_at k j p ≡ None → kept ≡ None
none_by c k j p None g s = refl
none_by c k j p (Some kept) g s = let t = g.stands in absurd (cc)

kept_at : (c : Config) (k j : ℕ) (r : Past) (before : List Group) (group : Group) (e : Ended c k r before group) → 2 ≤ j
    → touches (Some group.call) j ≡ false → KeepsAt c k j e.at (kept_in j before)
kept_at c k j r before group e low t =
    subst (λ (x : List Group). KeepsAt c k j e.at (kept_in j x)) e.log (e.holds.keeps j low (rw (e.opened, e.began) t))

-- what a look has found shows what it told
record Looks (c : Config) (k index slot version : ℕ) (r p : Past) (before : List Group) : Type 0 where
  found : Found c k index slot p before
  some : 1 ≤ version
  had : version ≤ count_of (bucket_kept c found.kept) p
  version_is : version ≡ held_version k (length found.kept.before) p
  shows : shows_of slot p ≡ ShowsVersion (bucket_kept c found.kept) version

looks : (c : Config) (k index key slot version : ℕ) (value : Option ℕ) (r p : Past) (before : List Group) → Laws c p → KeepsAt c k index p (kept_in index before)
    → IsShown k index key p slot version value → Looks c k index slot version r p before
looks c k index key slot version value r p before l g s =
    let f : Found c k index slot p before = found_by c k index slot p before (kept_in index before) refl g s.stands in
    let b : ℕ = bucket_kept c f.kept in
    let held : ℕ = held_version k (length f.kept.before) p in
    let shows : shows_of slot p ≡ ShowsVersion b held = subst (λ (x : ℕ). shows_of x p ≡ ShowsVersion b held) f.slot_is f.keeps.shows in
    let both : ShowsVersion b held ≡ ShowsVersion s.bucket version = sym shows ∙ s.shows in
    let same : version ≡ held = cc in
    let mine : shows_of slot p ≡ ShowsVersion b version = shows ∙ ap (ShowsVersion b) (sym same) in
    let v : IsVersion b version slot p = shown_version c.buckets c.slots slot b version p l.lawful.order l.lawful.map mine in
    record { found = f; some = v.some; had = v.had; version_is = same; shows = mine }

look_right : (c : Config) (k index key slot version : ℕ) (value : Option ℕ) (r p : Past) (before : List Group) → Grows p r
    → Looks c k index slot version r p before → IsShown k index key p slot version value
    → IsLook c (λ (b : ℕ). changes_of b r) before index key slot version value
look_right c k index key slot version value r p before g x s =
    let b : ℕ = bucket_kept c x.found.kept in
    let both : ShowsVersion b version ≡ ShowsVersion s.bucket version = sym x.shows ∙ s.shows in
    let same : s.bucket ≡ b = cc in
    let more = more_count b p r g in
    let value_is : value ≡ value_at b version key p = s.value_is ∙ ap (λ (y : ℕ). value_at y version key p) same in
    record {
      row = record { kept = x.found.kept; at = x.found.at; slot_is = x.found.slot_is };
      some = x.some;
      had = omega (arith, more, x.had);
      value_is = value_is ∙ sym (value_on b version key p r g x.had);
      since = subst (λ (y : ℕ). seen_in c.buckets b x.found.kept.before ≤ y) (sym x.version_is) x.found.keeps.since;
      since_looks = subst (λ (y : ℕ). looked_in c.buckets b x.found.kept.before ≤ y) (sym x.version_is) x.found.keeps.since_looks;
    }

right_by : (c : Config) (k : ℕ) (r p : Past) (before : List Group) (call : Call) (answer : Answer) → Laws c p → Grows p r → SaysOfRows c k p call answer
    → may_begin c call ≡ true → ((j : ℕ) → 2 ≤ j → touches (Some call) j ≡ false → KeepsAt c k j p (kept_in j before))
    → KeptRight c (λ (b : ℕ). changes_of b r) before call answer
right_by c k r p before (calls.Copy from index) (answers.Copied slot) l g rows may keeps =
    let m = copy_low c from index may in
    let apart : (from == index) ≡ false = apart_of from index m.1 in
    let f = found_by c k from slot p before (kept_in from before) refl (keeps from m.0 apart) rows.stood in
    record { kept = f.kept; at = f.at; slot_is = f.slot_is }
right_by c k r p before (calls.Copy from index) answers.Nothing l g rows may keeps =
    let m = copy_low c from index may in none_by c k from p (kept_in from before) (keeps from m.0 (apart_of from index m.1)) rows
right_by c k r p before (calls.Look index key) (answers.Looked slot version value) l g rows may keeps =
    let x = looks c k index key slot version value r p before l (keeps index (look_low c index key may) refl) rows in
    look_right c k index key slot version value r p before g x rows
right_by c k r p before (calls.Look index key) answers.Nothing l g rows may keeps =
    none_by c k index p (kept_in index before) (keeps index (look_low c index key may) refl) rows
right_by c k r p before call answer l g rows may keeps = tt

right : (layout : Layout) (items : List Item) → AtRest layout items → (before : List Group) (group : Group) → IsCall (logs_of layout items) before group
    → KeptRight layout.config (λ (b : ℕ). changes_of b (record_of layout items)) before group.call group.answer
right layout items rest before group h =
    let c : Config = layout.config in
    let r : Past = record_of layout items in
    let a : Called layout items before group = called layout items before group rest.valid h in
    let e : Ended c a.seat r before group = ended layout items a.seat before group rest a.is in
    right_by c a.seat r e.at before group.call group.answer e.laws e.grows e.rows (e.holds.starts group.call e.began)
    (λ j low t. kept_at c a.seat j r before group e low t)

-- two looks at a row that came from one hold
version_by : (c : Config) (k : ℕ) (r p : Past) (before : List Group) (call : Call) (answer : Answer) (kept : Keeping) (found : ℕ × ℕ) → Laws c p
    → SaysOfRows c k p call answer → may_begin c call ≡ true → ((j : ℕ) → 2 ≤ j → touches (Some call) j ≡ false → KeepsAt c k j p (kept_in j before))
    → look_made call answer ≡ Some found → kept_in found.0 before ≡ Some kept
    → (found.1 ≡ held_version k (length kept.before) p) × (length kept.before < length (log_of k p))
version_by c k r p before (calls.Look index key) (answers.Looked slot version value) kept found l rows may keeps e h =
    let x = looks c k index key slot version value r p before l (keeps index (look_low c index key may) refl) rows in
    let one : (index, version) ≡ found = cc in
    let place : found.0 ≡ index = ap (λ (y : ℕ × ℕ). y.0) (sym one) in
    let number : found.1 ≡ version = ap (λ (y : ℕ × ℕ). y.1) (sym one) in
    let same : ◌≡◌ {A = Option Keeping} (Some x.found.kept) (Some kept) = sym x.found.at ∙ ap (λ (y : ℕ). kept_in y before) (sym place) ∙ h in
    let it : x.found.kept ≡ kept = cc in (
      number ∙ x.version_is ∙ ap (λ (y : Keeping). held_version k (length y.before) p) it,
      subst (λ (y : Keeping). length y.before < length (log_of k p)) it x.found.keeps.old,
    )
version_by c k r p before call answer kept found l rows may keeps e h = absurd (cc)

version_in : (layout : Layout) (items : List Item) (k : ℕ) (before : List Group) (group : Group) (kept : Keeping) (found : ℕ × ℕ) → AtRest layout items
    → IsAnswered layout.config k (record_of layout items) before group → look_made group.call group.answer ≡ Some found → kept_in found.0 before ≡ Some kept
    → found.1 ≡ held_version k (length kept.before) (record_of layout items)
version_in layout items k before group kept found rest a m h =
    let c : Config = layout.config in
    let r : Past = record_of layout items in
    let e : Ended c k r before group = ended layout items k before group rest a in
    let v = version_by c k r e.at before group.call group.answer kept found e.laws e.rows (e.holds.starts group.call e.began)
    (λ j low t. kept_at c k j r before group e low t) m h in
    v.0 ∙ sym (held_tells k (length kept.before) e.later e.at v.1) ∙ ap (held_version k (length kept.before)) (sym e.cut)

-- where a call began, its bucket had each version that looks of its seat had told
pub looked_before : (layout : Layout) (items : List Item) (k b : ℕ) (before : List Group) (group : Group) → AtRest layout items
    → (a : IsAnswered layout.config k (record_of layout items) before group) → looked_in layout.config.buckets b before ≤ count_of b a.begun.from
looked_before layout items k b before group rest a =
    let c : Config = layout.config in
    let from : Past = a.begun.from in
    let entry : Entry = record { seat = k; event = events.End group.notes.steps group.answer } in
    let end : Laws c a.end.at = laws_tells c a.end.at (entry ∷ a.end.later) (subst (Laws c) a.end.cut (record_laws layout items rest)) in
    let l : Laws c from =
    laws_before c from k (events.Begin group.call) (laws_tells c (Then from k (events.Begin group.call)) a.begun.until (subst (Laws c) a.begun.cut end)) in
    let h : Holds c k from = holds c k from l in
    subst (λ (x : List Group). looked_in c.buckets b x ≤ count_of b from) (a.begun.log ∙ a.end.log) (h.looked.had b)

pub runs_keep : RunsKeep
runs_keep layout items rest = record {
  right = right layout items rest;
  same = λ one two kept first second h f s a b.
      let late : List Group = two ∷ h.later in
      let seat = log_of_seat layout items h.log.seat (h.before ++ one ∷ (h.between ++ late)) h.log.at in
      let k : ℕ = seat.0 in
      let next : log_at layout items k ≡ (h.before ++ one ∷ h.between) ++ late = seat.1 ∙ sym (append_assoc h.before (one ∷ h.between) late) in
      version_in layout items k h.before one kept first rest (logs_answer layout items k h.before (h.between ++ late) one rest.valid seat.1) f a
      ∙ sym (version_in layout items k (h.before ++ one ∷ h.between) two kept second rest
      (logs_answer layout items k (h.before ++ one ∷ h.between) h.later two rest.valid next) s b);
}
