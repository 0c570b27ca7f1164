-- What waits for a seat between two of its calls.
use Rattle.std.proofs.Common.{ℕ, ◌≡◌, ◌≤◌, ◌<◌, Bool, true, false, List, [], ◌∷◌, length, Some, None, refl, sym, ap, ◌∙◌, subst, arith}
use Rattle.std.proofs.lemmas.Bool.Decides.{nat_tests}
use Rattle.std.proofs.lemmas.Nat.{mod_below}
use Rattle.std.specs.Prelude.{◌%◌, nat_lt, if◌then◌else◌}
use Rattle.law_all.proofs.Logs.Ledgers.{records_keep_logs}
use Rattle.law_all.proofs.Whole.{histories_are_lawful}
use Rattle.law_all.proofs.inv.model.Facts.{false_by, first_of, no_truth, rest_of}
use Rattle.law_all.proofs.inv.model.Ranges.{bounds_of}
use Rattle.law_all.proofs.inv.shapes.Shapes.{guards_some}
use Rattle.law_all.proofs.laws.records.Entries.{each_of_entries}
use Rattle.law_all.specs.Logs.Ledgers.{log_of}
use Rattle.law_all.specs.Logs.Records.{IsLogged}
use Rattle.law_all.specs.Whole.{IsLawful}
use Rattle.law_all.specs.inv.history.History.{Item, record_of, world_of}
use Rattle.law_all.specs.inv.history.Record.{Past}
use Rattle.law_all.specs.inv.model.CallReady.{slots_of}
use Rattle.law_all.specs.inv.model.Locals.{Group}
use Rattle.law_all.specs.inv.model.World.{World, is_busy}
use Rattle.law_all.specs.inv.model.defs.Shown.{Seen, keeps, keeps_any}
use Rattle.law_all.specs.inv.model.defs.declared.lifetime.Lifetime.{Lifetime}
use Rattle.law_all.specs.inv.model.defs.declared.shown.Shown.{Shown}
use Rattle.law_all.specs.inv.model.defs.declared.shown.Shown.TheVariants.{Eras, Nothing, Row}
use Rattle.law_all.specs.inv.model.words.Place.Place.{PlaceOf}
use Rattle.law_all.specs.inv.model.words.Place.{is_valid}
use Rattle.law_all.specs.inv.model.words.declared.config.Config.{Config}
use Rattle.law_all.specs.inv.model.words.declared.layout.Layout.{Layout}
use Rattle.law_all.specs.inv.rows.Hands.{each_once}
use Rattle.law_all.specs.laws.HoldLaw.{is_blank}
use Rattle.law_all.specs.laws.HistoryScans.{plain_tally}
use Rattle.law_all.specs.laws.Lists.{has_left, list_of}
use Rattle.law_all.specs.laws.ScanLaw.{guards, next_back}
use Rattle.law_all.specs.laws.Standing.{is_leave}
use Rattle.law_all.specs.laws.StateAt.{is_open, read_of, total_retires}
use Rattle.law_reuse.proofs.Once.Keeps.{history_keeps}
use Rattle.law_bounds.specs.Rows.{are_apart}
use Rattle.law_bounds.specs.Scans.{came_of, judged_of, late_of}
use Rattle.law_bounds.specs.Waits.{SeatsWaitFew, came_in, has_scanned, last_call, shows_none}
use Rattle.law_bounds.proofs.Eras.Scanned.{records_keep_few}
use Rattle.law_bounds.proofs.Hazards.Keeps.{records_bound_hazards}
use Rattle.law_bounds.proofs.Hazards.Paces.{paced_at}
use Rattle.law_bounds.proofs.Rows.Parts.{once_apart}
use Rattle.law_bounds.proofs.Scans.Judged.{closed_settled, judged_at}
use Rattle.law_bounds.proofs.Scans.Keeps as scans
use Rattle.law_bounds.proofs.Waits.Came.{Told, came_most, last_began, left_began, none_came, none_late}

pub told : (layout : Layout) (items : List Item) → is_valid layout ≡ true → Told layout.config (record_of layout items)
told layout items d =
    let r : Past = record_of layout items in
    let w : IsLawful layout items = histories_are_lawful layout items d in
    let t = scans.told_of_history layout items d in
    record {
      calls = t.calls;
      answers_told = each_of_entries _ r w.beyond.answers.told;
      counts = each_of_entries _ r w.beyond.scans.counts;
      retires = each_of_entries _ r w.beyond.answers.retires;
      lists = t.lists;
      some = guards_some layout d;
    }

-- A seat whose last call is none by which it leaves has not left, so the list that it has is that of the record.
stayed : (layout : Layout) (items : List Item) (k : ℕ) → is_valid layout ≡ true → is_busy (world_of layout items) k ≡ false → is_leave (last_call ((world_of layout items).seat k).log) ≡ false → has_left k (record_of layout items) ≡ false
stayed layout items k d idle stays =
    let p : Past = record_of layout items in
    let g : IsLogged (world_of layout items) p k = records_keep_logs layout items k d in
    let t = told layout items d in
    let last : last_call (log_of k p) ≡ _ = last_began layout.config.buckets k p t.calls t.answers_told (g.busy ∙ idle) in
    let none : is_leave _ ≡ false = ap is_leave (sym last) ∙ ap (λ (log : List Group). is_leave (last_call log)) g.log ∙ stays in
    false_by (has_left k p) (λ h. no_truth (sym none ∙ left_began k p t.calls t.lists h))

own_place : (word : ℕ) (own : List Lifetime) → nat_lt 0 word ≡ false → (if nat_lt 1 word then [] else own) ≡ own
own_place word own h = let none : nat_lt 1 word ≡ false = grind (arith, nat_tests, h) in rw none refl

pub list_kept : (layout : Layout) (items : List Item) (k : ℕ) → is_valid layout ≡ true → is_busy (world_of layout items) k ≡ false → is_leave (last_call ((world_of layout items).seat k).log) ≡ false
    → list_of k (record_of layout items) ≡ ((world_of layout items).seat k).desk.list
list_kept layout items k d idle stays =
    let w : World = world_of layout items in
    let s = (history_keeps layout items d).shows in
    let there : nat_lt 0 (w.mem (PlaceOf k)) ≡ false = sym (s.places.left k) ∙ stayed layout items k d idle stays in
    s.lists k ∙ own_place (w.mem (PlaceOf k)) (w.seat k).desk.list there

-- where nothing is published nothing is kept
blank_keeps : (life : Lifetime) (x : Shown) → is_blank x ≡ true → keeps life x ≡ false
blank_keeps life Nothing h = refl
blank_keeps life (Eras span) h = absurd (no_truth h)
blank_keeps life (Row slot) h = absurd (no_truth h)

none_keeps : (life : Lifetime) (read : List Seen) → shows_none read ≡ true → keeps_any life read ≡ false
none_keeps life [] h = refl
none_keeps life (seen ∷ read) h =
    let here : keeps life seen.1 ≡ false = blank_keeps life seen.1 (first_of (is_blank seen.1) (shows_none read) h) in
    rw here (none_keeps life read (rest_of (is_blank seen.1) (shows_none read) h))

none_kept : (read : List Seen) (lives : List Lifetime) → shows_none read ≡ true → next_back read lives ≡ None → lives ≡ []
none_kept read [] h n = refl
none_kept read (life ∷ lives) h n = by (keeps_any life read) (none_keeps life read h) n
  where
    by : (kept : Bool) → kept ≡ false → (if kept then next_back read lives else Some life) ≡ None → life ∷ lives ≡ []
    by true e n = absurd (no_truth (sym e))
    by false e n = absurd (cc)

-- fewer than `every` were retired since the last scan
pub seat_late : (layout : Layout) (items : List Item) (k : ℕ) → is_valid layout ≡ true → is_open k (record_of layout items) ≡ false → late_of k (record_of layout items) < layout.config.every
seat_late layout items k d closed =
    let c : Config = layout.config in
    let p : Past = record_of layout items in
    let t = scans.told_of_history layout items d in
    let every : 0 < c.every = let b = bounds_of layout d in let low = b.every.0 in omega (arith, low) in
    let paced = (paced_at c k p every t.due t.calls).closed closed in
    let below = mod_below (plain_tally c.every k p).retired c.every every in
    omega (arith, paced, below)

no_lives : (lives : List Lifetime) → length lives ≡ 0 → lives ≡ []
no_lives [] e = refl
no_lives (life ∷ lives) e = absurd (omega (arith, e))

pub seats_wait_few : SeatsWaitFew
seats_wait_few layout items k d idle stays =
    let c : Config = layout.config in
    let p : Past = record_of layout items in
    let w : World = world_of layout items in
    let g : IsLogged w p k = records_keep_logs layout items k d in
    let closed : is_open k p ≡ false = g.busy ∙ idle in
    let t = scans.told_of_history layout items d in
    let every : 0 < c.every = let b = bounds_of layout d in let low = b.every.0 in omega (arith, low) in
    let list : list_of k p ≡ (w.seat k).desk.list = list_kept layout items k d idle stays in
    let s = closed_settled c k p t.calls (judged_at c k p t.blocks t.lists) closed in
    let late : late_of k p < c.every = seat_late layout items k d closed in
    let rows = history_keeps layout items d in
    let once : each_once (list_of k p) ≡ true = ap each_once (rows.shows.lists k) ∙ (rows.known.whole.both.rows.plays k).once in
    let long : length (list_of k p) ≡ length (w.seat k).desk.list = ap length list in
    let none_there : has_scanned (w.seat k).log ≡ true → shows_none (read_of (guards c) k p) ≡ true → length (w.seat k).desk.list ≡ 0 =
    λ h n.
    let scanned : has_scanned (log_of k p) ≡ true = ap has_scanned g.log ∙ h in
    let t2 = told layout items d in
    let late : late_of k p ≡ 0 = none_late c k p t2 closed scanned in
    let came : came_of k p ≤ came_in (log_of k p) = came_most c k p t2 closed in
    let none : came_in (log_of k p) ≡ 0 = none_came false 0 (log_of k p) (λ e. absurd (no_truth e)) scanned in
    let judged : length (judged_of k p) ≡ 0 = ap length (none_kept (read_of (guards c) k p) (judged_of k p) n s.kept) in
    let size = s.size in
    omega (arith, late, came, none, judged, size, long) in
    record {
      list = list;
      apart = ap (λ (xs : List Lifetime). are_apart (slots_of xs)) (sym list) ∙ once_apart (list_of k p) once;
      kept = s.kept;
      blank = λ h. none_kept (read_of (guards c) k p) (judged_of k p) h s.kept;
      emptied = λ h n. no_lives (w.seat k).desk.list (none_there h n);
      size = let size = s.size in omega (arith, size, long);
      late = late;
      came = subst (λ (log : List Group). came_of k p ≤ came_in log) g.log (came_most c k p (told layout items d) closed);
      hazards = λ h.
          let most = (records_bound_hazards layout items d h).one p [] k refl closed in
          let below : total_retires k p % c.every < c.every = mod_below (total_retires k p) c.every every in
          omega (arith, most, below, long);
      eras = λ queue h low waited.
          let judged = (records_keep_few layout items d h).scan k queue closed low waited in
          let size = s.size in
          omega (arith, judged, size, long, late);
    }
