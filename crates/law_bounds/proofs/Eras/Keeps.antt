-- After each history a guard that stands still keeps no row that was born after its eras.
use Rattle.std.proofs.Common.{ℕ, ◌≡◌, ◌≤◌, ◌<◌, Bool, true, false, List, Some, refl, sym, ap, ◌∙◌, subst, arith}
use Rattle.std.proofs.lemmas.Bool.Decides.{nat_tests}
use Rattle.std.specs.Prelude.{nat_le}
use Rattle.law_all.proofs.Runs.Kept.{histories_keep}
use Rattle.law_all.proofs.Whole.{histories_are_lawful}
use Rattle.law_all.proofs.inv.model.Facts.{first_of, le_of_test}
use Rattle.law_all.proofs.laws.records.Entries.{each_of_entries}
use Rattle.law_all.specs.Whole.{IsLawful}
use Rattle.law_all.specs.inv.history.History.{Item, record_of, world_of}
use Rattle.law_all.specs.inv.history.Record.{Each, Past, tells}
use Rattle.law_all.specs.inv.model.World.{World}
use Rattle.law_all.specs.inv.model.defs.Entry.{Entry}
use Rattle.law_all.specs.inv.model.defs.Shown.{keeps, shown}
use Rattle.law_all.specs.inv.model.defs.declared.event.Guard.{Guard}
use Rattle.law_all.specs.inv.model.defs.declared.lifetime.Interval.{Interval}
use Rattle.law_all.specs.inv.model.defs.declared.lifetime.Lifetime.{Lifetime}
use Rattle.law_all.specs.inv.model.defs.declared.shown.Shown.TheVariants.{Eras}
use Rattle.law_all.specs.inv.model.words.Place.{is_valid}
use Rattle.law_all.specs.inv.model.words.Schemes.{publishes_rows}
use Rattle.law_all.specs.inv.model.words.declared.config.Config.{Config}
use Rattle.law_all.specs.inv.model.words.declared.layout.Layout.{Layout}
use Rattle.law_all.specs.inv.rows.Agree.{Agree}
use Rattle.law_all.specs.inv.rows.Hands.{in_list}
use Rattle.law_all.specs.inv.rows.Rows.{View, has_life, is_taken}
use Rattle.law_all.specs.inv.rows.Rows.Status.{Listed}
use Rattle.law_all.specs.laws.EraLaw.{birth_ok}
use Rattle.law_all.specs.laws.HistoryEras.{era_ok}
use Rattle.law_all.specs.laws.Lists.{list_of}
use Rattle.law_all.specs.laws.Standing.{open_ok}
use Rattle.law_all.specs.laws.StateAt.{birth_of, clock_of, published_at, taken_at, value_of}
use Rattle.law_reuse.proofs.Holding.Holds.{history_held}
use Rattle.law_reuse.proofs.Once.Keeps.{history_keeps}
use Rattle.law_bounds.specs.Eras.{RecordsBoundStill, WasThere, stands_still}
use Rattle.law_bounds.proofs.Eras.Still.{Spanned, sought_at, spanned_at, value_still}
use Rattle.law_bounds.proofs.Eras.There.{There, there_at}

-- what is known of a life on a list
pub record Living (slots : ℕ) (life : Lifetime) (p : Past) : Type 0 where
  pub taken : taken_at slots life.slot p ≡ true
  pub born : birth_of life.slot p ≡ life.birth

pub living : (layout : Layout) (items : List Item) → is_valid layout ≡ true → (k : ℕ) (life : Lifetime) → in_list (list_of k (record_of layout items)) life.slot life.birth life.retire ≡ true
    → Living layout.config.slots life (record_of layout items)
living layout items d k life on =
    let p : Past = record_of layout items in
    let w : World = world_of layout items in
    let g = history_held layout items d in
    let lists = (history_keeps layout items d).shows.lists k in
    let v : View = g.rows in
    let a : Agree w v = g.known.whole.both.rows in
    let there : v.lists k life.slot life.birth life.retire ≡ true = (a.plays k).lists life.slot life.birth life.retire ∙ ap (λ (xs : List Lifetime). in_list xs life.slot life.birth life.retire) (sym lists) ∙ on in
    let status : v.status life.slot ≡ Listed k life.retire = a.good.listed k life.slot life.birth life.retire there in
    let born : v.birth life.slot ≡ g.births life.slot = g.tied.given.born life.slot (ap has_life status) in
    record {
      taken = subst (λ (table : Layout). taken_at table.config.slots life.slot p ≡ true) g.table (g.tied.taken life.slot ∙ ap is_taken status);
      born = g.tied.told life.slot ∙ sym born ∙ sym (a.good.dated k life.slot life.birth life.retire there);
    }

-- what such a guard publishes
published_is : (config : Config) (p before : Past) (later : List Entry) (guard : Guard) (span : Interval) → publishes_rows config.scheme ≡ false → p ≡ tells before later → stands_still guard later ≡ true → value_of guard before ≡ Some span → value_of guard p ≡ Some span
published_is config p before later guard span s cut still e = ap (value_of guard) cut ∙ value_still guard later before still ∙ e

shown_is : (config : Config) (p : Past) (guard : Guard) (span : Interval) → publishes_rows config.scheme ≡ false → value_of guard p ≡ Some span → published_at config.scheme guard p ≡ Eras span
shown_is config p guard span s e = rw s (ap shown e)

too_young : (life : Lifetime) (span : Interval) → span.hi < life.birth → keeps life (Eras span) ≡ false
too_young life span h =
    let late : nat_le life.birth span.hi ≡ false = grind (arith, nat_tests, h) in
    rw late refl

born_in : (life : Lifetime) (span : Interval) → keeps life (Eras span) ≡ true → life.birth ≤ span.hi
born_in life span h = le_of_test life.birth span.hi (first_of (nat_le life.birth span.hi) _ h)

-- the later of two eras
record Later (a b c : ℕ) : Type 0 where
  era : ℕ
  one : a ≤ era
  two : b ≤ era
  most : era ≤ c

later_both : (a b c d : ℕ) → a ≤ c → b ≤ c → a ≤ d → b ≤ d → (x : Later a b c) × (x.era ≤ d)
later_both a b c d h k m n = by (nat_le a b) refl
  where
    by : (low : Bool) → nat_le a b ≡ low → (x : Later a b c) × (x.era ≤ d)
    by true e = (record { era = b; one = le_of_test a b e; two = omega arith; most = k }, n)
    by false e = (record { era = a; one = omega arith; two = grind (arith, nat_tests, e); most = h }, m)

-- what the record of a history keeps
pub record Told (config : Config) (p : Past) : Type 0 where
  pub calls : Each open_ok p
  pub births : Each birth_ok p
  pub eras : Each (era_ok config) p

pub span_there : (config : Config) (p : Past) (span : Interval) (life : Lifetime) → Told config p → Living config.slots life p → Spanned (clock_of p) span → life.birth ≤ span.hi → WasThere config.slots span life.slot p
span_there config p span life t l s b =
    let order = s.order in
    let most = s.most in
    let born = l.born in
    let x = later_both span.lo life.birth (clock_of p) span.hi (omega (arith, order, most)) (omega (arith, b, most)) order b in
    let low = x.0.two in
    let y : There config.slots life.slot x.0.era p = there_at config.slots life.slot x.0.era p t.births t.calls l.taken (omega (arith, born, low)) x.0.most in
    let clock = y.clock in
    let from = x.0.one in
    let upto = x.1 in
    record { at = y.at; later = y.later; cut = y.cut; low = omega (arith, clock, from); high = omega (arith, clock, upto); there = y.there }

was_there : (config : Config) (p : Past) (guard : Guard) (span : Interval) (life : Lifetime) → Told config p → Living config.slots life p → value_of guard p ≡ Some span → life.birth ≤ span.hi → WasThere config.slots span life.slot p
was_there config p guard span life t l e b = span_there config p span life t l (spanned_at config guard p span t.eras e) b

pub told : (layout : Layout) (items : List Item) → is_valid layout ≡ true → Told layout.config (record_of layout items)
told layout items d =
    let w : IsLawful layout items = histories_are_lawful layout items d in
    record {
      calls = each_of_entries open_ok (record_of layout items) w.laws.calls;
      births = each_of_entries birth_ok (record_of layout items) w.laws.eras.births;
      eras = (histories_keep layout items d).eras;
    }

pub records_bound_still : RecordsBoundStill
records_bound_still layout items d s =
    let c : Config = layout.config in
    let p : Past = record_of layout items in
    let t : Told c p = told layout items d in
    record {
      young = λ before later guard span k life g h.
          let l = living layout items d k life g.on in
          let born = l.born in
          let sought = sought_at life.slot p t.births in
          let value = published_is c p before later guard span s g.cut g.still g.eras in
          ap (keeps life) (shown_is c p guard span s value) ∙ too_young life span (omega (arith, born, sought, h));
      old = λ before later guard span k life g h.
          let value = published_is c p before later guard span s g.cut g.still g.eras in
          was_there c p guard span life t (living layout items d k life g.on) value (born_in life span (sym (ap (keeps life) (shown_is c p guard span s value)) ∙ h));
    }
