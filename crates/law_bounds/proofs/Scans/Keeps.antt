-- The record of each history keeps the bounds of scans.
use Rattle.std.proofs.Common.{ℕ, ◌≡◌, ◌<◌, true, false, List, subst}
use Rattle.law_all.proofs.inv.shapes.Shapes.{guards_some}
use Rattle.law_all.proofs.laws.records.Entries.{each_before, each_of_entries, entries_of_each}
use Rattle.law_all.specs.Whole.{IsLawful}
use Rattle.law_all.proofs.Whole.{histories_are_lawful}
use Rattle.law_all.specs.inv.history.History.{Item, record_of}
use Rattle.law_all.specs.inv.history.Record.{Each, Past, tells}
use Rattle.law_all.specs.inv.model.defs.Entry.{Entry}
use Rattle.law_all.specs.inv.model.words.Place.{is_valid}
use Rattle.law_all.specs.inv.model.words.declared.config.Config.{Config}
use Rattle.law_all.specs.inv.model.words.declared.layout.Layout.{Layout}
use Rattle.law_all.specs.laws.EraLaw.{kind_ok}
use Rattle.law_all.specs.laws.HistoryScans.{plain_scans_ok}
use Rattle.law_all.specs.laws.Lists.{list_of}
use Rattle.law_all.specs.laws.Once.{lists_ok}
use Rattle.law_all.specs.laws.ScanLaw.{guards, read_ok, scan_ok}
use Rattle.law_all.specs.laws.Standing.{open_ok}
use Rattle.law_all.specs.laws.StateAt.{is_open, read_of}
use Rattle.law_bounds.specs.Scans.{GoodLeaves, RecordsBoundScans, ScanLeaves, apart_ok, came_of, emptied_ok, judged_of, late_of}
use Rattle.law_bounds.proofs.Scans.Apart.{records_apart}
use Rattle.law_bounds.proofs.Scans.Emptied.{emptied_each}
use Rattle.law_bounds.proofs.Scans.Judged.{Settled, closed_settled, judged_at}

-- what the bounds rest on, by recursion
pub record Told (config : Config) (p : Past) : Type 0 where
  pub calls : Each open_ok p
  pub blocks : Each (scan_ok config) p
  pub lists : Each lists_ok p
  pub reads : Each read_ok p
  pub kinds : Each (kind_ok config.scheme) p
  pub due : Each (plain_scans_ok config) p
  pub apart : Each apart_ok p

pub told_of_history : (layout : Layout) (items : List Item) → is_valid layout ≡ true → Told layout.config (record_of layout items)
told_of_history layout items d =
    let r : Past = record_of layout items in
    let w : IsLawful layout items = histories_are_lawful layout items d in
    record {
      calls = each_of_entries open_ok r w.laws.calls;
      blocks = each_of_entries (scan_ok layout.config) r w.laws.scans.blocks;
      lists = each_of_entries lists_ok r w.laws.once.lists;
      reads = each_of_entries read_ok r w.laws.scans.reads;
      kinds = each_of_entries (kind_ok layout.config.scheme) r w.laws.eras.kinds;
      due = each_of_entries (plain_scans_ok layout.config) r w.beyond.scans.due;
      apart = records_apart layout items d;
    }

-- in a record that ends earlier
pub told_before : (config : Config) (p : Past) (later : List Entry) → Told config (tells p later) → Told config p
told_before config p later t = record {
  calls = each_before open_ok p later t.calls;
  blocks = each_before (scan_ok config) p later t.blocks;
  lists = each_before lists_ok p later t.lists;
  reads = each_before read_ok p later t.reads;
  kinds = each_before (kind_ok config.scheme) p later t.kinds;
  due = each_before (plain_scans_ok config) p later t.due;
  apart = each_before apart_ok p later t.apart;
}

pub told_cut : (config : Config) (r p : Past) (later : List Entry) → r ≡ tells p later → Told config r → Told config p
told_cut config r p later cut t = told_before config p later (subst (Told config) cut t)

-- what scans leave rests on these alone
record Scanned (config : Config) (p : Past) : Type 0 where
  calls : Each open_ok p
  blocks : Each (scan_ok config) p
  lists : Each lists_ok p

scanned_cut : (config : Config) (r p : Past) (later : List Entry) → r ≡ tells p later → Scanned config r → Scanned config p
scanned_cut config r p later cut t =
    let x : Scanned config (tells p later) = subst (Scanned config) cut t in
    record { calls = each_before open_ok p later x.calls; blocks = each_before (scan_ok config) p later x.blocks; lists = each_before lists_ok p later x.lists }

settled : (config : Config) (r p : Past) (later : List Entry) (i : ℕ) → r ≡ tells p later → is_open i p ≡ false → Scanned config r → Settled (list_of i p) (judged_of i p) (read_of (guards config) i p) (late_of i p) (came_of i p)
settled config r p later i cut closed t =
    let x = scanned_cut config r p later cut t in
    closed_settled config i p x.calls (judged_at config i p x.blocks x.lists) closed

leaves : (config : Config) (r : Past) → 0 < guards config → Scanned config r → Each read_ok r → Each (kind_ok config.scheme) r → ScanLeaves config r
leaves config r low t reads kinds = record {
  kept = λ before later i cut closed. (settled config r before later i cut closed t).kept;
  since = λ before later i cut closed. (settled config r before later i cut closed t).size;
  emptied = entries_of_each (emptied_ok config) r (emptied_each config low r t.blocks reads kinds);
}

pub good_leaves : GoodLeaves
good_leaves version config r low g =
    leaves config r low
    (record { calls = each_of_entries open_ok r g.calls; blocks = each_of_entries (scan_ok config) r g.scans.blocks; lists = each_of_entries lists_ok r g.once.lists })
    (each_of_entries read_ok r g.scans.reads) (each_of_entries (kind_ok config.scheme) r g.eras.kinds)

pub records_bound_scans : RecordsBoundScans
records_bound_scans layout items d =
    let c : Config = layout.config in
    let r : Past = record_of layout items in
    let t : Told c r = told_of_history layout items d in
    record {
      apart = entries_of_each apart_ok r t.apart;
      leaves = leaves c r (guards_some layout d) (record { calls = t.calls; blocks = t.blocks; lists = t.lists }) t.reads t.kinds;
    }
