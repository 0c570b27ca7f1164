-- What holds of each entry of a record holds of each entry of a record that ends earlier.
use Rattle.std.proofs.Common.{◌≡◌, List, [], ◌∷◌, ◌++◌, refl, ap, sym, ◌∙◌}
use Rattle.laws.specs.words.declared.config.Config.{Config}
use Rattle.laws.specs.defs.Entry.{Entry}
use Rattle.laws.specs.records.Record.{Past, Test, EachEntry, tells}
use Rattle.laws.proofs.records.Entries.{each_before, entries_of_each, each_of_entries}
use Rattle.laws.specs.HoldLaw.{HeldThroughout}
use Rattle.laws.specs.Good.{CutsAreGood}

entries_cut : (ok : Test) (p : Past) (later : List Entry) → EachEntry ok (tells p later) → EachEntry ok p
entries_cut ok p later h = entries_of_each ok p (each_before ok p later (each_of_entries ok (tells p later) h))

tells-both : (p : Past) (xs ys : List Entry) → tells p (xs ++ ys) ≡ tells (tells p xs) ys
tells-both p [] ys = refl
tells-both p (x ∷ xs) ys = tells-both (Past.Then p x.seat x.event) xs ys

pub held_cut : (config : Config) (p : Past) (later : List Entry) → HeldThroughout config (tells p later) → HeldThroughout config p
held_cut config p later h before more k j s cut stands = h before (more ++ later) k j s (ap (λ q. tells q later) cut ∙ sym (tells-both before more later)) stands

pub cuts_good : CutsAreGood
cuts_good version config p later g = record {
  calls = entries_cut _ p later g.calls;
  no_reuse = record { reuse = λ k j s. entries_cut _ p later (g.no_reuse.reuse k j s) };
  once = record {
    free = entries_cut _ p later g.once.free;
    placing = entries_cut _ p later g.once.placing;
    order = entries_cut _ p later g.once.order;
    nexts = entries_cut _ p later g.once.nexts;
    retiring = entries_cut _ p later g.once.retiring;
    backs = entries_cut _ p later g.once.backs;
    lists = entries_cut _ p later g.once.lists;
  };
  scans = record {
    blocks = entries_cut _ p later g.scans.blocks;
    reads = entries_cut _ p later g.scans.reads;
    due = entries_cut _ p later g.scans.due;
    room = λ s l. entries_cut _ p later (g.scans.room s l);
  };
  eras = record {
    numbers = entries_cut _ p later g.eras.numbers;
    moves = entries_cut _ p later g.eras.moves;
    advances = λ w. entries_cut _ p later (g.eras.advances w);
    births = entries_cut _ p later g.eras.births;
    retires = entries_cut _ p later g.eras.retires;
    current = entries_cut _ p later g.eras.current;
    single = entries_cut _ p later g.eras.single;
    rising = entries_cut _ p later g.eras.rising;
    guards = entries_cut _ p later g.eras.guards;
    kinds = entries_cut _ p later g.eras.kinds;
  };
  throughout = held_cut config p later g.throughout;
  sources = entries_cut _ p later g.sources;
  finds = entries_cut _ p later g.finds;
  gots = entries_cut _ p later g.gots;
  links = entries_cut _ p later g.links;
  behind = entries_cut _ p later g.behind;
  bare = entries_cut _ p later g.bare;
  rests = entries_cut _ p later g.rests;
  map = entries_cut _ p later g.map;
  queue = record { values = entries_cut _ p later g.queue.values; empty = entries_cut _ p later g.queue.empty };
  steps = record {
    numbers = λ w. entries_cut _ p later (g.steps.numbers w);
    withdrawals = λ w. entries_cut _ p later (g.steps.withdrawals w);
    tries = λ w. entries_cut _ p later (g.steps.tries w);
    raises = λ w. entries_cut _ p later (g.steps.raises w);
    hazards = λ w. entries_cut _ p later (g.steps.hazards w);
    asks = λ w j. entries_cut _ p later (g.steps.asks w j);
    calls = entries_cut _ p later g.steps.calls;
  };
}
