-- What the parts tell of an entry is all that a good record asks, but for whether what stands is held.
use Rattle.std.proofs.Common.{ℕ, ◌≡◌, sym, subst}
use Rattle.laws.specs.records.Record.{Past}
use Rattle.laws.specs.records.Record.Past.{Then}
use Rattle.laws.specs.Fits.{Fits, IsCovered}
use Rattle.wfe_words.specs.declared.config.Config.{Config}
use Rattle.wfe_defs.specs.declared.event.Event.{Event}
use Rattle.wfe_check.specs.Groups.{FitsParts}

put_together : (version : ℕ) (config : Config) (p : Past) (i : ℕ) (event : Event) → FitsParts version config p i event → IsCovered config (Then p i event) → Fits version config p i event
put_together version config p i event f covered = record {
  calls = f.in_calls.calls;
  reuse = f.in_standing.reuse;
  free = f.in_rows.free;
  placing = f.in_calls.placing;
  order = f.in_rows.order;
  nexts = f.in_rows.nexts;
  retiring = f.in_calls.retiring;
  backs = f.in_contents.backs;
  lists = f.in_contents.lists;
  blocks = f.in_contents.blocks;
  reads = f.in_guards.reads;
  due = f.in_calls.due;
  room = f.in_times.room;
  numbers = f.in_rows.numbers;
  moves = f.in_calls.moves;
  advances = f.in_calls.advances;
  births = f.in_times.births;
  retires = f.in_times.retires;
  current = f.in_times.current;
  single = f.in_guards.single;
  rising = f.in_guards.rising;
  guards = f.in_guards.guards;
  kinds = f.in_guards.kinds;
  covered = covered;
  sources = f.in_times.sources;
  finds = f.in_calls.finds;
  gots = f.in_standing.gots;
  links = f.in_standing.links;
  behind = f.in_standing.behind;
  bare = f.in_guards.bare;
  rests = f.in_guards.rests;
  map = f.in_contents.map;
  values = f.in_contents.values;
  empty = f.in_contents.empty;
  steps = f.in_steps.numbers;
  withdrawals = f.in_steps.withdrawals;
  tries = f.in_steps.tries;
  raises = f.in_steps.raises;
  hazards = f.in_steps.hazards;
  asks = f.in_steps.asks;
  ends = f.in_steps.calls;
}

taken_apart : (version : ℕ) (config : Config) (p : Past) (i : ℕ) (event : Event) → Fits version config p i event → FitsParts version config p i event
taken_apart version config p i event f = record {
  in_rows = record { free = f.free; nexts = f.nexts; order = f.order; numbers = f.numbers };
  in_calls = record { calls = f.calls; placing = f.placing; retiring = f.retiring; due = f.due; moves = f.moves; finds = f.finds; advances = f.advances };
  in_steps = record { numbers = f.steps; withdrawals = f.withdrawals; tries = f.tries; raises = f.raises; hazards = f.hazards; asks = f.asks; calls = f.ends };
  in_guards = record { reads = f.reads; single = f.single; rising = f.rising; guards = f.guards; kinds = f.kinds; bare = f.bare; rests = f.rests };
  in_standing = record { reuse = f.reuse; links = f.links; behind = f.behind; gots = f.gots };
  in_contents = record { map = f.map; values = f.values; empty = f.empty; blocks = f.blocks; backs = f.backs; lists = f.lists };
  in_times = record { sources = f.sources; births = f.births; retires = f.retires; current = f.current; room = f.room };
}

-- the checker's version is the record's
pub fits_of : (kept version : ℕ) (config : Config) (p : Past) (i : ℕ) (event : Event) → kept ≡ version → FitsParts kept config p i event → IsCovered config (Then p i event) → Fits version config p i event
fits_of kept version config p i event e f covered = put_together version config p i event (subst (λ v. FitsParts v config p i event) e f) covered

pub parts_of : (kept version : ℕ) (config : Config) (p : Past) (i : ℕ) (event : Event) → kept ≡ version → Fits version config p i event → FitsParts kept config p i event
parts_of kept version config p i event e f = taken_apart kept config p i event (subst (λ v. Fits v config p i event) (sym e) f)
