-- A record with one entry more is good exactly where it was good and the entry meets each test at its position.
use Rattle.std.proofs.Common.{◌≡◌, List, [], ◌∷◌, ℕ, true, refl, subst}
use Rattle.laws.specs.words.declared.config.Config.{Config}
use Rattle.laws.specs.defs.Entry.{Entry}
use Rattle.laws.specs.defs.declared.event.Event.{Event}
use Rattle.laws.specs.records.Record.{Past, Test, EachEntry, tells}
use Rattle.laws.specs.records.Record.Past.{Start, Then}
use Rattle.laws.proofs.records.Entries.{entries_of_each, each_of_entries}
use Rattle.laws.specs.HoldLaw.{HeldThroughout}
use Rattle.laws.proofs.Cuts.{cuts_good, held_cut}
use Rattle.laws.specs.Fits.{BlankIsGood, Fits, GoodGrows, IsCovered}
use Rattle.laws.specs.Good.{Good}

none : (ok : Test) → EachEntry ok Start
none ok = entries_of_each ok Start tt

last : (ok : Test) (p : Past) (i : ℕ) (e : Event) → EachEntry ok (Then p i e) → ok p i e ≡ true
last ok p i e h = h p i e [] refl

more : (ok : Test) (p : Past) (i : ℕ) (e : Event) → EachEntry ok p → ok p i e ≡ true → EachEntry ok (Then p i e)
more ok p i e h fits = entries_of_each ok (Then p i e) (fits, each_of_entries ok p h)

-- what stands is covered at each position, by recursion on the record
abbrev Covered : Config → Past → Type 0
Covered config Start = IsCovered config Start
Covered config (Then p i e) = IsCovered config (Then p i e) × Covered config p

covered_before : (config : Config) (p : Past) (xs : List Entry) → Covered config (tells p xs) → Covered config p
covered_before config p [] h = h
covered_before config p (x ∷ xs) h = (covered_before config (Then p x.seat x.event) xs h).1

covered_last : (config : Config) (p : Past) → Covered config p → IsCovered config p
covered_last config Start h = h
covered_last config (Then p i e) h = h.0

covered_of : (config : Config) (p : Past) → HeldThroughout config p → Covered config p
covered_of config Start h = λ k j s. h Start [] k j s refl
covered_of config (Then p i e) h = (
  (λ k j s. h (Then p i e) [] k j s refl),
  covered_of config p (held_cut config p (record { seat = i; event = e } ∷ []) h),
)

held_of : (config : Config) (p : Past) → Covered config p → HeldThroughout config p
held_of config p h before later k j s cut = covered_last config before (covered_before config before later (subst (Covered config) cut h)) k j s

held_more : (config : Config) (p : Past) (i : ℕ) (e : Event) → HeldThroughout config p → IsCovered config (Then p i e) → HeldThroughout config (Then p i e)
held_more config p i e h last = held_of config (Then p i e) (last, covered_of config p h)

held_blank : (config : Config) → HeldThroughout config Start
held_blank config = held_of config Start (λ k j s h. absurd (cc))

pub blank_good : BlankIsGood
blank_good version config = record {
  calls = none _;
  no_reuse = record { reuse = λ k j s. none _ };
  once = record { free = none _; placing = none _; order = none _; nexts = none _; retiring = none _; backs = none _; lists = none _ };
  scans = record { blocks = none _; reads = none _; due = none _; room = λ s l. none _ };
  eras = record { numbers = none _; moves = none _; advances = λ w. none _; births = none _; retires = none _; current = none _; single = none _; rising = none _; guards = none _; kinds = none _ };
  throughout = held_blank config;
  sources = none _;
  finds = none _;
  gots = none _;
  links = none _;
  behind = none _;
  bare = none _;
  rests = none _;
  map = none _;
  queue = record { values = none _; empty = none _ };
  steps = record { numbers = λ w. none _; withdrawals = λ w. none _; tries = λ w. none _; raises = λ w. none _; hazards = λ w. none _; asks = λ w j. none _; calls = none _ };
}

fits_last : (version : ℕ) (config : Config) (p : Past) (i : ℕ) (event : Event) → Good version config (Then p i event) → Fits version config p i event
fits_last version config p i event g = record {
  calls = last _ p i event g.calls;
  reuse = λ k j s. last _ p i event (g.no_reuse.reuse k j s);
  free = last _ p i event g.once.free;
  placing = last _ p i event g.once.placing;
  order = last _ p i event g.once.order;
  nexts = last _ p i event g.once.nexts;
  retiring = last _ p i event g.once.retiring;
  backs = last _ p i event g.once.backs;
  lists = last _ p i event g.once.lists;
  blocks = last _ p i event g.scans.blocks;
  reads = last _ p i event g.scans.reads;
  due = last _ p i event g.scans.due;
  room = λ s l. last _ p i event (g.scans.room s l);
  numbers = last _ p i event g.eras.numbers;
  moves = last _ p i event g.eras.moves;
  advances = λ w. last _ p i event (g.eras.advances w);
  births = last _ p i event g.eras.births;
  retires = last _ p i event g.eras.retires;
  current = last _ p i event g.eras.current;
  single = last _ p i event g.eras.single;
  rising = last _ p i event g.eras.rising;
  guards = last _ p i event g.eras.guards;
  kinds = last _ p i event g.eras.kinds;
  covered = λ k j s. g.throughout (Then p i event) [] k j s refl;
  sources = last _ p i event g.sources;
  finds = last _ p i event g.finds;
  gots = last _ p i event g.gots;
  links = last _ p i event g.links;
  behind = last _ p i event g.behind;
  bare = last _ p i event g.bare;
  rests = last _ p i event g.rests;
  map = last _ p i event g.map;
  values = last _ p i event g.queue.values;
  empty = last _ p i event g.queue.empty;
  steps = λ w. last _ p i event (g.steps.numbers w);
  withdrawals = λ w. last _ p i event (g.steps.withdrawals w);
  tries = λ w. last _ p i event (g.steps.tries w);
  raises = λ w. last _ p i event (g.steps.raises w);
  hazards = λ w. last _ p i event (g.steps.hazards w);
  asks = λ w j. last _ p i event (g.steps.asks w j);
  ends = last _ p i event g.steps.calls;
}

good_more : (version : ℕ) (config : Config) (p : Past) (i : ℕ) (event : Event) → Good version config p → Fits version config p i event → Good version config (Then p i event)
good_more version config p i event g f = record {
  calls = more _ p i event g.calls f.calls;
  no_reuse = record {
    reuse = λ k j s. more _ p i event (g.no_reuse.reuse k j s) (f.reuse k j s);
  };
  once = record {
    free = more _ p i event g.once.free f.free;
    placing = more _ p i event g.once.placing f.placing;
    order = more _ p i event g.once.order f.order;
    nexts = more _ p i event g.once.nexts f.nexts;
    retiring = more _ p i event g.once.retiring f.retiring;
    backs = more _ p i event g.once.backs f.backs;
    lists = more _ p i event g.once.lists f.lists;
  };
  scans = record {
    blocks = more _ p i event g.scans.blocks f.blocks;
    reads = more _ p i event g.scans.reads f.reads;
    due = more _ p i event g.scans.due f.due;
    room = λ s l. more _ p i event (g.scans.room s l) (f.room s l);
  };
  eras = record {
    numbers = more _ p i event g.eras.numbers f.numbers;
    moves = more _ p i event g.eras.moves f.moves;
    advances = λ w. more _ p i event (g.eras.advances w) (f.advances w);
    births = more _ p i event g.eras.births f.births;
    retires = more _ p i event g.eras.retires f.retires;
    current = more _ p i event g.eras.current f.current;
    single = more _ p i event g.eras.single f.single;
    rising = more _ p i event g.eras.rising f.rising;
    guards = more _ p i event g.eras.guards f.guards;
    kinds = more _ p i event g.eras.kinds f.kinds;
  };
  throughout = held_more config p i event g.throughout f.covered;
  sources = more _ p i event g.sources f.sources;
  finds = more _ p i event g.finds f.finds;
  gots = more _ p i event g.gots f.gots;
  links = more _ p i event g.links f.links;
  behind = more _ p i event g.behind f.behind;
  bare = more _ p i event g.bare f.bare;
  rests = more _ p i event g.rests f.rests;
  map = more _ p i event g.map f.map;
  queue = record {
    values = more _ p i event g.queue.values f.values;
    empty = more _ p i event g.queue.empty f.empty;
  };
  steps = record {
    numbers = λ w. more _ p i event (g.steps.numbers w) (f.steps w);
    withdrawals = λ w. more _ p i event (g.steps.withdrawals w) (f.withdrawals w);
    tries = λ w. more _ p i event (g.steps.tries w) (f.tries w);
    raises = λ w. more _ p i event (g.steps.raises w) (f.raises w);
    hazards = λ w. more _ p i event (g.steps.hazards w) (f.hazards w);
    asks = λ w j. more _ p i event (g.steps.asks w j) (f.asks w j);
    calls = more _ p i event g.steps.calls f.ends;
  };
}

pub good_grows : GoodGrows
good_grows version config p i event = (
  (λ g. (cuts_good version config p (record { seat = i; event = event } ∷ []) g, fits_last version config p i event g)),
  good_more version config p i event,
)
