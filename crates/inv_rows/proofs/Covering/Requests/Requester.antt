-- A requester's own steps, and the tries before it asks.
use Rattle.std.proofs.Common.{ℕ, ◌≤◌, ◌+◌, ◌<◌, ◌≡◌, Bool, true, false, arith}
use Rattle.std.proofs.lemmas.Bool.Decides.{nat_tests}
use Rattle.std.specs.Prelude.{◌==◌}
use Rattle.inv_rows.specs.words.declared.config.Config.{Config}
use Rattle.inv_rows.specs.model.Memory.{upd}
use Rattle.inv_rows.specs.Covering.Requests.Views.{View, upd2}
use Rattle.inv_rows.specs.Covering.Requests.Views.Deal.{Quiet, Open, Answered, Passed, Taken}
use Rattle.inv_rows.specs.Covering.Requests.Views.Role.{Away, Publishes, Attempts, Copies, Asks, Asked, Turns, Looks, Answers, Waits, Takes, Took, Leaves}
use Rattle.inv_rows.specs.Covering.Requests.Deals.{answered_with}
use Rattle.inv_rows.specs.Covering.Requests.Parts.{Parts}

pub clears-keeps : (c : Config) (v : View) (x j : ℕ) → x < c.seats → Parts c v → v.role x ≡ Away → Parts c (record v { era = upd2 v.era x j 0; role = upd v.role x Away })
clears-keeps c v x j b d q = record {
  fit = λ i'. grind (arith, nat_tests, d.fit i', d.fit x);
  marks = λ i' j'. grind (arith, nat_tests, d.marks i' j', d.fit x);
  tags = λ i'. grind (arith, nat_tests, d.tags i', d.fit x);
  taken = λ i'. grind (arith, nat_tests, d.taken i', d.fit x);
  timely = λ i'. grind (arith, nat_tests, d.timely i', d.fit x);
  clock = grind (arith, nat_tests, d.clock, d.fit x);
  eras = λ i'. grind (arith, nat_tests, d.eras i', d.fit x);
  helpers = λ i'. grind (arith, nat_tests, d.helpers i', d.fit x);
  indexes = λ i' j'. grind (arith, nat_tests, d.indexes i' j', d.fit x);
  movers = λ i' hh. grind (arith, nat_tests, d.movers i', d.fit x);
  links = λ i'. grind (arith, nat_tests, d.links i', d.fit x);
  shown = λ i'. grind (arith, nat_tests, d.shown i', d.fit x);
  published = λ i'. grind (arith, nat_tests, d.published i', d.fit x);
  turns = λ i'. grind (arith, nat_tests, d.turns i', d.fit x);
  low = λ i' j'. grind (arith, nat_tests, d.low i' j', d.fit x);
  spare = λ i'. grind (arith, nat_tests, d.spare i', d.fit x);
  answer = λ i'. grind (arith, nat_tests, d.answer i', d.fit x);
  known = λ m'. grind (arith, nat_tests, d.known m', d.fit x);
  whom = λ m'. grind (arith, nat_tests, d.whom m', d.fit x);
  bound = λ i' hh hg. grind (arith, nat_tests, d.bound i', d.fit x);
  passed = λ i' m' hh hg ha hb. grind (arith, nat_tests, d.passed i' m', d.fit x);
  outside = λ i' hh. grind (arith, nat_tests, d.outside i', d.fit x);
}

-- the first step of a copy
pub copies-keeps : (c : Config) (v : View) (x j : ℕ) → x < c.seats → Parts c v → v.role x ≡ Away → Parts c (record v { role = upd v.role x (Copies j (v.era x j)) })
copies-keeps c v x j b d q = record {
  fit = λ i'. grind (arith, nat_tests, d.fit i', d.fit x, d.indexes x j);
  marks = λ i' j'. grind (arith, nat_tests, d.marks i' j', d.fit x, d.indexes x j);
  tags = λ i'. grind (arith, nat_tests, d.tags i', d.fit x, d.indexes x j);
  taken = λ i'. grind (arith, nat_tests, d.taken i', d.fit x, d.indexes x j);
  timely = λ i'. grind (arith, nat_tests, d.timely i', d.fit x, d.indexes x j);
  clock = grind (arith, nat_tests, d.clock, d.fit x, d.indexes x j);
  eras = λ i'. grind (arith, nat_tests, d.eras i', d.fit x, d.indexes x j);
  helpers = λ i'. grind (arith, nat_tests, d.helpers i', d.fit x, d.indexes x j);
  indexes = λ i' j'. grind (arith, nat_tests, d.indexes i' j', d.fit x, d.indexes x j);
  movers = λ i' hh. grind (arith, nat_tests, d.movers i', d.fit x, d.indexes x j);
  links = λ i'. grind (arith, nat_tests, d.links i', d.fit x, d.indexes x j);
  shown = λ i'. grind (arith, nat_tests, d.shown i', d.fit x, d.indexes x j);
  published = λ i'. grind (arith, nat_tests, d.published i', d.fit x, d.indexes x j);
  turns = λ i'. grind (arith, nat_tests, d.turns i', d.fit x, d.indexes x j);
  low = λ i' j'. grind (arith, nat_tests, d.low i' j', d.fit x, d.indexes x j);
  spare = λ i'. grind (arith, nat_tests, d.spare i', d.fit x, d.indexes x j);
  answer = λ i'. grind (arith, nat_tests, d.answer i', d.fit x, d.indexes x j);
  known = λ m'. grind (arith, nat_tests, d.known m', d.fit x, d.indexes x j);
  whom = λ m'. grind (arith, nat_tests, d.whom m', d.fit x, d.indexes x j);
  bound = λ i' hh hg. grind (arith, nat_tests, d.bound i', d.fit x, d.indexes x j);
  passed = λ i' m' hh hg ha hb. grind (arith, nat_tests, d.passed i' m', d.fit x, d.indexes x j);
  outside = λ i' hh. grind (arith, nat_tests, d.outside i', d.fit x, d.indexes x j);
}

-- the second step of a copy
pub stores-keeps : (c : Config) (v : View) (x from j e : ℕ) → x < c.seats → Parts c v → v.role x ≡ Copies from e → Parts c (record v { era = upd2 v.era x j e; role = upd v.role x Away })
stores-keeps c v x from j e b d q = record {
  fit = λ i'. grind (arith, nat_tests, d.fit i', d.fit x, d.eras x);
  marks = λ i' j'. grind (arith, nat_tests, d.marks i' j', d.fit x, d.eras x);
  tags = λ i'. grind (arith, nat_tests, d.tags i', d.fit x, d.eras x);
  taken = λ i'. grind (arith, nat_tests, d.taken i', d.fit x, d.eras x);
  timely = λ i'. grind (arith, nat_tests, d.timely i', d.fit x, d.eras x);
  clock = grind (arith, nat_tests, d.clock, d.fit x, d.eras x);
  eras = λ i'. grind (arith, nat_tests, d.eras i', d.fit x, d.eras x);
  helpers = λ i'. grind (arith, nat_tests, d.helpers i', d.fit x, d.eras x);
  indexes = λ i' j'. grind (arith, nat_tests, d.indexes i' j', d.fit x, d.eras x);
  movers = λ i' hh. grind (arith, nat_tests, d.movers i', d.fit x, d.eras x);
  links = λ i'. grind (arith, nat_tests, d.links i', d.fit x, d.eras x);
  shown = λ i'. grind (arith, nat_tests, d.shown i', d.fit x, d.eras x);
  published = λ i'. grind (arith, nat_tests, d.published i', d.fit x, d.eras x);
  turns = λ i'. grind (arith, nat_tests, d.turns i', d.fit x, d.eras x);
  low = λ i' j'. grind (arith, nat_tests, d.low i' j', d.fit x, d.eras x);
  spare = λ i'. grind (arith, nat_tests, d.spare i', d.fit x, d.eras x);
  answer = λ i'. grind (arith, nat_tests, d.answer i', d.fit x, d.eras x);
  known = λ m'. grind (arith, nat_tests, d.known m', d.fit x, d.eras x);
  whom = λ m'. grind (arith, nat_tests, d.whom m', d.fit x, d.eras x);
  bound = λ i' hh hg. grind (arith, nat_tests, d.bound i', d.fit x, d.eras x);
  passed = λ i' m' hh hg ha hb. grind (arith, nat_tests, d.passed i' m', d.fit x, d.eras x);
  outside = λ i' hh. grind (arith, nat_tests, d.outside i', d.fit x, d.eras x);
}

pub loads-keeps : (c : Config) (v : View) (x j : ℕ) → x < c.seats → Parts c v → v.role x ≡ Away → Parts c (record v { role = upd v.role x (Publishes j v.clock false) })
loads-keeps c v x j b d q = record {
  fit = λ i'. grind (arith, nat_tests, d.fit i', d.fit x, d.low x j);
  marks = λ i' j'. grind (arith, nat_tests, d.marks i' j', d.fit x, d.low x j);
  tags = λ i'. grind (arith, nat_tests, d.tags i', d.fit x, d.low x j);
  taken = λ i'. grind (arith, nat_tests, d.taken i', d.fit x, d.low x j);
  timely = λ i'. grind (arith, nat_tests, d.timely i', d.fit x, d.low x j);
  clock = grind (arith, nat_tests, d.clock, d.fit x, d.low x j);
  eras = λ i'. grind (arith, nat_tests, d.eras i', d.fit x, d.low x j);
  helpers = λ i'. grind (arith, nat_tests, d.helpers i', d.fit x, d.low x j);
  indexes = λ i' j'. grind (arith, nat_tests, d.indexes i' j', d.fit x, d.low x j);
  movers = λ i' hh. grind (arith, nat_tests, d.movers i', d.fit x, d.low x j);
  links = λ i'. grind (arith, nat_tests, d.links i', d.fit x, d.low x j);
  shown = λ i'. grind (arith, nat_tests, d.shown i', d.fit x, d.low x j);
  published = λ i'. grind (arith, nat_tests, d.published i', d.fit x, d.low x j);
  turns = λ i'. grind (arith, nat_tests, d.turns i', d.fit x, d.low x j);
  low = λ i' j'. grind (arith, nat_tests, d.low i' j', d.fit x, d.low x j);
  spare = λ i'. grind (arith, nat_tests, d.spare i', d.fit x, d.low x j);
  answer = λ i'. grind (arith, nat_tests, d.answer i', d.fit x, d.low x j);
  known = λ m'. grind (arith, nat_tests, d.known m', d.fit x, d.low x j);
  whom = λ m'. grind (arith, nat_tests, d.whom m', d.fit x, d.low x j);
  bound = λ i' hh hg. grind (arith, nat_tests, d.bound i', d.fit x, d.low x j);
  passed = λ i' m' hh hg ha hb. grind (arith, nat_tests, d.passed i' m', d.fit x, d.low x j);
  outside = λ i' hh. grind (arith, nat_tests, d.outside i', d.fit x, d.low x j);
}

pub publishes_first-keeps : (c : Config) (v : View) (x j e : ℕ) → x < c.seats → Parts c v → v.role x ≡ Publishes j e false → Parts c (record v { era = upd2 v.era x j e; role = upd v.role x (Attempts j e false) })
publishes_first-keeps c v x j e b d q = record {
  fit = λ i'. grind (arith, nat_tests, d.fit i', d.fit x);
  marks = λ i' j'. grind (arith, nat_tests, d.marks i' j', d.fit x);
  tags = λ i'. grind (arith, nat_tests, d.tags i', d.fit x);
  taken = λ i'. grind (arith, nat_tests, d.taken i', d.fit x);
  timely = λ i'. grind (arith, nat_tests, d.timely i', d.fit x);
  clock = grind (arith, nat_tests, d.clock, d.fit x);
  eras = λ i'. grind (arith, nat_tests, d.eras i', d.fit x);
  helpers = λ i'. grind (arith, nat_tests, d.helpers i', d.fit x);
  indexes = λ i' j'. grind (arith, nat_tests, d.indexes i' j', d.fit x);
  movers = λ i' hh. grind (arith, nat_tests, d.movers i', d.fit x);
  links = λ i'. grind (arith, nat_tests, d.links i', d.fit x);
  shown = λ i'. grind (arith, nat_tests, d.shown i', d.fit x);
  published = λ i'. grind (arith, nat_tests, d.published i', d.fit x);
  turns = λ i'. grind (arith, nat_tests, d.turns i', d.fit x);
  low = λ i' j'. grind (arith, nat_tests, d.low i' j', d.fit x);
  spare = λ i'. grind (arith, nat_tests, d.spare i', d.fit x);
  answer = λ i'. grind (arith, nat_tests, d.answer i', d.fit x);
  known = λ m'. grind (arith, nat_tests, d.known m', d.fit x);
  whom = λ m'. grind (arith, nat_tests, d.whom m', d.fit x);
  bound = λ i' hh hg. grind (arith, nat_tests, d.bound i', d.fit x);
  passed = λ i' m' hh hg ha hb. grind (arith, nat_tests, d.passed i' m', d.fit x);
  outside = λ i' hh. grind (arith, nat_tests, d.outside i', d.fit x);
}

pub publishes_again-keeps : (c : Config) (v : View) (x j e : ℕ) → x < c.seats → Parts c v → v.role x ≡ Publishes j e true → Parts c (record v { era = upd2 v.era x j e; role = upd v.role x (Attempts j e true) })
publishes_again-keeps c v x j e b d q = record {
  fit = λ i'. grind (arith, nat_tests, d.fit i', d.fit x);
  marks = λ i' j'. grind (arith, nat_tests, d.marks i' j', d.fit x);
  tags = λ i'. grind (arith, nat_tests, d.tags i', d.fit x);
  taken = λ i'. grind (arith, nat_tests, d.taken i', d.fit x);
  timely = λ i'. grind (arith, nat_tests, d.timely i', d.fit x);
  clock = grind (arith, nat_tests, d.clock, d.fit x);
  eras = λ i'. grind (arith, nat_tests, d.eras i', d.fit x);
  helpers = λ i'. grind (arith, nat_tests, d.helpers i', d.fit x);
  indexes = λ i' j'. grind (arith, nat_tests, d.indexes i' j', d.fit x);
  movers = λ i' hh. grind (arith, nat_tests, d.movers i', d.fit x);
  links = λ i'. grind (arith, nat_tests, d.links i', d.fit x);
  shown = λ i'. grind (arith, nat_tests, d.shown i', d.fit x);
  published = λ i'. grind (arith, nat_tests, d.published i', d.fit x);
  turns = λ i'. grind (arith, nat_tests, d.turns i', d.fit x);
  low = λ i' j'. grind (arith, nat_tests, d.low i' j', d.fit x);
  spare = λ i'. grind (arith, nat_tests, d.spare i', d.fit x);
  answer = λ i'. grind (arith, nat_tests, d.answer i', d.fit x);
  known = λ m'. grind (arith, nat_tests, d.known m', d.fit x);
  whom = λ m'. grind (arith, nat_tests, d.whom m', d.fit x);
  bound = λ i' hh hg. grind (arith, nat_tests, d.bound i', d.fit x);
  passed = λ i' m' hh hg ha hb. grind (arith, nat_tests, d.passed i' m', d.fit x);
  outside = λ i' hh. grind (arith, nat_tests, d.outside i', d.fit x);
}

pub publishes_last-keeps : (c : Config) (v : View) (x j w e : ℕ) → x < c.seats → Parts c v → v.role x ≡ Publishes j e true → Parts c (record v { era = upd2 v.era x j e; role = upd v.role x (Asks j w) })
publishes_last-keeps c v x j w e b d q = record {
  fit = λ i'. grind (arith, nat_tests, d.fit i', d.fit x);
  marks = λ i' j'. grind (arith, nat_tests, d.marks i' j', d.fit x);
  tags = λ i'. grind (arith, nat_tests, d.tags i', d.fit x);
  taken = λ i'. grind (arith, nat_tests, d.taken i', d.fit x);
  timely = λ i'. grind (arith, nat_tests, d.timely i', d.fit x);
  clock = grind (arith, nat_tests, d.clock, d.fit x);
  eras = λ i'. grind (arith, nat_tests, d.eras i', d.fit x);
  helpers = λ i'. grind (arith, nat_tests, d.helpers i', d.fit x);
  indexes = λ i' j'. grind (arith, nat_tests, d.indexes i' j', d.fit x);
  movers = λ i' hh. grind (arith, nat_tests, d.movers i', d.fit x);
  links = λ i'. grind (arith, nat_tests, d.links i', d.fit x);
  shown = λ i'. grind (arith, nat_tests, d.shown i', d.fit x);
  published = λ i'. grind (arith, nat_tests, d.published i', d.fit x);
  turns = λ i'. grind (arith, nat_tests, d.turns i', d.fit x);
  low = λ i' j'. grind (arith, nat_tests, d.low i' j', d.fit x);
  spare = λ i'. grind (arith, nat_tests, d.spare i', d.fit x);
  answer = λ i'. grind (arith, nat_tests, d.answer i', d.fit x);
  known = λ m'. grind (arith, nat_tests, d.known m', d.fit x);
  whom = λ m'. grind (arith, nat_tests, d.whom m', d.fit x);
  bound = λ i' hh hg. grind (arith, nat_tests, d.bound i', d.fit x);
  passed = λ i' m' hh hg ha hb. grind (arith, nat_tests, d.passed i' m', d.fit x);
  outside = λ i' hh. grind (arith, nat_tests, d.outside i', d.fit x);
}

pub holds-keeps : (c : Config) (v : View) (x j e : ℕ) (lost : Bool) → x < c.seats → Parts c v → v.role x ≡ Attempts j e lost → Parts c (record v { role = upd v.role x Away })
holds-keeps c v x j e lost b d q = record {
  fit = λ i'. grind (arith, nat_tests, d.fit i', d.fit x);
  marks = λ i' j'. grind (arith, nat_tests, d.marks i' j', d.fit x);
  tags = λ i'. grind (arith, nat_tests, d.tags i', d.fit x);
  taken = λ i'. grind (arith, nat_tests, d.taken i', d.fit x);
  timely = λ i'. grind (arith, nat_tests, d.timely i', d.fit x);
  clock = grind (arith, nat_tests, d.clock, d.fit x);
  eras = λ i'. grind (arith, nat_tests, d.eras i', d.fit x);
  helpers = λ i'. grind (arith, nat_tests, d.helpers i', d.fit x);
  indexes = λ i' j'. grind (arith, nat_tests, d.indexes i' j', d.fit x);
  movers = λ i' hh. grind (arith, nat_tests, d.movers i', d.fit x);
  links = λ i'. grind (arith, nat_tests, d.links i', d.fit x);
  shown = λ i'. grind (arith, nat_tests, d.shown i', d.fit x);
  published = λ i'. grind (arith, nat_tests, d.published i', d.fit x);
  turns = λ i'. grind (arith, nat_tests, d.turns i', d.fit x);
  low = λ i' j'. grind (arith, nat_tests, d.low i' j', d.fit x);
  spare = λ i'. grind (arith, nat_tests, d.spare i', d.fit x);
  answer = λ i'. grind (arith, nat_tests, d.answer i', d.fit x);
  known = λ m'. grind (arith, nat_tests, d.known m', d.fit x);
  whom = λ m'. grind (arith, nat_tests, d.whom m', d.fit x);
  bound = λ i' hh hg. grind (arith, nat_tests, d.bound i', d.fit x);
  passed = λ i' m' hh hg ha hb. grind (arith, nat_tests, d.passed i' m', d.fit x);
  outside = λ i' hh. grind (arith, nat_tests, d.outside i', d.fit x);
}

pub fails_first-keeps : (c : Config) (v : View) (x j e : ℕ) → x < c.seats → Parts c v → v.role x ≡ Attempts j e false → (v.clock == e) ≡ false → Parts c (record v { role = upd v.role x (Publishes j v.clock true) })
fails_first-keeps c v x j e b d q p0 = record {
  fit = λ i'. grind (arith, nat_tests, d.fit i', d.fit x, d.spare x, d.low x j);
  marks = λ i' j'. grind (arith, nat_tests, d.marks i' j', d.fit x, d.spare x, d.low x j);
  tags = λ i'. grind (arith, nat_tests, d.tags i', d.fit x, d.spare x, d.low x j);
  taken = λ i'. grind (arith, nat_tests, d.taken i', d.fit x, d.spare x, d.low x j);
  timely = λ i'. grind (arith, nat_tests, d.timely i', d.fit x, d.spare x, d.low x j);
  clock = grind (arith, nat_tests, d.clock, d.fit x, d.spare x, d.low x j);
  eras = λ i'. grind (arith, nat_tests, d.eras i', d.fit x, d.spare x, d.low x j);
  helpers = λ i'. grind (arith, nat_tests, d.helpers i', d.fit x, d.spare x, d.low x j);
  indexes = λ i' j'. grind (arith, nat_tests, d.indexes i' j', d.fit x, d.spare x, d.low x j);
  movers = λ i' hh. grind (arith, nat_tests, d.movers i', d.fit x, d.spare x, d.low x j);
  links = λ i'. grind (arith, nat_tests, d.links i', d.fit x, d.spare x, d.low x j);
  shown = λ i'. grind (arith, nat_tests, d.shown i', d.fit x, d.spare x, d.low x j);
  published = λ i'. grind (arith, nat_tests, d.published i', d.fit x, d.spare x, d.low x j);
  turns = λ i'. grind (arith, nat_tests, d.turns i', d.fit x, d.spare x, d.low x j);
  low = λ i' j'. grind (arith, nat_tests, d.low i' j', d.fit x, d.spare x, d.low x j);
  spare = λ i'. grind (arith, nat_tests, d.spare i', d.fit x, d.spare x, d.low x j);
  answer = λ i'. grind (arith, nat_tests, d.answer i', d.fit x, d.spare x, d.low x j);
  known = λ m'. grind (arith, nat_tests, d.known m', d.fit x, d.spare x, d.low x j);
  whom = λ m'. grind (arith, nat_tests, d.whom m', d.fit x, d.spare x, d.low x j);
  bound = λ i' hh hg. grind (arith, nat_tests, d.bound i', d.fit x, d.spare x, d.low x j);
  passed = λ i' m' hh hg ha hb. grind (arith, nat_tests, d.passed i' m', d.fit x, d.spare x, d.low x j);
  outside = λ i' hh. grind (arith, nat_tests, d.outside i', d.fit x, d.spare x, d.low x j);
}

pub fails_again-keeps : (c : Config) (v : View) (x j e : ℕ) → x < c.seats → Parts c v → v.role x ≡ Attempts j e true → (v.clock == e) ≡ false → Parts c (record v { role = upd v.role x (Publishes j v.clock true) })
fails_again-keeps c v x j e b d q p0 = record {
  fit = λ i'. grind (arith, nat_tests, d.fit i', d.fit x, d.spare x, d.low x j);
  marks = λ i' j'. grind (arith, nat_tests, d.marks i' j', d.fit x, d.spare x, d.low x j);
  tags = λ i'. grind (arith, nat_tests, d.tags i', d.fit x, d.spare x, d.low x j);
  taken = λ i'. grind (arith, nat_tests, d.taken i', d.fit x, d.spare x, d.low x j);
  timely = λ i'. grind (arith, nat_tests, d.timely i', d.fit x, d.spare x, d.low x j);
  clock = grind (arith, nat_tests, d.clock, d.fit x, d.spare x, d.low x j);
  eras = λ i'. grind (arith, nat_tests, d.eras i', d.fit x, d.spare x, d.low x j);
  helpers = λ i'. grind (arith, nat_tests, d.helpers i', d.fit x, d.spare x, d.low x j);
  indexes = λ i' j'. grind (arith, nat_tests, d.indexes i' j', d.fit x, d.spare x, d.low x j);
  movers = λ i' hh. grind (arith, nat_tests, d.movers i', d.fit x, d.spare x, d.low x j);
  links = λ i'. grind (arith, nat_tests, d.links i', d.fit x, d.spare x, d.low x j);
  shown = λ i'. grind (arith, nat_tests, d.shown i', d.fit x, d.spare x, d.low x j);
  published = λ i'. grind (arith, nat_tests, d.published i', d.fit x, d.spare x, d.low x j);
  turns = λ i'. grind (arith, nat_tests, d.turns i', d.fit x, d.spare x, d.low x j);
  low = λ i' j'. grind (arith, nat_tests, d.low i' j', d.fit x, d.spare x, d.low x j);
  spare = λ i'. grind (arith, nat_tests, d.spare i', d.fit x, d.spare x, d.low x j);
  answer = λ i'. grind (arith, nat_tests, d.answer i', d.fit x, d.spare x, d.low x j);
  known = λ m'. grind (arith, nat_tests, d.known m', d.fit x, d.spare x, d.low x j);
  whom = λ m'. grind (arith, nat_tests, d.whom m', d.fit x, d.spare x, d.low x j);
  bound = λ i' hh hg. grind (arith, nat_tests, d.bound i', d.fit x, d.spare x, d.low x j);
  passed = λ i' m' hh hg ha hb. grind (arith, nat_tests, d.passed i' m', d.fit x, d.spare x, d.low x j);
  outside = λ i' hh. grind (arith, nat_tests, d.outside i', d.fit x, d.spare x, d.low x j);
}

pub fails_endless-keeps : (c : Config) (v : View) (x j e : ℕ) → x < c.seats → Parts c v → v.role x ≡ Attempts j e false → (v.clock == e) ≡ false → Parts c (record v { role = upd v.role x (Publishes j v.clock false) })
fails_endless-keeps c v x j e b d q p0 = record {
  fit = λ i'. grind (arith, nat_tests, d.fit i', d.fit x, d.low x j);
  marks = λ i' j'. grind (arith, nat_tests, d.marks i' j', d.fit x, d.low x j);
  tags = λ i'. grind (arith, nat_tests, d.tags i', d.fit x, d.low x j);
  taken = λ i'. grind (arith, nat_tests, d.taken i', d.fit x, d.low x j);
  timely = λ i'. grind (arith, nat_tests, d.timely i', d.fit x, d.low x j);
  clock = grind (arith, nat_tests, d.clock, d.fit x, d.low x j);
  eras = λ i'. grind (arith, nat_tests, d.eras i', d.fit x, d.low x j);
  helpers = λ i'. grind (arith, nat_tests, d.helpers i', d.fit x, d.low x j);
  indexes = λ i' j'. grind (arith, nat_tests, d.indexes i' j', d.fit x, d.low x j);
  movers = λ i' hh. grind (arith, nat_tests, d.movers i', d.fit x, d.low x j);
  links = λ i'. grind (arith, nat_tests, d.links i', d.fit x, d.low x j);
  shown = λ i'. grind (arith, nat_tests, d.shown i', d.fit x, d.low x j);
  published = λ i'. grind (arith, nat_tests, d.published i', d.fit x, d.low x j);
  turns = λ i'. grind (arith, nat_tests, d.turns i', d.fit x, d.low x j);
  low = λ i' j'. grind (arith, nat_tests, d.low i' j', d.fit x, d.low x j);
  spare = λ i'. grind (arith, nat_tests, d.spare i', d.fit x, d.low x j);
  answer = λ i'. grind (arith, nat_tests, d.answer i', d.fit x, d.low x j);
  known = λ m'. grind (arith, nat_tests, d.known m', d.fit x, d.low x j);
  whom = λ m'. grind (arith, nat_tests, d.whom m', d.fit x, d.low x j);
  bound = λ i' hh hg. grind (arith, nat_tests, d.bound i', d.fit x, d.low x j);
  passed = λ i' m' hh hg ha hb. grind (arith, nat_tests, d.passed i' m', d.fit x, d.low x j);
  outside = λ i' hh. grind (arith, nat_tests, d.outside i', d.fit x, d.low x j);
}

pub asks-keeps : (c : Config) (v : View) (x j w : ℕ) → x < c.seats → Parts c v → v.role x ≡ Asks j w → Parts c (record v { deal = upd v.deal x (Open (v.tag x j) j w); role = upd v.role x (Asked j w) })
asks-keeps c v x j w b d q = record {
  fit = λ i'. grind (arith, nat_tests, d.fit i', d.fit x, d.tags x, d.timely x);
  marks = λ i' j'. grind (arith, nat_tests, d.marks i' j', d.fit x, d.tags x, d.timely x);
  tags = λ i'. grind (arith, nat_tests, d.tags i', d.fit x, d.tags x, d.timely x);
  taken = λ i'. grind (arith, nat_tests, d.taken i', d.fit x, d.tags x, d.timely x);
  timely = λ i'. grind (arith, nat_tests, d.timely i', d.fit x, d.tags x, d.timely x);
  clock = grind (arith, nat_tests, d.clock, d.fit x, d.tags x, d.timely x);
  eras = λ i'. grind (arith, nat_tests, d.eras i', d.fit x, d.tags x, d.timely x);
  helpers = λ i'. grind (arith, nat_tests, d.helpers i', d.fit x, d.tags x, d.timely x);
  indexes = λ i' j'. grind (arith, nat_tests, d.indexes i' j', d.fit x, d.tags x, d.timely x);
  movers = λ i' hh. grind (arith, nat_tests, d.movers i', d.fit x, d.tags x, d.timely x);
  links = λ i'. grind (arith, nat_tests, d.links i', d.fit x, d.tags x, d.timely x);
  shown = λ i'. grind (arith, nat_tests, d.shown i', d.fit x, d.tags x, d.timely x);
  published = λ i'. grind (arith, nat_tests, d.published i', d.fit x, d.tags x, d.timely x);
  turns = λ i'. grind (arith, nat_tests, d.turns i', d.fit x, d.tags x, d.timely x);
  low = λ i' j'. grind (arith, nat_tests, d.low i' j', d.fit x, d.tags x, d.timely x);
  spare = λ i'. grind (arith, nat_tests, d.spare i', d.fit x, d.tags x, d.timely x);
  answer = λ i'. grind (arith, nat_tests, d.answer i', d.fit x, d.tags x, d.timely x);
  known = λ m'. grind (arith, nat_tests, d.known m', d.fit x, d.tags x, d.timely x);
  whom = λ m'. grind (arith, nat_tests, d.whom m', d.fit x, d.tags x, d.timely x);
  bound = λ i' hh hg. grind (arith, nat_tests, d.bound i', d.fit x, d.tags x, d.timely x);
  passed = λ i' m' hh hg ha hb. grind (arith, nat_tests, d.passed i' m', d.fit x, d.tags x, d.timely x);
  outside = λ i' hh. grind (arith, nat_tests, d.outside i', d.fit x, d.tags x, d.timely x);
}

pub counts-keeps : (c : Config) (v : View) (x j w : ℕ) → x < c.seats → Parts c v → v.role x ≡ Asked j w → Parts c (record v { role = upd v.role x (Turns j w v.clock v.clock false) })
counts-keeps c v x j w b d q = record {
  fit = λ i'. grind (arith, nat_tests, d.fit i', d.fit x);
  marks = λ i' j'. grind (arith, nat_tests, d.marks i' j', d.fit x);
  tags = λ i'. grind (arith, nat_tests, d.tags i', d.fit x);
  taken = λ i'. grind (arith, nat_tests, d.taken i', d.fit x);
  timely = λ i'. grind (arith, nat_tests, d.timely i', d.fit x);
  clock = grind (arith, nat_tests, d.clock, d.fit x);
  eras = λ i'. grind (arith, nat_tests, d.eras i', d.fit x);
  helpers = λ i'. grind (arith, nat_tests, d.helpers i', d.fit x);
  indexes = λ i' j'. grind (arith, nat_tests, d.indexes i' j', d.fit x);
  movers = λ i' hh. grind (arith, nat_tests, d.movers i', d.fit x);
  links = λ i'. grind (arith, nat_tests, d.links i', d.fit x);
  shown = λ i'. grind (arith, nat_tests, d.shown i', d.fit x);
  published = λ i'. grind (arith, nat_tests, d.published i', d.fit x);
  turns = λ i'. grind (arith, nat_tests, d.turns i', d.fit x);
  low = λ i' j'. grind (arith, nat_tests, d.low i' j', d.fit x);
  spare = λ i'. grind (arith, nat_tests, d.spare i', d.fit x);
  answer = λ i'. grind (arith, nat_tests, d.answer i', d.fit x);
  known = λ m'. grind (arith, nat_tests, d.known m', d.fit x);
  whom = λ m'. grind (arith, nat_tests, d.whom m', d.fit x);
  bound = λ i' hh hg. grind (arith, nat_tests, d.bound i', d.fit x);
  passed = λ i' m' hh hg ha hb. grind (arith, nat_tests, d.passed i' m', d.fit x);
  outside = λ i' hh. grind (arith, nat_tests, d.outside i', d.fit x);
}

pub shows_first-keeps : (c : Config) (v : View) (x j w f e : ℕ) → x < c.seats → Parts c v → v.role x ≡ Turns j w f e false → Parts c (record v { helper = upd v.helper x e; role = upd v.role x (Looks j w f e false 0) })
shows_first-keeps c v x j w f e b d q = record {
  fit = λ i'. grind (arith, nat_tests, d.fit i', d.fit x);
  marks = λ i' j'. grind (arith, nat_tests, d.marks i' j', d.fit x);
  tags = λ i'. grind (arith, nat_tests, d.tags i', d.fit x);
  taken = λ i'. grind (arith, nat_tests, d.taken i', d.fit x);
  timely = λ i'. grind (arith, nat_tests, d.timely i', d.fit x);
  clock = grind (arith, nat_tests, d.clock, d.fit x);
  eras = λ i'. grind (arith, nat_tests, d.eras i', d.fit x);
  helpers = λ i'. grind (arith, nat_tests, d.helpers i', d.fit x);
  indexes = λ i' j'. grind (arith, nat_tests, d.indexes i' j', d.fit x);
  movers = λ i' hh. grind (arith, nat_tests, d.movers i', d.fit x);
  links = λ i'. grind (arith, nat_tests, d.links i', d.fit x);
  shown = λ i'. grind (arith, nat_tests, d.shown i', d.fit x);
  published = λ i'. grind (arith, nat_tests, d.published i', d.fit x);
  turns = λ i'. grind (arith, nat_tests, d.turns i', d.fit x);
  low = λ i' j'. grind (arith, nat_tests, d.low i' j', d.fit x);
  spare = λ i'. grind (arith, nat_tests, d.spare i', d.fit x);
  answer = λ i'. grind (arith, nat_tests, d.answer i', d.fit x);
  known = λ m'. grind (arith, nat_tests, d.known m', d.fit x);
  whom = λ m'. grind (arith, nat_tests, d.whom m', d.fit x);
  bound = λ i' hh hg. grind (arith, nat_tests, d.bound i', d.fit x);
  passed = λ i' m' hh hg ha hb. grind (arith, nat_tests, d.passed i' m', d.fit x);
  outside = λ i' hh. grind (arith, nat_tests, d.outside i', d.fit x);
}

pub looks_first-keeps : (c : Config) (v : View) (x j w f e l s : ℕ) → x < c.seats → Parts c v → v.role x ≡ Looks j w f e false l → s ≤ c.slots + 1 → Parts c (record v { role = upd v.role x (Looks j w f e false s) })
looks_first-keeps c v x j w f e l s b d q p0 = record {
  fit = λ i'. grind (arith, nat_tests, d.fit i', d.fit x);
  marks = λ i' j'. grind (arith, nat_tests, d.marks i' j', d.fit x);
  tags = λ i'. grind (arith, nat_tests, d.tags i', d.fit x);
  taken = λ i'. grind (arith, nat_tests, d.taken i', d.fit x);
  timely = λ i'. grind (arith, nat_tests, d.timely i', d.fit x);
  clock = grind (arith, nat_tests, d.clock, d.fit x);
  eras = λ i'. grind (arith, nat_tests, d.eras i', d.fit x);
  helpers = λ i'. grind (arith, nat_tests, d.helpers i', d.fit x);
  indexes = λ i' j'. grind (arith, nat_tests, d.indexes i' j', d.fit x);
  movers = λ i' hh. grind (arith, nat_tests, d.movers i', d.fit x);
  links = λ i'. grind (arith, nat_tests, d.links i', d.fit x);
  shown = λ i'. grind (arith, nat_tests, d.shown i', d.fit x);
  published = λ i'. grind (arith, nat_tests, d.published i', d.fit x);
  turns = λ i'. grind (arith, nat_tests, d.turns i', d.fit x);
  low = λ i' j'. grind (arith, nat_tests, d.low i' j', d.fit x);
  spare = λ i'. grind (arith, nat_tests, d.spare i', d.fit x);
  answer = λ i'. grind (arith, nat_tests, d.answer i', d.fit x);
  known = λ m'. grind (arith, nat_tests, d.known m', d.fit x);
  whom = λ m'. grind (arith, nat_tests, d.whom m', d.fit x);
  bound = λ i' hh hg. grind (arith, nat_tests, d.bound i', d.fit x);
  passed = λ i' m' hh hg ha hb. grind (arith, nat_tests, d.passed i' m', d.fit x);
  outside = λ i' hh. grind (arith, nat_tests, d.outside i', d.fit x);
}

pub sees_first-keeps : (c : Config) (v : View) (x j w f e l : ℕ) → x < c.seats → Parts c v → v.role x ≡ Looks j w f e false l → (v.clock == e) ≡ true → Parts c (record v { role = upd v.role x (Answers j w f e l) })
sees_first-keeps c v x j w f e l b d q p0 = record {
  fit = λ i'. grind (arith, nat_tests, d.fit i', d.fit x);
  marks = λ i' j'. grind (arith, nat_tests, d.marks i' j', d.fit x);
  tags = λ i'. grind (arith, nat_tests, d.tags i', d.fit x);
  taken = λ i'. grind (arith, nat_tests, d.taken i', d.fit x);
  timely = λ i'. grind (arith, nat_tests, d.timely i', d.fit x);
  clock = grind (arith, nat_tests, d.clock, d.fit x);
  eras = λ i'. grind (arith, nat_tests, d.eras i', d.fit x);
  helpers = λ i'. grind (arith, nat_tests, d.helpers i', d.fit x);
  indexes = λ i' j'. grind (arith, nat_tests, d.indexes i' j', d.fit x);
  movers = λ i' hh. grind (arith, nat_tests, d.movers i', d.fit x);
  links = λ i'. grind (arith, nat_tests, d.links i', d.fit x);
  shown = λ i'. grind (arith, nat_tests, d.shown i', d.fit x);
  published = λ i'. grind (arith, nat_tests, d.published i', d.fit x);
  turns = λ i'. grind (arith, nat_tests, d.turns i', d.fit x);
  low = λ i' j'. grind (arith, nat_tests, d.low i' j', d.fit x);
  spare = λ i'. grind (arith, nat_tests, d.spare i', d.fit x);
  answer = λ i'. grind (arith, nat_tests, d.answer i', d.fit x);
  known = λ m'. grind (arith, nat_tests, d.known m', d.fit x);
  whom = λ m'. grind (arith, nat_tests, d.whom m', d.fit x);
  bound = λ i' hh hg. grind (arith, nat_tests, d.bound i', d.fit x);
  passed = λ i' m' hh hg ha hb. grind (arith, nat_tests, d.passed i' m', d.fit x);
  outside = λ i' hh. grind (arith, nat_tests, d.outside i', d.fit x);
}

pub shows_last-keeps : (c : Config) (v : View) (x j w f e : ℕ) → x < c.seats → Parts c v → v.role x ≡ Turns j w f e true → Parts c (record v { helper = upd v.helper x e; role = upd v.role x (Looks j w f e true 0) })
shows_last-keeps c v x j w f e b d q = record {
  fit = λ i'. grind (arith, nat_tests, d.fit i', d.fit x);
  marks = λ i' j'. grind (arith, nat_tests, d.marks i' j', d.fit x);
  tags = λ i'. grind (arith, nat_tests, d.tags i', d.fit x);
  taken = λ i'. grind (arith, nat_tests, d.taken i', d.fit x);
  timely = λ i'. grind (arith, nat_tests, d.timely i', d.fit x);
  clock = grind (arith, nat_tests, d.clock, d.fit x);
  eras = λ i'. grind (arith, nat_tests, d.eras i', d.fit x);
  helpers = λ i'. grind (arith, nat_tests, d.helpers i', d.fit x);
  indexes = λ i' j'. grind (arith, nat_tests, d.indexes i' j', d.fit x);
  movers = λ i' hh. grind (arith, nat_tests, d.movers i', d.fit x);
  links = λ i'. grind (arith, nat_tests, d.links i', d.fit x);
  shown = λ i'. grind (arith, nat_tests, d.shown i', d.fit x);
  published = λ i'. grind (arith, nat_tests, d.published i', d.fit x);
  turns = λ i'. grind (arith, nat_tests, d.turns i', d.fit x);
  low = λ i' j'. grind (arith, nat_tests, d.low i' j', d.fit x);
  spare = λ i'. grind (arith, nat_tests, d.spare i', d.fit x);
  answer = λ i'. grind (arith, nat_tests, d.answer i', d.fit x);
  known = λ m'. grind (arith, nat_tests, d.known m', d.fit x);
  whom = λ m'. grind (arith, nat_tests, d.whom m', d.fit x);
  bound = λ i' hh hg. grind (arith, nat_tests, d.bound i', d.fit x);
  passed = λ i' m' hh hg ha hb. grind (arith, nat_tests, d.passed i' m', d.fit x);
  outside = λ i' hh. grind (arith, nat_tests, d.outside i', d.fit x);
}

pub looks_last-keeps : (c : Config) (v : View) (x j w f e l s : ℕ) → x < c.seats → Parts c v → v.role x ≡ Looks j w f e true l → s ≤ c.slots + 1 → Parts c (record v { role = upd v.role x (Looks j w f e true s) })
looks_last-keeps c v x j w f e l s b d q p0 = record {
  fit = λ i'. grind (arith, nat_tests, d.fit i', d.fit x);
  marks = λ i' j'. grind (arith, nat_tests, d.marks i' j', d.fit x);
  tags = λ i'. grind (arith, nat_tests, d.tags i', d.fit x);
  taken = λ i'. grind (arith, nat_tests, d.taken i', d.fit x);
  timely = λ i'. grind (arith, nat_tests, d.timely i', d.fit x);
  clock = grind (arith, nat_tests, d.clock, d.fit x);
  eras = λ i'. grind (arith, nat_tests, d.eras i', d.fit x);
  helpers = λ i'. grind (arith, nat_tests, d.helpers i', d.fit x);
  indexes = λ i' j'. grind (arith, nat_tests, d.indexes i' j', d.fit x);
  movers = λ i' hh. grind (arith, nat_tests, d.movers i', d.fit x);
  links = λ i'. grind (arith, nat_tests, d.links i', d.fit x);
  shown = λ i'. grind (arith, nat_tests, d.shown i', d.fit x);
  published = λ i'. grind (arith, nat_tests, d.published i', d.fit x);
  turns = λ i'. grind (arith, nat_tests, d.turns i', d.fit x);
  low = λ i' j'. grind (arith, nat_tests, d.low i' j', d.fit x);
  spare = λ i'. grind (arith, nat_tests, d.spare i', d.fit x);
  answer = λ i'. grind (arith, nat_tests, d.answer i', d.fit x);
  known = λ m'. grind (arith, nat_tests, d.known m', d.fit x);
  whom = λ m'. grind (arith, nat_tests, d.whom m', d.fit x);
  bound = λ i' hh hg. grind (arith, nat_tests, d.bound i', d.fit x);
  passed = λ i' m' hh hg ha hb. grind (arith, nat_tests, d.passed i' m', d.fit x);
  outside = λ i' hh. grind (arith, nat_tests, d.outside i', d.fit x);
}

pub sees_last-keeps : (c : Config) (v : View) (x j w f e l : ℕ) → x < c.seats → Parts c v → v.role x ≡ Looks j w f e true l → (v.clock == e) ≡ true → Parts c (record v { role = upd v.role x (Answers j w f e l) })
sees_last-keeps c v x j w f e l b d q p0 = record {
  fit = λ i'. grind (arith, nat_tests, d.fit i', d.fit x);
  marks = λ i' j'. grind (arith, nat_tests, d.marks i' j', d.fit x);
  tags = λ i'. grind (arith, nat_tests, d.tags i', d.fit x);
  taken = λ i'. grind (arith, nat_tests, d.taken i', d.fit x);
  timely = λ i'. grind (arith, nat_tests, d.timely i', d.fit x);
  clock = grind (arith, nat_tests, d.clock, d.fit x);
  eras = λ i'. grind (arith, nat_tests, d.eras i', d.fit x);
  helpers = λ i'. grind (arith, nat_tests, d.helpers i', d.fit x);
  indexes = λ i' j'. grind (arith, nat_tests, d.indexes i' j', d.fit x);
  movers = λ i' hh. grind (arith, nat_tests, d.movers i', d.fit x);
  links = λ i'. grind (arith, nat_tests, d.links i', d.fit x);
  shown = λ i'. grind (arith, nat_tests, d.shown i', d.fit x);
  published = λ i'. grind (arith, nat_tests, d.published i', d.fit x);
  turns = λ i'. grind (arith, nat_tests, d.turns i', d.fit x);
  low = λ i' j'. grind (arith, nat_tests, d.low i' j', d.fit x);
  spare = λ i'. grind (arith, nat_tests, d.spare i', d.fit x);
  answer = λ i'. grind (arith, nat_tests, d.answer i', d.fit x);
  known = λ m'. grind (arith, nat_tests, d.known m', d.fit x);
  whom = λ m'. grind (arith, nat_tests, d.whom m', d.fit x);
  bound = λ i' hh hg. grind (arith, nat_tests, d.bound i', d.fit x);
  passed = λ i' m' hh hg ha hb. grind (arith, nat_tests, d.passed i' m', d.fit x);
  outside = λ i' hh. grind (arith, nat_tests, d.outside i', d.fit x);
}

pub turns_again-keeps : (c : Config) (v : View) (x j w f e l : ℕ) → x < c.seats → Parts c v → v.role x ≡ Looks j w f e false l → (v.clock == e) ≡ false → Parts c (record v { role = upd v.role x (Turns j w f v.clock true) })
turns_again-keeps c v x j w f e l b d q p0 = record {
  fit = λ i'. grind (arith, nat_tests, d.fit i', d.fit x);
  marks = λ i' j'. grind (arith, nat_tests, d.marks i' j', d.fit x);
  tags = λ i'. grind (arith, nat_tests, d.tags i', d.fit x);
  taken = λ i'. grind (arith, nat_tests, d.taken i', d.fit x);
  timely = λ i'. grind (arith, nat_tests, d.timely i', d.fit x);
  clock = grind (arith, nat_tests, d.clock, d.fit x);
  eras = λ i'. grind (arith, nat_tests, d.eras i', d.fit x);
  helpers = λ i'. grind (arith, nat_tests, d.helpers i', d.fit x);
  indexes = λ i' j'. grind (arith, nat_tests, d.indexes i' j', d.fit x);
  movers = λ i' hh. grind (arith, nat_tests, d.movers i', d.fit x);
  links = λ i'. grind (arith, nat_tests, d.links i', d.fit x);
  shown = λ i'. grind (arith, nat_tests, d.shown i', d.fit x);
  published = λ i'. grind (arith, nat_tests, d.published i', d.fit x);
  turns = λ i'. grind (arith, nat_tests, d.turns i', d.fit x);
  low = λ i' j'. grind (arith, nat_tests, d.low i' j', d.fit x);
  spare = λ i'. grind (arith, nat_tests, d.spare i', d.fit x);
  answer = λ i'. grind (arith, nat_tests, d.answer i', d.fit x);
  known = λ m'. grind (arith, nat_tests, d.known m', d.fit x);
  whom = λ m'. grind (arith, nat_tests, d.whom m', d.fit x);
  bound = λ i' hh hg. grind (arith, nat_tests, d.bound i', d.fit x);
  passed = λ i' m' hh hg ha hb. grind (arith, nat_tests, d.passed i' m', d.fit x);
  outside = λ i' hh. grind (arith, nat_tests, d.outside i', d.fit x);
}

pub loses-keeps : (c : Config) (v : View) (x j w f e l : ℕ) → x < c.seats → Parts c v → v.role x ≡ Looks j w f e true l → (v.clock == e) ≡ false → Parts c (record v { role = upd v.role x (Waits j w) })
loses-keeps c v x j w f e l b d q p0 = record {
  fit = λ i'. grind (arith, nat_tests, d.fit i', d.fit x, d.bound x, d.turns x, d.eras x);
  marks = λ i' j'. grind (arith, nat_tests, d.marks i' j', d.fit x, d.bound x, d.turns x, d.eras x);
  tags = λ i'. grind (arith, nat_tests, d.tags i', d.fit x, d.bound x, d.turns x, d.eras x);
  taken = λ i'. grind (arith, nat_tests, d.taken i', d.fit x, d.bound x, d.turns x, d.eras x);
  timely = λ i'. grind (arith, nat_tests, d.timely i', d.fit x, d.bound x, d.turns x, d.eras x);
  clock = grind (arith, nat_tests, d.clock, d.fit x, d.bound x, d.turns x, d.eras x);
  eras = λ i'. grind (arith, nat_tests, d.eras i', d.fit x, d.bound x, d.turns x, d.eras x);
  helpers = λ i'. grind (arith, nat_tests, d.helpers i', d.fit x, d.bound x, d.turns x, d.eras x);
  indexes = λ i' j'. grind (arith, nat_tests, d.indexes i' j', d.fit x, d.bound x, d.turns x, d.eras x);
  movers = λ i' hh. grind (arith, nat_tests, d.movers i', d.fit x, d.bound x, d.turns x, d.eras x);
  links = λ i'. grind (arith, nat_tests, d.links i', d.fit x, d.bound x, d.turns x, d.eras x);
  shown = λ i'. grind (arith, nat_tests, d.shown i', d.fit x, d.bound x, d.turns x, d.eras x);
  published = λ i'. grind (arith, nat_tests, d.published i', d.fit x, d.bound x, d.turns x, d.eras x);
  turns = λ i'. grind (arith, nat_tests, d.turns i', d.fit x, d.bound x, d.turns x, d.eras x);
  low = λ i' j'. grind (arith, nat_tests, d.low i' j', d.fit x, d.bound x, d.turns x, d.eras x);
  spare = λ i'. grind (arith, nat_tests, d.spare i', d.fit x, d.bound x, d.turns x, d.eras x);
  answer = λ i'. grind (arith, nat_tests, d.answer i', d.fit x, d.bound x, d.turns x, d.eras x);
  known = λ m'. grind (arith, nat_tests, d.known m', d.fit x, d.bound x, d.turns x, d.eras x);
  whom = λ m'. grind (arith, nat_tests, d.whom m', d.fit x, d.bound x, d.turns x, d.eras x);
  bound = λ i' hh hg. grind (arith, nat_tests, d.bound i', d.fit x, d.bound x, d.turns x, d.eras x);
  passed = λ i' m' hh hg ha hb. grind (arith, nat_tests, d.passed i' m', d.fit x, d.bound x, d.turns x, d.eras x);
  outside = λ i' hh. grind (arith, nat_tests, d.outside i', d.fit x, d.bound x, d.turns x, d.eras x);
}

pub answers-keeps : (c : Config) (v : View) (x t j w f e l : ℕ) → x < c.seats → Parts c v → v.role x ≡ Answers j w f e l → v.deal x ≡ Open t j w → Parts c (record v { deal = upd v.deal x (Answered t j w l e x); role = upd v.role x (Takes j w l e) })
answers-keeps c v x t j w f e l b d q p0 = record {
  fit = λ i'. grind (arith, nat_tests, d.fit i', d.fit x, d.tags x, d.timely x);
  marks = λ i' j'. grind (arith, nat_tests, d.marks i' j', d.fit x, d.tags x, d.timely x);
  tags = λ i'. grind (arith, nat_tests, d.tags i', d.fit x, d.tags x, d.timely x);
  taken = λ i'. grind (arith, nat_tests, d.taken i', d.fit x, d.tags x, d.timely x);
  timely = λ i'. grind (arith, nat_tests, d.timely i', d.fit x, d.tags x, d.timely x);
  clock = grind (arith, nat_tests, d.clock, d.fit x, d.tags x, d.timely x);
  eras = λ i'. grind (arith, nat_tests, d.eras i', d.fit x, d.tags x, d.timely x);
  helpers = λ i'. grind (arith, nat_tests, d.helpers i', d.fit x, d.tags x, d.timely x);
  indexes = λ i' j'. grind (arith, nat_tests, d.indexes i' j', d.fit x, d.tags x, d.timely x);
  movers = λ i' hh. grind (arith, nat_tests, d.movers i', d.fit x, d.tags x, d.timely x);
  links = λ i'. grind (arith, nat_tests, d.links i', d.fit x, d.tags x, d.timely x);
  shown = λ i'. grind (arith, nat_tests, d.shown i', d.fit x, d.tags x, d.timely x);
  published = λ i'. grind (arith, nat_tests, d.published i', d.fit x, d.tags x, d.timely x);
  turns = λ i'. grind (arith, nat_tests, d.turns i', d.fit x, d.tags x, d.timely x);
  low = λ i' j'. grind (arith, nat_tests, d.low i' j', d.fit x, d.tags x, d.timely x);
  spare = λ i'. grind (arith, nat_tests, d.spare i', d.fit x, d.tags x, d.timely x);
  answer = λ i'. grind (arith, nat_tests, d.answer i', d.fit x, d.tags x, d.timely x);
  known = λ m'. grind (arith, nat_tests, d.known m', d.fit x, d.tags x, d.timely x);
  whom = λ m'. grind (arith, nat_tests, d.whom m', d.fit x, d.tags x, d.timely x);
  bound = λ i' hh hg. grind (arith, nat_tests, d.bound i', d.fit x, d.tags x, d.timely x);
  passed = λ i' m' hh hg ha hb. grind (arith, nat_tests, d.passed i' m', d.fit x, d.tags x, d.timely x);
  outside = λ i' hh. grind (arith, nat_tests, d.outside i', d.fit x, d.tags x, d.timely x);
}

pub finds-keeps : (c : Config) (v : View) (x j w f e l s r : ℕ) → x < c.seats → Parts c v → v.role x ≡ Answers j w f e l → answered_with j w s r (v.deal x) ≡ true → Parts c (record v { role = upd v.role x (Takes j w s r) })
finds-keeps c v x j w f e l s r b d q p0 = record {
  fit = λ i'. grind (arith, nat_tests, d.fit i', d.fit x, d.tags x, d.timely x);
  marks = λ i' j'. grind (arith, nat_tests, d.marks i' j', d.fit x, d.tags x, d.timely x);
  tags = λ i'. grind (arith, nat_tests, d.tags i', d.fit x, d.tags x, d.timely x);
  taken = λ i'. grind (arith, nat_tests, d.taken i', d.fit x, d.tags x, d.timely x);
  timely = λ i'. grind (arith, nat_tests, d.timely i', d.fit x, d.tags x, d.timely x);
  clock = grind (arith, nat_tests, d.clock, d.fit x, d.tags x, d.timely x);
  eras = λ i'. grind (arith, nat_tests, d.eras i', d.fit x, d.tags x, d.timely x);
  helpers = λ i'. grind (arith, nat_tests, d.helpers i', d.fit x, d.tags x, d.timely x);
  indexes = λ i' j'. grind (arith, nat_tests, d.indexes i' j', d.fit x, d.tags x, d.timely x);
  movers = λ i' hh. grind (arith, nat_tests, d.movers i', d.fit x, d.tags x, d.timely x);
  links = λ i'. grind (arith, nat_tests, d.links i', d.fit x, d.tags x, d.timely x);
  shown = λ i'. grind (arith, nat_tests, d.shown i', d.fit x, d.tags x, d.timely x);
  published = λ i'. grind (arith, nat_tests, d.published i', d.fit x, d.tags x, d.timely x);
  turns = λ i'. grind (arith, nat_tests, d.turns i', d.fit x, d.tags x, d.timely x);
  low = λ i' j'. grind (arith, nat_tests, d.low i' j', d.fit x, d.tags x, d.timely x);
  spare = λ i'. grind (arith, nat_tests, d.spare i', d.fit x, d.tags x, d.timely x);
  answer = λ i'. grind (arith, nat_tests, d.answer i', d.fit x, d.tags x, d.timely x);
  known = λ m'. grind (arith, nat_tests, d.known m', d.fit x, d.tags x, d.timely x);
  whom = λ m'. grind (arith, nat_tests, d.whom m', d.fit x, d.tags x, d.timely x);
  bound = λ i' hh hg. grind (arith, nat_tests, d.bound i', d.fit x, d.tags x, d.timely x);
  passed = λ i' m' hh hg ha hb. grind (arith, nat_tests, d.passed i' m', d.fit x, d.tags x, d.timely x);
  outside = λ i' hh. grind (arith, nat_tests, d.outside i', d.fit x, d.tags x, d.timely x);
}

pub hears-keeps : (c : Config) (v : View) (x j w s r : ℕ) → x < c.seats → Parts c v → v.role x ≡ Waits j w → answered_with j w s r (v.deal x) ≡ true → Parts c (record v { role = upd v.role x (Takes j w s r) })
hears-keeps c v x j w s r b d q p0 = record {
  fit = λ i'. grind (arith, nat_tests, d.fit i', d.fit x, d.tags x, d.timely x);
  marks = λ i' j'. grind (arith, nat_tests, d.marks i' j', d.fit x, d.tags x, d.timely x);
  tags = λ i'. grind (arith, nat_tests, d.tags i', d.fit x, d.tags x, d.timely x);
  taken = λ i'. grind (arith, nat_tests, d.taken i', d.fit x, d.tags x, d.timely x);
  timely = λ i'. grind (arith, nat_tests, d.timely i', d.fit x, d.tags x, d.timely x);
  clock = grind (arith, nat_tests, d.clock, d.fit x, d.tags x, d.timely x);
  eras = λ i'. grind (arith, nat_tests, d.eras i', d.fit x, d.tags x, d.timely x);
  helpers = λ i'. grind (arith, nat_tests, d.helpers i', d.fit x, d.tags x, d.timely x);
  indexes = λ i' j'. grind (arith, nat_tests, d.indexes i' j', d.fit x, d.tags x, d.timely x);
  movers = λ i' hh. grind (arith, nat_tests, d.movers i', d.fit x, d.tags x, d.timely x);
  links = λ i'. grind (arith, nat_tests, d.links i', d.fit x, d.tags x, d.timely x);
  shown = λ i'. grind (arith, nat_tests, d.shown i', d.fit x, d.tags x, d.timely x);
  published = λ i'. grind (arith, nat_tests, d.published i', d.fit x, d.tags x, d.timely x);
  turns = λ i'. grind (arith, nat_tests, d.turns i', d.fit x, d.tags x, d.timely x);
  low = λ i' j'. grind (arith, nat_tests, d.low i' j', d.fit x, d.tags x, d.timely x);
  spare = λ i'. grind (arith, nat_tests, d.spare i', d.fit x, d.tags x, d.timely x);
  answer = λ i'. grind (arith, nat_tests, d.answer i', d.fit x, d.tags x, d.timely x);
  known = λ m'. grind (arith, nat_tests, d.known m', d.fit x, d.tags x, d.timely x);
  whom = λ m'. grind (arith, nat_tests, d.whom m', d.fit x, d.tags x, d.timely x);
  bound = λ i' hh hg. grind (arith, nat_tests, d.bound i', d.fit x, d.tags x, d.timely x);
  passed = λ i' m' hh hg ha hb. grind (arith, nat_tests, d.passed i' m', d.fit x, d.tags x, d.timely x);
  outside = λ i' hh. grind (arith, nat_tests, d.outside i', d.fit x, d.tags x, d.timely x);
}

pub takes_back-keeps : (c : Config) (v : View) (x t j w l e m : ℕ) → x < c.seats → Parts c v → v.role x ≡ Takes j w l e → v.deal x ≡ Answered t j w l e m → Parts c (record v { era = upd2 v.era x j e; mark = upd2 v.mark x j (t + 1); tag = upd2 v.tag x j (t + 1); deal = upd v.deal x (Taken t j w l e); role = upd v.role x (Took j w l e) })
takes_back-keeps c v x t j w l e m b d q p0 = record {
  fit = λ i'. grind (arith, nat_tests, d.fit i', d.fit x, d.tags x, d.timely x);
  marks = λ i' j'. grind (arith, nat_tests, d.marks i' j', d.fit x, d.tags x, d.timely x);
  tags = λ i'. grind (arith, nat_tests, d.tags i', d.fit x, d.tags x, d.timely x);
  taken = λ i'. grind (arith, nat_tests, d.taken i', d.fit x, d.tags x, d.timely x);
  timely = λ i'. grind (arith, nat_tests, d.timely i', d.fit x, d.tags x, d.timely x);
  clock = grind (arith, nat_tests, d.clock, d.fit x, d.tags x, d.timely x);
  eras = λ i'. grind (arith, nat_tests, d.eras i', d.fit x, d.tags x, d.timely x);
  helpers = λ i'. grind (arith, nat_tests, d.helpers i', d.fit x, d.tags x, d.timely x);
  indexes = λ i' j'. grind (arith, nat_tests, d.indexes i' j', d.fit x, d.tags x, d.timely x);
  movers = λ i' hh. grind (arith, nat_tests, d.movers i', d.fit x, d.tags x, d.timely x);
  links = λ i'. grind (arith, nat_tests, d.links i', d.fit x, d.tags x, d.timely x);
  shown = λ i'. grind (arith, nat_tests, d.shown i', d.fit x, d.tags x, d.timely x);
  published = λ i'. grind (arith, nat_tests, d.published i', d.fit x, d.tags x, d.timely x);
  turns = λ i'. grind (arith, nat_tests, d.turns i', d.fit x, d.tags x, d.timely x);
  low = λ i' j'. grind (arith, nat_tests, d.low i' j', d.fit x, d.tags x, d.timely x);
  spare = λ i'. grind (arith, nat_tests, d.spare i', d.fit x, d.tags x, d.timely x);
  answer = λ i'. grind (arith, nat_tests, d.answer i', d.fit x, d.tags x, d.timely x);
  known = λ m'. grind (arith, nat_tests, d.known m', d.fit x, d.tags x, d.timely x);
  whom = λ m'. grind (arith, nat_tests, d.whom m', d.fit x, d.tags x, d.timely x);
  bound = λ i' hh hg. grind (arith, nat_tests, d.bound i', d.fit x, d.tags x, d.timely x);
  passed = λ i' m' hh hg ha hb. grind (arith, nat_tests, d.passed i' m', d.fit x, d.tags x, d.timely x);
  outside = λ i' hh. grind (arith, nat_tests, d.outside i', d.fit x, d.tags x, d.timely x);
}

pub takes_over-keeps : (c : Config) (v : View) (x t j w l e : ℕ) → x < c.seats → Parts c v → v.role x ≡ Takes j w l e → v.deal x ≡ Passed t j w l e → Parts c (record v { era = upd2 v.era x j e; mark = upd2 v.mark x j (t + 1); tag = upd2 v.tag x j (t + 1); deal = upd v.deal x (Taken t j w l e); role = upd v.role x (Took j w l e) })
takes_over-keeps c v x t j w l e b d q p0 = record {
  fit = λ i'. grind (arith, nat_tests, d.fit i', d.fit x, d.tags x, d.timely x);
  marks = λ i' j'. grind (arith, nat_tests, d.marks i' j', d.fit x, d.tags x, d.timely x);
  tags = λ i'. grind (arith, nat_tests, d.tags i', d.fit x, d.tags x, d.timely x);
  taken = λ i'. grind (arith, nat_tests, d.taken i', d.fit x, d.tags x, d.timely x);
  timely = λ i'. grind (arith, nat_tests, d.timely i', d.fit x, d.tags x, d.timely x);
  clock = grind (arith, nat_tests, d.clock, d.fit x, d.tags x, d.timely x);
  eras = λ i'. grind (arith, nat_tests, d.eras i', d.fit x, d.tags x, d.timely x);
  helpers = λ i'. grind (arith, nat_tests, d.helpers i', d.fit x, d.tags x, d.timely x);
  indexes = λ i' j'. grind (arith, nat_tests, d.indexes i' j', d.fit x, d.tags x, d.timely x);
  movers = λ i' hh. grind (arith, nat_tests, d.movers i', d.fit x, d.tags x, d.timely x);
  links = λ i'. grind (arith, nat_tests, d.links i', d.fit x, d.tags x, d.timely x);
  shown = λ i'. grind (arith, nat_tests, d.shown i', d.fit x, d.tags x, d.timely x);
  published = λ i'. grind (arith, nat_tests, d.published i', d.fit x, d.tags x, d.timely x);
  turns = λ i'. grind (arith, nat_tests, d.turns i', d.fit x, d.tags x, d.timely x);
  low = λ i' j'. grind (arith, nat_tests, d.low i' j', d.fit x, d.tags x, d.timely x);
  spare = λ i'. grind (arith, nat_tests, d.spare i', d.fit x, d.tags x, d.timely x);
  answer = λ i'. grind (arith, nat_tests, d.answer i', d.fit x, d.tags x, d.timely x);
  known = λ m'. grind (arith, nat_tests, d.known m', d.fit x, d.tags x, d.timely x);
  whom = λ m'. grind (arith, nat_tests, d.whom m', d.fit x, d.tags x, d.timely x);
  bound = λ i' hh hg. grind (arith, nat_tests, d.bound i', d.fit x, d.tags x, d.timely x);
  passed = λ i' m' hh hg ha hb. grind (arith, nat_tests, d.passed i' m', d.fit x, d.tags x, d.timely x);
  outside = λ i' hh. grind (arith, nat_tests, d.outside i', d.fit x, d.tags x, d.timely x);
}

pub withdraws-keeps : (c : Config) (v : View) (x j w l e : ℕ) → x < c.seats → Parts c v → v.role x ≡ Took j w l e → Parts c (record v { deal = upd v.deal x Quiet; role = upd v.role x (Leaves j l e) })
withdraws-keeps c v x j w l e b d q = record {
  fit = λ i'. grind (arith, nat_tests, d.fit i', d.fit x, d.tags x, d.timely x);
  marks = λ i' j'. grind (arith, nat_tests, d.marks i' j', d.fit x, d.tags x, d.timely x);
  tags = λ i'. grind (arith, nat_tests, d.tags i', d.fit x, d.tags x, d.timely x);
  taken = λ i'. grind (arith, nat_tests, d.taken i', d.fit x, d.tags x, d.timely x);
  timely = λ i'. grind (arith, nat_tests, d.timely i', d.fit x, d.tags x, d.timely x);
  clock = grind (arith, nat_tests, d.clock, d.fit x, d.tags x, d.timely x);
  eras = λ i'. grind (arith, nat_tests, d.eras i', d.fit x, d.tags x, d.timely x);
  helpers = λ i'. grind (arith, nat_tests, d.helpers i', d.fit x, d.tags x, d.timely x);
  indexes = λ i' j'. grind (arith, nat_tests, d.indexes i' j', d.fit x, d.tags x, d.timely x);
  movers = λ i' hh. grind (arith, nat_tests, d.movers i', d.fit x, d.tags x, d.timely x);
  links = λ i'. grind (arith, nat_tests, d.links i', d.fit x, d.tags x, d.timely x);
  shown = λ i'. grind (arith, nat_tests, d.shown i', d.fit x, d.tags x, d.timely x);
  published = λ i'. grind (arith, nat_tests, d.published i', d.fit x, d.tags x, d.timely x);
  turns = λ i'. grind (arith, nat_tests, d.turns i', d.fit x, d.tags x, d.timely x);
  low = λ i' j'. grind (arith, nat_tests, d.low i' j', d.fit x, d.tags x, d.timely x);
  spare = λ i'. grind (arith, nat_tests, d.spare i', d.fit x, d.tags x, d.timely x);
  answer = λ i'. grind (arith, nat_tests, d.answer i', d.fit x, d.tags x, d.timely x);
  known = λ m'. grind (arith, nat_tests, d.known m', d.fit x, d.tags x, d.timely x);
  whom = λ m'. grind (arith, nat_tests, d.whom m', d.fit x, d.tags x, d.timely x);
  bound = λ i' hh hg. grind (arith, nat_tests, d.bound i', d.fit x, d.tags x, d.timely x);
  passed = λ i' m' hh hg ha hb. grind (arith, nat_tests, d.passed i' m', d.fit x, d.tags x, d.timely x);
  outside = λ i' hh. grind (arith, nat_tests, d.outside i', d.fit x, d.tags x, d.timely x);
}

pub leaves-keeps : (c : Config) (v : View) (x j l e : ℕ) → x < c.seats → Parts c v → v.role x ≡ Leaves j l e → Parts c (record v { helper = upd v.helper x 0; role = upd v.role x Away })
leaves-keeps c v x j l e b d q = record {
  fit = λ i'. grind (arith, nat_tests, d.fit i', d.fit x);
  marks = λ i' j'. grind (arith, nat_tests, d.marks i' j', d.fit x);
  tags = λ i'. grind (arith, nat_tests, d.tags i', d.fit x);
  taken = λ i'. grind (arith, nat_tests, d.taken i', d.fit x);
  timely = λ i'. grind (arith, nat_tests, d.timely i', d.fit x);
  clock = grind (arith, nat_tests, d.clock, d.fit x);
  eras = λ i'. grind (arith, nat_tests, d.eras i', d.fit x);
  helpers = λ i'. grind (arith, nat_tests, d.helpers i', d.fit x);
  indexes = λ i' j'. grind (arith, nat_tests, d.indexes i' j', d.fit x);
  movers = λ i' hh. grind (arith, nat_tests, d.movers i', d.fit x);
  links = λ i'. grind (arith, nat_tests, d.links i', d.fit x);
  shown = λ i'. grind (arith, nat_tests, d.shown i', d.fit x);
  published = λ i'. grind (arith, nat_tests, d.published i', d.fit x);
  turns = λ i'. grind (arith, nat_tests, d.turns i', d.fit x);
  low = λ i' j'. grind (arith, nat_tests, d.low i' j', d.fit x);
  spare = λ i'. grind (arith, nat_tests, d.spare i', d.fit x);
  answer = λ i'. grind (arith, nat_tests, d.answer i', d.fit x);
  known = λ m'. grind (arith, nat_tests, d.known m', d.fit x);
  whom = λ m'. grind (arith, nat_tests, d.whom m', d.fit x);
  bound = λ i' hh hg. grind (arith, nat_tests, d.bound i', d.fit x);
  passed = λ i' m' hh hg ha hb. grind (arith, nat_tests, d.passed i' m', d.fit x);
  outside = λ i' hh. grind (arith, nat_tests, d.outside i', d.fit x);
}
