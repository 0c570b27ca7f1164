-- The steps of a mover of the clock.
use Rattle.std.proofs.Common.{ℕ, ◌≤◌, ◌+◌, ◌<◌, ◌≡◌, ◌^◌, true, false, arith}
use Rattle.std.proofs.lemmas.Bool.Decides.{nat_tests}
use Rattle.std.specs.Prelude.{◌==◌}
use Rattle.inv_rows.specs.words.declared.config.Config.{Config}
use Rattle.inv_rows.specs.model.Memory.{upd}
use Rattle.inv_rows.specs.Covering.Requests.Views.{View, Role, upd2}
use Rattle.inv_rows.specs.Covering.Requests.Views.Deal.{Open, Answered, Passed}
use Rattle.inv_rows.specs.Covering.Requests.Views.Role.{Away, Meets, Shows, Loads, Helps, Reads, Hands, Hides, Late, Moves}
use Rattle.inv_rows.specs.Covering.Requests.Deals.{is_open, fits}
use Rattle.inv_rows.specs.Covering.Requests.Roles.{is_turn}
use Rattle.inv_rows.specs.Covering.Requests.Parts.{Parts}

-- a hand-over leaves what the requester's role says
handed_fits : (r : Role) (t j w l e m : ℕ) → fits r (Answered t j w l e m) ≡ true → fits r (Passed t j w l e) ≡ true
handed_fits Away t j w l e m h = h
handed_fits _ t j w l e m h = h

pub begins-keeps : (c : Config) (v : View) (x : ℕ) → x < c.seats → Parts c v → v.role x ≡ Away → (v.clock == c.last_era) ≡ false → Parts c (record v { role = upd v.role x (Meets v.clock 0 false) })
begins-keeps c v x b d q p0 = record {
  fit = λ i'. grind (arith, nat_tests, d.fit i', d.fit x);
  marks = λ i' j'. grind (arith, nat_tests, d.marks i' j', d.fit x);
  tags = λ i'. grind (arith, nat_tests, d.tags i', d.fit x);
  taken = λ i'. grind (arith, nat_tests, d.taken i', d.fit x);
  timely = λ i'. grind (arith, nat_tests, d.timely i', d.fit x);
  clock = grind (arith, nat_tests, d.clock, d.fit x);
  eras = λ i'. grind (arith, nat_tests, d.eras i', d.fit x);
  helpers = λ i'. grind (arith, nat_tests, d.helpers i', d.fit x);
  indexes = λ i' j'. grind (arith, nat_tests, d.indexes i' j', d.fit x);
  movers = λ i' hh. grind (arith, nat_tests, d.movers i', d.fit x);
  links = λ i'. grind (arith, nat_tests, d.links i', d.fit x);
  shown = λ i'. grind (arith, nat_tests, d.shown i', d.fit x);
  published = λ i'. grind (arith, nat_tests, d.published i', d.fit x);
  turns = λ i'. grind (arith, nat_tests, d.turns i', d.fit x);
  low = λ i' j'. grind (arith, nat_tests, d.low i' j', d.fit x);
  spare = λ i'. grind (arith, nat_tests, d.spare i', d.fit x);
  answer = λ i'. grind (arith, nat_tests, d.answer i', d.fit x);
  known = λ m'. grind (arith, nat_tests, d.known m', d.fit x);
  whom = λ m'. grind (arith, nat_tests, d.whom m', d.fit x);
  bound = λ i' hh hg. grind (arith, nat_tests, d.bound i', d.fit x);
  passed = λ i' m' hh hg ha hb. grind (arith, nat_tests, d.passed i' m', d.fit x);
  outside = λ i' hh. grind (arith, nat_tests, d.outside i', d.fit x);
}

pub begins_alone-keeps : (c : Config) (v : View) (x : ℕ) → x < c.seats → Parts c v → v.role x ≡ Away → (v.clock == c.last_era) ≡ false → ((i : ℕ) → is_turn (v.role i) ≡ false) → Parts c (record v { role = upd v.role x (Moves v.clock) })
begins_alone-keeps c v x b d q p0 p1 = record {
  fit = λ i'. grind (arith, nat_tests, d.fit i', d.fit x);
  marks = λ i' j'. grind (arith, nat_tests, d.marks i' j', d.fit x);
  tags = λ i'. grind (arith, nat_tests, d.tags i', d.fit x);
  taken = λ i'. grind (arith, nat_tests, d.taken i', d.fit x);
  timely = λ i'. grind (arith, nat_tests, d.timely i', d.fit x);
  clock = grind (arith, nat_tests, d.clock, d.fit x);
  eras = λ i'. grind (arith, nat_tests, d.eras i', d.fit x);
  helpers = λ i'. grind (arith, nat_tests, d.helpers i', d.fit x);
  indexes = λ i' j'. grind (arith, nat_tests, d.indexes i' j', d.fit x);
  movers = λ i' hh. grind (arith, nat_tests, d.movers i', d.fit x);
  links = λ i'. grind (arith, nat_tests, d.links i', d.fit x);
  shown = λ i'. grind (arith, nat_tests, d.shown i', d.fit x);
  published = λ i'. grind (arith, nat_tests, d.published i', d.fit x);
  turns = λ i'. grind (arith, nat_tests, d.turns i', d.fit x);
  low = λ i' j'. grind (arith, nat_tests, d.low i' j', d.fit x);
  spare = λ i'. grind (arith, nat_tests, d.spare i', d.fit x);
  answer = λ i'. grind (arith, nat_tests, d.answer i', d.fit x);
  known = λ m'. grind (arith, nat_tests, d.known m', d.fit x);
  whom = λ m'. grind (arith, nat_tests, d.whom m', d.fit x);
  bound = λ i' hh hg. grind (arith, nat_tests, d.bound i', d.fit x);
  passed = λ i' m' hh hg ha hb. grind (arith, nat_tests, d.passed i' m', d.fit x);
  outside = λ i' hh. grind (arith, nat_tests, d.outside i', d.fit x);
}

pub passes_next_shown-keeps : (c : Config) (v : View) (x e k : ℕ) → x < c.seats → Parts c v → v.role x ≡ Meets e k true → is_open (v.deal k) ≡ false → k + 1 < c.seats → Parts c (record v { role = upd v.role x (Meets e (k + 1) true) })
passes_next_shown-keeps c v x e k b d q p0 p1 = record {
  fit = λ i'. grind (arith, nat_tests, d.fit i', d.fit x, d.fit k, d.tags k, d.known x, d.whom x);
  marks = λ i' j'. grind (arith, nat_tests, d.marks i' j', d.fit x, d.fit k, d.tags k, d.known x, d.whom x);
  tags = λ i'. grind (arith, nat_tests, d.tags i', d.fit x, d.fit k, d.tags k, d.known x, d.whom x);
  taken = λ i'. grind (arith, nat_tests, d.taken i', d.fit x, d.fit k, d.tags k, d.known x, d.whom x);
  timely = λ i'. grind (arith, nat_tests, d.timely i', d.fit x, d.fit k, d.tags k, d.known x, d.whom x);
  clock = grind (arith, nat_tests, d.clock, d.fit x, d.fit k, d.tags k, d.known x, d.whom x);
  eras = λ i'. grind (arith, nat_tests, d.eras i', d.fit x, d.fit k, d.tags k, d.known x, d.whom x);
  helpers = λ i'. grind (arith, nat_tests, d.helpers i', d.fit x, d.fit k, d.tags k, d.known x, d.whom x);
  indexes = λ i' j'. grind (arith, nat_tests, d.indexes i' j', d.fit x, d.fit k, d.tags k, d.known x, d.whom x);
  movers = λ i' hh. grind (arith, nat_tests, d.movers i', d.fit x, d.fit k, d.tags k, d.known x, d.whom x);
  links = λ i'. grind (arith, nat_tests, d.links i', d.fit x, d.fit k, d.tags k, d.known x, d.whom x);
  shown = λ i'. grind (arith, nat_tests, d.shown i', d.fit x, d.fit k, d.tags k, d.known x, d.whom x);
  published = λ i'. grind (arith, nat_tests, d.published i', d.fit x, d.fit k, d.tags k, d.known x, d.whom x);
  turns = λ i'. grind (arith, nat_tests, d.turns i', d.fit x, d.fit k, d.tags k, d.known x, d.whom x);
  low = λ i' j'. grind (arith, nat_tests, d.low i' j', d.fit x, d.fit k, d.tags k, d.known x, d.whom x);
  spare = λ i'. grind (arith, nat_tests, d.spare i', d.fit x, d.fit k, d.tags k, d.known x, d.whom x);
  answer = λ i'. grind (arith, nat_tests, d.answer i', d.fit x, d.fit k, d.tags k, d.known x, d.whom x);
  known = λ m'. grind (arith, nat_tests, d.known m', d.fit x, d.fit k, d.tags k, d.known x, d.whom x);
  whom = λ m'. grind (arith, nat_tests, d.whom m', d.fit x, d.fit k, d.tags k, d.known x, d.whom x);
  bound = λ i' hh hg. grind (arith, nat_tests, d.bound i', d.fit x, d.fit k, d.tags k, d.known x, d.whom x);
  passed = λ i' m' hh hg ha hb. grind (arith, nat_tests, d.passed i' m', d.fit x, d.fit k, d.tags k, d.known x, d.whom x);
  outside = λ i' hh. grind (arith, nat_tests, d.outside i', d.fit x, d.fit k, d.tags k, d.known x, d.whom x);
}

pub passes_last_shown-keeps : (c : Config) (v : View) (x e k : ℕ) → x < c.seats → Parts c v → v.role x ≡ Meets e k true → is_open (v.deal k) ≡ false → c.seats ≤ k + 1 → Parts c (record v { role = upd v.role x (Hides e) })
passes_last_shown-keeps c v x e k b d q p0 p1 = record {
  fit = λ i'. grind (arith, nat_tests, d.fit i', d.fit x, d.fit k, d.tags k, d.known x, d.whom x);
  marks = λ i' j'. grind (arith, nat_tests, d.marks i' j', d.fit x, d.fit k, d.tags k, d.known x, d.whom x);
  tags = λ i'. grind (arith, nat_tests, d.tags i', d.fit x, d.fit k, d.tags k, d.known x, d.whom x);
  taken = λ i'. grind (arith, nat_tests, d.taken i', d.fit x, d.fit k, d.tags k, d.known x, d.whom x);
  timely = λ i'. grind (arith, nat_tests, d.timely i', d.fit x, d.fit k, d.tags k, d.known x, d.whom x);
  clock = grind (arith, nat_tests, d.clock, d.fit x, d.fit k, d.tags k, d.known x, d.whom x);
  eras = λ i'. grind (arith, nat_tests, d.eras i', d.fit x, d.fit k, d.tags k, d.known x, d.whom x);
  helpers = λ i'. grind (arith, nat_tests, d.helpers i', d.fit x, d.fit k, d.tags k, d.known x, d.whom x);
  indexes = λ i' j'. grind (arith, nat_tests, d.indexes i' j', d.fit x, d.fit k, d.tags k, d.known x, d.whom x);
  movers = λ i' hh. grind (arith, nat_tests, d.movers i', d.fit x, d.fit k, d.tags k, d.known x, d.whom x);
  links = λ i'. grind (arith, nat_tests, d.links i', d.fit x, d.fit k, d.tags k, d.known x, d.whom x);
  shown = λ i'. grind (arith, nat_tests, d.shown i', d.fit x, d.fit k, d.tags k, d.known x, d.whom x);
  published = λ i'. grind (arith, nat_tests, d.published i', d.fit x, d.fit k, d.tags k, d.known x, d.whom x);
  turns = λ i'. grind (arith, nat_tests, d.turns i', d.fit x, d.fit k, d.tags k, d.known x, d.whom x);
  low = λ i' j'. grind (arith, nat_tests, d.low i' j', d.fit x, d.fit k, d.tags k, d.known x, d.whom x);
  spare = λ i'. grind (arith, nat_tests, d.spare i', d.fit x, d.fit k, d.tags k, d.known x, d.whom x);
  answer = λ i'. grind (arith, nat_tests, d.answer i', d.fit x, d.fit k, d.tags k, d.known x, d.whom x);
  known = λ m'. grind (arith, nat_tests, d.known m', d.fit x, d.fit k, d.tags k, d.known x, d.whom x);
  whom = λ m'. grind (arith, nat_tests, d.whom m', d.fit x, d.fit k, d.tags k, d.known x, d.whom x);
  bound = λ i' hh hg. grind (arith, nat_tests, d.bound i', d.fit x, d.fit k, d.tags k, d.known x, d.whom x);
  passed = λ i' m' hh hg ha hb. grind (arith, nat_tests, d.passed i' m', d.fit x, d.fit k, d.tags k, d.known x, d.whom x);
  outside = λ i' hh. grind (arith, nat_tests, d.outside i', d.fit x, d.fit k, d.tags k, d.known x, d.whom x);
}

pub passes_next_plain-keeps : (c : Config) (v : View) (x e k : ℕ) → x < c.seats → Parts c v → v.role x ≡ Meets e k false → is_open (v.deal k) ≡ false → k + 1 < c.seats → Parts c (record v { role = upd v.role x (Meets e (k + 1) false) })
passes_next_plain-keeps c v x e k b d q p0 p1 = record {
  fit = λ i'. grind (arith, nat_tests, d.fit i', d.fit x, d.fit k, d.tags k, d.known x, d.whom x);
  marks = λ i' j'. grind (arith, nat_tests, d.marks i' j', d.fit x, d.fit k, d.tags k, d.known x, d.whom x);
  tags = λ i'. grind (arith, nat_tests, d.tags i', d.fit x, d.fit k, d.tags k, d.known x, d.whom x);
  taken = λ i'. grind (arith, nat_tests, d.taken i', d.fit x, d.fit k, d.tags k, d.known x, d.whom x);
  timely = λ i'. grind (arith, nat_tests, d.timely i', d.fit x, d.fit k, d.tags k, d.known x, d.whom x);
  clock = grind (arith, nat_tests, d.clock, d.fit x, d.fit k, d.tags k, d.known x, d.whom x);
  eras = λ i'. grind (arith, nat_tests, d.eras i', d.fit x, d.fit k, d.tags k, d.known x, d.whom x);
  helpers = λ i'. grind (arith, nat_tests, d.helpers i', d.fit x, d.fit k, d.tags k, d.known x, d.whom x);
  indexes = λ i' j'. grind (arith, nat_tests, d.indexes i' j', d.fit x, d.fit k, d.tags k, d.known x, d.whom x);
  movers = λ i' hh. grind (arith, nat_tests, d.movers i', d.fit x, d.fit k, d.tags k, d.known x, d.whom x);
  links = λ i'. grind (arith, nat_tests, d.links i', d.fit x, d.fit k, d.tags k, d.known x, d.whom x);
  shown = λ i'. grind (arith, nat_tests, d.shown i', d.fit x, d.fit k, d.tags k, d.known x, d.whom x);
  published = λ i'. grind (arith, nat_tests, d.published i', d.fit x, d.fit k, d.tags k, d.known x, d.whom x);
  turns = λ i'. grind (arith, nat_tests, d.turns i', d.fit x, d.fit k, d.tags k, d.known x, d.whom x);
  low = λ i' j'. grind (arith, nat_tests, d.low i' j', d.fit x, d.fit k, d.tags k, d.known x, d.whom x);
  spare = λ i'. grind (arith, nat_tests, d.spare i', d.fit x, d.fit k, d.tags k, d.known x, d.whom x);
  answer = λ i'. grind (arith, nat_tests, d.answer i', d.fit x, d.fit k, d.tags k, d.known x, d.whom x);
  known = λ m'. grind (arith, nat_tests, d.known m', d.fit x, d.fit k, d.tags k, d.known x, d.whom x);
  whom = λ m'. grind (arith, nat_tests, d.whom m', d.fit x, d.fit k, d.tags k, d.known x, d.whom x);
  bound = λ i' hh hg. grind (arith, nat_tests, d.bound i', d.fit x, d.fit k, d.tags k, d.known x, d.whom x);
  passed = λ i' m' hh hg ha hb. grind (arith, nat_tests, d.passed i' m', d.fit x, d.fit k, d.tags k, d.known x, d.whom x);
  outside = λ i' hh. grind (arith, nat_tests, d.outside i', d.fit x, d.fit k, d.tags k, d.known x, d.whom x);
}

pub passes_last_plain-keeps : (c : Config) (v : View) (x e k : ℕ) → x < c.seats → Parts c v → v.role x ≡ Meets e k false → is_open (v.deal k) ≡ false → c.seats ≤ k + 1 → Parts c (record v { role = upd v.role x (Moves e) })
passes_last_plain-keeps c v x e k b d q p0 p1 = record {
  fit = λ i'. grind (arith, nat_tests, d.fit i', d.fit x, d.fit k, d.tags k, d.known x, d.whom x);
  marks = λ i' j'. grind (arith, nat_tests, d.marks i' j', d.fit x, d.fit k, d.tags k, d.known x, d.whom x);
  tags = λ i'. grind (arith, nat_tests, d.tags i', d.fit x, d.fit k, d.tags k, d.known x, d.whom x);
  taken = λ i'. grind (arith, nat_tests, d.taken i', d.fit x, d.fit k, d.tags k, d.known x, d.whom x);
  timely = λ i'. grind (arith, nat_tests, d.timely i', d.fit x, d.fit k, d.tags k, d.known x, d.whom x);
  clock = grind (arith, nat_tests, d.clock, d.fit x, d.fit k, d.tags k, d.known x, d.whom x);
  eras = λ i'. grind (arith, nat_tests, d.eras i', d.fit x, d.fit k, d.tags k, d.known x, d.whom x);
  helpers = λ i'. grind (arith, nat_tests, d.helpers i', d.fit x, d.fit k, d.tags k, d.known x, d.whom x);
  indexes = λ i' j'. grind (arith, nat_tests, d.indexes i' j', d.fit x, d.fit k, d.tags k, d.known x, d.whom x);
  movers = λ i' hh. grind (arith, nat_tests, d.movers i', d.fit x, d.fit k, d.tags k, d.known x, d.whom x);
  links = λ i'. grind (arith, nat_tests, d.links i', d.fit x, d.fit k, d.tags k, d.known x, d.whom x);
  shown = λ i'. grind (arith, nat_tests, d.shown i', d.fit x, d.fit k, d.tags k, d.known x, d.whom x);
  published = λ i'. grind (arith, nat_tests, d.published i', d.fit x, d.fit k, d.tags k, d.known x, d.whom x);
  turns = λ i'. grind (arith, nat_tests, d.turns i', d.fit x, d.fit k, d.tags k, d.known x, d.whom x);
  low = λ i' j'. grind (arith, nat_tests, d.low i' j', d.fit x, d.fit k, d.tags k, d.known x, d.whom x);
  spare = λ i'. grind (arith, nat_tests, d.spare i', d.fit x, d.fit k, d.tags k, d.known x, d.whom x);
  answer = λ i'. grind (arith, nat_tests, d.answer i', d.fit x, d.fit k, d.tags k, d.known x, d.whom x);
  known = λ m'. grind (arith, nat_tests, d.known m', d.fit x, d.fit k, d.tags k, d.known x, d.whom x);
  whom = λ m'. grind (arith, nat_tests, d.whom m', d.fit x, d.fit k, d.tags k, d.known x, d.whom x);
  bound = λ i' hh hg. grind (arith, nat_tests, d.bound i', d.fit x, d.fit k, d.tags k, d.known x, d.whom x);
  passed = λ i' m' hh hg ha hb. grind (arith, nat_tests, d.passed i' m', d.fit x, d.fit k, d.tags k, d.known x, d.whom x);
  outside = λ i' hh. grind (arith, nat_tests, d.outside i', d.fit x, d.fit k, d.tags k, d.known x, d.whom x);
}

pub meets_plain-keeps : (c : Config) (v : View) (x e k t j w : ℕ) → x < c.seats → Parts c v → v.role x ≡ Meets e k false → v.deal k ≡ Open t j w → j < c.indexes → w < 2 ^ 26 → Parts c (record v { role = upd v.role x (Shows e k t j w) })
meets_plain-keeps c v x e k t j w b d q p0 p1 p2 = record {
  fit = λ i'. grind (arith, nat_tests, d.fit i', d.fit x, d.fit k, d.tags k, d.marks k j, d.known x, d.whom x);
  marks = λ i' j'. grind (arith, nat_tests, d.marks i' j', d.fit x, d.fit k, d.tags k, d.marks k j, d.known x, d.whom x);
  tags = λ i'. grind (arith, nat_tests, d.tags i', d.fit x, d.fit k, d.tags k, d.marks k j, d.known x, d.whom x);
  taken = λ i'. grind (arith, nat_tests, d.taken i', d.fit x, d.fit k, d.tags k, d.marks k j, d.known x, d.whom x);
  timely = λ i'. grind (arith, nat_tests, d.timely i', d.fit x, d.fit k, d.tags k, d.marks k j, d.known x, d.whom x);
  clock = grind (arith, nat_tests, d.clock, d.fit x, d.fit k, d.tags k, d.marks k j, d.known x, d.whom x);
  eras = λ i'. grind (arith, nat_tests, d.eras i', d.fit x, d.fit k, d.tags k, d.marks k j, d.known x, d.whom x);
  helpers = λ i'. grind (arith, nat_tests, d.helpers i', d.fit x, d.fit k, d.tags k, d.marks k j, d.known x, d.whom x);
  indexes = λ i' j'. grind (arith, nat_tests, d.indexes i' j', d.fit x, d.fit k, d.tags k, d.marks k j, d.known x, d.whom x);
  movers = λ i' hh. grind (arith, nat_tests, d.movers i', d.fit x, d.fit k, d.tags k, d.marks k j, d.known x, d.whom x);
  links = λ i'. grind (arith, nat_tests, d.links i', d.fit x, d.fit k, d.tags k, d.marks k j, d.known x, d.whom x);
  shown = λ i'. grind (arith, nat_tests, d.shown i', d.fit x, d.fit k, d.tags k, d.marks k j, d.known x, d.whom x);
  published = λ i'. grind (arith, nat_tests, d.published i', d.fit x, d.fit k, d.tags k, d.marks k j, d.known x, d.whom x);
  turns = λ i'. grind (arith, nat_tests, d.turns i', d.fit x, d.fit k, d.tags k, d.marks k j, d.known x, d.whom x);
  low = λ i' j'. grind (arith, nat_tests, d.low i' j', d.fit x, d.fit k, d.tags k, d.marks k j, d.known x, d.whom x);
  spare = λ i'. grind (arith, nat_tests, d.spare i', d.fit x, d.fit k, d.tags k, d.marks k j, d.known x, d.whom x);
  answer = λ i'. grind (arith, nat_tests, d.answer i', d.fit x, d.fit k, d.tags k, d.marks k j, d.known x, d.whom x);
  known = λ m'. grind (arith, nat_tests, d.known m', d.fit x, d.fit k, d.tags k, d.marks k j, d.known x, d.whom x);
  whom = λ m'. grind (arith, nat_tests, d.whom m', d.fit x, d.fit k, d.tags k, d.marks k j, d.known x, d.whom x);
  bound = λ i' hh hg. grind (arith, nat_tests, d.bound i', d.fit x, d.fit k, d.tags k, d.marks k j, d.known x, d.whom x);
  passed = λ i' m' hh hg ha hb. grind (arith, nat_tests, d.passed i' m', d.fit x, d.fit k, d.tags k, d.marks k j, d.known x, d.whom x);
  outside = λ i' hh. grind (arith, nat_tests, d.outside i', d.fit x, d.fit k, d.tags k, d.marks k j, d.known x, d.whom x);
}

pub meets_shown-keeps : (c : Config) (v : View) (x e k t j w : ℕ) → x < c.seats → Parts c v → v.role x ≡ Meets e k true → v.deal k ≡ Open t j w → j < c.indexes → w < 2 ^ 26 → Parts c (record v { role = upd v.role x (Loads e k t j w 0) })
meets_shown-keeps c v x e k t j w b d q p0 p1 p2 = record {
  fit = λ i'. grind (arith, nat_tests, d.fit i', d.fit x, d.fit k, d.tags k, d.marks k j, d.known x, d.whom x);
  marks = λ i' j'. grind (arith, nat_tests, d.marks i' j', d.fit x, d.fit k, d.tags k, d.marks k j, d.known x, d.whom x);
  tags = λ i'. grind (arith, nat_tests, d.tags i', d.fit x, d.fit k, d.tags k, d.marks k j, d.known x, d.whom x);
  taken = λ i'. grind (arith, nat_tests, d.taken i', d.fit x, d.fit k, d.tags k, d.marks k j, d.known x, d.whom x);
  timely = λ i'. grind (arith, nat_tests, d.timely i', d.fit x, d.fit k, d.tags k, d.marks k j, d.known x, d.whom x);
  clock = grind (arith, nat_tests, d.clock, d.fit x, d.fit k, d.tags k, d.marks k j, d.known x, d.whom x);
  eras = λ i'. grind (arith, nat_tests, d.eras i', d.fit x, d.fit k, d.tags k, d.marks k j, d.known x, d.whom x);
  helpers = λ i'. grind (arith, nat_tests, d.helpers i', d.fit x, d.fit k, d.tags k, d.marks k j, d.known x, d.whom x);
  indexes = λ i' j'. grind (arith, nat_tests, d.indexes i' j', d.fit x, d.fit k, d.tags k, d.marks k j, d.known x, d.whom x);
  movers = λ i' hh. grind (arith, nat_tests, d.movers i', d.fit x, d.fit k, d.tags k, d.marks k j, d.known x, d.whom x);
  links = λ i'. grind (arith, nat_tests, d.links i', d.fit x, d.fit k, d.tags k, d.marks k j, d.known x, d.whom x);
  shown = λ i'. grind (arith, nat_tests, d.shown i', d.fit x, d.fit k, d.tags k, d.marks k j, d.known x, d.whom x);
  published = λ i'. grind (arith, nat_tests, d.published i', d.fit x, d.fit k, d.tags k, d.marks k j, d.known x, d.whom x);
  turns = λ i'. grind (arith, nat_tests, d.turns i', d.fit x, d.fit k, d.tags k, d.marks k j, d.known x, d.whom x);
  low = λ i' j'. grind (arith, nat_tests, d.low i' j', d.fit x, d.fit k, d.tags k, d.marks k j, d.known x, d.whom x);
  spare = λ i'. grind (arith, nat_tests, d.spare i', d.fit x, d.fit k, d.tags k, d.marks k j, d.known x, d.whom x);
  answer = λ i'. grind (arith, nat_tests, d.answer i', d.fit x, d.fit k, d.tags k, d.marks k j, d.known x, d.whom x);
  known = λ m'. grind (arith, nat_tests, d.known m', d.fit x, d.fit k, d.tags k, d.marks k j, d.known x, d.whom x);
  whom = λ m'. grind (arith, nat_tests, d.whom m', d.fit x, d.fit k, d.tags k, d.marks k j, d.known x, d.whom x);
  bound = λ i' hh hg. grind (arith, nat_tests, d.bound i', d.fit x, d.fit k, d.tags k, d.marks k j, d.known x, d.whom x);
  passed = λ i' m' hh hg ha hb. grind (arith, nat_tests, d.passed i' m', d.fit x, d.fit k, d.tags k, d.marks k j, d.known x, d.whom x);
  outside = λ i' hh. grind (arith, nat_tests, d.outside i', d.fit x, d.fit k, d.tags k, d.marks k j, d.known x, d.whom x);
}

pub shows_era-keeps : (c : Config) (v : View) (x e k t j w : ℕ) → x < c.seats → Parts c v → v.role x ≡ Shows e k t j w → Parts c (record v { helper = upd v.helper x e; role = upd v.role x (Loads e k t j w 0) })
shows_era-keeps c v x e k t j w b d q = record {
  fit = λ i'. grind (arith, nat_tests, d.fit i', d.fit x, d.fit k, d.tags k, d.marks k j, d.known x, d.whom x);
  marks = λ i' j'. grind (arith, nat_tests, d.marks i' j', d.fit x, d.fit k, d.tags k, d.marks k j, d.known x, d.whom x);
  tags = λ i'. grind (arith, nat_tests, d.tags i', d.fit x, d.fit k, d.tags k, d.marks k j, d.known x, d.whom x);
  taken = λ i'. grind (arith, nat_tests, d.taken i', d.fit x, d.fit k, d.tags k, d.marks k j, d.known x, d.whom x);
  timely = λ i'. grind (arith, nat_tests, d.timely i', d.fit x, d.fit k, d.tags k, d.marks k j, d.known x, d.whom x);
  clock = grind (arith, nat_tests, d.clock, d.fit x, d.fit k, d.tags k, d.marks k j, d.known x, d.whom x);
  eras = λ i'. grind (arith, nat_tests, d.eras i', d.fit x, d.fit k, d.tags k, d.marks k j, d.known x, d.whom x);
  helpers = λ i'. grind (arith, nat_tests, d.helpers i', d.fit x, d.fit k, d.tags k, d.marks k j, d.known x, d.whom x);
  indexes = λ i' j'. grind (arith, nat_tests, d.indexes i' j', d.fit x, d.fit k, d.tags k, d.marks k j, d.known x, d.whom x);
  movers = λ i' hh. grind (arith, nat_tests, d.movers i', d.fit x, d.fit k, d.tags k, d.marks k j, d.known x, d.whom x);
  links = λ i'. grind (arith, nat_tests, d.links i', d.fit x, d.fit k, d.tags k, d.marks k j, d.known x, d.whom x);
  shown = λ i'. grind (arith, nat_tests, d.shown i', d.fit x, d.fit k, d.tags k, d.marks k j, d.known x, d.whom x);
  published = λ i'. grind (arith, nat_tests, d.published i', d.fit x, d.fit k, d.tags k, d.marks k j, d.known x, d.whom x);
  turns = λ i'. grind (arith, nat_tests, d.turns i', d.fit x, d.fit k, d.tags k, d.marks k j, d.known x, d.whom x);
  low = λ i' j'. grind (arith, nat_tests, d.low i' j', d.fit x, d.fit k, d.tags k, d.marks k j, d.known x, d.whom x);
  spare = λ i'. grind (arith, nat_tests, d.spare i', d.fit x, d.fit k, d.tags k, d.marks k j, d.known x, d.whom x);
  answer = λ i'. grind (arith, nat_tests, d.answer i', d.fit x, d.fit k, d.tags k, d.marks k j, d.known x, d.whom x);
  known = λ m'. grind (arith, nat_tests, d.known m', d.fit x, d.fit k, d.tags k, d.marks k j, d.known x, d.whom x);
  whom = λ m'. grind (arith, nat_tests, d.whom m', d.fit x, d.fit k, d.tags k, d.marks k j, d.known x, d.whom x);
  bound = λ i' hh hg. grind (arith, nat_tests, d.bound i', d.fit x, d.fit k, d.tags k, d.marks k j, d.known x, d.whom x);
  passed = λ i' m' hh hg ha hb. grind (arith, nat_tests, d.passed i' m', d.fit x, d.fit k, d.tags k, d.marks k j, d.known x, d.whom x);
  outside = λ i' hh. grind (arith, nat_tests, d.outside i', d.fit x, d.fit k, d.tags k, d.marks k j, d.known x, d.whom x);
}

pub looks_asked-keeps : (c : Config) (v : View) (x e k t j w l s : ℕ) → x < c.seats → Parts c v → v.role x ≡ Loads e k t j w l → s ≤ c.slots + 1 → Parts c (record v { role = upd v.role x (Loads e k t j w s) })
looks_asked-keeps c v x e k t j w l s b d q p0 = record {
  fit = λ i'. grind (arith, nat_tests, d.fit i', d.fit x, d.fit k, d.tags k, d.marks k j, d.known x, d.whom x);
  marks = λ i' j'. grind (arith, nat_tests, d.marks i' j', d.fit x, d.fit k, d.tags k, d.marks k j, d.known x, d.whom x);
  tags = λ i'. grind (arith, nat_tests, d.tags i', d.fit x, d.fit k, d.tags k, d.marks k j, d.known x, d.whom x);
  taken = λ i'. grind (arith, nat_tests, d.taken i', d.fit x, d.fit k, d.tags k, d.marks k j, d.known x, d.whom x);
  timely = λ i'. grind (arith, nat_tests, d.timely i', d.fit x, d.fit k, d.tags k, d.marks k j, d.known x, d.whom x);
  clock = grind (arith, nat_tests, d.clock, d.fit x, d.fit k, d.tags k, d.marks k j, d.known x, d.whom x);
  eras = λ i'. grind (arith, nat_tests, d.eras i', d.fit x, d.fit k, d.tags k, d.marks k j, d.known x, d.whom x);
  helpers = λ i'. grind (arith, nat_tests, d.helpers i', d.fit x, d.fit k, d.tags k, d.marks k j, d.known x, d.whom x);
  indexes = λ i' j'. grind (arith, nat_tests, d.indexes i' j', d.fit x, d.fit k, d.tags k, d.marks k j, d.known x, d.whom x);
  movers = λ i' hh. grind (arith, nat_tests, d.movers i', d.fit x, d.fit k, d.tags k, d.marks k j, d.known x, d.whom x);
  links = λ i'. grind (arith, nat_tests, d.links i', d.fit x, d.fit k, d.tags k, d.marks k j, d.known x, d.whom x);
  shown = λ i'. grind (arith, nat_tests, d.shown i', d.fit x, d.fit k, d.tags k, d.marks k j, d.known x, d.whom x);
  published = λ i'. grind (arith, nat_tests, d.published i', d.fit x, d.fit k, d.tags k, d.marks k j, d.known x, d.whom x);
  turns = λ i'. grind (arith, nat_tests, d.turns i', d.fit x, d.fit k, d.tags k, d.marks k j, d.known x, d.whom x);
  low = λ i' j'. grind (arith, nat_tests, d.low i' j', d.fit x, d.fit k, d.tags k, d.marks k j, d.known x, d.whom x);
  spare = λ i'. grind (arith, nat_tests, d.spare i', d.fit x, d.fit k, d.tags k, d.marks k j, d.known x, d.whom x);
  answer = λ i'. grind (arith, nat_tests, d.answer i', d.fit x, d.fit k, d.tags k, d.marks k j, d.known x, d.whom x);
  known = λ m'. grind (arith, nat_tests, d.known m', d.fit x, d.fit k, d.tags k, d.marks k j, d.known x, d.whom x);
  whom = λ m'. grind (arith, nat_tests, d.whom m', d.fit x, d.fit k, d.tags k, d.marks k j, d.known x, d.whom x);
  bound = λ i' hh hg. grind (arith, nat_tests, d.bound i', d.fit x, d.fit k, d.tags k, d.marks k j, d.known x, d.whom x);
  passed = λ i' m' hh hg ha hb. grind (arith, nat_tests, d.passed i' m', d.fit x, d.fit k, d.tags k, d.marks k j, d.known x, d.whom x);
  outside = λ i' hh. grind (arith, nat_tests, d.outside i', d.fit x, d.fit k, d.tags k, d.marks k j, d.known x, d.whom x);
}

pub checks-keeps : (c : Config) (v : View) (x e k t j w l : ℕ) → x < c.seats → Parts c v → v.role x ≡ Loads e k t j w l → (v.clock == e) ≡ true → Parts c (record v { role = upd v.role x (Helps e k t j w l) })
checks-keeps c v x e k t j w l b d q p0 = record {
  fit = λ i'. grind (arith, nat_tests, d.fit i', d.fit x, d.fit k, d.tags k, d.marks k j, d.known x, d.whom x, d.timely k, d.low k j);
  marks = λ i' j'. grind (arith, nat_tests, d.marks i' j', d.fit x, d.fit k, d.tags k, d.marks k j, d.known x, d.whom x, d.timely k, d.low k j);
  tags = λ i'. grind (arith, nat_tests, d.tags i', d.fit x, d.fit k, d.tags k, d.marks k j, d.known x, d.whom x, d.timely k, d.low k j);
  taken = λ i'. grind (arith, nat_tests, d.taken i', d.fit x, d.fit k, d.tags k, d.marks k j, d.known x, d.whom x, d.timely k, d.low k j);
  timely = λ i'. grind (arith, nat_tests, d.timely i', d.fit x, d.fit k, d.tags k, d.marks k j, d.known x, d.whom x, d.timely k, d.low k j);
  clock = grind (arith, nat_tests, d.clock, d.fit x, d.fit k, d.tags k, d.marks k j, d.known x, d.whom x, d.timely k, d.low k j);
  eras = λ i'. grind (arith, nat_tests, d.eras i', d.fit x, d.fit k, d.tags k, d.marks k j, d.known x, d.whom x, d.timely k, d.low k j);
  helpers = λ i'. grind (arith, nat_tests, d.helpers i', d.fit x, d.fit k, d.tags k, d.marks k j, d.known x, d.whom x, d.timely k, d.low k j);
  indexes = λ i' j'. grind (arith, nat_tests, d.indexes i' j', d.fit x, d.fit k, d.tags k, d.marks k j, d.known x, d.whom x, d.timely k, d.low k j);
  movers = λ i' hh. grind (arith, nat_tests, d.movers i', d.fit x, d.fit k, d.tags k, d.marks k j, d.known x, d.whom x, d.timely k, d.low k j);
  links = λ i'. grind (arith, nat_tests, d.links i', d.fit x, d.fit k, d.tags k, d.marks k j, d.known x, d.whom x, d.timely k, d.low k j);
  shown = λ i'. grind (arith, nat_tests, d.shown i', d.fit x, d.fit k, d.tags k, d.marks k j, d.known x, d.whom x, d.timely k, d.low k j);
  published = λ i'. grind (arith, nat_tests, d.published i', d.fit x, d.fit k, d.tags k, d.marks k j, d.known x, d.whom x, d.timely k, d.low k j);
  turns = λ i'. grind (arith, nat_tests, d.turns i', d.fit x, d.fit k, d.tags k, d.marks k j, d.known x, d.whom x, d.timely k, d.low k j);
  low = λ i' j'. grind (arith, nat_tests, d.low i' j', d.fit x, d.fit k, d.tags k, d.marks k j, d.known x, d.whom x, d.timely k, d.low k j);
  spare = λ i'. grind (arith, nat_tests, d.spare i', d.fit x, d.fit k, d.tags k, d.marks k j, d.known x, d.whom x, d.timely k, d.low k j);
  answer = λ i'. grind (arith, nat_tests, d.answer i', d.fit x, d.fit k, d.tags k, d.marks k j, d.known x, d.whom x, d.timely k, d.low k j);
  known = λ m'. grind (arith, nat_tests, d.known m', d.fit x, d.fit k, d.tags k, d.marks k j, d.known x, d.whom x, d.timely k, d.low k j);
  whom = λ m'. grind (arith, nat_tests, d.whom m', d.fit x, d.fit k, d.tags k, d.marks k j, d.known x, d.whom x, d.timely k, d.low k j);
  bound = λ i' hh hg. grind (arith, nat_tests, d.bound i', d.fit x, d.fit k, d.tags k, d.marks k j, d.known x, d.whom x, d.timely k, d.low k j);
  passed = λ i' m' hh hg ha hb. grind (arith, nat_tests, d.passed i' m', d.fit x, d.fit k, d.tags k, d.marks k j, d.known x, d.whom x, d.timely k, d.low k j);
  outside = λ i' hh. grind (arith, nat_tests, d.outside i', d.fit x, d.fit k, d.tags k, d.marks k j, d.known x, d.whom x, d.timely k, d.low k j);
}

pub is_late-keeps : (c : Config) (v : View) (x e k t j w l : ℕ) → x < c.seats → Parts c v → v.role x ≡ Loads e k t j w l → Parts c (record v { role = upd v.role x Late })
is_late-keeps c v x e k t j w l b d q = record {
  fit = λ i'. grind (arith, nat_tests, d.fit i', d.fit x, d.fit k, d.tags k, d.marks k j, d.known x, d.whom x);
  marks = λ i' j'. grind (arith, nat_tests, d.marks i' j', d.fit x, d.fit k, d.tags k, d.marks k j, d.known x, d.whom x);
  tags = λ i'. grind (arith, nat_tests, d.tags i', d.fit x, d.fit k, d.tags k, d.marks k j, d.known x, d.whom x);
  taken = λ i'. grind (arith, nat_tests, d.taken i', d.fit x, d.fit k, d.tags k, d.marks k j, d.known x, d.whom x);
  timely = λ i'. grind (arith, nat_tests, d.timely i', d.fit x, d.fit k, d.tags k, d.marks k j, d.known x, d.whom x);
  clock = grind (arith, nat_tests, d.clock, d.fit x, d.fit k, d.tags k, d.marks k j, d.known x, d.whom x);
  eras = λ i'. grind (arith, nat_tests, d.eras i', d.fit x, d.fit k, d.tags k, d.marks k j, d.known x, d.whom x);
  helpers = λ i'. grind (arith, nat_tests, d.helpers i', d.fit x, d.fit k, d.tags k, d.marks k j, d.known x, d.whom x);
  indexes = λ i' j'. grind (arith, nat_tests, d.indexes i' j', d.fit x, d.fit k, d.tags k, d.marks k j, d.known x, d.whom x);
  movers = λ i' hh. grind (arith, nat_tests, d.movers i', d.fit x, d.fit k, d.tags k, d.marks k j, d.known x, d.whom x);
  links = λ i'. grind (arith, nat_tests, d.links i', d.fit x, d.fit k, d.tags k, d.marks k j, d.known x, d.whom x);
  shown = λ i'. grind (arith, nat_tests, d.shown i', d.fit x, d.fit k, d.tags k, d.marks k j, d.known x, d.whom x);
  published = λ i'. grind (arith, nat_tests, d.published i', d.fit x, d.fit k, d.tags k, d.marks k j, d.known x, d.whom x);
  turns = λ i'. grind (arith, nat_tests, d.turns i', d.fit x, d.fit k, d.tags k, d.marks k j, d.known x, d.whom x);
  low = λ i' j'. grind (arith, nat_tests, d.low i' j', d.fit x, d.fit k, d.tags k, d.marks k j, d.known x, d.whom x);
  spare = λ i'. grind (arith, nat_tests, d.spare i', d.fit x, d.fit k, d.tags k, d.marks k j, d.known x, d.whom x);
  answer = λ i'. grind (arith, nat_tests, d.answer i', d.fit x, d.fit k, d.tags k, d.marks k j, d.known x, d.whom x);
  known = λ m'. grind (arith, nat_tests, d.known m', d.fit x, d.fit k, d.tags k, d.marks k j, d.known x, d.whom x);
  whom = λ m'. grind (arith, nat_tests, d.whom m', d.fit x, d.fit k, d.tags k, d.marks k j, d.known x, d.whom x);
  bound = λ i' hh hg. grind (arith, nat_tests, d.bound i', d.fit x, d.fit k, d.tags k, d.marks k j, d.known x, d.whom x);
  passed = λ i' m' hh hg ha hb. grind (arith, nat_tests, d.passed i' m', d.fit x, d.fit k, d.tags k, d.marks k j, d.known x, d.whom x);
  outside = λ i' hh. grind (arith, nat_tests, d.outside i', d.fit x, d.fit k, d.tags k, d.marks k j, d.known x, d.whom x);
}

pub helps-keeps : (c : Config) (v : View) (x e k t j w l : ℕ) → x < c.seats → Parts c v → v.role x ≡ Helps e k t j w l → v.deal k ≡ Open t j w → Parts c (record v { deal = upd v.deal k (Answered t j w l e x); role = upd v.role x (Reads e k t j w l) })
helps-keeps c v x e k t j w l b d q p0 = record {
  fit = λ i'. grind (arith, nat_tests, d.fit i', d.fit x, d.fit k, d.tags k, d.marks k j, d.known x, d.whom x);
  marks = λ i' j'. grind (arith, nat_tests, d.marks i' j', d.fit x, d.fit k, d.tags k, d.marks k j, d.known x, d.whom x);
  tags = λ i'. grind (arith, nat_tests, d.tags i', d.fit x, d.fit k, d.tags k, d.marks k j, d.known x, d.whom x);
  taken = λ i'. grind (arith, nat_tests, d.taken i', d.fit x, d.fit k, d.tags k, d.marks k j, d.known x, d.whom x);
  timely = λ i'. grind (arith, nat_tests, d.timely i', d.fit x, d.fit k, d.tags k, d.marks k j, d.known x, d.whom x);
  clock = grind (arith, nat_tests, d.clock, d.fit x, d.fit k, d.tags k, d.marks k j, d.known x, d.whom x);
  eras = λ i'. grind (arith, nat_tests, d.eras i', d.fit x, d.fit k, d.tags k, d.marks k j, d.known x, d.whom x);
  helpers = λ i'. grind (arith, nat_tests, d.helpers i', d.fit x, d.fit k, d.tags k, d.marks k j, d.known x, d.whom x);
  indexes = λ i' j'. grind (arith, nat_tests, d.indexes i' j', d.fit x, d.fit k, d.tags k, d.marks k j, d.known x, d.whom x);
  movers = λ i' hh. grind (arith, nat_tests, d.movers i', d.fit x, d.fit k, d.tags k, d.marks k j, d.known x, d.whom x);
  links = λ i'. grind (arith, nat_tests, d.links i', d.fit x, d.fit k, d.tags k, d.marks k j, d.known x, d.whom x);
  shown = λ i'. grind (arith, nat_tests, d.shown i', d.fit x, d.fit k, d.tags k, d.marks k j, d.known x, d.whom x);
  published = λ i'. grind (arith, nat_tests, d.published i', d.fit x, d.fit k, d.tags k, d.marks k j, d.known x, d.whom x);
  turns = λ i'. grind (arith, nat_tests, d.turns i', d.fit x, d.fit k, d.tags k, d.marks k j, d.known x, d.whom x);
  low = λ i' j'. grind (arith, nat_tests, d.low i' j', d.fit x, d.fit k, d.tags k, d.marks k j, d.known x, d.whom x);
  spare = λ i'. grind (arith, nat_tests, d.spare i', d.fit x, d.fit k, d.tags k, d.marks k j, d.known x, d.whom x);
  answer = λ i'. grind (arith, nat_tests, d.answer i', d.fit x, d.fit k, d.tags k, d.marks k j, d.known x, d.whom x);
  known = λ m'. grind (arith, nat_tests, d.known m', d.fit x, d.fit k, d.tags k, d.marks k j, d.known x, d.whom x);
  whom = λ m'. grind (arith, nat_tests, d.whom m', d.fit x, d.fit k, d.tags k, d.marks k j, d.known x, d.whom x);
  bound = λ i' hh hg. grind (arith, nat_tests, d.bound i', d.fit x, d.fit k, d.tags k, d.marks k j, d.known x, d.whom x);
  passed = λ i' m' hh hg ha hb. grind (arith, nat_tests, d.passed i' m', d.fit x, d.fit k, d.tags k, d.marks k j, d.known x, d.whom x);
  outside = λ i' hh. grind (arith, nat_tests, d.outside i', d.fit x, d.fit k, d.tags k, d.marks k j, d.known x, d.whom x);
}

pub helps_not_next-keeps : (c : Config) (v : View) (x e k t j w l : ℕ) → x < c.seats → Parts c v → v.role x ≡ Helps e k t j w l → (v.deal k ≡ Open t j w → ⊥) → k + 1 < c.seats → Parts c (record v { role = upd v.role x (Meets e (k + 1) true) })
helps_not_next-keeps c v x e k t j w l b d q p0 p1 = record {
  fit = λ i'. grind (arith, nat_tests, d.fit i', d.fit x, d.fit k, d.tags k, d.marks k j, d.known x, d.whom x);
  marks = λ i' j'. grind (arith, nat_tests, d.marks i' j', d.fit x, d.fit k, d.tags k, d.marks k j, d.known x, d.whom x);
  tags = λ i'. grind (arith, nat_tests, d.tags i', d.fit x, d.fit k, d.tags k, d.marks k j, d.known x, d.whom x);
  taken = λ i'. grind (arith, nat_tests, d.taken i', d.fit x, d.fit k, d.tags k, d.marks k j, d.known x, d.whom x);
  timely = λ i'. grind (arith, nat_tests, d.timely i', d.fit x, d.fit k, d.tags k, d.marks k j, d.known x, d.whom x);
  clock = grind (arith, nat_tests, d.clock, d.fit x, d.fit k, d.tags k, d.marks k j, d.known x, d.whom x);
  eras = λ i'. grind (arith, nat_tests, d.eras i', d.fit x, d.fit k, d.tags k, d.marks k j, d.known x, d.whom x);
  helpers = λ i'. grind (arith, nat_tests, d.helpers i', d.fit x, d.fit k, d.tags k, d.marks k j, d.known x, d.whom x);
  indexes = λ i' j'. grind (arith, nat_tests, d.indexes i' j', d.fit x, d.fit k, d.tags k, d.marks k j, d.known x, d.whom x);
  movers = λ i' hh. grind (arith, nat_tests, d.movers i', d.fit x, d.fit k, d.tags k, d.marks k j, d.known x, d.whom x);
  links = λ i'. grind (arith, nat_tests, d.links i', d.fit x, d.fit k, d.tags k, d.marks k j, d.known x, d.whom x);
  shown = λ i'. grind (arith, nat_tests, d.shown i', d.fit x, d.fit k, d.tags k, d.marks k j, d.known x, d.whom x);
  published = λ i'. grind (arith, nat_tests, d.published i', d.fit x, d.fit k, d.tags k, d.marks k j, d.known x, d.whom x);
  turns = λ i'. grind (arith, nat_tests, d.turns i', d.fit x, d.fit k, d.tags k, d.marks k j, d.known x, d.whom x);
  low = λ i' j'. grind (arith, nat_tests, d.low i' j', d.fit x, d.fit k, d.tags k, d.marks k j, d.known x, d.whom x);
  spare = λ i'. grind (arith, nat_tests, d.spare i', d.fit x, d.fit k, d.tags k, d.marks k j, d.known x, d.whom x);
  answer = λ i'. grind (arith, nat_tests, d.answer i', d.fit x, d.fit k, d.tags k, d.marks k j, d.known x, d.whom x);
  known = λ m'. grind (arith, nat_tests, d.known m', d.fit x, d.fit k, d.tags k, d.marks k j, d.known x, d.whom x);
  whom = λ m'. grind (arith, nat_tests, d.whom m', d.fit x, d.fit k, d.tags k, d.marks k j, d.known x, d.whom x);
  bound = λ i' hh hg. grind (arith, nat_tests, d.bound i', d.fit x, d.fit k, d.tags k, d.marks k j, d.known x, d.whom x);
  passed = λ i' m' hh hg ha hb. grind (arith, nat_tests, d.passed i' m', d.fit x, d.fit k, d.tags k, d.marks k j, d.known x, d.whom x);
  outside = λ i' hh. grind (arith, nat_tests, d.outside i', d.fit x, d.fit k, d.tags k, d.marks k j, d.known x, d.whom x);
}

pub helps_not_last-keeps : (c : Config) (v : View) (x e k t j w l : ℕ) → x < c.seats → Parts c v → v.role x ≡ Helps e k t j w l → (v.deal k ≡ Open t j w → ⊥) → c.seats ≤ k + 1 → Parts c (record v { role = upd v.role x (Hides e) })
helps_not_last-keeps c v x e k t j w l b d q p0 p1 = record {
  fit = λ i'. grind (arith, nat_tests, d.fit i', d.fit x, d.fit k, d.tags k, d.marks k j, d.known x, d.whom x);
  marks = λ i' j'. grind (arith, nat_tests, d.marks i' j', d.fit x, d.fit k, d.tags k, d.marks k j, d.known x, d.whom x);
  tags = λ i'. grind (arith, nat_tests, d.tags i', d.fit x, d.fit k, d.tags k, d.marks k j, d.known x, d.whom x);
  taken = λ i'. grind (arith, nat_tests, d.taken i', d.fit x, d.fit k, d.tags k, d.marks k j, d.known x, d.whom x);
  timely = λ i'. grind (arith, nat_tests, d.timely i', d.fit x, d.fit k, d.tags k, d.marks k j, d.known x, d.whom x);
  clock = grind (arith, nat_tests, d.clock, d.fit x, d.fit k, d.tags k, d.marks k j, d.known x, d.whom x);
  eras = λ i'. grind (arith, nat_tests, d.eras i', d.fit x, d.fit k, d.tags k, d.marks k j, d.known x, d.whom x);
  helpers = λ i'. grind (arith, nat_tests, d.helpers i', d.fit x, d.fit k, d.tags k, d.marks k j, d.known x, d.whom x);
  indexes = λ i' j'. grind (arith, nat_tests, d.indexes i' j', d.fit x, d.fit k, d.tags k, d.marks k j, d.known x, d.whom x);
  movers = λ i' hh. grind (arith, nat_tests, d.movers i', d.fit x, d.fit k, d.tags k, d.marks k j, d.known x, d.whom x);
  links = λ i'. grind (arith, nat_tests, d.links i', d.fit x, d.fit k, d.tags k, d.marks k j, d.known x, d.whom x);
  shown = λ i'. grind (arith, nat_tests, d.shown i', d.fit x, d.fit k, d.tags k, d.marks k j, d.known x, d.whom x);
  published = λ i'. grind (arith, nat_tests, d.published i', d.fit x, d.fit k, d.tags k, d.marks k j, d.known x, d.whom x);
  turns = λ i'. grind (arith, nat_tests, d.turns i', d.fit x, d.fit k, d.tags k, d.marks k j, d.known x, d.whom x);
  low = λ i' j'. grind (arith, nat_tests, d.low i' j', d.fit x, d.fit k, d.tags k, d.marks k j, d.known x, d.whom x);
  spare = λ i'. grind (arith, nat_tests, d.spare i', d.fit x, d.fit k, d.tags k, d.marks k j, d.known x, d.whom x);
  answer = λ i'. grind (arith, nat_tests, d.answer i', d.fit x, d.fit k, d.tags k, d.marks k j, d.known x, d.whom x);
  known = λ m'. grind (arith, nat_tests, d.known m', d.fit x, d.fit k, d.tags k, d.marks k j, d.known x, d.whom x);
  whom = λ m'. grind (arith, nat_tests, d.whom m', d.fit x, d.fit k, d.tags k, d.marks k j, d.known x, d.whom x);
  bound = λ i' hh hg. grind (arith, nat_tests, d.bound i', d.fit x, d.fit k, d.tags k, d.marks k j, d.known x, d.whom x);
  passed = λ i' m' hh hg ha hb. grind (arith, nat_tests, d.passed i' m', d.fit x, d.fit k, d.tags k, d.marks k j, d.known x, d.whom x);
  outside = λ i' hh. grind (arith, nat_tests, d.outside i', d.fit x, d.fit k, d.tags k, d.marks k j, d.known x, d.whom x);
}

pub reads-keeps : (c : Config) (v : View) (x e k t j w l : ℕ) → x < c.seats → Parts c v → v.role x ≡ Reads e k t j w l → (v.mark k j == t) ≡ true → Parts c (record v { role = upd v.role x (Hands e k t j w l (v.era k j)) })
reads-keeps c v x e k t j w l b d q p0 = record {
  fit = λ i'. grind (arith, nat_tests, d.fit i', d.fit x, d.fit k, d.tags k, d.marks k j, d.known x, d.whom x);
  marks = λ i' j'. grind (arith, nat_tests, d.marks i' j', d.fit x, d.fit k, d.tags k, d.marks k j, d.known x, d.whom x);
  tags = λ i'. grind (arith, nat_tests, d.tags i', d.fit x, d.fit k, d.tags k, d.marks k j, d.known x, d.whom x);
  taken = λ i'. grind (arith, nat_tests, d.taken i', d.fit x, d.fit k, d.tags k, d.marks k j, d.known x, d.whom x);
  timely = λ i'. grind (arith, nat_tests, d.timely i', d.fit x, d.fit k, d.tags k, d.marks k j, d.known x, d.whom x);
  clock = grind (arith, nat_tests, d.clock, d.fit x, d.fit k, d.tags k, d.marks k j, d.known x, d.whom x);
  eras = λ i'. grind (arith, nat_tests, d.eras i', d.fit x, d.fit k, d.tags k, d.marks k j, d.known x, d.whom x);
  helpers = λ i'. grind (arith, nat_tests, d.helpers i', d.fit x, d.fit k, d.tags k, d.marks k j, d.known x, d.whom x);
  indexes = λ i' j'. grind (arith, nat_tests, d.indexes i' j', d.fit x, d.fit k, d.tags k, d.marks k j, d.known x, d.whom x);
  movers = λ i' hh. grind (arith, nat_tests, d.movers i', d.fit x, d.fit k, d.tags k, d.marks k j, d.known x, d.whom x);
  links = λ i'. grind (arith, nat_tests, d.links i', d.fit x, d.fit k, d.tags k, d.marks k j, d.known x, d.whom x);
  shown = λ i'. grind (arith, nat_tests, d.shown i', d.fit x, d.fit k, d.tags k, d.marks k j, d.known x, d.whom x);
  published = λ i'. grind (arith, nat_tests, d.published i', d.fit x, d.fit k, d.tags k, d.marks k j, d.known x, d.whom x);
  turns = λ i'. grind (arith, nat_tests, d.turns i', d.fit x, d.fit k, d.tags k, d.marks k j, d.known x, d.whom x);
  low = λ i' j'. grind (arith, nat_tests, d.low i' j', d.fit x, d.fit k, d.tags k, d.marks k j, d.known x, d.whom x);
  spare = λ i'. grind (arith, nat_tests, d.spare i', d.fit x, d.fit k, d.tags k, d.marks k j, d.known x, d.whom x);
  answer = λ i'. grind (arith, nat_tests, d.answer i', d.fit x, d.fit k, d.tags k, d.marks k j, d.known x, d.whom x);
  known = λ m'. grind (arith, nat_tests, d.known m', d.fit x, d.fit k, d.tags k, d.marks k j, d.known x, d.whom x);
  whom = λ m'. grind (arith, nat_tests, d.whom m', d.fit x, d.fit k, d.tags k, d.marks k j, d.known x, d.whom x);
  bound = λ i' hh hg. grind (arith, nat_tests, d.bound i', d.fit x, d.fit k, d.tags k, d.marks k j, d.known x, d.whom x);
  passed = λ i' m' hh hg ha hb. grind (arith, nat_tests, d.passed i' m', d.fit x, d.fit k, d.tags k, d.marks k j, d.known x, d.whom x);
  outside = λ i' hh. grind (arith, nat_tests, d.outside i', d.fit x, d.fit k, d.tags k, d.marks k j, d.known x, d.whom x);
}

pub reads_not_next-keeps : (c : Config) (v : View) (x e k t j w l : ℕ) → x < c.seats → Parts c v → v.role x ≡ Reads e k t j w l → (v.mark k j == t) ≡ false → k + 1 < c.seats → Parts c (record v { role = upd v.role x (Meets e (k + 1) true) })
reads_not_next-keeps c v x e k t j w l b d q p0 p1 = record {
  fit = λ i'. grind (arith, nat_tests, d.fit i', d.fit x, d.fit k, d.tags k, d.marks k j, d.known x, d.whom x);
  marks = λ i' j'. grind (arith, nat_tests, d.marks i' j', d.fit x, d.fit k, d.tags k, d.marks k j, d.known x, d.whom x);
  tags = λ i'. grind (arith, nat_tests, d.tags i', d.fit x, d.fit k, d.tags k, d.marks k j, d.known x, d.whom x);
  taken = λ i'. grind (arith, nat_tests, d.taken i', d.fit x, d.fit k, d.tags k, d.marks k j, d.known x, d.whom x);
  timely = λ i'. grind (arith, nat_tests, d.timely i', d.fit x, d.fit k, d.tags k, d.marks k j, d.known x, d.whom x);
  clock = grind (arith, nat_tests, d.clock, d.fit x, d.fit k, d.tags k, d.marks k j, d.known x, d.whom x);
  eras = λ i'. grind (arith, nat_tests, d.eras i', d.fit x, d.fit k, d.tags k, d.marks k j, d.known x, d.whom x);
  helpers = λ i'. grind (arith, nat_tests, d.helpers i', d.fit x, d.fit k, d.tags k, d.marks k j, d.known x, d.whom x);
  indexes = λ i' j'. grind (arith, nat_tests, d.indexes i' j', d.fit x, d.fit k, d.tags k, d.marks k j, d.known x, d.whom x);
  movers = λ i' hh. grind (arith, nat_tests, d.movers i', d.fit x, d.fit k, d.tags k, d.marks k j, d.known x, d.whom x);
  links = λ i'. grind (arith, nat_tests, d.links i', d.fit x, d.fit k, d.tags k, d.marks k j, d.known x, d.whom x);
  shown = λ i'. grind (arith, nat_tests, d.shown i', d.fit x, d.fit k, d.tags k, d.marks k j, d.known x, d.whom x);
  published = λ i'. grind (arith, nat_tests, d.published i', d.fit x, d.fit k, d.tags k, d.marks k j, d.known x, d.whom x);
  turns = λ i'. grind (arith, nat_tests, d.turns i', d.fit x, d.fit k, d.tags k, d.marks k j, d.known x, d.whom x);
  low = λ i' j'. grind (arith, nat_tests, d.low i' j', d.fit x, d.fit k, d.tags k, d.marks k j, d.known x, d.whom x);
  spare = λ i'. grind (arith, nat_tests, d.spare i', d.fit x, d.fit k, d.tags k, d.marks k j, d.known x, d.whom x);
  answer = λ i'. grind (arith, nat_tests, d.answer i', d.fit x, d.fit k, d.tags k, d.marks k j, d.known x, d.whom x);
  known = λ m'. grind (arith, nat_tests, d.known m', d.fit x, d.fit k, d.tags k, d.marks k j, d.known x, d.whom x);
  whom = λ m'. grind (arith, nat_tests, d.whom m', d.fit x, d.fit k, d.tags k, d.marks k j, d.known x, d.whom x);
  bound = λ i' hh hg. grind (arith, nat_tests, d.bound i', d.fit x, d.fit k, d.tags k, d.marks k j, d.known x, d.whom x);
  passed = λ i' m' hh hg ha hb. grind (arith, nat_tests, d.passed i' m', d.fit x, d.fit k, d.tags k, d.marks k j, d.known x, d.whom x);
  outside = λ i' hh. grind (arith, nat_tests, d.outside i', d.fit x, d.fit k, d.tags k, d.marks k j, d.known x, d.whom x);
}

pub reads_not_last-keeps : (c : Config) (v : View) (x e k t j w l : ℕ) → x < c.seats → Parts c v → v.role x ≡ Reads e k t j w l → (v.mark k j == t) ≡ false → c.seats ≤ k + 1 → Parts c (record v { role = upd v.role x (Hides e) })
reads_not_last-keeps c v x e k t j w l b d q p0 p1 = record {
  fit = λ i'. grind (arith, nat_tests, d.fit i', d.fit x, d.fit k, d.tags k, d.marks k j, d.known x, d.whom x);
  marks = λ i' j'. grind (arith, nat_tests, d.marks i' j', d.fit x, d.fit k, d.tags k, d.marks k j, d.known x, d.whom x);
  tags = λ i'. grind (arith, nat_tests, d.tags i', d.fit x, d.fit k, d.tags k, d.marks k j, d.known x, d.whom x);
  taken = λ i'. grind (arith, nat_tests, d.taken i', d.fit x, d.fit k, d.tags k, d.marks k j, d.known x, d.whom x);
  timely = λ i'. grind (arith, nat_tests, d.timely i', d.fit x, d.fit k, d.tags k, d.marks k j, d.known x, d.whom x);
  clock = grind (arith, nat_tests, d.clock, d.fit x, d.fit k, d.tags k, d.marks k j, d.known x, d.whom x);
  eras = λ i'. grind (arith, nat_tests, d.eras i', d.fit x, d.fit k, d.tags k, d.marks k j, d.known x, d.whom x);
  helpers = λ i'. grind (arith, nat_tests, d.helpers i', d.fit x, d.fit k, d.tags k, d.marks k j, d.known x, d.whom x);
  indexes = λ i' j'. grind (arith, nat_tests, d.indexes i' j', d.fit x, d.fit k, d.tags k, d.marks k j, d.known x, d.whom x);
  movers = λ i' hh. grind (arith, nat_tests, d.movers i', d.fit x, d.fit k, d.tags k, d.marks k j, d.known x, d.whom x);
  links = λ i'. grind (arith, nat_tests, d.links i', d.fit x, d.fit k, d.tags k, d.marks k j, d.known x, d.whom x);
  shown = λ i'. grind (arith, nat_tests, d.shown i', d.fit x, d.fit k, d.tags k, d.marks k j, d.known x, d.whom x);
  published = λ i'. grind (arith, nat_tests, d.published i', d.fit x, d.fit k, d.tags k, d.marks k j, d.known x, d.whom x);
  turns = λ i'. grind (arith, nat_tests, d.turns i', d.fit x, d.fit k, d.tags k, d.marks k j, d.known x, d.whom x);
  low = λ i' j'. grind (arith, nat_tests, d.low i' j', d.fit x, d.fit k, d.tags k, d.marks k j, d.known x, d.whom x);
  spare = λ i'. grind (arith, nat_tests, d.spare i', d.fit x, d.fit k, d.tags k, d.marks k j, d.known x, d.whom x);
  answer = λ i'. grind (arith, nat_tests, d.answer i', d.fit x, d.fit k, d.tags k, d.marks k j, d.known x, d.whom x);
  known = λ m'. grind (arith, nat_tests, d.known m', d.fit x, d.fit k, d.tags k, d.marks k j, d.known x, d.whom x);
  whom = λ m'. grind (arith, nat_tests, d.whom m', d.fit x, d.fit k, d.tags k, d.marks k j, d.known x, d.whom x);
  bound = λ i' hh hg. grind (arith, nat_tests, d.bound i', d.fit x, d.fit k, d.tags k, d.marks k j, d.known x, d.whom x);
  passed = λ i' m' hh hg ha hb. grind (arith, nat_tests, d.passed i' m', d.fit x, d.fit k, d.tags k, d.marks k j, d.known x, d.whom x);
  outside = λ i' hh. grind (arith, nat_tests, d.outside i', d.fit x, d.fit k, d.tags k, d.marks k j, d.known x, d.whom x);
}

pub hands_next-keeps : (c : Config) (v : View) (x e k t j w l o : ℕ) → x < c.seats → Parts c v → v.role x ≡ Hands e k t j w l o → v.deal k ≡ Answered t j w l e x → k + 1 < c.seats → Parts c (record v { era = upd2 v.era k j e; mark = upd2 v.mark k j (t + 1); deal = upd v.deal k (Passed t j w l e); role = upd v.role x (Meets e (k + 1) true) })
hands_next-keeps c v x e k t j w l o b d q p0 p1 = record {
  fit = λ i'. grind (arith, nat_tests, d.fit i', d.tags k, d.marks k j, handed_fits (v.role k) t j w l e x);
  marks = λ i' j'. grind (arith, nat_tests, d.marks i' j', d.tags k, d.marks k j, d.fit k, d.fit x);
  tags = λ i'. grind (arith, nat_tests, d.tags i', d.tags k, d.marks k j, d.fit k, d.fit x);
  taken = λ i'. grind (arith, nat_tests, d.taken i', d.tags k, d.marks k j, d.fit k, d.fit x);
  timely = λ i'. grind (arith, nat_tests, d.timely i', d.tags k, d.marks k j, d.fit k, d.fit x);
  clock = grind (arith, nat_tests, d.clock, d.tags k, d.marks k j, d.fit k, d.fit x);
  eras = λ i'. grind (arith, nat_tests, d.eras i', d.tags k, d.marks k j, d.fit k, d.fit x);
  helpers = λ i'. grind (arith, nat_tests, d.helpers i', d.tags k, d.marks k j, d.fit k, d.fit x);
  indexes = λ i' j'. grind (arith, nat_tests, d.indexes i' j', d.tags k, d.marks k j, d.fit k, d.fit x);
  movers = λ i' hh. grind (arith, nat_tests, d.movers i', d.tags k, d.marks k j, d.fit k, d.fit x);
  links = λ i'. grind (arith, nat_tests, d.links i', d.tags k, d.marks k j, d.fit k, d.fit x);
  shown = λ i'. grind (arith, nat_tests, d.shown i', d.tags k, d.marks k j, d.fit k, d.fit x);
  published = λ i'. grind (arith, nat_tests, d.published i', d.tags k, d.marks k j, d.fit k, d.fit x);
  turns = λ i'. grind (arith, nat_tests, d.turns i', d.tags k, d.marks k j, d.fit k, d.fit x);
  low = λ i' j'. grind (arith, nat_tests, d.low i' j', d.tags k, d.marks k j, d.fit k, d.fit x);
  spare = λ i'. grind (arith, nat_tests, d.spare i', d.tags k, d.marks k j, d.fit k, d.fit x);
  answer = λ i'. grind (arith, nat_tests, d.answer i', d.tags k, d.marks k j, d.fit k, d.fit x);
  known = λ m'. grind (arith, nat_tests, d.known m', d.tags k, d.marks k j, d.fit x);
  whom = λ m'. grind (arith, nat_tests, d.whom m', d.tags k, d.marks k j, d.fit k, d.fit x);
  bound = λ i' hh hg. grind (arith, nat_tests, d.bound i', d.tags k, d.marks k j, d.fit k, d.fit x);
  passed = λ i' m' hh hg ha hb. grind (arith, nat_tests, d.passed i' m', d.tags k, d.marks k j, d.fit k, d.fit x);
  outside = λ i' hh. grind (arith, nat_tests, d.outside i', d.tags k, d.marks k j, d.fit k, d.fit x);
}

pub hands_last-keeps : (c : Config) (v : View) (x e k t j w l o : ℕ) → x < c.seats → Parts c v → v.role x ≡ Hands e k t j w l o → v.deal k ≡ Answered t j w l e x → c.seats ≤ k + 1 → Parts c (record v { era = upd2 v.era k j e; mark = upd2 v.mark k j (t + 1); deal = upd v.deal k (Passed t j w l e); role = upd v.role x (Hides e) })
hands_last-keeps c v x e k t j w l o b d q p0 p1 = record {
  fit = λ i'. grind (arith, nat_tests, d.fit i', d.tags k, d.marks k j, handed_fits (v.role k) t j w l e x);
  marks = λ i' j'. grind (arith, nat_tests, d.marks i' j', d.tags k, d.marks k j, d.fit k, d.fit x);
  tags = λ i'. grind (arith, nat_tests, d.tags i', d.tags k, d.marks k j, d.fit k, d.fit x);
  taken = λ i'. grind (arith, nat_tests, d.taken i', d.tags k, d.marks k j, d.fit k, d.fit x);
  timely = λ i'. grind (arith, nat_tests, d.timely i', d.tags k, d.marks k j, d.fit k, d.fit x);
  clock = grind (arith, nat_tests, d.clock, d.tags k, d.marks k j, d.fit k, d.fit x);
  eras = λ i'. grind (arith, nat_tests, d.eras i', d.tags k, d.marks k j, d.fit k, d.fit x);
  helpers = λ i'. grind (arith, nat_tests, d.helpers i', d.tags k, d.marks k j, d.fit k, d.fit x);
  indexes = λ i' j'. grind (arith, nat_tests, d.indexes i' j', d.tags k, d.marks k j, d.fit k, d.fit x);
  movers = λ i' hh. grind (arith, nat_tests, d.movers i', d.tags k, d.marks k j, d.fit k, d.fit x);
  links = λ i'. grind (arith, nat_tests, d.links i', d.tags k, d.marks k j, d.fit k, d.fit x);
  shown = λ i'. grind (arith, nat_tests, d.shown i', d.tags k, d.marks k j, d.fit k, d.fit x);
  published = λ i'. grind (arith, nat_tests, d.published i', d.tags k, d.marks k j, d.fit k, d.fit x);
  turns = λ i'. grind (arith, nat_tests, d.turns i', d.tags k, d.marks k j, d.fit k, d.fit x);
  low = λ i' j'. grind (arith, nat_tests, d.low i' j', d.tags k, d.marks k j, d.fit k, d.fit x);
  spare = λ i'. grind (arith, nat_tests, d.spare i', d.tags k, d.marks k j, d.fit k, d.fit x);
  answer = λ i'. grind (arith, nat_tests, d.answer i', d.tags k, d.marks k j, d.fit k, d.fit x);
  known = λ m'. grind (arith, nat_tests, d.known m', d.tags k, d.marks k j);
  whom = λ m'. grind (arith, nat_tests, d.whom m', d.tags k, d.marks k j, d.fit k, d.fit x);
  bound = λ i' hh hg. grind (arith, nat_tests, d.bound i', d.tags k, d.marks k j, d.fit k, d.fit x);
  passed = λ i' m' hh hg ha hb. grind (arith, nat_tests, d.passed i' m', d.tags k, d.marks k j, d.fit k, d.fit x);
  outside = λ i' hh. grind (arith, nat_tests, d.outside i', d.tags k, d.marks k j, d.fit k, d.fit x);
}

pub hands_not_next-keeps : (c : Config) (v : View) (x e k t j w l o : ℕ) → x < c.seats → Parts c v → v.role x ≡ Hands e k t j w l o → (v.mark k j ≡ t → v.era k j ≡ o → ⊥) → k + 1 < c.seats → Parts c (record v { role = upd v.role x (Meets e (k + 1) true) })
hands_not_next-keeps c v x e k t j w l o b d q p0 p1 = record {
  fit = λ i'. grind (arith, nat_tests, d.fit i', d.fit x, d.fit k, d.tags k, d.marks k j, d.known x, d.whom x);
  marks = λ i' j'. grind (arith, nat_tests, d.marks i' j', d.fit x, d.fit k, d.tags k, d.marks k j, d.known x, d.whom x);
  tags = λ i'. grind (arith, nat_tests, d.tags i', d.fit x, d.fit k, d.tags k, d.marks k j, d.known x, d.whom x);
  taken = λ i'. grind (arith, nat_tests, d.taken i', d.fit x, d.fit k, d.tags k, d.marks k j, d.known x, d.whom x);
  timely = λ i'. grind (arith, nat_tests, d.timely i', d.fit x, d.fit k, d.tags k, d.marks k j, d.known x, d.whom x);
  clock = grind (arith, nat_tests, d.clock, d.fit x, d.fit k, d.tags k, d.marks k j, d.known x, d.whom x);
  eras = λ i'. grind (arith, nat_tests, d.eras i', d.fit x, d.fit k, d.tags k, d.marks k j, d.known x, d.whom x);
  helpers = λ i'. grind (arith, nat_tests, d.helpers i', d.fit x, d.fit k, d.tags k, d.marks k j, d.known x, d.whom x);
  indexes = λ i' j'. grind (arith, nat_tests, d.indexes i' j', d.fit x, d.fit k, d.tags k, d.marks k j, d.known x, d.whom x);
  movers = λ i' hh. grind (arith, nat_tests, d.movers i', d.fit x, d.fit k, d.tags k, d.marks k j, d.known x, d.whom x);
  links = λ i'. grind (arith, nat_tests, d.links i', d.fit x, d.fit k, d.tags k, d.marks k j, d.known x, d.whom x);
  shown = λ i'. grind (arith, nat_tests, d.shown i', d.fit x, d.fit k, d.tags k, d.marks k j, d.known x, d.whom x);
  published = λ i'. grind (arith, nat_tests, d.published i', d.fit x, d.fit k, d.tags k, d.marks k j, d.known x, d.whom x);
  turns = λ i'. grind (arith, nat_tests, d.turns i', d.fit x, d.fit k, d.tags k, d.marks k j, d.known x, d.whom x);
  low = λ i' j'. grind (arith, nat_tests, d.low i' j', d.fit x, d.fit k, d.tags k, d.marks k j, d.known x, d.whom x);
  spare = λ i'. grind (arith, nat_tests, d.spare i', d.fit x, d.fit k, d.tags k, d.marks k j, d.known x, d.whom x);
  answer = λ i'. grind (arith, nat_tests, d.answer i', d.fit x, d.fit k, d.tags k, d.marks k j, d.known x, d.whom x);
  known = λ m'. grind (arith, nat_tests, d.known m', d.fit x, d.fit k, d.tags k, d.marks k j, d.known x, d.whom x);
  whom = λ m'. grind (arith, nat_tests, d.whom m', d.fit x, d.fit k, d.tags k, d.marks k j, d.known x, d.whom x);
  bound = λ i' hh hg. grind (arith, nat_tests, d.bound i', d.fit x, d.fit k, d.tags k, d.marks k j, d.known x, d.whom x);
  passed = λ i' m' hh hg ha hb. grind (arith, nat_tests, d.passed i' m', d.fit x, d.fit k, d.tags k, d.marks k j, d.known x, d.whom x);
  outside = λ i' hh. grind (arith, nat_tests, d.outside i', d.fit x, d.fit k, d.tags k, d.marks k j, d.known x, d.whom x);
}

pub hands_not_last-keeps : (c : Config) (v : View) (x e k t j w l o : ℕ) → x < c.seats → Parts c v → v.role x ≡ Hands e k t j w l o → (v.mark k j ≡ t → v.era k j ≡ o → ⊥) → c.seats ≤ k + 1 → Parts c (record v { role = upd v.role x (Hides e) })
hands_not_last-keeps c v x e k t j w l o b d q p0 p1 = record {
  fit = λ i'. grind (arith, nat_tests, d.fit i', d.fit x, d.fit k, d.tags k, d.marks k j, d.known x, d.whom x);
  marks = λ i' j'. grind (arith, nat_tests, d.marks i' j', d.fit x, d.fit k, d.tags k, d.marks k j, d.known x, d.whom x);
  tags = λ i'. grind (arith, nat_tests, d.tags i', d.fit x, d.fit k, d.tags k, d.marks k j, d.known x, d.whom x);
  taken = λ i'. grind (arith, nat_tests, d.taken i', d.fit x, d.fit k, d.tags k, d.marks k j, d.known x, d.whom x);
  timely = λ i'. grind (arith, nat_tests, d.timely i', d.fit x, d.fit k, d.tags k, d.marks k j, d.known x, d.whom x);
  clock = grind (arith, nat_tests, d.clock, d.fit x, d.fit k, d.tags k, d.marks k j, d.known x, d.whom x);
  eras = λ i'. grind (arith, nat_tests, d.eras i', d.fit x, d.fit k, d.tags k, d.marks k j, d.known x, d.whom x);
  helpers = λ i'. grind (arith, nat_tests, d.helpers i', d.fit x, d.fit k, d.tags k, d.marks k j, d.known x, d.whom x);
  indexes = λ i' j'. grind (arith, nat_tests, d.indexes i' j', d.fit x, d.fit k, d.tags k, d.marks k j, d.known x, d.whom x);
  movers = λ i' hh. grind (arith, nat_tests, d.movers i', d.fit x, d.fit k, d.tags k, d.marks k j, d.known x, d.whom x);
  links = λ i'. grind (arith, nat_tests, d.links i', d.fit x, d.fit k, d.tags k, d.marks k j, d.known x, d.whom x);
  shown = λ i'. grind (arith, nat_tests, d.shown i', d.fit x, d.fit k, d.tags k, d.marks k j, d.known x, d.whom x);
  published = λ i'. grind (arith, nat_tests, d.published i', d.fit x, d.fit k, d.tags k, d.marks k j, d.known x, d.whom x);
  turns = λ i'. grind (arith, nat_tests, d.turns i', d.fit x, d.fit k, d.tags k, d.marks k j, d.known x, d.whom x);
  low = λ i' j'. grind (arith, nat_tests, d.low i' j', d.fit x, d.fit k, d.tags k, d.marks k j, d.known x, d.whom x);
  spare = λ i'. grind (arith, nat_tests, d.spare i', d.fit x, d.fit k, d.tags k, d.marks k j, d.known x, d.whom x);
  answer = λ i'. grind (arith, nat_tests, d.answer i', d.fit x, d.fit k, d.tags k, d.marks k j, d.known x, d.whom x);
  known = λ m'. grind (arith, nat_tests, d.known m', d.fit x, d.fit k, d.tags k, d.marks k j, d.known x, d.whom x);
  whom = λ m'. grind (arith, nat_tests, d.whom m', d.fit x, d.fit k, d.tags k, d.marks k j, d.known x, d.whom x);
  bound = λ i' hh hg. grind (arith, nat_tests, d.bound i', d.fit x, d.fit k, d.tags k, d.marks k j, d.known x, d.whom x);
  passed = λ i' m' hh hg ha hb. grind (arith, nat_tests, d.passed i' m', d.fit x, d.fit k, d.tags k, d.marks k j, d.known x, d.whom x);
  outside = λ i' hh. grind (arith, nat_tests, d.outside i', d.fit x, d.fit k, d.tags k, d.marks k j, d.known x, d.whom x);
}

pub hides-keeps : (c : Config) (v : View) (x e : ℕ) → x < c.seats → Parts c v → v.role x ≡ Hides e → Parts c (record v { helper = upd v.helper x 0; role = upd v.role x (Moves e) })
hides-keeps c v x e b d q = record {
  fit = λ i'. grind (arith, nat_tests, d.fit i', d.fit x);
  marks = λ i' j'. grind (arith, nat_tests, d.marks i' j', d.fit x);
  tags = λ i'. grind (arith, nat_tests, d.tags i', d.fit x);
  taken = λ i'. grind (arith, nat_tests, d.taken i', d.fit x);
  timely = λ i'. grind (arith, nat_tests, d.timely i', d.fit x);
  clock = grind (arith, nat_tests, d.clock, d.fit x);
  eras = λ i'. grind (arith, nat_tests, d.eras i', d.fit x);
  helpers = λ i'. grind (arith, nat_tests, d.helpers i', d.fit x);
  indexes = λ i' j'. grind (arith, nat_tests, d.indexes i' j', d.fit x);
  movers = λ i' hh. grind (arith, nat_tests, d.movers i', d.fit x);
  links = λ i'. grind (arith, nat_tests, d.links i', d.fit x);
  shown = λ i'. grind (arith, nat_tests, d.shown i', d.fit x);
  published = λ i'. grind (arith, nat_tests, d.published i', d.fit x);
  turns = λ i'. grind (arith, nat_tests, d.turns i', d.fit x);
  low = λ i' j'. grind (arith, nat_tests, d.low i' j', d.fit x);
  spare = λ i'. grind (arith, nat_tests, d.spare i', d.fit x);
  answer = λ i'. grind (arith, nat_tests, d.answer i', d.fit x);
  known = λ m'. grind (arith, nat_tests, d.known m', d.fit x);
  whom = λ m'. grind (arith, nat_tests, d.whom m', d.fit x);
  bound = λ i' hh hg. grind (arith, nat_tests, d.bound i', d.fit x);
  passed = λ i' m' hh hg ha hb. grind (arith, nat_tests, d.passed i' m', d.fit x);
  outside = λ i' hh. grind (arith, nat_tests, d.outside i', d.fit x);
}

pub hides_late-keeps : (c : Config) (v : View) (x : ℕ) → x < c.seats → Parts c v → v.role x ≡ Late → Parts c (record v { helper = upd v.helper x 0; role = upd v.role x Away })
hides_late-keeps c v x b d q = record {
  fit = λ i'. grind (arith, nat_tests, d.fit i', d.fit x);
  marks = λ i' j'. grind (arith, nat_tests, d.marks i' j', d.fit x);
  tags = λ i'. grind (arith, nat_tests, d.tags i', d.fit x);
  taken = λ i'. grind (arith, nat_tests, d.taken i', d.fit x);
  timely = λ i'. grind (arith, nat_tests, d.timely i', d.fit x);
  clock = grind (arith, nat_tests, d.clock, d.fit x);
  eras = λ i'. grind (arith, nat_tests, d.eras i', d.fit x);
  helpers = λ i'. grind (arith, nat_tests, d.helpers i', d.fit x);
  indexes = λ i' j'. grind (arith, nat_tests, d.indexes i' j', d.fit x);
  movers = λ i' hh. grind (arith, nat_tests, d.movers i', d.fit x);
  links = λ i'. grind (arith, nat_tests, d.links i', d.fit x);
  shown = λ i'. grind (arith, nat_tests, d.shown i', d.fit x);
  published = λ i'. grind (arith, nat_tests, d.published i', d.fit x);
  turns = λ i'. grind (arith, nat_tests, d.turns i', d.fit x);
  low = λ i' j'. grind (arith, nat_tests, d.low i' j', d.fit x);
  spare = λ i'. grind (arith, nat_tests, d.spare i', d.fit x);
  answer = λ i'. grind (arith, nat_tests, d.answer i', d.fit x);
  known = λ m'. grind (arith, nat_tests, d.known m', d.fit x);
  whom = λ m'. grind (arith, nat_tests, d.whom m', d.fit x);
  bound = λ i' hh hg. grind (arith, nat_tests, d.bound i', d.fit x);
  passed = λ i' m' hh hg ha hb. grind (arith, nat_tests, d.passed i' m', d.fit x);
  outside = λ i' hh. grind (arith, nat_tests, d.outside i', d.fit x);
}

pub moves-keeps : (c : Config) (v : View) (x e : ℕ) → x < c.seats → Parts c v → v.role x ≡ Moves e → (v.clock == e) ≡ true → Parts c (record v { clock = v.clock + 1; role = upd v.role x Away })
moves-keeps c v x e b d q p0 = record {
  fit = λ i'. grind (arith, nat_tests, d.fit i', d.fit x);
  marks = λ i' j'. grind (arith, nat_tests, d.marks i' j', d.fit x);
  tags = λ i'. grind (arith, nat_tests, d.tags i', d.fit x);
  taken = λ i'. grind (arith, nat_tests, d.taken i', d.fit x);
  timely = λ i'. grind (arith, nat_tests, d.timely i', d.fit x);
  clock = grind (arith, nat_tests, d.clock, d.fit x);
  eras = λ i'. grind (arith, nat_tests, d.eras i', d.fit x);
  helpers = λ i'. grind (arith, nat_tests, d.helpers i', d.fit x);
  indexes = λ i' j'. grind (arith, nat_tests, d.indexes i' j', d.fit x);
  movers = λ i' hh. grind (arith, nat_tests, d.movers i', d.fit x);
  links = λ i'. grind (arith, nat_tests, d.links i', d.fit x);
  shown = λ i'. grind (arith, nat_tests, d.shown i', d.fit x);
  published = λ i'. grind (arith, nat_tests, d.published i', d.fit x);
  turns = λ i'. grind (arith, nat_tests, d.turns i', d.fit x);
  low = λ i' j'. grind (arith, nat_tests, d.low i' j', d.fit x);
  spare = λ i'. grind (arith, nat_tests, d.spare i', d.fit x);
  answer = λ i'. grind (arith, nat_tests, d.answer i', d.fit x);
  known = λ m'. grind (arith, nat_tests, d.known m', d.fit x);
  whom = λ m'. grind (arith, nat_tests, d.whom m', d.fit x);
  bound = λ i' hh hg. grind (arith, nat_tests, d.bound i', d.fit x, d.passed i' x, d.outside i', d.eras i');
  passed = λ i' m' hh hg ha hb. grind (arith, nat_tests, d.passed i' m', d.fit x);
  outside = λ i' hh. grind (arith, nat_tests, d.outside i', d.fit x);
}

pub moves_not-keeps : (c : Config) (v : View) (x e : ℕ) → x < c.seats → Parts c v → v.role x ≡ Moves e → Parts c (record v { role = upd v.role x Away })
moves_not-keeps c v x e b d q = record {
  fit = λ i'. grind (arith, nat_tests, d.fit i', d.fit x);
  marks = λ i' j'. grind (arith, nat_tests, d.marks i' j', d.fit x);
  tags = λ i'. grind (arith, nat_tests, d.tags i', d.fit x);
  taken = λ i'. grind (arith, nat_tests, d.taken i', d.fit x);
  timely = λ i'. grind (arith, nat_tests, d.timely i', d.fit x);
  clock = grind (arith, nat_tests, d.clock, d.fit x);
  eras = λ i'. grind (arith, nat_tests, d.eras i', d.fit x);
  helpers = λ i'. grind (arith, nat_tests, d.helpers i', d.fit x);
  indexes = λ i' j'. grind (arith, nat_tests, d.indexes i' j', d.fit x);
  movers = λ i' hh. grind (arith, nat_tests, d.movers i', d.fit x);
  links = λ i'. grind (arith, nat_tests, d.links i', d.fit x);
  shown = λ i'. grind (arith, nat_tests, d.shown i', d.fit x);
  published = λ i'. grind (arith, nat_tests, d.published i', d.fit x);
  turns = λ i'. grind (arith, nat_tests, d.turns i', d.fit x);
  low = λ i' j'. grind (arith, nat_tests, d.low i' j', d.fit x);
  spare = λ i'. grind (arith, nat_tests, d.spare i', d.fit x);
  answer = λ i'. grind (arith, nat_tests, d.answer i', d.fit x);
  known = λ m'. grind (arith, nat_tests, d.known m', d.fit x);
  whom = λ m'. grind (arith, nat_tests, d.whom m', d.fit x);
  bound = λ i' hh hg. grind (arith, nat_tests, d.bound i', d.fit x);
  passed = λ i' m' hh hg ha hb. grind (arith, nat_tests, d.passed i' m', d.fit x);
  outside = λ i' hh. grind (arith, nat_tests, d.outside i', d.fit x);
}
