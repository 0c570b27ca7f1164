-- The laws of the versions from 2 on are those of each history.
use Rattle.std.proofs.Common.{◌≡◌, ◌≤◌, ℕ, true, refl, ap, ◌∙◌, arith, nat_le}
use Rattle.std.proofs.lemmas.Bool.Decides.{nat_tests}
use Rattle.laws.specs.words.declared.config.Config.{Config}
use Rattle.laws.specs.defs.declared.event.Event.{Event}
use Rattle.laws.specs.defs.declared.event.Event.TheVariants as events
use Rattle.laws.specs.records.Record.{Past, Test, EachEntry}
use Rattle.laws.specs.HoldLaw.{guards_rest, rests_ok}
use Rattle.laws.specs.Good.{LawfulIsGood, rests_of, named_indexes}

-- where one test allows an entry the other does
implied : (a b : Test) → ((p : Past) (i : ℕ) (e : Event) → a p i e ≡ true → b p i e ≡ true) → (r : Past) → EachEntry a r → EachEntry b r
implied a b f r h before i e later cut = f before i e (h before i e later cut)

later_version : (version : ℕ) → 2 ≤ version → nat_le 2 version ≡ true
later_version version l = grind (arith, nat_tests)

named_later : (version : ℕ) (config : Config) → 2 ≤ version → named_indexes version config ≡ config
named_later version config l = rw (later_version version l) refl

rests_later : (version : ℕ) (config : Config) → 2 ≤ version → (p : Past) (i : ℕ) (e : Event) → rests_ok config p i e ≡ true → rests_of version config p i e ≡ true
rests_later version config l p i (events.End steps answer) h = ap (λ c. guards_rest c i p) (named_later version config l) ∙ h
rests_later version config l p i e h = refl

pub lawful_good : LawfulIsGood
lawful_good version config r l laws = record {
  calls = laws.calls;
  no_reuse = laws.no_reuse;
  once = laws.once;
  scans = laws.scans;
  eras = laws.eras;
  throughout = laws.holding.throughout;
  sources = laws.holding.sources;
  finds = laws.holding.finds;
  gots = laws.holding.gots;
  links = laws.holding.links;
  behind = laws.holding.behind;
  bare = laws.holding.bare;
  rests = implied (rests_ok config) (rests_of version config) (rests_later version config l) r laws.holding.rests;
  map = laws.map;
  queue = laws.queue;
  steps = laws.steps;
}
