-- The record of a history is good, by the laws of the first version too: nothing stands at an index above 2 where no call copies.
use Rattle.std.proofs.Common.{◌≡◌, ◌≤◌, ◌&&◌, ◌||◌, ◌==◌, ◌∙◌, if◌then◌else◌, List, [], ℕ, zero, suc, Bool, true, false, Option, Some, ap, arith, inl, inr, is_none, nat_lt, refl, subst}
use Rattle.std.proofs.lemmas.Bool.{cases_lt}
use Rattle.std.proofs.lemmas.Bool.Decides.{nat_tests}
use Rattle.wfe_defs.proofs.Facts.{rest_of}
use Rattle.laws.proofs.Lawful.{lawful_good}
use Rattle.laws.specs.Good.{Good, rests_of}
use Rattle.law_printed.specs.OfVersion.{AreOf}
use Rattle.laws.specs.HistoryHolds.{IndexLaw, indexes_ok, protects_at}
use Rattle.laws.specs.HoldLaw.{guards_rest, indexes_rest, index_rests, is_alike, keeps_none, rests_ok, words_rest}
use Rattle.laws.specs.Laws.{Laws}
use Rattle.laws.specs.StateAt.{began_of, is_bare, is_empty, standing_by, standing_of, value_of, without_row}
use Rattle.wfe_defs.specs.Shown.{shown}
use Rattle.wfe_defs.specs.declared.call.Call.{Call}
use Rattle.wfe_defs.specs.declared.call.Call.TheVariants as calls
use Rattle.wfe_defs.specs.declared.event.Event.{Event}
use Rattle.wfe_defs.specs.declared.event.Event.TheVariants as events
use Rattle.wfe_defs.specs.declared.event.Guard.TheVariants.{Helper, Whole}
use Rattle.laws.specs.records.Record.{Each, Past}
use Rattle.laws.specs.records.Record.Past.{Start, Then}
use Rattle.laws.specs.words.Schemes.{has_one_interval}
use Rattle.laws.specs.words.declared.config.Config.{Config}
use Rattle.laws.specs.words.declared.config.SchemeKind.{SchemeKind}
use Rattle.laws.proofs.records.Entries.{each_of_entries, entries_of_each}

low : (call : Option Call) (index : ℕ) → protects_at call index ≡ true → index ≤ 2
low (Some (calls.Get key)) index h = grind (arith, nat_tests)
low (Some (calls.Put key value)) index h = grind (arith, nat_tests)
low (Some (calls.Remove key)) index h = grind (arith, nat_tests)
low (Some (calls.PutIf key value version)) index h = grind (arith, nat_tests)
low (Some (calls.Enqueue value)) index h = grind (arith, nat_tests)
low (Some calls.Dequeue) index h = grind (arith, nat_tests)
low (Some (calls.Hold key)) index h = grind (arith, nat_tests)
low call index h = absurd (cc)

apart : (j index : ℕ) → 3 ≤ j → index ≤ 2 → (j == index) ≡ false
apart j index high less = grind (arith, nat_tests)

cleared_none : (own : Bool) (slot : ℕ) → (if own then without_row slot [] else []) ≡ []
cleared_none true slot = refl
cleared_none false slot = refl

-- no event of the first version makes a row stand at such an index
event_bare : (j i : ℕ) (p : Past) (event : Event) → 3 ≤ j → indexes_ok p i event ≡ true → AreOf 1 (Then p i event) → standing_by j event [] ≡ []
event_bare j i p (events.Held index slot steps) high ok of = rw (apart j index high (low (began_of i p) index ok)) refl
event_bare j i p (events.Copied from index slot) high ok of = absurd (omega (arith, of.1))
event_bare j i p (events.Clear index slot) high ok of = cleared_none (j == index) slot
event_bare j i p event high ok of = refl

own_bare : (own : Bool) (rows more : List ℕ) → rows ≡ [] → more ≡ [] → (if own then rows else more) ≡ []
own_bare true rows more h g = h
own_bare false rows more h g = g

bare_above : (k j : ℕ) (p : Past) → 3 ≤ j → Each indexes_ok p → AreOf 1 p → standing_of k j p ≡ []
bare_above k j Start high ok of = refl
bare_above k j (Then p i event) high ok of =
    let before : standing_of k j p ≡ [] = bare_above k j p high ok.1 of.0 in
    own_bare (k == i) (standing_by j event (standing_of k j p)) (standing_of k j p) (ap (standing_by j event) before ∙ event_bare j i p event high ok.0 of) before

or_true : (a : Bool) → (a || true) ≡ true
or_true true = refl
or_true false = refl

last_bare : (i j : ℕ) (p : Past) → standing_of i j p ≡ [] → ((nat_lt j 2 || is_bare i j p) && keeps_none i p j) ≡ keeps_none i p j
last_bare i j p h =
    let bare : is_bare i j p ≡ true = ap is_empty h in
    let all : (nat_lt j 2 || is_bare i j p) ≡ true = ap (λ b. nat_lt j 2 || b) bare ∙ or_true (nat_lt j 2) in
    ap (λ b. b && keeps_none i p j) all

keeps_first : (i : ℕ) (p : Past) (n : ℕ) → 3 ≤ n → ((j : ℕ) → 3 ≤ j → standing_of i j p ≡ []) → keeps_none i p n ≡ keeps_none i p 3
keeps_first i p zero high bare = absurd (omega (arith, high))
keeps_first i p (suc n) high bare = elim (cases_lt 2 n) [
  | inl more ↦ last_bare i n p (bare n (omega (arith, more))) ∙ keeps_first i p n (omega (arith, more)) bare
  | inr last ↦ let here : suc n ≡ 3 = omega (arith, high, last) in ap (keeps_none i p) here
]

rest_first : (scheme : SchemeKind) (i : ℕ) (p : Past) (n : ℕ) → 3 ≤ n → indexes_rest scheme i p n ≡ true → indexes_rest scheme i p 3 ≡ true
rest_first scheme i p zero high h = absurd (omega (arith, high))
rest_first scheme i p (suc n) high h = elim (cases_lt 2 n) [
  | inl more ↦ rest_first scheme i p n (omega (arith, more)) (rest_of (index_rests scheme i p n) (indexes_rest scheme i p n) h)
  | inr last ↦ let here : suc n ≡ 3 = omega (arith, high, last) in subst (λ m. indexes_rest scheme i p m ≡ true) here h
]

and_first : (a b c : Bool) → (b ≡ true → c ≡ true) → (a && b) ≡ true → (a && c) ≡ true
and_first true b c f h = f h
and_first false b c f h = h

either : (own a b c d : Bool) → (a ≡ true → c ≡ true) → (b ≡ true → d ≡ true) → (if own then a else b) ≡ true → (if own then c else d) ≡ true
either true a b c d f g h = f h
either false a b c d f g h = g h

guards_first : (config : Config) (i : ℕ) (p : Past) → 3 ≤ config.indexes → ((j : ℕ) → 3 ≤ j → standing_of i j p ≡ []) → guards_rest config i p ≡ true → guards_rest (record config { indexes = 3 }) i p ≡ true
guards_first config i p high bare h =
    either (has_one_interval config.scheme) (is_alike (shown (value_of (Whole i) p)) (keeps_none i p config.indexes)) (words_rest config i p) (is_alike (shown (value_of (Whole i) p)) (keeps_none i p 3)) (words_rest (record config { indexes = 3 }) i p)
    (λ spans. subst (λ b. is_alike (shown (value_of (Whole i) p)) b ≡ true) (keeps_first i p config.indexes high bare) spans)
    (and_first (is_none (value_of (Helper i) p)) (indexes_rest config.scheme i p config.indexes) (indexes_rest config.scheme i p 3) (rest_first config.scheme i p config.indexes high))
    h

end_first : (config : Config) (i : ℕ) (p : Past) (event : Event) → 3 ≤ config.indexes → Each indexes_ok p → AreOf 1 p → rests_ok config p i event ≡ true → rests_of 1 config p i event ≡ true
end_first config i p (events.End steps answer) high ok of h = guards_first config i p high (λ j above. bare_above i j p above ok of) h
end_first config i p event high ok of h = refl

rests_first : (config : Config) (p : Past) → 3 ≤ config.indexes → Each (rests_ok config) p → Each indexes_ok p → AreOf 1 p → Each (rests_of 1 config) p
rests_first config Start high rests ok of = tt
rests_first config (Then p i event) high rests ok of = (end_first config i p event high ok.1 of.0 rests.0, rests_first config p high rests.1 ok.1 of.0)

first_good : (config : Config) (r : Past) → 3 ≤ config.indexes → Laws config r → IndexLaw r → AreOf 1 r → Good 1 config r
first_good config r high laws indexes of = record {
  calls = laws.calls;
  no_reuse = laws.no_reuse;
  once = laws.once;
  scans = laws.scans;
  eras = laws.eras;
  throughout = laws.holding.throughout;
  sources = laws.holding.sources;
  finds = laws.holding.finds;
  gots = laws.holding.gots;
  links = laws.holding.links;
  behind = laws.holding.behind;
  bare = laws.holding.bare;
  rests = entries_of_each (rests_of 1 config) r (rests_first config r high (each_of_entries (rests_ok config) r laws.holding.rests) (each_of_entries indexes_ok r indexes) of);
  map = laws.map;
  queue = laws.queue;
  steps = laws.steps;
}

-- the record of a history is good, by the laws of each version
pub history_good : (version : ℕ) (config : Config) (r : Past) → 1 ≤ version → 3 ≤ config.indexes → Laws config r → IndexLaw r → AreOf version r → Good version config r
history_good zero config r first high laws indexes of = absurd (omega (arith, first))
history_good (suc zero) config r first high laws indexes of = first_good config r high laws indexes of
history_good (suc (suc n)) config r first high laws indexes of = lawful_good (suc (suc n)) config r (omega arith) laws
