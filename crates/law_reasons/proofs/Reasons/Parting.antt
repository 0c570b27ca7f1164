-- The reasons of a seat that leaves, and of a call that could not take a list over.
use Rattle.std.proofs.Common.{ℕ, zero, suc, ◌≡◌, Bool, true, false, List, [], ◌∷◌, ◌++◌, None, refl, ap, ◌∙◌, arith}
use Rattle.std.proofs.lemmas.Bool.Decides.{nat_tests}
use Rattle.std.specs.Prelude.{◌==◌, ◌||◌, is_none, nat_lt, not, if◌then◌else◌}
use Rattle.law_scans.specs.inv.model.defs.declared.call.Answer.TheVariants as answers
use Rattle.law_scans.specs.inv.model.defs.declared.event.Event.{Event}
use Rattle.law_scans.specs.inv.model.defs.declared.event.Event.TheVariants as events
use Rattle.law_scans.specs.inv.model.declared.post.Post.{Post}
use Rattle.law_scans.specs.inv.model.Desks.{Desk}
use Rattle.law_scans.specs.inv.model.Keep as keeps
use Rattle.law_scans.proofs.inv.model.Facts.{both, none_by}
use Rattle.law_scans.specs.inv.history.Record.{Past, begins}
use Rattle.law_scans.specs.inv.history.Record.Past.{Start, Then}
use Rattle.law_scans.specs.laws.AnswerLaw.{adopt_reason, adopted_else, stayed}
use Rattle.law_scans.specs.laws.HistoryAnswers.{is_bare_below}
use Rattle.law_scans.specs.laws.Lists.{adopts, has_left, is_adopted}
use Rattle.law_scans.specs.laws.StateAt.{stood_at, told_of, with_told}
use Rattle.law_reasons.proofs.Full.Since.{held_now}

-- nothing stands at any index
pub bare_all : (n i : ℕ) (p : Past) → ((j : ℕ) → stood_at i j p ≡ None) → is_bare_below n i p ≡ true
bare_all zero i p h = refl
bare_all (suc j) i p h = both (is_none (stood_at i j p)) (is_bare_below j i p) (none_by (stood_at i j p) (h j)) (bare_all j i p h)

-- a call that has told nothing of lists has taken none over: so another has, where one has
some_told : (before : List Event) (event : Event) → before ++ event ∷ [] ≡ [] → false ≡ true
some_told [] event h = absurd (cc)
some_told (first ∷ before) event h = absurd (cc)

own_else : (i place k : ℕ) (p : Past) (event : Event) → (i == k) ≡ true → with_told event (told_of i p) ≡ [] → (told_of i p ≡ [] → is_adopted place p ≡ true → adopted_else i place p ≡ true) → (adopts place event || is_adopted place p) ≡ true → adopted_else i place (Then p k event) ≡ true
own_else i place k p (events.Begin call) e t f h = rw e h
own_else i place k p (events.Got bucket version key value) e t f h = let x : false ≡ true = some_told (told_of i p) _ t in absurd (cc)
own_else i place k p (events.Put bucket version key value) e t f h = let x : false ≡ true = some_told (told_of i p) _ t in absurd (cc)
own_else i place k p (events.Removed bucket version key) e t f h = let x : false ≡ true = some_told (told_of i p) _ t in absurd (cc)
own_else i place k p (events.Queued number value) e t f h = let x : false ≡ true = some_told (told_of i p) _ t in absurd (cc)
own_else i place k p (events.Taken number value) e t f h = let x : false ≡ true = some_told (told_of i p) _ t in absurd (cc)
own_else i place k p (events.Copied from index slot) e t f h = let x : false ≡ true = some_told (told_of i p) _ t in absurd (cc)
own_else i place k p (events.Left count) e t f h = let x : false ≡ true = some_told (told_of i p) _ t in absurd (cc)
own_else i place k p (events.Adopted from count) e t f h = let x : false ≡ true = some_told (told_of i p) _ t in absurd (cc)
own_else i place k p event e t f h = rw e (f t h)

either_on : (a b c : Bool) → (b ≡ true → c ≡ true) → (a || b) ≡ true → (a || c) ≡ true
either_on true b c f h = refl
either_on false b c f h = f h

other_else : (i place k : ℕ) (p : Past) (event : Event) → (i == k) ≡ false → (is_adopted place p ≡ true → adopted_else i place p ≡ true) → (adopts place event || is_adopted place p) ≡ true → adopted_else i place (Then p k event) ≡ true
other_else i place k p (events.Begin call) e f h = rw e (f h)
other_else i place k p (events.Adopted from count) e f h = rw e (either_on (place == from) (is_adopted place p) (adopted_else i place p) f h)
other_else i place k p event e f h = rw e (f h)

one_else : (i place k : ℕ) (p : Past) (event : Event) (same : Bool) → (i == k) ≡ same → (told_of i p ≡ [] → is_adopted place p ≡ true → adopted_else i place p ≡ true) → (if same then with_told event (told_of i p) else told_of i p) ≡ [] → (adopts place event || is_adopted place p) ≡ true
    → adopted_else i place (Then p k event) ≡ true
one_else i place k p event true e f t h = own_else i place k p event e t f h
one_else i place k p event false e f t h = other_else i place k p event e (f t) h

else_adopted : (i place : ℕ) (p : Past) → told_of i p ≡ [] → is_adopted place p ≡ true → adopted_else i place p ≡ true
else_adopted i place Start t h = absurd (cc)
else_adopted i place (Then p k event) t h = one_else i place k p event (i == k) refl (else_adopted i place p) t h

-- by the word of its place
stayed_by : (word : ℕ) (left : Bool) → left ≡ nat_lt 0 word → (word == 0) ≡ true → not left ≡ true
stayed_by word left e z = let none : nat_lt 0 word ≡ false = grind (arith, nat_tests) in ap not (e ∙ none)

taken_by : (word : ℕ) (adopted : Bool) → adopted ≡ nat_lt 1 word → (word == 1) ≡ false → (word == 0) ≡ false → adopted ≡ true
taken_by word adopted e n z = let some : nat_lt 1 word ≡ true = grind (arith, nat_tests) in e ∙ some

pub untaken_reason : (i place word : ℕ) (p : Past) → (word == 1) ≡ false → has_left place p ≡ nat_lt 0 word → is_adopted place p ≡ nat_lt 1 word → told_of i p ≡ [] → adopt_reason i place p (keeps.not_taken word) ≡ true
untaken_reason i place word p n l a t = by (word == 0) refl
  where
    by : (none : Bool) → (word == 0) ≡ none → adopt_reason i place p (if none then answers.NotLeft else answers.AdoptedBefore) ≡ true
    by true e = held_now (begins i) (stayed place) p (stayed_by word (has_left place p) l e)
    by false e = else_adopted i place p t (taken_by word (is_adopted place p) a n e)

-- such a step tells nothing
pub untaken_told : (place : ℕ) (post : Post) (desk : Desk) (found : ℕ) → (found == 1) ≡ false → (keeps.taking place post desk (found == 1) found).told ≡ []
untaken_told place post desk found n = rw n refl
