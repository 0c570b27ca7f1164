-- The life of a row by the record is that of the row.
use Rattle.std.proofs.Common.{ℕ, ◌≡◌, Bool, true, false, List, [], ◌∷◌, refl, ap, ◌∙◌, sym}
use Rattle.std.specs.Prelude.{◌==◌, if◌then◌else◌}
use Rattle.laws.specs.defs.declared.event.Event.{Event}
use Rattle.laws.specs.defs.declared.event.Event.TheVariants as events
use Rattle.inv_all.specs.rows.Rows.{Status, View, RowMove, made, is_taken, retire_in}
use Rattle.inv_all.specs.rows.Rows.Status.{Free, Claimed, Born, Linked, InQueue, Cut, Sealed, Listed}
use Rattle.inv_all.specs.rows.Rows.RowMove.{Stays, Claims, Bears, Drops, Links, Replaces, Appends, Pops, Reads, Seals, Lists, Returns, Adopts}
use Rattle.inv_all.proofs.rows.Fits.{MoveFits}
use Rattle.inv_all.specs.ends.Births.{given_by, given_all}
use Rattle.laws.specs.defs.Events.{is_of_rows}
use Rattle.inv_all.specs.ends.Told.{row_events}
use Rattle.laws.specs.records.Record.{Past, tells_of}
use Rattle.laws.specs.records.Record.Past.{Then}
use Rattle.laws.proofs.Along.{along}
use Rattle.laws.specs.StateAt.{born_by, birth_of, ended_by, retire_of}
use Rattle.inv_all.proofs.model.Facts.{number_is}
use Rattle.inv_all.proofs.rows.Made.{passed_taken, passed_retire}

-- the record after all that is told
pub retire_tells : (s i : ℕ) (told : List Event) (p : Past) → retire_of s (tells_of p i told) ≡ along (ended_by s) told (retire_of s p)
retire_tells s i [] p = refl
retire_tells s i (event ∷ told) p = retire_tells s i told (Then p i event)

pub retire_quiet : (s : ℕ) (event : Event) (x : ℕ) → is_of_rows event ≡ false → ended_by s event x ≡ x
retire_quiet s (events.Give slot birth) x h = absurd (cc)
retire_quiet s (events.Retire slot birth retire) x h = absurd (cc)
retire_quiet s event x h = refl

-- births are those of the last Give
born_given : (s : ℕ) (event : Event) (given : ℕ → ℕ) (x : ℕ) → x ≡ given s → born_by s event x ≡ given_by event given s
born_given s (events.Give slot birth) given x e = ap (λ (y : ℕ). if s == slot then birth else y) e
born_given s event given x e = e

pub birth_tells : (i : ℕ) (told : List Event) (p : Past) (given : ℕ → ℕ) → ((s : ℕ) → birth_of s p ≡ given s) → (s : ℕ) → birth_of s (tells_of p i told) ≡ given_all told given s
birth_tells i [] p given h s = h s
birth_tells i (event ∷ told) p given h s = birth_tells i told (Then p i event) (given_by event given) (λ t. born_given t event given (birth_of t p) (h t)) s

same_by : (v : View) (s slot x : ℕ) (y : Status) (a : Status) (same : Bool) → (s == slot) ≡ same → v.status slot ≡ a → is_taken a ≡ true → retire_in a ≡ retire_in y → (is_taken (v.status s) ≡ true → x ≡ retire_in (v.status s)) → is_taken (if s == slot then y else v.status s) ≡ true
    → x ≡ retire_in (if s == slot then y else v.status s)
same_by v s slot x y a true e f k q h t = let b : v.status s ≡ a = ap v.status (number_is s slot e) ∙ f in rw e (h (ap is_taken b ∙ k) ∙ ap retire_in b ∙ q)
same_by v s slot x y a false e f k q h t = let b : is_taken (v.status s) ≡ true = rw e at t in rw e (h b)

sets_by : (v : View) (s slot x era : ℕ) (y : Status) (same : Bool) → (s == slot) ≡ same → era ≡ retire_in y → (is_taken (v.status s) ≡ true → x ≡ retire_in (v.status s)) → is_taken (if s == slot then y else v.status s) ≡ true
    → (if s == slot then era else x) ≡ retire_in (if s == slot then y else v.status s)
sets_by v s slot x era y true e q h t = rw e q
sets_by v s slot x era y false e q h t = let b : is_taken (v.status s) ≡ true = rw e at t in rw e (h b)

frees_by : (v : View) (s slot x : ℕ) (same : Bool) → (s == slot) ≡ same → (is_taken (v.status s) ≡ true → x ≡ retire_in (v.status s)) → is_taken (if s == slot then Free else v.status s) ≡ true → x ≡ retire_in (if s == slot then Free else v.status s)
frees_by v s slot x true e h t = let b : false ≡ true = rw e at t in absurd (cc)
frees_by v s slot x false e h t = let b : is_taken (v.status s) ≡ true = rw e at t in rw e (h b)

both_by : (i bucket : ℕ) (v : View) (s slot old x : ℕ) (same : Bool) → (s == old) ≡ same → v.status slot ≡ Born i → v.status old ≡ Linked bucket → (is_taken (v.status s) ≡ true → x ≡ retire_in (v.status s))
    → is_taken (if s == old then Cut i else if s == slot then Linked bucket else v.status s) ≡ true → x ≡ retire_in (if s == old then Cut i else if s == slot then Linked bucket else v.status s)
both_by i bucket v s slot old x true e f g h t = let b : v.status s ≡ Linked bucket = ap v.status (number_is s old e) ∙ g in rw e (h (ap is_taken b) ∙ ap retire_in b)
both_by i bucket v s slot old x false e f g h t =
    let b : is_taken (if s == slot then Linked bucket else v.status s) ≡ true = rw e at t in
    rw e (same_by v s slot x (Linked bucket) (Born i) (s == slot) refl f refl refl h b)

pub retire_made : (i : ℕ) (v : View) (m : RowMove) (birth s x : ℕ) → MoveFits i v m → (is_taken (v.status s) ≡ true → x ≡ retire_in (v.status s)) → is_taken ((made i v m).status s) ≡ true → along (ended_by s) (row_events birth m) x ≡ retire_in ((made i v m).status s)
retire_made i v Stays birth s x f h t = h t
retire_made i v (Claims slot) birth s x f h t = sets_by v s slot x 0 (Claimed i) (s == slot) refl refl h t
retire_made i v (Bears slot born) birth s x f h t = same_by v s slot x (Born i) (Claimed i) (s == slot) refl f refl refl h t
retire_made i v (Drops slot) birth s x f h t = frees_by v s slot x (s == slot) refl h t
retire_made i v (Links bucket slot) birth s x f h t = same_by v s slot x (Linked bucket) (Born i) (s == slot) refl f refl refl h t
retire_made i v (Replaces bucket slot old) birth s x f h t = both_by i bucket v s slot old x (s == old) refl f.0 f.1 h t
retire_made i v (Appends slot) birth s x f h t = same_by v s slot x InQueue (Born i) (s == slot) refl f refl refl h t
retire_made i v (Pops slot next) birth s x f h t = same_by v s slot x (Cut i) InQueue (s == slot) refl f refl refl h t
retire_made i v (Reads slot born) birth s x f h t = h t
retire_made i v (Seals slot born retire) birth s x f h t = same_by v s slot x (Sealed i retire) (Cut i) (s == slot) refl f refl refl h t
retire_made i v (Lists slot born retire) birth s x f h t = sets_by v s slot x retire (Listed i retire) (s == slot) refl refl h t
retire_made i v (Returns slot) birth s x f h t = frees_by v s slot x (s == slot) refl h t
retire_made i v (Adopts from) birth s x f h t = h (sym (passed_taken from i (v.status s)) ∙ t) ∙ sym (passed_retire from i (v.status s))
