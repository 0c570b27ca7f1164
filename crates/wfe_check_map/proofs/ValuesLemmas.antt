-- A key's value at a version is that of its last change up to there, to which the ways back lead.
use Rattle.std.specs.Prelude.{◌==◌, if◌then◌else◌, Bool, true, false, map, nat_lt}
use Rattle.std.proofs.Common.{◌≡◌, ℕ, ◌<◌, ◌≤◌, ◌+◌, List, length, get_or, suc, zero, refl, sym, ap, subst, ◌∙◌, arith, Option, Some, None, take, inl, inr}
use Rattle.std.proofs.lemmas.Bool.{cases_lt, cases_eq, eq-eqb, ne_eqb, lt-ltb, le-ltb}
use Rattle.std.proofs.lemmas.List.{get_or-map, length-map}
use Rattle.wfe_defs.specs.declared.fold.Change.{Change}
use Rattle.wfe_defs.specs.Pairs.{pairs_after, value_in, value_after}
use Rattle.wfe_defs.proofs.Values.{value_steps}
use Rattle.wfe_check_map.specs.declared.bucket.Mark.{Mark}
use Rattle.wfe_check_map.specs.declared.bucket.Step.{Step}
use Rattle.wfe_check_map.specs.Marks.{change_to, change_in, changes_in}
use Rattle.wfe_check_map.specs.Steps.{no_step, mark_in, numbered, key_at, IsLast, EndsAt, AreLinked, Reaches}

chosen : (b : Bool) (x y : Option ℕ) → b ≡ true → (if b then x else y) ≡ x
chosen b x y h = rw h refl

other : (b : Bool) (x y : Option ℕ) → b ≡ false → (if b then x else y) ≡ y
other b x y h = rw h refl

after_to : (before : Option ℕ) (changed key : ℕ) (value : Option ℕ) → value_after before (change_to changed value) key ≡ (if changed == key then value else before)
after_to before changed key None = refl
after_to before changed key (Some value) = refl

-- one change more
value_next : (steps : List Step) (version key : ℕ) → version < length steps →
    value_in (pairs_after (take (suc version) (changes_in (map mark_in steps)))) key
    ≡ (if key_at steps (suc version) == key then (numbered steps (suc version)).mark.value else value_in (pairs_after (take version (changes_in (map mark_in steps)))) key)
value_next steps version key h =
    let d = no_step.mark in
    let marks = map mark_in steps in
    let long : version < length marks = rw length-map h in
    let longer : version < length (changes_in marks) = rw length-map long in
    let one : version + 1 ≡ suc version = omega arith in
    let before = value_in (pairs_after (take version (changes_in marks))) key in
    let P : ℕ → Type 0 = λ n. value_in (pairs_after (take n (changes_in marks))) key ≡ value_after before (get_or (changes_in marks) version (change_in d)) key in
    subst P one (value_steps (changes_in marks) version (change_in d) key longer)
    ∙ ap (λ (x : Change). value_after before x key) (get_or-map change_in marks version d (change_in d) long)
    ∙ ap (λ (x : Mark). value_after before (change_in x) key) (get_or-map mark_in steps version no_step d h)
    ∙ after_to before (get_or steps version no_step).mark.key key (get_or steps version no_step).mark.value

pub value_numbered : (steps : List Step) (version key number : ℕ) → version ≤ length steps → IsLast key number version steps →
    (numbered steps number).mark.value ≡ value_in (pairs_after (take version (changes_in (map mark_in steps)))) key
value_numbered steps zero key number h last =
    let within = last.here.within in
    let none : number ≡ zero = omega arith in
    rw none refl
value_numbered steps (suc version) key number h last =
    let within = last.here.within in
    elim (cases_eq (key_at steps (suc version)) key) [
      | inl same ↦
          let at : number ≡ suc version = elim (cases_lt number (suc version)) [ inl below ↦ absurd (last.none (suc version) below (omega arith) same) | inr past ↦ omega arith ] in
          rw at (sym (value_next steps version key (omega arith) ∙ chosen _ _ _ (eq-eqb _ _ same)))
      | inr apart ↦
          let at : number ≤ version = elim (cases_lt version number) [
            | inl past ↦
                let is : number ≡ suc version = omega arith in
                let P : ℕ → Type 0 = λ (n : ℕ). key_at steps n ≡ key in
                absurd (apart (subst P is (last.here.same (omega arith))))
            | inr below ↦ below
          ] in
          let rest : IsLast key number version steps = record {
            here = record { within = at; same = last.here.same };
            none = λ j a b e. last.none j a (omega arith) e;
          } in
          value_numbered steps version key number (omega arith) rest ∙ sym (value_next steps version key (omega arith) ∙ other _ _ _ (ne_eqb _ _ apart))
    ]

-- a way back that leads to or before a version has passed no change of the key up to there
pub last_reached : (steps : List Step) (version key number : ℕ) → version ≤ length steps → number ≤ version → Reaches key number version steps → IsLast key number version steps
last_reached steps version key number h below reached =
    record { here = record { within = below; same = reached.here.same }; none = λ j a b e. reached.none j a b (omega arith) e }

-- at first
pub reached_first : (steps : List Step) (version key number : ℕ) → EndsAt key number steps → Reaches key number version steps
reached_first steps version key number ends = record { here = ends.here; none = λ j a b c e. ends.none j a c e }

-- one step back, by the longer way where that does not pass the version
pub reached_next : (steps : List Step) (version key number : ℕ) → AreLinked steps → version < number → Reaches key number version steps →
    (Reaches key (if nat_lt version (numbered steps number).skip then (numbered steps number).skip else (numbered steps number).before) version steps)
    × ((if nat_lt version (numbered steps number).skip then (numbered steps number).skip else (numbered steps number).before) < number)
reached_next steps version key zero links past reached = absurd (omega arith)
reached_next steps version key (suc earlier) links past reached =
    let within = reached.here.within in
    let link = links earlier (omega arith) in
    let skip = link.skip.within in
    let before = link.before.here.within in
    let same : key_at steps (suc earlier) ≡ key = reached.here.same (omega arith) in
    let step = numbered steps (suc earlier) in
    elim (cases_lt version step.skip) [
      | inl far ↦
          rw (lt-ltb version step.skip far)
          (record { here = record { within = omega arith; same = λ k. link.skip.same k ∙ same }; none = λ j a b. absurd (omega arith) }, omega arith)
      | inr near ↦
          rw (le-ltb version step.skip near) (
            record {
              here = record { within = omega arith; same = λ k. link.before.here.same k ∙ same };
              none = λ j a b d e. link.before.none j a (omega arith) (e ∙ sym same);
            },
            omega arith,
          )
    ]
