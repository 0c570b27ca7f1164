-- Readers that find just what has this text, and how they are joined.
use Rattle.std.proofs.Common.{◌≡◌, ◌≤◌, ◌++◌, ◌∙◌, ℕ, Bool, true, false, List, [], ◌∷◌, Option, Some, None, refl, sym, ap, subst, arith, if◌then◌else◌, nat_le}
use Rattle.std.specs.Str.{bytes_eq}
use Rattle.std.proofs.lemmas.Bool.Decides.{nat_tests}
use Rattle.std.proofs.lemmas.Slice.Eq.{bytes_eq-Decides}
use Rattle.wfe_record_words.specs.Reader.{Read, given, word, one, two, three, four, done, has, first, Named, by, since, unknown}

-- the reader finds a value exactly where its text stands, and then what follows it
pub record Reads {A : Type 0} (read : Read A) (text : A → List (List ℕ)) (Is : A → Type 0) : Type 0 where
  pub sound : (ws : List (List ℕ)) (x : A) (rest : List (List ℕ)) → read ws ≡ Some (x, rest) → (ws ≡ text x ++ rest) × Is x
  pub complete : (x : A) (rest : List (List ℕ)) → Is x → read (text x ++ rest) ≡ Some (x, rest)

-- what is found after a value needs the value
pub given-some : {A B : Type 0} (o : Option A) (f : A → Option B) (y : B) → given o f ≡ Some y → (x : A) × (o ≡ Some x) × (f x ≡ Some y)
given-some None f y h = absurd (cc)
given-some (Some x) f y h = (x, refl, h)

-- what is found is found once
pub same_found : {A : Type 0} {x y : A} {v w : List (List ℕ)} → ◌≡◌ {A = Option (A × List (List ℕ))} (Some (x, v)) (Some (y, w)) → (x ≡ y) × (v ≡ w)
same_found {A = A} {x = x} {y = y} {v = v} {w = w} h =
    let e : ◌≡◌ {A = A × List (List ℕ)} (x, v) (y, w) = cc in
    (ap (λ p. p.0) e, ap (λ p. p.1) e)

word-sound : {A : Type 0} (read : List ℕ → Option A) (text : A → List ℕ) (Is : A → Type 0) → ((w : List ℕ) (x : A) → read w ≡ Some x → (w ≡ text x) × Is x)
    → (ws : List (List ℕ)) (x : A) (rest : List (List ℕ)) → word read ws ≡ Some (x, rest) → (ws ≡ text x ∷ rest) × Is x
word-sound read text Is sound [] x rest h = absurd (cc)
word-sound read text Is sound (w ∷ ws) x rest h =
    let (y, e, same) = given-some (read w) (λ x. Some (x, ws)) (x, rest) h in
    let (value, others) = same_found same in
    let (is, within) = sound w x (e ∙ ap (λ z. Some z) value) in
    (rw (is, others) refl, within)

-- a reader of one word
pub word_reads : {A : Type 0} (read : List ℕ → Option A) (text : A → List ℕ) (Is : A → Type 0) → ((w : List ℕ) (x : A) → read w ≡ Some x → (w ≡ text x) × Is x)
    → ((x : A) → Is x → read (text x) ≡ Some x) → Reads (word read) (λ x. text x ∷ []) Is
word_reads read text Is sound complete = record {
  sound = word-sound read text Is sound;
  complete = λ x rest is. rw (complete x is) refl;
}

-- the same reader, by another text or with another condition
pub reads_as : {A : Type 0} {read : Read A} {text : A → List (List ℕ)} {Is : A → Type 0} → Reads read text Is → (other : A → List (List ℕ)) (Also : A → Type 0)
    → ((x : A) → text x ≡ other x) → ((x : A) → Is x → Also x) → ((x : A) → Also x → Is x) → Reads read other Also
reads_as {read = read} {text = text} reads other Also same also is = record {
  sound = λ ws x rest h. let (e, w) = reads.sound ws x rest h in (e ∙ ap (λ t. t ++ rest) (same x), also x w);
  complete = λ x rest w. ap (λ t. read (t ++ rest)) (sym (same x)) ∙ reads.complete x rest (is x w);
}

-- what is said of a value and of what follows it is said of all
pub then_sound : {A C : Type 0} {read : Read A} {text : A → List (List ℕ)} {Is : A → Type 0} → Reads read text Is → (ws : List (List ℕ)) (f : A × List (List ℕ) → Option C) (y : C) (P : List (List ℕ) → Type 0)
    → given (read ws) f ≡ Some y → ((x : A) (vs : List (List ℕ)) → Is x → f (x, vs) ≡ Some y → P (text x ++ vs)) → P ws
then_sound {read = read} reads ws f y P h later =
    let (p, e, h1) = given-some (read ws) f y h in
    let (same, is) = reads.sound ws p.0 p.1 e in
    subst P (sym same) (later p.0 p.1 is h1)

-- one value is found, and then what follows it
pub step_found : {A : Type 0} {read : Read A} {text : A → List (List ℕ)} {Is : A → Type 0} → Reads read text Is → {B : Type 0} (later : A → Read B) (x : A) (rest : List (List ℕ))
    → Is x → given (read (text x ++ rest)) (λ p. later p.0 p.1) ≡ later x rest
step_found reads later x rest is = rw (reads.complete x rest is) refl

-- what follows a name says something exactly where its text begins with the name
abbrev pub Sound : {B : Type 0} → List ℕ → Read B → (B → List (List ℕ)) → (B → Type 0) → Type 0
Sound {B = B} name read text Is = (ws : List (List ℕ)) (y : B) (rest : List (List ℕ)) → read ws ≡ Some (y, rest) → (name ∷ ws ≡ text y ++ rest) × Is y

pub record Row {B : Type 0} (name : List ℕ) (read : Read B) (text : B → List (List ℕ)) (Is : B → Type 0) : Type 0 where
  pub sound : Sound name read text Is

-- a value by its equation
pub by_value : {B : Type 0} (text : B → List (List ℕ)) (Is : B → Type 0) (x y : B) (all vs rest : List (List ℕ)) → ◌≡◌ {A = Option (B × List (List ℕ))} (Some (x, vs)) (Some (y, rest))
    → (all ≡ text x ++ vs) × Is x → (all ≡ text y ++ rest) × Is y
by_value text Is x y all vs rest e p =
    let (same, others) = same_found e in
    (rw (sym same, sym others) p.0, rw (sym same) p.1)

pub row_none : {B : Type 0} (name : List ℕ) (x : B) (text : B → List (List ℕ)) (Is : B → Type 0) → ((v : List (List ℕ)) → (name ∷ v ≡ text x ++ v) × Is x) → Row name (done x) text Is
row_none name x text Is is = record { sound = λ ws y rest h. by_value text Is x y (name ∷ ws) ws rest h (is ws) }

pub row_one : {A B : Type 0} {a : Read A} {ta : A → List (List ℕ)} {Ia : A → Type 0} → Reads a ta Ia → (f : A → B) (name : List ℕ) (text : B → List (List ℕ)) (Is : B → Type 0)
    → ((x : A) (v : List (List ℕ)) → Ia x → (name ∷ (ta x ++ v) ≡ text (f x) ++ v) × Is (f x)) → Row name (one a f) text Is
row_one {ta = ta} a f name text Is is = record {
  sound = λ ws r rest h. then_sound a ws _ (r, rest) (λ v. (name ∷ v ≡ text r ++ rest) × Is r) h
      (λ x v1 i1 h1. by_value text Is (f x) r (name ∷ (ta x ++ v1)) v1 rest h1 (is x v1 i1));
}

pub row_two : {A B C : Type 0} {a : Read A} {b : Read B} {ta : A → List (List ℕ)} {tb : B → List (List ℕ)} {Ia : A → Type 0} {Ib : B → Type 0} → Reads a ta Ia → Reads b tb Ib
    → (f : A → B → C) (name : List ℕ) (text : C → List (List ℕ)) (Is : C → Type 0)
    → ((x : A) (y : B) (v : List (List ℕ)) → Ia x → Ib y → (name ∷ (ta x ++ (tb y ++ v)) ≡ text (f x y) ++ v) × Is (f x y)) → Row name (two a b f) text Is
row_two {ta = ta} {tb = tb} a b f name text Is is = record {
  sound = λ ws r rest h. then_sound a ws _ (r, rest) (λ v. (name ∷ v ≡ text r ++ rest) × Is r) h
      (λ x v1 i1 h1. then_sound b v1 _ (r, rest) (λ v. (name ∷ (ta x ++ v) ≡ text r ++ rest) × Is r) h1
      (λ y v2 i2 h2. by_value text Is (f x y) r (name ∷ (ta x ++ (tb y ++ v2))) v2 rest h2 (is x y v2 i1 i2)));
}

pub row_three : {A B C D : Type 0} {a : Read A} {b : Read B} {c : Read C} {ta : A → List (List ℕ)} {tb : B → List (List ℕ)} {tc : C → List (List ℕ)} {Ia : A → Type 0} {Ib : B → Type 0} {Ic : C → Type 0}
    → Reads a ta Ia → Reads b tb Ib → Reads c tc Ic → (f : A → B → C → D) (name : List ℕ) (text : D → List (List ℕ)) (Is : D → Type 0)
    → ((x : A) (y : B) (z : C) (v : List (List ℕ)) → Ia x → Ib y → Ic z → (name ∷ (ta x ++ (tb y ++ (tc z ++ v))) ≡ text (f x y z) ++ v) × Is (f x y z)) → Row name (three a b c f) text Is
row_three {ta = ta} {tb = tb} {tc = tc} a b c f name text Is is = record {
  sound = λ ws r rest h. then_sound a ws _ (r, rest) (λ v. (name ∷ v ≡ text r ++ rest) × Is r) h
      (λ x v1 i1 h1. then_sound b v1 _ (r, rest) (λ v. (name ∷ (ta x ++ v) ≡ text r ++ rest) × Is r) h1
      (λ y v2 i2 h2. then_sound c v2 _ (r, rest) (λ v. (name ∷ (ta x ++ (tb y ++ v)) ≡ text r ++ rest) × Is r) h2
      (λ z v3 i3 h3. by_value text Is (f x y z) r (name ∷ (ta x ++ (tb y ++ (tc z ++ v3)))) v3 rest h3 (is x y z v3 i1 i2 i3))));
}

pub row_four : {A B C D E : Type 0} {a : Read A} {b : Read B} {c : Read C} {d : Read D} {ta : A → List (List ℕ)} {tb : B → List (List ℕ)} {tc : C → List (List ℕ)} {td : D → List (List ℕ)}
    {Ia : A → Type 0} {Ib : B → Type 0} {Ic : C → Type 0} {Id : D → Type 0}
    → Reads a ta Ia → Reads b tb Ib → Reads c tc Ic → Reads d td Id → (f : A → B → C → D → E) (name : List ℕ) (text : E → List (List ℕ)) (Is : E → Type 0)
    → ((x : A) (y : B) (z : C) (w : D) (v : List (List ℕ)) → Ia x → Ib y → Ic z → Id w → (name ∷ (ta x ++ (tb y ++ (tc z ++ (td w ++ v)))) ≡ text (f x y z w) ++ v) × Is (f x y z w)) → Row name (four a b c d f) text Is
row_four {ta = ta} {tb = tb} {tc = tc} {td = td} a b c d f name text Is is = record {
  sound = λ ws r rest h. then_sound a ws _ (r, rest) (λ v. (name ∷ v ≡ text r ++ rest) × Is r) h
      (λ x v1 i1 h1. then_sound b v1 _ (r, rest) (λ v. (name ∷ (ta x ++ v) ≡ text r ++ rest) × Is r) h1
      (λ y v2 i2 h2. then_sound c v2 _ (r, rest) (λ v. (name ∷ (ta x ++ (tb y ++ v)) ≡ text r ++ rest) × Is r) h2
      (λ z v3 i3 h3. then_sound d v3 _ (r, rest) (λ v. (name ∷ (ta x ++ (tb y ++ (tc z ++ v))) ≡ text r ++ rest) × Is r) h3
      (λ w v4 i4 h4. by_value text Is (f x y z w) r (name ∷ (ta x ++ (tb y ++ (tc z ++ (td w ++ v4))))) v4 rest h4 (is x y z w v4 i1 i2 i3 i4)))));
}

has-since : (from version : ℕ) (u : Unit {0}) (fits : Bool) → nat_le from version ≡ fits → (if fits then Some tt else None) ≡ Some u → from ≤ version
has-since from version u true e h = grind (arith, nat_tests)
has-since from version u false e h = absurd (cc)

-- what is found only in later versions
pub since_known : {B : Type 0} (from version : ℕ) (read : Read B) (ws : List (List ℕ)) (y : B × List (List ℕ)) → since from version read ws ≡ Some y → (from ≤ version) × (read ws ≡ Some y)
since_known from version read ws y h =
    let (u, e, h1) = given-some (has from version) (λ u. read ws) y h in
    (has-since from version u (nat_le from version) refl e, h1)

-- a row that later versions have
pub row_since : {B : Type 0} (from version : ℕ) (name : List ℕ) (read : Read B) (text : B → List (List ℕ)) (Is : B → Type 0) → (from ≤ version → Row name read text Is) → Row name (since from version read) text Is
row_since from version name read text Is row = record {
  sound = λ ws y rest h.
      let (l, h1) = since_known from version read ws (y, rest) h in
      (row l).sound ws y rest h1;
}

pub since_found : {B : Type 0} (from version : ℕ) (read : Read B) (ws : List (List ℕ)) → from ≤ version → since from version read ws ≡ read ws
since_found from version read ws l = let fits : nat_le from version ≡ true = grind (arith, nat_tests) in rw fits refl

-- all rows of a table are sound
abbrev pub Rows : {B : Type 0} → List (Named B) → (B → List (List ℕ)) → (B → Type 0) → Type 0
Rows [] text Is = Unit {0}
Rows (line ∷ table) text Is = (Row line.0 line.1 text Is) × (Rows table text Is)

abbrev pub SoundBy : {B : Type 0} → (List ℕ → Read B) → (B → List (List ℕ)) → (B → Type 0) → Type 0
SoundBy read text Is = (w : List ℕ) → Sound w (read w) text Is

by-choice : {B : Type 0} (w name : List ℕ) (read other : Read B) (text : B → List (List ℕ)) (Is : B → Type 0) → Row name read text Is → Sound w other text Is
    → (same : Bool) → bytes_eq w name ≡ same → Sound w (if same then read else other) text Is
by-choice w name read other text Is row later true e ws y rest h =
    let is : w ≡ name = (bytes_eq-Decides w name).0 e in
    rw is (row.sound ws y rest h)
by-choice w name read other text Is row later false e ws y rest h = later ws y rest h

pub by_sound : {B : Type 0} (table : List (Named B)) (other : List ℕ → Read B) (text : B → List (List ℕ)) (Is : B → Type 0) → Rows table text Is → SoundBy other text Is → SoundBy (by table other) text Is
by_sound [] other text Is rows later w = later w
by_sound (line ∷ table) other text Is rows later w =
    by-choice w line.0 line.1 (by table other w) text Is rows.0 (by_sound table other text Is rows.1 later w) (bytes_eq w line.0) refl

pub unknown_sound : {B : Type 0} (text : B → List (List ℕ)) (Is : B → Type 0) → SoundBy (unknown {A = B}) text Is
unknown_sound text Is w ws y rest h = absurd (cc)

-- a reader by the next word
pub named_sound : {B : Type 0} (read : List ℕ → Read B) (text : B → List (List ℕ)) (Is : B → Type 0) → SoundBy read text Is
    → (ws : List (List ℕ)) (y : B) (rest : List (List ℕ)) → given (first ws) (λ p. read p.0 p.1) ≡ Some (y, rest) → (ws ≡ text y ++ rest) × Is y
named_sound read text Is sound [] y rest h = absurd (cc)
named_sound read text Is sound (w ∷ ws) y rest h = sound w ws y rest h
