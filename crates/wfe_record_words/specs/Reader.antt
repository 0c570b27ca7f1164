-- How a line is read, word by word.
use Rattle.std.specs.Prelude.{◌==◌, ◌+◌, nat_lt, nat_le, ℕ, Bool, true, false, List, [], ◌∷◌, Option, Some, None, codes, if◌then◌else◌}
use Rattle.std.specs.Str.{bytes_eq}
use Rattle.wfe_words.specs.declared.config.Config.{Config}
use Rattle.wfe_defs.specs.declared.lifetime.Interval.{Interval}
use Rattle.wfe_defs.specs.declared.event.Guard.{Guard}
use Rattle.wfe_defs.specs.declared.event.Guard.TheVariants as guards
use Rattle.wfe_defs.specs.declared.event.Root.{Root}
use Rattle.wfe_defs.specs.declared.event.Root.TheVariants as roots
use Rattle.wfe_trace.specs.Words.{number_in}

-- what the first words say, if they have the form, and the words after them
abbrev pub Read : Type 0 → Type 0
Read A = List (List ℕ) → Option (A × List (List ℕ))

abbrev pub given : {A B : Type 0} → Option A → (A → Option B) → Option B
given None f = None
given (Some x) f = f x

infixl 10 ◌>>=◌
abbrev pub ◌>>=◌ : {A B : Type 0} → Read A → (A → Read B) → Read B
(read >>= later) ws = given (read ws) (λ p. later p.0 p.1)

-- the value, by no words
abbrev pub done : {A : Type 0} → A → Read A
done x ws = Some (x, ws)

-- no value
abbrev pub never : {A : Type 0} → Read A
never ws = None

abbrev pub one : {A B : Type 0} → Read A → (A → B) → Read B
one a f = do
  x ← a
  done (f x)

abbrev pub two : {A B C : Type 0} → Read A → Read B → (A → B → C) → Read C
two a b f = do
  x ← a
  y ← b
  done (f x y)

abbrev pub three : {A B C D : Type 0} → Read A → Read B → Read C → (A → B → C → D) → Read D
three a b c f = do
  x ← a
  y ← b
  z ← c
  done (f x y z)

abbrev pub four : {A B C D E : Type 0} → Read A → Read B → Read C → Read D → (A → B → C → D → E) → Read E
four a b c d f = do
  x ← a
  y ← b
  z ← c
  w ← d
  done (f x y z w)

-- the next word
abbrev pub first : Read (List ℕ)
first [] = None
first (w ∷ ws) = Some (w, ws)

-- whether no words are left
abbrev pub is_over : List (List ℕ) → Bool
is_over [] = true
is_over (w ∷ ws) = false

-- the value of all words
abbrev pub whole : {A : Type 0} → Option (A × List (List ℕ)) → Option A
whole o = given o (λ p. if is_over p.1 then Some p.0 else None)

-- a value that was found, and the words after it
abbrev pub found : {A : Type 0} → Option A → Read A
found o ws = given o (λ x. Some (x, ws))

-- what the next word says
abbrev pub word : {A : Type 0} → (List ℕ → Option A) → Read A
word read = do
  w ← first
  found (read w)

-- the number of 64 bits that a word writes
unfoldable pub any_number : List ℕ → Option ℕ
any_number w = number_in w

abbrev pub long : Read ℕ
long = word any_number

-- the number that a word writes, where it is below the limit
unfoldable pub number_below : ℕ → List ℕ → Option ℕ
number_below limit w = given (number_in w) (λ n. if nat_lt n limit then Some n else None)

abbrev pub below : ℕ → Read ℕ
below limit = word (number_below limit)

-- a number of 32 bits
abbrev pub short : Read ℕ
short = below 4294967296

abbrev pub seat : Config → Read ℕ
seat config = below config.seats

abbrev pub index : Config → Read ℕ
index config = below config.indexes

abbrev pub slot : Config → Read ℕ
slot config = below (config.slots + 1)

abbrev pub bucket : Config → Read ℕ
bucket config = below config.buckets

-- a number, or `none`
unfoldable pub value_in : List ℕ → Option (Option ℕ)
value_in w = if bytes_eq w (codes "none") then Some None else given (number_in w) (λ n. Some (Some n))

abbrev pub value : Read (Option ℕ)
value = word value_in

-- a row, or `none`
unfoldable pub shown_in : Config → List ℕ → Option (Option ℕ)
shown_in config w = if bytes_eq w (codes "none") then Some None else given (number_below (config.slots + 1) w) (λ slot. Some (Some slot))

abbrev pub shown : Config → Read (Option ℕ)
shown config = word (shown_in config)

-- an interval whose first number is this word
abbrev pub span_from : List ℕ → Read (Option Interval)
span_from w = do
  lo ← found (number_below 4294967296 w)
  hi ← short
  done (Some (record { lo = lo; hi = hi }))

-- an interval, or `none`
abbrev pub span : Read (Option Interval)
span = do
  w ← first
  if bytes_eq w (codes "none") then done None else span_from w

-- the parts of a text that has one more byte in front, which may be the one that parts it
abbrev pub cut_more : (at : Bool) → ℕ → List ℕ → List ℕ × Option (List ℕ) → List ℕ × Option (List ℕ)
cut_more true c cs parts = ([], Some cs)
cut_more false c cs parts = (c ∷ parts.0, parts.1)

-- what stands before the first such byte, and what stands after it
abbrev pub cut : ℕ → List ℕ → List ℕ × Option (List ℕ)
cut b [] = ([], None)
cut b (c ∷ cs) = cut_more (c == b) c cs (cut b cs)

abbrev pub index_guard : Config → List ℕ × Option (List ℕ) → Option Guard
index_guard config parts =
    given parts.1 (λ after. given (number_below config.seats parts.0) (λ s. given (number_below config.indexes after) (λ j. Some (guards.Index s j))))

unfoldable pub guard_in : Config → List ℕ → Option Guard
guard_in config [] = None
guard_in config (c ∷ cs) =
    if c == 104 then given (number_below config.seats cs) (λ s. Some (guards.Helper s)) else
    if c == 118 then given (number_below config.seats cs) (λ s. Some (guards.Whole s)) else
    if c == 105 then index_guard config (cut 46 cs) else None

abbrev pub guard : Config → Read Guard
guard config = word (guard_in config)

-- a root that a letter and a number name
abbrev pub numbered_root : Config → List ℕ → Option Root
numbered_root config [] = None
numbered_root config (c ∷ cs) =
    if c == 98 then given (number_below config.buckets cs) (λ b. Some (roots.Bucket b)) else
    if c == 110 then given (number_below (config.slots + 1) cs) (λ s. Some (roots.Next s)) else None

unfoldable pub root_in : Config → List ℕ → Option Root
root_in config w =
    if bytes_eq w (codes "head") then Some roots.Head else
    if bytes_eq w (codes "tail") then Some roots.Tail else numbered_root config w

abbrev pub root : Config → Read Root
root config = word (root_in config)

-- a name, and how the words after it are read
abbrev pub Named : Type 0 → Type 0
Named A = List ℕ × Read A

-- how the words after a name are read: as a table says, or in another way
abbrev pub by : {A : Type 0} → List (Named A) → (List ℕ → Read A) → List ℕ → Read A
by [] other w = other w
by (line ∷ table) other w = if bytes_eq w line.0 then line.1 else by table other w

abbrev pub unknown : {A : Type 0} → List ℕ → Read A
unknown w = never

-- whether the version has what the first such version brought
abbrev pub has : (from version : ℕ) → Option (Unit {0})
has from version = if nat_le from version then Some tt else None

abbrev pub since : {A : Type 0} → (from version : ℕ) → Read A → Read A
since from version read ws = given (has from version) (λ u. read ws)
