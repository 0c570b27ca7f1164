-- Each deleter is called once at most, and only where its slot goes back.
use Rattle.std.proofs.Common.{ℕ, ◌≡◌, ◌⊎◌, inl, inr, ◌<◌, ◌+◌, Bool, true, false, List, [], ◌∷◌, ◌++◌, refl, sym, ap, ◌∙◌, subst, arith}
use Rattle.std.proofs.lemmas.Bool.{or_cases, or_from}
use Rattle.std.proofs.lemmas.Bool.Decides.{nat_tests}
use Rattle.std.proofs.lemmas.List.{append-nil}
use Rattle.std.specs.List.{list_any}
use Rattle.std.specs.Prelude.{◌==◌, ◌&&◌, ◌||◌, not, if◌then◌else◌, Option, None, Some}
use Rattle.laws.specs.NoReuse.{is_reuse}
use Rattle.laws.specs.StateAt.{stands, taken_at}
use Rattle.laws.specs.records.Record.{Past, tells}
use Rattle.laws.specs.records.Record.Past.{Start, Then}
use Rattle.laws.proofs.records.defs.Facts.{number_is, same_number}
use Rattle.wfe_final.specs.defs.Entry.{Entry, entry}
use Rattle.wfe_final.specs.defs.declared.event.Event.{Event}
use Rattle.wfe_final.specs.defs.declared.event.Event.TheVariants as events
use Rattle.wfe_final.specs.Calls.{attached, attached_to, attaches, called}
use Rattle.wfe_final.specs.CalledOnce.{DeletersCalledOnce, IsAttached, gives_back, is_back_of}
use Rattle.wfe_final.specs.Slots.{call_of}
use Rattle.wfe_final.proofs.CallsLemmas.{attached_most, tells-snoc}

-- the number is among those of calls
abbrev has_number : ℕ → List (ℕ × ℕ) → Bool
has_number number calls = list_any (λ (call : ℕ × ℕ). call.0 == number) calls

any-append : {X : Type 0} (f : X → Bool) (xs ys : List X) → list_any f (xs ++ ys) ≡ (list_any f xs || list_any f ys)
any-append f [] ys = refl
any-append f (x ∷ xs) ys = by (f x) (any-append f xs ys)
  where
    by : (b : Bool) → list_any f (xs ++ ys) ≡ (list_any f xs || list_any f ys) → (b || list_any f (xs ++ ys)) ≡ ((b || list_any f xs) || list_any f ys)
    by true h = refl
    by false h = h

-- What is called, what is held for a call by each slot, and how many were attached: no number is twice anywhere.
record Numbers (calls : List (ℕ × ℕ)) (held : ℕ → Option ℕ) (many : ℕ) : Type 0 where
  gone : (m : ℕ) → has_number m calls ≡ true → m < many
  few : (s m : ℕ) → held s ≡ Some m → m < many
  fresh : (s m : ℕ) → held s ≡ Some m → has_number m calls ≡ false
  alone : (s t m : ℕ) → held s ≡ Some m → held t ≡ Some m → s ≡ t

-- a deleter more is attached
abbrev put : (slot : ℕ) → Option ℕ → (ℕ → Option ℕ) → ℕ → Option ℕ
put slot now held s = if s == slot then now else held s

some_is : (a b : ℕ) → ◌≡◌ {A = Option ℕ} (Some a) (Some b) → a ≡ b
some_is a b h = cc

none_is : (a : ℕ) → ◌≡◌ {A = Option ℕ} None (Some a) → ⊥
none_is a h = cc

-- what a slot has then: what it was given, or what it had
put_cases : (slot s m : ℕ) (now : Option ℕ) (held : ℕ → Option ℕ) → put slot now held s ≡ Some m → ((s ≡ slot) × (now ≡ Some m)) ⊎ ((s ≡ slot → ⊥) × (held s ≡ Some m))
put_cases slot s m now held h = by (s == slot) refl h
  where
    by : (same : Bool) → (s == slot) ≡ same → (if same then now else held s) ≡ Some m → ((s ≡ slot) × (now ≡ Some m)) ⊎ ((s ≡ slot → ⊥) × (held s ≡ Some m))
    by true e h = inl (number_is s slot e, h)
    by false e h = inr (grind (arith, nat_tests), h)

not_gone : (calls : List (ℕ × ℕ)) (held : ℕ → Option ℕ) (many : ℕ) → Numbers calls held many → (there : Bool) → has_number many calls ≡ there → there ≡ false
not_gone calls held many n true e = absurd (omega (arith, n.gone many e))
not_gone calls held many n false e = refl

numbers_attach : (calls : List (ℕ × ℕ)) (held : ℕ → Option ℕ) (many slot : ℕ) → Numbers calls held many → Numbers calls (put slot (Some many) held) (many + 1)
numbers_attach calls held many slot n = record {
  gone = λ m h. omega (arith, n.gone m h);
  few = λ s m h. few s m (put_cases slot s m (Some many) held h);
  fresh = λ s m h. fresh s m (put_cases slot s m (Some many) held h);
  alone = λ s t m h k. alone s t m (put_cases slot s m (Some many) held h) (put_cases slot t m (Some many) held k);
}
  where
    few : (s m : ℕ) → ((s ≡ slot) × (Some many ≡ Some m)) ⊎ ((s ≡ slot → ⊥) × (held s ≡ Some m)) → m < many + 1
    few s m (inl a) = omega (arith, some_is many m a.1)
    few s m (inr a) = omega (arith, n.few s m a.1)

    fresh : (s m : ℕ) → ((s ≡ slot) × (Some many ≡ Some m)) ⊎ ((s ≡ slot → ⊥) × (held s ≡ Some m)) → has_number m calls ≡ false
    fresh s m (inl a) = subst (λ (k : ℕ). has_number k calls ≡ false) (some_is many m a.1) (not_gone calls held many n (has_number many calls) refl)
    fresh s m (inr a) = n.fresh s m a.1

    alone : (s t m : ℕ) → ((s ≡ slot) × (Some many ≡ Some m)) ⊎ ((s ≡ slot → ⊥) × (held s ≡ Some m)) → ((t ≡ slot) × (Some many ≡ Some m)) ⊎ ((t ≡ slot → ⊥) × (held t ≡ Some m)) → s ≡ t
    alone s t m (inl a) (inl b) = a.0 ∙ sym b.0
    alone s t m (inl a) (inr b) = absurd (omega (arith, some_is many m a.1, n.few t m b.1))
    alone s t m (inr a) (inl b) = absurd (omega (arith, some_is many m b.1, n.few s m a.1))
    alone s t m (inr a) (inr b) = n.alone s t m a.1 b.1

-- a slot's deleter is called
one_number : (m k slot : ℕ) → has_number m ((k, slot) ∷ []) ≡ true → k ≡ m
one_number m k slot h = by (k == m) refl h
  where
    by : (same : Bool) → (k == m) ≡ same → (same || false) ≡ true → k ≡ m
    by true e h = number_is k m e
    by false e h = absurd (cc)

numbers_settle : (calls : List (ℕ × ℕ)) (held : ℕ → Option ℕ) (many slot : ℕ) → Numbers calls held many → Numbers (calls ++ call_of (held slot) slot) (put slot None held) many
numbers_settle calls held many slot n = record {
  gone = λ m h. gone m (held slot) refl (or_cases (has_number m calls) (has_number m (call_of (held slot) slot)) (sym (any-append (λ (call : ℕ × ℕ). call.0 == m) calls (call_of (held slot) slot)) ∙ h));
  few = λ s m h. few s m (put_cases slot s m None held h);
  fresh = λ s m h. fresh s m (put_cases slot s m None held h);
  alone = λ s t m h k. alone s t m (put_cases slot s m None held h) (put_cases slot t m None held k);
}
  where
    gone : (m : ℕ) (now : Option ℕ) → held slot ≡ now → (has_number m calls ≡ true) ⊎ (has_number m (call_of now slot) ≡ true) → m < many
    gone m now e (inl h) = n.gone m h
    gone m None e (inr h) = absurd (cc)
    gone m (Some k) e (inr h) = n.few slot m (e ∙ ap Some (one_number m k slot h))

    few : (s m : ℕ) → ((s ≡ slot) × (None ≡ Some m)) ⊎ ((s ≡ slot → ⊥) × (held s ≡ Some m)) → m < many
    few s m (inl a) = absurd (none_is m a.1)
    few s m (inr a) = n.few s m a.1

    other : (s m : ℕ) (now : Option ℕ) → held slot ≡ now → (s ≡ slot → ⊥) → held s ≡ Some m → (there : Bool) → has_number m (call_of now slot) ≡ there → there ≡ false
    other s m now e d h false t = refl
    other s m None e d h true t = absurd (cc)
    other s m (Some k) e d h true t = absurd (d (n.alone s slot m h (e ∙ ap Some (one_number m k slot t))))

    fresh : (s m : ℕ) → ((s ≡ slot) × (None ≡ Some m)) ⊎ ((s ≡ slot → ⊥) × (held s ≡ Some m)) → has_number m (calls ++ call_of (held slot) slot) ≡ false
    fresh s m (inl a) = absurd (none_is m a.1)
    fresh s m (inr a) =
        any-append (λ (call : ℕ × ℕ). call.0 == m) calls (call_of (held slot) slot)
        ∙ or_from (has_number m calls) (has_number m (call_of (held slot) slot)) (n.fresh s m a.1) (other s m (held slot) refl a.0 a.1 (has_number m (call_of (held slot) slot)) refl)

    alone : (s t m : ℕ) → ((s ≡ slot) × (None ≡ Some m)) ⊎ ((s ≡ slot → ⊥) × (held s ≡ Some m)) → ((t ≡ slot) × (None ≡ Some m)) ⊎ ((t ≡ slot → ⊥) × (held t ≡ Some m)) → s ≡ t
    alone s t m (inl a) k = absurd (none_is m a.1)
    alone s t m (inr a) (inl b) = absurd (none_is m b.1)
    alone s t m (inr a) (inr b) = n.alone s t m a.1 b.1

-- along a record
numbers : (slots stored : ℕ) (p : Past) → Numbers (called slots stored p) (λ s. attached_to slots stored s p) (attached slots stored p)
numbers slots stored Start = record { gone = λ m h. absurd (cc); few = λ s m h. absurd (none_is m h); fresh = λ s m h. refl; alone = λ s t m h k. absurd (none_is m h) }
numbers slots stored (Then p i (events.Retire slot birth retire)) = by (attaches slots stored p many (events.Retire slot birth retire)) (numbers slots stored p)
  where
    many : ℕ
    many = attached slots stored p

    by : (attaching : Bool) → Numbers (called slots stored p) (λ s. attached_to slots stored s p) many → Numbers (called slots stored p) (λ s. if attaching && s == slot then Some many else attached_to slots stored s p) (if attaching then many + 1 else many)
    by true n = numbers_attach (called slots stored p) (λ s. attached_to slots stored s p) many slot n
    by false n = n
numbers slots stored (Then p i (events.Back slot)) = numbers_settle (called slots stored p) (λ s. attached_to slots stored s p) (attached slots stored p) slot (numbers slots stored p)
numbers slots stored (Then p i event) = numbers slots stored p

-- the Retire at which a deleter was attached
attached_on : (slots stored slot number i : ℕ) (p : Past) (event : Event) → is_back_of slot event ≡ false → IsAttached slots stored slot number p → IsAttached slots stored slot number (Then p i event)
attached_on slots stored slot number i p event quiet a =
    let x : Entry = entry i event in
    record {
      from = a.from;
      seat = a.seat;
      birth = a.birth;
      retire = a.retire;
      until = a.until ++ x ∷ [];
      cut = ap (λ (q : Past). Then q i event) a.cut ∙ sym (tells-snoc (Then a.from a.seat (events.Retire slot a.birth a.retire)) a.until x);
      attaching = a.attaching;
      number_is = a.number_is;
      kept = any-append (gives_back slot) a.until (x ∷ []) ∙ or_from (list_any (gives_back slot) a.until) (is_back_of slot event || false) a.kept (or_from (is_back_of slot event) false quiet refl);
    }

attached_where : (slots stored slot number : ℕ) (p : Past) → attached_to slots stored slot p ≡ Some number → IsAttached slots stored slot number p
attached_where slots stored slot number Start h = absurd (none_is number h)
attached_where slots stored slot number (Then p i (events.Retire other birth retire)) h =
    by (attaches slots stored p many (events.Retire other birth retire)) refl (slot == other) refl (attached_where slots stored slot number p) h
  where
    many : ℕ
    many = attached slots stored p

    here : slot ≡ other → attaches slots stored p many (events.Retire other birth retire) ≡ true → ◌≡◌ {A = Option ℕ} (Some many) (Some number) → IsAttached slots stored slot number (Then p i (events.Retire other birth retire))
    here one e h = record {
      from = p;
      seat = i;
      birth = birth;
      retire = retire;
      until = [];
      cut = ap (λ (n : ℕ). Then p i (events.Retire n birth retire)) (sym one);
      attaching = ap (λ (n : ℕ). attaches slots stored p many (events.Retire n birth retire)) one ∙ e;
      number_is = some_is many number h;
      kept = refl;
    }

    by : (attaching : Bool) → attaches slots stored p many (events.Retire other birth retire) ≡ attaching → (same : Bool) → (slot == other) ≡ same → (attached_to slots stored slot p ≡ Some number → IsAttached slots stored slot number p)
        → (if attaching && same then Some many else attached_to slots stored slot p) ≡ Some number → IsAttached slots stored slot number (Then p i (events.Retire other birth retire))
    by true e true s g h = here (number_is slot other s) e h
    by true e false s g h = attached_on slots stored slot number i p (events.Retire other birth retire) refl (g h)
    by false e same s g h = attached_on slots stored slot number i p (events.Retire other birth retire) refl (g h)
attached_where slots stored slot number (Then p i (events.Back other)) h = by (slot == other) refl (attached_where slots stored slot number p) h
  where
    by : (same : Bool) → (slot == other) ≡ same → (attached_to slots stored slot p ≡ Some number → IsAttached slots stored slot number p) → (if same then None else attached_to slots stored slot p) ≡ Some number → IsAttached slots stored slot number (Then p i (events.Back other))
    by true e g h = absurd (none_is number h)
    by false e g h = attached_on slots stored slot number i p (events.Back other) e (g h)
attached_where slots stored slot number (Then p i event) h = attached_on slots stored slot number i p event refl (attached_where slots stored slot number p h)

-- a list with one element more, cut at an element: there, or before it
record Last {X : Type 0} (xs before later : List X) (x one : X) : Type 0 where
  front : xs ≡ before
  same : x ≡ one

record Earlier {X : Type 0} (xs before : List X) (one : X) : Type 0 where
  rest : List X
  front : xs ≡ before ++ one ∷ rest

not_nil : {X : Type 0} (xs ys : List X) (x : X) → [] ≡ xs ++ x ∷ ys → ⊥
not_nil [] ys x h = cc
not_nil (y ∷ xs) ys x h = cc

tail_of : {X : Type 0} (x y : X) (xs ys : List X) → x ∷ xs ≡ y ∷ ys → (x ≡ y) × (xs ≡ ys)
tail_of x y xs ys h = (cc, cc)

cut_last : {X : Type 0} (xs before later : List X) (x one : X) → xs ++ x ∷ [] ≡ before ++ one ∷ later → Last xs before later x one ⊎ Earlier xs before one
cut_last [] [] later x one h = let t = tail_of x one [] later h in inl (record { front = refl; same = t.0 })
cut_last [] (y ∷ before) later x one h = let t = tail_of x y [] (before ++ one ∷ later) h in absurd (not_nil before later one t.1)
cut_last {X = X} (z ∷ xs) [] later x one h = let t = tail_of z one (xs ++ x ∷ []) later h in inr (record { rest = xs; front = ap (λ (w : X). w ∷ xs) t.0 })
cut_last {X = X} (z ∷ xs) (y ∷ before) later x one h =
    let t = tail_of z y (xs ++ x ∷ []) (before ++ one ∷ later) h in
    by t.0 (cut_last xs before later x one t.1)
  where
    by : z ≡ y → Last xs before later x one ⊎ Earlier xs before one → Last (z ∷ xs) (y ∷ before) later x one ⊎ Earlier (z ∷ xs) (y ∷ before) one
    by e (inl a) = let f : z ∷ xs ≡ y ∷ before = ap (λ (w : X). w ∷ xs) e ∙ ap (λ (ws : List X). y ∷ ws) a.front in inl (record { front = f; same = a.same })
    by e (inr a) = let f : z ∷ xs ≡ y ∷ (before ++ one ∷ a.rest) = ap (λ (w : X). w ∷ xs) e ∙ ap (λ (ws : List X). y ∷ ws) a.front in inr (record { rest = a.rest; front = f })

-- the Back at which a deleter is called
record Cut (slots stored : ℕ) (r : Past) (before : List (ℕ × ℕ)) (number slot : ℕ) : Type 0 where
  at : Past
  seat : ℕ
  later : List Entry
  cut : r ≡ tells (Then at seat (events.Back slot)) later
  told : called slots stored at ≡ before
  held : attached_to slots stored slot at ≡ Some number

cut_later : (slots stored number slot i : ℕ) (r : Past) (event : Event) (before : List (ℕ × ℕ)) → Cut slots stored r before number slot → Cut slots stored (Then r i event) before number slot
cut_later slots stored number slot i r event before c =
    let x : Entry = entry i event in
    record {
      at = c.at;
      seat = c.seat;
      later = c.later ++ x ∷ [];
      cut = ap (λ (q : Past). Then q i event) c.cut ∙ sym (tells-snoc (Then c.at c.seat (events.Back slot)) c.later x);
      told = c.told;
      held = c.held;
    }

cut_at : (slots stored : ℕ) (r : Past) (before after : List (ℕ × ℕ)) (number slot : ℕ) → called slots stored r ≡ before ++ (number, slot) ∷ after → Cut slots stored r before number slot
cut_at slots stored Start before after number slot h = absurd (not_nil before after (number, slot) h)
cut_at slots stored (Then p i (events.Back other)) before after number slot h =
    by (attached_to slots stored other p) refl (λ more g. cut_at slots stored p before more number slot g) h
  where
    here : (m : ℕ) → attached_to slots stored other p ≡ Some m → called slots stored p ≡ before → ◌≡◌ {A = ℕ × ℕ} (m, other) (number, slot) → Cut slots stored (Then p i (events.Back other)) before number slot
    here m e f s =
        let n : m ≡ number = ap (λ (x : ℕ × ℕ). x.0) s in
        let o : other ≡ slot = ap (λ (x : ℕ × ℕ). x.1) s in
        record {
          at = p;
          seat = i;
          later = [];
          cut = ap (λ (k : ℕ). Then p i (events.Back k)) o;
          told = f;
          held = ap (λ (k : ℕ). attached_to slots stored k p) (sym o) ∙ e ∙ ap Some n;
        }

    found : (m : ℕ) → attached_to slots stored other p ≡ Some m → ((more : List (ℕ × ℕ)) → called slots stored p ≡ before ++ (number, slot) ∷ more → Cut slots stored p before number slot)
        → Last (called slots stored p) before after (m, other) (number, slot) ⊎ Earlier (called slots stored p) before (number, slot) → Cut slots stored (Then p i (events.Back other)) before number slot
    found m e g (inl a) = here m e a.front a.same
    found m e g (inr a) = cut_later slots stored number slot i p (events.Back other) before (g a.rest a.front)

    by : (o : Option ℕ) → attached_to slots stored other p ≡ o → ((more : List (ℕ × ℕ)) → called slots stored p ≡ before ++ (number, slot) ∷ more → Cut slots stored p before number slot)
        → called slots stored p ++ call_of o other ≡ before ++ (number, slot) ∷ after → Cut slots stored (Then p i (events.Back other)) before number slot
    by None e g h = cut_later slots stored number slot i p (events.Back other) before (g after (sym (append-nil (called slots stored p)) ∙ h))
    by (Some m) e g h = found m e g (cut_last (called slots stored p) before after (m, other) (number, slot) h)
cut_at slots stored (Then p i event) before after number slot h = cut_later slots stored number slot i p event before (cut_at slots stored p before after number slot h)

-- nothing stands where a row is used again
bare_at : (standing : Bool) (slot : ℕ) → not (standing && is_reuse slot (events.Back slot)) ≡ true → standing ≡ false
bare_at false slot h = refl
bare_at true slot h =
    let same : (slot == slot) ≡ true = same_number slot in
    let no : not (slot == slot) ≡ true = h in
    absurd (contradiction (slot == slot) same no)
  where
    contradiction : (b : Bool) → b ≡ true → not b ≡ true → ⊥
    contradiction true e n = cc
    contradiction false e n = cc

pub called_once : DeletersCalledOnce
called_once rows slots stored r before after number slot once reuse h =
    let c : Cut slots stored r before number slot = cut_at slots stored r before after number slot h in
    let n = numbers slots stored c.at in
    record {
      at = c.at;
      seat = c.seat;
      later = c.later;
      cut = c.cut;
      told = c.told;
      attached_at = attached_where slots stored slot number c.at c.held;
      most = omega (arith, n.few slot number c.held, attached_most slots stored c.at);
      first = subst (λ (calls : List (ℕ × ℕ)). has_number number calls ≡ false) c.told (n.fresh slot number c.held);
      taken = once.free c.at c.seat (events.Back slot) c.later c.cut;
      listed = once.backs c.at c.seat (events.Back slot) c.later c.cut;
      free = freed (slot == slot) (same_number slot) (taken_at rows slot c.at);
      bare = λ k j. bare_at (stands k j slot c.at) slot (reuse.reuse k j slot c.at c.seat (events.Back slot) c.later c.cut);
    }
  where
    freed : (same : Bool) → same ≡ true → (before : Bool) → (if same then false else before) ≡ false
    freed true e before = refl
    freed false e before = absurd (cc)
