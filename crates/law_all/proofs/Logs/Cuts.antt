-- A group of a log is an End of the record.
use Rattle.std.proofs.Common.{ℕ, ◌≡◌, ◌⊎◌, inl, inr, Bool, true, false, List, [], ◌∷◌, ◌++◌, Option, Some, None, refl, sym, ap, ◌∙◌, subst}
use Rattle.std.proofs.lemmas.List.{append-nil, append_assoc}
use Rattle.std.specs.Prelude.{◌==◌, if◌then◌else◌}
use Rattle.law_scans.proofs.laws.records.defs.Facts.{number_is}
use Rattle.law_scans.specs.inv.model.Desks.{Notes, noted}
use Rattle.law_scans.specs.inv.model.Locals.{Group}
use Rattle.law_scans.specs.laws.defs.Entry.{Entry}
use Rattle.law_scans.specs.laws.defs.declared.call.Answer.{Answer}
use Rattle.law_scans.specs.laws.defs.declared.call.Call.{Call}
use Rattle.law_scans.specs.laws.defs.declared.event.Event.{Event}
use Rattle.law_scans.specs.laws.defs.declared.event.Event.TheVariants as events
use Rattle.law_scans.proofs.laws.Tells.{seen_other, seen_own}
use Rattle.law_scans.specs.laws.records.Record.{Past, tells}
use Rattle.law_scans.specs.laws.records.Record.Past.{Start, Then}
use Rattle.law_all.specs.Logs.Ledgers.{Ledger, left_by, ledger_by, ledger_of, log_of, no_ledger, notes_of}
use Rattle.law_all.specs.Logs.Records.{Extends, IsEnded, LogsAreCut}
use Rattle.law_all.proofs.Logs.Grows.{snoc_tells}
use Rattle.law_all.proofs.Logs.Ledgers.{ledger_began}

-- a list with one element more, cut at an element: there, or before it
record Last {X : Type 0} (xs before later : List X) (x one : X) : Type 0 where
  none : later ≡ []
  front : xs ≡ before
  same : x ≡ one

record Earlier {X : Type 0} (xs before : List X) (one : X) : Type 0 where
  rest : List X
  front : xs ≡ before ++ one ∷ rest

not_nil : {X : Type 0} (xs ys : List X) (x : X) → [] ≡ xs ++ x ∷ ys → ⊥
not_nil [] ys x h = cc
not_nil (y ∷ xs) ys x h = cc

tail_of : {X : Type 0} (x y : X) (xs ys : List X) → x ∷ xs ≡ y ∷ ys → (x ≡ y) × (xs ≡ ys)
tail_of x y xs ys h = (cc, cc)

cut_last : {X : Type 0} (xs before later : List X) (x one : X) → xs ++ x ∷ [] ≡ before ++ one ∷ later → Last xs before later x one ⊎ Earlier xs before one
cut_last [] [] later x one h = let t = tail_of x one [] later h in inl (record { none = sym t.1; front = refl; same = t.0 })
cut_last [] (y ∷ before) later x one h = let t = tail_of x y [] (before ++ one ∷ later) h in absurd (not_nil before later one t.1)
cut_last {X = X} (z ∷ xs) [] later x one h = let t = tail_of z one (xs ++ x ∷ []) later h in inr (record { rest = xs; front = ap (λ (w : X). w ∷ xs) t.0 })
cut_last {X = X} (z ∷ xs) (y ∷ before) later x one h =
    let t = tail_of z y (xs ++ x ∷ []) (before ++ one ∷ later) h in
    by t.0 (cut_last xs before later x one t.1)
  where
    by : z ≡ y → Last xs before later x one ⊎ Earlier xs before one → Last (z ∷ xs) (y ∷ before) later x one ⊎ Earlier (z ∷ xs) (y ∷ before) one
    by e (inl a) = let f : z ∷ xs ≡ y ∷ before = ap (λ (w : X). w ∷ xs) e ∙ ap (λ (ws : List X). y ∷ ws) a.front in inl (record { none = a.none; front = f; same = a.same })
    by e (inr a) = let f : z ∷ xs ≡ y ∷ (before ++ one ∷ a.rest) = ap (λ (w : X). w ∷ xs) e ∙ ap (λ (ws : List X). y ∷ ws) a.front in inr (record { rest = a.rest; front = f })

-- one entry later
later_end : (k i : ℕ) (p : Past) (event : Event) (before : List Group) (group : Group) → IsEnded k p before group → IsEnded k (Then p i event) before group
later_end k i p event before group g =
    let x : Entry = record { seat = i; event = event } in
    let at : Past = Then g.at k (events.End group.notes.steps group.answer) in
    record {
      at = g.at;
      later = g.later ++ x ∷ [];
      cut = ap (λ (q : Past). Then q i event) g.cut ∙ sym (snoc_tells g.later x at);
      log = g.log;
      call = g.call;
      notes = g.notes;
    }

-- by the event
end_here : (k steps : ℕ) (answer : Answer) (p : Past) (before : List Group) (group : Group) (call : Call) → (ledger_of k p).call ≡ Some call → log_of k p ≡ before → record { call = call; answer = answer; notes = noted (notes_of k p) (events.End steps answer) } ≡ group
    → IsEnded k (Then p k (events.End steps answer)) before group
end_here k steps answer p before group call c l e =
    let a : answer ≡ group.answer = ap (λ (g : Group). g.answer) e in
    let n : noted (notes_of k p) (events.End steps answer) ≡ group.notes = ap (λ (g : Group). g.notes) e in
    let s : steps ≡ group.notes.steps = ap (λ (x : Notes). x.steps) n in
    let same : events.End steps answer ≡ events.End group.notes.steps group.answer = ap (λ (x : ℕ). events.End x answer) s ∙ ap (λ (x : Answer). events.End group.notes.steps x) a in
    record {
      at = p;
      later = [];
      cut = ap (λ (x : Event). Then p k x) same;
      log = l;
      call = sym (ledger_began k p) ∙ c ∙ ap (λ (g : Group). Some g.call) e;
      notes = sym n ∙ ap (noted (notes_of k p)) same;
    }

end_cut : (k steps : ℕ) (answer : Answer) (p : Past) (before later : List Group) (group : Group) (call : Option Call) → (ledger_of k p).call ≡ call
    → ((more : List Group) → log_of k p ≡ before ++ group ∷ more → IsEnded k p before group)
    → log_of k p ++ left_by call answer (noted (notes_of k p) (events.End steps answer)) ≡ before ++ group ∷ later → IsEnded k (Then p k (events.End steps answer)) before group
end_cut k steps answer p before later group None c g h = later_end k k p (events.End steps answer) before group (g later (sym (append-nil (log_of k p)) ∙ h))
end_cut k steps answer p before later group (Some call) c g h = by (cut_last (log_of k p) before later (record { call = call; answer = answer; notes = noted (notes_of k p) (events.End steps answer) }) group h)
  where
    by : Last (log_of k p) before later (record { call = call; answer = answer; notes = noted (notes_of k p) (events.End steps answer) }) group ⊎ Earlier (log_of k p) before group → IsEnded k (Then p k (events.End steps answer)) before group
    by (inl a) = end_here k steps answer p before group call c a.front a.same
    by (inr a) = later_end k k p (events.End steps answer) before group (g a.rest a.front)

own_cut : (k : ℕ) (p : Past) (event : Event) (before later : List Group) (group : Group)
    → ((more : List Group) → log_of k p ≡ before ++ group ∷ more → IsEnded k p before group)
    → (ledger_by event (ledger_of k p)).log ≡ before ++ group ∷ later → IsEnded k (Then p k event) before group
own_cut k p (events.End steps answer) before later group g h = end_cut k steps answer p before later group (ledger_of k p).call refl g h
own_cut k p (events.Begin call) before later group g h = later_end k k p (events.Begin call) before group (g later h)
own_cut k p event before later group g h = later_end k k p event before group (g later h)

entry_cut : (k i : ℕ) (p : Past) (event : Event) (before later : List Group) (group : Group) (same : Bool) → (k == i) ≡ same
    → ((more : List Group) → log_of k p ≡ before ++ group ∷ more → IsEnded k p before group)
    → log_of k (Then p i event) ≡ before ++ group ∷ later → IsEnded k (Then p i event) before group
entry_cut k i p event before later group true e g h =
    let one : k ≡ i = number_is k i e in
    let l : log_of k (Then p k event) ≡ before ++ group ∷ later = subst (λ (j : ℕ). log_of k (Then p j event) ≡ before ++ group ∷ later) (sym one) h in
    subst (λ (j : ℕ). IsEnded k (Then p j event) before group) one (own_cut k p event before later group g (sym (ap (λ (x : Ledger). x.log) (seen_own ledger_by no_ledger k p event)) ∙ l))
entry_cut k i p event before later group false e g h =
    later_end k i p event before group (g later (sym (ap (λ (x : Ledger). x.log) (seen_other ledger_by no_ledger k i p event e)) ∙ h))

pub logs_are_cut : LogsAreCut
logs_are_cut k Start before later group h = absurd (not_nil before later group h)
logs_are_cut k (Then p i event) before later group h = entry_cut k i p event before later group (k == i) refl (λ more. logs_are_cut k p before more group) h

-- a log only grows
log_by : (event : Event) (x : Ledger) → Extends x.log (ledger_by event x).log
log_by (events.End steps answer) x = record { more = left_by x.call answer (noted x.notes (events.End steps answer)); cut = refl }
log_by (events.Begin call) x = record { more = []; cut = sym (append-nil x.log) }
log_by event x = record { more = []; cut = sym (append-nil x.log) }

log_entry : (same : Bool) (event : Event) (x : Ledger) → Extends x.log (if same then ledger_by event x else x).log
log_entry true event x = log_by event x
log_entry false event x = record { more = []; cut = sym (append-nil x.log) }

pub log_more : (k : ℕ) (p : Past) (xs : List Entry) → Extends (log_of k p) (log_of k (tells p xs))
log_more k p [] = record { more = []; cut = sym (append-nil (log_of k p)) }
log_more k p (x ∷ xs) =
    let one : Extends (log_of k p) (log_of k (Then p x.seat x.event)) = log_entry (k == x.seat) x.event (ledger_of k p) in
    let rest = log_more k (Then p x.seat x.event) xs in
    record { more = one.more ++ rest.more; cut = rest.cut ∙ ap (λ (l : List Group). l ++ rest.more) one.cut ∙ append_assoc (log_of k p) one.more rest.more }
