-- What a seat's calls weigh: where what a call has come to rises by one with each event of a kind, and its group weighs that, the seat's
-- log and its call under way weigh as much as the seat has told events of the kind.
use Rattle.std.proofs.Common.{ℕ, ◌≡◌, ◌+◌, ◌≤◌, Bool, true, false, [], ◌∷◌, ◌++◌, Option, Some, None, refl, sym, ap, ◌∙◌, subst, arith}
use Rattle.std.proofs.lemmas.List.Sums.{sum_by_push}
use Rattle.std.specs.List.{sum_by}
use Rattle.std.specs.Prelude.{◌==◌, not}
use Rattle.law_all.proofs.inv.model.Facts.{first_of, false_of_not, number_is, same_number}
use Rattle.law_all.specs.inv.model.Desks.{Notes, noted}
use Rattle.law_all.specs.inv.model.Locals.{Group}
use Rattle.law_all.specs.inv.model.defs.declared.call.Answer.{Answer}
use Rattle.law_all.specs.inv.model.defs.declared.call.Call.{Call}
use Rattle.law_all.specs.inv.model.defs.declared.event.Event.{Event}
use Rattle.law_all.specs.inv.model.defs.declared.event.Event.TheVariants as events
use Rattle.law_all.specs.inv.model.words.declared.config.Config.{Config}
use Rattle.law_all.specs.laws.HistoryAnswers.{answer_right}
use Rattle.law_all.specs.laws.Lists.{has_left}
use Rattle.law_all.specs.laws.StateAt.{began_of, is_open, one, told_of}
use Rattle.law_all.proofs.Logs.Knows.{inner_own, is_inner, other_inner, own_log, own_open}
use Rattle.law_all.proofs.Logs.Ledgers.{ledger_began}
use Rattle.law_all.specs.Logs.Ledgers.{left_by, log_of, notes_of}
use Rattle.law_all.specs.inv.history.Record.{Past}
use Rattle.law_all.specs.inv.history.Record.Past.{Start, Then}
use Rattle.law_all.proofs.Runs.Kept.{Kept, kept_before}
use Rattle.law_all.proofs.Runs.Totals.{own_count}

-- as much, or at most as much
abbrev pub Fits : (exact : Bool) → ℕ → ℕ → Type 0
Fits true a b = a ≡ b
Fits false a b = a ≤ b

fits_same : (exact : Bool) (a b : ℕ) → a ≡ b → Fits exact a b
fits_same true a b e = e
fits_same false a b e = omega arith

-- the call under way counts
abbrev pub under_way : Bool → ℕ → ℕ
under_way false weight = 0
under_way true weight = weight

-- a kind of events that begins and ends no call
pub record IsInner (kind : Event → Bool) : Type 0 where
  pub begins : (call : Call) → kind (events.Begin call) ≡ false
  pub ends : (steps : ℕ) (answer : Answer) → kind (events.End steps answer) ≡ false

-- what is weighed: a weight of groups, a kind of events, and what the call of a seat has come to at a position; and whether the weights
-- come to just as many events or to that many at most
pub record Measure : Type 0 where
  pub exact : Bool
  pub weight : Group → ℕ
  pub kind : Event → Bool
  pub so_far : ℕ → Past → ℕ

-- where seat k tells an event: its call begins with none, comes to one more with each event of the kind, and has the group weigh that
abbrev pub Rises : Measure → ℕ → Past → Event → Type 0
Rises m k p (events.Begin call) = m.so_far k (Then p k (events.Begin call)) ≡ 0
Rises m k p (events.End steps answer) =
    (call : Call)
    → began_of k p ≡ Some call
    → Fits m.exact (m.weight (record { call = call; answer = answer; notes = noted (notes_of k p) (events.End steps answer) })) (m.so_far k p)
Rises m k p event = Fits m.exact (m.so_far k (Then p k event)) (m.so_far k p + one (m.kind event))

-- in each record that keeps the laws
pub record Weighs (c : Config) (m : Measure) : Type 0 where
  pub inner : IsInner m.kind
  pub stays : (k i : ℕ) (p : Past) (event : Event) → (k == i) ≡ false → m.so_far k (Then p i event) ≡ m.so_far k p
  pub rises : (k : ℕ) (p : Past) (event : Event) → Kept c (Then p k event) → Rises m k p event

-- sums of two that fit
fits_other : (exact : Bool) (a b x y u v : ℕ) → Fits exact (a + u) b → x ≡ a → v ≡ u → y ≡ b → Fits exact (x + v) y
fits_other true a b x y u v f e g h = omega arith
fits_other false a b x y u v f e g h = omega arith

fits_inner : (exact : Bool) (a b x y u v m : ℕ) → Fits exact (a + u) b → Fits exact v (u + m) → x ≡ a → y ≡ b + m → Fits exact (x + v) y
fits_inner true a b x y u v m f s e h = omega arith
fits_inner false a b x y u v m f s e h = omega arith

fits_end : (exact : Bool) (a b x y u w : ℕ) → Fits exact (a + u) b → Fits exact w u → x ≡ a + w → y ≡ b → Fits exact (x + 0) y
fits_end true a b x y u w f s e h = omega arith
fits_end false a b x y u w f s e h = omega arith

-- what a seat has told of the kind, with one entry more
own_more : (k : ℕ) (kind : Event → Bool) (p : Past) (event : Event) → own_count k kind (Then p k event) ≡ own_count k kind p + one (kind event)
own_more k kind p event = by (kind event) refl
  where
    by : (b : Bool) → kind event ≡ b → own_count k kind (Then p k event) ≡ own_count k kind p + one (kind event)
    by true e = let s : (k == k) ≡ true = same_number k in rw (e, s) refl
    by false e = rw e refl

own_same : (k : ℕ) (kind : Event → Bool) (p : Past) (event : Event) → kind event ≡ false → own_count k kind (Then p k event) ≡ own_count k kind p
own_same k kind p event e =
    let m : own_count k kind (Then p k event) ≡ own_count k kind p + one (kind event) = own_more k kind p event in
    let z : one (kind event) ≡ 0 = rw e refl in
    omega arith

own_other : (k i : ℕ) (kind : Event → Bool) (p : Past) (event : Event) → (k == i) ≡ false → own_count k kind (Then p i event) ≡ own_count k kind p
own_other k i kind p event e = by (kind event) refl
  where
    by : (b : Bool) → kind event ≡ b → own_count k kind (Then p i event) ≡ own_count k kind p
    by true q = let s : (k == i) ≡ false = e in rw (q, s) (omega arith)
    by false q = rw q (omega arith)

-- what the log of seat k weighs, its call under way, and what it has told
abbrev logged : Measure → ℕ → Past → ℕ
logged m k p = sum_by m.weight (log_of k p)

abbrev going : Measure → ℕ → Past → ℕ
going m k p = under_way (is_open k p) (m.so_far k p)

abbrev counted : Measure → ℕ → Past → ℕ
counted m k p = own_count k m.kind p

record Fitting (m : Measure) (k : ℕ) (p : Past) : Type 0 where
  fits : Fits m.exact (logged m k p + going m k p) (counted m k p)

way_same : (a b : Bool) (x y : ℕ) → a ≡ b → x ≡ y → under_way a x ≡ under_way b y
way_same a b x y e f = cc

way_none : (a : Bool) (x : ℕ) → x ≡ 0 → under_way a x ≡ 0
way_none false x e = refl
way_none true x e = e

-- by the entries
other_fits : (c : Config) (m : Measure) (k i : ℕ) (p : Past) (event : Event) → Weighs c m → (k == i) ≡ false → Fitting m k p → Fitting m k (Then p i event)
other_fits c m k i p event w e g =
    let q : Past = Then p i event in
    let n = other_inner k i p event e in
    record {
      fits = fits_other m.exact (logged m k p) (counted m k p) (logged m k q) (counted m k q) (going m k p) (going m k q) g.fits
          (ap (sum_by m.weight) n.log)
          (way_same (is_open k q) (is_open k p) (m.so_far k q) (m.so_far k p) n.opened (w.stays k i p event e))
          (own_other k i m.kind p event e);
    }

begin_fits :
    (c : Config) (m : Measure) (k : ℕ) (p : Past) (call : Call)
    → Weighs c m
    → Kept c (Then p k (events.Begin call))
    → Fitting m k p
    → Fitting m k (Then p k (events.Begin call))
begin_fits c m k p call w l g =
    let q : Past = Then p k (events.Begin call) in
    let closed : is_open k p ≡ false = false_of_not (is_open k p) (first_of (not (is_open k p)) (not (has_left k p)) l.open_calls.0) in
    let none : going m k q ≡ 0 = way_none (is_open k q) (m.so_far k q) (w.rises k p (events.Begin call) l) in
    let before : going m k p ≡ 0 = way_same (is_open k p) false (m.so_far k p) (m.so_far k p) closed refl in
    record {
      fits = fits_other m.exact (logged m k p) (counted m k p) (logged m k q) (counted m k q) (going m k p) (going m k q) g.fits
          (ap (sum_by m.weight) (own_log k p (events.Begin call)))
          (none ∙ sym before)
          (own_same k m.kind p (events.Begin call) (w.inner.begins call));
    }

-- in a call
open_fits : (m : Measure) (k : ℕ) (p : Past) → is_open k p ≡ true → Fitting m k p → Fits m.exact (logged m k p + m.so_far k p) (counted m k p)
open_fits m k p o g = subst (λ (x : Bool). Fits m.exact (logged m k p + under_way x (m.so_far k p)) (counted m k p)) o g.fits

end_fits :
    (c : Config) (m : Measure) (k : ℕ) (p : Past) (steps : ℕ) (answer : Answer) (began : Option Call)
    → began_of k p ≡ began
    → answer_right c.buckets began (told_of k p) answer ≡ true
    → Weighs c m
    → Kept c (Then p k (events.End steps answer))
    → Fitting m k p
    → Fitting m k (Then p k (events.End steps answer))
end_fits c m k p steps answer None e h w l g = absurd (cc)
end_fits c m k p steps answer (Some call) e h w l g =
    let event : Event = events.End steps answer in
    let q : Past = Then p k event in
    let notes : Notes = noted (notes_of k p) event in
    let group : Group = record { call = call; answer = answer; notes = notes } in
    let log : log_of k q ≡ log_of k p ++ group ∷ [] =
    own_log k p event ∙ ap (λ (x : Option Call). log_of k p ++ left_by x answer notes) (ledger_began k p ∙ e) in
    let closed : is_open k q ≡ false = own_open k p event in
    record {
      fits = subst (λ (x : Bool). Fits m.exact (logged m k q + under_way x (m.so_far k q)) (counted m k q)) (sym closed)
          (fits_end m.exact (logged m k p) (counted m k p) (logged m k q) (counted m k q) (m.so_far k p) (m.weight group)
          (open_fits m k p l.open_calls.0 g)
          (w.rises k p event l call e)
          (ap (sum_by m.weight) log ∙ sum_by_push m.weight (log_of k p) group)
          (own_same k m.kind p event (w.inner.ends steps answer)));
    }

inner_fits :
    (m : Measure) (k : ℕ) (p : Past) (event : Event)
    → is_inner event ≡ true
    → is_open k p ≡ true
    → Fits m.exact (m.so_far k (Then p k event)) (m.so_far k p + one (m.kind event))
    → Fitting m k p
    → Fitting m k (Then p k event)
inner_fits m k p event h o r g =
    let q : Past = Then p k event in
    let n = inner_own k p event h in
    let opened : is_open k q ≡ true = n.opened ∙ o in
    record {
      fits = subst (λ (x : Bool). Fits m.exact (logged m k q + under_way x (m.so_far k q)) (counted m k q)) (sym opened)
          (fits_inner m.exact (logged m k p) (counted m k p) (logged m k q) (counted m k q) (m.so_far k p) (m.so_far k q) (one (m.kind event))
          (open_fits m k p o g) r (ap (sum_by m.weight) n.log) (own_more k m.kind p event));
    }

own_fits : (c : Config) (m : Measure) (k : ℕ) (p : Past) (event : Event) → Weighs c m → Kept c (Then p k event) → Fitting m k p → Fitting m k (Then p k event)
own_fits c m k p (events.Begin call) w l g = begin_fits c m k p call w l g
own_fits c m k p (events.End steps answer) w l g = end_fits c m k p steps answer (began_of k p) refl l.told.0 w l g
own_fits c m k p event w l g = inner_fits m k p event refl l.open_calls.0 (w.rises k p event l) g

entry_fits :
    (c : Config) (m : Measure) (k i : ℕ) (p : Past) (event : Event) (same : Bool)
    → (k == i) ≡ same
    → Weighs c m
    → Kept c (Then p i event)
    → Fitting m k p
    → Fitting m k (Then p i event)
entry_fits c m k i p event true e w l g =
    let s : k ≡ i = number_is k i e in
    subst (λ (j : ℕ). Fitting m k (Then p j event)) s (own_fits c m k p event w (subst (λ (j : ℕ). Kept c (Then p j event)) (sym s) l) g)
entry_fits c m k i p event false e w l g = other_fits c m k i p event w e g

all_fits : (c : Config) (m : Measure) (k : ℕ) (p : Past) → Weighs c m → Kept c p → Fitting m k p
all_fits c m k Start w l = record { fits = fits_same m.exact 0 0 refl }
all_fits c m k (Then p i event) w l = entry_fits c m k i p event (k == i) refl w l (all_fits c m k p w (kept_before c p i event l))

-- where the seat is in no call
pub log_fits :
    (c : Config) (m : Measure) (k : ℕ) (p : Past)
    → Weighs c m
    → Kept c p
    → is_open k p ≡ false
    → Fits m.exact (sum_by m.weight (log_of k p)) (own_count k m.kind p)
log_fits c m k p w l closed =
    let g = all_fits c m k p w l in
    let here : Fits m.exact (logged m k p + 0) (counted m k p) =
    subst (λ (x : Bool). Fits m.exact (logged m k p + under_way x (m.so_far k p)) (counted m k p)) closed g.fits in
    subst (λ (x : ℕ). Fits m.exact x (counted m k p)) (omega arith) here
