-- A call that is under way has a position at which it began, and what is counted since it began was counted there.
use Rattle.std.proofs.Common.{ℕ, ◌≡◌, Bool, true, false, [], ◌∷◌, ◌++◌, Option, Some, refl, sym, ap, ◌∙◌, subst}
use Rattle.std.specs.Prelude.{◌==◌, not}
use Rattle.law_scans.proofs.laws.records.defs.Facts.{false_of_not, first_of, number_is}
use Rattle.law_scans.specs.laws.defs.Entry.{Entry}
use Rattle.law_scans.specs.laws.defs.declared.call.Call.{Call}
use Rattle.law_scans.specs.laws.defs.declared.event.Event.{Event}
use Rattle.law_scans.specs.laws.defs.declared.event.Event.TheVariants as events
use Rattle.law_scans.specs.laws.Standing.{open_ok}
use Rattle.law_scans.specs.laws.Lists.{has_left}
use Rattle.law_scans.specs.laws.StateAt.{began_of, is_open}
use Rattle.law_scans.specs.laws.records.Record.{Past, Each}
use Rattle.law_scans.specs.laws.records.Record.Past.{Start, Then}
use Rattle.law_scans.proofs.reuse.AnswersTold.Answering.{own_began}
use Rattle.law_all.specs.Logs.Records.{IsBegun}
use Rattle.law_all.specs.Logs.Versions.{counts_of}
use Rattle.law_all.proofs.Logs.Counts.{begun_counts}
use Rattle.law_all.proofs.Logs.Grows.{snoc_tells}
use Rattle.law_all.proofs.Logs.Knows.{Inner, inner_own, other_inner, own_begun, own_log, own_open}

pub record Began (k : ℕ) (p : Past) (call : Call) : Type 0 where
  pub is : IsBegun k p call
  pub counts : begun_counts k p ≡ counts_of is.from

-- one entry later
began_later : (k i : ℕ) (p : Past) (event : Event) (call : Call) → Inner k i p event → Began k p call → Began k (Then p i event) call
began_later k i p event call n g =
    let x : Entry = record { seat = i; event = event } in
    let b : IsBegun k p call = g.is in
    record {
      is = record {
        from = b.from;
        until = b.until ++ x ∷ [];
        cut = ap (λ (q : Past). Then q i event) b.cut ∙ sym (snoc_tells b.until x (Then b.from k (events.Begin call)));
        idle = b.idle;
        log = b.log ∙ sym n.log;
      };
      counts = n.begun ∙ g.counts;
    }

began_here : (k : ℕ) (p : Past) (told call : Call) → not (is_open k p) ≡ true → began_of k (Then p k (events.Begin told)) ≡ Some call → Began k (Then p k (events.Begin told)) call
began_here k p told call o e =
    let s : ◌≡◌ {A = Option Call} (Some told) (Some call) = sym (own_began k p (events.Begin told)) ∙ e in
    let one : told ≡ call = cc in
    record {
      is = record { from = p; until = []; cut = ap (λ (c : Call). Then p k (events.Begin c)) one; idle = false_of_not (is_open k p) o; log = sym (own_log k p (events.Begin told)) };
      counts = own_begun k p told;
    }

began_own : (k : ℕ) (p : Past) (event : Event) (call : Call) → open_ok p k event ≡ true → is_open k (Then p k event) ≡ true → began_of k (Then p k event) ≡ Some call → (is_open k p ≡ true → began_of k p ≡ Some call → Began k p call) → Began k (Then p k event) call
began_own k p (events.Begin told) call l o e g = began_here k p told call (first_of (not (is_open k p)) (not (has_left k p)) l) e
began_own k p (events.End steps answer) call l o e g = let closed : false ≡ true = sym (own_open k p (events.End steps answer)) ∙ o in absurd (cc)
began_own k p event call l o e g = began_later k k p event call (inner_own k p event refl) (g (sym (own_open k p event) ∙ o) (sym (own_began k p event) ∙ e))

began_entry : (k i : ℕ) (p : Past) (event : Event) (call : Call) (same : Bool) → (k == i) ≡ same → open_ok p i event ≡ true → is_open k (Then p i event) ≡ true → began_of k (Then p i event) ≡ Some call → (is_open k p ≡ true → began_of k p ≡ Some call → Began k p call) → Began k (Then p i event) call
began_entry k i p event call true e l o b g =
    let one : i ≡ k = sym (number_is k i e) in
    subst (λ (j : ℕ). Began k (Then p j event) call) (sym one)
    (began_own k p event call (subst (λ (j : ℕ). open_ok p j event ≡ true) one l) (subst (λ (j : ℕ). is_open k (Then p j event) ≡ true) one o) (subst (λ (j : ℕ). began_of k (Then p j event) ≡ Some call) one b) g)
began_entry k i p event call false e l o b g =
    let n : Inner k i p event = other_inner k i p event e in
    let same : began_of k (Then p i event) ≡ began_of k p = rw e refl in
    began_later k i p event call n (g (sym n.opened ∙ o) (sym same ∙ b))

pub began_at : (k : ℕ) (p : Past) (call : Call) → Each open_ok p → is_open k p ≡ true → began_of k p ≡ Some call → Began k p call
began_at k Start call l o b = absurd (cc)
began_at k (Then p i event) call l o b = began_entry k i p event call (k == i) refl l.0 o b (λ q c. began_at k p call l.1 q c)
