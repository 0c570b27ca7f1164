-- What is counted at positions, and where a call began.
use Rattle.std.proofs.Common.{ℕ, ◌≡◌, Bool, true, false, length, refl, sym, subst, arith}
use Rattle.law_scans.specs.laws.defs.declared.event.Event.{Event}
use Rattle.law_scans.specs.laws.StructuresAt.{begun_at, queued_of, taken_of}
use Rattle.law_scans.specs.laws.records.Record.{Past, begins, value_since}
use Rattle.law_scans.specs.laws.records.Record.Past.{Start, Then}
use Rattle.law_all.specs.Logs.Versions.{AtMost, Counts, counts_of}
use Rattle.law_all.proofs.Logs.Grows.{Grows, grows_entry, more_count, more_queued}

-- where the call that seat k began last had just begun
abbrev pub begun_counts : ℕ → Past → Counts
begun_counts k p =
    record {
      versions = λ b. begun_at k b p;
      queued = value_since (begins k) (λ (q : Past). length (queued_of q)) p;
      taken = value_since (begins k) taken_of p;
    }

-- orders of counts
pub most_same : (a : Counts) → AtMost a a
most_same a = record { versions = λ b. omega arith; queued = omega arith; taken = omega arith }

pub most_along : (a b c : Counts) → AtMost a b → AtMost b c → AtMost a c
most_along a b c h k = record { versions = λ n. let x = h.versions n in let y = k.versions n in omega arith; queued = omega (arith, h.queued, k.queued); taken = omega (arith, h.taken, k.taken) }

pub most_grows : (p q : Past) → Grows p q → AtMost (counts_of p) (counts_of q)
most_grows p q g = record { versions = λ b. more_count b p q g; queued = more_queued p q g; taken = g.taken }

-- what was counted where a call began stays so until the seat begins another
pub begun_unless : (k i : ℕ) (p : Past) (event : Event) → begins k p i event ≡ false → begun_counts k (Then p i event) ≡ begun_counts k p
begun_unless k i p event e = rw e refl

begun_here : (k i : ℕ) (p : Past) (event : Event) → begins k p i event ≡ true → begun_counts k (Then p i event) ≡ counts_of (Then p i event)
begun_here k i p event e = rw e refl

-- and no less is counted later
begun_entry : (k i : ℕ) (p : Past) (event : Event) (begun : Bool) → begins k p i event ≡ begun → AtMost (begun_counts k p) (counts_of p) → AtMost (begun_counts k (Then p i event)) (counts_of (Then p i event))
begun_entry k i p event true e low = subst (λ (x : Counts). AtMost x (counts_of (Then p i event))) (sym (begun_here k i p event e)) (most_same (counts_of (Then p i event)))
begun_entry k i p event false e low =
    subst (λ (x : Counts). AtMost x (counts_of (Then p i event))) (sym (begun_unless k i p event e))
    (most_along (begun_counts k p) (counts_of p) (counts_of (Then p i event)) low (most_grows p (Then p i event) (grows_entry p i event)))

pub begun_most : (k : ℕ) (p : Past) → AtMost (begun_counts k p) (counts_of p)
begun_most k Start = most_same (counts_of Start)
begun_most k (Then p i event) = begun_entry k i p event (begins k p i event) refl (begun_most k p)
