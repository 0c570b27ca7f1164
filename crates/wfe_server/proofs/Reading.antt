-- The reading of a trace goes on where it was.
use Rattle.std.proofs.Common.{Err, List, None, Ok, Option, Result, Some, [], ap, inl, inr, refl, sym, ℕ, ◌++◌, ◌∙◌, ◌≡◌}
use Rattle.std.proofs.KnownBytes.{Consumes-nil, Consumes-trans}
use Rattle.std.specs.Io.KnownBytes.{Consumes, IsAtEnd, Keeps}
use Rattle.wfe_server_replay.proofs.Bytes.{after_bytes-append}
use Rattle.wfe_server_replay.specs.Trace.{Progress, after_bytes, finished, ◌>>=◌}
use Rattle.wfe_server.specs.Collecting.{StopsAt}
use Rattle.wfe_server.specs.Reads.{Ends, Goes, IsBad, IsRead, came, whole}
use Rattle.wfe_server_lines.specs.Scripted.{Scripted}
use Rattle.wfe_server.specs.Collecting.{scripter}
use Rattle.wfe_server.specs.declared.reader.Stop.{Stop}
use Rattle.wfe_server.specs.declared.reader.Stop.TheVariants as stops
use Rattle.wfe_server.specs.declared.serve.Ending.{Ending}
use Rattle.wfe_server.specs.declared.serve.Ending.TheVariants as endings
use Rattle.wfe_trace.specs.declared.reason.BadLine.{BadLine}

after_both : (p q : Progress Scripted) (first second : List ℕ) → after_bytes scripter (Ok p) first ≡ Ok q → after_bytes scripter (Ok p) (first ++ second) ≡ after_bytes scripter (Ok q) second
after_both p q first second good = after_bytes-append scripter (Ok p) first second ∙ ap (λ (r : Result (Progress Scripted) BadLine). after_bytes scripter r second) good

pub goes_start : (left : Option (List ℕ)) (p q : Progress Scripted) → p ≡ q → Goes left left q p
goes_start left p q e = record { taken = []; consumed = Consumes-nil left; good = ap Ok (sym e) }

pub goes_then : (a b c : Option (List ℕ)) (p q r : Progress Scripted) → Goes a b p q → Goes b c q r → Goes a c p r
goes_then a b c p q r one two = record {
  taken = one.taken ++ two.taken;
  consumed = Consumes-trans a b c one.taken two.taken one.consumed two.consumed;
  good = after_both p q one.taken two.taken one.good ∙ two.good;
}

stops_then : (stop : Stop) (p q : Progress Scripted) (first second : List ℕ) → after_bytes scripter (Ok p) first ≡ Ok q → StopsAt stop (after_bytes scripter (Ok q) second) → StopsAt stop (after_bytes scripter (Ok p) (first ++ second))
stops_then (stops.Bad bad) p q first second good found = after_both p q first second good ∙ found
stops_then stops.NoMemory p q first second good found = tt

pub ends_then : (ending : Ending) (a b c : Option (List ℕ)) (p q r : Progress Scripted) → Goes a b p q → Ends ending b c q r → Ends ending a c p r
ends_then endings.AtEnd a b c p q r one (two, end_) = (goes_then a b c p q r one two, end_)
ends_then endings.NoRead a b c p q r one two = goes_then a b c p q r one two
ends_then (endings.Stopped stop) a b c p q r one two = record {
  taken = one.taken ++ two.taken;
  consumed = Consumes-trans a b c one.taken two.taken one.consumed two.consumed;
  stops = stops_then stop p q one.taken two.taken one.good two.stops;
}

-- nothing was read
keeps_consumes : (before left : Option (List ℕ)) → Keeps before left → Consumes before left []
keeps_consumes None left k = tt
keeps_consumes (Some xs) None k = k
keeps_consumes (Some xs) (Some ys) k = sym k

pub goes_unread : (before left : Option (List ℕ)) (p : Progress Scripted) → Keeps before left → Goes before left p p
goes_unread before left p k = record { taken = []; consumed = keeps_consumes before left k; good = refl }

-- a whole trace is its bytes and then its end
whole_is : (taken : List ℕ) (p : Progress Scripted) (r : Result (Progress Scripted) BadLine) → came taken ≡ Ok p → finished scripter p ≡ r → whole taken ≡ r
whole_is taken p r good end_ = ap (λ (t : Result (Progress Scripted) BadLine). t >>= finished scripter) good ∙ end_

-- a bad byte makes the whole trace bad
pub whole_bad : (taken : List ℕ) (bad : BadLine) → came taken ≡ Err bad → whole taken ≡ Err bad
whole_bad taken bad h = ap (λ (t : Result (Progress Scripted) BadLine). t >>= finished scripter) h

-- the trace was read whole
pub read_whole : (taken : List ℕ) (left : Option (List ℕ)) (p q : Progress Scripted) (given : Scripted) → came taken ≡ Ok p → finished scripter p ≡ Ok q → q.engine ≡ Some given → IsAtEnd left → IsRead taken left given
read_whole taken left p q given good end_ is at_end = record { progress = q; good = whole_is taken p (Ok q) good end_; is_given = is; at_end = at_end }

-- its end is bad
pub bad_at_end : (taken : List ℕ) (left : Option (List ℕ)) (p : Progress Scripted) (bad : BadLine) → came taken ≡ Ok p → finished scripter p ≡ Err bad → IsAtEnd left → IsBad taken left bad
bad_at_end taken left p bad good end_ at_end = record { first = whole_is taken p (Err bad) good end_; found = inr at_end }

-- one of its bytes is bad
pub bad_before : (taken : List ℕ) (left : Option (List ℕ)) (bad : BadLine) → came taken ≡ Err bad → IsBad taken left bad
bad_before taken left bad h = record { first = whole_bad taken bad h; found = inl h }
