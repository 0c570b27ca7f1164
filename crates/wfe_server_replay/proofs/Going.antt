-- A run over a source goes on where another ended.
use Rattle.wfe_server_out.specs.Heard.{Seen}
use Rattle.std.proofs.Common.{Bool, ℕ, ◌≡◌, List, [], ◌++◌, Option, Some, None, Ok, refl, sym, ap, ◌∙◌, subst}
use Rattle.std.specs.Io.KnownBytes.{Consumes, Keeps}
use Rattle.std.proofs.KnownBytes.{Consumes-nil, Consumes-trans}
use Rattle.wfe_server_replay.specs.declared.stop.Stop.{Stop}
use Rattle.wfe_server_replay.specs.declared.stop.Stop.TheVariants as stops
use Rattle.wfe_server_replay.specs.declared.serve.Ending.{Ending}
use Rattle.wfe_server_replay.specs.declared.serve.Ending.TheVariants as endings
use Rattle.wfe_server_replay.specs.Playing.{Played, player}
use Rattle.wfe_server_replay.specs.Ends.{Goes, Ends}
use Rattle.wfe_server_replay.specs.Sunk.{Outside, Puts, PutsPart, StopsAt}
use Rattle.wfe_server_replay.specs.Trace.{Progress, after_bytes, bytes_output}
use Rattle.wfe_server_replay.proofs.Bytes.{after_bytes-append, bytes_output-append}
use Rattle.wfe_server_replay.proofs.Outs.{part_then, puts_nil, puts_trans}
use Rattle.wfe_outside.specs.defs.declared.call.Call.{Call}

pub goes_none : (makes : Call → Bool) {W : Type 0} (seen : Seen W) (left : Option (List ℕ)) (old : Outside W) (p : Progress Played) → Goes makes seen left left old old p p
goes_none makes seen left old p = record { taken = []; consumed = Consumes-nil left; good = refl; put = puts_nil seen old }

after_both : (makes : Call → Bool) (p q : Progress Played) (first second : List ℕ) → after_bytes (player makes) (Ok p) first ≡ Ok q → after_bytes (player makes) (Ok p) (first ++ second) ≡ after_bytes (player makes) (Ok q) second
after_both makes p q first second good = after_bytes-append (player makes) (Ok p) first second ∙ ap (λ r. after_bytes (player makes) r second) good

output_both : (makes : Call → Bool) (p q : Progress Played) (first second : List ℕ) → after_bytes (player makes) (Ok p) first ≡ Ok q →
    bytes_output (player makes) (Ok p) (first ++ second) ≡ bytes_output (player makes) (Ok p) first ++ bytes_output (player makes) (Ok q) second
output_both makes p q first second good = bytes_output-append (player makes) (Ok p) first second ∙ ap (λ r. bytes_output (player makes) (Ok p) first ++ bytes_output (player makes) r second) good

pub goes_then : (makes : Call → Bool) {W : Type 0} (seen : Seen W) (a b c : Option (List ℕ)) (old mid new : Outside W) (p q r : Progress Played) → Goes makes seen a b old mid p q → Goes makes seen b c mid new q r → Goes makes seen a c old new p r
goes_then makes seen a b c old mid new p q r one two = record {
  taken = one.taken ++ two.taken;
  consumed = Consumes-trans a b c one.taken two.taken one.consumed two.consumed;
  good = after_both makes p q one.taken two.taken one.good ∙ two.good;
  put = subst (Puts seen old new) (sym (output_both makes p q one.taken two.taken one.good)) (puts_trans seen old mid new _ _ one.put two.put);
}

stops_then : (makes : Call → Bool) {W : Type 0} (seen : Seen W) (stop : Stop) (p q : Progress Played) (first second : List ℕ) (old mid new : Outside W) → after_bytes (player makes) (Ok p) first ≡ Ok q →
    Puts seen old mid (bytes_output (player makes) (Ok p) first) → StopsAt seen stop (after_bytes (player makes) (Ok q) second) mid new (bytes_output (player makes) (Ok q) second) →
    StopsAt seen stop (after_bytes (player makes) (Ok p) (first ++ second)) old new (bytes_output (player makes) (Ok p) (first ++ second))
stops_then makes seen (stops.Bad bad) p q first second old mid new good put (found, more) = (
  after_both makes p q first second good ∙ found,
  subst (Puts seen old new) (sym (output_both makes p q first second good)) (puts_trans seen old mid new _ _ put more),
)
stops_then makes seen (stops.Fault fault) p q first second old mid new good put part =
    subst (PutsPart seen old new) (sym (output_both makes p q first second good)) (part_then seen old mid new _ _ put part)

pub ends_then : (makes : Call → Bool) {W : Type 0} (seen : Seen W) (ending : Ending) (a b c : Option (List ℕ)) (old mid new : Outside W) (p q r : Progress Played) → Goes makes seen a b old mid p q → Ends makes seen ending b c mid new q r → Ends makes seen ending a c old new p r
ends_then makes seen endings.AtEnd a b c old mid new p q r one (two, end_) = (goes_then makes seen a b c old mid new p q r one two, end_)
ends_then makes seen endings.NoRead a b c old mid new p q r one two = goes_then makes seen a b c old mid new p q r one two
ends_then makes seen (endings.Stopped stop) a b c old mid new p q r one two = record {
  taken = one.taken ++ two.taken;
  consumed = Consumes-trans a b c one.taken two.taken one.consumed two.consumed;
  stops = stops_then makes seen stop p q one.taken two.taken old mid new one.good one.put two.stops;
}

-- nothing was read
keeps_consumes : (before left : Option (List ℕ)) → Keeps before left → Consumes before left []
keeps_consumes None left k = tt
keeps_consumes (Some xs) None k = k
keeps_consumes (Some xs) (Some ys) k = sym k

pub goes_unread : (makes : Call → Bool) {W : Type 0} (seen : Seen W) (before left : Option (List ℕ)) (old : Outside W) (p : Progress Played) → Keeps before left → Goes makes seen before left old old p p
goes_unread makes seen before left old p k = record { taken = []; consumed = keeps_consumes before left k; good = refl; put = puts_nil seen old }

-- a run has begun
pub goes_start : (makes : Call → Bool) {W : Type 0} (seen : Seen W) (left : Option (List ℕ)) (old : Outside W) (p q : Progress Played) → p ≡ q → Goes makes seen left left old old q p
goes_start makes seen left old p q e = subst (λ (r : Progress Played). Goes makes seen left left old old q r) (sym e) (goes_none makes seen left old q)
