-- What a reader stands for is good, and how it goes on.
use Rattle.std.proofs.Common.{ℕ, ◌≡◌, List, [], ◌++◌, Option, Some, None, Ok, Err, refl, sym, inl, inr, ◌∙◌}
use Rattle.std.proofs.KnownBytes.{Consumes-nil, Consumes-trans}
use Rattle.std.specs.Io.KnownBytes.{Consumes, IsAtEnd, Keeps}
use Rattle.laws.specs.records.Record.{Past}
use Rattle.laws.specs.Good.{Good}
use Rattle.wfe_words.specs.declared.config.Config.{Config}
use Rattle.wfe_check_lines.specs.Ends.{Ends, Finishes, Gives, Goes, Reads, verdict_by}
use Rattle.wfe_check_lines.specs.Progress.{IsAt}
use Rattle.wfe_check_lines.specs.Reading.{GoodAt, IsGood, Reading, Stage, came, finished, reading_start}
use Rattle.wfe_check_lines.specs.Reading.Stage.{First, Body, Over}
use Rattle.wfe_check_lines.specs.Readers.{IsReading}
use Rattle.wfe_check_lines.specs.Stops.{IsWhy, StopsAmid}
use Rattle.wfe_check_lines.specs.declared.check.Ending.{Ending}
use Rattle.wfe_check_lines.specs.declared.check.Ending.TheVariants as endings
use Rattle.wfe_check_lines.specs.declared.check.Unread.TheVariants as unreads
use Rattle.wfe_check_lines.specs.declared.progress.Progress.{Progress}
use Rattle.wfe_check_lines.specs.declared.progress.Progress.TheVariants as places
use Rattle.wfe_check_lines.specs.declared.reader.Reader.{Reader}
use Rattle.wfe_check_lines.specs.declared.stops.Stop.{Stop}
use Rattle.wfe_check_lines.specs.declared.stops.Stop.TheVariants as stops
use Rattle.wfe_check_lines.specs.declared.verdict.Verdict.TheVariants as verdicts
use Rattle.wfe_check_lines.proofs.Bytes.{after_both, stops_later}

module _ {J : Type 0} (judges : ℕ → Config → J → Past → Type 0) (good : (version : ℕ) (config : Config) (judge : J) (p : Past) → judges version config judge p → Good version config p) where
  good_at : (place : Progress J) (stage : Stage) (entries : Past) → IsAt judges place stage entries → GoodAt stage entries
  good_at places.First First entries is = tt
  good_at places.First (Body v c) entries is = absurd is
  good_at places.First (Over v c) entries is = absurd is
  good_at (places.Body version config judge) First entries is = absurd is
  good_at (places.Body version config judge) (Body v c) entries is = good v c judge entries is.2
  good_at (places.Body version config judge) (Over v c) entries is = absurd is
  good_at places.Over First entries is = absurd is
  good_at places.Over (Body v c) entries is = absurd is
  good_at places.Over (Over v c) entries is = is

  -- what it stands for is good
  pub stands_good : (reader : Reader J) (r : Reading) → IsReading judges reader r → IsGood r
  stands_good reader r is = good_at reader.place r.told.stage r.told.entries is.place

  pub goes_start : (left : Option (List ℕ)) (r : Reading) (reader : Reader J) → IsReading judges reader r → Goes judges left left r reader
  goes_start left r reader is = record { taken = []; consumed = Consumes-nil left; after = r; good = refl; is = is }

  pub goes_then : (a b c : Option (List ℕ)) (r : Reading) (one two : Reader J) → (g : Goes judges a b r one) → Goes judges b c g.after two → Goes judges a c r two
  goes_then a b c r one two g h = record {
    taken = g.taken ++ h.taken;
    consumed = Consumes-trans a b c g.taken h.taken g.consumed h.consumed;
    after = h.after;
    good = after_both r g.after g.taken h.taken g.good ∙ h.good;
    is = h.is;
  }

  pub ends_then : (ending : Ending) (a b c : Option (List ℕ)) (r : Reading) (one two : Reader J) → (g : Goes judges a b r one) → Ends judges ending b c g.after two → Ends judges ending a c r two
  ends_then endings.AtEnd a b c r one two g (h, end_) = (goes_then a b c r one two g h, end_)
  ends_then endings.NoRead a b c r one two g h = goes_then a b c r one two g h
  ends_then (endings.Stopped stop) a b c r one two g h = record {
    taken = g.taken ++ h.taken;
    consumed = Consumes-trans a b c g.taken h.taken g.consumed h.consumed;
    amid = stops_later r g.after g.taken h.taken stop g.good h.amid;
  }

  -- nothing was read
  keeps_consumes : (before left : Option (List ℕ)) → Keeps before left → Consumes before left []
  keeps_consumes None left k = tt
  keeps_consumes (Some xs) None k = k
  keeps_consumes (Some xs) (Some ys) k = sym k

  pub goes_unread : (before left : Option (List ℕ)) (r : Reading) (reader : Reader J) → IsReading judges reader r → Keeps before left → Goes judges before left r reader
  goes_unread before left r reader is k = record { taken = []; consumed = keeps_consumes before left k; after = r; good = refl; is = is }

  -- a stop amid the bytes
  amid_gives : (taken : List ℕ) (left : Option (List ℕ)) (stop : Stop) → StopsAmid reading_start taken stop → Gives taken left (verdict_by stop)
  amid_gives taken left (stops.Bad bad) s =
      record { closed = s.closed; before = s.before; good_text = s.came; good = s.good; stopped = inl (record { byte = s.byte; rest = s.rest; are = s.are; why = s.why }) }
  amid_gives taken left (stops.Unlawful line) s =
      record { closed = s.closed; before = s.before; good_text = s.came; good = s.good; stopped = inl (record { byte = s.byte; rest = s.rest; are = s.are; why = s.why }) }
  amid_gives taken left stops.NoMemory s = tt

  -- or where the input ends
  end_gives : (taken : List ℕ) (left : Option (List ℕ)) (r : Reading) (stop : Stop) → came taken ≡ Ok r → IsGood r → IsAtEnd left → IsWhy stop (finished r) → Gives taken left (verdict_by stop)
  end_gives taken left r (stops.Bad bad) text is at_end why =
      record { closed = taken; before = r; good_text = text; good = is; stopped = inr (record { all = refl; at_end = at_end; why = why }) }
  end_gives taken left r (stops.Unlawful line) text is at_end why =
      record { closed = taken; before = r; good_text = text; good = is; stopped = inr (record { all = refl; at_end = at_end; why = why }) }
  end_gives taken left r stops.NoMemory text is at_end why = tt

  pub stopped_reads : (stop : Stop) (before left : Option (List ℕ)) (reader : Reader J) → Ends judges (endings.Stopped stop) before left reading_start reader → Reads before left (verdict_by stop)
  stopped_reads stop before left reader s = (s.taken, s.consumed, amid_gives s.taken left stop s.amid)

  pub unread_reads : (before left : Option (List ℕ)) (reader : Reader J) → Ends judges endings.NoRead before left reading_start reader → Reads before left (Err unreads.Fault)
  unread_reads before left reader g = (g.taken, g.consumed, record { reading = g.after; good_text = g.good; good = stands_good reader g.after g.is })

  pub ended_reads : (stop : Stop) (before left : Option (List ℕ)) (reader : Reader J) → (e : Ends judges endings.AtEnd before left reading_start reader) → Finishes (Err stop) e.0.after → Reads before left (verdict_by stop)
  ended_reads stop before left reader (g, at_end) why = (g.taken, g.consumed, end_gives g.taken left g.after stop g.good (stands_good reader g.after g.is) at_end why)

  pub whole_reads : (count : ℕ) (before left : Option (List ℕ)) (reader : Reader J) → (e : Ends judges endings.AtEnd before left reading_start reader) → Finishes (Ok count) e.0.after → Reads before left (Ok (verdicts.Lawful count))
  whole_reads count before left reader (g, at_end) (whole, ends, is, counted) =
      (g.taken, g.consumed, record { last = g.after; whole = whole; good_text = g.good; ends = ends; good = is; counted = counted; at_end = at_end })

-- no stop is a fault of the source
pub never_fault : (stop : Stop) → verdict_by stop ≡ Err unreads.Fault → ⊥
never_fault (stops.Bad bad) h = cc
never_fault (stops.Unlawful line) h = cc
never_fault stops.NoMemory h = cc
