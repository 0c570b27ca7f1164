-- What a seat's own entries come to for its list, and what its next entry makes of that: a scan reads its guards and then gives back; the
-- row that a call retires comes after the one that it is given; and nothing goes back between these.
use Rattle.std.proofs.Common.{ℕ, ◌≡◌, ◌+◌, Bool, true, false, List, [], ◌∷◌, ◌++◌, length, Option, Some, refl, sym, ap, subst, arith, length-append}
use Rattle.std.proofs.lemmas.Bool.Decides.{nat_tests}
use Rattle.std.specs.Prelude.{◌==◌, ◌&&◌, ◌||◌, if◌then◌else◌, is_none, nat_lt, not}
use Rattle.law_all.proofs.inv.model.Facts.{first_of, or_more}
use Rattle.law_all.specs.inv.model.CallReady.{slots_of}
use Rattle.law_all.specs.inv.model.defs.Shown.{Seen, shown, shown_row}
use Rattle.law_all.specs.inv.model.defs.declared.call.Call.{Call}
use Rattle.law_all.specs.inv.model.defs.declared.call.Call.TheVariants as calls
use Rattle.law_all.specs.inv.model.defs.declared.event.Event.{Event}
use Rattle.law_all.specs.inv.model.defs.declared.event.Event.TheVariants as events
use Rattle.law_all.specs.inv.model.defs.declared.event.Root.TheVariants as roots
use Rattle.law_all.specs.inv.model.defs.declared.lifetime.Lifetime.{Lifetime}
use Rattle.law_all.specs.inv.model.words.declared.config.Config.{Config}
use Rattle.law_all.specs.laws.HistoryRows.{cuts_one, is_in_hand, is_without, places_right}
use Rattle.law_all.specs.laws.HistoryScans.{Course, Tally, first_course, may_read, moved_course, plain_by, read_course, retired_course, scan_right}
use Rattle.law_all.specs.laws.HistoryScans.Course.{Advancing, MayScan, MustScan, Plain, Reading}
use Rattle.law_all.specs.laws.ScanLaw.{guards, is_given_one, is_life_of, is_over, next_back, scan_by}
use Rattle.law_all.specs.laws.Standing.{is_leave}
use Rattle.law_all.specs.laws.Lists.{gained_by}
use Rattle.law_all.specs.laws.StateAt.{Given, InHand, Placed, Without, cuts_by, given_by, is_dequeue, is_empty, is_scan, opened_by, read_by, retires_by, with_told}
use Rattle.law_all.proofs.inv.rows.Lists.{once_last}
use Rattle.law_all.specs.inv.rows.Hands.{each_once, no_entry}
use Rattle.law_all.specs.Logs.Ledgers.{Ledger, ledger_by}
use Rattle.law_all.proofs.Logs.Runs.Entries.{kind_right}
use Rattle.law_all.proofs.Runs.Parts.{once_without}
use Rattle.law_all.specs.RunLaw.{slots_gained, taken_over}

-- What a seat's entries have come to: what it has read, its list, as it is where the lists that it takes over are these, whether it scans, the course of its scans, what its call has done with
-- the row that it was given, which rows it has cut and not retired, how many it has retired, whether a call is under way, what it has told
-- of the map, of the queue and of lists, and its ledger.
pub record Seat : Type 0 where
  pub read : List Seen
  pub lives : List Lifetime
  pub scans : Bool
  pub tally : Tally
  pub given : Given
  pub cuts : List ℕ
  pub retires : ℕ
  pub opened : Bool
  pub told : List Event
  pub ledger : Ledger

-- with one entry more; `left`: the lists that are taken over
abbrev pub seat_by : Config → (left : ℕ → List Lifetime) → Event → Seat → Seat
seat_by c left event x =
    record {
      read = read_by (guards c) event x.read;
      lives = gained_by event left x.lives;
      scans = is_scan event;
      tally = plain_by c.every event x.tally;
      given = given_by event x.given;
      cuts = cuts_by event x.cuts;
      retires = retires_by event x.retires;
      opened = opened_by event x.opened;
      told = with_told event x.told;
      ledger = ledger_by event x.ledger;
    }

-- the call needs no row, or has placed the one that it was given
abbrev pub is_out : Option Call → Given → Bool
is_out call Without = is_dequeue call
is_out call (InHand slot) = is_dequeue call
is_out call Placed = true

abbrev pub open_right : Event → Bool → Bool
open_right (events.Begin call) opened = not opened
open_right event opened = opened

-- calls by which a seat leaves or takes a list over
abbrev pub takes_list : Option Call → Bool
takes_list (Some (calls.Adopt place)) = true
takes_list call = false

abbrev pub hands_on : Option Call → Bool
hands_on call = is_leave call || takes_list call

-- the slots of the lists that a call has told to take over
abbrev pub gain : (left : ℕ → List ℕ) → Event → List ℕ
gain left (events.Adopted place count) = left place
gain left event = []

abbrev pub gains : (left : ℕ → List ℕ) → List Event → List ℕ
gains left [] = []
gains left (event ∷ told) = gain left event ++ gains left told

-- how many lives it has told to leave
abbrev pub part : Event → List ℕ
part (events.Left count) = count ∷ []
part event = []

abbrev pub parts : List Event → List ℕ
parts [] = []
parts (event ∷ told) = part event ++ parts told

-- the slots of lists
abbrev pub slots_in : (left : ℕ → List Lifetime) → (place : ℕ) → List ℕ
slots_in left place = slots_of (left place)

-- what else is so where a row is cut or retired, a list is left or taken over, and where a call ends
abbrev pub Deed : (left : ℕ → List Lifetime) → Event → Seat → Type 0
Deed left (events.Cut slot) x = is_out x.ledger.call x.given ≡ true
Deed left (events.Retire slot birth retire) x =
    ((x.retires == 0) ≡ true) × (no_entry slot x.lives ≡ true) × (is_empty x.cuts ≡ false) × (cuts_one x.ledger.call ≡ true)
Deed left (events.Left count) x = (is_leave x.ledger.call ≡ true) × ((count == length x.lives) ≡ true)
Deed left (events.Adopted place count) x = (takes_list x.ledger.call ≡ true) × (each_once (x.lives ++ left place) ≡ true)
Deed left (events.End steps answer) x =
    (call : Call) × (x.ledger.call ≡ Some call) × (gains (slots_in left) x.told ≡ slots_gained (slots_in left) (taken_over call answer))
Deed left event x = Unit {0}

-- the seat may tell the event
pub record Allowed (c : Config) (left : ℕ → List Lifetime) (event : Event) (x : Seat) : Type 0 where
  pub opens : open_right event x.opened ≡ true
  pub scans : scan_by c x.read x.lives x.scans event ≡ true
  pub course : scan_right (guards c) event x.tally.course ≡ true
  pub places : places_right event x.given ≡ true
  pub kinds : kind_right x.ledger.call event ≡ true
  pub deed : Deed left event x

-- Each slot is on the list once.

pub once_step : (left : ℕ → List Lifetime) (event : Event) (x : Seat) → Deed left event x → each_once x.lives ≡ true
    → each_once (gained_by event left x.lives) ≡ true
once_step left (events.Retire slot birth retire) x d o = once_last x.lives (record { slot = slot; birth = birth; retire = retire }) o d.1
once_step left (events.Back slot) x d o = once_without slot x.lives o
once_step left (events.Adopted place count) x d o = d.1
once_step left event x d o = o

-- What was read, and the course of the scans.

abbrev pub is_reading : Course → Bool
is_reading (Reading reads) = true
is_reading course = false

abbrev pub Counts : Course → List Seen → Type 0
Counts (Reading reads) read = length read ≡ reads
Counts course read = Unit {0}

-- a seat that does not scan has read nothing or a whole block; one that does is on its course
pub record Scanning (all : ℕ) (read : List Seen) (scans : Bool) (course : Course) : Type 0 where
  pub whole : scans ≡ false → (length read == 0 || length read == all) ≡ true
  pub under : scans ≡ true → is_reading course ≡ true
  pub counts : Counts course read

-- a guard that is read
first_read : (all : ℕ) (read : List Seen) (seen : Seen) → (length read == 0 || length read == all) ≡ true
    → length ((if length read == all then [] else read) ++ seen ∷ []) ≡ 1
first_read all read seen h = by (length read == all) refl
  where
    by : (same : Bool) → (length read == all) ≡ same → length ((if same then [] else read) ++ seen ∷ []) ≡ 1
    by true e = refl
    by false e = let none : length read ≡ 0 = grind (arith, nat_tests) in omega (arith, length-append read (seen ∷ []), none)

next_read : (all reads : ℕ) (read : List Seen) (seen : Seen) → nat_lt reads all ≡ true → length read ≡ reads
    → length ((if length read == all then [] else read) ++ seen ∷ []) ≡ reads + 1
next_read all reads read seen h e =
    let other : (length read == all) ≡ false = grind (arith, nat_tests) in
    rw other (omega (arith, length-append read (seen ∷ []), e))

rests : (scans : Bool) → (scans ≡ true → false ≡ true) → scans ≡ false
rests true f = sym (f refl)
rests false f = refl

read_counts : (all : ℕ) (read : List Seen) (scans : Bool) (course : Course) (seen : Seen) → may_read all course ≡ true → Scanning all read scans course
    → Counts (read_course course) ((if length read == all then [] else read) ++ seen ∷ [])
read_counts all read scans Plain seen h s = absurd (cc)
read_counts all read scans Advancing seen h s = absurd (cc)
read_counts all read scans MayScan seen h s = first_read all read seen (s.whole (rests scans s.under))
read_counts all read scans (MustScan moves) seen h s = first_read all read seen (s.whole (rests scans s.under))
read_counts all read scans (Reading reads) seen h s = next_read all reads read seen h s.counts

read_reads : (course : Course) → is_reading (read_course course) ≡ true
read_reads Plain = refl
read_reads Advancing = refl
read_reads MayScan = refl
read_reads (MustScan moves) = refl
read_reads (Reading reads) = refl

-- any other entry, which leaves no scan undone
all_read : (all : ℕ) (read : List Seen) (list : List Lifetime) (scans : Bool) (course : Course) → (not scans || is_over all read list) ≡ true
    → Scanning all read scans course → (length read == 0 || length read == all) ≡ true
all_read all read list true course h s =
    let e : (length read == all) ≡ true = first_of (length read == all) (is_none (next_back read list)) h in
    rw e (or_more (length read == 0) true refl)
all_read all read list false course h s = s.whole refl

calm : (all : ℕ) (read : List Seen) (list : List Lifetime) (scans : Bool) (course next : Course) → (not scans || is_over all read list) ≡ true
    → Scanning all read scans course → Counts next read → Scanning all read false next
calm all read list scans course next h s n = record { whole = λ e. all_read all read list scans course h s; under = λ e. absurd (cc); counts = n }

first_counts : (call : Call) (read : List Seen) → Counts (first_course call) read
first_counts (calls.Put key value) read = tt
first_counts (calls.Remove key) read = tt
first_counts (calls.PutIf key value version) read = tt
first_counts (calls.Enqueue value) read = tt
first_counts calls.Advance read = tt
first_counts calls.Scan read = tt
first_counts call read = tt

moved_counts : (course : Course) (read : List Seen) → Counts course read → Counts (moved_course course) read
moved_counts Plain read h = tt
moved_counts Advancing read h = tt
moved_counts MayScan read h = tt
moved_counts (MustScan moves) read h = tt
moved_counts (Reading reads) read h = h

retired_counts : (due : Bool) (read : List Seen) → Counts (retired_course due) read
retired_counts true read = tt
retired_counts false read = tt

pub scan_step : (c : Config) (event : Event) (x : Seat) → scan_by c x.read x.lives x.scans event ≡ true → scan_right (guards c) event x.tally.course ≡ true
    → Scanning (guards c) x.read x.scans x.tally.course
    → Scanning (guards c) (read_by (guards c) event x.read) (is_scan event) (plain_by c.every event x.tally).course
scan_step c (events.Read guard span) x h r s = record {
  whole = λ e. absurd (cc);
  under = λ e. read_reads x.tally.course;
  counts = read_counts (guards c) x.read x.scans x.tally.course (guard, shown span) r s;
}
scan_step c (events.Saw guard slot) x h r s = record {
  whole = λ e. absurd (cc);
  under = λ e. read_reads x.tally.course;
  counts = read_counts (guards c) x.read x.scans x.tally.course (guard, shown_row slot) r s;
}
scan_step c (events.Back slot) x h r s = record {
  whole = λ e. absurd (cc);
  under = λ e. s.under (first_of x.scans (length x.read == guards c && is_life_of slot (next_back x.read x.lives)) h);
  counts = s.counts;
}
scan_step c (events.Begin call) x h r s = calm (guards c) x.read x.lives x.scans x.tally.course (first_course call) h s (first_counts call x.read)
scan_step c (events.Give slot birth) x h r s = calm (guards c) x.read x.lives x.scans x.tally.course Plain h s tt
scan_step c (events.Era era) x h r s =
    calm (guards c) x.read x.lives x.scans x.tally.course (moved_course x.tally.course) h s (moved_counts x.tally.course x.read s.counts)
scan_step c (events.Retire slot birth retire) x h r s = calm (guards c) x.read x.lives x.scans x.tally.course _ h s (retired_counts _ x.read)
scan_step c event x h r s = calm (guards c) x.read x.lives x.scans x.tally.course x.tally.course h s s.counts

-- A row is cut and retired only by a dequeue or once the call's own row is placed. From the row that is given on, and in a dequeue, no
-- scan may come before a row is retired; and none in a call by which a seat leaves or takes a list over.
pub record Path (x : Seat) : Type 0 where
  pub cut : is_empty x.cuts ≡ false → is_out x.ledger.call x.given ≡ true
  pub retired : (x.retires == 0) ≡ false → is_out x.ledger.call x.given ≡ true
  pub plain : (x.retires == 0) ≡ true → (is_dequeue x.ledger.call || not (is_without x.given)) ≡ true → x.tally.course ≡ Plain
  pub quiet : hands_on x.ledger.call ≡ true → x.tally.course ≡ Plain

first_plain : (call : Call) → (is_dequeue (Some call) || false) ≡ true → first_course call ≡ Plain
first_plain calls.Dequeue h = refl
first_plain call h = absurd (cc)

first_quiet : (call : Call) → hands_on (Some call) ≡ true → first_course call ≡ Plain
first_quiet calls.Leave h = refl
first_quiet (calls.Adopt place) h = refl
first_quiet call h = absurd (cc)

cuts_apart : (call : Option Call) → cuts_one call ≡ true → hands_on call ≡ true → ⊥
cuts_apart (Some calls.Leave) k h = absurd (cc)
cuts_apart (Some (calls.Adopt place)) k h = absurd (cc)
cuts_apart call k h = absurd (cc)

-- a call that is given a row is no dequeue
pub given_not : (call : Option Call) → is_given_one call ≡ true → not (is_dequeue call) ≡ true
given_not (Some calls.Dequeue) h = absurd (cc)
given_not call h = refl

-- a call that may be given a row has none, and is no dequeue
pub not_out : (call : Option Call) (given : Given) → not (is_dequeue call) ≡ true → is_without given ≡ true → is_out call given ≡ true → ⊥
not_out call Without k w o = grind (arith, nat_tests)
not_out call (InHand slot) k w o = absurd (cc)
not_out call Placed k w o = absurd (cc)

pub one_more : (n : ℕ) → (n + 1 == 0) ≡ true → ⊥
one_more n h = grind (arith, nat_tests)

placed_plain : (slot : ℕ) (call : Option Call) (given : Given) → is_in_hand slot given ≡ true → (is_dequeue call || not (is_without given)) ≡ true
placed_plain slot call Without h = absurd (cc)
placed_plain slot call (InHand other) h = or_more (is_dequeue call) true refl
placed_plain slot call Placed h = absurd (cc)

placing : (slot : ℕ) (x : Seat) → is_in_hand slot x.given ≡ true → Path x → (x.retires == 0) ≡ true → x.tally.course ≡ Plain
placing slot x h p z = p.plain z (placed_plain slot x.ledger.call x.given h)

read_never : (all : ℕ) (course : Course) → course ≡ Plain → may_read all course ≡ true → ⊥
read_never all course e h = let t : may_read all Plain ≡ true = subst (λ (y : Course). may_read all y ≡ true) e h in cc

pub path_step : (c : Config) (left : ℕ → List Lifetime) (event : Event) (x : Seat) → Allowed c left event x → Path x → Path (seat_by c left event x)
path_step c left (events.Begin call) x a p =
    record { cut = λ e. absurd (cc); retired = λ e. absurd (cc); plain = λ z o. first_plain call o; quiet = λ q. first_quiet call q }
path_step c left (events.Give slot birth) x a p = record {
  cut = λ e. absurd (not_out x.ledger.call x.given (given_not x.ledger.call a.kinds) a.places (p.cut e));
  retired = λ e. absurd (not_out x.ledger.call x.given (given_not x.ledger.call a.kinds) a.places (p.retired e));
  plain = λ z o. refl;
  quiet = λ q. refl;
}
path_step c left (events.Unused slot) x a p =
    record { cut = λ e. refl; retired = λ e. refl; plain = λ z o. placing slot x a.places p z; quiet = p.quiet }
path_step c left (events.Link (roots.Bucket bucket) slot) x a p = record {
  cut = λ e. refl;
  retired = λ e. refl;
  plain = λ z o. placing slot x a.places p z;
  quiet = p.quiet;
}
path_step c left (events.Link (roots.Next parent) slot) x a p = record {
  cut = λ e. refl;
  retired = λ e. refl;
  plain = λ z o. placing slot x a.places p z;
  quiet = p.quiet;
}
path_step c left (events.Cut slot) x a p = record { cut = λ e. a.deed; retired = p.retired; plain = p.plain; quiet = p.quiet }
path_step c left (events.Retire slot birth retire) x a p = record {
  cut = λ e. p.cut a.deed.2;
  retired = λ e. p.cut a.deed.2;
  plain = λ z o. absurd (one_more x.retires z);
  quiet = λ q. absurd (cuts_apart x.ledger.call a.deed.3 q);
}
path_step c left (events.Era era) x a p = record {
  cut = p.cut;
  retired = p.retired;
  plain = λ z o. ap moved_course (p.plain z o);
  quiet = λ q. ap moved_course (p.quiet q);
}
path_step c left (events.Read guard span) x a p = record {
  cut = p.cut;
  retired = p.retired;
  plain = λ z o. absurd (read_never (guards c) x.tally.course (p.plain z o) a.course);
  quiet = λ q. absurd (read_never (guards c) x.tally.course (p.quiet q) a.course);
}
path_step c left (events.Saw guard slot) x a p = record {
  cut = p.cut;
  retired = p.retired;
  plain = λ z o. absurd (read_never (guards c) x.tally.course (p.plain z o) a.course);
  quiet = λ q. absurd (read_never (guards c) x.tally.course (p.quiet q) a.course);
}
path_step c left event x a p = record { cut = p.cut; retired = p.retired; plain = p.plain; quiet = p.quiet }
