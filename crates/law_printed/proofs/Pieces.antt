-- The pieces that a replay puts out are lines of a record: those of entries by what is known of the record, all others by their text.
use Rattle.std.proofs.Common.{◌≡◌, ◌<◌, ◌++◌, List, [], ◌∷◌, ℕ, true, arith, nat_lt}
use Rattle.std.proofs.lemmas.Bool.Decides.{nat_tests}
use Rattle.wfe_defs.proofs.Facts.{rest_of}
use Rattle.law_printed.specs.ReadBack.Printed.{ArePrinted, IsPrinted}
use Rattle.law_printed.specs.lines.out.Pieces.{Piece, Text, Told, heard_of}
use Rattle.law_printed.specs.lines.out.Sizes.{AreSized}
use Rattle.law_printed.specs.Versions.{CallNames}
use Rattle.wfe_server_replay.specs.Given.{past_entries}
use Rattle.law_printed.specs.OfVersion.{AreOf, BeginsAll, HasEvent}
use Rattle.laws.specs.HistoryTable.{guards_ok, is_guarded, is_in_range, ranges_ok}
use Rattle.wfe_defs.specs.Entry.{Entry, entry}
use Rattle.wfe_defs.specs.declared.event.Event.{Event}
use Rattle.wfe_defs.specs.declared.event.Event.TheVariants as events
use Rattle.laws.specs.records.Record.{Each, Past}
use Rattle.laws.specs.records.Record.Past.{Start, Then}
use Rattle.laws.specs.words.declared.config.Config.{Config}
use Rattle.law_printed.proofs.Events.{BeginNames, event_of}

-- an entry is of a seat of the setting, names what the setting has, and its version has it
pub record IsIn (version : ℕ) (config : Config) (x : Entry) : Type 0 where
  pub seat : x.seat < config.seats
  pub names : BeginNames config x.event
  pub told : is_in_range config x.event ≡ true
  pub guarded : is_guarded config x.event ≡ true
  pub has : HasEvent version x.event

abbrev pub AreIn : ℕ → Config → List Entry → Type 0
AreIn version config [] = Unit {0}
AreIn version config (x ∷ xs) = IsIn version config x × AreIn version config xs

in_along : (version : ℕ) (config : Config) (xs ys : List Entry) → AreIn version config xs → AreIn version config ys → AreIn version config (xs ++ ys)
in_along version config [] ys one two = two
in_along version config (x ∷ xs) ys one two = (one.0, in_along version config xs ys one.1 two)

names_last : (config : Config) (i : ℕ) (event : Event) (p : Past) → BeginsAll (CallNames config) (Then p i event) → BeginNames config event
names_last config i (events.Begin call) p h = h.1
names_last config i event p h = tt

names_before : (config : Config) (i : ℕ) (event : Event) (p : Past) → BeginsAll (CallNames config) (Then p i event) → BeginsAll (CallNames config) p
names_before config i (events.Begin call) p h = h.0
names_before config i event p h = h

-- the entries of a record of which this is known
pub entries_in : (version : ℕ) (config : Config) (p : Past) → BeginsAll (CallNames config) p → Each (ranges_ok config) p → Each (guards_ok config) p → AreOf version p → AreIn version config (past_entries p)
entries_in version config Start names ranges guarded of = tt
entries_in version config (Then p i event) names ranges guarded of =
    let told : is_in_range config event ≡ true = rest_of (nat_lt i config.seats) (is_in_range config event) ranges.0 in
    let before : AreIn version config (past_entries p) = entries_in version config p (names_before config i event p names) ranges.1 guarded.1 of.0 in
    let seat : i < config.seats = grind (arith, nat_tests) in
    in_along version config (past_entries p) (entry i event ∷ []) before
    (record { seat = seat; names = names_last config i event p names; told = told; guarded = guarded.0; has = of.1 }, tt)

-- each text of pieces is lines of counts or of watchers' rows
abbrev pub TextsAre : ℕ → Config → List Piece → Type 0
TextsAre version config [] = Unit {0}
TextsAre version config (Text bytes ∷ ps) = IsPrinted version config (Text bytes) × TextsAre version config ps
TextsAre version config (Told x ∷ ps) = TextsAre version config ps

pub texts_along : (version : ℕ) (config : Config) (ps qs : List Piece) → TextsAre version config ps → TextsAre version config qs → TextsAre version config (ps ++ qs)
texts_along version config [] qs one two = two
texts_along version config (Text bytes ∷ ps) qs one two = (one.0, texts_along version config ps qs one.1 two)
texts_along version config (Told x ∷ ps) qs one two = texts_along version config ps qs one two

pub printed_of : (version : ℕ) (config : Config) (ps : List Piece) → AreSized ps → AreIn version config (heard_of ps) → TextsAre version config ps → ArePrinted version config ps
printed_of version config [] sized known texts = tt
printed_of version config (Text bytes ∷ ps) sized known texts = (texts.0, printed_of version config ps sized known texts.1)
printed_of version config (Told x ∷ ps) sized known texts =
    let k = known.0 in
    ((k.seat, event_of version config x.event sized.0 k.names k.told k.guarded k.has), printed_of version config ps sized.1 known.1 texts)
