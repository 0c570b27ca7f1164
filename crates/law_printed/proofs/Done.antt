-- What a replay prints where its work is done is found lawful.
use Rattle.std.proofs.Common.{◌≡◌, ◌≤◌, ◌++◌, ◌∙◌, Bool, List, [], ◌∷◌, ℕ, None, ap, append-nil, append_assoc, arith, codes, length, refl, subst, sym}
use Rattle.std.proofs.lemmas.Bool.Decides.{nat_tests}
use Rattle.laws.proofs.records.Entries.{each_of_entries}
use Rattle.laws.specs.Good.{Good}
use Rattle.law_printed.proofs.ReadBack.Verdicts.{lawful_read}
use Rattle.law_printed.specs.ReadBack.Printed.{ArePrinted, IsWhole, past_of}
use Rattle.law_printed.specs.lines.Verdicts.{IsLawful}
use Rattle.law_printed.specs.lines.out.Heard.{Seen}
use Rattle.law_printed.specs.lines.out.Pieces.{Piece, Text, Told, heard_of, text_of}
use Rattle.law_printed.specs.lines.out.Sizes.{AreSized}
use Rattle.law_printed.proofs.Begins.{records_begin}
use Rattle.law_printed.proofs.Kept.{given_of_version}
use Rattle.law_printed.proofs.Told.{records_are_of}
use Rattle.wfe_server_replay.specs.Given.{Given, given_out, given_record, lines_out, no_lines, past_entries}
use Rattle.wfe_server_replay.specs.Replay.{IsReplayed}
use Rattle.wfe_server_replay.specs.Sunk.{Outside}
use Rattle.wfe_server_replay.specs.Watched.{WatchersFit, watch_text}
use Rattle.law_printed.specs.OfVersion.{AreOf, HasScheme}
use Rattle.laws.specs.HistoryTable.{guards_ok, ranges_ok}
use Rattle.wfe_defs.specs.Entry.{Entry, entry}
use Rattle.wfe_defs.specs.declared.call.Call.{Call}
use Rattle.laws.specs.records.Record.{Past, tells}
use Rattle.laws.specs.records.Record.Past.{Start, Then}
use Rattle.laws.specs.words.Config.{bad_field}
use Rattle.laws.specs.words.declared.config.Config.{Config}
use Rattle.laws.specs.words.declared.config.SchemeKind.{SchemeKind}
use Rattle.laws.specs.words.declared.config.SchemeKind.TheVariants.{He, Hp, Ibr, Wfe}
use Rattle.law_printed.specs.lines.records.record_words.Within.{Small}
use Rattle.wfe_trace.specs.Fits.{NumberFits}
use Rattle.wfe_server_out.proofs.Sizes.{sized_along}
use Rattle.wfe_server_out.proofs.Texts.{heard_of-append, text_of-append}
use Rattle.wfe_outside.specs.declared.watcher.WatchRow.{WatchRow}
use Rattle.wfe_trace.specs.Record.{header_line}
use Rattle.wfe_trace.specs.Setting.{scheme_version}
use Rattle.law_printed.specs.Printed.{IsKept, IsPutOut, PrintsLawful, WritesLawful}
use Rattle.law_printed.proofs.First.{history_good}
use Rattle.law_printed.proofs.ReadBack.Ranges.{small_in_range}
use Rattle.law_printed.proofs.Pieces.{AreIn, entries_in, printed_of, texts_along}
use Rattle.law_printed.proofs.Tables.{lines_texts}
use Rattle.law_printed.proofs.Verdicts.{found_of}
use Rattle.law_printed.proofs.Watched.{watched_printed}

tells-along : (p : Past) (xs ys : List Entry) → tells p (xs ++ ys) ≡ tells (tells p xs) ys
tells-along p [] ys = refl
tells-along p (x ∷ xs) ys = tells-along (Then p x.seat x.event) xs ys

-- a record is its entries
tells_all : (p : Past) → tells Start (past_entries p) ≡ p
tells_all Start = refl
tells_all (Then p i event) = tells-along Start (past_entries p) (entry i event ∷ []) ∙ ap (λ (q : Past). Then q i event) (tells_all p)

three_indexes : (config : Config) → bad_field config ≡ None → 3 ≤ config.indexes
three_indexes config good = grind (arith, nat_tests)

-- what stands between the first line and the last one
abbrev body_of : Given → List ℕ → List Piece
body_of given watched = lines_out (no_lines given.version given.config) given.lines ++ Text watched ∷ []

body_heard : (given : Given) (watched : List ℕ) → heard_of (body_of given watched) ≡ heard_of (given_out given)
body_heard given watched =
    let lines : List Piece = lines_out (no_lines given.version given.config) given.lines in
    heard_of-append lines (Text watched ∷ []) ∙ append-nil (heard_of lines)

body_text : (given : Given) (watched : List ℕ) → text_of (given_out given ++ Text watched ∷ Text (codes "done\n") ∷ []) ≡ header_line given.version given.config ++ (text_of (body_of given watched) ++ codes "done\n")
body_text given watched =
    let lines : List Piece = lines_out (no_lines given.version given.config) given.lines in
    ap (λ (t : List ℕ). header_line given.version given.config ++ t)
    (ap text_of (sym (append_assoc lines (Text watched ∷ []) (Text (codes "done\n") ∷ []))) ∙ text_of-append (body_of given watched) (Text (codes "done\n") ∷ [])
    ∙ ap (λ (t : List ℕ). text_of (body_of given watched) ++ t) (append-nil (codes "done\n")))

body_past : (given : Given) (watched text : List ℕ) → IsPutOut given watched text → past_of (body_of given watched) ≡ given_record given
body_past given watched text is = ap (tells Start) (body_heard given watched ∙ is.record_is) ∙ tells_all (given_record given)

-- a later version has the schemes of the earlier ones
has_scheme : (version : ℕ) (scheme : SchemeKind) → scheme_version scheme ≤ version → HasScheme version scheme
has_scheme version Hp h = h
has_scheme version He h = tt
has_scheme version Ibr h = tt
has_scheme version Wfe h = tt

all_of : (given : Given) (watched text : List ℕ) → IsPutOut given watched text → AreOf given.version (given_record given)
all_of given watched text is = records_are_of given.version given.config (given_record given) (has_scheme given.version given.config.scheme is.versions.scheme) is.kept.laws is.begins.versions

body_printed : (given : Given) (watched text : List ℕ) → IsPutOut given watched text → ArePrinted given.version given.config (body_of given watched)
body_printed given watched text is =
    let config : Config = given.config in
    let r : Past = given_record given in
    let lines : List Piece = lines_out (no_lines given.version config) given.lines in
    let small : Small config = small_in_range config is.config in
    let seats : NumberFits config.seats = let l = small.seats in omega arith in
    let known : AreIn given.version config (past_entries r) =
    entries_in given.version config r is.begins.names (each_of_entries (ranges_ok config) r is.kept.ranges) (each_of_entries (guards_ok config) r is.kept.guards) (all_of given watched text is) in
    printed_of given.version config (body_of given watched) (sized_along lines (Text watched ∷ []) is.sized tt)
    (subst (AreIn given.version config) (sym (body_heard given watched ∙ is.record_is)) known)
    (texts_along given.version config lines (Text watched ∷ []) (lines_texts given.version (no_lines given.version config) given.lines seats) (is.rows, tt))

whole_of : (given : Given) (watched text : List ℕ) → IsPutOut given watched text → length text ≤ 1073741824 → IsWhole given.version given.config (body_of given watched) text
whole_of given watched text is short = record {
  first = is.versions.first;
  last = is.versions.last;
  within = is.config;
  pairs = is.versions.pairs;
  known = is.versions.scheme;
  printed = body_printed given watched text is;
  is = is.is ∙ body_text given watched;
  short = short;
}

pub prints_lawful : PrintsLawful
prints_lawful given watched text is short =
    let r : Past = given_record given in
    let good : Good given.version given.config r =
    history_good given.version given.config r is.versions.first (three_indexes given.config is.config) is.kept.laws is.kept.indexes (all_of given watched text is) in
    let told : Good given.version given.config (past_of (body_of given watched)) = subst (Good given.version given.config) (sym (body_past given watched text is)) good in
    found_of text (length (past_entries r)) (λ left at_end.
    subst (λ (n : ℕ). IsLawful text left n) (ap length (body_heard given watched ∙ is.record_is))
    (lawful_read given.version given.config (body_of given watched) text left (whole_of given watched text is short) told at_end))

sized_first : (xs ys : List Piece) → AreSized (xs ++ ys) → AreSized xs
sized_first [] ys sized = tt
sized_first (Text bytes ∷ xs) ys sized = sized_first xs ys sized
sized_first (Told x ∷ xs) ys sized = (sized.0, sized_first xs ys sized.1)

-- so it is with what a replay has written where its work is done
pub done_prints : (makes : Call → Bool) {W : Type 0} (seen : Seen W) (shown : W → ℕ) (shows : W → ℕ → WatchRow) (taken : List ℕ) (old new : Outside W) (done : IsReplayed makes seen (watch_text shown shows new.watchers) taken old new)
    → heard_of (given_out done.given) ≡ past_entries (given_record done.given) → IsKept done.given.config (given_record done.given) → WatchersFit shown shows new.watchers
    → WritesLawful old.written new.written (length (past_entries (given_record done.given)))
done_prints makes seen shown shows taken old new done record_is kept fits =
    let given : Given = done.given in
    let watched : List ℕ = watch_text shown shows new.watchers in
    let versions = given_of_version makes taken done.progress given done.good done.is_given in
    let last : List Piece = Text watched ∷ Text (codes "done\n") ∷ [] in (
      text_of (given_out given ++ last),
      done.put.wrote,
      (λ short. prints_lawful given watched (text_of (given_out given ++ last)) (record {
        versions = versions;
        begins = records_begin makes given done.is_taken versions;
        config = done.is_taken.config;
        kept = kept;
        record_is = record_is;
        sized = sized_first (given_out given) last done.put.sized;
        rows = watched_printed shown shows given.version given.config new.watchers fits;
        is = refl;
      }) short),
    )
