-- The record of a replay is lawful, since each history is.
use Rattle.wfe_server_out.specs.Heard.{Hears, Seen}
use Rattle.std.proofs.Common.{Bool, List, None, Option, Some, [], ap, append-nil, codes, refl, subst, ℕ, ◌++◌, ◌∙◌, ◌≡◌, ◌∷◌, true}
use Rattle.wfe_defs.specs.Entry.{Entry, entry}
use Rattle.wfe_server_gen.specs.Generated.{Generates}
use Rattle.wfe_server_gen.specs.Turns.{generated, trace_of}
use Rattle.wfe_server_out.specs.Pieces.{Piece, Text, heard_of}
use Rattle.wfe_server_out.proofs.Texts.{heard_of-append}
use Rattle.wfe_trace.specs.Record.{bad_line as bad_text}
use Rattle.wfe_trace.specs.declared.reason.Status.{Status}
use Rattle.wfe_trace.specs.declared.reason.Status.TheVariants as statuses
use Rattle.wfe_server_gen.specs.server_replay.Given.{Given, IsTakenIn, given_out, given_record, items, layout_of, partial_out, past_entries}
use Rattle.wfe_server_gen.specs.server_replay.Replay.{IsStopped, Replays, Says, all_lines, closed_lines}
use Rattle.wfe_server_gen.specs.server_replay.Sunk.{Outside}
use Rattle.wfe_server_gen.proofs.server_replay.Lines.{good_taken}
use Rattle.wfe_server_gen.proofs.server_replay.Parts.{all_taken}
use Rattle.wfe_server_gen.proofs.server_replay.Plays.{valid_of}
use Rattle.wfe_server.proofs.all.Whole.{histories_are_lawful}
use Rattle.wfe_server_gen.specs.server_replay.history.Record.{Past}
use Rattle.wfe_server_gen.specs.server_replay.history.Record.Past.{Start, Then}
use Rattle.wfe_trace.specs.words.Place.{is_valid}
use Rattle.law_printed.specs.ListCounts.Counted.{waiting_of}
use Rattle.law_printed.specs.watch.Lists.{lists_after, no_lists, waiting_at, waiting_in}
use Rattle.law_printed.proofs.ListCounts.Fitting.{records_count_lists}
use Rattle.law_printed.proofs.watch.ListsLemmas.{lists_told-append}
use Rattle.wfe_cli.specs.Headline.{AreLawful, GivenLawful, HasLaws, IsBroken, Keeps, Promises, Summarizes, entries_in}
use Rattle.wfe_core.specs.Locals.{stays}
use Rattle.wfe_defs.specs.declared.call.Call.{Call}

-- what is counted entry by entry
counted_so : (seats : ℕ) (p : Past) → waiting_in seats (past_entries p) ≡ waiting_of seats p
counted_so seats Start = refl
counted_so seats (Then p i event) = lists_told-append (past_entries p) (entry i event ∷ []) (no_lists seats) ∙ ap (λ (counts : List ℕ). lists_after counts i event) (counted_so seats p)

pub given_lawful : (makes : Call → Bool) → GivenLawful makes
given_lawful makes given t =
    let g = good_taken makes given t in
    let valid : is_valid (layout_of given) ≡ true = valid_of (layout_of given) t.config in
    record {
      lawful = histories_are_lawful (layout_of given) (items given) valid;
      record_is = g.heard;
      waiting = λ seat h. ap (λ (counts : List ℕ). waiting_at counts seat) (counted_so given.config.seats (given_record given)) ∙ records_count_lists (layout_of given) (items given) valid seat h;
    }

lawful_in : (makes : Call → Bool) (lines : Option Given) → IsTakenIn makes lines → AreLawful lines
lawful_in makes None t = tt
lawful_in makes (Some given) t = given_lawful makes given t

-- what is put out of the lines tells their record
told_in : (lines : Option Given) → AreLawful lines → heard_of (partial_out lines) ≡ entries_in lines
told_in None laws = refl
told_in (Some given) laws = laws.record_is

-- the lines after those of the trace tell of no event
heard_all : {W : Type 0} (seen : Seen W) (old new : List W) (lines last : List Piece) (entries : List Entry) → heard_of last ≡ [] → heard_of lines ≡ entries → Hears seen old new (heard_of (lines ++ last)) → Hears seen old new entries
heard_all seen old new lines last entries none told heard =
    subst (Hears seen old new) (heard_of-append lines last ∙ ap (λ (xs : List Entry). heard_of lines ++ xs) none ∙ append-nil (heard_of lines) ∙ told) heard

heard_lines : {W : Type 0} (seen : Seen W) (old new : List W) (lines : List Piece) (entries : List Entry) → heard_of lines ≡ entries → Hears seen old new (heard_of lines) → Hears seen old new entries
heard_lines seen old new lines entries told heard = subst (Hears seen old new) told heard

pub broken_of : (makes : Call → Bool) {W : Type 0} (seen : Seen W) (watched taken : List ℕ) (left : Option (List ℕ)) (old new : Outside W) → IsStopped makes seen watched taken left old new → IsBroken makes seen watched taken left old new
broken_of makes seen watched taken left old new stopped = record {
  stopped = stopped;
  closed = lawful_in makes (closed_lines makes taken) stopped.are_closed;
  all = lawful_in makes (all_lines makes taken) stopped.are_taken;
  whole = λ rest e. lawful_in makes (all_lines makes (taken ++ rest)) (all_taken makes (taken ++ rest));
}

promised : (makes : Call → Bool) {W : Type 0} (seen : Seen W) (status : Status) (watched taken : List ℕ) (left : Option (List ℕ)) (old new : Outside W) → Says makes seen status watched taken left old new → Promises makes seen status watched taken left old new
promised makes seen statuses.Done watched taken left old new (r, end_) =
    let laws : HasLaws r.given = given_lawful makes r.given r.is_taken in
    record {
      replayed = r;
      at_end = end_;
      heard = heard_all seen old.watchers new.watchers (given_out r.given) (Text watched ∷ Text (codes "done\n") ∷ []) (past_entries (given_record r.given)) refl laws.record_is r.put.heard;
      laws = laws;
    }
promised makes seen statuses.Usage watched taken left old new h = h
promised makes seen (statuses.BadTrace line reason) watched taken left old new r =
    let laws : AreLawful (all_lines makes taken) = lawful_in makes (all_lines makes taken) r.are_taken in
    record {
      refused = r;
      heard = heard_all seen old.watchers new.watchers (partial_out (all_lines makes taken)) (Text (bad_text line reason) ∷ []) (entries_in (all_lines makes taken)) refl (told_in (all_lines makes taken) laws) r.put.heard;
      laws = laws;
    }
promised makes seen (statuses.Unlawful line) watched taken left old new h = h
promised makes seen (statuses.BadRecord line reason) watched taken left old new h = h
promised makes seen statuses.ReadFault watched taken left old new r =
    let laws : AreLawful (closed_lines makes taken) = lawful_in makes (closed_lines makes taken) r.are_taken in
    record { cut_off = r; heard = heard_lines seen old.watchers new.watchers (partial_out (closed_lines makes taken)) (entries_in (closed_lines makes taken)) (told_in (closed_lines makes taken) laws) r.put.heard; laws = laws }
promised makes seen statuses.WriteFault watched taken left old new stopped = broken_of makes seen watched taken left old new stopped
promised makes seen statuses.NoMemory watched taken left old new stopped = broken_of makes seen watched taken left old new stopped

pub keeps_of : (makes : Call → Bool) {W : Type 0} (seen : Seen W) (status : Status) (watched : List ℕ) (before left : Option (List ℕ)) (old new : Outside W) → Replays makes seen status watched before left old new → Keeps makes seen status watched before left old new
keeps_of makes seen status watched before left old new (taken, consumed, said) = (taken, consumed, promised makes seen status watched taken left old new said)

pub summarizes_of : {W : Type 0} (seen : Seen W) (status : Status) (seed turns : ℕ) (watched : List ℕ) (old new : Outside W) → Generates seen status seed turns watched old new → Summarizes seen status seed turns watched old new
summarizes_of seen status seed turns watched old new made = record { made = made; laws = given_lawful stays (trace_of (generated seed turns)) made.taken }
