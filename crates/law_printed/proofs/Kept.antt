-- What a trace gives keeps to the version that its first line names, line by line.
use Rattle.std.proofs.Common.{ℕ, ◌≡◌, ◌≤◌, ◌==◌, ◌++◌, ◌∙◌, if◌then◌else◌, nat_le, Bool, true, false, true≢false, List, [], ◌∷◌, length, Option, Some, None, Result, Ok, Err, refl, sym, ap, subst, arith}
use Rattle.std.specs.Prelude.{codes}
use Rattle.std.specs.Str.{bytes_eq}
use Rattle.law_printed.specs.OfVersion.{HasCall}
use Rattle.law_printed.specs.laws.defs.declared.call.Call.{Call}
use Rattle.law_printed.specs.laws.defs.declared.call.Call.TheVariants as calls
use Rattle.law_printed.specs.laws.defs.declared.command.Command.{Command}
use Rattle.law_printed.specs.laws.defs.declared.command.Command.TheVariants as commands
use Rattle.law_printed.specs.laws.words.declared.config.Config.{Config}
use Rattle.wfe_trace.specs.declared.item.Item.{Item}
use Rattle.wfe_trace.specs.declared.item.Item.TheVariants as items
use Rattle.wfe_trace.specs.declared.item.Mode.{Mode}
use Rattle.wfe_trace.specs.declared.item.Mode.TheVariants as modes
use Rattle.wfe_trace.specs.declared.item.Stage.{Stage}
use Rattle.wfe_trace.specs.declared.item.Stage.TheVariants as stages
use Rattle.wfe_trace.specs.declared.reason.BadLine.{BadLine}
use Rattle.wfe_trace.specs.declared.reason.Reason.{Reason}
use Rattle.wfe_trace.specs.declared.reason.Reason.TheVariants as reasons
use Rattle.wfe_trace.specs.Body.{command_in}
use Rattle.wfe_trace.specs.Good.{IsRead, is_body, version_of}
use Rattle.wfe_trace.specs.Reading.{IsVersioned, Reading, gives_pairs, judged, judged_at, stage_after, version_after}
use Rattle.wfe_trace.specs.Setting.{pairs_in, number_line, scheme_known, scheme_version, version_line}
use Rattle.wfe_trace.specs.Words.{need, words}
use Rattle.wfe_trace.proofs.Judged.{both_good, judged-read}
use Rattle.wfe_trace.proofs.Versions.{begins-version}
use Rattle.wfe_server_replay.specs.Given.{Given, keeper, no_lines, with_line}
use Rattle.wfe_server_replay.specs.Replay.{whole}
use Rattle.wfe_server_replay.specs.Trace.{Progress, after_byte, after_bytes, after_good_byte, after_last, after_line, at_end, bad_line, byte_refused, counted, finished, item_taken, judged_item, line_read, line_taken, progress_start, refused_by, unless_refused, ◌>>=◌}
use Rattle.law_printed.specs.Versions.{CallsSuch, GivenOfVersion, HasLines, IsOfVersion}

-- a call of an earlier version is one of the version
has_call : (version : ℕ) (call : Call) → version_of call ≤ version → HasCall version call
has_call version (calls.Copy from index) h = h
has_call version (calls.DropIndex index) h = h
has_call version (calls.Look index key) h = h
has_call version (calls.PutIf key value number) h = h
has_call version calls.Leave h = h
has_call version (calls.Adopt place) h = h
has_call version call h = tt

has_line : (mode : Mode) (version : ℕ) (config : Config) (ws : List (List ℕ)) (line : Command) → command_in mode version config ws ≡ Ok line → CallsSuch (HasCall version) line
has_line mode version config ws (commands.Call seat call) h = has_call version call (begins-version mode version config ws seat call h)
has_line mode version config ws line h = tt

-- what a line says at its place
abbrev SaysAt : Reading → Item → Type 0
SaysAt r items.Setting = Unit {0}
SaysAt r (items.Ready version config) = (version ≡ r.version) × (config ≡ r.config)
SaysAt r (items.Command line) = CallsSuch (HasCall r.version) line

same_item : (r : Reading) (a item : Item) (found : Result Item Reason) → found ≡ Ok a → found ≡ Ok item → SaysAt r a → SaysAt r item
same_item r a item found is_a is_item says = let same : a ≡ item = cc in subst (SaysAt r) same says

says_at : (stage : Stage) (r : Reading) (bytes : List ℕ) (item : Item) → judged_at stage r bytes ≡ Ok item → SaysAt r item
says_at stages.First r bytes item h = let (version, _, g) = both_good (version_line bytes) _ item h in same_item r items.Setting item _ refl g tt
says_at stages.Scheme r bytes item h = let (scheme, _, g) = both_good (scheme_known r.version (words bytes)) _ item h in same_item r items.Setting item _ refl g tt
says_at (stages.Number field) r bytes item h = let (number, _, g) = both_good (number_line field (words bytes)) _ item h in same_item r items.Setting item _ refl g tt
says_at stages.Begin r bytes item h =
    let (u, _, g) = both_good (need (bytes_eq bytes (codes "begin")) reasons.Config) _ item h in
    same_item r (items.Ready r.version r.config) item _ refl g (refl, refl)
says_at stages.Body r bytes item h =
    let (line, said, g) = both_good (command_in r.mode r.version r.config (words bytes)) _ item h in
    same_item r (items.Command line) item _ refl g (has_line r.mode r.version r.config (words bytes) line said)

says : (r : Reading) (bytes : List ℕ) (item : Item) → judged r bytes ≡ Ok item → SaysAt r item
says r bytes item h =
    let (u, _, g) = both_good (need (nat_le (length bytes) 200) reasons.LongLine) _ item h in
    says_at r.stage r bytes item g

-- only the first line names the version
version_stays : (stage : Stage) (version : ℕ) (bytes : List ℕ) → is_body (stage_after stage) ≡ true → version ≡ version_after stage version bytes
version_stays stages.First version bytes h = absurd (cc)
version_stays stages.Scheme version bytes h = refl
version_stays (stages.Number field) version bytes h = refl
version_stays stages.Begin version bytes h = refl
version_stays stages.Body version bytes h = refl

lines_more : (version : ℕ) (lines : List Command) (line : Command) → HasLines version lines → CallsSuch (HasCall version) line → HasLines version (lines ++ line ∷ [])
lines_more version [] line h g = (g, tt)
lines_more version (first ∷ lines) line h g = (h.0, lines_more version lines line h.1 g)

given_more : (given : Given) (line : Command) → IsOfVersion given → CallsSuch (HasCall given.version) line → IsOfVersion (with_line line given)
given_more given line h g = record { first = h.first; last = h.last; pairs = h.pairs; scheme = h.scheme; calls = lines_more given.version given.lines line h.calls g }

-- the lines so far are of the version that was read
abbrev KeptAt : (stage : Stage) (version : ℕ) → Option Given → Type 0
KeptAt stage version None = Unit {0}
KeptAt stage version (Some given) = (is_body stage ≡ true) × (given.version ≡ version) × IsOfVersion given

record Kept (p : Progress Given) : Type 0 where
  plain : gives_pairs p.reading.stage ≡ false
  versioned : IsVersioned p.reading.version p.reading.config
  given : KeptAt p.reading.stage p.reading.version p.engine

none_kept : (stage after : Stage) (version next : ℕ) (engine : Option Given) → is_body stage ≡ false → KeptAt stage version engine → KeptAt after next engine
none_kept stage after version next None e h = tt
none_kept stage after version next (Some given) e h = absurd (true≢false (sym h.0 ∙ e))

-- the line `begin`
ready_kept : (p : Progress Given) (version : ℕ) (config : Config) (bytes : List ℕ) → IsRead p.reading p.reading.stage bytes (items.Ready version config) → SaysAt p.reading (items.Ready version config) → IsVersioned p.reading.version p.reading.config
    → KeptAt (stage_after p.reading.stage) (version_after p.reading.stage p.reading.version bytes) (Some (no_lines version config))
ready_kept p version config bytes read says v =
    let pairs : config.pairs ≡ pairs_in version = ap (λ (c : Config). c.pairs) says.1 ∙ v.2 ∙ sym (ap pairs_in says.0) in
    let known : scheme_version config.scheme ≤ version = subst (λ (n : ℕ). scheme_version config.scheme ≤ n) (sym says.0) (subst (λ (c : Config). scheme_version c.scheme ≤ p.reading.version) (sym says.1) v.3) in (
      read.placed.1,
      says.0 ∙ version_stays p.reading.stage p.reading.version bytes read.placed.1,
      record { first = subst (λ (n : ℕ). 1 ≤ n) (sym says.0) v.0; last = subst (λ (n : ℕ). n ≤ 5) (sym says.0) v.1; pairs = pairs; scheme = known; calls = tt },
    )

-- a line of the body
command_kept : (makes : Call → Bool) (r : Reading) (bytes : List ℕ) (n : ℕ) (ended : Bool) (engine : Option Given) (line : Command) → IsRead r r.stage bytes (items.Command line) → CallsSuch (HasCall r.version) line
    → Kept (record { reading = r; line = bytes; count = n; ended = ended; engine = engine })
    → Kept (item_taken (keeper makes) (line_read (record { reading = r; line = bytes; count = n; ended = ended; engine = engine })) (items.Command line))
command_kept makes r bytes n ended None line read has k = record { plain = read.next; versioned = read.versioned k.plain k.versioned; given = tt }
command_kept makes r bytes n ended (Some given) line read has k = record {
  plain = read.next;
  versioned = read.versioned k.plain k.versioned;
  given = (
    read.placed.1,
    k.given.1 ∙ version_stays r.stage r.version bytes read.placed.1,
    given_more given line k.given.2 (subst (λ (version : ℕ). CallsSuch (HasCall version) line) (sym k.given.1) has),
  );
}

item_kept : (makes : Call → Bool) (p : Progress Given) (item : Item) → IsRead p.reading p.reading.stage p.line item → SaysAt p.reading item → Kept p → Kept (item_taken (keeper makes) (line_read p) item)
item_kept makes p items.Setting read says k = record {
  plain = read.next;
  versioned = read.versioned k.plain k.versioned;
  given = none_kept p.reading.stage (stage_after p.reading.stage) p.reading.version (version_after p.reading.stage p.reading.version p.line) p.engine read.placed.0 k.given;
}
item_kept makes p (items.Ready version config) read says k = record {
  plain = read.next;
  versioned = read.versioned k.plain k.versioned;
  given = ready_kept p version config p.line read says k.versioned;
}
item_kept makes p (items.Command line) read says k = command_kept makes p.reading p.line p.count p.ended p.engine line read says k

abbrev KeptIn : Result (Progress Given) BadLine → Type 0
KeptIn (Ok p) = Kept p
KeptIn (Err bad) = Unit {0}

refused_kept : (makes : Call → Bool) (p : Progress Given) (item : Item) (why : Option Reason) → Kept (item_taken (keeper makes) (line_read p) item) → KeptIn (line_taken (keeper makes) p (unless_refused p item why))
refused_kept makes p item (Some reason) k = tt
refused_kept makes p item None k = k

judged_kept : (makes : Call → Bool) (p : Progress Given) (found : Result Item Reason) → judged p.reading p.line ≡ found → Kept p → KeptIn (line_taken (keeper makes) p (judged_item (keeper makes) p found))
judged_kept makes p (Err reason) e k = tt
judged_kept makes p (Ok item) e k =
    refused_kept makes p item (refused_by (keeper makes) p item) (item_kept makes p item (judged-read p.reading p.line item e) (says p.reading p.line item e) k)

line_kept : (makes : Call → Bool) (p : Progress Given) → Kept p → KeptIn (after_line (keeper makes) p)
line_kept makes p k = judged_kept makes p (judged p.reading p.line) refl k

-- a byte more
more_kept : (makes : Call → Bool) (p : Progress Given) (b : ℕ) (feed : Bool) → Kept p → KeptIn (if feed then after_line (keeper makes) (counted p) else Ok (record (counted p) { line = p.line ++ b ∷ [] }))
more_kept makes p b true k = line_kept makes (counted p) (record { plain = k.plain; versioned = k.versioned; given = k.given })
more_kept makes p b false k = record { plain = k.plain; versioned = k.versioned; given = k.given }

good_kept : (makes : Call → Bool) (p : Progress Given) (b : ℕ) (why : Option Reason) → Kept p → KeptIn (after_good_byte (keeper makes) p b why)
good_kept makes p b (Some reason) k = tt
good_kept makes p b None k = more_kept makes p b (b == 10) k

byte_kept : (makes : Call → Bool) (r : Result (Progress Given) BadLine) (b : ℕ) → KeptIn r → KeptIn (r >>= (λ p. after_byte (keeper makes) p b))
byte_kept makes (Ok p) b k = good_kept makes p b (byte_refused p b) k
byte_kept makes (Err bad) b k = tt

bytes_kept : (makes : Call → Bool) (r : Result (Progress Given) BadLine) (bytes : List ℕ) → KeptIn r → KeptIn (after_bytes (keeper makes) r bytes)
bytes_kept makes r [] k = k
bytes_kept makes r (b ∷ bytes) k = bytes_kept makes (r >>= (λ p. after_byte (keeper makes) p b)) bytes (byte_kept makes r b k)

-- the end of the bytes
last_kept : (makes : Call → Bool) (p : Progress Given) (none : Bool) → Kept p → KeptIn (if none then Ok p else after_line (keeper makes) p)
last_kept makes p true k = k
last_kept makes p false k = line_kept makes p k

ended_kept : (p : Progress Given) (bad : BadLine) (ended : Bool) → Kept p → KeptIn (if ended then Ok p else Err bad)
ended_kept p bad true k = k
ended_kept p bad false k = tt

end_kept : (r : Result (Progress Given) BadLine) → KeptIn r → KeptIn (r >>= at_end)
end_kept (Ok p) k = ended_kept p (bad_line p reasons.NoEnd) p.ended k
end_kept (Err bad) k = tt

finished_kept : (makes : Call → Bool) (r : Result (Progress Given) BadLine) → KeptIn r → KeptIn (r >>= finished (keeper makes))
finished_kept makes (Ok p) k = end_kept (after_last (keeper makes) p) (last_kept makes p (length p.line == 0) k)
finished_kept makes (Err bad) k = tt

start_kept : Kept (progress_start modes.Replay)
start_kept = record { plain = refl; versioned = (omega arith, omega arith, refl, omega arith); given = tt }

whole_kept : (makes : Call → Bool) (bytes : List ℕ) → KeptIn (whole makes bytes)
whole_kept makes bytes = finished_kept makes (after_bytes (keeper makes) (Ok (progress_start modes.Replay)) bytes) (bytes_kept makes (Ok (progress_start modes.Replay)) bytes start_kept)

kept_of : (stage : Stage) (version : ℕ) (engine : Option Given) (given : Given) → engine ≡ Some given → KeptAt stage version engine → IsOfVersion given
kept_of stage version None given e k = absurd (cc)
kept_of stage version (Some found) given e k = let same : found ≡ given = cc in subst IsOfVersion same k.2

pub given_of_version : GivenOfVersion
given_of_version makes bytes progress given e there =
    let k : Kept progress = subst KeptIn e (whole_kept makes bytes) in
    kept_of progress.reading.stage progress.reading.version progress.engine given there k.given
