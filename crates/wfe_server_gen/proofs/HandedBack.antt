-- A list of watchers that was lent is handed back.
use Rattle.std.proofs.Common.{List, Option, ℕ, ◌++◌, ◌≡◌, drop, length, refl, subst, sym, take}
use Rattle.std.specs.Io.KnownBytes.{Appends}
use Rattle.wfe_outside.specs.declared.watcher.WatchRow.{WatchRow}
use Rattle.wfe_server_out.specs.Heard.{Hears, HearsSome, Seen}
use Rattle.wfe_server_out.specs.Some.{AppendsSome}
use Rattle.wfe_trace.specs.declared.reason.Status.TheVariants as statuses
use Rattle.wfe_core.specs.Locals.{stays}
use Rattle.wfe_server_replay.specs.Given.{IsTaken}
use Rattle.wfe_server_replay.specs.Sunk.{outside}
use Rattle.wfe_server_replay.specs.Watched.{watch_text}
use Rattle.wfe_server_replay.proofs.Says.{back_again}
use Rattle.wfe_server_gen.specs.declared.summary.Summary.{Summary}
use Rattle.wfe_server_gen.specs.Generated.{Generates, entries_of}
use Rattle.wfe_server_gen.specs.Report.{report}
use Rattle.wfe_server_gen.specs.Summary.{summary_of}
use Rattle.wfe_server_gen.specs.Turns.{generated, trace_of}

-- what it is in the end
abbrev pub back : {W : Type 0} → ℕ → List W → List W → List W
back n us vs = take n (us ++ drop (length us) vs)

-- what the list that was lent has heard, the list itself has
heard_back : {W : Type 0} (P : List W → List W → Type 0) (ws vs us : List W) (n : ℕ) → ws ≡ vs → length us ≡ length vs → n ≡ length vs → P ws us → P vs (back n us vs)
heard_back P ws vs us n e l m h = subst (P vs) (sym (back_again us vs n l m)) (subst (λ xs. P xs us) e h)

-- the report is that of the record, with the rows of the list
written_back : {W : Type 0} (P : List ℕ → Type 0) (text : List W → List ℕ) (seed turns : ℕ) (ds fs : List W) (s : Summary) → ds ≡ fs → s ≡ summary_of (entries_of (generated seed turns)) → P (report s (text ds)) → P (report (summary_of (entries_of (generated seed turns))) (text fs))
written_back P text seed turns ds fs s d sum h = subst (λ (x : Summary). P (report x (text fs))) sum (subst (λ xs. P (report s (text xs))) d h)

pub generates_done : {W : Type 0} (seen : Seen W) (shown : W → ℕ) (shows : W → ℕ → WatchRow) (seed turns : ℕ) (old new : Option (List ℕ)) (ws vs us ds : List W) (n : ℕ) (s : Summary) → ws ≡ vs → length us ≡ length vs → n ≡ length vs
    → ds ≡ back n us vs → s ≡ summary_of (entries_of (generated seed turns)) → IsTaken stays (trace_of (generated seed turns)) → Hears seen ws us (entries_of (generated seed turns)) → Appends old new (report s (watch_text shown shows ds))
    → Generates seen statuses.Done seed turns (watch_text shown shows (back n us vs)) (outside old vs) (outside new (back n us vs))
generates_done seen shown shows seed turns old new ws vs us ds n s e l m d sum taken heard wrote = record {
  taken = taken;
  says = (
    written_back (Appends old new) (watch_text shown shows) seed turns ds (back n us vs) s d sum wrote,
    heard_back (λ xs ys. Hears seen xs ys (entries_of (generated seed turns))) ws vs us n e l m heard,
  );
}

pub generates_fault : {W : Type 0} (seen : Seen W) (shown : W → ℕ) (shows : W → ℕ → WatchRow) (seed turns : ℕ) (old new : Option (List ℕ)) (ws vs us ds : List W) (n : ℕ) (s : Summary) → ws ≡ vs → length us ≡ length vs → n ≡ length vs
    → ds ≡ back n us vs → s ≡ summary_of (entries_of (generated seed turns)) → IsTaken stays (trace_of (generated seed turns)) → Hears seen ws us (entries_of (generated seed turns)) → AppendsSome old new (report s (watch_text shown shows ds))
    → Generates seen statuses.WriteFault seed turns (watch_text shown shows (back n us vs)) (outside old vs) (outside new (back n us vs))
generates_fault seen shown shows seed turns old new ws vs us ds n s e l m d sum taken heard wrote = record {
  taken = taken;
  says = (
    written_back (AppendsSome old new) (watch_text shown shows) seed turns ds (back n us vs) s d sum wrote,
    heard_back (λ xs ys. Hears seen xs ys (entries_of (generated seed turns))) ws vs us n e l m heard,
  );
}

pub generates_nothing : {W : Type 0} (seen : Seen W) (watched : List ℕ) (seed turns : ℕ) (old : Option (List ℕ)) (ws vs us : List W) (n : ℕ) → ws ≡ vs → length us ≡ length vs → n ≡ length vs
    → IsTaken stays (trace_of (generated seed turns)) → HearsSome seen ws us (entries_of (generated seed turns))
    → Generates seen statuses.NoMemory seed turns watched (outside old vs) (outside old (back n us vs))
generates_nothing seen watched seed turns old ws vs us n e l m taken some = record {
  taken = taken;
  says = (refl, heard_back (λ xs ys. HearsSome seen xs ys (entries_of (generated seed turns))) ws vs us n e l m some);
}
