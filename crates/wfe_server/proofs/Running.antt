-- What a status says of a run, by how its parts ended.
use Rattle.std.proofs.Common.{List, None, Option, drop, inl, inr, length, refl, subst, sym, take, ℕ, ◌++◌, ◌≡◌, ◌⊎◌}
use Rattle.wfe_table.specs.all.RunLaw.{AtClose}
use Rattle.wfe_outside.specs.declared.watcher.WatchRow.{WatchRow}
use Rattle.wfe_outside.specs.defs.declared.call.Call.{Call}
use Rattle.wfe_outside.specs.defs.declared.event.Event.{Event}
use Rattle.wfe_server_out.specs.Heard.{Seen}
use Rattle.wfe_server_replay.proofs.Outs.{part_line, puts_line}
use Rattle.wfe_server_replay.proofs.Says.{back_again}
use Rattle.wfe_server_replay.specs.Sunk.{Outside, outside}
use Rattle.wfe_server_replay.specs.Watched.{watch_text}
use Rattle.wfe_server.specs.Comes.{Comes}
use Rattle.wfe_server.specs.Prints.{Prints}
use Rattle.wfe_server.specs.Reads.{IsBad, IsRead}
use Rattle.wfe_server.specs.Runs.{IsPrinted, HasRun, Refuses, Runs, Says}
use Rattle.wfe_server_lines.specs.Scripted.{Scripted}
use Rattle.wfe_server.specs.Text.{run_pieces}
use Rattle.wfe_trace.specs.Record.{bad_line as bad_text}
use Rattle.wfe_trace.specs.declared.reason.BadLine.{BadLine}
use Rattle.wfe_trace.specs.declared.reason.Status.{Status}
use Rattle.wfe_trace.specs.declared.reason.Status.TheVariants as statuses
use Rattle.wfe_trace.specs.words.Config.{bad_field}
use Rattle.wfe_trace.specs.words.declared.config.Config.{Config}

run_of : {W : Type 0} (seen : Seen W) (status : Status) (watched taken : List ℕ) (left : Option (List ℕ)) (old new : Outside W) (given : Scripted) → IsRead taken left given → bad_field given.config ≡ None → length given.scripts ≡ given.config.seats
    → IsPrinted seen status watched given old new → HasRun seen status watched taken left old new
run_of seen status watched taken left old new given read config scripts printed = record { given = given; read = read; config = config; scripts = scripts; printed = printed }

-- the trace was read whole, and its scripts were made and printed, or memory ran out before
pub says_made : {W : Type 0} (seen : Seen W) (status : Status) (watched taken : List ℕ) (left : Option (List ℕ)) (old new : Outside W) (given : Scripted) → IsRead taken left given → bad_field given.config ≡ None → length given.scripts ≡ given.config.seats
    → IsPrinted seen status watched given old new ⊎ ((status ≡ statuses.NoMemory) × (new ≡ old)) → Says seen status watched taken left old new
says_made seen statuses.Done watched taken left old new given read config scripts (inl p) = run_of seen statuses.Done watched taken left old new given read config scripts p
says_made seen statuses.Done watched taken left old new given read config scripts (inr (e, same)) = absurd (cc)
says_made seen statuses.Usage watched taken left old new given read config scripts (inl p) = p.prints
says_made seen statuses.Usage watched taken left old new given read config scripts (inr (e, same)) = absurd (cc)
says_made seen (statuses.BadTrace line reason) watched taken left old new given read config scripts (inl p) = absurd p.prints
says_made seen (statuses.BadTrace line reason) watched taken left old new given read config scripts (inr (e, same)) = absurd (cc)
says_made seen (statuses.Unlawful line) watched taken left old new given read config scripts (inl p) = p.prints
says_made seen (statuses.Unlawful line) watched taken left old new given read config scripts (inr (e, same)) = absurd (cc)
says_made seen (statuses.BadRecord line reason) watched taken left old new given read config scripts (inl p) = p.prints
says_made seen (statuses.BadRecord line reason) watched taken left old new given read config scripts (inr (e, same)) = absurd (cc)
says_made seen statuses.ReadFault watched taken left old new given read config scripts (inl p) = absurd p.prints
says_made seen statuses.ReadFault watched taken left old new given read config scripts (inr (e, same)) = absurd (cc)
says_made seen statuses.WriteFault watched taken left old new given read config scripts (inl p) = inl (run_of seen statuses.WriteFault watched taken left old new given read config scripts p)
says_made seen statuses.WriteFault watched taken left old new given read config scripts (inr (e, same)) = absurd (cc)
says_made seen statuses.NoMemory watched taken left old new given read config scripts (inl p) = inl (run_of seen statuses.NoMemory watched taken left old new given read config scripts p)
says_made seen statuses.NoMemory watched taken left old new given read config scripts (inr (e, same)) = inr same

-- the trace is bad
pub says_refused : {W : Type 0} (seen : Seen W) (status : Status) (watched taken : List ℕ) (left old new : Option (List ℕ)) (ws : List W) (bad : BadLine) → IsBad taken left bad → Refuses status bad old new
    → Says seen status watched taken left (outside old ws) (outside new ws)
says_refused seen status watched taken left old new ws bad is (inl (e, wrote)) =
    subst (λ (s : Status). Says seen s watched taken left (outside old ws) (outside new ws)) (sym e) (record { is_bad = is; put = puts_line seen old new ws (bad_text bad.line bad.reason) wrote; unheard = refl })
says_refused seen status watched taken left old new ws bad is (inr (e, some)) =
    subst (λ (s : Status). Says seen s watched taken left (outside old ws) (outside new ws)) (sym e)
    (inr (record { bad = bad; is_bad = is; put = part_line seen old new ws (bad_text bad.line bad.reason) some; unheard = refl }))

-- the same of a run whose watchers are handed back
pub runs_back : {W : Type 0} (seen : Seen W) (shown : W → ℕ) (shows : W → ℕ → WatchRow) (status : Status) (before left : Option (List ℕ)) (old new : Option (List ℕ)) (ws vs us : List W) (n : ℕ) → ws ≡ vs → length us ≡ length vs → n ≡ length vs
    → Runs seen status (watch_text shown shows us) before left (outside old ws) (outside new us)
    → Runs seen status (watch_text shown shows (take n (us ++ drop (length us) vs))) before left (outside old vs) (outside new (take n (us ++ drop (length us) vs)))
runs_back {W = W} seen shown shows status before left old new ws vs us n e l m r =
    subst (λ (fs : List W). Runs seen status (watch_text shown shows fs) before left (outside old vs) (outside new fs)) (sym (back_again us vs n l m))
    (subst (λ (xs : List W). Runs seen status (watch_text shown shows us) before left (outside old xs) (outside new us)) e r)

-- a run that was printed, by the parts of what was read
pub printed_by : {W : Type 0} (seen : Seen W) (status : Status) (watched : List ℕ) (old new : Outside W) (given : Scripted) (version : ℕ) (config : Config) (scripts : List (List Call)) (seats : List (List Event)) (closed : AtClose)
    → version ≡ given.version → config ≡ given.config → scripts ≡ given.scripts → Comes config scripts seats closed → Prints seen status watched old new (run_pieces version config seats closed) → IsPrinted seen status watched given old new
printed_by seen status watched old new given version config scripts seats closed v c s comes prints = record {
  seats = seats;
  closed = closed;
  comes = subst (λ (set : Config). Comes set given.scripts seats closed) c (subst (λ (all : List (List Call)). Comes config all seats closed) s comes);
  prints =
      subst (λ (n : ℕ). Prints seen status watched old new (run_pieces n given.config seats closed)) v
      (subst (λ (set : Config). Prints seen status watched old new (run_pieces version set seats closed)) c prints);
}
