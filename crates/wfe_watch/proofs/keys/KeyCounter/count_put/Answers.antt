use Rattle.std.proofs.Common.{◌≡◌, ℕ, None, List, nat_eq, map, sym, ap, ◌∙◌}
use Rattle.indexmap.specs.IndexMap.{insert_entry}
use Rattle.std.specs.Map.{lookup}
use Rattle.indexmap.proofs.CallerLemmas.{insert_entry-new}
use Rattle.wfe_outside.specs.declared.watcher.WatchRow.{WatchRow}
use Rattle.wfe_watch.specs.declared.keys.Changes.{Changes}
use Rattle.wfe_watch.specs.Changes.{changes_row}
use Rattle.wfe_watch.specs.Keys.{KeyCounts, has_row, with_put, put_counted, early_count}
use Rattle.wfe_watch.proofs.ChangesLemmas.{rows-set_put, rows-first_put, no_row}
use Rattle.wfe_watch.proofs.keys.KeyCounter.count_put.Goals as goal
use Rattle.wfe_watch.proofs.keys.KeyCounter.count_put.Goals.{in-Ok, in-Err}

pub returns-in-Some-clause-ok : goal.returns-in-Some-clause-ok
returns-in-Some-clause-ok c =
    let key = c.args.key in
    let early = c.self.inside.early.entries in
    let old = c.in-Some.changes.now in
    let new : Changes = record old { puts = c.saturating_add-changes.result } in
    ap (λ (rows : List WatchRow). let counts : KeyCounts = record { rows = rows; early = early } in counts)
    (ap (map changes_row) (c.get_mut.follows.holds new).0
    ∙ rows-set_put key (early_count early key) c.self.inside.keys.entries old new (sym c.in-Some.ensures.value) (ap (λ (n : ℕ). let raised : Changes = record old { puts = n } in raised) c.saturating_add-changes.ensures))
    ∙ ap (put_counted key) c.self.view_is

pub returns-clause-ok : goal.returns-clause-ok
returns-clause-ok c =
    elim c.match-insert.branch [
      | in-Ok w ↦
          let key = c.args.key in
          let early = c.self.inside.early.entries in
          let entries = c.self.inside.keys.entries in
          let first : Changes = record { puts = 1; removals = c.early_removals.result } in
          let none : lookup (nat_eq key) entries ≡ None = sym c.in_default.ensures.value in
          let rows : map changes_row c.insert.new.self.entries ≡ with_put key (early_count early key) (map changes_row entries) =
          ap (map changes_row) (w.in-Ok.ensures.entries ∙ ap (λ m. insert_entry nat_eq m.entries key first) c.get_mut.follows.holds-at-none ∙ insert_entry-new nat_eq c.self.inside.keys key first none)
          ∙ rows-first_put key (early_count early key) entries first none (ap (λ (n : ℕ). let noted : Changes = record { puts = 1; removals = n } in noted) c.early_removals.ensures) in
          rw w.result-is
          (ap (λ (shown : List WatchRow). let counts : KeyCounts = record { rows = shown; early = early } in counts) rows
          ∙ ap (put_counted key) c.self.view_is)
      | in-Err w ↦ rw w.result-is tt
    ]

pub returns-clause-refused : goal.returns-clause-refused
returns-clause-refused c =
    elim c.match-insert.branch [
      | in-Ok w ↦ rw w.result-is tt
      | in-Err w ↦
          rw w.result-is (ap (λ counts. has_row c.args.key counts.rows) (sym c.self.view_is) ∙ no_row c.args.key c.self.inside.keys.entries (sym c.in_default.ensures.value))
    ]
