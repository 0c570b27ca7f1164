use Rattle.std.proofs.Common.{◌≡◌, ℕ, List, true, nat_eq, map, sym, ap, ◌∙◌}
use Rattle.indexmap.specs.IndexMap.{insert_entry}
use Rattle.wfe_outside.specs.declared.watcher.WatchRow.{WatchRow}
use Rattle.wfe_watch.specs.declared.keys.Changes.{Changes}
use Rattle.wfe_watch.specs.contracts.keys.KeyCounter.{the_view}
use Rattle.wfe_watch.specs.Counts.{raised}
use Rattle.wfe_watch.specs.Changes.{changes_row}
use Rattle.wfe_watch.specs.Keys.{KeyCounts, has_row, removal_counted, with_early}
use Rattle.wfe_watch.proofs.ChangesLemmas.{rows-set_removal, some_row, no_row, early-insert, removal_counted-shown, removal_counted-early}
use Rattle.wfe_watch.proofs.keys.KeyCounter.count_removal.Goals as goal
use Rattle.wfe_watch.proofs.keys.KeyCounter.count_removal.Goals.{in-Ok, in-Err}

pub returns-in-Some-clause-ok : goal.returns-in-Some-clause-ok
returns-in-Some-clause-ok c =
    let key = c.args.key in
    let early = c.self.inside.early.entries in
    let entries = c.self.inside.keys.entries in
    let old = c.in-Some.changes.now in
    let new : Changes = record old { removals = c.saturating_add-changes.result } in
    ap (λ (rows : List WatchRow). let counts : KeyCounts = record { rows = rows; early = early } in counts)
    (ap (map changes_row) (c.get_mut.follows.holds new).0
    ∙ rows-set_removal key entries old new (sym c.in-Some.ensures.value) (ap (λ (n : ℕ). let raised : Changes = record old { removals = n } in raised) c.saturating_add-changes.ensures))
    ∙ sym (removal_counted-shown key (the_view c.self.inside) (some_row key entries old (sym c.in-Some.ensures.value)))
    ∙ ap (removal_counted key) c.self.view_is

pub returns-clause-ok : goal.returns-clause-ok
returns-clause-ok c =
    elim c.match-insert.branch [
      | in-Ok w ↦
          let key = c.args.key in
          let entries = c.self.inside.keys.entries in
          let early = c.self.inside.early.entries in
          let noted : c.insert.new.self.entries ≡ with_early key early =
          w.in-Ok.ensures.entries
          ∙ ap (insert_entry nat_eq early key) (c.saturating_add-removals.ensures ∙ ap (raised true) c.early_removals.ensures)
          ∙ early-insert key early in
          rw w.result-is
          (ap (λ m. the_view (record { keys = m; early = c.insert.new.self })) c.get_mut.follows.holds-at-none
          ∙ ap (λ (es : List (ℕ × ℕ)). let counts : KeyCounts = record { rows = map changes_row entries; early = es } in counts) noted
          ∙ sym (removal_counted-early key (the_view c.self.inside) (no_row key entries (sym c.in_default.ensures.value)))
          ∙ ap (removal_counted key) c.self.view_is)
      | in-Err w ↦ rw w.result-is tt
    ]

pub returns-clause-refused : goal.returns-clause-refused
returns-clause-refused c =
    elim c.match-insert.branch [
      | in-Ok w ↦ rw w.result-is tt
      | in-Err w ↦
          rw w.result-is (ap (λ counts. has_row c.args.key counts.rows) (sym c.self.view_is) ∙ no_row c.args.key c.self.inside.keys.entries (sym c.in_default.ensures.value))
    ]
