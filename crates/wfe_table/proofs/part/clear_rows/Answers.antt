-- What stands is let go, index by index.
use Rattle.std.proofs.Common.{Bool, List, ap, drop, false, subst, sym, ℕ, ◌<◌, ◌∙◌, ◌≤◌}
use Rattle.std.specs.Prelude.{Option, ◌+◌}
use Rattle.wfe_drive_rule.specs.Views.{standing}
use Rattle.wfe_table.specs.Parting.{Parted}
use Rattle.wfe_table.proofs.Parts.{next_same, no_more, no_row, parts_at, row_by, row_gone, shows_rows}
use Rattle.wfe_table.proofs.part.clear_rows.Goals.{else-is_some, then-is_some}
use Rattle.wfe_table.proofs.part.clear_rows.Goals as goal
use Rattle.wfe_core.specs.Keep.{parting_from}
use Rattle.wfe_core.specs.Rounds.{scheme_of}
use Rattle.wfe_core.specs.words.Schemes.{publishes_rows}

pub loop-index-init : goal.loop-index-init
loop-index-init c = record { ids = c.requires.ids; parted = c.requires.parts; rows = ap (λ (rows : List (Option ℕ)). drop 2 rows) c.requires.rows }

pub clear_row-requires-clause-parted : goal.clear_row-requires-clause-parted
clear_row-requires-clause-parted c =
    let i = c.loop-index.invariant in
    let index = c.loop-index.index in
    let below = subst (λ (n : ℕ). index < n) (sym c.requires.valid.all_standing) c.loop-index-test.true in
    let shows = shows_rows (standing c.loop-index.handle.me) c.args.post.now c.has_rows-rows.result i.parted.place c.has_rows-rows.ensures in
    (c.args.handle.now.me, parts_at _ _ _ _ _ _ _ _ i.parted (row_by _ c.has_rows-rows.result index _ c.args.post.now.standing shows i.rows below (sym c.is_some.ensures ∙ c.if-is_some.true)))

pub loop-index-preserved : goal.loop-index-preserved
loop-index-preserved c =
    let i = c.loop-index.invariant in
    let index = c.loop-index.index in
    let had = c.args.post.now.standing in
    let rows = (standing c.loop-index.handle.me).post.standing in
    let below = subst (λ (n : ℕ). index < n) (sym c.requires.valid.all_standing) c.loop-index-test.true in
    let shows = shows_rows (standing c.loop-index.handle.me) c.args.post.now c.has_rows-rows.result i.parted.place c.has_rows-rows.ensures in
    elim c.if-is_some.branch [
      | then-is_some w ↦
          let made = w.clear_row.ensures in
          let parted = made.parted c.args.handle.now.me (parts_at _ _ _ _ _ _ _ _ i.parted (row_by _ c.has_rows-rows.result index rows had shows i.rows below (sym c.is_some.ensures ∙ w.if-is_some.true))) in
          record {
            ids = ap (λ h. h.table_id) w.handle-is ∙ made.ids ∙ i.ids;
            parted = subst (λ (first : Bool). Parted c.args.ledger.now.key c.args.seat c.args.post.now c.args.handle.now.me (parting_from (index + 1) (standing c.if-is_some.handle.me).post) first c.if-is_some.handle.me) (sym w.first-is)
                (subst (λ h. Parted c.args.ledger.now.key c.args.seat c.args.post.now c.args.handle.now.me (parting_from (index + 1) (standing h.me).post) false h.me) (sym w.handle-is) parted);
            rows = ap (λ h. drop (index + 1) (standing h.me).post.standing) w.handle-is ∙ row_gone index rows had _ i.rows made.stands;
          }
      | else-is_some w ↦
          let parted = parts_at _ _ _ _ _ _ _ _ i.parted (no_row (publishes_rows (scheme_of (standing c.loop-index.handle.me).post)) index rows had i.rows below (sym c.is_some.ensures ∙ w.if-is_some.false)) in
          record {
            ids = ap (λ h. h.table_id) w.handle-is ∙ i.ids;
            parted = subst (λ (first : Bool). Parted c.args.ledger.now.key c.args.seat c.args.post.now c.args.handle.now.me (parting_from (index + 1) (standing c.if-is_some.handle.me).post) first c.if-is_some.handle.me) (sym w.first-is)
                (subst (λ h. Parted c.args.ledger.now.key c.args.seat c.args.post.now c.args.handle.now.me (parting_from (index + 1) (standing h.me).post) c.loop-index.first h.me) (sym w.handle-is) parted);
            rows = ap (λ h. drop (index + 1) (standing h.me).post.standing) w.handle-is ∙ next_same index rows had i.rows;
          }
    ]

pub returns : goal.returns
returns c =
    let i = c.loop-index.invariant in
    let past = subst (λ (n : ℕ). n ≤ c.loop-index.index) (sym c.requires.valid.all_standing) c.loop-index-test.false in
    record { ids = i.ids ∙ sym c.requires.ids; parted = parts_at _ _ _ _ _ _ _ _ i.parted (no_more (publishes_rows (scheme_of (standing c.loop-index.handle.me).post)) c.loop-index.index _ c.args.post.now.standing i.rows past) }
