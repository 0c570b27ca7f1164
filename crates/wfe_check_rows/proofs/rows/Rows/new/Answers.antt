use Rattle.std.proofs.Common.{ap, ◌∙◌, refl, arith, sym, subst, get_or, List, None, Option, ℕ, length}
use Rattle.std.proofs.lemmas.List.{get_or-replicate, length-replicate}
use Rattle.laws.specs.records.Record.Past.{Start}
use Rattle.wfe_check_rows.specs.declared.row.Row.{Row}
use Rattle.wfe_check_rows.specs.Row.{IsRow, free_row}
use Rattle.wfe_check_rows.proofs.Steps.{row_at_start, rows_at_start_count}
use Rattle.wfe_check_rows.proofs.rows.Rows.new.Goals as goal

pub returns : goal.returns
returns c = record {
  setting = refl;
  rows_count = ap length (c.in_ok-rows.ensures) ∙ rows_at_start_count c.args.config.slots;
  roots_count = ap length (c.in_ok-roots.ensures) ∙ length-replicate c.args.config.buckets None;
  clock = refl;
  each = λ s l. subst (λ (kept : List Row). IsRow c.args.config.slots s (get_or kept s free_row) Start) (sym (c.in_ok-rows.ensures)) (row_at_start c.args.config.slots s l);
  roots = λ bucket l. ap (λ (kept : List (Option ℕ)). get_or kept bucket None) (c.in_ok-roots.ensures) ∙ get_or-replicate c.args.config.buckets bucket None None l;
  head = refl;
  head_in = omega arith;
  tail = refl;
  tail_in = omega arith;
  due = refl;
  left = λ seat. refl;
}
