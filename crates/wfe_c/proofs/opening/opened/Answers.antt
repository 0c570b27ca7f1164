use Rattle.std.proofs.Common.{Ok, ap, sym, ◌∙◌}
use Rattle.std.proofs.lemmas.List.Elements.{All-weaker}
use Rattle.std.specs.Arc.{arc_value}
use Rattle.std.specs.declared.result.Result.{Result}
use Rattle.wfe_core.specs.words.declared.config.BadConfig.{BadConfig}
use Rattle.wfe_core.specs.words.declared.layout.Layout.{Layout}
use Rattle.wfe_table.specs.Public.{TableNow}
use Rattle.wfe_c.specs.Opened.{IsSet, IsWith}
use Rattle.wfe_c.proofs.opening.opened.Goals as goal

abbrev set_by : TableNow → Result Layout BadConfig
set_by table = Ok table.layout

pub returns-in-Ok-joined : goal.returns-in-Ok-joined
returns-in-Ok-joined c =
    let table : TableNow = (arc_value c.in-Ok-shared_by_all.common).shared in
    All-weaker (IsWith table) (IsSet c.args.config) (λ boxed with. c.in-Ok.ensures.made.0 ∙ ap set_by (sym (with ∙ c.in-Ok-shared_by_all.ensures))) c.in-Ok-joined.made.items c.in-Ok-joined.ensures
