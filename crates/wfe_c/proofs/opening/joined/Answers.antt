use Rattle.std.proofs.Common.{[], ap, rules, ◌++◌, ◌∙◌, ◌∷◌, ◌≡◌}
use Rattle.std.proofs.lemmas.List.Elements.{All-push, All-same}
use Rattle.std.specs.Arc.{arc_value}
use Rattle.wfe_table.specs.Public.{TableNow}
use Rattle.wfe_c.specs.Joined.{table_of}
use Rattle.wfe_c.specs.Opened.{IsWith}
use Rattle.wfe_c.specs.declared.common.Common.{Common}
use Rattle.wfe_c.proofs.opening.joined.Goals as goal

pub loop-seat-preserved : goal.loop-seat-preserved
loop-seat-preserved c =
    let table : TableNow = (arc_value c.args.common).shared in
    let with : table_of c.in_ok-boxed.boxed.value ≡ table =
    ap table_of c.in_ok-boxed.ensures.ok ∙ ap (λ it. (arc_value {X = Common} it).shared) c.new-joined.ensures.common ∙ ap (λ (common : Common). common.shared) c.in_ok-own.ensures in
    let pushed : c.push.new.self.items ≡ c.loop-seat.made.items ++ c.in_ok-boxed.boxed ∷ [] = search rules in
    All-same (IsWith table) c.push.new.self.items _ pushed (All-push (IsWith table) c.loop-seat.made.items c.in_ok-boxed.boxed c.loop-seat.invariant with)
