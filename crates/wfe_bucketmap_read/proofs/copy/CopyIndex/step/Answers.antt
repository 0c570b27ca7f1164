use Rattle.std.proofs.Common.{rules, ◌≡◌, [], Some, true, ap, subst, sym, ◌∙◌}
use Rattle.std.specs.Prelude.{is_some}
use Rattle.wfe_core.specs.words.Schemes.{has_one_interval, publishes_rows}
use Rattle.wfe_core.specs.Calls.{CallTurn}
use Rattle.wfe_core.specs.DeskHeld.{desk_of}
use Rattle.wfe_core.specs.Keep.{copied}
use Rattle.wfe_core.specs.Posts.{publishes_index, stands}
use Rattle.wfe_core.specs.Rounds.{scheme_of}
use Rattle.wfe_core.specs.Steps.{phase_turn}
use Rattle.wfe_call_rounds.specs.Steps.{Steps}
use Rattle.wfe_bucketmap_read.specs.declared.copy.CopyAt.{CopyAt}
use Rattle.wfe_bucketmap_read.specs.Copies.{copy_phase}
use Rattle.wfe_bucketmap_read.proofs.Copying.{copied_at_once}
use Rattle.wfe_bucketmap_read.proofs.copy.CopyIndex.step.Goals as goal

pub returns-then-has_interval-clause-steps : goal.returns-then-has_interval-clause-steps
returns-then-has_interval-clause-steps g c =
    let from = c.args.self.now.from in
    let index = c.args.self.now.index in
    let post = c.args.post.now in
    let desk = desk_of c.args.desk.now in
    let last = copy_phase from index c.args.self.now.at c.copy.new.post in
    let held : is_some (stands post from) ≡ true = search rules in
    let one : has_one_interval (scheme_of post) ≡ true = sym c.has_interval.ensures ∙ c.if-has_interval.true in
    let turn : phase_turn (copy_phase from index c.args.self.now.at post) post desk c.args.found ≡ copied from index post desk [] (stands post from) =
    ap (λ (at : CopyAt). phase_turn (copy_phase from index at post) post desk c.args.found) c.in-Loads.is
    ∙ copied_at_once from index post desk c.args.found (stands post from) held one
    in
    subst (λ (t : CallTurn). Steps t c.copy.new.post desk c.copy.new.told (Some c.copy.result) last) (sym turn) (c.copy.ensures.steps desk last)

pub returns-in-Stores-clause-steps : goal.returns-in-Stores-clause-steps
returns-in-Stores-clause-steps g c =
    let from = c.args.self.now.from in
    let index = c.args.self.now.index in
    let post = c.args.post.now in
    let desk = desk_of c.args.desk.now in
    let last = copy_phase from index c.args.self.now.at c.copy-in-Stores.new.post in
    let turn : phase_turn (copy_phase from index c.args.self.now.at post) post desk c.args.found ≡ copied from index post desk (publishes_index (publishes_rows (scheme_of post)) post index c.in-Stores.number) (stands post from) =
    ap (λ (at : CopyAt). phase_turn (copy_phase from index at post) post desk c.args.found) c.in-Stores.is
    in
    subst (λ (t : CallTurn). Steps t c.copy-in-Stores.new.post desk c.copy-in-Stores.new.told (Some c.copy-in-Stores.result) last) (sym turn) (c.copy-in-Stores.ensures.steps desk last)
