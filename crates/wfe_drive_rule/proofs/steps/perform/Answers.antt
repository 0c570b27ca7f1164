-- Each operation is the one that the seat asks for, on a word that lies at this spot.
use Rattle.std.proofs.Common.{ap, sym, ◌∙◌}
use Rattle.std.specs.Prelude.{◌==◌}
use prog.Atomic.{either}
use Rattle.wfe_core.specs.declared.op.Op.TheVariants.{And, Cas, Load, Or, Store}
use Rattle.wfe_drive_cells.specs.Operations.{changed, word_in}
use Rattle.wfe_drive_rule.specs.Moves.{Stepped}
use Rattle.wfe_drive_cells.specs.Spots.{spot}
use Rattle.wfe_drive_rule.proofs.Acting.{held_of}
use Rattle.wfe_drive_rule.proofs.Operations.{inside, may, may_exchange, may_store, spot_there}
use Rattle.wfe_drive_rule.proofs.Shown.{at_words}
use Rattle.wfe_drive_rule.proofs.steps.perform.Goals as goal

pub load-requires : goal.load-requires
load-requires c =
    let held = held_of _ _ _ c.requires.seated in
    let e = sym c.in-Load.is ∙ c.requires.asks in
    let at = c.requires.spot ∙ ap (λ op. spot c.args.table.now.key (word_in op)) c.in-Load.is in (
      c.requires.ids,
      spot_there _ _ _ (Load c.in-Load.word) _ c.requires.sized held e at,
      at_words _ _ _ _ _ _ (changed (Load c.in-Load.word)) (Stepped c.args.handle.now.me) (inside _ _ (Load c.in-Load.word) held e) at (may _ _ _ _ _ (Load c.in-Load.word) c.requires.seated c.requires.busy c.requires.moves e),
    )

pub store-requires : goal.store-requires
store-requires c =
    let held = held_of _ _ _ c.requires.seated in
    let e = sym c.in-Store.is ∙ c.requires.asks in
    let at = c.requires.spot ∙ ap (λ op. spot c.args.table.now.key (word_in op)) c.in-Store.is in (
      c.requires.ids,
      spot_there _ _ _ (Store c.in-Store.word c.in-Store.value) _ c.requires.sized held e at,
      at_words _ _ _ _ _ _ (λ _. c.in-Store.value) (λ _. Stepped c.args.handle.now.me c.in-Store.value) (inside _ _ (Store c.in-Store.word c.in-Store.value) held e) at (may_store _ _ _ _ _ c.in-Store.word c.in-Store.value c.requires.seated c.requires.busy c.requires.moves e),
    )

pub compare_exchange-requires : goal.compare_exchange-requires
compare_exchange-requires c =
    let held = held_of _ _ _ c.requires.seated in
    let e = sym c.in-Cas.is ∙ c.requires.asks in
    let at = c.requires.spot ∙ ap (λ op. spot c.args.table.now.key (word_in op)) c.in-Cas.is in (
      c.requires.ids,
      spot_there _ _ _ (Cas c.in-Cas.word c.in-Cas.old c.in-Cas.new) _ c.requires.sized held e at,
      at_words _ _ _ _ _ _ (λ n. either (n == c.in-Cas.old) c.in-Cas.new n) (Stepped c.args.handle.now.me) (inside _ _ (Cas c.in-Cas.word c.in-Cas.old c.in-Cas.new) held e) at (may_exchange _ _ _ _ _ c.in-Cas.word c.in-Cas.old c.in-Cas.new c.requires.seated c.requires.busy c.requires.moves e),
    )

pub fetch_or-requires : goal.fetch_or-requires
fetch_or-requires c =
    let held = held_of _ _ _ c.requires.seated in
    let e = sym c.in-Or.is ∙ c.requires.asks in
    let at = c.requires.spot ∙ ap (λ op. spot c.args.table.now.key (word_in op)) c.in-Or.is in (
      c.requires.ids,
      spot_there _ _ _ (Or c.in-Or.word c.in-Or.bits) _ c.requires.sized held e at,
      at_words _ _ _ _ _ _ (changed (Or c.in-Or.word c.in-Or.bits)) (Stepped c.args.handle.now.me) (inside _ _ (Or c.in-Or.word c.in-Or.bits) held e) at (may _ _ _ _ _ (Or c.in-Or.word c.in-Or.bits) c.requires.seated c.requires.busy c.requires.moves e),
    )

pub fetch_and-requires : goal.fetch_and-requires
fetch_and-requires c =
    let held = held_of _ _ _ c.requires.seated in
    let e = sym c.in-And.is ∙ c.requires.asks in
    let at = c.requires.spot ∙ ap (λ op. spot c.args.table.now.key (word_in op)) c.in-And.is in (
      c.requires.ids,
      spot_there _ _ _ (And c.in-And.word c.in-And.bits) _ c.requires.sized held e at,
      at_words _ _ _ _ _ _ (changed (And c.in-And.word c.in-And.bits)) (Stepped c.args.handle.now.me) (inside _ _ (And c.in-And.word c.in-And.bits) held e) at (may _ _ _ _ _ (And c.in-And.word c.in-And.bits) c.requires.seated c.requires.busy c.requires.moves e),
    )
