use Rattle.std.proofs.Common.{List, ap, arith, refl, suc, ◌+◌, ◌-◌, ◌∙◌, ◌≡◌}
use Rattle.wfe_trace.specs.words.declared.layout.Layout.{Layout}
use Rattle.wfe_server_out.proofs.Texts.{on_err}
use Rattle.wfe_server_gen.specs.Tally.{lines_made, lines_told}
use Rattle.wfe_server_out.specs.Pieces.{Piece}
use Rattle.wfe_server_gen.specs.Turns.{turn_commands}
use Rattle.wfe_server_gen.proofs.Going.{going_fails, going_more}
use Rattle.wfe_server_gen.proofs.Turning.{end_err, end_ok, play_start, turns_left, turns_more, turns_over, words_layout}
use Rattle.wfe_server_gen.proofs.table.Table.play.Goals as goal

pub loop-init : goal.loop-init
loop-init g c =
    let all : c.args.turns - 0 ≡ c.args.turns = omega arith in
    record { goes = play_start _ _ _ c.args.self.now.played c.args.seed c.args.turns (c.args.turns - 0) c.new-words.result all c.new-words.ensures; table = refl }

pub returns-in_err-turn-clause-err : goal.returns-in_err-turn-clause-err
returns-in_err-turn-clause-err g c =
    let next : c.args.turns - c.loop.counter ≡ suc (c.args.turns - (c.loop.counter + 1)) = omega arith in
    let here : List Piece = lines_told (turn_commands c.next_word-a.result c.next_word-b.result) c.loop.self.played in
    let more : List Piece = lines_told (turns_left (c.args.turns - (c.loop.counter + 1)) c.next_word-b.new.self) (lines_made (turn_commands c.next_word-a.result c.next_word-b.result) c.loop.self.played) in
    on_err c.from_residual.result (going_fails _ _ _ _ _ _ _ _ here more (turns_more (c.args.turns - c.loop.counter) (c.args.turns - (c.loop.counter + 1)) c.next_word-a.result c.next_word-b.result c.loop.words c.next_word-a.new.self c.next_word-b.new.self c.loop.self.played (lines_made (turn_commands c.next_word-a.result c.next_word-b.result) c.loop.self.played) next c.next_word-a.ensures c.next_word-b.ensures refl) c.loop.invariant.goes c.in_err-turn.ensures.err)

pub loop-preserved : goal.loop-preserved
loop-preserved g c =
    let next : c.args.turns - c.loop.counter ≡ suc (c.args.turns - (c.loop.counter + 1)) = omega arith in
    record {
      goes = going_more _ _ _ _ _ _ _ _ _ _ _ (turns_more (c.args.turns - c.loop.counter) (c.args.turns - (c.loop.counter + 1)) c.next_word-a.result c.next_word-b.result c.loop.words c.next_word-a.new.self c.next_word-b.new.self c.loop.self.played c.turn.new.self.played next c.next_word-a.ensures c.next_word-b.ensures c.in_ok-turn.ensures.after) c.loop.invariant.goes c.in_ok-turn.ensures.ok;
      table = words_layout c.next_word-a.result c.next_word-b.result c.loop.self.played c.turn.new.self.played c.in_ok-turn.ensures.after ∙ c.loop.invariant.table;
    }

pub returns-clause-ok : goal.returns-clause-ok
returns-clause-ok g c =
    let none : c.args.turns - c.loop.counter ≡ 0 = omega arith in
    end_ok _ _ _ _ _ _ _ c.finish.result _ _ _ (turns_over (c.args.turns - c.loop.counter) c.loop.words c.loop.self.played none (ap (λ (layout : Layout). layout.config.seats) c.loop.invariant.table ∙ c.requires)) c.loop.invariant.goes c.finish.ensures.ok

pub returns-clause-err : goal.returns-clause-err
returns-clause-err g c =
    let none : c.args.turns - c.loop.counter ≡ 0 = omega arith in
    end_err _ _ _ _ _ _ c.finish.result _ _ _ (turns_over (c.args.turns - c.loop.counter) c.loop.words c.loop.self.played none (ap (λ (layout : Layout). layout.config.seats) c.loop.invariant.table ∙ c.requires)) c.loop.invariant.goes c.finish.ensures.err
