use Rattle.std.proofs.Common.{List, [], ap, ap₂, arith, length, subst, sym, ℕ, ◌++◌, ◌≡◌, ◌≤◌, ◌∙◌, ◌∷◌}
use Rattle.std.specs.Slots.{slots_items}
use lib.ListN.{get_elem?}
use Rattle.wfe_core.specs.words.Place.{words}
use Rattle.wfe_core.specs.words.declared.layout.Layout.{Layout}
use Rattle.wfe_table_end.specs.Room.{Words}
use Rattle.wfe_drive_rule.specs.Ended.{Ended}
use Rattle.wfe_drive_rule.specs.Spots.{shown, spots}
use Rattle.wfe_drive_rule.specs.drive_cells.Spots.{spot}
use Rattle.wfe_drive_rule.proofs.Shown.{shown_get, spot_below}
use Rattle.wfe_drive_rule.proofs.drive_cells.Lying.{spot_of}
use Rattle.wfe_table.proofs.LeftWords.{below_end, in_block, left, taken_word}
use Rattle.wfe_table.proofs.close.read_end.Goals as goal

pub word-requires : goal.word-requires
word-requires c =
    let layout = c.args.layout in
    let low = below_end c.loop-word.word c.words-word-end.result (words layout) c.loop-word-test.true c.words-word-end.ensures in
    let at = spot_of layout c.new-spots.result c.loop-word.word c.at.result c.new-spots.ensures c.at.ensures in (
      in_block c.at.result (spot layout c.loop-word.word) (spots layout) _ at (spot_below layout c.loop-word.word low) (c.close-closed.ensures.counts.0 ∙ c.requires.sized.words_are),
      c.close-closed.ensures.full.0,
    )

pub loop-word-preserved : goal.loop-word-preserved
loop-word-preserved c =
    let i = c.loop-word.invariant in
    let block = slots_items c.close-closed.result.words in
    let low = below_end c.loop-word.word c.words-word-end.result (words c.args.layout) c.loop-word-test.true c.words-word-end.ensures in
    let at = spot_of c.args.layout c.new-spots.result c.loop-word.word c.at.result c.new-spots.ensures c.at.ensures in
    let read = shown_get c.args.layout block c.loop-word.word c.word.result low (ap (get_elem? block) (sym at) ∙ c.word.ensures) in
    let layout : c.push.new.self.layout ≡ c.args.layout = c.push.ensures.layout ∙ ap (λ (r : Words). r.layout) i in
    let list = c.push.ensures.list ∙ ap (λ (r : Words). r.list ++ c.word.result ∷ []) i ∙ taken_word (shown c.args.layout block) c.loop-word.word c.word.result read in
    ap₂ (λ (d : Layout) (l : List ℕ). let r : Words = record { layout = d; list = l } in r) layout list

pub returns : goal.returns
returns c =
    let block = slots_items c.close-closed.result.words in
    let e : Ended c.args.layout (shown c.args.layout block) c.args.handle.me.0.tracks = subst (λ (d : Layout). Ended d (shown d block) c.args.handle.me.0.tracks) c.requires.key c.close-closed.ensures.ended in
    let most : length (shown c.args.layout block) ≤ c.loop-word.word = omega (arith, e.count, c.words-word-end.ensures, c.loop-word-test.false) in
    left c.args.layout (shown c.args.layout block) c.args.handle.me.0.tracks c.loop-word.room c.read.result c.loop-word.word e c.loop-word.invariant most c.read.ensures.read c.read.ensures.closed
