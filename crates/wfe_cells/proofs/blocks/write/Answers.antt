-- Each put is at the version that the one before has made.
use Rattle.std.proofs.Common.{arith, length, subst, ◌<◌, ◌≡◌, ◌≤◌, ℕ}
use Rattle.std.specs.Prelude.{slice_index_or}
use Rattle.wfe_core.proofs.Ranges.{bounds_of}
use Rattle.wfe_table.specs.Calls.{put_if_answer}
use Rattle.wfe_table.specs.history.History.{record_of}
use Rattle.wfe_core.specs.defs.declared.call.Answer.TheVariants as answers
use Rattle.wfe_cells.specs.Wide.{HasWords}
use Rattle.wfe_cells.proofs.Among.{quiet_get, quiet_on, quiet_put}
use Rattle.wfe_cells.proofs.Only.{words_get, words_put}
use Rattle.wfe_cells.proofs.Refusals.{got_met, put_met, put_range, word_refused}
use Rattle.wfe_cells.proofs.Words.{named_words, put_word}
use Rattle.wfe_cells.proofs.blocks.write.Goals as goal

pub word_key-key-requires-clause-valid : goal.word_key-key-requires-clause-valid
word_key-key-requires-clause-valid c = c.get-version.ensures.made.tracked.valid

pub loop-word-init : goal.loop-word-init
loop-word-init c =
    let layout = c.args.shared.now.layout in
    let got = c.get-version.result in
    record {
      of = c.get-version.ensures.of;
      quiet = quiet_get layout c.args.seat.now c.get-version.new.seat c.args.block got.version got.value c.get-version.ensures.made;
      only = words_get layout c.args.seat.now c.get-version.new.seat c.args.block c.args.block got.version got.value c.get-version.ensures.made;
      met = got_met layout c.args.seat.now c.get-version.new.seat c.args.block got.version got.value c.requires.block c.get-version.ensures.made;
      range = λ some. absurd (omega arith);
      words = λ word none. absurd (omega arith);
    }

pub loop-word-preserved : goal.loop-word-preserved
loop-word-preserved c =
    let layout = c.args.shared.now.layout in
    let i = c.loop-word.invariant in
    let done = c.in-Ok.done in
    let made = c.in-Ok.ensures.made in
    let key = c.word_key-key.result in
    let word = c.loop-word.word in
    let before = c.loop-word.seat in
    let after = c.put_if.new.seat in
    record {
      of = c.put_if.ensures.of;
      quiet = quiet_on c.args.seat.now before after i.quiet (quiet_put layout before after key (slice_index_or c.args.words.now c.loop-word.word 0) c.loop-word.version (answers.Done done.version done.clock) made);
      only = words_put layout c.args.seat.now before after c.args.block key word (slice_index_or c.args.words.now word 0) c.loop-word.version (answers.Done done.version done.clock) c.word_key-key.ensures c.requires.block i.only made;
      met = put_met layout c.args.seat.now before after c.args.block key (slice_index_or c.args.words.now c.loop-word.word 0) word c.loop-word.version done.version done.clock c.word_key-key.ensures c.requires.block i.quiet.later made;
      range = λ some. put_range layout before after key (slice_index_or c.args.words.now c.loop-word.word 0) c.loop-word.version done.version done.clock made;
      words = put_word layout before after c.args.block key c.loop-word.version done.version word done.clock c.args.words.now c.requires.block c.word_key-key.ensures made i.words;
    }

pub returns-in-Err-clause-quiet : goal.returns-in-Err-clause-quiet
returns-in-Err-clause-quiet c =
    let layout = c.args.shared.now.layout in
    quiet_on c.args.seat.now c.loop-word.seat c.put_if.new.seat c.loop-word.invariant.quiet (quiet_put layout c.loop-word.seat c.put_if.new.seat c.word_key-key.result (slice_index_or c.args.words.now c.loop-word.word 0) c.loop-word.version (put_if_answer c.in-Err.refusal) c.in-Err.ensures.made)

pub returns-in-Err-clause-only : goal.returns-in-Err-clause-only
returns-in-Err-clause-only c =
    words_put c.args.shared.now.layout c.args.seat.now c.loop-word.seat c.put_if.new.seat c.args.block c.word_key-key.result c.loop-word.word (slice_index_or c.args.words.now c.loop-word.word 0) c.loop-word.version (put_if_answer c.in-Err.refusal) c.word_key-key.ensures c.requires.block
    c.loop-word.invariant.only c.in-Err.ensures.made

pub returns-in-Err-clause-refused : goal.returns-in-Err-clause-refused
returns-in-Err-clause-refused c =
    let layout = c.args.shared.now.layout in
    let i = c.loop-word.invariant in
    word_refused layout c.args.seat.now c.loop-word.seat c.put_if.new.seat c.args.block c.word_key-key.result c.loop-word.word c.loop-word.version c.args.words.now c.in-Err.refusal c.requires.block c.word_key-key.ensures c.loop-word-test.true i.quiet.later i.met c.in-Err.ensures.made

pub name-requires-clause-block : goal.name-requires-clause-block
name-requires-clause-block c =
    let most : c.args.shared.now.layout.config.buckets ≤ 1024 = (bounds_of c.args.shared.now.layout c.get-version.ensures.made.tracked.valid).buckets.1 in
    omega (arith, c.requires.block)

pub name-requires-clause-some : goal.name-requires-clause-some
name-requires-clause-some c =
    let whole : 0 < c.loop-word.word = omega (arith, c.loop-word-test.false, c.loop-word.auto.word-end, c.requires.some) in
    (c.loop-word.invariant.range whole).0

pub name-requires-clause-most : goal.name-requires-clause-most
name-requires-clause-most c =
    let whole : 0 < c.loop-word.word = omega (arith, c.loop-word-test.false, c.loop-word.auto.word-end, c.requires.some) in
    let most : c.args.shared.now.layout.config.last_version ≤ 281474976710656 = (bounds_of c.args.shared.now.layout c.get-version.ensures.made.tracked.valid).versions.1 in
    omega (arith, (c.loop-word.invariant.range whole).1)

pub returns-clause-written : goal.returns-clause-written
returns-clause-written c =
    let layout = c.args.shared.now.layout in
    let n = layout.config.buckets in
    let p = record_of layout c.loop-word.seat.track.past in
    let whole : c.loop-word.word ≡ length c.args.words.now = omega (arith, c.loop-word-test.false, c.loop-word.auto.word-end) in
    let is = c.name.ensures in
    record {
      some = is.some;
      block_is = is.block_is;
      words_are = named_words p n c.args.block c.loop-word.version c.name.result c.args.words.now is (subst (λ (first : ℕ). HasWords n c.args.block c.loop-word.version c.args.words.now first p) whole c.loop-word.invariant.words);
    }
