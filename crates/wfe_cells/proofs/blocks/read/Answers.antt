-- Each word is read at the bucket's version; or a get has told another.
use Rattle.std.proofs.Common.{arith, inl, inr, length, refl, ◌%◌, ◌/◌, ◌<◌, ◌∙◌, ◌≡◌, ◌≤◌}
use Rattle.std.proofs.lemmas.List.{length-set}
use Rattle.wfe_cells.specs.Only.{IsGet}
use Rattle.wfe_cells.specs.Wide.{block_of, key_of}
use Rattle.wfe_cells.proofs.Among.{quiet_get, quiet_on, quiet_self}
use Rattle.wfe_cells.proofs.Only.{only_more, only_self}
use Rattle.wfe_cells.proofs.Refusals.{moved}
use Rattle.wfe_cells.proofs.Words.{read_word}
use Rattle.wfe_cells.proofs.blocks.read.Goals as goal

pub loop-word-init : goal.loop-word-init
loop-word-init c = record { of = c.requires.of; quiet = quiet_self c.args.seat.now; only = only_self IsGet c.args.seat.now; length = refl; words = λ word none. absurd (omega arith) }

pub loop-word-preserved : goal.loop-word-preserved
loop-word-preserved c =
    let layout = c.args.shared.now.layout in
    let i = c.loop-word.invariant in
    let got = c.get-got.result in
    let made = c.get-got.ensures.made in
    let below : c.args.object % 1024 < layout.config.buckets = omega (arith, c.if-block-buckets.false, c.buckets.ensures) in
    let key : c.word_key-key.result ≡ key_of layout.config.buckets (c.args.object % 1024) c.loop-word.word = c.word_key-key.ensures in
    let version : got.version ≡ c.args.object / 1024 = c.if-got-version.false in
    let there : c.loop-word.word < length c.loop-word.words = omega (arith, c.loop-word-test.true, i.length) in
    record {
      of = c.get-got.ensures.of;
      quiet = quiet_on c.args.seat.now c.loop-word.seat c.get-got.new.seat i.quiet (quiet_get layout c.loop-word.seat c.get-got.new.seat c.word_key-key.result got.version got.value made);
      only = only_more layout c.args.seat.now c.loop-word.seat c.get-got.new.seat c.word_key-key.result got.version got.value i.only made;
      length = length-set c.loop-word.words c.loop-word.word c.in-Some.value ∙ i.length;
      words = read_word layout c.args.seat.now c.loop-word.seat c.get-got.new.seat (c.args.object % 1024) c.word_key-key.result (c.args.object / 1024) got.version c.loop-word.word c.in-Some.value got.value c.loop-word.words below key version c.in-Some.is made there i.words;
    }

pub returns-then-block-buckets-clause-quiet : goal.returns-then-block-buckets-clause-quiet
returns-then-block-buckets-clause-quiet c = quiet_self c.args.seat.now

pub returns-then-block-buckets-clause-only : goal.returns-then-block-buckets-clause-only
returns-then-block-buckets-clause-only c = only_self IsGet c.args.seat.now

pub returns-then-block-buckets-clause-lost : goal.returns-then-block-buckets-clause-lost
returns-then-block-buckets-clause-lost c =
    let past : c.args.shared.now.layout.config.buckets ≤ block_of c.args.object = omega (arith, c.if-block-buckets.true, c.buckets.ensures) in
    λ no. inl past

pub returns-in_default-clause-quiet : goal.returns-in_default-clause-quiet
returns-in_default-clause-quiet c =
    let got = c.get-got.result in
    quiet_on c.args.seat.now c.loop-word.seat c.get-got.new.seat c.loop-word.invariant.quiet (quiet_get c.args.shared.now.layout c.loop-word.seat c.get-got.new.seat c.word_key-key.result got.version got.value c.get-got.ensures.made)

pub returns-in_default-clause-only : goal.returns-in_default-clause-only
returns-in_default-clause-only c =
    let got = c.get-got.result in
    only_more c.args.shared.now.layout c.args.seat.now c.loop-word.seat c.get-got.new.seat c.word_key-key.result got.version got.value c.loop-word.invariant.only c.get-got.ensures.made

pub returns-in_default-clause-lost : goal.returns-in_default-clause-lost
returns-in_default-clause-lost c =
    let i = c.loop-word.invariant in
    let got = c.get-got.result in
    let there : c.loop-word.word < length c.args.words.now = omega (arith, c.loop-word-test.true, i.length) in
    λ no. moved c.args.shared.now.layout c.args.seat.now c.loop-word.seat c.get-got.new.seat c.args.object c.word_key-key.result c.loop-word.word (length c.args.words.now) got.version got.value c.word_key-key.ensures there i.quiet.later c.get-got.ensures.made (inl c.in_default.is)

pub returns-then-got-version-clause-quiet : goal.returns-then-got-version-clause-quiet
returns-then-got-version-clause-quiet c =
    let got = c.get-got.result in
    quiet_on c.args.seat.now c.loop-word.seat c.get-got.new.seat c.loop-word.invariant.quiet (quiet_get c.args.shared.now.layout c.loop-word.seat c.get-got.new.seat c.word_key-key.result got.version got.value c.get-got.ensures.made)

pub returns-then-got-version-clause-only : goal.returns-then-got-version-clause-only
returns-then-got-version-clause-only c =
    let got = c.get-got.result in
    only_more c.args.shared.now.layout c.args.seat.now c.loop-word.seat c.get-got.new.seat c.word_key-key.result got.version got.value c.loop-word.invariant.only c.get-got.ensures.made

pub returns-then-got-version-clause-lost : goal.returns-then-got-version-clause-lost
returns-then-got-version-clause-lost c =
    let i = c.loop-word.invariant in
    let got = c.get-got.result in
    let there : c.loop-word.word < length c.args.words.now = omega (arith, c.loop-word-test.true, i.length) in
    λ no. moved c.args.shared.now.layout c.args.seat.now c.loop-word.seat c.get-got.new.seat c.args.object c.word_key-key.result c.loop-word.word (length c.args.words.now) got.version got.value c.word_key-key.ensures there i.quiet.later c.get-got.ensures.made (inr c.if-got-version.true)
