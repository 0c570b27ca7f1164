-- Each root lies where its kind does.
use Rattle.std.proofs.Common.{ap, arith, ◌<◌, ◌≡◌, ◌≤◌, ◌∙◌}
use Rattle.wfe_core.specs.Links.{link_number}
use Rattle.wfe_drive_cells.proofs.Lying.{bucket_below, bucket_from, head_below, head_from, row_dense, tail_below, tail_from}
use Rattle.wfe_drive_words.proofs.Cells.{root_there}
use Rattle.wfe_drive_words.proofs.path.load_link.Goals as goal

pub root-requires-clause-from : goal.root-requires-clause-from
root-requires-clause-from c = let e = c.link_word_number.ensures.number ∙ ap (link_number c.args.post.now.layout) c.in-Bucket.is in omega (arith, e, bucket_from c.args.post.now.layout c.in-Bucket.field-0)

pub root-requires-clause-below : goal.root-requires-clause-below
root-requires-clause-below c = let e = c.link_word_number.ensures.number ∙ ap (link_number c.args.post.now.layout) c.in-Bucket.is in omega (arith, e, bucket_below c.args.post.now.layout c.in-Bucket.field-0 (root_there c.args.post.now.layout c.args.root _ c.in-Bucket.is c.requires.there))

pub dense-requires-clause-from : goal.dense-requires-clause-from
dense-requires-clause-from c = let e = c.link_word_number.ensures.number ∙ ap (link_number c.args.post.now.layout) c.in-Next.is in omega (arith, e, row_dense c.args.post.now.layout c.in-Next.field-0 0)

pub end-requires-clause-from : goal.end-requires-clause-from
end-requires-clause-from c = let e = c.link_word_number.ensures.number ∙ ap (link_number c.args.post.now.layout) c.in-Head.is in omega (arith, e, head_from c.args.post.now.layout)

pub end-requires-clause-below : goal.end-requires-clause-below
end-requires-clause-below c = let e = c.link_word_number.ensures.number ∙ ap (link_number c.args.post.now.layout) c.in-Head.is in omega (arith, e, head_below c.args.post.now.layout)

pub end-requires-in-Tail-clause-from : goal.end-requires-in-Tail-clause-from
end-requires-in-Tail-clause-from c = let e = c.link_word_number.ensures.number ∙ ap (link_number c.args.post.now.layout) c.in-Tail.is in omega (arith, e, tail_from c.args.post.now.layout)

pub end-requires-in-Tail-clause-below : goal.end-requires-in-Tail-clause-below
end-requires-in-Tail-clause-below c = let e = c.link_word_number.ensures.number ∙ ap (link_number c.args.post.now.layout) c.in-Tail.is in omega (arith, e, tail_below c.args.post.now.layout)
