use Rattle.std.proofs.Common.{ap, arith, sym, ◌∙◌, ◌≡◌}
use Rattle.std.specs.Prelude.{slice_index}
use Rattle.wfe_core.specs.words.Place.Place.{Bucket}
use Rattle.wfe_drive_cells.specs.Memory.{memory}
use Rattle.wfe_table_end.proofs.Fillings.{filling_none}
use Rattle.wfe_table_end.proofs.WordPlaces.{bucket_there, place_read, place_within}
use Rattle.wfe_table_end.proofs.reading.read_bucket.Goals as goal

pub bounds-words-bucket : goal.bounds-words-bucket
bounds-words-bucket c =
    let there = place_within c.args.layout c.args.words.now (Bucket c.args.bucket) c.requires.whole (bucket_there c.args.layout c.args.bucket c.requires.bucket) in
    omega (arith, there, c.bucket.ensures)

pub returns-then-root-eq0 : goal.returns-then-root-eq0
returns-then-root-eq0 c =
    let list = c.args.words.now in
    let link : memory c.args.layout list (Bucket c.args.bucket) ≡ 0 =
    sym (place_read c.args.layout list (Bucket c.args.bucket) (bucket_there c.args.layout c.args.bucket c.requires.bucket)) ∙ ap (slice_index list) (sym c.bucket.ensures) ∙ c.if-root-eq0.true
    in
    rw c.requires.spare.empty (sym (filling_none (memory c.args.layout list) c.args.bucket link))
