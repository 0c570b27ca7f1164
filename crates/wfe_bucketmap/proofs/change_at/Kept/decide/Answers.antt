use Rattle.std.proofs.Common.{sym, arith}
use Rattle.wfe_bucketmap.specs.Changes.{kept_of}
use Rattle.wfe_bucketmap.proofs.Room.{room_kept}
use Rattle.wfe_bucketmap.proofs.change_at.Kept.decide.Goals as goal

pub change-requires : goal.change-requires
change-requires c =
    let kept = kept_of c.args.self.now in
    let config = c.args.post.now.layout.config in
    omega (arith, room_kept config kept (sym c.in-None.ensures) c.requires.fits.pairs, c.requires.valid.bounds.pairs)

pub returns-in-None-clause-fits : goal.returns-in-None-clause-fits
returns-in-None-clause-fits c =
    let kept = kept_of c.args.self.now in
    let config = c.args.post.now.layout.config in
    rw c.change.ensures (record {
      taken = c.requires.fits.taken;
      link = c.requires.fits.link;
      version = c.requires.fits.version;
      pairs = room_kept config kept (sym c.in-None.ensures) c.requires.fits.pairs;
    })
