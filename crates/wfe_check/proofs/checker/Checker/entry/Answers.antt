use Rattle.std.proofs.Common.{◌∙◌}
use Rattle.laws.proofs.Grows.{good_grows}
use Rattle.wfe_check.proofs.checker.Checker.entry.Goals as goal

pub returns-then-not-fits_kind : goal.returns-then-not-fits_kind
returns-then-not-fits_kind c version config p is = record {
  good = λ e. absurd (cc);
  refused = λ e good.
      let fits = c.fits_kind.ensures.back version config p is ((good_grows version config p c.args.seat c.args.event.now).0 good).1 in
      absurd (let not_so = c.if-not-fits_kind.true in cc);
}

pub returns : goal.returns
returns c version config p is =
    let fits = c.fits_kind.ensures.there version config p is c.if-not-fits_kind.false in
    record {
      good = λ e. record {
        version_is = c.in_ok-note_kind.ensures.version ∙ is.version_is;
        shows = c.in_ok-note_kind.ensures.told config p is.shows fits.values fits.blocks;
        good = (good_grows version config p c.args.seat c.args.event.now).1 is.good fits;
      };
      refused = λ e. absurd (cc);
    }
