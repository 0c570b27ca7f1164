use Rattle.std.proofs.Common.{◌∙◌, ◌+◌, Some, refl, sym, ap, subst}
use Rattle.model_record.specs.Record.Past.{Then}
use Rattle.wfe_check_lines.specs.Reading.{with_kind}
use Rattle.wfe_check_lines.specs.Reading.Stage.{Over}
use Rattle.wfe_draw.specs.Lines.{IsAt}
use Rattle.wfe_draw.specs.declared.line.Place.TheVariants as places
use Rattle.wfe_draw.proofs.line.read_body.Goals as goal

pub returns-in-Some-Entry : goal.returns-in-Some-Entry
returns-in-Some-Entry c told stage = (
  record told { entries = Then told.entries c.in-Some-Entry.seat c.in-Some-Entry.event; count = told.count + 1 },
  ap (with_kind c.args.version c.args.config.now told) (sym c.read_kind.ensures.kind ∙ c.in-Some-Entry.is ∙ ap Some c.in-Some-Entry.field-0-is),
  refl,
  refl,
)

pub returns-in-Some-Shown : goal.returns-in-Some-Shown
returns-in-Some-Shown c told stage = (
  told,
  ap (with_kind c.args.version c.args.config.now told) (sym c.read_kind.ensures.kind ∙ c.in-Some-Shown.is ∙ ap Some c.in-Some-Shown.field-0-is),
  subst (IsAt (places.Body c.args.version c.args.config.now)) (sym stage) (refl, refl),
  refl,
)

pub returns-in-Some-Last : goal.returns-in-Some-Last
returns-in-Some-Last c told stage = (
  record told { stage = Over c.args.version c.args.config.now },
  ap (with_kind c.args.version c.args.config.now told) (sym c.read_kind.ensures.kind ∙ c.in-Some-Last.is ∙ ap Some c.in-Some-Last.field-0-is),
  tt,
  refl,
)
