use Rattle.std.proofs.Common.{◌∙◌, ◌+◌, sym, refl, ap, subst, Some}
use Rattle.wfe_check_lines.specs.Kinds.{KindIn}
use Rattle.wfe_check_lines.specs.Progress.{Tells}
use Rattle.wfe_check_lines.specs.Reading.{GoodAt, Told}
use Rattle.wfe_check_lines.specs.Reading.Stage.{Over}
use Rattle.wfe_check_lines.specs.declared.kind.Kind.TheVariants as kinds
use Rattle.laws.specs.records.Record.Past.{Then}
use Rattle.wfe_check_lines.proofs.Telling.{bodied_at, body_at, body_line, first_line, starts_at}
use Rattle.wfe_check_lines.proofs.progress.Progress.take.Goals as goal

pub entry-requires : goal.entry-requires
entry-requires g c =
    let (stage, entries, is) = c.requires.some in
    let here = bodied_at g.J.Judge.judges c.args.self.now c.in-Body.version c.in-Body.config c.in-Body.judge stage entries c.in-Body.is is in
    record { good = (c.in-Body.version, c.in-Body.config, entries, here.1, subst (KindIn c.in-Body.config) c.in-Some-Entry.field-0-is c.in-Some-Entry.ensures.within) }

pub returns-in-First : goal.returns-in-First
returns-in-First g c told is =
    let here = starts_at g.J.Judge.judges c.args.self.now told.stage told.entries c.in-First.is is in
    subst (λ next. Tells g.J.Judge.judges c.begin.result told next c.begin.new.self) (sym (first_line told c.args.line.now here.0)) (c.begin.ensures told here.1)

pub returns-in-Ok-true : goal.returns-in-Ok-true
returns-in-Ok-true g c told is =
    let here = bodied_at g.J.Judge.judges c.args.self.now c.in-Body.version c.in-Body.config c.in-Body.judge told.stage told.entries c.in-Body.is is in
    let judged = c.in-Ok-true.ensures c.in-Body.version c.in-Body.config told.entries here.1 in
    let x : Told = record told { entries = Then told.entries c.in-Some-Entry.seat c.in-Some-Entry.event; count = told.count + 1 } in
    (x, body_line told c.args.line.now c.in-Body.version c.in-Body.config (Some (kinds.Entry c.in-Some-Entry.seat c.in-Some-Entry.event)) here.0 (ap Some (sym c.in-Some-Entry.field-0-is) ∙ sym c.in-Some-Entry.is ∙ c.read_kind.ensures.kind), body_at g.J.Judge.judges c.in-Body.version c.in-Body.config c.entry.new.self told.stage x.entries here.0 (judged.good c.in-Ok-true.field-0-test), refl)

pub returns-in-Ok-false : goal.returns-in-Ok-false
returns-in-Ok-false g c told is =
    let here = bodied_at g.J.Judge.judges c.args.self.now c.in-Body.version c.in-Body.config c.in-Body.judge told.stage told.entries c.in-Body.is is in
    let judged = c.in-Ok-false.ensures c.in-Body.version c.in-Body.config told.entries here.1 in
    let x : Told = record told { entries = Then told.entries c.in-Some-Entry.seat c.in-Some-Entry.event; count = told.count + 1 } in
    (x, body_line told c.args.line.now c.in-Body.version c.in-Body.config (Some (kinds.Entry c.in-Some-Entry.seat c.in-Some-Entry.event)) here.0 (ap Some (sym c.in-Some-Entry.field-0-is) ∙ sym c.in-Some-Entry.is ∙ c.read_kind.ensures.kind), λ good. judged.refused c.in-Ok-false.field-0-test (subst (λ s. GoodAt s x.entries) here.0 good))

pub returns-in-Some-Last : goal.returns-in-Some-Last
returns-in-Some-Last g c told is =
    let here = bodied_at g.J.Judge.judges c.args.self.now c.in-Body.version c.in-Body.config c.in-Body.judge told.stage told.entries c.in-Body.is is in
    let x : Told = record told { stage = Over c.in-Body.version c.in-Body.config } in
    (x, body_line told c.args.line.now c.in-Body.version c.in-Body.config (Some kinds.Last) here.0 (ap Some (sym c.in-Some-Last.field-0-is) ∙ sym c.in-Some-Last.is ∙ c.read_kind.ensures.kind), rw c.end.ensures (g.J.Judge.good _ _ _ _ here.1), refl)
