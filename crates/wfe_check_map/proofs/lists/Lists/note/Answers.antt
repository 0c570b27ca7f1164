use Rattle.std.proofs.Common.{ℕ, ◌<◌, ◌∙◌, ap, subst, length}
use Rattle.std.proofs.lemmas.Result.{on_ok_weaker}
use Rattle.laws.specs.ScanLaw.{guards}
use Rattle.wfe_check_map.specs.Seats.{NotesOwn}
use Rattle.wfe_check_map.proofs.ListStepsLemmas.{own_steps, adopted_steps, adopted_long, not_handed}
use Rattle.wfe_check_map.proofs.lists.Lists.note.Goals as goal

pub returns-in-Adopted-clause-noted : goal.returns-in-Adopted-clause-noted
returns-in-Adopted-clause-noted c =
    on_ok_weaker c.adopt.result
    (λ is config p h ok.
    let old = c.args.self.now.seats.items in
    let seated : c.args.seat < config.seats = rw (← h.setting) c.requires.range.seated in
    let place = c.in-Adopted.place in
    let placed : place < config.seats = rw (← h.setting) (rw c.in-Adopted.is at c.requires.range.within) in
    record {
      setting = h.setting;
      all = h.all;
      many = ap length is ∙ adopted_long c.args.seat place old ∙ h.many;
      seats = rw (is, c.in-Adopted.is) (adopted_steps (guards config) config.seats c.args.seat place c.in-Adopted.count old p h.many seated placed h.seats);
    })
    c.adopt.ensures

pub returns-in_default-clause-noted : goal.returns-in_default-clause-noted
returns-in_default-clause-noted c =
    on_ok_weaker c.note_own.result
    (λ step config p h ok.
    let old = c.args.self.now.seats.items in
    let new = c.note_own.new.seats.items in
    let event = c.args.event.now in
    let P : ℕ → Type 0 = λ (n : ℕ). NotesOwn n c.args.seat event old new in
    record {
      setting = h.setting;
      all = h.all;
      many = step.many ∙ h.many;
      seats = own_steps config config.seats c.args.seat event old new p h.many (rw (← h.setting) c.requires.range.seated) h.seats ok (not_handed event c.in_default.not-Adopted) (subst P h.all step);
    })
    c.note_own.ensures
