-- The seat after its call, whose handle, post and desk went through it together.
use Rattle.std.proofs.Common.{ap, subst, sym, ◌∙◌, ◌≡◌}
use Rattle.wfe_core.specs.Calls.{Idle}
use Rattle.wfe_core.specs.defs.declared.call.Call.{Call}
use Rattle.wfe_core.specs.words.declared.layout.Layout.{Layout}
use Rattle.wfe_drive_call.specs.drive_words.Called.{at_phase}
use Rattle.wfe_drive_rule.specs.drive_cells.Unit.{SeatView}
use Rattle.law_bounds.specs.all.Logs.Versions.{Counts, met_by, met_in}
use Rattle.wfe_drive_rule.specs.Handles.{IsSeated, IsTracked}
use Rattle.wfe_drive_rule.specs.Views.{own}
use Rattle.wfe_table.specs.Calls.{IsMade}
use Rattle.wfe_table.specs.Public.{SeatNow}
use Rattle.wfe_table.specs.Sound.{IsMet}
use Rattle.std.proofs.lemmas.Bool.{true≢false}
use Rattle.wfe_table.proofs.TableWords.{comes_standing}
use Rattle.wfe_table.proofs.Made.{made_by, met_more, over, rests_as, rests_here, seated_as, still_there}
use Rattle.wfe_table.proofs.seat.Seat.make_alone.Goals as goal

pub drive_alone-answer-requires-clause-valid : goal.drive_alone-answer-requires-clause-valid
drive_alone-answer-requires-clause-valid g c =
    let key : c.self.inside.post.layout ≡ c.args.ledger.now.key = sym (ap (λ (v : SeatView). v.post.layout) c.self.invariant.here) ∙ ap (λ (s : SeatNow). s.track.local.post.layout) c.self.view_is ∙ c.requires.layout in
    record {
      ids = ap (λ (s : SeatNow). s.table) c.self.view_is ∙ c.requires.table;
      sized = c.requires.sized;
      seated = subst (λ (d : Layout). IsSeated d c.self.inside.post.seat c.self.inside.handle.me) key c.self.invariant.seated;
      comes = comes_standing c.self.inside.post.layout c.self.inside.post.seat c.self.inside.handle.me c.self.invariant.seated;
      later = λ e. absurd (true≢false e);
    }

pub drive_alone-answer-requires-clause-here : goal.drive_alone-answer-requires-clause-here
drive_alone-answer-requires-clause-here g c =
    let i = c.self.invariant in
    rests_here c.self.inside.handle.me (at_phase Idle c.self.inside.post c.self.inside.desk) i.resting i.here i.there

pub invariant_of-self : goal.invariant_of-self
invariant_of-self g c =
    let i = c.self.invariant in
    let d = c.drive_alone-answer.ensures in
    let new = c.drive_alone-answer.new in
    let o = over (g.C.Alone.named c.args.made) c.drive_alone-answer.result c.self.inside.handle.me new.words.handle.now.me _ _ (at_phase Idle c.self.inside.post c.self.inside.desk) (at_phase Idle new.post new.desk) i.resting i.here d.called in
    let table : new.post.layout ≡ c.self.inside.post.layout = d.place.layout in
    let key : c.self.inside.post.layout ≡ c.args.ledger.now.key = sym (ap (λ (v : SeatView). v.post.layout) i.here) ∙ ap (λ (s : SeatNow). s.track.local.post.layout) c.self.view_is ∙ c.requires.layout in
    let log = (own c.self.inside.handle.me.0).local.log in
    record {
      seated = seated_as new.words.ledger.now.key new.words.seat new.post new.words.handle.now.me d.valid.seated (table ∙ key ∙ sym (ap (λ ledger. ledger.now.key) d.same.ledger)) (d.same.seat ∙ sym d.place.seat);
      resting = o.resting;
      here = o.here;
      room = d.room;
      there = still_there new.words.handle.now.me _ o.resting d.here;
      met = met_more new.post.layout.config.buckets (g.C.Alone.named c.args.made) c.drive_alone-answer.result (own c.self.inside.handle.me.0).local (own new.words.handle.now.me.0).local o.ops c.self.inside.seen.items c.meet.new.seen.items o.ends
          (subst (λ (l : Layout). IsMet l.config.buckets (met_in l.config.buckets log) c.self.inside.seen.items) (sym table) i.met)
          (subst (λ (call : Call). (met : Counts) → IsMet new.post.layout.config.buckets met c.self.inside.seen.items → IsMet new.post.layout.config.buckets (met_by new.post.layout.config.buckets call c.drive_alone-answer.result met) c.meet.new.seen.items) c.call.ensures c.meet.ensures.met);
    }

pub returns-clause-made : goal.returns-clause-made
returns-clause-made g c =
    let i = c.self.invariant in
    let d = c.drive_alone-answer.ensures in
    let new = c.drive_alone-answer.new in
    let o = over (g.C.Alone.named c.args.made) c.drive_alone-answer.result c.self.inside.handle.me new.words.handle.now.me _ _ (at_phase Idle c.self.inside.post c.self.inside.desk) (at_phase Idle new.post new.desk) i.resting i.here d.called in
    let old : SeatNow = record { table = c.self.inside.handle.table_id; track = own c.self.inside.handle.me.0 } in
    let key : c.self.inside.post.layout ≡ c.args.ledger.now.key = sym (ap (λ (v : SeatView). v.post.layout) i.here) ∙ ap (λ (s : SeatNow). s.track.local.post.layout) c.self.view_is ∙ c.requires.layout in
    let later : SeatNow = record { table = new.words.handle.now.table_id; track = own new.words.handle.now.me.0 } in
    let tracked : IsTracked c.args.ledger.now.key (own new.words.handle.now.me.0) = subst (λ (l : Layout). IsTracked l (own new.words.handle.now.me.0)) (ap (λ ledger. ledger.now.key) d.same.ledger) d.valid.seated.tracked in
    subst (λ (s : SeatNow). IsMade c.args.ledger.now.key s later (g.C.Alone.named c.args.made) c.drive_alone-answer.result) c.self.view_is
    (made_by c.args.ledger.now.key old later (g.C.Alone.named c.args.made) c.drive_alone-answer.result o.ops d.same.more (rests_as _ _ _ _ i.seated i.resting key) tracked o.ends d.same.grows)
