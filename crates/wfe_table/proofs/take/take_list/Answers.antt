-- The handle goes by its steps, and post and desk follow them.
use Rattle.std.proofs.Common.{List, ap, arith, subst, sym, ◌++◌, ◌<◌, ◌∙◌}
use Rattle.std.proofs.lemmas.Bool.{false≢true}
use Rattle.wfe_core.proofs.Facts.{lt_test}
use Rattle.wfe_core.specs.Held.{ListHeld}
use Rattle.wfe_core.specs.declared.post.Post.{Post}
use Rattle.wfe_core.specs.defs.declared.lifetime.Lifetime.{Lifetime}
use Rattle.wfe_core.specs.words.Place.{number}
use Rattle.wfe_core.specs.words.Place.Place.{PlaceOf}
use Rattle.wfe_core.specs.words.declared.layout.Layout.{Layout}
use Rattle.wfe_drive_call.specs.drive_words.Comes.{departs}
use Rattle.wfe_drive_rule.specs.Handles.{IsSeated}
use Rattle.wfe_drive_rule.specs.drive_cells.Spots.{spot}
use Rattle.wfe_drive_rule.specs.Views.{own}
use Rattle.wfe_table.proofs.Adopted.{few_rows, fits_more, here_over, lives_of, missed_adopts, room_over, took_adopts}
use Rattle.wfe_table.proofs.Made.{seated_as}
use Rattle.wfe_table.proofs.take.take_list.Goals as goal

pub place-word-requires-clause-valid : goal.place-word-requires-clause-valid
place-word-requires-clause-valid c = c.requires.seated.tracked.valid

pub place-word-requires-clause-there : goal.place-word-requires-clause-there
place-word-requires-clause-there c = lt_test c.args.place c.args.post.now.layout.config.seats (subst (λ (d : Layout). c.args.place < d.config.seats) (sym c.requires.key) c.requires.place)

pub take_on-requires-clause-seated : goal.take_on-requires-clause-seated
take_on-requires-clause-seated c = subst (λ (d : Layout). IsSeated d c.args.post.now.seat c.args.handle.now.me) c.requires.key c.requires.seated

pub take_on-requires-clause-there : goal.take_on-requires-clause-there
take_on-requires-clause-there c = λ e. absurd (false≢true (sym c.requires.there ∙ ap departs e))

pub take_on-requires-clause-word : goal.take_on-requires-clause-word
take_on-requires-clause-word c = c.place-word.ensures ∙ ap (λ (d : Layout). number d (PlaceOf c.args.place)) c.requires.key

pub spot_at-spot-requires : goal.spot_at-spot-requires
spot_at-spot-requires c = c.requires.seated.tracked.valid

pub take_on-requires-clause-spot : goal.take_on-requires-clause-spot
take_on-requires-clause-spot c = c.spot_at-spot.ensures ∙ ap (λ (d : Layout). spot d c.place-word.result) c.requires.key

pub append-requires : goal.append-requires
append-requires c = record { fits = fits_more (own c.args.handle.now.me.0).local c.args.post.now c.args.desk.now c.in-Ok.list.lives c.requires.here c.requires.room c.in-Ok.ensures.taken.1.listing }

pub overflow_cast-result : goal.overflow_cast-result
overflow_cast-result c =
    let few = few_rows c.args.ledger.now.key c.in-Ok.list c.len.result c.take_on.ensures.seated.tracked.valid c.in-Ok.ensures.taken.0 c.len.ensures.most in
    omega (arith, few)

pub returns-in-Ok-clause-key : goal.returns-in-Ok-clause-key
returns-in-Ok-clause-key c = ap (λ (p : Post). p.layout) c.end_call.ensures.post

pub returns-in-Ok-clause-seated : goal.returns-in-Ok-clause-seated
returns-in-Ok-clause-seated c =
    seated_as c.args.ledger.now.key c.args.post.now.seat c.end_call.new.post c.take_on.new.handle.me c.take_on.ensures.seated (ap (λ (p : Post). p.layout) c.end_call.ensures.post ∙ c.requires.key) (sym (ap (λ (p : Post). p.seat) c.end_call.ensures.post))

pub returns-in-Ok-clause-here : goal.returns-in-Ok-clause-here
returns-in-Ok-clause-here c =
    let l = (own c.args.handle.now.me.0).local in
    let e = c.end_call.ensures in
    let lives = ap (λ (list : ListHeld). list.lives) e.list ∙ c.append.ensures.lives ∙ ap (λ (lives : List Lifetime). lives ++ c.in-Ok.list.lives) (lives_of l c.args.post.now c.args.desk.now c.requires.here) in
    c.in-Ok.ensures.taken.1.here ∙ here_over l c.args.post.now c.end_call.new.post c.args.desk.now c.end_call.new.desk _ 2 c.requires.here e.post lives e.report e.notes

pub returns-in-Ok-clause-room : goal.returns-in-Ok-clause-room
returns-in-Ok-clause-room c =
    room_over c.args.desk.now c.end_call.new.desk c.args.post.now.layout c.end_call.new.post.layout c.requires.room (ap (λ (p : Post). p.layout) c.end_call.ensures.post) (ap (λ (list : ListHeld). list.slots) c.end_call.ensures.list ∙ c.append.ensures.slots) c.end_call.ensures.report c.end_call.ensures.room

pub returns-in-Err-clause-key : goal.returns-in-Err-clause-key
returns-in-Err-clause-key c = ap (λ (p : Post). p.layout) c.end_call-in-Err.ensures.post

pub returns-in-Err-clause-seated : goal.returns-in-Err-clause-seated
returns-in-Err-clause-seated c =
    seated_as c.args.ledger.now.key c.args.post.now.seat c.end_call-in-Err.new.post c.take_on.new.handle.me c.take_on.ensures.seated (ap (λ (p : Post). p.layout) c.end_call-in-Err.ensures.post ∙ c.requires.key) (sym (ap (λ (p : Post). p.seat) c.end_call-in-Err.ensures.post))

pub returns-in-Err-clause-here : goal.returns-in-Err-clause-here
returns-in-Err-clause-here c =
    let l = (own c.args.handle.now.me.0).local in
    let e = c.end_call-in-Err.ensures in
    let lives = ap (λ (list : ListHeld). list.lives) e.list ∙ lives_of l c.args.post.now c.args.desk.now c.requires.here in
    c.in-Err.ensures.missed.1.here ∙ here_over l c.args.post.now c.end_call-in-Err.new.post c.args.desk.now c.end_call-in-Err.new.desk _ 1 c.requires.here e.post lives e.report e.notes

pub returns-in-Err-clause-room : goal.returns-in-Err-clause-room
returns-in-Err-clause-room c =
    room_over c.args.desk.now c.end_call-in-Err.new.desk c.args.post.now.layout c.end_call-in-Err.new.post.layout c.requires.room (ap (λ (p : Post). p.layout) c.end_call-in-Err.ensures.post) (ap (λ (list : ListHeld). list.slots) c.end_call-in-Err.ensures.list) c.end_call-in-Err.ensures.report c.end_call-in-Err.ensures.room

pub returns-in-Ok-clause-made : goal.returns-in-Ok-clause-made
returns-in-Ok-clause-made c = took_adopts c.args.place c.len.result (own c.args.handle.now.me.0) c.in-Ok.list.lives c.take_on.new.handle.me c.len.ensures.count c.in-Ok.ensures.taken.1

pub returns-in-Err-clause-made : goal.returns-in-Err-clause-made
returns-in-Err-clause-made c =
    let missed = c.in-Err.ensures.missed in
    missed_adopts c.args.place _ (own c.args.handle.now.me.0) c.take_on.new.handle.me missed.0 missed.1
