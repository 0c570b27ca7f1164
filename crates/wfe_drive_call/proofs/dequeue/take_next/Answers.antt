-- The tail is read and the next link followed; then the item is taken, or the round ends.
use Rattle.std.proofs.Common.{subst, sym}
use Rattle.wfe_core.specs.Calls.{FollowsHead}
use Rattle.wfe_core.specs.DeskHeld.{HasRoom, desk_of}
use Rattle.wfe_core.specs.declared.post.Post.{Post}
use Rattle.wfe_drive_runs.specs.Pieces.{IsFree, IsSpanned}
use Rattle.wfe_drive_call.proofs.Taking.{head_moved, next_held, next_lags, next_null}
use Rattle.wfe_drive_runs.proofs.drive_words.Leading.{here_on, then_leads}
use Rattle.wfe_drive_runs.proofs.Turning.{leads_so_after, may_here}
use Rattle.wfe_drive_call.proofs.dequeue.take_next.Goals as goal

pub follow_next-requires-clause-free : goal.follow_next-requires-clause-free
follow_next-requires-clause-free g c = subst IsFree (sym c.read_end-tail.ensures.post) c.requires.free

pub follow_next-requires-clause-spanned : goal.follow_next-requires-clause-spanned
follow_next-requires-clause-spanned g c = subst IsSpanned (sym c.read_end-tail.ensures.post) c.requires.spanned

pub follow_next-requires-clause-room : goal.follow_next-requires-clause-room
follow_next-requires-clause-room g c = subst (λ (p : Post). HasRoom c.args.desk.now p.layout) (sym c.read_end-tail.ensures.post) c.requires.room

pub returns-then-tail-head-clause-room : goal.returns-then-tail-head-clause-room
returns-then-tail-head-clause-room g c = subst (λ (p : Post). HasRoom c.follow_next.new.desk p.layout) (sym c.swing_tail.ensures.post) c.follow_next.ensures.room

pub returns-else-tail-head-clause-room : goal.returns-else-tail-head-clause-room
returns-else-tail-head-clause-room g c = subst (λ (p : Post). HasRoom c.follow_next.new.desk p.layout) (sym c.take.ensures.post) c.follow_next.ensures.room

pub returns-then-tail-head-clause-free : goal.returns-then-tail-head-clause-free
returns-then-tail-head-clause-free g c = subst IsFree (sym c.swing_tail.ensures.post) c.follow_next.ensures.free

pub returns-else-tail-head-clause-free : goal.returns-else-tail-head-clause-free
returns-else-tail-head-clause-free g c = subst IsFree (sym c.take.ensures.post) c.follow_next.ensures.free

pub follow_next-requires-clause-here : goal.follow_next-requires-clause-here
follow_next-requires-clause-here g c =
    let h = c.requires.here in
    let desk = desk_of c.args.desk.now in
    let tail = c.read_end-tail.result in
    let y = c.read_end-tail.ensures.leads desk h in
    (FollowsHead c.args.head tail, here_on h y)

pub swing_tail-requires-clause-here : goal.swing_tail-requires-clause-here
swing_tail-requires-clause-here g c =
    let h = c.requires.here in
    let desk = desk_of c.args.desk.now in
    let tail = c.read_end-tail.result in
    let y = c.read_end-tail.ensures.leads desk h in
    let z = leads_so_after y (c.in-Followed.ensures.leads (FollowsHead c.args.head tail) (here_on h y)) in
    (desk_of c.follow_next.new.desk, here_on h (next_lags c.args.head tail c.in-Followed.slot c.follow_next.new.post c.follow_next.new.desk c.if-tail-head.true z))

pub returns-then-tail-head-clause-same : goal.returns-then-tail-head-clause-same
returns-then-tail-head-clause-same g c = g.W.Words.same_on _ _ _ (g.W.Words.same_on _ _ _ c.read_end-tail.ensures.same c.follow_next.ensures.same) c.swing_tail.ensures.same

pub returns-then-tail-head-clause-leads : goal.returns-then-tail-head-clause-leads
returns-then-tail-head-clause-leads g c =
    let h = c.requires.here in
    let desk = desk_of c.args.desk.now in
    let tail = c.read_end-tail.result in
    let y = c.read_end-tail.ensures.leads desk h in
    let z = leads_so_after y (c.in-Followed.ensures.leads (FollowsHead c.args.head tail) (here_on h y)) in
    let w = next_lags c.args.head tail c.in-Followed.slot c.follow_next.new.post c.follow_next.new.desk c.if-tail-head.true z in
    then_leads w (c.swing_tail.ensures.leads (desk_of c.follow_next.new.desk) (here_on h w))

pub take-requires-clause-own : goal.take-requires-clause-own
take-requires-clause-own g c =
    let h = c.requires.here in
    let desk = desk_of c.args.desk.now in
    let tail = c.read_end-tail.result in
    let y = c.read_end-tail.ensures.leads desk h in
    let z = leads_so_after y (c.in-Followed.ensures.leads (FollowsHead c.args.head tail) (here_on h y)) in
    (may_here (g.W.Words.comes c.follow_next.new.words) c.follow_next.ensures.valid (here_on h (next_held c.args.head tail c.in-Followed.slot c.follow_next.new.post c.follow_next.new.desk c.if-tail-head.false z))).valid

pub take-requires-clause-here : goal.take-requires-clause-here
take-requires-clause-here g c =
    let h = c.requires.here in
    let desk = desk_of c.args.desk.now in
    let tail = c.read_end-tail.result in
    let y = c.read_end-tail.ensures.leads desk h in
    let z = leads_so_after y (c.in-Followed.ensures.leads (FollowsHead c.args.head tail) (here_on h y)) in
    (desk_of c.follow_next.new.desk, here_on h (next_held c.args.head tail c.in-Followed.slot c.follow_next.new.post c.follow_next.new.desk c.if-tail-head.false z))

pub returns-else-tail-head-clause-same : goal.returns-else-tail-head-clause-same
returns-else-tail-head-clause-same g c = g.W.Words.same_on _ _ _ (g.W.Words.same_on _ _ _ c.read_end-tail.ensures.same c.follow_next.ensures.same) c.take.ensures.same

pub returns-else-tail-head-clause-leads : goal.returns-else-tail-head-clause-leads
returns-else-tail-head-clause-leads g c =
    let h = c.requires.here in
    let desk = desk_of c.args.desk.now in
    let tail = c.read_end-tail.result in
    let y = c.read_end-tail.ensures.leads desk h in
    let z = leads_so_after y (c.in-Followed.ensures.leads (FollowsHead c.args.head tail) (here_on h y)) in
    let w = next_held c.args.head tail c.in-Followed.slot c.follow_next.new.post c.follow_next.new.desk c.if-tail-head.false z in
    then_leads w (c.take.ensures.leads (desk_of c.follow_next.new.desk) (here_on h w))

pub returns-in-NoNext-clause-leads : goal.returns-in-NoNext-clause-leads
returns-in-NoNext-clause-leads g c =
    let h = c.requires.here in
    let desk = desk_of c.args.desk.now in
    let tail = c.read_end-tail.result in
    let y = c.read_end-tail.ensures.leads desk h in
    let z = leads_so_after y (c.in-NoNext.ensures.leads (FollowsHead c.args.head tail) (here_on h y)) in
    next_null c.args.head tail c.follow_next.new.post c.follow_next.new.desk z

pub returns-in-RootMoved-clause-leads : goal.returns-in-RootMoved-clause-leads
returns-in-RootMoved-clause-leads g c =
    let h = c.requires.here in
    let desk = desk_of c.args.desk.now in
    let tail = c.read_end-tail.result in
    let y = c.read_end-tail.ensures.leads desk h in
    let z = leads_so_after y (c.in-RootMoved.ensures.leads (FollowsHead c.args.head tail) (here_on h y)) in
    head_moved c.args.head tail c.in-RootMoved.seen c.follow_next.new.post c.follow_next.new.desk z
