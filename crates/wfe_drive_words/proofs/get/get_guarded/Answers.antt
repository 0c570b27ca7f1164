-- The protection, the reads and the end are those of the call's first state.
use Rattle.std.proofs.Common.{ap, arith, sym, ◌+◌}
use Rattle.wfe_core.specs.DeskHeld.{desk_of}
use Rattle.wfe_core.specs.Rounds.{bucket_of}
use Rattle.wfe_core.specs.Steps.{first_phase}
use Rattle.wfe_core.specs.defs.declared.call.Call.TheVariants.{Get}
use Rattle.wfe_core.specs.defs.declared.event.Root.TheVariants as roots
use Rattle.wfe_drive_words.specs.Called.{at_phase}
use Rattle.wfe_drive_words.specs.Path.{get_trial}
use Rattle.wfe_drive_words.specs.Readiness.{MayAsk}
use Rattle.wfe_drive_words.proofs.Getting.{begins_at, guarded_reads}
use Rattle.wfe_drive_words.proofs.Leading.{closes_from, here_as, here_on, leads_as, then_closes, then_leads}
use Rattle.wfe_drive_words.proofs.Makes.{may_ask_at}
use Rattle.wfe_drive_words.proofs.get.get_guarded.Goals as goal

pub protect-requires-clause-own : goal.protect-requires-clause-own
protect-requires-clause-own g c =
    let h = c.requires.here in
    let may : MayAsk (at_phase (first_phase (Get c.args.key) c.args.post.now) c.args.post.now c.args.desk.now) = may_ask_at h.local _ (g.W.Words.comes c.args.words.now h.local c.requires.valid h.there) h.is in
    may.valid

pub protect-requires-clause-index : goal.protect-requires-clause-index
protect-requires-clause-index g c =
    let h = c.requires.here in
    let may : MayAsk (at_phase (first_phase (Get c.args.key) c.args.post.now) c.args.post.now c.args.desk.now) = may_ask_at h.local _ (g.W.Words.comes c.args.words.now h.local c.requires.valid h.there) h.is in
    omega (arith, may.valid.bounds.indexes)

pub protect-requires-clause-here : goal.protect-requires-clause-here
protect-requires-clause-here g c =
    (get_trial c.args.key (desk_of c.args.desk.now) c.args.post.now.steps, here_as _ _ (begins_at c.args.key c.args.post.now c.args.desk.now (roots.Bucket c.args.bucket) c.requires.clears (ap roots.Bucket c.requires.bucket)) c.requires.here)

pub find_held-found-requires-clause-own : goal.find_held-found-requires-clause-own
find_held-found-requires-clause-own g c =
    let h = c.requires.here in
    let may : MayAsk (at_phase (first_phase (Get c.args.key) c.args.post.now) c.args.post.now c.args.desk.now) = may_ask_at h.local _ (g.W.Words.comes c.args.words.now h.local c.requires.valid h.there) h.is in
    may.valid

pub find_held-found-requires-clause-here : goal.find_held-found-requires-clause-here
find_held-found-requires-clause-here g c =
    let first = here_as _ _ (begins_at c.args.key c.args.post.now c.args.desk.now (roots.Bucket c.args.bucket) c.requires.clears (ap roots.Bucket c.requires.bucket)) c.requires.here in
    let (n, x) = c.in-Within.ensures.leads (get_trial c.args.key (desk_of c.args.desk.now) c.args.post.now.steps) first in
    let guarded = c.in-Within.guarded in
    (desk_of c.args.desk.now, bucket_of c.args.post.now c.args.key, n, guarded.era, c.args.post.now.steps + guarded.steps, here_as _ _ (guarded_reads c.args.key c.args.post.now (desk_of c.args.desk.now) (roots.Bucket c.args.bucket) n guarded (ap roots.Bucket c.requires.bucket)) (here_on first x))

pub close_get-requires-clause-own : goal.close_get-requires-clause-own
close_get-requires-clause-own g c =
    let h = c.requires.here in
    let may : MayAsk (at_phase (first_phase (Get c.args.key) c.args.post.now) c.args.post.now c.args.desk.now) = may_ask_at h.local _ (g.W.Words.comes c.args.words.now h.local c.requires.valid h.there) h.is in
    may.valid

pub close_get-requires-clause-here : goal.close_get-requires-clause-here
close_get-requires-clause-here g c =
    let first = here_as _ _ (begins_at c.args.key c.args.post.now c.args.desk.now (roots.Bucket c.args.bucket) c.requires.clears (ap roots.Bucket c.requires.bucket)) c.requires.here in
    let (n, x) = c.in-Within.ensures.leads (get_trial c.args.key (desk_of c.args.desk.now) c.args.post.now.steps) first in
    let guarded = c.in-Within.guarded in
    let reads = here_as _ _ (guarded_reads c.args.key c.args.post.now (desk_of c.args.desk.now) (roots.Bucket c.args.bucket) n guarded (ap roots.Bucket c.requires.bucket)) (here_on first x) in
    (c.args.key, bucket_of c.args.post.now c.args.key, guarded.link, here_on reads (c.find_held-found.ensures.leads (desk_of c.args.desk.now) (bucket_of c.args.post.now c.args.key) n guarded.era (c.args.post.now.steps + guarded.steps) reads))

pub returns-in-Within-clause-same : goal.returns-in-Within-clause-same
returns-in-Within-clause-same g c = g.W.Words.same_on _ _ _ (g.W.Words.same_on _ _ _ c.in-Within.ensures.same c.find_held-found.ensures.same) c.close_get.ensures.same

pub returns-in-Within-clause-made : goal.returns-in-Within-clause-made
returns-in-Within-clause-made g c =
    let begins = begins_at c.args.key c.args.post.now c.args.desk.now (roots.Bucket c.args.bucket) c.requires.clears (ap roots.Bucket c.requires.bucket) in
    let first = here_as _ _ begins c.requires.here in
    let (n, x) = c.in-Within.ensures.leads (get_trial c.args.key (desk_of c.args.desk.now) c.args.post.now.steps) first in
    let guarded = c.in-Within.guarded in
    let bucket = bucket_of c.args.post.now c.args.key in
    let is = guarded_reads c.args.key c.args.post.now (desk_of c.args.desk.now) (roots.Bucket c.args.bucket) n guarded (ap roots.Bucket c.requires.bucket) in
    let reads = here_as _ _ is (here_on first x) in
    let y = c.find_held-found.ensures.leads (desk_of c.args.desk.now) bucket n guarded.era (c.args.post.now.steps + guarded.steps) reads in
    let z = c.close_get.ensures.closes c.args.key bucket guarded.link (here_on reads y) in
    closes_from _ _ (sym begins) (then_closes (then_leads (leads_as _ _ is x) y) z)

pub ask-requires-clause-here : goal.ask-requires-clause-here
ask-requires-clause-here g c =
    let first = here_as _ _ (begins_at c.args.key c.args.post.now c.args.desk.now (roots.Bucket c.args.bucket) c.requires.clears (ap roots.Bucket c.requires.bucket)) c.requires.here in
    let (n, x) = c.in-Used.ensures.leads (get_trial c.args.key (desk_of c.args.desk.now) c.args.post.now.steps) first in
    here_on first x

pub returns-in-Used-clause-same : goal.returns-in-Used-clause-same
returns-in-Used-clause-same g c = g.W.Words.same_on _ _ _ c.in-Used.ensures.same c.ask.ensures.same

pub returns-in-Used-clause-made : goal.returns-in-Used-clause-made
returns-in-Used-clause-made g c =
    let begins = begins_at c.args.key c.args.post.now c.args.desk.now (roots.Bucket c.args.bucket) c.requires.clears (ap roots.Bucket c.requires.bucket) in
    let first = here_as _ _ begins c.requires.here in
    let (n, x) = c.in-Used.ensures.leads (get_trial c.args.key (desk_of c.args.desk.now) c.args.post.now.steps) first in
    closes_from _ _ (sym begins) (then_closes x c.ask.ensures.closes)
