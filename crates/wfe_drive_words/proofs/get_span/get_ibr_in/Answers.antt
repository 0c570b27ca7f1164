-- The interval, the protection, the reads and the end are those of the call's first state.
use Rattle.std.proofs.Common.{ap, refl, sym, ◌+◌}
use Rattle.wfe_core.specs.DeskHeld.{desk_of}
use Rattle.wfe_core.specs.Calls.{Gets}
use Rattle.wfe_core.specs.Rounds.{bucket_of}
use Rattle.wfe_core.specs.Steps.{first_phase}
use Rattle.wfe_core.specs.defs.declared.call.Call.TheVariants.{Get}
use Rattle.wfe_core.specs.defs.declared.event.Root.TheVariants as roots
use Rattle.wfe_drive_words.specs.Called.{at_phase}
use Rattle.wfe_drive_words.specs.Path.{asking_trial, spanned}
use Rattle.wfe_drive_words.specs.Readiness.{MayAsk}
use Rattle.wfe_drive_words.proofs.Endings.{begins_span, begun_protects, steps_moved, within_reads}
use Rattle.wfe_drive_words.proofs.Leading.{closes_from, here_as, here_on, leads_as, then_closes, then_leads}
use Rattle.wfe_drive_words.proofs.Makes.{may_ask_at}
use Rattle.wfe_drive_words.proofs.get_span.get_ibr_in.Goals as goal

pub begin_span-era-requires-clause-own : goal.begin_span-era-requires-clause-own
begin_span-era-requires-clause-own g c =
    let h = c.requires.here in
    let may : MayAsk (at_phase (first_phase (Get c.args.key) c.args.post.now) c.args.post.now c.args.desk.now) = may_ask_at h.local _ (g.W.Words.comes c.args.words.now h.local c.requires.valid h.there) h.is in
    may.valid

pub protect_within-guarded-requires-clause-own : goal.protect_within-guarded-requires-clause-own
protect_within-guarded-requires-clause-own g c =
    let h = c.requires.here in
    let may : MayAsk (at_phase (first_phase (Get c.args.key) c.args.post.now) c.args.post.now c.args.desk.now) = may_ask_at h.local _ (g.W.Words.comes c.args.words.now h.local c.requires.valid h.there) h.is in
    may.valid

pub find_within-found-requires-clause-own : goal.find_within-found-requires-clause-own
find_within-found-requires-clause-own g c =
    let h = c.requires.here in
    let may : MayAsk (at_phase (first_phase (Get c.args.key) c.args.post.now) c.args.post.now c.args.desk.now) = may_ask_at h.local _ (g.W.Words.comes c.args.words.now h.local c.requires.valid h.there) h.is in
    may.valid

pub end_get-requires-clause-own : goal.end_get-requires-clause-own
end_get-requires-clause-own g c =
    let h = c.requires.here in
    let may : MayAsk (at_phase (first_phase (Get c.args.key) c.args.post.now) c.args.post.now c.args.desk.now) = may_ask_at h.local _ (g.W.Words.comes c.args.words.now h.local c.requires.valid h.there) h.is in
    may.valid

pub begin_span-era-requires-clause-here : goal.begin_span-era-requires-clause-here
begin_span-era-requires-clause-here g c =
    let desk = desk_of c.args.desk.now in
    let key = c.args.key in
    let post = c.args.post.now in
    let root = (roots.Bucket c.args.bucket) in
    let begins = begins_span key post c.args.desk.now c.requires.scheme c.requires.span in
    let first = here_as _ _ begins c.requires.here in
    (Gets key, desk, post.steps, first)

pub protect_within-guarded-requires-clause-here : goal.protect_within-guarded-requires-clause-here
protect_within-guarded-requires-clause-here g c =
    let desk = desk_of c.args.desk.now in
    let key = c.args.key in
    let post = c.args.post.now in
    let root = (roots.Bucket c.args.bucket) in
    let begins = begins_span key post c.args.desk.now c.requires.scheme c.requires.span in
    let first = here_as _ _ begins c.requires.here in
    let x1 = c.begin_span-era.ensures.leads (Gets key) desk post.steps first in
    let bp = begun_protects key post desk (post.steps + 2) c.begin_span-era.result root c.requires.scheme (ap roots.Bucket c.requires.bucket) in
    let h2 = here_as _ _ bp (here_on first x1) in
    (asking_trial key desk 0 (post.steps + 2), 0, h2)

pub find_within-found-requires-clause-here : goal.find_within-found-requires-clause-here
find_within-found-requires-clause-here g c =
    let desk = desk_of c.args.desk.now in
    let key = c.args.key in
    let post = c.args.post.now in
    let root = (roots.Bucket c.args.bucket) in
    let begins = begins_span key post c.args.desk.now c.requires.scheme c.requires.span in
    let first = here_as _ _ begins c.requires.here in
    let x1 = c.begin_span-era.ensures.leads (Gets key) desk post.steps first in
    let bp = begun_protects key post desk (post.steps + 2) c.begin_span-era.result root c.requires.scheme (ap roots.Bucket c.requires.bucket) in
    let h2 = here_as _ _ bp (here_on first x1) in
    let guarded = c.protect_within-guarded.result in
    let (n, x2) = c.protect_within-guarded.ensures.leads (asking_trial key desk 0 (post.steps + 2)) 0 h2 in
    let wr = within_reads key post desk (post.steps + 2) c.begin_span-era.result root n guarded (ap roots.Bucket c.requires.bucket) in
    let h3 = here_as _ _ wr (here_on h2 x2) in
    let bucket = bucket_of post key in
    (spanned post c.begin_span-era.result guarded.era, refl, desk, bucket, n, guarded.era, post.steps + 2 + guarded.steps, h3)

pub end_get-requires-clause-here : goal.end_get-requires-clause-here
end_get-requires-clause-here g c =
    let desk = desk_of c.args.desk.now in
    let key = c.args.key in
    let post = c.args.post.now in
    let root = (roots.Bucket c.args.bucket) in
    let begins = begins_span key post c.args.desk.now c.requires.scheme c.requires.span in
    let first = here_as _ _ begins c.requires.here in
    let x1 = c.begin_span-era.ensures.leads (Gets key) desk post.steps first in
    let bp = begun_protects key post desk (post.steps + 2) c.begin_span-era.result root c.requires.scheme (ap roots.Bucket c.requires.bucket) in
    let h2 = here_as _ _ bp (here_on first x1) in
    let guarded = c.protect_within-guarded.result in
    let (n, x2) = c.protect_within-guarded.ensures.leads (asking_trial key desk 0 (post.steps + 2)) 0 h2 in
    let wr = within_reads key post desk (post.steps + 2) c.begin_span-era.result root n guarded (ap roots.Bucket c.requires.bucket) in
    let h3 = here_as _ _ wr (here_on h2 x2) in
    let bucket = bucket_of post key in
    let p = spanned post c.begin_span-era.result guarded.era in
    let x3 = c.find_within-found.ensures.leads p desk bucket n guarded.era (post.steps + 2 + guarded.steps) refl c.requires.scheme c.requires.free h3 in
    let sm = steps_moved key p desk post.steps guarded.steps c.find_within-found.result in
    let h4 = here_as _ _ sm (here_on h3 x3) in
    (key, c.begin_span-era.result, guarded.era, h4)

pub returns-clause-same : goal.returns-clause-same
returns-clause-same g c = g.W.Words.same_on _ _ _ (g.W.Words.same_on _ _ _ (g.W.Words.same_on _ _ _ c.begin_span-era.ensures.same c.protect_within-guarded.ensures.same) c.find_within-found.ensures.same) c.end_get.ensures.same

pub returns-clause-made : goal.returns-clause-made
returns-clause-made g c =
    let desk = desk_of c.args.desk.now in
    let key = c.args.key in
    let post = c.args.post.now in
    let root = (roots.Bucket c.args.bucket) in
    let begins = begins_span key post c.args.desk.now c.requires.scheme c.requires.span in
    let first = here_as _ _ begins c.requires.here in
    let x1 = c.begin_span-era.ensures.leads (Gets key) desk post.steps first in
    let bp = begun_protects key post desk (post.steps + 2) c.begin_span-era.result root c.requires.scheme (ap roots.Bucket c.requires.bucket) in
    let h2 = here_as _ _ bp (here_on first x1) in
    let guarded = c.protect_within-guarded.result in
    let (n, x2) = c.protect_within-guarded.ensures.leads (asking_trial key desk 0 (post.steps + 2)) 0 h2 in
    let wr = within_reads key post desk (post.steps + 2) c.begin_span-era.result root n guarded (ap roots.Bucket c.requires.bucket) in
    let h3 = here_as _ _ wr (here_on h2 x2) in
    let bucket = bucket_of post key in
    let p = spanned post c.begin_span-era.result guarded.era in
    let x3 = c.find_within-found.ensures.leads p desk bucket n guarded.era (post.steps + 2 + guarded.steps) refl c.requires.scheme c.requires.free h3 in
    let sm = steps_moved key p desk post.steps guarded.steps c.find_within-found.result in
    let h4 = here_as _ _ sm (here_on h3 x3) in
    let z = c.end_get.ensures.closes key c.begin_span-era.result guarded.era h4 in
    closes_from _ _ (sym begins) (then_closes (then_leads (then_leads (leads_as _ _ bp x1) (leads_as _ _ wr x2)) (leads_as _ _ sm x3)) z)
