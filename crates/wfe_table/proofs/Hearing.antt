-- A seat that hears how far another's history is known stands as it did, and has the counts of what it has heard.
use Rattle.std.proofs.Common.{List, ap, subst, sym, ◌++◌, ◌∙◌, ◌≡◌}
use Rattle.wfe_core.specs.words.declared.layout.Layout.{Layout}
use Rattle.law_bounds.specs.all.Logs.Versions.{AtMost, counts_of}
use Rattle.law_bounds.proofs.all.Logs.Grows.{Grows, grows_tells, more_count, more_queued, records_grow}
use Rattle.wfe_drive_rule.specs.Handles.{IsResting, IsTracked}
use Rattle.wfe_drive_rule.specs.Moves.{Learns, hearing}
use Rattle.wfe_drive_rule.specs.Rule.{Opens}
use Rattle.wfe_drive_rule.specs.Views.{Handle, Track, own}
use Rattle.wfe_drive_rule.specs.history.History.{Item, record_of}
use Rattle.wfe_drive_rule.specs.history.Record.{Past}
use Rattle.wfe_table.specs.Hearing.{IsAware}
use Rattle.wfe_table.specs.Public.{SeatNow}

counts_grow : (layout : Layout) (items more : List Item) → AtMost (counts_of (record_of layout items)) (counts_of (record_of layout (items ++ more)))
counts_grow layout items more =
    let p : Past = record_of layout items in
    let q : Past = record_of layout (items ++ more) in
    let g = records_grow layout items more in
    let h : Grows p q = subst (Grows p) (sym g.cut) (grows_tells g.later p) in
    record { versions = λ b. more_count b p q h; queued = more_queued p q h; taken = h.taken }

heard_counts : (layout : Layout) (heard past : List Item) → Opens past heard → AtMost (counts_of (record_of layout heard)) (counts_of (record_of layout past))
heard_counts layout heard past o = subst (λ (z : List Item). AtMost (counts_of (record_of layout heard)) (counts_of (record_of layout z))) (sym o.1) (counts_grow layout heard o.0)

-- the track of a handle that has heard
pub track_heard : (layout : Layout) (handle later : Handle) (l : Learns layout handle later) → own later.0 ≡ record { local = (own handle.0).local; past = l.items }
track_heard layout handle later l = ap (λ (m : Handle). own m.0) l.to

pub local_heard : (layout : Layout) (handle later : Handle) → Learns layout handle later → (own later.0).local ≡ (own handle.0).local
local_heard layout handle later l = ap (λ (track : Track). track.local) (track_heard layout handle later l)

pub rests_heard : (layout : Layout) (handle later : Handle) → Learns layout handle later → IsResting handle → IsResting later
rests_heard layout handle later l r = subst IsResting (sym l.to) r

pub aware_by : (layout : Layout) (old new : SeatNow) (handle news later : Handle) → Learns layout (hearing handle.0 news.0, handle.1) later → IsTracked layout (own later.0) → old.track ≡ own handle.0 → new.track ≡ own later.0 → IsAware layout old new news.0.heard
aware_by layout old new handle news later l t before after =
    let now : new.track ≡ record { local = (own handle.0).local; past = l.items } = after ∙ track_heard layout (hearing handle.0 news.0, handle.1) later l in
    let past : new.track.past ≡ l.items = ap (λ (track : Track). track.past) now in
    let knows : Opens new.track.past news.0.heard = subst (λ (z : List Item). Opens z news.0.heard) (sym past) l.knows in
    record {
      local = ap (λ (track : Track). track.local) now ∙ ap (λ (track : Track). track.local) (sym before);
      grows = subst (λ (z : List Item). Opens z old.track.past) (sym past) (subst (λ (z : Track). Opens l.items z.past) (sym before) l.grows);
      knows = knows;
      tracked = subst (IsTracked layout) (sym after) t;
      counts = heard_counts layout news.0.heard new.track.past knows;
    }
