-- What a seat has met it met in its past, and records grow.
use Rattle.std.proofs.Common.{List, subst, sym, true, ◌++◌, ◌≡◌}
use Rattle.wfe_core.specs.Locals.{Local}
use Rattle.wfe_core.specs.words.Place.{is_valid}
use Rattle.wfe_core.specs.words.declared.layout.Layout.{Layout}
use Rattle.law_bounds.specs.all.Logs.Records.{IsBeginning}
use Rattle.law_bounds.specs.all.Logs.Versions.{AtMost, counts_of, met_in, seen_in}
use Rattle.law_bounds.proofs.all.Logs.Answered.{pairs_on}
use Rattle.law_bounds.proofs.all.Logs.Grows.{Grows, grows_tells, records_grow}
use Rattle.law_bounds.proofs.all.Records.{logs_meet}
use Rattle.wfe_drive_rule.specs.Rule.{Follows}
use Rattle.wfe_drive_rule.specs.Views.{Track, seat_of}
use Rattle.wfe_drive_rule.specs.history.History.{Item, record_of}
use Rattle.wfe_drive_rule.specs.history.Record.{Past}
use Rattle.wfe_table.specs.Ruled.{HasMet, TablesMeet}

met_at : (layout : Layout) (items : List Item) (track : Track) (l : Local) → is_valid layout ≡ true → l ≡ track.local → AtMost (met_in layout.config.buckets l.log) (counts_of (record_of layout items)) → AtMost (met_in layout.config.buckets track.local.log) (counts_of (record_of layout items))
met_at layout items track l valid e h = subst (λ (k : Local). AtMost (met_in layout.config.buckets k.log) (counts_of (record_of layout items))) e h

has_met : (layout : Layout) (items : List Item) (track : Track) → is_valid layout ≡ true → Follows layout items track → HasMet layout items track
has_met layout items track valid f =
    let then : AtMost (met_in layout.config.buckets track.local.log) (counts_of (record_of layout track.past)) = met_at layout track.past track _ valid f.stood (logs_meet layout track.past (seat_of track) valid) in
    let r : Past = record_of layout track.past in
    let g : Grows r (record_of layout (track.past ++ f.more)) = grows_by layout track.past f.more in
    let grown : Grows r (record_of layout items) = subst (λ (all : List Item). Grows r (record_of layout all)) (sym f.begins) g in
    record {
      met = met_at layout items track _ valid f.stands (logs_meet layout items (seat_of track) valid);
      pairs = λ bucket. pairs_on bucket (seen_in layout.config.buckets bucket track.local.log) r (record_of layout items) grown (then.versions bucket);
    }
  where
    grows_by : (layout : Layout) (items more : List Item) → Grows (record_of layout items) (record_of layout (items ++ more))
    grows_by layout items more =
        let b : IsBeginning (record_of layout items) (record_of layout (items ++ more)) = records_grow layout items more in
        subst (Grows (record_of layout items)) (sym b.cut) (grows_tells b.later (record_of layout items))

pub tables_meet : TablesMeet
tables_meet layout list homes views r = record {
  items = r.items;
  mem = r.mem;
  each = λ id view e place default low. has_met layout r.items _ r.valid (r.tracks id view e place default low);
}
