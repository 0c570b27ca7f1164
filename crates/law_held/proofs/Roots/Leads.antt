-- Where roots lead by the record of a history is where their words lead.
use Rattle.std.proofs.Common.{ℕ, ◌≡◌, ◌<◌, ◌+◌, true, false, List, refl, sym, ap, ◌∙◌, subst}
use Rattle.law_scans.specs.inv.model.words.Place.{Place, is_valid}
use Rattle.law_scans.specs.inv.model.words.Place.Place.{Head, Tail, Bucket}
use Rattle.law_scans.specs.inv.model.words.declared.layout.Layout.{Layout}
use Rattle.law_scans.specs.inv.model.defs.declared.call.Call.{Call}
use Rattle.law_scans.specs.inv.model.World.{World, is_busy, step, told_in, list_in, may_start}
use Rattle.law_scans.specs.inv.history.History.{Item, Begins, Steps, Made, done, first_made, record_of, world_of}
use Rattle.law_scans.proofs.reuse.history.Along.{Steady, items_keep}
use Rattle.law_scans.specs.inv.Known.{Known}
use Rattle.law_scans.proofs.inv.Inv.Begun.{known_start, known_begin}
use Rattle.law_scans.proofs.inv.Inv.Kept.{known_kept, asked_next}
use Rattle.law_scans.specs.laws.records.Record.{Past, tells_of}
use Rattle.law_scans.specs.laws.StateAt.{tail_by, tail_at, bucket_at, head_at}
use Rattle.law_scans.proofs.Placing.Comes.{agree_of}
use Rattle.law_scans.proofs.Ordering.Nexts.{tail_moved}
use Rattle.law_scans.proofs.Ordering.Ordered.{word_of, Roots, roots_step, whole_comes}
use Rattle.law_scans.specs.inv.requests.Views.{View as Asked}
use Rattle.law_scans.proofs.inv.requests.Kept.{requests_begin, requests_start}
use Rattle.law_scans.specs.inv.rows.Agree.{first_rows, rows_after}
use Rattle.law_scans.specs.inv.rows.Chain.{first_line, line_after}
use Rattle.law_scans.specs.inv.rows.Queue.{Line}
use Rattle.law_scans.specs.inv.rows.Rows.{View}
use Rattle.law_scans.proofs.Ordering.Linked.{here_of, tail_end, tail_still}

pub record Leads (slots : ℕ) (mem : Place → ℕ) (p : Past) : Type 0 where
  pub buckets : (b : ℕ) → word_of (bucket_at b p) ≡ mem (Bucket b)
  pub head : head_at slots p + 1 ≡ mem Head
  pub tail : tail_at slots p + 1 ≡ mem Tail

-- what a history keeps
record LeadsKept (layout : Layout) (made : Made) : Type 0 where
  table : made.world.layout ≡ layout
  rows : View
  line : Line
  asked : Asked
  known : Known made.world rows line asked
  roots : Roots layout.config.slots rows made.past
  tail : tail_at made.world.layout.config.slots made.past + 1 ≡ made.world.mem Tail

tail_step : (w : World) (i : ℕ) (v : View) (l : Line) (z : Asked) (p : Past) → Known w v l z → tail_at w.layout.config.slots p + 1 ≡ w.mem Tail → tail_at w.layout.config.slots (tells_of p i (told_in w i)) + 1 ≡ (step w i).mem Tail
tail_step w i v l z p k h =
    ap (λ (n : ℕ). n + 1) (whole_comes tail_by (tail_at w.layout.config.slots) w i p (λ q event. refl) tail_still tail_end)
    ∙ tail_moved w.layout.config.slots i w.mem v l (w.seat i).phase (w.seat i).post (list_in w i) (tail_at w.layout.config.slots p) (here_of w i v l z k) h

begin_kept : (layout : Layout) (made : Made) (i : ℕ) (call : Call) → is_busy made.world i ≡ false → may_start made.world i call ≡ true → LeadsKept layout made → LeadsKept layout (done made (Begins i call))
begin_kept layout made i call f m g =
    let k = g.known in
    let q = requests_begin made.world i call g.asked k.valid f k.seats k.requests in
    record {
      table = g.table;
      rows = g.rows;
      line = g.line;
      asked = q.0;
      known = known_begin made.world i call g.rows g.line g.asked q.0 f m k q.1.facts q.1.deal;
      roots = record { buckets = g.roots.buckets; head = g.roots.head };
      tail = g.tail;
    }

step_kept : (layout : Layout) (made : Made) (i : ℕ) → i < made.world.layout.config.seats → LeadsKept layout made → LeadsKept layout (done made (Steps i))
step_kept layout made i b g =
    let w : World = made.world in
    let q = asked_next w i g.rows g.line g.asked b g.known in
    record {
      table = g.table;
      rows = rows_after w i g.rows;
      line = line_after w i g.line;
      asked = q.0;
      known = known_kept w i g.rows g.line g.asked q.0 b g.known q.1.facts q.1.deal;
      roots = roots_step layout.config.slots w i g.rows made.past (agree_of w g.rows g.line g.asked g.known) g.roots;
      tail = tail_step w i g.rows g.line g.asked made.past g.known g.tail;
    }

steady : (layout : Layout) → Steady (LeadsKept layout)
steady layout = record { begins = λ made i call b y m g. begin_kept layout made i call y m g; steps = λ made i b y g. step_kept layout made i b g }

first_kept : (layout : Layout) → is_valid layout ≡ true → LeadsKept layout (first_made layout)
first_kept layout d =
    let q = requests_start layout d in
    record {
      table = refl;
      rows = first_rows layout;
      line = first_line layout;
      asked = q.0;
      known = known_start layout q.0 d q.1.facts q.1.deal;
      roots = record { buckets = λ b. refl; head = refl };
      tail = refl;
    }

pub leads_of : (layout : Layout) (path : List Item) → is_valid layout ≡ true → Leads layout.config.slots (world_of layout path).mem (record_of layout path)
leads_of layout path d =
    let g = items_keep (LeadsKept layout) (steady layout) path (first_made layout) (first_kept layout d) in
    let a = agree_of (world_of layout path) g.rows g.line g.asked g.known in
    record {
      buckets = λ b. g.roots.buckets b ∙ sym (a.words.roots b);
      head = g.roots.head ∙ sym a.words.head;
      tail = subst (λ (x : Layout). tail_at x.config.slots (record_of layout path) + 1 ≡ (world_of layout path).mem Tail) g.table g.tail;
    }
