-- Where the next links of the queue's rows lead by the record is where their words lead.
use Rattle.std.proofs.Common.{ℕ, ◌≡◌, true, None, refl, sym, ap, ◌∙◌, ◌⊎◌, inl, inr}
use Rattle.law_scans.specs.inv.model.words.Place.{has}
use Rattle.law_scans.specs.inv.model.words.Place.Place.{Row}
use Rattle.law_scans.specs.inv.model.words.declared.layout.Layout.{Layout}
use Rattle.law_scans.specs.inv.model.World.{World, start, step, finds, told_in, list_in}
use Rattle.law_scans.proofs.inv.model.Facts.{if_same}
use Rattle.law_scans.specs.inv.requests.Views.{View as Asked}
use Rattle.law_scans.specs.inv.rows.Agree.{first_rows, rows_after}
use Rattle.law_scans.specs.inv.rows.Chain.{first_line, line_after}
use Rattle.law_scans.specs.inv.rows.Queue.{Line}
use Rattle.law_scans.specs.inv.rows.Rows.{View}
use Rattle.law_scans.specs.laws.records.Record.{Past, tells_of}
use Rattle.law_scans.specs.laws.records.Record.Past.{Start}
use Rattle.law_scans.specs.inv.Known.{Known}
use Rattle.law_scans.specs.inv.ends.Told.{move_of}
use Rattle.law_scans.specs.laws.StateAt.{next_at}
use Rattle.law_scans.proofs.Ordering.Nexts.{next_moved}
use Rattle.law_scans.proofs.Ordering.Ordered.{word_of}
use Rattle.law_scans.proofs.Ordering.Linked.{is_new, Joining, lined_by, joins_new, here_of, next_comes, joins_null, join_moved, fresh_step, new_before}

-- what is known of the next links by the record
pub record Nexts (w : World) (v : View) (l : Line) (p : Past) : Type 0 where
  pub next : (s : ℕ) → l.lined s ≡ true → word_of (next_at s p) ≡ w.mem (Row s 0)
  pub fresh : (s : ℕ) → is_new (v.status s) ≡ true → next_at s p ≡ None

next_step : (w : World) (i : ℕ) (v : View) (l : Line) (z : Asked) (p : Past) (s : ℕ) → Known w v l z → Nexts w v l p → (l.lined s ≡ true) ⊎ Joining (w.seat i).phase (finds w i) s → word_of (next_at s (tells_of p i (told_in w i))) ≡ (step w i).mem (Row s 0)
next_step w i v l z p s k g (inl h) =
    ap word_of (next_comes w i p s) ∙ next_moved w.layout.config.slots i w.mem v l (w.seat i).phase (w.seat i).post (list_in w i) s (next_at s p) (here_of w i v l z k) h (g.next s h)
next_step w i v l z p s k g (inr j) =
    let here = here_of w i v l z k in
    let null : w.mem (Row s 0) ≡ 0 = joins_null w.layout.config.slots i w.mem v l (w.seat i).phase (w.seat i).post (list_in w i) s j.kept here j.at in
    let none : next_at s p ≡ None = g.fresh s (joins_new w i v l z s j.kept k j.at) in
    ap word_of (next_comes w i p s)
    ∙ join_moved w.layout.config.slots i w.mem v l (w.seat i).phase (w.seat i).post (list_in w i) s (next_at s p) j.kept here j.at (ap word_of none ∙ sym null)

pub nexts_step : (w : World) (i : ℕ) (v : View) (l : Line) (z : Asked) (p : Past) → Known w v l z → Nexts w v l p → Nexts (step w i) (rows_after w i v) (line_after w i l) (tells_of p i (told_in w i))
nexts_step w i v l z p k g = record {
  next = λ s h. next_step w i v l z p s k g (lined_by (w.seat i).phase (finds w i) l s h);
  fresh = λ s h. fresh_step w i v l z p s k g.fresh (new_before i v (move_of w i) s ((here_of w i v l z k).fits) h);
}

pub nexts_first : (layout : Layout) → Nexts (start layout) (first_rows layout) (first_line layout) Start
nexts_first layout = record { next = λ s h. if_same 0 (has layout (Row s 0)); fresh = λ s h. refl }
