-- A row that stands is taken, and what its guard publishes keeps its life.
use Rattle.std.proofs.Common.{ℕ, ◌≡◌, ◌≤◌, true, refl, ◌∙◌, arith}
use Rattle.std.proofs.lemmas.Bool.Decides.{nat_tests}
use Rattle.std.specs.Prelude.{nat_le}
use Rattle.inv_all.specs.rows.Agree.{Agree, claim_of}
use Rattle.inv_all.specs.rows.Rows.{Status, View, is_taken, retire_in}
use Rattle.inv_all.specs.covers.Covers.{shown}
use Rattle.inv_all.specs.model.Guards.{own_guard}
use Rattle.inv_all.specs.history.History.{world_of}
use Rattle.inv_all.proofs.Inv.Reached.{inv_reached}
use Rattle.law_reuse.specs.Holds.{StandsShown, AlwaysShown}
use Rattle.inv_all.proofs.Inv.Rows.{settled_life}
use Rattle.law_reuse.proofs.Holding.Holds.{settled_taken, stored_keeps}
use Rattle.inv_all.proofs.model.Facts.{words_below}

taken_bit : (slots s : ℕ) (x : Status) → is_taken x ≡ true → s ≤ slots → claim_of slots x s ≡ 1
taken_bit slots s x h m = let b : nat_le s slots ≡ true = grind (arith, nat_tests) in rw b (rw h refl)

pub stands_shown : StandsShown
stands_shown w k j s a e =
    let t = a.known in
    let v : View = a.rows in
    let g : Agree w v = t.whole.both.rows in
    let c = (t.held.stood k j s e).covers in
    let m = g.good.inside s (settled_taken (v.status s) c.settled) in
    record {
      birth = v.birth s;
      retire = retire_in (v.status s);
      life = g.words.lives s (settled_life (v.status s) c.settled);
      kept = stored_keeps s (v.birth s) (v.status s) (shown w (own_guard w.layout.config.scheme k j)) c.kept;
      taken = g.words.claims s (words_below s w.layout.config.slots m) ∙ taken_bit w.layout.config.slots s (v.status s) (settled_taken (v.status s) c.settled) m;
    }

pub always_shown : AlwaysShown
always_shown layout items k j s d e = stands_shown (world_of layout items) k j s (inv_reached layout items d) e
