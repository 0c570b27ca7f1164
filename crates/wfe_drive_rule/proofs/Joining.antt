-- One handle takes in another.
use Rattle.std.proofs.Common.{All, List, ap, arith, false, refl, set, subst, sym, ⊎_elim, ℕ, ◌+◌, ◌∙◌, ◌≡◌}
use Rattle.std.proofs.lemmas.List.Elements.{All-append, All-nil}
use mathlib.Core.Option.{some}
use lib.ListN.{get_elem?}
use Rattle.atomic_table.specs.Table.{Joins}
use Rattle.atomic_table.proofs.Lists.{at_set, set_else}
use Rattle.wfe_core.specs.words.declared.layout.Layout.{Layout}
use Rattle.wfe_drive_rule.specs.Moves.{taken_in}
use Rattle.wfe_drive_rule.specs.Rule.{ByNumber, Follows, Opens, had, taken}
use Rattle.wfe_drive_rule.specs.Views.{View, spent}
use Rattle.wfe_drive_rule.proofs.Slots.{held_none}
use Rattle.wfe_drive_rule.proofs.Numbers.{had-taken_in, marking-taken_in, numbers_joined, sum_joined}

pub joins : (layout : Layout) (id other : ℕ) (v w : View) → v.holds ≡ false → w.holds ≡ false → Joins (ByNumber layout) id v other w (taken_in v w) spent
joins layout id other v w bare bare_too s r e ne g =
    let u : View = taken_in v w in
    let us : List View = set s.views id u in
    let f : get_elem? s.views other ≡ some w = sym (set_else s.views id other u ne) ∙ g in
    let both : All (Follows layout r.items) u.tracks = All-append (Follows layout r.items) v.tracks w.tracks (r.tracks id v e) (r.tracks other w f) in
    let taken_both : (seat : ℕ) → taken seat u ≡ taken seat v + taken seat w = (λ seat. omega (arith, held_none seat v bare, held_none seat w bare_too, held_none seat u refl, marking-taken_in seat v w)) in
    record {
      valid = r.valid;
      count = r.count;
      items = r.items;
      mem = r.mem;
      tracks = λ j z h. ⊎_elim (λ q. subst (λ (z : View). All (Follows layout r.items) z.tracks) q.1 (All-nil (Follows layout r.items)))
          (λ q. ⊎_elim (λ p. subst (λ (z : View). All (Follows layout r.items) z.tracks) p.1 both) (λ p. r.tracks j z p.1) (at_set s.views id j u z q.1)) (at_set us other j spent z h);
      heard = λ j z h. ⊎_elim (λ q. subst (λ (z : View). Opens r.items z.heard) q.1 (r.items, refl))
          (λ q. ⊎_elim (λ p. subst (λ (z : View). Opens r.items z.heard) p.1 (r.items, refl)) (λ p. r.heard j z p.1) (at_set s.views id j u z q.1)) (at_set us other j spent z h);
      unmade = λ seat z. r.unmade seat (sym (sum_joined (had seat) s.views id other v w refl (had-taken_in seat v w) e g) ∙ z);
      none = λ seat z. r.none seat (sym (sum_joined (had seat) s.views id other v w refl (had-taken_in seat v w) e g) ∙ z);
      made = r.made;
      numbers = numbers_joined layout s.views id other v w r.made ne e f g r.numbers;
      here = λ j z h on. ⊎_elim (λ q. absurd (cc (ap (λ (x : View). x.holds) q.1 ∙ on)))
          (λ q. ⊎_elim (λ p. absurd (cc (ap (λ (x : View). x.holds) p.1 ∙ on))) (λ p. r.here j z p.1 on) (at_set s.views id j u z q.1)) (at_set us other j spent z h);
      home = λ seat low z. r.home seat low (sym (sum_joined (taken seat) s.views id other v w refl (taken_both seat) e g) ∙ z);
    }
