-- What the rule gives of one handle, and that it goes on where a view changes and no seat does.
use Rattle.std.proofs.Common.{All, List, [], ap, false, length, set, subst, sym, true, ⊎_elim, ℕ, ◌++◌, ◌<◌, ◌∙◌, ◌∷◌, ◌≡◌}
use Rattle.std.proofs.lemmas.List.{append_assoc, length-set, set-get_or}
use Rattle.std.proofs.lemmas.List.Elements.{All-append, All-head}
use Rattle.std.specs.Prelude.{Option, slice_index, slice_set, sum_by, ◌==◌}
use mathlib.Core.Option.{some}
use mathlib.Core.Option.{Option as Home}
use lib.ListN.{get_elem?}
use Rattle.atomic_table.proofs.Lists.{at_set}
use Rattle.wfe_core.specs.words.declared.layout.Layout.{Layout}
use Rattle.wfe_drive_rule.specs.declared.kept.Kept.{Kept}
use Rattle.wfe_drive_cells.specs.Memory.{memory}
use Rattle.law_reuse.specs.history.History.{Item, world_of}
use Rattle.wfe_drive_rule.specs.Rule.{Follows, IsHere, IsHome, NoneOf, Opens, Rules, had, item_seat, taken, times}
use Rattle.wfe_drive_rule.specs.Views.{Track, View, own, seat_of}
use Rattle.wfe_drive_rule.proofs.Numbers.{Alike, numbers_set}
use Rattle.wfe_drive_rule.proofs.Sums.{sum_same}

-- items of none of a seat's, one after another
pub none_then : (seat : ℕ) (items later : List Item) → NoneOf seat items → NoneOf seat later → NoneOf seat (items ++ later)
none_then seat items later a b = All-append (λ item. (seat == item_seat item) ≡ false) items later a b

-- first items of a history are those of a longer one
pub opens_on : (items later past : List Item) → Opens items past → Opens (items ++ later) past
opens_on items later past o = (o.0 ++ later, ap (λ (z : List Item). z ++ later) o.1 ∙ append_assoc past o.0 later)

-- a track of a longer history
pub follows_on : (layout : Layout) (items later : List Item) (track : Track) → NoneOf (seat_of track) later → Follows layout items track → (world_of layout (items ++ later)).seat (seat_of track) ≡ (world_of layout items).seat (seat_of track) → Follows layout (items ++ later) track
follows_on layout items later track none f e = record {
  more = f.more ++ later;
  begins = ap (λ (z : List Item). z ++ later) f.begins ∙ append_assoc track.past f.more later;
  alone = none_then (seat_of track) f.more later f.alone none;
  stood = f.stood;
  stands = e ∙ f.stands;
}

-- the own seat of a handle of one seat
pub follows_own : (layout : Layout) (list : List ℕ) (homes : List (Home (Option Kept))) (views : List View) (id : ℕ) (v : View) (r : Rules layout list homes views) → get_elem? views id ≡ some v → v.tracks ≡ own v ∷ [] → Follows layout r.items (own v)
follows_own layout list homes views id v r e one = All-head (Follows layout r.items) (own v) [] (subst (All (Follows layout r.items)) one (r.tracks id v e))

-- a load leaves the words
pub same_words : (list : List ℕ) → slice_set list 0 (slice_index list 0) ≡ list
same_words list = set-get_or list 0 0

-- a view has the same seats, which stand as they did, and slots may have moved
pub rules_again : (layout : Layout) (list : List ℕ) (homes later : List (Home (Option Kept))) (views : List View) (id : ℕ) (v w : View) (r : Rules layout list homes views) → get_elem? views id ≡ some v → Alike v w → All (Follows layout r.items) w.tracks
    → Opens r.items w.heard → (w.holds ≡ true → All (IsHere (world_of layout r.items)) w.tracks)
    → ((seat : ℕ) → seat < layout.config.seats → sum_by (taken seat) (set views id w) ≡ 0 → IsHome layout (world_of layout r.items) later seat)
    → Rules layout (slice_set list 0 (slice_index list 0)) later (set views id w)
rules_again layout list homes later views id v w r e alike follow opens here home = record {
  valid = r.valid;
  count = length-set list 0 (slice_index list 0) ∙ r.count;
  items = r.items;
  mem = r.mem ∙ ap (memory layout) (sym (same_words list));
  tracks = λ j u g. ⊎_elim (λ q. subst (λ (z : View). All (Follows layout r.items) z.tracks) q.1 follow) (λ q. r.tracks j u q.1) (at_set views id j w u g);
  heard = λ j u g. ⊎_elim (λ q. subst (λ (z : View). Opens r.items z.heard) q.1 opens) (λ q. r.heard j u q.1) (at_set views id j w u g);
  unmade = λ seat z. r.unmade seat (sym (sum_same (had seat) views id v w e (alike.had_is seat)) ∙ z);
  none = λ seat z. r.none seat (sym (sum_same (had seat) views id v w e (alike.had_is seat)) ∙ z);
  made = r.made;
  numbers = numbers_set layout views id v w r.made e alike r.numbers;
  here = λ j u g h. ⊎_elim (λ q. subst (λ (z : View). All (IsHere (world_of layout r.items)) z.tracks) q.1 (here (ap (λ (z : View). z.holds) q.1 ∙ h))) (λ q. r.here j u q.1 h) (at_set views id j w u g);
  home = home;
}

-- a view says the same of its seats, and slots may have moved
pub rules_set : (layout : Layout) (list : List ℕ) (homes later : List (Home (Option Kept))) (views : List View) (id : ℕ) (v w : View) (r : Rules layout list homes views) → get_elem? views id ≡ some v → w.made ≡ v.made → w.tracks ≡ v.tracks
    → w.heard ≡ v.heard → (w.holds ≡ true → All (IsHere (world_of layout r.items)) w.tracks)
    → ((seat : ℕ) → seat < layout.config.seats → sum_by (taken seat) (set views id w) ≡ 0 → IsHome layout (world_of layout r.items) later seat)
    → Rules layout (slice_set list 0 (slice_index list 0)) later (set views id w)
rules_set layout list homes later views id v w r e made tracks heard here home =
    let alike : Alike v w = record { made = made; size_is = ap length tracks; had_is = λ seat. ap (times seat) tracks } in
    rules_again layout list homes later views id v w r e alike (subst (All (Follows layout r.items)) (sym tracks) (r.tracks id v e)) (subst (Opens r.items) (sym heard) (r.heard id v e)) here home
