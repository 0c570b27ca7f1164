-- Where one handle has as many seats as there are, it has each.
use Rattle.std.proofs.Common.{All, Bool, List, ap, arith, false, refl, set, sym, true, ℕ, ◌+◌, ◌<◌, ◌∙◌, ◌≡◌, ◌≤◌}
use Rattle.std.proofs.lemmas.Bool.Decides.{nat_tests}
use Rattle.std.proofs.lemmas.List.Elements.{All-contains}
use Rattle.std.proofs.lemmas.List.Sums.{count_by-le-length, sum_by-le-sum_by}
use Rattle.std.specs.Prelude.{Option, if◌then◌else◌, nat_lt, sum_by, ◌==◌}
use mathlib.Core.Option.{some}
use mathlib.Core.Option.{Option as Home}
use lib.ListN.{get_elem?}
use Rattle.wfe_core.specs.words.declared.layout.Layout.{Layout}
use Rattle.wfe_core.specs.defs.declared.call.Call.{Call}
use Rattle.wfe_drive_rule.specs.declared.kept.Kept.{Kept}
use Rattle.wfe_core.specs.Locals.{Local, busy_in}
use Rattle.wfe_core.specs.World.{is_busy}
use Rattle.law_reuse.specs.history.History.{world_of}
use Rattle.law_reuse.proofs.inv.Inv.Reached.{inv_reached}
use Rattle.wfe_drive_rule.specs.Ended.{HandlesEnd, SharedRule}
use Rattle.wfe_drive_rule.specs.Handles.{IsIdle}
use Rattle.wfe_drive_rule.specs.Rule.{Follows, Rules, had, size}
use Rattle.wfe_drive_rule.specs.Views.{Track, View, seat_of, spent}
use Rattle.wfe_drive_rule.proofs.Sums.{Among, among, sum_out}

pub shared_rule : SharedRule
shared_rule layout list homes views r = record { items = r.items; inv = inv_reached layout r.items r.valid; mem = r.mem; tracks = r.tracks; unmade = r.unmade; made = r.made; numbers = r.numbers }

-- the handle's seats are all that were made, and all that there are
record HasAll (layout : Layout) (views : List View) (v : View) : Type 0 where
  all : size v ≡ layout.config.seats
  had_is : (seat : ℕ) → had seat v ≡ sum_by (had seat) views
  once : (seat : ℕ) → had seat v ≡ (if nat_lt seat layout.config.seats then 1 else 0)

has_all : (layout : Layout) (list : List ℕ) (homes : List (Home (Option Kept))) (views : List View) (id : ℕ) (v : View) → Rules layout list homes views → get_elem? views id ≡ some v → layout.config.seats ≤ size v → HasAll layout views v
has_all layout list homes views id v r e most =
    let n = r.numbers in
    let out : sum_by size (set views id spent) + size v ≡ sum_by size views = sum_out size views id v refl e in
    let none : sum_by size (set views id spent) ≡ 0 = omega (arith, out, n.all, n.most, most) in
    let made : r.made ≡ layout.config.seats = omega (arith, out, n.all, n.most, most) in
    let least : (seat : ℕ) → sum_by (had seat) (set views id spent) ≤ sum_by size (set views id spent) = (λ seat. sum_by-le-sum_by (had seat) size (set views id spent) (λ w. count_by-le-length (λ (x : Track). seat_of x == seat) w.tracks)) in
    let had_is : (seat : ℕ) → had seat v ≡ sum_by (had seat) views = (λ seat. omega (arith, least seat, none, sum_out (had seat) views id v refl e)) in
    record {
      all = omega (arith, out, n.all, n.most, most);
      had_is = had_is;
      once = λ seat. had_is seat ∙ n.once seat ∙ ap (λ (k : ℕ). if nat_lt seat k then 1 else 0) made;
    }

one_below : (seat seats n : ℕ) → seat < seats → n ≡ (if nat_lt seat seats then 1 else 0) → 1 ≤ n
one_below seat seats n low e = let w : nat_lt seat seats ≡ true = grind (arith, nat_tests) in omega (arith, e ∙ ap (λ (b : Bool). if b then 1 else 0) w)

none_above : (seat seats n : ℕ) → nat_lt seat seats ≡ false → n ≡ (if nat_lt seat seats then 1 else 0) → n ≡ 0
none_above seat seats n high e = e ∙ ap (λ (b : Bool). if b then 1 else 0) high

pub handles_end : HandlesEnd
handles_end layout list homes views id v r e most idle = record {
  valid = r.valid;
  count = r.count;
  items = r.items;
  mem = r.mem;
  idle = λ seat. rests seat (nat_lt seat layout.config.seats) refl;
  follow = follow;
  all = h.all;
  once = h.once;
  seats = λ seat low. let a = found seat low in (a.track, a.there, a.seat_is);
}
  where
    h : HasAll layout views v
    h = has_all layout list homes views id v r e most

    follow : All (Follows layout r.items) v.tracks
    follow = r.tracks id v e

    found : (seat : ℕ) → seat < layout.config.seats → Among seat v.tracks
    found seat low = among seat v.tracks (one_below seat layout.config.seats (had seat v) low (h.once seat))

    rests : (seat : ℕ) (b : Bool) → nat_lt seat layout.config.seats ≡ b → is_busy (world_of layout r.items) seat ≡ false
    rests seat true q =
        let low : seat < layout.config.seats = grind (arith, nat_tests) in
        let a = found seat low in
        let f : Follows layout r.items a.track = All-contains (Follows layout r.items) v.tracks a.track follow a.there in
        let b : IsIdle a.track = All-contains IsIdle v.tracks a.track idle a.there in
        ap (λ k. is_busy (world_of layout r.items) k) (sym a.seat_is) ∙ ap (λ (l : Local). busy_in l.phase) f.stands ∙ b
    rests seat false q =
        let none : sum_by (had seat) views ≡ 0 = sym (h.had_is seat) ∙ none_above seat layout.config.seats (had seat v) q (h.once seat) in
        ap (λ (l : Local). busy_in l.phase) (r.unmade seat none)
