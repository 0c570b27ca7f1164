-- One step of the table is one item of the history, or two where a call begins: once for all operations.
use Rattle.std.proofs.Common.{All, Bool, List, [], ap, ap₂, false, length, refl, set, subst, sym, true, ⊎_elim, ℕ, ◌++◌, ◌<◌, ◌∙◌, ◌∷◌, ◌≡◌}
use Rattle.std.proofs.lemmas.List.{append-nil, append_assoc, length-set}
use Rattle.std.proofs.lemmas.List.Elements.{All-cons, All-nil}
use Rattle.std.specs.Prelude.{None, Option, Some, if◌then◌else◌, nat_lt, not, slice_index, sum_by, ◌&&◌, ◌==◌, ◌||◌}
use mathlib.Core.Option.{some}
use mathlib.Core.Option.{Option as Home}
use lib.ListN.{get_elem?}
use Rattle.atomic_table.specs.Table.{Act, Allows, State, Valid, carried_after, homes_after}
use Rattle.atomic_table.proofs.Lists.{at_set}
use Rattle.wfe_core.specs.words.Place.{Place, is_valid, words}
use Rattle.wfe_core.specs.words.Place.Place.{PlaceOf}
use Rattle.wfe_core.specs.defs.declared.lifetime.Lifetime.{Lifetime}
use Rattle.wfe_core.specs.words.declared.layout.Layout.{Layout}
use Rattle.wfe_core.specs.defs.declared.call.Call.{Call}
use Rattle.wfe_drive_rule.specs.declared.kept.Kept.{Kept}
use Rattle.wfe_core.specs.Frames.{SamePlace}
use Rattle.wfe_core.specs.Locals.{Local, after, asks, begun, busy_in, may_begin, turn}
use Rattle.wfe_core.specs.MayStep.{MayStep}
use Rattle.wfe_core.specs.World.{World, begin, finds, is_busy, is_here, list_in, offered, step}
use Rattle.wfe_core.proofs.CallFrames.{stays_in_place}
use Rattle.wfe_core.proofs.Facts.{both}
use Rattle.wfe_drive_cells.specs.Bridge.{AsksWithin, MakesSteps}
use Rattle.wfe_drive_cells.specs.Memory.{memory}
use Rattle.wfe_drive_cells.specs.Operations.{answered, changed, performed, word_in}
use Rattle.wfe_drive_cells.proofs.Steps.{makes_step}
use Rattle.law_reuse.specs.history.History.{Begins, Item, Steps, made_of, world_of}
use Rattle.law_reuse.specs.inv.Places.{PlaceMoves, PlaceShows, is_leaving, placed, takes_over}
use Rattle.law_reuse.specs.inv.ends.Told.{move_of}
use Rattle.law_reuse.proofs.AnswersTold.Answering.{Keeps, answers_kept}
use Rattle.law_reuse.proofs.AnswersTold.Owed.{Serves}
use Rattle.law_reuse.proofs.inv.Inv.Places.{inv_place_moves, inv_places}
use Rattle.law_reuse.proofs.inv.Inv.Reached.{reached_ready}
use Rattle.law_reuse.proofs.inv.requests.Turns.{upd_here, upd_there}
use Rattle.wfe_drive_rule.specs.Handles.{IsHeld, IsTracked, MayStart}
use Rattle.wfe_drive_rule.specs.Moves.{Told}
use Rattle.wfe_drive_rule.specs.Rule.{ByNumber, Follows, IsHere, IsHome, NoneOf, Opens, had, item_seat, taken}
use Rattle.wfe_drive_rule.specs.Spots.{slot_at}
use Rattle.wfe_drive_rule.specs.Views.{Handle, Track, View, call_in, entered, entry, own, seat_of, slot_left, standing}
use Rattle.wfe_drive_rule.proofs.Here.{seats_there, settled_call}
use Rattle.wfe_drive_rule.proofs.Numbers.{Alike, numbers_set}
use Rattle.wfe_drive_rule.proofs.Rules.{follows_on, follows_own, none_then, opens_on}
use Rattle.wfe_drive_rule.proofs.Slots.{had_alike, other_views, unmade_apart}
use Rattle.law_reuse.proofs.history.Snoc.{layout_is, one_begin, one_step}
use Rattle.wfe_drive_rule.proofs.Sums.{All-apart, sum_same}

-- the history in which the seat's call has begun
pub record Entered (layout : Layout) (items later : List Item) (i : ℕ) (l : Local) : Type 0 where
  pub mem : (world_of layout (items ++ later)).mem ≡ (world_of layout items).mem
  pub own_is : (world_of layout (items ++ later)).seat i ≡ l
  pub others : (k : ℕ) → (k == i) ≡ false → (world_of layout (items ++ later)).seat k ≡ (world_of layout items).seat k

pub enters : (layout : Layout) (items : List Item) (i : ℕ) (l : Local) (call : Option Call) → is_valid layout ≡ true → i < layout.config.seats → ((c : Call) → call ≡ Some c → MayStart layout l c) → (world_of layout items).seat i ≡ l
    → Entered layout items (entry i call) i (entered l call)
enters layout items i l None d h free e =
    let same : world_of layout (items ++ []) ≡ world_of layout items = ap (world_of layout) (append-nil items) in
    record { mem = ap (λ (w : World). w.mem) same; own_is = ap (λ (w : World). w.seat i) same ∙ e; others = λ k q. ap (λ (w : World). w.seat k) same }
enters layout items i l (Some call) d h free e =
    let w : World = world_of layout items in
    let may : MayStart layout l call = free call refl in
    let idle : is_busy w i ≡ false = ap (λ (k : Local). busy_in k.phase) e ∙ may.idle in
    let here : is_here w i ≡ true = seats_there layout items d i idle (λ c. may.there (ap (λ (k : Local). k.call) (sym e) ∙ c)) in
    let begins : may_begin w.layout.config call ≡ true = ap (λ (table : Layout). may_begin table.config call) (layout_is layout items) ∙ may.may in
    let now : world_of layout (items ++ Begins i call ∷ []) ≡ begin w i call = one_begin layout items i call h idle (both (is_here w i) (may_begin w.layout.config call) here begins) in
    record {
      mem = ap (λ (v : World). v.mem) now;
      own_is = ap (λ (v : World). v.seat i) now ∙ upd_here w.seat i (begun (w.seat i) call) ∙ ap (λ (k : Local). begun k call) e;
      others = λ k q. ap (λ (v : World). v.seat k) now ∙ upd_there w.seat i (begun (w.seat i) call) k q;
    }

-- a call that begins leaves a seat in its place
pub entered_same : (l : Local) (call : Option Call) → SamePlace l.post (entered l call).post
entered_same l None = record { layout = refl; seat = refl }
entered_same l (Some call) = stays_in_place.begins l call

-- where a seat of a history stands, its operation is on a word of the table
pub asks_within : (layout : Layout) (items : List Item) (i : ℕ) (l : Local) → is_valid layout ≡ true → i < layout.config.seats → l.post.layout ≡ layout → (world_of layout items).seat i ≡ l → AsksWithin (world_of layout items) i
asks_within layout items i l valid low table e =
    let may : MayStep (world_of layout items) i = reached_ready layout items i valid low in
    record { layout = ap (λ (k : Local). k.post.layout) e ∙ table ∙ sym (layout_is layout items); there = may.there }

-- the World before a step of the seat, and after it
pub record Went (layout : Layout) (items : List Item) (i : ℕ) (l : Local) (list : List ℕ) : Type 0 where
  pub found : answered list (asks l) ≡ finds (world_of layout items) i
  pub mem : (world_of layout (items ++ Steps i ∷ [])).mem ≡ memory layout (performed list (asks l))
  pub count : length (performed list (asks l)) ≡ words layout
  pub own_is : (world_of layout (items ++ Steps i ∷ [])).seat i ≡ after (offered (world_of layout items) i) (answered list (asks l))
  pub others : (k : ℕ) → (k == i) ≡ false → (world_of layout (items ++ Steps i ∷ [])).seat k ≡ (world_of layout items).seat k

went : (layout : Layout) (items : List Item) (i : ℕ) (l : Local) (list : List ℕ) → is_valid layout ≡ true → i < layout.config.seats → l.post.layout ≡ layout → busy_in l.phase ≡ true → (world_of layout items).seat i ≡ l
    → (world_of layout items).mem ≡ memory layout list → length list ≡ words layout → Went layout items i l list
went layout items i l list valid low table busy e mem count =
    let w : World = world_of layout items in
    let is : w.layout ≡ layout = layout_is layout items in
    let m : MakesSteps w i list = makes_step w i list (mem ∙ ap (λ (t : Layout). memory t list) (sym is)) (count ∙ ap words (sym is)) (asks_within layout items i l valid low table e) in
    let now : world_of layout (items ++ Steps i ∷ []) ≡ step w i = one_step layout items i low (ap (λ (k : Local). busy_in k.phase) e ∙ busy) in
    let found : answered list (asks l) ≡ finds w i = ap (λ (k : Local). answered list (asks k)) (sym e) ∙ m.answers in
    record {
      found = found;
      mem = ap (λ (v : World). v.mem) now ∙ sym m.performs ∙ ap (λ (t : Layout). memory t (performed list (asks (w.seat i)))) is ∙ ap (λ (k : Local). memory layout (performed list (asks k))) e;
      count = length-set list (word_in (asks l)) (changed (asks l) (slice_index list (word_in (asks l)))) ∙ count;
      own_is = ap (λ (v : World). v.seat i) now ∙ upd_here w.seat i (after (offered w i) (finds w i)) ∙ ap (after (offered w i)) (sym found);
      others = λ k q. ap (λ (v : World). v.seat k) now ∙ upd_there w.seat i (after (offered w i) (finds w i)) k q;
    }

-- the history with the call of the handle's slot begun, and with the step after that
abbrev pub now_of : List Item → Handle → List Item
now_of items handle = items ++ entry (seat_of (own handle.0)) (call_in handle.1)

abbrev pub next_of : List Item → Handle → List Item
next_of items handle = now_of items handle ++ Steps (seat_of (own handle.0)) ∷ []

-- the seat after the step, and its handle's view
abbrev pub local_after : Layout → List Item → Handle → ℕ → Local
local_after layout items handle found = after (offered (world_of layout (now_of items handle)) (seat_of (own handle.0))) found

abbrev pub view_after : Layout → List Item → Handle → ℕ → (holds : Bool) → View
view_after layout items handle found holds =
    record { made = handle.0.made; tracks = (record { local = local_after layout items handle found; past = next_of items handle }) ∷ []; holds = holds; heard = handle.0.heard }

-- what is known of a step of a handle's seat
pub record Going (layout : Layout) (list : List ℕ) (items : List Item) (handle : Handle) : Type 0 where
  pub entered : Entered layout items (entry (seat_of (own handle.0)) (call_in handle.1)) (seat_of (own handle.0)) (standing handle)
  pub went : Went layout (now_of items handle) (seat_of (own handle.0)) (standing handle) list
  pub steps : world_of layout (next_of items handle) ≡ step (world_of layout (now_of items handle)) (seat_of (own handle.0))
  pub moves : (k : ℕ) → PlaceMoves (world_of layout (now_of items handle)) (seat_of (own handle.0)) k
  pub shows : (k : ℕ) → PlaceShows (world_of layout (now_of items handle)) k
  pub lists : (k : ℕ) → (k == seat_of (own handle.0)) ≡ false → list_in (world_of layout (now_of items handle)) k ≡ list_in (world_of layout items) k
  pub serves : Serves (standing handle).call (standing handle).phase
  pub serves_on : busy_in (local_after layout items handle (answered list (asks (standing handle)))).phase ≡ true
      → Serves (local_after layout items handle (answered list (asks (standing handle)))).call (local_after layout items handle (answered list (asks (standing handle)))).phase
  pub same_call : (local_after layout items handle (answered list (asks (standing handle)))).call ≡ (standing handle).call

going : (layout : Layout) (list : List ℕ) (items : List Item) (handle : Handle) → IsHeld layout handle → busy_in (standing handle).phase ≡ true → (world_of layout items).seat (seat_of (own handle.0)) ≡ (own handle.0).local
    → (world_of layout items).mem ≡ memory layout list → length list ≡ words layout → Going layout list items handle
going layout list items handle held busy stands mem count =
    let x : Track = own handle.0 in
    let i : ℕ = seat_of x in
    let l : Local = standing handle in
    let t : IsTracked layout x = held.tracked in
    let n : Entered layout items (entry i (call_in handle.1)) i l = enters layout items i x.local (call_in handle.1) t.valid t.seat held.begins stands in
    let table : l.post.layout ≡ layout = (entered_same x.local (call_in handle.1)).layout ∙ t.layout_is in
    let w : World = world_of layout (now_of items handle) in
    let b : is_busy w i ≡ true = ap (λ (k : Local). busy_in k.phase) n.own_is ∙ busy in
    let kept : Keeps layout.config.buckets (made_of layout (now_of items handle)) = answers_kept layout (now_of items handle) t.valid in
    let later : Keeps layout.config.buckets (made_of layout (next_of items handle)) = answers_kept layout (next_of items handle) t.valid in
    let right = kept.seats i in
    let right_on = later.seats i in
    let went_on : Went layout (now_of items handle) i l list = went layout (now_of items handle) i l list t.valid t.seat table busy n.own_is (n.mem ∙ mem) count in
    let found : ℕ = answered list (asks l) in
    record {
      entered = n;
      went = went_on;
      steps = one_step layout (now_of items handle) i t.seat b;
      moves = λ k. inv_place_moves w i k b kept.known;
      shows = λ k. inv_places w k kept.known;
      lists = λ k q. ap₂ (λ (m : Place → ℕ) (other : Local). let own_list : List Lifetime = if nat_lt 1 (m (PlaceOf k)) then [] else other.desk.list in own_list) n.mem (n.others k q);
      serves = subst (λ (k : Local). Serves k.call k.phase) n.own_is (right.serves b);
      serves_on = λ h. subst (λ (k : Local). Serves k.call k.phase) went_on.own_is (right_on.serves (ap (λ (k : Local). busy_in k.phase) went_on.own_is ∙ h));
      same_call = settled_call (offered w i) (turn (offered w i) found) ∙ ap (λ (k : Local). k.call) n.own_is;
    }

-- the own track after the step
pub same_seat : (layout : Layout) (items : List Item) (handle : Handle) (found : ℕ) → (world_of layout (now_of items handle)).seat (seat_of (own handle.0)) ≡ standing handle → (local_after layout items handle found).post.seat ≡ seat_of (own handle.0)
same_seat layout items handle found e =
    (stays_in_place.steps (offered (world_of layout (now_of items handle)) (seat_of (own handle.0))) found).seat ∙ ap (λ (k : Local). k.post.seat) e ∙ (entered_same (own handle.0).local (call_in handle.1)).seat

or_right : (a b : Bool) → (a || b) ≡ false → b ≡ false
or_right true b h = absurd (cc)
or_right false b h = h

-- a slot at home of another seat, whose place word stays, is at home after the step
pub home_stays : (layout : Layout) (list : List ℕ) (items : List Item) (handle : Handle) (homes later : List (Home (Option Kept))) (k : ℕ) → Going layout list items handle → (k == seat_of (own handle.0)) ≡ false
    → placed (seat_of (own handle.0)) (standing handle).phase k ((world_of layout items).mem (PlaceOf k)) ≡ (world_of layout items).mem (PlaceOf k)
    → get_elem? later (slot_at k) ≡ get_elem? homes (slot_at k) → IsHome layout (world_of layout items) homes k → IsHome layout (world_of layout (next_of items handle)) later k
home_stays layout list items handle homes later k g other same there h =
    let i : ℕ = seat_of (own handle.0) in
    let v : World = world_of layout items in
    let w : World = world_of layout (now_of items handle) in
    let m : PlaceMoves w i k = g.moves k in
    let before : w.mem (PlaceOf k) ≡ v.mem (PlaceOf k) = ap (λ (f : Place → ℕ). f (PlaceOf k)) g.entered.mem in
    let stepped_word : (step w i).mem (PlaceOf k) ≡ w.mem (PlaceOf k) =
    m.word ∙ ap₂ (λ (l : Local) (word : ℕ). placed i l.phase k word) g.entered.own_is before ∙ same ∙ sym before in
    let word : (world_of layout (next_of items handle)).mem (PlaceOf k) ≡ v.mem (PlaceOf k) = ap (λ (u : World). u.mem (PlaceOf k)) g.steps ∙ stepped_word ∙ before in
    let lists : (world_of layout (next_of items handle)).mem (PlaceOf k) ≡ 1 → list_in (world_of layout (next_of items handle)) k ≡ list_in v k =
    (λ e.
    let one : nat_lt 1 ((step w i).mem (PlaceOf k)) ≡ false = ap (λ (n : ℕ). nat_lt 1 n) (stepped_word ∙ before ∙ sym word ∙ e) in
    let none : takes_over (move_of w i) k ≡ false = or_right (nat_lt 1 (w.mem (PlaceOf k))) (takes_over (move_of w i) k) (sym m.taken ∙ one) in
    ap (λ (u : World). list_in u k) g.steps ∙ m.other other ∙ ap (λ (b : Bool). let own_list : List Lifetime = if b then [] else list_in w k in own_list) none ∙ g.lists k other)
    in
    record {
      kept = h.kept;
      there = there ∙ h.there;
      holds = record {
        left = λ e. let f = h.holds.left (sym word ∙ e) in (f.0, f.1 ∙ ap (λ (own_list : List Lifetime). slot_left (record { lives = own_list; slots = layout.config.slots }) f.0) (sym (lists e)));
        clear = λ ne. h.holds.clear (λ e. ne (word ∙ e));
      };
    }

-- another seat that is there is there after the step
here_by : (w : World) (i k : ℕ) (leaving : Bool) → (k == i) ≡ false → is_here w k ≡ true → (is_here w k && not ((k == i) && leaving)) ≡ true
here_by w i k leaving q h = rw (h, q) refl

pub stays_here : (layout : Layout) (list : List ℕ) (items : List Item) (handle : Handle) (k : ℕ) → Going layout list items handle → (k == seat_of (own handle.0)) ≡ false → is_here (world_of layout items) k ≡ true
    → is_here (world_of layout (next_of items handle)) k ≡ true
stays_here layout list items handle k g q h =
    let i : ℕ = seat_of (own handle.0) in
    let w : World = world_of layout (now_of items handle) in
    let now : is_here w k ≡ true = ap (λ (m : Place → ℕ). m (PlaceOf k) == 0) g.entered.mem ∙ h in
    let moves : PlaceMoves w i k = g.moves k in
    ap (λ (u : World). is_here u k) g.steps ∙ moves.here ∙ here_by w i k (is_leaving (w.seat i).phase) q now

-- what a handle does with slots at a step, and what it is told
pub record Acts (layout : Layout) (state : State (Option Kept) View) (items : List Item) (id : ℕ) (handle : Handle) (holds : Bool) (Tells : ℕ → Handle → Type 0) : Type 0 where
  pub act : Act (Option Kept)
  pub valid : Valid state.homes handle.1 act
  -- a seat that keeps its slot is there, and so each slot at home that no view has is as it should be
  pub here : holds ≡ true → is_here (world_of layout (next_of items handle)) (seat_of (own handle.0)) ≡ true
  pub home : (seat : ℕ) → seat < layout.config.seats → sum_by (taken seat) (set state.views id (view_after layout items handle (answered state.words (asks (standing handle))) holds)) ≡ 0
      → IsHome layout (world_of layout (next_of items handle)) (homes_after state.homes handle.1 act) seat
  pub learns : (told : Told layout handle (answered state.words (asks (standing handle))) (view_after layout items handle (answered state.words (asks (standing handle))) true)) → told.items ≡ now_of items handle
      → Tells (slice_index state.words (word_in (asks (standing handle)))) (view_after layout items handle (answered state.words (asks (standing handle))) holds, carried_after handle.1 act)

-- the items of a step are its seat's
step_of : (i k : ℕ) (call : Option Call) → (k == i) ≡ false → NoneOf k (entry i call ++ Steps i ∷ [])
step_of i k None d = All-cons (λ item. (k == item_seat item) ≡ false) (Steps i) [] d (All-nil (λ item. (k == item_seat item) ≡ false))
step_of i k (Some call) d =
    All-cons (λ item. (k == item_seat item) ≡ false) (Begins i call) (Steps i ∷ []) d (All-cons (λ item. (k == item_seat item) ≡ false) (Steps i) [] d (All-nil (λ item. (k == item_seat item) ≡ false)))

-- one step of the table, whatever it does with slots
pub allows : (layout : Layout) (slots id : ℕ) (handle : Handle) (holds : Bool) (Tells : ℕ → Handle → Type 0) → IsHeld layout handle → busy_in (standing handle).phase ≡ true
    → ((s : State (Option Kept) View) (r : ByNumber layout s) → length s.homes ≡ slots → get_elem? s.views id ≡ some handle.0 → Going layout s.words r.items handle → Acts layout s r.items id handle holds Tells)
    → Allows (ByNumber layout) slots id handle (word_in (asks (standing handle))) (changed (asks (standing handle))) Tells
allows layout slots id handle holds Tells held busy by s r ls e bound =
    let v : View = handle.0 in
    let x : Track = own v in
    let i : ℕ = seat_of x in
    let l : Local = standing handle in
    let t : IsTracked layout x = held.tracked in
    let f : Follows layout r.items x = follows_own layout s.words s.homes s.views id v r e held.one in
    let begins : List Item = entry i (call_in handle.1) in
    let items : List Item = now_of r.items handle in
    let k : Going layout s.words r.items handle = going layout s.words r.items handle held busy f.stands r.mem r.count in
    let acts : Acts layout s r.items id handle holds Tells = by s r ls e k in
    let n : Entered layout r.items begins i l = k.entered in
    let g : Went layout items i l s.words = k.went in
    let found : ℕ = answered s.words (asks l) in
    let o : Local = offered (world_of layout items) i in
    let y : Track = record { local = after o found; past = items ++ Steps i ∷ [] } in
    let u : View = view_after layout r.items handle found holds in
    let number : seat_of y ≡ i = same_seat layout r.items handle found n.own_is in
    let all : List Item = r.items ++ (begins ++ Steps i ∷ []) in
    let cut : items ++ Steps i ∷ [] ≡ all = append_assoc r.items begins (Steps i ∷ []) in
    let apart : (k : ℕ) → (k == i) ≡ false → (world_of layout (items ++ Steps i ∷ [])).seat k ≡ (world_of layout r.items).seat k = (λ k q. g.others k q ∙ n.others k q) in
    let others : (k : ℕ) → (k == i) ≡ false → (world_of layout all).seat k ≡ (world_of layout r.items).seat k = (λ k q. ap (λ z. (world_of layout z).seat k) (sym cut) ∙ apart k q) in
    let new_of : (k : ℕ) → (k == i) ≡ false → NoneOf k (begins ++ Steps i ∷ []) = (λ k d. step_of i k (call_in handle.1) d) in
    let longer : (past : List Item) → Opens r.items past → Opens y.past past = (λ past o. subst (λ (z : List Item). Opens z past) (sym cut) (opens_on r.items (begins ++ Steps i ∷ []) past o)) in
    let here : (world_of layout y.past).seat (seat_of y) ≡ y.local = ap (world_of layout y.past).seat number ∙ g.own_is in
    let own_follows : Follows layout y.past y = record { more = []; begins = sym (append-nil y.past); alone = All-nil (λ item. (seat_of y == item_seat item) ≡ false); stood = here; stands = here } in
    let had_is : (k : ℕ) → had k u ≡ had k v = had_alike v u held.one refl number in
    let alike : Alike v u = record { made = refl; size_is = sym (ap length held.one); had_is = had_is } in (
      u,
      acts.act,
      acts.valid,
      record {
        valid = r.valid;
        count = g.count;
        items = y.past;
        mem = g.mem;
        tracks = λ j w q. ⊎_elim
            (λ p. subst (λ (z : View). All (Follows layout y.past) z.tracks) p.1 (All-cons (Follows layout y.past) y [] own_follows (All-nil (Follows layout y.past))))
            (λ p. subst (λ z. All (Follows layout z) w.tracks) (sym cut)
            (All-apart (Follows layout r.items) (Follows layout all) i w.tracks (other_views layout s.words s.homes s.views id j v w r held.one e p.1 p.0)
            (λ track d h. follows_on layout r.items (begins ++ Steps i ∷ []) track (new_of (seat_of track) d) h (others (seat_of track) d)) (r.tracks j w p.1)))
            (at_set s.views id j u w q);
        heard = λ j w q. ⊎_elim (λ p. subst (λ (z : View). Opens y.past z.heard) p.1 (longer v.heard (r.heard id v e))) (λ p. longer w.heard (r.heard j w p.1)) (at_set s.views id j u w q);
        none = λ seat z.
            let none : sum_by (had seat) s.views ≡ 0 = sym (sum_same (had seat) s.views id v u e (had_is seat)) ∙ z in
            subst (NoneOf seat) (sym cut) (none_then seat r.items (begins ++ Steps i ∷ []) (r.none seat none) (new_of seat (unmade_apart s.views id v seat held.one e none)));
        unmade = λ seat z.
            let none : sum_by (had seat) s.views ≡ 0 = sym (sum_same (had seat) s.views id v u e (had_is seat)) ∙ z in
            apart seat (unmade_apart s.views id v seat held.one e none) ∙ r.unmade seat none;
        made = r.made;
        numbers = numbers_set layout s.views id v u r.made e alike r.numbers;
        here = λ j w q h. ⊎_elim
            (λ p. subst (λ (z : View). All (IsHere (world_of layout y.past)) z.tracks) p.1
            (All-cons (IsHere (world_of layout y.past)) y [] (ap (is_here (world_of layout y.past)) number ∙ acts.here (ap (λ (z : View). z.holds) p.1 ∙ h)) (All-nil (IsHere (world_of layout y.past)))))
            (λ p. All-apart (IsHere (world_of layout r.items)) (IsHere (world_of layout y.past)) i w.tracks (other_views layout s.words s.homes s.views id j v w r held.one e p.1 p.0)
            (λ track d h. stays_here layout s.words r.items handle (seat_of track) k d h) (r.here j w p.1 h))
            (at_set s.views id j u w q);
        home = acts.home;
      },
      acts.learns
          (record {
            items = items;
            more = f.more ++ begins;
            begins = ap (λ (z : List Item). z ++ begins) f.begins ∙ append_assoc x.past f.more begins;
            stands = n.own_is;
            found_is = g.found;
            to = ap (λ (h : Bool). let w : View = record { made = v.made; tracks = y ∷ []; holds = h; heard = v.heard } in w) (sym held.holds);
          }) refl,
    )
