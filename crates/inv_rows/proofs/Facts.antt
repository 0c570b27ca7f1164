-- What is known of the rows gives what the code of a step rests on.
use Rattle.std.proofs.Common.{ℕ, zero, suc, ◌≤◌, ◌+◌, ◌<◌, ◌≡◌, Bool, true, false, arith, refl, ap, sym, subst, List, [], ◌∷◌, ◌∙◌, ◌||◌, slice_get, None, ◌&&◌, ◌++◌, ◌⊎◌, inl, inr}
use Rattle.std.proofs.lemmas.Map.Steps.{length-le_from_distinct_below}
use Rattle.wfe_core.proofs.Lists.{slots_length}
use Rattle.std.proofs.lemmas.Bool.Decides.{nat_tests}
use Rattle.std.specs.Prelude.{◌==◌, Some}
use Rattle.std.specs.List.{IsDistinct, AllByRecursion, list_any}
use Rattle.wfe_core.specs.words.Place.{Place}
use Rattle.wfe_core.specs.words.Place.Place.{Life, Row, PlaceOf}
use Rattle.wfe_core.specs.words.Packed.{halves}
use Rattle.wfe_core.specs.defs.declared.call.Answer.{Answer}
use Rattle.wfe_core.specs.defs.declared.lifetime.Lifetime.{Lifetime}
use Rattle.wfe_core.specs.CallReady.{slots_of, RetireFits, NotListed}
use Rattle.wfe_core.specs.Desks.{Desk}
use Rattle.wfe_core.specs.Posts.{counted}
use Rattle.wfe_core.specs.Machine as machine
use Rattle.wfe_core.specs.Phases.{Base}
use Rattle.wfe_core.specs.Phases.RetireAt.{LoadLife, LoadRetire, StoreRetired}
use Rattle.wfe_core.specs.Phases.Base.{Begin, Protect, Reload, Clear, Finish, Release, Allocate, Write, GiveUp, Retire, Move}
use Rattle.wfe_core.specs.Calls.{Why, Opens, FollowsHead, Fills, ClearsNext, Clears, Finishes, GivesUp, Retires, Tidies, Advances, Releases, AfterScan, GiveBack, Phase, Runs, Scans, EnqueueKept, LoadNumber, PassTail, LoadTail, Enqueuing, Dequeuing, Works, Keeping, TakeList}
use Rattle.wfe_core.specs.Memory as memory
use Rattle.wfe_core.specs.Memory.{place_in}
use Rattle.wfe_core.specs.Steps.{phase_move}
use Rattle.wfe_core.specs.Locals.{busy_in}
use Rattle.wfe_core.specs.World.{finds, step, offered, list_in}
use Rattle.inv_rows.specs.Rows.{Status, View, Good, has_life}
use Rattle.inv_rows.specs.Rows.Status.{Cut, Sealed, Listed}
use Rattle.inv_rows.specs.Rows.Hand.{Old}
use Rattle.inv_rows.specs.Hands.{in_list, no_entry, each_once, stands_at}
use Rattle.inv_rows.specs.Agree.{Words, Plays, rows_after}
use Rattle.inv_rows.specs.Facts.{Listing, RowsShow, QueueShows, LinedStays, QueueEnds}
use Rattle.inv_rows.proofs.Lists.{no_entry_from, in_list_joined, once_joined}
use Rattle.inv_rows.proofs.Kept.{list_here, offers, busy_plays}
use Rattle.inv_rows.proofs.Phases.{Offers, gift_apart}
use Rattle.inv_rows.proofs.Runs.{only_fills}
use Rattle.inv_rows.proofs.Steps.{of_old, of_known, of_dated, life_cut, old_life}
use Rattle.inv_rows.proofs.Queued.{queue_needs, far_by, world_went}
use Rattle.inv_rows.proofs.Went.{Others, Went}
use Rattle.inv_rows.specs.Queue.{Line, in_queue, blanks_in, line_move}
use Rattle.wfe_core.specs.Locals.{turn}
use Rattle.wfe_core.proofs.Facts.{same_number, value_there, same_both, same_test, no_truth, either_true}

-- the list as contracts see it
not_listed : (s : ℕ) (lives : List Lifetime) → no_entry s lives ≡ true → list_any (◌==◌ s) (slots_of lives) ≡ false
not_listed s [] h = refl
not_listed s (life ∷ lives) h =
    let other : (s == life.slot) ≡ false = grind (arith, nat_tests) in
    let rest : no_entry s lives ≡ true = grind (arith, nat_tests) in
    let k = not_listed s lives rest in rw (other, k) refl

apart_rest : (s : ℕ) (lives : List Lifetime) → no_entry s lives ≡ true → AllByRecursion (λ z. (s == z) ≡ false) (slots_of lives)
apart_rest s [] h = tt
apart_rest s (life ∷ lives) h =
    let other : (s == life.slot) ≡ false = grind (arith, nat_tests) in
    let rest : no_entry s lives ≡ true = grind (arith, nat_tests) in (other, apart_rest s lives rest)

once_apart : (lives : List Lifetime) → each_once lives ≡ true → IsDistinct ◌==◌ (slots_of lives)
unfolding IsDistinct
once_apart [] h = tt
once_apart (life ∷ lives) h =
    let first : no_entry life.slot lives ≡ true = grind (arith, nat_tests) in
    let rest : each_once lives ≡ true = grind (arith, nat_tests) in (apart_rest life.slot lives first, once_apart lives rest)

stands_there : (lives : List Lifetime) (place slot : ℕ) → stands_at lives place slot ≡ true → slice_get (slots_of lives) place ≡ Some slot
stands_there [] zero slot h = absurd (no_truth h)
stands_there [] (suc place) slot h = absurd (no_truth h)
stands_there (life ∷ lives) zero slot h = let e : life.slot ≡ slot = grind (arith, nat_tests) in ap Some e
stands_there (life ∷ lives) (suc place) slot h = stands_there lives place slot h

-- an entry's row is one of the table's
record Entry (s : ℕ) (lives : List Lifetime) : Type 0 where
  birth : ℕ
  retire : ℕ
  listed : in_list lives s birth retire ≡ true

entry_here : (s : ℕ) (life : Lifetime) (lives : List Lifetime) (same : Bool) → (s == life.slot) ≡ same → (same || list_any (◌==◌ s) (slots_of lives)) ≡ true → (list_any (◌==◌ s) (slots_of lives) ≡ true → Entry s lives) → Entry s (life ∷ lives)
entry_here s life lives true e h f = record { birth = life.birth; retire = life.retire; listed = grind (arith, nat_tests, e) }
entry_here s life lives false e h f = let k : Entry s lives = f h in record { birth = k.birth; retire = k.retire; listed = grind (arith, nat_tests, k.listed) }

any_entry : (s : ℕ) (lives : List Lifetime) → list_any (◌==◌ s) (slots_of lives) ≡ true → Entry s lives
any_entry s [] h = absurd (no_truth h)
any_entry s (life ∷ lives) h = entry_here s life lives (s == life.slot) refl h (λ e. any_entry s lives e)

list_below : (slots k : ℕ) (v : View) (phase : Phase) (lives : List Lifetime) (s : ℕ) → Good slots v → Plays k phase lives v → list_any (◌==◌ s) (slots_of lives) ≡ true → s < slots + 1
list_below slots k v phase lives s g p h =
    let e : Entry s lives = any_entry s lives h in
    let listed : v.status s ≡ Listed k e.retire = g.listed k s e.birth e.retire (p.lists s e.birth e.retire ∙ e.listed) in
    let inside : s ≤ slots = g.inside s (rw listed refl) in omega arith

-- a row in hand is not on the list
not_in : (x : Status) (k r : ℕ) (listed : Bool) → (listed ≡ true → x ≡ Listed k r) → (x ≡ Listed k r → ⊥) → listed ≡ false
not_in x k r true f n = absurd (n (f refl))
not_in x k r false f n = refl

cut_apart : (x : Status) (k r : ℕ) → x ≡ Cut k → x ≡ Listed k r → ⊥
cut_apart x k r e f = cc

sealed_apart : (x : Status) (k retire r : ℕ) → x ≡ Sealed k retire → x ≡ Listed k r → ⊥
sealed_apart x k retire r e f = cc

hand_apart : (slots k : ℕ) (v : View) (slot : ℕ) (phase : Phase) (lives : List Lifetime) → Good slots v → Plays k phase lives v → ((r : ℕ) → v.status slot ≡ Listed k r → ⊥) → NotListed slot lives
hand_apart slots k v slot phase lives g p n =
    not_listed slot lives (no_entry_from lives slot (λ b r. sym (p.lists slot b r) ∙ not_in (v.status slot) k r (v.lists k slot b r) (λ e. g.listed k slot b r e) (n r)))

born_some : (birth : ℕ) → 0 < birth → 0 < halves birth 0
unfolding halves
born_some birth h = omega arith

back_there : (k : ℕ) (v : View) (later : AfterScan) (place slot : ℕ) (lives : List Lifetime) → Plays k (Scans later (GiveBack place slot)) lives v → slice_get (slots_of lives) place ≡ Some slot
back_there k v later place slot lives p = stands_there lives place slot p.right

retire_apart : (slots k : ℕ) (v : View) (answer : Answer) (base : Base) (desk : Desk) → Good slots v → Plays k (Runs (Retires answer) base) desk.list v → RetireFits base desk
retire_apart slots k v answer (Begin at) desk g p = tt
retire_apart slots k v answer (Protect aim index root steps at) desk g p = tt
retire_apart slots k v answer (Reload parent index slot era steps) desk g p = tt
retire_apart slots k v answer (Clear rows index) desk g p = tt
retire_apart slots k v answer Finish desk g p = tt
retire_apart slots k v answer (Release index) desk g p = tt
retire_apart slots k v answer (Allocate at) desk g p = tt
retire_apart slots k v answer (Write slot row place) desk g p = tt
retire_apart slots k v answer (GiveUp slot) desk g p = tt
retire_apart slots k v answer (Move at) desk g p = tt
retire_apart slots k v answer (Retire (LoadLife slot)) desk g p = hand_apart slots k v slot (Runs (Retires answer) (Retire (LoadLife slot))) desk.list g p (λ r e. cut_apart (v.status slot) k r (of_old slots v k slot g p.hand) e)
retire_apart slots k v answer (Retire (LoadRetire slot birth)) desk g p = hand_apart slots k v slot (Runs (Retires answer) (Retire (LoadRetire slot birth))) desk.list g p (λ r e. cut_apart (v.status slot) k r (of_known slots v k slot birth g p.hand) e)
retire_apart slots k v answer (Retire (StoreRetired slot birth retire)) desk g p = hand_apart slots k v slot (Runs (Retires answer) (Retire (StoreRetired slot birth retire))) desk.list g p (λ r e. sealed_apart (v.status slot) k retire r (of_dated slots v k slot birth retire g p.hand) e)

-- the row's lifetime was stored
life_stored : (slots k : ℕ) (mem : Place → ℕ) (v : View) (slot : ℕ) → Good slots v → Words slots mem v → v.hand k ≡ Old slot → 0 < mem (Life slot)
life_stored slots k mem v slot g w h =
    let cut : v.status slot ≡ Cut k = of_old slots v k slot g h in
    let life : has_life (v.status slot) ≡ true = life_cut (v.status slot) k cut in
    let word : mem (Life slot) ≡ halves (v.birth slot) 0 = old_life (v.status slot) k (v.birth slot) (mem (Life slot)) cut (w.lives slot life) in
    rw word (born_some (v.birth slot) (g.births slot life))

loads_life : (slots k : ℕ) (mem : Place → ℕ) (v : View) (why : Why) (slot : ℕ) (lives : List Lifetime) → Good slots v → Words slots mem v → Plays k (Runs why (Retire (LoadLife slot))) lives v → 0 < mem (Life slot)
loads_life slots k mem v (Opens task) slot lives g w p = absurd (no_truth p.right)
loads_life slots k mem v (FollowsHead head tail) slot lives g w p = absurd (no_truth p.right)
loads_life slots k mem v (ClearsNext next) slot lives g w p = absurd (no_truth p.right)
loads_life slots k mem v (Clears task next) slot lives g w p = absurd (no_truth p.right)
loads_life slots k mem v (Finishes task next) slot lives g w p = absurd (no_truth p.right)
loads_life slots k mem v (GivesUp answer) slot lives g w p = absurd (no_truth p.right)
loads_life slots k mem v (Tidies later) slot lives g w p = absurd (no_truth p.right)
loads_life slots k mem v Advances slot lives g w p = absurd (no_truth p.right)
loads_life slots k mem v (Releases let_go) slot lives g w p = absurd (no_truth p.right)
loads_life slots k mem v (Retires answer) slot lives g w p = life_stored slots k mem v slot g w p.hand
loads_life slots k mem v (Fills task) slot lives g w p = absurd (no_truth (only_fills task (Retire (LoadLife slot)) p.right))

-- of a list in which no row is twice
listing : (slots : ℕ) (lives : List Lifetime) → each_once lives ≡ true → ((slot : ℕ) → list_any (◌==◌ slot) (slots_of lives) ≡ true → slot < slots + 1) → Listing slots lives
listing slots lives o f =
    let apart : IsDistinct ◌==◌ (slots_of lives) = once_apart lives o in
    record { apart = apart; below = f; short = rw (← slots_length lives) (length-le_from_distinct_below (slots_of lives) (slots + 1) apart f) }

-- each entry of a list and of one that is taken over is one of the table's
listed_below : (slots k s b r : ℕ) (v : View) → Good slots v → v.lists k s b r ≡ true → s < slots + 1
listed_below slots k s b r v g h =
    let listed : v.status s ≡ Listed k r = g.listed k s b r h in
    let inside : s ≤ slots = g.inside s (rw listed refl) in omega arith

gained_below : (slots k place : ℕ) (v : View) (phase : Phase) (list gift : List Lifetime) (s : ℕ) → Good slots v → Plays k phase list v → ((s b r : ℕ) → v.lists place s b r ≡ in_list gift s b r) → list_any (◌==◌ s) (slots_of (list ++ gift)) ≡ true → s < slots + 1
gained_below slots k place v phase list gift s g p f h =
    let e : Entry s (list ++ gift) = any_entry s (list ++ gift) h in
    by_list e.birth e.retire (either_true (in_list list s e.birth e.retire) (in_list gift s e.birth e.retire) (sym (in_list_joined list gift s e.birth e.retire) ∙ e.listed))
  where
    by_list : (b r : ℕ) → (in_list list s b r ≡ true) ⊎ (in_list gift s b r ≡ true) → s < slots + 1
    by_list b r (inl u) = listed_below slots k s b r v g (p.lists s b r ∙ u)
    by_list b r (inr u) = listed_below slots place s b r v g (f s b r ∙ u)

gained : (slots k : ℕ) (mem : Place → ℕ) (v : View) (list gift : List Lifetime) (phase : Phase) (place : ℕ) → phase ≡ Works (Keeping (TakeList place)) → mem (PlaceOf place) ≡ 1 → Offers k mem v phase gift → Good slots v → Plays k phase list v → Listing slots (list ++ gift)
gained slots k mem v list gift phase place e one o g p =
    listing
    slots
    (list ++ gift)
    (once_joined list gift (gift_apart slots k v phase list gift place g p (λ s b r. o.lists place s b r e one) (o.apart place e one)) p.once (o.once place e one))
    (λ slot h. gained_below slots k place v phase list gift slot g p (λ s b r. o.lists place s b r e one) h)

pub rows_show : RowsShow
rows_show w v k a =
    let slots : ℕ = w.layout.config.slots in
    let plays : Plays k (w.seat k).phase (list_in w k) v = a.plays k in
    let P : Phase → Type 0 = λ y. Plays k y (w.seat k).desk.list v in
    let Q : Phase → Type 0 = λ y. Plays k y (list_in w k) v in
    let found_at : Phase → ℕ = λ y. memory.found (phase_move y (w.seat k).post) (w.mem (place_in (phase_move y (w.seat k).post))) in
    record {
      here = λ b. same_test (w.mem (PlaceOf k)) 0 ((a.present k).here b);
      own = λ b. list_here (w.mem (PlaceOf k)) (w.seat k).desk.list ((a.present k).here b);
      apart = once_apart (list_in w k) plays.once;
      below = λ slot e. list_below slots k v (w.seat k).phase (list_in w k) slot a.good plays e;
      kept = λ b. let p : Plays k (w.seat k).phase (w.seat k).desk.list v = busy_plays w k v b a in listing slots (w.seat k).desk.list p.once (λ slot e. list_below slots k v (w.seat k).phase (w.seat k).desk.list slot a.good p e);
      gains = λ place e one. gained slots k w.mem v (w.seat k).desk.list (offered w k).desk.gift (w.seat k).phase place e (sym (ap found_at e) ∙ one) (offers w k v (ap busy_in e) a) a.good (busy_plays w k v (ap busy_in e) a);
      retires = λ answer base e. retire_apart slots k v answer base (w.seat k).desk a.good (subst P e (busy_plays w k v (ap busy_in e) a));
      lives = λ why slot e. loads_life slots k w.mem v why slot (list_in w k) a.good a.words (subst Q e plays);
      backs = λ later place slot e. back_there k v later place slot (w.seat k).desk.list (subst P e (busy_plays w k v (ap busy_in e) a));
    }

pub queue_shows : QueueShows
queue_shows w i v l n b = queue_needs w.layout.config.slots w.mem v l (w.seat i).phase (λ base. (machine.after base (counted (w.seat i).post) (finds w i)).outcome) (finds w i) n.own b.rows.words.head b.queue.line (b.queue.walks i)

-- a row of the queue, as if a seat worked on it
abbrev tail_kept : ℕ → EnqueueKept
tail_kept s = record { value = 0; taken = None; walked = false; tail = s; number = 0 }

alone : (i : ℕ) (v : View) (l : Line) (phase : Phase) → ((s : ℕ) → blanks_in phase s ≡ false) → Others i v l phase
alone i v l phase f = record { unlined = λ s u. absurd (no_truth (sym (f s) ∙ u)); apart = λ s b. f s }

at_row : (f : ℕ → Bool) (s h : ℕ) → f s ≡ true → (s == h) ≡ true → f h ≡ true
at_row f s h e u = let same : s ≡ h = grind (arith, nat_tests) in subst (λ (x : ℕ). f x ≡ true) same e

head_row : (head s h : ℕ) (q : ℕ → Bool) → (q s ≡ true → head ≡ s + 1) → (s == h) ≡ true → q h ≡ true → head ≡ h + 1
head_row head s h q f u k = let same : h ≡ s = grind (arith, nat_tests) in let back : q s ≡ true = subst (λ (x : ℕ). q x ≡ true) same k in omega (arith, f back, same)

link_some : (s link h x : ℕ) → 0 < link → (s == h && (link == x)) ≡ true → 0 < x
link_some s link h x p u = grind (arith, nat_tests)

pub lined_stays : LinedStays
lined_stays w i v l s n b far e =
    let went : Went i v (rows_after w i v) l (line_move (w.seat i).phase (finds w i)) w.mem (step w i).mem (turn (offered w i) (finds w i)) = world_went w i v l n b in
    record {
      lined = (went.others (Works (Enqueuing (tail_kept s) LoadNumber)) (record { stood = λ h u. at_row l.lined s h e u; heads = λ h u k. cc; follows = λ h link u. cc; some = λ h link u. cc; leads = λ h u k. cc; blank = λ x u. cc; items = refl; loads = tt }) (far_by (w.seat i).phase (Works (Enqueuing (tail_kept s) LoadNumber)) (finds w i) far) (alone i v l (Works (Enqueuing (tail_kept s) LoadNumber)) (λ x. refl))).stood s (same_number s);
      heads = λ f q. (went.others (Works (Dequeuing (LoadTail s))) (record { stood = λ h u. at_row l.lined s h e u; heads = λ h u k. head_row v.head s h (λ y. in_queue (v.status y)) f u k; follows = λ h link u. cc; some = λ h link u. cc; leads = λ h u k. cc; blank = λ x u. cc; items = refl; loads = tt }) (far_by (w.seat i).phase (Works (Dequeuing (LoadTail s))) (finds w i) far) (alone i v l (Works (Dequeuing (LoadTail s))) (λ x. refl))).heads s (same_number s) q;
      next = λ link o p. (went.others (Works (Enqueuing (tail_kept s) (PassTail link))) (record { stood = λ h u. at_row l.lined s h e u; heads = λ h u k. cc; follows = λ h x u. value_there (λ y. w.mem (Row y 0)) s link h x o u; some = λ h x u. link_some s link h x p u; leads = λ h u k. cc; blank = λ x u. cc; items = refl; loads = tt }) (far_by (w.seat i).phase (Works (Enqueuing (tail_kept s) (PassTail link))) (finds w i) far) (alone i v l (Works (Enqueuing (tail_kept s) (PassTail link))) (λ x. refl))).follows s link (same_both s link);
    }

pub queue_ends : QueueEnds
queue_ends w v l s b = record {
  head = λ e. b.queue.line.lined s (b.queue.line.first s (sym b.rows.words.head ∙ e));
  tail = λ e. b.queue.line.lined s (b.queue.line.reached s e);
  first = λ e. sym b.rows.words.head ∙ e;
}
