-- What a record says of places is what their words say: a seat has left where its place word is not 0, and its list is taken over where
-- that is greater than 1.
use Rattle.std.proofs.Common.{ℕ, ◌<◌, ◌≡◌, Bool, true, false, arith, refl, sym, ap, ◌∙◌}
use Rattle.std.proofs.lemmas.Bool.Decides.{nat_tests}
use Rattle.std.specs.Prelude.{◌==◌, nat_lt, if◌then◌else◌}
use Rattle.inv_all.specs.model.words.Place.{Place}
use Rattle.inv_all.specs.model.words.Place.Place.{PlaceOf}
use Rattle.inv_all.specs.model.declared.post.Post.{Post}
use Rattle.inv_all.specs.model.Memory as memory
use Rattle.inv_all.specs.model.Memory.{Move, Store, Cas, place_in, written}
use Rattle.inv_all.specs.model.Machine.{base_move}
use Rattle.inv_all.specs.model.Get as gets
use Rattle.inv_all.specs.model.Keep as keeps
use Rattle.inv_all.specs.model.Change as alters
use Rattle.inv_all.specs.model.Enqueue as enqueues
use Rattle.inv_all.specs.model.Dequeue as dequeues
use Rattle.inv_all.specs.model.Desks.{Desk}
use Rattle.inv_all.specs.model.Steps.{phase_move, phase_turn}
use Rattle.inv_all.specs.model.Scan as scan
use Rattle.inv_all.specs.model.Calls.{Getting, Changing, Enqueuing, Dequeuing, Phase, Idle, Runs, Scans, Works, KeepAt, Loosens, LoadHeld, StoreHeld, Looks, Misses, HideSpan, MarkLeft, TakeList, MarkTaken, Keeping}
use Rattle.inv_all.specs.model.Locals.{busy_in}
use Rattle.inv_all.proofs.model.Facts.{no_truth, number_is, first_of, rest_of}
use Rattle.std.specs.Prelude.{List, [], ◌∷◌, ◌||◌}
use Rattle.inv_all.specs.model.defs.declared.event.Event.{Event}
use Rattle.inv_all.specs.model.defs.declared.event.Event.TheVariants as events
use Rattle.inv_all.specs.model.Locals.{told_by}
use Rattle.inv_all.specs.rows.Agree.{Agree, Present}
use Rattle.inv_all.proofs.rows.Words.{missed}
use Rattle.inv_all.proofs.rows.Places.{is_placing, unplaced, base_places, get_places, change_places, enqueue_places, dequeue_places, scan_places}
use Rattle.inv_all.proofs.history.AllOf.{all_of}
use Rattle.inv_all.specs.history.Record.{Past, tells_of}
use Rattle.inv_all.specs.history.Record.Past.{Start, Then}
use Rattle.laws.specs.Lists.{has_left, is_adopted}
use Rattle.law_reuse.specs.Answers.{PlacesSay}
use Rattle.law_reuse.proofs.Leaving.Told.{is_kept, phase_keeps_lists, told_kept}
use Rattle.inv_all.specs.model.World.{World, start, step, is_busy, offered, told_in}
use Rattle.inv_all.specs.rows.Rows.{View}
use Rattle.inv_all.specs.model.Posts.{counted}
use Rattle.inv_all.specs.model.words.declared.layout.Layout.{Layout}

-- the same seats have left, and the same lists are taken over
record SameWords (mem after : Place → ℕ) : Type 0 where
  left : (k : ℕ) → nat_lt 0 (after (PlaceOf k)) ≡ nat_lt 0 (mem (PlaceOf k))
  adopted : (k : ℕ) → nat_lt 1 (after (PlaceOf k)) ≡ nat_lt 1 (mem (PlaceOf k))

same_plain : (mem : Place → ℕ) (m : Move) → is_placing m ≡ false → SameWords mem (written mem m)
same_plain mem m h = record { left = λ k. ap (nat_lt 0) (unplaced mem m k h); adopted = λ k. ap (nat_lt 1) (unplaced mem m k h) }

-- a list that was taken over is marked so
same_marks : (mem : Place → ℕ) (place : ℕ) → 1 < mem (PlaceOf place) → SameWords mem (written mem (Store (PlaceOf place) 3))
same_marks mem place t = record { left = λ k. grind (arith, nat_tests, t); adopted = λ k. grind (arith, nat_tests, t) }

keep_same : (i : ℕ) (mem : Place → ℕ) (at : KeepAt) (post : Post) → phase_keeps_lists (Works (Keeping at)) ≡ true → Present mem i (Works (Keeping at)) → SameWords mem (written mem (keeps.keep_move at post))
keep_same i mem (Loosens let_go) post q p = same_plain mem (keeps.keep_move (Loosens let_go) post) refl
keep_same i mem (LoadHeld from index) post q p = same_plain mem (keeps.keep_move (LoadHeld from index) post) refl
keep_same i mem (StoreHeld from index era) post q p = same_plain mem (keeps.keep_move (StoreHeld from index era) post) refl
keep_same i mem (Looks index key at) post q p = same_plain mem (gets.get_move at) (get_places at)
keep_same i mem (Misses index) post q p = same_plain mem (keeps.keep_move (Misses index) post) refl
keep_same i mem HideSpan post q p = same_plain mem (keeps.keep_move HideSpan post) refl
keep_same i mem MarkLeft post q p = absurd (cc)
keep_same i mem (TakeList place) post q p = absurd (cc)
keep_same i mem (MarkTaken place count) post q p = same_marks mem place (p.marks place count refl)

phase_same : (i : ℕ) (mem : Place → ℕ) (phase : Phase) (post : Post) → phase_keeps_lists phase ≡ true → busy_in phase ≡ true → Present mem i phase → SameWords mem (written mem (phase_move phase post))
phase_same i mem Idle post q b p = absurd (no_truth b)
phase_same i mem (Runs why base) post q b p = same_plain mem (base_move base post) (base_places base post)
phase_same i mem (Scans later at) post q b p = same_plain mem (scan.scan_move at post) (scan_places at post)
phase_same i mem (Works (Getting key at)) post q b p = same_plain mem (gets.get_move at) (get_places at)
phase_same i mem (Works (Changing kept at)) post q b p = same_plain mem (alters.change_move kept at post) (change_places kept at post)
phase_same i mem (Works (Enqueuing kept at)) post q b p = same_plain mem (enqueues.enqueue_move kept at) (enqueue_places kept at)
phase_same i mem (Works (Dequeuing at)) post q b p = same_plain mem (dequeues.dequeue_move at) (dequeue_places at)
phase_same i mem (Works (Keeping at)) post q b p = keep_same i mem at post q p

-- events that leave no list and take none over
none_left : (k i : ℕ) (event : Event) (p : Past) → is_kept event ≡ true → has_left k (Then p i event) ≡ has_left k p
none_left k i (events.Left count) p h = absurd (cc)
none_left k i event p h = refl

none_adopted : (k i : ℕ) (event : Event) (p : Past) → is_kept event ≡ true → is_adopted k (Then p i event) ≡ is_adopted k p
none_adopted k i (events.Adopted place count) p h = absurd (cc)
none_adopted k i event p h = refl

left_stays : (k i : ℕ) (told : List Event) (p : Past) → all_of is_kept told ≡ true → has_left k (tells_of p i told) ≡ has_left k p
left_stays k i [] p h = refl
left_stays k i (event ∷ told) p h = left_stays k i told (Then p i event) (rest_of (is_kept event) (all_of is_kept told) h) ∙ none_left k i event p (first_of (is_kept event) (all_of is_kept told) h)

adopted_stays : (k i : ℕ) (told : List Event) (p : Past) → all_of is_kept told ≡ true → is_adopted k (tells_of p i told) ≡ is_adopted k p
adopted_stays k i [] p h = refl
adopted_stays k i (event ∷ told) p h = adopted_stays k i told (Then p i event) (rest_of (is_kept event) (all_of is_kept told) h) ∙ none_adopted k i event p (first_of (is_kept event) (all_of is_kept told) h)

placed_calm : (i : ℕ) (mem after : Place → ℕ) (told : List Event) (p : Past) → all_of is_kept told ≡ true → SameWords mem after → PlacesSay mem p → PlacesSay after (tells_of p i told)
placed_calm i mem after told p h s g = record {
  left = λ k. left_stays k i told p h ∙ g.left k ∙ sym (s.left k);
  adopted = λ k. adopted_stays k i told p h ∙ g.adopted k ∙ sym (s.adopted k);
}

-- a seat leaves
placed_leaves : (i : ℕ) (mem : Place → ℕ) (post : Post) (p q : Past) → post.seat ≡ i → mem (PlaceOf i) ≡ 0 → ((k : ℕ) → has_left k q ≡ ((k == i) || has_left k p)) → ((k : ℕ) → is_adopted k q ≡ is_adopted k p) → PlacesSay mem p → PlacesSay (written mem (Store (PlaceOf post.seat) 1)) q
placed_leaves i mem post p q s z a b g = record {
  left = λ k. a k ∙ ap (λ (x : Bool). (k == i) || x) (g.left k) ∙ left_word k;
  adopted = λ k. b k ∙ g.adopted k ∙ adopted_word k;
}
  where
    left_word : (k : ℕ) → ((k == i) || nat_lt 0 (mem (PlaceOf k))) ≡ nat_lt 0 (written mem (Store (PlaceOf post.seat) 1) (PlaceOf k))
    left_word k = grind (arith, nat_tests, s, z)

    adopted_word : (k : ℕ) → nat_lt 1 (mem (PlaceOf k)) ≡ nat_lt 1 (written mem (Store (PlaceOf post.seat) 1) (PlaceOf k))
    adopted_word k = grind (arith, nat_tests, s, z)

-- a list is taken over, where one was left
placed_takes : (mem : Place → ℕ) (place : ℕ) (p q : Past) → mem (PlaceOf place) ≡ 1 → ((k : ℕ) → has_left k q ≡ has_left k p) → ((k : ℕ) → is_adopted k q ≡ ((k == place) || is_adopted k p)) → PlacesSay mem p → PlacesSay (written mem (Cas (PlaceOf place) 1 2)) q
placed_takes mem place p q e a b g = record {
  left = λ k. a k ∙ g.left k ∙ left_word k;
  adopted = λ k. b k ∙ ap (λ (x : Bool). (k == place) || x) (g.adopted k) ∙ adopted_word k;
}
  where
    left_word : (k : ℕ) → nat_lt 0 (mem (PlaceOf k)) ≡ nat_lt 0 (written mem (Cas (PlaceOf place) 1 2) (PlaceOf k))
    left_word k = grind (arith, nat_tests, e)

    adopted_word : (k : ℕ) → ((k == place) || nat_lt 1 (mem (PlaceOf k))) ≡ nat_lt 1 (written mem (Cas (PlaceOf place) 1 2) (PlaceOf k))
    adopted_word k = grind (arith, nat_tests, e)

same_missed : (mem : Place → ℕ) (place : ℕ) → (mem (PlaceOf place) == 1) ≡ false → SameWords mem (written mem (Cas (PlaceOf place) 1 2))
same_missed mem place e = record { left = λ k. ap (nat_lt 0) (missed mem (PlaceOf place) (PlaceOf k) 1 2 e); adopted = λ k. ap (nat_lt 1) (missed mem (PlaceOf place) (PlaceOf k) 1 2 e) }

taking_placed : (i : ℕ) (mem : Place → ℕ) (place : ℕ) (post : Post) (desk : Desk) (p : Past) (left : Bool) → (mem (PlaceOf place) == 1) ≡ left → PlacesSay mem p → PlacesSay (written mem (Cas (PlaceOf place) 1 2)) (tells_of p i (told_by (keeps.taking place post desk left (mem (PlaceOf place)))))
taking_placed i mem place post desk p true e g = placed_takes mem place p (tells_of p i (told_by (keeps.taking place post desk true (mem (PlaceOf place))))) (number_is (mem (PlaceOf place)) 1 e) (λ k. refl) (λ k. refl) g
taking_placed i mem place post desk p false e g = placed_calm i mem (written mem (Cas (PlaceOf place) 1 2)) (told_by (keeps.taking place post desk false (mem (PlaceOf place)))) p refl (same_missed mem place e) g

-- a step of a busy seat
abbrev Stepped : ℕ → (Place → ℕ) → Phase → Post → Post → Desk → Past → Type 0
Stepped i mem phase post next desk p = PlacesSay (written mem (phase_move phase post)) (tells_of p i (told_by (phase_turn phase next desk (memory.found (phase_move phase post) (mem (place_in (phase_move phase post)))))))

calm_placed : (i : ℕ) (mem : Place → ℕ) (phase : Phase) (post next : Post) (desk : Desk) (p : Past) → phase_keeps_lists phase ≡ true → busy_in phase ≡ true → Present mem i phase → PlacesSay mem p → Stepped i mem phase post next desk p
calm_placed i mem phase post next desk p q b s g =
    let found : ℕ = memory.found (phase_move phase post) (mem (place_in (phase_move phase post))) in
    placed_calm i mem (written mem (phase_move phase post)) (told_by (phase_turn phase next desk found)) p (told_kept phase next desk found q) (phase_same i mem phase post q b s) g

keep_placed : (i : ℕ) (mem : Place → ℕ) (at : KeepAt) (post next : Post) (desk : Desk) (p : Past) → post.seat ≡ i → Present mem i (Works (Keeping at)) → PlacesSay mem p → Stepped i mem (Works (Keeping at)) post next desk p
keep_placed i mem MarkLeft post next desk p s h g = placed_leaves i mem post p (tells_of p i (told_by (phase_turn (Works (Keeping MarkLeft)) next desk 0))) s (h.here refl) (λ k. refl) (λ k. refl) g
keep_placed i mem (TakeList place) post next desk p s h g = taking_placed i mem place next desk p (mem (PlaceOf place) == 1) refl g
keep_placed i mem (Loosens let_go) post next desk p s h g = calm_placed i mem (Works (Keeping (Loosens let_go))) post next desk p refl refl h g
keep_placed i mem (LoadHeld from index) post next desk p s h g = calm_placed i mem (Works (Keeping (LoadHeld from index))) post next desk p refl refl h g
keep_placed i mem (StoreHeld from index era) post next desk p s h g = calm_placed i mem (Works (Keeping (StoreHeld from index era))) post next desk p refl refl h g
keep_placed i mem (Looks index key at) post next desk p s h g = calm_placed i mem (Works (Keeping (Looks index key at))) post next desk p refl refl h g
keep_placed i mem (Misses index) post next desk p s h g = calm_placed i mem (Works (Keeping (Misses index))) post next desk p refl refl h g
keep_placed i mem HideSpan post next desk p s h g = calm_placed i mem (Works (Keeping HideSpan)) post next desk p refl refl h g
keep_placed i mem (MarkTaken place count) post next desk p s h g = calm_placed i mem (Works (Keeping (MarkTaken place count))) post next desk p refl refl h g

phase_placed : (i : ℕ) (mem : Place → ℕ) (phase : Phase) (post next : Post) (desk : Desk) (p : Past) → busy_in phase ≡ true → post.seat ≡ i → Present mem i phase → PlacesSay mem p → Stepped i mem phase post next desk p
phase_placed i mem Idle post next desk p b s h g = absurd (no_truth b)
phase_placed i mem (Runs why base) post next desk p b s h g = calm_placed i mem (Runs why base) post next desk p refl b h g
phase_placed i mem (Scans later at) post next desk p b s h g = calm_placed i mem (Scans later at) post next desk p refl b h g
phase_placed i mem (Works (Getting key at)) post next desk p b s h g = calm_placed i mem (Works (Getting key at)) post next desk p refl b h g
phase_placed i mem (Works (Changing kept at)) post next desk p b s h g = calm_placed i mem (Works (Changing kept at)) post next desk p refl b h g
phase_placed i mem (Works (Enqueuing kept at)) post next desk p b s h g = calm_placed i mem (Works (Enqueuing kept at)) post next desk p refl b h g
phase_placed i mem (Works (Dequeuing at)) post next desk p b s h g = calm_placed i mem (Works (Dequeuing at)) post next desk p refl b h g
phase_placed i mem (Works (Keeping at)) post next desk p b s h g = keep_placed i mem at post next desk p s h g

pub step_placed : (w : World) (i : ℕ) (v : View) (p : Past) → is_busy w i ≡ true → Agree w v → PlacesSay w.mem p → PlacesSay (step w i).mem (tells_of p i (told_in w i))
step_placed w i v p b a g = phase_placed i w.mem (w.seat i).phase (w.seat i).post (counted (w.seat i).post) (offered w i).desk p b (a.numbers i) (a.present i) g

same_word : (b : Bool) (word : ℕ) → (if b then word else word) ≡ word
same_word true word = refl
same_word false word = refl

pub first_placed : (layout : Layout) → PlacesSay (start layout).mem Start
first_placed layout = record { left = λ k. sym (ap (nat_lt 0) (same_word (nat_lt k layout.config.seats) 0)); adopted = λ k. sym (ap (nat_lt 1) (same_word (nat_lt k layout.config.seats) 0)) }
