-- What the covers of rows take of other parts.
use Rattle.std.proofs.Common.{ℕ, ◌≡◌, ◌<◌, Bool, true, false, refl, sym, subst, ap, ◌∙◌, arith, None, Some}
use Rattle.std.proofs.lemmas.Bool.Decides.{nat_tests}
use Rattle.std.specs.Prelude.{◌==◌, length, is_some, if◌then◌else◌}
use Rattle.inv_ends.specs.model.words.Place.{is_valid}
use Rattle.inv_ends.specs.model.words.Place.Place.{Clock, Index as IndexOf}
use Rattle.inv_ends.specs.model.defs.declared.event.Guard.TheVariants.{Index}
use Rattle.inv_ends.specs.model.defs.declared.event.Root.{Root}
use Rattle.inv_ends.specs.model.declared.post.Post.{Post}
use Rattle.inv_ends.specs.model.Guards.{one_era, from_to, published}
use Rattle.inv_ends.specs.model.Keep.{held_number}
use Rattle.inv_ends.specs.model.words.Schemes.{publishes_rows}
use Rattle.inv_ends.specs.requests.Hazards.{Hazards, phase_shows}
use Rattle.inv_ends.proofs.shapes.Tries.{try_plain}
use Rattle.inv_ends.specs.model.Posts.{stands}
use Rattle.inv_ends.specs.model.Phases.{Aim, Tries, Base}
use Rattle.inv_ends.specs.model.Phases.ProtectAt.{LoadLink}
use Rattle.inv_ends.specs.model.Phases.Base.{Protect}
use Rattle.inv_ends.specs.model.Calls.{Why, FollowsHead, DequeueAt, LoadTail, LoadHeld, StoreHeld, Getting, Changing, Enqueuing, Dequeuing, Keeping, Phase, Idle, Runs, Scans, Works}
use Rattle.inv_ends.proofs.model.Ranges.{bounds_of}
use Rattle.inv_ends.specs.model.World.{World, list_in, step}
use Rattle.inv_ends.specs.shapes.Eras.{Eras}
use Rattle.inv_ends.specs.shapes.Seats.{Seats, base_fits}
use Rattle.inv_ends.specs.shapes.Slots.{CopyIn, Slots}
use Rattle.inv_ends.proofs.shapes.Decode.{clock_next}
use Rattle.inv_ends.specs.requests.Parents as asked
use Rattle.inv_ends.specs.requests.Roles.{publishes}
use Rattle.inv_ends.specs.requests.Standing.{Requests, role_of, has_failed}
use Rattle.inv_ends.specs.requests.Views.{Role, View as Asked}
use Rattle.inv_ends.specs.requests.Views.Role.{Attempts}
use Rattle.inv_ends.specs.rows.Agree.{Agree}
use Rattle.inv_ends.specs.rows.Chain.{Both}
use Rattle.inv_ends.specs.rows.Hands.{is_right, runs_right}
use Rattle.inv_ends.specs.rows.Queue.{Line}
use Rattle.inv_ends.specs.rows.Rows.{View}
use Rattle.inv_ends.specs.covers.Covers.{Scanning, eras_shown, number_shown}
use Rattle.inv_ends.specs.covers.Held.{index_base, follows_row, BaseNeeds, CopyNeeds, HeldNeeds, StoreNeeds}
use Rattle.inv_ends.specs.covers.Parents.{has_parent, has_parent_why, has_parent_dequeue, Parents, ParentsNeeds}
use Rattle.inv_ends.specs.covers.Rests.{Rests, RestsNeeds}
use Rattle.inv_ends.proofs.covers.Following.{parents_give}
use Rattle.inv_ends.proofs.covers.Guards.{guards_fit}
use Rattle.inv_ends.proofs.covers.Resting.{rests_give}
use Rattle.inv_all.proofs.Inv.Rows.{covers_need, roots_need}
use Rattle.inv_all.proofs.Inv.Shapes.{eras_of, index_in, followed_of, grows_of, era_most, keep_fits, keep_in, why_in}
use Rattle.inv_all.proofs.Inv.Shown.{clock_small, word_era, shown_span}
use Rattle.inv_ends.proofs.requests.Known.{copying, known}
use Rattle.inv_ends.proofs.Handover.Deals.{few_ahead}
use Rattle.inv_ends.proofs.Handover.Asks.{run_of}
use Rattle.inv_ends.proofs.model.Facts.{below_length}

mark_small : (w : World) (i j : ℕ) (z : Asked) → is_valid w.layout ≡ true → Eras w → Requests w z → z.mark i j < 4294967296
mark_small w i j z d a q =
    let m = q.parts.marks i j in
    let f = few_ahead (z.deal i) j in
    let l = q.parts.low i j in
    let c = q.words.clocks in
    let s = clock_small w d a in
    omega arith

same_era : (x era : ℕ) → (x == era) ≡ true → 0 < era → one_era x ≡ from_to era era
same_era x era e p = let same : x ≡ era = grind (arith, nat_tests) in subst (λ (y : ℕ). one_era y ≡ from_to era era) (sym same) (some_era era (era == 0) refl p)
  where
    some_era : (era : ℕ) (none : Bool) → (era == 0) ≡ none → 0 < era → (if none then None else from_to era era) ≡ from_to era era
    some_era era true e p = absurd (grind (arith, nat_tests))
    some_era era false e p = refl

pub published_of : (w : World) (i : ℕ) (z : Asked) (why : Why) (aim : Aim) (index : ℕ) (root : Root) (steps era : ℕ) (tries : Tries) → is_valid w.layout ≡ true → Eras w → Requests w z → (w.seat i).phase ≡ Runs why (Protect aim index root steps (LoadLink era tries)) → publishes_rows w.layout.config.scheme ≡ false
    → eras_shown w (Index i index) ≡ from_to era era
published_of w i z why aim index root steps era tries d a q e f =
    let r : Attempts index era (has_failed tries) ≡ z.role i = ap (role_of w.layout) (sym e) ∙ q.locals.roles i in
    let p : publishes (Attempts index era (has_failed tries)) (z.era i) ≡ true = subst (λ (x : Role). publishes x (z.era i) ≡ true) (sym r) (q.parts.published i) in
    let x = eras_of w i why (Protect aim index root steps (LoadLink era tries)) a e in
    let y = x.some in
    ap one_era (word_era (w.mem (IndexOf i index)) (z.era i index) (z.mark i index) (mark_small w i index z d a q) (q.words.indexes f i index)) ∙ same_era (z.era i index) era p (omega arith)

-- the row whose next link is followed stands at index 0
why_tends : (why : Why) (base : Base) (post : Post) (row : ℕ) → asked.why_stands why base post → has_parent_why why row ≡ true → stands post 0 ≡ Some row
why_tends (FollowsHead head tail) base post row s h = let same : head ≡ row = grind (arith, nat_tests) in s ∙ ap Some same
why_tends why base post row s h = absurd (cc)

dequeue_tends : (at : DequeueAt) (post : Post) (row : ℕ) → stands post 0 ≡ Some (asked.head_in at) → has_parent_dequeue at row ≡ true → stands post 0 ≡ Some row
dequeue_tends (LoadTail head) post row s h = let same : head ≡ row = grind (arith, nat_tests) in s ∙ ap Some same
dequeue_tends at post row s h = absurd (cc)

tends : (phase : Phase) (post : Post) (row : ℕ) → asked.phase_stands phase post → has_parent phase row ≡ true → stands post 0 ≡ Some row
tends Idle post row s h = absurd (cc)
tends (Runs why base) post row s h = why_tends why base post row s h
tends (Scans later at) post row s h = absurd (cc)
tends (Works (Getting key at)) post row s h = absurd (cc)
tends (Works (Changing kept at)) post row s h = absurd (cc)
tends (Works (Enqueuing kept at)) post row s h = absurd (cc)
tends (Works (Dequeuing at)) post row s h = dequeue_tends at post row s h
tends (Works (Keeping at)) post row s h = absurd (cc)

room_of : (length : ℕ) → length ≡ 8 → 0 < length
room_of length e = omega arith

pub parents_of : (w : World) (i k : ℕ) (why : Why) (base : Base) (p : ℕ) → Seats w → asked.Parents w → (w.seat k).phase ≡ Runs why base → follows_row base p ≡ true → stands (w.seat k).post 0 ≡ Some p
parents_of w i k why base p s a e f =
    let n : ParentsNeeds w i = record { shape = λ j reason one q. run_of w j reason one s q; room = room_of (length (w.seat i).post.standing) (s.fits i).post.standing } in
    let h : Parents w = record { stand = λ j row t. tends (w.seat j).phase (w.seat j).post row (a.stand j) t } in
    parents_give w i k why base p n h e f

-- nothing stands where the seat that steps takes from what a guard publishes
right_of : (w : World) (i : ℕ) (v : View) (why : Why) (base : Base) → Agree w v → (w.seat i).phase ≡ Runs why base → runs_right why base ≡ true
right_of w i v why base a e = subst (λ (y : Phase). is_right y (list_in w i) ≡ true) e (a.plays i).right

pub rests_need : (w : World) (i : ℕ) (v : View) → Seats w → Slots w → Agree w v → RestsNeeds w i
rests_need w i v s l a = record { shape = λ why base e. run_of w i why base s e; right = λ why base e. right_of w i v why base a e; kept = λ at e. keep_in w i at l e }

pub base_need : (w : World) (i : ℕ) (v : View) (z : Asked) (why : Why) (base : Base) → i < w.layout.config.seats → is_valid w.layout ≡ true → Seats w → Eras w → Slots w → Agree w v → Requests w z → Hazards w → Rests w → (w.seat i).phase ≡ Runs why base → BaseNeeds w i base
base_need w i v z why base b d s a l g q h t e =
    let r = run_of w i why base s e in
    let n = index_in w.layout why base (w.seat i).post d (why_in w i why base l e) r in
    let m = (bounds_of w.layout d).indexes in
    record {
      fits = r.fits;
      guard = guards_fit w.layout.config i (index_base base) b n;
      index = below_length (index_base base) w.layout.config.indexes (length (w.seat i).post.standing) n m.1 (s.fits i).post.standing;
      followed = followed_of w.layout why base (w.seat i).post r;
      grows = grows_of w.layout (w.mem Clock) why base (w.seat i).post r (eras_of w i why base a e);
      rests = λ j k. rests_give w i why base j (rests_need w i v s l g) t e k;
      published = λ aim index root steps era tries o. published_of w i z why aim index root steps era tries d a q (e ∙ ap (Runs why) o) (try_plain w.layout.config.scheme w.layout.config.tries tries (subst (λ (b : Base). base_fits w.layout.config b ≡ true) o r.fits));
      links = λ aim index root steps link o. subst (λ (p : Phase). phase_shows (publishes_rows w.layout.config.scheme) w.mem i p) (e ∙ ap (Runs why) o) (h.shows i);
    }

-- the steps of a copy: a row stands at the first index, and the second is a higher one of the seat's
copy_need : (w : World) (i from index : ℕ) → i < w.layout.config.seats → is_valid w.layout ≡ true → Seats w → is_some (stands (w.seat i).post from) ≡ true → CopyIn w.layout.config from index → CopyNeeds w i from index
copy_need w i from index b d s h c =
    let m = (bounds_of w.layout d).indexes in
    record {
      stood = h;
      rises = c.rises;
      guard = guards_fit w.layout.config i index b c.below;
      room = below_length index w.layout.config.indexes (length (w.seat i).post.standing) c.below m.1 (s.fits i).post.standing;
    }

load_need : (w : World) (i from index : ℕ) → i < w.layout.config.seats → is_valid w.layout ≡ true → Seats w → Slots w → (w.seat i).phase ≡ Works (Keeping (LoadHeld from index)) → CopyNeeds w i from index
load_need w i from index b d s l e = copy_need w i from index b d s (keep_fits w i (LoadHeld from index) s e) (keep_in w i (LoadHeld from index) l e)

-- what the index word of a copy shows
pub copied_shows : (rows : Bool) (i from word number : ℕ) → held_number rows word ≡ number → published rows (Index i from) word ≡ number_shown rows number
copied_shows false i from word number e = ap (λ (era : ℕ). number_shown false era) e
copied_shows true i from word number e = ap (λ (link : ℕ). number_shown true link) e

store_need : (w : World) (i from index era : ℕ) (z : Asked) → i < w.layout.config.seats → is_valid w.layout ≡ true → Seats w → Slots w → Requests w z → Hazards w → (w.seat i).phase ≡ Works (Keeping (StoreHeld from index era)) → StoreNeeds w i from index era
store_need w i from index era z b d s l q h e =
    let f = keep_fits w i (StoreHeld from index era) s e in
    let k = known w z i d s q in
    record {
      copy = copy_need w i from index b d s f.kept (keep_in w i (StoreHeld from index era) l e);
      shows = copied_shows (publishes_rows w.layout.config.scheme) i from (w.mem (IndexOf i from)) era ((copying w z i d q h).publishes from index era e);
      tag = λ f. k.tags index;
    }

pub held_need : (w : World) (i : ℕ) (v : View) (l : Line) (z : Asked) → i < w.layout.config.seats → is_valid w.layout ≡ true → Seats w → Eras w → Slots w → Both w v l → Requests w z → asked.Parents w → Hazards w → Scanning w → Rests w → Eras (step w i) → HeldNeeds w i v
held_need w i v l z b d s a o g q p h c t n = record {
  covers = covers_need w i v l d s a g;
  scans = c;
  seat = (s.fits i).post.seat;
  base = λ why base e. base_need w i v z why base b d s a o g.rows q h t e;
  roots = roots_need w v l d a g;
  loads = λ from index e. load_need w i from index b d s o e;
  stores = λ from index era e. store_need w i from index era z b d s o q h e;
  spans = λ one. shown_span w i d a;
  spans_next = λ one. shown_span (step w i) i d n;
  eras = λ k why base e. era_most w.layout (w.mem Clock) (w.seat k).post base (a.seats k).post.span (eras_of w k why base a e);
  some = a.some;
  clock = (clock_next w i a).rises;
  parents = λ k why base r e f. parents_of w i k why base r s p e f;
}
