-- What stands is held at each position of a history's record.
use Rattle.std.proofs.Common.{ℕ, ◌≡◌, ◌-◌, ◌⊎◌, inl, inr, Bool, true, false, List, [], ◌∷◌, ◌++◌, Option, Some, None, refl, sym, ap, ◌∙◌, subst, arith, drop}
use Rattle.std.proofs.lemmas.Bool.Decides.{nat_tests}
use Rattle.std.specs.List.{list_any, list_all}
use Rattle.std.specs.Prelude.{◌==◌, ◌&&◌, ◌||◌, nat_lt, if◌then◌else◌}
use Rattle.law_scans.specs.inv.model.words.Place.{is_valid}
use Rattle.law_scans.specs.inv.model.words.declared.config.Config.{Config}
use Rattle.law_scans.specs.inv.model.words.declared.layout.Layout.{Layout}
use Rattle.law_scans.specs.inv.model.defs.declared.event.Event.{Event}
use Rattle.law_scans.specs.inv.model.defs.declared.event.Event.TheVariants as events
use Rattle.law_scans.specs.inv.model.defs.declared.event.Guard.TheVariants.{Index, Whole}
use Rattle.law_scans.specs.inv.model.defs.declared.event.Root.{Root}
use Rattle.law_scans.specs.inv.model.defs.declared.event.Root.TheVariants as roots
use Rattle.law_scans.specs.inv.model.declared.post.Post.{Post}
use Rattle.law_scans.proofs.inv.model.Frames.{after_same}
use Rattle.law_scans.specs.inv.model.Guards.{one_era, guard_at, linked_row}
use Rattle.law_scans.specs.inv.model.Locals.{told_by, told_end, turn}
use Rattle.law_scans.specs.inv.model.Memory.{bump}
use Rattle.law_scans.specs.inv.model.Posts.{stands, counted, cleared, cleared_from, publishes_index}
use Rattle.law_scans.specs.inv.model.Protect.{told_held}
use Rattle.law_scans.specs.inv.model.Steps as steps
use Rattle.law_scans.specs.inv.model.World.{World, finds, is_busy, offered, step, told_in}
use Rattle.law_scans.specs.inv.model.Phases.{Aim, Base}
use Rattle.law_scans.specs.inv.model.Phases.ProtectAt.{TakeAnswer}
use Rattle.law_scans.specs.inv.model.Phases.Base.{Protect}
use Rattle.law_scans.specs.inv.model.Calls.{ReadGuard, GiveBack, Why, Phase, Idle, Runs, Scans, Works, CallTurn, KeepAt, Loosens, LoadHeld, StoreHeld, Looks, Misses, HideSpan, MarkLeft, TakeList, MarkTaken, Work, Getting, Changing, Enqueuing, Dequeuing, Keeping}
use Rattle.law_scans.specs.inv.model.Keep as keeps
use Rattle.law_scans.specs.inv.model.Rounds.{let_index, scheme_of}
use Rattle.law_scans.specs.inv.model.words.Schemes.{has_one_interval, publishes_rows}
use Rattle.law_scans.proofs.inv.Contents.Stands.Rounds.{is_clear}
use Rattle.law_scans.proofs.inv.model.Facts.{both, same_number, first_of, rest_of, implies_or, or_left_true, or_more, then_of}
use Rattle.law_scans.proofs.inv.covers.Resting.{rests_give}
use Rattle.law_scans.proofs.inv.ends.Ends.Held.{held_stands}
use Rattle.law_scans.specs.inv.shapes.Seats.{Seats}
use Rattle.law_scans.specs.inv.history.History.{Item, Begins, Steps, Made, fits, done, done_if, made_of, record_of, world_of}
use Rattle.law_scans.proofs.reuse.history.Along.{low_seat, paths_keep}
use Rattle.law_scans.specs.laws.HoldLaw.{is_held}
use Rattle.law_scans.proofs.reuse.Holding.Holds.{records_hold}
use Rattle.law_scans.specs.inv.Inv.{Inv}
use Rattle.law_scans.proofs.inv.Inv.Guards.{rests_need}
use Rattle.law_scans.proofs.inv.Inv.Reached.{inv_reached}
use Rattle.law_scans.specs.laws.records.Record.{Past, Each, EachEntry, tells_of}
use Rattle.law_scans.proofs.laws.records.Entries.{entries_of_each}
use Rattle.law_scans.proofs.reuse.history.AllOf.{all_of, of_along}
use Rattle.law_scans.specs.laws.StateAt.{stood_at, is_row}
use Rattle.law_scans.proofs.reuse.Reuse.Keeps.{record_stands}
use Rattle.law_scans.proofs.laws.Along.{row_of}
use Rattle.law_held.proofs.Roots.Ways.{Turning}
use Rattle.law_scans.proofs.inv.ends.Told.Rows.{own_told, own_post, step_adds}
use Rattle.law_scans.proofs.inv.ends.Told.Turns.{Adds, is_later}
use Rattle.law_held.specs.Records.{RecordsHoldThroughout}
use Rattle.law_held.proofs.Held.Flat.{is_flat, is_settled, is_at, comes, settled_flat, all_flat, holds_ok, Good, late_each, take_each, copy_each, plain_each, is_still}
use Rattle.law_held.proofs.Held.Forms.{Shape, Even, Late, end_settled, run_shape, back_shape, turn_settled}
use Rattle.law_held.proofs.Resting.Resting.{next_made}
use Rattle.law_scans.specs.inv.model.defs.Events.{is_held as event_is_held}
use Rattle.law_scans.specs.inv.ends.Stands.{is_copied}
use Rattle.law_scans.proofs.inv.ends.Ends.Copied.{copy_stands}
use Rattle.law_scans.proofs.reuse.history.Passes.{copied_told, keep_told}
use Rattle.law_scans.proofs.inv.ends.Handover.Asks.{run_of}
use Rattle.law_scans.proofs.reuse.AnswersTold.Owed.{append_none}
use Rattle.law_scans.proofs.reuse.AnswersTold.Answering.{append_one}
use Rattle.law_scans.proofs.reuse.history.MayTell.{takes, cleared_from_all}
use Rattle.law_scans.specs.inv.model.Desks.{Desk}
use Rattle.law_scans.proofs.reuse.ReadGuards.{reads_are}

-- the ends of a step
good_at : (layout : Layout) (path : List Item) (k j s : ℕ) → is_valid layout ≡ true → Good layout.config k j s (record_of layout path)
good_at layout path k j s d = λ r. records_hold layout path k j s d (row_of s (stood_at k j (record_of layout path)) r)

good_next : (layout : Layout) (path : List Item) (i k j s : ℕ) → is_valid layout ≡ true → Turning layout path i → Good layout.config k j s (tells_of (record_of layout path) i (told_in (world_of layout path) i))
good_next layout path i k j s d t = subst (λ (m : Made). Good layout.config k j s m.past) (next_made layout path i t) (good_at layout (path ++ Steps i ∷ []) k j s d)

-- a row that comes to stand is held, or copied from somewhere
record Copies (j s : ℕ) (told : List Event) : Type 0 where
  from : ℕ
  is : list_any (is_copied from j s) told ≡ true

abbrev Came : (j s : ℕ) → List Event → Type 0
Came j s told = (list_any (event_is_held j s) told ≡ true) ⊎ Copies j s told

came_more : (j s : ℕ) (event : Event) (told : List Event) → Came j s told → Came j s (event ∷ told)
came_more j s event told (inl h) = inl (or_more (event_is_held j s event) (list_any (event_is_held j s) told) h)
came_more j s event told (inr x) = inr (record { from = x.from; is = or_more (is_copied x.from j s event) (list_any (is_copied x.from j s) told) x.is })

came_here : (j s : ℕ) (event : Event) (told : List Event) → comes j s event ≡ true → Came j s (event ∷ told)
came_here j s (events.Held index slot steps) told h = inl (or_left_true ((index == j) && (slot == s)) (list_any (event_is_held j s) told) h)
came_here j s (events.Copied from index slot) told h =
    inr (record { from = from; is = or_left_true (is_copied from j s (events.Copied from index slot)) (list_any (is_copied from j s) told) (both (from == from) ((index == j) && (slot == s)) (same_number from) h) })
came_here j s event told h = absurd (cc)

came_by : (j s : ℕ) (event : Event) (told : List Event) (here : Bool) → comes j s event ≡ here → (list_any (comes j s) told ≡ true → Came j s told) → (here || list_any (comes j s) told) ≡ true → Came j s (event ∷ told)
came_by j s event told true e f h = came_here j s event told e
came_by j s event told false e f h = came_more j s event told (f h)

came : (j s : ℕ) (told : List Event) → list_any (comes j s) told ≡ true → Came j s told
came j s [] h = absurd (cc)
came j s (event ∷ told) h = came_by j s event told (comes j s event) refl (λ k. came j s told k) h

comes_stands : (w : World) (i j s : ℕ) → Inv w → Came j s (told_in w i) → stands ((step w i).seat i).post j ≡ Some s
comes_stands w i j s a (inl h) = held_stands w i j s a.known.seats h
comes_stands w i j s a (inr x) = (copy_stands w i x.from j s a.known.valid a.known.seats a.known.slots x.is).now

stands_next : (layout : Layout) (path : List Item) (i k j s : ℕ) → is_valid layout ≡ true → Turning layout path i → list_any (comes j s) (told_in (world_of layout path) i) ≡ true → (k == i) ≡ true → is_row s (stood_at k j (tells_of (record_of layout path) i (told_in (world_of layout path) i))) ≡ true
stands_next layout path i k j s d t h o =
    let w : World = world_of layout path in
    let a : Inv w = inv_reached layout path d in
    let one : k ≡ i = grind (arith, nat_tests) in
    let later : stands ((step w i).seat i).post j ≡ Some s = comes_stands w i j s a (came j s (told_in w i) h) in
    let said : stood_at i j (done (made_of layout path) (Steps i)).past ≡ stands ((done (made_of layout path) (Steps i)).world.seat i).post j =
    subst (λ (m : Made). stood_at i j m.past ≡ stands (m.world.seat i).post j) (next_made layout path i t) (record_stands layout (path ++ Steps i ∷ []) i j d) in
    subst (λ (n : ℕ). is_row s (stood_at n j (tells_of (record_of layout path) i (told_in w i))) ≡ true) (sym one) (ap (is_row s) (said ∙ later) ∙ same_number s)

-- what is known of a step
record Ends (c : Config) (k j s i : ℕ) (p : Past) (es : List Event) : Type 0 where
  now : Good c k j s p
  last : Good c k j s (tells_of p i es)
  held : list_any (comes j s) es ≡ true → (k == i) ≡ true → is_row s (stood_at k j (tells_of p i es)) ≡ true

ends_as : (c : Config) (k j s i : ℕ) (p : Past) (xs ys : List Event) → xs ≡ ys → Ends c k j s i p xs → Ends c k j s i p ys
ends_as c k j s i p xs ys e h = subst (Ends c k j s i p) e h

-- it changes nothing of guards and lives, or last does
later_flat : (es : List Event) → list_all is_later es ≡ true → all_of is_flat es ≡ true
later_flat [] h = refl
later_flat (event ∷ es) h =
    let a : is_later event ≡ true = grind (arith, nat_tests) in
    let b : list_all is_later es ≡ true = grind (arith, nat_tests) in
    rw (one event a, later_flat es b) refl
  where
    one : (event : Event) → is_later event ≡ true → is_flat event ≡ true
    one (events.Reserve guard span) q = absurd (cc)
    one (events.Hazard guard slot) q = absurd (cc)
    one (events.Give slot birth) q = absurd (cc)
    one (events.Unused slot) q = absurd (cc)
    one (events.Retire slot birth retire) q = absurd (cc)
    one (events.Back slot) q = absurd (cc)
    one event q = refl

shape_each : (c : Config) (k j s i : ℕ) (p : Past) (own all more : List Event) → all ≡ own ++ more → list_all is_later more ≡ true → Shape own all → Ends c k j s i p all → Each (holds_ok c k j s) p → Each (holds_ok c k j s) (tells_of p i all)
shape_each c k j s i p own all more q l (Even f) e g =
    let flat : all_of is_flat all ≡ true = subst (λ (es : List Event). all_of is_flat es ≡ true) (sym q) (of_along is_flat own more f (later_flat more l)) in
    plain_each c k j s i all p flat e.now e.last e.held g
shape_each c k j s i p own all more q l (Late a b) e g =
    let is : all ≡ a.first ++ a.event ∷ b.more = b.is ∙ ap (λ (es : List Event). es ++ b.more) a.is ∙ append_one a.first b.more a.event in
    let x = ends_as c k j s i p all (a.first ++ a.event ∷ b.more) is e in
    subst (λ (es : List Event). Each (holds_ok c k j s) (tells_of p i es)) (sym is) (late_each c k j s i a.first b.more a.event p a.clears b.calm x.now x.last g)

-- an answer is taken
two_at : (index slot n : ℕ) (null : Bool) → all_of (is_at index) (if null then events.Null index n ∷ [] else events.Held index slot n ∷ []) ≡ true
two_at index slot n true = refl
two_at index slot n false = rw (same_number index) refl

one_at : (index n : ℕ) (null : Bool) → all_of (is_at index) (if null then events.Null index n ∷ [] else []) ≡ true
one_at index n true = refl
one_at index n false = refl

held_at : (index : ℕ) (root : Root) (link n : ℕ) → all_of (is_at index) (told_held index root link n) ≡ true
held_at index (roots.Bucket bucket) link n = two_at index (link - 1) n (link == 0)
held_at index (roots.Next parent) link n = one_at index n (link == 0)
held_at index roots.Head link n = two_at index (link - 1) n (link == 0)
held_at index roots.Tail link n = two_at index (link - 1) n (link == 0)

none_here : (k j i index : ℕ) (p : Past) → stood_at i index p ≡ None → ((k == i) && (j == index)) ≡ true → stood_at k j p ≡ None
none_here k j i index p n h =
    let a : i ≡ k = grind (arith, nat_tests) in
    let b : index ≡ j = grind (arith, nat_tests) in
    subst (λ (x : ℕ). stood_at k x p ≡ None) b (subst (λ (x : ℕ). stood_at x index p ≡ None) a n)

taking_each : (c : Config) (k j s : ℕ) (w : World) (i : ℕ) (p : Past) (why : Why) (aim : Aim) (index : ℕ) (root : Root) (made link era : ℕ) → (w.seat i).phase ≡ Runs why (Protect aim index root made (TakeAnswer link era)) → stood_at i index p ≡ None → Ends c k j s i p (told_in w i) → Each (holds_ok c k j s) p → Each (holds_ok c k j s) (tells_of p i (told_in w i))
taking_each c k j s w i p why aim index root made link era q n e g =
    let event : Event = events.Reserve (Index (counted (w.seat i).post).seat index) (one_era era) in
    let more : List Event = told_held index root link (bump made) in
    let is : told_in w i ≡ event ∷ more =
    ap (λ (x : Phase). told_by (steps.phase_turn x (counted (w.seat i).post) (offered w i).desk (finds w i))) q ∙ append_none (event ∷ more) in
    let x = ends_as c k j s i p (told_in w i) (event ∷ more) is e in
    subst (λ (es : List Event). Each (holds_ok c k j s) (tells_of p i es)) (sym is)
    (take_each c k j s i index event more p refl (held_at index root link (bump made)) (λ h. none_here k j i index p n h) x.now x.last x.held g)

-- of each phase
adds_each : (c : Config) (k j s : ℕ) (w : World) (i : ℕ) (p : Past) → Shape (own_told (w.seat i).phase (counted (w.seat i).post) (finds w i)) (told_in w i) → Ends c k j s i p (told_in w i) → Each (holds_ok c k j s) p → Each (holds_ok c k j s) (tells_of p i (told_in w i))
adds_each c k j s w i p f e g =
    let own : List Event = own_told (w.seat i).phase (counted (w.seat i).post) (finds w i) in
    let x : Adds (own_post (w.seat i).phase (counted (w.seat i).post) (finds w i)) own (turn (offered w i) (finds w i)) = step_adds w i in
    shape_each c k j s i p own (told_in w i) x.more x.is x.later f e g

abbrev ShapeIn : World → ℕ → Phase → Type 0
ShapeIn w i phase = Shape (own_told phase (counted (w.seat i).post) (finds w i)) (told_by (steps.phase_turn phase (counted (w.seat i).post) (offered w i).desk (finds w i)))

phase_as : (w : World) (i : ℕ) (phase : Phase) → (w.seat i).phase ≡ phase → ShapeIn w i phase → ShapeIn w i (w.seat i).phase
phase_as w i phase q f = subst (ShapeIn w i) (sym q) f

not_taking_each : (c : Config) (k j s : ℕ) (w : World) (i : ℕ) (p : Past) (why : Why) (base : Base) → (w.seat i).phase ≡ Runs why base → takes base ≡ false → Seats w → Ends c k j s i p (told_in w i) → Each (holds_ok c k j s) p → Each (holds_ok c k j s) (tells_of p i (told_in w i))
not_taking_each c k j s w i p why base q t a e g =
    let post : Post = counted (w.seat i).post in
    let same = (after_same base post (finds w i)).layout ∙ (a.fits i).post.layout in
    adds_each c k j s w i p (phase_as w i (Runs why base) q (run_shape w.layout why base (w.seat i).post post (offered w i).desk (finds w i) same (run_of w i why base a q) t)) e g

run_each : (c : Config) (k j s : ℕ) (w : World) (i : ℕ) (p : Past) (why : Why) (base : Base) → (w.seat i).phase ≡ Runs why base → Inv w → ((n : ℕ) → stood_at i n p ≡ stands (w.seat i).post n) → Ends c k j s i p (told_in w i) → Each (holds_ok c k j s) p → Each (holds_ok c k j s) (tells_of p i (told_in w i))
run_each c k j s w i p why (Protect aim index root made (TakeAnswer link era)) q a t e g =
    let n = rests_give w i why (Protect aim index root made (TakeAnswer link era)) index (rests_need w i a.rows a.known.seats a.known.slots a.known.whole.both.rows) a.known.rests q (same_number index) in
    taking_each c k j s w i p why aim index root made link era q (t index ∙ n) e g
run_each c k j s w i p why base q a t e g = not_taking_each c k j s w i p why base q refl a.known.seats e g

-- a step on what is kept
cleared_flat : (index : ℕ) (x : Option ℕ) → all_of is_flat (cleared index x) ≡ true
cleared_flat index None = refl
cleared_flat index (Some slot) = refl

copied_flat : (from index : ℕ) (post : Post) (x : Option ℕ) → all_of is_flat (copied_told from index post [] x) ≡ true
copied_flat from index post None = refl
copied_flat from index post (Some slot) =
    of_along is_flat (cleared index (stands post index) ++ []) (events.Copied from index slot ∷ []) (of_along is_flat (cleared index (stands post index)) [] (cleared_flat index (stands post index)) refl) refl

load_flat : (from index : ℕ) (post : Post) (one : Bool) → all_of is_flat (if one then copied_told from index post [] (stands post from) else []) ≡ true
load_flat from index post true = copied_flat from index post (stands post from)
load_flat from index post false = refl

cleared_clears : (index : ℕ) (x : Option ℕ) → all_of is_clear (cleared index x) ≡ true
cleared_clears index None = refl
cleared_clears index (Some slot) = refl

gone_here : (k j i index : ℕ) (p : Past) (x : Option ℕ) → stood_at i index p ≡ x → ((k == i) && (j == index)) ≡ true → stood_at k j (tells_of p i (cleared index x)) ≡ None
gone_here k j i index p None e h = none_here k j i index p e h
gone_here k j i index p (Some slot) e h = rw (first_of (k == i) (j == index) h, rest_of (k == i) (j == index) h) refl

settled_at : (at : ℕ) (told : List Event) → all_of is_settled told ≡ true → all_of (is_at at) told ≡ true
settled_at at [] h = refl
settled_at at (event ∷ told) h = both (is_at at event) (all_of (is_at at) told) (one event (first_of (is_settled event) (all_of is_settled told) h)) (settled_at at told (rest_of (is_settled event) (all_of is_settled told) h))
  where
    one : (event : Event) → is_settled event ≡ true → is_at at event ≡ true
    one (events.Held index slot steps) q = absurd (cc)
    one (events.Copied from index slot) q = absurd (cc)
    one event q = q

three_apart : (xs : List Event) (y z : Event) (ws : List Event) → ((xs ++ y ∷ []) ++ z ∷ []) ++ ws ≡ xs ++ y ∷ z ∷ ws
three_apart [] y z ws = refl
three_apart (x ∷ xs) y z ws = ap (λ (es : List Event). x ∷ es) (three_apart xs y z ws)

store_by : (c : Config) (k j s i : ℕ) (p : Past) (post : Post) (from index : ℕ) (y : Event) (x : Option ℕ) (more : List Event) → is_still y ≡ true → stood_at i index p ≡ stands post index → all_of is_settled more ≡ true → Ends c k j s i p (copied_told from index post (y ∷ []) x ++ more) → Each (holds_ok c k j s) p → Each (holds_ok c k j s) (tells_of p i (copied_told from index post (y ∷ []) x ++ more))
store_by c k j s i p post from index y None more z o m e g = plain_each c k j s i more p (all_flat is_settled more settled_flat m) e.now e.last e.held g
store_by c k j s i p post from index y (Some slot) more z o m e g =
    let first : List Event = cleared index (stands post index) in
    let later : List Event = events.Copied from index slot ∷ more in
    let is = three_apart first y (events.Copied from index slot) more in
    let x = ends_as c k j s i p (copied_told from index post (y ∷ []) (Some slot) ++ more) (first ++ y ∷ later) is e in
    let at : all_of (is_at index) later ≡ true = both (index == index) (all_of (is_at index) more) (same_number index) (settled_at index more m) in
    subst (λ (es : List Event). Each (holds_ok c k j s) (tells_of p i es)) (sym is)
    (copy_each c k j s i index y first later p z (cleared_clears index (stands post index)) at (λ h. gone_here k j i index p (stands post index) o h) x.now x.last
    (λ h r. x.held (any_later j s first (y ∷ later) (or_more (comes j s y) (list_any (comes j s) later) h)) r) g)
  where
    any_later : (j s : ℕ) (xs ys : List Event) → list_any (comes j s) ys ≡ true → list_any (comes j s) (xs ++ ys) ≡ true
    any_later j s [] ys h = h
    any_later j s (event ∷ xs) ys h = or_more (comes j s event) (list_any (comes j s) (xs ++ ys)) (any_later j s xs ys h)

copied_said : (from index : ℕ) (post : Post) (desk : Desk) (reserved : List Event) (x : Option ℕ) → (keeps.copied from index post desk reserved x).told ≡ copied_told from index post reserved x
copied_said from index post desk reserved None = refl
copied_said from index post desk reserved (Some slot) = refl

-- where a seat leaves with its interval, rows are cleared, and last the interval is withdrawn
hide_shape : (w : World) (i : ℕ) → ShapeIn w i (Works (Keeping HideSpan))
hide_shape w i =
    let post : Post = counted (w.seat i).post in
    let first : List Event = cleared_from 2 (drop 2 post.standing) in
    Late (record { first = first; event = events.Reserve (Whole post.seat) None; is = refl; clears = cleared_from_all is_clear 2 (drop 2 post.standing) (λ index slot. refl) })
    (turn_settled (keep_told HideSpan post) (keeps.keep_turn HideSpan post (offered w i).desk (finds w i)) refl)

-- what an index word is told to publish
abbrev shown_one : (rows : Bool) → Post → (index number : ℕ) → Event
shown_one false post index number = events.Reserve (Index post.seat index) (one_era number)
shown_one true post index number = events.Hazard (Index post.seat index) (linked_row number)

shown_is : (rows : Bool) (post : Post) (index number : ℕ) → publishes_index rows post index number ≡ shown_one rows post index number ∷ []
shown_is false post index number = refl
shown_is true post index number = refl

shown_still : (rows : Bool) (post : Post) (index number : ℕ) → is_still (shown_one rows post index number) ≡ true
shown_still false post index number = refl
shown_still true post index number = refl

store_each : (c : Config) (k j s : ℕ) (w : World) (i : ℕ) (p : Past) (from index era : ℕ) → (w.seat i).phase ≡ Works (Keeping (StoreHeld from index era)) → ((n : ℕ) → stood_at i n p ≡ stands (w.seat i).post n) → Ends c k j s i p (told_in w i) → Each (holds_ok c k j s) p → Each (holds_ok c k j s) (tells_of p i (told_in w i))
store_each c k j s w i p from index era q o e g =
    let post : Post = counted (w.seat i).post in
    let at : KeepAt = StoreHeld from index era in
    let rows : Bool = publishes_rows (scheme_of post) in
    let t : CallTurn = keeps.keep_turn at post (offered w i).desk (finds w i) in
    let more : List Event = told_end t.post t.outcome in
    let y : Event = shown_one rows post index era in
    let is : told_in w i ≡ copied_told from index post (y ∷ []) (stands post from) ++ more =
    ap (λ (x : Phase). told_by (steps.phase_turn x post (offered w i).desk (finds w i))) q
    ∙ ap (λ (es : List Event). es ++ more) (copied_said from index post (offered w i).desk (publishes_index rows post index era) (stands post from))
    ∙ ap (λ (es : List Event). copied_told from index post es (stands post from) ++ more) (shown_is rows post index era) in
    subst (λ (es : List Event). Each (holds_ok c k j s) (tells_of p i es)) (sym is)
    (store_by c k j s i p post from index y (stands post from) more (shown_still rows post index era) (o index) (end_settled t.post t.outcome) (ends_as c k j s i p (told_in w i) (copied_told from index post (y ∷ []) (stands post from) ++ more) is e) g)

work_each : (c : Config) (k j s : ℕ) (w : World) (i : ℕ) (p : Past) (work : Work) → (w.seat i).phase ≡ Works work → ((n : ℕ) → stood_at i n p ≡ stands (w.seat i).post n) → Ends c k j s i p (told_in w i) → Each (holds_ok c k j s) p → Each (holds_ok c k j s) (tells_of p i (told_in w i))
work_each c k j s w i p (Keeping (StoreHeld from index era)) q t e g = store_each c k j s w i p from index era q t e g
work_each c k j s w i p (Keeping (LoadHeld from index)) q t e g = adds_each c k j s w i p (phase_as w i (Works (Keeping (LoadHeld from index))) q (Even (load_flat from index (counted (w.seat i).post) (has_one_interval (scheme_of (counted (w.seat i).post)))))) e g
work_each c k j s w i p (Keeping (Loosens let_go)) q t e g = adds_each c k j s w i p (phase_as w i (Works (Keeping (Loosens let_go))) q (Even (cleared_flat (let_index let_go) (stands (w.seat i).post (let_index let_go))))) e g
work_each c k j s w i p (Keeping (Looks index key at)) q t e g = adds_each c k j s w i p (phase_as w i (Works (Keeping (Looks index key at))) q (Even refl)) e g
work_each c k j s w i p (Keeping (Misses index)) q t e g = adds_each c k j s w i p (phase_as w i (Works (Keeping (Misses index))) q (Even refl)) e g
work_each c k j s w i p (Keeping HideSpan) q t e g = adds_each c k j s w i p (phase_as w i (Works (Keeping HideSpan)) q (hide_shape w i)) e g
work_each c k j s w i p (Keeping MarkLeft) q t e g = adds_each c k j s w i p (phase_as w i (Works (Keeping MarkLeft)) q (Even refl)) e g
work_each c k j s w i p (Keeping (TakeList place)) q t e g = adds_each c k j s w i p (phase_as w i (Works (Keeping (TakeList place))) q (Even refl)) e g
work_each c k j s w i p (Keeping (MarkTaken place count)) q t e g = adds_each c k j s w i p (phase_as w i (Works (Keeping (MarkTaken place count))) q (Even refl)) e g
work_each c k j s w i p (Getting key at) q t e g = adds_each c k j s w i p (phase_as w i (Works (Getting key at)) q (Even refl)) e g
work_each c k j s w i p (Changing kept at) q t e g = adds_each c k j s w i p (phase_as w i (Works (Changing kept at)) q (Even refl)) e g
work_each c k j s w i p (Enqueuing kept at) q t e g = adds_each c k j s w i p (phase_as w i (Works (Enqueuing kept at)) q (Even refl)) e g
work_each c k j s w i p (Dequeuing at) q t e g = adds_each c k j s w i p (phase_as w i (Works (Dequeuing at)) q (Even refl)) e g

phase_each : (c : Config) (k j s : ℕ) (w : World) (i : ℕ) (p : Past) (phase : Phase) → (w.seat i).phase ≡ phase → Inv w → ((n : ℕ) → stood_at i n p ≡ stands (w.seat i).post n) → Ends c k j s i p (told_in w i) → Each (holds_ok c k j s) p → Each (holds_ok c k j s) (tells_of p i (told_in w i))
phase_each c k j s w i p Idle q a t e g = adds_each c k j s w i p (phase_as w i Idle q (Even refl)) e g
phase_each c k j s w i p (Runs why base) q a t e g = run_each c k j s w i p why base q a t e g
phase_each c k j s w i p (Scans later (ReadGuard number)) q a t e g = adds_each c k j s w i p (phase_as w i (Scans later (ReadGuard number)) q (Even (reads_are (λ event. all_of is_flat (event ∷ []) ≡ true) (publishes_rows (w.seat i).post.layout.config.scheme) (guard_at (w.seat i).post.layout.config number) (finds w i) (λ span. refl) (λ slot. refl)))) e g
phase_each c k j s w i p (Scans later (GiveBack place slot)) q a t e g = adds_each c k j s w i p (phase_as w i (Scans later (GiveBack place slot)) q (back_shape later place slot (counted (w.seat i).post) (offered w i).desk (finds w i))) e g
phase_each c k j s w i p (Works work) q a t e g = work_each c k j s w i p work q t e g

-- along a history
step_each : (layout : Layout) (path : List Item) (i k j s : ℕ) → is_valid layout ≡ true → Turning layout path i → Each (holds_ok layout.config k j s) (record_of layout path) → Each (holds_ok layout.config k j s) (tells_of (record_of layout path) i (told_in (world_of layout path) i))
step_each layout path i k j s d t g =
    let w : World = world_of layout path in
    phase_each layout.config k j s w i (record_of layout path) (w.seat i).phase refl (inv_reached layout path d) (λ n. record_stands layout path i n d)
    (record { now = good_at layout path k j s d; last = good_next layout path i k j s d t; held = λ h o. stands_next layout path i k j s d t h o }) g

item_each : (layout : Layout) (path : List Item) (item : Item) (fit : Bool) (k j s : ℕ) → is_valid layout ≡ true → fits (world_of layout path) item ≡ fit → Each (holds_ok layout.config k j s) (record_of layout path) → Each (holds_ok layout.config k j s) (done_if (made_of layout path) item fit).past
item_each layout path item false k j s d f g = g
item_each layout path (Begins i call) true k j s d f g = (implies_or (is_row s (stood_at k j (record_of layout path))) (is_held layout.config k j s (record_of layout path)) (good_at layout path k j s d), g)
item_each layout path (Steps i) true k j s d f g =
    let w : World = world_of layout path in
    step_each layout path i k j s d (record { seat = low_seat i w.layout.config.seats (is_busy w i) f; busy = rest_of (nat_lt i w.layout.config.seats) (is_busy w i) f }) g

record_holds : (layout : Layout) (items : List Item) (k j s : ℕ) → is_valid layout ≡ true → EachEntry (holds_ok layout.config k j s) (record_of layout items)
record_holds layout items k j s d =
    entries_of_each (holds_ok layout.config k j s) (record_of layout items)
    (paths_keep layout (λ (made : Made). Each (holds_ok layout.config k j s) made.past) (λ path item fit f g. item_each layout path item fit k j s d f g) tt items)

pub records_hold_throughout : RecordsHoldThroughout
records_hold_throughout layout items d before [] k j s cut t =
    subst (λ (p : Past). is_held layout.config k j s p ≡ true) cut (records_hold layout items k j s d (ap (stood_at k j) cut ∙ t))
records_hold_throughout layout items d before (entry ∷ later) k j s cut t =
    then_of (is_row s (stood_at k j before)) (is_held layout.config k j s before) (ap (is_row s) t ∙ same_number s) (record_holds layout items k j s d before entry.seat entry.event later cut)
