-- What a step clears stood where it is told, and so does what it copies.
use Rattle.std.proofs.Common.{ℕ, ◌≡◌, ◌<◌, ◌+◌, ◌-◌, Bool, true, false, List, [], ◌∷◌, ◌++◌, length, Option, Some, None, refl, sym, ap, ◌∙◌, subst, arith, drop, get_or, suc, ◌≤◌}
use Rattle.std.proofs.lemmas.Bool.Decides.{nat_tests}
use Rattle.std.specs.List.{list_any}
use Rattle.std.specs.Prelude.{◌==◌, ◌&&◌, ◌||◌, not, if◌then◌else◌}
use Rattle.law_scans.proofs.inv.model.Ranges.{bounds_of}
use Rattle.law_scans.specs.inv.model.words.Place.{is_valid}
use Rattle.law_scans.specs.inv.model.words.Schemes.{has_one_interval, publishes_rows}
use Rattle.law_scans.specs.inv.model.words.declared.config.Config.{Config}
use Rattle.law_scans.specs.inv.model.words.declared.config.SchemeKind.{SchemeKind}
use Rattle.law_scans.specs.inv.model.words.declared.config.SchemeKind.TheVariants.{He, Hp, Ibr, Wfe}
use Rattle.law_scans.specs.inv.model.words.declared.layout.Layout.{Layout}
use Rattle.law_scans.specs.inv.model.defs.declared.event.Event.{Event}
use Rattle.law_scans.specs.inv.model.defs.declared.event.Event.TheVariants as events
use Rattle.law_scans.specs.inv.model.defs.declared.event.Root.{Root}
use Rattle.law_scans.specs.inv.model.defs.declared.event.Root.TheVariants as roots
use Rattle.law_scans.specs.inv.model.declared.post.Post.{Post}
use Rattle.law_scans.specs.inv.model.Calls.{Why, Phase, Idle, Runs, Scans, Works, ScanAt, ReadGuard, GiveBack, Work, Getting, Changing, Enqueuing, Dequeuing, Keeping, Loosens, LoadHeld, StoreHeld, Looks, Misses, HideSpan, MarkLeft, TakeList, MarkTaken}
use Rattle.law_scans.specs.inv.model.Machine as machine
use Rattle.law_scans.specs.inv.model.Memory.{bump}
use Rattle.law_scans.specs.inv.model.Phases.{ProtectAt, Base}
use Rattle.law_scans.specs.inv.model.Phases.ProtectAt.{CheckClock, TakeAnswer, CheckUpper, ByHazard}
use Rattle.law_scans.specs.inv.model.Phases.Base.{Begin, Protect, Reload, Clear, Finish, Release, Allocate, Write, GiveUp, Retire, Move}
use Rattle.law_scans.specs.inv.model.Posts.{stands, counted, cleared, upper, publishes_index, reserves_span, cleared_from}
use Rattle.law_scans.specs.inv.model.Protect.{told_held}
use Rattle.law_scans.specs.inv.model.Rounds.{scheme_of, clear_told, let_index}
use Rattle.law_scans.specs.inv.model.World.{World, finds, offered, told_in}
use Rattle.law_scans.proofs.inv.model.Facts.{same_number, first_of, rest_of, and_right_false, below_length}
use Rattle.law_scans.specs.inv.covers.Held.{index_base}
use Rattle.law_scans.proofs.inv.ends.Ends.Tests.{Calm, at_shows, base_shows, base_any}
use Rattle.law_scans.specs.inv.shapes.Seats.{Seats}
use Rattle.law_scans.specs.inv.shapes.Slots.{PhaseIn, Slots, WorkIn}
use Rattle.law_scans.specs.inv.history.History.{Item, record_of, world_of}
use Rattle.law_scans.specs.laws.records.Record.{Past, Each, EachEntry, tells_of}
use Rattle.law_scans.specs.laws.records.Record.Past.{Then}
use Rattle.law_scans.proofs.laws.Tells.{AllRight}
use Rattle.law_scans.specs.laws.StateAt.{stood_by, stood_at, is_row}
use Rattle.law_scans.proofs.reuse.Reuse.Follows.{stood, stood_along, Follow, follow_closed, base_follows, copy_index, work_follows}
use Rattle.law_scans.proofs.reuse.Reuse.Keeps.{record_stands, room_of}
use Rattle.law_scans.proofs.reuse.history.Passes.{is_quiet, all_quiet, Closed, First, copied_told, scan_told, step_goes, work_told}
use Rattle.law_held.specs.Records.{RecordsClearRows}
use Rattle.law_held.proofs.Roots.Ways.{Along, record_each, answers_of}
use Rattle.law_scans.proofs.inv.model.Lists.{or_left, or_right}
use Rattle.law_scans.specs.inv.covers.Rests.{Rests, Vacant, spare, vacant}
use Rattle.std.proofs.lemmas.List.{get_or-drop}
use Rattle.law_scans.specs.inv.model.Phases.HazardAt.{FirstLink, CheckLink}
use Rattle.law_scans.proofs.reuse.ReadGuards.{reads_are}
use Rattle.law_scans.specs.inv.model.Guards.{guard_at}

-- at one index: what is cleared there stood there, and what is copied from there stands there
abbrev pub clear_right : ℕ → Event → Option ℕ → Bool
clear_right j (events.Clear index slot) x = not (j == index) || is_row slot x
clear_right j (events.Copied from index slot) x = not (j == from) || is_row slot x
clear_right j event x = true

abbrev RightAt : ℕ → List Event → Option ℕ → Type 0
RightAt j told x = AllRight (stood_by j) (clear_right j) told x

right_along : (j : ℕ) (xs ys : List Event) (x : Option ℕ) → RightAt j xs x → RightAt j ys (stood j xs x) → RightAt j (xs ++ ys) x
right_along j [] ys x h k = k
right_along j (event ∷ xs) ys x h k = (h.0, right_along j xs ys (stood_by j event x) h.1 k)

-- where nothing is cleared
quiet_one : (j : ℕ) (event : Event) (x : Option ℕ) → is_quiet event ≡ true → clear_right j event x ≡ true
quiet_one j (events.Clear index slot) x h = absurd (cc)
quiet_one j (events.Copied from index slot) x h = absurd (cc)
quiet_one j event x h = refl

quiet_right : (j : ℕ) (told : List Event) (x : Option ℕ) → all_quiet told ≡ true → RightAt j told x
quiet_right j [] x h = tt
quiet_right j (event ∷ told) x h = (quiet_one j event x (first_of (is_quiet event) (all_quiet told) h), quiet_right j told (stood_by j event x) (rest_of (is_quiet event) (all_quiet told) h))

-- a row is cleared at the index, or copied
abbrev is_moved : (j s : ℕ) → Event → Bool
is_moved j s (events.Clear index slot) = (index == j) && (slot == s)
is_moved j s (events.Copied from index slot) = true
is_moved j s event = false

moved_calm : (j s : ℕ) → Calm (is_moved j s)
moved_calm j s = record { reserve = λ g x. refl; hazard = λ g x. refl; saw = λ g x. refl; read = λ g x. refl; era = λ e. refl; give = λ a b. refl; unused = λ a. refl; retire = λ a b r. refl; back = λ a. refl }

none_one : (j : ℕ) (event : Event) (x : Option ℕ) → ((s : ℕ) → is_moved j s event ≡ false) → clear_right j event x ≡ true
none_one j (events.Clear index slot) x h =
    let same : (slot == slot) ≡ true = same_number slot in
    let other : (index == j && slot == slot) ≡ false = h slot in
    let none : (j == index) ≡ false = grind (arith, nat_tests) in
    rw none refl
none_one j (events.Copied from index slot) x h = let e = h 0 in absurd (cc)
none_one j event x h = refl

none_right : (j : ℕ) (told : List Event) (x : Option ℕ) → ((s : ℕ) → list_any (is_moved j s) told ≡ false) → RightAt j told x
none_right j [] x h = tt
none_right j (event ∷ told) x h = (
  none_one j event x (λ s. or_left (is_moved j s event) (list_any (is_moved j s) told) (h s)),
  none_right j told (stood_by j event x) (λ s. or_right (is_moved j s event) (list_any (is_moved j s) told) (h s)),
)

-- what is cleared stands
pub row_there : (slot : ℕ) (x : Option ℕ) → x ≡ Some slot → is_row slot x ≡ true
row_there slot x e = ap (is_row slot) e ∙ same_number slot

there_right : (j index slot : ℕ) (post : Post) (same : Bool) → (j == index) ≡ same → stands post index ≡ Some slot → (not same || is_row slot (stands post j)) ≡ true
there_right j index slot post true e h = let q : j ≡ index = grind (arith, nat_tests) in row_there slot (stands post j) (ap (stands post) q ∙ h)
there_right j index slot post false e h = refl

cleared_right : (j index : ℕ) (post : Post) (x : Option ℕ) → stands post index ≡ x → RightAt j (cleared index x) (stands post j)
cleared_right j index post None h = tt
cleared_right j index post (Some slot) h = (there_right j index slot post (j == index) refl h, tt)

told_right : (j index : ℕ) (scheme : SchemeKind) (post : Post) → RightAt j (clear_told scheme post index) (stands post j)
told_right j index He post = tt
told_right j index Ibr post = cleared_right j index post (stands post index) refl
told_right j index Wfe post = tt
told_right j index Hp post = tt

-- a step from this post on
record Cleared (post next : Post) (told : List Event) : Type 0 where
  follows : Follow post next told
  right : (j : ℕ) → RightAt j told (stands post j)

cleared_closed : (post : Post) → Closed (Cleared post)
cleared_closed post = let c = follow_closed post in record {
  calm = λ next told more q h. record {
    follows = c.calm next told more q h.follows;
    right = λ j. right_along j told more (stands post j) (h.right j) (quiet_right j more (stood j told (stands post j)) q);
  };
  clears = λ next told index h. record {
    follows = c.clears next told index h.follows;
    right = λ j. right_along j told (clear_told (scheme_of next) next index) (stands post j) (h.right j)
        (subst (λ (x : Option ℕ). RightAt j (clear_told (scheme_of next) next index) x) (sym (h.follows j)) (told_right j index (scheme_of next) next));
  };
}

-- a machine clears what stands, or nothing
link_none : (index slot n j s : ℕ) (null : Bool) → list_any (is_moved j s) (if null then events.Null index n ∷ [] else events.Held index slot n ∷ []) ≡ false
link_none index slot n j s true = refl
link_none index slot n j s false = refl

next_none : (index n j s : ℕ) (null : Bool) → list_any (is_moved j s) (if null then events.Null index n ∷ [] else []) ≡ false
next_none index n j s true = refl
next_none index n j s false = refl

held_none : (index : ℕ) (root : Root) (link n j s : ℕ) → list_any (is_moved j s) (told_held index root link n) ≡ false
held_none index (roots.Next parent) link n j s = next_none index n j s (link == 0)
held_none index (roots.Bucket bucket) link n j s = link_none index (link - 1) n j s (link == 0)
held_none index roots.Head link n j s = link_none index (link - 1) n j s (link == 0)
held_none index roots.Tail link n j s = link_none index (link - 1) n j s (link == 0)

at_none : (index : ℕ) (root : Root) (n : ℕ) (post : Post) (at : ProtectAt) (found j s : ℕ) → at_shows (is_moved j s) index root n post at found ≡ false
at_none index root n post (CheckClock era tries link) found j s = and_right_false (found == era) (list_any (is_moved j s) (told_held index root link n)) (held_none index root link n j s)
at_none index root n post (TakeAnswer link era) found j s = held_none index root link n j s
at_none index root n post (CheckUpper link) found j s = and_right_false (found == upper post.span) (list_any (is_moved j s) (told_held index root link n)) (held_none index root link n j s)
at_none index root n post (ByHazard FirstLink) found j s = and_right_false (found == 0) (list_any (is_moved j s) (told_held index root found n)) (held_none index root found n j s)
at_none index root n post (ByHazard (CheckLink link)) found j s = and_right_false (found == link || found == 0) (list_any (is_moved j s) (told_held index root found n)) (held_none index root found n j s)
at_none index root n post at found j s = refl

still_right : (base : Base) (post : Post) (found j : ℕ) → ((s : ℕ) → base_shows (is_moved j s) post base found ≡ false) → RightAt j (machine.after base post found).told (stands post j)
still_right base post found j h = none_right j (machine.after base post found).told (stands post j) (λ s. base_any (is_moved j s) base post found (moved_calm j s) ∙ h s)

-- an index word that publishes something else
shown_right : (j : ℕ) (rows : Bool) (index number : ℕ) (post : Post) (x : Option ℕ) → RightAt j (publishes_index rows post index number) x
shown_right j false index number post x = (refl, tt)
shown_right j true index number post x = (refl, tt)

shown_stood : (j : ℕ) (rows : Bool) (index number : ℕ) (post : Post) (y : Option ℕ) → stood j (publishes_index rows post index number) y ≡ y
shown_stood j false index number post y = refl
shown_stood j true index number post y = refl

base_right : (base : Base) (post : Post) (found j : ℕ) → RightAt j (machine.after base post found).told (stands post j)
base_right (Begin at) post found j = still_right (Begin at) post found j (λ s. refl)
base_right (Protect aim index root steps at) post found j = still_right (Protect aim index root steps at) post found j (λ s. at_none index root (bump steps) post at found j s)
base_right (Reload parent index slot era steps) post found j = still_right (Reload parent index slot era steps) post found j (λ s. and_right_false (found == parent + 1) false refl)
base_right (Clear rows index) post found j = right_along j (cleared index (stands post index)) (publishes_index rows post index 0) (stands post j) (cleared_right j index post (stands post index) refl) (shown_right j rows index 0 post (stood j (cleared index (stands post index)) (stands post j)))
base_right Finish post found j = still_right Finish post found j (λ s. refl)
base_right (Release index) post found j = right_along j (cleared index (stands post index)) (reserves_span post None) (stands post j) (cleared_right j index post (stands post index) refl) (refl, tt)
base_right (Allocate at) post found j = still_right (Allocate at) post found j (λ s. refl)
base_right (Write slot row place) post found j = still_right (Write slot row place) post found j (λ s. refl)
base_right (GiveUp slot) post found j = still_right (GiveUp slot) post found j (λ s. refl)
base_right (Retire at) post found j = still_right (Retire at) post found j (λ s. refl)
base_right (Move at) post found j = still_right (Move at) post found j (λ s. refl)

scan_cleared : (post : Post) (at : ScanAt) (found : ℕ) → Cleared post post (scan_told at post found)
scan_cleared post (ReadGuard number) found =
    reads_are (λ event. Cleared post post (event ∷ [])) (publishes_rows post.layout.config.scheme) (guard_at post.layout.config number) found (λ span. record { follows = λ j. refl; right = λ j. (refl, tt) }) (λ slot. record { follows = λ j. refl; right = λ j. (refl, tt) })
scan_cleared post (GiveBack place slot) found = record { follows = λ j. refl; right = λ j. (refl, tt) }

-- what a step on what is kept names: a copy goes upwards, to an index of the seat
pub record Room (config : Config) (work : Work) (post : Post) : Type 0 where
  pub names : WorkIn config work
  pub below : copy_index work < length post.standing
  pub bare : work ≡ Keeping HideSpan → Vacant spare post

copy_in : (layout : Layout) (work : Work) → is_valid layout ≡ true → WorkIn layout.config work → copy_index work < layout.config.indexes
copy_in layout (Keeping (LoadHeld from index)) d h = h.below
copy_in layout (Keeping (StoreHeld from index era)) d h = h.below
copy_in layout work d h = let m = (bounds_of layout d).indexes in omega (arith, m.0)

hides_bare : (w : World) (i : ℕ) → Rests w → (w.seat i).phase ≡ Works (Keeping HideSpan) → Vacant spare (w.seat i).post
hides_bare w i r e = subst (λ (f : Phase). Vacant (vacant f) (w.seat i).post) e (r.vacant i)

pub work_room : (w : World) (i : ℕ) (work : Work) → is_valid w.layout ≡ true → Seats w → Slots w → Rests w → (w.seat i).phase ≡ Works work → Room w.layout.config work (w.seat i).post
work_room w i work d s t r e =
    let m = (bounds_of w.layout d).indexes in
    let k : WorkIn w.layout.config work = subst (PhaseIn w.layout (w.seat i).desk) e (t.seats i).phase in
    record { names = k; bare = λ h. hides_bare w i r (e ∙ ap Works h); below = below_length (copy_index work) w.layout.config.indexes (length (w.seat i).post.standing) (copy_in w.layout work d k) m.1 (s.fits i).post.standing }

-- what is cleared at one index leaves what stands at the others
pub away_stood : (j index : ℕ) (x y : Option ℕ) → (j == index) ≡ false → stood j (cleared index x) y ≡ y
away_stood j index None y e = refl
away_stood j index (Some slot) y e = rw e refl

-- a copy leaves what it copies
copied_there : (j from index slot : ℕ) (post : Post) (reserved : List Event) (same : Bool) → (j == from) ≡ same → from < index → stands post from ≡ Some slot → ((y : Option ℕ) → stood j reserved y ≡ y) → (not same || is_row slot (stood j (cleared index (stands post index) ++ reserved) (stands post j))) ≡ true
copied_there j from index slot post reserved true e b h r =
    let q : j ≡ from = grind (arith, nat_tests) in
    let other : (j == index) ≡ false = grind (arith, nat_tests) in
    let gone : List Event = cleared index (stands post index) in
    row_there slot (stood j (gone ++ reserved) (stands post j)) (stood_along j gone reserved (stands post j) ∙ r (stood j gone (stands post j)) ∙ away_stood j index (stands post index) (stands post j) other ∙ ap (stands post) q ∙ h)
copied_there j from index slot post reserved false e b h r = refl

copied_right : (j from index : ℕ) (post : Post) (reserved : List Event) (x : Option ℕ) → stands post from ≡ x → from < index → ((y : Option ℕ) → stood j reserved y ≡ y) → ((y : Option ℕ) → RightAt j reserved y) → RightAt j (copied_told from index post reserved x) (stands post j)
copied_right j from index post reserved None h b r f = tt
copied_right j from index post reserved (Some slot) h b r f =
    let gone : List Event = cleared index (stands post index) in
    right_along j (gone ++ reserved) (events.Copied from index slot ∷ []) (stands post j)
    (right_along j gone reserved (stands post j) (cleared_right j index post (stands post index) refl) (f (stood j gone (stands post j))))
    (copied_there j from index slot post reserved (j == from) refl b h r, tt)

load_right : (j from index : ℕ) (post : Post) (one : Bool) → from < index → RightAt j (if one then copied_told from index post [] (stands post from) else []) (stands post j)
load_right j from index post true b = copied_right j from index post [] (stands post from) refl b (λ y. refl) (λ y. tt)
load_right j from index post false b = tt

-- a seat that leaves lets go of all that stands, one index after the other
row_of_drop : (post : Post) (index j : ℕ) → index ≤ j → get_or (drop index post.standing) (j - index) None ≡ stands post j
row_of_drop post index j l = let e : index + (j - index) ≡ j = omega arith in
    get_or-drop index post.standing (j - index) None ∙ ap (λ (n : ℕ). get_or post.standing n None) e

one_right : (j index : ℕ) (row y : Option ℕ) → ((j == index) ≡ true → y ≡ row) → RightAt j (cleared index row) y
one_right j index None y h = tt
one_right j index (Some slot) y h = (by (j == index) refl, tt)
  where
    by : (same : Bool) → (j == index) ≡ same → (not same || is_row slot y) ≡ true
    by true e = row_there slot y (h e)
    by false e = refl

all_right : (j index : ℕ) (rows : List (Option ℕ)) (y : Option ℕ) → (index ≤ j → get_or rows (j - index) None ≡ y) → RightAt j (cleared_from index rows) y
all_right j index [] y h = tt
all_right j index (row ∷ rows) y h =
    right_along j (cleared index row) (cleared_from (index + 1) rows) y (one_right j index row y own)
    (all_right j (index + 1) rows (stood j (cleared index row) y) (λ l. rest l))
  where
    own : (j == index) ≡ true → y ≡ row
    own e =
        let q : j - index ≡ 0 = grind (arith, nat_tests) in
        let l : index ≤ j = grind (arith, nat_tests) in
        sym (h l) ∙ ap (λ (n : ℕ). get_or (row ∷ rows) n None) q

    rest : index + 1 ≤ j → get_or rows (j - (index + 1)) None ≡ stood j (cleared index row) y
    rest l =
        let q : j - index ≡ suc (j - (index + 1)) = omega arith in
        let other : (j == index) ≡ false = grind (arith, nat_tests) in
        let low : index ≤ j = omega arith in
        sym (ap (λ (n : ℕ). get_or (row ∷ rows) n None) q) ∙ h low ∙ sym (away_stood j index row y other)

work_right : (config : Config) (j : ℕ) (work : Work) (post : Post) → WorkIn config work → RightAt j (work_told work post) (stands post j)
work_right config j (Getting key at) post k = tt
work_right config j (Changing kept at) post k = tt
work_right config j (Enqueuing kept at) post k = tt
work_right config j (Dequeuing at) post k = tt
work_right config j (Keeping (Loosens let_go)) post k = cleared_right j (let_index let_go) post (stands post (let_index let_go)) refl
work_right config j (Keeping (LoadHeld from index)) post k = load_right j from index post (has_one_interval (scheme_of post)) k.rises
work_right config j (Keeping (StoreHeld from index era)) post k = copied_right j from index post (publishes_index (publishes_rows (scheme_of post)) post index era) (stands post from) refl k.rises (shown_stood j (publishes_rows (scheme_of post)) index era post) (shown_right j (publishes_rows (scheme_of post)) index era post)
work_right config j (Keeping (Looks index key at)) post k = tt
work_right config j (Keeping (Misses index)) post k = tt
work_right config j (Keeping HideSpan) post k =
    right_along j (cleared_from 2 (drop 2 post.standing)) (reserves_span post None) (stands post j) (all_right j 2 (drop 2 post.standing) (stands post j) (λ l. row_of_drop post 2 j l)) (refl, tt)
work_right config j (Keeping MarkLeft) post k = tt
work_right config j (Keeping (TakeList place)) post k = tt
work_right config j (Keeping (MarkTaken place count)) post k = tt

first_cleared : (config : Config) (phase : Phase) (post : Post) (found : ℕ) → ((why : Why) (base : Base) → phase ≡ Runs why base → index_base base < length post.standing) → ((work : Work) → phase ≡ Works work → Room config work post) → First (Cleared post) phase post found
first_cleared config Idle post found h g = record { follows = λ j. refl; right = λ j. tt }
first_cleared config (Runs why base) post found h g = record { follows = base_follows post base found (h why base refl); right = λ j. base_right base post found j }
first_cleared config (Scans later at) post found h g = scan_cleared post at found
first_cleared config (Works work) post found h g = let r = g work refl in record { follows = work_follows post work r.below r.bare; right = λ j. work_right config j work post r.names }

-- counting a step changes nothing of it
room_counted : (config : Config) (work : Work) (post : Post) → Room config work post → Room config work (counted post)
room_counted config work post r = record { names = r.names; below = r.below; bare = r.bare }

step_right : (w : World) (i j : ℕ) → is_valid w.layout ≡ true → Seats w → Slots w → Rests w → RightAt j (told_in w i) (stands (w.seat i).post j)
step_right w i j d s t r =
    let post : Post = counted (w.seat i).post in
    let c = step_goes (Cleared post) (cleared_closed post) (w.seat i).phase post (offered w i).desk (finds w i) (first_cleared w.layout.config (w.seat i).phase post (finds w i) (λ why base e. room_of w i why base d s t e) (λ work e. room_counted w.layout.config work (w.seat i).post (work_room w i work d s t r e))) in
    c.right j

-- the law of one index
abbrev pub clears_at : ℕ → Past → ℕ → Event → Bool
clears_at j p i event = clear_right j event (stood_at i j p)

pub own_stood : (i j : ℕ) (p : Past) (event : Event) → stood_at i j (Then p i event) ≡ stood_by j event (stood_at i j p)
own_stood i j p event = let e : (i == i) ≡ true = same_number i in rw e refl

right_each : (i j : ℕ) (told : List Event) (p : Past) → RightAt j told (stood_at i j p) → Each (clears_at j) p → Each (clears_at j) (tells_of p i told)
right_each i j [] p h g = g
right_each i j (event ∷ told) p h g = right_each i j told (Then p i event) (subst (λ (x : Option ℕ). RightAt j told x) (sym (own_stood i j p event)) h.1) (h.0, g)

index_along : (layout : Layout) (j : ℕ) → is_valid layout ≡ true → Along layout (clears_at j)
index_along layout j d = record {
  begins = λ p i call. refl;
  steps = λ path i t g.
      let w : World = world_of layout path in
      let k = (answers_of layout path d).known.known in
      right_each i j (told_in w i) (record_of layout path) (subst (λ (x : Option ℕ). RightAt j (told_in w i) x) (sym (record_stands layout path i j d)) (step_right w i j k.valid k.seats k.slots k.rests)) g;
}

same_index : (j slot : ℕ) (x : Option ℕ) → (not (j == j) || is_row slot x) ≡ true → is_row slot x ≡ true
same_index j slot x h = let e : (j == j) ≡ true = same_number j in rw e at h

-- what is copied from an index stands there
pub copied_rows : (layout : Layout) (items : List Item) → is_valid layout ≡ true → (from : ℕ) → EachEntry (clears_at from) (record_of layout items)
copied_rows layout items d from = record_each layout (clears_at from) items (index_along layout from d)

pub copied_row : (from index slot i : ℕ) (p : Past) → clears_at from p i (events.Copied from index slot) ≡ true → is_row slot (stood_at i from p) ≡ true
copied_row from index slot i p h = same_index from slot (stood_at i from p) h

pub records_clear_rows : RecordsClearRows
records_clear_rows layout items d before i (events.Clear index slot) later e = same_index index slot (stood_at i index before) (record_each layout (clears_at index) items (index_along layout index d) before i (events.Clear index slot) later e)
records_clear_rows layout items d before i event later e = refl
