-- A step tells that a row is copied where it copies it, and the row stands at both indexes from then on.
use Rattle.inv_rows.specs.model.Phases.HazardAt.{FirstLink, PublishLink, CheckLink}
use Rattle.std.proofs.Common.{ℕ, ◌+◌, ◌≤◌, Bool, true, false, ◌≡◌, ◌∙◌, sym, refl, ap, subst, arith}
use Rattle.std.specs.List.{list_any}
use Rattle.std.specs.Prelude.{Option, Some, None, drop, length, if◌then◌else◌, ◌==◌, ◌&&◌, ◌||◌}
use Rattle.inv_rows.specs.defs.declared.event.Event.{Event}
use Rattle.inv_rows.specs.defs.declared.event.Event.TheVariants as events
use Rattle.inv_rows.specs.defs.declared.event.Root.{Root}
use Rattle.inv_rows.specs.defs.declared.event.Root.TheVariants as roots
use Rattle.inv_rows.specs.model.Keep as keeps
use Rattle.inv_rows.specs.model.Calls.{KeepAt, Loosens, LoadHeld, StoreHeld, Looks, Misses, HideSpan, MarkLeft, TakeList, MarkTaken, Keeping, Phase, Idle, Runs, Scans, Works}
use Rattle.inv_rows.specs.model.Desks.{Desk}
use Rattle.inv_rows.specs.model.Locals.{Local, turn}
use Rattle.inv_rows.specs.model.Memory.{bump}
use Rattle.inv_rows.specs.model.Phases.{ProtectAt, Base}
use Rattle.inv_rows.specs.model.Phases.ProtectAt.{CheckClock, CheckUpper, TakeAnswer, ByHazard}
use Rattle.inv_rows.specs.model.Phases.Base.{Clear, Protect, Release, Reload}
use Rattle.inv_rows.specs.model.Posts.{counted, stands, upper, with_row}
use Rattle.inv_rows.specs.model.Protect.{told_held}
use Rattle.inv_rows.specs.model.Rounds.{let_index, scheme_of}
use Rattle.inv_rows.specs.model.Steps as steps
use Rattle.inv_rows.specs.model.World.{finds, offered}
use Rattle.inv_rows.specs.model.declared.post.Post.{Post}
use Rattle.inv_rows.specs.Shapes.Slots.{CopyIn, KeepIn, PhaseIn}
use Rattle.inv_rows.specs.words.Schemes.{has_one_interval}
use Rattle.inv_rows.specs.words.declared.config.Config.{Config}
use Rattle.inv_rows.specs.words.declared.layout.Layout.{Layout}
use Rattle.inv_rows.proofs.Covering.Held.{stepped_post}
use Rattle.inv_rows.proofs.model.Facts.{and_false, first_of, no_truth_2, number_is, rest_of}
use Rattle.inv_rows.proofs.model.Ranges.{bounds_of}
use Rattle.inv_rows.proofs.model.Standing.{stands-with_row_same, stands-with_row_other}
use Rattle.model_history.proofs.Passes.{copied_post, keep_post}
use Rattle.inv_ends.proofs.Ends.Nulls.{none_of}
use Rattle.inv_ends.proofs.Ends.Tests.{Calm, at_shows, base_shows, copied_shows, keep_shows, none_cleared, none_left, phase_shows, step_any}
use Rattle.inv_ends.proofs.Told.Turns.{is_later, keep_just}
use Rattle.inv_ends.specs.Standing.{CopiedCovered, CopiedStands, CopiedTold, CopyStands, copies_at, copies_in, is_row}
use Rattle.inv_ends.specs.Stands.{is_copied}

copied_calm : (f j s : ℕ) → Calm (is_copied f j s)
copied_calm f j s = record { reserve = λ g x. refl; hazard = λ g x. refl; saw = λ g x. refl; read = λ g x. refl; era = λ e. refl; give = λ a b. refl; unused = λ a. refl; retire = λ a b r. refl; back = λ a. refl }

copied_later : (f j s : ℕ) (e : Event) → is_later e ≡ true → is_copied f j s e ≡ false
copied_later f j s (events.Copied from index slot) h = no_truth_2 h
copied_later f j s e h = refl

-- a machine copies nothing
held_uncopied : (f j s index : ℕ) (root : Root) (link n : ℕ) (null : Bool) → (link == 0) ≡ null → list_any (is_copied f j s) (told_held index root link n) ≡ false
held_uncopied f j s index (roots.Bucket bucket) link n true e = rw e refl
held_uncopied f j s index (roots.Bucket bucket) link n false e = rw e refl
held_uncopied f j s index roots.Head link n true e = rw e refl
held_uncopied f j s index roots.Head link n false e = rw e refl
held_uncopied f j s index roots.Tail link n true e = rw e refl
held_uncopied f j s index roots.Tail link n false e = rw e refl
held_uncopied f j s index (roots.Next parent) link n true e = rw e refl
held_uncopied f j s index (roots.Next parent) link n false e = rw e refl

at_uncopied : (f j s index : ℕ) (root : Root) (n : ℕ) (post : Post) (at : ProtectAt) (found : ℕ) → at_shows (is_copied f j s) index root n post at found ≡ false
at_uncopied f j s index root n post (CheckClock era tries link) found = rw (held_uncopied f j s index root link n (link == 0) refl) (and_false (found == era))
at_uncopied f j s index root n post (TakeAnswer link era) found = held_uncopied f j s index root link n (link == 0) refl
at_uncopied f j s index root n post (CheckUpper link) found = rw (held_uncopied f j s index root link n (link == 0) refl) (and_false (found == upper post.span))
at_uncopied f j s index root n post (ByHazard FirstLink) found = rw (held_uncopied f j s index root found n (found == 0) refl) (and_false (found == 0))
at_uncopied f j s index root n post (ByHazard (PublishLink link)) found = refl
at_uncopied f j s index root n post (ByHazard (CheckLink link)) found = rw (held_uncopied f j s index root found n (found == 0) refl) (and_false (found == link || found == 0))
at_uncopied f j s index root n post at found = refl

base_uncopied : (f j s : ℕ) (base : Base) (post : Post) (found : ℕ) → base_shows (is_copied f j s) post base found ≡ false
base_uncopied f j s (Protect aim index root made at) post found = at_uncopied f j s index root (bump made) post at found
base_uncopied f j s (Reload parent index slot era made) post found = and_false (found == parent + 1)
base_uncopied f j s (Clear rows index) post found = none_cleared (is_copied f j s) index (stands post index) (λ n slot. refl)
base_uncopied f j s (Release index) post found = none_cleared (is_copied f j s) index (stands post index) (λ n slot. refl)
base_uncopied f j s base post found = refl

-- a copy
copied_is : (f j s from index : ℕ) (post : Post) (x : Option ℕ) → copied_shows (is_copied f j s) from index post x ≡ ((from == f) && ((index == j) && is_row s x))
copied_is f j s from index post None = none_of (from == f) ∙ ap (λ (b : Bool). (from == f) && b) (none_of (index == j))
copied_is f j s from index post (Some slot) = rw (none_cleared (is_copied f j s) index (stands post index) (λ n slot. refl)) refl

keep_copies : (f j s : ℕ) (at : KeepAt) (post : Post) → keep_shows (is_copied f j s) post at ≡ copies_at post at f j s
keep_copies f j s (Loosens let_go) post = none_cleared (is_copied f j s) (let_index let_go) (stands post (let_index let_go)) (λ n slot. refl)
keep_copies f j s (LoadHeld from index) post = ap (λ (b : Bool). has_one_interval (scheme_of post) && b) (copied_is f j s from index post (stands post from))
keep_copies f j s (StoreHeld from index era) post = copied_is f j s from index post (stands post from)
keep_copies f j s (Looks index key at) post = refl
keep_copies f j s (Misses index) post = refl
keep_copies f j s HideSpan post = none_left (is_copied f j s) 2 (drop 2 post.standing) (λ n slot. refl)
keep_copies f j s MarkLeft post = refl
keep_copies f j s (TakeList place) post = refl
keep_copies f j s (MarkTaken place count) post = refl

phase_copies : (f j s : ℕ) (phase : Phase) (post : Post) (found : ℕ) → phase_shows (is_copied f j s) post phase found ≡ copies_in post phase f j s
phase_copies f j s Idle post found = refl
phase_copies f j s (Runs why base) post found = base_uncopied f j s base post found
phase_copies f j s (Scans later at) post found = refl
phase_copies f j s (Works (Keeping at)) post found = keep_copies f j s at post
phase_copies f j s (Works work) post found = refl

-- a copy looks at what stands, and no step that is counted changes that
counted_copies : (f j s : ℕ) (phase : Phase) (post : Post) → copies_in (counted post) phase f j s ≡ copies_in post phase f j s
counted_copies f j s (Works (Keeping (LoadHeld from index))) post = refl
counted_copies f j s (Works (Keeping (StoreHeld from index era))) post = refl
counted_copies f j s phase post = refl

pub copied_is_told : CopiedTold
copied_is_told w i f j s =
    step_any (is_copied f j s) w i (copied_calm f j s) (copied_later f j s) ∙ phase_copies f j s (w.seat i).phase (counted (w.seat i).post) (finds w i) ∙ counted_copies f j s (w.seat i).phase (w.seat i).post

-- the row stands at both indexes
row_of : (s : ℕ) (x : Option ℕ) → is_row s x ≡ true → x ≡ Some s
row_of s None h = no_truth_2 h
row_of s (Some slot) h = ap Some (number_is slot s h)

copied_row : (config : Config) (from index s : ℕ) (post left : Post) → CopyIn config from index → config.indexes ≤ length post.standing → stands post from ≡ Some s → left ≡ copied_post index post (stands post from) → CopyStands config post left from index s
copied_row config from index s post left k b r e =
    let q : left ≡ with_row post index s = e ∙ ap (copied_post index post) r in
    record {
      kept = k.kept;
      rises = k.rises;
      below = k.below;
      was = r;
      still = ap (λ (p : Post). stands p from) q ∙ stands-with_row_other post index s from (let d = k.rises in omega arith) ∙ r;
      now = ap (λ (p : Post). stands p index) q ∙ stands-with_row_same post index s (let d = k.below in omega arith);
    }

copied_stands : (config : Config) (from index f j s : ℕ) (post left : Post) → CopyIn config from index → config.indexes ≤ length post.standing → left ≡ copied_post index post (stands post from) → ((from == f) && ((index == j) && is_row s (stands post from))) ≡ true → CopyStands config post left f j s
copied_stands config from index f j s post left k b e h =
    let a : from ≡ f = number_is from f (first_of (from == f) _ h) in
    let c : ((index == j) && is_row s (stands post from)) ≡ true = rest_of (from == f) _ h in
    let d : index ≡ j = number_is index j (first_of (index == j) _ c) in
    let r : stands post from ≡ Some s = row_of s (stands post from) (rest_of (index == j) _ c) in
    subst (λ (n : ℕ). CopyStands config post left n j s) a (subst (λ (n : ℕ). CopyStands config post left from n s) d (copied_row config from index s post left k b r e))

load_held_left : (config : Config) (from index f j s : ℕ) (post left : Post) (one : Bool) → CopyIn config from index → config.indexes ≤ length post.standing → left ≡ (if one then copied_post index post (stands post from) else post) → (one && ((from == f) && ((index == j) && is_row s (stands post from)))) ≡ true → CopyStands config post left f j s
load_held_left config from index f j s post left true k b e h = copied_stands config from index f j s post left k b e h
load_held_left config from index f j s post left false k b e h = no_truth_2 h

keep_left : (config : Config) (f j s : ℕ) (at : KeepAt) (post left : Post) → KeepIn config at → config.indexes ≤ length post.standing → left ≡ keep_post at post → copies_at post at f j s ≡ true → CopyStands config post left f j s
keep_left config f j s (Loosens let_go) post left k b e h = no_truth_2 h
keep_left config f j s (LoadHeld from index) post left k b e h = load_held_left config from index f j s post left (has_one_interval (scheme_of post)) k b e h
keep_left config f j s (StoreHeld from index era) post left k b e h = copied_stands config from index f j s post left k b e h
keep_left config f j s (Looks index key at) post left k b e h = no_truth_2 h
keep_left config f j s (Misses index) post left k b e h = no_truth_2 h
keep_left config f j s HideSpan post left k b e h = no_truth_2 h
keep_left config f j s MarkLeft post left k b e h = no_truth_2 h
keep_left config f j s (TakeList place) post left k b e h = no_truth_2 h
keep_left config f j s (MarkTaken place count) post left k b e h = no_truth_2 h

phase_left : (layout : Layout) (f j s : ℕ) (phase : Phase) (post : Post) (own desk : Desk) (found : ℕ) → PhaseIn layout own phase → layout.config.indexes ≤ length post.standing → copies_in post phase f j s ≡ true → CopyStands layout.config post (steps.phase_turn phase post desk found).post f j s
phase_left layout f j s (Works (Keeping at)) post own desk found k b h = keep_left layout.config f j s at post (keeps.keep_turn at post desk found).post k b (keep_just at post desk found).post h
phase_left layout f j s Idle post own desk found k b h = no_truth_2 h
phase_left layout f j s (Runs why base) post own desk found k b h = no_truth_2 h
phase_left layout f j s (Scans later at) post own desk found k b h = no_truth_2 h
phase_left layout f j s (Works work) post own desk found k b h = no_truth_2 h

-- a step that is counted leaves what stands
of_counted : (config : Config) (post left : Post) (f j s : ℕ) → CopyStands config (counted post) left f j s → CopyStands config post left f j s
of_counted config post left f j s x = record { kept = x.kept; rises = x.rises; below = x.below; was = x.was; still = x.still; now = x.now }

pub copy_stands : CopiedStands
copy_stands w i f j s v n k h =
    let l : Local = w.seat i in
    let b : w.layout.config.indexes ≤ length l.post.standing = (let c = bounds_of w.layout v in let e = (n.fits i).post.standing in omega (arith, c.indexes, e)) in
    let c : copies_in (counted l.post) l.phase f j s ≡ true = counted_copies f j s l.phase l.post ∙ sym (copied_is_told w i f j s) ∙ h in
    subst (λ (p : Post). CopyStands w.layout.config l.post p f j s) (sym (stepped_post w i)) (of_counted w.layout.config l.post (turn (offered w i) (finds w i)).post f j s (phase_left w.layout f j s l.phase (counted l.post) l.desk (offered w i).desk (finds w i) (k.seats i).phase b c))

pub copied_covered : CopiedCovered
copied_covered w i f j s v l n k a h = a.stood i j s ((copy_stands w i f j s l n k h).now)
