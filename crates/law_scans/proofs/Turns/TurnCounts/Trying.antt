-- How often a protection under way has published, by where its seat stands, over each step of a machine.
use Rattle.law_scans.proofs.Turns.Withdrawals.Leaving.{tries_none}
use Rattle.std.proofs.Common.{ℕ, ◌≡◌, ◌-◌, ◌+◌, Bool, true, false, List, [], ◌∷◌, ◌++◌, Option, Some, None, refl, ap, ◌∙◌, arith}
use Rattle.std.proofs.lemmas.Bool.Decides.{nat_tests}
use Rattle.std.specs.Prelude.{◌==◌, ◌&&◌, ◌||◌, not, nat_le, if◌then◌else◌}
use Rattle.law_reuse.specs.laws.words.declared.config.Config.{Config}
use Rattle.law_reuse.specs.laws.defs.declared.event.Event.{Event}
use Rattle.law_reuse.specs.laws.defs.declared.event.Event.TheVariants as events
use Rattle.law_reuse.specs.laws.defs.declared.event.Guard.TheVariants.{Helper, Index, Whole}
use Rattle.law_reuse.specs.laws.defs.declared.event.Root.{Root}
use Rattle.law_reuse.specs.laws.defs.declared.event.Root.TheVariants as roots
use Rattle.law_reuse.specs.inv.model.declared.ends.FollowEnd.TheVariants as follow_ends
use Rattle.law_reuse.specs.inv.model.declared.post.Post.{Post}
use Rattle.law_reuse.specs.inv.model.Protect as protects
use Rattle.law_reuse.specs.inv.model.Guards.{one_era}
use Rattle.law_reuse.specs.inv.model.Posts.{cleared, publishes_index, stands}
use Rattle.law_reuse.specs.laws.words.Schemes.{has_one_interval, publishes_rows}
use Rattle.law_reuse.specs.inv.model.Calls.{KeepAt, Loosens, LoadHeld, StoreHeld, Looks, Misses, HideSpan, MarkLeft, TakeList, MarkTaken, Work, Keeping}
use Rattle.law_reuse.specs.inv.model.Rounds.{scheme_of, clear_told, let_index}
use Rattle.law_reuse.specs.inv.model.Phases.{Aim, Alone, Follows, Tries, Endless, Failed, ProtectAt, Base, Turn, Outcome, Goes, Ends}
use Rattle.law_reuse.specs.inv.model.Phases.ProtectAt.{LoadClock, PublishEra, LoadLink, CheckClock, WithdrawRequest, WithdrawHelper, LoadWithin, CheckUpper, RaiseUpper, ByHazard}
use Rattle.law_reuse.specs.inv.model.Phases.Base.{Protect, Reload}
use Rattle.law_reuse.specs.inv.model.Phases.Ending.{Followed}
use Rattle.law_reuse.proofs.laws.records.defs.Facts.{first_of, rest_of}
use Rattle.law_reuse.proofs.history.Passes.{Closed, copied_told, keep_told, work_told}
use Rattle.law_scans.proofs.Turns.Counting.Told.{is_dull, all_dull, clear_dull, cleared_dull, hide_dull, quiet_dull}
use Rattle.law_reuse.specs.laws.StateAt.{one_more, tried_by, last_by}
use Rattle.law_scans.proofs.Turns.Withdrawals.Withdrawing.{tells_link}

-- along what a step tells
abbrev pub tried_along : (seat index : ℕ) → List Event → ℕ → ℕ
tried_along i j [] n = n
tried_along i j (event ∷ told) n = tried_along i j told (tried_by i j event n)

abbrev pub last_along : List Event → ℕ → ℕ
last_along [] n = n
last_along (event ∷ told) n = last_along told (last_by event n)

tried_both : (i j : ℕ) (xs ys : List Event) (n : ℕ) → tried_along i j (xs ++ ys) n ≡ tried_along i j ys (tried_along i j xs n)
tried_both i j [] ys n = refl
tried_both i j (x ∷ xs) ys n = tried_both i j xs ys (tried_by i j x n)

last_both : (xs ys : List Event) (n : ℕ) → last_along (xs ++ ys) n ≡ last_along ys (last_along xs n)
last_both [] ys n = refl
last_both (x ∷ xs) ys n = last_both xs ys (last_by x n)

-- events that tell nothing of index words, and no numbers, change neither
dull_one : (i j : ℕ) (event : Event) (n : ℕ) → is_dull event ≡ true → tried_by i j event n ≡ n
dull_one i j (events.Reserve (Helper seat) span) n h = refl
dull_one i j (events.Reserve (Index seat index) span) n h = absurd (cc)
dull_one i j (events.Reserve (Whole seat) span) n h = refl
dull_one i j (events.Held index slot steps) n h = absurd (cc)
dull_one i j (events.Null index steps) n h = absurd (cc)
dull_one i j (events.Copied from index slot) n h = absurd (cc)
dull_one i j event n h = refl

pub dull_tried : (i j : ℕ) (told : List Event) (n : ℕ) → all_dull told ≡ true → tried_along i j told n ≡ n
dull_tried i j [] n h = refl
dull_tried i j (event ∷ told) n h = ap (tried_along i j told) (dull_one i j event n (first_of (is_dull event) (all_dull told) h)) ∙ dull_tried i j told n (rest_of (is_dull event) (all_dull told) h)

dull_last_one : (event : Event) (n : ℕ) → is_dull event ≡ true → last_by event n ≡ n
dull_last_one (events.Held index slot steps) n h = absurd (cc)
dull_last_one (events.Null index steps) n h = absurd (cc)
dull_last_one event n h = refl

pub dull_last : (told : List Event) (n : ℕ) → all_dull told ≡ true → last_along told n ≡ n
dull_last [] n h = refl
dull_last (event ∷ told) n h = ap (last_along told) (dull_last_one event n (first_of (is_dull event) (all_dull told) h)) ∙ dull_last told n (rest_of (is_dull event) (all_dull told) h)

-- a call on what is kept is no protection
apart_word : (i j seat index era n : ℕ) → (index == j) ≡ false → tried_by i j (events.Reserve (Index seat index) (one_era era)) n ≡ n
apart_word i j seat index era n o = by (seat == i)
  where
    by : (own : Bool) → (if own && index == j then one_more (one_era era) n else n) ≡ n
    by true = rw o refl
    by false = refl

copied_zero : (i j from index : ℕ) (post : Post) (reserved : List Event) (o : Option ℕ) (n : ℕ) → ((index == j) ≡ false → tried_along i j reserved n ≡ n) → n ≡ 0 → tried_along i j (copied_told from index post reserved o) n ≡ 0
copied_zero i j from index post reserved None n r z = z
copied_zero i j from index post reserved (Some slot) n r z = tried_both i j (cleared index (stands post index) ++ reserved) (events.Copied from index slot ∷ []) n ∙ by (index == j) refl
  where
    by : (own : Bool) → (index == j) ≡ own → (if own then 0 else tried_along i j (cleared index (stands post index) ++ reserved) n) ≡ 0
    by true o = refl
    by false o =
        tried_both i j (cleared index (stands post index)) reserved n
        ∙ ap (tried_along i j reserved) (dull_tried i j (cleared index (stands post index)) n (cleared_dull index (stands post index)))
        ∙ r o
        ∙ z

keep_zero : (i j : ℕ) (at : KeepAt) (post : Post) (n : ℕ) → n ≡ 0 → tried_along i j (keep_told at post) n ≡ 0
keep_zero i j (Loosens let_go) post n z = dull_tried i j (cleared (let_index let_go) (stands post (let_index let_go))) n (cleared_dull (let_index let_go) (stands post (let_index let_go))) ∙ z
keep_zero i j (LoadHeld from index) post n z = by (has_one_interval (scheme_of post))
  where
    by : (one : Bool) → tried_along i j (if one then copied_told from index post [] (stands post from) else []) n ≡ 0
    by true = copied_zero i j from index post [] (stands post from) n (λ o. refl) z
    by false = z
keep_zero i j (StoreHeld from index number) post n z = copied_zero i j from index post (publishes_index (publishes_rows (scheme_of post)) post index number) (stands post from) n (λ o. by (publishes_rows (scheme_of post)) o) z
  where
    by : (rows : Bool) → (index == j) ≡ false → tried_along i j (publishes_index rows post index number) n ≡ n
    by false o = apart_word i j post.seat index number n o
    by true o = refl
keep_zero i j (Looks index key at) post n z = z
keep_zero i j (Misses index) post n z = z
keep_zero i j HideSpan post n z = dull_tried i j (keep_told HideSpan post) n (hide_dull post) ∙ z
keep_zero i j MarkLeft post n z = z
keep_zero i j (TakeList place) post n z = z
keep_zero i j (MarkTaken place count) post n z = z

pub work_zero : (i j : ℕ) (work : Work) (post : Post) (n : ℕ) → n ≡ 0 → tried_along i j (work_told work post) n ≡ 0
work_zero i j (Keeping at) post n z = keep_zero i j at post n z
work_zero i j work post n z = z

-- what a step tells comes to these two
pub record Comes (i j n last y m : ℕ) (told : List Event) : Type 0 where
  pub tried : tried_along i j told n ≡ y
  pub found : last_along told last ≡ m

comes_along : (i j n last y m : ℕ) (told more : List Event) → all_dull more ≡ true → Comes i j n last y m told → Comes i j n last y m (told ++ more)
comes_along i j n last y m told more h c = record {
  tried = tried_both i j told more n ∙ dull_tried i j more (tried_along i j told n) h ∙ c.tried;
  found = last_both told more last ∙ dull_last more (last_along told last) h ∙ c.found;
}

pub comes_closed : (i j n last y m : ℕ) → Closed (λ post told. Comes i j n last y m told)
comes_closed i j n last y m = record {
  calm = λ post told more q h. comes_along i j n last y m told more (quiet_dull more q) h;
  clears = λ post told index h. comes_along i j n last y m told (clear_told (scheme_of post) post index) (clear_dull (scheme_of post) post index) h;
}

-- how often a protection at an index has published
abbrev pub so_many : Tries → (more times : ℕ) → Bool
so_many Endless more times = true
so_many (Failed count) more times = times == count + more

abbrev pub at_tried : Config → Root → ProtectAt → ℕ → Bool
at_tried c root (LoadClock tries) times = times == 0 && tries_none tries
at_tried c root (PublishEra era tries) times = so_many tries 0 times
at_tried c root (LoadLink era tries) times = so_many tries 1 times
at_tried c root (CheckClock era tries link) times = so_many tries 1 times
at_tried c root (WithdrawRequest link era) times = not (tells_link root link) || times == 0
at_tried c root (WithdrawHelper link era) times = not (tells_link root link) || times == 0
at_tried c root LoadWithin times = true
at_tried c root (CheckUpper link) times = true
at_tried c root (RaiseUpper era) times = true
at_tried c root (ByHazard at) times = true
at_tried c root at times = nat_le (c.tries + 1) times

-- where the helper word is to be withdrawn, the last that was told is of the protection's index
abbrev pub at_last : (index : ℕ) → Root → ProtectAt → ℕ → Bool
at_last index root (WithdrawRequest link era) last = not (tells_link root link) || last == index
at_last index root (WithdrawHelper link era) last = not (tells_link root link) || last == index
at_last index root at last = true

abbrev pub base_tried : Config → Base → (index times last : ℕ) → Bool
base_tried c (Protect aim index root steps at) j times last = at_last index root at last && (if index == j then at_tried c root at times else times == 0)
base_tried c (Reload parent index slot era steps) j times last = times == 0 || j == 1
base_tried c base j times last = times == 0

abbrev pub Out : (follows : Bool) → Config → (index times last : ℕ) → Outcome → Type 0
Out moved c j times last (Goes base) = base_tried c base j times last ≡ true
Out moved c j times last (Ends (Followed (follow_ends.RootMoved seen))) = (times == 0 || (moved && j == 1)) ≡ true
Out moved c j times last (Ends ending) = times ≡ 0

abbrev pub Made : (follows : Bool) → Config → (seat index times last : ℕ) → Turn → Type 0
Made moved c i j times last t = Out moved c j (tried_along i j t.told times) (last_along t.told last) t.outcome

pub made_if : (moved : Bool) (c : Config) (i j times last : ℕ) (same : Bool) (t u : Turn) → (same ≡ true → Made moved c i j times last t) → (same ≡ false → Made moved c i j times last u) → Made moved c i j times last (if same then t else u)
made_if moved c i j times last true t u h k = h refl
made_if moved c i j times last false t u h k = k refl

-- a choice by index
pub on : (own p q : Bool) (times other : ℕ) → (own ≡ true → p ≡ true → q ≡ true) → (own ≡ false → times ≡ 0 → other ≡ 0) → (if own then p else times == 0) ≡ true → (if own then q else other == 0) ≡ true
on true p q times other h k e = h refl e
on false p q times other h k e = let z : other ≡ 0 = k refl (grind (arith, nat_tests)) in grind (arith, nat_tests)

pub own_of : (own p q : Bool) → own ≡ true → (if own then p else q) ≡ true → p ≡ true
own_of true p q e h = h
own_of false p q e h = absurd (cc)

pub other_of : (own p q : Bool) → own ≡ false → (if own then p else q) ≡ true → q ≡ true
other_of true p q e h = absurd (cc)
other_of false p q e h = h

-- what a protection ends with is told: its index has no tries under way then
pub told_zero : (i j index : ℕ) (root : Root) (link n x : ℕ) → tells_link root link ≡ true → tried_along i j (protects.told_held index root link n) x ≡ (if index == j then 0 else x)
told_zero i j index (roots.Next parent) link n x h = rw h refl
told_zero i j index (roots.Bucket bucket) link n x h = by (link == 0)
  where
    by : (none : Bool) → tried_along i j (if none then events.Null index n ∷ [] else events.Held index (link - 1) n ∷ []) x ≡ (if index == j then 0 else x)
    by true = refl
    by false = refl
told_zero i j index roots.Head link n x h = by (link == 0)
  where
    by : (none : Bool) → tried_along i j (if none then events.Null index n ∷ [] else events.Held index (link - 1) n ∷ []) x ≡ (if index == j then 0 else x)
    by true = refl
    by false = refl
told_zero i j index roots.Tail link n x h = by (link == 0)
  where
    by : (none : Bool) → tried_along i j (if none then events.Null index n ∷ [] else events.Held index (link - 1) n ∷ []) x ≡ (if index == j then 0 else x)
    by true = refl
    by false = refl

pub told_none : (i j index : ℕ) (root : Root) (link n x : ℕ) → tells_link root link ≡ false → tried_along i j (protects.told_held index root link n) x ≡ x
told_none i j index (roots.Next parent) link n x h = rw h refl
told_none i j index (roots.Bucket bucket) link n x h = absurd (cc)
told_none i j index roots.Head link n x h = absurd (cc)
told_none i j index roots.Tail link n x h = absurd (cc)

pub told_last : (index : ℕ) (root : Root) (link n last : ℕ) → tells_link root link ≡ true → last_along (protects.told_held index root link n) last ≡ index
told_last index (roots.Next parent) link n last h = rw h refl
told_last index (roots.Bucket bucket) link n last h = by (link == 0)
  where
    by : (none : Bool) → last_along (if none then events.Null index n ∷ [] else events.Held index (link - 1) n ∷ []) last ≡ index
    by true = refl
    by false = refl
told_last index roots.Head link n last h = by (link == 0)
  where
    by : (none : Bool) → last_along (if none then events.Null index n ∷ [] else events.Held index (link - 1) n ∷ []) last ≡ index
    by true = refl
    by false = refl
told_last index roots.Tail link n last h = by (link == 0)
  where
    by : (none : Bool) → last_along (if none then events.Null index n ∷ [] else events.Held index (link - 1) n ∷ []) last ≡ index
    by true = refl
    by false = refl

null_told : (root : Root) (link : ℕ) → (link == 0) ≡ true → tells_link root link ≡ true
null_told (roots.Next parent) link h = h
null_told (roots.Bucket bucket) link h = refl
null_told roots.Head link h = refl
null_told roots.Tail link h = refl

-- an index that is not the protection's has no tries under way
pub told_other : (i j index : ℕ) (root : Root) (link n x : ℕ) → (index == j) ≡ false → x ≡ 0 → tried_along i j (protects.told_held index root link n) x ≡ 0
told_other i j index root link n x e z = by (tells_link root link) refl
  where
    by : (tells : Bool) → tells_link root link ≡ tells → tried_along i j (protects.told_held index root link n) x ≡ 0
    by true t = told_zero i j index root link n x t ∙ rw e z
    by false t = told_none i j index root link n x t ∙ z

pub told_own : (i j index : ℕ) (root : Root) (link n x : ℕ) → (index == j) ≡ true → tells_link root link ≡ true → tried_along i j (protects.told_held index root link n) x ≡ 0
told_own i j index root link n x e t = told_zero i j index root link n x t ∙ rw e refl

-- a protection is over
pub record Concludes (j index : ℕ) (aim : Aim) (root : Root) (link y : ℕ) : Type 0 where
  pub alone : aim ≡ Alone → tells_link root link ≡ true
  pub follows : aim ≡ Follows → index ≡ 1
  pub told : tells_link root link ≡ true → y ≡ 0
  pub other : (index == j) ≡ false → y ≡ 0

pub reload_tried : (index j y : ℕ) → index ≡ 1 → ((index == j) ≡ false → y ≡ 0) → (y == 0 || j == 1) ≡ true
reload_tried index j y e k = by (index == j) refl
  where
    by : (own : Bool) → (index == j) ≡ own → (y == 0 || j == 1) ≡ true
    by true o = grind (arith, nat_tests)
    by false o = let z : y ≡ 0 = k o in grind (arith, nat_tests)

pub conclude : (moved : Bool) (c : Config) (i j x last : ℕ) (aim : Aim) (index : ℕ) (root : Root) (n link era : ℕ) (post : Post) (told : List Event) → Concludes j index aim root link (tried_along i j told x) → Made moved c i j x last (protects.concluded aim index root n link era post told)
conclude moved c i j x last Alone index root n link era post told h = by (link == 0)
  where
    by : (none : Bool) → tried_along i j told x ≡ 0
    by none = h.told (h.alone refl)
conclude moved c i j x last Follows index root n link era post told h = made_if moved c i j x last (link == 0) _ _ (λ e. h.told (null_told root link e)) (λ e. reload_tried index j (tried_along i j told x) (h.follows refl) h.other)
