-- A step inside a machine keeps what a seat has published where it stands, and the numbers that it tells are right.
use Rattle.std.proofs.Common.{ℕ, ◌≡◌, ◌≢◌, ◌≤◌, ◌-◌, ◌+◌, Bool, true, false, length, Option, Some, None, refl, sym, ap, ◌∙◌, arith}
use Rattle.std.proofs.lemmas.Bool.Decides.{nat_tests}
use Rattle.std.specs.Prelude.{◌==◌, ◌&&◌, ◌||◌, ◌*◌, nat_le, nat_lt, if◌then◌else◌, not}
use Rattle.law_reuse.specs.laws.words.declared.config.Config.{Config}
use Rattle.law_reuse.specs.laws.words.declared.config.SchemeKind.{SchemeKind}
use Rattle.law_reuse.specs.laws.words.declared.config.SchemeKind.TheVariants.{He, Hp, Ibr, Wfe}
use Rattle.law_reuse.specs.laws.words.declared.packed.Request.{Request}
use Rattle.law_reuse.specs.laws.words.declared.packed.Request.TheVariants as requests
use Rattle.law_reuse.specs.laws.words.Packed.{reservation_word}
use Rattle.law_reuse.specs.laws.defs.declared.event.Event.TheVariants as events
use Rattle.law_reuse.specs.laws.defs.declared.event.Guard.TheVariants.{Index}
use Rattle.law_reuse.specs.laws.defs.declared.event.Root.{Root}
use Rattle.law_reuse.specs.laws.defs.declared.event.Root.TheVariants as roots
use Rattle.law_reuse.specs.inv.model.declared.post.Post.{Post}
use Rattle.law_reuse.specs.inv.model.Guards.{one_era}
use Rattle.law_reuse.specs.inv.model.Machine as machine
use Rattle.law_reuse.specs.inv.model.Memory.{bump}
use Rattle.law_reuse.specs.inv.model.MoveClock as movers
use Rattle.law_reuse.specs.inv.model.Posts.{stands, with_row, cleared, publishes_index}
use Rattle.law_reuse.specs.inv.model.Protect.{failed_once, held_post, trying}
use Rattle.law_reuse.specs.inv.model.Rounds.{scheme_of, index_of}
use Rattle.law_reuse.specs.inv.model.SlowPath.{answer_in, lost_turn}
use Rattle.law_reuse.specs.inv.model.Phases.{Tries, Endless, Failed, ProtectAt, Base}
use Rattle.law_reuse.specs.inv.model.Phases.ProtectAt.{PublishEra, LoadLink, PublishRequest, TakeAnswer, ByHazard}
use Rattle.law_reuse.specs.inv.model.Phases.HazardAt.{PublishLink}
use Rattle.law_reuse.specs.inv.model.Phases.MoveAt.{HandOver}
use Rattle.law_reuse.specs.inv.model.Phases.Base.{Protect, Clear, Move}
use Rattle.law_reuse.specs.inv.model.Calls.{Task, Gets, Changes, Holds, Enqueues, Dequeues, Why, Opens, FollowsHead}
use Rattle.law_reuse.proofs.laws.records.defs.Facts.{same_number, both, first_of, rest_of}
use Rattle.law_reuse.specs.laws.words.Schemes.{has_one_interval, helps, is_ibr, is_he, publishes_rows}
use Rattle.law_reuse.specs.inv.shapes.Seats.{agree, base_fits, try_fits, index_by, root_by, kind_of, protects}
use Rattle.law_reuse.specs.laws.StateAt.{reserves_by}
use Rattle.law_reuse.specs.laws.HistoryTurns.{number_right}
use Rattle.law_reuse.proofs.inv.ends.Rest.Falling.{fit_rows}
use Rattle.law_reuse.proofs.inv.ends.Rest.Told.{by_rows}
use Rattle.law_reuse.proofs.inv.model.words.Schemes.{helps_not_rows}
use Rattle.law_scans.proofs.Turns.Counting.Fits.{tried, free_why, holds_why, holds_task, Clean, reload_paced, since, paced, stands_taken, taken}
use Rattle.law_scans.proofs.Turns.Counting.Told.{reserved_along, dull_reserved, cleared_dull, hazard_more, hazard_none, index_more, index_none, index_other, held_reserved, reserved_both, unindexed_reserved}
use Rattle.law_reuse.proofs.inv.model.Standing.{stands-with_row_same, stands-with_row_other}

-- what a machine's step makes of what the seat has published at its index word j
abbrev pub protect_x : (index : ℕ) → ProtectAt → ℕ → ℕ → ℕ
protect_x index (PublishEra era tries) j n = if index == j then n + 1 else n
protect_x index (TakeAnswer link era) j n = if index == j then n + 1 else n
protect_x index (ByHazard (PublishLink link)) j n = if index == j then n + 1 else n
protect_x index at j n = n

abbrev pub after_x : Base → ℕ → ℕ → ℕ
after_x (Protect aim index root steps at) j n = protect_x index at j n
after_x (Clear rows index) j n = if index == j then 0 else n
after_x base j n = n

-- the turns since a word published nothing
abbrev pub turned : (published turns : ℕ) → ℕ
turned published turns = if published == 0 then 1 else turns + 1

-- the era that a step publishes is one, and the link is not null
abbrev pub SomeEra : Base → Type 0
SomeEra (Protect aim index root steps (PublishEra era tries)) = 1 ≤ era
SomeEra (Protect aim index root steps (TakeAnswer link era)) = 1 ≤ era
SomeEra (Protect aim index root steps (ByHazard (PublishLink link))) = (link == 0) ≡ false
SomeEra base = Unit {0}

-- a step is of a scheme that publishes rows, or of one that does not
abbrev pub Kinded : (rows : Bool) → Base → Type 0
Kinded rows (Protect aim index root steps at) = rows ≡ by_rows at
Kinded rows (Clear own index) = rows ≡ own
Kinded rows (Move (HandOver era seat tag index root link old)) = rows ≡ false
Kinded rows base = Unit {0}

rows_agree : (own rows : Bool) → agree own rows ≡ true → rows ≡ own
rows_agree true rows h = h
rows_agree false true h = absurd (cc)
rows_agree false false h = refl

pub base_kinded : (c : Config) (base : Base) → base_fits c base ≡ true → Kinded (publishes_rows c.scheme) base
base_kinded c (Protect aim index root steps at) f = fit_rows c.scheme c.tries at f
base_kinded c (Clear own index) f = rows_agree own (publishes_rows c.scheme) (rest_of (not (has_one_interval c.scheme)) (agree own (publishes_rows c.scheme)) f)
base_kinded c (Move (HandOver era seat tag index root link old)) f = helps_not_rows c.scheme (first_of (helps c.scheme) (nat_lt seat c.seats) f)
base_kinded c base f = tt

-- a hand-over is to another seat
abbrev pub Apart : (i found : ℕ) → Base → Type 0
Apart i found (Move (HandOver era seat tag index root link old)) = (found == reservation_word (record { era = old; tag = tag })) ≡ true → (seat == i) ≡ false
Apart i found base = Unit {0}

handed_comes : (i j n era seat tag index old : ℕ) (post : Post) (same : Bool) → (same ≡ true → (seat == i) ≡ false) → reserved_along false i j (movers.after_hand_over era seat tag index old post same).told n ≡ n
handed_comes i j n era seat tag index old post true a = index_other i j seat index n (one_era era) (a refl)
handed_comes i j n era seat tag index old post false a = refl

pub base_comes : (rows : Bool) (i j n : ℕ) (base : Base) (post : Post) (found : ℕ) → post.seat ≡ i → Kinded rows base → SomeEra base → Apart i found base → reserved_along rows i j (machine.after base post found).told n ≡ after_x base j n
base_comes rows i j n (Protect aim index root steps (PublishEra era tries)) post found s k e a = rw k (index_more i j post.seat index era n s e)
base_comes rows i j n (Protect aim index root steps (TakeAnswer link era)) post found s k e a =
    rw k (held_reserved false i j index root link (bump steps) (reserves_by i j (events.Reserve (Index post.seat index) (one_era era)) n) ∙ index_more i j post.seat index era n s e)
base_comes rows i j n (Protect aim index root steps (ByHazard (PublishLink link))) post found s k e a = rw k (hazard_more i j post.seat index link n s e)
base_comes rows i j n (Clear false index) post found s k e a =
    rw k (reserved_both false i j (cleared index (stands post index)) (publishes_index false post index 0) n
    ∙ ap (reserved_along false i j (publishes_index false post index 0)) (dull_reserved false i j (cleared index (stands post index)) n (cleared_dull index (stands post index)))
    ∙ index_none i j post.seat index n s)
base_comes rows i j n (Clear true index) post found s k e a =
    rw k (reserved_both true i j (cleared index (stands post index)) (publishes_index true post index 0) n
    ∙ ap (reserved_along true i j (publishes_index true post index 0)) (dull_reserved true i j (cleared index (stands post index)) n (cleared_dull index (stands post index)))
    ∙ hazard_none i j post.seat index n s)
base_comes rows i j n (Move (HandOver era seat tag index root link old)) post found s k e a = rw k (handed_comes i j n era seat tag index old post (found == reservation_word (record { era = old; tag = tag })) a)
base_comes rows i j n (Protect aim index root steps at) post found s k e a = unindexed_reserved rows i j (Protect aim index root steps at) post found n refl
base_comes rows i j n (Move at) post found s k e a = unindexed_reserved rows i j (Move at) post found n refl
base_comes rows i j n base post found s k e a = unindexed_reserved rows i j base post found n refl

-- numbers
pub since_next : (steps x u : ℕ) → since steps x u ≡ true → since (steps + 1) x (turned x u) ≡ true
since_next steps x u h = grind (arith, nat_tests)

pub since_publish : (steps x u : ℕ) → since steps x u ≡ true → since (steps + 1) (x + 1) (turned x u) ≡ true
since_publish steps x u h = grind (arith, nat_tests)

pub publish_next : (steps x u : ℕ) → (if x == 0 then steps == 1 else steps == u + 1) ≡ true → since (steps + 1) (x + 1) (turned x u) ≡ true
publish_next steps x u h = grind (arith, nat_tests)

pub since_again : (steps x u : ℕ) → since steps x u ≡ true → (if x == 0 then steps == 1 else steps == u + 1) ≡ true
since_again steps x u h = grind (arith, nat_tests)

pub first_next : (steps x u : ℕ) → (x == 0 && steps == 0) ≡ true → (if x == 0 then steps + 1 == 1 else steps + 1 == turned x u + 1) ≡ true
first_next steps x u h = grind (arith, nat_tests)

pub few_next : (steps most : ℕ) → nat_le steps most ≡ true → nat_le (steps + 1) (most + 1) ≡ true
few_next steps most h = grind (arith, nat_tests)

pub number_of : (n x u call : ℕ) → since n x u ≡ true → nat_le n call ≡ true → number_right x u call n ≡ true
number_of n x u call h k = grind (arith, nat_tests)

pub own_x : (index at_n : ℕ) → (if index == index then at_n + 1 else at_n) ≡ at_n + 1
own_x index n = let e : (index == index) ≡ true = same_number index in rw e refl

pub tried_of : (tries : Tries) (b : Bool) → b ≡ true → tried tries b ≡ true
tried_of Endless b h = h
tried_of (Failed count) b h = refl

pub tried_with : (tries : Tries) (a b : Bool) → (a ≡ true → b ≡ true) → tried tries a ≡ true → tried tries b ≡ true
tried_with Endless a b w h = w h
tried_with (Failed count) a b w h = refl

pub tried_again : (tries : Tries) (a b : Bool) → (a ≡ true → b ≡ true) → tried tries a ≡ true → tried (failed_once tries) b ≡ true
tried_again Endless a b w h = w h
tried_again (Failed count) a b w h = refl

pub he_tried : (scheme : SchemeKind) (most : ℕ) (tries : Tries) (a : Bool) → try_fits scheme most tries ≡ true → is_he scheme ≡ true → tried tries a ≡ true → a ≡ true
he_tried scheme most Endless a f e h = h
he_tried He most (Failed count) a f e h = absurd (cc)
he_tried Ibr most (Failed count) a f e h = absurd (cc)
he_tried Hp most (Failed count) a f e h = absurd (cc)
he_tried Wfe most (Failed count) a f e h = absurd (cc)

pub he_first : (steps x : ℕ) → (x == 0 && steps == 0) ≡ true → (steps + 1 == 3 * x + 1) ≡ true
he_first steps x h = grind (arith, nat_tests)

pub he_publish : (steps x : ℕ) → (steps == 3 * x + 1) ≡ true → (steps + 1 + 1 == 3 * (x + 1)) ≡ true
he_publish steps x h = grind (arith, nat_tests)

pub or_he : (h b : Bool) → (not h || b) ≡ true → h ≡ true → b ≡ true
or_he true b w e = w
or_he false b w e = absurd (cc)

-- hazard pointers
pub hazard_first : (steps link : ℕ) → (link == 0) ≡ false → (x u : ℕ) → (x == 0 && steps == 0) ≡ true → ((if x == 0 then steps + 1 == 1 else steps + 1 == turned x u + 1) && (steps + 1 == 2 * x + 1 && not (link == 0))) ≡ true
hazard_first steps link n x u h = grind (arith, nat_tests)

pub hazard_publish : (steps link x u : ℕ) → ((if x == 0 then steps == 1 else steps == u + 1) && (steps == 2 * x + 1 && not (link == 0))) ≡ true → (since (steps + 1) (x + 1) (turned x u) && steps + 1 == 2 * (x + 1)) ≡ true
hazard_publish steps link x u h = grind (arith, nat_tests)

pub hazard_again : (steps link : ℕ) → (link == 0) ≡ false → (x u : ℕ) → (since steps x u && steps == 2 * x) ≡ true → ((if x == 0 then steps + 1 == 1 else steps + 1 == turned x u + 1) && (steps + 1 == 2 * x + 1 && not (link == 0))) ≡ true
hazard_again steps link n x u h = grind (arith, nat_tests)

pub reload_he : (scheme : SchemeKind) (steps x : ℕ) → reload_paced scheme steps x ≡ true → is_he scheme ≡ true → (steps == 3 * x + 1) ≡ true
reload_he scheme steps x h e = or_he (is_he scheme) (steps == 3 * x + 1) (first_of (not (is_he scheme) || steps == 3 * x + 1) (not (publishes_rows scheme) || steps == 2 * x + 1) h) e

pub reload_rows : (scheme : SchemeKind) (steps x : ℕ) → reload_paced scheme steps x ≡ true → publishes_rows scheme ≡ true → (steps == 2 * x + 1) ≡ true
reload_rows scheme steps x h e = or_he (publishes_rows scheme) (steps == 2 * x + 1) (rest_of (not (is_he scheme) || steps == 3 * x + 1) (not (publishes_rows scheme) || steps == 2 * x + 1) h) e

pub paced_trying : (c : Config) (era : ℕ) (tries : Tries) (n x u : ℕ) → since n x u ≡ true → tried tries (n + 1 == 3 * x) ≡ true → paced (trying c era tries) n x u ≡ true
paced_trying c era Endless n x u h t = both (since n x u) (n + 1 == 3 * x) h t
paced_trying c era (Failed count) n x u h t = by (nat_le c.tries count)
  where
    by : (b : Bool) → paced (if b then PublishRequest else LoadLink era (Failed count)) n x u ≡ true
    by true = h
    by false = both (since n x u) true h refl

pub taken_trying : (c : Config) (era : ℕ) (tries : Tries) (index : ℕ) (stood : Option ℕ) → taken index (trying c era tries) stood ≡ true
taken_trying c era Endless index stood = refl
taken_trying c era (Failed count) index stood = by (nat_le c.tries count)
  where
    by : (b : Bool) → taken index (if b then PublishRequest else LoadLink era (Failed count)) stood ≡ true
    by true = refl
    by false = refl

pub paced_lost : (first found : ℕ) (last : Bool) (n x u : ℕ) → since n x u ≡ true → paced (lost_turn first last found) n x u ≡ true
paced_lost first found true n x u h = h
paced_lost first found false n x u h = h

pub taken_lost : (first found : ℕ) (last : Bool) (index : ℕ) (stood : Option ℕ) → taken index (lost_turn first last found) stood ≡ true
taken_lost first found true index stood = refl
taken_lost first found false index stood = refl

pub paced_answer : (o : Option Request) (n x u : ℕ) → since n x u ≡ true → paced (answer_in o) n x u ≡ true
paced_answer (Some (requests.Answered link era)) n x u h = h
paced_answer (Some (requests.Pending tag index word)) n x u h = h
paced_answer (Some requests.Idle) n x u h = h
paced_answer None n x u h = h

pub taken_answer : (o : Option Request) (index : ℕ) (stood : Option ℕ) → taken index (answer_in o) stood ≡ true
taken_answer (Some (requests.Answered link era)) index stood = refl
taken_answer (Some (requests.Pending tag i word)) index stood = refl
taken_answer (Some requests.Idle) index stood = refl
taken_answer None index stood = refl

-- what stands at other indexes after a protection
row_other : (post : Post) (index link j : ℕ) (none : Bool) → (index == j) ≡ false → stands (if none then post else with_row post index (link - 1)) j ≡ stands post j
row_other post index link j true e = refl
row_other post index link j false e = let q : j ≢ index = grind (arith, nat_tests) in stands-with_row_other post index (link - 1) j q

pub held_other : (post : Post) (index : ℕ) (root : Root) (link j : ℕ) → (index == j) ≡ false → stands (held_post post index root link) j ≡ stands post j
held_other post index (roots.Next parent) link j e = refl
held_other post index (roots.Bucket bucket) link j e = row_other post index link j (link == 0) e
held_other post index roots.Head link j e = row_other post index link j (link == 0) e
held_other post index roots.Tail link j e = row_other post index link j (link == 0) e

taken_other : (index link : ℕ) (stood : Option ℕ) → (index == 2) ≡ false → stands_taken index link stood ≡ true
taken_other index link stood e = rw e refl

row_taken : (link : ℕ) (post : Post) (none : Bool) → (link == 0) ≡ none → length post.standing ≡ 8 → stands_taken 2 link (stands (if none then post else with_row post 2 (link - 1)) 2) ≡ true
row_taken link post true e h = rw e refl
row_taken link post false e h = let q = stands-with_row_same post 2 (link - 1) (omega (arith, h)) in rw q (rw e refl)

pub held_taken : (buckets : ℕ) (why : Why) (index : ℕ) (root : Root) (link : ℕ) (post : Post) → protects (kind_of why) ≡ true → index ≡ index_by why → root ≡ root_by buckets why → length post.standing ≡ 8 → stands_taken index link (stands (held_post post index root link) 2) ≡ true
held_taken buckets (Opens (Gets key)) index root link post p i r h = taken_other index link _ (rw i refl)
held_taken buckets (Opens (Changes kept)) index root link post p i r h = taken_other index link _ (rw i refl)
held_taken buckets (Opens (Holds key)) index root link post p i r h = rw i (rw r (row_taken link post (link == 0) refl h))
held_taken buckets (Opens (Enqueues kept)) index root link post p i r h = taken_other index link _ (rw i refl)
held_taken buckets (Opens Dequeues) index root link post p i r h = taken_other index link _ (rw i refl)
held_taken buckets (FollowsHead head tail) index root link post p i r h = taken_other index link _ (rw i refl)
held_taken buckets why index root link post p i r h = absurd (cc)

-- the index of a protection is not free, and from 2 on it is in use
why_apart : (why : Why) (index j : ℕ) → protects (kind_of why) ≡ true → index ≡ index_by why → free_why why j ≡ true → (index == j) ≡ false
why_apart (Opens task) index j p i e = rw i (grind (arith, nat_tests))
why_apart (FollowsHead head tail) index j p i e = rw i (grind (arith, nat_tests))
why_apart why index j p i e = absurd (cc)

task_apart : (task : Task) (j : ℕ) → nat_lt j 2 ≡ false → holds_task task j ≡ false → (index_of task == j) ≡ false
task_apart (Gets key) j low e = grind (arith, nat_tests)
task_apart (Changes kept) j low e = grind (arith, nat_tests)
task_apart (Holds key) j low e = grind (arith, nat_tests)
task_apart (Enqueues kept) j low e = grind (arith, nat_tests)
task_apart Dequeues j low e = grind (arith, nat_tests)

held_apart : (why : Why) (index j : ℕ) → protects (kind_of why) ≡ true → index ≡ index_by why → nat_lt j 2 ≡ false → holds_why why j ≡ false → (index == j) ≡ false
held_apart (Opens task) index j p i low e = rw i (task_apart task j low e)
held_apart (FollowsHead head tail) index j p i low e = rw i (grind (arith, nat_tests))
held_apart why index j p i low e = absurd (cc)

x_apart : (index : ℕ) (at : ProtectAt) (j n : ℕ) → (index == j) ≡ false → protect_x index at j n ≡ n
x_apart index (PublishEra era tries) j n e = rw e refl
x_apart index (TakeAnswer link era) j n e = rw e refl
x_apart index (ByHazard (PublishLink link)) j n e = rw e refl
x_apart index at j n e = refl

pub protect_clean : {x : ℕ → ℕ} (why : Why) (index : ℕ) (at : ProtectAt) (post next : Post) → protects (kind_of why) ≡ true → index ≡ index_by why → is_ibr (scheme_of next) ≡ false → ((j : ℕ) → (index == j) ≡ false → stands next j ≡ stands post j) → Clean x post (free_why why) (holds_why why) → Clean (λ j. protect_x index at j (x j)) next (free_why why) (holds_why why)
protect_clean {x} why index at post next p i n s c = record {
  free = λ j e. x_apart index at j (x j) (why_apart why index j p i e) ∙ c.free j e;
  kept = λ j low e m. let a = held_apart why index j p i low e in x_apart index at j (x j) a ∙ c.kept j low e (sym (s j a) ∙ m);
  plain = n;
}
