-- What a seat has published where it stands, where each index word publishes by itself: nothing at the indexes that are free, and within
-- a protection as many turns ago as the protection has made steps since. What comes after a machine keeps that.
use Rattle.std.proofs.Common.{ℕ, ◌≡◌, ◌≢◌, ◌≤◌, ◌<◌, ◌+◌, ◌-◌, Bool, true, false, List, [], ◌∷◌, ◌++◌, drop, length, Option, Some, None, refl, sym, ◌∙◌, subst, arith}
use Rattle.std.proofs.lemmas.Bool.Decides.{nat_tests}
use Rattle.std.specs.Prelude.{◌==◌, ◌&&◌, ◌||◌, ◌*◌, ◌%◌, not, nat_le, nat_lt, is_none, is_some, if◌then◌else◌}
use Rattle.law_reuse.specs.laws.words.declared.config.SchemeKind.{SchemeKind}
use Rattle.law_reuse.specs.laws.words.declared.config.SchemeKind.TheVariants.{He, Hp, Ibr, Wfe}
use Rattle.law_reuse.specs.laws.defs.declared.call.Answer.{Answer}
use Rattle.law_reuse.specs.laws.defs.declared.call.Answer.TheVariants as the_answers
use Rattle.law_reuse.specs.laws.defs.declared.call.Call.{Call}
use Rattle.law_reuse.specs.laws.defs.declared.call.Call.TheVariants as names
use Rattle.law_reuse.specs.laws.defs.declared.call.ClockMove.TheVariants as clock_moves
use Rattle.law_reuse.specs.laws.defs.declared.event.Event.{Event}
use Rattle.law_reuse.specs.laws.defs.declared.event.Event.TheVariants as events
use Rattle.law_reuse.specs.laws.defs.declared.event.Root.{Root}
use Rattle.law_reuse.specs.laws.defs.declared.event.Root.TheVariants as roots
use Rattle.law_reuse.specs.inv.model.declared.ends.AllocateEnd.{AllocateEnd}
use Rattle.law_reuse.specs.inv.model.declared.ends.AllocateEnd.TheVariants as allocate_ends
use Rattle.law_reuse.specs.inv.model.declared.ends.FollowEnd.{FollowEnd}
use Rattle.law_reuse.specs.inv.model.declared.ends.FollowEnd.TheVariants as follow_ends
use Rattle.law_reuse.specs.inv.model.declared.ends.ProtectEnd.TheVariants as protect_ends
use Rattle.law_reuse.specs.inv.model.declared.post.Post.{Post}
use Rattle.law_reuse.specs.inv.model.Change as alters
use Rattle.law_reuse.specs.inv.model.Dequeue as dequeues
use Rattle.law_reuse.specs.inv.model.Desks.{Desk, with_life}
use Rattle.law_reuse.specs.inv.model.Enqueue as enqueues
use Rattle.law_reuse.specs.inv.model.Get as gets
use Rattle.law_reuse.specs.inv.model.Guards.{guards, guard_at, published}
use Rattle.law_reuse.specs.inv.model.Keep as keeps
use Rattle.law_reuse.specs.inv.model.Posts.{publishes_index, standing_from, stands, with_row}
use Rattle.law_reuse.specs.inv.model.Rounds.{scheme_of, bucket_of, index_of, root_of, taken_of, begin_base, protect_base, let_index, letting, letting_by, release_base, clear_base, finish_base, opening, tidy_by, round_by, round, given_up, closed, finishing_by, finishing, clearing_by, clearing, clearing_next_by, clearing_next}
use Rattle.law_reuse.specs.inv.model.Scan as scan
use Rattle.law_reuse.specs.inv.model.Steps as steps
use Rattle.law_reuse.specs.inv.model.Phases.{Tries, Endless, Failed, HazardAt, ProtectAt, Base, Ending, Outcome, Goes, Ends}
use Rattle.law_reuse.specs.inv.model.Phases.ProtectAt.{LoadClock, PublishEra, LoadLink, CheckClock, PublishRequest, LoadOwnClock, PublishHelper, LoadOwnLink, CheckOwnClock, AnswerOwn, LoadAnswer, TakeAnswer, WithdrawRequest, WithdrawHelper, LoadWithin, CheckUpper, RaiseUpper, ByHazard}
use Rattle.law_reuse.specs.inv.model.Phases.HazardAt.{FirstLink, PublishLink, CheckLink}
use Rattle.law_reuse.specs.inv.model.Phases.Base.{Protect, Reload}
use Rattle.law_reuse.specs.inv.model.Phases.Ending.{Done, Protected, Followed, Allocated, Retired, Clocked}
use Rattle.law_reuse.specs.inv.model.Calls.{Task, Gets, Changes, Holds, Enqueues, Dequeues, Next, Again, MakeRoom, Answering, Retiring, AfterScan, Answered, Repeated, Counted, ChangeKept, EnqueueKept, GetAt, FindVersion, FindCount, FindKey, FindValue, ChangeAt, LoadVersion, LoadCount, LoadKey, LoadValue, ExchangeRoot, EnqueueAt, LoadNumber, LoadNext, PassTail, ExchangeNext, ExchangeTail, DequeueAt, LoadTail, SwingTail, TakeNumber, TakeValue, ExchangeHead, Work, Getting, Changing, Enqueuing, Dequeuing, Keeping, KeepAt, Loosens, LoadHeld, StoreHeld, Looks, Misses, HideSpan, MarkLeft, TakeList, MarkTaken, LetGo, Released, Rehold, Dropped, Parting, ScanAt, ReadGuard, GiveBack, Why, Opens, FollowsHead, Fills, ClearsNext, Clears, Finishes, GivesUp, Retires, Tidies, Advances, Releases, Phase, Idle, Runs, Scans, Works, CallTurn}
use Rattle.law_reuse.specs.laws.words.Schemes.{has_one_interval, is_ibr, is_he, moves, publishes_rows}
use Rattle.law_reuse.specs.laws.defs.declared.fold.Change.TheVariants as changes
use Rattle.law_reuse.proofs.laws.records.defs.Facts.{false_not_true}
use Rattle.law_reuse.proofs.inv.model.Standing.{stands-with_row_same, stands-with_row_other}
use Rattle.law_reuse.specs.inv.shapes.Frame.{KeepFits, phase_left}
use Rattle.law_reuse.specs.inv.covers.Rests.{spare, bare, beside, within, deep, vacant_later, vacant_work}
use Rattle.law_reuse.proofs.inv.covers.Resting.{bare_own}
use Rattle.law_reuse.proofs.inv.covers.Vacant.{beside_bare}
use Rattle.law_reuse.proofs.inv.covers.Rests.{spare_bare}

-- the indexes at which the seat surely publishes nothing
abbrev pub free_why : Why → ℕ → Bool
free_why (Opens task) j = beside task j
free_why (FollowsHead head tail) j = deep j
free_why (Fills task) j = within j
free_why (ClearsNext next) j = deep j
free_why (Clears task next) j = beside task j
free_why (Finishes task next) j = bare task j
free_why (GivesUp answer) j = spare j
free_why (Retires answer) j = spare j
free_why (Tidies later) j = vacant_later later j
free_why Advances j = spare j
free_why (Releases let_go) j = spare j

abbrev pub free_work : Work → ℕ → Bool
free_work (Keeping at) j = spare j
free_work work j = vacant_work work j

abbrev pub free : Phase → ℕ → Bool
free Idle j = spare j
free (Runs why base) j = free_why why j
free (Scans later at) j = vacant_later later j
free (Works work) j = free_work work j

-- index 2 is protected or cleared
abbrev pub is_hold : Task → Bool
is_hold (Gets key) = false
is_hold (Changes kept) = false
is_hold (Holds key) = true
is_hold (Enqueues kept) = false
is_hold Dequeues = false

-- the index that is protected or cleared, of those from 2 on
abbrev pub holds_task : Task → ℕ → Bool
holds_task task j = is_hold task && j == 2

abbrev pub holds_why : Why → ℕ → Bool
holds_why (Opens task) j = holds_task task j
holds_why (FollowsHead head tail) j = false
holds_why (Fills task) j = false
holds_why (ClearsNext next) j = false
holds_why (Clears task next) j = holds_task task j
holds_why (Finishes task next) j = false
holds_why (GivesUp answer) j = false
holds_why (Retires answer) j = false
holds_why (Tidies later) j = false
holds_why Advances j = false
holds_why (Releases let_go) j = j == let_index let_go

abbrev pub holds : Phase → ℕ → Bool
holds Idle j = false
holds (Runs why base) j = holds_why why j
holds (Scans later at) j = false
holds (Works work) j = false

-- none
abbrev pub unused : ℕ → Bool
unused j = false

-- nothing is published at these indexes; nor at one from 2 on that is not in use, where nothing stands there
pub record Clean (x : ℕ → ℕ) (post : Post) (f held : ℕ → Bool) : Type 0 where
  pub free : (j : ℕ) → f j ≡ true → x j ≡ 0
  pub kept : (j : ℕ) → nat_lt j 2 ≡ false → held j ≡ false → stands post j ≡ None → x j ≡ 0
  pub plain : is_ibr (scheme_of post) ≡ false

-- the tasks that fill a row
abbrev pub fills_task : Task → Bool
fills_task (Gets key) = false
fills_task (Changes kept) = true
fills_task (Holds key) = false
fills_task (Enqueues kept) = true
fills_task Dequeues = false

-- the steps of a protection, by what its index publishes and the turns since it does
abbrev pub since : (steps published turns : ℕ) → Bool
since steps published turns = nat_lt 0 published && steps == turns + 1

-- Hazard Eras count no tries: three steps an era that was published
abbrev pub tried : Tries → (endless : Bool) → Bool
tried Endless endless = endless
tried (Failed count) endless = true

-- hazard pointers: two steps a row that was published
abbrev pub hazard_paced : HazardAt → (steps published turns : ℕ) → Bool
hazard_paced FirstLink steps published turns = published == 0 && steps == 0
hazard_paced (PublishLink link) steps published turns = (if published == 0 then steps == 1 else steps == turns + 1) && (steps == 2 * published + 1 && not (link == 0))
hazard_paced (CheckLink link) steps published turns = since steps published turns && steps == 2 * published

abbrev pub paced : ProtectAt → (steps published turns : ℕ) → Bool
paced (LoadClock tries) steps published turns = published == 0 && steps == 0
paced (PublishEra era tries) steps published turns = (if published == 0 then steps == 1 else steps == turns + 1) && tried tries (steps == 3 * published + 1)
paced (LoadLink era tries) steps published turns = since steps published turns && tried tries (steps + 1 == 3 * published)
paced (CheckClock era tries link) steps published turns = since steps published turns && tried tries (steps == 3 * published)
paced PublishRequest steps published turns = since steps published turns
paced LoadOwnClock steps published turns = since steps published turns
paced (PublishHelper first era last) steps published turns = since steps published turns
paced (LoadOwnLink first era last) steps published turns = since steps published turns
paced (CheckOwnClock first era last link) steps published turns = since steps published turns
paced (AnswerOwn first era link) steps published turns = since steps published turns
paced (LoadAnswer first) steps published turns = since steps published turns
paced (TakeAnswer link era) steps published turns = since steps published turns
paced (WithdrawRequest link era) steps published turns = since steps published turns
paced (WithdrawHelper link era) steps published turns = since steps published turns
paced LoadWithin steps published turns = true
paced (CheckUpper link) steps published turns = true
paced (RaiseUpper era) steps published turns = true
paced (ByHazard at) steps published turns = hazard_paced at steps published turns

-- once an answer with a link was taken at index 2, a row stands there
abbrev pub stands_taken : (index link : ℕ) → Option ℕ → Bool
stands_taken index link stood = not (index == 2 && (not (link == 0) && is_none stood))

abbrev pub taken : (index : ℕ) → ProtectAt → Option ℕ → Bool
taken index (WithdrawRequest link era) stood = stands_taken index link stood
taken index (WithdrawHelper link era) stood = stands_taken index link stood
taken index at stood = true

-- the steps of a protection whose row is followed
abbrev pub reload_paced : SchemeKind → (steps published : ℕ) → Bool
reload_paced scheme steps published = (not (is_he scheme) || steps == 3 * published + 1) && (not (publishes_rows scheme) || steps == 2 * published + 1)

abbrev pub base_own : (x u : ℕ → ℕ) → Post → Base → Bool
base_own x u post (Protect aim index root steps at) = paced at steps (x index) (u index) && (nat_le steps post.steps && taken index at (stands post 2))
base_own x u post (Reload parent index slot era steps) = since steps (x index) (u index) && (nat_le steps post.steps && reload_paced (scheme_of post) steps (x index))
base_own x u post base = true

abbrev pub own : (x u : ℕ → ℕ) → Post → Phase → Bool
own x u post (Runs why base) = base_own x u post base
own x u post phase = true

pub record Fits (x u : ℕ → ℕ) (post : Post) (phase : Phase) : Type 0 where
  pub clean : Clean x post (free phase) (holds phase)
  pub own : own x u post phase ≡ true

abbrev pub Left : (x u : ℕ → ℕ) → CallTurn → Type 0
Left x u t = Fits x u t.post (phase_left t.outcome)

pub fewer : {x : ℕ → ℕ} {post : Post} {f g held : ℕ → Bool} → Clean x post f held → ((j : ℕ) → g j ≡ true → f j ≡ true) → Clean x post g held
fewer c w = record { free = λ j e. c.free j (w j e); kept = c.kept; plain = c.plain }

-- an index that is not in use may come into use
pub used : {x : ℕ → ℕ} {post : Post} {f : ℕ → Bool} (held : ℕ → Bool) → Clean x post f unused → Clean x post f held
used held c = record { free = c.free; kept = λ j low e n. c.kept j low refl n; plain = c.plain }

-- a round begins
opening_at : {x u : ℕ → ℕ} (task : Task) (root : Root) (post : Post) (scheme : SchemeKind) → is_ibr scheme ≡ false → Clean x post (bare task) unused → Fits x u post (Runs (Opens task) (protect_base scheme (index_of task) root))
opening_at task root post He n c =
    let z = c.free (index_of task) (bare_own task (index_of task) (grind (arith, nat_tests))) in
    record { clean = used (holds_task task) (fewer c (λ j e. beside_bare task j e)); own = rw z (grind (arith, nat_tests)) }
opening_at task root post Ibr n c = absurd (cc)
opening_at task root post Hp n c =
    let z = c.free (index_of task) (bare_own task (index_of task) (grind (arith, nat_tests))) in
    record { clean = used (holds_task task) (fewer c (λ j e. beside_bare task j e)); own = rw z (grind (arith, nat_tests)) }
opening_at task root post Wfe n c =
    let z = c.free (index_of task) (bare_own task (index_of task) (grind (arith, nat_tests))) in
    record { clean = used (holds_task task) (fewer c (λ j e. beside_bare task j e)); own = rw z (grind (arith, nat_tests)) }

opening_fits : {x u : ℕ → ℕ} (task : Task) (post : Post) → Clean x post (bare task) unused → Fits x u post (opening task post)
opening_fits task post c = opening_at task (root_of task post) post (scheme_of post) c.plain c

round_at : {x u : ℕ → ℕ} (task : Task) (post : Post) (scheme : SchemeKind) → is_ibr scheme ≡ false → Clean x post (bare task) unused → Fits x u post (round_by task post (begin_base scheme post))
round_at task post He n c = opening_fits task post c
round_at task post Ibr n c = absurd (cc)
round_at task post Hp n c = opening_fits task post c
round_at task post Wfe n c = opening_fits task post c

pub round_fits : {x u : ℕ → ℕ} (task : Task) (post : Post) → Clean x post (bare task) unused → Fits x u post (round task post)
round_fits task post c = round_at task post (scheme_of post) c.plain c

given_up_fits : {x u : ℕ → ℕ} (answer : Answer) (post : Post) (desk : Desk) (told : List Event) (o : Option ℕ) → Clean x post spare unused → Left x u (given_up answer post desk told o)
given_up_fits answer post desk told None c = record { clean = c; own = refl }
given_up_fits answer post desk told (Some slot) c = record { clean = c; own = refl }

-- a list is tidied
tidy_fits : {x u : ℕ → ℕ} (later : AfterScan) (post : Post) (moving : Bool) → Clean x post (vacant_later later) unused → Fits x u post (tidy_by moving later post)
tidy_fits later post true c = record { clean = c; own = refl }
tidy_fits later post false c = record { clean = c; own = refl }

closed_fits : {x u : ℕ → ℕ} (task : Task) (next : Next) (post : Post) (desk : Desk) (told : List Event) → Clean x post (bare task) unused → Left x u (closed task next post desk told)
closed_fits task Again post desk told c = round_fits task post c
closed_fits task MakeRoom post desk told c = tidy_fits (Repeated task) post (moves (scheme_of post)) c
closed_fits task (Answering answer) post desk told c = given_up_fits answer post desk told (taken_of task) (fewer c (λ j e. spare_bare task j e))
closed_fits task (Retiring slot answer) post desk told c = record { clean = fewer c (λ j e. spare_bare task j e); own = refl }

finishing_at : {x u : ℕ → ℕ} (task : Task) (next : Next) (post : Post) (desk : Desk) (told : List Event) (scheme : SchemeKind) → is_ibr scheme ≡ false → Clean x post (bare task) unused → Left x u (finishing_by task next post desk told (finish_base scheme post))
finishing_at task next post desk told He n c = closed_fits task next post desk told c
finishing_at task next post desk told Ibr n c = absurd (cc)
finishing_at task next post desk told Hp n c = closed_fits task next post desk told c
finishing_at task next post desk told Wfe n c = closed_fits task next post desk told c

finishing_fits : {x u : ℕ → ℕ} (task : Task) (next : Next) (post : Post) (desk : Desk) (told : List Event) → Clean x post (bare task) unused → Left x u (finishing task next post desk told)
finishing_fits task Again post desk told c = closed_fits task Again post desk told c
finishing_fits task MakeRoom post desk told c = finishing_at task MakeRoom post desk told (scheme_of post) c.plain c
finishing_fits task (Answering answer) post desk told c = finishing_at task (Answering answer) post desk told (scheme_of post) c.plain c
finishing_fits task (Retiring slot answer) post desk told c = finishing_at task (Retiring slot answer) post desk told (scheme_of post) c.plain c

clearing_at : {x u : ℕ → ℕ} (task : Task) (next : Next) (post : Post) (desk : Desk) (told : List Event) (scheme : SchemeKind) → is_ibr scheme ≡ false → Clean x post (beside task) (holds_task task) → Left x u (clearing_by task next post desk told (clear_base scheme (index_of task)))
clearing_at task next post desk told He n c = record { clean = c; own = refl }
clearing_at task next post desk told Ibr n c = absurd (cc)
clearing_at task next post desk told Hp n c = record { clean = c; own = refl }
clearing_at task next post desk told Wfe n c = record { clean = c; own = refl }

clearing_fits : {x u : ℕ → ℕ} (task : Task) (next : Next) (post : Post) (desk : Desk) (told : List Event) → Clean x post (beside task) (holds_task task) → Left x u (clearing task next post desk told)
clearing_fits task next post desk told c = clearing_at task next post desk told (scheme_of post) c.plain c

clearing_next_at : {x u : ℕ → ℕ} (next : Next) (post : Post) (desk : Desk) (told : List Event) (scheme : SchemeKind) → is_ibr scheme ≡ false → Clean x post deep unused → Left x u (clearing_next_by next post desk told (clear_base scheme 1))
clearing_next_at next post desk told He n c = record { clean = c; own = refl }
clearing_next_at next post desk told Ibr n c = absurd (cc)
clearing_next_at next post desk told Hp n c = record { clean = c; own = refl }
clearing_next_at next post desk told Wfe n c = record { clean = c; own = refl }

clearing_next_fits : {x u : ℕ → ℕ} (next : Next) (post : Post) (desk : Desk) (told : List Event) → Clean x post deep unused → Left x u (clearing_next next post desk told)
clearing_next_fits next post desk told c = clearing_next_at next post desk told (scheme_of post) c.plain c

-- the steps of a call's own
got_fits : {x u : ℕ → ℕ} (key version : ℕ) (value : Option ℕ) (post : Post) (desk : Desk) (told : List Event) → Clean x post within unused → Left x u (gets.got key version value post desk told)
got_fits key version value post desk told c = clearing_fits (Gets key) (Answering (the_answers.Got version value)) post desk (told ++ events.Got (bucket_of post key) version key value ∷ []) c

finding_fits : {x u : ℕ → ℕ} (key slot version count : ℕ) (post : Post) (desk : Desk) (more : Bool) (pair : ℕ) → Clean x post within unused → Left x u (gets.finding key slot version count post desk more pair)
finding_fits key slot version count post desk true pair c = record { clean = c; own = refl }
finding_fits key slot version count post desk false pair c = got_fits key version None post desk [] c

found_key_fits : {x u : ℕ → ℕ} (key slot version count pair : ℕ) (post : Post) (desk : Desk) (same : Bool) → Clean x post within unused → Left x u (gets.found_key key slot version count pair post desk same)
found_key_fits key slot version count pair post desk true c = record { clean = c; own = refl }
found_key_fits key slot version count pair post desk false c = finding_fits key slot version count post desk (nat_lt (pair + 1) count) (pair + 1) c

get_fits : {x u : ℕ → ℕ} (key : ℕ) (at : GetAt) (post : Post) (desk : Desk) (found : ℕ) → Clean x post within unused → Left x u (gets.get_turn key at post desk found)
get_fits key (FindVersion slot) post desk found c = record { clean = c; own = refl }
get_fits key (FindCount slot version) post desk found c = finding_fits key slot version found post desk (nat_lt 0 found) 0 c
get_fits key (FindKey slot version count pair) post desk found c = found_key_fits key slot version count pair post desk (found == key) c
get_fits key (FindValue slot version pair) post desk found c = got_fits key version (Some found) post desk [] c

filling_fits : {x u : ℕ → ℕ} (task : Task) (post : Post) (kept : ChangeKept) (slot : Option ℕ) → Clean x post within unused → Fits x u post (Runs (Fills task) (alters.filling_by kept slot))
filling_fits task post kept None c = record { clean = c; own = refl }
filling_fits task post kept (Some slot) c = record { clean = c; own = refl }

deciding_by_fits : {x u : ℕ → ℕ} (kept : ChangeKept) (post : Post) (desk : Desk) (told : List Event) (o : Option Answer) → Clean x post within unused → Left x u (alters.deciding_by kept post desk told o)
deciding_by_fits kept post desk told (Some answer) c = clearing_fits (Changes kept) (Answering answer) post desk told c
deciding_by_fits kept post desk told None c = filling_fits (Changes (alters.with_change kept)) post (alters.with_change kept) kept.taken c

deciding_fits : {x u : ℕ → ℕ} (kept : ChangeKept) (post : Post) (desk : Desk) (told : List Event) → Clean x post within unused → Left x u (alters.deciding kept post desk told)
deciding_fits kept post desk told c = deciding_by_fits kept post desk told (alters.refused post.layout.config kept) c

reading_fits : {x u : ℕ → ℕ} (kept : ChangeKept) (slot count : ℕ) (post : Post) (desk : Desk) (more : Bool) → Clean x post within unused → Left x u (alters.reading kept slot count post desk more)
reading_fits kept slot count post desk true c = record { clean = c; own = refl }
reading_fits kept slot count post desk false c = deciding_fits kept post desk [] c

exchanged_fits : {x u : ℕ → ℕ} (kept : ChangeKept) (slot : ℕ) (post : Post) (desk : Desk) (same : Bool) → Clean x post within unused → Left x u (alters.exchanged kept slot post desk same)
exchanged_fits kept slot post desk true c = clearing_fits (Changes (record kept { taken = None })) (alters.answer_done (kept.version + 1) kept.link) post desk (alters.told_linked kept slot post) c
exchanged_fits kept slot post desk false c = clearing_fits (Changes kept) Again post desk [] c

change_fits : {x u : ℕ → ℕ} (kept : ChangeKept) (at : ChangeAt) (post : Post) (desk : Desk) (found : ℕ) → Clean x post within unused → Left x u (alters.change_turn kept at post desk found)
change_fits kept (LoadVersion slot) post desk found c = record { clean = c; own = refl }
change_fits kept (LoadCount slot) post desk found c = reading_fits kept slot found post desk (nat_lt 0 found) c
change_fits kept (LoadKey slot count) post desk found c = record { clean = c; own = refl }
change_fits kept (LoadValue slot count key) post desk found c = reading_fits (alters.with_read kept key found) slot count post desk (nat_lt (length kept.pairs + 1) count) c
change_fits kept (ExchangeRoot slot) post desk found c = exchanged_fits kept slot post desk (found == kept.link) c

filling_item_fits : {x u : ℕ → ℕ} (task : Task) (post : Post) (kept : EnqueueKept) (slot : Option ℕ) → Clean x post within unused → Fits x u post (Runs (Fills task) (enqueues.filling_by kept slot))
filling_item_fits task post kept None c = record { clean = c; own = refl }
filling_item_fits task post kept (Some slot) c = record { clean = c; own = refl }

appending_fits : {x u : ℕ → ℕ} (kept : EnqueueKept) (post : Post) (desk : Desk) (spent : Bool) → Clean x post within unused → Left x u (enqueues.appending kept post desk spent)
appending_fits kept post desk true c = clearing_fits (Enqueues kept) (Answering (the_answers.Spent kept.number)) post desk [] c
appending_fits kept post desk false c = filling_item_fits (Enqueues kept) post kept kept.taken c

at_next_fits : {x u : ℕ → ℕ} (kept : EnqueueKept) (next : ℕ) (post : Post) (desk : Desk) (none : Bool) → Clean x post within unused → Left x u (enqueues.at_next kept next post desk none)
at_next_fits kept next post desk true c = appending_fits kept post desk (kept.number == post.layout.config.last_version) c
at_next_fits kept next post desk false c = record { clean = c; own = refl }

appended_fits : {x u : ℕ → ℕ} (kept : EnqueueKept) (slot : ℕ) (post : Post) (desk : Desk) (same : Bool) → Clean x post within unused → Left x u (enqueues.appended kept slot post desk same)
appended_fits kept slot post desk true c = record { clean = c; own = refl }
appended_fits kept slot post desk false c = clearing_fits (Enqueues kept) Again post desk [] c

enqueue_fits : {x u : ℕ → ℕ} (kept : EnqueueKept) (at : EnqueueAt) (post : Post) (desk : Desk) (found : ℕ) → Clean x post within unused → Left x u (enqueues.enqueue_turn kept at post desk found)
enqueue_fits kept LoadNumber post desk found c = record { clean = c; own = refl }
enqueue_fits kept LoadNext post desk found c = at_next_fits kept found post desk (found == 0) c
enqueue_fits kept (PassTail next) post desk found c = clearing_fits (Enqueues kept) Again post desk (enqueues.told_link roots.Tail (next - 1) (found == kept.tail + 1)) c
enqueue_fits kept (ExchangeNext slot) post desk found c = appended_fits kept slot post desk (found == 0) c
enqueue_fits kept (ExchangeTail slot) post desk found c = clearing_fits (Enqueues kept) (Answering (the_answers.Queued (kept.number + 1))) post desk (enqueues.told_link roots.Tail slot (found == kept.tail + 1)) c

follow_at : {x u : ℕ → ℕ} (head tail : ℕ) (post : Post) (scheme : SchemeKind) → is_ibr scheme ≡ false → Clean x post within unused → Fits x u post (Runs (FollowsHead head tail) (dequeues.follow_base scheme head))
follow_at head tail post He n c = let z = c.free 1 refl in record { clean = fewer c (λ j e. grind (arith, nat_tests)); own = rw z (grind (arith, nat_tests)) }
follow_at head tail post Ibr n c = absurd (cc)
follow_at head tail post Hp n c = let z = c.free 1 refl in record { clean = fewer c (λ j e. grind (arith, nat_tests)); own = rw z (grind (arith, nat_tests)) }
follow_at head tail post Wfe n c = let z = c.free 1 refl in record { clean = fewer c (λ j e. grind (arith, nat_tests)); own = rw z (grind (arith, nat_tests)) }

taken_fits : {x u : ℕ → ℕ} (head next number value : ℕ) (post : Post) (desk : Desk) (same : Bool) → Clean x post deep unused → Left x u (dequeues.taken head next number value post desk same)
taken_fits head next number value post desk true c = clearing_next_fits (Retiring head (the_answers.Taken number value clock_moves.Still)) post desk (events.Link roots.Head next ∷ events.Cut head ∷ events.Taken number value ∷ []) c
taken_fits head next number value post desk false c = clearing_next_fits Again post desk [] c

dequeue_fits : {x u : ℕ → ℕ} (at : DequeueAt) (post : Post) (desk : Desk) (found : ℕ) → Clean x post (vacant_work (Dequeuing at)) unused → Left x u (dequeues.dequeue_turn at post desk found)
dequeue_fits (LoadTail head) post desk found c = follow_at head found post (scheme_of post) c.plain c
dequeue_fits (SwingTail head next) post desk found c = clearing_next_fits Again post desk (enqueues.told_link roots.Tail next (found == head + 1)) c
dequeue_fits (TakeNumber head next) post desk found c = record { clean = c; own = refl }
dequeue_fits (TakeValue head next number) post desk found c = record { clean = c; own = refl }
dequeue_fits (ExchangeHead head next number value) post desk found c = taken_fits head next number value post desk (found == head + 1) c

-- what a copy makes of what was published: era 0, and the null link, publish nothing
abbrev pub copied_x : (number n : ℕ) → ℕ
copied_x number n = if number == 0 then 0 else n + 1

-- what a step of a call's own makes of what the seat has published at its index word j: a copy publishes an era, or a row
abbrev pub work_x : Work → ℕ → ℕ → ℕ
work_x (Keeping (StoreHeld from index number)) j n = if index == j then copied_x number n else n
work_x work j n = n

-- a copy goes to an index from 2 on, of the eight
abbrev pub WorkRight : Work → Type 0
WorkRight (Keeping (StoreHeld from index era)) = (2 ≤ index) × (index < 8)
WorkRight work = Unit {0}

looking_fits : {x u : ℕ → ℕ} (index key slot version count : ℕ) (post : Post) (desk : Desk) (more : Bool) (pair : ℕ) → Clean x post spare unused → Left x u (keeps.looking index key slot version count post desk more pair)
looking_fits index key slot version count post desk true pair c = record { clean = c; own = refl }
looking_fits index key slot version count post desk false pair c = record { clean = c; own = refl }

looked_key_fits : {x u : ℕ → ℕ} (index key slot version count pair : ℕ) (post : Post) (desk : Desk) (same : Bool) → Clean x post spare unused → Left x u (keeps.looked_key index key slot version count pair post desk same)
looked_key_fits index key slot version count pair post desk true c = record { clean = c; own = refl }
looked_key_fits index key slot version count pair post desk false c = looking_fits index key slot version count post desk (nat_lt (pair + 1) count) (pair + 1) c

look_fits : {x u : ℕ → ℕ} (index key : ℕ) (at : GetAt) (post : Post) (desk : Desk) (found : ℕ) → Clean x post spare unused → Left x u (keeps.look_turn index key at post desk found)
look_fits index key (FindVersion slot) post desk found c = record { clean = c; own = refl }
look_fits index key (FindCount slot version) post desk found c = looking_fits index key slot version found post desk (nat_lt 0 found) 0 c
look_fits index key (FindKey slot version count pair) post desk found c = looked_key_fits index key slot version count pair post desk (found == key) c
look_fits index key (FindValue slot version pair) post desk found c = record { clean = c; own = refl }

-- what is copied stands at the other index from here on
copied_clean : {x : ℕ → ℕ} (index slot era : ℕ) (post : Post) → 2 ≤ index → index < length post.standing → Clean x post spare unused → Clean (λ j. if index == j then copied_x era (x j) else x j) (with_row post index slot) spare unused
copied_clean {x} index slot era post low room c = record {
  free = λ j e. let n : (index == j) ≡ false = apart j e in rw n (c.free j e);
  kept = λ j l e m. by j (index == j) refl l m;
  plain = c.plain;
}
  where
    apart : (j : ℕ) → spare j ≡ true → (index == j) ≡ false
    apart j e = grind (arith, nat_tests)

    by : (j : ℕ) (own : Bool) → (index == j) ≡ own → nat_lt j 2 ≡ false → stands (with_row post index slot) j ≡ None → (if own then copied_x era (x j) else x j) ≡ 0
    by j true e l m =
        let q : index ≡ j = grind (arith, nat_tests) in
        let h : stands (with_row post index slot) index ≡ None = subst (λ (k : ℕ). stands (with_row post index slot) k ≡ None) (sym q) m in
        absurd (let t = stands-with_row_same post index slot room in cc)
    by j false e l m = let q : j ≢ index = grind (arith, nat_tests) in c.kept j l refl (sym (stands-with_row_other post index slot j q) ∙ m)

store_fits : {x u : ℕ → ℕ} (from index era : ℕ) (post : Post) (desk : Desk) (reserved : List Event) (o : Option ℕ) → is_some o ≡ true → 2 ≤ index → index < length post.standing → Clean x post spare unused → Left (λ j. if index == j then copied_x era (x j) else x j) u (keeps.copied from index post desk reserved o)
store_fits from index era post desk reserved None s low room c = absurd (cc)
store_fits from index era post desk reserved (Some slot) s low room c = record { clean = copied_clean index slot era post low room c; own = refl }

load_fits : {x u : ℕ → ℕ} (from index : ℕ) (post : Post) (desk : Desk) (found : ℕ) (one : Bool) → one ≡ false → Clean x post spare unused → Left x u (keeps.load_held from index post desk found one)
load_fits from index post desk found true n c = absurd (cc)
load_fits from index post desk found false n c = record { clean = c; own = refl }

taking_fits : {x u : ℕ → ℕ} (place : ℕ) (post : Post) (desk : Desk) (left : Bool) (found : ℕ) → Clean x post spare unused → Left x u (keeps.taking place post desk left found)
taking_fits place post desk true found c = record { clean = c; own = refl }
taking_fits place post desk false found c = record { clean = c; own = refl }

pub keep_fits : {x u : ℕ → ℕ} (at : KeepAt) (post : Post) (desk : Desk) (found : ℕ) → KeepFits post at → WorkRight (Keeping at) → length post.standing ≡ 8 → Clean x post spare unused → Left (λ j. work_x (Keeping at) j (x j)) u (keeps.keep_turn at post desk found)
keep_fits (Loosens let_go) post desk found f r e c = absurd (false_not_true (is_ibr (scheme_of post)) c.plain f.interval)
keep_fits (LoadHeld from index) post desk found f r e c = load_fits from index post desk found (has_one_interval (scheme_of post)) c.plain c
keep_fits (StoreHeld from index era) post desk found f r e c = store_fits from index era post desk (publishes_index (publishes_rows (scheme_of post)) post index era) (stands post from) f.kept r.0 (rw e r.1) c
keep_fits (Looks index key at) post desk found f r e c = look_fits index key at post desk found c
keep_fits (Misses index) post desk found f r e c = record { clean = c; own = refl }
keep_fits HideSpan post desk found f r e c = absurd (false_not_true (is_ibr (scheme_of post)) c.plain f.interval)
keep_fits MarkLeft post desk found f r e c = record { clean = c; own = refl }
keep_fits (TakeList place) post desk found f r e c = taking_fits place post desk (found == 1) found c
keep_fits (MarkTaken place count) post desk found f r e c = record { clean = c; own = refl }

-- the other steps publish nothing
abbrev pub is_keeping : Work → Bool
is_keeping (Keeping at) = true
is_keeping work = false

pub work_fits : {x u : ℕ → ℕ} (work : Work) (post : Post) (desk : Desk) (found : ℕ) → is_keeping work ≡ false → Clean x post (vacant_work work) unused → Left x u (steps.work_turn work post desk found)
work_fits (Getting key at) post desk found k c = get_fits key at post desk found c
work_fits (Changing kept at) post desk found k c = change_fits kept at post desk found c
work_fits (Enqueuing kept at) post desk found k c = enqueue_fits kept at post desk found c
work_fits (Dequeuing at) post desk found k c = dequeue_fits at post desk found c
work_fits (Keeping at) post desk found k c = absurd (cc)

-- a scan
scanned_fits : {x u : ℕ → ℕ} (later : AfterScan) (post : Post) (desk : Desk) (told : List Event) → Clean x post (vacant_later later) unused → Left x u (scan.scanned later post desk told)
scanned_fits (Answered answer) post desk told c = record { clean = c; own = refl }
scanned_fits (Repeated task) post desk told c = round_fits task post c
scanned_fits Counted post desk told c = record { clean = c; own = refl }

giving_fits : {x u : ℕ → ℕ} (later : AfterScan) (post : Post) (desk : Desk) (told : List Event) (o : Option scan.Entry) → Clean x post (vacant_later later) unused → Left x u (scan.giving_back later post desk told o)
giving_fits later post desk told None c = scanned_fits later post (scan.with_kept desk) told c
giving_fits later post desk told (Some entry) c = record { clean = c; own = refl }

reading_on_fits : {x u : ℕ → ℕ} (later : AfterScan) (number : ℕ) (post : Post) (desk : Desk) (told : List Event) (more : Bool) → Clean x post (vacant_later later) unused → Left x u (scan.reading later number post desk told more)
reading_on_fits later number post desk told true c = record { clean = c; own = refl }
reading_on_fits later number post desk told false c = giving_fits later post desk told (scan.unmet_from desk 0) c

pub scan_fits : {x u : ℕ → ℕ} (later : AfterScan) (at : ScanAt) (post : Post) (desk : Desk) (found : ℕ) → Clean x post (vacant_later later) unused → Left x u (scan.scan_turn later at post desk found)
scan_fits later (ReadGuard number) post desk found c =
    reading_on_fits later number post (scan.with_read desk number (guard_at post.layout.config number, published (publishes_rows post.layout.config.scheme) (guard_at post.layout.config number) found)) (scan.reads_guard (publishes_rows post.layout.config.scheme) (guard_at post.layout.config number) found ∷ []) (nat_lt (number + 1) (guards post.layout.config)) c
scan_fits later (GiveBack place slot) post desk found c = giving_fits later post (scan.with_back desk place) (events.Back slot ∷ []) (scan.unmet_from (scan.with_back desk place) place) c

-- what comes after a machine
opened_row_fits : {x u : ℕ → ℕ} (task : Task) (slot : ℕ) (post : Post) (desk : Desk) (told : List Event) → Clean x post (beside task) unused → Left x u (steps.opened_row task slot post desk told)
opened_row_fits (Gets key) slot post desk told c = record { clean = c; own = refl }
opened_row_fits (Changes kept) slot post desk told c = record { clean = c; own = refl }
opened_row_fits (Holds key) slot post desk told c = record { clean = fewer c (λ j e. grind (arith, nat_tests)); own = refl }
opened_row_fits (Enqueues kept) slot post desk told c = record { clean = c; own = refl }
opened_row_fits Dequeues slot post desk told c = record { clean = c; own = refl }

opened_null_fits : {x u : ℕ → ℕ} (task : Task) (post : Post) (desk : Desk) (told : List Event) → Clean x post (beside task) (holds_task task) → Left x u (steps.opened_null task post desk told)
opened_null_fits (Gets key) post desk told c = got_fits key 0 None post desk told c
opened_null_fits (Changes kept) post desk told c = deciding_fits (alters.at_link kept 0) post desk told c
opened_null_fits (Holds key) post desk told c = clearing_fits (Holds key) (Answering the_answers.Nothing) post desk told c
opened_null_fits (Enqueues kept) post desk told c = clearing_fits (Enqueues kept) Again post desk told c
opened_null_fits Dequeues post desk told c = clearing_fits Dequeues Again post desk told c

filled_by_fits : {x u : ℕ → ℕ} (task : Task) (ending : AllocateEnd) (post : Post) (desk : Desk) (told : List Event) → fills_task task ≡ true → Clean x post within unused → Left x u (steps.filled_by task ending post desk told)
filled_by_fits (Changes kept) (allocate_ends.Given slot birth) post desk told f c = record { clean = c; own = refl }
filled_by_fits (Changes kept) allocate_ends.Full post desk told f c = clearing_fits (Changes (alters.with_walked kept)) (alters.no_room kept.walked) post desk told c
filled_by_fits (Enqueues kept) (allocate_ends.Given slot birth) post desk told f c = record { clean = c; own = refl }
filled_by_fits (Enqueues kept) allocate_ends.Full post desk told f c = clearing_fits (Enqueues (enqueues.item_walked kept)) (alters.no_room kept.walked) post desk told c
filled_by_fits (Gets key) ending post desk told f c = absurd (cc)
filled_by_fits (Holds key) ending post desk told f c = absurd (cc)
filled_by_fits Dequeues ending post desk told f c = absurd (cc)

written_fits : {x u : ℕ → ℕ} (task : Task) (post : Post) (desk : Desk) (told : List Event) → fills_task task ≡ true → Clean x post within unused → Left x u (steps.written_row task post desk told)
written_fits (Changes kept) post desk told f c = record { clean = c; own = refl }
written_fits (Enqueues kept) post desk told f c = record { clean = c; own = refl }
written_fits (Gets key) post desk told f c = absurd (cc)
written_fits (Holds key) post desk told f c = absurd (cc)
written_fits Dequeues post desk told f c = absurd (cc)

filled_fits : {x u : ℕ → ℕ} (task : Task) (ending : Ending) (post : Post) (desk : Desk) (told : List Event) → fills_task task ≡ true → Clean x post within unused → Left x u (steps.filled task ending post desk told)
filled_fits task (Allocated ending) post desk told f c = filled_by_fits task ending post desk told f c
filled_fits task Done post desk told f c = written_fits task post desk told f c
filled_fits task (Protected end) post desk told f c = written_fits task post desk told f c
filled_fits task (Followed end) post desk told f c = written_fits task post desk told f c
filled_fits task (Retired life) post desk told f c = written_fits task post desk told f c
filled_fits task (Clocked clock) post desk told f c = written_fits task post desk told f c

followed_row_fits : {x u : ℕ → ℕ} (head next : ℕ) (post : Post) (desk : Desk) (told : List Event) (lags : Bool) → Clean x post deep unused → Left x u (dequeues.followed_row head next post desk told lags)
followed_row_fits head next post desk told true c = record { clean = c; own = refl }
followed_row_fits head next post desk told false c = record { clean = c; own = refl }

followed_fits : {x u : ℕ → ℕ} (head tail : ℕ) (ending : FollowEnd) (post : Post) (desk : Desk) (told : List Event) → Clean x post deep unused → Left x u (dequeues.followed head tail ending post desk told)
followed_fits head tail (follow_ends.Followed slot) post desk told c = followed_row_fits head slot post desk told (tail == head + 1) c
followed_fits head tail follow_ends.NoNext post desk told c = clearing_next_fits (Answering the_answers.Empty) post desk told c
followed_fits head tail (follow_ends.RootMoved seen) post desk told c = clearing_next_fits Again post desk told c

tidying_fits : {x u : ℕ → ℕ} (answer : Answer) (post : Post) (desk : Desk) (told : List Event) (due : Bool) → Clean x post spare unused → Left x u (steps.tidying answer post desk told due)
tidying_fits answer post desk told true c = tidy_fits (Answered answer) post (moves (scheme_of post)) c
tidying_fits answer post desk told false c = record { clean = c; own = refl }

retired_fits : {x u : ℕ → ℕ} (answer : Answer) (ending : Ending) (post : Post) (desk : Desk) (told : List Event) → Clean x post spare unused → Left x u (steps.retired_by answer ending post desk told)
retired_fits answer (Retired life) post desk told c = tidying_fits answer post (with_life desk life) told (post.retired % post.layout.config.every == 0) c
retired_fits answer Done post desk told c = record { clean = c; own = refl }
retired_fits answer (Protected end) post desk told c = record { clean = c; own = refl }
retired_fits answer (Followed end) post desk told c = record { clean = c; own = refl }
retired_fits answer (Allocated end) post desk told c = record { clean = c; own = refl }
retired_fits answer (Clocked clock) post desk told c = record { clean = c; own = refl }

tidied_fits : {x u : ℕ → ℕ} (later : AfterScan) (ending : Ending) (post : Post) (desk : Desk) (told : List Event) → Clean x post (vacant_later later) unused → Left x u (steps.tidied later ending post desk told)
tidied_fits (Answered answer) (Clocked clock) post desk told c = record { clean = c; own = refl }
tidied_fits (Repeated task) (Clocked clock) post desk told c = record { clean = c; own = refl }
tidied_fits Counted (Clocked clock) post desk told c = record { clean = c; own = refl }
tidied_fits later Done post desk told c = record { clean = c; own = refl }
tidied_fits later (Protected end) post desk told c = record { clean = c; own = refl }
tidied_fits later (Followed end) post desk told c = record { clean = c; own = refl }
tidied_fits later (Allocated end) post desk told c = record { clean = c; own = refl }
tidied_fits later (Retired life) post desk told c = record { clean = c; own = refl }

advanced_fits : {x u : ℕ → ℕ} (ending : Ending) (post : Post) (desk : Desk) (told : List Event) → Clean x post spare unused → Left x u (steps.advanced ending post desk told)
advanced_fits (Clocked clock) post desk told c = record { clean = c; own = refl }
advanced_fits Done post desk told c = record { clean = c; own = refl }
advanced_fits (Protected end) post desk told c = record { clean = c; own = refl }
advanced_fits (Followed end) post desk told c = record { clean = c; own = refl }
advanced_fits (Allocated end) post desk told c = record { clean = c; own = refl }
advanced_fits (Retired life) post desk told c = record { clean = c; own = refl }

-- a seat leaves: what stands next is let go
parting_fits : {x u : ℕ → ℕ} (post : Post) (rows : Bool) (o : Option ℕ) → Clean x post spare unused → Fits x u post (keeps.parting_index rows o)
parting_fits post rows None c = record { clean = c; own = refl }
parting_fits post rows (Some index) c = record { clean = used (holds_why (Releases (Parting index))) c; own = refl }

-- the indexes that are free once something was let go
abbrev pub free_released : LetGo → ℕ → Bool
free_released Released j = spare j
free_released (Rehold key) j = nat_lt j 3
free_released (Dropped index) j = spare j
free_released (Parting index) j = spare j

released_fits : {x u : ℕ → ℕ} (let_go : LetGo) (post : Post) (desk : Desk) (told : List Event) → Clean x post (free_released let_go) unused → Left x u (keeps.released let_go post desk told)
released_fits Released post desk told c = record { clean = c; own = refl }
released_fits (Rehold key) post desk told c = round_fits (Holds key) post c
released_fits (Dropped index) post desk told c = record { clean = c; own = refl }
released_fits (Parting index) post desk told c = parting_fits post (publishes_rows (scheme_of post)) (standing_from (index + 1) (drop (index + 1) post.standing)) c

-- what has to hold where a machine has ended
abbrev pub Opened : (x : ℕ → ℕ) → Post → Task → Ending → Type 0
Opened x post task (Protected (protect_ends.Held slot era)) = Clean x post (beside task) unused
Opened x post task (Protected protect_ends.Null) = Clean x post (beside task) (holds_task task)
Opened x post task ending = ⊥

abbrev pub FollowEnds : (x : ℕ → ℕ) → Post → Ending → Type 0
FollowEnds x post (Followed ending) = Clean x post deep unused
FollowEnds x post ending = ⊥

abbrev pub Resumes : (x : ℕ → ℕ) → Post → Why → Ending → Type 0
Resumes x post (Opens task) ending = Opened x post task ending
Resumes x post (FollowsHead head tail) ending = FollowEnds x post ending
Resumes x post (Fills task) ending = (fills_task task ≡ true) × Clean x post within unused
Resumes x post (ClearsNext next) ending = Clean x post within unused
Resumes x post (Clears task next) ending = Clean x post (bare task) unused
Resumes x post (Finishes task next) ending = ⊥
Resumes x post (GivesUp answer) ending = Clean x post spare unused
Resumes x post (Retires answer) ending = Clean x post spare unused
Resumes x post (Tidies later) ending = Clean x post (vacant_later later) unused
Resumes x post Advances ending = Clean x post spare unused
Resumes x post (Releases let_go) ending = Clean x post (free_released let_go) unused

opened_fits : {x u : ℕ → ℕ} (task : Task) (ending : Ending) (post : Post) (desk : Desk) (told : List Event) → Opened x post task ending → Left x u (steps.opened task ending post desk told)
opened_fits task (Protected (protect_ends.Held slot era)) post desk told c = opened_row_fits task slot post desk told c
opened_fits task (Protected protect_ends.Null) post desk told c = opened_null_fits task post desk told c
opened_fits task Done post desk told c = absurd c
opened_fits task (Followed end) post desk told c = absurd c
opened_fits task (Allocated end) post desk told c = absurd c
opened_fits task (Retired life) post desk told c = absurd c
opened_fits task (Clocked clock) post desk told c = absurd c

followed_by_fits : {x u : ℕ → ℕ} (head tail : ℕ) (ending : Ending) (post : Post) (desk : Desk) (told : List Event) → FollowEnds x post ending → Left x u (steps.followed_by head tail ending post desk told)
followed_by_fits head tail (Followed ending) post desk told c = followed_fits head tail ending post desk told c
followed_by_fits head tail Done post desk told c = absurd c
followed_by_fits head tail (Protected end) post desk told c = absurd c
followed_by_fits head tail (Allocated end) post desk told c = absurd c
followed_by_fits head tail (Retired life) post desk told c = absurd c
followed_by_fits head tail (Clocked clock) post desk told c = absurd c

resume_fits : {x u : ℕ → ℕ} (why : Why) (ending : Ending) (post : Post) (desk : Desk) (told : List Event) → Resumes x post why ending → Left x u (steps.resume why ending post desk told)
resume_fits (Opens task) ending post desk told c = opened_fits task ending post desk told c
resume_fits (FollowsHead head tail) ending post desk told c = followed_by_fits head tail ending post desk told c
resume_fits (Fills task) ending post desk told c = filled_fits task ending post desk told c.0 c.1
resume_fits (ClearsNext next) ending post desk told c = clearing_fits Dequeues next post desk told c
resume_fits (Clears task next) ending post desk told c = finishing_fits task next post desk told c
resume_fits (Finishes task next) ending post desk told c = absurd c
resume_fits (GivesUp answer) ending post desk told c = record { clean = c; own = refl }
resume_fits (Retires answer) ending post desk told c = retired_fits answer ending post desk told c
resume_fits (Tidies later) ending post desk told c = tidied_fits later ending post desk told c
resume_fits Advances ending post desk told c = advanced_fits ending post desk told c
resume_fits (Releases let_go) ending post desk told c = released_fits let_go post desk told c

-- where a machine goes on it stands at a step of its own
abbrev pub Passes : (x u : ℕ → ℕ) → Why → Post → Outcome → Type 0
Passes x u why post (Goes base) = Fits x u post (Runs why base)
Passes x u why post (Ends ending) = Resumes x post why ending

pub resumed_fits : {x u : ℕ → ℕ} (why : Why) (desk : Desk) (post : Post) (told : List Event) (outcome : Outcome) → Passes x u why post outcome → Left x u (steps.resumed why desk post told outcome)
resumed_fits why desk post told (Goes base) c = c
resumed_fits why desk post told (Ends ending) c = resume_fits why ending post desk told c

-- a call begins
letting_at : {x u : ℕ → ℕ} (let_go : LetGo) (post : Post) (scheme : SchemeKind) → is_ibr scheme ≡ false → Clean x post spare unused → Fits x u post (letting_by let_go (release_base scheme post (let_index let_go)))
letting_at let_go post He n c = record { clean = used (holds_why (Releases let_go)) c; own = refl }
letting_at let_go post Ibr n c = absurd (cc)
letting_at let_go post Hp n c = record { clean = used (holds_why (Releases let_go)) c; own = refl }
letting_at let_go post Wfe n c = record { clean = used (holds_why (Releases let_go)) c; own = refl }

letting_fits : {x u : ℕ → ℕ} (let_go : LetGo) (post : Post) → Clean x post spare unused → Fits x u post (letting let_go post)
letting_fits let_go post c = letting_at let_go post (scheme_of post) c.plain c

three_free : {x : ℕ → ℕ} (post : Post) → Clean x post spare unused → stands post 2 ≡ None → (j : ℕ) → nat_lt j 3 ≡ true → x j ≡ 0
three_free {x} post c n j low = by_two (j == 2) refl where
  by_two : (two : Bool) → (j == 2) ≡ two → x j ≡ 0
  by_two true e = let q : j ≡ 2 = grind (arith, nat_tests) in rw q (c.kept 2 refl refl n)
  by_two false e = c.free j (grind (arith, nat_tests))

holding_fits : {x u : ℕ → ℕ} (key : ℕ) (post : Post) (o : Option ℕ) → stands post 2 ≡ o → Clean x post spare unused → Fits x u post (steps.holding key post o)
holding_fits key post None n c = round_fits (Holds key) post (record { free = λ j e. three_free post c n j e; kept = c.kept; plain = c.plain })
holding_fits key post (Some slot) n c = letting_fits (Rehold key) post c

copying_fits : {x u : ℕ → ℕ} (from index : ℕ) (post : Post) (o : Option ℕ) → Clean x post spare unused → Fits x u post (steps.copying from index o)
copying_fits from index post None c = record { clean = c; own = refl }
copying_fits from index post (Some slot) c = record { clean = c; own = refl }

looking_at_fits : {x u : ℕ → ℕ} (index key : ℕ) (post : Post) (o : Option ℕ) → Clean x post spare unused → Fits x u post (steps.looking_at index key o)
looking_at_fits index key post None c = record { clean = c; own = refl }
looking_at_fits index key post (Some slot) c = record { clean = c; own = refl }

leaving_at : {x u : ℕ → ℕ} (post : Post) (one : Bool) → one ≡ false → Clean x post spare unused → Fits x u post (if one then keeps.parting_span post.span else keeps.parting_from 2 post)
leaving_at post true n c = absurd (cc)
leaving_at post false n c = parting_fits post (publishes_rows (scheme_of post)) (standing_from 2 (drop 2 post.standing)) c

leaving_fits : {x u : ℕ → ℕ} (post : Post) → Clean x post spare unused → Fits x u post (keeps.parting post)
leaving_fits post c = leaving_at post (has_one_interval (scheme_of post)) c.plain c

pub first_fits : {x u : ℕ → ℕ} (call : Call) (post : Post) → Clean x post spare unused → Fits x u post (steps.first_phase call post)
first_fits (names.Get key) post c = round_fits (Gets key) post c
first_fits (names.Put key value) post c = round_fits (steps.changing (changes.Put key value) None) post c
first_fits (names.Remove key) post c = round_fits (steps.changing (changes.Removed key) None) post c
first_fits (names.Enqueue value) post c = round_fits (Enqueues _) post c
first_fits names.Dequeue post c = round_fits Dequeues post c
first_fits (names.Hold key) post c = holding_fits key post (stands post 2) refl c
first_fits names.Release post c = letting_fits Released post c
first_fits names.Advance post c = record { clean = c; own = refl }
first_fits names.Scan post c = record { clean = c; own = refl }
first_fits (names.Copy from index) post c = copying_fits from index post (stands post from) c
first_fits (names.DropIndex index) post c = letting_fits (Dropped index) post c
first_fits (names.Look index key) post c = looking_at_fits index key post (stands post index) c
first_fits names.Leave post c = leaving_fits post c
first_fits (names.Adopt place) post c = record { clean = c; own = refl }
first_fits (names.PutIf key value version) post c = round_fits (steps.changing (changes.Put key value) (Some version)) post c
