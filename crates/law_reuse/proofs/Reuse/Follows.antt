-- What stands in a post is what its seat told to hold and not to clear.
use Rattle.inv_all.specs.ends.Stands as ends
use Rattle.std.proofs.Common.{ℕ, ◌≡◌, ◌<◌, ◌+◌, ◌-◌, Bool, true, false, List, [], ◌∷◌, ◌++◌, length, Option, Some, None, refl, sym, ap, ◌∙◌, subst, arith}
use Rattle.std.proofs.lemmas.Bool.Decides.{nat_tests}
use Rattle.std.specs.Prelude.{◌==◌, ◌||◌, if◌then◌else◌, drop}
use Rattle.laws.specs.words.declared.config.SchemeKind.{SchemeKind}
use Rattle.laws.specs.words.declared.config.SchemeKind.TheVariants.{He, Hp, Ibr, Wfe}
use Rattle.laws.specs.words.Packed.{reservation_word, read_reservation}
use Rattle.laws.specs.defs.declared.event.Event.{Event}
use Rattle.laws.specs.defs.declared.event.Event.TheVariants as events
use Rattle.laws.specs.defs.declared.event.Root.{Root}
use Rattle.laws.specs.defs.declared.event.Root.TheVariants as roots
use Rattle.inv_all.specs.model.declared.post.Post.{Post}
use Rattle.inv_all.specs.model.Allocate as allocates
use Rattle.inv_all.specs.model.Machine as machine
use Rattle.inv_all.specs.model.Memory.{bump}
use Rattle.inv_all.specs.model.MoveClock as movers
use Rattle.inv_all.specs.model.Posts.{stands, cleared, reserves_helper, with_row, with_tag, withdrawn, tag_of, upper, publishes_index, cleared_from, reserves_span, withdrawn_all}
use Rattle.inv_all.specs.model.Protect as protects
use Rattle.inv_all.specs.model.Rounds.{scheme_of, clear_post, clear_told, let_index}
use Rattle.inv_all.specs.model.Phases.{Aim, Alone, Follows, BeginAt, ProtectAt, AllocateAt, RetireAt, MoveAt, Walk, Base, Turn, RowOf, Tries}
use Rattle.inv_all.specs.model.Phases.BeginAt.{LoadLower, PublishSpan}
use Rattle.inv_all.specs.model.Phases.ProtectAt.{CheckClock, CheckOwnClock, AnswerOwn, TakeAnswer, WithdrawHelper, CheckUpper, ByHazard}
use Rattle.inv_all.specs.model.Phases.HazardAt.{FirstLink, PublishLink, CheckLink}
use Rattle.inv_all.specs.model.Phases.AllocateAt.{LoadBirth, ClaimSlot, StoreLife}
use Rattle.inv_all.specs.model.Phases.RetireAt.{LoadLife, LoadRetire, StoreRetired}
use Rattle.inv_all.specs.model.Phases.MoveAt.{LoadEra, CheckEra, AnswerAsked, LoadReserved, HandOver, ExchangeClock}
use Rattle.inv_all.specs.model.Phases.Base.{Begin, Protect, Reload, Clear, Finish, Release, Allocate, Write, GiveUp, Retire, Move}
use Rattle.inv_all.specs.model.WriteRow.{last_written, after_write}
use Rattle.inv_all.specs.covers.Held.{index_base}
use Rattle.laws.specs.StateAt.{stood_by}
use Rattle.inv_all.proofs.history.Passes.{is_quiet, all_quiet, Closed, copied_post, copied_told, work_post, work_told}
use Rattle.inv_all.specs.model.SlowPath.{own_request, asking}
use Rattle.inv_all.specs.model.Follow.{after_reload}
use Rattle.laws.specs.defs.declared.event.Guard.TheVariants as the_guards
use Rattle.inv_all.specs.model.Guards.{one_era}
use Rattle.inv_all.proofs.model.Facts.{first_of, rest_of, number_is}
use Rattle.inv_all.proofs.model.Standing.{stands-withdrawn_same, stands-with_row_same, stands-withdrawn_other, stands-with_row_other}
use Rattle.inv_all.specs.model.Calls.{Work, Getting, Changing, Enqueuing, Dequeuing, Keeping, Loosens, LoadHeld, StoreHeld, Looks, Misses, HideSpan, MarkLeft, TakeList, MarkTaken}
use Rattle.laws.specs.words.Schemes.{has_one_interval, publishes_rows}
use Rattle.inv_all.specs.covers.Rests.{Vacant, spare}
use Rattle.inv_all.proofs.ends.Ends.Left.{hidden_stood}

-- what these events make of what stood
abbrev pub stood : ℕ → List Event → Option ℕ → Option ℕ
stood j [] x = x
stood j (event ∷ told) x = stood j told (stood_by j event x)

pub stood_along : (j : ℕ) (xs ys : List Event) (x : Option ℕ) → stood j (xs ++ ys) x ≡ stood j ys (stood j xs x)
stood_along j [] ys x = refl
stood_along j (event ∷ xs) ys x = stood_along j xs ys (stood_by j event x)

quiet_by : (j : ℕ) (event : Event) (x : Option ℕ) → is_quiet event ≡ true → stood_by j event x ≡ x
quiet_by j (events.Held index slot steps) x h = absurd (cc)
quiet_by j (events.Copied from index slot) x h = absurd (cc)
quiet_by j (events.Clear index slot) x h = absurd (cc)
quiet_by j event x h = refl

quiet_stood : (j : ℕ) (told : List Event) (x : Option ℕ) → all_quiet told ≡ true → stood j told x ≡ x
quiet_stood j [] x h = refl
quiet_stood j (event ∷ told) x h = quiet_stood j told (stood_by j event x) (rest_of (is_quiet event) (all_quiet told) h) ∙ quiet_by j event x (first_of (is_quiet event) (all_quiet told) h)

-- the events make of what stood in a post what stands in the other
abbrev pub Follow : Post → Post → List Event → Type 0
Follow post next told = (j : ℕ) → stood j told (stands post j) ≡ stands next j

other_index : (j index : ℕ) → (j == index) ≡ false → j ≡ index → ⊥
other_index j index e h = let same : (j == j) ≡ true = grind (arith, nat_tests) in let k : (j == j) ≡ false = subst (λ (y : ℕ). (j == y) ≡ false) (sym h) e in absurd (cc)

-- a row stands from the event Held on
row_stood : (post : Post) (index slot steps j : ℕ) (same : Bool) → (j == index) ≡ same → index < length post.standing → (if same then Some slot else stands post j) ≡ stands (with_row post index slot) j
row_stood post index slot steps j true e h = sym (stands-with_row_same post index slot h) ∙ ap (stands (with_row post index slot)) (sym (number_is j index e))
row_stood post index slot steps j false e h = sym (stands-with_row_other post index slot j (other_index j index e))

row_follows : (post : Post) (index slot steps : ℕ) → index < length post.standing → Follow post (with_row post index slot) (events.Held index slot steps ∷ [])
row_follows post index slot steps h j = row_stood post index slot steps j (j == index) refl h

-- and no more from Clear on
drawn_stood : (post : Post) (index j : ℕ) (same : Bool) → (j == index) ≡ same → (if same then None else stands post j) ≡ stands (withdrawn post index) j
drawn_stood post index j true e = sym (stands-withdrawn_same post index) ∙ ap (stands (withdrawn post index)) (sym (number_is j index e))
drawn_stood post index j false e = sym (stands-withdrawn_other post index j (other_index j index e))

bare_stood : (post : Post) (index j : ℕ) (same : Bool) → (j == index) ≡ same → stands post index ≡ None → stands post j ≡ stands (withdrawn post index) j
bare_stood post index j true e h = ap (stands post) (number_is j index e) ∙ h ∙ sym (stands-withdrawn_same post index) ∙ ap (stands (withdrawn post index)) (sym (number_is j index e))
bare_stood post index j false e h = sym (stands-withdrawn_other post index j (other_index j index e))

pub cleared_follows : (post : Post) (index : ℕ) (x : Option ℕ) → stands post index ≡ x → Follow post (withdrawn post index) (cleared index x)
cleared_follows post index None e j = bare_stood post index j (j == index) refl e
cleared_follows post index (Some slot) e j = drawn_stood post index j (j == index) refl

clear_follows : (scheme : SchemeKind) (post : Post) (index : ℕ) → Follow post (clear_post scheme post index) (clear_told scheme post index)
clear_follows He post index j = refl
clear_follows Ibr post index j = cleared_follows post index (stands post index) refl j
clear_follows Wfe post index j = refl
clear_follows Hp post index j = refl

-- one after another
follow_on : (post middle next : Post) (told more : List Event) → Follow post middle told → Follow middle next more → Follow post next (told ++ more)
follow_on post middle next told more h k j = stood_along j told more (stands post j) ∙ ap (stood j more) (h j) ∙ k j

pub follow_closed : (post : Post) → Closed (Follow post)
follow_closed post = record {
  calm = λ next told more q h j. stood_along j told more (stands post j) ∙ quiet_stood j more (stood j told (stands post j)) q ∙ h j;
  clears = λ next told index h. follow_on post next (clear_post (scheme_of next) next index) told (clear_told (scheme_of next) next index) h (clear_follows (scheme_of next) next index);
}

-- what a machine tells and leaves
abbrev Turns : Post → Turn → Type 0
Turns post t = Follow post t.post t.told

held_by : (post : Post) (index slot n : ℕ) (none : Bool) → index < length post.standing → Follow post (if none then post else with_row post index slot) (if none then events.Null index n ∷ [] else events.Held index slot n ∷ [])
held_by post index slot n true h j = refl
held_by post index slot n false h j = row_follows post index slot n h j

null_by : (post : Post) (index n : ℕ) (none : Bool) → Follow post post (if none then events.Null index n ∷ [] else [])
null_by post index n true j = refl
null_by post index n false j = refl

held_follows : (post : Post) (index : ℕ) (root : Root) (link n : ℕ) → index < length post.standing → Follow post (protects.held_post post index root link) (protects.told_held index root link n)
held_follows post index (roots.Next parent) link n h j = null_by post index n (link == 0) j
held_follows post index (roots.Bucket bucket) link n h j = held_by post index (link - 1) n (link == 0) h j
held_follows post index roots.Head link n h j = held_by post index (link - 1) n (link == 0) h j
held_follows post index roots.Tail link n h j = held_by post index (link - 1) n (link == 0) h j

concluded_follows : (post : Post) (aim : Aim) (index : ℕ) (root : Root) (n link era : ℕ) (next : Post) (told : List Event) → Follow post next told → Turns post (protects.concluded aim index root n link era next told)
concluded_follows post Alone index root n link era next told h = h
concluded_follows post Follows index root n link era next told h = by_link (link == 0) refl
  where
    by_link : (x : Bool) → (link == 0) ≡ x → Turns post (protects.concluded Follows index root n link era next told)
    by_link true e = rw e h
    by_link false e = rw e h

protected_follows : (post : Post) (aim : Aim) (index : ℕ) (root : Root) (n link era : ℕ) → index < length post.standing → Turns post (protects.protected aim index root n link era post)
protected_follows post aim index root n link era h = concluded_follows post aim index root n link era (protects.held_post post index root link) (protects.told_held index root link n) (held_follows post index root link n h)

check_follows : (post : Post) (aim : Aim) (index : ℕ) (root : Root) (n era : ℕ) (tries : Tries) (link found : ℕ) (same : Bool) → (found == era) ≡ same → index < length post.standing → Turns post (machine.protect_turn aim index root n (CheckClock era tries link) post found)
check_follows post aim index root n era tries link found true e h = rw e (protected_follows post aim index root n link era h)
check_follows post aim index root n era tries link found false e h = rw e (λ j. refl)

upper_follows : (post : Post) (aim : Aim) (index : ℕ) (root : Root) (n link found : ℕ) (same : Bool) → (found == upper post.span) ≡ same → index < length post.standing → Turns post (machine.protect_turn aim index root n (CheckUpper link) post found)
upper_follows post aim index root n link found true e h = rw e (protected_follows post aim index root n link found h)
upper_follows post aim index root n link found false e h = rw e (λ j. refl)

first_follows : (post : Post) (aim : Aim) (index : ℕ) (root : Root) (n found : ℕ) (same : Bool) → (found == 0) ≡ same → index < length post.standing → Turns post (machine.protect_turn aim index root n (ByHazard FirstLink) post found)
first_follows post aim index root n found true e h = rw e (protected_follows post aim index root n found 0 h)
first_follows post aim index root n found false e h = rw e (λ j. refl)

link_follows : (post : Post) (aim : Aim) (index : ℕ) (root : Root) (n link found : ℕ) (same : Bool) → (found == link || found == 0) ≡ same → index < length post.standing → Turns post (machine.protect_turn aim index root n (ByHazard (CheckLink link)) post found)
link_follows post aim index root n link found true e h = rw e (protected_follows post aim index root n found 0 h)
link_follows post aim index root n link found false e h = rw e (λ j. refl)

own_follows : (post : Post) (aim : Aim) (index : ℕ) (root : Root) (n first era : ℕ) (last : Bool) (link found : ℕ) (same : Bool) → (found == era) ≡ same → Turns post (machine.protect_turn aim index root n (CheckOwnClock first era last link) post found)
own_follows post aim index root n first era last link found true e = rw e (λ j. refl)
own_follows post aim index root n first era last link found false e = rw e (λ j. refl)

answer_follows : (post : Post) (aim : Aim) (index : ℕ) (root : Root) (n first era link found : ℕ) (same : Bool) → (found == own_request post index root) ≡ same → Turns post (machine.protect_turn aim index root n (AnswerOwn first era link) post found)
answer_follows post aim index root n first era link found true e = rw e (λ j. refl)
answer_follows post aim index root n first era link found false e = rw e (λ j. refl)

protect_follows : (post : Post) (aim : Aim) (index : ℕ) (root : Root) (n : ℕ) (at : ProtectAt) (found : ℕ) → index < length post.standing → Turns post (machine.protect_turn aim index root n at post found)
protect_follows post aim index root n (CheckClock era tries link) found h j = check_follows post aim index root n era tries link found (found == era) refl h j
protect_follows post aim index root n (CheckOwnClock first era last link) found h j = own_follows post aim index root n first era last link found (found == era) refl j
protect_follows post aim index root n (AnswerOwn first era link) found h j = answer_follows post aim index root n first era link found (found == own_request post index root) refl j
protect_follows post aim index root n (TakeAnswer link era) found h j = held_follows (with_tag post index (tag_of post index + 1)) index root link n h j
protect_follows post aim index root n (WithdrawHelper link era) found h j = concluded_follows post aim index root n link era post (reserves_helper post 0) (λ i. refl) j
protect_follows post aim index root n (CheckUpper link) found h j = upper_follows post aim index root n link found (found == upper post.span) refl h j
protect_follows post aim index root n (ByHazard FirstLink) found h j = first_follows post aim index root n found (found == 0) refl h j
protect_follows post aim index root n (ByHazard (PublishLink link)) found h j = refl
protect_follows post aim index root n (ByHazard (CheckLink link)) found h j = link_follows post aim index root n link found (found == link || found == 0) refl h j
protect_follows post aim index root n at found h j = refl

reload_follows : (post : Post) (parent index slot n found : ℕ) (same : Bool) → (found == parent + 1) ≡ same → index < length post.standing → Turns post (after_reload parent index slot n post found)
reload_follows post parent index slot n found true e h = rw e (row_follows post index slot n h)
reload_follows post parent index slot n found false e h = rw e (λ j. refl)

era_follows : (post : Post) (helps : Bool) (found : ℕ) (same : Bool) → (found == post.layout.config.last_era) ≡ same → Turns post (movers.after_load_era helps post found)
era_follows post helps found true e = rw e (λ j. refl)
era_follows post helps found false e = rw e (λ j. refl)

late_follows : (post : Post) (era seat tag index : ℕ) (root : Root) (link found : ℕ) (same : Bool) → (found == era) ≡ same → Turns post (movers.after_check_era era seat tag index root link post found)
late_follows post era seat tag index root link found true e = rw e (λ j. refl)
late_follows post era seat tag index root link found false e = rw e (λ j. refl)

asked_follows : (post : Post) (era seat tag index : ℕ) (root : Root) (link found : ℕ) (same : Bool) → (found == asking post.layout tag index root) ≡ same → Turns post (movers.after_answer_asked era seat tag index root link post found)
asked_follows post era seat tag index root link found true e = rw e (λ j. refl)
asked_follows post era seat tag index root link found false e = rw e (λ j. refl)

reserved_follows : (post : Post) (era seat tag index : ℕ) (root : Root) (link found : ℕ) (same : Bool) → ((read_reservation found).tag == tag) ≡ same → Turns post (movers.after_load_reserved era seat tag index root link post found)
reserved_follows post era seat tag index root link found true e = rw e (λ j. refl)
reserved_follows post era seat tag index root link found false e = rw e (λ j. refl)

clock_follows : (post : Post) (era found : ℕ) (same : Bool) → (found == era) ≡ same → Turns post (movers.after_exchange_clock era post found)
clock_follows post era found true e = rw e (λ j. refl)
clock_follows post era found false e = rw e (λ j. refl)

hand_follows : (post : Post) (era seat tag index old : ℕ) (same : Bool) → Turns post (movers.after_hand_over era seat tag index old post same)
hand_follows post era seat tag index old true j = refl
hand_follows post era seat tag index old false j = refl

move_follows : (post : Post) (at : MoveAt) (found : ℕ) → Turns post (machine.move_turn at post found)
move_follows post (LoadEra helps) found j = era_follows post helps found (found == post.layout.config.last_era) refl j
move_follows post (CheckEra era seat tag index root link) found j = late_follows post era seat tag index root link found (found == era) refl j
move_follows post (AnswerAsked era seat tag index root link) found j = asked_follows post era seat tag index root link found (found == asking post.layout tag index root) refl j
move_follows post (LoadReserved era seat tag index root link) found j = reserved_follows post era seat tag index root link found ((read_reservation found).tag == tag) refl j
move_follows post (HandOver era seat tag index root link old) found j = hand_follows post era seat tag index old (found == reservation_word (record { era = old; tag = tag })) j
move_follows post (ExchangeClock era) found j = clock_follows post era found (found == era) refl j
move_follows post at found j = refl

begin_follows : (post : Post) (at : BeginAt) (found : ℕ) → Turns post (machine.begin_turn at post found)
begin_follows post LoadLower found j = refl
begin_follows post (PublishSpan era) found j = refl

walking_follows : (post : Post) (birth : ℕ) (x : Option Walk) → Turns post (allocates.walking birth post x)
walking_follows post birth None j = refl
walking_follows post birth (Some walk) j = refl

claim_follows : (post : Post) (birth : ℕ) (walk : Walk) (found : ℕ) (x : Bool) → allocates.is_claimed found walk.slot ≡ x → Turns post (allocates.after_claim_slot birth walk post found)
claim_follows post birth walk found true e = rw e (walking_follows post birth (allocates.walk_past post.layout.config.slots walk found))
claim_follows post birth walk found false e = rw e (λ j. refl)

allocate_follows : (post : Post) (at : AllocateAt) (found : ℕ) → Turns post (machine.allocate_turn at post found)
allocate_follows post LoadBirth found j = refl
allocate_follows post (ClaimSlot birth walk) found j = claim_follows post birth walk found (allocates.is_claimed found walk.slot) refl j
allocate_follows post (StoreLife birth slot) found j = refl

retire_follows : (post : Post) (at : RetireAt) (found : ℕ) → Turns post (machine.retire_turn at post found)
retire_follows post (LoadLife slot) found j = refl
retire_follows post (LoadRetire slot birth) found j = refl
retire_follows post (StoreRetired slot birth retire) found j = refl

write_follows : (post : Post) (slot : ℕ) (row : RowOf) (place : ℕ) (last : Bool) → (place == last_written row) ≡ last → Turns post (after_write slot row place post)
write_follows post slot row place true e = rw e (λ j. refl)
write_follows post slot row place false e = rw e (λ j. refl)

quiet_last : (post next : Post) (told : List Event) (event : Event) → ((j : ℕ) (x : Option ℕ) → stood_by j event x ≡ x) → Follow post next told → Follow post next (told ++ event ∷ [])
quiet_last post next told event q h j = stood_along j told (event ∷ []) (stands post j) ∙ q j (stood j told (stands post j)) ∙ h j

pub base_follows : (post : Post) (base : Base) (found : ℕ) → index_base base < length post.standing → Turns post (machine.after base post found)
base_follows post (Begin at) found h = begin_follows post at found
base_follows post (Protect aim index root steps at) found h = protect_follows post aim index root (bump steps) at found h
base_follows post (Reload parent index slot era steps) found h = reload_follows post parent index slot (bump steps) found (found == parent + 1) refl h
base_follows post (Clear false index) found h = quiet_last post (withdrawn post index) (cleared index (stands post index)) (events.Reserve (the_guards.Index post.seat index) (one_era 0)) (λ j x. refl) (cleared_follows post index (stands post index) refl)
base_follows post (Clear true index) found h = quiet_last post (withdrawn post index) (cleared index (stands post index)) (events.Hazard (the_guards.Index post.seat index) None) (λ j x. refl) (cleared_follows post index (stands post index) refl)
base_follows post Finish found h = λ j. refl
base_follows post (Release index) found h = quiet_last post (withdrawn post index) (cleared index (stands post index)) (events.Reserve (the_guards.Whole post.seat) None) (λ j x. refl) (cleared_follows post index (stands post index) refl)
base_follows post (Allocate at) found h = allocate_follows post at found
base_follows post (Write slot row place) found h = write_follows post slot row place (place == last_written row) refl
base_follows post (GiveUp slot) found h = λ j. refl
base_follows post (Retire at) found h = retire_follows post at found
base_follows post (Move at) found h = move_follows post at found

-- a row stands at another index too from the event Copied on, and what stood there stands no more
over_stood : (post : Post) (index slot j : ℕ) (same : Bool) → (j == index) ≡ same → index < length post.standing → (if same then Some slot else stands (withdrawn post index) j) ≡ stands (with_row post index slot) j
over_stood post index slot j true e h = row_stood post index slot 0 j true e h
over_stood post index slot j false e h = stands-withdrawn_other post index j (other_index j index e) ∙ row_stood post index slot 0 j false e h

copied_follows : (post : Post) (from index : ℕ) (reserved : List Event) (x : Option ℕ) → ((j : ℕ) (y : Option ℕ) → stood j reserved y ≡ y) → index < length post.standing → Follow post (copied_post index post x) (copied_told from index post reserved x)
copied_follows post from index reserved None q h = λ j. refl
copied_follows post from index reserved (Some slot) q h =
    let gone : List Event = cleared index (stands post index) in
    follow_on post (withdrawn post index) (with_row post index slot) (gone ++ reserved) (events.Copied from index slot ∷ [])
    (λ j. stood_along j gone reserved (stands post j) ∙ q j (stood j gone (stands post j)) ∙ cleared_follows post index (stands post index) refl j)
    (λ j. over_stood post index slot j (j == index) refl h)

published_stood : (post : Post) (index number : ℕ) (rows : Bool) (j : ℕ) (y : Option ℕ) → stood j (publishes_index rows post index number) y ≡ y
published_stood post index number false j y = refl
published_stood post index number true j y = refl

-- the index that a copy goes to
abbrev pub copy_index : Work → ℕ
copy_index (Keeping (LoadHeld from index)) = index
copy_index (Keeping (StoreHeld from index era)) = index
copy_index work = 0

load_follows : (post : Post) (from index : ℕ) (one : Bool) → index < length post.standing → Follow post (if one then copied_post index post (stands post from) else post) (if one then copied_told from index post [] (stands post from) else [])
load_follows post from index true h = copied_follows post from index [] (stands post from) (λ j y. refl) h
load_follows post from index false h = λ j. refl

same_either : (a b : ℕ) → (a == b) ≡ (b == a)
same_either a b = grind (arith, nat_tests)

-- a seat that leaves with its interval lets go of all that stands
same_one : (event : Event) (x : Option ℕ) (j : ℕ) → ends.stood_by event x j ≡ stood_by j event x
same_one (events.Held index slot steps) x j = ap (λ (same : Bool). if same then Some slot else x) (same_either index j)
same_one (events.Copied from index slot) x j = ap (λ (same : Bool). if same then Some slot else x) (same_either index j)
same_one (events.Clear index slot) x j = ap (λ (same : Bool). if same then None else x) (same_either index j)
same_one event x j = refl

same_stood : (told : List Event) (x : Option ℕ) (j : ℕ) → ends.stood told x j ≡ stood j told x
same_stood [] x j = refl
same_stood (event ∷ told) x j = same_stood told (ends.stood_by event x j) j ∙ ap (stood j told) (same_one event x j)

hidden_follows : (post : Post) → Vacant spare post → Follow post (withdrawn_all post) (cleared_from 2 (drop 2 post.standing) ++ reserves_span post None)
hidden_follows post n j = sym (hidden_stood post j n ∙ same_stood (cleared_from 2 (drop 2 post.standing) ++ reserves_span post None) (stands post j) j)

pub work_follows : (post : Post) (work : Work) → copy_index work < length post.standing → (work ≡ Keeping HideSpan → Vacant spare post) → Follow post (work_post work post) (work_told work post)
work_follows post (Getting key at) h n = λ j. refl
work_follows post (Changing kept at) h n = λ j. refl
work_follows post (Enqueuing kept at) h n = λ j. refl
work_follows post (Dequeuing at) h n = λ j. refl
work_follows post (Keeping (Loosens let_go)) h n = cleared_follows post (let_index let_go) (stands post (let_index let_go)) refl
work_follows post (Keeping (LoadHeld from index)) h n = load_follows post from index (has_one_interval (scheme_of post)) h
work_follows post (Keeping (StoreHeld from index era)) h n = copied_follows post from index (publishes_index (publishes_rows (scheme_of post)) post index era) (stands post from) (λ j y. published_stood post index era (publishes_rows (scheme_of post)) j y) h
work_follows post (Keeping (Looks index key at)) h n = λ j. refl
work_follows post (Keeping (Misses index)) h n = λ j. refl
work_follows post (Keeping HideSpan) h n = hidden_follows post (n refl)
work_follows post (Keeping MarkLeft) h n = λ j. refl
work_follows post (Keeping (TakeList place)) h n = λ j. refl
work_follows post (Keeping (MarkTaken place count)) h n = λ j. refl
