-- How a get ends under the schemes that clear an index by a step.
use Rattle.std.proofs.Common.{Bool, List, None, Option, Some, [], ap, arith, false, refl, sym, true, ℕ, ◌+◌, ◌-◌, ◌++◌, ◌==◌, ◌∙◌, ◌∷◌, ◌≡◌, if◌then◌else◌, slice_index, slice_set}
use Rattle.std.proofs.lemmas.Bool.{eq-eqb, ne_eqb}
use Rattle.std.proofs.lemmas.List.{set-set}
use Rattle.wfe_core.specs.words.Packed.{reservation_word}
use Rattle.wfe_core.specs.words.Place.Place.{Index}
use Rattle.wfe_core.specs.words.Schemes.{has_one_interval, publishes_rows}
use Rattle.wfe_core.specs.defs.declared.call.Answer.{Answer}
use Rattle.wfe_core.specs.defs.declared.call.Answer.TheVariants as answers
use Rattle.wfe_core.specs.defs.declared.call.Call.TheVariants as calls_named
use Rattle.wfe_core.specs.defs.declared.event.Event.{Event}
use Rattle.wfe_core.specs.defs.declared.event.Event.TheVariants as events
use Rattle.wfe_core.specs.defs.declared.event.Root.{Root}
use Rattle.wfe_core.specs.defs.declared.event.Root.TheVariants as roots
use Rattle.wfe_core.specs.Calls.{Answering, CallTurn, Clears, FindVersion, Gets, Getting, Idle, Opens, Phase, Runs, Works}
use Rattle.wfe_core.specs.Calls as calls
use Rattle.wfe_core.specs.DeskHeld.{desk_of}
use Rattle.wfe_core.specs.Desks.{Desk, Notes, noted_all, noting}
use Rattle.wfe_core.specs.Locals.{Local}
use Rattle.wfe_core.specs.Memory.{Store}
use Rattle.wfe_core.specs.Phases.Base.{Clear}
use Rattle.wfe_core.specs.Phases.Ending.{Protected}
use Rattle.wfe_core.specs.Posts.{cleared, publishes_index, shown_word, stands, with_row, withdrawn}
use Rattle.wfe_core.specs.Rounds.{begin_where, bucket_of, clearing_by, finish_span, finishing_by, kept_row, protect_base, root_of, round_by, scheme_of}
use Rattle.wfe_core.specs.Steps.{first_phase, opened}
use Rattle.wfe_core.specs.declared.ends.ProtectEnd.TheVariants as protect_ends
use Rattle.wfe_core.specs.declared.desk.Desk.{Desk as HeldDesk}
use Rattle.wfe_core.specs.declared.op.Op.{Op}
use Rattle.wfe_core.specs.declared.post.Post.{Post}
use Rattle.wfe_drive_cells.specs.Unit.{SeatView, kept_desk, seat_after}
use Rattle.wfe_drive_words.specs.Called.{Here, at_phase}
use Rattle.wfe_drive_words.specs.declared.found.Found.{Found}
use Rattle.wfe_drive_words.specs.declared.protect.Guarded.{Guarded}
use Rattle.wfe_drive_words.specs.Path.{AsksFor, Closes, StepsOn, closing_at, found_at, get_trial, guarded_at, held_at, held_reader, protects_from, read_post, reading, taken}
use Rattle.wfe_drive_words.proofs.Leading.{closes_as}
use Rattle.wfe_drive_cells.specs.Spots.{spotted}
use Rattle.wfe_drive_cells.specs.declared.located.Located.{Located}

-- what stands does not change the seat's words
abbrev pub standing_by : (null : Bool) → Post → ℕ → Post
standing_by null post slot = if null then post else with_row post 0 slot

shown-same : (rows : Bool) (post other : Post) → other.tags ≡ post.tags → shown_word rows other 0 0 ≡ shown_word rows post 0 0
shown-same false post other e = ap (λ (tags : List ℕ). reservation_word (record { era = 0; tag = slice_index tags 0 })) e
shown-same true post other e = refl

clear-word : (null : Bool) (post : Post) (slot steps : ℕ)
    → spotted (standing_by null post slot).layout (Store (Index (standing_by null post slot).seat 0) (shown_word (publishes_rows (scheme_of (standing_by null post slot))) (record (standing_by null post slot) { steps = steps }) 0 0))
    ≡ spotted post.layout (Store (Index post.seat 0) (shown_word (publishes_rows (scheme_of post)) post 0 0))
clear-word true post slot steps = ap (λ (word : ℕ). spotted post.layout (Store (Index post.seat 0) word)) (shown-same (publishes_rows (scheme_of post)) post (record post { steps = steps }) refl)
clear-word false post slot steps = ap (λ (word : ℕ). spotted post.layout (Store (Index post.seat 0) word)) (shown-same (publishes_rows (scheme_of post)) post (record (with_row post 0 slot) { steps = steps }) refl)

-- the store is that of the seat's state
pub clear_stores : (place post : Post) (index : ℕ) (rows : Bool) (op : Located) → place ≡ post → rows ≡ publishes_rows (scheme_of place) → op ≡ spotted place.layout (Store (Index place.seat index) (shown_word rows place index 0))
    → op ≡ spotted post.layout (Store (Index post.seat index) (shown_word (publishes_rows (scheme_of post)) post index 0))
clear_stores place post index rows op e r o =
    o ∙ ap (λ (b : Bool). spotted place.layout (Store (Index place.seat index) (shown_word b place index 0))) r
    ∙ ap (λ (p : Post). spotted p.layout (Store (Index p.seat index) (shown_word (publishes_rows (scheme_of p)) p index 0))) e

pub clear_asks : {at : Local → Type 0} (key : ℕ) (post : Post) (bucket link : ℕ) (desk : Desk) (steps : ℕ) (found : Found) (op : Located) → Here at (closing_at key (held_reader post bucket link desk steps) found) → op ≡ spotted post.layout (Store (Index post.seat 0) (shown_word (publishes_rows (scheme_of post)) post 0 0))
    → AsksFor at (closing_at key (held_reader post bucket link desk steps) found) op
clear_asks key post bucket link desk steps found op h o = record { here = h; busy = refl; is = o ∙ sym (clear-word (link == 0) post (link - 1) (steps + found.steps)) }

-- no interval ends where a seat has none
pub scheme-stays : (null : Bool) (post : Post) (slot : ℕ) → scheme_of (standing_by null post slot) ≡ scheme_of post
scheme-stays true post slot = refl
scheme-stays false post slot = refl

-- of the events of the last step only its end is noted
end-noted : (notes : Notes) (stood : Option ℕ) (rows : Bool) (post : Post) (steps : ℕ) (answer : Answer)
    → noted_all notes ((cleared 0 stood ++ publishes_index rows post 0 0) ++ events.End steps answer ∷ []) ≡ record notes { steps = steps }
end-noted notes None false post steps answer = refl
end-noted notes None true post steps answer = refl
end-noted notes (Some slot) false post steps answer = refl
end-noted notes (Some slot) true post steps answer = refl

-- nothing stands at index 0 then
pub post-cleared : (null : Bool) (post : Post) (slot steps : ℕ) → withdrawn (record (standing_by null post slot) { steps = steps }) 0 ≡ record post { standing = slice_set post.standing 0 None; steps = steps }
post-cleared true post slot steps = refl
post-cleared false post slot steps = ap (λ (xs : List (Option ℕ)). let p : Post = record post { standing = xs; steps = steps } in p) (set-set post.standing 0 (Some slot) None)

-- the index is cleared, and the call is answered
pub closed_by : {at0 at1 : Local → Type 0} {stands0 stands1 : List (Op × ℕ) → Type 0} (key : ℕ) (post : Post) (bucket link : ℕ) (held new : HeldDesk) (steps : ℕ) (found : Found) (n : ℕ) → has_one_interval (scheme_of post) ≡ false
    → desk_of new ≡ record (desk_of held) { notes = record (desk_of held).notes { steps = steps + found.steps + 1 } }
    → StepsOn at0 at1 stands0 stands1 (closing_at key (held_reader post bucket link (desk_of held) steps) found) n
    → Closes (answers.Got found.version found.value) at0 at1 stands0 stands1 (closing_at key (held_reader post bucket link (desk_of held) steps) found) (at_phase Idle (record post { standing = slice_set post.standing 0 None; steps = steps + found.steps + 1 }) new)
closed_by key post bucket link held new steps found n one d s =
    let seat : SeatView = closing_at key (held_reader post bucket link (desk_of held) steps) found in
    let answer : Answer = answers.Got found.version found.value in
    let desk : Desk = desk_of held in
    let total : ℕ = steps + found.steps + 1 in
    let null : Bool = link == 0 in
    let stood : Post = record (standing_by null post (link - 1)) { steps = total } in
    let left : Post = withdrawn stood 0 in
    let rows : Bool = publishes_rows (scheme_of (standing_by null post (link - 1))) in
    let told : List Event = cleared 0 (stands stood 0) ++ publishes_index rows stood 0 0 in
    let none : has_one_interval (scheme_of left) ≡ false = ap has_one_interval (scheme-stays null post (link - 1)) ∙ one in
    let turn : taken seat n ≡ calls.answers left desk told answer = ap (λ (has : Bool). finishing_by (Gets key) (Answering answer) left desk told (if has then finish_span (kept_row left) else None)) none in
    let noted : noting desk (told ++ events.End total answer ∷ []) ≡ desk_of new = ap (λ (notes : Notes). let k : Desk = record desk { notes = notes } in k) (end-noted desk.notes (stands stood 0) rows stood total answer) ∙ sym d in
    let is : seat_after (taken seat n) ≡ at_phase Idle (record post { standing = slice_set post.standing 0 None; steps = total }) new =
    ap seat_after turn
    ∙ ap (λ (p : Post). let v : SeatView = record { phase = Idle; post = p; desk = noting desk (told ++ events.End total answer ∷ []) } in v) (post-cleared null post (link - 1) total)
    ∙ ap (λ (k : Desk). let v : SeatView = record { phase = Idle; post = record post { standing = slice_set post.standing 0 None; steps = total }; desk = k } in v) noted in
    closes_as _ _ is (s.closes answer (ap (λ (t : CallTurn). t.outcome) turn))

-- a value is found, and the index is to be cleared
abbrev got_by : ℕ → ℕ → Option ℕ → Post → Desk → List Event → (one : Bool) → SeatView
got_by key version value post desk told one = seat_after (clearing_by (Gets key) (Answering (answers.Got version value)) post desk told (if one then None else Some (Clear (publishes_rows (scheme_of post)) 0)))

pub found_closes : (key : ℕ) (post : Post) (bucket link : ℕ) (desk : Desk) (steps : ℕ) (found : Found) → has_one_interval (scheme_of post) ≡ false
    → found_at key (held_reader post bucket link desk steps) found ≡ closing_at key (held_reader post bucket link desk steps) found
found_closes key post bucket link desk steps found one =
    let p : Post = read_post (held_reader post bucket link desk steps) found.steps in
    let none : has_one_interval (scheme_of p) ≡ false = ap has_one_interval (scheme-stays (link == 0) post (link - 1)) ∙ one in
    ap (got_by key found.version found.value p (kept_desk desk) (events.Got (bucket_of p key) found.version key found.value ∷ [])) none

-- a protection has ended
abbrev pub held_by : ℕ → (n slot era : ℕ) → Post → Desk → (null : Bool) → SeatView
held_by key n slot era post desk null =
    seat_after (opened (Gets key) (Protected (if null then protect_ends.Null else protect_ends.Held slot era)) (standing_by null post slot) desk (if null then events.Null 0 n ∷ [] else events.Held 0 slot n ∷ []))

-- the link was null
pub held_null : (key : ℕ) (post : Post) (bucket link n era : ℕ) (desk : Desk) (steps : ℕ) → has_one_interval (scheme_of post) ≡ false → link ≡ 0
    → held_at (get_trial key desk 0) 0 (roots.Bucket bucket) n link era steps post ≡ closing_at key (held_reader post bucket link desk steps) (record { version = 0; value = None; steps = 0 })
held_null key post bucket link n era desk steps one e =
    let p : Post = record post { steps = steps } in
    let test : (link == 0) ≡ true = eq-eqb link 0 e in
    let told : List Event = events.Null 0 n ∷ events.Got (bucket_of p key) 0 key None ∷ [] in
    let closing : Bool → ℕ → SeatView = λ null k. record { phase = Runs (Clears (Gets key) (Answering (answers.Got 0 None))) (Clear (publishes_rows (scheme_of (standing_by null post (link - 1)))) 0); post = record (standing_by null post (link - 1)) { steps = k }; desk = kept_desk desk } in
    let zero : steps ≡ steps + 0 = omega arith in
    ap (held_by key n (link - 1) era p (kept_desk desk)) test
    ∙ ap (got_by key 0 None p (kept_desk desk) told) one
    ∙ ap (λ (null : Bool). closing null steps) (sym test)
    ∙ ap (closing (link == 0)) zero

-- or it leads to a row
pub held_row : (key : ℕ) (post : Post) (bucket link n era : ℕ) (desk : Desk) (steps : ℕ) → (link ≡ 0 → ⊥)
    → held_at (get_trial key desk 0) 0 (roots.Bucket bucket) n link era steps post ≡ reading key (held_reader post bucket link desk steps) 0 (FindVersion (link - 1))
held_row key post bucket link n era desk steps e =
    let p : Post = record post { steps = steps } in
    let test : (link == 0) ≡ false = ne_eqb link 0 e in
    let reads : Bool → ℕ → SeatView = λ null k. record { phase = Works (Getting key (FindVersion (link - 1))); post = record (standing_by null post (link - 1)) { steps = k }; desk = kept_desk desk } in
    let zero : steps ≡ steps + 0 = omega arith in
    ap (held_by key n (link - 1) era p (kept_desk desk)) test
    ∙ ap (λ (null : Bool). reads null steps) (sym test)
    ∙ ap (reads (link == 0)) zero

layout-by : (null : Bool) (post : Post) (slot : ℕ) → (standing_by null post slot).layout ≡ post.layout
layout-by true post slot = refl
layout-by false post slot = refl

pub layout_stays : (post : Post) (bucket link : ℕ) (desk : Desk) (steps : ℕ) → (held_reader post bucket link desk steps).post.layout ≡ post.layout
layout_stays post bucket link desk steps = layout-by (link == 0) post (link - 1)

-- a get begins with a protection of its bucket's root, where the scheme begins with no interval
pub begins_at : (key : ℕ) (post : Post) (held : HeldDesk) (root : Root) → has_one_interval (scheme_of post) ≡ false → root ≡ root_of (Gets key) post
    → at_phase (first_phase (calls_named.Get key) post) post held ≡ protects_from (get_trial key (desk_of held) post.steps) 0 root post
begins_at key post held root one r =
    let opens : Bool → Phase = λ one. round_by (Gets key) post (begin_where one post) in
    let protects : Root → Phase = λ root. Runs (Opens (Gets key)) (protect_base (scheme_of post) 0 root) in
    ap (λ (phase : Phase). at_phase phase post held) (ap opens one ∙ ap protects (sym r))

-- and where it has ended, its row is read
pub guarded_reads : (key : ℕ) (post : Post) (desk : Desk) (root : Root) (n : ℕ) (guarded : Guarded) → root ≡ root_of (Gets key) post
    → guarded_at (get_trial key desk post.steps) 0 root post n guarded ≡ held_at (get_trial key desk 0) 0 (roots.Bucket (bucket_of post key)) n guarded.link guarded.era (post.steps + guarded.steps) post
guarded_reads key post desk root n guarded r = ap (λ (root : Root). held_at (get_trial key desk 0) 0 root n guarded.link guarded.era (post.steps + guarded.steps) post) r
