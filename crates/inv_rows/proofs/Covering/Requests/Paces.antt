-- A protection of Wait-Free Eras makes no more steps than it may.
use Rattle.std.proofs.Common.{◌∙◌, ℕ, ◌≡◌, ◌≤◌, ◌+◌, ◌-◌, Bool, true, false, List, [], arith, refl, sym, subst}
use Rattle.std.proofs.lemmas.Bool.Decides.{nat_tests}
use Rattle.std.specs.Prelude.{◌||◌, ◌==◌, nat_le, Option, Some, None}
use Rattle.inv_rows.specs.words.declared.config.Config.{Config}
use Rattle.inv_rows.specs.words.declared.config.SchemeKind.{SchemeKind}
use Rattle.inv_rows.specs.words.declared.packed.Request.{Request}
use Rattle.inv_rows.specs.words.declared.packed.Request.TheVariants as requests
use Rattle.inv_rows.specs.words.Packed.{read_request}
use Rattle.inv_rows.specs.defs.declared.event.Event.{Event}
use Rattle.inv_rows.specs.defs.declared.event.Root.{Root}
use Rattle.inv_rows.specs.model.declared.post.Post.{Post}
use Rattle.inv_rows.specs.model.declared.ends.FollowEnd.TheVariants as follow_ends
use Rattle.inv_rows.specs.model.Links.{parent_of}
use Rattle.inv_rows.specs.model.Memory.{bump}
use Rattle.inv_rows.specs.model.Posts.{upper, reserves_index, reserves_helper}
use Rattle.inv_rows.specs.model.Phases.{HazardAt, Aim, Alone, Follows, Tries, Endless, Failed, ProtectAt, goes, ends}
use Rattle.inv_rows.specs.model.Phases.ProtectAt.{LoadClock, PublishEra, LoadLink, CheckClock, PublishRequest, LoadOwnClock, PublishHelper, LoadOwnLink, CheckOwnClock, AnswerOwn, LoadAnswer, TakeAnswer, WithdrawRequest, WithdrawHelper, LoadWithin, CheckUpper, RaiseUpper, ByHazard}
use Rattle.inv_rows.specs.model.Phases.HazardAt.{FirstLink, PublishLink, CheckLink}
use Rattle.inv_rows.specs.model.Phases.Base.{Protect, Reload}
use Rattle.inv_rows.specs.model.Phases.Ending.{Followed}
use Rattle.inv_rows.specs.model.Protect.{trying, protected, concluded, held_post, told_held}
use Rattle.inv_rows.specs.model.SlowPath.{answer_in, lost_turn, own_request}
use Rattle.inv_rows.specs.model.Machine.{hazard_turn, protect_turn}
use Rattle.inv_rows.specs.model.Rest.{protect_most}
use Rattle.inv_rows.specs.model.Calls.{Why, Phase}
use Rattle.inv_rows.specs.Shapes.Frame.{StepsOn}
use Rattle.inv_rows.specs.words.Schemes.{counts_tries, publishes_rows}
use Rattle.inv_rows.proofs.words.Schemes.{clock_not_counts, counts_helps, interval_not_counts, rows_not_help}
use Rattle.inv_rows.specs.Shapes.Seats.{protect_fits}
use Rattle.inv_rows.specs.Covering.Requests.Paces.{paced, reload_paced, phase_paced}
use Rattle.inv_rows.proofs.model.Facts.{if_by}

-- any post
abbrev pub Any : Post → Type 0
Any post = Unit {0}

-- the phase keeps pace
abbrev pub InPace : Config → Post → Phase → Type 0
InPace c post phase = phase_paced c phase ≡ true

pub bump_near : (n : ℕ) → bump n ≤ n + 1
bump_near n = grind (arith, nat_tests)

-- an answer is taken in time
answer_paced : (c : Config) (n : ℕ) (r : Option Request) → nat_le (n + 3) (protect_most c) ≡ true → paced c n (answer_in r) ≡ true
answer_paced c n (Some (requests.Answered link era)) h = h
answer_paced c n (Some (requests.Pending tag index word)) h = h
answer_paced c n (Some requests.Idle) h = h
answer_paced c n None h = h

-- a protection that ends has made no more steps than it may
concluded_pace : (c : Config) (why : Why) (aim : Aim) (index : ℕ) (root : Root) (n link era : ℕ) (post : Post) (told : List Event) → reload_paced c n (counts_tries c.scheme) ≡ true → StepsOn Any (InPace c) why (concluded aim index root n link era post told)
concluded_pace c why Alone index root n link era post told h = record { post = tt; phase = tt }
concluded_pace c why Follows index root n link era post told h =
    if_by (link == 0) (ends post told (Followed follow_ends.NoNext)) (goes post told (Reload (parent_of root) index (link - 1) era n))
    (StepsOn Any (InPace c) why) (λ e. record { post = tt; phase = tt }) (λ e. record { post = tt; phase = h })

most_reload : (c : Config) (n : ℕ) (b : Bool) → n ≤ protect_most c → reload_paced c n b ≡ true
most_reload c n true h = grind (arith, nat_tests)
most_reload c n false h = refl

-- where tries are not counted, steps are not
free_reload : (c : Config) (n : ℕ) (scheme : SchemeKind) → counts_tries scheme ≡ false → reload_paced c n (counts_tries scheme) ≡ true
free_reload c n scheme h = rw h refl

publish_pace : (c : Config) (why : Why) (aim : Aim) (index : ℕ) (root : Root) (steps n era : ℕ) (tries : Tries) (post : Post) (told : List Event) → n ≤ steps + 1 → paced c steps (PublishEra era tries) ≡ true
    → StepsOn Any (InPace c) why (goes post told (Protect aim index root n (trying c era tries)))
publish_pace c why aim index root steps n era Endless post told h p = record { post = tt; phase = refl }
publish_pace c why aim index root steps n era (Failed count) post told h p =
    if_by (nat_le c.tries count) PublishRequest (LoadLink era (Failed count)) (λ (at : ProtectAt). StepsOn Any (InPace c) why (goes post told (Protect aim index root n at)))
    (λ e. record { post = tt; phase = grind (arith, nat_tests) }) (λ e. record { post = tt; phase = grind (arith, nat_tests) })

check_pace : (c : Config) (why : Why) (aim : Aim) (index : ℕ) (root : Root) (steps n era link found : ℕ) (tries : Tries) (post : Post) → n ≤ steps + 1 → paced c steps (CheckClock era tries link) ≡ true → protect_fits c.scheme c.tries (CheckClock era tries link) ≡ true
    → StepsOn Any (InPace c) why (protect_turn aim index root n (CheckClock era tries link) post found)
check_pace c why aim index root steps n era link found Endless post h p f =
    if_by (found == era) (protected aim index root n link era post) (goes post [] (Protect aim index root n (PublishEra found Endless))) (StepsOn Any (InPace c) why)
    (λ e. concluded_pace c why aim index root n link era (held_post post index root link) (told_held index root link n) (free_reload c n c.scheme (clock_not_counts c.scheme f)))
    (λ e. record { post = tt; phase = refl })
check_pace c why aim index root steps n era link found (Failed count) post h p f =
    if_by (found == era) (protected aim index root n link era post) (goes post [] (Protect aim index root n (PublishEra found (Failed (count + 1))))) (StepsOn Any (InPace c) why)
    (λ e. concluded_pace c why aim index root n link era (held_post post index root link) (told_held index root link n) (most_reload c n (counts_tries c.scheme) (grind (arith, nat_tests))))
    (λ e. record { post = tt; phase = grind (arith, nat_tests) })

load_clock_pace : (c : Config) (steps n era : ℕ) (tries : Tries) → n ≤ steps + 1 → paced c steps (LoadClock tries) ≡ true → paced c n (PublishEra era tries) ≡ true
load_clock_pace c steps n era Endless h p = refl
load_clock_pace c steps n era (Failed count) h p = grind (arith, nat_tests)

load_link_pace : (c : Config) (steps n era link : ℕ) (tries : Tries) → n ≤ steps + 1 → paced c steps (LoadLink era tries) ≡ true → paced c n (CheckClock era tries link) ≡ true
load_link_pace c steps n era link Endless h p = refl
load_link_pace c steps n era link (Failed count) h p = grind (arith, nat_tests)

lost_pace : (c : Config) (steps n first era link found : ℕ) (last : Bool) → n ≤ steps + 1 → paced c steps (CheckOwnClock first era last link) ≡ true → paced c n (lost_turn first last found) ≡ true
lost_pace c steps n first era link found true h p = grind (arith, nat_tests)
lost_pace c steps n first era link found false h p = grind (arith, nat_tests)

turn_pace : (c : Config) (steps n first era link : ℕ) (last : Bool) → n ≤ steps + 1 → paced c steps (CheckOwnClock first era last link) ≡ true → paced c n (AnswerOwn first era link) ≡ true
turn_pace c steps n first era link true h p = grind (arith, nat_tests)
turn_pace c steps n first era link false h p = grind (arith, nat_tests)

helper_pace : (c : Config) (steps n first era : ℕ) (last : Bool) → n ≤ steps + 1 → paced c steps (PublishHelper first era last) ≡ true → paced c n (LoadOwnLink first era last) ≡ true
helper_pace c steps n first era true h p = grind (arith, nat_tests)
helper_pace c steps n first era false h p = grind (arith, nat_tests)

look_pace : (c : Config) (steps n first era link : ℕ) (last : Bool) → n ≤ steps + 1 → paced c steps (LoadOwnLink first era last) ≡ true → paced c n (CheckOwnClock first era last link) ≡ true
look_pace c steps n first era link true h p = grind (arith, nat_tests)
look_pace c steps n first era link false h p = grind (arith, nat_tests)

hazard_pace : (c : Config) (why : Why) (aim : Aim) (index : ℕ) (root : Root) (n : ℕ) (at : HazardAt) (post : Post) (found : ℕ) → publishes_rows c.scheme ≡ true → StepsOn Any (InPace c) why (hazard_turn aim index root n at post found)
hazard_pace c why aim index root n FirstLink post found f =
    if_by (found == 0) (protected aim index root n found 0 post) (goes post [] (Protect aim index root n (ByHazard (PublishLink found)))) (StepsOn Any (InPace c) why)
    (λ e. concluded_pace c why aim index root n found 0 (held_post post index root found) (told_held index root found n) (free_reload c n c.scheme (counts_helps c.scheme ∙ rows_not_help c.scheme f)))
    (λ e. record { post = tt; phase = refl })
hazard_pace c why aim index root n (PublishLink link) post found f = record { post = tt; phase = refl }
hazard_pace c why aim index root n (CheckLink link) post found f =
    if_by (found == link || found == 0) (protected aim index root n found 0 post) (goes post [] (Protect aim index root n (ByHazard (PublishLink found)))) (StepsOn Any (InPace c) why)
    (λ e. concluded_pace c why aim index root n found 0 (held_post post index root found) (told_held index root found n) (free_reload c n c.scheme (counts_helps c.scheme ∙ rows_not_help c.scheme f)))
    (λ e. record { post = tt; phase = refl })

-- a step of a protection
pub protect_pace : (c : Config) (why : Why) (aim : Aim) (index : ℕ) (root : Root) (steps n : ℕ) (at : ProtectAt) (post : Post) (found : ℕ) → post.layout.config ≡ c → n ≤ steps + 1 → paced c steps at ≡ true → protect_fits c.scheme c.tries at ≡ true
    → StepsOn Any (InPace c) why (protect_turn aim index root n at post found)
protect_pace c why aim index root steps n (LoadClock tries) post found t h p f = record { post = tt; phase = load_clock_pace c steps n found tries h p }
protect_pace c why aim index root steps n (PublishEra era tries) post found t h p f =
    subst (λ (d : Config). StepsOn Any (InPace c) why (goes post (reserves_index post index era) (Protect aim index root n (trying d era tries)))) (sym t) (publish_pace c why aim index root steps n era tries post (reserves_index post index era) h p)
protect_pace c why aim index root steps n (LoadLink era tries) post found t h p f = record { post = tt; phase = load_link_pace c steps n era found tries h p }
protect_pace c why aim index root steps n (CheckClock era tries link) post found t h p f = check_pace c why aim index root steps n era link found tries post h p f
protect_pace c why aim index root steps n PublishRequest post found t h p f = record { post = tt; phase = grind (arith, nat_tests) }
protect_pace c why aim index root steps n LoadOwnClock post found t h p f = record { post = tt; phase = grind (arith, nat_tests) }
protect_pace c why aim index root steps n (PublishHelper first era last) post found t h p f = record { post = tt; phase = helper_pace c steps n first era last h p }
protect_pace c why aim index root steps n (LoadOwnLink first era last) post found t h p f = record { post = tt; phase = look_pace c steps n first era found last h p }
protect_pace c why aim index root steps n (CheckOwnClock first era last link) post found t h p f =
    if_by (found == era) (goes post [] (Protect aim index root n (AnswerOwn first era link))) (goes post [] (Protect aim index root n (lost_turn first last found))) (StepsOn Any (InPace c) why)
    (λ e. record { post = tt; phase = turn_pace c steps n first era link last h p }) (λ e. record { post = tt; phase = lost_pace c steps n first era link found last h p })
protect_pace c why aim index root steps n (AnswerOwn first era link) post found t h p f =
    if_by (found == own_request post index root) (goes post [] (Protect aim index root n (TakeAnswer link era))) (goes post [] (Protect aim index root n (answer_in (read_request found)))) (StepsOn Any (InPace c) why)
    (λ e. record { post = tt; phase = grind (arith, nat_tests) }) (λ e. record { post = tt; phase = answer_paced c n (read_request found) (grind (arith, nat_tests)) })
protect_pace c why aim index root steps n (LoadAnswer first) post found t h p f = record { post = tt; phase = answer_paced c n (read_request found) (grind (arith, nat_tests)) }
protect_pace c why aim index root steps n (TakeAnswer link era) post found t h p f = record { post = tt; phase = grind (arith, nat_tests) }
protect_pace c why aim index root steps n (WithdrawRequest link era) post found t h p f = record { post = tt; phase = grind (arith, nat_tests) }
protect_pace c why aim index root steps n (WithdrawHelper link era) post found t h p f = concluded_pace c why aim index root n link era post (reserves_helper post 0) (most_reload c n (counts_tries c.scheme) (grind (arith, nat_tests)))
protect_pace c why aim index root steps n LoadWithin post found t h p f = record { post = tt; phase = refl }
protect_pace c why aim index root steps n (CheckUpper link) post found t h p f =
    if_by (found == upper post.span) (protected aim index root n link found post) (goes post [] (Protect aim index root n (RaiseUpper found))) (StepsOn Any (InPace c) why)
    (λ e. concluded_pace c why aim index root n link found (held_post post index root link) (told_held index root link n) (free_reload c n c.scheme (interval_not_counts c.scheme f)))
    (λ e. record { post = tt; phase = refl })
protect_pace c why aim index root steps n (RaiseUpper era) post found t h p f = record { post = tt; phase = refl }
protect_pace c why aim index root steps n (ByHazard at) post found t h p f = hazard_pace c why aim index root n at post found f
