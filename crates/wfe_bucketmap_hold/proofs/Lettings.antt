-- What is let go, as phases of the model.
use Rattle.std.proofs.Common.{ℕ, ◌≡◌, true, false, List, Option, Some, None, refl, sym, subst}
use Rattle.wfe_core.specs.words.declared.config.SchemeKind.{SchemeKind}
use Rattle.wfe_core.specs.words.declared.config.SchemeKind.TheVariants.{He, Hp, Ibr, Wfe}
use Rattle.wfe_core.specs.defs.declared.event.Event.{Event}
use Rattle.wfe_core.specs.declared.post.Post.{Post}
use Rattle.wfe_core.specs.CallReady.{IsCallReady}
use Rattle.wfe_core.specs.Calls.{LetGo, Phase}
use Rattle.wfe_core.specs.Desks.{Desk}
use Rattle.wfe_core.specs.Keep.{released}
use Rattle.wfe_core.specs.Phases.{Base}
use Rattle.wfe_core.specs.Phases.Base.{Clear, Release}
use Rattle.wfe_core.specs.Posts.{counted, withdrawn}
use Rattle.wfe_core.specs.Ready.{IndexFits, IsReady}
use Rattle.wfe_core.specs.Rounds.{scheme_of, kept_row, let_index, letting, letting_by, release_base, release_span}
use Rattle.wfe_call_rounds.specs.Steps.{Steps}
use Rattle.wfe_bucketmap_hold.specs.declared.letting.LetGo.{LetGo as LetGoes}
use Rattle.wfe_bucketmap_hold.specs.declared.letting.LetGo.TheVariants.{Held, At}
use Rattle.wfe_bucketmap_hold.specs.Lettings.{let_answer, let_go_of, let_phase}

let_span : (index : ℕ) (kept : Option ℕ) (base : Base) → Some base ≡ release_span index kept → Release index ≡ base
let_span index None base e = cc
let_span index (Some slot) base e = absurd (cc)

let_fits : (kind : SchemeKind) (post : Post) (index : ℕ) (base : Base) → Some base ≡ release_base kind post index → IsReady base post → IndexFits post index
let_fits He post index base e h = let same : base ≡ Clear false index = cc in subst (λ (b : Base). IsReady b post) same h
let_fits Ibr post index base e h = subst (λ (b : Base). IsReady b post) (sym (let_span index (kept_row (withdrawn post index)) base e)) h
let_fits Wfe post index base e h = let same : base ≡ Clear false index = cc in subst (λ (b : Base). IsReady b post) same h
let_fits Hp post index base e h = let same : base ≡ Clear true index = cc in subst (λ (b : Base). IsReady b post) same h

letting_by_fits : (let_go : LetGo) (post : Post) (desk : Desk) (base : Option Base) → base ≡ release_base (scheme_of post) post (let_index let_go) → IsCallReady (letting_by let_go base) post desk → IndexFits post (let_index let_go)
letting_by_fits let_go post desk None e h = h
letting_by_fits let_go post desk (Some base) e h = let_fits (scheme_of post) post (let_index let_go) base e h.0

-- where something may be let go, it is at one of the seat's indexes
pub letting_fits : (let_go : LetGo) (post : Post) (desk : Desk) → IsCallReady (letting let_go post) post desk → IndexFits post (let_index let_go)
letting_fits let_go post desk h = letting_by_fits let_go post desk (release_base (scheme_of post) post (let_index let_go)) refl h

-- what is let go by a call of its own is answered
pub let_answers : (let_go : LetGoes) (post : Post) (desk : Desk) (told : List Event) (phase : Phase) → Steps (released (let_go_of let_go) post desk told) post desk told (Some (let_answer let_go)) phase
let_answers Held post desk told phase = record { post_is = refl; told_is = refl; desk_is = refl; outcome_is = refl }
let_answers (At index) post desk told phase = record { post_is = refl; told_is = refl; desk_is = refl; outcome_is = refl }

-- where it stands does not depend on how many steps it has made
pub let_phase_counted : {R : Type 0} (release : R → Base) (let_go : LetGo) (steps : Option R) (post : Post) → let_phase release let_go steps post ≡ let_phase release let_go steps (counted post)
let_phase_counted release let_go None post = refl
let_phase_counted release let_go (Some machine) post = refl
