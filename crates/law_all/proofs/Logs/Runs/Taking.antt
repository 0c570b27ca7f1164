-- A step tells that a list is taken over, and nothing else, or it tells so of none.
use Rattle.std.proofs.Common.{ℕ, ◌≡◌, ◌⊎◌, inl, inr, Bool, true, false, List, [], ◌∷◌, refl}
use Rattle.std.specs.Prelude.{◌==◌, not}
use Rattle.law_all.specs.inv.model.defs.declared.event.Event.{Event}
use Rattle.law_all.specs.inv.model.defs.declared.event.Event.TheVariants as events
use Rattle.law_all.specs.inv.model.declared.post.Post.{Post}
use Rattle.law_all.specs.inv.model.Calls.{KeepAt, Loosens, LoadHeld, StoreHeld, Looks, Misses, HideSpan, MarkLeft, TakeList, MarkTaken, Phase, Idle, Runs, Scans, Works, Getting, Changing, Enqueuing, Dequeuing, Keeping}
use Rattle.law_all.specs.inv.model.Desks.{Desk}
use Rattle.law_all.specs.inv.model.Keep.{taking}
use Rattle.law_all.specs.inv.model.Locals.{told_by}
use Rattle.law_all.specs.inv.model.Posts.{counted}
use Rattle.law_all.specs.inv.model.Steps.{phase_turn}
use Rattle.law_all.specs.inv.model.World.{World, finds, offered, told_in}
use Rattle.law_all.proofs.inv.model.Facts.{both, first_of, rest_of}
use Rattle.law_all.proofs.inv.history.AllOf.{all_of}
use Rattle.law_all.specs.laws.Lists.{hands_none, is_handed}
use Rattle.law_scans.proofs.reuse.Leaving.Told.{is_kept, phase_keeps_lists, told_kept}

pub record Takes (told : List Event) : Type 0 where
  pub place : ℕ
  pub count : ℕ
  pub is : told ≡ events.Adopted place count ∷ []

abbrev pub Handing : List Event → Type 0
Handing told = (hands_none told ≡ true) ⊎ Takes told

kept_one : (event : Event) → is_kept event ≡ true → not (is_handed event) ≡ true
kept_one (events.Adopted place count) h = absurd (cc)
kept_one event h = refl

kept_hands : (told : List Event) → all_of is_kept told ≡ true → hands_none told ≡ true
kept_hands [] h = refl
kept_hands (event ∷ told) h =
    both (not (is_handed event)) (hands_none told) (kept_one event (first_of (is_kept event) (all_of is_kept told) h))
    (kept_hands told (rest_of (is_kept event) (all_of is_kept told) h))

calm_hands : (phase : Phase) (post : Post) (desk : Desk) (found : ℕ) → phase_keeps_lists phase ≡ true → Handing (told_by (phase_turn phase post desk found))
calm_hands phase post desk found q = inl (kept_hands (told_by (phase_turn phase post desk found)) (told_kept phase post desk found q))

taking_hands : (place : ℕ) (post : Post) (desk : Desk) (left : Bool) (found : ℕ) → Handing (told_by (taking place post desk left found))
taking_hands place post desk true found = inr (record { place = place; count = _; is = refl })
taking_hands place post desk false found = inl refl

keep_hands : (at : KeepAt) (post : Post) (desk : Desk) (found : ℕ) → Handing (told_by (phase_turn (Works (Keeping at)) post desk found))
keep_hands (TakeList place) post desk found = taking_hands place post desk (found == 1) found
keep_hands MarkLeft post desk found = inl refl
keep_hands (Loosens let_go) post desk found = calm_hands (Works (Keeping (Loosens let_go))) post desk found refl
keep_hands (LoadHeld from index) post desk found = calm_hands (Works (Keeping (LoadHeld from index))) post desk found refl
keep_hands (StoreHeld from index era) post desk found = calm_hands (Works (Keeping (StoreHeld from index era))) post desk found refl
keep_hands (Looks index key at) post desk found = calm_hands (Works (Keeping (Looks index key at))) post desk found refl
keep_hands (Misses index) post desk found = inl refl
keep_hands HideSpan post desk found = calm_hands (Works (Keeping HideSpan)) post desk found refl
keep_hands (MarkTaken place count) post desk found = inl refl

phase_hands : (phase : Phase) (post : Post) (desk : Desk) (found : ℕ) → Handing (told_by (phase_turn phase post desk found))
phase_hands Idle post desk found = inl refl
phase_hands (Runs why base) post desk found = calm_hands (Runs why base) post desk found refl
phase_hands (Scans later at) post desk found = calm_hands (Scans later at) post desk found refl
phase_hands (Works (Getting key at)) post desk found = calm_hands (Works (Getting key at)) post desk found refl
phase_hands (Works (Changing kept at)) post desk found = calm_hands (Works (Changing kept at)) post desk found refl
phase_hands (Works (Enqueuing kept at)) post desk found = calm_hands (Works (Enqueuing kept at)) post desk found refl
phase_hands (Works (Dequeuing at)) post desk found = calm_hands (Works (Dequeuing at)) post desk found refl
phase_hands (Works (Keeping at)) post desk found = keep_hands at post desk found

pub step_hands : (w : World) (i : ℕ) → Handing (told_in w i)
step_hands w i = phase_hands (w.seat i).phase (counted (w.seat i).post) (offered w i).desk (finds w i)
