-- What a protection that is over leaves, and what the reload of the head makes of it.
use Rattle.std.proofs.Common.{Bool, List, Option, [], ap, false, refl, sym, true, ℕ, ◌+◌, ◌-◌, ◌==◌, ◌∙◌, ◌∷◌, ◌≡◌, ◌≢◌, if◌then◌else◌, ◌⊎◌, inl, inr}
use Rattle.std.proofs.lemmas.Bool.{eq-eqb, ne_eqb}
use Rattle.std.proofs.lemmas.Bool.Decides.{eqb_tells}
use Rattle.wfe_core.specs.defs.declared.event.Event.{Event}
use Rattle.wfe_core.specs.defs.declared.event.Event.TheVariants as events
use Rattle.wfe_core.specs.defs.declared.event.Root.{Root}
use Rattle.wfe_core.specs.defs.declared.event.Root.TheVariants as roots
use Rattle.wfe_core.specs.declared.ends.FollowEnd.TheVariants as follow_ends
use Rattle.wfe_core.specs.declared.ends.ProtectEnd.TheVariants as protect_ends
use Rattle.wfe_core.specs.declared.post.Post.{Post}
use Rattle.wfe_core.specs.Calls.{Runs, Why}
use Rattle.wfe_core.specs.DeskHeld.{desk_of}
use Rattle.wfe_core.specs.Desks.{Desk}
use Rattle.wfe_core.specs.Follow.{after_reload}
use Rattle.wfe_core.specs.Locals.{Local}
use Rattle.wfe_core.specs.Phases.{Alone, Follows, Turn, ends, goes}
use Rattle.wfe_core.specs.Phases.Base.{Reload}
use Rattle.wfe_core.specs.Phases.Ending.{Followed, Protected}
use Rattle.wfe_core.specs.Posts.{with_row}
use Rattle.wfe_core.specs.Protect.{protected}
use Rattle.wfe_core.specs.Steps.{resume, run_turn}
use Rattle.wfe_core.specs.declared.desk.Desk.{Desk as HeldDesk}
use Rattle.wfe_core.specs.declared.op.Op.{Op}
use Rattle.wfe_drive_words.specs.drive_cells.Unit.{SeatView, seat_after}
use Rattle.wfe_drive_words.specs.Path.{Leads}
use Rattle.wfe_drive_runs.specs.Pieces.{IsStood, LeadsSo, Outer, end_of, seat_of}
use Rattle.wfe_drive_words.proofs.Leading.{leads_as}

-- of a root
abbrev pub alone_as : (index n slot era : ℕ) → Post → (null : Bool) → Turn
alone_as index n slot era post null =
    ends
    (if null then post else with_row post index slot)
    (if null then events.Null index n ∷ [] else events.Held index slot n ∷ [])
    (Protected (if null then protect_ends.Null else protect_ends.Held slot era))

pub outer_turn : (index : ℕ) (root : Root) (n link era : ℕ) (post : Post) → Outer root → protected Alone index root n link era post ≡ alone_as index n (link - 1) era post (link == 0)
outer_turn index (roots.Bucket bucket) n link era post o = refl
outer_turn index roots.Head n link era post o = refl
outer_turn index roots.Tail n link era post o = refl
outer_turn index (roots.Next slot) n link era post o = absurd o

-- of a next link
abbrev pub follows_as : (parent n slot era : ℕ) → Post → (null : Bool) → Turn
follows_as parent n slot era post null =
    if null
    then ends post (if null then events.Null 1 n ∷ [] else []) (Followed follow_ends.NoNext)
    else goes post (if null then events.Null 1 n ∷ [] else []) (Reload parent 1 slot era n)

abbrev pub reload_as : (slot n seen : ℕ) → Post → (same : Bool) → Turn
reload_as slot n seen post same =
    if same
    then ends (with_row post 1 slot) (events.Held 1 slot n ∷ []) (Followed (follow_ends.Followed slot))
    else ends post [] (Followed (follow_ends.RootMoved seen))

-- the row stands, or there is none
module _ {at0 at1 : Local → Type 0} {stands0 stands1 : List (Op × ℕ) → Type 0} {first : SeatView} where
  stood-by : (why : Why) (held : HeldDesk) (index : ℕ) (root : Root) (n link era : ℕ) (post new : Post) (result : Option ℕ) → Outer root → IsStood index link post new result
      → Leads at0 at1 stands0 stands1 first (seat_after (run_turn why (desk_of held) (protected Alone index root n link era post)))
      → ((link == 0) ≡ true) × (link ≡ 0) ⊎ ((link == 0) ≡ false) × (link ≢ 0)
      → LeadsSo at0 at1 stands0 stands1 first why (Protected (end_of result era)) new held
  stood-by why held index root n link era post new result o s x (inl e) =
      let is = outer_turn index root n link era post o ∙ ap (alone_as index n (link - 1) era post) e.0 in
      let at = s.null e.1 in
      record {
        before = desk_of held;
        told = events.Null index n ∷ [];
        noted = refl;
        leads = leads_as _ _ (ap (λ (t : Turn). seat_after (run_turn why (desk_of held) t)) is
            ∙ ap (λ (p : Post). seat_after (resume why (Protected protect_ends.Null) p (desk_of held) (events.Null index n ∷ []))) (sym at.1)
            ∙ ap (λ (r : Option ℕ). seat_after (resume why (Protected (end_of r era)) new (desk_of held) (events.Null index n ∷ []))) (sym at.0)) x;
      }
  stood-by why held index root n link era post new result o s x (inr e) =
      let is = outer_turn index root n link era post o ∙ ap (alone_as index n (link - 1) era post) e.0 in
      let at = s.row e.1 in
      let slot : ℕ = link - 1 in
      let told : List Event = events.Held index slot n ∷ [] in
      record {
        before = desk_of held;
        told = told;
        noted = refl;
        leads = leads_as _ _ (ap (λ (t : Turn). seat_after (run_turn why (desk_of held) t)) is
            ∙ ap (λ (p : Post). seat_after (resume why (Protected (protect_ends.Held slot era)) p (desk_of held) told)) (sym at.1)
            ∙ ap (λ (r : Option ℕ). seat_after (resume why (Protected (end_of r era)) new (desk_of held) told)) (sym at.0)) x;
      }

  pub stood_leads : (why : Why) (held : HeldDesk) (index : ℕ) (root : Root) (n link era : ℕ) (post new : Post) (result : Option ℕ) → Outer root → IsStood index link post new result
      → Leads at0 at1 stands0 stands1 first (seat_after (run_turn why (desk_of held) (protected Alone index root n link era post)))
      → LeadsSo at0 at1 stands0 stands1 first why (Protected (end_of result era)) new held
  stood_leads why held index root n link era post new result o s x = stood-by why held index root n link era post new result o s x (eqb_tells link 0)

-- a next link: it was null, or the head is loaded again
module _ {at0 at1 : Local → Type 0} {stands0 stands1 : List (Op × ℕ) → Type 0} {first : SeatView} where
  pub follow_null : (why : Why) (held : HeldDesk) (parent n link era : ℕ) (post : Post) → link ≡ 0
      → Leads at0 at1 stands0 stands1 first (seat_after (run_turn why (desk_of held) (protected Follows 1 (roots.Next parent) n link era post)))
      → LeadsSo at0 at1 stands0 stands1 first why (Followed follow_ends.NoNext) post held
  follow_null why held parent n link era post e x = record {
    before = desk_of held;
    told = events.Null 1 n ∷ [];
    noted = refl;
    leads = leads_as _ _ (ap (λ (null : Bool). seat_after (run_turn why (desk_of held) (follows_as parent n (link - 1) era post null))) (eq-eqb link 0 e)) x;
  }

  pub follow_reload : (why : Why) (desk : Desk) (parent n link era : ℕ) (post : Post) → link ≢ 0
      → Leads at0 at1 stands0 stands1 first (seat_after (run_turn why desk (protected Follows 1 (roots.Next parent) n link era post)))
      → Leads at0 at1 stands0 stands1 first (seat_of (Runs why (Reload parent 1 (link - 1) era n)) post desk)
  follow_reload why desk parent n link era post e x =
      leads_as _ _ (ap (λ (null : Bool). seat_after (run_turn why desk (follows_as parent n (link - 1) era post null))) (ne_eqb link 0 e)) x

  pub reload_same : (why : Why) (held : HeldDesk) (parent slot n seen : ℕ) (post : Post) → seen ≡ parent + 1
      → Leads at0 at1 stands0 stands1 first (seat_after (run_turn why (desk_of held) (after_reload parent 1 slot n post seen)))
      → LeadsSo at0 at1 stands0 stands1 first why (Followed (follow_ends.Followed slot)) (with_row post 1 slot) held
  reload_same why held parent slot n seen post e x = record {
    before = desk_of held;
    told = events.Held 1 slot n ∷ [];
    noted = refl;
    leads = leads_as _ _ (ap (λ (same : Bool). seat_after (run_turn why (desk_of held) (reload_as slot n seen post same))) (eq-eqb seen (parent + 1) e)) x;
  }

  pub reload_moved : (why : Why) (held : HeldDesk) (parent slot n seen : ℕ) (post : Post) → seen ≢ parent + 1
      → Leads at0 at1 stands0 stands1 first (seat_after (run_turn why (desk_of held) (after_reload parent 1 slot n post seen)))
      → LeadsSo at0 at1 stands0 stands1 first why (Followed (follow_ends.RootMoved seen)) post held
  reload_moved why held parent slot n seen post e x = record {
    before = desk_of held;
    told = [];
    noted = refl;
    leads = leads_as _ _ (ap (λ (same : Bool). seat_after (run_turn why (desk_of held) (reload_as slot n seen post same))) (ne_eqb seen (parent + 1) e)) x;
  }
