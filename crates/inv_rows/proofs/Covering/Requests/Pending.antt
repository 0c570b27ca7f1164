-- While a request is pending the clock can't run past it.
use Rattle.std.proofs.Common.{ℕ, ◌≡◌, ◌<◌, ◌+◌, true, arith, refl, sym, ap, ◌∙◌}
use Rattle.std.specs.Prelude.{Some}
use Rattle.inv_rows.specs.words.Place.{is_valid}
use Rattle.inv_rows.specs.words.Place.Place.{Request}
use Rattle.inv_rows.specs.words.declared.layout.Layout.{Layout}
use Rattle.inv_rows.specs.defs.declared.event.Root.{Root}
use Rattle.inv_rows.specs.model.Links.{link_number}
use Rattle.inv_rows.specs.model.Posts.{tag_of}
use Rattle.inv_rows.specs.model.SlowPath.{own_request}
use Rattle.inv_rows.specs.model.Phases.{Aim, ProtectAt, MoveAt}
use Rattle.inv_rows.specs.model.Phases.ProtectAt.{LoadClock, PublishEra, LoadLink, CheckClock, PublishRequest, LoadOwnClock, PublishHelper, LoadOwnLink, CheckOwnClock, AnswerOwn}
use Rattle.inv_rows.specs.model.Phases.MoveAt.{LoadEra, LoadRequest, ShowEra, LoadAsked, CheckEra, AnswerAsked, LoadReserved, HandOver, HideEra, HideLate, ExchangeClock}
use Rattle.inv_rows.specs.model.Phases.Base.{Protect}
use Rattle.inv_rows.specs.model.Calls.{Why, Runs}
use Rattle.inv_rows.specs.model.World.{World}
use Rattle.inv_rows.specs.Shapes.Seats.{Seats}
use Rattle.inv_rows.specs.Covering.Requests.Deals.{is_open, asked_at, fits}
use Rattle.inv_rows.specs.Covering.Requests.Needs.{Needs}
use Rattle.inv_rows.specs.Covering.Requests.Pending.{Pending, first_in, era_in, seat_in}
use Rattle.inv_rows.specs.Covering.Requests.Roles.{is_turn, first_of, is_mover, loaded, position}
use Rattle.inv_rows.specs.Covering.Requests.Standing.{protect_role, move_role, role_of, Requests}
use Rattle.inv_rows.specs.Covering.Requests.Views.{View, Deal, Role}
use Rattle.inv_rows.proofs.Covering.Requests.Answering.{own_bits, open_by_word}
use Rattle.inv_rows.proofs.Covering.Requests.Kept.{at_of}

-- an own turn, by its phase
pub record Turn (layout : Layout) (index : ℕ) (root : Root) (at : ProtectAt) (first : ℕ) : Type 0 where
  pub turns : is_turn (protect_role layout index root at) ≡ true
  pub since : first_of (protect_role layout index root at) ≡ first
  pub asks : (d : Deal) → fits (protect_role layout index root at) d ≡ true → asked_at index (link_number layout root) d ≡ true

own_turn : (layout : Layout) (index : ℕ) (root : Root) (at : ProtectAt) (first : ℕ) → first_in at ≡ Some first → Turn layout index root at first
own_turn layout index root (LoadClock tries) first e = absurd (cc)
own_turn layout index root (PublishEra era tries) first e = absurd (cc)
own_turn layout index root (LoadLink era tries) first e = absurd (cc)
own_turn layout index root (CheckClock era tries link) first e = absurd (cc)
own_turn layout index root PublishRequest first e = absurd (cc)
own_turn layout index root LoadOwnClock first e = absurd (cc)
own_turn layout index root (PublishHelper start era last) first e = record { turns = refl; since = cc; asks = λ d h. h }
own_turn layout index root (LoadOwnLink start era last) first e = record { turns = refl; since = cc; asks = λ d h. h }
own_turn layout index root (CheckOwnClock start era last link) first e = record { turns = refl; since = cc; asks = λ d h. h }
own_turn layout index root (AnswerOwn start era link) first e = record { turns = refl; since = cc; asks = λ d h. h }
own_turn layout index root at first e = absurd (cc)

-- a mover from an era, by its phase
pub record From (layout : Layout) (at : MoveAt) (era : ℕ) : Type 0 where
  pub moves : is_mover (move_role layout at) ≡ true
  pub from : loaded (move_role layout at) ≡ era
  pub seat : position layout.config.seats (move_role layout at) ≡ seat_in layout.config.seats at

mover : (layout : Layout) (at : MoveAt) (era : ℕ) → era_in at ≡ Some era → From layout at era
mover layout (LoadEra helps) era h = absurd (cc)
mover layout (LoadRequest e k shown) era h = record { moves = refl; from = cc; seat = refl }
mover layout (ShowEra e k t j r) era h = record { moves = refl; from = cc; seat = refl }
mover layout (LoadAsked e k t j r) era h = record { moves = refl; from = cc; seat = refl }
mover layout (CheckEra e k t j r link) era h = record { moves = refl; from = cc; seat = refl }
mover layout (AnswerAsked e k t j r link) era h = record { moves = refl; from = cc; seat = refl }
mover layout (LoadReserved e k t j r link) era h = record { moves = refl; from = cc; seat = refl }
mover layout (HandOver e k t j r link old) era h = record { moves = refl; from = cc; seat = refl }
mover layout (HideEra e) era h = record { moves = refl; from = cc; seat = refl }
mover layout (HideLate seen) era h = absurd (cc)
mover layout (ExchangeClock e) era h = record { moves = refl; from = cc; seat = refl }

-- the request of a seat whose word is pending is open
is_pending : (w : World) (v : View) (k : ℕ) (why : Why) (aim : Aim) (index : ℕ) (root : Root) (steps : ℕ) (at : ProtectAt) (first : ℕ) → is_valid w.layout ≡ true → k < w.layout.config.seats → Seats w → Needs w → Requests w v
    → (w.seat k).phase ≡ Runs why (Protect aim index root steps at) → first_in at ≡ Some first → w.mem (Request k) ≡ own_request (w.seat k).post index root → is_open (v.deal k) ≡ true
is_pending w v k why aim index root steps at first y b s n f q e r =
    let a = at_of w k v y b s n f in
    let t = own_turn (w.seat k).post.layout index root at first e in
    let x = own_bits w.mem w.seat k v why aim index root steps at a q in
    let z = sym (a.facts.locals.roles k) ∙ ap (role_of (w.seat k).post.layout) q in
    open_by_word index (link_number (w.seat k).post.layout root) (tag_of (w.seat k).post index) (v.deal k)
    (t.asks (v.deal k) (ap (λ (o : Role). fits o (v.deal k)) (sym z) ∙ f.parts.fit k)) x.tag_in x.index_in x.word_in (sym (f.words.requests k) ∙ r)

pub pending : (w : World) (v : View) (k : ℕ) → is_valid w.layout ≡ true → k < w.layout.config.seats → Seats w → Needs w → Requests w v → Pending w k
pending w v k y b s n f = record {
  bound = λ why aim index root steps at first q e r.
      let o = is_pending w v k why aim index root steps at first y b s n f q e r in
      let t = own_turn w.layout index root at first e in
      let z = sym (f.locals.roles k) ∙ ap (role_of w.layout) q in
      let g = f.parts.bound k (ap is_turn z ∙ t.turns) o in
      omega (arith, g, f.words.clocks, ap first_of z, t.since);
  passed = λ why aim index root steps at first q e r m why' move p c.
      let o = is_pending w v k why aim index root steps at first y b s n f q e r in
      let t = own_turn w.layout index root at first e in
      let z = sym (f.locals.roles k) ∙ ap (role_of w.layout) q in
      let u = mover w.layout move (first + 1) c in
      let x = sym (f.locals.roles m) ∙ ap (role_of w.layout) p in
      let g = f.parts.passed k m (ap is_turn z ∙ t.turns) o (ap is_mover x ∙ u.moves) (ap loaded x ∙ u.from ∙ ap (λ (h : ℕ). h + 1) (sym t.since ∙ ap first_of (sym z))) in
      omega (arith, g.0, ap (position w.layout.config.seats) x, u.seat);
}
