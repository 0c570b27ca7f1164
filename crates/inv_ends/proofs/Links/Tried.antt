-- Where no seat helps another none has a request, so each link that is tracked is one that a try of its seat has loaded.
use Rattle.std.proofs.Common.{ℕ, ◌≡◌, ◌+◌, Bool, true, false, arith, refl}
use Rattle.std.proofs.lemmas.Bool.Decides.{nat_tests}
use Rattle.std.specs.Prelude.{◌==◌, ◌&&◌}
use Rattle.inv_rows.specs.words.Place.Place.{Clock}
use Rattle.inv_rows.specs.words.declared.layout.Layout.{Layout}
use Rattle.inv_rows.specs.defs.declared.event.Root.{Root}
use Rattle.inv_rows.specs.model.declared.post.Post.{Post}
use Rattle.inv_rows.specs.model.Posts.{upper}
use Rattle.inv_rows.specs.model.Phases.{Aim, ProtectAt, MoveAt, Base}
use Rattle.inv_rows.specs.model.Phases.ProtectAt.{LoadClock, PublishEra, LoadLink, CheckClock, PublishRequest, LoadOwnClock, PublishHelper, LoadOwnLink, CheckOwnClock, AnswerOwn, LoadAnswer, TakeAnswer, WithdrawRequest, WithdrawHelper, LoadWithin, CheckUpper, RaiseUpper, ByHazard}
use Rattle.inv_rows.specs.model.Phases.MoveAt.{LoadEra, LoadRequest, ShowEra, LoadAsked, CheckEra, AnswerAsked, LoadReserved, HandOver, HideEra, HideLate, ExchangeClock}
use Rattle.inv_rows.specs.model.Phases.Base.{Begin, Protect, Reload, Clear, Finish, Release, Allocate, Write, GiveUp, Retire, Move}
use Rattle.inv_rows.specs.model.Calls.{Why, Phase, Idle, Runs, Scans, Works}
use Rattle.inv_rows.specs.model.World.{World}
use Rattle.inv_rows.specs.Shapes.Seats.{Seats, PhaseFits, protect_fits, base_fits}
use Rattle.inv_rows.specs.words.Schemes.{helps}
use Rattle.inv_rows.specs.Covering.Held.{under, tries_protect, tries_base, index_base}
use Rattle.inv_rows.specs.model.Guards.{own_guard}
use Rattle.inv_rows.specs.Covering.Requests.Deals.{is_quiet, fits}
use Rattle.inv_rows.specs.Covering.Requests.Standing.{role_of, Requests}
use Rattle.inv_rows.specs.Covering.Requests.Views.{Deal, View as Asking}
use Rattle.inv_rows.specs.Rows.{Status, View}
use Rattle.inv_ends.proofs.Origins.Came.{link_busy, helps_busy}
use Rattle.inv_ends.proofs.Origins.Opened.{fit_of, quiet_busy, work_quiet}
use Rattle.inv_ends.specs.Tracked.{carries_at, carries_base, carries_in, root_base, root_for, root_in, Tracked, Carried, Given, Helped}
use Rattle.inv_rows.proofs.Covering.Kept.{not_reused}
use Rattle.inv_ends.specs.Links.{Tried, TrackedTried, HeldLinksStay}

-- no request under such schemes
quiet_protect : (layout : Layout) (why : Why) (aim : Aim) (index : ℕ) (root : Root) (steps : ℕ) (at : ProtectAt) (d : Deal) → protect_fits layout.config.scheme layout.config.tries at ≡ true → helps layout.config.scheme ≡ false → fits (role_of layout (Runs why (Protect aim index root steps at))) d ≡ true → is_quiet d ≡ true
quiet_protect layout why aim index root steps (LoadClock tries) d p n f = f
quiet_protect layout why aim index root steps (PublishEra era tries) d p n f = f
quiet_protect layout why aim index root steps (LoadLink era tries) d p n f = f
quiet_protect layout why aim index root steps (CheckClock era tries link) d p n f = f
quiet_protect layout why aim index root steps PublishRequest d p n f = f
quiet_protect layout why aim index root steps LoadOwnClock d p n f = absurd (cc)
quiet_protect layout why aim index root steps (PublishHelper first era last) d p n f = absurd (cc)
quiet_protect layout why aim index root steps (LoadOwnLink first era last) d p n f = absurd (cc)
quiet_protect layout why aim index root steps (CheckOwnClock first era last link) d p n f = absurd (cc)
quiet_protect layout why aim index root steps (AnswerOwn first era link) d p n f = absurd (cc)
quiet_protect layout why aim index root steps (LoadAnswer first) d p n f = absurd (cc)
quiet_protect layout why aim index root steps (TakeAnswer link era) d p n f = absurd (cc)
quiet_protect layout why aim index root steps (WithdrawRequest link era) d p n f = absurd (cc)
quiet_protect layout why aim index root steps at d p n f = f

quiet_move : (layout : Layout) (why : Why) (at : MoveAt) (d : Deal) → fits (role_of layout (Runs why (Move at))) d ≡ true → is_quiet d ≡ true
quiet_move layout why (LoadEra helps) d f = f
quiet_move layout why (LoadRequest e s shown) d f = f
quiet_move layout why (ShowEra e s t j r) d f = f
quiet_move layout why (LoadAsked e s t j r) d f = f
quiet_move layout why (CheckEra e s t j r link) d f = f
quiet_move layout why (AnswerAsked e s t j r link) d f = f
quiet_move layout why (LoadReserved e s t j r link) d f = f
quiet_move layout why (HandOver e s t j r link old) d f = f
quiet_move layout why (HideEra e) d f = f
quiet_move layout why (HideLate seen) d f = f
quiet_move layout why (ExchangeClock e) d f = f

quiet_base : (layout : Layout) (why : Why) (base : Base) (d : Deal) → base_fits layout.config base ≡ true → helps layout.config.scheme ≡ false → fits (role_of layout (Runs why base)) d ≡ true → is_quiet d ≡ true
quiet_base layout why (Begin at) d p n f = f
quiet_base layout why (Protect aim index root steps at) d p n f = quiet_protect layout why aim index root steps at d p n f
quiet_base layout why (Reload parent index slot era steps) d p n f = f
quiet_base layout why (Clear rows index) d p n f = f
quiet_base layout why Finish d p n f = f
quiet_base layout why (Release index) d p n f = f
quiet_base layout why (Allocate at) d p n f = f
quiet_base layout why (Write slot row place) d p n f = f
quiet_base layout why (GiveUp slot) d p n f = f
quiet_base layout why (Retire at) d p n f = f
quiet_base layout why (Move at) d p n f = quiet_move layout why at d f

quiet_phase : (layout : Layout) (post : Post) (phase : Phase) (d : Deal) → PhaseFits layout post phase → helps layout.config.scheme ≡ false → fits (role_of layout phase) d ≡ true → is_quiet d ≡ true
quiet_phase layout post Idle d p n f = f
quiet_phase layout post (Runs why base) d p n f = quiet_base layout why base d p.fits n f
quiet_phase layout post (Scans later at) d p n f = f
quiet_phase layout post (Works work) d p n f = work_quiet layout work d f

no_request : (w : World) (k : ℕ) (z : Asking) → helps w.layout.config.scheme ≡ false → Seats w → Requests w z → is_quiet (z.deal k) ≡ true
no_request w k z n s f = quiet_phase w.layout (w.seat k).post (w.seat k).phase (z.deal k) (s.fits k).phase n (fit_of w z k (w.seat k).phase f refl)

-- what a protection carries, a try has loaded
protect_tried : (layout : Layout) (clock : ℕ) (status : ℕ → Status) (post : Post) (root : Root) (at : ProtectAt) (s : ℕ) → protect_fits layout.config.scheme layout.config.tries at ≡ true → helps layout.config.scheme ≡ false → under status root ≡ true → carries_at clock (upper post.span) at (s + 1) ≡ true → tries_protect clock status post root at s ≡ true
protect_tried layout clock status post root (LoadClock tries) s p n u h = h
protect_tried layout clock status post root (PublishEra era tries) s p n u h = h
protect_tried layout clock status post root (LoadLink era tries) s p n u h = h
protect_tried layout clock status post root (CheckClock era tries link) s p n u h = grind (arith, nat_tests)
protect_tried layout clock status post root PublishRequest s p n u h = h
protect_tried layout clock status post root LoadOwnClock s p n u h = h
protect_tried layout clock status post root (PublishHelper first era last) s p n u h = h
protect_tried layout clock status post root (LoadOwnLink first era last) s p n u h = h
protect_tried layout clock status post root (CheckOwnClock first era last link) s p n u h = absurd (cc)
protect_tried layout clock status post root (AnswerOwn first era link) s p n u h = absurd (cc)
protect_tried layout clock status post root (LoadAnswer first) s p n u h = h
protect_tried layout clock status post root (TakeAnswer link era) s p n u h = absurd (cc)
protect_tried layout clock status post root (WithdrawRequest link era) s p n u h = absurd (cc)
protect_tried layout clock status post root (WithdrawHelper link era) s p n u h = absurd (cc)
protect_tried layout clock status post root LoadWithin s p n u h = h
protect_tried layout clock status post root (CheckUpper link) s p n u h = grind (arith, nat_tests)
protect_tried layout clock status post root (RaiseUpper era) s p n u h = h
protect_tried layout clock status post root (ByHazard at) s p n u h = h

same_row : (slot s : ℕ) (b : Bool) → b ≡ true → (slot + 1 == s + 1) ≡ true → (slot == s && b) ≡ true
same_row slot s b u h = grind (arith, nat_tests)

base_tried : (layout : Layout) (clock : ℕ) (status : ℕ → Status) (post : Post) (base : Base) (s : ℕ) → base_fits layout.config base ≡ true → helps layout.config.scheme ≡ false → under status (root_base base) ≡ true → carries_base clock (upper post.span) base (s + 1) ≡ true → tries_base clock status post base s ≡ true
base_tried layout clock status post (Begin at) s p n u h = h
base_tried layout clock status post (Protect aim index root steps at) s p n u h = protect_tried layout clock status post root at s p n u h
base_tried layout clock status post (Reload parent index slot era steps) s p n u h = same_row slot s (under status (root_base (Reload parent index slot era steps))) u h
base_tried layout clock status post base s p n u h = h

phase_tried : (w : World) (k s : ℕ) (v : View) (phase : Phase) → (w.seat k).phase ≡ phase → PhaseFits w.layout (w.seat k).post phase → helps w.layout.config.scheme ≡ false → under v.status (root_for phase) ≡ true → carries_in (w.mem Clock) (upper (w.seat k).post.span) phase (s + 1) ≡ true → Tried w v k s
phase_tried w k s v Idle q p n u h = absurd (cc)
phase_tried w k s v (Runs why base) q p n u h = record { why = why; base = base; is = q; tries = base_tried w.layout (w.mem Clock) v.status (w.seat k).post base s p.fits n u h }
phase_tried w k s v (Scans later at) q p n u h = absurd (cc)
phase_tried w k s v (Works work) q p n u h = absurd (cc)

tried_by : (w : World) (k s : ℕ) (v : View) (z : Asking) → helps w.layout.config.scheme ≡ false → Seats w → Requests w z → Tracked w z k (s + 1) → under v.status (root_in w k) ≡ true → Tried w v k s
tried_by w k s v z n a f (Carried h) u = phase_tried w k s v (w.seat k).phase refl (a.fits k).phase n u h
tried_by w k s v z n a f (Given h) u = absurd (quiet_busy (z.deal k) (no_request w k z n a f) (link_busy (z.deal k) (s + 1) h))
tried_by w k s v z n a f (Helped m h) u = absurd (quiet_busy (z.deal k) (no_request w k z n a f) (helps_busy w.layout (w.mem Clock) k (w.seat m).phase (z.deal k) (s + 1) h))

pub tracked_tried : TrackedTried
tracked_tried w k s v z n a f t u = tried_by w k s v z n a f t u

pub held_links_stay : HeldLinksStay
held_links_stay w i k s v z n a f c u h t r =
    let x = tried_by w k s v z n a f t r in
    let y = h.tried k x.why x.base s x.is x.tries in
    not_reused w i v (own_guard w.layout.config.scheme k (index_base x.base)) s c u y.fits y.covers
