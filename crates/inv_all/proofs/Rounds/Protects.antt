-- A link is tracked only for a seat that protects one, and none where rows are published.
use Rattle.std.proofs.Common.{ℕ, ◌∙◌, ◌≡◌, Bool, true, false, refl, sym, subst}
use Rattle.inv_ends.specs.model.words.Place.Place.{Clock}
use Rattle.inv_ends.specs.model.Phases.Base.{Move, Allocate, Begin, Clear, Finish, GiveUp, Protect, Release, Reload, Retire, Write}
use Rattle.inv_ends.specs.requests.Views.{View as Asking, Role, Deal}
use Rattle.inv_ends.specs.requests.Views.Deal.{Quiet, Open, Answered, Passed, Taken}
use Rattle.inv_ends.specs.requests.Views.Role.{Away, Publishes, Attempts, Copies, Asks, Asked, Turns, Looks, Answers, Waits, Takes, Took, Leaves, Meets, Shows, Loads, Helps, Reads, Hands, Hides, Late, Moves}
use Rattle.inv_ends.specs.requests.Standing.{Requests, role_of, move_role}
use Rattle.inv_ends.specs.requests.Deals.{fits, is_quiet}
use Rattle.inv_ends.specs.model.Calls.{Phase}
use Rattle.inv_ends.specs.model.Calls.Phase.{Idle, Runs, Scans, Works}
use Rattle.inv_ends.specs.model.Links.{link_number}
use Rattle.inv_ends.specs.model.Phases.{MoveAt}
use Rattle.inv_ends.specs.model.Phases.MoveAt.{AnswerAsked, CheckEra, ExchangeClock, HandOver, HideEra, HideLate, LoadAsked, LoadEra, LoadRequest, LoadReserved, ShowEra}
use Rattle.inv_ends.specs.model.Posts.{upper}
use Rattle.inv_ends.specs.model.World.{World}
use Rattle.inv_ends.specs.Tracked.{Tracked, carries_in, has_link, helps_at, helps_in, opened_by}
use Rattle.inv_ends.specs.Tracked.Tracked.{Carried, Given, Helped}
use Rattle.inv_ends.specs.requests.Roles.{shows}
use Rattle.inv_ends.proofs.requests.Turns.{each_work_role}
use Rattle.inv_ends.specs.model.words.declared.layout.Layout.{Layout}
use Rattle.inv_ends.specs.model.Phases.ProtectAt.{ByHazard}
use Rattle.inv_ends.proofs.Rest.Told.{by_rows}
use Rattle.std.specs.Prelude.{◌==◌, ◌&&◌, not}

abbrev pub is_protecting : Phase → Bool
is_protecting Idle = false
is_protecting (Runs why (Protect aim index root n at)) = not (by_rows at)
is_protecting (Runs why (Reload parent index slot era n)) = true
is_protecting phase = false

abbrev asks_role : Role → Bool
asks_role Away = false
asks_role (Publishes j e lost) = false
asks_role (Attempts j e lost) = false
asks_role (Copies j e) = false
asks_role (Asks j w) = false
asks_role (Asked j w) = true
asks_role (Turns j w f e last) = true
asks_role (Looks j w f e last l) = true
asks_role (Answers j w f e l) = true
asks_role (Waits j w) = true
asks_role (Takes j w l e) = true
asks_role (Took j w l e) = true
asks_role (Leaves j l e) = false
asks_role (Meets e k shown) = false
asks_role (Shows e k t j w) = false
asks_role (Loads e k t j w l) = false
asks_role (Helps e k t j w l) = false
asks_role (Reads e k t j w l) = false
asks_role (Hands e k t j w l o) = false
asks_role (Hides e) = false
asks_role Late = false
asks_role (Moves e) = false

quiet_deal : (r : Role) (d : Deal) → fits r d ≡ true → asks_role r ≡ false → is_quiet d ≡ true
quiet_deal Away d h a = h
quiet_deal (Publishes j e lost) d h a = h
quiet_deal (Attempts j e lost) d h a = h
quiet_deal (Copies j e) d h a = h
quiet_deal (Asks j w) d h a = h
quiet_deal (Asked j w) d h a = absurd (cc)
quiet_deal (Turns j w f e last) d h a = absurd (cc)
quiet_deal (Looks j w f e last l) d h a = absurd (cc)
quiet_deal (Answers j w f e l) d h a = absurd (cc)
quiet_deal (Waits j w) d h a = absurd (cc)
quiet_deal (Takes j w l e) d h a = absurd (cc)
quiet_deal (Took j w l e) d h a = absurd (cc)
quiet_deal (Leaves j l e) d h a = h
quiet_deal (Meets e k shown) d h a = h
quiet_deal (Shows e k t j w) d h a = h
quiet_deal (Loads e k t j w l) d h a = h
quiet_deal (Helps e k t j w l) d h a = h
quiet_deal (Reads e k t j w l) d h a = h
quiet_deal (Hands e k t j w l o) d h a = h
quiet_deal (Hides e) d h a = h
quiet_deal Late d h a = h
quiet_deal (Moves e) d h a = h

move_asks : (layout : Layout) (at : MoveAt) → asks_role (move_role layout at) ≡ false
move_asks layout (LoadEra helps) = refl
move_asks layout (LoadRequest era seat shows) = refl
move_asks layout (ShowEra era seat tag index root) = refl
move_asks layout (LoadAsked era seat tag index root) = refl
move_asks layout (CheckEra era seat tag index root link) = refl
move_asks layout (AnswerAsked era seat tag index root link) = refl
move_asks layout (LoadReserved era seat tag index root link) = refl
move_asks layout (HandOver era seat tag index root link old) = refl
move_asks layout (HideEra era) = refl
move_asks layout (HideLate seen) = refl
move_asks layout (ExchangeClock era) = refl

phase_asks : (layout : Layout) (phase : Phase) → is_protecting phase ≡ false → asks_role (role_of layout phase) ≡ false
phase_asks layout Idle p = refl
phase_asks layout (Runs why (Begin at)) p = refl
phase_asks layout (Runs why (Protect aim index root n (ByHazard at))) p = refl
phase_asks layout (Runs why (Protect aim index root n at)) p = absurd (cc)
phase_asks layout (Runs why (Reload parent index slot era n)) p = absurd (cc)
phase_asks layout (Runs why (Clear rows index)) p = refl
phase_asks layout (Runs why Finish) p = refl
phase_asks layout (Runs why (Release index)) p = refl
phase_asks layout (Runs why (Allocate at)) p = refl
phase_asks layout (Runs why (Write slot row place)) p = refl
phase_asks layout (Runs why (GiveUp slot)) p = refl
phase_asks layout (Runs why (Retire at)) p = refl
phase_asks layout (Runs why (Move at)) p = move_asks layout at
phase_asks layout (Scans later at) p = refl
phase_asks layout (Works work) p = each_work_role layout work (λ (r : Role). asks_role r ≡ false) refl (λ from era. refl)

carries_not : (clock upto : ℕ) (phase : Phase) (x : ℕ) → is_protecting phase ≡ false → carries_in clock upto phase x ≡ false
carries_not clock upto Idle x p = refl
carries_not clock upto (Runs why (Begin at)) x p = refl
carries_not clock upto (Runs why (Protect aim index root n (ByHazard at))) x p = refl
carries_not clock upto (Runs why (Protect aim index root n at)) x p = absurd (cc)
carries_not clock upto (Runs why (Reload parent index slot era n)) x p = absurd (cc)
carries_not clock upto (Runs why (Clear rows index)) x p = refl
carries_not clock upto (Runs why Finish) x p = refl
carries_not clock upto (Runs why (Release index)) x p = refl
carries_not clock upto (Runs why (Allocate at)) x p = refl
carries_not clock upto (Runs why (Write slot row place)) x p = refl
carries_not clock upto (Runs why (GiveUp slot)) x p = refl
carries_not clock upto (Runs why (Retire at)) x p = refl
carries_not clock upto (Runs why (Move at)) x p = refl
carries_not clock upto (Scans later at) x p = refl
carries_not clock upto (Works work) x p = refl

quiet_link : (d : Deal) (x : ℕ) → is_quiet d ≡ true → has_link d x ≡ false
quiet_link Quiet x q = refl
quiet_link (Open t j w) x q = absurd (cc)
quiet_link (Answered t j w l e m) x q = absurd (cc)
quiet_link (Passed t j w l e) x q = absurd (cc)
quiet_link (Taken t j w l e) x q = absurd (cc)

quiet_open : (t j w : ℕ) (d : Deal) → is_quiet d ≡ true → opened_by t j w d ≡ false
quiet_open t j w Quiet q = refl
quiet_open t j w (Open a b c) q = absurd (cc)
quiet_open t j w (Answered a b c l e m) q = absurd (cc)
quiet_open t j w (Passed a b c l e) q = absurd (cc)
quiet_open t j w (Taken a b c l e) q = absurd (cc)

last_of : (a b c : Bool) → (a && (b && c)) ≡ true → c ≡ true
last_of true true c h = h
last_of true false c h = absurd (cc)
last_of false b c h = absurd (cc)

last_of_four : (a b c d : Bool) → (a && (b && (c && d))) ≡ true → d ≡ true
last_of_four true true true d h = h
last_of_four true true false d h = absurd (cc)
last_of_four true false c d h = absurd (cc)
last_of_four false b c d h = absurd (cc)

helps_not_at : (layout : Layout) (clock k : ℕ) (at : MoveAt) (d : Deal) (x : ℕ) → is_quiet d ≡ true → helps_at layout clock k at d x ≡ true → false ≡ true
helps_not_at layout clock k (LoadEra helps) d x q h = h
helps_not_at layout clock k (LoadRequest era seat shows) d x q h = h
helps_not_at layout clock k (ShowEra era seat tag index root) d x q h = h
helps_not_at layout clock k (LoadAsked era seat tag index root) d x q h = h
helps_not_at layout clock k (CheckEra era seat tag index root link) d x q h =
    sym (quiet_open tag index (link_number layout root) d q) ∙ last_of_four (seat == k) (link == x) (clock == era) (opened_by tag index (link_number layout root) d) h
helps_not_at layout clock k (AnswerAsked era seat tag index root link) d x q h =
    sym (quiet_open tag index (link_number layout root) d q) ∙ last_of (seat == k) (link == x) (opened_by tag index (link_number layout root) d) h
helps_not_at layout clock k (LoadReserved era seat tag index root link) d x q h = h
helps_not_at layout clock k (HandOver era seat tag index root link old) d x q h = h
helps_not_at layout clock k (HideEra era) d x q h = h
helps_not_at layout clock k (HideLate seen) d x q h = h
helps_not_at layout clock k (ExchangeClock era) d x q h = h

helps_not : (layout : Layout) (clock k : ℕ) (phase : Phase) (d : Deal) (x : ℕ) → is_quiet d ≡ true → helps_in layout clock k phase d x ≡ true → false ≡ true
helps_not layout clock k Idle d x q h = h
helps_not layout clock k (Runs why (Begin at)) d x q h = h
helps_not layout clock k (Runs why (Protect aim index root n at)) d x q h = h
helps_not layout clock k (Runs why (Reload parent index slot era n)) d x q h = h
helps_not layout clock k (Runs why (Clear rows index)) d x q h = h
helps_not layout clock k (Runs why Finish) d x q h = h
helps_not layout clock k (Runs why (Release index)) d x q h = h
helps_not layout clock k (Runs why (Allocate at)) d x q h = h
helps_not layout clock k (Runs why (Write slot row place)) d x q h = h
helps_not layout clock k (Runs why (GiveUp slot)) d x q h = h
helps_not layout clock k (Runs why (Retire at)) d x q h = h
helps_not layout clock k (Runs why (Move at)) d x q h = helps_not_at layout clock k at d x q h
helps_not layout clock k (Scans later at) d x q h = h
helps_not layout clock k (Works work) d x q h = h

quiet_seat : (w : World) (z : Asking) (k : ℕ) → Requests w z → is_protecting (w.seat k).phase ≡ false → is_quiet (z.deal k) ≡ true
quiet_seat w z k r p =
    let a : asks_role (z.role k) ≡ false = subst (λ (x : Role). asks_role x ≡ false) (r.locals.roles k) (phase_asks w.layout (w.seat k).phase p) in
    quiet_deal (z.role k) (z.deal k) (r.parts.fit k) a

-- so where none is protected none is tracked
pub none_tracked : (w : World) (z : Asking) (k x : ℕ) → Requests w z → is_protecting (w.seat k).phase ≡ false → Tracked w z k x → false ≡ true
none_tracked w z k x r p (Carried h) = sym (carries_not (w.mem Clock) (upper (w.seat k).post.span) (w.seat k).phase x p) ∙ h
none_tracked w z k x r p (Given h) = sym (quiet_link (z.deal k) x (quiet_seat w z k r p)) ∙ h
none_tracked w z k x r p (Helped m h) = helps_not w.layout (w.mem Clock) k (w.seat m).phase (z.deal k) x (quiet_seat w z k r p) h
