-- The steps of a mover of the clock.
use Rattle.std.proofs.Common.{ℕ, ◌≡◌, ◌≤◌, ◌<◌, ◌+◌, Bool, true, false, List, [], arith, refl, sym, ap, ◌∙◌}
use Rattle.std.proofs.lemmas.Bool.Decides.{nat_tests}
use Rattle.std.specs.Prelude.{◌==◌, ◌&&◌, nat_lt}
use Rattle.inv_rows.specs.words.Place.{Place, has}
use Rattle.inv_rows.specs.words.Place.Place.{Clock}
use Rattle.inv_rows.specs.defs.declared.event.Event.{Event}
use Rattle.inv_rows.specs.defs.declared.event.Root.{Root}
use Rattle.inv_rows.specs.model.declared.post.Post.{Post}
use Rattle.inv_rows.specs.model.Links.{link_place, link_number}
use Rattle.inv_rows.specs.model.Memory.{upd, written, Move}
use Rattle.inv_rows.specs.model.Memory as memory
use Rattle.inv_rows.specs.model.Posts.{counted}
use Rattle.inv_rows.specs.model.Phases.{Aim, ProtectAt, MoveAt, Base, Turn, goes, ends, Base as bases}
use Rattle.inv_rows.specs.model.Calls.{Why, Phase, Idle, Runs, Scans, Works}
use Rattle.inv_rows.specs.model.Steps.{run_turn}
use Rattle.inv_rows.specs.model.Locals.{Local}
use Rattle.inv_rows.specs.model.Machine.{move_turn}
use Rattle.inv_rows.specs.Shapes.Frame.{Moves}
use Rattle.inv_rows.specs.words.declared.layout.Layout.{Layout}
use Rattle.inv_rows.specs.model.Phases.MoveAt.{LoadEra, LoadRequest, ShowEra, LoadAsked, CheckEra, AnswerAsked, LoadReserved, HandOver, HideEra, HideLate, ExchangeClock}
use Rattle.inv_rows.specs.model.Phases.ProtectAt.{LoadClock, PublishEra, LoadLink, CheckClock, PublishRequest, LoadOwnClock, PublishHelper, LoadOwnLink, CheckOwnClock, AnswerOwn, LoadAnswer}
use Rattle.inv_rows.specs.model.Phases.Ending.{Clocked}
use Rattle.inv_rows.specs.defs.declared.call.ClockMove.TheVariants as moves
use Rattle.inv_rows.specs.model.MoveClock.{next_request, all_met, moving}
use Rattle.inv_rows.specs.words.Schemes.{publishes_rows, helps}
use Rattle.inv_rows.specs.Shapes.Seats.{agree}
use Rattle.inv_rows.specs.Covering.Requests.Views.{View, Role, Role as roles}
use Rattle.inv_rows.specs.Covering.Requests.Views.Deal.{Open}
use Rattle.inv_rows.specs.Covering.Requests.Deals.{fits}
use Rattle.inv_rows.specs.Covering.Requests.Parts.{Parts}
use Rattle.inv_rows.specs.Covering.Requests.Standing.{move_role, role_of, asked_there, Words}
use Rattle.inv_rows.specs.Covering.Requests.Turns.{Made}
use Rattle.inv_rows.specs.Covering.Requests.Context.{At, phase_there}
use Rattle.inv_rows.specs.Covering.Requests.Asked.{Asker}
use Rattle.inv_rows.proofs.Covering.Requests.Movers as mover
use Rattle.inv_rows.proofs.Covering.Requests.Turns.{each_work_role}
use Rattle.inv_rows.proofs.Covering.Requests.Going.{same_role, stands_in, own_post, go, rest}
use Rattle.inv_rows.proofs.model.Facts.{by_cases, if_by}

-- the role once all requests were met
abbrev pub last_role : ℕ → Bool → Role
last_role e false = roles.Moves e
last_role e true = roles.Hides e

-- the next request, or all were met
pub next_go : (mem : Place → ℕ) (seat : ℕ → Local) (i : ℕ) (v : View) (m : Move) (why : Why) (told : List Event) (e k : ℕ) (shown : Bool) (at : MoveAt) (v' : View) → At mem seat i v → at ≡ next_request (counted (seat i).post) e k shown → v.tag ≡ v'.tag
    → Words (publishes_rows (seat i).post.layout.config.scheme) (written mem m) v'.clock v'.helper v'.era v'.mark v'.deal
    → (k + 1 < (seat i).post.layout.config.seats → Parts (seat i).post.layout.config (record v' { role = upd v.role i (roles.Meets e (k + 1) shown) }))
    → ((seat i).post.layout.config.seats ≤ k + 1 → Parts (seat i).post.layout.config (record v' { role = upd v.role i (last_role e shown) }))
    → Made mem seat i m (run_turn why (seat i).desk (goes (counted (seat i).post) told (bases.Move at))) v'.deal
next_go mem seat i v m why told e k shown at v' a q t u f g =
    by_cases (nat_lt (k + 1) (seat i).post.layout.config.seats) (Made mem seat i m (run_turn why (seat i).desk (goes (counted (seat i).post) told (bases.Move at))) v'.deal)
    (λ h. let s : at ≡ LoadRequest e (k + 1) shown = q ∙ rw h refl in
    go mem seat i v m why told (bases.Move at) (roles.Meets e (k + 1) shown) (record v' { role = upd v.role i (roles.Meets e (k + 1) shown) }) a
    (ap (move_role (seat i).post.layout) s) (ap (asked_there (seat i).post.layout) s) t refl u (f (grind (arith, nat_tests))))
    (λ h. let s : at ≡ all_met e shown = q ∙ rw h refl in
    go mem seat i v m why told (bases.Move at) (last_role e shown) (record v' { role = upd v.role i (last_role e shown) }) a
    (ap (move_role (seat i).post.layout) s ∙ last_is (seat i).post.layout e shown) (ap (asked_there (seat i).post.layout) s ∙ last_there (seat i).post.layout e shown) t refl u (g (grind (arith, nat_tests))))
  where
    last_is : (layout : Layout) (era : ℕ) (b : Bool) → move_role layout (all_met era b) ≡ last_role era b
    last_is layout era true = refl
    last_is layout era false = refl

    last_there : (layout : Layout) (era : ℕ) (b : Bool) → asked_there layout (all_met era b) ≡ true
    last_there layout era true = refl
    last_there layout era false = refl

-- 1. The clock is loaded.
pub load_era : {Q : Post → Type 0} {P : Post → Phase → Type 0} (mem : Place → ℕ) (seat : ℕ → Local) (i : ℕ) (v : View) (why : Why) (helping : Bool) → At mem seat i v → (seat i).phase ≡ Runs why (bases.Move (LoadEra helping)) → agree helping (helps (seat i).post.layout.config.scheme) ≡ true
    → Moves Q P why (move_turn (LoadEra helping) (counted (seat i).post) (mem Clock))
    → Made mem seat i (memory.Load Clock) (run_turn why (seat i).desk (move_turn (LoadEra helping) (counted (seat i).post) (mem Clock))) v.deal
load_era {Q} {P} mem seat i v why helping a q f m =
    if_by (mem Clock == (seat i).post.layout.config.last_era) (ends (counted (seat i).post) [] (Clocked (moves.EraSpent (mem Clock)))) (goes (counted (seat i).post) [] (bases.Move (moving helping (mem Clock))))
    (λ (t : Turn). Moves Q P why t → Made mem seat i (memory.Load Clock) (run_turn why (seat i).desk t) v.deal)
    (λ h g. rest mem seat i v (memory.Load Clock) why (ends (counted (seat i).post) [] (Clocked (moves.EraSpent (mem Clock)))) (record v { role = upd v.role i roles.Away }) a
    (record { post = own_post mem seat i v a; phase = g.phase }) refl refl a.facts.words
    (same_role (seat i).post.layout.config v i roles.Away a.facts.parts (stands_in mem seat i v (Runs why (bases.Move (LoadEra helping))) a q)))
    (λ h g. begin_move helping f (stands_in mem seat i v (Runs why (bases.Move (LoadEra helping))) a q) (rw a.facts.words.clocks at h))
    m
  where
    begin_move : (b : Bool) → agree b (helps (seat i).post.layout.config.scheme) ≡ true → v.role i ≡ roles.Away → (v.clock == (seat i).post.layout.config.last_era) ≡ false
        → Made mem seat i (memory.Load Clock) (run_turn why (seat i).desk (goes (counted (seat i).post) [] (bases.Move (moving b (mem Clock))))) v.deal
    begin_move true w r h =
        go mem seat i v (memory.Load Clock) why [] (bases.Move (LoadRequest (mem Clock) 0 false)) (roles.Meets v.clock 0 false) (record v { role = upd v.role i (roles.Meets v.clock 0 false) }) a
        (ap (λ (x : ℕ). roles.Meets x 0 false) a.facts.words.clocks) refl refl refl a.facts.words
        (mover.begins-keeps (seat i).post.layout.config v i a.below a.facts.parts r h)
    begin_move false w r h =
        go mem seat i v (memory.Load Clock) why [] (bases.Move (ExchangeClock (mem Clock))) (roles.Moves v.clock) (record v { role = upd v.role i (roles.Moves v.clock) }) a
        (ap roles.Moves a.facts.words.clocks) refl refl refl a.facts.words
        (mover.begins_alone-keeps (seat i).post.layout.config v i a.below a.facts.parts r h (λ k. a.alone k (grind (arith, nat_tests))))

-- a pending request is for the word that its seat protects
asker_here : (layout : Layout) (index : ℕ) (root : Root) (t j w : ℕ) → (nat_lt index layout.config.indexes && has layout (link_place root)) ≡ true → (j == index && w == link_number layout root) ≡ true → Asker layout j w
asker_here layout index root t j w h f = record { root = root; there = grind (arith, nat_tests); is = grind (arith, nat_tests); below = grind (arith, nat_tests) }

-- the seat of a pending request protects a link of the table
asker_at : (layout : Layout) (aim : Aim) (index : ℕ) (root : Root) (steps : ℕ) (at : ProtectAt) (why : Why) (t j w : ℕ) → phase_there layout (Runs why (bases.Protect aim index root steps at)) ≡ true → fits (role_of layout (Runs why (bases.Protect aim index root steps at))) (Open t j w) ≡ true → Asker layout j w
asker_at layout aim index root steps (LoadClock tries) why t j w h f = absurd (cc)
asker_at layout aim index root steps (PublishEra era tries) why t j w h f = absurd (cc)
asker_at layout aim index root steps (LoadLink era tries) why t j w h f = absurd (cc)
asker_at layout aim index root steps (CheckClock era tries link) why t j w h f = absurd (cc)
asker_at layout aim index root steps PublishRequest why t j w h f = absurd (cc)
asker_at layout aim index root steps LoadOwnClock why t j w h f = asker_here layout index root t j w h f
asker_at layout aim index root steps (PublishHelper first era last) why t j w h f = asker_here layout index root t j w h f
asker_at layout aim index root steps (LoadOwnLink first era last) why t j w h f = asker_here layout index root t j w h f
asker_at layout aim index root steps (CheckOwnClock first era last link) why t j w h f = asker_here layout index root t j w h f
asker_at layout aim index root steps (AnswerOwn first era link) why t j w h f = asker_here layout index root t j w h f
asker_at layout aim index root steps (LoadAnswer first) why t j w h f = absurd (grind (arith, nat_tests))
asker_at layout aim index root steps at why t j w h f = absurd (cc)

asker_base : (layout : Layout) (base : Base) (why : Why) (t j w : ℕ) → phase_there layout (Runs why base) ≡ true → fits (role_of layout (Runs why base)) (Open t j w) ≡ true → Asker layout j w
asker_base layout (bases.Begin at) why t j w h f = absurd (cc)
asker_base layout (bases.Protect aim index root steps at) why t j w h f = asker_at layout aim index root steps at why t j w h f
asker_base layout (bases.Reload parent index slot era steps) why t j w h f = absurd (cc)
asker_base layout (bases.Clear rows index) why t j w h f = absurd (cc)
asker_base layout bases.Finish why t j w h f = absurd (cc)
asker_base layout (bases.Release index) why t j w h f = absurd (cc)
asker_base layout (bases.Allocate at) why t j w h f = absurd (cc)
asker_base layout (bases.Write slot row place) why t j w h f = absurd (cc)
asker_base layout (bases.GiveUp slot) why t j w h f = absurd (cc)
asker_base layout (bases.Retire at) why t j w h f = absurd (cc)
asker_base layout (bases.Move at) why t j w h f = asker_move layout at why t j w h f
  where
    asker_move : (layout : Layout) (at : MoveAt) (why : Why) (t j w : ℕ) → phase_there layout (Runs why (bases.Move at)) ≡ true → fits (role_of layout (Runs why (bases.Move at))) (Open t j w) ≡ true → Asker layout j w
    asker_move layout (LoadEra helps) why t j w h f = absurd (cc)
    asker_move layout (LoadRequest e k shown) why t j w h f = absurd (cc)
    asker_move layout (ShowEra e k s l r) why t j w h f = absurd (cc)
    asker_move layout (LoadAsked e k s l r) why t j w h f = absurd (cc)
    asker_move layout (CheckEra e k s l r link) why t j w h f = absurd (cc)
    asker_move layout (AnswerAsked e k s l r link) why t j w h f = absurd (cc)
    asker_move layout (LoadReserved e k s l r link) why t j w h f = absurd (cc)
    asker_move layout (HandOver e k s l r link old) why t j w h f = absurd (cc)
    asker_move layout (HideEra e) why t j w h f = absurd (cc)
    asker_move layout (HideLate seen) why t j w h f = absurd (cc)
    asker_move layout (ExchangeClock e) why t j w h f = absurd (cc)

asker : (layout : Layout) (phase : Phase) (t j w : ℕ) → phase_there layout phase ≡ true → fits (role_of layout phase) (Open t j w) ≡ true → Asker layout j w
asker layout Idle t j w h f = absurd (cc)
asker layout (Runs why base) t j w h f = asker_base layout base why t j w h f
asker layout (Scans later at) t j w h f = absurd (cc)
asker layout (Works work) t j w h f = each_work_role layout work (λ (r : Role). fits r (Open t j w) ≡ true → Asker layout j w) (λ g. absurd (cc)) (λ from era g. absurd (cc)) f

pub asker_of : (mem : Place → ℕ) (seat : ℕ → Local) (i : ℕ) (v : View) (k t j w : ℕ) → At mem seat i v → v.deal k ≡ Open t j w → Asker (seat i).post.layout j w
asker_of mem seat i v k t j w a q = asker (seat i).post.layout (seat k).phase t j w (a.inside k) (ap (λ (r : Role). fits r (Open t j w)) (a.facts.locals.roles k) ∙ ap (fits (v.role k)) (sym q) ∙ a.facts.parts.fit k)
