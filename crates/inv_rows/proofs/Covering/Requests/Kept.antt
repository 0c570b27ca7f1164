-- Each step of each seat keeps what holds of requests.
use Rattle.std.proofs.Common.{ℕ, ◌≡◌, ◌≤◌, ◌<◌, ◌+◌, true, false, arith, refl, sym, ap, subst, ◌∙◌, Bool}
use Rattle.std.proofs.lemmas.Bool.Decides.{nat_tests}
use Rattle.std.specs.Prelude.{◌&&◌, nat_lt, if◌then◌else◌, ◌==◌}
use Rattle.inv_rows.specs.words.Place.{Place, has, is_valid}
use Rattle.inv_rows.specs.words.Place.Place.{Clock, Helper, Index, Request}
use Rattle.inv_rows.specs.defs.declared.event.Root.{Root}
use Rattle.inv_rows.specs.model.declared.post.Post.{Post}
use Rattle.inv_rows.specs.model.Links.{link_place}
use Rattle.inv_rows.specs.model.Memory.{upd, bump}
use Rattle.inv_rows.specs.model.Posts.{counted, tag_of, new_post}
use Rattle.inv_rows.specs.model.Phases.{Aim, Tries, Endless, Failed, ProtectAt, MoveAt, Base, Base as bases}
use Rattle.inv_rows.specs.model.Calls.{Why, Phase, Idle, Runs, Opens, FollowsHead, Scans, Works}
use Rattle.inv_rows.specs.model.Steps.{run_turn, phase_move, phase_turn}
use Rattle.inv_rows.specs.model.Locals.{Local, busy_in, begun, settled, turn}
use Rattle.inv_rows.specs.model.Machine.{hazard_move, protect_move, protect_turn, move_move, move_turn, base_move, after}
use Rattle.inv_rows.specs.Shapes.Frame.{Moves}
use Rattle.inv_rows.specs.words.declared.layout.Layout.{Layout}
use Rattle.inv_rows.specs.defs.declared.call.Call.{Call}
use Rattle.inv_rows.specs.model.Phases.ProtectAt.{LoadClock, PublishEra, LoadLink, CheckClock, PublishRequest, LoadOwnClock, PublishHelper, LoadOwnLink, CheckOwnClock, AnswerOwn, LoadAnswer, TakeAnswer, WithdrawRequest, WithdrawHelper, LoadWithin, CheckUpper, RaiseUpper, ByHazard}
use Rattle.inv_rows.specs.model.Phases.MoveAt.{LoadEra, LoadRequest, ShowEra, LoadAsked, CheckEra, AnswerAsked, LoadReserved, HandOver, HideEra, HideLate, ExchangeClock}
use Rattle.inv_rows.specs.model.World.{World, step, begin, start, is_busy, gift_at, offered, finds}
use Rattle.inv_rows.proofs.model.Ranges.{bounds_of}
use Rattle.inv_rows.specs.words.Schemes.{helps}
use Rattle.inv_rows.proofs.Shapes.Tries.{helps_plain}
use Rattle.inv_rows.specs.Shapes.Seats.{kind_of, suits, base_fits, protect_fits, Seats, PostFits, PhaseFits, Shaped, root_by}
use Rattle.inv_rows.proofs.Shapes.Inside.{shape_moves}
use Rattle.inv_rows.proofs.Shapes.Kept.{counted_fits, run_counted, work_counted}
use Rattle.inv_rows.specs.Covering.Requests.Views.{View, Role, Role as roles, Deal}
use Rattle.inv_rows.specs.Covering.Requests.Views.Deal.{Quiet}
use Rattle.inv_rows.specs.Covering.Requests.Roles.{is_turn}
use Rattle.inv_rows.specs.Covering.Requests.Paces.{paced, base_paced, phase_paced, first_paced, Paces}
use Rattle.inv_rows.specs.Covering.Requests.Standing.{has_failed, protect_role, move_role, base_role, role_of, Facts, is_there}
use Rattle.inv_rows.specs.Covering.Requests.NextDeals.{protect_deals, move_deals, base_deals, phase_deals, next_deals}
use Rattle.inv_rows.specs.Covering.Requests.Turns.{Dealt, Made, StandsAfter}
use Rattle.inv_rows.specs.Covering.Requests.Context.{At, guards_there, phase_there}
use Rattle.inv_rows.specs.Covering.Requests.Needs.{Needs, head_fits, heads_fit}
use Rattle.inv_rows.proofs.Shapes.Frame.{begun_seated}
use Rattle.inv_rows.proofs.Covering.Requests.Words.{no_halves}
use Rattle.inv_rows.proofs.Covering.Requests.Turns.{each_work_role, guards_some, away, locals_turn}
use Rattle.inv_rows.proofs.Covering.Requests.Going.{own_post, same_role}
use Rattle.inv_rows.proofs.Covering.Requests.Asking.{load_clock, publish_era, load_link, check_clock, publish_ask, load_own_clock, publish_helper, load_own_link, check_own_clock}
use Rattle.inv_rows.proofs.Covering.Requests.Answering.{exchange_own, load_answer, take_answer, withdraw_request, withdraw_helper}
use Rattle.inv_rows.proofs.Covering.Requests.Helping.{load_era}
use Rattle.inv_rows.proofs.Covering.Requests.Serving.{load_request, show_era, load_asked, check_era}
use Rattle.inv_rows.proofs.Covering.Requests.Handing.{answer_asked, load_reserved, exchange_index, hide_era, hide_late, exchange_clock}
use Rattle.inv_rows.proofs.Covering.Requests.Resting.{hazard_made, begin_made, within_made, upper_made, raise_made, reload_made, clear_made, finish_made, release_made, allocate_made, write_made, give_up_made, retire_made, scan_made, idle_made}
use Rattle.inv_rows.proofs.Covering.Requests.Copying.{found_by, own_made}
use Rattle.inv_rows.proofs.Shapes.Written.{index_few, task_there}
use Rattle.inv_rows.proofs.model.Facts.{zero_either}

fresh : (steps : ℕ) (tries : Tries) → first_paced steps tries ≡ true → has_failed tries ≡ false
fresh steps Endless h = refl
fresh steps (Failed count) h = grind (arith, nat_tests)

protect_made : {Q : Post → Type 0} {P : Post → Phase → Type 0} (mem : Place → ℕ) (seat : ℕ → Local) (i : ℕ) (v : View) (why : Why) (aim : Aim) (index : ℕ) (root : Root) (steps n : ℕ) (at : ProtectAt) → At mem seat i v → (seat i).phase ≡ Runs why (bases.Protect aim index root steps at) → protect_fits (seat i).post.layout.config.scheme (seat i).post.layout.config.tries at ≡ true → paced (seat i).post.layout.config steps at ≡ true
    → Moves Q P why (protect_turn aim index root n at (counted (seat i).post) (found_by mem (protect_move index root at (seat i).post)))
    → Made mem seat i (protect_move index root at (seat i).post) (run_turn why (seat i).desk (protect_turn aim index root n at (counted (seat i).post) (found_by mem (protect_move index root at (seat i).post)))) (protect_deals mem i (seat i).post index root at v.deal)
protect_made mem seat i v why aim index root steps n (LoadClock tries) a q f p m = load_clock mem seat i v why aim index root steps n tries a q (fresh steps tries p)
protect_made mem seat i v why aim index root steps n (PublishEra era tries) a q f p m = publish_era mem seat i v why aim index root steps n era tries a q
protect_made mem seat i v why aim index root steps n (LoadLink era tries) a q f p m = load_link mem seat i v why aim index root steps n era tries a q
protect_made mem seat i v why aim index root steps n (CheckClock era tries link) a q f p m = check_clock mem seat i v why aim index root steps n era link tries a q m
protect_made mem seat i v why aim index root steps n PublishRequest a q f p m = publish_ask mem seat i v why aim index root steps n a q
protect_made mem seat i v why aim index root steps n LoadOwnClock a q f p m = load_own_clock mem seat i v why aim index root steps n a q
protect_made mem seat i v why aim index root steps n (PublishHelper first era last) a q f p m = publish_helper mem seat i v why aim index root steps n first era last a q
protect_made mem seat i v why aim index root steps n (LoadOwnLink first era last) a q f p m = load_own_link mem seat i v why aim index root steps n first era last a q
protect_made mem seat i v why aim index root steps n (CheckOwnClock first era last link) a q f p m = check_own_clock mem seat i v why aim index root steps n first era link last a q
protect_made mem seat i v why aim index root steps n (AnswerOwn first era link) a q f p m = exchange_own mem seat i v why aim index root steps n first era link a q
protect_made mem seat i v why aim index root steps n (LoadAnswer first) a q f p m = load_answer mem seat i v why aim index root steps n first a q
protect_made mem seat i v why aim index root steps n (TakeAnswer link era) a q f p m = take_answer mem seat i v why aim index root steps n link era a q
protect_made mem seat i v why aim index root steps n (WithdrawRequest link era) a q f p m = withdraw_request mem seat i v why aim index root steps n link era a q
protect_made mem seat i v why aim index root steps n (WithdrawHelper link era) a q f p m = withdraw_helper mem seat i v why aim index root steps n link era a q m
protect_made mem seat i v why aim index root steps n LoadWithin a q f p m = within_made mem seat i v why aim index root steps n (mem (link_place root)) a q m
protect_made mem seat i v why aim index root steps n (CheckUpper link) a q f p m = upper_made mem seat i v why aim index root steps n link (mem Clock) a q m
protect_made mem seat i v why aim index root steps n (RaiseUpper era) a q f p m = raise_made mem seat i v why aim index root steps n era 0 a q m
protect_made mem seat i v why aim index root steps n (ByHazard at) a q f p m = hazard_made mem seat i v why aim index root steps n at (found_by mem (hazard_move index root at (seat i).post)) a q f m

move_made : {Q : Post → Type 0} {P : Post → Phase → Type 0} (mem : Place → ℕ) (seat : ℕ → Local) (i : ℕ) (v : View) (why : Why) (at : MoveAt) → At mem seat i v → (seat i).phase ≡ Runs why (bases.Move at) → base_fits (seat i).post.layout.config (bases.Move at) ≡ true
    → Moves Q P why (move_turn at (counted (seat i).post) (found_by mem (move_move at (seat i).post)))
    → Made mem seat i (move_move at (seat i).post) (run_turn why (seat i).desk (move_turn at (counted (seat i).post) (found_by mem (move_move at (seat i).post)))) (move_deals mem i (seat i).post at v.deal)
move_made mem seat i v why (LoadEra helps) a q f m = load_era mem seat i v why helps a q f m
move_made mem seat i v why (LoadRequest e k shown) a q f m = load_request mem seat i v why e k shown a q
move_made mem seat i v why (ShowEra e k t j root) a q f m = show_era mem seat i v why e k t j root a q
move_made mem seat i v why (LoadAsked e k t j root) a q f m = load_asked mem seat i v why e k t j root a q
move_made mem seat i v why (CheckEra e k t j root link) a q f m = check_era mem seat i v why e k t j root link a q
move_made mem seat i v why (AnswerAsked e k t j root link) a q f m = answer_asked mem seat i v why e k t j root link a q
move_made mem seat i v why (LoadReserved e k t j root link) a q f m = load_reserved mem seat i v why e k t j root link a q (helps_plain (seat i).post.layout.config.scheme (nat_lt k (seat i).post.layout.config.seats) f)
move_made mem seat i v why (HandOver e k t j root link old) a q f m = exchange_index mem seat i v why e k t j root link old a q (helps_plain (seat i).post.layout.config.scheme (nat_lt k (seat i).post.layout.config.seats) f)
move_made mem seat i v why (HideEra e) a q f m = hide_era mem seat i v why e a q
move_made mem seat i v why (HideLate seen) a q f m = hide_late mem seat i v why seen a q m
move_made mem seat i v why (ExchangeClock e) a q f m = exchange_clock mem seat i v why e a q m

base_made : {Q : Post → Type 0} {P : Post → Phase → Type 0} (mem : Place → ℕ) (seat : ℕ → Local) (i : ℕ) (v : View) (why : Why) (base : Base) → At mem seat i v → (seat i).phase ≡ Runs why base → base_fits (seat i).post.layout.config base ≡ true → base_paced (seat i).post.layout.config base ≡ true
    → Moves Q P why (after base (counted (seat i).post) (found_by mem (base_move base (seat i).post)))
    → Made mem seat i (base_move base (seat i).post) (run_turn why (seat i).desk (after base (counted (seat i).post) (found_by mem (base_move base (seat i).post)))) (base_deals mem i (seat i).post base v.deal)
base_made mem seat i v why (bases.Begin at) a q f p m = begin_made mem seat i v why at (found_by mem (base_move (bases.Begin at) (seat i).post)) a q m
base_made mem seat i v why (bases.Protect aim index root steps at) a q f p m = protect_made mem seat i v why aim index root steps (bump steps) at a q f p m
base_made mem seat i v why (bases.Reload parent index slot era steps) a q f p m = reload_made mem seat i v why parent index slot era steps (found_by mem (base_move (bases.Reload parent index slot era steps) (seat i).post)) a q m
base_made mem seat i v why (bases.Clear rows index) a q f p m = clear_made mem seat i v why rows index (found_by mem (base_move (bases.Clear rows index) (seat i).post)) a q f m
base_made mem seat i v why bases.Finish a q f p m = finish_made mem seat i v why (found_by mem (base_move bases.Finish (seat i).post)) a q m
base_made mem seat i v why (bases.Release index) a q f p m = release_made mem seat i v why index (found_by mem (base_move (bases.Release index) (seat i).post)) a q m
base_made mem seat i v why (bases.Allocate at) a q f p m = allocate_made mem seat i v why at (found_by mem (base_move (bases.Allocate at) (seat i).post)) a q m
base_made mem seat i v why (bases.Write slot row place) a q f p m = write_made mem seat i v why slot row place (found_by mem (base_move (bases.Write slot row place) (seat i).post)) a q m
base_made mem seat i v why (bases.GiveUp slot) a q f p m = give_up_made mem seat i v why slot (found_by mem (base_move (bases.GiveUp slot) (seat i).post)) a q m
base_made mem seat i v why (bases.Retire at) a q f p m = retire_made mem seat i v why at (found_by mem (base_move (bases.Retire at) (seat i).post)) a q m
base_made mem seat i v why (bases.Move at) a q f p m = move_made mem seat i v why at a q f m

-- a step of a seat, whose shape is that of its table
phase_made : (mem : Place → ℕ) (seat : ℕ → Local) (i : ℕ) (v : View) (layout : Layout) (phase : Phase) → is_valid layout ≡ true → (seat i).post.layout ≡ layout → PostFits layout i (seat i).post → PhaseFits layout (seat i).post phase → phase_paced layout.config phase ≡ true → At mem seat i v → (seat i).phase ≡ phase
    → Made mem seat i (phase_move phase (seat i).post) (phase_turn phase (counted (seat i).post) (seat i).desk (found_by mem (phase_move phase (seat i).post))) (phase_deals mem i (seat i).post phase v.deal)
phase_made mem seat i v layout Idle y t s f p a q =
    idle_made mem seat i v (phase_turn Idle (counted (seat i).post) (seat i).desk (mem Clock)) a q (record { post = own_post mem seat i v a; phase = record { is = refl; there = refl } })
phase_made mem seat i v layout (Runs why base) y t s f p a q =
    base_made mem seat i v why base a q
    (subst (λ (l : Layout). base_fits l.config base ≡ true) (sym t) f.fits)
    (subst (λ (l : Layout). base_paced l.config base ≡ true) (sym t) p)
    (shape_moves layout i y why base (counted (seat i).post) (found_by mem (base_move base (seat i).post)) (counted_fits layout i (seat i).post s) (run_counted layout why base (seat i).post f))
phase_made mem seat i v layout (Scans later at) y t s f p a q = scan_made mem seat i v later at (found_by mem (phase_move (Scans later at) (seat i).post)) a q
phase_made mem seat i v layout (Works work) y t s f p a q = own_made mem seat i v work a q (work_counted work (seat i).post f)

root_by_there : (layout : Layout) (why : Why) → 1 ≤ layout.config.buckets → head_fits layout.config why ≡ true → has layout (link_place (root_by layout.config.buckets why)) ≡ true
root_by_there layout (Opens task) b h = task_there layout task b
root_by_there layout (FollowsHead head tail) b h = grind (arith, nat_tests)
root_by_there layout why b h = refl

base_inside : (layout : Layout) (why : Why) (base : Base) → is_valid layout ≡ true → suits base (kind_of why) ≡ true → Shaped layout.config.buckets why base → head_fits layout.config why ≡ true → guards_there layout base ≡ true
base_inside layout why (bases.Begin at) y u s h = refl
base_inside layout why (bases.Protect aim index root steps at) y u s h =
    let b = bounds_of layout y in
    let r = ap (λ (x : Root). has layout (link_place x)) s.of ∙ root_by_there layout why (b.buckets.0) h in
    let x : index ≤ 2 = omega (arith, index_few why u, s.at) in
    let z : nat_lt index layout.config.indexes ≡ true = grind (arith, nat_tests, b.indexes) in
    both z r
  where
    both : nat_lt index layout.config.indexes ≡ true → has layout (link_place root) ≡ true → (nat_lt index layout.config.indexes && has layout (link_place root)) ≡ true
    both z r = rw z r
base_inside layout why (bases.Reload parent index slot era steps) y u s h = refl
base_inside layout why (bases.Clear rows index) y u s h = refl
base_inside layout why bases.Finish y u s h = refl
base_inside layout why (bases.Release index) y u s h = refl
base_inside layout why (bases.Allocate at) y u s h = refl
base_inside layout why (bases.Write slot row place) y u s h = refl
base_inside layout why (bases.GiveUp slot) y u s h = refl
base_inside layout why (bases.Retire at) y u s h = refl
base_inside layout why (bases.Move at) y u s h = refl

phase_inside : (layout : Layout) (phase : Phase) (post : Post) → is_valid layout ≡ true → PhaseFits layout post phase → heads_fit layout.config phase ≡ true → phase_there layout phase ≡ true
phase_inside layout Idle post y f h = refl
phase_inside layout (Runs why base) post y f h = base_inside layout why base y f.suited f.shape h
phase_inside layout (Scans later at) post y f h = refl
phase_inside layout (Works work) post y f h = refl

-- own turns are made under Wait-Free Eras alone
protect_alone : (layout : Layout) (index : ℕ) (root : Root) (at : ProtectAt) → protect_fits layout.config.scheme layout.config.tries at ≡ true → helps layout.config.scheme ≡ false → is_turn (protect_role layout index root at) ≡ false
protect_alone layout index root (LoadClock tries) f h = refl
protect_alone layout index root (PublishEra era tries) f h = refl
protect_alone layout index root (LoadLink era tries) f h = refl
protect_alone layout index root (CheckClock era tries link) f h = refl
protect_alone layout index root PublishRequest f h = refl
protect_alone layout index root LoadOwnClock f h = refl
protect_alone layout index root (PublishHelper first era last) f h = absurd (cc)
protect_alone layout index root (LoadOwnLink first era last) f h = absurd (cc)
protect_alone layout index root (CheckOwnClock first era last link) f h = absurd (cc)
protect_alone layout index root (AnswerOwn first era link) f h = absurd (cc)
protect_alone layout index root at f h = refl

move_alone : (layout : Layout) (at : MoveAt) → is_turn (move_role layout at) ≡ false
move_alone layout (LoadEra helps) = refl
move_alone layout (LoadRequest e k shown) = refl
move_alone layout (ShowEra e k t j r) = refl
move_alone layout (LoadAsked e k t j r) = refl
move_alone layout (CheckEra e k t j r link) = refl
move_alone layout (AnswerAsked e k t j r link) = refl
move_alone layout (LoadReserved e k t j r link) = refl
move_alone layout (HandOver e k t j r link old) = refl
move_alone layout (HideEra e) = refl
move_alone layout (HideLate seen) = refl
move_alone layout (ExchangeClock e) = refl

base_alone : (layout : Layout) (base : Base) → base_fits layout.config base ≡ true → helps layout.config.scheme ≡ false → is_turn (base_role layout base) ≡ false
base_alone layout (bases.Begin at) f h = refl
base_alone layout (bases.Protect aim index root steps at) f h = protect_alone layout index root at f h
base_alone layout (bases.Reload parent index slot era steps) f h = refl
base_alone layout (bases.Clear rows index) f h = refl
base_alone layout bases.Finish f h = refl
base_alone layout (bases.Release index) f h = refl
base_alone layout (bases.Allocate at) f h = refl
base_alone layout (bases.Write slot row place) f h = refl
base_alone layout (bases.GiveUp slot) f h = refl
base_alone layout (bases.Retire at) f h = refl
base_alone layout (bases.Move at) f h = move_alone layout at

phase_alone : (layout : Layout) (phase : Phase) (post : Post) → PhaseFits layout post phase → helps layout.config.scheme ≡ false → is_turn (role_of layout phase) ≡ false
phase_alone layout Idle post f h = refl
phase_alone layout (Runs why base) post f h = base_alone layout base f.fits h
phase_alone layout (Scans later at) post f h = refl
phase_alone layout (Works work) post f h = each_work_role layout work (λ (r : Role). is_turn r ≡ false) refl (λ from era. refl)

-- a seat of a World that is to step
pub at_of : (w : World) (i : ℕ) (v : View) → is_valid w.layout ≡ true → i < w.layout.config.seats → Seats w → Needs w → Facts w.layout w.mem w.seat v → At w.mem w.seat i v
at_of w i v y b s n f =
    let e = sym (s.fits i).post.layout in
    record {
      facts = subst (λ (l : Layout). Facts l w.mem w.seat v) e f;
      below = subst (λ (l : Layout). i < l.config.seats) e b;
      number = (s.fits i).post.seat;
      eight = (s.fits i).post.tags;
      valid = subst (λ (l : Layout). is_valid l ≡ true) e y;
      inside = λ k. subst (λ (l : Layout). phase_there l (w.seat k).phase ≡ true) e (phase_inside w.layout (w.seat k).phase (w.seat k).post y (s.fits k).phase (n.heads k));
      links = λ root h. subst (λ (l : Layout). w.mem (link_place root) ≤ l.config.slots + 1) e (n.links root (subst (λ (l : Layout). has l (link_place root) ≡ true) (sym e) h));
      alone = λ k h. subst (λ (r : Role). is_turn r ≡ false) (f.locals.roles k) (phase_alone w.layout (w.seat k).phase (w.seat k).post (s.fits k).phase (subst (λ (l : Layout). helps l.config.scheme ≡ false) (sym e) h));
    }

-- the list that the seat may take over is laid into the desks; requests and helping know none
abbrev laid : World → ℕ → ℕ → Local
laid w i = λ k. record (w.seat k) { desk = record (w.seat k).desk { gift = gift_at w.seat (w.seat i).phase } }

laid_facts : (w : World) (i : ℕ) (layout : Layout) (v : View) → Facts layout w.mem w.seat v → Facts layout w.mem (laid w i) v
laid_facts w i layout v f = record { words = f.words; locals = record { tags = f.locals.tags; roles = f.locals.roles; there = f.locals.there }; parts = f.parts }

laid_at : (w : World) (i : ℕ) (v : View) → At w.mem w.seat i v → At w.mem (laid w i) i v
laid_at w i v a = record { facts = laid_facts w i (w.seat i).post.layout v a.facts; below = a.below; number = a.number; eight = a.eight; valid = a.valid; inside = a.inside; links = a.links; alone = a.alone }

-- a fact of the seats after a step, but for the desks
unlaid : (w : World) (i : ℕ) (l : Local) (P : ℕ → Post → Phase → Type 0) → ((k : ℕ) → P k (upd (laid w i) i l k).post (upd (laid w i) i l k).phase) → (k : ℕ) → P k (upd w.seat i l k).post (upd w.seat i l k).phase
unlaid w i l P h k = by (k == i) (h k)
  where
    by : (b : Bool) → P k (if b then l else laid w i k).post (if b then l else laid w i k).phase → P k (if b then l else w.seat k).post (if b then l else w.seat k).phase
    by true p = p
    by false p = p

unlaid_facts : (w : World) (i : ℕ) (l : Local) (layout : Layout) (mem : Place → ℕ) (v : View) → Facts layout mem (upd (laid w i) i l) v → Facts layout mem (upd w.seat i l) v
unlaid_facts w i l layout mem v f = record {
  words = f.words;
  locals = record {
    tags = λ k j. unlaid w i l (λ n post phase. tag_of post j ≡ v.tag n j) (λ n. f.locals.tags n j) k;
    roles = unlaid w i l (λ n post phase. role_of layout phase ≡ v.role n) f.locals.roles;
    there = unlaid w i l (λ n post phase. is_there layout phase ≡ true) f.locals.there;
  };
  parts = f.parts;
}

unlaid_dealt : (w : World) (i : ℕ) (l : Local) (layout : Layout) (mem : Place → ℕ) (deals : ℕ → Deal) → (v : View) × Dealt layout mem (upd (laid w i) i l) deals v → (v : View) × Dealt layout mem (upd w.seat i l) deals v
unlaid_dealt w i l layout mem deals (v, d) = (v, record { facts = unlaid_facts w i l layout mem v d.facts; deal = d.deal })

-- one step of a seat
pub requests_step : (w : World) (i : ℕ) (v : View) → is_valid w.layout ≡ true → i < w.layout.config.seats → Seats w → Paces w → Needs w → Facts w.layout w.mem w.seat v → StandsAfter (step w i) (next_deals w i v.deal)
requests_step w i v y b s p n f =
    let q = s.fits i in
    let e = q.post.layout in
    subst (λ (l : Layout). (u : View) × Dealt l (step w i).mem (step w i).seat (next_deals w i v.deal) u) e
    (unlaid_dealt w i (settled (offered w i) (turn (offered w i) (finds w i))) (w.seat i).post.layout (step w i).mem (next_deals w i v.deal)
    (phase_made w.mem (laid w i) i v w.layout (w.seat i).phase y e q.post q.phase (p.paced i) (laid_at w i v (at_of w i v y b s n f)) refl))

-- a seat between calls
pub idle_of : (phase : Phase) → busy_in phase ≡ false → phase ≡ Idle
idle_of Idle h = refl
idle_of phase h = absurd (cc)

begun_made : (mem : Place → ℕ) (seat : ℕ → Local) (i : ℕ) (v : View) (call : Call) → is_valid (seat i).post.layout ≡ true → (seat i).phase ≡ Idle → Facts (seat i).post.layout mem seat v
    → (u : View) × Dealt (seat i).post.layout mem (upd seat i (begun (seat i) call)) v.deal u
begun_made mem seat i v call y q f = (
  record v { role = upd v.role i roles.Away },
  record {
    facts = record {
      words = f.words;
      locals = locals_turn (seat i).post.layout seat v.tag v.role i (begun (seat i) call) roles.Away f.locals
          (begun_seated (away (seat i).post.layout (seat i).post.tags) (seat i) call (record { table = refl; guarded = guards_some (seat i).post.layout.config (bounds_of (seat i).post.layout y); kept = refl }));
      parts = same_role (seat i).post.layout.config v i roles.Away f.parts (sym (f.locals.roles i) ∙ ap (role_of (seat i).post.layout) q);
    };
    deal = refl;
  },
)

-- a call begins
pub requests_begin : (w : World) (i : ℕ) (call : Call) (v : View) → is_valid w.layout ≡ true → is_busy w i ≡ false → Seats w → Facts w.layout w.mem w.seat v → StandsAfter (begin w i call) v.deal
requests_begin w i call v y q s f =
    let e = (s.fits i).post.layout in
    subst (λ (l : Layout). (u : View) × Dealt l (begin w i call).mem (begin w i call).seat v.deal u) e
    (begun_made w.mem w.seat i v call (subst (λ (l : Layout). is_valid l ≡ true) (sym e) y) (idle_of (w.seat i).phase q) (subst (λ (l : Layout). Facts l w.mem w.seat v) (sym e) f))

-- the first view
abbrev pub first_view : View
first_view = record { clock = 1; helper = λ k. 0; era = λ k j. 0; mark = λ k j. 0; tag = λ k j. 0; deal = λ k. Quiet; role = λ k. roles.Away }

no_tag : (layout : Layout) (k j : ℕ) → tag_of (new_post k layout) j ≡ 0
no_tag layout k j = grind (arith, nat_tests)

pub requests_start : (layout : Layout) → is_valid layout ≡ true → StandsAfter (start layout) (λ k. Quiet)
requests_start layout y =
    let b = bounds_of layout y in (
      first_view,
      record {
        facts = record {
          words = record {
            clocks = refl;
            helpers = λ k. zero_either (has layout (Helper k)) ∙ sym no_halves;
            indexes = λ p k j. zero_either (has layout (Index k j)) ∙ sym no_halves;
            requests = λ k. zero_either (has layout (Request k));
          };
          locals = record { tags = λ k j. no_tag layout k j; roles = λ k. refl; there = λ k. refl };
          parts = record {
            fit = λ i. refl;
            marks = λ i j. refl;
            tags = λ i. refl;
            taken = λ i. refl;
            timely = λ i. refl;
            clock = omega (arith, b.eras);
            eras = λ i. omega arith;
            helpers = λ i. omega arith;
            indexes = λ i j. omega arith;
            movers = λ i h. absurd (cc);
            links = λ i. omega arith;
            shown = λ i. refl;
            published = λ i. refl;
            turns = λ i. refl;
            low = λ i j. omega arith;
            spare = λ i. refl;
            answer = λ i. refl;
            known = λ m. refl;
            whom = λ m. refl;
            bound = λ i h g. absurd (cc);
            passed = λ i m h g a c. absurd (cc);
            outside = λ i h. refl;
          };
        };
        deal = refl;
      },
    )
