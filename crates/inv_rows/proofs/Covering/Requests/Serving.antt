-- A mover at the requests of the other seats: it reads, answers and hands over.
use Rattle.std.proofs.Common.{ℕ, ◌≡◌, ◌≤◌, ◌<◌, ◌+◌, ◌^◌, Bool, true, false, [], arith, refl, sym, ap, ◌∙◌}
use Rattle.std.proofs.lemmas.Bool.Decides.{nat_tests}
use Rattle.std.specs.Prelude.{◌==◌, Some}
use Rattle.inv_rows.specs.words.Place.{Place}
use Rattle.inv_rows.specs.words.Place.Place.{Clock, Request}
use Rattle.inv_rows.specs.defs.declared.event.Root.{Root}
use Rattle.inv_rows.specs.model.Links.{link_place, link_number, root_at}
use Rattle.inv_rows.specs.model.Memory.{upd, written, put, Move}
use Rattle.inv_rows.specs.model.Memory as memory
use Rattle.inv_rows.specs.model.Posts.{counted, helper_word, reserves_helper}
use Rattle.inv_rows.specs.model.Phases.{MoveAt, Turn, goes, Base as bases}
use Rattle.inv_rows.specs.model.Calls.{Why, Runs}
use Rattle.inv_rows.specs.model.Steps.{run_turn}
use Rattle.inv_rows.specs.model.Locals.{Local}
use Rattle.inv_rows.specs.model.Machine.{move_move, move_turn}
use Rattle.inv_rows.specs.words.Packed.{read_request, answered_word}
use Rattle.inv_rows.specs.words.declared.config.Config.{Config}
use Rattle.inv_rows.specs.words.declared.packed.Request.TheVariants as requests
use Rattle.inv_rows.proofs.words.Parts.{read_request-pending, read_request-answered}
use Rattle.inv_rows.proofs.model.Ranges.{bounds_of}
use Rattle.inv_rows.proofs.model.Roots.{root_at_link}
use Rattle.inv_rows.specs.model.Phases.MoveAt.{LoadRequest, ShowEra, LoadAsked, CheckEra, AnswerAsked, HideLate}
use Rattle.inv_rows.specs.model.MoveClock.{next_request, met, helping}
use Rattle.inv_rows.specs.Covering.Requests.Views.{View, Deal, Role as roles}
use Rattle.inv_rows.specs.Covering.Requests.Views.Deal.{Quiet, Open, Answered, Passed, Taken}
use Rattle.inv_rows.specs.Covering.Requests.Deals.{is_open}
use Rattle.inv_rows.specs.Covering.Requests.Parts.{Parts}
use Rattle.inv_rows.specs.Covering.Requests.Standing.{move_role, asked_there, is_there, request_of}
use Rattle.inv_rows.specs.Covering.Requests.Turns.{Made}
use Rattle.inv_rows.specs.Covering.Requests.Context.{At}
use Rattle.inv_rows.specs.Covering.Requests.Asked.{Asker}
use Rattle.inv_rows.proofs.Covering.Requests.Words.{words_helper}
use Rattle.inv_rows.proofs.Covering.Requests.Movers as mover
use Rattle.inv_rows.proofs.Covering.Requests.Helping.{last_role, next_go, asker_of}
use Rattle.inv_rows.proofs.Covering.Requests.Going.{stands_in, link_few, go}
use Rattle.inv_rows.proofs.model.Facts.{if_by}

-- an idle request word
pub read_idle : read_request 0 ≡ Some requests.Idle
unfolding read_request
read_idle = refl

-- an answered one
read_answered : (mem : Place → ℕ) (seat : ℕ → Local) (i : ℕ) (v : View) (link era : ℕ) → At mem seat i v → 0 < era → era ≤ v.clock → link ≤ (seat i).post.layout.config.slots + 1 → read_request (answered_word link era) ≡ Some (requests.Answered link era)
read_answered mem seat i v link era a s e l =
    let b = bounds_of (seat i).post.layout a.valid in
    read_request-answered link era (omega (arith, b.slots)) s (omega (arith, a.facts.parts.clock, b.eras))

-- 2. A request word is loaded that is not pending.
passes_next : (c : Config) (v : View) (x e k : ℕ) (shown : Bool) → x < c.seats → Parts c v → v.role x ≡ roles.Meets e k shown → is_open (v.deal k) ≡ false → k + 1 < c.seats → Parts c (record v { role = upd v.role x (roles.Meets e (k + 1) shown) })
passes_next c v x e k true b d q o h = mover.passes_next_shown-keeps c v x e k b d q o h
passes_next c v x e k false b d q o h = mover.passes_next_plain-keeps c v x e k b d q o h

passes_last : (c : Config) (v : View) (x e k : ℕ) (shown : Bool) → x < c.seats → Parts c v → v.role x ≡ roles.Meets e k shown → is_open (v.deal k) ≡ false → c.seats ≤ k + 1 → Parts c (record v { role = upd v.role x (last_role e shown) })
passes_last c v x e k true b d q o h = mover.passes_last_shown-keeps c v x e k b d q o h
passes_last c v x e k false b d q o h = mover.passes_last_plain-keeps c v x e k b d q o h

pass_request : (mem : Place → ℕ) (seat : ℕ → Local) (i : ℕ) (v : View) (why : Why) (e k : ℕ) (shown : Bool) → At mem seat i v → (seat i).phase ≡ Runs why (bases.Move (LoadRequest e k shown)) → is_open (v.deal k) ≡ false → met (counted (seat i).post) e k shown (read_request (mem (Request k))) ≡ next_request (counted (seat i).post) e k shown
    → Made mem seat i (memory.Load (Request k)) (run_turn why (seat i).desk (move_turn (LoadRequest e k shown) (counted (seat i).post) (mem (Request k)))) v.deal
pass_request mem seat i v why e k shown a q o g =
    let r = stands_in mem seat i v (Runs why (bases.Move (LoadRequest e k shown))) a q in
    next_go mem seat i v (memory.Load (Request k)) why [] e k shown (met (counted (seat i).post) e k shown (read_request (mem (Request k)))) v a g refl a.facts.words
    (passes_next (seat i).post.layout.config v i e k shown a.below a.facts.parts r o)
    (passes_last (seat i).post.layout.config v i e k shown a.below a.facts.parts r o)

-- A pending one is loaded.
meet_request : (mem : Place → ℕ) (seat : ℕ → Local) (i : ℕ) (v : View) (why : Why) (e k t j w : ℕ) (shown : Bool) → At mem seat i v → (seat i).phase ≡ Runs why (bases.Move (LoadRequest e k shown)) → v.deal k ≡ Open t j w
    → Made mem seat i (memory.Load (Request k)) (run_turn why (seat i).desk (move_turn (LoadRequest e k shown) (counted (seat i).post) (mem (Request k)))) v.deal
meet_request mem seat i v why e k t j w shown a q o =
    let r = stands_in mem seat i v (Runs why (bases.Move (LoadRequest e k shown))) a q in
    let s = asker_of mem seat i v k t j w a o in
    let n : w < 2 ^ 26 = rw (s.is) (link_few mem seat i v s.root a s.there) in
    let b = bounds_of (seat i).post.layout a.valid in
    let y : t + 1 < v.clock = grind (arith, nat_tests, rw o at (a.facts.parts.timely k)) in
    let z : read_request (mem (Request k)) ≡ Some (requests.Pending t j w) = ap read_request (a.facts.words.requests k ∙ ap request_of o) ∙ read_request-pending t j w (omega (arith, a.facts.parts.clock, b.eras)) (omega (arith, s.below, b.indexes)) n in
    let u : root_at (seat i).post.layout w ≡ s.root = ap (root_at (seat i).post.layout) s.is ∙ root_at_link (seat i).post.layout s.root s.there in
    let x : met (counted (seat i).post) e k shown (read_request (mem (Request k))) ≡ helping e k t j s.root shown = ap (met (counted (seat i).post) e k shown) z ∙ ap (λ (root : Root). helping e k t j root shown) u in
    meet_as shown r s x n
  where
    meet_as : (b : Bool) → v.role i ≡ roles.Meets e k b → (s : Asker (seat i).post.layout j w) → met (counted (seat i).post) e k shown (read_request (mem (Request k))) ≡ helping e k t j s.root b → w < 2 ^ 26
        → Made mem seat i (memory.Load (Request k)) (run_turn why (seat i).desk (move_turn (LoadRequest e k shown) (counted (seat i).post) (mem (Request k)))) v.deal
    meet_as true r s x n =
        go mem seat i v (memory.Load (Request k)) why [] (bases.Move (met (counted (seat i).post) e k shown (read_request (mem (Request k))))) (roles.Loads e k t j w 0) (record v { role = upd v.role i (roles.Loads e k t j w 0) }) a
        (ap (move_role (seat i).post.layout) x ∙ ap (λ (word : ℕ). roles.Loads e k t j word 0) (sym s.is)) (ap (asked_there (seat i).post.layout) x ∙ s.there) refl refl a.facts.words
        (mover.meets_shown-keeps (seat i).post.layout.config v i e k t j w a.below a.facts.parts r o s.below n)
    meet_as false r s x n =
        go mem seat i v (memory.Load (Request k)) why [] (bases.Move (met (counted (seat i).post) e k shown (read_request (mem (Request k))))) (roles.Shows e k t j w) (record v { role = upd v.role i (roles.Shows e k t j w) }) a
        (ap (move_role (seat i).post.layout) x ∙ ap (λ (word : ℕ). roles.Shows e k t j word) (sym s.is)) (ap (asked_there (seat i).post.layout) x ∙ s.there) refl refl a.facts.words
        (mover.meets_plain-keeps (seat i).post.layout.config v i e k t j w a.below a.facts.parts r o s.below n)

load_request_by : (mem : Place → ℕ) (seat : ℕ → Local) (i : ℕ) (v : View) (why : Why) (e k : ℕ) (shown : Bool) (d : Deal) → At mem seat i v → (seat i).phase ≡ Runs why (bases.Move (LoadRequest e k shown)) → v.deal k ≡ d
    → Made mem seat i (memory.Load (Request k)) (run_turn why (seat i).desk (move_turn (LoadRequest e k shown) (counted (seat i).post) (mem (Request k)))) v.deal
load_request_by mem seat i v why e k shown Quiet a q o =
    pass_request mem seat i v why e k shown a q (ap is_open o) (ap (met (counted (seat i).post) e k shown) (ap read_request (a.facts.words.requests k ∙ ap request_of o) ∙ read_idle))
load_request_by mem seat i v why e k shown (Open t j w) a q o = meet_request mem seat i v why e k t j w shown a q o
load_request_by mem seat i v why e k shown (Answered t j w l r m) a q o =
    let y = rw o at (a.facts.parts.timely k) in
    pass_request mem seat i v why e k shown a q (ap is_open o) (ap (met (counted (seat i).post) e k shown) (ap read_request (a.facts.words.requests k ∙ ap request_of o) ∙ read_answered mem seat i v l r a (grind (arith, nat_tests, y)) (grind (arith, nat_tests, y)) (grind (arith, nat_tests, y))))
load_request_by mem seat i v why e k shown (Passed t j w l r) a q o =
    let y = rw o at (a.facts.parts.timely k) in
    pass_request mem seat i v why e k shown a q (ap is_open o) (ap (met (counted (seat i).post) e k shown) (ap read_request (a.facts.words.requests k ∙ ap request_of o) ∙ read_answered mem seat i v l r a (grind (arith, nat_tests, y)) (grind (arith, nat_tests, y)) (grind (arith, nat_tests, y))))
load_request_by mem seat i v why e k shown (Taken t j w l r) a q o =
    let y = rw o at (a.facts.parts.timely k) in
    pass_request mem seat i v why e k shown a q (ap is_open o) (ap (met (counted (seat i).post) e k shown) (ap read_request (a.facts.words.requests k ∙ ap request_of o) ∙ read_answered mem seat i v l r a (grind (arith, nat_tests, y)) (grind (arith, nat_tests, y)) (grind (arith, nat_tests, y))))

pub load_request : (mem : Place → ℕ) (seat : ℕ → Local) (i : ℕ) (v : View) (why : Why) (e k : ℕ) (shown : Bool) → At mem seat i v → (seat i).phase ≡ Runs why (bases.Move (LoadRequest e k shown))
    → Made mem seat i (memory.Load (Request k)) (run_turn why (seat i).desk (move_turn (LoadRequest e k shown) (counted (seat i).post) (mem (Request k)))) v.deal
load_request mem seat i v why e k shown a q = load_request_by mem seat i v why e k shown (v.deal k) a q refl

-- the link that a mover is asked for is a word of the table
pub there_of : (mem : Place → ℕ) (seat : ℕ → Local) (i : ℕ) (v : View) (why : Why) (at : MoveAt) → At mem seat i v → (seat i).phase ≡ Runs why (bases.Move at) → asked_there (seat i).post.layout at ≡ true
there_of mem seat i v why at a q = sym (ap (is_there (seat i).post.layout) q) ∙ a.facts.locals.there i

-- 3. The helper word is stored.
pub show_era : (mem : Place → ℕ) (seat : ℕ → Local) (i : ℕ) (v : View) (why : Why) (e k t j : ℕ) (root : Root) → At mem seat i v → (seat i).phase ≡ Runs why (bases.Move (ShowEra e k t j root))
    → Made mem seat i (move_move (ShowEra e k t j root) (seat i).post) (run_turn why (seat i).desk (move_turn (ShowEra e k t j root) (counted (seat i).post) 0)) v.deal
show_era mem seat i v why e k t j root a q =
    go mem seat i v (move_move (ShowEra e k t j root) (seat i).post) why (reserves_helper (counted (seat i).post) e) (bases.Move (LoadAsked e k t j root)) (roles.Loads e k t j (link_number (seat i).post.layout root) 0)
    (record v { helper = upd v.helper i e; role = upd v.role i (roles.Loads e k t j (link_number (seat i).post.layout root) 0) }) a
    refl (there_of mem seat i v why (ShowEra e k t j root) a q) refl refl
    (words_helper mem v.clock v.helper v.era v.mark v.deal i (seat i).post.seat e (helper_word e) a.facts.words a.number refl)
    (mover.shows_era-keeps (seat i).post.layout.config v i e k t j (link_number (seat i).post.layout root) a.below a.facts.parts (stands_in mem seat i v (Runs why (bases.Move (ShowEra e k t j root))) a q))

-- 4. The link is loaded.
pub load_asked : (mem : Place → ℕ) (seat : ℕ → Local) (i : ℕ) (v : View) (why : Why) (e k t j : ℕ) (root : Root) → At mem seat i v → (seat i).phase ≡ Runs why (bases.Move (LoadAsked e k t j root))
    → Made mem seat i (memory.Load (link_place root)) (run_turn why (seat i).desk (move_turn (LoadAsked e k t j root) (counted (seat i).post) (mem (link_place root)))) v.deal
load_asked mem seat i v why e k t j root a q =
    go mem seat i v (memory.Load (link_place root)) why [] (bases.Move (CheckEra e k t j root (mem (link_place root)))) (roles.Loads e k t j (link_number (seat i).post.layout root) (mem (link_place root)))
    (record v { role = upd v.role i (roles.Loads e k t j (link_number (seat i).post.layout root) (mem (link_place root))) }) a
    refl (there_of mem seat i v why (LoadAsked e k t j root) a q) refl refl a.facts.words
    (mover.looks_asked-keeps (seat i).post.layout.config v i e k t j (link_number (seat i).post.layout root) 0 (mem (link_place root)) a.below a.facts.parts (stands_in mem seat i v (Runs why (bases.Move (LoadAsked e k t j root))) a q) (a.links root (there_of mem seat i v why (LoadAsked e k t j root) a q)))

-- 5. The clock is loaded again.
pub check_era : (mem : Place → ℕ) (seat : ℕ → Local) (i : ℕ) (v : View) (why : Why) (e k t j : ℕ) (root : Root) (link : ℕ) → At mem seat i v → (seat i).phase ≡ Runs why (bases.Move (CheckEra e k t j root link))
    → Made mem seat i (memory.Load Clock) (run_turn why (seat i).desk (move_turn (CheckEra e k t j root link) (counted (seat i).post) (mem Clock))) v.deal
check_era mem seat i v why e k t j root link a q =
    let r = stands_in mem seat i v (Runs why (bases.Move (CheckEra e k t j root link))) a q in
    if_by (mem Clock == e) (goes (counted (seat i).post) [] (bases.Move (AnswerAsked e k t j root link))) (goes (counted (seat i).post) [] (bases.Move (HideLate (mem Clock))))
    (λ (x : Turn). Made mem seat i (memory.Load Clock) (run_turn why (seat i).desk x) v.deal)
    (λ h. go mem seat i v (memory.Load Clock) why [] (bases.Move (AnswerAsked e k t j root link)) (roles.Helps e k t j (link_number (seat i).post.layout root) link)
    (record v { role = upd v.role i (roles.Helps e k t j (link_number (seat i).post.layout root) link) }) a
    refl (there_of mem seat i v why (CheckEra e k t j root link) a q) refl refl a.facts.words
    (mover.checks-keeps (seat i).post.layout.config v i e k t j (link_number (seat i).post.layout root) link a.below a.facts.parts r (rw a.facts.words.clocks at h)))
    (λ h. go mem seat i v (memory.Load Clock) why [] (bases.Move (HideLate (mem Clock))) roles.Late
    (record v { role = upd v.role i roles.Late }) a
    refl refl refl refl a.facts.words
    (mover.is_late-keeps (seat i).post.layout.config v i e k t j (link_number (seat i).post.layout root) link a.below a.facts.parts r))
