-- The steps that a protection has still to come where nothing else is moved: each of its own leaves fewer.
use Rattle.std.proofs.Common.{ℕ, ◌≡◌, ◌≤◌, ◌+◌, Bool, true, false, [], Option, refl, sym, ◌∙◌, arith}
use Rattle.std.proofs.lemmas.Bool.Decides.{nat_tests}
use Rattle.std.specs.Prelude.{◌==◌, ◌&&◌, ◌||◌, nat_le, nat_lt, if◌then◌else◌}
use Rattle.law_held.specs.inv.model.defs.declared.event.Root.{Root}
use Rattle.law_held.specs.inv.model.defs.declared.lifetime.Interval.{Interval}
use Rattle.law_held.specs.inv.model.declared.post.Post.{Post}
use Rattle.law_held.specs.inv.model.Machine as machine
use Rattle.law_held.specs.inv.model.Phases.{Alone, Tries, Endless, Failed, HazardAt, ProtectAt, Base, Turn, Outcome, Goes, Ends, goes}
use Rattle.law_held.specs.inv.model.Phases.BeginAt.{LoadLower, PublishSpan}
use Rattle.law_held.specs.inv.model.Phases.HazardAt.{FirstLink, PublishLink, CheckLink}
use Rattle.law_held.specs.inv.model.Phases.ProtectAt.{LoadClock, PublishEra, LoadLink, CheckClock, LoadWithin, CheckUpper, RaiseUpper, ByHazard}
use Rattle.law_held.specs.inv.model.Phases.Base.{Begin, Protect}
use Rattle.law_held.specs.inv.model.Phases.Ending.{Protected}
use Rattle.law_held.specs.inv.model.Posts.{upper}
use Rattle.law_held.specs.inv.model.Protect.{protected, failed_once, trying}
use Rattle.law_held.specs.inv.model.words.Schemes.{counts_tries, has_one_interval, helps, is_wfe, publishes_rows, tries_by_clock}
use Rattle.law_held.specs.inv.model.words.declared.config.SchemeKind.{SchemeKind}
use Rattle.law_held.specs.inv.model.words.declared.config.SchemeKind.TheVariants.{He, Hp, Ibr, Wfe}
use Rattle.law_held.specs.inv.shapes.Seats.{protect_fits, tries_fit, try_fits}

-- more steps where what a seat shows is no longer what there is
abbrev pub late : (more seen now : ℕ) → ℕ
late more seen now = if seen == now then 0 else more

-- What a try that has to fail will cost: three steps of one that shows an era, where the clock has gone on; two of one that publishes a
-- link, where the root has another.
pub record Costs : Type 0 where
  pub era : ℕ → ℕ
  pub link : ℕ → ℕ

abbrev pub costs_of : (rows : Bool) → (clock root : ℕ) → Costs
costs_of true clock root = record { era = λ seen. 0; link = λ link. late 2 link root }
costs_of false clock root = record { era = λ seen. late 3 seen clock; link = λ link. 0 }

abbrev pub hazard_ahead : Costs → HazardAt → ℕ
hazard_ahead x FirstLink = 3
hazard_ahead x (PublishLink link) = 2 + x.link link
hazard_ahead x (CheckLink link) = 1 + x.link link

abbrev pub protect_ahead : Costs → Option Interval → ProtectAt → ℕ
protect_ahead x span (LoadClock tries) = 4
protect_ahead x span (PublishEra era tries) = 3 + x.era era
protect_ahead x span (LoadLink era tries) = 2 + x.era era
protect_ahead x span (CheckClock era tries link) = 1 + x.era era
protect_ahead x span LoadWithin = 2 + x.era (upper span)
protect_ahead x span (CheckUpper link) = 1 + x.era (upper span)
protect_ahead x span (RaiseUpper era) = 3 + x.era era
protect_ahead x span (ByHazard at) = hazard_ahead x at
protect_ahead x span at = 0

abbrev pub base_ahead : Costs → Option Interval → Base → ℕ
base_ahead x span (Begin LoadLower) = 4
base_ahead x span (Begin (PublishSpan era)) = 3 + x.era era
base_ahead x span (Protect aim index root made at) = protect_ahead x span at
base_ahead x span base = 0

-- what a protection's step leaves
abbrev pub LeavesFewer : Costs → Option Interval → (most : ℕ) → Outcome → Type 0
LeavesFewer x span most (Goes (Protect Alone index root made at)) = protect_ahead x span at + 1 ≤ most
LeavesFewer x span most (Goes base) = ⊥
LeavesFewer x span most (Ends (Protected ending)) = 1 ≤ most
LeavesFewer x span most (Ends ending) = ⊥

abbrev pub TurnFewer : Costs → (most : ℕ) → Turn → Type 0
TurnFewer x most t = LeavesFewer x t.post.span most t.outcome

-- what the step has found
abbrev pub at_loads : ProtectAt → (found clock root : ℕ) → Type 0
at_loads (LoadClock tries) found clock root = found ≡ clock
at_loads (CheckClock era tries link) found clock root = found ≡ clock
at_loads (CheckUpper link) found clock root = found ≡ clock
at_loads (ByHazard FirstLink) found clock root = found ≡ root
at_loads (ByHazard (CheckLink link)) found clock root = found ≡ root
at_loads at found clock root = Unit {0}

pub no_costs : (rows : Bool) (clock root seen : ℕ) → seen ≡ clock → (costs_of rows clock root).era seen ≡ 0
no_costs true clock root seen e = refl
no_costs false clock root seen e = let s : (seen == clock) ≡ true = grind (arith, nat_tests) in rw s refl

no_links : (rows : Bool) (clock root link : ℕ) → link ≡ root → (costs_of rows clock root).link link ≡ 0
no_links true clock root link e = let s : (link == root) ≡ true = grind (arith, nat_tests) in rw s refl
no_links false clock root link e = refl

era_costs : (rows : Bool) (clock root seen found : ℕ) → rows ≡ false → found ≡ clock → (found == seen) ≡ false → 3 ≤ (costs_of rows clock root).era seen
era_costs true clock root seen found r e d = absurd (cc)
era_costs false clock root seen found r e d = let s : (seen == clock) ≡ false = grind (arith, nat_tests) in rw s (omega arith)

link_costs : (rows : Bool) (clock root link found : ℕ) → rows ≡ true → found ≡ root → (found == link) ≡ false → 2 ≤ (costs_of rows clock root).link link
link_costs true clock root link found r e d = let s : (link == root) ≡ false = grind (arith, nat_tests) in rw s (omega arith)
link_costs false clock root link found r e d = absurd (cc)

turn_if : (x : Costs) (most : ℕ) (same : Bool) (t u : Turn) → (same ≡ true → TurnFewer x most t) → (same ≡ false → TurnFewer x most u) → TurnFewer x most (if same then t else u)
turn_if x most true t u h k = h refl
turn_if x most false t u h k = k refl

-- tries are counted under Wait-Free Eras alone
not_counted : (scheme : SchemeKind) (b : Bool) → is_wfe scheme ≡ false → (counts_tries scheme && b) ≡ false
not_counted He b h = refl
not_counted Ibr b h = refl
not_counted Wfe b h = absurd (cc)
not_counted Hp b h = refl

not_helped : (scheme : SchemeKind) → is_wfe scheme ≡ false → helps scheme ≡ false
not_helped He h = refl
not_helped Ibr h = refl
not_helped Wfe h = absurd (cc)
not_helped Hp h = refl

by_clock_eras : (scheme : SchemeKind) → tries_by_clock scheme ≡ true → publishes_rows scheme ≡ false
by_clock_eras He h = refl
by_clock_eras Ibr h = refl
by_clock_eras Wfe h = refl
by_clock_eras Hp h = absurd (cc)

one_interval_eras : (scheme : SchemeKind) → has_one_interval scheme ≡ true → publishes_rows scheme ≡ false
one_interval_eras He h = refl
one_interval_eras Ibr h = refl
one_interval_eras Wfe h = refl
one_interval_eras Hp h = absurd (cc)

publish_fewer : (x : Costs) (index : ℕ) (root : Root) (n era most : ℕ) (tries : Tries) (scheme : SchemeKind) (post : Post) (span : Option Interval) → is_wfe scheme ≡ false → tries_fit scheme most tries ≡ true → LeavesFewer x span (3 + x.era era) (Goes (Protect Alone index root n (trying post.layout.config era tries)))
publish_fewer x index root n era most Endless scheme post span f h = omega arith
publish_fewer x index root n era most (Failed count) scheme post span f h = absurd (let z = not_counted scheme (nat_le count most) f in cc)

check_fewer : (rows : Bool) (clock root index : ℕ) (link_root : Root) (n era most link found : ℕ) (tries : Tries) (scheme : SchemeKind) (post : Post) → publishes_rows scheme ≡ rows → is_wfe scheme ≡ false → try_fits scheme most tries ≡ true → found ≡ clock
    → TurnFewer (costs_of rows clock root) (1 + (costs_of rows clock root).era era) (machine.protect_turn Alone index link_root n (CheckClock era tries link) post found)
check_fewer rows clock root index link_root n era most link found Endless scheme post r f h e =
    turn_if (costs_of rows clock root) (1 + (costs_of rows clock root).era era) (found == era) (protected Alone index link_root n link era post) (goes post [] (Protect Alone index link_root n (PublishEra found (failed_once Endless))))
    (λ s. omega arith)
    (λ s. let a = no_costs rows clock root found e in let b = era_costs rows clock root era found (sym r ∙ by_clock_eras scheme h) e s in omega (arith, a, b))
check_fewer rows clock root index link_root n era most link found (Failed count) scheme post r f h e = absurd (let z = not_counted scheme (nat_lt count most) f in cc)

upper_fewer : (rows : Bool) (clock root index : ℕ) (link_root : Root) (n link found : ℕ) (scheme : SchemeKind) (post : Post) → publishes_rows scheme ≡ rows → has_one_interval scheme ≡ true → found ≡ clock
    → TurnFewer (costs_of rows clock root) (1 + (costs_of rows clock root).era (upper post.span)) (machine.protect_turn Alone index link_root n (CheckUpper link) post found)
upper_fewer rows clock root index link_root n link found scheme post r h e =
    turn_if (costs_of rows clock root) (1 + (costs_of rows clock root).era (upper post.span)) (found == upper post.span) (protected Alone index link_root n link found post) (goes post [] (Protect Alone index link_root n (RaiseUpper found)))
    (λ s. omega arith)
    (λ s. let a = no_costs rows clock root found e in let b = era_costs rows clock root (upper post.span) found (sym r ∙ one_interval_eras scheme h) e s in omega (arith, a, b))

hazard_fewer : (rows : Bool) (clock root index : ℕ) (link_root : Root) (n found : ℕ) (at : HazardAt) (post : Post) → rows ≡ true → at_loads (ByHazard at) found clock root → TurnFewer (costs_of rows clock root) (hazard_ahead (costs_of rows clock root) at) (machine.protect_turn Alone index link_root n (ByHazard at) post found)
hazard_fewer rows clock root index link_root n found FirstLink post r e =
    turn_if (costs_of rows clock root) 3 (found == 0) (protected Alone index link_root n found 0 post) (goes post [] (Protect Alone index link_root n (ByHazard (PublishLink found))))
    (λ s. omega arith)
    (λ s. let a = no_links rows clock root found e in omega (arith, a))
hazard_fewer rows clock root index link_root n found (PublishLink link) post r e = omega arith
hazard_fewer rows clock root index link_root n found (CheckLink link) post r e =
    turn_if (costs_of rows clock root) (1 + (costs_of rows clock root).link link) (found == link || found == 0) (protected Alone index link_root n found 0 post) (goes post [] (Protect Alone index link_root n (ByHazard (PublishLink found))))
    (λ s. omega arith)
    (λ s. let a = no_links rows clock root found e in let b = link_costs rows clock root link found r e (other (found == link) (found == 0) s) in omega (arith, a, b))
  where
    other : (a b : Bool) → (a || b) ≡ false → a ≡ false
    other true b h = absurd (cc)
    other false b h = refl

pub protect_fewer : (rows : Bool) (clock root : ℕ) (scheme : SchemeKind) (most index : ℕ) (link_root : Root) (n : ℕ) (at : ProtectAt) (post : Post) (found : ℕ) → publishes_rows scheme ≡ rows → is_wfe scheme ≡ false → protect_fits scheme most at ≡ true → at_loads at found clock root
    → TurnFewer (costs_of rows clock root) (protect_ahead (costs_of rows clock root) post.span at) (machine.protect_turn Alone index link_root n at post found)
protect_fewer rows clock root scheme most index link_root n (LoadClock tries) post found r f h e = let a = no_costs rows clock root found e in omega (arith, a)
protect_fewer rows clock root scheme most index link_root n (PublishEra era tries) post found r f h e = publish_fewer (costs_of rows clock root) index link_root n era most tries scheme post post.span f h
protect_fewer rows clock root scheme most index link_root n (LoadLink era tries) post found r f h e = omega arith
protect_fewer rows clock root scheme most index link_root n (CheckClock era tries link) post found r f h e = check_fewer rows clock root index link_root n era most link found tries scheme post r f h e
protect_fewer rows clock root scheme most index link_root n LoadWithin post found r f h e = omega arith
protect_fewer rows clock root scheme most index link_root n (CheckUpper link) post found r f h e = upper_fewer rows clock root index link_root n link found scheme post r h e
protect_fewer rows clock root scheme most index link_root n (RaiseUpper era) post found r f h e = omega arith
protect_fewer rows clock root scheme most index link_root n (ByHazard at) post found r f h e = hazard_fewer rows clock root index link_root n found at post (sym r ∙ h) e
protect_fewer rows clock root scheme most index link_root n at post found r f h e = absurd (let z = not_helped scheme f in cc)
