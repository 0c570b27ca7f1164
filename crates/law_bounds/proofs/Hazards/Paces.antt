-- How many rows a seat has retired since it read a guard last: where no scan is due, no more than since their number was a multiple.
use Rattle.std.proofs.Common.{ℕ, suc, ◌≡◌, ◌≤◌, ◌<◌, ◌+◌, Bool, true, false, refl, sym, ap, ◌∙◌, subst, arith}
use Rattle.std.proofs.lemmas.Bool.Decides.{nat_tests}
use Rattle.std.proofs.lemmas.Nat.{div-add-mod', mod-mul-add, mod_below}
use Rattle.std.proofs.Math.Nat.{mul-mod_left, suc-mul}
use Rattle.std.specs.Prelude.{◌==◌, ◌&&◌, not, if◌then◌else◌, ◌%◌, ◌/◌, ◌*◌}
use Rattle.law_all.proofs.inv.model.Facts.{false_of_not, first_of, no_truth, number_is, same_number}
use Rattle.law_all.specs.inv.history.Record.{Each, Past}
use Rattle.law_all.specs.inv.history.Record.Past.{Start, Then}
use Rattle.law_all.specs.inv.model.defs.declared.call.Call.{Call}
use Rattle.law_all.specs.inv.model.defs.declared.event.Event.{Event}
use Rattle.law_all.specs.inv.model.defs.declared.event.Event.TheVariants as events
use Rattle.law_all.specs.inv.model.words.declared.config.Config.{Config}
use Rattle.law_all.specs.laws.HistoryScans.{Course, Tally, is_settled, moved_course, no_tally, plain_by, plain_scans_ok, plain_tally, retired_course, scan_right}
use Rattle.law_all.specs.laws.HistoryScans.Course.{Advancing, MayScan, MustScan, Plain, Reading}
use Rattle.law_all.specs.laws.Lists.{has_left, is_handed}
use Rattle.law_all.specs.laws.ScanLaw.{guards}
use Rattle.law_all.specs.laws.Standing.{open_ok}
use Rattle.law_all.specs.laws.StateAt.{count, is_open, is_retire, one, opened_by, told, total_retires}
use Rattle.law_bounds.specs.Scans.{came_by, came_of, late_by, late_of}

-- one more than a number
next_whole : (n every : ℕ) → n % every + 1 ≡ every → (n + 1) % every ≡ 0
next_whole n every e =
    let parts : n / every * every + n % every ≡ n = div-add-mod' n every in
    let next : suc (n / every) * every ≡ n / every * every + every = suc-mul (n / every) every in
    let same : n + 1 ≡ suc (n / every) * every = omega (arith, parts, next, e) in
    ap (λ (x : ℕ). x % every) same ∙ mul-mod_left (suc (n / every)) every

pub next_rest : (n every : ℕ) → 0 < every → ((n + 1) % every == 0) ≡ false → (n + 1) % every ≡ n % every + 1
next_rest n every low e = by (n % every + 1 == every) refl
  where
    by : (whole : Bool) → (n % every + 1 == every) ≡ whole → (n + 1) % every ≡ n % every + 1
    by true f =
        let none : (n + 1) % every ≡ 0 = next_whole n every (number_is (n % every + 1) every f) in
        let zero_there : ((n + 1) % every == 0) ≡ true = ap (λ (x : ℕ). x == 0) none in
        absurd (no_truth (sym e ∙ zero_there))
    by false f =
        let below : n % every < every = mod_below n every low in
        let less : n % every + 1 < every = grind (arith, nat_tests, below, f) in
        let parts : n / every * every + n % every ≡ n = div-add-mod' n every in
        let same : n + 1 ≡ n / every * every + (n % every + 1) = omega (arith, parts) in
        ap (λ (x : ℕ). x % every) same ∙ mod-mul-add (n / every) every (n % every + 1) less

-- a scan has to come
abbrev pub is_due : Course → Bool
is_due Plain = false
is_due Advancing = false
is_due MayScan = false
is_due (MustScan moves) = true
is_due (Reading reads) = false

settled_not : (all : ℕ) (c : Course) → is_settled all c ≡ true → is_due c ≡ false
settled_not all Plain h = refl
settled_not all Advancing h = refl
settled_not all MayScan h = refl
settled_not all (MustScan moves) h = absurd (cc)
settled_not all (Reading reads) h = refl

moved_not : (c : Course) → is_due (moved_course c) ≡ false → is_due c ≡ false
moved_not Plain h = refl
moved_not Advancing h = refl
moved_not MayScan h = refl
moved_not (MustScan moves) h = h
moved_not (Reading reads) h = refl

-- what a seat's retirements have come to
pub record Paced (every late : ℕ) (x : Tally) : Type 0 where
  pub most : late ≤ every
  pub rest : is_due x.course ≡ false → late ≤ x.retired % every

none_late : (every : ℕ) (x : Tally) → Paced every 0 x
none_late every x = record { most = omega arith; rest = λ e. omega arith }

-- a retirement that comes to a multiple, or not
retired_paced : (every late : ℕ) (x : Tally) (hit : Bool) → ((x.retired + 1) % every == 0) ≡ hit → 0 < every → late ≤ x.retired % every → Paced every (late + 1) (record { retired = x.retired + 1; course = retired_course hit })
retired_paced every late x true e low h =
    let below : x.retired % every < every = mod_below x.retired every low in
    record { most = omega (arith, below, h); rest = λ f. absurd (cc) }
retired_paced every late x false e low h =
    let below : x.retired % every < every = mod_below x.retired every low in
    let next : (x.retired + 1) % every ≡ x.retired % every + 1 = next_rest x.retired every low e in
    record { most = omega (arith, below, h); rest = λ f. omega (arith, next, h) }

pub own_paced : (all every : ℕ) (event : Event) (late : ℕ) (x : Tally) → 0 < every → scan_right all event x.course ≡ true → (is_open_call : Bool) → (is_open_call ≡ false → late ≤ x.retired % every) → ((call : Call) → event ≡ events.Begin call → is_open_call ≡ false) → Paced every late x
    → Paced every (late_by event late) (plain_by every event x)
own_paced all every (events.Begin call) late x low h o c b g = record { most = g.most; rest = λ e. c (b call refl) }
own_paced all every (events.Era era) late x low h o c b g = record { most = g.most; rest = λ e. g.rest (moved_not x.course e) }
own_paced all every (events.Read guard span) late x low h o c b g = none_late every (plain_by every (events.Read guard span) x)
own_paced all every (events.Saw guard slot) late x low h o c b g = none_late every (plain_by every (events.Saw guard slot) x)
own_paced all every (events.Give slot birth) late x low h o c b g = record { most = g.most; rest = λ e. g.rest (settled_not all x.course h) }
own_paced all every (events.Retire slot birth retire) late x low h o c b g = retired_paced every late x ((x.retired + 1) % every == 0) refl low (g.rest (settled_not all x.course h))
own_paced all every event late x low h o c b g = g

-- of a seat at a position
pub record PacedAt (config : Config) (i : ℕ) (p : Past) : Type 0 where
  pub paced : Paced config.every (late_of i p) (plain_tally config.every i p)
  pub closed : is_open i p ≡ false → late_of i p ≤ (plain_tally config.every i p).retired % config.every

own_closed : (all every : ℕ) (event : Event) (late : ℕ) (x : Tally) (p : Past) (i : ℕ) → scan_right all event x.course ≡ true → open_ok p i event ≡ true → opened_by event (is_open i p) ≡ false → Paced every late x → late_by event late ≤ (plain_by every event x).retired % every
own_closed all every (events.Begin call) late x p i h o e g = absurd (cc)
own_closed all every (events.End steps answer) late x p i h o e g = g.rest (settled_not all x.course h)
own_closed all every event late x p i h o e g = absurd (no_truth (sym e ∙ o))

begins_closed : (p : Past) (i : ℕ) (event : Event) → open_ok p i event ≡ true → (call : Call) → event ≡ events.Begin call → is_open i p ≡ false
begins_closed p i event o call e =
    let begins : (not (is_open i p) && not (has_left i p)) ≡ true = ap (open_ok p i) (sym e) ∙ o in
    false_of_not (is_open i p) (first_of (not (is_open i p)) (not (has_left i p)) begins)

own_entry : (config : Config) (i : ℕ) (p : Past) (event : Event) → 0 < config.every → plain_scans_ok config p i event ≡ true → open_ok p i event ≡ true → PacedAt config i p → PacedAt config i (Then p i event)
own_entry config i p event low h o g =
    let same : (i == i) ≡ true = same_number i in
    record {
      paced = rw same (own_paced (guards config) config.every event (late_of i p) (plain_tally config.every i p) low h (is_open i p) g.closed (begins_closed p i event o) g.paced);
      closed = λ e.
          let t : opened_by event (is_open i p) ≡ false = rw same at e in
          rw same (own_closed (guards config) config.every event (late_of i p) (plain_tally config.every i p) p i h o t g.paced);
    }

entry : (config : Config) (i k : ℕ) (p : Past) (event : Event) (same : Bool) → (i == k) ≡ same → 0 < config.every → plain_scans_ok config p k event ≡ true → open_ok p k event ≡ true → PacedAt config i p → PacedAt config i (Then p k event)
entry config i k p event true e low h o g =
    let here : i ≡ k = number_is i k e in
    subst (λ (n : ℕ). PacedAt config i (Then p n event)) here
    (own_entry config i p event low (subst (λ (n : ℕ). plain_scans_ok config p n event ≡ true) (sym here) h) (subst (λ (n : ℕ). open_ok p n event ≡ true) (sym here) o) g)
entry config i k p event false e low h o g = record { paced = rw e g.paced; closed = λ c. let t : is_open i p ≡ false = rw e at c in rw e (g.closed t) }

pub paced_at : (config : Config) (i : ℕ) (p : Past) → 0 < config.every → Each (plain_scans_ok config) p → Each open_ok p → PacedAt config i p
paced_at config i Start low h o = record { paced = none_late config.every no_tally; closed = λ e. omega arith }
paced_at config i (Then p k event) low h o = entry config i k p event (i == k) refl low h.0 o.0 (paced_at config i p low h.1 o.1)

-- the retirements counted
by_retired : (every : ℕ) (event : Event) (x : Tally) → (plain_by every event x).retired ≡ x.retired + one (is_retire event)
by_retired every (events.Retire slot birth retire) x = refl
by_retired every (events.Begin call) x = omega arith
by_retired every (events.Era era) x = omega arith
by_retired every (events.Read guard span) x = omega arith
by_retired every (events.Saw guard slot) x = omega arith
by_retired every (events.Give slot birth) x = omega arith
by_retired every event x = omega arith

and_true : (b : Bool) → one (b && true) ≡ one b
and_true true = refl
and_true false = refl

and_false : (b : Bool) → one (b && false) ≡ 0
and_false true = refl
and_false false = refl

pub tally_is : (every i : ℕ) (p : Past) → (plain_tally every i p).retired ≡ total_retires i p
tally_is every i Start = refl
tally_is every i (Then p k event) = by (i == k) refl (tally_is every i p)
  where
    by : (same : Bool) → (i == k) ≡ same → (plain_tally every i p).retired ≡ total_retires i p
        → (if same then plain_by every event (plain_tally every i p) else plain_tally every i p).retired ≡ total_retires i p + one (is_retire event && same)
    by true e f =
        let one_more = by_retired every event (plain_tally every i p) in
        let counts = and_true (is_retire event) in
        omega (arith, one_more, counts, f)
    by false e f = let none = and_false (is_retire event) in omega (arith, none, f)

-- where no list was taken over none has come
no_more : (n : ℕ) (b : Bool) → n + one b ≡ 0 → b ≡ false
no_more n true e = absurd (omega (arith, e))
no_more n false e = refl

came_not : (event : Event) (came : ℕ) → is_handed event ≡ false → came ≡ 0 → came_by event came ≡ 0
came_not (events.Read guard span) came h e = refl
came_not (events.Saw guard slot) came h e = refl
came_not (events.Adopted place count) came h e = absurd (cc)
came_not event came h e = e

pub none_came : (i : ℕ) (p : Past) → told is_handed p ≡ 0 → came_of i p ≡ 0
none_came i Start h = refl
none_came i (Then p k event) h = by (i == k) (none_came i p (let all : told is_handed p + one (is_handed event) ≡ 0 = h in omega (arith, all)))
  where
    by : (same : Bool) → came_of i p ≡ 0 → (if same then came_by event (came_of i p) else came_of i p) ≡ 0
    by true before = came_not event (came_of i p) (no_more (told is_handed p) (is_handed event) h) before
    by false before = before
