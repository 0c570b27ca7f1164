-- What calls answer of the clock, how a call that finds no room has sought one, and how often calls begin anew.
use Rattle.std.proofs.Common.{ℕ, ◌≡◌, Bool, true, false, refl, sym, arith, ◌∙◌, ap, ◌+◌, ◌-◌, ◌<◌, List, ◌∷◌}
use Rattle.std.proofs.lemmas.Bool.Decides.{nat_tests}
use Rattle.std.specs.Prelude.{◌==◌, if◌then◌else◌, ◌&&◌, not, is_none, nat_lt, nat_le, ◌%◌}
use Rattle.laws.proofs.records.defs.Facts.{both, first_of, rest_of, or_left_true, number_is}
use Rattle.laws.specs.AnswerLaw as weak
use Rattle.laws.specs.AnswerLaw.{from_of, moves_of, moves_before}
use Rattle.laws.specs.HistoryAnswers as strong
use Rattle.laws.specs.HistoryAnswers.{plain_clock, plain_clock_by, is_era}
use Rattle.laws.specs.HistoryEras.{may_move, plain_moves_ok}
use Rattle.laws.specs.HistoryScans.{Course, Search, search_by, search_of, no_search, moved_course, plain_tally, plain_by, read_course}
use Rattle.laws.specs.HistoryScans.Course.{Plain, Advancing, MayScan, MustScan, Reading}
use Rattle.laws.specs.ScanLaw.{guards, blocks_of}
use Rattle.laws.specs.StateAt.{began_of, clock_of, finds_of, has_told, is_among, is_give, is_read, seen, taken_since, times}
use Rattle.laws.specs.defs.declared.call.Answer.{Answer}
use Rattle.laws.specs.defs.declared.call.Answer.TheVariants as answers
use Rattle.laws.specs.defs.declared.call.ClockMove.{ClockMove}
use Rattle.laws.specs.defs.declared.call.ClockMove.TheVariants as moves
use Rattle.laws.specs.defs.declared.event.Event.{Event}
use Rattle.laws.specs.defs.declared.event.Event.TheVariants as events
use Rattle.laws.specs.records.Record.{Past, Each}
use Rattle.laws.specs.records.Record.Past.{Start, Then}
use Rattle.laws.specs.words.Schemes.{moves as moves_clock}
use Rattle.laws.specs.words.declared.config.Config.{Config}
use Rattle.law_reuse.proofs.Letter.Each.{each_weaker, counted_by, times_seen, related}
use Rattle.law_reuse.proofs.Letter.Held.{all_right}
use Rattle.law_reuse.proofs.Letter.Scans.{Courses, before_last, reads_begun}

-- a course on which a scan may come, or the clock may be moved: nothing was read since
abbrev awaits : Course → Bool
awaits Plain = false
awaits Advancing = true
awaits MayScan = true
awaits (MustScan moves) = true
awaits (Reading reads) = false

record ClockAgrees (course : Course) (t : strong.ClockTally) (u : weak.ClockTally) : Type 0 where
  counts : t.retired ≡ u.retired
  due : t.due ≡ u.due
  none : is_none t.moved ≡ true → u.told ≡ false
  some : (era : ℕ) → is_era era t.moved ≡ true → is_among era u.eras ≡ true
  reads : awaits course ≡ true → u.reads ≡ false

moves_await : (course : Course) → may_move course ≡ true → awaits course ≡ true
moves_await Plain h = absurd (cc)
moves_await Advancing h = refl
moves_await MayScan h = refl
moves_await (MustScan moves) h = refl
moves_await (Reading reads) h = absurd (cc)

moved_awaits : (course : Course) → awaits (moved_course course) ≡ true → awaits course ≡ true
moved_awaits Plain h = absurd (cc)
moved_awaits Advancing h = refl
moved_awaits MayScan h = refl
moved_awaits (MustScan moves) h = refl
moved_awaits (Reading reads) h = absurd (cc)

read_awaits : (course : Course) → awaits (read_course course) ≡ true → ⊥
read_awaits Plain h = cc
read_awaits Advancing h = cc
read_awaits MayScan h = cc
read_awaits (MustScan moves) h = cc
read_awaits (Reading reads) h = cc

abbrev Clock : Config → ℕ → Past → Type 0
Clock config i p = ClockAgrees (plain_tally config.every i p).course (plain_clock config.every i p) (weak.clock_tally config.every i p)

abbrev ClockAfter : Config → ℕ → Past → Event → Type 0
ClockAfter config i p event =
    ClockAgrees (plain_by config.every event (plain_tally config.every i p)).course (plain_clock_by config.every event (plain_clock config.every i p)) (weak.clock_by config.every event (weak.clock_tally config.every i p))

era_eras : (era : ℕ) (eras : List ℕ) (e : ℕ) (reads : Bool) → reads ≡ false → (era == e) ≡ true → is_among e (if reads then eras else era ∷ eras) ≡ true
era_eras era eras e reads r h = rw r (or_left_true (era == e) (is_among e eras) h)

own_clock : (config : Config) (i : ℕ) (p : Past) (event : Event) → plain_moves_ok config p i event ≡ true → Clock config i p → ClockAfter config i p event
own_clock config i p (events.Begin call) m a = record { counts = a.counts; due = refl; none = λ e. refl; some = λ era e. absurd (cc); reads = λ e. refl }
own_clock config i p (events.Retire slot birth retire) m a =
    record { counts = ap (λ (n : ℕ). n + 1) a.counts; due = ap (λ (n : ℕ). (n + 1) % config.every == 0) a.counts; none = λ e. refl; some = λ era e. absurd (cc); reads = λ e. refl }
own_clock config i p (events.Era era) m a =
    let quiet : (weak.clock_tally config.every i p).reads ≡ false = a.reads (moves_await (plain_tally config.every i p).course m) in
    record {
      counts = a.counts;
      due = a.due;
      none = λ e. absurd (cc);
      some = λ e h. era_eras era (weak.clock_tally config.every i p).eras e (weak.clock_tally config.every i p).reads quiet h;
      reads = λ e. quiet;
    }
own_clock config i p (events.Read guard span) m a =
    record { counts = a.counts; due = a.due; none = a.none; some = a.some; reads = λ e. absurd (read_awaits (plain_tally config.every i p).course e) }
own_clock config i p (events.Saw guard slot) m a =
    record { counts = a.counts; due = a.due; none = a.none; some = a.some; reads = λ e. absurd (read_awaits (plain_tally config.every i p).course e) }
own_clock config i p (events.Give slot birth) m a = record { counts = a.counts; due = a.due; none = a.none; some = a.some; reads = λ e. absurd (cc) }
own_clock config i p event m a = a

clock_entry : (config : Config) (i k : ℕ) (p : Past) (event : Event) (same : Bool) → (i == k) ≡ same → plain_moves_ok config p k event ≡ true → Clock config i p → Clock config i (Then p k event)
clock_entry config i k p event true e m a =
    let here : i ≡ k = number_is i k e in
    let m' : plain_moves_ok config p i event ≡ true = rw here m in
    rw e (own_clock config i p event m' a)
clock_entry config i k p event false e m a = rw e a

clocks_at : (config : Config) (i : ℕ) (p : Past) → Each (plain_moves_ok config) p → Clock config i p
clocks_at config i Start m = record { counts = refl; due = refl; none = λ e. refl; some = λ era e. absurd (cc); reads = λ e. absurd (cc) }
clocks_at config i (Then p k event) m = clock_entry config i k p event (i == k) refl m.0 (clocks_at config i p m.1)

not_false : (b : Bool) → b ≡ false → not b ≡ true
not_false b e = rw e refl

outcome_by : (course : Course) (last from now : ℕ) (t : strong.ClockTally) (u : weak.ClockTally) (clock : ClockMove) → ClockAgrees course t u → strong.outcome_fits last t clock ≡ true → strong.time_fits from now clock ≡ true → weak.outcome_fits last from now u clock ≡ true
outcome_by course last from now t u moves.Still a h g = rw (← a.due) h
outcome_by course last from now t u (moves.Moved era) a h g =
    rw (← a.due) (both t.due (is_among era u.eras) (first_of t.due (is_era era t.moved) h) (a.some era (rest_of t.due (is_era era t.moved) h)))
outcome_by course last from now t u (moves.Other seen) a h g =
    rw (← a.due) (both t.due (not u.told && (nat_lt from seen && nat_le seen now)) (first_of t.due (is_none t.moved) h)
    (both (not u.told) (nat_lt from seen && nat_le seen now) (not_false u.told (a.none (rest_of t.due (is_none t.moved) h))) g))
outcome_by course last from now t u (moves.EraSpent era) a h g =
    let k : (is_none t.moved && era == last) ≡ true = rest_of t.due (is_none t.moved && era == last) h in
    rw (← a.due) (both t.due (not u.told && (era == last && era == now)) (first_of t.due (is_none t.moved && era == last) h)
    (both (not u.told) (era == last && era == now) (not_false u.told (a.none (first_of (is_none t.moved) (era == last) k))) (both (era == last) (era == now) (rest_of (is_none t.moved) (era == last) k) g)))

change_by : (by_retires : Bool) (course : Course) (last from now : ℕ) (t : strong.ClockTally) (u : weak.ClockTally) (clock : ClockMove) → ClockAgrees course t u → strong.change_fits by_retires last t clock ≡ true → strong.time_fits from now clock ≡ true → weak.change_fits by_retires last from now u clock ≡ true
change_by true course last from now t u clock a h g = outcome_by course last from now t u clock a h g
change_by false course last from now t u clock a h g = h

fits_by : (by_retires : Bool) (course : Course) (last from now : ℕ) (t : strong.ClockTally) (u : weak.ClockTally) (answer : Answer) → ClockAgrees course t u → strong.answer_fits by_retires last t answer ≡ true → strong.answer_time from now answer ≡ true → weak.answer_fits by_retires last from now u answer ≡ true
fits_by by_retires course last from now t u (answers.Done version clock) a h g = change_by by_retires course last from now t u clock a h g
fits_by by_retires course last from now t u (answers.Taken number value clock) a h g = change_by by_retires course last from now t u clock a h g
fits_by by_retires course last from now t u (answers.Clock clock) a h g = outcome_by course last from now t u clock a h g
fits_by by_retires course last from now t u answer a h g = refl

clock_part : (config : Config) (p : Past) (i : ℕ) (event : Event) → Clock config i p → strong.plain_clocks_ok config p i event ≡ true → strong.times_ok p i event ≡ true → weak.clocks_ok config p i event ≡ true
clock_part config p i (events.End steps answer) a h g =
    fits_by (moves_clock config.scheme) (plain_tally config.every i p).course config.last_era (from_of i p) (clock_of p) (plain_clock config.every i p) (weak.clock_tally config.every i p) answer a h g
clock_part config p i event a h g = refl

pub clocks_kept : (config : Config) (r : Past) → Each (plain_moves_ok config) r → Each (strong.plain_clocks_ok config) r → Each strong.times_ok r → Each (weak.clocks_ok config) r
clocks_kept config Start m h g = tt
clocks_kept config (Then p i event) m h g = (clock_part config p i event (clocks_at config i p m.1) h.0 g.0, clocks_kept config p m.1 h.1 g.1)

-- a call that found no room: what it has read, and that it was given no row
reads_keeps : (event : Event) (x : Search) (n : ℕ) → x.reads ≡ n → (search_by event x).reads ≡ counted_by is_read event n
reads_keeps (events.Begin call) x n h = refl
reads_keeps (events.Read guard span) x n h = ap (λ (m : ℕ). m + 1) h
reads_keeps (events.Saw guard slot) x n h = ap (λ (m : ℕ). m + 1) h
reads_keeps event x n h = h

reads_are : (i : ℕ) (p : Past) → (search_of i p).reads ≡ times i is_read p
reads_are i p =
    related (λ (x : Search) (n : ℕ). x.reads ≡ n) search_by no_search (counted_by is_read) 0 (λ event x. true) i refl (λ event x n g h. reads_keeps event x n h) p (all_right p) ∙ sym (times_seen is_read i p)

gives_keep : (event : Event) (x : Search) (n : ℕ) → (x.seeks ≡ true → n ≡ 0) → (search_by event x).seeks ≡ true → counted_by is_give event n ≡ 0
gives_keep (events.Begin call) x n h e = refl
gives_keep (events.Give slot birth) x n h e = absurd (cc)
gives_keep (events.Retire slot birth retire) x n h e = absurd (cc)
gives_keep event x n h e = h e

gives_none : (i : ℕ) (p : Past) → (search_of i p).seeks ≡ true → has_told i is_give p ≡ false
gives_none i p e =
    let n : (search_of i p).seeks ≡ true → seen (counted_by is_give) 0 i p ≡ 0 = related (λ (x : Search) (n : ℕ). x.seeks ≡ true → n ≡ 0) search_by no_search (counted_by is_give) 0 (λ event x. true) i (λ e. refl) (λ event x n g h. gives_keep event x n h) p (all_right p) in
    rw (times_seen is_give i p, n e) refl

full_right : (all reads reads' : ℕ) (seeks told taken : Bool) → (seeks ≡ true → told ≡ false) → reads ≡ reads' → (seeks && (reads == all && taken)) ≡ true → (not told && (reads' == all && taken)) ≡ true
full_right all reads reads' true told taken f e h = rw (f refl, ← e) h
full_right all reads reads' false told taken f e h = absurd (cc)

full_by : (config : Config) (s i steps : ℕ) (p : Past) (answer : Answer) → strong.full_ok config s p i (events.End steps answer) ≡ true → weak.full_ok config s p i (events.End steps answer) ≡ true
full_by config s i steps p answers.Full h =
    full_right (guards config) (search_of i p).reads (times i is_read p) (search_of i p).seeks (has_told i is_give p) (taken_since config.slots i s p) (gives_none i p) (reads_are i p) h
full_by config s i steps p answer h = refl

full_part : (config : Config) (s : ℕ) (p : Past) (i : ℕ) (event : Event) → strong.full_ok config s p i event ≡ true → weak.full_ok config s p i event ≡ true
full_part config s p i (events.End steps answer) h = full_by config s i steps p answer h
full_part config s p i event h = refl

pub full_kept : (config : Config) (s : ℕ) (r : Past) → Each (strong.full_ok config s) r → Each (weak.full_ok config s) r
full_kept config s r h = each_weaker (strong.full_ok config s) (weak.full_ok config s) (full_part config s) r h

-- a call begins anew for a block
repeat_right : (finds moved all reads begun : ℕ) → 0 < all → (0 < reads → 0 < begun) → nat_le finds (1 + moved + (if nat_le all reads then 1 else 0)) ≡ true → nat_le finds (1 + moved + begun) ≡ true
repeat_right finds moved all reads begun low f h = by (nat_le all reads) refl h
  where
    by : (b : Bool) → nat_le all reads ≡ b → nat_le finds (1 + moved + (if b then 1 else 0)) ≡ true → nat_le finds (1 + moved + begun) ≡ true
    by true e h = let some : 0 < begun = f (grind (arith, nat_tests)) in grind (arith, nat_tests)
    by false e h = grind (arith, nat_tests)

repeat_part : (config : Config) (p : Past) (i : ℕ) (event : Event) → 0 < guards config → Courses config p → strong.repeats_ok config p i event ≡ true → weak.repeats_ok config p i event ≡ true
repeat_part config p i (events.End steps answer) low c h =
    repeat_right (finds_of i p) (moves_of config (began_of i p) p - moves_before config i p) (guards config) (search_of i p).reads (blocks_of config i p).begun low (reads_begun config i p low c) h
repeat_part config p i event low c h = refl

pub repeats_kept : (config : Config) (r : Past) → 0 < guards config → Courses config r → Each (strong.repeats_ok config) r → Each (weak.repeats_ok config) r
repeats_kept config Start low c h = tt
repeats_kept config (Then p i event) low c h = (repeat_part config p i event low (before_last config p i event c) h.0, repeats_kept config p low (before_last config p i event c) h.1)
