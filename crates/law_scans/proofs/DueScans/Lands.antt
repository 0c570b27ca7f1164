-- Each step of a call tells what may come, and leaves what fits the phase that comes next.
use Rattle.std.proofs.Common.{ℕ, ◌≡◌, ◌<◌, ◌+◌, ◌%◌, Bool, true, false, List, [], ◌∷◌, Option, Some, None, refl, sym, ap, subst, arith}
use Rattle.std.proofs.lemmas.Bool.Decides.{nat_tests}
use Rattle.std.specs.Prelude.{◌==◌, ◌&&◌, not, nat_lt}
use Rattle.law_reuse.specs.laws.defs.declared.event.Guard.{Guard}
use Rattle.law_reuse.specs.laws.words.Schemes.{moves as moves_clock, publishes_rows}
use Rattle.law_reuse.specs.inv.model.Rounds.{scheme_of}
use Rattle.law_reuse.proofs.ReadGuards.{reads_are}
use Rattle.law_reuse.specs.laws.defs.declared.call.Answer.{Answer}
use Rattle.law_reuse.specs.laws.defs.declared.call.Call.{Call}
use Rattle.law_reuse.specs.laws.defs.declared.call.Call.TheVariants as names
use Rattle.law_reuse.specs.laws.defs.declared.call.ClockMove.{ClockMove}
use Rattle.law_reuse.specs.laws.defs.declared.call.ClockMove.TheVariants as moves
use Rattle.law_reuse.specs.laws.defs.declared.event.Event.{Event}
use Rattle.law_reuse.specs.laws.defs.declared.event.Event.TheVariants as events
use Rattle.law_reuse.specs.inv.model.declared.ends.AllocateEnd.TheVariants as allocate_ends
use Rattle.law_reuse.specs.inv.model.declared.post.Post.{Post}
use Rattle.law_reuse.specs.inv.model.Allocate as allocates
use Rattle.law_reuse.specs.inv.model.Change as alters
use Rattle.law_reuse.specs.inv.model.Desks.{Desk, with_life}
use Rattle.law_reuse.specs.inv.model.Enqueue as enqueues
use Rattle.law_reuse.specs.inv.model.Guards.{guards, guard_at, published}
use Rattle.law_reuse.specs.inv.model.Machine as machine
use Rattle.law_reuse.specs.inv.model.Memory.{bump}
use Rattle.law_reuse.specs.inv.model.Posts.{stands}
use Rattle.law_reuse.specs.inv.model.Scan as scan
use Rattle.law_reuse.specs.inv.model.Steps as steps
use Rattle.law_reuse.specs.inv.model.WriteRow.{last_written}
use Rattle.law_reuse.specs.inv.model.Phases.{RowOf, Walk, AllocateAt, MoveAt, Base, Ending, Outcome, Goes, Ends}
use Rattle.law_reuse.specs.inv.model.Phases.AllocateAt.{LoadBirth, ClaimSlot, StoreLife}
use Rattle.law_reuse.specs.inv.model.Phases.RetireAt.{LoadLife, LoadRetire, StoreRetired}
use Rattle.law_reuse.specs.inv.model.Phases.MoveAt.{LoadEra, LoadRequest, ShowEra, LoadAsked, CheckEra, AnswerAsked, LoadReserved, HandOver, HideEra, HideLate, ExchangeClock}
use Rattle.law_reuse.specs.inv.model.Phases.Base.{Allocate, Write, Retire, Move}
use Rattle.law_reuse.specs.inv.model.Phases.Ending.{Done, Protected, Followed, Allocated, Retired, Clocked}
use Rattle.law_reuse.specs.inv.model.Calls.{Task, Gets, Changes, Holds, Enqueues, Dequeues, Again, AfterScan, Answered, Repeated, Counted, ScanAt, ReadGuard, GiveBack, Why, Opens, FollowsHead, Fills, ClearsNext, Clears, Finishes, GivesUp, Retires, Tidies, Advances, Releases, Released, Rehold, Dropped, Phase, Idle, Runs, Scans, Works, CallTurn}
use Rattle.law_reuse.proofs.laws.records.defs.Facts.{both, rest_of}
use Rattle.law_reuse.specs.inv.shapes.Seats.{ToFill, ToRetire, ToMove, kind_of, suits, scan_fits}
use Rattle.law_reuse.specs.inv.rows.Hands.{holds_none, task_fills, runs_right}
use Rattle.law_reuse.proofs.history.Passes.{scan_told}
use Rattle.law_reuse.specs.laws.HistoryScans.{Course, Plain, Advancing, MayScan, MustScan, Reading, Tally, first_course, moved_course, read_course, retired_course, may_read, is_settled}
use Rattle.law_reuse.specs.laws.HistoryEras.{may_move}
use Rattle.law_scans.proofs.DueScans.Still.{claim_front, tick_front, base_front, front}
use Rattle.law_scans.proofs.Leaving.{parts_all}
use Rattle.law_scans.proofs.DueScans.Courses.{letting_fits, parts_fit, is_may, is_fresh, is_walked, TaskFits, NextFits, LaterFits, AfterFits, at_guard, at_end, Before, before_of, tidy_fits, ScanAtFits, FillFits, WhyFits, PhaseFits, OutFits, Lands, other_task, round_fits, closed_fits, clearing_fits, work_fits, silent_lands, resumed_opens, resumed_follows, resumed_next, resumed_clears, resumed_finishes, resumed_gives, resumed_releases}

-- a row is filled
written_fits : (all : ℕ) (task : Task) (post : Post) (desk : Desk) (told : List Event) (c : Course) → TaskFits all task c → OutFits all (steps.written_row task post desk told).outcome c
written_fits all (Changes kept) post desk told c f = f
written_fits all (Enqueues kept) post desk told c f = f
written_fits all (Gets key) post desk told c f = closed_fits all (Gets key) Again post desk told c f
written_fits all (Holds key) post desk told c f = closed_fits all (Holds key) Again post desk told c f
written_fits all Dequeues post desk told c f = closed_fits all Dequeues Again post desk told c f

may_scan : (c : Course) → is_may c ≡ true → c ≡ MayScan
may_scan MayScan h = refl
may_scan Plain h = absurd (cc)
may_scan Advancing h = absurd (cc)
may_scan (MustScan moves) h = absurd (cc)
may_scan (Reading reads) h = absurd (cc)

-- the walk failed
no_room_fits : (all : ℕ) (task : Task) (walked : Bool) (c : Course) → is_walked task ≡ true → is_settled all c ≡ true → (not walked ≡ true → is_may c ≡ true) → NextFits all task (alters.no_room walked) c
no_room_fits all task true c w s m = s
no_room_fits all task false c w s m = (may_scan c (m refl), w)

none_fresh : (taken : Option ℕ) (walked : Bool) → holds_none taken ≡ true → not walked ≡ true → (holds_none taken && not walked) ≡ true
none_fresh taken walked h k = both (holds_none taken) (not walked) h k

full_fits : (all : ℕ) (task : Task) (post : Post) (desk : Desk) (told : List Event) (at : AllocateAt) (c : Course) → task_fills task (Allocate at) ≡ true → TaskFits all task c → OutFits all (steps.filled_by task allocate_ends.Full post desk told).outcome c
full_fits all (Changes kept) post desk told at c h f =
    clearing_fits all (Changes (alters.with_walked kept)) (alters.no_room kept.walked) post desk told c
    (no_room_fits all (Changes (alters.with_walked kept)) kept.walked c refl f.settled (λ w. f.fresh (none_fresh kept.taken kept.walked h w)))
full_fits all (Enqueues kept) post desk told at c h f =
    clearing_fits all (Enqueues (enqueues.item_walked kept)) (alters.no_room kept.walked) post desk told c
    (no_room_fits all (Enqueues (enqueues.item_walked kept)) kept.walked c refl f.settled (λ w. f.fresh (none_fresh kept.taken kept.walked h w)))
full_fits all (Gets key) post desk told at c h f = absurd (cc)
full_fits all (Holds key) post desk told at c h f = absurd (cc)
full_fits all Dequeues post desk told at c h f = absurd (cc)

given_fits : (all : ℕ) (task : Task) (slot birth : ℕ) (post : Post) (desk : Desk) (told : List Event) (at : AllocateAt) (c : Course) → task_fills task (Allocate at) ≡ true → is_settled all c ≡ true → OutFits all (steps.filled_by task (allocate_ends.Given slot birth) post desk told).outcome c
given_fits all (Changes kept) slot birth post desk told at c h s = other_task all (Changes (alters.with_taken kept slot)) c refl s
given_fits all (Enqueues kept) slot birth post desk told at c h s = other_task all (Enqueues (enqueues.item_taken kept slot)) c refl s
given_fits all (Gets key) slot birth post desk told at c h s = absurd (cc)
given_fits all (Holds key) slot birth post desk told at c h s = absurd (cc)
given_fits all Dequeues slot birth post desk told at c h s = absurd (cc)

walking_fits : (all : ℕ) (task : Task) (desk : Desk) (birth : ℕ) (post : Post) (x : Option Walk) (at : AllocateAt) (c : Course) → task_fills task (Allocate at) ≡ true → TaskFits all task c → OutFits all (steps.run_turn (Fills task) desk (allocates.walking birth post x)).outcome c
walking_fits all task desk birth post None at c h f = full_fits all task post desk [] at c h f
walking_fits all task desk birth post (Some walk) at c h f = f

claim_lands : (every all : ℕ) (x : Tally) (task : Task) (birth : ℕ) (walk : Walk) (post : Post) (desk : Desk) (found : ℕ) (claimed : Bool) → allocates.is_claimed found walk.slot ≡ claimed → task_fills task (Allocate (ClaimSlot birth walk)) ≡ true → TaskFits all task x.course
    → Lands every all x (Runs (Fills task) (Allocate (ClaimSlot birth walk))) (claim_front birth walk.slot claimed) (steps.run_turn (Fills task) desk (machine.after (Allocate (ClaimSlot birth walk)) post found)).outcome
claim_lands every all x task birth walk post desk found true e h f =
    rw e (record { right = tt; fits = walking_fits all task desk birth post (allocates.walk_past post.layout.config.slots walk found) (ClaimSlot birth walk) x.course h f; count = refl })
claim_lands every all x task birth walk post desk found false e h f =
    rw e (record { right = (both (is_settled all x.course) true f.settled refl, tt); fits = refl; count = refl })

write_fits : (all : ℕ) (task : Task) (desk : Desk) (slot place : ℕ) (row : RowOf) (post : Post) (found : ℕ) (last : Bool) (c : Course) → (place == last_written row) ≡ last → TaskFits all task c → OutFits all (steps.run_turn (Fills task) desk (machine.after (Write slot row place) post found)).outcome c
write_fits all task desk slot place row post found true c e f = rw e (written_fits all task post desk [] c f)
write_fits all task desk slot place row post found false c e f = rw e f

fills_lands : (every all : ℕ) (x : Tally) (task : Task) (base : Base) (post : Post) (desk : Desk) (found : ℕ) → task_fills task base ≡ true → suits base ToFill ≡ true → FillFits all task base x.course
    → Lands every all x (Runs (Fills task) base) (base_front base found) (steps.run_turn (Fills task) desk (machine.after base post found)).outcome
fills_lands every all x task (Allocate LoadBirth) post desk found h s f = record { right = tt; fits = f; count = refl }
fills_lands every all x task (Allocate (ClaimSlot birth walk)) post desk found h s f = claim_lands every all x task birth walk post desk found (allocates.is_claimed found walk.slot) refl h f
fills_lands every all x task (Allocate (StoreLife birth slot)) post desk found h s f = record { right = tt; fits = given_fits all task slot birth post desk [] (StoreLife birth slot) x.course h f; count = refl }
fills_lands every all x task (Write slot row place) post desk found h s f = record { right = tt; fits = write_fits all task desk slot place row post found (place == last_written row) x.course refl f; count = refl }
fills_lands every all x task base post desk found h s f = absurd (cc)

-- a row is retired
tidying_fits : (all : ℕ) (answer : Answer) (post : Post) (desk : Desk) (told : List Event) (due : Bool) → OutFits all (steps.tidying answer post desk told due).outcome (retired_course due)
tidying_fits all answer post desk told true = tidy_fits all (Answered answer) (moves_clock (scheme_of post)) post (MustScan true) refl
tidying_fits all answer post desk told false = refl

pub due_same : (n m every : ℕ) → n ≡ m → (bump n % every == 0) ≡ (bump m % every == 0)
due_same n m every e = ap (λ (k : ℕ). bump k % every == 0) e

retires_lands : (all : ℕ) (x : Tally) (answer : Answer) (base : Base) (post : Post) (desk : Desk) (found : ℕ) → suits base ToRetire ≡ true → x.retired ≡ post.retired → is_settled all x.course ≡ true
    → Lands post.layout.config.every all x (Runs (Retires answer) base) (base_front base found) (steps.run_turn (Retires answer) desk (machine.after base post found)).outcome
retires_lands all x answer (Retire (LoadLife slot)) post desk found s r f = record { right = tt; fits = f; count = refl }
retires_lands all x answer (Retire (LoadRetire slot birth)) post desk found s r f = record { right = tt; fits = f; count = refl }
retires_lands all x answer (Retire (StoreRetired slot birth retire)) post desk found s r f =
    let t = machine.after (Retire (StoreRetired slot birth retire)) post found in
    record {
      right = (both (is_settled all x.course) true f refl, tt);
      fits = subst (λ (due : Bool). OutFits all (steps.tidying answer t.post (with_life desk (record { slot = slot; birth = birth; retire = retire })) t.told (bump post.retired % post.layout.config.every == 0)).outcome (retired_course due)) (sym (due_same x.retired post.retired post.layout.config.every r))
          (tidying_fits all answer t.post (with_life desk (record { slot = slot; birth = birth; retire = retire })) t.told (bump post.retired % post.layout.config.every == 0));
      count = refl;
    }
retires_lands all x answer base post desk found s r f = absurd (cc)

-- the clock is moved
after_fits : (later : AfterScan) (clock : ClockMove) → AfterFits later → AfterFits (steps.after_move later clock)
after_fits (Answered answer) clock f = tt
after_fits (Repeated task) clock f = f
after_fits Counted clock f = tt

tidied_fits : (all : ℕ) (later : AfterScan) (ending : Ending) (post : Post) (desk : Desk) (told : List Event) (c : Course) → at_guard 0 c ≡ true → AfterFits later → OutFits all (steps.tidied later ending post desk told).outcome c
tidied_fits all later (Clocked clock) post desk told c g f = (g, after_fits later clock f)
tidied_fits all later Done post desk told c g f = (g, f)
tidied_fits all later (Protected end) post desk told c g f = (g, f)
tidied_fits all later (Followed end) post desk told c g f = (g, f)
tidied_fits all later (Allocated end) post desk told c g f = (g, f)
tidied_fits all later (Retired life) post desk told c g f = (g, f)

resumed_tidies : (all : ℕ) (later : AfterScan) (desk : Desk) (post : Post) (told : List Event) (outcome : Outcome) (c : Course) → LaterFits later c → OutFits all (steps.resumed (Tidies later) desk post told outcome).outcome c
resumed_tidies all later desk post told (Goes base) c f = f
resumed_tidies all later desk post told (Ends ending) c f = let b : Before later c = before_of later c f in tidied_fits all later ending post desk told c b.guard b.after

advanced_fits : (all : ℕ) (ending : Ending) (post : Post) (desk : Desk) (told : List Event) (c : Course) → is_settled all c ≡ true → OutFits all (steps.advanced ending post desk told).outcome c
advanced_fits all (Clocked clock) post desk told c s = s
advanced_fits all Done post desk told c s = tt
advanced_fits all (Protected end) post desk told c s = tt
advanced_fits all (Followed end) post desk told c s = tt
advanced_fits all (Allocated end) post desk told c s = tt
advanced_fits all (Retired life) post desk told c s = tt

resumed_advances : (all : ℕ) (desk : Desk) (post : Post) (told : List Event) (outcome : Outcome) (c : Course) → c ≡ Advancing → OutFits all (steps.resumed Advances desk post told outcome).outcome c
resumed_advances all desk post told (Goes base) c f = f
resumed_advances all desk post told (Ends ending) c f = advanced_fits all ending post desk told c (ap (is_settled all) f)

tick_lands : (every all : ℕ) (x : Tally) (why : Why) (era : ℕ) (post : Post) (desk : Desk) (found : ℕ) (same : Bool) → (found == era) ≡ same
    → may_move x.course ≡ true
    → OutFits all (steps.resume why (Clocked (moves.Moved (era + 1))) post desk (events.Era (era + 1) ∷ [])).outcome (moved_course x.course)
    → OutFits all (steps.resume why (Clocked (moves.Other found)) post desk []).outcome x.course
    → Lands every all x (Runs why (Move (ExchangeClock era))) (tick_front era same) (steps.run_turn why desk (machine.after (Move (ExchangeClock era)) post found)).outcome
tick_lands every all x why era post desk found true e m f g = rw e (record { right = (m, tt); fits = f; count = refl })
tick_lands every all x why era post desk found false e m f g = rw e (record { right = tt; fits = g; count = refl })

moves_lands : (every all : ℕ) (x : Tally) (why : Why) (at : MoveAt) (post : Post) (desk : Desk) (found : ℕ) → may_move x.course ≡ true
    → ((era : ℕ) → OutFits all (steps.resume why (Clocked (moves.Moved (era + 1))) post desk (events.Era (era + 1) ∷ [])).outcome (moved_course x.course))
    → ((post : Post) (told : List Event) (outcome : Outcome) → OutFits all (steps.resumed why desk post told outcome).outcome x.course)
    → Lands every all x (Runs why (Move at)) (base_front (Move at) found) (steps.run_turn why desk (machine.after (Move at) post found)).outcome
moves_lands every all x why (ExchangeClock era) post desk found m f g = tick_lands every all x why era post desk found (found == era) refl m (f era) (g post [] (Ends (Clocked (moves.Other found))))
moves_lands every all x why (LoadEra helps) post desk found m f g = let t = machine.after (Move (LoadEra helps)) post found in record { right = tt; fits = g t.post t.told t.outcome; count = refl }
moves_lands every all x why (LoadRequest era seat shows) post desk found m f g = let t = machine.after (Move (LoadRequest era seat shows)) post found in record { right = tt; fits = g t.post t.told t.outcome; count = refl }
moves_lands every all x why (ShowEra era seat tag index root) post desk found m f g = let t = machine.after (Move (ShowEra era seat tag index root)) post found in record { right = tt; fits = g t.post t.told t.outcome; count = refl }
moves_lands every all x why (LoadAsked era seat tag index root) post desk found m f g = let t = machine.after (Move (LoadAsked era seat tag index root)) post found in record { right = tt; fits = g t.post t.told t.outcome; count = refl }
moves_lands every all x why (CheckEra era seat tag index root link) post desk found m f g = let t = machine.after (Move (CheckEra era seat tag index root link)) post found in record { right = tt; fits = g t.post t.told t.outcome; count = refl }
moves_lands every all x why (AnswerAsked era seat tag index root link) post desk found m f g = let t = machine.after (Move (AnswerAsked era seat tag index root link)) post found in record { right = tt; fits = g t.post t.told t.outcome; count = refl }
moves_lands every all x why (LoadReserved era seat tag index root link) post desk found m f g = let t = machine.after (Move (LoadReserved era seat tag index root link)) post found in record { right = tt; fits = g t.post t.told t.outcome; count = refl }
moves_lands every all x why (HandOver era seat tag index root link old) post desk found m f g = let t = machine.after (Move (HandOver era seat tag index root link old)) post found in record { right = tt; fits = g t.post t.told t.outcome; count = refl }
moves_lands every all x why (HideEra era) post desk found m f g = let t = machine.after (Move (HideEra era)) post found in record { right = tt; fits = g t.post t.told t.outcome; count = refl }
moves_lands every all x why (HideLate seen) post desk found m f g = let t = machine.after (Move (HideLate seen)) post found in record { right = tt; fits = g t.post t.told t.outcome; count = refl }

tidies_lands : (every all : ℕ) (x : Tally) (later : AfterScan) (base : Base) (post : Post) (desk : Desk) (found : ℕ) → suits base ToMove ≡ true → LaterFits later x.course
    → Lands every all x (Runs (Tidies later) base) (base_front base found) (steps.run_turn (Tidies later) desk (machine.after base post found)).outcome
tidies_lands every all x later (Move at) post desk found s f =
    let b : Before later x.course = before_of later x.course f in
    moves_lands every all x (Tidies later) at post desk found b.moves
    (λ era. tidied_fits all later (Clocked (moves.Moved (era + 1))) post desk (events.Era (era + 1) ∷ []) (moved_course x.course) b.moved b.after)
    (λ other told outcome. resumed_tidies all later desk other told outcome x.course f)
tidies_lands every all x later base post desk found s f = absurd (cc)

advances_lands : (every all : ℕ) (x : Tally) (base : Base) (post : Post) (desk : Desk) (found : ℕ) → suits base ToMove ≡ true → x.course ≡ Advancing
    → Lands every all x (Runs Advances base) (base_front base found) (steps.run_turn Advances desk (machine.after base post found)).outcome
advances_lands every all x (Move at) post desk found s f =
    moves_lands every all x Advances at post desk found (ap may_move f) (λ era. ap (λ (c : Course). is_settled all (moved_course c)) f)
    (λ other told outcome. resumed_advances all desk other told outcome x.course f)
advances_lands every all x base post desk found s f = absurd (cc)

run_lands : (all : ℕ) (x : Tally) (why : Why) (base : Base) (post : Post) (desk : Desk) (found : ℕ) → suits base (kind_of why) ≡ true → runs_right why base ≡ true → x.retired ≡ post.retired → WhyFits all why base x.course
    → Lands post.layout.config.every all x (Runs why base) (base_front base found) (steps.run_turn why desk (machine.after base post found)).outcome
run_lands all x (Opens task) base post desk found s h r f =
    let t = machine.after base post found in silent_lands post.layout.config.every all x (Opens task) base found _ s refl (resumed_opens all task desk t.post t.told t.outcome x.course f)
run_lands all x (FollowsHead head tail) base post desk found s h r f =
    let t = machine.after base post found in silent_lands post.layout.config.every all x (FollowsHead head tail) base found _ s refl (resumed_follows all head tail desk t.post t.told t.outcome x.course f)
run_lands all x (Fills task) base post desk found s h r f = fills_lands post.layout.config.every all x task base post desk found h s f
run_lands all x (ClearsNext next) base post desk found s h r f =
    let t = machine.after base post found in silent_lands post.layout.config.every all x (ClearsNext next) base found _ s refl (resumed_next all next desk t.post t.told t.outcome x.course f)
run_lands all x (Clears task next) base post desk found s h r f =
    let t = machine.after base post found in silent_lands post.layout.config.every all x (Clears task next) base found _ s refl (resumed_clears all task next desk t.post t.told t.outcome x.course f)
run_lands all x (Finishes task next) base post desk found s h r f =
    let t = machine.after base post found in silent_lands post.layout.config.every all x (Finishes task next) base found _ s refl (resumed_finishes all task next desk t.post t.told t.outcome x.course f)
run_lands all x (GivesUp answer) base post desk found s h r f =
    let t = machine.after base post found in silent_lands post.layout.config.every all x (GivesUp answer) base found _ s refl (resumed_gives all answer desk t.post t.told t.outcome x.course f)
run_lands all x (Retires answer) base post desk found s h r f = retires_lands all x answer base post desk found s r f
run_lands all x (Tidies later) base post desk found s h r f = tidies_lands post.layout.config.every all x later base post desk found s f
run_lands all x Advances base post desk found s h r f = advances_lands post.layout.config.every all x base post desk found s f
run_lands all x (Releases let_go) base post desk found s h r f =
    let t = machine.after base post found in silent_lands post.layout.config.every all x (Releases let_go) base found _ s refl (resumed_releases all let_go desk t.post t.told t.outcome x.course f)

-- a scan
scanned_fits : (all : ℕ) (later : AfterScan) (post : Post) (desk : Desk) (told : List Event) (c : Course) → is_settled all c ≡ true → AfterFits later → OutFits all (scan.scanned later post desk told).outcome c
scanned_fits all (Answered answer) post desk told c s f = s
scanned_fits all (Repeated task) post desk told c s f = round_fits all task post c (other_task all task c (walked_fresh task f) s)
  where
    last_false : (a b : Bool) → b ≡ true → (a && not b) ≡ false
    last_false true b e = rw e refl
    last_false false b e = refl

    walked_fresh : (task : Task) → is_walked task ≡ true → is_fresh task ≡ false
    walked_fresh (Changes kept) w = last_false (holds_none kept.taken) kept.walked w
    walked_fresh (Enqueues kept) w = last_false (holds_none kept.taken) kept.walked w
    walked_fresh (Gets key) w = refl
    walked_fresh (Holds key) w = refl
    walked_fresh Dequeues w = refl
scanned_fits all Counted post desk told c s f = s

end_settled : (all : ℕ) (c : Course) → at_end all c ≡ true → is_settled all c ≡ true
end_settled all (Reading reads) h = h
end_settled all Plain h = absurd (cc)
end_settled all Advancing h = absurd (cc)
end_settled all MayScan h = absurd (cc)
end_settled all (MustScan moves) h = absurd (cc)

giving_fits : (all : ℕ) (later : AfterScan) (post : Post) (desk : Desk) (told : List Event) (x : Option scan.Entry) (c : Course) → at_end all c ≡ true → AfterFits later → OutFits all (scan.giving_back later post desk told x).outcome c
giving_fits all later post desk told None c e f = scanned_fits all later post (scan.with_kept desk) told c (end_settled all c e) f
giving_fits all later post desk told (Some entry) c e f = (e, f)

-- a guard is read
record OneRead (all n : ℕ) (c : Course) : Type 0 where
  may : may_read all c ≡ true
  on : at_guard (n + 1) (read_course c) ≡ true
  last : n + 1 ≡ all → at_end all (read_course c) ≡ true

one_read : (all n : ℕ) (c : Course) → n < all → at_guard n c ≡ true → OneRead all n c
one_read all n MayScan l h = let z : n ≡ 0 = grind (arith, nat_tests) in record { may = refl; on = ap (λ (k : ℕ). at_guard (k + 1) (Reading 1)) z; last = λ e. grind (arith, nat_tests) }
one_read all n (MustScan moves) l h = let z : n ≡ 0 = grind (arith, nat_tests) in record { may = refl; on = ap (λ (k : ℕ). at_guard (k + 1) (Reading 1)) z; last = λ e. grind (arith, nat_tests) }
one_read all n (Reading reads) l h =
    let z : reads ≡ n = equal reads n (rest_of (nat_lt 0 n) (reads == n) h) in
    record { may = grind (arith, nat_tests); on = both (nat_lt 0 (n + 1)) (reads + 1 == n + 1) (grind (arith, nat_tests)) (grind (arith, nat_tests)); last = λ e. grind (arith, nat_tests) }
  where
    equal : (a b : ℕ) → (a == b) ≡ true → a ≡ b
    equal a b h = grind (arith, nat_tests)
one_read all n Plain l h = absurd (cc)
one_read all n Advancing l h = absurd (cc)

reading_fits : (all n : ℕ) (later : AfterScan) (post : Post) (desk : Desk) (told : List Event) (more : Bool) (c : Course) → nat_lt (n + 1) all ≡ more → n < all → at_guard n c ≡ true → AfterFits later → OutFits all (scan.reading later n post desk told more).outcome (read_course c)
reading_fits all n later post desk told true c m l h f = let o : OneRead all n c = one_read all n c l h in (o.on, f)
reading_fits all n later post desk told false c m l h f =
    let o : OneRead all n c = one_read all n c l h in
    let e : n + 1 ≡ all = grind (arith, nat_tests) in
    giving_fits all later post desk told (scan.unmet_from desk 0) (read_course c) (o.last e) f

scan_lands : (every : ℕ) (x : Tally) (later : AfterScan) (at : ScanAt) (post : Post) (desk : Desk) (found : ℕ) → scan_fits post.layout.config at ≡ true → ScanAtFits (guards post.layout.config) at x.course → AfterFits later
    → Lands every (guards post.layout.config) x (Scans later at) (scan_told at post found) (scan.scan_turn later at post desk found).outcome
scan_lands every x later (ReadGuard n) post desk found s g f =
    let all : ℕ = guards post.layout.config in
    let l : n < all = grind (arith, nat_tests) in
    let o : OneRead all n x.course = one_read all n x.course l g in
    let rows : Bool = publishes_rows post.layout.config.scheme in
    let guard : Guard = guard_at post.layout.config n in
    let t : CallTurn = scan.scan_turn later (ReadGuard n) post desk found in
    let fits : OutFits all t.outcome (read_course x.course) = reading_fits all n later post (scan.with_read desk n (guard, published rows guard found)) (scan.reads_guard rows guard found ∷ []) (nat_lt (n + 1) all) x.course refl l g f in
    reads_are (λ (event : Event). Lands every all x (Scans later (ReadGuard n)) (event ∷ []) t.outcome) rows guard found
    (λ span. record { right = (both (may_read all x.course) true o.may refl, tt); fits = fits; count = refl })
    (λ slot. record { right = (both (may_read all x.course) true o.may refl, tt); fits = fits; count = refl })
scan_lands every x later (GiveBack place slot) post desk found s g f = record {
  right = (refl, tt);
  fits = giving_fits (guards post.layout.config) later post (scan.with_back desk place) (events.Back slot ∷ []) (scan.unmet_from (scan.with_back desk place) place) x.course g f;
  count = refl;
}

-- what is known of a phase's machine
abbrev pub PhaseRight : Phase → Post → Type 0
PhaseRight Idle post = Unit {0}
PhaseRight (Runs why base) post = (suits base (kind_of why) ≡ true) × (runs_right why base ≡ true)
PhaseRight (Scans later at) post = scan_fits post.layout.config at ≡ true
PhaseRight (Works work) post = Unit {0}

pub turn_lands : (x : Tally) (phase : Phase) (post : Post) (desk : Desk) (found : ℕ) → PhaseRight phase post → x.retired ≡ post.retired → PhaseFits (guards post.layout.config) phase x.course
    → Lands post.layout.config.every (guards post.layout.config) x phase (front phase post found) (steps.phase_turn phase post desk found).outcome
turn_lands x Idle post desk found p r f = record { right = tt; fits = tt; count = refl }
turn_lands x (Runs why base) post desk found p r f = run_lands (guards post.layout.config) x why base post desk found p.0 p.1 r f
turn_lands x (Scans later at) post desk found p r f = scan_lands post.layout.config.every x later at post desk found p f.0 f.1
turn_lands x (Works work) post desk found p r f = record { right = tt; fits = work_fits (guards post.layout.config) work post desk found x.course f; count = refl }

-- a call begins
pub first_fits : (all : ℕ) (call : Call) (post : Post) → PhaseFits all (steps.first_phase call post) (first_course call)
first_fits all (names.Get key) post = round_fits all (Gets key) post Plain (other_task all (Gets key) Plain refl refl)
first_fits all (names.Put key value) post = round_fits all _ post MayScan (record { settled = refl; fresh = λ h. refl })
first_fits all (names.Remove key) post = round_fits all _ post MayScan (record { settled = refl; fresh = λ h. refl })
first_fits all (names.Enqueue value) post = round_fits all _ post MayScan (record { settled = refl; fresh = λ h. refl })
first_fits all names.Dequeue post = round_fits all Dequeues post Plain (other_task all Dequeues Plain refl refl)
first_fits all (names.Hold key) post = held_fits (stands post 2)
  where
    held_fits : (x : Option ℕ) → PhaseFits all (steps.holding key post x) Plain
    held_fits None = round_fits all (Holds key) post Plain (other_task all (Holds key) Plain refl refl)
    held_fits (Some slot) = letting_fits all (Rehold key) post Plain refl
first_fits all names.Release post = letting_fits all Released post Plain refl
first_fits all names.Advance post = refl
first_fits all names.Scan post = (refl, tt)
first_fits all (names.Copy from index) post = copying_fits (stands post from)
  where
    copying_fits : (x : Option ℕ) → PhaseFits all (steps.copying from index x) Plain
    copying_fits None = refl
    copying_fits (Some slot) = refl
first_fits all (names.DropIndex index) post = letting_fits all (Dropped index) post Plain refl
first_fits all (names.Look index key) post = looking_fits (stands post index)
  where
    looking_fits : (x : Option ℕ) → PhaseFits all (steps.looking_at index key x) Plain
    looking_fits None = refl
    looking_fits (Some slot) = refl
first_fits all names.Leave post = parts_all (λ (phase : Phase). PhaseFits all phase Plain) (parts_fit all Plain refl) post
first_fits all (names.Adopt place) post = refl
first_fits all (names.PutIf key value version) post = round_fits all _ post MayScan (record { settled = refl; fresh = λ h. refl })
