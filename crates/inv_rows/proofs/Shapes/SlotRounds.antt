-- Slots and links through rounds: what comes after a machine, and a call's first phase.
use Rattle.std.proofs.Common.{ℕ, ◌≡◌, ◌≤◌, ◌<◌, Bool, true, false, List, length, get_or, set, Option, Some, None, refl, sym, subst, arith}
use Rattle.std.proofs.lemmas.Bool.Decides.{nat_tests}
use Rattle.std.proofs.lemmas.List.{get_or-set_same, get_or-set_other, set_past}
use Rattle.std.specs.Prelude.{◌==◌, nat_lt}
use Rattle.wfe_core.specs.words.declared.config.SchemeKind.{SchemeKind}
use Rattle.wfe_core.specs.words.declared.config.SchemeKind.TheVariants.{He, Hp, Ibr, Wfe}
use Rattle.wfe_core.specs.words.declared.config.Config.{Config}
use Rattle.wfe_core.specs.words.declared.layout.Layout.{Layout}
use Rattle.wfe_core.specs.defs.declared.call.Answer.{Answer}
use Rattle.wfe_core.specs.defs.declared.event.Event.{Event}
use Rattle.wfe_core.specs.defs.declared.lifetime.Interval.{Interval}
use Rattle.wfe_core.specs.declared.post.Post.{Post}
use Rattle.wfe_core.specs.Desks.{Desk}
use Rattle.wfe_core.specs.Posts.{withdrawn}
use Rattle.wfe_core.specs.Phases.{Base}
use Rattle.wfe_core.specs.Rounds.{scheme_of, index_of, taken_of, begin_span, begin_base, protect_at, clear_base, clear_post, finish_base, opening, round_by, round, tidy_by, given_up, closed, finishing_by, finishing, clearing_by, clearing, clearing_next_by, clearing_next}
use Rattle.wfe_core.specs.Calls.{AfterScan, Repeated, Task, Gets, Changes, Holds, Enqueues, Dequeues, Next, Again, MakeRoom, Answering, Retiring}
use Rattle.wfe_core.specs.words.Schemes.{moves}
use Rattle.inv_rows.specs.Shapes.Slots.{TakenIn, TaskIn, LaterIn, NextIn, ProtectIn, BaseIn, PhaseIn, StandsIn, PostIn, ListIn, TurnSlots}
use Rattle.inv_rows.proofs.Shapes.Growth.{finish_is, clear_is}
use Rattle.wfe_core.proofs.Schemes.{each_begin, each_clear_post}

-- what stands after a change at one index
stands_set : (R : Option ℕ → ℕ → Type 0) (xs : List (Option ℕ)) (i j : ℕ) (x : Option ℕ) → (i ≡ j → R x j) → R (get_or xs j None) j → R (get_or (set xs i x) j None) j
stands_set R xs i j x h g = by (j == i) refl (nat_lt i (length xs)) refl
  where
    by : (b : Bool) → (j == i) ≡ b → (c : Bool) → nat_lt i (length xs) ≡ c → R (get_or (set xs i x) j None) j
    by true e true f = let k : i ≡ j = grind (arith, nat_tests) in let l : i < length xs = grind (arith, nat_tests) in
        subst (λ (y : Option ℕ). R y j) (subst (λ (n : ℕ). x ≡ get_or (set xs i x) n None) k (sym (get_or-set_same xs i x None l))) (h k)
    by true e false f = subst (λ (ys : List (Option ℕ)). R (get_or ys j None) j) (sym (set_past xs i x (grind (arith, nat_tests)))) g
    by false e c f = subst (λ (y : Option ℕ). R y j) (sym (get_or-set_other xs i j x None (grind (arith, nat_tests)))) g

pub row_slots : (layout : Layout) (post : Post) (index slot : ℕ) → slot ≤ layout.config.slots → index < layout.config.indexes → PostIn layout post → PostIn layout (Rattle.wfe_core.specs.Posts.with_row post index slot)
row_slots layout post index slot a b q = λ j. stands_set (StandsIn layout) post.standing index j (Some slot) (λ e. (a, subst (λ (n : ℕ). n < layout.config.indexes) e b)) (q j)

pub withdrawn_slots : (layout : Layout) (post : Post) (index : ℕ) → PostIn layout post → PostIn layout (withdrawn post index)
withdrawn_slots layout post index q = λ j. stands_set (StandsIn layout) post.standing index j None (λ e. tt) (q j)

-- a protection begins with no link
pub at_first : (s : SchemeKind) (slots : ℕ) → ProtectIn slots (protect_at s)
at_first He slots = tt
at_first Ibr slots = tt
at_first Wfe slots = tt
at_first Hp slots = tt

pub opening_slots : (layout : Layout) (task : Task) (post : Post) (desk : Desk) → TaskIn layout.config task → PhaseIn layout desk (opening task post)
opening_slots layout (Gets key) post desk t = (t, record { root_in = tt; at_in = at_first (scheme_of post) layout.config.slots })
opening_slots layout (Changes kept) post desk t = (t, record { root_in = tt; at_in = at_first (scheme_of post) layout.config.slots })
opening_slots layout (Holds key) post desk t = (t, record { root_in = tt; at_in = at_first (scheme_of post) layout.config.slots })
opening_slots layout (Enqueues kept) post desk t = (t, record { root_in = tt; at_in = at_first (scheme_of post) layout.config.slots })
opening_slots layout Dequeues post desk t = (t, record { root_in = tt; at_in = at_first (scheme_of post) layout.config.slots })

begun_by : (layout : Layout) (task : Task) (post : Post) (desk : Desk) (x : Option Interval) → TaskIn layout.config task → PhaseIn layout desk (round_by task post (begin_span x))
begun_by layout task post desk None t = (t, tt)
begun_by layout task post desk (Some span) t = opening_slots layout task post desk t

round_at : (layout : Layout) (task : Task) (post : Post) (desk : Desk) (s : SchemeKind) → TaskIn layout.config task → PhaseIn layout desk (round_by task post (begin_base s post))
round_at layout task post desk s t =
    each_begin s post (λ (base : Option Base). PhaseIn layout desk (round_by task post base))
    (opening_slots layout task post desk t)
    (begun_by layout task post desk post.span t)

pub round_slots : (layout : Layout) (task : Task) (post : Post) (desk : Desk) → TaskIn layout.config task → PhaseIn layout desk (round task post)
round_slots layout task post desk t = round_at layout task post desk (scheme_of post) t

-- a task's row
task_taken : (config : Config) (task : Task) → TaskIn config task → TakenIn config.slots (taken_of task)
task_taken config (Gets key) t = tt
task_taken config (Changes kept) t = t.taken
task_taken config (Holds key) t = tt
task_taken config (Enqueues kept) t = t.taken
task_taken config Dequeues t = tt

given_up_slots : (layout : Layout) (answer : Answer) (post : Post) (desk : Desk) (told : List Event) (x : Option ℕ) → TakenIn layout.config.slots x → PostIn layout post → ListIn layout.config.slots desk.list → TurnSlots layout (given_up answer post desk told x)
given_up_slots layout answer post desk told None t q l = record { post = q; list = l; phase = tt }
given_up_slots layout answer post desk told (Some slot) t q l = record { post = q; list = l; phase = (tt, t) }

-- the clock is to be moved, where retirements do that, and the list to be scanned
pub tidy_slots : (layout : Layout) (later : AfterScan) (moving : Bool) (post : Post) (desk : Desk) → LaterIn layout.config later → PhaseIn layout desk (tidy_by moving later post)
tidy_slots layout later true post desk t = (t, tt)
tidy_slots layout later false post desk t = (t, refl)

pub closed_slots : (layout : Layout) (task : Task) (next : Next) (post : Post) (desk : Desk) (told : List Event) → TaskIn layout.config task → NextIn layout.config.slots next → PostIn layout post → ListIn layout.config.slots desk.list → TurnSlots layout (closed task next post desk told)
closed_slots layout task Again post desk told t n q l = record { post = q; list = l; phase = round_slots layout task post desk t }
closed_slots layout task MakeRoom post desk told t n q l = record { post = q; list = l; phase = tidy_slots layout (Repeated task) (moves (scheme_of post)) post desk t }
closed_slots layout task (Answering answer) post desk told t n q l = given_up_slots layout answer post desk told (taken_of task) (task_taken layout.config task t) q l
closed_slots layout task (Retiring slot answer) post desk told t n q l = record { post = q; list = l; phase = (tt, n) }

finishing_by_slots : (layout : Layout) (task : Task) (next : Next) (post : Post) (desk : Desk) (told : List Event) (x : Option Base) → finish_base (scheme_of post) post ≡ x → TaskIn layout.config task → NextIn layout.config.slots next → PostIn layout post → ListIn layout.config.slots desk.list → TurnSlots layout (finishing_by task next post desk told x)
finishing_by_slots layout task next post desk told None e t n q l = closed_slots layout task next post desk told t n q l
finishing_by_slots layout task next post desk told (Some base) e t n q l = record { post = q; list = l; phase = ((t, n), subst (BaseIn layout) (sym (finish_is (scheme_of post) post base e).is) tt) }

pub finishing_slots : (layout : Layout) (task : Task) (next : Next) (post : Post) (desk : Desk) (told : List Event) → TaskIn layout.config task → NextIn layout.config.slots next → PostIn layout post → ListIn layout.config.slots desk.list → TurnSlots layout (finishing task next post desk told)
finishing_slots layout task Again post desk told t n q l = closed_slots layout task Again post desk told t n q l
finishing_slots layout task MakeRoom post desk told t n q l = finishing_by_slots layout task MakeRoom post desk told (finish_base (scheme_of post) post) refl t n q l
finishing_slots layout task (Answering answer) post desk told t n q l = finishing_by_slots layout task (Answering answer) post desk told (finish_base (scheme_of post) post) refl t n q l
finishing_slots layout task (Retiring slot answer) post desk told t n q l = finishing_by_slots layout task (Retiring slot answer) post desk told (finish_base (scheme_of post) post) refl t n q l

clear_post_slots : (layout : Layout) (s : SchemeKind) (post : Post) (index : ℕ) → PostIn layout post → PostIn layout (clear_post s post index)
clear_post_slots layout s post index q = each_clear_post s post index (λ (p : Post). PostIn layout p) q (withdrawn_slots layout post index q)

clearing_by_slots : (layout : Layout) (task : Task) (next : Next) (post : Post) (desk : Desk) (told : List Event) (x : Option Base) → clear_base (scheme_of post) (index_of task) ≡ x → TaskIn layout.config task → NextIn layout.config.slots next → PostIn layout post → ListIn layout.config.slots desk.list → TurnSlots layout (clearing_by task next post desk told x)
clearing_by_slots layout task next post desk told None e t n q l = finishing_slots layout task next (clear_post (scheme_of post) post (index_of task)) desk _ t n (clear_post_slots layout (scheme_of post) post (index_of task) q) l
clearing_by_slots layout task next post desk told (Some base) e t n q l = record { post = q; list = l; phase = ((t, n), subst (BaseIn layout) (sym (clear_is (scheme_of post) (index_of task) base e).is) tt) }

pub clearing_slots : (layout : Layout) (task : Task) (next : Next) (post : Post) (desk : Desk) (told : List Event) → TaskIn layout.config task → NextIn layout.config.slots next → PostIn layout post → ListIn layout.config.slots desk.list → TurnSlots layout (clearing task next post desk told)
clearing_slots layout task next post desk told t n q l = clearing_by_slots layout task next post desk told (clear_base (scheme_of post) (index_of task)) refl t n q l

clearing_next_by_slots : (layout : Layout) (next : Next) (post : Post) (desk : Desk) (told : List Event) (x : Option Base) → clear_base (scheme_of post) 1 ≡ x → NextIn layout.config.slots next → PostIn layout post → ListIn layout.config.slots desk.list → TurnSlots layout (clearing_next_by next post desk told x)
clearing_next_by_slots layout next post desk told None e n q l = clearing_slots layout Dequeues next (clear_post (scheme_of post) post 1) desk _ tt n (clear_post_slots layout (scheme_of post) post 1 q) l
clearing_next_by_slots layout next post desk told (Some base) e n q l = record { post = q; list = l; phase = (n, subst (BaseIn layout) (sym (clear_is (scheme_of post) 1 base e).is) tt) }

pub clearing_next_slots : (layout : Layout) (next : Next) (post : Post) (desk : Desk) (told : List Event) → NextIn layout.config.slots next → PostIn layout post → ListIn layout.config.slots desk.list → TurnSlots layout (clearing_next next post desk told)
clearing_next_slots layout next post desk told n q l = clearing_next_by_slots layout next post desk told (clear_base (scheme_of post) 1) refl n q l
