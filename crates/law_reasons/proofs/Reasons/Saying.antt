-- A protection that has concluded has told so in its call: Null where its link is null, else that its row is held.
use Rattle.std.proofs.Common.{ℕ, ◌≡◌, ◌+◌, ◌-◌, Bool, true, false, List, [], ◌∷◌, ◌++◌, Option, Some, None, refl, sym, ◌∙◌, subst, arith}
use Rattle.std.proofs.lemmas.Bool.Decides.{nat_tests}
use Rattle.std.specs.List.{list_any}
use Rattle.std.specs.Prelude.{◌==◌, ◌&&◌, ◌||◌, nat_le, nat_lt, if◌then◌else◌}
use Rattle.law_scans.specs.inv.model.words.Packed.{read_request}
use Rattle.law_scans.specs.inv.model.words.declared.config.Config.{Config}
use Rattle.law_scans.specs.inv.model.words.declared.packed.Request.{Request}
use Rattle.law_scans.specs.inv.model.words.declared.packed.Request.TheVariants as requests
use Rattle.law_scans.specs.inv.model.words.declared.layout.Layout.{Layout}
use Rattle.law_scans.specs.inv.model.defs.declared.call.Answer.{Answer}
use Rattle.law_scans.specs.inv.model.defs.declared.event.Event.{Event}
use Rattle.law_scans.specs.inv.model.defs.declared.event.Event.TheVariants as events
use Rattle.law_scans.specs.inv.model.defs.declared.event.Root.{Root}
use Rattle.law_scans.specs.inv.model.declared.ends.FollowEnd.TheVariants as follow_ends
use Rattle.law_scans.specs.inv.model.declared.ends.ProtectEnd.TheVariants as protect_ends
use Rattle.law_scans.specs.inv.model.declared.post.Post.{Post}
use Rattle.law_scans.specs.inv.model.Desks.{Desk}
use Rattle.law_scans.specs.inv.model.Locals.{turn, told_end}
use Rattle.law_scans.specs.inv.model.Machine as machine
use Rattle.law_scans.specs.inv.model.Memory.{bump}
use Rattle.law_scans.specs.inv.model.Posts.{counted, publishes_index, stands, upper, reserves_helper}
use Rattle.law_scans.specs.inv.model.Phases.HazardAt.{FirstLink, PublishLink, CheckLink}
use Rattle.law_scans.specs.inv.model.words.Schemes.{has_one_interval, publishes_rows}
use Rattle.law_scans.specs.inv.model.Keep as keeps
use Rattle.law_scans.specs.inv.model.Protect as protects
use Rattle.law_scans.specs.inv.model.Rounds.{index_of, scheme_of}
use Rattle.law_scans.specs.inv.model.SlowPath as slow
use Rattle.law_scans.specs.inv.model.Steps as steps
use Rattle.law_scans.specs.inv.model.Phases.{Aim, Alone, Follows, Tries, Endless, Failed, ProtectAt, Base, Ending, Outcome, Goes, Ends, Turn}
use Rattle.law_scans.specs.inv.model.Phases.Ending.{Done, Protected, Followed, Allocated, Retired, Clocked}
use Rattle.law_scans.specs.inv.model.Phases.ProtectAt.{PublishEra, LoadLink, CheckClock, PublishRequest, CheckOwnClock, AnswerOwn, LoadAnswer, TakeAnswer, WithdrawRequest, WithdrawHelper, CheckUpper, ByHazard}
use Rattle.law_scans.specs.inv.model.Phases.Base.{Protect, Move}
use Rattle.law_scans.specs.inv.model.Calls.{Getting, Changing, Enqueuing, Dequeuing, Keeping, KeepAt, Loosens, LoadHeld, StoreHeld, Looks, Misses, HideSpan, MarkLeft, TakeList, MarkTaken, Work, Task, Why, Opens, FollowsHead, Phase, Idle, Runs, Scans, Works, CallTurn, CallOutcome, GoesOn, Answers}
use Rattle.law_scans.specs.inv.model.World.{World, finds, offered, told_in}
use Rattle.law_scans.proofs.inv.model.Facts.{same_number, both, first_of, rest_of, is_one_more}
use Rattle.law_scans.specs.inv.shapes.Frame.{phase_left}
use Rattle.law_scans.specs.inv.shapes.Seats.{Aimed, Run, Seats, task_root}
use Rattle.law_scans.proofs.inv.covers.Fresh.{resume_fresh, work_fresh}
use Rattle.law_scans.proofs.inv.covers.Scans.{scan_starts}
use Rattle.law_scans.specs.inv.covers.Tries.{is_start, starts_base}
use Rattle.law_scans.proofs.inv.ends.Ends.Stood.{held_told}
use Rattle.law_scans.proofs.inv.ends.Ends.Nulls.{null_told}
use Rattle.law_scans.specs.inv.ends.Nulls.{null_base, null_in}
use Rattle.law_scans.specs.inv.model.defs.Events.{is_null, is_held}
use Rattle.law_scans.specs.inv.ends.Standing.{is_end, holds_base, holds_in}
use Rattle.law_scans.specs.inv.history.Record.{Past, begins, own, told_since, tells_of}
use Rattle.law_scans.specs.inv.history.Record.Past.{Then}
use Rattle.law_scans.proofs.inv.ends.Origins.Plain.{is_move, ends_plain, out_moves, out_plain, moves_on, plain_after}
use Rattle.law_scans.proofs.inv.history.AllOf.{all_of}
use Rattle.law_scans.proofs.inv.Machines.{is_within, within_begins}
use Rattle.law_scans.specs.laws.StateAt.{has_told}
use Rattle.law_reasons.proofs.Reasons.Later.{Later, later_same, later_all}
use Rattle.law_scans.proofs.inv.ends.Handover.Asks.{run_of}
use Rattle.law_scans.proofs.inv.Inv.Ends.{task_end}

-- an event that a step tells was told in the call
counts_now : (n : ℕ) (begins kind own : Bool) → begins ≡ false → kind ≡ true → own ≡ true → nat_lt 0 (if begins then 0 else if kind && own then n + 1 else n) ≡ true
counts_now n true kind own h k o = absurd (cc)
counts_now n false true true h k o = grind (arith, nat_tests)
counts_now n false false own h k o = absurd (cc)
counts_now n false true false h k o = absurd (cc)

told_by_one : (i : ℕ) (kind : Event → Bool) (p : Past) (event : Event) (told : List Event) (now : Bool) → kind event ≡ now → is_within event ≡ true → all_of is_within told ≡ true → (now || list_any kind told) ≡ true
    → (list_any kind told ≡ true → has_told i kind (tells_of (Then p i event) i told) ≡ true) → has_told i kind (tells_of (Then p i event) i told) ≡ true
told_by_one i kind p event told true e y h k later =
    let l : Later i (Then p i event) (tells_of (Then p i event) i told) = later_all i i (Then p i event) (Then p i event) told h (later_same i (Then p i event)) in
    l.told kind (counts_now (told_since (begins i) (own i kind) p) (begins i p i event) (kind event) (i == i) (within_begins i i p event y) e (same_number i))
told_by_one i kind p event told false e y h k later = later k

pub told_now : (i : ℕ) (kind : Event → Bool) (p : Past) (told : List Event) → all_of is_within told ≡ true → list_any kind told ≡ true → has_told i kind (tells_of p i told) ≡ true
told_now i kind p [] h k = absurd (cc)
told_now i kind p (event ∷ told) h k =
    told_by_one i kind p event told (kind event) refl (first_of (is_within event) (all_of is_within told) h) (rest_of (is_within event) (all_of is_within told) h) k
    (λ m. told_now i kind (Then p i event) told (rest_of (is_within event) (all_of is_within told) h) m)

-- by q, the call of seat i has told what a protection concludes at this index with this link
pub record Said (i index : ℕ) (root : Root) (link : ℕ) (q : Past) : Type 0 where
  pub null : (link == 0) ≡ true → has_told i (is_null index) q ≡ true
  pub held : is_end root ≡ true → (slot : ℕ) → link ≡ slot + 1 → has_told i (is_held index slot) q ≡ true

abbrev pub AtSays : ℕ → ℕ → Root → ProtectAt → Past → Type 0
AtSays i index root (WithdrawRequest link era) q = Said i index root link q
AtSays i index root (WithdrawHelper link era) q = Said i index root link q
AtSays i index root at q = Unit {0}

abbrev pub BaseSays : ℕ → Base → Past → Type 0
BaseSays i (Protect aim index root steps at) q = AtSays i index root at q
BaseSays i base q = Unit {0}

abbrev pub PhaseSays : ℕ → Phase → Past → Type 0
PhaseSays i Idle q = Unit {0}
PhaseSays i (Runs why base) q = BaseSays i base q
PhaseSays i (Scans later at) q = Unit {0}
PhaseSays i (Works work) q = Unit {0}

-- so it lasts
said_lasts : (i index : ℕ) (root : Root) (link : ℕ) (p q : Past) → Later i p q → Said i index root link p → Said i index root link q
said_lasts i index root link p q l h = record { null = λ e. l.told (is_null index) (h.null e); held = λ f slot e. l.told (is_held index slot) (h.held f slot e) }

at_lasts : (i index : ℕ) (root : Root) (at : ProtectAt) (p q : Past) → Later i p q → AtSays i index root at p → AtSays i index root at q
at_lasts i index root (WithdrawRequest link era) p q l h = said_lasts i index root link p q l h
at_lasts i index root (WithdrawHelper link era) p q l h = said_lasts i index root link p q l h
at_lasts i index root at p q l h = tt

base_lasts : (i : ℕ) (base : Base) (p q : Past) → Later i p q → BaseSays i base p → BaseSays i base q
base_lasts i (Protect aim index root steps at) p q l h = at_lasts i index root at p q l h
base_lasts i base p q l h = tt

pub says_lasts : (i : ℕ) (phase : Phase) (p q : Past) → Later i p q → PhaseSays i phase p → PhaseSays i phase q
says_lasts i Idle p q l h = tt
says_lasts i (Runs why base) p q l h = base_lasts i base p q l h
says_lasts i (Scans later at) p q l h = tt
says_lasts i (Works work) p q l h = tt

-- a phase in which no protection has concluded
start_at : (i index : ℕ) (root : Root) (aim : Aim) (steps : ℕ) (at : ProtectAt) (q : Past) → starts_base (Protect aim index root steps at) ≡ true → AtSays i index root at q
start_at i index root aim steps (WithdrawRequest link era) q h = absurd (cc)
start_at i index root aim steps (WithdrawHelper link era) q h = absurd (cc)
start_at i index root aim steps at q h = tt

start_base : (i : ℕ) (base : Base) (q : Past) → starts_base base ≡ true → BaseSays i base q
start_base i (Protect aim index root steps at) q h = start_at i index root aim steps at q h
start_base i base q h = tt

pub start_says : (i : ℕ) (phase : Phase) (q : Past) → is_start phase ≡ true → PhaseSays i phase q
start_says i Idle q h = tt
start_says i (Runs why base) q h = start_base i base q h
start_says i (Scans later at) q h = tt
start_says i (Works work) q h = tt

-- how a protection at this index goes on or ends
abbrev EndSays : ℕ → ℕ → Root → Ending → Past → Type 0
EndSays i index root (Protected protect_ends.Null) q = has_told i (is_null index) q ≡ true
EndSays i index root (Protected (protect_ends.Held slot era)) q = is_end root ≡ true → has_told i (is_held index slot) q ≡ true
EndSays i index root (Followed follow_ends.NoNext) q = has_told i (is_null index) q ≡ true
EndSays i index root ending q = Unit {0}

abbrev OutSays : ℕ → ℕ → Root → Outcome → Past → Type 0
OutSays i index root (Goes base) q = BaseSays i base q
OutSays i index root (Ends ending) q = EndSays i index root ending q

alone_says : (i index : ℕ) (root : Root) (link era : ℕ) (q : Past) (null : Bool) → (link == 0) ≡ null → Said i index root link q → EndSays i index root (Protected (if null then protect_ends.Null else protect_ends.Held (link - 1) era)) q
alone_says i index root link era q true e h = h.null e
alone_says i index root link era q false e h = λ f. h.held f (link - 1) (grind (arith, nat_tests))

concluded_says : (i : ℕ) (aim : Aim) (index : ℕ) (root : Root) (n link era : ℕ) (post : Post) (told : List Event) (q : Past) → Said i index root link q → OutSays i index root (protects.concluded aim index root n link era post told).outcome q
concluded_says i Alone index root n link era post told q h = alone_says i index root link era q (link == 0) refl h
concluded_says i Follows index root n link era post told q h = by_null (link == 0) refl
  where
    by_null : (null : Bool) → (link == 0) ≡ null → OutSays i index root (protects.concluded Follows index root n link era post told).outcome q
    by_null true e = rw e (h.null e)
    by_null false e = rw e tt

either_says : (i index : ℕ) (root : Root) (one two : Turn) (c : Bool) (q : Past) → (c ≡ true → OutSays i index root one.outcome q) → (c ≡ false → OutSays i index root two.outcome q) → OutSays i index root (if c then one else two).outcome q
either_says i index root one two true q h k = h refl
either_says i index root one two false q h k = k refl

-- what the step tells where it concludes
record Now (i : ℕ) (post : Post) (base : Base) (found : ℕ) (q : Past) : Type 0 where
  pub null : (j : ℕ) → null_base post base found j ≡ true → has_told i (is_null j) q ≡ true
  pub held : (j s : ℕ) → holds_base post base found j s ≡ true → has_told i (is_held j s) q ≡ true

check_said : (i : ℕ) (post : Post) (aim : Aim) (index : ℕ) (root : Root) (steps era : ℕ) (tries : Tries) (link found : ℕ) (q : Past) → (found == era) ≡ true → Now i post (Protect aim index root steps (CheckClock era tries link)) found q → Said i index root link q
check_said i post aim index root steps era tries link found q e n = record {
  null = λ z. n.null index (both (index == index) ((found == era) && (link == 0)) (same_number index) (both (found == era) (link == 0) e z));
  held = λ f slot l. n.held index slot (both (index == index) ((found == era) && (is_end root && link == slot + 1)) (same_number index) (both (found == era) (is_end root && link == slot + 1) e (both (is_end root) (link == slot + 1) f (is_one_more link slot l))));
}

upper_said : (i : ℕ) (post : Post) (aim : Aim) (index : ℕ) (root : Root) (steps link found : ℕ) (q : Past) → (found == upper post.span) ≡ true → Now i post (Protect aim index root steps (CheckUpper link)) found q → Said i index root link q
upper_said i post aim index root steps link found q e n = record {
  null = λ z. n.null index (both (index == index) ((found == upper post.span) && (link == 0)) (same_number index) (both (found == upper post.span) (link == 0) e z));
  held = λ f slot l. n.held index slot (both (index == index) ((found == upper post.span) && (is_end root && link == slot + 1)) (same_number index) (both (found == upper post.span) (is_end root && link == slot + 1) e (both (is_end root) (link == slot + 1) f (is_one_more link slot l))));
}

take_said : (i : ℕ) (post : Post) (aim : Aim) (index : ℕ) (root : Root) (steps link era found : ℕ) (q : Past) → Now i post (Protect aim index root steps (TakeAnswer link era)) found q → Said i index root link q
take_said i post aim index root steps link era found q n = record {
  null = λ z. n.null index (both (index == index) (link == 0) (same_number index) z);
  held = λ f slot l. n.held index slot (both (index == index) (is_end root && link == slot + 1) (same_number index) (both (is_end root) (link == slot + 1) f (is_one_more link slot l)));
}

-- where rows are published the link is loaded now
first_said : (i : ℕ) (post : Post) (aim : Aim) (index : ℕ) (root : Root) (steps found : ℕ) (q : Past) → (found == 0) ≡ true → Now i post (Protect aim index root steps (ByHazard FirstLink)) found q → Said i index root found q
first_said i post aim index root steps found q e n = record {
  null = λ z. n.null index (both (index == index) (found == 0) (same_number index) z);
  held = λ f slot l. absurd (grind (arith, nat_tests));
}

again_said : (i : ℕ) (post : Post) (aim : Aim) (index : ℕ) (root : Root) (steps link found : ℕ) (q : Past) → (found == link || found == 0) ≡ true → Now i post (Protect aim index root steps (ByHazard (CheckLink link))) found q → Said i index root found q
again_said i post aim index root steps link found q e n = record {
  null = λ z. n.null index (both (index == index) (found == 0) (same_number index) z);
  held = λ f slot l.
      let same : (found == link) ≡ true = grind (arith, nat_tests) in
      let row : link ≡ slot + 1 = grind (arith, nat_tests) in
      n.held index slot (both (index == index) ((found == link) && (is_end root && link == slot + 1)) (same_number index) (both (found == link) (is_end root && link == slot + 1) same (both (is_end root) (link == slot + 1) f (is_one_more link slot row))));
}

trying_says : (i index : ℕ) (root : Root) (config : Config) (era : ℕ) (tries : Tries) (q : Past) → AtSays i index root (protects.trying config era tries) q
trying_says i index root config era Endless q = tt
trying_says i index root config era (Failed count) q = by_more (nat_le config.tries count)
  where
    by_more : (more : Bool) → AtSays i index root (if more then PublishRequest else LoadLink era (Failed count)) q
    by_more true = tt
    by_more false = tt

answer_says : (i index : ℕ) (root : Root) (x : Option Request) (q : Past) → AtSays i index root (slow.answer_in x) q
answer_says i index root None q = tt
answer_says i index root (Some (requests.Answered link era)) q = tt
answer_says i index root (Some (requests.Pending tag at word)) q = tt
answer_says i index root (Some requests.Idle) q = tt

lost_says : (i index : ℕ) (root : Root) (first : ℕ) (last : Bool) (found : ℕ) (q : Past) → AtSays i index root (slow.lost_turn first last found) q
lost_says i index root first true found q = tt
lost_says i index root first false found q = tt

protect_says : (i : ℕ) (aim : Aim) (index : ℕ) (root : Root) (steps n : ℕ) (at : ProtectAt) (post : Post) (found : ℕ) (q : Past) → AtSays i index root at q → Now i post (Protect aim index root steps at) found q → OutSays i index root (machine.protect_turn aim index root n at (counted post) found).outcome q
protect_says i aim index root steps n (PublishEra era tries) post found q h e = trying_says i index root post.layout.config era tries q
protect_says i aim index root steps n (CheckClock era tries link) post found q h e =
    either_says i index root _ _ (found == era) q (λ c. concluded_says i aim index root n link era _ _ q (check_said i post aim index root steps era tries link found q c e)) (λ c. tt)
protect_says i aim index root steps n (CheckOwnClock first era last link) post found q h e = either_says i index root _ _ (found == era) q (λ c. tt) (λ c. lost_says i index root first last found q)
protect_says i aim index root steps n (AnswerOwn first era link) post found q h e = either_says i index root _ _ (found == slow.own_request post index root) q (λ c. tt) (λ c. answer_says i index root (read_request found) q)
protect_says i aim index root steps n (LoadAnswer first) post found q h e = answer_says i index root (read_request found) q
protect_says i aim index root steps n (TakeAnswer link era) post found q h e = take_said i post aim index root steps link era found q e
protect_says i aim index root steps n (WithdrawRequest link era) post found q h e = h
protect_says i aim index root steps n (WithdrawHelper link era) post found q h e = concluded_says i aim index root n link era (counted post) (reserves_helper (counted post) 0) q h
protect_says i aim index root steps n (CheckUpper link) post found q h e =
    either_says i index root _ _ (found == upper post.span) q (λ c. concluded_says i aim index root n link found _ _ q (upper_said i post aim index root steps link found q c e)) (λ c. tt)
protect_says i aim index root steps n (ByHazard FirstLink) post found q h e =
    either_says i index root _ _ (found == 0) q (λ c. concluded_says i aim index root n found 0 _ _ q (first_said i post aim index root steps found q c e)) (λ c. tt)
protect_says i aim index root steps n (ByHazard (PublishLink link)) post found q h e = tt
protect_says i aim index root steps n (ByHazard (CheckLink link)) post found q h e =
    either_says i index root _ _ (found == link || found == 0) q (λ c. concluded_says i aim index root n found 0 _ _ q (again_said i post aim index root steps link found q c e)) (λ c. tt)
protect_says i aim index root steps n at post found q h e = tt

-- what it says to the call that it is run for
abbrev pub WhySays : ℕ → Why → Ending → Past → Type 0
WhySays i (Opens task) (Protected protect_ends.Null) q = has_told i (is_null (index_of task)) q ≡ true
WhySays i (Opens task) (Protected (protect_ends.Held slot era)) q = has_told i (is_held (index_of task) slot) q ≡ true
WhySays i (FollowsHead head tail) (Followed follow_ends.NoNext) q = has_told i (is_null 1) q ≡ true
WhySays i why ending q = Unit {0}

abbrev pub RunSays : ℕ → Why → Outcome → Past → Type 0
RunSays i why (Goes base) q = BaseSays i base q
RunSays i why (Ends ending) q = WhySays i why ending q

task_says : (i buckets : ℕ) (task : Task) (index : ℕ) (root : Root) (ending : Ending) (q : Past) → index ≡ index_of task → root ≡ task_root buckets task → EndSays i index root ending q → WhySays i (Opens task) ending q
task_says i buckets task index root (Protected protect_ends.Null) q e r h = subst (λ (j : ℕ). has_told i (is_null j) q ≡ true) e h
task_says i buckets task index root (Protected (protect_ends.Held slot era)) q e r h = subst (λ (j : ℕ). has_told i (is_held j slot) q ≡ true) e (h (subst (λ (x : Root). is_end x ≡ true) (sym r) (task_end buckets task)))
task_says i buckets task index root Done q e r h = tt
task_says i buckets task index root (Followed end) q e r h = tt
task_says i buckets task index root (Allocated end) q e r h = tt
task_says i buckets task index root (Retired life) q e r h = tt
task_says i buckets task index root (Clocked clock) q e r h = tt

follow_says : (i head tail index : ℕ) (root : Root) (ending : Ending) (q : Past) → index ≡ 1 → EndSays i index root ending q → WhySays i (FollowsHead head tail) ending q
follow_says i head tail index root (Followed follow_ends.NoNext) q e h = subst (λ (j : ℕ). has_told i (is_null j) q ≡ true) e h
follow_says i head tail index root (Followed (follow_ends.Followed slot)) q e h = tt
follow_says i head tail index root (Followed (follow_ends.RootMoved seen)) q e h = tt
follow_says i head tail index root (Protected end) q e h = tt
follow_says i head tail index root Done q e h = tt
follow_says i head tail index root (Allocated end) q e h = tt
follow_says i head tail index root (Retired life) q e h = tt
follow_says i head tail index root (Clocked clock) q e h = tt

why_says : (i buckets : ℕ) (why : Why) (aim : Aim) (index : ℕ) (root : Root) (ending : Ending) (q : Past) → Aimed buckets why aim index root → EndSays i index root ending q → WhySays i why ending q
why_says i buckets (Opens task) aim index root ending q a h = task_says i buckets task index root ending q a.at a.of h
why_says i buckets (FollowsHead head tail) aim index root ending q a h = follow_says i head tail index root ending q a.at h
why_says i buckets why aim index root ending q a h = tt

run_says : (i buckets : ℕ) (why : Why) (aim : Aim) (index : ℕ) (root : Root) (outcome : Outcome) (q : Past) → Aimed buckets why aim index root → OutSays i index root outcome q → RunSays i why outcome q
run_says i buckets why aim index root (Goes base) q a h = h
run_says i buckets why aim index root (Ends ending) q a h = why_says i buckets why aim index root ending q a h

-- other machines
plain_end : (i : ℕ) (why : Why) (ending : Ending) (q : Past) → ends_plain ending ≡ true → WhySays i why ending q
plain_end i (Opens task) (Protected protect_ends.Null) q p = absurd (cc)
plain_end i (Opens task) (Protected (protect_ends.Held slot era)) q p = absurd (cc)
plain_end i (FollowsHead head tail) (Followed follow_ends.NoNext) q p = absurd (cc)
plain_end i why ending q p = tt

plain_says : (i : ℕ) (why : Why) (outcome : Outcome) (q : Past) → out_plain outcome ≡ true → RunSays i why outcome q
plain_says i why (Goes base) q p = start_base i base q p
plain_says i why (Ends ending) q p = plain_end i why ending q p

move_base : (i : ℕ) (base : Base) (q : Past) → is_move base ≡ true → BaseSays i base q
move_base i (Protect aim index root steps at) q h = absurd (cc)
move_base i base q h = tt

moved_says : (i : ℕ) (why : Why) (outcome : Outcome) (q : Past) → out_moves outcome ≡ true → RunSays i why outcome q
moved_says i why (Goes base) q p = move_base i base q p
moved_says i why (Ends ending) q p = plain_end i why ending q p

machine_says : (i : ℕ) (layout : Layout) (why : Why) (base : Base) (post : Post) (found : ℕ) (q : Past) → Run layout why base post → BaseSays i base q → Now i post base found q → RunSays i why (machine.after base (counted post) found).outcome q
machine_says i layout why (Protect aim index root steps at) post found q r h e = run_says i layout.config.buckets why aim index root _ q r.shape (protect_says i aim index root steps (bump steps) at post found q h e)
machine_says i layout why (Move at) post found q r h e = moved_says i why _ q (moves_on at (counted post) found)
machine_says i layout why base post found q r h e = plain_says i why (machine.after base (counted post) found).outcome q (plain_after base (counted post) found refl)

-- what a step tells besides End
no_end : (kind : Event → Bool) (post : Post) (outcome : CallOutcome) → ((steps : ℕ) (answer : Answer) → kind (events.End steps answer) ≡ false) → list_any kind (told_end post outcome) ≡ true → ⊥
no_end kind post (GoesOn phase) f h = cc
no_end kind post (Answers answer) f h = let e = f post.steps answer in let g : list_any kind (events.End post.steps answer ∷ []) ≡ false = rw e refl in cc

before_end : (kind : Event → Bool) (told : List Event) (post : Post) (outcome : CallOutcome) → ((steps : ℕ) (answer : Answer) → kind (events.End steps answer) ≡ false) → list_any kind (told ++ told_end post outcome) ≡ true → list_any kind told ≡ true
before_end kind [] post outcome f h = absurd (no_end kind post outcome f h)
before_end kind (event ∷ told) post outcome f h = by_one (kind event) (λ k. before_end kind told post outcome f k) h
  where
    by_one : (now : Bool) → (list_any kind (told ++ told_end post outcome) ≡ true → list_any kind told ≡ true) → (now || list_any kind (told ++ told_end post outcome)) ≡ true → (now || list_any kind told) ≡ true
    by_one true later k = refl
    by_one false later k = later k

-- where the step has told so much of its call, besides End
abbrev pub Tells : World → ℕ → Past → Type 0
Tells w i q = (kind : Event → Bool) → list_any kind (turn (offered w i) (finds w i)).told ≡ true → has_told i kind q ≡ true

step_tells : (w : World) (i : ℕ) (q : Past) (kind : Event → Bool) → Tells w i q → ((steps : ℕ) (answer : Answer) → kind (events.End steps answer) ≡ false) → list_any kind (told_in w i) ≡ true → has_told i kind q ≡ true
step_tells w i q kind t f h =
    let made : CallTurn = turn (offered w i) (finds w i) in
    t kind (before_end kind made.told made.post made.outcome f h)

now_of : (w : World) (i : ℕ) (why : Why) (base : Base) (q : Past) → (w.seat i).phase ≡ Runs why base → Tells w i q → Now i (w.seat i).post base (finds w i) q
now_of w i why base q e t = record {
  null = λ j h. step_tells w i q (is_null j) t (λ steps answer. refl) (null_told w i j ∙ subst (λ (p : Phase). null_in (w.seat i).post p (finds w i) j ≡ true) (sym e) h);
  held = λ j s h. step_tells w i q (is_held j s) t (λ steps answer. refl) (held_told w i j s ∙ subst (λ (p : Phase). holds_in (w.seat i).post p (finds w i) j s ≡ true) (sym e) h);
}

-- what a machine's end says to its call
pub ends_say : (w : World) (i : ℕ) (why : Why) (base : Base) (q : Past) → Seats w → (w.seat i).phase ≡ Runs why base → Tells w i q → PhaseSays i (w.seat i).phase q → RunSays i why (machine.after base (counted (w.seat i).post) (finds w i)).outcome q
ends_say w i why base q s e t h =
    machine_says i w.layout why base (w.seat i).post (finds w i) q (run_of w i why base s e) (subst (λ (p : Phase). PhaseSays i p q) e h) (now_of w i why base q e t)

resumed_says : (i : ℕ) (why : Why) (desk : Desk) (post : Post) (told : List Event) (outcome : Outcome) (q : Past) → RunSays i why outcome q → PhaseSays i (phase_left (steps.resumed why desk post told outcome).outcome) q
resumed_says i why desk post told (Goes base) q h = h
resumed_says i why desk post told (Ends ending) q h = start_says i (phase_left (steps.resume why ending post desk told).outcome) q (resume_fresh why ending post desk told).starts

-- a step of a call's own
copied_says : (i from index : ℕ) (post : Post) (desk : Desk) (reserved : List Event) (x : Option ℕ) (q : Past) → PhaseSays i (phase_left (keeps.copied from index post desk reserved x).outcome) q
copied_says i from index post desk reserved None q = tt
copied_says i from index post desk reserved (Some slot) q = tt

load_says : (i from index : ℕ) (post : Post) (desk : Desk) (found : ℕ) (one : Bool) (q : Past) → PhaseSays i (phase_left (keeps.load_held from index post desk found one).outcome) q
load_says i from index post desk found true q = copied_says i from index post desk [] (stands post from) q
load_says i from index post desk found false q = tt

keep_says : (i : ℕ) (at : KeepAt) (post : Post) (desk : Desk) (found : ℕ) (q : Past) → PhaseSays i (phase_left (keeps.keep_turn at post desk found).outcome) q
keep_says i (Loosens let_go) post desk found q = start_says i _ q (work_fresh (Keeping (Loosens let_go)) post desk found refl).starts
keep_says i (LoadHeld from index) post desk found q = load_says i from index post desk found (has_one_interval (scheme_of post)) q
keep_says i (StoreHeld from index era) post desk found q = copied_says i from index post desk (publishes_index (publishes_rows (scheme_of post)) post index era) (stands post from) q
keep_says i (Looks index key at) post desk found q = start_says i _ q (work_fresh (Keeping (Looks index key at)) post desk found refl).starts
keep_says i (Misses index) post desk found q = tt
keep_says i HideSpan post desk found q = tt
keep_says i MarkLeft post desk found q = tt
keep_says i (TakeList place) post desk found q = start_says i _ q (work_fresh (Keeping (TakeList place)) post desk found refl).starts
keep_says i (MarkTaken place count) post desk found q = tt

work_says : (i : ℕ) (work : Work) (post : Post) (desk : Desk) (found : ℕ) (q : Past) → PhaseSays i (phase_left (steps.work_turn work post desk found).outcome) q
work_says i (Getting key at) post desk found q = start_says i _ q (work_fresh (Getting key at) post desk found refl).starts
work_says i (Changing kept at) post desk found q = start_says i _ q (work_fresh (Changing kept at) post desk found refl).starts
work_says i (Enqueuing kept at) post desk found q = start_says i _ q (work_fresh (Enqueuing kept at) post desk found refl).starts
work_says i (Dequeuing at) post desk found q = start_says i _ q (work_fresh (Dequeuing at) post desk found refl).starts
work_says i (Keeping at) post desk found q = keep_says i at post desk found q

phase_says : (w : World) (i : ℕ) (phase : Phase) (q : Past) → Seats w → (w.seat i).phase ≡ phase → Tells w i q → PhaseSays i (w.seat i).phase q → PhaseSays i (phase_left (steps.phase_turn phase (counted (w.seat i).post) (offered w i).desk (finds w i)).outcome) q
phase_says w i Idle q s e t h = tt
phase_says w i (Runs why base) q s e t h = resumed_says i why (offered w i).desk _ _ (machine.after base (counted (w.seat i).post) (finds w i)).outcome q (ends_say w i why base q s e t h)
phase_says w i (Scans later at) q s e t h = start_says i _ q (scan_starts later at (counted (w.seat i).post) (offered w i).desk (finds w i))
phase_says w i (Works work) q s e t h = work_says i work (counted (w.seat i).post) (offered w i).desk (finds w i) q

pub turn_says : (w : World) (i : ℕ) (q : Past) → Seats w → Tells w i q → PhaseSays i (w.seat i).phase q → PhaseSays i (phase_left (turn (offered w i) (finds w i)).outcome) q
turn_says w i q s t h = phase_says w i (w.seat i).phase q s refl t h
