-- The helper word of a reader is withdrawn in the second turn after the one with which it takes an answer.
use Rattle.std.proofs.Common.{ℕ, ◌≡◌, ◌≤◌, ◌-◌, Bool, true, false, List, [], ◌∷◌, ◌++◌, Some, None, refl, ap, ◌∙◌, arith}
use Rattle.std.proofs.lemmas.Bool.Decides.{nat_tests}
use Rattle.std.specs.Prelude.{◌==◌, ◌&&◌, ◌||◌, is_some, if◌then◌else◌, is_none, not}
use Rattle.law_reuse.specs.laws.words.Packed.{reservation_word}
use Rattle.law_reuse.specs.laws.words.declared.config.SchemeKind.{SchemeKind}
use Rattle.law_reuse.specs.laws.defs.declared.event.Event.{Event}
use Rattle.law_reuse.specs.laws.defs.declared.event.Event.TheVariants as events
use Rattle.law_reuse.specs.laws.defs.declared.event.Guard.TheVariants.{Helper, Index, Whole}
use Rattle.law_reuse.specs.laws.defs.declared.event.Root.{Root}
use Rattle.law_reuse.specs.laws.defs.declared.lifetime.Interval.{Interval}
use Rattle.law_reuse.specs.laws.defs.declared.event.Root.TheVariants as roots
use Rattle.law_reuse.specs.inv.model.declared.post.Post.{Post}
use Rattle.law_reuse.specs.inv.model.Guards.{one_era}
use Rattle.law_reuse.specs.inv.model.Machine as machine
use Rattle.law_reuse.specs.inv.model.Memory.{bump}
use Rattle.law_reuse.specs.inv.model.MoveClock as movers
use Rattle.law_reuse.specs.inv.model.Posts.{reserves_helper}
use Rattle.law_reuse.specs.inv.model.Protect as protects
use Rattle.law_reuse.specs.inv.model.Rounds.{scheme_of, clear_told}
use Rattle.law_reuse.specs.inv.model.Phases.{Aim, ProtectAt, MoveAt, Base}
use Rattle.law_reuse.specs.inv.model.Phases.ProtectAt.{PublishHelper, LoadOwnLink, CheckOwnClock, AnswerOwn, LoadAnswer, TakeAnswer, WithdrawRequest, WithdrawHelper}
use Rattle.law_reuse.specs.inv.model.Phases.MoveAt.{LoadEra, LoadRequest, ShowEra, LoadAsked, CheckEra, AnswerAsked, LoadReserved, HandOver, HideEra, HideLate, ExchangeClock}
use Rattle.law_reuse.specs.inv.model.Phases.Base.{Protect, Move}
use Rattle.law_reuse.specs.inv.model.Calls.{ReadGuard, GiveBack, Phase, Idle, Runs, Scans, Works}
use Rattle.law_reuse.proofs.laws.records.defs.Facts.{first_of, rest_of, and_false, or_false, false_not_true}
use Rattle.law_reuse.proofs.history.Passes.{is_quiet, all_quiet, Closed, First, work_told}
use Rattle.law_reuse.proofs.ReadGuards.{reads_are}
use Rattle.law_reuse.specs.inv.model.Guards.{guard_at}
use Rattle.law_reuse.specs.laws.words.Schemes.{publishes_rows}
use Rattle.law_reuse.specs.laws.StateAt.{shown_by}
use Rattle.law_reuse.specs.laws.HistorySteps.{found_shown}
use Rattle.law_reuse.specs.laws.StateAt.{is_found}
use Rattle.law_reuse.proofs.history.MayTell as may
use Rattle.law_reuse.proofs.history.MayTell.{Tells, may_store, may_publish, same_span, span_of, publishes, finds, is_find, bare, no_find, base_tells, base_all, clear_all, concluded_told}
use Rattle.law_reuse.proofs.history.AllOf.{all_of, of_weaker, of_both}

-- along what a step tells
abbrev pub shown_along : (seat : ℕ) → List Event → Bool → Bool
shown_along i [] shown = shown
shown_along i (event ∷ told) shown = shown_along i told (shown_by i event shown)

-- whether the helper word publishes, by where its seat stands
abbrev pub at_shows : ProtectAt → Bool
at_shows (PublishHelper first era last) = last
at_shows (LoadOwnLink first era last) = true
at_shows (CheckOwnClock first era last link) = true
at_shows (AnswerOwn first era link) = true
at_shows (LoadAnswer first) = true
at_shows (TakeAnswer link era) = true
at_shows (WithdrawRequest link era) = true
at_shows (WithdrawHelper link era) = true
at_shows at = false

abbrev pub move_shows : MoveAt → Bool
move_shows (LoadRequest era seat shows) = shows
move_shows (LoadAsked era seat tag index root) = true
move_shows (CheckEra era seat tag index root link) = true
move_shows (AnswerAsked era seat tag index root link) = true
move_shows (LoadReserved era seat tag index root link) = true
move_shows (HandOver era seat tag index root link old) = true
move_shows (HideEra era) = true
move_shows (HideLate seen) = true
move_shows at = false

abbrev pub base_shows : Base → Bool
base_shows (Protect aim index root steps at) = at_shows at
base_shows (Move at) = move_shows at
base_shows base = false

abbrev pub phase_shows : Phase → Bool
phase_shows (Runs why base) = base_shows base
phase_shows phase = false

-- whether it publishes after the step
abbrev pub at_leaves : ProtectAt → Bool
at_leaves (PublishHelper first era last) = true
at_leaves (WithdrawHelper link era) = false
at_leaves at = at_shows at

abbrev pub move_leaves : MoveAt → Bool
move_leaves (ShowEra era seat tag index root) = true
move_leaves (HideEra era) = false
move_leaves (HideLate seen) = false
move_leaves at = move_shows at

abbrev pub base_leaves : Base → Bool
base_leaves (Protect aim index root steps at) = at_leaves at
base_leaves (Move at) = move_leaves at
base_leaves base = false

abbrev pub phase_leaves : Phase → Bool
phase_leaves (Runs why base) = base_leaves base
phase_leaves phase = false

-- whether an answer's link is told when it is taken: a row of a next link is told only once it was followed
abbrev pub tells_link : Root → ℕ → Bool
tells_link (roots.Next parent) link = link == 0
tells_link root link = true

abbrev pub at_finds : Root → ProtectAt → Bool
at_finds root (TakeAnswer link era) = tells_link root link
at_finds root at = false

abbrev pub base_finds : Base → Bool
base_finds (Protect aim index root steps at) = at_finds root at
base_finds base = false

abbrev pub phase_finds : Phase → Bool
phase_finds (Runs why base) = base_finds base
phase_finds phase = false

-- what a step tells of the helper word, and whether it tells a Held or Null while that publishes
pub record Shows (i : ℕ) (before after finds : Bool) (told : List Event) : Type 0 where
  pub left : shown_along i told before ≡ after
  pub found : found_shown i told before ≡ finds

shown_both : (i : ℕ) (xs ys : List Event) (b : Bool) → shown_along i (xs ++ ys) b ≡ shown_along i ys (shown_along i xs b)
shown_both i [] ys b = refl
shown_both i (x ∷ xs) ys b = shown_both i xs ys (shown_by i x b)

or_along : (c d e f : Bool) → d ≡ (e || f) → (c || d) ≡ ((c || e) || f)
or_along true d e f h = refl
or_along false d e f h = h

found_both : (i : ℕ) (xs ys : List Event) (b : Bool) → found_shown i (xs ++ ys) b ≡ (found_shown i xs b || found_shown i ys (shown_along i xs b))
found_both i [] ys b = refl
found_both i (x ∷ xs) ys b = or_along (is_found x && b) _ _ _ (found_both i xs ys (shown_by i x b))

-- events that tell of no eras of guards, and hold and copy nothing
abbrev pub is_mute : Event → Bool
is_mute (events.Reserve guard span) = false
is_mute (events.Held index slot steps) = false
is_mute (events.Null index steps) = false
is_mute (events.Copied from index slot) = false
is_mute event = true

abbrev pub all_mute : List Event → Bool
all_mute told = all_of is_mute told

mute_one : (i : ℕ) (event : Event) (b : Bool) → is_mute event ≡ true → shown_by i event b ≡ b
mute_one i (events.Reserve guard span) b h = absurd (cc)
mute_one i event b h = refl

mute_unfound : (event : Event) → is_mute event ≡ true → is_found event ≡ false
mute_unfound (events.Held index slot steps) h = absurd (cc)
mute_unfound (events.Null index steps) h = absurd (cc)
mute_unfound event h = refl

pub mute_shows : (i : ℕ) (told : List Event) (b : Bool) → all_mute told ≡ true → Shows i b b false told
mute_shows i [] b h = record { left = refl; found = refl }
mute_shows i (event ∷ told) b h =
    let q : shown_by i event b ≡ b = mute_one i event b (first_of (is_mute event) (all_mute told) h) in
    let f : is_found event ≡ false = mute_unfound event (first_of (is_mute event) (all_mute told) h) in
    let s = mute_shows i told b (rest_of (is_mute event) (all_mute told) h) in
    record { left = rw q s.left; found = rw f (rw q s.found) }

quiet_one : (event : Event) → is_quiet event ≡ true → is_mute event ≡ true
quiet_one (events.Reserve guard span) h = absurd (cc)
quiet_one (events.Held index slot steps) h = absurd (cc)
quiet_one (events.Null index steps) h = absurd (cc)
quiet_one (events.Copied from index slot) h = absurd (cc)
quiet_one event h = refl

pub quiet_mute : (told : List Event) → all_quiet told ≡ true → all_mute told ≡ true
quiet_mute told h = of_weaker is_quiet is_mute told quiet_one h

pub clear_mute : (scheme : SchemeKind) (post : Post) (index : ℕ) → all_mute (clear_told scheme post index) ≡ true
clear_mute scheme post index = clear_all is_mute scheme post index (λ index slot. refl)

shows_along : (i : ℕ) (b c f : Bool) (told more : List Event) → all_mute more ≡ true → Shows i b c f told → Shows i b c f (told ++ more)
shows_along i b c f told more m s =
    let q = mute_shows i more (shown_along i told b) m in
    record {
      left = shown_both i told more b ∙ q.left ∙ s.left;
      found = found_both i told more b ∙ ap (λ (x : Bool). found_shown i told b || x) q.found ∙ or_false (found_shown i told b) ∙ s.found;
    }

pub shows_closed : (i : ℕ) (b c f : Bool) → Closed (λ post told. Shows i b c f told)
shows_closed i b c f = record {
  calm = λ post told more q h. shows_along i b c f told more (quiet_mute more q) h;
  clears = λ post told index h. shows_along i b c f told (clear_told (scheme_of post) post index) (clear_mute (scheme_of post) post index) h;
}

-- events that publish nothing in a helper word
abbrev pub is_plain : Event → Bool
is_plain (events.Reserve (Helper seat) span) = is_none span
is_plain event = true

abbrev pub all_plain : List Event → Bool
all_plain told = all_of is_plain told

plain_one : (i : ℕ) (event : Event) → is_plain event ≡ true → shown_by i event false ≡ false
plain_one i (events.Reserve (Helper seat) None) h = helper_by (seat == i)
  where
    helper_by : (same : Bool) → (if same then false else false) ≡ false
    helper_by true = refl
    helper_by false = refl
plain_one i (events.Reserve (Helper seat) (Some span)) h = absurd (cc)
plain_one i (events.Reserve (Index seat index) span) h = refl
plain_one i (events.Reserve (Whole seat) span) h = refl
plain_one i event h = refl

plain_shows : (i : ℕ) (told : List Event) → all_plain told ≡ true → Shows i false false false told
plain_shows i [] h = record { left = refl; found = refl }
plain_shows i (event ∷ told) h =
    let q : shown_by i event false ≡ false = plain_one i event (first_of (is_plain event) (all_plain told) h) in
    let s = plain_shows i told (rest_of (is_plain event) (all_plain told) h) in
    record { left = rw q s.left; found = rw (and_false (is_found event)) (rw q s.found) }

-- the steps that publish in a helper word
abbrev pub at_helps : ProtectAt → Bool
at_helps (PublishHelper first era last) = true
at_helps at = false

abbrev pub move_helps : MoveAt → Bool
move_helps (ShowEra era seat tag index root) = true
move_helps at = false

abbrev pub base_helps : Base → Bool
base_helps (Protect aim index root made at) = at_helps at
base_helps (Move at) = move_helps at
base_helps base = false

hides : (base : Base) (post : Post) (found seat : ℕ) → base_helps base ≡ false → may_store base post found (Helper seat) ≡ true → may.base_shows base post ≡ None
hides (Protect aim index root made (WithdrawHelper link era)) post found seat f h = refl
hides (Protect aim index root made (PublishHelper first era last)) post found seat f h = absurd (cc)
hides (Protect aim index root made at) post found seat f h = absurd (cc)
hides (Move (HideEra era)) post found seat f h = refl
hides (Move (HideLate seen)) post found seat f h = refl
hides (Move (ShowEra era asker tag index root)) post found seat f h = absurd (cc)
hides (Move at) post found seat f h = absurd (cc)
hides base post found seat f h = absurd (cc)

one_plain : (base : Base) (post : Post) (found : ℕ) (event : Event) → base_helps base ≡ false → Tells base post found event → is_plain event ≡ true
one_plain base post found (events.Reserve (Helper seat) span) f t =
    let e : span ≡ None = span_of base post found (Helper seat) span t ∙ hides base post found seat f (first_of (may_store base post found (Helper seat)) (same_span span (may.base_shows base post)) t) in rw e refl
one_plain base post found (events.Reserve (Index seat index) span) f t = refl
one_plain base post found (events.Reserve (Whole seat) span) f t = refl
one_plain base post found event f t = refl

pub base_plain : (base : Base) (post : Post) (found : ℕ) → base_helps base ≡ false → all_plain (machine.after base post found).told ≡ true
base_plain base post found f = base_all is_plain base post found (λ event. one_plain base post found event f)

-- a step that stores no guard's word and finds nothing
one_mute : (base : Base) (post : Post) (found : ℕ) (event : Event) → publishes base ≡ false → not (is_find event) ≡ true → Tells base post found event → is_mute event ≡ true
one_mute base post found (events.Reserve guard span) p f t = absurd (false_not_true (may_publish base post found guard span) (bare base post found guard span p) t)
one_mute base post found (events.Held index slot steps) p f t = absurd (cc)
one_mute base post found (events.Null index steps) p f t = absurd (cc)
one_mute base post found (events.Copied from index slot) p f t = absurd (cc)
one_mute base post found event p f t = refl

base_mute : (base : Base) (post : Post) (found : ℕ) → publishes base ≡ false → finds base ≡ false → all_mute (machine.after base post found).told ≡ true
base_mute base post found p f = of_both (λ event. not (is_find event)) (may.may_tell base post found) is_mute (machine.after base post found).told (λ event. one_mute base post found event p) (no_find base post found f) (base_tells base post found)

-- an era is one that the clock has shown
abbrev pub ShownEra : Base → Type 0
ShownEra (Protect aim index root steps (PublishHelper first era last)) = 1 ≤ era
ShownEra (Move (ShowEra era seat tag index root)) = 1 ≤ era
ShownEra base = Unit {0}

some_era : (era : ℕ) → 1 ≤ era → is_some (one_era era) ≡ true
some_era era h = by (era == 0) refl
  where
    by : (none : Bool) → (era == 0) ≡ none → is_some {T = Interval} (if none then None else Some (record { lo = era; hi = era })) ≡ true
    by true e = absurd (grind (arith, nat_tests))
    by false e = refl

-- the helper word of the seat
helper_era : (i : ℕ) (post : Post) (era : ℕ) (b : Bool) → post.seat ≡ i → 1 ≤ era → Shows i b true false (reserves_helper post era)
helper_era i post era b s h = let e : (post.seat == i) ≡ true = grind (arith, nat_tests) in record { left = rw e (some_era era h); found = refl }

helper_none : (i : ℕ) (post : Post) (b : Bool) → post.seat ≡ i → Shows i b false false (reserves_helper post 0)
helper_none i post b s = let e : (post.seat == i) ≡ true = grind (arith, nat_tests) in record { left = rw e refl; found = refl }

-- a link is told while the helper word publishes
link_found : (i index slot n : ℕ) (none : Bool) → Shows i true true true (if none then events.Null index n ∷ [] else events.Held index slot n ∷ [])
link_found i index slot n true = record { left = refl; found = refl }
link_found i index slot n false = record { left = refl; found = refl }

next_found : (i index n : ℕ) (none : Bool) → Shows i true true none (if none then events.Null index n ∷ [] else [])
next_found i index n true = record { left = refl; found = refl }
next_found i index n false = record { left = refl; found = refl }

held_found : (i index : ℕ) (root : Root) (link n : ℕ) → Shows i true true (tells_link root link) (protects.told_held index root link n)
held_found i index (roots.Next parent) link n = next_found i index n (link == 0)
held_found i index (roots.Bucket bucket) link n = link_found i index (link - 1) n (link == 0)
held_found i index roots.Head link n = link_found i index (link - 1) n (link == 0)
held_found i index roots.Tail link n = link_found i index (link - 1) n (link == 0)

nothing : (i : ℕ) (b : Bool) → Shows i b b false []
nothing i b = record { left = refl; found = refl }

abbrev BaseShown : ℕ → Base → Post → ℕ → Type 0
BaseShown i base post found = Shows i (base_shows base) (base_leaves base) (base_finds base) (machine.after base post found).told

plain_base : (i : ℕ) (base : Base) (post : Post) (found : ℕ) → base_helps base ≡ false → Shows i false false false (machine.after base post found).told
plain_base i base post found f = plain_shows i (machine.after base post found).told (base_plain base post found f)

mute_base : (i : ℕ) (b : Bool) (base : Base) (post : Post) (found : ℕ) → publishes base ≡ false → finds base ≡ false → Shows i b b false (machine.after base post found).told
mute_base i b base post found p f = mute_shows i (machine.after base post found).told b (base_mute base post found p f)

protect_shown : (i : ℕ) (aim : Aim) (index : ℕ) (root : Root) (made : ℕ) (at : ProtectAt) (post : Post) (found : ℕ) → post.seat ≡ i → ShownEra (Protect aim index root made at) → BaseShown i (Protect aim index root made at) post found
protect_shown i aim index root made (PublishHelper first era last) post found s e = helper_era i post era last s e
protect_shown i aim index root made (LoadOwnLink first era last) post found s e = nothing i true
protect_shown i aim index root made (CheckOwnClock first era last link) post found s e = mute_base i true (Protect aim index root made (CheckOwnClock first era last link)) post found refl refl
protect_shown i aim index root made (AnswerOwn first era link) post found s e = mute_base i true (Protect aim index root made (AnswerOwn first era link)) post found refl refl
protect_shown i aim index root made (LoadAnswer first) post found s e = nothing i true
protect_shown i aim index root made (TakeAnswer link era) post found s e = let h = held_found i index root link (bump made) in record { left = h.left; found = h.found }
protect_shown i aim index root made (WithdrawRequest link era) post found s e = nothing i true
protect_shown i aim index root made (WithdrawHelper link era) post found s e = rw (concluded_told aim index root (bump made) link era post (reserves_helper post 0)) (helper_none i post true s)
protect_shown i aim index root made at post found s e = plain_base i (Protect aim index root made at) post found refl

handed_shown : (i era seat tag index old : ℕ) (post : Post) (same : Bool) → Shows i true true false (movers.after_hand_over era seat tag index old post same).told
handed_shown i era seat tag index old post true = record { left = refl; found = refl }
handed_shown i era seat tag index old post false = nothing i true

move_shown : (i : ℕ) (at : MoveAt) (post : Post) (found : ℕ) → post.seat ≡ i → ShownEra (Move at) → BaseShown i (Move at) post found
move_shown i (LoadRequest era seat shows) post found s e = nothing i shows
move_shown i (ShowEra era seat tag index root) post found s e = helper_era i post era false s e
move_shown i (HandOver era seat tag index root link old) post found s e = handed_shown i era seat tag index old post (found == reservation_word (record { era = old; tag = tag }))
move_shown i (HideEra era) post found s e = helper_none i post true s
move_shown i (HideLate seen) post found s e = helper_none i post true s
move_shown i (LoadEra helps) post found s e = plain_base i (Move (LoadEra helps)) post found refl
move_shown i (ExchangeClock era) post found s e = plain_base i (Move (ExchangeClock era)) post found refl
move_shown i at post found s e = mute_base i true (Move at) post found refl refl

base_shown : (i : ℕ) (base : Base) (post : Post) (found : ℕ) → post.seat ≡ i → ShownEra base → BaseShown i base post found
base_shown i (Protect aim index root made at) post found s e = protect_shown i aim index root made at post found s e
base_shown i (Move at) post found s e = move_shown i at post found s e
base_shown i base post found s e = plain_base i base post found refl

abbrev pub PhaseEra : Phase → Type 0
PhaseEra (Runs why base) = ShownEra base
PhaseEra phase = Unit {0}

pub first_shown : (i : ℕ) (phase : Phase) (post : Post) (found : ℕ) → post.seat ≡ i → PhaseEra phase → First (λ p told. Shows i (phase_shows phase) (phase_leaves phase) (phase_finds phase) told) phase post found
first_shown i Idle post found s e = nothing i false
first_shown i (Runs why base) post found s e = base_shown i base post found s e
first_shown i (Scans later (ReadGuard number)) post found s e =
    reads_are (λ event. Shows i false false false (event ∷ [])) (publishes_rows post.layout.config.scheme) (guard_at post.layout.config number) found (λ span. record { left = refl; found = refl }) (λ slot. record { left = refl; found = refl })
first_shown i (Scans later (GiveBack place slot)) post found s e = record { left = refl; found = refl }
first_shown i (Works work) post found s e = plain_shows i (work_told work post) (may.work_all is_plain (λ index slot. refl) (λ from index slot. refl) (λ seat index era. refl) (λ seat. refl) (λ seat index link. refl) work post)
