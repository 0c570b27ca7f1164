-- Where guards publish eras, what a step tells of them is what it makes them publish.
use Rattle.std.proofs.Common.{ℕ, ◌≡◌, ◌≤◌, ◌<◌, ◌+◌, Bool, true, false, List, [], ◌∷◌, Option, Some, None, refl, ap, ◌∙◌, arith, sym, subst}
use Rattle.std.specs.Prelude.{◌==◌, ◌&&◌, if◌then◌else◌, not, is_some, drop}
use Rattle.std.specs.List.{filter}
use Rattle.laws.specs.words.Packed.{reservation_word}
use Rattle.laws.specs.words.Place.{Place, has}
use Rattle.laws.specs.defs.declared.event.Event.{Event}
use Rattle.laws.specs.defs.declared.event.Event.TheVariants as events
use Rattle.laws.specs.defs.declared.event.Guard.{Guard}
use Rattle.laws.specs.defs.declared.event.Guard.TheVariants.{Helper, Index, Whole}
use Rattle.laws.specs.defs.declared.event.Root.{Root}
use Rattle.inv_all.specs.model.declared.post.Post.{Post}
use Rattle.inv_all.specs.model.Calls.{ReadGuard, GiveBack, Phase, Idle, Runs, Scans, Works, Work, Getting, Changing, Enqueuing, Dequeuing, Why, Keeping, Loosens, LoadHeld, StoreHeld, Looks, Misses, HideSpan, MarkLeft, TakeList, MarkTaken}
use Rattle.inv_all.specs.model.Guards.{guard_at, guard_place, eras_in, one_era, from_to}
use Rattle.inv_all.specs.model.Machine as machine
use Rattle.inv_all.specs.model.Memory as memory
use Rattle.inv_all.specs.model.Memory.{bump, put, place_in, found, Store}
use Rattle.inv_all.specs.model.MoveClock as movers
use Rattle.inv_all.specs.model.Phases.{Aim, BeginAt, ProtectAt, MoveAt, Base}
use Rattle.inv_all.specs.model.Phases.BeginAt.{LoadLower, PublishSpan}
use Rattle.inv_all.specs.model.Phases.ProtectAt.{PublishEra, PublishHelper, TakeAnswer, WithdrawHelper, RaiseUpper, ByHazard}
use Rattle.inv_all.specs.model.Phases.AllocateAt.{LoadBirth}
use Rattle.inv_all.specs.model.Phases.RetireAt.{LoadLife}
use Rattle.inv_all.specs.model.Phases.MoveAt.{ShowEra, HandOver, HideEra, HideLate}
use Rattle.inv_all.specs.model.Phases.Base.{Begin, Protect, Clear, Finish, Release, Allocate, Retire}
use Rattle.inv_all.specs.model.Posts.{stands, counted, lower, upper, tag_of, publishes_index, reserves_helper, reserves_index, shown_word, index_word}
use Rattle.inv_all.specs.model.Steps.{phase_move, work_move}
use Rattle.inv_all.proofs.ends.Told.Rows.{own_told, step_filter}
use Rattle.laws.proofs.Along.{along, along_kind}
use Rattle.laws.specs.StateAt.{reserved_by, value_of}
use Rattle.law_reuse.proofs.Blocks.Words.{leaves, Publishes, none_published, put_published, era_shown, span_shown, nothing_shown}
use Rattle.inv_all.proofs.rows.Words.{put_back}
use Rattle.inv_all.proofs.history.MayTell.{Tells, publishes, may_publish, bare, base_all, held_any, concluded_told}
use Rattle.inv_all.proofs.model.Facts.{rest_of, false_not_true}
use Rattle.laws.specs.words.declared.layout.Layout.{Layout}
use Rattle.laws.specs.defs.declared.lifetime.Interval.{Interval}
use Rattle.inv_all.specs.model.World.{World, start, step, finds, told_in}
use Rattle.inv_all.specs.covers.Covers.{eras_shown}
use Rattle.inv_all.specs.shapes.Eras.{PhaseEras, SpanIn, base_eras, begin_eras, protect_eras, move_eras}
use Rattle.laws.specs.words.Schemes.{is_ibr, has_one_interval, publishes_rows}
use Rattle.laws.specs.words.declared.config.Config.{Config}
use Rattle.laws.specs.words.declared.config.SchemeKind.{SchemeKind}
use Rattle.inv_all.specs.shapes.Seats.{PhaseFits, Run, agree, protect_fits}
use Rattle.laws.specs.records.Record.{Past, tells_of}
use Rattle.laws.specs.records.Record.Past.{Then}
use Rattle.inv_all.proofs.ends.Told.Turns.{is_later}
use Rattle.inv_all.proofs.history.Passes.{copied_told, work_told}
use Rattle.inv_all.specs.model.Rounds.{scheme_of}
use Rattle.inv_all.specs.model.Scan.{reads_guard}
use Rattle.inv_all.specs.shapes.Frame.{WorkFits}
use Rattle.law_reuse.proofs.Blocks.Kinds.{Kind, none_of, cleared_one, copied_one, hidden_one, shows_guard, work_leaves, work_quiet}

-- the events of guards
abbrev pub is_guard : Event → Bool
is_guard (events.Reserve guard span) = true
is_guard (events.Read guard span) = true
is_guard event = false

abbrev pub of_guards : List Event → List Event
of_guards told = filter is_guard told

of_kind : Kind is_guard
of_kind = record { clears = λ index slot. refl; copies = λ from index slot. refl }

-- a machine that publishes nothing tells nothing of guards
bare_one : (base : Base) (post : Post) (found : ℕ) (event : Event) → publishes base ≡ false → Tells base post found event → not (is_guard event) ≡ true
bare_one base post found (events.Reserve guard span) p h = absurd (false_not_true (may_publish base post found guard span) (bare base post found guard span p) h)
bare_one base post found (events.Read guard span) p h = absurd (cc)
bare_one base post found event p h = refl

quiet : (base : Base) (post : Post) (found : ℕ) → publishes base ≡ false → of_guards (machine.after base post found).told ≡ []
quiet base post found p = none_of is_guard (machine.after base post found).told (base_all (λ event. not (is_guard event)) base post found (λ event. bare_one base post found event p))

-- what a machine's step takes where guards publish eras: tags of 32 bits, and an interval of eras
abbrev pub ProtectWords : ℕ → ProtectAt → Post → Type 0
ProtectWords index (PublishEra era tries) post = tag_of post index < 4294967296
ProtectWords index (TakeAnswer link era) post = tag_of post index + 1 < 4294967296
ProtectWords index (RaiseUpper era) post = (0 < lower post.span) × (lower post.span ≤ era) × (era < 4294967296)
ProtectWords index (ByHazard at) post = ⊥
ProtectWords index at post = Unit {0}

abbrev pub BaseWords : Base → Post → Type 0
BaseWords (Begin (PublishSpan era)) post = (0 < era) × (era < 4294967296)
BaseWords (Protect aim index root steps at) post = ProtectWords index at post
BaseWords (Clear false index) post = tag_of post index < 4294967296
BaseWords (Clear true index) post = ⊥
BaseWords (Base.Move (HandOver era seat tag index root link old)) post = tag + 1 < 4294967296
BaseWords base post = Unit {0}

abbrev Shows : Guard → (Place → ℕ) → Base → Post → Type 0
Shows guard mem base post = Publishes guard mem (machine.base_move base post) (of_guards (machine.after base (counted post) (memory.found (machine.base_move base post) (mem (place_in (machine.base_move base post))))).told)

begin_shows : (guard : Guard) (mem : Place → ℕ) (at : BeginAt) (post : Post) → BaseWords (Begin at) post → Shows guard mem (Begin at) post
begin_shows guard mem LoadLower post h = refl
begin_shows guard mem (PublishSpan era) post h = put_published guard (Whole post.seat) mem _ (from_to era era) _ (span_shown era era h.0 (omega arith) h.1) refl

bare_shows : (guard : Guard) (mem : Place → ℕ) (base : Base) (post : Post) → publishes base ≡ false → leaves (machine.base_move base post) ≡ true → Shows guard mem base post
bare_shows guard mem base post p l = none_published guard mem (machine.base_move base post) _ l (quiet base (counted post) (memory.found (machine.base_move base post) (mem (place_in (machine.base_move base post)))) p)

protect_shows : (guard : Guard) (mem : Place → ℕ) (aim : Aim) (index : ℕ) (root : Root) (n : ℕ) (at : ProtectAt) (post : Post) → ProtectWords index at post → Shows guard mem (Protect aim index root n at) post
protect_shows guard mem aim index root n (PublishEra era tries) post h = put_published guard (Index post.seat index) mem _ (one_era era) _ (era_shown era (tag_of post index) h) refl
protect_shows guard mem aim index root n (PublishHelper first era last) post h = put_published guard (Helper post.seat) mem _ (one_era era) _ (era_shown era 0 (omega arith)) refl
protect_shows guard mem aim index root n (TakeAnswer link era) post h =
    put_published guard (Index post.seat index) mem _ (one_era era) _ (era_shown era (tag_of post index + 1) h)
    (held_any (λ told. of_guards (events.Reserve (Index post.seat index) (one_era era) ∷ told) ≡ events.Reserve (Index post.seat index) (one_era era) ∷ []) index root link (bump n) refl refl (λ slot. refl))
protect_shows guard mem aim index root n (WithdrawHelper link era) post h =
    put_published guard (Helper post.seat) mem 0 None _ (nothing_shown (Helper post.seat)) (ap of_guards (concluded_told aim index root (bump n) link era (counted post) (reserves_helper (counted post) 0)))
protect_shows guard mem aim index root n (RaiseUpper era) post h = put_published guard (Whole post.seat) mem _ (from_to (lower post.span) era) _ (span_shown (lower post.span) era h.0 h.1 h.2) refl
protect_shows guard mem aim index root n (ByHazard at) post h = absurd h
protect_shows guard mem aim index root n at post h = bare_shows guard mem (Protect aim index root n at) post refl refl

hand_by : (guard : Guard) (mem : Place → ℕ) (era seat tag index old new : ℕ) (post : Post) (same : Bool) → eras_in (Index seat index) new ≡ one_era era
    → eras_in guard (put mem (Place.Index seat index) (if same then new else mem (Place.Index seat index)) (guard_place guard)) ≡ along (reserved_by guard) (of_guards (movers.after_hand_over era seat tag index old post same).told) (eras_in guard (mem (guard_place guard)))
hand_by guard mem era seat tag index old new post true e = put_published guard (Index seat index) mem new (one_era era) _ e refl
hand_by guard mem era seat tag index old new post false e = ap (eras_in guard) (put_back mem (Place.Index seat index) (guard_place guard))

move_shows : (guard : Guard) (mem : Place → ℕ) (at : MoveAt) (post : Post) → BaseWords (Base.Move at) post → Shows guard mem (Base.Move at) post
move_shows guard mem (ShowEra era seat tag index root) post h = put_published guard (Helper post.seat) mem _ (one_era era) _ (era_shown era 0 (omega arith)) refl
move_shows guard mem (HandOver era seat tag index root link old) post h =
    hand_by guard mem era seat tag index old (reservation_word (record { era = era; tag = tag + 1 })) (counted post) (mem (Place.Index seat index) == reservation_word (record { era = old; tag = tag })) (era_shown era (tag + 1) h)
move_shows guard mem (HideEra era) post h = put_published guard (Helper post.seat) mem 0 None _ (nothing_shown (Helper post.seat)) refl
move_shows guard mem (HideLate seen) post h = put_published guard (Helper post.seat) mem 0 None _ (nothing_shown (Helper post.seat)) refl
move_shows guard mem at post h = bare_shows guard mem (Base.Move at) post refl refl

base_shows : (guard : Guard) (mem : Place → ℕ) (base : Base) (post : Post) → BaseWords base post → Shows guard mem base post
base_shows guard mem (Begin at) post h = begin_shows guard mem at post h
base_shows guard mem (Protect aim index root steps at) post h = protect_shows guard mem aim index root steps at post h
base_shows guard mem (Clear true index) post h = absurd h
base_shows guard mem (Clear false index) post h =
    put_published guard (Index post.seat index) mem _ (one_era 0) _ (era_shown 0 (tag_of post index) h) (cleared_one is_guard of_kind index (stands post index) (events.Reserve (Index post.seat index) (one_era 0)) refl)
base_shows guard mem Finish post h = put_published guard (Whole post.seat) mem 0 None _ (nothing_shown (Whole post.seat)) refl
base_shows guard mem (Release index) post h = put_published guard (Whole post.seat) mem 0 None _ (nothing_shown (Whole post.seat)) (cleared_one is_guard of_kind index (stands post index) (events.Reserve (Whole post.seat) None) refl)
base_shows guard mem (Allocate LoadBirth) post h = refl
base_shows guard mem (Allocate at) post h = bare_shows guard mem (Allocate at) post refl refl
base_shows guard mem (Retire (LoadLife slot)) post h = refl
base_shows guard mem (Retire at) post h = bare_shows guard mem (Retire at) post refl refl
base_shows guard mem (Base.Move at) post h = move_shows guard mem at post h
base_shows guard mem base post h = bare_shows guard mem base post refl refl

-- what the second step of a copy takes: a row to copy, and a tag of 32 bits
pub record StoreWords (from index : ℕ) (post : Post) : Type 0 where
  pub eras : publishes_rows (scheme_of post) ≡ false
  pub kept : is_some (stands post from) ≡ true
  pub tag : tag_of post index < 4294967296

abbrev pub WorkWords : Work → Post → Type 0
WorkWords (Keeping (StoreHeld from index era)) post = StoreWords from index post
WorkWords work post = Unit {0}

abbrev WorkShows : Guard → (Place → ℕ) → Work → Post → Type 0
WorkShows guard mem work post = Publishes guard mem (work_move work post) (of_guards (work_told work (counted post)))

plain_shows : (guard : Guard) (mem : Place → ℕ) (work : Work) (post : Post) → shows_guard work ≡ false → WorkShows guard mem work post
plain_shows guard mem work post n = none_published guard mem (work_move work post) (of_guards (work_told work (counted post))) (work_leaves work post n) (work_quiet is_guard of_kind work (counted post) n)

stores_shown : (guard : Guard) (mem : Place → ℕ) (from index era : ℕ) (post : Post) (rows : Bool) → rows ≡ false → StoreWords from index post
    → Publishes guard mem (Store (Place.Index post.seat index) (shown_word rows post index era)) (of_guards (copied_told from index (counted post) (publishes_index rows (counted post) index era) (stands post from)))
stores_shown guard mem from index era post true e h = absurd (cc)
stores_shown guard mem from index era post false e h =
    put_published guard (Index post.seat index) mem (index_word post index era) (one_era era) (of_guards (copied_told from index (counted post) (reserves_index (counted post) index era) (stands post from))) (era_shown era (tag_of post index) h.tag)
    (copied_one is_guard of_kind from index (counted post) (stands post from) (events.Reserve (Index post.seat index) (one_era era)) h.kept refl)

work_shows : (guard : Guard) (mem : Place → ℕ) (work : Work) (post : Post) → WorkWords work post → WorkShows guard mem work post
work_shows guard mem (Keeping (StoreHeld from index era)) post h =
    stores_shown guard mem from index era post (publishes_rows (scheme_of post)) h.eras h
work_shows guard mem (Keeping (Loosens let_go)) post h = plain_shows guard mem (Keeping (Loosens let_go)) post refl
work_shows guard mem (Keeping (LoadHeld from index)) post h = plain_shows guard mem (Keeping (LoadHeld from index)) post refl
work_shows guard mem (Keeping (Looks index key at)) post h = plain_shows guard mem (Keeping (Looks index key at)) post refl
work_shows guard mem (Keeping (Misses index)) post h = plain_shows guard mem (Keeping (Misses index)) post refl
work_shows guard mem (Keeping HideSpan) post h =
    put_published guard (Whole post.seat) mem 0 None (of_guards (work_told (Keeping HideSpan) (counted post))) (nothing_shown (Whole post.seat)) (hidden_one is_guard of_kind 2 (drop 2 (counted post).standing) (events.Reserve (Whole post.seat) None) refl)
work_shows guard mem (Keeping MarkLeft) post h = plain_shows guard mem (Keeping MarkLeft) post refl
work_shows guard mem (Keeping (TakeList place)) post h = plain_shows guard mem (Keeping (TakeList place)) post refl
work_shows guard mem (Keeping (MarkTaken place count)) post h = plain_shows guard mem (Keeping (MarkTaken place count)) post refl
work_shows guard mem (Getting key at) post h = plain_shows guard mem (Getting key at) post refl
work_shows guard mem (Changing kept at) post h = plain_shows guard mem (Changing kept at) post refl
work_shows guard mem (Enqueuing kept at) post h = plain_shows guard mem (Enqueuing kept at) post refl
work_shows guard mem (Dequeuing at) post h = plain_shows guard mem (Dequeuing at) post refl

abbrev pub PhaseWords : Phase → Post → Type 0
PhaseWords (Runs why base) post = BaseWords base post
PhaseWords (Works work) post = WorkWords work post
PhaseWords phase post = Unit {0}

-- what is read is published before and after
reads_kept : (guard : Guard) (rows : Bool) (other : Guard) (word : ℕ) (x : Option Interval) → x ≡ along (reserved_by guard) (of_guards (reads_guard rows other word ∷ [])) x
reads_kept guard false other word x = refl
reads_kept guard true other word x = refl

-- what a step tells of guards is what it makes them publish
pub phase_shows : (guard : Guard) (mem : Place → ℕ) (phase : Phase) (post : Post) → PhaseWords phase post → Publishes guard mem (phase_move phase post) (of_guards (own_told phase (counted post) (memory.found (phase_move phase post) (mem (place_in (phase_move phase post))))))
phase_shows guard mem Idle post h = refl
phase_shows guard mem (Runs why base) post h = base_shows guard mem base post h
phase_shows guard mem (Scans later (ReadGuard number)) post h =
    let config : Config = post.layout.config in
    reads_kept guard (publishes_rows config.scheme) (guard_at config number) (mem (guard_place (guard_at config number))) (eras_in guard (mem (guard_place guard)))
phase_shows guard mem (Scans later (GiveBack place slot)) post h = none_published guard mem (machine.free_move slot) _ refl refl
phase_shows guard mem (Works work) post h = work_shows guard mem work post h

-- what a step's machine takes of the eras and tags
raise_words : (x : Option Interval) (era clock : ℕ) → SpanIn clock x → is_some x ≡ true → upper x ≤ era → era ≤ clock → clock < 4294967296 → (0 < lower x) × (lower x ≤ era) × (era < 4294967296)
raise_words None era clock s i u m c = absurd (cc)
raise_words (Some span) era clock s i u m c = let a = s.0 in let b = s.1 in (omega arith, omega arith, omega arith)

protect_words : (scheme : SchemeKind) (most clock : ℕ) (index : ℕ) (at : ProtectAt) (post : Post) → publishes_rows scheme ≡ false → protect_fits scheme most at ≡ true → ((j : ℕ) → tag_of post j < 4294967295) → clock < 4294967296 → SpanIn clock post.span → ((era : ℕ) → at ≡ RaiseUpper era → is_some post.span ≡ true) → protect_eras clock post at → ProtectWords index at post
protect_words scheme most clock index (PublishEra era tries) post q f t c s i e = let a = t index in omega arith
protect_words scheme most clock index (TakeAnswer link era) post q f t c s i e = let a = t index in omega arith
protect_words scheme most clock index (RaiseUpper era) post q f t c s i e = raise_words post.span era clock s (i era refl) e.rises e.most c
protect_words scheme most clock index (ByHazard at) post q f t c s i e = absurd (cc)
protect_words scheme most clock index at post q f t c s i e = tt

begin_words : (clock : ℕ) (at : BeginAt) (post : Post) → clock < 4294967296 → begin_eras clock at → BaseWords (Begin at) post
begin_words clock LoadLower post c e = tt
begin_words clock (PublishSpan era) post c e = let a = e.some in let b = e.most in (omega arith, omega arith)

move_words : (layout : Layout) (clock : ℕ) (at : MoveAt) (post : Post) → move_eras layout clock at → BaseWords (Base.Move at) post
move_words layout clock (HandOver era seat tag index root link old) post e = let a = e.helps.asked.few in omega arith
move_words layout clock at post e = tt

span_there : (layout : Layout) (why : Why) (post : Post) (aim : Aim) (index : ℕ) (root : Root) (steps era : ℕ) → post.layout ≡ layout → Run layout why (Protect aim index root steps (RaiseUpper era)) post → is_some post.span ≡ true
span_there layout why post aim index root steps era l r = r.posted (ap (λ (x : Layout). is_ibr x.config.scheme) l ∙ r.fits)

clears_eras : (rows : Bool) (scheme : SchemeKind) → publishes_rows scheme ≡ false → (not (has_one_interval scheme) && agree rows (publishes_rows scheme)) ≡ true → rows ≡ false
clears_eras false scheme q f = refl
clears_eras true scheme q f = sym (rest_of (not (has_one_interval scheme)) (publishes_rows scheme) f) ∙ q

clear_words : (rows : Bool) (index : ℕ) (post : Post) → rows ≡ false → tag_of post index < 4294967296 → BaseWords (Clear rows index) post
clear_words true index post e t = absurd (cc)
clear_words false index post e t = t

base_words : (layout : Layout) (clock : ℕ) (why : Why) (base : Base) (post : Post) → publishes_rows layout.config.scheme ≡ false → ((j : ℕ) → tag_of post j < 4294967295) → clock < 4294967296 → SpanIn clock post.span → post.layout ≡ layout → Run layout why base post → base_eras layout clock post base → BaseWords base post
base_words layout clock why (Begin at) post q t c s l r e = begin_words clock at post c e
base_words layout clock why (Protect aim index root steps at) post q t c s l r e =
    protect_words layout.config.scheme layout.config.tries clock index at post q r.fits t c s (λ era x. span_there layout why post aim index root steps era l (subst (λ (y : ProtectAt). Run layout why (Protect aim index root steps y) post) x r)) e
base_words layout clock why (Clear rows index) post q t c s l r e = let a = t index in clear_words rows index post (clears_eras rows layout.config.scheme q r.fits) (omega arith)
base_words layout clock why (Base.Move at) post q t c s l r e = move_words layout clock at post e
base_words layout clock why base post q t c s l r e = tt

work_words : (work : Work) (post : Post) → publishes_rows (scheme_of post) ≡ false → ((j : ℕ) → tag_of post j < 4294967295) → WorkFits post work → WorkWords work post
work_words (Keeping (StoreHeld from index era)) post q t r = let a = t index in record { eras = q; kept = r.kept; tag = omega arith }
work_words work post q t r = tt

pub phase_words : (layout : Layout) (clock : ℕ) (phase : Phase) (post : Post) → publishes_rows layout.config.scheme ≡ false → ((j : ℕ) → tag_of post j < 4294967295) → clock < 4294967296 → SpanIn clock post.span → post.layout ≡ layout → PhaseFits layout post phase → PhaseEras layout clock post phase → PhaseWords phase post
phase_words layout clock Idle post q t c s l r e = tt
phase_words layout clock (Runs why base) post q t c s l r e = base_words layout clock why base post q t c s l r e
phase_words layout clock (Scans later at) post q t c s l r e = tt
phase_words layout clock (Works work) post q t c s l r e = work_words work post (ap (λ (x : Layout). publishes_rows x.config.scheme) l ∙ q) t r

-- what the record says after a step
later_guards : (event : Event) → is_later event ≡ true → is_guard event ≡ false
later_guards (events.Reserve guard span) h = absurd (cc)
later_guards (events.Read guard span) h = absurd (cc)
later_guards event h = refl

reserved_quiet : (guard : Guard) (event : Event) (x : Option Interval) → is_guard event ≡ false → reserved_by guard event x ≡ x
reserved_quiet guard (events.Reserve other span) x h = absurd (cc)
reserved_quiet guard event x h = refl

reserved_tells : (guard : Guard) (i : ℕ) (told : List Event) (p : Past) → value_of guard (tells_of p i told) ≡ along (reserved_by guard) told (value_of guard p)
reserved_tells guard i [] p = refl
reserved_tells guard i (event ∷ told) p = reserved_tells guard i told (Then p i event)

pub step_shown : (w : World) (i : ℕ) (p : Past) (guard : Guard) → PhaseWords (w.seat i).phase (w.seat i).post → eras_shown w guard ≡ value_of guard p → eras_shown (step w i) guard ≡ value_of guard (tells_of p i (told_in w i))
step_shown w i p guard h t =
    let own : List Event = own_told (w.seat i).phase (counted (w.seat i).post) (finds w i) in
    let a : eras_shown (step w i) guard ≡ along (reserved_by guard) (of_guards own) (eras_shown w guard) = phase_shows guard w.mem (w.seat i).phase (w.seat i).post h in
    let b : of_guards (told_in w i) ≡ of_guards own = step_filter is_guard w i later_guards in
    let c : value_of guard (tells_of p i (told_in w i)) ≡ along (reserved_by guard) (of_guards (told_in w i)) (value_of guard p) =
    reserved_tells guard i (told_in w i) p ∙ along_kind (reserved_by guard) is_guard (reserved_quiet guard) (told_in w i) (value_of guard p) in
    a ∙ ap (along (reserved_by guard) (of_guards own)) t ∙ ap (λ (es : List Event). along (reserved_by guard) es (value_of guard p)) (sym b) ∙ sym c

-- at the start no guard publishes
start_if : (guard : Guard) (there : Bool) (x : ℕ) → x ≡ 0 → eras_in guard (if there then x else 0) ≡ None
start_if guard true x e = ap (eras_in guard) e ∙ nothing_shown guard
start_if guard false x e = nothing_shown guard

pub start_shown : (layout : Layout) (guard : Guard) → eras_shown (start layout) guard ≡ None
start_shown layout (Helper seat) = start_if (Helper seat) (has layout (Place.Helper seat)) 0 refl
start_shown layout (Index seat index) = start_if (Index seat index) (has layout (Place.Index seat index)) 0 refl
start_shown layout (Whole seat) = start_if (Whole seat) (has layout (Place.Interval seat)) 0 refl
