-- A step of any phase keeps what its seat has published where it stands, and the numbers that it tells are right.
use Rattle.std.proofs.Common.{ℕ, ◌≡◌, ◌≢◌, ◌≤◌, ◌<◌, ◌+◌, ◌^◌, Bool, true, false, [], ◌∷◌, length, Option, Some, None, refl, sym, ap, ◌∙◌, subst, arith}
use Rattle.std.proofs.lemmas.Bool.Decides.{nat_tests}
use Rattle.std.specs.Prelude.{◌==◌, ◌&&◌, nat_le, nat_lt, if◌then◌else◌}
use Rattle.law_reuse.specs.laws.words.Place.{is_valid}
use Rattle.law_reuse.specs.laws.words.Packed.{read_reservation, reservation_word}
use Rattle.law_reuse.specs.laws.words.declared.layout.Layout.{Layout}
use Rattle.law_reuse.specs.laws.defs.declared.event.Event.TheVariants as events
use Rattle.law_reuse.specs.inv.model.declared.post.Post.{Post}
use Rattle.law_reuse.specs.inv.model.Allocate as allocates
use Rattle.law_reuse.specs.inv.model.Desks.{Desk}
use Rattle.law_reuse.specs.inv.model.Machine as machine
use Rattle.law_reuse.specs.inv.model.Memory.{bump}
use Rattle.law_reuse.specs.inv.model.MoveClock as movers
use Rattle.law_reuse.specs.inv.model.Posts.{stands, with_row, withdrawn, counted}
use Rattle.law_reuse.specs.inv.model.Rounds.{scheme_of, index_of, let_index}
use Rattle.law_reuse.specs.inv.model.SlowPath.{asking}
use Rattle.law_reuse.specs.inv.model.Steps as steps
use Rattle.law_reuse.specs.inv.model.WriteRow.{last_written}
use Rattle.law_reuse.specs.inv.model.Phases.{Aim, ProtectAt, AllocateAt, RetireAt, MoveAt, Walk, Base, Turn, Ending, Outcome, Goes, Ends, ends}
use Rattle.law_reuse.specs.laws.defs.declared.event.Root.{Root}
use Rattle.law_reuse.specs.inv.model.Phases.AllocateAt.{LoadBirth, ClaimSlot, StoreLife}
use Rattle.law_reuse.specs.inv.model.Phases.RetireAt.{LoadLife, LoadRetire, StoreRetired}
use Rattle.law_reuse.specs.inv.model.Phases.MoveAt.{LoadEra, CheckEra, AnswerAsked, LoadReserved, HandOver, ExchangeClock}
use Rattle.law_reuse.specs.inv.model.Phases.Base.{Begin, Protect, Reload, Clear, Finish, Release, Allocate, Write, GiveUp, Retire, Move}
use Rattle.law_reuse.specs.inv.model.declared.ends.FollowEnd.TheVariants as follow_ends
use Rattle.law_reuse.specs.inv.model.Phases.Ending.{Followed}
use Rattle.law_reuse.specs.inv.model.Calls.{Task, Gets, Changes, Holds, Enqueues, Dequeues, Why, Opens, FollowsHead, Fills, ClearsNext, Clears, Finishes, GivesUp, Retires, Tidies, Advances, Releases, LetGo, Released, Rehold, Dropped, Parting, Keeping, Next, ReadGuard, GiveBack, Phase, Idle, Runs, Scans, Works}
use Rattle.law_reuse.proofs.laws.records.defs.Facts.{first_of, rest_of, false_not_true, and_true, le_of_test, no_truth}
use Rattle.law_reuse.specs.inv.rows.Hands.{runs_right, task_fills}
use Rattle.law_reuse.specs.laws.words.Schemes.{is_ibr, publishes_rows}
use Rattle.law_reuse.specs.inv.shapes.Frame.{Moves, Passed}
use Rattle.law_reuse.specs.inv.shapes.Seats.{Kind, protect_fits, kind_of, suits, PostFits, PhaseFits, Run}
use Rattle.law_reuse.proofs.shapes.Inside.{shape_moves}
use Rattle.law_reuse.proofs.shapes.Kept.{counted_fits, run_counted, work_counted}
use Rattle.law_reuse.specs.inv.covers.Rests.{spare, bare, beside, within, deep}
use Rattle.law_reuse.proofs.history.Passes.{First}
use Rattle.law_reuse.proofs.ReadGuards.{reads_are}
use Rattle.law_reuse.specs.inv.model.Guards.{guard_at}
use Rattle.law_scans.proofs.Turns.Counting.Fits.{free_released, free_why, holds_why, holds_task, unused, work_x, WorkRight, keep_fits, fills_task, reload_paced, Clean, since, paced, taken, base_own, Fits, Passes, Resumes, Left, work_fits, scan_fits, resumed_fits}
use Rattle.law_scans.proofs.Turns.Counting.Told.{event_numbered, events_numbered, base_rights, work_rights}
use Rattle.law_scans.proofs.Turns.Counting.Passing.{after_x, turned, since_next, few_next, number_of}
use Rattle.law_scans.proofs.Turns.Counting.Protects.{Site, protect_passes, protect_rights, u_next, rights_if}
use Rattle.law_reuse.proofs.inv.model.Standing.{stands-withdrawn_other, stands-with_row_other}

-- the machines that touch no index word of their own
abbrev pub is_calm : Base → Bool
is_calm (Allocate at) = true
is_calm (Write slot row place) = true
is_calm (GiveUp slot) = true
is_calm (Retire at) = true
is_calm (Move at) = true
is_calm base = false

calm_x : (base : Base) (j n : ℕ) → is_calm base ≡ true → after_x base j n ≡ n
calm_x (Begin at) j n h = absurd (cc)
calm_x (Protect aim index root count at) j n h = absurd (cc)
calm_x (Reload parent index slot era count) j n h = refl
calm_x (Clear rows index) j n h = absurd (cc)
calm_x base j n h = refl

calm_own : (x u : ℕ → ℕ) (post : Post) (base : Base) → is_calm base ≡ true → base_own x u post base ≡ true
calm_own x u post (Protect aim index root count at) h = absurd (cc)
calm_own x u post (Reload parent index slot era count) h = absurd (cc)
calm_own x u post base h = refl

abbrev pub calm_kind : Kind → Bool
calm_kind Kind.ToFill = true
calm_kind Kind.ToGiveUp = true
calm_kind Kind.ToRetire = true
calm_kind Kind.ToMove = true
calm_kind kind = false

pub calm_of : (base : Base) (kind : Kind) → calm_kind kind ≡ true → suits base kind ≡ true → is_calm base ≡ true
calm_of (Allocate at) kind k h = refl
calm_of (Write slot row place) kind k h = refl
calm_of (GiveUp slot) kind k h = refl
calm_of (Retire at) kind k h = refl
calm_of (Move at) kind k h = refl
calm_of (Begin at) Kind.ToOpen k h = absurd (cc)
calm_of (Protect aim index root count at) Kind.ToOpen k h = absurd (cc)
calm_of (Protect aim index root count at) Kind.ToFollow k h = absurd (cc)
calm_of (Reload parent index slot era count) Kind.ToFollow k h = absurd (cc)
calm_of (Clear rows index) Kind.ToClear k h = absurd (cc)
calm_of (Clear rows index) Kind.ToRelease k h = absurd (cc)
calm_of Finish Kind.ToFinish k h = absurd (cc)
calm_of (Release index) Kind.ToRelease k h = absurd (cc)
calm_of (Begin at) kind k h = absurd (cc)
calm_of (Protect aim index root count at) kind k h = absurd (cc)
calm_of (Reload parent index slot era count) kind k h = absurd (cc)
calm_of (Clear rows index) kind k h = absurd (cc)
calm_of Finish kind k h = absurd (cc)
calm_of (Release index) kind k h = absurd (cc)

-- what stands at an index stays
stays_if : (j : ℕ) (post : Post) (c : Bool) (t v : Turn) → stands t.post j ≡ stands post j → stands v.post j ≡ stands post j → stands (if c then t else v).post j ≡ stands post j
stays_if j post true t v a b = a
stays_if j post false t v a b = b

walking_stays : (j : ℕ) (birth : ℕ) (post : Post) (o : Option Walk) → stands (allocates.walking birth post o).post j ≡ stands post j
walking_stays j birth post None = refl
walking_stays j birth post (Some walk) = refl

allocate_stays : (j : ℕ) (at : AllocateAt) (post : Post) (found : ℕ) → stands (machine.allocate_turn at post found).post j ≡ stands post j
allocate_stays j LoadBirth post found = refl
allocate_stays j (ClaimSlot birth walk) post found = stays_if j post (allocates.is_claimed found walk.slot) _ _ (walking_stays j birth post (allocates.walk_past post.layout.config.slots walk found)) refl
allocate_stays j (StoreLife birth slot) post found = refl

retire_stays : (j : ℕ) (at : RetireAt) (post : Post) (found : ℕ) → stands (machine.retire_turn at post found).post j ≡ stands post j
retire_stays j (LoadLife slot) post found = refl
retire_stays j (LoadRetire slot birth) post found = refl
retire_stays j (StoreRetired slot birth retire) post found = refl

handed_stays : (j : ℕ) (era seat tag index old : ℕ) (post : Post) (same : Bool) → stands (movers.after_hand_over era seat tag index old post same).post j ≡ stands post j
handed_stays j era seat tag index old post true = refl
handed_stays j era seat tag index old post false = refl

move_stays : (j : ℕ) (at : MoveAt) (post : Post) (found : ℕ) → stands (machine.move_turn at post found).post j ≡ stands post j
move_stays j (LoadEra helps) post found = stays_if j post (found == post.layout.config.last_era) _ _ refl refl
move_stays j (CheckEra era seat tag index root link) post found = stays_if j post (found == era) _ _ refl refl
move_stays j (AnswerAsked era seat tag index root link) post found = stays_if j post (found == asking post.layout tag index root) _ _ refl refl
move_stays j (LoadReserved era seat tag index root link) post found = stays_if j post ((read_reservation found).tag == tag) _ _ refl refl
move_stays j (HandOver era seat tag index root link old) post found = handed_stays j era seat tag index old post (found == reservation_word (record { era = old; tag = tag }))
move_stays j (ExchangeClock era) post found = stays_if j post (found == era) _ _ refl refl
move_stays j at post found = refl

calm_stays : (j : ℕ) (base : Base) (post : Post) (found : ℕ) → is_calm base ≡ true → stands (machine.after base post found).post j ≡ stands post j
calm_stays j (Allocate at) post found h = allocate_stays j at post found
calm_stays j (Write slot row place) post found h = stays_if j post (place == last_written row) _ _ refl refl
calm_stays j (GiveUp slot) post found h = refl
calm_stays j (Retire at) post found h = retire_stays j at post found
calm_stays j (Move at) post found h = move_stays j at post found
calm_stays j base post found h = absurd (cc)

abbrev pub x_after : (ℕ → ℕ) → Base → ℕ → ℕ
x_after x base j = after_x base j (x j)

calm_clean : (x : ℕ → ℕ) (base : Base) (post : Post) (found : ℕ) (f held : ℕ → Bool) → is_calm base ≡ true → is_ibr (scheme_of (machine.after base post found).post) ≡ false → Clean x post f held → Clean (x_after x base) (machine.after base post found).post f held
calm_clean x base post found f held h n c = record {
  free = λ j e. calm_x base j (x j) h ∙ c.free j e;
  kept = λ j low e m. calm_x base j (x j) h ∙ c.kept j low e (sym (calm_stays j base post found h) ∙ m);
  plain = n;
}

abbrev Reached : (x u : ℕ → ℕ) → Why → Base → Post → ℕ → Type 0
Reached x u why base post found = Passes (x_after x base) (u_next x u) why (machine.after base post found).post (machine.after base post found).outcome

calm_reached : (x u : ℕ → ℕ) (layout : Layout) (why : Why) (next : Post) (outcome : Outcome) → calm_kind (kind_of why) ≡ true → Passed (PhaseFits layout) why next outcome → Clean x next (free_why why) (holds_why why) → ((ending : Ending) → Resumes x next why ending) → Passes x u why next outcome
calm_reached x u layout why next (Goes base) k p c r = record { clean = c; own = calm_own x u next base (calm_of base (kind_of why) k p.suited) }
calm_reached x u layout why next (Ends ending) k p c r = r ending

-- an index word is cleared
clear_clean : (x : ℕ → ℕ) (index : ℕ) (post : Post) (f g held : ℕ → Bool) → ((j : ℕ) → (index == j) ≡ false → g j ≡ true → f j ≡ true) → ((j : ℕ) → held j ≡ true → (index == j) ≡ true) → Clean x post f held → Clean (λ j. if index == j then 0 else x j) (withdrawn post index) g unused
clear_clean x index post f g held w t c = record { free = λ j e. own_or (index == j) (λ n. c.free j (w j n e)); kept = λ j low e m. own_or (index == j) (λ n. c.kept j low (no_hold (held j) (t j) n) (sym (other j n) ∙ m)); plain = c.plain }
  where
    own_or : {v : ℕ} (b : Bool) → (b ≡ false → v ≡ 0) → (if b then 0 else v) ≡ 0
    own_or true h = refl
    own_or false h = h refl

    no_hold : {b : Bool} (h : Bool) → (h ≡ true → b ≡ true) → b ≡ false → h ≡ false
    no_hold true k n = let q = k refl in absurd (cc)
    no_hold false k n = refl

    other : (j : ℕ) → (index == j) ≡ false → stands (withdrawn post index) j ≡ stands post j
    other j n = let q : j ≢ index = grind (arith, nat_tests) in stands-withdrawn_other post index j q

-- what is known of a machine that makes a step
pub record Stage (x u : ℕ → ℕ) (layout : Layout) (why : Why) (base : Base) (post : Post) (found count : ℕ) : Type 0 where
  pub run : Run layout why base post
  pub table : post.layout ≡ layout
  pub scheme : is_ibr layout.config.scheme ≡ false
  pub next : Moves (PostFits layout post.seat) (PhaseFits layout) why (machine.after base post found)
  pub right : runs_right why base ≡ true
  pub eight : length post.standing ≡ 8
  pub call : post.steps ≡ count + 1
  pub low : count < 2 ^ 62
  pub clean : Clean x post (free_why why) (holds_why why)
  pub own : base_own x u (record post { steps = count }) base ≡ true

plain_next : {x u : ℕ → ℕ} (layout : Layout) (why : Why) (base : Base) (post : Post) (found count : ℕ) → Stage x u layout why base post found count → is_ibr (scheme_of (machine.after base post found).post) ≡ false
plain_next layout why base post found count s = let p = s.next.post in let e = p.layout in ap (λ (table : Layout). is_ibr table.config.scheme) e ∙ s.scheme

plain_now : {x u : ℕ → ℕ} (layout : Layout) (why : Why) (base : Base) (post : Post) (found count : ℕ) → Stage x u layout why base post found count → is_ibr (scheme_of post) ≡ false
plain_now layout why base post found count s = ap (λ (table : Layout). is_ibr table.config.scheme) s.table ∙ s.scheme

pub bump_low : (n count : ℕ) → n ≤ count → count < 2 ^ 62 → bump n ≡ n + 1
bump_low n count h l = by_room (nat_lt n 18446744073709551615) refl
  where
    by_room : (room : Bool) → nat_lt n 18446744073709551615 ≡ room → (if room then n + 1 else n) ≡ n + 1
    by_room true e = refl
    by_room false e = absurd (grind (arith, nat_tests))

pub site_of : {x u : ℕ → ℕ} (layout : Layout) (why : Why) (aim : Aim) (index : ℕ) (root : Root) (made : ℕ) (at : ProtectAt) (post : Post) (found count : ℕ) → Stage x u layout why (Protect aim index root made at) post found count → Site x u layout.config.buckets why aim index root made (bump made) count at post
site_of {x} {u} layout why aim index root made at post found count s =
    let r = s.run in
    let a = r.shape in
    let few : (nat_le made count && taken index at (stands post 2)) ≡ true = rest_of (paced at made (x index) (u index)) (nat_le made count && taken index at (stands post 2)) s.own in
    let low : nat_le made count ≡ true = first_of (nat_le made count) (taken index at (stands post 2)) few in
    record {
      protects = r.suited;
      aimed = a.aimed;
      place = a.at;
      of = a.of;
      scheme = plain_now layout why (Protect aim index root made at) post found count s;
      fits = subst (λ (table : Layout). protect_fits table.config.scheme table.config.tries at ≡ true) (sym s.table) r.fits;
      eight = s.eight;
      next = bump_low made count (le_of_test made count low) s.low;
      call = s.call;
      clean = s.clean;
      paced = first_of (paced at made (x index) (u index)) (nat_le made count && taken index at (stands post 2)) s.own;
      few = low;
      stood = rest_of (nat_le made count) (taken index at (stands post 2)) few;
    }

row_above : (index slot j : ℕ) (post : Post) → index ≡ 1 → nat_lt j 2 ≡ false → stands (with_row post index slot) j ≡ stands post j
row_above index slot j post e low = let q : j ≢ index = grind (arith, nat_tests) in stands-with_row_other post index slot j q

end_if : (x u : ℕ → ℕ) (why : Why) (c : Bool) (t v : Turn) → Passes x u why t.post t.outcome → Passes x u why v.post v.outcome → Passes x u why (if c then t else v).post (if c then t else v).outcome
end_if x u why true t v a b = a
end_if x u why false t v a b = b

reload_reached : (x u : ℕ → ℕ) (layout : Layout) (head tail parent index slot era made : ℕ) (post : Post) (found count : ℕ) → Stage x u layout (FollowsHead head tail) (Reload parent index slot era made) post found count → Reached x u (FollowsHead head tail) (Reload parent index slot era made) post found
reload_reached x u layout head tail parent index slot era made post found count s =
    let r = s.run in
    let a = r.shape in
    let c = s.clean in
    end_if x (u_next x u) (FollowsHead head tail) (found == parent + 1) (ends (with_row post index slot) (events.Held index slot (bump made) ∷ []) (Followed (follow_ends.Followed slot))) (ends post [] (Followed (follow_ends.RootMoved found)))
    (record { free = c.free; kept = λ j low e m. c.kept j low refl (sym (row_above index slot j post a.at low) ∙ m); plain = c.plain }) c

clears_next_reached : (rows : Bool) (x u : ℕ → ℕ) (next : Next) (index : ℕ) (post : Post) (found : ℕ) → index ≡ 1 → Clean x post deep unused → Reached x u (ClearsNext next) (Clear rows index) post found
clears_next_reached rows x u next index post found e c =
    clear_clean x index post deep within unused (λ j n w. by_one index j e n w) (λ j h. absurd (cc)) c
  where
    by_one : (index j : ℕ) → index ≡ 1 → (index == j) ≡ false → within j ≡ true → deep j ≡ true
    by_one index j e n w = grind (arith, nat_tests)

clears_reached : (rows : Bool) (x u : ℕ → ℕ) (task : Task) (next : Next) (index : ℕ) (post : Post) (found : ℕ) → index ≡ index_of task → Clean x post (beside task) (holds_task task) → Reached x u (Clears task next) (Clear rows index) post found
clears_reached rows x u task next index post found e c =
    clear_clean x index post (beside task) (bare task) (holds_task task) (λ j n w. by_own index j e n w) (λ j h. rw e (hold_two task j h)) c
  where
    by_own : (index j : ℕ) → index ≡ index_of task → (index == j) ≡ false → bare task j ≡ true → beside task j ≡ true
    by_own index j e n w = grind (arith, nat_tests)

    hold_two : (task : Task) (j : ℕ) → holds_task task j ≡ true → (index_of task == j) ≡ true
    hold_two (Gets key) j h = absurd (cc)
    hold_two (Changes kept) j h = absurd (cc)
    hold_two (Holds key) j h = grind (arith, nat_tests)
    hold_two (Enqueues kept) j h = absurd (cc)
    hold_two Dequeues j h = absurd (cc)

releases_reached : (rows : Bool) (x u : ℕ → ℕ) (let_go : LetGo) (index : ℕ) (post : Post) (found : ℕ) → index ≡ let_index let_go → Clean x post spare (holds_why (Releases let_go)) → Reached x u (Releases let_go) (Clear rows index) post found
releases_reached rows x u let_go index post found e c =
    clear_clean x index post spare (free_released let_go) (holds_why (Releases let_go)) (λ j n w. by_index let_go index j e n w) (λ j h. own j h) c
  where
    by_index : (let_go : LetGo) (index j : ℕ) → index ≡ let_index let_go → (index == j) ≡ false → free_released let_go j ≡ true → spare j ≡ true
    by_index Released index j e n w = w
    by_index (Rehold key) index j e n w = grind (arith, nat_tests)
    by_index (Dropped other) index j e n w = w
    by_index (Parting other) index j e n w = w

    own : (j : ℕ) → (j == let_index let_go) ≡ true → (index == j) ≡ true
    own j h = grind (arith, nat_tests)

task_right : (task : Task) (base : Base) → task_fills task base ≡ true → fills_task task ≡ true
task_right (Gets key) base h = absurd (cc)
task_right (Changes kept) base h = refl
task_right (Holds key) base h = absurd (cc)
task_right (Enqueues kept) base h = refl
task_right Dequeues base h = absurd (cc)

calm_case : (x u : ℕ → ℕ) (layout : Layout) (why : Why) (base : Base) (post : Post) (found count : ℕ) → calm_kind (kind_of why) ≡ true → Stage x u layout why base post found count → ((next : Post) → Clean (x_after x base) next (free_why why) (holds_why why) → (ending : Ending) → Resumes (x_after x base) next why ending) → Reached x u why base post found
calm_case x u layout why base post found count k s g =
    let r = s.run in
    let h : is_calm base ≡ true = calm_of base (kind_of why) k r.suited in
    let c : Clean (x_after x base) (machine.after base post found).post (free_why why) (holds_why why) = calm_clean x base post found (free_why why) (holds_why why) h (plain_next layout why base post found count s) s.clean in
    calm_reached (x_after x base) (u_next x u) layout why (machine.after base post found).post (machine.after base post found).outcome k s.next.phase c (λ ending. g (machine.after base post found).post c ending)

run_reached : (x u : ℕ → ℕ) (layout : Layout) (why : Why) (base : Base) (post : Post) (found count : ℕ) → Stage x u layout why base post found count → Reached x u why base post found
run_reached x u layout (Opens task) (Protect aim index root made at) post found count s = protect_passes x u layout.config.buckets (Opens task) aim index root made (bump made) count at post found (site_of layout (Opens task) aim index root made at post found count s)
run_reached x u layout (FollowsHead head tail) (Protect aim index root made at) post found count s = protect_passes x u layout.config.buckets (FollowsHead head tail) aim index root made (bump made) count at post found (site_of layout (FollowsHead head tail) aim index root made at post found count s)
run_reached x u layout (FollowsHead head tail) (Reload parent index slot era made) post found count s = reload_reached x u layout head tail parent index slot era made post found count s
run_reached x u layout (Opens task) (Begin at) post found count s = absurd (false_not_true (is_ibr layout.config.scheme) s.scheme s.run.fits)
run_reached x u layout (Fills task) base post found count s = calm_case x u layout (Fills task) base post found count refl s (λ next c ending. (task_right task base s.right, c))
run_reached x u layout (ClearsNext next) (Clear rows index) post found count s = clears_next_reached rows x u next index post found s.run.shape s.clean
run_reached x u layout (Clears task next) (Clear rows index) post found count s = clears_reached rows x u task next index post found s.run.shape s.clean
run_reached x u layout (Releases let_go) (Clear rows index) post found count s = releases_reached rows x u let_go index post found s.run.shape s.clean
run_reached x u layout (Releases let_go) (Release index) post found count s = absurd (false_not_true (is_ibr layout.config.scheme) s.scheme s.run.fits)
run_reached x u layout (Finishes task next) Finish post found count s = absurd (false_not_true (is_ibr layout.config.scheme) s.scheme s.run.fits)
run_reached x u layout (GivesUp answer) base post found count s = calm_case x u layout (GivesUp answer) base post found count refl s (λ next c ending. c)
run_reached x u layout (Retires answer) base post found count s = calm_case x u layout (Retires answer) base post found count refl s (λ next c ending. c)
run_reached x u layout (Tidies later) base post found count s = calm_case x u layout (Tidies later) base post found count refl s (λ next c ending. c)
run_reached x u layout Advances base post found count s = calm_case x u layout Advances base post found count refl s (λ next c ending. c)
run_reached x u layout (Opens task) base post found count s = absurd (no_truth s.run.suited)
run_reached x u layout (FollowsHead head tail) base post found count s = absurd (no_truth s.run.suited)
run_reached x u layout (ClearsNext next) base post found count s = absurd (no_truth s.run.suited)
run_reached x u layout (Clears task next) base post found count s = absurd (no_truth s.run.suited)
run_reached x u layout (Releases let_go) base post found count s = absurd (no_truth s.run.suited)
run_reached x u layout (Finishes task next) base post found count s = absurd (no_truth s.run.suited)

run_rights : (rows : Bool) (x u : ℕ → ℕ) (layout : Layout) (why : Why) (base : Base) (post : Post) (found count : ℕ) → publishes_rows (scheme_of post) ≡ rows → Stage x u layout why base post found count → events_numbered rows (x_after x base) (u_next x u) (count + 1) (machine.after base post found).told ≡ true
run_rights rows x u layout why (Begin at) post found count q s = absurd (false_not_true (is_ibr layout.config.scheme) s.scheme s.run.fits)
run_rights rows x u layout why (Protect aim index root made at) post found count q s = protect_rights rows x u layout.config.buckets why aim index root made (bump made) count at post found q (site_of layout why aim index root made at post found count s)
run_rights rows x u layout why (Reload parent index slot era made) post found count q s =
    let h : since made (x index) (u index) ≡ true = first_of (since made (x index) (u index)) (nat_le made count && reload_paced (scheme_of post) made (x index)) s.own in
    let f : nat_le made count ≡ true = first_of (nat_le made count) (reload_paced (scheme_of post) made (x index)) (rest_of (since made (x index) (u index)) (nat_le made count && reload_paced (scheme_of post) made (x index)) s.own) in
    let e : bump made ≡ made + 1 = bump_low made count (le_of_test made count f) s.low in
    rights_if rows x (u_next x u) (count + 1) (found == parent + 1) (ends (with_row post index slot) (events.Held index slot (bump made) ∷ []) (Followed (follow_ends.Followed slot))) (ends post [] (Followed (follow_ends.RootMoved found)))
    (and_true (event_numbered rows x (u_next x u) (count + 1) (events.Held index slot (bump made))) (rw e (number_of (made + 1) (x index) (turned (x index) (u index)) (count + 1) (since_next made (x index) (u index) h) (few_next made count f)))) refl
run_rights rows x u layout why (Release index) post found count q s = absurd (false_not_true (is_ibr layout.config.scheme) s.scheme s.run.fits)
run_rights rows x u layout why base post found count q s = base_rights rows (x_after x base) (u_next x u) (count + 1) base post found refl

-- of any phase
abbrev pub phase_x : Phase → ℕ → ℕ → ℕ
phase_x (Runs why base) j n = after_x base j n
phase_x (Works work) j n = work_x work j n
phase_x phase j n = n

abbrev pub PhaseRight : Phase → Type 0
PhaseRight (Runs why base) = runs_right why base ≡ true
PhaseRight (Works work) = WorkRight work
PhaseRight phase = Unit {0}

pub record Seat (x u : ℕ → ℕ) (layout : Layout) (i : ℕ) (phase : Phase) (post : Post) : Type 0 where
  pub valid : is_valid layout ≡ true
  pub scheme : is_ibr layout.config.scheme ≡ false
  pub owned : PostFits layout i post
  pub shaped : PhaseFits layout post phase
  pub right : PhaseRight phase
  pub low : post.steps < 2 ^ 62
  pub fits : Fits x u post phase

recount : {x : ℕ → ℕ} {post : Post} {f held : ℕ → Bool} → Clean x post f held → Clean x (counted post) f held
recount c = record { free = c.free; kept = c.kept; plain = c.plain }

pub stage_of : (x u : ℕ → ℕ) (layout : Layout) (i : ℕ) (why : Why) (base : Base) (post : Post) (found : ℕ) → Seat x u layout i (Runs why base) post → Stage x u layout why base (counted post) found post.steps
stage_of x u layout i why base post found s =
    let p = s.owned in
    let f = s.fits in
    let run : Run layout why base (counted post) = run_counted layout why base post s.shaped in
    let kept : PostFits layout i (counted post) = counted_fits layout i post p in
    record {
      run = run;
      table = p.layout;
      scheme = s.scheme;
      next = subst (λ (k : ℕ). Moves (PostFits layout k) (PhaseFits layout) why (machine.after base (counted post) found)) (sym p.seat) (shape_moves layout i s.valid why base (counted post) found kept run);
      right = s.right;
      eight = p.standing;
      call = bump_low post.steps post.steps (le_same post.steps) s.low;
      low = s.low;
      clean = recount f.clean;
      own = f.own;
    }
  where
    le_same : (n : ℕ) → n ≤ n
    le_same n = omega arith

pub turn_fits : (x u : ℕ → ℕ) (layout : Layout) (i : ℕ) (phase : Phase) (post : Post) (desk : Desk) (found : ℕ) → Seat x u layout i phase post → Left (λ j. phase_x phase j (x j)) (u_next x u) (steps.phase_turn phase (counted post) desk found)
turn_fits x u layout i Idle post desk found s = let f = s.fits in record { clean = recount f.clean; own = refl }
turn_fits x u layout i (Runs why base) post desk found s =
    let t : Turn = machine.after base (counted post) found in
    resumed_fits why desk t.post t.told t.outcome (run_reached x u layout why base (counted post) found post.steps (stage_of x u layout i why base post found s))
turn_fits x u layout i (Scans later at) post desk found s = let f = s.fits in scan_fits later at (counted post) desk found (recount f.clean)
turn_fits x u layout i (Works (Keeping at)) post desk found s = let f = s.fits in let p = s.owned in keep_fits at (counted post) desk found (work_counted (Keeping at) post s.shaped) s.right p.standing (recount f.clean)
turn_fits x u layout i (Works work) post desk found s = let f = s.fits in work_fits work (counted post) desk found refl (recount f.clean)

pub turn_rights : (rows : Bool) (x u : ℕ → ℕ) (layout : Layout) (i : ℕ) (phase : Phase) (post : Post) (found : ℕ) → publishes_rows (scheme_of post) ≡ rows → Seat x u layout i phase post → First (λ p told. events_numbered rows (λ j. phase_x phase j (x j)) (u_next x u) (post.steps + 1) told ≡ true) phase (counted post) found
turn_rights rows x u layout i Idle post found q s = refl
turn_rights rows x u layout i (Runs why base) post found q s = run_rights rows x u layout why base (counted post) found post.steps q (stage_of x u layout i why base post found s)
turn_rights rows x u layout i (Scans later (ReadGuard number)) post found q s = reads_are (λ event. events_numbered rows x (u_next x u) (post.steps + 1) (event ∷ []) ≡ true) (publishes_rows (scheme_of post)) (guard_at post.layout.config number) found (λ span. refl) (λ slot. refl)
turn_rights rows x u layout i (Scans later (GiveBack place slot)) post found q s = refl
turn_rights rows x u layout i (Works work) post found q s = work_rights rows (λ j. work_x work j (x j)) (u_next x u) (post.steps + 1) work (counted post)
