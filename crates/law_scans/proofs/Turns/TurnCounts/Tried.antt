-- Each step of a seat keeps how often a protection under way has published.
use Rattle.std.proofs.Common.{ℕ, ◌≡◌, ◌+◌, Bool, true, false, List, [], ◌∷◌, ◌++◌, refl, sym, ap, ◌∙◌, subst, arith}
use Rattle.std.proofs.lemmas.Bool.Decides.{nat_tests}
use Rattle.std.specs.Prelude.{◌==◌, ◌&&◌, ◌||◌, ◌*◌, nat_le, if◌then◌else◌, not}
use Rattle.law_reuse.specs.laws.words.Packed.{reservation_word}
use Rattle.law_reuse.specs.laws.words.declared.config.Config.{Config}
use Rattle.law_reuse.specs.laws.words.declared.layout.Layout.{Layout}
use Rattle.law_reuse.specs.laws.defs.declared.event.Event.{Event}
use Rattle.law_reuse.specs.laws.defs.declared.event.Root.{Root}
use Rattle.law_reuse.specs.inv.model.declared.ends.FollowEnd.{FollowEnd}
use Rattle.law_reuse.specs.inv.model.declared.ends.FollowEnd.TheVariants as follow_ends
use Rattle.law_reuse.specs.inv.model.declared.post.Post.{Post}
use Rattle.law_reuse.specs.inv.model.Guards.{one_era}
use Rattle.law_reuse.specs.inv.model.Machine as machine
use Rattle.law_reuse.specs.inv.model.Memory.{bump}
use Rattle.law_reuse.specs.inv.model.MoveClock as movers
use Rattle.law_reuse.specs.inv.model.Posts.{stands, cleared, reserves_index}
use Rattle.law_reuse.specs.inv.model.Phases.{Aim, Alone, Follows, Base, Ending, Outcome, Goes, Ends}
use Rattle.law_reuse.specs.inv.model.Phases.MoveAt.{HandOver}
use Rattle.law_reuse.specs.inv.model.Phases.Base.{Begin, Protect, Reload, Clear, Finish, Release, Allocate, Write, GiveUp, Retire, Move}
use Rattle.law_reuse.specs.inv.model.Phases.Ending.{Done, Protected, Followed, Allocated, Retired, Clocked}
use Rattle.law_reuse.specs.inv.model.Calls.{Gets, Changes, Holds, Enqueues, Dequeues, Why, Opens, FollowsHead, Fills, ClearsNext, Clears, Finishes, GivesUp, Retires, Tidies, Advances, Releases, Phase, Runs}
use Rattle.law_reuse.proofs.laws.records.defs.Facts.{first_of, rest_of, false_not_true, zero_of_test, zero_test, no_truth}
use Rattle.law_reuse.specs.laws.words.Schemes.{is_ibr, has_one_interval, publishes_rows}
use Rattle.law_reuse.specs.inv.shapes.Frame.{Moves, Passed}
use Rattle.law_reuse.specs.inv.shapes.Seats.{base_fits, PostFits, PhaseFits, Run, protect_fits, Kind, kind_of, suits, protects, reloads, aim_by, index_by, root_by}
use Rattle.law_scans.proofs.Turns.Counting.Passing.{Apart}
use Rattle.law_scans.proofs.Turns.Counting.Told.{all_dull, cleared_dull, index_none, index_other, base_dull}
use Rattle.law_reuse.specs.laws.StateAt.{tried_by}
use Rattle.law_scans.proofs.Turns.Withdrawals.Withdrawing.{tells_link}
use Rattle.law_scans.proofs.Turns.TurnCounts.Trying.{tried_along, last_along, dull_tried, at_tried, at_last, base_tried, Out, Made, made_if}
use Rattle.law_scans.proofs.Turns.TurnCounts.Machines.{TriedEra, protect_made}
use Rattle.law_scans.proofs.Turns.Counting.Runs.{calm_kind, is_calm, calm_of}

-- after the head has moved, so many turns since the index word was published
abbrev pub why_tried : Config → (turns : ℕ) → Why → Base → (index times last : ℕ) → Bool
why_tried c turns (ClearsNext next) base j times last = times == 0 || (j == 1 && nat_le (turns + 1) (3 * c.tries + 15))
why_tried c turns why base j times last = base_tried c base j times last

abbrev pub phase_tried : Config → (turns : ℕ) → Phase → (index times last : ℕ) → Bool
phase_tried c turns (Runs why base) j times last = why_tried c turns why base j times last
phase_tried c turns phase j times last = times == 0

-- what is known of a machine that makes a step
pub record Stage (c : Config) (i j x last turns : ℕ) (layout : Layout) (why : Why) (base : Base) (post : Post) (found : ℕ) : Type 0 where
  pub seat : post.seat ≡ i
  pub table : post.layout ≡ layout
  pub config : layout.config ≡ c
  pub plain : is_ibr layout.config.scheme ≡ false
  pub eras : publishes_rows layout.config.scheme ≡ false
  pub run : Run layout why base post
  pub next : Moves (PostFits layout post.seat) (PhaseFits layout) why (machine.after base post found)
  pub era : TriedEra base
  pub apart : Apart i found base
  pub right : why_tried c turns why base j x last ≡ true

alone_tells : (buckets : ℕ) (why : Why) (aim : Aim) (root : Root) (link : ℕ) → protects (kind_of why) ≡ true → aim ≡ aim_by why → root ≡ root_by buckets why → aim ≡ Alone → tells_link root link ≡ true
alone_tells buckets (Opens (Gets key)) aim root link p a r e = rw r refl
alone_tells buckets (Opens (Changes kept)) aim root link p a r e = rw r refl
alone_tells buckets (Opens (Holds key)) aim root link p a r e = rw r refl
alone_tells buckets (Opens (Enqueues kept)) aim root link p a r e = rw r refl
alone_tells buckets (Opens Dequeues) aim root link p a r e = rw r refl
alone_tells buckets why aim root link p a r e = absurd (cc)

follows_one : (why : Why) (aim : Aim) (index : ℕ) → protects (kind_of why) ≡ true → aim ≡ aim_by why → index ≡ index_by why → aim ≡ Follows → index ≡ 1
follows_one (FollowsHead head tail) aim index p a r e = r
follows_one why aim index p a r e = absurd (cc)

pub reload_one : (why : Why) → reloads (kind_of why) ≡ true → index_by why ≡ 1
reload_one (FollowsHead head tail) h = refl
reload_one why h = absurd (cc)

-- a machine other than a protection
abbrev pub is_other : Base → Bool
is_other (Protect aim index root steps at) = false
is_other (Reload parent index slot era steps) = false
is_other base = true

abbrev pub other_kind : Kind → Bool
other_kind Kind.ToOpen = false
other_kind Kind.ToFollow = false
other_kind kind = true

pub other_of_kind : (base : Base) (kind : Kind) → other_kind kind ≡ true → suits base kind ≡ true → is_other base ≡ true
other_of_kind (Protect aim index root steps at) Kind.ToOpen k h = absurd (cc)
other_of_kind (Protect aim index root steps at) Kind.ToFollow k h = absurd (cc)
other_of_kind (Protect aim index root steps at) kind k h = absurd (cc)
other_of_kind (Reload parent index slot era steps) Kind.ToFollow k h = absurd (cc)
other_of_kind (Reload parent index slot era steps) kind k h = absurd (cc)
other_of_kind base kind k h = refl

pub other_tried : (c : Config) (base : Base) (j x last : ℕ) → is_other base ≡ true → base_tried c base j x last ≡ (x == 0)
other_tried c (Protect aim index root steps at) j x last h = absurd (cc)
other_tried c (Reload parent index slot era steps) j x last h = absurd (cc)
other_tried c base j x last h = refl

-- nothing is under way
follow_out : (moved : Bool) (c : Config) (j x last : ℕ) (end : FollowEnd) → x ≡ 0 → Out moved c j x last (Ends (Followed end))
follow_out moved c j x last (follow_ends.RootMoved seen) h = rw h refl
follow_out moved c j x last (follow_ends.Followed slot) h = h
follow_out moved c j x last follow_ends.NoNext h = h

end_out : (moved : Bool) (c : Config) (j x last : ℕ) (ending : Ending) → x ≡ 0 → Out moved c j x last (Ends ending)
end_out moved c j x last (Followed end) h = follow_out moved c j x last end h
end_out moved c j x last Done h = h
end_out moved c j x last (Protected end) h = h
end_out moved c j x last (Allocated end) h = h
end_out moved c j x last (Retired life) h = h
end_out moved c j x last (Clocked clock) h = h

rest_out : (moved : Bool) (c : Config) (layout : Layout) (j x last : ℕ) (why : Why) (post : Post) (outcome : Outcome) → other_kind (kind_of why) ≡ true → Passed (PhaseFits layout) why post outcome → x ≡ 0 → Out moved c j x last outcome
rest_out moved c layout j x last why post (Goes base) k p h = other_tried c base j x last (other_of_kind base (kind_of why) k p.suited) ∙ zero_test x h
rest_out moved c layout j x last why post (Ends ending) k p h = end_out moved c j x last ending h

-- what the machines tell that touch no index word of their seat
handed_tried : (i j x era seat tag index old : ℕ) (post : Post) (same : Bool) → (same ≡ true → (seat == i) ≡ false) → tried_along i j (movers.after_hand_over era seat tag index old post same).told x ≡ x
handed_tried i j x era seat tag index old post true a = index_other i j seat index x (one_era era) (a refl)
handed_tried i j x era seat tag index old post false a = refl

calm_tried : (i j x : ℕ) (base : Base) (post : Post) (found : ℕ) → is_calm base ≡ true → Apart i found base → tried_along i j (machine.after base post found).told x ≡ x
calm_tried i j x (Move (HandOver era seat tag index root link old)) post found h a = handed_tried i j x era seat tag index old post (found == reservation_word (record { era = old; tag = tag })) a
calm_tried i j x (Move at) post found h a = dull_tried i j (machine.after (Move at) post found).told x (base_dull (Move at) post found refl refl)
calm_tried i j x (Allocate at) post found h a = dull_tried i j (machine.after (Allocate at) post found).told x (base_dull (Allocate at) post found refl refl)
calm_tried i j x (Write slot row place) post found h a = dull_tried i j (machine.after (Write slot row place) post found).told x (base_dull (Write slot row place) post found refl refl)
calm_tried i j x (GiveUp slot) post found h a = refl
calm_tried i j x (Retire at) post found h a = dull_tried i j (machine.after (Retire at) post found).told x (base_dull (Retire at) post found refl refl)
calm_tried i j x base post found h a = absurd (cc)

pub calm_other : (kind : Kind) → calm_kind kind ≡ true → other_kind kind ≡ true
calm_other Kind.ToOpen h = absurd (cc)
calm_other Kind.ToFollow h = absurd (cc)
calm_other kind h = refl

calm_is : (base : Base) → is_calm base ≡ true → is_other base ≡ true
calm_is (Protect aim index root steps at) h = absurd (cc)
calm_is (Reload parent index slot era steps) h = absurd (cc)
calm_is base h = refl

calm_why : (c : Config) (turns : ℕ) (why : Why) (base : Base) (j x last : ℕ) → calm_kind (kind_of why) ≡ true → is_calm base ≡ true → why_tried c turns why base j x last ≡ true → x ≡ 0
calm_why c turns (Fills task) base j x last k b h = zero_of_test x (sym (other_tried c base j x last (calm_is base b)) ∙ h)
calm_why c turns (GivesUp answer) base j x last k b h = zero_of_test x (sym (other_tried c base j x last (calm_is base b)) ∙ h)
calm_why c turns (Retires answer) base j x last k b h = zero_of_test x (sym (other_tried c base j x last (calm_is base b)) ∙ h)
calm_why c turns (Tidies later) base j x last k b h = zero_of_test x (sym (other_tried c base j x last (calm_is base b)) ∙ h)
calm_why c turns Advances base j x last k b h = zero_of_test x (sym (other_tried c base j x last (calm_is base b)) ∙ h)
calm_why c turns why base j x last k b h = absurd (cc)

calm_made : (moved : Bool) (c : Config) (i j x last turns : ℕ) (layout : Layout) (why : Why) (base : Base) (post : Post) (found : ℕ) → calm_kind (kind_of why) ≡ true → Stage c i j x last turns layout why base post found → Made moved c i j x last (machine.after base post found)
calm_made moved c i j x last turns layout why base post found k s =
    let r = s.run in
    let b : is_calm base ≡ true = calm_of base (kind_of why) k r.suited in
    let z : x ≡ 0 = calm_why c turns why base j x last k b s.right in
    let y : tried_along i j (machine.after base post found).told x ≡ 0 = calm_tried i j x base post found b s.apart ∙ z in
    let n = s.next in
    rest_out moved c layout j (tried_along i j (machine.after base post found).told x) (last_along (machine.after base post found).told last) why (machine.after base post found).post (machine.after base post found).outcome (calm_other (kind_of why) k) n.phase y

-- an index word is withdrawn
clear_made : (moved : Bool) (c : Config) (i j x last index : ℕ) (post : Post) (found : ℕ) → post.seat ≡ i → ((index == j) ≡ false → x ≡ 0) → Made moved c i j x last (machine.after (Clear false index) post found)
clear_made moved c i j x last index post found s h = along (cleared index (stands post index)) (cleared_dull index (stands post index)) ∙ index_none i j post.seat index x s ∙ by (index == j) refl
  where
    both_along : (xs ys : List Event) (n : ℕ) → tried_along i j (xs ++ ys) n ≡ tried_along i j ys (tried_along i j xs n)
    both_along [] ys n = refl
    both_along (e ∷ xs) ys n = both_along xs ys (tried_by i j e n)

    along : (told : List Event) → all_dull told ≡ true → tried_along i j (told ++ reserves_index post index 0) x ≡ tried_along i j (reserves_index post index 0) x
    along told d = both_along told (reserves_index post index 0) x ∙ ap (tried_along i j (reserves_index post index 0)) (dull_tried i j told x d)

    by : (own : Bool) → (index == j) ≡ own → (if own then 0 else x) ≡ 0
    by true o = refl
    by false o = h o

no_rows : (layout : Layout) (index : ℕ) → publishes_rows layout.config.scheme ≡ false → base_fits layout.config (Clear true index) ≡ true → ⊥
no_rows layout index e f = false_not_true (publishes_rows layout.config.scheme) e (rest_of (not (has_one_interval layout.config.scheme)) (publishes_rows layout.config.scheme) f)

reload_made : (c : Config) (i j x last : ℕ) (parent index slot era n : ℕ) (post : Post) (found made : ℕ) → index ≡ 1 → (x == 0 || j == 1) ≡ true → Made true c i j x last (machine.after (Reload parent index slot era made) post found)
reload_made c i j x last parent index slot era n post found made e h = made_if true c i j x last (found == parent + 1) _ _ (λ q. by (index == j) refl) (λ q. h)
  where
    by : (own : Bool) → (index == j) ≡ own → (if own then 0 else x) ≡ 0
    by true o = refl
    by false o = grind (arith, nat_tests)

moved_zero : (j x bound turns index : ℕ) → index ≡ 1 → (x == 0 || (j == 1 && nat_le (turns + 1) bound)) ≡ true → (index == j) ≡ false → x ≡ 0
moved_zero j x bound turns index e h o = grind (arith, nat_tests)

abbrev pub is_follow : Why → Bool
is_follow (FollowsHead head tail) = true
is_follow why = false

pub run_made : (c : Config) (i j x last turns : ℕ) (layout : Layout) (why : Why) (base : Base) (post : Post) (found : ℕ) → Stage c i j x last turns layout why base post found → Made (is_follow why) c i j x last (machine.after base post found)
run_made c i j x last turns layout (Opens task) (Protect aim index root made at) post found s =
    let r = s.run in
    let a = r.shape in
    let h : (at_last index root at last && (if index == j then at_tried c root at x else x == 0)) ≡ true = s.right in
    protect_made false c i j x last aim index root made (bump made) at post found s.era
    (record {
      seat = s.seat;
      config = ap (λ (table : Layout). table.config) s.table ∙ s.config;
      plain = ap (λ (table : Layout). is_ibr table.config.scheme) s.table ∙ s.plain;
      eras = ap (λ (table : Layout). publishes_rows table.config.scheme) s.table ∙ s.eras;
      fits = subst (λ (table : Layout). protect_fits table.config.scheme table.config.tries at ≡ true) (sym s.table) r.fits;
      alone = λ e link. alone_tells layout.config.buckets (Opens task) aim root link r.suited a.aimed a.of e;
      follows = λ e. follows_one (Opens task) aim index r.suited a.aimed a.at e;
      right = first_of (at_last index root at last) (if index == j then at_tried c root at x else x == 0) h;
      times = rest_of (at_last index root at last) (if index == j then at_tried c root at x else x == 0) h;
    })
run_made c i j x last turns layout (FollowsHead head tail) (Protect aim index root made at) post found s =
    let r = s.run in
    let a = r.shape in
    let h : (at_last index root at last && (if index == j then at_tried c root at x else x == 0)) ≡ true = s.right in
    protect_made true c i j x last aim index root made (bump made) at post found s.era
    (record {
      seat = s.seat;
      config = ap (λ (table : Layout). table.config) s.table ∙ s.config;
      plain = ap (λ (table : Layout). is_ibr table.config.scheme) s.table ∙ s.plain;
      eras = ap (λ (table : Layout). publishes_rows table.config.scheme) s.table ∙ s.eras;
      fits = subst (λ (table : Layout). protect_fits table.config.scheme table.config.tries at ≡ true) (sym s.table) r.fits;
      alone = λ e link. alone_tells layout.config.buckets (FollowsHead head tail) aim root link r.suited a.aimed a.of e;
      follows = λ e. follows_one (FollowsHead head tail) aim index r.suited a.aimed a.at e;
      right = first_of (at_last index root at last) (if index == j then at_tried c root at x else x == 0) h;
      times = rest_of (at_last index root at last) (if index == j then at_tried c root at x else x == 0) h;
    })
run_made c i j x last turns layout (FollowsHead head tail) (Reload parent index slot era made) post found s = let r = s.run in let a = r.shape in reload_made c i j x last parent index slot era 0 post found made a.at s.right
run_made c i j x last turns layout (Opens task) (Begin at) post found s = absurd (false_not_true (is_ibr layout.config.scheme) s.plain s.run.fits)
run_made c i j x last turns layout (Fills task) base post found s = calm_made false c i j x last turns layout (Fills task) base post found refl s
run_made c i j x last turns layout (ClearsNext next) (Clear false index) post found s = clear_made false c i j x last index post found s.seat (moved_zero j x (3 * c.tries + 15) turns index s.run.shape s.right)
run_made c i j x last turns layout (Clears task next) (Clear false index) post found s = clear_made false c i j x last index post found s.seat (λ o. zero_of_test x s.right)
run_made c i j x last turns layout (Releases let_go) (Clear false index) post found s = clear_made false c i j x last index post found s.seat (λ o. zero_of_test x s.right)
run_made c i j x last turns layout (ClearsNext next) (Clear true index) post found s = absurd (no_rows layout index s.eras s.run.fits)
run_made c i j x last turns layout (Clears task next) (Clear true index) post found s = absurd (no_rows layout index s.eras s.run.fits)
run_made c i j x last turns layout (Releases let_go) (Clear true index) post found s = absurd (no_rows layout index s.eras s.run.fits)
run_made c i j x last turns layout (Releases let_go) (Release index) post found s = absurd (false_not_true (is_ibr layout.config.scheme) s.plain s.run.fits)
run_made c i j x last turns layout (Finishes task next) Finish post found s = absurd (false_not_true (is_ibr layout.config.scheme) s.plain s.run.fits)
run_made c i j x last turns layout (GivesUp answer) base post found s = calm_made false c i j x last turns layout (GivesUp answer) base post found refl s
run_made c i j x last turns layout (Retires answer) base post found s = calm_made false c i j x last turns layout (Retires answer) base post found refl s
run_made c i j x last turns layout (Tidies later) base post found s = calm_made false c i j x last turns layout (Tidies later) base post found refl s
run_made c i j x last turns layout Advances base post found s = calm_made false c i j x last turns layout Advances base post found refl s
run_made c i j x last turns layout (Opens task) base post found s = absurd (no_truth s.run.suited)
run_made c i j x last turns layout (FollowsHead head tail) base post found s = absurd (no_truth s.run.suited)
run_made c i j x last turns layout (ClearsNext next) base post found s = absurd (no_truth s.run.suited)
run_made c i j x last turns layout (Clears task next) base post found s = absurd (no_truth s.run.suited)
run_made c i j x last turns layout (Releases let_go) base post found s = absurd (no_truth s.run.suited)
run_made c i j x last turns layout (Finishes task next) base post found s = absurd (no_truth s.run.suited)
