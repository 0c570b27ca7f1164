-- Where nothing stands, of whole Worlds.
use Rattle.std.proofs.Common.{ℕ, zero, suc, ◌≡◌, ◌≢◌, ◌∙◌, sym, subst, true, false, arith, refl, Bool, Option, Some, None, ap}
use Rattle.std.proofs.lemmas.Bool.Decides.{nat_tests}
use Rattle.std.specs.Prelude.{◌==◌, if◌then◌else◌, nat_lt}
use Rattle.inv_rows.specs.words.declared.layout.Layout.{Layout}
use Rattle.inv_rows.specs.defs.declared.call.Call.{Call}
use Rattle.inv_rows.specs.defs.declared.call.Call.TheVariants as names
use Rattle.inv_rows.specs.model.declared.post.Post.{Post}
use Rattle.inv_rows.specs.model.Desks.{Desk, noting}
use Rattle.inv_rows.specs.model.Posts.{new_post, stands, withdrawn, counted}
use Rattle.inv_rows.specs.model.Phases.{Aim, ProtectAt, Base}
use Rattle.inv_rows.specs.defs.declared.event.Root.{Root}
use Rattle.inv_rows.specs.model.Phases.ProtectAt.{PublishEra, TakeAnswer, ByHazard}
use Rattle.inv_rows.specs.model.Phases.HazardAt.{PublishLink}
use Rattle.inv_rows.specs.model.Phases.Base.{Protect, Finish, Release}
use Rattle.inv_rows.specs.model.Rounds.{scheme_of, index_of, kept_row, release_span, let_index, letting_by, letting}
use Rattle.inv_rows.specs.model.Steps.{holding, copying, looking_at, first_phase}
use Rattle.inv_rows.specs.model.Calls.{Task, Gets, Changes, Holds, Enqueues, Dequeues, Why, Opens, FollowsHead, Fills, ClearsNext, Clears, Finishes, GivesUp, Retires, Tidies, Advances, Releases, LetGo, Released, Rehold, Dropped, Phase, Idle, CallTurn, CallOutcome, GoesOn, Answers}
use Rattle.inv_rows.specs.model.Locals.{Local, busy_in, turn, after, settled, settled_by, told_by, rounds_told, begun, begun_post}
use Rattle.inv_rows.specs.model.World.{finds, offered, World}
use Rattle.inv_rows.specs.Shapes.Frame.{phase_left}
use Rattle.inv_rows.specs.Shapes.Seats.{Run}
use Rattle.inv_rows.specs.Covering.Held.{rests_protect, rests_base}
use Rattle.inv_rows.specs.Covering.Rests.{spare, bare, vacant_why, vacant, Vacant, RestsStart, RestsBegin, RestsKept, RestsGive, vacant_let, SpanRests, SpansRest}
use Rattle.inv_rows.proofs.Covering.Rests.{spare_bare, round_vacant, withdrawn_vacant}
use Rattle.inv_rows.proofs.Covering.Vacant.{turn_vacant}
use Rattle.inv_rows.proofs.model.Facts.{no_truth, if_by}
use Rattle.inv_rows.proofs.model.Schemes.{each_release, interval_guard}
use Rattle.inv_rows.proofs.model.Standing.{none_kept, stands-withdrawn_other}
use Rattle.inv_rows.specs.model.Keep.{parting, parting_from, parting_span}
use Rattle.inv_rows.proofs.Covering.Rests.{parting_vacant, spare_let}
use Rattle.inv_rows.specs.defs.declared.lifetime.Interval.{Interval}
use Rattle.inv_rows.specs.words.Schemes.{has_one_interval, publishes_rows}
use Rattle.inv_rows.specs.Covering.Covers.{Covers, eras_shown, life_in}
use Rattle.inv_rows.specs.Rows.{View}
use Rattle.inv_rows.specs.defs.declared.event.Guard.{Guard}
use Rattle.inv_rows.specs.defs.declared.event.Guard.TheVariants.{Whole}
use Rattle.inv_rows.specs.defs.Shown as values
use Rattle.inv_rows.specs.defs.declared.shown.Shown.{Shown}
use Rattle.inv_rows.proofs.Covering.Words.{eras_are_shown}
use Rattle.inv_rows.proofs.words.Schemes.{interval_not_rows}

abbrev VacantIn : Local → Type 0
VacantIn l = Vacant (vacant l.phase) l.post

settled_by_vacant : (l : Local) (post : Post) (desk : Desk) (rounds : ℕ) (outcome : CallOutcome) → Vacant (vacant (phase_left outcome)) post → VacantIn (settled_by l post desk rounds outcome)
settled_by_vacant l post desk rounds (GoesOn phase) h = h
settled_by_vacant l post desk rounds (Answers answer) h = h

settled_vacant : (l : Local) (t : CallTurn) → Vacant (vacant (phase_left t.outcome)) t.post → VacantIn (settled l t)
settled_vacant l t h = settled_by_vacant l t.post (noting t.desk (told_by t)) (rounds_told (publishes_rows (scheme_of t.post)) l.rounds (told_by t)) t.outcome h

vacant_pick : (old new : Local) (same : Bool) → VacantIn old → VacantIn new → VacantIn (if same then new else old)
vacant_pick old new true a b = b
vacant_pick old new false a b = a

pub rests_kept : RestsKept
rests_kept w i n r = record {
  vacant = λ k. vacant_pick (w.seat k) (after (offered w i) (finds w i)) (k == i) (r.vacant k) (settled_vacant (offered w i) (turn (offered w i) (finds w i)) (turn_vacant w.layout (w.seat i).phase (w.seat i).post (counted (w.seat i).post) (offered w i).desk (finds w i) n.shape n.right n.kept (r.vacant i)));
}

-- nothing stands in a new post
new_vacant : (seat : ℕ) (layout : Layout) (j : ℕ) → stands (new_post seat layout) j ≡ None
new_vacant seat layout zero = refl
new_vacant seat layout (suc zero) = refl
new_vacant seat layout (suc (suc zero)) = refl
new_vacant seat layout (suc (suc (suc zero))) = refl
new_vacant seat layout (suc (suc (suc (suc zero)))) = refl
new_vacant seat layout (suc (suc (suc (suc (suc zero))))) = refl
new_vacant seat layout (suc (suc (suc (suc (suc (suc zero)))))) = refl
new_vacant seat layout (suc (suc (suc (suc (suc (suc (suc zero))))))) = refl
new_vacant seat layout (suc (suc (suc (suc (suc (suc (suc (suc j)))))))) = refl

pub rests_start : RestsStart
rests_start layout = record { vacant = λ k j e. new_vacant k layout j }

-- a call begins where only what is kept stands
idle_spare : (phase : Phase) (post : Post) → busy_in phase ≡ false → Vacant (vacant phase) post → Vacant spare post
idle_spare Idle post b h = h
idle_spare phase post b h = absurd (cc)

none_held : (key : ℕ) (post : Post) → Vacant spare post → stands post 2 ≡ None → Vacant (bare (Holds key)) post
none_held key post h n j e = by_two (j == 2) refl where
  by_two : (two : Bool) → (j == 2) ≡ two → stands post j ≡ None
  by_two true q = let z : j ≡ 2 = grind (arith, nat_tests) in rw z n
  by_two false q = h j (grind (arith, nat_tests))

let_span_vacant : (let_go : LetGo) (post : Post) (x : Option ℕ) → Vacant (vacant_let let_go) post → Vacant (vacant (letting_by let_go (release_span (let_index let_go) x))) post
let_span_vacant let_go post None h = h
let_span_vacant let_go post (Some slot) h = h

letting_vacant : (let_go : LetGo) (post : Post) → Vacant (vacant_let let_go) post → Vacant (vacant (letting let_go post)) post
letting_vacant let_go post h =
    each_release (scheme_of post) post (let_index let_go) (λ (x : Option Base). Vacant (vacant (letting_by let_go x)) post)
    h
    (let_span_vacant let_go post (kept_row (withdrawn post (let_index let_go))) h)

holding_vacant : (key : ℕ) (post : Post) (x : Option ℕ) → stands post 2 ≡ x → Vacant spare post → Vacant (vacant (holding key post x)) post
holding_vacant key post None n h = round_vacant (Holds key) post (none_held key post h n)
holding_vacant key post (Some slot) n h = letting_vacant (Rehold key) post h

copying_vacant : (from index : ℕ) (post : Post) (x : Option ℕ) → Vacant spare post → Vacant (vacant (copying from index x)) post
copying_vacant from index post None h = h
copying_vacant from index post (Some slot) h = h

looking_vacant : (index key : ℕ) (post : Post) (x : Option ℕ) → Vacant spare post → Vacant (vacant (looking_at index key x)) post
looking_vacant index key post None h = h
looking_vacant index key post (Some slot) h = h

-- a seat leaves
parting_span_vacant : (post : Post) (x : Option Interval) → has_one_interval (scheme_of post) ≡ true → post.span ≡ x → SpanRests post → Vacant spare post → Vacant (vacant (parting_span x)) post
parting_span_vacant post None i e s h = λ j k. s i e j
parting_span_vacant post (Some span) i e s h = h

leaving_vacant : (post : Post) → SpanRests post → Vacant spare post → Vacant (vacant (parting post)) post
leaving_vacant post s h =
    if_by (has_one_interval (scheme_of post)) (parting_span post.span) (parting_from 2 post) (λ (phase : Phase). Vacant (vacant phase) post)
    (λ i. parting_span_vacant post post.span i refl s h)
    (λ i. parting_vacant 2 post (λ j e. h j (grind (arith, nat_tests))))

first_vacant : (call : Call) (post : Post) → SpanRests post → Vacant spare post → Vacant (vacant (first_phase call post)) post
first_vacant (names.Get key) post s h = round_vacant (Gets key) post h
first_vacant (names.Put key value) post s h = round_vacant (Changes _) post h
first_vacant (names.Remove key) post s h = round_vacant (Changes _) post h
first_vacant (names.Enqueue value) post s h = round_vacant (Enqueues _) post h
first_vacant names.Dequeue post s h = round_vacant Dequeues post h
first_vacant (names.Hold key) post s h = holding_vacant key post (stands post 2) refl h
first_vacant names.Release post s h = letting_vacant Released post h
first_vacant names.Advance post s h = h
first_vacant names.Scan post s h = h
first_vacant (names.Copy from index) post s h = copying_vacant from index post (stands post from) h
first_vacant (names.DropIndex index) post s h = letting_vacant (Dropped index) post h
first_vacant (names.Look index key) post s h = looking_vacant index key post (stands post index) h
first_vacant (names.PutIf key value version) post s h = round_vacant (Changes _) post h
first_vacant names.Leave post s h = leaving_vacant post s h
first_vacant (names.Adopt place) post s h = h

pub rests_begin : RestsBegin
rests_begin w i call b s r = record {
  vacant = λ k. vacant_pick (w.seat k) (begun (w.seat i) call) (k == i) (r.vacant k) (first_vacant call (begun_post (w.seat i).post) s (idle_spare (w.seat i).phase (w.seat i).post b (r.vacant i)));
}

-- nothing stands where the next step takes from what a guard publishes
pub bare_own : (task : Task) (j : ℕ) → (j == index_of task) ≡ true → bare task j ≡ true
bare_own (Gets key) j h = grind (arith, nat_tests)
bare_own (Changes kept) j h = grind (arith, nat_tests)
bare_own (Holds key) j h = grind (arith, nat_tests)
bare_own (Enqueues kept) j h = grind (arith, nat_tests)
bare_own Dequeues j h = grind (arith, nat_tests)

protect_rests : (layout : Layout) (why : Why) (aim : Aim) (index : ℕ) (root : Root) (steps : ℕ) (at : ProtectAt) (post : Post) (j : ℕ) → Run layout why (Protect aim index root steps at) post → rests_protect index at j ≡ true → vacant_why why (Protect aim index root steps at) j ≡ true
protect_rests layout (Opens task) aim index root steps (PublishEra era tries) post j r e = let q = r.shape.at in bare_own task j (subst (λ (n : ℕ). (j == n) ≡ true) q e)
protect_rests layout (FollowsHead head tail) aim index root steps (PublishEra era tries) post j r e = let q = r.shape.at in grind (arith, nat_tests)
protect_rests layout (Opens task) aim index root steps (TakeAnswer link era) post j r e = let q = r.shape.at in bare_own task j (subst (λ (n : ℕ). (j == n) ≡ true) q e)
protect_rests layout (FollowsHead head tail) aim index root steps (TakeAnswer link era) post j r e = let q = r.shape.at in grind (arith, nat_tests)
protect_rests layout (Opens task) aim index root steps (ByHazard (PublishLink link)) post j r e = let q = r.shape.at in bare_own task j (subst (λ (n : ℕ). (j == n) ≡ true) q e)
protect_rests layout (FollowsHead head tail) aim index root steps (ByHazard (PublishLink link)) post j r e = let q = r.shape.at in grind (arith, nat_tests)
protect_rests layout (Fills task) aim index root steps at post j r e = absurd (no_truth r.suited)
protect_rests layout (ClearsNext next) aim index root steps at post j r e = absurd (no_truth r.suited)
protect_rests layout (Clears task next) aim index root steps at post j r e = absurd (no_truth r.suited)
protect_rests layout (Finishes task next) aim index root steps at post j r e = absurd (no_truth r.suited)
protect_rests layout (GivesUp answer) aim index root steps at post j r e = absurd (no_truth r.suited)
protect_rests layout (Retires answer) aim index root steps at post j r e = absurd (no_truth r.suited)
protect_rests layout (Tidies later) aim index root steps at post j r e = absurd (no_truth r.suited)
protect_rests layout Advances aim index root steps at post j r e = absurd (no_truth r.suited)
protect_rests layout (Releases let_go) aim index root steps at post j r e = absurd (no_truth r.suited)
protect_rests layout (Opens task) aim index root steps at post j r e = absurd (cc)
protect_rests layout (FollowsHead head tail) aim index root steps at post j r e = absurd (cc)

-- nothing stands where an interval is finished, or at another index than the one that is released
pub none_stands : (post : Post) (j : ℕ) → kept_row post ≡ None → Vacant spare post → stands post j ≡ None
none_stands post j h v = by_low (nat_lt j 2) refl where
  by_low : (low : Bool) → nat_lt j 2 ≡ low → stands post j ≡ None
  by_low true e = v j e
  by_low false e = none_kept post j h (grind (arith, nat_tests))

none_beside : (post : Post) (index j : ℕ) → kept_row (withdrawn post index) ≡ None → (j == index) ≡ false → Vacant spare post → stands post j ≡ None
none_beside post index j h n v =
    let q : j ≢ index = grind (arith, nat_tests) in
    sym (stands-withdrawn_other post index j q) ∙ none_stands (withdrawn post index) j h (withdrawn_vacant spare spare post index (λ m a b. b) v)

finish_spare : (layout : Layout) (why : Why) (post : Post) (j : ℕ) → Run layout why Finish post → spare j ≡ true → vacant_why why Finish j ≡ true
finish_spare layout (Opens task) post j r e = absurd (no_truth r.suited)
finish_spare layout (FollowsHead head tail) post j r e = absurd (no_truth r.suited)
finish_spare layout (Fills task) post j r e = absurd (no_truth r.suited)
finish_spare layout (ClearsNext next) post j r e = absurd (no_truth r.suited)
finish_spare layout (Clears task next) post j r e = absurd (no_truth r.suited)
finish_spare layout (Finishes task next) post j r e = spare_bare task j e
finish_spare layout (GivesUp answer) post j r e = e
finish_spare layout (Retires answer) post j r e = e
finish_spare layout (Tidies later) post j r e = absurd (no_truth r.suited)
finish_spare layout Advances post j r e = e
finish_spare layout (Releases let_go) post j r e = spare_let let_go j e

release_spare : (layout : Layout) (why : Why) (index : ℕ) (post : Post) (j : ℕ) → Run layout why (Release index) post → spare j ≡ true → vacant_why why (Release index) j ≡ true
release_spare layout (Opens task) index post j r e = absurd (no_truth r.suited)
release_spare layout (FollowsHead head tail) index post j r e = absurd (no_truth r.suited)
release_spare layout (Fills task) index post j r e = absurd (no_truth r.suited)
release_spare layout (ClearsNext next) index post j r e = absurd (no_truth r.suited)
release_spare layout (Clears task next) index post j r e = absurd (no_truth r.suited)
release_spare layout (Finishes task next) index post j r e = absurd (no_truth r.suited)
release_spare layout (GivesUp answer) index post j r e = e
release_spare layout (Retires answer) index post j r e = e
release_spare layout (Tidies later) index post j r e = absurd (no_truth r.suited)
release_spare layout Advances index post j r e = e
release_spare layout (Releases let_go) index post j r e = spare_let let_go j e

pub base_rests : (layout : Layout) (why : Why) (base : Base) (post : Post) (j : ℕ) → Run layout why base post → Vacant (vacant_why why base) post → rests_base base j ≡ true → stands post j ≡ None
base_rests layout why (Protect aim index root steps at) post j r v e = v j (protect_rests layout why aim index root steps at post j r e)
base_rests layout why Finish post j r v e = none_stands post j r.posted (λ n k. v n (finish_spare layout why post n r k))
base_rests layout why (Release index) post j r v e = none_beside post index j r.posted (grind (arith, nat_tests)) (λ n k. v n (release_spare layout why index post n r k))
base_rests layout why base post j r v e = absurd (cc)

pub rests_give : RestsGive
rests_give w i why base j n r e h =
    let v : Vacant (vacant_why why base) (w.seat i).post = subst (λ (p : Phase). Vacant (vacant p) (w.seat i).post) e (r.vacant i) in
    base_rests w.layout why base (w.seat i).post j (n.shape why base e) v h

-- what stands under 2GE is covered by the seat's interval
not_covered : (w : World) (v : View) (k s : ℕ) → publishes_rows w.layout.config.scheme ≡ false → Covers w v (Whole k) s → eras_shown w (Whole k) ≡ None → ⊥
not_covered w v k s f c e =
    let h : values.keeps (life_in v s) (values.shown None) ≡ true = subst (λ (x : Shown). values.keeps (life_in v s) x ≡ true) (eras_are_shown w (Whole k) f ∙ ap values.shown e) c.kept in absurd (cc)

pub spans_rest : SpansRest
spans_rest w v k l shows held i none j = by_stands (stands (w.seat k).post j) refl where
  f : has_one_interval w.layout.config.scheme ≡ true
  f = subst (λ (t : Layout). has_one_interval t.config.scheme ≡ true) l i

  by_stands : (x : Option ℕ) → stands (w.seat k).post j ≡ x → x ≡ None
  by_stands None e = refl
  by_stands (Some s) e =
      let h = (held f).stood k j s e in
      let c : Covers w v (Whole k) s = subst (λ (g : Guard). Covers w v g s) (interval_guard w.layout.config.scheme k j f) h.covers in
      absurd (not_covered w v k s (interval_not_rows w.layout.config.scheme f) c (shows f ∙ none))
