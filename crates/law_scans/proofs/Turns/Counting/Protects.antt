-- The steps of a protection: what its seat has published, and the turns since, go on with its steps.
use Rattle.std.proofs.Common.{ℕ, ◌≡◌, ◌-◌, ◌+◌, Bool, true, false, List, [], ◌++◌, length, Option, None, refl, subst, arith, sym, ap, ◌∙◌}
use Rattle.std.proofs.lemmas.Bool.Decides.{nat_tests}
use Rattle.std.specs.Prelude.{◌==◌, ◌&&◌, ◌||◌, ◌*◌, not, nat_le, nat_lt, if◌then◌else◌}
use Rattle.law_reuse.specs.laws.words.Packed.{read_request}
use Rattle.law_reuse.specs.laws.defs.declared.event.Event.{Event}
use Rattle.law_reuse.specs.laws.defs.declared.event.Root.{Root}
use Rattle.law_reuse.specs.inv.model.declared.ends.FollowEnd.TheVariants as follow_ends
use Rattle.law_reuse.specs.inv.model.declared.ends.ProtectEnd.TheVariants as protect_ends
use Rattle.law_reuse.specs.inv.model.declared.post.Post.{Post}
use Rattle.law_reuse.specs.inv.model.Links.{parent_of}
use Rattle.law_reuse.specs.inv.model.Machine as machine
use Rattle.law_reuse.specs.inv.model.Posts.{stands, with_tag, tag_of, publishes_index, reserves_index, reserves_helper}
use Rattle.law_reuse.specs.inv.model.Protect.{failed_once, held_post, told_held, concluded, trying}
use Rattle.law_reuse.specs.inv.model.Rounds.{scheme_of, index_of}
use Rattle.law_reuse.specs.inv.model.SlowPath.{own_request, answer_in, lost_turn}
use Rattle.law_reuse.specs.inv.model.Phases.{Aim, Alone, Follows, ProtectAt, Turn, goes, ends}
use Rattle.law_reuse.specs.inv.model.Phases.ProtectAt.{LoadClock, PublishEra, LoadLink, CheckClock, PublishRequest, LoadOwnClock, PublishHelper, LoadOwnLink, CheckOwnClock, AnswerOwn, LoadAnswer, TakeAnswer, WithdrawRequest, WithdrawHelper, LoadWithin, CheckUpper, RaiseUpper, ByHazard}
use Rattle.law_reuse.specs.inv.model.Phases.HazardAt.{FirstLink, PublishLink, CheckLink}
use Rattle.law_reuse.specs.inv.model.Phases.Base.{Protect, Reload}
use Rattle.law_reuse.specs.inv.model.Phases.Ending.{Protected, Followed}
use Rattle.law_reuse.specs.inv.model.Calls.{Task, Why, Opens, FollowsHead, Fills, ClearsNext, Clears, Finishes, GivesUp, Retires, Tidies, Advances, Releases}
use Rattle.law_reuse.proofs.laws.records.defs.Facts.{both, first_of, rest_of, number_is, false_not_true, implies_or, three_more, le_one_more}
use Rattle.law_reuse.specs.laws.words.Schemes.{is_ibr, is_he, publishes_rows}
use Rattle.law_reuse.specs.laws.words.declared.config.SchemeKind.{SchemeKind}
use Rattle.law_reuse.specs.laws.words.declared.config.SchemeKind.TheVariants.{He, Hp, Ibr, Wfe}
use Rattle.law_reuse.specs.inv.shapes.Seats.{protect_fits, aim_by, index_by, root_by, kind_of, protects}
use Rattle.law_scans.proofs.Turns.Counting.Fits.{tried, base_own, free_why, holds_why, holds_task, is_hold, reload_paced, Clean, since, paced, stands_taken, taken, Passes, Opened}
use Rattle.law_reuse.proofs.history.MayTell.{concluded_told}
use Rattle.law_scans.proofs.Turns.Counting.Told.{events_numbered, held_right, null_right}
use Rattle.law_reuse.proofs.inv.ends.Rest.Falling.{fit_rows}
use Rattle.law_scans.proofs.Turns.Counting.Passing.{tried_of, tried_with, tried_again, he_tried, he_first, he_publish, protect_x, turned, since_next, since_publish, publish_next, since_again, first_next, few_next, hazard_first, hazard_publish, hazard_again, number_of, own_x, paced_trying, taken_trying, paced_lost, taken_lost, paced_answer, taken_answer, held_other, held_taken, protect_clean}
use Rattle.law_reuse.proofs.Turns.Steady.{held_same}
use Rattle.law_reuse.proofs.inv.requests.Paced.{wfe_not_he}

-- what is known of a protection that makes a step: `n` is the step's number, `count` the steps of its call before it
pub record Site (x u : ℕ → ℕ) (buckets : ℕ) (why : Why) (aim : Aim) (index : ℕ) (root : Root) (steps n count : ℕ) (at : ProtectAt) (post : Post) : Type 0 where
  pub protects : protects (kind_of why) ≡ true
  pub aimed : aim ≡ aim_by why
  pub place : index ≡ index_by why
  pub of : root ≡ root_by buckets why
  pub scheme : is_ibr (scheme_of post) ≡ false
  pub fits : protect_fits (scheme_of post) post.layout.config.tries at ≡ true
  pub eight : length post.standing ≡ 8
  pub next : n ≡ steps + 1
  pub call : post.steps ≡ count + 1
  pub clean : Clean x post (free_why why) (holds_why why)
  pub paced : paced at steps (x index) (u index) ≡ true
  pub few : nat_le steps count ≡ true
  pub stood : taken index at (stands post 2) ≡ true

abbrev pub x_next : (ℕ → ℕ) → (index : ℕ) → ProtectAt → ℕ → ℕ
x_next x index at j = protect_x index at j (x j)

abbrev pub u_next : (x u : ℕ → ℕ) → ℕ → ℕ
u_next x u j = turned (x j) (u j)

abbrev Goal : (x u : ℕ → ℕ) → (index : ℕ) → ProtectAt → Why → Turn → Type 0
Goal x u index at why t = Passes (x_next x index at) (u_next x u) why t.post t.outcome

pass_if : (x u : ℕ → ℕ) (index : ℕ) (at : ProtectAt) (why : Why) (c : Bool) (t v : Turn) → Goal x u index at why t → Goal x u index at why v → Goal x u index at why (if c then t else v)
pass_if x u index at why true t v a b = a
pass_if x u index at why false t v a b = b

pass_by : (x u : ℕ → ℕ) (index : ℕ) (at : ProtectAt) (why : Why) (c : Bool) (t v : Turn) → (c ≡ true → Goal x u index at why t) → (c ≡ false → Goal x u index at why v) → Goal x u index at why (if c then t else v)
pass_by x u index at why true t v a b = a refl
pass_by x u index at why false t v a b = b refl

-- the protection goes on
neither_last : (a b : Bool) → (a || b) ≡ false → b ≡ false
neither_last true b h = absurd (cc)
neither_last false b h = h

on_fits : (x u : ℕ → ℕ) (index : ℕ) (at : ProtectAt) (why : Why) (aim : Aim) (root : Root) (n : ℕ) (later : ProtectAt) (next : Post) (told : List Event)
    → Clean (x_next x index at) next (free_why why) (holds_why why)
    → paced later n (x_next x index at index) (u_next x u index) ≡ true
    → nat_le n next.steps ≡ true
    → taken index later (stands next 2) ≡ true
    → Goal x u index at why (goes next told (Protect aim index root n later))
on_fits x u index at why aim root n later next told c p f t = record {
  clean = c;
  own = both (paced later n (x_next x index at index) (u_next x u index)) (nat_le n next.steps && taken index later (stands next 2)) p (both (nat_le n next.steps) (taken index later (stands next 2)) f t);
}

-- it is over
held_two : (task : Task) (index link : ℕ) → is_hold task ≡ true → index ≡ index_of task → (link == 0) ≡ false → stands_taken index link None ≡ true → ⊥
held_two (Task.Gets key) index link h i e t = cc
held_two (Task.Changes kept) index link h i e t = cc
held_two (Task.Holds key) index link h i e t = let q : stands_taken 2 link None ≡ true = rw i at t in let r : false ≡ true = rw e at q in cc
held_two (Task.Enqueues kept) index link h i e t = cc
held_two Task.Dequeues index link h i e t = cc

link_ends : (x u : ℕ → ℕ) (index : ℕ) (at : ProtectAt) (task : Task) (link era : ℕ) (next : Post) (told : List Event) (none : Bool) → (link == 0) ≡ none → index ≡ index_of task
    → Clean (x_next x index at) next (free_why (Opens task)) (holds_why (Opens task)) → stands_taken index link (stands next 2) ≡ true
    → Opened (x_next x index at) next task (Protected (if none then protect_ends.Null else protect_ends.Held (link - 1) era))
link_ends x u index at task link era next told true e i c t = c
link_ends x u index at task link era next told false e i c t = record { free = c.free; kept = λ j low h m. by j (holds_task task j) refl low m; plain = c.plain }
  where
    by : (j : ℕ) (hold : Bool) → holds_task task j ≡ hold → nat_lt j 2 ≡ false → stands next j ≡ None → x_next x index at j ≡ 0
    by j false h low m = c.kept j low h m
    by j true h low m =
        let two : j ≡ 2 = number_is j 2 (rest_of (is_hold task) (j == 2) h) in
        let none : stands next 2 ≡ None = subst (λ (n : ℕ). stands next n ≡ None) two m in
        absurd (held_two task index link (first_of (is_hold task) (j == 2) h) i e (subst (λ (o : Option ℕ). stands_taken index link o ≡ true) none t))

conclude : (x u : ℕ → ℕ) (buckets : ℕ) (why : Why) (aim : Aim) (index : ℕ) (root : Root) (n : ℕ) (at : ProtectAt) (link era : ℕ) (next : Post) (told : List Event)
    → protects (kind_of why) ≡ true
    → aim ≡ aim_by why
    → index ≡ index_by why
    → Clean (x_next x index at) next (free_why why) (holds_why why)
    → stands_taken index link (stands next 2) ≡ true
    → ((link == 0) ≡ false → base_own (x_next x index at) (u_next x u) next (Reload (parent_of root) index (link - 1) era n) ≡ true)
    → Goal x u index at why (concluded aim index root n link era next told)
conclude x u buckets (Opens task) Alone index root n at link era next told p a i c t h = link_ends x u index at task link era next told (link == 0) refl i c t
conclude x u buckets (FollowsHead head tail) Follows index root n at link era next told p a i c t h =
    pass_by x u index at (FollowsHead head tail) (link == 0) (ends next told (Followed follow_ends.NoNext)) (goes next told (Reload (parent_of root) index (link - 1) era n)) (λ e. c) (λ e. record { clean = c; own = h e })
conclude x u buckets (Opens task) Follows index root n at link era next told p a i c t h = absurd (cc)
conclude x u buckets (FollowsHead head tail) Alone index root n at link era next told p a i c t h = absurd (cc)
conclude x u buckets (Fills task) aim index root n at link era next told p a i c t h = absurd (cc)
conclude x u buckets (ClearsNext later) aim index root n at link era next told p a i c t h = absurd (cc)
conclude x u buckets (Clears task later) aim index root n at link era next told p a i c t h = absurd (cc)
conclude x u buckets (Finishes task later) aim index root n at link era next told p a i c t h = absurd (cc)
conclude x u buckets (GivesUp answer) aim index root n at link era next told p a i c t h = absurd (cc)
conclude x u buckets (Retires answer) aim index root n at link era next told p a i c t h = absurd (cc)
conclude x u buckets (Tidies later) aim index root n at link era next told p a i c t h = absurd (cc)
conclude x u buckets Advances aim index root n at link era next told p a i c t h = absurd (cc)
conclude x u buckets (Releases let_go) aim index root n at link era next told p a i c t h = absurd (cc)

held_scheme : (post : Post) (index : ℕ) (root : Root) (link : ℕ) → scheme_of (held_post post index root link) ≡ scheme_of post
held_scheme post index root link = grind arith

held_plain : (post : Post) (index : ℕ) (root : Root) (link : ℕ) → is_ibr (scheme_of post) ≡ false → is_ibr (scheme_of (held_post post index root link)) ≡ false
held_plain post index root link h = grind arith

-- the steps of a protection whose row is to be followed
pub rows_not_he : (scheme : SchemeKind) → publishes_rows scheme ≡ true → is_he scheme ≡ false
rows_not_he He h = absurd (cc)
rows_not_he Ibr h = refl
rows_not_he Wfe h = refl
rows_not_he Hp h = refl

eras_reload : (scheme : SchemeKind) (n x : ℕ) → publishes_rows scheme ≡ false → (is_he scheme ≡ true → (n == 3 * x + 1) ≡ true) → reload_paced scheme n x ≡ true
eras_reload scheme n x r h = both (not (is_he scheme) || n == 3 * x + 1) (not (publishes_rows scheme) || n == 2 * x + 1) (implies_or (is_he scheme) (n == 3 * x + 1) h) (rw r refl)

rows_reload : (scheme : SchemeKind) (n x : ℕ) → publishes_rows scheme ≡ true → (n == 2 * x + 1) ≡ true → reload_paced scheme n x ≡ true
rows_reload scheme n x r h = let e = rows_not_he scheme r in both (not (is_he scheme) || n == 3 * x + 1) (not (publishes_rows scheme) || n == 2 * x + 1) (rw e refl) (rw r h)

two_more : (steps x : ℕ) → (steps == 2 * x) ≡ true → (steps + 1 == 2 * x + 1) ≡ true
two_more steps x h = grind (arith, nat_tests)

own_reload : (x u : ℕ → ℕ) (index : ℕ) (root : Root) (n link era : ℕ) (next : Post) → since n (x index) (u index) ≡ true → nat_le n next.steps ≡ true → reload_paced (scheme_of next) n (x index) ≡ true → base_own x u next (Reload (parent_of root) index (link - 1) era n) ≡ true
own_reload x u index root n link era next s f h = both (since n (x index) (u index)) (nat_le n next.steps && reload_paced (scheme_of next) n (x index)) s (both (nat_le n next.steps) (reload_paced (scheme_of next) n (x index)) f h)

pub protect_passes : (x u : ℕ → ℕ) (buckets : ℕ) (why : Why) (aim : Aim) (index : ℕ) (root : Root) (steps n count : ℕ) (at : ProtectAt) (post : Post) (found : ℕ) → Site x u buckets why aim index root steps n count at post → Goal x u index at why (machine.protect_turn aim index root n at post found)
protect_passes x u buckets why aim index root steps n count (LoadClock tries) post found s =
    let c : Clean (x_next x index (LoadClock tries)) post (free_why why) (holds_why why) = protect_clean why index (LoadClock tries) post post s.protects s.place s.scheme (λ j e. refl) s.clean in
    let f : nat_le n post.steps ≡ true = le_one_more n steps count post.steps s.next s.call s.few in
    on_fits x u index (LoadClock tries) why aim root n (PublishEra found tries) post [] c (both (if x index == 0 then n == 1 else n == turned (x index) (u index) + 1) (tried tries (n == 3 * x index + 1)) (rw (s.next) (first_next steps (x index) (u index) s.paced)) (tried_of tries (n == 3 * x index + 1) (rw (s.next) (he_first steps (x index) s.paced)))) f refl
protect_passes x u buckets why aim index root steps n count (PublishEra era tries) post found s =
    let c : Clean (x_next x index (PublishEra era tries)) post (free_why why) (holds_why why) = protect_clean why index (PublishEra era tries) post post s.protects s.place s.scheme (λ j e. refl) s.clean in
    let f : nat_le n post.steps ≡ true = le_one_more n steps count post.steps s.next s.call s.few in
    let q : x_next x index (PublishEra era tries) index ≡ x index + 1 = own_x index (x index) in
    let p : since n (x_next x index (PublishEra era tries) index) (turned (x index) (u index)) ≡ true = rw q (rw (s.next) (publish_next steps (x index) (u index) (first_of (if x index == 0 then steps == 1 else steps == u index + 1) (tried tries (steps == 3 * x index + 1)) s.paced))) in
    on_fits x u index (PublishEra era tries) why aim root n (trying post.layout.config era tries) post (reserves_index post index era) c (paced_trying post.layout.config era tries n (x_next x index (PublishEra era tries) index) (u_next x u index) p (rw q (rw (s.next) (tried_with tries (steps == 3 * x index + 1) (steps + 1 + 1 == 3 * (x index + 1)) (λ h. he_publish steps (x index) h) (rest_of (if x index == 0 then steps == 1 else steps == u index + 1) (tried tries (steps == 3 * x index + 1)) s.paced))))) f (taken_trying post.layout.config era tries index (stands post 2))
protect_passes x u buckets why aim index root steps n count (LoadLink era tries) post found s =
    let c : Clean (x_next x index (LoadLink era tries)) post (free_why why) (holds_why why) = protect_clean why index (LoadLink era tries) post post s.protects s.place s.scheme (λ j e. refl) s.clean in
    let f : nat_le n post.steps ≡ true = le_one_more n steps count post.steps s.next s.call s.few in
    let p : since n (x index) (turned (x index) (u index)) ≡ true = rw (s.next) (since_next steps (x index) (u index) (first_of (since steps (x index) (u index)) (tried tries (steps + 1 == 3 * x index)) s.paced)) in
    on_fits x u index (LoadLink era tries) why aim root n (CheckClock era tries found) post [] c (both (since n (x index) (turned (x index) (u index))) (tried tries (n == 3 * x index)) p (rw (s.next) (rest_of (since steps (x index) (u index)) (tried tries (steps + 1 == 3 * x index)) s.paced))) f refl
protect_passes x u buckets why aim index root steps n count (CheckClock era tries link) post found s =
    let c : Clean (x_next x index (CheckClock era tries link)) post (free_why why) (holds_why why) = protect_clean why index (CheckClock era tries link) post post s.protects s.place s.scheme (λ j e. refl) s.clean in
    let f : nat_le n post.steps ≡ true = le_one_more n steps count post.steps s.next s.call s.few in
    let p : since n (x index) (turned (x index) (u index)) ≡ true = rw (s.next) (since_next steps (x index) (u index) (first_of (since steps (x index) (u index)) (tried tries (steps == 3 * x index)) s.paced)) in
    let z : tried tries (steps == 3 * x index) ≡ true = rest_of (since steps (x index) (u index)) (tried tries (steps == 3 * x index)) s.paced in
    let h : Clean (x_next x index (CheckClock era tries link)) (held_post post index root link) (free_why why) (holds_why why) = protect_clean why index (CheckClock era tries link) post (held_post post index root link) s.protects s.place (held_plain post index root link s.scheme) (λ j e. held_other post index root link j e) s.clean in
    let g : nat_le n (held_post post index root link).steps ≡ true = rw (held_same post index root link) f in
    pass_if x u index (CheckClock era tries link) why (found == era) (concluded aim index root n link era (held_post post index root link) (told_held index root link n)) _
    (conclude x u buckets why aim index root n (CheckClock era tries link) link era (held_post post index root link) (told_held index root link n) s.protects s.aimed s.place h (held_taken buckets why index root link post s.protects s.place s.of s.eight)
    (λ d. own_reload (x_next x index (CheckClock era tries link)) (u_next x u) index root n link era (held_post post index root link) p g
    (eras_reload (scheme_of (held_post post index root link)) n (x index) (ap publishes_rows (held_scheme post index root link) ∙ fit_rows (scheme_of post) post.layout.config.tries (CheckClock era tries link) s.fits)
    (λ e. rw (s.next) (three_more steps (x index) (he_tried (scheme_of post) post.layout.config.tries tries (steps == 3 * x index) s.fits (sym (ap is_he (held_scheme post index root link)) ∙ e) z))))))
    (on_fits x u index (CheckClock era tries link) why aim root n (PublishEra found (failed_once tries)) post [] c (both (if x index == 0 then n == 1 else n == turned (x index) (u index) + 1) (tried (failed_once tries) (n == 3 * x index + 1)) (since_again n (x index) (turned (x index) (u index)) p) (rw (s.next) (tried_again tries (steps == 3 * x index) (steps + 1 == 3 * x index + 1) (λ w. three_more steps (x index) w) z))) f refl)
protect_passes x u buckets why aim index root steps n count PublishRequest post found s =
    let c : Clean (x_next x index PublishRequest) post (free_why why) (holds_why why) = protect_clean why index PublishRequest post post s.protects s.place s.scheme (λ j e. refl) s.clean in
    let f : nat_le n post.steps ≡ true = le_one_more n steps count post.steps s.next s.call s.few in
    let p : since n (x index) (turned (x index) (u index)) ≡ true = rw (s.next) (since_next steps (x index) (u index) s.paced) in
    on_fits x u index PublishRequest why aim root n LoadOwnClock post [] c p f refl
protect_passes x u buckets why aim index root steps n count LoadOwnClock post found s =
    let c : Clean (x_next x index LoadOwnClock) post (free_why why) (holds_why why) = protect_clean why index LoadOwnClock post post s.protects s.place s.scheme (λ j e. refl) s.clean in
    let f : nat_le n post.steps ≡ true = le_one_more n steps count post.steps s.next s.call s.few in
    let p : since n (x index) (turned (x index) (u index)) ≡ true = rw (s.next) (since_next steps (x index) (u index) s.paced) in
    on_fits x u index LoadOwnClock why aim root n (PublishHelper found found false) post [] c p f refl
protect_passes x u buckets why aim index root steps n count (PublishHelper first era last) post found s =
    let c : Clean (x_next x index (PublishHelper first era last)) post (free_why why) (holds_why why) = protect_clean why index (PublishHelper first era last) post post s.protects s.place s.scheme (λ j e. refl) s.clean in
    let f : nat_le n post.steps ≡ true = le_one_more n steps count post.steps s.next s.call s.few in
    let p : since n (x index) (turned (x index) (u index)) ≡ true = rw (s.next) (since_next steps (x index) (u index) s.paced) in
    on_fits x u index (PublishHelper first era last) why aim root n (LoadOwnLink first era last) post (reserves_helper post era) c p f refl
protect_passes x u buckets why aim index root steps n count (LoadOwnLink first era last) post found s =
    let c : Clean (x_next x index (LoadOwnLink first era last)) post (free_why why) (holds_why why) = protect_clean why index (LoadOwnLink first era last) post post s.protects s.place s.scheme (λ j e. refl) s.clean in
    let f : nat_le n post.steps ≡ true = le_one_more n steps count post.steps s.next s.call s.few in
    let p : since n (x index) (turned (x index) (u index)) ≡ true = rw (s.next) (since_next steps (x index) (u index) s.paced) in
    on_fits x u index (LoadOwnLink first era last) why aim root n (CheckOwnClock first era last found) post [] c p f refl
protect_passes x u buckets why aim index root steps n count (CheckOwnClock first era last link) post found s =
    let c : Clean (x_next x index (CheckOwnClock first era last link)) post (free_why why) (holds_why why) = protect_clean why index (CheckOwnClock first era last link) post post s.protects s.place s.scheme (λ j e. refl) s.clean in
    let f : nat_le n post.steps ≡ true = le_one_more n steps count post.steps s.next s.call s.few in
    let p : since n (x index) (turned (x index) (u index)) ≡ true = rw (s.next) (since_next steps (x index) (u index) s.paced) in
    pass_if x u index (CheckOwnClock first era last link) why (found == era) (goes post [] (Protect aim index root n (AnswerOwn first era link))) (goes post [] (Protect aim index root n (lost_turn first last found)))
    (on_fits x u index (CheckOwnClock first era last link) why aim root n (AnswerOwn first era link) post [] c p f refl)
    (on_fits x u index (CheckOwnClock first era last link) why aim root n (lost_turn first last found) post [] c (paced_lost first found last n (x index) (u_next x u index) p) f (taken_lost first found last index (stands post 2)))
protect_passes x u buckets why aim index root steps n count (AnswerOwn first era link) post found s =
    let c : Clean (x_next x index (AnswerOwn first era link)) post (free_why why) (holds_why why) = protect_clean why index (AnswerOwn first era link) post post s.protects s.place s.scheme (λ j e. refl) s.clean in
    let f : nat_le n post.steps ≡ true = le_one_more n steps count post.steps s.next s.call s.few in
    let p : since n (x index) (turned (x index) (u index)) ≡ true = rw (s.next) (since_next steps (x index) (u index) s.paced) in
    pass_if x u index (AnswerOwn first era link) why (found == own_request post index root) (goes post [] (Protect aim index root n (TakeAnswer link era))) (goes post [] (Protect aim index root n (answer_in (read_request found))))
    (on_fits x u index (AnswerOwn first era link) why aim root n (TakeAnswer link era) post [] c p f refl)
    (on_fits x u index (AnswerOwn first era link) why aim root n (answer_in (read_request found)) post [] c (paced_answer (read_request found) n (x index) (u_next x u index) p) f (taken_answer (read_request found) index (stands post 2)))
protect_passes x u buckets why aim index root steps n count (LoadAnswer first) post found s =
    let c : Clean (x_next x index (LoadAnswer first)) post (free_why why) (holds_why why) = protect_clean why index (LoadAnswer first) post post s.protects s.place s.scheme (λ j e. refl) s.clean in
    let f : nat_le n post.steps ≡ true = le_one_more n steps count post.steps s.next s.call s.few in
    let p : since n (x index) (turned (x index) (u index)) ≡ true = rw (s.next) (since_next steps (x index) (u index) s.paced) in
    on_fits x u index (LoadAnswer first) why aim root n (answer_in (read_request found)) post [] c (paced_answer (read_request found) n (x index) (u_next x u index) p) f (taken_answer (read_request found) index (stands post 2))
protect_passes x u buckets why aim index root steps n count (TakeAnswer link era) post found s =
    let tagged : Post = with_tag post index (tag_of post index + 1) in
    let next : Post = held_post tagged index root link in
    let c : Clean (x_next x index (TakeAnswer link era)) next (free_why why) (holds_why why) = protect_clean why index (TakeAnswer link era) post next s.protects s.place (held_plain tagged index root link s.scheme) (λ j e. held_other tagged index root link j e) s.clean in
    let f : nat_le n next.steps ≡ true = rw (held_same tagged index root link) (le_one_more n steps count post.steps s.next s.call s.few) in
    let q : x_next x index (TakeAnswer link era) index ≡ x index + 1 = own_x index (x index) in
    let p : since n (x_next x index (TakeAnswer link era) index) (turned (x index) (u index)) ≡ true = rw q (rw (s.next) (since_publish steps (x index) (u index) s.paced)) in
    on_fits x u index (TakeAnswer link era) why aim root n (WithdrawRequest link era) next (reserves_index post index era ++ told_held index root link n) c p f (held_taken buckets why index root link tagged s.protects s.place s.of s.eight)
protect_passes x u buckets why aim index root steps n count (WithdrawRequest link era) post found s =
    let c : Clean (x_next x index (WithdrawRequest link era)) post (free_why why) (holds_why why) = protect_clean why index (WithdrawRequest link era) post post s.protects s.place s.scheme (λ j e. refl) s.clean in
    let f : nat_le n post.steps ≡ true = le_one_more n steps count post.steps s.next s.call s.few in
    let p : since n (x index) (turned (x index) (u index)) ≡ true = rw (s.next) (since_next steps (x index) (u index) s.paced) in
    on_fits x u index (WithdrawRequest link era) why aim root n (WithdrawHelper link era) post [] c p f s.stood
protect_passes x u buckets why aim index root steps n count (WithdrawHelper link era) post found s =
    let c : Clean (x_next x index (WithdrawHelper link era)) post (free_why why) (holds_why why) = protect_clean why index (WithdrawHelper link era) post post s.protects s.place s.scheme (λ j e. refl) s.clean in
    let f : nat_le n post.steps ≡ true = le_one_more n steps count post.steps s.next s.call s.few in
    let p : since n (x index) (turned (x index) (u index)) ≡ true = rw (s.next) (since_next steps (x index) (u index) s.paced) in
    conclude x u buckets why aim index root n (WithdrawHelper link era) link era post (reserves_helper post 0) s.protects s.aimed s.place c s.stood
    (λ d. own_reload (x_next x index (WithdrawHelper link era)) (u_next x u) index root n link era post p f
    (eras_reload (scheme_of post) n (x index) (fit_rows (scheme_of post) post.layout.config.tries (WithdrawHelper link era) s.fits) (λ e. absurd (wfe_not_he (scheme_of post) s.fits e))))
protect_passes x u buckets why aim index root steps n count LoadWithin post found s = absurd (false_not_true (is_ibr (scheme_of post)) s.scheme s.fits)
protect_passes x u buckets why aim index root steps n count (CheckUpper link) post found s = absurd (false_not_true (is_ibr (scheme_of post)) s.scheme s.fits)
protect_passes x u buckets why aim index root steps n count (RaiseUpper era) post found s = absurd (false_not_true (is_ibr (scheme_of post)) s.scheme s.fits)
protect_passes x u buckets why aim index root steps n count (ByHazard FirstLink) post found s =
    let c : Clean (x_next x index (ByHazard FirstLink)) post (free_why why) (holds_why why) = protect_clean why index (ByHazard FirstLink) post post s.protects s.place s.scheme (λ j e. refl) s.clean in
    let f : nat_le n post.steps ≡ true = le_one_more n steps count post.steps s.next s.call s.few in
    let h : Clean (x_next x index (ByHazard FirstLink)) (held_post post index root found) (free_why why) (holds_why why) = protect_clean why index (ByHazard FirstLink) post (held_post post index root found) s.protects s.place (held_plain post index root found s.scheme) (λ j e. held_other post index root found j e) s.clean in
    pass_by x u index (ByHazard FirstLink) why (found == 0) (concluded aim index root n found 0 (held_post post index root found) (told_held index root found n)) _
    (λ e. conclude x u buckets why aim index root n (ByHazard FirstLink) found 0 (held_post post index root found) (told_held index root found n) s.protects s.aimed s.place h (held_taken buckets why index root found post s.protects s.place s.of s.eight) (λ d. absurd (false_not_true (found == 0) d e)))
    (λ e. on_fits x u index (ByHazard FirstLink) why aim root n (ByHazard (PublishLink found)) post [] c (rw (s.next) (hazard_first steps found e (x index) (u index) s.paced)) f refl)
protect_passes x u buckets why aim index root steps n count (ByHazard (PublishLink link)) post found s =
    let c : Clean (x_next x index (ByHazard (PublishLink link))) post (free_why why) (holds_why why) = protect_clean why index (ByHazard (PublishLink link)) post post s.protects s.place s.scheme (λ j e. refl) s.clean in
    let f : nat_le n post.steps ≡ true = le_one_more n steps count post.steps s.next s.call s.few in
    let q : x_next x index (ByHazard (PublishLink link)) index ≡ x index + 1 = own_x index (x index) in
    on_fits x u index (ByHazard (PublishLink link)) why aim root n (ByHazard (CheckLink link)) post (publishes_index true post index link) c (rw q (rw (s.next) (hazard_publish steps link (x index) (u index) s.paced))) f refl
protect_passes x u buckets why aim index root steps n count (ByHazard (CheckLink link)) post found s =
    let c : Clean (x_next x index (ByHazard (CheckLink link))) post (free_why why) (holds_why why) = protect_clean why index (ByHazard (CheckLink link)) post post s.protects s.place s.scheme (λ j e. refl) s.clean in
    let f : nat_le n post.steps ≡ true = le_one_more n steps count post.steps s.next s.call s.few in
    let p : since n (x index) (turned (x index) (u index)) ≡ true = rw (s.next) (since_next steps (x index) (u index) (first_of (since steps (x index) (u index)) (steps == 2 * x index) s.paced)) in
    let h : Clean (x_next x index (ByHazard (CheckLink link))) (held_post post index root found) (free_why why) (holds_why why) = protect_clean why index (ByHazard (CheckLink link)) post (held_post post index root found) s.protects s.place (held_plain post index root found s.scheme) (λ j e. held_other post index root found j e) s.clean in
    let g : nat_le n (held_post post index root found).steps ≡ true = rw (held_same post index root found) f in
    let z : (n == 2 * x index + 1) ≡ true = rw (s.next) (two_more steps (x index) (rest_of (since steps (x index) (u index)) (steps == 2 * x index) s.paced)) in
    pass_by x u index (ByHazard (CheckLink link)) why (found == link || found == 0) (concluded aim index root n found 0 (held_post post index root found) (told_held index root found n)) _
    (λ e. conclude x u buckets why aim index root n (ByHazard (CheckLink link)) found 0 (held_post post index root found) (told_held index root found n) s.protects s.aimed s.place h (held_taken buckets why index root found post s.protects s.place s.of s.eight)
    (λ d. own_reload (x_next x index (ByHazard (CheckLink link))) (u_next x u) index root n found 0 (held_post post index root found) p g (rows_reload (scheme_of (held_post post index root found)) n (x index) (ap publishes_rows (held_scheme post index root found) ∙ s.fits) z)))
    (λ e. on_fits x u index (ByHazard (CheckLink link)) why aim root n (ByHazard (PublishLink found)) post [] c (rw (s.next) (hazard_again steps found (neither_last (found == link) (found == 0) e) (x index) (u index) s.paced)) f refl)

pub rights_by : (rows : Bool) (x u : ℕ → ℕ) (call : ℕ) (c : Bool) (t v : Turn) → (c ≡ true → events_numbered rows x u call t.told ≡ true) → (c ≡ false → events_numbered rows x u call v.told ≡ true) → events_numbered rows x u call (if c then t else v).told ≡ true
rights_by rows x u call true t v a b = a refl
rights_by rows x u call false t v a b = b refl

pub rights_if : (rows : Bool) (x u : ℕ → ℕ) (call : ℕ) (c : Bool) (t v : Turn) → events_numbered rows x u call t.told ≡ true → events_numbered rows x u call v.told ≡ true → events_numbered rows x u call (if c then t else v).told ≡ true
rights_if rows x u call true t v a b = a
rights_if rows x u call false t v a b = b

concluded_rights : (rows : Bool) (x u : ℕ → ℕ) (call : ℕ) (aim : Aim) (index : ℕ) (root : Root) (n link era : ℕ) (post : Post) (told : List Event) → events_numbered rows x u call told ≡ true → events_numbered rows x u call (concluded aim index root n link era post told).told ≡ true
concluded_rights rows x u call aim index root n link era post told h = rw (concluded_told aim index root n link era post told) h

-- the number that it tells
pub protect_rights : (rows : Bool) (x u : ℕ → ℕ) (buckets : ℕ) (why : Why) (aim : Aim) (index : ℕ) (root : Root) (steps n count : ℕ) (at : ProtectAt) (post : Post) (found : ℕ) → publishes_rows (scheme_of post) ≡ rows → Site x u buckets why aim index root steps n count at post → events_numbered rows (x_next x index at) (u_next x u) (count + 1) (machine.protect_turn aim index root n at post found).told ≡ true
protect_rights rows x u buckets why aim index root steps n count (CheckClock era tries link) post found q s =
    let p : since n (x index) (turned (x index) (u index)) ≡ true = rw (s.next) (since_next steps (x index) (u index) (first_of (since steps (x index) (u index)) (tried tries (steps == 3 * x index)) s.paced)) in
    let f : nat_le n (count + 1) ≡ true = rw (s.next) (few_next steps count s.few) in
    rights_if rows (x_next x index (CheckClock era tries link)) (u_next x u) (count + 1) (found == era) (concluded aim index root n link era (held_post post index root link) (told_held index root link n)) _
    (concluded_rights rows (x_next x index (CheckClock era tries link)) (u_next x u) (count + 1) aim index root n link era (held_post post index root link) (told_held index root link n) (held_right rows (x_next x index (CheckClock era tries link)) (u_next x u) (count + 1) index root link n (number_of n (x index) (turned (x index) (u index)) (count + 1) p f))) refl
protect_rights rows x u buckets why aim index root steps n count (CheckOwnClock first era last link) post found q s = rights_if rows (x_next x index (CheckOwnClock first era last link)) (u_next x u) (count + 1) (found == era) _ _ refl refl
protect_rights rows x u buckets why aim index root steps n count (AnswerOwn first era link) post found q s = rights_if rows (x_next x index (AnswerOwn first era link)) (u_next x u) (count + 1) (found == own_request post index root) _ _ refl refl
protect_rights rows x u buckets why aim index root steps n count (TakeAnswer link era) post found q s =
    let y : x_next x index (TakeAnswer link era) index ≡ x index + 1 = own_x index (x index) in
    let p : since n (x_next x index (TakeAnswer link era) index) (turned (x index) (u index)) ≡ true = rw y (rw (s.next) (since_publish steps (x index) (u index) s.paced)) in
    let f : nat_le n (count + 1) ≡ true = rw (s.next) (few_next steps count s.few) in
    held_right rows (x_next x index (TakeAnswer link era)) (u_next x u) (count + 1) index root link n (number_of n (x_next x index (TakeAnswer link era) index) (turned (x index) (u index)) (count + 1) p f)
protect_rights rows x u buckets why aim index root steps n count (WithdrawHelper link era) post found q s = concluded_rights rows (x_next x index (WithdrawHelper link era)) (u_next x u) (count + 1) aim index root n link era post (reserves_helper post 0) refl
protect_rights rows x u buckets why aim index root steps n count LoadWithin post found q s = absurd (false_not_true (is_ibr (scheme_of post)) s.scheme s.fits)
protect_rights rows x u buckets why aim index root steps n count (CheckUpper link) post found q s = absurd (false_not_true (is_ibr (scheme_of post)) s.scheme s.fits)
protect_rights rows x u buckets why aim index root steps n count (RaiseUpper era) post found q s = absurd (false_not_true (is_ibr (scheme_of post)) s.scheme s.fits)
protect_rights rows x u buckets why aim index root steps n count (ByHazard FirstLink) post found q s =
    let r : rows ≡ true = sym q ∙ s.fits in
    let z : x index ≡ 0 = number_is (x index) 0 (first_of (x index == 0) (steps == 0) s.paced) in
    let y : n ≡ 1 = s.next ∙ ap (λ (k : ℕ). k + 1) (number_is steps 0 (rest_of (x index == 0) (steps == 0) s.paced)) in
    rights_by rows (x_next x index (ByHazard FirstLink)) (u_next x u) (count + 1) (found == 0) (concluded aim index root n found 0 (held_post post index root found) (told_held index root found n)) _
    (λ e. concluded_rights rows (x_next x index (ByHazard FirstLink)) (u_next x u) (count + 1) aim index root n found 0 (held_post post index root found) (told_held index root found n)
    (rw (r, y) (null_right (x_next x index (ByHazard FirstLink)) (u_next x u) (count + 1) index root found z (number_is found 0 e)))) (λ e. refl)
protect_rights rows x u buckets why aim index root steps n count (ByHazard (CheckLink link)) post found q s =
    let p : since n (x index) (turned (x index) (u index)) ≡ true = rw (s.next) (since_next steps (x index) (u index) (first_of (since steps (x index) (u index)) (steps == 2 * x index) s.paced)) in
    let f : nat_le n (count + 1) ≡ true = rw (s.next) (few_next steps count s.few) in
    rights_if rows (x_next x index (ByHazard (CheckLink link))) (u_next x u) (count + 1) (found == link || found == 0) (concluded aim index root n found 0 (held_post post index root found) (told_held index root found n)) _
    (concluded_rights rows (x_next x index (ByHazard (CheckLink link))) (u_next x u) (count + 1) aim index root n found 0 (held_post post index root found) (told_held index root found n) (held_right rows (x_next x index (ByHazard (CheckLink link))) (u_next x u) (count + 1) index root found n (number_of n (x index) (turned (x index) (u index)) (count + 1) p f))) refl
protect_rights rows x u buckets why aim index root steps n count at post found q s = refl
