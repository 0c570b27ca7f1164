-- What comes after a machine, and after a step of a call's own, is a phase of those few from which a property grows.
use Rattle.std.proofs.Common.{ℕ, ◌≡◌, Bool, true, false, List, ◌++◌, Option, Some, None, refl, ap, sym, subst}
use Rattle.std.specs.Prelude.{drop, is_some}
use Rattle.wfe_core.specs.words.declared.config.SchemeKind.{SchemeKind}
use Rattle.wfe_core.specs.defs.declared.call.Answer.{Answer}
use Rattle.wfe_core.specs.defs.declared.event.Event.{Event}
use Rattle.wfe_core.specs.defs.declared.lifetime.Interval.{Interval}
use Rattle.wfe_core.specs.declared.post.Post.{Post}
use Rattle.wfe_core.specs.Desks.{Desk}
use Rattle.wfe_core.specs.Keep.{parting, parting_from, parting_index, parting_span}
use Rattle.wfe_core.specs.Posts.{standing_from, withdrawn}
use Rattle.wfe_core.proofs.Facts.{if_by}
use Rattle.wfe_core.specs.Phases.{Base}
use Rattle.wfe_core.specs.Phases.Base.{Clear, Finish}
use Rattle.wfe_core.specs.Rounds.{scheme_of, first_tidy, index_of, taken_of, tidy_by, begin_span, begin_where, clear_base, clear_post, clear_told, finish_span, finish_base, kept_row, let_index, letting, letting_by, release_span, round_by, round, given_up, closed, finishing_by, finishing, clearing_by, clearing, clearing_next_by, clearing_next}
use Rattle.wfe_core.specs.Calls.{AfterScan, Task, Dequeues, Next, Again, MakeRoom, Answering, Retiring, Repeated, LetGo, Released, Rehold, Dropped, Parting, Loosens, HideSpan, MarkLeft, Keeping, Phase, Runs, ClearsNext, Clears, Finishes}
use Rattle.wfe_core.specs.words.Schemes.{has_one_interval, moves, publishes_rows}
use Rattle.inv_rows.specs.Shapes.Frame.{Left, SpanStands, parts, Parts, Grows}

pub no_span : (post : Post) → has_one_interval (scheme_of post) ≡ false → SpanStands post
no_span post e h = absurd (cc)

begun_by : {Q : Post → Type 0} {P : Post → Phase → Type 0} (g : Grows Q P) (task : Task) (post : Post) (x : Option Interval) → has_one_interval (scheme_of post) ≡ true → post.span ≡ x → Q post → P post (round_by task post (begin_span x))
begun_by g task post None i e q = g.begins post task i e q
begun_by g task post (Some span) i e q = g.opens post task (λ h. ap is_some e) q

round_at : {Q : Post → Type 0} {P : Post → Phase → Type 0} (g : Grows Q P) (task : Task) (post : Post) (interval : Bool) → has_one_interval (scheme_of post) ≡ interval → Q post → P post (round_by task post (begin_where interval post))
round_at g task post false e q = g.opens post task (no_span post e) q
round_at g task post true e q = begun_by g task post post.span e refl q

-- a round begins
pub round_grows : {Q : Post → Type 0} {P : Post → Phase → Type 0} (g : Grows Q P) (task : Task) (post : Post) → Q post → P post (round task post)
round_grows g task post q = round_at g task post (has_one_interval (scheme_of post)) refl q

given_up_left : {Q : Post → Type 0} {P : Post → Phase → Type 0} (g : Grows Q P) (answer : Answer) (post : Post) (desk : Desk) (told : List Event) (x : Option ℕ) → Q post → Left Q P (given_up answer post desk told x)
given_up_left g answer post desk told None q = record { post = q; phase = g.idle post q }
given_up_left g answer post desk told (Some slot) q = record { post = q; phase = g.gives_up post answer slot q }

-- a call is to move the clock, where retirements do, and then to scan
pub tidying_grows : {Q : Post → Type 0} {P : Post → Phase → Type 0} (g : Grows Q P) (later : AfterScan) (post : Post) → Q post → P post (first_tidy later post)
tidying_grows {P = P} g later post q = by (moves (scheme_of post)) refl
  where
    by : (b : Bool) → moves (scheme_of post) ≡ b → P post (tidy_by b later post)
    by true e = g.tidies post later e q
    by false e = g.scans post later 0 (g.guarded post q) q

pub closed_left : {Q : Post → Type 0} {P : Post → Phase → Type 0} (g : Grows Q P) (task : Task) (next : Next) (post : Post) (desk : Desk) (told : List Event) → Q post → Left Q P (closed task next post desk told)
closed_left g task Again post desk told q = record { post = q; phase = round_grows g task post q }
closed_left g task MakeRoom post desk told q = record { post = q; phase = tidying_grows g (Repeated task) post q }
closed_left g task (Answering answer) post desk told q = given_up_left g answer post desk told (taken_of task) q
closed_left g task (Retiring slot answer) post desk told q = record { post = q; phase = g.retires post answer slot q }

pub record IsFinish (scheme : SchemeKind) (post : Post) (base : Base) : Type 0 where
  pub interval : has_one_interval scheme ≡ true
  pub free : kept_row post ≡ None
  pub is : base ≡ Finish

finish_when : (s : SchemeKind) (post : Post) (x : Option ℕ) (base : Base) → has_one_interval s ≡ true → kept_row post ≡ x → finish_span x ≡ Some base → IsFinish s post base
finish_when s post None base i e h = record { interval = i; free = e; is = cc }
finish_when s post (Some slot) base i e h = absurd (cc)

pub finish_is : (s : SchemeKind) (post : Post) (base : Base) → finish_base s post ≡ Some base → IsFinish s post base
finish_is s post base h =
    if_by (has_one_interval s) (finish_span (kept_row post)) None (λ (x : Option Base). x ≡ Some base → IsFinish s post base)
    (λ i e. finish_when s post (kept_row post) base i refl e)
    (λ i e. absurd (cc))
    h

finishing_by_left : {Q : Post → Type 0} {P : Post → Phase → Type 0} (g : Grows Q P) (task : Task) (next : Next) (post : Post) (desk : Desk) (told : List Event) (x : Option Base) → finish_base (scheme_of post) post ≡ x → Q post → Left Q P (finishing_by task next post desk told x)
finishing_by_left g task next post desk told None e q = closed_left g task next post desk told q
finishing_by_left {P = P} g task next post desk told (Some base) e q = let f = finish_is (scheme_of post) post base e in
    record { post = q; phase = subst (λ (b : Base). P post (Runs (Finishes task next) b)) (sym f.is) (g.finishes post task next f.interval f.free q) }

pub finishing_left : {Q : Post → Type 0} {P : Post → Phase → Type 0} (g : Grows Q P) (task : Task) (next : Next) (post : Post) (desk : Desk) (told : List Event) → Q post → Left Q P (finishing task next post desk told)
finishing_left g task Again post desk told q = closed_left g task Again post desk told q
finishing_left g task MakeRoom post desk told q = finishing_by_left g task MakeRoom post desk told (finish_base (scheme_of post) post) refl q
finishing_left g task (Answering answer) post desk told q = finishing_by_left g task (Answering answer) post desk told (finish_base (scheme_of post) post) refl q
finishing_left g task (Retiring slot answer) post desk told q = finishing_by_left g task (Retiring slot answer) post desk told (finish_base (scheme_of post) post) refl q

clear_post_keeps : {Q : Post → Type 0} {P : Post → Phase → Type 0} (g : Grows Q P) (post : Post) (index : ℕ) → Q post → Q (clear_post (scheme_of post) post index)
clear_post_keeps {Q} g post index q = if_by (has_one_interval (scheme_of post)) (withdrawn post index) post Q (λ i. g.withdraws post index i q) (λ i. q)

pub record IsClear (scheme : SchemeKind) (index : ℕ) (base : Base) : Type 0 where
  pub plain : has_one_interval scheme ≡ false
  pub is : base ≡ Clear (publishes_rows scheme) index

pub clear_is : (s : SchemeKind) (index : ℕ) (base : Base) → clear_base s index ≡ Some base → IsClear s index base
clear_is s index base h =
    if_by (has_one_interval s) None (Some (Clear (publishes_rows s) index)) (λ (x : Option Base). x ≡ Some base → IsClear s index base)
    (λ i e. absurd (cc))
    (λ i e. record { plain = i; is = cc })
    h

clearing_by_left : {Q : Post → Type 0} {P : Post → Phase → Type 0} (g : Grows Q P) (task : Task) (next : Next) (post : Post) (desk : Desk) (told : List Event) (x : Option Base) → clear_base (scheme_of post) (index_of task) ≡ x → Q post → Left Q P (clearing_by task next post desk told x)
clearing_by_left g task next post desk told None e q =
    finishing_left g task next (clear_post (scheme_of post) post (index_of task)) desk (told ++ clear_told (scheme_of post) post (index_of task)) (clear_post_keeps g post (index_of task) q)
clearing_by_left {P = P} g task next post desk told (Some base) e q = let f = clear_is (scheme_of post) (index_of task) base e in
    record { post = q; phase = subst (λ (b : Base). P post (Runs (Clears task next) b)) (sym f.is) (g.clears post task next f.plain q) }

pub clearing_left : {Q : Post → Type 0} {P : Post → Phase → Type 0} (g : Grows Q P) (task : Task) (next : Next) (post : Post) (desk : Desk) (told : List Event) → Q post → Left Q P (clearing task next post desk told)
clearing_left g task next post desk told q = clearing_by_left g task next post desk told (clear_base (scheme_of post) (index_of task)) refl q

clearing_next_by_left : {Q : Post → Type 0} {P : Post → Phase → Type 0} (g : Grows Q P) (next : Next) (post : Post) (desk : Desk) (told : List Event) (x : Option Base) → clear_base (scheme_of post) 1 ≡ x → Q post → Left Q P (clearing_next_by next post desk told x)
clearing_next_by_left g next post desk told None e q =
    clearing_left g Dequeues next (clear_post (scheme_of post) post 1) desk (told ++ clear_told (scheme_of post) post 1) (clear_post_keeps g post 1 q)
clearing_next_by_left {P = P} g next post desk told (Some base) e q = let f = clear_is (scheme_of post) 1 base e in
    record { post = q; phase = subst (λ (b : Base). P post (Runs (ClearsNext next) b)) (sym f.is) (g.clears_next post next f.plain q) }

pub clearing_next_left : {Q : Post → Type 0} {P : Post → Phase → Type 0} (g : Grows Q P) (next : Next) (post : Post) (desk : Desk) (told : List Event) → Q post → Left Q P (clearing_next next post desk told)
clearing_next_left g next post desk told q = clearing_next_by_left g next post desk told (clear_base (scheme_of post) 1) refl q

-- something is let go
let_span_grows : {Q : Post → Type 0} {P : Post → Phase → Type 0} (g : Grows Q P) (let_go : LetGo) (post : Post) (x : Option ℕ) → parts let_go ≡ false → has_one_interval (scheme_of post) ≡ true → kept_row (withdrawn post (let_index let_go)) ≡ x → Q post → P post (letting_by let_go (release_span (let_index let_go) x))
let_span_grows g let_go post None a i e q = g.releases post let_go i (record { bare = e; apart = a }) q
let_span_grows g let_go post (Some slot) a i e q = g.works post (Keeping (Loosens let_go)) refl (record { interval = i; kept = ap is_some e; apart = a }) q

pub letting_grows : {Q : Post → Type 0} {P : Post → Phase → Type 0} (g : Grows Q P) (let_go : LetGo) (post : Post) → parts let_go ≡ false → Q post → P post (letting let_go post)
letting_grows {P = P} g let_go post a q =
    if_by (has_one_interval (scheme_of post)) (release_span (let_index let_go) (kept_row (withdrawn post (let_index let_go)))) (Some (Clear (publishes_rows (scheme_of post)) (let_index let_go))) (λ (x : Option Base). P post (letting_by let_go x))
    (λ i. let_span_grows g let_go post (kept_row (withdrawn post (let_index let_go))) a i refl q)
    (λ i. g.clears_kept post let_go i q)

-- a seat that leaves lets the first go that stands from an index on
pub parting_grows : {Q : Post → Type 0} {P : Post → Phase → Type 0} (g : Grows Q P) (index : ℕ) (post : Post) → has_one_interval (scheme_of post) ≡ false → Q post → P post (parting_from index post)
parting_grows {P = P} g index post i q = by (standing_from index (drop index post.standing))
  where
    by : (x : Option ℕ) → P post (parting_index (publishes_rows (scheme_of post)) x)
    by None = g.works post (Keeping MarkLeft) refl (λ h. absurd (cc)) q
    by (Some next) = g.clears_kept post (Parting next) i q

parting_span_grows : {Q : Post → Type 0} {P : Post → Phase → Type 0} (g : Grows Q P) (post : Post) (x : Option Interval) → has_one_interval (scheme_of post) ≡ true → post.span ≡ x → Q post → P post (parting_span x)
parting_span_grows g post None i e q = g.works post (Keeping MarkLeft) refl (λ h. e) q
parting_span_grows g post (Some span) i e q = g.works post (Keeping HideSpan) refl (record { interval = i; stood = ap is_some e }) q

-- a seat begins to leave
pub leaving_grows : {Q : Post → Type 0} {P : Post → Phase → Type 0} (g : Grows Q P) (post : Post) → Q post → P post (parting post)
leaving_grows {P = P} g post q =
    if_by (has_one_interval (scheme_of post)) (parting_span post.span) (parting_from 2 post) (P post)
    (λ i. parting_span_grows g post post.span i refl q)
    (λ i. parting_grows g 2 post i q)

-- a seat that leaves lets no interval go with one row
pub bare_parts : (let_go : LetGo) (post : Post) → parts let_go ≡ false → Parts let_go post
bare_parts Released post e = tt
bare_parts (Rehold key) post e = tt
bare_parts (Dropped index) post e = tt
bare_parts (Parting index) post e = absurd (cc)
