-- Under 2GE: one call after the other lets go of what stands at each index, until the interval goes with the last.
use Rattle.std.proofs.Common.{Bool, List, [], ap, arith, false, get_or, length, length-set, refl, slice_set, subst, suc, sym, true, zero, ℕ, ◌+◌, ◌-◌, ◌<◌, ◌∙◌, ◌∷◌, ◌≡◌, ◌≢◌, ◌≤◌}
use Rattle.std.proofs.lemmas.Bool.Decides.{nat_tests}
use Rattle.std.proofs.lemmas.List.{ext_get_or, get_or_past}
use Rattle.std.specs.Prelude.{None, Option, Some, if◌then◌else◌, nat_lt, ◌==◌}
use mathlib.Core.Path.{fun_ext}
use Rattle.wfe_core.specs.words.Place.{Place, same}
use Rattle.wfe_core.specs.words.Place.Place.{Interval}
use Rattle.wfe_core.specs.words.Schemes.{has_one_interval}
use Rattle.wfe_core.specs.words.declared.layout.Layout.{Layout}
use Rattle.wfe_core.specs.defs.declared.lifetime.Interval.{Interval as Span}
use Rattle.wfe_core.specs.Calls.{Dropped, Idle, Keeping, Loosens, Phase, Releases, Runs, Scans, Works}
use Rattle.wfe_core.specs.Desks.{Desk, no_notes}
use Rattle.wfe_core.specs.Locals.{Local, begun_post, busy_in}
use Rattle.wfe_core.specs.Memory.{Store, put, written}
use Rattle.wfe_core.specs.MayStep.{MayStep}
use Rattle.wfe_core.specs.Phases.Base.{Release}
use Rattle.wfe_core.specs.Posts.{counted, stands, with_span, withdrawn, withdrawn_all}
use Rattle.wfe_core.specs.Rounds.{kept_row, letting, letting_by, release_span, scheme_of}
use Rattle.wfe_core.specs.Steps.{phase_move}
use Rattle.wfe_core.specs.Valid.{IsValid, StandsValid}
use Rattle.wfe_core.specs.World.{World, is_busy}
use Rattle.wfe_core.specs.declared.post.Post.{Post}
use Rattle.wfe_core.proofs.Standing.{some_kept, stands-withdrawn_other, stands-withdrawn_same}
use Rattle.wfe_drive_cells.specs.Unit.{kept_desk}
use Rattle.law_reuse.specs.inv.Inv.{Inv}
use Rattle.law_reuse.specs.inv.covers.Rests.{vacant}
use Rattle.law_reuse.proofs.inv.Inv.Kept.{inv_ready}
use Rattle.wfe_drive.specs.Reached.{StaysIn}
use Rattle.wfe_drive.proofs.Dropping.{Drops, MayDrop, drop_loosen, drop_release, dropped, one_step}

-- a post with other rows that stand, another interval and another count
abbrev pub reposted : Post → List (Option ℕ) → Option Span → ℕ → Post
reposted post standing span steps = record post { standing = standing; span = span; steps = steps }

-- nothing stands from index 2 on up to this one any more
record Loosened (w u : World) (i index : ℕ) : Type 0 where
  known : Inv u
  right : (k : ℕ) → StaysIn u k
  layout : u.layout ≡ w.layout
  others : (k : ℕ) → (k == i) ≡ false → u.seat k ≡ w.seat k
  idle : (u.seat i).phase ≡ Idle
  desk : record (kept_desk (u.seat i).desk) { notes = one_step } ≡ record (kept_desk (w.seat i).desk) { notes = one_step }
  standing : List (Option ℕ)
  span : Option Span
  steps : ℕ
  post : (u.seat i).post ≡ reposted (w.seat i).post standing span steps
  none : (m : ℕ) → 2 ≤ m → m < index → stands (u.seat i).post m ≡ None
  mem : (p : Place) → same p (Interval (w.seat i).post.seat) ≡ false → u.mem p ≡ w.mem p

idle_of : (phase : Phase) → busy_in phase ≡ false → phase ≡ Idle
idle_of Idle b = refl
idle_of (Runs why base) b = absurd (cc)
idle_of (Scans later at) b = absurd (cc)
idle_of (Works work) b = absurd (cc)

at_first : (w : World) (i : ℕ) → Inv w → ((k : ℕ) → StaysIn w k) → is_busy w i ≡ false → Loosened w w i 2
at_first w i a g b = record {
  known = a;
  right = g;
  layout = refl;
  others = λ k e. refl;
  idle = idle_of (w.seat i).phase b;
  desk = refl;
  standing = (w.seat i).post.standing;
  span = (w.seat i).post.span;
  steps = (w.seat i).post.steps;
  post = refl;
  none = λ m l h. absurd (omega (l, h, arith));
  mem = λ p e. refl;
}

-- one more
none_more : (post left : Post) (index : ℕ) → ((m : ℕ) → stands left m ≡ stands (withdrawn post index) m) → ((m : ℕ) → 2 ≤ m → m < index → stands post m ≡ None) → (m : ℕ) → 2 ≤ m → m < index + 1 → stands left m ≡ None
none_more post left index e n m l h = e m ∙ by (m == index) refl
  where
    by : (one : Bool) → (m == index) ≡ one → stands (withdrawn post index) m ≡ None
    by true f = let is : m ≡ index = grind (arith, nat_tests) in ap (stands (withdrawn post index)) is ∙ stands-withdrawn_same post index
    by false f = let apart : m ≢ index = grind (arith, nat_tests) in stands-withdrawn_other post index m apart ∙ n m l (let d : (m == index) ≡ false = f in grind (arith, nat_tests))

one_more : (w u : World) (i index : ℕ) (phase : Phase) (left : Post) (span : Option Span) → Loosened w u i index → Drops u i index phase left → left ≡ reposted (u.seat i).post (slice_set (u.seat i).post.standing index None) span 1
    → ((p : Place) → same p (Interval (u.seat i).post.seat) ≡ false → written u.mem (phase_move phase (begun_post (u.seat i).post)) p ≡ u.mem p) → Loosened w (dropped u i index) i (index + 1)
one_more w u i index phase left span g d e mem =
    let here : (u.seat i).post.seat ≡ (w.seat i).post.seat = ap (λ (p : Post). p.seat) g.post in
    let post : ((dropped u i index).seat i).post ≡ reposted (u.seat i).post (slice_set (u.seat i).post.standing index None) span 1 = d.post ∙ e in
    record {
      known = d.known;
      right = d.right;
      layout = g.layout;
      others = λ k o. d.others k o ∙ g.others k o;
      idle = d.idle;
      desk = ap (λ (x : Desk). record x { notes = one_step }) d.desk ∙ g.desk;
      standing = slice_set (u.seat i).post.standing index None;
      span = span;
      steps = 1;
      post = post ∙ ap (λ (p : Post). reposted p (slice_set (u.seat i).post.standing index None) span 1) g.post;
      none = none_more (u.seat i).post ((dropped u i index).seat i).post index (λ m. ap (λ (p : Post). stands p m) post) g.none;
      mem = λ p o. ap (λ (f : Place → ℕ). f p) d.mem ∙ mem p (subst (λ (s : ℕ). same p (Interval s) ≡ false) (sym here) o) ∙ g.mem p o;
    }

other_place : (mem : Place → ℕ) (p q : Place) (value : ℕ) → same p q ≡ false → put mem q value p ≡ mem p
other_place mem p q value e = rw e refl

may_drop : (w u : World) (i index : ℕ) → Loosened w u i index → i < w.layout.config.seats → 2 ≤ index → index < w.layout.config.indexes → MayDrop u i index
may_drop w u i index g l low high = record {
  known = g.known;
  right = g.right;
  below = subst (λ (layout : Layout). i < layout.config.seats) (sym g.layout) l;
  free = ap busy_in g.idle;
  low = low;
  high = subst (λ (layout : Layout). index < layout.config.indexes) (sym g.layout) high;
}

loosened_by : (w u : World) (i index : ℕ) (kept : Option ℕ) → Loosened w u i index → i < w.layout.config.seats → 2 ≤ index → index < w.layout.config.indexes → has_one_interval (scheme_of (u.seat i).post) ≡ true
    → kept_row (withdrawn (begun_post (u.seat i).post) index) ≡ kept → Loosened w (dropped u i index) i (index + 1)
loosened_by w u i index None g l low high one e =
    one_more w u i index (Runs (Releases (Dropped index)) (Release index)) (with_span (withdrawn (counted (begun_post (u.seat i).post)) index) None) None g
    (drop_release u i index (may_drop w u i index g l low high) (rw (one, e) refl)) refl (λ p o. other_place u.mem p (Interval (u.seat i).post.seat) 0 o)
loosened_by w u i index (Some slot) g l low high one e =
    one_more w u i index (Works (Keeping (Loosens (Dropped index)))) (withdrawn (counted (begun_post (u.seat i).post)) index) (u.seat i).post.span g
    (drop_loosen u i index (may_drop w u i index g l low high) (rw (one, e) refl)) refl (λ p o. refl)

-- so many indexes
record Through (w : World) (i index : ℕ) : Type 0 where
  world : World
  loosened : Loosened w world i index

one_scheme : (w u : World) (i index : ℕ) → Loosened w u i index → has_one_interval (scheme_of (w.seat i).post) ≡ true → has_one_interval (scheme_of (u.seat i).post) ≡ true
one_scheme w u i index g one = ap (λ (p : Post). has_one_interval (scheme_of p)) g.post ∙ one

through : (w : World) (i count : ℕ) → Inv w → ((k : ℕ) → StaysIn w k) → is_busy w i ≡ false → i < w.layout.config.seats → has_one_interval (scheme_of (w.seat i).post) ≡ true → 2 + count < w.layout.config.indexes → Through w i (2 + count)
through w i zero a g b l one h = record { world = w; loosened = at_first w i a g b }
through w i (suc count) a g b l one h =
    let t : Through w i (2 + count) = through w i count a g b l one (omega (h, arith)) in
    let u : World = t.world in
    let next : 2 + count + 1 ≡ 2 + suc count = omega arith in
    subst (Through w i) next
    (record { world = dropped u i (2 + count); loosened = loosened_by w u i (2 + count) (kept_row (withdrawn (begun_post (u.seat i).post) (2 + count))) t.loosened l (omega arith) (omega (h, arith)) (one_scheme w u i (2 + count) t.loosened one) refl })

-- and the last one: no other row is kept
pub valid_of : (u : World) (i : ℕ) → Inv u → i < u.layout.config.seats → IsValid (u.seat i).post
valid_of u i a l = let m : MayStep u i = inv_ready u i l a in m.valid

stood_low : (post : Post) (m slot : ℕ) (row : Option ℕ) → row ≡ Some slot → StandsValid post m row → m < post.layout.config.indexes
stood_low post m slot (Some s) e v = v.1
stood_low post m slot None e v = absurd (cc)

pub stood_index : (post : Post) (m slot : ℕ) (below : Bool) → nat_lt m 8 ≡ below → IsValid post → stands post m ≡ Some slot → m < post.layout.config.indexes
stood_index post m slot true e v s = stood_low post m slot (stands post m) s (v.standing m (grind (arith, nat_tests)))
stood_index post m slot false e v s = let past : length post.standing ≤ m = (let n : length post.standing ≡ 8 = v.all_standing in grind (arith, nat_tests)) in let none : stands post m ≡ None = get_or_past post.standing m None past in absurd (cc)

-- nothing stands at any index but this one
alone : (w u : World) (i index : ℕ) → Loosened w u i index → i < w.layout.config.seats → index + 1 ≡ w.layout.config.indexes → (m slot : ℕ) → 2 ≤ m → stands (withdrawn (begun_post (u.seat i).post) index) m ≡ Some slot → ⊥
alone w u i index g l last m slot low s = by (m == index) refl
  where
    by : (one : Bool) → (m == index) ≡ one → ⊥
    by true e = let is : m ≡ index = grind (arith, nat_tests) in let none : stands (withdrawn (begun_post (u.seat i).post) index) m ≡ None = ap (stands (withdrawn (begun_post (u.seat i).post) index)) is ∙ stands-withdrawn_same (begun_post (u.seat i).post) index in absurd (cc)
    by false e =
        let apart : m ≢ index = grind (arith, nat_tests) in
        let t : stands (u.seat i).post m ≡ Some slot = sym (stands-withdrawn_other (begun_post (u.seat i).post) index m apart) ∙ s in
        let v : IsValid (u.seat i).post = valid_of u i g.known (subst (λ (layout : Layout). i < layout.config.seats) (sym g.layout) l) in
        let k = g.known.known in
        let f = k.seats.fits i in
        let q : m < (u.seat i).post.layout.config.indexes = stood_index (u.seat i).post m slot (nat_lt m 8) refl v t in
        let is : (u.seat i).post.layout ≡ w.layout = f.post.layout ∙ g.layout in
        let b : m < w.layout.config.indexes = subst (λ (layout : Layout). m < layout.config.indexes) is q in
        let none : stands (u.seat i).post m ≡ None = g.none m low (grind (arith, nat_tests)) in
        absurd (cc)

none_kept_by : (post : Post) (row : Option ℕ) → kept_row post ≡ row → ((m slot : ℕ) → 2 ≤ m → stands post m ≡ Some slot → ⊥) → kept_row post ≡ None
none_kept_by post None e h = e
none_kept_by post (Some slot) e h = let f = some_kept post slot e in absurd (h f.0 slot f.1 f.2)

-- all of it is let go
pub record LetAll (w u : World) (i : ℕ) : Type 0 where
  pub known : Inv u
  pub right : (k : ℕ) → StaysIn u k
  pub layout : u.layout ≡ w.layout
  pub others : (k : ℕ) → (k == i) ≡ false → u.seat k ≡ w.seat k
  pub idle : (u.seat i).phase ≡ Idle
  pub desk : kept_desk (u.seat i).desk ≡ record (kept_desk (w.seat i).desk) { notes = one_step }
  pub post : (u.seat i).post ≡ withdrawn_all (counted (begun_post (w.seat i).post))
  pub mem : u.mem ≡ written w.mem (Store (Interval (w.seat i).post.seat) 0)

abbrev no_rows : List (Option ℕ)
no_rows = None ∷ None ∷ None ∷ None ∷ None ∷ None ∷ None ∷ None ∷ []

none_of : (row : Option ℕ) → ((slot : ℕ) → row ≡ Some slot → ⊥) → row ≡ None
none_of None h = refl
none_of (Some slot) h = absurd (h slot refl)

no_row : (i : ℕ) → i < 8 → None ≡ get_or no_rows i None
no_row zero h = refl
no_row (suc zero) h = refl
no_row (suc (suc zero)) h = refl
no_row (suc (suc (suc zero))) h = refl
no_row (suc (suc (suc (suc zero)))) h = refl
no_row (suc (suc (suc (suc (suc zero))))) h = refl
no_row (suc (suc (suc (suc (suc (suc zero)))))) h = refl
no_row (suc (suc (suc (suc (suc (suc (suc zero))))))) h = refl
no_row (suc (suc (suc (suc (suc (suc (suc (suc i)))))))) h = absurd (omega (h, arith))

all_none : (rows : List (Option ℕ)) → length rows ≡ 8 → ((m : ℕ) → m < 8 → get_or rows m None ≡ None) → rows ≡ no_rows
all_none rows n h = ext_get_or None rows no_rows n (λ i l. let b : i < 8 = subst (λ (k : ℕ). i < k) n l in h i b ∙ no_row i b)

all_let : (w : World) (i index : ℕ) → Through w i index → i < w.layout.config.seats → 2 ≤ index → index + 1 ≡ w.layout.config.indexes → has_one_interval (scheme_of (w.seat i).post) ≡ true → (u : World) × LetAll w u i
all_let w i index t l low last one =
    let u : World = t.world in
    let g : Loosened w u i index = t.loosened in
    let p : Post = (u.seat i).post in
    let high : index < w.layout.config.indexes = omega (last, arith) in
    let kept : kept_row (withdrawn (begun_post p) index) ≡ None = none_kept_by (withdrawn (begun_post p) index) (kept_row (withdrawn (begun_post p) index)) refl (alone w u i index g l last) in
    let d : Drops u i index (Runs (Releases (Dropped index)) (Release index)) (with_span (withdrawn (counted (begun_post p)) index) None) = drop_release u i index (may_drop w u i index g l low high) (rw (one_scheme w u i index g one, kept) refl) in
    let v : World = dropped u i index in
    let here : p.seat ≡ (w.seat i).post.seat = ap (λ (x : Post). x.seat) g.post in
    let below : i < v.layout.config.seats = subst (λ (layout : Layout). i < layout.config.seats) (sym g.layout) l in
    let valid : IsValid (v.seat i).post = valid_of v i d.known below in
    let rows : List (Option ℕ) = slice_set p.standing index None in
    let is : (v.seat i).post.standing ≡ rows = ap (λ (x : Post). x.standing) d.post in
    let k = d.known.known in
    let none : (m : ℕ) → m < 8 → get_or rows m None ≡ None = λ m b. ap (λ (xs : List (Option ℕ)). get_or xs m None) (sym is) ∙ none_at v d (nat_lt m 2) m refl in
    let empty : rows ≡ no_rows = all_none rows (ap length (sym is) ∙ valid.all_standing) none in (
      v,
      record {
        known = d.known;
        right = d.right;
        layout = g.layout;
        others = λ k o. d.others k o ∙ g.others k o;
        idle = d.idle;
        desk = d.desk ∙ g.desk;
        post = d.post ∙ ap (λ (x : Post). reposted x rows None 1) g.post ∙ ap (λ (xs : List (Option ℕ)). reposted (w.seat i).post xs None 1) empty;
        mem = d.mem ∙ fun_ext (λ q. mem_at q (same q (Interval (w.seat i).post.seat)) refl);
      },
    )
  where
    mem_at : (q : Place) (one : Bool) → same q (Interval (w.seat i).post.seat) ≡ one → put t.world.mem (Interval (t.world.seat i).post.seat) 0 q ≡ put w.mem (Interval (w.seat i).post.seat) 0 q
    mem_at q true e = let here : (t.world.seat i).post.seat ≡ (w.seat i).post.seat = ap (λ (x : Post). x.seat) t.loosened.post in rw (here, e) refl
    mem_at q false e = let here : (t.world.seat i).post.seat ≡ (w.seat i).post.seat = ap (λ (x : Post). x.seat) t.loosened.post in rw (here, e) (t.loosened.mem q e)

    none_at : (v : World) (d : Drops t.world i index (Runs (Releases (Dropped index)) (Release index)) (with_span (withdrawn (counted (begun_post (t.world.seat i).post)) index) None)) (spare : Bool) (m : ℕ) → nat_lt m 2 ≡ spare → stands ((dropped t.world i index).seat i).post m ≡ None
    none_at v d true m e = let k = d.known.known in k.rests.vacant i m (ap (λ (phase : Phase). vacant phase m) d.idle ∙ e)
    none_at v d false m e =
        ap (λ (x : Post). stands x m) d.post
        ∙ none_of (stands (withdrawn (begun_post (t.world.seat i).post) index) m) (λ slot s. alone w t.world i index t.loosened l last m slot (grind (arith, nat_tests)) s)

pub let_all : (w : World) (i : ℕ) → Inv w → ((k : ℕ) → StaysIn w k) → is_busy w i ≡ false → i < w.layout.config.seats → 3 ≤ w.layout.config.indexes → has_one_interval (scheme_of (w.seat i).post) ≡ true → (u : World) × LetAll w u i
let_all w i a g b l many one =
    let count : ℕ = w.layout.config.indexes - 3 in
    all_let w i (2 + count) (through w i count a g b l one (omega (many, arith))) l (omega arith) (omega (many, arith)) one
