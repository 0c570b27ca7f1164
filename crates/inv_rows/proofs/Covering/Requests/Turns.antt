-- A turn of one seat: between the machines that ask or help, and in general.
use Rattle.std.proofs.Common.{ℕ, ◌≡◌, ◌≤◌, ◌<◌, ◌*◌, Bool, true, false, List, arith, refl, sym, ap, subst, ◌∙◌}
use Rattle.std.proofs.lemmas.Bool.Decides.{nat_tests}
use Rattle.std.proofs.lemmas.Grind.{rows}
use Rattle.std.specs.Prelude.{◌==◌, if◌then◌else◌, slice_index}
use Rattle.inv_rows.specs.words.Place.{Place}
use Rattle.inv_rows.specs.words.Schemes.{publishes_rows}
use Rattle.inv_rows.specs.words.declared.config.Config.{Config}
use Rattle.inv_rows.specs.words.declared.config.SchemeKind.{SchemeKind}
use Rattle.inv_rows.specs.words.declared.config.SchemeKind.TheVariants.{He, Hp, Ibr, Wfe}
use Rattle.inv_rows.specs.words.declared.layout.Layout.{Layout}
use Rattle.inv_rows.specs.defs.declared.event.Root.{Root}
use Rattle.inv_rows.specs.model.Valid.{Bounds}
use Rattle.inv_rows.specs.model.Guards.{guards, guards_by}
use Rattle.inv_rows.specs.model.Posts.{tag_of}
use Rattle.inv_rows.specs.defs.declared.event.Root.TheVariants as roots
use Rattle.inv_rows.specs.model.Rounds.{index_of, root_of, scheme_of, protect_at}
use Rattle.inv_rows.specs.model.Calls.{StoreHeld, Work, Keeping, CallTurn}
use Rattle.inv_rows.specs.model.Locals.{Local, settled}
use Rattle.inv_rows.specs.model.Memory.{Move, written, upd}
use Rattle.inv_rows.specs.Shapes.Frame.{stores_held, Left, Grows, Seated}
use Rattle.inv_rows.proofs.Shapes.Frame.{settled_seated}
use Rattle.inv_rows.specs.Covering.Requests.Views.{View, Deal, Role}
use Rattle.inv_rows.specs.Covering.Requests.Views.Role.{Away, Copies}
use Rattle.inv_rows.specs.Covering.Requests.Parts.{Parts}
use Rattle.inv_rows.specs.Covering.Requests.Standing.{protect_role, copy_role, work_role, role_of, is_there, Words, Locals}
use Rattle.inv_rows.specs.Covering.Requests.Turns.{PostOf, RoleOf, Made}

some_cells : (n m : ℕ) → 1 ≤ n → 1 ≤ m → 0 < n * m
some_cells n m a b = grind (arith, rows)

guards_by_some : (scheme : SchemeKind) (c : Config) → Bounds c → 0 < guards_by scheme c
guards_by_some He c b = some_cells c.seats c.indexes (omega (arith, b.seats)) (omega (arith, b.indexes))
guards_by_some Ibr c b = omega (arith, b.seats)
guards_by_some Wfe c b = omega (arith, b.seats)
guards_by_some Hp c b = some_cells c.seats c.indexes (omega (arith, b.seats)) (omega (arith, b.indexes))

-- there are guards
pub guards_some : (c : Config) → Bounds c → 0 < guards c
guards_some c b = guards_by_some c.scheme c b

protect_away : (layout : Layout) (index : ℕ) (root : Root) (scheme : SchemeKind) → protect_role layout index root (protect_at scheme) ≡ Away
protect_away layout index root He = refl
protect_away layout index root Ibr = refl
protect_away layout index root Wfe = refl
protect_away layout index root Hp = refl

-- a call's own step asks and helps nothing, or is the second of a copy
pub each_copy_role : (rows : Bool) (from number : ℕ) (P : Role → Type 0) → P Away → ((from era : ℕ) → P (Copies from era)) → P (copy_role rows from number)
each_copy_role true from number P f g = f
each_copy_role false from number P f g = g from number

pub each_work_role : (layout : Layout) (work : Work) (P : Role → Type 0) → P Away → ((from era : ℕ) → P (Copies from era)) → P (work_role layout work)
each_work_role layout (Keeping (StoreHeld from index number)) P f g = each_copy_role (publishes_rows layout.config.scheme) from number P f g
each_work_role layout work P f g = f

works_away : (layout : Layout) (work : Work) → stores_held work ≡ false → work_role layout work ≡ Away
works_away layout (Keeping (StoreHeld from index era)) n = absurd (cc)
works_away layout work n = refl

-- each phase that a call comes to by anything but a step inside a machine or the first step of a copy asks and helps nothing
pub away : (layout : Layout) (tags : List ℕ) → Grows (PostOf layout tags) (RoleOf layout Away)
away layout tags = record {
  guarded = λ post q. let P : Layout → Type 0 = λ (l : Layout). 0 < guards l.config in subst P (sym q.table) q.guarded;
  withdraws = λ post index ibr q. record { table = q.table; guarded = q.guarded; kept = q.kept };
  copies = λ post index slot q. record { table = q.table; guarded = q.guarded; kept = q.kept };
  idle = λ post q. record { is = refl; there = refl };
  begins = λ post task ibr none q. record { is = refl; there = refl };
  opens = λ post task s q. record { is = protect_away layout (index_of task) (root_of task post) (scheme_of post); there = refl };
  follows = λ post head tail s q. record { is = protect_away layout 1 (roots.Next head) (scheme_of post); there = refl };
  allocates = λ post task s q. record { is = refl; there = refl };
  writes = λ post task slot row s q. record { is = refl; there = refl };
  clears = λ post task next n q. record { is = refl; there = refl };
  clears_next = λ post next n q. record { is = refl; there = refl };
  finishes = λ post task next a b q. record { is = refl; there = refl };
  gives_up = λ post answer slot q. record { is = refl; there = refl };
  retires = λ post answer slot q. record { is = refl; there = refl };
  tidies = λ post later m q. record { is = refl; there = refl };
  advances = λ post q. record { is = refl; there = refl };
  clears_kept = λ post let_go n q. record { is = refl; there = refl };
  releases = λ post let_go ibr none q. record { is = refl; there = refl };
  scans = λ post later number b q. record { is = refl; there = refl };
  gives_back = λ post later place slot q. record { is = refl; there = refl };
  works = λ post work n f q. record { is = works_away layout work n; there = refl };
}

-- a fact of each entry of a function that is changed at one number
pub upd_all : {A : Type 0} → (f : ℕ → A) (i : ℕ) (x : A) (P : ℕ → A → Type 0) → P i x → ((k : ℕ) → (k == i) ≡ false → P k (f k)) → (k : ℕ) → P k (upd f i x k)
upd_all f i x P here there k = by_test (k == i) refl
  where
    by_test : (b : Bool) → (k == i) ≡ b → P k (if b then x else f k)
    by_test true h = let e : i ≡ k = grind (arith, nat_tests) in subst (λ (n : ℕ). P n x) e here
    by_test false h = there k h

pub upd_here : {A : Type 0} → (f : ℕ → A) (i : ℕ) (x : A) → upd f i x i ≡ x
upd_here f i x = let e : (i == i) ≡ true = grind (arith, nat_tests) in rw e refl

pub upd_there : {A : Type 0} → (f : ℕ → A) (i : ℕ) (x : A) (k : ℕ) → (k == i) ≡ false → upd f i x k ≡ f k
upd_there f i x k h = rw h refl

-- the seats after one of them came to another role, its tags unchanged
pub locals_turn : (layout : Layout) (seat : ℕ → Local) (tag : ℕ → ℕ → ℕ) (role : ℕ → Role) (i : ℕ) (l : Local) (r : Role) → Locals layout seat tag role → Seated (PostOf layout (seat i).post.tags) (RoleOf layout r) l → Locals layout (upd seat i l) tag (upd role i r)
locals_turn layout seat tag role i l r c s = record {
  tags = λ k j. upd_all seat i l (λ (n : ℕ) (a : Local). tag_of a.post j ≡ tag n j) (tags_here j) (λ n h. c.tags n j) k;
  roles = λ k. upd_all seat i l (λ (n : ℕ) (a : Local). role_of layout a.phase ≡ upd role i r n) (s.phase.is ∙ sym (upd_here role i r)) (λ n h. c.roles n ∙ sym (upd_there role i r n h)) k;
  there = λ k. upd_all seat i l (λ (n : ℕ) (a : Local). is_there layout a.phase ≡ true) s.phase.there (λ n h. c.there n) k;
}
  where
    tags_here : (j : ℕ) → tag_of l.post j ≡ tag i j
    tags_here j = ap (λ (x : List ℕ). slice_index x j) s.post.kept ∙ c.tags i j

-- a turn that leaves the tags, with the words and the parts of the view that it leaves
pub made : (mem : Place → ℕ) (seat : ℕ → Local) (role : ℕ → Role) (i : ℕ) (m : Move) (t : CallTurn) (r : Role) (v : View)
    → Locals (seat i).post.layout seat v.tag role
    → Left (PostOf (seat i).post.layout (seat i).post.tags) (RoleOf (seat i).post.layout r) t
    → v.role ≡ upd role i r
    → Words (publishes_rows (seat i).post.layout.config.scheme) (written mem m) v.clock v.helper v.era v.mark v.deal
    → Parts (seat i).post.layout.config v
    → Made mem seat i m t v.deal
made mem seat role i m t r v c s e u d = (v, record { facts = record { words = u; locals = subst (Locals (seat i).post.layout (upd seat i (settled (seat i) t)) v.tag) (sym e) (locals_turn (seat i).post.layout seat v.tag role i (settled (seat i) t) r c (settled_seated (seat i) t s)); parts = d }; deal = refl })

-- the same with deals that are the same
pub same_deals : (mem : Place → ℕ) (seat : ℕ → Local) (i : ℕ) (m : Move) (t : CallTurn) (d e : ℕ → Deal) → d ≡ e → Made mem seat i m t d → Made mem seat i m t e
same_deals mem seat i m t d e h (v, f) = (v, record { facts = f.facts; deal = f.deal ∙ h })
