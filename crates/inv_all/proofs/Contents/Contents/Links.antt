-- A step that links a row: the exchange of a bucket's root, and a row that joins the queue.
use Rattle.std.proofs.Common.{ℕ, ◌+◌, ◌-◌, ◌≡◌, Bool, true, false, arith, refl, ap, ◌∙◌, sym, subst, List, [], ◌∷◌, length}
use Rattle.std.proofs.lemmas.Bool.Decides.{nat_tests}
use Rattle.std.proofs.lemmas.List.{take_all}
use Rattle.std.specs.Prelude.{◌==◌, if◌then◌else◌}
use Rattle.inv_ends.specs.model.words.Place.{Place}
use Rattle.inv_ends.specs.model.defs.Pairs.{Pair, changed, pairs_after}
use Rattle.inv_ends.specs.model.defs.declared.event.Root.{Root}
use Rattle.inv_ends.specs.model.defs.declared.event.Root.TheVariants as roots
use Rattle.inv_ends.specs.model.defs.declared.fold.Change.{Change}
use Rattle.inv_ends.specs.model.Book.{Book}
use Rattle.inv_ends.specs.model.Memory.{upd}
use Rattle.inv_ends.specs.model.Calls.{ChangeKept}
use Rattle.inv_ends.proofs.model.Facts.{number_is, false_by, one_less_one_more}
use Rattle.inv_ends.specs.rows.Rows.{Status, View, Good, made, is_settled}
use Rattle.inv_ends.specs.rows.Rows.Status.{Born, Linked, Cut}
use Rattle.inv_ends.specs.rows.Rows.RowMove.{Links, Replaces}
use Rattle.inv_ends.specs.rows.Hands.{linked_row}
use Rattle.inv_all.specs.Contents.Shelf.{shelf_of, pairs_by}
use Rattle.inv_all.specs.Contents.Knows.{Decided}
use Rattle.inv_all.specs.Contents.Contents.{Shelved}
use Rattle.inv_all.proofs.Contents.Contents.Lasts.{on}
use Rattle.inv_all.proofs.Contents.Contents.Shelves.{Linking, Latest, upd_other}
use Rattle.inv_ends.proofs.rows.Steps.{upd_own}

null_root : (n s : ℕ) → n ≡ 0 → n ≡ s + 1 → ⊥
null_root n s h k = omega arith

links_other : (slots : ℕ) (v : View) (b s c : ℕ) → Good slots v → v.root b ≡ 0 → v.status s ≡ Linked c → (c == b) ≡ false
links_other slots v b s c g h y = false_by (c == b) (λ e. null_root (v.root b) s h (g.linked b s (y ∙ ap Linked (number_is c b e))))

-- an empty bucket's root gets the row
links_linking : (slots i : ℕ) (v : View) (b slot : ℕ) → Good slots v → v.root b ≡ 0 → Linking v (made i v (Links b slot)) b slot
links_linking slots i v b slot g h = record {
  settled = λ s e y. subst (λ (x : Status). is_settled x ≡ true) (upd_other v.status slot (Linked b) s e) y;
  linked = λ s c e y. sym (upd_other v.status slot (Linked b) s e) ∙ y;
  other = λ s c e y. links_other slots v b s c g h (sym (upd_other v.status slot (Linked b) s e) ∙ y);
  own = upd_own v.status slot (Linked b);
  root = upd_own v.root b (slot + 1);
  roots_stay = λ c e. upd_other v.root b (slot + 1) c e;
}

-- a row takes the place of another
abbrev replaced : ℕ → View → ℕ → ℕ → ℕ → ℕ → Status
replaced i v b slot old s = (made i v (Replaces b slot old)).status s

uncut : (i : ℕ) (v : View) (b slot old s c : ℕ) → replaced i v b slot old s ≡ Linked c → (s == old) ≡ false
uncut i v b slot old s c y = false_by (s == old) (λ e. no_link i c (sym (is_cut e) ∙ y))
  where
    no_link : (k d : ℕ) → Cut k ≡ Linked d → ⊥
    no_link k d z = cc

    is_cut : (s == old) ≡ true → replaced i v b slot old s ≡ Cut i
    is_cut e = ap (λ (n : ℕ). replaced i v b slot old n) (number_is s old e) ∙ upd_own (upd v.status slot (Linked b)) old (Cut i)

before_replaced : (i : ℕ) (v : View) (b slot old s : ℕ) → (s == slot) ≡ false → (s == old) ≡ false → replaced i v b slot old s ≡ v.status s
before_replaced i v b slot old s e d = upd_other (upd v.status slot (Linked b)) old (Cut i) s d ∙ upd_other v.status slot (Linked b) s e

replaced_settled : (i : ℕ) (v : View) (b slot old s : ℕ) → v.status old ≡ Linked b → (s == slot) ≡ false → is_settled (replaced i v b slot old s) ≡ true → is_settled (v.status s) ≡ true
replaced_settled i v b slot old s h e y = by_old (s == old) refl
  where
    by_old : (x : Bool) → (s == old) ≡ x → is_settled (v.status s) ≡ true
    by_old true d = ap (λ (x : Status). is_settled x) (ap (λ (n : ℕ). v.status n) (number_is s old d) ∙ h)
    by_old false d = subst (λ (x : Status). is_settled x ≡ true) (before_replaced i v b slot old s e d) y

one_less : (n s old : ℕ) → n ≡ old + 1 → n ≡ s + 1 → (s == old) ≡ false → ⊥
one_less n s old h k e = let is : s ≡ old = omega arith in grind (arith, nat_tests)

not_old : (slots : ℕ) (v : View) (b old s c : ℕ) → Good slots v → v.root b ≡ old + 1 → (s == old) ≡ false → v.status s ≡ Linked c → (c == b) ≡ false
not_old slots v b old s c g h d y = false_by (c == b) (λ e. one_less (v.root b) s old h (g.linked b s (y ∙ ap Linked (number_is c b e))) d)

born_apart : (v : View) (i b slot old : ℕ) → v.status slot ≡ Born i → v.status old ≡ Linked b → (slot == old) ≡ false
born_apart v i b slot old h k = false_by (slot == old) (λ e. no_born i b (sym h ∙ ap (λ (n : ℕ). v.status n) (number_is slot old e) ∙ k))
  where
    no_born : (j d : ℕ) → Born j ≡ Linked d → ⊥
    no_born j d z = cc

replaces_linking : (slots i : ℕ) (v : View) (b slot old : ℕ) → Good slots v → v.root b ≡ old + 1 → v.status slot ≡ Born i → Linking v (made i v (Replaces b slot old)) b slot
replaces_linking slots i v b slot old g h born =
    let was : v.status old ≡ Linked b = g.roots b old h in
    record {
      settled = λ s e y. replaced_settled i v b slot old s was e y;
      linked = λ s c e y. sym (before_replaced i v b slot old s e (uncut i v b slot old s c y)) ∙ y;
      other = λ s c e y. not_old slots v b old s c g h (uncut i v b slot old s c y) (sym (before_replaced i v b slot old s e (uncut i v b slot old s c y)) ∙ y);
      own = upd_other (upd v.status slot (Linked b)) old (Cut i) slot (born_apart v i b slot old born was) ∙ upd_own v.status slot (Linked b);
      root = upd_own v.root b (slot + 1);
      roots_stay = λ c e. upd_other v.root b (slot + 1) c e;
    }

pub exchange_linking : (slots i : ℕ) (v : View) (b slot link : ℕ) → Good slots v → v.root b ≡ link → v.status slot ≡ Born i → Linking v (made i v (linked_row b slot link)) b slot
exchange_linking slots i v b slot link g h born = by_null (link == 0) refl
  where
    by_null : (x : Bool) → (link == 0) ≡ x → Linking v (made i v (linked_row b slot link)) b slot
    by_null true e = subst (λ (y : Bool). Linking v (made i v (if y then Links b slot else Replaces b slot (link - 1))) b slot) (sym e) (links_linking slots i v b slot g (h ∙ number_is link 0 e))
    by_null false e = subst (λ (y : Bool). Linking v (made i v (if y then Links b slot else Replaces b slot (link - 1))) b slot) (sym e) (replaces_linking slots i v b slot (link - 1) g (h ∙ one_less_one_more link e) born)

-- what a change has decided is of the bucket as it is, where the root still has the link
empty_changes : (l : List Change) → length l ≡ 0 → l ≡ []
empty_changes [] h = refl
empty_changes (c ∷ l) h = absurd (omega arith)

null_latest : (n : ℕ) (a : Book) (mem : Place → ℕ) (v : View) (kept : ChangeKept) (b : ℕ) → v.root b ≡ 0 → kept.link ≡ 0 → Shelved (on n (shelf_of a) mem) a v → Decided (on n (shelf_of a) mem) kept → Latest (a.changes b) kept
null_latest n a mem v kept b r l h d =
    let some : (length (a.changes b) == 0) ≡ true = sym (h.empty b) ∙ ap (λ (k : ℕ). k == 0) r in
    let none : length (a.changes b) ≡ 0 = number_is (length (a.changes b)) 0 some in
    record {
      version = d.fresh l ∙ sym none;
      pairs = d.none l ∙ ap (λ (cs : List Change). changed (pairs_after cs) kept.change) (sym (empty_changes (a.changes b) none));
    }

pub all_pairs : (f : ℕ → List Change) (b : ℕ) → pairs_by f (roots.Bucket b) (length (f b)) ≡ pairs_after (f b)
all_pairs f b = ap (λ (l : List Change). pairs_after l) (take_all (length (f b)) (f b) (omega arith))

row_latest : (n slots : ℕ) (a : Book) (mem : Place → ℕ) (v : View) (kept : ChangeKept) (b s : ℕ) → Good slots v → v.root b ≡ s + 1 → kept.link ≡ s + 1 → Shelved (on n (shelf_of a) mem) a v → Decided (on n (shelf_of a) mem) kept → Latest (a.changes b) kept
row_latest n slots a mem v kept b s g r l h d =
    let linked : v.status s ≡ Linked b = g.roots b s r in
    let root : (a.row s).root ≡ roots.Bucket b = h.root s b linked in
    let version : (a.row s).version ≡ length (a.changes b) = h.latest s b linked in
    let pairs : pairs_by a.changes (a.row s).root (a.row s).version ≡ pairs_after (a.changes b) = ap (λ (x : Root). pairs_by a.changes x (a.row s).version) root ∙ ap (λ (k : ℕ). pairs_by a.changes (roots.Bucket b) k) version ∙ all_pairs a.changes b in
    record {
      version = d.version s l ∙ version;
      pairs = d.pairs s l ∙ ap (λ (ps : List Pair). changed ps kept.change) pairs;
    }

pub exchange_latest : (n slots : ℕ) (a : Book) (mem : Place → ℕ) (v : View) (kept : ChangeKept) (b : ℕ) → Good slots v → v.root b ≡ kept.link → Shelved (on n (shelf_of a) mem) a v → Decided (on n (shelf_of a) mem) kept → Latest (a.changes b) kept
exchange_latest n slots a mem v kept b g r h d = by_null (kept.link == 0) refl
  where
    by_null : (x : Bool) → (kept.link == 0) ≡ x → Latest (a.changes b) kept
    by_null true e = null_latest n a mem v kept b (r ∙ number_is kept.link 0 e) (number_is kept.link 0 e) h d
    by_null false e = row_latest n slots a mem v kept b (kept.link - 1) g (r ∙ one_less_one_more kept.link e) (one_less_one_more kept.link e) h d
