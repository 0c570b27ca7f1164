-- The tests of what a seat keeps decide what the law of runs says of it.
use Rattle.std.proofs.Common.{Bool, List, None, Option, Some, [], ap, ap₂, append-nil, append_assoc, arith, false, length, refl, subst, sym, true, ℕ, ◌++◌, ◌-◌, ◌∙◌, ◌∷◌, ◌≡◌, ◌≤◌}
use Rattle.std.proofs.lemmas.Bool.Decides.{Decides-and, Decides-eqb}
use Rattle.std.specs.Bool.{Decides}
use Rattle.std.specs.Prelude.{if◌then◌else◌, is_some, nat_le, not, ◌&&◌, ◌==◌}
use Rattle.law_all.proofs.inv.model.Facts.{both, by_cases, first_of, number_is, rest_of}
use Rattle.law_all.specs.inv.model.Locals.{Group}
use Rattle.law_all.specs.inv.model.defs.Pairs.{value_in}
use Rattle.law_all.specs.inv.model.defs.declared.call.Answer.{Answer}
use Rattle.law_all.specs.inv.model.defs.declared.call.Answer.TheVariants as answers
use Rattle.law_all.specs.inv.model.defs.declared.call.Call.{Call}
use Rattle.law_all.specs.inv.model.defs.declared.call.Call.TheVariants as calls
use Rattle.law_all.specs.inv.model.defs.declared.fold.Change.{Change}
use Rattle.law_all.specs.inv.model.words.declared.config.Config.{Config}
use Rattle.law_all.specs.laws.StructuresAt.{bucket_of, same_value}
use Rattle.law_all.specs.Kept.{Keeping, kept_by, kept_from, kept_in, looked_in}
use Rattle.law_all.specs.RunLaw.{IsKept, IsLook, KeptRight, bucket_kept, is_version, pairs_by}
use Rattle.law_all.specs.Logs.Versions.{seen_in}
use Rattle.law_worked.specs.RunRecords.Readers.{keeps_ok, later_ok, look_ok, one_hold, row_ok, same_ok, shows_ok}
use Rattle.law_worked.proofs.RunRecords.Tests.{decides_most, decides_value}

-- Single copies and looks.

decides_none : (x : Option Keeping) → Decides (not (is_some x)) (x ≡ None)
decides_none None = ((λ t. refl), (λ t. refl))
decides_none (Some kept) = ((λ t. absurd (cc)), (λ t. absurd (cc)))

decides_row : (before : List Group) (index slot : ℕ) (x : Option Keeping) → kept_in index before ≡ x → Decides (row_ok x slot) (IsKept before index slot)
decides_row before index slot None e = ((λ t. absurd (cc)), (λ h. let none : Some h.kept ≡ None = sym h.at ∙ e in absurd (cc)))
decides_row before index slot (Some kept) e = (
  (λ t. record { kept = kept; at = e; slot_is = number_is kept.slot slot t }),
  (λ h.
      let one : Some h.kept ≡ Some kept = sym h.at ∙ e in
      let same : h.kept ≡ kept = cc in
      (Decides-eqb kept.slot slot).1 (ap (λ (k : Keeping). k.slot) (sym same) ∙ h.slot_is)),
)

abbrev Shows : Config → List Change → Keeping → (key version : ℕ) → Option ℕ → Type 0
Shows c cs kept key version value =
    (1 ≤ version)
    × ((version ≤ length cs)
    × ((value ≡ value_in (pairs_by cs version) key)
    × ((seen_in c.buckets (bucket_kept c kept) kept.before ≤ version) × (looked_in c.buckets (bucket_kept c kept) kept.before ≤ version))))

decides_shows : (c : Config) (cs : List Change) (kept : Keeping) (key version : ℕ) (value : Option ℕ)
    → Decides (shows_ok c cs kept key version value) (Shows c cs kept key version value)
decides_shows c cs kept key version value =
    let since : ℕ = seen_in c.buckets (bucket_kept c kept) kept.before in
    let looks : ℕ = looked_in c.buckets (bucket_kept c kept) kept.before in
    let found : Option ℕ = value_in (pairs_by cs version) key in
    let late : Bool = nat_le since version && nat_le looks version in
    Decides-and (nat_le 1 version) (nat_le version (length cs) && (same_value value found && late)) (decides_most 1 version)
    (Decides-and (nat_le version (length cs)) (same_value value found && late) (decides_most version (length cs))
    (Decides-and (same_value value found) late (decides_value value found)
    (Decides-and (nat_le since version) (nat_le looks version) (decides_most since version) (decides_most looks version))))

decides_look : (c : Config) (made : ℕ → List Change) (before : List Group) (index key slot version : ℕ) (value : Option ℕ) (x : Option Keeping)
    → kept_in index before ≡ x → Decides (look_ok c made x key slot version value) (IsLook c made before index key slot version value)
decides_look c made before index key slot version value None e = (
  (λ t. absurd (cc)),
  (λ h. let none : Some h.row.kept ≡ None = sym h.row.at ∙ e in absurd (cc)),
)
decides_look c made before index key slot version value (Some kept) e = (
  (λ t.
      let shown : Bool = shows_ok c (made (bucket_kept c kept)) kept key version value in
      let s = (decides_shows c (made (bucket_kept c kept)) kept key version value).0 (rest_of (kept.slot == slot) shown t) in
      record {
        row = record { kept = kept; at = e; slot_is = number_is kept.slot slot (first_of (kept.slot == slot) shown t) };
        some = s.0;
        had = s.1.0;
        value_is = s.1.1.0;
        since = s.1.1.1.0;
        since_looks = s.1.1.1.1;
      }),
  (λ h.
      let one : Some h.row.kept ≡ Some kept = sym h.row.at ∙ e in
      let same : h.row.kept ≡ kept = cc in
      both (kept.slot == slot) (shows_ok c (made (bucket_kept c kept)) kept key version value)
      ((Decides-eqb kept.slot slot).1 (ap (λ (k : Keeping). k.slot) (sym same) ∙ h.row.slot_is))
      ((decides_shows c (made (bucket_kept c kept)) kept key version value).1
      (subst (λ (k : Keeping). Shows c (made (bucket_kept c k)) k key version value) same (h.some, (h.had, (h.value_is, (h.since, h.since_looks))))))),
)

pub decides_keeps : (c : Config) (made : ℕ → List Change) (before : List Group) (call : Call) (answer : Answer)
    → Decides (keeps_ok c made before call answer) (KeptRight c made before call answer)
decides_keeps c made before (calls.Copy from index) (answers.Copied slot) = decides_row before from slot (kept_in from before) refl
decides_keeps c made before (calls.Copy from index) answers.Nothing = decides_none (kept_in from before)
decides_keeps c made before (calls.Look index key) (answers.Looked slot version value) =
    decides_look c made before index key slot version value (kept_in index before) refl
decides_keeps c made before (calls.Look index key) answers.Nothing = decides_none (kept_in index before)
decides_keeps c made before call answer = ((λ t. tt), (λ h. refl))

-- The calls before a hold whose row is kept are the first ones of the seat's log.

record IsFront (front log : List Group) : Type 0 where
  later : List Group
  is : log ≡ front ++ later

front_more : (front log more : List Group) → IsFront front log → IsFront front (log ++ more)
front_more front log more f = record { later = f.later ++ more; is = ap (λ (l : List Group). l ++ more) f.is ∙ append_assoc front f.later more }

abbrev Fronts : List Group → (ℕ → Option Keeping) → Type 0
Fronts before kept = (j : ℕ) (k : Keeping) → kept j ≡ Some k → IsFront k.before before

either : (before : List Group) (k : Keeping) (same : Bool) (new old : Option Keeping) → (new ≡ Some k → IsFront k.before before)
    → (old ≡ Some k → IsFront k.before before) → (if same then new else old) ≡ Some k → IsFront k.before before
either before k true new old a b e = a e
either before k false new old a b e = b e

held_front : (key slot : ℕ) (before : List Group) (k : Keeping) → Some (record { key = key; slot = slot; before = before }) ≡ Some k → IsFront k.before before
held_front key slot before k e =
    let same : ◌≡◌ {A = Keeping} (record { key = key; slot = slot; before = before }) k = cc in
    subst (λ (x : Keeping). IsFront x.before before) same (record { later = []; is = sym (append-nil before) })

fronts_by : (before : List Group) (call : Call) (answer : Answer) (kept : ℕ → Option Keeping) → Fronts before kept
    → Fronts before (kept_by before call answer kept)
fronts_by before (calls.Hold key) (answers.Holding slot) kept f j k e =
    either before k (j == 2) (Some (record { key = key; slot = slot; before = before })) (kept j) (λ n. held_front key slot before k n) (λ o. f j k o) e
fronts_by before (calls.Hold key) answers.Nothing kept f j k e = either before k (j == 2) None (kept j) (λ n. absurd (cc)) (λ o. f j k o) e
fronts_by before calls.Release answer kept f j k e = either before k (j == 2) None (kept j) (λ n. absurd (cc)) (λ o. f j k o) e
fronts_by before (calls.DropIndex index) answer kept f j k e = either before k (j == index) None (kept j) (λ n. absurd (cc)) (λ o. f j k o) e
fronts_by before calls.Leave answer kept f j k e = absurd (cc)
fronts_by before (calls.Copy from index) (answers.Copied slot) kept f j k e = either before k (j == index) (kept from) (kept j) (λ n. f from k n) (λ o. f j k o) e
fronts_by before call answer kept f j k e = f j k e

fronts_from : (log before : List Group) (kept : ℕ → Option Keeping) → Fronts before kept → (j : ℕ) (k : Keeping) → kept_from kept before log j ≡ Some k
    → IsFront k.before (before ++ log)
fronts_from [] before kept f j k e = subst (λ (l : List Group). IsFront k.before l) (sym (append-nil before)) (f j k e)
fronts_from (group ∷ log) before kept f j k e =
    subst (λ (l : List Group). IsFront k.before l) (append_assoc before (group ∷ []) log)
    (fronts_from log (before ++ group ∷ []) (kept_by before group.call group.answer kept)
    (λ i x q. front_more x.before before (group ∷ []) (fronts_by before group.call group.answer kept f i x q)) j k e)

kept_front : (j : ℕ) (log : List Group) (k : Keeping) → kept_in j log ≡ Some k → IsFront k.before log
kept_front j log k e = fronts_from log [] (λ index. None) (λ i x q. absurd (cc)) j k e

-- two of one log that are as long are the same
same_front : (one two more rest : List Group) → length one ≡ length two → one ++ more ≡ two ++ rest → one ≡ two
same_front [] [] more rest n e = refl
same_front [] (y ∷ two) more rest n e = absurd (omega (arith, n))
same_front (x ∷ one) [] more rest n e = absurd (omega (arith, n))
same_front (x ∷ one) (y ∷ two) more rest n e =
    let head : x ≡ y = cc in
    let tail : one ++ more ≡ two ++ rest = cc in
    ap₂ (λ (z : Group) zs. z ∷ zs) head (same_front one two more rest (omega (arith, n)) tail)

same_before : (i j : ℕ) (early between : List Group) (group : Group) (one two : Keeping) → kept_in i early ≡ Some one
    → kept_in j (early ++ group ∷ between) ≡ Some two → length one.before ≡ length two.before → one.before ≡ two.before
same_before i j early between group one two e q n =
    let f = kept_front i early one e in
    let g = kept_front j (early ++ group ∷ between) two q in
    same_front one.before two.before (f.later ++ group ∷ between) g.later n
    (sym (append_assoc one.before f.later (group ∷ between)) ∙ sym (ap (λ (l : List Group). l ++ group ∷ between) f.is) ∙ g.is)

-- Two looks.

abbrev keeping : ℕ → ℕ → List Group → Keeping
keeping key slot before = record { key = key; slot = slot; before = before }

hold_is : (one two : Keeping) → one_hold (Some one) (Some two) ≡ true → (length one.before ≡ length two.before → one.before ≡ two.before) → one ≡ two
hold_is one two t f =
    let more : Bool = one.slot == two.slot && length one.before == length two.before in
    let rest : more ≡ true = rest_of (one.key == two.key) more t in
    ap (λ (x : ℕ). keeping x one.slot one.before) (number_is one.key two.key (first_of (one.key == two.key) more t))
    ∙ ap (λ (x : ℕ). keeping two.key x one.before) (number_is one.slot two.slot (first_of (one.slot == two.slot) (length one.before == length two.before) rest))
    ∙ ap (λ (x : List Group). keeping two.key two.slot x)
    (f (number_is (length one.before) (length two.before) (rest_of (one.slot == two.slot) (length one.before == length two.before) rest)))

own_hold : (kept : Keeping) → one_hold (Some kept) (Some kept) ≡ true
own_hold kept =
    both (kept.key == kept.key) (kept.slot == kept.slot && length kept.before == length kept.before) ((Decides-eqb kept.key kept.key).1 refl)
    (both (kept.slot == kept.slot) (length kept.before == length kept.before) ((Decides-eqb kept.slot kept.slot).1 refl)
    ((Decides-eqb (length kept.before) (length kept.before)).1 refl))

abbrev pub Same : List Group → Option (ℕ × ℕ) → List Group → Option (ℕ × ℕ) → Type 0
Same early one before two =
    (kept : Keeping) (first second : ℕ × ℕ)
    → one ≡ Some first → two ≡ Some second → kept_in first.0 early ≡ Some kept → kept_in second.0 before ≡ Some kept → first.1 ≡ second.1

same_test : (early between : List Group) (group : Group) (one two : ℕ × ℕ) (k l : Option Keeping) → kept_in one.0 early ≡ k
    → kept_in two.0 (early ++ group ∷ between) ≡ l → Same early (Some one) (early ++ group ∷ between) (Some two)
    → (if one_hold k l then one.1 == two.1 else true) ≡ true
same_test early between group one two None l e q h = refl
same_test early between group one two (Some a) None e q h = refl
same_test early between group one two (Some a) (Some b) e q h =
    by_cases (one_hold (Some a) (Some b)) ((if one_hold (Some a) (Some b) then one.1 == two.1 else true) ≡ true)
    (λ t.
    let same : a ≡ b = hold_is a b t (λ n. same_before one.0 two.0 early between group a b e q n) in
    subst (λ (v : Bool). (if v then one.1 == two.1 else true) ≡ true) (sym t)
    ((Decides-eqb one.1 two.1).1 (h b one two refl refl (e ∙ ap (λ (x : Keeping). Some x) same) q)))
    (λ t. subst (λ (v : Bool). (if v then one.1 == two.1 else true) ≡ true) (sym t) refl)

pub decides_same : (early between : List Group) (group : Group) (one two : Option (ℕ × ℕ))
    → Decides (same_ok early one (early ++ group ∷ between) two) (Same early one (early ++ group ∷ between) two)
decides_same early between group None two = ((λ t kept first second e f g i. absurd (cc)), (λ h. refl))
decides_same early between group (Some one) None = ((λ t kept first second e f g i. absurd (cc)), (λ h. refl))
decides_same early between group (Some one) (Some two) = (
  (λ t kept first second e f g i.
      let a : one ≡ first = cc in
      let z : two ≡ second = cc in
      let k : kept_in one.0 early ≡ Some kept = ap (λ (p : ℕ × ℕ). kept_in p.0 early) a ∙ g in
      let l : kept_in two.0 (early ++ group ∷ between) ≡ Some kept = ap (λ (p : ℕ × ℕ). kept_in p.0 (early ++ group ∷ between)) z ∙ i in
      let one_kept : (if one_hold (Some kept) (kept_in two.0 (early ++ group ∷ between)) then one.1 == two.1 else true) ≡ true =
      subst (λ (x : Option Keeping). (if one_hold x (kept_in two.0 (early ++ group ∷ between)) then one.1 == two.1 else true) ≡ true) k t in
      let both_kept : (if one_hold (Some kept) (Some kept) then one.1 == two.1 else true) ≡ true =
      subst (λ (x : Option Keeping). (if one_hold (Some kept) x then one.1 == two.1 else true) ≡ true) l one_kept in
      let same : (one.1 == two.1) ≡ true = subst (λ (v : Bool). (if v then one.1 == two.1 else true) ≡ true) (own_hold kept) both_kept in
      sym (ap (λ (p : ℕ × ℕ). p.1) a) ∙ number_is one.1 two.1 same ∙ ap (λ (p : ℕ × ℕ). p.1) z),
  (λ h. same_test early between group one two (kept_in one.0 early) (kept_in two.0 (early ++ group ∷ between)) refl refl h),
)

-- A change after looks.

abbrev pub Later : (n : ℕ) → (change : Bool) → List Group → Option (ℕ × ℕ) → Type 0
Later n change before told = (b version : ℕ) → (change && is_version n b version told) ≡ true → looked_in n b before ≤ version - 1

pub decides_later : (n : ℕ) (change : Bool) (before : List Group) (told : Option (ℕ × ℕ)) → Decides (later_ok n change before told) (Later n change before told)
decides_later n true before None = ((λ t b version e. absurd (cc)), (λ h. refl))
decides_later n true before (Some told) = (
  (λ t b version e.
      let here : bucket_of n told.0 ≡ b = number_is (bucket_of n told.0) b (first_of (bucket_of n told.0 == b) (told.1 == version) e) in
      let same : told.1 ≡ version = number_is told.1 version (rest_of (bucket_of n told.0 == b) (told.1 == version) e) in
      subst (λ (x : ℕ). looked_in n x before ≤ version - 1) here
      (subst (λ (x : ℕ). looked_in n (bucket_of n told.0) before ≤ x - 1) same ((decides_most (looked_in n (bucket_of n told.0) before) (told.1 - 1)).0 t))),
  (λ h.
      (decides_most (looked_in n (bucket_of n told.0) before) (told.1 - 1)).1
      (h (bucket_of n told.0) told.1
      (both (bucket_of n told.0 == bucket_of n told.0) (told.1 == told.1) ((Decides-eqb (bucket_of n told.0) (bucket_of n told.0)).1 refl)
      ((Decides-eqb told.1 told.1).1 refl)))),
)
decides_later n false before told = ((λ t b version e. absurd (cc)), (λ h. refl))
