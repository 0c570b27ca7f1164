-- What the answers of a seat tell of versions and of numbers rises.
use Rattle.std.proofs.Common.{Bool, List, None, Option, Some, [], ap, arith, refl, subst, sym, true, ℕ, ◌++◌, ◌<◌, ◌∙◌, ◌∷◌, ◌≡◌, ◌≤◌}
use Rattle.std.specs.Prelude.{if◌then◌else◌, is_some, ◌&&◌, ◌==◌}
use Rattle.law_all.proofs.inv.model.Facts.{first_of, number_is, rest_of, same_test}
use Rattle.law_all.specs.inv.model.Locals.{Group}
use Rattle.law_all.specs.inv.model.defs.declared.call.Answer.{Answer}
use Rattle.law_all.specs.inv.model.defs.declared.call.Answer.TheVariants as answers
use Rattle.law_all.specs.inv.model.defs.declared.call.Call.{Call}
use Rattle.law_all.specs.inv.model.defs.declared.call.Call.TheVariants as calls
use Rattle.law_all.specs.inv.model.words.declared.config.Config.{Config}
use Rattle.law_all.specs.inv.model.words.declared.layout.Layout.{Layout}
use Rattle.law_all.specs.laws.StructuresAt.{bucket_of}
use Rattle.law_all.specs.Logs.Answered.{Says}
use Rattle.law_all.specs.Logs.Versions.{Counts, counts_of, met_in, number_by, number_queued, number_taken, seen_in, version_by, version_told}
use Rattle.law_all.specs.inv.history.History.{Item, record_of}
use Rattle.law_all.specs.inv.history.Record.{Past}
use Rattle.law_all.proofs.Logs.Meets.{logs_extend, version_met}
use Rattle.law_all.specs.RunLaw.{InOrder, RisesLaw, change_made, has_number, is_queued_as, is_taken_as, is_version}
use Rattle.law_all.specs.Runs.{AtRest, logs_of}
use Rattle.law_all.proofs.Runs.Calls.{Called, Follow, called, follow}
use Rattle.law_all.proofs.Runs.Keeping.{looked_before}

-- what a log has met with one call more is what the call has told
version_last : (n b version : ℕ) (told : Option (ℕ × ℕ)) (before : ℕ) → is_version n b version told ≡ true → version_by n b told before ≡ version
version_last n b version None before h = absurd (cc)
version_last n b version (Some told) before h =
    let place : b ≡ bucket_of n told.0 = sym (number_is (bucket_of n told.0) b (first_of (bucket_of n told.0 == b) (told.1 == version) h)) in
    let here : (b == bucket_of n told.0) ≡ true = same_test b (bucket_of n told.0) place in
    ap (λ (same : Bool). if same then told.1 else before) here ∙ number_is told.1 version (rest_of (bucket_of n told.0 == b) (told.1 == version) h)

number_last : (number : ℕ) (told : Option ℕ) (before : ℕ) → has_number number told ≡ true → number_by told before ≡ number
number_last number None before h = absurd (cc)
number_last number (Some other) before h = number_is other number h

met_version : (n b version : ℕ) (before : List Group) (group : Group) → is_version n b version (version_told group.call group.answer) ≡ true
    → (met_in n (before ++ group ∷ [])).versions b ≡ version
met_version n b version before group h =
    ap (λ (x : Counts). x.versions b) (logs_extend n before group)
    ∙ version_last n b version (version_told group.call group.answer) ((met_in n before).versions b) h

pub met_queued : (n number : ℕ) (before : List Group) (group : Group) → is_queued_as number group ≡ true → (met_in n (before ++ group ∷ [])).queued ≡ number
met_queued n number before group h =
    ap (λ (x : Counts). x.queued) (logs_extend n before group) ∙ number_last number (number_queued group.call group.answer) (met_in n before).queued h

pub met_taken : (n number : ℕ) (before : List Group) (group : Group) → is_taken_as number group ≡ true → (met_in n (before ++ group ∷ [])).taken ≡ number
met_taken n number before group h =
    ap (λ (x : Counts). x.taken) (logs_extend n before group) ∙ number_last number (number_taken group.call group.answer) (met_in n before).taken h

-- a version that is told was there since the call's beginning
version_since : (c : Config) (from : Counts) (r : Past) (call : Call) (answer : Answer) (b version : ℕ) → Says c from r call answer
    → is_version c.buckets b version (version_told call answer) ≡ true → from.versions b ≤ version
version_since c from r call answer b version s h = by (version_told call answer) refl h
  where
    by : (told : Option (ℕ × ℕ)) → version_told call answer ≡ told → is_version c.buckets b version told ≡ true → from.versions b ≤ version
    by None e h = absurd (cc)
    by (Some told) e h =
        let m = version_met c from r call answer told e s in
        let place : bucket_of c.buckets told.0 ≡ b =
        number_is (bucket_of c.buckets told.0) b (first_of (bucket_of c.buckets told.0 == b) (told.1 == version) h) in
        let same : told.1 ≡ version = number_is told.1 version (rest_of (bucket_of c.buckets told.0 == b) (told.1 == version) h) in
        subst (λ (x : ℕ). from.versions x ≤ version) place (subst (λ (x : ℕ). from.versions (bucket_of c.buckets told.0) ≤ x) same m.since)

-- and one that a change made was not there yet
later_by : (from : Counts) (place b told version : ℕ) → from.versions place < told → (place == b && told == version) ≡ true → from.versions b < version
later_by from place b told version low h =
    let here : place ≡ b = number_is place b (first_of (place == b) (told == version) h) in
    let same : told ≡ version = number_is told version (rest_of (place == b) (told == version) h) in
    subst (λ (x : ℕ). from.versions x < version) here (subst (λ (x : ℕ). from.versions place < x) same low)

change_later : (c : Config) (from : Counts) (r : Past) (call : Call) (answer : Answer) (b version : ℕ) → Says c from r call answer
    → (is_some (change_made call answer) && is_version c.buckets b version (version_told call answer)) ≡ true → from.versions b < version
change_later c from r (calls.Put key value) (answers.Done told clock) b version s h = later_by from (bucket_of c.buckets key) b told version s.later h
change_later c from r (calls.PutIf key value wanted) (answers.Done told clock) b version s h = later_by from (bucket_of c.buckets key) b told version s.done.later h
change_later c from r (calls.Remove key) (answers.Done told clock) b version s h = later_by from (bucket_of c.buckets key) b told version s.later h
change_later c from r call answer b version s h = absurd (cc)

-- so were a number queued and a number taken
pub queued_later : (c : Config) (from : Counts) (r : Past) (call : Call) (answer : Answer) (number : ℕ) → Says c from r call answer
    → has_number number (number_queued call answer) ≡ true → from.queued < number
queued_later c from r (calls.Enqueue value) (answers.Queued told) number s h = subst (λ (x : ℕ). from.queued < x) (number_is told number h) s.since
queued_later c from r call answer number s h = absurd (cc)

taken_later : (c : Config) (from : Counts) (r : Past) (call : Call) (answer : Answer) (number : ℕ) → Says c from r call answer
    → has_number number (number_taken call answer) ≡ true → from.taken < number
taken_later c from r calls.Dequeue (answers.Taken told value clock) number s h = subst (λ (x : ℕ). from.taken < x) (number_is told number h) s.since
taken_later c from r call answer number s h = absurd (cc)

-- of a bucket that was not changed a seat has told no version
none_seen : (seen count : ℕ) → seen ≤ count → count ≡ 0 → seen ≡ 0
none_seen seen count h e = omega (arith, h, e)

-- two calls of one seat
at_most : (low met from high : ℕ) → met ≡ low → met ≤ from → from ≤ high → low ≤ high
at_most low met from high e h k = omega (arith, e, h, k)

below : (low met from high : ℕ) → met ≡ low → met ≤ from → from < high → low < high
below low met from high e h k = omega (arith, e, h, k)

pub rises : (layout : Layout) (items : List Item) → AtRest layout items → RisesLaw layout.config (logs_of layout items)
rises layout items rest = record {
  never_fall = λ one two b low high h l k.
      let n : ℕ = layout.config.buckets in
      let f : Follow layout items one two = follow layout items one two rest.valid h in
      at_most low ((met_in n (f.before ++ one ∷ [])).versions b) ((counts_of f.second.begun.from).versions b) high
      (met_version n b low f.before one l) (f.met.versions b)
      (version_since layout.config (counts_of f.second.begun.from) (record_of layout items) two.call two.answer b high f.second.says k);
  changes_rise = λ one two b low high h l k.
      let n : ℕ = layout.config.buckets in
      let f : Follow layout items one two = follow layout items one two rest.valid h in
      below low ((met_in n (f.before ++ one ∷ [])).versions b) ((counts_of f.second.begun.from).versions b) high
      (met_version n b low f.before one l) (f.met.versions b)
      (change_later layout.config (counts_of f.second.begun.from) (record_of layout items) two.call two.answer b high f.second.says k);
  after_looks = λ before group b version h k.
      let r : Past = record_of layout items in
      let a : Called layout items before group = called layout items before group rest.valid h in
      let looked = looked_before layout items a.seat b before group rest a.is in
      let later = change_later layout.config (counts_of a.is.begun.from) r group.call group.answer b version a.is.says k in
      omega (arith, looked, later);
  unseen = λ before group key h e none.
      let c : Config = layout.config in
      let b : ℕ = bucket_of c.buckets key in
      let a : Called layout items before group = called layout items before group rest.valid h in
      let from : Counts = counts_of a.is.begun.from in
      let said : Says c from a.is.end.at (calls.Hold key) answers.Nothing =
      subst (λ (answer : Answer). Says c from a.is.end.at (calls.Hold key) answer) none (subst (λ (call : Call). Says c from a.is.end.at call group.answer) e a.is.said) in
      none_seen (seen_in c.buckets b before) (from.versions b) (a.is.before_it.versions b) said;
}

pub queued_rise : (layout : Layout) (items : List Item) → AtRest layout items → (one two : Group) (low high : ℕ) → InOrder (logs_of layout items) one two
    → is_queued_as low one ≡ true → is_queued_as high two ≡ true → low < high
queued_rise layout items rest one two low high h l k =
    let n : ℕ = layout.config.buckets in
    let f : Follow layout items one two = follow layout items one two rest.valid h in
    below low (met_in n (f.before ++ one ∷ [])).queued (counts_of f.second.begun.from).queued high (met_queued n low f.before one l) f.met.queued
    (queued_later layout.config (counts_of f.second.begun.from) (record_of layout items) two.call two.answer high f.second.says k)

pub taken_rise : (layout : Layout) (items : List Item) → AtRest layout items → (one two : Group) (low high : ℕ) → InOrder (logs_of layout items) one two
    → is_taken_as low one ≡ true → is_taken_as high two ≡ true → low < high
taken_rise layout items rest one two low high h l k =
    let n : ℕ = layout.config.buckets in
    let f : Follow layout items one two = follow layout items one two rest.valid h in
    below low (met_in n (f.before ++ one ∷ [])).taken (counts_of f.second.begun.from).taken high (met_taken n low f.before one l) f.met.taken
    (taken_later layout.config (counts_of f.second.begun.from) (record_of layout items) two.call two.answer high f.second.says k)
