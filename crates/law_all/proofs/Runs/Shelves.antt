-- What a seat keeps, as the calls of its log tell, stands at each position of a record, and shows the version that it showed where the hold
-- ended that it came from.
use Rattle.std.proofs.Common.{ℕ, ◌≡◌, ◌≤◌, ◌<◌, ◌+◌, Bool, true, false, List, [], ◌∷◌, ◌++◌, length, Option, Some, None, refl, sym, ap, ◌∙◌, subst, arith, append-nil, append_assoc, length-append}
use Rattle.std.proofs.lemmas.Bool.Decides.{nat_tests}
use Rattle.std.specs.Prelude.{◌==◌, ◌&&◌, if◌then◌else◌}
use Rattle.law_all.proofs.inv.model.Facts.{false_of_not, same_number}
use Rattle.law_all.specs.inv.model.Locals.{Group}
use Rattle.law_all.specs.inv.model.defs.Entry.{Entry}
use Rattle.law_all.specs.inv.model.defs.declared.call.Answer.{Answer}
use Rattle.law_all.specs.inv.model.defs.declared.event.Event.TheVariants as events
use Rattle.law_all.specs.inv.model.defs.declared.event.Event.{Event}
use Rattle.law_all.specs.inv.model.defs.declared.event.Root.TheVariants as roots
use Rattle.law_all.specs.inv.model.words.declared.config.Config.{Config}
use Rattle.law_all.specs.laws.StructuresAt.RowShows.{ShowsVersion}
use Rattle.law_all.specs.laws.StateAt.{is_row, stood_at}
use Rattle.law_all.specs.laws.StructuresAt.{RowShows, changed_to, shows_of}
use Rattle.law_all.specs.inv.history.Record.Past.{Start, Then}
use Rattle.law_all.specs.inv.history.Record.{Past, tells}
use Rattle.law_all.specs.Kept.{Keeping, kept_by, kept_from, kept_in, looked_by, looked_from, looked_in}
use Rattle.law_all.specs.Logs.Ledgers.{log_of}
use Rattle.law_all.specs.RunLaw.{bucket_kept}
use Rattle.law_all.specs.Logs.Shown.{is_bucket_link, links_ok}
use Rattle.law_all.specs.Logs.Versions.{seen_in}
use Rattle.law_all.proofs.Logs.Cuts.{log_more}

-- the version that a row shows, and none is 0
abbrev pub version_shown : RowShows → ℕ
version_shown (ShowsVersion bucket version) = version
version_shown shows = 0

abbrev pub shown_at : Option ℕ → Past → ℕ
shown_at None p = 0
shown_at (Some slot) p = version_shown (shows_of slot p)

abbrev pub is_end : Event → Bool
is_end (events.End steps answer) = true
is_end event = false

-- the version that the row at index 2 showed where seat k ended the call that has so many before it
abbrev pub held_version : (seat before : ℕ) → Past → ℕ
held_version k n Start = 0
held_version k n (Then p i event) =
    if (k == i && is_end event) && length (log_of k p) == n then shown_at (stood_at k 2 p) p else held_version k n p

-- later entries leave it
never_both : (one two : Bool) (new old : ℕ) → two ≡ false → (if one && two then new else old) ≡ old
never_both true two new old e = rw e refl
never_both false two new old e = refl

held_still : (k n i : ℕ) (p : Past) (event : Event) → n < length (log_of k p) → held_version k n (Then p i event) ≡ held_version k n p
held_still k n i p event h =
    let other : (length (log_of k p) == n) ≡ false = grind (arith, nat_tests) in
    never_both (k == i && is_end event) (length (log_of k p) == n) (shown_at (stood_at k 2 p) p) (held_version k n p) other

pub log_longer : (k : ℕ) (p : Past) (xs : List Entry) → length (log_of k p) ≤ length (log_of k (tells p xs))
log_longer k p xs =
    let e = log_more k p xs in
    let l : length (log_of k (tells p xs)) ≡ length (log_of k p) + length e.more =
    ap (λ (log : List Group). length log) e.cut ∙ length-append (log_of k p) e.more in
    omega (arith, l)

pub held_tells : (k n : ℕ) (xs : List Entry) (p : Past) → n < length (log_of k p) → held_version k n (tells p xs) ≡ held_version k n p
held_tells k n [] p h = refl
held_tells k n (x ∷ xs) p h =
    let longer : length (log_of k p) ≤ length (log_of k (Then p x.seat x.event)) = log_longer k p (x ∷ []) in
    held_tells k n xs (Then p x.seat x.event) (omega (arith, h, longer)) ∙ held_still k n x.seat p x.event h

pub held_now : (k steps slot : ℕ) (p : Past) (answer : Answer) → stood_at k 2 p ≡ Some slot
    → held_version k (length (log_of k p)) (Then p k (events.End steps answer)) ≡ version_shown (shows_of slot p)
held_now k steps slot p answer e = rw (same_number k, same_number (length (log_of k p)), e) refl

-- what is kept at an index
pub record Keeps (c : Config) (k j : ℕ) (p : Past) (kept : Keeping) : Type 0 where
  pub stands : stood_at k j p ≡ Some kept.slot
  pub old : length kept.before < length (log_of k p)
  pub shows : shows_of kept.slot p ≡ ShowsVersion (bucket_kept c kept) (held_version k (length kept.before) p)
  pub since : seen_in c.buckets (bucket_kept c kept) kept.before ≤ held_version k (length kept.before) p
  pub since_looks : looked_in c.buckets (bucket_kept c kept) kept.before ≤ held_version k (length kept.before) p

abbrev pub KeepsAt : Config → (k j : ℕ) → Past → Option Keeping → Type 0
KeepsAt c k j p None = stood_at k j p ≡ None
KeepsAt c k j p (Some kept) = Keeps c k j p kept

-- an entry that does not link the row at a root leaves what it shows
pub still_shows : (s b version i : ℕ) (p : Past) (event : Event) → shows_of s p ≡ ShowsVersion b version → is_bucket_link s event ≡ false
    → shows_of s (Then p i event) ≡ ShowsVersion b version
still_shows s b version i p (events.Link (roots.Bucket bucket) slot) e h = rw h e
still_shows s b version i p (events.Put bucket number key value) e h = ap (changed_to number) e
still_shows s b version i p (events.Removed bucket number key) e h = ap (changed_to number) e
still_shows s b version i p event e h = e

pub no_link : (k j s i : ℕ) (p : Past) (event : Event) → links_ok k j s p i event ≡ true → stood_at k j p ≡ Some s → is_bucket_link s event ≡ false
no_link k j s i p event h e =
    let stands : is_row s (stood_at k j p) ≡ true = ap (is_row s) e ∙ same_number s in
    let both : (is_row s (stood_at k j p) && is_bucket_link s event) ≡ false = false_of_not (is_row s (stood_at k j p) && is_bucket_link s event) h in
    let out : (true && is_bucket_link s event) ≡ false = rw stands at both in
    out

pub keeps_on : (c : Config) (k j i : ℕ) (p : Past) (event : Event) (kept : Option Keeping) → stood_at k j (Then p i event) ≡ stood_at k j p
    → ((s : ℕ) → links_ok k j s p i event ≡ true) → KeepsAt c k j p kept → KeepsAt c k j (Then p i event) kept
keeps_on c k j i p event None e l g = e ∙ g
keeps_on c k j i p event (Some kept) e l g =
    let longer : length (log_of k p) ≤ length (log_of k (Then p i event)) = log_longer k p (record { seat = i; event = event } ∷ []) in
    let same : held_version k (length kept.before) (Then p i event) ≡ held_version k (length kept.before) p = held_still k (length kept.before) i p event g.old in
    record {
      stands = e ∙ g.stands;
      old = omega (arith, g.old, longer);
      shows = still_shows kept.slot (bucket_kept c kept) (held_version k (length kept.before) p) i p event g.shows
          (no_link k j kept.slot i p event (l kept.slot) g.stands)
          ∙ ap (ShowsVersion (bucket_kept c kept)) (sym same);
      since = subst (λ (x : ℕ). seen_in c.buckets (bucket_kept c kept) kept.before ≤ x) (sym same) g.since;
      since_looks = subst (λ (x : ℕ). looked_in c.buckets (bucket_kept c kept) kept.before ≤ x) (sym same) g.since_looks;
    }

-- at another index where the same row stands
pub keeps_moved : (c : Config) (k from j slot : ℕ) (p : Past) (kept : Option Keeping) → stood_at k from p ≡ Some slot → stood_at k j p ≡ Some slot
    → KeepsAt c k from p kept → KeepsAt c k j p kept
keeps_moved c k from j slot p None f t g = absurd (cc)
keeps_moved c k from j slot p (Some kept) f t g =
    let same : slot ≡ kept.slot = cc in
    record { stands = t ∙ ap (λ (x : ℕ). Some x) same; old = g.old; shows = g.shows; since = g.since; since_looks = g.since_looks }

-- what is kept after one call more
from_more : (kept : ℕ → Option Keeping) (before log : List Group) (group : Group) (j : ℕ)
    → kept_from kept before (log ++ group ∷ []) j ≡ kept_by (before ++ log) group.call group.answer (λ (i : ℕ). kept_from kept before log i) j
from_more kept before [] group j = ap (λ (x : List Group). kept_by x group.call group.answer kept j) (sym (append-nil before))
from_more kept before (first ∷ log) group j =
    from_more (kept_by before first.call first.answer kept) (before ++ first ∷ []) log group j
    ∙ ap (λ (x : List Group). kept_by x group.call group.answer (λ (i : ℕ). kept_from (kept_by before first.call first.answer kept) (before ++ first ∷ []) log i) j)
    (append_assoc before (first ∷ []) log)

pub kept_more : (log : List Group) (group : Group) (j : ℕ)
    → kept_in j (log ++ group ∷ []) ≡ kept_by log group.call group.answer (λ (i : ℕ). kept_in i log) j
kept_more log group j = from_more (λ (index : ℕ). None) [] log group j

-- what looks have told after one call more
looks_more : (n b : ℕ) (before log : List Group) (group : Group) (most : ℕ)
    → looked_from n b before (log ++ group ∷ []) most ≡ looked_by n b (before ++ log) group.call group.answer (looked_from n b before log most)
looks_more n b before [] group most = ap (λ (x : List Group). looked_by n b x group.call group.answer most) (sym (append-nil before))
looks_more n b before (first ∷ log) group most =
    let now : ℕ = looked_by n b before first.call first.answer most in
    looks_more n b (before ++ first ∷ []) log group now
    ∙ ap (λ (x : List Group). looked_by n b x group.call group.answer (looked_from n b (before ++ first ∷ []) log now)) (append_assoc before (first ∷ []) log)

pub looked_more : (n b : ℕ) (log : List Group) (group : Group) → looked_in n b (log ++ group ∷ []) ≡ looked_by n b log group.call group.answer (looked_in n b log)
looked_more n b log group = looks_more n b [] log group 0
