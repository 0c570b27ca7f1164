-- What seats keep is what their logs tell; so holds, copies and looks answer by it.
use Rattle.std.proofs.Common.{ℕ, ◌≡◌, ◌≤◌, ◌<◌, ◌+◌, Bool, true, false, List, [], ◌∷◌, ◌++◌, length, Option, Some, None, refl, sym, ap, ◌∙◌, subst, arith, length-append}
use Rattle.std.proofs.lemmas.Bool.Decides.{nat_tests}
use Rattle.std.specs.Prelude.{◌==◌, ◌&&◌, if◌then◌else◌, nat_le, not, ◌%◌}
use Rattle.law_all.proofs.inv.model.Facts.{both, first_of, number_is, same_number}
use Rattle.law_all.specs.inv.model.Desks.{noted}
use Rattle.law_all.specs.inv.model.Locals.{Group, may_begin}
use Rattle.law_all.specs.inv.model.defs.declared.call.Answer.TheVariants as answers
use Rattle.law_all.specs.inv.model.defs.declared.call.Answer.{Answer}
use Rattle.law_all.specs.inv.model.defs.declared.call.Call.TheVariants as calls
use Rattle.law_all.specs.inv.model.defs.declared.call.Call.{Call}
use Rattle.law_all.specs.inv.model.defs.declared.event.Event.TheVariants as events
use Rattle.law_all.specs.inv.model.defs.declared.event.Event.{Event}
use Rattle.law_all.specs.inv.model.defs.Pairs.{pairs_after, value_in, Pair}
use Rattle.law_all.specs.inv.model.words.declared.config.Config.{Config}
use Rattle.law_all.specs.laws.AnswerLaw.{suits}
use Rattle.law_all.specs.laws.HistoryAnswers.{answer_right, owes, same_told}
use Rattle.law_all.specs.laws.StructuresAt.RowShows.{LinkedAt, ShowsVersion, Unlinked}
use Rattle.law_all.specs.laws.StateAt.{began_of, is_open, stood_at, told_of}
use Rattle.law_all.specs.laws.StructuresAt.{RowShows, begun_at, bucket_of, count_of, pairs_at, same_value, shows_of, value_at}
use Rattle.law_all.specs.inv.history.Record.Past.{Start, Then}
use Rattle.law_all.specs.inv.history.Record.{Each, Past}
use Rattle.law_all.specs.Kept.{Keeping, kept_by, kept_in}
use Rattle.law_all.specs.Logs.Answered.{IsRow, IsShown, IsStanding, Says, SaysOfRows}
use Rattle.law_all.specs.Logs.Shown.{shows_bucket}
use Rattle.law_all.specs.Logs.Ledgers.{log_of, notes_of}
use Rattle.law_all.specs.RunLaw.{bucket_kept}
use Rattle.law_all.proofs.Logs.Counts.{begun_counts}
use Rattle.law_all.proofs.Logs.Grows.{grows_entry, more_count, same_changes}
use Rattle.law_all.proofs.Logs.Knows.{Answers, answers_of, end_log, knows, lawful_before, other_inner, own_log}
use Rattle.law_all.proofs.Logs.Shows.{IsVersion, shown_version}
use Rattle.law_all.proofs.Runs.Keeps.{Holds, Laws, apart_of, copy_low, holds, laws_before, look_low, touches}
use Rattle.law_all.proofs.Runs.Shelves.{KeepsAt, held_now, held_tells, held_version, kept_more, log_longer, version_shown}
use Rattle.law_linear.specs.Hands.{hand_of, hand_right, hands_ok, object_held, version_of}
use Rattle.law_linear.specs.Object.{Kept, keeps, may_copy, may_look}

-- the bucket of a row that is kept, as it was when it was taken
pub record Alike (c : Config) (k : ℕ) (p : Past) (hand : Kept) (kept : Keeping) : Type 0 where
  pub name : hand.name ≡ kept.slot
  pub version : hand.was.version ≡ held_version k (length kept.before) p
  pub pairs : hand.was.pairs ≡ pairs_at (bucket_kept c kept) hand.was.version p
  pub had : hand.was.version ≤ count_of (bucket_kept c kept) p
  pub old : length kept.before < length (log_of k p)

abbrev pub Match : Config → ℕ → Past → Option Kept → Option Keeping → Type 0
Match c k p None None = Unit {0}
Match c k p None (Some kept) = ⊥
Match c k p (Some hand) None = ⊥
Match c k p (Some hand) (Some kept) = Alike c k p hand kept

-- an entry later
match_on : (c : Config) (k i : ℕ) (p : Past) (event : Event) (hand : Option Kept) (kept : Option Keeping) → Match c k p hand kept → Match c k (Then p i event) hand kept
match_on c k i p event None None m = tt
match_on c k i p event None (Some kept) m = m
match_on c k i p event (Some hand) None m = m
match_on c k i p event (Some hand) (Some kept) m =
    let q : Past = Then p i event in
    let b : ℕ = bucket_kept c kept in
    let longer : length (log_of k p) ≤ length (log_of k (Then p i event)) = log_longer k p (record { seat = i; event = event } ∷ []) in
    let more = more_count b p q (grows_entry p i event) in
    record {
      name = m.name;
      version = m.version ∙ sym (held_tells k (length kept.before) (record { seat = i; event = event } ∷ []) p m.old);
      pairs = m.pairs ∙ ap pairs_after (sym (same_changes b hand.was.version p q (grows_entry p i event) m.had));
      had = omega (arith, m.had, more);
      old = omega (arith, m.old, longer);
    }

abbrev Matches : Config → ℕ → Past → Type 0
Matches c k p = (j : ℕ) → Match c k p (hand_of c k p j) (kept_in j (log_of k p))

-- What the row of a hold shows where the hold ends.
record Shows (c : Config) (k : ℕ) (p : Past) (key slot : ℕ) : Type 0 where
  stands : stood_at k 2 p ≡ Some slot
  some : 1 ≤ version_of (shows_of slot p)
  had : version_of (shows_of slot p) ≤ count_of (bucket_of c.buckets key) p
  begun : begun_at k (bucket_of c.buckets key) p ≤ version_of (shows_of slot p)

version_same : (shows : RowShows) → version_of shows ≡ version_shown shows
version_same Unlinked = refl
version_same (LinkedAt bucket) = refl
version_same (ShowsVersion bucket version) = refl

shown_of : (b : ℕ) (shows : RowShows) → shows_bucket b shows ≡ true → shows ≡ ShowsVersion b (version_of shows)
shown_of b Unlinked h = absurd (cc)
shown_of b (LinkedAt bucket) h = absurd (cc)
shown_of b (ShowsVersion bucket version) h = ap (λ (x : ℕ). ShowsVersion x version) (number_is bucket b h)

hold_shows : (c : Config) (k : ℕ) (p : Past) (key slot : ℕ) → Laws c p → Holds c k p → began_of k p ≡ Some (calls.Hold key) → IsStanding k p slot
    → IsRow (begun_counts k p) p (bucket_of c.buckets key) slot → Shows c k p key slot
hold_shows c k p key slot l g b rows r =
    let place : ℕ = bucket_of c.buckets key in
    let version : ℕ = version_of (shows_of slot p) in
    let shows : shows_of slot p ≡ ShowsVersion place version = shown_of place (shows_of slot p) (g.held key slot b rows.told rows.stands) in
    let x : IsVersion place version slot p = shown_version c.buckets c.slots slot place version p l.lawful.order l.lawful.map shows in
    let last : r.version ≤ version = x.last r.version r.met.until r.row_is in
    let since = r.met.since in
    record { stands = rows.stands; some = x.some; had = x.had; begun = omega (arith, last, since) }

-- what is known where a call ends
record Ending (c : Config) (k : ℕ) (p : Past) (call : Call) (answer : Answer) : Type 0 where
  suits_it : suits call answer ≡ true
  may : may_begin c call ≡ true
  rows : SaysOfRows c k p call answer
  keeps : (j : ℕ) → 2 ≤ j → touches (Some call) j ≡ false → KeepsAt c k j p (kept_in j (log_of k p))
  shows : (key slot : ℕ) → call ≡ calls.Hold key → answer ≡ answers.Holding slot → Shows c k p key slot

record Ended (c : Config) (k steps : ℕ) (p : Past) (answer : Answer) : Type 0 where
  call : Call
  began : began_of k p ≡ Some call
  ending : Ending c k p call answer
  group : Group
  log : log_of k (Then p k (events.End steps answer)) ≡ log_of k p ++ group ∷ []
  call_is : group.call ≡ call
  answer_is : group.answer ≡ answer

shows_by : (c : Config) (k : ℕ) (p : Past) (call : Call) (answer : Answer) → Laws c p → Holds c k p → began_of k p ≡ Some call → Says c (begun_counts k p) p call answer
    → SaysOfRows c k p call answer → (key slot : ℕ) → call ≡ calls.Hold key → answer ≡ answers.Holding slot → Shows c k p key slot
shows_by c k p (calls.Hold other) (answers.Holding row) l g b says rows key slot e f =
    let same : other ≡ key = cc in
    let one : row ≡ slot = cc in
    subst (λ (x : ℕ). Shows c k p x slot) same (subst (λ (x : ℕ). Shows c k p other x) one (hold_shows c k p other row l g b rows says))
shows_by c k p call answer l g b says rows key slot e f = absurd (cc)

suits_by : (c : Config) (k : ℕ) (p : Past) (call : Call) (answer : Answer) (began : Option Call) → began ≡ Some call → answer_right c.buckets began (told_of k p) answer ≡ true
    → suits call answer ≡ true
suits_by c k p call answer began e h =
    let one : answer_right c.buckets (Some call) (told_of k p) answer ≡ true =
    subst (λ (x : Option Call). answer_right c.buckets x (told_of k p) answer ≡ true) e h in
    first_of (suits call answer) (same_told (told_of k p) (owes c.buckets call answer)) one

ended : (c : Config) (k steps : ℕ) (p : Past) (answer : Answer) → Laws c (Then p k (events.End steps answer)) → Ended c k steps p answer
ended c k steps p answer l =
    let event : Event = events.End steps answer in
    let before : Laws c p = laws_before c p k event l in
    let g : Holds c k p = holds c k p before in
    let o : is_open k p ≡ true = l.lawful.open_calls.0 in
    let a : Answers c k steps p answer = answers_of c k steps p answer l.lawful (knows c k p (lawful_before c p k event l.lawful)) in
    record {
      call = a.call;
      began = a.began;
      ending = record {
        suits_it = suits_by c k p a.call answer (began_of k p) a.began l.lawful.told.0;
        may = g.starts a.call a.began;
        rows = a.rows;
        keeps = λ j low t. g.keeps j low (rw (o, a.began) t);
        shows = shows_by c k p a.call answer before g a.began a.says a.rows;
      };
      group = record { call = a.call; answer = answer; notes = noted (notes_of k p) event };
      log = end_log c k steps p answer a;
      call_is = refl;
      answer_is = refl;
    }

-- What is kept after a call.
choose : (c : Config) (k : ℕ) (q : Past) (new old : Option Kept) (one other : Option Keeping) (same : Bool) → Match c k q new one → Match c k q old other
    → Match c k q (if same then new else old) (if same then one else other)
choose c k q new old one other true m n = m
choose c k q new old one other false m n = n

taken : (c : Config) (k steps : ℕ) (p : Past) (key slot : ℕ) (group : Group) → log_of k (Then p k (events.End steps (answers.Holding slot))) ≡ log_of k p ++ group ∷ [] → Shows c k p key slot
    → Alike c k (Then p k (events.End steps (answers.Holding slot))) (record { name = slot; was = (object_held (answers.Holding slot) p).bucket (key % c.buckets) })
    (record { key = key; slot = slot; before = log_of k p })
taken c k steps p key slot group log x =
    let count : length (log_of k (Then p k (events.End steps (answers.Holding slot)))) ≡ length (log_of k p) + 1 =
    ap (λ (y : List Group). length y) log ∙ length-append (log_of k p) (group ∷ []) in
    record {
      name = refl;
      version = version_same (shows_of slot p) ∙ sym (held_now k steps slot p (answers.Holding slot) x.stands);
      pairs = refl;
      had = x.had;
      old = omega (arith, count);
    }

by_call : (c : Config) (k steps j : ℕ) (p : Past) (call : Call) (answer : Answer) (group : Group) → log_of k (Then p k (events.End steps answer)) ≡ log_of k p ++ group ∷ []
    → Ending c k p call answer → ((i : ℕ) → Match c k (Then p k (events.End steps answer)) (hand_of c k p i) (kept_in i (log_of k p)))
    → Match c k (Then p k (events.End steps answer)) (keeps c (object_held answer p) (hand_of c k p) call answer j) (kept_by (log_of k p) call answer (λ (i : ℕ). kept_in i (log_of k p)) j)
by_call c k steps j p (calls.Hold key) (answers.Holding slot) group log e on =
    choose c k (Then p k (events.End steps (answers.Holding slot))) (Some (record { name = slot; was = (object_held (answers.Holding slot) p).bucket (key % c.buckets) })) (hand_of c k p j)
    (Some (record { key = key; slot = slot; before = log_of k p })) (kept_in j (log_of k p)) (j == 2) (taken c k steps p key slot group log (e.shows key slot refl refl)) (on j)
by_call c k steps j p (calls.Hold key) answers.Nothing group log e on =
    choose c k (Then p k (events.End steps answers.Nothing)) None (hand_of c k p j) None (kept_in j (log_of k p)) (j == 2) tt (on j)
by_call c k steps j p (calls.Hold key) answer group log e on = let s = e.suits_it in absurd (cc)
by_call c k steps j p (calls.Copy from index) (answers.Copied slot) group log e on =
    choose c k (Then p k (events.End steps (answers.Copied slot))) (hand_of c k p from) (hand_of c k p j) (kept_in from (log_of k p)) (kept_in j (log_of k p)) (j == index) (on from) (on j)
by_call c k steps j p (calls.Copy from index) answers.Nothing group log e on = on j
by_call c k steps j p (calls.Copy from index) answer group log e on = let s = e.suits_it in absurd (cc)
by_call c k steps j p calls.Release answer group log e on = choose c k (Then p k (events.End steps answer)) None (hand_of c k p j) None (kept_in j (log_of k p)) (j == 2) tt (on j)
by_call c k steps j p (calls.DropIndex index) answer group log e on =
    choose c k (Then p k (events.End steps answer)) None (hand_of c k p j) None (kept_in j (log_of k p)) (j == index) tt (on j)
by_call c k steps j p calls.Leave answer group log e on = tt
by_call c k steps j p call answer group log e on = on j

match_end : (c : Config) (k steps : ℕ) (p : Past) (answer : Answer) → Laws c (Then p k (events.End steps answer)) → Matches c k p → Matches c k (Then p k (events.End steps answer))
match_end c k steps p answer l m j =
    let q : Past = Then p k (events.End steps answer) in
    let e : Ended c k steps p answer = ended c k steps p answer l in
    let x = by_call c k steps j p e.call answer e.group e.log e.ending (λ i. match_on c k k p (events.End steps answer) (hand_of c k p i) (kept_in i (log_of k p)) (m i)) in
    let hand : hand_of c k (Then p k (events.End steps answer)) j ≡ keeps c (object_held answer p) (hand_of c k p) e.call answer j = rw (same_number k, e.began) refl in
    let kept : kept_in j (log_of k (Then p k (events.End steps answer))) ≡ kept_by (log_of k p) e.call answer (λ (i : ℕ). kept_in i (log_of k p)) j =
    ap (kept_in j) e.log ∙ kept_more (log_of k p) e.group j ∙ rw (e.call_is, e.answer_is) refl in
    subst (λ (y : Option Keeping). Match c k q (hand_of c k (Then p k (events.End steps answer)) j) y) (sym kept)
    (subst (λ (y : Option Kept). Match c k q y (kept_by (log_of k p) e.call answer (λ (i : ℕ). kept_in i (log_of k p)) j)) (sym hand) x)

-- any other entry leaves log and hand
quiet_match : (c : Config) (k i : ℕ) (p : Past) (event : Event) → log_of k (Then p i event) ≡ log_of k p → ((j : ℕ) → hand_of c k (Then p i event) j ≡ hand_of c k p j)
    → Matches c k p → Matches c k (Then p i event)
quiet_match c k i p event log hand m j =
    subst (λ (y : List Group). Match c k (Then p i event) (hand_of c k (Then p i event) j) (kept_in j y)) (sym log)
    (subst (λ (y : Option Kept). Match c k (Then p i event) y (kept_in j (log_of k p))) (sym (hand j)) (match_on c k i p event (hand_of c k p j) (kept_in j (log_of k p)) (m j)))

own_match : (c : Config) (k : ℕ) (p : Past) (event : Event) → Laws c (Then p k event) → Matches c k p → Matches c k (Then p k event)
own_match c k p (events.End steps answer) l m = match_end c k steps p answer l m
own_match c k p (events.Begin call) l m = quiet_match c k k p (events.Begin call) (own_log k p (events.Begin call)) (λ j. refl) m
own_match c k p event l m = quiet_match c k k p event (own_log k p event) (λ j. refl) m

other_hand : (c : Config) (k i j : ℕ) (p : Past) (event : Event) → (k == i) ≡ false → hand_of c k (Then p i event) j ≡ hand_of c k p j
other_hand c k i j p (events.End steps answer) e = rw e refl
other_hand c k i j p event e = refl

entry_match : (c : Config) (k i : ℕ) (p : Past) (event : Event) (same : Bool) → (k == i) ≡ same → Laws c (Then p i event) → Matches c k p → Matches c k (Then p i event)
entry_match c k i p event true e l m =
    let one : k ≡ i = number_is k i e in
    subst (λ (x : ℕ). Matches c k (Then p x event)) one (own_match c k p event (subst (λ (x : ℕ). Laws c (Then p x event)) (sym one) l) m)
entry_match c k i p event false e l m = quiet_match c k i p event (other_inner k i p event e).log (λ j. other_hand c k i j p event e) m

pub matches : (c : Config) (k : ℕ) (p : Past) → Laws c p → (j : ℕ) → Match c k p (hand_of c k p j) (kept_in j (log_of k p))
matches c k Start l = λ j. tt
matches c k (Then p i event) l = entry_match c k i p event (k == i) refl l (matches c k p (laws_before c p i event l))

-- So answers are right.
same_test : (a b : ℕ) → a ≡ b → (a == b) ≡ true
same_test a b h = grind (arith, nat_tests)

in_call : (low version high : ℕ) → low ≤ version → version ≤ high → 1 ≤ version → ((nat_le low version && nat_le version high) && not (version == 0)) ≡ true
in_call low version high a b d = grind (arith, nat_tests)

copy_right : (c : Config) (k from slot : ℕ) (p : Past) (hand : Option Kept) (kept : Option Keeping) → Match c k p hand kept → KeepsAt c k from p kept → stood_at k from p ≡ Some slot
    → may_copy hand (answers.Copied slot) ≡ true
copy_right c k from slot p None None m g s = absurd (cc)
copy_right c k from slot p None (Some kept) m g s = absurd m
copy_right c k from slot p (Some hand) None m g s = absurd m
copy_right c k from slot p (Some hand) (Some kept) m g s =
    let stands = g.stands in
    let one : slot ≡ kept.slot = cc in
    same_test slot hand.name (one ∙ sym m.name)

none_right : (c : Config) (k j : ℕ) (p : Past) (hand : Option Kept) (kept : Option Keeping) → Match c k p hand kept → KeepsAt c k j p kept → stood_at k j p ≡ None → hand ≡ None
none_right c k j p None kept m g s = refl
none_right c k j p (Some hand) None m g s = absurd m
none_right c k j p (Some hand) (Some kept) m g s = let stands = g.stands in absurd (cc)

value_same : (x : Option ℕ) → same_value x x ≡ true
value_same None = refl
value_same (Some n) = same_number n

look_right : (c : Config) (k index key slot version : ℕ) (value : Option ℕ) (p : Past) (hand : Option Kept) (kept : Option Keeping) → Match c k p hand kept → KeepsAt c k index p kept
    → IsShown k index key p slot version value → may_look key hand (answers.Looked slot version value) ≡ true
look_right c k index key slot version value p None None m g s = let stands = s.stands in absurd (cc)
look_right c k index key slot version value p None (Some kept) m g s = absurd m
look_right c k index key slot version value p (Some hand) None m g s = absurd m
look_right c k index key slot version value p (Some hand) (Some kept) m g s =
    let stands = g.stands in
    let there = s.stands in
    let one : slot ≡ kept.slot = cc in
    let b : ℕ = bucket_kept c kept in
    let held : ℕ = held_version k (length kept.before) p in
    let mine : shows_of slot p ≡ ShowsVersion b held = subst (λ (x : ℕ). shows_of x p ≡ ShowsVersion b held) (sym one) g.shows in
    let both_are : ShowsVersion s.bucket version ≡ ShowsVersion b held = sym s.shows ∙ mine in
    let place : s.bucket ≡ b = cc in
    let now : version ≡ held = cc in
    let was : version ≡ hand.was.version = now ∙ sym m.version in
    let value_is : value ≡ value_in hand.was.pairs key =
    s.value_is ∙ ap (λ (x : ℕ). value_at x version key p) place ∙ ap (λ (x : ℕ). value_at b x key p) was ∙ ap (λ (ps : List Pair). value_in ps key) (sym m.pairs) in
    both (slot == hand.name) (version == hand.was.version && same_value value (value_in hand.was.pairs key)) (same_test slot hand.name (one ∙ sym m.name))
    (both (version == hand.was.version) (same_value value (value_in hand.was.pairs key)) (same_test version hand.was.version was)
    (subst (λ (x : Option ℕ). same_value value x ≡ true) value_is (value_same value)))

right_by : (c : Config) (k : ℕ) (p : Past) (call : Call) (answer : Answer) → Ending c k p call answer → Matches c k p → hand_right c k p (Some call) answer ≡ true
right_by c k p (calls.Hold key) (answers.Holding slot) e m =
    let x = e.shows key slot refl refl in
    in_call (begun_at k (bucket_of c.buckets key) p) (version_of (shows_of slot p)) (count_of (bucket_of c.buckets key) p) x.begun x.had x.some
right_by c k p (calls.Copy from index) (answers.Copied slot) e m =
    let low = copy_low c from index e.may in
    copy_right c k from slot p (hand_of c k p from) (kept_in from (log_of k p)) (m from) (e.keeps from low.0 (apart_of from index low.1)) e.rows.stood
right_by c k p (calls.Copy from index) answers.Nothing e m =
    let low = copy_low c from index e.may in
    let none : hand_of c k p from ≡ None = none_right c k from p (hand_of c k p from) (kept_in from (log_of k p)) (m from) (e.keeps from low.0 (apart_of from index low.1)) e.rows in
    rw none refl
right_by c k p (calls.Copy from index) answer e m = let s = e.suits_it in absurd (cc)
right_by c k p (calls.Look index key) (answers.Looked slot version value) e m =
    look_right c k index key slot version value p (hand_of c k p index) (kept_in index (log_of k p)) (m index) (e.keeps index (look_low c index key e.may) refl) e.rows
right_by c k p (calls.Look index key) answers.Nothing e m =
    let none : hand_of c k p index ≡ None =
    none_right c k index p (hand_of c k p index) (kept_in index (log_of k p)) (m index) (e.keeps index (look_low c index key e.may) refl) e.rows in
    rw none refl
right_by c k p (calls.Look index key) answer e m = let s = e.suits_it in absurd (cc)
right_by c k p call answer e m = refl

hand_entry : (c : Config) (p : Past) (i : ℕ) (event : Event) → Laws c (Then p i event) → hands_ok c p i event ≡ true
hand_entry c p i (events.End steps answer) l =
    let e : Ended c i steps p answer = ended c i steps p answer l in
    let right = right_by c i p e.call answer e.ending (matches c i p (laws_before c p i (events.End steps answer) l)) in
    rw e.began right
hand_entry c p i event l = refl

pub hands_right : (c : Config) (r : Past) → Laws c r → Each (hands_ok c) r
hands_right c Start l = tt
hands_right c (Then p i event) l = (hand_entry c p i event l, hands_right c p (laws_before c p i event l))
