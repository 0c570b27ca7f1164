-- The plain reader of runs judges as the law does.
use Rattle.std.proofs.Common.{Bool, List, None, Option, Some, [], ap, arith, drop, false, length, refl, subst, suc, sym, true, zero, ℕ, ◌++◌, ◌+◌, ◌<◌, ◌==◌, ◌∙◌, ◌∷◌, ◌≡◌, ◌≤◌}
use Rattle.std.proofs.lemmas.Bool.Decides.{Decides-and, Decides-eqb, nat_tests}
use Rattle.std.proofs.lemmas.List.{get_or_past}
use Rattle.std.specs.Bool.{Decides}
use Rattle.std.specs.List.{list_all, range_with_len, slice_get}
use Rattle.std.specs.Prelude.{count_by, filter, if◌then◌else◌, nat_le, nat_lt, not, ◌&&◌}
use Rattle.law_all.proofs.inv.model.Facts.{both, by_cases}
use Rattle.law_all.specs.inv.model.Locals.{Group}
use Rattle.law_all.specs.inv.model.defs.Pairs.{pairs_after}
use Rattle.law_all.specs.inv.model.defs.declared.call.Answer.{Answer}
use Rattle.law_all.specs.inv.model.defs.declared.call.Answer.TheVariants as answers
use Rattle.law_all.specs.inv.model.defs.declared.call.Call.{Call}
use Rattle.law_all.specs.inv.model.defs.declared.call.Call.TheVariants as calls
use Rattle.law_all.specs.inv.model.defs.declared.call.ClockMove.{ClockMove}
use Rattle.law_all.specs.inv.model.defs.declared.fold.Change.{Change}
use Rattle.law_all.specs.inv.model.words.Schemes.{moves}
use Rattle.law_all.specs.laws.AnswerLaw.{retires_for, suits}
use Rattle.law_all.specs.laws.StateAt.{is_among, one}
use Rattle.law_all.specs.laws.StructuresAt.{bucket_of, numbered_from}
use Rattle.law_all.specs.Logs.Versions.{seen_in, version_told}
use Rattle.law_all.specs.RunLaw as law
use Rattle.law_worked.specs.RunRecords.Readers.{Bullet, Holds, ReadersJudge, Sentence, adopted_by, adopted_ok, back_ok, bare_ok, bullets, change_in, changes_rise_ok, clock_ok, each_below, each_call, each_pair, empty_ok, final_ok, full_ok, if_some_ok, keeps_ok, kept_ok, later_ok, made_in, moved_by, never_fall_ok, once_ok, parted_ok, plain_ok, queued_by, queued_in, queues_ok, reads, reads_ok, rises_ok, same_numbers, same_ok, same_pairs, sentences_of, spent_ok, taken_by, taken_in, takes, tellers, unseen_ok, versions_ok}
use Rattle.law_worked.specs.RunRecords.Runs.{Run}
use Rattle.law_worked.proofs.RunRecords.Keeps.{Later, Same, decides_keeps, decides_later, decides_same}
use Rattle.law_worked.proofs.RunRecords.Made.{changes_told, keeps_of, made_is, queued_is, reads_of, taken_is}
use Rattle.law_worked.proofs.RunRecords.Numbers.{decides_once, decides_single}
use Rattle.law_worked.proofs.RunRecords.Splits.{decides_below, decides_call, decides_pair, decides_two, get_read}
use Rattle.law_worked.proofs.RunRecords.Tests.{LessBy, Less, Versions, decides_adopted, decides_back, decides_bare, decides_clock, decides_empty, decides_final, decides_full, decides_kept, decides_less, decides_most, decides_numbers, decides_other, decides_pairs, decides_parted, decides_plain, decides_queues, decides_reads, decides_rises, decides_slots, decides_some, decides_versions, itself}

-- a sentence of a bullet
part : (run : Run) (bullet : Bullet) (place : ℕ) (sentence : Sentence) → takes run bullet ≡ true
    → slice_get (sentences_of bullet) place ≡ Some sentence → reads run sentence ≡ true
part run bullet place sentence e at = get_read (reads run) (sentences_of bullet) place sentence e at

-- Answers.

-- so it is of each call of a run
abbrev EachCall : Run → (List Group → Group → Type 0) → Type 0
EachCall run P = (before : List Group) (group : Group) → law.IsCall run.logs before group → P before group

-- and of each two calls of one seat
abbrev EachPair : Run → (Group → Group → Type 0) → Type 0
EachPair run P = (one two : Group) → law.InOrder run.logs one two → P one two

suits_all : (run : Run) → Decides (reads run Sentence.Suits) (EachCall run (λ before group. suits group.call group.answer ≡ true))
suits_all run =
    decides_call (λ before group. suits group.call group.answer) (λ before group. suits group.call group.answer ≡ true)
    (λ before group. itself (suits group.call group.answer)) run.logs

allowed_all : (run : Run)
    → Decides (reads run Sentence.Allowed) (EachCall run (λ before group. law.is_allowed run.config.last_version group.answer ≡ true))
allowed_all run =
    decides_call (λ before group. law.is_allowed run.config.last_version group.answer)
    (λ before group. law.is_allowed run.config.last_version group.answer ≡ true)
    (λ before group. itself (law.is_allowed run.config.last_version group.answer)) run.logs

full_all : (run : Run)
    → Decides (reads run Sentence.Full) (EachCall run (λ before group. group.answer ≡ answers.Full → group.notes.given ≡ None))
full_all run =
    decides_call (λ before group. full_ok group.answer group.notes.given) (λ before group. group.answer ≡ answers.Full → group.notes.given ≡ None)
    (λ before group. decides_full group.answer group.notes.given) run.logs

retires_all : (run : Run)
    → Decides (reads run Sentence.Retires) (EachCall run (λ before group. law.retired_in group ≡ retires_for group.answer))
retires_all run =
    decides_call (λ before group. law.retired_in group == retires_for group.answer) (λ before group. law.retired_in group ≡ retires_for group.answer)
    (λ before group. Decides-eqb (law.retired_in group) (retires_for group.answer)) run.logs

clock_all : (run : Run)
    → Decides (reads run Sentence.Clock)
    ((before : List Group) (group : Group) → law.IsCall run.logs before group
    → (move : ClockMove) → law.clock_told group.answer ≡ Some move → law.is_still move ≡ (if law.is_due (moves run.config.scheme) run.config.every before group then false else true))
clock_all run =
    decides_call (λ before group. clock_ok (law.clock_told group.answer) (law.is_due (moves run.config.scheme) run.config.every before group))
    (λ before group.
    (move : ClockMove) → law.clock_told group.answer ≡ Some move → law.is_still move ≡ (if law.is_due (moves run.config.scheme) run.config.every before group then false else true))
    (λ before group. decides_clock (law.clock_told group.answer) (law.is_due (moves run.config.scheme) run.config.every before group)) run.logs

counted_all : (run : Run)
    → Decides (reads run Sentence.Counted)
    ((before : List Group) (group : Group) → law.IsCall run.logs before group
    → (kept back : ℕ) → group.answer ≡ answers.Scanned kept back → back ≡ length group.notes.back)
counted_all run =
    decides_call (λ before group. back_ok group.answer (length group.notes.back))
    (λ before group. (kept back : ℕ) → group.answer ≡ answers.Scanned kept back → back ≡ length group.notes.back)
    (λ before group. decides_back group.answer (length group.notes.back)) run.logs

bare_all : (run : Run) → Decides (reads run Sentence.Bare) (EachCall run (λ before group. law.is_bare group.call ≡ true → law.NoRow group.notes))
bare_all run =
    decides_call (λ before group. bare_ok (law.is_bare group.call) group.notes.given group.notes.back)
    (λ before group. law.is_bare group.call ≡ true → law.NoRow group.notes)
    (λ before group. decides_bare (law.is_bare group.call) group.notes.given group.notes.back) run.logs

answered : (run : Run) → Decides (takes run Bullet.Answers) (Holds run Bullet.Answers)
answered run = (
  (λ e.
      record {
        seats = (Decides-eqb (length run.logs) run.config.seats).0 (part run Bullet.Answers 0 Sentence.Seats e refl);
        right = λ before group k.
            record {
              suits = (suits_all run).0 (part run Bullet.Answers 1 Sentence.Suits e refl) before group k;
              allowed = (allowed_all run).0 (part run Bullet.Answers 2 Sentence.Allowed e refl) before group k;
              full = (full_all run).0 (part run Bullet.Answers 3 Sentence.Full e refl) before group k;
              retires = (retires_all run).0 (part run Bullet.Answers 4 Sentence.Retires e refl) before group k;
              clock = (clock_all run).0 (part run Bullet.Answers 5 Sentence.Clock e refl) before group k;
              back = (counted_all run).0 (part run Bullet.Answers 6 Sentence.Counted e refl) before group k;
              bare = (bare_all run).0 (part run Bullet.Answers 7 Sentence.Bare e refl) before group k;
            };
      }),
  (λ h.
      both (reads run Sentence.Seats) _ ((Decides-eqb (length run.logs) run.config.seats).1 h.seats)
      (both (reads run Sentence.Suits) _ ((suits_all run).1 (λ before group k. (h.right before group k).suits))
      (both (reads run Sentence.Allowed) _ ((allowed_all run).1 (λ before group k. (h.right before group k).allowed))
      (both (reads run Sentence.Full) _ ((full_all run).1 (λ before group k. (h.right before group k).full))
      (both (reads run Sentence.Retires) _ ((retires_all run).1 (λ before group k. (h.right before group k).retires))
      (both (reads run Sentence.Clock) _ ((clock_all run).1 (λ before group k. (h.right before group k).clock))
      (both (reads run Sentence.Counted) _ ((counted_all run).1 (λ before group k. (h.right before group k).back))
      (both (reads run Sentence.Bare) _ ((bare_all run).1 (λ before group k. (h.right before group k).bare)) refl)))))))),
)

-- Versions.

version_all : (run : Run) (made : ℕ → List Change)
    → Decides (each_below run.config.buckets (λ b. (law.bucket_in b run.closed).version == length (made b)))
    ((b : ℕ) → b < run.config.buckets → (law.bucket_in b run.closed).version ≡ length (made b))
version_all run made =
    decides_below (λ b. (law.bucket_in b run.closed).version == length (made b)) (λ b. (law.bucket_in b run.closed).version ≡ length (made b))
    (λ b. Decides-eqb (law.bucket_in b run.closed).version (length (made b))) run.config.buckets

once_all : (run : Run) (made : ℕ → List Change)
    → Decides (each_below run.config.buckets (λ b. once_ok (change_in run.config.buckets b) (length (made b)) run.logs))
    ((b : ℕ) → b < run.config.buckets → (version : ℕ) → tellers (change_in run.config.buckets b) version run.logs ≡ law.once_up_to (length (made b)) version)
once_all run made =
    decides_below (λ b. once_ok (change_in run.config.buckets b) (length (made b)) run.logs)
    (λ b. (version : ℕ) → tellers (change_in run.config.buckets b) version run.logs ≡ law.once_up_to (length (made b)) version)
    (λ b. decides_once (change_in run.config.buckets b) (length (made b)) run.logs) run.config.buckets

pairs_all : (run : Run) (made : ℕ → List Change)
    → Decides (each_below run.config.buckets (λ b. same_pairs (law.bucket_in b run.closed).pairs (pairs_after (made b))))
    ((b : ℕ) → b < run.config.buckets → (law.bucket_in b run.closed).pairs ≡ pairs_after (made b))
pairs_all run made =
    decides_below (λ b. same_pairs (law.bucket_in b run.closed).pairs (pairs_after (made b))) (λ b. (law.bucket_in b run.closed).pairs ≡ pairs_after (made b))
    (λ b. decides_pairs (law.bucket_in b run.closed).pairs (pairs_after (made b))) run.config.buckets

reads_all : (run : Run) (made : ℕ → List Change)
    → Decides (each_call (λ before group. reads_ok run.config made group.call group.answer) run.logs)
    ((before : List Group) (group : Group) → law.IsCall run.logs before group → law.ReadsRight run.config made group.call group.answer)
reads_all run made =
    decides_call (λ before group. reads_ok run.config made group.call group.answer) (λ before group. law.ReadsRight run.config made group.call group.answer)
    (λ before group. decides_reads run.config made group.call group.answer) run.logs

key_below : (key n : ℕ) → 1 ≤ n → bucket_of n key < n
key_below key n l = omega arith

versions : (run : Run) → 1 ≤ run.config.buckets → Decides (takes run Bullet.Versions) (Holds run Bullet.Versions)
versions run some = (
  (λ e.
      let made : ℕ → List Change = made_in run.config.buckets run.logs in (
        made,
        record {
          buckets = (Decides-eqb (length run.closed.buckets) run.config.buckets).0 (part run Bullet.Versions 0 Sentence.Buckets e refl);
          version = (version_all run made).0 (part run Bullet.Versions 1 Sentence.Version e refl);
          once = λ b version low.
              changes_told run.config.buckets b version run.logs ∙ (once_all run made).0 (part run Bullet.Versions 2 Sentence.Once e refl) b low version;
          pairs = (pairs_all run made).0 (part run Bullet.Versions 3 Sentence.Pairs e refl);
          reads = (reads_all run made).0 (part run Bullet.Versions 4 Sentence.Reads e refl);
        },
      )),
  (λ h.
      let made : ℕ → List Change = made_in run.config.buckets run.logs in
      let same : (b : ℕ) → b < run.config.buckets → h.0 b ≡ made b = λ b low. sym (made_is run.config run.logs run.closed h.0 h.1 b low) in
      both (reads run Sentence.Buckets) _ ((Decides-eqb (length run.closed.buckets) run.config.buckets).1 h.1.buckets)
      (both (reads run Sentence.Version) _ ((version_all run made).1 (λ b low. h.1.version b low ∙ ap (λ (cs : List Change). length cs) (same b low)))
      (both (reads run Sentence.Once) _
      ((once_all run made).1 (λ b low version.
      sym (changes_told run.config.buckets b version run.logs) ∙ h.1.once b version low
      ∙ ap (λ (cs : List Change). law.once_up_to (length cs) version) (same b low)))
      (both (reads run Sentence.Pairs) _ ((pairs_all run made).1 (λ b low. h.1.pairs b low ∙ ap pairs_after (same b low)))
      (both (reads run Sentence.Reads) _
      ((reads_all run made).1 (λ before group k.
      reads_of run.config h.0 made (λ key. same (bucket_of run.config.buckets key) (key_below key run.config.buckets some)) group.call group.answer
      (h.1.reads before group k)))
      refl))))),
)

-- What rises.

never_fall_all : (run : Run)
    → Decides (reads run Sentence.NeverFall)
    ((one two : Group) → law.InOrder run.logs one two
    → Versions (λ low high. low ≤ high) run.config.buckets (version_told one.call one.answer) (version_told two.call two.answer))
never_fall_all run =
    decides_pair (λ one two. never_fall_ok run.config.buckets one two)
    (λ one two. Versions (λ low high. low ≤ high) run.config.buckets (version_told one.call one.answer) (version_told two.call two.answer))
    (λ one two.
    decides_versions (λ low high. nat_le low high) (λ low high. low ≤ high) (λ low high. decides_most low high) run.config.buckets
    (version_told one.call one.answer) (version_told two.call two.answer)) run.logs

-- where the second is a change
abbrev Higher : (change : Bool) → (n : ℕ) → (one two : Option (ℕ × ℕ)) → Type 0
Higher change n one two = (b low high : ℕ) → law.is_version n b low one ≡ true → (change && law.is_version n b high two) ≡ true → low < high

decides_higher : (change : Bool) (n : ℕ) (one two : Option (ℕ × ℕ))
    → Decides (if change then versions_ok (λ low high. nat_lt low high) n one two else true) (Higher change n one two)
decides_higher true n one two = decides_versions (λ low high. nat_lt low high) (λ low high. low < high) (λ low high. decides_less low high) n one two
decides_higher false n one two = ((λ t b low high e f. absurd (cc)), (λ h. refl))

changes_rise_all : (run : Run)
    → Decides (reads run Sentence.ChangesRise)
    ((one two : Group) → law.InOrder run.logs one two
    → Higher (law.is_change two) run.config.buckets (version_told one.call one.answer) (version_told two.call two.answer))
changes_rise_all run =
    decides_pair (λ one two. changes_rise_ok run.config.buckets one two)
    (λ one two. Higher (law.is_change two) run.config.buckets (version_told one.call one.answer) (version_told two.call two.answer))
    (λ one two. decides_higher (law.is_change two) run.config.buckets (version_told one.call one.answer) (version_told two.call two.answer)) run.logs

after_looks_all : (run : Run)
    → Decides (reads run Sentence.AfterLooks)
    (EachCall run (λ before group. Later run.config.buckets (law.is_change group) before (version_told group.call group.answer)))
after_looks_all run =
    decides_call (λ before group. later_ok run.config.buckets (law.is_change group) before (version_told group.call group.answer))
    (λ before group. Later run.config.buckets (law.is_change group) before (version_told group.call group.answer))
    (λ before group. decides_later run.config.buckets (law.is_change group) before (version_told group.call group.answer)) run.logs

-- where a hold finds nothing
abbrev Unseen : (n : ℕ) → (before : List Group) → Call → Answer → Type 0
Unseen n before call answer = (key : ℕ) → call ≡ calls.Hold key → answer ≡ answers.Nothing → seen_in n (bucket_of n key) before ≡ 0

decides_unseen : (n : ℕ) (before : List Group) (call : Call) (answer : Answer) → Decides (unseen_ok n before call answer) (Unseen n before call answer)
decides_unseen n before (calls.Hold key) answers.Nothing = (
  (λ t other e none. let same : key ≡ other = cc in subst (λ (x : ℕ). seen_in n (bucket_of n x) before ≡ 0) same ((Decides-eqb (seen_in n (bucket_of n key) before) 0).0 t)),
  (λ f. (Decides-eqb (seen_in n (bucket_of n key) before) 0).1 (f key refl refl)),
)
decides_unseen n before call answer = ((λ t key e none. absurd (cc)), (λ f. refl))

unseen_all : (run : Run) → Decides (reads run Sentence.Unseen) (EachCall run (λ before group. Unseen run.config.buckets before group.call group.answer))
unseen_all run =
    decides_call (λ before group. unseen_ok run.config.buckets before group.call group.answer) (λ before group. Unseen run.config.buckets before group.call group.answer)
    (λ before group. decides_unseen run.config.buckets before group.call group.answer) run.logs

rises : (run : Run) → Decides (takes run Bullet.Rises) (Holds run Bullet.Rises)
rises run = (
  (λ e.
      record {
        never_fall = λ one two b low high k. (never_fall_all run).0 (part run Bullet.Rises 0 Sentence.NeverFall e refl) one two k b low high;
        changes_rise = λ one two b low high k. (changes_rise_all run).0 (part run Bullet.Rises 1 Sentence.ChangesRise e refl) one two k b low high;
        after_looks = λ before group b version k. (after_looks_all run).0 (part run Bullet.Rises 2 Sentence.AfterLooks e refl) before group k b version;
        unseen = λ before group key k. (unseen_all run).0 (part run Bullet.Rises 3 Sentence.Unseen e refl) before group k key;
      }),
  (λ h.
      both (reads run Sentence.NeverFall) _ ((never_fall_all run).1 (λ one two k b low high. h.never_fall one two b low high k))
      (both (reads run Sentence.ChangesRise) _ ((changes_rise_all run).1 (λ one two k b low high. h.changes_rise one two b low high k))
      (both (reads run Sentence.AfterLooks) _ ((after_looks_all run).1 (λ before group k b version. h.after_looks before group b version k))
      (both (reads run Sentence.Unseen) _ ((unseen_all run).1 (λ before group k key. h.unseen before group key k)) refl)))),
)

-- What is kept.

kept_right_all : (run : Run) (made : ℕ → List Change)
    → Decides (each_call (λ before group. keeps_ok run.config made before group.call group.answer) run.logs)
    (EachCall run (λ before group. law.KeptRight run.config made before group.call group.answer))
kept_right_all run made =
    decides_call (λ before group. keeps_ok run.config made before group.call group.answer)
    (λ before group. law.KeptRight run.config made before group.call group.answer)
    (λ before group. decides_keeps run.config made before group.call group.answer) run.logs

same_all : (run : Run)
    → Decides (reads run Sentence.Same)
    ((one two : Group) (k : law.InOrder run.logs one two)
    → Same k.before (law.look_made one.call one.answer) (k.before ++ one ∷ k.between) (law.look_made two.call two.answer))
same_all run =
    decides_two (λ early one before two. same_ok early (law.look_made one.call one.answer) before (law.look_made two.call two.answer))
    (λ early one before two. Same early (law.look_made one.call one.answer) before (law.look_made two.call two.answer))
    (λ early between one two. decides_same early between one (law.look_made one.call one.answer) (law.look_made two.call two.answer)) run.logs

keeps : (run : Run) → Decides (takes run Bullet.Keeps) (Holds run Bullet.Keeps)
keeps run = (
  (λ e.
      record {
        right = (kept_right_all run (made_in run.config.buckets run.logs)).0 (part run Bullet.Keeps 0 Sentence.KeptRight e refl);
        same = λ one two kept first second k a b g i. (same_all run).0 (part run Bullet.Keeps 1 Sentence.Same e refl) one two k kept first second a b g i;
      }),
  (λ h.
      both (reads run Sentence.KeptRight) _ ((kept_right_all run (made_in run.config.buckets run.logs)).1 h.right)
      (both (reads run Sentence.Same) _ ((same_all run).1 (λ one two k kept first second a b g i. h.same one two kept first second k a b g i)) refl)),
)

-- The queue.

right_all : (run : Run) (queued : List ℕ)
    → Decides (each_call (λ before group. queues_ok run.config queued group.call group.answer) run.logs)
    ((before : List Group) (group : Group) → law.IsCall run.logs before group → law.QueuesRight run.config queued group.call group.answer)
right_all run queued =
    decides_call (λ before group. queues_ok run.config queued group.call group.answer)
    (λ before group. law.QueuesRight run.config queued group.call group.answer)
    (λ before group. decides_queues run.config queued group.call group.answer) run.logs

queued_all : (run : Run) → Decides (reads run Sentence.QueuedRise) ((one two : Group) → law.InOrder run.logs one two → LessBy (queued_by one) (queued_by two))
queued_all run =
    decides_pair (λ one two. rises_ok (queued_by one) (queued_by two)) (λ one two. LessBy (queued_by one) (queued_by two))
    (λ one two. decides_numbers (queued_by one) (queued_by two)) run.logs

taken_all : (run : Run) → Decides (reads run Sentence.TakenRise) ((one two : Group) → law.InOrder run.logs one two → LessBy (taken_by one) (taken_by two))
taken_all run =
    decides_pair (λ one two. rises_ok (taken_by one) (taken_by two)) (λ one two. LessBy (taken_by one) (taken_by two))
    (λ one two. decides_numbers (taken_by one) (taken_by two)) run.logs

first_all : (run : Run) → Decides (reads run Sentence.TakenFirst) ((one two : Group) → law.InOrder run.logs one two → LessBy (taken_by one) (queued_by two))
first_all run =
    decides_pair (λ one two. rises_ok (taken_by one) (queued_by two)) (λ one two. LessBy (taken_by one) (queued_by two))
    (λ one two. decides_numbers (taken_by one) (queued_by two)) run.logs

empty_all : (run : Run) (taken : ℕ)
    → Decides (each_pair (λ one two. empty_ok taken (queued_by one) two.answer) run.logs)
    (EachPair run (λ one two. (number : ℕ) → law.has_number number (queued_by one) ≡ true → two.answer ≡ answers.Empty → number ≤ taken))
empty_all run taken =
    decides_pair (λ one two. empty_ok taken (queued_by one) two.answer)
    (λ one two. (number : ℕ) → law.has_number number (queued_by one) ≡ true → two.answer ≡ answers.Empty → number ≤ taken)
    (λ one two. decides_empty taken (queued_by one) two.answer) run.logs

queue_told : (run : Run) → takes run Bullet.Queue ≡ true → law.QueueLaw run.config run.logs run.closed (queued_in run.logs) (taken_in run.logs)
queue_told run e =
    record {
      most = (decides_most (taken_in run.logs) (length (queued_in run.logs))).0 (part run Bullet.Queue 0 Sentence.MostTaken e refl);
      once_queued = (decides_once queued_by (length (queued_in run.logs)) run.logs).0 (part run Bullet.Queue 1 Sentence.OnceQueued e refl);
      once_taken = (decides_once taken_by (taken_in run.logs) run.logs).0 (part run Bullet.Queue 2 Sentence.OnceTaken e refl);
      right = (right_all run (queued_in run.logs)).0 (part run Bullet.Queue 3 Sentence.Right e refl);
      queued_rise = λ one two low high k. (queued_all run).0 (part run Bullet.Queue 4 Sentence.QueuedRise e refl) one two k low high;
      taken_rise = λ one two low high k. (taken_all run).0 (part run Bullet.Queue 5 Sentence.TakenRise e refl) one two k low high;
      taken_first = λ one two low high k. (first_all run).0 (part run Bullet.Queue 6 Sentence.TakenFirst e refl) one two k low high;
      left =
          (decides_pairs run.closed.queue (numbered_from (taken_in run.logs) (drop (taken_in run.logs) (queued_in run.logs)))).0
          (part run Bullet.Queue 7 Sentence.Left e refl);
      empty = λ one two number k. (empty_all run (taken_in run.logs)).0 (part run Bullet.Queue 8 Sentence.Empty e refl) one two k number;
    }

queue_taken : (run : Run) → law.QueueLaw run.config run.logs run.closed (queued_in run.logs) (taken_in run.logs) → takes run Bullet.Queue ≡ true
queue_taken run h =
    both (reads run Sentence.MostTaken) _ ((decides_most (taken_in run.logs) (length (queued_in run.logs))).1 h.most)
    (both (reads run Sentence.OnceQueued) _ ((decides_once queued_by (length (queued_in run.logs)) run.logs).1 h.once_queued)
    (both (reads run Sentence.OnceTaken) _ ((decides_once taken_by (taken_in run.logs) run.logs).1 h.once_taken)
    (both (reads run Sentence.Right) _ ((right_all run (queued_in run.logs)).1 h.right)
    (both (reads run Sentence.QueuedRise) _ ((queued_all run).1 (λ one two k low high. h.queued_rise one two low high k))
    (both (reads run Sentence.TakenRise) _ ((taken_all run).1 (λ one two k low high. h.taken_rise one two low high k))
    (both (reads run Sentence.TakenFirst) _ ((first_all run).1 (λ one two k low high. h.taken_first one two low high k))
    (both (reads run Sentence.Left) _
    ((decides_pairs run.closed.queue (numbered_from (taken_in run.logs) (drop (taken_in run.logs) (queued_in run.logs)))).1 h.left)
    (both (reads run Sentence.Empty) _ ((empty_all run (taken_in run.logs)).1 (λ one two k number. h.empty one two number k)) refl))))))))

queue : (run : Run) → Decides (takes run Bullet.Queue) (Holds run Bullet.Queue)
queue run = (
  (λ e. (queued_in run.logs, taken_in run.logs, queue_told run e)),
  (λ h.
      queue_taken run
      (subst (λ taken. law.QueueLaw run.config run.logs run.closed (queued_in run.logs) taken) (sym (taken_is run.config run.logs run.closed h.0 h.1 h.2))
      (subst (λ queued. law.QueueLaw run.config run.logs run.closed queued h.1) (sym (queued_is run.config run.logs run.closed h.0 h.1 h.2)) h.2))),
)

-- Rows.

used_all : (run : Run)
    → Decides (reads run Sentence.Used) (run.closed.used ≡ filter (λ slot. is_among slot run.closed.used) (range_with_len 0 (run.config.slots + 1)))
used_all run = decides_slots run.closed.used (filter (λ slot. is_among slot run.closed.used) (range_with_len 0 (run.config.slots + 1)))

balance_all : (run : Run)
    → Decides (reads run Sentence.Balance)
    ((slot : ℕ) → slot < suc run.config.slots
    → law.total (law.gives slot) run.logs + one (slot == run.config.slots)
    ≡ law.total (law.unuseds slot) run.logs + law.total (law.backs_in slot) run.logs + one (is_among slot run.closed.used))
balance_all run =
    decides_below
    (λ slot.
    law.total (law.gives slot) run.logs + one (slot == run.config.slots)
    == law.total (law.unuseds slot) run.logs + law.total (law.backs_in slot) run.logs + one (is_among slot run.closed.used))
    (λ slot.
    law.total (law.gives slot) run.logs + one (slot == run.config.slots)
    ≡ law.total (law.unuseds slot) run.logs + law.total (law.backs_in slot) run.logs + one (is_among slot run.closed.used))
    (λ slot.
    Decides-eqb (law.total (law.gives slot) run.logs + one (slot == run.config.slots))
    (law.total (law.unuseds slot) run.logs + law.total (law.backs_in slot) run.logs + one (is_among slot run.closed.used)))
    (suc run.config.slots)

rows : (run : Run) → Decides (takes run Bullet.Rows) (Holds run Bullet.Rows)
rows run = (
  (λ e.
      record {
        used = (used_all run).0 (part run Bullet.Rows 0 Sentence.Used e refl);
        balance = λ slot low. (balance_all run).0 (part run Bullet.Rows 1 Sentence.Balance e refl) slot (omega arith);
      }),
  (λ h.
      both (reads run Sentence.Used) _ ((used_all run).1 h.used)
      (both (reads run Sentence.Balance) _ ((balance_all run).1 (λ slot low. h.balance slot (omega arith))) refl)),
)

-- Lists.

plain_all : (run : Run) → Decides (reads run Sentence.Plain) (EachCall run (λ before group. group.notes.given ≡ None → group.notes.early ≡ 0))
plain_all run =
    decides_call (λ before group. plain_ok group.notes.given group.notes.early) (λ before group. group.notes.given ≡ None → group.notes.early ≡ 0)
    (λ before group. decides_plain group.notes.given group.notes.early) run.logs

early_all : (run : Run)
    → Decides (reads run Sentence.Early)
    ((before : List Group) (group : Group) → law.IsCall run.logs before group → law.is_part_of (law.early_backs group.notes) (law.list_in run.logs before) ≡ true)
early_all run =
    decides_call (λ before group. law.is_part_of (law.early_backs group.notes) (law.list_in run.logs before))
    (λ before group. law.is_part_of (law.early_backs group.notes) (law.list_in run.logs before) ≡ true)
    (λ before group. itself (law.is_part_of (law.early_backs group.notes) (law.list_in run.logs before))) run.logs

-- a seat's list in a call, and after it
abbrev between : Run → List Group → Group → List ℕ
between run before group = law.list_between (law.left_in run.logs) (law.list_in run.logs before) group

abbrev after : Run → List Group → Group → List ℕ
after run before group = law.list_after (law.left_in run.logs) (law.list_in run.logs before) group

late_all : (run : Run)
    → Decides (reads run Sentence.Late)
    ((before : List Group) (group : Group) → law.IsCall run.logs before group → law.is_part_of (law.late_backs group.notes) (between run before group) ≡ true)
late_all run =
    decides_call (λ before group. law.is_part_of (law.late_backs group.notes) (between run before group))
    (λ before group. law.is_part_of (law.late_backs group.notes) (between run before group) ≡ true)
    (λ before group. itself (law.is_part_of (law.late_backs group.notes) (between run before group))) run.logs

kept_all : (run : Run)
    → Decides (reads run Sentence.Kept)
    ((before : List Group) (group : Group) → law.IsCall run.logs before group
    → (kept back : ℕ) → group.answer ≡ answers.Scanned kept back → kept ≡ length (after run before group))
kept_all run =
    decides_call (λ before group. kept_ok group.answer (length (after run before group)))
    (λ before group. (kept back : ℕ) → group.answer ≡ answers.Scanned kept back → kept ≡ length (after run before group))
    (λ before group. decides_kept group.answer (length (after run before group))) run.logs

left_all : (run : Run)
    → Decides (reads run Sentence.LeftCount)
    ((before : List Group) (group : Group) → law.IsCall run.logs before group
    → (count : ℕ) → group.answer ≡ answers.Left count → count ≡ length (after run before group))
left_all run =
    decides_call (λ before group. parted_ok group.answer (length (after run before group)))
    (λ before group. (count : ℕ) → group.answer ≡ answers.Left count → count ≡ length (after run before group))
    (λ before group. decides_parted group.answer (length (after run before group))) run.logs

adopted_all : (run : Run)
    → Decides (reads run Sentence.TakenCount)
    ((before : List Group) (group : Group) → law.IsCall run.logs before group
    → (place count : ℕ) → law.taken_over group.call group.answer ≡ Some place → group.answer ≡ answers.Adopted count → count ≡ length (law.left_in run.logs place))
adopted_all run =
    decides_call (λ before group. adopted_ok (law.left_in run.logs) (adopted_by group) group.answer)
    (λ before group. (place count : ℕ) → adopted_by group ≡ Some place → group.answer ≡ answers.Adopted count → count ≡ length (law.left_in run.logs place))
    (λ before group. decides_adopted (law.left_in run.logs) (adopted_by group) group.answer) run.logs

-- a seat that the run does not have has no list
none_left : (times : ℕ) (logs : List (List Group)) (seat : ℕ) → law.log_in logs seat ≡ [] → law.left_after times logs seat ≡ []
none_left zero logs seat e = ap (law.list_from (λ (place : ℕ). []) []) e
none_left (suc times) logs seat e = ap (law.list_from (law.left_after times logs) []) e

whole_all : (run : Run)
    → Decides (reads run Sentence.Whole) ((seat : ℕ) → law.list_in run.logs (law.log_in run.logs seat) ≡ law.left_in run.logs seat)
whole_all run =
    let below : Decides (reads run Sentence.Whole) ((seat : ℕ) → seat < length run.logs → law.list_in run.logs (law.log_in run.logs seat) ≡ law.left_in run.logs seat) =
    decides_below (λ seat. same_numbers (law.list_in run.logs (law.log_in run.logs seat)) (law.left_in run.logs seat))
    (λ seat. law.list_in run.logs (law.log_in run.logs seat) ≡ law.left_in run.logs seat)
    (λ seat. decides_slots (law.list_in run.logs (law.log_in run.logs seat)) (law.left_in run.logs seat)) (length run.logs) in (
      (λ e seat.
          by_cases (nat_lt seat (length run.logs)) (law.list_in run.logs (law.log_in run.logs seat) ≡ law.left_in run.logs seat)
          (λ t. below.0 e seat (grind (arith, nat_tests)))
          (λ t.
          let past : length run.logs ≤ seat = grind (arith, nat_tests) in
          let none : law.log_in run.logs seat ≡ [] = get_or_past run.logs seat [] past in
          ap (law.list_in run.logs) none ∙ sym (none_left (law.total_of law.leaves run.logs) run.logs seat none))),
      (λ h. below.1 (λ seat l. h seat)),
    )

last_all : (run : Run) → Decides (reads run Sentence.LastCall) ((one two : Group) → law.InOrder run.logs one two → law.leaves one ≡ false)
last_all run =
    decides_pair (λ one two. not (law.leaves one)) (λ one two. law.leaves one ≡ false) (λ one two. decides_other (law.leaves one)) run.logs

gone_all : (run : Run)
    → Decides (reads run Sentence.Gone)
    ((before : List Group) (group : Group) → law.IsCall run.logs before group
    → (place : ℕ) → law.taken_over group.call group.answer ≡ Some place → 1 ≤ count_by law.leaves (law.log_in run.logs place))
gone_all run =
    decides_call (λ before group. if_some_ok (λ place. nat_le 1 (count_by law.leaves (law.log_in run.logs place))) (adopted_by group))
    (λ before group. (place : ℕ) → adopted_by group ≡ Some place → 1 ≤ count_by law.leaves (law.log_in run.logs place))
    (λ before group.
    decides_some (λ place. nat_le 1 (count_by law.leaves (law.log_in run.logs place))) (λ place. 1 ≤ count_by law.leaves (law.log_in run.logs place))
    (λ place. decides_most 1 (count_by law.leaves (law.log_in run.logs place))) (adopted_by group))
    run.logs

found_all : (run : Run)
    → Decides (reads run Sentence.FoundAdopted)
    ((before : List Group) (group : Group) → law.IsCall run.logs before group
    → (place : ℕ) → law.found_taken group.call group.answer ≡ Some place → 1 ≤ law.total_of (law.takes_over place) run.logs)
found_all run =
    decides_call (λ before group. if_some_ok (λ place. nat_le 1 (law.total_of (law.takes_over place) run.logs)) (law.found_taken group.call group.answer))
    (λ before group. (place : ℕ) → law.found_taken group.call group.answer ≡ Some place → 1 ≤ law.total_of (law.takes_over place) run.logs)
    (λ before group.
    decides_some (λ place. nat_le 1 (law.total_of (law.takes_over place) run.logs)) (λ place. 1 ≤ law.total_of (law.takes_over place) run.logs)
    (λ place. decides_most 1 (law.total_of (law.takes_over place) run.logs)) (law.found_taken group.call group.answer))
    run.logs

lists : (run : Run) → Decides (takes run Bullet.Lists) (Holds run Bullet.Lists)
lists run = (
  (λ e.
      record {
        right = λ before group k.
            record {
              plain = (plain_all run).0 (part run Bullet.Lists 0 Sentence.Plain e refl) before group k;
              early = (early_all run).0 (part run Bullet.Lists 1 Sentence.Early e refl) before group k;
              late = (late_all run).0 (part run Bullet.Lists 2 Sentence.Late e refl) before group k;
              kept = (kept_all run).0 (part run Bullet.Lists 3 Sentence.Kept e refl) before group k;
              left = (left_all run).0 (part run Bullet.Lists 4 Sentence.LeftCount e refl) before group k;
              taken = (adopted_all run).0 (part run Bullet.Lists 5 Sentence.TakenCount e refl) before group k;
            };
        whole = (whole_all run).0 (part run Bullet.Lists 6 Sentence.Whole e refl);
        last = (last_all run).0 (part run Bullet.Lists 7 Sentence.LastCall e refl);
        gone = λ before group place k. (gone_all run).0 (part run Bullet.Lists 8 Sentence.Gone e refl) before group k place;
        once = (decides_single adopted_by run.logs).0 (part run Bullet.Lists 9 Sentence.OnceAdopted e refl);
        found = λ before group place k. (found_all run).0 (part run Bullet.Lists 10 Sentence.FoundAdopted e refl) before group k place;
      }),
  (λ h.
      both (reads run Sentence.Plain) _ ((plain_all run).1 (λ before group k. (h.right before group k).plain))
      (both (reads run Sentence.Early) _ ((early_all run).1 (λ before group k. (h.right before group k).early))
      (both (reads run Sentence.Late) _ ((late_all run).1 (λ before group k. (h.right before group k).late))
      (both (reads run Sentence.Kept) _ ((kept_all run).1 (λ before group k. (h.right before group k).kept))
      (both (reads run Sentence.LeftCount) _ ((left_all run).1 (λ before group k. (h.right before group k).left))
      (both (reads run Sentence.TakenCount) _ ((adopted_all run).1 (λ before group k. (h.right before group k).taken))
      (both (reads run Sentence.Whole) _ ((whole_all run).1 h.whole)
      (both (reads run Sentence.LastCall) _ ((last_all run).1 h.last)
      (both (reads run Sentence.Gone) _ ((gone_all run).1 (λ before group k place. h.gone before group place k))
      (both (reads run Sentence.OnceAdopted) _ ((decides_single adopted_by run.logs).1 h.once)
      (both (reads run Sentence.FoundAdopted) _ ((found_all run).1 (λ before group k place. h.found before group place k)) refl))))))))))),
)

-- Eras.

later_all : (run : Run)
    → Decides (reads run Sentence.Later) (EachCall run (λ before group. (era : ℕ) → law.era_told (law.clock_told group.answer) ≡ Some era → 2 ≤ era))
later_all run =
    decides_call (λ before group. if_some_ok (λ era. nat_le 2 era) (law.era_told (law.clock_told group.answer)))
    (λ before group. (era : ℕ) → law.era_told (law.clock_told group.answer) ≡ Some era → 2 ≤ era)
    (λ before group. decides_some (λ era. nat_le 2 era) (λ era. 2 ≤ era) (λ era. decides_most 2 era) (law.era_told (law.clock_told group.answer)))
    run.logs

seen_all : (run : Run)
    → Decides (reads run Sentence.Seen)
    ((before : List Group) (group : Group) → law.IsCall run.logs before group
    → (era : ℕ) → law.era_told (law.clock_told group.answer) ≡ Some era → era ≤ run.closed.clock)
seen_all run =
    decides_call (λ before group. if_some_ok (λ era. nat_le era run.closed.clock) (law.era_told (law.clock_told group.answer)))
    (λ before group. (era : ℕ) → law.era_told (law.clock_told group.answer) ≡ Some era → era ≤ run.closed.clock)
    (λ before group.
    decides_some (λ era. nat_le era run.closed.clock) (λ era. era ≤ run.closed.clock) (λ era. decides_most era run.closed.clock)
    (law.era_told (law.clock_told group.answer)))
    run.logs

rise_all : (run : Run)
    → Decides (reads run Sentence.Rise)
    ((one two : Group) → law.InOrder run.logs one two → Less (law.era_told (law.clock_told one.answer)) (law.era_told (law.clock_told two.answer)))
rise_all run =
    decides_pair (λ one two. rises_ok (law.era_told (law.clock_told one.answer)) (law.era_told (law.clock_told two.answer)))
    (λ one two. Less (law.era_told (law.clock_told one.answer)) (law.era_told (law.clock_told two.answer)))
    (λ one two. decides_rises (law.era_told (law.clock_told one.answer)) (law.era_told (law.clock_told two.answer))) run.logs

spent_all : (run : Run)
    → Decides (reads run Sentence.Spent)
    ((before : List Group) (group : Group) → law.IsCall run.logs before group
    → (era : ℕ) → law.era_spent (law.clock_told group.answer) ≡ Some era → (era ≡ run.config.last_era) × (run.closed.clock ≡ run.config.last_era))
spent_all run =
    decides_call (λ before group. if_some_ok (λ era. spent_ok run.config.last_era run.closed.clock era) (law.era_spent (law.clock_told group.answer)))
    (λ before group.
    (era : ℕ) → law.era_spent (law.clock_told group.answer) ≡ Some era → (era ≡ run.config.last_era) × (run.closed.clock ≡ run.config.last_era))
    (λ before group.
    decides_some (λ era. spent_ok run.config.last_era run.closed.clock era)
    (λ era. (era ≡ run.config.last_era) × (run.closed.clock ≡ run.config.last_era))
    (λ era.
    Decides-and (era == run.config.last_era) (run.closed.clock == run.config.last_era)
    (Decides-eqb era run.config.last_era) (Decides-eqb run.closed.clock run.config.last_era))
    (law.era_spent (law.clock_told group.answer)))
    run.logs

final_all : (run : Run)
    → Decides (reads run Sentence.Final)
    ((one two : Group) → law.InOrder run.logs one two
    → (era : ℕ) → law.era_spent (law.clock_told one.answer) ≡ Some era → law.era_told (law.clock_told two.answer) ≡ None)
final_all run =
    decides_pair (λ one two. final_ok (law.era_spent (law.clock_told one.answer)) (law.era_told (law.clock_told two.answer)))
    (λ one two. (era : ℕ) → law.era_spent (law.clock_told one.answer) ≡ Some era → law.era_told (law.clock_told two.answer) ≡ None)
    (λ one two. decides_final (law.era_spent (law.clock_told one.answer)) (law.era_told (law.clock_told two.answer))) run.logs

eras : (run : Run) → Decides (takes run Bullet.Eras) (Holds run Bullet.Eras)
eras run = (
  (λ e.
      record {
        most = (decides_most run.closed.clock run.config.last_era).0 (part run Bullet.Eras 0 Sentence.Most e refl);
        once = (decides_single moved_by run.logs).0 (part run Bullet.Eras 1 Sentence.OnceMoved e refl);
        later = λ before group era k. (later_all run).0 (part run Bullet.Eras 2 Sentence.Later e refl) before group k era;
        seen = λ before group era k. (seen_all run).0 (part run Bullet.Eras 3 Sentence.Seen e refl) before group k era;
        rise = λ one two low high k. (rise_all run).0 (part run Bullet.Eras 4 Sentence.Rise e refl) one two k low high;
        spent = λ before group era k. (spent_all run).0 (part run Bullet.Eras 5 Sentence.Spent e refl) before group k era;
        final = λ one two era k. (final_all run).0 (part run Bullet.Eras 6 Sentence.Final e refl) one two k era;
      }),
  (λ h.
      both (reads run Sentence.Most) _ ((decides_most run.closed.clock run.config.last_era).1 h.most)
      (both (reads run Sentence.OnceMoved) _ ((decides_single moved_by run.logs).1 h.once)
      (both (reads run Sentence.Later) _ ((later_all run).1 (λ before group k era. h.later before group era k))
      (both (reads run Sentence.Seen) _ ((seen_all run).1 (λ before group k era. h.seen before group era k))
      (both (reads run Sentence.Rise) _ ((rise_all run).1 (λ one two k low high. h.rise one two low high k))
      (both (reads run Sentence.Spent) _ ((spent_all run).1 (λ before group k era. h.spent before group era k))
      (both (reads run Sentence.Final) _ ((final_all run).1 (λ one two k era. h.final one two era k)) refl))))))),
)

-- All bullets.

of_bullet : (run : Run) (bullet : Bullet) → 1 ≤ run.config.buckets → Decides (takes run bullet) (Holds run bullet)
of_bullet run Bullet.Answers some = answered run
of_bullet run Bullet.Versions some = versions run some
of_bullet run Bullet.Rises some = rises run
of_bullet run Bullet.Keeps some = keeps run
of_bullet run Bullet.Queue some = queue run
of_bullet run Bullet.Rows some = rows run
of_bullet run Bullet.Lists some = lists run
of_bullet run Bullet.Eras some = eras run

taken_by_all : (run : Run) (bullet : Bullet) (place : ℕ) → list_all (takes run) bullets ≡ true → slice_get bullets place ≡ Some bullet → takes run bullet ≡ true
taken_by_all run bullet place e at = get_read (takes run) bullets place bullet e at

-- the changes of a key's bucket are those that calls tell
told_at : (run : Run) (made : ℕ → List Change) → 1 ≤ run.config.buckets → law.VersionsLaw run.config run.logs run.closed made
    → (key : ℕ) → made_in run.config.buckets run.logs (bucket_of run.config.buckets key) ≡ made (bucket_of run.config.buckets key)
told_at run made some h key = made_is run.config run.logs run.closed made h (bucket_of run.config.buckets key) (key_below key run.config.buckets some)

of_law : (run : Run) → 1 ≤ run.config.buckets → Decides (list_all (takes run) bullets) (law.RunLaw run.config run.logs run.closed)
of_law run some = (
  (λ e.
      let by_versions = (versions run some).0 (taken_by_all run Bullet.Versions 1 e refl) in
      let by_queue = (queue run).0 (taken_by_all run Bullet.Queue 4 e refl) in
      record {
        made = by_versions.0;
        queued = by_queue.0;
        taken = by_queue.1;
        answered = (answered run).0 (taken_by_all run Bullet.Answers 0 e refl);
        versions = by_versions.1;
        rises = (rises run).0 (taken_by_all run Bullet.Rises 2 e refl);
        keeps =
            keeps_of run.config run.logs (made_in run.config.buckets run.logs) by_versions.0 (told_at run by_versions.0 some by_versions.1)
            ((keeps run).0 (taken_by_all run Bullet.Keeps 3 e refl));
        queue = by_queue.2;
        rows = (rows run).0 (taken_by_all run Bullet.Rows 5 e refl);
        lists = (lists run).0 (taken_by_all run Bullet.Lists 6 e refl);
        eras = (eras run).0 (taken_by_all run Bullet.Eras 7 e refl);
      }),
  (λ h.
      let made : ℕ → List Change = made_in run.config.buckets run.logs in
      let same : (key : ℕ) → h.made (bucket_of run.config.buckets key) ≡ made (bucket_of run.config.buckets key) =
      λ key. sym (told_at run h.made some h.versions key) in
      both (takes run Bullet.Answers) _ ((answered run).1 h.answered)
      (both (takes run Bullet.Versions) _ ((versions run some).1 (h.made, h.versions))
      (both (takes run Bullet.Rises) _ ((rises run).1 h.rises)
      (both (takes run Bullet.Keeps) _ ((keeps run).1 (keeps_of run.config run.logs h.made made same h.keeps))
      (both (takes run Bullet.Queue) _ ((queue run).1 (h.queued, h.taken, h.queue))
      (both (takes run Bullet.Rows) _ ((rows run).1 h.rows)
      (both (takes run Bullet.Lists) _ ((lists run).1 h.lists)
      (both (takes run Bullet.Eras) _ ((eras run).1 h.eras) refl)))))))),
)

pub readers_judge : ReadersJudge
readers_judge = record {
  bullet = of_bullet;
  whole = of_law;
  made = λ run made h b low. made_is run.config run.logs run.closed made h b low;
  queued = λ run queued taken h. queued_is run.config run.logs run.closed queued taken h;
  taken = λ run queued taken h. taken_is run.config run.logs run.closed queued taken h;
}
