-- A protection of the queue's tail or head, and what a row is to which it leads.
use Rattle.std.proofs.Common.{ℕ, ◌≤◌, ◌+◌, ◌-◌, ◌≡◌, Bool, true, false, arith, refl, ◌&&◌, ◌∙◌, sym, []}
use Rattle.std.proofs.lemmas.Bool.Decides.{nat_tests}
use Rattle.std.specs.Prelude.{◌==◌, ◌||◌, if◌then◌else◌, Option, Some, None}
use Rattle.wfe_core.specs.declared.ends.ProtectEnd.TheVariants as protect_ends
use Rattle.wfe_core.specs.declared.post.Post.{Post}
use Rattle.wfe_core.specs.Phases.{Base, Ending, Ending as endings, goes, Outcome, Goes, Ends, Aim, Alone, Follows, Tries, Endless, Failed, ProtectAt}
use Rattle.wfe_core.specs.Phases.Ending.{Done, Protected, Followed, Allocated, Clocked}
use Rattle.wfe_core.specs.Calls.{Task, Gets, Changes, Holds, Enqueues, Dequeues, Opens, FollowsHead, Fills, ClearsNext, Clears, Finishes, GivesUp, Retires, Tidies, Advances, Releases, Phase, Idle, Runs, Scans, Works}
use Rattle.wfe_core.specs.words.Place.{Place}
use Rattle.wfe_core.specs.words.Place.Place.{Clock}
use Rattle.wfe_core.specs.Memory as memory
use Rattle.wfe_core.specs.Memory.{place_in, bump}
use Rattle.wfe_core.specs.Phases.Base.{Begin, Protect, Reload, Clear, Finish, Release, Allocate, Write, GiveUp, Retire, Move}
use Rattle.wfe_core.specs.Machine as machine
use Rattle.wfe_core.specs.Machine.{base_move}
use Rattle.wfe_core.specs.words.declared.config.Config.{Config}
use Rattle.wfe_core.specs.words.declared.packed.Request.{Request}
use Rattle.wfe_core.specs.words.declared.packed.Request.TheVariants as requests
use Rattle.wfe_core.specs.words.Packed.{read_request}
use Rattle.wfe_core.specs.defs.declared.event.Root.{Root}
use Rattle.wfe_core.specs.Phases.BeginAt.{LoadLower, PublishSpan}
use Rattle.wfe_core.specs.Phases.ProtectAt.{LoadClock, PublishEra, LoadLink, CheckClock, PublishRequest, LoadOwnClock, PublishHelper, LoadOwnLink, CheckOwnClock, AnswerOwn, LoadAnswer, TakeAnswer, WithdrawRequest, WithdrawHelper, LoadWithin, CheckUpper, RaiseUpper, ByHazard}
use Rattle.wfe_core.specs.Phases.HazardAt.{FirstLink, PublishLink, CheckLink}
use Rattle.wfe_core.specs.Protect as protects
use Rattle.wfe_core.specs.SlowPath as slow
use Rattle.wfe_core.specs.Posts.{counted, upper}
use Rattle.wfe_core.specs.Links.{link_place}
use Rattle.inv_rows.specs.Queue.{Line}
use Rattle.inv_rows.specs.Follow.{at_asks}
use Rattle.inv_rows.specs.Tries.{at_tries, base_tries, at_era, base_era, is_tail, is_head, FromTail, FromHead, TriesBase, PhaseTries}
use Rattle.inv_rows.proofs.Quiet.{is_quiet, starts_by, at_starts}
use Rattle.wfe_core.proofs.Facts.{false_is_true, first_of, rest_of, is_one_more, no_truth}

-- where a machine has ended with a row
abbrev pub EndTries : (ℕ → Type 0) → Ending → Type 0
EndTries P Done = Unit {0}
EndTries P (Protected (protect_ends.Held slot era)) = P slot
EndTries P (Protected protect_ends.Null) = Unit {0}
EndTries P (Followed end) = Unit {0}
EndTries P (Allocated end) = Unit {0}
EndTries P (endings.Retired life) = Unit {0}
EndTries P (Clocked clock) = Unit {0}

abbrev pub TryOut : (Root → Bool) → ℕ → ℕ → (ℕ → Type 0) → Outcome → Type 0
TryOut wanted clock upto P (Goes base) = TriesBase wanted clock upto base P
TryOut wanted clock upto P (Ends ending) = EndTries P ending

goes_try : (wanted : Root → Bool) (clock upto index : ℕ) (root : Root) (n : ℕ) (at : ProtectAt) (P : ℕ → Type 0) → wanted root ≡ true → ((s : ℕ) → at_tries clock upto at s ≡ true → P s) → TriesBase wanted clock upto (Protect Alone index root n at) P
goes_try wanted clock upto index root n at P r f = record { right = r; tried = f }

held_end : (P : ℕ → Type 0) (link era : ℕ) (null : Bool) → (link == 0) ≡ null → ((s : ℕ) → link ≡ s + 1 → P s) → EndTries P (Protected (if null then protect_ends.Null else protect_ends.Held (link - 1) era))
held_end P link era true e f = tt
held_end P link era false e f = f (link - 1) (link_back link e)
  where
    link_back : (link : ℕ) → (link == 0) ≡ false → link ≡ link - 1 + 1
    link_back link e = grind (arith, nat_tests)

trying_none : (config : Config) (era : ℕ) (tries : Tries) (clock upto s : ℕ) → at_tries clock upto (protects.trying config era tries) s ≡ false
trying_none config era Endless clock upto s = refl
trying_none config era (Failed count) clock upto s = grind (arith, nat_tests)

lost_none : (first : ℕ) (last : Bool) (found clock upto s : ℕ) → at_tries clock upto (slow.lost_turn first last found) s ≡ false
lost_none first true found clock upto s = refl
lost_none first false found clock upto s = refl

answer_tries : (P : ℕ → Type 0) (request : Option Request) (clock upto s : ℕ) → ((link era : ℕ) → request ≡ Some (requests.Answered link era) → (x : ℕ) → link ≡ x + 1 → P x) → at_tries clock upto (slow.answer_in request) s ≡ true → P s
answer_tries P None clock upto s f e = absurd (grind (arith, nat_tests))
answer_tries P (Some requests.Idle) clock upto s f e = absurd (grind (arith, nat_tests))
answer_tries P (Some (requests.Pending tag index word)) clock upto s f e = absurd (grind (arith, nat_tests))
answer_tries P (Some (requests.Answered link era)) clock upto s f e = f link era refl s (grind (arith, nat_tests))

link_at : (link s clock era : ℕ) → link ≡ s + 1 → (clock == era) ≡ true → (link == s + 1 && clock == era) ≡ true
link_at link s clock era e o = grind (arith, nat_tests, e, o)

link_of : (link s clock era : ℕ) → (link == s + 1 && clock == era) ≡ true → link ≡ s + 1
link_of link s clock era e = grind (arith, nat_tests)

one_link : (link s : ℕ) → (link == s + 1) ≡ true → link ≡ s + 1
one_link link s e = grind (arith, nat_tests)

checked : (wanted : Root → Bool) (clock upto index : ℕ) (root : Root) (n era link : ℕ) (more : ProtectAt) (post : Post) (P : ℕ → Type 0) (same : Bool) → wanted root ≡ true → (same ≡ true → (s : ℕ) → link ≡ s + 1 → P s) → ((s : ℕ) → at_tries clock upto more s ≡ false) → TryOut wanted clock upto P (if same then protects.protected Alone index root n link era post else goes post [] (Protect Alone index root n more)).outcome
checked wanted clock upto index root n era link more post P true r f g = held_end P link era (link == 0) refl (f refl)
checked wanted clock upto index root n era link more post P false r f g = goes_try wanted clock upto index root n more P r (λ s u. absurd (no_truth (false_is_true (at_tries clock upto more s) (g s) u)))

turned : (wanted : Root → Bool) (clock upto index : ℕ) (root : Root) (n : ℕ) (won lost : ProtectAt) (post : Post) (P : ℕ → Type 0) (same : Bool) → wanted root ≡ true → (same ≡ true → (s : ℕ) → at_tries clock upto won s ≡ true → P s) → (same ≡ false → (s : ℕ) → at_tries clock upto lost s ≡ true → P s) → TryOut wanted clock upto P (if same then goes post [] (Protect Alone index root n won) else goes post [] (Protect Alone index root n lost)).outcome
turned wanted clock upto index root n won lost post P true r f g = goes_try wanted clock upto index root n won P r (f refl)
turned wanted clock upto index root n won lost post P false r f g = goes_try wanted clock upto index root n lost P r (g refl)

abbrev pub at_reads : ProtectAt → Bool
at_reads (LoadClock tries) = false
at_reads (PublishEra era tries) = false
at_reads (LoadLink era tries) = true
at_reads (CheckClock era tries link) = false
at_reads PublishRequest = false
at_reads LoadOwnClock = false
at_reads (PublishHelper first era last) = false
at_reads (LoadOwnLink first era last) = true
at_reads (CheckOwnClock first era last link) = false
at_reads (AnswerOwn first era link) = false
at_reads (LoadAnswer first) = false
at_reads (TakeAnswer link era) = false
at_reads (WithdrawRequest link era) = false
at_reads (WithdrawHelper link era) = false
at_reads LoadWithin = true
at_reads (CheckUpper link) = false
at_reads (RaiseUpper era) = false
at_reads (ByHazard FirstLink) = true
at_reads (ByHazard (PublishLink link)) = false
at_reads (ByHazard (CheckLink link)) = true

abbrev pub at_checks : ProtectAt → Bool
at_checks (LoadClock tries) = false
at_checks (PublishEra era tries) = false
at_checks (LoadLink era tries) = false
at_checks (CheckClock era tries link) = true
at_checks PublishRequest = false
at_checks LoadOwnClock = false
at_checks (PublishHelper first era last) = false
at_checks (LoadOwnLink first era last) = false
at_checks (CheckOwnClock first era last link) = true
at_checks (AnswerOwn first era link) = false
at_checks (LoadAnswer first) = false
at_checks (TakeAnswer link era) = false
at_checks (WithdrawRequest link era) = false
at_checks (WithdrawHelper link era) = false
at_checks LoadWithin = false
at_checks (CheckUpper link) = true
at_checks (RaiseUpper era) = false
at_checks (ByHazard at) = false

clock_same : (found clock era : ℕ) → found ≡ clock → (found == era) ≡ true → (clock == era) ≡ true
clock_same found clock era e o = grind (arith, nat_tests, e, o)

pub protect_tries : (wanted : Root → Bool) (clock upto index : ℕ) (root : Root) (n : ℕ) (at : ProtectAt) (post : Post) (found : ℕ) (P : ℕ → Type 0) → wanted root ≡ true → ((s : ℕ) → at_tries clock (upper post.span) at s ≡ true → P s) → (at_reads at ≡ true → (s : ℕ) → found ≡ s + 1 → P s) → (at_checks at ≡ true → found ≡ clock)
    → ((link era : ℕ) → at_asks at ≡ true → read_request found ≡ Some (requests.Answered link era) → (s : ℕ) → link ≡ s + 1 → P s) → TryOut wanted clock upto P (machine.protect_turn Alone index root n at post found).outcome
protect_tries wanted clock upto index root n (LoadClock tries) post found P r f d c a = goes_try wanted clock upto index root n (PublishEra found tries) P r (λ s u. absurd (no_truth u))
protect_tries wanted clock upto index root n (PublishEra era tries) post found P r f d c a = goes_try wanted clock upto index root n (protects.trying post.layout.config era tries) P r (λ s u. absurd (no_truth (false_is_true (at_tries clock upto (protects.trying post.layout.config era tries) s) (trying_none post.layout.config era tries clock upto s) u)))
protect_tries wanted clock upto index root n (LoadLink era tries) post found P r f d c a = goes_try wanted clock upto index root n (CheckClock era tries found) P r (λ s u. d refl s (link_of found s clock era u))
protect_tries wanted clock upto index root n (CheckClock era tries link) post found P r f d c a = checked wanted clock upto index root n era link (PublishEra found (protects.failed_once tries)) post P (found == era) r (λ o s e. f s (link_at link s clock era e (clock_same found clock era (c refl) o))) (λ s. refl)
protect_tries wanted clock upto index root n PublishRequest post found P r f d c a = goes_try wanted clock upto index root n LoadOwnClock P r (λ s u. absurd (no_truth u))
protect_tries wanted clock upto index root n LoadOwnClock post found P r f d c a = goes_try wanted clock upto index root n (PublishHelper found found false) P r (λ s u. absurd (no_truth u))
protect_tries wanted clock upto index root n (PublishHelper first era last) post found P r f d c a = goes_try wanted clock upto index root n (LoadOwnLink first era last) P r (λ s u. absurd (no_truth u))
protect_tries wanted clock upto index root n (LoadOwnLink first era last) post found P r f d c a = goes_try wanted clock upto index root n (CheckOwnClock first era last found) P r (λ s u. d refl s (link_of found s clock era u))
protect_tries wanted clock upto index root n (CheckOwnClock first era last link) post found P r f d c a = turned wanted clock upto index root n (AnswerOwn first era link) (slow.lost_turn first last found) post P (found == era) r (λ o s u. f s (link_at link s clock era (one_link link s u) (clock_same found clock era (c refl) o))) (λ o s u. absurd (no_truth (false_is_true (at_tries clock upto (slow.lost_turn first last found) s) (lost_none first last found clock upto s) u)))
protect_tries wanted clock upto index root n (AnswerOwn first era link) post found P r f d c a = turned wanted clock upto index root n (TakeAnswer link era) (slow.answer_in (read_request found)) post P (found == slow.own_request post index root) r (λ o s u. f s u) (λ o s u. answer_tries P (read_request found) clock upto s (λ l e x y z. a l e refl x y z) u)
protect_tries wanted clock upto index root n (LoadAnswer first) post found P r f d c a = goes_try wanted clock upto index root n (slow.answer_in (read_request found)) P r (λ s u. answer_tries P (read_request found) clock upto s (λ l e x y z. a l e refl x y z) u)
protect_tries wanted clock upto index root n (TakeAnswer link era) post found P r f d c a = goes_try wanted clock upto index root n (WithdrawRequest link era) P r f
protect_tries wanted clock upto index root n (WithdrawRequest link era) post found P r f d c a = goes_try wanted clock upto index root n (WithdrawHelper link era) P r f
protect_tries wanted clock upto index root n (WithdrawHelper link era) post found P r f d c a = held_end P link era (link == 0) refl (λ s e. f s (is_one_more link s e))
protect_tries wanted clock upto index root n LoadWithin post found P r f d c a = goes_try wanted clock upto index root n (CheckUpper found) P r (λ s u. d refl s (link_of found s clock upto u))
protect_tries wanted clock upto index root n (CheckUpper link) post found P r f d c a = checked wanted clock upto index root n found link (RaiseUpper found) post P (found == upper post.span) r (λ o s e. f s (link_at link s clock (upper post.span) e (clock_same found clock (upper post.span) (c refl) o))) (λ s. refl)
protect_tries wanted clock upto index root n (RaiseUpper era) post found P r f d c a = goes_try wanted clock upto index root n LoadWithin P r (λ s u. absurd (no_truth u))
protect_tries wanted clock upto index root n (ByHazard FirstLink) post found P r f d c a = checked wanted clock upto index root n 0 found (ByHazard (PublishLink found)) post P (found == 0) r (λ o s e. d refl s e) (λ s. refl)
protect_tries wanted clock upto index root n (ByHazard (PublishLink link)) post found P r f d c a = goes_try wanted clock upto index root n (ByHazard (CheckLink link)) P r (λ s u. absurd (no_truth u))
protect_tries wanted clock upto index root n (ByHazard (CheckLink link)) post found P r f d c a = checked wanted clock upto index root n 0 found (ByHazard (PublishLink found)) post P (found == link || found == 0) r (λ o s e. d refl s e) (λ s. refl)

-- what it finds
abbrev finds_at : (Place → ℕ) → ℕ → Root → ProtectAt → Post → ℕ
finds_at mem index root at post = memory.found (machine.protect_move index root at post) (mem (place_in (machine.protect_move index root at post)))

found_reads : (mem : Place → ℕ) (index : ℕ) (root : Root) (at : ProtectAt) (post : Post) → at_reads at ≡ true → finds_at mem index root at post ≡ mem (link_place root)
found_reads mem index root (LoadClock tries) post u = absurd (no_truth u)
found_reads mem index root (PublishEra era tries) post u = absurd (no_truth u)
found_reads mem index root (LoadLink era tries) post u = refl
found_reads mem index root (CheckClock era tries link) post u = absurd (no_truth u)
found_reads mem index root PublishRequest post u = absurd (no_truth u)
found_reads mem index root LoadOwnClock post u = absurd (no_truth u)
found_reads mem index root (PublishHelper first era last) post u = absurd (no_truth u)
found_reads mem index root (LoadOwnLink first era last) post u = refl
found_reads mem index root (CheckOwnClock first era last link) post u = absurd (no_truth u)
found_reads mem index root (AnswerOwn first era link) post u = absurd (no_truth u)
found_reads mem index root (LoadAnswer first) post u = absurd (no_truth u)
found_reads mem index root (TakeAnswer link era) post u = absurd (no_truth u)
found_reads mem index root (WithdrawRequest link era) post u = absurd (no_truth u)
found_reads mem index root (WithdrawHelper link era) post u = absurd (no_truth u)
found_reads mem index root LoadWithin post u = refl
found_reads mem index root (CheckUpper link) post u = absurd (no_truth u)
found_reads mem index root (RaiseUpper era) post u = absurd (no_truth u)
found_reads mem index root (ByHazard FirstLink) post u = refl
found_reads mem index root (ByHazard (PublishLink link)) post u = absurd (no_truth u)
found_reads mem index root (ByHazard (CheckLink link)) post u = refl

found_checks : (mem : Place → ℕ) (index : ℕ) (root : Root) (at : ProtectAt) (post : Post) → at_checks at ≡ true → finds_at mem index root at post ≡ mem Clock
found_checks mem index root (LoadClock tries) post u = absurd (no_truth u)
found_checks mem index root (PublishEra era tries) post u = absurd (no_truth u)
found_checks mem index root (LoadLink era tries) post u = absurd (no_truth u)
found_checks mem index root (CheckClock era tries link) post u = refl
found_checks mem index root PublishRequest post u = absurd (no_truth u)
found_checks mem index root LoadOwnClock post u = absurd (no_truth u)
found_checks mem index root (PublishHelper first era last) post u = absurd (no_truth u)
found_checks mem index root (LoadOwnLink first era last) post u = absurd (no_truth u)
found_checks mem index root (CheckOwnClock first era last link) post u = refl
found_checks mem index root (AnswerOwn first era link) post u = absurd (no_truth u)
found_checks mem index root (LoadAnswer first) post u = absurd (no_truth u)
found_checks mem index root (TakeAnswer link era) post u = absurd (no_truth u)
found_checks mem index root (WithdrawRequest link era) post u = absurd (no_truth u)
found_checks mem index root (WithdrawHelper link era) post u = absurd (no_truth u)
found_checks mem index root LoadWithin post u = absurd (no_truth u)
found_checks mem index root (CheckUpper link) post u = refl
found_checks mem index root (RaiseUpper era) post u = absurd (no_truth u)
found_checks mem index root (ByHazard at) post u = absurd (no_truth u)

abbrev pub finds_base : (Place → ℕ) → Base → Post → ℕ
finds_base mem base post = memory.found (base_move base post) (mem (place_in (base_move base post)))

-- an answer leads to a row of which this holds
abbrev pub AsksFit : Base → ℕ → (ℕ → Type 0) → Type 0
AsksFit base found P = (aim : Aim) (index : ℕ) (root : Root) (steps : ℕ) (at : ProtectAt) (link era : ℕ) → base ≡ Protect aim index root steps at → at_asks at ≡ true → read_request found ≡ Some (requests.Answered link era) → (s : ℕ) → link ≡ s + 1 → P s

pub base_out : (wanted : Root → Bool) (mem : Place → ℕ) (upto : ℕ) (base : Base) (post : Post) (P : ℕ → Type 0) → TriesBase wanted (mem Clock) (upper post.span) base P → ((root : Root) → wanted root ≡ true → (s : ℕ) → mem (link_place root) ≡ s + 1 → P s) → AsksFit base (finds_base mem base post) P → TryOut wanted (mem Clock) upto P (machine.after base (counted post) (finds_base mem base post)).outcome
base_out wanted mem upto (Begin LoadLower) post P t d a = record { right = refl; tried = λ s u. absurd (no_truth u) }
base_out wanted mem upto (Begin (PublishSpan era)) post P t d a = tt
base_out wanted mem upto (Protect Alone index root steps at) post P t d a =
    protect_tries wanted (mem Clock) upto index root (bump steps) at (counted post) (finds_at mem index root at post) P t.right t.tried (λ u s e. d root t.right s (sym (found_reads mem index root at post u) ∙ e)) (λ u. found_checks mem index root at post u) (λ link era u r s e. a Alone index root steps at link era refl u r s e)
base_out wanted mem upto (Protect Follows index root steps at) post P t d a = absurd (no_truth t.right)
base_out wanted mem upto (Reload parent index slot era steps) post P t d a = absurd (no_truth t.right)
base_out wanted mem upto (Clear rows index) post P t d a = absurd (no_truth t.right)
base_out wanted mem upto Finish post P t d a = absurd (no_truth t.right)
base_out wanted mem upto (Release index) post P t d a = absurd (no_truth t.right)
base_out wanted mem upto (Allocate at) post P t d a = absurd (no_truth t.right)
base_out wanted mem upto (Write slot row place) post P t d a = absurd (no_truth t.right)
base_out wanted mem upto (GiveUp slot) post P t d a = absurd (no_truth t.right)
base_out wanted mem upto (Retire at) post P t d a = absurd (no_truth t.right)
base_out wanted mem upto (Move at) post P t d a = absurd (no_truth t.right)

-- a phase to which a call comes otherwise
start_none : (at : ProtectAt) (clock upto s : ℕ) → at_starts at ≡ true → at_tries clock upto at s ≡ false
start_none (LoadClock tries) clock upto s e = refl
start_none (PublishEra era tries) clock upto s e = absurd (no_truth e)
start_none (LoadLink era tries) clock upto s e = absurd (no_truth e)
start_none (CheckClock era tries link) clock upto s e = absurd (no_truth e)
start_none PublishRequest clock upto s e = absurd (no_truth e)
start_none LoadOwnClock clock upto s e = absurd (no_truth e)
start_none (PublishHelper first era last) clock upto s e = absurd (no_truth e)
start_none (LoadOwnLink first era last) clock upto s e = absurd (no_truth e)
start_none (CheckOwnClock first era last link) clock upto s e = absurd (no_truth e)
start_none (AnswerOwn first era link) clock upto s e = absurd (no_truth e)
start_none (LoadAnswer first) clock upto s e = absurd (no_truth e)
start_none (TakeAnswer link era) clock upto s e = absurd (no_truth e)
start_none (WithdrawRequest link era) clock upto s e = absurd (no_truth e)
start_none (WithdrawHelper link era) clock upto s e = absurd (no_truth e)
start_none LoadWithin clock upto s e = refl
start_none (CheckUpper link) clock upto s e = absurd (no_truth e)
start_none (RaiseUpper era) clock upto s e = absurd (no_truth e)
start_none (ByHazard at) clock upto s e = refl

start_tries : (wanted : Root → Bool) (clock upto : ℕ) (base : Base) (P : ℕ → Type 0) → starts_by wanted base ≡ true → TriesBase wanted clock upto base P
start_tries wanted clock upto (Begin at) P h = record { right = refl; tried = λ s u. absurd (no_truth u) }
start_tries wanted clock upto (Protect Alone index root steps at) P h = record { right = first_of (wanted root) (at_starts at) h; tried = λ s u. absurd (no_truth (false_is_true (at_tries clock upto at s) (start_none at clock upto s (rest_of (wanted root) (at_starts at) h)) u)) }
start_tries wanted clock upto (Protect Follows index root steps at) P h = absurd (no_truth h)
start_tries wanted clock upto (Reload parent index slot era steps) P h = absurd (no_truth h)
start_tries wanted clock upto (Clear rows index) P h = absurd (no_truth h)
start_tries wanted clock upto Finish P h = absurd (no_truth h)
start_tries wanted clock upto (Release index) P h = absurd (no_truth h)
start_tries wanted clock upto (Allocate at) P h = absurd (no_truth h)
start_tries wanted clock upto (Write slot row place) P h = absurd (no_truth h)
start_tries wanted clock upto (GiveUp slot) P h = absurd (no_truth h)
start_tries wanted clock upto (Retire at) P h = absurd (no_truth h)
start_tries wanted clock upto (Move at) P h = absurd (no_truth h)

pub quiet_tries : (phase : Phase) (clock upto : ℕ) (q : ℕ → Bool) (l : Line) (head : ℕ) → is_quiet phase ≡ true → PhaseTries phase clock upto q l head
quiet_tries Idle clock upto q l head h = tt
quiet_tries (Scans later at) clock upto q l head h = tt
quiet_tries (Works work) clock upto q l head h = tt
quiet_tries (Runs (Opens (Gets key)) base) clock upto q l head h = tt
quiet_tries (Runs (Opens (Changes kept)) base) clock upto q l head h = tt
quiet_tries (Runs (Opens (Holds key)) base) clock upto q l head h = tt
quiet_tries (Runs (Opens (Enqueues kept)) base) clock upto q l head h = start_tries is_tail clock upto base (λ s. FromTail q l head s) h
quiet_tries (Runs (Opens Dequeues) base) clock upto q l head h = start_tries is_head clock upto base (λ s. FromHead q l head s) h
quiet_tries (Runs (FollowsHead parent last) base) clock upto q l head h = tt
quiet_tries (Runs (Fills task) base) clock upto q l head h = tt
quiet_tries (Runs (ClearsNext after) base) clock upto q l head h = tt
quiet_tries (Runs (Clears task after) base) clock upto q l head h = tt
quiet_tries (Runs (Finishes task after) base) clock upto q l head h = tt
quiet_tries (Runs (GivesUp answer) base) clock upto q l head h = tt
quiet_tries (Runs (Retires answer) base) clock upto q l head h = tt
quiet_tries (Runs (Tidies later) base) clock upto q l head h = tt
quiet_tries (Runs Advances base) clock upto q l head h = tt
quiet_tries (Runs (Releases let_go) base) clock upto q l head h = tt

-- the clock only rises, so a try whose era is the clock was one before
at_back : (at : ProtectAt) (clock now upto s : ℕ) → at_era upto at ≤ clock → clock ≤ now → at_tries now upto at s ≡ true → at_tries clock upto at s ≡ true
at_back (LoadClock tries) clock now upto s e f h = h
at_back (PublishEra era tries) clock now upto s e f h = h
at_back (LoadLink era tries) clock now upto s e f h = h
at_back (CheckClock era tries link) clock now upto s e f h = grind (arith, nat_tests)
at_back PublishRequest clock now upto s e f h = h
at_back LoadOwnClock clock now upto s e f h = h
at_back (PublishHelper first era last) clock now upto s e f h = h
at_back (LoadOwnLink first era last) clock now upto s e f h = h
at_back (CheckOwnClock first era last link) clock now upto s e f h = grind (arith, nat_tests)
at_back (AnswerOwn first era link) clock now upto s e f h = h
at_back (LoadAnswer first) clock now upto s e f h = h
at_back (TakeAnswer link era) clock now upto s e f h = h
at_back (WithdrawRequest link era) clock now upto s e f h = h
at_back (WithdrawHelper link era) clock now upto s e f h = h
at_back LoadWithin clock now upto s e f h = h
at_back (CheckUpper link) clock now upto s e f h = grind (arith, nat_tests)
at_back (RaiseUpper era) clock now upto s e f h = h
at_back (ByHazard at) clock now upto s e f h = h

base_back : (base : Base) (clock now upto s : ℕ) → base_era upto base ≤ clock → clock ≤ now → base_tries now upto base s ≡ true → base_tries clock upto base s ≡ true
base_back (Protect aim index root steps at) clock now upto s e f h = at_back at clock now upto s e f h
base_back base clock now upto s e f h = h

-- what a step keeps of such a row
pub record Keeps (q q2 : ℕ → Bool) (l l2 : Line) (head h2 s : ℕ) : Type 0 where
  pub lined : l2.lined s ≡ true
  pub first : (q s ≡ true → head ≡ s + 1) → q2 s ≡ true → h2 ≡ s + 1

abbrev pub EraFits : Phase → ℕ → ℕ → Type 0
EraFits Idle clock upto = Unit {0}
EraFits (Runs why base) clock upto = base_era upto base ≤ clock
EraFits (Scans later at) clock upto = Unit {0}
EraFits (Works work) clock upto = Unit {0}

pub others_tries : (phase : Phase) (clock now upto : ℕ) (q q2 : ℕ → Bool) (l l2 : Line) (head h2 : ℕ) → EraFits phase clock upto → clock ≤ now → ((task : Task) (base : Base) (s : ℕ) → phase ≡ Runs (Opens task) base → base_tries clock upto base s ≡ true → l.lined s ≡ true → Keeps q q2 l l2 head h2 s) → PhaseTries phase clock upto q l head → PhaseTries phase now upto q2 l2 h2
others_tries Idle clock now upto q q2 l l2 head h2 e f k t = tt
others_tries (Scans later at) clock now upto q q2 l l2 head h2 e f k t = tt
others_tries (Works work) clock now upto q q2 l l2 head h2 e f k t = tt
others_tries (Runs (Opens (Enqueues kept)) base) clock now upto q q2 l l2 head h2 e f k t =
    record { right = t.right; tried = λ s u. let b : base_tries clock upto base s ≡ true = base_back base clock now upto s e f u in let stay : Keeps q q2 l l2 head h2 s = k (Enqueues kept) base s refl b (t.tried s b) in stay.lined }
others_tries (Runs (Opens Dequeues) base) clock now upto q q2 l l2 head h2 e f k t =
    record { right = t.right; tried = λ s u. let b : base_tries clock upto base s ≡ true = base_back base clock now upto s e f u in let old : FromHead q l head s = t.tried s b in let stay : Keeps q q2 l l2 head h2 s = k Dequeues base s refl b old.lined in record { lined = stay.lined; first = stay.first old.first } }
others_tries (Runs (Opens (Gets key)) base) clock now upto q q2 l l2 head h2 e f k t = tt
others_tries (Runs (Opens (Changes kept)) base) clock now upto q q2 l l2 head h2 e f k t = tt
others_tries (Runs (Opens (Holds key)) base) clock now upto q q2 l l2 head h2 e f k t = tt
others_tries (Runs (FollowsHead parent last) base) clock now upto q q2 l l2 head h2 e f k t = tt
others_tries (Runs (Fills task) base) clock now upto q q2 l l2 head h2 e f k t = tt
others_tries (Runs (ClearsNext after) base) clock now upto q q2 l l2 head h2 e f k t = tt
others_tries (Runs (Clears task after) base) clock now upto q q2 l l2 head h2 e f k t = tt
others_tries (Runs (Finishes task after) base) clock now upto q q2 l l2 head h2 e f k t = tt
others_tries (Runs (GivesUp answer) base) clock now upto q q2 l l2 head h2 e f k t = tt
others_tries (Runs (Retires answer) base) clock now upto q q2 l l2 head h2 e f k t = tt
others_tries (Runs (Tidies later) base) clock now upto q q2 l l2 head h2 e f k t = tt
others_tries (Runs Advances base) clock now upto q q2 l l2 head h2 e f k t = tt
others_tries (Runs (Releases let_go) base) clock now upto q q2 l l2 head h2 e f k t = tt
