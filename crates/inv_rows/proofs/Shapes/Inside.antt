-- Each step inside a machine keeps the static shape.
use Rattle.std.proofs.Common.{ℕ, zero, suc, ◌≡◌, ◌≤◌, ◌<◌, ◌+◌, Bool, true, false, ◌&&◌, List, Option, Some, None, refl, ap, sym, subst, ◌∙◌, arith}
use Rattle.std.proofs.lemmas.Bool.Decides.{nat_tests}
use Rattle.std.proofs.lemmas.List.{length-set}
use Rattle.std.specs.Prelude.{◌==◌, ◌||◌, nat_lt, nat_le, if◌then◌else◌}
use Rattle.wfe_core.specs.words.Place.{is_valid}
use Rattle.wfe_core.specs.words.Packed.{read_request, read_reservation, reservation_word}
use Rattle.wfe_core.specs.words.declared.config.SchemeKind.{SchemeKind}
use Rattle.wfe_core.specs.words.declared.config.Config.{Config}
use Rattle.wfe_core.specs.words.declared.layout.Layout.{Layout}
use Rattle.wfe_core.specs.words.declared.packed.Request.{Request}
use Rattle.wfe_core.specs.words.declared.packed.Request.TheVariants as requests
use Rattle.wfe_core.specs.defs.declared.event.Event.{Event}
use Rattle.wfe_core.specs.defs.declared.event.Root.{Root}
use Rattle.wfe_core.specs.defs.declared.lifetime.Interval.{Interval}
use Rattle.wfe_core.specs.declared.post.Post.{Post}
use Rattle.wfe_core.specs.Memory.{bump}
use Rattle.wfe_core.specs.Guards.{from_to}
use Rattle.wfe_core.specs.Links.{parent_of, root_at}
use Rattle.wfe_core.specs.Posts.{with_row, with_span, with_tag, tag_of, withdrawn, lower, upper}
use Rattle.wfe_core.proofs.Ranges.{bounds_of}
use Rattle.wfe_core.specs.Rounds.{scheme_of}
use Rattle.wfe_core.specs.Phases.{Aim, Follows, Tries, Endless, Failed, BeginAt, HazardAt, ProtectAt, Walk, AllocateAt, RetireAt, MoveAt, RowOf, Base}
use Rattle.wfe_core.specs.Phases.BeginAt.{LoadLower, PublishSpan}
use Rattle.wfe_core.specs.Phases.ProtectAt.{LoadClock, PublishEra, LoadLink, CheckClock, PublishRequest, LoadOwnClock, PublishHelper, LoadOwnLink, CheckOwnClock, AnswerOwn, LoadAnswer, TakeAnswer, WithdrawRequest, WithdrawHelper, LoadWithin, CheckUpper, RaiseUpper, ByHazard}
use Rattle.wfe_core.specs.Phases.HazardAt.{FirstLink, PublishLink, CheckLink}
use Rattle.wfe_core.specs.Phases.AllocateAt.{LoadBirth, ClaimSlot, StoreLife}
use Rattle.wfe_core.specs.Phases.RetireAt.{LoadLife, LoadRetire, StoreRetired}
use Rattle.wfe_core.specs.Phases.MoveAt.{LoadEra, LoadRequest, ShowEra, LoadAsked, CheckEra, AnswerAsked, LoadReserved, HandOver, HideEra, HideLate, ExchangeClock}
use Rattle.wfe_core.specs.Phases.Base.{Begin, Protect, Reload, Clear, Finish, Release, Allocate, Write, GiveUp, Retire, Move}
use Rattle.wfe_core.specs.Protect.{failed_once, trying, held_post, told_held, concluded}
use Rattle.wfe_core.specs.SlowPath.{own_request, answer_in, lost_turn, asking}
use Rattle.wfe_core.specs.Allocate.{is_claimed, next_slot, walk_from, walk_at, walk_on, walk_past, shown_word, shown_of, walking}
use Rattle.wfe_core.specs.WriteRow.{first_written, last_written, after_write}
use Rattle.wfe_core.specs.MoveClock.{after_hand_over, all_met, next_request, helping, met, moving}
use Rattle.wfe_core.specs.Machine.{after, begin_turn, hazard_turn, protect_turn, allocate_turn, retire_turn, move_turn}
use Rattle.wfe_core.specs.Calls.{LetGo, Released, Rehold, Dropped, Parting, Runs, Why, Opens, FollowsHead, Fills, Releases}
use Rattle.wfe_core.specs.words.Schemes.{has_one_interval, helps}
use Rattle.inv_rows.specs.Shapes.Frame.{SpanStands, Parts, Resumes, Moves}
use Rattle.inv_rows.specs.Shapes.Seats.{agree, Kind, ToOpen, ToFollow, ToFill, ToRelease, kind_of, begins, protects, fills, finishes, releases, gives_up, retires, moves, reloads, aim_by, Parted, tries_fit, try_fits, protect_fits, move_fits, Run, PhaseFits, PostFits}
use Rattle.inv_rows.proofs.Shapes.Growth.{no_span, bare_parts}
use Rattle.inv_rows.proofs.Shapes.Tries.{clear_plain}
use Rattle.inv_rows.proofs.Shapes.Machines.{moves_if, held_post_keeps, concluded_moves}

-- within a round an interval stands where a machine ends
pub resumes_from : (why : Why) (post : Post) → releases (kind_of why) ≡ false → SpanStands post → Resumes why post
resumes_from (Opens task) post n s = s
resumes_from (FollowsHead head tail) post n s = s
resumes_from (Fills task) post n s = s
resumes_from (Releases let_go) post n s = absurd (cc)
resumes_from why post n s = tt

pub protects_in : (k : Kind) → protects k ≡ true → releases k ≡ false
protects_in ToOpen h = refl
protects_in ToFollow h = refl
protects_in k h = absurd (cc)

pub begins_in : (k : Kind) → begins k ≡ true → releases k ≡ false
begins_in ToOpen h = refl
begins_in k h = absurd (cc)

pub fills_in : (k : Kind) → fills k ≡ true → releases k ≡ false
fills_in ToFill h = refl
fills_in k h = absurd (cc)

pub reloads_in : (k : Kind) → reloads k ≡ true → releases k ≡ false
reloads_in ToFollow h = refl
reloads_in k h = absurd (cc)

-- where each index publishes by itself nothing is asked
plain_parts : (let_go : LetGo) (post : Post) → has_one_interval (scheme_of post) ≡ false → Parts let_go post
plain_parts Released post e = tt
plain_parts (Rehold key) post e = tt
plain_parts (Dropped index) post e = tt
plain_parts (Parting index) post e = e

resumes_plain : (why : Why) (post : Post) → has_one_interval (scheme_of post) ≡ false → Resumes why post
resumes_plain (Opens task) post e = no_span post e
resumes_plain (FollowsHead head tail) post e = no_span post e
resumes_plain (Fills task) post e = no_span post e
resumes_plain (Releases let_go) post e = plain_parts let_go post e
resumes_plain why post e = tt

-- a seat that leaves lets no interval go with one row
resumes_bare : (scheme : SchemeKind) (why : Why) (index : ℕ) (post : Post) → releases (kind_of why) ≡ true → Parted scheme (Release index) why → Resumes why post
resumes_bare scheme (Releases let_go) index post r e = bare_parts let_go post e
resumes_bare scheme why index post r e = absurd (cc)

-- for what something is asked where it ends
abbrev pub asks : Kind → Bool
asks ToOpen = true
asks ToFollow = true
asks ToFill = true
asks ToRelease = true
asks _ = false

pub resumes_out : (why : Why) (post : Post) → asks (kind_of why) ≡ false → Resumes why post
resumes_out (Opens task) post h = absurd (cc)
resumes_out (FollowsHead head tail) post h = absurd (cc)
resumes_out (Fills task) post h = absurd (cc)
resumes_out (Releases let_go) post h = absurd (cc)
resumes_out why post h = tt

pub finishes_out : (k : Kind) → finishes k ≡ true → asks k ≡ false
finishes_out ToOpen h = cc
finishes_out k h = cc

pub gives_up_out : (k : Kind) → gives_up k ≡ true → asks k ≡ false
gives_up_out ToOpen h = cc
gives_up_out k h = cc

pub retires_out : (k : Kind) → retires k ≡ true → asks k ≡ false
retires_out ToOpen h = cc
retires_out k h = cc

pub moves_out : (k : Kind) → moves k ≡ true → asks k ≡ false
moves_out ToOpen h = cc
moves_out k h = cc

follows_reloads : (why : Why) → aim_by why ≡ Follows → reloads (kind_of why) ≡ true
follows_reloads (Opens task) e = absurd (cc)
follows_reloads (FollowsHead head tail) e = refl
follows_reloads why e = absurd (cc)

failed_fits : (s : SchemeKind) (most : ℕ) (tries : Tries) → try_fits s most tries ≡ true → tries_fit s most (failed_once tries) ≡ true
failed_fits s most Endless h = h
failed_fits s most (Failed count) h = grind (arith, nat_tests)

trying_fits : (config : Config) (era : ℕ) (tries : Tries) → tries_fit config.scheme config.tries tries ≡ true → protect_fits config.scheme config.tries (trying config era tries) ≡ true
trying_fits config era Endless h = h
trying_fits config era (Failed count) h = by (nat_le config.tries count) refl
  where
    by : (b : Bool) → nat_le config.tries count ≡ b → protect_fits config.scheme config.tries (if b then PublishRequest else LoadLink era (Failed count)) ≡ true
    by true e = grind (arith, nat_tests)
    by false e = grind (arith, nat_tests)

answer_fits : (s : SchemeKind) (most : ℕ) (x : Option Request) → helps s ≡ true → protect_fits s most (answer_in x) ≡ true
answer_fits s most None h = h
answer_fits s most (Some requests.Idle) h = h
answer_fits s most (Some (requests.Pending tag index word)) h = h
answer_fits s most (Some (requests.Answered link era)) h = h

lost_fits : (s : SchemeKind) (most first found : ℕ) (last : Bool) → helps s ≡ true → protect_fits s most (lost_turn first last found) ≡ true
lost_fits s most first found true h = h
lost_fits s most first found false h = h

-- a post with the same tags' and rows' counts
pub row_fits : (layout : Layout) (k : ℕ) (post : Post) (index slot : ℕ) → PostFits layout k post → PostFits layout k (with_row post index slot)
row_fits layout k post index slot q = record { seat = q.seat; layout = q.layout; cursor = q.cursor; tags = q.tags; standing = length-set post.standing index (Some slot) ∙ q.standing }

pub held_fits : (layout : Layout) (k : ℕ) (post : Post) (index : ℕ) (root : Root) (link : ℕ) → PostFits layout k post → PostFits layout k (held_post post index root link)
held_fits layout k post index root link q = held_post_keeps (PostFits layout k) post index root link q (λ slot. row_fits layout k post index slot q)

held_span : (post : Post) (index : ℕ) (root : Root) (link : ℕ) → SpanStands post → SpanStands (held_post post index root link)
held_span post index root link s = held_post_keeps SpanStands post index root link s (λ slot. s)

pub tag_fits : (layout : Layout) (k : ℕ) (post : Post) (index tag : ℕ) → PostFits layout k post → PostFits layout k (with_tag post index tag)
tag_fits layout k post index tag q = record { seat = q.seat; layout = q.layout; cursor = q.cursor; tags = length-set post.tags index tag ∙ q.tags; standing = q.standing }

-- the protection goes on
on : {layout : Layout} {why : Why} {aim : Aim} {index : ℕ} {root : Root} {n : ℕ} {at : ProtectAt} {post : Post} → Run layout why (Protect aim index root n at) post
    → (m : ℕ) (next : ProtectAt) (left : Post) → protect_fits layout.config.scheme layout.config.tries next ≡ true → SpanStands left → Run layout why (Protect aim index root m next) left
on r m next left f s = record { suited = r.suited; fits = f; shape = r.shape; posted = s; parted = tt }

-- it is over
over : {layout : Layout} {why : Why} {aim : Aim} {index : ℕ} {root : Root} {n : ℕ} {at : ProtectAt} {post : Post} (k : ℕ) → Run layout why (Protect aim index root n at) post
    → (m link era : ℕ) (left : Post) (told : List Event) → PostFits layout k left → SpanStands left → Moves (PostFits layout k) (PhaseFits layout) why (concluded aim index root m link era left told)
over {layout = layout} {why = why} {aim = aim} {index = index} {root = root} k r m link era left told q s =
    concluded_moves why aim index root m link era left told q (resumes_from why left (protects_in (kind_of why) r.suited) s) (λ f e.
    record { suited = follows_reloads why (sym r.shape.aimed ∙ f); fits = refl; shape = record { at = r.shape.at; of = ap parent_of r.shape.of }; posted = s; parted = tt })

hazard_moves : (layout : Layout) (k : ℕ) (why : Why) (aim : Aim) (index : ℕ) (root : Root) (n m : ℕ) (from at : HazardAt) (post : Post) (found : ℕ) → PostFits layout k post
    → Run layout why (Protect aim index root n (ByHazard from)) post → Moves (PostFits layout k) (PhaseFits layout) why (hazard_turn aim index root m at post found)
hazard_moves layout k why aim index root n m from FirstLink post found q r =
    moves_if why (found == 0) _ _
    (λ e. over k r m found 0 (held_post post index root found) (told_held index root found m) (held_fits layout k post index root found q) (held_span post index root found r.posted))
    (λ e. record { post = q; phase = on r m (ByHazard (PublishLink found)) post r.fits r.posted })
hazard_moves layout k why aim index root n m from (PublishLink link) post found q r = record { post = q; phase = on r m (ByHazard (CheckLink link)) post r.fits r.posted }
hazard_moves layout k why aim index root n m from (CheckLink link) post found q r =
    moves_if why (found == link || found == 0) _ _
    (λ e. over k r m found 0 (held_post post index root found) (told_held index root found m) (held_fits layout k post index root found q) (held_span post index root found r.posted))
    (λ e. record { post = q; phase = on r m (ByHazard (PublishLink found)) post r.fits r.posted })

protect_moves : (layout : Layout) (k : ℕ) (why : Why) (aim : Aim) (index : ℕ) (root : Root) (n m : ℕ) (at : ProtectAt) (post : Post) (found : ℕ) → PostFits layout k post → post.layout ≡ layout
    → Run layout why (Protect aim index root n at) post → Moves (PostFits layout k) (PhaseFits layout) why (protect_turn aim index root m at post found)
protect_moves layout k why aim index root n m (LoadClock tries) post found q l r = record { post = q; phase = on r m (PublishEra found tries) post r.fits r.posted }
protect_moves layout k why aim index root n m (PublishEra era tries) post found q l r =
    record { post = q; phase = on r m (trying post.layout.config era tries) post (subst (λ (t : Layout). protect_fits layout.config.scheme layout.config.tries (trying t.config era tries) ≡ true) (sym l) (trying_fits layout.config era tries r.fits)) r.posted }
protect_moves layout k why aim index root n m (LoadLink era tries) post found q l r = record { post = q; phase = on r m (CheckClock era tries found) post r.fits r.posted }
protect_moves layout k why aim index root n m (CheckClock era tries link) post found q l r =
    moves_if why (found == era) _ _
    (λ e. over k r m link era (held_post post index root link) (told_held index root link m) (held_fits layout k post index root link q) (held_span post index root link r.posted))
    (λ e. record { post = q; phase = on r m (PublishEra found (failed_once tries)) post (failed_fits layout.config.scheme layout.config.tries tries r.fits) r.posted })
protect_moves layout k why aim index root n m PublishRequest post found q l r = record { post = q; phase = on r m LoadOwnClock post r.fits r.posted }
protect_moves layout k why aim index root n m LoadOwnClock post found q l r = record { post = q; phase = on r m (PublishHelper found found false) post r.fits r.posted }
protect_moves layout k why aim index root n m (PublishHelper first era last) post found q l r = record { post = q; phase = on r m (LoadOwnLink first era last) post r.fits r.posted }
protect_moves layout k why aim index root n m (LoadOwnLink first era last) post found q l r = record { post = q; phase = on r m (CheckOwnClock first era last found) post r.fits r.posted }
protect_moves layout k why aim index root n m (CheckOwnClock first era last link) post found q l r =
    moves_if why (found == era) _ _
    (λ e. record { post = q; phase = on r m (AnswerOwn first era link) post r.fits r.posted })
    (λ e. record { post = q; phase = on r m (lost_turn first last found) post (lost_fits layout.config.scheme layout.config.tries first found last r.fits) r.posted })
protect_moves layout k why aim index root n m (AnswerOwn first era link) post found q l r =
    moves_if why (found == own_request post index root) _ _
    (λ e. record { post = q; phase = on r m (TakeAnswer link era) post r.fits r.posted })
    (λ e. record { post = q; phase = on r m (answer_in (read_request found)) post (answer_fits layout.config.scheme layout.config.tries (read_request found) r.fits) r.posted })
protect_moves layout k why aim index root n m (LoadAnswer first) post found q l r =
    record { post = q; phase = on r m (answer_in (read_request found)) post (answer_fits layout.config.scheme layout.config.tries (read_request found) r.fits) r.posted }
protect_moves layout k why aim index root n m (TakeAnswer link era) post found q l r =
    let p = with_tag post index (tag_of post index + 1) in
    record { post = held_fits layout k p index root link (tag_fits layout k post index (tag_of post index + 1) q); phase = on r m (WithdrawRequest link era) (held_post p index root link) r.fits (held_span p index root link r.posted) }
protect_moves layout k why aim index root n m (WithdrawRequest link era) post found q l r = record { post = q; phase = on r m (WithdrawHelper link era) post r.fits r.posted }
protect_moves layout k why aim index root n m (WithdrawHelper link era) post found q l r = over k r m link era post _ q r.posted
protect_moves layout k why aim index root n m LoadWithin post found q l r = record { post = q; phase = on r m (CheckUpper found) post r.fits r.posted }
protect_moves layout k why aim index root n m (CheckUpper link) post found q l r =
    moves_if why (found == upper post.span) _ _
    (λ e. over k r m link found (held_post post index root link) (told_held index root link m) (held_fits layout k post index root link q) (held_span post index root link r.posted))
    (λ e. record { post = q; phase = on r m (RaiseUpper found) post r.fits r.posted })
protect_moves layout k why aim index root n m (RaiseUpper era) post found q l r =
    record { post = record { seat = q.seat; layout = q.layout; cursor = q.cursor; tags = q.tags; standing = q.standing }; phase = on r m LoadWithin (with_span post (from_to (lower post.span) era)) r.fits (λ e. refl) }
protect_moves layout k why aim index root n m (ByHazard at) post found q l r = hazard_moves layout k why aim index root n m at at post found q r

-- the same post with another interval
pub span_fits : (layout : Layout) (k : ℕ) (post : Post) (span : Option Interval) → PostFits layout k post → PostFits layout k (with_span post span)
span_fits layout k post span q = record { seat = q.seat; layout = q.layout; cursor = q.cursor; tags = q.tags; standing = q.standing }

pub withdrawn_fits : (layout : Layout) (k : ℕ) (post : Post) (index : ℕ) → PostFits layout k post → PostFits layout k (withdrawn post index)
withdrawn_fits layout k post index q = record { seat = q.seat; layout = q.layout; cursor = q.cursor; tags = q.tags; standing = length-set post.standing index None ∙ q.standing }

begin_moves : (layout : Layout) (k : ℕ) (why : Why) (at : BeginAt) (post : Post) (found : ℕ) → PostFits layout k post → Run layout why (Begin at) post
    → Moves (PostFits layout k) (PhaseFits layout) why (begin_turn at post found)
begin_moves layout k why LoadLower post found q r = record { post = q; phase = record { suited = r.suited; fits = r.fits; shape = tt; posted = r.posted; parted = tt } }
begin_moves layout k why (PublishSpan era) post found q r =
    record { post = span_fits layout k post (from_to era era) q; phase = resumes_from why (with_span post (from_to era era)) (begins_in (kind_of why) r.suited) (λ e. refl) }

-- a walk that stays in the table
pub record Walks (slots : ℕ) (walk : Walk) : Type 0 where
  pub start : walk.start ≤ slots
  pub slot : walk.slot ≤ slots
  pub left : walk.left ≤ slots

abbrev WalksOn : ℕ → Option Walk → Type 0
WalksOn slots None = Unit {0}
WalksOn slots (Some walk) = Walks slots walk

pub next_in : (slots slot : ℕ) → slot ≤ slots → next_slot slots slot ≤ slots
next_in slots slot h = grind (arith, nat_tests)

walk_on_in : (slots : ℕ) (walk : Walk) (left slot : ℕ) → walk.start ≤ slots → left ≤ slots → slot ≤ slots → WalksOn slots (walk_on slots walk left slot)
walk_on_in slots walk zero slot a b c = tt
walk_on_in slots walk (suc left) slot a b c =
    elim (is_claimed (shown_of walk (next_slot slots slot)) (next_slot slots slot)) as (λ x. WalksOn slots (elim x [
      | true ↦ walk_on slots walk left (next_slot slots slot)
      | false ↦ Some (walk_at walk (next_slot slots slot) left)
    ])) [
      | true ↦ walk_on_in slots walk left (next_slot slots slot) a (omega arith) (next_in slots slot c)
      | false ↦ record { start = a; slot = next_in slots slot c; left = omega arith }
    ]

walking_moves : (layout : Layout) (k : ℕ) (why : Why) (birth : ℕ) (post : Post) (x : Option Walk) → PostFits layout k post → Run layout why (Allocate LoadBirth) post → WalksOn layout.config.slots x
    → Moves (PostFits layout k) (PhaseFits layout) why (walking birth post x)
walking_moves layout k why birth post None q r w = record { post = q; phase = resumes_from why post (fills_in (kind_of why) r.suited) r.posted }
walking_moves layout k why birth post (Some walk) q r w = let a = w.start in let b = w.slot in let c = w.left in
    record { post = q; phase = record { suited = r.suited; fits = grind (arith, nat_tests); shape = tt; posted = r.posted; parted = tt } }

pub walks_of : (slots : ℕ) (walk : Walk) → (nat_le walk.start slots && nat_le walk.slot slots && nat_le walk.left slots) ≡ true → Walks slots walk
walks_of slots walk h = record { start = grind (arith, nat_tests); slot = grind (arith, nat_tests); left = grind (arith, nat_tests) }

allocate_moves : (layout : Layout) (k : ℕ) (why : Why) (at : AllocateAt) (post : Post) (found : ℕ) → PostFits layout k post → post.layout ≡ layout → Run layout why (Allocate at) post
    → Moves (PostFits layout k) (PhaseFits layout) why (allocate_turn at post found)
allocate_moves layout k why LoadBirth post found q l r = let c = q.cursor in
    record {
      post = q;
      phase = subst (λ (t : Layout). PhaseFits layout post (Runs why (Allocate (ClaimSlot found (walk_from t.config.slots post.cursor))))) (sym l)
          (record { suited = r.suited; fits = grind (arith, nat_tests); shape = tt; posted = r.posted; parted = tt });
    }
allocate_moves layout k why (ClaimSlot birth walk) post found q l r = let w = walks_of layout.config.slots walk r.fits in
    moves_if why (is_claimed found walk.slot) _ _
    (λ e. walking_moves layout k why birth post (walk_past post.layout.config.slots walk found) q (record { suited = r.suited; fits = refl; shape = tt; posted = r.posted; parted = tt })
    (subst (λ (t : Layout). WalksOn layout.config.slots (walk_past t.config.slots walk found)) (sym l) (walk_on_in layout.config.slots (shown_word walk found) walk.left walk.slot w.start w.left w.slot)))
    (λ e. record {
      post = record { seat = q.seat; layout = q.layout; cursor = subst (λ (t : Layout). next_slot t.config.slots walk.slot ≤ layout.config.slots) (sym l) (next_in layout.config.slots walk.slot w.slot); tags = q.tags; standing = q.standing };
      phase = record { suited = r.suited; fits = let s = w.slot in grind (arith, nat_tests); shape = tt; posted = r.posted; parted = tt };
    })
allocate_moves layout k why (StoreLife birth slot) post found q l r = record { post = q; phase = resumes_from why post (fills_in (kind_of why) r.suited) r.posted }

retire_moves : (layout : Layout) (k : ℕ) (why : Why) (at : RetireAt) (post : Post) (found : ℕ) → PostFits layout k post → Run layout why (Retire at) post
    → Moves (PostFits layout k) (PhaseFits layout) why (retire_turn at post found)
retire_moves layout k why (LoadLife slot) post found q r = record { post = q; phase = record { suited = r.suited; fits = refl; shape = tt; posted = tt; parted = tt } }
retire_moves layout k why (LoadRetire slot birth) post found q r = record { post = q; phase = record { suited = r.suited; fits = refl; shape = tt; posted = tt; parted = tt } }
retire_moves layout k why (StoreRetired slot birth retire) post found q r =
    record { post = record { seat = q.seat; layout = q.layout; cursor = q.cursor; tags = q.tags; standing = q.standing }; phase = resumes_out why _ (retires_out (kind_of why) r.suited) }

-- a mover's next phase
all_met_fits : (s : SchemeKind) (seats era : ℕ) (shows : Bool) → helps s ≡ true → move_fits s seats (all_met era shows) ≡ true
all_met_fits s seats era true h = h
all_met_fits s seats era false h = refl

next_fits : (layout : Layout) (post : Post) (era seat : ℕ) (shows : Bool) → post.layout ≡ layout → helps layout.config.scheme ≡ true → move_fits layout.config.scheme layout.config.seats (next_request post era seat shows) ≡ true
next_fits layout post era seat shows l h = subst (λ (t : Layout). move_fits t.config.scheme t.config.seats (next_request post era seat shows) ≡ true) l
    (at (nat_lt (seat + 1) post.layout.config.seats) refl (subst (λ (t : Layout). helps t.config.scheme ≡ true) (sym l) h))
  where
    at : (b : Bool) → nat_lt (seat + 1) post.layout.config.seats ≡ b → helps post.layout.config.scheme ≡ true → move_fits post.layout.config.scheme post.layout.config.seats (if b then LoadRequest era (seat + 1) shows else all_met era shows) ≡ true
    at true e g = grind (arith, nat_tests)
    at false e g = all_met_fits post.layout.config.scheme post.layout.config.seats era shows g

helping_fits : (s : SchemeKind) (seats era seat tag index : ℕ) (root : Root) (shows : Bool) → (helps s && nat_lt seat seats) ≡ true → move_fits s seats (helping era seat tag index root shows) ≡ true
helping_fits s seats era seat tag index root true h = h
helping_fits s seats era seat tag index root false h = h

met_fits : (layout : Layout) (post : Post) (era seat : ℕ) (shows : Bool) (x : Option Request) → post.layout ≡ layout → (helps layout.config.scheme && nat_lt seat layout.config.seats) ≡ true
    → move_fits layout.config.scheme layout.config.seats (met post era seat shows x) ≡ true
met_fits layout post era seat shows (Some (requests.Pending tag index word)) l h = helping_fits layout.config.scheme layout.config.seats era seat tag index (root_at post.layout word) shows h
met_fits layout post era seat shows (Some (requests.Answered link answered)) l h = next_fits layout post era seat shows l (grind (arith, nat_tests))
met_fits layout post era seat shows (Some requests.Idle) l h = next_fits layout post era seat shows l (grind (arith, nat_tests))
met_fits layout post era seat shows None l h = next_fits layout post era seat shows l (grind (arith, nat_tests))

moving_fits : (s : SchemeKind) (seats era : ℕ) (helping : Bool) → 0 < seats → agree helping (helps s) ≡ true → move_fits s seats (moving helping era) ≡ true
moving_fits s seats era true b h = grind (arith, nat_tests)
moving_fits s seats era false b h = refl

helps_of : (layout : Layout) (seat : ℕ) → (helps layout.config.scheme && nat_lt seat layout.config.seats) ≡ true → helps layout.config.scheme ≡ true
helps_of layout seat h = grind (arith, nat_tests)

-- the move goes on
moves_on : {layout : Layout} {why : Why} {at : MoveAt} {post : Post} → Run layout why (Move at) post → (next : MoveAt) (left : Post) → move_fits layout.config.scheme layout.config.seats next ≡ true → Run layout why (Move next) left
moves_on r next left f = record { suited = r.suited; fits = f; shape = tt; posted = tt; parted = r.parted }

handed : (layout : Layout) (k : ℕ) (why : Why) (era seat tag index old : ℕ) (post : Post) (same : Bool) → PostFits layout k post → Run layout why (Move (next_request post era seat true)) post
    → Moves (PostFits layout k) (PhaseFits layout) why (after_hand_over era seat tag index old post same)
handed layout k why era seat tag index old post true q r = record { post = q; phase = r }
handed layout k why era seat tag index old post false q r = record { post = q; phase = r }

move_moves : (layout : Layout) (k : ℕ) (why : Why) (at : MoveAt) (post : Post) (found : ℕ) → 0 < layout.config.seats → PostFits layout k post → post.layout ≡ layout → Run layout why (Move at) post
    → Moves (PostFits layout k) (PhaseFits layout) why (move_turn at post found)
move_moves layout k why (LoadEra helps) post found b q l r =
    moves_if why (found == post.layout.config.last_era) _ _
    (λ e. record { post = q; phase = resumes_out why post (moves_out (kind_of why) r.suited) })
    (λ e. record { post = q; phase = moves_on r (moving helps found) post (moving_fits layout.config.scheme layout.config.seats found helps b r.fits) })
move_moves layout k why (LoadRequest era seat shows) post found b q l r =
    record { post = q; phase = moves_on r (met post era seat shows (read_request found)) post (met_fits layout post era seat shows (read_request found) l r.fits) }
move_moves layout k why (ShowEra era seat tag index root) post found b q l r = record { post = q; phase = moves_on r (LoadAsked era seat tag index root) post r.fits }
move_moves layout k why (LoadAsked era seat tag index root) post found b q l r = record { post = q; phase = moves_on r (CheckEra era seat tag index root found) post r.fits }
move_moves layout k why (CheckEra era seat tag index root link) post found b q l r =
    moves_if why (found == era) _ _
    (λ e. record { post = q; phase = moves_on r (AnswerAsked era seat tag index root link) post r.fits })
    (λ e. record { post = q; phase = moves_on r (HideLate found) post (helps_of layout seat r.fits) })
move_moves layout k why (AnswerAsked era seat tag index root link) post found b q l r =
    moves_if why (found == asking post.layout tag index root) _ _
    (λ e. record { post = q; phase = moves_on r (LoadReserved era seat tag index root link) post r.fits })
    (λ e. record { post = q; phase = moves_on r (next_request post era seat true) post (next_fits layout post era seat true l (helps_of layout seat r.fits)) })
move_moves layout k why (LoadReserved era seat tag index root link) post found b q l r =
    moves_if why ((read_reservation found).tag == tag) _ _
    (λ e. record { post = q; phase = moves_on r (HandOver era seat tag index root link (read_reservation found).era) post r.fits })
    (λ e. record { post = q; phase = moves_on r (next_request post era seat true) post (next_fits layout post era seat true l (helps_of layout seat r.fits)) })
move_moves layout k why (HandOver era seat tag index root link old) post found b q l r =
    handed layout k why era seat tag index old post (found == reservation_word (record { era = old; tag = tag })) q (moves_on r (next_request post era seat true) post (next_fits layout post era seat true l (helps_of layout seat r.fits)))
move_moves layout k why (HideEra era) post found b q l r = record { post = q; phase = moves_on r (ExchangeClock era) post refl }
move_moves layout k why (HideLate seen) post found b q l r = record { post = q; phase = resumes_out why post (moves_out (kind_of why) r.suited) }
move_moves layout k why (ExchangeClock era) post found b q l r =
    moves_if why (found == era) _ _
    (λ e. record { post = q; phase = resumes_out why post (moves_out (kind_of why) r.suited) })
    (λ e. record { post = q; phase = resumes_out why post (moves_out (kind_of why) r.suited) })

write_moves : (layout : Layout) (k : ℕ) (why : Why) (slot : ℕ) (row : RowOf) (place : ℕ) (post : Post) → PostFits layout k post → Run layout why (Write slot row place) post
    → Moves (PostFits layout k) (PhaseFits layout) why (after_write slot row place post)
write_moves layout k why slot row place post q r =
    moves_if why (place == last_written row) _ _
    (λ e. record { post = q; phase = resumes_from why post (fills_in (kind_of why) r.suited) r.posted })
    (λ e. record { post = q; phase = record { suited = r.suited; fits = let f : (nat_le (first_written row) place && nat_le place (last_written row)) ≡ true = r.fits in grind (arith, nat_tests); shape = tt; posted = r.posted; parted = tt } })

-- a step inside a machine
pub shape_moves : (layout : Layout) (k : ℕ) → is_valid layout ≡ true → (why : Why) (base : Base) (post : Post) (found : ℕ) → PostFits layout k post → Run layout why base post
    → Moves (PostFits layout k) (PhaseFits layout) why (after base post found)
shape_moves layout k v why (Begin at) post found q r = begin_moves layout k why at post found q r
shape_moves layout k v why (Protect aim index root steps at) post found q r = protect_moves layout k why aim index root steps (bump steps) at post found q q.layout r
shape_moves layout k v why (Reload parent index slot era steps) post found q r =
    moves_if why (found == parent + 1) _ _
    (λ e. record { post = row_fits layout k post index slot q; phase = resumes_from why (with_row post index slot) (reloads_in (kind_of why) r.suited) r.posted })
    (λ e. record { post = q; phase = resumes_from why post (reloads_in (kind_of why) r.suited) r.posted })
shape_moves layout k v why (Clear rows index) post found q r =
    record { post = withdrawn_fits layout k post index q; phase = resumes_plain why (withdrawn post index) (subst (λ (t : Layout). has_one_interval t.config.scheme ≡ false) (sym q.layout) (clear_plain layout.config.scheme rows r.fits)) }
shape_moves layout k v why Finish post found q r = record { post = span_fits layout k post None q; phase = resumes_out why (with_span post None) (finishes_out (kind_of why) r.suited) }
shape_moves layout k v why (Release index) post found q r =
    record { post = span_fits layout k (withdrawn post index) None (withdrawn_fits layout k post index q); phase = resumes_bare layout.config.scheme why index (with_span (withdrawn post index) None) r.suited r.parted }
shape_moves layout k v why (Allocate at) post found q r = allocate_moves layout k why at post found q q.layout r
shape_moves layout k v why (Write slot row place) post found q r = write_moves layout k why slot row place post q r
shape_moves layout k v why (GiveUp slot) post found q r = record { post = q; phase = resumes_out why post (gives_up_out (kind_of why) r.suited) }
shape_moves layout k v why (Retire at) post found q r = retire_moves layout k why at post found q r
shape_moves layout k v why (Move at) post found q r = move_moves layout k why at post found (let b = bounds_of layout v in let c = b.seats.0 in omega arith) q q.layout r
