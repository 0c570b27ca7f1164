-- What a machine rests on does not depend on how many steps its call has made.
use Rattle.wfe_core.specs.words.declared.packed.Request.TheVariants as requests
use Rattle.wfe_core.specs.words.declared.packed.Request.{Request}
use Rattle.wfe_core.specs.words.Packed.{read_request}
use Rattle.wfe_core.specs.Phases.RetireAt.{LoadLife, LoadRetire, StoreRetired}
use Rattle.wfe_core.specs.Phases.ProtectAt.{LoadClock, PublishEra, LoadLink, CheckClock, PublishRequest, LoadOwnClock, PublishHelper, LoadOwnLink, CheckOwnClock, AnswerOwn, LoadAnswer, TakeAnswer, WithdrawRequest, WithdrawHelper, LoadWithin, CheckUpper, RaiseUpper, ByHazard}
use Rattle.wfe_core.specs.Phases.HazardAt.{CheckLink, FirstLink, PublishLink}
use Rattle.wfe_core.specs.Phases.BeginAt.{LoadLower, PublishSpan}
use Rattle.std.proofs.Common.{ℕ, None, Option, Some}
use Rattle.wfe_core.specs.Phases.{AllocateAt, Base, HazardAt, MoveAt, MapRow, ProtectAt, QueueRow, RetireAt, RowOf}
use Rattle.wfe_core.specs.Phases.AllocateAt.{ClaimSlot, LoadBirth, StoreLife}
use Rattle.wfe_core.specs.Phases.Base.{Allocate, Begin, Clear, Finish, GiveUp, Move, Protect, Release, Reload, Retire, Write}
use Rattle.wfe_core.specs.Phases.MoveAt.{AnswerAsked, CheckEra, ExchangeClock, HandOver, HideEra, HideLate, LoadAsked, LoadEra, LoadRequest, LoadReserved, ShowEra}
use Rattle.wfe_core.specs.Ready.{AskFits, IsReady, Plausible, allocate_ready, hazard_plausible, hazard_ready, move_ready, AskedFits, RowFits, move_plausible, protect_plausible, protect_ready, retire_ready}
use Rattle.wfe_core.specs.Valid.{IsValid}
use Rattle.wfe_core.specs.declared.post.Post.{Post}
use Rattle.wfe_drive_words.specs.Path.{stepped}

pub valid_stepped : (post : Post) → IsValid post → IsValid (stepped post)
valid_stepped post v = record { layout = v.layout; bounds = v.bounds; seat = v.seat; cursor = v.cursor; tags = v.tags; standing = v.standing; span = v.span; all_tags = v.all_tags; all_standing = v.all_standing }

ask-stepped : {post : Post} {seat tag index : ℕ} {root : _} → AskFits post seat tag index root → AskFits (stepped post) seat tag index root
ask-stepped f = record { seat_in = f.seat_in; tag_in = f.tag_in; index_in = f.index_in; root_in = f.root_in }

move-stepped : (at : MoveAt) (post : Post) → move_ready at post → move_ready at (stepped post)
move-stepped (LoadEra helps) post h = h
move-stepped (LoadRequest era seat shows) post h = h
move-stepped (ShowEra era seat tag index root) post h = ask-stepped h
move-stepped (LoadAsked era seat tag index root) post h = ask-stepped h
move-stepped (CheckEra era seat tag index root link) post h = ask-stepped h
move-stepped (AnswerAsked era seat tag index root link) post h = (ask-stepped h.0, h.1, h.2)
move-stepped (LoadReserved era seat tag index root link) post h = ask-stepped h
move-stepped (HandOver era seat tag index root link old) post h = ask-stepped h
move-stepped (HideEra era) post h = h
move-stepped (HideLate seen) post h = h
move-stepped (ExchangeClock era) post h = h

allocate-stepped : (at : AllocateAt) (post : Post) → allocate_ready at post → allocate_ready at (stepped post)
allocate-stepped LoadBirth post h = h
allocate-stepped (ClaimSlot birth walk) post h = record { slot = h.slot; left = h.left }
allocate-stepped (StoreLife birth slot) post h = h

hazard-stepped : (at : HazardAt) (post : Post) → hazard_ready at post → hazard_ready at (stepped post)
hazard-stepped FirstLink post h = h
hazard-stepped (PublishLink link) post h = h
hazard-stepped (CheckLink link) post h = h

protect-stepped : (at : ProtectAt) (index : ℕ) (post : Post) → protect_ready at index post → protect_ready at index (stepped post)
protect-stepped (LoadClock tries) index post h = h
protect-stepped (PublishEra era tries) index post h = h
protect-stepped (LoadLink era tries) index post h = h
protect-stepped (CheckClock era tries link) index post h = h
protect-stepped PublishRequest index post h = h
protect-stepped LoadOwnClock index post h = h
protect-stepped (PublishHelper first era last) index post h = h
protect-stepped (LoadOwnLink first era last) index post h = h
protect-stepped (CheckOwnClock first era last link) index post h = h
protect-stepped (AnswerOwn first era link) index post h = h
protect-stepped (LoadAnswer first) index post h = h
protect-stepped (TakeAnswer link era) index post h = h
protect-stepped (WithdrawRequest link era) index post h = h
protect-stepped (WithdrawHelper link era) index post h = h
protect-stepped LoadWithin index post h = h
protect-stepped (CheckUpper link) index post h = h
protect-stepped (RaiseUpper era) index post h = h
protect-stepped (ByHazard at) index post h = hazard-stepped at post h

retire-stepped : (at : RetireAt) (post : Post) → retire_ready at post → retire_ready at (stepped post)
retire-stepped (LoadLife slot) post h = h
retire-stepped (LoadRetire slot birth) post h = h
retire-stepped (StoreRetired slot birth retire) post h = h

row-stepped : (row : RowOf) (post : Post) → RowFits post row → RowFits (stepped post) row
row-stepped (MapRow version pairs) post h = h
row-stepped (QueueRow number value) post h = h

pub ready_stepped : (base : Base) (post : Post) → IsReady base post → IsReady base (stepped post)
ready_stepped (Begin LoadLower) post h = h
ready_stepped (Begin (PublishSpan era)) post h = h
ready_stepped (Protect aim index root steps at) post h = (h.0, h.1, protect-stepped at index post h.2)
ready_stepped (Reload parent index slot era steps) post h = h
ready_stepped (Clear rows index) post h = h
ready_stepped Finish post h = h
ready_stepped (Release index) post h = h
ready_stepped (Allocate at) post h = allocate-stepped at post h
ready_stepped (Write slot row place) post h = (h.0, row-stepped row post h.1, h.2, h.3)
ready_stepped (GiveUp slot) post h = h
ready_stepped (Retire at) post h = retire-stepped at post h
ready_stepped (Move at) post h = move-stepped at post h

-- and so what its step may find
hazard-found : (at : HazardAt) (post : Post) (found : ℕ) → hazard_plausible at post found → hazard_plausible at (stepped post) found
hazard-found FirstLink post found h = h
hazard-found (PublishLink link) post found h = h
hazard-found (CheckLink link) post found h = h

protect-found : (at : ProtectAt) (post : Post) (found : ℕ) → protect_plausible at post found → protect_plausible at (stepped post) found
protect-found (LoadClock tries) post found h = h
protect-found (PublishEra era tries) post found h = h
protect-found (LoadLink era tries) post found h = h
protect-found (CheckClock era tries link) post found h = h
protect-found PublishRequest post found h = h
protect-found LoadOwnClock post found h = h
protect-found (PublishHelper first era last) post found h = h
protect-found (LoadOwnLink first era last) post found h = h
protect-found (CheckOwnClock first era last link) post found h = h
protect-found (AnswerOwn first era link) post found h = h
protect-found (LoadAnswer first) post found h = h
protect-found (TakeAnswer link era) post found h = h
protect-found (WithdrawRequest link era) post found h = h
protect-found (WithdrawHelper link era) post found h = h
protect-found LoadWithin post found h = h
protect-found (CheckUpper link) post found h = h
protect-found (RaiseUpper era) post found h = h
protect-found (ByHazard at) post found h = hazard-found at post found h

asked-found : (request : Option Request) (post : Post) → AskedFits post request → AskedFits (stepped post) request
asked-found (Some (requests.Pending tag index word)) post h = h
asked-found (Some (requests.Answered link era)) post h = h
asked-found (Some requests.Idle) post h = h
asked-found None post h = h

move-found : (at : MoveAt) (post : Post) (found : ℕ) → move_plausible at post found → move_plausible at (stepped post) found
move-found (LoadEra helps) post found h = h
move-found (LoadRequest era seat shows) post found h = asked-found (read_request found) post h
move-found (ShowEra era seat tag index root) post found h = h
move-found (LoadAsked era seat tag index root) post found h = h
move-found (CheckEra era seat tag index root link) post found h = h
move-found (AnswerAsked era seat tag index root link) post found h = h
move-found (LoadReserved era seat tag index root link) post found h = h
move-found (HandOver era seat tag index root link old) post found h = h
move-found (HideEra era) post found h = h
move-found (HideLate seen) post found h = h
move-found (ExchangeClock era) post found h = h

pub plausible_stepped : (base : Base) (post : Post) (found : ℕ) → Plausible base post found → Plausible base (stepped post) found
plausible_stepped (Begin at) post found h = h
plausible_stepped (Protect aim index root steps at) post found h = protect-found at post found h
plausible_stepped (Reload parent index slot era steps) post found h = h
plausible_stepped (Clear rows index) post found h = h
plausible_stepped Finish post found h = h
plausible_stepped (Release index) post found h = h
plausible_stepped (Allocate at) post found h = h
plausible_stepped (Write slot row place) post found h = h
plausible_stepped (GiveUp slot) post found h = h
plausible_stepped (Retire at) post found h = h
plausible_stepped (Move at) post found h = move-found at post found h
