-- A seat after an adoption, as its code leaves it: it is sound, and what its record says of the call.
use Rattle.std.proofs.Common.{List, [], ap, ap₂, arith, false, length, subst, sym, true, ℕ, ◌++◌, ◌+◌, ◌<◌, ◌∙◌, ◌≡◌, ◌≢◌, ◌≤◌}
use Rattle.std.specs.Prelude.{Err, MatchResult, Ok, Result, ◌^◌}
use Rattle.wfe_core.proofs.words.Bounds.{slots_few}
use Rattle.wfe_core.specs.Calls.{Idle}
use Rattle.wfe_core.specs.DeskHeld.{HasRoom}
use Rattle.wfe_core.specs.Desks.{Notes, Report}
use Rattle.wfe_core.specs.Guards.{guards}
use Rattle.wfe_core.specs.Held.{ListHeld, ReportHeld, notes_of, report_of}
use Rattle.wfe_core.specs.Keep.{not_taken}
use Rattle.wfe_core.specs.Locals.{Local}
use Rattle.wfe_core.specs.declared.desk.Desk.{Desk as HeldDesk}
use Rattle.wfe_core.specs.declared.op.Op.{Op}
use Rattle.wfe_core.specs.declared.post.Post.{Post}
use Rattle.wfe_core.specs.defs.declared.call.Answer.{Answer}
use Rattle.wfe_core.specs.defs.declared.call.Answer.TheVariants as answers
use Rattle.wfe_core.specs.defs.declared.call.Call.TheVariants as names
use Rattle.wfe_core.specs.defs.declared.lifetime.Lifetime.{Lifetime}
use Rattle.wfe_core.specs.words.Place.{is_valid}
use Rattle.wfe_core.specs.words.declared.layout.Layout.{Layout}
use Rattle.law_bounds.specs.all.Logs.Versions.{met_in}
use Rattle.wfe_drive_call.specs.drive_words.Called.{Ends, at_phase}
use Rattle.wfe_drive_call.specs.drive_words.Comes.{departs}
use Rattle.wfe_drive_call.proofs.drive_words.Groups.{answered_call}
use Rattle.wfe_drive_rule.specs.Handles.{IsTracked}
use Rattle.wfe_drive_rule.specs.Views.{Handle, Track, own}
use Rattle.wfe_drive_rule.specs.drive_cells.Unit.{SeatView, shown}
use Rattle.wfe_drive_rule.specs.inv.rows.Facts.{Listing}
use Rattle.wfe_table.specs.Calls.{IsMade, IsMissed}
use Rattle.wfe_table.specs.Places.{Adoption, Found, Missed, Took, notes_over, over_view, post_over}
use Rattle.wfe_table.specs.Public.{SeatNow}
use Rattle.wfe_table.specs.Sound.{IsMet}
use Rattle.wfe_table.proofs.Made.{Rests, made_by, made_over, met_more}

-- the seat is as its code has it, once a call that noted nothing has left this list
abbrev view_of : Post → List Lifetime → Report → Notes → SeatView
view_of post list report notes = record { phase = Idle; post = post; desk = record { list = list; report = report; notes = notes; gift = [] } }

pub here_over : (l : Local) (post later : Post) (desk new : HeldDesk) (lives : List Lifetime) (steps : ℕ) → shown l ≡ at_phase Idle post desk → later ≡ post_over post steps → new.list.lives ≡ lives → new.report ≡ desk.report → notes_of new.notes ≡ notes_over steps
    → over_view l lives steps ≡ at_phase Idle later new
here_over l post later desk new lives steps e posts list report notes =
    ap (λ (v : SeatView). view_of (post_over v.post steps) lives v.desk.report (notes_over steps)) e
    ∙ ap₂ (λ (p : Post) (xs : List Lifetime). view_of p xs (report_of desk.report) (notes_over steps)) (sym posts) (sym list)
    ∙ ap₂ (λ (r : ReportHeld) (n : Notes). view_of later new.list.lives (report_of r) n) (sym report) (sym notes)

-- the lists as the desk has them
pub lives_of : (l : Local) (post : Post) (desk : HeldDesk) → shown l ≡ at_phase Idle post desk → desk.list.lives ≡ l.desk.list
lives_of l post desk e = sym (ap (λ (v : SeatView). v.desk.list) e)

pub fits_more : (l : Local) (post : Post) (desk : HeldDesk) (more : List Lifetime) → shown l ≡ at_phase Idle post desk → HasRoom desk post.layout → Listing l.post.layout.config.slots (l.desk.list ++ more) → Listing desk.list.slots (desk.list.lives ++ more)
fits_more l post desk more e room h =
    let by : Listing post.layout.config.slots (desk.list.lives ++ more) = subst (λ (v : SeatView). Listing v.post.layout.config.slots (v.desk.list ++ more)) e h in
    subst (λ (n : ℕ). Listing n (desk.list.lives ++ more)) (sym room.slots) by

pub room_over : (desk new : HeldDesk) (layout later : Layout) → HasRoom desk layout → later ≡ layout → new.list.slots ≡ desk.list.slots → new.report ≡ desk.report → desk.notes.room ≤ new.notes.room → HasRoom new later
room_over desk new layout later h table slots report more =
    let rows = h.rows_fit in
    subst (HasRoom new) (sym table) (record { slots = slots ∙ h.slots; guards_fit = subst (λ (r : ReportHeld). guards layout.config ≤ r.room) (sym report) h.guards_fit; rows_fit = omega (arith, rows, more) })

-- its last call is that
pub adopts_there : (place : ℕ) (answer : Answer) (ops : List (Op × ℕ)) (l m : Local) → Ends (names.Adopt place) answer ops l m → departs m.call ≡ false
adopts_there place answer ops l m ends = ap departs (answered_call _ ops answer m ends.answered)

-- and tells no version
pub adopts_met : (layout : Layout) (place : ℕ) (answer : Answer) (ops : List (Op × ℕ)) (l m : Local) (list : List ℕ) → Ends (names.Adopt place) answer ops l m → IsMet layout.config.buckets (met_in layout.config.buckets l.log) list → IsMet layout.config.buckets (met_in layout.config.buckets m.log) list
adopts_met layout place answer ops l m list ends h = met_more layout.config.buckets (names.Adopt place) answer l m ops list list ends h (λ met known. record { count = known.count; each = known.each })

-- so many rows as a table has are few
pub few_rows : (layout : Layout) (list : ListHeld) (count : ℕ) → is_valid layout ≡ true → list.slots ≡ layout.config.slots → count ≤ list.slots + 1 → count < 2 ^ 32
few_rows layout list count valid is most = let few = slots_few layout valid in omega (arith, is, few, most)

-- the adoption by what its steps came to
pub took_adopts : (place count : ℕ) (old : Track) (list : List Lifetime) (new : Handle) → count ≡ length list → Took place old list new → Adoption place (answers.Adopted count) old (own new.0)
took_adopts place count old list new is t =
    record { ops = t.ops; ends = subst (λ (n : ℕ). Ends (names.Adopt place) (answers.Adopted n) t.ops old.local (own new.0).local) (sym is) t.ends; more = t.more; grows = t.grows }

pub missed_adopts : (place found : ℕ) (old : Track) (new : Handle) → found ≢ 1 → Missed place found old new → Found place found old (own new.0)
missed_adopts place found old new apart m = record {
  adoption = record { ops = m.ops; ends = m.ends; more = m.more; grows = m.grows };
  exchange = m.exchange;
  word = m.word;
  apart = apart;
}

-- whichever was answered
abbrev pub IsTold : (place : ℕ) (old new : Track) → Result ℕ ℕ → Type 0
IsTold place old new result = MatchResult result (λ count. Adoption place (answers.Adopted count) old new) (λ found. Found place found old new)

adoption_of : (place : ℕ) (old new : Track) (result : Result ℕ ℕ) → IsTold place old new result → (answer : Answer) × Adoption place answer old new
adoption_of place old new (Ok count) h = (answers.Adopted count, h)
adoption_of place old new (Err found) h = (not_taken found, h.adoption)

pub told_there : (place : ℕ) (old new : Track) (result : Result ℕ ℕ) → IsTold place old new result → departs new.local.call ≡ false
told_there place old new result h = let a = adoption_of place old new result h in adopts_there place a.0 a.1.ops old.local new.local a.1.ends

pub told_met : (layout later : Layout) (place : ℕ) (old new : Track) (result : Result ℕ ℕ) (list : List ℕ) → IsTold place old new result → later ≡ layout → IsMet layout.config.buckets (met_in layout.config.buckets old.local.log) list → IsMet later.config.buckets (met_in later.config.buckets new.local.log) list
told_met layout later place old new result list h table met =
    let a = adoption_of place old new result h in
    subst (λ (d : Layout). IsMet d.config.buckets (met_in d.config.buckets new.local.log) list) (sym table) (adopts_met layout place a.0 a.1.ops old.local new.local list a.1.ends met)

pub told_layout : (place : ℕ) (old new : Track) (result : Result ℕ ℕ) → IsTold place old new result → new.local.post.layout ≡ old.local.post.layout
told_layout place old new result h = (adoption_of place old new result h).1.ends.left.place.layout

abbrev pub IsAnswered : (layout : Layout) (old new : SeatNow) (place : ℕ) → Result ℕ ℕ → Type 0
IsAnswered layout old new place result = MatchResult result (λ count. IsMade layout old new (names.Adopt place) (answers.Adopted count)) (λ found. IsMissed layout old new place found)

pub told_made : (layout : Layout) (old new : SeatNow) (place : ℕ) (result : Result ℕ ℕ) → Rests layout old.track → IsTracked layout new.track → IsTold place old.track new.track result → IsAnswered layout old new place result
told_made layout old new place (Ok count) r t a = made_by layout old new (names.Adopt place) (answers.Adopted count) a.ops a.more r t a.ends a.grows
told_made layout old new place (Err found) r t a = record {
  made = made_by layout old new (names.Adopt place) (not_taken found) a.adoption.ops a.adoption.more r t a.adoption.ends a.adoption.grows;
  exchange = a.exchange;
  word = made_over layout old new (names.Adopt place) (not_taken found) a.adoption.ops a.adoption.more r t a.adoption.ends a.adoption.grows ∙ a.word;
  apart = a.apart;
}
