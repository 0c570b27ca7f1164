-- A call of one of the logs is one of a seat's log, with all that is known of its answer; and of two calls of one log the second begins
-- where no less is counted than the first has told.
use Rattle.std.proofs.Common.{List, Some, [], append-nil, append_assoc, subst, suc, sym, true, zero, ℕ, ◌++◌, ◌∙◌, ◌∷◌, ◌≡◌}
use Rattle.std.specs.Prelude.{map, slice_get}
use Rattle.std.specs.List.{range_with_len}
use Rattle.law_all.specs.inv.model.Locals.{Group}
use Rattle.law_all.specs.inv.model.words.Place.{is_valid}
use Rattle.law_all.specs.inv.model.words.declared.layout.Layout.{Layout}
use Rattle.law_all.specs.Logs.Records.{IsAnswered}
use Rattle.law_all.specs.Logs.Versions.{AtMost, counts_of, met_in}
use Rattle.law_all.specs.inv.history.History.{Item, record_of, world_of}
use Rattle.law_all.proofs.Logs.Counts.{most_along, most_same}
use Rattle.law_all.proofs.Records.{logs_answer}
use Rattle.law_all.specs.RunLaw.{InOrder, IsCall}
use Rattle.law_all.specs.Runs.{logs_of}

-- the log of a seat, in a World
abbrev pub log_at : Layout → List Item → ℕ → List Group
log_at layout items seat = ((world_of layout items).seat seat).log

-- what stands in a list made from numbers is made from one of them
made_from : {X : Type 0} (f : ℕ → X) (numbers : List ℕ) (place : ℕ) (x : X) → slice_get (map f numbers) place ≡ Some x → (number : ℕ) × (f number ≡ x)
made_from f [] place x h = absurd (cc)
made_from f (number ∷ numbers) zero x h = (number, cc)
made_from f (number ∷ numbers) (suc place) x h = made_from f numbers place x h

-- one of the logs is a seat's
pub log_of_seat : (layout : Layout) (items : List Item) (place : ℕ) (log : List Group) → slice_get (logs_of layout items) place ≡ Some log
    → (seat : ℕ) × (log_at layout items seat ≡ log)
log_of_seat layout items place log h = made_from (log_at layout items) (range_with_len 0 layout.config.seats) place log h

-- a call of one of the logs
pub record Called (layout : Layout) (items : List Item) (before : List Group) (group : Group) : Type 0 where
  pub seat : ℕ
  pub is : IsAnswered layout.config seat (record_of layout items) before group

pub called : (layout : Layout) (items : List Item) (before : List Group) (group : Group) → is_valid layout ≡ true
    → IsCall (logs_of layout items) before group → Called layout items before group
called layout items before group d h =
    let s = log_of_seat layout items h.log.seat (before ++ group ∷ h.later) h.log.at in
    record { seat = s.0; is = logs_answer layout items s.0 before h.later group d s.1 }

-- what a log has met never falls
met_more : (layout : Layout) (items : List Item) (seat : ℕ) (before more later : List Group) → is_valid layout ≡ true
    → log_at layout items seat ≡ before ++ (more ++ later)
    → AtMost (met_in layout.config.buckets before) (met_in layout.config.buckets (before ++ more))
met_more layout items seat before [] later d h =
    let n : ℕ = layout.config.buckets in
    subst (λ (log : List Group). AtMost (met_in n before) (met_in n log)) (sym (append-nil before)) (most_same (met_in n before))
met_more layout items seat before (group ∷ more) later d h =
    let n : ℕ = layout.config.buckets in
    let a = logs_answer layout items seat before (more ++ later) group d h in
    let next : log_at layout items seat ≡ (before ++ group ∷ []) ++ (more ++ later) = h ∙ sym (append_assoc before (group ∷ []) (more ++ later)) in
    let rest = met_more layout items seat (before ++ group ∷ []) more later d next in
    most_along (met_in n before) (met_in n (before ++ group ∷ [])) (met_in n (before ++ group ∷ more)) a.rises
    (subst (λ (log : List Group). AtMost (met_in n (before ++ group ∷ [])) (met_in n log)) (append_assoc before (group ∷ []) more) rest)

-- two calls of one log, the first before the second
pub record Follow (layout : Layout) (items : List Item) (one two : Group) : Type 0 where
  pub seat : ℕ
  pub before : List Group
  pub between : List Group
  pub first : IsAnswered layout.config seat (record_of layout items) before one
  pub second : IsAnswered layout.config seat (record_of layout items) (before ++ one ∷ between) two
  pub met : AtMost (met_in layout.config.buckets (before ++ one ∷ [])) (counts_of second.begun.from)

pub follow : (layout : Layout) (items : List Item) (one two : Group) → is_valid layout ≡ true → InOrder (logs_of layout items) one two
    → Follow layout items one two
follow layout items one two d h =
    let n : ℕ = layout.config.buckets in
    let late : List Group = two ∷ h.later in
    let s = log_of_seat layout items h.log.seat (h.before ++ one ∷ (h.between ++ late)) h.log.at in
    let seat : ℕ = s.0 in
    let cut : log_at layout items seat ≡ (h.before ++ one ∷ h.between) ++ late = s.1 ∙ sym (append_assoc h.before (one ∷ h.between) late) in
    let next : log_at layout items seat ≡ (h.before ++ one ∷ []) ++ (h.between ++ late) = s.1 ∙ sym (append_assoc h.before (one ∷ []) (h.between ++ late)) in
    let second = logs_answer layout items seat (h.before ++ one ∷ h.between) h.later two d cut in
    let met : AtMost (met_in n (h.before ++ one ∷ [])) (met_in n (h.before ++ one ∷ h.between)) =
    subst (λ (log : List Group). AtMost (met_in n (h.before ++ one ∷ [])) (met_in n log)) (append_assoc h.before (one ∷ []) h.between)
    (met_more layout items seat (h.before ++ one ∷ []) h.between late d next) in
    record {
      seat = seat;
      before = h.before;
      between = h.between;
      first = logs_answer layout items seat h.before (h.between ++ late) one d s.1;
      second = second;
      met = most_along (met_in n (h.before ++ one ∷ [])) (met_in n (h.before ++ one ∷ h.between)) (counts_of second.begun.from) met second.before_it;
    }
