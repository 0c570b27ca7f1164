-- Where a call ends its seat is idle, and so nothing stands at its indexes below 2.
use Rattle.std.proofs.Common.{ℕ, ◌≡◌, ◌<◌, Bool, true, false, List, [], ◌∷◌, ◌++◌, Option, Some, None, refl, sym, ap, ◌∙◌, subst, arith}
use Rattle.std.specs.Prelude.{◌==◌, ◌||◌, nat_le, nat_lt, is_none, if◌then◌else◌}
use Rattle.law_reuse.specs.inv.model.words.Place.{is_valid}
use Rattle.law_reuse.specs.inv.model.words.declared.layout.Layout.{Layout}
use Rattle.law_reuse.specs.inv.model.defs.declared.call.Answer.{Answer}
use Rattle.law_reuse.specs.inv.model.defs.declared.event.Event.{Event}
use Rattle.law_reuse.specs.inv.model.defs.declared.event.Event.TheVariants as events
use Rattle.law_reuse.specs.inv.model.declared.post.Post.{Post}
use Rattle.law_reuse.specs.inv.model.Calls.{Phase, CallTurn, CallOutcome, GoesOn, Answers}
use Rattle.law_reuse.specs.inv.model.Locals.{told_by, told_end, turn}
use Rattle.std.proofs.lemmas.Bool.Decides.{nat_tests}
use Rattle.law_reuse.specs.inv.model.Posts.{stands}
use Rattle.law_reuse.specs.inv.model.World.{World, finds, is_busy, offered, step, may_start}
use Rattle.law_reuse.proofs.inv.model.Facts.{first_of, rest_of}
use Rattle.law_reuse.specs.inv.covers.Rests.{Vacant, spare, vacant}
use Rattle.law_reuse.proofs.inv.covers.Held.{stepped_phase}
use Rattle.law_reuse.specs.inv.shapes.Frame.{phase_left}
use Rattle.law_reuse.specs.inv.Inv.{Inv}
use Rattle.law_reuse.specs.inv.history.Record.{Past, Each, tells_of}
use Rattle.law_reuse.specs.inv.history.Record.Past.{Then}
use Rattle.law_reuse.proofs.inv.history.Entries.{entries_of_each}
use Rattle.law_reuse.specs.inv.history.History.{Item, Begins, Steps, Made, fits, done, done_if, made_of, first_made, record_of, world_of}
use Rattle.law_reuse.proofs.inv.history.Along.{begins_right, begins_within, low_seat, made_snoc, paths_keep}
use Rattle.law_reuse.specs.laws.StateAt.{stood_at}
use Rattle.law_reuse.proofs.Reuse.Keeps.{record_stands}
use Rattle.law_reuse.proofs.inv.history.AllOf.{all_of}
use Rattle.law_reuse.proofs.AnswersTold.Owed.{is_open, Owes, owed}
use Rattle.law_reuse.proofs.AnswersTold.Answering.{owes_of}
use Rattle.law_reuse.proofs.AnswersTold.Answering as answering
use Rattle.law_reuse.specs.laws.HistoryHolds.{bare_ok}
use Rattle.law_reuse.specs.Records.{RecordsEndBare}
use Rattle.law_reuse.proofs.laws.Tells.{tells_both}

-- what stands by the record of a history stands in the post
abbrev Stood : Made → Type 0
Stood made = (k j : ℕ) → stood_at k j made.past ≡ stands (made.world.seat k).post j

stood_of : (layout : Layout) (path : List Item) (made : Made) → is_valid layout ≡ true → made ≡ made_of layout path → Stood made
stood_of layout path made d e = subst Stood (sym e) (λ k j. record_stands layout path k j d)

-- the law along what a turn tells
open_ok : (j i : ℕ) (p : Past) (event : Event) → is_open event ≡ true → bare_ok j p i event ≡ true
open_ok j i p (events.End steps answer) h = absurd (cc)
open_ok j i p event h = refl

open_each : (j i : ℕ) (told : List Event) (p : Past) → all_of is_open told ≡ true → Each (bare_ok j) p → Each (bare_ok j) (tells_of p i told)
open_each j i [] p h g = g
open_each j i (event ∷ told) p h g = open_each j i told (Then p i event) (rest_of (is_open event) (all_of is_open told) h) (open_ok j i p event (first_of (is_open event) (all_of is_open told) h), g)

pub end_stood : (i j count : ℕ) (answer : Answer) (q : Past) → stood_at i j (Then q i (events.End count answer)) ≡ stood_at i j q
end_stood i j count answer q = by (i == i)
  where
    by : (same : Bool) → (if same then stood_at i j q else stood_at i j q) ≡ stood_at i j q
    by true = refl
    by false = refl

bare_by : (x : Option ℕ) (kept : Bool) → (kept ≡ false → x ≡ None) → (is_none x || kept) ≡ true
bare_by None kept h = refl
bare_by (Some s) true h = refl
bare_by (Some s) false h = let e = h refl in absurd (cc)

low_spare : (j : ℕ) → nat_le 2 j ≡ false → spare j ≡ true
low_spare j h = grind (arith, nat_tests)

end_each : (i j : ℕ) (post last : Post) (outcome : CallOutcome) (q : Past) → Vacant (vacant (phase_left outcome)) last → stood_at i j (tells_of q i (told_end post outcome)) ≡ stands last j → Each (bare_ok j) q → Each (bare_ok j) (tells_of q i (told_end post outcome))
end_each i j post last (GoesOn phase) q v e g = g
end_each i j post last (Answers answer) q v e g = (bare_by (stood_at i j q) (nat_le 2 j) (λ h. sym (end_stood i j post.steps answer q) ∙ e ∙ v j (low_spare j h)), g)

step_each : (i j : ℕ) (t : CallTurn) (last : Post) (p : Past) → all_of is_open t.told ≡ true → Vacant (vacant (phase_left t.outcome)) last → stood_at i j (tells_of p i (told_by t)) ≡ stands last j → Each (bare_ok j) p → Each (bare_ok j) (tells_of p i (told_by t))
step_each i j t last p o v e g =
    let a : tells_of p i (told_by t) ≡ tells_of (tells_of p i t.told) i (told_end t.post t.outcome) = tells_both i t.told (told_end t.post t.outcome) p in
    subst (Each (bare_ok j)) (sym a) (end_each i j t.post last t.outcome (tells_of p i t.told) v (sym (ap (stood_at i j) a) ∙ e) (open_each j i t.told p o g))

-- what a history keeps
record Bare (layout : Layout) (made : Made) : Type 0 where
  answers : answering.Keeps layout.config.buckets made
  law : (j : ℕ) → Each (bare_ok j) made.past

step_bare : (layout : Layout) (made : Made) (i : ℕ) → i < made.world.layout.config.seats → is_busy made.world i ≡ true → Stood (done made (Steps i)) → Bare layout made → Bare layout (done made (Steps i))
step_bare layout made i b y s g =
    let w : World = made.world in
    let n : ℕ = layout.config.buckets in
    let later = answering.step_keeps n made i b y g.answers in
    let o : Owes n (w.seat i).call (owed n (w.seat i).call (w.seat i).phase) (turn (offered w i) (finds w i)) = owes_of n w i g.answers.table g.answers.known ((g.answers.seats i).serves y) in
    let a : Inv (step w i) = later.known in
    let v : Vacant (vacant (phase_left (turn (offered w i) (finds w i)).outcome)) ((step w i).seat i).post =
    subst (λ (phase : Phase). Vacant (vacant phase) ((step w i).seat i).post) (stepped_phase w i) (a.known.rests.vacant i) in
    record { answers = later; law = λ j. step_each i j (turn (offered w i) (finds w i)) ((step w i).seat i).post made.past o.told.goes v (s i j) (g.law j) }

item_bare : (layout : Layout) (made : Made) (item : Item) (fit : Bool) → fits made.world item ≡ fit → Stood (done_if made item fit) → Bare layout made → Bare layout (done_if made item fit)
item_bare layout made item false f s g = g
item_bare layout made (Begins i call) true f s g =
    let seats : ℕ = made.world.layout.config.seats in
    let may : Bool = may_start made.world i call in
    record { answers = answering.begin_keeps layout.config.buckets made i call (begins_right i seats (is_busy made.world i) may f) (begins_within i seats (is_busy made.world i) may f) g.answers; law = λ j. (refl, g.law j) }
item_bare layout made (Steps i) true f s g =
    step_bare layout made i (low_seat i made.world.layout.config.seats (is_busy made.world i) f) (rest_of (nat_lt i made.world.layout.config.seats) (is_busy made.world i) f) s g

path_bare : (layout : Layout) → is_valid layout ≡ true → (path : List Item) (item : Item) (fit : Bool) → fits (world_of layout path) item ≡ fit → Bare layout (made_of layout path) → Bare layout (done_if (made_of layout path) item fit)
path_bare layout d path item fit f g =
    let e : done_if (made_of layout path) item fit ≡ made_of layout (path ++ item ∷ []) = ap (done_if (made_of layout path) item) (sym f) ∙ sym (made_snoc (first_made layout) path item) in
    item_bare layout (made_of layout path) item fit f (stood_of layout (path ++ item ∷ []) (done_if (made_of layout path) item fit) d e) g

pub records_end_bare : RecordsEndBare
records_end_bare layout items d j =
    let g = paths_keep layout (Bare layout) (path_bare layout d) (record { answers = answering.first_keeps layout d; law = λ k. tt }) items in
    entries_of_each (bare_ok j) (record_of layout items) (g.law j)
