-- What a dequeue follows stands where it tells what it found.
use Rattle.std.proofs.Common.{ℕ, ◌≡◌, ◌+◌, Bool, true, false, List, [], ◌∷◌, Some, refl, sym, ap, ◌∙◌, subst, arith}
use Rattle.std.proofs.lemmas.Bool.Decides.{nat_tests}
use Rattle.std.specs.List.{list_any, list_all}
use Rattle.std.specs.Prelude.{◌==◌, not, is_some, if◌then◌else◌, ◌||◌}
use Rattle.law_scans.specs.inv.model.words.Place.{Place}
use Rattle.law_scans.specs.inv.model.words.Place.Place.{Head}
use Rattle.law_scans.specs.inv.model.defs.declared.event.Event.{Event}
use Rattle.law_scans.specs.inv.model.defs.declared.event.Event.TheVariants as events
use Rattle.law_scans.specs.inv.model.defs.declared.event.Root.{Root}
use Rattle.law_scans.specs.inv.model.defs.declared.event.Root.TheVariants as roots
use Rattle.law_scans.specs.inv.model.declared.post.Post.{Post}
use Rattle.law_scans.specs.inv.model.Calls.{ReadGuard, GiveBack, Why, FollowsHead, Phase, Idle, Runs, Scans, Works}
use Rattle.law_scans.specs.inv.model.Follow.{after_reload}
use Rattle.law_scans.specs.inv.model.Locals.{turn}
use Rattle.law_scans.specs.inv.model.Machine as machine
use Rattle.law_scans.specs.inv.model.Memory.{bump}
use Rattle.law_scans.specs.inv.model.Phases.{ProtectAt, Base}
use Rattle.law_scans.specs.inv.model.Phases.ProtectAt.{CheckClock, TakeAnswer, CheckUpper, ByHazard}
use Rattle.law_scans.specs.inv.model.Phases.Base.{Protect, Reload, Clear, Release}
use Rattle.law_scans.specs.inv.model.Posts.{stands, counted, upper}
use Rattle.law_scans.specs.inv.model.Protect.{told_held}
use Rattle.law_scans.specs.inv.model.World.{World, finds, offered, told_in}
use Rattle.law_scans.proofs.inv.model.Facts.{same_number, and_right_false, number_is, or_more}
use Rattle.law_scans.proofs.reuse.history.Passes.{work_told}
use Rattle.law_scans.proofs.inv.ends.Ends.Tests.{at_shows, base_shows, base_any}
use Rattle.law_scans.specs.inv.shapes.Seats.{ToFollow, Shaped, suits, kind_of}
use Rattle.law_scans.specs.inv.history.History.{record_of, world_of}
use Rattle.law_scans.specs.laws.records.Record.{Past, Each, tells_of}
use Rattle.law_scans.specs.laws.records.Record.Past.{Then}
use Rattle.law_scans.specs.laws.StateAt.{head_at, stood_at, is_row}
use Rattle.law_scans.proofs.Ordering.Ordered.{head_is}
use Rattle.law_scans.proofs.laws.Tells.{tells_both}
use Rattle.law_scans.proofs.reuse.Reuse.Keeps.{record_stands}
use Rattle.law_scans.specs.inv.rows.Queue.{stands_on}
use Rattle.law_scans.proofs.inv.ends.Told.Rows.{own_told, own_post, step_adds}
use Rattle.law_scans.proofs.inv.ends.Told.Turns.{Adds, is_later}
use Rattle.law_scans.specs.laws.HistoryHolds.{follows_ok}
use Rattle.law_held.specs.Records.{RecordsFollowHead}
use Rattle.law_held.proofs.Roots.Early.{RunFits}
use Rattle.law_held.proofs.Roots.Finding.{fits_by}
use Rattle.law_held.proofs.Roots.Leads.{leads_of}
use Rattle.law_held.proofs.Roots.Ways.{record_each, answers_of}
use Rattle.law_scans.proofs.inv.rows.Queued.{finds_phase}
use Rattle.law_scans.proofs.Turns.TurnCounts.Tried.{is_follow}
use Rattle.law_scans.proofs.inv.ends.Ends.Stood.{is_standing, standing_calm}
use Rattle.law_held.proofs.NextRows.Following.{is_one, no_reload, why_one, later_one, at_one, cleared_one, one_calm, work_one}
use Rattle.law_held.proofs.Indexes.Clears.{row_there}
use Rattle.law_scans.proofs.inv.model.Lists.{or_left, or_right}
use Rattle.law_scans.specs.inv.model.Phases.HazardAt.{FirstLink, CheckLink}
use Rattle.law_scans.proofs.reuse.ReadGuards.{reads_are}
use Rattle.law_scans.specs.inv.model.words.Schemes.{publishes_rows}
use Rattle.law_scans.specs.inv.model.Guards.{guard_at}

-- nothing is told at index 1
other_ok : (slots : ℕ) (p : Past) (i : ℕ) (event : Event) → is_one event ≡ false → follows_ok slots p i event ≡ true
other_ok slots p i (events.Held index slot count) h = rw h refl
other_ok slots p i (events.Null index count) h = rw h refl
other_ok slots p i event h = refl

other_each : (slots i : ℕ) (told : List Event) (p : Past) → list_any is_one told ≡ false → Each (follows_ok slots) p → Each (follows_ok slots) (tells_of p i told)
other_each slots i [] p h g = g
other_each slots i (event ∷ told) p h g = other_each slots i told (Then p i event) (or_right (is_one event) (list_any is_one told) h) (other_ok slots p i event (or_left (is_one event) (list_any is_one told) h), g)

later_each : (slots i : ℕ) (told : List Event) (p : Past) → list_all is_later told ≡ true → Each (follows_ok slots) p → Each (follows_ok slots) (tells_of p i told)
later_each slots i [] p h g = g
later_each slots i (event ∷ told) p h g =
    let a : is_later event ≡ true = grind (arith, nat_tests) in
    let b : list_all is_later told ≡ true = grind (arith, nat_tests) in
    later_each slots i told (Then p i event) b (other_ok slots p i event (later_one event a), g)

still_ok : (slots : ℕ) (p : Past) (i : ℕ) (event : Event) → is_standing event ≡ false → is_some (stood_at i 0 p) ≡ true → follows_ok slots p i event ≡ true
still_ok slots p i (events.Held index slot count) h s = absurd (cc)
still_ok slots p i (events.Null index count) h s = or_more (not (index == 1)) (is_some (stood_at i 0 p)) s
still_ok slots p i event h s = refl

still_stood : (i : ℕ) (p : Past) (event : Event) → is_standing event ≡ false → stood_at i 0 (Then p i event) ≡ stood_at i 0 p
still_stood i p (events.Held index slot count) h = absurd (cc)
still_stood i p (events.Copied from index slot) h = absurd (cc)
still_stood i p (events.Clear index slot) h = absurd (cc)
still_stood i p event h = by (i == i)
  where
    by : (same : Bool) → (if same then stood_at i 0 p else stood_at i 0 p) ≡ stood_at i 0 p
    by true = refl
    by false = refl

still_each : (slots i : ℕ) (told : List Event) (p : Past) → list_any is_standing told ≡ false → is_some (stood_at i 0 p) ≡ true → Each (follows_ok slots) p → Each (follows_ok slots) (tells_of p i told)
still_each slots i [] p h s g = g
still_each slots i (event ∷ told) p h s g =
    let a : is_standing event ≡ false = or_left (is_standing event) (list_any is_standing told) h in
    still_each slots i told (Then p i event) (or_right (is_standing event) (list_any is_standing told) h) (ap is_some (still_stood i p event a) ∙ s) (still_ok slots p i event a s, g)

base_one : (buckets : ℕ) (why : Why) (base : Base) (post : Post) (found : ℕ) → is_follow why ≡ false → suits base (kind_of why) ≡ true → Shaped buckets why base → base_shows is_one post base found ≡ false
base_one buckets why (Protect aim index root count at) post found f k h = at_one index root (bump count) post at found (why_one why index f k h.at)
base_one buckets why (Reload parent index slot era count) post found f k h = no_reload why (base_shows is_one post (Reload parent index slot era count) found) f k
base_one buckets why (Clear rows index) post found f k h = cleared_one index (stands post index)
base_one buckets why (Release index) post found f k h = cleared_one index (stands post index)
base_one buckets why base post found f k h = refl

-- the protection of a next link tells no row
next_still : (index n : ℕ) (null : Bool) → list_any is_standing (if null then events.Null index n ∷ [] else []) ≡ false
next_still index n true = refl
next_still index n false = refl

at_still : (index parent n : ℕ) (post : Post) (at : ProtectAt) (found : ℕ) → at_shows is_standing index (roots.Next parent) n post at found ≡ false
at_still index parent n post (CheckClock era tries link) found = and_right_false (found == era) (list_any is_standing (told_held index (roots.Next parent) link n)) (next_still index n (link == 0))
at_still index parent n post (TakeAnswer link era) found = next_still index n (link == 0)
at_still index parent n post (CheckUpper link) found = and_right_false (found == upper post.span) (list_any is_standing (told_held index (roots.Next parent) link n)) (next_still index n (link == 0))
at_still index parent n post (ByHazard FirstLink) found = and_right_false (found == 0) (list_any is_standing (told_held index (roots.Next parent) found n)) (next_still index n (found == 0))
at_still index parent n post (ByHazard (CheckLink link)) found = and_right_false (found == link || found == 0) (list_any is_standing (told_held index (roots.Next parent) found n)) (next_still index n (found == 0))
at_still index parent n post at found = refl

root_still : (index : ℕ) (root : Root) (parent n : ℕ) (post : Post) (at : ProtectAt) (found : ℕ) → root ≡ roots.Next parent → at_shows is_standing index root n post at found ≡ false
root_still index root parent n post at found e = subst (λ (x : Root). at_shows is_standing index x n post at found ≡ false) (sym e) (at_still index parent n post at found)

reload_each : (slots i parent head index slot n found : ℕ) (post : Post) (p : Past) (same : Bool) → (found == parent + 1) ≡ same → parent ≡ head → head_at slots p + 1 ≡ found → stood_at i 0 p ≡ Some head → Each (follows_ok slots) p → Each (follows_ok slots) (tells_of p i (after_reload parent index slot n post found).told)
reload_each slots i parent head index slot n found post p true q e a s g =
    let at : head_at slots p ≡ parent = head_is found parent found (head_at slots p) a refl (number_is found (parent + 1) q) in
    rw q (or_more (not (index == 1)) (is_row (head_at slots p) (stood_at i 0 p)) (row_there (head_at slots p) (stood_at i 0 p) (s ∙ sym (ap Some (at ∙ e)))), g)
reload_each slots i parent head index slot n found post p false q e a s g = rw q g

-- what a seat knows before its step
record Here (buckets slots i : ℕ) (mem : Place → ℕ) (phase : Phase) (post : Post) (p : Past) : Type 0 where
  head : head_at slots p + 1 ≡ mem Head
  queue : (s : ℕ) → stands_on phase s ≡ true → stood_at i 0 p ≡ Some s
  fits : RunFits buckets phase

follow_each : (buckets slots i : ℕ) (mem : Place → ℕ) (head tail : ℕ) (base : Base) (post : Post) (p : Past) → Here buckets slots i mem (Runs (FollowsHead head tail) base) post p → Each (follows_ok slots) p → Each (follows_ok slots) (tells_of p i (machine.after base (counted post) (finds_phase mem (Runs (FollowsHead head tail) base) post)).told)
follow_each buckets slots i mem head tail (Protect aim index root count at) post p k g =
    let found : ℕ = finds_phase mem (Runs (FollowsHead head tail) (Protect aim index root count at)) post in
    still_each slots i (machine.after (Protect aim index root count at) (counted post) found).told p
    (base_any is_standing (Protect aim index root count at) (counted post) found standing_calm ∙ root_still index root head (bump count) (counted post) at found k.fits.1.of) (ap is_some (k.queue head (same_number head))) g
follow_each buckets slots i mem head tail (Reload parent index slot era count) post p k g =
    reload_each slots i parent head index slot (bump count) (mem Head) (counted post) p (mem Head == parent + 1) refl k.fits.1.of k.head (k.queue head (same_number head)) g
follow_each buckets slots i mem head tail base post p k g = let q : suits base ToFollow ≡ true = k.fits.0 in absurd (cc)

own_each : (buckets slots i : ℕ) (mem : Place → ℕ) (phase : Phase) (post : Post) (p : Past) → Here buckets slots i mem phase post p → Each (follows_ok slots) p → Each (follows_ok slots) (tells_of p i (own_told phase (counted post) (finds_phase mem phase post)))
own_each buckets slots i mem Idle post p k g = g
own_each buckets slots i mem (Runs (FollowsHead head tail) base) post p k g = follow_each buckets slots i mem head tail base post p k g
own_each buckets slots i mem (Runs why base) post p k g =
    let found : ℕ = finds_phase mem (Runs why base) post in
    other_each slots i (machine.after base (counted post) found).told p (base_any is_one base (counted post) found one_calm ∙ base_one buckets why base (counted post) found refl k.fits.0 k.fits.1) g
own_each buckets slots i mem (Scans later (ReadGuard number)) post p k g = reads_are (λ event. Each (follows_ok slots) (tells_of p i (event ∷ []))) (publishes_rows post.layout.config.scheme) (guard_at post.layout.config number) (finds_phase mem (Scans later (ReadGuard number)) post) (λ span. (refl, g)) (λ slot. (refl, g))
own_each buckets slots i mem (Scans later (GiveBack place slot)) post p k g = (refl, g)
own_each buckets slots i mem (Works work) post p k g = other_each slots i (work_told work (counted post)) p (work_one work (counted post)) g

step_follows : (buckets slots : ℕ) (w : World) (i : ℕ) (p : Past) → Here buckets slots i w.mem (w.seat i).phase (w.seat i).post p → Each (follows_ok slots) p → Each (follows_ok slots) (tells_of p i (told_in w i))
step_follows buckets slots w i p k g =
    let own : List Event = own_told (w.seat i).phase (counted (w.seat i).post) (finds w i) in
    let x : Adds (own_post (w.seat i).phase (counted (w.seat i).post) (finds w i)) own (turn (offered w i) (finds w i)) = step_adds w i in
    let one : Each (follows_ok slots) (tells_of p i own) = own_each buckets slots i w.mem (w.seat i).phase (w.seat i).post p k g in
    subst (λ (q : Past). Each (follows_ok slots) q) (sym (ap (tells_of p i) x.is ∙ tells_both i own x.more p)) (later_each slots i x.more (tells_of p i own) x.later one)

pub records_follow_head : RecordsFollowHead
records_follow_head layout items d = record_each layout (follows_ok layout.config.slots) items (record {
  begins = λ p i call. refl;
  steps = λ path i t g.
      let w : World = world_of layout path in
      let k = (answers_of layout path d).known.known in
      let l = leads_of layout path d in
      step_follows w.layout.config.buckets layout.config.slots w i (record_of layout path)
      (record { head = l.head; queue = λ s e. record_stands layout path i 0 d ∙ (k.stands.stood i).queue s e; fits = fits_by w i (w.seat i).phase k.seats refl }) g;
})
