-- Where a call is counted once more for each time that its bucket or the queue was moved before it began, it still loses no more rounds
-- than it may.
use Rattle.std.proofs.Common.{ℕ, ◌≡◌, ◌≤◌, ◌<◌, ◌+◌, ◌-◌, ◌*◌, ◌%◌, Bool, true, false, length, Option, Some, None, refl, sym, ap, subst, arith}
use Rattle.std.proofs.lemmas.Bool.Decides.{nat_tests}
use Rattle.std.specs.Prelude.{◌==◌}
use Rattle.law_scans.specs.inv.model.words.Place.Place.{Tail}
use Rattle.law_scans.specs.inv.model.defs.declared.call.Call.{Call}
use Rattle.law_scans.specs.inv.model.defs.declared.call.Call.TheVariants as names
use Rattle.law_scans.specs.inv.model.declared.post.Post.{Post}
use Rattle.law_scans.proofs.Leaving.{parts_all}
use Rattle.law_scans.specs.inv.model.Calls.{Gets, Changes, Holds, Enqueues, Dequeues, LetGo, Released, Rehold, Dropped}
use Rattle.law_scans.specs.inv.model.Locals.{Local, begun_post}
use Rattle.law_scans.specs.inv.model.Posts.{stands}
use Rattle.law_scans.specs.inv.model.Phases.{Base}
use Rattle.law_scans.specs.inv.model.Rounds.{let_index, letting, letting_by, release_base, scheme_of}
use Rattle.law_scans.specs.inv.model.Steps as steps
use Rattle.law_scans.specs.inv.model.World.{World, begin, step, is_busy}
use Rattle.law_scans.proofs.reuse.shapes.Frame.{begin_stays, begin_begins}
use Rattle.law_scans.specs.inv.Known.{Known}
use Rattle.law_scans.proofs.inv.Contents.Items.Gives.{items_count}
use Rattle.law_scans.proofs.reuse.Lawful.Current.{idle_untracked}
use Rattle.law_scans.proofs.inv.ends.Origins.Kept.{origins_begin}
use Rattle.law_scans.specs.inv.ends.Origins.{Origins}
use Rattle.law_scans.specs.inv.ends.Tracked.{Tracked, root_in}
use Rattle.law_scans.specs.inv.requests.NextDeals.{next_deals}
use Rattle.law_scans.specs.inv.requests.Standing.{Requests}
use Rattle.law_scans.specs.inv.requests.Views.{View as Asked}
use Rattle.law_scans.specs.inv.ends.Losses.{Losses}
use Rattle.law_scans.proofs.inv.Rounds.Ending.{rounds_give}
use Rattle.law_scans.proofs.inv.Rounds.Paced.{round_paced}
use Rattle.law_scans.specs.inv.Rounds.{Rounds}
use Rattle.law_scans.specs.inv.Tallies.{Tally, tally, phase_paced, phase_good}
use Rattle.law_scans.specs.inv.rows.Chain.{line_after, queue_of}
use Rattle.law_scans.specs.inv.rows.Queue.{Line}
use Rattle.law_scans.specs.inv.rows.Rows.{View}
use Rattle.law_scans.specs.inv.model.defs.declared.event.Root.{Root}
use Rattle.law_reasons.proofs.Repeats.Gets.{losses_step}
use Rattle.law_reasons.proofs.Repeats.Shift.{rounds_alike, shifted, shifted_needs, shifted_step, tracked_alike}
use Rattle.law_scans.proofs.inv.Inv.Kept.{rounds_need}

-- no more is counted than the setting allows
pub record Few (t : Tally) (last : ℕ) : Type 0 where
  pub count : (b : ℕ) → t.count b ≤ last
  pub passes : t.passes ≤ 2 * last
  pub takes : t.takes ≤ 2 * last

-- no more was changed, queued and taken than the setting allows
pub few_of : (w : World) (v : View) (l : Line) (z : Asked) → Known w v l z → Few (tally w l) w.layout.config.last_version
few_of w v l z k =
    let a = k.whole.both.queue.line in
    let s = a.some in
    let q : queue_of v (w.mem Tail - 1) ≡ true = a.reached (w.mem Tail - 1) (omega (arith, s)) in
    let d : l.lined (w.mem Tail - 1) ≡ true = a.lined (w.mem Tail - 1) q in
    let n : l.number (w.mem Tail - 1) ≤ length w.book.queued = k.items.rows.within (w.mem Tail - 1) d in
    let r : length w.book.queued ≤ w.layout.config.last_version = k.items.rows.room in
    let t : w.book.taken ≤ length w.book.queued = (items_count w v l k.whole.both k.items).taken in
    record { count = λ b. k.bounded.versions b; passes = omega (arith, n, r); takes = omega (arith, n, r, t) }

-- a step loses no more rounds than it may where what was counted before its call is counted with it
pub counted_step : (w : World) (i : ℕ) (v : View) (l : Line) (z : Asked) (n m : ℕ → ℕ) → i < w.layout.config.seats → Known w v l z → ((k : ℕ) → m k ≡ n k) → Rounds (shifted w n) l z → Losses (shifted w n) → Losses (shifted (step w i) m)
counted_step w i v l z n m b k e r f = losses_step w i v l z n m k e (rounds_give (shifted w n) i v l z (shifted_needs w i v l z n (rounds_need w i v l z b k) f) r) f

-- counts that are the same
pub same_shift : (w : World) (l : Line) (z : Asked) (n m : ℕ → ℕ) → ((k : ℕ) → m k ≡ n k) → Rounds (shifted w n) l z → Rounds (shifted w m) l z
same_shift w l z n m e r = rounds_alike w (shifted w n).seat (shifted w m).seat l z (λ k. record { phase = refl; post = refl; desk = refl; rounds = ap (λ (x : ℕ). (w.seat k).rounds + x) (sym (e k)) }) r

pub paced_step : (w : World) (i : ℕ) (v : View) (l : Line) (z next : Asked) (n m : ℕ → ℕ) → i < w.layout.config.seats → Known w v l z → Losses (shifted w n) → next.deal ≡ next_deals w i z.deal → ((k : ℕ) → m k ≡ n k) → Rounds (shifted w n) l z → Rounds (shifted (step w i) m) (line_after w i l) next
paced_step w i v l z next n m b k f d e r = same_shift (step w i) (line_after w i l) next n m e (shifted_step w i v l z next n (rounds_need w i v l z b k) f d r)

-- a call begins with what there is counted before it
abbrev pub counted_for : Tally → Call → ℕ → Type 0
counted_for t (names.Put key value) n = n ≤ t.count (key % t.buckets)
counted_for t (names.Remove key) n = n ≤ t.count (key % t.buckets)
counted_for t (names.PutIf key value version) n = n ≤ t.count (key % t.buckets)
counted_for t (names.Enqueue value) n = n ≤ t.passes
counted_for t names.Dequeue n = n ≤ t.takes
counted_for t (names.Get key) n = n ≤ t.count (key % t.buckets)
counted_for t (names.Hold key) n = n ≤ t.count (key % t.buckets)
counted_for t call n = Unit {0}

letting_paced : (t : Tally) (n : ℕ) (let_go : LetGo) (post : Post) → phase_paced t n (letting let_go post)
letting_paced t n let_go post = by (release_base (scheme_of post) post (let_index let_go))
  where
    by : (x : Option Base) → phase_paced t n (letting_by let_go x)
    by None = tt
    by (Some base) = tt

copying_paced : (t : Tally) (n from index : ℕ) (x : Option ℕ) → phase_paced t n (steps.copying from index x)
copying_paced t n from index None = tt
copying_paced t n from index (Some slot) = tt

looking_paced : (t : Tally) (n index key : ℕ) (x : Option ℕ) → phase_paced t n (steps.looking_at index key x)
looking_paced t n index key None = tt
looking_paced t n index key (Some slot) = tt

holding_paced : (t : Tally) (n key : ℕ) (post : Post) (stood : Option ℕ) → n ≤ t.count (key % t.buckets) → phase_paced t n (steps.holding key post stood)
holding_paced t n key post None h = round_paced t n (Holds key) post h
holding_paced t n key post (Some slot) h = letting_paced t n (Rehold key) post

no_more : (n m : ℕ) → n ≤ m → n ≤ m + 0
no_more n m h = omega (arith, h)

first_paced : (t : Tally) (call : Call) (n : ℕ) (post : Post) → counted_for t call n → phase_paced t n (steps.first_phase call post)
first_paced t (names.Get key) n post h = round_paced t n (Gets key) post h
first_paced t (names.Put key value) n post h = round_paced t n (Changes _) post (no_more n (t.count (key % t.buckets)) h)
first_paced t (names.Remove key) n post h = round_paced t n (Changes _) post (no_more n (t.count (key % t.buckets)) h)
first_paced t (names.Enqueue value) n post h = round_paced t n (Enqueues _) post (no_more n t.passes h)
first_paced t names.Dequeue n post h = round_paced t n Dequeues post h
first_paced t (names.Hold key) n post h = holding_paced t n key post (stands post 2) h
first_paced t names.Release n post h = letting_paced t n Released post
first_paced t (names.Copy from index) n post h = copying_paced t n from index (stands post from)
first_paced t (names.DropIndex index) n post h = letting_paced t n (Dropped index) post
first_paced t (names.Look index key) n post h = looking_paced t n index key (stands post index)
first_paced t names.Leave n post h = parts_all (phase_paced t n) (record { clears = λ rows index. tt; hides = tt; marks = tt }) post
first_paced t (names.Adopt place) n post h = tt
first_paced t (names.PutIf key value version) n post h = round_paced t n (Changes _) post (no_more n (t.count (key % t.buckets)) h)
first_paced t names.Advance n post h = tt
first_paced t names.Scan n post h = tt

-- where a call begins
begun_paced : (w : World) (i k : ℕ) (call : Call) (l : Line) (z : Asked) (n m : ℕ → ℕ) (same : Bool) → (k == i) ≡ same → ((j : ℕ) → (j == i) ≡ false → m j ≡ n j) → counted_for (tally w l) call (m i) → Rounds (shifted w n) l z
    → phase_paced (tally w l) (((begin w i call).seat k).rounds + m k) ((begin w i call).seat k).phase
begun_paced w i k call l z n m true e o c r =
    let q : i ≡ k = grind (arith, nat_tests) in
    let f : phase_paced (tally w l) (m i) (steps.first_phase call (begun_post (w.seat i).post)) = first_paced (tally w l) call (m i) (begun_post (w.seat i).post) c in
    subst (λ (j : ℕ). phase_paced (tally w l) (((begin w i call).seat j).rounds + m j) ((begin w i call).seat j).phase) q
    (subst (λ (s : Local). phase_paced (tally w l) (s.rounds + m i) s.phase) (sym (begin_begins w i call)) (subst (λ (x : ℕ). phase_paced (tally w l) x (steps.first_phase call (begun_post (w.seat i).post))) (none_first (m i)) f))
  where
    none_first : (x : ℕ) → x ≡ 0 + x
    none_first x = omega arith
begun_paced w i k call l z n m false e o c r =
    subst (λ (s : Local). phase_paced (tally w l) (s.rounds + m k) s.phase) (sym (begin_stays w i k call e)) (subst (λ (x : ℕ). phase_paced (tally w l) ((w.seat k).rounds + x) (w.seat k).phase) (sym (o k e)) (r.paced k))

begun_good : (w : World) (i k x : ℕ) (call : Call) (l : Line) (z : Asked) (n m : ℕ → ℕ) (same : Bool) → (k == i) ≡ same → is_busy w i ≡ false → Requests w z → ((j : ℕ) → (j == i) ≡ false → m j ≡ n j) → Rounds (shifted w n) l z → Tracked w z k x
    → phase_good (tally w l) (((begin w i call).seat k).rounds + m k) ((begin w i call).seat k).phase (root_in w k) x ≡ true
begun_good w i k x call l z n m true e f q o r t =
    let j : k ≡ i = grind (arith, nat_tests) in
    absurd (idle_untracked w i z x f q (subst (λ (a : ℕ). Tracked w z a x) j t))
begun_good w i k x call l z n m false e f q o r t =
    subst (λ (s : Local). phase_good (tally w l) (s.rounds + m k) s.phase (root_in w k) x ≡ true) (sym (begin_stays w i k call e))
    (subst (λ (a : ℕ). phase_good (tally w l) ((w.seat k).rounds + a) (w.seat k).phase (root_in w k) x ≡ true) (sym (o k e))
    (r.links.tracked k x (tracked_alike w (shifted w n).seat w.seat z k x (λ a. refl) (λ a. refl) t)))

pub paced_begin : (w : World) (i : ℕ) (call : Call) (l : Line) (z next : Asked) (n m : ℕ → ℕ) → is_busy w i ≡ false → Requests w z → next.deal ≡ z.deal → ((j : ℕ) → (j == i) ≡ false → m j ≡ n j) → counted_for (tally w l) call (m i) → Rounds (shifted w n) l z → Rounds (shifted (begin w i call) m) l next
paced_begin w i call l z next n m f q d o c r =
    let good : ℕ → Root → ℕ → Bool = λ k root x. phase_good (tally w l) (((begin w i call).seat k).rounds + m k) ((begin w i call).seat k).phase root x in
    let g : Origins good (begin w i call) next = origins_begin good w i call z next f q d (record { tracked = λ k x t. begun_good w i k x call l z n m (k == i) refl f q o r t }) in
    record {
      paced = λ k. begun_paced w i k call l z n m (k == i) refl o c r;
      links = record { tracked = λ k x t. g.tracked k x (tracked_alike (begin w i call) (begin w i call).seat (shifted (begin w i call) m).seat next k x (λ a. refl) (λ a. refl) t) };
    }
