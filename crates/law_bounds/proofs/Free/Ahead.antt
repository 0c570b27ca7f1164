-- Among so many turns of a seat something is done, or the tail goes on.
use Rattle.std.proofs.Common.{ℕ, ◌≡◌, ◌≤◌, ◌<◌, ◌+◌, Bool, true, false, List, [], ◌∷◌, ◌++◌, inl, inr, refl, sym, ap, ◌∙◌, subst, arith}
use Rattle.std.proofs.lemmas.Bool.Decides.{nat_tests}
use Rattle.std.specs.Prelude.{◌==◌, nat_lt}
use Rattle.law_held.specs.inv.history.Heard.{heard_from, heard_if, heard_of}
use Rattle.law_held.specs.inv.history.History.{Item, Begins, Steps, Made, did, done, done_if, first_made, fits, made_from, made_of, record_of, world_of}
use Rattle.law_held.specs.inv.history.Turns.{History}
use Rattle.law_held.specs.inv.history.Turns.History.{Blank, Starts, Turns}
use Rattle.law_held.specs.inv.model.Locals.{Local, busy_in}
use Rattle.law_held.specs.inv.model.World.{World, begin, is_busy, may_start, step, told_in}
use Rattle.law_held.specs.inv.model.defs.declared.call.Call.{Call}
use Rattle.law_held.specs.inv.model.words.Place.{is_valid}
use Rattle.law_held.specs.inv.model.words.Schemes.{publishes_rows}
use Rattle.law_held.specs.inv.model.words.declared.config.Config.{Config}
use Rattle.law_held.specs.inv.model.words.declared.layout.Layout.{Layout}
use Rattle.law_held.specs.laws.StateAt.{told}
use Rattle.law_held.proofs.inv.history.Along.{begins_right, begins_within, low_seat, made_snoc}
use Rattle.law_held.proofs.inv.model.Facts.{rest_of}
use Rattle.law_held.proofs.inv.shapes.Frame.{begin_stays, seat_stays}
use Rattle.law_bounds.specs.Free.{still_most, turns_by}
use Rattle.law_bounds.proofs.Free.Goes.{Next, Paid, Place, State, begin_state, enters, other_state, own_state, reads_rows, turns_other}
use Rattle.law_bounds.proofs.Free.Readers.{Reading, reading_begins, reading_enters, reading_few, reading_other, reading_own}
use Rattle.law_bounds.proofs.Free.Seen.{seen_at}
use Rattle.law_bounds.proofs.Free.Told.{ahead_grows, ahead_in, ahead_more, is_ahead}

-- where a seat's turns stand, of which the stretch began with so many: something was done, or the tail went on; or it is in no call, and has taken none; or its
-- call goes on
data Standing (layout : Layout) (k first before : ℕ) (made : Made) (h : History) : Type 0 where
  Done : before < told is_ahead made.past → Standing layout k first before made h
  Rests : is_busy made.world k ≡ false → turns_by k h ≡ first → Standing layout k first before made h
  Goes_on : (x : Place) → State layout k x made h → x.first ≡ first → x.config ≡ layout.config → Standing layout k first before made h
  Reads_on : publishes_rows layout.config.scheme ≡ true → Reading layout k first made h → Standing layout k first before made h

-- a history of one item more
heard_snoc : (made : Made) (path : List Item) (item : Item) (h : History) → heard_from made (path ++ item ∷ []) h ≡ heard_if (made_from made path).world item (fits (made_from made path).world item) (heard_from made path h)
heard_snoc made [] item h = refl
heard_snoc made (first ∷ path) item h = heard_snoc (did made first) path item (heard_if made.world first (fits made.world first) h)

pub next_made : (layout : Layout) (path : List Item) (item : Item) (fit : Bool) → fits (world_of layout path) item ≡ fit → made_of layout (path ++ item ∷ []) ≡ done_if (made_of layout path) item fit
next_made layout path item fit e = made_snoc (first_made layout) path item ∙ ap (done_if (made_of layout path) item) e

pub next_heard : (layout : Layout) (path : List Item) (item : Item) (fit : Bool) → fits (world_of layout path) item ≡ fit → heard_of layout (path ++ item ∷ []) ≡ heard_if (world_of layout path) item fit (heard_of layout path)
next_heard layout path item fit e = heard_snoc (first_made layout) path item Blank ∙ ap (λ (x : Bool). heard_if (world_of layout path) item x (heard_of layout path)) e

-- a seat that is in a call
busy_stands : (layout : Layout) (path : List Item) (k first before : ℕ) → is_valid layout ≡ true → is_busy (world_of layout path) k ≡ true → turns_by k (heard_of layout path) ≡ first → Standing layout k first before (made_of layout path) (heard_of layout path)
busy_stands layout path k first before d b t = by (publishes_rows layout.config.scheme) refl (reads_rows ((world_of layout path).seat k).call) refl
  where
    goes_on : (publishes_rows layout.config.scheme ≡ true → reads_rows ((world_of layout path).seat k).call ≡ false) → Standing layout k first before (made_of layout path) (heard_of layout path)
    goes_on f = let e = enters layout path k d b f in Goes_on e.place e.state (e.first_is ∙ t) e.setting

    by : (rows : Bool) → publishes_rows layout.config.scheme ≡ rows → (reads : Bool) → reads_rows ((world_of layout path).seat k).call ≡ reads → Standing layout k first before (made_of layout path) (heard_of layout path)
    by true e true r = Reads_on e (subst (λ (n : ℕ). Reading layout k n (made_of layout path) (heard_of layout path)) t (reading_enters layout path k d e b r))
    by true e false r = goes_on (λ q. r)
    by false e reads r = goes_on (λ q. absurd (let z : true ≡ false = sym q ∙ e in cc))

-- a call begins
begin_busy : (w : World) (i k : ℕ) (call : Call) → (k == i) ≡ false → is_busy (begin w i call) k ≡ is_busy w k
begin_busy w i k call e = ap (λ (l : Local). busy_in l.phase) (begin_stays w i k call e)

not_both : (b : Bool) → b ≡ true → b ≡ false → ⊥
not_both true e f = cc
not_both false e f = cc

apart_of : (w : World) (i k : ℕ) (same : Bool) → (k == i) ≡ same → is_busy w k ≡ true → is_busy w i ≡ false → (k == i) ≡ false
apart_of w i k true e b f = let one : k ≡ i = grind (arith, nat_tests) in absurd (not_both (is_busy w i) (subst (λ (m : ℕ). is_busy w m ≡ true) one b) f)
apart_of w i k false e b f = e

apart_busy : (w : World) (i k : ℕ) (same : Bool) → (k == i) ≡ same → is_busy w k ≡ false → is_busy w i ≡ true → (k == i) ≡ false
apart_busy w i k true e b f = let one : k ≡ i = grind (arith, nat_tests) in absurd (not_both (is_busy w i) f (subst (λ (m : ℕ). is_busy w m ≡ false) one b))
apart_busy w i k false e b f = e

-- the seat begins a call itself: it is in one, or a call of no step, and then in none
own_begins : (layout : Layout) (path : List Item) (k first before : ℕ) (call : Call) (busy : Bool) → is_busy (begin (world_of layout path) k call) k ≡ busy → is_valid layout ≡ true
    → made_of layout (path ++ Begins k call ∷ []) ≡ done (made_of layout path) (Begins k call) → heard_of layout (path ++ Begins k call ∷ []) ≡ Starts (heard_of layout path) k call → turns_by k (heard_of layout path) ≡ first
    → Standing layout k first before (done (made_of layout path) (Begins k call)) (Starts (heard_of layout path) k call)
own_begins layout path k first before call false b d m h t = Rests b t
own_begins layout path k first before call true b d m h t =
    let here : is_busy (world_of layout (path ++ Begins k call ∷ [])) k ≡ true = subst (λ (x : Made). is_busy x.world k ≡ true) (sym m) b in
    let turns : turns_by k (heard_of layout (path ++ Begins k call ∷ [])) ≡ first = subst (λ (x : History). turns_by k x ≡ first) (sym h) t in
    let s = busy_stands layout (path ++ Begins k call ∷ []) k first before d here turns in
    subst (λ (x : Made). Standing layout k first before x (Starts (heard_of layout path) k call)) m (subst (λ (x : History). Standing layout k first before (made_of layout (path ++ Begins k call ∷ [])) x) h s)

begins_at : (layout : Layout) (path : List Item) (i k first before : ℕ) (call : Call) (same : Bool) → (k == i) ≡ same → is_valid layout ≡ true
    → made_of layout (path ++ Begins i call ∷ []) ≡ done (made_of layout path) (Begins i call) → heard_of layout (path ++ Begins i call ∷ []) ≡ Starts (heard_of layout path) i call → is_busy (world_of layout path) k ≡ false → turns_by k (heard_of layout path) ≡ first
    → Standing layout k first before (done (made_of layout path) (Begins i call)) (Starts (heard_of layout path) i call)
begins_at layout path i k first before call true e d m h b t =
    let one : k ≡ i = grind (arith, nat_tests) in
    subst (λ (j : ℕ). Standing layout k first before (done (made_of layout path) (Begins j call)) (Starts (heard_of layout path) j call)) one
    (own_begins layout path k first before call (is_busy (begin (world_of layout path) k call) k) refl d
    (subst (λ (j : ℕ). made_of layout (path ++ Begins j call ∷ []) ≡ done (made_of layout path) (Begins j call)) (sym one) m)
    (subst (λ (j : ℕ). heard_of layout (path ++ Begins j call ∷ []) ≡ Starts (heard_of layout path) j call) (sym one) h) t)
begins_at layout path i k first before call false e d m h b t = Rests (begin_busy (world_of layout path) i k call e ∙ b) t

begins : (layout : Layout) (path : List Item) (i k first before : ℕ) (call : Call) → is_valid layout ≡ true
    → made_of layout (path ++ Begins i call ∷ []) ≡ done (made_of layout path) (Begins i call) → heard_of layout (path ++ Begins i call ∷ []) ≡ Starts (heard_of layout path) i call → is_busy (world_of layout path) i ≡ false → may_start (world_of layout path) i call ≡ true
    → Standing layout k first before (made_of layout path) (heard_of layout path) → Standing layout k first before (done (made_of layout path) (Begins i call)) (Starts (heard_of layout path) i call)
begins layout path i k first before call d m h f s (Done g) = Done (omega (arith, g))
begins layout path i k first before call d m h f s (Rests b t) = begins_at layout path i k first before call (k == i) refl d m h b t
begins layout path i k first before call d m h f s (Goes_on x g e c) = let b = g.busy in Goes_on x (begin_state layout path i k call x (apart_of (world_of layout path) i k (k == i) refl b f) f s g) e c
begins layout path i k first before call d m h f s (Reads_on r g) = let b = g.busy in Reads_on r (reading_begins layout path i k first call (apart_of (world_of layout path) i k (k == i) refl b f) g)

-- a step
step_busy : (w : World) (i k : ℕ) → (k == i) ≡ false → is_busy (step w i) k ≡ is_busy w k
step_busy w i k e = ap (λ (l : Local). busy_in l.phase) (seat_stays w i k e)

goes_at : (layout : Layout) (path : List Item) (i k first before : ℕ) (same : Bool) → (k == i) ≡ same → Next layout path (Steps i) → i < (world_of layout path).layout.config.seats → is_busy (world_of layout path) i ≡ true → ahead_in (told_in (world_of layout path) i) ≡ false
    → (x : Place) → State layout k x (made_of layout path) (heard_of layout path) → State layout k x (done (made_of layout path) (Steps i)) (Turns (heard_of layout path) i (told_in (world_of layout path) i))
goes_at layout path i k first before true e n b y h x g =
    let one : k ≡ i = grind (arith, nat_tests) in
    let w : World = world_of layout path in
    subst (λ (j : ℕ). State layout k x (done (made_of layout path) (Steps j)) (Turns (heard_of layout path) j (told_in w j))) one
    (own_state layout path k x (subst (λ (j : ℕ). Next layout path (Steps j)) (sym one) n) (subst (λ (j : ℕ). j < w.layout.config.seats) (sym one) b) (subst (λ (j : ℕ). ahead_in (told_in w j) ≡ false) (sym one) h) g)
goes_at layout path i k first before false e n b y h x g = other_state layout path i k x e n b y h g

reads_at : (layout : Layout) (path : List Item) (i k first : ℕ) (same : Bool) → (k == i) ≡ same → is_valid layout ≡ true → publishes_rows layout.config.scheme ≡ true → ahead_in (told_in (world_of layout path) i) ≡ false
    → Reading layout k first (made_of layout path) (heard_of layout path) → Reading layout k first (done (made_of layout path) (Steps i)) (Turns (heard_of layout path) i (told_in (world_of layout path) i))
reads_at layout path i k first true e d f h g =
    let one : k ≡ i = grind (arith, nat_tests) in
    let w : World = world_of layout path in
    subst (λ (j : ℕ). Reading layout k first (done (made_of layout path) (Steps j)) (Turns (heard_of layout path) j (told_in w j))) one (reading_own layout path k first d f (subst (λ (j : ℕ). ahead_in (told_in w j) ≡ false) (sym one) h) g)
reads_at layout path i k first false e d f h g = reading_other layout path i k first e h g

still_steps : (layout : Layout) (path : List Item) (i k first before : ℕ) → Next layout path (Steps i) → i < (world_of layout path).layout.config.seats → is_busy (world_of layout path) i ≡ true → ahead_in (told_in (world_of layout path) i) ≡ false
    → Standing layout k first before (made_of layout path) (heard_of layout path) → Standing layout k first before (done (made_of layout path) (Steps i)) (Turns (heard_of layout path) i (told_in (world_of layout path) i))
still_steps layout path i k first before n b y h (Done g) = let a = ahead_grows i (told_in (world_of layout path) i) (record_of layout path) in Done (omega (arith, g, a))
still_steps layout path i k first before n b y h (Rests f t) =
    let w : World = world_of layout path in
    let e = apart_busy w i k (k == i) refl f y in
    Rests (step_busy w i k e ∙ f) (turns_other k i (heard_of layout path) (told_in w i) e ∙ t)
still_steps layout path i k first before n b y h (Goes_on x g e c) = Goes_on x (goes_at layout path i k first before (k == i) refl n b y h x g) e c
still_steps layout path i k first before n b y h (Reads_on r g) = Reads_on r (reads_at layout path i k first (k == i) refl n.valid r h g)

-- so far nothing is untold
steps_by : (layout : Layout) (path : List Item) (i k first before : ℕ) (some : Bool) → ahead_in (told_in (world_of layout path) i) ≡ some → Next layout path (Steps i) → i < (world_of layout path).layout.config.seats → is_busy (world_of layout path) i ≡ true → before ≤ told is_ahead (record_of layout path)
    → Standing layout k first before (made_of layout path) (heard_of layout path) → Standing layout k first before (done (made_of layout path) (Steps i)) (Turns (heard_of layout path) i (told_in (world_of layout path) i))
steps_by layout path i k first before true e n b y l s = let a = ahead_more i (told_in (world_of layout path) i) (record_of layout path) e in Done (omega (arith, a, l))
steps_by layout path i k first before false e n b y l s = still_steps layout path i k first before n b y e s

-- what a stretch has come to
record Stretch (layout : Layout) (k first before : ℕ) (made : Made) (h : History) : Type 0 where
  least : before ≤ told is_ahead made.past
  stands : Standing layout k first before made h

item_stands : (layout : Layout) (path : List Item) (item : Item) (k first before : ℕ) (fit : Bool) → is_valid layout ≡ true → fits (world_of layout path) item ≡ fit → Stretch layout k first before (made_of layout path) (heard_of layout path)
    → Stretch layout k first before (done_if (made_of layout path) item fit) (heard_if (world_of layout path) item fit (heard_of layout path))
item_stands layout path item k first before false d e s = s
item_stands layout path (Begins i call) k first before true d e s =
    let w : World = world_of layout path in
    let l = s.least in
    record {
      least = omega (arith, l);
      stands = begins layout path i k first before call d (next_made layout path (Begins i call) true e) (next_heard layout path (Begins i call) true e) (begins_right i w.layout.config.seats (is_busy w i) (may_start w i call) e) (begins_within i w.layout.config.seats (is_busy w i) (may_start w i call) e) s.stands;
    }
item_stands layout path (Steps i) k first before true d e s =
    let w : World = world_of layout path in
    let l = s.least in
    let g = ahead_grows i (told_in w i) (record_of layout path) in
    record {
      least = omega (arith, l, g);
      stands = steps_by layout path i k first before (ahead_in (told_in w i)) refl (record { valid = d; made_is = next_made layout path (Steps i) true e }) (low_seat i w.layout.config.seats (is_busy w i) e) (rest_of (nat_lt i w.layout.config.seats) (is_busy w i) e) l s.stands;
    }

snoc_stands : (layout : Layout) (path : List Item) (item : Item) (k first before : ℕ) → is_valid layout ≡ true → Stretch layout k first before (made_of layout path) (heard_of layout path) → Stretch layout k first before (made_of layout (path ++ item ∷ [])) (heard_of layout (path ++ item ∷ []))
snoc_stands layout path item k first before d s =
    let fit : Bool = fits (world_of layout path) item in
    let m = next_made layout path item fit refl in
    let h = next_heard layout path item fit refl in
    subst (λ (x : Made). Stretch layout k first before x (heard_of layout (path ++ item ∷ []))) (sym m)
    (subst (λ (x : History). Stretch layout k first before (done_if (made_of layout path) item fit) x) (sym h) (item_stands layout path item k first before fit d refl s))

pub joined : (path : List Item) (item : Item) (more : List Item) → (path ++ item ∷ []) ++ more ≡ path ++ item ∷ more
joined [] item more = refl
joined (first ∷ path) item more = ap (λ (xs : List Item). first ∷ xs) (joined path item more)

pub ended : (path : List Item) → path ++ [] ≡ path
ended [] = refl
ended (first ∷ path) = ap (λ (xs : List Item). first ∷ xs) (ended path)

along_stands : (layout : Layout) (more path : List Item) (k first before : ℕ) → is_valid layout ≡ true → Stretch layout k first before (made_of layout path) (heard_of layout path) → Stretch layout k first before (made_of layout (path ++ more)) (heard_of layout (path ++ more))
along_stands layout [] path k first before d s = subst (λ (xs : List Item). Stretch layout k first before (made_of layout xs) (heard_of layout xs)) (sym (ended path)) s
along_stands layout (item ∷ more) path k first before d s =
    subst (λ (xs : List Item). Stretch layout k first before (made_of layout xs) (heard_of layout xs)) (joined path item more) (along_stands layout more (path ++ item ∷ []) k first before d (snoc_stands layout path item k first before d s))

-- where it begins
first_stands : (layout : Layout) (path : List Item) (k : ℕ) (busy : Bool) → is_busy (world_of layout path) k ≡ busy → is_valid layout ≡ true → Standing layout k (turns_by k (heard_of layout path)) (told is_ahead (record_of layout path)) (made_of layout path) (heard_of layout path)
first_stands layout path k true b d = busy_stands layout path k (turns_by k (heard_of layout path)) (told is_ahead (record_of layout path)) d b refl
first_stands layout path k false b d = Rests b refl

-- while nothing is done and the tail does not go on few turns are taken
paid_few : (layout : Layout) (k : ℕ) (x : Place) (made : Made) (h : History) → State layout k x made h → x.config ≡ layout.config → turns_by k h ≤ x.first + still_most layout.config
paid_few layout k x made h g c = subst (λ (d : Config). turns_by k h ≤ x.first + still_most d) c (by g.paid)
  where
    by : Paid x (turns_by k h) (seen_at made.world k) (made.world.seat k) → turns_by k h ≤ x.first + still_most x.config
    by (inl p) = let q = p.1 in omega (arith, q)
    by (inr p) = let q = p.1 in omega (arith, q)

stands_few : (layout : Layout) (k first before : ℕ) (made : Made) (h : History) → Standing layout k first before made h → first + still_most layout.config < turns_by k h → before < told is_ahead made.past
stands_few layout k first before made h (Done g) l = g
stands_few layout k first before made h (Rests b t) l = absurd (omega (arith, t, l))
stands_few layout k first before made h (Goes_on x g e c) l = let a = paid_few layout k x made h g c in absurd (omega (arith, a, e, l))
stands_few layout k first before made h (Reads_on r g) l = let a = reading_few layout k first made h g in absurd (omega (arith, a, l))

pub seats_go_ahead : (layout : Layout) (items more : List Item) (k : ℕ) → is_valid layout ≡ true → turns_by k (heard_of layout items) + still_most layout.config < turns_by k (heard_of layout (items ++ more))
    → told is_ahead (record_of layout items) < told is_ahead (record_of layout (items ++ more))
seats_go_ahead layout items more k d l =
    let s = along_stands layout more items k (turns_by k (heard_of layout items)) (told is_ahead (record_of layout items)) d (record { least = omega arith; stands = first_stands layout items k (is_busy (world_of layout items) k) refl d }) in
    stands_few layout k (turns_by k (heard_of layout items)) (told is_ahead (record_of layout items)) (made_of layout (items ++ more)) (heard_of layout (items ++ more)) s.stands l
