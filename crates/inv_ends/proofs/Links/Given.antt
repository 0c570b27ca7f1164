-- What tracked links give to the contents of rows and to the queue.
use Rattle.std.proofs.Common.{ℕ, ◌≡◌, ◌<◌, ◌+◌, ◌-◌, ◌%◌, ◌∙◌, Bool, true, Some, arith, refl, sym, ap, subst}
use Rattle.std.proofs.lemmas.Bool.Decides.{nat_tests}
use Rattle.std.specs.Prelude.{◌==◌, ◌&&◌, ◌||◌, not}
use Rattle.inv_rows.specs.words.Place.Place.{Clock, Row}
use Rattle.inv_rows.specs.words.Packed.{read_request}
use Rattle.inv_rows.specs.words.declared.packed.Request.TheVariants as requests
use Rattle.inv_rows.specs.defs.declared.event.Root.{Root}
use Rattle.inv_rows.specs.defs.declared.event.Root.TheVariants as roots
use Rattle.inv_rows.specs.model.declared.ends.ProtectEnd.TheVariants as protect_ends
use Rattle.inv_rows.specs.model.Book.{Book}
use Rattle.inv_rows.specs.model.Machine.{after}
use Rattle.inv_rows.specs.model.Posts.{counted, upper}
use Rattle.inv_rows.specs.model.Phases.{Aim, HazardAt, ProtectAt, Base, Ends, Protected}
use Rattle.inv_rows.specs.model.Phases.ProtectAt.{CheckClock, CheckUpper, TakeAnswer, ByHazard}
use Rattle.inv_rows.specs.model.Phases.HazardAt.{CheckLink}
use Rattle.inv_rows.specs.model.Phases.Base.{Protect}
use Rattle.inv_rows.specs.model.Calls.{Gets, Changes, Holds, Why, Opens, FollowsHead, Phase, Runs}
use Rattle.inv_rows.specs.model.World.{World, finds}
use Rattle.inv_rows.specs.model.declared.post.Post.{Post}
use Rattle.inv_rows.proofs.model.Facts.{both, first_of, rest_of, one_more_less}
use Rattle.inv_rows.specs.Shapes.Seats.{root_by}
use Rattle.inv_rows.specs.Covering.Requests.Parents.{rises_at}
use Rattle.inv_rows.specs.Covering.Requests.Views.{View as Asking}
use Rattle.inv_rows.specs.Rows.{View}
use Rattle.inv_rows.specs.Chain.{queue_of, Both}
use Rattle.inv_rows.specs.Follow.{at_asks}
use Rattle.inv_rows.specs.Queue.{Line}
use Rattle.inv_rows.specs.Tries.{is_tail, is_head, FromHead}
use Rattle.inv_ends.proofs.Origins.Came.{aimed_at}
use Rattle.inv_ends.proofs.Origins.Ends.{by_try, end_good, end_root, answer_tracked, found_clock}
use Rattle.inv_ends.specs.Origins.{OriginsNeeds}
use Rattle.inv_ends.specs.Tracked.{Carried, carries_at, carries_in, root_for, root_in}
use Rattle.inv_ends.specs.Links.{is_bucket, links_to, Links, LinksGive}
use Rattle.inv_rows.specs.model.Links.{link_place}
use Rattle.inv_rows.proofs.Covering.Held.{finds_at}
use Rattle.inv_rows.specs.Rows.Status.{Linked}
use Rattle.inv_ends.proofs.Links.Fits.{fresh_link}

-- a link that is not null
bucket_is : (b : ℕ) (root : Root) → is_bucket b root ≡ true → root ≡ roots.Bucket b
bucket_is b (roots.Bucket bucket) h = let q : bucket ≡ b = grind (arith, nat_tests) in ap roots.Bucket q
bucket_is b roots.Head h = absurd (cc)
bucket_is b roots.Tail h = absurd (cc)
bucket_is b (roots.Next parent) h = absurd (cc)

not_null : (s : ℕ) (b : Bool) → (s + 1 == 0 || b) ≡ true → b ≡ true
not_null s b h = grind (arith, nat_tests)

bucket_link : (book : Book) (b s : ℕ) → (s + 1 == 0 || is_bucket b (book.row (s + 1 - 1)).root) ≡ true → (book.row s).root ≡ roots.Bucket b
bucket_link book b s h =
    bucket_is b (book.row s).root (subst (λ (n : ℕ). is_bucket b (book.row n).root ≡ true) (one_more_less s) (not_null s (is_bucket b (book.row (s + 1 - 1)).root) h))

tail_link : (w : World) (v : View) (l : Line) (root : Root) (s : ℕ) → is_tail root ≡ true → links_to w.book w.mem v l root (s + 1) ≡ true → l.lined s ≡ true
tail_link w v l (roots.Bucket b) s e h = absurd (cc)
tail_link w v l roots.Head s e h = absurd (cc)
tail_link w v l roots.Tail s e h = subst (λ (n : ℕ). l.lined n ≡ true) (one_more_less s) (not_null s (l.lined (s + 1 - 1)) h)
tail_link w v l (roots.Next parent) s e h = absurd (cc)

leads_is : (q : Bool) (head x : ℕ) → (not q || head == x) ≡ true → q ≡ true → head ≡ x
leads_is q head x h p = grind (arith, nat_tests)

head_link : (w : World) (v : View) (l : Line) (root : Root) (s : ℕ) → is_head root ≡ true → links_to w.book w.mem v l root (s + 1) ≡ true → FromHead (queue_of v) l v.head s
head_link w v l (roots.Bucket b) s e h = absurd (cc)
head_link w v l roots.Head s e h =
    let g = not_null s (l.lined (s + 1 - 1) && (not (queue_of v (s + 1 - 1)) || v.head == s + 1)) h in
    let a = subst (λ (n : ℕ). l.lined n ≡ true) (one_more_less s) (first_of (l.lined (s + 1 - 1)) (not (queue_of v (s + 1 - 1)) || v.head == s + 1) g) in
    let b = subst (λ (n : ℕ). (not (queue_of v n) || v.head == s + 1) ≡ true) (one_more_less s) (rest_of (l.lined (s + 1 - 1)) (not (queue_of v (s + 1 - 1)) || v.head == s + 1) g) in
    record { lined = a; first = λ q. leads_is (queue_of v s) v.head (s + 1) b q }
head_link w v l roots.Tail s e h = absurd (cc)
head_link w v l (roots.Next parent) s e h = absurd (cc)

next_link : (word x : ℕ) → 0 < x → (x == 0 || word == x) ≡ true → word ≡ x
next_link word x p h = grind (arith, nat_tests)

-- the link of an answer
answer_link : (w : World) (i : ℕ) (v : View) (l : Line) (z : Asking) (why : Why) (aim : Aim) (index : ℕ) (root : Root) (steps : ℕ) (at : ProtectAt) (link era : ℕ) → OriginsNeeds w i z → Links w v l z → (w.seat i).phase ≡ Runs why (Protect aim index root steps at) → at_asks at ≡ true → read_request (finds w i) ≡ Some (requests.Answered link era) → links_to w.book w.mem v l root link ≡ true
answer_link w i v l z why aim index root steps at link era n h q a r =
    subst (λ (x : Root). links_to w.book w.mem v l x link ≡ true) (ap root_for q) (h.tracked i link (answer_tracked w i z why aim index root steps at link era n q a r))

-- the link with which a protection ends
held_link : (w : World) (i : ℕ) (v : View) (l : Line) (z : Asking) (why : Why) (base : Base) (slot era : ℕ) → OriginsNeeds w i z → Both w v l → ((s b : ℕ) → v.status s ≡ Linked b → (w.book.row s).root ≡ roots.Bucket b) → Links w v l z → (w.seat i).phase ≡ Runs why base → (after base (counted (w.seat i).post) (finds w i)).outcome ≡ Ends (Protected (protect_ends.Held slot era)) → links_to w.book w.mem v l (root_by w.layout.config.buckets why) (slot + 1) ≡ true
held_link w i v l z why base slot era n f g h q o =
    subst (λ (x : Root). links_to w.book w.mem v l x (slot + 1) ≡ true) (end_root w i why base (Protected (protect_ends.Held slot era)) (slot + 1) n.seats q o refl)
    (end_good (λ k. links_to w.book w.mem v l) w i z why base (Protected (protect_ends.Held slot era)) (slot + 1) h (fresh_link w v l (root_in w i) f g) q o refl)

-- a row that comes to stand is that of a link that was tracked, or that is loaded now
rises_carries : (post : Post) (at : ProtectAt) (found s : ℕ) → by_try at ≡ true → rises_at post at found s ≡ true → carries_at found (upper post.span) at (s + 1) ≡ true
rises_carries post (CheckClock era tries link) found s b h = both (link == s + 1) (found == era) (rest_of (found == era) (link == s + 1) h) (first_of (found == era) (link == s + 1) h)
rises_carries post (TakeAnswer link era) found s b h = h
rises_carries post (CheckUpper link) found s b h = both (link == s + 1) (found == upper post.span) (rest_of (found == upper post.span) (link == s + 1) h) (first_of (found == upper post.span) (link == s + 1) h)
rises_carries post at found s b h = absurd (cc)

-- what stands once a link is loaded again is what the root leads to
rises_finds : (link found s : ℕ) → (found == link && link == s + 1) ≡ true → found ≡ s + 1
rises_finds link found s h = grind (arith, nat_tests)

rising_try : (w : World) (i : ℕ) (v : View) (l : Line) (z : Asking) (why : Why) (aim : Aim) (index : ℕ) (root : Root) (steps : ℕ) (at : ProtectAt) (s : ℕ) → by_try at ≡ true → Links w v l z → (w.seat i).phase ≡ Runs why (Protect aim index root steps at) → rises_at (w.seat i).post at (finds w i) s ≡ true → links_to w.book w.mem v l (root_in w i) (s + 1) ≡ true
rising_try w i v l z why aim index root steps at s b h q r =
    let c : carries_at (w.mem Clock) (upper (w.seat i).post.span) at (s + 1) ≡ true = found_clock w i why aim index root steps at (s + 1) q (rises_carries (w.seat i).post at (finds w i) s b r) in
    h.tracked i (s + 1) (Carried (subst (λ (f : Phase). carries_in (w.mem Clock) (upper (w.seat i).post.span) f (s + 1) ≡ true) (sym q) c))

rising_hazard : (w : World) (i : ℕ) (v : View) (l : Line) (why : Why) (aim : Aim) (index : ℕ) (root : Root) (steps : ℕ) (at : HazardAt) (s : ℕ) → Both w v l → ((s b : ℕ) → v.status s ≡ Linked b → (w.book.row s).root ≡ roots.Bucket b)
    → (w.seat i).phase ≡ Runs why (Protect aim index root steps (ByHazard at)) → rises_at (w.seat i).post (ByHazard at) (finds w i) s ≡ true → links_to w.book w.mem v l (root_in w i) (s + 1) ≡ true
rising_hazard w i v l why aim index root steps (CheckLink link) s f g q r =
    let e : w.mem (link_place (root_in w i)) ≡ s + 1 = ap (λ (p : Phase). w.mem (link_place (root_for p))) q ∙ sym (finds_at w i (Runs why (Protect aim index root steps (ByHazard (CheckLink link)))) q) ∙ rises_finds link (finds w i) s r in
    subst (λ (x : ℕ). links_to w.book w.mem v l (root_in w i) x ≡ true) e (fresh_link w v l (root_in w i) f g)
rising_hazard w i v l why aim index root steps at s f g q r = absurd (cc)

rising_root : (w : World) (i : ℕ) (v : View) (l : Line) (z : Asking) (why : Why) (aim : Aim) (index : ℕ) (root : Root) (steps : ℕ) (at : ProtectAt) (s : ℕ) → Both w v l → ((s b : ℕ) → v.status s ≡ Linked b → (w.book.row s).root ≡ roots.Bucket b) → Links w v l z
    → (w.seat i).phase ≡ Runs why (Protect aim index root steps at) → rises_at (w.seat i).post at (finds w i) s ≡ true → links_to w.book w.mem v l (root_in w i) (s + 1) ≡ true
rising_root w i v l z why aim index root steps (ByHazard at) s f g h q r = rising_hazard w i v l why aim index root steps at s f g q r
rising_root w i v l z why aim index root steps at s f g h q r = rising_try w i v l z why aim index root steps at s refl h q r

rising_link : (w : World) (i : ℕ) (v : View) (l : Line) (z : Asking) (why : Why) (aim : Aim) (index : ℕ) (root : Root) (steps : ℕ) (at : ProtectAt) (s : ℕ) → OriginsNeeds w i z → Both w v l → ((s b : ℕ) → v.status s ≡ Linked b → (w.book.row s).root ≡ roots.Bucket b) → Links w v l z
    → (w.seat i).phase ≡ Runs why (Protect aim index root steps at) → rises_at (w.seat i).post at (finds w i) s ≡ true → links_to w.book w.mem v l (root_by w.layout.config.buckets why) (s + 1) ≡ true
rising_link w i v l z why aim index root steps at s n f g h q r =
    subst (λ (x : Root). links_to w.book w.mem v l x (s + 1) ≡ true) (ap root_for q ∙ (aimed_at w i why aim index root steps at n.seats q).of) (rising_root w i v l z why aim index root steps at s f g h q r)

pub links_give : LinksGive
links_give w i v l z n f g h = record {
  gets = λ key slot era base q o. bucket_link w.book (key % w.layout.config.buckets) slot (held_link w i v l z (Opens (Gets key)) base slot era n f g h q o);
  changes = λ kept slot era base q o. bucket_link w.book _ slot (held_link w i v l z (Opens (Changes kept)) base slot era n f g h q o);
  holds = λ key aim index root steps at s q r. bucket_link w.book (key % w.layout.config.buckets) s (rising_link w i v l z (Opens (Holds key)) aim index root steps at s n f g h q r);
  answers = λ head tail aim index root steps at q link era a r p.
      next_link (w.mem (Row head 0)) link p (subst (λ (x : Root). links_to w.book w.mem v l x link ≡ true) (aimed_at w i (FollowsHead head tail) aim index root steps at n.seats q).of (answer_link w i v l z (FollowsHead head tail) aim index root steps at link era n h q a r));
  asks = λ task aim index root steps at link era s q a r e t. tail_link w v l root s t (subst (λ (x : ℕ). links_to w.book w.mem v l root x ≡ true) e (answer_link w i v l z (Opens task) aim index root steps at link era n h q a r));
  heads = λ task aim index root steps at link era s q a r e t. head_link w v l root s t (subst (λ (x : ℕ). links_to w.book w.mem v l root x ≡ true) e (answer_link w i v l z (Opens task) aim index root steps at link era n h q a r));
}
