-- The record of each history keeps the law on what follows a Link: what a step links, cuts and changes is told at once.
use Rattle.std.proofs.Common.{ℕ, ◌≡◌, ◌<◌, ◌+◌, Bool, true, false, List, [], ◌∷◌, Option, Some, None, refl, sym, ap, ◌∙◌, subst, arith}
use Rattle.std.proofs.lemmas.Bool.Decides.{nat_tests}
use Rattle.std.specs.Prelude.{◌==◌, if◌then◌else◌}
use Rattle.law_reuse.specs.inv.model.words.Place.{is_valid}
use Rattle.law_reuse.specs.inv.model.words.Place.Place.{Head}
use Rattle.law_reuse.specs.inv.model.words.declared.layout.Layout.{Layout}
use Rattle.law_reuse.specs.inv.model.defs.declared.call.Call.{Call}
use Rattle.law_reuse.specs.inv.model.defs.declared.event.Event.{Event}
use Rattle.law_reuse.specs.inv.model.defs.declared.event.Event.TheVariants as events
use Rattle.law_reuse.specs.inv.model.defs.declared.event.Root.TheVariants as roots
use Rattle.law_reuse.specs.inv.model.declared.post.Post.{Post}
use Rattle.law_reuse.specs.inv.model.Calls.{Phase, Idle, Runs, Scans, Works, CallTurn, CallOutcome, GoesOn, Answers}
use Rattle.law_reuse.specs.inv.model.Locals.{told_end, turn}
use Rattle.law_reuse.specs.inv.model.Memory as memory
use Rattle.law_reuse.specs.inv.model.Memory.{upd}
use Rattle.law_reuse.specs.inv.model.Steps.{phase_move}
use Rattle.law_reuse.specs.inv.model.World.{World, finds, is_busy, offered, told_in, may_start}
use Rattle.law_reuse.proofs.inv.model.Facts.{same_number, both, first_of, rest_of}
use Rattle.law_reuse.specs.inv.requests.Views.{View as Asked}
use Rattle.law_reuse.proofs.inv.requests.Kept.{requests_begin, requests_start}
use Rattle.law_reuse.specs.inv.rows.Agree.{Agree, first_rows, rows_after}
use Rattle.law_reuse.specs.inv.rows.Chain.{first_line, line_after}
use Rattle.law_reuse.specs.inv.rows.Queue.{Line}
use Rattle.law_reuse.specs.inv.rows.Rows.{RowMove, View, made}
use Rattle.law_reuse.specs.inv.rows.Rows.RowMove.{Stays, Claims, Bears, Drops, Links, Replaces, Appends, Pops, Reads, Seals, Lists, Returns, Adopts}
use Rattle.law_reuse.specs.inv.history.Record.{Past, Each, tells_of}
use Rattle.law_reuse.specs.inv.history.Record.Past.{Then}
use Rattle.law_reuse.proofs.inv.history.Entries.{entries_of_each}
use Rattle.law_reuse.specs.inv.history.History.{Begins, Steps, Made, done, first_made, record_of}
use Rattle.law_reuse.proofs.inv.history.Along.{Steady, items_keep}
use Rattle.law_reuse.specs.inv.Known.{Known}
use Rattle.law_reuse.proofs.inv.Inv.Begun.{known_start, known_begin}
use Rattle.law_reuse.proofs.inv.Inv.Kept.{known_kept, asked_next}
use Rattle.law_reuse.specs.inv.ends.Told.{move_of}
use Rattle.law_reuse.proofs.laws.Along.{along, along_kind}
use Rattle.law_reuse.proofs.inv.history.AllOf.{all_of, of_weaker}
use Rattle.law_reuse.specs.laws.StateAt.{bucket_by, bucket_at, head_by, head_at}
use Rattle.law_reuse.specs.laws.Once.{Due, NoneDue, due_linked, due_by, due_at, is_free, changes_due, meets_due, order_ok}
use Rattle.law_scans.specs.Places.{RecordsKeepOrder}
use Rattle.law_scans.proofs.Placing.Comes.{agree_of, shape_in, finds_bucket}
use Rattle.law_scans.proofs.Placing.Marks.{is_marked, is_common, marks, ordered, InOrder, tells, marks_told, step_order}
use Rattle.law_scans.proofs.Placing.Moved.{passing}
use Rattle.law_scans.proofs.Placing.Shapes.{is_change_of, is_passing, FindsAt, Shape}
use Rattle.law_scans.proofs.Placing.Sums.{along_both}
use Rattle.law_reuse.proofs.laws.Tells.{tells_both}

-- the word that leads to a row
abbrev pub word_of : Option ℕ → ℕ
word_of None = 0
word_of (Some slot) = slot + 1

-- the record says where the roots of buckets and the head lead
pub record Roots (slots : ℕ) (v : View) (p : Past) : Type 0 where
  pub buckets : (b : ℕ) → word_of (bucket_at b p) ≡ v.root b
  pub head : head_at slots p + 1 ≡ v.head

-- what all that is told makes of a value of the whole record
whole_tells : {X : Type 0} (next : Event → X → X) (f : Past → X) (i : ℕ) (told : List Event) (p : Past) → ((q : Past) (event : Event) → f (Then q i event) ≡ next event (f q)) → f (tells_of p i told) ≡ along next told (f p)
whole_tells next f i [] p q = refl
whole_tells next f i (event ∷ told) p q = whole_tells next f i told (Then p i event) q ∙ ap (along next told) (q p event)

pub whole_comes : {X : Type 0} (next : Event → X → X) (f : Past → X) (w : World) (i : ℕ) (p : Past) → ((q : Past) (event : Event) → f (Then q i event) ≡ next event (f q)) → ((event : Event) (x : X) → is_marked event ≡ false → next event x ≡ x) → ((post : Post) (outcome : CallOutcome) (x : X) → along next (told_end post outcome) x ≡ x)
    → f (tells_of p i (told_in w i)) ≡ along next (marks (w.seat i).phase (w.seat i).post (finds w i)) (f p)
whole_comes next f w i p h q e =
    let t : CallTurn = turn (offered w i) (finds w i) in
    whole_tells next f i (told_in w i) p h
    ∙ along_both next t.told (told_end t.post t.outcome) (f p)
    ∙ e t.post t.outcome (along next t.told (f p))
    ∙ along_kind next is_marked q (tells w i) (f p)
    ∙ ap (λ (es : List Event). along next es (f p)) (marks_told w i)

bucket_still : (b : ℕ) (event : Event) (x : Option ℕ) → is_marked event ≡ false → bucket_by b event x ≡ x
bucket_still b (events.Link root slot) x h = absurd (cc)
bucket_still b event x h = refl

head_still : (event : Event) (x : ℕ) → is_marked event ≡ false → head_by event x ≡ x
head_still (events.Link root slot) x h = absurd (cc)
head_still event x h = refl

bucket_end : (b : ℕ) (post : Post) (outcome : CallOutcome) (x : Option ℕ) → along (bucket_by b) (told_end post outcome) x ≡ x
bucket_end b post (GoesOn phase) x = refl
bucket_end b post (Answers answer) x = refl

head_end : (post : Post) (outcome : CallOutcome) (x : ℕ) → along head_by (told_end post outcome) x ≡ x
head_end post (GoesOn phase) x = refl
head_end post (Answers answer) x = refl

bucket_passing : (b : ℕ) (event : Event) (x : Option ℕ) → is_passing event ≡ true → bucket_by b event x ≡ x
bucket_passing b (events.Link roots.Tail slot) x h = refl
bucket_passing b (events.Back slot) x h = refl
bucket_passing b event x h = absurd (cc)

head_passing : (event : Event) (x : ℕ) → is_passing event ≡ true → head_by event x ≡ x
head_passing (events.Link roots.Tail slot) x h = refl
head_passing (events.Back slot) x h = refl
head_passing event x h = absurd (cc)

bucket_change : (b bucket : ℕ) (event : Event) (x : Option ℕ) → is_change_of bucket event ≡ true → bucket_by b event x ≡ x
bucket_change b bucket (events.Put other version key value) x h = refl
bucket_change b bucket (events.Removed other version key) x h = refl
bucket_change b bucket event x h = absurd (cc)

head_change : (bucket : ℕ) (event : Event) (x : ℕ) → is_change_of bucket event ≡ true → head_by event x ≡ x
head_change bucket (events.Put other version key value) x h = refl
head_change bucket (events.Removed other version key) x h = refl
head_change bucket event x h = absurd (cc)

-- a move leads roots where it tells that they lead
linked_word : (slot : ℕ) (x : Option ℕ) (root : ℕ) (here : Bool) → word_of x ≡ root → word_of (if here then Some slot else x) ≡ (if here then slot + 1 else root)
linked_word slot x root true h = refl
linked_word slot x root false h = h

at_words : (b : ℕ) (told other : List Event) (x : Option ℕ) (root : ℕ) → told ≡ other → word_of (along (bucket_by b) other x) ≡ root → word_of (along (bucket_by b) told x) ≡ root
at_words b told other x root e h = ap (λ (es : List Event). word_of (along (bucket_by b) es x)) e ∙ h

buckets_moved : (phase : Phase) (post : Post) (found i b : ℕ) (v : View) (m : RowMove) (told : List Event) (x : Option ℕ) → Shape phase post found m told → word_of x ≡ v.root b → word_of (along (bucket_by b) told x) ≡ (made i v m).root b
buckets_moved phase post found i b v Stays told x s h = ap word_of (passing (bucket_by b) (bucket_passing b) told x s) ∙ h
buckets_moved phase post found i b v (Claims slot) told x s h = at_words b told _ x (v.root b) s.is h
buckets_moved phase post found i b v (Bears slot birth) told x s h = at_words b told _ x (v.root b) s h
buckets_moved phase post found i b v (Drops slot) told x s h = at_words b told _ x (v.root b) s.is h
buckets_moved phase post found i b v (Links bucket slot) told x s h =
    at_words b told _ x (upd v.root bucket (slot + 1) b) s.is (ap word_of (bucket_change b bucket s.change _ s.of) ∙ linked_word slot x (v.root b) (b == bucket) h)
buckets_moved phase post found i b v (Replaces bucket slot old) told x s h =
    at_words b told _ x (upd v.root bucket (slot + 1) b) s.is (ap word_of (bucket_change b bucket s.change _ s.of) ∙ linked_word slot x (v.root b) (b == bucket) h)
buckets_moved phase post found i b v (Appends slot) told x s h = at_words b told _ x (v.root b) s.is h
buckets_moved phase post found i b v (Pops slot next) told x s h = at_words b told _ x (v.root b) s.is h
buckets_moved phase post found i b v (Reads slot birth) told x s h = at_words b told _ x (v.root b) s h
buckets_moved phase post found i b v (Seals slot birth retire) told x s h = at_words b told _ x (v.root b) s h
buckets_moved phase post found i b v (Lists slot birth retire) told x s h = at_words b told _ x (v.root b) s h
buckets_moved phase post found i b v (Returns slot) told x s h = at_words b told _ x (v.root b) s h
buckets_moved phase post found i b v (Adopts from) told x s h = at_words b told _ x (v.root b) s h

at_head : (told other : List Event) (x head : ℕ) → told ≡ other → along head_by other x + 1 ≡ head → along head_by told x + 1 ≡ head
at_head told other x head e h = ap (λ (es : List Event). along head_by es x + 1) e ∙ h

head_moved : (phase : Phase) (post : Post) (found i : ℕ) (v : View) (m : RowMove) (told : List Event) (x : ℕ) → Shape phase post found m told → x + 1 ≡ v.head → along head_by told x + 1 ≡ (made i v m).head
head_moved phase post found i v Stays told x s h = ap (λ (n : ℕ). n + 1) (passing head_by head_passing told x s) ∙ h
head_moved phase post found i v (Claims slot) told x s h = at_head told _ x v.head s.is h
head_moved phase post found i v (Bears slot birth) told x s h = at_head told _ x v.head s h
head_moved phase post found i v (Drops slot) told x s h = at_head told _ x v.head s.is h
head_moved phase post found i v (Links bucket slot) told x s h = at_head told _ x v.head s.is (ap (λ (n : ℕ). n + 1) (head_change bucket s.change x s.of) ∙ h)
head_moved phase post found i v (Replaces bucket slot old) told x s h = at_head told _ x v.head s.is (ap (λ (n : ℕ). n + 1) (head_change bucket s.change x s.of) ∙ h)
head_moved phase post found i v (Appends slot) told x s h = at_head told _ x v.head s.is h
head_moved phase post found i v (Pops slot next) told x s h = at_head told _ x (next + 1) s.is refl
head_moved phase post found i v (Reads slot birth) told x s h = at_head told _ x v.head s h
head_moved phase post found i v (Seals slot birth retire) told x s h = at_head told _ x v.head s h
head_moved phase post found i v (Lists slot birth retire) told x s h = at_head told _ x v.head s h
head_moved phase post found i v (Returns slot) told x s h = at_head told _ x v.head s h
head_moved phase post found i v (Adopts from) told x s h = at_head told _ x v.head s h

pub roots_step : (slots : ℕ) (w : World) (i : ℕ) (v : View) (p : Past) → Agree w v → Roots slots v p → Roots slots (rows_after w i v) (tells_of p i (told_in w i))
roots_step slots w i v p a r = record {
  buckets = λ b.
      ap word_of (whole_comes (bucket_by b) (bucket_at b) w i p (λ q event. refl) (bucket_still b) (bucket_end b))
      ∙ buckets_moved (w.seat i).phase (w.seat i).post (finds w i) i b v (move_of w i) (marks (w.seat i).phase (w.seat i).post (finds w i)) (bucket_at b p) (shape_in w i v a) (r.buckets b);
  head =
      ap (λ (n : ℕ). n + 1) (whole_comes head_by (head_at slots) w i p (λ q event. refl) head_still head_end)
      ∙ head_moved (w.seat i).phase (w.seat i).post (finds w i) i v (move_of w i) (marks (w.seat i).phase (w.seat i).post (finds w i)) (head_at slots p) (shape_in w i v a) r.head;
}

-- the law holds so far, and nothing is due
pub record Settled (slots : ℕ) (p : Past) : Type 0 where
  pub each : Each (order_ok slots) p
  pub none : due_at slots p ≡ NoneDue

-- an event that may come where nothing is due, and after which nothing is
abbrev pub is_plain : Event → Bool
is_plain (events.Link (roots.Bucket bucket) slot) = false
is_plain (events.Link (roots.Next parent) slot) = false
is_plain (events.Link roots.Head slot) = false
is_plain (events.Cut slot) = false
is_plain (events.Put bucket version key value) = false
is_plain (events.Removed bucket version key) = false
is_plain (events.Queued number value) = false
is_plain (events.Taken number value) = false
is_plain event = true

plain_free : (event : Event) → is_plain event ≡ true → is_free event ≡ true
plain_free (events.Cut slot) h = absurd (cc)
plain_free (events.Put bucket version key value) h = absurd (cc)
plain_free (events.Removed bucket version key) h = absurd (cc)
plain_free (events.Queued number value) h = absurd (cc)
plain_free (events.Taken number value) h = absurd (cc)
plain_free event h = refl

plain_due : (slots : ℕ) (p : Past) (i : ℕ) (event : Event) → is_plain event ≡ true → due_by slots p i event ≡ NoneDue
plain_due slots p i (events.Link (roots.Bucket bucket) slot) h = absurd (cc)
plain_due slots p i (events.Link (roots.Next parent) slot) h = absurd (cc)
plain_due slots p i (events.Link roots.Head slot) h = absurd (cc)
plain_due slots p i (events.Cut slot) h = absurd (cc)
plain_due slots p i event h = refl

passing_plain : (event : Event) → is_passing event ≡ true → is_plain event ≡ true
passing_plain (events.Link roots.Tail slot) h = refl
passing_plain (events.Back slot) h = refl
passing_plain event h = absurd (cc)

common_plain : (event : Event) → is_common event ≡ true → is_plain event ≡ true
common_plain (events.Link (roots.Bucket bucket) slot) h = absurd (cc)
common_plain (events.Link (roots.Next parent) slot) h = absurd (cc)
common_plain (events.Link roots.Head slot) h = absurd (cc)
common_plain (events.Cut slot) h = absurd (cc)
common_plain (events.Put bucket version key value) h = absurd (cc)
common_plain (events.Removed bucket version key) h = absurd (cc)
common_plain (events.Queued number value) h = absurd (cc)
common_plain (events.Taken number value) h = absurd (cc)
common_plain event h = refl

-- an entry that is met
free_met : (due : Due) (i : ℕ) (event : Event) → due ≡ NoneDue → is_free event ≡ true → meets_due due i event ≡ true
free_met due i event e h = ap (λ (x : Due). meets_due x i event) e ∙ h

plain_settles : (slots i : ℕ) (told : List Event) (p : Past) → all_of is_plain told ≡ true → Settled slots p → Settled slots (tells_of p i told)
plain_settles slots i [] p h s = s
plain_settles slots i (event ∷ told) p h s =
    let q = first_of (is_plain event) (all_of is_plain told) h in
    plain_settles slots i told (Then p i event) (rest_of (is_plain event) (all_of is_plain told) h)
    (record { each = (free_met (due_at slots p) i event s.none (plain_free event q), s.each); none = plain_due slots p i event q })

change_met : (i bucket : ℕ) (change : Event) → is_change_of bucket change ≡ true → changes_due i bucket i change ≡ true
change_met i bucket (events.Put other version key value) h = both (i == i) (other == bucket) (same_number i) h
change_met i bucket (events.Removed other version key) h = both (i == i) (other == bucket) (same_number i) h
change_met i bucket change h = absurd (cc)

change_due : (slots : ℕ) (p : Past) (i bucket : ℕ) (change : Event) → is_change_of bucket change ≡ true → due_by slots p i change ≡ NoneDue
change_due slots p i bucket (events.Put other version key value) h = refl
change_due slots p i bucket (events.Removed other version key) h = refl
change_due slots p i bucket change h = absurd (cc)

-- a root that leads nowhere, and one that leads to a row
pub no_row : (x : Option ℕ) → word_of x ≡ 0 → x ≡ None
no_row None h = refl
no_row (Some slot) h = absurd (omega (h, arith))

pub one_row : (x : Option ℕ) (slot : ℕ) → word_of x ≡ slot + 1 → x ≡ Some slot
one_row None slot h = absurd (omega (h, arith))
one_row (Some other) slot h = let e : other ≡ slot = omega (h, arith) in ap Some e

links_settle : (slots i bucket slot : ℕ) (change : Event) (p : Past) → Settled slots p → bucket_at bucket p ≡ None → is_change_of bucket change ≡ true → Settled slots (Then (Then p i (events.Link (roots.Bucket bucket) slot)) i change)
links_settle slots i bucket slot change p s e c = record {
  each = (ap (λ (x : Option ℕ). meets_due (due_linked i bucket x) i change) e ∙ change_met i bucket change c, (free_met (due_at slots p) i (events.Link (roots.Bucket bucket) slot) s.none refl, s.each));
  none = change_due slots (Then p i (events.Link (roots.Bucket bucket) slot)) i bucket change c;
}

replaces_settle : (slots i bucket slot old : ℕ) (change : Event) (p : Past) → Settled slots p → bucket_at bucket p ≡ Some old → is_change_of bucket change ≡ true
    → Settled slots (Then (Then (Then p i (events.Link (roots.Bucket bucket) slot)) i (events.Cut old)) i change)
replaces_settle slots i bucket slot old change p s e c = record {
  each = (
    change_met i bucket change c,
    (
      ap (λ (x : Option ℕ). meets_due (due_linked i bucket x) i (events.Cut old)) e ∙ both (i == i) (old == old) (same_number i) (same_number old),
      (free_met (due_at slots p) i (events.Link (roots.Bucket bucket) slot) s.none refl, s.each),
    ),
  );
  none = change_due slots (Then (Then p i (events.Link (roots.Bucket bucket) slot)) i (events.Cut old)) i bucket change c;
}

appends_settle : (slots i parent slot number value : ℕ) (p : Past) → Settled slots p → Settled slots (Then (Then p i (events.Link (roots.Next parent) slot)) i (events.Queued number value))
appends_settle slots i parent slot number value p s = record {
  each = (same_number i, (free_met (due_at slots p) i (events.Link (roots.Next parent) slot) s.none refl, s.each));
  none = refl;
}

pops_settle : (slots i slot next number value : ℕ) (p : Past) → Settled slots p → head_at slots p ≡ slot → Settled slots (Then (Then (Then p i (events.Link roots.Head next)) i (events.Cut slot)) i (events.Taken number value))
pops_settle slots i slot next number value p s e =
    let there : (slot == head_at slots p) ≡ true = grind (arith, nat_tests) in
    record {
      each = (
        same_number i,
        (
          both (i == i) (slot == head_at slots p) (same_number i) there,
          (free_met (due_at slots p) i (events.Link roots.Head next) s.none refl, s.each),
        ),
      );
      none = refl;
    }

finds_head : (w : World) (i : ℕ) (v : View) → Agree w v → FindsAt (phase_move (w.seat i).phase (w.seat i).post) Head → finds w i ≡ v.head
finds_head w i v a f = f.word (w.mem (memory.place_in (phase_move (w.seat i).phase (w.seat i).post))) ∙ ap w.mem f.place ∙ a.words.head

pub head_is : (head slot found x : ℕ) → x + 1 ≡ head → found ≡ head → found ≡ slot + 1 → x ≡ slot
head_is head slot found x a b c = omega (a, b, c, arith)

at_told : (slots i : ℕ) (told other : List Event) (p : Past) → told ≡ other → Settled slots (tells_of p i other) → Settled slots (tells_of p i told)
at_told slots i told other p e h = subst (λ (es : List Event). Settled slots (tells_of p i es)) (sym e) h

order_moved : (slots : ℕ) (w : World) (i : ℕ) (v : View) (m : RowMove) (told : List Event) (p : Past) → Agree w v → Shape (w.seat i).phase (w.seat i).post (finds w i) m told → Roots slots v p → Settled slots p → Settled slots (tells_of p i told)
order_moved slots w i v Stays told p a s r g = plain_settles slots i told p (of_weaker is_passing is_plain told passing_plain s) g
order_moved slots w i v (Claims slot) told p a s r g = at_told slots i told _ p s.is (plain_settles slots i (events.Give slot s.birth ∷ []) p refl g)
order_moved slots w i v (Bears slot birth) told p a s r g = at_told slots i told [] p s g
order_moved slots w i v (Drops slot) told p a s r g = at_told slots i told _ p s.is (plain_settles slots i (events.Unused slot ∷ []) p refl g)
order_moved slots w i v (Links bucket slot) told p a s r g =
    at_told slots i told _ p s.is (links_settle slots i bucket slot s.change p g (no_row (bucket_at bucket p) (r.buckets bucket ∙ sym (finds_bucket w i bucket v a s.finds) ∙ s.null)) s.of)
order_moved slots w i v (Replaces bucket slot old) told p a s r g =
    at_told slots i told _ p s.is (replaces_settle slots i bucket slot old s.change p g (one_row (bucket_at bucket p) old (r.buckets bucket ∙ sym (finds_bucket w i bucket v a s.finds) ∙ s.row)) s.of)
order_moved slots w i v (Appends slot) told p a s r g = at_told slots i told _ p s.is (appends_settle slots i s.parent slot s.number s.value p g)
order_moved slots w i v (Pops slot next) told p a s r g =
    at_told slots i told _ p s.is (pops_settle slots i slot next s.number s.value p g (head_is v.head slot (finds w i) (head_at slots p) r.head (finds_head w i v a s.finds) s.row))
order_moved slots w i v (Reads slot birth) told p a s r g = at_told slots i told [] p s g
order_moved slots w i v (Seals slot birth retire) told p a s r g = at_told slots i told [] p s g
order_moved slots w i v (Lists slot birth retire) told p a s r g = at_told slots i told _ p s (plain_settles slots i (events.Retire slot birth retire ∷ []) p refl g)
order_moved slots w i v (Returns slot) told p a s r g = at_told slots i told _ p s (plain_settles slots i (events.Back slot ∷ []) p refl g)
order_moved slots w i v (Adopts from) told p a s r g = at_told slots i told [] p s g

first_settles : (slots : ℕ) (w : World) (i : ℕ) (v : View) (p : Past) (phase : Phase) → (w.seat i).phase ≡ phase → Agree w v → Roots slots v p → Settled slots p → Settled slots (tells_of p i (ordered phase (w.seat i).post (finds w i)))
first_settles slots w i v p Idle e a r g = g
first_settles slots w i v p (Runs why base) e a r g = g
first_settles slots w i v p (Scans later at) e a r g = g
first_settles slots w i v p (Works work) e a r g =
    subst (λ (es : List Event). Settled slots (tells_of p i es)) (ap (λ (x : Phase). marks x (w.seat i).post (finds w i)) e)
    (order_moved slots w i v (move_of w i) (marks (w.seat i).phase (w.seat i).post (finds w i)) p a (shape_in w i v a) r g)

end_plain : (post : Post) (outcome : CallOutcome) → all_of is_plain (told_end post outcome) ≡ true
end_plain post (GoesOn phase) = refl
end_plain post (Answers answer) = refl

step_settles : (slots : ℕ) (w : World) (i : ℕ) (v : View) (p : Past) → Agree w v → Roots slots v p → Settled slots p → Settled slots (tells_of p i (told_in w i))
step_settles slots w i v p a r g =
    let t : CallTurn = turn (offered w i) (finds w i) in
    let first : List Event = ordered (w.seat i).phase (w.seat i).post (finds w i) in
    let o : InOrder first (tells w i) = step_order w i in
    let one : Settled slots (tells_of p i first) = first_settles slots w i v p (w.seat i).phase refl a r g in
    let two : Settled slots (tells_of (tells_of p i first) i o.rest) = plain_settles slots i o.rest (tells_of p i first) (of_weaker is_common is_plain o.rest common_plain o.calm) one in
    let three : Settled slots (tells_of p i t.told) = subst (λ (q : Past). Settled slots q) (sym (ap (tells_of p i) o.is ∙ tells_both i first o.rest p)) two in
    subst (λ (q : Past). Settled slots q) (sym (tells_both i t.told (told_end t.post t.outcome) p)) (plain_settles slots i (told_end t.post t.outcome) (tells_of p i t.told) (end_plain t.post t.outcome) three)

-- what a history keeps
record Keeps (layout : Layout) (made : Made) : Type 0 where
  rows : View
  line : Line
  asked : Asked
  known : Known made.world rows line asked
  roots : Roots layout.config.slots rows made.past
  settled : Settled layout.config.slots made.past

begin_keeps : (layout : Layout) (made : Made) (i : ℕ) (call : Call) → is_busy made.world i ≡ false → may_start made.world i call ≡ true → Keeps layout made → Keeps layout (done made (Begins i call))
begin_keeps layout made i call f n g =
    let k = g.known in
    let q = requests_begin made.world i call g.asked k.valid f k.seats k.requests in
    record {
      rows = g.rows;
      line = g.line;
      asked = q.0;
      known = known_begin made.world i call g.rows g.line g.asked q.0 f n k q.1.facts q.1.deal;
      roots = record { buckets = g.roots.buckets; head = g.roots.head };
      settled = plain_settles layout.config.slots i (events.Begin call ∷ []) made.past refl g.settled;
    }

step_keeps : (layout : Layout) (made : Made) (i : ℕ) → i < made.world.layout.config.seats → Keeps layout made → Keeps layout (done made (Steps i))
step_keeps layout made i b g =
    let w : World = made.world in
    let q = asked_next w i g.rows g.line g.asked b g.known in
    let a = agree_of w g.rows g.line g.asked g.known in
    record {
      rows = rows_after w i g.rows;
      line = line_after w i g.line;
      asked = q.0;
      known = known_kept w i g.rows g.line g.asked q.0 b g.known q.1.facts q.1.deal;
      roots = roots_step layout.config.slots w i g.rows made.past a g.roots;
      settled = step_settles layout.config.slots w i g.rows made.past a g.roots g.settled;
    }

steady : (layout : Layout) → Steady (Keeps layout)
steady layout = record { begins = λ made i call b y m g. begin_keeps layout made i call y m g; steps = λ made i b y g. step_keeps layout made i b g }

first_keeps : (layout : Layout) → is_valid layout ≡ true → Keeps layout (first_made layout)
first_keeps layout d =
    let q = requests_start layout d in
    record {
      rows = first_rows layout;
      line = first_line layout;
      asked = q.0;
      known = known_start layout q.0 d q.1.facts q.1.deal;
      roots = record { buckets = λ b. refl; head = refl };
      settled = record { each = tt; none = refl };
    }

pub records_keep_order : RecordsKeepOrder
records_keep_order layout items d =
    let g = items_keep (Keeps layout) (steady layout) items (first_made layout) (first_keeps layout d) in
    record { each = entries_of_each (order_ok layout.config.slots) (record_of layout items) g.settled.each; last = g.settled.none }
