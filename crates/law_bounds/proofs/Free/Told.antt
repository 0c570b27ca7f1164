-- Where nothing is done, and the tail does not go on, the clock, the buckets and the queue stay as they are, and no call ends.
use Rattle.std.proofs.Common.{ℕ, ◌≡◌, ◌≤◌, ◌+◌, Bool, true, false, List, [], ◌∷◌, ◌++◌, length, Option, Some, refl, ap, ◌∙◌, arith}
use Rattle.std.specs.Prelude.{◌||◌}
use Rattle.law_held.specs.inv.history.Record.{Past, tells_of}
use Rattle.law_held.specs.inv.history.Record.Past.{Then}
use Rattle.law_held.specs.inv.model.Calls.{CallOutcome, GoesOn, Answers}
use Rattle.law_held.specs.inv.model.Locals.{told_end}
use Rattle.law_held.specs.inv.model.declared.post.Post.{Post}
use Rattle.law_held.specs.inv.model.defs.declared.call.Call.{Call}
use Rattle.law_held.specs.inv.model.defs.declared.call.Call.TheVariants as calls
use Rattle.law_held.specs.inv.model.defs.declared.event.Event.{Event}
use Rattle.law_held.specs.inv.model.defs.declared.event.Event.TheVariants as events
use Rattle.law_held.specs.inv.model.defs.declared.event.Root.TheVariants as roots
use Rattle.law_held.specs.inv.model.defs.declared.fold.Change.{Change}
use Rattle.law_held.specs.inv.model.Calls.{Phase}
use Rattle.law_held.specs.inv.model.words.declared.config.Config.{Config}
use Rattle.law_held.specs.laws.AnswerLaw.{moves_of}
use Rattle.law_held.specs.laws.StateAt.{bucket_at, bucket_by, clock_of, one, tails_by, tails_of, ticked_by, told}
use Rattle.law_held.specs.laws.StructuresAt.{bucket_of, changes_of, queued_of, taken_of, with_change}
use Rattle.law_bounds.specs.Free.{done_in, is_done}

-- something is done, or the tail goes on
abbrev pub is_ahead : Event → Bool
is_ahead (events.Link roots.Tail slot) = true
is_ahead event = is_done event

abbrev pub ahead_in : List Event → Bool
ahead_in [] = false
ahead_in (event ∷ told) = is_ahead event || ahead_in told

one_more : (b : Bool) (n : ℕ) → n ≤ n + one b
one_more true n = omega arith
one_more false n = omega arith

pub ahead_grows : (i : ℕ) (es : List Event) (p : Past) → told is_ahead p ≤ told is_ahead (tells_of p i es)
ahead_grows i [] p = omega arith
ahead_grows i (event ∷ es) p = let a = one_more (is_ahead event) (told is_ahead p) in let b = ahead_grows i es (Then p i event) in omega (arith, a, b)

ahead_first : (i : ℕ) (es : List Event) (p : Past) (event : Event) (b : Bool) → is_ahead event ≡ b → (b || ahead_in es) ≡ true → (ahead_in es ≡ true → told is_ahead (Then p i event) + 1 ≤ told is_ahead (tells_of (Then p i event) i es)) → told is_ahead p + 1 ≤ told is_ahead (tells_of (Then p i event) i es)
ahead_first i es p event true e h f = let a = ahead_grows i es (Then p i event) in let b : told is_ahead (Then p i event) ≡ told is_ahead p + 1 = rw e refl in omega (arith, a, b)
ahead_first i es p event false e h f = let a = f h in let b = one_more (is_ahead event) (told is_ahead p) in omega (arith, a, b)

pub ahead_more : (i : ℕ) (es : List Event) (p : Past) → ahead_in es ≡ true → told is_ahead p + 1 ≤ told is_ahead (tells_of p i es)
ahead_more i [] p h = absurd (cc)
ahead_more i (event ∷ es) p h = ahead_first i es p event (is_ahead event) refl h (λ r. ahead_more i es (Then p i event) r)

none_more : (b : Bool) (n : ℕ) → b ≡ false → n + one b ≡ n
none_more true n e = absurd (cc)
none_more false n e = omega arith

pub not_first : (a b : Bool) → (a || b) ≡ false → a ≡ false
not_first true b h = absurd (cc)
not_first false b h = refl

pub not_rest : (a b : Bool) → (a || b) ≡ false → b ≡ false
not_rest true b h = absurd (cc)
not_rest false b h = h

pub done_same : (i : ℕ) (es : List Event) (p : Past) → done_in es ≡ false → told is_done (tells_of p i es) ≡ told is_done p
done_same i [] p h = refl
done_same i (event ∷ es) p h = done_same i es (Then p i event) (not_rest (is_done event) (done_in es) h) ∙ none_more (is_done event) (told is_done p) (not_first (is_done event) (done_in es) h)

-- the clock
tick_still : (event : Event) (n : ℕ) → is_ahead event ≡ false → ticked_by event n ≡ n
tick_still (events.Era era) n h = absurd (cc)
tick_still event n h = refl

pub clock_still : (i : ℕ) (es : List Event) (p : Past) → ahead_in es ≡ false → clock_of (tells_of p i es) ≡ clock_of p
clock_still i [] p h = refl
clock_still i (event ∷ es) p h = clock_still i es (Then p i event) (not_rest (is_ahead event) (ahead_in es) h) ∙ tick_still event (clock_of p) (not_first (is_ahead event) (ahead_in es) h)

-- a bucket's root
root_one : (b : ℕ) (event : Event) (x : Option ℕ) → is_ahead event ≡ false → bucket_by b event x ≡ x
root_one b (events.Link (roots.Bucket bucket) slot) x h = absurd (cc)
root_one b (events.Link roots.Head slot) x h = refl
root_one b (events.Link roots.Tail slot) x h = refl
root_one b (events.Link (roots.Next parent) slot) x h = refl
root_one b event x h = refl

pub root_still : (b i : ℕ) (es : List Event) (p : Past) → ahead_in es ≡ false → bucket_at b (tells_of p i es) ≡ bucket_at b p
root_still b i [] p h = refl
root_still b i (event ∷ es) p h = root_still b i es (Then p i event) (not_rest (is_ahead event) (ahead_in es) h) ∙ root_one b event (bucket_at b p) (not_first (is_ahead event) (ahead_in es) h)

-- a bucket's changes, and the queue
change_one : (b : ℕ) (event : Event) (before : List Change) → is_ahead event ≡ false → with_change b before event ≡ before
change_one b (events.Put bucket version key value) before h = absurd (cc)
change_one b (events.Removed bucket version key) before h = absurd (cc)
change_one b event before h = refl

changes_still : (b i : ℕ) (es : List Event) (p : Past) → ahead_in es ≡ false → changes_of b (tells_of p i es) ≡ changes_of b p
changes_still b i [] p h = refl
changes_still b i (event ∷ es) p h = changes_still b i es (Then p i event) (not_rest (is_ahead event) (ahead_in es) h) ∙ change_one b event (changes_of b p) (not_first (is_ahead event) (ahead_in es) h)

queued_one : (i : ℕ) (p : Past) (event : Event) → is_ahead event ≡ false → queued_of (Then p i event) ≡ queued_of p
queued_one i p (events.Queued number value) h = absurd (cc)
queued_one i p event h = refl

queued_still : (i : ℕ) (es : List Event) (p : Past) → ahead_in es ≡ false → queued_of (tells_of p i es) ≡ queued_of p
queued_still i [] p h = refl
queued_still i (event ∷ es) p h = queued_still i es (Then p i event) (not_rest (is_ahead event) (ahead_in es) h) ∙ queued_one i p event (not_first (is_ahead event) (ahead_in es) h)

taken_one : (i : ℕ) (p : Past) (event : Event) → is_ahead event ≡ false → taken_of (Then p i event) ≡ taken_of p
taken_one i p (events.Taken number value) h = absurd (cc)
taken_one i p event h = refl

taken_still : (i : ℕ) (es : List Event) (p : Past) → ahead_in es ≡ false → taken_of (tells_of p i es) ≡ taken_of p
taken_still i [] p h = refl
taken_still i (event ∷ es) p h = taken_still i es (Then p i event) (not_rest (is_ahead event) (ahead_in es) h) ∙ taken_one i p event (not_first (is_ahead event) (ahead_in es) h)

tail_one : (event : Event) (n : ℕ) → is_ahead event ≡ false → tails_by event n ≡ n
tail_one (events.Link (roots.Bucket bucket) slot) n h = refl
tail_one (events.Link roots.Head slot) n h = refl
tail_one (events.Link roots.Tail slot) n h = absurd (cc)
tail_one (events.Link (roots.Next parent) slot) n h = refl
tail_one event n h = refl

tails_still : (i : ℕ) (es : List Event) (p : Past) → ahead_in es ≡ false → tails_of (tells_of p i es) ≡ tails_of p
tails_still i [] p h = refl
tails_still i (event ∷ es) p h = tails_still i es (Then p i event) (not_rest (is_ahead event) (ahead_in es) h) ∙ tail_one event (tails_of p) (not_first (is_ahead event) (ahead_in es) h)

pub moves_still : (c : Config) (call : Call) (i : ℕ) (es : List Event) (p : Past) → ahead_in es ≡ false → moves_of c (Some call) (tells_of p i es) ≡ moves_of c (Some call) p
moves_still c (calls.Put key value) i es p h = ap length (changes_still (bucket_of c.buckets key) i es p h)
moves_still c (calls.Remove key) i es p h = ap length (changes_still (bucket_of c.buckets key) i es p h)
moves_still c (calls.PutIf key value version) i es p h = ap length (changes_still (bucket_of c.buckets key) i es p h)
moves_still c (calls.Enqueue value) i es p h = let a = ap length (queued_still i es p h) in let b = tails_still i es p h in omega (arith, a, b)
moves_still c calls.Dequeue i es p h = let a = taken_still i es p h in let b = tails_still i es p h in omega (arith, a, b)
moves_still c call i es p h = refl

-- no call ends
pub record Goes (outcome : CallOutcome) : Type 0 where
  pub phase : Phase
  pub is : outcome ≡ GoesOn phase

end_ahead : (es : List Event) (more : List Event) → ahead_in more ≡ true → ahead_in (es ++ more) ≡ true
end_ahead [] more h = h
end_ahead (event ∷ es) more h = by (is_ahead event) (end_ahead es more h)
  where
    by : (b : Bool) → ahead_in (es ++ more) ≡ true → (b || ahead_in (es ++ more)) ≡ true
    by true h = refl
    by false h = h

pub goes_still : (es : List Event) (post : Post) (outcome : CallOutcome) → ahead_in (es ++ told_end post outcome) ≡ false → Goes outcome
goes_still es post (GoesOn phase) h = record { phase = phase; is = refl }
goes_still es post (Answers answer) h = absurd (let a = end_ahead es (told_end post (Answers answer)) refl in cc)
