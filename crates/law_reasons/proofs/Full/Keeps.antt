-- The record of each history keeps the laws on scans that make room and on calls that find no free row.
use Rattle.std.proofs.Common.{ℕ, ◌≡◌, ◌≤◌, ◌<◌, Bool, true, false, List, [], ◌∷◌, Option, Some, refl, sym, ap, ◌∙◌, subst, arith}
use Rattle.std.proofs.lemmas.Bool.Decides.{nat_tests}
use Rattle.std.specs.Prelude.{◌==◌, ◌&&◌, ◌||◌, not, nat_lt}
use Rattle.law_scans.specs.inv.model.words.Place.{is_valid}
use Rattle.law_scans.specs.inv.model.words.declared.config.Config.{Config}
use Rattle.law_scans.specs.inv.model.words.declared.layout.Layout.{Layout}
use Rattle.law_scans.specs.inv.model.defs.declared.call.Answer.{Answer}
use Rattle.law_scans.specs.inv.model.defs.declared.call.Answer.TheVariants as the_answers
use Rattle.law_scans.specs.inv.model.defs.declared.call.Call.{Call}
use Rattle.law_scans.specs.inv.model.defs.declared.event.Event.{Event}
use Rattle.law_scans.specs.inv.model.defs.declared.event.Event.TheVariants as events
use Rattle.law_scans.specs.inv.model.declared.post.Post.{Post}
use Rattle.law_scans.specs.inv.model.Guards.{guard_at, guards}
use Rattle.law_scans.specs.inv.model.words.Schemes.{publishes_rows}
use Rattle.law_scans.proofs.reuse.ReadGuards.{reads_are}
use Rattle.law_scans.specs.inv.model.Steps as steps
use Rattle.law_scans.specs.inv.model.Phases.AllocateAt.{ClaimSlot}
use Rattle.law_scans.specs.inv.model.Phases.Base.{Allocate}
use Rattle.law_scans.specs.inv.model.Calls.{AfterScan, Answered, Repeated, Counted, ScanAt, ReadGuard, GiveBack, Phase, Idle, Runs, Scans, Works, CallTurn, CallOutcome, GoesOn, Answers}
use Rattle.law_scans.specs.inv.model.Locals.{Local, begun, begun_post, told_end, turn}
use Rattle.law_scans.specs.inv.model.Posts.{counted}
use Rattle.law_scans.specs.inv.model.World.{World, begin, finds, is_busy, offered, step, told_in, may_start, list_in}
use Rattle.law_scans.proofs.inv.model.Facts.{both, first_of, rest_of, or_left_true, same_test, or_more}
use Rattle.law_scans.proofs.inv.covers.Held.{stepped_phase}
use Rattle.law_scans.specs.inv.shapes.Frame.{phase_left}
use Rattle.law_scans.proofs.reuse.shapes.Frame.{seat_stays, begin_stays, begin_begins}
use Rattle.law_scans.specs.inv.rows.Rows.{is_taken}
use Rattle.law_scans.specs.inv.history.Record.{Past, Each, begins, own, held_since, tells_of}
use Rattle.law_scans.specs.inv.history.Record.Past.{Start, Then}
use Rattle.law_scans.proofs.inv.history.Entries.{entries_of_each}
use Rattle.law_scans.specs.inv.history.History.{Item, Begins, Steps, Made, done, made_of, first_made, record_of}
use Rattle.law_scans.proofs.inv.history.Along.{Steady, items_keep}
use Rattle.law_scans.specs.laws.StateAt.{taken_at, began_of, is_mark, taken_since, was_taken}
use Rattle.law_scans.proofs.laws.Along.{along}
use Rattle.law_scans.proofs.reuse.Once.Calm.{is_unread}
use Rattle.law_scans.proofs.reuse.Once.Keeps as once
use Rattle.law_scans.proofs.inv.history.Passes.{scan_told}
use Rattle.law_scans.proofs.inv.history.AllOf.{all_of}
use Rattle.law_scans.proofs.inv.Machines.{is_within, within_of}
use Rattle.law_scans.proofs.reuse.AnswersTold.Answering as answering
use Rattle.law_scans.proofs.reuse.AnswersTold.Answering.{began_along, first_all, owes_of, others_began}
use Rattle.law_reasons.proofs.Reasons.Later.{Later, later_all, later_same, later_then}
use Rattle.law_scans.proofs.reuse.AnswersTold.Owed.{is_open, owed, Owes}
use Rattle.law_scans.proofs.Placing.Sums.{along_both}
use Rattle.law_scans.proofs.laws.Tells.{seen_own, seen_tells, seen_stays, tells_both}
use Rattle.law_scans.specs.inv.ends.Walks.{Walking, WalkPhase, seen_after}
use Rattle.law_scans.proofs.inv.ends.Walks.Kept.{full_seen, walking_start, walking_kept}
use Rattle.law_scans.proofs.DueScans.Keeps.{phase_right, told_starts}
use Rattle.law_scans.proofs.DueScans.Lands.{PhaseRight}
use Rattle.law_scans.proofs.DueScans.Still.{is_still, front}
use Rattle.law_scans.specs.laws.AnswerLaw.{has_number, lacks_row, lacks_ok}
use Rattle.law_scans.specs.laws.HistoryAnswers.{full_ok}
use Rattle.law_reasons.specs.Records.{RecordsKeepFull, RecordsKeepLacks, RecordsScanForRoom}
use Rattle.law_scans.specs.laws.HistoryScans.{Search, search_by, no_search, search_of, room_ok}
use Rattle.law_reasons.proofs.Full.Lands.{FullSees, Onto, PhaseSure, after_first, first_fits, later_on, now_by, out_on, phase_on, turn_fits}
use Rattle.law_reasons.proofs.Full.Lacks.{lacks_last, phase_sure}
use Rattle.law_reasons.proofs.Full.Sees.{Sees, step_sees, begin_sees, first_sees}
use Rattle.law_reasons.proofs.Full.Since.{first_walks, held_now, held_others, held_tells, is_scanning, others_begin, others_own, scan_walks, told_unread, walk_more, within_call}
use Rattle.law_reasons.proofs.Full.Ties.{AnswerFits, FullFits, LaterFits, Now, OutFits, PhaseFits, reads_at}
use Rattle.law_scans.proofs.ClockAnswers.Kept.{fronts}
use Rattle.law_scans.proofs.inv.Outcomes.Ended.{seen_taken}

-- what a record says of a call
abbrev pub now_of : Config → ℕ → Past → Now
now_of c k p = record { search = search_of k p; was = λ s. was_taken c.slots k s p; since = λ s. taken_since c.slots k s p; fits = lacks_row c k p (began_of k p) }

-- the slots beyond the table, whose bits are set from the start, and the rows taken since the last entry of a scan
abbrev pub lates : Config → Past → ℕ → ℕ → Bool
lates c p k s = nat_lt c.slots s || taken_since c.slots k s p

-- events that are of no search
unmarked : (i : ℕ) (p : Past) (event : Event) → (is_unread event && is_within event) ≡ true → own i is_mark p i event ≡ false
unmarked i p (events.Begin call) h = absurd (cc)
unmarked i p (events.Read guard span) h = absurd (cc)
unmarked i p (events.Saw guard slot) h = absurd (cc)
unmarked i p (events.Back slot) h = absurd (cc)
unmarked i p event h = refl

both_all : (f g : Event → Bool) (told : List Event) → all_of f told ≡ true → all_of g told ≡ true → all_of (λ event. f event && g event) told ≡ true
both_all f g [] a b = refl
both_all f g (event ∷ told) a b =
    both (f event && g event) (all_of (λ event. f event && g event) told) (both (f event) (g event) (first_of (f event) (all_of f told) a) (first_of (g event) (all_of g told) b)) (both_all f g told (rest_of (f event) (all_of f told) a) (rest_of (g event) (all_of g told) b))

within_not : (i : ℕ) (p : Past) (event : Event) → is_within event ≡ true → begins i p i event ≡ false
within_not i p (events.Begin call) h = absurd (cc)
within_not i p event h = refl

was_on : (c : Config) (i s : ℕ) (told : List Event) (p : Past) → all_of is_within told ≡ true → was_taken c.slots i s p ≡ true → was_taken c.slots i s (tells_of p i told) ≡ true
was_on c i s told p h k = held_tells (begins i) (taken_at c.slots s) is_within i (within_not i) told p h k

since_on : (c : Config) (i s : ℕ) (told : List Event) (p : Past) → all_of is_unread told ≡ true → all_of is_within told ≡ true → taken_since c.slots i s p ≡ true → taken_since c.slots i s (tells_of p i told) ≡ true
since_on c i s told p u h k = held_tells (own i is_mark) (taken_at c.slots s) (λ event. is_unread event && is_within event) i (unmarked i) told p (both_all is_unread is_within told u h) k

-- what a call lacks
later_others : (k i : ℕ) (told : List Event) (p q : Past) → (k == i) ≡ false → Later k p q → Later k p (tells_of q i told)
later_others k i [] p q e l = l
later_others k i (event ∷ told) p q e l = later_others k i told p (Then q i event) e (later_then k i p q event (others_begin k i q event e) l)

lacks_to : (c : Config) (k : ℕ) (p q : Past) → began_of k q ≡ began_of k p → Later k p q → (held_since (begins k) (has_number c) p ≡ true → held_since (begins k) (has_number c) q ≡ true) → lacks_row c k p (began_of k p) ≡ true → lacks_row c k q (began_of k q) ≡ true
lacks_to c k p q e l m h = subst (λ (call : Option Call). lacks_row c k q call ≡ true) (sym e) (lacks_last c k p q (began_of k p) l m h)

lacks_on : (c : Config) (i : ℕ) (told : List Event) (p : Past) → all_of is_within told ≡ true → lacks_row c i p (began_of i p) ≡ true → lacks_row c i (tells_of p i told) (began_of i (tells_of p i told)) ≡ true
lacks_on c i told p n h = lacks_to c i p (tells_of p i told) (began_along i told p n) (later_all i i p p told n (later_same i p)) (λ m. held_tells (begins i) (has_number c) is_within i (within_not i) told p n m) h

lacks_others : (c : Config) (k i : ℕ) (told : List Event) (p : Past) → (k == i) ≡ false → lacks_row c k p (began_of k p) ≡ true → lacks_row c k (tells_of p i told) (began_of k (tells_of p i told)) ≡ true
lacks_others c k i told p e h = lacks_to c k p (tells_of p i told) (others_began k i told p e) (later_others k i told p p e (later_same k p)) (λ m. held_others (begins k) (has_number c) i (λ q event. others_begin k i q event e) told p m) h

-- the search after what is told
still_same : (event : Event) (x : Search) → is_still event ≡ true → search_by event x ≡ x
still_same (events.Begin call) x h = absurd (cc)
still_same (events.Read guard span) x h = absurd (cc)
still_same (events.Saw guard slot) x h = absurd (cc)
still_same (events.Give slot birth) x h = absurd (cc)
still_same (events.Retire slot birth retire) x h = absurd (cc)
still_same event x h = refl

still_along : (told : List Event) (x : Search) → all_of is_still told ≡ true → along search_by told x ≡ x
still_along [] x h = refl
still_along (event ∷ told) x h =
    ap (along search_by told) (still_same event x (first_of (is_still event) (all_of is_still told) h)) ∙ still_along told x (rest_of (is_still event) (all_of is_still told) h)

along_told : (w : World) (i : ℕ) (x : Search) → along search_by (told_in w i) x ≡ along search_by (fronts w i) x
along_told w i x =
    let s = told_starts w i in
    ap (λ (es : List Event). along search_by es x) s.is ∙ along_both search_by (fronts w i) s.rest x ∙ still_along s.rest (along search_by (fronts w i) x) s.still

end_same : (post : Post) (outcome : CallOutcome) (x : Search) → along search_by (told_end post outcome) x ≡ x
end_same post (GoesOn phase) x = refl
end_same post (Answers answer) x = refl

told_search : (w : World) (i : ℕ) (p : Past) → search_of i (tells_of p i (turn (offered w i) (finds w i)).told) ≡ along search_by (fronts w i) (search_of i p)
told_search w i p =
    let t : CallTurn = turn (offered w i) (finds w i) in
    let x : Search = search_of i p in
    seen_tells search_by no_search i t.told p
    ∙ sym (end_same t.post t.outcome (along search_by t.told x))
    ∙ sym (along_both search_by t.told (told_end t.post t.outcome) x)
    ∙ along_told w i x

after_search : (first : List Event) (z : Now) → (after_first first z).search ≡ along search_by first z.search
after_search [] z = refl
after_search (event ∷ first) z = after_search first (now_by event z)

after_was : (first : List Event) (z : Now) → (after_first first z).was ≡ z.was
after_was [] z = refl
after_was (event ∷ first) z = after_was first (now_by event z)

after_since : (first : List Event) (z : Now) → (after_first first z).since ≡ z.since
after_since [] z = refl
after_since (event ∷ first) z = after_since first (now_by event z)

after_fits : (first : List Event) (z : Now) → (after_first first z).fits ≡ z.fits
after_fits [] z = refl
after_fits (event ∷ first) z = after_fits first (now_by event z)

-- what a history keeps
pub record Keeps (layout : Layout) (made : Made) : Type 0 where
  pub once : once.Keeps layout made
  pub answers : answering.Keeps made.world.layout.config.buckets made
  pub sees : Sees made
  pub walking : Walking made.world (lates made.world.layout.config made.past)
  pub seats : (k : ℕ) → PhaseFits made.world.layout.config (made.world.seat k).phase (now_of made.world.layout.config k made.past)
  pub rooms : (s : ℕ) → s ≤ made.world.layout.config.slots → Each (room_ok made.world.layout.config.slots s) made.past
  pub fulls : (s : ℕ) → s ≤ made.world.layout.config.slots → Each (full_ok made.world.layout.config s) made.past
  pub lacks : Each (lacks_ok made.world.layout.config) made.past

-- what a step of a walk sees was taken at this step, or before
within_table : (slots s : ℕ) (since : Bool) → s ≤ slots → (nat_lt slots s || since) ≡ true → since ≡ true
within_table slots s true l h = refl
within_table slots s false l h = absurd (grind (arith, nat_tests))

in_table : (slots s : ℕ) (since : Bool) → (nat_lt slots s || since) ≡ false → s ≤ slots
in_table slots s since h = by (nat_lt slots s) refl h
  where
    by : (x : Bool) → nat_lt slots s ≡ x → (x || since) ≡ false → s ≤ slots
    by true e k = absurd (cc)
    by false e k = grind (arith, nat_tests)

seen_now : (layout : Layout) (made : Made) (i s : ℕ) (told : List Event) (k : Keeps layout made) (old : Bool) → lates made.world.layout.config made.past i s ≡ old → all_of is_unread told ≡ true → all_of is_within told ≡ true
    → seen_after made.world i (lates made.world.layout.config made.past) i s ≡ true → lates made.world.layout.config (tells_of made.past i told) i s ≡ true
seen_now layout made i s told k true e u h n =
    let c : Config = made.world.layout.config in
    by (nat_lt c.slots s) e
  where
    by : (beyond : Bool) → (beyond || taken_since made.world.layout.config.slots i s made.past) ≡ true → (beyond || taken_since made.world.layout.config.slots i s (tells_of made.past i told)) ≡ true
    by true h' = refl
    by false h' = since_on made.world.layout.config i s told made.past u h h'
seen_now layout made i s told k false e u h n =
    let w : World = made.world in
    let c : Config = w.layout.config in
    let l : s ≤ c.slots = in_table c.slots s (taken_since c.slots i s made.past) e in
    let g = k.once in
    let t : is_taken (g.rows.status s) ≡ true = seen_taken w i s g.rows (lates c made.past) g.known.whole.both.rows l e n in
    let p : taken_at c.slots s made.past ≡ true = g.shows.taken s ∙ t in
    or_more (nat_lt c.slots s) (taken_since c.slots i s (tells_of made.past i told)) (since_on c i s told made.past u h (held_now (own i is_mark) (taken_at c.slots s) made.past p))

-- a walk that ends with Full
full_sees : (layout : Layout) (made : Made) (i : ℕ) (told : List Event) (z : Now) → Keeps layout made → (phase : Phase) → (made.world.seat i).phase ≡ phase → (is_scanning phase ≡ false → all_of is_unread told ≡ true) → all_of is_within told ≡ true
    → ((s : ℕ) → taken_since made.world.layout.config.slots i s (tells_of made.past i told) ≡ true → z.since s ≡ true) → FullSees made.world.layout.config phase (counted (made.world.seat i).post) (finds made.world i) z
full_sees layout made i told z k (Runs why (Allocate (ClaimSlot birth walk))) e u h m = λ full s l.
    let w : World = made.world in
    let c : Config = w.layout.config in
    let n = full_seen w i why birth walk (lates c made.past) s k.once.known.seats k.walking e full l in
    m s (within_table c.slots s (taken_since c.slots i s (tells_of made.past i told)) l (seen_now layout made i s told k (lates c made.past i s) refl (u refl) h n))
full_sees layout made i told z k phase e u h m = tt

-- what fits where the seat stands fits by what the record says later
phase_to : (c : Config) (phase : Phase) (x y : Now) → y.search ≡ x.search → ((s : ℕ) → x.was s ≡ true → y.was s ≡ true) → (is_scanning phase ≡ false → (s : ℕ) → x.since s ≡ true → y.since s ≡ true) → (x.fits ≡ true → y.fits ≡ true) → PhaseFits c phase x → PhaseFits c phase y
phase_to c (Scans later at) x y e m n o f = later_on c (reads_at (guards c) at) later x y e m f
phase_to c Idle x y e m n o f = tt
phase_to c (Runs why base) x y e m n o f = phase_on c (Runs why base) x y (record { search = e; was = m; since = n refl; fits = o }) f
phase_to c (Works work) x y e m n o f = phase_on c (Works work) x y (record { search = e; was = m; since = n refl; fits = o }) f

-- a step
unread_in : (w : World) (i : ℕ) → is_scanning (w.seat i).phase ≡ false → all_of is_unread (told_in w i) ≡ true
unread_in w i n = told_unread (w.seat i).phase (counted (w.seat i).post) (offered w i).desk (finds w i) n

own_out : (layout : Layout) (made : Made) (i : ℕ) → i < made.world.layout.config.seats → is_busy made.world i ≡ true → Keeps layout made → OutFits made.world.layout.config (turn (offered made.world i) (finds made.world i)).outcome (now_of made.world.layout.config i (tells_of made.past i (turn (offered made.world i) (finds made.world i)).told))
own_out layout made i b y k =
    let w : World = made.world in
    let c : Config = w.layout.config in
    let p : Past = made.past in
    let own : Local = offered w i in
    let t : CallTurn = turn own (finds w i) in
    let q : Past = tells_of p i t.told in
    let known = k.once.known in
    let inside : all_of is_within t.told ≡ true = first_all is_within t.told (told_end t.post t.outcome) (within_of w i) in
    let unread : is_scanning own.phase ≡ false → all_of is_unread t.told ≡ true = λ n. first_all is_unread t.told (told_end t.post t.outcome) (unread_in w i n) in
    let z : Now = record { search = search_of i p; was = λ s. was_taken c.slots i s q; since = λ s. taken_since c.slots i s q; fits = lacks_row c i q (began_of i q) } in
    let a : own.post.layout ≡ w.layout = (known.seats.fits i).post.layout in
    let r : PhaseRight own.phase (counted own.post) = phase_right w.layout own.phase own.post (list_in w i) a (known.seats.fits i).phase (known.whole.both.rows.plays i).right in
    let f : PhaseFits c own.phase z = phase_to c own.phase (now_of c i p) z refl (λ s h. was_on c i s t.told p inside h) (λ n s h. since_on c i s t.told p (unread n) inside h) (λ h. lacks_on c i t.told p inside h) (k.seats i) in
    let g : FullSees c own.phase (counted own.post) (finds w i) z = full_sees layout made i t.told z k own.phase refl unread inside (λ s h. h) in
    let began : began_of i p ≡ Some own.call = (k.answers.seats i).began y in
    let d : PhaseSure own.phase (counted own.post) (finds w i) z =
    phase_sure w i k.sees.rows k.sees.line k.sees.asked p own.call z own.phase b k.sees.shown (λ h. lacks_on c i t.told p inside (subst (λ (call : Option Call). lacks_row c i p call ≡ true) (sym began) h)) refl ((k.answers.seats i).serves y) in
    let l : OutFits c t.outcome (after_first (fronts w i) z) =
    subst (λ (table : Layout). PhaseFits table.config own.phase z → FullSees table.config own.phase (counted own.post) (finds w i) z → OutFits table.config t.outcome (after_first (fronts w i) z)) a
    (λ f' g'. turn_fits z own.phase (counted own.post) own.desk (finds w i) r f' d g' (λ s h. within_call i (taken_at c.slots s) q h)) f g in
    out_on c t.outcome (after_first (fronts w i) z) (now_of c i q)
    (record {
      search = told_search w i p ∙ sym (after_search (fronts w i) z);
      was = λ s h. subst (λ (x : ℕ → Bool). x s ≡ true) (after_was (fronts w i) z) h;
      since = λ s h. subst (λ (x : ℕ → Bool). x s ≡ true) (after_since (fronts w i) z) h;
      fits = λ h. sym (after_fits (fronts w i) z) ∙ h;
    })
    l

left_fits : (c : Config) (i : ℕ) (q : Past) (post : Post) (outcome : CallOutcome) → OutFits c outcome (now_of c i q) → PhaseFits c (phase_left outcome) (now_of c i (tells_of q i (told_end post outcome)))
left_fits c i q post (GoesOn phase) f = f
left_fits c i q post (Answers answer) f = tt

others_on : (c : Config) (k i : ℕ) (told : List Event) (p : Past) → (k == i) ≡ false → Onto (now_of c k p) (now_of c k (tells_of p i told))
others_on c k i told p e = record {
  search = seen_stays search_by no_search k i told p e;
  was = λ s h. held_others (begins k) (taken_at c.slots s) i (λ q event. others_begin k i q event e) told p h;
  since = λ s h. held_others (own k is_mark) (taken_at c.slots s) i (λ q event. others_own k i is_mark q event e) told p h;
  fits = λ h. lacks_others c k i told p e h;
}

step_fits : (layout : Layout) (made : Made) (i m : ℕ) (same : Bool) → (m == i) ≡ same → i < made.world.layout.config.seats → is_busy made.world i ≡ true → Keeps layout made → PhaseFits made.world.layout.config ((step made.world i).seat m).phase (now_of made.world.layout.config m (tells_of made.past i (told_in made.world i)))
step_fits layout made i m true e b y k =
    let w : World = made.world in
    let c : Config = w.layout.config in
    let t : CallTurn = turn (offered w i) (finds w i) in
    let q : i ≡ m = grind (arith, nat_tests) in
    subst (λ (j : ℕ). PhaseFits c ((step w i).seat j).phase (now_of c j (tells_of made.past i (told_in w i)))) q
    (subst (λ (phase : Phase). PhaseFits c phase (now_of c i (tells_of made.past i (told_in w i)))) (sym (stepped_phase w i))
    (subst (λ (r : Past). PhaseFits c (phase_left t.outcome) (now_of c i r)) (sym (tells_both i t.told (told_end t.post t.outcome) made.past)) (left_fits c i (tells_of made.past i t.told) t.post t.outcome (own_out layout made i b y k))))
step_fits layout made i m false e b y k =
    let w : World = made.world in
    let c : Config = w.layout.config in
    subst (λ (l : Local). PhaseFits c l.phase (now_of c m (tells_of made.past i (told_in w i)))) (sym (seat_stays w i m e))
    (phase_on c (w.seat m).phase (now_of c m made.past) (now_of c m (tells_of made.past i (told_in w i))) (others_on c m i (told_in w i) made.past e) (k.seats m))

-- the walks after a step
lates_on : (c : Config) (p q : Past) (k s : ℕ) → (taken_since c.slots k s p ≡ true → taken_since c.slots k s q ≡ true) → lates c p k s ≡ true → lates c q k s ≡ true
lates_on c p q k s m h = by (nat_lt c.slots s) h
  where
    by : (beyond : Bool) → (beyond || taken_since c.slots k s p) ≡ true → (beyond || taken_since c.slots k s q) ≡ true
    by true h' = refl
    by false h' = m h'

quiet_walks : (layout : Layout) (made : Made) (i : ℕ) → is_scanning (made.world.seat i).phase ≡ false → Keeps layout made → Walking (step made.world i) (seen_after made.world i (lates made.world.layout.config made.past))
    → WalkPhase made.world.layout.config.slots (lates made.world.layout.config (tells_of made.past i (told_in made.world i)) i) ((step made.world i).seat i).phase
quiet_walks layout made i n k g =
    let w : World = made.world in
    let c : Config = w.layout.config in
    walk_more c.slots (seen_after w i (lates c made.past) i) (lates c (tells_of made.past i (told_in w i)) i) (λ s h. seen_now layout made i s (told_in w i) k (lates c made.past i s) refl (unread_in w i n) (within_of w i) h) ((step w i).seat i).phase (g.walks i)

own_walks : (layout : Layout) (made : Made) (i : ℕ) (phase : Phase) → (made.world.seat i).phase ≡ phase → Keeps layout made → Walking (step made.world i) (seen_after made.world i (lates made.world.layout.config made.past))
    → WalkPhase made.world.layout.config.slots (lates made.world.layout.config (tells_of made.past i (told_in made.world i)) i) ((step made.world i).seat i).phase
own_walks layout made i (Scans later at) e k g =
    let w : World = made.world in
    let c : Config = w.layout.config in
    let seen : ℕ → Bool = lates c (tells_of made.past i (told_in w i)) i in
    subst (λ (phase : Phase). WalkPhase c.slots seen phase) (sym (stepped_phase w i)) (by (w.seat i).phase e)
  where
    by : (phase : Phase) → phase ≡ Scans later at → WalkPhase made.world.layout.config.slots (lates made.world.layout.config (tells_of made.past i (told_in made.world i)) i) (phase_left (steps.phase_turn phase (counted (made.world.seat i).post) (offered made.world i).desk (finds made.world i)).outcome)
    by phase e' = rw e' (scan_walks made.world.layout.config.slots (lates made.world.layout.config (tells_of made.past i (told_in made.world i)) i) later at (counted (made.world.seat i).post) (offered made.world i).desk (finds made.world i))
own_walks layout made i Idle e k g = quiet_walks layout made i (ap is_scanning e) k g
own_walks layout made i (Runs why base) e k g = quiet_walks layout made i (ap is_scanning e) k g
own_walks layout made i (Works work) e k g = quiet_walks layout made i (ap is_scanning e) k g

step_walks : (layout : Layout) (made : Made) (i m : ℕ) (same : Bool) → (m == i) ≡ same → Keeps layout made → Walking (step made.world i) (seen_after made.world i (lates made.world.layout.config made.past))
    → WalkPhase made.world.layout.config.slots (lates made.world.layout.config (tells_of made.past i (told_in made.world i)) m) ((step made.world i).seat m).phase
step_walks layout made i m true e k g =
    let w : World = made.world in
    let c : Config = w.layout.config in
    let q : i ≡ m = grind (arith, nat_tests) in
    subst (λ (j : ℕ). WalkPhase c.slots (lates c (tells_of made.past i (told_in w i)) j) ((step w i).seat j).phase) q (own_walks layout made i (w.seat i).phase refl k g)
step_walks layout made i m false e k g =
    let w : World = made.world in
    let c : Config = w.layout.config in
    let o : Onto (now_of c m made.past) (now_of c m (tells_of made.past i (told_in w i))) = others_on c m i (told_in w i) made.past e in
    subst (λ (l : Local). WalkPhase c.slots (lates c (tells_of made.past i (told_in w i)) m) l.phase) (sym (seat_stays w i m e))
    (walk_more c.slots (lates c made.past m) (lates c (tells_of made.past i (told_in w i)) m) (λ s h. lates_on c made.past (tells_of made.past i (told_in w i)) m s (o.since s) h) (w.seat m).phase (k.walking.walks m))

-- the law on scans that make room
unread_room : (slots s i : ℕ) (p : Past) (event : Event) → is_unread event ≡ true → room_ok slots s p i event ≡ true
unread_room slots s i p (events.Read guard span) h = absurd (cc)
unread_room slots s i p (events.Saw guard slot) h = absurd (cc)
unread_room slots s i p event h = refl

still_room : (slots s i : ℕ) (p : Past) (event : Event) → is_still event ≡ true → room_ok slots s p i event ≡ true
still_room slots s i p (events.Read guard span) h = absurd (cc)
still_room slots s i p (events.Saw guard slot) h = absurd (cc)
still_room slots s i p event h = refl

each_room : (slots s i : ℕ) (quiet : Event → Bool) → ((p : Past) (event : Event) → quiet event ≡ true → room_ok slots s p i event ≡ true) → (told : List Event) (p : Past) → all_of quiet told ≡ true → Each (room_ok slots s) p → Each (room_ok slots s) (tells_of p i told)
each_room slots s i quiet n [] p h g = g
each_room slots s i quiet n (event ∷ told) p h g = each_room slots s i quiet n told (Then p i event) (rest_of (quiet event) (all_of quiet told) h) (n p event (first_of (quiet event) (all_of quiet told) h), g)

later_room : (c : Config) (n s i : ℕ) (p : Past) (later : AfterScan) → s ≤ c.slots → LaterFits c n later (now_of c i p) → (not (search_of i p).seeks || was_taken c.slots i s p) ≡ true
later_room c n s i p (Answered answer) l f = or_left_true (not (search_of i p).seeks) (was_taken c.slots i s p) (ap not f.0)
later_room c n s i p (Repeated task) l f = or_more (not (search_of i p).seeks) (was_taken c.slots i s p) (f.was s l)
later_room c n s i p Counted l f = or_left_true (not (search_of i p).seeks) (was_taken c.slots i s p) (ap not f)

scan_room : (c : Config) (s i : ℕ) (p : Past) (later : AfterScan) (at : ScanAt) (post : Post) (found : ℕ) → s ≤ c.slots → LaterFits c (reads_at (guards c) at) later (now_of c i p) → Each (room_ok c.slots s) p → Each (room_ok c.slots s) (tells_of p i (scan_told at post found))
scan_room c s i p later (ReadGuard n) post found l f g =
    let room = later_room c n s i p later l f in
    reads_are (λ (event : Event). Each (room_ok c.slots s) (tells_of p i (event ∷ []))) (publishes_rows post.layout.config.scheme) (guard_at post.layout.config n) found (λ span. (room, g)) (λ slot. (room, g))
scan_room c s i p later (GiveBack place slot) post found l f g = (refl, g)

step_room : (layout : Layout) (made : Made) (i s : ℕ) (phase : Phase) → (made.world.seat i).phase ≡ phase → s ≤ made.world.layout.config.slots → Keeps layout made → Each (room_ok made.world.layout.config.slots s) (tells_of made.past i (told_in made.world i))
step_room layout made i s (Scans later at) e l k =
    let w : World = made.world in
    let c : Config = w.layout.config in
    let st = told_starts w i in
    let f : PhaseFits c (Scans later at) (now_of c i made.past) = subst (λ (phase : Phase). PhaseFits c phase (now_of c i made.past)) e (k.seats i) in
    let one : fronts w i ≡ scan_told at (counted (w.seat i).post) (finds w i) = ap (λ (phase : Phase). front phase (counted (w.seat i).post) (finds w i)) e in
    let first : Each (room_ok c.slots s) (tells_of made.past i (fronts w i)) =
    subst (λ (es : List Event). Each (room_ok c.slots s) (tells_of made.past i es)) (sym one) (scan_room c s i made.past later at (counted (w.seat i).post) (finds w i) l f (k.rooms s l)) in
    subst (λ (es : List Event). Each (room_ok c.slots s) (tells_of made.past i es)) (sym st.is)
    (subst (λ (r : Past). Each (room_ok c.slots s) r) (sym (tells_both i (fronts w i) st.rest made.past)) (each_room c.slots s i is_still (still_room c.slots s i) st.rest (tells_of made.past i (fronts w i)) st.still first))
step_room layout made i s Idle e l k = let c : Config = made.world.layout.config in each_room c.slots s i is_unread (unread_room c.slots s i) (told_in made.world i) made.past (unread_in made.world i (ap is_scanning e)) (k.rooms s l)
step_room layout made i s (Runs why base) e l k = let c : Config = made.world.layout.config in each_room c.slots s i is_unread (unread_room c.slots s i) (told_in made.world i) made.past (unread_in made.world i (ap is_scanning e)) (k.rooms s l)
step_room layout made i s (Works work) e l k = let c : Config = made.world.layout.config in each_room c.slots s i is_unread (unread_room c.slots s i) (told_in made.world i) made.past (unread_in made.world i (ap is_scanning e)) (k.rooms s l)

-- the law on calls that find no free row
open_full : (c : Config) (s i : ℕ) (p : Past) (event : Event) → is_open event ≡ true → full_ok c s p i event ≡ true
open_full c s i p (events.End steps answer) h = absurd (cc)
open_full c s i p event h = refl

each_full : (c : Config) (s i : ℕ) (told : List Event) (p : Past) → all_of is_open told ≡ true → Each (full_ok c s) p → Each (full_ok c s) (tells_of p i told)
each_full c s i [] p h g = g
each_full c s i (event ∷ told) p h g = each_full c s i told (Then p i event) (rest_of (is_open event) (all_of is_open told) h) (open_full c s i p event (first_of (is_open event) (all_of is_open told) h), g)

end_full : (c : Config) (s i steps : ℕ) (q : Past) (answer : Answer) → s ≤ c.slots → AnswerFits c answer (now_of c i q) → full_ok c s q i (events.End steps answer) ≡ true
end_full c s i steps q the_answers.Full l f =
    let g : FullFits c (now_of c i q) = f refl in
    both (search_of i q).seeks ((search_of i q).reads == guards c && taken_since c.slots i s q) g.seeks
    (both ((search_of i q).reads == guards c) (taken_since c.slots i s q) (same_test (search_of i q).reads (guards c) g.reads) (g.since s l))
end_full c s i steps q answer l f = refl

end_each : (c : Config) (s i : ℕ) (q : Past) (post : Post) (outcome : CallOutcome) → s ≤ c.slots → OutFits c outcome (now_of c i q) → Each (full_ok c s) q → Each (full_ok c s) (tells_of q i (told_end post outcome))
end_each c s i q post (GoesOn phase) l f g = g
end_each c s i q post (Answers answer) l f g = (end_full c s i post.steps q answer l f, g)

step_full : (layout : Layout) (made : Made) (i s : ℕ) → i < made.world.layout.config.seats → is_busy made.world i ≡ true → s ≤ made.world.layout.config.slots → Keeps layout made → Each (full_ok made.world.layout.config s) (tells_of made.past i (told_in made.world i))
step_full layout made i s b y l k =
    let w : World = made.world in
    let c : Config = w.layout.config in
    let n : ℕ = c.buckets in
    let t : CallTurn = turn (offered w i) (finds w i) in
    let o : Owes n (w.seat i).call (owed n (w.seat i).call (w.seat i).phase) t = owes_of n w i k.answers.table k.answers.known ((k.answers.seats i).serves y) in
    let q : Past = tells_of made.past i t.told in
    subst (λ (r : Past). Each (full_ok c s) r) (sym (tells_both i t.told (told_end t.post t.outcome) made.past))
    (end_each c s i q t.post t.outcome l (own_out layout made i b y k) (each_full c s i t.told made.past o.told.goes (k.fulls s l)))

-- the law on what such a call lacks
open_lacks : (c : Config) (i : ℕ) (p : Past) (event : Event) → is_open event ≡ true → lacks_ok c p i event ≡ true
open_lacks c i p (events.End steps answer) h = absurd (cc)
open_lacks c i p event h = refl

each_lacks : (c : Config) (i : ℕ) (told : List Event) (p : Past) → all_of is_open told ≡ true → Each (lacks_ok c) p → Each (lacks_ok c) (tells_of p i told)
each_lacks c i [] p h g = g
each_lacks c i (event ∷ told) p h g = each_lacks c i told (Then p i event) (rest_of (is_open event) (all_of is_open told) h) (open_lacks c i p event (first_of (is_open event) (all_of is_open told) h), g)

end_lacks : (c : Config) (i steps : ℕ) (q : Past) (answer : Answer) → AnswerFits c answer (now_of c i q) → lacks_ok c q i (events.End steps answer) ≡ true
end_lacks c i steps q the_answers.Full f = let g : FullFits c (now_of c i q) = f refl in g.fits
end_lacks c i steps q answer f = refl

ends_lacks : (c : Config) (i : ℕ) (q : Past) (post : Post) (outcome : CallOutcome) → OutFits c outcome (now_of c i q) → Each (lacks_ok c) q → Each (lacks_ok c) (tells_of q i (told_end post outcome))
ends_lacks c i q post (GoesOn phase) f g = g
ends_lacks c i q post (Answers answer) f g = (end_lacks c i post.steps q answer f, g)

step_lacks : (layout : Layout) (made : Made) (i : ℕ) → i < made.world.layout.config.seats → is_busy made.world i ≡ true → Keeps layout made → Each (lacks_ok made.world.layout.config) (tells_of made.past i (told_in made.world i))
step_lacks layout made i b y k =
    let w : World = made.world in
    let c : Config = w.layout.config in
    let n : ℕ = c.buckets in
    let t : CallTurn = turn (offered w i) (finds w i) in
    let o : Owes n (w.seat i).call (owed n (w.seat i).call (w.seat i).phase) t = owes_of n w i k.answers.table k.answers.known ((k.answers.seats i).serves y) in
    let q : Past = tells_of made.past i t.told in
    subst (λ (r : Past). Each (lacks_ok c) r) (sym (tells_both i t.told (told_end t.post t.outcome) made.past)) (ends_lacks c i q t.post t.outcome (own_out layout made i b y k) (each_lacks c i t.told made.past o.told.goes k.lacks))

pub step_keeps : (layout : Layout) (made : Made) (i : ℕ) → i < made.world.layout.config.seats → is_busy made.world i ≡ true → Keeps layout made → Keeps layout (done made (Steps i))
step_keeps layout made i b y k =
    let w : World = made.world in
    let c : Config = w.layout.config in
    let g = walking_kept w i (lates c made.past) k.once.known.valid k.once.known.seats k.walking in
    record {
      once = once.step_keeps layout made i b y k.once;
      answers = answering.step_keeps c.buckets made i b y k.answers;
      sees = step_sees made i b k.sees;
      walking = record { walks = λ m. step_walks layout made i m (m == i) refl k g };
      seats = λ m. step_fits layout made i m (m == i) refl b y k;
      rooms = λ s l. step_room layout made i s (w.seat i).phase refl l k;
      fulls = λ s l. step_full layout made i s b y l k;
      lacks = step_lacks layout made i b y k;
    }

-- a call begins
begin_on : (c : Config) (k i : ℕ) (call : Call) (p : Past) → (k == i) ≡ false → Onto (now_of c k p) (now_of c k (Then p i (events.Begin call)))
begin_on c k i call p e = others_on c k i (events.Begin call ∷ []) p e

begin_fits : (w : World) (i m : ℕ) (call : Call) (p : Past) (same : Bool) → (m == i) ≡ same → ((k : ℕ) → PhaseFits w.layout.config (w.seat k).phase (now_of w.layout.config k p)) → PhaseFits w.layout.config ((begin w i call).seat m).phase (now_of w.layout.config m (Then p i (events.Begin call)))
begin_fits w i m call p true e g =
    let c : Config = w.layout.config in
    let q : i ≡ m = grind (arith, nat_tests) in
    let r : Past = Then p i (events.Begin call) in
    subst (λ (j : ℕ). PhaseFits c ((begin w i call).seat j).phase (now_of c j r)) q
    (subst (λ (l : Local). PhaseFits c l.phase (now_of c i r)) (sym (begin_begins w i call))
    (subst (λ (x : Search). PhaseFits c (begun (w.seat i) call).phase (record { search = x; was = λ s. was_taken c.slots i s r; since = λ s. taken_since c.slots i s r; fits = lacks_row c i r (began_of i r) })) (sym (seen_own search_by no_search i p (events.Begin call)))
    (first_fits c call (begun_post (w.seat i).post) (λ s. was_taken c.slots i s r) (λ s. taken_since c.slots i s r) (lacks_row c i r (began_of i r)))))
begin_fits w i m call p false e g =
    let c : Config = w.layout.config in
    subst (λ (l : Local). PhaseFits c l.phase (now_of c m (Then p i (events.Begin call)))) (sym (begin_stays w i m call e))
    (phase_on c (w.seat m).phase (now_of c m p) (now_of c m (Then p i (events.Begin call))) (begin_on c m i call p e) (g m))

begin_walks : (w : World) (i m : ℕ) (call : Call) (p : Past) (same : Bool) → (m == i) ≡ same → Walking w (lates w.layout.config p) → WalkPhase w.layout.config.slots (lates w.layout.config (Then p i (events.Begin call)) m) ((begin w i call).seat m).phase
begin_walks w i m call p true e g =
    let c : Config = w.layout.config in
    let q : i ≡ m = grind (arith, nat_tests) in
    let r : Past = Then p i (events.Begin call) in
    subst (λ (j : ℕ). WalkPhase c.slots (lates c r j) ((begin w i call).seat j).phase) q
    (subst (λ (l : Local). WalkPhase c.slots (lates c r i) l.phase) (sym (begin_begins w i call)) (first_walks c.slots (lates c r i) call (begun_post (w.seat i).post)))
begin_walks w i m call p false e g =
    let c : Config = w.layout.config in
    let r : Past = Then p i (events.Begin call) in
    let o : Onto (now_of c m p) (now_of c m r) = begin_on c m i call p e in
    subst (λ (l : Local). WalkPhase c.slots (lates c r m) l.phase) (sym (begin_stays w i m call e))
    (walk_more c.slots (lates c p m) (lates c r m) (λ s h. lates_on c p r m s (o.since s) h) (w.seat m).phase (g.walks m))

pub begin_keeps : (layout : Layout) (made : Made) (i : ℕ) (call : Call) → is_busy made.world i ≡ false → may_start made.world i call ≡ true → Keeps layout made → Keeps layout (done made (Begins i call))
begin_keeps layout made i call f m k = record {
  once = once.begin_keeps layout made i call f m k.once;
  answers = answering.begin_keeps made.world.layout.config.buckets made i call f m k.answers;
  sees = begin_sees made i call f m k.sees;
  walking = record { walks = λ n. begin_walks made.world i n call made.past (n == i) refl k.walking };
  seats = λ n. begin_fits made.world i n call made.past (n == i) refl k.seats;
  rooms = λ s l. (refl, k.rooms s l);
  fulls = λ s l. (refl, k.fulls s l);
  lacks = (refl, k.lacks);
}

pub first_keeps : (layout : Layout) → is_valid layout ≡ true → Keeps layout (first_made layout)
first_keeps layout d = record {
  once = once.first_keeps layout d;
  answers = answering.first_keeps layout d;
  sees = first_sees layout d;
  walking = walking_start layout (lates layout.config Start);
  seats = λ k. tt;
  rooms = λ s l. tt;
  fulls = λ s l. tt;
  lacks = tt;
}

steady : (layout : Layout) → Steady (Keeps layout)
steady layout = record { begins = λ made i call b y m g. begin_keeps layout made i call y m g; steps = λ made i b y g. step_keeps layout made i b y g }

history_keeps : (layout : Layout) (items : List Item) → is_valid layout ≡ true → Keeps layout (made_of layout items)
history_keeps layout items d = items_keep (Keeps layout) (steady layout) items (first_made layout) (first_keeps layout d)

record AllKept (c : Config) (r : Past) : Type 0 where
  rooms : (s : ℕ) → s ≤ c.slots → Each (room_ok c.slots s) r
  fulls : (s : ℕ) → s ≤ c.slots → Each (full_ok c s) r
  lacks : Each (lacks_ok c) r

all_kept : (layout : Layout) (items : List Item) → is_valid layout ≡ true → AllKept layout.config (record_of layout items)
all_kept layout items d = let g = history_keeps layout items d in subst (λ (table : Layout). AllKept table.config (record_of layout items)) g.once.table (record { rooms = g.rooms; fulls = g.fulls; lacks = g.lacks })

pub records_scan_for_room : RecordsScanForRoom
records_scan_for_room layout items d s l = entries_of_each (room_ok layout.config.slots s) (record_of layout items) ((all_kept layout items d).rooms s l)

pub records_keep_full : RecordsKeepFull
records_keep_full layout items d s l = entries_of_each (full_ok layout.config s) (record_of layout items) ((all_kept layout items d).fulls s l)

pub records_keep_lacks : RecordsKeepLacks
records_keep_lacks layout items d = entries_of_each (lacks_ok layout.config) (record_of layout items) (all_kept layout items d).lacks
