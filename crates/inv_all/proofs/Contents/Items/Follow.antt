-- What a step finds of the queue's rows, and a row to which a dequeue has followed the head's next link.
use Rattle.std.proofs.Common.{ℕ, ◌≡◌, ◌+◌, true, false, arith, ap, sym, ◌∙◌, [], ◌∷◌}
use Rattle.std.specs.Prelude.{◌==◌}
use Rattle.inv_ends.specs.model.words.Place.{Place}
use Rattle.inv_ends.specs.model.words.Place.Place.{Head, Row}
use Rattle.inv_ends.specs.model.defs.declared.event.Event.TheVariants as events
use Rattle.inv_ends.specs.model.defs.declared.event.Root.{Root}
use Rattle.inv_ends.specs.model.declared.ends.FollowEnd.{FollowEnd}
use Rattle.inv_ends.specs.model.declared.ends.FollowEnd.TheVariants as follow_ends
use Rattle.inv_ends.specs.model.declared.post.Post.{Post}
use Rattle.inv_ends.specs.model.Book.{Book}
use Rattle.inv_ends.specs.model.Posts.{with_row}
use Rattle.inv_ends.specs.model.Memory.{bump, place_in, found}
use Rattle.inv_ends.specs.model.Machine as machine
use Rattle.inv_ends.specs.model.Machine.{base_move}
use Rattle.inv_ends.specs.model.Steps.{phase_move}
use Rattle.inv_ends.specs.model.Phases.{Aim, Alone, Follows, ProtectAt, Base, Outcome, Goes, Ends, Turn, ends}
use Rattle.inv_ends.specs.model.Phases.Ending.{Done, Protected, Followed, Allocated, Retired, Clocked}
use Rattle.inv_ends.specs.model.Phases.Base.{Begin, Protect, Reload, Clear, Finish, Release, Allocate, Write, GiveUp, Retire, Move}
use Rattle.inv_ends.specs.model.Calls.{EnqueueKept, Why, FollowsHead, EnqueueAt, LoadNumber, LoadNext, PassTail, ExchangeNext, ExchangeTail, DequeueAt, LoadTail, SwingTail, TakeNumber, TakeValue, ExchangeHead, Work, Getting, Changing, Enqueuing, Dequeuing, Phase, Idle, Runs, Scans, Works, Keeping}
use Rattle.inv_ends.proofs.model.Facts.{same_number, number_is, if_by}
use Rattle.inv_ends.specs.rows.Rows.{View}
use Rattle.inv_ends.specs.rows.Follow.{LoadsBase}
use Rattle.inv_ends.specs.rows.Queue.{Line}
use Rattle.inv_ends.specs.rows.Chain.{queue_of}
use Rattle.inv_all.proofs.Contents.Stands.Machines.{follow_lands, lands, protect_lands}
use Rattle.inv_all.specs.Contents.Reads.{Reads}
use Rattle.inv_all.specs.Contents.Items.{Shown}
use Rattle.inv_all.specs.Contents.Turns.{NextRight, follow_right, outcome_right, why_right, enqueue_right, dequeue_right, work_right, phase_right}
use Rattle.inv_ends.proofs.rows.Went.{LineIn, WalksIn}

-- what a step of a phase finds
abbrev pub finds_phase : (Place → ℕ) → Phase → Post → ℕ
finds_phase mem phase post = found (phase_move phase post) (mem (place_in (phase_move phase post)))

unfollowed : (l : Line) (ending : FollowEnd) → follow_lands ending ≡ false → follow_right l ending
unfollowed l (follow_ends.Followed slot) h = absurd (cc)
unfollowed l follow_ends.NoNext h = tt
unfollowed l (follow_ends.RootMoved seen) h = tt

unlanded : (l : Line) (outcome : Outcome) → lands outcome ≡ false → outcome_right l outcome
unlanded l (Goes base) h = tt
unlanded l (Ends Done) h = tt
unlanded l (Ends (Protected ending)) h = tt
unlanded l (Ends (Followed ending)) h = unfollowed l ending h
unlanded l (Ends (Allocated ending)) h = tt
unlanded l (Ends (Retired life)) h = tt
unlanded l (Ends (Clocked clock)) h = tt

-- the row after the head
pub after_head : (v : View) (l : Line) (mem : Place → ℕ) (head slot : ℕ) → LineIn v l mem → v.head ≡ head + 1 → mem (Row head 0) ≡ slot + 1 → NextRight l slot
after_head v l mem head slot g e n =
    let first : queue_of v head ≡ true = g.first head e in
    let rises : l.number slot ≡ l.number head + 1 = g.rises head slot first n in
    record { lined = g.lined slot (g.links head slot first n); above = omega arith }

protect_right : (l : Line) (h : ℕ) (aim : Aim) (index : ℕ) (root : Root) (steps : ℕ) (at : ProtectAt) (next : ℕ) (post : Post) (word : ℕ) → LoadsBase h (Protect aim index root steps at) next → outcome_right l (machine.after (Protect aim index root steps at) post word).outcome
protect_right l h Alone index root steps at next post word o = absurd (let x = o.right in cc)
protect_right l h Follows index root steps at next post word o = unlanded l (machine.protect_turn Follows index root (bump steps) at post word).outcome (protect_lands index root (bump steps) at post word)

reload_right : (v : View) (l : Line) (mem : Place → ℕ) (h parent index slot era steps : ℕ) (post : Post) → mem Head ≡ v.head → LineIn v l mem → LoadsBase h (Reload parent index slot era steps) (mem (Row h 0)) → outcome_right l (machine.after (Reload parent index slot era steps) post (mem Head)).outcome
reload_right v l mem h parent index slot era steps post c g o =
    if_by (mem Head == parent + 1) (ends (with_row post index slot) (events.Held index slot (bump steps) ∷ []) (Followed (follow_ends.Followed slot))) (ends post [] (Followed (follow_ends.RootMoved (mem Head)))) (λ (t : Turn). outcome_right l t.outcome)
    (λ e.
    let is : parent ≡ h = number_is parent h o.right in
    let at : v.head ≡ h + 1 = sym c ∙ number_is (mem Head) (parent + 1) e ∙ ap (λ (x : ℕ). x + 1) is in
    after_head v l mem h slot g at (o.loaded (slot + 1) (same_number (slot + 1))))
    (λ e. tt)

follow_ends_right : (v : View) (l : Line) (mem : Place → ℕ) (h : ℕ) (base : Base) (post next : Post) → mem Head ≡ v.head → LineIn v l mem → LoadsBase h base (mem (Row h 0)) → outcome_right l (machine.after base next (found (base_move base post) (mem (place_in (base_move base post))))).outcome
follow_ends_right v l mem h (Protect aim index root steps at) post next c g o = protect_right l h aim index root steps at (mem (Row h 0)) next (found (base_move (Protect aim index root steps at) post) (mem (place_in (base_move (Protect aim index root steps at) post)))) o
follow_ends_right v l mem h (Reload parent index slot era steps) post next c g o = reload_right v l mem h parent index slot era steps next c g o
follow_ends_right v l mem h (Begin at) post next c g o = absurd (let x = o.right in cc)
follow_ends_right v l mem h (Clear rows index) post next c g o = absurd (let x = o.right in cc)
follow_ends_right v l mem h Finish post next c g o = absurd (let x = o.right in cc)
follow_ends_right v l mem h (Release index) post next c g o = absurd (let x = o.right in cc)
follow_ends_right v l mem h (Allocate at) post next c g o = absurd (let x = o.right in cc)
follow_ends_right v l mem h (Write slot row place) post next c g o = absurd (let x = o.right in cc)
follow_ends_right v l mem h (GiveUp slot) post next c g o = absurd (let x = o.right in cc)
follow_ends_right v l mem h (Retire at) post next c g o = absurd (let x = o.right in cc)
follow_ends_right v l mem h (Move at) post next c g o = absurd (let x = o.right in cc)

run_right : (v : View) (l : Line) (mem : Place → ℕ) (why : Why) (base : Base) (post next : Post) → mem Head ≡ v.head → LineIn v l mem → WalksIn (Runs why base) v l mem → why_right l why (machine.after base next (found (base_move base post) (mem (place_in (base_move base post))))).outcome
run_right v l mem (FollowsHead head tail) base post next c g w = follow_ends_right v l mem head base post next c g w.loads
run_right v l mem why base post next c g w = tt

enqueue_finds : (most : ℕ) (a : Book) (v : View) (l : Line) (mem : Place → ℕ) (kept : EnqueueKept) (at : EnqueueAt) (post : Post) → WalksIn (Works (Enqueuing kept at)) v l mem → Shown most mem a v l → enqueue_right l kept at (finds_phase mem (Works (Enqueuing kept at)) post)
enqueue_finds most a v l mem kept LoadNumber post w h = h.numbers kept.tail (w.stood kept.tail (same_number kept.tail))
enqueue_finds most a v l mem kept LoadNext post w h = tt
enqueue_finds most a v l mem kept (PassTail next) post w h = tt
enqueue_finds most a v l mem kept (ExchangeNext slot) post w h = tt
enqueue_finds most a v l mem kept (ExchangeTail slot) post w h = tt

dequeue_finds : (most : ℕ) (a : Book) (v : View) (l : Line) (mem : Place → ℕ) (at : DequeueAt) (post : Post) → Reads (Works (Dequeuing at)) l a.queued → Shown most mem a v l → dequeue_right l a.queued at (finds_phase mem (Works (Dequeuing at)) post)
dequeue_finds most a v l mem (LoadTail head) post r h = tt
dequeue_finds most a v l mem (SwingTail head next) post r h = tt
dequeue_finds most a v l mem (TakeNumber head next) post r h = h.numbers next (r.lined next (same_number next))
dequeue_finds most a v l mem (TakeValue head next number) post r h = h.values next (r.lined next (same_number next)) (r.above next (same_number next))
dequeue_finds most a v l mem (ExchangeHead head next number value) post r h = tt

work_finds : (most : ℕ) (a : Book) (v : View) (l : Line) (mem : Place → ℕ) (work : Work) (post : Post) → WalksIn (Works work) v l mem → Reads (Works work) l a.queued → Shown most mem a v l → work_right l a.queued work (finds_phase mem (Works work) post)
work_finds most a v l mem (Getting key at) post w r h = tt
work_finds most a v l mem (Changing kept at) post w r h = tt
work_finds most a v l mem (Enqueuing kept at) post w r h = enqueue_finds most a v l mem kept at post w h
work_finds most a v l mem (Dequeuing at) post w r h = dequeue_finds most a v l mem at post r h
work_finds most a v l mem (Keeping at) post w r h = tt

pub phase_finds : (most : ℕ) (a : Book) (v : View) (l : Line) (mem : Place → ℕ) (phase : Phase) (post next : Post) → mem Head ≡ v.head → LineIn v l mem → WalksIn phase v l mem → Reads phase l a.queued → Shown most mem a v l → phase_right l a.queued phase next (finds_phase mem phase post)
phase_finds most a v l mem Idle post next c g w r h = tt
phase_finds most a v l mem (Runs why base) post next c g w r h = run_right v l mem why base post next c g w
phase_finds most a v l mem (Scans later at) post next c g w r h = tt
phase_finds most a v l mem (Works work) post next c g w r h = work_finds most a v l mem work post w r h
