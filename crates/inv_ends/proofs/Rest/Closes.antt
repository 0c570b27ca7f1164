-- The same of the machines by which a round ends, and of those that come once in a call.
use Rattle.std.proofs.Common.{ℕ, ◌∙◌, ◌≡◌, ◌≤◌, ◌+◌, true, [], ◌∷◌, arith, refl, sym, subst, ◌<◌, Bool}
use Rattle.inv_rows.specs.words.Place.{is_valid}
use Rattle.inv_rows.specs.words.Place.Place.{Clock}
use Rattle.inv_rows.specs.model.Phases.Base.{Move, Allocate, Begin, Clear, Finish, GiveUp, Protect, Release, Reload, Retire, Write}
use Rattle.inv_rows.specs.defs.declared.event.Event.TheVariants as events
use Rattle.inv_rows.specs.model.Calls.{AfterScan, LetGo, Next, Task, Why}
use Rattle.inv_rows.specs.model.Calls.Next.{Again, Answering, MakeRoom, Retiring}
use Rattle.inv_rows.specs.model.Calls.Task.{Dequeues}
use Rattle.inv_rows.specs.model.Calls.Why.{Advances, Clears, ClearsNext, Fills, Finishes, FollowsHead, GivesUp, Opens, Releases, Retires, Tidies}
use Rattle.inv_rows.specs.model.Machine.{after}
use Rattle.inv_rows.specs.model.Phases.{Base, Ending, MoveAt, RetireAt, Turn, ends}
use Rattle.inv_rows.specs.model.Phases.Ending.{Done}
use Rattle.inv_rows.specs.model.Posts.{counted, reserves_span, with_span, withdrawn}
use Rattle.inv_rows.specs.model.Rest.{base_left, base_seen, closing_left, eras_left, span_seen, why_left}
use Rattle.inv_rows.specs.model.Rounds.{clearing, finishing, let_index}
use Rattle.inv_rows.specs.model.Steps.{resume, run_turn}
use Rattle.inv_rows.specs.model.World.{World, finds, offered, step}
use Rattle.inv_rows.specs.model.declared.post.Post.{Post}
use Rattle.inv_rows.specs.defs.declared.call.Answer.{Answer}
use Rattle.inv_rows.specs.defs.declared.event.Event.{Event}
use Rattle.inv_ends.proofs.Rest.Closings.{clearing_left, closed_left, finishing_left, spare, turn_left}
use Rattle.inv_ends.proofs.Rest.Falling.{Seat, seat_after}
use Rattle.inv_ends.proofs.Rest.Machines.{Settles, start_of}
use Rattle.inv_ends.proofs.Rest.Moves.{base_owes}
use Rattle.inv_ends.proofs.Rest.Runs.{advances_on, ends_on, retires_on, tidies_on, turn_total}
use Rattle.inv_ends.proofs.Rest.Seats.{Knows, Lowers, fills_lowers, follows_lowers, opens_lowers, seat_settles, still_after}
use Rattle.inv_ends.proofs.Rest.Told.{base_steady}
use Rattle.inv_ends.proofs.Rest.Ways.{released_left}
use Rattle.inv_ends.specs.Losses.{finish_fit, rounds_in}
use Rattle.inv_rows.specs.words.declared.config.Config.{Config}
use Rattle.std.specs.Prelude.{List, length, None}
use Rattle.inv_rows.specs.Shapes.Slots.{WhyIn}
use Rattle.inv_ends.proofs.Rest.Small.{few_of}
use Rattle.inv_rows.specs.words.Schemes.{publishes_rows}

pub clear_rounds : (w : World) (i : ℕ) (rows : Bool) (index : ℕ) → rounds_in w.layout.config (w.seat i).rounds (after (Clear rows index) (counted (w.seat i).post) (finds w i)).told ≡ (w.seat i).rounds
clear_rounds w i rows index = base_steady (publishes_rows w.layout.config.scheme) (w.seat i).rounds (Clear rows index) (counted (w.seat i).post) (finds w i) refl

-- a machine of one step, with what comes after it
one_step : (w : World) (i : ℕ) → is_valid w.layout ≡ true → (why : Why) (base : Base) (ending : Ending) (post : Post) (told : List Event) (most : ℕ) → Seat w i why base → Knows w i why base → base_owes w.layout.config base (counted (w.seat i).post) (finds w i)
    → after base (counted (w.seat i).post) (finds w i) ≡ ends post told ending → base_left w.layout.config base ≡ 1
    → turn_left w.layout.config (w.seat i).rounds (resume why ending post (offered w i).desk told) + 1 ≤ most
    → turn_total w.layout.config ((step w i).mem Clock) (w.seat i).rounds (run_turn why (offered w i).desk (after base (counted (w.seat i).post) (finds w i))) + 1 ≤ most + eras_left w.layout.config (base_seen base (span_seen (w.mem Clock) (w.seat i).post.span))
one_step w i v why base ending post told most s p o e b h =
    let c : Config = w.layout.config in
    let eras : ℕ = eras_left c (base_seen base (span_seen (w.mem Clock) (w.seat i).post.span)) in
    let x = seat_settles w i why base s o in
    let y : Settles c (1 + eras) ((step w i).mem Clock) (after base (counted (w.seat i).post) (finds w i)) = subst (λ (n : ℕ). Settles c (n + eras) ((step w i).mem Clock) (after base (counted (w.seat i).post) (finds w i))) b x in
    let a = seat_after w i why base (1 + eras) v s y p (ends post told ending) e in
    let k = ends_on c w.layout i ((step w i).mem Clock) (w.seat i).rounds why ending (offered w i).desk post told eras most h a in
    subst (λ (t : Turn). turn_total c ((step w i).mem Clock) (w.seat i).rounds (run_turn why (offered w i).desk t) + 1 ≤ most + eras) (sym e) k

closing_at : (c : Config) (lives rounds other : ℕ) (task : Task) (next : Next) (n : ℕ) → other ≡ rounds → n ≤ closing_left c lives other task next → n ≤ closing_left c lives rounds task next
closing_at c lives rounds other task next n e h = subst (λ (r : ℕ). n ≤ closing_left c lives r task next) e h

next_clears : (w : World) (i : ℕ) → is_valid w.layout ≡ true → (next : Next) (rows : Bool) (index : ℕ) → Seat w i (ClearsNext next) (Clear rows index) → Knows w i (ClearsNext next) (Clear rows index) → Lowers w i (ClearsNext next) (Clear rows index)
next_clears w i v next rows index s p =
    let c : Config = w.layout.config in
    let post : Post = counted (w.seat i).post in
    let told : List Event = (after (Clear rows index) post (finds w i)).told in
    let h = clearing_left c (w.seat i).rounds Dequeues next (withdrawn post index) (offered w i).desk told in
    let g : turn_left c (w.seat i).rounds (clearing Dequeues next (withdrawn post index) (offered w i).desk told) ≤ 1 + closing_left c (length (w.seat i).desk.list) (w.seat i).rounds Dequeues next =
    subst (λ (r : ℕ). turn_left c (w.seat i).rounds (clearing Dequeues next (withdrawn post index) (offered w i).desk told) ≤ 1 + closing_left c (length (w.seat i).desk.list) r Dequeues next) (clear_rounds w i rows index) h in
    one_step w i v (ClearsNext next) (Clear rows index) Done (withdrawn post index) told (2 + closing_left c (length (w.seat i).desk.list) (w.seat i).rounds Dequeues next) s p tt refl refl (omega (arith, g))

round_clears : (w : World) (i : ℕ) → is_valid w.layout ≡ true → (task : Task) (next : Next) (rows : Bool) (index : ℕ) → Seat w i (Clears task next) (Clear rows index) → Knows w i (Clears task next) (Clear rows index) → Lowers w i (Clears task next) (Clear rows index)
round_clears w i v task next rows index s p =
    let c : Config = w.layout.config in
    let post : Post = counted (w.seat i).post in
    let told : List Event = (after (Clear rows index) post (finds w i)).told in
    let h = finishing_left c (w.seat i).rounds task next (withdrawn post index) (offered w i).desk told in
    let g = closing_at c (length (w.seat i).desk.list) (w.seat i).rounds (rounds_in w.layout.config (w.seat i).rounds told) task next (turn_left c (w.seat i).rounds (finishing task next (withdrawn post index) (offered w i).desk told)) (clear_rounds w i rows index) h in
    one_step w i v (Clears task next) (Clear rows index) Done (withdrawn post index) told (1 + closing_left c (length (w.seat i).desk.list) (w.seat i).rounds task next) s p tt refl refl (omega (arith, g))

round_spares : (c : Config) (rounds : ℕ) (task : Task) (next : Next) → finish_fit c rounds task next → spare next ≡ 1
round_spares c rounds task Again f = absurd (cc)
round_spares c rounds task MakeRoom f = refl
round_spares c rounds task (Answering answer) f = refl
round_spares c rounds task (Retiring slot answer) f = refl

round_finishes : (w : World) (i : ℕ) → is_valid w.layout ≡ true → (task : Task) (next : Next) → Seat w i (Finishes task next) Finish → Knows w i (Finishes task next) Finish → Lowers w i (Finishes task next) Finish
round_finishes w i v task next s p =
    let c : Config = w.layout.config in
    let post : Post = with_span (counted (w.seat i).post) None in
    let told : List Event = reserves_span (counted (w.seat i).post) None in
    let h = closed_left c (w.seat i).rounds task next post (offered w i).desk told in
    let e = round_spares c (w.seat i).rounds task next s.lost in
    one_step w i v (Finishes task next) Finish Done post told (closing_left c (length (w.seat i).desk.list) (w.seat i).rounds task next) s p tt refl refl (omega (arith, h, e))

gives_up_lowers : (w : World) (i : ℕ) → is_valid w.layout ≡ true → (answer : Answer) (slot : ℕ) → Seat w i (GivesUp answer) (GiveUp slot) → Knows w i (GivesUp answer) (GiveUp slot) → Lowers w i (GivesUp answer) (GiveUp slot)
gives_up_lowers w i v answer slot s p =
    one_step w i v (GivesUp answer) (GiveUp slot) Done (counted (w.seat i).post) (events.Unused slot ∷ []) 1 s p tt refl refl (omega arith)

retires_lowers : (w : World) (i : ℕ) → is_valid w.layout ≡ true → (answer : Answer) (at : RetireAt) → Seat w i (Retires answer) (Retire at) → Knows w i (Retires answer) (Retire at) → Lowers w i (Retires answer) (Retire at)
retires_lowers w i v answer at s p =
    let t : Turn = after (Retire at) (counted (w.seat i).post) (finds w i) in
    let h = retires_on w.layout.config w.layout i ((step w i).mem Clock) (w.seat i).rounds answer (offered w i).desk t.post t.told t.outcome (start_of w.layout.config (w.mem Clock) (w.seat i).post.span (Retire at)) (still_after w i v (Retires answer) (Retire at) s p tt) in
    omega (arith, h)

tidies_lowers : (w : World) (i : ℕ) → is_valid w.layout ≡ true → (later : AfterScan) (at : MoveAt) → Seat w i (Tidies later) (Move at) → Knows w i (Tidies later) (Move at) → Lowers w i (Tidies later) (Move at)
tidies_lowers w i v later at s p =
    let t : Turn = after (Move at) (counted (w.seat i).post) (finds w i) in
    let told = base_steady (publishes_rows w.layout.config.scheme) (w.seat i).rounds (Move at) (counted (w.seat i).post) (finds w i) refl in
    let h = tidies_on w.layout.config w.layout i ((step w i).mem Clock) (w.seat i).rounds later (offered w i).desk t.post t.told t.outcome (start_of w.layout.config (w.mem Clock) (w.seat i).post.span (Move at)) told (still_after w i v (Tidies later) (Move at) s p (s.moves.falls (Tidies later) at s.at)) in
    omega (arith, h)

advances_lowers : (w : World) (i : ℕ) → is_valid w.layout ≡ true → (at : MoveAt) → Seat w i Advances (Move at) → Knows w i Advances (Move at) → Lowers w i Advances (Move at)
advances_lowers w i v at s p =
    let t : Turn = after (Move at) (counted (w.seat i).post) (finds w i) in
    let h = advances_on w.layout.config w.layout i ((step w i).mem Clock) (w.seat i).rounds (offered w i).desk t.post t.told t.outcome (start_of w.layout.config (w.mem Clock) (w.seat i).post.span (Move at)) (still_after w i v Advances (Move at) s p (s.moves.falls Advances at s.at)) in
    omega (arith, h)

-- no index is greater than 7
let_below : (w : World) (i : ℕ) → is_valid w.layout ≡ true → (let_go : LetGo) → WhyIn w.layout.config (Releases let_go) → let_index let_go < 8
let_below w i v let_go k = let a = (few_of w.layout v).indexes in let b = k.below in omega (arith, a, b)

clear_releases : (w : World) (i : ℕ) → is_valid w.layout ≡ true → (let_go : LetGo) (rows : Bool) (index : ℕ) → Seat w i (Releases let_go) (Clear rows index) → Knows w i (Releases let_go) (Clear rows index) → Lowers w i (Releases let_go) (Clear rows index)
clear_releases w i v let_go rows index s p =
    let post : Post = counted (w.seat i).post in
    let told : List Event = (after (Clear rows index) post (finds w i)).told in
    let h = released_left w.layout.config (w.seat i).rounds (length (w.seat i).desk.list) let_go (withdrawn post index) (offered w i).desk told (let_below w i v let_go s.inside) refl (clear_rounds w i rows index ∙ s.lost) in
    one_step w i v (Releases let_go) (Clear rows index) Done (withdrawn post index) told (why_left w.layout.config (length (w.seat i).desk.list) (w.seat i).rounds (Clear rows index) (Releases let_go)) s p tt refl refl (omega (arith, h))

span_releases : (w : World) (i : ℕ) → is_valid w.layout ≡ true → (let_go : LetGo) (index : ℕ) → Seat w i (Releases let_go) (Release index) → Knows w i (Releases let_go) (Release index) → Lowers w i (Releases let_go) (Release index)
span_releases w i v let_go index s p =
    let post : Post = counted (w.seat i).post in
    let t : Turn = after (Release index) post (finds w i) in
    let h = released_left w.layout.config (w.seat i).rounds (length (w.seat i).desk.list) let_go t.post (offered w i).desk t.told (let_below w i v let_go s.inside) refl (base_steady (publishes_rows w.layout.config.scheme) (w.seat i).rounds (Release index) post (finds w i) refl ∙ s.lost) in
    one_step w i v (Releases let_go) (Release index) Done t.post t.told (why_left w.layout.config (length (w.seat i).desk.list) (w.seat i).rounds (Release index) (Releases let_go)) s p tt refl refl (omega (arith, h))

nexts_lower : (w : World) (i : ℕ) → is_valid w.layout ≡ true → (next : Next) (base : Base) → Seat w i (ClearsNext next) base → Knows w i (ClearsNext next) base → Lowers w i (ClearsNext next) base
nexts_lower w i v next (Clear rows index) s p = next_clears w i v next rows index s p
nexts_lower w i v next (Begin at) s p = absurd (let e = s.run.suited in cc)
nexts_lower w i v next (Protect aim index root n at) s p = absurd (let e = s.run.suited in cc)
nexts_lower w i v next (Reload parent index slot era n) s p = absurd (let e = s.run.suited in cc)
nexts_lower w i v next Finish s p = absurd (let e = s.run.suited in cc)
nexts_lower w i v next (Release index) s p = absurd (let e = s.run.suited in cc)
nexts_lower w i v next (Allocate at) s p = absurd (let e = s.run.suited in cc)
nexts_lower w i v next (Write slot row place) s p = absurd (let e = s.run.suited in cc)
nexts_lower w i v next (GiveUp slot) s p = absurd (let e = s.run.suited in cc)
nexts_lower w i v next (Retire at) s p = absurd (let e = s.run.suited in cc)
nexts_lower w i v next (Move at) s p = absurd (let e = s.run.suited in cc)

clears_lower : (w : World) (i : ℕ) → is_valid w.layout ≡ true → (task : Task) (next : Next) (base : Base) → Seat w i (Clears task next) base → Knows w i (Clears task next) base → Lowers w i (Clears task next) base
clears_lower w i v task next (Clear rows index) s p = round_clears w i v task next rows index s p
clears_lower w i v task next (Begin at) s p = absurd (let e = s.run.suited in cc)
clears_lower w i v task next (Protect aim index root n at) s p = absurd (let e = s.run.suited in cc)
clears_lower w i v task next (Reload parent index slot era n) s p = absurd (let e = s.run.suited in cc)
clears_lower w i v task next Finish s p = absurd (let e = s.run.suited in cc)
clears_lower w i v task next (Release index) s p = absurd (let e = s.run.suited in cc)
clears_lower w i v task next (Allocate at) s p = absurd (let e = s.run.suited in cc)
clears_lower w i v task next (Write slot row place) s p = absurd (let e = s.run.suited in cc)
clears_lower w i v task next (GiveUp slot) s p = absurd (let e = s.run.suited in cc)
clears_lower w i v task next (Retire at) s p = absurd (let e = s.run.suited in cc)
clears_lower w i v task next (Move at) s p = absurd (let e = s.run.suited in cc)

finishes_lower : (w : World) (i : ℕ) → is_valid w.layout ≡ true → (task : Task) (next : Next) (base : Base) → Seat w i (Finishes task next) base → Knows w i (Finishes task next) base → Lowers w i (Finishes task next) base
finishes_lower w i v task next Finish s p = round_finishes w i v task next s p
finishes_lower w i v task next (Begin at) s p = absurd (let e = s.run.suited in cc)
finishes_lower w i v task next (Protect aim index root n at) s p = absurd (let e = s.run.suited in cc)
finishes_lower w i v task next (Reload parent index slot era n) s p = absurd (let e = s.run.suited in cc)
finishes_lower w i v task next (Clear rows index) s p = absurd (let e = s.run.suited in cc)
finishes_lower w i v task next (Release index) s p = absurd (let e = s.run.suited in cc)
finishes_lower w i v task next (Allocate at) s p = absurd (let e = s.run.suited in cc)
finishes_lower w i v task next (Write slot row place) s p = absurd (let e = s.run.suited in cc)
finishes_lower w i v task next (GiveUp slot) s p = absurd (let e = s.run.suited in cc)
finishes_lower w i v task next (Retire at) s p = absurd (let e = s.run.suited in cc)
finishes_lower w i v task next (Move at) s p = absurd (let e = s.run.suited in cc)

gives_lower : (w : World) (i : ℕ) → is_valid w.layout ≡ true → (answer : Answer) (base : Base) → Seat w i (GivesUp answer) base → Knows w i (GivesUp answer) base → Lowers w i (GivesUp answer) base
gives_lower w i v answer (GiveUp slot) s p = gives_up_lowers w i v answer slot s p
gives_lower w i v answer (Begin at) s p = absurd (let e = s.run.suited in cc)
gives_lower w i v answer (Protect aim index root n at) s p = absurd (let e = s.run.suited in cc)
gives_lower w i v answer (Reload parent index slot era n) s p = absurd (let e = s.run.suited in cc)
gives_lower w i v answer (Clear rows index) s p = absurd (let e = s.run.suited in cc)
gives_lower w i v answer Finish s p = absurd (let e = s.run.suited in cc)
gives_lower w i v answer (Release index) s p = absurd (let e = s.run.suited in cc)
gives_lower w i v answer (Allocate at) s p = absurd (let e = s.run.suited in cc)
gives_lower w i v answer (Write slot row place) s p = absurd (let e = s.run.suited in cc)
gives_lower w i v answer (Retire at) s p = absurd (let e = s.run.suited in cc)
gives_lower w i v answer (Move at) s p = absurd (let e = s.run.suited in cc)

retires_lower : (w : World) (i : ℕ) → is_valid w.layout ≡ true → (answer : Answer) (base : Base) → Seat w i (Retires answer) base → Knows w i (Retires answer) base → Lowers w i (Retires answer) base
retires_lower w i v answer (Retire at) s p = retires_lowers w i v answer at s p
retires_lower w i v answer (Begin at) s p = absurd (let e = s.run.suited in cc)
retires_lower w i v answer (Protect aim index root n at) s p = absurd (let e = s.run.suited in cc)
retires_lower w i v answer (Reload parent index slot era n) s p = absurd (let e = s.run.suited in cc)
retires_lower w i v answer (Clear rows index) s p = absurd (let e = s.run.suited in cc)
retires_lower w i v answer Finish s p = absurd (let e = s.run.suited in cc)
retires_lower w i v answer (Release index) s p = absurd (let e = s.run.suited in cc)
retires_lower w i v answer (Allocate at) s p = absurd (let e = s.run.suited in cc)
retires_lower w i v answer (Write slot row place) s p = absurd (let e = s.run.suited in cc)
retires_lower w i v answer (GiveUp slot) s p = absurd (let e = s.run.suited in cc)
retires_lower w i v answer (Move at) s p = absurd (let e = s.run.suited in cc)

tidies_lower : (w : World) (i : ℕ) → is_valid w.layout ≡ true → (later : AfterScan) (base : Base) → Seat w i (Tidies later) base → Knows w i (Tidies later) base → Lowers w i (Tidies later) base
tidies_lower w i v later (Move at) s p = tidies_lowers w i v later at s p
tidies_lower w i v later (Begin at) s p = absurd (let e = s.run.suited in cc)
tidies_lower w i v later (Protect aim index root n at) s p = absurd (let e = s.run.suited in cc)
tidies_lower w i v later (Reload parent index slot era n) s p = absurd (let e = s.run.suited in cc)
tidies_lower w i v later (Clear rows index) s p = absurd (let e = s.run.suited in cc)
tidies_lower w i v later Finish s p = absurd (let e = s.run.suited in cc)
tidies_lower w i v later (Release index) s p = absurd (let e = s.run.suited in cc)
tidies_lower w i v later (Allocate at) s p = absurd (let e = s.run.suited in cc)
tidies_lower w i v later (Write slot row place) s p = absurd (let e = s.run.suited in cc)
tidies_lower w i v later (GiveUp slot) s p = absurd (let e = s.run.suited in cc)
tidies_lower w i v later (Retire at) s p = absurd (let e = s.run.suited in cc)

advances_lower : (w : World) (i : ℕ) → is_valid w.layout ≡ true → (base : Base) → Seat w i Advances base → Knows w i Advances base → Lowers w i Advances base
advances_lower w i v (Move at) s p = advances_lowers w i v at s p
advances_lower w i v (Begin at) s p = absurd (let e = s.run.suited in cc)
advances_lower w i v (Protect aim index root n at) s p = absurd (let e = s.run.suited in cc)
advances_lower w i v (Reload parent index slot era n) s p = absurd (let e = s.run.suited in cc)
advances_lower w i v (Clear rows index) s p = absurd (let e = s.run.suited in cc)
advances_lower w i v Finish s p = absurd (let e = s.run.suited in cc)
advances_lower w i v (Release index) s p = absurd (let e = s.run.suited in cc)
advances_lower w i v (Allocate at) s p = absurd (let e = s.run.suited in cc)
advances_lower w i v (Write slot row place) s p = absurd (let e = s.run.suited in cc)
advances_lower w i v (GiveUp slot) s p = absurd (let e = s.run.suited in cc)
advances_lower w i v (Retire at) s p = absurd (let e = s.run.suited in cc)

releases_lower : (w : World) (i : ℕ) → is_valid w.layout ≡ true → (let_go : LetGo) (base : Base) → Seat w i (Releases let_go) base → Knows w i (Releases let_go) base → Lowers w i (Releases let_go) base
releases_lower w i v let_go (Clear rows index) s p = clear_releases w i v let_go rows index s p
releases_lower w i v let_go (Release index) s p = span_releases w i v let_go index s p
releases_lower w i v let_go (Begin at) s p = absurd (let e = s.run.suited in cc)
releases_lower w i v let_go (Protect aim index root n at) s p = absurd (let e = s.run.suited in cc)
releases_lower w i v let_go (Reload parent index slot era n) s p = absurd (let e = s.run.suited in cc)
releases_lower w i v let_go Finish s p = absurd (let e = s.run.suited in cc)
releases_lower w i v let_go (Allocate at) s p = absurd (let e = s.run.suited in cc)
releases_lower w i v let_go (Write slot row place) s p = absurd (let e = s.run.suited in cc)
releases_lower w i v let_go (GiveUp slot) s p = absurd (let e = s.run.suited in cc)
releases_lower w i v let_go (Retire at) s p = absurd (let e = s.run.suited in cc)
releases_lower w i v let_go (Move at) s p = absurd (let e = s.run.suited in cc)

-- a machine's step, by what it is run for
pub run_lowers : (w : World) (i : ℕ) → is_valid w.layout ≡ true → (why : Why) (base : Base) → Seat w i why base → Knows w i why base → Lowers w i why base
run_lowers w i v (Opens task) base s p = opens_lowers w i v task base s p
run_lowers w i v (FollowsHead head tail) base s p = follows_lowers w i v head tail base s p
run_lowers w i v (Fills task) base s p = fills_lowers w i v task base s p
run_lowers w i v (ClearsNext next) base s p = nexts_lower w i v next base s p
run_lowers w i v (Clears task next) base s p = clears_lower w i v task next base s p
run_lowers w i v (Finishes task next) base s p = finishes_lower w i v task next base s p
run_lowers w i v (GivesUp answer) base s p = gives_lower w i v answer base s p
run_lowers w i v (Retires answer) base s p = retires_lower w i v answer base s p
run_lowers w i v (Tidies later) base s p = tidies_lower w i v later base s p
run_lowers w i v Advances base s p = advances_lower w i v base s p
run_lowers w i v (Releases let_go) base s p = releases_lower w i v let_go base s p
