-- A seat's list through a call: what went back before a row was given is a part of the list before the call, and what went back after it
-- a part of that list without the early ones and with the row that the call retired, or with the list that it took over.
use Rattle.std.proofs.Common.{ℕ, ◌≡◌, ◌⊎◌, inl, inr, Bool, true, false, List, [], ◌∷◌, ◌++◌, length, take, drop, Option, None, Some, refl, sym, ap, ◌∙◌, subst, arith}
use Rattle.std.proofs.lemmas.Bool.Decides.{nat_tests}
use Rattle.std.proofs.lemmas.List.{append-nil, append_assoc, drop_at, map-append, take_at}
use Rattle.std.specs.Prelude.{◌==◌, ◌&&◌, ◌||◌, nat_lt, not}
use Rattle.law_all.proofs.inv.model.Facts.{both, false_of_not, first_of, number_is, or_more, rest_of}
use Rattle.law_all.specs.inv.model.CallReady.{slots_of}
use Rattle.law_all.specs.inv.model.Desks.{Notes, noted}
use Rattle.law_all.specs.inv.model.Locals.{Group}
use Rattle.law_all.specs.inv.model.defs.Shown.{Seen}
use Rattle.law_all.specs.inv.model.defs.declared.call.Answer.{Answer}
use Rattle.law_all.specs.inv.model.defs.declared.call.Call.{Call}
use Rattle.law_all.specs.inv.model.defs.declared.call.Call.TheVariants as calls
use Rattle.law_all.specs.inv.model.defs.declared.event.Event.{Event}
use Rattle.law_all.specs.inv.model.defs.declared.event.Event.TheVariants as events
use Rattle.law_all.specs.inv.model.defs.declared.event.Root.TheVariants as roots
use Rattle.law_all.specs.inv.model.defs.declared.lifetime.Lifetime.{Lifetime}
use Rattle.law_all.specs.inv.model.words.declared.config.Config.{Config}
use Rattle.law_all.specs.laws.HistoryRows.{cuts_one, is_without}
use Rattle.law_all.specs.laws.HistoryScans.{Course, may_read, moved_course, read_course}
use Rattle.law_all.specs.laws.HistoryScans.Course.{Advancing, MayScan, MustScan, Plain, Reading}
use Rattle.law_all.specs.laws.ScanLaw.{guards, is_given_one, is_life_of, next_back}
use Rattle.law_all.specs.laws.Standing.{is_leave}
use Rattle.law_all.specs.laws.Lists.{is_handed, is_left, without}
use Rattle.law_all.specs.laws.StateAt.{Given, InHand, Placed, Without, is_dequeue, read_by, with_told}
use Rattle.law_all.specs.inv.rows.Hands.{each_once}
use Rattle.law_all.proofs.Logs.Knows.{is_inner}
use Rattle.law_all.specs.Logs.Ledgers.{left_by}
use Rattle.law_all.proofs.Runs.Parts.{Went, went_left, went_more, went_part}
use Rattle.law_all.proofs.Runs.Seats.{Allowed, Counts, Path, Scanning, Seat, gain, gains, given_not, hands_on, is_out, is_reading, not_out, once_step, one_more, part, parts, path_step, scan_step, seat_by, slots_in, takes_list}
use Rattle.law_all.specs.RunLaw.{early_backs, is_part_of, late_backs, list_after, list_from, slot_retired, slots_gained, taken_over, without_all}

-- what a call has gained, with one event more
gains_more : (left : ℕ → List ℕ) (told : List Event) (event : Event) → gains left (told ++ event ∷ []) ≡ gains left told ++ gain left event
gains_more left [] event = append-nil (gain left event)
gains_more left (first ∷ told) event =
    ap (λ (xs : List ℕ). gain left first ++ xs) (gains_more left told event) ∙ sym (append_assoc (gain left first) (gains left told) (gain left event))

gains_quiet : (left : ℕ → List ℕ) (told : List Event) (event : Event) → gain left event ≡ [] → gains left (told ++ event ∷ []) ≡ gains left told
gains_quiet left told event e = gains_more left told event ∙ ap (λ (xs : List ℕ). gains left told ++ xs) e ∙ append-nil (gains left told)

gains_still : (left : ℕ → List ℕ) (event : Event) (told : List Event) → is_inner event ≡ true → is_handed event ≡ false
    → gains left (with_told event told) ≡ gains left told
gains_still left (events.Begin call) told i h = absurd (cc)
gains_still left (events.Adopted place count) told i h = absurd (cc)
gains_still left (events.Got bucket version key value) told i h = gains_quiet left told (events.Got bucket version key value) refl
gains_still left (events.Put bucket version key value) told i h = gains_quiet left told (events.Put bucket version key value) refl
gains_still left (events.Removed bucket version key) told i h = gains_quiet left told (events.Removed bucket version key) refl
gains_still left (events.Queued number value) told i h = gains_quiet left told (events.Queued number value) refl
gains_still left (events.Taken number value) told i h = gains_quiet left told (events.Taken number value) refl
gains_still left (events.Copied from index slot) told i h = gains_quiet left told (events.Copied from index slot) refl
gains_still left (events.Left count) told i h = gains_quiet left told (events.Left count) refl
gains_still left event told i h = refl

-- and what it has told to leave
parts_more : (told : List Event) (event : Event) → parts (told ++ event ∷ []) ≡ parts told ++ part event
parts_more [] event = append-nil (part event)
parts_more (first ∷ told) event =
    ap (λ (xs : List ℕ). part first ++ xs) (parts_more told event) ∙ sym (append_assoc (part first) (parts told) (part event))

parts_quiet : (told : List Event) (event : Event) → part event ≡ [] → parts (told ++ event ∷ []) ≡ parts told
parts_quiet told event e = parts_more told event ∙ ap (λ (xs : List ℕ). parts told ++ xs) e ∙ append-nil (parts told)

parts_still : (event : Event) (told : List Event) → is_inner event ≡ true → is_left event ≡ false → parts (with_told event told) ≡ parts told
parts_still (events.Begin call) told i h = absurd (cc)
parts_still (events.Left count) told i h = absurd (cc)
parts_still (events.Got bucket version key value) told i h = parts_quiet told (events.Got bucket version key value) refl
parts_still (events.Put bucket version key value) told i h = parts_quiet told (events.Put bucket version key value) refl
parts_still (events.Removed bucket version key) told i h = parts_quiet told (events.Removed bucket version key) refl
parts_still (events.Queued number value) told i h = parts_quiet told (events.Queued number value) refl
parts_still (events.Taken number value) told i h = parts_quiet told (events.Taken number value) refl
parts_still (events.Copied from index slot) told i h = parts_quiet told (events.Copied from index slot) refl
parts_still (events.Adopted place count) told i h = parts_quiet told (events.Adopted place count) refl
parts_still event told i h = refl

-- each of these is that number
abbrev pub all_are : ℕ → List ℕ → Bool
all_are n [] = true
all_are n (count ∷ counts) = count == n && all_are n counts

none_are : (n : ℕ) (counts : List ℕ) → counts ≡ [] → all_are n counts ≡ true
none_are n [] e = refl
none_are n (count ∷ counts) e = absurd (cc)

more_are : (n count : ℕ) (counts : List ℕ) → all_are n counts ≡ true → (count == n) ≡ true → all_are n (counts ++ count ∷ []) ≡ true
more_are n count [] h e = rw e refl
more_are n count (first ∷ counts) h e =
    both (first == n) (all_are n (counts ++ count ∷ [])) (first_of (first == n) (all_are n counts) h)
    (more_are n count counts (rest_of (first == n) (all_are n counts) h) e)

-- what went back early and late in a call that is under way, by the seat's list before it, and by the lists that it takes over
pub record Stage (all : ℕ) (left : ℕ → List ℕ) (first : List ℕ) (x : Seat) : Type 0 where
  pub early : List ℕ
  pub late : List ℕ
  pub back : x.ledger.notes.back ≡ early ++ late
  pub count : x.ledger.notes.early ≡ length early
  pub part : is_part_of early first ≡ true
  pub went : Went x.read late ((without_all early first ++ slot_retired x.ledger.notes.retired) ++ gains left x.told) x.lives
  -- nothing of it went back yet, or its scan has read all guards
  pub calm : (late ≡ []) ⊎ (x.tally.course ≡ Reading all)
  pub fresh : is_without x.given ≡ true → early ≡ []
  pub none : (x.retires == 0) ≡ true → x.ledger.notes.retired ≡ None
  -- only a call that takes a list over gains one, and only one by which its seat leaves tells so, with the length of its list
  pub alone : takes_list x.ledger.call ≡ false → gains left x.told ≡ []
  pub stays : is_leave x.ledger.call ≡ false → parts x.told ≡ []
  pub parted : all_are (length x.lives) (parts x.told) ≡ true

-- calls that change rows neither leave nor take over
given_alone : (call : Option Call) → is_given_one call ≡ true → takes_list call ≡ false
given_alone (Some (calls.Adopt place)) h = absurd (cc)
given_alone call h = refl

cuts_alone : (call : Option Call) → cuts_one call ≡ true → takes_list call ≡ false
cuts_alone (Some (calls.Adopt place)) h = absurd (cc)
cuts_alone call h = refl

cuts_stays : (call : Option Call) → cuts_one call ≡ true → is_leave call ≡ false
cuts_stays (Some calls.Leave) h = absurd (cc)
cuts_stays call h = refl

takes_stays : (call : Option Call) → takes_list call ≡ true → is_leave call ≡ false
takes_stays (Some (calls.Adopt place)) h = refl
takes_stays call h = absurd (cc)

takes_on : (call : Option Call) → takes_list call ≡ true → hands_on call ≡ true
takes_on (Some (calls.Adopt place)) h = refl
takes_on call h = absurd (cc)

leave_on : (call : Option Call) → is_leave call ≡ true → hands_on call ≡ true
leave_on (Some calls.Leave) h = refl
leave_on call h = absurd (cc)

-- a row is given
zero_by : (b : Bool) → (b ≡ false → ⊥) → b ≡ true
zero_by true f = refl
zero_by false f = absurd (f refl)

give_stage : (c : Config) (left : ℕ → List Lifetime) (first : List ℕ) (slot birth : ℕ) (x : Seat) → Allowed c left (events.Give slot birth) x → Path x
    → Stage (guards c) (slots_in left) first x → Stage (guards c) (slots_in left) first (seat_by c left (events.Give slot birth) x)
give_stage c left first slot birth x a p s =
    let zero : (x.retires == 0) ≡ true = zero_by (x.retires == 0) (λ e. not_out x.ledger.call x.given (given_not x.ledger.call a.kinds) a.places (p.retired e)) in
    let e : s.early ≡ [] = s.fresh a.places in
    let r : x.ledger.notes.retired ≡ None = s.none zero in
    let n : gains (slots_in left) x.told ≡ [] = s.alone (given_alone x.ledger.call a.kinds) in
    let bare : (xs : List ℕ) → (without_all xs first ++ slot_retired x.ledger.notes.retired) ++ gains (slots_in left) x.told ≡ without_all xs first =
    λ xs. ap (λ (ys : List ℕ). (without_all xs first ++ slot_retired x.ledger.notes.retired) ++ ys) n
    ∙ append-nil (without_all xs first ++ slot_retired x.ledger.notes.retired)
    ∙ ap (λ (y : Option Lifetime). without_all xs first ++ slot_retired y) r
    ∙ append-nil (without_all xs first) in
    let q : (without_all s.early first ++ slot_retired x.ledger.notes.retired) ++ gains (slots_in left) x.told ≡ first =
    bare s.early ∙ ap (λ (xs : List ℕ). without_all xs first) e in
    let w : Went x.read s.late first x.lives = subst (λ (xs : List ℕ). Went x.read s.late xs x.lives) q s.went in
    let b : x.ledger.notes.back ≡ s.late = s.back ∙ ap (λ (xs : List ℕ). xs ++ s.late) e in
    record {
      early = s.late;
      late = [];
      back = b ∙ sym (append-nil s.late);
      count = ap length b;
      part = went_part x.read s.late first x.lives w;
      went = bare s.late ∙ sym (went_left x.read s.late first x.lives w);
      calm = inl refl;
      fresh = λ h. absurd (cc);
      none = s.none;
      alone = s.alone;
      stays = s.stays;
      parted = s.parted;
    }

-- a row is retired
out_plain : (call : Option Call) (given : Given) → is_out call given ≡ true → (is_dequeue call || not (is_without given)) ≡ true
out_plain call Without h = rw h refl
out_plain call (InHand slot) h = rw h refl
out_plain call Placed h = or_more (is_dequeue call) true refl

none_late : (all : ℕ) (late : List ℕ) (course : Course) → course ≡ Plain → (late ≡ []) ⊎ (course ≡ Reading all) → late ≡ []
none_late all late course e (inl h) = h
none_late all late course e (inr h) = absurd (cc)

retire_stage : (c : Config) (left : ℕ → List Lifetime) (first : List ℕ) (slot birth retire : ℕ) (x : Seat) → Allowed c left (events.Retire slot birth retire) x
    → Path x → Stage (guards c) (slots_in left) first x → Stage (guards c) (slots_in left) first (seat_by c left (events.Retire slot birth retire) x)
retire_stage c left first slot birth retire x a p s =
    let plain : x.tally.course ≡ Plain = p.plain a.deed.0 (out_plain x.ledger.call x.given (p.cut a.deed.2)) in
    let e : s.late ≡ [] = none_late (guards c) s.late x.tally.course plain s.calm in
    let r : x.ledger.notes.retired ≡ None = s.none a.deed.0 in
    let n : gains (slots_in left) x.told ≡ [] = s.alone (cuts_alone x.ledger.call a.deed.3) in
    let life : Lifetime = record { slot = slot; birth = birth; retire = retire } in
    let w : (without_all s.early first ++ slot_retired x.ledger.notes.retired) ++ gains (slots_in left) x.told ≡ slots_of x.lives =
    subst (λ (xs : List ℕ). Went x.read xs ((without_all s.early first ++ slot_retired x.ledger.notes.retired) ++ gains (slots_in left) x.told) x.lives) e s.went in
    let b : without_all s.early first ≡ slots_of x.lives =
    sym (append-nil (without_all s.early first)) ∙ ap (λ (y : Option Lifetime). without_all s.early first ++ slot_retired y) (sym r)
    ∙ sym (append-nil (without_all s.early first ++ slot_retired x.ledger.notes.retired))
    ∙ ap (λ (ys : List ℕ). (without_all s.early first ++ slot_retired x.ledger.notes.retired) ++ ys) (sym n) ∙ w in
    record {
      early = s.early;
      late = [];
      back = s.back ∙ ap (λ (xs : List ℕ). s.early ++ xs) e;
      count = s.count;
      part = s.part;
      went = ap (λ (ys : List ℕ). (without_all s.early first ++ slot ∷ []) ++ ys) n ∙ append-nil (without_all s.early first ++ slot ∷ [])
          ∙ ap (λ (xs : List ℕ). xs ++ slot ∷ []) b ∙ sym (map-append (λ (y : Lifetime). y.slot) x.lives (life ∷ []));
      calm = inl refl;
      fresh = s.fresh;
      none = λ z. absurd (one_more x.retires z);
      alone = s.alone;
      stays = s.stays;
      parted = none_are (length (x.lives ++ life ∷ [])) (parts x.told) (s.stays (cuts_stays x.ledger.call a.deed.3));
    }

-- a guard is read
unread_late : (all : ℕ) (late : List ℕ) (course : Course) → may_read all course ≡ true → (late ≡ []) ⊎ (course ≡ Reading all) → late ≡ []
unread_late all late course e (inl h) = h
unread_late all late course e (inr h) = let t : may_read all (Reading all) ≡ true = subst (λ (y : Course). may_read all y ≡ true) h e in absurd (never all t)
  where
    never : (n : ℕ) → nat_lt n n ≡ true → ⊥
    never n h = grind (arith, nat_tests)

-- a row goes back
record Named (slot : ℕ) (x : Option Lifetime) : Type 0 where
  life : Lifetime
  is : x ≡ Some life
  slot_is : life.slot ≡ slot

named : (slot : ℕ) (x : Option Lifetime) → is_life_of slot x ≡ true → Named slot x
named slot None h = absurd (cc)
named slot (Some life) h = record { life = life; is = refl; slot_is = number_is life.slot slot h }

whole_course : (all : ℕ) (course : Course) (read : List Seen) → is_reading course ≡ true → Counts course read → length read ≡ all → course ≡ Reading all
whole_course all Plain read r n e = absurd (cc)
whole_course all Advancing read r n e = absurd (cc)
whole_course all MayScan read r n e = absurd (cc)
whole_course all (MustScan moves) read r n e = absurd (cc)
whole_course all (Reading reads) read r n e = ap Reading (sym n ∙ e)

-- no row goes back in a call by which its seat leaves
scans_stay : (call : Option Call) (course : Course) → is_reading course ≡ true → (hands_on call ≡ true → course ≡ Plain) → is_leave call ≡ false
scans_stay call course r q = by (is_leave call) refl
  where
    by : (leave : Bool) → is_leave call ≡ leave → leave ≡ false
    by true e = let plain : course ≡ Plain = q (leave_on call e) in let never : is_reading Plain ≡ true = subst (λ (y : Course). is_reading y ≡ true) plain r in absurd (cc)
    by false e = refl

back_stage : (c : Config) (left : ℕ → List Lifetime) (first : List ℕ) (slot : ℕ) (x : Seat) → Allowed c left (events.Back slot) x → each_once x.lives ≡ true
    → Scanning (guards c) x.read x.scans x.tally.course → Path x → Stage (guards c) (slots_in left) first x
    → Stage (guards c) (slots_in left) first (seat_by c left (events.Back slot) x)
back_stage c left first slot x a o n p s =
    let scans : x.scans ≡ true = first_of x.scans (length x.read == guards c && is_life_of slot (next_back x.read x.lives)) a.scans in
    let rest : (length x.read == guards c && is_life_of slot (next_back x.read x.lives)) ≡ true =
    rest_of x.scans (length x.read == guards c && is_life_of slot (next_back x.read x.lives)) a.scans in
    let all : length x.read ≡ guards c =
    number_is (length x.read) (guards c) (first_of (length x.read == guards c) (is_life_of slot (next_back x.read x.lives)) rest) in
    let m : Named slot (next_back x.read x.lives) =
    named slot (next_back x.read x.lives) (rest_of (length x.read == guards c) (is_life_of slot (next_back x.read x.lives)) rest) in
    let slots : List ℕ = (without_all s.early first ++ slot_retired x.ledger.notes.retired) ++ gains (slots_in left) x.told in
    record {
      early = s.early;
      late = s.late ++ slot ∷ [];
      back = ap (λ (xs : List ℕ). xs ++ slot ∷ []) s.back ∙ append_assoc s.early s.late (slot ∷ []);
      count = s.count;
      part = s.part;
      went = subst (λ (n : ℕ). Went x.read (s.late ++ n ∷ []) slots (without n x.lives)) m.slot_is
          (went_more x.read s.late slots x.lives m.life o m.is s.went);
      calm = inr (whole_course (guards c) x.tally.course x.read (n.under scans) n.counts all);
      fresh = s.fresh;
      none = s.none;
      alone = s.alone;
      stays = s.stays;
      parted = none_are (length (without slot x.lives)) (parts x.told) (s.stays (scans_stay x.ledger.call x.tally.course (n.under scans) p.quiet));
    }

-- a list is taken over
adopt_stage : (c : Config) (left : ℕ → List Lifetime) (first : List ℕ) (place count : ℕ) (x : Seat) → Allowed c left (events.Adopted place count) x → Path x
    → Stage (guards c) (slots_in left) first x → Stage (guards c) (slots_in left) first (seat_by c left (events.Adopted place count) x)
adopt_stage c left first place count x a p s =
    let event : Event = events.Adopted place count in
    let e : s.late ≡ [] = none_late (guards c) s.late x.tally.course (p.quiet (takes_on x.ledger.call a.deed.0)) s.calm in
    let here : List ℕ = without_all s.early first ++ slot_retired x.ledger.notes.retired in
    let w : here ++ gains (slots_in left) x.told ≡ slots_of x.lives =
    subst (λ (xs : List ℕ). Went x.read xs (here ++ gains (slots_in left) x.told) x.lives) e s.went in
    record {
      early = s.early;
      late = [];
      back = s.back ∙ ap (λ (xs : List ℕ). s.early ++ xs) e;
      count = s.count;
      part = s.part;
      went = ap (λ (xs : List ℕ). here ++ xs) (gains_more (slots_in left) x.told event)
          ∙ sym (append_assoc here (gains (slots_in left) x.told) (slots_in left place))
          ∙ ap (λ (xs : List ℕ). xs ++ slots_in left place) w
          ∙ sym (map-append (λ (y : Lifetime). y.slot) x.lives (left place));
      calm = inl refl;
      fresh = s.fresh;
      none = s.none;
      alone = λ h. let t : takes_list x.ledger.call ≡ true = a.deed.0 in absurd (cc);
      stays = λ h. parts_quiet x.told event refl ∙ s.stays h;
      parted = none_are (length (x.lives ++ left place)) (parts (x.told ++ event ∷ []))
          (parts_quiet x.told event refl ∙ s.stays (takes_stays x.ledger.call a.deed.0));
    }

-- a seat leaves
left_stage : (c : Config) (left : ℕ → List Lifetime) (first : List ℕ) (count : ℕ) (x : Seat) → Allowed c left (events.Left count) x
    → Stage (guards c) (slots_in left) first x → Stage (guards c) (slots_in left) first (seat_by c left (events.Left count) x)
left_stage c left first count x a s =
    let event : Event = events.Left count in
    let here : List ℕ = without_all s.early first ++ slot_retired x.ledger.notes.retired in
    record {
      early = s.early;
      late = s.late;
      back = s.back;
      count = s.count;
      part = s.part;
      went = subst (λ (xs : List ℕ). Went x.read s.late (here ++ xs) x.lives) (sym (gains_quiet (slots_in left) x.told event refl)) s.went;
      calm = s.calm;
      fresh = s.fresh;
      none = s.none;
      alone = λ h. gains_quiet (slots_in left) x.told event refl ∙ s.alone h;
      stays = λ h. let t : is_leave x.ledger.call ≡ true = a.deed.0 in absurd (cc);
      parted = ap (all_are (length x.lives)) (parts_more x.told event) ∙ more_are (length x.lives) count (parts x.told) s.parted a.deed.1;
    }

moved_calm : (all : ℕ) (late : List ℕ) (course : Course) → (late ≡ []) ⊎ (course ≡ Reading all) → (late ≡ []) ⊎ (moved_course course ≡ Reading all)
moved_calm all late course (inl h) = inl h
moved_calm all late course (inr h) = inr (ap moved_course h)

-- a guard is read
read_stage : (c : Config) (left : ℕ → List Lifetime) (first : List ℕ) (read : List Seen) (x : Seat) → may_read (guards c) x.tally.course ≡ true
    → Stage (guards c) (slots_in left) first x
    → Stage (guards c) (slots_in left) first
    (record {
      read = read;
      lives = x.lives;
      scans = true;
      tally = record { retired = x.tally.retired; course = read_course x.tally.course };
      given = x.given;
      cuts = x.cuts;
      retires = x.retires;
      opened = x.opened;
      told = x.told;
      ledger = x.ledger;
    })
read_stage c left first read x r s =
    let e : s.late ≡ [] = unread_late (guards c) s.late x.tally.course r s.calm in
    let slots : List ℕ = (without_all s.early first ++ slot_retired x.ledger.notes.retired) ++ gains (slots_in left) x.told in
    let w : slots ≡ slots_of x.lives = subst (λ (xs : List ℕ). Went x.read xs slots x.lives) e s.went in
    record {
      early = s.early;
      late = [];
      back = s.back ∙ ap (λ (xs : List ℕ). s.early ++ xs) e;
      count = s.count;
      part = s.part;
      went = w;
      calm = inl refl;
      fresh = s.fresh;
      none = s.none;
      alone = s.alone;
      stays = s.stays;
      parted = s.parted;
    }

stage_step : (c : Config) (left : ℕ → List Lifetime) (first : List ℕ) (event : Event) (x : Seat) → is_inner event ≡ true → Allowed c left event x
    → each_once x.lives ≡ true → Scanning (guards c) x.read x.scans x.tally.course → Path x → Stage (guards c) (slots_in left) first x
    → Stage (guards c) (slots_in left) first (seat_by c left event x)
stage_step c left first (events.Begin call) x i a o n p s = absurd (cc)
stage_step c left first (events.End steps answer) x i a o n p s = absurd (cc)
stage_step c left first (events.Give slot birth) x i a o n p s = give_stage c left first slot birth x a p s
stage_step c left first (events.Retire slot birth retire) x i a o n p s = retire_stage c left first slot birth retire x a p s
stage_step c left first (events.Back slot) x i a o n p s = back_stage c left first slot x a o n p s
stage_step c left first (events.Adopted place count) x i a o n p s = adopt_stage c left first place count x a p s
stage_step c left first (events.Left count) x i a o n p s = left_stage c left first count x a s
stage_step c left first (events.Read guard span) x i a o n p s = read_stage c left first (read_by (guards c) (events.Read guard span) x.read) x a.course s
stage_step c left first (events.Saw guard slot) x i a o n p s = read_stage c left first (read_by (guards c) (events.Saw guard slot) x.read) x a.course s
stage_step c left first (events.Era era) x i a o n p s = record {
  early = s.early;
  late = s.late;
  back = s.back;
  count = s.count;
  part = s.part;
  went = s.went;
  calm = moved_calm (guards c) s.late x.tally.course s.calm;
  fresh = s.fresh;
  none = s.none;
  alone = s.alone;
  stays = s.stays;
  parted = s.parted;
}
stage_step c left first (events.Unused slot) x i a o n p s = record {
  early = s.early;
  late = s.late;
  back = s.back;
  count = s.count;
  part = s.part;
  went = s.went;
  calm = s.calm;
  fresh = λ h. absurd (cc);
  none = s.none;
  alone = s.alone;
  stays = s.stays;
  parted = s.parted;
}
stage_step c left first (events.Link (roots.Bucket bucket) slot) x i a o n p s = record {
  early = s.early;
  late = s.late;
  back = s.back;
  count = s.count;
  part = s.part;
  went = s.went;
  calm = s.calm;
  fresh = λ h. absurd (cc);
  none = s.none;
  alone = s.alone;
  stays = s.stays;
  parted = s.parted;
}
stage_step c left first (events.Link (roots.Next parent) slot) x i a o n p s = record {
  early = s.early;
  late = s.late;
  back = s.back;
  count = s.count;
  part = s.part;
  went = s.went;
  calm = s.calm;
  fresh = λ h. absurd (cc);
  none = s.none;
  alone = s.alone;
  stays = s.stays;
  parted = s.parted;
}
stage_step c left first event x i a o n p s = record {
  early = s.early;
  late = s.late;
  back = s.back;
  count = s.count;
  part = s.part;
  went = subst (λ (xs : List ℕ). Went x.read s.late ((without_all s.early first ++ slot_retired x.ledger.notes.retired) ++ xs) x.lives)
      (sym (gains_still (slots_in left) event x.told refl refl)) s.went;
  calm = s.calm;
  fresh = s.fresh;
  none = s.none;
  alone = λ h. gains_still (slots_in left) event x.told refl refl ∙ s.alone h;
  stays = λ h. parts_still event x.told refl refl ∙ s.stays h;
  parted = ap (all_are (length x.lives)) (parts_still event x.told refl refl) ∙ s.parted;
}

-- What went back early and late, by the notes at the call's end; `gained`: what the call has taken over.
pub record Backs (gained first : List ℕ) (notes : Notes) (lives : List Lifetime) : Type 0 where
  pub early : is_part_of (early_backs notes) first ≡ true
  pub late : is_part_of (late_backs notes) ((without_all (early_backs notes) first ++ slot_retired notes.retired) ++ gained) ≡ true
  pub left : slots_of lives ≡ without_all (late_backs notes) ((without_all (early_backs notes) first ++ slot_retired notes.retired) ++ gained)

pub stage_backs : (all : ℕ) (left : ℕ → List ℕ) (first : List ℕ) (x : Seat) → Stage all left first x → Backs (gains left x.told) first x.ledger.notes x.lives
stage_backs all left first x s =
    let notes : Notes = x.ledger.notes in
    let gained : List ℕ = gains left x.told in
    let e : early_backs notes ≡ s.early =
    ap (λ (n : ℕ). take n notes.back) s.count ∙ ap (take (length s.early)) s.back ∙ take_at s.early s.late (length s.early) refl in
    let l : late_backs notes ≡ s.late =
    ap (λ (n : ℕ). drop n notes.back) s.count ∙ ap (drop (length s.early)) s.back ∙ drop_at s.early s.late (length s.early) refl in
    let between : List ℕ = (without_all s.early first ++ slot_retired notes.retired) ++ gained in
    record {
      early = ap (λ (xs : List ℕ). is_part_of xs first) e ∙ s.part;
      late = ap (λ (xs : List ℕ). is_part_of xs ((without_all (early_backs notes) first ++ slot_retired notes.retired) ++ gained)) l
          ∙ ap (λ (xs : List ℕ). is_part_of s.late ((without_all xs first ++ slot_retired notes.retired) ++ gained)) e
          ∙ went_part x.read s.late between x.lives s.went;
      left = went_left x.read s.late between x.lives s.went
          ∙ sym (ap (λ (xs : List ℕ). without_all xs ((without_all (early_backs notes) first ++ slot_retired notes.retired) ++ gained)) l
          ∙ ap (λ (xs : List ℕ). without_all s.late ((without_all xs first ++ slot_retired notes.retired) ++ gained)) e);
    }

-- What holds of a seat at each position: between calls its list is what its log leaves.
pub record Sound (c : Config) (left : ℕ → List Lifetime) (x : Seat) : Type 0 where
  pub once : each_once x.lives ≡ true
  pub scan : Scanning (guards c) x.read x.scans x.tally.course
  pub path : Path x
  pub stage : x.opened ≡ true → Stage (guards c) (slots_in left) (list_from (slots_in left) [] x.ledger.log) x
  pub rest : x.opened ≡ false → slots_of x.lives ≡ list_from (slots_in left) [] x.ledger.log

pub list_last : (left : ℕ → List ℕ) (list : List ℕ) (log : List Group) (group : Group)
    → list_from left list (log ++ group ∷ []) ≡ list_after left (list_from left list log) group
list_last left list [] group = refl
list_last left list (other ∷ log) group = list_last left (list_after left list other) log group

begin_stage : (c : Config) (left : ℕ → List Lifetime) (call : Call) (x : Seat) → slots_of x.lives ≡ list_from (slots_in left) [] x.ledger.log
    → Stage (guards c) (slots_in left) (list_from (slots_in left) [] x.ledger.log) (seat_by c left (events.Begin call) x)
begin_stage c left call x r = record {
  early = [];
  late = [];
  back = refl;
  count = refl;
  part = refl;
  went = append-nil (list_from (slots_in left) [] x.ledger.log ++ []) ∙ append-nil (list_from (slots_in left) [] x.ledger.log) ∙ sym r;
  calm = inl refl;
  fresh = λ e. refl;
  none = λ e. refl;
  alone = λ e. refl;
  stays = λ e. refl;
  parted = refl;
}

end_rest : (c : Config) (left : ℕ → List Lifetime) (steps : ℕ) (answer : Answer) (x : Seat) (call : Call) → x.ledger.call ≡ Some call
    → gains (slots_in left) x.told ≡ slots_gained (slots_in left) (taken_over call answer)
    → Stage (guards c) (slots_in left) (list_from (slots_in left) [] x.ledger.log) x
    → slots_of x.lives ≡ list_from (slots_in left) [] (seat_by c left (events.End steps answer) x).ledger.log
end_rest c left steps answer x call e g s =
    let first : List ℕ = list_from (slots_in left) [] x.ledger.log in
    let notes : Notes = x.ledger.notes in
    let group : Group = record { call = call; answer = answer; notes = noted x.ledger.notes (events.End steps answer) } in
    (stage_backs (guards c) (slots_in left) first x s).left
    ∙ ap (λ (xs : List ℕ). without_all (late_backs notes) ((without_all (early_backs notes) first ++ slot_retired notes.retired) ++ xs)) g
    ∙ sym (list_last (slots_in left) [] x.ledger.log group)
    ∙ ap (λ (y : Option Call). list_from (slots_in left) [] (x.ledger.log ++ left_by y answer (noted x.ledger.notes (events.End steps answer)))) (sym e)

pub sound_step : (c : Config) (left : ℕ → List Lifetime) (event : Event) (x : Seat) → Allowed c left event x → Sound c left x → Sound c left (seat_by c left event x)
sound_step c left (events.Begin call) x a g = record {
  once = g.once;
  scan = scan_step c (events.Begin call) x a.scans a.course g.scan;
  path = path_step c left (events.Begin call) x a g.path;
  stage = λ o. begin_stage c left call x (g.rest (false_of_not x.opened a.opens));
  rest = λ o. absurd (cc);
}
sound_step c left (events.End steps answer) x a g = record {
  once = g.once;
  scan = scan_step c (events.End steps answer) x a.scans a.course g.scan;
  path = path_step c left (events.End steps answer) x a g.path;
  stage = λ o. absurd (cc);
  rest = λ o. end_rest c left steps answer x a.deed.0 a.deed.1 a.deed.2 (g.stage a.opens);
}
sound_step c left event x a g = record {
  once = once_step left event x a.deed g.once;
  scan = scan_step c event x a.scans a.course g.scan;
  path = path_step c left event x a g.path;
  stage = λ o. stage_step c left (list_from (slots_in left) [] x.ledger.log) event x refl a g.once g.scan g.path (g.stage a.opens);
  rest = λ o. let on : x.opened ≡ true = a.opens in absurd (cc);
}
