-- A step that loads a link and tells nothing changes no word, no row, nothing of the queue, and nothing in the book.
use Rattle.std.proofs.Common.{ℕ, ◌≡◌, true, [], refl, ap}
use Rattle.inv_rows.specs.words.Place.{Place}
use Rattle.inv_rows.specs.defs.declared.event.Root.{Root}
use Rattle.inv_rows.specs.model.Book.{booked_all}
use Rattle.inv_rows.specs.model.Calls.{Why, Phase, Idle, Runs, Scans, Works}
use Rattle.inv_rows.specs.model.Memory.{written}
use Rattle.inv_rows.specs.model.Phases.{Aim, ProtectAt, MoveAt, Base}
use Rattle.inv_rows.specs.model.Phases.ProtectAt.{LoadClock, PublishEra, LoadLink, CheckClock, PublishRequest, LoadOwnClock, PublishHelper, LoadOwnLink, CheckOwnClock, AnswerOwn, LoadAnswer, TakeAnswer, WithdrawRequest, WithdrawHelper, LoadWithin, CheckUpper, RaiseUpper, ByHazard}
use Rattle.inv_rows.specs.model.Phases.HazardAt.{FirstLink, PublishLink, CheckLink}
use Rattle.inv_rows.specs.model.Phases.MoveAt.{LoadEra, LoadRequest, ShowEra, LoadAsked}
use Rattle.inv_rows.specs.model.Phases.Base.{Begin, Protect, Reload, Clear, Finish, Release, Allocate, Write, GiveUp, Retire, Move}
use Rattle.inv_rows.specs.model.Steps.{phase_move}
use Rattle.inv_rows.specs.model.World.{World, step, finds, told_in}
use Rattle.inv_rows.specs.Agree.{rows_after}
use Rattle.inv_rows.specs.Chain.{line_after}
use Rattle.inv_rows.specs.Hands.{row_move}
use Rattle.inv_rows.specs.Queue.{Line, line_move, moved_line}
use Rattle.inv_rows.specs.Rows.{View, made}
use Rattle.inv_ends.specs.Origins.{loads_at, loads_asked, loads_base, loads_link}

pub record Still (w : World) (i : ℕ) (v : View) (l : Line) : Type 0 where
  pub book : (step w i).book ≡ w.book
  pub mem : (step w i).mem ≡ w.mem
  pub rows : rows_after w i v ≡ v
  pub line : line_after w i l ≡ l

abbrev mem_after : World → ℕ → Phase → Place → ℕ
mem_after w i p = written w.mem (phase_move p (w.seat i).post)

abbrev rows_by : World → ℕ → View → Phase → View
rows_by w i v p = made i v (row_move p (w.seat i).post (finds w i))

abbrev line_by : World → ℕ → Line → Phase → Line
line_by w i l p = moved_line l (line_move p (finds w i))

still_protect : (w : World) (i : ℕ) (v : View) (l : Line) (why : Why) (aim : Aim) (index : ℕ) (root : Root) (steps : ℕ) (at : ProtectAt) → (w.seat i).phase ≡ Runs why (Protect aim index root steps at) → loads_at at ≡ true → told_in w i ≡ [] → Still w i v l
still_protect w i v l why aim index root steps (LoadClock tries) q h t = absurd (cc)
still_protect w i v l why aim index root steps (PublishEra era tries) q h t = absurd (cc)
still_protect w i v l why aim index root steps (LoadLink era tries) q h t = record { book = ap (booked_all w.book) t; mem = ap (mem_after w i) q; rows = ap (rows_by w i v) q; line = ap (line_by w i l) q }
still_protect w i v l why aim index root steps (CheckClock era tries link) q h t = absurd (cc)
still_protect w i v l why aim index root steps PublishRequest q h t = absurd (cc)
still_protect w i v l why aim index root steps LoadOwnClock q h t = absurd (cc)
still_protect w i v l why aim index root steps (PublishHelper first era last) q h t = absurd (cc)
still_protect w i v l why aim index root steps (LoadOwnLink first era last) q h t = record { book = ap (booked_all w.book) t; mem = ap (mem_after w i) q; rows = ap (rows_by w i v) q; line = ap (line_by w i l) q }
still_protect w i v l why aim index root steps (CheckOwnClock first era last link) q h t = absurd (cc)
still_protect w i v l why aim index root steps (AnswerOwn first era link) q h t = absurd (cc)
still_protect w i v l why aim index root steps (LoadAnswer first) q h t = absurd (cc)
still_protect w i v l why aim index root steps (TakeAnswer link era) q h t = absurd (cc)
still_protect w i v l why aim index root steps (WithdrawRequest link era) q h t = absurd (cc)
still_protect w i v l why aim index root steps (WithdrawHelper link era) q h t = absurd (cc)
still_protect w i v l why aim index root steps LoadWithin q h t = record { book = ap (booked_all w.book) t; mem = ap (mem_after w i) q; rows = ap (rows_by w i v) q; line = ap (line_by w i l) q }
still_protect w i v l why aim index root steps (CheckUpper link) q h t = absurd (cc)
still_protect w i v l why aim index root steps (RaiseUpper era) q h t = absurd (cc)
still_protect w i v l why aim index root steps (ByHazard FirstLink) q h t = absurd (cc)
still_protect w i v l why aim index root steps (ByHazard (PublishLink link)) q h t = absurd (cc)
still_protect w i v l why aim index root steps (ByHazard (CheckLink link)) q h t = record { book = ap (booked_all w.book) t; mem = ap (mem_after w i) q; rows = ap (rows_by w i v) q; line = ap (line_by w i l) q }

still_move : (w : World) (i : ℕ) (v : View) (l : Line) (why : Why) (at : MoveAt) → (w.seat i).phase ≡ Runs why (Move at) → loads_asked at ≡ true → told_in w i ≡ [] → Still w i v l
still_move w i v l why (LoadEra helps) q h u = absurd (cc)
still_move w i v l why (LoadRequest e s shown) q h u = absurd (cc)
still_move w i v l why (ShowEra e s t j r) q h u = absurd (cc)
still_move w i v l why (LoadAsked e s t j r) q h u = record { book = ap (booked_all w.book) u; mem = ap (mem_after w i) q; rows = ap (rows_by w i v) q; line = ap (line_by w i l) q }
still_move w i v l why at q h u = absurd (cc)

still_base : (w : World) (i : ℕ) (v : View) (l : Line) (why : Why) (base : Base) → (w.seat i).phase ≡ Runs why base → loads_base base ≡ true → told_in w i ≡ [] → Still w i v l
still_base w i v l why (Begin at) q h t = absurd (cc)
still_base w i v l why (Protect aim index root steps at) q h t = still_protect w i v l why aim index root steps at q h t
still_base w i v l why (Reload parent index slot era steps) q h t = absurd (cc)
still_base w i v l why (Clear rows index) q h t = absurd (cc)
still_base w i v l why Finish q h t = absurd (cc)
still_base w i v l why (Release index) q h t = absurd (cc)
still_base w i v l why (Allocate at) q h t = absurd (cc)
still_base w i v l why (Write slot row place) q h t = absurd (cc)
still_base w i v l why (GiveUp slot) q h t = absurd (cc)
still_base w i v l why (Retire at) q h t = absurd (cc)
still_base w i v l why (Move at) q h t = still_move w i v l why at q h t

still_by : (w : World) (i : ℕ) (v : View) (l : Line) (phase : Phase) → (w.seat i).phase ≡ phase → loads_link phase ≡ true → told_in w i ≡ [] → Still w i v l
still_by w i v l Idle q h t = absurd (cc)
still_by w i v l (Runs why base) q h t = still_base w i v l why base q h t
still_by w i v l (Scans later at) q h t = absurd (cc)
still_by w i v l (Works work) q h t = absurd (cc)

pub still : (w : World) (i : ℕ) (v : View) (l : Line) → loads_link (w.seat i).phase ≡ true → told_in w i ≡ [] → Still w i v l
still w i v l h t = still_by w i v l (w.seat i).phase refl h t
