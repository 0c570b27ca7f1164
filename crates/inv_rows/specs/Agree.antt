-- Words and seats agree with what is known of the rows, and what a step owes to the other parts of the invariant.
use Rattle.std.specs.Prelude.{ℕ, ◌≡◌, ◌≤◌, ◌<◌, ◌+◌, ◌/◌, ◌%◌, ◌==◌, nat_le, Bool, true, false, if◌then◌else◌, List}
use Rattle.std.specs.Int.{bit_at}
use Rattle.wfe_core.specs.words.Place.{Place, is_valid}
use Rattle.wfe_core.specs.words.Place.Place.{Bucket, Head, Claim, Life, PlaceOf}
use Rattle.wfe_core.specs.words.Packed.{life_word}
use Rattle.wfe_core.specs.words.declared.layout.Layout.{Layout}
use Rattle.wfe_core.specs.defs.declared.call.Call.{Call}
use Rattle.wfe_core.specs.defs.declared.lifetime.Lifetime.{Lifetime}
use Rattle.wfe_core.specs.Phases.{Walk}
use Rattle.wfe_core.specs.Phases.AllocateAt.{ClaimSlot, StoreLife}
use Rattle.wfe_core.specs.Phases.Base.{Allocate}
use Rattle.wfe_core.specs.Calls.{Why, Phase, Runs, Works, Dequeuing, ExchangeHead, Keeping, MarkTaken}
use Rattle.wfe_core.specs.Locals.{busy_in}
use Rattle.wfe_core.specs.World.{World, start, step, begin, is_busy, is_here, list_in, finds}
use Rattle.inv_rows.specs.Rows.{Status, View, Good, made, is_taken, has_life, retire_in}
use Rattle.inv_rows.specs.Rows.Status.{Free, InQueue}
use Rattle.inv_rows.specs.Rows.Hand.{Empty}
use Rattle.inv_rows.specs.Hands.{hand_in, in_list, each_once, is_right, row_move}

-- the claim bit of a slot: set where the row is not free, and where there is no such row
abbrev pub bit_of : Bool → ℕ
bit_of set = if set then 1 else 0

abbrev pub claim_of : ℕ → Status → ℕ → ℕ
claim_of slots status slot = if nat_le slot slots then bit_of (is_taken status) else 1

-- the words that rows are known by
pub record Words (slots : ℕ) (mem : Place → ℕ) (v : View) : Type 0 where
  pub claims : (s : ℕ) → s / 64 ≤ slots / 64 → bit_at (mem (Claim (s / 64))) (s % 64) ≡ claim_of slots (v.status s) s
  pub lives : (s : ℕ) → has_life (v.status s) ≡ true → mem (Life s) ≡ life_word (record { birth = v.birth s; retire = retire_in (v.status s) })
  pub roots : (b : ℕ) → mem (Bucket b) ≡ v.root b
  pub head : mem Head ≡ v.head

-- a seat has in hand and on its list what the rows say
pub record Plays (k : ℕ) (phase : Phase) (list : List Lifetime) (v : View) : Type 0 where
  pub hand : v.hand k ≡ hand_in phase
  pub lists : (s b r : ℕ) → v.lists k s b r ≡ in_list list s b r
  pub once : each_once list ≡ true
  pub right : is_right phase list ≡ true

-- what a seat's phase says of place words: a seat that is busy has not left, and a list that a seat marks as taken over is
pub record Present (mem : Place → ℕ) (k : ℕ) (phase : Phase) : Type 0 where
  pub here : busy_in phase ≡ true → mem (PlaceOf k) ≡ 0
  pub marks : (place count : ℕ) → phase ≡ Works (Keeping (MarkTaken place count)) → 1 < mem (PlaceOf place)

-- each seat has its number, and its list is the one that is its own: none once another seat has taken it over
pub record Agree (w : World) (v : View) : Type 0 where
  pub good : Good w.layout.config.slots v
  pub words : Words w.layout.config.slots w.mem v
  pub plays : (k : ℕ) → Plays k (w.seat k).phase (list_in w k) v
  pub numbers : (k : ℕ) → (w.seat k).post.seat ≡ k
  pub present : (k : ℕ) → Present w.mem k (w.seat k).phase

-- what a step of a seat needs of the other parts: a walk stays within the table; the birth era that is stored is positive;
-- and where the head can be exchanged the row after it is another one in the queue
pub record Needs (slots : ℕ) (mem : Place → ℕ) (v : View) (phase : Phase) : Type 0 where
  pub walks : (why : Why) (birth : ℕ) (walk : Walk) → phase ≡ Runs why (Allocate (ClaimSlot birth walk)) → walk.slot ≤ slots
  pub births : (why : Why) (birth slot : ℕ) → phase ≡ Runs why (Allocate (StoreLife birth slot)) → 0 < birth
  pub follows : (head next number value : ℕ) → phase ≡ Works (Dequeuing (ExchangeHead head next number value)) → mem Head ≡ head + 1 → v.status next ≡ InQueue
  pub apart :
      (head next number value : ℕ) → phase ≡ Works (Dequeuing (ExchangeHead head next number value)) → mem Head ≡ head + 1
      → (next == head) ≡ false

abbrev pub RowsNeeds : World → ℕ → View → Type 0
RowsNeeds w i v = Needs w.layout.config.slots w.mem v (w.seat i).phase

-- the rows after a step of seat i
abbrev pub rows_after : World → ℕ → View → View
rows_after w i v = made i v (row_move (w.seat i).phase (w.seat i).post (finds w i))

-- the rows before the first call: the dummy is in the queue
abbrev pub first_status : ℕ → ℕ → Status
first_status slots slot = if slot == slots then InQueue else Free

abbrev pub first_rows : Layout → View
first_rows layout =
    record {
      root = λ b. 0;
      head = layout.config.slots + 1;
      status = first_status layout.config.slots;
      birth = λ s. 1;
      hand = λ k. Empty;
      lists = λ k s b r. false;
    }

-- what is known of the rows holds at the start
abbrev pub RowsStart : Type 0
RowsStart = (layout : Layout) → is_valid layout ≡ true → Agree (start layout) (first_rows layout)

-- the start of a call on a seat that has not left changes nothing of it
abbrev pub RowsBegin : Type 0
RowsBegin = (w : World) (i : ℕ) (call : Call) (v : View) → is_busy w i ≡ false → is_here w i ≡ true → Agree w v → Agree (begin w i call) v

-- each step keeps it, by its move of rows
abbrev pub RowsKept : Type 0
RowsKept = (w : World) (i : ℕ) (v : View) → RowsNeeds w i v → Agree w v → Agree (step w i) (rows_after w i v)
