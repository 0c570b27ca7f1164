-- What is known of each row, and the changes that steps make of it: a row is free, or one seat has claimed it, or a root
-- leads to it, or it is in the queue, or one seat has cut it, or it is in the retire list of one seat.
use Rattle.std.specs.Prelude.{ℕ, ◌≡◌, ◌≤◌, ◌<◌, ◌+◌, ◌==◌, ◌&&◌, ◌||◌, not, if◌then◌else◌, Bool, true, false}
use Rattle.wfe_core.specs.Memory.{upd}

-- where a row is in its life. `Claimed`: its lifetime is not stored yet; `Born`: it is, and the row is not linked. `Sealed`:
-- its retire era is loaded; `Listed`: it is in the seat's retire list
pub data Status : Type 0 where
  Free : Status
  Claimed : (by : ℕ) → Status
  Born : (by : ℕ) → Status
  Linked : (bucket : ℕ) → Status
  InQueue : Status
  Cut : (by : ℕ) → Status
  Sealed : (by : ℕ) → (retire : ℕ) → Status
  Listed : (by : ℕ) → (retire : ℕ) → Status

-- the row that a call of a seat has in hand, besides those of the seat's list: one that it has taken and not linked, or one
-- that it has cut and not retired. `Known`: the birth era is loaded; `Dated`: the retire era too
pub data Hand : Type 0 where
  Empty : Hand
  New : (slot : ℕ) → Hand
  Taken : (slot : ℕ) → Hand
  Old : (slot : ℕ) → Hand
  Known : (slot : ℕ) → (birth : ℕ) → Hand
  Dated : (slot : ℕ) → (birth : ℕ) → (retire : ℕ) → Hand

-- all that this part of the invariant speaks of: the bucket roots, the queue's head, the rows, and by seat its hand and
-- which slot, birth and retire era are an entry of its list
pub record View : Type 0 where
  pub root : ℕ → ℕ
  pub head : ℕ
  pub status : ℕ → Status
  pub birth : ℕ → ℕ
  pub hand : ℕ → Hand
  pub lists : ℕ → ℕ → ℕ → ℕ → Bool

-- the row is linked, or was cut and is not given back: no seat writes its words
abbrev pub is_settled : Status → Bool
is_settled Free = false
is_settled (Claimed by) = false
is_settled (Born by) = false
is_settled (Linked bucket) = true
is_settled InQueue = true
is_settled (Cut by) = true
is_settled (Sealed by retire) = true
is_settled (Listed by retire) = true

-- the row is not free
abbrev pub is_taken : Status → Bool
is_taken Free = false
is_taken (Claimed by) = true
is_taken (Born by) = true
is_taken (Linked bucket) = true
is_taken InQueue = true
is_taken (Cut by) = true
is_taken (Sealed by retire) = true
is_taken (Listed by retire) = true

-- its lifetime word is stored
abbrev pub has_life : Status → Bool
has_life Free = false
has_life (Claimed by) = false
has_life (Born by) = true
has_life (Linked bucket) = true
has_life InQueue = true
has_life (Cut by) = true
has_life (Sealed by retire) = true
has_life (Listed by retire) = true

-- the retire era in its lifetime word
abbrev pub retire_in : Status → ℕ
retire_in Free = 0
retire_in (Claimed by) = 0
retire_in (Born by) = 0
retire_in (Linked bucket) = 0
retire_in InQueue = 0
retire_in (Cut by) = 0
retire_in (Sealed by retire) = 0
retire_in (Listed by retire) = retire

-- the row is in the hand of this seat
abbrev pub in_hand : ℕ → Status → Bool
in_hand seat Free = false
in_hand seat (Claimed by) = by == seat
in_hand seat (Born by) = by == seat
in_hand seat (Linked bucket) = false
in_hand seat InQueue = false
in_hand seat (Cut by) = by == seat
in_hand seat (Sealed by retire) = by == seat
in_hand seat (Listed by retire) = false

-- the hand has this slot
abbrev pub names : Hand → ℕ → Bool
names Empty other = false
names (New slot) other = slot == other
names (Taken slot) other = slot == other
names (Old slot) other = slot == other
names (Known slot birth) other = slot == other
names (Dated slot birth retire) other = slot == other

-- what the hand of a seat says of its row
abbrev pub status_in : ℕ → Hand → Status
status_in seat Empty = Free
status_in seat (New slot) = Claimed seat
status_in seat (Taken slot) = Born seat
status_in seat (Old slot) = Cut seat
status_in seat (Known slot birth) = Cut seat
status_in seat (Dated slot birth retire) = Sealed seat retire

-- a birth era that the hand has is the row's
abbrev pub knows : Hand → ℕ → Bool
knows Empty born = true
knows (New slot) born = true
knows (Taken slot) born = true
knows (Old slot) born = true
knows (Known slot birth) born = birth == born
knows (Dated slot birth retire) born = birth == born

-- one entry more in a list
abbrev pub with : (ℕ → ℕ → ℕ → Bool) → ℕ → ℕ → ℕ → ℕ → ℕ → ℕ → Bool
with lists slot birth retire s b r = ((s == slot) && ((b == birth) && (r == retire))) || lists s b r

-- no entry of this slot any more
abbrev pub without : (ℕ → ℕ → ℕ → Bool) → ℕ → ℕ → ℕ → ℕ → Bool
without lists slot s b r = not (s == slot) && lists s b r

-- the entries of two lists
abbrev pub joined : (ℕ → ℕ → ℕ → Bool) → (ℕ → ℕ → ℕ → Bool) → ℕ → ℕ → ℕ → Bool
joined own more s b r = own s b r || more s b r

-- a row in the list of one seat is in that of another
abbrev pub passed : (from to : ℕ) → Status → Status
passed from to Free = Free
passed from to (Claimed by) = Claimed by
passed from to (Born by) = Born by
passed from to (Linked bucket) = Linked bucket
passed from to InQueue = InQueue
passed from to (Cut by) = Cut by
passed from to (Sealed by retire) = Sealed by retire
passed from to (Listed by retire) = Listed (if by == from then to else by) retire

-- the parts: what a seat has in hand, what is in hand is in the hand of just that seat, the lists, the roots, the head, that
-- there are no other rows than the table's, and that each birth era is positive
pub record Good (slots : ℕ) (v : View) : Type 0 where
  pub hands : (k s : ℕ) → names (v.hand k) s ≡ true → v.status s ≡ status_in k (v.hand k)
  pub held : (k s : ℕ) → in_hand k (v.status s) ≡ true → names (v.hand k) s ≡ true
  pub known : (k s : ℕ) → names (v.hand k) s ≡ true → knows (v.hand k) (v.birth s) ≡ true
  pub listed : (k s b r : ℕ) → v.lists k s b r ≡ true → v.status s ≡ Listed k r
  pub dated : (k s b r : ℕ) → v.lists k s b r ≡ true → b ≡ v.birth s
  pub lists : (k s r : ℕ) → v.status s ≡ Listed k r → v.lists k s (v.birth s) r ≡ true
  pub roots : (b s : ℕ) → v.root b ≡ s + 1 → v.status s ≡ Linked b
  pub linked : (b s : ℕ) → v.status s ≡ Linked b → v.root b ≡ s + 1
  pub some : 0 < v.head
  pub queue : (s : ℕ) → v.head ≡ s + 1 → v.status s ≡ InQueue
  pub inside : (s : ℕ) → is_taken (v.status s) ≡ true → s ≤ slots
  pub births : (s : ℕ) → has_life (v.status s) ≡ true → 0 < v.birth s

-- what a step of a seat does with rows. `Claims`: a row is claimed; `Bears`: its lifetime is stored; `Drops`: it is given up;
-- `Links`: it becomes the row of an empty bucket; `Replaces`: it takes the place of another row of the bucket; `Appends`: it
-- goes into the queue; `Pops`: the head is cut, and another row is the head; `Reads`: the birth era of a row that was cut is
-- loaded; `Seals`: the retire era; `Lists`: the row goes into the list; `Returns`: it leaves the list; `Adopts`: the list of
-- another seat, and each row in it, is this seat's from here on
pub data RowMove : Type 0 where
  Stays : RowMove
  Claims : (slot : ℕ) → RowMove
  Bears : (slot : ℕ) → (birth : ℕ) → RowMove
  Drops : (slot : ℕ) → RowMove
  Links : (bucket : ℕ) → (slot : ℕ) → RowMove
  Replaces : (bucket : ℕ) → (slot : ℕ) → (old : ℕ) → RowMove
  Appends : (slot : ℕ) → RowMove
  Pops : (slot : ℕ) → (next : ℕ) → RowMove
  Reads : (slot : ℕ) → (birth : ℕ) → RowMove
  Seals : (slot : ℕ) → (birth : ℕ) → (retire : ℕ) → RowMove
  Lists : (slot : ℕ) → (birth : ℕ) → (retire : ℕ) → RowMove
  Returns : (slot : ℕ) → RowMove
  Adopts : (from : ℕ) → RowMove

abbrev pub set_hand : View → ℕ → Hand → View
set_hand v seat hand = record v { hand = upd v.hand seat hand }

abbrev pub set_status : View → ℕ → Status → View
set_status v slot status = record v { status = upd v.status slot status }

-- the rows after such a move of a seat
abbrev pub made : ℕ → View → RowMove → View
made i v Stays = v
made i v (Claims slot) = set_status (set_hand v i (New slot)) slot (Claimed i)
made i v (Bears slot birth) = record (set_status (set_hand v i (Taken slot)) slot (Born i)) { birth = upd v.birth slot birth }
made i v (Drops slot) = set_status (set_hand v i Empty) slot Free
made i v (Links bucket slot) = record (set_status (set_hand v i Empty) slot (Linked bucket)) { root = upd v.root bucket (slot + 1) }
made i v (Replaces bucket slot old) =
    set_status
    (record (set_status (set_hand v i (Old old)) slot (Linked bucket)) { root = upd v.root bucket (slot + 1) })
    old
    (Cut i)
made i v (Appends slot) = set_status (set_hand v i Empty) slot InQueue
made i v (Pops slot next) = set_status (record (set_hand v i (Old slot)) { head = next + 1 }) slot (Cut i)
made i v (Reads slot birth) = set_hand v i (Known slot birth)
made i v (Seals slot birth retire) = set_status (set_hand v i (Dated slot birth retire)) slot (Sealed i retire)
made i v (Lists slot birth retire) =
    set_status
    (record (set_hand v i Empty) { lists = upd v.lists i (with (v.lists i) slot birth retire) })
    slot
    (Listed i retire)
made i v (Returns slot) = set_status (record v { lists = upd v.lists i (without (v.lists i) slot) }) slot Free
made i v (Adopts from) =
    record v {
      status = λ s. passed from i (v.status s);
      lists = upd (upd v.lists i (joined (v.lists i) (v.lists from))) from (λ s b r. false);
    }
