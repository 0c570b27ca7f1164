-- What requests and helping are about: the clock, the eras and tags in helper and index words, each seat's own tags, how far
-- its request has come, and where it stands as far as that matters here.
use Rattle.std.specs.Prelude.{ℕ, Bool, if◌then◌else◌, ◌==◌, ◌&&◌}

-- how far a seat's request has come: none; pending; answered by a seat; handed over by it; taken by its owner. Tag and index
-- are the request's, `word` is the number of the word whose link is asked for, link and era are the answer's
pub data Deal : Type 0 where
  Quiet : Deal
  Open : (tag index word : ℕ) → Deal
  Answered : (tag index word link era by : ℕ) → Deal
  Passed : (tag index word link era : ℕ) → Deal
  Taken : (tag index word link era : ℕ) → Deal

-- where a seat stands. The index is the protection's; `lost` says whether a try has failed
pub data Role : Type 0 where
  -- anything that no phase below stands for
  Away : Role
  -- tries: the era is to be published, and it is
  Publishes : (index era : ℕ) → (lost : Bool) → Role
  Attempts : (index era : ℕ) → (lost : Bool) → Role
  -- the second step of a copy: the era that the index word publishes is to be published at another index too
  Copies : (from era : ℕ) → Role
  -- the slow path: the request is to be published, and is; turns under the own helper word, before and after it is stored;
  -- the exchange; the answer is to be loaded, taken, withdrawn, and the helper word to be withdrawn
  Asks : (index word : ℕ) → Role
  Asked : (index word : ℕ) → Role
  Turns : (index word first era : ℕ) → (last : Bool) → Role
  Looks : (index word first era : ℕ) → (last : Bool) → (link : ℕ) → Role
  Answers : (index word first era link : ℕ) → Role
  Waits : (index word : ℕ) → Role
  Takes : (index word link era : ℕ) → Role
  Took : (index word link era : ℕ) → Role
  Leaves : (index link era : ℕ) → Role
  -- a mover of the clock: at a seat's request; before and after its helper word is stored; at the exchange of the request,
  -- at the index word, and at the hand-over
  Meets : (era seat : ℕ) → (shown : Bool) → Role
  Shows : (era seat tag index word : ℕ) → Role
  Loads : (era seat tag index word link : ℕ) → Role
  Helps : (era seat tag index word link : ℕ) → Role
  Reads : (era seat tag index word link : ℕ) → Role
  Hands : (era seat tag index word link old : ℕ) → Role
  Hides : (era : ℕ) → Role
  Late : Role
  Moves : (era : ℕ) → Role

pub record View : Type 0 where
  pub clock : ℕ
  -- the era in a helper word
  pub helper : ℕ → ℕ
  -- the era and the tag in an index word
  pub era : ℕ → ℕ → ℕ
  pub mark : ℕ → ℕ → ℕ
  -- the seat's own tag of an index
  pub tag : ℕ → ℕ → ℕ
  pub deal : ℕ → Deal
  pub role : ℕ → Role

-- a table with another value at one place
abbrev pub upd2 : (ℕ → ℕ → ℕ) → ℕ → ℕ → ℕ → ℕ → ℕ → ℕ
upd2 f i j v k l = if k == i && l == j then v else f k l
