-- What the part on requests tells of a seat's own post and of what its step finds.
use Rattle.std.specs.Prelude.{ℕ, ◌≡◌, ◌≤◌, ◌<◌, ◌+◌, ◌==◌, false}
use Rattle.inv_rows.specs.words.Packed.{answered_word}
use Rattle.inv_rows.specs.words.Place.Place.{Helper}
use Rattle.inv_rows.specs.defs.declared.event.Root.{Root}
use Rattle.inv_rows.specs.model.Posts.{tag_of}
use Rattle.inv_rows.specs.model.SlowPath.{own_request}
use Rattle.inv_rows.specs.model.Phases.{Aim}
use Rattle.inv_rows.specs.model.Phases.ProtectAt.{AnswerOwn, LoadAnswer, TakeAnswer}
use Rattle.inv_rows.specs.model.Phases.Base.{Protect}
use Rattle.inv_rows.specs.model.Calls.{Why, Runs}
use Rattle.inv_rows.specs.model.World.{World, finds, is_busy}

-- the word is an answered request, of a table with so many slots besides the dummy's at this clock
pub record IsAnswer (slots clock word : ℕ) : Type 0 where
  pub link : ℕ
  pub era : ℕ
  pub is : word ≡ answered_word link era
  pub small : link ≤ slots + 1
  pub some : 0 < era
  pub early : era ≤ clock

pub record Known (w : World) (clock k : ℕ) : Type 0 where
  -- tags have 32 bits, and one that is about to rise may rise once more
  pub tags : (index : ℕ) → tag_of (w.seat k).post index < 4294967295
  pub rises : (why : Why) (aim : Aim) (index : ℕ) (root : Root) (steps link era : ℕ) → (w.seat k).phase ≡ Runs why (Protect aim index root steps (TakeAnswer link era))
      → tag_of (w.seat k).post index + 1 < 4294967295
  -- after two turns that were lost the own request has an answer, and so it has where the own exchange fails
  pub hears : (why : Why) (aim : Aim) (index : ℕ) (root : Root) (steps first : ℕ) → (w.seat k).phase ≡ Runs why (Protect aim index root steps (LoadAnswer first))
      → IsAnswer w.layout.config.slots clock (finds w k)
  pub meets : (why : Why) (aim : Aim) (index : ℕ) (root : Root) (steps first era link : ℕ) → (w.seat k).phase ≡ Runs why (Protect aim index root steps (AnswerOwn first era link))
      → (finds w k == own_request (w.seat k).post index root) ≡ false → IsAnswer w.layout.config.slots clock (finds w k)
  -- between calls the own helper word publishes nothing
  pub hidden : is_busy w k ≡ false → w.mem (Helper k) ≡ 0
