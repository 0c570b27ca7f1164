-- Clear an index word: what stood there stands no more.
use Rattle.std.specs.Prelude.{ℕ, Bool, ◌++◌}
use Rattle.wfe_core.specs.declared.post.Post.{Post}
use Rattle.wfe_core.specs.Phases.{Turn, ends}
use Rattle.wfe_core.specs.Phases.Ending.{Done}
use Rattle.wfe_core.specs.Posts.{stands, withdrawn, cleared, publishes_index}

-- Store era 0 and the tag into the index word, or where rows are published the null link.
abbrev pub after_clear : (rows : Bool) → ℕ → Post → Turn
after_clear rows index post = ends (withdrawn post index) (cleared index (stands post index) ++ publishes_index rows post index 0) Done
