-- The words so far are appended.
use Rattle.std.proofs.Common.{◌≡◌, ◌++◌, map, take}
use Rattle.wfe_draw_page.specs.Markup.{plain_of}
use Rattle.wfe_draw_page.proofs.page.put_words.Given as goal

abbrev pub invariant-loop-byte : goal.invariant-loop-byte
invariant-loop-byte l = l.page.items ≡ l.initial.page.items ++ map plain_of (take l.byte-index l.byte-items)
