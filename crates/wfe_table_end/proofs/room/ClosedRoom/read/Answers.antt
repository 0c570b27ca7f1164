use Rattle.wfe_table_end.proofs.ClosedTable.{reached_closed, reached_readable}
use Rattle.wfe_table_end.proofs.room.ClosedRoom.read.Goals as goal

pub read_words-requires-clause-readable : goal.read_words-requires-clause-readable
read_words-requires-clause-readable c =
    let reached = rw (← c.self.view_is) at c.requires in
    rw c.deref.ensures.value (reached_readable c.self.inside.layout c.self.inside.words.items reached)

pub returns-clause-closed : goal.returns-clause-closed
returns-clause-closed c =
    let read = rw c.deref.ensures.value at c.read_words.ensures in
    rw (← c.self.view_is) (λ items reaches. reached_closed c.self.inside.layout c.self.inside.words.items items c.read_words.result reaches read)
