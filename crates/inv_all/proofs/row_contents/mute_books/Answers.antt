use Rattle.inv_all.proofs.Contents.QueueReads.Events as kept
use Rattle.inv_all.proofs.row_contents.mute_books.Goals as goal

pub returns : goal.returns
returns c = kept.mute_book
