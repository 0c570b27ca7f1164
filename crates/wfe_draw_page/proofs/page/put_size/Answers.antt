use Rattle.std.proofs.Common.{append_assoc}
use Rattle.std.proofs.lemmas.Result.{IfOk-equal}
use Rattle.wfe_draw_page.specs.Pages.{size_text}
use Rattle.wfe_draw_page.proofs.page.put_size.Goals as goal

pub returns : goal.returns
unfolding size_text
returns c = IfOk-equal c.put.result _ _ _ c.put.ensures (rw (c.in_ok-put_number-4.ensures, c.in_ok-put_number-3.ensures, c.in_ok-put_number-2.ensures, c.in_ok-put_number.ensures) (simp append_assoc))
