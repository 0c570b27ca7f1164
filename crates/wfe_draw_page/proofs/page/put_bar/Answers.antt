use Rattle.std.proofs.Common.{append_assoc}
use Rattle.std.proofs.lemmas.Result.{IfOk-equal}
use Rattle.wfe_draw_page.specs.Pages.{bar_text}
use Rattle.wfe_draw_page.proofs.page.put_bar.Goals as goal

pub returns : goal.returns
unfolding bar_text
returns c = IfOk-equal c.put_number-4.result _ _ _ c.put_number-4.ensures (rw (c.in_ok-put_number-3.ensures, c.in_ok-put_number-2.ensures, c.in_ok-put_number.ensures) (simp append_assoc))
