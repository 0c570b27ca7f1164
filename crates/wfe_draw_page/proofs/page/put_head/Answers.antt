use Rattle.std.proofs.Common.{append_assoc}
use Rattle.std.proofs.lemmas.Result.{IfOk-equal}
use Rattle.wfe_draw_page.specs.Pages.{head_text}
use Rattle.wfe_draw_page.proofs.page.put_head.Goals as goal

pub returns : goal.returns
unfolding head_text
returns c = IfOk-equal c.put-3.result _ _ _ c.put-3.ensures (rw (c.in_ok-put-2.ensures, c.in_ok-put.ensures, c.class_of.ensures) (simp append_assoc))
