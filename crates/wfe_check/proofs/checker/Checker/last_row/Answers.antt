use Rattle.std.proofs.Common.{◌≤◌, ◌∙◌, sym, subst}
use Rattle.wfe_check.proofs.Places.{last_none, last_some}
use Rattle.wfe_check.proofs.checker.Checker.last_row.Goals as goal

pub returns-in-None : goal.returns-in-None
returns-in-None c config p shows =
    let head = c.head-head.ensures.told config p shows.rows in
    let within : c.head-head.result ≤ config.slots = subst (λ n. n ≤ config.slots) (shows.rows.head ∙ sym head) shows.rows.head_in in
    last_none config.slots c.head-head.result p head (sym (c.next.ensures.told config p shows.rows within) ∙ c.in-None.is)

pub returns-in-Some : goal.returns-in-Some
returns-in-Some c config p shows =
    let head = c.head-head.ensures.told config p shows.rows in
    let within : c.head-head.result ≤ config.slots = subst (λ n. n ≤ config.slots) (shows.rows.head ∙ sym head) shows.rows.head_in in
    last_some config.slots c.head-head.result _ p head (sym (c.next.ensures.told config p shows.rows within) ∙ c.in-Some.is)
