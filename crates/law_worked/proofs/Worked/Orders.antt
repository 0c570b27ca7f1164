-- No order of the calls of these records serves.
use Rattle.std.proofs.Common.{Bool, List, [], false, refl, true, ◌∷◌, ◌≡◌}
use Rattle.std.specs.Prelude.{not, ◌&&◌}
use Rattle.wfe_core.proofs.Facts.{both, first_of, rest_of}
use Rattle.model_history.specs.Record.Past.{Start}
use Rattle.law_all.proofs.linear.Search.{orders_are_found}
use Rattle.law_all.specs.linear.LinearLaw.{LinearLaw, tells_ok}
use Rattle.law_all.specs.linear.Order.{first_state}
use Rattle.law_all.specs.linear.Search.{are_begun, ended_in, may_serve}
use Rattle.law_worked.specs.Changed.{reads}
use Rattle.law_worked.specs.Edited.{Wrong, edited}
use Rattle.law_worked.specs.Orders.{AllRefused, OrdersRefused, is_unordered, record_of}
use Rattle.law_worked.specs.WrongOrders.{WrongOrdersRefused, wrong_orders}
use Rattle.law_worked.proofs.Worked.Readers.{readers_judge}

abbrev pub are_unordered : List Wrong → Bool
are_unordered [] = true
are_unordered (it ∷ others) = is_unordered it && are_unordered others

never : (b : Bool) → b ≡ true → not b ≡ true → ⊥
never true t n = cc
never false t n = cc

refused : (it : Wrong) → is_unordered it ≡ true → LinearLaw it.config (record_of it) → ⊥
refused it h l =
    let r = record_of it in
    let begun : are_begun (ended_in (record_of it) (record_of it)) (record_of it) ≡ true =
    first_of (are_begun (ended_in (record_of it) (record_of it)) (record_of it))
    (not (may_serve it.config (record_of it) 9 first_state (ended_in (record_of it) (record_of it)) && reads (tells_ok it.config.buckets) (edited it.edits it.lines))) h in
    let none : not (may_serve it.config (record_of it) 9 first_state (ended_in (record_of it) (record_of it)) && reads (tells_ok it.config.buckets) (edited it.edits it.lines)) ≡ true =
    rest_of (are_begun (ended_in (record_of it) (record_of it)) (record_of it))
    (not (may_serve it.config (record_of it) 9 first_state (ended_in (record_of it) (record_of it)) && reads (tells_ok it.config.buckets) (edited it.edits it.lines))) h in
    never (may_serve it.config (record_of it) 9 first_state (ended_in (record_of it) (record_of it)) && reads (tells_ok it.config.buckets) (edited it.edits it.lines))
    (both (may_serve it.config (record_of it) 9 first_state (ended_in (record_of it) (record_of it))) (reads (tells_ok it.config.buckets) (edited it.edits it.lines))
    (orders_are_found it.config (record_of it) 9 begun l.order) (readers_judge.takes (tells_ok it.config.buckets) (edited it.edits it.lines) l.told)) none

pub all_refused : (all : List Wrong) → are_unordered all ≡ true → AllRefused all
all_refused [] h = tt
all_refused (it ∷ others) h = (refused it (first_of (is_unordered it) (are_unordered others) h), all_refused others (rest_of (is_unordered it) (are_unordered others) h))

pub wrong_orders_refused : WrongOrdersRefused
wrong_orders_refused = record { linear = all_refused wrong_orders refl; others = refl }
