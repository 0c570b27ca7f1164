-- A call that was made has taken no more steps than what was told during it allows.
use Rattle.std.proofs.Common.{List, Option, false, subst, true, ℕ, ◌+◌, ◌≡◌}
use Rattle.wfe_core.proofs.Facts.{le_of_test}
use Rattle.wfe_core.specs.defs.declared.call.Call.{Call}
use Rattle.wfe_core.specs.defs.declared.call.Call.TheVariants as calls
use Rattle.wfe_core.specs.defs.declared.event.Event.TheVariants as events
use Rattle.wfe_core.specs.words.Schemes.{is_wfe}
use Rattle.wfe_core.specs.words.declared.config.Config.{Config}
use Rattle.wfe_core.specs.words.declared.layout.Layout.{Layout}
use Rattle.laws.specs.StructuresAt.{bucket_of}
use Rattle.law_bounds.specs.Changes as changes
use Rattle.law_bounds.specs.Changes.{change_most}
use Rattle.law_bounds.specs.Gets as gets
use Rattle.law_bounds.specs.Gets.{get_more, hold_more, tries_most}
use Rattle.law_bounds.specs.Paces.{IsPaced}
use Rattle.wfe_drive_rule.specs.Views.{seat_of}
use Rattle.wfe_drive_rule.specs.history.History.{Item, record_of}
use Rattle.wfe_drive_rule.specs.history.Record.{Past}
use Rattle.wfe_table.specs.Calls.{IsPacedPast}
use Rattle.wfe_table.specs.Public.{steps_of}
use Rattle.wfe_table.specs.Steps.{CallsKeepPace, PacedSteps}

-- what the tests say
by_tests : (c : Config) (i : ℕ) (p : Past) (call : Call) (steps : ℕ) → (is_wfe c.scheme ≡ false → gets.few_in c i p call steps ≡ true) → changes.few_in c i p call steps ≡ true → PacedSteps c i p call steps
by_tests c i p (calls.Get key) steps g h = λ n. le_of_test steps (tries_most c i (bucket_of c.buckets key) p + get_more c.pairs) (g n)
by_tests c i p (calls.Hold key) steps g h = λ n. le_of_test steps (tries_most c i (bucket_of c.buckets key) p + hold_more) (g n)
by_tests c i p (calls.Put key value) steps g h = le_of_test steps (change_most c i p) h
by_tests c i p (calls.PutIf key value version) steps g h = le_of_test steps (change_most c i p) h
by_tests c i p (calls.Remove key) steps g h = le_of_test steps (change_most c i p) h
by_tests c i p (calls.Enqueue value) steps g h = le_of_test steps (change_most c i p) h
by_tests c i p calls.Dequeue steps g h = le_of_test steps (change_most c i p) h
by_tests c i p call steps g h = tt

opened : (layout : Layout) (past : List Item) → IsPacedPast layout past → IsPaced layout.config (record_of layout past)
unfolding IsPacedPast
opened layout past h = h

pub calls_keep_pace : CallsKeepPace
calls_keep_pace layout old new call answer made =
    let c : Config = layout.config in
    let i : ℕ = seat_of new.track in
    let e = made.answered.end in
    let p : IsPaced c (record_of layout new.track.past) = opened layout new.track.past made.paced in
    by_tests c i e.at call (steps_of new)
    (λ n. subst (λ (x : Option Call). gets.few_since c i e.at x (steps_of new) ≡ true) e.call (p.reads n e.at i (events.End (steps_of new) answer) e.later e.cut))
    (subst (λ (x : Option Call). changes.few_since c i e.at x (steps_of new) ≡ true) e.call (p.changes e.at i (events.End (steps_of new) answer) e.later e.cut))
