-- Scripts that are collected call by call.
use Rattle.std.proofs.Common.{Bool, List, [], ap, arith, false, get_or, length, refl, set, subst, sym, true, ℕ, ◌++◌, ◌<◌, ◌∙◌, ◌∷◌, ◌≡◌}
use Rattle.std.proofs.lemmas.List.Elements.{All-get_or, All-push, All-same, All-set}
use Rattle.std.proofs.lemmas.List.{get_or-map, length-map, map-set}
use Rattle.std.specs.Prelude.{if◌then◌else◌}
use Rattle.std.specs.declared.alloc.Global.{Global}
use Rattle.std.specs.declared.vec.Vec.{Vec}
use Rattle.wfe_outside.specs.defs.declared.call.Call.{Call}
use Rattle.wfe_outside.specs.defs.declared.call.Call.TheVariants as calls
use Rattle.wfe_server_lines.specs.Fitting.{AllBegin, Begins, MayBegin}
use Rattle.wfe_server_lines.specs.Scripted.{lists_in, with_call}
use Rattle.wfe_trace.specs.Body.{fits_indexes}
use Rattle.wfe_trace.specs.Good.{is_for_workers}
use Rattle.wfe_trace.specs.words.declared.config.Config.{Config}

-- one call more in a vector is one more in its list
pub call_added : (calls : List (Vec Call Global)) (seat : ℕ) (call : Call) (old new : Vec Call Global) → seat < length calls → old ≡ get_or calls seat old → new.items ≡ old.items ++ call ∷ [] → lists_in (set calls seat new) ≡ with_call seat call (lists_in calls)
call_added calls seat call old new within at added =
    let items : Vec Call Global → List Call = λ v. v.items in
    let here : get_or (lists_in calls) seat [] ≡ old.items = get_or-map items calls seat old [] within ∙ ap items (sym at) in
    map-set items calls seat new ∙ ap (λ (script : List Call). set (lists_in calls) seat script) (added ∙ ap (λ (script : List Call). script ++ call ∷ []) (sym here))

-- a call that workers make is one of a seat that stays, and names no place
worker_begins : (config : Config) (call : Call) → fits_indexes config.indexes call ≡ true → is_for_workers call ≡ true → Begins config call
worker_begins config calls.Leave fit h = absurd (cc)
worker_begins config (calls.Adopt place) fit h = absurd (cc)
worker_begins config (calls.Copy from index) fit h = (fit, refl)
worker_begins config (calls.DropIndex index) fit h = (fit, refl)
worker_begins config (calls.Look index key) fit h = (fit, refl)
worker_begins config call fit h = (refl, refl)

-- the calls of a script, with one more or none
next_fits : (config : Config) (script : List Call) (call : Call) (next : List Call) (ok : Bool) → next ≡ (if ok then script ++ call ∷ [] else script) → Begins config call → MayBegin config script → MayBegin config next
next_fits config script call next true e may fits =
    All-same (Begins config) next (script ++ call ∷ []) e (All-push (Begins config) script call fits may)
next_fits config script call next false e may fits = All-same (Begins config) next script e fits

-- those of each seat, where one seat has one more or none
pub added_fits : (config : Config) (calls : List (Vec Call Global)) (seat : ℕ) (call : Call) (old new : Vec Call Global) (ok : Bool) → seat < length calls → old ≡ get_or calls seat old → new.items ≡ (if ok then old.items ++ call ∷ [] else old.items)
    → fits_indexes config.indexes call ≡ true → is_for_workers call ≡ true → AllBegin config (lists_in calls) → AllBegin config (lists_in (set calls seat new))
added_fits config calls seat call old new ok within at items fit workers fits =
    let items_of : Vec Call Global → List Call = λ v. v.items in
    let below : seat < length (lists_in calls) = omega (arith, within, length-map calls items_of) in
    let same : get_or (lists_in calls) seat [] ≡ old.items = get_or-map items_of calls seat old [] within ∙ ap items_of (sym at) in
    let here : MayBegin config old.items = subst (MayBegin config) same (All-get_or (MayBegin config) (lists_in calls) seat [] below fits) in
    let now : MayBegin config new.items = next_fits config old.items call new.items ok items (worker_begins config call fit workers) here in
    All-same (MayBegin config) (lists_in (set calls seat new)) (set (lists_in calls) seat new.items) (map-set items_of calls seat new) (All-set (MayBegin config) (lists_in calls) seat new.items now fits)
