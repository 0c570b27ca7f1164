-- The events of the calls of a script.
use Rattle.std.proofs.Common.{List, [], ap, get_or, length, refl, sym, take, ℕ, ◌++◌, ◌+◌, ◌<◌, ◌∙◌, ◌∷◌, ◌≡◌}
use Rattle.std.proofs.lemmas.List.{append-nil, append_assoc, map-append, take_more}
use Rattle.wfe_table.specs.all.RunLaw.{call_made, events_of, events_of_all}
use Rattle.wfe_core.specs.Locals.{Group}
use Rattle.wfe_core.specs.defs.declared.call.Call.{Call}
use Rattle.wfe_core.specs.defs.declared.event.Event.{Event}
use Rattle.wfe_table.specs.rule.Views.{Track}
use Rattle.wfe_server.specs.Working.{IsCalled, IsWorked}

events_of_all-append : (n : ℕ) (xs ys : List Group) → events_of_all n (xs ++ ys) ≡ events_of_all n xs ++ events_of_all n ys
events_of_all-append n [] ys = refl
events_of_all-append n (x ∷ xs) ys =
    ap (λ (told : List Event). events_of n x ++ told) (events_of_all-append n xs ys) ∙ sym (append_assoc (events_of n x) (events_of_all n xs) (events_of_all n ys))

-- a worker that has made no call
pub worked_none : (buckets : ℕ) (track : Track) (script : List Call) → IsWorked buckets track (take 0 script) track []
worked_none buckets track script = record { log = []; grows = simp append-nil; calls = refl; told = refl; seat = refl }

-- one call more
pub worked_more : (buckets : ℕ) (old mid new : Track) (script : List Call) (place : ℕ) (call : Call) (before after : List Event) → place < length script → call ≡ get_or script place call
    → IsWorked buckets old (take place script) mid before → IsCalled buckets mid call new before after → IsWorked buckets old (take (place + 1) script) new after
worked_more buckets old mid new script place call before after within is worked called =
    let last : List Group = called.group ∷ [] in
    record {
      log = worked.log ++ last;
      grows = called.grows ∙ ap (λ (log : List Group). log ++ last) worked.grows ∙ append_assoc old.local.log worked.log last;
      calls =
          map-append call_made worked.log last ∙ ap (λ (calls : List Call). calls ++ called.group.call ∷ []) worked.calls ∙ ap (λ (c : Call). take place script ++ c ∷ []) (called.call_is ∙ is)
          ∙ sym (take_more script place call within);
      told =
          called.told ∙ ap (λ (told : List Event). told ++ events_of buckets called.group) worked.told ∙ ap (λ (told : List Event). events_of_all buckets worked.log ++ told) (sym (append-nil (events_of buckets called.group)))
          ∙ sym (events_of_all-append buckets worked.log last);
      seat = called.seat ∙ worked.seat;
    }
