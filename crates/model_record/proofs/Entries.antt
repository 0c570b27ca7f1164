-- A law by recursion on the record is the law wherever the record is cut.
use Rattle.std.proofs.Common.{◌≡◌, List, [], ◌∷◌, ◌++◌, refl, ap, sym, subst, ◌∙◌}
use Rattle.wfe_defs.specs.Entry.{Entry}
use Rattle.model_record.specs.Record.{Past, Test, Each, EachEntry, tells}

-- one entry more comes last
tells-snoc : (p : Past) (xs : List Entry) (x : Entry) → tells p (xs ++ x ∷ []) ≡ Past.Then (tells p xs) x.seat x.event
tells-snoc p [] x = refl
tells-snoc p (y ∷ xs) x = tells-snoc (Past.Then p y.seat y.event) xs x

-- what holds of each entry holds of each in a record that ends earlier
pub each_before : (ok : Test) (p : Past) (xs : List Entry) → Each ok (tells p xs) → Each ok p
each_before ok p [] h = h
each_before ok p (x ∷ xs) h = (each_before ok (Past.Then p x.seat x.event) xs h).1

pub entries_of_each : (ok : Test) (r : Past) → Each ok r → EachEntry ok r
entries_of_each ok r h before i e later cut = (each_before ok (Past.Then before i e) later (subst (Each ok) cut h)).0

pub each_of_entries : (ok : Test) (r : Past) → EachEntry ok r → Each ok r
each_of_entries ok Past.Start h = tt
each_of_entries ok (Past.Then p i e) h =
    let last : Entry = record { seat = i; event = e } in (
      h p i e [] refl,
      each_of_entries ok p (λ before k d later cut.
          h before k d (later ++ last ∷ []) (ap (λ t. Past.Then t i e) cut ∙ sym (tells-snoc (Past.Then before k d) later last))),
    )
