-- That what stands is held wherever a record is cut: at the record without its last entry, and after that.
use Rattle.std.proofs.Common.{◌≡◌, ℕ, List, [], ◌∷◌, ◌++◌, refl, ap, sym, subst, ◌∙◌}
use Rattle.laws.specs.words.declared.config.Config.{Config}
use Rattle.laws.specs.defs.Entry.{Entry}
use Rattle.laws.specs.defs.declared.event.Event.{Event}
use Rattle.laws.specs.records.Record.{Past, tells}
use Rattle.laws.specs.records.Record.Past.{Start, Then}
use Rattle.laws.specs.HoldLaw.{HeldThroughout}
use Rattle.wfe_check_held.specs.Protections.{AllHeld}

-- by recursion on the record
abbrev EachHeld : Config → Past → Type 0
EachHeld config Start = AllHeld config Start
EachHeld config (Then p i e) = AllHeld config (Then p i e) × EachHeld config p

held_before : (config : Config) (p : Past) (xs : List Entry) → EachHeld config (tells p xs) → EachHeld config p
held_before config p [] h = h
held_before config p (x ∷ xs) h = (held_before config (Then p x.seat x.event) xs h).1

last_held : (config : Config) (p : Past) → EachHeld config p → AllHeld config p
last_held config Start h = h
last_held config (Then p i e) h = h.0

throughout_of : (config : Config) (r : Past) → EachHeld config r → HeldThroughout config r
throughout_of config r h before later k j s cut t = last_held config before (held_before config before later (subst (EachHeld config) cut h)) k j s t

tells-last : (p : Past) (xs : List Entry) (x : Entry) → tells p (xs ++ x ∷ []) ≡ Then (tells p xs) x.seat x.event
tells-last p [] x = refl
tells-last p (y ∷ xs) x = tells-last (Then p y.seat y.event) xs x

pub held_now : (config : Config) (p : Past) → HeldThroughout config p → AllHeld config p
held_now config p h k j s t = h p [] k j s refl t

pub throughout_before : (config : Config) (p : Past) (i : ℕ) (e : Event) → HeldThroughout config (Then p i e) → HeldThroughout config p
throughout_before config p i e h before later k j s cut t =
    let last : Entry = record { seat = i; event = e } in
    h before (later ++ last ∷ []) k j s (ap (λ q. Then q i e) cut ∙ sym (tells-last before later last)) t

each_of : (config : Config) (r : Past) → HeldThroughout config r → EachHeld config r
each_of config Start h = held_now config Start h
each_of config (Then p i e) h = (held_now config (Then p i e) h, each_of config p (throughout_before config p i e h))

pub throughout_more : (config : Config) (p : Past) (i : ℕ) (e : Event) → HeldThroughout config p → AllHeld config (Then p i e) → HeldThroughout config (Then p i e)
throughout_more config p i e h a = throughout_of config (Then p i e) (a, each_of config p h)
