-- How the lists for which a watcher stands grow.
use Rattle.std.specs.Prelude.{List, [], ◌∷◌, ◌++◌}
use Rattle.wfe_defs.specs.Entry.{Entry}

-- the new watcher stands for each list for which the old one stood, with one entry more at its end
abbrev pub Grows : {W : Type 0} → (W → List Entry → Type 0) → W → W → Entry → Type 0
Grows stands old new x = (told : List Entry) → stands old told → stands new (told ++ x ∷ [])
