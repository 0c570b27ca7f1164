-- Tests that hold together hold one by one, and the other way round.
use Rattle.std.proofs.Common.{Bool, true, false, ◌≡◌, ◌&&◌, ◌||◌, refl, sym, ◌∙◌}

pub two : (a b : Bool) → (a && b) ≡ true → (a ≡ true) × (b ≡ true)
two true b e = (refl, e)
two false b e = absurd (cc)

pub both : (a b : Bool) → a ≡ true → b ≡ true → (a && b) ≡ true
both a b x y = rw (x, y) refl

pub four : (a b c d : Bool) → (a && b && c && d) ≡ true → (a ≡ true) × (b ≡ true) × (c ≡ true) × (d ≡ true)
four true true true d e = (refl, refl, refl, e)
four true true false d e = absurd (cc)
four true false c d e = absurd (cc)
four false b c d e = absurd (cc)

pub all_four : (a b c d : Bool) → a ≡ true → b ≡ true → c ≡ true → d ≡ true → (a && b && c && d) ≡ true
all_four a b c d w x y z = rw (w, x, y, z) refl

pub seven : (a b c d f g h : Bool) → (a && b && c && d && f && g && h) ≡ true → (a ≡ true) × (b ≡ true) × (c ≡ true) × (d ≡ true) × (f ≡ true) × (g ≡ true) × (h ≡ true)
seven true true true true true true h e = (refl, refl, refl, refl, refl, refl, e)
seven true true true true true false h e = absurd (cc)
seven true true true true false g h e = absurd (cc)
seven true true true false f g h e = absurd (cc)
seven true true false d f g h e = absurd (cc)
seven true false c d f g h e = absurd (cc)
seven false b c d f g h e = absurd (cc)

pub all_seven : (a b c d f g h : Bool) → a ≡ true → b ≡ true → c ≡ true → d ≡ true → f ≡ true → g ≡ true → h ≡ true → (a && b && c && d && f && g && h) ≡ true
all_seven a b c d f g h u v w x y z r = rw (u, v, w, x, y, z, r) refl

-- a test that is asked only where another fails
pub unless : (a b : Bool) → (a || b) ≡ true → a ≡ false → b ≡ true
unless true b e f = absurd (cc)
unless false b e f = e

pub unless_by : (a b : Bool) → (a ≡ false → b ≡ true) → (a || b) ≡ true
unless_by true b h = refl
unless_by false b h = h refl
