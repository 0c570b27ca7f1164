-- What an index word publishes: an era under its tag, or where rows are published a link.
use Rattle.std.proofs.Common.{ℕ, ◌≡◌, ◌≤◌, ◌<◌, Bool, true, false, refl, ap, sym, subst, arith}
use Rattle.wfe_core.specs.words.declared.layout.Layout.{Layout}
use Rattle.wfe_core.specs.words.declared.packed.Reservation.{Reservation}
use Rattle.wfe_core.specs.declared.post.Post.{Post}
use Rattle.wfe_core.specs.Keep.{held_number}
use Rattle.wfe_core.specs.Posts.{shown_word, tag_of}
use Rattle.inv_rows.specs.Shapes.Eras.{IndexIn, LinkIn, ShownIn, HeldIn}
use Rattle.inv_rows.proofs.Shapes.Finds.{index_read}

pub shown_eras : (rows : Bool) (layout : Layout) (clock word : ℕ) → rows ≡ false → ShownIn rows layout clock word → IndexIn clock word
shown_eras true layout clock word e h = absurd (cc)
shown_eras false layout clock word e h = h

pub eras_shown : (rows : Bool) (layout : Layout) (clock word : ℕ) → rows ≡ false → IndexIn clock word → ShownIn rows layout clock word
eras_shown true layout clock word e h = absurd (cc)
eras_shown false layout clock word e h = h

pub shown_link : (rows : Bool) (layout : Layout) (clock word : ℕ) → rows ≡ true → ShownIn rows layout clock word → LinkIn layout word
shown_link true layout clock word e h = h
shown_link false layout clock word e h = absurd (cc)

pub link_shown : (rows : Bool) (layout : Layout) (clock word : ℕ) → rows ≡ true → LinkIn layout word → ShownIn rows layout clock word
link_shown true layout clock word e h = h
link_shown false layout clock word e h = absurd (cc)

-- the word with which a number is published
pub number_shown : (rows : Bool) (layout : Layout) (clock : ℕ) (post : Post) (index number : ℕ) → tag_of post index < 4294967295 → HeldIn rows layout clock number → ShownIn rows layout clock (shown_word rows post index number)
number_shown true layout clock post index number t h = h
number_shown false layout clock post index number t h = record { era = number; tag = tag_of post index; is = refl; most = h; few = omega arith }

pub nothing_held : (rows : Bool) (layout : Layout) (clock : ℕ) → HeldIn rows layout clock 0
nothing_held true layout clock = omega arith
nothing_held false layout clock = omega arith

-- the number that a word publishes
pub held_shown : (rows : Bool) (layout : Layout) (clock word : ℕ) → ShownIn rows layout clock word → HeldIn rows layout clock (held_number rows word)
held_shown true layout clock word h = h
held_shown false layout clock word h = subst (λ (era : ℕ). era ≤ clock) (sym (ap (λ (r : Reservation). r.era) (index_read clock word h))) h.most

pub shown_later : (rows : Bool) (layout : Layout) (c d word : ℕ) → c ≤ d → ShownIn rows layout c word → ShownIn rows layout d word
shown_later true layout c d word h e = e
shown_later false layout c d word h e = record { era = e.era; tag = e.tag; is = e.is; most = let m = e.most in omega arith; few = e.few }

pub held_later : (rows : Bool) (layout : Layout) (c d number : ℕ) → c ≤ d → HeldIn rows layout c number → HeldIn rows layout d number
held_later true layout c d number h e = e
held_later false layout c d number h e = omega arith
