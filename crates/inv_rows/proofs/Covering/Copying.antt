-- A copy: once the second index publishes what the first does, it covers what the first covers.
use Rattle.std.proofs.Common.{ℕ, ◌<◌, ◌≡◌, ◌∙◌, sym, subst, ap, Bool, true, false, arith, refl}
use Rattle.std.proofs.lemmas.Bool.Decides.{nat_tests}
use Rattle.std.specs.Prelude.{◌==◌}
use Rattle.inv_rows.specs.words.Place.Place.{Index as IndexOf}
use Rattle.inv_rows.specs.words.Schemes.{has_one_interval, publishes_rows}
use Rattle.inv_rows.specs.words.declared.config.SchemeKind.{SchemeKind}
use Rattle.inv_rows.specs.words.declared.packed.Reservation.{Reservation}
use Rattle.inv_rows.specs.defs.declared.event.Guard.TheVariants.{Index}
use Rattle.inv_rows.specs.defs.Shown as values
use Rattle.inv_rows.specs.model.Guards.{one_era, own_guard, published}
use Rattle.inv_rows.specs.model.Memory.{Move as Act, place_in, change}
use Rattle.inv_rows.specs.model.Posts.{shown_word, tag_of}
use Rattle.inv_rows.specs.model.Calls.{StoreHeld, Keeping, Works}
use Rattle.inv_rows.specs.model.World.{World, step}
use Rattle.inv_rows.proofs.Shapes.Frame.{word_steps}
use Rattle.inv_rows.proofs.words.Parts.{read_reservation-halves}
use Rattle.inv_rows.proofs.model.Schemes.{interval_guard}
use Rattle.inv_rows.specs.Agree.{rows_after}
use Rattle.inv_rows.specs.Rows.{View}
use Rattle.inv_rows.specs.Covering.Covers.{number_shown, shown, Covers, CoversNeeds, GuardFits, Scanning}
use Rattle.inv_rows.proofs.Covering.Guards.{index_rises, handed_kept}
use Rattle.inv_rows.proofs.Covering.Words.{move_is, keeps_at, shown_kept, widens_same, work_index}
use Rattle.inv_rows.specs.model.declared.post.Post.{Post}
use Rattle.inv_rows.specs.model.Rounds.{scheme_of}
use Rattle.inv_rows.specs.words.declared.layout.Layout.{Layout}

-- the word that a copy's second step stores
stored_word : (w : World) (i from index number : ℕ) → (w.seat i).phase ≡ Works (Keeping (StoreHeld from index number)) → (step w i).mem (IndexOf (w.seat i).post.seat index) ≡ shown_word (publishes_rows (scheme_of (w.seat i).post)) (w.seat i).post index number
stored_word w i from index number e = subst (λ (m : Act). (step w i).mem (place_in m) ≡ change m (w.mem (place_in m))) (move_is w i (Works (Keeping (StoreHeld from index number))) e) (word_steps w i)

-- it publishes the era, or the row of the link
number_published : (rows : Bool) (post : Post) (i index number : ℕ) → (rows ≡ false → tag_of post index < 4294967295) → published rows (Index i index) (shown_word rows post index number) ≡ number_shown rows number
number_published true post i index number t = refl
number_published false post i index number t = ap (λ (r : Reservation). values.shown (one_era r.era)) (read_reservation-halves number (tag_of post index) (let few = t refl in omega (arith, few)))

stored_shows : (w : World) (i from index number : ℕ) → (w.seat i).post.seat ≡ i → (w.seat i).post.layout ≡ w.layout → (publishes_rows w.layout.config.scheme ≡ false → tag_of (w.seat i).post index < 4294967295) → (w.seat i).phase ≡ Works (Keeping (StoreHeld from index number))
    → shown (step w i) (Index i index) ≡ number_shown (publishes_rows w.layout.config.scheme) number
stored_shows w i from index number n d t e =
    let rows : Bool = publishes_rows w.layout.config.scheme in
    let post : Post = (w.seat i).post in
    let x : (step w i).mem (IndexOf i index) ≡ shown_word (publishes_rows (scheme_of post)) post index number = subst (λ (k : ℕ). (step w i).mem (IndexOf k index) ≡ shown_word (publishes_rows (scheme_of post)) post index number) n (stored_word w i from index number e) in
    let y : shown_word (publishes_rows (scheme_of post)) post index number ≡ shown_word rows post index number = ap (λ (l : Layout). shown_word (publishes_rows l.config.scheme) post index number) d in
    ap (published rows (Index i index)) (x ∙ y) ∙ number_published rows post i index number t

-- the first index's word stays
first_keeps : (w : World) (i from index number : ℕ) → (w.seat i).post.seat ≡ i → from < index → (w.seat i).phase ≡ Works (Keeping (StoreHeld from index number)) → shown (step w i) (Index i from) ≡ shown w (Index i from)
first_keeps w i from index number n l e =
    let o : (from == index) ≡ false = grind (arith, nat_tests) in
    shown_kept w i (Index i from) (keeps_at w i (Works (Keeping (StoreHeld from index number))) (IndexOf i from) e (work_index i from (Keeping (StoreHeld from index number)) (w.seat i).post (rw o (grind (arith, nat_tests)))))

-- what both publish then
pub copied_shows : (w : World) (i from index number : ℕ) → (w.seat i).post.seat ≡ i → (w.seat i).post.layout ≡ w.layout → from < index → (publishes_rows w.layout.config.scheme ≡ false → tag_of (w.seat i).post index < 4294967295)
    → shown w (Index i from) ≡ number_shown (publishes_rows w.layout.config.scheme) number → (w.seat i).phase ≡ Works (Keeping (StoreHeld from index number))
    → shown (step w i) (Index i index) ≡ shown (step w i) (Index i from)
copied_shows w i from index number n d l t c e = stored_shows w i from index number n d t e ∙ sym (first_keeps w i from index number n l e ∙ c)

pub copy_covers : (w : World) (i : ℕ) (v : View) (from index number s : ℕ) → CoversNeeds w i v → Scanning w → (w.seat i).post.seat ≡ i → from < index → (publishes_rows w.layout.config.scheme ≡ false → tag_of (w.seat i).post index < 4294967295)
    → shown w (Index i from) ≡ number_shown (publishes_rows w.layout.config.scheme) number → (w.seat i).phase ≡ Works (Keeping (StoreHeld from index number))
    → GuardFits w.layout.config (Index i from) → Covers w v (Index i from) s → Covers (step w i) (rows_after w i v) (Index i index) s
copy_covers w i v from index number s n u a l t c e f h =
    let k = first_keeps w i from index number a l e in
    handed_kept w i v (Index i from) (Index i index) s n u f (index_rises w.layout.config i from index (omega (arith, l)))
    (widens_same (shown w (Index i from)) (shown (step w i) (Index i from)) k)
    (copied_shows w i from index number a (n.layouts i) l t c e) h

-- under 2GE one interval serves both indexes
pub same_guard : (scheme : SchemeKind) (i from index : ℕ) → has_one_interval scheme ≡ true → own_guard scheme i from ≡ own_guard scheme i index
same_guard scheme i from index h = interval_guard scheme i from h ∙ sym (interval_guard scheme i index h)
