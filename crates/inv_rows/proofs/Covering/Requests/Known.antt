-- What the part on requests tells of a seat's own post and of what its step finds.
use Rattle.std.proofs.Common.{ℕ, ◌≡◌, ◌<◌, ◌+◌, Bool, true, false, arith, refl, sym, ap, subst, ◌∙◌}
use Rattle.std.proofs.lemmas.Bool.Decides.{nat_tests}
use Rattle.std.specs.Prelude.{◌==◌, ◌&&◌, not}
use Rattle.inv_rows.specs.words.Place.{is_valid}
use Rattle.inv_rows.specs.words.Schemes.{publishes_rows}
use Rattle.inv_rows.specs.words.Place.Place.{Helper, Index, Request}
use Rattle.inv_rows.specs.words.Packed.{halves, read_reservation}
use Rattle.inv_rows.specs.words.declared.packed.Reservation.{Reservation}
use Rattle.inv_rows.specs.words.declared.layout.Layout.{Layout}
use Rattle.inv_rows.specs.defs.declared.event.Root.{Root}
use Rattle.inv_rows.proofs.model.Ranges.{bounds_of}
use Rattle.inv_rows.specs.model.Keep.{held_number}
use Rattle.inv_rows.specs.model.Links.{link_number}
use Rattle.inv_rows.specs.model.Memory.{found}
use Rattle.inv_rows.specs.model.Posts.{shown_word, tag_of}
use Rattle.inv_rows.specs.model.SlowPath.{asking, own_request}
use Rattle.inv_rows.specs.model.Phases.ProtectAt.{AnswerOwn, LoadAnswer, TakeAnswer}
use Rattle.inv_rows.specs.model.Phases.Base.{Protect}
use Rattle.inv_rows.specs.model.Calls.{StoreHeld, Keeping, Phase, Idle, Runs, Works}
use Rattle.inv_rows.specs.model.World.{World, finds}
use Rattle.inv_rows.specs.Shapes.Seats.{Seats}
use Rattle.inv_rows.proofs.words.Parts.{read_reservation-halves}
use Rattle.inv_rows.proofs.Shapes.Frame.{finds_at}
use Rattle.inv_rows.specs.Covering.Requests.Copying.{Copying}
use Rattle.inv_rows.specs.Covering.Requests.Hazards.{Hazards, copy_shows, phase_shows}
use Rattle.inv_rows.specs.Covering.Requests.Deals.{is_quiet, is_open, asked_at, fits}
use Rattle.inv_rows.specs.Covering.Requests.Known.{IsAnswer, Known}
use Rattle.inv_rows.specs.Covering.Requests.Standing.{copy_role, role_of, request_of, Requests}
use Rattle.inv_rows.specs.Covering.Requests.Views.{View, Role, Role as roles}
use Rattle.inv_rows.proofs.Covering.Requests.Answering.{heard, word_by_open}
use Rattle.inv_rows.proofs.Covering.Requests.Kept.{idle_of}
use Rattle.inv_rows.proofs.Covering.Requests.Words.{no_halves}
use Rattle.inv_rows.proofs.model.Facts.{not_right, first_of, number_is, same_test}

-- the role of a seat, by its phase
pub stands_as : (w : World) (v : View) (k : ℕ) (phase : Phase) → Requests w v → (w.seat k).phase ≡ phase → v.role k ≡ role_of w.layout phase
stands_as w v k phase f q = sym (f.locals.roles k) ∙ ap (role_of w.layout) q

-- the deal of a seat fits its phase
pub fits_at : (w : World) (z : View) (k : ℕ) (phase : Phase) → Requests w z → (w.seat k).phase ≡ phase → fits (role_of w.layout phase) (z.deal k) ≡ true
fits_at w z k phase f q = subst (λ (r : Role). fits r (z.deal k) ≡ true) (stands_as w z k phase f q) (f.parts.fit k)

tag_low : (w : World) (v : View) (k index : ℕ) → is_valid w.layout ≡ true → Requests w v → tag_of (w.seat k).post index < 4294967295
tag_low w v k index y f = let b = bounds_of w.layout y in omega (arith, f.locals.tags k index, f.parts.low k index, f.parts.clock, b.eras)

tag_rises : (w : World) (v : View) (k index word link era : ℕ) → is_valid w.layout ≡ true → Requests w v → v.role k ≡ roles.Takes index word link era → tag_of (w.seat k).post index + 1 < 4294967295
tag_rises w v k index word link era y f r =
    let b = bounds_of w.layout y in
    let s = rw r at (f.parts.spare k) in
    let e = rw r at (f.parts.eras k) in
    let t : v.tag k index + 1 < era = grind (arith, nat_tests, s) in
    omega (arith, f.locals.tags k index, f.parts.clock, b.eras, e, t)

-- an answer that was heard
answer_of : (w : World) (v : View) (k index word found : ℕ) → Requests w v → asked_at index word (v.deal k) ≡ true → is_open (v.deal k) ≡ false → found ≡ request_of (v.deal k) → IsAnswer w.layout.config.slots v.clock found
answer_of w v k index word found f a o e =
    let h = heard index word (v.deal k) a o in
    record {
      link = h.link;
      era = h.era;
      is = e ∙ h.is;
      small = h.small v.clock (w.layout.config.slots + 1) (f.parts.timely k);
      some = h.some v.clock (w.layout.config.slots + 1) (f.parts.timely k);
      early = h.early v.clock (w.layout.config.slots + 1) (f.parts.timely k);
    }

-- the own request word, by the seat's number
pub own_word : (w : World) (v : View) (k : ℕ) → Seats w → Requests w v → w.mem (Request (w.seat k).post.seat) ≡ request_of (v.deal k)
own_word w v k s f = ap (λ (n : ℕ). w.mem (Request n)) (s.fits k).post.seat ∙ f.words.requests k

hears_answer : (w : World) (v : View) (k index word found : ℕ) → Requests w v → v.role k ≡ roles.Waits index word → found ≡ request_of (v.deal k) → IsAnswer w.layout.config.slots v.clock found
hears_answer w v k index word found f r e =
    let g : (asked_at index word (v.deal k) && not (is_open (v.deal k))) ≡ true = rw r at (f.parts.fit k) in
    answer_of w v k index word found f (first_of (asked_at index word (v.deal k)) (not (is_open (v.deal k))) g) (not_right (asked_at index word (v.deal k)) (is_open (v.deal k)) g) e

-- where the own exchange fails the request is open no more
meets_answer : (w : World) (v : View) (k index : ℕ) (root : Root) (first era link found : ℕ) → Seats w → Requests w v → v.role k ≡ roles.Answers index (link_number w.layout root) first era link → found ≡ request_of (v.deal k)
    → (found == own_request (w.seat k).post index root) ≡ false → IsAnswer w.layout.config.slots v.clock found
meets_answer w v k index root first era link found s f r e n =
    let g : asked_at index (link_number w.layout root) (v.deal k) ≡ true = rw r at (f.parts.fit k) in
    answer_of w v k index (link_number w.layout root) found f g (not_open (is_open (v.deal k)) refl g) e
  where
    not_open : (b : Bool) → is_open (v.deal k) ≡ b → asked_at index (link_number w.layout root) (v.deal k) ≡ true → b ≡ false
    not_open false o g = refl
    not_open true o g =
        let l = (s.fits k).post.layout in
        let p = word_by_open index (link_number w.layout root) (tag_of (w.seat k).post index) (v.deal k) (v.tag k) g o (f.parts.tags k) (f.locals.tags k index) in
        let t = ap (λ (x : Layout). asking x (tag_of (w.seat k).post index) index root) (sym l) in
        let x : (found == own_request (w.seat k).post index root) ≡ true = same_test found (own_request (w.seat k).post index root) (e ∙ p ∙ t) in cc

hidden_word : (w : World) (v : View) (k : ℕ) → Requests w v → v.role k ≡ roles.Away → w.mem (Helper k) ≡ 0
hidden_word w v k f r = let s = rw r at (f.parts.shown k) in f.words.helpers k ∙ ap (λ (x : ℕ). halves x 0) (number_is (v.helper k) 0 s) ∙ no_halves

pub known : (w : World) (v : View) (k : ℕ) → is_valid w.layout ≡ true → Seats w → Requests w v → Known w v.clock k
known w v k y s f = record {
  tags = λ index. tag_low w v k index y f;
  rises = λ why aim index root steps link era q. tag_rises w v k index (link_number w.layout root) link era y f (stands_as w v k (Runs why (Protect aim index root steps (TakeAnswer link era))) f q);
  hears = λ why aim index root steps first q. hears_answer w v k index (link_number w.layout root) (finds w k) f (stands_as w v k (Runs why (Protect aim index root steps (LoadAnswer first))) f q)
      (finds_at w k (Runs why (Protect aim index root steps (LoadAnswer first))) q ∙ own_word w v k s f);
  meets = λ why aim index root steps first era link q n. meets_answer w v k index root first era link (finds w k) s f (stands_as w v k (Runs why (Protect aim index root steps (AnswerOwn first era link))) f q)
      (finds_at w k (Runs why (Protect aim index root steps (AnswerOwn first era link))) q ∙ own_word w v k s f) n;
  hidden = λ b. hidden_word w v k f (stands_as w v k Idle f (idle_of (w.seat k).phase b));
}

-- the word that is copied has the seat's own tag, since nothing is asked, and the era that was found
copied_word : (w : World) (v : View) (k from era : ℕ) → publishes_rows w.layout.config.scheme ≡ false → Requests w v → v.role k ≡ roles.Copies from era → w.mem (Index k from) ≡ halves era (tag_of (w.seat k).post from)
copied_word w v k from era p f r =
    let d : is_quiet (v.deal k) ≡ true = rw r at (f.parts.fit k) in
    let t : v.mark k from ≡ tag_of (w.seat k).post from = grind (arith, nat_tests, f.parts.marks k from, f.locals.tags k from, d) in
    let e : (v.era k from == era) ≡ true = rw r at (f.parts.published k) in
    f.words.indexes p k from ∙ ap (λ (x : ℕ). halves x (v.mark k from)) (number_is (v.era k from) era e) ∙ ap (halves era) t

copied_era : (w : World) (v : View) (k from era : ℕ) → publishes_rows w.layout.config.scheme ≡ false → is_valid w.layout ≡ true → Requests w v → v.role k ≡ roles.Copies from era → (read_reservation (w.mem (Index k from))).era ≡ era
copied_era w v k from era p y f r =
    let low = tag_low w v k from y f in
    ap (λ (word : ℕ). (read_reservation word).era) (copied_word w v k from era p f r)
    ∙ ap (λ (x : Reservation). x.era) (read_reservation-halves era (tag_of (w.seat k).post from) (omega (arith, low)))

-- the link of a copy is in the index word
copied_link : (w : World) (k from index link : ℕ) → publishes_rows w.layout.config.scheme ≡ true → Hazards w → (w.seat k).phase ≡ Works (Keeping (StoreHeld from index link)) → w.mem (Index k from) ≡ link
copied_link w k from index link p h q =
    subst (λ (rows : Bool). copy_shows rows w.mem k from link) p (subst (phase_shows (publishes_rows w.layout.config.scheme) w.mem k) q (h.shows k))

copy_role_of : (w : World) (v : View) (k from index number : ℕ) → publishes_rows w.layout.config.scheme ≡ false → Requests w v → (w.seat k).phase ≡ Works (Keeping (StoreHeld from index number)) → v.role k ≡ roles.Copies from number
copy_role_of w v k from index number p f q = stands_as w v k (Works (Keeping (StoreHeld from index number))) f q ∙ ap (λ (rows : Bool). copy_role rows from number) p

pub copying : (w : World) (v : View) (k : ℕ) → is_valid w.layout ≡ true → Requests w v → Hazards w → Copying w k
copying w v k y f h = record {
  word = λ from index number q. word_of from index number q (publishes_rows w.layout.config.scheme) refl;
  publishes = λ from index number q. number_of from index number q (publishes_rows w.layout.config.scheme) refl;
}
  where
    word_of : (from index number : ℕ) → (w.seat k).phase ≡ Works (Keeping (StoreHeld from index number)) → (rows : Bool) → publishes_rows w.layout.config.scheme ≡ rows → w.mem (Index k from) ≡ shown_word rows (w.seat k).post from number
    word_of from index number q true p = copied_link w k from index number p h q
    word_of from index number q false p = copied_word w v k from number p f (copy_role_of w v k from index number p f q)

    number_of : (from index number : ℕ) → (w.seat k).phase ≡ Works (Keeping (StoreHeld from index number)) → (rows : Bool) → publishes_rows w.layout.config.scheme ≡ rows → held_number rows (w.mem (Index k from)) ≡ number
    number_of from index number q true p = copied_link w k from index number p h q
    number_of from index number q false p = copied_era w v k from number p y f (copy_role_of w v k from index number p f q)
