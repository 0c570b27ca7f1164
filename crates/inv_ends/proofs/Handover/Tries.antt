-- What stands and what is tried after a step of a protection under Wait-Free Eras: it was tried, is loaded, or is taken.
use Rattle.std.proofs.Common.{ℕ, ◌≡◌, ◌<◌, ◌+◌, ◌∙◌, Bool, true, false, List, [], length, Option, Some, None, refl, sym, arith, ◌⊎◌, inl, inr, ◌&&◌}
use Rattle.std.proofs.lemmas.Bool.Decides.{nat_tests}
use Rattle.std.specs.Prelude.{◌==◌, if◌then◌else◌}
use Rattle.inv_rows.specs.words.Place.{Place, Place as places}
use Rattle.inv_rows.specs.words.Place.Place.{Clock}
use Rattle.inv_rows.specs.words.Packed.{read_request}
use Rattle.inv_rows.specs.words.declared.packed.Request.{Request}
use Rattle.inv_rows.specs.words.declared.config.SchemeKind.{SchemeKind}
use Rattle.inv_rows.specs.defs.declared.event.Event.{Event}
use Rattle.inv_rows.specs.defs.declared.event.Root.{Root}
use Rattle.inv_rows.specs.defs.declared.event.Root.TheVariants as roots
use Rattle.inv_rows.specs.model.declared.post.Post.{Post}
use Rattle.inv_rows.specs.model.Links.{link_place, parent_of}
use Rattle.inv_rows.specs.model.Memory.{place_in, found}
use Rattle.inv_rows.specs.model.Posts.{stands, tag_of, with_tag, reserves_helper}
use Rattle.inv_rows.specs.model.Phases.{Aim, Follows, Tries, ProtectAt, Base, Outcome, goes}
use Rattle.inv_rows.specs.model.Phases.ProtectAt.{LoadClock, PublishEra, LoadLink, CheckClock, PublishRequest, LoadOwnClock, PublishHelper, LoadOwnLink, CheckOwnClock, AnswerOwn, LoadAnswer, TakeAnswer, WithdrawRequest, WithdrawHelper, LoadWithin, CheckUpper, RaiseUpper, ByHazard}
use Rattle.inv_rows.specs.model.Phases.Base.{Protect}
use Rattle.inv_rows.specs.model.Protect.{concluded}
use Rattle.inv_rows.specs.model.SlowPath.{own_request, answer_in, lost_turn}
use Rattle.inv_rows.specs.model.Machine.{protect_move, protect_turn}
use Rattle.inv_rows.proofs.model.Facts.{both, no_truth}
use Rattle.inv_rows.proofs.words.Schemes.{no_help_in_interval, helps_not_rows}
use Rattle.inv_rows.specs.words.Schemes.{helps}
use Rattle.inv_rows.specs.Shapes.Seats.{protect_fits}
use Rattle.inv_rows.specs.Rows.{Status}
use Rattle.inv_rows.specs.Covering.Held.{leads, under, tries_protect, tries_base}
use Rattle.inv_rows.proofs.Covering.Tried.{trying_none, check_tries, concluded_tries, out_tries, out_index}
use Rattle.inv_rows.specs.words.declared.packed.Request.TheVariants as requests
use Rattle.inv_rows.proofs.Covering.Stood.{Rises, held_rises, check_stood, own_stood, answer_stood, concluded_stood}

-- the link that a try loads, and the answer that is taken
abbrev pub try_loads : ℕ → (ℕ → Status) → (Place → ℕ) → Root → ProtectAt → ℕ → Bool
try_loads clock status mem root (LoadLink era tries) s = leads (mem (link_place root)) s && (clock == era && under status root)
try_loads clock status mem root at s = false

abbrev pub takes_row : (ℕ → Status) → Root → ProtectAt → ℕ → Bool
takes_row status root (TakeAnswer link era) s = leads link s && under status root
takes_row status root at s = false

-- what stands at an index after a protection's step
abbrev pub Rose : ℕ → (ℕ → Status) → Post → ℕ → Root → ProtectAt → ℕ → ℕ → Type 0
Rose clock status post index root at j s = (stands post j ≡ Some s) ⊎ ((j ≡ index) × ((tries_protect clock status post root at s ≡ true) ⊎ (takes_row status root at s ≡ true)))

from_check : (clock : ℕ) (status : ℕ → Status) (post : Post) (index : ℕ) (root : Root) (era : ℕ) (tries : Tries) (link j s : ℕ) → (stands post j ≡ Some s) ⊎ ((j ≡ index) × ((leads link s && (clock == era && under status root)) ≡ true)) → Rose clock status post index root (CheckClock era tries link) j s
from_check clock status post index root era tries link j s (inl x) = inl x
from_check clock status post index root era tries link j s (inr x) = inr (x.0, inl x.1)

from_taken : (clock : ℕ) (status : ℕ → Status) (post : Post) (index : ℕ) (root : Root) (link era j s : ℕ) → Rises status post index root link j s → Rose clock status post index root (TakeAnswer link era) j s
from_taken clock status post index root link era j s (inl x) = inl x
from_taken clock status post index root link era j s (inr x) = inr (x.0, inr (both (leads link s) (under status root) x.1 x.2))

pub protect_rose : (clock : ℕ) (status : ℕ → Status) (scheme : SchemeKind) (most : ℕ) (mem : Place → ℕ) (aim : Aim) (index : ℕ) (root : Root) (n : ℕ) (at : ProtectAt) (post last : Post) (j s : ℕ) → clock ≡ mem Clock → helps scheme ≡ true → protect_fits scheme most at ≡ true → index < length post.standing
    → stands (protect_turn aim index root n at post (found (protect_move index root at last) (mem (place_in (protect_move index root at last))))).post j ≡ Some s → Rose clock status post index root at j s
protect_rose clock status scheme most mem aim index root n (LoadClock tries) post last j s c w f b h = inl h
protect_rose clock status scheme most mem aim index root n (PublishEra era tries) post last j s c w f b h = inl h
protect_rose clock status scheme most mem aim index root n (LoadLink era tries) post last j s c w f b h = inl h
protect_rose clock status scheme most mem aim index root n (CheckClock era tries link) post last j s c w f b h =
    from_check clock status post index root era tries link j s (rw c (check_stood (mem Clock) status aim index root n era tries link post j s (mem Clock == era) refl b h))
protect_rose clock status scheme most mem aim index root n PublishRequest post last j s c w f b h = inl h
protect_rose clock status scheme most mem aim index root n LoadOwnClock post last j s c w f b h = inl h
protect_rose clock status scheme most mem aim index root n (PublishHelper first era end) post last j s c w f b h = inl h
protect_rose clock status scheme most mem aim index root n (LoadOwnLink first era end) post last j s c w f b h = inl h
protect_rose clock status scheme most mem aim index root n (CheckOwnClock first era end link) post last j s c w f b h = inl (own_stood first era link (mem Clock) end aim index root n post j s (mem Clock == era) refl h)
protect_rose clock status scheme most mem aim index root n (AnswerOwn first era link) post last j s c w f b h = inl (answer_stood first era link (mem (places.Request last.seat)) aim index root n post j s (mem (places.Request last.seat) == own_request post index root) refl h)
protect_rose clock status scheme most mem aim index root n (LoadAnswer first) post last j s c w f b h = inl h
protect_rose clock status scheme most mem aim index root n (TakeAnswer link era) post last j s c w f b h =
    from_taken clock status post index root link era j s (held_rises status (with_tag post index (tag_of post index + 1)) index root link j s b h)
protect_rose clock status scheme most mem aim index root n (WithdrawRequest link era) post last j s c w f b h = inl h
protect_rose clock status scheme most mem aim index root n (WithdrawHelper link era) post last j s c w f b h = inl (concluded_stood aim index root n link era post (reserves_helper post 0) j s h)
protect_rose clock status scheme most mem aim index root n LoadWithin post last j s c w f b h = inl h
protect_rose clock status scheme most mem aim index root n (CheckUpper link) post last j s c w f b h = absurd (no_help_in_interval scheme w f)
protect_rose clock status scheme most mem aim index root n (RaiseUpper era) post last j s c w f b h = inl h
protect_rose clock status scheme most mem aim index root n (ByHazard at) post last j s c w f b h = absurd (let e = helps_not_rows scheme w in cc)

-- what a protection comes to
abbrev pub Next : ℕ → (ℕ → Status) → (Place → ℕ) → Post → ℕ → Root → ProtectAt → Outcome → ℕ → Type 0
Next clock status mem post index root at outcome s =
    (out_index outcome ≡ index) × ((tries_protect clock status post root at s ≡ true) ⊎ ((try_loads clock status mem root at s ≡ true) ⊎ (takes_row status root at s ≡ true)))

either_untried : (clock : ℕ) (status : ℕ → Status) (post next : Post) (one two : Base) (s : ℕ) (same : Bool) → tries_base clock status next one s ≡ false → tries_base clock status next two s ≡ false → out_tries clock status next (if same then goes post [] one else goes post [] two).outcome s ≡ false
either_untried clock status post next one two s true a b = a
either_untried clock status post next one two s false a b = b

lost_untried : (clock : ℕ) (status : ℕ → Status) (post : Post) (root : Root) (first found : ℕ) (last : Bool) (s : ℕ) → tries_protect clock status post root (lost_turn first last found) s ≡ false
lost_untried clock status post root first found true s = refl
lost_untried clock status post root first found false s = refl

answer_untried : (clock : ℕ) (status : ℕ → Status) (post : Post) (root : Root) (x : Option Request) (s : ℕ) → tries_protect clock status post root (answer_in x) s ≡ false
answer_untried clock status post root None s = refl
answer_untried clock status post root (Some requests.Idle) s = refl
answer_untried clock status post root (Some (requests.Pending tag index word)) s = refl
answer_untried clock status post root (Some (requests.Answered link era)) s = refl

-- the protection is over
over_tries : (clock : ℕ) (status : ℕ → Status) (mem : Place → ℕ) (aim : Aim) (index : ℕ) (root : Root) (n link era : ℕ) (post next : Post) (told : List Event) (s : ℕ) → (aim ≡ Follows → root ≡ roots.Next (parent_of root))
    → out_tries clock status next (concluded aim index root n link era post told).outcome s ≡ true → (out_index (concluded aim index root n link era post told).outcome ≡ index) × ((leads link s && under status root) ≡ true)
over_tries clock status mem aim index root n link era post next told s f h =
    let c : (clock == clock) ≡ true = grind (arith, nat_tests) in
    let q = concluded_tries clock status mem clock aim index root n link era post next told s (link == 0) refl f c h in (q.0, let x = q.1 in grind (arith, nat_tests))

pub protect_next : (clock : ℕ) (status : ℕ → Status) (scheme : SchemeKind) (most : ℕ) (mem : Place → ℕ) (aim : Aim) (index : ℕ) (root : Root) (n : ℕ) (at : ProtectAt) (post last next : Post) (s : ℕ) → clock ≡ mem Clock → helps scheme ≡ true → protect_fits scheme most at ≡ true → (aim ≡ Follows → root ≡ roots.Next (parent_of root))
    → out_tries clock status next (protect_turn aim index root n at post (found (protect_move index root at last) (mem (place_in (protect_move index root at last))))).outcome s ≡ true
    → Next clock status mem post index root at (protect_turn aim index root n at post (found (protect_move index root at last) (mem (place_in (protect_move index root at last))))).outcome s
protect_next clock status scheme most mem aim index root n (LoadClock tries) post last next s c w f g h = absurd (cc)
protect_next clock status scheme most mem aim index root n (PublishEra era tries) post last next s c w f g h = absurd (no_truth (sym (trying_none clock status post.layout.config next root era tries s) ∙ h))
protect_next clock status scheme most mem aim index root n (LoadLink era tries) post last next s c w f g h = (refl, inr (inl h))
protect_next clock status scheme most mem aim index root n (CheckClock era tries link) post last next s c w f g h =
    let q = check_tries (mem Clock) status mem aim index root n era tries link post next s (mem Clock == era) refl g (rw c at h) in (q.0, inl (rw c (q.1)))
protect_next clock status scheme most mem aim index root n PublishRequest post last next s c w f g h = absurd (cc)
protect_next clock status scheme most mem aim index root n LoadOwnClock post last next s c w f g h = absurd (cc)
protect_next clock status scheme most mem aim index root n (PublishHelper first era end) post last next s c w f g h = absurd (cc)
protect_next clock status scheme most mem aim index root n (LoadOwnLink first era end) post last next s c w f g h = absurd (cc)
protect_next clock status scheme most mem aim index root n (CheckOwnClock first era end link) post last next s c w f g h =
    absurd (no_truth (sym (either_untried clock status post next (Protect aim index root n (AnswerOwn first era link)) (Protect aim index root n (lost_turn first end (mem Clock))) s (mem Clock == era) refl (lost_untried clock status next root first (mem Clock) end s)) ∙ h))
protect_next clock status scheme most mem aim index root n (AnswerOwn first era link) post last next s c w f g h =
    absurd (no_truth (sym (either_untried clock status post next (Protect aim index root n (TakeAnswer link era)) (Protect aim index root n (answer_in (read_request (mem (places.Request last.seat))))) s (mem (places.Request last.seat) == own_request post index root) refl (answer_untried clock status next root (read_request (mem (places.Request last.seat))) s)) ∙ h))
protect_next clock status scheme most mem aim index root n (LoadAnswer first) post last next s c w f g h = absurd (no_truth (sym (answer_untried clock status next root (read_request (mem (places.Request last.seat))) s) ∙ h))
protect_next clock status scheme most mem aim index root n (TakeAnswer link era) post last next s c w f g h = (refl, inr (inr h))
protect_next clock status scheme most mem aim index root n (WithdrawRequest link era) post last next s c w f g h = (refl, inl h)
protect_next clock status scheme most mem aim index root n (WithdrawHelper link era) post last next s c w f g h =
    let q = over_tries clock status mem aim index root n link era post next (reserves_helper post 0) s g h in (q.0, inl q.1)
protect_next clock status scheme most mem aim index root n LoadWithin post last next s c w f g h = absurd (no_help_in_interval scheme w f)
protect_next clock status scheme most mem aim index root n (CheckUpper link) post last next s c w f g h = absurd (no_help_in_interval scheme w f)
protect_next clock status scheme most mem aim index root n (RaiseUpper era) post last next s c w f g h = absurd (cc)
protect_next clock status scheme most mem aim index root n (ByHazard at) post last next s c w f g h = absurd (let e = helps_not_rows scheme w in cc)
