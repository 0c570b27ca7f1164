-- What a protection carries after a step of its own it carried before, or the step loads it, or it is the answer of the
-- request.
use Rattle.std.proofs.Common.{ℕ, ◌≡◌, ◌+◌, ◌-◌, Bool, true, false, List, arith, refl, sym, subst}
use Rattle.std.proofs.lemmas.Bool.Decides.{nat_tests}
use Rattle.std.specs.Prelude.{◌==◌, ◌&&◌, ◌||◌, if◌then◌else◌, nat_le, []}
use Rattle.inv_rows.specs.words.Packed.{read_request}
use Rattle.inv_rows.specs.words.Place.{Place}
use Rattle.inv_rows.specs.words.Place.Place.{Clock, Request}
use Rattle.inv_rows.specs.words.declared.config.Config.{Config}
use Rattle.inv_rows.specs.defs.declared.event.Event.{Event}
use Rattle.inv_rows.specs.defs.declared.event.Root.{Root}
use Rattle.inv_rows.specs.defs.declared.event.Root.TheVariants as roots
use Rattle.inv_rows.specs.model.declared.post.Post.{Post}
use Rattle.inv_rows.specs.model.Links.{link_place, parent_of}
use Rattle.inv_rows.specs.model.Machine.{protect_move, protect_turn}
use Rattle.inv_rows.specs.model.Memory.{found, place_in}
use Rattle.inv_rows.specs.model.Phases.{Aim, Alone, Follows, Tries, Endless, Failed, ProtectAt, Outcome, Goes, Ends, goes}
use Rattle.inv_rows.specs.model.Phases.ProtectAt.{LoadClock, PublishEra, LoadLink, CheckClock, PublishRequest, LoadOwnClock, PublishHelper, LoadOwnLink, CheckOwnClock, AnswerOwn, LoadAnswer, TakeAnswer, WithdrawRequest, WithdrawHelper, LoadWithin, CheckUpper, RaiseUpper, ByHazard}
use Rattle.inv_rows.specs.model.Phases.HazardAt.{FirstLink, PublishLink, CheckLink}
use Rattle.inv_rows.specs.model.Phases.Base.{Protect}
use Rattle.inv_rows.specs.model.Posts.{upper, reserves_helper}
use Rattle.inv_rows.specs.model.Protect.{held_post, told_held, failed_once, trying, concluded, protected}
use Rattle.inv_rows.specs.model.SlowPath.{own_request, answer_in, lost_turn}
use Rattle.inv_rows.specs.Covering.Requests.Views.{Deal}
use Rattle.inv_ends.specs.Tracked.{carries_at, carries_base, has_link, root_base}
use Rattle.inv_ends.specs.Origins.{loads_at}
use Rattle.inv_rows.proofs.model.Facts.{both}

-- what an outcome carries, and for which root
abbrev pub out_carries : ℕ → ℕ → Outcome → ℕ → Bool
out_carries clock upto (Goes base) x = carries_base clock upto base x
out_carries clock upto (Ends ending) x = false

abbrev pub out_root : Outcome → Root
out_root (Goes base) = root_base base
out_root (Ends ending) = roots.Head

-- where a link comes from that a protection of this root carries
pub data Source (mem : Place → ℕ) (clock upto : ℕ) (root : Root) (at : ProtectAt) (d : Deal) (x : ℕ) : Type 0 where
  Had : carries_at clock upto at x ≡ true → Source mem clock upto root at d x
  Loads : loads_at at ≡ true → mem (link_place root) ≡ x → Source mem clock upto root at d x
  Hears : has_link d x ≡ true → Source mem clock upto root at d x

pub record Next (mem : Place → ℕ) (clock upto : ℕ) (root : Root) (at : ProtectAt) (d : Deal) (x : ℕ) (outcome : Outcome) : Type 0 where
  pub same : out_root outcome ≡ root
  pub source : Source mem clock upto root at d x

-- an answer that was found is the deal's
pub record HeardIn (d : Deal) (found : ℕ) : Type 0 where
  pub link : ℕ
  pub era : ℕ
  pub is : answer_in (read_request found) ≡ TakeAnswer link era
  pub has : has_link d link ≡ true

abbrev pub HearsAt : ProtectAt → Post → ℕ → Root → Deal → ℕ → Type 0
HearsAt (AnswerOwn first era link) post index root d found = (found == own_request post index root) ≡ false → HeardIn d found
HearsAt (LoadAnswer first) post index root d found = HeardIn d found
HearsAt at post index root d found = Unit {0}

-- the protection is over: where it is followed the link is still carried
reload_link : (link x : ℕ) → (link == 0) ≡ false → (link - 1 + 1 == x) ≡ true → (link == x) ≡ true
reload_link link x e h = grind (arith, nat_tests)

concluded_carries : (clock upto : ℕ) (aim : Aim) (index : ℕ) (root : Root) (n link era : ℕ) (post : Post) (told : List Event) (x : ℕ) (null : Bool) → (link == 0) ≡ null → (aim ≡ Follows → root ≡ roots.Next (parent_of root))
    → out_carries clock upto (concluded aim index root n link era post told).outcome x ≡ true → (out_root (concluded aim index root n link era post told).outcome ≡ root) × ((link == x) ≡ true)
concluded_carries clock upto Alone index root n link era post told x null e f h = absurd (cc)
concluded_carries clock upto Follows index root n link era post told x true e f h = absurd (grind (arith, nat_tests))
concluded_carries clock upto Follows index root n link era post told x false e f h =
    let g : (link - 1 + 1 == x) ≡ true = rw e at h in
    rw e (sym (f refl), reload_link link x e g)

check_carries : (clock upto : ℕ) (aim : Aim) (index : ℕ) (root : Root) (n era : ℕ) (tries : Tries) (link : ℕ) (post : Post) (x : ℕ) (same : Bool) → (clock == era) ≡ same → (aim ≡ Follows → root ≡ roots.Next (parent_of root))
    → out_carries clock upto (if same then protected aim index root n link era post else goes post [] (Protect aim index root n (PublishEra clock (failed_once tries)))).outcome x ≡ true
    → (out_root (if same then protected aim index root n link era post else goes post [] (Protect aim index root n (PublishEra clock (failed_once tries)))).outcome ≡ root) × ((link == x && clock == era) ≡ true)
check_carries clock upto aim index root n era tries link post x true e f h =
    let q = concluded_carries clock upto aim index root n link era (held_post post index root link) (told_held index root link n) x (link == 0) refl f h in
    (q.0, both (link == x) (clock == era) q.1 e)
check_carries clock upto aim index root n era tries link post x false e f h = absurd (cc)

upper_carries : (clock own upto : ℕ) (aim : Aim) (index : ℕ) (root : Root) (n link : ℕ) (post : Post) (x : ℕ) (same : Bool) → (clock == own) ≡ same → (aim ≡ Follows → root ≡ roots.Next (parent_of root))
    → out_carries clock upto (if same then protected aim index root n link clock post else goes post [] (Protect aim index root n (RaiseUpper clock))).outcome x ≡ true
    → (out_root (if same then protected aim index root n link clock post else goes post [] (Protect aim index root n (RaiseUpper clock))).outcome ≡ root) × ((link == x && clock == own) ≡ true)
upper_carries clock own upto aim index root n link post x true e f h =
    let q = concluded_carries clock upto aim index root n link clock (held_post post index root link) (told_held index root link n) x (link == 0) refl f h in
    (q.0, both (link == x) (clock == own) q.1 e)
upper_carries clock own upto aim index root n link post x false e f h = absurd (cc)

-- a first link that ends the protection is null, and carried by nothing
first_carries : (clock upto : ℕ) (aim : Aim) (index : ℕ) (root : Root) (n link : ℕ) (post : Post) (x : ℕ) (null : Bool) → (link == 0) ≡ null → (aim ≡ Follows → root ≡ roots.Next (parent_of root))
    → out_carries clock upto (if null then protected aim index root n link 0 post else goes post [] (Protect aim index root n (ByHazard (PublishLink link)))).outcome x ≡ true → ⊥
first_carries clock upto Alone index root n link post x true e f h = cc
first_carries clock upto Follows index root n link post x true e f h = absurd (grind (arith, nat_tests))
first_carries clock upto aim index root n link post x false e f h = cc

-- a link that is loaded again
again_carries : (clock upto : ℕ) (aim : Aim) (index : ℕ) (root : Root) (n link found : ℕ) (post : Post) (x : ℕ) (same : Bool) → (found == link || found == 0) ≡ same → (aim ≡ Follows → root ≡ roots.Next (parent_of root))
    → out_carries clock upto (if same then protected aim index root n found 0 post else goes post [] (Protect aim index root n (ByHazard (PublishLink found)))).outcome x ≡ true
    → (out_root (if same then protected aim index root n found 0 post else goes post [] (Protect aim index root n (ByHazard (PublishLink found)))).outcome ≡ root) × ((found == x) ≡ true)
again_carries clock upto aim index root n link found post x true e f h = concluded_carries clock upto aim index root n found 0 (held_post post index root found) (told_held index root found n) x (found == 0) refl f h
again_carries clock upto aim index root n link found post x false e f h = absurd (cc)

own_carries : (clock upto : ℕ) (aim : Aim) (index : ℕ) (root : Root) (n first era : ℕ) (last : Bool) (link : ℕ) (post : Post) (x : ℕ) (same : Bool) → (clock == era) ≡ same
    → out_carries clock upto (if same then goes post [] (Protect aim index root n (AnswerOwn first era link)) else goes post [] (Protect aim index root n (lost_turn first last clock))).outcome x ≡ true
    → (out_root (if same then goes post [] (Protect aim index root n (AnswerOwn first era link)) else goes post [] (Protect aim index root n (lost_turn first last clock))).outcome ≡ root) × ((link == x && clock == era) ≡ true)
own_carries clock upto aim index root n first era last link post x true e h = (refl, both (link == x) (clock == era) h e)
own_carries clock upto aim index root n first era true link post x false e h = absurd (cc)
own_carries clock upto aim index root n first era false link post x false e h = absurd (cc)

-- an answer is found
heard_carries : (clock upto : ℕ) (found : ℕ) (d : Deal) (x : ℕ) → HeardIn d found → carries_at clock upto (answer_in (read_request found)) x ≡ true → has_link d x ≡ true
heard_carries clock upto found d x h c =
    let l : (h.link == x) ≡ true = rw (h.is) at c in
    let e : h.link ≡ x = grind (arith, nat_tests, l) in
    subst (λ (y : ℕ). has_link d y ≡ true) e h.has

answer_carries : (mem : Place → ℕ) (clock upto next : ℕ) (aim : Aim) (index : ℕ) (root : Root) (n first era link : ℕ) (post : Post) (d : Deal) (x found : ℕ) (same : Bool) → (found == own_request post index root) ≡ same → HearsAt (AnswerOwn first era link) post index root d found
    → out_carries clock next (if same then goes post [] (Protect aim index root n (TakeAnswer link era)) else goes post [] (Protect aim index root n (answer_in (read_request found)))).outcome x ≡ true
    → Next mem clock upto root (AnswerOwn first era link) d x (if same then goes post [] (Protect aim index root n (TakeAnswer link era)) else goes post [] (Protect aim index root n (answer_in (read_request found)))).outcome
answer_carries mem clock upto next aim index root n first era link post d x found true e a h = record { same = refl; source = Had h }
answer_carries mem clock upto next aim index root n first era link post d x found false e a h = record { same = refl; source = Hears (heard_carries clock next found d x (a e) h) }

trying_carries : (clock upto : ℕ) (config : Config) (era : ℕ) (tries : Tries) (x : ℕ) → carries_at clock upto (trying config era tries) x ≡ false
trying_carries clock upto config era Endless x = refl
trying_carries clock upto config era (Failed count) x = by_more (nat_le config.tries count) where
  by_more : (over : Bool) → carries_at clock upto (if over then PublishRequest else LoadLink era (Failed count)) x ≡ false
  by_more true = refl
  by_more false = refl

-- a step of a protection
pub protect_next : (mem : Place → ℕ) (clock upto next : ℕ) (aim : Aim) (index : ℕ) (root : Root) (n : ℕ) (at : ProtectAt) (post last : Post) (d : Deal) (x : ℕ)
    → clock ≡ mem Clock → upto ≡ upper post.span → (aim ≡ Follows → root ≡ roots.Next (parent_of root)) → HearsAt at post index root d (found (protect_move index root at last) (mem (place_in (protect_move index root at last))))
    → out_carries clock next (protect_turn aim index root n at post (found (protect_move index root at last) (mem (place_in (protect_move index root at last))))).outcome x ≡ true
    → Next mem clock upto root at d x (protect_turn aim index root n at post (found (protect_move index root at last) (mem (place_in (protect_move index root at last))))).outcome
protect_next mem clock upto next aim index root n (LoadClock tries) post last d x c u f a h = absurd (cc)
protect_next mem clock upto next aim index root n (PublishEra era tries) post last d x c u f a h = let z = trying_carries clock next post.layout.config era tries x in absurd (cc)
protect_next mem clock upto next aim index root n (LoadLink era tries) post last d x c u f a h = record { same = refl; source = Loads refl (grind (arith, nat_tests)) }
protect_next mem clock upto next aim index root n (CheckClock era tries link) post last d x c u f a h =
    let q = check_carries (mem Clock) next aim index root n era tries link post x (mem Clock == era) refl f (rw c at h) in record { same = q.0; source = Had (rw c (q.1)) }
protect_next mem clock upto next aim index root n PublishRequest post last d x c u f a h = absurd (cc)
protect_next mem clock upto next aim index root n LoadOwnClock post last d x c u f a h = absurd (cc)
protect_next mem clock upto next aim index root n (PublishHelper first era end) post last d x c u f a h = absurd (cc)
protect_next mem clock upto next aim index root n (LoadOwnLink first era end) post last d x c u f a h = record { same = refl; source = Loads refl (grind (arith, nat_tests)) }
protect_next mem clock upto next aim index root n (CheckOwnClock first era end link) post last d x c u f a h =
    let q = own_carries (mem Clock) next aim index root n first era end link post x (mem Clock == era) refl (rw c at h) in record { same = q.0; source = Had (rw c (q.1)) }
protect_next mem clock upto next aim index root n (AnswerOwn first era link) post last d x c u f a h =
    answer_carries mem clock upto next aim index root n first era link post d x (mem (Request last.seat)) (mem (Request last.seat) == own_request post index root) refl a h
protect_next mem clock upto next aim index root n (LoadAnswer first) post last d x c u f a h = record { same = refl; source = Hears (heard_carries clock next (mem (Request last.seat)) d x a h) }
protect_next mem clock upto next aim index root n (TakeAnswer link era) post last d x c u f a h = record { same = refl; source = Had h }
protect_next mem clock upto next aim index root n (WithdrawRequest link era) post last d x c u f a h = record { same = refl; source = Had h }
protect_next mem clock upto next aim index root n (WithdrawHelper link era) post last d x c u f a h =
    let q = concluded_carries clock next aim index root n link era post (reserves_helper post 0) x (link == 0) refl f h in record { same = q.0; source = Had (q.1) }
protect_next mem clock upto next aim index root n LoadWithin post last d x c u f a h = record { same = refl; source = Loads refl (grind (arith, nat_tests)) }
protect_next mem clock upto next aim index root n (CheckUpper link) post last d x c u f a h =
    let q = upper_carries (mem Clock) (upper post.span) next aim index root n link post x (mem Clock == upper post.span) refl f (rw c at h) in record { same = q.0; source = Had (rw (c, u) (q.1)) }
protect_next mem clock upto next aim index root n (RaiseUpper era) post last d x c u f a h = absurd (cc)
protect_next mem clock upto next aim index root n (ByHazard FirstLink) post last d x c u f a h =
    absurd (first_carries (mem Clock) next aim index root n (mem (link_place root)) post x (mem (link_place root) == 0) refl f (rw c at h))
protect_next mem clock upto next aim index root n (ByHazard (PublishLink link)) post last d x c u f a h = absurd (cc)
protect_next mem clock upto next aim index root n (ByHazard (CheckLink link)) post last d x c u f a h =
    let q = again_carries (mem Clock) next aim index root n link (mem (link_place root)) post x (mem (link_place root) == link || mem (link_place root) == 0) refl f (rw c at h) in
    record { same = q.0; source = Loads refl (grind (arith, nat_tests, q.1)) }

-- a step that loads the link that is carried from there on tells nothing
next_none : (index : ℕ) (root : Root) (link n : ℕ) → root ≡ roots.Next (parent_of root) → (link == 0) ≡ false → told_held index root link n ≡ []
next_none index (roots.Bucket bucket) link n e h = absurd (cc)
next_none index roots.Head link n e h = absurd (cc)
next_none index roots.Tail link n e h = absurd (cc)
next_none index (roots.Next parent) link n e h = rw h refl

concluded_none : (clock upto : ℕ) (aim : Aim) (index : ℕ) (root : Root) (n link era : ℕ) (post : Post) (x : ℕ) (null : Bool) → (link == 0) ≡ null → (aim ≡ Follows → root ≡ roots.Next (parent_of root))
    → out_carries clock upto (concluded aim index root n link era post (told_held index root link n)).outcome x ≡ true → (concluded aim index root n link era post (told_held index root link n)).told ≡ []
concluded_none clock upto Alone index root n link era post x null e f h = absurd (cc)
concluded_none clock upto Follows index root n link era post x true e f h = absurd (grind (arith, nat_tests))
concluded_none clock upto Follows index root n link era post x false e f h = rw e (next_none index root link n (f refl) e)

again_none : (clock upto : ℕ) (aim : Aim) (index : ℕ) (root : Root) (n found : ℕ) (post : Post) (x : ℕ) (same : Bool) → (aim ≡ Follows → root ≡ roots.Next (parent_of root))
    → out_carries clock upto (if same then protected aim index root n found 0 post else goes post [] (Protect aim index root n (ByHazard (PublishLink found)))).outcome x ≡ true
    → (if same then protected aim index root n found 0 post else goes post [] (Protect aim index root n (ByHazard (PublishLink found)))).told ≡ []
again_none clock upto aim index root n found post x true f h = concluded_none clock upto aim index root n found 0 (held_post post index root found) x (found == 0) refl f h
again_none clock upto aim index root n found post x false f h = refl

pub loads_none : (clock upto : ℕ) (aim : Aim) (index : ℕ) (root : Root) (n : ℕ) (at : ProtectAt) (post : Post) (found x : ℕ) → loads_at at ≡ true → (aim ≡ Follows → root ≡ roots.Next (parent_of root))
    → out_carries clock upto (protect_turn aim index root n at post found).outcome x ≡ true → (protect_turn aim index root n at post found).told ≡ []
loads_none clock upto aim index root n (LoadLink era tries) post found x l f h = refl
loads_none clock upto aim index root n (LoadOwnLink first era last) post found x l f h = refl
loads_none clock upto aim index root n LoadWithin post found x l f h = refl
loads_none clock upto aim index root n (ByHazard (CheckLink link)) post found x l f h = again_none clock upto aim index root n found post x (found == link || found == 0) f h
loads_none clock upto aim index root n at post found x l f h = absurd (cc)
