-- The end of the slow path: the answer, own or not, is found, taken and withdrawn.
use Rattle.std.proofs.Common.{ℕ, ◌≡◌, ◌<◌, ◌+◌, ◌^◌, Bool, true, false, List, [], arith, refl, sym, ap, subst, ◌∙◌}
use Rattle.std.proofs.lemmas.Bool.Decides.{nat_tests}
use Rattle.std.specs.Prelude.{◌==◌, ◌&&◌, if◌then◌else◌, ◌-◌, not, length, slice_index, slice_set}
use Rattle.inv_rows.specs.words.Schemes.{publishes_rows}
use Rattle.inv_rows.specs.words.Place.{Place}
use Rattle.inv_rows.specs.words.Place.Place.{Index, Request}
use Rattle.inv_rows.specs.words.Packed.{halves, read_request, pending_word, answered_word}
use Rattle.inv_rows.specs.defs.declared.event.Root.{Root}
use Rattle.inv_rows.specs.model.declared.post.Post.{Post}
use Rattle.inv_rows.specs.model.Links.{link_number}
use Rattle.inv_rows.specs.model.Memory.{upd, written, put, Move}
use Rattle.inv_rows.specs.model.Memory as memory
use Rattle.inv_rows.specs.model.Posts.{counted, tag_of, with_row, with_tag, reserves_helper}
use Rattle.inv_rows.specs.model.Phases.{Aim, ProtectAt, Turn, goes}
use Rattle.inv_rows.specs.model.Calls.{Why, Phase, Runs}
use Rattle.inv_rows.specs.model.Steps.{run_turn}
use Rattle.inv_rows.specs.model.Locals.{Local, settled}
use Rattle.inv_rows.specs.model.Machine.{protect_move, protect_turn}
use Rattle.inv_rows.specs.Shapes.Frame.{Moves}
use Rattle.inv_rows.proofs.words.Parts.{pending≢answered, read_request-answered}
use Rattle.inv_rows.proofs.model.Ranges.{bounds_of}
use Rattle.inv_rows.specs.model.Phases.ProtectAt.{AnswerOwn, LoadAnswer, TakeAnswer, WithdrawRequest, WithdrawHelper}
use Rattle.inv_rows.specs.model.Phases.Base.{Protect}
use Rattle.inv_rows.specs.defs.declared.event.Root.TheVariants as root_names
use Rattle.inv_rows.specs.words.declared.config.Config.{Config}
use Rattle.inv_rows.specs.words.declared.layout.Layout.{Layout}
use Rattle.std.proofs.lemmas.List.{get_or-set_other}
use Rattle.inv_rows.proofs.Covering.Requests.Turns.{upd_all, upd_here, upd_there, same_deals}
use Rattle.inv_rows.specs.Covering.Requests.Heard.{Heard}
use Rattle.inv_rows.proofs.Covering.Requests.Asking.{inside, root_there, concluded_rests}
use Rattle.inv_rows.specs.model.Protect.{held_post}
use Rattle.inv_rows.specs.model.SlowPath.{own_request, answer_in}
use Rattle.inv_rows.specs.Covering.Requests.Views.{View, Deal, Role, upd2, Role as roles}
use Rattle.inv_rows.specs.Covering.Requests.Views.Deal.{Quiet, Open, Answered, Passed, Taken}
use Rattle.inv_rows.specs.Covering.Requests.Deals.{is_open, asked_at, answered_with, has_tag}
use Rattle.inv_rows.specs.Covering.Requests.Parts.{Parts}
use Rattle.inv_rows.specs.Covering.Requests.Standing.{protect_role, role_of, is_there, request_of, Words, Locals}
use Rattle.inv_rows.specs.Covering.Requests.NextDeals.{protect_deals}
use Rattle.inv_rows.specs.Covering.Requests.Turns.{Made}
use Rattle.inv_rows.specs.Covering.Requests.Context.{At}
use Rattle.inv_rows.proofs.Covering.Requests.Words.{no_halves, words_deal, words_helper, words_index, words_request, words_same, exchanged, not_exchanged}
use Rattle.inv_rows.proofs.Covering.Requests.Requester as own
use Rattle.inv_rows.proofs.Covering.Requests.Going.{stands_in, own_post, link_few, go, rest}
use Rattle.inv_rows.proofs.model.Facts.{set_there, number_is, same_test, if_by}

-- a deal of this request that is answered
pub heard : (index word : ℕ) (d : Deal) → asked_at index word d ≡ true → is_open d ≡ false → Heard index word d
heard index word Quiet h g = cc
heard index word (Open t j w) h g = cc
heard index word (Answered t j w l e m) h g = record { link = l; era = e; with = grind (arith, nat_tests); is = refl; small = λ clock most b. grind (arith, nat_tests); some = λ clock most b. grind (arith, nat_tests); early = λ clock most b. grind (arith, nat_tests) }
heard index word (Passed t j w l e) h g = record { link = l; era = e; with = grind (arith, nat_tests); is = refl; small = λ clock most b. grind (arith, nat_tests); some = λ clock most b. grind (arith, nat_tests); early = λ clock most b. grind (arith, nat_tests) }
heard index word (Taken t j w l e) h g = cc

-- what the request word of an answered deal reads as
heard_word : (mem : Place → ℕ) (seat : ℕ → Local) (i : ℕ) (v : View) (index word found : ℕ) (h : Heard index word (v.deal i)) → At mem seat i v → found ≡ request_of (v.deal i) → answer_in (read_request found) ≡ TakeAnswer h.link h.era
heard_word mem seat i v index word found h a e =
    let b = bounds_of (seat i).post.layout a.valid in
    let t = a.facts.parts.timely i in
    let l : h.link < 2 ^ 24 = omega (arith, h.small v.clock ((seat i).post.layout.config.slots + 1) t, b.slots) in
    let s : 0 < h.era = h.some v.clock ((seat i).post.layout.config.slots + 1) t in
    let f : h.era < 2 ^ 32 = omega (arith, h.early v.clock ((seat i).post.layout.config.slots + 1) t, a.facts.parts.clock, b.eras) in
    ap answer_in (ap read_request (e ∙ h.is) ∙ read_request-answered h.link h.era l s f)

-- the machine goes on to take an answer that was heard
take_heard : (mem : Place → ℕ) (seat : ℕ → Local) (i : ℕ) (v : View) (m : Move) (why : Why) (aim : Aim) (index : ℕ) (root : Root) (n found : ℕ) (h : Heard index (link_number (seat i).post.layout root) (v.deal i)) → At mem seat i v → found ≡ request_of (v.deal i) → Words (publishes_rows (seat i).post.layout.config.scheme) (written mem m) v.clock v.helper v.era v.mark v.deal
    → Parts (seat i).post.layout.config (record v { role = upd v.role i (roles.Takes index (link_number (seat i).post.layout root) h.link h.era) })
    → Made mem seat i m (run_turn why (seat i).desk (goes (counted (seat i).post) [] (Protect aim index root n (answer_in (read_request found))))) v.deal
take_heard mem seat i v m why aim index root n found h a e u d =
    go mem seat i v m why [] (Protect aim index root n (answer_in (read_request found))) (roles.Takes index (link_number (seat i).post.layout root) h.link h.era)
    (record v { role = upd v.role i (roles.Takes index (link_number (seat i).post.layout root) h.link h.era) }) a
    (ap (protect_role (seat i).post.layout index root) (heard_word mem seat i v index (link_number (seat i).post.layout root) found h a e)) refl refl refl u d

-- 7. The own request is loaded: it has an answer.
pub load_answer : (mem : Place → ℕ) (seat : ℕ → Local) (i : ℕ) (v : View) (why : Why) (aim : Aim) (index : ℕ) (root : Root) (steps n first : ℕ) → At mem seat i v → (seat i).phase ≡ Runs why (Protect aim index root steps (LoadAnswer first))
    → Made mem seat i (memory.Load (Request (seat i).post.seat)) (run_turn why (seat i).desk (protect_turn aim index root n (LoadAnswer first) (counted (seat i).post) (mem (Request (seat i).post.seat)))) v.deal
load_answer mem seat i v why aim index root steps n first a q =
    let r = stands_in mem seat i v (Runs why (Protect aim index root steps (LoadAnswer first))) a q in
    let f : (asked_at index (link_number (seat i).post.layout root) (v.deal i) && not (is_open (v.deal i))) ≡ true = rw r at (a.facts.parts.fit i) in
    let h = heard index (link_number (seat i).post.layout root) (v.deal i) (grind (arith, nat_tests)) (grind (arith, nat_tests)) in
    take_heard mem seat i v (memory.Load (Request (seat i).post.seat)) why aim index root n (mem (Request (seat i).post.seat)) h a (ap (λ (k : ℕ). mem (Request k)) a.number ∙ a.facts.words.requests i) a.facts.words
    (own.hears-keeps (seat i).post.layout.config v i index (link_number (seat i).post.layout root) h.link h.era a.below a.facts.parts r h.with)

-- a request that is pending, with its tag
pub record Pends (index word : ℕ) (d : Deal) : Type 0 where
  pub tag : ℕ
  pub is : d ≡ Open tag index word

pends : (index word : ℕ) (d : Deal) → asked_at index word d ≡ true → is_open d ≡ true → Pends index word d
pends index word Quiet h g = cc
pends index word (Open t j w) h g = let e : j ≡ index = grind (arith, nat_tests) in let f : w ≡ word = grind (arith, nat_tests) in record { tag = t; is = cc }
pends index word (Answered t j w l e m) h g = cc
pends index word (Passed t j w l e) h g = cc
pends index word (Taken t j w l e) h g = cc

-- the word of an answered request is no pending one
pub open_by_word : (index word tag : ℕ) (d : Deal) → asked_at index word d ≡ true → tag < 2 ^ 32 → index < 2 ^ 4 → word < 2 ^ 26 → request_of d ≡ pending_word tag index word → is_open d ≡ true
open_by_word index word tag Quiet h a b c e = cc
open_by_word index word tag (Open t j w) h a b c e = refl
open_by_word index word tag (Answered t j w l r m) h a b c e = absurd (pending≢answered tag index word l r a b c (sym e))
open_by_word index word tag (Passed t j w l r) h a b c e = absurd (pending≢answered tag index word l r a b c (sym e))
open_by_word index word tag (Taken t j w l r) h a b c e = cc

-- the word of a pending request has the seat's own tag
pub word_by_open : (index word tag : ℕ) (d : Deal) (tags : ℕ → ℕ) → asked_at index word d ≡ true → is_open d ≡ true → has_tag d tags ≡ true → tag ≡ tags index → request_of d ≡ pending_word tag index word
word_by_open index word tag Quiet tags h g t e = cc
word_by_open index word tag (Open t j w) tags h g s e = let p : t ≡ tag = grind (arith, nat_tests) in let q : j ≡ index = grind (arith, nat_tests) in let r : w ≡ word = grind (arith, nat_tests) in cc
word_by_open index word tag (Answered t j w l r m) tags h g s e = cc
word_by_open index word tag (Passed t j w l r) tags h g s e = cc
word_by_open index word tag (Taken t j w l r) tags h g s e = cc

-- the numbers of an own request fit their bits
pub record Bits (tag index word : ℕ) : Type 0 where
  pub tag_in : tag < 2 ^ 32
  pub index_in : index < 2 ^ 4
  pub word_in : word < 2 ^ 26

pub own_bits : (mem : Place → ℕ) (seat : ℕ → Local) (i : ℕ) (v : View) (why : Why) (aim : Aim) (index : ℕ) (root : Root) (steps : ℕ) (at : ProtectAt) → At mem seat i v → (seat i).phase ≡ Runs why (Protect aim index root steps at) → Bits (tag_of (seat i).post index) index (link_number (seat i).post.layout root)
own_bits mem seat i v why aim index root steps at a q =
    let b = bounds_of (seat i).post.layout a.valid in
    let h = inside mem seat i v why aim index root steps at a q in
    record {
      tag_in = omega (arith, a.facts.parts.low i index, a.facts.locals.tags i index, a.facts.parts.clock, b.eras);
      index_in = grind (arith, nat_tests, b.indexes);
      word_in = link_few mem seat i v root a (root_there mem seat i v why aim index root steps at a q);
    }

-- 6. The own request is exchanged.
own_tag : (tag index word : ℕ) (d : Deal) (tags : ℕ → ℕ) → d ≡ Open tag index word → has_tag d tags ≡ true → tag ≡ tags index
own_tag tag index word d tags e h = let g = rw e at h in grind (arith, nat_tests, g)

answer_own : (mem : Place → ℕ) (seat : ℕ → Local) (i : ℕ) (v : View) (why : Why) (aim : Aim) (index : ℕ) (root : Root) (steps n first era link : ℕ) → At mem seat i v → (seat i).phase ≡ Runs why (Protect aim index root steps (AnswerOwn first era link)) → (mem (Request (seat i).post.seat) == own_request (seat i).post index root) ≡ true
    → Made mem seat i (protect_move index root (AnswerOwn first era link) (seat i).post) (run_turn why (seat i).desk (goes (counted (seat i).post) [] (Protect aim index root n (TakeAnswer link era)))) (upd v.deal i (Answered (tag_of (seat i).post index) index (link_number (seat i).post.layout root) link era i))
answer_own mem seat i v why aim index root steps n first era link a q h =
    let r = stands_in mem seat i v (Runs why (Protect aim index root steps (AnswerOwn first era link))) a q in
    let f : asked_at index (link_number (seat i).post.layout root) (v.deal i) ≡ true = rw r at (a.facts.parts.fit i) in
    let b = own_bits mem seat i v why aim index root steps (AnswerOwn first era link) a q in
    let e : mem (Request (seat i).post.seat) ≡ own_request (seat i).post index root = number_is (mem (Request (seat i).post.seat)) (own_request (seat i).post index root) h in
    let o = open_by_word index (link_number (seat i).post.layout root) (tag_of (seat i).post index) (v.deal i) f b.tag_in b.index_in b.word_in (sym (a.facts.words.requests i) ∙ ap (λ (k : ℕ). mem (Request k)) (sym a.number) ∙ e) in
    let p = pends index (link_number (seat i).post.layout root) (v.deal i) f o in
    let z : p.tag ≡ tag_of (seat i).post index = own_tag p.tag index (link_number (seat i).post.layout root) (v.deal i) (v.tag i) p.is (a.facts.parts.tags i) ∙ sym (a.facts.locals.tags i index) in
    same_deals mem seat i (protect_move index root (AnswerOwn first era link) (seat i).post) (run_turn why (seat i).desk (goes (counted (seat i).post) [] (Protect aim index root n (TakeAnswer link era)))) (upd v.deal i (Answered p.tag index (link_number (seat i).post.layout root) link era i)) (upd v.deal i (Answered (tag_of (seat i).post index) index (link_number (seat i).post.layout root) link era i))
    (ap (λ (t : ℕ). upd v.deal i (Answered t index (link_number (seat i).post.layout root) link era i)) z)
    (go mem seat i v (protect_move index root (AnswerOwn first era link) (seat i).post) why [] (Protect aim index root n (TakeAnswer link era)) (roles.Takes index (link_number (seat i).post.layout root) link era)
    (record v { deal = upd v.deal i (Answered p.tag index (link_number (seat i).post.layout root) link era i); role = upd v.role i (roles.Takes index (link_number (seat i).post.layout root) link era) }) a
    refl refl refl refl
    (words_request mem v.clock v.helper v.era v.mark v.deal i (seat i).post.seat (if mem (Request (seat i).post.seat) == own_request (seat i).post index root then answered_word link era else mem (Request (seat i).post.seat)) (Answered p.tag index (link_number (seat i).post.layout root) link era i) a.facts.words a.number
    (exchanged (mem (Request (seat i).post.seat)) (own_request (seat i).post index root) (answered_word link era) h))
    (own.answers-keeps (seat i).post.layout.config v i p.tag index (link_number (seat i).post.layout root) first era link a.below a.facts.parts r p.is))

find_answer : (mem : Place → ℕ) (seat : ℕ → Local) (i : ℕ) (v : View) (why : Why) (aim : Aim) (index : ℕ) (root : Root) (steps n first era link : ℕ) → At mem seat i v → (seat i).phase ≡ Runs why (Protect aim index root steps (AnswerOwn first era link)) → (mem (Request (seat i).post.seat) == own_request (seat i).post index root) ≡ false
    → Made mem seat i (protect_move index root (AnswerOwn first era link) (seat i).post) (run_turn why (seat i).desk (goes (counted (seat i).post) [] (Protect aim index root n (answer_in (read_request (mem (Request (seat i).post.seat))))))) v.deal
find_answer mem seat i v why aim index root steps n first era link a q h =
    let r = stands_in mem seat i v (Runs why (Protect aim index root steps (AnswerOwn first era link))) a q in
    let f : asked_at index (link_number (seat i).post.layout root) (v.deal i) ≡ true = rw r at (a.facts.parts.fit i) in
    let u : mem (Request (seat i).post.seat) ≡ request_of (v.deal i) = ap (λ (k : ℕ). mem (Request k)) a.number ∙ a.facts.words.requests i in
    let c : is_open (v.deal i) ≡ false = not_open (is_open (v.deal i)) refl f u in
    let t = heard index (link_number (seat i).post.layout root) (v.deal i) f c in
    take_heard mem seat i v (protect_move index root (AnswerOwn first era link) (seat i).post) why aim index root n (mem (Request (seat i).post.seat)) t a u
    (words_same mem v.clock v.helper v.era v.mark v.deal (Request (seat i).post.seat) (if mem (Request (seat i).post.seat) == own_request (seat i).post index root then answered_word link era else mem (Request (seat i).post.seat)) a.facts.words
    (not_exchanged (mem (Request (seat i).post.seat)) (own_request (seat i).post index root) (answered_word link era) h))
    (own.finds-keeps (seat i).post.layout.config v i index (link_number (seat i).post.layout root) first era link t.link t.era a.below a.facts.parts r t.with)
  where
    not_open : (b : Bool) → is_open (v.deal i) ≡ b → asked_at index (link_number (seat i).post.layout root) (v.deal i) ≡ true → mem (Request (seat i).post.seat) ≡ request_of (v.deal i) → b ≡ false
    not_open false o f u = refl
    not_open true o f u =
        let w = word_by_open index (link_number (seat i).post.layout root) (tag_of (seat i).post index) (v.deal i) (v.tag i) f o (a.facts.parts.tags i) (a.facts.locals.tags i index) in
        let g : (mem (Request (seat i).post.seat) == own_request (seat i).post index root) ≡ true = same_test (mem (Request (seat i).post.seat)) (own_request (seat i).post index root) (u ∙ w) in cc

pub exchange_own : (mem : Place → ℕ) (seat : ℕ → Local) (i : ℕ) (v : View) (why : Why) (aim : Aim) (index : ℕ) (root : Root) (steps n first era link : ℕ) → At mem seat i v → (seat i).phase ≡ Runs why (Protect aim index root steps (AnswerOwn first era link))
    → Made mem seat i (protect_move index root (AnswerOwn first era link) (seat i).post) (run_turn why (seat i).desk (protect_turn aim index root n (AnswerOwn first era link) (counted (seat i).post) (mem (Request (seat i).post.seat)))) (protect_deals mem i (seat i).post index root (AnswerOwn first era link) v.deal)
exchange_own mem seat i v why aim index root steps n first era link a q =
    if_by (mem (Request (seat i).post.seat) == own_request (seat i).post index root) (goes (counted (seat i).post) [] (Protect aim index root n (TakeAnswer link era))) (goes (counted (seat i).post) [] (Protect aim index root n (answer_in (read_request (mem (Request (seat i).post.seat))))))
    (λ (t : Turn). Made mem seat i (protect_move index root (AnswerOwn first era link) (seat i).post) (run_turn why (seat i).desk t) (protect_deals mem i (seat i).post index root (AnswerOwn first era link) v.deal))
    (λ h. same_deals mem seat i (protect_move index root (AnswerOwn first era link) (seat i).post) (run_turn why (seat i).desk (goes (counted (seat i).post) [] (Protect aim index root n (TakeAnswer link era)))) (upd v.deal i (Answered (tag_of (seat i).post index) index (link_number (seat i).post.layout root) link era i)) (protect_deals mem i (seat i).post index root (AnswerOwn first era link) v.deal) (rw h refl) (answer_own mem seat i v why aim index root steps n first era link a q h))
    (λ h. same_deals mem seat i (protect_move index root (AnswerOwn first era link) (seat i).post) (run_turn why (seat i).desk (goes (counted (seat i).post) [] (Protect aim index root n (answer_in (read_request (mem (Request (seat i).post.seat))))))) v.deal (protect_deals mem i (seat i).post index root (AnswerOwn first era link) v.deal) (rw h refl) (find_answer mem seat i v why aim index root steps n first era link a q h))

tag_other : (tags : List ℕ) (index x j : ℕ) → (j == index) ≡ false → slice_index (slice_set tags index x) j ≡ slice_index tags j
tag_other tags index x j h = get_or-set_other tags index j x 0 (λ e. grind (arith, nat_tests))

risen : (tags : List ℕ) (tag : ℕ → ℕ → ℕ) (i index x j : ℕ) (b : Bool) → (j == index) ≡ b → index < length tags → slice_index tags j ≡ tag i j → slice_index (slice_set tags index x) j ≡ upd2 tag i index x i j
risen tags tag i index x j true h l g = let s : index ≡ j = grind (arith, nat_tests) in let t = set_there tags index x l in grind (arith, nat_tests, subst (λ (k : ℕ). slice_index (slice_set tags index x) k ≡ x) s t)
risen tags tag i index x j false h l g = let t = tag_other tags index x j h in grind (arith, nat_tests, t, g)

upd2_there : (tag : ℕ → ℕ → ℕ) (i index x k j : ℕ) → (k == i) ≡ false → upd2 tag i index x k j ≡ tag k j
upd2_there tag i index x k j h = rw h refl

-- the seats after one of them took an answer: its tag has risen
locals_take : (layout : Layout) (seat : ℕ → Local) (tag : ℕ → ℕ → ℕ) (role : ℕ → Role) (i index : ℕ) (l : Local) (r : Role) → Locals layout seat tag role → index < length (seat i).post.tags → l.post.tags ≡ slice_set (seat i).post.tags index (tag i index + 1) → role_of layout l.phase ≡ r → is_there layout l.phase ≡ true
    → Locals layout (upd seat i l) (upd2 tag i index (tag i index + 1)) (upd role i r)
locals_take layout seat tag role i index l r c b t e h = record {
  tags = λ k j. upd_all seat i l (λ (n : ℕ) (a : Local). tag_of a.post j ≡ upd2 tag i index (tag i index + 1) n j)
      (ap (λ (x : List ℕ). slice_index x j) t ∙ risen (seat i).post.tags tag i index (tag i index + 1) j (j == index) refl b (c.tags i j))
      (λ n g. c.tags n j ∙ sym (upd2_there tag i index (tag i index + 1) n j g)) k;
  roles = λ k. upd_all seat i l (λ (n : ℕ) (a : Local). role_of layout a.phase ≡ upd role i r n) (e ∙ sym (upd_here role i r)) (λ n g. c.roles n ∙ sym (upd_there role i r n g)) k;
  there = λ k. upd_all seat i l (λ (n : ℕ) (a : Local). is_there layout a.phase ≡ true) h (λ n g. c.there n) k;
}

-- 8. The answer is taken.
take_keeps : (c : Config) (v : View) (x j w l e : ℕ) (d : Deal) → x < c.seats → Parts c v → v.role x ≡ roles.Takes j w l e → v.deal x ≡ d → answered_with j w l e d ≡ true → has_tag d (v.tag x) ≡ true
    → Parts c (record v { era = upd2 v.era x j e; mark = upd2 v.mark x j (v.tag x j + 1); tag = upd2 v.tag x j (v.tag x j + 1); deal = upd v.deal x (Taken (v.tag x j) j w l e); role = upd v.role x (roles.Took j w l e) })
take_keeps c v x j w l e Quiet b d q s f t = cc
take_keeps c v x j w l e (Open t' j' w') b d q s f t = cc
take_keeps c v x j w l e (Answered t' j' w' l' e' m') b d q s f t =
    own.takes_back-keeps c v x (v.tag x j) j w l e m' b d q
    (let p : t' ≡ v.tag x j = grind (arith, nat_tests) in let r : j' ≡ j = grind (arith, nat_tests) in let y : w' ≡ w = grind (arith, nat_tests) in let z : l' ≡ l = grind (arith, nat_tests) in let k : e' ≡ e = grind (arith, nat_tests) in cc)
take_keeps c v x j w l e (Passed t' j' w' l' e') b d q s f t =
    own.takes_over-keeps c v x (v.tag x j) j w l e b d q
    (let p : t' ≡ v.tag x j = grind (arith, nat_tests) in let r : j' ≡ j = grind (arith, nat_tests) in let y : w' ≡ w = grind (arith, nat_tests) in let z : l' ≡ l = grind (arith, nat_tests) in let k : e' ≡ e = grind (arith, nat_tests) in cc)
take_keeps c v x j w l e (Taken t' j' w' l' e') b d q s f t = cc

-- the tags of the post once its row stands
raised_held : (post : Post) (index : ℕ) (root : Root) (link tag : ℕ) → (held_post (with_tag post index tag) index root link).tags ≡ slice_set post.tags index tag
raised_held post index (root_names.Next parent) link tag = refl
raised_held post index (root_names.Bucket bucket) link tag = if_by (link == 0) (with_tag post index tag) (with_row (with_tag post index tag) index (link - 1)) (λ (p : Post). p.tags ≡ slice_set post.tags index tag) (λ e. refl) (λ e. refl)
raised_held post index root_names.Head link tag = if_by (link == 0) (with_tag post index tag) (with_row (with_tag post index tag) index (link - 1)) (λ (p : Post). p.tags ≡ slice_set post.tags index tag) (λ e. refl) (λ e. refl)
raised_held post index root_names.Tail link tag = if_by (link == 0) (with_tag post index tag) (with_row (with_tag post index tag) index (link - 1)) (λ (p : Post). p.tags ≡ slice_set post.tags index tag) (λ e. refl) (λ e. refl)

-- an answer keeps its word when it is taken
own_answered : (index word link era : ℕ) (d : Deal) → answered_with index word link era d ≡ true → request_of d ≡ answered_word link era
own_answered index word link era Quiet f = cc
own_answered index word link era (Open t j w) f = cc
own_answered index word link era (Answered t j w l e m) f = let z : l ≡ link = grind (arith, nat_tests) in let k : e ≡ era = grind (arith, nat_tests) in cc
own_answered index word link era (Passed t j w l e) f = let z : l ≡ link = grind (arith, nat_tests) in let k : e ≡ era = grind (arith, nat_tests) in cc
own_answered index word link era (Taken t j w l e) f = cc

pub take_answer : (mem : Place → ℕ) (seat : ℕ → Local) (i : ℕ) (v : View) (why : Why) (aim : Aim) (index : ℕ) (root : Root) (steps n link era : ℕ) → At mem seat i v → (seat i).phase ≡ Runs why (Protect aim index root steps (TakeAnswer link era))
    → Made mem seat i (protect_move index root (TakeAnswer link era) (seat i).post) (run_turn why (seat i).desk (protect_turn aim index root n (TakeAnswer link era) (counted (seat i).post) 0)) (protect_deals mem i (seat i).post index root (TakeAnswer link era) v.deal)
take_answer mem seat i v why aim index root steps n link era a q =
    let r = stands_in mem seat i v (Runs why (Protect aim index root steps (TakeAnswer link era))) a q in
    let f : answered_with index (link_number (seat i).post.layout root) link era (v.deal i) ≡ true = rw r at (a.facts.parts.fit i) in
    let b = bounds_of (seat i).post.layout a.valid in
    let g = inside mem seat i v why aim index root steps (TakeAnswer link era) a q in
    let p = own_post mem seat i v a in
    let k = raised_held (counted (seat i).post) index root link (tag_of (seat i).post index + 1) in
    let t : v.tag i index ≡ tag_of (seat i).post index = sym (a.facts.locals.tags i index) in (
      record v { era = upd2 v.era i index era; mark = upd2 v.mark i index (v.tag i index + 1); tag = upd2 v.tag i index (v.tag i index + 1); deal = upd v.deal i (Taken (v.tag i index) index (link_number (seat i).post.layout root) link era); role = upd v.role i (roles.Took index (link_number (seat i).post.layout root) link era) },
      record {
        facts = record {
          words = words_deal (put mem (Index (seat i).post.seat index) (halves era (tag_of (seat i).post index + 1))) v.clock v.helper (upd2 v.era i index era) (upd2 v.mark i index (v.tag i index + 1)) v.deal i (Taken (v.tag i index) index (link_number (seat i).post.layout root) link era)
              (words_index mem v.clock v.helper v.era v.mark v.deal i (seat i).post.seat index era (v.tag i index + 1) (halves era (tag_of (seat i).post index + 1)) a.facts.words a.number (ap (λ (x : ℕ). halves era (x + 1)) (sym t)))
              (own_answered index (link_number (seat i).post.layout root) link era (v.deal i) f);
          locals = locals_take (seat i).post.layout seat v.tag v.role i index (settled (seat i) (run_turn why (seat i).desk (protect_turn aim index root n (TakeAnswer link era) (counted (seat i).post) 0))) (roles.Took index (link_number (seat i).post.layout root) link era) a.facts.locals
              (grind (arith, nat_tests, a.eight, b.indexes, g))
              (k ∙ ap (λ (x : ℕ). slice_set (seat i).post.tags index (x + 1)) (sym t)) refl refl;
          parts = take_keeps (seat i).post.layout.config v i index (link_number (seat i).post.layout root) link era (v.deal i) a.below a.facts.parts r refl f (a.facts.parts.tags i);
        };
        deal = ap (λ (x : ℕ). upd v.deal i (Taken x index (link_number (seat i).post.layout root) link era)) t;
      },
    )

-- 9. The own request is withdrawn.
pub withdraw_request : (mem : Place → ℕ) (seat : ℕ → Local) (i : ℕ) (v : View) (why : Why) (aim : Aim) (index : ℕ) (root : Root) (steps n link era : ℕ) → At mem seat i v → (seat i).phase ≡ Runs why (Protect aim index root steps (WithdrawRequest link era))
    → Made mem seat i (protect_move index root (WithdrawRequest link era) (seat i).post) (run_turn why (seat i).desk (protect_turn aim index root n (WithdrawRequest link era) (counted (seat i).post) 0)) (upd v.deal i Quiet)
withdraw_request mem seat i v why aim index root steps n link era a q =
    go mem seat i v (protect_move index root (WithdrawRequest link era) (seat i).post) why [] (Protect aim index root n (WithdrawHelper link era)) (roles.Leaves index link era)
    (record v { deal = upd v.deal i Quiet; role = upd v.role i (roles.Leaves index link era) }) a
    refl refl refl refl
    (words_request mem v.clock v.helper v.era v.mark v.deal i (seat i).post.seat 0 Quiet a.facts.words a.number refl)
    (own.withdraws-keeps (seat i).post.layout.config v i index (link_number (seat i).post.layout root) link era a.below a.facts.parts (stands_in mem seat i v (Runs why (Protect aim index root steps (WithdrawRequest link era))) a q))

-- 10. The own helper word is withdrawn.
pub withdraw_helper : {Q : Post → Type 0} {P : Post → Phase → Type 0} (mem : Place → ℕ) (seat : ℕ → Local) (i : ℕ) (v : View) (why : Why) (aim : Aim) (index : ℕ) (root : Root) (steps n link era : ℕ) → At mem seat i v → (seat i).phase ≡ Runs why (Protect aim index root steps (WithdrawHelper link era))
    → Moves Q P why (protect_turn aim index root n (WithdrawHelper link era) (counted (seat i).post) 0)
    → Made mem seat i (protect_move index root (WithdrawHelper link era) (seat i).post) (run_turn why (seat i).desk (protect_turn aim index root n (WithdrawHelper link era) (counted (seat i).post) 0)) v.deal
withdraw_helper mem seat i v why aim index root steps n link era a q m =
    rest mem seat i v (protect_move index root (WithdrawHelper link era) (seat i).post) why (protect_turn aim index root n (WithdrawHelper link era) (counted (seat i).post) 0)
    (record v { helper = upd v.helper i 0; role = upd v.role i roles.Away }) a
    (concluded_rests (seat i).post.layout (seat i).post.tags why aim index root n link era (counted (seat i).post) (reserves_helper (counted (seat i).post) 0) (own_post mem seat i v a) m)
    refl refl
    (words_helper mem v.clock v.helper v.era v.mark v.deal i (seat i).post.seat 0 0 a.facts.words a.number (sym no_halves))
    (own.leaves-keeps (seat i).post.layout.config v i index link era a.below a.facts.parts (stands_in mem seat i v (Runs why (Protect aim index root steps (WithdrawHelper link era))) a q))
