-- What is lent to a step: nothing, in a call of a seat that stays.
use Rattle.std.proofs.Common.{List, [], ap, false, refl, subst, true, ℕ, ◌∙◌, ◌≡◌}
use Rattle.wfe_core.specs.defs.declared.call.Call.{Call}
use Rattle.wfe_core.specs.defs.declared.lifetime.Lifetime.{Lifetime}
use Rattle.wfe_core.specs.Calls.{Keeping, Phase, TakeList, Works}
use Rattle.wfe_core.specs.Locals.{Local, busy_in, stays}
use Rattle.wfe_core.specs.World.{World, gift_at}
use Rattle.wfe_drive_cells.specs.Unit.{kept_desk, may_adopt}
use Rattle.law_reuse.specs.history.History.{made_of, world_of}
use Rattle.law_reuse.proofs.AnswersTold.Answering.{Keeps, answers_kept}
use Rattle.law_reuse.proofs.AnswersTold.Owed.{Serves}
use Rattle.wfe_drive_words.specs.Comes.{Comes, Given, lent}

-- the World, and the seat in it
abbrev pub world : (l : Local) → Comes l → World
world l c = world_of l.post.layout c.items

-- the seat with nothing lent to it
abbrev pub lone : Local → Local
lone l = record l { desk = kept_desk l.desk }

-- a step that may take over no list has none lent to it
no_gift : (seat : ℕ → Local) (phase : Phase) → may_adopt phase ≡ false → gift_at seat phase ≡ []
no_gift seat (Works (Keeping (TakeList place))) h = absurd (cc)
no_gift seat phase h = refl

pub lent_lone : {l : Local} {n : ℕ} (g : Given l n) → may_adopt l.phase ≡ false → lent g ≡ lone l
lent_lone {l = l} g h =
    let w : World = world l g.comes in
    let seat : Local = w.seat l.post.seat in
    ap (λ (list : List Lifetime). let k : Local = record seat { desk = record seat.desk { gift = list } } in k) (no_gift w.seat seat.phase (ap (λ (k : Local). may_adopt k.phase) g.comes.stands ∙ h))
    ∙ ap lone g.comes.stands

-- what is lent changes nothing else
pub lent_call : {l : Local} {n : ℕ} (g : Given l n) → (lent g).call ≡ l.call
lent_call g = ap (λ (k : Local). k.call) g.comes.stands

pub lent_post : {l : Local} {n : ℕ} (g : Given l n) → (lent g).post ≡ l.post
lent_post g = ap (λ (k : Local). k.post) g.comes.stands

-- a call of a seat that stays takes over none
adopts_none : (call : Call) (phase : Phase) → stays call ≡ true → Serves call phase → may_adopt phase ≡ false
adopts_none call (Works (Keeping (TakeList place))) s v = let no : stays call ≡ false = ap stays v in absurd (cc)
adopts_none call phase s v = refl

pub stays_alone : (l : Local) → Comes l → busy_in l.phase ≡ true → stays l.call ≡ true → may_adopt l.phase ≡ false
stays_alone l c b s =
    let seat : Local = (world l c).seat l.post.seat in
    let kept : Keeps l.post.layout.config.buckets (made_of l.post.layout c.items) = answers_kept l.post.layout c.items c.valid in
    let right = kept.seats l.post.seat in
    let serves : Serves seat.call seat.phase = right.serves (ap (λ (k : Local). busy_in k.phase) c.stands ∙ b) in
    adopts_none l.call l.phase s (subst (λ (k : Local). Serves k.call k.phase) c.stands serves)
