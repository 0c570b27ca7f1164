-- Each step keeps all that is known.
use Rattle.std.proofs.Common.{ℕ, ◌∙◌, ◌≡◌, ◌≤◌, ◌<◌, Bool, true, false, arith, refl, sym, subst}
use Rattle.std.proofs.lemmas.Bool.Decides.{nat_tests}
use Rattle.std.specs.Prelude.{◌==◌}
use Rattle.inv_ends.specs.model.World.{World, finds, step}
use Rattle.inv_ends.specs.model.words.Place.Place.{Row}
use Rattle.inv_ends.specs.model.defs.declared.event.Root.{Root}
use Rattle.inv_ends.specs.model.defs.declared.event.Root.TheVariants as roots
use Rattle.inv_ends.specs.model.Calls.{FollowsHead, Phase, Runs}
use Rattle.inv_ends.specs.model.Links.{link_place}
use Rattle.inv_ends.specs.model.Phases.{Aim, Base}
use Rattle.inv_ends.specs.model.Phases.Base.{Protect}
use Rattle.inv_ends.specs.model.Phases.HazardAt.{CheckLink}
use Rattle.inv_ends.specs.model.Phases.ProtectAt.{ByHazard}
use Rattle.inv_ends.specs.shapes.Seats.{PhaseFits, Run}
use Rattle.inv_ends.proofs.shapes.Frame.{finds_at}
use Rattle.inv_ends.proofs.model.Facts.{same_number}
use Rattle.inv_ends.specs.rows.Follow.{Loads}
use Rattle.inv_ends.specs.shapes.Eras.{Eras}
use Rattle.inv_ends.specs.model.words.Schemes.{is_wfe}
use Rattle.inv_ends.specs.shapes.Slots.{BaseIn, PhaseIn, Slots, SlotsNeeds, WhyIn}
use Rattle.inv_ends.proofs.shapes.Decode.{eras_step}
use Rattle.inv_ends.proofs.shapes.Kept.{seats_step}
use Rattle.inv_ends.proofs.shapes.Quiet.{noted_step}
use Rattle.inv_ends.proofs.shapes.Ready.{code_ready}
use Rattle.inv_ends.proofs.shapes.SlotKept.{slots_step}
use Rattle.inv_ends.specs.requests.NextDeals.{next_deals}
use Rattle.inv_ends.specs.requests.Standing.{Requests}
use Rattle.inv_ends.specs.requests.Turns.{StandsAfter}
use Rattle.inv_ends.specs.requests.Views.{Deal, View as Asked}
use Rattle.inv_ends.proofs.requests.Falling.{needs_of}
use Rattle.inv_ends.proofs.requests.Hazards.{hazards_step}
use Rattle.inv_ends.proofs.requests.Kept.{requests_step}
use Rattle.inv_ends.proofs.requests.Paced.{paces_step}
use Rattle.inv_ends.proofs.requests.Parents.{parents_step}
use Rattle.inv_ends.specs.rows.Agree.{rows_after}
use Rattle.inv_ends.specs.rows.Chain.{line_after}
use Rattle.inv_ends.specs.rows.Queue.{Line}
use Rattle.inv_ends.specs.rows.Rows.{View}
use Rattle.inv_ends.proofs.rows.Whole.{whole_kept}
use Rattle.inv_ends.specs.covers.Held.{Held}
use Rattle.inv_ends.proofs.covers.Held.{held_kept}
use Rattle.inv_ends.proofs.covers.Kept.{scans_kept}
use Rattle.inv_ends.proofs.covers.Resting.{rests_kept}
use Rattle.inv_all.proofs.Contents.Contents.Kept.{contents_kept}
use Rattle.inv_ends.specs.Helped.{Helped}
use Rattle.inv_all.proofs.Contents.Stands.Kept.{stands_kept}
use Rattle.inv_all.proofs.Contents.Items.Kept.{items_kept}
use Rattle.inv_all.proofs.Contents.Items.Bounds.{bounded_kept}
use Rattle.inv_ends.proofs.Handover.Kept.{handover_kept}
use Rattle.inv_ends.proofs.Links.Kept.{links_kept}
use Rattle.inv_ends.specs.Falls.{RestNeeds}
use Rattle.inv_ends.proofs.Rest.Lasting.{losses_kept}
use Rattle.inv_all.specs.Rounds.{RoundsNeeds}
use Rattle.inv_all.proofs.Rounds.Ending.{rounds_kept, rounds_give}
use Rattle.inv_all.specs.Known.{Known}
use Rattle.inv_all.specs.Inv.{InvKept, InvReady}
use Rattle.inv_all.proofs.Inv.Guards.{held_need, rests_need}
use Rattle.inv_all.proofs.Inv.Ready.{slots_need, eras_need, code_need}
use Rattle.inv_all.proofs.Inv.Rows.{rows_need}
use Rattle.inv_all.proofs.Inv.Whole.{whole_need, contents_need, finds_need, items_need, links_need, handover_need, origins_need}

slots_of : (w : World) (i : ℕ) (v : View) (l : Line) (z : Asked) → Known w v l z → SlotsNeeds w i
slots_of w i v l z a = slots_need w i v a.whole.both.rows (λ work e. finds_need w i v l z work a e)

eras_of : (w : World) (i : ℕ) (v : View) (l : Line) (z : Asked) → Known w v l z → Eras (step w i)
eras_of w i v l z a = eras_step w i a.valid a.seats a.slots a.eras (eras_need w i v z a.valid a.seats a.whole.both.rows a.requests)

held_by : (w : World) (i : ℕ) (v : View) (l : Line) (z : Asked) (wfe : Bool) → is_wfe w.layout.config.scheme ≡ wfe → i < w.layout.config.seats → Known w v l z → Held (step w i) (rows_after w i v)
held_by w i v l z true f b a = let h = handover_kept w i v z f (handover_need w i v l z b a) a.held (a.helped f) in h.0
held_by w i v l z false f b a = held_kept w i v f (held_need w i v l z b a.valid a.seats a.eras a.slots a.whole.both a.requests a.parents a.hazards a.scans a.rests (eras_of w i v l z a)) a.held

helped_by : (w : World) (i : ℕ) (v : View) (l : Line) (z next : Asked) → is_wfe w.layout.config.scheme ≡ true → i < w.layout.config.seats → Known w v l z → next.deal ≡ next_deals w i z.deal → Helped (step w i) (rows_after w i v) next.deal
helped_by w i v l z next f b a d =
    let h = handover_kept w i v z f (handover_need w i v l z b a) a.held (a.helped f) in
    subst (λ (deal : ℕ → Deal). Helped (step w i) (rows_after w i v) deal) (sym d) h.1

slots_next : (w : World) (i : ℕ) (v : View) (l : Line) (z : Asked) → Known w v l z → Slots (step w i)
slots_next w i v l z a = slots_step w i a.valid a.seats a.eras a.slots (slots_of w i v l z a)

-- where rows are published the next link of the head's row is at the reload what it was at the load
follow_again : (w : World) (i : ℕ) (v : View) (l : Line) (z : Asked) (head tail : ℕ) (aim : Aim) (index : ℕ) (root : Root) (steps link : ℕ) → Known w v l z → (w.seat i).phase ≡ Runs (FollowsHead head tail) (Protect aim index root steps (ByHazard (CheckLink link))) → (finds w i == link) ≡ true
follow_again w i v l z head tail aim index root steps link a e =
    let base : Base = Protect aim index root steps (ByHazard (CheckLink link)) in
    let phase : Phase = Runs (FollowsHead head tail) base in
    let r : Run w.layout (FollowsHead head tail) base (w.seat i).post = subst (λ (p : Phase). PhaseFits w.layout (w.seat i).post p) e (a.seats.fits i).phase in
    let d : WhyIn w.layout.config (FollowsHead head tail) × BaseIn w.layout base = subst (λ (p : Phase). PhaseIn w.layout (w.seat i).desk p) e (a.slots.seats i).phase in
    let o : 1 ≤ link = d.1.at_in.0 in
    let x : Loads phase (λ s. w.mem (Row s 0)) = subst (λ (p : Phase). Loads p (λ s. w.mem (Row s 0))) e (a.whole.both.queue.walks i).loads in
    let same : w.mem (Row head 0) ≡ link = x.loaded link (grind (arith, nat_tests, o)) in
    let found : finds w i ≡ w.mem (link_place root) = finds_at w i phase e in
    let next : root ≡ roots.Next head = r.shape.of in
    let there : finds w i ≡ w.mem (Row head 0) = subst (λ (q : Root). finds w i ≡ w.mem (link_place q)) next found in
    rw (there ∙ same) (same_number link)

pub rest_need : (w : World) (i : ℕ) (v : View) (l : Line) (z : Asked) → Known w v l z → RestNeeds w i
rest_need w i v l z a = record {
  seats = a.seats;
  eras = a.eras;
  slots = a.slots;
  lists = slots_of w i v l z a;
  eras_next = eras_of w i v l z a;
  slots_next = slots_next w i v l z a;
  losses = a.losses;
  follows = λ head tail aim index root steps link e. follow_again w i v l z head tail aim index root steps link a e;
}

pub rounds_need : (w : World) (i : ℕ) (v : View) (l : Line) (z : Asked) → i < w.layout.config.seats → Known w v l z → RoundsNeeds w i v l z
rounds_need w i v l z b a = record { origins = origins_need w i v l z b a; both = a.whole.both; items = a.items; bounded = a.bounded; losses = a.losses; slots = a.slots }

pub known_kept : (w : World) (i : ℕ) (v : View) (l : Line) (z next : Asked) → i < w.layout.config.seats → Known w v l z → Requests (step w i) next → next.deal ≡ next_deals w i z.deal → Known (step w i) (rows_after w i v) (line_after w i l) next
known_kept w i v l z next b a q d = record {
  valid = a.valid;
  seats = seats_step w i a.valid a.seats;
  eras = eras_of w i v l z a;
  slots = slots_next w i v l z a;
  noted = noted_step w i (slots_of w i v l z a) a.noted;
  paces = paces_step w i a.valid a.seats a.paces;
  parents = parents_step w i a.seats a.parents;
  hazards = hazards_step w i a.valid a.seats a.hazards;
  requests = q;
  whole = whole_kept w i v l (whole_need w i v l z b a) a.whole;
  scans = scans_kept w i a.scans;
  rests = rests_kept w i (rests_need w i v a.seats a.slots a.whole.both.rows) a.rests;
  held = held_by w i v l z (is_wfe w.layout.config.scheme) refl b a;
  helped = λ f. helped_by w i v l z next f b a d;
  links = links_kept w i v l z next (links_need w i v l z b a) d a.links;
  contents = contents_kept w i v (rows_need w i v l a.seats a.eras a.whole.both) (contents_need w i v l z b a) a.whole.both.rows a.contents;
  bounded = bounded_kept w i v l a.slots a.contents a.whole.both a.items a.bounded;
  stands = stands_kept w i a.seats a.parents a.stands;
  items = items_kept w i v l (items_need w i v l z b a) a.whole.both a.items;
  losses = losses_kept w i a.valid (rest_need w i v l z a) (rounds_give w i v l z (rounds_need w i v l z b a) a.rounds);
  rounds = rounds_kept w i v l z next (rounds_need w i v l z b a) d a.rounds;
}

pub asked_next : (w : World) (i : ℕ) (v : View) (l : Line) (z : Asked) → i < w.layout.config.seats → Known w v l z → StandsAfter (step w i) (next_deals w i z.deal)
asked_next w i v l z b a = requests_step w i z a.valid b a.seats a.paces (needs_of w a.slots) a.requests

pub inv_kept : InvKept
inv_kept w i b a =
    let q = asked_next w i a.rows a.line a.asked b a.known in
    record { rows = rows_after w i a.rows; line = line_after w i a.line; asked = q.0; known = known_kept w i a.rows a.line a.asked q.0 b a.known q.1.facts q.1.deal }

pub inv_ready : InvReady
inv_ready w i b a =
    let k = a.known in
    code_ready w i k.valid b k.seats k.eras k.slots k.noted (code_need w i a.rows a.asked k.valid k.seats k.whole.both.rows k.requests (slots_of w i a.rows a.line a.asked k))
