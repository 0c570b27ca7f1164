-- All that is known holds at the start, and when a call begins.
use Rattle.std.proofs.Common.{ℕ, ◌≡◌, true, false, sym, subst, ap}
use Rattle.inv_ends.specs.model.words.Place.{is_valid}
use Rattle.inv_ends.specs.model.words.declared.layout.Layout.{Layout}
use Rattle.inv_ends.specs.model.defs.declared.call.Call.{Call}
use Rattle.inv_ends.specs.model.Locals.{may_begin}
use Rattle.inv_ends.proofs.model.Facts.{first_of, rest_of}
use Rattle.inv_ends.specs.model.World.{World, start, begin, is_busy, is_here, may_start}
use Rattle.inv_ends.specs.requests.Standing.{Requests}
use Rattle.inv_ends.specs.requests.Views.{Deal, View as Asked}
use Rattle.inv_ends.specs.requests.Views.Deal.{Quiet}
use Rattle.inv_ends.specs.rows.Queue.{Line}
use Rattle.inv_ends.specs.rows.Rows.{View}
use Rattle.inv_ends.specs.covers.Rests.{SpanRests}
use Rattle.inv_ends.specs.Helped.{Helped}
use Rattle.inv_ends.proofs.shapes.Decode.{eras_start, eras_begin}
use Rattle.inv_ends.proofs.shapes.Kept.{seats_start, seats_begin}
use Rattle.inv_ends.proofs.shapes.Quiet.{noted_start, noted_begin}
use Rattle.inv_ends.proofs.shapes.SlotKept.{slots_start, slots_begin}
use Rattle.inv_ends.proofs.requests.Hazards.{hazards_start, hazards_begin}
use Rattle.inv_ends.proofs.requests.Kept.{requests_start, requests_begin}
use Rattle.inv_ends.proofs.requests.Paced.{paces_start, paces_begin}
use Rattle.inv_ends.proofs.requests.Parents.{parents_start, parents_begin}
use Rattle.inv_ends.specs.rows.Agree.{first_rows}
use Rattle.inv_ends.specs.rows.Chain.{first_line}
use Rattle.inv_ends.proofs.rows.Whole.{whole_start, whole_begin}
use Rattle.inv_ends.proofs.covers.Begun.{held_start, held_begin}
use Rattle.inv_ends.proofs.covers.Kept.{scans_start, scans_begin}
use Rattle.inv_ends.proofs.covers.Resting.{rests_start, rests_begin, spans_rest}
use Rattle.inv_all.proofs.Contents.Contents.Begun.{contents_start, contents_begin}
use Rattle.inv_all.proofs.Contents.Stands.Kept.{stands_start, stands_begin}
use Rattle.inv_all.proofs.Contents.Items.Begun.{items_start, items_begin}
use Rattle.inv_all.proofs.Contents.Items.Bounds.{bounded_start, bounded_begin}
use Rattle.inv_ends.proofs.Handover.Begun.{handover_start, handover_begin}
use Rattle.inv_ends.proofs.Links.Kept.{links_start, links_begin}
use Rattle.inv_ends.proofs.Rest.Lasting.{losses_start, losses_begin}
use Rattle.inv_all.proofs.Rounds.Ending.{rounds_start, rounds_begin}
use Rattle.inv_all.specs.Known.{Known}
use Rattle.inv_all.specs.Inv.{InvStart, InvBegin}
use Rattle.inv_all.proofs.Inv.Ready.{here_few}
use Rattle.inv_all.proofs.Inv.Shown.{shown_span}

pub known_start : (layout : Layout) (z : Asked) → is_valid layout ≡ true → Requests (start layout) z → z.deal ≡ (λ k. Quiet) → Known (start layout) (first_rows layout) (first_line layout) z
known_start layout z d q e = record {
  valid = d;
  seats = seats_start layout d;
  eras = eras_start layout d;
  slots = slots_start layout;
  noted = noted_start layout;
  paces = paces_start layout;
  parents = parents_start layout;
  hazards = hazards_start layout;
  requests = q;
  whole = whole_start layout d;
  scans = scans_start layout;
  rests = rests_start layout;
  held = held_start layout (first_rows layout);
  helped = λ f. subst (λ (deal : ℕ → Deal). Helped (start layout) (first_rows layout) deal) (sym e) (handover_start layout (first_rows layout));
  links = links_start layout z (λ k. ap (λ (deal : ℕ → Deal). deal k) e);
  contents = contents_start layout d;
  bounded = bounded_start layout;
  stands = stands_start layout;
  items = items_start layout d;
  losses = losses_start layout;
  rounds = rounds_start layout z d (λ k. ap (λ (deal : ℕ → Deal). deal k) e);
}

pub inv_start : InvStart
inv_start layout d =
    let q = requests_start layout d in
    record { rows = first_rows layout; line = first_line layout; asked = q.0; known = known_start layout q.0 d q.1.facts q.1.deal }

-- under 2GE nothing stands where no interval does
spans_of : (w : World) (i : ℕ) (v : View) (l : Line) (z : Asked) → Known w v l z → SpanRests (w.seat i).post
spans_of w i v l z k = spans_rest w v i (k.seats.fits i).post.layout (λ h. shown_span w i k.valid k.eras) (λ h. k.held)

begun_known : (w : World) (i : ℕ) (call : Call) (v : View) (l : Line) (z next : Asked) → is_busy w i ≡ false → is_here w i ≡ true → may_begin w.layout.config call ≡ true → Known w v l z → Requests (begin w i call) next → next.deal ≡ z.deal → Known (begin w i call) v l next
begun_known w i call v l z next b h m k q e = record {
  valid = k.valid;
  seats = seats_begin w i call k.valid k.seats;
  eras = eras_begin w i call k.valid k.eras;
  slots = slots_begin w i call k.valid m k.slots;
  noted = noted_begin w i call (here_few w i v k.whole.both.rows h) k.noted;
  paces = paces_begin w i call k.valid k.seats k.paces;
  parents = parents_begin w i call k.parents;
  hazards = hazards_begin w i call k.valid k.seats k.hazards;
  requests = q;
  whole = whole_begin w i call v l b h k.whole;
  scans = scans_begin w i call k.scans;
  rests = rests_begin w i call b (spans_of w i v l z k) k.rests;
  held = held_begin w i call v k.held;
  helped = λ f. subst (λ (deal : ℕ → Deal). Helped (begin w i call) v deal) (sym e) (handover_begin w i call v z.deal (k.helped f));
  links = links_begin w i call v l z next b k.requests e k.links;
  contents = contents_begin w i call v m k.contents;
  bounded = bounded_begin w i call k.bounded;
  stands = stands_begin w i call k.stands;
  items = items_begin w i call v l k.items;
  losses = losses_begin w i call k.losses;
  rounds = rounds_begin w i call l z next b k.requests e k.rounds;
}

pub known_begin : (w : World) (i : ℕ) (call : Call) (v : View) (l : Line) (z next : Asked) → is_busy w i ≡ false → may_start w i call ≡ true → Known w v l z → Requests (begin w i call) next → next.deal ≡ z.deal → Known (begin w i call) v l next
known_begin w i call v l z next b f k q e = begun_known w i call v l z next b (first_of (is_here w i) (may_begin w.layout.config call) f) (rest_of (is_here w i) (may_begin w.layout.config call) f) k q e

pub inv_begin : InvBegin
inv_begin w i call b m a =
    let k = a.known in
    let q = requests_begin w i call a.asked k.valid b k.seats k.requests in
    record { rows = a.rows; line = a.line; asked = q.0; known = known_begin w i call a.rows a.line a.asked q.0 b m k q.1.facts q.1.deal }
