-- A step leaves a call fewer steps also where more of its rounds are counted as lost.
use Rattle.std.proofs.Common.{ℕ, ◌≡◌, ◌≤◌, ◌+◌, ◌==◌, true, false, refl, arith}
use Rattle.law_held.specs.inv.Known.{Known}
use Rattle.law_held.specs.inv.ends.Falls.{RestNeeds}
use Rattle.law_held.specs.inv.ends.Losses.{Losses}
use Rattle.law_held.specs.inv.model.Locals.{Local}
use Rattle.law_held.specs.inv.model.Rest.{rest, rest_of}
use Rattle.law_held.specs.inv.model.World.{World, is_busy, step}
use Rattle.law_held.specs.inv.model.words.Place.Place.{Clock}
use Rattle.law_held.specs.inv.model.words.declared.config.Config.{Config}
use Rattle.law_held.specs.inv.requests.Views.{View as Asked}
use Rattle.law_held.specs.inv.rows.Queue.{Line}
use Rattle.law_held.specs.inv.rows.Rows.{View}
use Rattle.law_held.specs.inv.shapes.Eras.{Eras}
use Rattle.law_held.specs.inv.shapes.Slots.{Slots}
use Rattle.law_held.proofs.inv.Inv.Kept.{rest_need}
use Rattle.law_held.proofs.inv.ends.Rest.Kept.{rest_falls}
use Rattle.law_held.proofs.inv.ends.Rest.Small.{rest_stays}
use Rattle.law_reasons.proofs.Repeats.Shift.{Alike, shifted, shifted_eras, shifted_seats, shifted_slots, step_alike}

next_eras : (w : World) (i : ℕ) (n : ℕ → ℕ) → Eras (step w i) → Eras (step (shifted w n) i)
next_eras w i n e = record {
  some = e.some;
  most = e.most;
  words = e.words;
  seats = λ k.
      let a = step_alike w i k n in
      record { post = rw a.post (e.seats k).post; phase = rw (a.post, a.phase) (e.seats k).phase };
}

next_slots : (w : World) (i : ℕ) (n : ℕ → ℕ) → Slots (step w i) → Slots (step (shifted w n) i)
next_slots w i n s = record {
  words = s.words;
  seats = λ k.
      let a = step_alike w i k n in
      record { post = rw a.post (s.seats k).post; list = rw a.desk (s.seats k).list; phase = rw (a.desk, a.phase) (s.seats k).phase };
}

shifted_rest : (w : World) (i : ℕ) (v : View) (l : Line) (z : Asked) (n : ℕ → ℕ) → Known w v l z → Losses (shifted w n) → RestNeeds (shifted w n) i
shifted_rest w i v l z n k f =
    let r = rest_need w i v l z k in
    record { seats = shifted_seats w n r.seats; eras = shifted_eras w n r.eras; slots = shifted_slots w n r.slots; lists = r.lists; eras_next = next_eras w i n r.eras_next; slots_next = next_slots w i n r.slots_next; losses = f; follows = r.follows }

rest_alike : (c : Config) (clock : ℕ) (one two : Local) → Alike one two → rest_of c clock one ≡ rest_of c clock two
rest_alike c clock one two a = rw (a.phase, a.post, a.desk, a.rounds) refl

pub counted_falls : (w : World) (i : ℕ) (v : View) (l : Line) (z : Asked) (n : ℕ → ℕ) → Known w v l z → Losses (shifted w n) → is_busy (step w i) i ≡ true → rest (shifted (step w i) n) i + 1 ≤ rest (shifted w n) i
counted_falls w i v l z n k f b =
    let a = step_alike w i i n in
    let e : rest (step (shifted w n) i) i ≡ rest (shifted (step w i) n) i = rest_alike w.layout.config ((step w i).mem Clock) ((step (shifted w n) i).seat i) ((shifted (step w i) n).seat i) a in
    let h = rest_falls (shifted w n) i k.valid (shifted_rest w i v l z n k f) (rw a.phase b) in
    omega (arith, e, h)

pub counted_stays : (w : World) (i k : ℕ) (n : ℕ → ℕ) → (k == i) ≡ false → w.mem Clock ≤ (step w i).mem Clock → rest (shifted (step w i) n) k ≤ rest (shifted w n) k
counted_stays w i k n d h =
    let a = step_alike w i k n in
    let e : rest (step (shifted w n) i) k ≡ rest (shifted (step w i) n) k = rest_alike w.layout.config ((step w i).mem Clock) ((step (shifted w n) i).seat k) ((shifted (step w i) n).seat k) a in
    let g = rest_stays (shifted w n) i k d h in
    omega (arith, e, g)
