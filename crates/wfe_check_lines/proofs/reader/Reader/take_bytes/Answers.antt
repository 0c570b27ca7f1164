use Rattle.std.proofs.Common.{Ok, ◌≡◌, ◌-◌, ◌≤◌, ◌∙◌, List, ℕ, length, length-drop, take, drop, refl, ap, subst, arith, take-add, take-append-drop}
use Rattle.std.proofs.lemmas.List.{take_rest}
use Rattle.wfe_check_lines.specs.Reading.{after_bytes}
use Rattle.wfe_check_lines.specs.Stops.{StopsAmid}
use Rattle.wfe_check_lines.proofs.Bytes.{after_both, stops_later}
use Rattle.wfe_check_lines.proofs.reader.Reader.take_bytes.Goals as goal

pub loop-at-init : goal.loop-at-init
loop-at-init g c = record { within = omega arith; some = c.requires.some; goes = λ r is. (r, refl, is) }

pub returns-in-Err : goal.returns-in-Err
returns-in-Err g c r is =
    let (q, e, stands) = c.loop-at.invariant.goes r is in
    let at = c.loop-at.at in
    let bytes : List ℕ = c.args.bytes.now in
    let amid : StopsAmid q (drop at bytes) c.in-Err.stop = subst (λ (bs : List ℕ). StopsAmid q bs c.in-Err.stop) (take_rest bytes at) (c.in-Err.ensures.taken q stands) in
    subst (λ (bs : List ℕ). StopsAmid r bs c.in-Err.stop) (take-append-drop at bytes) (stops_later r q (take at bytes) (drop at bytes) c.in-Err.stop e amid)

pub loop-at-preserved : goal.loop-at-preserved
loop-at-preserved g c =
    let at = c.loop-at.at in
    let count = c.in-Ok.count in
    let bytes : List ℕ = c.args.bytes.now in
    let rest : take (length bytes - at) (drop at bytes) ≡ drop at bytes = take_rest bytes at in
    let taken : count ≤ length (take (length bytes - at) (drop at bytes)) = c.in-Ok.ensures.within.1 in
    record {
      within = omega (arith, taken, ap length rest, length-drop at bytes);
      some = let (r, is) = c.loop-at.invariant.some in let (x, e, stands) = c.in-Ok.ensures.taken r is in (x, stands);
      goes = λ r is.
          let (q, e, stands) = c.loop-at.invariant.goes r is in
          let (x, f, then) = c.in-Ok.ensures.taken q stands in
          let more : after_bytes (Ok q) (take count (drop at bytes)) ≡ Ok x = subst (λ (bs : List ℕ). after_bytes (Ok q) (take count bs) ≡ Ok x) rest f in
          (x, ap (after_bytes (Ok r)) (take-add at count bytes) ∙ after_both r q (take at bytes) (take count (drop at bytes)) e ∙ more, then);
    }
