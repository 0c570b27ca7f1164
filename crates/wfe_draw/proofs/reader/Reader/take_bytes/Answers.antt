use Rattle.std.proofs.Common.{◌<◌, ◌++◌, length, arith, append-nil, subst, sym, take}
use Rattle.wfe_draw.specs.Readers.{Holds}
use Rattle.wfe_draw.proofs.Holding.{bad_at, one_more}
use Rattle.wfe_draw.proofs.reader.Reader.take_bytes.Goals as goal

pub loop-byte-init : goal.loop-byte-init
loop-byte-init c = λ last taken h. subst (λ bytes. Holds last bytes c.args.self.now c.args.scene.now) (sym (append-nil taken)) h

pub returns-in-Err : goal.returns-in-Err
returns-in-Err c last taken h =
    let within : c.loop-byte.byte-index < length c.args.bytes.now = omega arith in
    bad_at taken c.args.bytes.now c.loop-byte.byte-index c.in-Err.stop within (c.in-Err.ensures last (taken ++ take c.loop-byte.byte-index c.args.bytes.now) (c.loop-byte.invariant last taken h))

pub loop-byte-preserved : goal.loop-byte-preserved
loop-byte-preserved c = λ last taken h.
    let within : c.loop-byte.byte-index < length c.args.bytes.now = omega arith in
    subst (λ bytes. Holds last bytes c.take_byte.new.self c.take_byte.new.scene) (one_more taken c.args.bytes.now c.loop-byte.byte-index within)
    (c.in-Ok.ensures last (taken ++ take c.loop-byte.byte-index c.args.bytes.now) (c.loop-byte.invariant last taken h))
