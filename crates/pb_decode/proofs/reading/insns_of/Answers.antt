use Rattle.std.proofs.Common.{arith, ◌<◌, length, refl}
use Rattle.pb_decode.proofs.OneProgramOrFault.{one_more, fault_at}
use Rattle.pb_decode.proofs.reading.insns_of.Goals as goal

pub returns-in-Err-clause-err : goal.returns-in-Err-clause-err
returns-in-Err-clause-err c =
    let some : 0 < length c.loop-rest.rest.now = grind arith in
    rw c.fault_at.ensures (c.in-Err.code, refl, fault_at c.args.profile c.args.bytes.now c.loop-rest.rest.now c.loop-rest.insns.items c.in-Err.code _ c.loop-rest.invariant.0 c.loop-rest.invariant.1 some c.in-Err.ensures refl)

pub loop-rest-smaller : goal.loop-rest-smaller
loop-rest-smaller c =
    let some : 0 < length c.loop-rest.rest.now = grind arith in
    (one_more c.args.profile c.args.bytes.now c.loop-rest.rest.now c.in-Ok.found.1.now c.loop-rest.insns.items c.in-Ok.found.0 (λ i. (c.type_inv.bytes i).fits) c.loop-rest.invariant.0 c.loop-rest.invariant.1 c.loop-rest.invariant.2 some c.in-Ok.ensures).3

pub loop-rest-preserved : goal.loop-rest-preserved
loop-rest-preserved c =
    let some : 0 < length c.loop-rest.rest.now = grind arith in
    let m = one_more c.args.profile c.args.bytes.now c.loop-rest.rest.now c.in-Ok.found.1.now c.loop-rest.insns.items c.in-Ok.found.0 (λ i. (c.type_inv.bytes i).fits) c.loop-rest.invariant.0 c.loop-rest.invariant.1 c.loop-rest.invariant.2 some c.in-Ok.ensures in
    rw c.in_ok-push.ensures.items (m.0, m.1, m.2)
