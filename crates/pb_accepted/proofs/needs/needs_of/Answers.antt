use Rattle.std.proofs.Common.{arith}
use Rattle.pb_accepted.proofs.CallsCounted.{reads_at, writes_at, no_reads, no_writes}
use Rattle.pb_accepted.proofs.needs.needs_of.Goals as goal

pub loop-slot-init : goal.loop-slot-init
loop-slot-init c = record { few = omega arith; few_writes = omega arith; reads = omega arith; writes = omega arith }

pub loop-slot-preserved : goal.loop-slot-preserved
loop-slot-preserved c = grind (arith, reads_at, writes_at, c.loop-slot.slot, c.args.program.now.insns, c.needs_at-needs.ensures.reads, c.at.ensures, c.needs_at-needs.ensures.writes, c.loop-slot.invariant.few, c.loop-slot.invariant.few_writes, c.needs_at-needs.ensures.most, c.needs_at-needs.ensures.most_writes, c.loop-slot.invariant.reads, c.loop-slot.invariant.writes)

pub returns : goal.returns
returns c = grind (arith, no_reads, no_writes, c.args.program.now.insns, c.loop-slot.slot, c.loop-slot.invariant.reads, c.loop-slot.invariant.writes)
