use Rattle.std.proofs.Common.{arith}
use Rattle.pb_decode.proofs.OneProgramOrFault.{whole_none, is_program, never_refused}
use Rattle.pb_decode.proofs.reading.program_of.Goals as goal

pub unreachable-requires : goal.unreachable-requires
unreachable-requires c = grind (arith, whole_none, is_program, never_refused, c.args.profile, c.args.bytes.now, c.whole_fault.ensures, c.in_default.is, c.in_ok-insns_of.field-0.items, c.in_ok-insns_of.ensures.ok, c.in-Err-NotInRange.field-0-is, c.in-Err-NotInRange.ensures.err)
