use Rattle.pb_decode.proofs.OneProgramOrFault.{only_program, only_fault}
use Rattle.pb_decode.proofs.reading.decode_in.Goals as goal

pub returns-clause-program : goal.returns-clause-program
returns-clause-program c =
    let is = c.program_of.ensures in
    only_program c.args.profile c.program_of.result c.args.bytes.now (is.ok, is.profile, is.err)

pub returns-clause-fault : goal.returns-clause-fault
returns-clause-fault c =
    let is = c.program_of.ensures in
    only_fault c.args.profile c.program_of.result c.args.bytes.now (is.ok, is.profile, is.err)
