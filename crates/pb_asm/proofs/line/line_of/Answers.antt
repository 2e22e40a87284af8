use Rattle.pb_asm.proofs.OneSpelling.{read_of}
use Rattle.pb_asm.proofs.line.line_of.Goals as goal

pub returns-clause-of_profile : goal.returns-clause-of_profile
returns-clause-of_profile c = read_of c.args.profile _ c.insn_of.result c.insn_of.ensures
