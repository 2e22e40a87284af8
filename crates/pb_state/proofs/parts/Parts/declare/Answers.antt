use Rattle.std.proofs.Common.{◌≡◌, true, arith}
use Rattle.std.proofs.lemmas.Grind.{common_steps}
use Rattle.pb_state.specs.Words.{cells_of, is_its}
use Rattle.pb_state.specs.Cells.{cells_in}
use Rattle.pb_state.proofs.ItsDeclaration.{may_be_its, script_writes, run_writes_all}
use Rattle.pb_state.proofs.parts.Parts.declare.Goals as goal
use Rattle.pb_state.proofs.parts.Parts.declare.Goals.{in-None, in-Some}

pub returns-clause-taken : goal.returns-clause-taken
returns-clause-taken g c =
    let f = c.requires.found in
    let its : is_its c.args.self.now.observers f.0.work c.args.by.start.0 f.0.reads c.args.what.now ≡ true = grind (arith, common_steps) in
    let shared = c.in_ok-what.ensures in
    let cells : cells_in c.match-acknowledgment.cells ≡ cells_of c.args.self.now.observers f.0.work c.args.by.start.0 c.args.what.now = grind (arith, in-None, script_writes, in-Some, run_writes_all, c.args.self.now.observers, c.args.what.now, c.match-acknowledgment.branch, c.args.by.start) in
    grind (arith, common_steps, may_be_its, c.args.self.now.observers, c.args.what.now, c.requires.allowed)
