use Rattle.std.proofs.Common.{arith, rules, Ok}
use Rattle.pb_files.specs.Files.{IsKnownAs}
use Rattle.pb_command.specs.Commands.{IsAllDone}
use Rattle.pb_command.proofs.carry.run_files.Goals as goal

pub returns-then-is_all_done-clause-ran : goal.returns-then-is_all_done-clause-ran
returns-then-is_all_done-clause-ran g c =
    let manifest : IsKnownAs (g.P.Paths.held c.args.paths.now c.args.manifest.now) (Ok c.deref.result.now) = search rules in
    let script : IsKnownAs (g.P.Paths.held c.args.paths.now c.args.script.now) (Ok c.deref-2.result.now) = search rules in
    let done : IsAllDone c.in_ok-ran.ran = c.if-is_all_done.ensures.0 (search rules) in
    record {
      left = c.in_ok-ran.ran;
      all_done = done;
      ran = grind (arith, c.deref.result.now, c.deref-2.result.now, c.in_ok-ran.ensures);
    }
