use Rattle.std.proofs.Common.{◌≡◌, ◌-◌, IfOk, rules, subst, arith}
use Rattle.pb_notify.specs.Words.{IsAtSlot, Finishes, Position}
use Rattle.pb_notify.specs.Steps.{ExitsAs}
use Rattle.pb_notify.proofs.Exits.{at_exit, at_slot, exit_leaves}
use Rattle.pb_notify.proofs.machine.Machine.exit.Goals as goal

pub declare-requires : goal.declare-requires
declare-requires c =
    let did = c.requires.2 in
    let inner : c.in-Running.vm ≡ c.args.self = search rules in
    let finishes : Finishes c.args.self c.finish-finished.result = subst (λ w. Finishes w c.finish-finished.result) inner (rw c.in-Running.is at c.finish-finished.ensures) in
    let taken : c.taken-taken.result ≡ c.args.self.taken = search rules in
    let before : c.taken-taken.result - 1 ≡ c.requires.0.taken = omega (arith, did.moves.taken, taken) in
    let slot : IsAtSlot c.args.self c.slot-slot.result = subst (λ w. IsAtSlot w c.slot-slot.result) inner (rw c.in-Running.is at c.slot-slot.ensures.at) in
    record {
      leaves = exit_leaves c.requires.0 c.args.self c.requires.1 c.finish-finished.result (c.taken-taken.result - 1) did finishes before c.known.ensures.meant;
      at = at_slot c.requires.0 c.args.self c.requires.1 c.finish-finished.result (c.taken-taken.result - 1) did finishes before c.slot-slot.result slot;
    }

pub returns-in-Running-clause-ok : goal.returns-in-Running-clause-ok
returns-in-Running-clause-ok c v r did =
    let inner : c.in-Running.vm ≡ c.args.self = search rules in
    let finishes : Finishes c.args.self c.finish-finished.result = subst (λ w. Finishes w c.finish-finished.result) inner (rw c.in-Running.is at c.finish-finished.ensures) in
    let taken : c.taken-taken.result ≡ c.args.self.taken = search rules in
    let here = at_exit v c.args.self r c.finish-finished.result (c.taken-taken.result - 1) did finishes (omega (arith, did.moves.taken, taken)) in
    subst (λ (w : Position). IfOk c.declare.result (λ d. ExitsAs c.args.observer w d.0 d.1)) here c.declare.ensures.ok
