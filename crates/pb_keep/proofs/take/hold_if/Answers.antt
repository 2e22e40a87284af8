use Rattle.std.proofs.Common.{◌≡◌, ◌∷◌, ap, ◌∙◌, arith}
use Rattle.pb_parse.specs.ScriptLines.{operations_left}
use Rattle.pb_requests.specs.declared.request.Request.TheVariants.{ChangeIf}
use Rattle.pb_keep.specs.Words.{cut}
use Rattle.pb_keep.proofs.Conditions.{few_bytes, goes_on, operations_shorter}
use Rattle.pb_keep.proofs.Holding.{fits_if}
use Rattle.pb_keep.proofs.take.hold_if.Goals as goal

pub unreachable-requires : goal.unreachable-requires
unreachable-requires g c =
    goes_on c.args.line.now c.first_operation.result.0.now c.args.condition.now c.first_operation.result.1 c.requires.read c.first_operation.ensures c.in-None.is

pub push-requires-clause-fits : goal.push-requires-clause-fits
push-requires-clause-fits g c =
    let line = c.args.line.now in
    let first = c.first_operation.result.0.now in
    let few = few_bytes line (ChangeIf c.args.condition.now) c.requires.read in
    let parts : cut line ≡ first ∷ cut c.in-Some.operations.now = c.first_operation.ensures ∙ ap (λ o. first ∷ operations_left o) c.in-Some.is in
    let shorter = operations_shorter line first c.in-Some.operations.now parts in
    fits_if c.refuses_changes-is_full.result c.args.waiting.now c.args.state.now c.args.condition.now c.in-Some.operations.now c.in_ok-item-in-Some.item c.requires.first (omega (arith, few, shorter)) c.in_ok-item-in-Some.ensures
