use Rattle.std.proofs.Common.{subst}
use Rattle.pb_keep.specs.Input.{TakesPiece}
use Rattle.pb_keep.specs.declared.lines.Piece.{Piece}
use Rattle.pb_keep.proofs.Pieces.{with_last}
use Rattle.pb_keep.proofs.lines.line_after.Goals as goal

pub returns-in-Last-clause-read : goal.returns-in-Last-clause-read
returns-in-Last-clause-read c from between to before was_long so_far took =
    with_last _ _ _ _ _ _ _ so_far (subst (λ (p : Piece). TakesPiece p between to before was_long c.args.line.now c.args.is_long) c.in-Last.is took) c.if-is_long.true
