use Rattle.std.proofs.Common.{ℕ, List, refl, subst, sym, ◌∙◌}
use Rattle.pb_keep.specs.Input.{IsLineRead, TakesPiece}
use Rattle.pb_keep.specs.declared.lines.Piece.{Piece}
use Rattle.pb_keep.proofs.Pieces.{read_on, with_part}
use Rattle.pb_keep.proofs.lines.read_line.Goals as goal

pub loop-turn-preserved : goal.loop-turn-preserved
loop-turn-preserved g c =
    (with_part _ _ _ _ _ _ _ c.loop-turn.invariant.0 (subst (λ (p : Piece). TakesPiece p (g.I.LineSource.remaining c.loop-turn.input) (g.I.LineSource.remaining c.take_piece.new.self) c.loop-turn.line.items c.loop-turn.is_long c.take_piece.new.line.items c.take_piece.new.is_long) (c.in_default.ensures.more refl) c.in_ok-piece.ensures.took), read_on (g.I.LineSource.failed c.loop-turn.input) _ c.take_piece.result c.in_ok-piece.piece c.in_ok-piece.was c.take_piece.ensures.fails ∙ c.loop-turn.invariant.1)

pub returns-in-Some-line_after-clause-read : goal.returns-in-Some-line_after-clause-read
returns-in-Some-line_after-clause-read g c =
    let held = c.as_slice.ensures.value in
    let took = subst (λ (l : List ℕ). TakesPiece c.in_ok-piece.piece (g.I.LineSource.remaining c.loop-turn.input) (g.I.LineSource.remaining c.take_piece.new.self) c.loop-turn.line.items c.loop-turn.is_long l c.take_piece.new.is_long) (sym held) c.in_ok-piece.ensures.took in
    subst (λ (l : List ℕ). IsLineRead c.in-Some-line_after.read l (g.I.LineSource.remaining c.args.input.now) (g.I.LineSource.remaining c.take_piece.new.self)) held (c.in-Some-line_after.ensures.read _ _ _ _ _ c.loop-turn.invariant.0 took)
