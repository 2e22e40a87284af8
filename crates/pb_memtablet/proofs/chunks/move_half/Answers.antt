use Rattle.std.proofs.Common.{◌≡◌, length, arith, ◌∙◌, reverse}
use Rattle.pb_memtablet.specs.declared.chunks.TheConstants.{HALF}
use Rattle.pb_memtablet.proofs.Homes.{front_of, back_of}
use Rattle.pb_memtablet.proofs.chunks.move_half.Goals as goal

pub returns-clause-kept : goal.returns-clause-kept
returns-clause-kept g c =
    let l = c.loop-chunk in
    let n : HALF ≡ length l.chunk.items = omega (arith, l.chunk.ok.0) in
    front_of l.chunk.items (reverse l.empty.items) c.args.chunk.now.items HALF l.invariant.entries n

pub returns-clause-moved : goal.returns-clause-moved
returns-clause-moved g c =
    let l = c.loop-chunk in
    let n : HALF ≡ length l.chunk.items = omega (arith, l.chunk.ok.0) in
    c.reverse.ensures.items ∙ back_of l.chunk.items (reverse l.empty.items) c.args.chunk.now.items HALF l.invariant.entries n
