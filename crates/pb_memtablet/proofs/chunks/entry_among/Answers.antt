use Rattle.std.proofs.Common.{◌≡◌, ◌<◌, ◌+◌, ◌-◌, suc, Some, length, drop, slice_get, arith, sym, ap, ◌∙◌}
use Rattle.pb_memtablet.specs.Chunks.{chunk_entries}
use Rattle.pb_memtablet.proofs.Homes.{get_here, get_later}
use Rattle.pb_memtablet.proofs.Pieces.{chunk_entries-from}
use Rattle.pb_memtablet.proofs.chunks.entry_among.Goals as goal

pub returns-then-left-len : goal.returns-then-left-len
returns-then-left-len g c =
    let cs = c.args.chunks.now in
    let i = c.loop-chunk.chunk-index in
    let m = c.chunk-item.result in
    let x = c.index.result.now in
    let lt : c.loop-chunk.left < length m.items = omega (arith, m.ok.0) in
    ap Some c.index.ensures
    ∙ sym (get_here m.items (chunk_entries (drop (suc i) cs)) c.loop-chunk.left x lt)
    ∙ ap (λ es. slice_get es c.loop-chunk.left) (sym (chunk_entries-from cs i m c.loop-chunk-test.true c.chunk-item.is))
    ∙ c.loop-chunk.invariant

pub loop-chunk-preserved : goal.loop-chunk-preserved
loop-chunk-preserved g c =
    let cs = c.args.chunks.now in
    let i = c.loop-chunk.chunk-index in
    let m = c.chunk-item.result in
    let left = c.loop-chunk.left in
    let next : i + 1 ≡ suc i = omega arith in
    let rest : left ≡ length m.items + (left - c.len-left.result) = omega (arith, m.ok.0) in
    ap (λ n. slice_get (chunk_entries (drop n cs)) (left - c.len-left.result)) next
    ∙ sym (get_later m.items (chunk_entries (drop (suc i) cs)) left (left - c.len-left.result) rest)
    ∙ ap (λ es. slice_get es left) (sym (chunk_entries-from cs i m c.loop-chunk-test.true c.chunk-item.is))
    ∙ c.loop-chunk.invariant
