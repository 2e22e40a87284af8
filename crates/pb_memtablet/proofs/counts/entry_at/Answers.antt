use Rattle.std.proofs.Common.{◌≡◌, ◌+◌, ◌*◌, ap, ◌∙◌, drop, arith}
use Rattle.std.proofs.lemmas.List.{drop-drop}
use Rattle.pb_memtablet.specs.declared.counts.TheConstants.{BLOCK}
use Rattle.pb_memtablet.proofs.Counted.{first_count, past_block}
use Rattle.pb_memtablet.proofs.counts.entry_at.Goals as goal

pub loop-block-preserved : goal.loop-block-preserved
loop-block-preserved g c =
    let ns = c.args.counts.now in
    let i = c.loop-block.block in
    let cs = drop (i * BLOCK) c.args.chunks.now in
    let first = first_count ns cs i 0 c.loop-block.invariant.counts c.loop-block-test.true in
    let behind : drop BLOCK cs ≡ drop ((i + 1) * BLOCK) c.args.chunks.now = drop-drop BLOCK (i * BLOCK) c.args.chunks.now ∙ ap (λ n. drop n c.args.chunks.now) {x = i * BLOCK + BLOCK} {y = (i + 1) * BLOCK} (omega arith) in
    grind (arith, past_block, c.if-left-count.false, c.loop-block.invariant.found)
