use Rattle.std.proofs.lemmas.Grind.{common_steps}
use Rattle.std.proofs.Common.{◌≡◌, ◌<◌, suc, set, length, arith, sym, ap, ◌∙◌, subst, All, insert, IfSome}
use Rattle.std.proofs.lemmas.List.{take-append-drop}
use Rattle.std.proofs.lemmas.List.Elements.{All-pop, All-set}
use Rattle.pb_memtablet.specs.declared.chunks.TheConstants.{HALF}
use Rattle.pb_memtablet.specs.Chunks.{chunk_entries, IsChunk, IsSpare}
use Rattle.pb_memtablet.proofs.Pieces.{All-insert, chunk_entries-parted, drop-parted}
use Rattle.pb_memtablet.proofs.chunks.part_chunk.Goals as goal

-- the chunks after the call
parted : (g : _) (c : goal.After-unwrap g) → c.insert.new.self.items ≡ insert (set c.args.chunks.now.items c.args.place c.move_half.new.chunk) (suc c.args.place) c.move_half.new.empty
parted g c = grind arith

pub returns-clause-entries : goal.returns-clause-entries
returns-clause-entries g c =
    let lt : c.args.place < length c.args.chunks.now.items = omega (arith, c.args.chunks.now.ok.0) in
    let old = c.index_mut.result.now in
    let halves = c.move_half.ensures in
    ap chunk_entries (parted g c)
    ∙ chunk_entries-parted c.args.chunks.now.items c.args.place c.move_half.new.chunk c.move_half.new.empty old lt
    (rw (halves.kept, halves.moved, take-append-drop HALF old.items) (ap (λ m. m.items) c.index_mut.ensures.value))

pub returns-clause-after : goal.returns-clause-after
returns-clause-after g c = grind (arith, parted, drop-parted, c.args.place, c.args.chunks.now.items, c.insert.new.self.items, c.move_half.new.chunk, c.move_half.new.empty)

pub returns-clause-each : goal.returns-clause-each
returns-clause-each g c =
    let lt : c.args.place < length c.args.chunks.now.items = omega (arith, c.args.chunks.now.ok.0) in
    let old = c.index_mut.result.now in
    let chunk : IsChunk old = rw c.index_mut.ensures.value (c.requires.each c.args.place old lt) in
    let spare : IsSpare c.unwrap-half.result = subst (λ r. IfSome r IsSpare) c.unwrap-half.ensures (All-pop IsSpare _ _ c.pop.result c.pop.ensures.items c.requires.spares).1 in
    subst (All IsChunk) (sym (parted g c))
    (All-insert IsChunk _ (suc c.args.place) c.move_half.new.empty (record { filled = omega arith; fits = omega arith; roomy = omega arith })
    (All-set IsChunk c.args.chunks.now.items c.args.place c.move_half.new.chunk (record { filled = omega arith; fits = omega arith; roomy = omega arith }) c.requires.each))

pub returns-clause-spares : goal.returns-clause-spares
returns-clause-spares g c = (All-pop IsSpare _ _ c.pop.result c.pop.ensures.items c.requires.spares).0

pub move_half-requires-clause-full : goal.move_half-requires-clause-full
move_half-requires-clause-full g c = grind arith

pub move_half-requires-clause-empty : goal.move_half-requires-clause-empty
move_half-requires-clause-empty g c = grind arith

pub returns-clause-before : goal.returns-clause-before
returns-clause-before g c = grind (arith, common_steps)

pub returns-clause-halves : goal.returns-clause-halves
returns-clause-halves g c = grind (arith, common_steps)
