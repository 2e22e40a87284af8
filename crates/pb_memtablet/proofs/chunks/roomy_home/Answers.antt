use Rattle.std.proofs.Common.{◌≡◌, ◌+◌, suc, arith}
use Rattle.pb_memtablet.proofs.Pieces.{home-second, home-first}
use Rattle.pb_memtablet.proofs.chunks.roomy_home.Goals as goal

pub returns-then-does_start_by-clause-home : goal.returns-then-does_start_by-clause-home
returns-then-does_start_by-clause-home g c =
    let i = c.home_of-home.result in
    let one : i + 1 ≡ suc i = omega arith in
    let two : i + 2 ≡ suc (suc i) = omega arith in
    grind (arith, home-second, g.met.K.Ord.total, c.index-2.ensures, c.part_chunk.ensures.after, c.deref-3.ensures.value, c.does_start_by.ensures, c.if-does_start_by.true)

pub returns-else-does_start_by-clause-home : goal.returns-else-does_start_by-clause-home
returns-else-does_start_by-clause-home g c =
    let i = c.home_of-home.result in
    let b = c.index-2.result.now in
    let one : i + 1 ≡ suc i = omega arith in
    grind (arith, home-first, c.index-2.ensures, g.met.K.Ord.total, c.part_chunk.ensures.before, c.deref-3.ensures.value, c.does_start_by.ensures, c.if-does_start_by.false)
