use Rattle.std.proofs.Common.{arith, refl}
use Rattle.std.proofs.lemmas.Option.{slice_get_read}
use Rattle.pb_state.proofs.VersionOrder.{latest_decides}
use Rattle.pb_state.proofs.carry_over.comes_last.Goals as goal

pub returns-in-len1-up : goal.returns-in-len1-up
returns-in-len1-up c =
    let some = c.in-len1-up.len_at_least in
    let there = slice_get_read c.args.before.now _ _ c.latest-item.result refl (omega (arith, some)) c.latest-item.is in
    latest_decides c.args.before.now c.latest-item.result c.args.next.now c.comes_before.result c.requires.above (c.requires.latest c.latest-item.result there) c.comes_before.ensures
