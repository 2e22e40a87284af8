use Rattle.std.proofs.Common.{arith, length-take, length-drop}
use Rattle.std.proofs.lemmas.List.{length-replicate, take_all}
use Rattle.std.proofs.lemmas.Slice.{put_mid-paste}
use Rattle.pb_kinds.proofs.FlagsByPlace.{set_by_parts}
use Rattle.pb_kinds.proofs.ranges.fill_from.Goals as goal

pub returns : goal.returns
returns c = grind (arith, length-take, length-drop, put_mid-paste, length-replicate, take_all, set_by_parts, c.args.written.now, c.args.low, c.args.bytes, c.fill.new.bytes, c.fill.ensures)
