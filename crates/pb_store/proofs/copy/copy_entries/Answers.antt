use Rattle.std.proofs.Common.{arith, ◌+◌}
use Rattle.pb_store.proofs.Copied.{copied_entry, copied_entries, none_left, stands_there, left_behind, fewer_entries}
use Rattle.pb_store.proofs.copy.copy_entries.Goals as goal

pub loop-slot-smaller : goal.loop-slot-smaller
loop-slot-smaller g c =
    fewer_entries (g.T.Tablet.contents c.args.from.now).entries c.loop-slot.after c.loop-slot.invariant.place c.loop-slot.invariant.left (c.in-Some.slot, c.in-Some.item) c.in-Some.ensures.entry

pub loop-slot-preserved : goal.loop-slot-preserved
loop-slot-preserved g c =
    let m = (g.T.Tablet.contents c.args.from.now).entries in
    let i = c.loop-slot.invariant.place in
    record {
      place = i + 1;
      left = left_behind m c.loop-slot.after i c.loop-slot.invariant.left (c.in-Some.slot, c.in-Some.item) c.in-Some.ensures.entry;
      copied = copied_entry m i (g.T.Tablet.contents c.loop-slot.to) (g.T.Tablet.contents c.put_in.new.tablet) c.in-Some.slot c.in-Some.item c.loop-slot.invariant.copied
          (stands_there m c.loop-slot.after i c.loop-slot.invariant.left (c.in-Some.slot, c.in-Some.item) c.in-Some.ensures.entry) c.in_ok-put_in.ensures;
    }

pub returns : goal.returns
returns g c = grind (arith, copied_entries, none_left, g.T.Tablet.contents, c.args.from.now, c.loop-slot.invariant.place, c.loop-slot.to, c.loop-slot.invariant.copied, c.loop-slot.after, c.loop-slot.invariant.left, c.in_default.ensures.entry)
