use Rattle.std.proofs.Common.{◌≡◌, ◌<◌, ◌≤◌, ◌-◌, length, Less, Greater, HoldsAt}
use Rattle.pb_memtablet.proofs.sorted.search_from.Given as goal

-- the key is above what stands before the low end, and below what stands at the high one
abbrev pub invariant-loop-low : goal.invariant-loop-low
invariant-loop-low g l = record {
  ordered : l.low ≤ l.high;
  within : l.high ≤ length l.entries;
  next : l.low < l.high → (l.low ≤ l.next) × (l.next < l.high);
  below : 0 < l.low → HoldsAt (λ e. g.K.Ord.cmp l.key e.0 ≡ Greater) l.entries (l.low - 1);
  above : l.high < length l.entries → HoldsAt (λ e. g.K.Ord.cmp l.key e.0 ≡ Less) l.entries l.high;
}

abbrev pub decreases-loop-low : goal.decreases-loop-low
decreases-loop-low g l = l.high - l.low
