use Rattle.std.proofs.Common.{◌≡◌, Bool, true, List, None, Some, T, sym, ◌∙◌, subst, suc, get_or, Ordering, Less, Greater}
use Rattle.std.specs.Ordering.{is_lt}
use Rattle.std.specs.Cmp.{IsTotalOrder}
use Rattle.std.specs.List.{last_or}
use Rattle.std.specs.FinMap.{find}
use Rattle.std.specs.FinMap.Entries.{is_sorted}
use Rattle.pb_memtablet.specs.Words.{Slot, slot_cmp, slot_cmp_total}
use Rattle.pb_memtablet.specs.Chunks.{entries_up_to}
use Rattle.pb_memtablet.proofs.Spots.{true_holds, is_less, find-gap, gap_first, gap_after, cut_above}
use Rattle.pb_memtablet.proofs.Cuts.{last_up_to_is, none_up_to}
use Rattle.pb_memtablet.proofs.slab_tablet.are_free.Goals as goal
use Rattle.pb_base.proofs.Logic.{turned_order}

-- q is at most k, since what is above k is above q
module _ {K X : Type 0} (R : K → K → Ordering) (o : IsTotalOrder R) (es : List (K × X)) (k q : K) (s : T (is_sorted R es)) (low : (x : K) → R k x ≡ Less → R q x ≡ Less) where
  -- where no entry stands up to k
  free_below : None ≡ last_or None (entries_up_to R k es) → find R q es ≡ None
  free_below p = find-gap o es q 0 s (gap_first o es q (λ d lt. low (get_or es 0 d).0 (cut_above o es k 0 d (none_up_to R o es k s p) lt)))

  -- where the last one up to k is below q
  free_after : (e : K × X) → Some e ≡ last_or None (entries_up_to R k es) → R q e.0 ≡ Greater → find R q es ≡ None
  free_after e p above =
      let last = last_up_to_is R o es k s e p in
      find-gap o es q (suc last.place) s
      (gap_after o es q last.place e s last.within (subst (λ (x : K × X). R q x.0 ≡ Greater) last.is above) (λ d more. low (get_or es (suc last.place) d).0 (cut_above o es k (suc last.place) d last.cut more)))

-- what both tests show of three slots
below : (a b : Slot) (r : Ordering) (t : Bool) → r ≡ slot_cmp a b → t ≡ is_lt r → t ≡ true → slot_cmp a b ≡ Less
below a b r t r_is t_is holds = sym r_is ∙ is_less r t t_is holds

pub returns-in-Some-clause-first : goal.returns-in-Some-clause-first
returns-in-Some-clause-first c t =
    let first = c.args.first.now in
    let second = c.args.second.now in
    let apart = below first second c.cmp.result c.is_lt.result c.cmp.ensures c.is_lt.ensures c.if-not-is_lt.false in
    let last = below c.in-Some.last first c.cmp-in-Some.result c.is_lt-in-Some.result c.cmp-in-Some.ensures c.is_lt-in-Some.ensures t in
    free_after slot_cmp slot_cmp_total c.args.keys.now.entries second first (true_holds _ c.requires) (λ x lt. slot_cmp_total.trans first second x apart lt) (c.in-Some.last, c.in-Some.field-0-1) (sym c.in-Some.is ∙ c.last_up_to.ensures)
    (turned_order slot_cmp_total c.in-Some.last first Less last)

pub returns-in-Some-clause-second : goal.returns-in-Some-clause-second
returns-in-Some-clause-second c t =
    let first = c.args.first.now in
    let second = c.args.second.now in
    let apart = below first second c.cmp.result c.is_lt.result c.cmp.ensures c.is_lt.ensures c.if-not-is_lt.false in
    let last = below c.in-Some.last first c.cmp-in-Some.result c.is_lt-in-Some.result c.cmp-in-Some.ensures c.is_lt-in-Some.ensures t in
    free_after slot_cmp slot_cmp_total c.args.keys.now.entries second second (true_holds _ c.requires) (λ x lt. lt) (c.in-Some.last, c.in-Some.field-0-1) (sym c.in-Some.is ∙ c.last_up_to.ensures)
    (turned_order slot_cmp_total c.in-Some.last second Less (slot_cmp_total.trans c.in-Some.last first second last apart))

pub returns-in-None-clause-first : goal.returns-in-None-clause-first
returns-in-None-clause-first c t =
    let first = c.args.first.now in
    let second = c.args.second.now in
    let apart = below first second c.cmp.result c.is_lt.result c.cmp.ensures c.is_lt.ensures c.if-not-is_lt.false in
    free_below slot_cmp slot_cmp_total c.args.keys.now.entries second first (true_holds _ c.requires) (λ x lt. slot_cmp_total.trans first second x apart lt) (sym c.in-None.is ∙ c.last_up_to.ensures)

pub returns-in-None-clause-second : goal.returns-in-None-clause-second
returns-in-None-clause-second c t =
    free_below slot_cmp slot_cmp_total c.args.keys.now.entries c.args.second.now c.args.second.now (true_holds _ c.requires) (λ x lt. lt) (sym c.in-None.is ∙ c.last_up_to.ensures)
