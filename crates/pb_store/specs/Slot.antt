-- Slots are ordered by cell, then sort, then timestamp: what a step looks at in a cell stands side by side, and the
-- newest entry of a sort is the last one up to a timestamp. The order of `Slot` is this one, by its ghost members.
use Rattle.std.proofs.Common.{arith, ◌≡◌, ℕ, refl, Ordering}
use Rattle.std.specs.FinMap.{IsAntisymmetric, nat_cmp-IsAntisymmetric}
use Rattle.std.specs.Ordering.{nat_cmp, on, then_cmp}
use Rattle.std.specs.Cmp.{IsTotalOrder, nat_cmp_total}
use Rattle.std.proofs.lemmas.Cmp.{on_total, then_total}
use Rattle.pb_store.specs.Words.{cell_cmp, cell_cmp_total, cell_cmp-IsAntisymmetric, both_equal}
use Rattle.pb_store.specs.declared.slot.Slot.{Slot}
use Rattle.pb_store.specs.declared.slot.Sort as sort
use Rattle.pb_store.specs.declared.slot.Sort.{Sort}

-- data before locks before write records
abbrev pub sort_rank : sort.Sort → ℕ
sort_rank Sort.Data = 0
sort_rank Sort.Lock = 1
sort_rank Sort.Write = 2

-- among the entries of one cell, by sort and then by timestamp
abbrev pub in_cell_cmp : Slot → Slot → Ordering
in_cell_cmp = then_cmp (on (λ s. sort_rank s.sort) nat_cmp) (on (λ s. s.ts.0) nat_cmp)

-- by cell first, and so by row, by which tablets share out the slots
abbrev pub slot_cmp : Slot → Slot → Ordering
slot_cmp = then_cmp (on (λ s. s.cell) cell_cmp) in_cell_cmp

-- any two slots can be compared, as a map by slots asks
pub slot_cmp_total : IsTotalOrder slot_cmp
slot_cmp_total = then_total (on_total (λ s. s.cell) cell_cmp_total) (then_total (on_total (λ s. sort_rank s.sort) nat_cmp_total) (on_total (λ s. s.ts.0) nat_cmp_total))

-- no two sorts have one rank
same_sort : (x y : sort.Sort) → sort_rank x ≡ sort_rank y → x ≡ y
same_sort Sort.Data Sort.Data e = refl
same_sort Sort.Data Sort.Lock e = absurd (omega arith)
same_sort Sort.Data Sort.Write e = absurd (omega arith)
same_sort Sort.Lock Sort.Data e = absurd (omega arith)
same_sort Sort.Lock Sort.Lock e = refl
same_sort Sort.Lock Sort.Write e = absurd (omega arith)
same_sort Sort.Write Sort.Data e = absurd (omega arith)
same_sort Sort.Write Sort.Lock e = absurd (omega arith)
same_sort Sort.Write Sort.Write e = refl

-- slots that compare alike are one
pub slot_cmp-IsAntisymmetric : IsAntisymmetric slot_cmp
slot_cmp-IsAntisymmetric x y e =
    let cells = both_equal _ _ e in
    let sorts = both_equal _ _ cells.1 in
    let c = cell_cmp-IsAntisymmetric _ _ cells.0 in
    let s = same_sort _ _ (nat_cmp-IsAntisymmetric _ _ sorts.0) in
    let t = nat_cmp-IsAntisymmetric _ _ sorts.1 in
    λ i. record { cell = c i; sort = s i; ts = record { 0 = t i } }
