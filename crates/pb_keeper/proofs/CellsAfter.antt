-- A walk from mark to mark ends: fewer runs may be made after a mark, or fewer cells come after it.
use Rattle.std.proofs.Common.{arith, ◌≡◌, ℕ, ◌+◌, ◌-◌, ◌*◌, ◌^◌, ◌<◌, ◌≤◌, ◌⊎◌, inl, inr, Ordering, Option, Some, None, Less, IfSome}
use Rattle.std.specs.Ordering.{nat_cmp, ordering_then}
use Rattle.pb_base.specs.Cell.{cell_cmp, rank_of}
use Rattle.pb_store.specs.Contents.{ComesAfter}
use Rattle.pb_keeper.specs.Words.{Cell, column_of, row_of}

-- row, column and rank have 64 bits
pub record Fits (x : Cell) : Type 0 where
  pub row : (row_of x).0 < 2 ^ 64
  pub column : column_of x < 2 ^ 64
  pub rank : rank_of x < 2 ^ 64

-- a number by its three parts, the first of which counts most
abbrev number_of : ℕ → ℕ → ℕ → ℕ
number_of a b c = a * 2 ^ 128 + b * 2 ^ 64 + c

-- how many numbers come after that of a cell, or more than all
abbrev pub cells_after : Option Cell → ℕ
cells_after None = 2 ^ 192
cells_after (Some x) = (2 ^ 192 - 1) - number_of (row_of x).0 (column_of x) (rank_of x)

-- what comes first decides, or what comes after where that is the same
one_less : (a b : ℕ) (rest : Ordering) → ordering_then (nat_cmp a b) rest ≡ Less → (a < b) ⊎ ((a ≡ b) × (rest ≡ Less))
one_less a b rest less = grind arith

last_less : (a b : ℕ) → nat_cmp a b ≡ Less → a < b
last_less a b less = grind arith

less_by : (a b c d e f : ℕ) → c < 2 ^ 64 → e < 2 ^ 64 → ordering_then (nat_cmp a b) (ordering_then (nat_cmp c d) (nat_cmp e f)) ≡ Less → number_of a c e < number_of b d f
less_by a b c d e f p q less = elim (one_less a b (ordering_then (nat_cmp c d) (nat_cmp e f)) less) [
  | inl lt ↦ omega (arith, lt)
  | inr h ↦ elim (one_less c d (nat_cmp e f) h.1) [
    | inl lt ↦ omega (arith, lt, h.0)
    | inr k ↦ (let lt = last_less e f k.1 in omega (arith, lt, h.0, k.0))
  ]
]

within_all : (a b c : ℕ) → a < 2 ^ 64 → b < 2 ^ 64 → c < 2 ^ 64 → number_of a b c < 2 ^ 192
within_all a b c p q r = omega arith

later : (x y : Cell) → Fits x → Fits y → cell_cmp x y ≡ Less → cells_after (Some y) < cells_after (Some x)
later x y f g less =
    let lt = less_by (row_of x).0 (row_of y).0 (column_of x) (column_of y) (rank_of x) (rank_of y) f.column f.rank less in
    let few = within_all (row_of y).0 (column_of y) (rank_of y) g.row g.column g.rank in
    omega (arith, lt, few)

fewer_after : (last : Option Cell) (y : Cell) → IfSome last Fits → Fits y → ComesAfter last y → cells_after (Some y) < cells_after last
fewer_after None y f g after = omega arith
fewer_after (Some x) y f g after = later x y f g after

few_cells : (last : Option Cell) → cells_after last ≤ 2 ^ 192
few_cells None = omega arith
few_cells (Some x) = omega arith

-- runs that may be made, and then cells that come after the last mark
abbrev pub walk_left : ℕ → Option Cell → ℕ
walk_left left last = left * (2 ^ 192 + 1) + cells_after last

walked : (left runs a b : ℕ) → runs ≤ left → b < a → b ≤ 2 ^ 192 → (left - runs) * (2 ^ 192 + 1) + b < left * (2 ^ 192 + 1) + a
walked left runs a b few lt most = omega arith

pub walk_goes : (left made runs : ℕ) (last : Option Cell) (y : Cell) → runs ≤ left - made → IfSome last Fits → Fits y → ComesAfter last y → walk_left (left - (made + runs)) (Some y) < walk_left (left - made) last
walk_goes left made runs last y few f g after =
    let lt = fewer_after last y f g after in
    let most = few_cells (Some y) in
    let one = walked (left - made) runs (cells_after last) (cells_after (Some y)) few lt most in
    omega (arith, one)
