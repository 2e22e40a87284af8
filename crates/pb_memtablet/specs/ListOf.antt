-- What a sorted list in chunks is to its callers: the model of `SortedList`, without chunks, counts and hints.
use Rattle.std.specs.Prelude.{ℕ, List, refl}
use Rattle.std.specs.Coded.{Coded, code_by, coded×, coded_list, coded_ℕ}

-- the entries, and how many puts there is room for
pub record ListOf (K X : Type 0) : Type 0 where
  pub entries : List (K × X)
  pub room : ℕ

-- as a tree of numbers: the pair of its entries and its room
abbrev pub list_code : {K X : Type 0} → Coded K → Coded X → Coded (ListOf K X)
list_code {K} {X} k x =
    code_by (List (K × X) × ℕ) (coded× (coded_list (coded× k x)) coded_ℕ) (λ a. (a.entries, a.room)) (λ p. record { entries = p.0; room = p.1 }) (λ _. refl)
