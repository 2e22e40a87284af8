-- A table, as its callers see it. The first rows stand beside the contents, since contents alone don't show how many tablets
-- there are and where they begin. It is the model of `Table`, and so what its contracts speak of.
use Rattle.std.specs.Prelude.{ℕ, List, map, refl}
use Rattle.std.specs.Coded.{Coded, code_by, coded×, coded_ℕ, coded_list}
use Rattle.pb_store.specs.Words.{Row}
use Rattle.pb_store.specs.Contents.{Contents, coded_contents}

-- what its tablets contain together, and the first row of each
pub record TableOf : Type 0 where
  pub contents : Contents
  pub firsts : List ℕ

-- a table's value as a tree of numbers
abbrev pub table_code : Coded TableOf
table_code = code_by (Contents × List ℕ) (coded× coded_contents (coded_list coded_ℕ)) (λ t. (t.contents, t.firsts)) (λ p. record { contents = p.0; firsts = p.1 }) (λ _. refl)

-- the first rows of tablets
abbrev pub firsts_of : {T : Type 0} → List (Row × T) → List ℕ
firsts_of parts = map (λ p. p.0.0) parts
