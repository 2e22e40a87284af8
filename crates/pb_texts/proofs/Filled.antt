-- Each row of a subcommand has a value, and that of an option that takes a number is one.
use Rattle.std.proofs.Common.{◌≡◌, ℕ, ◌<◌, Bool, true, false, cond, List, [], ◌∷◌, ◌++◌, length, Option, Some, None, refl, sym, ◌∙◌, arith, length-append, find, option_map, option_and_then, slice_get, bytes_eq}
use Rattle.std.specs.Option.{option_map_or}
use Rattle.std.proofs.lemmas.Slice.Eq.{bytes_eq-Decides}
use Rattle.clap.specs.Facts.{explicit_source}
use Rattle.clap.specs.Takes.{is_given}
use Rattle.clap.specs.Walk.{Text, Rule, Row, at_row, more_values, with_values, without, first_of, one_of, row_text}
use Rattle.clap.specs.Values.{read_as}
use Rattle.clap.specs.Simple.{filled, help_rule, with_index}
use Rattle.clap.specs.declared.error.kind.ErrorKind.{ErrorKind}
use Rattle.clap.specs.declared.parser.matches.ValueSource.{ValueSource}
use Rattle.clap.specs.declared.builder.value_parser.Reading.{Reading}
use Rattle.clap.specs.ValueTests.{is_unsigned_in}
use Rattle.pb_texts.specs.CommandLines.{required_rule, number_rule}
use Rattle.pb_texts.proofs.Kept.{Each, Keeps, or_else_none}

-- ---- rows that change

each_if : (P : Row → Type 0) (b : Bool) (xs ys : List Row) → (b ≡ true → Each P xs) → Each P ys → Each P (cond b xs ys)
each_if x b xs ys f g = grind arith

each_at : (P : Row → Type 0) (id : Text) (change : Row → List Row) (missing : List Row)
    → ((r : Row) (rs : List Row) → bytes_eq r.id id ≡ true → P r → Each P rs → Each P (change r ++ rs)) → Each P missing → (rows : List Row) → Each P rows → Each P (at_row id change missing rows)
each_at P id change missing f m [] g = m
each_at P id change missing f m (r ∷ rs) g = each_if P (bytes_eq r.id id) (change r ++ rs) (r ∷ at_row id change missing rs) (λ e. f r rs e g.0 g.1) (g.0, each_at P id change missing f m rs g.1)

-- the row that a first use of an argument makes
abbrev new_row : Text → Reading → List Text → Row
new_row id how values = record { id = id; values = values; count = None; source = Some ValueSource.CommandLine; reading = how }

-- what holds of a new row, and of one that gets more values, is kept at a use of an argument that is set
each_set : (P : Row → Type 0) (id : Text) (how : Reading) (values : List Text) → P (new_row id how values)
    → ((r : Row) → bytes_eq r.id id ≡ true → P r → Each P (more_values ValueSource.CommandLine values r)) → (rows : List Row) → Each P rows → Each P (with_values id how ValueSource.CommandLine values (without id rows))
each_set P id how values new more rows g =
    each_at P id (more_values ValueSource.CommandLine values) (new_row id how values ∷ []) (λ r rs e p q. ((more r e p).0, q)) (new, tt) (without id rows)
    (each_at P id (λ _. []) [] (λ r rs e p q. q) tt rows g)

-- ---- the arguments, once built

abbrev pub help : Rule
help = filled help_rule

abbrev pub operand : ℕ → Text → Rule
operand position id = with_index position (filled (required_rule id))

abbrev pub number : Text → ℕ → ℕ → Rule
number name low high = filled (number_rule name low high)

pub help_keeps : (P : Row → Type 0) → Keeps P help
help_keeps P again values rows e g = g

-- ---- values

abbrev pub HasValue : Row → Type 0
HasValue r = 0 < length r.values

longer : (xs : List Text) (v : Text) (vs : List Text) → 0 < length xs → 0 < length (xs ++ v ∷ vs)
longer xs v vs h = simp length-append (omega arith)

some_value : (v : Text) (vs : List Text) → 0 < length (v ∷ vs)
some_value v vs = omega arith

value_set : (id : Text) (how : Reading) (v : Text) (vs : List Text) (rows : List Row) → Each HasValue rows → Each HasValue (with_values id how ValueSource.CommandLine (v ∷ vs) (without id rows))
value_set id how v vs rows g = each_set HasValue id how (v ∷ vs) (some_value v vs) (λ r e p. (longer r.values v vs p, tt)) rows g

pub operand_has_value : (position : ℕ) (id : Text) → Keeps HasValue (operand position id)
operand_has_value position id again xs rows e g = grind (arith, value_set)

pub number_has_value : (name : Text) (low high : ℕ) → Keeps HasValue (number name low high)
number_has_value name low high again xs rows e g = grind (arith, value_set)

-- ---- numbers

-- the text, where there is one, is a number from `low` to `high`, before which a plus may stand
abbrev pub IsNumberIn : ℕ → ℕ → Option Text → Type 0
IsNumberIn low high None = Unit {0}
IsNumberIn low high (Some text) = is_unsigned_in low high text ≡ true

abbrev pub ReadsNumber : Text → ℕ → ℕ → Row → Type 0
ReadsNumber name low high r = r.id ≡ name → (r.reading ≡ Reading.AsWritten) × IsNumberIn low high (slice_get r.values 0)

same_id : (a b : Text) → bytes_eq a b ≡ true → a ≡ b
same_id a b e = (bytes_eq-Decides a b).0 e

pub operand_keeps_number : (position : ℕ) (id name : Text) (low high : ℕ) → (id ≡ name → ⊥) → Keeps (ReadsNumber name low high) (operand position id)
operand_keeps_number position id name low high other again [] rows e g = absurd cc
operand_keeps_number position id name low high other again (v ∷ vs) rows e g =
    each_set (ReadsNumber name low high) id Reading.AsWritten (v ∷ vs) (λ is. absurd (other is)) (λ r same p. ((λ is. absurd (other (sym (same_id r.id id same) ∙ is))), tt)) rows g

pub number_keeps_number : (other_name : Text) (from to : ℕ) (name : Text) (low high : ℕ) → (other_name ≡ name → ⊥) → Keeps (ReadsNumber name low high) (number other_name from to)
number_keeps_number other_name from to name low high other again [] rows e g = absurd cc
number_keeps_number other_name from to name low high other again (v ∷ vs) rows e g =
    each_set (ReadsNumber name low high) other_name Reading.AsWritten (v ∷ vs) (λ is. absurd (other is)) (λ r same p. ((λ is. absurd (other (sym (same_id r.id other_name same) ∙ is))), tt)) rows g

first_still : (low high : ℕ) (xs : List Text) (v : Text) (vs : List Text) → is_unsigned_in low high v ≡ true → IsNumberIn low high (slice_get xs 0) → IsNumberIn low high (slice_get (xs ++ v ∷ vs) 0)
first_still low high [] v vs is p = is
first_still low high (x ∷ xs) v vs is p = p

taken : (b : Bool) (k : ErrorKind) → cond b [] (k ∷ []) ≡ [] → b ≡ true
taken b k e = grind arith

pub number_reads : (name : Text) (low high : ℕ) → Keeps (ReadsNumber name low high) (number name low high)
number_reads name low high again xs rows e g = grind (arith, or_else_none, taken, each_set, first_still)

-- ---- what is read of a row

found_if : (P : Row → Type 0) (p : Row → Bool) (b : Bool) (x : Row) (later : Option Row) (r : Row) → P x → (later ≡ Some r → P r × (p r ≡ true)) → p x ≡ b → cond b (Some x) later ≡ Some r → P r × (p r ≡ true)
found_if x p b k later r f g is h = grind arith

found_each : (P : Row → Type 0) (p : Row → Bool) (rows : List Row) (r : Row) → Each P rows → find p rows ≡ Some r → P r × (p r ≡ true)
found_each P p [] r f h = absurd cc
found_each P p (x ∷ xs) r f h = found_if P p (p x) x (find p xs) r f.0 (λ later. found_each P p xs r f.1 later) refl h

first_value : (vs : List Text) → 0 < length vs → (t : Text) × (slice_get vs 0 ≡ Some t)
first_value [] h = absurd (omega arith)
first_value (v ∷ vs) h = (v, refl)

first_in : (rows : List Row) (p : Row → Bool) (o : Option Row) → Each HasValue rows → find p rows ≡ o → option_map_or (λ r. explicit_source r.source) o false ≡ true
    → (t : Text) × (option_and_then (λ (r : Row). slice_get r.values 0) o ≡ Some t)
first_in rows p o f e g = grind (arith, first_value, found_each)

-- a row that is given has a first value
pub given_first : (id : Text) (rows : List Row) → Each HasValue rows → is_given id rows ≡ true → (t : Text) × (first_of id rows ≡ Some t)
given_first id rows f g = first_in rows (λ r. bytes_eq r.id id) (find (λ r. bytes_eq r.id id) rows) f refl g

module _ (name : Text) (low high : ℕ) where
  row_reads : (how : Reading) (o : Option Text) → how ≡ Reading.AsWritten → IsNumberIn low high o → IsNumberIn low high (option_map (read_as how) o)
  row_reads how o e p = grind arith

  first_found : (rows : List Row) (o : Option Row) → Each (ReadsNumber name low high) rows → find (λ r. bytes_eq r.id name) rows ≡ o → IsNumberIn low high (option_and_then (λ (r : Row). slice_get r.values 0) o)
  first_found rows o f e = grind (arith, found_each, same_id)

  one_found : (rows : List Row) (o : Option Row) → Each (ReadsNumber name low high) rows → find (λ r. bytes_eq r.id name) rows ≡ o → IsNumberIn low high (option_and_then row_text o)
  one_found rows o f e = grind (arith, found_each, same_id, row_reads)

  pub first_number : (rows : List Row) → Each (ReadsNumber name low high) rows → IsNumberIn low high (first_of name rows)
  first_number rows f = first_found rows (find (λ r. bytes_eq r.id name) rows) f refl

  pub one_number : (rows : List Row) → Each (ReadsNumber name low high) rows → IsNumberIn low high (one_of name rows)
  one_number rows f = one_found rows (find (λ r. bytes_eq r.id name) rows) f refl
