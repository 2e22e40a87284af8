-- What each step of reading a line shows about the words of the line.
use Rattle.std.proofs.Common.{◌≡◌, ◌≢◌, ℕ, zero, suc, ◌+◌, ◌-◌, ◌^◌, ◌<◌, ◌≤◌, Bool, true, false, cond, List, [], ◌∷◌, length, Ok, refl, subst, arith, not, decimal, bytes_eq}
use Rattle.std.proofs.lemmas.Bool.{ltb-false, ltb-true, le-ltb, lt-ltb}
use Rattle.std.proofs.lemmas.Slice.Eq.{bytes_eq-Decides}
use Rattle.pb_parse.specs.Words.{Row, ObserverOf}
use Rattle.pb_parse.specs.declared.event.Event.{Event}
use Rattle.pb_parse.specs.declared.schedule.words.Order.{Order}
use Rattle.pb_parse.specs.ScheduleWords.{number_between, next_number, next_row, first_named, observer_named, next_observer, once}
use Rattle.pb_parse.specs.EventLines.{name_of, IsRow, IsNamed}
use Rattle.pb_reading.proofs.Parts.{Lacks, AreParts, if_lacks}
use Rattle.pb_reading.proofs.NumeralValues.{numeral_back, numeral_is}
use Rattle.pb_reading.proofs.Readings.{ok_is, then_ok, if_ok, else_ok, next_is}

-- words that compare alike are the same word
pub same_text : (a b : List ℕ) → bytes_eq a b ≡ true → a ≡ b
same_text a b h = (bytes_eq-Decides a b).0 h

-- what is asked for once has no word after it
pub once_is : (event : Event) (words : List (List ℕ)) (order : Order) → once event words ≡ Ok order → (words ≡ []) × (record { event = event; times = 1 } ≡ order)
unfolding once
once_is event words order h = grind arith

-- ---- numbers

-- the word is the spelling of a number in this range
pub record IsBetween (least greatest n : ℕ) (word : List ℕ) : Type 0 where
  pub written : word ≡ decimal n
  pub low : least ≤ n
  pub high : n ≤ greatest

-- a word that is read as a number is its spelling: no other digits, signs or zeros are read
pub number_is : (least greatest n : ℕ) (word : List ℕ) → greatest < 2 ^ 64 → number_between least greatest word ≡ Ok n → IsBetween least greatest n word
number_is least greatest n word lt h = grind (arith, then_ok, else_ok, numeral_is, ok_is, ltb-false)

-- and each number in the range is read from its spelling
pub number_back : (least greatest n : ℕ) → greatest < 2 ^ 64 → least ≤ n → n ≤ greatest → number_between least greatest (decimal n) ≡ Ok n
number_back least greatest n lt low high = grind (arith, le-ltb, numeral_back)

-- a word of a number in front of other words
pub record TakesNumber (least greatest n : ℕ) (words rest : List (List ℕ)) : Type 0 where
  pub written : words ≡ decimal n ∷ rest
  pub low : least ≤ n
  pub high : n ≤ greatest

-- the next word is read as a number from its spelling alone, and the words after it are left
pub next_number_is : (least greatest : ℕ) (words : List (List ℕ)) (x : ℕ × List (List ℕ)) → greatest < 2 ^ 64 → next_number least greatest words ≡ Ok x → TakesNumber least greatest x.0 words x.1
unfolding next_number
next_number_is least greatest words x lt h = grind (arith, then_ok, number_is, ok_is, next_is)

pub next_number_back : (least greatest n : ℕ) (rest : List (List ℕ)) → greatest < 2 ^ 64 → least ≤ n → n ≤ greatest → next_number least greatest (decimal n ∷ rest) ≡ Ok (n, rest)
unfolding next_number
next_number_back least greatest n rest lt low high = rw (number_back least greatest n lt low high) refl

-- a row is read from its spelling alone, and has 64 bits
pub next_row_is : (words : List (List ℕ)) (x : Row × List (List ℕ)) → next_row words ≡ Ok x → (words ≡ decimal x.0.0 ∷ x.1) × IsRow x.0
unfolding next_row
next_row_is words x h =
    let a = then_ok (next_number 0 (2 ^ 64 - 1) words) _ x h in
    let n = next_number_is 0 (2 ^ 64 - 1) words a.0 (omega arith) a.1 in
    subst (λ (y : Row × List (List ℕ)). (words ≡ decimal y.0.0 ∷ y.1) × IsRow y.0) (ok_is (record { 0 = a.0.0 }, a.0.1) x a.2) (n.written, omega arith)

-- and each row is read from it
pub next_row_back : (row : Row) (rest : List (List ℕ)) → IsRow row → next_row (decimal row.0 ∷ rest) ≡ Ok (row, rest)
unfolding next_row
next_row_back row rest lt = rw (next_number_back 0 (2 ^ 64 - 1) row.0 rest (omega arith) (omega arith) (omega (arith, lt))) refl

-- ---- names

-- an observer that has the name, with none before it
pub record IsFirstNamed (observers : List ObserverOf) (name : List ℕ) (o : ℕ) : Type 0 where
  pub same : name_of observers o ≡ name
  pub first : (before : ℕ) → before < o → name_of observers before ≢ name

differs : (a b : List ℕ) → bytes_eq a b ≡ false → a ≢ b
differs a b h is = let t : bytes_eq a b ≡ true = (bytes_eq-Decides a b).1 is in absurd cc

not_before : (x : ObserverOf) (xs : List ObserverOf) (name : List ℕ) (o : ℕ) → x.name ≢ name → ((before : ℕ) → before < o → name_of xs before ≢ name) → (before : ℕ) → before < suc o → name_of (x ∷ xs) before ≢ name
not_before x xs name o apart later before lt = grind arith

-- a list's first observer of a name is its head, or the first among the others
named_from : (x : ObserverOf) (xs : List ObserverOf) (name : List ℕ) (b : Bool) → bytes_eq x.name name ≡ b → (first_named xs name < length xs → IsFirstNamed xs name (first_named xs name)) → cond (not b) (1 + first_named xs name) 0 < length (x ∷ xs) → IsFirstNamed (x ∷ xs) name (cond (not b) (1 + first_named xs name) 0)
named_from x xs name b is others lt = grind (arith, same_text, not_before, differs)

-- the place that is found is of the first observer of the name
pub first_is : (observers : List ObserverOf) (name : List ℕ) → first_named observers name < length observers → IsFirstNamed observers name (first_named observers name)
first_is [] name lt = absurd (omega (arith, lt))
first_is (x ∷ xs) name lt = named_from x xs name (bytes_eq x.name name) refl (first_is xs name) lt

equal_text : (a b : List ℕ) → a ≡ b → bytes_eq a b ≡ true
equal_text a b h = (bytes_eq-Decides a b).1 h

other_text : (b : Bool) (x y : List ℕ) → bytes_eq x y ≡ b → x ≢ y → bytes_eq x y ≡ false
other_text b x y is apart = grind (arith, same_text)

-- and the first of the name is the place that is found
pub first_back : (observers : List ObserverOf) (name : List ℕ) (o : ℕ) → o < length observers → IsFirstNamed observers name o → first_named observers name ≡ o
first_back [] name o lt f = absurd (omega (arith, lt))
first_back (x ∷ xs) name zero lt f = rw (equal_text x.name name f.same) refl
first_back (x ∷ xs) name (suc o) lt f =
    let others : IsFirstNamed xs name o = record { same = f.same; first = λ k less. f.first (suc k) (omega (arith, less)) } in
    let e : bytes_eq x.name name ≡ false = other_text (bytes_eq x.name name) x.name name refl (f.first 0 (omega arith)) in
    let rest : first_named xs name ≡ o = first_back xs name o (omega (arith, lt)) others in
    rw e (omega (arith, rest))

-- where an observer has the name, some place has it first
place_there : (xs : List ObserverOf) (x : ObserverOf) (name : List ℕ) (o : ℕ) (b : Bool) → bytes_eq x.name name ≡ b → ((k : ℕ) → k < length xs → name_of xs k ≡ name → first_named xs name < length xs) → o < length (x ∷ xs) → name_of (x ∷ xs) o ≡ name → cond (not b) (1 + first_named xs name) 0 < length (x ∷ xs)
place_there xs x name o b e others lt is = grind (arith, differs)

-- where any observer has the name, a place is found
pub some_named : (observers : List ObserverOf) (name : List ℕ) (o : ℕ) → o < length observers → name_of observers o ≡ name → first_named observers name < length observers
some_named [] name o lt is = absurd (omega (arith, lt))
some_named (x ∷ xs) name o lt is = place_there xs x name o (bytes_eq x.name name) refl (some_named xs name) lt is

-- a name that is read is the observer's own, and a name without blanks names it in a line
pub named_is : (observers : List ObserverOf) (name : List ℕ) (o : ℕ) → observer_named observers name ≡ Ok o → (name_of observers o ≡ name) × (Lacks 32 name → IsNamed observers o)
named_is observers name o h = grind (arith, if_ok, ltb-true, first_is, ok_is, if_lacks)

-- an observer that is the first of its name is read from it
pub named_back : (observers : List ObserverOf) (o : ℕ) → IsNamed observers o → observer_named observers (name_of observers o) ≡ Ok o
named_back observers o n = grind (arith, first_back, lt-ltb, n.there, n.first)

-- a word that names an observer in front of other words
pub record TakesName (observers : List ObserverOf) (o : ℕ) (words rest : List (List ℕ)) : Type 0 where
  pub written : words ≡ name_of observers o ∷ rest
  pub named : IsNamed observers o

-- the next word is read as a name that a line can have, since a line's words have no blank
pub next_observer_is : (observers : List ObserverOf) (words : List (List ℕ)) (x : ℕ × List (List ℕ)) → AreParts 32 words → next_observer observers words ≡ Ok x → TakesName observers x.0 words x.1
unfolding next_observer
next_observer_is observers words x some h = grind (arith, then_ok, named_is, next_is, ok_is)

pub next_observer_back : (observers : List ObserverOf) (o : ℕ) (rest : List (List ℕ)) → IsNamed observers o → next_observer observers (name_of observers o ∷ rest) ≡ Ok (o, rest)
unfolding next_observer
next_observer_back observers o rest n = rw (named_back observers o n) refl
