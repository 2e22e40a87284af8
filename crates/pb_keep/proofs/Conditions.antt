-- What is known of a line that is read, and of one with a condition.
use Rattle.std.proofs.Common.{arith, ◌≡◌, ℕ, ◌+◌, ◌<◌, ◌≤◌, Bool, true, false, ◌&&◌, ◌==◌, if◌then◌else◌, List, [], ◌∷◌, length, Option, None, Some, Ok, Bor, sym, ap, ◌∙◌}
use Rattle.std.specs.List.{onto_first}
use Rattle.pb_parse.specs.ScriptLines.{operations_left}
use Rattle.pb_requests.specs.declared.parse.TheConstants.{MAX_LINE}
use Rattle.pb_requests.specs.Requests.{alone_in, conditional, copy_request_of, get_of, of_log, question_of, request_by, since_of}
use Rattle.pb_keep.specs.Words.{cut, Condition, Request, asked_by}

-- ---- a line that is read has few bytes

pub few_bytes : (line : List ℕ) (request : Request) → asked_by line ≡ Ok request → length line ≤ MAX_LINE
unfolding asked_by
few_bytes line request h = grind arith

-- ---- operations stand after the condition

pub has_operations : (first : List ℕ) (request : Request) → conditional (first ∷ []) ≡ Ok request → ⊥
unfolding conditional
has_operations first request h = grind arith

not_get : (words : List (List ℕ)) (condition : Condition) → get_of words ≡ Ok (Request.ChangeIf condition) → ⊥
unfolding get_of
not_get words condition h = grind arith

not_since : (words : List (List ℕ)) (condition : Condition) → since_of words ≡ Ok (Request.ChangeIf condition) → ⊥
unfolding since_of
not_since words condition h = grind arith

not_alone : (words : List (List ℕ)) (condition : Condition) (request : Request) → (request ≡ Request.ChangeIf condition → ⊥) → alone_in request words ≡ Ok (Request.ChangeIf condition) → ⊥
unfolding alone_in
not_alone words condition request other h = grind (arith, other)

not_copy : (words : List (List ℕ)) (condition : Condition) → copy_request_of words ≡ Ok (Request.ChangeIf condition) → ⊥
unfolding copy_request_of
not_copy words condition h = grind arith

not_of_log : (verb : List ℕ) (words : List (List ℕ)) (condition : Condition) → of_log verb words ≡ Ok (Request.ChangeIf condition) → ⊥
unfolding of_log
not_of_log verb words condition h = grind (arith, not_copy, not_alone)

not_asked : (verb : List ℕ) (words : List (List ℕ)) (condition : Condition) → question_of verb words ≡ Ok (Request.ChangeIf condition) → ⊥
unfolding question_of
not_asked verb words condition h = grind (arith, not_get, not_since, not_alone, not_of_log)

by_its_verb : (line verb : List ℕ) (words : List (List ℕ)) (condition : Condition) → request_by line verb words ≡ Ok (Request.ChangeIf condition) → conditional (cut line) ≡ Ok (Request.ChangeIf condition)
unfolding request_by
by_its_verb line verb words condition h = grind (arith, not_asked)

pub is_conditional : (line : List ℕ) (condition : Condition) → asked_by line ≡ Ok (Request.ChangeIf condition) → conditional (cut line) ≡ Ok (Request.ChangeIf condition)
unfolding asked_by
is_conditional line condition h = grind (arith, by_its_verb)

-- so that the condition is not all of the line
pub goes_on : (line first : List ℕ) (condition : Condition) (after : Option (Bor (List ℕ))) → asked_by line ≡ Ok (Request.ChangeIf condition) → cut line ≡ first ∷ operations_left after → after ≡ None → ⊥
goes_on line first condition None h e none = has_operations first (Request.ChangeIf condition) (sym (ap conditional e) ∙ is_conditional line condition h)
goes_on line first condition (Some o) h e none = absurd cc

-- ---- operations are no longer than their line

-- the bytes of texts, and two for each
abbrev weight : List (List ℕ) → ℕ
weight [] = 0
weight (x ∷ xs) = length x + 2 + weight xs

onto_weighs : (b : ℕ) (xs : List (List ℕ)) → 0 < weight xs → weight (onto_first b xs) ≡ weight xs + 1
onto_weighs b [] h = grind arith
onto_weighs b (x ∷ xs) h = grind arith

either_weighs : (c : Bool) (xs ys : List (List ℕ)) (n : ℕ) → weight xs ≡ n → weight ys ≡ n → weight (if c then xs else ys) ≡ n
either_weighs true xs ys n h k = h
either_weighs false xs ys n h k = k

cut_weighs : (line : List ℕ) → weight (cut line) ≡ length line + 2
cut_weighs [] = grind arith
cut_weighs (b ∷ []) = grind arith
cut_weighs (b ∷ c ∷ bs) =
    let one = cut_weighs (c ∷ bs) in
    let more = onto_weighs b (cut (c ∷ bs)) (omega (arith, one)) in
    either_weighs ((b == 59) && (c == 32)) ([] ∷ cut bs) (onto_first b (cut (c ∷ bs))) (length (b ∷ c ∷ bs) + 2) (grind (arith, cut_weighs bs)) (grind (arith, one, more))

pub operations_shorter : (line first operations : List ℕ) → cut line ≡ first ∷ cut operations → length operations ≤ length line
operations_shorter line first operations h =
    let all = cut_weighs line in
    let rest = cut_weighs operations in
    let same : weight (cut line) ≡ length first + 2 + weight (cut operations) = ap weight h in
    omega (arith, all, rest, same)
