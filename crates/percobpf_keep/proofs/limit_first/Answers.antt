use Rattle.std.proofs.Common.{◌≡◌, ◌∷◌, ◌++◌, ℕ, List, Option, None, Some, Result, Ok, Err, String, Global, ap, codes, option_to_list, string_bytes, sym, ◌∙◌}
use Rattle.percobpf_keep.specs.Options.{number_word, IsNumberOr, IsNumberRead}
use Rattle.percobpf_keep.specs.declared.failure.Failure.{Failure}
use Rattle.percobpf_keep.specs.declared.failure.Wanted.{Wanted}
use Rattle.percobpf_keep.proofs.SameTexts.{tested_same}
use Rattle.percobpf_keep.proofs.limit_first.Goals as goal

-- what is read of a word is the number that it is
read_as : (r : Result ℕ (Unit {0})) (none : Failure) (n : ℕ) → IsNumberOr r none (Ok n) → r ≡ Ok n
read_as (Ok m) none n e = ap (λ k. Ok k) (let same : ◌≡◌ {A = Result ℕ Failure} (Ok n) (Ok m) = e in cc)
read_as (Err x) none n e = let wrong : ◌≡◌ {A = Result ℕ Failure} (Ok n) (Err none) = e in absurd cc

-- a number was read of the next word
taken : (o : Option (String Global)) (wanted : Wanted) (n : ℕ) (before after : List (String Global)) → before ≡ option_to_list o ++ after → IsNumberRead o wanted (Ok n) → (word : String Global) × (before ≡ word ∷ after) × (number_word (string_bytes word) ≡ Ok n)
taken None wanted n before after e read = let wrong : ◌≡◌ {A = Result ℕ Failure} (Ok n) (Err Failure.Words) = read in absurd cc
taken (Some word) wanted n before after e read = (word, e, read_as (number_word (string_bytes word)) (Failure.NoNumber wanted word) n read)

pub returns : goal.returns
returns c =
    let its = taken c.next.result Wanted.Entries c.in_ok-limit.limit _ _ c.next.ensures.items c.in_ok-limit.ensures in
    let first = c.in_ok-first.first in
    let rest = c.in_ok-first.ensures.word ∙ ap (λ l. first ∷ l) (its.1 ∙ ap (λ l. its.0 ∷ l) c.in_ok-next_word.ensures.word) in
    (first, its.0, rest, sym c.as_str.ensures.value ∙ tested_same c.as_str.result.now (codes "--limit") c.ne.result c.ne.ensures c.if-ne.false, its.2)
