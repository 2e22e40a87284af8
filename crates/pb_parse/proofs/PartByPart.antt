-- A line read part by part, each with what its operations wrote so far.
use Rattle.std.proofs.Common.{arith, ◌≡◌, ℕ, ◌+◌, ◌≤◌, List, [], ◌∷◌, length, Result, Ok, Err, refl, sym, ap, ◌∙◌}
use Rattle.std.specs.Str.Pattern.{LacksTextAt, FindsText, SplitsAroundMatch}
use Rattle.pb_parse.specs.Words.{Writes, ◌>>=◌, in_turn, Ends, LineFault}
use Rattle.pb_parse.specs.declared.script.code.ScriptCode.{ScriptCode}
use Rattle.pb_parse.specs.ScriptLines.{cut, with_operation}
use Rattle.pb_parse.proofs.Cuts.{joint, cut_none, cut_some}

same_then : {S E : Type 0} (f g : S → Result S E) (r : Result S E) → ((t : S) → f t ≡ g t) → (r >>= f) ≡ (r >>= g)
same_then f g r h = grind arith

-- steps that don't look at their number
any_number : {S A E : Type 0} (step : S → A → Result S E) (n m : ℕ) (s : S) (xs : List A) → in_turn (λ _. step) n s xs ≡ in_turn (λ _. step) m s xs
any_number step n m s [] = refl
any_number step n m s (x ∷ xs) = same_then (λ t. in_turn (λ _. step) (n + 1) t xs) (λ t. in_turn (λ _. step) (m + 1) t xs) (step s x) (λ t. any_number step (n + 1) (m + 1) t xs)

-- what is left of a line gives, after these writes
abbrev pub from_here : Writes → List ℕ → Result Writes ScriptCode
from_here writes rest = in_turn (λ _. with_operation) 0 writes (cut rest)

-- what a line gives from here is what its first part gives, and then the rest from what that left
first_part : (w : Writes) (rest first after : List ℕ) (r : Result Writes ScriptCode) → SplitsAroundMatch (FindsText joint) rest first after → with_operation w first ≡ r → from_here w rest ≡ (r >>= λ t. from_here t after)
first_part w rest first after r split one =
    ap (λ (xs : List (List ℕ)). in_turn (λ _. with_operation) 0 w xs) (cut_some rest first after split)
    ∙ ap (λ (q : Result Writes ScriptCode). q >>= λ t. in_turn (λ _. with_operation) 1 t (cut after)) one
    ∙ same_then (λ t. in_turn (λ _. with_operation) 1 t (cut after)) (λ t. from_here t after) r (λ t. any_number with_operation 1 0 t (cut after))

-- one part more is read
pub goes_on : (w v : Writes) (rest first after : List ℕ) (total : Result Writes ScriptCode) → SplitsAroundMatch (FindsText joint) rest first after → with_operation w first ≡ Ok v → from_here w rest ≡ total → from_here v after ≡ total
goes_on w v rest first after total split one before = sym (first_part w rest first after (Ok v) split one) ∙ before

-- a part is at fault
pub ends_at_part : (w : Writes) (rest first after : List ℕ) (total : Result Writes ScriptCode) (fault : LineFault ScriptCode) → SplitsAroundMatch (FindsText joint) rest first after → Ends fault (with_operation w first) → from_here w rest ≡ total → Ends fault total
ends_at_part w rest first after total (LineFault.NoMemory refused) split ends before = tt
ends_at_part w rest first after total (LineFault.Code code) split ends before = sym before ∙ first_part w rest first after (Err code) split ends

-- ---- the last part

same_end : (r : Result Writes ScriptCode) → (r >>= λ t. Ok t) ≡ r
same_end r = grind arith

-- where no joint is left, what is left is one operation, and ends the line
pub last_part : (w : Writes) (rest : List ℕ) (total : Result Writes ScriptCode) → ((i : ℕ) → i ≤ length rest → LacksTextAt joint rest i) → from_here w rest ≡ total → total ≡ with_operation w rest
last_part w rest total none before = sym before ∙ ap (λ (xs : List (List ℕ)). in_turn (λ _. with_operation) 0 w xs) (cut_none rest none) ∙ same_end (with_operation w rest)
