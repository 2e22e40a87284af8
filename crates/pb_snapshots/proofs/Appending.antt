-- What is added at the end, part by part.
use Rattle.std.proofs.Common.{◌≡◌, ℕ, List, ◌++◌, ap, ◌∙◌, append_assoc}

-- two parts are added, one after the other
pub added_both : (old mid new x y : List ℕ) → mid ≡ old ++ x → new ≡ mid ++ y → new ≡ old ++ (x ++ y)
added_both old mid new x y a b = b ∙ ap (λ (t : List ℕ). t ++ y) a ∙ append_assoc old x y
