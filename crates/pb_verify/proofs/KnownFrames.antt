-- What is known before the slots, one after the other.
use Rattle.std.proofs.Common.{◌≡◌, ℕ, ◌+◌, ◌<◌, List, [], ◌∷◌, ◌++◌, Option, None, length, get_or, ap, arith, length-append}
use Rattle.std.proofs.lemmas.List.{get_or_append_left}
use Rattle.std.proofs.Math.Seq.{get_or-append_seam}
use Rattle.pb_verify.specs.Words.{Insn, Frame}
use Rattle.pb_verify.specs.Known.{known_at}

-- before each of the first n slots
pub record AreKnownTo (p : List Insn) (n : ℕ) (fs : List (Option Frame)) : Type 0 where
  pub len : length fs ≡ n
  pub each : (m : ℕ) → m < n → get_or fs m None ≡ known_at p m

-- before the first slot no frame is known yet
pub none_known : (p : List Insn) (fs : List (Option Frame)) → fs ≡ [] → AreKnownTo p 0 fs
none_known p fs e = record { len = ap length e; each = λ m h. absurd (omega (arith, h)) }

-- before one slot more
pub known_more : (p : List Insn) (n : ℕ) (fs gs : List (Option Frame)) (f : Option Frame) → AreKnownTo p n fs → gs ≡ fs ++ f ∷ [] → f ≡ known_at p n → AreKnownTo p (n + 1) gs
known_more p n fs gs f old e is = grind (arith, length-append, get_or_append_left, get_or-append_seam, old.len, old.each)
