-- An array that has a record of one size, and zeros after it.
use Rattle.std.proofs.Common.{◌≡◌, ◌⊎◌, ℕ, ◌-◌, List, length, take, replicate, sym, ap, subst, ◌∙◌}
use Rattle.std.proofs.Math.Seq.{take-append_seam}
use Rattle.pb_isa.specs.declared.limits.TheConstants.{RECORD_BYTES, MAX_RECORD_BYTES}
use Rattle.pb_helpers.specs.Bytes.{padded, IsFilled}

-- what stands in front is the record
pub record_in_front : (r bytes : List ℕ) (size : ℕ) → length r ≡ size → bytes ≡ padded r → take size bytes ≡ r
record_in_front r bytes size l e = ap (λ bs. take size bs) e ∙ subst (λ n. take n (padded r) ≡ r) l (take-append_seam r (replicate (MAX_RECORD_BYTES - length r) 0))

pub is_filled : (r bytes : List ℕ) (size : ℕ) → (size ≡ RECORD_BYTES) ⊎ (size ≡ MAX_RECORD_BYTES) → length r ≡ size → bytes ≡ padded r → IsFilled size bytes
is_filled r bytes size known l e =
    let f = record_in_front r bytes size l e in
    (known, ap (λ bs. length bs) f ∙ l, e ∙ sym (ap (λ bs. padded bs) f))
