-- Up to a timestamp, a cell of a table whose records have their data has a newest version or none.
use Rattle.std.proofs.Common.{◌≡◌, ◌⊎◌, ℕ, zero, suc, ◌<◌, ◌≤◌, inl, inr, refl, ◌∙◌, ap, arith, true, Option, Some, None, is_some}
use Rattle.std.proofs.lemmas.Bool.{cases_lt}
use Rattle.pb_generations.specs.Words.{Cell, Content, Revision, Entries, IsVersion, NoVersion, data_at, write_at, HasData}

value_in : (o : Option Content) → is_some o ≡ true → (k : Content) × (o ≡ Some k)
value_in None is = absurd (grind (arith, is))
value_in (Some k) is = (k, refl)

module _ (e : Entries) (has : HasData e) (x : Cell) where
  at_top : (n : ℕ) (o : Option ℕ) → write_at e x n ≡ o → (((v : Revision) × IsVersion e x n v) ⊎ ((k : ℕ) → k < n → write_at e x k ≡ None) ⊎ ((v : Revision) × (v.commit.0 < n) × IsVersion e x v.commit.0 v × ((k : ℕ) → v.commit.0 < k → k < n → write_at e x k ≡ None)))
      → ((v : Revision) × IsVersion e x n v) ⊎ NoVersion e x n
  at_top n (Some s) there below =
      let k = value_in (data_at e x s) (has.written x n s there) in
      inl (record { start = record { 0 = s }; commit = record { 0 = n }; content = k.0 }, record { low = omega arith; written = there; content = k.1; newest = λ d above low. absurd (omega (arith, above, low)) })
  at_top n None there (inl v) = inl v
  at_top n None there (inr (inl none)) = inr (λ d low. none_at n d there none low)
    where
      none_at : (n d : ℕ) → write_at e x n ≡ None → ((k : ℕ) → k < n → write_at e x k ≡ None) → d ≤ n → write_at e x d ≡ None
      none_at n d there none low = elim (cases_lt d n) [
        | inl under ↦ none d under
        | inr not_under ↦ ap (λ (k : ℕ). write_at e x k) (omega (arith, low, not_under)) ∙ there
      ]
  at_top n None there (inr (inr v)) =
      let is = v.2 in
      inl (
        v.0,
        record {
          low = omega (arith, v.1);
          written = is.written;
          content = is.content;
          newest = λ d above low. elim (cases_lt d n) [
            | inl under ↦ v.3 d above under
            | inr not_under ↦ ap (λ (k : ℕ). write_at e x k) (omega (arith, low, not_under)) ∙ there
          ];
        },
      )

  pub newest_or_none : (n : ℕ) → ((v : Revision) × IsVersion e x n v) ⊎ NoVersion e x n
  newest_or_none zero = at_top zero (write_at e x zero) refl (inr (inl (λ k under. absurd (omega (arith, under)))))
  newest_or_none (suc n) = elim (newest_or_none n) [
    | inl v ↦ at_top (suc n) (write_at e x (suc n)) refl (inr (inr (v.0, omega (arith, v.1.low), record { low = omega arith; written = v.1.written; content = v.1.content; newest = λ d above low. absurd (omega (arith, above, low)) }, λ k above under. v.1.newest k above (omega (arith, under)))))
    | inr none ↦ at_top (suc n) (write_at e x (suc n)) refl (inr (inl (λ k under. none k (omega (arith, under)))))
  ]
