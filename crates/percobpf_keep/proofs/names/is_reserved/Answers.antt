use Rattle.std.proofs.Common.{◌≡◌, ◌-◌, Bool, true, false, IsTrue, ℕ, List, codes, length, take, sym, subst, refl, ◌∙◌, inl, inr, ⊎_elim}
use Rattle.std.specs.List.{ends_with}
use Rattle.std.specs.Prelude.{◌==◌}
use Rattle.std.proofs.lemmas.Slice.Eq.{ends_is}
use Rattle.std.proofs.lemmas.Bool.Decides.{Decides-eqb}
use Rattle.percobpf_keep.specs.Names.{HasEnding}
use Rattle.percobpf_keep.proofs.names.is_reserved.Goals as goal

-- what a test of the last bytes shows about a name
ends : (path bytes ending : List ℕ) (r : Bool) → bytes ≡ path → r ≡ ends_with (λ x y. x == y) bytes ending → (IsTrue r → HasEnding ending path) × (HasEnding ending path → IsTrue r)
ends path bytes ending true same e = (λ _. (take (length bytes - length ending) bytes, sym same ∙ (ends_is Decides-eqb bytes ending true e).0 refl), λ _. refl)
ends path bytes ending false same e = (λ f. absurd cc, λ h. let wrong : false ≡ true = (ends_is Decides-eqb bytes ending false e).1 h.0 (same ∙ h.1) in absurd cc)

pub returns-then-ends_with : goal.returns-then-ends_with
returns-then-ends_with c =
    let yes : IsTrue c.ends_with.result = subst (λ b. IsTrue b) (sym c.if-ends_with.true) refl in
    let its = ends c.args.path.now c.as_bytes.result.now (codes "~new") c.ends_with.result c.as_bytes.ensures.value c.ends_with.ensures.value in
    (λ _. inl (its.0 yes), λ _. yes)

pub returns-else-ends_with : goal.returns-else-ends_with
returns-else-ends_with c =
    let its = ends c.args.path.now c.as_bytes.result.now (codes "~new") c.ends_with.result c.as_bytes.ensures.value c.ends_with.ensures.value in
    let more = ends c.args.path.now c.as_bytes-else-ends_with.result.now (codes "~new-wal") c.ends_with-else-ends_with.result c.as_bytes-else-ends_with.ensures.value c.ends_with-else-ends_with.ensures.value in
    (λ yes. inr (more.0 yes), λ h. ⊎_elim (λ e. let wrong : false ≡ true = sym c.if-ends_with.false ∙ its.1 e in absurd cc) (λ e. more.1 e) h)
