use Rattle.std.proofs.Common.{◌≡◌, ◌++◌, ◌+◌, ◌<◌, ◌^◌, length, Bool, true, false, IsTrue, IfSome, is_some, Option, Some, None, ℕ, List, Bor, ap, sym, ◌∙◌, refl, subst, arith}
use Rattle.pb_log.specs.Records.{StandsOpen, Hides, body, block}
use Rattle.pb_log.proofs.Bodies.{one_body}
use Rattle.pb_log.proofs.reading.hides_record.Goals as goal

-- the record that stands after a closed gate is hidden if the next one was found
hides_if_found : (at : ℕ) (bytes item rest : List ℕ) → length item < 2 ^ 32 → bytes ≡ body at item ++ rest → (r : Option (Bor (List ℕ) × Bor (List ℕ))) → IfSome r (λ p. length p.0.now < 2 ^ 32) → IfSome r (λ p. rest ≡ block (at + 13 + length item) p.0.now ++ p.1.now) → (r ≡ None → StandsOpen (at + 13 + length item) rest → ⊥) → (IsTrue (is_some r) → Hides at bytes) × (Hides at bytes → IsTrue (is_some r))
hides_if_found at bytes item rest short is None a b none = (
  λ (found : false ≡ true). absurd (grind (arith, found)),
  λ (h : Hides at bytes).
      let same = one_body at item h.hidden.item rest h.hidden.rest short h.hidden.short (sym is ∙ h.hidden.is) in
      let place : at + 13 + length h.hidden.item ≡ at + 13 + length item = ap (λ (x : List ℕ). at + 13 + length x) (sym same.0) in
      absurd (none refl (subst (λ (x : List ℕ). StandsOpen (at + 13 + length item) x) (sym same.1) (subst (λ (k : ℕ). StandsOpen k h.hidden.rest) place h.next))),
)
hides_if_found at bytes item rest short is (Some p) a b none = (
  λ (found : true ≡ true). record {
    hidden = record { item = item; rest = rest; short = short; is = is };
    next = record { item = p.0.now; rest = p.1.now; short = a; is = b };
  },
  λ (h : Hides at bytes). refl,
)

pub returns-in-Some : goal.returns-in-Some
returns-in-Some c =
    let r = c.split_record.result in
    let told = hides_if_found c.args.at c.args.bytes.now c.in-Some.item.now c.in-Some.rest.now c.in-Some.ensures.short c.in-Some.ensures.some r c.split_record.ensures.short c.split_record.ensures.some c.split_record.ensures.none in
    subst (λ (b : Bool). (IsTrue b → Hides c.args.at c.args.bytes.now) × (Hides c.args.at c.args.bytes.now → IsTrue b)) (sym c.is_some.ensures) told
