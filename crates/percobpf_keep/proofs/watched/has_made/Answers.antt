use Rattle.std.proofs.Common.{◌≡◌, Bool, true, false, IsTrue, ℕ, List, Option, Some, None, codes, sym, ◌∙◌, arith}
use Rattle.std.specs.Prelude.{is_some}
use Rattle.memchr.specs.Find.{FindsNeedle, OccursAt}
use Rattle.percobpf_keep.proofs.watched.has_made.Goals as goal

-- whether a search finds something is whether it is there
found : (hay needle : List ℕ) (r : Option ℕ) (b : Bool) → FindsNeedle hay needle 0 r → b ≡ is_some r → (IsTrue b → (at : ℕ) × OccursAt hay needle at) × ((at : ℕ) × OccursAt hay needle at → IsTrue b)
found hay needle None b h e = (λ yes. let wrong : false ≡ true = sym e ∙ yes in absurd cc, λ p. absurd (h p.0 (omega arith) (omega (arith, p.1.fits)) p.1))
found hay needle (Some k) b h e = (λ _. (k, h.1), λ _. e)

pub returns : goal.returns
returns c = found c.args.answers.now (codes "made ") c.find.result c.is_some.result c.find.ensures c.is_some.ensures
