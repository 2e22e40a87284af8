use Rattle.std.proofs.Common.{arith, ◌≡◌, ◌-◌, ◌^◌, ◌∷◌, ◌++◌, Result, Ok, Err, codes, ap, sym, ◌∙◌}
use Rattle.pb_reading.specs.Reading.{lines_left, lines_of, numeral_upto}
use Rattle.pb_reading.proofs.NumeralValues.{numeral_back, numeral_is}
use Rattle.pb_reading.proofs.Readings.{ok_is}
use Rattle.pb_keep.proofs.Heads.{limit_first, limit_there, limits_begin, same_manifest, some_manifest}
use Rattle.pb_keep.proofs.head.first_limit.Goals as goal

pub returns-in_default-clause-some : goal.returns-in_default-clause-some
returns-in_default-clause-some c limit manifest low is none = let begins = limits_begin c.args.text.now limit manifest low is in c.in_default.ensures.cases begins.0 begins.1

pub returns-in_default-after-clause-some : goal.returns-in_default-after-clause-some
returns-in_default-after-clause-some c limit manifest low is none =
    let parts : c.args.text.now ≡ codes "limit " ++ c.in-Some.rest.now = c.in-Some.ensures.cases.1.1 ∙ ap (λ r. codes "limit " ++ r) (sym c.in-Some.ensures.cases.2) in
    let first = limit_first c.args.text.now c.in-Some.rest.now c.first_line.result.0.now c.first_line.result.1 limit manifest parts c.first_line.ensures low is in
    some_manifest c.first_line.result.1 manifest (grind (arith, c.in_default-after.is)) first.1

pub returns-in-Ok-clause-exact : goal.returns-in-Ok-clause-exact
returns-in-Ok-clause-exact c =
    let parts : c.args.text.now ≡ codes "limit " ++ c.in-Some.rest.now = c.in-Some.ensures.cases.1.1 ∙ ap (λ r. codes "limit " ++ r) (sym c.in-Some.ensures.cases.2) in
    let word = c.first_line.result.0.now in
    let lines : lines_of c.in-Some.rest.now ≡ word ∷ lines_of c.in-Some-after.manifest.now = c.first_line.ensures ∙ ap (λ o. word ∷ lines_left o) c.in-Some-after.is in
    let number = numeral_is (tt {0}) tt (2 ^ 64 - 2) c.in-Ok.limit word (omega arith) c.in-Ok.ensures.value in
    limit_there c.args.text.now c.in-Some.rest.now word c.in-Some-after.manifest.now c.in-Ok.limit parts lines number.0 number.1

pub returns-in-Ok-clause-found : goal.returns-in-Ok-clause-found
returns-in-Ok-clause-found c limit manifest low is =
    let parts : c.args.text.now ≡ codes "limit " ++ c.in-Some.rest.now = c.in-Some.ensures.cases.1.1 ∙ ap (λ r. codes "limit " ++ r) (sym c.in-Some.ensures.cases.2) in
    let word = c.first_line.result.0.now in
    let first = limit_first c.args.text.now c.in-Some.rest.now word c.first_line.result.1 limit manifest parts c.first_line.ensures low is in
    let back = numeral_back (tt {0}) tt (2 ^ 64 - 2) limit (omega (arith, low)) (omega (arith, low)) in (
      ok_is c.in-Ok.limit limit (sym c.in-Ok.ensures.value ∙ (ap (numeral_upto (tt {0}) tt (2 ^ 64 - 2)) first.0 ∙ back)),
      same_manifest c.in-Some-after.manifest.now manifest (sym (ap lines_left c.in-Some-after.is) ∙ first.1),
    )

ok_or_err : {T E : Type 0} (x : T) (e : E) (r : Result T E) → r ≡ Ok x → r ≡ Err e → ⊥
ok_or_err x e r is isnt = absurd (let both : Ok x ≡ Err e = sym is ∙ isnt in cc)

pub returns-in-Err-clause-some : goal.returns-in-Err-clause-some
returns-in-Err-clause-some c limit manifest low is none =
    let parts : c.args.text.now ≡ codes "limit " ++ c.in-Some.rest.now = c.in-Some.ensures.cases.1.1 ∙ ap (λ r. codes "limit " ++ r) (sym c.in-Some.ensures.cases.2) in
    let word = c.first_line.result.0.now in
    let first = limit_first c.args.text.now c.in-Some.rest.now word c.first_line.result.1 limit manifest parts c.first_line.ensures low is in
    let back = numeral_back (tt {0}) tt (2 ^ 64 - 2) limit (omega (arith, low)) (omega (arith, low)) in
    ok_or_err limit c.in-Err.field-0 (numeral_upto (tt {0}) tt (2 ^ 64 - 2) word) (ap (numeral_upto (tt {0}) tt (2 ^ 64 - 2)) first.0 ∙ back) c.in-Err.ensures.value
