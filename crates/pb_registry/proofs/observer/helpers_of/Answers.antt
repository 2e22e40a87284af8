use Rattle.std.proofs.Common.{rules, ◌≡◌, ◌≤◌, pos, true, false, Some, None, sym, ◌∙◌, arith, is_some, option_map}
use Rattle.pb_registry.specs.Words.{helper_of, declared_helper, with_helper}
use Rattle.pb_registry.proofs.HelperElements.{number_of, beyond_no_helpers, twice_no_helpers, no_helper, one_more_helper}
use Rattle.pb_registry.proofs.observer.helpers_of.Goals.{then-number-gt4-via-then-number-gt4, then-number-gt4-via-else-number-gt4+then-declares}
use Rattle.pb_registry.proofs.observer.helpers_of.Goals as goal

pub returns-then-number-gt4 : goal.returns-then-number-gt4
returns-then-number-gt4 c =
    let n : c.unwrap_or-number.result ≡ number_of c.element-item.result = search rules in
    elim c.then-number-gt4.branch [
      | then-number-gt4-via-then-number-gt4 w ↦ beyond_no_helpers c.args.elements.now c.loop-element.element-index c.element-item.result c.loop-element-test.true (sym c.element-item.is) c.unwrap_or-number.result n c.loop-element.helpers c.loop-element.invariant.set w.if-number-gt4.true
      | then-number-gt4-via-else-number-gt4+then-declares w ↦
          let low : c.unwrap_or-number.result ≤ 4 = omega arith in
          let there : is_some (declared_helper c.loop-element.helpers (pos c.unwrap_or-number.result)) ≡ true = search rules in
          twice_no_helpers c.args.elements.now c.loop-element.element-index c.element-item.result c.loop-element-test.true (sym c.element-item.is) c.unwrap_or-number.result n c.loop-element.helpers c.loop-element.invariant.set low there
    ]

pub returns-in_err-helpers : goal.returns-in_err-helpers
returns-in_err-helpers c =
    let n : c.unwrap_or-number.result ≡ number_of c.element-item.result = search rules in
    let low : c.unwrap_or-number.result ≤ 4 = omega arith in
    let none : option_map (with_helper c.loop-element.helpers) (helper_of (pos c.unwrap_or-number.result)) ≡ None = search rules in
    let is : c.from_residual.result ≡ None = search rules in
    is ∙ no_helper c.args.elements.now c.loop-element.element-index c.element-item.result c.loop-element-test.true (sym c.element-item.is) c.unwrap_or-number.result n c.loop-element.helpers c.loop-element.invariant.set low none

pub loop-element-preserved : goal.loop-element-preserved
loop-element-preserved c =
    let n : c.unwrap_or-number.result ≡ number_of c.element-item.result = search rules in
    let low : c.unwrap_or-number.result ≤ 4 = omega arith in
    let absent : is_some (declared_helper c.loop-element.helpers (pos c.unwrap_or-number.result)) ≡ false = search rules in
    let some : option_map (with_helper c.loop-element.helpers) (helper_of (pos c.unwrap_or-number.result)) ≡ Some c.in_ok-helpers.helpers = search rules in
    let m = one_more_helper c.args.elements.now c.loop-element.element-index c.element-item.result c.loop-element-test.true (sym c.element-item.is) c.unwrap_or-number.result n c.loop-element.helpers c.loop-element.invariant.set c.in_ok-helpers.helpers low c.loop-element.invariant.are absent some in
    record { are = m.0; set = m.1 }
