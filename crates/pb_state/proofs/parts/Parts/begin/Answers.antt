use Rattle.std.proofs.Common.{◌≡◌, ◌≤◌, Some, ap, subst, arith}
use Rattle.std.specs.FinMap as map
use Rattle.pb_state.specs.Words.{StateOf}
use Rattle.pb_history.proofs.SoundHasData.{keeps_data}
use Rattle.pb_state.proofs.parts.Parts.begin.Goals as goal

-- no transaction began above the clock
pub add-requires : goal.add-requires
add-requires g c s t is =
    let clock : c.self.inside.clock ≡ c.args.self.now.clock = ap (λ (z : StateOf). z.clock) c.self.view_is in
    let begun : s ≤ c.args.self.now.clock = (keeps_data c.args.self.now c.requires.sound).begun s t (subst (λ (z : StateOf). map.get z.transactions s ≡ Some t) c.self.view_is is) in
    omega (arith, clock, begun)
