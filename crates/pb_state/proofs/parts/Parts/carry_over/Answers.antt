use Rattle.std.proofs.Common.{◌≡◌, ◌+◌, List, [], arith, refl, sym, ap, ◌∙◌, subst, take}
use Rattle.std.proofs.lemmas.Option.{slice_get_read, slice_get_within}
use Rattle.std.proofs.lemmas.Result.{err_from_is_err_and}
use Rattle.pb_state.specs.Words.{ObserverOf, StateOf}
use Rattle.pb_state.specs.CarriedOver.{AreVersionsBy, IsAmiss, IsCarriedOver, MayFollow, state_with_version}
use Rattle.pb_state.proofs.CarriedSound.{carried_sound}
use Rattle.pb_state.proofs.Carrying.{began_last, carried_more, carried_none}
use Rattle.pb_state.proofs.Taking.{take_with_next}
use Rattle.pb_state.proofs.VersionOrder.{no_versions, ordered_more, versions_more}
use Rattle.pb_state.proofs.parts.Parts.carry_over.Goals as goal

pub loop-place-init : goal.loop-place-init
loop-place-init g c =
    let was = ap (λ (z : StateOf). record z { clock = c.args.last.0 }) (c.self.view_is ∙ c.requires.opened) in
    record {
      carried = subst (IsCarriedOver c.args.self.now.observers c.args.self.now.seats c.args.last.0 []) (sym was) (carried_none c.args.self.now.observers c.args.self.now.seats c.args.last.0);
      versions = no_versions c.args.last.0;
      ordered = λ n d low is. absurd (omega (arith, low));
    }

pub returns-in_err-admit_version-clause-err : goal.returns-in_err-admit_version-clause-err
returns-in_err-admit_version-clause-err g c =
    let p = err_from_is_err_and c.from_residual.result c.from_residual.ensures.1 in
    let seen : c.deref.result.now ≡ c.args.self.now.observers = c.deref.ensures.value ∙ ap (λ (z : StateOf). z.observers) c.self-in-loop-place.view_is ∙ c.loop-place.invariant.carried.observers_are in
    let there = slice_get_read c.args.cells.now _ c.loop-place.place c.index-cells-place.result refl c.loop-place-test.true c.index-cells-place.is in
    rw (p.1, p.2) (
      c.loop-place.place,
      c.loop-place.invariant.carried,
      (c.index-cells-place.result, there, subst (λ (os : List ObserverOf). IsAmiss os c.args.last.0 (take c.loop-place.place c.args.cells.now) c.index-cells-place.result c.in_err-admit_version.field-0.0) seen c.in_err-admit_version.ensures.err),
    )

pub returns-in_err-admit_version-clause-sound : goal.returns-in_err-admit_version-clause-sound
returns-in_err-admit_version-clause-sound g c = carried_sound _ _ _ _ c.loop-place.self c.loop-place.invariant.carried c.loop-place.invariant.versions (omega arith)

pub put_version-requires : goal.put_version-requires
put_version-requires g c = began_last _ _ _ _ _ c.loop-place.self c.loop-place.invariant.carried _ _ c.in_ok-admit_version.ensures.ok c.loop-place.invariant.versions

pub returns-in_err-put_version-clause-err : goal.returns-in_err-put_version-clause-err
returns-in_err-put_version-clause-err g c =
    let p = err_from_is_err_and c.from_residual-in_err-put_version.result c.from_residual-in_err-put_version.ensures.1 in
    let there = slice_get_read c.args.cells.now _ c.loop-place.place c.index-cells-place.result refl c.loop-place-test.true c.index-cells-place.is in
    rw (p.1, p.2) (
      c.loop-place.place,
      subst (IsCarriedOver _ _ _ _) (sym c.in_err-put_version.ensures.err) c.loop-place.invariant.carried,
      (c.index-cells-place.result, there, tt),
    )

pub returns-in_err-put_version-clause-sound : goal.returns-in_err-put_version-clause-sound
returns-in_err-put_version-clause-sound g c =
    carried_sound _ _ _ _ c.put_version.new.self (subst (IsCarriedOver _ _ _ _) (sym c.in_err-put_version.ensures.err) c.loop-place.invariant.carried) c.loop-place.invariant.versions (omega arith)

pub loop-place-preserved : goal.loop-place-preserved
loop-place-preserved g c =
    let next = c.index-cells-place.result in
    let place = c.loop-place.place in
    let seen : c.deref.result.now ≡ c.args.self.now.observers = c.deref.ensures.value ∙ ap (λ (z : StateOf). z.observers) c.self-in-loop-place.view_is ∙ c.loop-place.invariant.carried.observers_are in
    let there = slice_get_read c.args.cells.now _ place next refl c.loop-place-test.true c.index-cells-place.is in
    let one = sym (take_with_next c.args.cells.now place next there) in
    let may = c.in_ok-admit_version.ensures.ok in
    record {
      carried = subst (IsCarriedOver c.args.self.now.observers c.args.self.now.seats c.args.last.0 (take (place + 1) c.args.cells.now)) (sym c.in_ok-put_version.ensures.ok)
          (subst (λ cells. IsCarriedOver c.args.self.now.observers c.args.self.now.seats c.args.last.0 cells (state_with_version c.loop-place.self next.0 next.1)) one
          (carried_more _ _ _ _ _ c.loop-place.self c.loop-place.invariant.carried next.0 next.1 may c.loop-place.invariant.versions));
      versions = subst (AreVersionsBy c.args.last.0) one (versions_more _ _ _ next c.loop-place.invariant.versions may);
      ordered = ordered_more c.args.self.now.observers c.args.last.0 c.args.cells.now place next there
          (subst (λ (os : List ObserverOf). MayFollow os c.args.last.0 (take place c.args.cells.now) next) seen may) c.loop-place.invariant.ordered;
    }

pub returns-clause-ordered : goal.returns-clause-ordered
returns-clause-ordered g c = λ n d is. let within = slice_get_within c.args.cells.now n d is in c.loop-place.invariant.ordered n d (omega (arith, within, c.loop-place-test.false)) is

pub returns-clause-sound : goal.returns-clause-sound
returns-clause-sound g c = carried_sound _ _ _ _ c.loop-place.self c.loop-place.invariant.carried c.loop-place.invariant.versions (omega arith)
