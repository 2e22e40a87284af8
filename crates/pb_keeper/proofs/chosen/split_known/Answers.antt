use Rattle.std.proofs.Common.{◌≡◌, ◌++◌, ◌∷◌, [], arith, ap, sym, subst, length, ◌∙◌}
use Rattle.std.specs.Vec.Iter.{into_iter_items}
use Rattle.std.proofs.lemmas.List.{append_assoc, append-nil}
use Rattle.pb_base.proofs.Logic.{empty_by_length}
use Rattle.pb_keeper.specs.Choosing.{IsSplit, known_one, nothing, other_one}
use Rattle.pb_keeper.proofs.Choosing.{as_many, listed_if, others_are_new, unlisted_if}
use Rattle.pb_keeper.proofs.chosen.split_known.Goals as goal

pub loop-one-init : goal.loop-one-init
loop-one-init c = record {
  parts = grind (arith, c.into_iter-one-iterator.ensures.into_iter_gives);
  counted = grind (arith, c.into_iter-one-iterator.ensures.into_iter_gives);
  split = subst (λ k. IsSplit c.args.old.now [] k c.new-others.result.items) (sym c.new-known.ensures.items) (subst (λ k. IsSplit c.args.old.now [] [] k) (sym c.new-others.ensures.items) nothing);
}

pub loop-one-preserved-in-Continue-1 : goal.loop-one-preserved-in-Continue-1
loop-one-preserved-in-Continue-1 c = record {
  parts = grind (arith, append_assoc, c.loop-one.invariant.parts, c.in-Some.ensures.steps);
  counted = grind (arith, c.loop-one.invariant.counted, c.in-Some.ensures.steps);
  split =
      let there = listed_if c.args.old.now c.in-Some.one c.place_of.result (sym c.is_some.ensures ∙ c.if-is_some.true) c.place_of.ensures.some in
      subst (λ k. IsSplit c.args.old.now (c.loop-one.yielded ++ c.in-Some.one ∷ []) k c.loop-one.others.items) (sym c.in_ok-push.ensures.items)
      (known_one c.loop-one.yielded c.loop-one.known.items c.loop-one.others.items c.in-Some.one c.loop-one.invariant.split there);
}

pub loop-one-preserved : goal.loop-one-preserved
loop-one-preserved c = record {
  parts = grind (arith, append_assoc, c.loop-one.invariant.parts, c.in-Some.ensures.steps);
  counted = grind (arith, c.loop-one.invariant.counted, c.in-Some.ensures.steps);
  split =
      let absent = unlisted_if c.args.old.now c.in-Some.one c.place_of.result (sym c.is_some.ensures ∙ c.if-is_some.false) c.place_of.ensures.none in
      subst (λ k. IsSplit c.args.old.now (c.loop-one.yielded ++ c.in-Some.one ∷ []) c.loop-one.known.items k) (sym c.in_ok-push-2.ensures.items)
      (other_one c.loop-one.yielded c.loop-one.known.items c.loop-one.others.items c.in-Some.one c.loop-one.invariant.split absent);
}

pub returns-clause-as_many : goal.returns-clause-as_many
returns-clause-as_many c =
    let left = into_iter_items c.loop-one.one-iterator in
    let none : left ≡ [] = empty_by_length left (sym c.loop-one.invariant.counted ∙ c.in-None.ensures.steps.0) in
    let all : c.args.new.items ≡ c.loop-one.yielded = c.loop-one.invariant.parts ∙ ap (λ l. c.loop-one.yielded ++ l) none ∙ append-nil c.loop-one.yielded in
    as_many c.args.old.now c.loop-one.yielded c.loop-one.known.items c.loop-one.others.items c.loop-one.invariant.split ∙ ap length (sym all)

pub returns-clause-others : goal.returns-clause-others
returns-clause-others c o there was = others_are_new c.args.old.now c.loop-one.yielded c.loop-one.known.items c.loop-one.others.items c.loop-one.invariant.split o there was
