use Rattle.std.proofs.Common.{◌≡◌, ◌==◌, ◌+◌, Some, length, slice_get, take, refl, sym, ap, ◌∙◌, subst}
use Rattle.std.specs.List.{list_any}
use Rattle.std.proofs.lemmas.Option.{slice_get_read}
use Rattle.pb_keeper.specs.Words.{AreChosen}
use Rattle.pb_keeper.specs.Choosing.{lacks_one}
use Rattle.pb_keeper.proofs.Choosing.{one_more, stands_twice}
use Rattle.pb_keeper.proofs.chosen.places_of.Goals as goal

pub returns-in_default-clause-none : goal.returns-in_default-clause-none
returns-in_default-clause-none c =
    let i = c.loop-one.one-index in
    let here : slice_get c.args.new.now i ≡ Some c.one-item.result = slice_get_read c.args.new.now (length c.args.new.now) i c.one-item.result refl c.loop-one-test.true c.one-item.is in
    λ is. lacks_one c.one-item.result (i, here) c.in_default.ensures.none

pub returns-then-contains-clause-none : goal.returns-then-contains-clause-none
returns-then-contains-clause-none c =
    let i = c.loop-one.one-index in
    let here : slice_get c.args.new.now i ≡ Some c.one-item.result = slice_get_read c.args.new.now (length c.args.new.now) i c.one-item.result refl c.loop-one-test.true c.one-item.is in
    λ is. stands_twice c.loop-one.places.items c.args.old.now c.args.new.now i c.in-Some.place c.one-item.result c.loop-one.invariant here c.in-Some.ensures.some (sym (ap (list_any (λ q. q == c.in-Some.place)) c.deref.ensures.value) ∙ sym c.contains.ensures.value ∙ c.if-contains.true)

pub loop-one-preserved : goal.loop-one-preserved
loop-one-preserved c =
    let i = c.loop-one.one-index in
    let here : slice_get c.args.new.now i ≡ Some c.one-item.result = slice_get_read c.args.new.now (length c.args.new.now) i c.one-item.result refl c.loop-one-test.true c.one-item.is in
    subst (λ l. AreChosen l c.args.old.now (take (i + 1) c.args.new.now)) (sym c.in_ok-push.ensures.items)
    (one_more c.loop-one.places.items c.args.old.now c.args.new.now i c.in-Some.place c.one-item.result c.loop-one.invariant here c.in-Some.ensures.some (sym (ap (list_any (λ q. q == c.in-Some.place)) c.deref.ensures.value) ∙ sym c.contains.ensures.value ∙ c.if-contains.false))
