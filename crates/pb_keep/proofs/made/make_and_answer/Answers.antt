use Rattle.std.proofs.Common.{◌≡◌, ◌∷◌, ◌++◌, [], refl, ap, sym, subst, ◌∙◌, arith, Ok, Err, OnErr}
use Rattle.std.specs.Prelude.{string_bytes}
use Rattle.std.specs.Vec.Iter.{into_iter_items}
use Rattle.pb_keep.specs.Words.{Keeps, kept_table}
use Rattle.pb_keep.specs.Waits.{changes_in, AreAnswers, AreSomeAnswers}
use Rattle.std.proofs.lemmas.List.{append_assoc, append-nil}
use Rattle.pb_keep.proofs.Added.{changes_of_both}
use Rattle.pb_keep.specs.Left.{IsRefusedMemory}
use Rattle.pb_keep.proofs.InTime.{clock_on, next_in_time}
use Rattle.pb_keep.proofs.Mapping.{passed_on}
use Rattle.pb_keep.proofs.made.make_and_answer.Goals as goal

pub loop-item-init : goal.loop-item-init
loop-item-init g c = record {
  parts = grind (arith, c.into_iter-item-iterator.ensures.into_iter_gives);
  counted = grind (arith, c.into_iter-item-iterator.ensures.into_iter_gives);
  answers = ([], sym (append-nil (string_bytes c.args.text.now)), AreAnswers.none (kept_table c.args.state.now c.args.stats.now.items));
  same = refl;
  clock = omega arith;
  keeps = λ first changes k. subst (λ l. Keeps c.args.limit first l (kept_table c.args.state.now c.args.stats.now.items)) (sym (append-nil changes)) k;
}

pub loop-item-preserved : goal.loop-item-preserved
loop-item-preserved g c = record {
  parts = grind (arith, append_assoc, c.loop-item.invariant.parts, c.in-Some.ensures.steps);
  counted = grind (arith, c.loop-item.invariant.counted, c.in-Some.ensures.steps);
  answers =
      let i = c.loop-item.invariant.answers in
      let a = c.in_ok-answer.ensures.answer in (
        i.0 ++ a.0,
        a.1 ∙ ap (λ l. l ++ a.0) i.1 ∙ append_assoc (string_bytes c.args.text.now) i.0 a.0,
        AreAnswers.one_more c.loop-item.yielded c.in-Some.item (kept_table c.args.state.now c.args.stats.now.items) (kept_table c.loop-item.state c.loop-item.stats.items) (kept_table c.answer.new.state c.answer.new.stats.items) i.0 a.0 i.2 a.2,
      );
  same = c.in_ok-answer.ensures.observers ∙ c.loop-item.invariant.same;
  clock = clock_on c.loop-item.yielded c.in-Some.item c.args.state.now.clock c.loop-item.state.clock c.answer.new.state.clock c.loop-item.invariant.clock c.in_ok-answer.ensures.clock;
  keeps = λ first changes k.
      let is : changes ++ changes_in (c.loop-item.yielded ++ c.in-Some.item ∷ []) ≡ (changes ++ changes_in c.loop-item.yielded) ++ changes_in (c.in-Some.item ∷ []) =
      ap (λ l. changes ++ l) (changes_of_both c.loop-item.yielded (c.in-Some.item ∷ [])) ∙ sym (append_assoc changes (changes_in c.loop-item.yielded) (changes_in (c.in-Some.item ∷ []))) in
      subst (λ l. Keeps c.args.limit first l (kept_table c.answer.new.state c.answer.new.stats.items)) (sym is)
      (c.in_ok-answer.ensures.keeps first (changes ++ changes_in c.loop-item.yielded) (c.loop-item.invariant.keeps first changes k));
}

pub returns-in_err-answer-clause-some : goal.returns-in_err-answer-clause-some
returns-in_err-answer-clause-some g c =
    let i = c.loop-item.invariant.answers in
    let some : AreSomeAnswers c.args.limit c.args.items.items (kept_table c.args.state.now c.args.stats.now.items) (string_bytes c.args.text.now) (string_bytes c.answer.new.text) = record {
      front = c.loop-item.yielded;
      rest = into_iter_items c.loop-item.item-iterator;
      parts = c.loop-item.invariant.parts;
      now = kept_table c.loop-item.state c.loop-item.stats.items;
      text = i.0;
      answers = i.2;
      added = c.in_err-answer.ensures.unanswered ∙ i.1;
    } in
    elim c.from_residual.result as (λ r. OnErr r (AreSomeAnswers c.args.limit c.args.items.items (kept_table c.args.state.now c.args.stats.now.items) (string_bytes c.args.text.now) (string_bytes c.answer.new.text))) [
      | Ok x ↦ tt
      | Err e ↦ some
    ]

pub returns-in_err-answer-clause-in_time : goal.returns-in_err-answer-clause-in_time
returns-in_err-answer-clause-in_time g c = λ first changes k room.
    passed_on c.from_residual.result c.from_residual.ensures.1
    (λ e is. subst IsRefusedMemory (sym is) (c.in_err-answer.ensures.in_time first (changes ++ changes_in c.loop-item.yielded) (c.loop-item.invariant.keeps first changes k)
    (next_in_time c.args.items.items c.loop-item.yielded (into_iter_items c.next.new.self) c.in-Some.item c.args.state.now c.loop-item.state
    (c.loop-item.invariant.parts ∙ ap (λ l. c.loop-item.yielded ++ l) c.in-Some.ensures.steps.0) c.loop-item.invariant.clock room)))
