use Rattle.std.proofs.Common.{arith, ◌≡◌, ◌+◌, ◌++◌, List, [], ◌∷◌, length, ap, refl, sym, subst, ◌∙◌}
use Rattle.std.specs.Vec.Iter.{into_iter_items}
use Rattle.std.proofs.lemmas.List.{append_assoc, append-nil, length-append}
use Rattle.pb_reading.proofs.Readings.{ok_is}
use Rattle.pb_keep.specs.Words.{Keeps, Writes, kept_table}
use Rattle.pb_keep.specs.Again.{KeepsMore}
use Rattle.pb_keep.specs.Causes.{IsOfAnew}
use Rattle.pb_keep.specs.First.{first_changes, room_after}
use Rattle.pb_keep.specs.Kept.{reported_count}
use Rattle.pb_keep.specs.Left.{IsRightOf}
use Rattle.pb_keeper.proofs.BrokenOff.{nothing_begun}
use Rattle.pb_keep.proofs.Causing.{script_anew, script_is_right, stopped_anew, stopped_rightly}
use Rattle.pb_keep.proofs.Firsts.{first_of_none, full_first, one_more_first}
use Rattle.pb_keep.proofs.Mapping.{on_err, passed_on}
use Rattle.pb_keep.proofs.Records.{reported_on}
use Rattle.pb_keep.proofs.Scripts.{empty_list}
use Rattle.pb_keep.proofs.anew.make_anew.Goals as goal

pub loop-batch-init : goal.loop-batch-init
loop-batch-init g c = record {
  parts = refl;
  counted = grind (arith, c.into_iter-batch-iterator.ensures.into_iter_gives);
  same = refl;
  keeps = λ first changes k. subst (λ l. Keeps c.args.limit first l (kept_table c.args.state.now c.args.stats.now.items)) (sym (append-nil changes)) k;
  count = grind arith;
  first = first_of_none (room_after c.args.most c.args.made.now);
}

pub loop-batch-preserved : goal.loop-batch-preserved
loop-batch-preserved g c =
    let i = c.loop-batch.invariant in
    let done = c.loop-batch.yielded in
    record {
      parts = grind (arith, append_assoc, c.loop-batch.invariant.parts, c.in-Some.ensures.steps);
      counted = grind (arith, c.loop-batch.invariant.counted, c.in-Some.ensures.steps);
      same = c.in_ok-make_counted.ensures.observers ∙ i.same;
      keeps = λ first changes k.
          subst (λ (l : List Writes). Keeps c.args.limit first l (kept_table c.make_counted.new.state c.make_counted.new.stats.items)) (append_assoc changes done (c.in-Some.batch ∷ []))
          (c.in_ok-make_counted.ensures.keeps first (changes ++ done) (i.keeps first changes k));
      count =
          let more = length-append done (c.in-Some.batch ∷ []) in
          c.saturating_add.ensures ∙ ap (λ n. reported_count (n + 1)) i.count ∙ reported_on (c.args.made.now + length done) 1 ∙ ap reported_count (omega (arith, more));
      first = one_more_first c.args.most c.is_full.ensures.range c.args.made.now c.loop-batch.made done c.in-Some.batch i.count (sym c.is_full.ensures.full ∙ c.if-is_full.false);
    }

-- the record wasn't read
pub returns-in_err-batches-clause-left : goal.returns-in_err-batches-clause-left
returns-in_err-batches-clause-left g c = on_err c.from_residual.result (record {
  done = [];
  begins = λ script is. (script, refl);
  reached = kept_table c.args.state.now c.args.stats.now.items;
  keeps = λ first changes k. subst (λ l. Keeps c.args.limit first l (kept_table c.args.state.now c.args.stats.now.items)) (sym (append-nil changes)) k;
  left = nothing_begun c.args.state.now;
  count = grind arith;
})

pub returns-in_err-batches-clause-why : goal.returns-in_err-batches-clause-why
returns-in_err-batches-clause-why g c =
    let r = c.args.record.now in
    passed_on c.from_residual.result c.from_residual.ensures.1
    (λ e is. subst (IsOfAnew (r ∷ [])) (sym is) (script_anew r c.in_err-batches.field-0.0 c.in_err-batches.ensures.why))

pub returns-in_err-batches-clause-right : goal.returns-in_err-batches-clause-right
returns-in_err-batches-clause-right g c = λ first changes k.
    let r = c.args.record.now in
    passed_on c.from_residual.result c.from_residual.ensures.1
    (λ e is. subst (IsRightOf c.args.state.now) (sym is) (script_is_right r c.args.state.now c.in_err-batches.field-0.0 c.in_err-batches.ensures.why))

-- a change of it wasn't made
pub returns-in_err-make_counted-clause-left : goal.returns-in_err-make_counted-clause-left
returns-in_err-make_counted-clause-left g c =
    let i = c.loop-batch.invariant in
    let gives : into_iter_items c.into_iter-batch-iterator.result ≡ c.in_ok-batches.batches.items = c.into_iter-batch-iterator.ensures.into_iter_gives.0 in
    on_err c.from_residual-in_err-make_counted.result (record {
      done = c.loop-batch.yielded;
      begins = λ script is. (into_iter_items c.loop-batch.batch-iterator, ok_is script c.in_ok-batches.batches.items (sym is ∙ c.in_ok-batches.ensures.ok) ∙ sym gives ∙ i.parts);
      reached = kept_table c.loop-batch.state c.loop-batch.stats.items;
      keeps = i.keeps;
      left = c.in_err-make_counted.ensures.left;
      count = i.count;
    })

pub returns-in_err-make_counted-clause-why : goal.returns-in_err-make_counted-clause-why
returns-in_err-make_counted-clause-why g c =
    let r = c.args.record.now in
    passed_on c.from_residual-in_err-make_counted.result c.from_residual-in_err-make_counted.ensures.1
    (λ e is. subst (IsOfAnew (r ∷ [])) (sym is) (stopped_anew (r ∷ []) c.in_err-make_counted.field-0.0))

pub returns-in_err-make_counted-clause-right : goal.returns-in_err-make_counted-clause-right
returns-in_err-make_counted-clause-right g c = λ first changes k.
    let i = c.loop-batch.invariant in
    passed_on c.from_residual-in_err-make_counted.result c.from_residual-in_err-make_counted.ensures.1
    (λ e is. subst (IsRightOf c.make_counted.new.state) (sym is)
    (stopped_rightly c.in_err-make_counted.field-0.0 c.make_counted.new.state (c.in_err-make_counted.ensures.stops first (changes ++ c.loop-batch.yielded) (i.keeps first changes k))))

-- no more may be made
pub returns-then-is_full-clause-keeps : goal.returns-then-is_full-clause-keeps
returns-then-is_full-clause-keeps g c =
    let i = c.loop-batch.invariant in
    let done = c.loop-batch.yielded in
    let rest = into_iter_items c.loop-batch.batch-iterator in
    let gives : into_iter_items c.into_iter-batch-iterator.result ≡ c.in_ok-batches.batches.items = c.into_iter-batch-iterator.ensures.into_iter_gives.0 in
    let all : c.in_ok-batches.batches.items ≡ done ++ rest = sym gives ∙ i.parts in
    let first : first_changes (room_after c.args.most c.args.made.now) c.in_ok-batches.batches.items ≡ done =
    ap (first_changes (room_after c.args.most c.args.made.now)) all ∙ full_first c.args.most c.args.made.now c.loop-batch.made done rest i.count (sym c.is_full.ensures.full ∙ c.if-is_full.true) i.first in
    record {
      script = c.in_ok-batches.batches.items;
      reads = c.in_ok-batches.ensures.ok;
      keeps = subst (λ l. KeepsMore c.args.limit (kept_table c.args.state.now c.args.stats.now.items) l (kept_table c.loop-batch.state c.loop-batch.stats.items)) (sym first) i.keeps;
      count = i.count ∙ ap (λ l. reported_count (c.args.made.now + length l)) (sym first);
    }

pub returns-clause-keeps : goal.returns-clause-keeps
returns-clause-keeps g c =
    let i = c.loop-batch.invariant in
    let none : into_iter_items c.loop-batch.batch-iterator ≡ [] = empty_list (into_iter_items c.loop-batch.batch-iterator) (sym i.counted ∙ c.in-None.ensures.steps.0) in
    let gives : into_iter_items c.into_iter-batch-iterator.result ≡ c.in_ok-batches.batches.items = c.into_iter-batch-iterator.ensures.into_iter_gives.0 in
    let all : c.loop-batch.yielded ≡ c.in_ok-batches.batches.items = sym (append-nil c.loop-batch.yielded) ∙ ap (λ l. c.loop-batch.yielded ++ l) (sym none) ∙ sym i.parts ∙ gives in
    let first : c.loop-batch.yielded ≡ first_changes (room_after c.args.most c.args.made.now) c.in_ok-batches.batches.items = sym i.first ∙ ap (first_changes (room_after c.args.most c.args.made.now)) all in
    record {
      script = c.in_ok-batches.batches.items;
      reads = c.in_ok-batches.ensures.ok;
      keeps = subst (λ l. KeepsMore c.args.limit (kept_table c.args.state.now c.args.stats.now.items) l (kept_table c.loop-batch.state c.loop-batch.stats.items)) first i.keeps;
      count = i.count ∙ ap (λ l. reported_count (c.args.made.now + length l)) first;
    }
