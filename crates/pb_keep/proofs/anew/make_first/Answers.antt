use Rattle.std.proofs.Common.{arith, ◌≡◌, ◌+◌, ◌++◌, length, [], ◌∷◌, map, ap, refl, sym, subst, ◌∙◌}
use Rattle.std.specs.Vec.Iter.{into_iter_items}
use Rattle.std.proofs.lemmas.List.{append_assoc, append-nil, length-append, map-append}
use Rattle.pb_reading.proofs.Readings.{ok_is}
use Rattle.pb_keep.specs.Words.{Keeps, kept_table, script_of}
use Rattle.pb_keep.specs.Again.{KeepsMore}
use Rattle.pb_keep.specs.Causes.{IsOfAnew}
use Rattle.pb_keep.specs.First.{first_changes, room_after}
use Rattle.pb_keep.specs.Kept.{changes_of, reported_count}
use Rattle.pb_keep.specs.Left.{IsRightOf}
use Rattle.pb_keep.proofs.Causing.{made_among}
use Rattle.pb_keep.proofs.Firsts.{all_first, first_of_none, first_on, no_more_first}
use Rattle.pb_keep.proofs.Mapping.{on_err, passed_on}
use Rattle.pb_keep.proofs.Records.{changes_parted, map_more, no_changes, records_more, reported_on}
use Rattle.pb_keep.proofs.Scripts.{empty_list}
use Rattle.pb_keep.proofs.anew.make_first.Goals as goal

pub loop-record-init : goal.loop-record-init
loop-record-init g c = record {
  parts = grind (arith, c.into_iter-record-iterator.ensures.into_iter_gives);
  counted = grind (arith, c.into_iter-record-iterator.ensures.into_iter_gives);
  same = refl;
  made = (
    [],
    no_changes,
    record {
      keeps = λ first changes k. subst (λ l. Keeps c.args.limit first l (kept_table c.args.state.now c.args.stats.now.items)) (sym (append-nil changes) ∙ ap (λ l. changes ++ l) (sym (first_of_none c.args.most))) k;
      count = c.requires.none ∙ ap (λ l. reported_count (length l)) (sym (first_of_none c.args.most));
    },
  );
}

pub loop-record-preserved : goal.loop-record-preserved
loop-record-preserved g c = record {
  parts = grind (arith, append_assoc, c.loop-record.invariant.parts, c.in-Some.ensures.steps);
  counted = grind (arith, c.loop-record.invariant.counted, c.in-Some.ensures.steps);
  same = c.in_ok-make_anew.ensures.observers ∙ c.loop-record.invariant.same;
  made =
      let most = c.args.most in
      let i = c.loop-record.invariant.made in
      let m = c.in_ok-make_anew.ensures.keeps in
      let room = sym c.is_full.ensures.full ∙ c.if-is_full.false in
      let so_far = all_first most c.is_full.ensures.range c.loop-record.made i.0 i.2.count room in
      let count : c.loop-record.made ≡ reported_count (length i.0) = i.2.count ∙ ap (λ l. reported_count (length l)) so_far in
      let more = first_changes (room_after most c.loop-record.made) m.script in
      let first : first_changes most (i.0 ++ m.script) ≡ i.0 ++ more = first_on most c.is_full.ensures.range c.loop-record.made i.0 m.script count room in (
        i.0 ++ m.script,
        ap changes_of (map_more (λ v. v.items) c.loop-record.yielded c.in-Some.record)
            ∙ records_more (map (λ v. v.items) c.loop-record.yielded) c.in-Some.record.items i.0 m.script i.1 (ap script_of (sym c.deref.ensures.value) ∙ m.reads),
        record {
          keeps = λ begun changes k.
              subst (λ l. Keeps c.args.limit begun l (kept_table c.make_anew.new.state c.make_anew.new.stats.items)) (append_assoc changes i.0 more ∙ ap (λ l. changes ++ l) (sym first))
              (m.keeps begun (changes ++ i.0) (subst (λ l. Keeps c.args.limit begun (changes ++ l) (kept_table c.loop-record.state c.loop-record.stats.items)) so_far (i.2.keeps begun changes k)));
          count = m.count ∙ ap (λ n. reported_count (n + length more)) count ∙ reported_on (length i.0) (length more) ∙ ap reported_count (sym (length-append i.0 more)) ∙ ap (λ l. reported_count (length l)) (sym first);
        },
      );
}

-- the records so far, the next one and the others
pub returns-then-is_full-clause-first : goal.returns-then-is_full-clause-first
returns-then-is_full-clause-first g c = λ changes reads.
    let i = c.loop-record.invariant.made in
    let rest = into_iter_items c.next.new.self in
    let records : c.args.records.items ≡ c.loop-record.yielded ++ c.in-Some.record ∷ rest = c.loop-record.invariant.parts ∙ ap (λ l. c.loop-record.yielded ++ l) c.in-Some.ensures.steps.0 in
    let split = sym (map-append (λ v. v.items) c.loop-record.yielded (c.in-Some.record ∷ rest)) ∙ ap (map (λ v. v.items)) (sym records) in
    let p = changes_parted (map (λ v. v.items) c.loop-record.yielded) c.in-Some.record.items (map (λ v. v.items) rest) changes i.0 (ap changes_of split ∙ reads) i.1 in
    let first : first_changes c.args.most changes ≡ first_changes c.args.most i.0 = ap (first_changes c.args.most) p.3 ∙ no_more_first c.args.most c.loop-record.made i.0 (p.0 ++ p.1) i.2.count (sym c.is_full.ensures.full ∙ c.if-is_full.true) in
    record {
      keeps = subst (λ l. KeepsMore c.args.limit (kept_table c.args.state.now c.args.stats.now.items) l (kept_table c.loop-record.state c.loop-record.stats.items)) (sym first) i.2.keeps;
      count = i.2.count ∙ ap (λ l. reported_count (length l)) (sym first);
    }

pub returns-in_err-make_anew-clause-some : goal.returns-in_err-make_anew-clause-some
returns-in_err-make_anew-clause-some g c = λ changes reads.
    let i = c.loop-record.invariant.made in
    let left = c.in_err-make_anew.ensures.left in
    let rest = into_iter_items c.next.new.self in
    let room = sym c.is_full.ensures.full ∙ c.if-is_full.false in
    let so_far = all_first c.args.most c.is_full.ensures.range c.loop-record.made i.0 i.2.count room in
    let count : c.loop-record.made ≡ reported_count (length i.0) = i.2.count ∙ ap (λ l. reported_count (length l)) so_far in
    let records : c.args.records.items ≡ c.loop-record.yielded ++ c.in-Some.record ∷ rest = c.loop-record.invariant.parts ∙ ap (λ l. c.loop-record.yielded ++ l) c.in-Some.ensures.steps.0 in
    let split = sym (map-append (λ v. v.items) c.loop-record.yielded (c.in-Some.record ∷ rest)) ∙ ap (map (λ v. v.items)) (sym records) in
    let p = changes_parted (map (λ v. v.items) c.loop-record.yielded) c.in-Some.record.items (map (λ v. v.items) rest) changes i.0 (ap changes_of split ∙ reads) i.1 in
    let begun = left.begins p.0 (ap script_of c.deref.ensures.value ∙ p.2) in
    on_err c.from_residual.result (record {
      done = i.0 ++ left.done;
      rest = begun.0 ++ p.1;
      parts = p.3 ∙ ap (λ l. i.0 ++ (l ++ p.1)) begun.1 ∙ ap (λ l. i.0 ++ l) (append_assoc left.done begun.0 p.1) ∙ sym (append_assoc i.0 left.done (begun.0 ++ p.1));
      reached = left.reached;
      left = left.left;
      keeps = λ first changes k.
          subst (λ l. Keeps c.args.limit first l left.reached) (append_assoc changes i.0 left.done)
          (left.keeps first (changes ++ i.0) (subst (λ l. Keeps c.args.limit first (changes ++ l) (kept_table c.loop-record.state c.loop-record.stats.items)) so_far (i.2.keeps first changes k)));
      count = left.count ∙ ap (λ n. reported_count (n + length left.done)) count ∙ reported_on (length i.0) (length left.done) ∙ ap reported_count (sym (length-append i.0 left.done));
    })

-- what stopped one is of a record among all
pub returns-in_err-make_anew-clause-why : goal.returns-in_err-make_anew-clause-why
returns-in_err-make_anew-clause-why g c =
    let rest = into_iter_items c.next.new.self in
    let e = c.in_err-make_anew.field-0.0 in
    let records : c.args.records.items ≡ c.loop-record.yielded ++ c.in-Some.record ∷ rest = c.loop-record.invariant.parts ∙ ap (λ l. c.loop-record.yielded ++ l) c.in-Some.ensures.steps.0 in
    let split = sym (map-append (λ v. v.items) c.loop-record.yielded (c.in-Some.record ∷ rest)) ∙ ap (map (λ v. v.items)) (sym records) in
    let own = subst (λ b. IsOfAnew (b ∷ []) e) c.deref.ensures.value c.in_err-make_anew.ensures.why in
    passed_on c.from_residual.result c.from_residual.ensures.1
    (λ f is. subst (IsOfAnew (map (λ v. v.items) c.args.records.items)) (sym is)
    (subst (λ l. IsOfAnew l e) split (made_among (map (λ v. v.items) c.loop-record.yielded) c.in-Some.record.items (map (λ v. v.items) rest) e own)))

pub returns-in_err-make_anew-clause-right : goal.returns-in_err-make_anew-clause-right
returns-in_err-make_anew-clause-right g c = λ first changes k.
    let i = c.loop-record.invariant.made in
    passed_on c.from_residual.result c.from_residual.ensures.1
    (λ f is. subst (IsRightOf c.make_anew.new.state) (sym is) (c.in_err-make_anew.ensures.right first (changes ++ first_changes c.args.most i.0) (i.2.keeps first changes k)))

pub returns-clause-first : goal.returns-clause-first
returns-clause-first g c = λ changes reads.
    let i = c.loop-record.invariant.made in
    let none : into_iter_items c.loop-record.record-iterator ≡ [] = empty_list (into_iter_items c.loop-record.record-iterator) (sym c.loop-record.invariant.counted ∙ c.in-None.ensures.steps.0) in
    let e : c.args.records.items ≡ c.loop-record.yielded = c.loop-record.invariant.parts ∙ ap (λ l. c.loop-record.yielded ++ l) none ∙ append-nil c.loop-record.yielded in
    let same : i.0 ≡ changes = ok_is i.0 changes (sym i.1 ∙ ap (λ l. changes_of (map (λ v. v.items) l)) (sym e) ∙ reads) in
    record {
      keeps = subst (λ l. KeepsMore c.args.limit (kept_table c.args.state.now c.args.stats.now.items) (first_changes c.args.most l) (kept_table c.loop-record.state c.loop-record.stats.items)) same i.2.keeps;
      count = i.2.count ∙ ap (λ l. reported_count (length (first_changes c.args.most l))) same;
    }
