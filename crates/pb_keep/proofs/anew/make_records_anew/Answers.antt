use Rattle.std.proofs.Common.{◌≡◌, ◌∙◌, Ok, map, ap, subst, sym}
use Rattle.pb_keep.specs.Causes.{IsOfReading}
use Rattle.pb_keep.specs.Words.{kept_table}
use Rattle.pb_keep.specs.Again.{WhyNotAllMade}
use Rattle.pb_keep.specs.Kept.{changes_of, AreTexts}
use Rattle.pb_keep.proofs.Causing.{not_all_read, why_left}
use Rattle.pb_keep.proofs.Mapping.{passed_on}
use Rattle.pb_keep.proofs.anew.make_records_anew.Goals as goal

pub returns-in_err-all-clause-why : goal.returns-in_err-all-clause-why
returns-in_err-all-clause-why g c =
    let records = map (λ v. v.items) c.args.records.items in
    let old = kept_table c.args.state.now c.args.stats.now.items in
    let e = c.in_err-all.field-0.0 in
    passed_on c.from_residual.result c.from_residual.ensures.1
    (λ f is. subst (WhyNotAllMade c.args.limit records old c.args.state.now) (sym is)
    (not_all_read c.args.limit records old c.args.state.now e (subst (λ l. IsOfReading (map (λ v. v.items) l) e) c.deref.ensures.value c.in_err-all.ensures.why)))

pub returns-in-Ok-clause-texts : goal.returns-in-Ok-clause-texts
returns-in-Ok-clause-texts g c = subst (λ l. AreTexts (map (λ v. v.items) l)) c.deref.ensures.value c.in_ok-all.ensures.texts

pub returns-in-Ok-clause-keeps : goal.returns-in-Ok-clause-keeps
returns-in-Ok-clause-keeps g c =
    let counted = c.in_ok-all.ensures.counted in
    let reads : changes_of (map (λ v. v.items) c.args.records.items) ≡ Ok counted.0 = ap (λ l. changes_of (map (λ v. v.items) l)) (sym c.deref.ensures.value) ∙ counted.1 in
    let first = c.in-Ok.ensures.first counted.0 reads in
    (counted.0, reads, first.keeps, first.count)

pub returns-in-Err-clause-why : goal.returns-in-Err-clause-why
returns-in-Err-clause-why g c =
    let counted = c.in_ok-all.ensures.counted in
    let records = map (λ v. v.items) c.args.records.items in
    let old = kept_table c.args.state.now c.args.stats.now.items in
    let reads : changes_of records ≡ Ok counted.0 = ap (λ l. changes_of (map (λ v. v.items) l)) (sym c.deref.ensures.value) ∙ counted.1 in
    let some = c.in-Err.ensures.some counted.0 reads in
    subst (WhyNotAllMade c.args.limit records old c.make_first.new.state) (sym c.in_part.ensures)
    (why_left c.args.limit records old c.make_first.new.state c.in-Err.fault c.make_first.new.made c.in_ok-all.all c.in-Err.ensures.why (record {
      changes = counted.0;
      reads = reads;
      texts = subst (λ l. AreTexts (map (λ v. v.items) l)) c.deref.ensures.value c.in_ok-all.ensures.texts;
      all_is = counted.2;
      done = some.done;
      rest = some.rest;
      parts = some.parts;
      reached = some.reached;
      keeps = some.keeps;
      left = some.left;
      made_is = some.count;
    }) c.in-Err.ensures.right)
