use Rattle.std.proofs.Common.{◌≡◌, ◌∷◌, ◌++◌, [], refl, ap, subst, sym, ◌∙◌, arith}
use Rattle.pb_keep.specs.declared.waiting.Waits.{Waits}
use Rattle.pb_keep.specs.Waits.{changes_in, AreScriptLines, IsOpenGroup}
use Rattle.std.proofs.lemmas.List.{append_assoc, length_push}
use Rattle.pb_keep.proofs.Scripts.{one_line_more}
use Rattle.pb_keep.proofs.Added.{changes_of_both, group_goes_on, line_is_added}
use Rattle.pb_keep.proofs.waiting.Waiting.push_change.Goals as goal

pub returns-clause-waiting : goal.returns-clause-waiting
returns-clause-waiting c =
    let w = c.requires.waiting in
    let line = c.args.line.now in
    let old = c.args.self.now.items.items in
    let are : changes_in c.push.new.self.items ≡ changes_in old ++ c.args.batch ∷ [] =
    ap changes_in c.in_ok-push.ensures.items ∙ changes_of_both old (Waits.Change c.args.batch ∷ []) in
    record {
      lines = w.lines ++ line ∷ [];
      script = grind (arith, append_assoc, one_line_more, w.script, c.in_ok-push_str.ensures.bytes, c.in_ok-push_str-2.ensures.bytes);
      read = subst (λ bs. AreScriptLines (w.lines ++ line ∷ []) bs) (sym are) (line_is_added w.lines (changes_in old) line c.args.batch w.read c.requires.line);
      count = rw (are, length_push (changes_in old) c.args.batch, w.count) refl;
      few = grind (arith, c.requires.room);
      bytes = grind (arith, c.requires.room, c.in_ok-push_str.ensures.bytes, c.in_ok-push_str-2.ensures.bytes);
      open_group = λ e. subst IsOpenGroup (sym c.in_ok-push.ensures.items) (group_goes_on old (Waits.Change c.args.batch) tt (w.open_group e));
    }
