use Rattle.std.proofs.Common.{◌≡◌, ◌∷◌, ◌++◌, [], length, ap, subst, sym, ◌∙◌}
use Rattle.pb_keep.specs.Waits.{changes_in, AreScriptLines, IsOpenGroup}
use Rattle.std.proofs.lemmas.List.{append-nil}
use Rattle.pb_keep.proofs.Added.{changes_of_both}
use Rattle.pb_keep.proofs.waiting.Waiting.push_other.Goals as goal

pub returns-clause-waiting : goal.returns-clause-waiting
returns-clause-waiting c =
    let w = c.requires.waiting in
    let old = c.args.self.now.items.items in
    let are : changes_in c.push.new.self.items ≡ changes_in old =
    ap changes_in c.in_ok-push.ensures.items ∙ changes_of_both old (c.args.item ∷ []) ∙ ap (λ l. changes_in old ++ l) c.requires.other ∙ append-nil (changes_in old) in
    record {
      lines = w.lines;
      script = w.script;
      read = subst (λ bs. AreScriptLines w.lines bs) (sym are) w.read;
      count = w.count ∙ sym (ap length are);
      few = w.few;
      bytes = w.bytes;
      open_group = λ e. subst IsOpenGroup (sym c.in_ok-push.ensures.items) (c.requires.open_group e);
    }
