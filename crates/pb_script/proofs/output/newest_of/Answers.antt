use Rattle.std.proofs.Common.{arith, ◌≡◌, ◌+◌, [], ◌∷◌, ◌++◌, ◌∙◌, refl, sym, ap, subst, take}
use Rattle.std.proofs.lemmas.List.{take_more, take_all}
use Rattle.pb_script.specs.Words.{Entry}
use Rattle.pb_script.specs.Puts.{puts_by}
use Rattle.pb_script.specs.Reports.{AreNewest}
use Rattle.pb_script.proofs.Gathering.{all_puts, gathers_on, gathers_all_puts}
use Rattle.pb_script.proofs.output.newest_of.Goals as goal

pub loop-entry-preserved : goal.loop-entry-preserved
loop-entry-preserved g c =
    let es = c.journal-entry-items.result.now in
    let i = c.loop-entry.entry-index in
    let state = c.args.shared.now.state in
    let whole : take (i + 1) es ≡ take i es ++ c.entry-item.result ∷ [] =
    take_more es i c.entry-item.result c.loop-entry-test.true ∙ ap (λ (e : Entry). take i es ++ e ∷ []) (sym c.entry-item.is) in
    let before = all_puts state (take i es) in
    subst (λ ps. AreNewest ps c.note_entry.new.table)
    (gathers_on (puts_by state) (take i es) c.entry-item.result before (before ++ puts_by state c.entry-item.result) refl refl ∙ ap (all_puts state) (sym whole))
    (c.in_ok-note_entry.ensures before c.loop-entry.invariant)

pub returns-clause-newest : goal.returns-clause-newest
returns-clause-newest g c = grind (arith, take_all, all_puts, gathers_all_puts, c.journal-entry-items.result.now, c.args.shared.now.state, c.loop-entry.entry-index, c.args.shared.now.journal, c.loop-entry-test.false, c.journal-entry-items.ensures.entries, c.journal-entry-items.ensures.history, c.loop-entry.table, c.loop-entry.invariant)
