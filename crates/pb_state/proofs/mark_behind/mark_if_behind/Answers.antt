use Rattle.std.proofs.Common.{◌≡◌, ◌∙◌, true, false, inr, refl, sym}
use Rattle.pb_history.proofs.OneOutcome.{behind_or_not}
use Rattle.pb_state.proofs.mark_behind.mark_if_behind.Goals as goal
use Rattle.pb_state.proofs.mark_behind.mark_if_behind.Goals.{else-is_write_record-via-then-is_write_record+else-is_behind, else-is_write_record-via-else-is_write_record}

-- an entry that is no write record, or whose cell all are up to date on
pub returns-else-is_write_record-clause-ok : goal.returns-else-is_write_record-clause-ok
returns-else-is_write_record-clause-ok g c = elim c.else-is_write_record.branch [
  | else-is_write_record-via-then-is_write_record+else-is_behind w ↦
      inr ((λ _ behind. behind_or_not c.args.observers.now c.args.table.now.contents.entries c.args.slot.now.cell behind w.if-is_behind.ensures), refl)
  | else-is_write_record-via-else-is_write_record w ↦
      inr ((λ is _. let wrong : false ≡ true = sym w.if-is_write_record.false ∙ c.is_write_record.ensures ∙ is in absurd cc), refl)
]
