use Rattle.pb_core.specs.Calls.{IsBlank}
use Rattle.pb_core.proofs.shared.empty_books.Given as goal

abbrev pub invariant-loop-place : goal.invariant-loop-place
invariant-loop-place l = IsBlank l.place l.books.items
