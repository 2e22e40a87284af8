use Rattle.std.proofs.Common.{◌≡◌, ◌++◌, length, option_map}
use Rattle.pb_reading.specs.Reading.{texts_of}
use Rattle.pb_texts.specs.TrialWords.{cells_named}
use Rattle.pb_texts.proofs.words.trial.cells_named.Given as goal

-- the cells so far, and those of the words that are left
abbrev pub invariant-loop-left : goal.invariant-loop-left
invariant-loop-left l = option_map (λ more. l.cells.items ++ more) (cells_named (texts_of l.left)) ≡ cells_named (texts_of l.words)

abbrev pub decreases-loop-left : goal.decreases-loop-left
decreases-loop-left l = length l.left
