use Rattle.std.proofs.Common.{◌≡◌, drop}
use Rattle.pb_asm.specs.Names.{word_in}
use Rattle.pb_asm.proofs.names.word_in.Given as goal

abbrev pub invariant-loop-word : goal.invariant-loop-word
invariant-loop-word l = word_in l.text (drop l.word-index l.words) ≡ word_in l.text l.words
