use Rattle.std.proofs.Common.{◌≡◌, ◌++◌, drop, map, string_bytes}
use Rattle.pb_reading.specs.Reading.{texts_of}
use Rattle.pb_command.proofs.words.lent.Given as goal

abbrev pub invariant-loop-word : goal.invariant-loop-word
invariant-loop-word l = texts_of l.words.items ++ map string_bytes (drop l.word-index l.owned) ≡ map string_bytes l.owned
