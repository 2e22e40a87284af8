-- What an answer is, by the number that C gets.
use Rattle.std.specs.Prelude.{ℕ}
use Rattle.pb_base.specs.Growths.{refused_growth}
use Rattle.pb_api.specs.declared.kind.AnswerKind.{AnswerKind}

-- library/percobpf_api.h has names for them
abbrev pub kind_number : AnswerKind → ℕ
kind_number AnswerKind.Done = 0
kind_number AnswerKind.Refused = 1
kind_number (AnswerKind.NoMemory refused) = 2
kind_number AnswerKind.BadArgument = 3
kind_number AnswerKind.NotText = 4

-- the kind of an answer that the program asks for a cell, after those of `AnswerKind`
abbrev pub asks_kind : ℕ
asks_kind = 5

-- a growth was refused
abbrev pub no_memory : AnswerKind
no_memory = AnswerKind.NoMemory refused_growth
