-- An answer with a text, or with bytes, and the caller's buffer before and after it.
use Rattle.std.specs.Prelude.{◌≡◌, ℕ, List, length}
use Rattle.pb_api.specs.declared.answer.TextAnswer.{TextAnswer}
use Rattle.pb_api.specs.declared.kind.AnswerKind.{AnswerKind}
use Rattle.pb_api.specs.Kinds.{kind_number, no_memory}
use Rattle.pb_api.specs.Buffers.{filled}

-- an answer of this kind
abbrev pub text_answer : AnswerKind → ℕ → ℕ → ℕ → TextAnswer
text_answer kind code place needed = record { kind = kind_number kind; code = code; place = place; needed = needed }

-- what a call leaves: the buffer before and after it, and the answer
pub record BufferCall : Type 0 where
  pub before : List ℕ
  pub after : List ℕ
  pub answer : TextAnswer

-- a call that leaves this
abbrev pub buffer_call : List ℕ → List ℕ → TextAnswer → BufferCall
buffer_call before after answer = record { before = before; after = after; answer = answer }

-- the answer has this text, without a fault, and as much of it as fits stands in the buffer
pub record GivesText (kind : AnswerKind) (text : List ℕ) (c : BufferCall) : Type 0 where
  pub answered : c.answer ≡ text_answer kind 0 0 (length text)
  pub buffer : c.after ≡ filled text c.before

-- the answer has no text, and the buffer is as it was
pub record GivesNone (kind : AnswerKind) (code place : ℕ) (c : BufferCall) : Type 0 where
  pub answered : c.answer ≡ text_answer kind code place 0
  pub buffer : c.after ≡ c.before

-- a growth was refused, from which nothing follows of what was given
abbrev pub LacksMemory : BufferCall → Type 0
LacksMemory = GivesNone no_memory 1 0
