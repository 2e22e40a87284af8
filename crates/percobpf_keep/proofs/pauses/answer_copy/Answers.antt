use Rattle.std.proofs.Common.{◌≡◌, List, ℕ, Option, Some, inl, string_bytes, ap, subst, sym, ◌∙◌}
use Rattle.std.specs.Io.KnownBytes.{Appends}
use Rattle.percobpf_keep.specs.Printed.{IsCopyAnswer}
use Rattle.percobpf_keep.proofs.pauses.answer_copy.Goals as goal

-- where there is a folder of copies, the line of one is an answer
copied_answer : {F : Type 0} (IsLine : List ℕ → Type 0) (copies : Option F) (folder : F) (text : List ℕ) → copies ≡ Some folder → IsLine text → IsCopyAnswer IsLine copies text
copied_answer IsLine copies folder text is line = subst (λ o. IsCopyAnswer IsLine o text) (sym is) (inl line)

pub returns-in_ok-write_all-in-Ok-clause-answer : goal.returns-in_ok-write_all-in-Ok-clause-answer
returns-in_ok-write_all-in-Ok-clause-answer g c =
    let copied = c.in-Ok.copied in (
      string_bytes copied.line,
      copied_answer _ _ _ (string_bytes copied.line) c.in-Some.is (record { copy = copied.log; is = c.in-Ok.ensures.copied }),
      subst (λ t. Appends (g.S.Sink.taken c.args.out.now) (g.S.Sink.taken c.write_all-in-Ok.new.self) t) (c.as_bytes-in-Ok.ensures.value ∙ ap string_bytes c.close_copy-line.ensures) c.in_ok-write_all-in-Ok.ensures.taken,
    )
