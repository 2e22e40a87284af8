use Rattle.std.proofs.Common.{subst, sym, string_bytes}
use Rattle.std.proofs.lemmas.Result.{IfOk-weaker}
use Rattle.pb_decode.specs.Faults.{IsRefusal}
use Rattle.pb_files.specs.Programs.{TellsProgram}
use Rattle.pb_files.specs.declared.answer.Verdict.{Verdict}
use Rattle.pb_files.proofs.programs.told_of.Goals as goal

pub returns-in-Err-Refused-clause-told : goal.returns-in-Err-Refused-clause-told
returns-in-Err-Refused-clause-told g c =
    let told = subst (IsRefusal c.args.profile c.args.bytes.now) c.in-Err-Refused.field-0-is c.in-Err-Refused.ensures.err in
    IfOk-weaker c.refusal_of.result _ _
    (λ a h. subst (λ (v : Verdict). TellsProgram g.V.ProgramText.text_of c.args.profile c.args.bytes.now v (string_bytes a.text)) (sym h.0) (c.in-Err-Refused.refused.slot, c.in-Err-Refused.refused.code, told, h.1))
    c.refusal_of.ensures.told
