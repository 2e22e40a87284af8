use Rattle.std.proofs.Common.{rules, ◌≡◌, subst, IsUtf8, string_bytes}
use Rattle.std.proofs.lemmas.Str.{IsUtf8-string_bytes}
use Rattle.pb_files.proofs.reading.text_of.Goals as goal

pub returns-in-Ok-clause-utf8 : goal.returns-in-Ok-clause-utf8
returns-in-Ok-clause-utf8 c =
    let e : string_bytes c.in-Ok.text ≡ c.args.bytes.items = search rules in
    subst IsUtf8 e (IsUtf8-string_bytes c.in-Ok.text)
