use Rattle.std.proofs.Common.{◌≡◌, rules}
use Rattle.std.proofs.lemmas.Str.{IsUtf8-from_ascii}
use Rattle.hex.specs.Hex.{encode_lower}
use Rattle.pb_script.proofs.Digits.{digits_are_ascii}
use Rattle.pb_script.proofs.reports.lines.digits_of.Goals as goal

pub unreachable-requires-in-Err : goal.unreachable-requires-in-Err
unreachable-requires-in-Err c =
    let written : c.encode_to_slice.new.output ≡ encode_lower c.trim_zeros-bytes.result.now = search rules in
    c.in-Err.ensures.cases.0 (IsUtf8-from_ascii _ (rw written (digits_are_ascii c.trim_zeros-bytes.result.now)))
