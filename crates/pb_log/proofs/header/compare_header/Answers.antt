use Rattle.std.proofs.Common.{◌≡◌, Bool, true, not, ℕ, List, arith}
use Rattle.std.proofs.lemmas.Slice.Eq.{bytes_eq-Decides}
use Rattle.std.specs.Str.{bytes_eq}
use Rattle.pb_log.specs.Header.{WhyNotOurs}
use Rattle.pb_log.proofs.OpenedFiles.{err_if, not_ours}
use Rattle.pb_log.proofs.header.compare_header.Goals as goal

-- bytes that a test found to differ aren't the same
tested_apart : (xs ys : List ℕ) (r : Bool) → r ≡ not (bytes_eq xs ys) → r ≡ true → xs ≡ ys → ⊥
tested_apart xs ys r is differs same =
    let e : bytes_eq xs ys ≡ true = (bytes_eq-Decides xs ys).1 same in
    grind (arith, is, differs, e)

pub returns-in_err-own-clause-err : goal.returns-in_err-own-clause-err
returns-in_err-own-clause-err c =
    let e = c.in_err-own.field-0.0 in
    err_if c.from_residual.result e (WhyNotOurs c.args.manifest.now c.args.first.now) c.from_residual.ensures.1 (not_ours c.args.manifest.now c.args.first.now e c.in_err-own.ensures.err)

pub returns-then-ne-clause-err : goal.returns-then-ne-clause-err
returns-then-ne-clause-err c =
    let own = c.in_ok-own.own.now in
    (own, c.in_ok-own.ensures.ok, tested_apart own c.args.manifest.now c.ne.result c.ne.ensures c.if-ne.true)
