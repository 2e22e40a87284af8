use Rattle.std.proofs.Common.{◌++◌, length, drop, ap, sym, ◌∙◌, ℕ, List, take-append-drop, arith}
use Rattle.std.proofs.lemmas.List.{length-take-le}
use Rattle.pb_log.proofs.Bodies.{sum_agrees, stands_whole}
use Rattle.pb_log.proofs.reading.split_body.Goals as goal

pub returns-then-digest_of-from_le_bytes-clause-none : goal.returns-then-digest_of-from_le_bytes-clause-none
returns-then-digest_of-from_le_bytes-clause-none c none b =
    let l = c.in_ok-len.ensures.cases in let s = c.in_ok-sum.ensures.cases in let i = c.in_ok-item.ensures.cases in
    c.if-digest_of-from_le_bytes.true (
    sum_agrees c.args.at c.args.bytes.now c.in_ok-len.rest.now c.in_ok-sum.rest.now c.in_ok-len.len.now c.in_ok-sum.sum.now l.0 l.1 s.0 s.1 b c.in_ok-item.item.now c.from_le_bytes.result c.digest_of.result c.from_le_bytes.ensures i.1 c.digest_of.ensures.value c.digest_of.type_inv
    ∙ sym c.from_le_bytes-2.ensures
    )

pub returns-clause-some : goal.returns-clause-some
returns-clause-some c =
    let l = c.in_ok-len.ensures.cases in let s = c.in_ok-sum.ensures.cases in let i = c.in_ok-item.ensures.cases in
    stands_whole c.args.at c.args.bytes.now c.in_ok-len.rest.now c.in_ok-sum.rest.now c.in_ok-len.len.now c.in_ok-sum.sum.now l.0 l.1 s.0 s.1 c.type_inv.bytes
    (ap length l.0 ∙ length-take-le 4 c.args.bytes.now (omega (arith, l.2))) (ap length s.0 ∙ length-take-le 8 c.in_ok-len.rest.now (omega (arith, s.2)))
    c.in_ok-item.item.now c.in_ok-item.rest.now c.from_le_bytes.result c.digest_of.result c.from_le_bytes.ensures i.3
    (sym (take-append-drop c.from_le_bytes.result c.in_ok-sum.rest.now) ∙ ap (λ (x : List ℕ). x ++ drop c.from_le_bytes.result c.in_ok-sum.rest.now) (sym i.1) ∙ ap (λ (x : List ℕ). c.in_ok-item.item.now ++ x) (sym i.2))
    c.digest_of.ensures.value (c.if-digest_of-from_le_bytes.false ∙ c.from_le_bytes-2.ensures)
