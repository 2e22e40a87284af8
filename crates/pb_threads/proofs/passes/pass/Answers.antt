use Rattle.std.proofs.Common.{arith, ◌≡◌, List, ◌++◌, [], Option, is_some, refl, ap, inl, inr}
use Rattle.std.proofs.lemmas.Result.{err_from_is_err_and}
use Rattle.pb_threads.specs.Words.{Cell, ObserverOf, Received, no_part}
use Rattle.pb_passes.specs.Passes.{IsPass, IsPassThat}
use Rattle.pb_passes.proofs.Marks.{no_mark}
use Rattle.pb_threads.proofs.Refusing.{stops_at}
use Rattle.pb_threads.proofs.Gaining.{gains_none, gains_as, gains_on, gains_stop, gains_left, gains_part, gains_end, gains_cut, gains_told}
use Rattle.pb_threads.proofs.passes.pass.Goals as goal

pub loop-turn-init : goal.loop-turn-init
loop-turn-init g c = gains_none no_part

pub returns-in_err-next-clause-err : goal.returns-in_err-next-clause-err
returns-in_err-next-clause-err g c =
    let p = err_from_is_err_and c.from_residual.result c.from_residual.ensures.1 in
    rw (p.1, p.2, c.in_err-next.ensures.seat) (gains_cut c.loop-turn.invariant (gains_left {P = λ said. said ≡ []} _ (gains_none refl) (λ said none. inl (refl, none)) (stops_at refl c.in_err-next.ensures.refused)))

pass_that : (observers : List ObserverOf) (o : Option Cell) (said : List Received) → IsPass observers o said → IsPassThat observers (is_some o) said
pass_that observers o said p = grind arith

pub returns-in_default-clause-ok : goal.returns-in_default-clause-ok
returns-in_default-clause-ok g c =
    let none = no_mark c.loop-turn.last c.in_ok-next.next c.in_ok-next.ensures.can c.in_default.not-Marked in
    rw c.is_some.ensures (gains_as (pass_that c.args.observers.now c.loop-turn.last) (gains_end c.loop-turn.invariant (gains_as (λ said is. (refl, is)) (gains_told none c.in_ok-next.ensures.told))))

pub returns-in_err-run_all-clause-err : goal.returns-in_err-run_all-clause-err
returns-in_err-run_all-clause-err g c =
    let p = err_from_is_err_and c.from_residual-in_err-run_all.result c.from_residual-in_err-run_all.ensures.1 in
    rw (p.1, p.2) (gains_cut c.loop-turn.invariant (gains_stop (gains_told c.in-Marked.is c.in_ok-next.ensures.told) c.in_err-run_all.ensures.err (λ said more next is begun. inr (c.in-Marked.cell, more, ap (λ l. l ++ more) is, begun))))

pub loop-turn-preserved : goal.loop-turn-preserved
loop-turn-preserved g c =
    gains_part c.loop-turn.invariant (gains_on (gains_told c.in-Marked.is c.in_ok-next.ensures.told) c.in_ok-run_all.ensures.ok (λ said more is runs. record { x = c.in-Marked.cell; found = refl; more = more; runs = runs; said_is = ap (λ l. l ++ more) is }))
