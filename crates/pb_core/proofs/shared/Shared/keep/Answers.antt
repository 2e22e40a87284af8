use Rattle.std.proofs.Common.{arith, ◌<◌, ◌≡◌, length, rules, get_or, [], subst}
use Rattle.std.proofs.lemmas.List.{get_or_read}
use Rattle.pb_core.specs.Words.{TableStep}
use Rattle.pb_core.proofs.StepsKeep.{KeepsRest, case_kept}
use Rattle.pb_core.proofs.Keeps.{kept_more}
use Rattle.pb_core.proofs.Seated.{seat_is_there}
use Rattle.pb_core.proofs.shared.Shared.keep.Goals as goal

pub invariant_of-self-2 : goal.invariant_of-self-2
invariant_of-self-2 g c =
    let s = c.self.inside in
    let seat = c.seat.inside.number in
    let m : TableStep s.state seat c.args.step.now c.in_ok-answer.answer c.take_admitted.new.self = subst (λ step. TableStep s.state seat step c.in_ok-answer.answer c.take_admitted.new.self) c.requires.step c.in_ok-answer.ensures.taken in
    let seated : seat < length s.books.items = subst (λ n. seat < n) c.self.invariant.counted (seat_is_there s.state seat c.args.step.now m.allowed) in
    let room : length s.journal.items < s.limit = search rules in
    let read : c.index_mut-book.result.now ≡ get_or s.books.items seat [] = get_or_read s.books.items seat _ seated c.index_mut-book.ensures.value [] in
    kept_more s.journal.items s.books.items s.state s.opened s.limit seat c.args.step.now c.in_ok-answer.answer c.take_admitted.new.self _ _ c.self.invariant m seated room (search rules) (search (rules, read))

pub returns-clause-taken : goal.returns-clause-taken
returns-clause-taken g c =
    let m : TableStep c.self.inside.state c.seat.inside.number c.args.step.now c.in_ok-answer.answer c.take_admitted.new.self = subst (λ step. TableStep c.self.inside.state c.seat.inside.number step c.in_ok-answer.answer c.take_admitted.new.self) c.requires.step c.in_ok-answer.ensures.taken in
    let kept : KeepsRest c.self.inside.state c.take_admitted.new.self = case_kept c.self.inside.state c.seat.inside.number c.args.step.now c.in_ok-answer.answer c.take_admitted.new.self m.taken in
    grind (arith, m, kept.seats, kept.observers, c.self.inside, c.self.view_is, c.seat.view_is)
