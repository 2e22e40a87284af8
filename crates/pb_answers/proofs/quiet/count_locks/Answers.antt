use Rattle.std.proofs.Common.{◌∙◌, length, sym, ap, arith}
use Rattle.pb_answers.specs.Words.{is_lock}
use Rattle.pb_state.proofs.EntryWalks.{first_and_rest, rest_shorter, none_left}
use Rattle.pb_answers.proofs.Counting.{counted_on, all_counted, units_counted}
use Rattle.pb_answers.proofs.quiet.count_locks.Goals as goal

pub loop-slot-init : goal.loop-slot-init
loop-slot-init g c = let none = ap length c.new-locks.ensures.items in omega (arith, none)

pub loop-slot-smaller : goal.loop-slot-smaller
loop-slot-smaller g c = rest_shorter _ _ _ (first_and_rest _ _ _ (sym c.in-Some.is ∙ c.next_entry.ensures.entry) c.in-Some.ensures.rest)

pub loop-slot-preserved : goal.loop-slot-preserved
loop-slot-preserved g c =
    let is = first_and_rest _ _ _ (sym c.in-Some.is ∙ c.next_entry.ensures.entry) c.in-Some.ensures.rest in
    counted_on (λ p. is_lock p.0.sort) _ _ _ is _ _ _ c.loop-slot.invariant c.in_ok-note_lock.ensures

pub returns : goal.returns
returns g c = units_counted c.loop-slot.locks _ c.len.ensures ∙ all_counted (λ p. is_lock p.0.sort) _ (none_left _ (sym c.in_default.is ∙ c.next_entry.ensures.entry)) _ _ c.loop-slot.invariant
