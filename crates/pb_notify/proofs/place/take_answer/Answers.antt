use Rattle.std.proofs.Common.{◌≡◌, ℕ, Bool, Some, ap, sym, ◌∙◌}
use Rattle.pb_notify.specs.Words.{Answer, Outcome, PlanOf, answered, outcome_of}
use Rattle.pb_notify.specs.declared.place.RunPlace.{RunPlace}
use Rattle.pb_notify.specs.Places.{by_outcome, place_after}
use Rattle.pb_notify.proofs.place.take_answer.Goals as goal

-- a plan that is over with an answer leads where its outcome does
ended_at : (second : Bool) (locked : ℕ) (old : RunPlace) (r : ℕ) (p : PlanOf) (a : Answer) (o : Outcome) (place : RunPlace)
    → old ≡ RunPlace.Planning r p → outcome_of (answered p a) ≡ Some o → ((q : PlanOf) → place ≡ by_outcome r q (Some o)) → place ≡ place_after second locked old a
ended_at second locked old r p a o place is ends leads = leads (answered p a) ∙ sym (ap (λ q. place_after second locked q a) is ∙ ap (by_outcome r (answered p a)) ends)

pub returns-in-Some-clause-place : goal.returns-in-Some-clause-place
returns-in-Some-clause-place c =
    c.set_place.ensures ∙ ended_at c.args.second c.args.locked c.args.place.now c.in-Planning.end c.in-Planning.plan c.args.answer c.in-Some.outcome c.after_outcome.result c.in-Planning.is
    (sym c.plan_outcome_after.ensures.outcome ∙ c.in-Some.is) c.after_outcome.ensures
