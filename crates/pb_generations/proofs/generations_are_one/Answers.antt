use Rattle.std.proofs.Common.{◌≡◌, ℕ, List, [], ◌∷◌, ◌++◌, inl, refl, sym, subst}
use Rattle.pb_generations.specs.Words.{Entries, Step, StateOf, Transactions, JournalLeads, Entry}
use Rattle.pb_generations.specs.Mirrored.{IsMirroredBy, carried}
use Rattle.pb_generations.specs.LateSteps.{AreLateSteps, IsLateStep, IsServedStep, StepsCarryOver}
use Rattle.pb_generations.proofs.JoinedJournals.{joined_leads}
use Rattle.pb_generations.proofs.generations_are_one.Goals as goal

-- a late step is served
served : (c : ℕ) (whole : Entries) (old : StateOf) (step : Step) → IsLateStep c old step → IsServedStep c whole old step
served c whole old (Step.ReadAt s x t) late = (late.0, inl late.1)
served c whole old _ late = late

record LedOn (c : ℕ) (whole : StateOf) (js : List Entry) (now : StateOf) : Type 0 where
  after : StateOf
  entries : Entries
  transactions : Transactions
  run : JournalLeads whole js after
  mirrors : IsMirroredBy c after entries transactions
  now_is : now ≡ carried after entries transactions

led : (c : ℕ) (whole now : StateOf) (e : Entries) (ts : Transactions) (js : List Entry) → StepsCarryOver → IsMirroredBy c whole e ts → AreLateSteps c (carried whole e ts) js → JournalLeads (carried whole e ts) js now → LedOn c whole js now
led c whole now e ts [] steps mirrors late leads = record { after = whole; entries = e; transactions = ts; run = refl; mirrors = mirrors; now_is = leads }
led c whole now e ts (j ∷ js) steps mirrors late leads =
    let one = steps c whole leads.0 e ts j.seat j.step j.answer mirrors (served c whole.entries (carried whole e ts) j.step late.0) leads.1 in
    let rest = led c one.after now one.entries one.transactions js steps one.mirrors (subst (λ (s : StateOf). AreLateSteps c s js) one.new_is (late.1 leads.0 leads.1)) (subst (λ (s : StateOf). JournalLeads s js now) one.new_is leads.2) in
    record { after = rest.after; entries = rest.entries; transactions = rest.transactions; run = (one.after, one.taken, rest.run); mirrors = rest.mirrors; now_is = rest.now_is }

pub returns : goal.returns
returns c observers seats clock t past later whole now e ts legal mirrors late leads =
    let all = led t whole now e ts later c.steps_carry_over.ensures mirrors late leads in
    record {
      whole = all.after;
      legal = record { past = past ++ later; same = refl; legal = record { fits = legal.fits; run = joined_leads _ whole all.after past later legal.run all.run } };
      mirrors = subst (λ (s : StateOf). IsMirroredBy t all.after s.entries s.transactions) (sym all.now_is) all.mirrors;
      now_is = subst (λ (s : StateOf). s ≡ carried all.after s.entries s.transactions) (sym all.now_is) refl;
    }
