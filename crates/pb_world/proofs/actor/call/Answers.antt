use Rattle.std.proofs.Common.{arith, ◌≡◌, ℕ, false, ◌==◌, if◌then◌else◌, Option, Some, None, Result, Ok, Err, refl, sym, ◌∙◌, ap}
use Rattle.pb_world.specs.Words.{NoMemory, Reason, Refusal, refused_growth, reason_code, refusal_by, memory_refusal, Answer, call_reason}
use Rattle.pb_world.proofs.actor.call.Goals as goal

-- what is answered isn't refused
none_by : (o : Option Reason) (r : Result Answer Refusal) (a : Answer) → r ≡ Ok a → ((why : Reason) → o ≡ Some why → r ≡ Err (refusal_by why)) → o ≡ None
none_by None r a is some = refl
none_by (Some why) r a is some = let e = some why refl in cc

pub returns-in-Ok-clause-allowed : goal.returns-in-Ok-clause-allowed
returns-in-Ok-clause-allowed g c = none_by (call_reason c.args.shared.now c.args.seat.now.number c.args.step.now) c.call.result c.in-Ok.answer c.in-Ok.is c.call.ensures.refused

-- no reason has the number of want of memory
other_than_memory : (why : Reason) → (reason_code why == 1) ≡ false
other_than_memory why = grind arith

-- what a refusal is taken for: the refused growth, or its number
abbrev taken_for : Refusal → Result NoMemory ℕ
taken_for r = if r.0 == 1 then Ok refused_growth else Err r.0

-- a reason's refusal is taken for its number
taken_for_reason : (why : Reason) → taken_for (refusal_by why) ≡ Err (reason_code why)
taken_for_reason why = ap (λ b. if b then Ok refused_growth else Err (reason_code why)) (other_than_memory why)

-- so a refused growth is reported where there is no reason
none_for_memory : (o : Option Reason) (a : Result Answer Refusal) (r : Refusal) (m : Result NoMemory ℕ) (e : NoMemory) → a ≡ Err r → ((why : Reason) → o ≡ Some why → a ≡ Err (refusal_by why)) → m ≡ taken_for r → m ≡ Ok e → o ≡ None
none_for_memory None a r m e is some told ok = refl
none_for_memory (Some why) a r m e is some told ok =
    let same : r ≡ refusal_by why = let both = sym is ∙ some why refl in cc in
    let number = sym ok ∙ told ∙ ap taken_for same ∙ taken_for_reason why in
    cc

pub returns-in-Ok-memory-clause-refused : goal.returns-in-Ok-memory-clause-refused
returns-in-Ok-memory-clause-refused g c = none_for_memory (call_reason c.args.shared.now c.args.seat.now.number c.args.step.now) c.call.result c.in-Err.refusal c.memory.result c.in-Ok-memory.refused c.in-Err.is c.call.ensures.refused c.memory.ensures c.in-Ok-memory.is

-- and a number is that of the reason
reason_for_number : (o : Option Reason) (a : Result Answer Refusal) (r : Refusal) (m : Result NoMemory ℕ) (code : ℕ) → a ≡ Err r → ((why : Reason) → o ≡ Some why → a ≡ Err (refusal_by why)) → (o ≡ None → r ≡ memory_refusal) → m ≡ taken_for r → m ≡ Err code → (why : Reason) × (o ≡ Some why) × (code ≡ reason_code why)
reason_for_number None a r m code is some none told err =
    let growth : Err code ≡ Ok refused_growth = sym err ∙ told ∙ ap taken_for (none refl) in
    cc
reason_for_number (Some why) a r m code is some none told err =
    let same : r ≡ refusal_by why = let both = sym is ∙ some why refl in cc in
    let number : Err code ≡ Err (reason_code why) = sym err ∙ told ∙ ap taken_for same ∙ taken_for_reason why in
    (why, refl, cc)

pub returns-in-Err-memory-clause-refused : goal.returns-in-Err-memory-clause-refused
returns-in-Err-memory-clause-refused g c = reason_for_number (call_reason c.args.shared.now c.args.seat.now.number c.args.step.now) c.call.result c.in-Err.refusal c.memory.result c.in-Err-memory.code c.in-Err.is c.call.ensures.refused c.in-Err.ensures.allowed c.memory.ensures c.in-Err-memory.is
