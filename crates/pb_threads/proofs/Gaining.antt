-- A seat's list goes on, by one part after another.
use Rattle.std.proofs.Common.{◌≡◌, ℕ, List, [], ◌∷◌, ◌++◌, Option, refl, sym, ap, subst, ◌∙◌, append_assoc, append-nil}
use Rattle.pb_threads.specs.Words.{Refusal, Step, Answer, Received, SeatOf, told, IsOfParts, one_part, EndsIn}
use Rattle.pb_threads.specs.Gains.{OpeningOf, Told, Gains, IsSeatStop}
use Rattle.pb_threads.specs.Stops.{Stops}

-- a seat that received nothing has gained nothing
pub gains_none : {P : List Received → Type 0} {a : SeatOf} → P [] → Gains P a a
gains_none {a} is = record { said = []; number = refl; received = sym (append-nil a.received); are_such = is }

-- what was gained may be stated in other words
pub gains_as : {P R : List Received → Type 0} {a b : SeatOf} → ((said : List Received) → P said → R said) → Gains P a b → Gains R a b
gains_as h g = record { said = g.said; number = g.number; received = g.received; are_such = h g.said g.are_such }

-- one part, and then another
pub gains_on : {P Q R : List Received → Type 0} {a b c : SeatOf} → Gains P a b → Gains Q b c → ((said more : List Received) → P said → Q more → R (said ++ more)) → Gains R a c
gains_on {a = a} g h join = record {
  said = g.said ++ h.said;
  number = h.number ∙ g.number;
  received = h.received ∙ (ap (λ l. l ++ h.said) g.received ∙ append_assoc a.received g.said h.said);
  are_such = join g.said h.said g.are_such h.are_such;
}

-- one answer
pub gains_told : {a b : SeatOf} {step : Step} {answer w : Answer} → answer ≡ w → Told a step answer b → Gains (λ said. said ≡ told step w ∷ []) a b
gains_told {step = step} {answer = answer} is t = record { said = told step answer ∷ []; number = t.number; received = t.received; are_such = ap (λ w. told step w ∷ []) is }

-- and one answer more
pub gains_more : {P R : List Received → Type 0} {a b c : SeatOf} {step : Step} {answer : Answer} → Gains P a b → Told b step answer c → ((said : List Received) → P said → R (said ++ told step answer ∷ [])) → Gains R a c
gains_more {R = R} g t join = gains_on g (gains_told refl t) (λ said more p is. subst (λ l. R (said ++ l)) (sym is) (join said p))

-- one part, and then another that was cut off
pub gains_stop : {opens : Option OpeningOf} {P : List Received → Type 0} {Q R : Option Step → List Received → Type 0} {a b c : SeatOf} {r : Refusal} → Gains P a b → Gains (Stops opens b.number Q r) b c
    → ((said more : List Received) (next : Option Step) → P said → Q next more → R next (said ++ more)) → Gains (Stops opens a.number R r) a c
gains_stop {opens} {r = r} g h join = gains_on g h (λ said more p s. record { next = s.next; begun = join said more s.next p s.begun; stop = subst (λ n. IsSeatStop opens n s.next r) g.number s.stop })

-- what was cut off may be stated in other words
pub stops_as : {opens : Option OpeningOf} {n : ℕ} {Q R : Option Step → List Received → Type 0} {a b : SeatOf} {r : Refusal} → ((next : Option Step) (said : List Received) → Q next said → R next said) → Gains (Stops opens n Q r) a b → Gains (Stops opens n R r) a b
stops_as h g = gains_as (λ said s. record { next = s.next; begun = h s.next said s.begun; stop = s.stop }) g

-- it was cut off where it stands
pub gains_left : {opens : Option OpeningOf} {P : List Received → Type 0} {R : Option Step → List Received → Type 0} {a b : SeatOf} {r : Refusal} (next : Option Step) → Gains P a b → ((said : List Received) → P said → R next said) → IsSeatStop opens b.number next r → Gains (Stops opens a.number R r) a b
gains_left {opens} {r = r} next g begun stop = gains_as (λ said p. record { next = next; begun = begun said p; stop = subst (λ n. IsSeatStop opens n next r) g.number stop }) g

-- ---- parts

module _ {S : Type 0} {Part : S → S → List Received → Type 0} {s t : S} {a b c : SeatOf} (parts : Gains (IsOfParts Part s t) a b) where
  -- one part more
  pub gains_part : {u : S} → Gains (Part t u) b c → Gains (IsOfParts Part s u) a c
  gains_part {u} h = gains_on parts h (λ said more p q. one_part t u said more p q)

  -- what ends them
  pub gains_end : {Last : S → List Received → Type 0} → Gains (Last t) b c → Gains (EndsIn Part Last s) a c
  gains_end h = gains_on parts h (λ said more p q. record { at = t; before = said; parts = p; last = more; ends = q; said_is = refl })

  -- a part of which there is just a beginning
  pub gains_cut : {opens : Option OpeningOf} {IsBegun : Option Step → S → List Received → Type 0} {r : Refusal} → Gains (Stops opens b.number (λ next. IsBegun next t) r) b c → Gains (Stops opens a.number (λ next. EndsIn Part (IsBegun next) s) r) a c
  gains_cut h = gains_stop parts h (λ said more next p q. record { at = t; before = said; parts = p; last = more; ends = q; said_is = refl })
