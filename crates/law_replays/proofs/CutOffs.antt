-- Parts that are cut off where a run is due, on one table: of two of them one goes on where the other was cut off, by a run at least, or they
-- are the same; and whole ones go on so.
use Rattle.std.proofs.Common.{arith, ◌≡◌, ℕ, ◌≤◌, List, ◌++◌, append_assoc, sym, ap, subst, ◌∙◌}
use Rattle.pb_conversations.specs.Parts.{EndsIn}
use Rattle.pb_conversations.proofs.OneOutcome.{EndsOn, last_part, part_first, end_goes_on, HaveOneOutcome}
use Rattle.pb_keeper.specs.Drains.{begun_count}
use Rattle.pb_keeper.proofs.BegunRuns.{runs_append}
use Rattle.pb_keeper.proofs.Wholes.{leads_parts, stays_sound}
use Rattle.law_replays.specs.Words.{StateOf, JournalLeads, IsSoundTable, StepsKeepSound, Received, entries_by}

-- this conversation of the only seat leads from one table to another
abbrev pub SeatLeads : StateOf → List Received → StateOf → Type 0
SeatLeads m said n = JournalLeads m (entries_by 0 said) n

-- the first has what the second has, and then a run at least
pub record IsLonger (said more : List Received) : Type 0 where
  pub rest : List Received
  pub said_is : said ≡ more ++ rest
  pub some : 1 ≤ begun_count rest

-- they are the same, or one of them goes on after the other
pub data AreCompared (said more : List Received) : Type 0 where
  same : said ≡ more → AreCompared said more
  longer : IsLonger said more → AreCompared said more
  shorter : IsLonger more said → AreCompared said more

-- with what comes before both
pub longer_after : (first said more : List Received) → IsLonger said more → IsLonger (first ++ said) (first ++ more)
longer_after first said more l = record { rest = l.rest; said_is = ap (λ z. first ++ z) l.said_is ∙ sym (append_assoc first more l.rest); some = l.some }

pub compared_after : (first said more : List Received) → AreCompared said more → AreCompared (first ++ said) (first ++ more)
compared_after first said more (same e) = same (ap (λ z. first ++ z) e)
compared_after first said more (longer l) = longer (longer_after first said more l)
compared_after first said more (shorter l) = shorter (longer_after first more said l)

-- and with what comes after the longer one
longer_before : (said more last : List Received) → IsLonger said more → IsLonger (said ++ last) more
longer_before said more last l =
    let counted = runs_append l.rest last in
    let some = l.some in
    record { rest = l.rest ++ last; said_is = ap (λ z. z ++ last) l.said_is ∙ append_assoc more l.rest last; some = omega (arith, counted, some) }

-- where as many runs were begun, they are the same
pub same_by_count : (said more : List Received) → AreCompared said more → begun_count said ≡ begun_count more → said ≡ more
same_by_count said more (same e) count = e
same_by_count said more (longer l) count = let all = ap begun_count l.said_is ∙ runs_append more l.rest in let some = l.some in absurd (omega (arith, all, some, count))
same_by_count said more (shorter l) count = let all = ap begun_count l.said_is ∙ runs_append said l.rest in let some = l.some in absurd (omega (arith, all, some, count))

pub fewer_than : (said more : List Received) (n : ℕ) → IsLonger said more → begun_count said ≤ n → begun_count more ≡ n → ⊥
fewer_than said more n l few count = let all = ap begun_count l.said_is ∙ runs_append more l.rest in let some = l.some in omega (arith, all, some, few, count)

-- of one table, the first words go on so after the second
abbrev pub GoesOnAfter : (List Received → Type 0) → (List Received → Type 0) → Type 0
GoesOnAfter P Q = (said more : List Received) (m a b : StateOf) → P said → Q more → IsSoundTable m → SeatLeads m said a → SeatLeads m more b → IsLonger said more

abbrev pub AreComparedOn : (List Received → Type 0) → (List Received → Type 0) → Type 0
AreComparedOn P Q = (said more : List Received) (m a b : StateOf) → P said → Q more → IsSoundTable m → SeatLeads m said a → SeatLeads m more b → AreCompared said more

module _ (keeps : StepsKeepSound) where
  module _ {S : Type 0} (Part : S → S → List Received → Type 0) (Due : S → List Received → Type 0) (part_once : (s t u : S) → HaveOneOutcome IsSoundTable SeatLeads t u (Part s t) (Part s u)) (part_longer : (s t : S) → GoesOnAfter (Part s t) (Due s)) where
    -- two that are cut off
    dues_on : ((s : S) → AreComparedOn (Due s) (Due s)) → (s : S) → AreComparedOn (EndsOn Part Due s) (EndsOn Part Due s)
    dues_on due_due s said more m a b (last_part v l d) (last_part w k e) sound p q = due_due s said more m a b d e sound p q
    dues_on due_due s said more m a b (last_part v l d) (part_first w t x y h on) sound p q =
        let j = leads_parts m b x y q in
        shorter (longer_before x said y (part_longer s t x said m j.0 a h d sound j.1 p))
    dues_on due_due s said more m a b (part_first w t x y h on) (last_part v l d) sound p q =
        let i = leads_parts m a x y p in
        longer (longer_before x more y (part_longer s t x more m i.0 b h d sound i.1 q))
    dues_on due_due s said more m a b (part_first v t x y e on) (part_first w u z k h later) sound p q =
        let i = leads_parts m a x y p in
        let j = leads_parts m b z k q in
        let one = part_once s t u x z m i.0 j.0 e h sound i.1 j.1 in
        let rest = dues_on due_due t y k i.0 a b on (subst (λ n. EndsOn Part Due n k) (sym one.result_is) later) (stays_sound keeps m i.0 x sound i.1) i.2 (subst (λ n. SeatLeads n k b) (sym one.table_is) j.2) in
        subst (λ l. AreCompared (x ++ y) (l ++ k)) one.said_is (compared_after x y k rest)

    pub dues_compare : ((s : S) → AreComparedOn (Due s) (Due s)) → (s : S) → AreComparedOn (EndsIn Part Due s) (EndsIn Part Due s)
    dues_compare due_due s said more m a b d e = dues_on due_due s said more m a b (end_goes_on s said d) (end_goes_on s more e)

    -- a whole one goes on after one that is cut off
    module _ (Last : S → List Received → Type 0) (last_longer : (s : S) → GoesOnAfter (Last s) (Due s))
        (not_last : (s t : S) (said after last : List Received) (m a b : StateOf) → Part s t said → EndsOn Part Due t after → Last s last → IsSoundTable m → SeatLeads m said a → SeatLeads m last b → ⊥) where
      wholes_on : (s : S) → GoesOnAfter (EndsOn Part Last s) (EndsOn Part Due s)
      wholes_on s said more m a b (last_part v l d) (last_part w k e) sound p q = last_longer s said more m a b d e sound p q
      wholes_on s said more m a b (last_part v l d) (part_first w t x y h on) sound p q =
          let j = leads_parts m b x y q in
          absurd (not_last s t x y said m j.0 a h on d sound j.1 p)
      wholes_on s said more m a b (part_first w t x y h on) (last_part v l d) sound p q =
          let i = leads_parts m a x y p in
          longer_before x more y (part_longer s t x more m i.0 b h d sound i.1 q)
      wholes_on s said more m a b (part_first v t x y e on) (part_first w u z k h later) sound p q =
          let i = leads_parts m a x y p in
          let j = leads_parts m b z k q in
          let one = part_once s t u x z m i.0 j.0 e h sound i.1 j.1 in
          let rest = wholes_on t y k i.0 a b on (subst (λ n. EndsOn Part Due n k) (sym one.result_is) later) (stays_sound keeps m i.0 x sound i.1) i.2 (subst (λ n. SeatLeads n k b) (sym one.table_is) j.2) in
          subst (λ l. IsLonger (x ++ y) (l ++ k)) one.said_is (longer_after x y k rest)

      pub wholes_go_on : (s : S) → GoesOnAfter (EndsIn Part Last s) (EndsIn Part Due s)
      wholes_go_on s said more m a b d e = wholes_on s said more m a b (end_goes_on s said d) (end_goes_on s more e)
