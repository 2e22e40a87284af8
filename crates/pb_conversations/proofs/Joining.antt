-- Parts after parts.
use Rattle.std.proofs.Common.{List, [], ◌++◌, sym, subst, append_assoc, append-nil}
use Rattle.pb_conversations.specs.Parts.{IsOfParts, no_part, one_part, EndsIn}

-- ---- parts of one kind

module _ {S E : Type 0} {Part : S → S → List E → Type 0} where
  -- some parts, and then others
  pub parts_join : (s t u : S) (said more : List E) → IsOfParts Part s t said → IsOfParts Part t u more → IsOfParts Part s u (said ++ more)
  parts_join s t u said more p no_part = subst (IsOfParts Part s t) (sym (append-nil said)) p
  parts_join s t u said more p (one_part v w had last q part) = subst (IsOfParts Part s u) (append_assoc said had last) (one_part v u (said ++ had) last (parts_join s t v said had p q) part)

  -- parts that end with nothing more
  pub end_there : {Last : S → List E → Type 0} (s t : S) (said : List E) → IsOfParts Part s t said → Last t [] → EndsIn Part Last s said
  end_there s t said p last = record { at = t; before = said; parts = p; last = []; ends = last; said_is = sym (append-nil said) }

-- ---- what holds of each part

-- it holds of nothing, and of two parts where it holds of each
pub record Adds {E : Type 0} (P : List E → Type 0) : Type 0 where
  pub nothing : P []
  pub both : (a b : List E) → P a → P b → P (a ++ b)

module _ {S E : Type 0} {Part : S → S → List E → Type 0} {P : List E → Type 0} (adds : Adds P) (each : (s t : S) (said : List E) → Part s t said → P said) where
  pub of_parts : (s t : S) (said : List E) → IsOfParts Part s t said → P said
  of_parts s t said no_part = adds.nothing
  of_parts s t said (one_part u v had more p part) = adds.both had more (of_parts s u had p) (each u t more part)

  pub of_end : {Last : S → List E → Type 0} (s : S) (said : List E) → ((t : S) (last : List E) → Last t last → P last) → EndsIn Part Last s said → P said
  of_end s said last e = subst P (sym e.said_is) (adds.both e.before e.last (of_parts s e.at e.before e.parts) (last e.at e.last e.ends))
