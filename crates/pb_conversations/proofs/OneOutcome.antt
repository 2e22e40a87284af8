-- Where each part has one outcome from one place on one table, so have all together: the same words, which lead to the same table.
use Rattle.std.proofs.Common.{◌≡◌, List, ◌++◌, refl, sym, subst, ◌∙◌, append_assoc}
use Rattle.pb_conversations.specs.Parts.{IsOfParts, no_part, one_part, EndsIn}

-- ---- parts, and what ends them, from the first on

pub data EndsOn {S E : Type 0} (Part : S → S → List E → Type 0) (Last : S → List E → Type 0) : S → List E → Type 0 where
  last_part : (s : S) (said : List E) → Last s said → EndsOn Part Last s said
  part_first : (s t : S) (said more : List E) → Part s t said → EndsOn Part Last t more → EndsOn Part Last s (said ++ more)

module _ {S E : Type 0} {Part : S → S → List E → Type 0} {Last : S → List E → Type 0} where
  parts_before : (s t : S) (said more : List E) → IsOfParts Part s t said → EndsOn Part Last t more → EndsOn Part Last s (said ++ more)
  parts_before s t said more no_part e = e
  parts_before s t said more (one_part u v had last p part) e = subst (EndsOn Part Last s) (sym (append_assoc had last more)) (parts_before s u had (last ++ more) p (part_first u t last more part e))

  pub end_goes_on : (s : S) (said : List E) → EndsIn Part Last s said → EndsOn Part Last s said
  end_goes_on s said e = subst (EndsOn Part Last s) (sym e.said_is) (parts_before s e.at e.before e.last e.parts (last_part e.at e.last e.ends))

-- ---- on one table

-- the same words, with the same result, which lead to the same table
pub record AreOne {E A M : Type 0} (said more : List E) (f g : A) (a b : M) : Type 0 where
  pub said_is : said ≡ more
  pub result_is : f ≡ g
  pub table_is : a ≡ b

pub with_result : {E K A M : Type 0} {said more : List E} {k l : K} {a b : M} (f g : A) → f ≡ g → AreOne said more k l a b → AreOne said more f g a b
with_result f g e one = record { said_is = one.said_is; result_is = e; table_is = one.table_is }

module _ {E M : Type 0} (Sound : M → Type 0) (Leads : M → List E → M → Type 0) where
  -- what such parts say has one outcome, from any sound table on
  abbrev pub HaveOneOutcome : {A : Type 0} → A → A → (List E → Type 0) → (List E → Type 0) → Type 0
  HaveOneOutcome f g P Q = (said more : List E) (m a b : M) → P said → Q more → Sound m → Leads m said a → Leads m more b → AreOne said more f g a b

  module _ (split : (m n : M) (said more : List E) → Leads m (said ++ more) n → (mid : M) × Leads m said mid × Leads mid more n) (stays : (m n : M) (said : List E) → Sound m → Leads m said n → Sound n) where
    -- one after the other
    pub joined_once : {K A : Type 0} (k l : K) (f g : A) (said more x y z w : List E) (m a b : M) → said ≡ x ++ y → more ≡ z ++ w → ((c d : M) → Leads m x c → Leads m z d → AreOne x z k l c d)
        → ((c : M) → k ≡ l → Sound c → Leads c y a → Leads c w b → AreOne y w f g a b) → Sound m → Leads m said a → Leads m more b → AreOne said more f g a b
    joined_once k l f g said more x y z w m a b is other first rest sound p q =
        let i = split m a x y (subst (λ h. Leads m h a) is p) in
        let j = split m b z w (subst (λ h. Leads m h b) other q) in
        let one = first i.0 j.0 i.1 j.1 in
        let two = rest i.0 one.result_is (stays m i.0 x sound i.1) i.2 (subst (λ n. Leads n w b) (sym one.table_is) j.2) in
        record { said_is = is ∙ (λ h. one.said_is h ++ two.said_is h) ∙ sym other; result_is = two.result_is; table_is = two.table_is }

    -- what a part does may follow from the conversation before it, and that nothing ends there from what comes after it
    module _ {S R : Type 0} (Part : S → S → List E → Type 0) (Last : R → S → List E → Type 0) (first : S)
        (last_once : (s : S) (f g : R) → HaveOneOutcome f g (Last f s) (Last g s))
        (part_once : (s t u : S) (had : List E) → IsOfParts Part first s had → HaveOneOutcome t u (Part s t) (Part s u))
        (not_last : (s t : S) (f g : R) (said after last : List E) (m a b : M) → Part s t said → EndsOn Part (Last f) t after → Last g s last → Sound m → Leads m said a → Leads m last b → ⊥) where
      pub ends_once : (f g : R) (s : S) (had : List E) → IsOfParts Part first s had → HaveOneOutcome f g (EndsOn Part (Last f) s) (EndsOn Part (Last g) s)
      ends_once f g s had from said more m a b (last_part v l e) (last_part w k h) sound p q = last_once s f g said more m a b e h sound p q
      ends_once f g s had from said more m a b (last_part v l e) (part_first w t x y h on) sound p q =
          let j = split m b x y q in
          absurd (not_last s t g f x y said m j.0 a h on e sound j.1 p)
      ends_once f g s had from said more m a b (part_first v t x y e on) (last_part w k h) sound p q =
          let i = split m a x y p in
          absurd (not_last s t f g x y more m i.0 b e on h sound i.1 q)
      ends_once f g s had from said more m a b (part_first v t x y e on) (part_first w u z k h later) sound p q =
          joined_once t u f g said more x y z k m a b refl refl (λ c d. part_once s t u had from x z m c d e h sound)
          (λ c same. ends_once f g t (had ++ x) (one_part s t had x from e) y k c a b on (subst (λ n. EndsOn Part (Last g) n k) (sym same) later)) sound p q
