-- Operations joined by `; `, and cut there.
use Rattle.std.proofs.Common.{◌≡◌, ℕ, Bool, cond, List, [], ◌∷◌, ◌++◌, refl, ap, ◌∙◌, arith, ◌==◌, ◌&&◌, codes}
use Rattle.std.specs.List.{join_by, onto_first}
use Rattle.std.proofs.lemmas.List.{append-nil}
use Rattle.law_texts.specs.Words.{cut}
use Rattle.pb_reading.proofs.Parts.{Lacks, AreParts}

-- texts with `; ` between them
abbrev pub joined : List (List ℕ) → List ℕ
joined texts = join_by (λ text. text) (codes "; ") texts

-- ---- what is cut, joined again

chosen_joined : (k : Bool) (b c : ℕ) (bs : List ℕ) → ((b == 59) && (c == 32)) ≡ k → joined (cut bs) ≡ bs → joined (cut (c ∷ bs)) ≡ c ∷ bs → joined (cond k ([] ∷ cut bs) (onto_first b (cut (c ∷ bs)))) ≡ b ∷ c ∷ bs
chosen_joined b b1 c bs is h k = grind arith

-- what is cut and joined again is the line
pub joined_cut : (line : List ℕ) → joined (cut line) ≡ line
joined_cut [] = refl
joined_cut (b ∷ []) = refl
joined_cut (b ∷ c ∷ bs) = chosen_joined ((b == 59) && (c == 32)) b c bs refl (joined_cut bs) (joined_cut (c ∷ bs))

-- ---- and what has no semicolon, cut again

-- a text without a semicolon is cut off at the joint after it
cut_there : (text rest : List ℕ) → Lacks 59 text → cut (text ++ 59 ∷ 32 ∷ rest) ≡ text ∷ cut rest
cut_there [] rest h = refl
cut_there (b ∷ []) rest h = rw h.0 refl
cut_there (b ∷ c ∷ bs) rest h = let k = cut_there (c ∷ bs) rest h.1 in rw (h.0, k) refl

-- and is the only part where none follows
cut_none : (text : List ℕ) → Lacks 59 text → cut text ≡ text ∷ []
cut_none [] h = refl
cut_none (b ∷ []) h = refl
cut_none (b ∷ c ∷ bs) h = let k = cut_none (c ∷ bs) h.1 in rw (h.0, k) refl

-- texts without semicolons are cut where they were joined
pub cut_joined : (text : List ℕ) (texts : List (List ℕ)) → Lacks 59 text → AreParts 59 texts → cut (joined (text ∷ texts)) ≡ text ∷ texts
cut_joined text [] h k = ap cut (append-nil text) ∙ cut_none text h
cut_joined text (next ∷ texts) h k = cut_there text (joined (next ∷ texts)) h ∙ ap (λ (ts : List (List ℕ)). text ∷ ts) (cut_joined next texts k.0 k.1)
