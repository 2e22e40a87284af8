-- A text of which each line that isn't skipped says a thing, and adds what that makes: it is read exactly where these
-- lines say such things, in order, and all that they make has room.
use Rattle.std.proofs.Common.{arith, ◌≡◌, ℕ, ◌+◌, Bool, true, false, List, [], ◌∷◌, ◌++◌, map, Result, Ok, refl, sym, ap, subst, ◌∙◌, append_assoc, append-nil, flat_map}
use Rattle.pb_reading.specs.Reading.{◌>>=◌, is_skipped, numbered}
use Rattle.pb_reading.specs.Faults.{in_lines}
use Rattle.pb_reading.proofs.Readings.{ok_is}
use Rattle.pb_reading.proofs.SkippedLines.{kept, kept_one}

-- what one line added: the thing that it says, and room for what that makes
pub record Adds {T I C : Type 0} (said : List ℕ → Result I C) (made : I → List T) (Room : List T → Type 0) (before after : List T) (l : List ℕ) : Type 0 where
  pub thing : I
  pub says : said l ≡ Ok thing
  pub whole : before ++ made thing ≡ after
  pub room : Room after

-- what the lines added
pub record AddAll {T I C : Type 0} (said : List ℕ → Result I C) (made : I → List T) (Room : List T → Type 0) (before after : List T) (ls : List (List ℕ)) : Type 0 where
  pub things : List I
  pub says : map said (kept ls) ≡ map (λ thing. Ok thing) things
  pub whole : after ≡ before ++ flat_map made things
  pub room : Room after

-- how such a text takes a line
pub record TakesLines {T I C : Type 0} (with_line : List T → List ℕ → Result (List T) C) (said : List ℕ → Result I C) (made : I → List T) (Room : List T → Type 0) : Type 0 where
  pub skips : (before : List T) (l : List ℕ) → is_skipped l ≡ true → with_line before l ≡ Ok before
  pub adds : (before after : List T) (l : List ℕ) → is_skipped l ≡ false → with_line before l ≡ Ok after → Adds said made Room before after l
  pub takes : (before : List T) (l : List ℕ) (thing : I) → is_skipped l ≡ false → said l ≡ Ok thing → Room (before ++ made thing) → with_line before l ≡ Ok (before ++ made thing)
  pub fewer : (before more : List T) → Room (before ++ more) → Room before

pub cons_is_same : {A : Type 0} (x y : A) (xs ys : List A) → x ∷ xs ≡ y ∷ ys → (x ≡ y) × (xs ≡ ys)
cons_is_same x y xs ys h = (cc, cc)

-- things that make one item each
pub flat_singles : {A : Type 0} (xs : List A) → flat_map (λ x. x ∷ []) xs ≡ xs
flat_singles [] = refl
flat_singles {A} (x ∷ xs) = ap (λ (ys : List A). x ∷ ys) (flat_singles xs)

module _ {T I C : Type 0} (code : C → ℕ) (with_line : List T → List ℕ → Result (List T) C) (said : List ℕ → Result I C) (made : I → List T) (Room : List T → Type 0) (law : TakesLines with_line said made Room) where
  -- ---- what has been read

  one_more : (before p after : List T) (l : List ℕ) (ls : List (List ℕ)) (b : Bool) → is_skipped l ≡ b → with_line before l ≡ Ok p → Room before → (Room p → AddAll said made Room p after ls) → AddAll said made Room before after (l ∷ ls)
  one_more before p after l ls true is h room others = grind arith
  one_more before p after l ls false is h room others =
      let t = law.adds before p l is h in
      let f = others t.room in
      record {
        things = t.thing ∷ f.things;
        says = ap (map said) (kept_one l ls is) ∙ ap (λ (r : Result I C). r ∷ map said (kept ls)) t.says ∙ ap (λ (rs : List (Result I C)). Ok t.thing ∷ rs) f.says;
        whole = f.whole ∙ ap (λ (ts : List T). ts ++ flat_map made f.things) (sym t.whole) ∙ append_assoc before (made t.thing) (flat_map made f.things);
        room = f.room;
      }

  step : (n : ℕ) (before after : List T) (l : List ℕ) (ls : List (List ℕ)) (r : Result (List T) C) → with_line before l ≡ r → (numbered code n r >>= λ p. in_lines code with_line (n + 1) p ls) ≡ Ok after → Room before
      → ((p : List T) → in_lines code with_line (n + 1) p ls ≡ Ok after → Room p → AddAll said made Room p after ls) → AddAll said made Room before after (l ∷ ls)
  step n before after l ls r is h room others = grind (arith, one_more)

  -- lines that are read add what they say
  pub read_adds_all : (n : ℕ) (before after : List T) (ls : List (List ℕ)) → in_lines code with_line n before ls ≡ Ok after → Room before → AddAll said made Room before after ls
  read_adds_all n before after [] h room = grind (arith, ok_is, append-nil)
  read_adds_all n before after (l ∷ ls) h room = step n before after l ls (with_line before l) refl h room (λ p k m. read_adds_all (n + 1) p after ls k m)

  -- ---- and what will be

  abbrev ReadOn : ℕ → List (List ℕ) → Type 0
  ReadOn n ls = (before : List T) (things : List I) → map said (kept ls) ≡ map (λ thing. Ok thing) things → Room (before ++ flat_map made things) → in_lines code with_line n before ls ≡ Ok (before ++ flat_map made things)

  go_on : (n : ℕ) (before p after : List T) (l : List ℕ) (ls : List (List ℕ)) → with_line before l ≡ Ok p → in_lines code with_line (n + 1) p ls ≡ Ok after → in_lines code with_line n before (l ∷ ls) ≡ Ok after
  go_on n before p after l ls is h = ap (λ (r : Result (List T) C). numbered code n r >>= λ x. in_lines code with_line (n + 1) x ls) is ∙ h

  back_line : (n : ℕ) (before : List T) (things : List I) (l : List ℕ) (ls : List (List ℕ)) (b : Bool) → is_skipped l ≡ b → map said (kept (l ∷ ls)) ≡ map (λ thing. Ok thing) things → Room (before ++ flat_map made things) → ReadOn (n + 1) ls
      → in_lines code with_line n before (l ∷ ls) ≡ Ok (before ++ flat_map made things)
  back_line n before things l ls true is says room others = grind arith
  back_line n before [] l ls false is says room others = grind arith
  back_line n before (i ∷ is) l ls false shown says room others =
      let h = cons_is_same (said l) (Ok i) (map said (kept ls)) (map (λ thing. Ok thing) is) (ap (map said) (sym (kept_one l ls shown)) ∙ says) in
      let grouped : (before ++ made i) ++ flat_map made is ≡ before ++ flat_map made (i ∷ is) = append_assoc before (made i) (flat_map made is) in
      let whole : Room ((before ++ made i) ++ flat_map made is) = subst Room (sym grouped) room in
      grind (arith, go_on, law.takes, law.fewer)

  -- lines that say such things are read, wherever they begin
  pub said_is_read : (n : ℕ) (ls : List (List ℕ)) → ReadOn n ls
  said_is_read n [] before [] says room = ap Ok (sym (append-nil before))
  said_is_read n [] before (i ∷ is) says room = absurd cc
  said_is_read n (l ∷ ls) before things says room = back_line n before things l ls (is_skipped l) refl says room (said_is_read (n + 1) ls)
