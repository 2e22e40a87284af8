-- A text is read as a program exactly where its lines of instructions are the program's.
use Rattle.std.proofs.Common.{◌≡◌, ℕ, ◌<◌, ◌≤◌, ◌↔◌, true, false, List, [], ◌∷◌, ◌++◌, map, Result, Ok, Err, refl, sym, ap, subst, ◌∙◌, arith}
use Rattle.std.specs.List.{flat_map, AllByRecursion}
use Rattle.std.proofs.lemmas.Bool.{le-ltb}
use Rattle.pb_asm.specs.Words.{Insn, Fits, slots, ProgramOf, IsProgram, Profile, max_slots, IsOf, ◌>>=◌, shown_lines, is_skipped, lines_of}
use Rattle.pb_asm.specs.declared.fault.AsmCode.{AsmCode}
use Rattle.pb_asm.specs.Operands.{line_of}
use Rattle.pb_asm.specs.Listing.{insn_text, listing}
use Rattle.pb_asm.specs.Codes.{asm_code}
use Rattle.pb_asm.specs.Texts.{with_insn_line, insns_of_lines, some_of, program_of_text}
use Rattle.pb_reading.proofs.LinesInTurn.{Adds, TakesLines, cons_is_same, read_adds_all, said_is_read}
use Rattle.pb_asm.proofs.OneSpelling.{line_spelled}
use Rattle.pb_asm.proofs.ListingsReadBack.{insn_shown, line_back, lines_cut, slots_append, some_there}
use Rattle.pb_reading.proofs.SkippedLines.{kept, kept_one}

-- ---- what has been read

-- a skipped line changes nothing
skip_line : (k : Profile) (before : List Insn) (l : List ℕ) → is_skipped l ≡ true → with_insn_line k before l ≡ Ok before
unfolding with_insn_line
skip_line k before l is = rw is refl

-- a line that isn't skipped and is read adds its instruction, where the slots suffice
abbrev Room : Profile → List Insn → Type 0
Room k is = slots is ≤ max_slots k

abbrev one : Insn → List Insn
one i = i ∷ []

take_line : (k : Profile) (before q : List Insn) (l : List ℕ) → is_skipped l ≡ false → with_insn_line k before l ≡ Ok q → Adds (line_of k) one (Room k) before q l
unfolding with_insn_line
take_line k before q l is h = grind arith

add_line : (k : Profile) (before : List Insn) (l : List ℕ) (i : Insn) → is_skipped l ≡ false → line_of k l ≡ Ok i → Room k (before ++ i ∷ []) → with_insn_line k before l ≡ Ok (before ++ i ∷ [])
unfolding with_insn_line
add_line k before l i is says most = rw (is, says, le-ltb (max_slots k) (slots (before ++ i ∷ [])) most) refl

fewer : (k : Profile) (before more : List Insn) → Room k (before ++ more) → Room k before
fewer k before more room = let a = slots_append before more in omega (arith, a, room)

-- so a text's lines add their instructions
takes : (k : Profile) → TakesLines (with_insn_line k) (line_of k) one (Room k)
takes k = record { skips = skip_line k; adds = take_line k; takes = add_line k; fewer = fewer k }

singles : (is : List Insn) → flat_map one is ≡ is
singles [] = refl
singles (i ∷ is) = ap (λ (js : List Insn). i ∷ js) (singles is)

-- ---- lines and their instructions

-- the lines are the listing of these instructions, which fit and are of the profile
pub record AreListed (k : Profile) (ls : List (List ℕ)) (is : List Insn) : Type 0 where
  pub lines : ls ≡ map insn_text is
  pub fits : AllByRecursion Fits is
  pub of_profile : AllByRecursion (IsOf k) is
  pub most : Room k is

-- all but the room for them
abbrev Listed : Profile → List (List ℕ) → List Insn → Type 0
Listed k ls is = (ls ≡ map insn_text is) × AllByRecursion Fits is × AllByRecursion (IsOf k) is

listed : (k : Profile) (ls : List (List ℕ)) (is : List Insn) → map (line_of k) ls ≡ map (λ i. Ok i) is → Listed k ls is
listed k [] [] h = (refl, tt, tt)
listed k [] (i ∷ is) h = absurd cc
listed k (l ∷ ls) [] h = absurd cc
listed k (l ∷ ls) (i ∷ is) h =
    let p = cons_is_same (line_of k l) (Ok i) (map (line_of k) ls) (map (λ j. Ok j) is) h in
    let s = line_spelled k l i p.0 in
    let f = listed k ls is p.1 in
    (ap (λ (x : List ℕ). x ∷ ls) s.0 ∙ ap (λ (xs : List (List ℕ)). insn_text i ∷ xs) f.0, (s.1, f.1), (s.2, f.2))

said : (k : Profile) (is : List Insn) → AllByRecursion Fits is → AllByRecursion (IsOf k) is → map (line_of k) (map insn_text is) ≡ map (λ i. Ok i) is
said k [] fits have = refl
said k (i ∷ is) fits have = ap (λ (r : Result Insn AsmCode). r ∷ map (line_of k) (map insn_text is)) (line_back k i fits.0 have.0) ∙ ap (λ (rs : List (Result Insn AsmCode)). Ok i ∷ rs) (said k is fits.1 have.1)

-- lines that are read are those of their instructions
pub lines_are : (k : Profile) (text : List ℕ) (q : List Insn) → insns_of_lines k 0 [] (lines_of text) ≡ Ok q → AreListed k (shown_lines text) q
lines_are k text q h =
    let f = read_adds_all asm_code (with_insn_line k) (line_of k) one (Room k) (takes k) 0 [] q (lines_of text) h (omega arith) in
    let p = listed k (kept (lines_of text)) f.things f.says in
    let same : q ≡ f.things = f.whole ∙ singles f.things in
    record { lines = p.0 ∙ ap (map insn_text) (sym same); fits = subst (AllByRecursion Fits) (sym same) p.1; of_profile = subst (AllByRecursion (IsOf k)) (sym same) p.2; most = f.room }

-- and lines whose kept ones are a listing are read as it
pub lines_back : (k : Profile) (text : List ℕ) (p : List Insn) → AreListed k (shown_lines text) p → insns_of_lines k 0 [] (lines_of text) ≡ Ok p
lines_back k text p a =
    said_is_read asm_code (with_insn_line k) (line_of k) one (Room k) (takes k) 0 (lines_of text) [] p (ap (map (line_of k)) a.lines ∙ said k p a.fits a.of_profile) (subst (Room k) (sym (singles p)) a.most)
    ∙ ap Ok (singles p)

-- ---- programs

-- a program's instructions take some slots
some_slots : (k : Profile) (is : List Insn) (p : ProgramOf) → some_of k is ≡ Ok p → 0 < slots is
some_slots k is p h = grind arith

some_same : (k : Profile) (is : List Insn) (p : ProgramOf) → some_of k is ≡ Ok p → record { profile = k; insns = is } ≡ p
some_same k is p h = grind arith

-- the program's lines, and that it is one of this profile
abbrev Whole : Profile → List ℕ → ProgramOf → Type 0
Whole k text p = (shown_lines text ≡ map insn_text p.insns) × (p.profile ≡ k) × IsProgram p × AllByRecursion Fits p.insns

-- a text that is read is a listing with empty lines and remarks in it
read_whole : (k : Profile) (text : List ℕ) (p : ProgramOf) (r : Result (List Insn) (ℕ × ℕ)) → insns_of_lines k 0 [] (lines_of text) ≡ r → (r >>= some_of k) ≡ Ok p → Whole k text p
read_whole k text p (Err e) is h = absurd cc
read_whole k text p (Ok q) is h =
    let a = lines_are k text q is in
    subst (Whole k text) (some_same k q p h) (a.lines, refl, record { some = some_slots k q p h; most = a.most; of_profile = a.of_profile }, a.fits)

-- and such a listing is read
read_back : (text : List ℕ) (p : ProgramOf) → shown_lines text ≡ map insn_text p.insns → IsProgram p → AllByRecursion Fits p.insns → program_of_text p.profile text ≡ Ok p
read_back text p lines is fits = grind (arith, lines_back, some_there, p.profile, p.insns, is.of_profile, is.most, is.some)

-- a text is read as a program exactly where its kept lines are the program's listing
pub text_is : (k : Profile) (text : List ℕ) (p : ProgramOf) → (program_of_text k text ≡ Ok p) ↔ Whole k text p
text_is k text p = (read_whole k text p (insns_of_lines k 0 [] (lines_of text)) refl, λ h. subst (λ (q : Profile). program_of_text q text ≡ Ok p) h.1 (read_back text p h.0 h.2 h.3))

-- a listing's lines are all instructions', except the empty one after the last newline
kept_listing : (p : List Insn) → kept (map insn_text p ++ [] ∷ []) ≡ map insn_text p
kept_listing [] = refl
kept_listing (i ∷ p) = kept_one (insn_text i) (map insn_text p ++ [] ∷ []) (insn_shown i) ∙ ap (λ (ls : List (List ℕ)). insn_text i ∷ ls) (kept_listing p)

-- so a listing is read as its program
pub listing_back : (p : ProgramOf) → IsProgram p → AllByRecursion Fits p.insns → program_of_text p.profile (listing p.insns) ≡ Ok p
listing_back p is fits = read_back (listing p.insns) p (ap kept (lines_cut p.insns fits) ∙ kept_listing p.insns) is fits
