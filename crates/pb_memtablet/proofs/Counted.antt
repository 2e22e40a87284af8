-- What the numbers of entries of blocks say, and how they follow a change.
use Rattle.std.proofs.Common.{◌≡◌, ℕ, ◌<◌, ◌≤◌, ◌+◌, ◌-◌, ◌*◌, ◌/◌, Bool, cond, List, [], ◌∷◌, ◌++◌, refl, sym, ap, ◌∙◌, subst, arith, zero, suc, length, take, drop, get_or, set, slice_get, min, append_assoc, All, Vec}
use mir.Val.{bool_byte}
use Rattle.std.proofs.lemmas.List.{take-append-drop, take-set-le, drop-set-lt, drop-set-add, get_or-take, get_or-drop, set-get_or, length-take, length-drop, take_min, drop_min}
use Rattle.std.proofs.Math.Seq.{take-set-lt, drop-cons}
use Rattle.std.proofs.lemmas.List.Elements.{All-take, All-drop}
use Rattle.std.proofs.lemmas.Grind.{flat_map-append}
use Rattle.pb_memtablet.specs.declared.chunks.TheConstants.{CHUNK}
use Rattle.pb_memtablet.specs.declared.counts.TheConstants.{BLOCK}
use Rattle.pb_memtablet.specs.Chunks.{chunk_entries, IsChunk}
use Rattle.pb_memtablet.specs.BlockCounts.{AreCounts, IsInBlock}
use Rattle.pb_memtablet.proofs.Homes.{get_later}
use Rattle.pb_memtablet.proofs.Pieces.{length-chunk_entries, length-set_in}

-- a flag added as a number adds one where it holds
pub byte_of : (b : Bool) → bool_byte b ≡ cond b 1 0
byte_of b = grind arith

-- the block of a chunk is its place divided by the length of a block
block_with : (i : ℕ) → IsInBlock i (i / BLOCK)
block_with i = record { from = omega arith; before = omega arith }

module _ {E A : Type 0} where
  -- the first block, and the rest
  pub blocks_apart : (cs : List (Vec E A)) → chunk_entries cs ≡ chunk_entries (take BLOCK cs) ++ chunk_entries (drop BLOCK cs)
  blocks_apart cs = ap chunk_entries (sym (take-append-drop BLOCK cs)) ∙ flat_map-append (λ c. c.items) (take BLOCK cs) (drop BLOCK cs)

  -- a place past the first block is counted on in the rest
  pub past_block : (cs : List (Vec E A)) (n i : ℕ) → n ≡ length (chunk_entries (take BLOCK cs)) → n ≤ i → slice_get (chunk_entries (drop BLOCK cs)) (i - n) ≡ slice_get (chunk_entries cs) i
  past_block cs n i e le = grind (arith, get_later, blocks_apart)

  pub first_count : (ns : List ℕ) (cs : List (Vec E A)) (i d : ℕ) → AreCounts (drop i ns) cs → i < length ns → (get_or ns i d ≡ length (chunk_entries (take BLOCK cs))) × AreCounts (drop (i + 1) ns) (drop BLOCK cs)
  first_count ns cs i d a lt =
      let next : i + 1 ≡ suc i = omega arith in
      let parted = subst (λ q. AreCounts q cs) (drop-cons ns i d lt) a in
      (parted.0, subst (λ n. AreCounts (drop n ns) (drop BLOCK cs)) (sym next) parted.1)

  -- the numbers so far go on with that of the next block
  pub counts_go_on : (ms ns : List ℕ) (all cs front back : List (Vec E A)) (n j : ℕ) → ((qs : List ℕ) → AreCounts qs cs → AreCounts (ms ++ qs) all) → j ≡ min BLOCK (length cs)
      → front ≡ take j cs → back ≡ drop j cs → n ≡ length (chunk_entries front) → AreCounts ns back → AreCounts ((ms ++ (n ∷ [])) ++ ns) all
  counts_go_on ms ns all cs front back n j so_far j_is front_is back_is n_is a = grind (arith, take_min, drop_min, append_assoc)

  -- a block has few entries
  few_in_block : (cs : List (Vec E A)) → All IsChunk cs → length (chunk_entries (take BLOCK cs)) ≤ CHUNK * BLOCK
  few_in_block cs h =
      let most = length-chunk_entries (take BLOCK cs) (All-take IsChunk BLOCK cs h) in
      omega (arith, most, length-take BLOCK cs)

  -- the number of a block fits its type, since a block has few chunks, and a chunk few entries
  pub count_is_small : (ns : List ℕ) (cs : List (Vec E A)) (b d : ℕ) → AreCounts ns cs → All IsChunk cs → b < length ns → get_or ns b d ≤ CHUNK * BLOCK
  count_is_small [] cs b d a h lt = absurd (omega (arith, lt))
  count_is_small (n ∷ ns) cs zero d a h lt = let few = few_in_block cs h in omega (arith, few, a.0)
  count_is_small (n ∷ ns) cs (suc b) d a h lt = count_is_small ns (drop BLOCK cs) b d a.1 (All-drop IsChunk BLOCK cs h) (omega arith)

  -- each chunk's block is counted
  pub block_is_counted : (ns : List ℕ) (cs : List (Vec E A)) (i b : ℕ) → AreCounts ns cs → i < length cs → IsInBlock i b → b < length ns
  block_is_counted [] cs i b a lt w = let none = ap length a in absurd (omega (arith, none, lt))
  block_is_counted (n ∷ ns) cs i zero a lt w = omega arith
  block_is_counted (n ∷ ns) cs i (suc b) a lt w =
      let from = w.from in
      let before = w.before in
      let rest : b < length ns = block_is_counted ns (drop BLOCK cs) (i - BLOCK) b a.1 (omega (arith, length-drop BLOCK cs, lt, from)) (record { from = omega (arith, from); before = omega (arith, before, from) }) in
      omega (arith, rest)

  -- x entries more and y less in one chunk are so in its block
  pub counts_after : (ns : List ℕ) (cs : List (Vec E A)) (i b : ℕ) (m n : Vec E A) (x y k d : ℕ) → AreCounts ns cs → i < length cs → IsInBlock i b → m ≡ get_or cs i m
      → length n.items + y ≡ length m.items + x → k + y ≡ get_or ns b d + x → AreCounts (set ns b k) (set cs i n)
  counts_after [] cs i b m n x y k d a lt w e l t = let none = ap length a in absurd (omega (arith, none, lt))
  counts_after (c ∷ ns) cs i zero m n x y k d a lt w e l t =
      let before : i < BLOCK = let last = w.before in omega (arith, last) in
      let inside : i < length (take BLOCK cs) = omega (arith, length-take BLOCK cs, lt, before) in
      let here : m ≡ get_or (take BLOCK cs) i m = e ∙ sym (get_or-take BLOCK cs i m before) in
      let all = length-set_in (take BLOCK cs) i m n x y inside here l in
      let same : take BLOCK (set cs i n) ≡ set (take BLOCK cs) i n = take-set-lt BLOCK cs i n before in
      let sum : k ≡ length (chunk_entries (set (take BLOCK cs) i n)) = let first = a.0 in omega (arith, all, first, t) in
      (sum ∙ ap (λ q. length (chunk_entries q)) (sym same), subst (AreCounts ns) (sym (drop-set-lt BLOCK cs i n before)) a.1)
  counts_after (c ∷ ns) cs i (suc b) m n x y k d a lt w e l t =
      let from = w.from in
      let before = w.before in
      let past : BLOCK ≤ i = omega (arith, from) in
      let parted : BLOCK + (i - BLOCK) ≡ i = omega (arith, past) in
      let inside : i - BLOCK < length (drop BLOCK cs) = omega (arith, length-drop BLOCK cs, lt, past) in
      let here : m ≡ get_or (drop BLOCK cs) (i - BLOCK) m = e ∙ ap (λ j. get_or cs j m) (sym parted) ∙ sym (get_or-drop BLOCK cs (i - BLOCK) m) in
      let block : IsInBlock (i - BLOCK) b = record { from = omega (arith, from); before = omega (arith, before, from) } in
      let rest = counts_after ns (drop BLOCK cs) (i - BLOCK) b m n x y k d a.1 inside block here l t in
      let moved : drop BLOCK (set cs i n) ≡ set (drop BLOCK cs) (i - BLOCK) n = ap (λ j. drop BLOCK (set cs j n)) (sym parted) ∙ drop-set-add BLOCK cs (i - BLOCK) n in
      (a.0 ∙ ap (λ q. length (chunk_entries q)) (sym (take-set-le BLOCK cs i n past)), subst (AreCounts (set ns b k)) (sym moved) rest)

  -- what is taken from a chunk was counted in its block
  pub taken_was_counted : (ns : List ℕ) (cs : List (Vec E A)) (i b : ℕ) (m n : Vec E A) (y d : ℕ) → AreCounts ns cs → i < length cs → IsInBlock i b → m ≡ get_or cs i m
      → length n.items + y ≡ length m.items → y ≤ get_or ns b d
  taken_was_counted [] cs i b m n y d a lt w e l = let none = ap length a in absurd (omega (arith, none, lt))
  taken_was_counted (c ∷ ns) cs i zero m n y d a lt w e l =
      let before : i < BLOCK = let last = w.before in omega (arith, last) in
      let inside : i < length (take BLOCK cs) = omega (arith, length-take BLOCK cs, lt, before) in
      let here : m ≡ get_or (take BLOCK cs) i m = e ∙ sym (get_or-take BLOCK cs i m before) in
      let less : length n.items + y ≡ length m.items + 0 = omega (arith, l) in
      let all = length-set_in (take BLOCK cs) i m n 0 y inside here less in
      omega (arith, all)
  taken_was_counted (c ∷ ns) cs i (suc b) m n y d a lt w e l =
      let from = w.from in
      let before = w.before in
      let parted : BLOCK + (i - BLOCK) ≡ i = omega arith in
      let inside : i - BLOCK < length (drop BLOCK cs) = omega (arith, length-drop BLOCK cs, lt) in
      let here : m ≡ get_or (drop BLOCK cs) (i - BLOCK) m = e ∙ ap (λ j. get_or cs j m) (sym parted) ∙ sym (get_or-drop BLOCK cs (i - BLOCK) m) in
      taken_was_counted ns (drop BLOCK cs) (i - BLOCK) b m n y d a.1 inside (record { from = omega (arith, from); before = omega (arith, before, from) }) here l

  -- a chunk that has as many as before
  pub counts_same : (ns : List ℕ) (cs : List (Vec E A)) (i : ℕ) (m n : Vec E A) → i < length cs → m ≡ get_or cs i m → length n.items ≡ length m.items → AreCounts ns cs → AreCounts ns (set cs i n)
  counts_same ns cs i m n lt e l a =
      let b = i / BLOCK in
      subst (λ q. AreCounts q (set cs i n)) (set-get_or ns b 0) (counts_after ns cs i b m n 0 0 (get_or ns b 0) 0 a lt (block_with i) e (omega (arith, l)) refl)
