-- What is known before each slot of a program, in words: kinds of registers and runs of written stack bytes, as the
-- verifier knows them (`known_at`), whether the program is accepted or not. `frames_text` promises it.
use Rattle.std.specs.Prelude.{ℕ, zero, suc, ◌+◌, ◌-◌, ℤ, pos, negsuc, Bool, true, false, not, ◌&&◌, if◌then◌else◌, List, [], ◌∷◌, ◌++◌, drop, codes, Option, Some, None, slice_index_or, decimal}
use Rattle.std.specs.List.{enumerate_from, flat_map}
use Rattle.pb_story.specs.Words.{STACK_BYTES, Insn, slots, insn_at, Kind, Frame, known_at}

-- ---- registers

-- a distance has its sign always
abbrev pub distance_text : ℤ → List ℕ
distance_text (pos n) = codes "+" ++ decimal n
distance_text (negsuc n) = codes "-" ++ decimal (suc n)

-- the register of this number, unless it is unset
abbrev pub register_text : ℕ → Kind → List ℕ
register_text r Kind.Unset = []
register_text r Kind.Number = codes " r" ++ (decimal r ++ codes "=number")
register_text r (Kind.Stack k) = codes " r" ++ (decimal r ++ (codes "=stack" ++ distance_text k))
register_text r (Kind.Record k) = codes " r" ++ (decimal r ++ (codes "=record" ++ distance_text k))

-- the registers that aren't unset, by their numbers
abbrev pub registers_text : List Kind → List ℕ
registers_text kinds = flat_map (λ e. register_text e.0 e.1) (enumerate_from 0 kinds)

-- ---- stack bytes

-- how many are written before the first that isn't
abbrev pub run_length : List Bool → ℕ
run_length [] = 0
run_length (false ∷ bytes) = 0
run_length (true ∷ bytes) = run_length bytes + 1

-- whether the byte below a place is written
abbrev pub has_below : List Bool → ℕ → Bool
has_below written zero = false
has_below written (suc i) = slice_index_or written i false

-- a byte that is written, where the one below isn't
abbrev pub begins_run : List Bool → ℕ → Bool
begins_run written i = slice_index_or written i false && not (has_below written i)

-- the run of so many written bytes from this place on: the distances of its first and its last byte to the stack's end
abbrev pub run_text : ℕ → ℕ → List ℕ
run_text i n = codes " written=-" ++ (decimal (STACK_BYTES - i) ++ (codes "..-" ++ decimal (STACK_BYTES + 1 - (i + n))))

-- the longest run of written bytes that begins at a place, if one does
abbrev pub run_at : List Bool → ℕ → List ℕ
run_at written i = if begins_run written i then run_text i (run_length (drop i written)) else []

-- each run of written bytes once, at its lowest byte, from the lowest on
abbrev pub runs_text : List Bool → List ℕ
runs_text written = flat_map (λ b. run_at written b.0) (enumerate_from 0 written)

-- ---- slots

-- what a frame says: registers, and then stack bytes
abbrev pub frame_text : Frame → List ℕ
frame_text f = registers_text f.kinds ++ runs_text f.written

-- the line of a slot with this instruction and this frame before it; a second slot has none
abbrev pub line_at : ℕ → Option Insn → Option Frame → List ℕ
line_at n None f = []
line_at n (Some i) None = decimal n ++ codes " unreachable\n"
line_at n (Some i) (Some f) = decimal n ++ (frame_text f ++ codes "\n")

-- the line of a slot in a program, with what is known before it
abbrev pub slot_line : List Insn → ℕ → List ℕ
slot_line p n = line_at n (insn_at p n) (known_at p n)

-- the lines of the slots below n
abbrev pub lines_below : List Insn → ℕ → List ℕ
lines_below p zero = []
lines_below p (suc n) = lines_below p n ++ slot_line p n

-- the lines of all slots, in their order
abbrev pub frames_text : List Insn → List ℕ
frames_text p = lines_below p (slots p)
