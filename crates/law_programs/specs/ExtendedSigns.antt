-- Moves and loads that extend the sign, in figures (RFC 9669, sections 4.1 and 5.2). The machine defines them by a
-- width's cast to a number with sign, as the code does, and would take the cast of another width.
use Rattle.std.specs.Prelude.{◌≡◌, ℕ}
use Rattle.law_programs.specs.Words.{Extension, Size, Width, extended, mov_sx}

-- what a word becomes by a move that extends the sign of so many bits, to 64 bits and to 32
pub record MovesTo (z : Size) (v to_64 to_32 : ℕ) : Type 0 where
  pub whole : mov_sx Width.Bits64 z v ≡ to_64
  pub low : mov_sx Width.Bits32 z v ≡ to_32

-- the greatest number without the sign bit stays as it is, the sign bit alone fills the bits above it, and what stands above
-- it counts for nothing
pub record MovesExtendSigns : Type 0 where
  pub byte_below : MovesTo Size.B 0x7f 0x7f 0x7f
  pub byte_above : MovesTo Size.B 0x80 0xffff_ffff_ffff_ff80 0xffff_ff80
  pub byte_of_more : MovesTo Size.B 0xffff_ffff_ffff_ff7f 0x7f 0x7f
  pub byte_of_next : MovesTo Size.B 0x100 0 0
  pub half_below : MovesTo Size.H 0x7fff 0x7fff 0x7fff
  pub half_above : MovesTo Size.H 0x8000 0xffff_ffff_ffff_8000 0xffff_8000
  pub half_of_more : MovesTo Size.H 0xffff_ffff_ffff_7fff 0x7fff 0x7fff
  pub half_of_next : MovesTo Size.H 0x1_0000 0 0
  pub word_below : MovesTo Size.W 0x7fff_ffff 0x7fff_ffff 0x7fff_ffff
  pub word_above : MovesTo Size.W 0x8000_0000 0xffff_ffff_8000_0000 0x8000_0000
  pub word_of_more : MovesTo Size.W 0xffff_ffff_7fff_ffff 0x7fff_ffff 0x7fff_ffff
  pub word_of_next : MovesTo Size.W 0x1_0000_0000 0 0

-- what a load makes of a number that it read, with its sign and with zeros
pub record LoadsAs (z : Size) (v signed plain : ℕ) : Type 0 where
  pub sign : extended Extension.Sign z v ≡ signed
  pub zeros : extended Extension.Zeros z v ≡ plain

-- of one, two and four bytes
pub record LoadsExtendSigns : Type 0 where
  pub byte_below : LoadsAs Size.B 0x7f 0x7f 0x7f
  pub byte_above : LoadsAs Size.B 0x80 0xffff_ffff_ffff_ff80 0x80
  pub byte_full : LoadsAs Size.B 0xff 0xffff_ffff_ffff_ffff 0xff
  pub half_below : LoadsAs Size.H 0x7fff 0x7fff 0x7fff
  pub half_above : LoadsAs Size.H 0x8000 0xffff_ffff_ffff_8000 0x8000
  pub half_full : LoadsAs Size.H 0xffff 0xffff_ffff_ffff_ffff 0xffff
  pub word_below : LoadsAs Size.W 0x7fff_ffff 0x7fff_ffff 0x7fff_ffff
  pub word_above : LoadsAs Size.W 0x8000_0000 0xffff_ffff_8000_0000 0x8000_0000
  pub word_full : LoadsAs Size.W 0xffff_ffff 0xffff_ffff_ffff_ffff 0xffff_ffff
