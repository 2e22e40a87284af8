-- A tablet of either sort. Tables see its contents alone; its sort is given when it is made.
use Rattle.std.specs.Prelude.{Bool, true, false}
use Rattle.pb_memtablet.specs.Words.{Contents}
use Rattle.pb_memtablet.specs.declared.either.EitherTablet.{EitherTablet}

-- what the tablet inside contains
abbrev pub contents_inside : EitherTablet → Contents
contents_inside (EitherTablet.List t) = t
contents_inside (EitherTablet.Slab t) = t

-- whether it is a slab, else a list
abbrev pub is_slab_inside : EitherTablet → Bool
is_slab_inside (EitherTablet.List t) = false
is_slab_inside (EitherTablet.Slab t) = true
