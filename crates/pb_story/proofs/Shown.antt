-- An event whose line is printed whole, or not at all.
use Rattle.std.proofs.Common.{◌≡◌, ℕ, Bool, true, false, cond, List, [], refl}
use Rattle.pb_story.specs.Words.{Excerpt, Event, Note, WorldOf, Happens}
use Rattle.pb_story.specs.Lines.{IsLine, is_shown}
use Rattle.pb_story.specs.Stories.{IsEventTold}

whole_if : (b : Bool) (line : List ℕ) → b ≡ true → line ≡ cond b line []
whole_if true line e = refl
whole_if false line e = absurd cc

nothing_if : (b : Bool) (line : List ℕ) → b ≡ false → [] ≡ cond b line []
nothing_if true line e = absurd cc
nothing_if false line e = refl

module _ (x : Excerpt) (w : WorldOf) (number : ℕ) (e : Event) (n : Note) (v : WorldOf) (line : List ℕ) (happens : Happens w e n v) (is_line : IsLine w number e n v line) where
  pub told_whole : is_shown x number n ≡ true → IsEventTold x w number e v line
  told_whole shown = record { note = n; happens = happens; line = line; is_line = is_line; text_is = whole_if (is_shown x number n) line shown }

  pub told_not : is_shown x number n ≡ false → IsEventTold x w number e v []
  told_not hidden = record { note = n; happens = happens; line = line; is_line = is_line; text_is = nothing_if (is_shown x number n) line hidden }
