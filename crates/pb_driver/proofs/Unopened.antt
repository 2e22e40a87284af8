-- A table that has nothing in it is refused for memory alone.
use Rattle.std.proofs.Common.{arith, ◌≡◌, ap, ◌∙◌, true}
use Rattle.std.specs.FinMap as map
use Rattle.pb_driver.specs.Words.{Refusal, memory_refusal, Contents, nothing, is_nothing}

nothing_is_nothing : is_nothing nothing ≡ true
nothing_is_nothing = grind (arith, map.len-empty)

pub for_memory : (c : Contents) (r : Refusal) → c ≡ nothing → (is_nothing c ≡ true → r ≡ memory_refusal) → r ≡ memory_refusal
for_memory c r e h = h (ap is_nothing e ∙ nothing_is_nothing)
