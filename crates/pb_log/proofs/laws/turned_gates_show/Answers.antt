use Rattle.std.proofs.Common.{◌≡◌, ◌+◌, ◌++◌, ◌∷◌, ℕ, List, inl, inr, length, drop, refl, sym, ◌∙◌, ap, subst, arith, length-append}
use Rattle.pb_log.specs.Records.{Hides, body, block, blocks}
use Rattle.pb_log.proofs.Blocks.{length-body}
use Rattle.pb_log.proofs.OneReading.{one_reading, same_tail}
use Rattle.pb_log.proofs.TornBlocks.{closed_is_log}
use Rattle.pb_log.proofs.ReadableFiles.{sound_is_log}
use Rattle.pb_log.proofs.laws.turned_gates_show.Goals as goal

pub returns : goal.returns
returns c rs r s more shorts short_r short_s ss readable =
    let at = length (blocks 0 rs) in
    let next = at + 13 + length r in
    let hidden = body at r ++ (block next s ++ more) in
    let file = blocks 0 rs ++ 0 ∷ hidden in
    let hides : Hides at hidden = record {
      hidden = record { item = r; rest = block next s ++ more; short = short_r; is = refl };
      next = record { item = s; rest = more; short = short_s; is = refl };
    } in
    elim readable [
      | inl sound ↦
          let log = sound_is_log file ss sound in
          let same = one_reading file ss rs log (closed_is_log rs shorts hidden file refl) in
          let size : length (blocks 0 ss) ≡ length (blocks 0 rs) = ap (λ (l : List (List ℕ)). length (blocks 0 l)) same.0 in
          let after : sound.tail ≡ 0 ∷ hidden = same_tail file ss rs sound.tail (0 ∷ hidden) size sound.is refl in
          let torn : hidden ≡ sound.shut.torn = ap (λ (x : List ℕ). drop 1 x) (sym after ∙ sound.shut.is) in
          sound.shut.bare (subst (λ (x : List ℕ). Hides (length (blocks 0 ss)) x) torn (subst (λ (k : ℕ). Hides k hidden) (sym size) hides))
      | inr new ↦ omega (arith, new.0, length-append (blocks 0 rs) (0 ∷ hidden), length-append (body at r) (block next s ++ more), length-body at r)
    ]
