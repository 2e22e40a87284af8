use Rattle.std.proofs.Common.{◌∷◌, ap, codes, sym, ◌∙◌}
use Rattle.percobpf_keep.proofs.SameTexts.{tested_same}
use Rattle.percobpf_keep.proofs.copies_first.Goals as goal

pub returns : goal.returns
returns c =
    let rest = ap (λ l. c.args.first ∷ l) (c.in_ok-folder.ensures.word ∙ ap (λ l. c.in_ok-folder.folder ∷ l) c.in_ok-next_word.ensures.word) in
    (c.args.first, rest, sym c.as_str.ensures.value ∙ tested_same c.as_str.result.now (codes "--copies") c.ne.result c.ne.ensures c.if-ne.false)
