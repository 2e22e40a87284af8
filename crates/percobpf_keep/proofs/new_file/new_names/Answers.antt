use Rattle.std.proofs.Common.{◌≡◌, ◌++◌, ℕ, List, codes, subst, sym, ap, ◌∙◌, inl, inr, append_assoc, string_bytes}
use Rattle.std.specs.Prelude.{decimal}
use Rattle.percobpf_keep.specs.Names.{new_name, name_beside, HasEnding}
use Rattle.percobpf_keep.proofs.new_file.new_names.Goals as goal

-- these names end as those of new logs do
new_name_ends : (log : List ℕ) (number : ℕ) → HasEnding (codes "~new") (new_name log number)
new_name_ends log number = (log ++ (codes "." ++ decimal number), sym (append_assoc log (codes "." ++ decimal number) (codes "~new") ∙ ap (λ l. log ++ l) (append_assoc (codes ".") (decimal number) (codes "~new"))))

name_beside_ends : (path : List ℕ) → HasEnding (codes "~new") path → HasEnding (codes "~new-wal") (name_beside path)
name_beside_ends path h = (h.0, ap (λ l. l ++ codes "-wal") h.1 ∙ append_assoc h.0 (codes "~new") (codes "-wal"))

pub returns : goal.returns
returns c =
    let named = c.in_ok-path.ensures in
    let named_beside : string_bytes c.in_ok-beside.beside ≡ name_beside (string_bytes c.in_ok-path.path) = c.in_ok-beside.ensures ∙ ap (λ l. name_beside l) c.as_str.ensures.value in
    let ends = subst (λ l. HasEnding (codes "~new") l) (sym named) (new_name_ends c.args.log.now c.args.number) in
    record {
      number = c.args.number;
      named = named;
      named_beside = named_beside;
      reserved = inl ends;
      reserved_beside = inr (subst (λ l. HasEnding (codes "~new-wal") l) (sym named_beside) (name_beside_ends (string_bytes c.in_ok-path.path) ends));
    }
