use Rattle.std.proofs.Common.{◌≡◌, Bool, true, false, if◌then◌else◌, refl, ◌∙◌, ap, ◌/◌, ◌%◌}
use Rattle.std.specs.Prelude.{◌==◌}
use Rattle.pb_isa.specs.Helpers.{HelperSet, Helper, no_helpers}
use Rattle.pb_helpers.specs.Table.{with_helper}
use Rattle.pb_api.proofs.numbers.helpers_by.Goals as goal

abbrev give : HelperSet → Helper → Bool → HelperSet
give h k there = if there then with_helper h k else h

one : (a : Bool) → give no_helpers Helper.Read a ≡ record { read = a; write = false; delete = false; start = false }
one true = refl
one false = refl

two : (a b : Bool) → give (record { read = a; write = false; delete = false; start = false }) Helper.Write b ≡ record { read = a; write = b; delete = false; start = false }
two a true = refl
two a false = refl

three : (a b c : Bool) → give (record { read = a; write = b; delete = false; start = false }) Helper.Delete c ≡ record { read = a; write = b; delete = c; start = false }
three a b true = refl
three a b false = refl

four : (a b c d : Bool) → give (record { read = a; write = b; delete = c; start = false }) Helper.Start d ≡ record { read = a; write = b; delete = c; start = d }
four a b c true = refl
four a b c false = refl

pub returns : goal.returns
returns c =
    let n = c.args.bits in
    let a = (n % 2) == 1 in let b = (n / 2 % 2) == 1 in let d = (n / 4 % 2) == 1 in let e = (n / 8 % 2) == 1 in
    let first = c.with_if-table.ensures Helper.Read refl ∙ ap (λ (h : HelperSet). give h Helper.Read a) c.none.ensures ∙ one a in
    let second = c.with_if-table-2.ensures Helper.Write refl ∙ ap (λ (h : HelperSet). give h Helper.Write b) first ∙ two a b in
    let third = c.with_if-table-3.ensures Helper.Delete refl ∙ ap (λ (h : HelperSet). give h Helper.Delete d) second ∙ three a b d in
    c.with_if.ensures Helper.Start refl ∙ ap (λ (h : HelperSet). give h Helper.Start e) third ∙ four a b d e
