use Rattle.std.proofs.Common.{rules, ◌≡◌, ◌∷◌, [], ◌++◌, ◌∙◌, false, ap, string_bytes, bytes_eq}
use Rattle.std.proofs.lemmas.List.{map-append}
use Rattle.serde_json.specs.View.{view}
use Rattle.indexmap.proofs.CallerLemmas.{insert_entry-new}
use Rattle.pb_registry.specs.Observers.{observer_of, observers_of}
use Rattle.pb_registry.specs.Judging.{is_used, names_of}
use Rattle.pb_registry.proofs.UsedNames.{new_name, distinct_names}
use Rattle.pb_registry.proofs.listing.add_observer.Goals as goal

pub returns-in-Ok-clause-more : goal.returns-in-Ok-clause-more
returns-in-Ok-clause-more c =
    let new : is_used (names_of (observers_of c.args.observers.now.entries)) (view c.args.element.now) ≡ false = search rules in
    let name : c.in_ok-name.field-0.name ≡ string_bytes c.name.inside.name = search rules in
    let absent = new_name c.args.profile c.args.observers.now.entries (view c.args.element.now) c.in_ok-name.field-0 c.name.inside.name c.in_ok-name.ensures.ok name new in
    let last = c.in-Ok.ensures.entries ∙ insert_entry-new (λ x y. bytes_eq (string_bytes x) (string_bytes y)) c.args.observers.now c.name.inside.name (record { column = c.name.inside.column; program = c.name.inside.program }) absent in
    (c.in_ok-name.field-0, c.in_ok-name.ensures.ok, ap observers_of last ∙ map-append observer_of c.args.observers.now.entries ((c.name.inside.name, record { column = c.name.inside.column; program = c.name.inside.program }) ∷ []) ∙ ap (λ o. observers_of c.args.observers.now.entries ++ o ∷ []) c.name.view_is)

pub returns-in-Ok-clause-apart : goal.returns-in-Ok-clause-apart
returns-in-Ok-clause-apart c = distinct_names c.insert.new.self.entries c.insert.ensures.unique
