use Rattle.std.proofs.Common.{◌∙◌, ◌∷◌, ◌++◌, [], ap}
use Rattle.pb_api.proofs.EmptyTables.{no_reason}
use Rattle.pb_api.proofs.replaying.empty_table.Goals as goal

pub unreachable-requires : goal.unreachable-requires
unreachable-requires c =
    no_reason (λ t. t) c.push.new.self.items c.new.result c.in-Err.field-0.1
    (c.in_ok-push.ensures.items ∙ ap (λ l. l ++ (record { 0 = 0 }, c.new.result) ∷ []) c.new-parts.ensures.items) c.new.ensures c.in-Err.ensures.refused
