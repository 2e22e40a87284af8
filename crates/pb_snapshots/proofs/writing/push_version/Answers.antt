use Rattle.std.proofs.Common.{◌≡◌, ◌++◌, ◌∷◌, [], ℕ, ◌<◌, ◌^◌, ap, subst, ◌∙◌}
use Rattle.pb_base.specs.declared.limits.TheConstants.{COLUMNS}
use Rattle.pb_snapshots.specs.Words.{Row, row_of, column_of}
use Rattle.pb_snapshots.specs.Snapshot.{number_bytes, version_kind, held_bytes}
use Rattle.pb_snapshots.proofs.Appending.{added_both}
use Rattle.pb_snapshots.proofs.writing.push_version.Goals as goal

pub returns-clause-fits : goal.returns-clause-fits
returns-clause-fits c own = record {
  row = subst (λ (r : Row). r.0 < 2 ^ 64) c.row.ensures c.push_number.ensures.within;
  column = subst (λ (n : ℕ). n < COLUMNS) (c.number.ensures.value ∙ c.column.ensures) c.number.ensures.in_range;
  start = c.push_number-2.ensures.within;
  commit = c.push_number-3.ensures.within;
  held = c.in_ok-push_held.ensures.fits;
  own = own;
}

pub returns-clause-added : goal.returns-clause-added
returns-clause-added c =
    let x = c.args.version.now in
    let old = c.args.bytes.now.items in
    let kind = version_kind x.0 x.1.content ∷ [] in
    let row = number_bytes (row_of x.0).0 in
    let column = column_of x.0 ∷ [] in
    let start = number_bytes x.1.start.0 in
    let commit = number_bytes x.1.commit.0 in
    let one : c.push.new.self.items ≡ old ++ kind = c.in_ok-push.ensures.items ∙ ap (λ (k : ℕ). old ++ k ∷ []) c.kind_of.ensures in
    let two = added_both old c.push.new.self.items c.push_number.new.bytes.items kind row one (c.in_ok-push_number.ensures.added ∙ ap (λ (r : Row). c.push.new.self.items ++ number_bytes r.0) c.row.ensures) in
    let three = added_both old c.push_number.new.bytes.items c.push-2.new.self.items (kind ++ row) column two (c.in_ok-push-2.ensures.items ∙ ap (λ (k : ℕ). c.push_number.new.bytes.items ++ k ∷ []) (c.number.ensures.value ∙ c.column.ensures)) in
    let four = added_both old c.push-2.new.self.items c.push_number-2.new.bytes.items ((kind ++ row) ++ column) start three c.in_ok-push_number-2.ensures.added in
    let five = added_both old c.push_number-2.new.bytes.items c.push_number-3.new.bytes.items (((kind ++ row) ++ column) ++ start) commit four c.in_ok-push_number-3.ensures.added in
    added_both old c.push_number-3.new.bytes.items c.push_held.new.bytes.items ((((kind ++ row) ++ column) ++ start) ++ commit) (held_bytes x.0 x.1.content) five c.in_ok-push_held.ensures.added
