use Rattle.std.proofs.Common.{◌≡◌, rules, sym, ap, ◌∙◌, is_some}
use Rattle.pb_state.specs.Words.{StateOf, lock_at}
use Rattle.pb_state.proofs.parts.Parts.commit_primary.Goals as goal

pub returns-then-not-has_lock-clause-taken : goal.returns-then-not-has_lock-clause-taken
returns-then-not-has_lock-clause-taken g c =
    let e : c.self.inside.table.contents.entries ≡ c.args.self.now.entries = ap (λ (s : StateOf). s.entries) c.self.view_is in
    let f = c.requires.found in
    record {
      allowed = c.requires.allowed;
      taken = record {
        t = f.0;
        own = f.1.own;
        c = c.args.commit.0;
        stamped = f.2;
        primary = c.args.primary.now;
        primary_is = f.3;
        unlocked = ap (λ m. is_some (lock_at m c.args.primary.now c.args.by.start.0)) (sym e) ∙ sym c.has_lock.ensures ∙ c.if-not-has_lock.true;
        new_is = search rules;
      };
    }
