use Rattle.std.proofs.Common.{◌≡◌, true, false, rules, sym, ap, ◌∙◌, is_some}
use Rattle.pb_state.specs.Words.{StateOf, lock_at, if_locked}
use Rattle.pb_state.proofs.parts.Parts.commit_secondary.Goals as goal

pub returns-then-not-has_lock-clause-taken : goal.returns-then-not-has_lock-clause-taken
returns-then-not-has_lock-clause-taken g c =
    let e : c.self.inside.table.contents.entries ≡ c.args.self.now.entries = ap (λ (s : StateOf). s.entries) c.self.view_is in
    let f = c.requires.found in
    let unlocked : is_some (lock_at c.args.self.now.entries c.args.cell.now c.args.start.0) ≡ false = ap (λ m. is_some (lock_at m c.args.cell.now c.args.start.0)) (sym e) ∙ sym c.has_lock.ensures ∙ c.if-not-has_lock.true in
    record {
      allowed = c.requires.allowed;
      taken = record { t = f.0; own = f.1; c = c.args.commit.0; committed = f.2; declares = search rules; new_is = sym (ap (λ b. if_locked c.args.self.now b c.args.cell.now c.args.start.0 c.args.commit.0) unlocked) };
    }

pub returns-clause-taken : goal.returns-clause-taken
returns-clause-taken g c =
    let e : c.self.inside.table.contents.entries ≡ c.args.self.now.entries = ap (λ (s : StateOf). s.entries) c.self.view_is in
    let f = c.requires.found in
    let locked : is_some (lock_at c.args.self.now.entries c.args.cell.now c.args.start.0) ≡ true = ap (λ m. is_some (lock_at m c.args.cell.now c.args.start.0)) (sym e) ∙ sym c.has_lock.ensures ∙ c.if-not-has_lock.false in
    record {
      allowed = c.requires.allowed;
      taken = record {
        t = f.0;
        own = f.1;
        c = c.args.commit.0;
        committed = f.2;
        declares = search rules;
        new_is = search (rules, locked);
      };
    }
