use Rattle.std.proofs.Common.{◌≡◌, Some, ap, sym, ◌∙◌, ◌&&◌, nat_lt}
use Rattle.std.specs.Option.{option_map}
use Rattle.pb_state.specs.Words.{tells_old, record_by, ObserverOf, old_at, seen_in, asked_in, is_made_of, are_replies, is_run}
use Rattle.pb_state.proofs.observed.is_run_by.Goals as goal

pub returns-in-Some : goal.returns-in-Some
returns-in-Some c =
    let p : c.observer.inside.program.value ≡ c.args.observer.now.program = ap (λ (o : ObserverOf). o.program) c.observer.view_is in
    let by = c.version_of-version.ensures ∙ ap tells_old p in
    let two = c.tells_old-second.ensures ∙ by in
    let seen = c.in-Some.seen in
    let saw : Some seen ≡ seen_in c.args.cell.now c.args.acknowledgment.now (tells_old c.args.observer.now.program) c.args.reads.now =
    ap (option_map (λ s. s.0)) (sym c.in-Some.is) ∙ c.seen_in.ensures.seen ∙ (λ i. seen_in c.args.cell.now c.args.acknowledgment.now (two i) c.args.reads.now) in
    let after : c.in-Some.asked.now ≡ asked_in (old_at (tells_old c.args.observer.now.program) seen.acknowledged) c.args.reads.now =
    c.in-Some.ensures.asked ∙ (λ i. asked_in (old_at (two i) seen.acknowledged) c.args.reads.now) in
    c.is_run.ensures
    ∙ (λ i. nat_lt seen.acknowledged.0 seen.version.commit.0 && is_made_of (p i) (record_by (by i) c.args.cell.now seen.version seen.acknowledged.0 seen.old) c.args.start.0 c.args.finished.now
    && are_replies (after i) c.args.finished.now.talk)
    ∙ (λ i. is_run c.args.observer.now.program c.args.cell.now c.args.start.0 c.args.reads.now c.args.finished.now (saw i))
