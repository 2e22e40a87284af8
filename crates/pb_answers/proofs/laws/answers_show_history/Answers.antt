use Rattle.pb_answers.proofs.History.{seen_at, is_write, is_written}
use Rattle.pb_answers.proofs.laws.answers_show_history.Goals as goal

pub returns-clause-snapshots : goal.returns-clause-snapshots
returns-clause-snapshots c = λ observers seats clock journal state legal unlocked.
    let sound = (c.journals_are_sound.ensures observers seats clock journal state legal).sound in
    seen_at journal state sound (c.sound_has_data.ensures state sound) (c.histories_are_told.ensures observers seats clock journal state legal) (c.records_are_told.ensures observers seats clock journal state legal) unlocked

pub returns-clause-writes : goal.returns-clause-writes
returns-clause-writes c = λ observers seats clock journal state legal unlocked x k content.
    let sound = (c.journals_are_sound.ensures observers seats clock journal state legal).sound in
    let keeps = c.sound_has_data.ensures state sound in
    let history = c.histories_are_told.ensures observers seats clock journal state legal in
    let records = c.records_are_told.ensures observers seats clock journal state legal in
    (is_write journal state sound keeps history records unlocked x k content, is_written journal state sound keeps history records unlocked x k content)
