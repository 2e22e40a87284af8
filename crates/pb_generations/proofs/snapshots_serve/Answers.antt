use Rattle.pb_generations.specs.Words.{SoundHasData}
use Rattle.pb_generations.specs.Mirrored.{QuietMirrorsItself}
use Rattle.pb_generations.specs.Snapshots.{SnapshotsServe}
use Rattle.pb_history.proofs.JournalsAreSound.{legal_sound}
use Rattle.pb_generations.proofs.QuietTables.{no_lock_ever, no_record_above}
use Rattle.pb_generations.proofs.ServingSnapshots.{legal_bounded, mirrors_itself, record_by_clock, shown_serves, snapshot_shows}
use Rattle.pb_state.proofs.SnapshotViews.{snapshot_sound}
use Rattle.pb_generations.proofs.ChosenSound.{chosen_are_sound}
use Rattle.pb_generations.proofs.LeftTransactions.{left_are_sound}
use Rattle.pb_generations.proofs.snapshots_serve.Goals as goal

serve : SoundHasData → QuietMirrorsItself → SnapshotsServe
serve law mirror observers seats clock journal whole legal unlocked room e ts is none =
    let sound = legal_sound observers seats clock journal whole legal in
    let bound = legal_bounded law observers seats clock journal whole legal in
    shown_serves whole e ts (λ x s. no_lock_ever whole sound x (unlocked x) s) (λ x d above. no_record_above whole sound x d above) bound (law whole sound).begun (mirrors_itself mirror whole sound unlocked room)
    (snapshot_shows whole (record_by_clock whole sound) bound e is) none

pub returns-clause-serve : goal.returns-clause-serve
returns-clause-serve c = serve c.sound_has_data.ensures c.old_may_be_dropped.ensures.itself

pub returns-clause-sound : goal.returns-clause-sound
returns-clause-sound c = snapshot_sound

pub returns-clause-left : goal.returns-clause-left
returns-clause-left c = left_are_sound

pub returns-clause-chosen : goal.returns-clause-chosen
returns-clause-chosen c = chosen_are_sound
