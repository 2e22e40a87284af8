-- What `clap` takes of the story program's words is a fault exactly where it asks for nothing.
use Rattle.std.proofs.Common.{◌≡◌, List, [], Some, refl}
use Rattle.clap.specs.Walk.{Text}
use Rattle.clap.specs.Faults.{fault_of}
use Rattle.pb_texts.specs.StoryLines.{StoryRequest, story_app, story_of, story_fault}

pub asked_faultless : (words : List Text) (r : StoryRequest) → fault_of story_app words ≡ [] → story_of words ≡ Some r → story_fault words ≡ []
asked_faultless words r f e = rw (f, e) refl
