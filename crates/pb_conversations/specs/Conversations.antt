-- Conversations: what is asked step by step, each answered before the next. A job is what asks. A transaction's plan, a change and the run
-- of an observer are jobs.
use Rattle.std.specs.Prelude.{◌≡◌, List, [], ◌∷◌, Option, Some, None}
use Rattle.pb_conversations.specs.Words.{CanAnswer, Answer, Step, Received}
use Rattle.pb_conversations.specs.Parts.{IsOfParts, EndsIn, IsBeginningOf}

-- where it stands, which step it asks next, if any, where an answer leads it, and where it goes without one
pub record JobOf (S : Type 0) : Type 1 where
  pub next : S → Option Step
  pub hears : S → Answer → S → Type 0
  pub goes : S → S → Type 0

-- a job that does nothing but ask
abbrev pub asking_job : {S : Type 0} → (S → Option Step) → (S → Answer → S) → JobOf S
asking_job next answered = record { next = next; hears = λ s a t. t ≡ answered s a; goes = λ s t. ⊥ }

-- its next step was answered, with one of its answers; or it went on by itself, and said nothing
pub data IsMove {S : Type 0} (job : JobOf S) (s t : S) : List Received → Type 0 where
  took : (r : Received) → job.next s ≡ Some r.step → CanAnswer r.step r.answer → job.hears s r.answer t → IsMove job s t (r ∷ [])
  went : job.goes s t → IsMove job s t []

-- from one place to another it has asked this, and was answered so
abbrev pub IsConversation : {S : Type 0} → JobOf S → S → List Received → S → Type 0
IsConversation job s said t = IsOfParts (IsMove job) s t said

-- it asks nothing more, and goes nowhere by itself
abbrev pub AsksNoMore : {S : Type 0} → JobOf S → S → List Received → Type 0
AsksNoMore {S} job s said = (said ≡ []) × (job.next s ≡ None) × ((t : S) → job.goes s t → ⊥)

-- a whole one from this place on
abbrev pub IsWholeFrom : {S : Type 0} → JobOf S → S → List Received → Type 0
IsWholeFrom job s said = EndsIn (IsMove job) (AsksNoMore job) s said

-- from this place on it has asked this so far, which is a beginning of what is whole so, and asks this step next, if any
pub record HasAsked {S : Type 0} (job : JobOf S) (Whole : List Received → Type 0) (s : S) (next : Option Step) (said : List Received) : Type 0 where
  pub at : S
  pub talk : IsConversation job s said at
  pub begins : IsBeginningOf Whole said
  pub next_is : next ≡ job.next at
