use Rattle.std.proofs.Common.{◌≡◌, ℕ, List, Option, None, Some, subst}
use Rattle.pb_accepted.specs.Observers.{ObserverOf}
use Rattle.pb_keep.specs.Conversations.{KeeperView}
use Rattle.pb_keep.specs.FirstOpened.{IsOpenedFirst, IsOpenedTo}
use Rattle.pb_keep.specs.declared.opened.Opened.{Opened}
use Rattle.percobpf_keep.proofs.questions.open_as_far.Goals as goal

-- a log of which as many changes were made as may be
opened_so : (observers : List ObserverOf) (manifest file : List ℕ) (most : Option ℕ) (k : KeeperView) (o : Opened) (made all : ℕ) → o ≡ Opened.Made made all → IsOpenedTo observers manifest file most k o → IsOpenedFirst observers manifest file most made all k
opened_so observers manifest file most k o made all is h = subst (λ x. IsOpenedTo observers manifest file most k x) is h

pub returns-in-Made : goal.returns-in-Made
returns-in-Made c = record {
  made = λ written clean.
      let its = c.in_ok-first.ensures.made written clean in
      (its.0, its.1, (its.2.0, None, opened_so its.0 c.args.manifest.now its.2.0 None _ c.in_ok-first.opened c.in-Made.made c.in-Made.all c.in-Made.is its.2.1));
}

pub returns-in-Made-opened : goal.returns-in-Made-opened
returns-in-Made-opened c = record {
  made = λ written clean.
      let its = c.in_ok-keeper.ensures.made written clean in
      (its.0, its.1, (its.2.0, Some c.tries.most, opened_so its.0 c.args.manifest.now its.2.0 (Some c.tries.most) _ c.in_ok-keeper.opened c.in-Made-opened.made c.in-Made-opened.all c.in-Made-opened.is its.2.1));
}
