-- A conversation from its first step on.
use Rattle.std.proofs.Common.{inl, inr, List, [], ◌∷◌, ◌++◌, refl, sym, subst}
use Rattle.pb_conversations.specs.Words.{Received}
use Rattle.pb_conversations.specs.Parts.{no_part, one_part}
use Rattle.pb_conversations.specs.Conversations.{JobOf, IsMove, took, went, IsConversation}
use Rattle.pb_conversations.specs.Laws.{Unfolds, ConversationsUnfold}
use Rattle.pb_conversations.proofs.Joining.{parts_join}

module _ {S : Type 0} (job : JobOf S) where
  -- a move more, at its end
  with_move : (s t u : S) (said more : List Received) → Unfolds job s said t → IsConversation job s said t → IsMove job t u more → Unfolds job s (said ++ more) u
  with_move s t u [] more (inl e) p (went goes) = inr (u, subst (λ z. job.goes z u) e goes, no_part)
  with_move s t u [] more (inr w) p (went goes) = inr (w.0, w.1, one_part t u [] [] w.2 (went goes))
  with_move s t u [] more o p (took r next can hears) = record { at = t; went_there = p; asked = next; can = can; to = u; heard = hears; goes_on = no_part }
  with_move s t u (x ∷ xs) more f p move = record { at = f.at; went_there = f.went_there; asked = f.asked; can = f.can; to = f.to; heard = f.heard; goes_on = one_part t u xs more f.goes_on move }

  pub talk_unfolds : (s u : S) (said : List Received) → IsConversation job s said u → Unfolds job s said u
  talk_unfolds s u said no_part = inl refl
  talk_unfolds s u said (one_part t v had more p move) = with_move s t v had more (talk_unfolds s t had p) p move

  folds : (s u : S) (said : List Received) → Unfolds job s said u → IsConversation job s said u
  folds s u [] (inl e) = subst (λ z. IsConversation job s [] z) (sym e) no_part
  folds s u [] (inr w) = parts_join s w.0 u [] [] (one_part s w.0 [] [] no_part (went w.1)) w.2
  folds s u (r ∷ more) f = parts_join s f.to u (r ∷ []) more (one_part f.at f.to [] (r ∷ []) f.went_there (took r f.asked f.can f.heard)) f.goes_on

  pub conversations_unfold : ConversationsUnfold job
  conversations_unfold s u said = (talk_unfolds s u said, folds s u said)
