-- Lines that are answered one after the other, where questions alone are.
use Rattle.std.proofs.Common.{◌≡◌, inl, inr, ℕ, Bool, true, false, List, [], ◌∷◌, ◌++◌, Option, None, Some, Result, refl, sym, ap, subst, ◌∙◌}
use Rattle.std.specs.Io.KnownBytes.{Appends}
use Rattle.std.proofs.lemmas.List.{append_assoc, append-nil}
use Rattle.pb_keep.specs.Words.{AppendsPart, KeptTable, Request, ScriptCode}
use Rattle.pb_keep.specs.Held.{IsReadAs}
use Rattle.pb_keep.specs.Input.{AreLinesRead, IsNextLine}
use Rattle.pb_keep.specs.Questions.{AnswersBegun, AnswersNext, AnswersRead, AnswersTurn, AreLineAnswers, IsLineAnswer, MayHaveBegun}
use Rattle.pb_keep.proofs.Reading.{read_both}

-- ---- what is written

-- nothing, and then a text
nothing_more : (now : Option (List ℕ)) → Appends now now []
nothing_more None = tt
nothing_more (Some xs) = sym (append-nil xs)

-- one text and then another
appends_on : (was between now : Option (List ℕ)) (text more : List ℕ) → Appends was between text → Appends between now more → Appends was now (text ++ more)
appends_on None between now text more a b = tt
appends_on (Some xs) None now text more a b = absurd a
appends_on (Some xs) (Some ys) None text more a b = absurd b
appends_on (Some xs) (Some ys) (Some zs) text more a b = b ∙ ap (λ l. l ++ more) a ∙ append_assoc xs text more

-- one text and then a beginning of another
part_on : (was between now : Option (List ℕ)) (text more : List ℕ) → Appends was between text → AppendsPart between now more → AppendsPart was now (text ++ more)
part_on was between now text more a p = (p.0, (text ++ p.1.0, ap (λ l. text ++ l) p.1.1 ∙ sym (append_assoc text p.1.0 p.0), appends_on was between now text p.1.0 a p.1.2))

all_part : (was now : Option (List ℕ)) (text : List ℕ) → Appends was now text → AppendsPart was now text
all_part was now text a = ([], (text, sym (append-nil text), a))

module _ {since : ℕ} {table : KeptTable} {log : ℕ} where
  none_begun : (from was now : Option (List ℕ)) → now ≡ was → AnswersBegun since table log from was now
  none_begun from was now is = record {
    to = from;
    text = [];
    answered = record { lines = []; read = AreLinesRead.none; answers = AreLineAnswers.none };
    is_written = subst (λ w. AppendsPart was w []) (sym is) (all_part was was [] (nothing_more was));
  }

  one_answer : (line text : List ℕ) → IsLineAnswer since table log line text → AreLineAnswers since table log (line ∷ []) text
  one_answer line text is = AreLineAnswers.one_more [] line [] text AreLineAnswers.none is

  -- a line was read, and its answer wasn't written whole
  pub begun_next : (from to was now : Option (List ℕ)) (line : List ℕ) (asked : Result Request ScriptCode) → IsNextLine line from to → IsReadAs line asked → MayHaveBegun since table log asked was now → AnswersBegun since table log from was now
  begun_next from to was now line asked next reads (inl same) = none_begun from was now same
  begun_next from to was now line asked next reads (inr part) = record {
    to = to;
    text = part.0;
    answered = record { lines = line ∷ []; read = AreLinesRead.one_more [] line from to AreLinesRead.none next; answers = one_answer line part.0 (record { read = asked; reads = reads; answer = part.1 }) };
    is_written = part.2;
  }

  -- none was read
  pub begun_none : (from was : Option (List ℕ)) → AnswersBegun since table log from was was
  begun_none from was = none_begun from was was refl

  -- ---- after lines that were answered

  both_answered : (front back : List (List ℕ)) (text more : List ℕ) → AreLineAnswers since table log front text → AreLineAnswers since table log back more → AreLineAnswers since table log (front ++ back) (text ++ more)
  both_answered front back text more a AreLineAnswers.none = subst (λ t. AreLineAnswers since table log (front ++ []) t) (sym (append-nil text)) (subst (λ l. AreLineAnswers since table log l text) (sym (append-nil front)) a)
  both_answered front back text more a (AreLineAnswers.one_more lines line t m b is) =
      subst (λ z. AreLineAnswers since table log z (text ++ (t ++ m))) (append_assoc front lines (line ∷ []))
      (subst (λ z. AreLineAnswers since table log ((front ++ lines) ++ line ∷ []) z) (append_assoc text t m) (AreLineAnswers.one_more (front ++ lines) line (text ++ t) m (both_answered front lines text t a b) is))

  pub read_none : (from was : Option (List ℕ)) → AnswersRead since table log from from was was
  read_none from was = record { text = []; answered = record { lines = []; read = AreLinesRead.none; answers = AreLineAnswers.none }; is_written = nothing_more was }

  module _ {from between was mid : Option (List ℕ)} (before : AnswersRead since table log from between was mid) where
    -- a line more
    read_on : (to now : Option (List ℕ)) → AnswersNext since table log between to mid now → AnswersRead since table log from to was now
    read_on to now n = record {
      text = before.text ++ n.text;
      answered = record {
        lines = before.answered.lines ++ n.line ∷ [];
        read = AreLinesRead.one_more before.answered.lines n.line between to before.answered.read n.next;
        answers = AreLineAnswers.one_more before.answered.lines n.line before.text n.text before.answered.answers n.answer;
      };
      is_written = appends_on was mid now before.text n.text before.is_written n.is_written;
    }

    -- where a turn returned that there was one
    pub turn_on : (to now : Option (List ℕ)) (is_read : Bool) → is_read ≡ true → AnswersTurn since table log between to mid now is_read → AnswersRead since table log from to was now
    turn_on to now true e t = read_on to now t
    turn_on to now false e t = absurd cc

    -- or a fault came
    pub begun_on : (now : Option (List ℕ)) → AnswersBegun since table log between mid now → AnswersBegun since table log from was now
    begun_on now b = record {
      to = b.to;
      text = before.text ++ b.text;
      answered = record {
        lines = before.answered.lines ++ b.answered.lines;
        read = read_both from between b.to before.answered.lines b.answered.lines before.answered.read b.answered.read;
        answers = both_answered before.answered.lines b.answered.lines before.text b.text before.answered.answers b.answered.answers;
      };
      is_written = part_on was mid now before.text b.text before.is_written b.is_written;
    }
