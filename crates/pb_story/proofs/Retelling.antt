-- How the story of a list of events grows, and how it ends.
use Rattle.std.proofs.Common.{◌≡◌, ◌∙◌, ℕ, ◌+◌, ◌≤◌, Bool, false, List, [], ◌∷◌, ◌++◌, length, take, Option, Some, Ok, Err, inl, inr, refl, sym, ap, subst, arith, append_assoc, append-nil, slice_get}
use Rattle.std.specs.Io.KnownBytes.{Appends}
use Rattle.std.proofs.KnownBytes.{Appends-trans}
use Rattle.std.proofs.lemmas.List.{take_more, take_all, length-take-le}
use Rattle.std.proofs.lemmas.Option.{slice_get_within, get_or_from_slice_get}
use Rattle.pb_story.specs.Words.{Excerpt, Event, WorldOf, ReportFault, Taking, TookAll, TookPart, TookNothing, Reports}
use Rattle.pb_story.specs.declared.fault.StoryFault.{StoryFault}
use Rattle.pb_story.specs.Lines.{shown_line}
use Rattle.pb_story.specs.Stories.{Recounts, IsEventTold, EventEnds, AreTold, LeftOff, LinesEnd, StoryEnds}

-- ---- one event more

-- a story of some events grows by what is printed of the one that happens next
recounts_more : (x : Excerpt) (w : WorldOf) (number : ℕ) (es : List Event) (text : List ℕ) (v u : WorldOf) (e : Event) (line : List ℕ)
    → Recounts x w number es text v → IsEventTold x v (number + length es) e u line → Recounts x w number (es ++ e ∷ []) (text ++ line) u
recounts_more x w number [] text v u e line r t =
    let at : number + 0 ≡ number = omega arith in
    let told : IsEventTold x w number e u line = subst (λ y. IsEventTold x y number e u line) r.1 (subst (λ k. IsEventTold x v k e u line) at t) in
    (told.note, u, told.line, [], told.happens, told.is_line, (refl, refl), ap (λ (y : List ℕ). y ++ line) r.0 ∙ (told.text_is ∙ sym (append-nil (shown_line x number told.note told.line))))
recounts_more x w number (f ∷ es) text v u e line r t =
    let at : number + length (f ∷ es) ≡ (number + 1) + length es = omega arith in
    let more = recounts_more x r.1 (number + 1) es r.3 v u e line r.6 (subst (λ k. IsEventTold x v k e u line) at t) in
    (r.0, r.1, r.2, r.3 ++ line, r.4, r.5, more, ap (λ (y : List ℕ). y ++ line) r.7 ∙ append_assoc (shown_line x number r.0 r.2) r.3 line)

-- the first events with one more are those and that one
next_is : (es : List Event) (i : ℕ) (e : Event) → slice_get es i ≡ Some e → take (i + 1) es ≡ take i es ++ e ∷ []
next_is es i e h = take_more es i e (slice_get_within es i e h) ∙ ap (λ (x : Event). take i es ++ x ∷ []) (get_or_from_slice_get es i e e h)

recounts_next : (x : Excerpt) (w : WorldOf) (es : List Event) (i : ℕ) (lines : List ℕ) (v u : WorldOf) (e : Event) (line : List ℕ)
    → slice_get es i ≡ Some e → Recounts x w 0 (take i es) lines v → IsEventTold x v i e u line → Recounts x w 0 (take (i + 1) es) (lines ++ line) u
recounts_next x w es i lines v u e line is r t =
    let at : i ≡ 0 + length (take i es) = let inside = slice_get_within es i e is in let long = length-take-le i es (omega (arith, inside)) in omega (arith, long) in
    subst (λ (xs : List Event). Recounts x w 0 xs (lines ++ line) u) (sym (next_is es i e is)) (recounts_more x w 0 (take i es) lines v u e line r (subst (λ k. IsEventTold x v k e u line) at t))

-- ---- what a sink took, in two pieces

-- first up to the middle, and then on from there
abbrev pub took : Option (List ℕ) → Option (List ℕ) → Bool → Taking
took old now failed = record { before = old; after = now; failed = failed }

both_took : (old mid now : Option (List ℕ)) (was failed : Bool) (xs ys : List ℕ) → TookAll (took old mid was) xs → TookAll (took mid now failed) ys → TookAll (took old now failed) (xs ++ ys)
both_took old mid now was failed xs ys a b = (Appends-trans old mid now xs ys a.0 b.0, b.1)

part_took : (old mid now : Option (List ℕ)) (was failed : Bool) (xs ys : List ℕ) → TookAll (took old mid was) xs → TookPart (took mid now failed) ys → TookPart (took old now failed) (xs ++ ys)
part_took old mid now was failed xs ys a p =
    let part = p.0 in
    ((part.0, (xs ++ part.1.0, ap (λ (z : List ℕ). xs ++ z) part.1.1 ∙ sym (append_assoc xs part.1.0 part.0), Appends-trans old mid now xs part.1.0 a.0 part.1.2)), p.1)

-- where nothing followed, it took what it had taken
told_still : (x : Excerpt) (w : WorldOf) (es : List Event) (v : WorldOf) (old mid now : Option (List ℕ)) (was failed : Bool) → AreTold x w es v (took old mid was) → now ≡ mid → failed ≡ false → AreTold x w es v (took old now failed)
told_still x w es v old mid now was failed t same quiet = record { lines = t.lines; recounts = t.recounts; taken = (subst (λ (s : Option (List ℕ)). Appends old s t.lines) (sym same) t.taken.0, quiet) }

-- ---- the lines

-- one more event whose line is written makes the events with written lines one more
pub told_more : (x : Excerpt) (w : WorldOf) (es : List Event) (i : ℕ) (v u : WorldOf) (e : Event) (old mid now : Option (List ℕ)) (was failed : Bool)
    → slice_get es i ≡ Some e → AreTold x w (take i es) v (took old mid was) → EventEnds x v i e u (took mid now failed) (Ok tt) → AreTold x w (take (i + 1) es) u (took old now failed)
told_more x w es i v u e old mid now was failed is t end =
    record { lines = t.lines ++ end.0; recounts = recounts_next x w es i t.lines v u e end.0 is t.recounts end.1; taken = both_took old mid now was failed t.lines end.0 t.taken end.2 }

-- the first fault ends the lines
pub told_to : (x : Excerpt) (w : WorldOf) (es : List Event) (i : ℕ) (v u : WorldOf) (e : Event) (old mid now : Option (List ℕ)) (was failed : Bool) (f : StoryFault)
    → slice_get es i ≡ Some e → AreTold x w (take i es) v (took old mid was) → EventEnds x v i e u (took mid now failed) (Err f) → LinesEnd x w es u (took old now failed) (Err f)
told_to x w es i v u e old mid now was failed StoryFault.Output is t end =
    let lines = recounts_next x w es i t.lines v u e end.0 is t.recounts end.1 in
    let within : i + 1 ≤ length es = let lt = slice_get_within es i e is in omega (arith, lt) in
    record { count = i + 1; within = within; lines = t.lines ++ end.0; recounts = lines; taken = part_took old mid now was failed t.lines end.0 t.taken end.2 }
told_to x w es i v u e old mid now was failed (StoryFault.NoMemory refused) is t end =
    record { count = i; before = v; told = told_still x w (take i es) v old mid now was failed t end.1.0 end.1.1; rest = inr (e, is, end.0) }
told_to x w es i v u e old mid now was failed (StoryFault.Event f) is t end = grind arith

-- ---- the story

-- after the lines of all events, a report that was written makes the story whole
pub whole_after_report : (x : Excerpt) (w : WorldOf) (es : List Event) (v : WorldOf) (old mid now : Option (List ℕ)) (was failed : Bool) → AreTold x w es v (took old mid was) → Reports v.shared (took mid now failed) (Ok tt) → StoryEnds x w es v (took old now failed) (Ok tt)
whole_after_report x w es v old mid now was failed t r = record {
  text = t.lines ++ r.text;
  story = record { lines = t.lines; recounts = t.recounts; report = r.text; reported = r.report; text_is = refl };
  taken = both_took old mid now was failed t.lines r.text t.taken r.taken;
}

-- and one that was cut short makes a beginning of it
pub report_cut : (x : Excerpt) (w : WorldOf) (es : List Event) (v : WorldOf) (old mid now : Option (List ℕ)) (was failed : Bool) → AreTold x w es v (took old mid was) → Reports v.shared (took mid now failed) (Err ReportFault.Output) → StoryEnds x w es v (took old now failed) (Err StoryFault.Output)
report_cut x w es v old mid now was failed t r = inr (record {
  text = t.lines ++ r.text;
  story = record { lines = t.lines; recounts = t.recounts; report = r.text; reported = r.report; text_is = refl };
  taken = part_took old mid now was failed t.lines r.text t.taken r.taken;
})

-- where there is no memory for the report, all lines stand and no report follows
pub report_unmade : (x : Excerpt) (w : WorldOf) (es : List Event) (v : WorldOf) (old mid now : Option (List ℕ)) (was failed : Bool) → AreTold x w es v (took old mid was) → TookNothing (took mid now failed) → LeftOff x w es v (took old now failed)
report_unmade x w es v old mid now was failed t r =
    let all : take (length es) es ≡ es = take_all (length es) es (omega arith) in
    let told = told_still x w es v old mid now was failed t r.0 r.1 in
    record { count = length es; before = v; told = subst (λ (xs : List Event). AreTold x w xs v (took old now failed)) (sym all) told; rest = inl (refl, refl) }
