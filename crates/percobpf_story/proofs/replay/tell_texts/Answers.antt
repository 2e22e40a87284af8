use Rattle.std.proofs.Common.{arith, rules, ◌≡◌, ℕ, List, length, Ok, Err, subst}
use Rattle.pb_base.specs.Taking.{Taking, taking}
use Rattle.pb_texts.specs.declared.words.choice.Excerpt.{Excerpt}
use Rattle.pb_story.specs.declared.fault.StoryFault.{StoryFault}
use Rattle.pb_story.specs.Stories.{StoryEnds}
use Rattle.percobpf_story.specs.Replays.{of_story, ToldOn, TellsTexts}
use Rattle.percobpf_story.proofs.replay.tell_texts.Goals as goal

-- a story that ended with a fault did so as a replay
ended : (excerpt : Excerpt) (places last : ℕ) (m s e : List ℕ) (out : Taking) (f : StoryFault) → ToldOn excerpt places last m s e out (Err f) → TellsTexts excerpt places last m s e out (Err (of_story f))
ended excerpt places last m s e out f t = grind arith

pub returns-in-Ok : goal.returns-in-Ok
returns-in-Ok g c =
    let w = c.in_ok-world in
    let v = c.tell_story-outcome.new.world in
    let out = taking g.S.Sink.taken g.S.Sink.failed c.args.sink.now c.tell_story-outcome.new.sink in
    let same : c.deref.result.now ≡ w.events.items = search rules in
    record { world = w.world; events = w.events.items; opens = w.ensures.ok; after = v; ends = subst (λ es. StoryEnds c.args.excerpt.now w.world es v out (Ok tt)) same c.in-Ok.ensures }

pub returns : goal.returns
returns g c =
    let a = c.args in
    let w = c.in_ok-world in
    let v = c.tell_story-outcome.new.world in
    let f = c.in-Err.fault in
    let out = taking g.S.Sink.taken g.S.Sink.failed a.sink.now c.tell_story-outcome.new.sink in
    let same : c.deref.result.now ≡ w.events.items = search rules in
    let told : ToldOn a.excerpt.now (length a.table.firsts) a.last.0 a.manifest.now a.script.now a.schedule.now out (Err f) = record { world = w.world; events = w.events.items; opens = w.ensures.ok; after = v; ends = subst (λ es. StoryEnds a.excerpt.now w.world es v out (Err f)) same c.in-Err.ensures } in
    rw c.of_story.ensures (ended a.excerpt.now (length a.table.firsts) a.last.0 a.manifest.now a.script.now a.schedule.now out f told)
