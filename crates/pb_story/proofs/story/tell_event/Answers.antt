use Rattle.std.proofs.Common.{rules, ◌∙◌, [], ◌++◌, codes, string_bytes, subst, refl}
use Rattle.std.specs.Io.KnownBytes.{Appends}
use Rattle.std.proofs.KnownBytes.{Appends-nil}
use Rattle.pb_story.specs.Words.{AppendsPart}
use Rattle.pb_story.specs.Lines.{IsLine, note_text}
use Rattle.pb_story.proofs.Shown.{told_whole, told_not}
use Rattle.pb_story.proofs.story.tell_event.Goals as goal

pub returns-then-not-is_shown : goal.returns-then-not-is_shown
returns-then-not-is_shown g c =
    let a = c.args in
    let line = string_bytes c.in_ok-line.line ++ (note_text c.happen.new.world.shared.state.observers c.in_ok-note.note ++ codes "\n") in
    let is_line : IsLine a.world.now a.number a.event.now c.in_ok-note.note c.happen.new.world line = record { opening = string_bytes c.in_ok-line.line; opens = c.in_ok-line.ensures; text_is = refl } in
    ([], told_not a.excerpt.now a.world.now a.number a.event.now c.in_ok-note.note c.happen.new.world line c.in_ok-note.ensures.ok is_line (search rules), (Appends-nil (g.S.Sink.taken a.sink.now), c.requires.unfailed))

pub returns-in-Ok : goal.returns-in-Ok
returns-in-Ok g c =
    let a = c.args in
    let line = string_bytes c.end_line.new.text in
    let is_line : IsLine a.world.now a.number a.event.now c.in_ok-note.note c.happen.new.world line = record { opening = string_bytes c.in_ok-line.line; opens = c.in_ok-line.ensures; text_is = search rules } in
    let taken = subst (Appends (g.S.Sink.taken a.sink.now) (g.S.Sink.taken c.write_all.new.self)) c.as_bytes.ensures.value c.in-Ok.ensures.taken in
    (line, told_whole a.excerpt.now a.world.now a.number a.event.now c.in_ok-note.note c.happen.new.world line c.in_ok-note.ensures.ok is_line (search rules), (taken, c.in-Ok.ensures.quiet ∙ c.requires.unfailed))

pub returns : goal.returns
returns g c =
    let a = c.args in
    let line = string_bytes c.end_line.new.text in
    let is_line : IsLine a.world.now a.number a.event.now c.in_ok-note.note c.happen.new.world line = record { opening = string_bytes c.in_ok-line.line; opens = c.in_ok-line.ensures; text_is = search rules } in
    let part = subst (AppendsPart (g.S.Sink.taken a.sink.now) (g.S.Sink.taken c.write_all.new.self)) c.as_bytes.ensures.value c.in-Err.ensures.part in
    (line, told_whole a.excerpt.now a.world.now a.number a.event.now c.in_ok-note.note c.happen.new.world line c.in_ok-note.ensures.ok is_line (search rules), (part, c.in-Err.ensures.fails))
