-- Asks and replies in the words of the definitions.
use Rattle.std.specs.Prelude.{List, map}
use Rattle.pb_helpers.specs.declared.ask.Ask.{Ask}
use Rattle.pb_helpers.specs.declared.ask.Reply.{Reply}
use Rattle.pb_helpers.specs.Replies.{ask_of, reply_of}
use Rattle.pb_isa.specs.Meaning.{Talk}

abbrev pub talk_of : List (Ask × Reply) → Talk
talk_of items = map (λ x. (ask_of x.0, reply_of x.1)) items
