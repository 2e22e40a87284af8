-- The value of a content is what it shows.
use Rattle.std.proofs.Common.{◌≡◌, inl, inr}
use Rattle.law_journals.specs.Words.{Content, Reply, value_of}
use Rattle.law_journals.specs.ShownValues.{Shows, ValuesAreShown}

shows : (content : Content) (reply : Reply) → reply ≡ value_of content → Shows content reply
shows (Content.Value v) reply is = is
shows Content.Deleted reply is = is
shows (Content.Stamp t) reply is = is

value_is : (content : Content) (reply : Reply) → Shows content reply → reply ≡ value_of content
value_is (Content.Value v) reply is = is
value_is Content.Deleted reply is = is
value_is (Content.Stamp t) reply is = is

pub value_is_shown : ValuesAreShown
value_is_shown observers journal s x reply = (
  elim [ inl none ↦ inl none | inr k ↦ inr (k.0, k.1, k.2, k.3, shows k.2 reply k.4) ],
  elim [ inl none ↦ inl none | inr k ↦ inr (k.0, k.1, k.2, k.3, value_is k.2 reply k.4) ],
)
