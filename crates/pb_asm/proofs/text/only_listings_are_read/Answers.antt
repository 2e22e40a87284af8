use Rattle.pb_asm.proofs.OnlyListings.{text_is}
use Rattle.pb_asm.proofs.text.only_listings_are_read.Goals as goal

pub returns : goal.returns
returns c = text_is
