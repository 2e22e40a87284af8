use Rattle.pb_asm.proofs.OnlyListings.{listing_back}
use Rattle.pb_asm.proofs.text.listings_read_back.Goals as goal

pub returns : goal.returns
returns c = listing_back
