pub mod SlotCounts
mod TextCuts
mod NamesAndDigits
pub mod ListingsReadBack
mod FirstFault
mod OneSpelling
mod OnlyListings
mod FaultsTold
pub mod NumbersBeyond
mod RangeToldOnly
