pub mod Happenings
pub mod Going
pub mod SeatLists
pub mod Soundness
pub mod Opening
pub mod Holding
pub mod RunsJoin
pub mod GivenJobs
