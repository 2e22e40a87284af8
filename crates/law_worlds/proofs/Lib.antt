mod Machines
pub mod Jobs
mod Events
mod Runs
mod Stops
