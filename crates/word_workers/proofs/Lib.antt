pub mod OneSeat
pub mod Readings
pub mod Numbers
pub mod Ranges
pub mod Works
mod Merges
mod Joining
mod Finishing
mod Ways
pub mod Owners
pub mod Runs
pub mod Traces
pub mod Plans
