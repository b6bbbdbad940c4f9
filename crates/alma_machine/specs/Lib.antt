pub mod Needs
pub mod Quick
pub use Rattle.alma_machine_acts.specs.Steps
pub mod Runs
pub mod Stands
pub mod View
pub mod Within
