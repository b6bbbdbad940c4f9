pub use Rattle.alma_driver_outcome.specs.Scope
pub use Rattle.alma_driver_outcome.specs.Headline
