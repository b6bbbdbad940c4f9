pub mod Frames
pub mod Carries
pub mod Numbers
pub mod Regions
pub mod Images
pub mod PlainStore
pub mod Past
