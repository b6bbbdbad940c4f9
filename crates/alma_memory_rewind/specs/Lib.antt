pub mod Limits
pub mod PlainRewind
pub mod Trail
pub mod Sound
pub mod Restart
