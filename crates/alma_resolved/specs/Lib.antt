pub mod Fits
pub mod Scenes
pub mod Keeps
pub mod Stand
pub mod Frames
pub mod Whole
pub mod Room
