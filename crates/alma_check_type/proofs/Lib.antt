pub mod Tells
pub mod BlockSteps
pub mod ShapeSteps
pub mod FieldSteps
pub mod SubSteps
pub mod ListedSteps
