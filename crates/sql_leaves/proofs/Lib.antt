pub mod ClassSteps
pub mod CountedSteps
pub mod OpenSteps
pub mod PathSteps
pub mod TokenSteps
pub mod TypeSteps
pub mod WordSteps
