pub mod AnswerSteps
pub mod EndSteps
pub mod QuerySteps
pub mod SelectSteps
