pub mod BodyAnswers
pub mod ByteLaws
pub mod ChildLaws
pub mod CutLaws
pub mod ReaderSteps
pub mod Readings
pub mod TableLaws
pub mod TextLaws
