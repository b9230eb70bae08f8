pub mod CutLaws
pub mod TrimLaws
pub mod IntTexts
