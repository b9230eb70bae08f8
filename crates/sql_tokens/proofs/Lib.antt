pub mod AsciiLaws
pub mod ClassLaws
pub mod CutLaws
pub mod CutSteps
pub mod NumberLaws
pub mod QuoteLaws
pub mod UndoubledLaws
pub mod WordLaws
