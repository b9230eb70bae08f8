pub mod Kept
pub mod Outputs
pub mod Pieces
pub mod QuotedFields
pub mod OwnRecords
pub mod Totalled
