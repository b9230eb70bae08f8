pub mod Appending
pub mod CsvFields
pub mod JsonStrings
pub mod Values
pub mod Records
pub mod Writing
