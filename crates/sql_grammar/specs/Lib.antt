pub mod Expressions
pub mod Faults
pub mod Forms
pub mod Marks
pub mod Queries
pub mod QueryReaders
pub mod Readers
