pub mod Classes
pub mod Cutting
pub mod Fronts
pub mod KeywordTable
pub mod Keywords
pub mod Payloads
pub mod Sights
pub mod TokenForms
