pub mod Instants
pub mod Words
pub mod Calendars
pub mod Parts
pub mod TimestampText
pub mod Reading
pub mod Printing
