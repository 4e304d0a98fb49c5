pub mod DateTexts
pub mod DateTimeTexts
pub mod Moments
pub mod CalendarDays
pub mod Searches
pub mod DateNotes
pub mod DateTimeNotes
