pub mod Calls
pub mod Runs
pub mod Shown
pub mod Texts
pub mod Edn
pub mod Appended
pub mod Elements
pub mod Opened
