pub mod Form
pub mod WellFormed
pub mod Text
pub mod ReadTokens
pub mod ReadLists
pub mod ReadBack
