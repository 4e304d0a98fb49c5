pub mod writing
pub mod json
pub mod losing
pub mod walking
