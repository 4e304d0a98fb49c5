pub mod Frames
pub mod TopFrames
pub mod FrontTurns
