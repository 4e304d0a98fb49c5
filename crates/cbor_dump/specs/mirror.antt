-- Definitions for the checker alone, which follow the code that writes dumps.
pub mod Dumped
pub mod Widths
pub mod ShownLines
pub mod NotesView
