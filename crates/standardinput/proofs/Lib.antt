-- What was read is at the start of the buffer, as its users ask it.
pub mod Reading
