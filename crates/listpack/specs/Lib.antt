-- a pack of named traces, entry by entry
pub mod Pack
