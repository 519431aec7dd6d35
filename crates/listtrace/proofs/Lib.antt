-- the start that the program's arguments ask for: proves specs/StartAsked
pub mod StartAsked
