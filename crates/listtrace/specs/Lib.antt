-- the start that the program's arguments ask for
pub mod StartAsked
