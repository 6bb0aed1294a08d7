pub mod Expected
pub mod Commanded
pub mod Turns
pub mod Served
pub mod ItsReply
pub mod Ordered
pub mod RigLeft
