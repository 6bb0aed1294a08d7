pub mod Stated
pub mod Routes
pub mod Insulating
pub mod Withstanding
pub mod Alone
