pub mod RowsAnswered
pub mod Input
pub mod Imported
