pub mod Items
pub mod Steps
pub mod Table
pub mod Forms
pub mod Values
pub mod Words
