pub mod Lasting
pub mod InOrder
pub mod Runs
pub mod LeakEach
pub mod EnduredEach
