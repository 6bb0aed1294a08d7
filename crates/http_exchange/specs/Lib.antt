pub mod Heads
pub mod Routes
pub mod Bodies
pub mod Requests
pub mod Reading
pub mod Replies
-- what only the bodies' own contracts and invariants cite
pub mod RouteRows
pub mod HeadParts
