-- The work of each command, as the frame of a run sees it.
pub mod Framed
pub mod StationFrames
pub mod ImportFrame
pub mod ServeFrame
pub mod ReportFrame
pub mod Framing
