pub mod FrameTable
pub mod inside
