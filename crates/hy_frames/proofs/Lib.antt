pub mod FrameLaws
