pub mod FrameCase
