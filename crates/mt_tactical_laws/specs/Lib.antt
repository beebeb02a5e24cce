pub mod SteppingLaws
