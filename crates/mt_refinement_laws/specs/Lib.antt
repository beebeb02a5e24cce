pub mod Meets
pub mod Places
pub mod ProperSettings
pub mod RefinementLaws
pub mod SoundSettings
