pub mod Levels
pub mod ShortNumerals
pub mod WholeTexts
mod DigitsAlone
