pub mod HeldTexts
pub mod RunBins
