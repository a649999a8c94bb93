pub mod TurnedWords
pub mod StepPlaces
pub mod LineCounts
pub mod CountedTexts
pub mod KnownValues
