pub mod PartsRight
pub mod OnlyLawsBreak
pub mod MadeNames
pub mod FromFile
pub mod PutWords
pub mod MadeSteps
