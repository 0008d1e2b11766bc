pub mod Places
pub mod Printed
pub mod Promised
mod OneAnswers
pub mod OneValues
pub mod Cases
