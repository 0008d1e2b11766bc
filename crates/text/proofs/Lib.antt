pub mod Right
pub mod Listed
pub mod Lists
pub mod Examples
