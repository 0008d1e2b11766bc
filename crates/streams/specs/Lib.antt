pub mod Count
pub mod CounterSink
pub mod Parts
pub mod Input
pub mod Output
pub mod OutputSink
pub mod Ends
