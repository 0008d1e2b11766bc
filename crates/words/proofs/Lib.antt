pub mod Laid
pub mod RecordLaws
pub mod Bytes
pub mod Chunks
pub mod Going
