pub mod Appends
pub mod ItemText
pub mod RecordText
pub mod Rows
