pub mod Appends
pub mod Escaped
pub mod Items
pub mod RecordText
pub mod Replies
pub mod Rows
