pub mod Entry
pub mod Keys
pub mod Local
pub mod Names
pub mod QuestionRef
pub mod Walk
