pub mod Answers
pub mod Expressions
pub mod Grammar
pub mod Machine
pub mod Printing
pub mod Tokens
