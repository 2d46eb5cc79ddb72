pub mod Serving
pub mod Replies
pub mod Answers
pub mod Blame
pub mod ServedLines
