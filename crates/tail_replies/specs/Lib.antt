pub mod TailReplies
