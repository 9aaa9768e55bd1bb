pub mod TailAnswers
