-- What a call of the tail table answers, as a row of numbers. Assumes nothing.
use Rattle.replies.specs.Replies.{reply}
use Rattle.replies.specs.declared.Reply.{Reply}
use Rattle.tail_answers.specs.TailAnswers.{TailSaid}

abbrev pub tail_reply : TailSaid → Reply
tail_reply s = reply s.number s.values
