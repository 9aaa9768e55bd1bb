-- An answer as a row of numbers: the driver's page, "each writes its answer's number, then its values". Assumes nothing.
use Rattle.std.specs.Prelude.{ℕ, List, [], ◌∷◌}
use Rattle.answers.specs.Answers.{Said}
use Rattle.replies.specs.declared.Reply.{Reply}

abbrev pub row_of : ℕ → ℕ → ℕ → ℕ → ℕ → Reply
row_of number count a b c = record { number = number; count = count; first = a; second = b; third = c }

-- the number and its values, how many these are in all, and zeros after them; no answer has more than three values
abbrev pub reply : ℕ → List ℕ → Reply
reply n [] = row_of n 1 0 0 0
reply n (a ∷ []) = row_of n 2 a 0 0
reply n (a ∷ b ∷ []) = row_of n 3 a b 0
reply n (a ∷ b ∷ c ∷ more) = row_of n 4 a b c

abbrev pub reply_of : Said → Reply
reply_of s = reply s.number s.values
