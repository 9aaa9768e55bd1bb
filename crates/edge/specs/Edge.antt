-- What callers in C or Rust give a tail call and a replay as numbers, and how they are told what is found, and what ran. Assumes nothing.
use Rattle.std.specs.Prelude.{ℕ, List, ◌∷◌, Result, Ok, Err}
use Rattle.record.specs.Given.{at, opening}
use Rattle.replays.specs.Replaying.{replayed}
use Rattle.tail_answers.specs.declared.TailRefusal.{TailRefusal}
use Rattle.tail_answers.specs.declared.Finding.{Finding}
use Rattle.tail_answers.specs.declared.Finding.TheVariants as F
use Rattle.tail_table.specs.declared.File.{File}
use Rattle.tail_table.specs.declared.Claim.{Claim}

abbrev pub file_at : ℕ → ℕ → File
file_at device inode = record { device = device; inode = inode }

-- the idle record of an opening at a revision and a count of replacements, and a stamp of the domain 0 with its own two numbers
abbrev pub claim_at : ℕ → ℕ → ℕ → ℕ → Claim
claim_at revision replacements stamped counted = record {
  «record» = opening (at revision 0 replacements) 0;
  domain = 0;
  stamp = record { domain = 0; revision = stamped; replacements = counted };
}

-- the offset to read on from, or the largest u64 where there is none
abbrev pub offset_or : Result Finding TailRefusal → ℕ
offset_or (Ok (F.Same offset)) = offset
offset_or (Ok F.Shrunk) = 18446744073709551615
offset_or (Ok F.Unknown) = 18446744073709551615
offset_or (Err why) = 18446744073709551615

-- of a replay from the record of an opening: how many events ran, and the answers as they are left
abbrev pub replayed_at : List ℕ → ℕ → ℕ → ℕ → ℕ → List ℕ → ℕ → List ℕ
replayed_at words revision serial replacements length answers most =
    let left = replayed words 0 (opening (at revision serial replacements) length) answers most in left.ran ∷ left.answers
