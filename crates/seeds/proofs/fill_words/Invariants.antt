-- `seeds::fill_words` meets its contract: to fill what is left stays what it was at the start. Assumes nothing.
use Rattle.std.proofs.Common.{◌≡◌, ◌^◌}
use Rattle.seeds.specs.Seeds.{words_over}
use Rattle.seeds.proofs.Seeding.{seeded_from}
use Rattle.seeds.proofs.fill_words.Given as goal

abbrev pub invariant-loop-i : goal.invariant-loop-i
invariant-loop-i l =
    seeded_from (2 ^ 64) l.named.count l.named.seed l.i l.words ≡ words_over l.named.count l.named.seed l.initial.words
