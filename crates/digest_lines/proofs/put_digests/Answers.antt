-- `digest_lines::put_digests` meets its contract: its five lines are put one after the other. Assumes nothing.
use Rattle.text.proofs.Putting.{put_five}
use Rattle.digest_lines.specs.DigestTexts.{digests_text}
use Rattle.digest_lines.proofs.put_digests.Goals as goal

pub returns : goal.returns
unfolding digests_text
returns c =
    put_five _ _ _ _ _ _ c.put_line.ensures c.put_line-2.ensures c.put_line-3.ensures c.put_line-4.ensures c.put_line-5.ensures
