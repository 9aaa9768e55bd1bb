-- Document 01, "What is lent and kept": when a record is whole. One definition a rule of the list, over plain
-- fields: n entries, a applied, k attempted, p the phase, f forward, b back. Assumes nothing.
use Rattle.std.specs.Prelude.{ℕ, ◌+◌, Bool, not, leb, ltb, eqb}
use Rattle.choice.specs.Pick.{◌and◌, ◌or◌, ◌implies◌}
use Rattle.phases.specs.Phases.{none, remove, settle_removed, mount, settle_mounted, updates, adopt, ready, undo, recover_remove, recover_settle_removed, recover_mount, recover_settle_mounted, recovered, has_successor}
use Rattle.areas.specs.Areas.{area_size}
use Rattle.batch.specs.Batch.{limit}
use Rattle.record.specs.declared.Record.{Record}
use Rattle.tickets.specs.declared.Live.{Live}
use Rattle.record.specs.Fields.{top}
use Rattle.tickets.specs.Live.{work_of, number, no_ticket, structure, update, rollback}

-- "lengths are at most 4,096"
unfoldable pub lengths_fit : ℕ → ℕ → ℕ → Bool
lengths_fit accepted candidate recovery = leb accepted area_size and leb candidate area_size and leb recovery area_size

-- "entries at most 64, applied <= attempted <= applied + 1, attempted <= entries"
unfoldable pub counts_fit : ℕ → ℕ → ℕ → Bool
counts_fit n a k = leb n limit and leb a k and leb k (a + 1) and leb k n

-- "staged: revision below 18446744073709551615. Not staged: phase 0, entries 0, no live ticket"; request 3, of the count of replacements:
-- "a staged record at that maximum is Damaged"
unfoldable pub staged_fits : Bool → ℕ → ℕ → ℕ → ℕ → Live → Bool
staged_fits staged revision replacements p n l =
    (staged implies ltb revision top and ltb replacements top) and (staged or (eqb p none and eqb n 0 and eqb (work_of l) no_ticket))

-- "forward in phases 0 to 7: 0, 0, 1, 2, 3, 4, 4, 5; in 8: 4 or 5; later 0 to 5"
unfoldable pub forward_fits : ℕ → ℕ → Bool
forward_fits p f =
    leb p remove and eqb f 0
    or eqb p settle_removed and eqb f 1
    or eqb p mount and eqb f 2
    or eqb p settle_mounted and eqb f 3
    or eqb p updates and eqb f 4
    or eqb p adopt and eqb f 4
    or eqb p ready and eqb f 5
    or eqb p undo and (eqb f 4 or eqb f 5)
    or leb recover_remove p and leb f 5

-- "back in 9 to 13: 0 to 4 in order, else 0"
unfoldable pub back_fits : ℕ → ℕ → Bool
back_fits p b =
    leb p recover_remove and eqb b 0
    or eqb p recover_settle_removed and eqb b 1
    or eqb p recover_mount and eqb b 2
    or eqb p recover_settle_mounted and eqb b 3
    or eqb p recovered and eqb b 4

-- "restoring: attempted = entries. Phases 1 to 7 are not restoring; 1 to 4: attempted 0; 5: applied < entries or entries = 0;
-- 6, 7: applied = entries. 8 to 13 are restoring; 8: entries > 0; 9 to 13: entries 0"
unfoldable pub restoring_fits : Bool → ℕ → ℕ → ℕ → ℕ → Bool
restoring_fits restoring p n a k =
    (restoring implies eqb k n)
    and (leb remove p and leb p ready implies not restoring)
    and (leb remove p and leb p settle_mounted implies eqb k 0)
    and (eqb p updates implies ltb a n or eqb n 0)
    and (eqb p adopt or eqb p ready implies eqb a n)
    and (leb undo p implies restoring)
    and (eqb p undo implies ltb 0 n)
    and (leb recover_remove p implies eqb n 0)

-- "a live ticket equals the serial, which is then at least 1; structure: the phase has a successor; update: phase 0 or 5, not
-- restoring, attempted = applied + 1; rollback: restoring, entries > 0"
unfoldable pub live_fits : Live → ℕ → Bool → ℕ → ℕ → ℕ → ℕ → Bool
live_fits l serial restoring p n a k =
    eqb (work_of l) no_ticket
    or (eqb (number l) serial
    and leb 1 serial
    and (eqb (work_of l) structure implies has_successor p)
    and (eqb (work_of l) update implies (eqb p none or eqb p updates) and not restoring and eqb k (a + 1))
    and (eqb (work_of l) rollback implies restoring and ltb 0 n))

-- "It is whole when"; "phase at most 13" stands in its place
unfoldable pub whole : Record → Bool
whole r =
    lengths_fit r.accepted r.candidate r.recovery
    and counts_fit r.entries r.applied r.attempted
    and staged_fits r.staged r.revision r.replacements r.phase.number r.entries r.live
    and leb r.phase.number recovered
    and forward_fits r.phase.number r.forward
    and back_fits r.phase.number r.back
    and restoring_fits r.restoring r.phase.number r.entries r.applied r.attempted
    and live_fits r.live r.serial r.restoring r.phase.number r.entries r.applied r.attempted
