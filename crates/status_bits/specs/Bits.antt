-- Document 01, "Status": the bits of the bytes, what a call asks of them, and what it leaves. Assumes nothing.
use Rattle.std.specs.Prelude.{ℕ, ◌+◌, ◌/◌, ◌%◌, Bool, not, ◌||◌, IsTrue, eqb}
use Rattle.choice.specs.Pick.{pick, ◌and◌}
use Rattle.status_bits.specs.declared.StatusCall.{StatusCall}
use Rattle.status_bits.specs.declared.StatusCall.TheVariants.{Link, Initialize, Cancel}

-- "group bytes (1 live, 2 settled, 4 pending)"
abbrev pub group_live : ℕ
group_live = 1

abbrev pub group_settled : ℕ
group_settled = 2

abbrev pub group_pending : ℕ
group_pending = 4

abbrev pub group_most : ℕ
group_most = group_live + group_settled + group_pending

-- "and status bytes (1 linked, 2 cancelled, 4 initialized, 8 finished)"
abbrev pub mark_linked : ℕ
mark_linked = 1

abbrev pub mark_cancelled : ℕ
mark_cancelled = 2

abbrev pub mark_initialized : ℕ
mark_initialized = 4

abbrev pub mark_finished : ℕ
mark_finished = 8

abbrev pub mark_most : ℕ
mark_most = mark_linked + mark_cancelled + mark_initialized + mark_finished

-- a number that is one of these bits
abbrev pub IsBit : ℕ → Type 0
IsBit bit = IsTrue (eqb bit 1 || eqb bit 2 || eqb bit 4 || eqb bit 8)

-- whether a byte has a bit, and the byte with that bit set alone
unfoldable pub has : ℕ → ℕ → Bool
has bit byte = eqb (byte / bit % 2) 1

unfoldable pub with : ℕ → ℕ → ℕ
with bit byte = pick (has bit byte) byte (byte + bit)

-- whether a call is allowed, by the id's group byte and status byte
abbrev pub allowed : StatusCall → ℕ → ℕ → Bool
-- "Linking: 13 unless a domain is present, live, not linked"
allowed (Link domain) group mark = domain and has group_live group and not (has mark_linked mark)
-- "Initializing: 13 unless linked, live, settled, not pending."
allowed Initialize group mark = has mark_linked mark and has group_live group and has group_settled group and not (has group_pending group)
-- "Cancelling: 13 unless linked."
allowed Cancel group mark = has mark_linked mark

-- the id's status byte after a call that is allowed, by the one before
abbrev pub next : StatusCall → ℕ → ℕ
-- "then the status is 1"
next (Link domain) mark = mark_linked
-- "Both set their bit alone."
next Initialize mark = with mark_initialized mark
next Cancel mark = with mark_cancelled mark
