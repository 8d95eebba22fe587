-- Words of control blocks, of any setting and any memory.
--   word_of   a word of a port's control block
--   seen     what is looked at before an inspection
-- Not here: what is printed, which the programs' stored outputs hold.
-- Assumes nothing.
use Rattle.std.specs.Prelude.{List, ℕ, ◌+◌, get_or}
use Rattle.words.specs.Codes.{at_icw, at_ocw, at_ibp}
use Rattle.unit.specs.declared.mux.Setting.{Setting}
use Rattle.unit.specs.Record.{block_at}
use Rattle.telling.specs.declared.look.Before.{Before}

-- word k of port p's control block, and 0 past the memory's end
abbrev pub word_of : Setting → List ℕ → ℕ → ℕ → ℕ
word_of s m p k = get_or m (block_at s p + k) 0

-- what port p's block holds before an inspection
abbrev pub seen : Setting → List ℕ → ℕ → Before
seen s m p = record { icw = word_of s m p at_icw; ocw = word_of s m p at_ocw; ibp = word_of s m p at_ibp }
