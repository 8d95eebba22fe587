-- A read that failed has taken nothing.
use Rattle.std.proofs.Common.{sym, List, [], ℕ, Option, None, Some}
use Rattle.std.specs.Io.KnownBytes.{Keeps, Consumes}

pub kept_none : (had left : Option (List ℕ)) → Keeps had left → Consumes had left []
kept_none None left k = tt
kept_none (Some xs) None k = absurd k
kept_none (Some xs) (Some ys) k = sym k
