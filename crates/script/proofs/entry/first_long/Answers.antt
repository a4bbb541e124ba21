-- The fields are joined to one number. Assumes nothing.
use Rattle.script.proofs.entry.Longs.{first_joined}
use Rattle.script.proofs.entry.first_long.Goals as goal

pub returns : goal.returns
returns c = rw (c.from-flag.ensures, c.is_some.ensures, ← c.unwrap_or-byte.ensures) (search first_joined)
