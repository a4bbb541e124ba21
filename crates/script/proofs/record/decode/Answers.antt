-- A record that is long enough is read whole. Assumes nothing.
use Rattle.std.specs.Prelude.{length}
use Rattle.std.proofs.Common.{arith, le-ltb, lt-ltb, refl}
use Rattle.script.specs.Script.{record_length, call_in}
use Rattle.script.proofs.record.decode.Goals as goal

pub returns-then-bytes-lt-LENGTH : goal.returns-then-bytes-lt-LENGTH
unfolding call_in
returns-then-bytes-lt-LENGTH c = rw (lt-ltb (length c.args.bytes.now) record_length (omega arith)) refl

pub returns : goal.returns
unfolding call_in
returns c =
    rw (le-ltb (length c.args.bytes.now) record_length (omega arith)) (simp c.of.ensures at c.call.ensures)
