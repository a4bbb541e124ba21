-- The smallest of three counts. Assumes nothing.
use Rattle.std.specs.Prelude.{◌≡◌, min}
use Rattle.std.proofs.Common.{arith}
use Rattle.script.specs.Run.{whole, fitting, run}
use Rattle.script.proofs.run.run.Goals as goal

pub returns : goal.returns
unfolding run
returns c =
    let count : c.min-2.result ≡ min c.args.limit (min (whole c.args.script.now) (fitting c.args.log.now)) = omega arith in
    rw (← count) c.run_records.ensures
